-- Journals: what the calls of a run answered, and what was to be seen after each.
use Rattle.std.specs.Prelude.{◌≡◌, ℕ, true, List, [], ◌∷◌, ◌++◌, map, ℤ}
use Rattle.drive.specs.Drives.{DriveMeans}
use Rattle.drive.specs.Positions.{is_position}
use Rattle.profile.specs.Profiles.{ProfileMeans, Sound}
use Rattle.axis.specs.Axes.{AxisMeans, powered_up}
use Rattle.law.specs.Accounts.{first_account}
use Rattle.law.specs.Calls as law
use Rattle.law.specs.Law.{LawfulRun}
use Rattle.law.specs.Moments.{Moment}
use Rattle.law.specs.Runs.{answer_to, axis_after, CallUses, seen_of, Step, Run}
use Rattle.runs.specs.declared.call.Call.{Call}
use Rattle.runs.specs.declared.call.Call.TheVariants as call
use Rattle.runs.specs.declared.call.Answer.{Answer}
use Rattle.runs.specs.declared.call.Answer.TheVariants as answer
use Rattle.runs.specs.declared.entry.Entry.{Entry}

abbrev pub call_means : Call → law.Call
call_means (call.SetUp n) = law.SetUp n
call_means (call.Block ws) = law.Block ws.now
call_means (call.Event n) = law.Event n
call_means call.Tick = law.Tick
call_means (call.Reading ws) = law.Reading ws.now

abbrev pub answer_means : Answer → law.Answer
answer_means (answer.Replied r) = law.Replied r
answer_means (answer.Sent n) = law.Sent n
answer_means (answer.Read r ws) = law.Read r ws.items

-- what an entry tells of its moment: the answer, the status words, the drive, and what has gone and is asked for
pub record Noted : Type 0 where
  pub answer : law.Answer
  pub words : List ℤ
  pub drive : DriveMeans
  pub gone : ℕ
  pub asked : ℕ

abbrev pub entry_means : Entry → Noted
entry_means e = record { answer = answer_means e.answer; words = e.words; drive = record { place = e.place; tripped = e.tripped }; gone = e.gone; asked = e.asked }

abbrev pub noted : Moment → Noted
noted o = record { answer = o.answer; words = o.seen.words; drive = o.seen.drive; gone = o.seen.profile.gone; asked = o.seen.profile.asked }

-- a call of an axis that means m is answered by its contract, and leaves an axis that means m'
pub record Answered (g : ℕ) (m : AxisMeans) (c : law.Call) (r : law.Answer) (m' : AxisMeans) : Type 0 where
  pub answers : r ≡ answer_to g m c m'.profile
  pub after : m' ≡ axis_after g m c m'.profile
  pub uses : CallUses g m c m'.profile

-- an entry of an axis that means m
pub record Shown (m : AxisMeans) (r : law.Answer) (e : Noted) : Type 0 where
  pub shows : e ≡ noted (record { call = law.Tick; answer = r; seen = seen_of m })
  pub placed : is_position m.drive.place ≡ true
  pub sound : Sound m.profile

-- a call that was made: one step of the axis, and one entry after those already there
pub record CallMade (g : ℕ) (m : AxisMeans) (es : List Entry) (c : law.Call) (m' : AxisMeans) (es' : List Entry) : Type 0 where
  pub moment : Moment
  pub call : moment.call ≡ c
  pub step : Step g m moment m'
  pub entry : Entry
  pub adds : es' ≡ es ++ entry ∷ []
  pub notes : entry_means entry ≡ noted moment

-- Calls that were made of an axis from power-up on, with their journal, leaving an axis that means m: they are a run of moments, each of
-- which follows from the one before by its call's contract, the calls and the journal are those of the moments, and the run is lawful.
pub record Ran (g : ℕ) (d : DriveMeans) (p : ProfileMeans) (cs : List Call) (es : List Entry) (m : AxisMeans) : Type 0 where
  pub moments : List Moment
  pub run : Run g (powered_up d p) moments m
  pub calls : map (λ (o : Moment). o.call) moments ≡ map call_means cs
  pub journal : map noted moments ≡ map entry_means es
  pub lawful : LawfulRun g (first_account d p) moments
