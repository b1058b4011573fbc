-- The law of runs, said of the account of a run (Accounts) and of the moment that comes next. A drive goes at most g steps at once.
use Rattle.std.specs.Prelude.{◌≡◌, ℕ, ◌<◌, ◌≤◌, true, false, List, [], ◌∷◌, ℤ, Some, None, Ok, Option, MatchBool, ◌==◌, nat_lt, unsigned_abs}
use Rattle.drive.specs.Drives.{DriveMeans, landing}
use Rattle.profile.specs.Profiles.{fastest, up_div}
use Rattle.block.specs.Frames.{pair_at}
use Rattle.block.specs.Pairs.{decoded}
use Rattle.axis.specs.Readings.{reading_answer, filled}
use Rattle.law.specs.Accounts.{Account, Timing, Rest, Effect, Moves, Holds, Stops, Presets, Ticks, Nothing, effect_of, account_after, is_over}
use Rattle.law.specs.Calls.{Call, SetUp, Block, Event, Tick, Reading, Answer, Sent, Read, steps_in}
use Rattle.law.specs.Journeys.{Leg, Journey, none, on, pausing, held, along, due_in}
use Rattle.law.specs.Moments.{Moment, View, view_of}

-- The profile has exactly the leg's plan, and the position is the leg's beginning plus, in the leg's direction, the whole steps of gone.
abbrev pub OnPlan : ℤ → Leg → View → Type 0
OnPlan x l v = (v.profile.plan ≡ Some l.plan) × (v.position ≡ along x l v.profile.gone)

-- Where the journey is: on a leg, also while it is held, the position keeps up with gone; in a pause the leg before is over, and the
-- position is its end.
abbrev pub Travels : Journey → View → Type 0
Travels none v = Unit {0}
Travels (on x l ls w) v = OnPlan x l v
Travels (pausing u x l ls w) v = (is_over v ≡ true) × (v.position ≡ x)
Travels (held x l) v = OnPlan x l v

-- What the journey says of a tick that comes next: it is on the leg, or it is in the pause, or after the whole pause, neither earlier nor
-- later, it is on the next leg. So a leg of one tick shows its plan too.
abbrev pub TravelsOn : Journey → View → Type 0
TravelsOn none v = Unit {0}
TravelsOn (on x l ls w) v = OnPlan x l v
TravelsOn (pausing u x l ls w) v = MatchBool (nat_lt u w) ((is_over v ≡ true) × (v.position ≡ x)) (OnPlan x l v)
TravelsOn (held x l) v = OnPlan x l v

-- steps that the drive takes; where there are none it is not called
abbrev pub Takes : ℕ → DriveMeans → ℤ → ℤ → Type 0
Takes g d n to = MatchBool (unsigned_abs n == 0) (Unit {0}) (landing g d n ≡ Ok to)

-- A tick answers exactly the steps that are due, and the drive takes them all.
pub record TickLaw (g : ℕ) (a : Account) (r : Answer) (v : View) : Type 0 where
  pub sends : r ≡ Sent (due_in a.journey a.view.profile.gone v.profile.gone)
  pub taken : Takes g a.view.drive (due_in a.journey a.view.profile.gone v.profile.gone) v.drive.place
  pub travels : TravelsOn a.journey v

-- A reading answers the words that are to be seen, and changes nothing.
pub record ReadingLaw (a : Account) (buffer : List ℤ) (r : Answer) (words : List ℤ) (v : View) : Type 0 where
  pub reads : r ≡ Read (reading_answer buffer) (filled words buffer)
  pub keeps : v ≡ a.view

-- what the law says of a tick and of a reading; of the other calls it says nothing here
abbrev pub CallLaw : ℕ → Account → Call → Answer → List ℤ → View → Type 0
CallLaw g a (SetUp n) r ws v = Unit {0}
CallLaw g a (Block b) r ws v = Unit {0}
CallLaw g a (Event n) r ws v = Unit {0}
CallLaw g a Tick r ws v = TickLaw g a r v
CallLaw g a (Reading buffer) r ws v = ReadingLaw a buffer r ws v

-- an accepted move clears Move_Complete, so that its end can be seen
abbrev pub Clears : Effect → View → Type 0
Clears (Moves to r) v = v.complete ≡ false
Clears Holds v = Unit {0}
Clears Stops v = Unit {0}
Clears (Presets p) v = Unit {0}
Clears Ticks v = Unit {0}
Clears Nothing v = Unit {0}

-- a move under way has ticks left
abbrev pub InTime : Option Timing → Type 0
InTime None = Unit {0}
InTime (Some t) = t.passed < t.allowed

-- Nothing moves: there is no journey, or it was held and is at rest.
abbrev pub Still : Journey → View → Type 0
Still none v = Unit {0}
Still (on x l ls w) v = ⊥
Still (pausing u x l ls w) v = ⊥
Still (held x l) v = is_over v ≡ true

-- a leg is travelled, or the pause after one
abbrev pub Travelling : Journey → Type 0
Travelling none = ⊥
Travelling (on x l ls w) = Unit {0}
Travelling (pausing u x l ls w) = Unit {0}
Travelling (held x l) = ⊥

-- Only a hold and a full stop stop a move: a move and a preset are accepted only where nothing moves and no move is under way, a hold only
-- where a leg or a pause is travelled.
abbrev pub Stands : Account → Effect → Type 0
Stands a (Moves to r) = (a.underway ≡ None) × Still a.journey a.view
Stands a Holds = Travelling a.journey
Stands a Stops = Unit {0}
Stands a (Presets p) = (a.underway ≡ None) × Still a.journey a.view
Stands a Ticks = Unit {0}
Stands a Nothing = Unit {0}

-- where Move_Complete comes on, the position is where the move was sent, and nothing of the journey is left
abbrev pub Arrives : Account → Journey → View → Type 0
Arrives a j v = a.view.complete ≡ false → v.complete ≡ true → (v.position ≡ a.target) × Still j v

-- no more ticks have sent steps than may
abbrev pub Settles : Option Rest → Type 0
Settles None = Unit {0}
Settles (Some s) = s.sent ≤ s.allowed

-- The law of one moment, after the account a, whose status words are ws.
pub record Law (g : ℕ) (a : Account) (c : Call) (r : Answer) (ws : List ℤ) (v : View) : Type 0 where
  -- the position and the place of the drive are both the last accepted preset, or before any the drive's first place, plus all steps
  -- that ticks answered since
  pub counts : (v.position ≡ (account_after a c r v).counted) × (v.drive.place ≡ (account_after a c r v).counted)
  -- a call sends at most the plan's top in whole steps, rounded up
  pub slow : unsigned_abs (steps_in r) ≤ up_div (fastest v.profile.plan) 1000
  -- the words of the position are a pair
  pub pair : decoded (pair_at ws 2) ≡ Some v.position
  -- each tick sends exactly the whole steps of gone that were not sent before, and a reading tells what is to be seen
  pub call : CallLaw g a c r ws v
  -- a move travels its legs in order, each with exactly its plan, and each pause has exactly its ticks
  pub travels : Travels (account_after a c r v).journey v
  -- a move that nothing stops ends within its ticks, exactly where it was sent
  pub clears : Clears (effect_of a c r) v
  pub in_time : InTime (account_after a c r v).underway
  pub arrives : Arrives a (account_after a c r v).journey v
  -- only a hold and a full stop stop a move
  pub stands : Stands a (effect_of a c r)
  -- after a hold only so many ticks send steps, and after a full stop none, until the next accepted move
  pub rests : Settles (account_after a c r v).resting

-- each moment of a run keeps the law, after those before it
abbrev pub LawfulRun : ℕ → Account → List Moment → Type 0
LawfulRun g a [] = Unit {0}
LawfulRun g a (m ∷ ms) =
    Law g a m.call m.answer m.seen.words (view_of m.seen)
    × LawfulRun g (account_after a m.call m.answer (view_of m.seen)) ms
