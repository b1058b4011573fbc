-- Runs: moments that the contracts of the calls make of an axis, one after the other.
use Rattle.std.specs.Prelude.{◌≡◌, ℕ, ◌≤◌, true, List, [], ◌∷◌}
use Rattle.drive.specs.Drives.{DriveMeans}
use Rattle.drive.specs.Positions.{is_position}
use Rattle.profile.specs.Profiles.{ProfileMeans, Sound}
use Rattle.block.specs.Events.{event_of}
use Rattle.block.specs.Frames.{block_of}
use Rattle.axis.specs.Axes.{AxisMeans, powered_up}
use Rattle.axis.specs.Blocks.{block_answer, block_after, BlockUses}
use Rattle.axis.specs.EventCalls.{event_answer, event_after}
use Rattle.axis.specs.Readings.{status_words, reading_answer, filled}
use Rattle.axis.specs.Setups.{setup_answer, setup_after}
use Rattle.axis.specs.Ticks.{tick_steps, tick_after, TickUses}
use Rattle.law.specs.Accounts.{first_account}
use Rattle.law.specs.Calls.{Call, SetUp, Block, Event, Tick, Reading, Answer, Replied, Sent, Read}
use Rattle.law.specs.Law.{LawfulRun}
use Rattle.law.specs.Moments.{Seen, Moment}

-- what a call answers of an axis that means m, by its contract; p is what the profile means after it
abbrev pub answer_to : ℕ → AxisMeans → Call → ProfileMeans → Answer
answer_to g m (SetUp n) p = Replied (setup_answer g m n)
answer_to g m (Block ws) p = Replied (block_answer g m (block_of ws))
answer_to g m (Event n) p = Replied (event_answer (event_of n))
answer_to g m Tick p = Sent (tick_steps g m.memory.state m p)
answer_to g m (Reading ws) p = Read (reading_answer ws) (filled (status_words m) ws)

-- what it makes of the axis
abbrev pub axis_after : ℕ → AxisMeans → Call → ProfileMeans → AxisMeans
axis_after g m (SetUp n) p = setup_after g m n
axis_after g m (Block ws) p = block_after g m (block_of ws) p
axis_after g m (Event n) p = event_after m (event_of n)
axis_after g m Tick p = tick_after g m.memory.state m p
axis_after g m (Reading ws) p = m

-- and of its profile
abbrev pub CallUses : ℕ → AxisMeans → Call → ProfileMeans → Type 0
CallUses g m (SetUp n) p = p ≡ m.profile
CallUses g m (Block ws) p = BlockUses g m (block_of ws) p
CallUses g m (Event n) p = p ≡ m.profile
CallUses g m Tick p = TickUses m.memory.state m p
CallUses g m (Reading ws) p = p ≡ m.profile

-- what is to be seen of an axis
abbrev pub seen_of : AxisMeans → Seen
seen_of m = record { words = status_words m; drive = m.drive; profile = m.profile }

-- one call of an axis that means m, and what the axis means after it; its drive stands at a position and its profile is sound, as every
-- drive and every profile does
pub record Step (g : ℕ) (m : AxisMeans) (o : Moment) (m' : AxisMeans) : Type 0 where
  pub answers : o.answer ≡ answer_to g m o.call m'.profile
  pub after : m' ≡ axis_after g m o.call m'.profile
  pub uses : CallUses g m o.call m'.profile
  pub shows : o.seen ≡ seen_of m'
  pub placed : is_position m'.drive.place ≡ true
  pub sound : Sound m'.profile

-- calls one after the other, each of the axis that the one before it left
pub data Run (g : ℕ) : AxisMeans → List Moment → AxisMeans → Type 0 where
  none : {m : AxisMeans} → Run g m [] m
  more : {m m₁ m₂ : AxisMeans} {o : Moment} {os : List Moment} → Step g m o m₁ → Run g m₁ os m₂ → Run g m (o ∷ os) m₂

-- Over a drive that goes 1 to 200 steps at once and stands at a position, and over any profile: whatever calls are made of an axis at
-- power-up, in whatever order, and whether they are accepted or refused, keep the law.
abbrev pub RunsAreLawful : Type 0
RunsAreLawful =
    (g : ℕ) → 1 ≤ g → g ≤ 200 → (d : DriveMeans) (p : ProfileMeans) (os : List Moment) (m : AxisMeans) → is_position d.place ≡ true
    → Run g (powered_up d p) os m → LawfulRun g (first_account d p) os
