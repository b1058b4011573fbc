-- The drive never refuses the advance of a tick: what every call keeps of the axis, over a drive that goes at most g steps at once
-- (Fit), and that no tick of such an axis is refused (Unrefused).
use Rattle.std.specs.Prelude.{◌≡◌, ℕ, ◌-◌, ◌*◌, ◌/◌, ◌<◌, ◌≤◌, Bool, true, false, ◌&&◌, List, [], ◌∷◌, length, drop, ℤ, ◌+ℤ◌, MatchBool, Result, ◌==◌, nat_le}
use Rattle.drive.specs.Directions.{signed}
use Rattle.drive.specs.Drives.{DriveMeans}
use Rattle.drive.specs.Positions.{is_position}
use Rattle.drive.specs.declared.direction.Direction.{Direction}
use Rattle.profile.specs.Profiles.{ProfileMeans, Sound, fastest}
use Rattle.block.specs.declared.event.Event.{Event}
use Rattle.block.specs.declared.frame.Block.{Block}
use Rattle.block.specs.declared.refusal.Refusal.{Refusal}
use Rattle.table.specs.Courses.{stays_on}
use Rattle.table.specs.Segments.{are_segments}
use Rattle.table.specs.TablePlans.{row_plan}
use Rattle.table.specs.Tables.{TableMeans}
use Rattle.table.specs.declared.segment.Segment.{Segment}
use Rattle.axis.specs.Axes.{AxisMeans, powered_up}
use Rattle.axis.specs.Blocks.{block_after, BlockUses}
use Rattle.axis.specs.Carrying.{row_travel}
use Rattle.axis.specs.EventCalls.{event_after}
use Rattle.axis.specs.Setups.{setup_after}
use Rattle.axis.specs.Stops.{row_after}
use Rattle.axis.specs.Ticks.{due, takes_all, is_plan, tick_after, TickUses}
use Rattle.axis.specs.declared.order.DwellRow.{DwellRow}
use Rattle.profile.specs.declared.rates.Rates.{Rates}
use Rattle.axis.specs.declared.state.Kind.{Kind}
use Rattle.axis.specs.declared.state.Kind.TheVariants.{Single, Blend, Dwell}
use Rattle.axis.specs.declared.state.State.{State}
use Rattle.axis.specs.declared.state.State.TheVariants.{Idle, Programming, Running, Pausing, Holding, Held}

-- no row is faster than v
unfoldable pub none_faster : ℕ → List Segment → Bool
none_faster v [] = true
none_faster v (s ∷ ss) = nat_le s.speed v && none_faster v ss

-- a table whose rows the drive can follow; a ready one has at least two of them
pub record TableFits (g : ℕ) (t : TableMeans) : Type 0 where
  pub starts : (1 ≤ t.start) × (t.start ≤ 1000 * g)
  pub each : are_segments t.start t.rows ≡ true
  pub slow : none_faster (1000 * g) t.rows ≡ true
  pub few : length t.rows ≤ 16
  pub enough : t.ready ≡ true → 2 ≤ length t.rows

-- where a plan in motion ends: its whole steps that are still to go, from the place of the drive
abbrev pub end_of : Direction → DriveMeans → ProfileMeans → ℤ
end_of way d p = d.place +ℤ signed way (p.asked / 1000 - p.gone / 1000)

-- a plan in motion that the drive can follow to its end
pub record InMotion (g : ℕ) (way : Direction) (d : DriveMeans) (p : ProfileMeans) : Type 0 where
  pub untripped : d.tripped ≡ false
  pub slow : fastest p.plan ≤ 1000 * g
  pub ends : is_position (end_of way d p) ≡ true

-- rates that a plan takes
pub record RatesFit (r : Rates) : Type 0 where
  pub gains : (1 ≤ r.accel) × (r.accel ≤ 5000)
  pub slows : (1 ≤ r.decel) × (r.decel ≤ 5000)

-- the rows of a dwell move from this row on, each to a position, where the first of them sets out from a place
pub record RowsFit (t : TableMeans) (row : DwellRow) (from : ℤ) : Type 0 where
  pub rates : RatesFit row.run.rates
  pub stays : stays_on from (drop row.index t.rows) ≡ true

-- what a dwell move has yet to do after its row, which ends at a place; any other move is then over
abbrev pub Afterwards : TableMeans → ℤ → Kind → Type 0
Afterwards t end (Single target) = Unit {0}
Afterwards t end Blend = Unit {0}
Afterwards t end (Dwell row) = RowsFit t (row_after row) end

-- between two rows: the next is a row of the table
pub record InPause (d : DriveMeans) (t : TableMeans) (next : DwellRow) : Type 0 where
  pub untripped : d.tripped ≡ false
  pub within : next.index < length t.rows
  pub later : RowsFit t next d.place

-- by the state: what moves, or will, stays within the drive's reach
abbrev pub Underway : ℕ → State → DriveMeans → ProfileMeans → TableMeans → Type 0
Underway g Idle d p t = Unit {0}
Underway g Programming d p t = Unit {0}
Underway g (Running travel) d p t = InMotion g travel.direction d p × Afterwards t (end_of travel.direction d p) travel.kind
Underway g (Pausing next ticks) d p t = InPause d t next
Underway g (Holding travel) d p t = InMotion g travel.direction d p
Underway g (Held target) d p t = Unit {0}

-- what every call keeps
pub record Fit (g : ℕ) (m : AxisMeans) : Type 0 where
  pub table : TableFits g m.memory.table
  pub underway : Underway g m.memory.state m.drive m.profile m.memory.table

-- No advance is refused in a tick of m after which the profile means p: the drive takes the steps due, and a row of a dwell move
-- whose pause is over is a plan.
abbrev pub UnrefusedIn : ℕ → State → AxisMeans → ProfileMeans → Type 0
UnrefusedIn g Idle m p = Unit {0}
UnrefusedIn g Programming m p = Unit {0}
UnrefusedIn g (Running travel) m p = takes_all g m.drive (due travel.direction m.profile.gone p) ≡ true
UnrefusedIn g (Pausing next ticks) m p =
    MatchBool (ticks == 0)
    ((is_plan (row_plan m.memory.table next.run.rates next.index) ≡ true) × (takes_all g m.drive (due (row_travel m.memory.table next).direction 0 p) ≡ true))
    (Unit {0})
UnrefusedIn g (Holding travel) m p = takes_all g m.drive (due travel.direction m.profile.gone p) ≡ true
UnrefusedIn g (Held target) m p = Unit {0}

abbrev pub Unrefused : ℕ → AxisMeans → ProfileMeans → Type 0
Unrefused g m p = UnrefusedIn g m.memory.state m p

-- Over a drive that goes at most g steps at once: an axis is fit from power-up on, every call keeps it so, and no tick of a fit axis
-- is refused. The drive stands at a position and the profile is sound after its tick, as every drive and every profile is.
pub record TakesAll (g : ℕ) : Type 0 where
  pub begins : (d : DriveMeans) (p : ProfileMeans) → Fit g (powered_up d p)
  pub set_up : (m : AxisMeans) (n : ℤ) → Fit g m → Fit g (setup_after g m n)
  pub event : (m : AxisMeans) (e : Result Event Refusal) → Fit g m → Fit g (event_after m e)
  pub block :
      (m : AxisMeans) (b : Result Block Refusal) (p : ProfileMeans) → is_position m.drive.place ≡ true → Fit g m → BlockUses g m b p
      → Fit g (block_after g m b p)
  pub tick :
      (m : AxisMeans) (p : ProfileMeans) → is_position m.drive.place ≡ true → Fit g m → Sound p → TickUses m.memory.state m p
      → Unrefused g m p × Fit g (tick_after g m.memory.state m p)

-- over any drive that goes 1 to 200 steps at once
abbrev pub DriveTakesAll : Type 0
DriveTakesAll = (g : ℕ) → 1 ≤ g → g ≤ 200 → TakesAll g
