-- What a table means: the starting speed in force, its rows, and whether it is ready.
use Rattle.std.specs.Prelude.{ℕ, min, max, Bool, true, false, cond, ◌&&◌, List, [], ◌∷◌, ◌++◌, length, Ok, Err, Result, nat_lt}
use Rattle.table.specs.Segments.{is_segment}
use Rattle.table.specs.declared.fault.TableFault.{TableFault}
use Rattle.table.specs.declared.fault.TableFault.TheVariants as fault
use Rattle.table.specs.declared.segment.Segment.{Segment}
use Rattle.table.specs.declared.table.Table.{Table}

pub record TableMeans : Type 0 where
  pub start : ℕ
  pub rows : List Segment
  pub ready : Bool

abbrev pub table_means : Table → TableMeans
table_means t = record { start = t.start; rows = t.rows.items; ready = t.ready }

-- without rows
abbrev pub emptied : ℕ → TableMeans
emptied S = record { start = S; rows = []; ready = false }

-- the starting speed of a table: 1 to 200,000; less counts as 1, more as 200,000
abbrev pub start_for : ℕ → ℕ
start_for S = max 1 (min S 200000)

-- fewer than sixteen rows
abbrev pub has_room : TableMeans → Bool
has_room t = nat_lt (length t.rows) 16

-- one more row, after the rows already there
abbrev pub added : TableMeans → Segment → TableMeans
added t s = record { start = t.start; rows = t.rows ++ s ∷ []; ready = t.ready }

-- whether a table takes a row: it has room, and the row is a segment for its starting speed
abbrev pub takes : TableMeans → Segment → Bool
takes t s = has_room t && is_segment t.start s

-- what the adding of a row answers: whether there is room is asked first
abbrev pub taken : TableMeans → Segment → Result (Unit {0}) TableFault
taken t s = cond (has_room t) (cond (is_segment t.start s) (Ok tt) (Err fault.Unfit)) (Err fault.Full)

-- a programming ends: fewer than two rows empty the table, and two or more make it ready
abbrev pub closed : TableMeans → TableMeans
closed t = cond (nat_lt (length t.rows) 2) (emptied t.start) (record { start = t.start; rows = t.rows; ready = true })
