-- A block, from its words to what it makes of the axis.
use Rattle.std.specs.Prelude.{◌≡◌, ℕ, ◌^◌, Bool, true, false, cond, ◌&&◌, Ok, Err, Result}
use Rattle.block.specs.Commands.{bit_of, commanded}
use Rattle.block.specs.Words.{rising, falls}
use Rattle.block.specs.declared.command.Command.TheVariants as command
use Rattle.block.specs.declared.frame.Block.{Block}
use Rattle.block.specs.declared.refusal.Refusal.{Refusal}
use Rattle.block.specs.declared.refusal.Refusal.TheVariants as refusal
use Rattle.profile.specs.Profiles.{ProfileMeans}
use Rattle.table.specs.Tables.{closed}
use Rattle.axis.specs.Axes.{AxisMeans, with_memory}
use Rattle.axis.specs.Carrying.{carried, Uses}
use Rattle.axis.specs.Questions.{programs, order_by}
use Rattle.axis.specs.Memories.{MemoryMeans, with_table, with_state, with_kept, with_flags, with_command, with_input}
use Rattle.axis.specs.declared.order.Order.{Order}
use Rattle.axis.specs.declared.state.State.TheVariants.{Idle}

-- a fall of the Program bit in Programming ends it
abbrev pub closes : MemoryMeans → ℕ → Bool
closes k bits = programs k.state && falls (2 ^ bit_of command.Program) k.kept bits

-- word 0 is kept, and the programming closed where its bit falls
abbrev pub kept_by : MemoryMeans → ℕ → MemoryMeans
kept_by k bits = with_kept (cond (closes k bits) (with_state (with_table k (closed k.table)) Idle) k) bits

-- the refusal with 10
abbrev pub is_limit : Refusal → Bool
is_limit refusal.WordCount = false
is_limit refusal.ReservedBits = false
is_limit refusal.SeveralCommands = false
is_limit refusal.State = false
is_limit refusal.Pair = false
is_limit refusal.Range = false
is_limit refusal.Inhibited = false
is_limit refusal.PositionInvalid = false
is_limit refusal.Course = false
is_limit refusal.Limit = true
is_limit refusal.EventCode = false
is_limit refusal.ShortBuffer = false
is_limit refusal.StartSpeed = false

-- a refused command sets Command_Error, and one refused with 10 Input_Error too
abbrev pub marked : MemoryMeans → Refusal → MemoryMeans
marked k why = with_flags k (cond (is_limit why) (with_input (with_command k.flags true) true) (with_command k.flags true))

-- what the axis answers to an order, or to a refusal
abbrev pub answered : Result Order Refusal → Result (Unit {0}) Refusal
answered (Ok o) = Ok tt
answered (Err why) = Err why

-- what becomes of the axis: the order is carried out, or the refusal noted
abbrev pub finished : AxisMeans → Result Order Refusal → ProfileMeans → AxisMeans
finished m (Ok o) p = carried m o p
finished m (Err why) p = with_memory m (marked m.memory why)

-- and of its profile, which a refusal does not touch
abbrev pub UsesBy : AxisMeans → Result Order Refusal → ProfileMeans → Type 0
UsesBy m (Ok o) p = Uses m o p
UsesBy m (Err why) p = p ≡ m.profile

-- what an order calls; a refusal calls nothing
abbrev pub calls : (Order → Bool) → Result Order Refusal → Bool
calls f (Ok o) = f o
calls f (Err why) = false

-- the axis once the word of a block is kept
abbrev pub kept_axis : AxisMeans → Block → AxisMeans
kept_axis m b = with_memory m (kept_by m.memory b.bits)

-- What a block orders, or why it is refused: its word is kept, and then it is asked from the third question on.
abbrev pub block_order : ℕ → AxisMeans → Block → Result Order Refusal
block_order g m b = order_by g (kept_axis m b) b (commanded (rising m.memory.kept b.bits))

-- what a block answers; g is the drive's reach, and words that cannot be read, which the first two questions are about, are refused with 1 or 2
abbrev pub block_answer : ℕ → AxisMeans → Result Block Refusal → Result (Unit {0}) Refusal
block_answer g m (Ok b) = answered (block_order g m b)
block_answer g m (Err why) = Err why

-- What it makes of the axis, where the profile then means p. Words that cannot be read change nothing at all; of any other block the word
-- is kept, and its order carried out or its refusal noted.
abbrev pub block_after : ℕ → AxisMeans → Result Block Refusal → ProfileMeans → AxisMeans
block_after g m (Ok b) p = finished (kept_axis m b) (block_order g m b) p
block_after g m (Err why) p = m

-- what it makes of the profile
abbrev pub BlockUses : ℕ → AxisMeans → Result Block Refusal → ProfileMeans → Type 0
BlockUses g m (Ok b) p = UsesBy (kept_axis m b) (block_order g m b) p
BlockUses g m (Err why) p = p ≡ m.profile

-- whether it calls the drive, or the profile, by what an order calls
abbrev pub block_calls : (Order → Bool) → ℕ → AxisMeans → Result Block Refusal → Bool
block_calls f g m (Ok b) = calls f (block_order g m b)
block_calls f g m (Err why) = false
