-- Calls as bytes: how many words they answer, and when the first of a list cannot be made.
use Rattle.std.specs.Prelude.{◌≡◌, ℕ, ◌+◌, ◌*◌, ◌<◌, Bool, true, false, not, ◌&&◌, ◌==◌, nat_lt, ℤ, List, [], ◌∷◌, length, take, drop, slice_index, cond}
use Rattle.std.specs.Int.{from_le_bytes, cast_signed, w32}
use Rattle.coded.specs.declared.run.Unmade.{Unmade}
use Rattle.coded.specs.declared.run.Unmade.TheVariants.{Unreadable, NoRoom}
use Rattle.coded.specs.declared.call.Call.{Call}
use Rattle.coded.specs.declared.call.Call.TheVariants.{SetUp, Block, Event, Ticks, Reading, Drive}

-- the number that a call begins with
abbrev pub call_number : Call → ℕ
call_number (SetUp speed) = 0
call_number (Block bytes) = 1
call_number (Event code) = 2
call_number (Ticks count) = 3
call_number (Reading size) = 4
call_number Drive = 5

-- the signed number in the four bytes after the first, the lowest first
abbrev pub long_in : List ℕ → ℤ
long_in bytes = cast_signed w32 (from_le_bytes w32 (slice_index bytes 1 ∷ slice_index bytes 2 ∷ slice_index bytes 3 ∷ slice_index bytes 4 ∷ []))

-- What a call says is what the bytes say that begin with it: a speed or a code in four bytes, two bytes for each word of a block, a count of
-- ticks in two bytes, the lowest first, and the words of a reading in one.
abbrev pub Says : Call → List ℕ → Type 0
Says (SetUp speed) bytes = speed ≡ long_in bytes
Says (Block words) bytes = words.now ≡ take (2 * slice_index bytes 1) (drop 2 bytes)
Says (Event code) bytes = code ≡ long_in bytes
Says (Ticks count) bytes = count ≡ slice_index bytes 1 + 256 * slice_index bytes 2
Says (Reading size) bytes = size ≡ slice_index bytes 1
Says Drive bytes = Unit {0}

-- how many words a call answers
abbrev pub answers_of : Call → ℕ
answers_of (SetUp speed) = 1
answers_of (Block bytes) = 1
answers_of (Event code) = 1
answers_of (Ticks count) = count
answers_of (Reading size) = 1 + size
answers_of Drive = 3

-- How many bytes the first call of some bytes takes, by the number that they begin with: a block's count of words is the byte after it.
abbrev pub call_size : List ℕ → ℕ
call_size bytes =
    let kind = slice_index bytes 0 in
    cond (kind == 1) (2 + 2 * slice_index bytes 1) (cond (kind == 3) 3 (cond (kind == 4) 2 (cond (kind == 5) 1 5)))

-- some bytes begin with a whole call
abbrev pub begins_whole : List ℕ → Bool
begins_whole bytes = not (length bytes == 0) && (nat_lt (slice_index bytes 0) 6 && not (nat_lt (length bytes) (call_size bytes)))

-- How many words the first call of some bytes answers, where they begin with a call: a tick as many as its count says, which is two bytes, lowest
-- first; a reading its answer and its buffer; a look at the drive three; any other call one.
abbrev pub first_answers : List ℕ → ℕ
first_answers bytes =
    let kind = slice_index bytes 0 in
    cond (kind == 3) (slice_index bytes 1 + 256 * slice_index bytes 2)
    (cond (kind == 4) (1 + slice_index bytes 1) (cond (kind == 5) 3 (cond (length bytes == 0) 0 1)))

-- Why the first call of a list is not made: its bytes begin with no whole call, or it answers more words than there is room for.
abbrev pub IsStuck : List ℕ → ℕ → Unmade → Type 0
IsStuck bytes room Unreadable = (0 < length bytes) × (begins_whole bytes ≡ false)
IsStuck bytes room NoRoom = (begins_whole bytes ≡ true) × (room < first_answers bytes)
