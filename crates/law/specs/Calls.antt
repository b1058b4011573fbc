-- The five calls as values, and what they answer.
use Rattle.std.specs.Prelude.{Bool, false, List, ℤ, pos, is_ok, Result}
use Rattle.block.specs.declared.refusal.Refusal.{Refusal}

-- a call, with what it is given
pub data Call : Type 0 where
  -- with the starting speed
  SetUp : ℤ → Call
  -- with the words of a block
  Block : List ℤ → Call
  -- with the code of an event
  Event : ℤ → Call
  Tick : Call
  -- with the words of the buffer before it
  Reading : List ℤ → Call

-- what a call answers, by its kind
pub data Answer : Type 0 where
  -- of a set-up, a block or an event
  Replied : Result (Unit {0}) Refusal → Answer
  -- of a tick: the steps
  Sent : ℤ → Answer
  -- of a reading, and the words of the buffer after it
  Read : Result (Unit {0}) Refusal → List ℤ → Answer

-- answered by 0, and not by steps
abbrev pub accepted : Answer → Bool
accepted (Replied r) = is_ok r
accepted (Sent n) = false
accepted (Read r ws) = is_ok r

-- the steps that a call answered
abbrev pub steps_in : Answer → ℤ
steps_in (Replied r) = pos 0
steps_in (Sent n) = n
steps_in (Read r ws) = pos 0
