-- The number of each refusal, and of each answer.
use Rattle.std.specs.Prelude.{ℕ, Ok, Err, Result}
use Rattle.block.specs.declared.refusal.Refusal.{Refusal}
use Rattle.block.specs.declared.refusal.Refusal.TheVariants as refusal

-- the number of a refusal
abbrev pub number_of : Refusal → ℕ
number_of refusal.WordCount = 1
number_of refusal.ReservedBits = 2
number_of refusal.SeveralCommands = 3
number_of refusal.State = 4
number_of refusal.Pair = 5
number_of refusal.Range = 6
number_of refusal.Inhibited = 7
number_of refusal.PositionInvalid = 8
number_of refusal.Course = 9
number_of refusal.Limit = 10
number_of refusal.EventCode = 11
number_of refusal.ShortBuffer = 12
number_of refusal.StartSpeed = 13

-- what a call answers: 0 where it is accepted
abbrev pub answer_of : Result (Unit {0}) Refusal → ℕ
answer_of (Ok done) = 0
answer_of (Err why) = number_of why
