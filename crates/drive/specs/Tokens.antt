-- Steps due.
use Rattle.std.specs.Prelude.{ℤ}
use Rattle.drive.specs.Directions.{signed}
use Rattle.drive.specs.declared.token.StepToken.{StepToken}

-- the steps that a token holds, with their sign
abbrev pub due_of : StepToken → ℤ
due_of t = signed t.direction t.steps
