use Rattle.std.proofs.Common.{w32, SFits, rules, ◌∙◌}
use Rattle.std.proofs.lemmas.Int.{to_z-of_z}
use Rattle.drive.proofs.Deliveries.{delivered}
use Rattle.drive.proofs.token.StepToken.deliver.Goals as goal

pub returns : goal.returns
returns g c =
    let f : SFits w32 c.signed.result = search rules in
    delivered _ _ _ c.args.self.direction c.args.self.steps _ _ _ g.met.D.Drive.bounded.1 (rw (to_z-of_z w32 c.signed.result f ∙ c.signed.ensures) at c.bring.ensures)
