use Rattle.std.proofs.Common.{ap, sym, ◌∙◌}
use Rattle.std.specs.Prelude.{is_some}
use Rattle.ds2_reference_types.proofs.passing.in_out_argument.Goals as goal

pub returns-in-None : goal.returns-in-None
returns-in-None c = λ e p h v. c.unlent.ensures e p h (ap is_some (sym v ∙ c.in-None.is))

pub returns-in-Some : goal.returns-in-Some
returns-in-Some c = λ e p h v. c.lent.ensures e p h (sym v ∙ c.in-Some.is)
