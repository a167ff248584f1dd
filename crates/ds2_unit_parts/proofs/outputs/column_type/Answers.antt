use Rattle.std.proofs.Common.{sym, ap, ◌∙◌}
use Rattle.ds2_elaboration.specs.ProgramTypes.{type_or_bigint}
use Rattle.ds2_unit_parts.proofs.outputs.column_type.Goals as goal

pub returns-in-None : goal.returns-in-None
returns-in-None c = λ variables h o. ap type_or_bigint (sym c.in-None.is ∙ c.declared_type.ensures variables h)

pub returns-in-Some : goal.returns-in-Some
returns-in-Some c = λ variables h o. ap type_or_bigint (sym c.in-Some.is ∙ c.declared_type.ensures variables h)
