use Rattle.std.proofs.Common.{ap, ◌∙◌}
use Rattle.ds2_meaning.specs.View.{typed_expression}
use Rattle.ds2_meaning.specs.declared.expressions.Expression.{Expression}
use Rattle.ds2_simple_statement_types.proofs.settings.setting.Goals as goal

pub returns : goal.returns
returns c = λ i. record { parameter = c.in_ok-parameter.ensures i; value = ap (λ (e : Expression). typed_expression e) c.into_inner.ensures i }
