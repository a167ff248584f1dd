-- Values with one more operand behind them, as the code holds them.
use Rattle.std.specs.Prelude.{List, Some, Result, Ok, Err}
use Rattle.ds2_base.specs.declared.place.Refusal.{Refusal}
use Rattle.ds2_meaning.specs.declared.expressions.Expression.{Expression}
use Rattle.ds2_meaning.specs.declared.refusals.TypeKind.{TypeKind}
use Rattle.ds2_names.specs.Refusals.{type_rank, first_of_both}
use Rattle.ds2_expression_types.specs.declared.arguments.FurtherValue.{FurtherValue}
use Rattle.ds2_types.specs.declared.judgement.Node.{Node}

-- what stands of values and of one more operand
abbrev pub values_and : Result (List Expression) (Refusal TypeKind) → Result Node (Refusal TypeKind) → Result FurtherValue (Refusal TypeKind)
values_and (Ok values) (Ok operand) = Ok (record { values = values; operand = operand })
values_and (Ok values) (Err r) = Err r
values_and (Err r) (Ok operand) = Err r
values_and (Err r) (Err q) = Err (first_of_both type_rank r (Some q))
