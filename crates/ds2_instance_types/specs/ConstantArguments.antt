-- Constants of declarations of instances, one by one.
use Rattle.std.specs.Prelude.{unwrap_or}
use Rattle.ds2_tree.specs.declared.globals.Constant.{Constant}
use Rattle.ds2_meaning.specs.IsTyped.{expression_type}
use Rattle.ds2_meaning.specs.TypedExpression.{TypedExpression, Prefixed}
use Rattle.ds2_elaboration.specs.FunctionTypes.{ElaboratedArgument}
use Rattle.ds2_elaboration.specs.OperatorTypes.{minus_prefix}
use Rattle.ds2_elaboration.specs.ProgramTypes.{elaborated_constant}

-- a value behind `-`
abbrev pub negated_node : TypedExpression → TypedExpression
negated_node node = Prefixed (minus_prefix (expression_type node)) node (expression_type node)

-- a constant, with the place of its first token
abbrev pub constant_argument : Constant → ElaboratedArgument
constant_argument c = record { place = unwrap_or c.minus c.value.place; value = elaborated_constant c }
