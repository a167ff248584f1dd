-- Code to which more is appended.
use Rattle.std.specs.Prelude.{Bool, List, [], ◌∷◌, ◌++◌}
use Rattle.ds2_value.specs.declared.ty.Ty.{Ty}
use Rattle.ds2_meaning.specs.declared.expressions.Operation.{Operation}
use Rattle.ds2_meaning.specs.Evaluation.{callee_home}
use Rattle.ds2_meaning.specs.IsTyped.{expression_type}
use Rattle.ds2_meaning.specs.TypedExpression.{TypedExpression, Links, TypedExpressions, TypedArguments}
use Rattle.ds2_meaning.specs.View.{CallTree}
use Rattle.ds2_code.specs.declared.instr.Instr.{Instr}
use Rattle.ds2_gen.specs.ExpressionCode.{CodeNumbers, operation_instr, operand_code, left_operand_code, call_instr, back_code, expression_code, expressions_code, links_code, arguments_code}

-- one more instruction
unfoldable pub with_instruction : Instr → List Instr → List Instr
with_instruction i code = code ++ i ∷ []

-- several more
unfoldable pub with_run : List Instr → List Instr → List Instr
with_run is code = code ++ is

-- the code of an expression
unfoldable pub with_expression : CodeNumbers → TypedExpression → List Instr → List Instr
with_expression numbers e code = code ++ expression_code numbers e

-- the code of expressions in order
unfoldable pub with_expressions : CodeNumbers → TypedExpressions → List Instr → List Instr
with_expressions numbers es code = code ++ expressions_code numbers es

-- the code of further operands of a chain, behind operands of a type
unfoldable pub with_links : CodeNumbers → Ty → Links → List Instr → List Instr
with_links numbers ty links code = code ++ links_code numbers ty links

-- the code of arguments
unfoldable pub with_arguments : CodeNumbers → TypedArguments → List Instr → List Instr
with_arguments numbers arguments code = code ++ arguments_code numbers arguments

-- the code behind a call, which stores what is handed back
unfoldable pub with_back : CodeNumbers → TypedArguments → List Instr → List Instr
with_back numbers arguments code = code ++ back_code numbers arguments

-- the code of a further operand with its operation
abbrev pub with_linked_operand : CodeNumbers → Ty → Bool → Operation → TypedExpression → List Instr → List Instr
with_linked_operand numbers ty widens o e code =
    with_instruction (operation_instr o) (with_run (operand_code o (expression_type e)) (with_expression numbers e (with_run (left_operand_code widens o ty) code)))

-- the code of a call: its arguments, the call, and what is handed back
abbrev pub with_method_call : CodeNumbers → CallTree → List Instr → List Instr
with_method_call numbers call code =
    with_back numbers call.arguments (with_instruction (call_instr (numbers.callee (callee_home numbers.home call.instance) call.method)) (with_arguments numbers call.arguments code))
