-- There is a type for each value that code keeps.
use Rattle.std.proofs.Common.{◌≡◌, ◌+◌, length, Option, Some, None, refl, arith, length-append}
use Rattle.ds2_meaning.specs.TypedExpression.{TypedExpression}
use Rattle.ds2_meaning.specs.TypedStatement.{TypedStatement, Empty, Assign, Invoke, Evaluate, SetParameters, Construct, Leave, Continue, Return, ReturnValue, Output, Put, If, IfElse, Select, SelectValue, Block, Count, While, Until, TypedStatements, Finish, Next, TypedWhens, NoOtherwise, Otherwise, When}
use Rattle.ds2_gen.specs.StatementCode.{step_keeps, values_kept, statements_keep, whens_keep}
use Rattle.ds2_program_code.specs.KeptTypes.{types_of_count, types_kept, all_types_kept, whens_types_kept, EachValueHasType}

of_count : (step : Option TypedExpression) → length (types_of_count step) ≡ step_keeps step + 1
of_count None = refl
of_count (Some e) = refl

mutual
  of_statement : (t : TypedStatement) → length (types_kept t) ≡ values_kept t
  of_statement (Empty place) = refl
  of_statement (Assign place r e) = refl
  of_statement (Invoke place instance method arguments) = refl
  of_statement (Evaluate place e) = refl
  of_statement (SetParameters place instance values) = refl
  of_statement (Construct place instance constructor arguments) = refl
  of_statement (Leave place) = refl
  of_statement (Continue place) = refl
  of_statement (Return place) = refl
  of_statement (ReturnValue place e) = refl
  of_statement (Output place outputs) = refl
  of_statement (Put place items) = refl
  of_statement (If place e on) = of_statement on
  of_statement (IfElse place e on off) = omega (arith, length-append (types_kept on) (types_kept off), of_statement on, of_statement off)
  of_statement (Select place whens) = of_whens whens
  of_statement (SelectValue place e whens) = omega (arith, of_whens whens)
  of_statement (Block place body) = of_statements body
  of_statement (Count place r start end step body) = omega (arith, length-append (types_of_count step) (all_types_kept body), of_count step, of_statements body)
  of_statement (While place e body) = of_statements body
  of_statement (Until place e body) = of_statements body

  of_statements : (ts : TypedStatements) → length (all_types_kept ts) ≡ statements_keep ts
  of_statements Finish = refl
  of_statements (Next t rest) = omega (arith, length-append (types_kept t) (all_types_kept rest), of_statement t, of_statements rest)

  of_whens : (whens : TypedWhens) → length (whens_types_kept whens) ≡ whens_keep whens
  of_whens NoOtherwise = refl
  of_whens (Otherwise t) = of_statement t
  of_whens (When tests t rest) = omega (arith, length-append (types_kept t) (whens_types_kept rest), of_statement t, of_whens rest)

pub each_value_has_type : EachValueHasType
each_value_has_type body = of_statements body
