-- What the nodes of statements are to their meaning.
use Rattle.std.proofs.Common.{◌≡◌, ℕ, List, map, Option, Some, None, Box, Global, sym, ap, ◌∙◌}
use Rattle.std.specs.Option.{option_map}
use Rattle.ds2_base.specs.declared.place.Place.{Place}
use Rattle.ds2_meaning.specs.declared.expressions.Call as code_call
use Rattle.ds2_meaning.specs.declared.expressions.Expression as code_expression
use Rattle.ds2_meaning.specs.declared.location.Reference.{Reference}
use Rattle.ds2_meaning.specs.declared.statements.Arm as code_arm
use Rattle.ds2_meaning.specs.declared.statements.ParameterSetting.{ParameterSetting}
use Rattle.ds2_meaning.specs.declared.statements.PutItem.{PutItem}
use Rattle.ds2_meaning.specs.declared.statements.Statement as code_statement
use Rattle.ds2_meaning.specs.declared.statements.Statement.TheFolds.{fold-roll-Statement, fold_out-Arm, fold_out-When}
use Rattle.ds2_meaning.specs.declared.statements.Statement.TheOpen as node
use Rattle.ds2_meaning.specs.declared.statements.Statement.TheVariants as statement
use Rattle.ds2_meaning.specs.declared.statements.When as code_when
use Rattle.ds2_meaning.specs.declared.expressions.Argument.TheFolds.{fold_out-Call}
use Rattle.ds2_meaning.specs.TypedExpression as expression_tree
use Rattle.ds2_meaning.specs.TypedStatement as tree
use Rattle.ds2_meaning.specs.View.{Part, Chained, CallTree, argument_part, expression_part, call_part, link_part, argument_tree, in_a_row, all_expressions, all_statements, if_tree, otherwise_part, statement_part, arm_part, when_part, typed_expression, call_tree, item_tree, parameter_tree, typed_statement}
use Rattle.ds2_statement_emitter.specs.Arms.{arm_tree, when_tree, last_tree}

pub empty_is : (s : code_statement.Statement) (p : Place) → s ≡ statement.Empty p → typed_statement s ≡ tree.Empty p
empty_is s p is = ap typed_statement is ∙ ap typed_statement (sym (statement.rolls-Empty p)) ∙ fold-roll-Statement tree.TypedStatement Chained (Part tree.TypedWhens) statement_part arm_part when_part (node.Empty p)

pub assign_is : (s : code_statement.Statement) (p : Place) (r : Reference) (e : code_expression.Expression) → s ≡ statement.Assign p r e → typed_statement s ≡ tree.Assign p r (typed_expression e)
assign_is s p r e is = ap typed_statement is ∙ ap typed_statement (sym (statement.rolls-Assign p r e)) ∙ fold-roll-Statement tree.TypedStatement Chained (Part tree.TypedWhens) statement_part arm_part when_part (node.Assign p r e)

pub invoke_is : (s : code_statement.Statement) (p : Place) (call : code_call.Call) → s ≡ statement.Invoke p call → typed_statement s ≡ tree.Invoke p (call_tree call).instance (call_tree call).method (call_tree call).arguments
invoke_is s p call is = ap typed_statement is ∙ ap typed_statement (sym (statement.rolls-Invoke p call)) ∙ fold-roll-Statement tree.TypedStatement Chained (Part tree.TypedWhens) statement_part arm_part when_part (node.Invoke p call)

pub evaluate_is : (s : code_statement.Statement) (p : Place) (e : code_expression.Expression) → s ≡ statement.Evaluate p e → typed_statement s ≡ tree.Evaluate p (typed_expression e)
evaluate_is s p e is = ap typed_statement is ∙ ap typed_statement (sym (statement.rolls-Evaluate p e)) ∙ fold-roll-Statement tree.TypedStatement Chained (Part tree.TypedWhens) statement_part arm_part when_part (node.Evaluate p e)

pub parameters_is : (s : code_statement.Statement) (p : Place) (instance : List ℕ) (values : List ParameterSetting) → s ≡ statement.SetParameters p instance values → typed_statement s ≡ tree.SetParameters p instance (map parameter_tree values)
parameters_is s p instance values is = ap typed_statement is ∙ ap typed_statement (sym (statement.rolls-SetParameters p instance values)) ∙ fold-roll-Statement tree.TypedStatement Chained (Part tree.TypedWhens) statement_part arm_part when_part (node.SetParameters p instance values)

pub leave_is : (s : code_statement.Statement) (p : Place) → s ≡ statement.Leave p → typed_statement s ≡ tree.Leave p
leave_is s p is = ap typed_statement is ∙ ap typed_statement (sym (statement.rolls-Leave p)) ∙ fold-roll-Statement tree.TypedStatement Chained (Part tree.TypedWhens) statement_part arm_part when_part (node.Leave p)

pub continue_is : (s : code_statement.Statement) (p : Place) → s ≡ statement.Continue p → typed_statement s ≡ tree.Continue p
continue_is s p is = ap typed_statement is ∙ ap typed_statement (sym (statement.rolls-Continue p)) ∙ fold-roll-Statement tree.TypedStatement Chained (Part tree.TypedWhens) statement_part arm_part when_part (node.Continue p)

pub return_is : (s : code_statement.Statement) (p : Place) → s ≡ statement.Return p → typed_statement s ≡ tree.Return p
return_is s p is = ap typed_statement is ∙ ap typed_statement (sym (statement.rolls-Return p)) ∙ fold-roll-Statement tree.TypedStatement Chained (Part tree.TypedWhens) statement_part arm_part when_part (node.Return p)

pub return_value_is : (s : code_statement.Statement) (p : Place) (e : code_expression.Expression) → s ≡ statement.ReturnValue p e → typed_statement s ≡ tree.ReturnValue p (typed_expression e)
return_value_is s p e is = ap typed_statement is ∙ ap typed_statement (sym (statement.rolls-ReturnValue p e)) ∙ fold-roll-Statement tree.TypedStatement Chained (Part tree.TypedWhens) statement_part arm_part when_part (node.ReturnValue p e)

pub output_is : (s : code_statement.Statement) (p : Place) (outputs : List ℕ) → s ≡ statement.Output p outputs → typed_statement s ≡ tree.Output p outputs
output_is s p outputs is = ap typed_statement is ∙ ap typed_statement (sym (statement.rolls-Output p outputs)) ∙ fold-roll-Statement tree.TypedStatement Chained (Part tree.TypedWhens) statement_part arm_part when_part (node.Output p outputs)

pub put_is : (s : code_statement.Statement) (p : Place) (items : List PutItem) → s ≡ statement.Put p items → typed_statement s ≡ tree.Put p (map item_tree items)
put_is s p items is = ap typed_statement is ∙ ap typed_statement (sym (statement.rolls-Put p items)) ∙ fold-roll-Statement tree.TypedStatement Chained (Part tree.TypedWhens) statement_part arm_part when_part (node.Put p items)

pub block_is : (s : code_statement.Statement) (p : Place) (body : List code_statement.Statement) → s ≡ statement.Block p body → typed_statement s ≡ tree.Block p (all_statements (map typed_statement body))
block_is s p body is = ap typed_statement is ∙ ap typed_statement (sym (statement.rolls-Block p body)) ∙ fold-roll-Statement tree.TypedStatement Chained (Part tree.TypedWhens) statement_part arm_part when_part (node.Block p body)

pub count_is : (s : code_statement.Statement) (p : Place) (r : Reference) (a : code_expression.Expression) (b : code_expression.Expression) (step : Option code_expression.Expression) (body : List code_statement.Statement) → s ≡ statement.Count p r a b step body → typed_statement s ≡ tree.Count p r (typed_expression a) (typed_expression b) (option_map typed_expression step) (all_statements (map typed_statement body))
count_is s p r a b step body is = ap typed_statement is ∙ ap typed_statement (sym (statement.rolls-Count p r a b step body)) ∙ fold-roll-Statement tree.TypedStatement Chained (Part tree.TypedWhens) statement_part arm_part when_part (node.Count p r a b step body)

pub while_is : (s : code_statement.Statement) (p : Place) (e : code_expression.Expression) (body : List code_statement.Statement) → s ≡ statement.While p e body → typed_statement s ≡ tree.While p (typed_expression e) (all_statements (map typed_statement body))
while_is s p e body is = ap typed_statement is ∙ ap typed_statement (sym (statement.rolls-While p e body)) ∙ fold-roll-Statement tree.TypedStatement Chained (Part tree.TypedWhens) statement_part arm_part when_part (node.While p e body)

pub until_is : (s : code_statement.Statement) (p : Place) (e : code_expression.Expression) (body : List code_statement.Statement) → s ≡ statement.Until p e body → typed_statement s ≡ tree.Until p (typed_expression e) (all_statements (map typed_statement body))
until_is s p e body is = ap typed_statement is ∙ ap typed_statement (sym (statement.rolls-Until p e body)) ∙ fold-roll-Statement tree.TypedStatement Chained (Part tree.TypedWhens) statement_part arm_part when_part (node.Until p e body)

if_rolled : (p : Place) (e : code_expression.Expression) (on : Box code_statement.Statement Global) (others : List code_arm.Arm) (o : Option (Box code_statement.Statement Global)) → typed_statement (statement.If p e on others o) ≡ if_tree p (typed_expression e) (typed_statement on.value) (in_a_row (map arm_tree others) (last_tree o))
if_rolled p e on others None = ap typed_statement (sym (statement.rolls-If p e on others None)) ∙ fold-roll-Statement tree.TypedStatement Chained (Part tree.TypedWhens) statement_part arm_part when_part (node.If p e on others None)
if_rolled p e on others (Some b) = ap typed_statement (sym (statement.rolls-If p e on others (Some b))) ∙ fold-roll-Statement tree.TypedStatement Chained (Part tree.TypedWhens) statement_part arm_part when_part (node.If p e on others (Some b))

pub if_is : (s : code_statement.Statement) (p : Place) (e : code_expression.Expression) (on : Box code_statement.Statement Global) (others : List code_arm.Arm) (o : Option (Box code_statement.Statement Global)) → s ≡ statement.If p e on others o → typed_statement s ≡ if_tree p (typed_expression e) (typed_statement on.value) (in_a_row (map arm_tree others) (last_tree o))
if_is s p e on others o is = ap typed_statement is ∙ if_rolled p e on others o

select_rolled : (p : Place) (whens : List code_when.When) (o : Option (Box code_statement.Statement Global)) → typed_statement (statement.Select p whens o) ≡ tree.Select p (in_a_row (map when_tree whens) (otherwise_part (last_tree o)))
select_rolled p whens None = ap typed_statement (sym (statement.rolls-Select p whens None)) ∙ fold-roll-Statement tree.TypedStatement Chained (Part tree.TypedWhens) statement_part arm_part when_part (node.Select p whens None)
select_rolled p whens (Some b) = ap typed_statement (sym (statement.rolls-Select p whens (Some b))) ∙ fold-roll-Statement tree.TypedStatement Chained (Part tree.TypedWhens) statement_part arm_part when_part (node.Select p whens (Some b))

pub select_is : (s : code_statement.Statement) (p : Place) (whens : List code_when.When) (o : Option (Box code_statement.Statement Global)) → s ≡ statement.Select p whens o → typed_statement s ≡ tree.Select p (in_a_row (map when_tree whens) (otherwise_part (last_tree o)))
select_is s p whens o is = ap typed_statement is ∙ select_rolled p whens o

select_value_rolled : (p : Place) (e : code_expression.Expression) (whens : List code_when.When) (o : Option (Box code_statement.Statement Global)) → typed_statement (statement.SelectValue p e whens o) ≡ tree.SelectValue p (typed_expression e) (in_a_row (map when_tree whens) (otherwise_part (last_tree o)))
select_value_rolled p e whens None = ap typed_statement (sym (statement.rolls-SelectValue p e whens None)) ∙ fold-roll-Statement tree.TypedStatement Chained (Part tree.TypedWhens) statement_part arm_part when_part (node.SelectValue p e whens None)
select_value_rolled p e whens (Some b) = ap typed_statement (sym (statement.rolls-SelectValue p e whens (Some b))) ∙ fold-roll-Statement tree.TypedStatement Chained (Part tree.TypedWhens) statement_part arm_part when_part (node.SelectValue p e whens (Some b))

pub select_value_is : (s : code_statement.Statement) (p : Place) (e : code_expression.Expression) (whens : List code_when.When) (o : Option (Box code_statement.Statement Global)) → s ≡ statement.SelectValue p e whens o → typed_statement s ≡ tree.SelectValue p (typed_expression e) (in_a_row (map when_tree whens) (otherwise_part (last_tree o)))
select_value_is s p e whens o is = ap typed_statement is ∙ select_value_rolled p e whens o

pub arm_is : (a : code_arm.Arm) (rest : Option tree.TypedStatement)
    → arm_tree a rest ≡ Some (if_tree (code_arm.out-Arm a).place (typed_expression (code_arm.out-Arm a).condition) (typed_statement (code_arm.out-Arm a).then) rest)
arm_is a rest = ap (λ (f : Chained). f rest) (fold_out-Arm tree.TypedStatement Chained (Part tree.TypedWhens) statement_part arm_part when_part a)

pub when_is : (w : code_when.When) (rest : tree.TypedWhens)
    → when_tree w rest ≡ tree.When (all_expressions (map typed_expression (code_when.out-When w).tests)) (typed_statement (code_when.out-When w).then) rest
when_is w rest = ap (λ (f : Part tree.TypedWhens). f rest) (fold_out-When tree.TypedStatement Chained (Part tree.TypedWhens) statement_part arm_part when_part w)

pub call_is : (c : code_call.Call)
    → call_tree c ≡ record { instance = (code_call.out-Call c).instance; method = (code_call.out-Call c).method; arguments = in_a_row (map argument_tree (code_call.out-Call c).arguments) expression_tree.NoArgument }
call_is c = fold_out-Call (Part expression_tree.TypedArguments) expression_tree.TypedExpression CallTree (Part expression_tree.Links) argument_part expression_part call_part link_part c
