use Rattle.std.proofs.Common.{List, map, sym, ap, ◌∙◌}
use Rattle.ds2_meaning.specs.declared.statements.Arm as code_arm
use Rattle.ds2_meaning.specs.declared.statements.Statement as code_statement
use Rattle.ds2_meaning.specs.TypedStatement.{has_output}
use Rattle.ds2_meaning.specs.View.{typed_expression, typed_statement}
use Rattle.ds2_statement_emitter.specs.Arms.{arm_of_chain, last_tree}
use Rattle.ds2_statement_emitter.proofs.StatementTrees.{empty_is, assign_is, invoke_is, evaluate_is, parameters_is, leave_is, continue_is, return_is, return_value_is, output_is, put_is, block_is, count_is, while_is, until_is, if_is}
use Rattle.ds2_body_survey.specs.Surveyed.{output_in_rest}
use Rattle.ds2_body_survey.proofs.SurveyLemmas.{if_output}
use Rattle.ds2_body_survey.proofs.outputs.+output.Goals as goal

pub statement_has_output-returns-in-Empty : goal.statement_has_output-returns-in-Empty
statement_has_output-returns-in-Empty t c = sym (ap has_output (empty_is c.args.s.now _ c.in-Empty.is))

pub statement_has_output-returns-in-Assign : goal.statement_has_output-returns-in-Assign
statement_has_output-returns-in-Assign t c = sym (ap has_output (assign_is c.args.s.now _ _ _ c.in-Assign.is))

pub statement_has_output-returns-in-Invoke : goal.statement_has_output-returns-in-Invoke
statement_has_output-returns-in-Invoke t c = sym (ap has_output (invoke_is c.args.s.now _ _ c.in-Invoke.is))

pub statement_has_output-returns-in-Evaluate : goal.statement_has_output-returns-in-Evaluate
statement_has_output-returns-in-Evaluate t c = sym (ap has_output (evaluate_is c.args.s.now _ _ c.in-Evaluate.is))

pub statement_has_output-returns-in-SetParameters : goal.statement_has_output-returns-in-SetParameters
statement_has_output-returns-in-SetParameters t c = sym (ap has_output (parameters_is c.args.s.now _ _ _ c.in-SetParameters.is))

pub statement_has_output-returns-in-Leave : goal.statement_has_output-returns-in-Leave
statement_has_output-returns-in-Leave t c = sym (ap has_output (leave_is c.args.s.now _ c.in-Leave.is))

pub statement_has_output-returns-in-Continue : goal.statement_has_output-returns-in-Continue
statement_has_output-returns-in-Continue t c = sym (ap has_output (continue_is c.args.s.now _ c.in-Continue.is))

pub statement_has_output-returns-in-Return : goal.statement_has_output-returns-in-Return
statement_has_output-returns-in-Return t c = sym (ap has_output (return_is c.args.s.now _ c.in-Return.is))

pub statement_has_output-returns-in-ReturnValue : goal.statement_has_output-returns-in-ReturnValue
statement_has_output-returns-in-ReturnValue t c = sym (ap has_output (return_value_is c.args.s.now _ _ c.in-ReturnValue.is))

pub statement_has_output-returns-in-Output : goal.statement_has_output-returns-in-Output
statement_has_output-returns-in-Output t c = sym (ap has_output (output_is c.args.s.now _ _ c.in-Output.is))

pub statement_has_output-returns-in-Put : goal.statement_has_output-returns-in-Put
statement_has_output-returns-in-Put t c = sym (ap has_output (put_is c.args.s.now _ _ c.in-Put.is))

pub statement_has_output-returns-in-Block : goal.statement_has_output-returns-in-Block
statement_has_output-returns-in-Block t c =
    let is = ap has_output (block_is c.args.s.now _ _ c.in-Block.is) in
    cc (is, c.statements_have_output.ensures, c.as_slice-in-Block.ensures)

pub statement_has_output-returns-in-Count : goal.statement_has_output-returns-in-Count
statement_has_output-returns-in-Count t c =
    let is = ap has_output (count_is c.args.s.now _ _ _ _ _ _ c.in-Count.is) in
    cc (is, c.statements_have_output-in-Count.ensures, c.as_slice-in-Count.ensures)

pub statement_has_output-returns-in-While : goal.statement_has_output-returns-in-While
statement_has_output-returns-in-While t c =
    let is = ap has_output (while_is c.args.s.now _ _ _ c.in-While.is) in
    cc (is, c.statements_have_output-in-While.ensures, c.as_slice-in-While.ensures)

pub statement_has_output-returns-in-Until : goal.statement_has_output-returns-in-Until
statement_has_output-returns-in-Until t c =
    let is = ap has_output (until_is c.args.s.now _ _ _ c.in-Until.is) in
    cc (is, c.statements_have_output-in-Until.ensures, c.as_slice-in-Until.ensures)

pub statement_has_output-returns-in-If : goal.statement_has_output-returns-in-If
statement_has_output-returns-in-If t c =
    let o = last_tree c.in-If.otherwise in
    let is = ap has_output (if_is c.args.s.now _ _ _ _ _ c.in-If.is) in
    let on = c.statement_has_output-first.ensures ∙ ap (λ (s : code_statement.Statement). has_output (typed_statement s)) c.deref.ensures in
    let rest = c.arms_have_output-others.ensures o ∙ ap (λ (l : List code_arm.Arm). output_in_rest (map arm_of_chain l) o) c.as_slice.ensures in
    let whole = if_output c.in-If.place (typed_expression c.in-If.condition) (typed_statement c.in-If.then.value) c.in-If.others o _ _ _ on rest c.else_has_output-last.ensures in
    c.one_holds.ensures ∙ sym whole ∙ sym is
