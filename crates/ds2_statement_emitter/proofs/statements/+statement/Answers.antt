use Rattle.std.proofs.Common.{◌+◌, length, map, drop, ap, ◌∙◌, arith, refl}
use Rattle.std.proofs.lemmas.Grind.{common_steps}
use Rattle.std.specs.Option.{option_map}
use Rattle.ds2_meaning.specs.View.{in_a_row, all_expressions, all_statements, typed_statement, typed_expression, call_tree}
use Rattle.ds2_code.specs.declared.instr.Instr.TheVariants as instr
use Rattle.ds2_gen.specs.StatementCode.{Conditions, EqualTo, values_kept}
use Rattle.ds2_emitter.specs.Emit.{with_instruction}
use Rattle.ds2_statement_emitter.specs.Appending.{subject_of, with_statement, with_whens, with_open_jump, open_jump, with_open_test, open_test_jump, rest_keeps, IfPart}
use Rattle.ds2_statement_emitter.specs.Arms.{arm_tree, arm_of_chain, last_tree}
use Rattle.ds2_statement_emitter.specs.Marks.{end_mark, marked_exits}
use Rattle.ds2_statement_emitter.proofs.Added.{empty_added, leave_added, continue_added, rows_added, finish_added, next_added}
use Rattle.ds2_statement_emitter.proofs.ArmWholes.{when_whole}
use Rattle.ds2_statement_emitter.proofs.Chains.{chained, chain_keeps}
use Rattle.ds2_statement_emitter.proofs.Wholes.{mapped_some, ticked, if_place, if_whole, select_whole, while_whole, until_whole, count_whole}
use Rattle.ds2_statement_emitter.proofs.StepWholes.{assign_whole, invoke_whole, evaluate_whole, parameters_whole, return_whole, return_value_whole, put_whole, block_whole, select_value_stored}
use Rattle.ds2_statement_emitter.proofs.StatementTrees.{empty_is, assign_is, invoke_is, evaluate_is, parameters_is, leave_is, continue_is, return_is, return_value_is, output_is, put_is, block_is, count_is, while_is, until_is, if_is, select_is, select_value_is, when_is}
use Rattle.ds2_statement_emitter.proofs.statements.+statement.Goals as goal

pub emit_statement-returns-in-Empty-clause-code : goal.emit_statement-returns-in-Empty-clause-code
emit_statement-returns-in-Empty-clause-code g t c =
    let n = g.N.Numbering.numbers c.args.names.now in
    let exits = marked_exits (g.N.Numbering.way c.args.names.now) in
    let kept = c.args.kept in
    let code = c.args.code.now in
    let is = empty_is c.args.s.now c.in-Empty.place c.in-Empty.is in
    let tick = ticked _ _ _ code _ is c.place_of.ensures c.in_ok-emit.ensures in
    let whole = ap (λ x. with_statement n kept exits x code) is ∙ empty_added n kept exits c.in-Empty.place code in
    cc (whole, tick)

pub emit_statement-returns-in_ok-emit-in-Assign-clause-code : goal.emit_statement-returns-in_ok-emit-in-Assign-clause-code
emit_statement-returns-in_ok-emit-in-Assign-clause-code g t c =
    let n = g.N.Numbering.numbers c.args.names.now in
    let way = g.N.Numbering.way c.args.names.now in
    let is = assign_is c.args.s.now c.in-Assign.place c.in-Assign.variable c.in-Assign.value c.in-Assign.is in
    let tick = ticked _ _ _ c.args.code.now _ is c.place_of.ensures c.in_ok-emit.ensures in
    assign_whole n c.args.kept (marked_exits way) (typed_statement c.args.s.now) c.in-Assign.place c.in-Assign.variable (typed_expression c.in-Assign.value) _ c.args.code.now _ _ _ is tick c.in_ok-emit_expression-in-Assign.ensures.code
    c.in_ok-store-in-Assign.ensures c.in_ok-emit-in-Assign.ensures

pub emit_statement-returns-in_ok-emit_invoked-in-Invoke-clause-code : goal.emit_statement-returns-in_ok-emit_invoked-in-Invoke-clause-code
emit_statement-returns-in_ok-emit_invoked-in-Invoke-clause-code g t c =
    let n = g.N.Numbering.numbers c.args.names.now in
    let way = g.N.Numbering.way c.args.names.now in
    let is = invoke_is c.args.s.now c.in-Invoke.place c.in-Invoke.call c.in-Invoke.is in
    let tick = ticked _ _ _ c.args.code.now _ is c.place_of.ensures c.in_ok-emit.ensures in
    invoke_whole n c.args.kept (marked_exits way) (typed_statement c.args.s.now) c.in-Invoke.place (call_tree c.in-Invoke.call) c.args.code.now _ _ is tick c.in_ok-emit_invoked-in-Invoke.ensures

pub emit_statement-returns-in_ok-emit-in-Evaluate-clause-code : goal.emit_statement-returns-in_ok-emit-in-Evaluate-clause-code
emit_statement-returns-in_ok-emit-in-Evaluate-clause-code g t c =
    let n = g.N.Numbering.numbers c.args.names.now in
    let way = g.N.Numbering.way c.args.names.now in
    let is = evaluate_is c.args.s.now c.in-Evaluate.place c.in-Evaluate.value c.in-Evaluate.is in
    let tick = ticked _ _ _ c.args.code.now _ is c.place_of.ensures c.in_ok-emit.ensures in
    evaluate_whole n c.args.kept (marked_exits way) (typed_statement c.args.s.now) c.in-Evaluate.place (typed_expression c.in-Evaluate.value) c.args.code.now _ _ _ is tick c.in_ok-emit_expression-in-Evaluate.ensures.code c.in_ok-emit-in-Evaluate.ensures

pub emit_statement-returns-in_ok-emit_parameters-in-SetParameters-clause-code : goal.emit_statement-returns-in_ok-emit_parameters-in-SetParameters-clause-code
emit_statement-returns-in_ok-emit_parameters-in-SetParameters-clause-code g t c =
    let n = g.N.Numbering.numbers c.args.names.now in
    let way = g.N.Numbering.way c.args.names.now in
    let is = parameters_is c.args.s.now c.in-SetParameters.place c.in-SetParameters.instance c.in-SetParameters.values c.in-SetParameters.is in
    let tick = ticked _ _ _ c.args.code.now _ is c.place_of.ensures c.in_ok-emit.ensures in
    parameters_whole n c.args.kept (marked_exits way) (typed_statement c.args.s.now) c.in-SetParameters.place c.in-SetParameters.instance c.in-SetParameters.values _ c.args.code.now _ _ is tick c.as_slice.ensures c.in_ok-emit_parameters-in-SetParameters.ensures

pub emit_statement-returns-in_ok-emit-in-Leave-clause-code : goal.emit_statement-returns-in_ok-emit-in-Leave-clause-code
emit_statement-returns-in_ok-emit-in-Leave-clause-code g t c =
    let n = g.N.Numbering.numbers c.args.names.now in
    let exits = marked_exits (g.N.Numbering.way c.args.names.now) in
    let kept = c.args.kept in
    let code = c.args.code.now in
    let is = leave_is c.args.s.now c.in-Leave.place c.in-Leave.is in
    let tick = ticked _ _ _ code _ is c.place_of.ensures c.in_ok-emit.ensures in
    let whole = ap (λ x. with_statement n kept exits x code) is ∙ leave_added n kept exits c.in-Leave.place code in
    cc (whole, c.in_ok-emit-in-Leave.ensures, tick)

pub emit_statement-returns-in_ok-emit-in-Continue-clause-code : goal.emit_statement-returns-in_ok-emit-in-Continue-clause-code
emit_statement-returns-in_ok-emit-in-Continue-clause-code g t c =
    let n = g.N.Numbering.numbers c.args.names.now in
    let exits = marked_exits (g.N.Numbering.way c.args.names.now) in
    let kept = c.args.kept in
    let code = c.args.code.now in
    let is = continue_is c.args.s.now c.in-Continue.place c.in-Continue.is in
    let tick = ticked _ _ _ code _ is c.place_of.ensures c.in_ok-emit.ensures in
    let whole = ap (λ x. with_statement n kept exits x code) is ∙ continue_added n kept exits c.in-Continue.place code in
    cc (whole, c.in_ok-emit-in-Continue.ensures, tick)

pub emit_statement-returns-in_ok-emit-in-Return-clause-code : goal.emit_statement-returns-in_ok-emit-in-Return-clause-code
emit_statement-returns-in_ok-emit-in-Return-clause-code g t c =
    let n = g.N.Numbering.numbers c.args.names.now in
    let way = g.N.Numbering.way c.args.names.now in
    let is = return_is c.args.s.now c.in-Return.place c.in-Return.is in
    let tick = ticked _ _ _ c.args.code.now _ is c.place_of.ensures c.in_ok-emit.ensures in
    return_whole n c.args.kept (marked_exits way) (typed_statement c.args.s.now) c.in-Return.place way _ _ c.args.code.now _ _ is tick c.returning.ensures c.return_instr.ensures refl c.in_ok-emit-in-Return.ensures

pub emit_statement-returns-in_ok-emit-in-ReturnValue-clause-code : goal.emit_statement-returns-in_ok-emit-in-ReturnValue-clause-code
emit_statement-returns-in_ok-emit-in-ReturnValue-clause-code g t c =
    let n = g.N.Numbering.numbers c.args.names.now in
    let way = g.N.Numbering.way c.args.names.now in
    let is = return_value_is c.args.s.now c.in-ReturnValue.place c.in-ReturnValue.value c.in-ReturnValue.is in
    let tick = ticked _ _ _ c.args.code.now _ is c.place_of.ensures c.in_ok-emit.ensures in
    return_value_whole n c.args.kept (marked_exits way) (typed_statement c.args.s.now) c.in-ReturnValue.place (typed_expression c.in-ReturnValue.value) c.args.code.now _ _ _ is tick c.in_ok-emit_expression-in-ReturnValue.ensures.code
    c.in_ok-emit-in-ReturnValue.ensures

pub emit_statement-returns-in_ok-emit_outputs-in-Output-clause-code : goal.emit_statement-returns-in_ok-emit_outputs-in-Output-clause-code
emit_statement-returns-in_ok-emit_outputs-in-Output-clause-code g t c =
    let n = g.N.Numbering.numbers c.args.names.now in
    let exits = marked_exits (g.N.Numbering.way c.args.names.now) in
    let kept = c.args.kept in
    let code = c.args.code.now in
    let is = output_is c.args.s.now c.in-Output.place c.in-Output.outputs c.in-Output.is in
    let tick = ticked _ _ _ code _ is c.place_of.ensures c.in_ok-emit.ensures in
    let whole = ap (λ x. with_statement n kept exits x code) is ∙ rows_added n kept exits c.in-Output.place c.in-Output.outputs code in
    cc (whole, c.in_ok-emit_outputs-in-Output.ensures, c.as_slice-in-Output.ensures, tick)

pub emit_statement-returns-in_ok-emit_line-in-Put-clause-code : goal.emit_statement-returns-in_ok-emit_line-in-Put-clause-code
emit_statement-returns-in_ok-emit_line-in-Put-clause-code g t c =
    let n = g.N.Numbering.numbers c.args.names.now in
    let way = g.N.Numbering.way c.args.names.now in
    let is = put_is c.args.s.now c.in-Put.place c.in-Put.items c.in-Put.is in
    let tick = ticked _ _ _ c.args.code.now _ is c.place_of.ensures c.in_ok-emit.ensures in
    put_whole n c.args.kept (marked_exits way) (typed_statement c.args.s.now) c.in-Put.place c.in-Put.items _ c.args.code.now _ _ is tick c.as_slice-in-Put.ensures c.in_ok-emit_line-in-Put.ensures

pub emit_when-returns-clause-rest : goal.emit_when-returns-clause-rest
emit_when-returns-clause-rest g t c rest =
    let n = g.N.Numbering.numbers c.args.names.now in
    let exits = marked_exits (g.N.Numbering.way c.args.names.now) in
    let subject = subject_of c.args.tested in
    let w = c.args.when.now in
    let code = c.args.code.now in
    let tests = all_expressions (map typed_expression c.as_slice-tests.result.now) in
    let whole = when_whole n exits end_mark subject tests (typed_statement w.then) rest code _ _ _ _ _ c.args.kept _ _ c.in_ok-hole.ensures.code c.in_ok-hole.ensures.jump c.in_ok-next.ensures.code c.in_ok-next.ensures.values
    c.in_ok-emit.ensures c.is_unconditional.ensures c.in_ok-lead_here.ensures.code in
    cc (whole, ap (λ x. with_whens n c.args.kept end_mark exits subject x code) (when_is w rest), c.as_slice-tests.ensures)

pub emit_statements-returns-clause-code : goal.emit_statements-returns-clause-code
emit_statements-returns-clause-code g t c =
    grind (arith, common_steps, finish_added (g.N.Numbering.numbers c.args.names.now) c.body.next (marked_exits (g.N.Numbering.way c.args.names.now)) c.body.code, c.body.invariant.0)

pub emit_statement-returns-in_ok-end_chain-in-If-clause-code : goal.emit_statement-returns-in_ok-end_chain-in-If-clause-code
emit_statement-returns-in_ok-end_chain-in-If-clause-code g t c =
    let n = g.N.Numbering.numbers c.args.names.now in
    let way = g.N.Numbering.way c.args.names.now in
    let code = c.args.code.now in
    let p : IfPart = record { place = c.in-If.place; condition = typed_expression c.in-If.condition; on = typed_statement c.deref.result.now } in
    let o = last_tree c.in-If.otherwise in
    let is = if_is c.args.s.now c.in-If.place c.in-If.condition c.in-If.then c.in-If.others c.in-If.otherwise c.in-If.is in
    let tick = ticked _ _ _ code _ is c.place_of.ensures c.in_ok-emit.ensures ∙ ap (λ at. with_instruction (instr.Tick at) code) (if_place p.place p.condition (typed_statement c.in-If.then.value) (in_a_row (map arm_tree c.in-If.others) o)) in
    let w = if_whole n way c.args.kept p c.as_slice-in-If.result.now o code _ _ _ _ _ _ _ _ _ _ c.len-at.ensures (c.in_ok-hole-in-If.ensures.code ∙ ap (λ w. with_open_jump n p.condition w) tick) (c.in_ok-hole-in-If.ensures.jump ∙ ap (λ w. open_jump n p.condition w) tick) c.in_ok-next-in-If.ensures.code c.in_ok-next-in-If.ensures.values
    (c.in_ok-started-in-If.ensures.rest o) c.in_ok-last-in-If.ensures.code c.in_ok-end_chain-in-If.ensures.code c.in_ok-end_chain-in-If.ensures.small in
    cc (w, ap (λ x. with_statement n c.args.kept (marked_exits way) x code) is, c.deref.ensures, c.as_slice-in-If.ensures)

pub emit_statement-returns-in_ok-end_chain-in-Select-clause-code : goal.emit_statement-returns-in_ok-end_chain-in-Select-clause-code
emit_statement-returns-in_ok-end_chain-in-Select-clause-code g t c =
    let n = g.N.Numbering.numbers c.args.names.now in
    let way = g.N.Numbering.way c.args.names.now in
    let code = c.args.code.now in
    let o = last_tree c.in-Select.otherwise in
    let is = select_is c.args.s.now c.in-Select.place c.in-Select.whens c.in-Select.otherwise c.in-Select.is in
    let tick = ticked _ _ _ code _ is c.place_of.ensures c.in_ok-emit.ensures in
    let w = select_whole n way c.args.kept c.in-Select.place c.as_slice-in-Select.result.now o code _ _ _ _ _ _ c.len-at.ensures tick (c.in_ok-next-in-Select.ensures.rest o)
    (c.in_ok-last-in-Select.ensures.code Conditions) c.in_ok-end_chain-in-Select.ensures.code c.in_ok-end_chain-in-Select.ensures.small in
    cc (w, ap (λ x. with_statement n c.args.kept (marked_exits way) x code) is, c.as_slice-in-Select.ensures)

pub emit_statement-returns-in_ok-end_chain-in-SelectValue-clause-code : goal.emit_statement-returns-in_ok-end_chain-in-SelectValue-clause-code
emit_statement-returns-in_ok-end_chain-in-SelectValue-clause-code g t c =
    let n = g.N.Numbering.numbers c.args.names.now in
    let way = g.N.Numbering.way c.args.names.now in
    let code = c.args.code.now in
    let o = last_tree c.in-SelectValue.otherwise in
    let is = select_value_is c.args.s.now c.in-SelectValue.place c.in-SelectValue.value c.in-SelectValue.whens c.in-SelectValue.otherwise c.in-SelectValue.is in
    let tick = ticked _ _ _ code _ is c.place_of.ensures c.in_ok-emit.ensures in
    let ty = c.in_ok-ty-in-SelectValue.ty in
    let w = select_value_stored n way c.args.kept c.in-SelectValue.place (typed_expression c.in-SelectValue.value) ty c.as_slice-in-SelectValue.result.now o _ code _ _ _ _ _ _ _ _ _ c.len-at.ensures
    tick c.in_ok-ty-in-SelectValue.ensures.code c.in_ok-ty-in-SelectValue.ensures.ty c.in_ok-store_kept-in-SelectValue.ensures c.in_ok-emit-in-SelectValue.ensures c.in_ok-first-in-SelectValue.ensures (c.in_ok-next-in-SelectValue.ensures.rest o)
    (c.in_ok-last-in-SelectValue.ensures.code (EqualTo c.args.kept ty)) c.in_ok-end_chain-in-SelectValue.ensures.code c.in_ok-end_chain-in-SelectValue.ensures.small in
    cc (w, ap (λ x. with_statement n c.args.kept (marked_exits way) x code) is, c.as_slice-in-SelectValue.ensures)

pub emit_statement-returns-in_ok-close_while-in-While-clause-code : goal.emit_statement-returns-in_ok-close_while-in-While-clause-code
emit_statement-returns-in_ok-close_while-in-While-clause-code g t c =
    let n = g.N.Numbering.numbers c.args.names.now in
    let way = g.N.Numbering.way c.args.names.now in
    let code = c.args.code.now in
    let is = while_is c.args.s.now c.in-While.place c.in-While.condition c.in-While.body c.in-While.is in
    let tick = ticked _ _ _ code _ is c.place_of.ensures c.in_ok-emit.ensures in
    let w = while_whole n way c.args.kept c.in-While.place (typed_expression c.in-While.condition) (all_statements (map typed_statement c.as_slice-in-While.result.now)) code _ _ _ _ _ _
    (c.in_ok-started-in-While.ensures.code ∙ ap (λ w. with_open_test n c.in-While.place (typed_expression c.in-While.condition) w) tick) (c.in_ok-started-in-While.ensures.test ∙ ap length tick) (c.in_ok-started-in-While.ensures.hole ∙ ap (λ w. open_test_jump n c.in-While.place (typed_expression c.in-While.condition) w) tick) c.in_ok-started-in-While.ensures.first c.in_ok-next-in-While.ensures.code
    c.in_ok-close_while-in-While.ensures.code c.in_ok-close_while-in-While.ensures.small in
    cc (w, ap (λ x. with_statement n c.args.kept (marked_exits way) x code) is, c.as_slice-in-While.ensures)

pub emit_statement-returns-in_ok-close_until-in-Until-clause-code : goal.emit_statement-returns-in_ok-close_until-in-Until-clause-code
emit_statement-returns-in_ok-close_until-in-Until-clause-code g t c =
    let n = g.N.Numbering.numbers c.args.names.now in
    let way = g.N.Numbering.way c.args.names.now in
    let code = c.args.code.now in
    let is = until_is c.args.s.now c.in-Until.place c.in-Until.condition c.in-Until.body c.in-Until.is in
    let tick = ticked _ _ _ code _ is c.place_of.ensures c.in_ok-emit.ensures in
    let w = until_whole n way c.args.kept c.in-Until.place (typed_expression c.in-Until.condition) (all_statements (map typed_statement c.as_slice-in-Until.result.now)) code _ _ _ _
    tick c.in_ok-first-in-Until.ensures.same c.in_ok-next-in-Until.ensures.code c.in_ok-close_until-in-Until.ensures.code c.in_ok-close_until-in-Until.ensures.small in
    cc (w, ap (λ x. with_statement n c.args.kept (marked_exits way) x code) is, c.as_slice-in-Until.ensures)

pub emit_statement-returns-in_ok-close_count-in-Count-clause-code : goal.emit_statement-returns-in_ok-close_count-in-Count-clause-code
emit_statement-returns-in_ok-close_count-in-Count-clause-code g t c =
    let n = g.N.Numbering.numbers c.args.names.now in
    let way = g.N.Numbering.way c.args.names.now in
    let code = c.args.code.now in
    let is = count_is c.args.s.now c.in-Count.place c.in-Count.variable c.in-Count.start c.in-Count.end c.in-Count.step c.in-Count.body c.in-Count.is in
    let tick = ticked _ _ _ code _ is c.place_of.ensures c.in_ok-emit.ensures in
    let w = count_whole n way c.args.kept c.in-Count.place c.in-Count.variable (typed_expression c.in-Count.start) (typed_expression c.in-Count.end) (option_map typed_expression c.in-Count.step) (all_statements (map typed_statement c.as_slice-in-Count.result.now)) code _ _ _ _ _ _ _ _ _ _
    tick c.in_ok-emit_count_values-in-Count.ensures (c.is_some-has_step.ensures ∙ mapped_some c.in-Count.step)
    c.in_ok-started-in-Count.ensures.code c.in_ok-started-in-Count.ensures.hole c.in_ok-started-in-Count.ensures.end c.in_ok-started-in-Count.ensures.first c.in_ok-first-in-Count.ensures c.in_ok-next-in-Count.ensures.code
    c.in_ok-close_count-in-Count.ensures.code c.in_ok-close_count-in-Count.ensures.small in
    cc (w, ap (λ x. with_statement n c.args.kept (marked_exits way) x code) is, c.as_slice-in-Count.ensures)

pub emit_statement-returns-in_ok-end_chain-in-If-clause-values : goal.emit_statement-returns-in_ok-end_chain-in-If-clause-values
emit_statement-returns-in_ok-end_chain-in-If-clause-values g t c =
    let p : IfPart = record { place = c.in-If.place; condition = typed_expression c.in-If.condition; on = typed_statement c.in-If.then.value } in
    let o = last_tree c.in-If.otherwise in
    let is = if_is c.args.s.now c.in-If.place c.in-If.condition c.in-If.then c.in-If.others c.in-If.otherwise c.in-If.is in
    let size = ap values_kept (is ∙ chained c.in-If.others o p) ∙ chain_keeps p (map arm_of_chain c.in-If.others) o in
    omega (arith, size, c.in_ok-last-in-If.ensures.values, c.in_ok-started-in-If.ensures.values o, c.in_ok-next-in-If.ensures.values, ap (λ l. rest_keeps (map arm_of_chain l) o) c.as_slice-in-If.ensures, ap (λ s. values_kept (typed_statement s)) c.deref.ensures)

pub emit_statement-returns-in_ok-next-in-Block-clause-code : goal.emit_statement-returns-in_ok-next-in-Block-clause-code
emit_statement-returns-in_ok-next-in-Block-clause-code g t c =
    let n = g.N.Numbering.numbers c.args.names.now in
    let way = g.N.Numbering.way c.args.names.now in
    let is = block_is c.args.s.now c.in-Block.place c.in-Block.body c.in-Block.is in
    let tick = ticked _ _ _ c.args.code.now _ is c.place_of.ensures c.in_ok-emit.ensures in
    block_whole n c.args.kept (marked_exits way) (typed_statement c.args.s.now) c.in-Block.place c.in-Block.body _ c.args.code.now _ _ is tick c.as_slice-in-Block.ensures c.in_ok-next-in-Block.ensures.code

pub emit_statements-returns-clause-values : goal.emit_statements-returns-clause-values
emit_statements-returns-clause-values g t c = grind (arith, common_steps, c.body.invariant.1)

pub emit_arms-returns-clause-rest : goal.emit_arms-returns-clause-rest
emit_arms-returns-clause-rest g t c o = grind (arith, common_steps, c.arms.invariant.0 o)

pub emit_arms-returns-clause-values : goal.emit_arms-returns-clause-values
emit_arms-returns-clause-values g t c o = grind (arith, common_steps, c.arms.invariant.1 o)

pub emit_whens-returns-clause-rest : goal.emit_whens-returns-clause-rest
emit_whens-returns-clause-rest g t c o = grind (arith, common_steps, c.whens.invariant.0 o)

pub emit_whens-returns-clause-values : goal.emit_whens-returns-clause-values
emit_whens-returns-clause-values g t c o = grind (arith, common_steps, c.whens.invariant.1 o)

pub emit_statements-body-preserved : goal.emit_statements-body-preserved
emit_statements-body-preserved g t c =
    let n = g.N.Numbering.numbers c.args.names.now in
    let exits = marked_exits (g.N.Numbering.way c.args.names.now) in
    let k = next_added n c.body.next exits (typed_statement c.s-item.result) (all_statements (map typed_statement (drop (c.body.s-index + 1) c.args.body.now))) c.body.code in
    grind (arith, common_steps, k, c.in_ok-next.ensures.code, c.in_ok-next.ensures.values, c.body.invariant.0, c.body.invariant.1)
