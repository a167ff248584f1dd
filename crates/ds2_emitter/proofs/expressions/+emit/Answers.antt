use Rattle.std.proofs.Common.{◌≡◌, ◌+◌, map, drop, sym, ap, ◌∙◌, arith}
use Rattle.std.proofs.lemmas.Grind.{common_steps}
use Rattle.ds2_meaning.specs.TypedExpression.{Constant, Variable, Widen, Convert, Prefixed, Chain, Compared, Applied, NoLink, Link, ByValue, InOut}
use Rattle.ds2_meaning.specs.View.{in_a_row, all_expressions, typed_expression, call_tree, link_tree, argument_tree}
use Rattle.ds2_emitter.specs.Emit.{with_instruction, with_expression, with_arguments, with_links}
use Rattle.ds2_emitter.proofs.Appended.{on_ok, constant_emitted, variable_emitted, widen_emitted, convert_emitted, prefixed_emitted, chain_emitted, compared_emitted, applied_emitted, called_emitted, hash_emitted, iterator_emitted, value_emitted, in_out_emitted, link_emitted, no_expression_emitted, then_emitted, no_link_emitted, no_argument_emitted}
use Rattle.ds2_emitter.proofs.Trees.{value_is, in_out_is, constant_is, variable_is, widen_is, convert_is, prefixed_is, chain_is, compared_is, applied_is, called_is, hash_is, iterator_is, link_is}
use Rattle.ds2_emitter.proofs.expressions.+emit.Goals as goal

pub emit_argument-returns-in_ok-emit_expression-in-Value : goal.emit_argument-returns-in_ok-emit_expression-in-Value
emit_argument-returns-in_ok-emit_expression-in-Value g t c rest =
    let n = g.N.Numbering.numbers c.args.names.now in
    let same : argument_tree c.args.argument.now rest ≡ ByValue (typed_expression c.in-Value.e) rest = value_is c.args.argument.now c.in-Value.e rest c.in-Value.is in
    let whole = ap (λ x. with_arguments n x c.args.code.now) same ∙ value_emitted n (typed_expression c.in-Value.e) rest c.args.code.now in
    cc (whole, c.in_ok-emit_expression-in-Value.ensures.code)

pub emit_argument-returns-in_ok-load-in-InOut : goal.emit_argument-returns-in_ok-load-in-InOut
emit_argument-returns-in_ok-load-in-InOut g t c rest =
    let n = g.N.Numbering.numbers c.args.names.now in
    let same : argument_tree c.args.argument.now rest ≡ InOut c.in-InOut.variable rest = in_out_is c.args.argument.now c.in-InOut.variable rest c.in-InOut.is in
    let whole = ap (λ x. with_arguments n x c.args.code.now) same ∙ in_out_emitted n c.in-InOut.variable rest c.args.code.now in
    on_ok c.emit.result c.emit.ensures (λ e. cc (e, whole, c.in_ok-load-in-InOut.ensures))

pub emit_expression-returns-in_ok-emit-in-Constant-clause-code : goal.emit_expression-returns-in_ok-emit-in-Constant-clause-code
emit_expression-returns-in_ok-emit-in-Constant-clause-code g t c =
    let n = g.N.Numbering.numbers c.args.names.now in
    let same : typed_expression c.args.e.now ≡ Constant c.in-Constant.value c.in-Constant.ty = constant_is c.args.e.now c.in-Constant.value c.in-Constant.ty c.in-Constant.is in
    let whole = ap (λ x. with_expression n x c.args.code.now) same ∙ constant_emitted n c.in-Constant.value c.in-Constant.ty c.args.code.now in
    cc (whole, c.in_ok-emit-in-Constant.ensures, c.in_ok-constant-in-Constant.ensures)

pub emit_expression-returns-in_ok-emit-in-Variable-clause-code : goal.emit_expression-returns-in_ok-emit-in-Variable-clause-code
emit_expression-returns-in_ok-emit-in-Variable-clause-code g t c =
    let n = g.N.Numbering.numbers c.args.names.now in
    let same : typed_expression c.args.e.now ≡ Variable c.in-Variable.variable c.in-Variable.ty = variable_is c.args.e.now c.in-Variable.variable c.in-Variable.ty c.in-Variable.is in
    let whole = ap (λ x. with_expression n x c.args.code.now) same ∙ variable_emitted n c.in-Variable.variable c.in-Variable.ty c.args.code.now in
    cc (whole, c.in_ok-emit-in-Variable.ensures, c.in_ok-load-in-Variable.ensures)

pub emit_expression-returns-in_ok-emit-in-Widen-clause-code : goal.emit_expression-returns-in_ok-emit-in-Widen-clause-code
emit_expression-returns-in_ok-emit-in-Widen-clause-code g t c =
    let n = g.N.Numbering.numbers c.args.names.now in
    let same : typed_expression c.args.e.now ≡ Widen (typed_expression c.in-Widen.operand.value) = widen_is c.args.e.now c.in-Widen.operand c.in-Widen.is in
    let whole = ap (λ x. with_expression n x c.args.code.now) same ∙ widen_emitted n (typed_expression c.in-Widen.operand.value) c.args.code.now in
    cc (whole, c.in_ok-emit-in-Widen.ensures, c.in_ok-emit_expression-in-Widen.ensures.code, c.deref.ensures)

pub emit_expression-returns-in_ok-emit_conversion-in-Convert-clause-code : goal.emit_expression-returns-in_ok-emit_conversion-in-Convert-clause-code
emit_expression-returns-in_ok-emit_conversion-in-Convert-clause-code g t c =
    let n = g.N.Numbering.numbers c.args.names.now in
    let same : typed_expression c.args.e.now ≡ Convert (typed_expression c.in-Convert.operand.value) c.in-Convert.ty = convert_is c.args.e.now c.in-Convert.operand c.in-Convert.ty c.in-Convert.is in
    let whole = ap (λ x. with_expression n x c.args.code.now) same ∙ convert_emitted n (typed_expression c.in-Convert.operand.value) c.in-Convert.ty c.args.code.now in
    cc (whole, c.in_ok-emit_conversion-in-Convert.ensures, c.in_ok-emit_expression-in-Convert.ensures.code, c.deref-in-Convert.ensures)

pub emit_expression-returns-in_ok-emit_prefix-in-Prefixed-clause-code : goal.emit_expression-returns-in_ok-emit_prefix-in-Prefixed-clause-code
emit_expression-returns-in_ok-emit_prefix-in-Prefixed-clause-code g t c =
    let n = g.N.Numbering.numbers c.args.names.now in
    let same : typed_expression c.args.e.now ≡ Prefixed c.in-Prefixed.prefix (typed_expression c.in-Prefixed.operand.value) c.in-Prefixed.ty = prefixed_is c.args.e.now c.in-Prefixed.prefix c.in-Prefixed.operand c.in-Prefixed.ty c.in-Prefixed.is in
    let whole = ap (λ x. with_expression n x c.args.code.now) same ∙ prefixed_emitted n c.in-Prefixed.prefix (typed_expression c.in-Prefixed.operand.value) c.in-Prefixed.ty c.args.code.now in
    cc (whole, c.in_ok-emit_prefix-in-Prefixed.ensures, c.in_ok-from-in-Prefixed.ensures.code, c.in_ok-from-in-Prefixed.ensures.ty, c.deref-in-Prefixed.ensures)

pub emit_expression-returns-in_ok-ty-in-Chain-clause-code : goal.emit_expression-returns-in_ok-ty-in-Chain-clause-code
emit_expression-returns-in_ok-ty-in-Chain-clause-code g t c =
    let n = g.N.Numbering.numbers c.args.names.now in
    let links = in_a_row (map link_tree c.in-Chain.links) NoLink in
    let same : typed_expression c.args.e.now ≡ Chain (typed_expression c.in-Chain.first.value) links = chain_is c.args.e.now c.in-Chain.first c.in-Chain.links c.in-Chain.is in
    let whole = ap (λ x. with_expression n x c.args.code.now) same ∙ chain_emitted n (typed_expression c.in-Chain.first.value) links c.args.code.now in
    on_ok c.emit_links.result c.emit_links.ensures.code (λ e. cc (e, whole, c.in_ok-ty-in-Chain.ensures.code, c.in_ok-ty-in-Chain.ensures.ty, c.deref-in-Chain.ensures, c.as_slice.ensures))

pub emit_expression-returns-in_ok-emit-in-Compared-clause-code : goal.emit_expression-returns-in_ok-emit-in-Compared-clause-code
emit_expression-returns-in_ok-emit-in-Compared-clause-code g t c =
    let n = g.N.Numbering.numbers c.args.names.now in
    let left = typed_expression c.in-Compared.left.value in
    let right = typed_expression c.in-Compared.right.value in
    let same : typed_expression c.args.e.now ≡ Compared c.in-Compared.comparison left right = compared_is c.args.e.now c.in-Compared.comparison c.in-Compared.left c.in-Compared.right c.in-Compared.is in
    let whole = ap (λ x. with_expression n x c.args.code.now) same ∙ compared_emitted n c.in-Compared.comparison left right c.args.code.now in
    cc (whole, c.in_ok-emit-in-Compared.ensures, c.comparison_instr.ensures, c.in_ok-ty-in-Compared.ensures.code, c.in_ok-ty-in-Compared.ensures.ty, c.in_ok-emit_expression-in-Compared.ensures.code, c.deref-in-Compared.ensures, c.deref-in-Compared-2.ensures)

pub emit_expression-returns-in_ok-emit_function-in-Applied-clause-code : goal.emit_expression-returns-in_ok-emit_function-in-Applied-clause-code
emit_expression-returns-in_ok-emit_function-in-Applied-clause-code g t c =
    let n = g.N.Numbering.numbers c.args.names.now in
    let same : typed_expression c.args.e.now ≡ Applied c.in-Applied.function (all_expressions (map typed_expression c.in-Applied.arguments)) c.in-Applied.ty = applied_is c.args.e.now c.in-Applied.function c.in-Applied.arguments c.in-Applied.ty c.in-Applied.is in
    let whole = ap (λ x. with_expression n x c.args.code.now) same ∙ applied_emitted n c.in-Applied.function c.in-Applied.arguments c.in-Applied.ty c.args.code.now in
    cc (whole, c.in_ok-emit_function-in-Applied.ensures, c.in_ok-emit_expressions-in-Applied.ensures, c.len.ensures, c.as_slice-in-Applied.ensures)

pub emit_expression-returns-in_ok-emit_call-in-Called-clause-code : goal.emit_expression-returns-in_ok-emit_call-in-Called-clause-code
emit_expression-returns-in_ok-emit_call-in-Called-clause-code g t c =
    let n = g.N.Numbering.numbers c.args.names.now in
    let whole = ap (λ x. with_expression n x c.args.code.now) (called_is c.args.e.now c.in-Called.call c.in-Called.ty c.in-Called.is) ∙ called_emitted n (call_tree c.in-Called.call) c.in-Called.ty c.args.code.now in
    cc (whole, c.in_ok-emit_call-in-Called.ensures)

pub emit_expression-returns-in_ok-emit-in-HashCalled-clause-code : goal.emit_expression-returns-in_ok-emit-in-HashCalled-clause-code
emit_expression-returns-in_ok-emit-in-HashCalled-clause-code g t c =
    let n = g.N.Numbering.numbers c.args.names.now in
    let whole = ap (λ x. with_expression n x c.args.code.now) (hash_is c.args.e.now c.in-HashCalled.hash c.in-HashCalled.function c.in-HashCalled.is) ∙ hash_emitted n c.in-HashCalled.hash c.in-HashCalled.function c.args.code.now in
    c.in_ok-emit-in-HashCalled.ensures ∙ ap (λ i. with_instruction i c.args.code.now) c.in_ok-hash_call-in-HashCalled.ensures ∙ sym whole

pub emit_expression-returns-in_ok-emit-in-IteratorCalled-clause-code : goal.emit_expression-returns-in_ok-emit-in-IteratorCalled-clause-code
emit_expression-returns-in_ok-emit-in-IteratorCalled-clause-code g t c =
    let n = g.N.Numbering.numbers c.args.names.now in
    let whole = ap (λ x. with_expression n x c.args.code.now) (iterator_is c.args.e.now c.in-IteratorCalled.iterator c.in-IteratorCalled.function c.in-IteratorCalled.is)
    ∙ iterator_emitted n c.in-IteratorCalled.iterator c.in-IteratorCalled.function c.args.code.now in
    c.in_ok-emit-in-IteratorCalled.ensures ∙ ap (λ i. with_instruction i c.args.code.now) c.in_ok-iterator_call-in-IteratorCalled.ensures ∙ sym whole

pub emit_arguments-returns : goal.emit_arguments-returns
emit_arguments-returns g t c = grind (arith, common_steps, no_argument_emitted (g.N.Numbering.numbers c.args.names.now) c.arguments.code, c.arguments.invariant)

pub emit_expressions-returns : goal.emit_expressions-returns
emit_expressions-returns g t c = grind (arith, common_steps, no_expression_emitted (g.N.Numbering.numbers c.args.names.now) c.expressions.code, c.expressions.invariant)

pub emit_links-returns-clause-code : goal.emit_links-returns-clause-code
emit_links-returns-clause-code g t c = grind (arith, common_steps, no_link_emitted (g.N.Numbering.numbers c.args.names.now) c.links.ty c.links.code, c.links.invariant.0)

pub emit_expressions-expressions-preserved : goal.emit_expressions-expressions-preserved
emit_expressions-expressions-preserved g t c =
    let n = g.N.Numbering.numbers c.args.names.now in
    let k = then_emitted n (typed_expression c.e-item.result) (all_expressions (map typed_expression (drop (c.expressions.e-index + 1) c.args.expressions.now))) c.expressions.code in
    grind (arith, common_steps, k, c.in_ok-emit_expression.ensures.code, c.expressions.invariant)

pub emit_link-returns : goal.emit_link-returns
emit_link-returns g t c rest =
    let n = g.N.Numbering.numbers c.args.names.now in
    let l = c.args.link.now in
    let same : link_tree c.args.link.now rest ≡ Link c.args.link.now.widens c.args.link.now.operation (typed_expression c.args.link.now.operand) c.args.link.now.ty rest = link_is c.args.link.now rest in
    let whole = ap (λ x. with_links n c.args.ty x c.args.code.now) same ∙ link_emitted n c.args.ty l.widens l.operation (typed_expression l.operand) l.ty rest c.args.code.now in
    on_ok c.emit.result c.emit.ensures
    (λ e. cc (e, whole, c.operation_instr.ensures, c.in_ok-emit_operand.ensures, c.in_ok-other.ensures.code, c.in_ok-other.ensures.ty, c.in_ok-emit_left_operand.ensures))
