use Rattle.std.proofs.Common.{◌≡◌, sym, ap, ◌∙◌}
use Rattle.ds2_meaning.specs.TypedExpression.{ByValue, InOut}
use Rattle.ds2_meaning.specs.View.{typed_expression, argument_tree}
use Rattle.ds2_gen.specs.ExpressionCode.{cell_of, store_instr}
use Rattle.ds2_emitter.specs.Emit.{with_instruction, with_back}
use Rattle.ds2_emitter.proofs.Appended.{on_ok, value_back, in_out_back}
use Rattle.ds2_emitter.proofs.Trees.{value_is, in_out_is}
use Rattle.ds2_emitter.proofs.expressions.emit_back_one.Goals as goal

pub returns-in-Value : goal.returns-in-Value
returns-in-Value g c rest before h =
    let n = g.N.Numbering.numbers c.args.names.now in
    let same : argument_tree c.args.argument.now rest ≡ ByValue (typed_expression c.in-Value.field-0) rest = value_is c.args.argument.now c.in-Value.field-0 rest c.in-Value.is in
    h ∙ sym (ap (λ t. with_back n t before) same ∙ value_back n (typed_expression c.in-Value.field-0) rest before)

pub returns-in_ok-store-in-InOut : goal.returns-in_ok-store-in-InOut
returns-in_ok-store-in-InOut g c rest before h =
    let n = g.N.Numbering.numbers c.args.names.now in
    let same : argument_tree c.args.argument.now rest ≡ InOut c.in-InOut.variable rest = in_out_is c.args.argument.now c.in-InOut.variable rest c.in-InOut.is in
    let whole : with_back n (argument_tree c.args.argument.now rest) before ≡ with_instruction (store_instr (cell_of n c.in-InOut.variable)) (with_back n rest before) =
    ap (λ t. with_back n t before) same ∙ in_out_back n c.in-InOut.variable rest before in
    on_ok c.emit.result c.emit.ensures (λ e. cc (e, c.in_ok-store-in-InOut.ensures, h, whole))
