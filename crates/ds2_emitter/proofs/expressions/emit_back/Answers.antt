use Rattle.std.proofs.Common.{◌≤◌, length, map, sym, ap, ◌∙◌, arith}
use Rattle.ds2_meaning.specs.TypedExpression.{NoArgument}
use Rattle.ds2_meaning.specs.View.{in_a_row, argument_tree}
use Rattle.ds2_emitter.specs.Emit.{with_back}
use Rattle.ds2_emitter.proofs.Appended.{drop_all, no_argument_back}
use Rattle.ds2_emitter.proofs.expressions.emit_back.Goals as goal

pub arguments-init : goal.arguments-init
arguments-init g c =
    let n = g.N.Numbering.numbers c.args.names.now in
    let most : length c.args.arguments.now ≤ length c.args.arguments.now = omega arith in (
      most,
      sym (ap (λ rest. with_back n (in_a_row (map argument_tree rest) NoArgument) c.args.code.now) (drop_all c.args.arguments.now) ∙ no_argument_back n c.args.code.now),
    )
