use Rattle.std.proofs.Common.{◌+◌, drop, arith}
use Rattle.std.proofs.lemmas.Grind.{common_steps}
use Rattle.ds2_tree.specs.ExpressionViews.{expression_tree, arguments_of}
use Rattle.ds2_aliases.proofs.HandedLemmas.{one_handed, none_is_handed}
use Rattle.ds2_aliases.proofs.handed.handed_names.Goals as goal

pub arguments-preserved : goal.arguments-preserved
arguments-preserved c =
    let a = c.argument-item.result in
    let k = one_handed c.arguments.left.now a.comma (expression_tree a.value) (arguments_of (drop (c.arguments.argument-index + 1) c.args.arguments.now)) in
    grind (arith, common_steps, k, c.in_ok-push_handed.ensures, c.arguments.invariant)

pub returns : goal.returns
returns c =
    let k = none_is_handed c.arguments.left.now in
    grind (arith, common_steps, k, c.arguments.invariant)
