use Rattle.std.proofs.Common.{◌+◌, drop, arith}
use Rattle.std.proofs.lemmas.Grind.{common_steps}
use Rattle.ds2_tree.specs.ExpressionViews.{expression_tree, arguments_of}
use Rattle.ds2_scope.proofs.EarliestLemmas.{none_right}
use Rattle.ds2_name_uses.proofs.UsageLemmas.{one_more_no_name, no_arguments}
use Rattle.ds2_name_uses.proofs.arguments.no_names.Goals as goal

pub arguments-preserved : goal.arguments-preserved
arguments-preserved c =
    let a = c.argument-item.result in
    let k = one_more_no_name c.arguments.found c.arguments.left.now a.comma (expression_tree a.value) (arguments_of (drop (c.arguments.argument-index + 1) c.args.arguments.now)) in
    grind (arith, common_steps, k, c.arguments.invariant)

pub returns : goal.returns
returns c =
    let k = no_arguments c.arguments.left.now in
    let n = none_right c.arguments.found in
    grind (arith, common_steps, k, n, c.arguments.invariant)
