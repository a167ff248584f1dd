use Rattle.std.proofs.Common.{◌+◌, drop, arith}
use Rattle.std.proofs.lemmas.Grind.{common_steps}
use Rattle.ds2_names.specs.UnitRules.{makes_long_chain}
use Rattle.ds2_scope.specs.CodeUnits.{source_instance, instances_in_source}
use Rattle.ds2_misplaced.specs.MisplacedParts.{keyword_where}
use Rattle.ds2_scope.proofs.CollectedLemmas.{one_more_item}
use Rattle.ds2_misplaced.proofs.kinds.long_chain.Goals as goal

pub instances-preserved : goal.instances-preserved
instances-preserved c = λ units kept.
    let k = one_more_item (keyword_where (makes_long_chain units)) c.instances.found (source_instance c.instance-item.result) (instances_in_source (drop (c.instances.instance-index + 1) c.args.instances.now)) in
    let long = c.in_ok-is_long.ensures units kept in
    let before = c.instances.invariant units kept in
    grind (arith, common_steps, k, long, before)

pub returns : goal.returns
returns c = λ units kept. let before = c.instances.invariant units kept in grind (arith, common_steps, before)
