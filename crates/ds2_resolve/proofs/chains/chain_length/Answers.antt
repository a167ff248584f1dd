use Rattle.std.proofs.Common.{◌≡◌, ◌≤◌, ◌+◌, List, drop, subst, sym, ap, ◌∙◌, arith}
use Rattle.std.specs.Prelude.{max}
use Rattle.std.proofs.lemmas.Grind.{common_steps}
use Rattle.std.proofs.Math.ListN.{drop_of_length-le}
use Rattle.ds2_names.specs.SourceLimits.{chain_of_sort, chain_length}
use Rattle.ds2_scope.specs.CodeUnits.{source_instance, instances_in_source}
use Rattle.ds2_resolve.proofs.TokenLemmas.{chain_begins, one_more_chain, chain_ends}
use Rattle.ds2_resolve.proofs.chains.chain_length.Goals as goal

pub instances-init : goal.instances-init
instances-init c = (λ units kept. chain_begins units (instances_in_source c.args.instances.now), omega (arith))

pub instances-preserved : goal.instances-preserved
instances-preserved c =
    let g = c.greater-longest.ensures in
    let one = c.instances.invariant.1 in (
      λ units kept.
          let i = source_instance c.instance-item.result in
          let rest = instances_in_source (drop (c.instances.instance-index + 1) c.args.instances.now) in
          let k = one_more_chain units c.instances.longest c.in_ok-chain.chain i rest (c.in_ok-chain.ensures units kept) in
          let b = c.instances.invariant.0 units kept in
          let m = c.in_ok-more.ensures in
          grind (arith, common_steps, k, b, m, g),
      omega (arith, g, one),
    )

pub returns : goal.returns
returns c = λ units kept.
    let k = chain_ends units c.instances.longest c.instances.invariant.1 in
    let b = c.instances.invariant.0 units kept in
    grind (arith, common_steps, k, b)
