use Rattle.std.proofs.Common.{◌≡◌, ◌+◌, drop, ap, ◌∙◌, arith}
use Rattle.std.proofs.lemmas.Grind.{common_steps}
use Rattle.ds2_names.specs.SourceLimits.{tokens_of_sort}
use Rattle.ds2_scope.specs.CodeUnits.{instance_sort, source_instance, instances_in_source}
use Rattle.ds2_scope.proofs.EarliestLemmas.{none_right}
use Rattle.ds2_resolve.proofs.TokenLemmas.{one_more_beyond}
use Rattle.ds2_resolve.proofs.token_counts.count_tokens.Goals as goal

pub instances-preserved : goal.instances-preserved
instances-preserved c = λ units kept.
    let i = source_instance c.instance-item.result in
    let rest = instances_in_source (drop (c.instances.instance-index + 1) c.args.instances.now) in
    let before = c.instances.invariant units kept in
    let more : c.in_ok-more.more ≡ c.instances.behind + tokens_of_sort units i.sort = c.in_ok-more.ensures ∙ ap (λ n. c.instances.behind + n) (c.in_ok-tokens.ensures units kept) in (
      let k = one_more_beyond units c.instances.beyond c.instances.behind c.in_ok-more.more i rest more in
          let b = before.0 in grind (arith, common_steps, k, b),
      let b = before.1 in grind (arith, common_steps, more, b),
    )

pub returns-clause-behind : goal.returns-clause-behind
returns-clause-behind c = λ units kept. let b = (c.instances.invariant units kept).1 in grind (arith, common_steps, b)

pub returns-clause-beyond : goal.returns-clause-beyond
returns-clause-beyond c = λ units kept.
    let b = (c.instances.invariant units kept).0 in
    let n = none_right c.instances.beyond in
    grind (arith, common_steps, b, n)
