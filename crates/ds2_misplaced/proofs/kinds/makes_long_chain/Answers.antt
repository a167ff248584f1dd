use Rattle.std.proofs.Common.{ap, ◌∙◌, ◌+◌, nat_lt}
use Rattle.ds2_names.specs.UnitRules.{longest_chain}
use Rattle.ds2_scope.specs.CodeUnits.{instance_sort, source_instance}
use Rattle.ds2_misplaced.proofs.MisplacedLemmas.{chain_is}
use Rattle.ds2_misplaced.proofs.kinds.makes_long_chain.Goals as goal

pub returns-in_ok-thread-in-Thread : goal.returns-in_ok-thread-in-Thread
returns-in_ok-thread-in-Thread c = λ units kept.
    c.is_long.ensures
    ∙ ap (λ n. nat_lt longest_chain (n + 1)) c.chain_or_one.ensures
    ∙ chain_is units (source_instance c.args.instance.now) _ _ (ap instance_sort c.in-Thread.is) (c.in_ok-thread-in-Thread.ensures units kept)
