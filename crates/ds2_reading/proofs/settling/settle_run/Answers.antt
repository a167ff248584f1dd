use Rattle.std.proofs.Common.{rules, sym, ap, ◌∙◌}
use Rattle.std.specs.Ordering.{is_lt}
use Rattle.std.proofs.lemmas.Fn.{always_returns_same}
use Rattle.std.proofs.lemmas.List.Sorted.{ranks_by}
use Rattle.ds2_reading.specs.KeyHeads.{level_of_head, row_of}
use Rattle.ds2_reading.specs.Numbers.{order_from}
use Rattle.ds2_reading.proofs.InOrder.{order_from_total}
use Rattle.ds2_reading.proofs.Runs.{run_alone, run_sorted, settled_by}
use Rattle.ds2_reading.proofs.settling.settle_run.Goals as goal

pub returns-then-is_settled : goal.returns-then-is_settled
returns-then-is_settled c =
    run_alone c.args.inputs.now c.requires.keys c.args.from c.args.end c.args.numbers.now c.requires.run c.requires.headed c.level_of_head-level.result c.requires.rising
    (c.level_of_head-level.ensures.value ∙ ap (level_of_head c.args.inputs.now.descending) c.head_of.ensures) (settled_by _ _ _ _ (sym c.is_settled.ensures ∙ c.if-is_settled.true))

pub returns : goal.returns
returns c =
    run_sorted c.args.inputs.now c.requires.keys c.args.from c.args.end c.args.numbers.now c.requires.run c.requires.headed _ c.level_of_head-level.result
    (c.level_of_head-level.ensures.value ∙ ap (level_of_head c.args.inputs.now.descending) c.head_of.ensures) c.sort_unstable_by.ensures.permutation
    (c.sort_unstable_by.ensures.sorted (λ m n. is_lt (order_from c.args.inputs.now c.level_of_head-level.result (row_of m) (row_of n)))
    (ranks_by (order_from_total c.args.inputs.now c.level_of_head-level.result) row_of) (always_returns_same _ _ _ (λ a r f k. search rules)))
