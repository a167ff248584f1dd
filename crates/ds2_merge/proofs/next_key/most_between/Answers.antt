use Rattle.std.proofs.Common.{◌≡◌, suc, ◌+◌, max, ap, ◌∙◌, arith}
use Rattle.ds2_merge.proofs.next_key.most_between.Goals as goal

pub tables-preserved : goal.tables-preserved
tables-preserved c = let e : c.tables.table + 1 ≡ suc c.tables.table = omega arith in rw e (rw (← c.tables.invariant) (c.max-most.ensures ∙ ap (λ n. max c.tables.most n) c.saturating_sub.ensures))
