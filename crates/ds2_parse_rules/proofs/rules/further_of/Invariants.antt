use Rattle.std.proofs.Common.{◌≡◌, ◌++◌, length, ◌≤◌, ◌<◌, ℕ}
use Rattle.ds2_tree.specs.Parsers.{to, many_of}
use Rattle.ds2_parse_rules.proofs.rules.further_of.Given as goal

-- some turns are left, more than tokens, and they give what the whole gives
abbrev pub invariant-loop-alloc : goal.invariant-loop-alloc
invariant-loop-alloc g l = record {
  same : (m : ℕ) → length l.tokens < m → (j : ℕ) × (length l.rest < j)
      × (to (λ rs. g.R.Rule.view.all l.fn.found ++ rs) (many_of m (g.F.Front.test l.begins) (g.R.Rule.grammar l.item m)) l.tokens ≡ to (λ rs. g.R.Rule.view.all l.found ++ rs) (many_of j (g.F.Front.test l.begins) (g.R.Rule.grammar l.item m)) l.rest);
  shorter : length l.rest ≤ length l.tokens;
}

abbrev pub decreases-loop-alloc : goal.decreases-loop-alloc
decreases-loop-alloc g l = length l.rest
