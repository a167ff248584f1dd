use Rattle.std.proofs.Common.{◌≡◌, ◌≤◌, ℕ, None, vec_len}
use Rattle.std.specs.Prelude.{slice_index_or, vec_capacity}
use Rattle.ds2_bags.proofs.placing.nothing.Given as goal

abbrev pub invariant-loop-i : goal.invariant-loop-i
invariant-loop-i l = record {
  made : vec_len l.out ≡ l._i;
  room : l.groups ≤ vec_capacity l.out;
  each : (k : ℕ) → slice_index_or l.out.items k None ≡ None;
}
