-- Small thread programs that are typed and local, which so are group independent, and one that is not.
use Rattle.std.specs.Prelude.{[], ◌∷◌}
use Rattle.ds2_meaning.specs.IsTyped.{IsTypedUnit}
use Rattle.ds2_meaning.specs.ProgramTree.{UnitTree}
use Rattle.ds2_locality.specs.Independence.{IsIndependentAt}
use Rattle.ds2_locality.specs.LocalityExamples.{by_a, by_a_and_b, retaining_x, adds_v, resets_if, outputs_row, outputs_if, first_a, first_b, last_a, last_b}

-- by a; if first.a then x = 0; x = x + v; if last.a then output;
abbrev pub sums_of_a : UnitTree
sums_of_a = retaining_x by_a (resets_if 10 first_a ∷ adds_v 20 ∷ outputs_if 30 last_a ∷ [])

-- by a b; if first.b then x = 0; x = x + v; if last.b then output;
abbrev pub sums_of_a_and_b : UnitTree
sums_of_a_and_b = retaining_x by_a_and_b (resets_if 10 first_b ∷ adds_v 20 ∷ outputs_if 30 last_b ∷ [])

-- by a; x = x + v; output;
abbrev pub running_sums : UnitTree
running_sums = retaining_x by_a (adds_v 20 ∷ outputs_row 30 ∷ [])

-- sums of groups are independent, and a sum that runs on is not
pub record IndependentSums : Type 0 where
  pub typed_by_one : IsTypedUnit sums_of_a
  pub by_one : IsIndependentAt sums_of_a 1
  pub typed_by_two : IsTypedUnit sums_of_a_and_b
  pub by_two : IsIndependentAt sums_of_a_and_b 2
  pub running_on : IsIndependentAt running_sums 1 → ⊥
