-- Loads in two parts run as one list.
use Rattle.std.proofs.Common.{◌≡◌, ℕ, ◌+◌, List, [], ◌∷◌, ◌++◌, refl, sym, ap, ◌∙◌, arith}
use Rattle.ds2_value.specs.Progress.{Progress, UnitOutcome, Completed, Interrupted, Strayed}
use Rattle.ds2_table.specs.LoadLaws.{both_results, from_there, then_group, PartsRunAsOne}
use Rattle.ds2_table.specs.OneThread.{Reached, Standing, Halted, GroupResult, group_at, joined_result, then_loads, run_all}

append_assoc : {A : Type 0} (xs ys zs : List A) → xs ++ (ys ++ zs) ≡ (xs ++ ys) ++ zs
append_assoc [] ys zs = refl
append_assoc (x ∷ xs) ys zs = ap (λ rest. x ∷ rest) (append_assoc xs ys zs)

append_nil : {A : Type 0} (xs : List A) → xs ++ [] ≡ xs
append_nil [] = refl
append_nil (x ∷ xs) = ap (λ rest. x ∷ rest) (append_nil xs)

module _ {C : Type 0} where
  -- nothing runs before the loads
  none_before : (r : GroupResult C) (c : C) → both_results (group_at (Standing c)) r ≡ r
  none_before r c = let e : 0 + r.executed ≡ r.executed = omega arith in
      λ i. record { rows = r.rows; lines = r.lines; ways = r.ways; budgets_left = r.budgets_left; executed = e i; reached = r.reached }

  -- nothing runs behind a fault
  ended : (p : Progress) (n : ℕ) (at : Reached C) → joined_result p n (group_at at) ≡ both_results (joined_result p n (group_at at)) (group_at at)
  ended p n at =
      let rows = sym (append_nil (p.rows ++ [])) in
      let lines = sym (append_nil (p.lines ++ [])) in
      let e : n + 0 ≡ (n + 0) + 0 = omega arith in
      λ i. record { rows = rows i; lines = lines i; ways = p.way ∷ []; budgets_left = p.left ∷ []; executed = e i; reached = at }

  one_more_unit : (p : Progress) (n : ℕ) (first after : GroupResult C) → joined_result p n (both_results first after) ≡ both_results (joined_result p n first) after
  one_more_unit p n first after =
      let rows = append_assoc p.rows first.rows after.rows in
      let lines = append_assoc p.lines first.lines after.lines in
      let e : n + (first.executed + after.executed) ≡ (n + first.executed) + after.executed = omega arith in
      λ i. record { rows = rows i; lines = lines i; ways = p.way ∷ (first.ways ++ after.ways); budgets_left = p.left ∷ (first.budgets_left ++ after.budgets_left); executed = e i; reached = after.reached }

  unit_first : (o : UnitOutcome C) (whole first : C → GroupResult C) (go : C → GroupResult C) → ((c : C) → whole c ≡ then_group (first c) go)
      → then_loads o whole ≡ then_group (then_loads o first) go
  unit_first (Completed c p n) whole first go h =
      ap (joined_result p n) (h c) ∙ one_more_unit p n (first c) (from_there (first c).reached go)
  unit_first (Interrupted fault p n) whole first go h = ended p n (Halted fault p.place)
  unit_first Strayed whole first go h = refl

pub parts_run_as_one : (L C : Type 0) → PartsRunAsOne L C
parts_run_as_one L C units [] ys c = sym (none_before (run_all units ys c) c)
parts_run_as_one L C units (l ∷ xs) ys c =
    unit_first (units.run l c) (run_all units (xs ++ ys)) (run_all units xs) (run_all units ys) (λ d. parts_run_as_one L C units xs ys d)
