-- Lists that grow by one.
use Rattle.std.proofs.Common.{◌≡◌, ◌<◌, ◌≤◌, ◌+◌, ◌-◌, ℕ, zero, suc, List, [], ◌∷◌, ◌++◌, Bool, true, false, ap, ◌∙◌, sym, refl, arith}
use Rattle.std.specs.Prelude.{◌||◌, sum_by}
use Rattle.std.specs.List.{range_with_len}
use Rattle.std.proofs.lemmas.List.Sums.{sum_by_push}
use Rattle.std.proofs.lemmas.List.{append_assoc, append-nil}
use Rattle.std.proofs.lemmas.List.Folds.{list_any-append}
use Rattle.std.proofs.lemmas.Bool.Decides.{nat_tests}
use Rattle.ds2_schedule.specs.Runs.{run_groups}
use Rattle.ds2_schedule.specs.Rule.{past}
use Rattle.ds2_schedule.specs.Bags.{GroupRun, groups_of_runs, AreFrom, OnlyLastFaults}
use Rattle.ds2_stage.specs.Bags.{has_fault}
use Rattle.ds2_stage.specs.Working.{AreCalm}

-- a sum over one more
pub sum_pushed : {X : Type 0} (f : X → ℕ) (xs ys : List X) (y : X) → ys ≡ xs ++ y ∷ [] → sum_by f ys ≡ sum_by f xs + f y
sum_pushed f xs ys y is = ap (sum_by f) is ∙ sum_by_push f xs y

-- the groups of one more run
pub runs_more : (m l d : ℕ) (ds : List ℕ) → groups_of_runs m l (ds ++ d ∷ []) ≡ groups_of_runs m l ds ++ run_groups m l d
runs_more m l d [] = append-nil (run_groups m l d)
runs_more m l d (e ∷ ds) = ap (λ (t : List ℕ). run_groups m l e ++ t) (runs_more m l d ds) ∙ sym (append_assoc (run_groups m l e) (groups_of_runs m l ds) (run_groups m l d))

pub past_last : (q d : ℕ) (ds : List ℕ) → q ≤ d → 1 ≤ past q (ds ++ d ∷ [])
past_last q d [] high = grind (arith, nat_tests)
past_last q d (e ∷ ds) high = omega (arith, past_last q d ds high)

-- the numbers from g up to `end`
pub first_of_range : (g end : ℕ) → g < end → range_with_len g (end - g) ≡ g ∷ range_with_len (g + 1) (end - (g + 1))
first_of_range g end low = let e : end - g ≡ suc (end - (g + 1)) = omega arith in ap (range_with_len g) e

pub none_in_range : (g end : ℕ) → end ≤ g → range_with_len g (end - g) ≡ []
none_in_range g end high = let e : end - g ≡ 0 = omega arith in ap (range_with_len g) e

pub range_is_from : (a g n : ℕ) → a ≤ g → AreFrom a (range_with_len g n)
range_is_from a g zero low = tt
range_is_from a g (suc n) low = (low, range_is_from a (g + 1) n (omega (arith, low)))

-- groups that were run without a fault
pub calm_last : (runs : List GroupRun) → AreCalm runs → OnlyLastFaults runs
calm_last [] h = tt
calm_last (r ∷ runs) h = ((λ fault. absurd (let no : true ≡ false = sym fault ∙ h.0 in cc)), calm_last runs h.1)

pub calm_then_one : (runs : List GroupRun) (r : GroupRun) → AreCalm runs → OnlyLastFaults (runs ++ r ∷ [])
calm_then_one [] r h = ((λ fault. refl), tt)
calm_then_one (s ∷ runs) r h = ((λ fault. absurd (let no : true ≡ false = sym fault ∙ h.0 in cc)), calm_then_one runs r h.1)

pub calm_more : (runs : List GroupRun) (r : GroupRun) → AreCalm runs → r.faulted ≡ false → AreCalm (runs ++ r ∷ [])
calm_more [] r h calm = (calm, tt)
calm_more (s ∷ runs) r h calm = (h.0, calm_more runs r h.1 calm)

or_true : (a b : Bool) → b ≡ true → (a || b) ≡ true
or_true true b e = refl
or_true false b e = e

or_here : (a b : Bool) → a ≡ true → (a || b) ≡ true
or_here true b e = refl
or_here false b e = absurd (cc)

pub fault_is_there : (runs : List GroupRun) (r : GroupRun) → r.faulted ≡ true → has_fault (runs ++ r ∷ []) ≡ true
fault_is_there runs r fault = list_any-append (λ (s : GroupRun). s.faulted) runs (r ∷ []) ∙ or_true (has_fault runs) (has_fault (r ∷ [])) (or_here r.faulted false fault)
