-- The premises hold of the small stage of code.
use Rattle.std.proofs.Common.{◌≡◌, ℕ, zero, suc, ◌+◌, ◌*◌, List, [], ◌∷◌, true, false, refl, sym, ap, ◌∙◌, subst, arith}
use Rattle.std.specs.Prelude.{Some, slice_get, pos}
use Rattle.ds2_value.specs.Progress.{Progress, UnitOutcome, Completed, at_the_start}
use Rattle.ds2_value.specs.Row.{Row}
use Rattle.ds2_value.specs.declared.fault.Ending.TheVariants.{Normal}
use Rattle.ds2_value.specs.declared.value.Value.{Value}
use Rattle.ds2_value.specs.declared.value.Value.TheVariants.{Null, Int}
use Rattle.ds2_schedule.specs.Runs.{run_length, run_count}
use Rattle.ds2_schedule.specs.Groups.{UnitRun, IsSameRun, IsSameEnd, IsGroupIndependent, IsAmongGroups, AreSameButEarly, run_loads, then_from}
use Rattle.ds2_schedule.specs.Schedule.{AgreeAsStates}
use Rattle.ds2_code.specs.CodeRun.{run_code}
use Rattle.ds2_code.specs.CodeUnit.{unit_begun, outcome_of_run, most_executed, code_run, code_term, without_cleared}
use Rattle.ds2_code.specs.Desk.{ProgramData, with_slots, with_slot_settings}
use Rattle.ds2_code_answer.specs.StageTold.{StageTold, told_outcome, told_units, told_in_turn, told_of_unit, told_of_none}
use Rattle.ds2_code_answer.specs.StageSchedules.{groups_of_stage, units_of_code}
use Rattle.ds2_code_answer.specs.CodeSample.{copying_code, copied_data, has_one_slot, is_copied_state, copied_fixed, copying_stage, CodeSampleMeetsPremises}

one_slot : (slots : Row) → has_one_slot slots ≡ true → (v : Value) × (slots ≡ v ∷ [])
one_slot [] e = absurd (cc)
one_slot (v ∷ []) e = (v, refl)
one_slot (v ∷ w ∷ slots) e = absurd (cc)

some_is : {A : Type 0} (a b : A) → Some a ≡ Some b → b ≡ a
some_is a b e = cc

-- each group is one load, which sets the slot
one_load : (g : ℕ) (ls : List (List (ℕ × Value))) → slice_get (groups_of_stage copying_stage) g ≡ Some ls → (v : Value) × (ls ≡ ((0, v) ∷ []) ∷ [])
one_load zero ls e = (Int (pos 0), some_is (((0, Int (pos 0)) ∷ []) ∷ []) ls e)
one_load (suc zero) ls e = (Int (pos 1), some_is (((0, Int (pos 1)) ∷ []) ∷ []) ls e)
one_load (suc (suc zero)) ls e = (Int (pos 2), some_is (((0, Int (pos 2)) ∷ []) ∷ []) ls e)
one_load (suc (suc (suc g))) ls e = absurd (cc)

abbrev written_value : ℕ → Value → Progress
written_value budget v = record { place = record { line = 0; column = 0 }; left = budget; way = []; rows = record { output = 0; row = v ∷ [] } ∷ []; lines = [] }

-- `run` writes what the load sets
one_run : (budget : ℕ) (v w : Value) (s : ProgramData) → s.slots ≡ w ∷ [] → code_run copying_code budget ((0, v) ∷ []) s ≡ Completed (with_slots (v ∷ []) s) (written_value budget v) 2
one_run budget v w s e =
    let many : (budget + 1) * 3 ≡ suc (suc (suc (budget * 3))) = omega arith in
    ap (λ (slots : Row). outcome_of_run (run_code copying_code (most_executed copying_code budget) (unit_begun 1 budget (with_slots (with_slot_settings ((0, v) ∷ []) (without_cleared copying_code.slots slots)) s)))) e
    ∙ ap (λ (n : ℕ). outcome_of_run (run_code copying_code n (unit_begun 1 budget (with_slots (v ∷ []) s)))) many

-- `term` does nothing
no_term : (budget : ℕ) (s : ProgramData) → code_term copying_code budget s ≡ Completed s (at_the_start budget) 1
no_term budget s =
    let many : (budget + 1) * 3 ≡ suc (budget * 3 + 2) = omega arith in
    ap (λ (n : ℕ). outcome_of_run (run_code copying_code n (unit_begun 0 budget s))) many

abbrev SameRun : ProgramData → ProgramData → UnitRun ProgramData StageTold → UnitRun ProgramData StageTold → Type 0
SameRun s t x y = IsSameRun (AgreeAsStates is_copied_state copied_fixed) s t x y

-- one unit, and no load behind it
abbrev from_one : ℕ → UnitOutcome ProgramData → UnitRun ProgramData StageTold
from_one budget o = then_from (told_units (units_of_code copying_code)) (told_outcome o) (run_loads (told_units (units_of_code copying_code)) budget [])

is_copied : (s : ProgramData) (v : Value) → has_one_slot s.slots ≡ true → AgreeAsStates is_copied_state copied_fixed (with_slots (v ∷ []) s) s
is_copied s v state = (refl, state, λ k is. absurd (cc))

same_loads : (v w : Value) → AreSameButEarly (λ (n : ℕ). false) (((0, v) ∷ []) ∷ []) (((0, w) ∷ []) ∷ []) → v ≡ w
same_loads v w h = h.0.1 refl

runs_alike : (budget : ℕ) (v w : Value) (s t : ProgramData) → v ≡ w → has_one_slot s.slots ≡ true → has_one_slot t.slots ≡ true
    → SameRun s t (from_one budget (Completed (with_slots (v ∷ []) s) (written_value budget v) 2)) (from_one budget (Completed (with_slots (w ∷ []) t) (written_value budget w) 2))
runs_alike budget v w s t e a b = (
  ap (λ (x : Value). told_in_turn (told_of_unit (written_value budget x) 2 (Some Normal)) told_of_none) e,
  is_copied s v a,
  is_copied t w b,
)

one_group : (budget : ℕ) (v : Value) (s : ProgramData) (ls : List (List (ℕ × Value))) → has_one_slot s.slots ≡ true → ls ≡ ((0, v) ∷ []) ∷ []
    → run_loads (told_units (units_of_code copying_code)) budget ls s ≡ from_one budget (Completed (with_slots (v ∷ []) s) (written_value budget v) 2)
one_group budget v s ls state e =
    let w = one_slot s.slots state in
    ap (λ (xs : List (List (ℕ × Value))). run_loads (told_units (units_of_code copying_code)) budget xs s) e
    ∙ ap (λ (o : UnitOutcome ProgramData). from_one budget o) (one_run budget v w.0 s w.1)

groups_alike : (budget : ℕ) (v w : Value) (ls ks : List (List (ℕ × Value))) (s t : ProgramData) → ls ≡ ((0, v) ∷ []) ∷ [] → ks ≡ ((0, w) ∷ []) ∷ []
    → AreSameButEarly (λ (n : ℕ). false) ls ks → has_one_slot s.slots ≡ true → has_one_slot t.slots ≡ true
    → SameRun s t (run_loads (told_units (units_of_code copying_code)) budget ls s) (run_loads (told_units (units_of_code copying_code)) budget ks t)
groups_alike budget v w ls ks s t e f h a b =
    let alike = same_loads v w (subst (λ (xs : List (List (ℕ × Value))). AreSameButEarly (λ (n : ℕ). false) xs (((0, w) ∷ []) ∷ [])) e (subst (λ (xs : List (List (ℕ × Value))). AreSameButEarly (λ (n : ℕ). false) ls xs) f h)) in
    subst (λ (r : UnitRun ProgramData StageTold). SameRun s t r (run_loads (told_units (units_of_code copying_code)) budget ks t)) (sym (one_group budget v s ls a e))
    (subst (λ (r : UnitRun ProgramData StageTold). SameRun s t (from_one budget (Completed (with_slots (v ∷ []) s) (written_value budget v) 2)) r) (sym (one_group budget w t ks b f))
    (runs_alike budget v w s t alike a b))

copies_are_independent : IsGroupIndependent (told_units (units_of_code copying_code)) (IsAmongGroups (groups_of_stage copying_stage)) (λ (n : ℕ). false) (AgreeAsStates is_copied_state copied_fixed)
copies_are_independent = record {
  groups = λ budget ls ks s t a b h same. (
      let x = one_load a.0 ls a.1 in
      let y = one_load b.0 ks b.1 in
      groups_alike budget x.0 y.0 ls ks s t x.1 y.1 h same.0 same.1);
  terms = λ budget s t same.
      subst (λ (o : UnitOutcome ProgramData). IsSameEnd (told_outcome o) (told_outcome (code_term copying_code budget t))) (sym (no_term budget s))
      (subst (λ (o : UnitOutcome ProgramData). IsSameEnd (told_outcome (Completed s (at_the_start budget) 1)) (told_outcome o)) (sym (no_term budget t)) refl);
}

pub code_sample_meets_premises : CodeSampleMeetsPremises
unfolding run_length run_count
code_sample_meets_premises = record {
  stage = record {
    ordered = (refl, (refl, refl, (refl, refl, tt)));
    free = copies_are_independent;
    begun = refl;
    state = refl;
  };
  steps = record {
    legal = refl;
    carried = (tt, (tt, (tt, ((copied_data Null, refl, refl, refl), (tt, ((copied_data Null, refl, refl, refl), ((copied_data (Int (pos 0)), refl, refl, refl), tt)))))));
    complete = refl;
  };
}
