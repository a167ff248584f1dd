-- Independent groups give the same whatever groups ran before them.
use Rattle.std.proofs.Common.{◌≡◌, ℕ, zero, suc, ◌+◌, ◌<◌, Bool, List, [], ◌∷◌, ◌++◌, length, map, Option, Some, None, refl, sym, ap, ◌∙◌, subst, arith}
use Rattle.std.specs.Prelude.{slice_get}
use Rattle.std.proofs.lemmas.List.{append-nil}
use Rattle.ds2_value.specs.Progress.{Progress, UnitOutcome, Completed, Interrupted, Strayed}
use Rattle.ds2_value.specs.Run.{Written}
use Rattle.ds2_value.specs.declared.fault.Ending.{Ending}
use Rattle.ds2_value.specs.declared.fault.Ending.TheVariants.{Normal, Faulted}
use Rattle.ds2_table.specs.OneThread.{Units, Standing, GroupResult, joined_result, then_loads, run_all, nothing_left, then_unit, last_unit}
use Rattle.ds2_schedule.specs.Groups.{UnitRun, Normally, ByFault, with_before, then_from, run_loads, IsSameRun, IsSameEnd, SameButEarly, AreSameButEarly, IsGroupIndependent, IsAmongGroups}
use Rattle.ds2_schedule.specs.Schedule.{FixedPart, AgreeAsStates}
use Rattle.ds2_code.specs.declared.parts.ProgramParts.{ProgramParts}
use Rattle.ds2_code.specs.Desk.{ProgramData, SlotSettings}
use Rattle.ds2_code_answer.specs.CodeAnswer.{code_units}
use Rattle.ds2_code_answer.specs.StageSchedules.{units_of_code}
use Rattle.ds2_code_answer.specs.StageTold.{StageTold, told_in_turn, told_of_unit, told_outcome, told_units, told_by_answer}
use Rattle.ds2_group_job.specs.GroupRuns.{run_of_group, ending_of_reached, end_of_group, loads_or_none, group_at_number}
use Rattle.ds2_group_job.specs.IndependentGroups.{IndependentGroupsGive}
use Rattle.ds2_group_job.specs.WhateverRan.{IsBehindGroups, GivesWhateverRan}

-- ---- what is told of loads

abbrev ending_or_normal : Option Ending → Ending
ending_or_normal None = Normal
ending_or_normal (Some e) = e

-- loads have left what is told of them
record SameTold (r : GroupResult ProgramData) (t : StageTold) : Type 0 where
  rows : r.rows ≡ t.rows
  lines : r.lines ≡ t.lines
  executed : r.executed ≡ t.executed
  ending : ending_of_reached r.reached ≡ ending_or_normal t.ending

-- and stand where the run that tells it does
abbrev IsToldOf : GroupResult ProgramData → UnitRun ProgramData StageTold → Type 0
IsToldOf r (Normally s t) = (r.reached ≡ Standing s) × SameTold r t × (t.ending ≡ Some Normal)
IsToldOf r (ByFault t) = ((s : ProgramData) → r.reached ≡ Standing s → ⊥) × SameTold r t

-- what a run tells
abbrev told_run : UnitRun ProgramData StageTold → StageTold
told_run (Normally s t) = t
told_run (ByFault t) = t

same_told : (r : GroupResult ProgramData) (x : UnitRun ProgramData StageTold) → IsToldOf r x → SameTold r (told_run x)
same_told r (Normally s t) h = h.1
same_told r (ByFault t) h = h.1

module _ (p : Progress) (n : ℕ) (r : GroupResult ProgramData) where
  abbrev unit_told : StageTold
  unit_told = told_of_unit p n (Some Normal)

  before_same : (t : StageTold) → SameTold r t → SameTold (joined_result p n r) (told_in_turn unit_told t)
  before_same t h = record {
    rows = ap (λ rs. p.rows ++ rs) h.rows;
    lines = ap (λ ls. p.lines ++ ls) h.lines;
    executed = ap (λ k. n + k) h.executed;
    ending = h.ending;
  }

  unit_first : (x : UnitRun ProgramData StageTold) (units : ℕ → Units SlotSettings ProgramData) → IsToldOf r x → IsToldOf (joined_result p n r) (with_before (told_units units) unit_told x)
  unit_first (Normally s t) units h = (h.0, before_same t h.1, h.2)
  unit_first (ByFault t) units h = (h.0, before_same t h.1)

module _ (units : ℕ → Units SlotSettings ProgramData) (budget : ℕ) where
  unit_told_so : (o : UnitOutcome ProgramData) (go : ProgramData → GroupResult ProgramData) (runs : ProgramData → UnitRun ProgramData StageTold) → ((s : ProgramData) → IsToldOf (go s) (runs s))
      → IsToldOf (then_loads o go) (then_from (told_units units) (told_outcome o) runs)
  unit_told_so (Completed s p n) go runs h = unit_first p n (go s) (runs s) units (h s)
  unit_told_so (Interrupted fault p n) go runs h = (
    λ s there. absurd cc,
    record {
      rows = append-nil p.rows;
      lines = append-nil p.lines;
      executed = (let e : n + 0 ≡ n = omega arith in e);
      ending = refl;
    },
  )
  unit_told_so Strayed go runs h = (λ s there. absurd cc, record { rows = refl; lines = refl; executed = refl; ending = refl })

  loads_told_so : (loads : List SlotSettings) (s : ProgramData) → IsToldOf (run_all (units budget) loads s) (run_loads (told_units units) budget loads s)
  loads_told_so [] s = (refl, record { rows = refl; lines = refl; executed = refl; ending = refl }, refl)
  loads_told_so (l ∷ loads) s = unit_told_so ((units budget).run l s) (run_all (units budget) loads) (run_loads (told_units units) budget loads) (λ d. loads_told_so loads d)

-- runs that tell the same are ends that are the same
same_ends : (r q : GroupResult ProgramData) (t u : StageTold) → SameTold r t → SameTold q u → t ≡ u → end_of_group r ≡ end_of_group q
same_ends r q t u f g is =
    let rows = f.rows ∙ ap (λ (x : StageTold). x.rows) is ∙ sym g.rows in
    let lines = f.lines ∙ ap (λ (x : StageTold). x.lines) is ∙ sym g.lines in
    let executed = f.executed ∙ ap (λ (x : StageTold). x.executed) is ∙ sym g.executed in
    let ending = f.ending ∙ ap (λ (x : StageTold). ending_or_normal x.ending) is ∙ sym g.ending in
    λ i. record { rows = map (λ (w : Written). w.row) (rows i); lines = lines i; ending = ending i; executed = executed i }

same_runs : (agrees : ProgramData → ProgramData → Type 0) (s t : ProgramData) (x y : UnitRun ProgramData StageTold) → IsSameRun agrees s t x y → told_run x ≡ told_run y
same_runs agrees s t (Normally a o) (Normally b q) h = h.0
same_runs agrees s t (ByFault o) (ByFault q) h = h
same_runs agrees s t (Normally a o) (ByFault q) h = absurd h
same_runs agrees s t (ByFault o) (Normally b q) h = absurd h

-- ---- `term`

-- `term` alone
last_told : (o : UnitOutcome ProgramData) → told_by_answer (then_unit o (λ d. nothing_left (Some Normal))) ≡ told_run (told_outcome o)
last_told (Completed s p n) = let e : n + 0 ≡ n = omega arith in let rows = append-nil p.rows in let lines = append-nil p.lines in λ i. record { rows = rows i; lines = lines i; executed = e i; ending = Some Normal }
last_told (Interrupted fault p n) = let e : n + 0 ≡ n = omega arith in let rows = append-nil p.rows in let lines = append-nil p.lines in λ i. record { rows = rows i; lines = lines i; executed = e i; ending = Some (Faulted fault p.place) }
last_told Strayed = refl

same_last : (x y : UnitRun ProgramData StageTold) → IsSameEnd x y → told_run x ≡ told_run y
same_last (Normally a o) (Normally b q) h = h
same_last (ByFault o) (ByFault q) h = h
same_last (Normally a o) (ByFault q) h = absurd h
same_last (ByFault o) (Normally b q) h = absurd h

-- ---- states that agree

same_names : (early : ℕ → Bool) (l : SlotSettings) → SameButEarly early l l
same_names early [] = tt
same_names early (x ∷ l) = (refl, λ h. refl, same_names early l)

same_loads : (early : ℕ → Bool) (ls : List SlotSettings) → AreSameButEarly early ls ls
same_loads early [] = tt
same_loads early (l ∷ ls) = (same_names early l, same_loads early ls)

there_is : {A : Type 0} (xs : List A) (g : ℕ) → g < length xs → (x : A) × (slice_get xs g ≡ Some x)
there_is [] g h = absurd (omega (arith, h))
there_is (x ∷ xs) zero h = (x, refl)
there_is (x ∷ xs) (suc g) h = there_is xs g (omega (arith, h))

-- the groups of code act alike from data that agree, and `term` does: they give the same, and a group that ends normally leaves data that agree
-- with those before it
pub record ActAlike (code : ProgramParts) (budget : ℕ) (groups : List (List SlotSettings)) (Agrees : ProgramData → ProgramData → Type 0) : Type 0 where
  pub give : (g : ℕ) (s t : ProgramData) → g < length groups → Agrees s t
      → end_of_group (run_of_group code budget (group_at_number groups g) s) ≡ end_of_group (run_of_group code budget (group_at_number groups g) t)
  pub leave : (g : ℕ) (s next : ProgramData) → g < length groups → Agrees s s → (run_of_group code budget (group_at_number groups g) s).reached ≡ Standing next → Agrees next s
  pub terms : (s t : ProgramData) → Agrees s t → told_by_answer (last_unit (code_units code budget) s) ≡ told_by_answer (last_unit (code_units code budget) t)
  pub own : (s t : ProgramData) → Agrees s t → Agrees s s
  pub through : (s t u : ProgramData) → Agrees s t → Agrees t u → Agrees s u

module _ (code : ProgramParts) (budget : ℕ) (groups : List (List SlotSettings)) (Agrees : ProgramData → ProgramData → Type 0) (alike : ActAlike code budget groups Agrees) where
  behind_agrees : (ran : List ℕ) (first now : ProgramData) → Agrees first first → IsBehindGroups code budget groups ran first now → Agrees now first
  behind_agrees [] first now same h =
      let P : ProgramData → Type 0 = λ z. Agrees z first in
      subst P (sym h) same
  behind_agrees (g ∷ ran) first now same h =
      let next = alike.leave g first h.1 h.0 same h.2 in
      alike.through now h.1 first (behind_agrees ran h.1 now (alike.own h.1 first next) h.3) next

  pub gives_alike : (first : ProgramData) → Agrees first first → GivesWhateverRan code budget groups first
  gives_alike first same = record {
    each = λ ran now g behind here. alike.give g now first here (behind_agrees ran first now same behind);
    term = λ ran now behind. alike.terms now first (behind_agrees ran first now same behind);
  }

module _ (K C : Type 0) (code : ProgramParts) (budget : ℕ) (groups : List (List SlotSettings)) (is_state : ProgramData → Bool) (fixed : FixedPart ProgramData K C) (early : ℕ → Bool)
    (free : IsGroupIndependent (told_units (units_of_code code)) (IsAmongGroups groups) early (AgreeAsStates is_state fixed)) where
  abbrev Agrees : ProgramData → ProgramData → Type 0
  Agrees s t = AgreeAsStates is_state fixed s t

  abbrev runs : List SlotSettings → ProgramData → UnitRun ProgramData StageTold
  runs loads s = run_loads (told_units (units_of_code code)) budget loads s

  among : (g : ℕ) → g < length groups → IsAmongGroups groups (group_at_number groups g)
  among g here = let it = there_is groups g here in (g, it.1 ∙ sym (ap (λ (o : Option (List SlotSettings)). Some (loads_or_none o)) it.1))

  same_run : (g : ℕ) (s t : ProgramData) → g < length groups → Agrees s t → IsSameRun Agrees s t (runs (group_at_number groups g) s) (runs (group_at_number groups g) t)
  same_run g s t here agree = free.groups budget (group_at_number groups g) (group_at_number groups g) s t (among g here) (among g here) (same_loads early (group_at_number groups g)) agree

  -- a group that ends normally leaves a state that agrees with the one before
  left_so : (x : UnitRun ProgramData StageTold) (r : GroupResult ProgramData) (s next : ProgramData) → IsToldOf r x → r.reached ≡ Standing next → IsSameRun Agrees s s x x → Agrees next s
  left_so (Normally a o) r s next h there same =
      let both : Standing a ≡ Standing next = sym h.0 ∙ there in
      let is : a ≡ next = cc in
      let P : ProgramData → Type 0 = λ z. Agrees z s in
      subst P is same.1
  left_so (ByFault o) r s next h there same = absurd (h.0 next there)

  pub act_alike : ActAlike code budget groups (AgreeAsStates is_state fixed)
  act_alike = record {
    give = λ g s t here agree. (
        let loads = group_at_number groups g in
        same_ends (run_of_group code budget loads s) (run_of_group code budget loads t) (told_run (runs loads s)) (told_run (runs loads t))
        (same_told (run_of_group code budget loads s) (runs loads s) (loads_told_so (units_of_code code) budget loads s))
        (same_told (run_of_group code budget loads t) (runs loads t) (loads_told_so (units_of_code code) budget loads t))
        (same_runs Agrees s t (runs loads s) (runs loads t) (same_run g s t here agree)));
    leave = λ g s next here same there. (
        let loads = group_at_number groups g in
        left_so (runs loads s) (run_of_group code budget loads s) s next (loads_told_so (units_of_code code) budget loads s) there (same_run g s s here same));
    terms = λ s t agree. (
        let last = (code_units code budget).term in
        last_told (last s)
        ∙ same_last (told_outcome (last s)) (told_outcome (last t)) (free.terms budget s t agree)
        ∙ sym (last_told (last t)));
    own = λ s t agree. (agree.0, agree.0, λ k is. refl);
    through = λ s t u first second. (first.0, second.1, λ k is. first.2 k is ∙ second.2 k is);
  }

pub independent_groups : (K C : Type 0) → IndependentGroupsGive K C
independent_groups K C code budget groups first is_state fixed early free state =
    gives_alike code budget groups (AgreeAsStates is_state fixed) (act_alike K C code budget groups is_state fixed early free) first (state, state, λ k is. refl)
