-- Units of a typed program's code, run one after the other, leave what the program's units leave.
use Rattle.std.proofs.Common.{◌≡◌, ℕ, List, [], ◌∷◌, ◌++◌, map, Option, Some, None, refl, sym, ap, ◌∙◌, subst}
use Rattle.ds2_value.specs.Progress.{Progress, UnitOutcome, Completed, Interrupted, Strayed}
use Rattle.ds2_value.specs.Row.{Row}
use Rattle.ds2_value.specs.Run.{Written}
use Rattle.ds2_value.specs.declared.fault.Ending.{Ending}
use Rattle.ds2_value.specs.declared.fault.Ending.TheVariants.{Normal, Faulted}
use Rattle.ds2_table.specs.OneThread.{Reached, Standing, Halted, Astray, GroupResult, then_loads, run_all, Answer, nothing_left, then_unit, behind_loads, joined_loads, last_unit, run_each, groups_at, with_groups, stage_rows, behind_stage, after_stage}
use Rattle.ds2_meaning.specs.Location.{Storage}
use Rattle.ds2_meaning.specs.ProgramMeaning.{program_units}
use Rattle.ds2_meaning.specs.ProgramTree.{UnitTree}
use Rattle.ds2_meaning.specs.Reading.{Settings}
use Rattle.ds2_code.specs.CodeUnit.{code_unit, code_run, code_term, without_cleared}
use Rattle.ds2_code.specs.Desk.{ProgramData, SlotSettings, with_slots, with_slot_settings}
use Rattle.ds2_program_code.specs.LoadSettings.{slot_settings}
use Rattle.ds2_program_code.specs.ProgramCode.{program_code}
use Rattle.ds2_program_code.specs.ProgramRuns.{HoldsProgram, EndsLikeUnit, RunsLikeUnit, UnitsRunAsMeant}
use Rattle.ds2_code_answer.specs.CodeAnswer.{code_units}
use Rattle.ds2_same_meaning.specs.SameAnswer.{AreLikeAnswers}

ended_alike : (ending : Option Ending) → AreLikeAnswers (nothing_left ending) (nothing_left ending)
ended_alike ending = record { rows = refl; lines = refl; ending = refl; budgets_left = refl; groups = refl; stages = tt }

module _ (p : UnitTree) where
  -- ---- loads

  -- both stand alike behind loads
  abbrev StandAlike : Reached ProgramData → Reached Storage → Type 0
  StandAlike (Standing state) (Standing kept) = HoldsProgram p kept state
  StandAlike (Standing state) (Halted fault place) = ⊥
  StandAlike (Standing state) Astray = ⊥
  StandAlike (Halted fault place) (Standing kept) = ⊥
  StandAlike (Halted fault place) (Halted other there) = (fault ≡ other) × (place ≡ there)
  StandAlike (Halted fault place) Astray = ⊥
  StandAlike Astray (Standing kept) = ⊥
  StandAlike Astray (Halted fault place) = ⊥
  StandAlike Astray Astray = ⊥

  record AreLikeLoads (done : GroupResult ProgramData) (meant : GroupResult Storage) : Type 0 where
    rows : done.rows ≡ meant.rows
    lines : done.lines ≡ meant.lines
    budgets_left : done.budgets_left ≡ meant.budgets_left
    stand : StandAlike done.reached meant.reached

  load_then : (o : UnitOutcome ProgramData) (m : UnitOutcome Storage) (go : ProgramData → GroupResult ProgramData) (meant : Storage → GroupResult Storage) → EndsLikeUnit p o m
      → ((state : ProgramData) (kept : Storage) → HoldsProgram p kept state → AreLikeLoads (go state) (meant kept)) → AreLikeLoads (then_loads o go) (then_loads m meant)
  load_then (Completed state q n) (Completed kept r k) go meant h rest =
      let behind = rest state kept h.1 in
      record {
        rows = ap (λ (x : Progress). x.rows ++ (go state).rows) h.0 ∙ ap (λ z. r.rows ++ z) behind.rows;
        lines = ap (λ (x : Progress). x.lines ++ (go state).lines) h.0 ∙ ap (λ z. r.lines ++ z) behind.lines;
        budgets_left = ap (λ (x : Progress). x.left ∷ (go state).budgets_left) h.0 ∙ ap (λ z. r.left ∷ z) behind.budgets_left;
        stand = behind.stand;
      }
  load_then (Completed state q n) (Interrupted fault r k) go meant h rest = absurd h
  load_then (Completed state q n) Strayed go meant h rest = absurd h
  load_then (Interrupted fault q n) (Completed kept r k) go meant h rest = absurd h
  load_then (Interrupted fault q n) (Interrupted other r k) go meant h rest = record {
    rows = ap (λ (x : Progress). x.rows ++ []) h.1;
    lines = ap (λ (x : Progress). x.lines ++ []) h.1;
    budgets_left = ap (λ (x : Progress). x.left ∷ []) h.1;
    stand = (h.0, ap (λ (x : Progress). x.place) h.1);
  }
  load_then (Interrupted fault q n) Strayed go meant h rest = absurd h
  load_then Strayed (Completed kept r k) go meant h rest = absurd h
  load_then Strayed (Interrupted fault r k) go meant h rest = absurd h
  load_then Strayed Strayed go meant h rest = absurd h

  module _ {A : Type 0} (budget : ℕ) (sets : A → SlotSettings) (means : A → Settings) (runs : (l : A) → RunsLikeUnit p (means l))
      (alike : (l : A) (slots : Row) → with_slot_settings (sets l) slots ≡ with_slot_settings (slot_settings p (means l)) slots) where
    run_is : (l : A) (state : ProgramData) → code_run (program_code p) budget (sets l) state ≡ code_run (program_code p) budget (slot_settings p (means l)) state
    run_is l state = ap (λ s. code_unit (program_code p) (program_code p).run budget (with_slots s state)) (alike l (without_cleared (program_code p).slots state.slots))

    loads_alike : (ls : List A) (kept : Storage) (state : ProgramData) → HoldsProgram p kept state
        → AreLikeLoads (run_all (code_units (program_code p) budget) (map sets ls) state) (run_all (program_units p budget) (map means ls) kept)
    loads_alike [] kept state holds = record { rows = refl; lines = refl; budgets_left = refl; stand = holds }
    loads_alike (l ∷ ls) kept state holds =
        let meant = (program_units p budget).run (means l) kept in
        let P : UnitOutcome ProgramData → Type 0 = λ o. EndsLikeUnit p o meant in
        load_then (code_run (program_code p) budget (sets l) state) meant (run_all (code_units (program_code p) budget) (map sets ls)) (run_all (program_units p budget) (map means ls))
        (subst P (sym (run_is l state)) (runs l budget kept state holds))
        (λ next held h. loads_alike ls held next h)

  -- ---- up to the end

  pub unit_then_alike : (o : UnitOutcome ProgramData) (m : UnitOutcome Storage) (go : ProgramData → Answer) (meant : Storage → Answer) → EndsLikeUnit p o m
      → ((state : ProgramData) (kept : Storage) → HoldsProgram p kept state → AreLikeAnswers (go state) (meant kept)) → AreLikeAnswers (then_unit o go) (then_unit m meant)
  unit_then_alike (Completed state q n) (Completed kept r k) go meant h rest =
      let behind = rest state kept h.1 in
      record {
        rows = ap (λ (x : Progress). x.rows ++ (go state).rows) h.0 ∙ ap (λ z. r.rows ++ z) behind.rows;
        lines = ap (λ (x : Progress). x.lines ++ (go state).lines) h.0 ∙ ap (λ z. r.lines ++ z) behind.lines;
        ending = behind.ending;
        budgets_left = ap (λ (x : Progress). x.left ∷ (go state).budgets_left) h.0 ∙ ap (λ z. r.left ∷ z) behind.budgets_left;
        groups = behind.groups;
        stages = behind.stages;
      }
  unit_then_alike (Completed state q n) (Interrupted fault r k) go meant h rest = absurd h
  unit_then_alike (Completed state q n) Strayed go meant h rest = absurd h
  unit_then_alike (Interrupted fault q n) (Completed kept r k) go meant h rest = absurd h
  unit_then_alike (Interrupted fault q n) (Interrupted other r k) go meant h rest = record {
    rows = ap (λ (x : Progress). x.rows ++ []) h.1;
    lines = ap (λ (x : Progress). x.lines ++ []) h.1;
    ending = ap (λ f. Some (Faulted f q.place)) h.0 ∙ ap (λ (x : Progress). Some (Faulted other x.place)) h.1;
    budgets_left = ap (λ (x : Progress). x.left ∷ []) h.1;
    groups = refl;
    stages = tt;
  }
  unit_then_alike (Interrupted fault q n) Strayed go meant h rest = absurd h
  unit_then_alike Strayed (Completed kept r k) go meant h rest = absurd h
  unit_then_alike Strayed (Interrupted fault r k) go meant h rest = absurd h
  unit_then_alike Strayed Strayed go meant h rest = absurd h

  module _ (means : UnitsRunAsMeant p) (budget : ℕ) where
    last_alike : (state : ProgramData) (kept : Storage) → HoldsProgram p kept state → AreLikeAnswers (last_unit (code_units (program_code p) budget) state) (last_unit (program_units p budget) kept)
    last_alike state kept holds =
        unit_then_alike (code_term (program_code p) budget state) ((program_units p budget).term kept) (λ d. nothing_left (Some Normal)) (λ d. nothing_left (Some Normal))
        (means.in_term budget kept state holds) (λ s k h. ended_alike (Some Normal))

    behind_alike : (x : Reached ProgramData) (y : Reached Storage) → StandAlike x y
        → AreLikeAnswers (behind_loads x (last_unit (code_units (program_code p) budget))) (behind_loads y (last_unit (program_units p budget)))
    behind_alike (Standing state) (Standing kept) h = last_alike state kept h
    behind_alike (Standing state) (Halted fault place) h = absurd h
    behind_alike (Standing state) Astray h = absurd h
    behind_alike (Halted fault place) (Standing kept) h = absurd h
    behind_alike (Halted fault place) (Halted other there) h =
        let P : Option Ending → Type 0 = λ e. AreLikeAnswers (nothing_left (Some (Faulted fault place))) (nothing_left e) in
        subst P (ap (λ f. Some (Faulted f place)) h.0 ∙ ap (λ z. Some (Faulted other z)) h.1) (ended_alike (Some (Faulted fault place)))
    behind_alike (Halted fault place) Astray h = absurd h
    behind_alike Astray (Standing kept) h = absurd h
    behind_alike Astray (Halted fault place) h = absurd h
    behind_alike Astray Astray h = absurd h

  joined_alike : (done : GroupResult ProgramData) (meant : GroupResult Storage) (after after_meant : Answer) → AreLikeLoads done meant → AreLikeAnswers after after_meant
      → AreLikeAnswers (joined_loads done after) (joined_loads meant after_meant)
  joined_alike done meant after after_meant h behind = record {
    rows = ap (λ z. z ++ after.rows) h.rows ∙ ap (λ z. meant.rows ++ z) behind.rows;
    lines = ap (λ z. z ++ after.lines) h.lines ∙ ap (λ z. meant.lines ++ z) behind.lines;
    ending = behind.ending;
    budgets_left = ap (λ z. z ++ after.budgets_left) h.budgets_left ∙ ap (λ z. meant.budgets_left ++ z) behind.budgets_left;
    groups = behind.groups;
    stages = behind.stages;
  }

  -- `run` on each load, and then `term`
  pub each_alike : {A : Type 0} (means : UnitsRunAsMeant p) (budget : ℕ) (sets : A → SlotSettings) (settings : A → Settings) → ((l : A) → RunsLikeUnit p (settings l))
      → ((l : A) (slots : Row) → with_slot_settings (sets l) slots ≡ with_slot_settings (slot_settings p (settings l)) slots) → (ls : List A) (kept : Storage) (state : ProgramData) → HoldsProgram p kept state
      → AreLikeAnswers (run_each (code_units (program_code p) budget) (map sets ls) state) (run_each (program_units p budget) (map settings ls) kept)
  each_alike means budget sets settings runs alike ls kept state holds =
      let done = run_all (code_units (program_code p) budget) (map sets ls) state in
      let meant = run_all (program_units p budget) (map settings ls) kept in
      let both = loads_alike budget sets settings runs alike ls kept state holds in
      joined_alike done meant (behind_loads done.reached (last_unit (code_units (program_code p) budget))) (behind_loads meant.reached (last_unit (program_units p budget))) both
      (behind_alike means budget done.reached meant.reached both.stand)

pub grouped_alike : (n : ℕ) (done meant : Answer) → AreLikeAnswers done meant → AreLikeAnswers (with_groups n done) (with_groups n meant)
grouped_alike n done meant h = record {
  rows = h.rows;
  lines = h.lines;
  ending = h.ending;
  budgets_left = h.budgets_left;
  groups = ap (λ e. groups_at e n) h.ending;
  stages = h.stages;
}

-- ---- behind a thread program

behind_stage_alike : (done meant after after_meant : Answer) → AreLikeAnswers done meant → AreLikeAnswers after after_meant → AreLikeAnswers (behind_stage done after) (behind_stage meant after_meant)
behind_stage_alike done meant after after_meant h behind = record {
  rows = behind.rows;
  lines = ap (λ z. z ++ after.lines) h.lines ∙ ap (λ z. meant.lines ++ z) behind.lines;
  ending = behind.ending;
  budgets_left = ap (λ z. z ++ after.budgets_left) h.budgets_left ∙ ap (λ z. meant.budgets_left ++ z) behind.budgets_left;
  groups = behind.groups;
  stages = (h.groups, h.ending, h.stages);
}

-- the reader goes on alike behind two answers of its thread program that are alike
after_stage_by : (ending : Option Ending) (done meant : Answer) → AreLikeAnswers done meant → (go meant_go : List Row → Answer) → ((rows : List Row) → AreLikeAnswers (go rows) (meant_go rows))
    → AreLikeAnswers (after_stage ending done go) (after_stage ending meant meant_go)
after_stage_by (Some Normal) done meant h go meant_go each =
    let same : stage_rows done ≡ stage_rows meant = ap (map (λ (w : Written). w.row)) h.rows in
    let P : List Row → Type 0 = λ rows. AreLikeAnswers (go rows) (meant_go (stage_rows meant)) in
    behind_stage_alike done meant (go (stage_rows done)) (meant_go (stage_rows meant)) h (subst P (sym same) (each (stage_rows meant)))
after_stage_by (Some (Faulted fault place)) done meant h go meant_go each =
    behind_stage_alike done meant (nothing_left (Some (Faulted fault place))) (nothing_left (Some (Faulted fault place))) h (ended_alike (Some (Faulted fault place)))
after_stage_by None done meant h go meant_go each = behind_stage_alike done meant (nothing_left None) (nothing_left None) h (ended_alike None)

pub after_stage_alike : (done meant : Answer) → AreLikeAnswers done meant → (go meant_go : List Row → Answer) → ((rows : List Row) → AreLikeAnswers (go rows) (meant_go rows))
    → AreLikeAnswers (after_stage done.ending done go) (after_stage meant.ending meant meant_go)
after_stage_alike done meant h go meant_go each =
    let P : Option Ending → Type 0 = λ e. AreLikeAnswers (after_stage done.ending done go) (after_stage e meant meant_go) in
    subst P h.ending (after_stage_by done.ending done meant h go meant_go each)
