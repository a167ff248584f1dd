-- A worker that runs a group.
use Rattle.std.proofs.Common.{◌≡◌, ℕ, ◌<◌, true, false, List, [], ◌∷◌, ◌++◌, length, map, refl, sym, ap, ◌∙◌, subst}
use Rattle.std.proofs.lemmas.List.{append-nil}
use Rattle.ds2_value.specs.Run.{Written}
use Rattle.ds2_value.specs.declared.fault.Ending.{Ending}
use Rattle.ds2_table.specs.OneThread.{Reached, Standing, Halted, Astray, GroupResult}
use Rattle.ds2_bags.specs.Endings.{ended_by_fault}
use Rattle.ds2_bags.specs.declared.group_end.GroupEnd.{GroupEnd}
use Rattle.ds2_code.specs.declared.parts.ProgramParts.{ProgramParts}
use Rattle.ds2_code.specs.declared.parts.StagedParts.{StagedParts}
use Rattle.ds2_code.specs.Desk.{ProgramData, SlotSettings}
use Rattle.ds2_machine.specs.AtRest.{MachineAtRest, staged_program}
use Rattle.ds2_machine.specs.Kept.{all_written}
use Rattle.ds2_machine.specs.declared.record.OutRow.{OutRow}
use Rattle.ds2_machine.specs.declared.record.UnitRecord.{UnitRecord}
use Rattle.ds2_unit.specs.UnitsRun.{StandsWhere}
use Rattle.ds2_unit.specs.UnitsRun.{HasRunLoads}
use Rattle.ds2_unit.specs.declared.units_end.UnitsEnd.{UnitsEnd}
use Rattle.ds2_group_job.specs.GroupRuns.{run_of_group, ending_of_reached, end_of_group, group_at_number}
use Rattle.ds2_group_job.specs.StageJobs.{StageJob, answer_of_group}
use Rattle.ds2_group_job.specs.WhateverRan.{IsBehindGroups, GivesWhateverRan}

-- ---- what a group tells

abbrev pub HasKeptRows : UnitRecord → UnitRecord → List Written → List (List ℕ) → Type 0
HasKeptRows from now rows lines = (all_written now.rows ≡ all_written from.rows ++ rows) × (now.lines ≡ from.lines ++ lines)

pub rows_alone : (rows : List OutRow) → map (λ (w : Written). w.row) (all_written rows) ≡ map (λ (r : OutRow). r.row) rows
rows_alone [] = refl
rows_alone (r ∷ rows) = ap (λ z. r.row ∷ z) (rows_alone rows)

ending_told : (reached : Reached ProgramData) (ending : Ending) (now : MachineAtRest) → StandsWhere reached ending now → ending ≡ ending_of_reached reached
ending_told (Standing state) ending now h = h.0
ending_told (Halted fault place) ending now h = h.0
ending_told Astray ending now h = absurd h

module _ (before after : UnitRecord) (outcome : GroupResult ProgramData) (end : UnitsEnd) (now : MachineAtRest) (no_rows : before.rows ≡ []) (no_lines : before.lines ≡ [])
    (ran : HasRunLoads HasKeptRows before after outcome end now) where
  kept : HasKeptRows before after outcome.rows outcome.lines
  kept = ran.taken before [] [] (sym (append-nil (all_written before.rows)), sym (append-nil before.lines))

  pub told_is : (told : GroupEnd) → told.rows ≡ map (λ (r : OutRow). r.row) after.rows → told.lines ≡ after.lines → told.ending ≡ end.ending → told.executed ≡ end.executed → told ≡ end_of_group outcome
  told_is told rows lines ending executed =
      let all = rows ∙ sym (rows_alone after.rows) ∙ ap (map (λ (w : Written). w.row)) (kept.0 ∙ ap (λ rs. all_written rs ++ outcome.rows) no_rows) in
      let said = lines ∙ kept.1 ∙ ap (λ ls. ls ++ outcome.lines) no_lines in
      let ended = ending ∙ ending_told outcome.reached end.ending now ran.stands in
      let counted = executed ∙ ran.counted in
      λ i. record { rows = all i; lines = said i; ending = ended i; executed = counted i }

-- ---- where a worker stands

-- where a group has left a machine that is not spent
record LeftStanding (reached : Reached ProgramData) (now : MachineAtRest) : Type 0 where
  next : ProgramData
  there : reached ≡ Standing next
  here : now.state ≡ next

left_standing : (reached : Reached ProgramData) (ending : Ending) (now : MachineAtRest) → StandsWhere reached ending now → ended_by_fault ending ≡ false → LeftStanding reached now
left_standing (Standing state) ending now h fine = record { next = state; there = refl; here = h.2 }
left_standing (Halted fault place) ending now h fine = let e : ended_by_fault ending ≡ true = ap ended_by_fault h.0 in absurd cc
left_standing Astray ending now h fine = absurd h

pub not_spent : (reached : Reached ProgramData) (ending : Ending) (now : MachineAtRest) → StandsWhere reached ending now → ended_by_fault ending ≡ false → now.spent ≡ false
not_spent (Standing state) ending now h fine = h.1
not_spent (Halted fault place) ending now h fine = let e : ended_by_fault ending ≡ true = ap ended_by_fault h.0 in absurd cc
not_spent Astray ending now h fine = absurd h

module _ (code : ProgramParts) (budget : ℕ) (groups : List (List SlotSettings)) where
  pub one_more : (ran : List ℕ) (first state next : ProgramData) (g : ℕ) → IsBehindGroups code budget groups ran first state → g < length groups
      → (run_of_group code budget (group_at_number groups g) state).reached ≡ Standing next → IsBehindGroups code budget groups (ran ++ g ∷ []) first next
  one_more [] first state next g behind here there =
      let P : ProgramData → Type 0 = λ s. (run_of_group code budget (group_at_number groups g) s).reached ≡ Standing next in
      (here, next, subst P behind there, refl)
  one_more (h ∷ ran) first state next g behind here there = (behind.0, behind.1, behind.2, one_more ran behind.1 state next g behind.3 here there)

  pub goes_on_behind : (ran : List ℕ) (first state : ProgramData) (g : ℕ) (ending : Ending) (now : MachineAtRest) → IsBehindGroups code budget groups ran first state → g < length groups
      → StandsWhere (run_of_group code budget (group_at_number groups g) state).reached ending now → ended_by_fault ending ≡ false → IsBehindGroups code budget groups (ran ++ g ∷ []) first now.state
  goes_on_behind ran first state g ending now behind here stands fine =
      let it = left_standing (run_of_group code budget (group_at_number groups g) state).reached ending now stands fine in
      let P : ProgramData → Type 0 = λ s. IsBehindGroups code budget groups (ran ++ g ∷ []) first s in
      subst P (sym it.here) (one_more ran first state it.next g behind here it.there)

-- ---- a group of a job

module _ (job : StageJob) (free : GivesWhateverRan (staged_program job.code job.number) job.budget job.groups job.first) (ran : List ℕ) (state : ProgramData) (g : ℕ)
    (behind : IsBehindGroups (staged_program job.code job.number) job.budget job.groups ran job.first state) (here : g < length job.groups)
    (code : StagedParts) (number budget : ℕ) (loads : List SlotSettings) (same_code : code ≡ job.code) (same_number : number ≡ job.number) (same_budget : budget ≡ job.budget)
    (same_loads : loads ≡ group_at_number job.groups g) where
  same_run : run_of_group (staged_program code number) budget loads state ≡ run_of_group (staged_program job.code job.number) job.budget (group_at_number job.groups g) state
  same_run = λ i. run_of_group (staged_program (same_code i) (same_number i)) (same_budget i) (same_loads i) state

  pub answer_is : end_of_group (run_of_group (staged_program code number) budget loads state) ≡ answer_of_group job g
  answer_is = ap end_of_group same_run ∙ free.each ran state g behind here

  pub ran_on : (ending : Ending) (now : MachineAtRest) → StandsWhere (run_of_group (staged_program code number) budget loads state).reached ending now → ended_by_fault ending ≡ false
      → IsBehindGroups (staged_program job.code job.number) job.budget job.groups (ran ++ g ∷ []) job.first now.state
  ran_on ending now stands fine =
      let P : GroupResult ProgramData → Type 0 = λ r. StandsWhere r.reached ending now in
      goes_on_behind (staged_program job.code job.number) job.budget job.groups ran job.first state g ending now behind here (subst P same_run stands) fine
