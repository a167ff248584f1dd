-- What a thread program has left that reads tables.
use Rattle.std.proofs.Common.{◌≡◌, ℕ, List, [], ◌∷◌, ◌++◌, map, Some, IfOk, Result, Ok, Err, refl, sym, ap, ◌∙◌}
use Rattle.std.specs.Prelude.{reverse}
use Rattle.std.proofs.lemmas.List.{append-nil}
use Rattle.ds2_value.specs.Run.{Written}
use Rattle.ds2_value.specs.Progress.{UnitOutcome, Completed, Interrupted, Strayed}
use Rattle.ds2_value.specs.declared.fault.Ending.TheVariants.{Normal}
use Rattle.ds2_table.specs.OneThread.{Units, Reached, Standing, Halted, Astray, Answer, StageAnswer, alone_answer, nothing_left, then_unit, behind_loads, last_unit, run_all, run_each, groups_at}
use Rattle.ds2_table.specs.Table.{Contents}
use Rattle.ds2_code.specs.declared.parts.ProgramParts.{ProgramParts}
use Rattle.ds2_code.specs.CodeUnit.{code_init}
use Rattle.ds2_code.specs.Desk.{ProgramData, SlotSettings}
use Rattle.ds2_code_answer.specs.CodeAnswer.{code_units, code_program}
use Rattle.ds2_code_answer.specs.CodeLoads.{code_loads, code_group_count}
use Rattle.ds2_machine.specs.Kept.{all_written}
use Rattle.ds2_machine.specs.declared.record.OutRow.{OutRow}
use Rattle.ds2_machine.specs.declared.record.UnitRecord.{UnitRecord}
use Rattle.ds2_machine.specs.AtRest.{MachineAtRest}
use Rattle.ds2_unit.specs.Places.{IsMachineAt}
use Rattle.ds2_unit.specs.ProgramRun.{IsRunEnd, note_of_stage}
use Rattle.ds2_unit.specs.Threads.{IsMachineOf, IsThreadEnd, rows_kept}
use Rattle.ds2_unit.specs.UnitsRun.{HasRunAnswer}
use Rattle.ds2_unit.specs.declared.program_end.RunEnd.{RunEnd}
use Rattle.ds2_unit.specs.declared.thread.ThreadEnd.{ThreadEnd}
use Rattle.ds2_unit.specs.declared.thread_run.ThreadRun.{ThreadRun}
use Rattle.ds2_unit.specs.declared.units_end.UnitsEnd.{UnitsEnd}

-- ---- no thread program is read

unit_without : (o : UnitOutcome ProgramData) (go : ProgramData → Answer) → ((state : ProgramData) → (go state).stages ≡ []) → (then_unit o go).stages ≡ []
unit_without (Completed state p n) go h = h state
unit_without (Interrupted fault p n) go h = refl
unit_without Strayed go h = refl

behind_without : (x : Reached ProgramData) (go : ProgramData → Answer) → ((state : ProgramData) → (go state).stages ≡ []) → (behind_loads x go).stages ≡ []
behind_without (Standing state) go h = h state
behind_without (Halted fault place) go h = refl
behind_without Astray go h = refl

each_without : (units : Units SlotSettings ProgramData) (loads : List SlotSettings) (state : ProgramData) → (run_each units loads state).stages ≡ []
each_without units loads state =
    behind_without (run_all units loads state).reached (last_unit units) (λ s. unit_without (units.term s) (λ d. nothing_left (Some Normal)) (λ d. refl))

-- a thread program reads from none
pub none_read : (stage : ProgramParts) (tables : List Contents) (budget : ℕ) (state : ProgramData)
    → (then_unit (code_init stage budget state) (run_each (code_units stage budget) (code_loads stage tables))).stages ≡ []
none_read stage tables budget state =
    unit_without (code_init stage budget state) (run_each (code_units stage budget) (code_loads stage tables)) (λ s. each_without (code_units stage budget) (code_loads stage tables) s)

-- a record keeps rows and lines behind its own
abbrev pub HasKept : UnitRecord → UnitRecord → List Written → List (List ℕ) → Type 0
HasKept from now rows lines = (all_written now.rows ≡ all_written from.rows ++ rows) × (now.lines ≡ from.lines ++ lines)

-- rows without the numbers of their outputs
without_outputs : (rows : List OutRow) → map (λ (w : Written). w.row) (all_written rows) ≡ rows_kept rows
without_outputs [] = refl
without_outputs (r ∷ rows) = ap (λ z. r.row ∷ z) (without_outputs rows)

-- a thread program that was run into a record of its own
pub thread_of_run : (answer : Answer) (before after : UnitRecord) (end : RunEnd) (told : ThreadEnd) → before.rows ≡ [] → before.lines ≡ [] → IsRunEnd HasKept before after answer end
    → told.written ≡ after → told.ending ≡ end.ending → told.note.executed ≡ end.executed → told.note.groups ≡ answer.groups → told.below ≡ end.stages → IsThreadEnd answer told
thread_of_run answer before after end told no_rows no_lines ran written ending executed groups below =
    let kept = ran.taken before [] [] (sym (append-nil (all_written before.rows)), sym (append-nil before.lines)) in
    record {
      rows = sym (without_outputs told.written.rows) ∙ ap (map (λ (w : Written). w.row)) (ap (λ (r : UnitRecord). all_written r.rows) written ∙ kept.0 ∙ ap (λ rs. all_written rs ++ answer.rows) no_rows);
      lines = ap (λ (r : UnitRecord). r.lines) written ∙ kept.1 ∙ ap (λ ls. ls ++ answer.lines) no_lines;
      ended = ran.ended ∙ ap Some (sym ending);
      counted = executed ∙ ran.counted;
      grouped = groups;
      noted = below ∙ ran.noted;
    }

module _ (stage : ProgramParts) (tables : List Contents) (budget grain : ℕ) (state : ProgramData) where
  pub stage_ended : (before after : UnitRecord) (end : UnitsEnd) (all : RunEnd) (told : ThreadEnd) → before.rows ≡ [] → before.lines ≡ []
      → HasRunAnswer HasKept before after (then_unit (code_init stage budget state) (run_each (code_units stage budget) (code_loads stage tables))) end
      → all.ending ≡ end.ending → all.executed ≡ end.executed → all.stages ≡ [] → told.written ≡ after → told.ending ≡ all.ending → told.note.executed ≡ all.executed
      → told.note.groups ≡ groups_at (Some told.ending) (code_group_count grain stage tables) → told.below ≡ all.stages
      → IsThreadEnd (alone_answer (code_program stage [] tables budget grain) state) told
  stage_ended before after end all told no_rows no_lines ran all_ending all_executed none written ending executed groups below =
      let answer = alone_answer (code_program stage [] tables budget grain) state in
      let whole : IsRunEnd HasKept before after answer all = record {
        taken = ran.taken;
        ended = ran.ended ∙ ap Some (sym all_ending);
        counted = all_executed ∙ ran.counted;
        noted = none ∙ ap (λ (xs : List StageAnswer). reverse (map note_of_stage xs)) (sym (none_read stage tables budget state));
      } in
      thread_of_run answer before after all told no_rows no_lines whole written ending executed
      (groups ∙ ap (λ e. groups_at e (code_group_count grain stage tables)) (ap Some (ending ∙ all_ending) ∙ sym ran.ended)) below

-- a machine for the place of a thread program is one for it
pub machine_of_place : {E : Type 0} (run : ThreadRun) (number : ℕ) (result : Result MachineAtRest E)
    → IfOk result (λ machine. IsMachineAt (record { code = run.code; number = number; program = run.stage; tables = run.tables }) machine) → IfOk result (λ machine. IsMachineOf run machine)
machine_of_place run number (Ok machine) is = record { number = is.number; scaled = is.scaled; ready = is.ready }
machine_of_place run number (Err e) is = is
