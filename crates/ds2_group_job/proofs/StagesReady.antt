-- The thread program that a program reads from, over its own tables and with the thread programs below it.
use Rattle.std.proofs.Common.{◌≡◌, ℕ, ◌+◌, false, true, List, [], ◌∷◌, ◌++◌, drop, length, Option, Some, None, IfSome, sym, ap, ◌∙◌, subst}
use Rattle.std.specs.Prelude.{slice_get}
use Rattle.std.proofs.lemmas.List.{length-map}
use Rattle.ds2_value.specs.Row.{Row}
use Rattle.ds2_value.specs.Run.{Written}
use Rattle.ds2_value.specs.declared.fault.Ending.{Ending}
use Rattle.ds2_table.specs.OneThread.{Answer, groups_at, stage_rows}
use Rattle.ds2_table.specs.Table.{Contents}
use Rattle.ds2_code.specs.declared.parts.ProgramParts.{ProgramParts}
use Rattle.ds2_code.specs.CodeUnit.{code_init, opening_data}
use Rattle.ds2_code.specs.Desk.{ProgramData}
use Rattle.ds2_code_answer.specs.CodeTables.{AreTablesOfCode, rows_of_each, tables_of_stage}
use Rattle.ds2_loads.specs.Grains.{IsGrainOfReading}
use Rattle.ds2_loads.proofs.CursorSteps.{first_at}
use Rattle.ds2_machine.specs.AtRest.{IsUnitEnd, is_early}
use Rattle.ds2_machine.specs.declared.record.OutRow.{OutRow}
use Rattle.ds2_machine.specs.declared.record.UnitRecord.{UnitRecord}
use Rattle.ds2_machine.specs.declared.unit_end.UnitEnd.{UnitEnd}
use Rattle.ds2_unit.specs.ProgramRun.{IsRunEnd, grain_asked}
use Rattle.ds2_unit.specs.Threads.{AreGrainsOf, IsGrainOfChain, IsThreadEnd, answer_behind, answer_on_rows, chain_answer, reader_answer_from}
use Rattle.ds2_unit.specs.UnitsRun.{HasRunAnswer}
use Rattle.ds2_unit.specs.declared.program_end.RunEnd.{RunEnd}
use Rattle.ds2_unit.specs.declared.reader.ReaderRun.{ReaderRun}
use Rattle.ds2_unit.specs.declared.thread.ThreadEnd.{ThreadEnd}
use Rattle.ds2_unit.specs.declared.units_end.UnitsEnd.{UnitsEnd}
use Rattle.ds2_unit.proofs.ReaderAnswers.{reader_is_chain}
use Rattle.ds2_unit.proofs.StagedCode.{chain_of, tables_below}
use Rattle.ds2_unit.proofs.StagedRuns.{groups_none, no_groups, reader_ends, reader_stops, rows_grouped}
use Rattle.ds2_unit.proofs.ThreadEnds.{HasKept, thread_of_run}
use Rattle.ds2_group_job.specs.ProgramRuns.{IsReadyBelow, IsReadyOver}
use Rattle.ds2_group_job.specs.WhateverRan.{AreIndependentStages, IsIndependentChain, IsIndependentThread}
use Rattle.ds2_group_job.specs.declared.program_run.ProgramRun.{ProgramRun}

-- ---- the next program of a chain

module _ (p : ProgramRun) (r : ReaderRun) (is : IsReadyBelow p r) where
  abbrev asked : ℕ
  asked = grain_asked p.grains.now

  -- the thread programs below the one that is read from
  abbrev further : List ProgramParts
  further = drop (r.place.number + 1) r.place.code.now.stages

  stages_are : drop r.place.number r.place.code.now.stages ≡ r.stage.now ∷ further
  stages_are = first_at r.place.code.now.stages r.place.number r.stage.now is.stage

  grain_fits : IsGrainOfChain r.stage.now further asked
  grain_fits = let P : List ProgramParts → Type 0 = λ ss. AreGrainsOf ss p.grains.now in subst P stages_are is.ready.grains

  pub own_tables : (own : List Contents) → own ≡ tables_of_stage r.place.program.now r.place.tables.now → AreTablesOfCode (chain_of r.stage.now further) own
  own_tables own behind =
      let P : List Contents → Type 0 = λ ts. AreTablesOfCode (chain_of r.stage.now further) ts in
      subst P (sym behind) (tables_below r.place.program.now r.stage.now (drop r.place.number r.place.code.now.stages) further r.place.tables.now stages_are is.ready.tables)

  own_independent : (own : List Contents) → own ≡ tables_of_stage r.place.program.now r.place.tables.now → (workers : Option ℕ)
      → IfSome workers (λ _. AreIndependentStages r.place.program.now (drop r.place.number r.place.code.now.stages) r.place.tables.now p.budget asked)
      → IfSome workers (λ _. IsIndependentChain r.stage.now further own p.budget asked)
  own_independent own behind None independent = independent
  own_independent own behind (Some n) independent =
      let P : List ProgramParts → Type 0 = λ ss. AreIndependentStages r.place.program.now ss r.place.tables.now p.budget asked in
      let Q : List Contents → Type 0 = λ ts. IsIndependentChain r.stage.now further ts p.budget asked in
      subst Q (sym behind) (subst P stages_are independent)

  -- where it reads tables, the grain that is asked is one of its reading statement
  pub last_grain : further ≡ [] → IsGrainOfReading r.stage.now.reading asked
  last_grain none = let P : List ProgramParts → Type 0 = λ ss. IsGrainOfChain r.stage.now ss asked in subst P none grain_fits

  -- and its groups may run on workers
  pub last_independent : further ≡ [] → (own : List Contents) → own ≡ tables_of_stage r.place.program.now r.place.tables.now → (grain : ℕ) → grain ≡ asked
      → IfSome p.workers (λ _. IsIndependentThread r.stage.now own p.budget grain)
  last_independent none own behind grain same =
      let P : List ProgramParts → Type 0 = λ ss. IfSome p.workers (λ _. IsIndependentChain r.stage.now ss own p.budget asked) in
      let Q : ℕ → Type 0 = λ n. IfSome p.workers (λ _. IsIndependentThread r.stage.now own p.budget n) in
      subst Q (sym same) (subst P none (own_independent own behind p.workers is.ready.independent))

  stages_free : (next : ProgramParts) (more : List ProgramParts) → further ≡ next ∷ more → (own : List Contents) (workers : Option ℕ) → IfSome workers (λ _. IsIndependentChain r.stage.now further own p.budget asked)
      → IfSome workers (λ _. AreIndependentStages r.stage.now further own p.budget asked)
  stages_free next more next_are own None independent = independent
  stages_free next more next_are own (Some n) independent =
      let P : List ProgramParts → Type 0 = λ ss. IsIndependentChain r.stage.now ss own p.budget asked in
      let Q : List ProgramParts → Type 0 = λ ss. AreIndependentStages r.stage.now ss own p.budget asked in
      subst Q (sym next_are) (subst P next_are independent)

  -- where it reads from one below it, that one can be run too
  pub next_ready : (next : ProgramParts) → slice_get r.place.code.now.stages (r.place.number + 1) ≡ Some next → (own : List Contents) → own ≡ tables_of_stage r.place.program.now r.place.tables.now
      → IsReadyOver p (chain_of r.stage.now further) own
  next_ready next here own behind =
      let more = drop (r.place.number + 1 + 1) r.place.code.now.stages in
      let next_are : further ≡ next ∷ more = first_at r.place.code.now.stages (r.place.number + 1) next here in
      let P : List ProgramParts → Type 0 = λ ss. IsGrainOfChain r.stage.now ss asked in
      let Q : List ProgramParts → Type 0 = λ ss. AreGrainsOf ss p.grains.now in
      record {
        tables = own_tables own behind;
        budget = is.ready.budget;
        grains = subst Q (sym next_are) (subst P next_are grain_fits);
        workers = is.ready.workers;
        independent = stages_free next more next_are own p.workers (own_independent own behind p.workers is.ready.independent);
      }

-- ---- answers

-- the answer of a program that reads from a thread program, from the data that it begins with
pub begun_is_chain : (program stage : ProgramParts) (stages further : List ProgramParts) (tables own : List Contents) (budget grain : ℕ) (given : Row) → stages ≡ stage ∷ further → own ≡ tables
    → (begun : ProgramData) → begun ≡ opening_data program given (rows_of_each own) (length stage.parameters)
    → reader_answer_from program budget (chain_answer stage further (tables_of_stage program own) budget grain) begun ≡ chain_answer program stages tables budget grain given
begun_is_chain program stage stages further tables own budget grain given is same begun opened =
    ap (λ (d : ProgramData). reader_answer_from program budget (chain_answer stage further (tables_of_stage program own) budget grain) d) opened
    ∙ sym (reader_is_chain program stage stages further own budget grain given is)
    ∙ ap (λ (ts : List Contents). chain_answer program stages ts budget grain given) same

module _ (program : ProgramParts) (budget : ℕ) (answers : Row → Answer) (begun : ProgramData) where
  -- the answer of the thread program, to the parameters that were set last
  abbrev thread_of : ProgramData → Answer
  thread_of d = answers d.parameters

  abbrev reader_answer : Answer
  reader_answer = reader_answer_from program budget answers begun

  module _ {S : Type 0} (has_taken : S → S → List Written → List (List ℕ) → Type 0) where
    -- `init` has ended the program
    pub chain_stops : (before after : S) (unit : UnitEnd) (state : ProgramData) (end : RunEnd) → IsUnitEnd has_taken before after (code_init program budget begun) unit state → is_early unit.ending ≡ true
        → end.ending ≡ unit.ending → end.executed ≡ unit.executed → end.stages ≡ [] → IsRunEnd has_taken before after reader_answer end
    chain_stops before after unit state end ran early ending executed none =
        reader_stops has_taken (code_init program budget begun) (λ (d : ProgramData). answer_behind program budget d (thread_of d)) before after unit state end ran early ending executed none

    -- it has gone on behind its thread program
    pub chain_ends : (before next after : S) (unit : UnitEnd) (state : ProgramData) (rest : UnitsEnd) (thread : ThreadEnd) (end : RunEnd) → IsUnitEnd has_taken before next (code_init program budget begun) unit state
        → is_early unit.ending ≡ false → IsThreadEnd (thread_of state) thread → HasRunAnswer has_taken next after (answer_behind program budget state (thread_of state)) rest
        → end.ending ≡ rest.ending → end.executed ≡ unit.executed + rest.executed → end.stages ≡ thread.below ++ thread.note ∷ [] → IsRunEnd has_taken before after reader_answer end
    chain_ends before next after unit state rest thread end ran late ended behind ending executed notes =
        reader_ends has_taken thread_of (answer_on_rows program budget) (code_init program budget begun) before next after unit state rest thread end ran late ended behind ending executed notes

  -- what it writes is kept
  pub kept_stops : (before after : UnitRecord) (unit : UnitEnd) (state : ProgramData) (end : RunEnd) (told : ThreadEnd) → before.rows ≡ [] → before.lines ≡ []
      → IsUnitEnd HasKept before after (code_init program budget begun) unit state → is_early unit.ending ≡ true
      → end.ending ≡ unit.ending → end.executed ≡ unit.executed → end.stages ≡ []
      → told.written ≡ after → told.ending ≡ end.ending → told.note.executed ≡ end.executed → told.note.groups ≡ groups_at (Some told.ending) 0 → told.below ≡ end.stages → IsThreadEnd reader_answer told
  kept_stops before after unit state end told no_rows no_lines ran early ending executed none written told_ending told_executed groups below =
      thread_of_run reader_answer before after end told no_rows no_lines (chain_stops HasKept before after unit state end ran early ending executed none) written told_ending told_executed
      (groups ∙ groups_none (Some told.ending)
      ∙ sym (no_groups HasKept (code_init program budget begun) (λ (d : ProgramData). answer_behind program budget d (thread_of d)) before after unit state ran early))
      below

  pub kept_ends : (before next after : UnitRecord) (unit : UnitEnd) (state : ProgramData) (rest : UnitsEnd) (thread : ThreadEnd) (end : RunEnd) (told : ThreadEnd) (rows : ℕ) → before.rows ≡ [] → before.lines ≡ []
      → IsUnitEnd HasKept before next (code_init program budget begun) unit state → is_early unit.ending ≡ false → IsThreadEnd (thread_of state) thread
      → HasRunAnswer HasKept next after (answer_behind program budget state (thread_of state)) rest
      → end.ending ≡ rest.ending → end.executed ≡ unit.executed + rest.executed → end.stages ≡ thread.below ++ thread.note ∷ [] → rows ≡ length thread.written.rows
      → told.written ≡ after → told.ending ≡ end.ending → told.note.executed ≡ end.executed → told.note.groups ≡ groups_at (Some told.ending) rows → told.below ≡ end.stages → IsThreadEnd reader_answer told
  kept_ends before next after unit state rest thread end told rows no_rows no_lines ran late ended behind ending executed notes count written told_ending told_executed groups below =
      let whole = chain_ends HasKept before next after unit state rest thread end ran late ended behind ending executed notes in
      let many : rows ≡ length (stage_rows (thread_of state)) = count ∙ sym (length-map thread.written.rows (λ (row : OutRow). row.row)) ∙ ap length ended.rows in
      thread_of_run reader_answer before after end told no_rows no_lines whole written told_ending told_executed
      (groups
      ∙ ap (groups_at (Some told.ending)) many
      ∙ ap (λ (e : Option Ending). groups_at e (length (stage_rows (thread_of state)))) (ap Some told_ending ∙ sym whole.ended)
      ∙ sym (rows_grouped HasKept program budget thread_of (code_init program budget begun) before next unit state ran late))
      below
