-- A thread program from which a program reads.
use Rattle.std.specs.Prelude.{◌≡◌, ◌≤◌, ℕ, false, List, [], ◌∷◌, length, map, reverse, Some, IsTrue}
use Rattle.ds2_value.specs.Row.{Row}
use Rattle.ds2_table.specs.OneThread.{Answer, alone_answer, then_unit, after_stage, run_each, with_groups, stage_rows}
use Rattle.ds2_table.specs.Table.{Contents}
use Rattle.ds2_reading.specs.ReadingFits.{reading_fits_tables}
use Rattle.ds2_code.specs.declared.parts.ProgramParts.{ProgramParts}
use Rattle.ds2_code.specs.CodeUnit.{code_init, row_slot_settings}
use Rattle.ds2_code.specs.Desk.{ProgramData}
use Rattle.ds2_code.specs.Scales.{IsDataScaled}
use Rattle.ds2_slots.specs.LoadedHashes.{AreSlotTypesInBounds}
use Rattle.ds2_machine.specs.AtRest.{MachineAtRest, staged_program}
use Rattle.ds2_machine.specs.declared.machine.TheConstants.{MOST_BUDGET}
use Rattle.ds2_machine.specs.declared.record.OutRow.{OutRow}
use Rattle.ds2_code_answer.specs.CodeAnswer.{code_units, code_opening, code_program}
use Rattle.ds2_code_answer.specs.CodeLoads.{code_reading, slots_of_stage}
use Rattle.ds2_loads.specs.Readings.{ReadsNoThread}
use Rattle.ds2_loads.specs.Grains.{IsGrainOfReading}
use Rattle.ds2_unit.specs.ProgramRun.{grain_asked, note_of_stage}
use Rattle.ds2_unit.specs.declared.thread.ThreadEnd.{ThreadEnd}
use Rattle.ds2_unit.specs.declared.thread_run.ThreadRun.{ThreadRun}

-- ---- grains

-- a grain fits the statement that reads tables: that of a program without thread programs below it, or that of the last of these
abbrev pub IsGrainOfChain : ProgramParts → List ProgramParts → (grain : ℕ) → Type 0
IsGrainOfChain program [] grain = IsGrainOfReading program.reading grain
IsGrainOfChain program (stage ∷ stages) grain = IsGrainOfChain stage stages grain

-- the grain that is asked fits the thread program that reads tables, where there is one
abbrev pub AreGrainsOf : List ProgramParts → List ℕ → Type 0
AreGrainsOf [] grains = Unit {0}
AreGrainsOf (stage ∷ stages) grains = IsGrainOfChain stage stages (grain_asked grains)

-- ---- what a thread program leaves

-- rows that were kept, without the numbers of their outputs
abbrev pub rows_kept : List OutRow → List Row
rows_kept rows = map (λ (r : OutRow). r.row) rows

-- a thread program has ended as its answer says
pub record IsThreadEnd (answer : Answer) (end : ThreadEnd) : Type 0 where
  pub rows : rows_kept end.written.rows ≡ stage_rows answer
  pub lines : end.written.lines ≡ answer.lines
  pub ended : answer.ending ≡ Some end.ending
  pub counted : end.note.executed ≡ answer.executed
  pub grouped : end.note.groups ≡ answer.groups
  pub noted : end.below ≡ reverse (map note_of_stage answer.stages)

-- a thread program can be run on its tables: it is that of its number, its statement fits these tables, and the grain fits its statement
pub record IsReadyThread (run : ThreadRun) : Type 0 where
  pub here : staged_program run.code.now run.number ≡ run.stage.now
  pub there : run.number ≤ length run.code.now.stages
  pub reads : ReadsNoThread run.stage.now.reading
  pub types : AreSlotTypesInBounds run.stage.now.slots
  pub statement : run.reading.now ≡ code_reading run.stage.now
  pub fits : IsTrue (reading_fits_tables run.tables.now (code_reading run.stage.now))
  pub parts : IsGrainOfReading run.stage.now.reading run.grain
  pub within : run.budget ≤ MOST_BUDGET

-- a machine is one for a thread program, and may run its next unit
pub record IsMachineOf (run : ThreadRun) (machine : MachineAtRest) : Type 0 where
  pub number : staged_program run.code.now machine.program ≡ run.stage.now
  pub scaled : IsDataScaled (staged_program run.code.now machine.program) machine.state
  pub ready : machine.spent ≡ false

-- ---- answers

-- the answer of a program with the thread programs below it, over the tables that they name, to these values of its parameters
abbrev pub chain_answer : ProgramParts → List ProgramParts → List Contents → (budget grain : ℕ) → Row → Answer
chain_answer program stages tables budget grain given = alone_answer (code_program program stages tables budget grain) (code_opening program stages tables given)

-- the answer of a thread program over the tables that it reads, to these values of its parameters
abbrev pub thread_answer : ProgramParts → List Contents → (budget grain : ℕ) → Row → Answer
thread_answer stage tables budget grain given = chain_answer stage [] tables budget grain given

-- what comes of the rows of a thread program
abbrev pub answer_on_rows : ProgramParts → (budget : ℕ) → ProgramData → List Row → Answer
answer_on_rows code budget d rows = with_groups (length rows) (run_each (code_units code budget) (map (row_slot_settings code.slots (slots_of_stage code.reading)) rows) d)

-- what comes behind a thread program that left this
abbrev pub answer_behind : ProgramParts → (budget : ℕ) → ProgramData → Answer → Answer
answer_behind code budget d stage = after_stage stage.ending stage (answer_on_rows code budget d)

-- the answer of a program that reads from a thread program whose answer is this function of its parameters, from this data
abbrev pub reader_answer_from : ProgramParts → (budget : ℕ) → (Row → Answer) → ProgramData → Answer
reader_answer_from code budget answers state = then_unit (code_init code budget state) (λ d. answer_behind code budget d (answers d.parameters))
