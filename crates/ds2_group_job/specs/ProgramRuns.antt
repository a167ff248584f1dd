-- A program that can be run with the thread programs below it.
use Rattle.std.specs.Prelude.{◌≡◌, ◌+◌, ◌≤◌, IfSome, List, Some, drop, slice_get}
use Rattle.ds2_value.specs.Row.{Row}
use Rattle.ds2_table.specs.OneThread.{Answer}
use Rattle.ds2_table.specs.Table.{Contents}
use Rattle.ds2_code.specs.Desk.{ProgramData}
use Rattle.ds2_code.specs.declared.parts.StagedParts.{StagedParts}
use Rattle.ds2_machine.specs.declared.machine.TheConstants.{MOST_BUDGET}
use Rattle.ds2_code_answer.specs.CodeAnswer.{code_answer}
use Rattle.ds2_code_answer.specs.CodeTables.{AreTablesOfCode, tables_of_stage}
use Rattle.ds2_unit.specs.ProgramRun.{grain_asked}
use Rattle.ds2_unit.specs.Threads.{AreGrainsOf, chain_answer, reader_answer_from}
use Rattle.ds2_unit.specs.declared.reader.ReaderRun.{ReaderRun}
use Rattle.ds2_group_job.specs.WhateverRan.{AreIndependentStages}
use Rattle.ds2_group_job.specs.declared.program_run.ProgramRun.{ProgramRun}

-- a program with the thread programs below it can be run over these tables; where groups of the one that reads tables may run on workers, these
-- are 1 to 64, and each group gives the same whatever groups ran before it
pub record IsReadyOver (p : ProgramRun) (chain : StagedParts) (over : List Contents) : Type 0 where
  pub tables : AreTablesOfCode chain over
  pub budget : p.budget ≤ MOST_BUDGET
  pub grains : AreGrainsOf chain.stages p.grains.now
  pub workers : IfSome p.workers (λ n. (1 ≤ n) × (n ≤ 64))
  pub independent : IfSome p.workers (λ _. AreIndependentStages chain.program chain.stages over p.budget (grain_asked p.grains.now))

-- so can the program over its tables
abbrev pub IsProgramReady : ProgramRun → Type 0
IsProgramReady p = IsReadyOver p p.code.now p.tables.now

-- its one-thread answer at the grain that is asked
abbrev pub answer_of_program : ProgramRun → Answer
answer_of_program p = code_answer p.code.now p.tables.now p.budget (grain_asked p.grains.now)

-- so can a program of its chain that reads from the next one
pub record IsReadyBelow (p : ProgramRun) (r : ReaderRun) : Type 0 where
  pub stage : slice_get r.place.code.now.stages r.place.number ≡ Some r.stage.now
  pub ready : IsReadyOver p (record { program = r.place.program.now; stages = drop r.place.number r.place.code.now.stages }) r.place.tables.now

-- the answer of the thread program that it reads from, with those below that one, to these values of its parameters
abbrev pub answer_below : ProgramRun → ReaderRun → Row → Answer
answer_below p r given =
    chain_answer r.stage.now (drop (r.place.number + 1) r.place.code.now.stages) (tables_of_stage r.place.program.now r.place.tables.now) p.budget (grain_asked p.grains.now) given

-- the answer of a program that reads from one, from this data
abbrev pub answer_of_reader : ProgramRun → ReaderRun → ProgramData → Answer
answer_of_reader p r begun = reader_answer_from r.place.program.now p.budget (answer_below p r) begun
