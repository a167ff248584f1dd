-- The code of a thread program that is independent at a grain, as the runtime asks for it.
use Rattle.std.specs.List.{AllByRecursion}
use Rattle.std.specs.Prelude.{ℕ, List, [], ◌∷◌}
use Rattle.ds2_table.specs.Table.{Contents, IsTable}
use Rattle.ds2_meaning.specs.ProgramTree.{UnitTree, OverTables, OverStage}
use Rattle.ds2_meaning.specs.Reading.{TableRows}
use Rattle.ds2_program_code.specs.ProgramCode.{program_code}
use Rattle.ds2_code_answer.specs.CodeTables.{AreTablesOfCode}
use Rattle.ds2_same_meaning.specs.SameAnswer.{staged_code, HaveRowsMentioned}
use Rattle.ds2_same_meaning.specs.LocalGroups.{IsIndependentCode}
use Rattle.ds2_group_job.specs.WhateverRan.{IsIndependentThread, AreIndependentStages}

-- a thread program over tables whose code is independent at a grain may run on many workers there, over any tables of the code and on every
-- budget
abbrev pub IndependentCodeGivesThread : Type 0
IndependentCodeGivesThread = (q : UnitTree) (grain : ℕ) → IsIndependentCode q grain → (tables : TableRows) (contents : List Contents) (budget : ℕ) → HaveRowsMentioned (OverTables q) tables contents
    → AllByRecursion IsTable contents → AreTablesOfCode (staged_code (OverTables q)) contents → IsIndependentThread (program_code q) contents budget grain

-- so may one from which a program reads, over the tables of that program's code
abbrev pub IndependentCodeGivesStages : Type 0
IndependentCodeGivesStages = (p q : UnitTree) (grain : ℕ) → IsIndependentCode q grain → (tables : TableRows) (contents : List Contents) (budget : ℕ) → HaveRowsMentioned (OverStage p (OverTables q)) tables contents
    → AllByRecursion IsTable contents → AreTablesOfCode (staged_code (OverStage p (OverTables q))) contents → AreIndependentStages (program_code p) (program_code q ∷ []) contents budget grain
