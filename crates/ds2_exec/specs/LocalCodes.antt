-- Codes whose thread programs run on many workers.
use Rattle.std.specs.Prelude.{◌≡◌, ℕ, List, [], ◌∷◌, Option, Some}
use Rattle.std.specs.List.{AllByRecursion}
use Rattle.ds2_table.specs.Table.{Contents, IsTable}
use Rattle.ds2_code.specs.declared.parts.ProgramParts.{ProgramParts}
use Rattle.ds2_code.specs.declared.parts.StagedParts.{StagedParts}
use Rattle.ds2_code_answer.specs.CodeTables.{AreTablesOfCode}
use Rattle.ds2_group_job.specs.WhateverRan.{AreIndependentStages}
use Rattle.ds2_locality.specs.declared.locality.Verdict.{Verdict}
use Rattle.ds2_locality.specs.declared.locality.Verdict.TheVariants.{Local}
use Rattle.ds2_answer.specs.HeldTables.{HeldTables, tables_held}
use Rattle.ds2_answer.specs.StagesLeft.{VerdictsTold, name_of_stage}

-- a verdict, where one is told, says that a thread program is local
abbrev pub IsLocalVerdict : Option Verdict → Type 0
IsLocalVerdict verdict = (grain : ℕ) × (verdict ≡ Some (Local grain))

-- the verdict told of the one thread program that code reads from is that it is local by this grain
abbrev pub IsToldLocal : VerdictsTold → List ProgramParts → (grain : ℕ) → Type 0
IsToldLocal told [] grain = ⊥
IsToldLocal told (stage ∷ []) grain = told (name_of_stage stage.name) ≡ Some (Local grain)
IsToldLocal told (stage ∷ next ∷ stages) grain = ⊥

-- over these tables and with this budget, the groups of a thread program that is told to be local give the same at its grain whatever groups ran
-- before them
abbrev pub IsIndependentOver : VerdictsTold → StagedParts → List Contents → (budget : ℕ) → Type 0
IsIndependentOver told code tables budget = (grain : ℕ) → IsToldLocal told code.stages grain → AreIndependentStages code.program code.stages tables budget grain

-- so they do over any tables that are held with the columns that code names, and with every budget
abbrev pub IsIndependentWhereLocal : VerdictsTold → StagedParts → Type 0
IsIndependentWhereLocal told code =
    (held : HeldTables) (budget : ℕ) → AreTablesOfCode code (tables_held held code) → AllByRecursion IsTable (tables_held held code) → IsIndependentOver told code (tables_held held code) budget
