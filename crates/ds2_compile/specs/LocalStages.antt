-- The code of thread programs is independent as the verdicts of their source say.
use Rattle.std.specs.Prelude.{◌≡◌, ℕ, unwrap_or, List, [], Some, Ok}
use Rattle.std.specs.List.{AllByRecursion}
use Rattle.ds2_tree.specs.Units.{SourcePart}
use Rattle.ds2_meaning.specs.IsTyped.{IsTypedProgram}
use Rattle.ds2_meaning.specs.ProgramTree.{UnitTree, ProgramTree, OverTables, OverStage}
use Rattle.ds2_names.specs.SourceUnit.{TableColumns}
use Rattle.ds2_elaboration.specs.Elaboration.{elaborated_source}
use Rattle.ds2_locality.specs.declared.locality.Verdict.TheVariants.{Local}
use Rattle.ds2_verdicts.specs.SourceVerdicts.{source_verdicts}
use Rattle.ds2_verdicts.specs.ThreadVerdicts.{verdict_named}
use Rattle.ds2_verdicts.specs.declared.verdicts.ThreadVerdict.{ThreadVerdict}
use Rattle.ds2_same_meaning.specs.SameAnswer.{HasNamedInstances}
use Rattle.ds2_same_meaning.specs.LocalGroups.{IsIndependentCode}

-- where the verdict under the name of a thread program says that it is local, its code is independent at that grain
abbrev pub IsIndependentAsJudged : List ThreadVerdict → UnitTree → Type 0
IsIndependentAsJudged verdicts q = (grain : ℕ) → verdict_named verdicts (unwrap_or q.thread []) ≡ Some (Local grain) → IsIndependentCode q grain

-- so is that of the thread program over tables that a program reads from, or that the last one of its thread programs reads from
abbrev pub StagesAreIndependent : List ThreadVerdict → ProgramTree → Type 0
StagesAreIndependent verdicts (OverTables p) = Unit {0}
StagesAreIndependent verdicts (OverStage p (OverTables q)) = IsIndependentAsJudged verdicts q
StagesAreIndependent verdicts (OverStage p (OverStage q stage)) = StagesAreIndependent verdicts (OverStage q stage)

-- so it is in the typed programs that a source becomes, whose instances of thread programs have names
abbrev pub LocalStagesAreIndependent : Type 0
LocalStagesAreIndependent =
    (tables : TableColumns) (parts : List SourcePart) (programs : List ProgramTree) → elaborated_source tables parts ≡ Ok programs
    → AllByRecursion IsTypedProgram programs → AllByRecursion HasNamedInstances programs → AllByRecursion (StagesAreIndependent (source_verdicts tables parts)) programs
