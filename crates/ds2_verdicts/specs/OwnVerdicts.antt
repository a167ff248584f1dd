-- The thread programs that the programs of a source read from, and the verdicts on them.
use Rattle.std.specs.Prelude.{◌≡◌, unwrap_or, List, [], Some, Ok}
use Rattle.std.specs.List.{AllByRecursion}
use Rattle.ds2_tree.specs.Units.{SourcePart}
use Rattle.ds2_meaning.specs.ProgramTree.{ProgramTree, OverTables, OverStage, reader_of}
use Rattle.ds2_names.specs.SourceUnit.{TableColumns}
use Rattle.ds2_elaboration.specs.Elaboration.{elaborated_source}
use Rattle.ds2_locality.specs.Soundness.{ObjectsTold}
use Rattle.ds2_locality.specs.Verdict.{JudgedThread, verdict_of}
use Rattle.ds2_verdicts.specs.SourceVerdicts.{source_verdicts}
use Rattle.ds2_verdicts.specs.ThreadVerdicts.{verdict_named}
use Rattle.ds2_verdicts.specs.declared.verdicts.ThreadVerdict.{ThreadVerdict}

-- the verdict under the name of a thread program is the one on it, judged with all its hash objects and iterators
pub record HasOwnVerdict (verdicts : List ThreadVerdict) (p : ProgramTree) : Type 0 where
  pub judged : JudgedThread
  pub program : judged.program ≡ reader_of p
  pub told : ObjectsTold judged
  pub verdict : verdict_named verdicts (unwrap_or (reader_of p).thread []) ≡ Some (verdict_of judged)

-- so it is for each thread program that a program reads from
abbrev pub StagesHaveVerdicts : List ThreadVerdict → ProgramTree → Type 0
StagesHaveVerdicts verdicts (OverTables p) = Unit {0}
StagesHaveVerdicts verdicts (OverStage p stage) = HasOwnVerdict verdicts stage × StagesHaveVerdicts verdicts stage

-- each thread program that a program of a source reads from has its verdict among those of the source
abbrev pub ProgramsHaveVerdicts : Type 0
ProgramsHaveVerdicts = (tables : TableColumns) (parts : List SourcePart) (programs : List ProgramTree) → elaborated_source tables parts ≡ Ok programs
    → AllByRecursion (StagesHaveVerdicts (source_verdicts tables parts)) programs
