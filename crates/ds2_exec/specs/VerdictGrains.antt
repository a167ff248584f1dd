-- The grains of the verdicts on the thread programs of a source.
use Rattle.std.specs.Prelude.{List}
use Rattle.std.specs.List.{AllByRecursion}
use Rattle.ds2_meaning.specs.ProgramTree.{ProgramTree}
use Rattle.ds2_code.specs.declared.parts.StagedParts.{StagedParts}
use Rattle.ds2_verdicts.specs.OwnVerdicts.{StagesHaveVerdicts}
use Rattle.ds2_verdicts.specs.ThreadVerdicts.{verdict_named}
use Rattle.ds2_verdicts.specs.declared.verdicts.ThreadVerdict.{ThreadVerdict}
use Rattle.ds2_answer.specs.StoredCodes.{HaveCodes}
use Rattle.ds2_exec.specs.StageEnds.{GrainsFit}

-- where each thread program that programs read from has its own verdict, the loads of its code can be put into groups at the verdict's grain
abbrev pub VerdictGrainsFit : Type 0
VerdictGrainsFit = (verdicts : List ThreadVerdict) (programs : List ProgramTree) (codes : List StagedParts) → AllByRecursion (StagesHaveVerdicts verdicts) programs → HaveCodes programs codes
    → AllByRecursion (GrainsFit (verdict_named verdicts)) codes
