-- The code of thread programs is independent as the verdicts of their source say.
use Rattle.std.proofs.Common.{◌≡◌, ℕ, List, [], ◌∷◌, Some, sym, ◌∙◌, subst}
use Rattle.std.specs.List.{AllByRecursion}
use Rattle.ds2_meaning.specs.IsTyped.{IsTypedUnit, IsTypedProgram, ReadsNoStage}
use Rattle.ds2_meaning.specs.ProgramTree.{UnitTree, ProgramTree, OverTables, OverStage}
use Rattle.ds2_locality.specs.declared.locality.Verdict.{Verdict}
use Rattle.ds2_locality.specs.declared.locality.Verdict.TheVariants.{Local}
use Rattle.ds2_locality.specs.Soundness.{ObjectsTold}
use Rattle.ds2_locality.specs.Verdict.{JudgedThread, verdict_of}
use Rattle.ds2_verdicts.specs.OwnVerdicts.{HasOwnVerdict, StagesHaveVerdicts, ProgramsHaveVerdicts}
use Rattle.ds2_verdicts.specs.SourceVerdicts.{source_verdicts}
use Rattle.ds2_verdicts.specs.declared.verdicts.ThreadVerdict.{ThreadVerdict}
use Rattle.ds2_same_meaning.specs.SameAnswer.{HasNamedInstances}
use Rattle.ds2_same_meaning.specs.LocalGroups.{IsIndependentCode, LocalCodeHasIndependentGroups}
use Rattle.ds2_compile.specs.LocalStages.{StagesAreIndependent, LocalStagesAreIndependent}

same_verdict : (a b : Verdict) → Some a ≡ Some b → a ≡ b
same_verdict a b e = cc

-- what is known of a program is known of the thread program that it reads from
stage_typed : (p : UnitTree) (stage : ProgramTree) → IsTypedProgram (OverStage p stage) → IsTypedProgram stage
stage_typed p stage typed = typed.2

stage_named : (p : UnitTree) (stage : ProgramTree) → HasNamedInstances (OverStage p stage) → HasNamedInstances stage
stage_named p stage named = named.1

own_verdict : (verdicts : List ThreadVerdict) (p : UnitTree) (stage : ProgramTree) → StagesHaveVerdicts verdicts (OverStage p stage) → HasOwnVerdict verdicts stage
own_verdict verdicts p stage own = own.0

stage_verdicts : (verdicts : List ThreadVerdict) (p : UnitTree) (stage : ProgramTree) → StagesHaveVerdicts verdicts (OverStage p stage) → StagesHaveVerdicts verdicts stage
stage_verdicts verdicts p stage own = own.1

module _ (independent : LocalCodeHasIndependentGroups) where
  judged_code : (t : JudgedThread) (grain : ℕ) → ObjectsTold t → verdict_of t ≡ Local grain → IsTypedUnit t.program → ReadsNoStage t.program.reading
      → HasNamedInstances (OverTables t.program) → IsIndependentCode t.program grain
  judged_code t grain told local typed reads named = independent t typed reads named told grain local

  -- what the verdict says of the thread program that a program reads from, where that one reads tables
  own_independent : (verdicts : List ThreadVerdict) (p : UnitTree) (stage : ProgramTree) → IsTypedProgram stage → HasNamedInstances stage → HasOwnVerdict verdicts stage
      → StagesAreIndependent verdicts stage → StagesAreIndependent verdicts (OverStage p stage)
  own_independent verdicts p (OverTables q) typed named it rest = λ grain e.
      let t : JudgedThread = HasOwnVerdict.judged it in
      let local : verdict_of t ≡ Local grain = same_verdict (verdict_of t) (Local grain) (sym (HasOwnVerdict.verdict it) ∙ e) in
      let P : UnitTree → Type 0 = λ u. IsTypedUnit u → ReadsNoStage u.reading → HasNamedInstances (OverTables u) → IsIndependentCode u grain in
      subst P (HasOwnVerdict.program it) (judged_code t grain (HasOwnVerdict.told it) local) typed.0 typed.1 named
  own_independent verdicts p (OverStage q stage) typed named it rest = rest

  stages_independent : (verdicts : List ThreadVerdict) (p : ProgramTree) → IsTypedProgram p → HasNamedInstances p → StagesHaveVerdicts verdicts p → StagesAreIndependent verdicts p
  stages_independent verdicts (OverTables p) typed named own = tt
  stages_independent verdicts (OverStage p stage) typed named own =
      own_independent verdicts p stage (stage_typed p stage typed) (stage_named p stage named) (own_verdict verdicts p stage own)
      (stages_independent verdicts stage (stage_typed p stage typed) (stage_named p stage named) (stage_verdicts verdicts p stage own))

  all_independent : (verdicts : List ThreadVerdict) (programs : List ProgramTree) → AllByRecursion IsTypedProgram programs → AllByRecursion HasNamedInstances programs
      → AllByRecursion (StagesHaveVerdicts verdicts) programs → AllByRecursion (StagesAreIndependent verdicts) programs
  all_independent verdicts [] typed named own = tt
  all_independent verdicts (p ∷ programs) typed named own = (stages_independent verdicts p typed.0 named.0 own.0, all_independent verdicts programs typed.1 named.1 own.1)

pub local_stages_are_independent : ProgramsHaveVerdicts → LocalCodeHasIndependentGroups → LocalStagesAreIndependent
local_stages_are_independent have independent tables parts programs e typed named =
    all_independent independent (source_verdicts tables parts) programs typed named (have tables parts programs e)
