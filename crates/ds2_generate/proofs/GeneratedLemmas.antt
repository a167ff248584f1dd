-- What the laws of the code of typed programs say of code that is written.
use Rattle.std.proofs.Common.{◌≡◌, ◌∷◌, Option, Some, None, Result, Ok, Err, SomeIff, IfOk, IsSome, IfSome, refl, sym, subst}
use Rattle.ds2_meaning.specs.IsTyped.{IsTypedUnit, IsTypedProgram, IsTypedDataProgram}
use Rattle.ds2_meaning.specs.ProgramTree.{UnitTree, ProgramTree, OverTables, OverStage}
use Rattle.ds2_code.specs.declared.parts.StagedParts.{StagedParts}
use Rattle.ds2_code.specs.ValidCode.{IsValidStaged}
use Rattle.ds2_program_code.specs.Opening.{TypedProgramsOpenAlike}
use Rattle.ds2_program_code.specs.ProgramCode.{program_code}
use Rattle.ds2_program_code.specs.ProgramRuns.{TypedUnitsRunAsMeant}
use Rattle.ds2_program_code.specs.ValidProgram.{TypedStagesAreValid}
use Rattle.ds2_program_code.specs.CountsByWay.{TypedUnitsCountByWay}
use Rattle.ds2_generate.specs.Generated.{codes_of, code_with_stages, DoesAs, DoAllAs, FitsStagedLimits}

module _ (runs : TypedUnitsRunAsMeant) (opens : TypedProgramsOpenAlike) (counts : TypedUnitsCountByWay) where
  does_as : (p : UnitTree) → IsTypedUnit p → DoesAs p (program_code p)
  does_as p typed = record {
    opens = λ tables values. opens p tables values typed;
    in_init = (runs p typed).in_init;
    over_tables = (runs p typed).over_tables;
    of_rows = (runs p typed).of_rows;
    in_term = (runs p typed).in_term;
    counts = counts p typed;
  }

  all_do : (t : ProgramTree) → DoAllAs t (codes_of t)
  all_do (OverTables p) = does_as p
  all_do (OverStage p stage) = (does_as p, all_do stage)

  staged_do : (t : ProgramTree) → DoAllAs t ((code_with_stages t).program ∷ (code_with_stages t).stages)
  staged_do (OverTables p) = does_as p
  staged_do (OverStage p stage) = (does_as p, all_do stage)

  -- code that is that of a program where it is there does what the program means
  pub meant_where_there : (t : ProgramTree) (o : Option StagedParts) → SomeIff o (IsValidStaged (code_with_stages t)) (code_with_stages t) → IfSome o (λ (code : StagedParts). DoAllAs t (code.program ∷ code.stages))
  meant_where_there t None is = tt
  meant_where_there t (Some code) is = subst (λ (c : StagedParts). DoAllAs t (c.program ∷ c.stages)) (sym is.1) (staged_do t)

-- the thread program of a typed program is typed
below_typed : (p : UnitTree) (t : ProgramTree) → IsTypedProgram (OverStage p t) → IsTypedProgram t
below_typed p t typed = typed.2

module _ (valid : TypedStagesAreValid) where
  valid_staged : (t : ProgramTree) → IsTypedProgram t → FitsStagedLimits t → IsValidStaged (code_with_stages t)
  valid_staged (OverTables p) typed fits = valid.over_tables p typed.0 typed.1 fits
  valid_staged (OverStage p (OverTables stage)) typed fits =
      let below = below_typed p (OverTables stage) typed in
      valid.over_stage p stage typed.0 typed.1 below.0 below.1 fits.0 fits.1
  valid_staged (OverStage p (OverStage stage further)) typed fits = absurd fits

  -- code that is there exactly where it is valid is there where the program is typed and within limits
  pub there_within_limits : (t : ProgramTree) (o : Option StagedParts) → SomeIff o (IsValidStaged (code_with_stages t)) (code_with_stages t) → IsTypedDataProgram t → FitsStagedLimits t → IsSome o
  there_within_limits t None is typed fits = absurd (is (valid_staged t typed.0 fits))
  there_within_limits t (Some code) is typed fits = refl

-- ---- what `verify` answers

-- the test of these parts is that of the program's code
pub verified : {E : Type 0} (t : ProgramTree) (parts : StagedParts) (r : Result (Option StagedParts) E) → parts ≡ code_with_stages t
    → IfOk r (λ made. SomeIff made (IsValidStaged parts) parts) → IfOk r (λ made. SomeIff made (IsValidStaged (code_with_stages t)) (code_with_stages t))
verified t parts r is h = subst (λ (c : StagedParts). IfOk r (λ made. SomeIff made (IsValidStaged c) c)) is h

pub meant_if_made : {E : Type 0} → TypedUnitsRunAsMeant → TypedProgramsOpenAlike → TypedUnitsCountByWay → (t : ProgramTree) (r : Result (Option StagedParts) E)
    → IfOk r (λ made. SomeIff made (IsValidStaged (code_with_stages t)) (code_with_stages t)) → IfOk r (λ made. IfSome made (λ (code : StagedParts). DoAllAs t (code.program ∷ code.stages)))
meant_if_made runs opens counts t (Ok made) h = meant_where_there runs opens counts t made h
meant_if_made runs opens counts t (Err e) h = tt

pub there_if_made : {E : Type 0} → TypedStagesAreValid → (t : ProgramTree) (r : Result (Option StagedParts) E)
    → IfOk r (λ made. SomeIff made (IsValidStaged (code_with_stages t)) (code_with_stages t)) → IfOk r (λ made. IsTypedDataProgram t → FitsStagedLimits t → IsSome made)
there_if_made valid t (Ok made) h = λ typed fits. there_within_limits valid t made h typed fits
there_if_made valid t (Err e) h = tt
