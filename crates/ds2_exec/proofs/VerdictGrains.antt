-- The grain of a verdict fits the code of its thread program.
use Rattle.std.proofs.Common.{◌≡◌, ◌≤◌, ◌∙◌, ℕ, zero, suc, List, [], ◌∷◌, drop, get_or, length, map, unwrap_or, Option, Some, None, refl, sym, ap, subst, arith}
use Rattle.std.specs.List.{AllByRecursion}
use Rattle.ds2_meaning.specs.ProgramTree.{UnitTree, ProgramTree, OverTables, OverStage, reader_of}
use Rattle.ds2_meaning.specs.Reading.{bys_of}
use Rattle.ds2_code.specs.declared.parts.ProgramParts.{ProgramParts}
use Rattle.ds2_code.specs.declared.parts.ReadingPart.{ReadingPart}
use Rattle.ds2_code.specs.declared.parts.ReadingPart.TheVariants as reading
use Rattle.ds2_unit.specs.Grains.{IsGrainOf, IsGrainOfReading}
use Rattle.ds2_locality.specs.declared.locality.Verdict.{Verdict}
use Rattle.ds2_locality.specs.declared.locality.Verdict.TheVariants.{Local, NotLocal}
use Rattle.ds2_locality.specs.Verdict.{JudgedThread, LocalIsGreatest, coarsest, verdict_of}
use Rattle.ds2_same_meaning.specs.SameAnswer.{programs_in_chain}
use Rattle.ds2_same_meaning.specs.SameMeaning.{number_of_bys}
use Rattle.ds2_verdicts.specs.OwnVerdicts.{HasOwnVerdict, StagesHaveVerdicts}
use Rattle.ds2_verdicts.specs.ThreadVerdicts.{verdict_named}
use Rattle.ds2_verdicts.specs.declared.verdicts.ThreadVerdict.{ThreadVerdict}
use Rattle.ds2_answer.specs.StagesLeft.{grain_told, name_of_stage}
use Rattle.ds2_exec.specs.StageEnds.{GrainFits}
use Rattle.ds2_exec.specs.VerdictGrains.{VerdictGrainsFit}
use Rattle.ds2_exec.proofs.CodeSteps.{plain_fits}

-- ---- one thread program

-- a grain for so many BY variables is one of a reading that has as many
of_reading : (r : ReadingPart) (grain : ℕ) → IsGrainOf (number_of_bys r) grain → IsGrainOfReading r grain
of_reading (reading.Set tables bys) grain is = is
of_reading (reading.Merge tables bys retains) grain is = is
of_reading (reading.Stage threads slots) grain is = is
of_reading reading.Once grain is = is
of_reading reading.Nothing grain is = is

-- a grain from the coarsest one on to the number of BY variables
between : (bys grain : ℕ) → coarsest bys ≤ grain → grain ≤ bys → IsGrainOf bys grain
between zero grain some few = record { within = few; above = λ one. absurd (omega (arith, one)) }
between (suc n) grain some few = record { within = few; above = λ one. some }

verdict_fits : LocalIsGreatest → (t : JudgedThread) (v : Verdict) → verdict_of t ≡ v → IsGrainOf (length (bys_of t.program.reading)) (grain_told (Some v) (length (bys_of t.program.reading)))
verdict_fits law t (Local grain) is = let greatest = (law t grain is).1 in between (length (bys_of t.program.reading)) grain greatest.some greatest.few
verdict_fits law t (NotLocal reason place) is = plain_fits (length (bys_of t.program.reading))

stage_fits : LocalIsGreatest → (verdicts : List ThreadVerdict) (p : ProgramTree) (part : ProgramParts) → part.name ≡ (reader_of p).thread → number_of_bys part.reading ≡ length (bys_of (reader_of p).reading) → HasOwnVerdict verdicts p
    → GrainFits (verdict_named verdicts) part
stage_fits law verdicts p part name_is bys_are own =
    let bys : number_of_bys part.reading ≡ length (bys_of own.judged.program.reading) = bys_are ∙ ap (λ (u : UnitTree). length (bys_of u.reading)) (sym own.program) in
    let told : verdict_named verdicts (name_of_stage part.name) ≡ Some (verdict_of own.judged) = ap (λ (n : Option (List ℕ)). verdict_named verdicts (unwrap_or n [])) name_is ∙ own.verdict in
    of_reading part.reading (grain_told (verdict_named verdicts (name_of_stage part.name)) (number_of_bys part.reading))
    (subst (λ (v : Option Verdict). IsGrainOf (number_of_bys part.reading) (grain_told v (number_of_bys part.reading))) (sym told)
    (subst (λ (n : ℕ). IsGrainOf n (grain_told (Some (verdict_of own.judged)) n)) (sym bys) (verdict_fits law own.judged (verdict_of own.judged) refl)))

-- ---- chains

abbrev names_of : List ProgramParts → List (Option (List ℕ))
names_of parts = map (λ (part : ProgramParts). part.name) parts

abbrev bys_in : List ProgramParts → List ℕ
bys_in parts = map (λ (part : ProgramParts). number_of_bys part.reading) parts

abbrev threads_of : List UnitTree → List (Option (List ℕ))
threads_of units = map (λ (unit : UnitTree). unit.thread) units

abbrev bys_read : List UnitTree → List ℕ
bys_read units = map (λ (unit : UnitTree). length (bys_of unit.reading)) units

first_thread : (p : ProgramTree) → get_or (threads_of (programs_in_chain p)) 0 None ≡ (reader_of p).thread
first_thread (OverTables u) = refl
first_thread (OverStage u stage) = refl

first_bys : (p : ProgramTree) → get_or (bys_read (programs_in_chain p)) 0 0 ≡ length (bys_of (reader_of p).reading)
first_bys (OverTables u) = refl
first_bys (OverStage u stage) = refl

never_empty : (p : ProgramTree) → [] ≡ threads_of (programs_in_chain p) → ⊥
never_empty (OverTables u) h = cc
never_empty (OverStage u stage) h = cc

module _ (law : LocalIsGreatest) (verdicts : List ThreadVerdict) where
  all_fit : (p : ProgramTree) (part : ProgramParts) (stages : List ProgramParts) → names_of (part ∷ stages) ≡ threads_of (programs_in_chain p) → bys_in (part ∷ stages) ≡ bys_read (programs_in_chain p)
      → StagesHaveVerdicts verdicts p → AllByRecursion (GrainFits (verdict_named verdicts)) stages
  all_fit (OverTables u) part [] names bys have = tt
  all_fit (OverTables u) part (s ∷ stages) names bys have = absurd (let none = ap (drop 1) names in cc none)
  all_fit (OverStage u q) part [] names bys have = absurd (never_empty q (ap (drop 1) names))
  all_fit (OverStage u q) part (s ∷ stages) names bys (own, have) =
      let names_then : names_of (s ∷ stages) ≡ threads_of (programs_in_chain q) = ap (drop 1) names in
      let bys_then : bys_in (s ∷ stages) ≡ bys_read (programs_in_chain q) = ap (drop 1) bys in (
        stage_fits law verdicts q s (ap (λ (l : List (Option (List ℕ))). get_or l 0 None) names_then ∙ first_thread q) (ap (λ (l : List ℕ). get_or l 0 0) bys_then ∙ first_bys q) own,
        all_fit q s stages names_then bys_then have,
      )

pub verdict_grains_fit : LocalIsGreatest → VerdictGrainsFit
verdict_grains_fit law verdicts [] [] own have = tt
verdict_grains_fit law verdicts [] (code ∷ codes') own have = absurd have
verdict_grains_fit law verdicts (p ∷ programs) [] own have = absurd have
verdict_grains_fit law verdicts (p ∷ programs) (code ∷ codes') (own, others) (same, have) =
    (all_fit law verdicts p code.program code.stages same.names same.bys own, verdict_grains_fit law verdicts programs codes' others have)
