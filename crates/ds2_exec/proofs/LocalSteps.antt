-- The grain of a local thread program, and what its groups give there.
use Rattle.std.proofs.Common.{◌≡◌, ◌≤◌, ◌∙◌, ℕ, List, [], ◌∷◌, get_or, length, map, Option, Some, None, IfSome, sym, ap, subst, arith}
use Rattle.std.specs.List.{AllByRecursion}
use Rattle.ds2_table.specs.Table.{Contents, IsTable}
use Rattle.ds2_code.specs.declared.parts.ProgramParts.{ProgramParts}
use Rattle.ds2_code.specs.declared.parts.StagedParts.{StagedParts}
use Rattle.ds2_code_answer.specs.CodeTables.{AreTablesOfCode}
use Rattle.ds2_group_job.specs.WhateverRan.{AreIndependentStages}
use Rattle.ds2_locality.specs.declared.locality.Verdict.{Verdict}
use Rattle.ds2_locality.specs.declared.locality.Verdict.TheVariants.{Local}
use Rattle.ds2_same_meaning.specs.SameMeaning.{number_of_bys}
use Rattle.ds2_answer.specs.HeldTables.{HeldTables, tables_held}
use Rattle.ds2_answer.specs.ObjectPlans.{stage_in_code, stages_of_code}
use Rattle.ds2_answer.specs.StagesLeft.{VerdictsTold, grain_of_stages, grain_told}
use Rattle.ds2_verdicts.specs.ThreadVerdicts.{verdict_named}
use Rattle.ds2_exec.specs.LocalCodes.{IsIndependentOver, IsIndependentWhereLocal, IsLocalVerdict, IsToldLocal}
use Rattle.ds2_exec.specs.StageEnds.{judged_stages, last_verdict}

-- the one thread program of a list
pub only_one : (stages : List ProgramParts) (stage : ProgramParts) → length stages ≡ 1 → stage ≡ get_or stages 0 stage → stages ≡ stage ∷ []
only_one [] stage one is = absurd (omega (arith, one))
only_one (s ∷ []) stage one is = ap (λ (x : ProgramParts). x ∷ []) (sym is)
only_one (s ∷ t ∷ stages) stage one is = absurd (omega (arith, one))

-- the grain that is asked for a local thread program is that of its verdict
local_asked : (told : VerdictsTold) (stages : List ProgramParts) (grain : ℕ) → IsToldLocal told stages grain → grain_of_stages told (map stage_in_code stages) ≡ grain
local_asked told [] grain is = absurd is
local_asked told (stage ∷ []) grain is = ap (λ (v : Option Verdict). grain_told v (number_of_bys stage.reading)) is
local_asked told (stage ∷ next ∷ stages) grain is = absurd is

pub independent_asked : (told : VerdictsTold) (code : StagedParts) (tables : List Contents) (budget grain asked : ℕ) → IsToldLocal told code.stages grain → asked ≡ grain_of_stages told (stages_of_code code)
    → IsIndependentOver told code tables budget → AreIndependentStages code.program code.stages tables budget asked
independent_asked told code tables budget grain asked is asked_is independent =
    subst (λ (g : ℕ). AreIndependentStages code.program code.stages tables budget g) (sym (asked_is ∙ local_asked told code.stages grain is)) (independent grain is)

-- a verdict that is told on the last of at most one thread program, and says that it is local
told_local : (told : VerdictsTold) (stages : List ProgramParts) (verdict : Option Verdict) (grain : ℕ) → length stages ≤ 1 → verdict ≡ last_verdict None (judged_stages told stages) → verdict ≡ Some (Local grain) → IsToldLocal told stages grain
told_local told [] verdict grain few verdict_is local = absurd (cc (sym verdict_is ∙ local))
told_local told (stage ∷ []) verdict grain few verdict_is local = sym verdict_is ∙ local
told_local told (stage ∷ next ∷ stages) verdict grain few verdict_is local = absurd (omega (arith, few))

-- where its groups may run on workers, since its verdict says that it is local
pub independent_given : (told : VerdictsTold) (code : StagedParts) (tables : List Contents) (budget asked : ℕ) (verdict : Option Verdict) → length code.stages ≤ 1 → verdict ≡ last_verdict None (judged_stages told code.stages)
    → asked ≡ grain_of_stages told (stages_of_code code) → IsIndependentOver told code tables budget → (workers : Option ℕ) → IfSome workers (λ _. IsLocalVerdict verdict)
    → IfSome workers (λ _. AreIndependentStages code.program code.stages tables budget asked)
independent_given told code tables budget asked verdict few verdict_is asked_is independent None local = local
independent_given told code tables budget asked verdict few verdict_is asked_is independent (Some n) local =
    independent_asked told code tables budget local.0 asked (told_local told code.stages verdict local.0 few verdict_is local.1) asked_is independent

-- where no verdict is told, no thread program is told to be local
none_told : (stages : List ProgramParts) (grain : ℕ) → IsToldLocal (verdict_named []) stages grain → ⊥
none_told [] grain is = is
none_told (stage ∷ []) grain is = absurd cc
none_told (stage ∷ next ∷ stages) grain is = is

pub none_local : (codes' : List StagedParts) → AllByRecursion (IsIndependentWhereLocal (verdict_named [])) codes'
none_local [] = tt
none_local (code ∷ codes') = ((λ held budget fits whole grain is. absurd (none_told code.stages grain is)), none_local codes')

-- tables that are held are tables of the code over which its thread program is independent
pub independent_held : (told : VerdictsTold) (code : StagedParts) (held : HeldTables) (tables : List Contents) (budget : ℕ) → tables ≡ tables_held held code → AllByRecursion IsTable tables
    → AreTablesOfCode code (tables_held held code) → IsIndependentWhereLocal told code → IsIndependentOver told code tables budget
independent_held told code held tables budget tables_are whole fits independent =
    subst (λ (ts : List Contents). IsIndependentOver told code ts budget) (sym tables_are)
    (independent held budget fits (subst (λ (ts : List Contents). AllByRecursion IsTable ts) tables_are whole))

-- the first of the codes that are left, and those behind it
pub first_local : (told : VerdictsTold) (left after : List StagedParts) (code : StagedParts) → left ≡ code ∷ after → AllByRecursion (IsIndependentWhereLocal told) left
    → IsIndependentWhereLocal told code × AllByRecursion (IsIndependentWhereLocal told) after
first_local told left after code is all = subst (λ (cs : List StagedParts). AllByRecursion (IsIndependentWhereLocal told) cs) is all
