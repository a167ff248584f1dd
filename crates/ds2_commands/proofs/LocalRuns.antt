-- The codes of a source whose thread programs are local run on many workers.
use Rattle.std.proofs.Common.{◌≡◌, ◌∙◌, ℕ, List, [], ◌∷◌, map, refl, sym, ap, subst}
use Rattle.std.specs.List.{AllByRecursion}
use Rattle.ds2_value.specs.Row.{Row}
use Rattle.ds2_table.specs.Table.{Contents}
use Rattle.ds2_code_answer.specs.CodeTables.{program_references, rows_of_each}
use Rattle.ds2_compile.specs.CompiledSources.{AreCompiledPrograms}
use Rattle.ds2_compile.specs.ProgramTree.{ProgramTree, OverTables, OverStage}
use Rattle.ds2_compile.specs.SameAnswer.{HaveRowsMentioned, staged_code}
use Rattle.ds2_compile.specs.SameMeaning.{MeansSame, table_referred}
use Rattle.ds2_compile.specs.SourceUnit.{TableColumns}
use Rattle.ds2_compile.specs.StagedParts.{StagedParts}
use Rattle.ds2_compile.specs.TableReference.{TableReference}
use Rattle.ds2_verdicts.specs.ThreadVerdicts.{verdict_named}
use Rattle.ds2_verdicts.specs.declared.verdicts.ThreadVerdict.{ThreadVerdict}
use Rattle.ds2_compile.specs.LocalStages.{StagesAreIndependent}
use Rattle.ds2_exec.specs.LocalThreads.{IndependentCodeGivesStages}
use Rattle.ds2_answer.specs.HeldTables.{HeldTables, rows_held, table_held, tables_held}
use Rattle.ds2_exec.specs.LocalCodes.{IsIndependentWhereLocal}

-- ---- the rows of tables that are held

rows_referred : (held : HeldTables) (references : List TableReference) → rows_of_each (map (table_held held) references) ≡ map (rows_held held) (map table_referred references)
rows_referred held [] = refl
rows_referred held (r ∷ references) = ap (λ (rows : List (List Row)). Contents.rows (table_held held r) ∷ rows) (rows_referred held references)

mentioned_held : (held : HeldTables) (p : ProgramTree) (code : StagedParts) → MeansSame p code → HaveRowsMentioned p (rows_held held) (tables_held held code)
mentioned_held held p code same = rows_referred held (program_references code.program code.stages) ∙ ap (map (rows_held held)) same.tables

-- ---- codes

module _ (law : IndependentCodeGivesStages) (verdicts : List ThreadVerdict) where
  -- that of one program
  independent_code : (p : ProgramTree) → MeansSame p (staged_code p) → StagesAreIndependent verdicts p → IsIndependentWhereLocal (verdict_named verdicts) (staged_code p)
  independent_code (OverTables u) same judged = λ held budget of_code tables grain local. absurd local
  independent_code (OverStage u (OverTables q)) same judged = λ held budget of_code tables grain local.
      let p = OverStage u (OverTables q) in
      law u q grain (judged grain local) (rows_held held) (tables_held held (staged_code p)) budget (mentioned_held held p (staged_code p) same) tables of_code
  independent_code (OverStage u (OverStage q stage)) same judged = λ held budget of_code tables grain local. absurd local

  -- those of all of them
  pub independent_codes : (names : List (List ℕ)) (tables : TableColumns) (programs : List ProgramTree) (object : List StagedParts) → AreCompiledPrograms names tables programs object
      → AllByRecursion (StagesAreIndependent verdicts) programs → AllByRecursion (IsIndependentWhereLocal (verdict_named verdicts)) object
  independent_codes names tables [] [] are judged = tt
  independent_codes names tables [] (code ∷ object) are judged = absurd are
  independent_codes names tables (p ∷ programs) [] are judged = absurd are
  independent_codes names tables (p ∷ programs) (code ∷ object) (is, are) (judged, others) = (
    subst (λ (code : StagedParts). IsIndependentWhereLocal (verdict_named verdicts) code) (sym is.written)
        (independent_code p (subst (λ (code : StagedParts). MeansSame p code) is.written is.same) judged),
    independent_codes names tables programs object are others,
  )
