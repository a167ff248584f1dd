-- The groups of independent code give the same whatever groups ran before them.
use Rattle.std.proofs.Common.{ℕ, zero, suc, false, List, [], ◌∷◌, ◌++◌, map, drop, sym, ap, ◌∙◌}
use Rattle.std.specs.List.{AllByRecursion}
use Rattle.std.proofs.Math.Seq.{drop-append_seam}
use Rattle.std.proofs.lemmas.List.{drop-map, map-append}
use Rattle.ds2_value.specs.Row.{Row, Columns}
use Rattle.ds2_table.specs.Table.{Contents, IsTable}
use Rattle.ds2_meaning.specs.Location.{Location, Content}
use Rattle.ds2_meaning.specs.ProgramTree.{UnitTree, OverTables, OverStage}
use Rattle.ds2_meaning.specs.Reading.{TableRows}
use Rattle.ds2_meaning.specs.TableLaws.{tables_at_opening, tables_mentioned}
use Rattle.ds2_program_code.specs.ProgramCode.{program_code}
use Rattle.ds2_code_answer.specs.CodeTables.{hash_references, program_references, first_read_table, tables_of_stage, columns_named, columns_had, AreTablesOfCode}
use Rattle.ds2_same_meaning.specs.SameAnswer.{staged_code, HaveRowsMentioned}
use Rattle.ds2_same_meaning.proofs.OpeningsAlike.{loaded_count, drop_front}
use Rattle.ds2_unit.specs.GroupedLoads.{loads_in_groups}
use Rattle.ds2_same_meaning.specs.CodeStates.{is_data_of_code, fixed_data}
use Rattle.ds2_same_meaning.specs.LocalGroups.{HasIndependentGroups}
use Rattle.ds2_group_job.specs.WhateverRan.{IsIndependentThread}
use Rattle.ds2_group_job.proofs.IndependentGroups.{independent_groups}
use Rattle.ds2_exec.specs.LocalThreads.{IndependentCodeGivesThread, IndependentCodeGivesStages}

independent : (q : UnitTree) (contents : List Contents) (budget grain : ℕ) → HasIndependentGroups q contents grain → IsIndependentThread (program_code q) contents budget grain
independent q contents budget grain has given first unit executed begun =
    independent_groups Location Content (program_code q) budget (loads_in_groups grain (program_code q) contents) first (is_data_of_code q) (fixed_data q) (λ n. false) has.free
    (has.begun budget given first unit executed begun)

pub code_gives_thread : IndependentCodeGivesThread
code_gives_thread q grain free tables contents budget rows whole fits = independent q contents budget grain (free tables contents rows whole fits)

-- ---- the tables of a thread program stand behind those of the hash objects of its reader

all_dropped : {A : Type 0} (P : A → Type 0) (n : ℕ) (xs : List A) → AllByRecursion P xs → AllByRecursion P (drop n xs)
all_dropped P zero xs h = h
all_dropped P (suc n) [] h = h
all_dropped P (suc n) (x ∷ xs) h = all_dropped P n xs h.1

module _ (p q : UnitTree) (tables : TableRows) (contents : List Contents) where
  abbrev own : List Contents
  own = tables_of_stage (program_code p) contents

  rows_behind : HaveRowsMentioned (OverStage p (OverTables q)) tables contents → HaveRowsMentioned (OverTables q) tables own
  rows_behind has =
      let n = first_read_table (program_code p) in
      let further = map tables (tables_mentioned (OverTables q)) in
      sym (drop-map (λ (t : Contents). t.rows) n contents)
      ∙ ap (λ (rows : List (List Row)). drop n rows) (has ∙ map-append tables (tables_at_opening p) (tables_mentioned (OverTables q)))
      ∙ ap (λ k. drop k (map tables (tables_at_opening p) ++ further)) (loaded_count p)
      ∙ drop_front tables (tables_at_opening p) further

  named_behind : AreTablesOfCode (staged_code (OverStage p (OverTables q))) contents → AreTablesOfCode (staged_code (OverTables q)) own
  named_behind are =
      let mine = hash_references (program_code p).hashes in
      let further = program_references (program_code q) [] in
      let n = first_read_table (program_code p) in
      sym (drop-map columns_had n contents)
      ∙ ap (λ (cs : List Columns). drop n cs) are
      ∙ drop-map columns_named n (mine ++ further)
      ∙ ap (map columns_named) (drop-append_seam mine further)

pub code_gives_stages : IndependentCodeGivesThread → IndependentCodeGivesStages
code_gives_stages law p q grain free tables contents budget rows whole fits =
    law q grain free tables (tables_of_stage (program_code p) contents) budget (rows_behind p q tables contents rows) (all_dropped IsTable (first_read_table (program_code p)) contents whole) (named_behind p q tables contents fits)
