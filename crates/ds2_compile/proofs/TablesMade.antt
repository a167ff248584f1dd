-- The tables that a program makes, by its source and by what it becomes.
use Rattle.std.proofs.Common.{◌≡◌, ℕ, bytes_eq, codes, Bool, true, false, not, List, [], ◌∷◌, map, filter, cond, refl, ap}
use Rattle.ds2_tree.specs.declared.units.OutputTable as source_output
use Rattle.ds2_meaning.specs.declared.readings.MentionedTable.{MentionedTable}
use Rattle.ds2_names.specs.SourceLimits.{tables_made_by}
use Rattle.ds2_names.specs.SourceUnit.{TableColumns, UnitSource, spelled_name}
use Rattle.ds2_elaboration.specs.ProgramTypes.{made_output}
use Rattle.ds2_elaboration.specs.UnitsBefore.{UnitsBefore}
use Rattle.ds2_compile.specs.TablesBehind.{mention_of_output}

module _ (number : ℕ) (tables : TableColumns) (before : UnitsBefore) (u : UnitSource) where
  -- the tables of the outputs that are kept
  pub outputs_made : (outputs : List source_output.OutputTable)
      → map (mention_of_output number) (map (made_output tables before u) (filter (λ (o : source_output.OutputTable). not (bytes_eq (spelled_name o.table) (codes "_null_"))) outputs))
      ≡ tables_made_by number outputs
  outputs_made [] = refl
  outputs_made (o ∷ outputs) = by (bytes_eq (spelled_name o.table) (codes "_null_")) (outputs_made outputs)
    where
      by : (null : Bool)
          → map (mention_of_output number) (map (made_output tables before u) (filter (λ (o : source_output.OutputTable). not (bytes_eq (spelled_name o.table) (codes "_null_"))) outputs)) ≡ tables_made_by number outputs
          → map (mention_of_output number)
          (map (made_output tables before u)
          (cond (not null) (o ∷ filter (λ (o : source_output.OutputTable). not (bytes_eq (spelled_name o.table) (codes "_null_"))) outputs)
          (filter (λ (o : source_output.OutputTable). not (bytes_eq (spelled_name o.table) (codes "_null_"))) outputs)))
          ≡ map (λ (name : List ℕ). record { name = name; maker = number })
          (cond (not null) (spelled_name o.table ∷ filter (λ (name : List ℕ). not (bytes_eq name (codes "_null_"))) (map (λ (o : source_output.OutputTable). spelled_name o.table) outputs))
          (filter (λ (name : List ℕ). not (bytes_eq name (codes "_null_"))) (map (λ (o : source_output.OutputTable). spelled_name o.table) outputs)))
      by true others = others
      by false others = ap (λ (ts : List MentionedTable). record { name = spelled_name o.table; maker = number } ∷ ts) others
