-- Which data program makes a table.
use Rattle.std.specs.Prelude.{ℕ, Bool, not, ◌&&◌, nat_eq, bytes_eq, codes, unwrap_or, List}
use Rattle.std.specs.Cmp.Lexicographic.{pointwise}
use Rattle.std.specs.HashMap.{HashMap, get}
use Rattle.std.specs.List.{list_any}
use Rattle.ds2_tree.specs.declared.units.OutputTable as source_output
use Rattle.ds2_names.specs.SourceUnit.{spelled_name}

-- the number of the program that makes a table, 0 where none does
abbrev pub maker_in : {S : Type 0} → HashMap (List ℕ) ℕ S → List ℕ → ℕ
maker_in makers name = unwrap_or (get (pointwise nat_eq) makers name) 0

-- an output makes the table of this name; `_null_` makes none
abbrev pub makes_one : source_output.OutputTable → List ℕ → Bool
makes_one o name = not (bytes_eq (spelled_name o.table) (codes "_null_")) && bytes_eq (spelled_name o.table) name

-- one of these outputs does
abbrev pub makes_table : List source_output.OutputTable → List ℕ → Bool
makes_table outputs name = list_any (λ o. makes_one o name) outputs
