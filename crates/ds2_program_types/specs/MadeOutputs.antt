-- The outputs that a program makes, by their names.
use Rattle.std.specs.Prelude.{◌≡◌, ℕ, ◌+◌, nat_eq, bytes_eq, codes, if◌then◌else◌, List, map, position, Option, Some, None}
use Rattle.std.specs.Cmp.Lexicographic.{pointwise}
use Rattle.std.specs.HashMap.{HashMap, get}
use Rattle.ds2_tree.specs.declared.units.OutputTable.{OutputTable}
use Rattle.ds2_names.specs.SourceUnit.{spelled_name}
use Rattle.ds2_unit_parts.specs.TypedOutputs.{made_among}

-- the names of those that are made
abbrev pub names_made : List OutputTable → List (List ℕ)
names_made outputs = map (λ (o : OutputTable). spelled_name o.table) (made_among outputs)

-- the name of an output, where it is not `_null_`
abbrev pub made_if : OutputTable → Option (List ℕ)
made_if o = if bytes_eq (spelled_name o.table) (codes "_null_") then None else Some (spelled_name o.table)

-- the number behind such an output
abbrev pub number_behind_output : ℕ → Option (List ℕ) → ℕ
number_behind_output number None = number
number_behind_output number (Some made) = number + 1

-- such an output of this number, where the name is this one
abbrev pub number_if_made : List ℕ → ℕ → Option (List ℕ) → Option ℕ
number_if_made name number None = None
number_if_made name number (Some made) = if bytes_eq made name then Some number else None

-- a table tells of each name the number of the first of these outputs that has it
abbrev pub HasNumbers : {S : Type 0} → HashMap (List ℕ) ℕ S → List (List ℕ) → Type 0
HasNumbers table outputs = (name : List ℕ) → get (pointwise nat_eq) table name ≡ position (λ output. bytes_eq output name) outputs
