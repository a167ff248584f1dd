-- Outputs in code, by the slots of their columns.
use Rattle.std.specs.Prelude.{ℕ, List, [], ◌∷◌}
use Rattle.ds2_meaning.specs.declared.globals.OutputColumn.{OutputColumn}
use Rattle.ds2_meaning.specs.declared.globals.OutputTable.{OutputTable}
use Rattle.ds2_code.specs.declared.parts.OutputPart.{OutputPart}

-- columns with their slots
abbrev pub column_pairs : List OutputColumn → List ℕ → List (List ℕ × ℕ)
column_pairs [] slots = []
column_pairs (c ∷ columns) [] = []
column_pairs (c ∷ columns) (slot ∷ slots) = (c.name, slot) ∷ column_pairs columns slots

-- an output with the slots of its columns
abbrev pub output_part_by : OutputTable → List ℕ → OutputPart
output_part_by output slots = record { name = output.name; overwrites = output.overwrites; columns = column_pairs output.columns slots }

-- outputs with the slots of their columns
abbrev pub output_parts_by : List OutputTable → List (List ℕ) → List OutputPart
output_parts_by [] projections = []
output_parts_by (o ∷ outputs) [] = []
output_parts_by (o ∷ outputs) (slots ∷ projections) = output_part_by o slots ∷ output_parts_by outputs projections
