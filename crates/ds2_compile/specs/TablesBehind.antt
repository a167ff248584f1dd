-- What the outputs of a typed program are for the programs behind it: tables that a mention may mean, and columns.
use Rattle.std.specs.Prelude.{◌≡◌, ℕ, true, List, [], ◌∷◌}
use Rattle.std.specs.List.{AllByRecursion}
use Rattle.ds2_value.specs.Schema.{is_schema}
use Rattle.ds2_meaning.specs.ProgramMeaning.{output_columns}
use Rattle.ds2_meaning.specs.declared.globals.OutputTable.{OutputTable}
use Rattle.ds2_meaning.specs.declared.readings.MentionedTable.{MentionedTable}
use Rattle.ds2_meaning.specs.declared.units.TypedData.{TypedData}
use Rattle.ds2_names.specs.declared.schemas.NamedSchema.{NamedSchema}

-- the table of an output of the data program of this number
abbrev pub mention_of_output : ℕ → OutputTable → MentionedTable
mention_of_output number o = record { name = o.name; maker = number }

-- the table of an output, with its columns
abbrev pub schema_of_output : OutputTable → NamedSchema
schema_of_output o = record { name = o.name; schema = output_columns o }

-- the columns of each output are those of a schema
abbrev pub HaveOutputSchemas : List OutputTable → Type 0
HaveOutputSchemas outputs = AllByRecursion (λ (o : OutputTable). is_schema (output_columns o) ≡ true) outputs

-- the outputs of the last of typed programs
abbrev pub last_outputs : List TypedData → List OutputTable
last_outputs [] = []
last_outputs (d ∷ []) = d.program.outputs
last_outputs (d ∷ e ∷ programs) = last_outputs (e ∷ programs)
