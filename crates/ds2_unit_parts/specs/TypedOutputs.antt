-- The outputs that a unit makes, from tables of kept, dropped and new names.
use Rattle.std.specs.Prelude.{ℕ, Bool, ◌&&◌, not, false, bytes_eq, codes, List, [], ◌∷◌, filter, map}
use Rattle.std.specs.List.{list_any}
use Rattle.std.specs.Option.{option_map_or}
use Rattle.ds2_token.specs.declared.token.Token.{Token}
use Rattle.ds2_tree.specs.declared.units.OutputOption.{OutputOption}
use Rattle.ds2_tree.specs.declared.units.OutputTable as source_output
use Rattle.ds2_tree.specs.declared.units.Renaming.{Renaming}
use Rattle.ds2_meaning.specs.declared.globals.OutputColumn.{OutputColumn}
use Rattle.ds2_meaning.specs.declared.globals.OutputTable as typed_output
use Rattle.ds2_meaning.specs.declared.globals.Variable.{Variable}
use Rattle.ds2_names.specs.NameRules.{from_each, is_output_column, options_of, renamings_in}
use Rattle.ds2_names.specs.SourceUnit.{UnitKind, OfPackage, OfThread, OfData, UnitSource, spelled_name}
use Rattle.ds2_elaboration.specs.ProgramTypes.{made_column, made_outputs, says_overwrite, table_of_thread}
use Rattle.ds2_given_names.specs.OutputParts.{passes_lists}
use Rattle.ds2_unit_parts.specs.declared.outputs.OutputParts.{OutputParts}

-- those of these outputs that are made; `_null_` is none
abbrev pub made_among : List source_output.OutputTable → List source_output.OutputTable
made_among outputs = filter (λ (o : source_output.OutputTable). not (bytes_eq (spelled_name o.table) (codes "_null_"))) outputs

-- the statements of a program and the options of an output let a variable through
abbrev pub passes_both : OutputParts → List ℕ → Bool
passes_both parts name = passes_lists parts.statements.now name && passes_lists parts.options.now name

-- the columns of an output that come of these variables
abbrev pub columns_made_of : OutputParts → List Variable → List Renaming → List (List ℕ) → List OutputColumn
columns_made_of parts variables renamings names = map (made_column variables renamings) (filter (passes_both parts) names)

-- the columns of an output with these options, of a unit whose vector has variables of these names
abbrev pub columns_with : List Variable → UnitSource → List (List ℕ) → List OutputOption → List OutputColumn
columns_with variables u names options = map (made_column variables (from_each renamings_in options)) (filter (is_output_column u options) names)

-- an output of a data program whose vector has variables of these names
abbrev pub outputs_made_of : List Variable → UnitSource → List (List ℕ) → source_output.OutputTable → typed_output.OutputTable
outputs_made_of variables u names o = record {
  name = spelled_name o.table;
  overwrites = list_any says_overwrite (options_of o.options);
  columns = columns_with variables u names (options_of o.options);
}

-- the output of a thread program of this name
abbrev pub output_of_thread : List Variable → UnitSource → List (List ℕ) → Token → typed_output.OutputTable
output_of_thread variables u names name = record { name = table_of_thread (spelled_name name); overwrites = false; columns = columns_with variables u names [] }

-- the outputs of a unit of this kind whose vector has variables of these names
abbrev pub outputs_over : List Variable → UnitSource → List (List ℕ) → UnitKind → List typed_output.OutputTable
outputs_over variables u names OfPackage = []
outputs_over variables u names OfThread = option_map_or (λ (name : Token). output_of_thread variables u names name ∷ []) u.name []
outputs_over variables u names OfData = map (outputs_made_of variables u names) (made_outputs u)
