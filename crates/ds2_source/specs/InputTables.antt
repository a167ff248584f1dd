-- The tables that must come from the store for a source.
use Rattle.std.specs.Prelude.{ℕ, Bool, not, ◌||◌, bytes_eq, codes, if◌then◌else◌, List, [], ◌∷◌, filter, map, slice_get, Option, Some, None, Result, Ok, Err}
use Rattle.ds2_tree.specs.Units.{SourcePart}
use Rattle.ds2_tree.specs.declared.units.OutputTable as source_output
use Rattle.ds2_meaning.specs.declared.refusals.ScopeKind.TheVariants.{TooManyNames}
use Rattle.ds2_meaning.specs.ProgramTree.{is_listed}
use Rattle.ds2_names.specs.NameRules.{from_each}
use Rattle.ds2_names.specs.SourceLimits.{store_tables, tables_in_item, globals_in, outputs_in}
use Rattle.ds2_names.specs.SourceUnit.{PlacedName, names_alone, spelled_name}
use Rattle.ds2_source.specs.declared.kinds.SourceKind.TheVariants.{Scope}
use Rattle.ds2_source.specs.declared.kinds.SourceRefusal.{SourceRefusal}

-- the tables of the store that a source mentions, each at its first mention
abbrev pub source_inputs : List SourcePart → List PlacedName
source_inputs parts = store_tables 0 [] [] parts

-- the names of tables, unless there is one too many, which is refused
abbrev pub unless_beyond : Option PlacedName → List PlacedName → Result (List (List ℕ)) SourceRefusal
unless_beyond None tables = Ok (names_alone tables)
unless_beyond (Some table) tables = Err (record { kind = Scope TooManyNames; place = table.place })

-- the names of at most 16 tables, or a refusal at the 17th
abbrev pub names_or_refusal : List PlacedName → Result (List (List ℕ)) SourceRefusal
names_or_refusal tables = unless_beyond (slice_get tables 16) tables

-- ---- what the code knows of table names on its way through a source

-- each table at its first mention, without those that a test knows
abbrev pub first_not_known : (List ℕ → Bool) → List PlacedName → List PlacedName
first_not_known known [] = []
first_not_known known (t ∷ tables) = if known t.name then first_not_known known tables else t ∷ first_not_known (λ name. bytes_eq t.name name || known name) tables

-- the tables that a part of a source mentions, in order
abbrev pub tables_in_part : SourcePart → List PlacedName
tables_in_part part = from_each tables_in_item (globals_in part)

-- the names of the tables that outputs make; `_null_` is none
abbrev pub names_made_by_outputs : List source_output.OutputTable → List (List ℕ)
names_made_by_outputs outputs = filter (λ name. not (bytes_eq name (codes "_null_"))) (map (λ (o : source_output.OutputTable). spelled_name o.table) outputs)

-- behind a part of a source, the tables that it makes and those that it mentions are known too
abbrev pub known_behind : (List ℕ → Bool) → SourcePart → List ℕ → Bool
known_behind known part name = is_listed (names_made_by_outputs (outputs_in part)) name || (is_listed (names_alone (tables_in_part part)) name || known name)
