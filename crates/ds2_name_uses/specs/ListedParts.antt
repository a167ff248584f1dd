-- Which names that a unit lists are not there, part by part.
use Rattle.std.specs.Prelude.{Bool, true, false, List, [], Option, Some, None}
use Rattle.ds2_base.specs.declared.place.Place.{Place}
use Rattle.ds2_token.specs.declared.token.Token.{Token}
use Rattle.ds2_tree.specs.Globals.{GlobalItem, Listed}
use Rattle.ds2_tree.specs.declared.readings.Input as source_input
use Rattle.ds2_tree.specs.declared.units.OutputOption.{OutputOption}
use Rattle.ds2_tree.specs.declared.units.OutputTable as source_output
use Rattle.ds2_calls.specs.declared.instances.Sort.{Sort}
use Rattle.ds2_calls.specs.declared.instances.Sort.TheVariants as sort
use Rattle.ds2_names.specs.NameRules.{from_each, place_unless, options_of, option_tokens, is_in_all_tables}
use Rattle.ds2_names.specs.SourceUnit.{TableColumns, PlacedName, spelled_name}
use Rattle.ds2_value.specs.Row.{Columns}
use Rattle.ds2_value.specs.Schema.{has_column}
use Rattle.ds2_name_uses.specs.UseRules.{NameTests, is_global_there}

-- the place of a name that is no global
abbrev pub unknown_global : NameTests → Token → List Place
unknown_global t n = place_unless (is_global_there t (spelled_name n)) n.place

-- the places of names that are no globals
abbrev pub unknown_globals : NameTests → List Token → List Place
unknown_globals t names = from_each (unknown_global t) names

-- the names that a part of a unit lists
abbrev pub tokens_in : GlobalItem → List Token
tokens_in (Listed keyword names end) = names
tokens_in _ = []

-- those that a part of a unit lists and that are no globals
abbrev pub unknown_in_lists : NameTests → GlobalItem → List Place
unknown_in_lists t g = unknown_globals t (tokens_in g)

-- those in an option
abbrev pub unknown_in_option : NameTests → OutputOption → List Place
unknown_in_option t x = unknown_globals t (option_tokens x)

-- those in the options of an output
abbrev pub unknown_in_output : NameTests → source_output.OutputTable → List Place
unknown_in_output t o = from_each (unknown_in_option t) (options_of o.options)

-- a BY variable that is no column of a table
abbrev pub lacking_column : Columns → PlacedName → List Place
lacking_column columns b = place_unless (has_column b.name columns) b.place

-- a BY variable that some table lacks
abbrev pub lacking_by : TableColumns → List source_input.Input → PlacedName → List Place
lacking_by tables inputs b = place_unless (is_in_all_tables tables inputs b.name) b.place

-- an instance, where there is one, is one of a thread program
abbrev pub is_stage_sort : Option Sort → Bool
is_stage_sort None = false
is_stage_sort (Some (sort.Package name)) = false
is_stage_sort (Some (sort.Hash variables)) = false
is_stage_sort (Some (sort.Iterator hash)) = false
is_stage_sort (Some (sort.Thread name)) = true

-- a name behind `set from` that is no instance of a thread program
abbrev pub unknown_stage_by : NameTests → Option Token → List Place
unknown_stage_by t None = []
unknown_stage_by t (Some n) = place_unless (is_stage_sort (t.calls.sort_of_instance (spelled_name n))) n.place
