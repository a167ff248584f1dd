-- Which names of a unit stand beyond a limit, part by part.
use Rattle.std.specs.Prelude.{bytes_eq, codes, List, ◌++◌, map}
use Rattle.ds2_base.specs.declared.place.Place.{Place}
use Rattle.ds2_token.specs.declared.token.Token.{Token}
use Rattle.ds2_tree.specs.Globals.{Method}
use Rattle.ds2_tree.specs.declared.globals.BracketedName.{BracketedName}
use Rattle.ds2_tree.specs.declared.readings.Input as source_input
use Rattle.ds2_tree.specs.declared.units.OutputTable as source_output
use Rattle.ds2_names.specs.NameRules.{place_unless}
use Rattle.ds2_names.specs.SourceUnit.{spelled_name, local_names, SourceInstance}
use Rattle.ds2_names.specs.UnitRules.{beyond, places_of, too_many_variables}
use Rattle.ds2_scope.specs.CodeUnits.{names_bracketed}
use Rattle.ds2_scope.specs.declared.unit_names.UnitNames.{UnitNames}

-- the place of a table of a reading statement
abbrev pub input_place : source_input.Input → Place
input_place input = input.table.place

-- the place of an output; `_null_` is none
abbrev pub real_place : source_output.OutputTable → List Place
real_place o = place_unless (bytes_eq (spelled_name o.table) (codes "_null_")) o.table.place

-- the places of the globals of a unit, of which each BY variable has two flags
abbrev pub global_places : UnitNames → List Place
global_places n = places_of n.variables ++ places_of n.parameters ++ places_of n.flags ++ places_of n.instances ++ places_of n.bys ++ places_of n.bys

-- the parameters and locals of a method beyond 1,000
abbrev pub too_many_locals : Method → List Place
too_many_locals m = beyond 1000 (places_of (local_names m))

-- the places of names between brackets
abbrev pub places_bracketed : List BracketedName → List Place
places_bracketed names = map (λ (t : Token). t.place) (names_bracketed names)

-- the key and data variables of an instance beyond 64
abbrev pub too_many_in_instance : SourceInstance → List Place
too_many_in_instance i = too_many_variables i.sort
