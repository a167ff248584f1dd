-- What the methods and instances of a unit mention.
use Rattle.std.specs.Prelude.{List, [], map}
use Rattle.ds2_tree.specs.Globals.{Method}
use Rattle.ds2_calls.specs.InstanceSorts.{SortsByName, variables_by_name}
use Rattle.ds2_calls.specs.SortCalls.{CallsByName, flags_by_names}
use Rattle.ds2_names.specs.SourceUnit.{PlacedName, spelled_name, local_names}
use Rattle.ds2_names.specs.Uses.{statements_uses}
use Rattle.ds2_calls.specs.UseParts.{InOutFlags}
use Rattle.ds2_aliases.specs.MentionParts.{mentions_in_uses, variable_mentions}
use Rattle.ds2_aliases.specs.declared.parts.MethodParts.{MethodParts}
use Rattle.ds2_aliases.specs.declared.parts.UnitParts.{UnitParts}

-- a method: its name, its parameters and locals, and what its body mentions
abbrev pub parts_of_method : InOutFlags → Method → MethodParts
parts_of_method flags m = record { name = spelled_name m.name; locals = local_names m; mentions = mentions_in_uses flags (statements_uses flags m.body) }

-- an instance: its name, and the key and data variables of the hash object that it is or goes over
abbrev pub part_of_instance : SortsByName → PlacedName → MethodParts
part_of_instance sorts n = record { name = n.name; locals = []; mentions = variable_mentions (variables_by_name sorts n.name) }

-- a unit with these methods, and with instances of these names
abbrev pub unit_parts : CallsByName → List Method → List PlacedName → UnitParts
unit_parts calls methods instances = record {
  methods = map (parts_of_method (flags_by_names calls)) methods;
  objects = map (part_of_instance calls.sort_of_instance) instances;
}
