-- What tables tell of the calls of a unit.
use Rattle.std.specs.Prelude.{nat_eq, List}
use Rattle.std.specs.Cmp.Lexicographic.{pointwise}
use Rattle.std.specs.HashMap.{get}
use Rattle.ds2_tree.specs.Globals.{Method}
use Rattle.ds2_names.specs.SourceUnit.{SourceInstance, SourceNames}
use Rattle.ds2_calls.specs.InstanceSorts.{sort_named, HasSorts}
use Rattle.ds2_calls.specs.KnownUnits.{units_known, units_in_tables, KnowsCalls}
use Rattle.ds2_calls.specs.MethodFlags.{parameters_by_name, HasMethods}
use Rattle.ds2_calls.specs.SortCalls.{CallsByName}
use Rattle.ds2_calls.specs.declared.unit_calls.Calls.{Calls}
use Rattle.ds2_calls.specs.declared.unit_calls.UnitCalls.{UnitCalls}

-- tables of these methods and instances
pub record HasUnitCalls (c : UnitCalls) (methods : List Method) (instances : List SourceInstance) : Type 0 where
  pub by_method : HasMethods c.methods methods
  pub by_instance : HasSorts c.sorts instances

-- what tables tell of calls
abbrev pub calls_by_tables : Calls → CallsByName
calls_by_tables c = record {
  method = get (pointwise nat_eq) c.unit.now.methods;
  sort_of_instance = get (pointwise nat_eq) c.unit.now.sorts;
  units = units_in_tables c.known.now;
}

-- what a unit and the units before it tell of its calls
abbrev pub calls_of_names : SourceNames → CallsByName
calls_of_names names = record {
  method = parameters_by_name names.methods;
  sort_of_instance = sort_named names.instances;
  units = units_known names.known;
}

-- tables tell what the calls of a unit may mean
pub record HasCalls (c : Calls) (names : SourceNames) : Type 0 where
  pub of_unit : HasUnitCalls c.unit.now names.methods names.instances
  pub of_units_before : KnowsCalls c.known.now names.known
