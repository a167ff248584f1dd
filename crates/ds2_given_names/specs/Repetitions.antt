-- What a unit breaks of the rules on the names that it gives.
use Rattle.std.specs.Prelude.{◌≡◌, List, ◌++◌, map}
use Rattle.ds2_base.specs.declared.place.Place.{Place}
use Rattle.ds2_names.specs.NameRules.{from_each, later_places, renamed_twice, duplicate_names}
use Rattle.ds2_names.specs.SourceUnit.{PlacedName, SourceNames, UnitSource, source_methods}
use Rattle.ds2_names.specs.UnitRules.{too_many_names, bad_numbers, no_columns}
use Rattle.ds2_scope.specs.Collected.{method_name, repeated_locals}
use Rattle.ds2_scope.specs.declared.unit_names.UnitNames.{UnitNames}
use Rattle.ds2_given_names.specs.declared.repetitions.BrokenNames.{BrokenNames}
use Rattle.ds2_scope.specs.Earliest.{earliest}

-- all globals of a unit that have a plain name
abbrev pub globals_listed : UnitNames → List PlacedName
globals_listed n = n.variables ++ n.parameters ++ n.flags ++ n.instances

-- the names of a unit that were given before, its own and columns of outputs aside
abbrev pub repeated_parts : UnitNames → UnitSource → List Place
repeated_parts n u =
    later_places (globals_listed n) ++ later_places n.bys ++ later_places (map method_name (source_methods u.globals))
    ++ from_each repeated_locals (source_methods u.globals) ++ later_places n.outputs ++ from_each renamed_twice u.outputs

-- the earliest places at which a unit breaks the rules on the names that it gives
pub record BreaksNames (names : SourceNames) (b : BrokenNames) : Type 0 where
  pub duplicate_name : b.duplicate_name ≡ earliest (duplicate_names names)
  pub too_many_names : b.too_many_names ≡ earliest (too_many_names names)
  pub bad_number : b.bad_number ≡ earliest (bad_numbers names)
  pub no_columns : b.no_columns ≡ earliest (no_columns names)
