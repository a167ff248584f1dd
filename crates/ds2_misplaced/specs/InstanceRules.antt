-- What declarations of instances break of the rules of names.
use Rattle.std.specs.Prelude.{◌≡◌, List}
use Rattle.ds2_base.specs.declared.place.Place.{Place}
use Rattle.ds2_names.specs.NameRules.{from_each, unknown_in_instance, wrong_constructor, not_variable_in_instance}
use Rattle.ds2_names.specs.SourceUnit.{TableColumns, SourceInstance, SourceNames}
use Rattle.ds2_scope.specs.Earliest.{earliest}
use Rattle.ds2_misplaced.specs.InstanceTests.{InstanceTests, unknown_by_tests, wrong_by_tests, not_variable_by_tests}
use Rattle.ds2_misplaced.specs.declared.broken.BrokenInstances.{BrokenInstances}

-- what an instance names that is not there
abbrev pub unknown_of : TableColumns → InstanceTests → SourceInstance → List Place
unknown_of tables t i = unknown_by_tests tables t i.sort

-- the place of an instance whose constructor takes another number of constants
abbrev pub wrong_of : InstanceTests → SourceInstance → List Place
wrong_of t i = wrong_by_tests t i.name.place i.sort

-- what is no variable in the declaration of an instance
abbrev pub not_variable_of : InstanceTests → SourceInstance → List Place
not_variable_of t i = not_variable_by_tests t i.sort

-- what declarations name that is not there
abbrev pub unknown_in_instances : TableColumns → SourceNames → List Place
unknown_in_instances tables names = from_each (λ (i : SourceInstance). unknown_in_instance tables names i.sort) names.instances

-- declarations with another number of constants than the constructor has parameters
abbrev pub wrong_constructors : SourceNames → List Place
wrong_constructors names = from_each (λ (i : SourceInstance). wrong_constructor names.known i i.sort) names.instances

-- what is no variable in declarations
abbrev pub not_variable_in_instances : SourceNames → List Place
not_variable_in_instances names = from_each (λ (i : SourceInstance). not_variable_in_instance names i.sort) names.instances

-- the earliest places at which declarations of instances break the rules of names
pub record BreaksInstances (tables : TableColumns) (names : SourceNames) (b : BrokenInstances) : Type 0 where
  pub unknown_name : b.unknown_name ≡ earliest (unknown_in_instances tables names)
  pub wrong_count : b.wrong_count ≡ earliest (wrong_constructors names)
  pub not_variable : b.not_variable ≡ earliest (not_variable_in_instances names)
