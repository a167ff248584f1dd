-- The names of a unit in lists, as the code holds them.
use Rattle.std.specs.Prelude.{◌≡◌, Bool, ◌||◌, not, List, is_none, is_some, Option}
use Rattle.ds2_token.specs.declared.token.Token.{Token}
use Rattle.ds2_tree.specs.declared.readings.Reading.{Reading}
use Rattle.ds2_names.specs.NameRules.{columns_are_known, output_names}
use Rattle.ds2_names.specs.SourceUnit.{KnownUnit, SourceInstance, SourceNames, UnitSource, vector_names, instance_names, source_methods, reading_of_run, reading_by_kind, stage_read}
use Rattle.ds2_scope.specs.declared.unit_names.UnitNames.{UnitNames}

-- lists of what a unit gives names to
pub record NamesAre (n : UnitNames) (names : SourceNames) : Type 0 where
  pub variables : n.variables ≡ vector_names names
  pub parameters : n.parameters ≡ names.parameters
  pub flags : n.flags ≡ names.flags
  pub bys : n.bys ≡ names.bys
  pub outputs : n.outputs ≡ output_names names
  pub instances : n.instances ≡ instance_names names
  pub is_open : n.is_open ≡ not (columns_are_known names)

-- the reading statement that gives a unit names
abbrev pub reading_in_unit : UnitSource → Option Reading
reading_in_unit u = reading_by_kind u.kind (reading_of_run (source_methods u.globals))

-- the columns that `set from` reads by an instance are not known
abbrev pub is_stage_open : List KnownUnit → List SourceInstance → Option Token → Bool
is_stage_open known instances stage = not (is_none stage || is_some (stage_read known instances stage))
