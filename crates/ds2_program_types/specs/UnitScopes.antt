-- The tables in which the statements of a unit's methods look up names.
use Rattle.std.specs.Prelude.{◌≡◌, false, not, length}
use Rattle.ds2_elaboration.specs.UnitsBefore.{UnitsBefore}
use Rattle.ds2_names.specs.SourceUnit.{TableColumns, is_package, names_alone, source_methods, UnitSource}
use Rattle.ds2_elaboration.specs.ProgramTypes.{made_names, methods_to_call}
use Rattle.ds2_elaboration.specs.SourceTypes.{parameter_variables, unit_names, unjoined_columns, vector_variables}
use Rattle.ds2_type_tables.specs.Bys.{HasBys}
use Rattle.ds2_type_tables.specs.Callables.{HasCallables}
use Rattle.ds2_type_tables.specs.Globals.{HasGlobals}
use Rattle.ds2_type_tables.specs.Objects.{HasObjects, objects_called}
use Rattle.ds2_program_types.specs.MadeOutputs.{HasNumbers}
use Rattle.ds2_program_types.specs.declared.unit_tables.UnitTables.{UnitTables}

-- the tables tell what the definitions say of a unit
pub record AreUnitTables (tables : TableColumns) (before : UnitsBefore) (u : UnitSource) (t : UnitTables) : Type 0 where
  pub globals : HasGlobals t.globals (unjoined_columns tables before u) (vector_variables tables before u) (parameter_variables u) (names_alone (unit_names tables before u).flags)
  pub bys : HasBys t.bys (names_alone (unit_names tables before u).bys)
  pub methods : HasCallables t.methods (methods_to_call u.kind (source_methods u.globals))
  pub outputs : HasNumbers t.outputs (made_names u.kind u)
  pub count : t.output_count ≡ length (made_names u.kind u)
  pub objects : HasObjects t.objects (objects_called before false (unit_names tables before u).instances)
  pub init_objects : HasObjects t.init_objects (objects_called before (not (is_package u.kind)) (unit_names tables before u).instances)
