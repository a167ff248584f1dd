-- A typed program, and the parts that it is made of.
use Rattle.std.specs.Prelude.{◌≡◌, codes}
use Rattle.ds2_elaboration.specs.UnitsBefore.{UnitsBefore, typed_stage_columns}
use Rattle.ds2_meaning.specs.declared.readings.Reading.{Reading}
use Rattle.ds2_meaning.specs.declared.units.Program.{Program}
use Rattle.ds2_names.specs.NameRules.{listed_in_statements}
use Rattle.ds2_names.specs.SourceUnit.{TableColumns, reading_of_run, source_methods, UnitSource}
use Rattle.ds2_elaboration.specs.ProgramTypes.{read_statement, unit_outputs}
use Rattle.ds2_elaboration.specs.SourceTypes.{column_variables, program_variables, unit_stage}
use Rattle.ds2_instance_types.specs.declared.instances.TypedInstances.{TypedInstances}
use Rattle.ds2_program_types.specs.declared.methods.TypedMethods.{TypedMethods}
use Rattle.ds2_program_types.specs.declared.parts.ProgramParts.{ProgramParts}

-- what a unit with `run` reads
abbrev pub statement_read : TableColumns → UnitsBefore → UnitSource → Reading
statement_read tables before u =
    read_statement tables before.names.made (typed_stage_columns (unit_stage tables before u)) (reading_of_run (source_methods u.globals))

-- the parts of a unit behind these units
pub record ArePartsOf (tables : TableColumns) (before : UnitsBefore) (u : UnitSource) (p : ProgramParts) : Type 0 where
  pub declared : p.declared ≡ program_variables u
  pub columns : p.columns ≡ column_variables tables before u
  pub retained : p.retained ≡ listed_in_statements (codes "retain") u.globals
  pub reading : p.reading ≡ statement_read tables before u
  pub outputs : p.outputs ≡ unit_outputs tables before u u.kind

-- a typed program of these parts, instances and methods
pub record IsMadeOf (program : Program) (p : ProgramParts) (i : TypedInstances) (m : TypedMethods) : Type 0 where
  pub declared : program.declared ≡ p.declared
  pub columns : program.columns ≡ p.columns
  pub retained : program.retained ≡ p.retained
  pub instances : program.instances ≡ i.instances
  pub hashes : program.hashes ≡ i.hashes
  pub iterators : program.iterators ≡ i.iterators
  pub threads : program.threads ≡ i.threads
  pub reading : program.reading ≡ p.reading
  pub outputs : program.outputs ≡ p.outputs
  pub methods : program.methods ≡ m.methods
  pub init : program.init ≡ m.init
  pub run : program.run ≡ m.run
  pub term : program.term ≡ m.term
