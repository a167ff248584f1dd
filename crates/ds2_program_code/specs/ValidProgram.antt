-- The code of a typed program within limits is valid.
use Rattle.std.specs.Prelude.{◌≡◌, IsTrue, false, List, [], ◌∷◌, Option, Some, None}
use Rattle.std.specs.List.{AllByRecursion}
use Rattle.ds2_token.specs.Words.{is_table_name}
use Rattle.ds2_value.specs.Value.{is_null}
use Rattle.ds2_meaning.specs.declared.globals.OutputTable.{OutputTable}
use Rattle.ds2_meaning.specs.declared.hashes.DeclaredHash.{DeclaredHash}
use Rattle.ds2_meaning.specs.declared.hashes.LoadedTable.{LoadedTable}
use Rattle.ds2_meaning.specs.declared.readings.Input.{Input}
use Rattle.ds2_meaning.specs.IsTyped.{thread_parameters, IsTypedUnit, ReadsNoStage, FitsStage}
use Rattle.ds2_meaning.specs.ProgramTree.{InstanceTree, UnitTree}
use Rattle.ds2_meaning.specs.Reading.{inputs_of}
use Rattle.ds2_code.specs.ValidCode.{constant_allowed, values_allowed, lists_short, IsValidProgram, IsValidStaged}
use Rattle.ds2_program_code.specs.UsedConstants.{UsedConstant}
use Rattle.ds2_program_code.specs.CodeConstants.{constant_part}
use Rattle.ds2_program_code.specs.ProgramCode.{constants_of_program, program_code}
use Rattle.ds2_program_code.specs.TypedCode.{FitsCodeLimits}

-- a constant may stand in code, unless it is null, which code does not keep
abbrev pub MayStandInCode : UsedConstant → Type 0
MayStandInCode c = is_null c.value ≡ false → IsTrue (constant_allowed (constant_part c))

-- the table with which a hash object begins has the name of a table
abbrev pub HasTableName : Option LoadedTable → Type 0
HasTableName None = Unit {0}
HasTableName (Some loaded) = IsTrue (is_table_name loaded.table.name)

-- likewise those of hash objects
abbrev pub HaveTableNames : List DeclaredHash → Type 0
HaveTableNames hashes = AllByRecursion (λ (h : DeclaredHash). HasTableName h.loaded) hashes

-- a program of values that code may hold: its constants may stand there, and tables have the names of tables
pub record FitsValueLimits (p : UnitTree) : Type 0 where
  pub constants : AllByRecursion MayStandInCode (constants_of_program p)
  pub hashes : HaveTableNames p.objects.hashes
  pub instances : AllByRecursion (λ (i : InstanceTree). HaveTableNames i.objects.hashes) p.instances
  pub inputs : AllByRecursion (λ (i : Input). IsTrue (is_table_name i.table.name)) (inputs_of p.reading)
  pub outputs : AllByRecursion (λ (o : OutputTable). IsTrue (is_table_name o.name)) p.outputs

-- the code of a typed program within limits holds values that an object file can hold
abbrev pub TypedValuesAreAllowed : Type 0
TypedValuesAreAllowed = (p : UnitTree) → IsTypedUnit p → FitsCodeLimits p → FitsValueLimits p → IsTrue (values_allowed (program_code p))

-- a program within the limits of code: those of its statements and of its values, short lists, and no instance of a thread program without a
-- name
pub record FitsObjectLimits (p : UnitTree) : Type 0 where
  pub instances : thread_parameters p.threads [] ≡ None
  pub code : FitsCodeLimits p
  pub values : FitsValueLimits p
  pub lists : IsTrue (lists_short (program_code p))

-- the code of a typed program within limits is valid, beside no other program's where it reads tables, and else beside the thread program's
pub record TypedCodeIsValid : Type 0 where
  pub over_tables : (p : UnitTree) → IsTypedUnit p → ReadsNoStage p.reading → FitsObjectLimits p → IsValidProgram (program_code p) None
  pub over_stage : (p stage : UnitTree) → IsTypedUnit p → IsTypedUnit stage → FitsStage p stage → FitsObjectLimits p → IsValidProgram (program_code p) (Some (program_code stage))

-- the code of a typed program within limits, with that of the thread program that it reads from
pub record TypedStagesAreValid : Type 0 where
  pub over_tables : (p : UnitTree) → IsTypedUnit p → ReadsNoStage p.reading → FitsObjectLimits p → IsValidStaged (record { program = program_code p; stages = [] })
  pub over_stage : (p stage : UnitTree) → IsTypedUnit p → FitsStage p stage → IsTypedUnit stage → ReadsNoStage stage.reading → FitsObjectLimits p → FitsObjectLimits stage
      → IsValidStaged (record { program = program_code p; stages = program_code stage ∷ [] })
