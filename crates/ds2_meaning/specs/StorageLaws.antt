-- What a typed program keeps before its first unit fits, and so does what it gives to the thread program that it reads from.
use Rattle.std.specs.Prelude.{IsTrue, List, [], ◌∷◌, length, Option, Some, None}
use Rattle.std.specs.List.{AllByRecursion}
use Rattle.ds2_value.specs.Types.{fits}
use Rattle.ds2_value.specs.declared.value.Value.{Value}
use Rattle.ds2_table.specs.Table.{rows_fit}
use Rattle.ds2_meaning.specs.declared.globals.Variable.{Variable}
use Rattle.ds2_meaning.specs.declared.hashes.DeclaredHash.{DeclaredHash}
use Rattle.ds2_meaning.specs.declared.hashes.LoadedTable.{LoadedTable}
use Rattle.ds2_meaning.specs.IsTyped.{IsTypedUnit, IsTypedProgram, is_countable, StorageFits}
use Rattle.ds2_meaning.specs.Location.{Storage}
use Rattle.ds2_meaning.specs.ProgramMeaning.{opening_of, parameters_given}
use Rattle.ds2_meaning.specs.ProgramTree.{InstanceTree, UnitTree, ProgramTree, OverStage, reader_of}
use Rattle.ds2_meaning.specs.Reading.{TableRows, stage_instance}

-- the rows of the table that a hash object is loaded from fit its columns, and their number is a BIGINT
abbrev pub LoadFits : TableRows → Option LoadedTable → Type 0
LoadFits tables None = Unit {0}
LoadFits tables (Some loaded) = IsTrue (is_countable (length (tables loaded.table))) × IsTrue (rows_fit (tables loaded.table) loaded.columns)

-- likewise for each of several hash objects
abbrev pub LoadsFit : TableRows → List DeclaredHash → Type 0
LoadsFit tables hashes = AllByRecursion (λ (h : DeclaredHash). LoadFits tables h.loaded) hashes

-- likewise for the hash objects of instances
abbrev pub InstanceLoadsFit : TableRows → List InstanceTree → Type 0
InstanceLoadsFit tables instances = AllByRecursion (λ (i : InstanceTree). LoadsFit tables i.objects.hashes) instances

-- values fit the parameters that they are for
abbrev pub ParametersFit : List Variable → List Value → Type 0
ParametersFit [] values = Unit {0}
ParametersFit (p ∷ parameters) [] = Unit {0}
ParametersFit (p ∷ parameters) (v ∷ values) = IsTrue (fits v p.ty) × ParametersFit parameters values

-- over tables whose rows fit, and with values that fit its parameters, what a typed program keeps before its first unit fits
abbrev pub OpeningFits : Type 0
OpeningFits = (p : UnitTree) (tables : TableRows) (values : List Value) → IsTypedUnit p
    → LoadsFit tables p.objects.hashes → InstanceLoadsFit tables p.instances → ParametersFit p.parameters values
    → StorageFits p (opening_of p tables values)

-- where what a typed program keeps fits, the values that it gives to the thread program that it reads from fit that one's parameters
abbrev pub GivenParametersFit : Type 0
GivenParametersFit = (p : UnitTree) (stage : ProgramTree) (kept : Storage) → IsTypedProgram (OverStage p stage) → StorageFits p kept
    → ParametersFit (reader_of stage).parameters (parameters_given (stage_instance p.reading) (reader_of stage).parameters kept)
