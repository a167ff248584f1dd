-- What the code keeps of the units of a source that are typed so far.
use Rattle.std.specs.Prelude.{◌≡◌, List, [], ◌∷◌, ◌++◌, map, reverse, Result, Ok, Err}
use Rattle.ds2_base.specs.declared.stop.Stop.{Stop}
use Rattle.ds2_tree.specs.Units.{SourcePart}
use Rattle.ds2_meaning.specs.ProgramTree.{ProgramTree}
use Rattle.ds2_meaning.specs.View.{typed_data_program}
use Rattle.ds2_meaning.specs.declared.units.TypedThread.{TypedThread}
use Rattle.ds2_names.specs.SourceUnit.{TableColumns, columns_stored}
use Rattle.ds2_elaboration.specs.Elaboration.{ProgramRefusal, elaborated_parts, elaborated_source}
use Rattle.ds2_elaboration.specs.TypedPrograms.{HaveSchemas, UnitsStand}
use Rattle.ds2_elaboration.specs.UnitsBefore.{UnitsBefore}
use Rattle.ds2_declared_types.specs.TypesKnown.{TellsTypes}
use Rattle.ds2_resolve.specs.StandingBefore.{TellsOfUnits}
use Rattle.ds2_source.specs.declared.kinds.SourceRefusal.{SourceRefusal}
use Rattle.ds2_compile.specs.SourceOutcomes.{IsRefusedSource}
use Rattle.ds2_compile.specs.SourceThreads.{AreThreadsBehind, AreThreadsOfSource}
use Rattle.ds2_compile.specs.declared.typed_so_far.TypedSoFar.{TypedSoFar}

-- what is kept tells of the units before a unit: their names and limits, their types, and the tables that they make
pub record StandsBehind (t : TypedSoFar) (units : UnitsBefore) : Type 0 where
  pub tells : TellsOfUnits t.before units.names
  pub types : TellsTypes t.known units
  pub made : t.made ≡ units.names.made

-- what is kept is that of some units, which are typed, and all columns are those of schemas
pub record StandsBehindSome (t : TypedSoFar) : Type 0 where
  pub units : UnitsBefore
  pub stands : StandsBehind t units
  pub typed : UnitsStand units
  pub schemas : HaveSchemas (columns_stored t.tables)

-- typed programs before what others become
abbrev pub all_before : List ProgramTree → Result (List ProgramTree) ProgramRefusal → Result (List ProgramTree) ProgramRefusal
all_before programs (Ok others) = Ok (programs ++ others)
all_before programs (Err refusal) = Err refusal

-- a source becomes what was typed so far, and behind it whatever the parts left become; its thread programs likewise
pub record BecomesWithRest (tables : TableColumns) (parts : List SourcePart) (t : TypedSoFar) (rest : List SourcePart) : Type 0 where
  pub units : UnitsBefore
  pub stands : StandsBehind t units
  pub leads : elaborated_source tables parts ≡ all_before (map typed_data_program t.typed) (elaborated_parts (columns_stored t.tables) units rest)
  pub threads : (others : List TypedThread) → AreThreadsBehind (columns_stored t.tables) units rest others → AreThreadsOfSource tables parts (reverse t.known.threads ++ others)

-- the same of what a call gave, or the source is refused
abbrev pub BecomesOrStops : TableColumns → List SourcePart → Result TypedSoFar (Stop SourceRefusal) → List SourcePart → Type 0
BecomesOrStops tables parts (Ok t) rest = BecomesWithRest tables parts t rest
BecomesOrStops tables parts (Err stop) rest = IsRefusedSource (elaborated_source tables parts) stop
