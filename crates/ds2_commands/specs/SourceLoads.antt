-- What calls leave that load a source: its tables are read and its programs compiled, or a halt has ended the command.
use Rattle.std.specs.Prelude.{◌≡◌, ◌⊎◌, ℕ, List, flat_map, map, Option, IfSome, Result, Ok, Err}
use Rattle.std.specs.List.{AllByRecursion}
use Rattle.ds2_outside.specs.Files.{Files}
use Rattle.ds2_object.specs.ObjectSpelling.{IsValidObject, object_read, written_object}
use Rattle.ds2_compile.specs.InputTables.{names_or_refusal, source_inputs}
use Rattle.ds2_compile.specs.NamedSchema.{NamedSchema}
use Rattle.ds2_compile.specs.ProgramTree.{ProgramTree}
use Rattle.ds2_compile.specs.StagedParts.{StagedParts}
use Rattle.ds2_compile.specs.Units.{SourcePart}
use Rattle.ds2_answer.specs.HeldTables.{NamedTable, held_from_store}
use Rattle.ds2_answer.specs.ObjectPlans.{outputs_of_code, run_of_code}
use Rattle.ds2_answer.specs.Plan.{Plan, ReadsFile, each_in_turn}
use Rattle.ds2_answer.specs.ProgramPlans.{programs_plan}
use Rattle.ds2_answer.specs.SourcePlans.{SourceCommand, object_bytes, run_programs_of, store_object, with_inputs, with_tables}
use Rattle.ds2_answer.specs.StoredCodes.{HaveCodes}
use Rattle.ds2_answer.specs.TablePlans.{none_made, outputs_then}
use Rattle.ds2_exec.specs.CodeRuns.{AreLinked}
use Rattle.ds2_exec.specs.LocalCodes.{IsIndependentWhereLocal}
use Rattle.ds2_exec.specs.StageEnds.{GrainsFit}
use Rattle.ds2_verdicts.specs.ThreadVerdicts.{verdict_named}
use Rattle.ds2_store_steps.specs.FileReads.{OverSomeFiles}
use Rattle.ds2_store_steps.specs.Halts.{Follows, FollowsAll, HaltsPlan}
use Rattle.ds2_store_steps.specs.OutputAsks.{OverAnswers}
use Rattle.ds2_store_steps.specs.declared.halt.Halt.{Halt}
use Rattle.ds2_commands.specs.SourceObjects.{BecomesPrograms, HaltsUnstored}
use Rattle.ds2_commands.specs.declared.loaded.Loaded.{Loaded}

-- the name and the columns of a table that is held
abbrev pub schema_held : NamedTable → NamedSchema
schema_held t = record { name = t.name; schema = t.contents.columns }

-- the programs of an object that was loaded can be run one behind the other over the tables that were read, each thread program with its groups at
-- the grain of its verdict, which are independent where it is local
pub record IsRunnableObject (loaded : Loaded) : Type 0 where
  pub linked : AreLinked loaded.object loaded.stored
  pub fit : AllByRecursion (GrainsFit (verdict_named loaded.verdicts)) loaded.object
  pub independent : AllByRecursion (IsIndependentWhereLocal (verdict_named loaded.verdicts)) loaded.object

-- the programs of a source that was loaded run one behind the other over its tables
abbrev pub loaded_plan : (budget : ℕ) → Loaded → Plan
loaded_plan budget loaded = programs_plan (map (run_of_code (verdict_named loaded.verdicts) budget) loaded.object) (held_from_store loaded.stored)

-- an object is that of programs: valid code, whose parts mean the same as the programs, and that can be run over the tables that were read
pub record IsObjectOfPrograms (programs : List ProgramTree) (loaded : Loaded) : Type 0 where
  pub codes : HaveCodes programs loaded.object
  pub valid : IsValidObject loaded.object
  pub runs : IsRunnableObject loaded

-- a source was loaded: its plan reads some files, and then does what the command does with its tables and programs
pub record WasLoaded (plan : Files → SourceCommand → Plan) (told : Option Files) (loaded : Loaded) : Type 0 where
  pub files : Files
  pub told_is : IfSome told (λ held. held ≡ files)
  pub programs : List ProgramTree
  pub becomes : BecomesPrograms (plan files) loaded.stored loaded.verdicts programs
  pub object : IsObjectOfPrograms programs loaded

-- what a call leaves that loads a source: the source and no change, or a halt in the plan, whatever the command does with the source
abbrev pub LoadsSource : (Files → SourceCommand → Plan) → List ℕ → Option Files → Result Loaded Halt → List ℕ → Option Files → Type 0
LoadsSource plan said told (Ok loaded) log now = WasLoaded plan told loaded × (log ≡ said) × (now ≡ told)
LoadsSource plan said told (Err halt) log now = OverSomeFiles told (λ files. (go : SourceCommand) → HaltsPlan (plan files go) said told halt log now)

-- the tables of a source were read: its plan reads some files, and goes on with these tables
pub record AreInputsRead (parts : List SourcePart) (told : Option Files) (read : List NamedTable) : Type 0 where
  pub files : Files
  pub told_is : IfSome told (λ held. held ≡ files)
  pub names : List (List ℕ)
  pub plan_is : (go : SourceCommand) → with_inputs (names_or_refusal (source_inputs parts)) parts files go ≡ each_in_turn ReadsFile names (with_tables parts go read)

-- what a call leaves that reads the tables of a source: the tables and no change, or a halt
abbrev pub ReadsInputs : List SourcePart → List ℕ → Option Files → Result (List NamedTable) Halt → List ℕ → Option Files → Type 0
ReadsInputs parts said told (Ok read) log now = AreInputsRead parts told read × (log ≡ said) × (now ≡ told)
ReadsInputs parts said told (Err halt) log now =
    OverSomeFiles told (λ files. (go : SourceCommand) → HaltsPlan (with_inputs (names_or_refusal (source_inputs parts)) parts files go) said told halt log now)

-- the bytes of an object are read as its programs
abbrev pub IsReadBack : List StagedParts → Type 0
IsReadBack object = object_read (object_bytes object) ≡ Ok (written_object object)

-- an object is read back from its bytes, unless the command has ended before it stored them
abbrev pub StoresReadable : List StagedParts → Result (Unit {0}) Halt → Option Files → Option Files → Type 0
StoresReadable object result told now = IsReadBack object ⊎ HaltsUnstored result told now

-- what a call leaves that stores the object of a source, unless an output is there: each output was asked for, and the object written, for what
-- comes next, or a halt
abbrev pub StoresNew : (source : List ℕ) → List StagedParts → List ℕ → Option Files → Result (Unit {0}) Halt → List ℕ → Option Files → Type 0
StoresNew source object said told result log now =
    OverAnswers told (λ there. (rest : Plan) → Follows (outputs_then none_made there (flat_map outputs_of_code object) (store_object source object rest)) (λ _. rest) said told result log now)

-- what a call leaves that runs the programs of a source that was loaded, unless an output is there
abbrev pub RunsLoaded : (source : List ℕ) → (budget : ℕ) → Loaded → List ℕ → Option Files → Result (Unit {0}) Halt → List ℕ → Option Files → Type 0
RunsLoaded source budget loaded said told result log now =
    OverAnswers told (λ there. (programs : List ProgramTree) → HaveCodes programs loaded.object
    → FollowsAll (run_programs_of source budget loaded.object there (held_from_store loaded.stored) loaded.verdicts programs) said told result log now)
