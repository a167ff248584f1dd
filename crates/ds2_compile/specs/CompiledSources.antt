-- What a source is compiled to.
use Rattle.std.specs.Prelude.{◌≡◌, ◌==◌, ℕ, true, IsTrue, List, [], ◌∷◌, Result, Ok, Err}
use Rattle.std.specs.List.{AllByRecursion}
use Rattle.ds2_base.specs.declared.stop.Stop.{Stop}
use Rattle.ds2_base.specs.declared.stop.Stop.TheVariants.{Refused, OutOfMemory}
use Rattle.ds2_tree.specs.Units.{SourcePart}
use Rattle.ds2_meaning.specs.ProgramTree.{ProgramTree, is_listed}
use Rattle.ds2_code.specs.declared.parts.StagedParts.{StagedParts}
use Rattle.ds2_code.specs.declared.parts.TableReference.{TableReference}
use Rattle.ds2_object.specs.ObjectSpelling.{IsValidObject}
use Rattle.ds2_same_meaning.specs.CodeTables.{program_references}
use Rattle.ds2_names.specs.SourceUnit.{TableColumns, names_alone}
use Rattle.ds2_elaboration.specs.Elaboration.{ProgramRefusal, elaborated_source}
use Rattle.ds2_source.specs.InputTables.{source_inputs}
use Rattle.ds2_source.specs.declared.kinds.SourceRefusal.{SourceRefusal}
use Rattle.ds2_source.specs.SourceRefusals.{source_refusal_of}
use Rattle.ds2_same_meaning.specs.SameAnswer.{staged_code}
use Rattle.ds2_same_meaning.specs.SameMeaning.{MeansSame}
use Rattle.ds2_verdicts.specs.SourceVerdicts.{source_verdicts}
use Rattle.ds2_verdicts.specs.declared.verdicts.ThreadVerdict.{ThreadVerdict}
use Rattle.ds2_compile.specs.LocalStages.{StagesAreIndependent}
use Rattle.ds2_compile.specs.declared.compiling.Compiled.{Compiled}

-- a table of the store that code names is one of these names, and has the columns of that one
abbrev pub HasStoreTable : List (List ℕ) → TableColumns → TableReference → Type 0
HasStoreTable names tables reference = (reference.maker == 0) ≡ true → IsTrue (is_listed names reference.name) × (reference.columns ≡ tables reference.name)

-- the code of a program over tables of the store with these names and columns: it is that of the definitions and means the same, and it names
-- no other tables of the store
pub record IsCompiledProgram (names : List (List ℕ)) (tables : TableColumns) (p : ProgramTree) (code : StagedParts) : Type 0 where
  pub written : code ≡ staged_code p
  pub same : MeansSame p code
  pub reads : AllByRecursion (HasStoreTable names tables) (program_references code.program code.stages)

-- the codes of programs, one for each, in order
abbrev pub AreCompiledPrograms : List (List ℕ) → TableColumns → List ProgramTree → List StagedParts → Type 0
AreCompiledPrograms names tables [] [] = Unit {0}
AreCompiledPrograms names tables [] (code ∷ codes) = ⊥
AreCompiledPrograms names tables (p ∷ programs) [] = ⊥
AreCompiledPrograms names tables (p ∷ programs) (code ∷ codes) = IsCompiledProgram names tables p code × AreCompiledPrograms names tables programs codes

-- the object of programs: valid code, in which each table that an earlier program makes has that one's columns, and the code of each program
pub record IsCompiledObject (names : List (List ℕ)) (tables : TableColumns) (programs : List ProgramTree) (object : List StagedParts) : Type 0 where
  pub valid : IsValidObject object
  pub codes : AreCompiledPrograms names tables programs object

-- programs and the verdicts on the thread programs of their source, compiled: where a verdict says that a thread program that a program reads from
-- is local, its code makes of any tables groups at that grain that are independent
pub record IsCompiledSource (names : List (List ℕ)) (tables : TableColumns) (verdicts : List ThreadVerdict) (programs : List ProgramTree) (compiled : Compiled) : Type 0 where
  pub object : IsCompiledObject names tables programs compiled.object
  pub judged : compiled.verdicts ≡ verdicts
  pub independent : AllByRecursion (StagesAreIndependent verdicts) programs

-- what a source becomes was compiled: its programs to their object, with the verdicts, or its refusal was given, unless memory ran out
abbrev pub IsOutcomeCompiled : List (List ℕ) → TableColumns → List ThreadVerdict → Result (List ProgramTree) ProgramRefusal → Result Compiled (Stop SourceRefusal) → Type 0
IsOutcomeCompiled names tables verdicts (Ok programs) (Ok compiled) = IsCompiledSource names tables verdicts programs compiled
IsOutcomeCompiled names tables verdicts (Ok programs) (Err (Refused refusal)) = ⊥
IsOutcomeCompiled names tables verdicts (Err refusal) (Ok compiled) = ⊥
IsOutcomeCompiled names tables verdicts (Err refusal) (Err (Refused given)) = given ≡ source_refusal_of refusal
IsOutcomeCompiled names tables verdicts _ (Err OutOfMemory) = Unit {0}

-- a source was compiled over the columns of the tables of the store that it reads
abbrev pub IsCompiled : TableColumns → List SourcePart → Result Compiled (Stop SourceRefusal) → Type 0
IsCompiled tables parts result = IsOutcomeCompiled (names_alone (source_inputs parts)) tables (source_verdicts tables parts) (elaborated_source tables parts) result
