-- What a source is compiled to.
use Rattle.std.proofs.Common.{◌≡◌, ℕ, true, List, [], ◌∷◌, ◌++◌, map, Result, Ok, Err, sym, ap, subst, ◌∙◌, refl}
use Rattle.std.specs.List.{AllByRecursion}
use Rattle.ds2_base.specs.declared.stop.Stop.{Stop}
use Rattle.ds2_base.specs.declared.stop.Stop.TheVariants.{Refused, OutOfMemory}
use Rattle.ds2_tree.specs.Units.{SourcePart}
use Rattle.ds2_meaning.specs.IsTyped.{IsTypedProgram, IsTypedDataProgram}
use Rattle.ds2_meaning.specs.ProgramTree.{UnitTree, ProgramTree, reader_of}
use Rattle.ds2_meaning.specs.View.{typed_data_program}
use Rattle.ds2_meaning.specs.declared.units.TypedData.{TypedData}
use Rattle.ds2_names.specs.SourceUnit.{TableColumns, names_alone}
use Rattle.ds2_elaboration.specs.Elaboration.{ProgramRefusal, elaborated_source}
use Rattle.ds2_elaboration.specs.TextPrograms.{EveryTextIsTyped}
use Rattle.ds2_elaboration.specs.TypedPrograms.{HaveSchemas}
use Rattle.ds2_code.specs.declared.parts.StagedParts.{StagedParts}
use Rattle.ds2_code.specs.declared.parts.TableReference.{TableReference}
use Rattle.ds2_object.specs.ObjectSpelling.{IsValidObject, linked_behind}
use Rattle.ds2_same_meaning.specs.CodeTables.{program_references}
use Rattle.ds2_same_meaning.specs.ProgramCode.{program_code}
use Rattle.ds2_same_meaning.specs.SameAnswer.{HasNamedInstances, code_of_stages, staged_code}
use Rattle.ds2_same_meaning.specs.SameMeaning.{OutputsHaveSlots, TypedProgramsMeanSame}
use Rattle.ds2_source.specs.InputTables.{source_inputs}
use Rattle.ds2_source.specs.SourceTexts.{StandsInText}
use Rattle.ds2_source.specs.declared.kinds.SourceRefusal.{SourceRefusal}
use Rattle.ds2_compile.specs.SourceOutcomes.{AreProgramsOf, IsRefusedSource, programs_or_refusal}
use Rattle.ds2_verdicts.specs.SourceVerdicts.{source_verdicts}
use Rattle.ds2_verdicts.specs.declared.verdicts.ThreadVerdict.{ThreadVerdict}
use Rattle.ds2_compile.specs.LocalStages.{StagesAreIndependent, LocalStagesAreIndependent}
use Rattle.ds2_compile.specs.CodesOfPrograms.{AreCodesOf}
use Rattle.ds2_compile.specs.CompiledSources.{HasStoreTable, IsCompiledProgram, AreCompiledPrograms, IsOutcomeCompiled, IsCompiled}
use Rattle.ds2_compile.specs.declared.compiling.Compiled.{Compiled}
use Rattle.ds2_compile.proofs.LinkedCodes.{AreTyped, program_referred, programs_hold}
use Rattle.ds2_compile.proofs.SettledPrograms.{AreSettled, HasSettled, IsProgramSettled, IsReferred, settled_source}

-- ---- refusals

-- the refusal of an outcome, or another one
abbrev refusal_in : SourceRefusal → Result (List ProgramTree) SourceRefusal → SourceRefusal
refusal_in other (Ok programs) = other
refusal_in other (Err refusal) = refusal

refused_is : (names : List (List ℕ)) (tables : TableColumns) (verdicts : List ThreadVerdict) (outcome : Result (List ProgramTree) ProgramRefusal) (r : SourceRefusal) → programs_or_refusal outcome ≡ Err r
    → IsOutcomeCompiled names tables verdicts outcome (Err (Refused r))
refused_is names tables verdicts (Ok programs) r e = absurd (cc e)
refused_is names tables verdicts (Err refusal) r e = sym (ap (refusal_in r) e)

pub nothing_compiled : (names : List (List ℕ)) (tables : TableColumns) (verdicts : List ThreadVerdict) (outcome : Result (List ProgramTree) ProgramRefusal) → IsOutcomeCompiled names tables verdicts outcome (Err OutOfMemory)
nothing_compiled names tables verdicts (Ok programs) = tt
nothing_compiled names tables verdicts (Err refusal) = tt

pub stopped_is : (names : List (List ℕ)) (tables : TableColumns) (verdicts : List ThreadVerdict) (outcome : Result (List ProgramTree) ProgramRefusal) (stop : Stop SourceRefusal) → IsRefusedSource outcome stop
    → IsOutcomeCompiled names tables verdicts outcome (Err stop)
stopped_is names tables verdicts outcome (Refused r) e = refused_is names tables verdicts outcome r e
stopped_is names tables verdicts outcome OutOfMemory e = nothing_compiled names tables verdicts outcome

-- ---- programs

source_is_typed : EveryTextIsTyped → (tables : TableColumns) (parts : List SourcePart) → HaveSchemas tables → StandsInText parts
    → (programs : List ProgramTree) → elaborated_source tables parts ≡ Ok programs → AreTyped programs
source_is_typed law tables parts schemas stands programs e = law tables stands.text parts programs schemas stands.short stands.stands stands.grammar e

-- the instances of thread programs that programs declare have names
abbrev pub AreNamed : List ProgramTree → Type 0
AreNamed programs = AllByRecursion HasNamedInstances programs

data_programs_typed : (programs : List ProgramTree) → AreTyped programs → AllByRecursion IsTypedProgram programs
data_programs_typed [] typed = tt
data_programs_typed (p ∷ programs) typed = (typed.0.0, data_programs_typed programs typed.1)

names_of_typed : (programs : List TypedData) → AllByRecursion (λ (d : TypedData). HasNamedInstances (typed_data_program d)) programs → AreNamed (map typed_data_program programs)
names_of_typed [] all = tt
names_of_typed (d ∷ programs) all = (all.0, names_of_typed programs all.1)

-- ---- codes

reads_of : (names : List (List ℕ)) (store : TableColumns) (earlier : List UnitTree) (references : List TableReference) → AllByRecursion (IsReferred names store earlier) references
    → AllByRecursion (HasStoreTable names store) references
reads_of names store earlier [] known = tt
reads_of names store earlier (r ∷ references) known = (IsReferred.stored known.0, reads_of names store earlier references known.1)

module _ (law : TypedProgramsMeanSame) (names : List (List ℕ)) (tables : TableColumns) where
  program_compiled : (earlier : List UnitTree) (p : ProgramTree) → IsTypedDataProgram p → HasNamedInstances p → IsProgramSettled names tables earlier p → IsCompiledProgram names tables p (staged_code p)
  program_compiled earlier p typed named settled = record {
    written = refl;
    same = law p (record { typed = typed.0; instances = named });
    reads = reads_of names tables earlier (program_references (program_code (reader_of p)) (code_of_stages p)) (program_referred names tables earlier p settled);
  }

  programs_compiled : (earlier programs : List ProgramTree) → AreTyped programs → AreNamed programs → AreSettled names tables earlier programs
      → AreCompiledPrograms names tables programs (map staged_code programs)
  programs_compiled earlier [] typed named settled = tt
  programs_compiled earlier (p ∷ programs) typed named settled =
      (program_compiled (map reader_of earlier) p typed.0 named.0 settled.0, programs_compiled (earlier ++ p ∷ []) programs typed.1 named.1 settled.1)

-- the programs of an outcome, or none
abbrev programs_in : Result (List ProgramTree) SourceRefusal → List ProgramTree
programs_in (Ok programs) = programs
programs_in (Err refusal) = []

typed_codes : (programs : List TypedData) → map (λ (d : TypedData). staged_code (typed_data_program d)) programs ≡ map staged_code (map typed_data_program programs)
typed_codes [] = refl
typed_codes (d ∷ programs) = ap (λ r. staged_code (typed_data_program d) ∷ r) (typed_codes programs)

-- the codes of the typed programs of an outcome are those of its trees
codes_of_outcome : (all : List ProgramTree) (programs : List TypedData) (codes : List StagedParts) → programs_or_refusal (Ok all) ≡ Ok (map typed_data_program programs) → AreCodesOf programs codes
    → codes ≡ map staged_code all
codes_of_outcome all programs codes e are = are ∙ typed_codes programs ∙ ap (λ ps. map staged_code ps) (sym (ap programs_in e))

outcome_linked : OutputsHaveSlots → (names : List (List ℕ)) (tables : TableColumns) (outcome : Result (List ProgramTree) ProgramRefusal) → HasSettled names tables [] outcome
    → ((programs : List ProgramTree) → outcome ≡ Ok programs → AreTyped programs)
    → (programs : List TypedData) (codes : List StagedParts) → programs_or_refusal outcome ≡ Ok (map typed_data_program programs) → AreCodesOf programs codes → linked_behind [] codes ≡ true
outcome_linked have names tables (Ok all) settled typed programs codes e are =
    subst (λ (cs : List StagedParts). linked_behind [] cs ≡ true) (sym (codes_of_outcome all programs codes e are)) (programs_hold have names tables [] all tt (typed all refl) settled)
outcome_linked have names tables (Err refusal) settled typed programs codes e are = absurd (cc e)

outcome_compiled : TypedProgramsMeanSame → (names : List (List ℕ)) (tables : TableColumns) (verdicts : List ThreadVerdict) (outcome : Result (List ProgramTree) ProgramRefusal) → HasSettled names tables [] outcome
    → ((programs : List ProgramTree) → outcome ≡ Ok programs → AreTyped programs)
    → ((programs : List ProgramTree) → outcome ≡ Ok programs → AreTyped programs → AreNamed programs → AllByRecursion (StagesAreIndependent verdicts) programs)
    → (programs : List TypedData) (compiled : Compiled) → programs_or_refusal outcome ≡ Ok (map typed_data_program programs)
    → AllByRecursion (λ (d : TypedData). HasNamedInstances (typed_data_program d)) programs → AreCodesOf programs compiled.object → IsValidObject compiled.object
    → compiled.verdicts ≡ verdicts → IsOutcomeCompiled names tables verdicts outcome (Ok compiled)
outcome_compiled law names tables verdicts (Ok all) settled typed apart programs compiled e named codes valid judged =
    let all_named : AreNamed all = subst AreNamed (sym (ap programs_in e)) (names_of_typed programs named) in
    record {
      object = record {
        valid = valid;
        codes =
            subst (λ (cs : List StagedParts). AreCompiledPrograms names tables all cs) (sym (codes_of_outcome all programs compiled.object e codes))
            (programs_compiled law names tables [] all (typed all refl) all_named settled);
      };
      judged = judged;
      independent = apart all refl (typed all refl) all_named;
    }
outcome_compiled law names tables verdicts (Err refusal) settled typed apart programs compiled e named codes valid judged = absurd (cc e)

module _ (texts : EveryTextIsTyped) (tables : TableColumns) (parts : List SourcePart) (schemas : HaveSchemas tables) (stands : StandsInText parts)
    (programs : List TypedData) (is : AreProgramsOf (elaborated_source tables parts) programs) where
  -- the codes of a source are linked
  pub source_linked : OutputsHaveSlots → (codes : List StagedParts) → AreCodesOf programs codes → linked_behind [] codes ≡ true
  source_linked have codes are =
      outcome_linked have (names_alone (source_inputs parts)) tables (elaborated_source tables parts) (settled_source tables parts) (source_is_typed texts tables parts schemas stands) programs codes is are

  -- a source, with the object of its programs
  pub source_compiled : TypedProgramsMeanSame → LocalStagesAreIndependent → (compiled : Compiled) → AllByRecursion (λ (d : TypedData). HasNamedInstances (typed_data_program d)) programs → AreCodesOf programs compiled.object
      → IsValidObject compiled.object → compiled.verdicts ≡ source_verdicts tables parts → IsCompiled tables parts (Ok compiled)
  source_compiled law local compiled named are valid judged =
      outcome_compiled law (names_alone (source_inputs parts)) tables (source_verdicts tables parts) (elaborated_source tables parts) (settled_source tables parts)
      (source_is_typed texts tables parts schemas stands) (λ all e typed all_named. local tables parts all e (data_programs_typed all typed) all_named)
      programs compiled is named are valid judged
