-- From the file of a source to its object.
use Rattle.std.proofs.Common.{◌≡◌, ◌≢◌, ◌∙◌, ◌&&◌, IsErrAnd, IsTrue, if◌then◌else◌, Bool, true, false, bytes_eq, ℕ, List, [], ◌∷◌, ◌++◌, map, Option, Some, None, Result, Ok, Err, refl, sym, ap, subst}
use Rattle.std.specs.List.{AllByRecursion}
use Rattle.ds2_base.specs.Bytes.{Bytes}
use Rattle.ds2_base.specs.declared.stop.Stop.{Stop}
use Rattle.ds2_base.specs.declared.stop.Stop.TheVariants.{Refused}
use Rattle.ds2_base.specs.Text.{text_of}
use Rattle.ds2_table.specs.Table.{Contents}
use Rattle.ds2_outside.specs.Files.{Files, with_file}
use Rattle.ds2_object.specs.ObjectSpelling.{linked_behind}
use Rattle.ds2_code.specs.ValidCode.{is_short}
use Rattle.ds2_compile.specs.Answers.{AnswersWith}
use Rattle.ds2_compile.specs.AnswersOfTexts.{OneSourceAnswer, SourcesRead}
use Rattle.ds2_compile.specs.CodeTables.{program_references}
use Rattle.ds2_compile.specs.CompiledSources.{AreCompiledPrograms, HasStoreTable, IsCompiled, IsCompiledObject, IsOutcomeCompiled}
use Rattle.ds2_compile.specs.Elaboration.{ProgramRefusal, elaborated_source}
use Rattle.ds2_compile.specs.InputTables.{names_or_refusal, source_inputs}
use Rattle.ds2_compile.specs.ProgramTree.{ProgramTree}
use Rattle.ds2_compile.specs.SourceAnswer.{IsSourceAnswer, SourceAnswer}
use Rattle.ds2_compile.specs.SourceRefusal.{SourceRefusal}
use Rattle.ds2_compile.specs.SourceUnit.{TableColumns, columns_stored, names_alone}
use Rattle.ds2_compile.specs.StagedParts.{StagedParts}
use Rattle.ds2_compile.specs.TableReference.{TableReference}
use Rattle.ds2_compile.specs.Units.{SourcePart}
use Rattle.ds2_compile.specs.declared.compiling.Compiled.{Compiled}
use Rattle.ds2_answer.specs.declared.kinds.TheConstants.{SOURCE_LIMIT}
use Rattle.ds2_answer.specs.declared.status.Status.{Status}
use Rattle.ds2_answer.specs.declared.status.Status.TheVariants as ended
use Rattle.ds2_answer.specs.Answer.{table_file}
use Rattle.ds2_answer.specs.HeldTables.{NamedTable, columns_held, contents_named, held_from_store}
use Rattle.ds2_answer.specs.Lines.{source_line}
use Rattle.ds2_answer.specs.ObjectPlans.{references_of}
use Rattle.ds2_answer.specs.Plan.{Plan, Stops, Logs, ReadsFile, each_in_turn}
use Rattle.ds2_answer.specs.SourcePlans.{SourceCommand, source_plan, with_inputs, with_typed_programs, with_tables, with_text, with_tree}
use Rattle.ds2_answer.specs.Status.{IsAnswerStatus}
use Rattle.ds2_answer.specs.StoredCodes.{HaveCodes}
use Rattle.ds2_answer.specs.TablePlans.{read_tables}
use Rattle.ds2_answer.specs.Words.{is_source}
use Rattle.ds2_exec.specs.CodeRuns.{HasColumnsStored}
use Rattle.ds2_exec.specs.VerdictGrains.{VerdictGrainsFit}
use Rattle.ds2_compile.specs.LocalStages.{StagesAreIndependent}
use Rattle.ds2_exec.specs.LocalThreads.{IndependentCodeGivesStages}
use Rattle.ds2_verdicts.specs.OwnVerdicts.{ProgramsHaveVerdicts, StagesHaveVerdicts}
use Rattle.ds2_verdicts.specs.SourceVerdicts.{source_verdicts}
use Rattle.ds2_verdicts.specs.declared.verdicts.ThreadVerdict.{ThreadVerdict}
use Rattle.ds2_store_steps.specs.FileReads.{OverSomeFiles, ReadsWholeFile}
use Rattle.ds2_store_steps.specs.Halts.{HaltsAs, HaltsPlan, StopsAs}
use Rattle.ds2_store_steps.specs.TableReads.{ReadsTables}
use Rattle.ds2_store_steps.specs.declared.halt.Halt.{Halt}
use Rattle.ds2_store_steps.specs.declared.halt.Halt.TheVariants.{OutOfMemory, Ended}
use Rattle.ds2_store_steps.proofs.FileSteps.{line_ends, over_all, over_map}
use Rattle.ds2_store_steps.proofs.Leading.{at_once, does_on}
use Rattle.ds2_commands.specs.SourceLoads.{IsObjectOfPrograms, LoadsSource, ReadsInputs, WasLoaded, schema_held}
use Rattle.ds2_commands.specs.declared.loaded.Loaded.{Loaded}
use Rattle.ds2_commands.proofs.LocalRuns.{independent_codes}
use Rattle.ds2_commands.proofs.FileReads.{file_found, holds_file, leads_reads, reads_append, same_over, same_tables, table_is_no_source, table_reads}

-- ---- with which status a call has ended

-- a refusal ends a command with its status and with no other one
pub said_as : (status other : Status) (line said : List ℕ) (halt : Halt) (log : List ℕ) → (status ≡ other → ⊥) → StopsAs status line said halt log → HaltsAs {T = Loaded} other (Err halt) → ⊥
said_as status other line said (Ended ended) log unlike stops halts = unlike (sym stops.0 ∙ halts)
said_as status other line said OutOfMemory log unlike stops halts = halts

-- want of memory has no status of the outside
pub unmade_as : (status : Status) (result : Result Loaded Halt) → IsErrAnd result (λ e. e ≡ OutOfMemory) → HaltsAs status result → ⊥
unmade_as status (Ok loaded) is halts = halts
unmade_as status (Err e) is halts = subst (λ (h : Halt). HaltsAs {T = Loaded} status (Err h)) is halts

-- ---- what ends a command whatever the files are

-- the plan of a source is a line that ends it, whatever the command does with the source
pub loads_line : (plan : Files → SourceCommand → Plan) (status : Status) (line said log : List ℕ) (told now : Option Files) (halt : Halt) → ((files : Files) (go : SourceCommand) → plan files go ≡ Logs line (Stops status))
    → IsAnswerStatus status → StopsAs status line said halt log → now ≡ told → LoadsSource plan said told (Err halt) log now
loads_line plan status line said log told now halt is answers stops same =
    over_all told (λ files. (go : SourceCommand) → HaltsPlan (plan files go) said told halt log now)
    (λ files go. subst (λ (p : Plan). HaltsPlan p said told halt log now) (sym (is files go)) (line_ends status line said told now halt log answers stops same))

-- a call has found no memory, and left what stood before
pub loads_short : (plan : Files → SourceCommand → Plan) (said log : List ℕ) (told now : Option Files) → now ≡ told → LoadsSource plan said told (Err OutOfMemory) log now
loads_short plan said log told now same =
    over_all told (λ files. (go : SourceCommand) → HaltsPlan (plan files go) said told OutOfMemory log now) (λ files go. subst (λ (n : Option Files). HaltsPlan (plan files go) said told OutOfMemory log n) (sym same) (at_once (plan files go) told))

pub loads_unmade : (plan : Files → SourceCommand → Plan) (said log : List ℕ) (told now : Option Files) (result : Result Loaded Halt) → IsErrAnd result (λ e. e ≡ OutOfMemory) → now ≡ told
    → LoadsSource plan said told result log now
loads_unmade plan said log told now (Ok loaded) is same = absurd is
loads_unmade plan said log told now (Err e) is same = subst (λ (h : Halt). LoadsSource plan said told (Err h) log now) (sym is) (loads_short plan said log told now same)

-- two plans that are the same
pub loads_same : (plan other : Files → SourceCommand → Plan) (said log : List ℕ) (told now : Option Files) (result : Result Loaded Halt) → ((files : Files) (go : SourceCommand) → plan files go ≡ other files go)
    → LoadsSource plan said told result log now → LoadsSource other said told result log now
loads_same plan other said log told now (Ok loaded) same (was, log_is, now_is) = (
  record {
    files = was.files;
    told_is = was.told_is;
    programs = was.programs;
    becomes = record { names = was.becomes.names; plan_is = λ go. sym (same was.files go) ∙ was.becomes.plan_is go };
    object = was.object;
  },
  log_is,
  now_is,
)
loads_same plan other said log told now (Err halt) same halts =
    over_map told (λ files. (go : SourceCommand) → HaltsPlan (plan files go) said told halt log now) (λ files. (go : SourceCommand) → HaltsPlan (other files go) said told halt log now)
    (λ files h go. subst (λ (p : Plan). HaltsPlan p said told halt log now) (same files go) (h go)) halts

-- ---- the columns of tables

columns_at : (stored : List NamedTable) (name : List ℕ) → columns_stored (map schema_held stored) name ≡ Contents.columns (contents_named stored name)
columns_at [] name = refl
columns_at (t ∷ stored) name = by (bytes_eq t.name name) (columns_at stored name)
  where
    by : (here : Bool) → columns_stored (map schema_held stored) name ≡ Contents.columns (contents_named stored name)
        → (if here then t.contents.columns else columns_stored (map schema_held stored) name) ≡ Contents.columns (if here then t.contents else contents_named stored name)
    by true others = refl
    by false others = others

pub columns_are_held : (stored : List NamedTable) → columns_stored (map schema_held stored) ≡ columns_held (held_from_store stored)
columns_are_held stored = λ i name. columns_at stored name i

-- ---- the object of a source

have_codes : (names : List (List ℕ)) (tables : TableColumns) (programs : List ProgramTree) (object : List StagedParts) → AreCompiledPrograms names tables programs object → HaveCodes programs object
have_codes names tables [] [] are = tt
have_codes names tables [] (code ∷ object) are = are
have_codes names tables (p ∷ programs) [] are = are
have_codes names tables (p ∷ programs) (code ∷ object) are = (are.0.same, have_codes names tables programs object are.1)

all_append : {A : Type 0} (P : A → Type 0) (xs ys : List A) → AllByRecursion P xs → AllByRecursion P ys → AllByRecursion P (xs ++ ys)
all_append P [] ys a b = b
all_append P (x ∷ xs) ys a b = (a.0, all_append P xs ys a.1 b)

module _ (names : List (List ℕ)) (stored : List NamedTable) where
  columns_of : (references : List TableReference) → AllByRecursion (HasStoreTable names (columns_held (held_from_store stored))) references → AllByRecursion (HasColumnsStored stored) references
  columns_of [] reads = tt
  columns_of (r ∷ references) reads = (λ zero. sym (reads.0 zero).1, columns_of references reads.1)

  all_columns : (programs : List ProgramTree) (object : List StagedParts) → AreCompiledPrograms names (columns_held (held_from_store stored)) programs object
      → AllByRecursion (HasColumnsStored stored) (references_of object)
  all_columns [] [] are = tt
  all_columns [] (code ∷ object) are = absurd are
  all_columns (p ∷ programs) [] are = tt
  all_columns (p ∷ programs) (code ∷ object) are =
      all_append (HasColumnsStored stored) (program_references code.program code.stages) (references_of object) (columns_of (program_references code.program code.stages) are.0.reads) (all_columns programs object are.1)

second_of : (a b : Bool) → IsTrue (a && b) → IsTrue b
second_of true b h = h
second_of false b h = absurd (cc)

object_of_programs : VerdictGrainsFit → IndependentCodeGivesStages → (names : List (List ℕ)) (programs : List ProgramTree) (loaded : Loaded) → AllByRecursion (StagesHaveVerdicts loaded.verdicts) programs
    → AllByRecursion (StagesAreIndependent loaded.verdicts) programs → IsCompiledObject names (columns_held (held_from_store loaded.stored)) programs loaded.object → IsObjectOfPrograms programs loaded
object_of_programs fits law names programs loaded own judged is = record {
  codes = have_codes names (columns_held (held_from_store loaded.stored)) programs loaded.object is.codes;
  valid = is.valid;
  runs = record {
    linked = record {
      links = second_of (is_short loaded.object) (linked_behind [] loaded.object) is.valid.links;
      columns = all_columns names loaded.stored programs loaded.object is.codes;
    };
    fit = fits loaded.verdicts programs loaded.object own (have_codes names (columns_held (held_from_store loaded.stored)) programs loaded.object is.codes);
    independent = independent_codes law loaded.verdicts names (columns_held (held_from_store loaded.stored)) programs loaded.object is.codes judged;
  };
}

module _ (names : List (List ℕ)) (parts : List SourcePart) (stored : List NamedTable) where
  abbrev outcome_over : Result (List ProgramTree) ProgramRefusal
  outcome_over = elaborated_source (columns_held (held_from_store stored)) parts

  abbrev verdicts_over : List ThreadVerdict
  verdicts_over = source_verdicts (columns_held (held_from_store stored)) parts

  loaded_by : VerdictGrainsFit → IndependentCodeGivesStages → ProgramsHaveVerdicts → (outcome : Result (List ProgramTree) ProgramRefusal) → outcome_over ≡ outcome → (loaded : Loaded) → loaded.stored ≡ stored
      → (compiled : Compiled) → compiled.object ≡ loaded.object → loaded.verdicts ≡ compiled.verdicts → IsOutcomeCompiled names (columns_held (held_from_store stored)) verdicts_over outcome (Ok compiled)
      → (told : Option Files) → WasLoaded (λ files go. with_tables parts go stored) told loaded
  loaded_by fits law own (Err refusal) e loaded stored_is compiled object_is kept is told = absurd is
  loaded_by fits law own (Ok programs) e loaded stored_is compiled object_is kept is told =
      let some = over_all told (λ (files : Files). Unit {0}) (λ files. tt) in
      let verdicts_are : loaded.verdicts ≡ verdicts_over = kept ∙ is.judged in
      record {
        files = some.files;
        told_is = some.told_is;
        programs = programs;
        becomes = record {
          names = [];
          plan_is = λ go. ap (λ (o : Result (List ProgramTree) ProgramRefusal). with_typed_programs o (go (held_from_store stored) verdicts_over)) e
              ∙ (λ i. go (held_from_store (sym stored_is i)) (sym verdicts_are i) programs);
        };
        object = object_of_programs fits law names programs loaded
            (subst (λ (vs : List ThreadVerdict). AllByRecursion (StagesHaveVerdicts vs) programs) (sym verdicts_are) (own (columns_held (held_from_store stored)) parts programs e))
            (subst (λ (vs : List ThreadVerdict). AllByRecursion (StagesAreIndependent vs) programs) (sym verdicts_are) is.independent)
            (subst (λ (ts : List NamedTable). IsCompiledObject names (columns_held (held_from_store ts)) programs loaded.object) (sym stored_is)
            (subst (λ (object : List StagedParts). IsCompiledObject names (columns_held (held_from_store stored)) programs object) object_is is.object));
      }

  refused_by : (outcome : Result (List ProgramTree) ProgramRefusal) → outcome_over ≡ outcome → (given : SourceRefusal) (said log : List ℕ) (halt : Halt) → IsOutcomeCompiled names (columns_held (held_from_store stored)) verdicts_over outcome (Err (Refused given))
      → StopsAs ended.Source (source_line given) said halt log → (told : Option Files) → LoadsSource (λ files go. with_tables parts go stored) said told (Err halt) log told
  refused_by (Ok programs) e given said log halt is stops told = absurd is
  refused_by (Err refusal) e given said log halt is stops told =
      loads_line (λ files go. with_tables parts go stored) ended.Source (source_line given) said log told told halt
      (λ files go. ap (λ (o : Result (List ProgramTree) ProgramRefusal). with_typed_programs o (go (held_from_store stored) verdicts_over)) e
      ∙ ap (λ (r : SourceRefusal). Logs (source_line r) (Stops ended.Source)) (sym is)) tt stops refl

module _ (tables : TableColumns) (parts : List SourcePart) (stored : List NamedTable) (same : tables ≡ columns_held (held_from_store stored)) where
  -- a source was compiled over the tables that were read
  pub compiled_over : VerdictGrainsFit → IndependentCodeGivesStages → ProgramsHaveVerdicts → (loaded : Loaded) → loaded.stored ≡ stored → (compiled : Compiled) → compiled.object ≡ loaded.object → loaded.verdicts ≡ compiled.verdicts
      → IsCompiled tables parts (Ok compiled) → (said : List ℕ) (told : Option Files) → LoadsSource (λ files go. with_tables parts go stored) said told (Ok loaded) said told
  compiled_over fits law own loaded stored_is compiled object_is kept is said told = (
    loaded_by (names_alone (source_inputs parts)) parts stored fits law own (elaborated_source (columns_held (held_from_store stored)) parts) refl loaded stored_is compiled object_is kept
        (subst (λ (ts : TableColumns). IsCompiled ts parts (Ok compiled)) same is) told,
    refl,
    refl,
  )

  -- a source was refused for its names or types
  pub refused_over : (given : SourceRefusal) (stop : Stop SourceRefusal) (said log : List ℕ) (halt : Halt) → stop ≡ Refused given → IsCompiled tables parts (Err stop)
      → StopsAs ended.Source (source_line given) said halt log → (told : Option Files) → LoadsSource (λ files go. with_tables parts go stored) said told (Err halt) log told
  refused_over given stop said log halt stop_is is stops told =
      refused_by (names_alone (source_inputs parts)) parts stored (elaborated_source (columns_held (held_from_store stored)) parts) refl given said log halt
      (subst (λ (ts : TableColumns). IsCompiled ts parts (Err (Refused given))) same (subst (λ (s : Stop SourceRefusal). IsCompiled tables parts (Err s)) stop_is is)) stops told

-- ---- the tables of a source

module _ (parts : List SourcePart) where
  -- the names of its tables were given, and the tables read
  pub inputs_given : (given names : List (List ℕ)) (said log : List ℕ) (told now : Option Files) (result : Result (List NamedTable) Halt) → names_or_refusal (source_inputs parts) ≡ Ok given → names ≡ given
      → ReadsTables [] names [] said told result log now → ReadsInputs parts said told result log now
  inputs_given given names said log told now (Ok read) is same (log_is, now_is, over) = (
    record {
      files = over.files;
      told_is = over.told_is;
      names = map table_file names;
      plan_is = λ go.
          ap (λ (w : Result (List (List ℕ)) SourceRefusal). with_inputs w parts over.files go) is
          ∙ ap (λ (ns : List (List ℕ)). read_tables [] ns [] over.files (with_tables parts go)) (sym same)
          ∙ over.holds (with_tables parts go)
          ∙ table_reads names (with_tables parts go read);
    },
    log_is,
    now_is,
  )
  inputs_given given names said log told now (Err halt) is same over =
      over_map told (λ files. (go : List NamedTable → Plan) → HaltsPlan (read_tables [] names [] files go) said told halt log now)
      (λ files. (go : SourceCommand) → HaltsPlan (with_inputs (names_or_refusal (source_inputs parts)) parts files go) said told halt log now)
      (λ files h go.
      subst (λ (p : Plan). HaltsPlan p said told halt log now)
      (ap (λ (ns : List (List ℕ)). read_tables [] ns [] files (with_tables parts go)) same ∙ ap (λ (w : Result (List (List ℕ)) SourceRefusal). with_inputs w parts files go) (sym is))
      (h (with_tables parts go))) over

  inputs_line : (wanted : Result (List (List ℕ)) SourceRefusal) (given : SourceRefusal) (said log : List ℕ) (told now : Option Files) (halt : Halt) → wanted ≡ Err given
      → StopsAs ended.Source (source_line given) said halt log → now ≡ told
      → OverSomeFiles told (λ files. (go : SourceCommand) → HaltsPlan (with_inputs wanted parts files go) said told halt log now)
  inputs_line wanted given said log told now halt is stops same =
      loads_line (λ files go. with_inputs wanted parts files go) ended.Source (source_line given) said log told now halt
      (λ files go. ap (λ (w : Result (List (List ℕ)) SourceRefusal). with_inputs w parts files go) is) tt stops same

  -- there are too many tables
  pub inputs_refused : (given : SourceRefusal) (stop : Stop SourceRefusal) (said log : List ℕ) (told now : Option Files) (halt : Halt) → stop ≡ Refused given
      → AnswersWith (names_or_refusal (source_inputs parts)) (Err stop) → StopsAs ended.Source (source_line given) said halt log → now ≡ told
      → ReadsInputs parts said told (Err halt) log now
  inputs_refused given stop said log told now halt stop_is is stops same =
      inputs_line (names_or_refusal (source_inputs parts)) given said log told now halt (subst (λ (s : Stop SourceRefusal). AnswersWith (names_or_refusal (source_inputs parts)) (Err s)) stop_is is) stops same

  pub inputs_short : (said log : List ℕ) (told now : Option Files) → now ≡ told → ReadsInputs parts said told (Err OutOfMemory) log now
  inputs_short said log told now same = loads_short (λ files go. with_inputs (names_or_refusal (source_inputs parts)) parts files go) said log told now same

  abbrev inputs_plan : Files → SourceCommand → Plan
  inputs_plan files go = with_inputs (names_or_refusal (source_inputs parts)) parts files go

  -- the reading of the tables has ended the command
  pub inputs_end : (said log : List ℕ) (told now : Option Files) (halt : Halt) (result : Result Loaded Halt) → IsErrAnd result (λ e. e ≡ halt) → ReadsInputs parts said told (Err halt) log now
      → LoadsSource inputs_plan said told result log now
  inputs_end said log told now halt (Ok loaded) is reads = absurd is
  inputs_end said log told now halt (Err e) is reads = subst (λ (h : Halt). LoadsSource inputs_plan said told (Err h) log now) (sym is) reads

  -- the tables were read, and the source compiled over them
  pub inputs_then : (read : List NamedTable) (said text log : List ℕ) (told between now : Option Files) (result : Result Loaded Halt) → ReadsInputs parts said told (Ok read) text between
      → LoadsSource (λ files go. with_tables parts go read) text between result log now → LoadsSource inputs_plan said told result log now
  inputs_then read said text log told between now (Ok loaded) (inputs, text_is, between_is) (was, log_is, now_is) = (
    record {
      files = inputs.files;
      told_is = inputs.told_is;
      programs = was.programs;
      becomes = record {
        names = inputs.names ++ was.becomes.names;
        plan_is = λ go.
            inputs.plan_is go ∙ ap (λ (p : Plan). each_in_turn ReadsFile inputs.names p) (was.becomes.plan_is go)
            ∙ reads_append inputs.names was.becomes.names (go (held_from_store loaded.stored) loaded.verdicts was.programs);
      };
      object = was.object;
    },
    log_is ∙ text_is,
    now_is ∙ between_is,
  )
  inputs_then read said text log told between now (Err halt) (inputs, text_is, between_is) halts =
      record {
        files = inputs.files;
        told_is = inputs.told_is;
        holds = λ go.
            let whole = each_in_turn ReadsFile inputs.names (with_tables parts go read) in
            subst (λ (p : Plan). HaltsPlan p said told halt log now) (sym (inputs.plan_is go))
            (does_on {T = Unit {0}} whole (with_tables parts go read) (λ _. Stops ended.Done) said said told told (Err halt) log now (leads_reads inputs.names (with_tables parts go read) said told)
            (subst (λ (t : List ℕ). HaltsPlan (with_tables parts go read) t told halt log now) text_is
            (subst (λ (f : Option Files). HaltsPlan (with_tables parts go read) text f halt log now) between_is (halts.holds go))));
      }

-- ---- the tree and the text of a source

pub text_tree : OneSourceAnswer → (sources : SourcesRead) (text : Bytes) (parts : List SourcePart) (said log : List ℕ) (told now : Option Files) (result : Result Loaded Halt) → IsSourceAnswer text (Ok parts)
    → LoadsSource (λ files go. with_inputs (names_or_refusal (source_inputs parts)) parts files go) said told result log now → LoadsSource (λ files go. with_tree (sources.answer_for text) files go) said told result log now
text_tree one sources text parts said log told now result is loads =
    loads_same (λ files go. with_tree (Ok parts) files go) (λ files go. with_tree (sources.answer_for text) files go) said log told now result
    (λ files go. ap (λ (read : SourceAnswer). with_tree read files go) (one text (Ok parts) (sources.answer_for text) is (sources.is_answer text))) loads

pub text_refused : OneSourceAnswer → (sources : SourcesRead) (text : Bytes) (given : SourceRefusal) (said log : List ℕ) (told now : Option Files) (halt : Halt) → IsSourceAnswer text (Err given)
    → StopsAs ended.Source (source_line given) said halt log → now ≡ told → LoadsSource (λ files go. with_tree (sources.answer_for text) files go) said told (Err halt) log now
text_refused one sources text given said log told now halt is stops same =
    loads_line (λ files go. with_tree (sources.answer_for text) files go) ended.Source (source_line given) said log told now halt
    (λ files go. ap (λ (read : SourceAnswer). with_tree read files go) (one text (sources.answer_for text) (Err given) (sources.is_answer text) is)) tt stops same

-- ---- the file of a source

module _ (name bytes : List ℕ) (named : IsTrue (is_source name)) where
  unlike : (table : List ℕ) → table_file table ≢ name
  unlike table is = table_is_no_source table (subst (λ (m : List ℕ). IsTrue (is_source m)) (sym is) named)

  same_names : (wanted : Result (List (List ℕ)) SourceRefusal) (parts : List SourcePart) (files : Files) (go : SourceCommand) → with_inputs wanted parts (with_file files name bytes) go ≡ with_inputs wanted parts files go
  same_names (Err refusal) parts files go = refl
  same_names (Ok names) parts files go = same_tables name bytes unlike [] names [] files (with_tables parts go)

  same_tree : (read : SourceAnswer) (files : Files) (go : SourceCommand) → with_tree read (with_file files name bytes) go ≡ with_tree read files go
  same_tree (Err refusal) files go = refl
  same_tree (Ok parts) files go = same_names (names_or_refusal (source_inputs parts)) parts files go

  same_text : (sources : SourcesRead) (text : Option Bytes) (files : Files) (go : SourceCommand) → with_text sources name text (with_file files name bytes) go ≡ with_text sources name text files go
  same_text sources None files go = refl
  same_text sources (Some text) files go = same_tree (sources.answer_for text) files go

module _ (sources : SourcesRead) (name : List ℕ) where
  -- the file was read, and its text loaded
  pub file_then : (bytes said text log : List ℕ) (told between now : Option Files) (result : Result Loaded Halt) → IsTrue (is_source name) → ReadsWholeFile SOURCE_LIMIT name said told (Ok bytes) text between
      → LoadsSource (λ files go. with_text sources name (text_of bytes) files go) text between result log now → LoadsSource (source_plan sources name) said told result log now
  file_then bytes said text log told between now (Ok loaded) named (read, text_is, between_is) (was, log_is, now_is) =
      let held = holds_file SOURCE_LIMIT name told between bytes was.files read between_is was.told_is in (
        record {
          files = held.files;
          told_is = held.told_is;
          programs = was.programs;
          becomes = record {
            names = name ∷ was.becomes.names;
            plan_is = λ go.
                file_found SOURCE_LIMIT name held.files bytes (λ b. with_text sources name (text_of b) held.files go) held.found
                ∙ ap (λ (p : Plan). ReadsFile name p)
                (same_over SOURCE_LIMIT name told bytes was.files held (λ files. with_text sources name (text_of bytes) files go) (same_text name bytes named sources (text_of bytes) was.files go) ∙ was.becomes.plan_is go);
          };
          object = was.object;
        },
        log_is ∙ text_is,
        now_is ∙ between_is,
      )
  file_then bytes said text log told between now (Err halt) named (read, text_is, between_is) halts =
      let held = holds_file SOURCE_LIMIT name told between bytes halts.files read between_is halts.told_is in
      record {
        files = held.files;
        told_is = held.told_is;
        holds = λ go.
            let rest = with_text sources name (text_of bytes) halts.files go in
            subst (λ (p : Plan). HaltsPlan p said told halt log now)
            (sym (file_found SOURCE_LIMIT name held.files bytes (λ b. with_text sources name (text_of b) held.files go) held.found
            ∙ ap (λ (p : Plan). ReadsFile name p)
            (same_over SOURCE_LIMIT name told bytes halts.files held (λ files. with_text sources name (text_of bytes) files go) (same_text name bytes named sources (text_of bytes) halts.files go))))
            (does_on {T = Unit {0}} (ReadsFile name rest) rest (λ _. Stops ended.Done) said said told told (Err halt) log now (leads_reads (name ∷ []) rest said told)
            (subst (λ (t : List ℕ). HaltsPlan rest t told halt log now) text_is (subst (λ (f : Option Files). HaltsPlan rest text f halt log now) between_is (halts.holds go))));
      }

  -- the source was refused, or not read
  pub file_ends : (said log : List ℕ) (told now : Option Files) (halt : Halt) (result : Result Loaded Halt) → IsErrAnd result (λ e. e ≡ halt) → ReadsWholeFile SOURCE_LIMIT name said told (Err halt) log now
      → LoadsSource (source_plan sources name) said told result log now
  file_ends said log told now halt (Ok loaded) is reads = absurd is
  file_ends said log told now halt (Err e) is reads =
      record {
        files = reads.files;
        told_is = reads.told_is;
        holds = λ go. subst (λ (h : Halt). HaltsPlan (source_plan sources name reads.files go) said told h log now) (sym is) (reads.holds (λ bytes. with_text sources name (text_of bytes) reads.files go));
      }
