-- With which statuses plans stop, before their first write and behind it.
use Rattle.std.proofs.Common.{◌≡◌, Bool, true, false, if◌then◌else◌, ℕ, List, [], ◌∷◌, ◌++◌, map, flat_map, Option, Some, None, Result, Ok, Err, refl}
use Rattle.ds2_base.specs.Bytes.{Bytes}
use Rattle.ds2_base.specs.Text.{text_of}
use Rattle.ds2_value.specs.declared.fault.Ending.{Ending}
use Rattle.ds2_value.specs.declared.fault.Ending.TheVariants.{Normal, Faulted}
use Rattle.ds2_table.specs.Table.{Contents}
use Rattle.ds2_csv.specs.Reads.{reads}
use Rattle.ds2_csv.specs.declared.refusal.CsvRefusal.{CsvRefusal}
use Rattle.ds2_outside.specs.Files.{Files, file}
use Rattle.ds2_object.specs.declared.refusal.ObjectRefusal.{ObjectRefusal}
use Rattle.ds2_compile.specs.AnswersOfTexts.{SourcesRead}
use Rattle.ds2_compile.specs.Elaboration.{ProgramRefusal, elaborated_source}
use Rattle.ds2_compile.specs.InputTables.{names_or_refusal, source_inputs}
use Rattle.ds2_compile.specs.ProgramTree.{ProgramTree}
use Rattle.ds2_compile.specs.SourceAnswer.{SourceAnswer}
use Rattle.ds2_compile.specs.SourceRefusal.{SourceRefusal}
use Rattle.ds2_compile.specs.StagedParts.{StagedParts}
use Rattle.ds2_compile.specs.TableReference.{TableReference}
use Rattle.ds2_compile.specs.Units.{SourcePart}
use Rattle.ds2_answer.specs.declared.kinds.FileKind.{FileKind}
use Rattle.ds2_answer.specs.declared.kinds.TheConstants.{OBJECT_LIMIT, SOURCE_LIMIT, TABLE_LIMIT}
use Rattle.ds2_answer.specs.declared.status.Status.{Status}
use Rattle.ds2_answer.specs.declared.status.Status.TheVariants as ended
use Rattle.ds2_answer.specs.Answer.{table_file}
use Rattle.ds2_answer.specs.HeldTables.{HeldTables, NamedTable, columns_held, held_behind, held_from_store}
use Rattle.ds2_answer.specs.Load.{within_limit}
use Rattle.ds2_answer.specs.ObjectPlans.{ObjectReading, exec_plan, object_inputs, object_over, on_object, outputs_of_code, references_of, run_of_code}
use Rattle.ds2_answer.specs.Plan.{Plan, Stops, Logs, ReadsFile, AsksFor, WritesFile, each_in_turn}
use Rattle.ds2_answer.specs.PlanSteps.{files_behind_all, status_at_end, steps_of}
use Rattle.ds2_answer.specs.ProgramPlans.{ProgramLeft, ProgramRun, count_rows_then, count_stage_then, end_then, programs_plan, put_then, write_then}
use Rattle.ds2_answer.specs.StagesLeft.{StageLeft, no_verdict}
use Rattle.ds2_answer.specs.SourcePlans.{check_threads, SourceCommand, source_plan, with_inputs, with_typed_programs, with_tables, with_text, with_tree}
use Rattle.ds2_verdicts.specs.SourceVerdicts.{source_verdicts}
use Rattle.ds2_verdicts.specs.declared.verdicts.ThreadVerdict.{ThreadVerdict}
use Rattle.ds2_answer.specs.TablePlans.{OutputNamed, Presence, are_columns_named, ask_unless_made, made_too, none_made, outputs_then, read_tables, unless_there, with_bytes, with_read_columns, with_read_table}

-- a plan stops with such a status before its first write, or with such another one behind it
abbrev pub StopsAmong : (Status → Type 0) → (Status → Type 0) → Plan → Type 0
StopsAmong P Q (Stops status) = P status
StopsAmong P Q (Logs line rest) = StopsAmong P Q rest
StopsAmong P Q (ReadsFile name rest) = StopsAmong P Q rest
StopsAmong P Q (AsksFor name rest) = StopsAmong P Q rest
StopsAmong P Q (WritesFile name bytes rest) = StopsAmong Q Q rest

pub behind_writes : (Q : Status → Type 0) (plan : Plan) → StopsAmong Q Q plan → Q (status_at_end plan)
behind_writes Q (Stops status) s = s
behind_writes Q (Logs line rest) s = behind_writes Q rest s
behind_writes Q (ReadsFile name rest) s = behind_writes Q rest s
behind_writes Q (AsksFor name rest) s = behind_writes Q rest s
behind_writes Q (WritesFile name bytes rest) s = behind_writes Q rest s

-- one of both
pub either_way : (P Q R : Status → Type 0) (plan : Plan) → ((s : Status) → P s → R s) → ((s : Status) → Q s → R s) → StopsAmong P Q plan → R (status_at_end plan)
either_way P Q R (Stops status) f g s = f status s
either_way P Q R (Logs line rest) f g s = either_way P Q R rest f g s
either_way P Q R (ReadsFile name rest) f g s = either_way P Q R rest f g s
either_way P Q R (AsksFor name rest) f g s = either_way P Q R rest f g s
either_way P Q R (WritesFile name bytes rest) f g s = g (status_at_end rest) (behind_writes Q rest s)

-- a plan that stops with a status that none has behind a write has written nothing
pub nothing_written : (P Q : Status → Type 0) (plan : Plan) (files : Files) → StopsAmong P Q plan → (Q (status_at_end plan) → ⊥) → files_behind_all (steps_of plan) files ≡ files
nothing_written P Q (Stops status) files s n = refl
nothing_written P Q (Logs line rest) files s n = nothing_written P Q rest files s n
nothing_written P Q (ReadsFile name rest) files s n = nothing_written P Q rest files s n
nothing_written P Q (AsksFor name rest) files s n = nothing_written P Q rest files s n
nothing_written P Q (WritesFile name bytes rest) files s n = absurd (n (behind_writes Q rest s))

-- ---- the parts of plans

module _ (P Q : Status → Type 0) where
  -- what is not refused
  pub bytes_stop : P ended.File → (name : List ℕ) (bytes : Result (List ℕ) FileKind) (go : List ℕ → Plan) → ((b : List ℕ) → StopsAmong P Q (go b)) → StopsAmong P Q (with_bytes name bytes go)
  bytes_stop f name (Err kind) go s = f
  bytes_stop f name (Ok bytes) go s = s bytes

  columns_stop : P ended.File → (right : Bool) (name : List ℕ) (go : Plan) → StopsAmong P Q go → StopsAmong P Q (with_read_columns right name go)
  columns_stop f true name go s = s
  columns_stop f false name go s = f

  table_stop : P ended.File → (references : List TableReference) (name : List ℕ) (table : Result Contents CsvRefusal) (go : Contents → Plan) → ((t : Contents) → StopsAmong P Q (go t))
      → StopsAmong P Q (with_read_table references name table go)
  table_stop f references name (Err refusal) go s = f
  table_stop f references name (Ok contents) go s = columns_stop f (are_columns_named references name contents.columns) name (go contents) (s contents)

  pub tables_stop : P ended.File → (references : List TableReference) (names : List (List ℕ)) (read : List NamedTable) (files : Files) (go : List NamedTable → Plan)
      → ((ts : List NamedTable) → StopsAmong P Q (go ts)) → StopsAmong P Q (read_tables references names read files go)
  tables_stop f references [] read files go s = s read
  tables_stop f references (name ∷ names) read files go s =
      bytes_stop f (table_file name) (within_limit TABLE_LIMIT (file files (table_file name)))
      (λ bytes. with_read_table references name (reads bytes) (λ contents. read_tables references names (read ++ record { name = name; contents = contents } ∷ []) files go))
      (λ bytes. table_stop f references name (reads bytes) (λ contents. read_tables references names (read ++ record { name = name; contents = contents } ∷ []) files go)
      (λ contents. tables_stop f references names (read ++ record { name = name; contents = contents } ∷ []) files go s))

  unless_stop : P ended.Exists → (there : Bool) (name : List ℕ) (rest : Plan) → StopsAmong P Q rest → StopsAmong P Q (unless_there there name rest)
  unless_stop f true name rest s = f
  unless_stop f false name rest s = s

  ask_stop : P ended.Exists → (made : Bool) (there : Presence) (name : List ℕ) (rest : Plan) → StopsAmong P Q rest → StopsAmong P Q (ask_unless_made made there name rest)
  ask_stop f true there name rest s = f
  ask_stop f false there name rest s = unless_stop f (there (table_file name)) name rest s

  output_stop : P ended.Exists → (overwrites made : Bool) (there : Presence) (name : List ℕ) (rest : Plan) → StopsAmong P Q rest
      → StopsAmong P Q (if overwrites then rest else ask_unless_made made there name rest)
  output_stop f true made there name rest s = s
  output_stop f false made there name rest s = ask_stop f made there name rest s

  pub outputs_stop : P ended.Exists → (made : List ℕ → Bool) (there : Presence) (outputs : List OutputNamed) (rest : Plan) → StopsAmong P Q rest → StopsAmong P Q (outputs_then made there outputs rest)
  outputs_stop f made there [] rest s = s
  outputs_stop f made there (o ∷ outputs) rest s =
      output_stop f o.overwrites (made o.name) there o.name (outputs_then (made_too o made) there outputs rest) (outputs_stop f (made_too o made) there outputs rest s)

-- ---- programs

module _ (P Q : Status → Type 0) where
  put_stop : (lines : List (List ℕ)) (rest : Plan) → StopsAmong P Q rest → StopsAmong P Q (each_in_turn put_then lines rest)
  put_stop [] rest s = s
  put_stop (line ∷ lines) rest s = put_stop lines rest s

  count_stop : (tables : List NamedTable) (rest : Plan) → StopsAmong P Q rest → StopsAmong P Q (each_in_turn count_rows_then tables rest)
  count_stop [] rest s = s
  count_stop (t ∷ tables) rest s = count_stop tables rest s

  stage_stop : (stages : List StageLeft) (rest : Plan) → StopsAmong P Q rest → StopsAmong P Q (each_in_turn count_stage_then stages rest)
  stage_stop [] rest s = s
  stage_stop (stage ∷ stages) rest s = stage_stop stages rest s

module _ (Q : Status → Type 0) (done : Q ended.Done) (fault : Q ended.Fault) where
  write_stop : (tables : List NamedTable) (rest : Plan) → StopsAmong Q Q rest → StopsAmong Q Q (each_in_turn write_then tables rest)
  write_stop [] rest s = s
  write_stop (t ∷ tables) rest s = write_stop tables rest s

  end_stop : (ending : Option Ending) (stages : List StageLeft) (instructions : ℕ) (tables : List NamedTable) (rest : Plan) → StopsAmong Q Q rest → StopsAmong Q Q (end_then ending stages instructions tables rest)
  end_stop (Some Normal) stages instructions tables rest s = write_stop tables _ (stage_stop Q Q stages _ (count_stop Q Q tables rest s))
  end_stop (Some (Faulted kind place)) stages instructions tables rest s = fault
  end_stop None stages instructions tables rest s = s

  pub programs_stop : (runs : List ProgramRun) (held : HeldTables) → StopsAmong Q Q (programs_plan runs held)
  programs_stop [] held = done
  programs_stop (run ∷ runs) held =
      put_stop Q Q (ProgramLeft.lines (run held)) _
      (end_stop (ProgramLeft.ending (run held)) (ProgramLeft.stages (run held)) (ProgramLeft.instructions (run held)) (ProgramLeft.tables (run held)) (programs_plan runs (held_behind held (ProgramLeft.tables (run held))))
      (programs_stop runs (held_behind held (ProgramLeft.tables (run held)))))

-- ---- sources

module _ (P Q : Status → Type 0) (of_file : P ended.File) (of_source : P ended.Source) where
  programs_or_stop : (outcome : Result (List ProgramTree) ProgramRefusal) (go : List ProgramTree → Plan) → ((ps : List ProgramTree) → StopsAmong P Q (go ps)) → StopsAmong P Q (with_typed_programs outcome go)
  programs_or_stop (Err refusal) go s = of_source
  programs_or_stop (Ok programs) go s = s programs

  inputs_stop : (names : Result (List (List ℕ)) SourceRefusal) (parts : List SourcePart) (files : Files) (go : SourceCommand) → ((held : HeldTables) (vs : List ThreadVerdict) (ps : List ProgramTree) → StopsAmong P Q (go held vs ps))
      → StopsAmong P Q (with_inputs names parts files go)
  inputs_stop (Err refusal) parts files go s = of_source
  inputs_stop (Ok names) parts files go s =
      tables_stop P Q of_file [] names [] files (with_tables parts go)
      (λ read. programs_or_stop (elaborated_source (columns_held (held_from_store read)) parts) (go (held_from_store read) (source_verdicts (columns_held (held_from_store read)) parts)) (s (held_from_store read) (source_verdicts (columns_held (held_from_store read)) parts)))

  tree_stop : (read : SourceAnswer) (files : Files) (go : SourceCommand) → ((held : HeldTables) (vs : List ThreadVerdict) (ps : List ProgramTree) → StopsAmong P Q (go held vs ps)) → StopsAmong P Q (with_tree read files go)
  tree_stop (Err refusal) files go s = of_source
  tree_stop (Ok parts) files go s = inputs_stop (names_or_refusal (source_inputs parts)) parts files go s

  text_stop : (sources : SourcesRead) (name : List ℕ) (text : Option Bytes) (files : Files) (go : SourceCommand) → ((held : HeldTables) (vs : List ThreadVerdict) (ps : List ProgramTree) → StopsAmong P Q (go held vs ps)) → StopsAmong P Q (with_text sources name text files go)
  text_stop sources name None files go s = of_file
  text_stop sources name (Some text) files go s = tree_stop (sources.answer_for text) files go s

  pub source_stop : (sources : SourcesRead) (name : List ℕ) (files : Files) (go : SourceCommand) → ((held : HeldTables) (vs : List ThreadVerdict) (ps : List ProgramTree) → StopsAmong P Q (go held vs ps)) → StopsAmong P Q (source_plan sources name files go)
  source_stop sources name files go s =
      bytes_stop P Q of_file name (within_limit SOURCE_LIMIT (file files name)) (λ bytes. with_text sources name (text_of bytes) files go) (λ bytes. text_stop sources name (text_of bytes) files go s)

-- the verdicts of a source are told
pub verdicts_stop : (P Q : Status → Type 0) → P ended.Done → (verdicts : List ThreadVerdict) → StopsAmong P Q (check_threads verdicts)
verdicts_stop P Q done [] = done
verdicts_stop P Q done (v ∷ verdicts) = verdicts_stop P Q done verdicts

-- ---- objects

-- statuses that are also among more
within_more : (P Q : Status → Type 0) → ((s : Status) → Q s → P s) → (plan : Plan) → StopsAmong Q Q plan → StopsAmong P Q plan
within_more P Q f (Stops status) s = f status s
within_more P Q f (Logs line rest) s = within_more P Q f rest s
within_more P Q f (ReadsFile name rest) s = within_more P Q f rest s
within_more P Q f (AsksFor name rest) s = within_more P Q f rest s
within_more P Q f (WritesFile name bytes rest) s = s

module _ (P Q : Status → Type 0) (of_file : P ended.File) (of_object : P ended.Object) (exists : P ended.Exists) (done : Q ended.Done) (fault : Q ended.Fault) (more : (s : Status) → Q s → P s) where
  over_stop : (programs : List StagedParts) (budget : ℕ) (there : Presence) (read : List NamedTable) → StopsAmong P Q (object_over programs budget there read)
  over_stop programs budget there read =
      outputs_stop P Q exists none_made there (flat_map outputs_of_code programs) (programs_plan (map (run_of_code no_verdict budget) programs) (held_from_store read))
      (within_more P Q more (programs_plan (map (run_of_code no_verdict budget) programs) (held_from_store read)) (programs_stop Q done fault (map (run_of_code no_verdict budget) programs) (held_from_store read)))

  object_stop : (read : Result (List StagedParts) ObjectRefusal) (budget : ℕ) (files : Files) (there : Presence) → StopsAmong P Q (on_object read budget files there)
  object_stop (Err refusal) budget files there = of_object
  object_stop (Ok programs) budget files there =
      tables_stop P Q of_file (references_of programs) (object_inputs programs) [] files (object_over programs budget there) (over_stop programs budget there)

  pub exec_stop : (object_for : ObjectReading) (name : List ℕ) (budget : ℕ) (files : Files) (there : Presence) → StopsAmong P Q (exec_plan object_for name budget files there)
  exec_stop object_for name budget files there =
      bytes_stop P Q of_file name (within_limit OBJECT_LIMIT (file files name)) (λ bytes. on_object (object_for bytes) budget files there) (λ bytes. object_stop (object_for bytes) budget files there)
