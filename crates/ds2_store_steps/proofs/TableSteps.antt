-- From a table that was read to those after it.
use Rattle.std.proofs.Common.{◌≡◌, ◌≢◌, ◌∙◌, ◌||◌, IsErrAnd, Bool, true, false, bytes_eq, ℕ, List, [], ◌∷◌, ◌++◌, codes, ◌≤◌, Option, None, Result, Ok, Err, refl, sym, ap, subst, append_assoc}
use Rattle.std.specs.List.{AllByRecursion}
use Rattle.std.proofs.lemmas.List.{append-nil, append_cancel_right, map-append}
use Rattle.std.proofs.lemmas.Slice.Eq.{bytes_eq-Decides}
use Rattle.ds2_table.specs.Table.{Contents}
use Rattle.ds2_csv.specs.Reads.{reads}
use Rattle.ds2_csv.specs.declared.refusal.CsvRefusal.{CsvRefusal}
use Rattle.ds2_code.specs.declared.parts.TableReference.{TableReference}
use Rattle.ds2_outside.specs.Files.{Files, file, with_file}
use Rattle.ds2_answer.specs.declared.kinds.FileKind.{FileKind}
use Rattle.ds2_answer.specs.declared.kinds.FileKind.TheVariants as kind
use Rattle.ds2_answer.specs.declared.kinds.TheConstants.{TABLE_LIMIT}
use Rattle.ds2_answer.specs.declared.status.Status.{Status}
use Rattle.ds2_answer.specs.declared.status.Status.TheVariants.{File, Read, Write}
use Rattle.ds2_answer.specs.Answer.{table_file}
use Rattle.ds2_answer.specs.HeldTables.{NamedTable}
use Rattle.ds2_answer.specs.Lines.{file_line}
use Rattle.ds2_answer.specs.Load.{within_limit}
use Rattle.ds2_answer.specs.Plan.{Plan, ReadsFile, Stops}
use Rattle.ds2_answer.specs.TablePlans.{are_columns_named, read_file, read_table, read_tables, with_bytes, with_read_columns, with_read_table}
use Rattle.ds2_store_steps.specs.declared.halt.Halt.{Halt}
use Rattle.ds2_store_steps.specs.declared.halt.Halt.TheVariants.{Ended, OutOfMemory}
use Rattle.ds2_store_steps.specs.FileReads.{ReadsWholeFile, WasFileRead}
use Rattle.ds2_store_steps.specs.Halts.{CausedBy, HaltsAs, HaltsPlan, StopsAs}
use Rattle.ds2_store_steps.specs.PlanOutcomes.{CameOfPlan}
use Rattle.ds2_store_steps.specs.TableReads.{AreTablesRead, DifferFrom, HasColumnsNamed, KeepsRead, ReadsTable, ReadsTables, WasTableRead, files_read_then, names_read}
use Rattle.ds2_store_steps.proofs.Leading.{at_once, does_on, leads_read, no_memory}
use Rattle.ds2_store_steps.proofs.FileSteps.{line_ends, load_same, load_then, other_bytes, over_all, over_bytes, over_map}

pub file_is_no_read : File ≡ Read → ⊥
file_is_no_read is = absurd (cc is)

pub file_is_no_write : File ≡ Write → ⊥
file_is_no_write is = absurd (cc is)

module _ (references : List TableReference) where
  -- ---- what a file has

  -- the table has other columns
  pub columns_refused : (name file : List ℕ) (contents : Contents) (said : List ℕ) (halt : Halt) (log : List ℕ) → file ≡ table_file name → are_columns_named references name contents.columns ≡ false
      → StopsAs File (file_line file kind.OtherSchema) said halt log
      → (told : Option Files) (go : Contents → Plan) → HaltsPlan (with_read_table references name (Ok contents) go) said told halt log told
  columns_refused name file contents said halt log file_is other ends told go =
      subst (λ (b : Bool). HaltsPlan (with_read_columns b name (go contents)) said told halt log told) (sym other)
      (line_ends File (file_line (table_file name) kind.OtherSchema) said told told halt log tt (subst (λ (f : List ℕ). StopsAs File (file_line f kind.OtherSchema) said halt log) file_is ends) refl)

  -- the bytes are no table
  pub bytes_refused : (name file : List ℕ) (table : Result Contents CsvRefusal) (refusal : CsvRefusal) (said : List ℕ) (halt : Halt) (log : List ℕ) → file ≡ table_file name → table ≡ Err refusal
      → StopsAs File (file_line file (kind.Table refusal)) said halt log
      → (told : Option Files) (go : Contents → Plan) → HaltsPlan (with_read_table references name table go) said told halt log told
  bytes_refused name file table refusal said halt log file_is is ends told go =
      subst (λ (r : Result Contents CsvRefusal). HaltsPlan (with_read_table references name r go) said told halt log told) (sym is)
      (line_ends File (file_line (table_file name) (kind.Table refusal)) said told told halt log tt (subst (λ (f : List ℕ). StopsAs File (file_line f (kind.Table refusal)) said halt log) file_is ends) refl)

  -- there was no memory
  pub nothing_kept : (name : List ℕ) (table : Result Contents CsvRefusal) (said log : List ℕ) (told : Option Files) (go : Contents → Plan) → HaltsPlan (with_read_table references name table go) said told OutOfMemory log told
  nothing_kept name table said log told go = at_once (with_read_table references name table go) told

  -- there was no memory to keep the table
  pub table_unkept : (name : List ℕ) (table : Result Contents CsvRefusal) (said log : List ℕ) (result : Result NamedTable Halt) → IsErrAnd result (λ e. e ≡ OutOfMemory) → KeepsRead references name table said result log
  table_unkept name table said log (Ok t) is = absurd is
  table_unkept name table said log (Err e) is =
      λ told go. subst (λ (h : Halt). HaltsPlan (with_read_table references name table go) said told h log told) (sym is) (nothing_kept name table said log told go)

  -- a table that is not kept ends the command with no other status than File
  plan_stops : (name : List ℕ) (table : Result Contents CsvRefusal) (said log : List ℕ) (status : Status) → CameOfPlan (with_read_table references name table (λ contents. Stops File)) said None status log None → status ≡ File
  plan_stops name (Err refusal) said log status came = came.0.status_is
  plan_stops name (Ok contents) said log status came = by (are_columns_named references name contents.columns) came
    where
      by : (b : Bool) → CameOfPlan (with_read_columns b name (Stops File)) said None status log None → status ≡ File
      by true h = h.0.status_is
      by false h = h.0.status_is

  pub kept_status : (name : List ℕ) (table : Result Contents CsvRefusal) (said log : List ℕ) (result : Result NamedTable Halt) (status : Status) → (File ≡ status → ⊥) → KeepsRead references name table said result log → HaltsAs status result → ⊥
  kept_status name table said log (Ok t) status other keeps halts = halts
  kept_status name table said log (Err (Ended ended)) status other keeps halts = other (sym (plan_stops name table said log ended (keeps None (λ contents. Stops File))) ∙ halts)
  kept_status name table said log (Err OutOfMemory) status other keeps halts = halts

  -- so no count of faults has a cause in it
  pub kept_cause : (name : List ℕ) (table : Result Contents CsvRefusal) (said log : List ℕ) (result : Result NamedTable Halt) (status : Status) (before now : ℕ) → (File ≡ status → ⊥) → before ≤ now → KeepsRead references name table said result log
      → CausedBy status result before now
  kept_cause name table said log result status before now other later keeps = record { later = later; rose = λ halts. absurd (kept_status name table said log result status other keeps halts) }

  -- ---- one table

  -- there was no memory for the name of the file
  pub table_unnamed : (name said : List ℕ) (told : Option Files) (result : Result NamedTable Halt) → IsErrAnd result (λ e. e ≡ OutOfMemory) → ReadsTable references name said told result said told
  table_unnamed name said told (Ok t) is = absurd is
  table_unnamed name said told (Err e) is =
      over_all told (λ files. (go : Contents → Plan) → HaltsPlan (read_table references name files go) said told e said told)
      (λ files go. subst (λ (h : Halt). HaltsPlan (read_table references name files go) said told h said told) (sym is) (at_once (read_table references name files go) told))

  -- the file was not read
  pub table_unread : (name path said : List ℕ) (told now : Option Files) (halt : Halt) (log : List ℕ) (result : Result NamedTable Halt) → path ≡ table_file name → IsErrAnd result (λ e. e ≡ halt)
      → ReadsWholeFile TABLE_LIMIT path said told (Err halt) log now → ReadsTable references name said told result log now
  table_unread name path said told now halt log (Ok t) file_is is loads = absurd is
  table_unread name path said told now halt log (Err e) file_is is loads =
      over_map told (λ files. (go : List ℕ → Plan) → HaltsPlan (read_file TABLE_LIMIT path files go) said told halt log now)
      (λ files. (go : Contents → Plan) → HaltsPlan (read_table references name files go) said told e log now)
      (λ files h go.
      subst (λ (h : Halt). HaltsPlan (read_table references name files go) said told h log now) (sym is)
      (subst (λ (n : List ℕ). HaltsPlan (read_file TABLE_LIMIT n files (λ bytes. with_read_table references name (reads bytes) go)) said told halt log now) file_is
      (h (λ bytes. with_read_table references name (reads bytes) go))))
      loads

  -- what was read of the file halts the plan
  read_halts : (name bytes : List ℕ) (files : Files) (go : Contents → Plan) (said : List ℕ) (told : Option Files) (halt : Halt) (log : List ℕ) → within_limit TABLE_LIMIT (file files (table_file name)) ≡ Ok bytes
      → HaltsPlan (with_read_table references name (reads bytes) go) said told halt log told → HaltsPlan (read_table references name files go) said told halt log told
  read_halts name bytes files go said told halt log held halts =
      let further : List ℕ → Plan = λ b. with_read_table references name (reads b) go in
      subst (λ (r : Result (List ℕ) FileKind). HaltsPlan (ReadsFile (table_file name) (with_bytes (table_file name) r further)) said told halt log told) (sym held)
      (does_on {T = Unit {0}} (ReadsFile (table_file name) (further bytes)) (further bytes) (λ _. further bytes) said said told told (Err halt) log told (leads_read (table_file name) (further bytes) said told) halts)

  -- the file was read, and its table was kept or refused
  pub table_read : (name path bytes said text : List ℕ) (told between : Option Files) (result : Result NamedTable Halt) (log : List ℕ) → path ≡ table_file name
      → ReadsWholeFile TABLE_LIMIT path said told (Ok bytes) text between → KeepsRead references name (reads bytes) text result log → ReadsTable references name said told result log between
  table_read name path bytes said text told between (Ok t) log file_is (read, text_is, between_is) (named, contents, columns, log_is) = (
    record {
      name_is = named;
      bytes = bytes;
      read = subst (λ (n : List ℕ). WasFileRead TABLE_LIMIT n told bytes) file_is read;
      contents_are = contents;
      columns = columns;
    },
    log_is ∙ text_is,
    between_is,
  )
  table_read name path bytes said text told between (Err halt) log file_is (read, text_is, between_is) refused =
      over_map told (λ files. within_limit TABLE_LIMIT (file files (table_file name)) ≡ Ok bytes) (λ files. (go : Contents → Plan) → HaltsPlan (read_table references name files go) said told halt log between)
      (λ files held go.
      subst (λ (n : Option Files). HaltsPlan (read_table references name files go) said told halt log n) (sym between_is)
      (read_halts name bytes files go said told halt log held
      (subst (λ (t : List ℕ). HaltsPlan (with_read_table references name (reads bytes) go) t told halt log told) text_is (refused told go))))
      (over_bytes told TABLE_LIMIT (table_file name) bytes (subst (λ (n : List ℕ). WasFileRead TABLE_LIMIT n told bytes) file_is read))

  -- ---- tables one behind the other

  unequal : (seen : Bool) (a b : List ℕ) → (bytes_eq a b || seen) ≡ false → seen ≡ false
  unequal seen a b h = by (bytes_eq a b) h
    where
      by : (e : Bool) → (e || seen) ≡ false → seen ≡ false
      by true h = absurd (cc h)
      by false h = h

  own_seen : (a : List ℕ) → bytes_eq a a ≡ true
  own_seen a = (bytes_eq-Decides a a).1 refl

  -- other tables are read from the same bytes, whatever the file of one table holds
  same_tables : (seen : List ℕ → Bool) (name bytes : List ℕ) (names : List (List ℕ)) (before : List NamedTable) (files : Files) (go : List NamedTable → Plan)
      → ((other : List ℕ) → seen other ≡ false → other ≢ name) → DifferFrom seen names → read_tables references names before (with_file files (table_file name) bytes) go ≡ read_tables references names before files go
  same_tables seen name bytes [] before files go differ apart = refl
  same_tables seen name bytes (n ∷ names) before files go differ (new, apart) =
      let kept : Contents → List NamedTable = λ contents. before ++ record { name = n; contents = contents } ∷ [] in
      let others : (contents : Contents) → read_tables references names (kept contents) (with_file files (table_file name) bytes) go ≡ read_tables references names (kept contents) files go =
      λ contents. same_tables (λ other. bytes_eq n other || seen other) name bytes names (kept contents) files go (λ other h. differ other (unequal (seen other) n other h)) apart in
      let unlike : table_file n ≢ table_file name = λ is. differ n new (append_cancel_right n name (codes ".csv") is) in
      ap (λ (f : Option (List ℕ)). ReadsFile (table_file n) (with_bytes (table_file n) (within_limit TABLE_LIMIT f) (λ b. with_read_table references n (reads b) (λ contents. read_tables references names (kept contents) (with_file files (table_file name) bytes) go))))
      (other_bytes files (table_file name) (table_file n) bytes unlike)
      ∙ (λ i. read_table references n files (λ contents. others contents i))

  true_is_not_false : true ≡ false → ⊥
  true_is_not_false is = absurd (cc)

  apart_behind : (seen : List ℕ → Bool) (name : List ℕ) (other : List ℕ) → (bytes_eq name other || seen other) ≡ false → other ≢ name
  apart_behind seen name other h is = by (bytes_eq name other) refl h
    where
      by : (e : Bool) → bytes_eq name other ≡ e → (e || seen other) ≡ false → ⊥
      by true e h = absurd (cc h)
      by false e h = true_is_not_false (sym (own_seen name) ∙ sym (ap (bytes_eq name) is) ∙ e)

  -- the names after one differ too
  pub apart_after : (rest after : List (List ℕ)) (name : List ℕ) → rest ≡ name ∷ after → (seen : List ℕ → Bool) × DifferFrom seen rest → (seen : List ℕ → Bool) × DifferFrom seen after
  apart_after rest after name is (seen, apart) = (λ other. bytes_eq name other || seen other, (subst (DifferFrom seen) is apart).1)

  -- what is done with what was read of a file, and with the tables after it
  abbrev behind_bytes : (name : List ℕ) (after : List (List ℕ)) (before : List NamedTable) → (List NamedTable → Plan) → Files → List ℕ → Plan
  behind_bytes name after before next files bytes =
      with_read_table references name (reads bytes) (λ contents. read_tables references after (before ++ record { name = name; contents = contents } ∷ []) files next)

  -- the tables after one are read from the same bytes, whatever its file holds
  bytes_same : (name : List ℕ) (after : List (List ℕ)) (before : List NamedTable) (bytes : List ℕ) (seen : List ℕ → Bool) → DifferFrom seen (name ∷ after) → (next : List NamedTable → Plan) (files : Files)
      → behind_bytes name after before next (with_file files (table_file name) bytes) bytes ≡ behind_bytes name after before next files bytes
  bytes_same name after before bytes seen differ next files =
      λ i. with_read_table references name (reads bytes)
      (λ contents. same_tables (λ other. bytes_eq name other || seen other) name bytes after (before ++ record { name = name; contents = contents } ∷ []) files next (apart_behind seen name) differ.1 i)

  -- a table that was read is behind the others
  table_is : (name : List ℕ) (after : List (List ℕ)) (before : List NamedTable) (t : NamedTable) (told : Option Files) (was : WasTableRead references name told t) (next : List NamedTable → Plan) (files : Files)
      → read_tables references after (before ++ t ∷ []) files next ≡ behind_bytes name after before next files was.bytes
  table_is name after before t told was next files =
      let kept : Contents → List NamedTable = λ contents. before ++ record { name = name; contents = contents } ∷ [] in
      let columns : are_columns_named references name t.contents.columns ≡ true = ap (λ (n : List ℕ). are_columns_named references n t.contents.columns) (sym was.name_is) ∙ was.columns in
      ap (λ (n : List ℕ). read_tables references after (before ++ record { name = n; contents = t.contents } ∷ []) files next) was.name_is
      ∙ ap (λ (b : Bool). with_read_columns b name (read_tables references after (kept t.contents) files next)) (sym columns)
      ∙ ap (λ (r : Result Contents CsvRefusal). with_read_table references name r (λ contents. read_tables references after (kept contents) files next)) (sym was.contents_are)

  table_then : (name : List ℕ) (after : List (List ℕ)) (before : List NamedTable) (t : NamedTable) (said text : List ℕ) (told between : Option Files) (seen : List ℕ → Bool) → DifferFrom seen (name ∷ after)
      → ReadsTable references name said told (Ok t) text between
      → (result : Result (List NamedTable) Halt) (log : List ℕ) (now : Option Files) → ReadsTables references after (before ++ t ∷ []) text between result log now → ReadsTables references (name ∷ after) before said told result log now
  table_then name after before t said text told between seen differ (table, text_is, between_is) (Ok read) log now (log_is, now_is, others) = (
    log_is ∙ text_is,
    now_is ∙ between_is,
    load_same told between TABLE_LIMIT (table_file name) table.bytes (behind_bytes name after before) (λ (next : List NamedTable → Plan). files_read_then after (next read)) said text
        (bytes_same name after before table.bytes seen differ) (table.read, text_is, between_is)
        (over_map between (λ files. (next : List NamedTable → Plan) → read_tables references after (before ++ t ∷ []) files next ≡ files_read_then after (next read))
        (λ files. (next : List NamedTable → Plan) → behind_bytes name after before next files table.bytes ≡ files_read_then after (next read))
        (λ files h next. sym (table_is name after before t told table next files) ∙ h next) others),
  )
  table_then name after before t said text told between seen differ (table, text_is, between_is) (Err halt) log now others =
      load_then {T = Unit {0}} told between now TABLE_LIMIT (table_file name) table.bytes (behind_bytes name after before) (λ (next : List NamedTable → Plan) (_ : Unit {0}). next before) said text log (Err halt)
      (bytes_same name after before table.bytes seen differ) (table.read, text_is, between_is)
      (over_map between (λ files. (next : List NamedTable → Plan) → HaltsPlan (read_tables references after (before ++ t ∷ []) files next) text between halt log now)
      (λ files. (next : List NamedTable → Plan) → HaltsPlan (behind_bytes name after before next files table.bytes) text between halt log now)
      (λ files h next. subst (λ (s : Plan). HaltsPlan s text between halt log now) (table_is name after before t told table next files) (h next)) others)

  -- a table was read, and then those after it
  pub tables_more : (name : List ℕ) (rest after : List (List ℕ)) (before behind : List NamedTable) (t : NamedTable) (said text : List ℕ) (told between : Option Files)
      → rest ≡ name ∷ after → (seen : List ℕ → Bool) × DifferFrom seen rest → ReadsTable references name said told (Ok t) text between → behind ≡ before ++ t ∷ []
      → (result : Result (List NamedTable) Halt) (log : List ℕ) (now : Option Files) → ReadsTables references after behind text between result log now → ReadsTables references rest before said told result log now
  tables_more name rest after before behind t said text told between rest_is (seen, apart) (table, text_is, between_is) behind_is result log now loads =
      let others : ReadsTables references after (before ++ t ∷ []) text between result log now = subst (λ (tables : List NamedTable). ReadsTables references after tables text between result log now) behind_is loads in
      let differ : DifferFrom seen (name ∷ after) = subst (DifferFrom seen) rest_is apart in
      subst (λ (names : List (List ℕ)). ReadsTables references names before said told result log now) (sym rest_is)
      (table_then name after before t said text told between seen differ (table, text_is, between_is) result log now others)

  -- a table was refused, or not read
  pub tables_halt : (name : List ℕ) (rest after : List (List ℕ)) (before : List NamedTable) (said : List ℕ) (told now : Option Files) (halt : Halt) (log : List ℕ) (result : Result (List NamedTable) Halt)
      → rest ≡ name ∷ after → IsErrAnd result (λ e. e ≡ halt) → ReadsTable references name said told (Err halt) log now → ReadsTables references rest before said told result log now
  tables_halt name rest after before said told now halt log (Ok read) rest_is is loads = absurd is
  tables_halt name rest after before said told now halt log (Err e) rest_is is loads =
      subst (λ (names : List (List ℕ)). ReadsTables references names before said told (Err e) log now) (sym rest_is)
      (over_map told (λ files. (go : Contents → Plan) → HaltsPlan (read_table references name files go) said told halt log now)
      (λ files. (next : List NamedTable → Plan) → HaltsPlan (read_tables references (name ∷ after) before files next) said told e log now)
      (λ files h next.
      subst (λ (h : Halt). HaltsPlan (read_tables references (name ∷ after) before files next) said told h log now) (sym is)
      (h (λ contents. read_tables references after (before ++ record { name = name; contents = contents } ∷ []) files next))) loads)

  -- there was no memory to keep a table
  pub tables_unkept : (names : List (List ℕ)) (before : List NamedTable) (said log : List ℕ) (told now : Option Files) (result : Result (List NamedTable) Halt) → IsErrAnd result (λ e. e ≡ OutOfMemory) → now ≡ told
      → ReadsTables references names before said told result log now
  tables_unkept names before said log told now (Ok read) is same = absurd is
  tables_unkept names before said log told now (Err e) is same =
      over_all told (λ files. (next : List NamedTable → Plan) → HaltsPlan (read_tables references names before files next) said told e log now)
      (λ files next. no_memory {T = Unit {0}} (read_tables references names before files next) (λ _. next before) said log told now (Err e) is same)

  -- all tables were read
  pub tables_done : (rest : List (List ℕ)) (read : List NamedTable) (said : List ℕ) (told : Option Files) → rest ≡ [] → ReadsTables references rest read said told (Ok read) said told
  tables_done rest read said told none =
      subst (λ (names : List (List ℕ)). ReadsTables references names read said told (Ok read) said told) (sym none)
      (refl, refl, over_all told (λ files. (go : List NamedTable → Plan) → read_tables references [] read files go ≡ files_read_then [] (go read)) (λ files go. refl))

  -- ---- what is known of the tables

  -- tables were read for the first of some names, and others are left
  pub record AreReadSoFar (names rest : List (List ℕ)) (read : List NamedTable) : Type 0 where
    pub names_are : names_read read ++ rest ≡ names
    pub columns : AllByRecursion (HasColumnsNamed references) read

  pub read_begins : (names : List (List ℕ)) (read : List NamedTable) → read ≡ [] → AreReadSoFar names names read
  read_begins names read none = subst (AreReadSoFar names names) (sym none) (record { names_are = refl; columns = tt })

  columns_more : (read : List NamedTable) (t : NamedTable) → AllByRecursion (HasColumnsNamed references) read → HasColumnsNamed references t → AllByRecursion (HasColumnsNamed references) (read ++ t ∷ [])
  columns_more [] t are is = (is, tt)
  columns_more (u ∷ read) t (first, are) is = (first, columns_more read t are is)

  pub read_more : (names rest after : List (List ℕ)) (name : List ℕ) (read behind : List NamedTable) (t : NamedTable) (told : Option Files) → rest ≡ name ∷ after → behind ≡ read ++ t ∷ []
      → WasTableRead references name told t → AreReadSoFar names rest read → AreReadSoFar names after behind
  read_more names rest after name read behind t told rest_is behind_is was so_far =
      subst (AreReadSoFar names after) (sym behind_is)
      (record {
        names_are = ap (λ (x : List (List ℕ)). x ++ after) (map-append (λ (u : NamedTable). u.name) read (t ∷ []))
            ∙ append_assoc (names_read read) (t.name ∷ []) after
            ∙ ap (λ (n : List ℕ). names_read read ++ n ∷ after) was.name_is
            ∙ ap (λ (x : List (List ℕ)). names_read read ++ x) (sym rest_is)
            ∙ so_far.names_are;
        columns = columns_more read t so_far.columns was.columns;
      })

  pub read_all : (names rest : List (List ℕ)) (read : List NamedTable) → rest ≡ [] → AreReadSoFar names rest read → AreTablesRead references names read
  read_all names rest read none so_far =
      record { names_are = sym (append-nil (names_read read)) ∙ ap (λ (x : List (List ℕ)). names_read read ++ x) (sym none) ∙ so_far.names_are; columns = so_far.columns }
