-- From a file that was read to the rest of a plan.
use Rattle.std.proofs.Common.{◌≡◌, ◌≢◌, ◌<◌, ◌≤◌, ◌+◌, ◌∙◌, IsErrAnd, inl, inr, if◌then◌else◌, take, option_map, unwrap_or, Bool, true, false, ℕ, List, [], length, codes, Option, Some, None, Result, Ok, Err, IfSome, refl, sym, ap, subst, arith, length-take}
use Rattle.std.specs.declared.cmp.Ordering.{Ordering}
use Rattle.std.specs.declared.cmp.Ordering.TheVariants.{Less, Equal, Greater}
use Rattle.std.specs.Ordering.{nat_cmp, is_eq}
use Rattle.std.specs.Cmp.Lexicographic.{slice_cmp, nat_list_cmp_total}
use Rattle.std.specs.Cmp.{tied_itself}
use Rattle.std.specs.FinMap.{empty, get-empty, get-insert, slice_cmp-IsAntisymmetric, nat_cmp-IsAntisymmetric}
use Rattle.std.proofs.lemmas.Bool.{le-ltb, lt-ltb}
use Rattle.ds2_outside.specs.declared.store.ReadStop.{ReadStop}
use Rattle.ds2_outside.specs.declared.store.ReadStop.TheVariants as stops
use Rattle.ds2_outside.specs.Files as store
use Rattle.ds2_outside.specs.Files.{Files, file, with_file}
use Rattle.ds2_answer.specs.declared.kinds.FileKind.{FileKind}
use Rattle.ds2_answer.specs.declared.kinds.FileKind.TheVariants.{Absent, TooLarge}
use Rattle.ds2_answer.specs.declared.status.Status.{Status}
use Rattle.ds2_answer.specs.declared.status.Status.TheVariants.{File, Read}
use Rattle.ds2_answer.specs.declared.status.Status.TheVariants as refused
use Rattle.ds2_answer.specs.Lines.{fault_line, file_line}
use Rattle.ds2_answer.specs.Load.{within_limit}
use Rattle.ds2_answer.specs.TablePlans.{read_file, with_bytes}
use Rattle.ds2_answer.specs.Plan.{Plan, Stops, Logs, ReadsFile, AsksFor, WritesFile}
use Rattle.ds2_answer.specs.Status.{IsAnswerStatus}
use Rattle.ds2_store_steps.specs.declared.halt.Halt.{Halt}
use Rattle.ds2_store_steps.specs.declared.halt.Halt.TheVariants.{Ended, OutOfMemory}
use Rattle.ds2_store_steps.specs.Halts.{Follows, StopsAs, HaltsPlan}
use Rattle.ds2_store_steps.specs.FileReads.{ReadsWholeFile, OverSomeFiles, WasFileRead}
use Rattle.ds2_store_steps.specs.PlanOutcomes.{TornFile}
use Rattle.ds2_store_steps.proofs.Leading.{does_on, leads_read}

-- what holds of any files holds of those of a store
pub over_all : (told : Option Files) (P : Files → Type 0) → ((files : Files) → P files) → OverSomeFiles told P
over_all None P all = record { files = empty; told_is = tt; holds = all empty }
over_all (Some files) P all = record { files = files; told_is = refl; holds = all files }

-- what holds over some files gives what follows from it
pub over_map : (told : Option Files) (P Q : Files → Type 0) → ((files : Files) → P files → Q files) → OverSomeFiles told P → OverSomeFiles told Q
over_map told P Q f o = record { files = o.files; told_is = o.told_is; holds = f o.files o.holds }

-- a file has the bytes that it was given
own_bytes : (files : Files) (name bytes : List ℕ) → file (with_file files name bytes) name ≡ Some bytes
own_bytes files name bytes =
    get-insert nat_list_cmp_total files name bytes name
    ∙ ap (λ r. if is_eq r then Some bytes else file files name) (tied_itself nat_list_cmp_total name)

is_equal : (r : Ordering) → is_eq r ≡ true → r ≡ Equal
is_equal Less is = absurd (cc)
is_equal Equal is = refl
is_equal Greater is = absurd (cc)

equal_names : (q k : List ℕ) → is_eq (slice_cmp nat_cmp q k) ≡ true → q ≡ k
equal_names q k is = slice_cmp-IsAntisymmetric nat_cmp-IsAntisymmetric q k (is_equal (slice_cmp nat_cmp q k) is)

unlike : (b : Bool) → (b ≡ true → ⊥) → b ≡ false
unlike true never = absurd (never refl)
unlike false never = refl

pub other_bytes : (files : Files) (name other bytes : List ℕ) → other ≢ name → file (with_file files name bytes) other ≡ file files other
other_bytes files name other bytes differ =
    get-insert nat_list_cmp_total files name bytes other
    ∙ ap (λ (b : Bool). if b then Some bytes else file files other) (unlike (is_eq (slice_cmp nat_cmp other name)) (λ is. differ (equal_names other name is)))

is_within : (limit : ℕ) (bytes : List ℕ) → length bytes ≤ limit → within_limit limit (Some bytes) ≡ Ok bytes
is_within limit bytes few = ap (λ (b : Bool). if b then Err TooLarge else Ok bytes) (le-ltb limit (length bytes) few)

-- bytes that were read whole, over some files
pub over_bytes : (told : Option Files) (limit : ℕ) (name bytes : List ℕ) → WasFileRead limit name told bytes → OverSomeFiles told (λ files. within_limit limit (file files name) ≡ Ok bytes)
over_bytes None limit name bytes read =
    record { files = with_file empty name bytes; told_is = tt; holds = ap (within_limit limit) (own_bytes empty name bytes) ∙ is_within limit bytes read.within }
over_bytes (Some files) limit name bytes read = record { files = files; told_is = refl; holds = ap (within_limit limit) read.held ∙ is_within limit bytes read.within }

-- a file was read, and the rest was done
found : {T : Type 0} (limit : ℕ) (name bytes : List ℕ) (files : Files) (go : List ℕ → Plan) (ends : T → Plan) (said text : List ℕ) (told between : Option Files) (result : Result T Halt) (log : List ℕ) (now : Option Files)
    → file files name ≡ Some bytes → length bytes ≤ limit → text ≡ said → between ≡ told → Follows (go bytes) ends text between result log now
    → Follows (read_file limit name files go) ends said told result log now
found limit name bytes files go ends said text told between result log now held few text_is told_is does =
    let is : within_limit limit (file files name) ≡ Ok bytes = ap (within_limit limit) held ∙ is_within limit bytes few in
    subst (λ (r : Result (List ℕ) FileKind). Follows (ReadsFile name (with_bytes name r go)) ends said told result log now) (sym is)
    (does_on (ReadsFile name (go bytes)) (go bytes) ends said said told told result log now (leads_read name (go bytes) said told)
    (subst (λ (t : List ℕ). Follows (go bytes) ends t told result log now) text_is (subst (λ (f : Option Files). Follows (go bytes) ends text f result log now) told_is does)))

found_same : (limit : ℕ) (name bytes : List ℕ) (files : Files) (go : List ℕ → Plan) (rest : Plan) → file files name ≡ Some bytes → length bytes ≤ limit → go bytes ≡ rest → read_file limit name files go ≡ ReadsFile name rest
found_same limit name bytes files go rest held few is =
    ap (λ (r : Result (List ℕ) FileKind). ReadsFile name (with_bytes name r go)) (ap (within_limit limit) held ∙ is_within limit bytes few) ∙ ap (ReadsFile name) is

-- a file was read, and each of some plans was done behind it that reads the same whatever this file holds
pub load_then : {T I : Type 0} (told between now : Option Files) (limit : ℕ) (name bytes : List ℕ) (go : I → Files → List ℕ → Plan) (ends : I → T → Plan) (said text log : List ℕ) (result : Result T Halt)
    → ((i : I) (files : Files) → go i (with_file files name bytes) bytes ≡ go i files bytes)
    → ReadsWholeFile limit name said told (Ok bytes) text between
    → OverSomeFiles between (λ files. (i : I) → Follows (go i files bytes) (ends i) text between result log now)
    → OverSomeFiles told (λ files. (i : I) → Follows (read_file limit name files (go i files)) (ends i) said told result log now)
load_then {T} {I} None between now limit name bytes go ends said text log result same (read, text_is, between_is) o =
    let files = with_file o.files name bytes in
    record {
      files = files;
      told_is = tt;
      holds = λ i. found limit name bytes files (go i files) (ends i) said text None between result log now (own_bytes o.files name bytes) read.within text_is between_is
          (subst (λ (plan : Plan). Follows plan (ends i) text between result log now) (sym (same i o.files)) (o.holds i));
    }
load_then {T} {I} (Some held) between now limit name bytes go ends said text log result same (read, text_is, between_is) o =
    let files_are : held ≡ o.files = subst (λ (f : Option Files). IfSome f (λ h. h ≡ o.files)) between_is o.told_is in
    record {
      files = held;
      told_is = refl;
      holds = λ i. found limit name bytes held (go i held) (ends i) said text (Some held) between result log now read.held read.within text_is between_is
          (subst (λ (files : Files). Follows (go i files bytes) (ends i) text between result log now) (sym files_are) (o.holds i));
    }

-- a file was read, and each of some plans that reads the same whatever this file holds is one of others behind it
pub load_same : {I : Type 0} (told between : Option Files) (limit : ℕ) (name bytes : List ℕ) (go : I → Files → List ℕ → Plan) (ends : I → Plan) (said text : List ℕ)
    → ((i : I) (files : Files) → go i (with_file files name bytes) bytes ≡ go i files bytes)
    → ReadsWholeFile limit name said told (Ok bytes) text between
    → OverSomeFiles between (λ files. (i : I) → go i files bytes ≡ ends i)
    → OverSomeFiles told (λ files. (i : I) → read_file limit name files (go i files) ≡ ReadsFile name (ends i))
load_same {I} None between limit name bytes go ends said text same (read, text_is, between_is) o =
    let files = with_file o.files name bytes in
    record {
      files = files;
      told_is = tt;
      holds = λ i. found_same limit name bytes files (go i files) (ends i) (own_bytes o.files name bytes) read.within (same i o.files ∙ o.holds i);
    }
load_same {I} (Some held) between limit name bytes go ends said text same (read, text_is, between_is) o =
    let files_are : held ≡ o.files = subst (λ (f : Option Files). IfSome f (λ h. h ≡ o.files)) between_is o.told_is in
    record {
      files = held;
      told_is = refl;
      holds = λ i. found_same limit name bytes held (go i held) (ends i) read.held read.within (ap (λ (files : Files). go i files bytes) files_are ∙ o.holds i);
    }

-- the reading of a file has ended the command
pub load_ends : {T : Type 0} (told now : Option Files) (limit : ℕ) (name : List ℕ) (go : Files → List ℕ → Plan) (ends : T → Plan) (said : List ℕ) (halt : Halt) (log : List ℕ) (result : Result T Halt)
    → IsErrAnd result (λ e. e ≡ halt) → ReadsWholeFile limit name said told (Err halt) log now
    → OverSomeFiles told (λ files. Follows (read_file limit name files (go files)) ends said told result log now)
load_ends told now limit name go ends said halt log (Ok value) is o = absurd is
load_ends told now limit name go ends said halt log (Err e) is o =
    record {
      files = o.files;
      told_is = o.told_is;
      holds = subst (λ (h : Halt). HaltsPlan (read_file limit name o.files (go o.files)) said told h log now) (sym is) (o.holds (go o.files));
    }

too_long : (limit : ℕ) (bytes : List ℕ) → limit < length bytes → within_limit limit (Some bytes) ≡ Err TooLarge
too_long limit bytes more = ap (λ (b : Bool). if b then Err TooLarge else Ok bytes) (lt-ltb limit (length bytes) more)

of_taken : (limit : ℕ) (bytes : List ℕ) (held : Option (List ℕ)) → option_map (take (limit + 1)) held ≡ Some bytes → limit < length bytes → within_limit limit held ≡ Err TooLarge
of_taken limit bytes None is more = absurd (cc)
of_taken limit bytes (Some all) is more =
    let same : length (take (limit + 1) all) ≡ length bytes = ap (λ (o : Option (List ℕ)). length (unwrap_or o [])) is in
    too_long limit all (omega (arith, same, length-take (limit + 1) all, more))

-- what was read is longer than the limit
pub over_long : (told : Option Files) (limit : ℕ) (name bytes : List ℕ) → IfSome told (λ files. store.Reads files name limit (Ok bytes)) → limit < length bytes
    → OverSomeFiles told (λ files. within_limit limit (file files name) ≡ Err TooLarge)
over_long None limit name bytes is more =
    record { files = with_file empty name bytes; told_is = tt; holds = ap (within_limit limit) (own_bytes empty name bytes) ∙ too_long limit bytes more }
over_long (Some files) limit name bytes is more = record { files = files; told_is = refl; holds = of_taken limit bytes (file files name) is more }

absent_is : (told : Option Files) (limit : ℕ) (name : List ℕ) → IfSome told (λ files. file files name ≡ None) → OverSomeFiles told (λ files. within_limit limit (file files name) ≡ Err Absent)
absent_is None limit name is = record { files = empty; told_is = tt; holds = ap (within_limit limit) (get-empty (slice_cmp nat_cmp) name) }
absent_is (Some files) limit name is = record { files = files; told_is = refl; holds = ap (within_limit limit) is }

-- there was no file
pub over_absent : (told : Option Files) (limit : ℕ) (name : List ℕ) (result : Result (List ℕ) ReadStop) (stop : ReadStop) → IfSome told (λ files. store.Reads files name limit result)
    → result ≡ Err stop → stop ≡ stops.Absent → OverSomeFiles told (λ files. within_limit limit (file files name) ≡ Err Absent)
over_absent told limit name result stop read is stop_is =
    absent_is told limit name (subst (λ (r : Result (List ℕ) ReadStop). IfSome told (λ files. store.Reads files name limit r)) (is ∙ ap (λ (e : ReadStop). Err e) stop_is) read)

refused_halts : (name : List ℕ) (kind : FileKind) (go : List ℕ → Plan) (said : List ℕ) (told now : Option Files) (halt : Halt) (log : List ℕ)
    → StopsAs File (file_line name kind) said halt log → now ≡ told → HaltsPlan (ReadsFile name (with_bytes name (Err kind) go)) said told halt log now
refused_halts name kind go said told now (Ended status) log (is, log_is) same = inr (record { status_is = is; log_is = log_is; files = same }, tt)
refused_halts name kind go said told now OutOfMemory log is same = inl same

-- the file is refused
pub load_refused : (told now : Option Files) (limit : ℕ) (name : List ℕ) (kind : FileKind) (said : List ℕ) (halt : Halt) (log : List ℕ)
    → OverSomeFiles told (λ files. within_limit limit (file files name) ≡ Err kind) → StopsAs File (file_line name kind) said halt log → now ≡ told
    → ReadsWholeFile limit name said told (Err halt) log now
load_refused told now limit name kind said halt log o ends same =
    record {
      files = o.files;
      told_is = o.told_is;
      holds = λ go. subst (λ (r : Result (List ℕ) FileKind). HaltsPlan (ReadsFile name (with_bytes name r go)) said told halt log now) (sym o.holds) (refused_halts name kind go said told now halt log ends same);
    }

failed_halts : (name : List ℕ) (rest : Plan) (said : List ℕ) (told now : Option Files) (halt : Halt) (log : List ℕ)
    → StopsAs Read (fault_line (codes "Read") name) said halt log → now ≡ told → HaltsPlan (ReadsFile name rest) said told halt log now
failed_halts name rest said told now (Ended status) log (is, log_is) same = inl (record { status_is = is; log_is = log_is; files = same })
failed_halts name rest said told now OutOfMemory log is same = inl same

-- the read has failed
pub load_failed : (told now : Option Files) (limit : ℕ) (name said : List ℕ) (halt : Halt) (log : List ℕ)
    → StopsAs Read (fault_line (codes "Read") name) said halt log → now ≡ told → ReadsWholeFile limit name said told (Err halt) log now
load_failed told now limit name said halt log ends same =
    over_all told (λ files. (go : List ℕ → Plan) → HaltsPlan (read_file limit name files go) said told halt log now)
    (λ files go. failed_halts name (with_bytes name (within_limit limit (file files name)) go) said told now halt log ends same)

-- a line ends the command
pub line_ends : (status : Status) (line said : List ℕ) (told now : Option Files) (halt : Halt) (log : List ℕ) → IsAnswerStatus status → StopsAs status line said halt log → now ≡ told
    → HaltsPlan (Logs line (Stops status)) said told halt log now
line_ends status line said told now (Ended ended) log answers (is, log_is) same = (record { status_is = is; log_is = log_is; files = same }, answers)
line_ends status line said told now OutOfMemory log answers is same = inl same

-- the write has failed
pub write_failed : (name bytes said : List ℕ) (rest : Plan) (told now : Option Files) (halt : Halt) (log : List ℕ) → StopsAs refused.Write (fault_line (codes "Write") name) said halt log → TornFile told name bytes now
    → HaltsPlan (WritesFile name bytes rest) said told halt log now
write_failed name bytes said rest told now (Ended status) log (is, log_is) torn = inl (record { status_is = is; log_is = log_is; files = torn })
write_failed name bytes said rest told now OutOfMemory log is torn = inl torn

-- the question for a file has failed
pub ask_failed : (name : List ℕ) (rest : Plan) (said : List ℕ) (told now : Option Files) (halt : Halt) (log : List ℕ)
    → StopsAs Read (fault_line (codes "Read") name) said halt log → now ≡ told → HaltsPlan (AsksFor name rest) said told halt log now
ask_failed name rest said told now (Ended status) log (is, log_is) same = inl (record { status_is = is; log_is = log_is; files = same })
ask_failed name rest said told now OutOfMemory log is same = inl same
