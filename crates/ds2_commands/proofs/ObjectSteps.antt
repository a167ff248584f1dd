-- From the file of an object to what its run leaves.
use Rattle.std.proofs.Common.{◌≡◌, ◌≢◌, ◌⊎◌, ◌∙◌, IsErrAnd, IsTrue, inl, inr, ℕ, List, [], Option, IfSome, Result, Ok, Err, refl, sym, ap, subst}
use Rattle.ds2_base.specs.Bytes.{Bytes}
use Rattle.ds2_base.specs.declared.stop.Stop.{Stop}
use Rattle.ds2_base.specs.declared.stop.Stop.TheVariants.{Refused}
use Rattle.ds2_outside.specs.Files.{Files, file, with_file}
use Rattle.ds2_object.specs.ObjectSpelling.{DecodesTo}
use Rattle.ds2_object.specs.declared.refusal.ObjectRefusal.{ObjectRefusal}
use Rattle.ds2_object.specs.declared.refusal.ObjectRefusal.TheVariants.{BadMagic}
use Rattle.ds2_compile.specs.StagedParts.{StagedParts}
use Rattle.ds2_answer.specs.declared.kinds.FileKind.{FileKind}
use Rattle.ds2_answer.specs.declared.kinds.TheConstants.{OBJECT_LIMIT}
use Rattle.ds2_answer.specs.declared.status.Status.{Status}
use Rattle.ds2_answer.specs.declared.status.Status.TheVariants as ended
use Rattle.ds2_answer.specs.Answer.{table_file}
use Rattle.ds2_answer.specs.CommandLines.{is_object_name}
use Rattle.ds2_answer.specs.Lines.{object_refused_line}
use Rattle.ds2_answer.specs.Load.{within_limit}
use Rattle.ds2_answer.specs.ObjectPlans.{IsDecoding, ObjectReading, object_inputs, object_over, object_plan, on_object, references_of}
use Rattle.ds2_answer.specs.Plan.{Plan, Stops, ReadsFile}
use Rattle.ds2_answer.specs.TablePlans.{Presence, present_in, with_bytes}
use Rattle.ds2_exec.specs.ExecOutcomes.{OverStore}
use Rattle.ds2_store_steps.specs.FileReads.{ReadsWholeFile}
use Rattle.ds2_store_steps.specs.Halts.{FollowsAll, HaltsPlan, StopsAs}
use Rattle.ds2_store_steps.specs.PlanOutcomes.{CameOfPlan, CutShort}
use Rattle.ds2_store_steps.specs.declared.halt.Halt.{Halt}
use Rattle.ds2_store_steps.specs.declared.halt.Halt.TheVariants.{Ended, OutOfMemory}
use Rattle.ds2_store_steps.proofs.FileSteps.{line_ends, over_all}
use Rattle.ds2_store_steps.proofs.Leading.{at_once, does_on, leads_read}
use Rattle.ds2_store_steps.proofs.OutputSteps.{answers_all}
use Rattle.ds2_commands.specs.ObjectRuns.{DecodesFile, HaltsUndecoded, RunsBytes, RunsFile}
use Rattle.ds2_commands.proofs.FileReads.{file_found, holds_file, same_over, same_tables, table_is_no_object}

-- no object file is decoded
abbrev pub no_objects : ObjectReading
no_objects bytes = Err BadMagic

-- ---- an object's bytes

module _ (bytes : Bytes) (budget : ℕ) where
  -- the bytes were decoded, whatever the files are
  over_any : (object_for : ObjectReading) (said log : List ℕ) (told now : Option Files) (result : Result (Unit {0}) Halt) → IsDecoding object_for bytes ⊎ ((result ≡ Err OutOfMemory) × (now ≡ told))
      → ((files : Files) (there : Presence) → FollowsAll (on_object (object_for bytes) budget files there) said told result log now) → RunsBytes bytes budget said told result log now
  over_any object_for said log told now result decodes follows =
      let some = over_all told (λ (files : Files). Unit {0}) (λ files. tt) in
      let answers = answers_all told (λ (there : Presence). Unit {0}) (λ there. tt) in
      record {
        object_for = object_for;
        files = some.files;
        there = answers.there;
        files_told = some.told_is;
        there_told = answers.told_is;
        decodes = decodes;
        follows = follows some.files answers.there;
      }

  -- they are no object
  pub bytes_refused : (refusal : ObjectRefusal) (stop : Stop ObjectRefusal) (said log : List ℕ) (told now : Option Files) (halt : Halt) → stop ≡ Refused refusal → DecodesTo (Err stop) bytes
      → StopsAs ended.Object (object_refused_line refusal) said halt log → now ≡ told → RunsBytes bytes budget said told (Err halt) log now
  bytes_refused refusal stop said log told now halt stop_is decoded stops same =
      over_any (λ _. Err refusal) said log told now (Err halt) (inl (subst (λ (s : Stop ObjectRefusal). DecodesTo (Err s) bytes) stop_is decoded))
      (λ files there. line_ends ended.Object (object_refused_line refusal) said told now halt log tt stops same)

  -- there was no memory to decode them
  pub bytes_short : (said : List ℕ) (told : Option Files) → RunsBytes bytes budget said told (Err OutOfMemory) said told
  bytes_short said told = over_any (λ _. Err BadMagic) said said told told (Err OutOfMemory) (inr (refl, refl)) (λ files there. at_once (on_object (Err BadMagic) budget files there) told)

  -- the object was run
  pub object_ran : (object : List StagedParts) (said log : List ℕ) (told now : Option Files) (result : Result (Unit {0}) Halt) → DecodesTo (Ok object) bytes
      → OverStore told (λ files there. FollowsAll (object_plan object budget files there) said told result log now) → RunsBytes bytes budget said told result log now
  object_ran object said log told now result decoded o = record {
    object_for = λ _. Ok object;
    files = o.files;
    there = o.there;
    files_told = o.files_told;
    there_told = o.there_told;
    decodes = inl decoded;
    follows = o.holds;
  }

-- ---- an object's file

module _ (name bytes : List ℕ) (named : IsTrue (is_object_name name)) where
  unlike : (table : List ℕ) → table_file table ≢ name
  unlike table is = table_is_no_object table (subst (λ (m : List ℕ). IsTrue (is_object_name m)) (sym is) named)

  same_object : (read : Result (List StagedParts) ObjectRefusal) (budget : ℕ) (files : Files) (there : Presence) → on_object read budget (with_file files name bytes) there ≡ on_object read budget files there
  same_object (Err refusal) budget files there = refl
  same_object (Ok object) budget files there = same_tables name bytes unlike (references_of object) (object_inputs object) [] files (object_over object budget there)

decoded_bytes : (bytes other : Bytes) (read : Result Bytes FileKind) → read ≡ Ok bytes → read ≡ Ok other → bytes ≡ other
decoded_bytes bytes other read e f = cc

failed_at : (name : List ℕ) (read : Result (List ℕ) FileKind) (said : List ℕ) (told : Option Files) (status : Status) (log : List ℕ) (now : Option Files) → CameOfPlan (ReadsFile name (Stops ended.Read)) said told status log now
    → ((bytes : Bytes) → read ≡ Ok bytes → ⊥) ⊎ HaltsUndecoded name said told (Err (Ended status)) log now
failed_at name read said told status log now (inl failed) = inr failed
failed_at name read said told status log now (inr came) = absurd came.1

short_at : (name : List ℕ) (read : Result (List ℕ) FileKind) (said : List ℕ) (told : Option Files) (log : List ℕ) (now : Option Files) → CutShort (ReadsFile name (Stops ended.Read)) told now
    → ((bytes : Bytes) → read ≡ Ok bytes → ⊥) ⊎ HaltsUndecoded name said told (Err OutOfMemory) log now
short_at name read said told log now (inl same) = inr same
short_at name read said told log now (inr same) = inr same

-- how the reading of a file may have ended a command
undecoded : (name : List ℕ) (read : Result (List ℕ) FileKind) (said : List ℕ) (told : Option Files) (halt : Halt) (log : List ℕ) (now : Option Files)
    → ((go : List ℕ → Plan) → HaltsPlan (ReadsFile name (with_bytes name read go)) said told halt log now) → ((bytes : Bytes) → read ≡ Ok bytes → ⊥) ⊎ HaltsUndecoded name said told (Err halt) log now
undecoded name (Err kind) said told halt log now halts = inl (λ bytes e. absurd (cc e))
undecoded name (Ok bytes) said told (Ended status) log now halts = failed_at name (Ok bytes) said told status log now (halts (λ _. Stops ended.Read))
undecoded name (Ok bytes) said told OutOfMemory log now halts = short_at name (Ok bytes) said told log now (halts (λ _. Stops ended.Read))

module _ (name : List ℕ) (budget : ℕ) where
  -- the file was refused, or not read
  pub object_ends : (said log : List ℕ) (told now : Option Files) (halt : Halt) (result : Result (Unit {0}) Halt) → IsErrAnd result (λ e. e ≡ halt) → ReadsWholeFile OBJECT_LIMIT name said told (Err halt) log now
      → RunsFile name budget said told result log now
  object_ends said log told now halt (Ok value) is reads = absurd is
  object_ends said log told now halt (Err e) is reads =
      let answers = answers_all told (λ (there : Presence). Unit {0}) (λ there. tt) in
      let no_object : ObjectReading = λ _. Err BadMagic in
      subst (λ (h : Halt). RunsFile name budget said told (Err h) log now) (sym is)
      (record {
        object_for = no_object;
        files = reads.files;
        there = answers.there;
        files_told = reads.told_is;
        there_told = answers.told_is;
        decodes = by reads.files (undecoded name (within_limit OBJECT_LIMIT (file reads.files name)) said told halt log now reads.holds);
        follows = reads.holds (λ bytes. on_object (no_object bytes) budget reads.files answers.there);
      })
    where
      by : (files : Files) → ((bytes : Bytes) → within_limit OBJECT_LIMIT (file files name) ≡ Ok bytes → ⊥) ⊎ HaltsUndecoded name said told (Err halt) log now
          → DecodesFile (λ _. Err BadMagic) name files ⊎ HaltsUndecoded name said told (Err halt) log now
      by files (inl never) = inl (λ bytes e. absurd (never bytes e))
      by files (inr halts) = inr halts

  -- the file was read, and its bytes run
  pub object_then : (bytes said text log : List ℕ) (told between now : Option Files) (result : Result (Unit {0}) Halt) → IsTrue (is_object_name name) → ReadsWholeFile OBJECT_LIMIT name said told (Ok bytes) text between
      → RunsBytes bytes budget text between result log now → RunsFile name budget said told result log now
  object_then bytes said text log told between now result named (read, text_is, between_is) r =
      let held = holds_file OBJECT_LIMIT name told between bytes r.files read between_is r.files_told in
      let rest = on_object (r.object_for bytes) budget r.files r.there in
      record {
        object_for = r.object_for;
        files = held.files;
        there = r.there;
        files_told = held.told_is;
        there_told = subst (λ (t : Option Files). IfSome t (λ f. (n : List ℕ) → r.there n ≡ present_in f n)) between_is r.there_told;
        decodes = by held.files held.found (subst (λ (t : Option Files). IsDecoding r.object_for bytes ⊎ ((result ≡ Err OutOfMemory) × (now ≡ t))) between_is r.decodes);
        follows =
            subst (λ (p : Plan). FollowsAll p said told result log now)
            (sym (file_found OBJECT_LIMIT name held.files bytes (λ b. on_object (r.object_for b) budget held.files r.there) held.found
            ∙ ap (λ (p : Plan). ReadsFile name p)
            (same_over OBJECT_LIMIT name told bytes r.files held (λ files. on_object (r.object_for bytes) budget files r.there) (same_object name bytes named (r.object_for bytes) budget r.files r.there))))
            (does_on (ReadsFile name rest) rest (λ (_ : Unit {0}). Stops ended.Done) said said told told result log now (leads_read name rest said told)
            (subst (λ (t : List ℕ). FollowsAll rest t told result log now) text_is (subst (λ (f : Option Files). FollowsAll rest text f result log now) between_is r.follows)));
      }
    where
      by : (files : Files) → within_limit OBJECT_LIMIT (file files name) ≡ Ok bytes → IsDecoding r.object_for bytes ⊎ ((result ≡ Err OutOfMemory) × (now ≡ told))
          → DecodesFile r.object_for name files ⊎ HaltsUndecoded name said told result log now
      by files found (inl decoded) = inl (λ other e. subst (λ (b : Bytes). IsDecoding r.object_for b) (decoded_bytes bytes other (within_limit OBJECT_LIMIT (file files name)) found e) decoded)
      by files found (inr (short, same)) = inr (subst (λ (r : Result (Unit {0}) Halt). HaltsUndecoded name said told r log now) (sym short) same)
