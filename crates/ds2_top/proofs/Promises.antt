-- The promises of the top call, each from what a command leaves.
use Rattle.std.proofs.Common.{◌≡◌, ◌⊎◌, ◌∙◌, ◌++◌, inl, inr, ℕ, List, [], codes, length, refl, sym, ap, subst, arith, ◌≤◌, Option, Some, None, IfSome, IsSome, Result, Ok, Err}
use Rattle.std.proofs.lemmas.List.{take_all}
use Rattle.ds2_outside.specs.Files.{Files}
use Rattle.ds2_commands.specs.AnswersOfTexts.{SourcesRead}
use Rattle.ds2_commands.specs.StagedParts.{StagedParts}
use Rattle.ds2_answer.specs.declared.command_line.CommandLine.{CommandLine}
use Rattle.ds2_answer.specs.declared.command_line.CommandLine.TheVariants.{Run, Compile, Exec, Check, Demo}
use Rattle.ds2_answer.specs.declared.status.Status.{Status}
use Rattle.ds2_answer.specs.declared.status.Status.TheVariants as ended
use Rattle.ds2_answer.specs.CommandLines.{command_line_of}
use Rattle.ds2_answer.specs.CommandPlans.{plan_of_command}
use Rattle.ds2_answer.specs.Lines.{fault_line, memory_line}
use Rattle.ds2_answer.specs.ObjectPlans.{ObjectReading}
use Rattle.ds2_answer.specs.Plan.{Plan}
use Rattle.ds2_answer.specs.PlanSteps.{status_at_end, steps_of, text_logged}
use Rattle.ds2_answer.specs.Status.{IsRefusal, log_failed}
use Rattle.ds2_answer.specs.TablePlans.{Presence, present_in}
use Rattle.ds2_store_steps.specs.Halts.{CausedBy, FollowsAll}
use Rattle.ds2_store_steps.specs.PlanOutcomes.{CameOfPlan, CutShort, StoppedAs}
use Rattle.ds2_store_steps.specs.declared.halt.Halt.{Halt}
use Rattle.ds2_store_steps.specs.declared.halt.Halt.TheVariants.{Ended, OutOfMemory}
use Rattle.ds2_commands.specs.CommandOutcomes.{DecodesUnlessHalted, DoesCommand, StoresUnlessHalted}
use Rattle.ds2_top.specs.DecodedFiles.{DecodesObject, EndsBeforeDecoding, EndsInFileRead}
use Rattle.ds2_top.specs.Headline.{Headline, IsAnswered, LeavesRefusal}
use Rattle.ds2_top.specs.Leaves.{Did, Leaves}
use Rattle.ds2_commands.specs.ObjectRuns.{HaltsUndecoded}
use Rattle.ds2_top.specs.Outside.{Outside, Gained, HoldsFiles, LogGains, LogGainsPart, LogRose, ReadsRose, WritesRose}
use Rattle.ds2_top.specs.Reported.{EndReported, Reported, TakesLine, TakesSome}
use Rattle.ds2_top.specs.RuntimeFaults.{FaultLeft}
use Rattle.ds2_commands.specs.SourceObjects.{HaltsUnstored, IsBeforeStoring}
use Rattle.ds2_top.specs.StoredObjects.{StoresObject}
use Rattle.ds2_top.proofs.CommandStops.{check_faults_never, compile_faults_never, refusal_writes_nothing, usage_only}
use Rattle.ds2_top.proofs.FaultSteps.{fault_left}
use Rattle.ds2_top.proofs.Plain.{append_nil, ended_leaves, memory_leaves}

-- a text that a log has gained which has not failed was gained whole
gained_whole : (x : List ℕ) (before now : Outside) → Gained x before now → (LogRose before now → ⊥) → LogGains x before now
gained_whole x before now (inl whole) sound = whole
gained_whole x before now (inr (rose, part)) sound = absurd (sound rose)

-- ---- what holds of every answer

module _ (sources : SourcesRead) (object_for : ObjectReading) (object : List StagedParts) (files : Files) (there : Presence) (before now : Outside) where
  abbrev answer_of : Option CommandLine → Plan
  answer_of line = plan_of_command sources object_for object line files there

  -- what a command leaves that has ended in a fault
  fault_of : (line : Option CommandLine) → Leaves (answer_of line) files before now ended.Fault → StoresObject sources line files object before now ended.Fault
      → FaultLeft sources object line (answer_of line) files before now
  fault_of None (did, gained) stores = cc did.status_is
  fault_of (Some (Run source threads budget)) (did, gained) (inl of_source) = fault_left sources object source budget files there before now of_source (answer_of (Some (Run source threads budget))) refl did
  fault_of (Some (Run source threads budget)) (did, gained) (inr (never, held)) = absurd never
  fault_of (Some (Compile source)) (did, gained) stores = compile_faults_never sources object_for object files there source (sym did.status_is)
  fault_of (Some (Exec name budget)) (did, gained) stores = tt
  fault_of (Some (Check source)) (did, gained) stores = check_faults_never sources object_for object files there source (sym did.status_is)
  fault_of (Some (Demo n)) (did, gained) stores = tt

  of_did : (line : Option CommandLine) (status : Status) → Did (answer_of line) files before now status → Gained (text_logged (steps_of (answer_of line))) before now → IsRefusal status
      → LeavesRefusal (answer_of line) files before now status
  of_did line status did gained is =
      record {
        status_is = did.status_is;
        files_are = λ tells. did.files_are tells ∙ ap (λ (f : Files). Some f) (refusal_writes_nothing sources object_for object files there line (subst IsRefusal did.status_is is));
        gained = gained;
      }

  refusal_left : (line : Option CommandLine) (status : Status) → Leaves (answer_of line) files before now status → IsRefusal status → LeavesRefusal (answer_of line) files before now status
  refusal_left line ended.Done left is = absurd is
  refusal_left line ended.Usage left is = of_did line ended.Usage left.0 left.1 is
  refusal_left line ended.Source left is = of_did line ended.Source left.0 left.1 is
  refusal_left line ended.File left is = of_did line ended.File left.0 left.1 is
  refusal_left line ended.Exists left is = of_did line ended.Exists left.0 left.1 is
  refusal_left line ended.Fault left is = absurd is
  refusal_left line ended.Read left is = absurd is
  refusal_left line ended.Write left is = absurd is
  refusal_left line ended.Log left is = absurd is
  refusal_left line ended.Object left is = of_did line ended.Object left.0 left.1 is
  refusal_left line ended.Memory left is = absurd is

  whole : (plan : Plan) (status : Status) → Did plan files before now status → Gained (text_logged (steps_of plan)) before now → (LogRose before now → ⊥) → IsAnswered plan files before now status
  whole plan status did gained sound = record { did = did; gained = gained_whole (text_logged (steps_of plan)) before now gained sound }

  all_answered : (plan : Plan) (status : Status) → Leaves plan files before now status → (ReadsRose before now → ⊥) → (WritesRose before now → ⊥) → (LogRose before now → ⊥)
      → IsAnswered plan files before now status ⊎ (status ≡ ended.Memory)
  all_answered plan ended.Done left r w l = inl (record { did = left.0; gained = left.1 })
  all_answered plan ended.Usage left r w l = inl (whole plan ended.Usage left.0 left.1 l)
  all_answered plan ended.Source left r w l = inl (whole plan ended.Source left.0 left.1 l)
  all_answered plan ended.File left r w l = inl (whole plan ended.File left.0 left.1 l)
  all_answered plan ended.Exists left r w l = inl (whole plan ended.Exists left.0 left.1 l)
  all_answered plan ended.Fault left r w l = inl (whole plan ended.Fault left.0 left.1 l)
  all_answered plan ended.Object left r w l = inl (whole plan ended.Object left.0 left.1 l)
  all_answered plan ended.Read left r w l = absurd (r left.cause)
  all_answered plan ended.Write left r w l = absurd (w left.cause)
  all_answered plan ended.Log left r w l = absurd (l left.1)
  all_answered plan ended.Memory left r w l = inr refl

  -- each promise follows from what the command leaves, but that words that are no command are refused
  promises : (words : List (List ℕ)) (status : Status) → IfSome before.files (λ held. held ≡ files) → IfSome before.files (λ held. (name : List ℕ) → there name ≡ present_in held name)
      → Leaves (answer_of (command_line_of words)) files before now status → StoresObject sources (command_line_of words) files object before now status
      → DecodesObject object_for (command_line_of words) files before now status → (command_line_of words ≡ None → (status ≡ ended.Usage) ⊎ (status ≡ ended.Memory)) → Headline words before now status
  promises words status told there_told left stores decodes back =
      let line = command_line_of words in
      let at : (s : Status) → status ≡ s → Leaves (answer_of line) files before now s = λ s is. subst (Leaves (answer_of line) files before now) is left in
      record {
        sources = sources;
        object_for = object_for;
        files = files;
        there = there;
        told = told;
        there_told = there_told;
        object = object;
        leaves = left;
        stores = stores;
        decodes = decodes;
        fault = λ is. fault_of line (at ended.Fault is) (subst (StoresObject sources line files object before now) is stores);
        refused = λ is. refusal_left line status left is;
        usage = (λ is. usage_only sources object_for object files there line (sym (at ended.Usage is).0.status_is), back);
        read_fault = λ is. (at ended.Read is).cause;
        write_fault = λ is. (at ended.Write is).cause;
        log_fault = λ is. (at ended.Log is).1;
        answered = λ r w l. all_answered (answer_of line) status left r w l;
      }

-- ---- what is stored and decoded

module _ (sources : SourcesRead) (object_for : ObjectReading) (object : List StagedParts) (files : Files) (before now : Outside) (ran : Result (Unit {0}) Halt) (status : Status) where
  stores_at : (line : Option CommandLine) → (HaltsUnstored ran before.files now.files → IsBeforeStoring status × HoldsFiles files before now)
      → StoresUnlessHalted sources line files object ran before.files now.files → StoresObject sources line files object before now status
  stores_at None f stores = tt
  stores_at (Some (Run source threads budget)) f (inl of_source) = inl of_source
  stores_at (Some (Run source threads budget)) f (inr halts) = inr (f halts)
  stores_at (Some (Compile source)) f (inl of_source) = inl of_source
  stores_at (Some (Compile source)) f (inr halts) = inr (f halts)
  stores_at (Some (Exec name budget)) f stores = tt
  stores_at (Some (Check source)) f stores = tt
  stores_at (Some (Demo n)) f (inl of_source) = inl of_source
  stores_at (Some (Demo n)) f (inr halts) = inr (f halts)

  decodes_at : (said x : List ℕ) (line : Option CommandLine) → ((name : List ℕ) → HaltsUndecoded name said before.files ran x now.files → EndsBeforeDecoding name files before now status)
      → DecodesUnlessHalted object_for line files said before.files ran x now.files → DecodesObject object_for line files before now status
  decodes_at said x None f decodes = tt
  decodes_at said x (Some (Run source threads budget)) f decodes = tt
  decodes_at said x (Some (Compile source)) f decodes = tt
  decodes_at said x (Some (Exec name budget)) f (inl decoded) = inl decoded
  decodes_at said x (Some (Exec name budget)) f (inr halts) = inr (f name halts)
  decodes_at said x (Some (Check source)) f decodes = tt
  decodes_at said x (Some (Demo n)) f decodes = tt

-- ---- what was reported

before_failed : (s : Status) → IsBeforeStoring s → IsBeforeStoring (log_failed s)
before_failed ended.Done b = b
before_failed ended.Usage b = tt
before_failed ended.Source b = tt
before_failed ended.File b = tt
before_failed ended.Exists b = tt
before_failed ended.Fault b = b
before_failed ended.Read b = tt
before_failed ended.Write b = b
before_failed ended.Log b = b
before_failed ended.Object b = b
before_failed ended.Memory b = tt

reported_before : (s : Status) (x : List ℕ) (rose : Type 0) (result : Status) (before logged : Option (List ℕ)) → Reported s x rose result before logged → IsBeforeStoring s → IsBeforeStoring result
reported_before s x rose result before logged (inl (r, l)) b = subst IsBeforeStoring (sym r) b
reported_before s x rose result before logged (inr (inl (r, c, p))) b = subst IsBeforeStoring (sym r) (before_failed s b)
reported_before s x rose result before logged (inr (inr (r, p))) b = subst IsBeforeStoring (sym r) tt

-- the read of a file has failed
file_read_reported : (name x : List ℕ) (s result : Status) (before now : Outside) → (s ≡ ended.Read → ReadsRose before now) → StoppedAs ended.Read (fault_line (codes "Read") name) before.files s x now.files
    → Reported s x (LogRose before now) result before.log now.log → EndsInFileRead name before now result
file_read_reported name x s result before now rose stopped (inl (r, l)) =
    subst (EndsInFileRead name before now) (sym (r ∙ stopped.status_is)) (rose stopped.status_is, inl (subst (λ (y : List ℕ). LogGains y before now) stopped.log_is l))
file_read_reported name x s result before now rose stopped (inr (inl (r, c, p))) =
    subst (EndsInFileRead name before now) (sym (r ∙ ap log_failed stopped.status_is)) (rose stopped.status_is, inr (c, subst (λ (y : List ℕ). LogGainsPart y before now) stopped.log_is p))
file_read_reported name x s result before now rose stopped (inr (inr (r, p))) =
    subst (EndsInFileRead name before now) (sym r) (rose stopped.status_is, subst (λ (y : List ℕ). LogGainsPart y before now) stopped.log_is p)

usage_reported : (s : Status) (x : List ℕ) (rose : Type 0) (result : Status) (before logged : Option (List ℕ)) → Reported s x rose result before logged → s ≡ ended.Usage → (result ≡ ended.Usage) ⊎ (result ≡ ended.Memory)
usage_reported s x rose result before logged (inl (r, l)) is = inl (r ∙ is)
usage_reported s x rose result before logged (inr (inl (r, c, p))) is = inl (r ∙ ap log_failed is)
usage_reported s x rose result before logged (inr (inr (r, p))) is = inr r

linked : (told : Option Files) (files : Files) → IfSome told (λ held. held ≡ files) → IsSome told → told ≡ Some files
linked None files is tells = absurd (cc)
linked (Some held) files is tells = ap (λ (f : Files). Some f) is

-- files that have not changed are those that were told
files_kept : (files : Files) (before now : Outside) → IfSome before.files (λ held. held ≡ files) → now.files ≡ before.files → HoldsFiles files before now
files_kept files before now told same = λ tells. same ∙ linked before.files files told tells

-- ---- commands

usage_came : (sources : SourcesRead) (object_for : ObjectReading) (object : List StagedParts) (files : Files) (there : Presence) (words : List (List ℕ)) (told now : Option Files) (status : Status) (x : List ℕ)
    → command_line_of words ≡ None → CameOfPlan (plan_of_command sources object_for object (command_line_of words) files there) [] told status x now → status ≡ ended.Usage
usage_came sources object_for object files there words told now status x is came =
    (subst (λ (line : Option CommandLine). CameOfPlan (plan_of_command sources object_for object line files there) [] told status x now) is came).0.status_is

module _ (sources : SourcesRead) (words : List (List ℕ)) (before now : Outside) where
  -- a command that has come to an end with a status
  ended_headline : (status result : Status) (x : List ℕ) (ran : Result (Unit {0}) Halt) (d : DoesCommand sources (command_line_of words) [] before.files ran x now.files)
      → (status ≡ ended.Read → ReadsRose before now) → (status ≡ ended.Write → WritesRose before now)
      → CameOfPlan (plan_of_command sources d.object_for d.object (command_line_of words) d.files d.there) [] before.files status x now.files
      → (HaltsUnstored ran before.files now.files → IsBeforeStoring result × HoldsFiles d.files before now)
      → ((name : List ℕ) → HaltsUndecoded name [] before.files ran x now.files → EndsBeforeDecoding name d.files before now result)
      → Reported status x (LogRose before now) result before.log now.log → Headline words before now result
  ended_headline status result x ran d read write came unstored undecoded r =
      let line = command_line_of words in
      promises sources d.object_for d.object d.files d.there before now words result d.files_told d.there_told
      (ended_leaves before now (plan_of_command sources d.object_for d.object line d.files d.there) d.files status x result (linked before.files d.files d.files_told) read write came r)
      (stores_at sources d.object_for d.object d.files before now ran result line unstored d.stores)
      (decodes_at sources d.object_for d.object d.files before now ran result [] x line undecoded d.decodes)
      (λ none. usage_reported status x (LogRose before now) result before.log now.log r
      (usage_came sources d.object_for d.object d.files d.there words before.files now.files status x none came))

  -- a command that has ended before its last step
  halted_at : (status result : Status) (x : List ℕ) → DoesCommand sources (command_line_of words) [] before.files (Err (Ended status)) x now.files
      → CausedBy {T = Unit {0}} ended.Read (Err (Ended status)) before.read_faults now.read_faults → CausedBy {T = Unit {0}} ended.Write (Err (Ended status)) before.write_faults now.write_faults
      → Reported status x (LogRose before now) result before.log now.log → Headline words before now result
  halted_at status result x d reads writes r =
      ended_headline status result x (Err (Ended status)) d reads.rose writes.rose d.follows
      (λ halts. (reported_before status x (LogRose before now) result before.log now.log r halts.0, files_kept d.files before now d.files_told halts.1))
      (λ name halts. (files_kept d.files before now d.files_told halts.files, inl (file_read_reported name x status result before now reads.rose halts r))) r

  halted_headline : (status result : Status) (said x : List ℕ) (ran : Result (Unit {0}) Halt) (halt : Halt) → ran ≡ Err halt → halt ≡ Ended status → said ≡ []
      → CausedBy ended.Read ran before.read_faults now.read_faults → CausedBy ended.Write ran before.write_faults now.write_faults
      → DoesCommand sources (command_line_of words) said before.files ran x now.files
      → Reported status x (LogRose before now) result before.log now.log → Headline words before now result
  halted_headline status result said x ran halt ran_is halt_is empty reads writes d r =
      let is : ran ≡ Err (Ended status) = ran_is ∙ ap (λ (h : Halt). Err h) halt_is in
      halted_at status result x
      (subst (λ (s : List ℕ). DoesCommand sources (command_line_of words) s before.files (Err (Ended status)) x now.files) empty
      (subst (λ (ran : Result (Unit {0}) Halt). DoesCommand sources (command_line_of words) said before.files ran x now.files) is d))
      (subst (λ (ran : Result (Unit {0}) Halt). CausedBy ended.Read ran before.read_faults now.read_faults) is reads)
      (subst (λ (ran : Result (Unit {0}) Halt). CausedBy ended.Write ran before.write_faults now.write_faults) is writes) r

  done_no_read : {P : Type 0} → ended.Done ≡ ended.Read → P
  done_no_read is = absurd (cc)

  done_no_write : {P : Type 0} → ended.Done ≡ ended.Write → P
  done_no_write is = absurd (cc)

  -- a command that was done
  done_headline : (result : Status) (said x : List ℕ) → said ≡ [] → DoesCommand sources (command_line_of words) said before.files (Ok tt) x now.files
      → Reported ended.Done x (LogRose before now) result before.log now.log → Headline words before now result
  done_headline result said x empty given r =
      let d = subst (λ (s : List ℕ). DoesCommand sources (command_line_of words) s before.files (Ok tt) x now.files) empty given in
      ended_headline ended.Done result x (Ok tt) d done_no_read done_no_write
      (d.follows.ends ended.Done x now.files (record { status_is = refl; log_is = refl; files = refl }, tt)) (λ never. absurd never) (λ name never. absurd never) r

  part_of_taken : (line : List ℕ) (before logged : Option (List ℕ)) → TakesLine line before logged → TakesSome line before logged
  part_of_taken line None logged taken = tt
  part_of_taken line (Some held) logged (inl is) = (0, is ∙ ap (λ (l : List ℕ). Some l) (sym (append_nil held)))
  part_of_taken line (Some held) logged (inr (inl is)) =
      let enough : length line ≤ length line = omega arith in
      (length line, is ∙ ap (λ (l : List ℕ). Some (held ++ l)) (sym (take_all (length line) line enough)))
  part_of_taken line (Some held) logged (inr (inr part)) = part

  memory_at : (x : List ℕ) → (said : List ℕ) → DoesCommand sources (command_line_of words) said before.files (Err OutOfMemory) x now.files → TakesLine memory_line before.log now.log → Headline words before now ended.Memory
  memory_at x said d taken =
      let line = command_line_of words in
      promises sources d.object_for d.object d.files d.there before now words ended.Memory d.files_told d.there_told
      (memory_leaves before now (plan_of_command sources d.object_for d.object line d.files d.there) d.files (linked before.files d.files d.files_told) d.follows (part_of_taken memory_line before.log now.log taken))
      (stores_at sources d.object_for d.object d.files before now (Err OutOfMemory) ended.Memory line (λ same. (tt, files_kept d.files before now d.files_told same)) d.stores)
      (decodes_at sources d.object_for d.object d.files before now (Err OutOfMemory) ended.Memory said x line
      (λ name same. (files_kept d.files before now d.files_told same, inr (refl, part_of_taken memory_line before.log now.log taken))) d.decodes)
      (λ none. inr refl)

  -- a command that has found no memory
  memory_headline : (result : Status) (said x : List ℕ) (ran : Result (Unit {0}) Halt) (halt : Halt) → ran ≡ Err halt → halt ≡ OutOfMemory
      → DoesCommand sources (command_line_of words) said before.files ran x now.files → result ≡ ended.Memory → TakesLine memory_line before.log now.log → Headline words before now result
  memory_headline result said x ran halt ran_is halt_is d is taken =
      subst (λ (s : Status). Headline words before now s) (sym is)
      (memory_at x said (subst (λ (ran : Result (Unit {0}) Halt). DoesCommand sources (command_line_of words) said before.files ran x now.files) (ran_is ∙ ap (λ (h : Halt). Err h) halt_is) d) taken)

  -- a command that has ended, and whose log was written
  pub end_headline : (result : Status) (said x : List ℕ) (ran : Result (Unit {0}) Halt) → said ≡ []
      → CausedBy ended.Read ran before.read_faults now.read_faults → CausedBy ended.Write ran before.write_faults now.write_faults
      → DoesCommand sources (command_line_of words) said before.files ran x now.files
      → EndReported ran x (LogRose before now) result before.log now.log → Headline words before now result
  end_headline result said x (Ok value) empty reads writes d r = done_headline result said x empty d r
  end_headline result said x (Err (Ended status)) empty reads writes d r = halted_headline status result said x (Err (Ended status)) (Ended status) refl refl empty reads writes d r
  end_headline result said x (Err OutOfMemory) empty reads writes d r = memory_headline result said x (Err OutOfMemory) OutOfMemory refl refl d r.0 r.1
