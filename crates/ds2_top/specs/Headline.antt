-- What the top call promises.
use Rattle.std.specs.Prelude.{◌≡◌, ◌⊎◌, ℕ, List, None, IfSome}
use Rattle.ds2_commands.specs.AnswersOfTexts.{SourcesRead}
use Rattle.ds2_commands.specs.StagedParts.{StagedParts}
use Rattle.ds2_outside.specs.Files.{Files}
use Rattle.ds2_answer.specs.declared.status.Status.{Status}
use Rattle.ds2_answer.specs.declared.status.Status.TheVariants as ended
use Rattle.ds2_answer.specs.CommandLines.{command_line_of}
use Rattle.ds2_answer.specs.CommandPlans.{plan_of_command}
use Rattle.ds2_answer.specs.ObjectPlans.{ObjectReading}
use Rattle.ds2_answer.specs.Plan.{Plan}
use Rattle.ds2_answer.specs.PlanSteps.{status_at_end, steps_of, text_logged}
use Rattle.ds2_answer.specs.Status.{IsRefusal}
use Rattle.ds2_answer.specs.TablePlans.{Presence, present_in}
use Rattle.ds2_top.specs.DecodedFiles.{DecodesObject}
use Rattle.ds2_top.specs.Leaves.{Did, Leaves}
use Rattle.ds2_top.specs.Outside.{Outside, Gained, HoldsFiles, LogGains, LogRose, ReadsRose, WritesRose}
use Rattle.ds2_top.specs.RuntimeFaults.{FaultLeft}
use Rattle.ds2_top.specs.StoredObjects.{StoresObject}

-- a refusal is that of the answer: each file is as it was, and the log has gained its line or, where it has failed, a first part of it
pub record LeavesRefusal (answer : Plan) (files : Files) (before now : Outside) (status : Status) : Type 0 where
  pub status_is : status ≡ status_at_end answer
  pub files_are : HoldsFiles files before now
  pub gained : Gained (text_logged (steps_of answer)) before now

-- status, files and log are those of the answer
pub record IsAnswered (answer : Plan) (files : Files) (before now : Outside) (status : Status) : Type 0 where
  pub did : Did answer files before now status
  pub gained : LogGains (text_logged (steps_of answer)) before now

-- the answer of a line of words, as a plan: over what sources are read as and objects decoded to, the object that is stored, and the files that are there
abbrev pub answer_of_words : SourcesRead → ObjectReading → (object : List StagedParts) → (words : List (List ℕ)) → Files → Presence → Plan
answer_of_words sources object_for object words files there = plan_of_command sources object_for object (command_line_of words) files there

-- this holds where no call of the store or of the log has failed
abbrev pub WhereNoCallFailed : (before now : Outside) → Type 0 → Type 0
WhereNoCallFailed before now Holds = (ReadsRose before now → ⊥) → (WritesRose before now → ⊥) → (LogRose before now → ⊥) → Holds

-- what a command leaves that ends with this status: the tables, the log and the status of the one-thread meaning of its source or of its
-- object, and the object of its source
pub record Headline (words : List (List ℕ)) (before now : Outside) (status : Status) : Type 0 where
  -- what the answer is told over: what sources are read as, each text having exactly one answer, and what object files are decoded to
  pub sources : SourcesRead
  pub object_for : ObjectReading
  -- the files that the store tells or, where it tells none, some files, and which are there
  pub files : Files
  pub there : Presence
  pub told : IfSome before.files (λ held. held ≡ files)
  pub there_told : IfSome before.files (λ held. (name : List ℕ) → there name ≡ present_in held name)
  -- the object that the command stores, where it stores one; `demo` stores its own in files of its own
  pub object : List StagedParts
  -- files and log are those of the answer, or of the answer up to a call that failed
  pub leaves : Leaves (answer_of_words sources object_for object words files there) files before now status
  -- where no call has failed, all is as in the answer, but for want of memory
  pub answered : WhereNoCallFailed before now (IsAnswered (answer_of_words sources object_for object words files there) files before now status ⊎ (status ≡ ended.Memory))
  -- the stored object is valid code that means the same as the source, and its bytes are decoded to it
  pub stores : StoresObject sources (command_line_of words) files object before now status
  -- the object that is run is what its file is decoded to, or the command has ended before
  pub decodes : DecodesObject object_for (command_line_of words) files before now status
  -- a runtime fault is the first of the one-thread meaning, and its program has written nothing
  pub fault : status ≡ ended.Fault → FaultLeft sources object (command_line_of words) (answer_of_words sources object_for object words files there) files before now
  -- a refusal leaves each file as it was, and its line in the log
  pub refused : IsRefusal status → LeavesRefusal (answer_of_words sources object_for object words files there) files before now status
  -- words that are no command are refused, and no others
  pub usage : (status ≡ ended.Usage → command_line_of words ≡ None) × (command_line_of words ≡ None → (status ≡ ended.Usage) ⊎ (status ≡ ended.Memory))
  -- a fault of the outside has a cause
  pub read_fault : status ≡ ended.Read → ReadsRose before now
  pub write_fault : status ≡ ended.Write → WritesRose before now
  pub log_fault : status ≡ ended.Log → LogRose before now
