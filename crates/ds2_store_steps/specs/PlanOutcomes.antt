-- What came of a plan.
use Rattle.std.specs.Prelude.{◌≡◌, ◌⊎◌, ℕ, List, ◌++◌, codes, Option, IfSome, option_map}
use Rattle.ds2_outside.specs.Files.{Files, with_file, LeavesPart}
use Rattle.ds2_answer.specs.declared.status.Status.{Status}
use Rattle.ds2_answer.specs.declared.status.Status.TheVariants as ended
use Rattle.ds2_answer.specs.Lines.{fault_line}
use Rattle.ds2_answer.specs.Plan.{Plan, Stops, Logs, ReadsFile, AsksFor, WritesFile}
use Rattle.ds2_answer.specs.Status.{IsAnswerStatus}

-- the files that a store tells, with these bytes under this name
abbrev pub files_told_with : Option Files → List ℕ → List ℕ → Option Files
files_told_with told name bytes = option_map (λ files. with_file files name bytes) told

-- a store that told these files has them still, or with a first part of the bytes under the name
abbrev pub TornFile : Option Files → List ℕ → List ℕ → Option Files → Type 0
TornFile told name bytes now = IfSome told (λ files. LeavesPart files name bytes now)

-- a command has ended with this status and text, and with the files that were told
pub record StoppedAs (ended : Status) (text : List ℕ) (told : Option Files) (status : Status) (log : List ℕ) (now : Option Files) : Type 0 where
  pub status_is : status ≡ ended
  pub log_is : log ≡ text
  pub files : now ≡ told

-- a command has ended since the write of this file has failed
pub record BrokeAtWrite (text name bytes : List ℕ) (told : Option Files) (status : Status) (log : List ℕ) (now : Option Files) : Type 0 where
  pub status_is : status ≡ ended.Write
  pub log_is : log ≡ text
  pub files : TornFile told name bytes now

-- the plan was done to its end, or up to a call that failed; `said` is the text before it
abbrev pub CameOfPlan : Plan → List ℕ → Option Files → Status → List ℕ → Option Files → Type 0
CameOfPlan (Stops ended) said told status log now = StoppedAs ended said told status log now × IsAnswerStatus ended
CameOfPlan (Logs line rest) said told status log now = CameOfPlan rest (said ++ line) told status log now
CameOfPlan (ReadsFile name rest) said told status log now =
    StoppedAs ended.Read (said ++ fault_line (codes "Read") name) told status log now ⊎ CameOfPlan rest said told status log now
CameOfPlan (AsksFor name rest) said told status log now =
    StoppedAs ended.Read (said ++ fault_line (codes "Read") name) told status log now ⊎ CameOfPlan rest said told status log now
CameOfPlan (WritesFile name bytes rest) said told status log now =
    BrokeAtWrite (said ++ fault_line (codes "Write") name) name bytes told status log now ⊎ CameOfPlan rest said (files_told_with told name bytes) status log now

-- the files after some first calls of the plan, the last of them perhaps a refused write
abbrev pub CutShort : Plan → Option Files → Option Files → Type 0
CutShort (Stops status) told now = now ≡ told
CutShort (Logs line rest) told now = (now ≡ told) ⊎ CutShort rest told now
CutShort (ReadsFile name rest) told now = (now ≡ told) ⊎ CutShort rest told now
CutShort (AsksFor name rest) told now = (now ≡ told) ⊎ CutShort rest told now
CutShort (WritesFile name bytes rest) told now = TornFile told name bytes now ⊎ CutShort rest (files_told_with told name bytes) now
