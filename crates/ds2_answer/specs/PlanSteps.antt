-- The steps of a plan, and what they leave.
use Rattle.std.specs.Prelude.{ℕ, List, [], ◌∷◌, ◌++◌}
use Rattle.ds2_outside.specs.Files.{Files, with_file}
use Rattle.ds2_answer.specs.declared.status.Status.{Status}
use Rattle.ds2_answer.specs.Plan.{Plan, Stops, Logs, ReadsFile, AsksFor, WritesFile}

-- a line of the log, or a call of the store
pub data PlanStep : Type 0 where
  LogLine : (line : List ℕ) → PlanStep
  ReadFile : (name : List ℕ) → PlanStep
  AskFor : (name : List ℕ) → PlanStep
  WriteFile : (name bytes : List ℕ) → PlanStep

-- what a step adds to the log
abbrev pub logged_by : PlanStep → List ℕ
logged_by (LogLine line) = line
logged_by (ReadFile name) = []
logged_by (AskFor name) = []
logged_by (WriteFile name bytes) = []

-- the files behind a step
abbrev pub files_behind : PlanStep → Files → Files
files_behind (LogLine line) files = files
files_behind (ReadFile name) files = files
files_behind (AskFor name) files = files
files_behind (WriteFile name bytes) files = with_file files name bytes

-- what steps add to the log
abbrev pub text_logged : List PlanStep → List ℕ
text_logged [] = []
text_logged (step ∷ steps) = logged_by step ++ text_logged steps

-- the files behind steps
abbrev pub files_behind_all : List PlanStep → Files → Files
files_behind_all [] files = files
files_behind_all (step ∷ steps) files = files_behind_all steps (files_behind step files)

-- the steps of a plan, in order
abbrev pub steps_of : Plan → List PlanStep
steps_of (Stops status) = []
steps_of (Logs line rest) = LogLine line ∷ steps_of rest
steps_of (ReadsFile name rest) = ReadFile name ∷ steps_of rest
steps_of (AsksFor name rest) = AskFor name ∷ steps_of rest
steps_of (WritesFile name bytes rest) = WriteFile name bytes ∷ steps_of rest

-- the status with which a plan stops
abbrev pub status_at_end : Plan → Status
status_at_end (Stops status) = status
status_at_end (Logs line rest) = status_at_end rest
status_at_end (ReadsFile name rest) = status_at_end rest
status_at_end (AsksFor name rest) = status_at_end rest
status_at_end (WritesFile name bytes rest) = status_at_end rest
