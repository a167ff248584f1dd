-- What a command leaves in the files and the log, at each status.
use Rattle.std.specs.Prelude.{◌≡◌, ◌⊎◌, ℕ, List, [], ◌∷◌, ◌++◌, codes}
use Rattle.ds2_outside.specs.Files.{Files}
use Rattle.ds2_answer.specs.declared.status.Status.{Status}
use Rattle.ds2_answer.specs.declared.status.Status.TheVariants as ended
use Rattle.ds2_answer.specs.Lines.{fault_line, memory_line}
use Rattle.ds2_answer.specs.Plan.{Plan}
use Rattle.ds2_answer.specs.PlanSteps.{PlanStep, LogLine, ReadFile, AskFor, WriteFile, files_behind_all, status_at_end, steps_of, text_logged}
use Rattle.ds2_top.specs.Outside.{Outside, Gained, HoldsFiles, HoldsTorn, LogGains, LogGainsPart, LogRose, ReadsRose, WritesRose}

-- a step reads the named file, or asks whether it is there
abbrev pub ReadsOrAsks : PlanStep → List ℕ → Type 0
ReadsOrAsks (LogLine line) name = ⊥
ReadsOrAsks (ReadFile read) name = read ≡ name
ReadsOrAsks (AskFor asked) name = asked ≡ name
ReadsOrAsks (WriteFile written bytes) name = ⊥

-- a read or a question among the steps has failed; x is the text up to it, and its line
pub record ReadFailed (all : List PlanStep) (files : Files) (x : List ℕ) (before now : Outside) : Type 0 where
  pub front : List PlanStep
  pub step : PlanStep
  pub name : List ℕ
  pub rest : List PlanStep
  pub reads : ReadsOrAsks step name
  pub split : all ≡ front ++ step ∷ rest
  pub x_is : x ≡ text_logged front ++ fault_line (codes "Read") name
  pub files_are : HoldsFiles (files_behind_all front files) before now

-- a write among the steps has failed, and its file holds what it held or a first part of the bytes
pub record WriteFailed (all : List PlanStep) (files : Files) (x : List ℕ) (before now : Outside) : Type 0 where
  pub front : List PlanStep
  pub name : List ℕ
  pub bytes : List ℕ
  pub rest : List PlanStep
  pub split : all ≡ front ++ WriteFile name bytes ∷ rest
  pub x_is : x ≡ text_logged front ++ fault_line (codes "Write") name
  pub files_are : HoldsTorn (files_behind_all front files) name bytes before now

-- the files are those after some first steps
pub record Between (all : List PlanStep) (files : Files) (before now : Outside) : Type 0 where
  pub front : List PlanStep
  pub rest : List PlanStep
  pub split : all ≡ front ++ rest
  pub files_are : HoldsFiles (files_behind_all front files) before now

-- the files are those after some first steps, but for the file of the write that comes next
pub record AtWrite (all : List PlanStep) (files : Files) (before now : Outside) : Type 0 where
  pub front : List PlanStep
  pub name : List ℕ
  pub bytes : List ℕ
  pub rest : List PlanStep
  pub split : all ≡ front ++ WriteFile name bytes ∷ rest
  pub files_are : HoldsTorn (files_behind_all front files) name bytes before now

-- y is some lines with which x begins
pub record FirstLines (x y : List ℕ) : Type 0 where
  pub rest : List ℕ
  pub split : x ≡ y ++ rest
  pub lines : (y ≡ []) ⊎ ((z : List ℕ) × (y ≡ z ++ 10 ∷ []))

-- x is the text of the answer or, where a count of the store rose, the text up to a fault with its line
abbrev pub IsText : List PlanStep → Files → Outside → Outside → List ℕ → Type 0
IsText all files before now x = (x ≡ text_logged all) ⊎ ((ReadsRose before now × ReadFailed all files x before now) ⊎ (WritesRose before now × WriteFailed all files x before now))

-- the log after want of memory: it has gained a part of the text, or of some lines of it and the line on memory
pub record MemoryLog (all : List PlanStep) (files : Files) (before now : Outside) : Type 0 where
  pub x : List ℕ
  pub y : List ℕ
  pub x_is : IsText all files before now x
  pub y_is : FirstLines x y
  pub gained : LogGainsPart x before now ⊎ LogGainsPart (y ++ memory_line) before now

-- the whole answer was done: its status, and the files after its steps
pub record Did (answer : Plan) (files : Files) (before now : Outside) (status : Status) : Type 0 where
  pub status_is : status ≡ status_at_end answer
  pub files_are : HoldsFiles (files_behind_all (steps_of answer) files) before now

-- a read or a question of the answer has failed, for a cause, and the log has gained the text up to it with its line
pub record EndsInRead (answer : Plan) (files : Files) (before now : Outside) : Type 0 where
  pub cause : ReadsRose before now
  pub x : List ℕ
  pub failed : ReadFailed (steps_of answer) files x before now
  pub gained : Gained x before now

-- a write of the answer has failed, for a cause, and the log has gained the text up to it with its line
pub record EndsInWrite (answer : Plan) (files : Files) (before now : Outside) : Type 0 where
  pub cause : WritesRose before now
  pub x : List ℕ
  pub failed : WriteFailed (steps_of answer) files x before now
  pub gained : Gained x before now

-- what a command leaves, by its status, over these files
abbrev pub Leaves : Plan → Files → Outside → Outside → Status → Type 0
Leaves answer files before now ended.Done = Did answer files before now ended.Done × LogGains (text_logged (steps_of answer)) before now
Leaves answer files before now ended.Usage = Did answer files before now ended.Usage × Gained (text_logged (steps_of answer)) before now
Leaves answer files before now ended.Source = Did answer files before now ended.Source × Gained (text_logged (steps_of answer)) before now
Leaves answer files before now ended.File = Did answer files before now ended.File × Gained (text_logged (steps_of answer)) before now
Leaves answer files before now ended.Exists = Did answer files before now ended.Exists × Gained (text_logged (steps_of answer)) before now
Leaves answer files before now ended.Fault = Did answer files before now ended.Fault × Gained (text_logged (steps_of answer)) before now
Leaves answer files before now ended.Object = Did answer files before now ended.Object × Gained (text_logged (steps_of answer)) before now
Leaves answer files before now ended.Read = EndsInRead answer files before now
Leaves answer files before now ended.Write = EndsInWrite answer files before now
Leaves answer files before now ended.Log = Did answer files before now ended.Done × LogRose before now × LogGainsPart (text_logged (steps_of answer)) before now
Leaves answer files before now ended.Memory =
    (Between (steps_of answer) files before now ⊎ AtWrite (steps_of answer) files before now) × MemoryLog (steps_of answer) files before now
