-- Thread programs that a program reads from, and what is told of them behind their end.
use Rattle.std.specs.Prelude.{ℕ, min, List, [], ◌∷◌, map, option_map, unwrap_or, Option, Some, None}
use Rattle.ds2_table.specs.OneThread.{Answer, StageAnswer}
use Rattle.ds2_locality.specs.declared.locality.Verdict.{Verdict}
use Rattle.ds2_locality.specs.declared.locality.Verdict.TheVariants.{Local, NotLocal}
use Rattle.ds2_answer.specs.Lines.{verdict_text}

-- the verdicts that are told of thread programs, by their names
abbrev pub VerdictsTold : Type 0
VerdictsTold = List ℕ → Option Verdict

-- no verdict is told
abbrev pub no_verdict : VerdictsTold
no_verdict name = None

-- a thread program that a program reads from: its name, and how many BY variables its reading statement has
pub record StageRead : Type 0 where
  pub name : List ℕ
  pub bys : ℕ

-- the name of a thread program
abbrev pub name_of_stage : Option (List ℕ) → List ℕ
name_of_stage name = unwrap_or name []

-- the grain at which loads with so many BY variables are put into groups: that of a local verdict, else 1; without BY variables 0
abbrev pub grain_told : Option Verdict → ℕ → ℕ
grain_told (Some (Local grain)) bys = grain
grain_told (Some (NotLocal reason place)) bys = min bys 1
grain_told None bys = min bys 1

-- the grain of the thread program that reads tables, which is the last one of these; 0 where there is none
abbrev pub grain_of_stages : VerdictsTold → List StageRead → ℕ
grain_of_stages told [] = 0
grain_of_stages told (stage ∷ []) = grain_told (told stage.name) stage.bys
grain_of_stages told (stage ∷ next ∷ stages) = grain_of_stages told (next ∷ stages)

-- what is told of a thread program behind its end: its name, the text of its verdict where one is told, how many groups its loads made, and
-- how many instructions its stored code executed
pub record StageLeft : Type 0 where
  pub name : List ℕ
  pub verdict : Option (List ℕ)
  pub groups : ℕ
  pub instructions : ℕ

-- how many instructions stored code executes: that of each thread program that a program reads from, the nearest one first, and its own
pub record InstructionCounts : Type 0 where
  pub stages : List ℕ
  pub program : ℕ

-- those of an answer of code
abbrev pub instruction_counts : Answer → InstructionCounts
instruction_counts answer = record { stages = map (λ (s : StageAnswer). s.executed) answer.stages; program = answer.executed }

-- what is told of these thread programs that ended so, in the same order
abbrev pub stages_left : VerdictsTold → List StageRead → List StageAnswer → (instructions : List ℕ) → List StageLeft
stages_left told [] answers counts = []
stages_left told (stage ∷ stages) [] counts = []
stages_left told (stage ∷ stages) (answer ∷ answers) [] = []
stages_left told (stage ∷ stages) (answer ∷ answers) (n ∷ counts) =
    record { name = stage.name; verdict = option_map verdict_text (told stage.name); groups = answer.groups; instructions = n } ∷ stages_left told stages answers counts
