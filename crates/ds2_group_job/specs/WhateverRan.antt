-- Groups of a thread program that give the same whatever groups ran before them.
use Rattle.std.specs.Prelude.{◌≡◌, ℕ, ◌<◌, List, [], ◌∷◌, length}
use Rattle.ds2_value.specs.Progress.{Progress, Completed}
use Rattle.ds2_value.specs.Row.{Row}
use Rattle.ds2_table.specs.OneThread.{Standing, last_unit}
use Rattle.ds2_table.specs.Table.{Contents}
use Rattle.ds2_code.specs.declared.parts.ProgramParts.{ProgramParts}
use Rattle.ds2_code.specs.CodeUnit.{code_init}
use Rattle.ds2_code.specs.Desk.{ProgramData, SlotSettings}
use Rattle.ds2_code_answer.specs.CodeAnswer.{code_units, code_opening}
use Rattle.ds2_code_answer.specs.CodeTables.{tables_of_stage}
use Rattle.ds2_code_answer.specs.StageTold.{told_by_answer}
use Rattle.ds2_loads.specs.GroupedLoads.{loads_in_groups}
use Rattle.ds2_group_job.specs.GroupRuns.{run_of_group, end_of_group, group_at_number}

-- these data stand behind the groups of these numbers, run one after the other from the first data, each to a normal end
abbrev pub IsBehindGroups : ProgramParts → (budget : ℕ) → List (List SlotSettings) → List ℕ → ProgramData → ProgramData → Type 0
IsBehindGroups code budget groups [] first now = now ≡ first
IsBehindGroups code budget groups (g ∷ more) first now =
    (g < length groups) × (next : ProgramData) × ((run_of_group code budget (group_at_number groups g) first).reached ≡ Standing next) × IsBehindGroups code budget groups more next now

-- behind whatever groups of them, each group gives what it gives from the first data, and so does `term`
pub record GivesWhateverRan (code : ProgramParts) (budget : ℕ) (groups : List (List SlotSettings)) (first : ProgramData) : Type 0 where
  pub each : (ran : List ℕ) (now : ProgramData) (g : ℕ) → IsBehindGroups code budget groups ran first now → g < length groups
      → end_of_group (run_of_group code budget (group_at_number groups g) now) ≡ end_of_group (run_of_group code budget (group_at_number groups g) first)
  pub term : (ran : List ℕ) (now : ProgramData) → IsBehindGroups code budget groups ran first now
      → told_by_answer (last_unit (code_units code budget) now) ≡ told_by_answer (last_unit (code_units code budget) first)

-- from these data, behind an `init` that ends normally, the groups of a thread program at a grain over its tables give the same whatever
-- groups ran before them
abbrev pub IsIndependentFrom : ProgramParts → List Contents → (budget grain : ℕ) → ProgramData → Type 0
IsIndependentFrom stage tables budget grain begun =
    (first : ProgramData) (unit : Progress) (executed : ℕ) → code_init stage budget begun ≡ Completed first unit executed → GivesWhateverRan stage budget (loads_in_groups grain stage tables) first

-- a thread program is independent at a grain over its tables: its groups give so from its opening with any values of its parameters
abbrev pub IsIndependentThread : ProgramParts → List Contents → (budget grain : ℕ) → Type 0
IsIndependentThread stage tables budget grain = (given : Row) → IsIndependentFrom stage tables budget grain (code_opening stage [] tables given)

-- the thread program that reads tables is independent at a grain: this one without thread programs below it, or the last of these
abbrev pub IsIndependentChain : ProgramParts → List ProgramParts → List Contents → (budget grain : ℕ) → Type 0
IsIndependentChain thread [] tables budget grain = IsIndependentThread thread tables budget grain
IsIndependentChain thread (stage ∷ stages) tables budget grain = IsIndependentChain stage stages (tables_of_stage thread tables) budget grain

-- so is that of a program that reads from one, at the grain that is asked for it
abbrev pub AreIndependentStages : ProgramParts → List ProgramParts → List Contents → (budget grain : ℕ) → Type 0
AreIndependentStages program [] tables budget grain = Unit {0}
AreIndependentStages program (stage ∷ stages) tables budget grain = IsIndependentChain stage stages (tables_of_stage program tables) budget grain
