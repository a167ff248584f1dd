-- What `demo` leaves.
use Rattle.std.specs.Prelude.{◌≡◌, ◌⊎◌, ℕ, List, Option, Result, Ok, Err}
use Rattle.ds2_outside.specs.Files.{Files}
use Rattle.ds2_compile.specs.AnswersOfTexts.{SourcesRead}
use Rattle.ds2_compile.specs.StagedParts.{StagedParts}
use Rattle.ds2_answer.specs.CountLines.{lines_without_counts}
use Rattle.ds2_answer.specs.DemoPlans.{demo_end, demo_files, demo_job, demo_plan}
use Rattle.ds2_answer.specs.Plan.{Plan, Logs, each_in_turn}
use Rattle.ds2_answer.specs.Status.{IsAnswerStatus}
use Rattle.ds2_answer.specs.declared.status.Status.{Status}
use Rattle.ds2_answer.specs.declared.status.Status.TheVariants.{Done}
use Rattle.ds2_store_steps.specs.Halts.{FollowsAll}
use Rattle.ds2_store_steps.specs.declared.halt.Halt.{Halt}
use Rattle.ds2_store_steps.specs.declared.halt.Halt.TheVariants.{Ended, OutOfMemory}
use Rattle.ds2_commands.specs.SourceObjects.{HaltsUnstored, IsObjectOf}

-- what is told of a run inside that has said this text and ended with this status
abbrev pub told_of_end : (text : List ℕ) → Status → ℕ → Plan
told_of_end text status n = each_in_turn Logs (lines_without_counts text) (demo_end status n)

-- what a call leaves that does a plan, or halts in it, and leaves any store as it was
abbrev pub FollowsBeside : Plan → List ℕ → Result (Unit {0}) Halt → List ℕ → Type 0
FollowsBeside plan said result log = (told : Option Files) → FollowsAll plan said told result log told

-- what is left behind a run inside that has ended so, with this text
abbrev pub EndsDemo : ℕ → (ran : Result (Unit {0}) Halt) → (text said : List ℕ) → Result (Unit {0}) Halt → List ℕ → Type 0
EndsDemo n (Ok value) text said result log = FollowsBeside (told_of_end text Done n) said result log
EndsDemo n (Err (Ended status)) text said result log = IsAnswerStatus status → FollowsBeside (told_of_end text status n) said result log
EndsDemo n (Err OutOfMemory) text said result log = result ≡ Err OutOfMemory

-- what `demo` leaves, over some object: that of its job, unless the run inside has ended before it stored one
pub record DoesDemo (sources : SourcesRead) (n : ℕ) (said : List ℕ) (result : Result (Unit {0}) Halt) (log : List ℕ) : Type 0 where
  pub object : List StagedParts
  pub stores : IsObjectOf sources demo_job (demo_files n) object ⊎ ((told : Option Files) → HaltsUnstored result told told)
  pub follows : FollowsBeside (demo_plan sources object n) said result log
