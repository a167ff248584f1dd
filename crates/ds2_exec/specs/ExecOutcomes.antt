-- What the run of an object leaves.
use Rattle.std.specs.Prelude.{◌≡◌, ℕ, List, [], Option, IfSome, Result, Ok, Err}
use Rattle.ds2_outside.specs.Files.{Files}
use Rattle.ds2_answer.specs.declared.status.Status.{Status}
use Rattle.ds2_answer.specs.Plan.{Plan}
use Rattle.ds2_answer.specs.TablePlans.{Presence, present_in}
use Rattle.ds2_exec.specs.declared.object_run.ExecEnd.{ExecEnd}
use Rattle.ds2_store_steps.specs.PlanOutcomes.{CameOfPlan, CutShort}

-- some files, and answers to the question whether a file is there, which are those of the store where it tells its files
pub record OverStore (told : Option Files) (P : Files → Presence → Type 0) : Type 0 where
  pub files : Files
  pub there : Presence
  pub files_told : IfSome told (λ held. held ≡ files)
  pub there_told : IfSome told (λ held. (name : List ℕ) → there name ≡ present_in held name)
  pub holds : P files there

-- a plan was done to its end, or up to a call that failed; or memory ran out behind some first calls of it
abbrev pub ExecutesPlan : {E : Type 0} → Plan → Option Files → Result ExecEnd E → Option Files → Type 0
ExecutesPlan plan told (Ok end) now = CameOfPlan plan [] told end.status end.log now
ExecutesPlan plan told (Err e) now = CutShort plan told now

-- a run has ended with this status
abbrev pub ExecEndsAs : {E : Type 0} → Status → Result ExecEnd E → Type 0
ExecEndsAs status (Ok end) = end.status ≡ status
ExecEndsAs status (Err e) = ⊥
