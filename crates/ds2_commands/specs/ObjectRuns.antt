-- What calls leave that run an object's file.
use Rattle.std.specs.Prelude.{◌≡◌, ◌⊎◌, ℕ, List, ◌++◌, codes, Option, IfSome, Result, Ok, Err}
use Rattle.ds2_base.specs.Bytes.{Bytes}
use Rattle.ds2_outside.specs.Files.{Files, file}
use Rattle.ds2_answer.specs.Lines.{fault_line}
use Rattle.ds2_answer.specs.Load.{within_limit}
use Rattle.ds2_answer.specs.ObjectPlans.{IsDecoding, ObjectReading, exec_plan, on_object}
use Rattle.ds2_answer.specs.TablePlans.{Presence, present_in}
use Rattle.ds2_answer.specs.declared.kinds.TheConstants.{OBJECT_LIMIT}
use Rattle.ds2_answer.specs.declared.status.Status.TheVariants.{Read}
use Rattle.ds2_store_steps.specs.Halts.{FollowsAll}
use Rattle.ds2_store_steps.specs.PlanOutcomes.{StoppedAs}
use Rattle.ds2_store_steps.specs.declared.halt.Halt.{Halt}
use Rattle.ds2_store_steps.specs.declared.halt.Halt.TheVariants.{Ended, OutOfMemory}

-- the named file, where it is there and within its limit, is decoded as it should be
abbrev pub DecodesFile : ObjectReading → (name : List ℕ) → Files → Type 0
DecodesFile object_for name files = (bytes : Bytes) → within_limit OBJECT_LIMIT (file files name) ≡ Ok bytes → IsDecoding object_for bytes

-- a command has ended before it decoded the named file, and no file has changed: the read has failed and its line was said, or there was no
-- memory
abbrev pub HaltsUndecoded : (name said : List ℕ) → Option Files → Result (Unit {0}) Halt → List ℕ → Option Files → Type 0
HaltsUndecoded name said told (Ok value) log now = ⊥
HaltsUndecoded name said told (Err (Ended status)) log now = StoppedAs Read (said ++ fault_line (codes "Read") name) told status log now
HaltsUndecoded name said told (Err OutOfMemory) log now = now ≡ told

-- bytes were decoded as they should be and run, or there was no memory to decode them
pub record RunsBytes (bytes : Bytes) (budget : ℕ) (said : List ℕ) (told : Option Files) (result : Result (Unit {0}) Halt) (log : List ℕ) (now : Option Files) : Type 0 where
  pub object_for : ObjectReading
  pub files : Files
  pub there : Presence
  pub files_told : IfSome told (λ held. held ≡ files)
  pub there_told : IfSome told (λ held. (name : List ℕ) → there name ≡ present_in held name)
  pub decodes : IsDecoding object_for bytes ⊎ ((result ≡ Err OutOfMemory) × (now ≡ told))
  pub follows : FollowsAll (on_object (object_for bytes) budget files there) said told result log now

-- a file was read, decoded as it should be and run, or the command has ended before that
pub record RunsFile (name : List ℕ) (budget : ℕ) (said : List ℕ) (told : Option Files) (result : Result (Unit {0}) Halt) (log : List ℕ) (now : Option Files) : Type 0 where
  pub object_for : ObjectReading
  pub files : Files
  pub there : Presence
  pub files_told : IfSome told (λ held. held ≡ files)
  pub there_told : IfSome told (λ held. (name : List ℕ) → there name ≡ present_in held name)
  pub decodes : DecodesFile object_for name files ⊎ HaltsUndecoded name said told result log now
  pub follows : FollowsAll (exec_plan object_for name budget files there) said told result log now
