-- The reading of a whole file, and the question whether a file is there.
use Rattle.std.specs.Prelude.{◌≡◌, ◌≤◌, ℕ, Bool, List, length, Option, Some, IfSome, Result, Ok, Err}
use Rattle.ds2_outside.specs.Files.{Files, file}
use Rattle.ds2_answer.specs.TablePlans.{present_in, read_file}
use Rattle.ds2_answer.specs.Plan.{Plan, AsksFor}
use Rattle.ds2_store_steps.specs.declared.halt.Halt.{Halt}
use Rattle.ds2_store_steps.specs.Halts.{HaltsPlan}

-- some files, which are those of the store where it tells them
pub record OverSomeFiles (told : Option Files) (P : Files → Type 0) : Type 0 where
  pub files : Files
  pub told_is : IfSome told (λ held. held ≡ files)
  pub holds : P files

-- bytes that were read of a file, whole and within its limit
pub record WasFileRead (limit : ℕ) (name : List ℕ) (told : Option Files) (bytes : List ℕ) : Type 0 where
  pub within : length bytes ≤ limit
  pub held : IfSome told (λ files. file files name ≡ Some bytes)

-- what a call leaves that reads a file: its bytes and no change, or a halt in the reading
abbrev pub ReadsWholeFile : ℕ → List ℕ → List ℕ → Option Files → Result (List ℕ) Halt → List ℕ → Option Files → Type 0
ReadsWholeFile limit name said told (Ok bytes) log now = WasFileRead limit name told bytes × (log ≡ said) × (now ≡ told)
ReadsWholeFile limit name said told (Err halt) log now = OverSomeFiles told (λ files. (go : List ℕ → Plan) → HaltsPlan (read_file limit name files go) said told halt log now)

-- what a call leaves that asks for a file: the answer and no change, or a halt in the question
abbrev pub AsksForFile : List ℕ → List ℕ → Option Files → Result Bool Halt → List ℕ → Option Files → Type 0
AsksForFile name said told (Ok there) log now = IfSome told (λ files. there ≡ present_in files name) × (log ≡ said) × (now ≡ told)
AsksForFile name said told (Err halt) log now = (now ≡ told) × ((rest : Plan) → HaltsPlan (AsksFor name rest) said told halt log now)
