-- The questions whether the files of outputs are there.
use Rattle.std.specs.Prelude.{◌≡◌, ℕ, Bool, false, List, [], ◌∷◌, Option, IfSome, Result}
use Rattle.ds2_outside.specs.Files.{Files}
use Rattle.ds2_code.specs.declared.parts.OutputPart.{OutputPart}
use Rattle.ds2_answer.specs.Plan.{Plan}
use Rattle.ds2_answer.specs.TablePlans.{OutputNamed, Presence, ask_unless_made, made_too, outputs_then, present_in}
use Rattle.ds2_store_steps.specs.declared.halt.Halt.{Halt}
use Rattle.ds2_store_steps.specs.Halts.{Follows}

-- some answers to the question whether a file is there, which are those of the store where it tells its files
pub record OverAnswers (told : Option Files) (P : Presence → Type 0) : Type 0 where
  pub there : Presence
  pub told_is : IfSome told (λ files. (name : List ℕ) → there name ≡ present_in files name)
  pub holds : P there

-- an output of code
abbrev pub output_named : OutputPart → OutputNamed
output_named o = record { name = o.name; overwrites = o.overwrites }

-- the names of the tables that outputs make, behind others
abbrev pub made_behind : (made : List ℕ → Bool) → List OutputNamed → (List ℕ → Bool)
made_behind made [] = made
made_behind made (output ∷ outputs) = made_behind (made_too output made) outputs

-- what a call leaves that asks for the file of an output: no change in the files, and it is not there, for what comes next, or a halt
abbrev pub AsksNewOutput : List ℕ → List ℕ → Option Files → Result (Unit {0}) Halt → List ℕ → Option Files → Type 0
AsksNewOutput name said told result log now =
    (now ≡ told) × OverAnswers told (λ there. (rest : Plan) → Follows (ask_unless_made false there name rest) (λ _. rest) said told result log now)

-- the same of the files of outputs behind others
abbrev pub AsksOutputs : (made : List ℕ → Bool) → List OutputNamed → List ℕ → Option Files → Result (Unit {0}) Halt → List ℕ → Option Files → Type 0
AsksOutputs made outputs said told result log now =
    (now ≡ told) × OverAnswers told (λ there. (rest : Plan) → Follows (outputs_then made there outputs rest) (λ _. rest) said told result log now)
