-- What `run` does with the programs of a source is what `exec` does with their stored codes.
use Rattle.std.specs.Prelude.{◌≡◌, ℕ, List, [], ◌∷◌, flat_map, map}
use Rattle.ds2_source.specs.ProgramTree.{ProgramTree}
use Rattle.ds2_code.specs.declared.parts.StagedParts.{StagedParts}
use Rattle.ds2_same_meaning.specs.SameMeaning.{MeansSame}
use Rattle.ds2_answer.specs.HeldTables.{HeldTables}
use Rattle.ds2_answer.specs.ObjectPlans.{outputs_of_code, run_of_code}
use Rattle.ds2_answer.specs.ProgramPlans.{programs_plan}
use Rattle.ds2_answer.specs.SourcePlans.{outputs_of_program, runs_of_programs}
use Rattle.ds2_answer.specs.StagesLeft.{VerdictsTold}

-- codes mean the same as programs, one for each, in order
abbrev pub HaveCodes : List ProgramTree → List StagedParts → Type 0
HaveCodes [] [] = Unit {0}
HaveCodes [] (code ∷ codes) = ⊥
HaveCodes (p ∷ programs) [] = ⊥
HaveCodes (p ∷ programs) (code ∷ codes) = MeansSame p code × HaveCodes programs codes

-- programs do what codes do that mean the same: whatever verdicts are told, with every budget, over any tables that are held, and for the files of
-- their outputs
pub record CodesDoAsPrograms : Type 0 where
  pub plan : (told : VerdictsTold) (programs : List ProgramTree) (codes : List StagedParts) (budget : ℕ) (held : HeldTables) → HaveCodes programs codes
      → programs_plan (runs_of_programs told budget programs codes) held ≡ programs_plan (map (run_of_code told budget) codes) held
  pub outputs : (programs : List ProgramTree) (codes : List StagedParts) → HaveCodes programs codes → flat_map outputs_of_program programs ≡ flat_map outputs_of_code codes
