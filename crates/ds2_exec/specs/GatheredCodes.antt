-- The tables that programs name, gathered once, and where those of each program stand among them.
use Rattle.std.specs.Prelude.{◌≡◌, ℕ, ◌+◌, List, [], ◌∷◌, length}
use Rattle.ds2_code.specs.declared.parts.StagedParts.{StagedParts}
use Rattle.ds2_code.specs.declared.parts.TableReference.{TableReference}
use Rattle.ds2_code_answer.specs.CodeTables.{program_references}
use Rattle.ds2_answer.specs.ObjectPlans.{references_of}
use Rattle.ds2_exec.specs.declared.run_codes.NamedPlace.{NamedPlace}

-- where the tables of each program stand behind so many others
abbrev pub places_behind : (before : ℕ) → List StagedParts → List NamedPlace
places_behind before [] = []
places_behind before (code ∷ codes') =
    let count = length (program_references code.program code.stages) in record { start = before; count = count } ∷ places_behind (before + count) codes'

-- these are the tables that codes name, and the places of each program's
pub record AreGathered (codes' : List StagedParts) (references : List TableReference) (places : List NamedPlace) : Type 0 where
  pub named : references ≡ references_of codes'
  pub placed : places ≡ places_behind 0 codes'
