-- Programs that have an ending: none of their units strays.
use Rattle.std.specs.Prelude.{◌≡◌, IsTrue, ℕ, List, ◌∷◌, drop, slice_get, Some, is_some}
use Rattle.std.specs.List.{list_all}
use Rattle.ds2_value.specs.Progress.{has_end}
use Rattle.ds2_table.specs.OneThread.{Units, ProgramOf, Reads, ReadsFrom, StageAnswer, Answer, alone_answer}
use Rattle.ds2_table.specs.Table.{Contents}
use Rattle.ds2_code.specs.declared.parts.ProgramParts.{ProgramParts}
use Rattle.ds2_code.specs.declared.parts.StagedParts.{StagedParts}
use Rattle.ds2_code.specs.Desk.{ProgramData}
use Rattle.ds2_code.specs.ValidCode.{IsValidStaged}
use Rattle.ds2_code_answer.specs.CodeAnswer.{code_program}

-- each call of these units has an end, normal or by a fault
pub record HaveUnitsEnds {L C : Type 0} (units : Units L C) : Type 0 where
  pub init : (c : C) → IsTrue (has_end (units.init c))
  pub run : (load : L) (c : C) → IsTrue (has_end (units.run load c))
  pub term : (c : C) → IsTrue (has_end (units.term c))

-- likewise the units of a program, and those of each thread program below it
abbrev pub HasUnitsWithEnds : {L C : Type 0} → ProgramOf L C → Type 0
HasUnitsWithEnds (Reads units loads groups) = HaveUnitsEnds units
HasUnitsWithEnds (ReadsFrom units stage opened parameters load) = HaveUnitsEnds units × HasUnitsWithEnds stage

-- a program has an ending, normal or by a fault, and so has each thread program that it has read from
pub record HasEndings (answer : Answer) : Type 0 where
  pub program : IsTrue (is_some answer.ending)
  pub stages : IsTrue (list_all (λ (stage : StageAnswer). is_some stage.ending) answer.stages)

-- a program whose units have ends has an ending, however many thread programs stand below it
abbrev pub UnitsGiveEndings : Type 0 → Type 0 → Type 0
UnitsGiveEndings L C = (program : ProgramOf L C) (c : C) → HasUnitsWithEnds program → HasEndings (alone_answer program c)

-- each program of valid code has an ending, and so has each thread program below it, whatever its tables, budget, grain and data
abbrev pub ValidCodeHasEndings : Type 0
ValidCodeHasEndings =
    (parts : StagedParts) (k : ℕ) (code : ProgramParts) (tables : List Contents) (budget grain : ℕ) (state : ProgramData) → IsValidStaged parts
    → slice_get (parts.program ∷ parts.stages) k ≡ Some code → HasEndings (alone_answer (code_program code (drop k parts.stages) tables budget grain) state)
