-- Each program that a command runs has an ending: no plan has one that strayed.
use Rattle.std.specs.Prelude.{IsTrue, ℕ, List, map, is_some}
use Rattle.std.specs.List.{AllByRecursion}
use Rattle.ds2_source.specs.ProgramTree.{ProgramTree}
use Rattle.ds2_code.specs.declared.parts.StagedParts.{StagedParts}
use Rattle.ds2_object.specs.ObjectSpelling.{IsValidObject}
use Rattle.ds2_answer.specs.HeldTables.{HeldTables}
use Rattle.ds2_answer.specs.ObjectPlans.{run_of_code}
use Rattle.ds2_answer.specs.ProgramPlans.{ProgramLeft, ProgramRun}
use Rattle.ds2_answer.specs.SourcePlans.{runs_of_programs}
use Rattle.ds2_answer.specs.StagesLeft.{VerdictsTold}

-- a program ends normally or by a fault, over any tables that are held
abbrev pub HasEndingOverAny : ProgramRun → Type 0
HasEndingOverAny run = (held : HeldTables) → IsTrue (is_some (ProgramLeft.ending (run held)))

-- so does each program of a source, whatever its stored code, and each program of an object, whatever verdicts are told and with every budget
pub record EveryProgramHasEnding : Type 0 where
  pub source : (told : VerdictsTold) (budget : ℕ) (programs : List ProgramTree) (codes : List StagedParts) → AllByRecursion HasEndingOverAny (runs_of_programs told budget programs codes)
  pub object : (told : VerdictsTold) (budget : ℕ) (programs : List StagedParts) → IsValidObject programs → AllByRecursion HasEndingOverAny (map (run_of_code told budget) programs)
