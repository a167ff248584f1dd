-- Each program that a command runs has an ending.
use Rattle.std.proofs.Common.{◌≡◌, ℕ, true, List, [], ◌∷◌, map, refl}
use Rattle.std.specs.List.{AllByRecursion}
use Rattle.ds2_value.specs.Progress.{has_end}
use Rattle.ds2_meaning.specs.Location.{Storage}
use Rattle.ds2_meaning.specs.ProgramMeaning.{carry_out, unit_end, nothing_more, implicit_output, with_cleared, program_units, program_over_loads, opening_of}
use Rattle.ds2_meaning.specs.ProgramTree.{UnitTree, ProgramTree, OverTables, OverStage, reader_of}
use Rattle.ds2_meaning.specs.Reading.{TableRows, Settings, with_settings}
use Rattle.ds2_meaning.specs.RunState.{RunState, StatementOutcome, Proceeds, Leaves, Continues, Returns, Faults}
use Rattle.ds2_code.specs.declared.parts.StagedParts.{StagedParts}
use Rattle.ds2_code.specs.ValidCode.{IsValidStaged}
use Rattle.ds2_code_answer.specs.CodeAnswer.{code_opening}
use Rattle.ds2_code_answer.specs.Endings.{HaveUnitsEnds, HasUnitsWithEnds, ValidCodeHasEndings}
use Rattle.ds2_code_answer.proofs.Endings.{units_give_endings}
use Rattle.ds2_answer.specs.HeldTables.{rows_held, tables_held}
use Rattle.ds2_answer.specs.ObjectPlans.{run_of_code, stages_of_code}
use Rattle.ds2_answer.specs.ProgramEndings.{HasEndingOverAny, EveryProgramHasEnding}
use Rattle.ds2_answer.specs.SourcePlans.{stages_of_program, runs_of_programs, other_codes}
use Rattle.ds2_answer.specs.StagesLeft.{VerdictsTold, grain_of_stages}

-- ---- programs of a source

unit_has_end : (at_end : RunState → RunState) (o : StatementOutcome) → has_end (unit_end at_end o) ≡ true
unit_has_end at_end (Proceeds w) = refl
unit_has_end at_end (Leaves w) = refl
unit_has_end at_end (Continues w) = refl
unit_has_end at_end (Returns v w) = refl
unit_has_end at_end (Faults f w) = refl

units_have_ends : (p : UnitTree) (budget : ℕ) → HaveUnitsEnds (program_units p budget)
units_have_ends p budget = record {
  init = λ c. unit_has_end nothing_more (carry_out p p.init budget c);
  run = λ load c. unit_has_end (implicit_output p) (carry_out p p.run budget (with_settings load (with_cleared p c)));
  term = λ c. unit_has_end nothing_more (carry_out p p.term budget c);
}

tree_has_ends : (p : ProgramTree) (tables : TableRows) (budget grain : ℕ) → HasUnitsWithEnds (program_over_loads p tables budget grain)
tree_has_ends (OverTables p) tables budget grain = units_have_ends p budget
tree_has_ends (OverStage p stage) tables budget grain = (units_have_ends p budget, tree_has_ends stage tables budget grain)

source_ends : (told : VerdictsTold) (budget : ℕ) (programs : List ProgramTree) (codes : List StagedParts) → AllByRecursion HasEndingOverAny (runs_of_programs told budget programs codes)
source_ends told budget [] codes = tt
source_ends told budget (p ∷ programs) codes = (
  λ held. let grain = grain_of_stages told (stages_of_program p) in
      let has = units_give_endings Settings Storage (program_over_loads p (rows_held held) budget grain) (opening_of (reader_of p) (rows_held held) []) (tree_has_ends p (rows_held held) budget grain) in
      has.program,
  source_ends told budget programs (other_codes codes),
)

-- ---- programs of an object

object_ends : ValidCodeHasEndings → (told : VerdictsTold) (budget : ℕ) (programs : List StagedParts) → AllByRecursion IsValidStaged programs → AllByRecursion HasEndingOverAny (map (run_of_code told budget) programs)
object_ends law told budget [] valid = tt
object_ends law told budget (code ∷ programs) valid = (
  λ held. let tables = tables_held held code in
      let has = law code 0 code.program tables budget (grain_of_stages told (stages_of_code code)) (code_opening code.program code.stages tables []) valid.0 refl in
      has.program,
  object_ends law told budget programs valid.1,
)

pub every_program_has_ending : ValidCodeHasEndings → EveryProgramHasEnding
every_program_has_ending law = record { source = source_ends; object = λ told budget programs valid. object_ends law told budget programs valid.each }
