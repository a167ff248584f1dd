-- What units of a program's code, run one after the other, have left.
use Rattle.std.specs.Prelude.{◌≡◌, ℕ, ◌≤◌, true, false, List, Some}
use Rattle.ds2_value.specs.Run.{Written}
use Rattle.ds2_value.specs.declared.fault.Ending.{Ending}
use Rattle.ds2_value.specs.declared.fault.Ending.TheVariants.{Normal, Faulted}
use Rattle.ds2_table.specs.OneThread.{Reached, Standing, Halted, Astray, GroupResult, Answer, then_unit, run_each}
use Rattle.ds2_code.specs.declared.parts.ProgramParts.{ProgramParts}
use Rattle.ds2_code.specs.declared.parts.StagedParts.{StagedParts}
use Rattle.ds2_code.specs.CodeUnit.{code_init}
use Rattle.ds2_code.specs.Desk.{ProgramData, SlotSettings}
use Rattle.ds2_code.specs.Scales.{IsDataScaled}
use Rattle.ds2_machine.specs.AtRest.{MachineAtRest}
use Rattle.ds2_machine.specs.Sink.{SinkTakes}
use Rattle.ds2_machine.specs.declared.machine.TheConstants.{MOST_BUDGET}
use Rattle.ds2_code_answer.specs.CodeAnswer.{code_units}
use Rattle.ds2_unit.specs.declared.units_end.UnitsEnd.{UnitsEnd}

-- the machine stands where the loads have left the program: it goes on with this data after a normal end, and is spent after a fault
abbrev pub StandsWhere : Reached ProgramData → Ending → MachineAtRest → Type 0
StandsWhere (Standing state) ending now = (ending ≡ Normal) × (now.spent ≡ false) × (now.state ≡ state)
StandsWhere (Halted fault place) ending now = (ending ≡ Faulted fault place) × (now.spent ≡ true)
StandsWhere Astray ending now = ⊥

-- `run` on loads has left this: the sink has taken the rows and lines, the number of instructions is that of the result, and the machine
-- stands where the result does
pub record HasRunLoads {S : Type 0} (has_taken : S → S → List Written → List (List ℕ) → Type 0) (before after : S) (outcome : GroupResult ProgramData) (end : UnitsEnd) (now : MachineAtRest) : Type 0 where
  pub taken : SinkTakes has_taken before after outcome.rows outcome.lines
  pub counted : end.executed ≡ outcome.executed
  pub stands : StandsWhere outcome.reached end.ending now

-- units up to the end of a program have left this: the sink has taken the answer's rows and lines, and the ending and the number of
-- instructions are those of the answer
pub record HasRunAnswer {S : Type 0} (has_taken : S → S → List Written → List (List ℕ) → Type 0) (before after : S) (answer : Answer) (end : UnitsEnd) : Type 0 where
  pub taken : SinkTakes has_taken before after answer.rows answer.lines
  pub counted : end.executed ≡ answer.executed
  pub ended : answer.ending ≡ Some end.ending

-- a program has run from this data on these loads, each unit with this budget: it has left what its answer says
abbrev pub HasRunOnLoads : {S : Type 0} → (S → S → List Written → List (List ℕ) → Type 0) → S → S → ProgramParts → (budget : ℕ) → ProgramData → List SlotSettings → UnitsEnd → Type 0
HasRunOnLoads has_taken before after code budget state loads end =
    HasRunAnswer has_taken before after (then_unit (code_init code budget state) (run_each (code_units code budget) loads)) end

-- a machine stands before the first unit of a data program, which may run with this budget
pub record IsReadyToRun (code : StagedParts) (machine : MachineAtRest) (most : ℕ) : Type 0 where
  pub scaled : IsDataScaled code.program machine.state
  pub budget : most ≤ MOST_BUDGET
  pub ready : machine.spent ≡ false
  pub program : machine.program ≡ 0
