-- The code's machine between two instructions, as the machine that the meaning of code speaks of.
use Rattle.std.specs.Prelude.{◌≡◌, ℕ, Bool, true, false, List, [], ◌∷◌, ◌++◌, reverse, take, drop, Option, Some, None}
use Rattle.ds2_value.specs.Progress.{Progress}
use Rattle.ds2_value.specs.Row.{Row}
use Rattle.ds2_value.specs.Run.{Event, Written}
use Rattle.ds2_code.specs.declared.parts.ProgramParts.{ProgramParts}
use Rattle.ds2_code.specs.CodeLaws.{way_of_end}
use Rattle.ds2_code.specs.CodeRun.{CallFrame, MachineState, CodeEnd, EndReached, Broken, Stuck, NextState, GoesOn, Stops, UnderWay, Over, run_code}
use Rattle.ds2_code.specs.Desk.{ProgramData, Desk, Taken, with_stack}
use Rattle.ds2_code.specs.Scales.{IsScaled}
use Rattle.ds2_machine.specs.Sink.{SinkTakes}
use Rattle.ds2_frames.specs.declared.frames.Waiting.{Waiting}
use Rattle.ds2_machine.specs.declared.state.Halt.{Halt}
use Rattle.ds2_machine.specs.declared.state.Halt.TheVariants as halt
use Rattle.ds2_machine.specs.declared.state.State.{State}

-- what a unit has done so far that its machine does not hold: its way, and the rows and lines that went to a sink
pub record UnitTold : Type 0 where
  pub way : List Event
  pub rows : List Written
  pub lines : List (List ℕ)

-- the callers that wait, the last one first, whose operands and locals lie one behind the other
abbrev pub waiting_frames : Row → Row → List Waiting → List CallFrame
waiting_frames operands locals [] = []
waiting_frames operands locals (w ∷ ws) =
    record { stack = reverse (drop w.operands operands); locals = drop w.locals locals; place = w.place; to = w.to; callee = w.callee }
    ∷ waiting_frames (take w.operands operands) (take w.locals locals) ws

-- the program's data
abbrev pub data_of_state : State → ProgramData
data_of_state s = record { slots = s.slots; hashes = s.objects.hashes; iterators = s.objects.iterators; parameters = s.parameters }

-- what the instructions work on
abbrev pub desk_of_state : State → Desk
desk_of_state s = record { stack = s.operands.stack; locals = s.locals.own; state = data_of_state s }

-- how far the unit has come
abbrev pub progress_of_state : State → UnitTold → Progress
progress_of_state s told = record { place = s.place; left = s.left; way = told.way; rows = told.rows; lines = told.lines }

-- the machine that the state is, with what the unit has told
abbrev pub machine_of_state : State → UnitTold → MachineState
machine_of_state s told = record {
  at = s.at;
  desk = desk_of_state s;
  frames = waiting_frames s.operands.below s.locals.below s.frames;
  progress = progress_of_state s told;
}

-- the decimals that the state holds have the scales of their types
abbrev pub IsStateScaled : ProgramParts → State → Type 0
IsStateScaled code s = IsScaled code s.at (desk_of_state s) (waiting_frames s.operands.below s.locals.below s.frames)

-- how the unit ends
abbrev pub end_of_state : Halt → State → UnitTold → CodeEnd
end_of_state halt.Normal s told = EndReached (data_of_state s) (progress_of_state s told)
end_of_state (halt.Faulted fault) s told = Broken fault (progress_of_state s told)
end_of_state halt.Stuck s told = Stuck

-- what an instruction leads to
abbrev pub next_of_state : Option Halt → State → UnitTold → NextState
next_of_state None s told = GoesOn (machine_of_state s told)
next_of_state (Some h) s told = Stops (end_of_state h s told)

-- the way behind an instruction
abbrev pub way_of_next : NextState → List Event
way_of_next (GoesOn m) = m.progress.way
way_of_next (Stops e) = way_of_end e

-- an instruction that writes nothing leads to where the state is, and ends the unit so
abbrev pub IsQuietStep : NextState → UnitTold → State → Option Halt → Type 0
IsQuietStep x told s h = x ≡ next_of_state h s (record { way = way_of_next x; rows = told.rows; lines = told.lines })

-- an instruction leads to where the state is, and ends the unit so; the sink takes what it writes
pub record IsSunkStep {S : Type 0} (has_taken : S → S → List Written → List (List ℕ) → Type 0) (before after : S) (step : UnitTold → NextState) (s : State) (h : Option Halt) : Type 0 where
  pub rows : List Written
  pub lines : List (List ℕ)
  pub taken : SinkTakes has_taken before after rows lines
  pub next : (told : UnitTold) → step told ≡ next_of_state h s (record { way = way_of_next (step told); rows = told.rows ++ rows; lines = told.lines ++ lines })

-- the arguments that were taken off, where there were enough, and what is below them
abbrev pub AreTaken : Bool → Option Taken → Row → Row → Type 0
AreTaken false want arguments below = want ≡ None
AreTaken true want arguments below = want ≡ Some (record { values = arguments; below = below })

-- nothing yet
abbrev pub nothing_told : UnitTold
nothing_told = record { way = []; rows = []; lines = [] }

-- a run has come to this state after so many instructions, and the sink has taken what it wrote
pub record IsUnderWay {S : Type 0} (has_taken : S → S → List Written → List (List ℕ) → Type 0) (before after : S) (code : ProgramParts) (m : MachineState) (n : ℕ) (s : State) : Type 0 where
  pub told : UnitTold
  pub run : run_code code n m ≡ UnderWay (machine_of_state s told)
  pub taken : SinkTakes has_taken before after told.rows told.lines

-- a run has ended so in this state after so many instructions, and the sink has taken what it wrote
pub record HasRunTo {S : Type 0} (has_taken : S → S → List Written → List (List ℕ) → Type 0) (before after : S) (code : ProgramParts) (m : MachineState) (n : ℕ) (h : Halt) (s : State) : Type 0 where
  pub told : UnitTold
  pub run : run_code code n m ≡ Over n (end_of_state h s told)
  pub taken : SinkTakes has_taken before after told.rows told.lines

-- the machine with other operands of the method at work
abbrev pub with_operands : Row → MachineState → MachineState
with_operands stack m = record { at = m.at; desk = with_stack stack m.desk; frames = m.frames; progress = m.progress }
