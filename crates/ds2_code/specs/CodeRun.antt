-- What the machine does: one instruction, and a run that counts its instructions.
use Rattle.std.specs.Prelude.{ℕ, zero, suc, ◌+◌, Bool, true, false, List, [], ◌∷◌, ◌++◌, length, nat_lt, if◌then◌else◌, replicate, slice_get, map, Option, Some, None, Result, Ok, Err}
use Rattle.std.specs.List.{join_with_byte}
use Rattle.ds2_base.specs.declared.place.Place.{Place}
use Rattle.ds2_value.specs.Operations.{line_text, is_true}
use Rattle.ds2_value.specs.Progress.{Progress, with_event, with_failure, with_step, without_step, with_call, without_call, with_place, with_written, with_line}
use Rattle.ds2_value.specs.Row.{Row}
use Rattle.ds2_value.specs.Run.{Did, Tested}
use Rattle.ds2_value.specs.declared.fault.Fault.{Fault}
use Rattle.ds2_value.specs.declared.fault.Fault.TheVariants.{BudgetSpent, DepthReached}
use Rattle.ds2_value.specs.declared.fault.TheConstants.{CALL_DEPTH}
use Rattle.ds2_value.specs.declared.value.Value.{Value}
use Rattle.ds2_value.specs.declared.value.Value.TheVariants.{Null, Txt}
use Rattle.ds2_code.specs.declared.instr.Instr.{Instr}
use Rattle.ds2_code.specs.declared.parts.MethodPart.{MethodPart}
use Rattle.ds2_code.specs.declared.parts.OutputPart.{OutputPart}
use Rattle.ds2_code.specs.declared.parts.ParameterPart.{ParameterPart}
use Rattle.ds2_code.specs.declared.parts.ProgramParts.{ProgramParts}
use Rattle.ds2_code.specs.Desk.{ProgramData, Desk, with_stack, pushed, Taken, take_off, with_value_for, with_result_for, loaded_value, top_into, without_top, values_of_slots}
use Rattle.ds2_code.specs.HashCalls.{hash_called, iterator_called}
use Rattle.ds2_code.specs.InstructionTable.{Kind, Pure, Partial, Loads, Stores, Drops, CallsHash, CallsIterator, Writes, Puts, Ticks, Jumps, Tests, Enters, GoesBack, Raises, Finishes, kind_of}

-- a caller that waits: its operands, locals and place, where it goes on, and the method that it called
pub record CallFrame : Type 0 where
  pub stack : Row
  pub locals : Row
  pub place : Place
  pub to : ℕ
  pub callee : ℕ

-- a machine between two instructions: the number of the next one, what it works on, the callers that wait, the last one first, and
-- how far the unit has come
pub record MachineState : Type 0 where
  pub at : ℕ
  pub desk : Desk
  pub frames : List CallFrame
  pub progress : Progress

-- how a run of code ends: at its end, by a fault, or stuck, where an operand, a caller, the next instruction, or a method, output,
-- hash object or iterator that is named is missing; valid code is never stuck
pub data CodeEnd : Type 0 where
  EndReached : ProgramData → Progress → CodeEnd
  Broken : Fault → Progress → CodeEnd
  Stuck : CodeEnd

-- what one instruction leads to
pub data NextState : Type 0 where
  GoesOn : MachineState → NextState
  Stops : CodeEnd → NextState

-- the run ends by a fault, in the step that is under way
abbrev pub broken_off : Fault → Progress → NextState
broken_off fault p = Stops (Broken fault (with_failure p))

-- on to an instruction of the same frame
abbrev pub goes_to : ℕ → Desk → Progress → MachineState → NextState
goes_to at desk progress m = GoesOn (record { at = at; desk = desk; frames = m.frames; progress = progress })

-- on to the next instruction with another desk, where its operands were there
abbrev pub on_desk : Option Desk → MachineState → NextState
on_desk None m = Stops Stuck
on_desk (Some desk) m = goes_to (m.at + 1) desk m.progress m

-- on to the next instruction where an operation did not fault
abbrev pub on_result : Option (Result Desk Fault) → MachineState → NextState
on_result None m = Stops Stuck
on_result (Some (Err fault)) m = broken_off fault m.progress
on_result (Some (Ok desk)) m = goes_to (m.at + 1) desk (with_event Did m.progress) m

-- a step of the budget sets the place, and finds this much of the budget
abbrev pub on_step : ℕ → Place → MachineState → NextState
on_step zero place m = Stops (Broken BudgetSpent (without_step place m.progress))
on_step (suc left) place m = goes_to (m.at + 1) m.desk (with_step place left m.progress) m

-- where a test that came out so goes: to its target where that was wanted
abbrev pub place_tested : (wanted : Bool) → Bool → ℕ → ℕ → ℕ
place_tested true true target next = target
place_tested true false target next = next
place_tested false true target next = next
place_tested false false target next = target

-- a condition that came out so
abbrev pub on_outcome : Bool → Bool → ℕ → Row → MachineState → NextState
on_outcome wanted holds target stack m =
    goes_to (place_tested wanted holds target (m.at + 1)) (with_stack stack m.desk) (with_event (Tested holds) m.progress) m

-- a test of the topmost operand
abbrev pub on_condition : Bool → ℕ → Row → MachineState → NextState
on_condition wanted target [] m = Stops Stuck
on_condition wanted target (v ∷ stack) m = on_outcome wanted (is_true v) target stack m

-- the caller that waits while this method is under way
abbrev pub waiting_caller : ℕ → Row → MachineState → CallFrame
waiting_caller number below m = record { stack = below; locals = m.desk.locals; place = m.progress.place; to = m.at + 1; callee = number }

-- a method begins: its parameters have the arguments, its locals are null
abbrev pub method_begun : ℕ → MethodPart → Taken → ℕ → MachineState → MachineState
method_begun number method taken left m = record {
  at = method.entry;
  desk = record { stack = []; locals = taken.values ++ replicate (length method.locals) Null; state = m.desk.state };
  frames = waiting_caller number taken.below m ∷ m.frames;
  progress = with_call left m.progress;
}

-- a call that finds these arguments, this much of the budget, and whether one more method may be under way
abbrev pub on_arguments : ℕ → MethodPart → Option Taken → ℕ → Bool → MachineState → NextState
on_arguments number method None left room m = Stops Stuck
on_arguments number method (Some taken) zero room m = broken_off BudgetSpent m.progress
on_arguments number method (Some taken) (suc left) false m = Stops (Broken DepthReached (without_call left m.progress))
on_arguments number method (Some taken) (suc left) true m = GoesOn (method_begun number method taken left m)

-- a call of a method of this number
abbrev pub on_method : ℕ → Option MethodPart → MachineState → NextState
on_method number None m = Stops Stuck
on_method number (Some method) m =
    on_arguments number method (take_off (length method.parameters) [] m.desk.stack) m.progress.left (nat_lt (length m.frames) CALL_DEPTH) m

-- the operands of a caller with the last values of in_out parameters, in order, so that the last one lies on top
abbrev pub with_in_outs : List ParameterPart → Row → Row → Row
with_in_outs [] locals stack = stack
with_in_outs (p ∷ ps) [] stack = stack
with_in_outs (p ∷ ps) (v ∷ locals) stack = with_in_outs ps locals (if p.is_in_out then v ∷ stack else stack)

-- what a method leaves for its caller: its result, where it has one; none where it should and does not
abbrev pub method_result : (has_result : Bool) → Row → Option Row
method_result false stack = Some []
method_result true [] = None
method_result true (v ∷ stack) = Some (v ∷ [])

-- back in the caller: the result above its operands, then each in_out parameter in order; its locals and place again
abbrev pub caller_resumed : Row → List ParameterPart → CallFrame → List CallFrame → MachineState → MachineState
caller_resumed result parameters frame frames m = record {
  at = frame.to;
  desk = record { stack = with_in_outs parameters m.desk.locals (result ++ frame.stack); locals = frame.locals; state = m.desk.state };
  frames = frames;
  progress = with_place frame.place m.progress;
}

-- a return from this method
abbrev pub on_callee : Row → Option MethodPart → CallFrame → List CallFrame → MachineState → NextState
on_callee result None frame frames m = Stops Stuck
on_callee result (Some method) frame frames m = GoesOn (caller_resumed result method.parameters frame frames m)

-- a return to the last caller
abbrev pub on_return : ProgramParts → Option Row → List CallFrame → MachineState → NextState
on_return code None frames m = Stops Stuck
on_return code (Some result) [] m = Stops Stuck
on_return code (Some result) (frame ∷ frames) m = on_callee result (slice_get code.methods frame.callee) frame frames m

-- the slots of an output's columns
abbrev pub column_slots : OutputPart → List ℕ
column_slots output = map (λ (column : List ℕ × ℕ). column.1) output.columns

-- a row of the values of an output's slots
abbrev pub on_output : ℕ → Option OutputPart → MachineState → NextState
on_output number None m = Stops Stuck
on_output number (Some output) m =
    goes_to (m.at + 1) m.desk (with_written number (values_of_slots (column_slots output) m.desk.state.slots) m.progress) m

-- the text of an operand in a line; a null text is the word
abbrev pub operand_text : Value → List ℕ
operand_text (Txt t) = t
operand_text v = line_text v

-- a line of texts, each after a blank but the first
abbrev pub on_texts : Option Taken → MachineState → NextState
on_texts None m = Stops Stuck
on_texts (Some taken) m =
    goes_to (m.at + 1) (with_stack taken.below m.desk) (with_line (join_with_byte 32 (map operand_text taken.values)) m.progress) m

-- what an instruction of each kind does
abbrev pub perform : ProgramParts → Kind → MachineState → NextState
perform code (Pure n f) m = on_desk (with_value_for f (take_off n [] m.desk.stack) m.desk) m
perform code (Partial n f) m = on_result (with_result_for f (take_off n [] m.desk.stack) m.desk) m
perform code (Loads source) m = on_desk (Some (pushed (loaded_value code.constants source m.desk) m.desk)) m
perform code (Stores destination) m = on_desk (top_into destination m.desk.stack m.desk) m
perform code Drops m = on_desk (without_top m.desk.stack m.desk) m
perform code (CallsHash f h) m = on_desk (hash_called code f h (slice_get code.hashes h) m.desk) m
perform code (CallsIterator f i) m = on_desk (iterator_called code f i (slice_get code.iterators i) m.desk) m
perform code (Writes number) m = on_output number (slice_get code.outputs number) m
perform code (Puts n) m = on_texts (take_off n [] m.desk.stack) m
perform code (Ticks place) m = on_step m.progress.left place m
perform code (Jumps target) m = goes_to target m.desk m.progress m
perform code (Tests wanted target) m = on_condition wanted target m.desk.stack m
perform code (Enters number) m = on_method number (slice_get code.methods number) m
perform code (GoesBack has_result) m = on_return code (method_result has_result m.desk.stack) m.frames m
perform code (Raises fault) m = broken_off fault m.progress
perform code Finishes m = Stops (EndReached m.desk.state m.progress)

-- one instruction; the machine is stuck where there is none
abbrev pub after_instruction : ProgramParts → Option Instr → MachineState → NextState
after_instruction code None m = Stops Stuck
after_instruction code (Some i) m = perform code (kind_of i) m

-- how far a run has come: under way, or over after so many instructions
pub data CodeRun : Type 0 where
  UnderWay : MachineState → CodeRun
  Over : (executed : ℕ) → CodeEnd → CodeRun

-- the run of one instruction more
abbrev pub and_one : CodeRun → CodeRun
and_one (UnderWay m) = UnderWay m
and_one (Over n end) = Over (suc n) end

-- goes on behind an instruction
abbrev pub then_run : NextState → (MachineState → CodeRun) → CodeRun
then_run (GoesOn m) go = and_one (go m)
then_run (Stops end) go = Over 1 end

-- a run of at most so many instructions; the one that ends it is counted
abbrev pub run_code : ProgramParts → ℕ → MachineState → CodeRun
run_code code zero m = UnderWay m
run_code code (suc n) m = then_run (after_instruction code (slice_get code.instrs m.at) m) (run_code code n)
