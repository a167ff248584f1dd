-- A run of code whose jumps and entries lie in the list does not leave it, so it is over.
use Rattle.std.proofs.Common.{◌≡◌, ℕ, zero, suc, ◌+◌, ◌<◌, ◌≤◌, Bool, true, false, List, [], ◌∷◌, Option, Some, None, Result, Ok, Err, refl, ap, ◌∙◌, arith}
use Rattle.std.specs.Prelude.{length, nat_lt, slice_get}
use Rattle.ds2_base.specs.declared.place.Place.{Place}
use Rattle.ds2_value.specs.Operations.{is_true}
use Rattle.ds2_value.specs.Row.{Row}
use Rattle.ds2_value.specs.declared.fault.Fault.{Fault}
use Rattle.ds2_value.specs.declared.fault.TheConstants.{CALL_DEPTH}
use Rattle.ds2_code.specs.declared.instr.Instr.{Instr}
use Rattle.ds2_code.specs.declared.parts.MethodPart.{MethodPart}
use Rattle.ds2_code.specs.declared.parts.OutputPart.{OutputPart}
use Rattle.ds2_code.specs.declared.parts.ProgramParts.{ProgramParts}
use Rattle.ds2_code.specs.Desk.{Desk, pushed, Taken, take_off, with_value_for, with_result_for, loaded_value, top_into, without_top}
use Rattle.ds2_code.specs.HashCalls.{hash_called, iterator_called}
use Rattle.ds2_code.specs.InstructionTable.{Kind, Pure, Partial, Loads, Stores, Drops, CallsHash, CallsIterator, Writes, Puts, Ticks, Jumps, Tests, Enters, GoesBack, Raises, Finishes, kind_of}
use Rattle.ds2_code.specs.CodeRun.{CallFrame, MachineState, CodeEnd, NextState, GoesOn, Stops, on_desk, on_result, on_step, on_outcome, on_condition, on_arguments, on_method, method_result, on_callee, on_return, on_output, on_texts, perform, after_instruction, CodeRun, UnderWay, Over, and_one, then_run, run_code}
use Rattle.ds2_code.specs.CodeBound.{jump_target, falls_through, StaysInList}
use Rattle.ds2_code.specs.CodeLaws.{HasComeToAnEnd, UnitsHaveTheirEnd}
use Rattle.ds2_code.specs.CodeUnit.{unit_begun, most_executed}
use Rattle.ds2_code.proofs.RunsEnd.{units_end_in_time, one_end}

-- there is an instruction where each waiting caller goes on
abbrev FramesInside : List Instr → List CallFrame → Type 0
FramesInside instrs [] = Unit {0}
FramesInside instrs (f ∷ fs) = (f.to < length instrs) × FramesInside instrs fs

record Inside (instrs : List Instr) (m : MachineState) : Type 0 where
  here : m.at < length instrs
  callers : FramesInside instrs m.frames

-- what an instruction leads to is inside
abbrev NextInside : List Instr → NextState → Type 0
NextInside instrs (GoesOn m) = Inside instrs m
NextInside instrs (Stops e) = Unit {0}

abbrev StateInside : List Instr → CodeRun → Type 0
StateInside instrs (UnderWay m) = Inside instrs m
StateInside instrs (Over n e) = Unit {0}

module _ (code : ProgramParts) (closed : StaysInList code) (m : MachineState) (inside : FramesInside code.instrs m.frames) where
  abbrev Leads : NextState → Type 0
  Leads x = NextInside code.instrs x

  abbrev HasNext : Type 0
  HasNext = m.at + 1 < length code.instrs

  desk_inside : (o : Option Desk) → HasNext → Leads (on_desk o m)
  desk_inside None h = tt
  desk_inside (Some d) h = record { here = h; callers = inside }

  result_inside : (o : Option (Result Desk Fault)) → HasNext → Leads (on_result o m)
  result_inside None h = tt
  result_inside (Some (Err f)) h = tt
  result_inside (Some (Ok d)) h = record { here = h; callers = inside }

  output_inside : (n : ℕ) (o : Option OutputPart) → HasNext → Leads (on_output n o m)
  output_inside n None h = tt
  output_inside n (Some o) h = record { here = h; callers = inside }

  texts_inside : (o : Option Taken) → HasNext → Leads (on_texts o m)
  texts_inside None h = tt
  texts_inside (Some t) h = record { here = h; callers = inside }

  step_inside : (n : ℕ) (p : Place) → HasNext → Leads (on_step n p m)
  step_inside zero p h = tt
  step_inside (suc n) p h = record { here = h; callers = inside }

  outcome_inside : (b c : Bool) (t : ℕ) (s : Row) → HasNext → t < length code.instrs → Leads (on_outcome b c t s m)
  outcome_inside true true t s h k = record { here = k; callers = inside }
  outcome_inside true false t s h k = record { here = h; callers = inside }
  outcome_inside false true t s h k = record { here = h; callers = inside }
  outcome_inside false false t s h k = record { here = k; callers = inside }

  condition_inside : (b : Bool) (t : ℕ) (s : Row) → HasNext → t < length code.instrs → Leads (on_condition b t s m)
  condition_inside b t [] h k = tt
  condition_inside b t (v ∷ s) h k = outcome_inside b (is_true v) t s h k

  arguments_inside : (number : ℕ) (k : MethodPart) (o : Option Taken) (n : ℕ) (b : Bool) → HasNext → k.entry < length code.instrs → Leads (on_arguments number k o n b m)
  arguments_inside number k None n b h e = tt
  arguments_inside number k (Some t) zero b h e = tt
  arguments_inside number k (Some t) (suc n) false h e = tt
  arguments_inside number k (Some t) (suc n) true h e = record { here = e; callers = (h, inside) }

  method_inside : (n : ℕ) (o : Option MethodPart) → slice_get code.methods n ≡ o → HasNext → Leads (on_method n o m)
  method_inside n None is h = tt
  method_inside n (Some k) is h = arguments_inside n k (take_off (length k.parameters) [] m.desk.stack) m.progress.left (nat_lt (length m.frames) CALL_DEPTH) h (closed.entries n k is)

  callee_inside : (s : Row) (o : Option MethodPart) (f : CallFrame) (fs : List CallFrame) → FramesInside code.instrs (f ∷ fs) → Leads (on_callee s o f fs m)
  callee_inside s None f fs h = tt
  callee_inside s (Some k) f fs h = record { here = h.0; callers = h.1 }

  return_inside : (o : Option Row) (fs : List CallFrame) → FramesInside code.instrs fs → Leads (on_return code o fs m)
  return_inside None fs h = tt
  return_inside (Some s) [] h = tt
  return_inside (Some s) (f ∷ fs) h = callee_inside s (slice_get code.methods f.callee) f fs h

  module _ (i : Instr) (here : slice_get code.instrs m.at ≡ Some i) where
    on : (r : Kind) → kind_of i ≡ r → falls_through r ≡ true → HasNext
    on r is e = closed.nexts m.at i here (ap falls_through is ∙ e)

    to : (r : Kind) (t : ℕ) → kind_of i ≡ r → jump_target r ≡ Some t → t < length code.instrs
    to r t is e = closed.targets m.at t i here (ap jump_target is ∙ e)

    kind_inside : (r : Kind) → kind_of i ≡ r → Leads (perform code r m)
    kind_inside (Pure n f) is = desk_inside (with_value_for f (take_off n [] m.desk.stack) m.desk) (on (Pure n f) is refl)
    kind_inside (Partial n f) is = result_inside (with_result_for f (take_off n [] m.desk.stack) m.desk) (on (Partial n f) is refl)
    kind_inside (Loads s) is = desk_inside (Some (pushed (loaded_value code.constants s m.desk) m.desk)) (on (Loads s) is refl)
    kind_inside (Stores d) is = desk_inside (top_into d m.desk.stack m.desk) (on (Stores d) is refl)
    kind_inside Drops is = desk_inside (without_top m.desk.stack m.desk) (on Drops is refl)
    kind_inside (CallsHash f k) is = desk_inside (hash_called code f k (slice_get code.hashes k) m.desk) (on (CallsHash f k) is refl)
    kind_inside (CallsIterator f k) is = desk_inside (iterator_called code f k (slice_get code.iterators k) m.desk) (on (CallsIterator f k) is refl)
    kind_inside (Writes n) is = output_inside n (slice_get code.outputs n) (on (Writes n) is refl)
    kind_inside (Puts n) is = texts_inside (take_off n [] m.desk.stack) (on (Puts n) is refl)
    kind_inside (Ticks p) is = step_inside m.progress.left p (on (Ticks p) is refl)
    kind_inside (Jumps t) is = record { here = to (Jumps t) t is refl; callers = inside }
    kind_inside (Tests b t) is = condition_inside b t m.desk.stack (on (Tests b t) is refl) (to (Tests b t) t is refl)
    kind_inside (Enters k) is = method_inside k (slice_get code.methods k) refl (on (Enters k) is refl)
    kind_inside (GoesBack b) is = return_inside (method_result b m.desk.stack) m.frames inside
    kind_inside (Raises f) is = tt
    kind_inside Finishes is = tt

  instruction_inside : (o : Option Instr) → slice_get code.instrs m.at ≡ o → Leads (after_instruction code o m)
  instruction_inside None here = tt
  instruction_inside (Some i) here = kind_inside i here (kind_of i) refl

module _ (code : ProgramParts) (closed : StaysInList code) where
  inside_more : (s : CodeRun) → StateInside code.instrs s → StateInside code.instrs (and_one s)
  inside_more (UnderWay m) h = h
  inside_more (Over n e) h = tt

  after_inside : (n : ℕ) (x : NextState) → ((m : MachineState) → Inside code.instrs m → StateInside code.instrs (run_code code n m)) → NextInside code.instrs x → StateInside code.instrs (then_run x (run_code code n))
  after_inside n (GoesOn m) ih h = inside_more (run_code code n m) (ih m h)
  after_inside n (Stops e) ih h = tt

  run_inside : (n : ℕ) (m : MachineState) → Inside code.instrs m → StateInside code.instrs (run_code code n m)
  run_inside zero m h = h
  run_inside (suc n) m h =
      after_inside n (after_instruction code (slice_get code.instrs m.at) m) (run_inside n) (instruction_inside code closed m h.callers (slice_get code.instrs m.at) refl)

some_there : (instrs : List Instr) (at : ℕ) → at < length instrs → slice_get instrs at ≡ None → ⊥
some_there [] at h e = omega (arith, h)
some_there (i ∷ instrs) zero h e = cc
some_there (i ∷ instrs) (suc at) h e = some_there instrs at (omega (arith, h)) e

-- a run that is over within so many instructions
abbrev IsOver : ℕ → CodeRun → Type 0
IsOver most s = (n : ℕ) × (e : CodeEnd) × (s ≡ Over n e) × (n ≤ most)

over : (code : ProgramParts) (most : ℕ) (s : CodeRun) → HasComeToAnEnd code most s → StateInside code.instrs s → IsOver most s
over code most (UnderWay m) h k = absurd (some_there code.instrs m.at k.here h)
over code most (Over n e) h k = (n, e, refl, h)

pub units_have_their_end : UnitsHaveTheirEnd
units_have_their_end code entry budget state bounded closed here =
    let begin = unit_begun entry budget state in
    let most = most_executed code budget in
    let ends = over code most (run_code code most begin) (units_end_in_time code entry budget state bounded)
    (run_inside code closed most begin (record { here = here; callers = tt })) in
    record {
      executed = ends.0;
      end = ends.1;
      run = ends.2;
      bound = ends.3;
      alone = λ n k e h. one_end code n most k ends.0 begin e ends.1 h ends.2;
    }
