-- What a run executes is paid by the budget that it spends.
use Rattle.std.proofs.Common.{◌≡◌, IsTrue, ℕ, zero, suc, ◌+◌, ◌*◌, ◌≤◌, Bool, true, false, List, [], ◌∷◌, Option, Some, None, Result, Ok, Err, length, refl, sym, subst, arith}
use Rattle.std.specs.Prelude.{nat_lt, slice_get}
use Rattle.ds2_value.specs.Progress.{has_end}
use Rattle.ds2_base.specs.declared.place.Place.{Place}
use Rattle.ds2_value.specs.Operations.{is_true}
use Rattle.ds2_value.specs.Row.{Row}
use Rattle.ds2_value.specs.declared.fault.Fault.{Fault}
use Rattle.ds2_value.specs.declared.fault.TheConstants.{CALL_DEPTH}
use Rattle.ds2_code.specs.declared.instr.Instr.{Instr}
use Rattle.ds2_code.specs.declared.parts.MethodPart.{MethodPart}
use Rattle.ds2_code.specs.declared.parts.OutputPart.{OutputPart}
use Rattle.ds2_code.specs.declared.parts.ProgramParts.{ProgramParts}
use Rattle.ds2_code.specs.Desk.{Desk, Taken, take_off, with_value_for, with_result_for, top_into, without_top}
use Rattle.ds2_code.specs.HashCalls.{hash_called, iterator_called}
use Rattle.ds2_code.specs.InstructionTable.{Kind, Pure, Partial, Loads, Stores, Drops, CallsHash, CallsIterator, Writes, Puts, Ticks, Jumps, Tests, Enters, GoesBack, Raises, Finishes, kind_of}
use Rattle.ds2_code.specs.CodeRun.{CallFrame, MachineState, CodeEnd, EndReached, Broken, Stuck, NextState, GoesOn, Stops, on_desk, on_result, on_step, on_outcome, on_condition, on_arguments, on_method, method_result, on_callee, on_return, on_output, on_texts, perform, after_instruction, CodeRun, UnderWay, Over, then_run, run_code}
use Rattle.ds2_code.specs.CodeBound.{HasBoundedJumps, work_left}
use Rattle.ds2_code.specs.CodeLaws.{IsNotStuck, left_of_end, unit_executed, unit_left, UnitsArePaid}
use Rattle.ds2_code.specs.CodeUnit.{unit_begun, outcome_of_run, most_executed}
use Rattle.ds2_code.proofs.WorkFalls.{more_work, most_work}
use Rattle.ds2_code.proofs.InstructionsFall.{instruction_falls}
use Rattle.ds2_code.proofs.RunsEnd.{one_less}

at_most : {a b c : ℕ} → a ≤ b → b ≤ c → a ≤ c
at_most g h = omega (arith, g, h)

-- an instruction that ends a unit leaves no more of the budget than it found
abbrev LeavesNoMore : ℕ → NextState → Type 0
LeavesNoMore left (GoesOn m) = Unit {0}
LeavesNoMore left (Stops e) = left_of_end e ≤ left

module _ (m : MachineState) where
  same : m.progress.left ≤ m.progress.left
  same = omega arith

  desk_left : (o : Option Desk) → LeavesNoMore m.progress.left (on_desk o m)
  desk_left None = omega arith
  desk_left (Some d) = tt

  result_left : (o : Option (Result Desk Fault)) → LeavesNoMore m.progress.left (on_result o m)
  result_left None = omega arith
  result_left (Some (Err f)) = same
  result_left (Some (Ok d)) = tt

  output_left : (n : ℕ) (o : Option OutputPart) → LeavesNoMore m.progress.left (on_output n o m)
  output_left n None = omega arith
  output_left n (Some o) = tt

  texts_left : (o : Option Taken) → LeavesNoMore m.progress.left (on_texts o m)
  texts_left None = omega arith
  texts_left (Some t) = tt

  step_left : (n : ℕ) (p : Place) → LeavesNoMore m.progress.left (on_step n p m)
  step_left zero p = omega arith
  step_left (suc n) p = tt

  outcome_left : (b c : Bool) (t : ℕ) (s : Row) → LeavesNoMore m.progress.left (on_outcome b c t s m)
  outcome_left b c t s = tt

  condition_left : (b : Bool) (t : ℕ) (s : Row) → LeavesNoMore m.progress.left (on_condition b t s m)
  condition_left b t [] = omega arith
  condition_left b t (v ∷ s) = outcome_left b (is_true v) t s

  arguments_left : (c : ℕ) (k : MethodPart) (o : Option Taken) (n : ℕ) (b : Bool) → n ≡ m.progress.left → LeavesNoMore m.progress.left (on_arguments c k o n b m)
  arguments_left c k None n b e = omega arith
  arguments_left c k (Some t) zero b e = same
  arguments_left c k (Some t) (suc n) false e = omega (arith, e)
  arguments_left c k (Some t) (suc n) true e = tt

  method_left : (c : ℕ) (o : Option MethodPart) → LeavesNoMore m.progress.left (on_method c o m)
  method_left c None = omega arith
  method_left c (Some k) = arguments_left c k (take_off (length k.parameters) [] m.desk.stack) m.progress.left (nat_lt (length m.frames) CALL_DEPTH) refl

  callee_left : (s : Row) (o : Option MethodPart) (f : CallFrame) (fs : List CallFrame) → LeavesNoMore m.progress.left (on_callee s o f fs m)
  callee_left s None f fs = omega arith
  callee_left s (Some k) f fs = tt

  return_left : (code : ProgramParts) (o : Option Row) (fs : List CallFrame) → LeavesNoMore m.progress.left (on_return code o fs m)
  return_left code None fs = omega arith
  return_left code (Some r) [] = omega arith
  return_left code (Some r) (f ∷ fs) = callee_left r (slice_get code.methods f.callee) f fs

  kind_left : (code : ProgramParts) (r : Kind) → LeavesNoMore m.progress.left (perform code r m)
  kind_left code (Pure n f) = desk_left (with_value_for f (take_off n [] m.desk.stack) m.desk)
  kind_left code (Partial n f) = result_left (with_result_for f (take_off n [] m.desk.stack) m.desk)
  kind_left code (Loads s) = tt
  kind_left code (Stores d) = desk_left (top_into d m.desk.stack m.desk)
  kind_left code Drops = desk_left (without_top m.desk.stack m.desk)
  kind_left code (CallsHash f k) = desk_left (hash_called code f k (slice_get code.hashes k) m.desk)
  kind_left code (CallsIterator f k) = desk_left (iterator_called code f k (slice_get code.iterators k) m.desk)
  kind_left code (Writes n) = output_left n (slice_get code.outputs n)
  kind_left code (Puts n) = texts_left (take_off n [] m.desk.stack)
  kind_left code (Ticks p) = step_left m.progress.left p
  kind_left code (Jumps t) = tt
  kind_left code (Tests b t) = condition_left b t m.desk.stack
  kind_left code (Enters k) = method_left k (slice_get code.methods k)
  kind_left code (GoesBack b) = return_left code (method_result b m.desk.stack) m.frames
  kind_left code (Raises f) = same
  kind_left code Finishes = same

module _ (code : ProgramParts) (bounded : HasBoundedJumps code.instrs) where
  abbrev Paid : ℕ → Type 0
  Paid n = (k : ℕ) (m : MachineState) (e : CodeEnd) → run_code code n m ≡ Over k e → IsNotStuck e → k + left_of_end e * length code.instrs ≤ work_left code.instrs m

  after : (n k : ℕ) (m : MachineState) (i : Instr) (x : NextState) (e : CodeEnd) → Paid n → slice_get code.instrs m.at ≡ Some i → perform code (kind_of i) m ≡ x → then_run x (run_code code n) ≡ Over k e → IsNotStuck e → k + left_of_end e * length code.instrs ≤ work_left code.instrs m
  after n k m i (GoesOn u) e ih here is h s =
      let b = one_less (run_code code n u) k e h in
      omega (arith, ih b.0 u e b.1 s, b.2, instruction_falls code m i here bounded u is)
  after n k m i (Stops d) e ih here is h s =
      let least : LeavesNoMore m.progress.left (Stops d) = subst (LeavesNoMore m.progress.left) is (kind_left m code (kind_of i)) in
      let same_end : d ≡ e = cc in
      let one : k ≡ 1 = cc in
      let P : CodeEnd → Type 0 = λ z. left_of_end z ≤ m.progress.left in
      omega (arith, one, more_work code.instrs m.at m.frames m.progress.left (left_of_end e) i here (subst P same_end least))

  next : (n k : ℕ) (m : MachineState) (o : Option Instr) (e : CodeEnd) → Paid n → slice_get code.instrs m.at ≡ o → then_run (after_instruction code o m) (run_code code n) ≡ Over k e → IsNotStuck e → k + left_of_end e * length code.instrs ≤ work_left code.instrs m
  next n k m None e ih here h s = let stuck : Stuck ≡ e = cc in absurd (subst IsNotStuck (sym stuck) s)
  next n k m (Some i) e ih here h s = after n k m i (perform code (kind_of i) m) e ih here refl h s

  paid : (n : ℕ) → Paid n
  paid zero k m e h s = absurd cc
  paid (suc n) k m e h s = next n k m (slice_get code.instrs m.at) e (paid n) refl h s

-- what a unit that has an end executed and left
abbrev PaidRun : ℕ → CodeRun → Type 0
PaidRun length s = (n : ℕ) × (e : CodeEnd) × (s ≡ Over n e) × (IsNotStuck e) × (unit_executed (outcome_of_run s) + unit_left (outcome_of_run s) * length ≡ n + left_of_end e * length)

paid_run : (length : ℕ) (s : CodeRun) → IsTrue (has_end (outcome_of_run s)) → PaidRun length s
paid_run length (Over n (EndReached state p)) h = (n, EndReached state p, refl, tt, refl)
paid_run length (Over n (Broken fault p)) h = (n, Broken fault p, refl, tt, refl)
paid_run length (Over n Stuck) h = absurd cc
paid_run length (UnderWay m) h = absurd cc

pub units_are_paid : UnitsArePaid
units_are_paid code entry budget state bounded h =
    let most = most_executed code budget in
    let begin = unit_begun entry budget state in
    let a = paid_run (length code.instrs) (run_code code most begin) h in
    let all : a.0 + left_of_end a.1 * length code.instrs ≤ most_executed code budget = at_most (paid code bounded most a.0 begin a.1 a.2 a.3) (most_work code.instrs entry budget) in
    subst (λ z. z ≤ most_executed code budget) (sym a.4) all
