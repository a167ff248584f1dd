-- Each instruction leaves less work, by kinds.
use Rattle.std.proofs.Common.{◌≡◌, ℕ, zero, suc, ◌+◌, ◌<◌, Bool, true, false, inl, List, [], ◌∷◌, Option, Some, None, Result, Ok, Err, refl, sym, ap, ◌∙◌, subst, arith}
use Rattle.std.specs.Prelude.{length, nat_lt, slice_get}
use Rattle.ds2_base.specs.declared.place.Place.{Place}
use Rattle.ds2_value.specs.Operations.{is_true}
use Rattle.ds2_value.specs.Row.{Row}
use Rattle.ds2_value.specs.declared.fault.Fault.{Fault}
use Rattle.ds2_value.specs.declared.fault.TheConstants.{CALL_DEPTH}
use Rattle.ds2_code.specs.declared.instr.Instr.{Instr}
use Rattle.ds2_code.specs.declared.parts.MethodPart.{MethodPart}
use Rattle.ds2_code.specs.declared.parts.OutputPart.{OutputPart}
use Rattle.ds2_code.specs.declared.parts.ProgramParts.{ProgramParts}
use Rattle.ds2_code.specs.Desk.{Desk, pushed, Taken, take_off, with_value_for, with_result_for, loaded_value, top_into, without_top}
use Rattle.ds2_code.specs.HashCalls.{hash_called, iterator_called}
use Rattle.ds2_code.specs.InstructionTable.{Kind, Pure, Partial, Loads, Stores, Drops, CallsHash, CallsIterator, Writes, Puts, Ticks, Jumps, Tests, Enters, GoesBack, Raises, Finishes, kind_of}
use Rattle.ds2_code.specs.CodeBound.{begins_step, jump_target, IsBoundedJump, HasBoundedJumps, work_ahead, work_left}
use Rattle.ds2_code.specs.CodeRun.{CallFrame, MachineState, GoesOn, on_desk, on_result, on_step, on_outcome, on_condition, waiting_caller, on_arguments, on_method, method_result, on_callee, on_return, on_output, on_texts, perform}
use Rattle.ds2_code.proofs.WorkFalls.{stays, begins, enters, leaves}

goes_is : (m u : MachineState) → GoesOn m ≡ GoesOn u → m ≡ u
goes_is m u h = cc

-- an instruction of a machine, which is of this kind
module _ (code : ProgramParts) (m : MachineState) (i : Instr) (here : slice_get code.instrs m.at ≡ Some i) where
  abbrev Falls : MachineState → Type 0
  Falls u = work_left code.instrs u < work_left code.instrs m

  moved : (v u : MachineState) → GoesOn v ≡ GoesOn u → Falls v → Falls u
  moved v u h f = subst Falls (goes_is v u h) f

  next_up : IsBoundedJump code.instrs m.at (m.at + 1)
  next_up = inl (omega arith)

  module _ (r : Kind) (is : kind_of i ≡ r) where
    no_step : begins_step r ≡ false → begins_step (kind_of i) ≡ false
    no_step e = ap begins_step is ∙ e

    -- in the same frame, with the same budget
    goes_falls : (v u : MachineState) → begins_step r ≡ false → IsBoundedJump code.instrs m.at v.at → v.frames ≡ m.frames → v.progress.left ≡ m.progress.left → GoesOn v ≡ GoesOn u → Falls u
    goes_falls v u e k frames left h =
        moved v u h
        (let P : List CallFrame → ℕ → Type 0 = λ fs n. work_ahead code.instrs v.at fs n < work_left code.instrs m in
        subst (λ fs. P fs v.progress.left) (sym frames) (subst (λ n. P m.frames n) (sym left) (stays code.instrs m.at v.at m.frames m.progress.left i here (no_step e) k)))

    desk_falls : (o : Option Desk) (u : MachineState) → begins_step r ≡ false → on_desk o m ≡ GoesOn u → Falls u
    desk_falls None u e h = absurd cc
    desk_falls (Some d) u e h = goes_falls _ u e next_up refl refl h

    result_falls : (o : Option (Result Desk Fault)) (u : MachineState) → begins_step r ≡ false → on_result o m ≡ GoesOn u → Falls u
    result_falls None u e h = absurd cc
    result_falls (Some (Err f)) u e h = absurd cc
    result_falls (Some (Ok d)) u e h = goes_falls _ u e next_up refl refl h

    output_falls : (n : ℕ) (o : Option OutputPart) (u : MachineState) → begins_step r ≡ false → on_output n o m ≡ GoesOn u → Falls u
    output_falls n None u e h = absurd cc
    output_falls n (Some o) u e h = goes_falls _ u e next_up refl refl h

    texts_falls : (o : Option Taken) (u : MachineState) → begins_step r ≡ false → on_texts o m ≡ GoesOn u → Falls u
    texts_falls None u e h = absurd cc
    texts_falls (Some t) u e h = goes_falls _ u e next_up refl refl h

    step_falls : (n : ℕ) (p : Place) (u : MachineState) → begins_step r ≡ true → n ≡ m.progress.left → on_step n p m ≡ GoesOn u → Falls u
    step_falls zero p u e left h = absurd cc
    step_falls (suc n) p u e left h =
        moved _ u h
        (let P : ℕ → Type 0 = λ k. work_ahead code.instrs (m.at + 1) m.frames n < work_ahead code.instrs m.at m.frames k in
        subst P left (begins code.instrs m.at m.frames n i here (ap begins_step is ∙ e)))

    outcome_falls : (b c : Bool) (t : ℕ) (s : Row) (u : MachineState) → begins_step r ≡ false → IsBoundedJump code.instrs m.at t → on_outcome b c t s m ≡ GoesOn u → Falls u
    outcome_falls true true t s u e k h = goes_falls _ u e k refl refl h
    outcome_falls true false t s u e k h = goes_falls _ u e next_up refl refl h
    outcome_falls false true t s u e k h = goes_falls _ u e next_up refl refl h
    outcome_falls false false t s u e k h = goes_falls _ u e k refl refl h

    condition_falls : (b : Bool) (t : ℕ) (s : Row) (u : MachineState) → begins_step r ≡ false → IsBoundedJump code.instrs m.at t → on_condition b t s m ≡ GoesOn u → Falls u
    condition_falls b t [] u e k h = absurd cc
    condition_falls b t (v ∷ s) u e k h = outcome_falls b (is_true v) t s u e k h

    arguments_falls : (number : ℕ) (k : MethodPart) (o : Option Taken) (n : ℕ) (b : Bool) (u : MachineState) → begins_step r ≡ false → n ≡ m.progress.left → on_arguments number k o n b m ≡ GoesOn u → Falls u
    arguments_falls number k None n b u e left h = absurd cc
    arguments_falls number k (Some t) zero b u e left h = absurd cc
    arguments_falls number k (Some t) (suc n) false u e left h = absurd cc
    arguments_falls number k (Some t) (suc n) true u e left h =
        moved _ u h
        (let f : CallFrame = waiting_caller number t.below m in
        let P : ℕ → Type 0 = λ j. work_ahead code.instrs k.entry (f ∷ m.frames) n < work_ahead code.instrs m.at m.frames j in
        subst P left (enters code.instrs m.at k.entry f m.frames n i here (no_step e) refl))

    method_falls : (number : ℕ) (o : Option MethodPart) (u : MachineState) → begins_step r ≡ false → on_method number o m ≡ GoesOn u → Falls u
    method_falls number None u e h = absurd cc
    method_falls number (Some k) u e h =
        arguments_falls number k (take_off (length k.parameters) [] m.desk.stack) m.progress.left (nat_lt (length m.frames) CALL_DEPTH) u e refl h

    callee_falls : (result : Row) (o : Option MethodPart) (f : CallFrame) (fs : List CallFrame) (u : MachineState) → f ∷ fs ≡ m.frames → on_callee result o f fs m ≡ GoesOn u → Falls u
    callee_falls result None f fs u same h = absurd cc
    callee_falls result (Some k) f fs u same h =
        moved _ u h
        (let P : List CallFrame → Type 0 = λ gs. work_ahead code.instrs f.to fs m.progress.left < work_ahead code.instrs m.at gs m.progress.left in
        subst P same (leaves code.instrs m.at f fs m.progress.left i here))

    return_falls : (o : Option Row) (fs : List CallFrame) (u : MachineState) → fs ≡ m.frames → on_return code o fs m ≡ GoesOn u → Falls u
    return_falls None fs u same h = absurd cc
    return_falls (Some s) [] u same h = absurd cc
    return_falls (Some s) (f ∷ fs) u same h = callee_falls s (slice_get code.methods f.callee) f fs u same h

  jumps_back : HasBoundedJumps code.instrs → (r : Kind) (t : ℕ) → kind_of i ≡ r → jump_target r ≡ Some t → IsBoundedJump code.instrs m.at t
  jumps_back bounded r t is e = bounded m.at t i here (ap jump_target is ∙ e)

  kind_falls : HasBoundedJumps code.instrs → (r : Kind) (u : MachineState) → kind_of i ≡ r → perform code r m ≡ GoesOn u → Falls u
  kind_falls bounded (Pure n f) u is h = desk_falls (Pure n f) is (with_value_for f (take_off n [] m.desk.stack) m.desk) u refl h
  kind_falls bounded (Partial n f) u is h = result_falls (Partial n f) is (with_result_for f (take_off n [] m.desk.stack) m.desk) u refl h
  kind_falls bounded (Loads s) u is h = desk_falls (Loads s) is (Some (pushed (loaded_value code.constants s m.desk) m.desk)) u refl h
  kind_falls bounded (Stores d) u is h = desk_falls (Stores d) is (top_into d m.desk.stack m.desk) u refl h
  kind_falls bounded Drops u is h = desk_falls Drops is (without_top m.desk.stack m.desk) u refl h
  kind_falls bounded (CallsHash f k) u is h = desk_falls (CallsHash f k) is (hash_called code f k (slice_get code.hashes k) m.desk) u refl h
  kind_falls bounded (CallsIterator f k) u is h = desk_falls (CallsIterator f k) is (iterator_called code f k (slice_get code.iterators k) m.desk) u refl h
  kind_falls bounded (Writes n) u is h = output_falls (Writes n) is n (slice_get code.outputs n) u refl h
  kind_falls bounded (Puts n) u is h = texts_falls (Puts n) is (take_off n [] m.desk.stack) u refl h
  kind_falls bounded (Ticks p) u is h = step_falls (Ticks p) is m.progress.left p u refl refl h
  kind_falls bounded (Jumps t) u is h = goes_falls (Jumps t) is _ u refl (jumps_back bounded (Jumps t) t is refl) refl refl h
  kind_falls bounded (Tests b t) u is h = condition_falls (Tests b t) is b t m.desk.stack u refl (jumps_back bounded (Tests b t) t is refl) h
  kind_falls bounded (Enters k) u is h = method_falls (Enters k) is k (slice_get code.methods k) u refl h
  kind_falls bounded (GoesBack b) u is h = return_falls (GoesBack b) is (method_result b m.desk.stack) m.frames u refl h
  kind_falls bounded (Raises f) u is h = absurd cc
  kind_falls bounded Finishes u is h = absurd cc

  pub instruction_falls : HasBoundedJumps code.instrs → (u : MachineState) → perform code (kind_of i) m ≡ GoesOn u → Falls u
  instruction_falls bounded u h = kind_falls bounded (kind_of i) u refl h
