-- A machine of valid code keeps the scales of decimals.
use Rattle.std.proofs.Common.{◌≡◌, ℕ, zero, suc, ◌+◌, Bool, true, false, ◌&&◌, List, [], ◌∷◌, ◌++◌, map, length, replicate, Option, Some, None, Result, Ok, Err, refl, sym, ap, ◌∙◌, subst, arith, IsTrue, nat_lt}
use Rattle.std.specs.Prelude.{slice_get}
use Rattle.std.specs.List.{list_all, join_with_byte}
use Rattle.ds2_base.specs.declared.place.Place.{Place}
use Rattle.ds2_value.specs.Operations.{is_true}
use Rattle.ds2_value.specs.Progress.{Progress, with_event, with_step, with_written, with_line}
use Rattle.ds2_value.specs.Run.{Did, Tested}
use Rattle.ds2_value.specs.Row.{Row}
use Rattle.ds2_value.specs.declared.fault.Fault.{Fault}
use Rattle.ds2_value.specs.declared.fault.TheConstants.{CALL_DEPTH}
use Rattle.ds2_value.specs.declared.hash_function.HashFunction.{HashFunction}
use Rattle.ds2_value.specs.declared.hash_function.IteratorFunction.{IteratorFunction}
use Rattle.ds2_value.specs.declared.ty.Ty.{Ty}
use Rattle.ds2_value.specs.declared.ty.Ty.TheVariants.{BigInt}
use Rattle.ds2_value.specs.declared.value.Value.{Value}
use Rattle.ds2_value.specs.declared.value.Value.TheVariants.{Null}
use Rattle.ds2_code.specs.declared.instr.Instr.TheVariants as instr
use Rattle.ds2_code.specs.declared.parts.HashPart.{HashPart}
use Rattle.ds2_code.specs.declared.parts.MethodPart.{MethodPart}
use Rattle.ds2_code.specs.declared.parts.OutputPart.{OutputPart}
use Rattle.ds2_code.specs.declared.parts.ProgramParts.{ProgramParts}
use Rattle.ds2_code.specs.declared.parts.Slot.{Slot}
use Rattle.ds2_value.specs.Types.{in_bounds}
use Rattle.ds2_code.specs.CodeBound.{jump_target, falls_through}
use Rattle.ds2_code.specs.CodeRun.{CallFrame, MachineState, EndReached, Broken, Stuck, NextState, GoesOn, Stops, on_desk, on_result, on_step, on_outcome, on_condition, on_arguments, on_method, method_result, on_callee, on_return, on_output, on_texts, column_slots, operand_text, perform, after_instruction}
use Rattle.ds2_code.specs.CodeUnit.{unit_begun}
use Rattle.ds2_code.specs.Desk.{ProgramData, Desk, with_stack, with_state, pushed, Taken, take_off, with_value_for, result_above, with_result_for, StoreTarget, IntoSlot, IntoLocal, IntoParameter, loaded_value, with_stored, top_into, without_top, values_of_slots}
use Rattle.ds2_code.specs.HashCalls.{answer_of_hash, after_hash_call, hash_called, answer_of_iterator, after_iterator_call, iterator_moved, iterator_called}
use Rattle.ds2_code.specs.InstructionTable.{Kind, Pure, Partial, Loads, Stores, Drops, CallsHash, CallsIterator, Writes, Puts, Ticks, Jumps, Tests, Enters, GoesBack, Raises, Finishes, kind_of}
use Rattle.ds2_value.specs.ValueFunctions.{by_scales}
use Rattle.ds2_value.specs.declared.value_function.OperandClass.TheVariants.{AnyDecimal}
use Rattle.ds2_code.specs.OperandTypes.{OperandTypes, TakenTypes, take_classes, one_for, with_type, CodeRole, OfUnit, OfMethod, Signature, signature_of, types_of_parameters, types_of_locals, with_in_out_types, with_result_type, types_behind}
use Rattle.ds2_code.specs.ValidCode.{CodePoint, point, HasOperandTypes, stage_parameters, constant_allowed, values_allowed, IsValidProgram, unit_entries}
use Rattle.ds2_code.specs.Scales.{is_scaled, AreScaled, AreHashesScaled, IsDataScaled, AreCallersScaled, IsScaledAt, is_scale_of_product, UnitsBeginScaled, InstructionsKeepScales, ProductsHaveScales, UnitsEndScaled}
use Rattle.ds2_code.proofs.ScaledLists.{both, some_is, append_scaled, nulls_scaled}
use Rattle.ds2_code.proofs.ScaledResults.{product_has_scale}
use Rattle.ds2_code.proofs.OperandScales.{BothScaled, taken_scaled, in_outs_scaled}
use Rattle.ds2_code.proofs.InstructionScales.{types_of_result, CallScales, ReturnScales, ScalesFor, scales}
use Rattle.ds2_code.proofs.CodePlaces.{KnownAt, known}
use Rattle.ds2_code.proofs.HashScales.{hash_code_scaled, hash_call_scaled, iterator_code_scaled, iterator_call_scaled}

same_signature : (a b : Signature) → OfMethod a ≡ OfMethod b → a ≡ b
same_signature a b h = cc

constants_allowed : (code : ProgramParts) → IsTrue (values_allowed code) → list_all constant_allowed code.constants ≡ true
constants_allowed code h =
    let slots = list_all (λ (s : Slot). in_bounds s.ty) code.slots in
    let constants = list_all constant_allowed code.constants in
    (both slots constants (both (slots && constants) _ h).0).1

-- a result above what is below it
result_scaled : (o : Option Ty) (r stack : Row) (below : OperandTypes) → AreScaled r (types_of_result o) → AreScaled stack below → AreScaled (r ++ stack) (with_result_type o below)
result_scaled None [] stack below h s = s
result_scaled None (v ∷ r) stack below h s = absurd h
result_scaled (Some t) [] stack below h s = absurd h
result_scaled (Some t) (v ∷ []) stack below h s = (h.0, s)
result_scaled (Some t) (v ∷ w ∷ r) stack below h s = absurd h.1

module _ (code : ProgramParts) (stage : Option ProgramParts) (valid : IsValidProgram code stage) where
  abbrev points : List CodePoint
  points = valid.types.0

  abbrev typed : HasOperandTypes code (stage_parameters stage) points
  typed = valid.types.1

  abbrev Scaled : MachineState → Type 0
  Scaled m = IsScaledAt code points m.at m.desk m.frames

  abbrev NextScaled : NextState → Type 0
  NextScaled (GoesOn m) = Scaled m
  NextScaled (Stops (EndReached state p)) = IsDataScaled code state
  NextScaled (Stops (Broken fault p)) = Unit {0}
  NextScaled (Stops Stuck) = Unit {0}

  module _ (m : MachineState) (fine : Scaled m) (at : KnownAt code (stage_parameters stage) code.instrs points m.at fine.place) where
    abbrev role : CodeRole
    role = fine.place.role

    up : suc m.at ≡ m.at + 1
    up = omega arith

    -- on to the next instruction of the frame
    goes_scaled : (desk : Desk) (p : Progress) → falls_through (kind_of at.instr) ≡ true → AreScaled desk.stack at.types → AreScaled desk.locals (types_of_locals role) → IsDataScaled code desk.state
        → Scaled (record { at = m.at + 1; desk = desk; frames = m.frames; progress = p })
    goes_scaled desk p falls s l g = record {
      place = point role at.types;
      here = subst (λ n. slice_get points n ≡ Some (point role at.types)) up (at.next falls);
      operands = s;
      locals = l;
      state = g;
      callers = fine.callers;
    }

    value_scaled : (k : ℕ) (f : Row → Value) (o : Option Taken) → falls_through (kind_of at.instr) ≡ true → ScalesFor code role (Pure k f) fine.place.types at.types → take_off k [] m.desk.stack ≡ o → NextScaled (on_desk (with_value_for f o m.desk) m)
    value_scaled k f None falls c e = tt
    value_scaled k f (Some t) falls c e = goes_scaled (with_stack (f t.values ∷ t.below) m.desk) m.progress falls (c m.desk.stack t fine.operands e) fine.locals fine.state

    outcome_scaled : (r : Result Value Fault) (t : Taken) → falls_through (kind_of at.instr) ≡ true → ((v : Value) → r ≡ Ok v → AreScaled (v ∷ t.below) at.types) → NextScaled (on_result (Some (result_above t.below r m.desk)) m)
    outcome_scaled (Ok v) t falls s = goes_scaled (with_stack (v ∷ t.below) m.desk) (with_event Did m.progress) falls (s v refl) fine.locals fine.state
    outcome_scaled (Err f) t falls s = tt

    partial_scaled : (k : ℕ) (f : Row → Result Value Fault) (o : Option Taken) → falls_through (kind_of at.instr) ≡ true → ScalesFor code role (Partial k f) fine.place.types at.types → take_off k [] m.desk.stack ≡ o
        → NextScaled (on_result (with_result_for f o m.desk) m)
    partial_scaled k f None falls c e = tt
    partial_scaled k f (Some t) falls c e = outcome_scaled (f t.values) t falls (λ v is. c m.desk.stack t v fine.operands e is)

    store_scaled : (d : StoreTarget) (stack : Row) → falls_through (kind_of at.instr) ≡ true → ScalesFor code role (Stores d) fine.place.types at.types → m.desk.stack ≡ stack → NextScaled (on_desk (top_into d stack m.desk) m)
    store_scaled d [] falls c e = tt
    store_scaled d (v ∷ stack) falls c e =
        let k = c v stack (with_stack stack m.desk) (subst (λ (z : Row). AreScaled z fine.place.types) e fine.operands) fine.locals fine.state.slots in
        goes_scaled (with_stored d v (with_stack stack m.desk)) m.progress falls (kept d v stack k.0) k.1 (record { slots = k.2; hashes = same_hashes d v stack })
      where
        kept : (d : StoreTarget) (v : Value) (stack : Row) → AreScaled stack at.types → AreScaled (with_stored d v (with_stack stack m.desk)).stack at.types
        kept (IntoSlot n) v stack h = h
        kept (IntoLocal n) v stack h = h
        kept (IntoParameter n) v stack h = h

        same_hashes : (d : StoreTarget) (v : Value) (stack : Row) → AreHashesScaled code.slots code.hashes (with_stored d v (with_stack stack m.desk)).state.hashes
        same_hashes (IntoSlot n) v stack = fine.state.hashes
        same_hashes (IntoLocal n) v stack = fine.state.hashes
        same_hashes (IntoParameter n) v stack = fine.state.hashes

    drop_scaled : (stack : Row) → falls_through (kind_of at.instr) ≡ true → ScalesFor code role Drops fine.place.types at.types → m.desk.stack ≡ stack → NextScaled (on_desk (without_top stack m.desk) m)
    drop_scaled [] falls c e = tt
    drop_scaled (v ∷ stack) falls c e = goes_scaled (with_stack stack m.desk) m.progress falls (c v stack (subst (λ (z : Row). AreScaled z fine.place.types) e fine.operands)) fine.locals fine.state

    output_scaled : (n : ℕ) (o : Option OutputPart) → falls_through (kind_of at.instr) ≡ true → at.types ≡ fine.place.types → NextScaled (on_output n o m)
    output_scaled n None falls c = tt
    output_scaled n (Some output) falls c = goes_scaled m.desk (with_written n (values_of_slots (column_slots output) m.desk.state.slots) m.progress) falls (subst (λ (z : OperandTypes). AreScaled m.desk.stack z) (sym c) fine.operands) fine.locals fine.state

    texts_scaled : (k : ℕ) (o : Option Taken) → falls_through (kind_of at.instr) ≡ true → ScalesFor code role (Puts k) fine.place.types at.types → take_off k [] m.desk.stack ≡ o → NextScaled (on_texts o m)
    texts_scaled k None falls c e = tt
    texts_scaled k (Some t) falls c e = goes_scaled (with_stack t.below m.desk) (with_line (join_with_byte 32 (map operand_text t.values)) m.progress) falls (c m.desk.stack t fine.operands e) fine.locals fine.state

    step_scaled : (n : ℕ) (p : Place) → falls_through (kind_of at.instr) ≡ true → at.types ≡ fine.place.types → NextScaled (on_step n p m)
    step_scaled zero p falls c = tt
    step_scaled (suc n) p falls c = goes_scaled m.desk (with_step p n m.progress) falls (subst (λ (z : OperandTypes). AreScaled m.desk.stack z) (sym c) fine.operands) fine.locals fine.state

    -- a jump to a target
    jump_scaled : (t : ℕ) (desk : Desk) (p : Progress) → jump_target (kind_of at.instr) ≡ Some t → desk.stack ≡ [] → AreScaled desk.locals (types_of_locals role) → IsDataScaled code desk.state
        → Scaled (record { at = t; desk = desk; frames = m.frames; progress = p })
    jump_scaled t desk p target s l g = record {
      place = point role [];
      here = typed.targets m.at t at.instr fine.place at.here fine.here target;
      operands = subst (λ (z : Row). AreScaled z []) (sym s) tt;
      locals = l;
      state = g;
      callers = fine.callers;
    }

    nothing_left : (s : Row) → s ≡ [] → at.types ≡ [] → AreScaled s at.types
    nothing_left s e a = subst (λ (z : Row). AreScaled z at.types) (sym e) (subst (λ (z : OperandTypes). AreScaled [] z) (sym a) tt)

    tested_scaled : (b c : Bool) (t : ℕ) (s : Row) → falls_through (kind_of at.instr) ≡ true → jump_target (kind_of at.instr) ≡ Some t → s ≡ [] → at.types ≡ [] → NextScaled (on_outcome b c t s m)
    tested_scaled true true t s falls target e a = jump_scaled t (with_stack s m.desk) (with_event (Tested true) m.progress) target e fine.locals fine.state
    tested_scaled true false t s falls target e a = goes_scaled (with_stack s m.desk) (with_event (Tested false) m.progress) falls (nothing_left s e a) fine.locals fine.state
    tested_scaled false true t s falls target e a = goes_scaled (with_stack s m.desk) (with_event (Tested true) m.progress) falls (nothing_left s e a) fine.locals fine.state
    tested_scaled false false t s falls target e a = jump_scaled t (with_stack s m.desk) (with_event (Tested false) m.progress) target e fine.locals fine.state

    condition_scaled : (b : Bool) (t : ℕ) (stack : Row) → falls_through (kind_of at.instr) ≡ true → jump_target (kind_of at.instr) ≡ Some t → ScalesFor code role (Tests b t) fine.place.types at.types → m.desk.stack ≡ stack
        → NextScaled (on_condition b t stack m)
    condition_scaled b t [] falls target c e = tt
    condition_scaled b t (v ∷ stack) falls target c e =
        let k = c v stack (subst (λ (z : Row). AreScaled z fine.place.types) e fine.operands) in tested_scaled b (is_true v) t stack falls target k.0 k.1

    -- a call
    arguments_scaled : (number : ℕ) (k : MethodPart) (o : Option Taken) (below : OperandTypes) (n : ℕ) (b : Bool) → slice_get code.methods number ≡ Some k → falls_through (kind_of at.instr) ≡ true
        → at.types ≡ with_in_out_types k.parameters (with_result_type k.returns below) → ((t : Taken) → o ≡ Some t → AreScaled t.values (types_of_parameters k.parameters) × AreScaled t.below below)
        → NextScaled (on_arguments number k o n b m)
    arguments_scaled number k None below n b is falls a s = tt
    arguments_scaled number k (Some t) below zero b is falls a s = tt
    arguments_scaled number k (Some t) below (suc n) false is falls a s = tt
    arguments_scaled number k (Some t) below (suc n) true is falls a s =
        let both_parts = s t refl in
        record {
          place = point (OfMethod (signature_of k)) [];
          here = typed.methods number k is;
          operands = tt;
          locals = append_scaled t.values (replicate (length k.locals) Null) (types_of_parameters k.parameters) k.locals both_parts.0 (nulls_scaled k.locals);
          state = fine.state;
          callers = (
            k,
            is,
            refl,
            role,
            below,
            subst (λ n. slice_get points n ≡ Some (point role (with_in_out_types k.parameters (with_result_type k.returns below)))) up (at.next falls ∙ ap (λ (z : OperandTypes). Some (point role z)) a),
            both_parts.1,
            fine.locals,
            fine.callers,
          );
        }

    method_scaled : (number : ℕ) → falls_through (kind_of at.instr) ≡ true → CallScales code number fine.place.types at.types → NextScaled (on_method number (slice_get code.methods number) m)
    method_scaled number falls c =
        subst (λ z. NextScaled (on_method number z m)) (sym c.1)
        (arguments_scaled number c.0 (take_off (length c.0.parameters) [] m.desk.stack) c.2 m.progress.left (nat_lt (length m.frames) CALL_DEPTH) c.1 falls c.3 (λ t e. c.4 m.desk.stack t fine.operands e))

    -- a return
    callee_scaled : (r : Row) (f : CallFrame) (fs : List CallFrame) (signature : Signature) → role ≡ OfMethod signature → AreScaled r (types_of_result signature.returns) → AreCallersScaled code points role (f ∷ fs)
        → NextScaled (on_callee r (slice_get code.methods f.callee) f fs m)
    callee_scaled r f fs signature is result k =
        let method = k.0 in
        let same_role : OfMethod signature ≡ OfMethod (signature_of method) = sym is ∙ k.2 in
        let same : signature ≡ signature_of method = same_signature signature (signature_of method) same_role in
        let own : AreScaled r (types_of_result method.returns) = subst (λ (z : Signature). AreScaled r (types_of_result z.returns)) same result in
        let locals : AreScaled m.desk.locals (types_of_parameters method.parameters ++ method.locals) = subst (λ z. AreScaled m.desk.locals (types_of_locals z)) k.2 fine.locals in
        subst (λ z. NextScaled (on_callee r z f fs m)) (sym k.1)
        (record {
          place = point k.3 (with_in_out_types method.parameters (with_result_type method.returns k.4));
          here = k.5;
          operands = in_outs_scaled method.parameters method.locals m.desk.locals (r ++ f.stack) (with_result_type method.returns k.4) locals (result_scaled method.returns r f.stack k.4 own k.6);
          locals = k.7;
          state = fine.state;
          callers = k.8;
        })

    return_scaled : (b : Bool) (o : Option Row) (fs : List CallFrame) → AreCallersScaled code points role fs → ReturnScales role b fine.place.types → method_result b m.desk.stack ≡ o → NextScaled (on_return code o fs m)
    return_scaled b None fs k c e = tt
    return_scaled b (Some r) [] k c e = tt
    return_scaled b (Some r) (f ∷ fs) k c e = callee_scaled r f fs c.0 c.1 (c.2 m.desk.stack r fine.operands e) k

    -- a call of a hash object, or of an iterator
    code_above : (v : Value) → at.types ≡ BigInt ∷ fine.place.types → IsTrue (is_scaled v BigInt) → AreScaled (v ∷ m.desk.stack) at.types
    code_above v c s = subst (λ (z : OperandTypes). AreScaled (v ∷ m.desk.stack) z) (sym c) (s, fine.operands)

    hash_scaled : (f : HashFunction) (h : ℕ) (o : Option HashPart) → falls_through (kind_of at.instr) ≡ true → at.types ≡ BigInt ∷ fine.place.types → slice_get code.hashes h ≡ o → NextScaled (on_desk (hash_called code f h o m.desk) m)
    hash_scaled f h None falls c is = tt
    hash_scaled f h (Some part) falls c is =
        let answer = answer_of_hash f h part m.desk.state in
        goes_scaled (pushed answer.code (with_state (after_hash_call code h part answer m.desk.state) m.desk)) m.progress falls (code_above answer.code c (hash_code_scaled f h part m.desk.state)) fine.locals
        (hash_call_scaled code f h part m.desk.state is fine.state)

    moved_scaled : (f : IteratorFunction) (i h : ℕ) (o : Option HashPart) → falls_through (kind_of at.instr) ≡ true → at.types ≡ BigInt ∷ fine.place.types → slice_get code.hashes h ≡ o → NextScaled (on_desk (iterator_moved f i h o m.desk) m)
    moved_scaled f i h None falls c is = tt
    moved_scaled f i h (Some part) falls c is =
        let answer = answer_of_iterator f i h m.desk.state in
        goes_scaled (pushed answer.code (with_state (after_iterator_call i part answer m.desk.state) m.desk)) m.progress falls (code_above answer.code c (iterator_code_scaled f i h m.desk.state)) fine.locals
        (iterator_call_scaled code f i h part m.desk.state is fine.state)

    iterator_scaled : (f : IteratorFunction) (i : ℕ) (o : Option ℕ) → falls_through (kind_of at.instr) ≡ true → at.types ≡ BigInt ∷ fine.place.types → NextScaled (on_desk (iterator_called code f i o m.desk) m)
    iterator_scaled f i None falls c = tt
    iterator_scaled f i (Some h) falls c = moved_scaled f i h (slice_get code.hashes h) falls c refl

    kind_scaled : (r : Kind) → kind_of at.instr ≡ r → ScalesFor code role r fine.place.types at.types → NextScaled (perform code r m)
    kind_scaled (Pure k f) is c = value_scaled k f (take_off k [] m.desk.stack) (ap falls_through is) c refl
    kind_scaled (Partial k f) is c = partial_scaled k f (take_off k [] m.desk.stack) (ap falls_through is) c refl
    kind_scaled (Loads s) is c = goes_scaled (pushed (loaded_value code.constants s m.desk) m.desk) m.progress (ap falls_through is) (c m.desk fine.operands fine.locals fine.state.slots) fine.locals fine.state
    kind_scaled (Stores d) is c = store_scaled d m.desk.stack (ap falls_through is) c refl
    kind_scaled Drops is c = drop_scaled m.desk.stack (ap falls_through is) c refl
    kind_scaled (CallsHash f h) is c = hash_scaled f h (slice_get code.hashes h) (ap falls_through is) c refl
    kind_scaled (CallsIterator f i) is c = iterator_scaled f i (slice_get code.iterators i) (ap falls_through is) c
    kind_scaled (Writes o) is c = output_scaled o (slice_get code.outputs o) (ap falls_through is) c
    kind_scaled (Puts k) is c = texts_scaled k (take_off k [] m.desk.stack) (ap falls_through is) c refl
    kind_scaled (Ticks p) is c = step_scaled m.progress.left p (ap falls_through is) c
    kind_scaled (Jumps t) is c = jump_scaled t m.desk m.progress (ap jump_target is) (c m.desk.stack fine.operands) fine.locals fine.state
    kind_scaled (Tests b t) is c = condition_scaled b t m.desk.stack (ap falls_through is) (ap jump_target is) c refl
    kind_scaled (Enters k) is c = method_scaled k (ap falls_through is) c
    kind_scaled (GoesBack b) is c = return_scaled b (method_result b m.desk.stack) m.frames fine.callers c refl
    kind_scaled (Raises f) is c = tt
    kind_scaled Finishes is c = fine.state

    instruction_scaled : NextScaled (after_instruction code (slice_get code.instrs m.at) m)
    instruction_scaled =
        subst (λ z. NextScaled (after_instruction code z m)) (sym at.here)
        (kind_scaled (kind_of at.instr) refl (scales code (constants_allowed code valid.values) (stage_parameters stage) role at.instr fine.place.types at.types at.leaves))

  known_at : (m : MachineState) (fine : Scaled m) → KnownAt code (stage_parameters stage) code.instrs points m.at fine.place
  known_at m fine = known code (stage_parameters stage) code.instrs 0 false (point OfUnit []) points typed.along m.at fine.place fine.here

  next_scaled : (m next : MachineState) → Scaled m → after_instruction code (slice_get code.instrs m.at) m ≡ GoesOn next → Scaled next
  next_scaled m next fine e = subst (λ z. NextScaled z) e (instruction_scaled m fine (known_at m fine))

  end_scaled : (m : MachineState) (state : ProgramData) (p : Progress) → Scaled m → after_instruction code (slice_get code.instrs m.at) m ≡ Stops (EndReached state p) → IsDataScaled code state
  end_scaled m state p fine e = subst (λ z. NextScaled z) e (instruction_scaled m fine (known_at m fine))

  begun_scaled : (k entry budget : ℕ) (state : ProgramData) → slice_get (unit_entries code) k ≡ Some entry → IsDataScaled code state → Scaled (unit_begun entry budget state)
  begun_scaled k entry budget state is h = record {
    place = point OfUnit [];
    here = typed.units k entry is;
    operands = tt;
    locals = tt;
    state = h;
    callers = refl;
  }

  product_typed : (o : Option TakenTypes) (t : Taken) (after : OperandTypes) → one_for (by_scales (λ x y. x + y)) o ≡ Some after → ((q : TakenTypes) → o ≡ Some q → BothScaled t q) → IsTrue (is_scale_of_product t.values)
  product_typed None t after h s = absurd cc
  product_typed (Some q) t after h s = of (by_scales (λ x y. x + y) q.taken) refl h
    where
      of : (u : Option Ty) → by_scales (λ x y. x + y) q.taken ≡ u → with_type u q.below ≡ Some after → IsTrue (is_scale_of_product t.values)
      of None e k = absurd cc
      of (Some u) e k = product_has_scale t.values q.taken u ((s q refl).0) e

  product_scaled : (m : MachineState) (t : Taken) → Scaled m → slice_get code.instrs m.at ≡ Some instr.DMul → take_off 2 [] m.desk.stack ≡ Some t → IsTrue (is_scale_of_product t.values)
  product_scaled m t fine here taken =
      let at = known_at m fine in
      let same : at.instr ≡ instr.DMul = some_is at.instr instr.DMul (sym at.here ∙ here) in
      let leaves : types_behind code (stage_parameters stage) fine.place.role instr.DMul fine.place.types ≡ Some at.types = subst (λ i. types_behind code (stage_parameters stage) fine.place.role i fine.place.types ≡ Some at.types) same at.leaves in
      product_typed (take_classes (AnyDecimal ∷ AnyDecimal ∷ []) [] fine.place.types) t at.types leaves (λ q e. taken_scaled (AnyDecimal ∷ AnyDecimal ∷ []) [] fine.place.types q [] m.desk.stack t e tt fine.operands taken)

pub units_begin_scaled : UnitsBeginScaled
units_begin_scaled code stage k entry budget state valid is h =
    record { stage = stage; valid = valid; scaled = begun_scaled code stage valid k entry budget state is h }

pub instructions_keep_scales : InstructionsKeepScales
instructions_keep_scales code m next s e =
    record { stage = s.stage; valid = s.valid; scaled = next_scaled code s.stage s.valid m next s.scaled e }

pub products_have_scales : ProductsHaveScales
products_have_scales code m t s here taken = product_scaled code s.stage s.valid m t s.scaled here taken

pub units_end_scaled : UnitsEndScaled
units_end_scaled code m state p s e = end_scaled code s.stage s.valid m state p s.scaled e
