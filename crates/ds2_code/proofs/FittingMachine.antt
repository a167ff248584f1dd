-- A machine of valid code keeps values of their types.
use Rattle.std.proofs.Common.{◌≡◌, ℕ, zero, suc, ◌+◌, ◌<◌, ◌≤◌, Bool, true, false, ◌&&◌, List, [], ◌∷◌, ◌++◌, map, length, replicate, Option, Some, None, Result, Ok, Err, refl, sym, ap, ◌∙◌, subst, arith, IsTrue, nat_lt}
use Rattle.std.specs.Prelude.{slice_get}
use Rattle.std.specs.Option.{option_map_or}
use Rattle.std.specs.List.{list_all, join_with_byte}
use Rattle.ds2_base.specs.declared.place.Place.{Place}
use Rattle.ds2_value.specs.Keeping.{AssignedFits, FittingIsHeld}
use Rattle.ds2_value.specs.Operations.{is_true}
use Rattle.ds2_value.specs.Progress.{Progress, with_event, with_step, with_written, with_line}
use Rattle.ds2_value.specs.Run.{Did, Tested, Written}
use Rattle.ds2_value.specs.Row.{Row}
use Rattle.ds2_value.specs.Types.{in_bounds, fits}
use Rattle.ds2_value.specs.declared.fault.Fault.{Fault}
use Rattle.ds2_value.specs.declared.fault.TheConstants.{CALL_DEPTH}
use Rattle.ds2_value.specs.declared.hash_function.HashFunction.{HashFunction}
use Rattle.ds2_value.specs.declared.hash_function.IteratorFunction.{IteratorFunction}
use Rattle.ds2_value.specs.declared.ty.Ty.{Ty}
use Rattle.ds2_value.specs.declared.ty.Ty.TheVariants.{BigInt}
use Rattle.ds2_value.specs.declared.value.Value.{Value}
use Rattle.ds2_value.specs.declared.value.Value.TheVariants.{Null}
use Rattle.ds2_code.specs.declared.parts.HashPart.{HashPart}
use Rattle.ds2_code.specs.declared.parts.HashTable.{HashTable}
use Rattle.ds2_code.specs.declared.parts.MethodPart.{MethodPart}
use Rattle.ds2_code.specs.declared.parts.OutputPart.{OutputPart}
use Rattle.ds2_code.specs.declared.parts.ParameterPart.{ParameterPart}
use Rattle.ds2_code.specs.declared.parts.ProgramParts.{ProgramParts}
use Rattle.ds2_code.specs.declared.parts.Slot.{Slot}
use Rattle.ds2_code.specs.CodeBound.{jump_target, falls_through, work_left}
use Rattle.ds2_code.specs.CodeLaws.{InstructionsLeaveLess, UnitsBeginWithLittle}
use Rattle.ds2_code.specs.CodeRun.{CallFrame, MachineState, EndReached, Broken, Stuck, NextState, GoesOn, Stops, on_desk, on_result, on_step, on_outcome, on_condition, on_arguments, on_method, method_result, on_callee, on_return, on_output, on_texts, column_slots, operand_text, perform, after_instruction}
use Rattle.ds2_code.specs.CodeUnit.{unit_begun, most_executed}
use Rattle.ds2_code.specs.Desk.{ProgramData, Desk, with_stack, with_state, pushed, Taken, take_off, with_value_for, result_above, with_result_for, StoreTarget, IntoSlot, IntoLocal, IntoParameter, loaded_value, with_stored, top_into, without_top, values_of_slots}
use Rattle.ds2_code.specs.HashCalls.{hash_called, iterator_moved, iterator_called, answer_of_hash, after_hash_call, answer_of_iterator, after_iterator_call}
use Rattle.ds2_code.specs.InstructionTable.{Kind, Pure, Partial, Loads, Stores, Drops, CallsHash, CallsIterator, Writes, Puts, Ticks, Jumps, Tests, Enters, GoesBack, Raises, Finishes, kind_of}
use Rattle.ds2_code.specs.OperandTypes.{OperandTypes, CodeRole, OfUnit, OfMethod, Signature, signature_of, types_of_parameters, types_of_locals, with_in_out_types, with_result_type}
use Rattle.ds2_token.specs.Words.{is_table_name}
use Rattle.ds2_code.specs.ValidCode.{CodePoint, point, HasOperandTypes, stage_parameters, constant_allowed, method_allowed, reference_allowed, reading_allowed, values_allowed, IsValidProgram, unit_entries}
use Rattle.ds2_code.specs.Fitting.{AreOfTypes, AreHashesOfSlots, IsDataOfCode, IsRowOfOutput, AreRowsOfOutputs, AreCallersOfTypes, IsFittingAt, UnitsBeginFitting, InstructionsKeepTypes, UnitsEndFitting, FaultsLeaveRows}
use Rattle.ds2_code.proofs.FittingLists.{both, of_type, append_of_types, nulls_of_types, values_for_slots}
use Rattle.ds2_code.proofs.FittingOperands.{in_outs_fit}
use Rattle.ds2_code.proofs.FittingHashes.{less_rooms, hash_call_fits, iterator_call_fits}
use Rattle.ds2_code.proofs.FittingInstructions.{types_of_result, CallFits, ReturnFits, FitsFor, types_kept}
use Rattle.ds2_code.proofs.FittingPlaces.{KnownAt, known}

same_signature : (a b : Signature) → OfMethod a ≡ OfMethod b → a ≡ b
same_signature a b h = cc

-- ---- what valid code has

constants_allowed : (code : ProgramParts) → IsTrue (values_allowed code) → list_all constant_allowed code.constants ≡ true
constants_allowed code h =
    let slots = list_all (λ (s : Slot). in_bounds s.ty) code.slots in
    let constants = list_all constant_allowed code.constants in
    (both slots constants (both (slots && constants) _ h).0).1

methods_allowed : (code : ProgramParts) → IsTrue (values_allowed code) → list_all method_allowed code.methods ≡ true
methods_allowed code h =
    let first = list_all (λ (s : Slot). in_bounds s.ty) code.slots && list_all constant_allowed code.constants in
    let hashes = list_all (λ (h : HashPart). option_map_or (λ (t : HashTable). reference_allowed t.table) h.loaded true) code.hashes in
    let methods = list_all method_allowed code.methods in
    let last = reading_allowed code.reading && list_all (λ (o : OutputPart). is_table_name o.name) code.outputs in
    (both hashes methods (both (hashes && methods) last (both first ((hashes && methods) && last) h).1).0).1

locals_bounds : (ms : List MethodPart) (k : ℕ) (m : MethodPart) → list_all method_allowed ms ≡ true → slice_get ms k ≡ Some m → list_all in_bounds m.locals ≡ true
locals_bounds [] k m h e = absurd cc
locals_bounds (x ∷ ms) zero m h e =
    let w : x ≡ m = cc in
    let parameters = list_all (λ (p : ParameterPart). in_bounds p.ty) x.parameters in
    let all = both (method_allowed x) (list_all method_allowed ms) h in
    subst (λ (z : MethodPart). list_all in_bounds z.locals ≡ true) w ((both parameters (list_all in_bounds x.locals) (both (parameters && list_all in_bounds x.locals) (option_map_or in_bounds x.returns true) all.0).0).1)
locals_bounds (x ∷ ms) (suc k) m h e = locals_bounds ms k m ((both (method_allowed x) (list_all method_allowed ms) h).1) e

-- a result above what is below it
result_of_types : (o : Option Ty) (r stack : Row) (below : OperandTypes) → AreOfTypes r (types_of_result o) → AreOfTypes stack below → AreOfTypes (r ++ stack) (with_result_type o below)
result_of_types None [] stack below h s = s
result_of_types None (v ∷ r) stack below h s = absurd h
result_of_types (Some t) [] stack below h s = absurd h
result_of_types (Some t) (v ∷ []) stack below h s = (h.0, s)
result_of_types (Some t) (v ∷ w ∷ r) stack below h s = absurd h.1

-- one more row
rows_more : (code : ProgramParts) (ws : List Written) (w : Written) → AreRowsOfOutputs code ws → IsRowOfOutput code w → AreRowsOfOutputs code (ws ++ w ∷ [])
rows_more code [] w h r = (r, tt)
rows_more code (x ∷ ws) w h r = (h.0, rows_more code ws w h.1 r)

-- with less room
less_data : (code : ProgramParts) (stage : Option ProgramParts) (room less : ℕ) (state : ProgramData) → less ≤ room → IsDataOfCode code stage room state → IsDataOfCode code stage less state
less_data code stage room less state le d =
    record { slots = d.slots; hashes = less_rooms code.slots room less code.hashes state.hashes le d.hashes; parameters = d.parameters }

less_fitting : (code : ProgramParts) (stage : Option ProgramParts) (points : List CodePoint) (room less : ℕ) (m : MachineState) → less ≤ room → IsFittingAt code stage points room m → IsFittingAt code stage points less m
less_fitting code stage points room less m le f = record {
  place = f.place;
  here = f.here;
  operands = f.operands;
  locals = f.locals;
  kept = less_data code stage room less m.desk.state le f.kept;
  rows = f.rows;
  callers = f.callers;
}

module _ (held : FittingIsHeld) (assigned : AssignedFits) (code : ProgramParts) (stage : Option ProgramParts) (valid : IsValidProgram code stage) (more room : ℕ) where
  abbrev points : List CodePoint
  points = valid.types.0

  abbrev typed : HasOperandTypes code (stage_parameters stage) points
  typed = valid.types.1

  -- a machine behind an instruction, which may have added an item
  abbrev Fitting : MachineState → Type 0
  Fitting m = IsFittingAt code stage points room m

  abbrev Kept : ProgramData → Type 0
  Kept state = IsDataOfCode code stage room state

  abbrev NextFits : NextState → Type 0
  NextFits (GoesOn m) = room < more → Fitting m
  NextFits (Stops (EndReached state p)) = IsDataOfCode code stage more state × AreRowsOfOutputs code p.rows
  NextFits (Stops (Broken fault p)) = AreRowsOfOutputs code p.rows
  NextFits (Stops Stuck) = Unit {0}

  module _ (m : MachineState) (fine : IsFittingAt code stage points more m) (at : KnownAt code (stage_parameters stage) code.instrs points m.at fine.place) where
    abbrev role : CodeRole
    role = fine.place.role

    up : suc m.at ≡ m.at + 1
    up = omega arith

    one_less : room < more → IsDataOfCode code stage (suc room) m.desk.state
    one_less le = less_data code stage more (suc room) m.desk.state (omega (arith, le)) fine.kept

    same_data : room < more → Kept m.desk.state
    same_data le = less_data code stage more room m.desk.state (omega (arith, le)) fine.kept

    -- on to the next instruction of the frame
    goes_fitting : (desk : Desk) (p : Progress) → falls_through (kind_of at.instr) ≡ true → AreOfTypes desk.stack at.types → AreOfTypes desk.locals (types_of_locals role) → (room < more → Kept desk.state) → AreRowsOfOutputs code p.rows
        → room < more → Fitting (record { at = m.at + 1; desk = desk; frames = m.frames; progress = p })
    goes_fitting desk p falls s l k r le = record {
      place = point role at.types;
      here = subst (λ n. slice_get points n ≡ Some (point role at.types)) up (at.next falls);
      operands = s;
      locals = l;
      kept = k le;
      rows = r;
      callers = fine.callers;
    }

    value_fitting : (k : ℕ) (f : Row → Value) (o : Option Taken) → falls_through (kind_of at.instr) ≡ true → FitsFor code stage role (Pure k f) fine.place.types at.types → take_off k [] m.desk.stack ≡ o → NextFits (on_desk (with_value_for f o m.desk) m)
    value_fitting k f None falls c e = tt
    value_fitting k f (Some t) falls c e = goes_fitting (with_stack (f t.values ∷ t.below) m.desk) m.progress falls (c m.desk.stack t fine.operands e) fine.locals same_data fine.rows

    outcome_fitting : (r : Result Value Fault) (t : Taken) → falls_through (kind_of at.instr) ≡ true → ((v : Value) → r ≡ Ok v → AreOfTypes (v ∷ t.below) at.types) → NextFits (on_result (Some (result_above t.below r m.desk)) m)
    outcome_fitting (Ok v) t falls s = goes_fitting (with_stack (v ∷ t.below) m.desk) (with_event Did m.progress) falls (s v refl) fine.locals same_data fine.rows
    outcome_fitting (Err f) t falls s = fine.rows

    partial_fitting : (k : ℕ) (f : Row → Result Value Fault) (o : Option Taken) → falls_through (kind_of at.instr) ≡ true → FitsFor code stage role (Partial k f) fine.place.types at.types → take_off k [] m.desk.stack ≡ o
        → NextFits (on_result (with_result_for f o m.desk) m)
    partial_fitting k f None falls c e = tt
    partial_fitting k f (Some t) falls c e = outcome_fitting (f t.values) t falls (λ v is. c m.desk.stack t v fine.operands e is)

    store_fitting : (d : StoreTarget) (stack : Row) → falls_through (kind_of at.instr) ≡ true → FitsFor code stage role (Stores d) fine.place.types at.types → m.desk.stack ≡ stack → NextFits (on_desk (top_into d stack m.desk) m)
    store_fitting d [] falls c e = tt
    store_fitting d (v ∷ stack) falls c e =
        let k = c v stack (with_stack stack m.desk) (subst (λ (z : Row). AreOfTypes z fine.place.types) e fine.operands) fine.locals fine.kept.slots fine.kept.parameters in
        goes_fitting (with_stored d v (with_stack stack m.desk)) m.progress falls (same_stack d v stack k.0) k.1
        (λ le. record { slots = k.2; hashes = same_hashes d v stack le; parameters = k.3 }) fine.rows
      where
        same_stack : (d : StoreTarget) (v : Value) (stack : Row) → AreOfTypes stack at.types → AreOfTypes (with_stored d v (with_stack stack m.desk)).stack at.types
        same_stack (IntoSlot n) v stack h = h
        same_stack (IntoLocal n) v stack h = h
        same_stack (IntoParameter n) v stack h = h

        same_hashes : (d : StoreTarget) (v : Value) (stack : Row) → room < more → AreHashesOfSlots code.slots room code.hashes (with_stored d v (with_stack stack m.desk)).state.hashes
        same_hashes (IntoSlot n) v stack le = (same_data le).hashes
        same_hashes (IntoLocal n) v stack le = (same_data le).hashes
        same_hashes (IntoParameter n) v stack le = (same_data le).hashes

    drop_fitting : (stack : Row) → falls_through (kind_of at.instr) ≡ true → FitsFor code stage role Drops fine.place.types at.types → m.desk.stack ≡ stack → NextFits (on_desk (without_top stack m.desk) m)
    drop_fitting [] falls c e = tt
    drop_fitting (v ∷ stack) falls c e = goes_fitting (with_stack stack m.desk) m.progress falls (c v stack (subst (λ (z : Row). AreOfTypes z fine.place.types) e fine.operands)) fine.locals same_data fine.rows

    -- a code above the operands
    coded : (v : Value) → fits v BigInt ≡ true → at.types ≡ BigInt ∷ fine.place.types → AreOfTypes (v ∷ m.desk.stack) at.types
    coded v h e = subst (λ (z : OperandTypes). AreOfTypes (v ∷ m.desk.stack) z) (sym e) (of_type v BigInt h refl, fine.operands)

    hash_fitting : (f : HashFunction) (h : ℕ) → falls_through (kind_of at.instr) ≡ true → FitsFor code stage role (CallsHash f h) fine.place.types at.types → NextFits (on_desk (hash_called code f h (slice_get code.hashes h) m.desk) m)
    hash_fitting f h falls c = subst (λ z. NextFits (on_desk (hash_called code f h z m.desk) m)) (sym c.1) (λ le. behind le)
      where
        behind : room < more → Fitting (record { at = m.at + 1; desk = pushed (answer_of_hash f h c.0 m.desk.state).code (with_state (after_hash_call code h c.0 (answer_of_hash f h c.0 m.desk.state) m.desk.state) m.desk); frames = m.frames; progress = m.progress })
        behind le =
            let call = hash_call_fits code stage room c.0 h c.1 m.desk.state (one_less le) f in
            let answer = answer_of_hash f h c.0 m.desk.state in
            goes_fitting (pushed answer.code (with_state (after_hash_call code h c.0 answer m.desk.state) m.desk)) m.progress falls (coded answer.code call.0 c.2) fine.locals (λ l. call.1) fine.rows le

    moved_fitting : (f : IteratorFunction) (i h : ℕ) (o : Option HashPart) → falls_through (kind_of at.instr) ≡ true → at.types ≡ BigInt ∷ fine.place.types → slice_get code.hashes h ≡ o → NextFits (on_desk (iterator_moved f i h o m.desk) m)
    moved_fitting f i h None falls c e = tt
    moved_fitting f i h (Some part) falls c e = λ le.
        let call = iterator_call_fits code stage room part h e m.desk.state (one_less le) f i in
        let answer = answer_of_iterator f i h m.desk.state in
        goes_fitting (pushed answer.code (with_state (after_iterator_call i part answer m.desk.state) m.desk)) m.progress falls (coded answer.code call.0 c) fine.locals (λ l. call.1) fine.rows le

    iterator_fitting : (f : IteratorFunction) (i : ℕ) (o : Option ℕ) → falls_through (kind_of at.instr) ≡ true → at.types ≡ BigInt ∷ fine.place.types → NextFits (on_desk (iterator_called code f i o m.desk) m)
    iterator_fitting f i None falls c = tt
    iterator_fitting f i (Some h) falls c = moved_fitting f i h (slice_get code.hashes h) falls c refl

    output_fitting : (n : ℕ) (o : Option OutputPart) → falls_through (kind_of at.instr) ≡ true → at.types ≡ fine.place.types → slice_get code.outputs n ≡ o → NextFits (on_output n o m)
    output_fitting n None falls c e = tt
    output_fitting n (Some output) falls c e =
        goes_fitting m.desk (with_written n (values_of_slots (column_slots output) m.desk.state.slots) m.progress) falls (subst (λ (z : OperandTypes). AreOfTypes m.desk.stack z) (sym c) fine.operands) fine.locals same_data
        (rows_more code m.progress.rows (record { output = n; row = values_of_slots (column_slots output) m.desk.state.slots }) fine.rows (output, e, values_for_slots code.slots (column_slots output) m.desk.state.slots fine.kept.slots))

    texts_fitting : (k : ℕ) (o : Option Taken) → falls_through (kind_of at.instr) ≡ true → FitsFor code stage role (Puts k) fine.place.types at.types → take_off k [] m.desk.stack ≡ o → NextFits (on_texts o m)
    texts_fitting k None falls c e = tt
    texts_fitting k (Some t) falls c e = goes_fitting (with_stack t.below m.desk) (with_line (join_with_byte 32 (map operand_text t.values)) m.progress) falls (c m.desk.stack t fine.operands e) fine.locals same_data fine.rows

    step_fitting : (n : ℕ) (p : Place) → falls_through (kind_of at.instr) ≡ true → at.types ≡ fine.place.types → NextFits (on_step n p m)
    step_fitting zero p falls c = fine.rows
    step_fitting (suc n) p falls c = goes_fitting m.desk (with_step p n m.progress) falls (subst (λ (z : OperandTypes). AreOfTypes m.desk.stack z) (sym c) fine.operands) fine.locals same_data fine.rows

    -- a jump to a target
    jump_fitting : (t : ℕ) (desk : Desk) (p : Progress) → jump_target (kind_of at.instr) ≡ Some t → desk.stack ≡ [] → AreOfTypes desk.locals (types_of_locals role) → (room < more → Kept desk.state) → AreRowsOfOutputs code p.rows
        → room < more → Fitting (record { at = t; desk = desk; frames = m.frames; progress = p })
    jump_fitting t desk p target s l k r le = record {
      place = point role [];
      here = typed.targets m.at t at.instr fine.place at.here fine.here target;
      operands = subst (λ (z : Row). AreOfTypes z []) (sym s) tt;
      locals = l;
      kept = k le;
      rows = r;
      callers = fine.callers;
    }

    nothing_left : (s : Row) → s ≡ [] → at.types ≡ [] → AreOfTypes s at.types
    nothing_left s e a = subst (λ (z : Row). AreOfTypes z at.types) (sym e) (subst (λ (z : OperandTypes). AreOfTypes [] z) (sym a) tt)

    tested_fitting : (b c : Bool) (t : ℕ) (s : Row) → falls_through (kind_of at.instr) ≡ true → jump_target (kind_of at.instr) ≡ Some t → s ≡ [] → at.types ≡ [] → NextFits (on_outcome b c t s m)
    tested_fitting true true t s falls target e a = jump_fitting t (with_stack s m.desk) (with_event (Tested true) m.progress) target e fine.locals same_data fine.rows
    tested_fitting true false t s falls target e a = goes_fitting (with_stack s m.desk) (with_event (Tested false) m.progress) falls (nothing_left s e a) fine.locals same_data fine.rows
    tested_fitting false true t s falls target e a = goes_fitting (with_stack s m.desk) (with_event (Tested true) m.progress) falls (nothing_left s e a) fine.locals same_data fine.rows
    tested_fitting false false t s falls target e a = jump_fitting t (with_stack s m.desk) (with_event (Tested false) m.progress) target e fine.locals same_data fine.rows

    condition_fitting : (b : Bool) (t : ℕ) (stack : Row) → falls_through (kind_of at.instr) ≡ true → jump_target (kind_of at.instr) ≡ Some t → FitsFor code stage role (Tests b t) fine.place.types at.types → m.desk.stack ≡ stack
        → NextFits (on_condition b t stack m)
    condition_fitting b t [] falls target c e = tt
    condition_fitting b t (v ∷ stack) falls target c e =
        let k = c v stack (subst (λ (z : Row). AreOfTypes z fine.place.types) e fine.operands) in tested_fitting b (is_true v) t stack falls target k.0 k.1

    -- a call
    arguments_fitting : (number : ℕ) (k : MethodPart) (o : Option Taken) (below : OperandTypes) (n : ℕ) (b : Bool) → slice_get code.methods number ≡ Some k → falls_through (kind_of at.instr) ≡ true
        → at.types ≡ with_in_out_types k.parameters (with_result_type k.returns below) → ((t : Taken) → o ≡ Some t → AreOfTypes t.values (types_of_parameters k.parameters) × AreOfTypes t.below below)
        → NextFits (on_arguments number k o n b m)
    arguments_fitting number k None below n b is falls a s = tt
    arguments_fitting number k (Some t) below zero b is falls a s = fine.rows
    arguments_fitting number k (Some t) below (suc n) false is falls a s = fine.rows
    arguments_fitting number k (Some t) below (suc n) true is falls a s =
        let both_parts = s t refl in
        let bounds = locals_bounds code.methods number k (methods_allowed code valid.values) is in
        λ le. record {
          place = point (OfMethod (signature_of k)) [];
          here = typed.methods number k is;
          operands = tt;
          locals = append_of_types t.values (replicate (length k.locals) Null) (types_of_parameters k.parameters) k.locals both_parts.0 (nulls_of_types k.locals bounds);
          kept = same_data le;
          rows = fine.rows;
          callers = (
            k,
            is,
            refl,
            role,
            below,
            subst (λ n. slice_get points n ≡ Some (point role (with_in_out_types k.parameters (with_result_type k.returns below)))) up (at.next falls ∙ ap (λ (z : OperandTypes). Some (point role z)) a),
            both_parts.1,
            fine.locals,
            fine.callers,
          );
        }

    method_fitting : (number : ℕ) → falls_through (kind_of at.instr) ≡ true → CallFits code number fine.place.types at.types → NextFits (on_method number (slice_get code.methods number) m)
    method_fitting number falls c =
        subst (λ z. NextFits (on_method number z m)) (sym c.1)
        (arguments_fitting number c.0 (take_off (length c.0.parameters) [] m.desk.stack) c.2 m.progress.left (nat_lt (length m.frames) CALL_DEPTH) c.1 falls c.3 (λ t e. c.4 m.desk.stack t fine.operands e))

    -- a return
    callee_fitting : (r : Row) (f : CallFrame) (fs : List CallFrame) (signature : Signature) → role ≡ OfMethod signature → AreOfTypes r (types_of_result signature.returns) → AreCallersOfTypes code points role (f ∷ fs)
        → NextFits (on_callee r (slice_get code.methods f.callee) f fs m)
    callee_fitting r f fs signature is result k =
        let method = k.0 in
        let same_role : OfMethod signature ≡ OfMethod (signature_of method) = sym is ∙ k.2 in
        let same : signature ≡ signature_of method = same_signature signature (signature_of method) same_role in
        let own : AreOfTypes r (types_of_result method.returns) = subst (λ (z : Signature). AreOfTypes r (types_of_result z.returns)) same result in
        let locals : AreOfTypes m.desk.locals (types_of_parameters method.parameters ++ method.locals) = subst (λ z. AreOfTypes m.desk.locals (types_of_locals z)) k.2 fine.locals in
        subst (λ z. NextFits (on_callee r z f fs m)) (sym k.1)
        (λ le. record {
          place = point k.3 (with_in_out_types method.parameters (with_result_type method.returns k.4));
          here = k.5;
          operands = in_outs_fit method.parameters method.locals m.desk.locals (r ++ f.stack) (with_result_type method.returns k.4) locals (result_of_types method.returns r f.stack k.4 own k.6);
          locals = k.7;
          kept = same_data le;
          rows = fine.rows;
          callers = k.8;
        })

    return_fitting : (b : Bool) (o : Option Row) (fs : List CallFrame) → AreCallersOfTypes code points role fs → ReturnFits role b fine.place.types → method_result b m.desk.stack ≡ o → NextFits (on_return code o fs m)
    return_fitting b None fs k c e = tt
    return_fitting b (Some r) [] k c e = tt
    return_fitting b (Some r) (f ∷ fs) k c e = callee_fitting r f fs c.0 c.1 (c.2 m.desk.stack r fine.operands e) k

    kind_fitting : (r : Kind) → kind_of at.instr ≡ r → FitsFor code stage role r fine.place.types at.types → NextFits (perform code r m)
    kind_fitting (Pure k f) is c = value_fitting k f (take_off k [] m.desk.stack) (ap falls_through is) c refl
    kind_fitting (Partial k f) is c = partial_fitting k f (take_off k [] m.desk.stack) (ap falls_through is) c refl
    kind_fitting (Loads s) is c =
        goes_fitting (pushed (loaded_value code.constants s m.desk) m.desk) m.progress (ap falls_through is) (c m.desk fine.operands fine.locals fine.kept.slots) fine.locals same_data fine.rows
    kind_fitting (Stores d) is c = store_fitting d m.desk.stack (ap falls_through is) c refl
    kind_fitting Drops is c = drop_fitting m.desk.stack (ap falls_through is) c refl
    kind_fitting (CallsHash f h) is c = hash_fitting f h (ap falls_through is) c
    kind_fitting (CallsIterator f i) is c = iterator_fitting f i (slice_get code.iterators i) (ap falls_through is) c
    kind_fitting (Writes o) is c = output_fitting o (slice_get code.outputs o) (ap falls_through is) c refl
    kind_fitting (Puts k) is c = texts_fitting k (take_off k [] m.desk.stack) (ap falls_through is) c refl
    kind_fitting (Ticks p) is c = step_fitting m.progress.left p (ap falls_through is) c
    kind_fitting (Jumps t) is c = jump_fitting t m.desk m.progress (ap jump_target is) (c m.desk.stack fine.operands) fine.locals same_data fine.rows
    kind_fitting (Tests b t) is c = condition_fitting b t m.desk.stack (ap falls_through is) (ap jump_target is) c refl
    kind_fitting (Enters k) is c = method_fitting k (ap falls_through is) c
    kind_fitting (GoesBack b) is c = return_fitting b (method_result b m.desk.stack) m.frames fine.callers c refl
    kind_fitting (Raises f) is c = fine.rows
    kind_fitting Finishes is c = (fine.kept, fine.rows)

    instruction_fitting : NextFits (after_instruction code (slice_get code.instrs m.at) m)
    instruction_fitting =
        subst (λ z. NextFits (after_instruction code z m)) (sym at.here)
        (kind_fitting (kind_of at.instr) refl (types_kept held assigned code stage (constants_allowed code valid.values) role at.instr fine.place.types at.types at.leaves))

  known_at : (m : MachineState) (fine : IsFittingAt code stage points more m) → KnownAt code (stage_parameters stage) code.instrs points m.at fine.place
  known_at m fine = known code (stage_parameters stage) code.instrs 0 false (point OfUnit []) points typed.along m.at fine.place fine.here

  next_fitting : (m next : MachineState) → room < more → IsFittingAt code stage points more m → after_instruction code (slice_get code.instrs m.at) m ≡ GoesOn next → Fitting next
  next_fitting m next le fine e = subst (λ z. NextFits z) e (instruction_fitting m fine (known_at m fine)) le

  end_fitting : (m : MachineState) (state : ProgramData) (p : Progress) → IsFittingAt code stage points more m → after_instruction code (slice_get code.instrs m.at) m ≡ Stops (EndReached state p) → IsDataOfCode code stage more state × AreRowsOfOutputs code p.rows
  end_fitting m state p fine e = subst (λ z. NextFits z) e (instruction_fitting m fine (known_at m fine))

  fault_fitting : (m : MachineState) (fault : Fault) (p : Progress) → IsFittingAt code stage points more m → after_instruction code (slice_get code.instrs m.at) m ≡ Stops (Broken fault p) → AreRowsOfOutputs code p.rows
  fault_fitting m fault p fine e = subst (λ z. NextFits z) e (instruction_fitting m fine (known_at m fine))

begun_fitting : (code : ProgramParts) (stage : Option ProgramParts) (valid : IsValidProgram code stage) (k entry budget room : ℕ) (state : ProgramData) → slice_get (unit_entries code) k ≡ Some entry → IsDataOfCode code stage room state
    → IsFittingAt code stage valid.types.0 room (unit_begun entry budget state)
begun_fitting code stage valid k entry budget room state is d = record {
  place = point OfUnit [];
  here = valid.types.1.units k entry is;
  operands = tt;
  locals = tt;
  kept = d;
  rows = tt;
  callers = refl;
}

pub units_begin_fitting : UnitsBeginWithLittle → UnitsBeginFitting
units_begin_fitting little code stage k entry budget room state valid is d =
    let begin = unit_begun entry budget state in
    let few = little code entry budget state in
    let less : work_left code.instrs (unit_begun entry budget state) + room ≤ most_executed code budget + room = omega (arith, few) in
    record { valid = valid; fitting = begun_fitting code stage valid k entry budget (work_left code.instrs begin + room) state is (less_data code stage (most_executed code budget + room) (work_left code.instrs begin + room) state less d) }

pub instructions_keep_types : FittingIsHeld → AssignedFits → InstructionsLeaveLess → InstructionsKeepTypes
instructions_keep_types held assigned law code stage room m next f e =
    let falls = law code m next f.valid.steps e in
    let less : work_left code.instrs next + room < work_left code.instrs m + room = omega (arith, falls) in
    record { valid = f.valid; fitting = next_fitting held assigned code stage f.valid (work_left code.instrs m + room) (work_left code.instrs next + room) m next less f.fitting e }

pub units_end_fitting : FittingIsHeld → AssignedFits → UnitsEndFitting
units_end_fitting held assigned code stage room m state p f e =
    let end = end_fitting held assigned code stage f.valid (work_left code.instrs m + room) room m state p f.fitting e in
    (less_data code stage (work_left code.instrs m + room) room state (omega arith) end.0, end.1)

pub faults_leave_rows : FittingIsHeld → AssignedFits → FaultsLeaveRows
faults_leave_rows held assigned code stage room m fault p f e = fault_fitting held assigned code stage f.valid (work_left code.instrs m + room) room m fault p f.fitting e
