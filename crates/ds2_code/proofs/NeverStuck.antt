-- Valid code is never stuck: as many operands stand at each instruction as types are known there.
use Rattle.std.proofs.Common.{◌≡◌, ℕ, zero, suc, ◌+◌, ◌<◌, ◌≤◌, Bool, true, false, ◌&&◌, List, [], ◌∷◌, ◌++◌, Option, Some, None, Result, Ok, Err, length, refl, sym, ap, ◌∙◌, subst, arith, ltb-true}
use Rattle.std.specs.Prelude.{nat_lt, if◌then◌else◌, replicate, slice_get}
use Rattle.std.specs.List.{list_all}
use Rattle.std.proofs.lemmas.List.{length-replicate, length-map, length-append, length-set}
use Rattle.ds2_base.specs.declared.place.Place.{Place}
use Rattle.ds2_value.specs.Operations.{is_true}
use Rattle.ds2_value.specs.Progress.{Progress}
use Rattle.ds2_value.specs.Row.{Row}
use Rattle.ds2_value.specs.declared.fault.Fault.{Fault}
use Rattle.ds2_value.specs.declared.fault.TheConstants.{CALL_DEPTH}
use Rattle.ds2_value.specs.declared.value.Value.{Value}
use Rattle.ds2_value.specs.declared.value.Value.TheVariants.{Null}
use Rattle.ds2_code.specs.declared.parts.MethodPart.{MethodPart}
use Rattle.ds2_code.specs.declared.parts.ParameterPart.{ParameterPart}
use Rattle.ds2_code.specs.declared.parts.ProgramParts.{ProgramParts}
use Rattle.ds2_code.specs.CodeBound.{jump_target, falls_through}
use Rattle.ds2_code.specs.CodeRun.{CallFrame, MachineState, EndReached, Broken, Stuck, NextState, GoesOn, Stops, on_desk, on_result, on_step, on_outcome, on_condition, on_arguments, on_method, with_in_outs, method_result, on_callee, on_return, on_output, on_texts, perform, after_instruction, CodeRun, UnderWay, Over, and_one, then_run, run_code}
use Rattle.ds2_code.specs.CodeUnit.{unit_begun, outcome_of_run, most_executed, code_unit, without_cleared}
use Rattle.ds2_code.specs.CodeLaws.{HasComeToAnEnd}
use Rattle.ds2_code.specs.Desk.{SlotSettings, with_slot_settings, ProgramData, Desk, with_stack, pushed, Taken, take_off, with_value_for, result_above, with_result_for, StoreTarget, IntoSlot, IntoLocal, IntoParameter, loaded_value, with_stored, top_into, without_top, with_slots}
use Rattle.ds2_code.specs.HashCalls.{hash_called, iterator_moved, iterator_called}
use Rattle.ds2_code.specs.InstructionTable.{Kind, Pure, Partial, Loads, Stores, Drops, CallsHash, CallsIterator, Writes, Puts, Ticks, Jumps, Tests, Enters, GoesBack, Raises, Finishes, kind_of}
use Rattle.ds2_code.specs.OperandTypes.{Signature, CodeRole, OfUnit, OfMethod, signature_of, types_of_parameters, types_of_locals}
use Rattle.ds2_code.specs.ValidCode.{HasUnitsThatEnd, CodePoint, point, HasOperandTypes, stage_parameters, all_below, hash_in_range, parts_in_range, IsValidProgram, IsValidChain, unit_entries, EndsInTime, ValidCodeEnds}
use Rattle.ds2_code.proofs.Counts.{Made, in_outs, results, one_more_where, CallCounts, ReturnCounts, CountsFor, counts}
use Rattle.ds2_code.proofs.Points.{Here, places}
use Rattle.ds2_code.proofs.RunsEnd.{units_end_in_time}

-- ---- operands

take_enough : (k : ℕ) (vs s : Row) (rest : ℕ) → length s ≡ k + rest → (t : Taken) × (take_off k vs s ≡ Some t) × (length t.below ≡ rest) × (length t.values ≡ k + length vs)
take_enough zero vs s rest h = (record { values = vs; below = s }, refl, omega (arith, h), omega arith)
take_enough (suc k) vs [] rest h = absurd (omega (arith, h))
take_enough (suc k) vs (v ∷ s) rest h = let r = take_enough k (v ∷ vs) s rest (omega (arith, h)) in (r.0, r.1, r.2, omega (arith, r.3))

in_outs_count : (ps : List ParameterPart) (locals s : Row) → length ps ≤ length locals → length (with_in_outs ps locals s) ≡ in_outs ps + length s
in_outs_count [] locals s h = omega arith
in_outs_count (p ∷ ps) [] s h = absurd (omega (arith, h))
in_outs_count (p ∷ ps) (v ∷ locals) s h =
    omega (arith, in_outs_count ps locals (if p.is_in_out then v ∷ s else s) (omega (arith, h)), one_more_where p.is_in_out v s)

result_there : (b : Bool) (s : Row) → length s ≡ (if b then 1 else 0) → (r : Row) × (method_result b s ≡ Some r) × (length r ≡ (if b then 1 else 0))
result_there false s h = ([], refl, refl)
result_there true [] h = absurd (omega (arith, h))
result_there true (v ∷ s) h = (v ∷ [], refl, refl)

top_there : (s : Row) (n : ℕ) → length s ≡ 1 + n → (v : Value) × (t : Row) × (s ≡ v ∷ t) × (length t ≡ n)
top_there [] n h = absurd (omega (arith, h))
top_there (v ∷ t) n h = (v, t, refl, omega (arith, h))

stored_stack : (d : StoreTarget) (v : Value) (k : Desk) → (with_stored d v k).stack ≡ k.stack
stored_stack (IntoSlot n) v k = refl
stored_stack (IntoLocal n) v k = refl
stored_stack (IntoParameter n) v k = refl

stored_locals : (d : StoreTarget) (v : Value) (k : Desk) → length (with_stored d v k).locals ≡ length k.locals
stored_locals (IntoSlot n) v k = refl
stored_locals (IntoLocal n) v k = length-set k.locals n v
stored_locals (IntoParameter n) v k = refl

method_locals : (m : MethodPart) → length (types_of_locals (OfMethod (signature_of m))) ≡ length m.parameters + length m.locals
method_locals m =
    length-append (types_of_parameters m.parameters) m.locals
    ∙ ap (λ n. n + length m.locals) (length-map m.parameters (λ (p : ParameterPart). p.ty))

same_results : (a b : Signature) → OfMethod a ≡ OfMethod b → results b.returns ≡ results a.returns
same_results a b h = let e : a ≡ b = cc in sym (ap (λ (z : Signature). results z.returns) e)

no_some : {A : Type 0} (x : A) → None ≡ Some x → ⊥
no_some x h = cc

no_unit : (a : Signature) → OfMethod a ≡ OfUnit → ⊥
no_unit a h = cc

-- ---- parts that are there

both : (a b : Bool) → (a && b) ≡ true → (a ≡ true) × (b ≡ true)
both true b h = (refl, h)
both false b h = absurd cc

each_below : (n : ℕ) (ks : List ℕ) → all_below n ks ≡ true → (i k : ℕ) → slice_get ks i ≡ Some k → k < n
each_below n [] h i k g = absurd cc
each_below n (x ∷ ks) h zero k g =
    let w : x ≡ k = cc in subst (λ z. z < n) w (ltb-true x n ((both (nat_lt x n) (all_below n ks) h).0))
each_below n (x ∷ ks) h (suc i) k g = each_below n ks ((both (nat_lt x n) (all_below n ks) h).1) i k g

get_there : {A : Type 0} (xs : List A) (n : ℕ) → n < length xs → (x : A) × (slice_get xs n ≡ Some x)
get_there [] n h = absurd (omega (arith, h))
get_there (x ∷ xs) zero h = (x, refl)
get_there (x ∷ xs) (suc n) h = get_there xs n (omega (arith, h))

iterators_below : (code : ProgramParts) → parts_in_range code ≡ true → all_below (length code.hashes) code.iterators ≡ true
iterators_below code h =
    let slots = length code.slots in
    let a = both (list_all (hash_in_range slots) code.hashes && (all_below (length code.hashes) code.iterators && all_below slots code.parameters)) _ h in
    let b = both (list_all (hash_in_range slots) code.hashes) (all_below (length code.hashes) code.iterators && all_below slots code.parameters) a.0 in
    (both (all_below (length code.hashes) code.iterators) (all_below slots code.parameters) b.1).0

module _ (code : ProgramParts) (stage : Option ProgramParts) (valid : IsValidProgram code stage) where
  abbrev points : List CodePoint
  points = valid.types.0

  abbrev typed : HasOperandTypes code (stage_parameters stage) points
  typed = valid.types.1

  -- the callers that wait are as code of this role expects them: each called the method that is under way, and finds at its
  -- instruction as many operands as types are known there once the call leaves its own
  abbrev Callers : CodeRole → List CallFrame → Type 0
  Callers role [] = role ≡ OfUnit
  Callers role (f ∷ fs) =
      (method : MethodPart) × (slice_get code.methods f.callee ≡ Some method) × (role ≡ OfMethod (signature_of method))
      × (q : CodePoint) × (slice_get points f.to ≡ Some q) × (length q.types ≡ in_outs method.parameters + results method.returns + length f.stack)
      × (length f.locals ≡ length (types_of_locals q.role)) × Callers q.role fs

  record Fine (m : MachineState) : Type 0 where
    place : CodePoint
    here : slice_get points m.at ≡ Some place
    operands : length m.desk.stack ≡ length place.types
    locals : length m.desk.locals ≡ length (types_of_locals place.role)
    callers : Callers place.role m.frames

  abbrev NextFine : NextState → Type 0
  NextFine (GoesOn m) = Fine m
  NextFine (Stops (EndReached state p)) = Unit {0}
  NextFine (Stops (Broken fault p)) = Unit {0}
  NextFine (Stops Stuck) = ⊥

  abbrev StateFine : CodeRun → Type 0
  StateFine (UnderWay m) = Fine m
  StateFine (Over n (EndReached state p)) = Unit {0}
  StateFine (Over n (Broken fault p)) = Unit {0}
  StateFine (Over n Stuck) = ⊥

  -- an instruction of a machine
  module _ (m : MachineState) (fine : Fine m) (at : Here code (stage_parameters stage) code.instrs points m.at fine.place) where
    abbrev role : CodeRole
    role = fine.place.role

    abbrev after : ℕ
    after = length at.types

    up : suc m.at ≡ m.at + 1
    up = omega arith

    -- on to the next instruction of the frame
    goes_fine : (desk : Desk) (p : Progress) → falls_through (kind_of at.instr) ≡ true → length desk.stack ≡ after → length desk.locals ≡ length m.desk.locals
        → Fine (record { at = m.at + 1; desk = desk; frames = m.frames; progress = p })
    goes_fine desk p falls s l = record {
      place = point role at.types;
      here = subst (λ n. slice_get points n ≡ Some (point role at.types)) up (at.next falls);
      operands = s;
      locals = l ∙ fine.locals;
      callers = fine.callers;
    }

    -- the desk that an instruction leaves
    abbrev DeskFor : Option Desk → Type 0
    DeskFor o = (d : Desk) × (o ≡ Some d) × (length d.stack ≡ after) × (length d.locals ≡ length m.desk.locals)

    desk_fine : (o : Option Desk) → falls_through (kind_of at.instr) ≡ true → DeskFor o → NextFine (on_desk o m)
    desk_fine o falls d = subst (λ z. NextFine (on_desk z m)) (sym d.1) (goes_fine d.0 m.progress falls d.2 d.3)

    value_desk : (k : ℕ) (f : Row → Value) → Made k (length fine.place.types) after → DeskFor (with_value_for f (take_off k [] m.desk.stack) m.desk)
    value_desk k f c =
        let t = take_enough k [] m.desk.stack c.0 (fine.operands ∙ c.1) in
        (with_stack (f t.0.values ∷ t.0.below) m.desk, ap (λ z. with_value_for f z m.desk) t.1, omega (arith, t.2, c.2), refl)

    result_fine : (r : Result Value Fault) (t : Taken) → falls_through (kind_of at.instr) ≡ true → 1 + length t.below ≡ after
        → NextFine (on_result (Some (result_above t.below r m.desk)) m)
    result_fine (Ok v) t falls s = goes_fine (with_stack (v ∷ t.below) m.desk) _ falls (omega (arith, s)) refl
    result_fine (Err f) t falls s = tt

    partial_fine : (k : ℕ) (f : Row → Result Value Fault) → falls_through (kind_of at.instr) ≡ true → Made k (length fine.place.types) after
        → NextFine (on_result (with_result_for f (take_off k [] m.desk.stack) m.desk) m)
    partial_fine k f falls c =
        let t = take_enough k [] m.desk.stack c.0 (fine.operands ∙ c.1) in
        subst (λ z. NextFine (on_result (with_result_for f z m.desk) m)) (sym t.1) (result_fine (f t.0.values) t.0 falls (omega (arith, t.2, c.2)))

    store_desk : (d : StoreTarget) → length fine.place.types ≡ 1 + after → DeskFor (top_into d m.desk.stack m.desk)
    store_desk d c =
        let s = top_there m.desk.stack after (fine.operands ∙ c) in (
          with_stored d s.0 (with_stack s.1 m.desk),
          ap (λ z. top_into d z m.desk) s.2,
          ap (λ z. length z) (stored_stack d s.0 (with_stack s.1 m.desk)) ∙ s.3,
          stored_locals d s.0 (with_stack s.1 m.desk),
        )

    drop_desk : length fine.place.types ≡ 1 + after → DeskFor (without_top m.desk.stack m.desk)
    drop_desk c =
        let s = top_there m.desk.stack after (fine.operands ∙ c) in
        (with_stack s.1 m.desk, ap (λ z. without_top z m.desk) s.2, s.3, refl)

    texts_fine : (k : ℕ) → falls_through (kind_of at.instr) ≡ true → length fine.place.types ≡ k + after → NextFine (on_texts (take_off k [] m.desk.stack) m)
    texts_fine k falls c =
        let t = take_enough k [] m.desk.stack after (fine.operands ∙ c) in
        subst (λ z. NextFine (on_texts z m)) (sym t.1) (goes_fine (with_stack t.0.below m.desk) _ falls t.2 refl)

    step_fine : (n : ℕ) (p : Place) → falls_through (kind_of at.instr) ≡ true → after ≡ length fine.place.types → NextFine (on_step n p m)
    step_fine zero p falls c = tt
    step_fine (suc n) p falls c = goes_fine m.desk _ falls (fine.operands ∙ sym c) refl

    -- a jump to a target
    jump_fine : (t : ℕ) (desk : Desk) (p : Progress) → jump_target (kind_of at.instr) ≡ Some t → length desk.stack ≡ 0 → length desk.locals ≡ length m.desk.locals
        → Fine (record { at = t; desk = desk; frames = m.frames; progress = p })
    jump_fine t desk p target s l = record {
      place = point role [];
      here = typed.targets m.at t at.instr fine.place at.here fine.here target;
      operands = s;
      locals = l ∙ fine.locals;
      callers = fine.callers;
    }

    outcome_fine : (b c : Bool) (t : ℕ) (s : Row) → falls_through (kind_of at.instr) ≡ true → jump_target (kind_of at.instr) ≡ Some t → length s ≡ 0 → after ≡ 0 → NextFine (on_outcome b c t s m)
    outcome_fine true true t s falls target e a = jump_fine t (with_stack s m.desk) _ target e refl
    outcome_fine true false t s falls target e a = goes_fine (with_stack s m.desk) _ falls (e ∙ sym a) refl
    outcome_fine false true t s falls target e a = goes_fine (with_stack s m.desk) _ falls (e ∙ sym a) refl
    outcome_fine false false t s falls target e a = jump_fine t (with_stack s m.desk) _ target e refl

    condition_fine : (b : Bool) (t : ℕ) → falls_through (kind_of at.instr) ≡ true → jump_target (kind_of at.instr) ≡ Some t → length fine.place.types ≡ 1 → after ≡ 0
        → NextFine (on_condition b t m.desk.stack m)
    condition_fine b t falls target n a =
        let s = top_there m.desk.stack 0 (fine.operands ∙ n) in
        subst (λ z. NextFine (on_condition b t z m)) (sym s.2) (outcome_fine b (is_true s.0) t s.1 falls target s.3 a)

    -- a call
    arguments_fine : (number : ℕ) (k : MethodPart) (t : Taken) (rest n : ℕ) (b : Bool) → slice_get code.methods number ≡ Some k → falls_through (kind_of at.instr) ≡ true
        → length t.below ≡ rest → length t.values ≡ length k.parameters → after ≡ in_outs k.parameters + results k.returns + rest
        → NextFine (on_arguments number k (Some t) n b m)
    arguments_fine number k t rest zero b is falls below values a = tt
    arguments_fine number k t rest (suc n) false is falls below values a = tt
    arguments_fine number k t rest (suc n) true is falls below values a = record {
      place = point (OfMethod (signature_of k)) [];
      here = typed.methods number k is;
      operands = refl;
      locals = length-append t.values (replicate (length k.locals) Null) ∙ omega (arith, values, length-replicate (length k.locals) Null, method_locals k);
      callers = (k, is, refl, point role at.types, subst (λ n. slice_get points n ≡ Some (point role at.types)) up (at.next falls), omega (arith, a, below), fine.locals, fine.callers);
    }

    method_fine : (number : ℕ) → falls_through (kind_of at.instr) ≡ true → CallCounts code number (length fine.place.types) after
        → NextFine (on_method number (slice_get code.methods number) m)
    method_fine number falls c =
        let k = c.0 in
        let t = take_enough (length k.parameters) [] m.desk.stack c.2 (fine.operands ∙ c.3) in
        subst (λ z. NextFine (on_method number z m)) (sym c.1)
        (subst (λ z. NextFine (on_arguments number k z m.progress.left (nat_lt (length m.frames) CALL_DEPTH) m)) (sym t.1)
        (arguments_fine number k t.0 c.2 m.progress.left (nat_lt (length m.frames) CALL_DEPTH) c.1 falls t.2 (omega (arith, t.3)) c.4))

    -- a return
    callee_fine : (b : Bool) (r : Row) (f : CallFrame) (fs : List CallFrame) → length r ≡ (if b then 1 else 0) → ReturnCounts role b (length fine.place.types) → Callers role (f ∷ fs)
        → NextFine (on_callee r (slice_get code.methods f.callee) f fs m)
    callee_fine b r f fs one c k =
        let method = k.0 in
        let same_role : OfMethod c.0 ≡ OfMethod (signature_of method) = sym c.1 ∙ k.2 in
        let same_returns : results method.returns ≡ results c.0.returns = same_results c.0 (signature_of method) same_role in
        let enough : length method.parameters ≤ length m.desk.locals = omega (arith, fine.locals, ap (λ z. length (types_of_locals z)) k.2, method_locals method) in
        subst (λ z. NextFine (on_callee r z f fs m)) (sym k.1)
        (record {
          place = k.3;
          here = k.4;
          operands = omega (arith, in_outs_count method.parameters m.desk.locals (r ++ f.stack) enough, length-append r f.stack, one, c.3, same_returns, k.5);
          locals = k.6;
          callers = k.7;
        })

    return_fine : (b : Bool) (fs : List CallFrame) → fs ≡ m.frames → Callers role fs → ReturnCounts role b (length fine.place.types)
        → NextFine (on_return code (method_result b m.desk.stack) fs m)
    return_fine b [] same k c = absurd (no_unit c.0 (sym c.1 ∙ k))
    return_fine b (f ∷ fs) same k c =
        let r = result_there b m.desk.stack (fine.operands ∙ c.2) in
        subst (λ z. NextFine (on_return code z (f ∷ fs) m)) (sym r.1) (callee_fine b r.0 f fs r.2 c k)

    kind_fine : (r : Kind) → kind_of at.instr ≡ r → CountsFor code role r (length fine.place.types) after → NextFine (perform code r m)
    kind_fine (Pure k f) is c = desk_fine _ (ap falls_through is) (value_desk k f c)
    kind_fine (Partial k f) is c = partial_fine k f (ap falls_through is) c
    kind_fine (Loads s) is c =
        desk_fine _ (ap falls_through is) (pushed (loaded_value code.constants s m.desk) m.desk, refl, omega (arith, fine.operands, c), refl)
    kind_fine (Stores d) is c = desk_fine _ (ap falls_through is) (store_desk d c)
    kind_fine Drops is c = desk_fine _ (ap falls_through is) (drop_desk c)
    kind_fine (CallsHash f h) is c =
        desk_fine _ (ap falls_through is) (_, ap (λ z. hash_called code f h z m.desk) c.1, omega (arith, fine.operands, c.2), refl)
    kind_fine (CallsIterator f i) is c =
        let there = get_there code.hashes c.0 (each_below (length code.hashes) code.iterators (iterators_below code valid.ranges) i c.0 c.1) in
        desk_fine _ (ap falls_through is)
        (_, ap (λ z. iterator_called code f i z m.desk) c.1 ∙ ap (λ z. iterator_moved f i c.0 z m.desk) there.1, omega (arith, fine.operands, c.2), refl)
    kind_fine (Writes o) is c =
        subst (λ z. NextFine (on_output o z m)) (sym c.1) (goes_fine m.desk _ (ap falls_through is) (fine.operands ∙ sym c.2) refl)
    kind_fine (Puts k) is c = texts_fine k (ap falls_through is) c
    kind_fine (Ticks p) is c = step_fine m.progress.left p (ap falls_through is) c
    kind_fine (Jumps t) is c = jump_fine t m.desk _ (ap jump_target is) (fine.operands ∙ c) refl
    kind_fine (Tests b t) is c = condition_fine b t (ap falls_through is) (ap jump_target is) c.0 c.1
    kind_fine (Enters k) is c = method_fine k (ap falls_through is) c
    kind_fine (GoesBack b) is c = return_fine b m.frames refl fine.callers c
    kind_fine (Raises f) is c = tt
    kind_fine Finishes is c = tt

    instruction_fine : NextFine (after_instruction code (slice_get code.instrs m.at) m)
    instruction_fine =
        subst (λ z. NextFine (after_instruction code z m)) (sym at.here)
        (kind_fine (kind_of at.instr) refl (counts code (stage_parameters stage) role at.instr fine.place.types at.types at.leaves))

  fine_at : (m : MachineState) (fine : Fine m) → Here code (stage_parameters stage) code.instrs points m.at fine.place
  fine_at m fine = places code (stage_parameters stage) code.instrs 0 false (point OfUnit []) points typed.along m.at fine.place fine.here

  one_more_fine : (s : CodeRun) → StateFine s → StateFine (and_one s)
  one_more_fine (UnderWay m) h = h
  one_more_fine (Over n (EndReached state p)) h = tt
  one_more_fine (Over n (Broken fault p)) h = tt
  one_more_fine (Over n Stuck) h = h

  then_fine : (n : ℕ) (x : NextState) → ((m : MachineState) → Fine m → StateFine (run_code code n m)) → NextFine x → StateFine (then_run x (run_code code n))
  then_fine n (GoesOn m) ih h = one_more_fine (run_code code n m) (ih m h)
  then_fine n (Stops (EndReached state p)) ih h = tt
  then_fine n (Stops (Broken fault p)) ih h = tt
  then_fine n (Stops Stuck) ih h = h

  run_fine : (n : ℕ) (m : MachineState) → Fine m → StateFine (run_code code n m)
  run_fine zero m h = h
  run_fine (suc n) m h = then_fine n (after_instruction code (slice_get code.instrs m.at) m) (run_fine n) (instruction_fine m h (fine_at m h))

  begun_fine : (k entry budget : ℕ) (state : ProgramData) → slice_get (unit_entries code) k ≡ Some entry → Fine (unit_begun entry budget state)
  begun_fine k entry budget state is = record {
    place = point OfUnit [];
    here = typed.units k entry is;
    operands = refl;
    locals = refl;
    callers = refl;
  }

  over_in_time : (budget : ℕ) (s : CodeRun) → StateFine s → HasComeToAnEnd code (most_executed code budget) s → EndsInTime code budget (outcome_of_run s)
  over_in_time budget (Over n (EndReached state p)) h e = record { end = refl; bound = e }
  over_in_time budget (Over n (Broken fault p)) h e = record { end = refl; bound = e }
  over_in_time budget (Over n Stuck) h e = absurd h
  over_in_time budget (UnderWay m) h e = absurd (no_some (fine_at m h).instr (sym e ∙ (fine_at m h).here))

  unit_in_time : (k entry budget : ℕ) (state : ProgramData) → slice_get (unit_entries code) k ≡ Some entry → EndsInTime code budget (code_unit code entry budget state)
  unit_in_time k entry budget state is =
      over_in_time budget (run_code code (most_executed code budget) (unit_begun entry budget state))
      (run_fine (most_executed code budget) (unit_begun entry budget state) (begun_fine k entry budget state is))
      (units_end_in_time code entry budget state valid.steps)

program_ends : (code : ProgramParts) (stage : Option ProgramParts) (budget : ℕ) (load : SlotSettings) (state : ProgramData) → IsValidProgram code stage → HasUnitsThatEnd code budget load state
program_ends code stage budget load state valid = record {
  init = unit_in_time code stage valid 0 code.init budget state refl;
  run = unit_in_time code stage valid 1 code.run budget (with_slots (with_slot_settings load (without_cleared code.slots state.slots)) state) refl;
  term = unit_in_time code stage valid 2 code.term budget state refl;
}

-- each program of a chain is valid beside some thread program or none
valid_in_chain : (code : ProgramParts) (stages : List ProgramParts) → IsValidChain code stages → (k : ℕ) (c : ProgramParts) → slice_get (code ∷ stages) k ≡ Some c → (s : Option ProgramParts) × IsValidProgram c s
valid_in_chain code [] v zero c g = (None, (let w : code ≡ c = cc in subst (λ z. IsValidProgram z None) w v))
valid_in_chain code [] v (suc k) c g = absurd cc
valid_in_chain code (s ∷ ss) v zero c g = (Some s, (let w : code ≡ c = cc in subst (λ z. IsValidProgram z (Some s)) w v.0))
valid_in_chain code (s ∷ ss) v (suc k) c g = valid_in_chain s ss v.1 k c g

pub valid_code_ends : ValidCodeEnds
valid_code_ends parts k code budget load state valid here =
    let v = valid_in_chain parts.program parts.stages valid.chain k code here in program_ends code v.0 budget load state v.1
