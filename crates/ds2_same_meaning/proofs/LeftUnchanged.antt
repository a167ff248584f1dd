-- A unit of code leaves as it was what no instruction changes that can be reached from its entry.
use Rattle.std.proofs.Common.{◌≡◌, ℕ, zero, suc, ◌+◌, ◌<◌, ◌≤◌, Bool, true, false, ◌&&◌, List, [], ◌∷◌, Option, Some, None, Result, Ok, Err, inl, inr, refl, sym, ap, ◌∙◌, subst, if◌then◌else◌, arith, ltb-true}
use Rattle.std.specs.List.{list_any, join_with_byte}
use Rattle.std.specs.Option.{option_map_or}
use Rattle.std.specs.Prelude.{nat_eq, nat_lt, length, slice_get, slice_set, unwrap_or, map}
use Rattle.std.proofs.lemmas.Bool.{true≢false, or_parts, eqb-true, eq-eqb}
use Rattle.ds2_base.specs.declared.place.Place.{Place}
use Rattle.ds2_value.specs.HashList.{HashItems, hash_answer, found_item, checked_item, added_item, removed_item, item_data, item_position, Shift, Stays, shifted}
use Rattle.ds2_value.specs.Operations.{is_true}
use Rattle.ds2_value.specs.Progress.{Progress, Completed, with_event, with_step, with_line, with_written}
use Rattle.ds2_value.specs.Row.{Row}
use Rattle.ds2_value.specs.Run.{Did, Tested}
use Rattle.ds2_value.specs.declared.fault.Fault.{Fault}
use Rattle.ds2_value.specs.declared.fault.TheConstants.{CALL_DEPTH}
use Rattle.ds2_value.specs.declared.hash_function.HashFunction.{HashFunction}
use Rattle.ds2_value.specs.declared.hash_function.HashFunction.TheVariants as hash
use Rattle.ds2_value.specs.declared.hash_function.IteratorFunction.{IteratorFunction}
use Rattle.ds2_value.specs.declared.value.Value.{Value}
use Rattle.ds2_code.specs.declared.instr.Instr.{Instr}
use Rattle.ds2_code.specs.declared.parts.HashPart.{HashPart}
use Rattle.ds2_code.specs.declared.parts.MethodPart.{MethodPart}
use Rattle.ds2_code.specs.declared.parts.OutputPart.{OutputPart}
use Rattle.ds2_code.specs.declared.parts.ProgramParts.{ProgramParts}
use Rattle.ds2_code.specs.declared.parts.Slot.{Slot}
use Rattle.ds2_code.specs.declared.parts.SlotRole.{SlotRole}
use Rattle.ds2_code.specs.declared.parts.SlotRole.TheVariants.{Cleared, Kept, Column, Flag}
use Rattle.ds2_code.specs.CodeRun.{CallFrame, MachineState, CodeEnd, EndReached, Broken, Stuck, NextState, GoesOn, Stops, on_desk, on_result, on_step, on_outcome, on_condition, on_arguments, on_method, method_result, on_callee, on_return, on_output, column_slots, operand_text, on_texts, perform, after_instruction, CodeRun, UnderWay, Over, and_one, then_run, run_code}
use Rattle.ds2_code.specs.CodeBound.{falls_through, jump_target}
use Rattle.ds2_code.specs.CodeUnit.{code_unit, unit_begun, outcome_of_run, most_executed, null_where_cleared, without_cleared}
use Rattle.ds2_code.specs.Desk.{ProgramData, Desk, with_stack, pushed, loaded_value, values_of_slots, Taken, take_off, with_value_for, result_above, with_result_for, StoreTarget, IntoSlot, IntoLocal, IntoParameter, with_stored, top_into, without_top, with_slots, SlotSettings, with_slot_settings, with_values_in}
use Rattle.ds2_code.specs.HashCalls.{with_copied, all_shifted, hash_called, iterator_moved, iterator_called, answer_of_iterator}
use Rattle.ds2_code.specs.InstructionTable.{Kind, Pure, Partial, Loads, Stores, Drops, CallsHash, CallsIterator, Writes, Puts, Ticks, Jumps, Tests, Enters, GoesBack, Raises, Finishes, kind_of}
use Rattle.ds2_same_meaning.specs.FixedInCode.{DataLocation, SlotAt, HashAt, IteratorAt, ParameterAt, HoldSame, store_changes, copies_data, changes_items, is_data_slot, is_over, hash_call_changes, hash_walked, iterator_call_changes, kind_changes, GoesTo, CallsTo, IsReachedIn, IsUnchangedFrom, is_kept_role, is_kept_in_code, SetsNoKeptSlot, RunsLeaveFixedInCode}

-- ---- lists

set_elsewhere : {X : Type 0} (xs : List X) (n m : ℕ) (v : X) → (m ≡ n → ⊥) → slice_get xs m ≡ slice_get (slice_set xs n v) m
set_elsewhere [] n m v other = refl
set_elsewhere (x ∷ xs) zero zero v other = absurd (other refl)
set_elsewhere (x ∷ xs) zero (suc m) v other = refl
set_elsewhere (x ∷ xs) (suc n) zero v other = refl
set_elsewhere (x ∷ xs) (suc n) (suc m) v other = set_elsewhere xs n m v (λ e. other (ap (λ k. suc k) e))

get_set_other : {X : Type 0} (xs : List X) (n m : ℕ) (v : X) → nat_eq m n ≡ false → slice_get xs m ≡ slice_get (slice_set xs n v) m
get_set_other xs n m v other = set_elsewhere xs n m v (λ e. true≢false (sym (eq-eqb m n e) ∙ other))

-- what is there already is set
get_set_same : {X : Type 0} (xs : List X) (n m : ℕ) (other : X) → slice_get xs m ≡ slice_get (slice_set xs n (unwrap_or (slice_get xs n) other)) m
get_set_same [] n m other = refl
get_set_same (x ∷ xs) zero zero other = refl
get_set_same (x ∷ xs) zero (suc m) other = refl
get_set_same (x ∷ xs) (suc n) zero other = refl
get_set_same (x ∷ xs) (suc n) (suc m) other = get_set_same xs n m other

-- values for other slots
values_elsewhere : (ns : List ℕ) (values slots : Row) (n : ℕ) → list_any (nat_eq n) ns ≡ false → slice_get slots n ≡ slice_get (with_values_in ns values slots) n
values_elsewhere [] values slots n other = refl
values_elsewhere (k ∷ ns) [] slots n other = refl
values_elsewhere (k ∷ ns) (v ∷ values) slots n other =
    let parts = or_parts (nat_eq n k) (list_any (nat_eq n) ns) other in
    get_set_other slots k n v parts.0 ∙ values_elsewhere ns values (slice_set slots k v) n parts.1

-- ---- calls of hash objects and iterators

copied_elsewhere : (part : HashPart) (o : Option Row) (slots : Row) (n : ℕ) → list_any (nat_eq n) part.data_slots ≡ false → slice_get slots n ≡ slice_get (with_copied part o slots) n
copied_elsewhere part None slots n other = refl
copied_elsewhere part (Some row) slots n other = values_elsewhere part.data_slots row slots n other

found_elsewhere : (part : HashPart) (o : Option Row) (items : HashItems) (slots : Row) (n : ℕ) → list_any (nat_eq n) part.data_slots ≡ false
    → slice_get slots n ≡ slice_get (with_copied part (found_item o items).copied slots) n
found_elsewhere part None items slots n other = refl
found_elsewhere part (Some row) items slots n other = copied_elsewhere part (Some row) slots n other

-- the slots behind a call of a hash object
slot_called : (f : HashFunction) (part : HashPart) (key row : Row) (items : HashItems) (slots : Row) (n : ℕ) → (copies_data f && list_any (nat_eq n) part.data_slots) ≡ false
    → slice_get slots n ≡ slice_get (with_copied part (hash_answer f key row items).copied slots) n
slot_called hash.Find part key row items slots n other = found_elsewhere part (item_data key items) items slots n other
slot_called hash.Check part key row items slots n other = by_presence (item_data key items)
  where
    by_presence : (o : Option Row) → slice_get slots n ≡ slice_get (with_copied part (checked_item o items).copied slots) n
    by_presence None = refl
    by_presence (Some found) = refl
slot_called hash.Add part key row items slots n other = by_presence (item_data key items)
  where
    by_presence : (o : Option Row) → slice_get slots n ≡ slice_get (with_copied part (added_item o key row items).copied slots) n
    by_presence None = refl
    by_presence (Some found) = refl
slot_called hash.Replace part key row items slots n other = refl
slot_called hash.Remove part key row items slots n other = by_position (item_position key items)
  where
    by_position : (o : Option ℕ) → slice_get slots n ≡ slice_get (with_copied part (removed_item o key items).copied slots) n
    by_position None = refl
    by_position (Some j) = refl
slot_called hash.Clear part key row items slots n other = refl
slot_called hash.NumItems part key row items slots n other = refl

-- its items
items_kept : (f : HashFunction) (key row : Row) (items : HashItems) → changes_items f ≡ false → (hash_answer f key row items).items ≡ items
items_kept hash.Find key row items calm = by_presence (item_data key items)
  where
    by_presence : (o : Option Row) → (found_item o items).items ≡ items
    by_presence None = refl
    by_presence (Some found) = refl
items_kept hash.Check key row items calm = by_presence (item_data key items)
  where
    by_presence : (o : Option Row) → (checked_item o items).items ≡ items
    by_presence None = refl
    by_presence (Some found) = refl
items_kept hash.Add key row items calm = absurd (true≢false calm)
items_kept hash.Replace key row items calm = absurd (true≢false calm)
items_kept hash.Remove key row items calm = absurd (true≢false calm)
items_kept hash.Clear key row items calm = absurd (true≢false calm)
items_kept hash.NumItems key row items calm = refl

-- and where its iterators stand
shift_stays : (f : HashFunction) (key row : Row) (items : HashItems) → changes_items f ≡ false → (hash_answer f key row items).shift ≡ Stays
shift_stays hash.Find key row items calm = by_presence (item_data key items)
  where
    by_presence : (o : Option Row) → (found_item o items).shift ≡ Stays
    by_presence None = refl
    by_presence (Some found) = refl
shift_stays hash.Check key row items calm = by_presence (item_data key items)
  where
    by_presence : (o : Option Row) → (checked_item o items).shift ≡ Stays
    by_presence None = refl
    by_presence (Some found) = refl
shift_stays hash.Add key row items calm = absurd (true≢false calm)
shift_stays hash.Replace key row items calm = absurd (true≢false calm)
shift_stays hash.Remove key row items calm = absurd (true≢false calm)
shift_stays hash.Clear key row items calm = absurd (true≢false calm)
shift_stays hash.NumItems key row items calm = refl

hash_kept_by : (b : Bool) (hashes : List HashItems) (h n : ℕ) (items : HashItems) → (b && nat_eq n h) ≡ false → (b ≡ false → items ≡ unwrap_or (slice_get hashes h) [])
    → slice_get hashes n ≡ slice_get (slice_set hashes h items) n
hash_kept_by true hashes h n items calm same = get_set_other hashes h n items calm
hash_kept_by false hashes h n items calm same =
    get_set_same hashes h n [] ∙ ap (λ its. slice_get (slice_set hashes h its) n) (sym (same refl))

stays_by : (b : Bool) (p : Option ℕ) → Some p ≡ Some (if b then shifted Stays p else p)
stays_by true p = refl
stays_by false p = refl

all_stay : (h : ℕ) (ks : List ℕ) (ps : List (Option ℕ)) (n : ℕ) → slice_get ps n ≡ slice_get (all_shifted Stays h ks ps) n
all_stay h [] ps n = refl
all_stay h (k ∷ ks) [] n = refl
all_stay h (k ∷ ks) (p ∷ ps) zero = stays_by (nat_eq k h) p
all_stay h (k ∷ ks) (p ∷ ps) (suc n) = all_stay h ks ps n

elsewhere_by : (b : Bool) (shift : Shift) (p : Option ℕ) → b ≡ false → Some p ≡ Some (if b then shifted shift p else p)
elsewhere_by true shift p other = absurd (true≢false other)
elsewhere_by false shift p other = refl

over_another : (shift : Shift) (h : ℕ) (ks : List ℕ) (ps : List (Option ℕ)) (n : ℕ) → is_over h (slice_get ks n) ≡ false → slice_get ps n ≡ slice_get (all_shifted shift h ks ps) n
over_another shift h [] ps n other = refl
over_another shift h (k ∷ ks) [] n other = refl
over_another shift h (k ∷ ks) (p ∷ ps) zero other = elsewhere_by (nat_eq k h) shift p other
over_another shift h (k ∷ ks) (p ∷ ps) (suc n) other = over_another shift h ks ps n other

iterator_kept_by : (b : Bool) (shift : Shift) (h : ℕ) (ks : List ℕ) (ps : List (Option ℕ)) (n : ℕ) → (b && is_over h (slice_get ks n)) ≡ false → (b ≡ false → shift ≡ Stays)
    → slice_get ps n ≡ slice_get (all_shifted shift h ks ps) n
iterator_kept_by true shift h ks ps n calm stays = over_another shift h ks ps n calm
iterator_kept_by false shift h ks ps n calm stays = all_stay h ks ps n ∙ ap (λ s. slice_get (all_shifted s h ks ps) n) (sym (stays refl))

-- ---- data at a location

pub itself : (at : DataLocation) (d : ProgramData) → HoldSame at d d
itself (SlotAt n) d = refl
itself (HashAt n) d = refl
itself (IteratorAt n) d = refl
itself (ParameterAt n) d = refl

pub and_then : (at : DataLocation) (d e f : ProgramData) → HoldSame at d e → HoldSame at e f → HoldSame at d f
and_then (SlotAt n) d e f a b = a ∙ b
and_then (HashAt n) d e f a b = a ∙ b
and_then (IteratorAt n) d e f a b = a ∙ b
and_then (ParameterAt n) d e f a b = a ∙ b

stored_same : (target : StoreTarget) (v : Value) (d : Desk) (at : DataLocation) → store_changes target at ≡ false → HoldSame at d.state (with_stored target v d).state
stored_same (IntoSlot n) v d (SlotAt m) calm = get_set_other d.state.slots n m v calm
stored_same (IntoSlot n) v d (HashAt m) calm = refl
stored_same (IntoSlot n) v d (IteratorAt m) calm = refl
stored_same (IntoSlot n) v d (ParameterAt m) calm = refl
stored_same (IntoLocal n) v d at calm = itself at d.state
stored_same (IntoParameter n) v d (SlotAt m) calm = refl
stored_same (IntoParameter n) v d (HashAt m) calm = refl
stored_same (IntoParameter n) v d (IteratorAt m) calm = refl
stored_same (IntoParameter n) v d (ParameterAt m) calm = get_set_other d.state.parameters n m v calm

-- a desk, where there is one, has data that hold the same
abbrev DeskSame : DataLocation → Desk → Option Desk → Type 0
DeskSame at d None = Unit {0}
DeskSame at d (Some e) = HoldSame at d.state e.state

abbrev ResultSame : DataLocation → Desk → Option (Result Desk Fault) → Type 0
ResultSame at d None = Unit {0}
ResultSame at d (Some (Ok e)) = HoldSame at d.state e.state
ResultSame at d (Some (Err fault)) = Unit {0}

module _ (code : ProgramParts) (at : DataLocation) (d : Desk) where
  value_same : (f : Row → Value) (o : Option Taken) → DeskSame at d (with_value_for f o d)
  value_same f None = tt
  value_same f (Some taken) = itself at d.state

  above_same : (below : Row) (r : Result Value Fault) → ResultSame at d (Some (result_above below r d))
  above_same below (Ok v) = itself at d.state
  above_same below (Err fault) = tt

  result_same : (f : Row → Result Value Fault) (o : Option Taken) → ResultSame at d (with_result_for f o d)
  result_same f None = tt
  result_same f (Some taken) = above_same taken.below (f taken.values)

  into_same : (target : StoreTarget) (stack : Row) → store_changes target at ≡ false → DeskSame at d (top_into target stack d)
  into_same target [] calm = tt
  into_same target (v ∷ stack) calm = stored_same target v (record { stack = stack; locals = d.locals; state = d.state }) at calm

  dropped_same : (stack : Row) → DeskSame at d (without_top stack d)
  dropped_same [] = tt
  dropped_same (v ∷ stack) = itself at d.state

hash_same : (code : ProgramParts) (at : DataLocation) (d : Desk) (f : HashFunction) (h : ℕ) (o : Option HashPart) → slice_get code.hashes h ≡ o → hash_call_changes code f h at ≡ false
    → DeskSame at d (hash_called code f h o d)
hash_same code at d f h None found calm = tt
hash_same code (SlotAt n) d f h (Some part) found calm =
    slot_called f part (values_of_slots part.key_slots d.state.slots) (values_of_slots part.data_slots d.state.slots) (unwrap_or (slice_get d.state.hashes h) []) d.state.slots n
    (subst (λ (o : Option HashPart). (copies_data f && is_data_slot o n) ≡ false) found calm)
hash_same code (HashAt n) d f h (Some part) found calm =
    let key = values_of_slots part.key_slots d.state.slots in
    let row = values_of_slots part.data_slots d.state.slots in
    let items = unwrap_or (slice_get d.state.hashes h) [] in
    hash_kept_by (changes_items f) d.state.hashes h n (hash_answer f key row items).items calm (items_kept f key row items)
hash_same code (IteratorAt n) d f h (Some part) found calm =
    let key = values_of_slots part.key_slots d.state.slots in
    let row = values_of_slots part.data_slots d.state.slots in
    let items = unwrap_or (slice_get d.state.hashes h) [] in
    iterator_kept_by (changes_items f) (hash_answer f key row items).shift h code.iterators d.state.iterators n calm (shift_stays f key row items)
hash_same code (ParameterAt n) d f h (Some part) found calm = refl

moved_same : (at : DataLocation) (code : ProgramParts) (d : Desk) (f : IteratorFunction) (i h : ℕ) (o : Option HashPart) → slice_get code.iterators i ≡ Some h → slice_get code.hashes h ≡ o
    → iterator_call_changes code i at ≡ false → DeskSame at d (iterator_moved f i h o d)
moved_same at code d f i h None over found calm = tt
moved_same (SlotAt n) code d f i h (Some part) over found calm =
    let answer = answer_of_iterator f i h d.state in
    let walked : hash_walked code (slice_get code.iterators i) ≡ Some part = ap (hash_walked code) over ∙ found in
    copied_elsewhere part answer.copied d.state.slots n (subst (λ (o : Option HashPart). is_data_slot o n ≡ false) walked calm)
moved_same (HashAt n) code d f i h (Some part) over found calm = refl
moved_same (IteratorAt n) code d f i h (Some part) over found calm = get_set_other d.state.iterators i n (answer_of_iterator f i h d.state).position calm
moved_same (ParameterAt n) code d f i h (Some part) over found calm = refl

iterator_same : (at : DataLocation) (code : ProgramParts) (d : Desk) (f : IteratorFunction) (i : ℕ) (o : Option ℕ) → slice_get code.iterators i ≡ o → iterator_call_changes code i at ≡ false
    → DeskSame at d (iterator_called code f i o d)
iterator_same at code d f i None over calm = tt
iterator_same at code d f i (Some h) over calm = moved_same at code d f i h (slice_get code.hashes h) over refl calm

-- ---- one instruction

module _ (code : ProgramParts) (entry : ℕ) (at : DataLocation) (before : ProgramData) where
  -- an instruction is reached with so many calls under way
  abbrev Reached : ℕ → ℕ → Type 0
  Reached calls to = (steps : ℕ) × IsReachedIn code entry steps calls to

  -- so are those where callers go on
  abbrev CallersReached : List CallFrame → Type 0
  CallersReached [] = Unit {0}
  CallersReached (f ∷ fs) = Reached (length fs) f.to × CallersReached fs

  one_on : (calls from to : ℕ) → Reached calls from → GoesTo code from to → Reached calls to
  one_on calls from to reached goes = (suc reached.0, (from, inl (reached.1, goes)))

  one_in : (calls from to : ℕ) → Reached calls from → CallsTo code from to → Reached (suc calls) to
  one_in calls from to reached call = (suc reached.0, (from, inr (calls, refl, reached.1, call)))

  -- a machine at an instruction that can be reached, as can those where its callers go on, with data that hold the same
  record Stands (m : MachineState) : Type 0 where
    here : Reached (length m.frames) m.at
    shallow : length m.frames ≤ CALL_DEPTH
    callers : CallersReached m.frames
    same : HoldSame at before m.desk.state

  abbrev EndsSame : CodeEnd → Type 0
  EndsSame (EndReached state p) = HoldSame at before state
  EndsSame (Broken fault p) = Unit {0}
  EndsSame Stuck = Unit {0}

  abbrev StandsNext : NextState → Type 0
  StandsNext (GoesOn m) = Stands m
  StandsNext (Stops end) = EndsSame end

  module _ (m : MachineState) (s : Stands m) where
    abbrev Here : ℕ → Type 0
    Here to = Reached (length m.frames) to

    on_with : (to : ℕ) (d : Desk) (p : Progress) → Here to → HoldSame at m.desk.state d.state → Stands (record { at = to; desk = d; frames = m.frames; progress = p })
    on_with to d p reached same = record { here = reached; shallow = s.shallow; callers = s.callers; same = and_then at before m.desk.state d.state s.same same }

    desk_stands : (o : Option Desk) → Here (m.at + 1) → DeskSame at m.desk o → StandsNext (on_desk o m)
    desk_stands None next same = tt
    desk_stands (Some d) next same = on_with (m.at + 1) d m.progress next same

    result_stands : (o : Option (Result Desk Fault)) → Here (m.at + 1) → ResultSame at m.desk o → StandsNext (on_result o m)
    result_stands None next same = tt
    result_stands (Some (Err fault)) next same = tt
    result_stands (Some (Ok d)) next same = on_with (m.at + 1) d (with_event Did m.progress) next same

    output_stands : (n : ℕ) (o : Option OutputPart) → Here (m.at + 1) → StandsNext (on_output n o m)
    output_stands n None next = tt
    output_stands n (Some output) next = on_with (m.at + 1) m.desk (with_written n (values_of_slots (column_slots output) m.desk.state.slots) m.progress) next (itself at m.desk.state)

    texts_stand : (o : Option Taken) → Here (m.at + 1) → StandsNext (on_texts o m)
    texts_stand None next = tt
    texts_stand (Some taken) next =
        on_with (m.at + 1) (with_stack taken.below m.desk) (with_line (join_with_byte 32 (map operand_text taken.values)) m.progress) next (itself at m.desk.state)

    step_stands : (left : ℕ) (place : Place) → Here (m.at + 1) → StandsNext (on_step left place m)
    step_stands zero place next = tt
    step_stands (suc left) place next = on_with (m.at + 1) m.desk (with_step place left m.progress) next (itself at m.desk.state)

    outcome_stands : (wanted holds : Bool) (target : ℕ) (stack : Row) → Here (m.at + 1) → Here target → StandsNext (on_outcome wanted holds target stack m)
    outcome_stands true true target stack next there = on_with target (with_stack stack m.desk) (with_event (Tested true) m.progress) there (itself at m.desk.state)
    outcome_stands true false target stack next there = on_with (m.at + 1) (with_stack stack m.desk) (with_event (Tested false) m.progress) next (itself at m.desk.state)
    outcome_stands false true target stack next there = on_with (m.at + 1) (with_stack stack m.desk) (with_event (Tested true) m.progress) next (itself at m.desk.state)
    outcome_stands false false target stack next there = on_with target (with_stack stack m.desk) (with_event (Tested false) m.progress) there (itself at m.desk.state)

    condition_stands : (wanted : Bool) (target : ℕ) (stack : Row) → Here (m.at + 1) → Here target → StandsNext (on_condition wanted target stack m)
    condition_stands wanted target [] next there = tt
    condition_stands wanted target (v ∷ stack) next there = outcome_stands wanted (is_true v) target stack next there

    arguments_stand : (number : ℕ) (method : MethodPart) (o : Option Taken) (left : ℕ) (room : Bool) → (room ≡ true → length m.frames < CALL_DEPTH) → Here (m.at + 1)
        → Reached (suc (length m.frames)) method.entry → StandsNext (on_arguments number method o left room m)
    arguments_stand number method None left room fits next there = tt
    arguments_stand number method (Some taken) zero room fits next there = tt
    arguments_stand number method (Some taken) (suc left) false fits next there = tt
    arguments_stand number method (Some taken) (suc left) true fits next there =
        let less : length m.frames < CALL_DEPTH = fits refl in
        record { here = there; shallow = omega (arith, less); callers = (next, s.callers); same = s.same }

    method_stands : (number : ℕ) (o : Option MethodPart) → Here (m.at + 1) → ((method : MethodPart) → o ≡ Some method → Reached (suc (length m.frames)) method.entry) → StandsNext (on_method number o m)
    method_stands number None next there = tt
    method_stands number (Some method) next there =
        arguments_stand number method (take_off (length method.parameters) [] m.desk.stack) m.progress.left (nat_lt (length m.frames) CALL_DEPTH)
        (λ e. ltb-true (length m.frames) CALL_DEPTH e) next (there method refl)

    callee_stands : (result : Row) (o : Option MethodPart) (frame : CallFrame) (frames : List CallFrame) → frame ∷ frames ≡ m.frames → Reached (length frames) frame.to → CallersReached frames
        → StandsNext (on_callee result o frame frames m)
    callee_stands result None frame frames e back others = tt
    callee_stands result (Some method) frame frames e back others =
        let least : suc (length frames) ≤ CALL_DEPTH = subst (λ (fs : List CallFrame). length fs ≤ CALL_DEPTH) (sym e) s.shallow in
        record { here = back; shallow = omega (arith, least); callers = others; same = s.same }

    return_stands : (o : Option Row) (frames : List CallFrame) → frames ≡ m.frames → CallersReached frames → StandsNext (on_return code o frames m)
    return_stands None frames e callers = tt
    return_stands (Some result) [] e callers = tt
    return_stands (Some result) (frame ∷ frames) e callers = callee_stands result (slice_get code.methods frame.callee) frame frames e callers.0 callers.1

    -- an instruction that changes another location, from which a run goes on to what is reached
    kind_stands : (k : Kind) → (falls_through k ≡ true → Here (m.at + 1)) → ((target : ℕ) → jump_target k ≡ Some target → Here target)
        → ((number : ℕ) (method : MethodPart) → k ≡ Enters number → slice_get code.methods number ≡ Some method → Reached (suc (length m.frames)) method.entry)
        → kind_changes code k at ≡ false → StandsNext (perform code k m)
    kind_stands (Pure n f) next there call calm = desk_stands (with_value_for f (take_off n [] m.desk.stack) m.desk) (next refl) (value_same code at m.desk f (take_off n [] m.desk.stack))
    kind_stands (Partial n f) next there call calm = result_stands (with_result_for f (take_off n [] m.desk.stack) m.desk) (next refl) (result_same code at m.desk f (take_off n [] m.desk.stack))
    kind_stands (Loads source) next there call calm = on_with (m.at + 1) (pushed (loaded_value code.constants source m.desk) m.desk) m.progress (next refl) (itself at m.desk.state)
    kind_stands (Stores target) next there call calm = desk_stands (top_into target m.desk.stack m.desk) (next refl) (into_same code at m.desk target m.desk.stack calm)
    kind_stands Drops next there call calm = desk_stands (without_top m.desk.stack m.desk) (next refl) (dropped_same code at m.desk m.desk.stack)
    kind_stands (CallsHash f h) next there call calm =
        desk_stands (hash_called code f h (slice_get code.hashes h) m.desk) (next refl) (hash_same code at m.desk f h (slice_get code.hashes h) refl calm)
    kind_stands (CallsIterator f i) next there call calm =
        desk_stands (iterator_called code f i (slice_get code.iterators i) m.desk) (next refl) (iterator_same at code m.desk f i (slice_get code.iterators i) refl calm)
    kind_stands (Writes n) next there call calm = output_stands n (slice_get code.outputs n) (next refl)
    kind_stands (Puts n) next there call calm = texts_stand (take_off n [] m.desk.stack) (next refl)
    kind_stands (Ticks place) next there call calm = step_stands m.progress.left place (next refl)
    kind_stands (Jumps target) next there call calm = on_with target m.desk m.progress (there target refl) (itself at m.desk.state)
    kind_stands (Tests wanted target) next there call calm = condition_stands wanted target m.desk.stack (next refl) (there target refl)
    kind_stands (Enters number) next there call calm = method_stands number (slice_get code.methods number) (next refl) (λ method found. call number method refl found)
    kind_stands (GoesBack has_result) next there call calm = return_stands (method_result has_result m.desk.stack) m.frames refl s.callers
    kind_stands (Raises fault) next there call calm = tt
    kind_stands Finishes next there call calm = s.same

    instruction_stands : IsUnchangedFrom code entry at → (o : Option Instr) → slice_get code.instrs m.at ≡ o → StandsNext (after_instruction code o m)
    instruction_stands unchanged None found = tt
    instruction_stands unchanged (Some i) found =
        kind_stands (kind_of i)
        (λ falls. one_on (length m.frames) m.at (m.at + 1) s.here (record { instr = i; here = found; goes = inl (falls, refl) }))
        (λ target jumps. one_on (length m.frames) m.at target s.here (record { instr = i; here = found; goes = inr jumps }))
        (λ number method enters listed. one_in (length m.frames) m.at method.entry s.here
        (record { instr = i; here = found; number = number; calls = enters; method = method; listed = listed; begins = refl }))
        (unchanged m.at i (s.here.0, length m.frames, s.shallow, s.here.1) found)

  -- ---- a run

  one_less : (r : CodeRun) (n : ℕ) (end : CodeEnd) → and_one r ≡ Over n end → (k : ℕ) × (r ≡ Over k end)
  one_less (UnderWay m) n end e = absurd cc
  one_less (Over k other) n end e = let same : other ≡ end = cc in (k, ap (λ x. Over k x) same)

  on_from : (x : NextState) (go : MachineState → CodeRun) (n : ℕ) (end : CodeEnd) → ((u : MachineState) (k : ℕ) → Stands u → go u ≡ Over k end → EndsSame end) → StandsNext x
      → then_run x go ≡ Over n end → EndsSame end
  on_from (GoesOn u) go n end later stands e = let it = one_less (go u) n end e in later u it.0 stands it.1
  on_from (Stops other) go n end later stands e = let same : other ≡ end = cc in subst EndsSame same stands

  run_same : IsUnchangedFrom code entry at → (n : ℕ) (m : MachineState) (k : ℕ) (end : CodeEnd) → Stands m → run_code code n m ≡ Over k end → EndsSame end
  run_same unchanged zero m k end s e = absurd cc
  run_same unchanged (suc n) m k end s e =
      on_from (after_instruction code (slice_get code.instrs m.at) m) (run_code code n) k end (λ u j stands f. run_same unchanged n u j end stands f)
      (instruction_stands m s unchanged (slice_get code.instrs m.at) refl) e

-- ---- units

ended_so : (r : CodeRun) (after : ProgramData) (unit : Progress) (executed : ℕ) → outcome_of_run r ≡ Completed after unit executed → r ≡ Over executed (EndReached after unit)
ended_so (Over n (EndReached state p)) after unit executed e = cc
ended_so (Over n (Broken fault p)) after unit executed e = absurd cc
ended_so (Over n Stuck) after unit executed e = absurd cc
ended_so (UnderWay m) after unit executed e = absurd cc

-- a unit from an entry
unit_same : (code : ProgramParts) (entry budget : ℕ) (before after : ProgramData) (unit : Progress) (executed : ℕ) (location : DataLocation) → IsUnchangedFrom code entry location
    → code_unit code entry budget before ≡ Completed after unit executed → HoldSame location before after
unit_same code entry budget before after unit executed at unchanged e =
    let begun = unit_begun entry budget before in
    run_same code entry at before unchanged (most_executed code budget) begun executed (EndReached after unit)
    (record { here = (0, (refl, refl)); shallow = omega arith; callers = tt; same = itself at before })
    (ended_so (run_code code (most_executed code budget) begun) after unit executed e)

-- ---- `run`

kept_role : (role : SlotRole) (v : Value) → is_kept_role role ≡ true → Some v ≡ Some (null_where_cleared role v)
kept_role Cleared v kept = absurd (true≢false (sym kept))
kept_role Kept v kept = refl
kept_role Column v kept = refl
kept_role Flag v kept = refl

uncleared : (slots : List Slot) (row : Row) (n : ℕ) → option_map_or (λ (slot : Slot). is_kept_role slot.role) (slice_get slots n) false ≡ true → slice_get row n ≡ slice_get (without_cleared slots row) n
uncleared [] row n kept = refl
uncleared (s ∷ slots) [] n kept = refl
uncleared (s ∷ slots) (v ∷ row) zero kept = kept_role s.role v kept
uncleared (s ∷ slots) (v ∷ row) (suc n) kept = uncleared slots row n kept

other_slot : (b : Bool) (code : ProgramParts) (n m : ℕ) → nat_eq m n ≡ b → is_kept_in_code code (SlotAt n) ≡ false → is_kept_in_code code (SlotAt m) ≡ true → b ≡ false
other_slot true code n m e unkept kept = absurd (true≢false (sym kept ∙ ap (λ k. is_kept_in_code code (SlotAt k)) (eqb-true m n e) ∙ unkept))
other_slot false code n m e unkept kept = refl

unset : (code : ProgramParts) (load : SlotSettings) (row : Row) (m : ℕ) → SetsNoKeptSlot code load → is_kept_in_code code (SlotAt m) ≡ true → slice_get row m ≡ slice_get (with_slot_settings load row) m
unset code [] row m sets kept = refl
unset code (set ∷ load) row m sets kept =
    get_set_other row set.0 m set.1 (other_slot (nat_eq m set.0) code set.0 m refl sets.0 kept) ∙ unset code load (slice_set row set.0 set.1) m sets.1 kept

loaded_same : (code : ProgramParts) (load : SlotSettings) (d : ProgramData) (at : DataLocation) → SetsNoKeptSlot code load → is_kept_in_code code at ≡ true
    → HoldSame at d (with_slots (with_slot_settings load (without_cleared code.slots d.slots)) d)
loaded_same code load d (SlotAt n) sets kept = uncleared code.slots d.slots n kept ∙ unset code load (without_cleared code.slots d.slots) n sets kept
loaded_same code load d (HashAt n) sets kept = refl
loaded_same code load d (IteratorAt n) sets kept = refl
loaded_same code load d (ParameterAt n) sets kept = refl

pub runs_leave_fixed_in_code : RunsLeaveFixedInCode
runs_leave_fixed_in_code code budget load before after unit executed at fixed sets e =
    let loaded = with_slots (with_slot_settings load (without_cleared code.slots before.slots)) before in
    and_then at before loaded after (loaded_same code load before at sets fixed.kept) (unit_same code code.run budget loaded after unit executed at fixed.unchanged e)
