-- What holds before a unit holds behind it, whichever unit comes next.
use Rattle.std.proofs.Common.{◌≡◌, ◌⊎◌, inl, inr, ℕ, zero, suc, ◌+◌, ◌-◌, ◌<◌, ◌≤◌, nat_lt, nat_le, true, false, not, ◌&&◌, ◌||◌, List, [], ◌∷◌, ◌++◌, length, map, slice_get, bytes_eq, codes, Option, Some, None, IsTrue, refl, sym, ap, ◌∙◌, subst, arith, lt-ltb, le-ltb, le-leb, length-append, if◌then◌else◌}
use Rattle.std.specs.Option.{option_map}
use Rattle.std.proofs.lemmas.Bool.{and_from, and_left, and_right, and_parts, or_left, or_right, not-true, not_from_false, lt-leb, cases_lt}
use Rattle.std.proofs.lemmas.List.{length-map}
use Rattle.std.proofs.lemmas.Slice.Eq.{bytes_eq-Decides}
use Rattle.ds2_value.specs.Progress.{UnitOutcome, Completed, Interrupted, Strayed}
use Rattle.ds2_value.specs.declared.ty.Ty.{Ty}
use Rattle.ds2_value.specs.declared.value.Value.{Value}
use Rattle.ds2_meaning.specs.declared.globals.Variable.{Variable}
use Rattle.ds2_meaning.specs.IsTyped.{are_distinct, variable_names, IsTypedUnit}
use Rattle.ds2_meaning.specs.Location.{Storage}
use Rattle.ds2_meaning.specs.ProgramMeaning.{program_units}
use Rattle.ds2_meaning.specs.ProgramTree.{BodyTree, UnitTree, is_listed}
use Rattle.ds2_layout.specs.Layout.{program_slots, location_of_slot}
use Rattle.ds2_code.specs.declared.parts.Slot.{Slot}
use Rattle.ds2_code.specs.declared.parts.SlotRole.TheVariants.{Kept}
use Rattle.ds2_code.specs.CodeUnit.{code_init, code_run, code_term}
use Rattle.ds2_code.specs.Desk.{ProgramData}
use Rattle.ds2_gen.specs.CodeCells.{LocalNamed, SlotCell, LeaveReserved}
use Rattle.ds2_gen.specs.StatementCode.{statements_keep}
use Rattle.ds2_gen.specs.UnitCode.{data_cells, HoldsStorage, EndsAlike}
use Rattle.ds2_gen.specs.UnitTheorem.{KeepsMeaning}
use Rattle.ds2_program_code.specs.KeptTypes.{all_types_kept, EachValueHasType}
use Rattle.ds2_program_code.specs.PlacedProgram.{number_of_name, own_slots, layout_size, first_of_run, first_of_term, is_numbered_among, names_of_variables, is_kept_slot, system_cell, system_placement}
use Rattle.ds2_program_code.specs.CodeParts.{layout_slot, own_types, slots_of_body, code_slots}
use Rattle.ds2_program_code.specs.LoadSettings.{slot_settings, table_load, stage_load, LoadsHaveSlots, TypedLoadsHaveSlots}
use Rattle.ds2_program_code.specs.ProgramCode.{program_code}
use Rattle.ds2_program_code.specs.ProgramCodeLaws.{TypedProgramsKeepMeaning}
use Rattle.ds2_program_code.specs.ProgramRuns.{HoldsProgram, EndsLikeUnit, TypedUnitsRunAsMeant}
use Rattle.ds2_program_code.proofs.Homes.{apart_names_by}
use Rattle.ds2_program_code.proofs.Lists.{same_some, bytes_swap, bytes_self, number_inside, slice_mapped, slice_below, any_at}

-- ---- sums

two_of_four : (a b c d : ℕ) → a + b ≤ a + (b + (c + d))
two_of_four a b c d = omega arith

three_of_four : (a b c d : ℕ) → a + b + c ≤ a + (b + (c + d))
three_of_four a b c d = omega arith

all_of_four : (a b c d : ℕ) → a + b + c + d ≤ a + (b + (c + d))
all_of_four a b c d = omega arith

at_least : (a : ℕ) → a ≤ a
at_least a = omega arith

one_of_two : (a b : ℕ) → a ≤ a + b
one_of_two a b = omega arith

one_of_three : (a b c : ℕ) → a ≤ a + b + c
one_of_three a b c = omega arith

refilled : (a n : ℕ) → a ≤ n → a + (n - a) ≡ n
refilled a n h = omega arith

left_below : (a b n : ℕ) → a ≤ n → n < a + b → n - a < b
left_below a b n h k = omega arith

above_least : (a b k n : ℕ) → a ≤ b → b + k ≡ n → a ≤ n
above_least a b k n h e = omega arith

below_most : (a b c k l m n : ℕ) → a + (b + c) ≤ m → a + k ≡ n → k < l → l ≡ b → n < m
below_most a b c k l m n h e less same = omega arith

value_above : (a b c k : ℕ) → a ≤ b → a ≤ b + c + k
value_above a b c k h = omega arith

value_below : (a b c k m : ℕ) → a + (b + c) ≤ m → k < c → a + b + k < m
value_below a b c k m h less = omega arith

before_first : (a b n : ℕ) → n < a → n < a + b + 0
before_first a b n h = omega arith

same_slot : (k n : ℕ) → SlotCell k ≡ SlotCell n → k ≡ n
same_slot k n e = cc

-- ---- numbers of distinct names

first_by : (name x : List ℕ) (o : Option ℕ) → x ≡ name → (if bytes_eq name x then Some 0 else option_map (λ k. suc k) o) ≡ Some 0
first_by name x o same = ap (λ b. if b then Some 0 else option_map (λ k. suc k) o) ((bytes_eq-Decides name x).1 (sym same))

later_by : (name x : List ℕ) (o : Option ℕ) (k : ℕ) → bytes_eq x name ≡ false → o ≡ Some k → (if bytes_eq name x then Some 0 else option_map (λ i. suc i) o) ≡ Some (suc k)
later_by name x o k other e = ap (λ b. if b then Some 0 else option_map (λ i. suc i) o) (bytes_swap name x ∙ other) ∙ ap (λ p. option_map (λ i. suc i) p) e

pub number_at : (names : List (List ℕ)) (k : ℕ) (name : List ℕ) → IsTrue (are_distinct names) → slice_get names k ≡ Some name → number_of_name names name ≡ Some k
number_at [] k name distinct e = absurd cc
number_at (x ∷ names) zero name distinct e = first_by name x (number_of_name names name) (same_some x name e)
number_at (x ∷ names) (suc k) name distinct e =
    let parts = and_parts (not (is_listed names x)) (are_distinct names) distinct in
    let there : is_listed names name ≡ true = any_at (λ other. bytes_eq other name) names k name e (bytes_self name) in
    later_by name x (number_of_name names name) k (apart_names_by (bytes_eq x name) names x name refl (not-true (is_listed names x) parts.0) there) (number_at names k name parts.1 e)

-- ---- the slots of one system method

located_slot : (first : ℕ) (o : Option ℕ) (n : ℕ) → option_map (λ k. SlotCell (first + k)) o ≡ Some (SlotCell n) → (k : ℕ) × (o ≡ Some k) × (first + k ≡ n)
located_slot first None n e = absurd cc
located_slot first (Some k) n e = (k, refl, same_slot (first + k) n (same_some (SlotCell (first + k)) (SlotCell n) e))

-- a slot behind the layout's that is none of the method's own is reserved
reserved_by : (size first locals values n : ℕ) → size ≤ n → is_numbered_among first locals n ≡ false → (nat_lt n (first + locals + 0) || not (is_numbered_among (first + locals) values n)) ≡ true → is_kept_slot size first locals values 0 n ≡ true
reserved_by size first locals values n least apart rest =
    and_from (nat_le size n) (not (is_numbered_among first locals n) && (nat_lt n (first + locals + 0) || not (is_numbered_among (first + locals) values n))) (le-leb size n least)
    (and_from (not (is_numbered_among first locals n)) (nat_lt n (first + locals + 0) || not (is_numbered_among (first + locals) values n)) (not_from_false (is_numbered_among first locals n) apart) rest)

module _ (p : UnitTree) (first : ℕ) (body : BodyTree) (least : layout_size p ≤ first) (most : first + own_slots body ≤ length (code_slots p)) where
  before_unit : (kept : Storage) (state : ProgramData) → HoldsProgram p kept state → HoldsStorage (system_placement p first body) kept state
  before_unit kept state holds = record {
    globals = holds.globals;
    slots = λ name n here.
        let it = located_slot first (number_of_name (names_of_variables body.locals) name) n here in
        let inside : it.0 < length (names_of_variables body.locals) = number_inside (λ other. bytes_eq name other) (names_of_variables body.locals) it.0 it.1 in
        holds.own n (above_least (layout_size p) first it.0 n least it.2)
        (below_most first (length body.locals) (statements_keep body.statements) it.0 (length (names_of_variables body.locals)) (length (code_slots p)) n most it.2 inside (length-map body.locals (λ (v : Variable). v.name)));
    room = λ k less.
        holds.own (first + length body.locals + k) (value_above (layout_size p) first (length body.locals) k least)
        (value_below first (length body.locals) (statements_keep body.statements) k (length (code_slots p)) most less);
  }

  module _ (distinct : IsTrue (are_distinct (variable_names body.locals))) (kept : Storage) (before after : ProgramData) (holds : HoldsStorage (system_placement p first body) kept after)
      (leaves : LeaveReserved (system_placement p first body) 0 (data_cells before) (data_cells after))
      (own : (n : ℕ) → layout_size p ≤ n → n < length (code_slots p) → (v : Value) × (slice_get before.slots n ≡ Some v)) where
    left_alone : (n : ℕ) → layout_size p ≤ n → n < length (code_slots p) → is_kept_slot (layout_size p) first (length body.locals) (statements_keep body.statements) 0 n ≡ true → (v : Value) × (slice_get after.slots n ≡ Some v)
    left_alone n h k is = let it = own n h k in (it.0, sym (leaves (SlotCell n) is) ∙ it.1)

    of_local : (n : ℕ) → first ≤ n → n < first + length body.locals → (v : Value) × (slice_get after.slots n ≡ Some v)
    of_local n h k =
        let it = slice_below body.locals (n - first) (left_below first (length body.locals) n h k) in
        let name : List ℕ = Variable.name it.0 in
        let listed : slice_get (names_of_variables body.locals) (n - first) ≡ Some name =
        slice_mapped (λ (v : Variable). v.name) body.locals (n - first) ∙ ap (λ o. option_map (λ (v : Variable). v.name) o) it.1 in
        let cell : system_cell p first body (LocalNamed name) ≡ Some (SlotCell n) =
        ap (λ o. option_map (λ i. SlotCell (first + i)) o) (number_at (names_of_variables body.locals) (n - first) name distinct listed) ∙ ap (λ i. Some (SlotCell i)) (refilled first n h) in
        holds.slots name n cell

    of_value : (n : ℕ) → first + length body.locals ≤ n → n < first + length body.locals + statements_keep body.statements → (v : Value) × (slice_get after.slots n ≡ Some v)
    of_value n h k =
        let it = holds.room (n - (first + length body.locals)) (left_below (first + length body.locals) (statements_keep body.statements) n h k) in
        (it.0, ap (λ i. slice_get after.slots i) (sym (refilled (first + length body.locals) n h)) ∙ it.1)

    behind_first : (n : ℕ) → layout_size p ≤ n → n < length (code_slots p) → first ≤ n → (n < first + length body.locals) ⊎ (first + length body.locals ≤ n)
        → (n < first + length body.locals + statements_keep body.statements) ⊎ (first + length body.locals + statements_keep body.statements ≤ n) → (v : Value) × (slice_get after.slots n ≡ Some v)
    behind_first n h k from (inl less) other = of_local n from less
    behind_first n h k from (inr past) (inl less) = of_value n past less
    behind_first n h k from (inr past) (inr behind) =
        left_alone n h k
        (reserved_by (layout_size p) first (length body.locals) (statements_keep body.statements) n h
        (and_right (nat_le first n) (nat_lt n (first + length body.locals)) (le-ltb n (first + length body.locals) past))
        (or_right (nat_lt n (first + length body.locals + 0)) (not (is_numbered_among (first + length body.locals) (statements_keep body.statements) n))
        (not_from_false (is_numbered_among (first + length body.locals) (statements_keep body.statements) n)
        (and_right (nat_le (first + length body.locals) n) (nat_lt n (first + length body.locals + statements_keep body.statements)) (le-ltb n (first + length body.locals + statements_keep body.statements) behind)))))

    own_by : (n : ℕ) → layout_size p ≤ n → n < length (code_slots p) → (n < first) ⊎ (first ≤ n) → (v : Value) × (slice_get after.slots n ≡ Some v)
    own_by n h k (inl less) =
        left_alone n h k
        (reserved_by (layout_size p) first (length body.locals) (statements_keep body.statements) n h
        (and_left (nat_le first n) (nat_lt n (first + length body.locals)) (lt-leb first n less))
        (or_left (nat_lt n (first + length body.locals + 0)) (not (is_numbered_among (first + length body.locals) (statements_keep body.statements) n)) (lt-ltb n (first + length body.locals + 0) (before_first first (length body.locals) n less))))
    own_by n h k (inr from) =
        behind_first n h k from (cases_lt n (first + length body.locals)) (cases_lt n (first + length body.locals + statements_keep body.statements))

    behind_unit : HoldsProgram p kept after
    behind_unit = record { globals = holds.globals; own = λ n h k. own_by n h k (cases_lt n first) }

  ends_like : (distinct : IsTrue (are_distinct (variable_names body.locals))) (before : ProgramData) → ((n : ℕ) → layout_size p ≤ n → n < length (code_slots p) → (v : Value) × (slice_get before.slots n ≡ Some v))
      → (done : UnitOutcome ProgramData) (meant : UnitOutcome Storage) → EndsAlike (system_placement p first body) before done meant → EndsLikeUnit p done meant
  ends_like distinct before own (Completed state q executed) (Completed kept r none) h = (h.0, behind_unit distinct kept before state h.1 h.2 own)
  ends_like distinct before own (Completed state q executed) (Interrupted other r none) h = absurd h
  ends_like distinct before own (Completed state q executed) Strayed h = absurd h
  ends_like distinct before own (Interrupted fault q executed) (Completed kept r none) h = absurd h
  ends_like distinct before own (Interrupted fault q executed) (Interrupted other r none) h = h
  ends_like distinct before own (Interrupted fault q executed) Strayed h = absurd h
  ends_like distinct before own Strayed (Completed kept r none) h = absurd h
  ends_like distinct before own Strayed (Interrupted other r none) h = absurd h
  ends_like distinct before own Strayed Strayed h = absurd h

-- ---- how many slots there are

-- the slot of a system method of this name for a type
abbrev slot_of_type : List ℕ → Ty → Slot
slot_of_type name ty = record { name = name; ty = ty; role = Kept }

module _ (values : EachValueHasType) where
  own_count : (body : BodyTree) → length (own_types body) ≡ own_slots body
  own_count body =
      length-append (map (λ (v : Variable). v.ty) body.locals) (all_types_kept body.statements)
      ∙ ap (λ n. n + length (all_types_kept body.statements)) (length-map body.locals (λ (v : Variable). v.ty))
      ∙ ap (λ n. length body.locals + n) (values body.statements)

  body_count : (name : List ℕ) (body : BodyTree) → length (slots_of_body name body) ≡ own_slots body
  body_count name body = length-map (own_types body) (slot_of_type name) ∙ own_count body

  pub slot_count : (p : UnitTree) → length (code_slots p) ≡ layout_size p + (own_slots p.init + (own_slots p.run + own_slots p.term))
  slot_count p =
      let init = slots_of_body (codes "init") p.init in
      let run = slots_of_body (codes "run") p.run in
      let term = slots_of_body (codes "term") p.term in
      let layout : length (map layout_slot (program_slots p)) ≡ layout_size p = length-map (program_slots p) layout_slot ∙ sym (length-map (program_slots p) location_of_slot) in
      length-append (map layout_slot (program_slots p)) (init ++ (run ++ term))
      ∙ ap (λ n. n + length (init ++ (run ++ term))) layout
      ∙ ap (λ n. layout_size p + n)
      (length-append init (run ++ term)
      ∙ ap (λ n. n + length (run ++ term)) (body_count (codes "init") p.init)
      ∙ ap (λ n. own_slots p.init + n)
      (length-append run term ∙ ap (λ n. n + length term) (body_count (codes "run") p.run) ∙ ap (λ n. own_slots p.run + n) (body_count (codes "term") p.term)))

  init_most : (p : UnitTree) → layout_size p + own_slots p.init ≤ length (code_slots p)
  init_most p = subst (λ n. layout_size p + own_slots p.init ≤ n) (sym (slot_count p)) (two_of_four (layout_size p) (own_slots p.init) (own_slots p.run) (own_slots p.term))

  run_most : (p : UnitTree) → first_of_run p + own_slots p.run ≤ length (code_slots p)
  run_most p = subst (λ n. first_of_run p + own_slots p.run ≤ n) (sym (slot_count p)) (three_of_four (layout_size p) (own_slots p.init) (own_slots p.run) (own_slots p.term))

  term_most : (p : UnitTree) → first_of_term p + own_slots p.term ≤ length (code_slots p)
  term_most p = subst (λ n. first_of_term p + own_slots p.term ≤ n) (sym (slot_count p)) (all_of_four (layout_size p) (own_slots p.init) (own_slots p.run) (own_slots p.term))

-- ---- the units

pub typed_units_run_as_meant : EachValueHasType → TypedLoadsHaveSlots → TypedProgramsKeepMeaning → TypedUnitsRunAsMeant
typed_units_run_as_meant values slots keeps p typed =
    let means = keeps p typed in
    let loads = slots p typed in
    let place = system_placement p (first_of_run p) p.run in
    record {
      in_init = λ budget kept state holds.
          ends_like p (layout_size p) p.init (at_least (layout_size p)) (init_most values p) (IsTypedUnit.init typed).0.1 state holds.own (code_init (program_code p) budget state) ((program_units p budget).init kept)
          (KeepsMeaning.in_init means budget kept state (before_unit p (layout_size p) p.init (at_least (layout_size p)) (init_most values p) kept state holds));
      over_tables = λ tables load budget kept state holds.
          let set = table_load p tables load in
          ends_like p (first_of_run p) p.run (one_of_two (layout_size p) (own_slots p.init)) (run_most values p) (IsTypedUnit.run typed).0.1 state holds.own (code_run (program_code p) budget (slot_settings p set) state) ((program_units p budget).run set kept)
          (KeepsMeaning.in_run means budget set (slot_settings p set) kept state (LoadsHaveSlots.over_tables loads tables load) (before_unit p (first_of_run p) p.run (one_of_two (layout_size p) (own_slots p.init)) (run_most values p) kept state holds));
      of_rows = λ row budget kept state holds.
          let set = stage_load p row in
          ends_like p (first_of_run p) p.run (one_of_two (layout_size p) (own_slots p.init)) (run_most values p) (IsTypedUnit.run typed).0.1 state holds.own (code_run (program_code p) budget (slot_settings p set) state) ((program_units p budget).run set kept)
          (KeepsMeaning.in_run means budget set (slot_settings p set) kept state (LoadsHaveSlots.of_rows loads row) (before_unit p (first_of_run p) p.run (one_of_two (layout_size p) (own_slots p.init)) (run_most values p) kept state holds));
      in_term = λ budget kept state holds.
          ends_like p (first_of_term p) p.term (one_of_three (layout_size p) (own_slots p.init) (own_slots p.run)) (term_most values p) (IsTypedUnit.term typed).0.1 state holds.own (code_term (program_code p) budget state) ((program_units p budget).term kept)
          (KeepsMeaning.in_term means budget kept state (before_unit p (first_of_term p) p.term (one_of_three (layout_size p) (own_slots p.init) (own_slots p.run)) (term_most values p) kept state holds));
    }
