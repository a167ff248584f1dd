-- The iterators of a hash object stand elsewhere, and data are copied into variables, in the meaning and in the code.
use Rattle.std.proofs.Common.{◌≡◌, ℕ, zero, suc, Bool, true, false, ◌&&◌, ◌||◌, List, [], ◌∷◌, bytes_eq, Option, Some, None, refl, sym, ap, ◌∙◌, subst, if◌then◌else◌}
use Rattle.std.specs.Prelude.{IsTrue, nat_eq, not, slice_get}
use Rattle.std.proofs.lemmas.Bool.{true≢false}
use Rattle.std.proofs.lemmas.Slice.Eq.{bytes_eq-Decides}
use Rattle.ds2_value.specs.HashList.{Shift, shifted}
use Rattle.ds2_value.specs.Row.{Row}
use Rattle.ds2_value.specs.Value.{or_null}
use Rattle.ds2_value.specs.declared.value.Value.{Value}
use Rattle.ds2_meaning.specs.declared.hashes.DeclaredHash.{DeclaredHash}
use Rattle.ds2_meaning.specs.declared.hashes.DeclaredIterator.{DeclaredIterator}
use Rattle.ds2_meaning.specs.declared.hashes.HashVariable.{HashVariable}
use Rattle.ds2_meaning.specs.declared.location.Reference.TheVariants.{At}
use Rattle.ds2_meaning.specs.HashObjects.{hash_named, iterator_named, object_at, position_of, values_of_variables, with_values_stored, with_data_copied, with_iterator_shifted, with_iterators_shifted}
use Rattle.ds2_meaning.specs.IsTyped.{are_distinct}
use Rattle.ds2_meaning.specs.Location.{Home, Location, is_same_home, is_same_location, Content, Holds, Position, position_held}
use Rattle.ds2_meaning.specs.ProgramTree.{is_listed}
use Rattle.ds2_meaning.specs.RunState.{RunState, Locals, variable_value, store, keep_at}
use Rattle.ds2_code.specs.declared.parts.HashPart.{HashPart}
use Rattle.ds2_code.specs.declared.parts.ProgramParts.{ProgramParts}
use Rattle.ds2_code.specs.Desk.{with_slots, values_of_slots, with_values_in}
use Rattle.ds2_code.specs.HashCalls.{with_copied, all_shifted}
use Rattle.ds2_gen.specs.CodeCells.{Nameable, GlobalAt, LocalNamed, nameable_of, content_of, CodeCell, SlotCell, LocalCell, HashCell, IteratorCell, ParameterCell, Cells, CellHas, IsValueCell, IsPlacement, HoldState, LeaveReserved}
use Rattle.ds2_gen.specs.CoveredObjects.{AreVariableSlots, iterator_names, is_walking, walks_hash, IsWalker, IteratorsFit}
use Rattle.ds2_gen.specs.ExpressionCode.{CodeNumbers}
use Rattle.ds2_gen.proofs.CellLemmas.{both, or_turned, location_is, some_is, with_cell, same_cell, same_cell_on, holds_stored, reserved_stored}

-- ---- names

hash_chosen : (b : Bool) (x : DeclaredHash) (name : List ℕ) (h : DeclaredHash) (others : Option DeclaredHash) → (others ≡ Some h → h.name ≡ name) → bytes_eq x.name name ≡ b → (if b then Some x else others) ≡ Some h → h.name ≡ name
hash_chosen true x name h others rest same e = ap (λ (y : DeclaredHash). y.name) (sym (some_is x h e)) ∙ (bytes_eq-Decides x.name name).0 same
hash_chosen false x name h others rest same e = rest e

-- the hash object that is found has the name that was looked for
pub hash_name : (hashes : List DeclaredHash) (name : List ℕ) (h : DeclaredHash) → hash_named hashes name ≡ Some h → h.name ≡ name
hash_name [] name h e = absurd cc
hash_name (x ∷ hashes) name h e = hash_chosen (bytes_eq x.name name) x name h (hash_named hashes name) (hash_name hashes name h) refl e

iterator_chosen : (b : Bool) (x : DeclaredIterator) (name : List ℕ) (i : DeclaredIterator) (others : Option DeclaredIterator) → (others ≡ Some i → i.name ≡ name) → bytes_eq x.name name ≡ b → (if b then Some x else others) ≡ Some i → i.name ≡ name
iterator_chosen true x name i others rest same e = ap (λ (y : DeclaredIterator). y.name) (sym (some_is x i e)) ∙ (bytes_eq-Decides x.name name).0 same
iterator_chosen false x name i others rest same e = rest e

pub iterator_name : (iterators : List DeclaredIterator) (name : List ℕ) (i : DeclaredIterator) → iterator_named iterators name ≡ Some i → i.name ≡ name
iterator_name [] name i e = absurd cc
iterator_name (x ∷ iterators) name i e = iterator_chosen (bytes_eq x.name name) x name i (iterator_named iterators name) (iterator_name iterators name i) refl e

-- ---- iterators, in the meaning

-- a content of a location, where its iterator stands elsewhere
abbrev pub with_shift : Shift → Bool → Content → Content
with_shift shift b x = if b then Position (shifted shift (position_held x)) else x

module _ (shift : Shift) (home : Home) (hash : List ℕ) where
  moved_at : (b : Bool) (at : Location) (i : DeclaredIterator) (w : RunState) → is_same_location at (object_at home i.name) ≡ b
      → (if b then Position (shifted shift (position_of home i.name w)) else w.storage at) ≡ with_shift shift b (w.storage at)
  moved_at true at i w same = ap (λ l. Position (shifted shift (position_held (w.storage l)))) (sym (location_is at (object_at home i.name) same))
  moved_at false at i w same = refl

  and_true : (a : Bool) (x : Content) → with_shift shift a x ≡ with_shift shift (a && true) x
  and_true true x = refl
  and_true false x = refl

  and_false : (a : Bool) (x : Content) → x ≡ with_shift shift (a && false) x
  and_false true x = refl
  and_false false x = refl

  one_by : (b : Bool) (at : Location) (i : DeclaredIterator) (w : RunState)
      → (if b then keep_at (object_at home i.name) (Position (shifted shift (position_of home i.name w))) w else w).storage at ≡ with_shift shift (is_same_location at (object_at home i.name) && b) (w.storage at)
  one_by true at i w = moved_at (is_same_location at (object_at home i.name)) at i w refl ∙ and_true (is_same_location at (object_at home i.name)) (w.storage at)
  one_by false at i w = and_false (is_same_location at (object_at home i.name)) (w.storage at)

  both_shifts : (a r : Bool) (x y z : Content) → (a ≡ true → r ≡ true → ⊥) → x ≡ with_shift shift r y → y ≡ with_shift shift a z → x ≡ with_shift shift (a || r) z
  both_shifts true true x y z apart e f = absurd (apart refl refl)
  both_shifts true false x y z apart e f = e ∙ f
  both_shifts false r x y z apart e f = e ∙ ap (with_shift shift r) f

  same_object : (a b : List ℕ) → is_same_location (object_at home a) (object_at home b) ≡ true → bytes_eq b a ≡ true
  same_object a b e = (bytes_eq-Decides b a).1 (sym ((bytes_eq-Decides a b).0 (both (is_same_home home home) (bytes_eq a b) e).1))

  walking_listed : (iterators : List DeclaredIterator) (name : List ℕ) → is_walking home hash iterators (object_at home name) ≡ true → is_listed (iterator_names iterators) name ≡ true
  walking_listed [] name e = e
  walking_listed (j ∷ iterators) name e =
      or_turned (is_same_location (object_at home name) (object_at home j.name) && bytes_eq j.hash hash) (bytes_eq j.name name) (is_walking home hash iterators (object_at home name)) (is_listed (iterator_names iterators) name)
      (λ a. same_object name j.name (both (is_same_location (object_at home name) (object_at home j.name)) (bytes_eq j.hash hash) a).0) (walking_listed iterators name) e

  -- iterators of other names stand at other locations
  walk_apart : (i : DeclaredIterator) (iterators : List DeclaredIterator) (at : Location) → IsTrue (not (is_listed (iterator_names iterators) i.name))
      → (is_same_location at (object_at home i.name) && bytes_eq i.hash hash) ≡ true → is_walking home hash iterators at ≡ true → ⊥
  walk_apart i iterators at distinct here later =
      let it = location_is at (object_at home i.name) (both (is_same_location at (object_at home i.name)) (bytes_eq i.hash hash) here).0 in
      let listed = walking_listed iterators i.name (ap (is_walking home hash iterators) (sym it) ∙ later) in
      true≢false (sym distinct ∙ ap not listed)

  pub shifted_storage : (iterators : List DeclaredIterator) (w : RunState) (at : Location) → IsTrue (are_distinct (iterator_names iterators))
      → (with_iterators_shifted shift home hash iterators w).storage at ≡ with_shift shift (is_walking home hash iterators at) (w.storage at)
  shifted_storage [] w at distinct = refl
  shifted_storage (i ∷ iterators) w at distinct =
      let parts = both (not (is_listed (iterator_names iterators) i.name)) (are_distinct (iterator_names iterators)) distinct in
      let u = with_iterator_shifted shift home hash i w in
      both_shifts (is_same_location at (object_at home i.name) && bytes_eq i.hash hash) (is_walking home hash iterators at) ((with_iterators_shifted shift home hash iterators u).storage at) (u.storage at) (w.storage at)
      (walk_apart i iterators at parts.0) (shifted_storage iterators u at parts.1) (one_by (bytes_eq i.hash hash) at i w)

  locals_by : (b : Bool) (i : DeclaredIterator) (w : RunState) → (if b then keep_at (object_at home i.name) (Position (shifted shift (position_of home i.name w))) w else w).locals ≡ w.locals
  locals_by true i w = refl
  locals_by false i w = refl

  pub shifted_locals : (iterators : List DeclaredIterator) (w : RunState) → (with_iterators_shifted shift home hash iterators w).locals ≡ w.locals
  shifted_locals [] w = refl
  shifted_locals (i ∷ iterators) w = shifted_locals iterators (with_iterator_shifted shift home hash i w) ∙ locals_by (bytes_eq i.hash hash) i w

  progress_by : (b : Bool) (i : DeclaredIterator) (w : RunState) → (if b then keep_at (object_at home i.name) (Position (shifted shift (position_of home i.name w))) w else w).progress ≡ w.progress
  progress_by true i w = refl
  progress_by false i w = refl

  pub shifted_progress : (iterators : List DeclaredIterator) (w : RunState) → (with_iterators_shifted shift home hash iterators w).progress ≡ w.progress
  shifted_progress [] w = refl
  shifted_progress (i ∷ iterators) w = shifted_progress iterators (with_iterator_shifted shift home hash i w) ∙ progress_by (bytes_eq i.hash hash) i w

-- ---- iterators, in the code

walker_at : (shift : Shift) (h : ℕ) (ks : List ℕ) (ps : List (Option ℕ)) (n k : ℕ) (p : Option ℕ) → slice_get ks n ≡ Some k → slice_get ps n ≡ Some p
    → slice_get (all_shifted shift h ks ps) n ≡ Some (if nat_eq k h then shifted shift p else p)
walker_at shift h [] ps n k p e f = absurd cc
walker_at shift h (x ∷ ks) [] n k p e f = absurd cc
walker_at shift h (x ∷ ks) (q ∷ ps) zero k p e f =
    ap (λ y. Some (if nat_eq y h then shifted shift q else q)) (some_is x k e) ∙ ap (λ z. Some (if nat_eq k h then shifted shift z else z)) (some_is q p f)
walker_at shift h (x ∷ ks) (q ∷ ps) (suc n) k p e f = walker_at shift h ks ps n k p e f

-- the cells with the iterators of a hash object elsewhere
abbrev pub with_walkers : ProgramParts → Shift → ℕ → Cells → Cells
with_walkers code shift h d =
    record { locals = d.locals; state = record { slots = d.state.slots; hashes = d.state.hashes; iterators = all_shifted shift h code.iterators d.state.iterators; parameters = d.state.parameters } }

position_shifted : (shift : Shift) (b : Bool) (x : Content)
    → (if b then shifted shift (position_held x) else position_held x) ≡ position_held (with_shift shift b x)
position_shifted shift true x = refl
position_shifted shift false x = refl

module _ (code : ProgramParts) (numbers : CodeNumbers) (shift : Shift) (hash : List ℕ) (h : ℕ) where
  walkers_have : (c : CodeCell) (b : Bool) (x : Content) (d : Cells) → IsWalker code h c b → CellHas c x d → CellHas c (with_shift shift b x) (with_walkers code shift h d)
  walkers_have (IteratorCell n) b x d is has =
      walker_at shift h code.iterators d.state.iterators n is.0 (position_held x) is.1 has
      ∙ ap (λ t. Some (if t then shifted shift (position_held x) else position_held x)) is.2 ∙ ap Some (position_shifted shift b x)
  walkers_have (SlotCell n) b x d is has = subst (λ t. CellHas (SlotCell n) (with_shift shift t x) (with_walkers code shift h d)) (sym is) has
  walkers_have (LocalCell n) b x d is has = subst (λ t. CellHas (LocalCell n) (with_shift shift t x) (with_walkers code shift h d)) (sym is) has
  walkers_have (HashCell n) b x d is has = subst (λ t. CellHas (HashCell n) (with_shift shift t x) (with_walkers code shift h d)) (sym is) has
  walkers_have (ParameterCell n) b x d is has = subst (λ t. CellHas (ParameterCell n) (with_shift shift t x) (with_walkers code shift h d)) (sym is) has

  walkers_room : (c : CodeCell) (v : Value) (d : Cells) → IsValueCell c → CellHas c (Holds v) d → CellHas c (Holds v) (with_walkers code shift h d)
  walkers_room (SlotCell n) v d is has = has
  walkers_room (LocalCell n) v d is has = has
  walkers_room (HashCell n) v d is has = absurd is
  walkers_room (IteratorCell n) v d is has = absurd is
  walkers_room (ParameterCell n) v d is has = absurd is

  module _ (fit : IteratorsFit code numbers hash h) (w : RunState) where
    content_shifted : (x : Nameable)
        → content_of x (with_iterators_shifted shift numbers.home hash numbers.objects.iterators w).storage (with_iterators_shifted shift numbers.home hash numbers.objects.iterators w).locals
        ≡ with_shift shift (walks_hash numbers hash x) (content_of x w.storage w.locals)
    content_shifted (GlobalAt at) = shifted_storage shift numbers.home hash numbers.objects.iterators w at fit.distinct
    content_shifted (LocalNamed name) = ap (λ (l : Locals). Holds (l name)) (shifted_locals shift numbers.home hash numbers.objects.iterators w)

    pub walkers_hold : (d : Cells) → IsPlacement numbers.placement → HoldState numbers.placement w d
        → HoldState numbers.placement (with_iterators_shifted shift numbers.home hash numbers.objects.iterators w) (with_walkers code shift h d)
    walkers_hold d sound holds = (
      (λ x c here. subst (λ y. CellHas c y (with_walkers code shift h d)) (sym (content_shifted x)) (walkers_have c (walks_hash numbers hash x) (content_of x w.storage w.locals) d (fit.walking x c here) (holds.0 x c here))),
      (λ n less. ((holds.1 n less).0, walkers_room (numbers.placement.kept_cell n) (holds.1 n less).0 d (sound.values n less) (holds.1 n less).1)),
    )

  pub walkers_reserved : (fit : IteratorsFit code numbers hash h) (kept : ℕ) (d : Cells) → LeaveReserved numbers.placement kept d (with_walkers code shift h d)
  walkers_reserved fit kept d (SlotCell n) is = refl
  walkers_reserved fit kept d (LocalCell n) is = refl
  walkers_reserved fit kept d (HashCell n) is = refl
  walkers_reserved fit kept d (IteratorCell n) is = absurd (true≢false (sym is ∙ fit.unreserved kept n))
  walkers_reserved fit kept d (ParameterCell n) is = refl

-- ---- variables of hash objects

module _ (numbers : CodeNumbers) (w : RunState) (d : Cells) (holds : HoldState numbers.placement w d) where
  -- the values of their slots are theirs
  pub variables_are : (variables : List HashVariable) (slots : List ℕ) → AreVariableSlots numbers variables slots → values_of_slots slots d.state.slots ≡ values_of_variables numbers.home variables w
  variables_are [] [] are = refl
  variables_are [] (n ∷ slots) are = absurd are
  variables_are (v ∷ variables) [] are = absurd are
  variables_are (v ∷ variables) (n ∷ slots) are =
      let first : or_null (slice_get d.state.slots n) ≡ variable_value numbers.home (At v.global) w = ap or_null (holds.0 (nameable_of numbers.home (At v.global)) (SlotCell n) are.0) in
      ap (λ x. x ∷ values_of_slots slots d.state.slots) first ∙ ap (λ r. variable_value numbers.home (At v.global) w ∷ r) (variables_are variables slots are.1)

-- the cells with other slots
abbrev pub with_cell_slots : Row → Cells → Cells
with_cell_slots slots d = record { locals = d.locals; state = with_slots slots d.state }

module _ (numbers : CodeNumbers) (sound : IsPlacement numbers.placement) where
  values_copied : (variables : List HashVariable) (slots : List ℕ) (row : Row) (w : RunState) (d : Cells) → AreVariableSlots numbers variables slots → HoldState numbers.placement w d
      → HoldState numbers.placement (with_values_stored numbers.home variables row w) (with_cell_slots (with_values_in slots row d.state.slots) d)
      × ((kept : ℕ) → LeaveReserved numbers.placement kept d (with_cell_slots (with_values_in slots row d.state.slots) d))
  values_copied [] [] row w d are holds = (holds, (λ kept c is. same_cell c d))
  values_copied [] (n ∷ slots) row w d are holds = absurd are
  values_copied (v ∷ variables) [] row w d are holds = absurd are
  values_copied (v ∷ variables) (n ∷ slots) [] w d are holds = (holds, (λ kept c is. same_cell c d))
  values_copied (v ∷ variables) (n ∷ slots) (x ∷ row) w d are holds =
      let u = store numbers.home (At v.global) x w in
      let e = with_cell (SlotCell n) x d in
      let rest = values_copied variables slots row u e are.1 (holds_stored numbers.placement sound numbers.home (At v.global) x w (SlotCell n) d are.0 holds) in (
        rest.0,
        (λ kept c is. same_cell_on c d e (with_cell_slots (with_values_in slots row e.state.slots) e)
            (reserved_stored numbers.placement sound numbers.home (At v.global) x w (SlotCell n) d are.0 holds kept c is) (rest.1 kept c is)),
      )

  -- data are copied into the data variables, where a call copies any
  pub data_copied : (hash : DeclaredHash) (part : HashPart) (o : Option Row) (w : RunState) (d : Cells) → AreVariableSlots numbers hash.data_variables part.data_slots → HoldState numbers.placement w d
      → HoldState numbers.placement (with_data_copied numbers.home hash o w) (with_cell_slots (with_copied part o d.state.slots) d)
      × ((kept : ℕ) → LeaveReserved numbers.placement kept d (with_cell_slots (with_copied part o d.state.slots) d))
  data_copied hash part None w d are holds = (holds, (λ kept c is. same_cell c d))
  data_copied hash part (Some row) w d are holds = values_copied hash.data_variables part.data_slots row w d are holds

values_progress : (home : Home) (variables : List HashVariable) (row : Row) (w : RunState) → (with_values_stored home variables row w).progress ≡ w.progress
values_progress home [] row w = refl
values_progress home (v ∷ variables) [] w = refl
values_progress home (v ∷ variables) (x ∷ row) w = values_progress home variables row (store home (At v.global) x w)

pub copied_progress : (home : Home) (hash : DeclaredHash) (o : Option Row) (w : RunState) → (with_data_copied home hash o w).progress ≡ w.progress
copied_progress home hash None w = refl
copied_progress home hash (Some row) w = values_progress home hash.data_variables row w
