-- A content is put somewhere: its cell has it, and every other cell has what it had.
use Rattle.std.proofs.Common.{◌≡◌, ℕ, zero, suc, ◌<◌, ◌≤◌, Bool, true, false, ◌&&◌, ◌||◌, List, [], ◌∷◌, bytes_eq, Some, None, refl, sym, ap, ◌∙◌, subst, arith, if◌then◌else◌}
use Rattle.std.specs.Prelude.{slice_get, slice_set}
use Rattle.std.proofs.lemmas.Bool.{true≢false}
use Rattle.std.proofs.lemmas.Slice.Eq.{bytes_eq-Decides}
use Rattle.ds2_value.specs.declared.value.Value.{Value}
use Rattle.ds2_meaning.specs.declared.location.Global.{Global}
use Rattle.ds2_meaning.specs.declared.location.Global.TheVariants.{Named, First, Last, Present, Parameter}
use Rattle.ds2_meaning.specs.declared.location.Reference.{Reference}
use Rattle.ds2_meaning.specs.declared.location.Reference.TheVariants.{At, Local}
use Rattle.ds2_meaning.specs.Location.{Home, Location, is_same_home, is_same_global, is_same_location, Content, Holds, held, items_held, position_held}
use Rattle.ds2_meaning.specs.RunState.{RunState, store, keep_at}
use Rattle.ds2_code.specs.Desk.{with_slots, with_stage_parameters}
use Rattle.ds2_gen.specs.CodeCells.{Nameable, GlobalAt, LocalNamed, is_same_nameable, nameable_of, content_of, CodeCell, SlotCell, LocalCell, HashCell, IteratorCell, ParameterCell, Cells, CellHas, IsSameCell, IsValueCell, Placement, IsPlacement, KeptIs, HasKeptRoom, HoldState, LeaveReserved}

-- ---- two things that are one

pub both : (a b : Bool) → (a && b) ≡ true → (a ≡ true) × (b ≡ true)
both true b e = (refl, e)
both false b e = absurd (true≢false (sym e))

pub or_turned : (a b c d : Bool) → (a ≡ true → b ≡ true) → (c ≡ true → d ≡ true) → (a || c) ≡ true → (b || d) ≡ true
or_turned true true c d f g e = refl
or_turned true false c d f g e = absurd (true≢false (sym (f refl)))
or_turned false true c d f g e = refl
or_turned false false c d f g e = g e

home_is : (a b : Home) → is_same_home a b ≡ true → a ≡ b
home_is None None e = refl
home_is None (Some b) e = absurd (true≢false (sym e))
home_is (Some a) None e = absurd (true≢false (sym e))
home_is (Some a) (Some b) e = ap Some ((bytes_eq-Decides a b).0 e)

global_is : (a b : Global) → is_same_global a b ≡ true → a ≡ b
global_is (Named a) (Named b) e = ap Named ((bytes_eq-Decides a b).0 e)
global_is (First a) (First b) e = ap First ((bytes_eq-Decides a b).0 e)
global_is (Last a) (Last b) e = ap Last ((bytes_eq-Decides a b).0 e)
global_is (Present a) (Present b) e = ap Present ((bytes_eq-Decides a b).0 e)
global_is (Parameter a) (Parameter b) e = ap Parameter ((bytes_eq-Decides a b).0 e)
global_is _ _ e = absurd (true≢false (sym e))

abbrev located : Home → Global → Location
located home global = record { home = home; global = global }

location_is_at : (a b : Location) → a.home ≡ b.home → a.global ≡ b.global → located a.home a.global ≡ located b.home b.global
location_is_at a b h g = ap (λ x. located x a.global) h ∙ ap (λ x. located b.home x) g

pub location_is : (a b : Location) → is_same_location a b ≡ true → a ≡ b
location_is a b e =
    let parts = both (is_same_home a.home b.home) (is_same_global a.global b.global) e in
    location_is_at a b (home_is a.home b.home parts.0) (global_is a.global b.global parts.1)

pub nameable_is : (x y : Nameable) → is_same_nameable x y ≡ true → x ≡ y
nameable_is (GlobalAt a) (GlobalAt b) e = ap GlobalAt (location_is a b e)
nameable_is (GlobalAt a) (LocalNamed b) e = absurd (true≢false (sym e))
nameable_is (LocalNamed a) (GlobalAt b) e = absurd (true≢false (sym e))
nameable_is (LocalNamed a) (LocalNamed b) e = ap LocalNamed ((bytes_eq-Decides a b).0 e)

-- ---- what a store changes in the meaning

local_stored : (b : Bool) (v u : Value) → Holds (if b then v else u) ≡ (if b then Holds v else Holds u)
local_stored true v u = refl
local_stored false v u = refl

content_stored : (x : Nameable) (home : Home) (r : Reference) (v : Value) (w : RunState)
    → content_of x (store home r v w).storage (store home r v w).locals ≡ (if is_same_nameable x (nameable_of home r) then Holds v else content_of x w.storage w.locals)
content_stored (GlobalAt a) home (At g) v w = refl
content_stored (GlobalAt a) home (Local n) v w = refl
content_stored (LocalNamed a) home (At g) v w = refl
content_stored (LocalNamed a) home (Local n) v w = local_stored (bytes_eq a n) v (w.locals a)

-- ---- what a store changes in the code

pub get_set_same : {X : Type 0} (xs : List X) (n : ℕ) (u v : X) → slice_get xs n ≡ Some u → slice_get (slice_set xs n v) n ≡ Some v
get_set_same [] n u v h = absurd cc
get_set_same (x ∷ xs) zero u v h = refl
get_set_same (x ∷ xs) (suc n) u v h = get_set_same xs n u v h

pub get_set_other : {X : Type 0} (xs : List X) (n m : ℕ) (v : X) → (m ≡ n → ⊥) → slice_get xs m ≡ slice_get (slice_set xs n v) m
get_set_other [] n m v apart = refl
get_set_other (x ∷ xs) zero zero v apart = absurd (apart refl)
get_set_other (x ∷ xs) zero (suc m) v apart = refl
get_set_other (x ∷ xs) (suc n) zero v apart = refl
get_set_other (x ∷ xs) (suc n) (suc m) v apart = get_set_other xs n m v (λ e. apart (ap suc e))

pub room_kept : {X : Type 0} (xs : List X) (n m : ℕ) (v u : X) → slice_get xs m ≡ Some u → (w : X) × (slice_get (slice_set xs n v) m ≡ Some w)
room_kept [] n m v u h = absurd cc
room_kept (x ∷ xs) zero zero v u h = (v, refl)
room_kept (x ∷ xs) zero (suc m) v u h = (u, h)
room_kept (x ∷ xs) (suc n) zero v u h = (x, refl)
room_kept (x ∷ xs) (suc n) (suc m) v u h = room_kept xs n m v u h

-- the cells with a content in one of them
abbrev pub with_cell_content : CodeCell → Content → Cells → Cells
with_cell_content (SlotCell n) x d = record { locals = d.locals; state = with_slots (slice_set d.state.slots n (held x)) d.state }
with_cell_content (LocalCell n) x d = record { locals = slice_set d.locals n (held x); state = d.state }
with_cell_content (HashCell n) x d =
    record { locals = d.locals; state = record { slots = d.state.slots; hashes = slice_set d.state.hashes n (items_held x); iterators = d.state.iterators; parameters = d.state.parameters } }
with_cell_content (IteratorCell n) x d =
    record { locals = d.locals; state = record { slots = d.state.slots; hashes = d.state.hashes; iterators = slice_set d.state.iterators n (position_held x); parameters = d.state.parameters } }
with_cell_content (ParameterCell n) x d = record { locals = d.locals; state = with_stage_parameters (slice_set d.state.parameters n (held x)) d.state }

-- the cells with a value in one of them
abbrev pub with_cell : CodeCell → Value → Cells → Cells
with_cell c v d = with_cell_content c (Holds v) d

cell_stored : (c : CodeCell) (x before : Content) (d : Cells) → CellHas c before d → CellHas c x (with_cell_content c x d)
cell_stored (SlotCell n) x before d h = get_set_same d.state.slots n (held before) (held x) h
cell_stored (LocalCell n) x before d h = get_set_same d.locals n (held before) (held x) h
cell_stored (HashCell n) x before d h = get_set_same d.state.hashes n (items_held before) (items_held x) h
cell_stored (IteratorCell n) x before d h = get_set_same d.state.iterators n (position_held before) (position_held x) h
cell_stored (ParameterCell n) x before d h = get_set_same d.state.parameters n (held before) (held x) h

pub same_cell : (c : CodeCell) (d : Cells) → IsSameCell c d d
same_cell (SlotCell n) d = refl
same_cell (LocalCell n) d = refl
same_cell (HashCell n) d = refl
same_cell (IteratorCell n) d = refl
same_cell (ParameterCell n) d = refl

pub same_cell_on : (c : CodeCell) (d e f : Cells) → IsSameCell c d e → IsSameCell c e f → IsSameCell c d f
same_cell_on (SlotCell n) d e f a b = a ∙ b
same_cell_on (LocalCell n) d e f a b = a ∙ b
same_cell_on (HashCell n) d e f a b = a ∙ b
same_cell_on (IteratorCell n) d e f a b = a ∙ b
same_cell_on (ParameterCell n) d e f a b = a ∙ b

pub cell_has_on : (c : CodeCell) (x : Content) (d e : Cells) → IsSameCell c d e → CellHas c x d → CellHas c x e
cell_has_on (SlotCell n) x d e a h = sym a ∙ h
cell_has_on (LocalCell n) x d e a h = sym a ∙ h
cell_has_on (HashCell n) x d e a h = sym a ∙ h
cell_has_on (IteratorCell n) x d e a h = sym a ∙ h
cell_has_on (ParameterCell n) x d e a h = sym a ∙ h

pub slot_cell_kept : (n : ℕ) (c : CodeCell) (v : Value) (d : Cells) → (c ≡ SlotCell n → ⊥) → IsSameCell c d (with_cell (SlotCell n) v d)
slot_cell_kept n (SlotCell m) v d apart = get_set_other d.state.slots n m v (λ e. apart (ap SlotCell e))
slot_cell_kept n (LocalCell m) v d apart = refl
slot_cell_kept n (HashCell m) v d apart = refl
slot_cell_kept n (IteratorCell m) v d apart = refl
slot_cell_kept n (ParameterCell m) v d apart = refl

local_cell_kept : (n : ℕ) (c : CodeCell) (x : Content) (d : Cells) → (c ≡ LocalCell n → ⊥) → IsSameCell c d (with_cell_content (LocalCell n) x d)
local_cell_kept n (SlotCell m) x d apart = refl
local_cell_kept n (LocalCell m) x d apart = get_set_other d.locals n m (held x) (λ e. apart (ap LocalCell e))
local_cell_kept n (HashCell m) x d apart = refl
local_cell_kept n (IteratorCell m) x d apart = refl
local_cell_kept n (ParameterCell m) x d apart = refl

hash_cell_kept : (n : ℕ) (c : CodeCell) (x : Content) (d : Cells) → (c ≡ HashCell n → ⊥) → IsSameCell c d (with_cell_content (HashCell n) x d)
hash_cell_kept n (SlotCell m) x d apart = refl
hash_cell_kept n (LocalCell m) x d apart = refl
hash_cell_kept n (HashCell m) x d apart = get_set_other d.state.hashes n m (items_held x) (λ e. apart (ap HashCell e))
hash_cell_kept n (IteratorCell m) x d apart = refl
hash_cell_kept n (ParameterCell m) x d apart = refl

iterator_cell_kept : (n : ℕ) (c : CodeCell) (x : Content) (d : Cells) → (c ≡ IteratorCell n → ⊥) → IsSameCell c d (with_cell_content (IteratorCell n) x d)
iterator_cell_kept n (SlotCell m) x d apart = refl
iterator_cell_kept n (LocalCell m) x d apart = refl
iterator_cell_kept n (HashCell m) x d apart = refl
iterator_cell_kept n (IteratorCell m) x d apart = get_set_other d.state.iterators n m (position_held x) (λ e. apart (ap IteratorCell e))
iterator_cell_kept n (ParameterCell m) x d apart = refl

parameter_cell_kept : (n : ℕ) (c : CodeCell) (x : Content) (d : Cells) → (c ≡ ParameterCell n → ⊥) → IsSameCell c d (with_cell_content (ParameterCell n) x d)
parameter_cell_kept n (SlotCell m) x d apart = refl
parameter_cell_kept n (LocalCell m) x d apart = refl
parameter_cell_kept n (HashCell m) x d apart = refl
parameter_cell_kept n (IteratorCell m) x d apart = refl
parameter_cell_kept n (ParameterCell m) x d apart = get_set_other d.state.parameters n m (held x) (λ e. apart (ap ParameterCell e))

cell_kept : (c other : CodeCell) (x : Content) (d : Cells) → (other ≡ c → ⊥) → IsSameCell other d (with_cell_content c x d)
cell_kept (SlotCell n) other x d apart = slot_cell_kept n other (held x) d apart
cell_kept (LocalCell n) other x d apart = local_cell_kept n other x d apart
cell_kept (HashCell n) other x d apart = hash_cell_kept n other x d apart
cell_kept (IteratorCell n) other x d apart = iterator_cell_kept n other x d apart
cell_kept (ParameterCell n) other x d apart = parameter_cell_kept n other x d apart

-- ---- room for kept values

pub cell_room : (c other : CodeCell) (x : Content) (u : Value) (d : Cells) → IsValueCell other → CellHas other (Holds u) d → (y : Value) × CellHas other (Holds y) (with_cell_content c x d)
cell_room c (HashCell m) x u d is h = absurd is
cell_room c (IteratorCell m) x u d is h = absurd is
cell_room c (ParameterCell m) x u d is h = absurd is
cell_room (SlotCell n) (SlotCell m) x u d is h = room_kept d.state.slots n m (held x) u h
cell_room (SlotCell n) (LocalCell m) x u d is h = (u, h)
cell_room (LocalCell n) (SlotCell m) x u d is h = (u, h)
cell_room (LocalCell n) (LocalCell m) x u d is h = room_kept d.locals n m (held x) u h
cell_room (HashCell n) (SlotCell m) x u d is h = (u, h)
cell_room (HashCell n) (LocalCell m) x u d is h = (u, h)
cell_room (IteratorCell n) (SlotCell m) x u d is h = (u, h)
cell_room (IteratorCell n) (LocalCell m) x u d is h = (u, h)
cell_room (ParameterCell n) (SlotCell m) x u d is h = (u, h)
cell_room (ParameterCell n) (LocalCell m) x u d is h = (u, h)

pub room_stored : (p : Placement) → IsPlacement p → (c : CodeCell) (x : Content) (d : Cells) → HasKeptRoom p d → HasKeptRoom p (with_cell_content c x d)
room_stored p sound c x d room n less = cell_room c (p.kept_cell n) x (room n less).0 d (sound.values n less) (room n less).1

pub reserved_on : (p : Placement) (kept : ℕ) (d e f : Cells) → LeaveReserved p kept d e → LeaveReserved p kept e f → LeaveReserved p kept d f
reserved_on p kept d e f a b c is = same_cell_on c d e f (a c is) (b c is)

-- a kept value stays where its cell is reserved
pub kept_still : (p : Placement) (n kept : ℕ) (v : Value) (d e : Cells) → p.is_reserved kept (p.kept_cell n) ≡ true → LeaveReserved p kept d e → KeptIs p n v d → KeptIs p n v e
kept_still p n kept v d e is same h = cell_has_on (p.kept_cell n) (Holds v) d e (same (p.kept_cell n) is) h

-- ---- a store on both sides

pub some_is : {X : Type 0} (a b : X) → Some a ≡ Some b → a ≡ b
some_is a b e = cc

module _ (p : Placement) (sound : IsPlacement p) (at : Nameable) (v : Content) (w u : RunState) (c : CodeCell) (d : Cells) (placed : p.cell at ≡ Some c)
    (changed : (x : Nameable) → content_of x u.storage u.locals ≡ (if is_same_nameable x at then v else content_of x w.storage w.locals)) (holds : HoldState p w d) where
  -- what is kept under a name behind the change, by whether it is the one that is changed
  changed_at : (b : Bool) (x : Nameable) (other : CodeCell) → is_same_nameable x at ≡ b → p.cell x ≡ Some other
      → CellHas other (if b then v else content_of x w.storage w.locals) (with_cell_content c v d)
  changed_at true x other same here =
      let it : x ≡ at = nameable_is x at same in
      let one : c ≡ other = some_is c other (sym placed ∙ ap p.cell (sym it) ∙ here) in
      subst (λ k. CellHas k v (with_cell_content c v d)) one (cell_stored c v (content_of at w.storage w.locals) d (holds.0 at c placed))
  changed_at false x other same here =
      let apart : other ≡ c → ⊥ = λ e. true≢false (sym (sound.apart x at c (here ∙ ap Some e) placed) ∙ same) in
      cell_has_on other (content_of x w.storage w.locals) d (with_cell_content c v d) (cell_kept c other v d apart) (holds.0 x other here)

  names_changed : (x : Nameable) (other : CodeCell) → p.cell x ≡ Some other → CellHas other (content_of x u.storage u.locals) (with_cell_content c v d)
  names_changed x other here =
      subst (λ k. CellHas other k (with_cell_content c v d)) (sym (changed x)) (changed_at (is_same_nameable x at) x other refl here)

  -- the cells hold the state behind the change
  pub holds_changed : HoldState p u (with_cell_content c v d)
  holds_changed = (names_changed, room_stored p sound c v d holds.1)

  -- and no reserved cell is changed
  pub reserved_changed : (kept : ℕ) → LeaveReserved p kept d (with_cell_content c v d)
  reserved_changed kept other is_reserved =
      cell_kept c other v d (λ e. true≢false (sym is_reserved ∙ ap (p.is_reserved kept) e ∙ sound.unreserved at c kept placed))

module _ (p : Placement) (sound : IsPlacement p) (home : Home) (r : Reference) (v : Value) (w : RunState) (c : CodeCell) (d : Cells) (placed : p.cell (nameable_of home r) ≡ Some c) (holds : HoldState p w d) where
  pub holds_stored : HoldState p (store home r v w) (with_cell c v d)
  holds_stored = holds_changed p sound (nameable_of home r) (Holds v) w (store home r v w) c d placed (λ x. content_stored x home r v w) holds

  pub reserved_stored : (kept : ℕ) → LeaveReserved p kept d (with_cell c v d)
  reserved_stored kept = reserved_changed p sound (nameable_of home r) (Holds v) w (store home r v w) c d placed (λ x. content_stored x home r v w) holds kept

-- ---- a content is put at a location

content_put : (x : Nameable) (at : Location) (y : Content) (w : RunState)
    → content_of x (keep_at at y w).storage (keep_at at y w).locals ≡ (if is_same_nameable x (GlobalAt at) then y else content_of x w.storage w.locals)
content_put (GlobalAt a) at y w = refl
content_put (LocalNamed a) at y w = refl

module _ (p : Placement) (sound : IsPlacement p) (at : Location) (y : Content) (w : RunState) (c : CodeCell) (d : Cells) (placed : p.cell (GlobalAt at) ≡ Some c) (holds : HoldState p w d) where
  pub holds_put : HoldState p (keep_at at y w) (with_cell_content c y d)
  holds_put = holds_changed p sound (GlobalAt at) y w (keep_at at y w) c d placed (λ x. content_put x at y w) holds

  pub reserved_put : (kept : ℕ) → LeaveReserved p kept d (with_cell_content c y d)
  reserved_put kept = reserved_changed p sound (GlobalAt at) y w (keep_at at y w) c d placed (λ x. content_put x at y w) holds kept

-- a location without a cell
unplaced : (p : Placement) (at : Location) (y : Content) (w : RunState) (d : Cells) (b : Bool) (x : Nameable) (c : CodeCell) → p.cell (GlobalAt at) ≡ None → HoldState p w d
    → is_same_nameable x (GlobalAt at) ≡ b → p.cell x ≡ Some c → CellHas c (if b then y else content_of x w.storage w.locals) d
unplaced p at y w d true x c nowhere holds same here =
    let none : None ≡ Some c = sym nowhere ∙ ap p.cell (sym (nameable_is x (GlobalAt at) same)) ∙ here in absurd cc
unplaced p at y w d false x c nowhere holds same here = holds.0 x c here

pub holds_unplaced : (p : Placement) (at : Location) (y : Content) (w : RunState) (d : Cells) → p.cell (GlobalAt at) ≡ None → HoldState p w d → HoldState p (keep_at at y w) d
holds_unplaced p at y w d nowhere holds = (
  (λ x c here. subst (λ k. CellHas c k d) (sym (content_put x at y w)) (unplaced p at y w d (is_same_nameable x (GlobalAt at)) x c nowhere holds refl here)),
  holds.1,
)

-- ---- a value is kept

module _ (p : Placement) (sound : IsPlacement p) (n : ℕ) (less : n < p.kept_count) (v : Value) (d : Cells) where
  kept_apart : (x : Nameable) (c : CodeCell) → p.cell x ≡ Some c → c ≡ p.kept_cell n → ⊥
  kept_apart x c placed e =
      let above : n < suc n = omega arith in
      true≢false (sym (sound.behind n (suc n) less above) ∙ ap (p.is_reserved (suc n)) (sym e) ∙ sound.unreserved x c (suc n) placed)

  names_kept : (w : RunState) → HoldState p w d → (x : Nameable) (c : CodeCell) → p.cell x ≡ Some c → CellHas c (content_of x w.storage w.locals) (with_cell (p.kept_cell n) v d)
  names_kept w holds x c placed =
      cell_has_on c (content_of x w.storage w.locals) d (with_cell (p.kept_cell n) v d) (cell_kept (p.kept_cell n) c (Holds v) d (kept_apart x c placed)) (holds.0 x c placed)

  pub holds_kept : (w : RunState) → HoldState p w d → HoldState p w (with_cell (p.kept_cell n) v d)
  holds_kept w holds = (names_kept w holds, room_stored p sound (p.kept_cell n) (Holds v) d holds.1)

  pub value_kept : HasKeptRoom p d → KeptIs p n v (with_cell (p.kept_cell n) v d)
  value_kept room = cell_stored (p.kept_cell n) (Holds v) (Holds (room n less).0) d (room n less).1

  pub reserved_kept : (kept : ℕ) → kept ≤ n → LeaveReserved p kept d (with_cell (p.kept_cell n) v d)
  reserved_kept kept least other is_reserved =
      cell_kept (p.kept_cell n) other (Holds v) d (λ e. true≢false (sym is_reserved ∙ ap (p.is_reserved kept) e ∙ sound.ahead n kept less least))
