-- The data with which `run` begins: what it sets to null, and what its load sets.
use Rattle.std.proofs.Common.{◌≡◌, ℕ, zero, suc, Bool, true, false, List, [], ◌∷◌, Some, None, refl, sym, ap, ◌∙◌, subst, if◌then◌else◌}
use Rattle.std.specs.Prelude.{slice_get, slice_set}
use Rattle.std.proofs.lemmas.Bool.{true≢false}
use Rattle.ds2_value.specs.Row.{Row}
use Rattle.ds2_value.specs.declared.value.Value.{Value}
use Rattle.ds2_value.specs.declared.value.Value.TheVariants.{Null}
use Rattle.ds2_meaning.specs.Location.{Location, is_same_location, Content, Holds, Storage, held, with_content}
use Rattle.ds2_meaning.specs.ProgramMeaning.{is_cleared_at, with_cleared}
use Rattle.ds2_meaning.specs.ProgramTree.{UnitTree}
use Rattle.ds2_meaning.specs.Reading.{Settings, with_settings}
use Rattle.ds2_code.specs.declared.parts.ProgramParts.{ProgramParts}
use Rattle.ds2_code.specs.declared.parts.Slot.{Slot}
use Rattle.ds2_code.specs.declared.parts.SlotRole.{SlotRole}
use Rattle.ds2_code.specs.declared.parts.SlotRole.TheVariants.{Cleared, Kept, Column, Flag}
use Rattle.ds2_code.specs.CodeUnit.{null_where_cleared, without_cleared}
use Rattle.ds2_code.specs.Desk.{ProgramData, with_slots, SlotSettings, with_slot_settings}
use Rattle.ds2_gen.specs.CodeCells.{GlobalAt, CodeCell, SlotCell, LocalCell, HashCell, IteratorCell, ParameterCell, Cells, CellHas, IsSameCell, Placement, IsPlacement, LeaveReserved}
use Rattle.ds2_gen.specs.UnitCode.{data_cells, HoldsStorage}
use Rattle.ds2_gen.specs.UnitTheorem.{AreSameSettings, RoleFits, RolesFit}
use Rattle.ds2_gen.proofs.CellLemmas.{nameable_is, some_is, get_set_same, room_kept, with_cell, cell_room, same_cell, same_cell_on, cell_has_on, slot_cell_kept}

-- ---- one setting

module _ (p : Placement) (sound : IsPlacement p) (at : Location) (n : ℕ) (v : Value) (placed : p.cell (GlobalAt at) ≡ Some (SlotCell n)) (kept : Storage) (state : ProgramData) (holds : HoldsStorage p kept state) where
  set_at : (b : Bool) (other : Location) (c : CodeCell) → is_same_location other at ≡ b → p.cell (GlobalAt other) ≡ Some c
      → CellHas c (if b then Holds v else kept other) (with_cell (SlotCell n) v (data_cells state))
  set_at true other c same here =
      let one : SlotCell n ≡ c = some_is (SlotCell n) c (sym placed ∙ ap p.cell (sym (nameable_is (GlobalAt other) (GlobalAt at) same)) ∙ here) in
      subst (λ k. CellHas k (Holds v) (with_cell (SlotCell n) v (data_cells state))) one (get_set_same state.slots n (held (kept at)) v (holds.globals at (SlotCell n) placed))
  set_at false other c same here =
      let apart : c ≡ SlotCell n → ⊥ = λ e. true≢false (sym (sound.apart (GlobalAt other) (GlobalAt at) (SlotCell n) (here ∙ ap Some e) placed) ∙ same) in
      cell_has_on c (kept other) (data_cells state) (with_cell (SlotCell n) v (data_cells state)) (slot_cell_kept n c v (data_cells state) apart) (holds.globals other c here)

  setting_holds : HoldsStorage p (with_content at (Holds v) kept) (with_slots (slice_set state.slots n v) state)
  setting_holds = record {
    globals = λ other c here. set_at (is_same_location other at) other c refl here;
    slots = λ name m here. room_kept state.slots n m v (holds.slots name m here).0 (holds.slots name m here).1;
    room = λ k less. cell_room (SlotCell n) (p.kept_cell k) (Holds v) (holds.room k less).0 (data_cells state) (sound.values k less) (holds.room k less).1;
  }

  setting_reserved : LeaveReserved p 0 (data_cells state) (data_cells (with_slots (slice_set state.slots n v) state))
  setting_reserved c is = slot_cell_kept n c v (data_cells state) (λ e. true≢false (sym is ∙ ap (p.is_reserved 0) e ∙ sound.unreserved (GlobalAt at) (SlotCell n) 0 placed))

-- ---- all settings of a load

module _ (p : Placement) (sound : IsPlacement p) where
  pub settings_hold : (load : Settings) (slots : SlotSettings) (kept : Storage) (state : ProgramData) → AreSameSettings p load slots → HoldsStorage p kept state
      → HoldsStorage p (with_settings load kept) (with_slots (with_slot_settings slots state.slots) state) × LeaveReserved p 0 (data_cells state) (data_cells (with_slots (with_slot_settings slots state.slots) state))
  settings_hold [] [] kept state same holds = (holds, (λ c is. same_cell c (data_cells state)))
  settings_hold [] (slot ∷ others) kept state same holds = absurd same
  settings_hold (set ∷ more) [] kept state same holds = absurd same
  settings_hold (set ∷ more) (slot ∷ others) kept state same holds =
      let at : Location = record { home = None; global = set.0 } in
      let next = with_slots (slice_set state.slots slot.0 slot.1) state in
      let one : HoldsStorage p (with_content at (Holds set.1) kept) next = subst (λ v. HoldsStorage p (with_content at (Holds v) kept) next) same.1 (setting_holds p sound at slot.0 slot.1 same.0 kept state holds) in
      let rest = settings_hold more others (with_content at (Holds set.1) kept) next same.2 one in
      (rest.0, (λ c is. same_cell_on c (data_cells state) (data_cells next) (data_cells (with_slots (with_slot_settings others next.slots) next)) (setting_reserved p sound at slot.0 slot.1 same.0 kept state holds c is) (rest.1 c is)))

-- ---- what is set to null

cleared_at : (ss : List Slot) (slots : Row) (n : ℕ) (s : Slot) (v : Value) → slice_get ss n ≡ Some s → slice_get slots n ≡ Some v → slice_get (without_cleared ss slots) n ≡ Some (null_where_cleared s.role v)
cleared_at [] slots n s v h k = absurd cc
cleared_at (x ∷ ss) [] n s v h k = absurd cc
cleared_at (x ∷ ss) (u ∷ slots) zero s v h k =
    ap (λ (y : Slot). Some (null_where_cleared y.role u)) (some_is x s h) ∙ ap (λ y. Some (null_where_cleared s.role y)) (some_is u v k)
cleared_at (x ∷ ss) (u ∷ slots) (suc n) s v h k = cleared_at ss slots n s v h k

cleared_room : (ss : List Slot) (slots : Row) (n : ℕ) (v : Value) → slice_get slots n ≡ Some v → (u : Value) × (slice_get (without_cleared ss slots) n ≡ Some u)
cleared_room [] slots n v h = (v, h)
cleared_room (x ∷ ss) [] n v h = absurd cc
cleared_room (x ∷ ss) (u ∷ slots) zero v h = (null_where_cleared x.role u, refl)
cleared_room (x ∷ ss) (u ∷ slots) (suc n) v h = cleared_room ss slots n v h

role_keeps : (r : SlotRole) (v : Value) → RoleFits r false → Some v ≡ Some (null_where_cleared r v)
role_keeps Cleared v fits = absurd (true≢false (sym fits))
role_keeps Kept v fits = refl
role_keeps Column v fits = refl
role_keeps Flag v fits = refl

kept_at : (ss : List Slot) (slots : Row) (n : ℕ) → ((s : Slot) → slice_get ss n ≡ Some s → RoleFits s.role false) → slice_get slots n ≡ slice_get (without_cleared ss slots) n
kept_at [] slots n fits = refl
kept_at (x ∷ ss) [] n fits = refl
kept_at (x ∷ ss) (v ∷ slots) zero fits = role_keeps x.role v (fits x refl)
kept_at (x ∷ ss) (v ∷ slots) (suc n) fits = kept_at ss slots n fits

role_value : (r : SlotRole) (b : Bool) (x : Content) → RoleFits r b → Some (null_where_cleared r (held x)) ≡ Some (held (if b then Holds Null else x))
role_value Cleared b x e = ap (λ t. Some (held (if t then Holds Null else x))) (sym e)
role_value Kept b x e = ap (λ t. Some (held (if t then Holds Null else x))) (sym e)
role_value Column b x e = ap (λ t. Some (held (if t then Holds Null else x))) (sym e)
role_value Flag b x e = ap (λ t. Some (held (if t then Holds Null else x))) (sym e)

-- a cell that is no slot
other_cell : (b : Bool) (c : CodeCell) (x : Content) (d e : Cells) → (b ≡ true → ⊥) → CellHas c x d → IsSameCell c d e → CellHas c (if b then Holds Null else x) e
other_cell true c x d e not_cleared h same = absurd (not_cleared refl)
other_cell false c x d e not_cleared h same = cell_has_on c x d e same h

module _ (code : ProgramParts) (p : Placement) (unit : UnitTree) (roles : RolesFit code p unit) (kept : Storage) (state : ProgramData) (holds : HoldsStorage p kept state) where
  cleared_cell : (at : Location) (c : CodeCell) → p.cell (GlobalAt at) ≡ Some c → CellHas c (with_cleared unit kept at) (data_cells (with_slots (without_cleared code.slots state.slots) state))
  cleared_cell at (SlotCell n) here =
      let fit = roles.slots at n here in
      cleared_at code.slots state.slots n fit.0 (held (kept at)) fit.1 (holds.globals at (SlotCell n) here) ∙ role_value fit.0.role (is_cleared_at unit at.home at.global) (kept at) fit.2
  cleared_cell at (LocalCell n) here =
      other_cell (is_cleared_at unit at.home at.global) (LocalCell n) (kept at) (data_cells state) (data_cells (with_slots (without_cleared code.slots state.slots) state)) (roles.cleared at (LocalCell n) here) (holds.globals at (LocalCell n) here) refl
  cleared_cell at (HashCell n) here =
      other_cell (is_cleared_at unit at.home at.global) (HashCell n) (kept at) (data_cells state) (data_cells (with_slots (without_cleared code.slots state.slots) state)) (roles.cleared at (HashCell n) here) (holds.globals at (HashCell n) here) refl
  cleared_cell at (IteratorCell n) here =
      other_cell (is_cleared_at unit at.home at.global) (IteratorCell n) (kept at) (data_cells state) (data_cells (with_slots (without_cleared code.slots state.slots) state)) (roles.cleared at (IteratorCell n) here) (holds.globals at (IteratorCell n) here) refl
  cleared_cell at (ParameterCell n) here =
      other_cell (is_cleared_at unit at.home at.global) (ParameterCell n) (kept at) (data_cells state) (data_cells (with_slots (without_cleared code.slots state.slots) state)) (roles.cleared at (ParameterCell n) here) (holds.globals at (ParameterCell n) here) refl

  room_cleared : (c : CodeCell) (v : Value) → CellHas c (Holds v) (data_cells state) → (u : Value) × CellHas c (Holds u) (data_cells (with_slots (without_cleared code.slots state.slots) state))
  room_cleared (SlotCell n) v h = cleared_room code.slots state.slots n v h
  room_cleared (LocalCell n) v h = (v, h)
  room_cleared (HashCell n) v h = (v, h)
  room_cleared (IteratorCell n) v h = (v, h)
  room_cleared (ParameterCell n) v h = (v, h)

  reserved_cell : (c : CodeCell) → p.is_reserved 0 c ≡ true → IsSameCell c (data_cells state) (data_cells (with_slots (without_cleared code.slots state.slots) state))
  reserved_cell (SlotCell n) is = kept_at code.slots state.slots n (λ s here. roles.reserved n s is here)
  reserved_cell (LocalCell n) is = refl
  reserved_cell (HashCell n) is = refl
  reserved_cell (IteratorCell n) is = refl
  reserved_cell (ParameterCell n) is = refl

  pub clears_hold : HoldsStorage p (with_cleared unit kept) (with_slots (without_cleared code.slots state.slots) state)
      × LeaveReserved p 0 (data_cells state) (data_cells (with_slots (without_cleared code.slots state.slots) state))
  clears_hold = (
    record {
      globals = cleared_cell;
      slots = λ name n here. cleared_room code.slots state.slots n (holds.slots name n here).0 (holds.slots name n here).1;
      room = λ k less. room_cleared (p.kept_cell k) (holds.room k less).0 (holds.room k less).1;
    },
    reserved_cell,
  )
