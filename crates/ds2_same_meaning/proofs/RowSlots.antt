-- A row of a table sets the same slots in either order of its columns.
use Rattle.std.proofs.Common.{◌≡◌, ℕ, zero, suc, nat_eq, Bool, true, false, not, List, [], ◌∷◌, ◌++◌, map, slice_get, bytes_eq, Option, Some, None, unwrap_or, IsTrue, refl, sym, ap, ◌∙◌, if◌then◌else◌}
use Rattle.std.specs.Prelude.{slice_set}
use Rattle.std.specs.Option.{option_map}
use Rattle.std.proofs.lemmas.Bool.{and_parts, or_parts, not-true, eqb-false}
use Rattle.ds2_value.specs.Operations.{or_null_at_fault}
use Rattle.ds2_value.specs.Row.{Row, Columns}
use Rattle.ds2_value.specs.Schema.{has_column, distinct_names}
use Rattle.ds2_value.specs.Types.{assign_of}
use Rattle.ds2_value.specs.declared.schema.Column.{Column}
use Rattle.ds2_value.specs.declared.ty.Ty.{Ty}
use Rattle.ds2_value.specs.declared.value.Value.{Value}
use Rattle.ds2_meaning.specs.declared.globals.Variable.{Variable}
use Rattle.ds2_meaning.specs.declared.location.Global.TheVariants.{Named}
use Rattle.ds2_meaning.specs.IsTyped.{type_in, AreVariables}
use Rattle.ds2_meaning.specs.ProgramTree.{UnitTree, data_vector}
use Rattle.ds2_meaning.specs.Reading.{in_type_of, row_settings}
use Rattle.ds2_code.specs.declared.parts.Slot.{Slot}
use Rattle.ds2_code.specs.CodeUnit.{assigned_to_slot, row_slot_settings}
use Rattle.ds2_code.specs.Desk.{SlotSettings, with_slot_settings}
use Rattle.ds2_program_code.specs.PlacedProgram.{slot_locations}
use Rattle.ds2_program_code.specs.CodeParts.{slot_of_global, code_slots}
use Rattle.ds2_program_code.specs.LoadSettings.{slot_settings}
use Rattle.ds2_program_code.proofs.Lists.{same_some, bytes_swap}
use Rattle.ds2_program_code.proofs.Objects.{numbers_tell, mapped_some}
use Rattle.ds2_program_code.proofs.Slots.{located, slot_numbered}
use Rattle.ds2_program_code.proofs.SlotTypes.{slot_has_type}

-- ---- two slots

two_set : (slots : Row) (n m : ℕ) (v w : Value) → (n ≡ m → ⊥) → slice_set (slice_set slots m w) n v ≡ slice_set (slice_set slots n v) m w
two_set [] n m v w apart = refl
two_set (x ∷ slots) zero zero v w apart = absurd (apart refl)
two_set (x ∷ slots) zero (suc m) v w apart = refl
two_set (x ∷ slots) (suc n) zero v w apart = refl
two_set (x ∷ slots) (suc n) (suc m) v w apart = ap (λ rest. x ∷ rest) (two_set slots n m v w (λ e. apart (ap (λ k. suc k) e)))

-- no setting is of this slot
abbrev IsOtherSlot : ℕ → SlotSettings → Type 0
IsOtherSlot n [] = Unit {0}
IsOtherSlot n (set ∷ more) = (n ≡ set.0 → ⊥) × IsOtherSlot n more

set_before : (more : SlotSettings) (n : ℕ) (v : Value) (slots : Row) → IsOtherSlot n more → slice_set (with_slot_settings more slots) n v ≡ with_slot_settings more (slice_set slots n v)
set_before [] n v slots others = refl
set_before (set ∷ more) n v slots others =
    set_before more n v (slice_set slots set.0 set.1) others.1 ∙ ap (λ s. with_slot_settings more s) (two_set slots n set.0 v set.1 others.0)

pub settings_append : (xs ys : SlotSettings) (slots : Row) → with_slot_settings (xs ++ ys) slots ≡ with_slot_settings ys (with_slot_settings xs slots)
settings_append [] ys slots = refl
settings_append (x ∷ xs) ys slots = settings_append xs ys (slice_set slots x.0 x.1)

-- ---- values in the type of a slot

in_type_by : (b : Bool) (x : Variable) (vs : List Variable) (name : List ℕ) (v : Value) (ty : Ty) → (if b then Some x.ty else type_in vs name) ≡ Some ty
    → (type_in vs name ≡ Some ty → in_type_of vs name v ≡ or_null_at_fault (assign_of v ty)) → (if b then or_null_at_fault (assign_of v x.ty) else in_type_of vs name v) ≡ or_null_at_fault (assign_of v ty)
in_type_by true x vs name v ty e later = ap (λ t. or_null_at_fault (assign_of v t)) (same_some x.ty ty e)
in_type_by false x vs name v ty e later = later e

in_type : (vs : List Variable) (name : List ℕ) (v : Value) (ty : Ty) → type_in vs name ≡ Some ty → in_type_of vs name v ≡ or_null_at_fault (assign_of v ty)
in_type [] name v ty e = absurd cc
in_type (x ∷ vs) name v ty e = in_type_by (bytes_eq x.name name) x vs name v ty e (λ f. in_type vs name v ty f)

assigned_by : (o : Option Slot) (v : Value) (ty : Ty) → option_map (λ (s : Slot). s.ty) o ≡ Some ty → assigned_to_slot o v ≡ or_null_at_fault (assign_of v ty)
assigned_by o v ty e =
    let it = mapped_some (λ (s : Slot). s.ty) o ty e in
    ap (λ x. assigned_to_slot x v) it.1 ∙ ap (λ t. or_null_at_fault (assign_of v t)) it.2

module _ (p : UnitTree) where
  pub slots_differ : (a b : List ℕ) (t u : Ty) → type_in (data_vector p) a ≡ Some t → type_in (data_vector p) b ≡ Some u → bytes_eq a b ≡ false → slot_of_global p None (Named a) ≡ slot_of_global p None (Named b) → ⊥
  slots_differ a b t u e f other same =
      let one = slot_numbered p None (Named a) t e in
      let two = slot_numbered p None (Named b) u f in
      let numbers : one.0 ≡ two.0 = ap (λ o. unwrap_or o 0) (sym one.1) ∙ same ∙ ap (λ o. unwrap_or o 0) two.1 in
      let apart : nat_eq one.0 two.0 ≡ false = numbers_tell (slot_locations p) (located None (Named a)) (located None (Named b)) one.0 two.0 one.1 two.1 ∙ other in
      eqb-false one.0 two.0 apart numbers

  other_slots : (name : List ℕ) (ty : Ty) (columns : Columns) (row : Row) → type_in (data_vector p) name ≡ Some ty → has_column name columns ≡ false → AreVariables (data_vector p) columns
      → IsOtherSlot (slot_of_global p None (Named name)) (slot_settings p (row_settings (data_vector p) columns row))
  other_slots name ty [] row e fresh typed = tt
  other_slots name ty (c ∷ columns) [] e fresh typed = tt
  other_slots name ty (c ∷ columns) (v ∷ row) e fresh typed =
      let parts = or_parts (bytes_eq c.name name) (has_column name columns) fresh in
      (slots_differ name c.name ty typed.0.0 e typed.0.1 (bytes_swap name c.name ∙ parts.0), other_slots name ty columns row e parts.1 typed.1)

  pub rows_alike : (columns : Columns) (row slots : Row) → AreVariables (data_vector p) columns → IsTrue (distinct_names columns)
      → with_slot_settings (row_slot_settings (code_slots p) (map (λ (c : Column). slot_of_global p None (Named c.name)) columns) row) slots ≡ with_slot_settings (slot_settings p (row_settings (data_vector p) columns row)) slots
  rows_alike [] row slots typed distinct = refl
  rows_alike (c ∷ columns) [] slots typed distinct = refl
  rows_alike (c ∷ columns) (v ∷ row) slots typed distinct =
      let n = slot_of_global p None (Named c.name) in
      let ty : Ty = typed.0.0 in
      let parts = and_parts (not (has_column c.name columns)) (distinct_names columns) distinct in
      let rest = row_slot_settings (code_slots p) (map (λ (x : Column). slot_of_global p None (Named x.name)) columns) row in
      let more = slot_settings p (row_settings (data_vector p) columns row) in
      let own = assigned_to_slot (slice_get (code_slots p) n) v in
      let value : own ≡ in_type_of (data_vector p) c.name v = assigned_by (slice_get (code_slots p) n) v ty (slot_has_type p None (Named c.name) ty typed.0.1) ∙ sym (in_type (data_vector p) c.name v ty typed.0.1) in
      settings_append rest ((n, own) ∷ []) slots
      ∙ ap (λ s. slice_set s n own) (rows_alike columns row slots typed.1 parts.1)
      ∙ set_before more n own slots (other_slots c.name ty columns row typed.0.1 (not-true (has_column c.name columns) parts.0) typed.1)
      ∙ ap (λ x. with_slot_settings more (slice_set slots n x)) value
