-- Rows and settings, one after the other.
use Rattle.std.proofs.Common.{◌≡◌, ℕ, zero, suc, ◌+◌, ◌<◌, List, [], ◌∷◌, ◌++◌, Some, length, take, drop, get_or, refl, sym, ap, ◌∙◌, append_assoc, add-one, arith}
use Rattle.std.specs.Prelude.{map, slice_get, slice_set}
use Rattle.std.proofs.lemmas.List.{append-nil}
use Rattle.ds2_value.specs.Value.{or_null}
use Rattle.ds2_value.specs.Run.{Written}
use Rattle.ds2_value.specs.declared.value.Value.{Value}
use Rattle.ds2_code.specs.Desk.{values_of_slots, SlotSettings, with_slot_settings}
use Rattle.ds2_machine.specs.Kept.{slots_of_columns}

row_more : (columns : List (List ℕ × ℕ)) (slots : List Value) (i : ℕ) (d : List ℕ × ℕ) → i < length columns
    → values_of_slots (slots_of_columns (take (suc i) columns)) slots ≡ values_of_slots (slots_of_columns (take i columns)) slots ++ or_null (slice_get slots (get_or columns i d).1) ∷ []
row_more [] slots i d h = absurd (omega (arith, h))
row_more (c ∷ columns) slots zero d h = refl
row_more (c ∷ columns) slots (suc i) d h = ap (λ z. or_null (slice_get slots c.1) ∷ z) (row_more columns slots i d (omega arith))

pub row_next : (columns : List (List ℕ × ℕ)) (slots : List Value) (i : ℕ) (c : List ℕ × ℕ) → i < length columns → c ≡ get_or columns i c
    → values_of_slots (slots_of_columns (take (i + 1) columns)) slots ≡ values_of_slots (slots_of_columns (take i columns)) slots ++ or_null (slice_get slots c.1) ∷ []
row_next columns slots i c h e =
    ap (λ n. values_of_slots (slots_of_columns (take n columns)) slots) (add-one i) ∙ row_more columns slots i c h
    ∙ ap (λ (z : List ℕ × ℕ). values_of_slots (slots_of_columns (take i columns)) slots ++ or_null (slice_get slots z.1) ∷ []) (sym e)

settings_more : (settings : SlotSettings) (slots : List Value) (i : ℕ) (s : ℕ × Value) → i < length settings → s ≡ get_or settings i s
    → with_slot_settings (drop i settings) slots ≡ with_slot_settings (drop (suc i) settings) (slice_set slots s.0 s.1)
settings_more [] slots i s h e = absurd (omega (arith, h))
settings_more (x ∷ settings) slots zero s h e = let same : s ≡ x = cc in ap (λ (z : ℕ × Value). with_slot_settings settings (slice_set slots z.0 z.1)) (sym same)
settings_more (x ∷ settings) slots (suc i) s h e = settings_more settings slots i s (omega arith) e

pub set_more : (settings : SlotSettings) (slots : List Value) (i : ℕ) (s : ℕ × Value) → i < length settings → s ≡ get_or settings i s
    → with_slot_settings (drop i settings) slots ≡ with_slot_settings (drop (i + 1) settings) (slice_set slots s.0 s.1)
set_more settings slots i s h e = rw (add-one i) (settings_more settings slots i s h e)
