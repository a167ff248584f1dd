-- Settings one after the other, and the columns of a row from the last one on.
use Rattle.std.proofs.Common.{◌≡◌, ℕ, zero, suc, ◌+◌, ◌<◌, ◌≤◌, min, List, [], ◌∷◌, ◌++◌, length, drop, get_or, Option, refl, sym, ap, ◌∙◌, add-one, arith}
use Rattle.std.specs.Prelude.{slice_get, slice_set}
use Rattle.std.proofs.lemmas.Option.{slice_get-get_or, slice_get_past}
use Rattle.ds2_value.specs.Row.{Row}
use Rattle.ds2_value.specs.declared.value.Value.{Value}
use Rattle.ds2_value.specs.declared.value.Value.TheVariants.{Null}
use Rattle.ds2_code.specs.declared.parts.Slot.{Slot}
use Rattle.ds2_code.specs.CodeUnit.{assigned_to_slot, row_slot_settings}
use Rattle.ds2_code.specs.Desk.{SlotSettings, with_slot_settings}
use Rattle.ds2_code_answer.specs.CodeLoads.{column_nulls, settings_of_read}

pub settings_in_turn : (xs ys : SlotSettings) (slots : Row) → with_slot_settings (xs ++ ys) slots ≡ with_slot_settings ys (with_slot_settings xs slots)
settings_in_turn [] ys slots = refl
settings_in_turn (x ∷ xs) ys slots = settings_in_turn xs ys (slice_set slots x.0 x.1)

-- ---- slots that are set to null

nulls_more : (ns : List ℕ) (slots : Row) (i d : ℕ) → i < length ns
    → with_slot_settings (column_nulls (drop i ns)) slots ≡ with_slot_settings (column_nulls (drop (suc i) ns)) (slice_set slots (get_or ns i d) Null)
nulls_more [] slots i d h = absurd (omega (arith, h))
nulls_more (n ∷ ns) slots zero d h = refl
nulls_more (n ∷ ns) slots (suc i) d h = nulls_more ns slots i d (omega (arith, h))

pub nulls_next : (ns : List ℕ) (slots : Row) (i : ℕ) → i < length ns
    → with_slot_settings (column_nulls (drop i ns)) slots ≡ with_slot_settings (column_nulls (drop (i + 1) ns)) (slice_set slots (get_or ns i 0) Null)
nulls_next ns slots i h =
    nulls_more ns slots i 0 h ∙ ap (λ k. with_slot_settings (column_nulls (drop k ns)) (slice_set slots (get_or ns i 0) Null)) (sym (add-one i))

-- ---- the columns of a row

module _ (parts : List Slot) where
  none_behind : (ns : List ℕ) (row : Row) (i : ℕ) → i ≡ min (length ns) (length row) → row_slot_settings parts (drop i ns) (drop i row) ≡ []
  none_behind [] row zero h = refl
  none_behind [] row (suc i) h = absurd (omega (arith, h))
  none_behind (n ∷ ns) [] zero h = refl
  none_behind (n ∷ ns) [] (suc i) h = absurd (omega (arith, h))
  none_behind (n ∷ ns) (v ∷ row) zero h = absurd (omega (arith, h))
  none_behind (n ∷ ns) (v ∷ row) (suc i) h = none_behind ns row i (omega (arith, h))

  pub columns_first : (ns : List ℕ) (row slots : Row) (i : ℕ) → i ≡ min (length ns) (length row) → slots ≡ with_slot_settings (row_slot_settings parts (drop i ns) (drop i row)) slots
  columns_first ns row slots i h = ap (λ xs. with_slot_settings xs slots) (sym (none_behind ns row i h))

  column_more : (ns : List ℕ) (row : Row) (i d : ℕ) (v : Value) → i < length ns → i < length row → v ≡ get_or row i v
      → row_slot_settings parts (drop i ns) (drop i row)
      ≡ row_slot_settings parts (drop (suc i) ns) (drop (suc i) row) ++ (get_or ns i d, assigned_to_slot (slice_get parts (get_or ns i d)) v) ∷ []
  column_more [] row i d v h k e = absurd (omega (arith, h))
  column_more (n ∷ ns) [] i d v h k e = absurd (omega (arith, k))
  column_more (n ∷ ns) (w ∷ row) zero d v h k e =
      let same : v ≡ w = cc in ap (λ (z : Value). row_slot_settings parts ns row ++ (n, assigned_to_slot (slice_get parts n) z) ∷ []) (sym same)
  column_more (n ∷ ns) (w ∷ row) (suc i) d v h k e = column_more ns row i d v (omega (arith, h)) (omega (arith, k)) e

  pub columns_next : (ns : List ℕ) (row before after slots : Row) (j i : ℕ) (v : Value) → j ≡ suc i → i < length ns → i < length row → v ≡ get_or row i v
      → before ≡ with_slot_settings (row_slot_settings parts (drop j ns) (drop j row)) slots
      → after ≡ slice_set before (get_or ns i 0) (assigned_to_slot (slice_get parts (get_or ns i 0)) v)
      → after ≡ with_slot_settings (row_slot_settings parts (drop i ns) (drop i row)) slots
  columns_next ns row before after slots j i v is h k e so_far step =
      let n = get_or ns i 0 in
      let set : ℕ × Value = (n, assigned_to_slot (slice_get parts n) v) in
      step
      ∙ ap (λ (z : Row). slice_set z n (assigned_to_slot (slice_get parts n) v)) (so_far ∙ ap (λ z. with_slot_settings (row_slot_settings parts (drop z ns) (drop z row)) slots) is)
      ∙ sym (settings_in_turn (row_slot_settings parts (drop (suc i) ns) (drop (suc i) row)) (set ∷ []) slots)
      ∙ ap (λ xs. with_slot_settings xs slots) (sym (column_more ns row i 0 v h k e))

pub ruleset columns_in_turn = (columns_first, columns_next)

-- ---- a row of a table, where there is one

module _ (parts : List Slot) (ns : List ℕ) where
  pub row_past : (rows : List Row) (i : ℕ) (slots : Row) → length rows ≤ i → slots ≡ with_slot_settings (settings_of_read parts ns (slice_get rows i)) slots
  row_past rows i slots h = ap (λ (o : Option Row). with_slot_settings (settings_of_read parts ns o) slots) (sym (slice_get_past rows i h))

  pub row_there : (rows : List Row) (i : ℕ) (before after : Row) → i < length rows → after ≡ with_slot_settings (row_slot_settings parts ns (get_or rows i [])) before
      → after ≡ with_slot_settings (settings_of_read parts ns (slice_get rows i)) before
  row_there rows i before after h set = set ∙ ap (λ (o : Option Row). with_slot_settings (settings_of_read parts ns o) before) (sym (slice_get-get_or rows i [] h))

pub ruleset table_rows = (row_past, row_there)
