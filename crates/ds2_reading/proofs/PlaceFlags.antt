-- The flags of a load of the row at a place.
use Rattle.std.proofs.Common.{◌≡◌, ℕ, zero, suc, ◌+◌, ◌<◌, ◌≤◌, Bool, true, false, ◌||◌, nat_eq, nat_lt, List, [], ◌∷◌, length, refl, sym, ap, ◌∙◌, arith}
use Rattle.std.specs.Prelude.{slice_get, Option, Some, None}
use Rattle.std.specs.Option.{option_map, option_map_or}
use Rattle.std.proofs.lemmas.Bool.Decides.{Decides-eqb}
use Rattle.ds2_value.specs.declared.value.Value.{Value}
use Rattle.ds2_table.specs.LoadLaws.{HaveTableKeys}
use Rattle.ds2_table.specs.Loads.{InputRow, flags_beside, is_new_key}
use Rattle.ds2_reading.specs.GroupStarts.{opens_group, opens_group_at}
use Rattle.ds2_reading.specs.KeyOrder.{InputKeys}
use Rattle.ds2_reading.specs.LoadMeaning.{flags_behind}
use Rattle.ds2_reading.specs.Places.{item_before, all_rows, common_with, common_before}
use Rattle.ds2_reading.proofs.AllRows.{all_rows_fit, long_at}
use Rattle.ds2_reading.proofs.FlagLemmas.{common_within, all_flags, common_flags, common_new, common_below, differences_turned}

same_zero : nat_eq 0 0 ≡ true
same_zero = let d = Decides-eqb 0 0 in d.1 refl

above_zero : (n : ℕ) → nat_eq (suc n) 0 ≡ false
above_zero n = by (nat_eq (suc n) 0) refl
  where
    by : (b : Bool) → nat_eq (suc n) 0 ≡ b → nat_eq (suc n) 0 ≡ false
    by true e = let d = Decides-eqb (suc n) 0 in absurd (omega (arith, d.0 e))
    by false e = e

abbrev row_key : InputRow → List Value
row_key row = row.key

with_within : (m : ℕ) (before row : Option InputRow) → common_with m before row ≤ m
with_within m None row = omega arith
with_within m (Some before) None = omega arith
with_within m (Some before) (Some row) = common_within m before.key row.key

-- no more are in common than there are
pub before_within : (input : InputKeys) (place : ℕ) → common_before input place ≤ length input.descending
before_within input place =
    let rows = all_rows input.descending input.tables in with_within (length input.descending) (item_before rows place) (slice_get rows place)

one_before : {A : Type 0} (xs : List A) (k : ℕ) (x : A) → slice_get xs (suc k) ≡ Some x → (y : A) × (slice_get xs k ≡ Some y)
one_before [] k x e = let none : None ≡ Some x = e in cc
one_before (y ∷ xs) zero x e = (y, refl)
one_before (y ∷ xs) (suc k) x e = one_before xs k x e

module _ (input : InputKeys) (fit : HaveTableKeys input.descending input.tables) (place : ℕ) (this : InputRow) (here : slice_get (all_rows input.descending input.tables) place ≡ Some this) where
  abbrev m : ℕ
  m = length input.descending

  abbrev rows : List InputRow
  rows = all_rows input.descending input.tables

  pub long : (k : ℕ) (row : InputRow) → slice_get rows k ≡ Some row → length row.key ≡ m
  long k row e = long_at input.descending rows k row (all_rows_fit input.descending input.tables fit) e

  this_long : length this.key ≡ m
  this_long = long place this here

  first_with : (before : Option InputRow) → ((row : InputRow) → before ≡ Some row → length row.key ≡ m)
      → flags_behind m (common_with m before (Some this)) ≡ flags_beside (option_map row_key before) this.key
  first_with None l = all_flags m this.key this_long
  first_with (Some before) l = common_flags m before.key this.key (l before refl) this_long ∙ differences_turned false before.key this.key

  before_long : (k : ℕ) (row : InputRow) → item_before rows k ≡ Some row → length row.key ≡ m
  before_long zero row e = let none : None ≡ Some row = e in cc
  before_long (suc k) row e = long k row e

  -- beside the row before
  pub flags_first : flags_behind m (common_before input place) ≡ flags_beside (option_map row_key (item_before rows place)) this.key
  flags_first = ap (λ row. flags_behind m (common_with m (item_before rows place) row)) here ∙ first_with (item_before rows place) (before_long place)

  last_with : (next : Option InputRow) → ((row : InputRow) → next ≡ Some row → length row.key ≡ m)
      → flags_behind m (common_with m (Some this) next) ≡ flags_beside (option_map row_key next) this.key
  last_with None l = all_flags m this.key this_long
  last_with (Some next) l = common_flags m this.key next.key this_long (l next refl)

  at_next : item_before rows (place + 1) ≡ Some this
  at_next = let e : place + 1 ≡ suc place = omega arith in ap (item_before rows) e ∙ here

  -- and beside the next one
  pub flags_last : flags_behind m (common_before input (place + 1)) ≡ flags_beside (option_map row_key (slice_get rows (place + 1))) this.key
  flags_last = ap (λ row. flags_behind m (common_with m row (slice_get rows (place + 1)))) at_next ∙ last_with (slice_get rows (place + 1)) (long (place + 1))

  -- whether it opens a key
  pub fresh : is_new_key (option_map row_key (item_before rows place)) this.key ≡ (nat_eq place 0 || nat_lt (common_before input place) m)
  fresh = by place here
    where
      by : (k : ℕ) → slice_get rows k ≡ Some this → is_new_key (option_map row_key (item_before rows k)) this.key ≡ (nat_eq k 0 || nat_lt (common_before input k) m)
      by zero e = sym (ap (λ b. b || nat_lt (common_before input 0) m) same_zero)
      by (suc k) e =
          let before = one_before rows k this e in
          ap (λ row. is_new_key (option_map row_key row) this.key) before.1
          ∙ common_new m before.0.key this.key (long k before.0 before.1) this_long
          ∙ sym (λ i. above_zero k i || nat_lt (common_with m (before.1 i) (e i)) m)

  -- whether it opens a group
  pub opens : (p : ℕ) → p ≤ m → opens_group_at p rows place ≡ (nat_eq p 0 || (nat_eq place 0 || nat_lt (common_before input place) p))
  opens p l = by p place l here
    where
      by : (p k : ℕ) → p ≤ m → slice_get rows k ≡ Some this → opens_group_at p rows k ≡ (nat_eq p 0 || (nat_eq k 0 || nat_lt (common_before input k) p))
      by zero k l e =
          ap (λ row. option_map_or (λ (r : InputRow). opens_group 0 (option_map row_key (item_before rows k)) r.key) row false) e
          ∙ sym (ap (λ b. b || (nat_eq k 0 || nat_lt (common_before input k) 0)) same_zero)
      by (suc p) zero l e =
          ap (λ row. option_map_or (λ (r : InputRow). opens_group (suc p) None r.key) row false) e
          ∙ sym (λ i. above_zero p i || (same_zero i || nat_lt (common_before input 0) (suc p)))
      by (suc p) (suc k) l e =
          let before = one_before rows k this e in
          (λ i. option_map_or (λ (row : InputRow). opens_group (suc p) (option_map row_key (before.1 i)) row.key) (e i) false)
          ∙ common_below m (suc p) before.0.key this.key (long k before.0 before.1) this_long l
          ∙ sym (λ i. above_zero p i || (above_zero k i || nat_lt (common_with m (before.1 i) (e i)) (suc p)))

row_is_there : {A : Type 0} (xs : List A) (k : ℕ) → k < length xs → (x : A) × (slice_get xs k ≡ Some x)
row_is_there [] k l = absurd (omega (arith, l))
row_is_there (x ∷ xs) zero l = (x, refl)
row_is_there (x ∷ xs) (suc k) l = row_is_there xs k (omega (arith, l))

-- whether the row at a place opens a group
pub opens_there : (input : InputKeys) (p place : ℕ) → HaveTableKeys input.descending input.tables → p ≤ length input.descending
    → place < length (all_rows input.descending input.tables)
    → opens_group_at p (all_rows input.descending input.tables) place ≡ (nat_eq p 0 || (nat_eq place 0 || nat_lt (common_before input place) p))
opens_there input p place fit l there =
    let found = row_is_there (all_rows input.descending input.tables) place there in opens input fit place found.0 found.1 p l
