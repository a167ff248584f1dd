-- Numbers of rows, sorted by their keys and then by themselves, stand in BY order.
use Rattle.std.proofs.Common.{◌≡◌, ℕ, zero, suc, ◌+◌, ◌<◌, ◌≤◌, Bool, true, false, not, ◌&&◌, cond, List, [], ◌∷◌, map, length, drop, refl, sym, ap, ◌∙◌, subst, arith, ◌⊎◌, inl, inr}
use Rattle.std.specs.Prelude.{filter, get_or, slice_get, Option, Some, None}
use Rattle.std.specs.Cmp.{IsTotalOrder, IsStrictWeakOrder, ranked}
use Rattle.std.specs.List.{list_all, range_with_len}
use Rattle.std.specs.List.Sorted.{IsPermutation, IsSortedBy, ties}
use Rattle.std.specs.Ordering.{nat_cmp, is_lt, ordering_then, ordering_reverse, MatchOrdering}
use Rattle.std.specs.declared.cmp.Ordering.{Ordering}
use Rattle.std.specs.declared.cmp.Ordering.TheVariants.{Less, Equal, Greater}
use Rattle.std.proofs.lemmas.Cmp.{then_total, on_total, nat_cmp_total}
use Rattle.std.proofs.lemmas.List.{get_or-map, get_or_past, length-map}
use Rattle.std.proofs.lemmas.List.Sorted.{ranks_by}
use Rattle.std.proofs.lemmas.Option.{slice_get_past}
use Rattle.ds2_value.specs.declared.value.Value.{Value}
use Rattle.ds2_table.specs.LoadLaws.{AreKeys, HaveTableKeys}
use Rattle.ds2_table.specs.Loads.{InputRow, keys_order, placed, numbered_rows, input_rows, in_by_order, keys_of_rows}
use Rattle.ds2_table.proofs.Sorted.{first_part, second_part}
use Rattle.ds2_reading.specs.KeyHeads.{row_of}
use Rattle.ds2_reading.specs.KeyOrder.{InputKeys, numbered_row, key_of_number, parts_order, parts_in_common}
use Rattle.ds2_reading.specs.Numbers.{order_from, is_before, AreInOrder, common_of_numbers, AreCommonsOf}
use Rattle.ds2_reading.specs.Places.{item_before, all_rows, common_with, common_before, AreRowNumbers, AreCommons}
use Rattle.ds2_reading.proofs.AllRows.{keys_of, input_fit, key_there}
use Rattle.ds2_reading.proofs.Parts.{parts_total}
use Rattle.ds2_reading.proofs.Rising.{AtLeast, Rising, rising_kept, range_rises, same_kept}
use Rattle.ds2_reading.proofs.SortedNumbers.{is_row_before, IsOrderOfRows, Rise, rises, neither, sorted_numbers}

-- ---- the order

pub order_from_total : (input : InputKeys) (level : ℕ) → IsTotalOrder (order_from input level)
order_from_total input level =
    then_total (on_total (λ (i : ℕ). drop level (key_of_number input i)) (parts_total (drop level input.descending))) nat_cmp_total

-- the keys of all rows
abbrev all_keys : InputKeys → List (List Value)
all_keys input = keys_of_rows (input_rows 0 input.tables)

not_lower : (r o : Ordering) → is_lt (ordering_then r o) ≡ false → is_lt r ≡ false
not_lower Less o h = h
not_lower Equal o h = refl
not_lower Greater o h = refl

not_true : (b : Bool) → not b ≡ true → b ≡ false
not_true true h = cc
not_true false h = refl

-- ---- rows that tie rise

module _ (input : InputKeys) (x : ℕ) where
  abbrev known : List (List Value)
  known = all_keys input

  abbrev ways : List Bool
  ways = input.descending

  abbrev tied : ℕ → Bool
  tied = ties (is_row_before ways known) x

  turned : (i : ℕ) → parts_order ways (get_or known i []) (get_or known x []) ≡ ordering_reverse (parts_order ways (get_or known x []) (get_or known i []))
  turned i = let t = parts_total ways in t.antisymm (get_or known i []) (get_or known x [])

  level : (i : ℕ) → tied i ≡ true → parts_order ways (get_or known x []) (get_or known i []) ≡ Equal
  level i e =
      neither (parts_order ways (get_or known x []) (get_or known i []))
      (ap (λ r. not (is_lt (parts_order ways (get_or known x []) (get_or known i []))) && not (is_lt r)) (sym (turned i)) ∙ e)

  both_level : (i j : ℕ) → tied i ≡ true → tied j ≡ true → parts_order ways (get_or known j []) (get_or known i []) ≡ Equal
  both_level i j e f =
      let t = parts_total ways in
      sym (t.congr (get_or known x []) (get_or known j []) (get_or known i []) (level j f)) ∙ level i e

  at_least_by : (i j : ℕ) → is_lt (nat_cmp j i) ≡ false → i ≤ j
  at_least_by i j e = by (nat_cmp j i) (ranked j i (nat_cmp j i) refl) e
    where
      by : (r : Ordering) → MatchOrdering r (j < i) (j ≡ i) (i < j) → is_lt r ≡ false → i ≤ j
      by Less l e = cc
      by Equal l e = omega (arith, l)
      by Greater l e = omega (arith, l)

  rising_tied : (i j : ℕ) → tied i ≡ true → tied j ≡ true → is_before input j i ≡ false → i ≤ j
  rising_tied i j e f h = at_least_by i j (sym (ap (λ r. is_lt (ordering_then r (nat_cmp j i))) (both_level i j e f)) ∙ h)

  at_least_tied : (i : ℕ) (is : List ℕ) → tied i ≡ true → list_all (λ j. not (is_before input j i)) is ≡ true → AtLeast i (filter tied is)
  at_least_tied i [] e h = tt
  at_least_tied i (j ∷ js) e h =
      by (tied j) refl (at_least_tied i js e (second_part (not (is_before input j i)) (list_all (λ j. not (is_before input j i)) js) h))
    where
      by : (b : Bool) → tied j ≡ b → AtLeast i (filter tied js) → AtLeast i (cond b (j ∷ filter tied js) (filter tied js))
      by true f again =
          (rising_tied i j e f (not_true (is_before input j i) (first_part (not (is_before input j i)) (list_all (λ j. not (is_before input j i)) js) h)), again)
      by false f again = again

  pub tied_rise : (is : List ℕ) → Rise (is_before input) is → Rising (filter tied is)
  tied_rise [] r = tt
  tied_rise (i ∷ is) r = by (tied i) refl (tied_rise is r.1)
    where
      by : (b : Bool) → tied i ≡ b → Rising (filter tied is) → Rising (cond b (i ∷ filter tied is) (filter tied is))
      by true e again = (at_least_tied i is e r.0, again)
      by false e again = again

-- ---- the numbers of rows as a list of their own

module _ (input : InputKeys) (numbers : List ℕ) (fit : HaveTableKeys input.descending input.tables) (h : AreInOrder input numbers) where
  abbrev rows : List ℕ
  rows = map row_of numbers

  abbrev inputs : List InputRow
  inputs = input_rows 0 input.tables

  many : length (all_keys input) ≡ length inputs
  many = length-map inputs (λ (row : InputRow). row.key)

  pub have_all_keys : AreKeys input.descending (all_keys input)
  have_all_keys = keys_of input.descending inputs (input_fit input.descending 0 input.tables fit)

  strict : IsStrictWeakOrder (is_before input)
  strict = ranks_by (order_from_total input 0) (λ (i : ℕ). i)

  sorted_rows : IsSortedBy (is_before input) rows
  sorted_rows k d low l =
      let few : k + 1 < length numbers = omega (arith, l, length-map numbers row_of) in
      (λ i. is_before input (get_or-map row_of numbers (k + 1) 0 d few i) (get_or-map row_of numbers k 0 d (omega (arith, few)) i)) ∙ h.sorted k 0 low few

  by_keys : IsSortedBy (is_row_before input.descending (all_keys input)) rows
  by_keys k d low l =
      not_lower (parts_order input.descending (get_or (all_keys input) (get_or rows (k + 1) d) []) (get_or (all_keys input) (get_or rows k d) []))
      (nat_cmp (get_or rows (k + 1) d) (get_or rows k d)) (sorted_rows k d low l)

  moved : IsPermutation (range_with_len 0 (length (all_keys input))) rows
  moved = let P : ℕ → Type 0 = λ n. IsPermutation (range_with_len 0 n) rows in subst P (sym many) h.rows

  pub ordered : IsOrderOfRows input.descending (all_keys input) rows
  ordered =
      sorted_numbers input.descending (all_keys input) rows have_all_keys moved by_keys
      (λ x l.
      same_kept (ties (is_row_before input.descending (all_keys input)) x) (range_with_len 0 (length (all_keys input))) rows moved
      (rising_kept (ties (is_row_before input.descending (all_keys input)) x) (range_with_len 0 (length (all_keys input))) (range_rises 0 (length (all_keys input))))
      (tied_rise input x rows (rises (is_before input) strict rows sorted_rows)))

-- ---- rows under other names

-- rows of the same keys, of which the one leads to the other
abbrev Lead : (InputRow → Option InputRow) → List InputRow → List InputRow → Type 0
Lead f [] [] = Unit {0}
Lead f [] (y ∷ ys) = ⊥
Lead f (x ∷ xs) [] = ⊥
Lead f (x ∷ xs) (y ∷ ys) = (f x ≡ Some y) × (x.key ≡ y.key) × Lead f xs ys

lead_placed : (f : InputRow → Option InputRow) (ds : List Bool) (x y : InputRow) (xs ys : List InputRow) → f x ≡ Some y → x.key ≡ y.key → Lead f xs ys
    → Lead f (placed ds x xs) (placed ds y ys)
lead_placed f ds x y [] [] e k l = (e, k, tt)
lead_placed f ds x y [] (b ∷ ys) e k l = absurd l
lead_placed f ds x y (a ∷ xs) [] e k l = absurd l
lead_placed f ds x y (a ∷ xs) (b ∷ ys) e k l =
    by (is_lt (keys_order ds a.key x.key)) (is_lt (keys_order ds b.key y.key)) (λ i. is_lt (keys_order ds (l.1 i) (k i))) (lead_placed f ds x y xs ys e k l.2)
  where
    by : (s t : Bool) → s ≡ t → Lead f (placed ds x xs) (placed ds y ys)
        → Lead f (cond s (a ∷ placed ds x xs) (x ∷ a ∷ xs)) (cond t (b ∷ placed ds y ys) (y ∷ b ∷ ys))
    by true true q again = (l.0, l.1, again)
    by true false q again = cc
    by false true q again = cc
    by false false q again = (e, k, l)

lead_ordered : (f : InputRow → Option InputRow) (ds : List Bool) (xs ys : List InputRow) → Lead f xs ys → Lead f (in_by_order ds xs) (in_by_order ds ys)
lead_ordered f ds [] [] l = tt
lead_ordered f ds [] (y ∷ ys) l = absurd l
lead_ordered f ds (x ∷ xs) [] l = absurd l
lead_ordered f ds (x ∷ xs) (y ∷ ys) l = lead_placed f ds x y (in_by_order ds xs) (in_by_order ds ys) l.0 l.1 (lead_ordered f ds xs ys l.2)

led : (f : InputRow → Option InputRow) (xs ys : List InputRow) → Lead f xs ys → map f xs ≡ map Some ys
led f [] [] l = refl
led f [] (y ∷ ys) l = absurd l
led f (x ∷ xs) [] l = absurd l
led f (x ∷ xs) (y ∷ ys) l = λ i. l.0 i ∷ led f xs ys l.2 i

numbered_lead : (whole : List InputRow) (n : ℕ) (left : List InputRow) → ((i : ℕ) → slice_get whole (n + i) ≡ slice_get left i)
    → Lead (λ (row : InputRow). slice_get whole row.number) (numbered_rows 0 n (keys_of_rows left)) left
numbered_lead whole n [] e = tt
numbered_lead whole n (row ∷ left) e =
    let z : n ≡ n + 0 = omega arith in (
      ap (slice_get whole) z ∙ e 0,
      refl,
      numbered_lead whole (n + 1) left (λ i. let y : n + 1 + i ≡ n + suc i = omega arith in ap (slice_get whole) y ∙ e (suc i)),
    )

mapped_twice : (whole : List InputRow) (keys : List (List Value)) (rows : List ℕ)
    → map (λ (row : InputRow). slice_get whole row.number) (map (numbered_row 0 keys) rows) ≡ map (slice_get whole) rows
mapped_twice whole keys [] = refl
mapped_twice whole keys (row ∷ rows) = ap (λ r. slice_get whole row ∷ r) (mapped_twice whole keys rows)

-- numbers in order are those of all rows in BY order
pub row_numbers : (input : InputKeys) (numbers : List ℕ) → HaveTableKeys input.descending input.tables → AreInOrder input numbers → AreRowNumbers input (map row_of numbers)
row_numbers input numbers fit h =
    let whole = input_rows 0 input.tables in
    let keys = keys_of_rows whole in
    let f : InputRow → Option InputRow = λ row. slice_get whole row.number in
    let o = ordered input numbers fit h in
    sym (mapped_twice whole keys (map row_of numbers))
    ∙ ap (map f) (o.rows 0)
    ∙ led f (in_by_order input.descending (numbered_rows 0 0 keys)) (in_by_order input.descending whole)
    (lead_ordered f input.descending (numbered_rows 0 0 keys) whole (numbered_lead whole 0 whole (λ i. let z : 0 + i ≡ i = omega arith in ap (slice_get whole) z)))

-- ---- a row by its place

pub none_or_zero : (xs : List ℕ) (k : ℕ) → slice_get xs k ≡ None → get_or xs k 0 ≡ 0
none_or_zero [] k e = refl
none_or_zero (x ∷ xs) zero e = let none : Some x ≡ None = e in cc
none_or_zero (x ∷ xs) (suc k) e = none_or_zero xs k e

some_at : {A : Type 0} (xs : List A) (k : ℕ) → get_or (map Some xs) k None ≡ slice_get xs k
some_at [] k = refl
some_at (x ∷ xs) zero = refl
some_at (x ∷ xs) (suc k) = some_at xs k

-- the row at a place is that of the number there
pub row_at_place : (input : InputKeys) (rows : List ℕ) (k : ℕ) → AreRowNumbers input rows → k < length rows
    → slice_get (input_rows 0 input.tables) (get_or rows k 0) ≡ slice_get (all_rows input.descending input.tables) k
row_at_place input rows k e l =
    sym (get_or-map (slice_get (input_rows 0 input.tables)) rows k 0 None l)
    ∙ ap (λ (xs : List (Option InputRow)). get_or xs k None) e
    ∙ some_at (all_rows input.descending input.tables) k

pub as_many_numbers : (input : InputKeys) (rows : List ℕ) → AreRowNumbers input rows → length rows ≡ length (all_rows input.descending input.tables)
as_many_numbers input rows e =
    sym (length-map rows (slice_get (input_rows 0 input.tables))) ∙ ap (λ (xs : List (Option InputRow)). length xs) e ∙ length-map (all_rows input.descending input.tables) Some

-- past the last one there is none
pub none_at_place : (input : InputKeys) (rows : List ℕ) (k : ℕ) → AreRowNumbers input rows → slice_get rows k ≡ None
    → None ≡ slice_get (all_rows input.descending input.tables) k
none_at_place input rows k e n =
    sym (slice_get_past (all_rows input.descending input.tables) k (omega (arith, as_many_numbers input rows e, past_none rows k n)))
  where
    past_none : (xs : List ℕ) (k : ℕ) → slice_get xs k ≡ None → length xs ≤ k
    past_none [] k e = omega arith
    past_none (x ∷ xs) zero e = let none : Some x ≡ None = e in cc
    past_none (x ∷ xs) (suc k) e = omega (arith, past_none xs k e)

some_there : {A : Type 0} (xs : List A) (k : ℕ) → k < length xs → (x : A) × (slice_get xs k ≡ Some x)
some_there [] k l = absurd (omega (arith, l))
some_there (x ∷ xs) zero l = (x, refl)
some_there (x ∷ xs) (suc k) l = some_there xs k (omega (arith, l))

module _ (input : InputKeys) (numbers commons : List ℕ) (fit : HaveTableKeys input.descending input.tables) (h : AreInOrder input numbers) (c : AreCommonsOf input numbers commons) where
  abbrev all : List InputRow
  all = all_rows input.descending input.tables

  abbrev key_at : ℕ → List Value
  key_at k = key_of_number input (row_of (get_or numbers k 0))

  as_many : length numbers ≡ length all
  as_many = sym (length-map numbers row_of) ∙ as_many_numbers input (map row_of numbers) (row_numbers input numbers fit h)

  row_there : (k : ℕ) → k < length numbers → (row : InputRow) × (slice_get all k ≡ Some row) × (key_at k ≡ row.key)
  row_there k l =
      let found = some_there all k (omega (arith, l, as_many)) in
      let at : slice_get (input_rows 0 input.tables) (row_of (get_or numbers k 0)) ≡ slice_get all k =
      ap (slice_get (input_rows 0 input.tables)) (sym (get_or-map row_of numbers k 0 0 l))
      ∙ row_at_place input (map row_of numbers) k (row_numbers input numbers fit h) (omega (arith, l, length-map numbers row_of)) in
      (found.0, found.1, key_there (input_rows 0 input.tables) (row_of (get_or numbers k 0)) found.0 (at ∙ found.1))

  none_with : (before : Option InputRow) → common_with (length input.descending) before None ≡ 0
  none_with None = refl
  none_with (Some row) = refl

  past : (k : ℕ) → length numbers ≤ k → get_or commons k 0 ≡ common_before input k
  past k l =
      get_or_past commons k 0 (omega (arith, l, c.count))
      ∙ sym (ap (common_with (length input.descending) (item_before all k)) (slice_get_past all k (omega (arith, l, as_many))) ∙ none_with (item_before all k))

  within : (k : ℕ) → k < length numbers → common_of_numbers input numbers k ≡ common_before input k
  within zero l = refl
  within (suc k) l =
      let before = row_there k (omega (arith, l)) in
      let this = row_there (suc k) l in
      (λ i. parts_in_common (length input.descending) (before.2 i) (this.2 i))
      ∙ sym (λ i. common_with (length input.descending) (before.1 i) (this.1 i))

  pub commons_are : AreCommons input commons
  commons_are k = by (nat_less k (length numbers))
    where
      nat_less : (a b : ℕ) → (a < b) ⊎ (b ≤ a)
      nat_less a zero = inr (omega arith)
      nat_less zero (suc b) = inl (omega arith)
      nat_less (suc a) (suc b) = more (nat_less a b)
        where
          more : (a < b) ⊎ (b ≤ a) → (suc a < suc b) ⊎ (suc b ≤ suc a)
          more (inl l) = inl (omega (arith, l))
          more (inr l) = inr (omega (arith, l))

      by : (k < length numbers) ⊎ (length numbers ≤ k) → get_or commons k 0 ≡ common_before input k
      by (inl l) = c.each k l ∙ within k l
      by (inr l) = past k l
