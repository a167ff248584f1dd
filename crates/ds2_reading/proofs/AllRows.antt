-- The rows of all tables.
use Rattle.std.proofs.Common.{◌≡◌, ℕ, zero, suc, ◌+◌, ◌-◌, ◌<◌, ◌≤◌, Bool, true, false, cond, List, [], ◌∷◌, ◌++◌, length, drop, refl, sym, ap, ◌∙◌, arith}
use Rattle.std.specs.Prelude.{slice_get, get_or, Some, None, if◌then◌else◌}
use Rattle.std.specs.Ordering.{is_lt}
use Rattle.std.proofs.lemmas.List.{length-append, drop_more, drop_all}
use Rattle.ds2_value.specs.Order.{same_row}
use Rattle.ds2_value.specs.declared.value.Value.{Value}
use Rattle.ds2_table.specs.LoadLaws.{HaveKeys, AreKeys, HaveTableKeys, AreSorted, rows_of_key}
use Rattle.ds2_table.specs.Loads.{InputRow, keys_order, placed, numbered_rows, input_rows, in_by_order, keys_of_rows}
use Rattle.ds2_table.proofs.ByOrder.{Fits}
use Rattle.ds2_table.proofs.Sorted.{AllFit, all_fit, order_fits, sorted, rows_stand_in_by_order}
use Rattle.ds2_reading.specs.KeyOrder.{numbered_row}
use Rattle.ds2_reading.specs.Places.{all_rows}
use Rattle.ds2_reading.proofs.RowCounts.{numbered_length}
use Rattle.ds2_reading.proofs.SortedNumbers.{have_keys}

-- ---- rows with a value for each BY variable

pub fits_long : (ds : List Bool) (xs : List Value) → Fits ds xs → length xs ≡ length ds
fits_long [] [] f = omega arith
fits_long [] (x ∷ xs) f = absurd f
fits_long (d ∷ ds) [] f = absurd f
fits_long (d ∷ ds) (x ∷ xs) f = omega (arith, fits_long ds xs f)

pub have_of : (ds : List Bool) (rows : List InputRow) → AllFit ds rows → HaveKeys ds rows
have_of ds [] f = tt
have_of ds (row ∷ rows) f = (fits_long ds row.key f.0, have_of ds rows f.1)

pub keys_of : (ds : List Bool) (rows : List InputRow) → AllFit ds rows → AreKeys ds (keys_of_rows rows)
keys_of ds [] f = tt
keys_of ds (row ∷ rows) f = (fits_long ds row.key f.0, keys_of ds rows f.1)

joined_fit : (ds : List Bool) (xs ys : List InputRow) → AllFit ds xs → AllFit ds ys → AllFit ds (xs ++ ys)
joined_fit ds [] ys f g = g
joined_fit ds (x ∷ xs) ys f g = (f.0, joined_fit ds xs ys f.1 g)

pub input_fit : (ds : List Bool) (table : ℕ) (tables : List (List (List Value))) → HaveTableKeys ds tables → AllFit ds (input_rows table tables)
input_fit ds table [] h = tt
input_fit ds table (keys ∷ tables) h =
    joined_fit ds (numbered_rows table 0 keys) (input_rows (table + 1) tables)
    (all_fit ds (numbered_rows table 0 keys) (have_keys ds keys h.0 table keys 0 h.0)) (input_fit ds (table + 1) tables h.1)

pub all_rows_fit : (ds : List Bool) (tables : List (List (List Value))) → HaveTableKeys ds tables → AllFit ds (all_rows ds tables)
all_rows_fit ds tables h = order_fits ds (input_rows 0 tables) (input_fit ds 0 tables h)

pub all_rows_sorted : (ds : List Bool) (tables : List (List (List Value))) → HaveTableKeys ds tables → AreSorted ds (all_rows ds tables)
all_rows_sorted ds tables h = sorted ds (input_rows 0 tables) (input_fit ds 0 tables h)

pub long_at : (ds : List Bool) (rows : List InputRow) (k : ℕ) (row : InputRow) → AllFit ds rows → slice_get rows k ≡ Some row → length row.key ≡ length ds
long_at ds [] k row f e = let none : None ≡ Some row = e in cc
long_at ds (r ∷ rows) zero row f e = let one : r ≡ row = cc in ap (λ (x : InputRow). length x.key) (sym one) ∙ fits_long ds r.key f.0
long_at ds (r ∷ rows) (suc k) row f e = long_at ds rows k row f.1 e

-- ---- how many there are

placed_length : (ds : List Bool) (row : InputRow) (rows : List InputRow) → length (placed ds row rows) ≡ suc (length rows)
placed_length ds row [] = refl
placed_length ds row (other ∷ others) = by (is_lt (keys_order ds other.key row.key)) (placed_length ds row others)
  where
    by : (b : Bool) → length (placed ds row others) ≡ suc (length others)
        → length (if b then other ∷ placed ds row others else row ∷ other ∷ others) ≡ suc (suc (length others))
    by true again = ap suc again
    by false again = refl

pub order_length : (ds : List Bool) (rows : List InputRow) → length (in_by_order ds rows) ≡ length rows
order_length ds [] = refl
order_length ds (row ∷ rows) = placed_length ds row (in_by_order ds rows) ∙ ap suc (order_length ds rows)

-- ---- the rows of a key

pub key_joined : (key : List Value) (xs ys : List InputRow) → rows_of_key key (xs ++ ys) ≡ rows_of_key key xs ++ rows_of_key key ys
key_joined key [] ys = refl
key_joined key (x ∷ xs) ys = by (same_row x.key key) (key_joined key xs ys)
  where
    by : (b : Bool) → rows_of_key key (xs ++ ys) ≡ rows_of_key key xs ++ rows_of_key key ys
        → cond b (x ∷ rows_of_key key (xs ++ ys)) (rows_of_key key (xs ++ ys)) ≡ cond b (x ∷ rows_of_key key xs) (rows_of_key key xs) ++ rows_of_key key ys
    by true again = ap (λ r. x ∷ r) again
    by false again = again

pub stable_of : (ds : List Bool) (key : List Value) (rows : List InputRow) → AllFit ds rows → rows_of_key key (in_by_order ds rows) ≡ rows_of_key key rows
stable_of ds key rows f = let law = rows_stand_in_by_order ds rows (have_of ds rows f) in law.1 key

-- ---- rows by their numbers

get_front : {A : Type 0} (xs ys : List A) (i : ℕ) → i < length xs → slice_get (xs ++ ys) i ≡ slice_get xs i
get_front [] ys i l = absurd (omega (arith, l))
get_front (x ∷ xs) ys zero l = refl
get_front (x ∷ xs) ys (suc i) l = get_front xs ys i (omega (arith, l))

get_back : {A : Type 0} (xs ys : List A) (i : ℕ) → length xs ≤ i → slice_get (xs ++ ys) i ≡ slice_get ys (i - length xs)
get_back [] ys i l = let z : i ≡ i - 0 = omega arith in ap (slice_get ys) z
get_back (x ∷ xs) ys zero l = absurd (omega (arith, l))
get_back (x ∷ xs) ys (suc i) l = let z : i - length xs ≡ suc i - suc (length xs) = omega arith in get_back xs ys i (omega (arith, l)) ∙ ap (slice_get ys) z

numbered_get : (table number : ℕ) (keys : List (List Value)) (i : ℕ) → i < length keys
    → slice_get (numbered_rows table number keys) i ≡ Some (record { table = table; number = number + i; key = get_or keys i [] })
numbered_get table number [] i l = absurd (omega (arith, l))
numbered_get table number (key ∷ keys) zero l = let z : number ≡ number + 0 = omega arith in ap (λ n. Some (record { table = table; number = n; key = key })) z
numbered_get table number (key ∷ keys) (suc i) l =
    let z : number + 1 + i ≡ number + suc i = omega arith in
    numbered_get table (number + 1) keys i (omega (arith, l)) ∙ ap (λ n. Some (record { table = table; number = n; key = get_or keys i [] })) z

module _ (tables : List (List (List Value))) (t left : ℕ) (l : t < length tables) where
  abbrev own : List (List Value)
  own = get_or tables t []

  abbrev others : List InputRow
  others = input_rows (t + 1) (drop (t + 1) tables)

  from_here : input_rows t (drop t tables) ≡ numbered_rows t 0 own ++ others
  from_here = ap (input_rows t) (drop_more tables t [] l)

  -- a number within a table is that of its row
  pub row_within : left < length own → slice_get (input_rows t (drop t tables)) left ≡ Some (numbered_row t own left)
  row_within m =
      let z : 0 + left ≡ left = omega arith in
      ap (λ rows. slice_get rows left) from_here
      ∙ get_front (numbered_rows t 0 own) others left (omega (arith, m, numbered_length t 0 own))
      ∙ numbered_get t 0 own left m
      ∙ ap (λ n. Some (record { table = t; number = n; key = get_or own left [] })) z

  -- behind it, that of a row of the tables behind it
  pub row_behind : length own ≤ left → slice_get (input_rows t (drop t tables)) left ≡ slice_get others (left - length own)
  row_behind m =
      ap (λ rows. slice_get rows left) from_here
      ∙ get_back (numbered_rows t 0 own) others left (omega (arith, m, numbered_length t 0 own))
      ∙ ap (λ n. slice_get others (left - n)) (numbered_length t 0 own)

-- and past the last table none
pub row_past : (tables : List (List (List Value))) (t left : ℕ) → length tables ≤ t → slice_get (input_rows t (drop t tables)) left ≡ None
row_past tables t left l = ap (λ ts. slice_get (input_rows t ts) left) (drop_all t tables l)

-- a table has at most as many rows as all tables
pub rows_of_one_within : (ds : List Bool) (tables : List (List (List Value))) (t : ℕ) → length (get_or tables t []) ≤ length (all_rows ds tables)
rows_of_one_within ds tables t = omega (arith, order_length ds (input_rows 0 tables), within 0 tables t)
  where
    within : (base : ℕ) (tables : List (List (List Value))) (t : ℕ) → length (get_or tables t []) ≤ length (input_rows base tables)
    within base [] t = omega arith
    within base (keys ∷ tables) zero =
        omega (arith, length-append (numbered_rows base 0 keys) (input_rows (base + 1) tables), numbered_length base 0 keys)
    within base (keys ∷ tables) (suc t) =
        omega (arith, length-append (numbered_rows base 0 keys) (input_rows (base + 1) tables), within (base + 1) tables t)

-- ---- the rows behind a place

left_fit : (ds : List Bool) (n : ℕ) (xs : List InputRow) → AllFit ds xs → AllFit ds (drop n xs)
left_fit ds zero xs f = f
left_fit ds (suc n) [] f = tt
left_fit ds (suc n) (x ∷ xs) f = left_fit ds n xs f.1

left_sorted : (ds : List Bool) (n : ℕ) (xs : List InputRow) → AreSorted ds xs → AreSorted ds (drop n xs)
left_sorted ds zero xs s = s
left_sorted ds (suc n) [] s = tt
left_sorted ds (suc n) (x ∷ xs) s = left_sorted ds n xs s.1

pub rows_behind_fit : (ds : List Bool) (tables : List (List (List Value))) (n : ℕ) → HaveTableKeys ds tables → AllFit ds (drop n (all_rows ds tables))
rows_behind_fit ds tables n h = left_fit ds n (all_rows ds tables) (all_rows_fit ds tables h)

pub rows_behind_sorted : (ds : List Bool) (tables : List (List (List Value))) (n : ℕ) → HaveTableKeys ds tables → AreSorted ds (drop n (all_rows ds tables))
rows_behind_sorted ds tables n h = left_sorted ds n (all_rows ds tables) (all_rows_sorted ds tables h)

-- ---- the key of a row by its number

-- the key of a number is that of the row
pub key_there : (rows : List InputRow) (n : ℕ) (row : InputRow) → slice_get rows n ≡ Some row → get_or (keys_of_rows rows) n [] ≡ row.key
key_there [] n row e = let none : None ≡ Some row = e in cc
key_there (r ∷ rows) zero row e = let one : r ≡ row = cc in ap (λ (x : InputRow). x.key) one
key_there (r ∷ rows) (suc n) row e = key_there rows n row e

-- past the last row there is none
pub key_past : (rows : List InputRow) (n : ℕ) → None ≡ slice_get rows n → get_or (keys_of_rows rows) n [] ≡ []
key_past [] n e = refl
key_past (r ∷ rows) zero e = let none : None ≡ Some r = e in cc
key_past (r ∷ rows) (suc n) e = key_past rows n e
