-- The loads of a key: how many there are, which rows each of them reads, and where they stand among the loads of all keys.
use Rattle.std.proofs.Common.{◌≡◌, ℕ, zero, suc, ◌+◌, ◌-◌, ◌<◌, ◌≤◌, max, Bool, true, false, List, [], ◌∷◌, ◌++◌, length, drop, refl, sym, ap, ◌∙◌, arith, ◌⊎◌, inl, inr}
use Rattle.std.specs.Prelude.{slice_get, get_or, nat_lt, is_some, Some}
use Rattle.std.proofs.lemmas.Bool.Decides.{Decides-ltb}
use Rattle.std.proofs.lemmas.List.{length-map}
use Rattle.std.proofs.lemmas.List.FromFn.{length-map-range_with_len, get_or-map-range_with_len, map-range_with_len_more}
use Rattle.std.proofs.lemmas.List.Sums.{fold_push}
use Rattle.std.proofs.lemmas.Option.{slice_get-get_or}
use Rattle.ds2_value.specs.declared.value.Value.{Value}
use Rattle.ds2_table.specs.LoadLaws.{rows_of_key}
use Rattle.ds2_table.specs.Loads.{InputRow, rows_with_key, matches, most_rows, merge_load, loads_of_key}
use Rattle.ds2_merge.specs.KeyPlaces.{most_between}
use Rattle.ds2_merge.proofs.TableRows.{of_table, is_of, numbers_of_key, fewer_kept}

-- ---- parts of lists

pub get_after : {A : Type 0} (xs : List A) (k i : ℕ) → slice_get (drop k xs) i ≡ slice_get xs (k + i)
get_after xs zero i = let e : i ≡ 0 + i = omega arith in ap (slice_get xs) e
get_after [] (suc k) i = refl
get_after (x ∷ xs) (suc k) i = let e : suc (k + i) ≡ suc k + i = omega arith in get_after xs k i ∙ ap (slice_get (x ∷ xs)) e

pub get_in_first : {A : Type 0} (xs ys : List A) (i : ℕ) → i < length xs → slice_get (xs ++ ys) i ≡ slice_get xs i
get_in_first [] ys i l = absurd (omega (arith, l))
get_in_first (x ∷ xs) ys zero l = refl
get_in_first (x ∷ xs) ys (suc i) l = get_in_first xs ys i (omega (arith, l))

pub get_in_second : {A : Type 0} (xs ys : List A) (n : ℕ) → length xs ≡ n → slice_get (xs ++ ys) n ≡ slice_get ys 0
get_in_second [] ys zero e = refl
get_in_second [] ys (suc n) e = absurd (omega (arith, e))
get_in_second (x ∷ xs) ys zero e = absurd (omega (arith, e))
get_in_second (x ∷ xs) ys (suc n) e = get_in_second xs ys n (omega (arith, e))

pub drop_first : {A : Type 0} (xs ys : List A) (n : ℕ) → length xs ≡ n → drop n (xs ++ ys) ≡ ys
drop_first [] ys zero e = refl
drop_first [] ys (suc n) e = absurd (omega (arith, e))
drop_first (x ∷ xs) ys zero e = absurd (omega (arith, e))
drop_first (x ∷ xs) ys (suc n) e = drop_first xs ys n (omega (arith, e))

pub drop_twice : {A : Type 0} (xs : List A) (a b : ℕ) → drop (a + b) xs ≡ drop b (drop a xs)
drop_twice xs zero b = let e : 0 + b ≡ b = omega arith in ap (λ n. drop n xs) e
drop_twice [] (suc a) zero = let e : suc a + 0 ≡ suc a = omega arith in ap (λ n. drop n []) e
drop_twice [] (suc a) (suc b) = let e : suc a + suc b ≡ suc (a + suc b) = omega arith in ap (λ n. drop n []) e
drop_twice (x ∷ xs) (suc a) b = let e : suc a + b ≡ suc (a + b) = omega arith in ap (λ n. drop n (x ∷ xs)) e ∙ drop_twice xs a b

-- ---- the most rows that a table has

one_more : (n : ℕ) → suc n ≡ n + 1
one_more n = omega arith

matches_more : (n : ℕ) (key : List Value) (rows : List InputRow) → matches (suc n) key rows ≡ matches n key rows ++ rows_with_key n key rows ∷ []
matches_more n key rows =
    let z : 0 + n ≡ n = omega arith in
    ap (λ m. matches m key rows) (one_more n) ∙ map-range_with_len_more (λ table. rows_with_key table key rows) 0 n n z

most_more : (n : ℕ) (key : List Value) (rows : List InputRow) → most_rows (matches (suc n) key rows) ≡ max (most_rows (matches n key rows)) (length (rows_with_key n key rows))
most_more n key rows =
    ap most_rows (matches_more n key rows) ∙ fold_push (λ most found. max most (length found)) 0 (matches n key rows) (rows_with_key n key rows)

-- no table has more rows of a key than there are
pub most_within : (n : ℕ) (key : List Value) (rows : List InputRow) → most_rows (matches n key rows) ≤ length (rows_of_key key rows)
most_within zero key rows = let z : most_rows (matches 0 key rows) ≡ 0 = refl in omega (arith, z)
most_within (suc n) key rows =
    omega (
      arith,
      most_more n key rows,
      most_within n key rows,
      ap (λ (xs : List ℕ). length xs) (numbers_of_key n key rows),
      length-map (of_table n (rows_of_key key rows)) (λ (row : InputRow). row.number),
      fewer_kept (is_of n) (rows_of_key key rows),
    )

-- each table has at most as many as the most
pub most_at_least : (n t : ℕ) (key : List Value) (rows : List InputRow) → t < n → length (rows_with_key t key rows) ≤ most_rows (matches n key rows)
most_at_least zero t key rows l = absurd (omega (arith, l))
most_at_least (suc n) t key rows l = by (λ k. most_at_least n t key rows k) (split t n l)
  where
    split : (a b : ℕ) → a < suc b → (a < b) ⊎ (a ≡ b)
    split zero zero l = inr refl
    split zero (suc b) l = inl (omega arith)
    split (suc a) zero l = absurd (omega (arith, l))
    split (suc a) (suc b) l = next (split a b (omega (arith, l)))
      where
        next : (a < b) ⊎ (a ≡ b) → (suc a < suc b) ⊎ (suc a ≡ suc b)
        next (inl k) = inl (omega (arith, k))
        next (inr e) = inr (ap suc e)

    by : (t < n → length (rows_with_key t key rows) ≤ most_rows (matches n key rows)) → (t < n) ⊎ (t ≡ n) → length (rows_with_key t key rows) ≤ most_rows (matches (suc n) key rows)
    by earlier (inl k) = omega (arith, most_more n key rows, earlier k)
    by earlier (inr e) = omega (arith, most_more n key rows, ap (λ m. length (rows_with_key m key rows)) e)

-- the most rows of a key are the most between two places
pub most_is : (given end : List ℕ) (key : List Value) (rows : List InputRow) (n m : ℕ) → m ≤ n
    → ((t : ℕ) → t < n → length (rows_with_key t key rows) ≡ get_or end t 0 - get_or given t 0)
    → most_between given end m ≡ most_rows (matches m key rows)
most_is given end key rows n zero l h = refl
most_is given end key rows n (suc m) l h =
    (λ i. max (most_is given end key rows n m (omega (arith, l)) h i) (sym (h m (omega (arith, l))) i)) ∙ sym (most_more m key rows)

-- ---- the loads of a key by their numbers

pub key_load_count : (n : ℕ) (key : List Value) (rows : List InputRow) → length (loads_of_key n rows key) ≡ most_rows (matches n key rows)
key_load_count n key rows = length-map-range_with_len (merge_load key (matches n key rows)) 0 (most_rows (matches n key rows))

pub key_load_at : (n : ℕ) (key : List Value) (rows : List InputRow) (i : ℕ) → i < most_rows (matches n key rows)
    → slice_get (loads_of_key n rows key) i ≡ Some (merge_load key (matches n key rows) i)
key_load_at n key rows i l =
    let d = merge_load key (matches n key rows) i in
    let z : 0 + i ≡ i = omega arith in
    slice_get-get_or (loads_of_key n rows key) i d (omega (arith, l, key_load_count n key rows))
    ∙ ap Some (get_or-map-range_with_len (merge_load key (matches n key rows)) 0 (most_rows (matches n key rows)) i i d l z)

-- ---- which tables are present

none_less : (a : ℕ) → nat_lt a 0 ≡ false
none_less a = by (nat_lt a 0) refl
  where
    by : (t : Bool) → nat_lt a 0 ≡ t → nat_lt a 0 ≡ false
    by true e = let d = Decides-ltb a 0 in absurd (omega (arith, d.0 e))
    by false e = e

pub some_first : {A : Type 0} (xs : List A) (n : ℕ) → length xs ≡ n → is_some (slice_get xs 0) ≡ nat_lt 0 n
some_first [] zero e = sym (none_less 0)
some_first [] (suc n) e = absurd (omega (arith, e))
some_first (x ∷ xs) zero e = absurd (omega (arith, e))
some_first (x ∷ xs) (suc n) e = let d = Decides-ltb 0 (suc n) in sym (d.1 (omega arith))
