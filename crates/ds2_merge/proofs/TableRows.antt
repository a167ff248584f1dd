-- The rows of one table among the rows of a key.
use Rattle.std.proofs.Common.{◌≡◌, ℕ, zero, suc, ◌+◌, ◌<◌, ◌≤◌, Bool, true, false, nat_eq, ◌&&◌, cond, List, [], ◌∷◌, ◌++◌, map, length, refl, sym, ap, ◌∙◌, subst, true≢false, arith}
use Rattle.std.specs.Prelude.{filter, slice_get}
use Rattle.std.proofs.lemmas.Bool.Decides.{Decides-eqb}
use Rattle.std.proofs.lemmas.List.{append-nil}
use Rattle.std.proofs.lemmas.List.Elements.{filter-append}
use Rattle.ds2_value.specs.Order.{same_row}
use Rattle.ds2_value.specs.declared.value.Value.{Value}
use Rattle.ds2_table.specs.LoadLaws.{rows_of_key}
use Rattle.ds2_table.specs.Loads.{InputRow, numbered_rows, input_rows, rows_with_key}
use Rattle.ds2_merge.specs.KeyPlaces.{is_row_of}

-- the test for rows of a table
abbrev pub is_of : ℕ → InputRow → Bool
is_of t row = nat_eq row.table t

-- the rows of a table
abbrev pub of_table : ℕ → List InputRow → List InputRow
of_table t rows = filter (is_of t) rows

pub eq_apart : (a b : ℕ) → (a ≡ b → ⊥) → nat_eq a b ≡ false
eq_apart a b n = by (nat_eq a b) refl
  where
    by : (t : Bool) → nat_eq a b ≡ t → nat_eq a b ≡ false
    by true e = let d = Decides-eqb a b in absurd (n (d.0 e))
    by false e = e

pub eq_self : (a : ℕ) → nat_eq a a ≡ true
eq_self a = let d = Decides-eqb a a in d.1 refl

-- ---- two tests

and_true : (b : Bool) → b && true ≡ b
and_true true = refl
and_true false = refl

and_false : (b : Bool) → b && false ≡ false
and_false true = refl
and_false false = refl

abbrev of_both : ℕ → List Value → List InputRow → List InputRow
of_both t key rows = filter (λ (row : InputRow). nat_eq row.table t && same_row row.key key) rows

-- those of a table and a key are those of the table among those of the key
pub of_key_and_table : (t : ℕ) (key : List Value) (rows : List InputRow)
    → filter (λ (row : InputRow). nat_eq row.table t && same_row row.key key) rows ≡ of_table t (rows_of_key key rows)
of_key_and_table t key [] = refl
of_key_and_table t key (x ∷ xs) = by (same_row x.key key) (of_key_and_table t key xs)
  where
    by : (b : Bool) → of_both t key xs ≡ of_table t (rows_of_key key xs)
        → cond (nat_eq x.table t && b) (x ∷ of_both t key xs) (of_both t key xs) ≡ of_table t (cond b (x ∷ rows_of_key key xs) (rows_of_key key xs))
    by true again =
        ap (λ b. cond b (x ∷ of_both t key xs) (of_both t key xs)) (and_true (nat_eq x.table t)) ∙ ap (λ r. cond (nat_eq x.table t) (x ∷ r) r) again
    by false again = ap (λ b. cond b (x ∷ of_both t key xs) (of_both t key xs)) (and_false (nat_eq x.table t)) ∙ again

-- ---- rows that climb from table to table

-- no row is of a table before this one, or before that of a row in front of it
abbrev pub Climb : ℕ → List InputRow → Type 0
Climb t [] = Unit {0}
Climb t (row ∷ rows) = (t ≤ row.table) × Climb row.table rows

-- all of them are of tables before this one
abbrev pub AreBelow : ℕ → List InputRow → Type 0
AreBelow t [] = Unit {0}
AreBelow t (row ∷ rows) = (row.table < t) × AreBelow t rows

-- all of them are of this table
abbrev pub AreOf : ℕ → List InputRow → Type 0
AreOf t [] = Unit {0}
AreOf t (row ∷ rows) = (row.table ≡ t) × AreOf t rows

lower_climb : (s t : ℕ) (rows : List InputRow) → s ≤ t → Climb t rows → Climb s rows
lower_climb s t [] l c = tt
lower_climb s t (row ∷ rows) l c = (omega (arith, l, c.0), c.1)

climb_joined : (t : ℕ) (xs ys : List InputRow) → AreOf t xs → Climb t ys → Climb t (xs ++ ys)
climb_joined t [] ys o c = c
climb_joined t (x ∷ xs) ys o c = (omega (arith, o.0), lower_climb x.table t (xs ++ ys) (omega (arith, o.0)) (climb_joined t xs ys o.1 c))

numbered_of : (t number : ℕ) (keys : List (List Value)) → AreOf t (numbered_rows t number keys)
numbered_of t number [] = tt
numbered_of t number (key ∷ keys) = (refl, numbered_of t (number + 1) keys)

-- the rows of tables in their order
pub inputs_climb : (t : ℕ) (tables : List (List (List Value))) → Climb t (input_rows t tables)
inputs_climb t [] = tt
inputs_climb t (keys ∷ tables) =
    climb_joined t (numbered_rows t 0 keys) (input_rows (t + 1) tables) (numbered_of t 0 keys)
    (lower_climb t (t + 1) (input_rows (t + 1) tables) (omega arith) (inputs_climb (t + 1) tables))

-- some of them
pub kept_climb : (p : InputRow → Bool) (t : ℕ) (rows : List InputRow) → Climb t rows → Climb t (filter p rows)
kept_climb p t [] c = tt
kept_climb p t (row ∷ rows) c = by (p row) (kept_climb p row.table rows c.1)
  where
    by : (b : Bool) → Climb row.table (filter p rows) → Climb t (cond b (row ∷ filter p rows) (filter p rows))
    by true again = (c.0, again)
    by false again = lower_climb t row.table (filter p rows) c.0 again

-- those behind the rows of a table
pub climb_behind : (t : ℕ) (xs ys : List InputRow) → AreOf t xs → Climb t (xs ++ ys) → Climb t ys
climb_behind t [] ys o c = c
climb_behind t (x ∷ xs) ys o c = climb_behind t xs ys o.1 (lower_climb t x.table (xs ++ ys) (omega (arith, o.0)) c.1)

-- where the first one is of another table, they are of later ones
pub climb_more : (t : ℕ) (rows : List InputRow) → Climb t rows → is_row_of t (slice_get rows 0) ≡ false → Climb (t + 1) rows
climb_more t [] c n = tt
climb_more t (row ∷ rows) c n =
    let d = Decides-eqb row.table t in
    let apart : row.table ≡ t → ⊥ = λ e. true≢false (sym (d.1 e) ∙ n) in
    (above t row.table c.0 apart, c.1)
  where
    above : (a b : ℕ) → a ≤ b → (b ≡ a → ⊥) → a + 1 ≤ b
    above zero zero l n = absurd (n refl)
    above zero (suc b) l n = omega arith
    above (suc a) zero l n = absurd (omega (arith, l))
    above (suc a) (suc b) l n = let m : a + 1 ≤ b = above a b (omega (arith, l)) (λ e. n (ap suc e)) in omega (arith, m)

pub below_joined : (t : ℕ) (xs ys : List InputRow) → AreBelow t xs → AreOf t ys → AreBelow (t + 1) (xs ++ ys)
below_joined t [] [] b o = tt
below_joined t [] (y ∷ ys) b o = (omega (arith, o.0), below_joined t [] ys tt o.1)
below_joined t (x ∷ xs) ys b o = (omega (arith, b.0), below_joined t xs ys b.1 o)

none_below : (t : ℕ) (rows : List InputRow) → AreBelow t rows → of_table t rows ≡ []
none_below t [] b = refl
none_below t (row ∷ rows) b =
    let apart : row.table ≡ t → ⊥ = λ e. absurd (omega (arith, e, b.0)) in
    ap (λ c. cond c (row ∷ of_table t rows) (of_table t rows)) (eq_apart row.table t apart) ∙ none_below t rows b.1

none_above : (t s : ℕ) (rows : List InputRow) → t < s → Climb s rows → of_table t rows ≡ []
none_above t s [] l c = refl
none_above t s (row ∷ rows) l c =
    let apart : row.table ≡ t → ⊥ = λ e. absurd (omega (arith, e, l, c.0)) in
    ap (λ b. cond b (row ∷ of_table t rows) (of_table t rows)) (eq_apart row.table t apart) ∙ none_above t row.table rows (omega (arith, l, c.0)) c.1

all_of : (t : ℕ) (rows : List InputRow) → AreOf t rows → of_table t rows ≡ rows
all_of t [] o = refl
all_of t (row ∷ rows) o =
    let d = Decides-eqb row.table t in
    ap (λ b. cond b (row ∷ of_table t rows) (of_table t rows)) (d.1 o.0) ∙ ap (λ r. row ∷ r) (all_of t rows o.1)

-- all rows are of tables that are there
pub inputs_below : (t : ℕ) (tables : List (List (List Value))) → AreBelow (t + length tables) (input_rows t tables)
inputs_below t [] = tt
inputs_below t (keys ∷ tables) =
    let e : t + 1 + length tables ≡ t + suc (length tables) = omega arith in
    let P : ℕ → Type 0 = λ n. AreBelow n (input_rows (t + 1) tables) in
    below_parts (t + suc (length tables)) (numbered_rows t 0 keys) (input_rows (t + 1) tables)
    (of_below t (t + suc (length tables)) (numbered_rows t 0 keys) (omega arith) (numbered_of t 0 keys)) (subst P e (inputs_below (t + 1) tables))
  where
    of_below : (t n : ℕ) (rows : List InputRow) → t < n → AreOf t rows → AreBelow n rows
    of_below t n [] l o = tt
    of_below t n (row ∷ rows) l o = (omega (arith, l, o.0), of_below t n rows l o.1)

    below_parts : (n : ℕ) (xs ys : List InputRow) → AreBelow n xs → AreBelow n ys → AreBelow n (xs ++ ys)
    below_parts n [] ys a b = b
    below_parts n (x ∷ xs) ys a b = (a.0, below_parts n xs ys a.1 b)

pub kept_below : (p : InputRow → Bool) (n : ℕ) (rows : List InputRow) → AreBelow n rows → AreBelow n (filter p rows)
kept_below p n [] b = tt
kept_below p n (row ∷ rows) b = by (p row) (kept_below p n rows b.1)
  where
    by : (t : Bool) → AreBelow n (filter p rows) → AreBelow n (cond t (row ∷ filter p rows) (filter p rows))
    by true again = (b.0, again)
    by false again = again

-- the rows of a table between those of tables before and behind it
pub of_middle : (t : ℕ) (xs ys zs : List InputRow) → AreBelow t xs → AreOf t ys → Climb (t + 1) zs → of_table t (xs ++ (ys ++ zs)) ≡ ys
of_middle t xs ys zs b o c =
    filter-append (is_of t) xs (ys ++ zs)
    ∙ ap (λ r. of_table t xs ++ r) (filter-append (is_of t) ys zs)
    ∙ (λ i. none_below t xs b i ++ (all_of t ys o i ++ none_above t (t + 1) zs (omega arith) c i))
    ∙ append-nil ys

-- ---- numbers of rows

-- the numbers of a table's rows of a key
pub numbers_of_key : (t : ℕ) (key : List Value) (rows : List InputRow) → rows_with_key t key rows ≡ map (λ (row : InputRow). row.number) (of_table t (rows_of_key key rows))
numbers_of_key t key rows = ap (map (λ (row : InputRow). row.number)) (of_key_and_table t key rows)

pub fewer_kept : (p : InputRow → Bool) (rows : List InputRow) → length (filter p rows) ≤ length rows
fewer_kept p [] = omega arith
fewer_kept p (x ∷ xs) = by (p x) (fewer_kept p xs)
  where
    by : (b : Bool) → length (filter p xs) ≤ length xs → length (cond b (x ∷ filter p xs) (filter p xs)) ≤ suc (length xs)
    by true again = omega (arith, again)
    by false again = omega (arith, again)
