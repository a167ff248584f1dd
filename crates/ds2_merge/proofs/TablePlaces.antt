-- Where the rows of each table stand among those of a key.
use Rattle.std.proofs.Common.{◌≡◌, ℕ, zero, suc, ◌+◌, ◌-◌, ◌<◌, ◌≤◌, Bool, true, false, nat_eq, List, [], ◌∷◌, ◌++◌, map, length, take, drop, set, refl, sym, ap, ◌∙◌, subst, true≢false, arith, ◌⊎◌, inl, inr}
use Rattle.std.specs.Prelude.{slice_get, get_or}
use Rattle.std.proofs.lemmas.Bool.Decides.{Decides-eqb}
use Rattle.std.proofs.lemmas.List.{drop-drop, get_or-set_same, get_or-set_other, length-set}
use Rattle.ds2_value.specs.Order.{same_row}
use Rattle.ds2_table.specs.Loads.{InputRow, input_rows}
use Rattle.ds2_reading.specs.KeyOrder.{InputKeys}
use Rattle.ds2_merge.specs.KeyPlaces.{ordered_rows, left_behind, rows_between, key_at, is_row_of, IsTableEnd, IsKeyRun, IsTableOfKey}
use Rattle.ds2_merge.proofs.TableRows.{AreBelow, AreOf, Climb, of_table, inputs_climb, kept_climb, climb_behind, climb_more, below_joined, of_middle, numbers_of_key}

-- ---- rows from place to place

-- the first rows of a list, and those behind them
taken_parts : {A : Type 0} (xs : List A) (n m : ℕ) → take (n + m) xs ≡ take n xs ++ take m (drop n xs)
taken_parts xs zero m = let e : 0 + m ≡ m = omega arith in ap (λ k. take k xs) e
taken_parts [] (suc n) zero = let e : suc n + 0 ≡ suc n = omega arith in ap (λ k. take k []) e
taken_parts [] (suc n) (suc m) = let e : suc n + suc m ≡ suc (n + suc m) = omega arith in ap (λ k. take k []) e
taken_parts (x ∷ xs) (suc n) m = let e : suc n + m ≡ suc (n + m) = omega arith in ap (λ k. take k (x ∷ xs)) e ∙ ap (λ r. x ∷ r) (taken_parts xs n m)

pub between_parts : (input : InputKeys) (a b c : ℕ) → a ≤ b → b ≤ c → rows_between input a c ≡ rows_between input a b ++ rows_between input b c
between_parts input a b c l m =
    let e : c - a ≡ b - a + (c - b) = omega (arith, l, m) in
    let f : a + (b - a) ≡ b = omega (arith, l) in
    ap (λ k. take k (left_behind input a)) e
    ∙ taken_parts (left_behind input a) (b - a) (c - b)
    ∙ ap (λ r. rows_between input a b ++ take (c - b) r) (drop-drop (b - a) a (ordered_rows input) ∙ ap (λ k. drop k (ordered_rows input)) f)

none_between : (input : InputKeys) (a : ℕ) → rows_between input a a ≡ []
none_between input a = let e : a - a ≡ 0 = omega arith in ap (λ k. take k (left_behind input a)) e

earlier : (t k : ℕ) → t < k + 1 → (t ≡ k → ⊥) → t < k
earlier zero zero l n = absurd (n refl)
earlier zero (suc k) l n = omega arith
earlier (suc t) zero l n = absurd (omega (arith, l))
earlier (suc t) (suc k) l n = let less : t < k = earlier t k (omega (arith, l)) (λ q. n (ap suc q)) in omega (arith, less)

-- rows that are each of a table
are_of : (t n : ℕ) (xs : List InputRow) → ((i : ℕ) → i < n → is_row_of t (slice_get xs i) ≡ true) → AreOf t (take n xs)
are_of t zero xs h = tt
are_of t (suc n) [] h = tt
are_of t (suc n) (x ∷ xs) h =
    let d = Decides-eqb x.table t in (d.0 (h 0 (omega arith)), are_of t n xs (λ i l. h (suc i) (omega (arith, l))))

get_behind : {A : Type 0} (xs : List A) (k i : ℕ) → slice_get (drop k xs) i ≡ slice_get xs (k + i)
get_behind xs zero i = let e : i ≡ 0 + i = omega arith in ap (slice_get xs) e
get_behind [] (suc k) i = refl
get_behind (x ∷ xs) (suc k) i = let e : suc (k + i) ≡ suc k + i = omega arith in get_behind xs k i ∙ ap (slice_get (x ∷ xs)) e

pub between_of : (input : InputKeys) (t a b : ℕ) → ((k : ℕ) → a ≤ k → k < b → is_row_of t (slice_get (ordered_rows input) k) ≡ true) → AreOf t (rows_between input a b)
between_of input t a b h =
    are_of t (b - a) (left_behind input a) (λ i l. ap (is_row_of t) (get_behind (ordered_rows input) a i) ∙ h (a + i) (omega arith) (omega (arith, l)))

first_of : {A : Type 0} (xs : List A) (n : ℕ) → 0 < n → slice_get (take n xs) 0 ≡ slice_get xs 0
first_of xs zero l = absurd (omega (arith, l))
first_of [] (suc n) l = refl
first_of (x ∷ xs) (suc n) l = refl

-- the first of the rows between two places is not of a table, or there is none
pub between_other : (input : InputKeys) (t a b : ℕ) → (a < b → is_row_of t (slice_get (ordered_rows input) a) ≡ false) → is_row_of t (slice_get (rows_between input a b) 0) ≡ false
between_other input t a b h = by (split a b)
  where
    split : (a b : ℕ) → (a < b) ⊎ (b ≤ a)
    split a zero = inr (omega arith)
    split zero (suc b) = inl (omega arith)
    split (suc a) (suc b) = more (split a b)
      where
        more : (a < b) ⊎ (b ≤ a) → (suc a < suc b) ⊎ (suc b ≤ suc a)
        more (inl l) = inl (omega (arith, l))
        more (inr l) = inr (omega (arith, l))

    by : (a < b) ⊎ (b ≤ a) → is_row_of t (slice_get (rows_between input a b) 0) ≡ false
    by (inl l) =
        let z : a + 0 ≡ a = omega arith in
        ap (is_row_of t) (first_of (left_behind input a) (b - a) (omega (arith, l)) ∙ get_behind (ordered_rows input) a 0 ∙ ap (slice_get (ordered_rows input)) z) ∙ h l
    by (inr l) = let e : b - a ≡ 0 = omega (arith, l) in ap (λ k. is_row_of t (slice_get (take k (left_behind input a)) 0)) e

-- one row more is of a table
pub own_more : (input : InputKeys) (table from place : ℕ) → ((k : ℕ) → from ≤ k → k < place → is_row_of table (slice_get (ordered_rows input) k) ≡ true)
    → is_row_of table (slice_get (ordered_rows input) place) ≡ true → (k : ℕ) → from ≤ k → k < place + 1 → is_row_of table (slice_get (ordered_rows input) k) ≡ true
own_more input table from place h this k l m = by (nat_eq k place) refl
  where
    by : (b : Bool) → nat_eq k place ≡ b → is_row_of table (slice_get (ordered_rows input) k) ≡ true
    by true e = let d = Decides-eqb k place in ap (λ n. is_row_of table (slice_get (ordered_rows input) n)) (d.0 e) ∙ this
    by false e =
        let d = Decides-eqb k place in
        let apart : k ≡ place → ⊥ = λ q. true≢false (sym (d.1 q) ∙ e) in
        h k l (earlier k place m apart)

-- ---- table after table

-- up to a table, the places of the tables before it, and of the rows that are left of the key
pub record ArePlacedTo (input : InputKeys) (start end table place : ℕ) (begins ends : List ℕ) : Type 0 where
  pub low : start ≤ place
  pub high : place ≤ end
  pub many : (length begins ≡ 16) × (length ends ≡ 16)
  pub below : AreBelow table (rows_between input start place)
  pub left : Climb table (rows_between input place end)
  pub each : (t : ℕ) → t < table → IsTableOfKey input start t (get_or begins t 0) (get_or ends t 0)

pub none_placed : (input : InputKeys) (start end : ℕ) (begins ends : List ℕ) → IsKeyRun input start end → length begins ≡ 16 → length ends ≡ 16 → ArePlacedTo input start end 0 start begins ends
none_placed input start end begins ends run n m = record {
  low = omega arith;
  high = run.low;
  many = (n, m);
  below = let P : List InputRow → Type 0 = AreBelow 0 in subst P (sym (none_between input start)) tt;
  left =
      let P : List InputRow → Type 0 = Climb 0 in
      subst P (sym run.rows) (kept_climb (λ (row : InputRow). same_row row.key (key_at input start)) 0 (input_rows 0 input.tables) (inputs_climb 0 input.tables));
  each = λ t l. absurd (omega (arith, l));
}

module _ (input : InputKeys) (start end table place next : ℕ) (begins ends : List ℕ) (run : IsKeyRun input start end) (few : table < 16) (h : ArePlacedTo input start end table place begins ends)
    (e : IsTableEnd input table place end next) where
  own : AreOf table (rows_between input place next)
  own = between_of input table place next e.own

  behind : Climb (table + 1) (rows_between input next end)
  behind =
      let P : List InputRow → Type 0 = Climb table in
      climb_more table (rows_between input next end)
      (climb_behind table (rows_between input place next) (rows_between input next end) own (subst P (between_parts input place next end e.low e.high) h.left))
      (between_other input table next end e.other)

  this_table : IsTableOfKey input start table place next
  this_table = record {
    high = omega (arith, e.high, run.high);
    rows =
        numbers_of_key table (key_at input start) (input_rows 0 input.tables)
        ∙ ap (λ (rows : List InputRow). map (λ (row : InputRow). row.number) rows)
        (ap (of_table table) (sym run.rows ∙ between_parts input start place end h.low h.high
        ∙ ap (λ r. rows_between input start place ++ r) (between_parts input place next end e.low e.high))
        ∙ of_middle table (rows_between input start place) (rows_between input place next) (rows_between input next end) h.below own behind);
  }

  -- one table more
  pub one_placed : ArePlacedTo input start end (table + 1) next (set begins table place) (set ends table next)
  one_placed = record {
    low = omega (arith, h.low, e.low);
    high = e.high;
    many = (length-set begins table place ∙ h.many.0, length-set ends table next ∙ h.many.1);
    below =
        let P : List InputRow → Type 0 = AreBelow (table + 1) in
        subst P (sym (between_parts input start place next h.low e.low)) (below_joined table (rows_between input start place) (rows_between input place next) h.below own);
    left = behind;
    each = λ t l. by t l (nat_eq t table) refl;
  }
    where
      by : (t : ℕ) → t < table + 1 → (b : Bool) → nat_eq t table ≡ b → IsTableOfKey input start t (get_or (set begins table place) t 0) (get_or (set ends table next) t 0)
      by t l true q =
          let d = Decides-eqb t table in
          let same = d.0 q in
          let P : ℕ → Type 0 = λ u. IsTableOfKey input start u (get_or (set begins table place) u 0) (get_or (set ends table next) u 0) in
          let B : ℕ → Type 0 = λ b. IsTableOfKey input start table b (get_or (set ends table next) table 0) in
          let E : ℕ → Type 0 = λ f. IsTableOfKey input start table place f in
          subst P (sym same)
          (subst B (sym (get_or-set_same begins table place 0 (omega (arith, few, h.many.0)))) (subst E (sym (get_or-set_same ends table next 0 (omega (arith, few, h.many.1)))) this_table))
      by t l false q =
          let d = Decides-eqb t table in
          let apart : t ≡ table → ⊥ = λ k. true≢false (sym (d.1 k) ∙ q) in
          let B : ℕ → Type 0 = λ b. IsTableOfKey input start t b (get_or (set ends table next) t 0) in
          let E : ℕ → Type 0 = λ f. IsTableOfKey input start t (get_or begins t 0) f in
          subst B (sym (get_or-set_other begins table t place 0 apart))
          (subst E (sym (get_or-set_other ends table t next 0 apart)) (h.each t (earlier t table l apart)))
