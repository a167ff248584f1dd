-- A stable sort of the numbers of rows gives the rows in BY order.
use Rattle.std.proofs.Common.{◌≡◌, ℕ, zero, suc, ◌+◌, ◌<◌, Bool, true, false, not, ◌&&◌, cond, List, [], ◌∷◌, map, length, refl, sym, ap, ◌∙◌, subst, arith, ◌⊎◌, inl, inr}
use Rattle.std.specs.Prelude.{filter, get_or}
use Rattle.std.specs.Cmp.{IsStrictWeakOrder}
use Rattle.std.specs.List.{list_all, range_with_len, All}
use Rattle.std.specs.List.Sorted.{IsPermutation, IsSortedBy, ties}
use Rattle.std.specs.Ordering.{is_lt, is_gt, ordering_reverse}
use Rattle.std.specs.declared.cmp.Ordering.{Ordering}
use Rattle.std.specs.declared.cmp.Ordering.TheVariants.{Less, Equal, Greater}
use Rattle.std.proofs.lemmas.List.Elements.{All-head, All-tail}
use Rattle.std.proofs.lemmas.List.FromFn.{length-range_with_len, get_or-range_with_len}
use Rattle.std.proofs.lemmas.List.Sorted.{All-permutation, ranks_by}
use Rattle.ds2_value.specs.Order.{value_eq, same_row}
use Rattle.ds2_value.specs.declared.value.Value.{Value}
use Rattle.ds2_table.specs.LoadLaws.{HaveKeys, AreKeys, AreSorted, rows_of_key}
use Rattle.ds2_table.specs.Loads.{value_order, keys_order, numbered_rows, in_by_order}
use Rattle.ds2_table.proofs.ByOrder.{tied_order, Fits, as_long, then-Equal, rows_equiv}
use Rattle.ds2_table.proofs.Sorted.{IsNotAfter, AllFit, not_before_row, first_part, second_part}
use Rattle.ds2_reading.specs.KeyOrder.{numbered_row, parts_order}
use Rattle.ds2_reading.proofs.Parts.{parts_total, parts_agree}
use Rattle.ds2_reading.proofs.Unique.{equal_rows, ordered_is}

-- of two rows of a table, by their numbers, the first has a key before that of the second
abbrev pub is_row_before : List Bool → List (List Value) → ℕ → ℕ → Bool
is_row_before descending keys i j = is_lt (parts_order descending (get_or keys i []) (get_or keys j []))

-- these are the numbers of a table's rows in BY order
pub record IsOrderOfRows (descending : List Bool) (keys : List (List Value)) (numbers : List ℕ) : Type 0 where
  pub there : All (λ i. i < length keys) numbers
  pub rows : (table : ℕ) → map (numbered_row table keys) numbers ≡ in_by_order descending (numbered_rows table 0 keys)

-- ---- keys of rows that are there

-- a number is that of a row
abbrev pub IsThere : List (List Value) → ℕ → Type 0
IsThere keys i = i < length keys

pub key_long : (ds : List Bool) (keys : List (List Value)) (i : ℕ) → AreKeys ds keys → i < length keys → length (get_or keys i []) ≡ length ds
key_long ds [] i h l = absurd (omega (arith, l))
key_long ds (key ∷ keys) zero h l = h.0
key_long ds (key ∷ keys) (suc i) h l = key_long ds keys i h.1 (omega (arith, l))

pub key_fits : (ds : List Bool) (keys : List (List Value)) (i : ℕ) → AreKeys ds keys → i < length keys → Fits ds (get_or keys i [])
key_fits ds keys i h l = as_long ds (get_or keys i []) (key_long ds keys i h l)

-- ---- what the test of the sort says of keys

turned_lt : (r : Ordering) → is_gt (ordering_reverse r) ≡ is_lt r
turned_lt Less = refl
turned_lt Equal = refl
turned_lt Greater = refl

not_after_is : (ds : List Bool) (a b : List Value) → Fits ds a → Fits ds b → is_lt (parts_order ds b a) ≡ false → IsNotAfter ds a b
not_after_is ds a b f g h = let t = parts_total ds in
    ap (λ r. not (is_gt r)) (parts_agree ds a b f g ∙ t.antisymm a b)
    ∙ ap not (turned_lt (parts_order ds b a) ∙ h)

-- equal keys stand level
pub same_level : (ds : List Bool) (a b : List Value) → Fits ds a → Fits ds b → same_row a b ≡ true → keys_order ds a b ≡ Equal
same_level [] a b f g h = refl
same_level (d ∷ ds) [] b f g h = absurd f
same_level (d ∷ ds) (x ∷ xs) [] f g h = absurd g
same_level (d ∷ ds) (x ∷ xs) (y ∷ ys) f g h =
    then-Equal (value_order d x y) (keys_order ds xs ys) (tied_order d x y (first_part (value_eq x y) (same_row xs ys) h))
    ∙ same_level ds xs ys f g (second_part (value_eq x y) (same_row xs ys) h)

pub neither : (r : Ordering) → not (is_lt r) && not (is_lt (ordering_reverse r)) ≡ true → r ≡ Equal
neither Less h = cc
neither Equal h = refl
neither Greater h = cc

level_ties : (r : Ordering) → r ≡ Equal → not (is_lt r) && not (is_lt (ordering_reverse r)) ≡ true
level_ties r h = ap (λ s. not (is_lt s) && not (is_lt (ordering_reverse s))) h

same_test : (b c : Bool) → (b ≡ true → c ≡ true) → (c ≡ true → b ≡ true) → b ≡ c
same_test true true p q = refl
same_test true false p q = sym (p refl)
same_test false true p q = q refl
same_test false false p q = refl

-- rows that tie have equal keys, and rows with equal keys tie
tie_is : (ds : List Bool) (keys : List (List Value)) → AreKeys ds keys → (i j : ℕ) → i < length keys → j < length keys
    → ties (is_row_before ds keys) i j ≡ same_row (get_or keys j []) (get_or keys i [])
tie_is ds keys h i j l m = same_test (ties (is_row_before ds keys) i j) (same_row b a) forth back
  where
    a : List Value
    a = get_or keys i []

    b : List Value
    b = get_or keys j []

    f : Fits ds a
    f = key_fits ds keys i h l

    g : Fits ds b
    g = key_fits ds keys j h m

    turn : parts_order ds b a ≡ ordering_reverse (parts_order ds a b)
    turn = let t = parts_total ds in t.antisymm b a

    forth : ties (is_row_before ds keys) i j ≡ true → same_row b a ≡ true
    forth e =
        let level : parts_order ds a b ≡ Equal = neither (parts_order ds a b) (ap (λ r. not (is_lt (parts_order ds a b)) && not (is_lt r)) (sym turn) ∙ e) in
        let ab : IsNotAfter ds a b = ap (λ r. not (is_gt r)) (parts_agree ds a b f g ∙ level) in
        let ba : IsNotAfter ds b a = ap (λ r. not (is_gt r)) (parts_agree ds b a g f ∙ turn ∙ ap ordering_reverse level) in
        equal_rows ds b a g f ba ab

    back : same_row b a ≡ true → ties (is_row_before ds keys) i j ≡ true
    back e =
        let q = rows_equiv in
        let level : parts_order ds a b ≡ Equal = sym (parts_agree ds a b f g) ∙ same_level ds a b f g (q.symm a b ∙ e) in
        ap (λ r. not (is_lt (parts_order ds a b)) && not (is_lt r)) turn ∙ level_ties (parts_order ds a b) level

-- ---- sorted

-- no number stands behind one before which it belongs
abbrev pub Rise : (ℕ → ℕ → Bool) → List ℕ → Type 0
Rise lt [] = Unit {0}
Rise lt (i ∷ is) = (list_all (λ j. not (lt j i)) is ≡ true) × Rise lt is

abbrev NextRises : (ℕ → ℕ → Bool) → ℕ → List ℕ → Type 0
NextRises lt i [] = Unit {0}
NextRises lt i (j ∷ js) = (lt j i ≡ false) × NextRises lt j js

next_rises : (lt : ℕ → ℕ → Bool) (i : ℕ) (is : List ℕ) → IsSortedBy lt (i ∷ is) → NextRises lt i is
next_rises lt i [] h = tt
next_rises lt i (j ∷ js) h = (
  h 0 i (omega arith) (omega arith),
  next_rises lt j js (λ k d l m.
      let e : suc k + 1 ≡ suc (k + 1) = omega arith in
      let P : ℕ → Type 0 = λ n. lt (get_or (i ∷ j ∷ js) n d) (get_or (j ∷ js) k d) ≡ false in
      subst P e (h (suc k) d (omega arith) (omega (arith, m)))),
)

both_true : (b c : Bool) → b ≡ true → c ≡ true → b && c ≡ true
both_true b c h k = ap (λ x. x && c) h ∙ k

further : (lt : ℕ → ℕ → Bool) → IsStrictWeakOrder lt → (i j : ℕ) (js : List ℕ) → lt j i ≡ false → list_all (λ k. not (lt k j)) js ≡ true
    → list_all (λ k. not (lt k i)) js ≡ true
further lt o i j [] h l = refl
further lt o i j (k ∷ ks) h l =
    both_true (not (lt k i)) (list_all (λ k. not (lt k i)) ks)
    (ap not (o.chain k j i (not_true (lt k j) (first_part (not (lt k j)) (list_all (λ k. not (lt k j)) ks) l)) h))
    (further lt o i j ks h (second_part (not (lt k j)) (list_all (λ k. not (lt k j)) ks) l))
  where
    not_true : (b : Bool) → not b ≡ true → b ≡ false
    not_true true h = cc
    not_true false h = refl

rise : (lt : ℕ → ℕ → Bool) → IsStrictWeakOrder lt → (i : ℕ) (is : List ℕ) → NextRises lt i is → Rise lt (i ∷ is)
rise lt o i [] h = (refl, tt)
rise lt o i (j ∷ js) h =
    let rest = rise lt o j js h.1 in
    (both_true (not (lt j i)) (list_all (λ k. not (lt k i)) js) (ap not h.0) (further lt o i j js h.0 rest.0), rest)

pub rises : (lt : ℕ → ℕ → Bool) → IsStrictWeakOrder lt → (is : List ℕ) → IsSortedBy lt is → Rise lt is
rises lt o [] h = tt
rises lt o (i ∷ is) h = rise lt o i is (next_rises lt i is h)

-- the numbers of rows that tie with a row stand as they did
abbrev pub IsStableForRows : List Bool → List (List Value) → List ℕ → Type 0
IsStableForRows ds keys numbers =
    (x : ℕ) → x < length keys → filter (ties (is_row_before ds keys) x) numbers ≡ filter (ties (is_row_before ds keys) x) (range_with_len 0 (length keys))

module _ (ds : List Bool) (keys : List (List Value)) (h : AreKeys ds keys) (t : ℕ) where
  rows_fit_of : (is : List ℕ) → All (IsThere keys) is → AllFit ds (map (numbered_row t keys) is)
  rows_fit_of [] a = tt
  rows_fit_of (i ∷ is) a = (key_fits ds keys i h (All-head (IsThere keys) i is a), rows_fit_of is (All-tail (IsThere keys) i is a))

  not_before_others : (i : ℕ) (is : List ℕ) → i < length keys → All (IsThere keys) is → list_all (λ j. not (is_row_before ds keys j i)) is ≡ true
      → list_all (not_before_row ds (numbered_row t keys i)) (map (numbered_row t keys) is) ≡ true
  not_before_others i [] l a r = refl
  not_before_others i (j ∷ js) l a r =
      both_true (not_before_row ds (numbered_row t keys i) (numbered_row t keys j)) (list_all (not_before_row ds (numbered_row t keys i)) (map (numbered_row t keys) js))
      (not_after_is ds (get_or keys i []) (get_or keys j []) (key_fits ds keys i h l) (key_fits ds keys j h (All-head (IsThere keys) j js a))
      (not_true (is_row_before ds keys j i) (first_part (not (is_row_before ds keys j i)) (list_all (λ j. not (is_row_before ds keys j i)) js) r)))
      (not_before_others i js l (All-tail (IsThere keys) j js a) (second_part (not (is_row_before ds keys j i)) (list_all (λ j. not (is_row_before ds keys j i)) js) r))
    where
      not_true : (b : Bool) → not b ≡ true → b ≡ false
      not_true true h = cc
      not_true false h = refl

  sorted_of : (is : List ℕ) → All (IsThere keys) is → Rise (is_row_before ds keys) is → AreSorted ds (map (numbered_row t keys) is)
  sorted_of [] a r = tt
  sorted_of (i ∷ is) a r =
      (not_before_others i is (All-head (IsThere keys) i is a) (All-tail (IsThere keys) i is a) r.0, sorted_of is (All-tail (IsThere keys) i is a) r.1)

  -- ---- stable

  -- a row has a key
  abbrev has : List Value → ℕ → Bool
  has key i = same_row (get_or keys i []) key

  filtered_rows : (key : List Value) (is : List ℕ) → rows_of_key key (map (numbered_row t keys) is) ≡ map (numbered_row t keys) (filter (has key) is)
  filtered_rows key [] = refl
  filtered_rows key (i ∷ is) = by (has key i) (filtered_rows key is)
    where
      by : (b : Bool) → rows_of_key key (map (numbered_row t keys) is) ≡ map (numbered_row t keys) (filter (has key) is)
          → cond b (numbered_row t keys i ∷ rows_of_key key (map (numbered_row t keys) is)) (rows_of_key key (map (numbered_row t keys) is))
          ≡ map (numbered_row t keys) (cond b (i ∷ filter (has key) is) (filter (has key) is))
      by true again = ap (λ rows. numbered_row t keys i ∷ rows) again
      by false again = again

  filtered_alike : (p q : ℕ → Bool) (is : List ℕ) → All (IsThere keys) is → ((j : ℕ) → j < length keys → p j ≡ q j) → filter p is ≡ filter q is
  filtered_alike p q [] a e = refl
  filtered_alike p q (i ∷ is) a e =
      let rest = filtered_alike p q is (All-tail (IsThere keys) i is a) e in
      let one = e i (All-head (IsThere keys) i is a) in
      λ k. cond (one k) (i ∷ rest k) (rest k)

  -- the rows with the key of a row that is there are those that tie with it
  tied_rows : (key : List Value) (i : ℕ) (is : List ℕ) → i < length keys → All (IsThere keys) is → has key i ≡ true
      → filter (has key) is ≡ filter (ties (is_row_before ds keys) i) is
  tied_rows key i is l a e = filtered_alike (has key) (ties (is_row_before ds keys) i) is a (λ j m.
      let q = rows_equiv in
      q.symm (get_or keys j []) key
      ∙ sym (q.congr (get_or keys i []) key (get_or keys j []) e)
      ∙ q.symm (get_or keys i []) (get_or keys j [])
      ∙ sym (tie_is ds keys h i j l m))

  -- some row of these has a key, or none
  sought : (key : List Value) (is : List ℕ) → All (IsThere keys) is → ((i : ℕ) × (i < length keys) × (has key i ≡ true)) ⊎ (filter (has key) is ≡ [])
  sought key [] a = inr refl
  sought key (i ∷ is) a = by (has key i) refl (sought key is (All-tail (IsThere keys) i is a))
    where
      by : (b : Bool) → has key i ≡ b → ((i : ℕ) × (i < length keys) × (has key i ≡ true)) ⊎ (filter (has key) is ≡ [])
          → ((i : ℕ) × (i < length keys) × (has key i ≡ true)) ⊎ (filter (has key) (i ∷ is) ≡ [])
      by true e again = inl (i, All-head (IsThere keys) i is a, e)
      by false e (inl found) = inl found
      by false e (inr none) = inr (ap (λ b. cond b (i ∷ filter (has key) is) (filter (has key) is)) e ∙ none)

  found_alike : (key : List Value) (is js : List ℕ) → All (IsThere keys) is → All (IsThere keys) js
      → ((x : ℕ) → x < length keys → filter (ties (is_row_before ds keys) x) js ≡ filter (ties (is_row_before ds keys) x) is)
      → ((i : ℕ) × (i < length keys) × (has key i ≡ true)) ⊎ (filter (has key) is ≡ [])
      → ((i : ℕ) × (i < length keys) × (has key i ≡ true)) ⊎ (filter (has key) js ≡ [])
      → filter (has key) js ≡ filter (has key) is
  found_alike key is js a b s (inl f) q = tied_rows key f.0 js f.1 b f.2 ∙ s f.0 f.1 ∙ sym (tied_rows key f.0 is f.1 a f.2)
  found_alike key is js a b s (inr n) (inl f) = tied_rows key f.0 js f.1 b f.2 ∙ s f.0 f.1 ∙ sym (tied_rows key f.0 is f.1 a f.2)
  found_alike key is js a b s (inr n) (inr m) = m ∙ sym n

  numbered_is : (keys-left : List (List Value)) (number : ℕ) → ((k : ℕ) → k < length keys-left → get_or keys (number + k) [] ≡ get_or keys-left k [])
      → numbered_rows t number keys-left ≡ map (numbered_row t keys) (range_with_len number (length keys-left))
  numbered_is [] number e = refl
  numbered_is (key ∷ more) number e =
      let here : key ≡ get_or keys number [] = sym (e 0 (omega arith)) ∙ ap (λ n. get_or keys n []) (add_zero number) in
      let rest = numbered_is more (number + 1) (λ k l. ap (λ n. get_or keys n []) (next number k) ∙ e (suc k) (omega (arith, l))) in
      λ i. record { table = t; number = number; key = here i } ∷ rest i
    where
      add_zero : (n : ℕ) → n + 0 ≡ n
      add_zero n = omega arith

      next : (n k : ℕ) → n + 1 + k ≡ n + suc k
      next n k = omega arith

  pub have_keys : (keys-left : List (List Value)) (number : ℕ) → AreKeys ds keys-left → HaveKeys ds (numbered_rows t number keys-left)
  have_keys [] number k = tt
  have_keys (key ∷ more) number k = (k.0, have_keys more (number + 1) k.1)

  all_there : All (IsThere keys) (range_with_len 0 (length keys))
  all_there = λ k d l.
      let m : k < length keys = subst (λ n. k < n) (length-range_with_len 0 (length keys)) l in
      subst (λ n. n < length keys) (sym (get_or-range_with_len 0 (length keys) k d m)) (omega (arith, m))

  in_order : (numbers : List ℕ) → IsPermutation (range_with_len 0 (length keys)) numbers → IsSortedBy (is_row_before ds keys) numbers
      → IsStableForRows ds keys numbers
      → map (numbered_row t keys) numbers ≡ in_by_order ds (numbered_rows t 0 keys)
  in_order numbers p s e =
      let all = range_with_len 0 (length keys) in
      let b : All (IsThere keys) numbers = All-permutation (IsThere keys) all numbers p all_there in
      let o : IsStrictWeakOrder (is_row_before ds keys) = ranks_by (parts_total ds) (λ i. get_or keys i []) in
      let is : numbered_rows t 0 keys ≡ map (numbered_row t keys) all = numbered_is keys 0 (λ k l. ap (λ n. get_or keys n []) (zero_add k)) in
      ordered_is ds (numbered_rows t 0 keys) (map (numbered_row t keys) numbers) (have_keys keys 0 h) (rows_fit_of numbers b)
      (sorted_of numbers b (rises (is_row_before ds keys) o numbers s))
      (λ key.
      filtered_rows key numbers
      ∙ ap (map (numbered_row t keys)) (found_alike key all numbers all_there b e (sought key all all_there) (sought key numbers b))
      ∙ sym (filtered_rows key all)
      ∙ ap (rows_of_key key) (sym is))
    where
      zero_add : (n : ℕ) → 0 + n ≡ n
      zero_add n = omega arith

-- the numbers of rows, sorted stably by their keys, are those of the rows in BY order
pub sorted_numbers : (ds : List Bool) (keys : List (List Value)) (numbers : List ℕ) → AreKeys ds keys → IsPermutation (range_with_len 0 (length keys)) numbers
    → IsSortedBy (is_row_before ds keys) numbers → IsStableForRows ds keys numbers → IsOrderOfRows ds keys numbers
sorted_numbers ds keys numbers h p s e = record {
  there = All-permutation (IsThere keys) (range_with_len 0 (length keys)) numbers p (all_there ds keys h 0);
  rows = λ t. in_order ds keys h t numbers p s e;
}
