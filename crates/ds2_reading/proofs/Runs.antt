-- Rows of equal heads, sorted by what the heads leave out.
use Rattle.std.proofs.Common.{◌≡◌, ℕ, zero, suc, ◌+◌, ◌-◌, ◌*◌, ◌^◌, ◌<◌, ◌≤◌, Bool, true, false, ◌||◌, List, [], ◌∷◌, ◌++◌, map, length, take, drop, refl, sym, ap, ◌∙◌, subst, true≢false, arith, ◌⊎◌, inl, inr}
use Rattle.std.specs.Prelude.{nat_le, get_or}
use Rattle.std.specs.Cmp.{ranked}
use Rattle.std.specs.List.{All, range_with_len}
use Rattle.std.specs.List.Sorted.{IsPermutation, IsSortedBy, IsNonDecreasing}
use Rattle.std.specs.Ordering.{nat_cmp, is_lt, ordering_then, ordering_reverse, MatchOrdering}
use Rattle.std.specs.declared.cmp.Ordering.{Ordering}
use Rattle.std.specs.declared.cmp.Ordering.TheVariants.{Less, Equal, Greater}
use Rattle.std.proofs.lemmas.Bool.Decides.{leb_tells}
use Rattle.std.proofs.lemmas.List.{get_or_append_left, get_or-append_right, get_or-take, get_or-drop, length-take-le, length-drop, drop_all, length-map, map-append, get_or_default}
use Rattle.std.proofs.lemmas.List.Elements.{All-push}
use Rattle.std.proofs.lemmas.List.Sorted.{All-permutation, IsPermutation-refl, IsPermutation-trans, IsPermutation-map, IsPermutation-put_mid, length_permutation}
use Rattle.ds2_value.specs.declared.value.Value.{Value}
use Rattle.ds2_table.specs.LoadLaws.{HaveTableKeys, AreKeys}
use Rattle.ds2_table.specs.Loads.{InputRow, input_rows, keys_of_rows}
use Rattle.ds2_reading.specs.KeyHeads.{IsKeyHead, most_head, directed_head, IsDirectedHead, level_of_head, head_of, row_of}
use Rattle.ds2_reading.specs.KeyOrder.{InputKeys, part_of_key, key_of_number, parts_order, parts_in_common}
use Rattle.ds2_reading.specs.Numbers.{IsHeadedNumber, order_from, is_before, AreSortedRows, AreInOrder, IsHeadRun, IsRisingRun, SettlesRun, common_of_numbers}
use Rattle.ds2_reading.proofs.AllRows.{keys_of, input_fit}
use Rattle.ds2_reading.proofs.InOrder.{order_from_total}
use Rattle.ds2_reading.proofs.Levels.{heads_apart, level_order, none_common, level_common}
use Rattle.ds2_reading.proofs.Ranges.{below_more}
use Rattle.ds2_reading.proofs.SortedNumbers.{key_long}
use borrow.Rule.Slice.PartMut.{mid_of, put_mid}

-- ---- rows by their heads

module _ (input : InputKeys) (fit : HaveTableKeys input.descending input.tables) where
  have_keys : AreKeys input.descending (keys_of_rows (input_rows 0 input.tables))
  have_keys = keys_of input.descending (input_rows 0 input.tables) (input_fit input.descending 0 input.tables fit)

  pub long : (n : ℕ) → IsHeadedNumber input n → length (key_of_number input (row_of n)) ≡ length input.descending
  long n h =
      key_long input.descending (keys_of_rows (input_rows 0 input.tables)) (row_of n) have_keys
      (omega (arith, h.there, length-map (input_rows 0 input.tables) (λ (row : InputRow). row.key)))

  -- a row of a greater head does not stand before
  pub not_before : (m n : ℕ) → IsHeadedNumber input m → IsHeadedNumber input n → head_of m < head_of n → is_before input (row_of n) (row_of m) ≡ false
  not_before m n h k l =
      let t = order_from_total input 0 in
      let apart =
      heads_apart input.descending (head_of m) (head_of n) (key_of_number input (row_of m)) (key_of_number input (row_of n)) (long m h) (long n k) h.head k.head l in
      ap is_lt (t.antisymm (row_of n) (row_of m) ∙ ap (λ r. ordering_reverse (ordering_then r (nat_cmp (row_of m) (row_of n)))) apart)

  -- one of an equal head by what that leaves out
  pub level_before : (m n level : ℕ) → IsHeadedNumber input m → IsHeadedNumber input n → head_of m ≡ head_of n → level ≡ level_of_head input.descending (head_of m)
      → order_from input level (row_of m) (row_of n) ≡ order_from input 0 (row_of m) (row_of n)
  level_before m n level h k e v =
      let a = key_of_number input (row_of m) in
      let b = key_of_number input (row_of n) in
      ap (λ r. ordering_then r (nat_cmp (row_of m) (row_of n)))
      (ap (λ i. parts_order (drop i input.descending) (drop i a) (drop i b)) v ∙ level_order input.descending (head_of m) (head_of n) a b h.head k.head e)

-- ---- an item of a list with another middle part

module _ {A : Type 0} (a e : ℕ) (xs ys : List A) (low : a ≤ e) (high : e ≤ length xs) (n : length ys ≡ e - a) where
  front_long : length (take a xs) ≡ a
  front_long = length-take-le a xs (omega (arith, low, high))

  pub put_before : (k : ℕ) (d : A) → k < a → get_or (put_mid a (e - a) xs ys) k d ≡ get_or xs k d
  put_before k d l =
      get_or_append_left (take a xs) (ys ++ drop (e - a) (drop a xs)) d k (omega (arith, l, front_long)) ∙ get_or-take a xs k d l

  pub put_within : (k : ℕ) (d : A) → a ≤ k → k < e → get_or (put_mid a (e - a) xs ys) k d ≡ get_or ys (k - a) d
  put_within k d l m =
      get_or-append_right (take a xs) (ys ++ drop (e - a) (drop a xs)) a k d front_long l
      ∙ get_or_append_left ys (drop (e - a) (drop a xs)) d (k - a) (omega (arith, l, m, n))

  pub put_behind : (k : ℕ) (d : A) → e ≤ k → get_or (put_mid a (e - a) xs ys) k d ≡ get_or xs k d
  put_behind k d l =
      let z : a + (e - a + (k - a - (e - a))) ≡ k = omega (arith, low, l) in
      get_or-append_right (take a xs) (ys ++ drop (e - a) (drop a xs)) a k d front_long (omega (arith, low, l))
      ∙ get_or-append_right ys (drop (e - a) (drop a xs)) (e - a) (k - a) d n (omega (arith, low, l))
      ∙ get_or-drop (e - a) (drop a xs) (k - a - (e - a)) d
      ∙ get_or-drop a xs (e - a + (k - a - (e - a))) d
      ∙ ap (λ i. get_or xs i d) z

mid_at : {A : Type 0} (a e : ℕ) (xs : List A) (j : ℕ) (d : A) → j < e - a → get_or (mid_of a (e - a) xs) j d ≡ get_or xs (a + j) d
mid_at a e xs j d l = get_or-take (e - a) (drop a xs) j d l ∙ get_or-drop a xs j d

mid_long : {A : Type 0} (a e : ℕ) (xs : List A) → e ≤ length xs → length (mid_of a (e - a) xs) ≡ e - a
mid_long a e xs l = length-take-le (e - a) (drop a xs) (omega (arith, l, length-drop a xs))

split : (a b : ℕ) → (a < b) ⊎ (b ≤ a)
split a zero = inr (omega arith)
split zero (suc b) = inl (omega arith)
split (suc a) (suc b) = more (split a b)
  where
    more : (a < b) ⊎ (b ≤ a) → (suc a < suc b) ⊎ (suc b ≤ suc a)
    more (inl l) = inl (omega (arith, l))
    more (inr l) = inr (omega (arith, l))

-- ---- one run

module _ (input : InputKeys) (fit : HaveTableKeys input.descending input.tables) (from end : ℕ) (old : List ℕ) (run : IsHeadRun from end old)
    (headed : All (IsHeadedNumber input) old) where
  -- a run of one head that tells all, or of one row, is sorted
  pub run_alone : (level : ℕ) → IsRisingRun from end old → level ≡ level_of_head input.descending (head_of (get_or old from 0))
      → (end - from ≤ 1) ⊎ (length input.descending ≤ level) → SettlesRun input from end old old
  run_alone level rising v told = record {
    moved = IsPermutation-refl old;
    before = λ k d l. refl;
    behind = λ k d l. refl;
    heads = λ k d l. refl;
    sorted = λ k d low l. by told k d low l;
  }
    where
      by : (end - from ≤ 1) ⊎ (length input.descending ≤ level) → (k d : ℕ) → from ≤ k → k + 1 < end
          → is_before input (row_of (get_or old (k + 1) d)) (row_of (get_or old k d)) ≡ false
      by (inl few) k d low l = absurd (omega (arith, few, low, l))
      by (inr all) k d low l =
          let m = get_or old (k + 1) d in
          let n = get_or old k d in
          let w = run.within in
          let hm = headed (k + 1) d (omega (arith, l, w)) in
          let hn = headed k d (omega (arith, l, w)) in
          let same : head_of m ≡ head_of n = run.alike (k + 1) d (omega (arith, low)) l ∙ sym (run.alike k d low (omega (arith, l))) in
          let first : head_of (get_or old from 0) ≡ head_of m = sym (run.alike (k + 1) 0 (omega (arith, low)) l) ∙ ap head_of (get_or_default old (k + 1) 0 d (omega (arith, l, w))) in
          let up : row_of n ≤ row_of m = rows_rise n m (rising k d low l) (sym same) in
          let none : drop level input.descending ≡ [] = drop_all level input.descending all in
          ap is_lt
          (sym (level_before input fit m n level hm hn same (v ∙ ap (level_of_head input.descending) first))
          ∙ ap (λ rest. ordering_then (parts_order rest (drop level (key_of_number input (row_of m))) (drop level (key_of_number input (row_of n)))) (nat_cmp (row_of m) (row_of n))) none)
          ∙ not_less (row_of m) (row_of n) up
        where
          rows_rise : (n m : ℕ) → n ≤ m → head_of n ≡ head_of m → row_of n ≤ row_of m
          rows_rise n m l e = omega (arith, l, e)

          not_less : (m n : ℕ) → n ≤ m → is_lt (nat_cmp m n) ≡ false
          not_less m n l = one (nat_cmp m n) (ranked m n (nat_cmp m n) refl)
            where
              one : (r : Ordering) → MatchOrdering r (m < n) (m ≡ n) (n < m) → is_lt r ≡ false
              one Less k = absurd (omega (arith, l, k))
              one Equal k = refl
              one Greater k = refl

  module _ (ys : List ℕ) (level : ℕ) (v : level ≡ level_of_head input.descending (head_of (get_or old from 0)))
      (moved : IsPermutation (mid_of from (end - from) old) ys)
      (up : IsSortedBy (λ m n. is_lt (order_from input level (row_of m) (row_of n))) ys) where
    abbrev head : ℕ
    head = head_of (get_or old from 0)

    many : length ys ≡ end - from
    many = length_permutation (mid_of from (end - from) old) ys moved ∙ mid_long from end old run.within

    low : from ≤ end
    low = omega (arith, run.some)

    -- a row of this run
    record InRun (n : ℕ) : Type 0 where
      pub own : IsHeadedNumber input n
      pub same : head_of n ≡ head

    all_in : All InRun (mid_of from (end - from) old)
    all_in j d l =
        let m : j < end - from = omega (arith, l, mid_long from end old run.within) in
        let P : ℕ → Type 0 = InRun in
        subst P (sym (mid_at from end old j d m)) (record {
          own = headed (from + j) d (omega (arith, m, run.within));
          same =
              run.alike (from + j) d (omega arith) (omega (arith, m)) ∙ ap head_of (get_or_default old from d 0 (omega (arith, run.some, run.within)));
        })

    ys_in : All InRun ys
    ys_in = All-permutation InRun (mid_of from (end - from) old) ys moved all_in

    new_at : (k d : ℕ) → from ≤ k → k < end → get_or (put_mid from (end - from) old ys) k d ≡ get_or ys (k - from) d
    new_at k d = put_within from end old ys low run.within many k d

    same_heads : (k d : ℕ) → k < length old → head_of (get_or (put_mid from (end - from) old ys) k d) ≡ head_of (get_or old k d)
    same_heads k d l = by (split k from) (split k end)
      where
        by : (k < from) ⊎ (from ≤ k) → (k < end) ⊎ (end ≤ k) → head_of (get_or (put_mid from (end - from) old ys) k d) ≡ head_of (get_or old k d)
        by (inl m) o = ap head_of (put_before from end old ys low run.within many k d m)
        by (inr m) (inl o) =
            let i = ys_in (k - from) d (omega (arith, m, o, many)) in
            ap head_of (new_at k d m o) ∙ i.same ∙ ap head_of (get_or_default old from 0 d (omega (arith, run.some, run.within))) ∙ sym (run.alike k d m o)
        by (inr m) (inr o) = ap head_of (put_behind from end old ys low run.within many k d o)

    sorted_in : (k d : ℕ) → from ≤ k → k + 1 < end
        → is_before input (row_of (get_or (put_mid from (end - from) old ys) (k + 1) d)) (row_of (get_or (put_mid from (end - from) old ys) k d)) ≡ false
    sorted_in k d m o =
        let j : k + 1 - from ≡ k - from + 1 = omega (arith, m) in
        let next = ys_in (k - from + 1) d (omega (arith, m, o, many)) in
        let this = ys_in (k - from) d (omega (arith, m, o, many)) in
        (λ i. is_before input (row_of ((new_at (k + 1) d (omega (arith, m)) o ∙ ap (λ n. get_or ys n d) j) i)) (row_of (new_at k d m (omega (arith, o)) i)))
        ∙ ap is_lt (sym (level_before input fit (get_or ys (k - from + 1) d) (get_or ys (k - from) d) level next.own this.own (next.same ∙ sym this.same)
        (v ∙ ap (level_of_head input.descending) (sym next.same))))
        ∙ up (k - from) d (omega arith) (omega (arith, m, o, many))

    -- a run is sorted by what its head leaves out
    pub run_sorted : SettlesRun input from end old (put_mid from (end - from) old ys)
    run_sorted = record {
      moved = IsPermutation-put_mid from (end - from) old ys moved;
      before = put_before from end old ys low run.within many;
      behind = put_behind from end old ys low run.within many;
      heads = same_heads;
      sorted = sorted_in;
    }

-- ---- one run after the other

pub record IsSettledTo (input : InputKeys) (old : List ℕ) (from : ℕ) (now : List ℕ) : Type 0 where
  pub moved : IsPermutation old now
  pub behind : (k d : ℕ) → from ≤ k → get_or now k d ≡ get_or old k d
  pub heads : (k d : ℕ) → k < length old → head_of (get_or now k d) ≡ head_of (get_or old k d)
  pub sorted : (k d : ℕ) → k + 1 < from → is_before input (row_of (get_or now (k + 1) d)) (row_of (get_or now k d)) ≡ false
  pub apart : (i j d : ℕ) → i < from → from ≤ j → j < length old → head_of (get_or old i d) < head_of (get_or old j d)

pub none_settled : (input : InputKeys) (old : List ℕ) → IsSettledTo input old 0 old
none_settled input old = record {
  moved = IsPermutation-refl old;
  behind = λ k d l. refl;
  heads = λ k d l. refl;
  sorted = λ k d l. absurd (omega (arith, l));
  apart = λ i j d l. absurd (omega (arith, l));
}

module _ (input : InputKeys) (fit : HaveTableKeys input.descending input.tables) (old : List ℕ) (from : ℕ) (now : List ℕ) (headed : All (IsHeadedNumber input) old)
    (rising : IsNonDecreasing old) (h : IsSettledTo input old from now) where
  pub now_headed : All (IsHeadedNumber input) now
  now_headed = All-permutation (IsHeadedNumber input) old now h.moved headed

  as_many : length now ≡ length old
  as_many = length_permutation old now h.moved

  pub rising_run : (end : ℕ) → end ≤ length now → IsRisingRun from end now
  rising_run end w k d low l =
      let up : get_or old k d ≤ get_or old (k + 1) d = rising k (k + 1) d (omega arith) (omega (arith, l, w, as_many)) in
      omega (arith, up, h.behind k d low, h.behind (k + 1) d (omega (arith, low)))

  pub all_settled : length now ≤ from → AreSortedRows input now
  all_settled w k d low l = h.sorted k d (omega (arith, l, w))

  module _ (end : ℕ) (new : List ℕ) (run : IsHeadRun from end now) (s : SettlesRun input from end now new) where
    new_headed : All (IsHeadedNumber input) new
    new_headed = All-permutation (IsHeadedNumber input) now new s.moved now_headed

    new_many : length new ≡ length old
    new_many = length_permutation now new s.moved ∙ as_many

    new_heads : (k d : ℕ) → k < length old → head_of (get_or new k d) ≡ head_of (get_or old k d)
    new_heads k d l = s.heads k d (omega (arith, l, as_many)) ∙ h.heads k d l

    within : end ≤ length old
    within = omega (arith, run.within, as_many)

    apart_end : (i j d : ℕ) → i < end → end ≤ j → j < length old → head_of (get_or old i d) < head_of (get_or old j d)
    apart_end i j d l m o = by (split i from)
      where
        next : head_of (get_or old from d) < head_of (get_or old end d)
        next =
            let up : get_or old from d ≤ get_or old end d = rising from end d (omega (arith, run.some)) (omega (arith, m, o)) in
            let other : head_of (get_or old end d) ≡ head_of (get_or old from d) → ⊥ = λ e.
            run.ends d (omega (arith, m, o, as_many)) (h.heads end d (omega (arith, m, o)) ∙ e ∙ sym (h.heads from d (omega (arith, run.some, m, o)))) in
            higher (get_or old from d) (get_or old end d) up other
          where
            higher : (a b : ℕ) → a ≤ b → (head_of b ≡ head_of a → ⊥) → head_of a < head_of b
            higher a b l n = one (split (head_of a) (head_of b))
              where
                one : (head_of a < head_of b) ⊎ (head_of b ≤ head_of a) → head_of a < head_of b
                one (inl k) = k
                one (inr k) = absurd (n (omega (arith, l, k)))

        later : head_of (get_or old end d) ≤ head_of (get_or old j d)
        later = let up : get_or old end d ≤ get_or old j d = rising end j d m o in omega (arith, up)

        by : (i < from) ⊎ (from ≤ i) → head_of (get_or old i d) < head_of (get_or old j d)
        by (inl k) = h.apart i j d k (omega (arith, run.some, m)) o
        by (inr k) =
            let same : head_of (get_or old i d) ≡ head_of (get_or old from d) =
            sym (h.heads i d (omega (arith, l, m, o))) ∙ run.alike i d k l ∙ h.heads from d (omega (arith, run.some, m, o)) in
            omega (arith, same, next, later)

    sorted_end : (k d : ℕ) → k + 1 < end → is_before input (row_of (get_or new (k + 1) d)) (row_of (get_or new k d)) ≡ false
    sorted_end k d l = by (split (k + 1) from) (split k from)
      where
        by : (k + 1 < from) ⊎ (from ≤ k + 1) → (k < from) ⊎ (from ≤ k) → is_before input (row_of (get_or new (k + 1) d)) (row_of (get_or new k d)) ≡ false
        by (inl m) o = (λ i. is_before input (row_of (s.before (k + 1) d m i)) (row_of (s.before k d (omega (arith, m)) i))) ∙ h.sorted k d m
        by (inr m) (inl o) =
            let lower = h.apart k (k + 1) d o m (omega (arith, l, within)) in
            not_before input fit (get_or new k d) (get_or new (k + 1) d) (new_headed k d (omega (arith, l, within, new_many))) (new_headed (k + 1) d (omega (arith, l, within, new_many)))
            (omega (arith, lower, new_heads k d (omega (arith, l, within)), new_heads (k + 1) d (omega (arith, l, within))))
        by (inr m) (inr o) = s.sorted k d o l

    pub one_more : IsSettledTo input old end new
    one_more = record {
      moved = IsPermutation-trans old now new h.moved s.moved;
      behind = λ k d l. s.behind k d l ∙ h.behind k d (omega (arith, run.some, l));
      heads = new_heads;
      sorted = sorted_end;
      apart = apart_end;
    }

-- ---- parts in common

module _ (input : InputKeys) (fit : HaveTableKeys input.descending input.tables) (numbers : List ℕ) (headed : All (IsHeadedNumber input) numbers) where
  abbrev at : ℕ → ℕ
  at k = get_or numbers k 0

  pub other_heads : (place : ℕ) → (place ≡ 0 → ⊥) → place < length numbers → (head_of (at (place - 1)) ≡ head_of (at place) → ⊥)
      → 0 ≡ common_of_numbers input numbers place
  other_heads zero some l n = absurd (some refl)
  other_heads (suc k) some l n =
      let a = headed k 0 (omega (arith, l)) in
      let b = headed (suc k) 0 l in
      let key = λ (i : ℕ). key_of_number input (row_of (at i)) in
      let one : suc k - 1 ≡ k = omega arith in
      by (split (head_of (at k)) (head_of (at (suc k)))) (split (head_of (at (suc k))) (head_of (at k)))
    where
      by : (head_of (at k) < head_of (at (suc k))) ⊎ (head_of (at (suc k)) ≤ head_of (at k)) → (head_of (at (suc k)) < head_of (at k)) ⊎ (head_of (at k) ≤ head_of (at (suc k)))
          → 0 ≡ common_of_numbers input numbers (suc k)
      by (inl m) o =
          let a = headed k 0 (omega (arith, l)) in
          let b = headed (suc k) 0 l in
          let none = none_common input.descending (head_of (at k)) (head_of (at (suc k))) (key_of_number input (row_of (at k))) (key_of_number input (row_of (at (suc k))))
          (long input fit (at k) a) (long input fit (at (suc k)) b) a.head b.head m in
          sym none.0
      by (inr m) (inl o) =
          let a = headed k 0 (omega (arith, l)) in
          let b = headed (suc k) 0 l in
          let none = none_common input.descending (head_of (at (suc k))) (head_of (at k)) (key_of_number input (row_of (at (suc k)))) (key_of_number input (row_of (at k)))
          (long input fit (at (suc k)) b) (long input fit (at k) a) b.head a.head o in
          sym none.1
      by (inr m) (inr o) =
          let one : suc k - 1 ≡ k = omega arith in
          let same : head_of (at k) ≡ head_of (at (suc k)) = omega (arith, m, o) in
          absurd (n (ap (λ i. head_of (at i)) one ∙ same))

  pub same_heads_common : (place level : ℕ) → (place ≡ 0 → ⊥) → place < length numbers → head_of (at (place - 1)) ≡ head_of (at place)
      → level ≡ level_of_head input.descending (head_of (at place))
      → level + parts_in_common (length input.descending - level) (drop level (key_of_number input (row_of (at (place - 1))))) (drop level (key_of_number input (row_of (at place))))
      ≡ common_of_numbers input numbers place
  same_heads_common zero level some l e v = absurd (some refl)
  same_heads_common (suc k) level some l e v =
      let a = headed k 0 (omega (arith, l)) in
      let b = headed (suc k) 0 l in
      let one : suc k - 1 ≡ k = omega arith in
      let same : head_of (at k) ≡ head_of (at (suc k)) = sym (ap (λ i. head_of (at i)) one) ∙ e in
      let key = key_of_number input (row_of (at (suc k))) in
      ap (λ i. level + parts_in_common (length input.descending - level) (drop level (key_of_number input (row_of (at i)))) (drop level key)) one
      ∙ ap (λ i. i + parts_in_common (length input.descending - i) (drop i (key_of_number input (row_of (at k)))) (drop i key)) (v ∙ ap (level_of_head input.descending) (sym same))
      ∙ level_common input.descending (head_of (at k)) (head_of (at (suc k))) (key_of_number input (row_of (at k))) key a.head b.head same

-- ---- a number more

turned_back : (d : Bool) (head : ℕ) → head ≤ most_head → directed_head d (directed_head d head) ≡ head
turned_back false head l = refl
turned_back true head l = omega (arith, l)

directed_bound : (d : Bool) (head : ℕ) → head ≤ most_head → directed_head d head ≤ most_head
directed_bound false head l = l
directed_bound true head l = omega arith

-- the number of a row with the head of its key
pub number_is : (input : InputKeys) (d : Bool) (number head row : ℕ) (value : Value) → d ≡ get_or input.descending 0 false → IsKeyHead head value → head < 2 * 128 ^ 13
    → value ≡ part_of_key (key_of_number input row) 0 → head_of number ≡ directed_head d head → row_of number ≡ row → row < length (input_rows 0 input.tables)
    → IsHeadedNumber input number
number_is input d number head row value way own small is front behind l =
    let low : head ≤ most_head = omega (arith, small) in
    let P : ℕ → Type 0 = λ n. IsKeyHead n value in
    let Q : ℕ → Type 0 = λ n. IsDirectedHead input.descending n (key_of_number input row) in
    let R : ℕ → Type 0 = λ n. IsDirectedHead input.descending (head_of number) (key_of_number input n) in
    let S : Value → Type 0 = λ v. IsKeyHead (directed_head (get_or input.descending 0 false) (directed_head d head)) v in
    let turned : directed_head (get_or input.descending 0 false) (directed_head d head) ≡ head = ap (λ w. directed_head w (directed_head d head)) (sym way) ∙ turned_back d head low in
    let begins : IsDirectedHead input.descending (directed_head d head) (key_of_number input row) =
    record { bound = directed_bound d head low; own = subst S is (subst P (sym turned) own) } in
    record { there = omega (arith, behind, l); head = subst R (sym behind) (subst Q (sym front) begins) }

-- one number more
pub numbers_more : (input : InputKeys) (numbers more : List ℕ) (number row : ℕ) → All (IsHeadedNumber input) numbers × (map row_of numbers ≡ range_with_len 0 row)
    → IsHeadedNumber input number → row_of number ≡ row → more ≡ numbers ++ number ∷ [] → All (IsHeadedNumber input) more × (map row_of more ≡ range_with_len 0 (row + 1))
numbers_more input numbers more number row h own is new =
    let P : List ℕ → Type 0 = All (IsHeadedNumber input) in (
      subst P (sym new) (All-push (IsHeadedNumber input) numbers number h.0 own),
      ap (map row_of) new ∙ map-append row_of numbers (number ∷ []) ∙ (λ i. h.1 i ++ is i ∷ []) ∙ sym (below_more row),
    )

-- one row more of a run
pub alike_more : (numbers : List ℕ) (from end x e : ℕ) → from < end → end < length numbers
    → ((k d : ℕ) → from ≤ k → k < end → head_of (get_or numbers k d) ≡ head_of (get_or numbers from d))
    → head_of (get_or numbers end x) ≡ head_of (get_or numbers from e)
    → (k d : ℕ) → from ≤ k → k < end + 1 → head_of (get_or numbers k d) ≡ head_of (get_or numbers from d)
alike_more numbers from end x e low l h same k d m o = by (split k end)
  where
    by : (k < end) ⊎ (end ≤ k) → head_of (get_or numbers k d) ≡ head_of (get_or numbers from d)
    by (inl q) = h k d m q
    by (inr q) =
        let z : k ≡ end = omega (arith, o, q) in
        ap (λ n. head_of (get_or numbers n d)) z
        ∙ ap head_of (get_or_default numbers end d x l)
        ∙ same
        ∙ ap head_of (get_or_default numbers from e d (omega (arith, low, l)))

-- where the next one is another
pub ends_run : (numbers : List ℕ) (from end x e : ℕ) → from < end → end < length numbers → (head_of (get_or numbers end x) ≡ head_of (get_or numbers from e) → ⊥)
    → (d : ℕ) → head_of (get_or numbers end d) ≡ head_of (get_or numbers from d) → ⊥
ends_run numbers from end x e low l n d same =
    n (ap head_of (get_or_default numbers end x d l) ∙ same ∙ ap head_of (get_or_default numbers from d e (omega (arith, low, l))))

-- what a test of two parts tells
pub settled_by : (a b c d : ℕ) → nat_le a b || nat_le c d ≡ true → (a ≤ b) ⊎ (c ≤ d)
settled_by a b c d e = by (leb_tells a b) (leb_tells c d) e
  where
    at_most : ((nat_le c d ≡ true) × (c ≤ d)) ⊎ ((nat_le c d ≡ false) × (d < c)) → nat_le c d ≡ true → c ≤ d
    at_most (inl k) f = k.1
    at_most (inr k) f = absurd (true≢false (sym f ∙ k.0))

    by : ((nat_le a b ≡ true) × (a ≤ b)) ⊎ ((nat_le a b ≡ false) × (b < a)) → ((nat_le c d ≡ true) × (c ≤ d)) ⊎ ((nat_le c d ≡ false) × (d < c))
        → nat_le a b || nat_le c d ≡ true → (a ≤ b) ⊎ (c ≤ d)
    by (inl k) o f = inl k.1
    by (inr k) o f = inr (at_most o (ap (λ x. x || nat_le c d) (sym k.0) ∙ f))

-- numbers that are moved and sorted stand in order
pub all_in_order : (input : InputKeys) (first second third : List ℕ) (n : ℕ) → n ≡ length (input_rows 0 input.tables) → All (IsHeadedNumber input) first
    → map row_of first ≡ range_with_len 0 n → IsPermutation first second → IsPermutation second third → AreSortedRows input third → AreInOrder input third
all_in_order input first second third n many headed rows a b sorted =
    let moved : IsPermutation first third = IsPermutation-trans first second third a b in
    let P : List ℕ → Type 0 = λ ns. IsPermutation ns (map row_of third) in
    record {
      headed = All-permutation (IsHeadedNumber input) first third moved headed;
      rows = subst P (rows ∙ ap (range_with_len 0) many) (IsPermutation-map row_of first third moved);
      sorted = sorted;
    }
