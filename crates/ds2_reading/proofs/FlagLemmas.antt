-- The flags of loads, from how many BY variables are equal.
use Rattle.std.proofs.Common.{◌≡◌, ℕ, zero, suc, ◌+◌, ◌<◌, ◌≤◌, Bool, true, false, not, ◌||◌, ◌&&◌, List, [], ◌∷◌, map, length, take, drop, refl, sym, ap, ◌∙◌, arith}
use Rattle.std.specs.Prelude.{nat_lt, if◌then◌else◌}
use Rattle.std.proofs.lemmas.Bool.Decides.{same_from_decides, Decides-ltb, Decides-like}
use Rattle.std.proofs.lemmas.List.{take_all}
use Rattle.ds2_value.specs.Order.{value_eq, same_row}
use Rattle.ds2_value.specs.declared.value.Value.{Value}
use Rattle.ds2_value.specs.ValueLaws.{value_equiv}
use Rattle.ds2_table.specs.Loads.{differences}
use Rattle.ds2_table.proofs.Sorted.{first_part, second_part}
use Rattle.ds2_reading.specs.KeyOrder.{part_of_key, parts_in_common}
use Rattle.ds2_reading.specs.LoadMeaning.{flags_behind}

add_one : (n : ℕ) → n + 1 ≡ suc n
add_one n = omega arith

within_step : (t : Bool) (c m : ℕ) → c ≤ m → (if t then c + 1 else 0) ≤ suc m
within_step true c m h = omega (arith, h)
within_step false c m h = omega arith

pub common_within : (m : ℕ) (a b : List Value) → parts_in_common m a b ≤ m
common_within zero a b = omega arith
common_within (suc m) a b =
    within_step (value_eq (part_of_key a 0) (part_of_key b 0)) (parts_in_common m (drop 1 a) (drop 1 b)) m (common_within m (drop 1 a) (drop 1 b))

pub all_flags : (m : ℕ) (key : List Value) → length key ≡ m → flags_behind m 0 ≡ map (λ v. true) key
all_flags zero [] h = refl
all_flags zero (x ∷ xs) h = absurd (omega (arith, h))
all_flags (suc m) [] h = absurd (omega (arith, h))
all_flags (suc m) (x ∷ xs) h = ap (λ r. true ∷ r) (all_flags m xs (omega (arith, h)))

all_differ : (m : ℕ) (a b : List Value) → length a ≡ m → length b ≡ m → flags_behind m 0 ≡ differences true a b
all_differ zero [] b h k = refl
all_differ zero (x ∷ xs) b h k = absurd (omega (arith, h))
all_differ (suc m) [] b h k = absurd (omega (arith, h))
all_differ (suc m) (x ∷ xs) [] h k = absurd (omega (arith, k))
all_differ (suc m) (x ∷ xs) (y ∷ ys) h k = ap (λ r. true ∷ r) (all_differ m xs ys (omega (arith, h)) (omega (arith, k)))

-- the flags beside a neighbour
pub common_flags : (m : ℕ) (a b : List Value) → length a ≡ m → length b ≡ m → flags_behind m (parts_in_common m a b) ≡ differences false a b
common_flags zero [] b h k = refl
common_flags zero (x ∷ xs) b h k = absurd (omega (arith, h))
common_flags (suc m) [] b h k = absurd (omega (arith, h))
common_flags (suc m) (x ∷ xs) [] h k = absurd (omega (arith, k))
common_flags (suc m) (x ∷ xs) (y ∷ ys) h k = by (value_eq x y) (common_flags m xs ys (omega (arith, h)) (omega (arith, k)))
  where
    by : (t : Bool) → flags_behind m (parts_in_common m xs ys) ≡ differences false xs ys
        → flags_behind (suc m) (if t then parts_in_common m xs ys + 1 else 0) ≡ not t ∷ differences (not t) xs ys
    by true again = ap (flags_behind (suc m)) (add_one (parts_in_common m xs ys)) ∙ ap (λ r. false ∷ r) again
    by false again = ap (λ r. true ∷ r) (all_differ m xs ys (omega (arith, h)) (omega (arith, k)))

-- two keys differ in the same places either way round
pub differences_turned : (t : Bool) (a b : List Value) → differences t a b ≡ differences t b a
differences_turned t [] [] = refl
differences_turned t [] (y ∷ ys) = refl
differences_turned t (x ∷ xs) [] = refl
differences_turned t (x ∷ xs) (y ∷ ys) =
    let q = value_equiv in
    (λ i. (t || not (q.symm x y i)) ∷ differences (t || not (q.symm x y i)) xs ys)
    ∙ ap (λ r. (t || not (value_eq y x)) ∷ r) (differences_turned (t || not (value_eq y x)) xs ys)

below_next : (a b : ℕ) → nat_lt (a + 1) (suc b) ≡ nat_lt a b
below_next a b = same_from_decides (nat_lt (a + 1) (suc b)) (nat_lt a b) (Decides-like (nat_lt (a + 1) (suc b)) (λ h. omega (arith, h)) (λ h. omega (arith, h)) (Decides-ltb (a + 1) (suc b))) (Decides-ltb a b)

below_none : (a : ℕ) → nat_lt a 0 ≡ false
below_none a = by (nat_lt a 0) (Decides-ltb a 0)
  where
    by : (t : Bool) → ((t ≡ true → a < 0) × (a < 0 → t ≡ true)) → t ≡ false
    by true d = absurd (omega (arith, d.0 refl))
    by false d = refl

above_none : (b : ℕ) → nat_lt 0 (suc b) ≡ true
above_none b = let d = Decides-ltb 0 (suc b) in d.1 (omega arith)

-- two keys differ in the first p BY variables exactly where fewer than p are equal
pub common_below : (m p : ℕ) (a b : List Value) → length a ≡ m → length b ≡ m → p ≤ m → not (same_row (take p a) (take p b)) ≡ nat_lt (parts_in_common m a b) p
common_below m zero a b h k l = sym (below_none (parts_in_common m a b))
common_below zero (suc p) a b h k l = absurd (omega (arith, l))
common_below (suc m) (suc p) [] b h k l = absurd (omega (arith, h))
common_below (suc m) (suc p) (x ∷ xs) [] h k l = absurd (omega (arith, k))
common_below (suc m) (suc p) (x ∷ xs) (y ∷ ys) h k l =
    by (value_eq x y) (common_below m p xs ys (omega (arith, h)) (omega (arith, k)) (omega (arith, l)))
  where
    by : (t : Bool) → not (same_row (take p xs) (take p ys)) ≡ nat_lt (parts_in_common m xs ys) p
        → not (t && same_row (take p xs) (take p ys)) ≡ nat_lt (if t then parts_in_common m xs ys + 1 else 0) (suc p)
    by true again = again ∙ sym (below_next (parts_in_common m xs ys) p)
    by false again = sym (above_none p)

-- whether they differ at all
pub common_new : (m : ℕ) (a b : List Value) → length a ≡ m → length b ≡ m → not (same_row a b) ≡ nat_lt (parts_in_common m a b) m
common_new m a b h k =
    (λ i. not (same_row (sym (take_all m a (omega (arith, h))) i) (sym (take_all m b (omega (arith, k))) i))) ∙ common_below m m a b h k (omega arith)

-- ---- keys that are equal to others

pub like_differences : (t : Bool) (key a b : List Value) → same_row a b ≡ true → differences t key a ≡ differences t key b
like_differences t [] a b e = refl
like_differences t (x ∷ xs) [] [] e = refl
like_differences t (x ∷ xs) [] (b ∷ bs) e = cc
like_differences t (x ∷ xs) (a ∷ cs) [] e = cc
like_differences t (x ∷ xs) (a ∷ cs) (b ∷ bs) e =
    let q = value_equiv in
    let same : value_eq x a ≡ value_eq x b = q.symm x a ∙ q.congr a b x (first_part (value_eq a b) (same_row cs bs) e) ∙ q.symm b x in
    (λ i. (t || not (same i)) ∷ differences (t || not (same i)) xs cs)
    ∙ ap (λ r. (t || not (value_eq x b)) ∷ r) (like_differences (t || not (value_eq x b)) xs cs bs (second_part (value_eq a b) (same_row cs bs) e))

drop_like : (a b : List Value) → same_row a b ≡ true → (value_eq (part_of_key a 0) (part_of_key b 0) ≡ true) × (same_row (drop 1 a) (drop 1 b) ≡ true)
drop_like [] [] e = let q = value_equiv in (q.refl (part_of_key [] 0), refl)
drop_like [] (b ∷ bs) e = cc
drop_like (a ∷ cs) [] e = cc
drop_like (a ∷ cs) (b ∷ bs) e = (first_part (value_eq a b) (same_row cs bs) e, second_part (value_eq a b) (same_row cs bs) e)

pub like_common : (m : ℕ) (a b key : List Value) → same_row a b ≡ true → parts_in_common m a key ≡ parts_in_common m b key
like_common zero a b key e = refl
like_common (suc m) a b key e =
    let q = value_equiv in
    let parts = drop_like a b e in
    let same : value_eq (part_of_key a 0) (part_of_key key 0) ≡ value_eq (part_of_key b 0) (part_of_key key 0) = q.congr (part_of_key a 0) (part_of_key b 0) (part_of_key key 0) parts.0 in
    λ i. if same i then like_common m (drop 1 a) (drop 1 b) (drop 1 key) parts.1 i + 1 else 0

-- a key is equal to itself
pub self_common : (m : ℕ) (key : List Value) → parts_in_common m key key ≡ m
self_common zero key = refl
self_common (suc m) key =
    let q = value_equiv in
    ap (λ t. if t then parts_in_common m (drop 1 key) (drop 1 key) + 1 else 0) (q.refl (part_of_key key 0))
    ∙ ap (λ n. n + 1) (self_common m (drop 1 key))
    ∙ add_one m
