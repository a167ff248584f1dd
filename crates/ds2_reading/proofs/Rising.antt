-- Numbers that rise are told by how often each of them stands among them.
use Rattle.std.proofs.Common.{◌≡◌, ℕ, zero, suc, ◌+◌, ◌<◌, ◌≤◌, Bool, true, false, nat_eq, cond, List, [], ◌∷◌, refl, sym, ap, ◌∙◌, arith, ◌⊎◌, inl, inr}
use Rattle.std.specs.Prelude.{filter}
use Rattle.std.specs.List.{range_with_len, sum_by}
use Rattle.std.specs.List.Sorted.{IsPermutation}
use Rattle.std.proofs.lemmas.Bool.Decides.{Decides-eqb}
use Rattle.std.proofs.lemmas.List.Sorted.{sum_by-IsPermutation}
use Rattle.std.proofs.lemmas.List.Sums.{sum_by-cons}

-- how often a number stands among these
abbrev pub times : ℕ → List ℕ → ℕ
times n [] = 0
times n (x ∷ xs) = cond (nat_eq x n) (suc (times n xs)) (times n xs)

-- none of these is below a number
abbrev pub AtLeast : ℕ → List ℕ → Type 0
AtLeast x [] = Unit {0}
AtLeast x (y ∷ ys) = (x ≤ y) × AtLeast x ys

-- no number is below one before it
abbrev pub Rising : List ℕ → Type 0
Rising [] = Unit {0}
Rising (x ∷ xs) = AtLeast x xs × Rising xs

own_time : (x : ℕ) (xs : List ℕ) → times x (x ∷ xs) ≡ suc (times x xs)
own_time x xs = let d = Decides-eqb x x in ap (λ b. cond b (suc (times x xs)) (times x xs)) (d.1 refl)

never_below : (n x : ℕ) (xs : List ℕ) → n < x → AtLeast x xs → times n xs ≡ 0
never_below n x [] l a = refl
never_below n x (y ∷ ys) l a = by (nat_eq y n) refl (never_below n x ys l a.1)
  where
    by : (b : Bool) → nat_eq y n ≡ b → times n ys ≡ 0 → cond b (suc (times n ys)) (times n ys) ≡ 0
    by true e again = let d = Decides-eqb y n in absurd (omega (arith, d.0 e, l, a.0))
    by false e again = again

never_first : (n x : ℕ) (xs : List ℕ) → n < x → AtLeast x xs → times n (x ∷ xs) ≡ 0
never_first n x xs l a = never_below n x (x ∷ xs) l (omega arith, a)

apart : (x y : ℕ) → (x < y) ⊎ (x ≡ y) ⊎ (y < x)
apart zero zero = inr (inl refl)
apart zero (suc y) = inl (omega arith)
apart (suc x) zero = inr (inr (omega arith))
apart (suc x) (suc y) = more (apart x y)
  where
    more : (x < y) ⊎ (x ≡ y) ⊎ (y < x) → (suc x < suc y) ⊎ (suc x ≡ suc y) ⊎ (suc y < suc x)
    more (inl l) = inl (omega (arith, l))
    more (inr (inl e)) = inr (inl (ap suc e))
    more (inr (inr l)) = inr (inr (omega (arith, l)))

same_first : (x y : ℕ) (xs ys : List ℕ) → AtLeast x xs → AtLeast y ys → ((n : ℕ) → times n (x ∷ xs) ≡ times n (y ∷ ys)) → x ≡ y
same_first x y xs ys a b e = by (apart x y)
  where
    by : (x < y) ⊎ (x ≡ y) ⊎ (y < x) → x ≡ y
    by (inl l) = absurd (omega (arith, own_time x xs, e x, never_first x y ys l b))
    by (inr (inl same)) = same
    by (inr (inr l)) = absurd (omega (arith, own_time y ys, e y, never_first y x xs l a))

fewer : (n x : ℕ) (xs ys : List ℕ) → times n (x ∷ xs) ≡ times n (x ∷ ys) → times n xs ≡ times n ys
fewer n x xs ys e = by (nat_eq x n) e
  where
    by : (b : Bool) → cond b (suc (times n xs)) (times n xs) ≡ cond b (suc (times n ys)) (times n ys) → times n xs ≡ times n ys
    by true e = omega (arith, e)
    by false e = e

pub rising_unique : (xs ys : List ℕ) → Rising xs → Rising ys → ((n : ℕ) → times n xs ≡ times n ys) → xs ≡ ys
rising_unique [] [] r s e = refl
rising_unique [] (y ∷ ys) r s e = absurd (omega (arith, e y, own_time y ys))
rising_unique (x ∷ xs) [] r s e = absurd (omega (arith, e x, own_time x xs))
rising_unique (x ∷ xs) (y ∷ ys) r s e =
    let first = same_first x y xs ys r.0 s.0 e in
    let rest = rising_unique xs ys r.1 s.1 (λ n. fewer n x xs ys (e n ∙ ap (λ z. times n (z ∷ ys)) (sym first))) in
    λ i. first i ∷ rest i

-- ---- those that pass a test

at_least_kept : (p : ℕ → Bool) (x : ℕ) (xs : List ℕ) → AtLeast x xs → AtLeast x (filter p xs)
at_least_kept p x [] a = tt
at_least_kept p x (y ∷ ys) a = by (p y) (at_least_kept p x ys a.1)
  where
    by : (b : Bool) → AtLeast x (filter p ys) → AtLeast x (cond b (y ∷ filter p ys) (filter p ys))
    by true again = (a.0, again)
    by false again = again

pub rising_kept : (p : ℕ → Bool) (xs : List ℕ) → Rising xs → Rising (filter p xs)
rising_kept p [] r = tt
rising_kept p (x ∷ xs) r = by (p x) (rising_kept p xs r.1)
  where
    by : (b : Bool) → Rising (filter p xs) → Rising (cond b (x ∷ filter p xs) (filter p xs))
    by true again = (at_least_kept p x xs r.0, again)
    by false again = again

range_at_least : (x a n : ℕ) → x ≤ a → AtLeast x (range_with_len a n)
range_at_least x a zero l = tt
range_at_least x a (suc n) l = (l, range_at_least x (a + 1) n (omega (arith, l)))

pub range_rises : (a n : ℕ) → Rising (range_with_len a n)
range_rises a zero = tt
range_rises a (suc n) = (range_at_least a (a + 1) n (omega arith), range_rises (a + 1) n)

-- one for each number that passes and is sought
abbrev counted : (ℕ → Bool) → ℕ → ℕ → ℕ
counted p n x = cond (p x) (cond (nat_eq x n) 1 0) 0

kept_times : (p : ℕ → Bool) (n : ℕ) (xs : List ℕ) → times n (filter p xs) ≡ sum_by (counted p n) xs
kept_times p n [] = refl
kept_times p n (x ∷ xs) = one (p x) ∙ by (p x) (nat_eq x n) (kept_times p n xs) ∙ sym (sum_by-cons (counted p n) x xs)
  where
    one : (b : Bool) → times n (cond b (x ∷ filter p xs) (filter p xs)) ≡ cond b (cond (nat_eq x n) (suc (times n (filter p xs))) (times n (filter p xs))) (times n (filter p xs))
    one true = refl
    one false = refl

    by : (b c : Bool) → times n (filter p xs) ≡ sum_by (counted p n) xs
        → cond b (cond c (suc (times n (filter p xs))) (times n (filter p xs))) (times n (filter p xs)) ≡ cond b (cond c 1 0) 0 + sum_by (counted p n) xs
    by true true rest = omega (arith, rest)
    by true false rest = omega (arith, rest)
    by false c rest = omega (arith, rest)

-- numbers in another order that pass a test, both rising, are the same
pub same_kept : (p : ℕ → Bool) (xs ys : List ℕ) → IsPermutation xs ys → Rising (filter p xs) → Rising (filter p ys) → filter p ys ≡ filter p xs
same_kept p xs ys m r s =
    rising_unique (filter p ys) (filter p xs) s r
    (λ n. kept_times p n ys ∙ sum_by-IsPermutation (counted p n) xs ys m ∙ sym (kept_times p n xs))
