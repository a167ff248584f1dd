-- The bits of numbers.
use Rattle.std.proofs.Common.{◌≡◌, ℕ, zero, suc, ◌+◌, ◌-◌, ◌*◌, ◌/◌, ◌%◌, ◌^◌, ◌<◌, ◌≤◌, Bool, true, false, nat_eq, ◌∷◌, map, take, set, refl, sym, ap, ◌∙◌, arith}
use Rattle.std.specs.Prelude.{if◌then◌else◌, replicate, Some, None}
use Rattle.std.specs.List.{range_with_len}
use Rattle.std.proofs.lemmas.Bool.Decides.{Decides-eqb}
use Rattle.ds2_reading.specs.LoadMeaning.{row_or_none, bits_of, flags_behind}

odd : (n : ℕ) → (1 + 2 * n) % 2 ≡ 1
odd n = omega arith

odd_half : (n : ℕ) → (1 + 2 * n) / 2 ≡ n
odd_half n = omega arith

even : (n : ℕ) → (2 * n) % 2 ≡ 0
even n = omega arith

even_half : (n : ℕ) → (2 * n) / 2 ≡ n
even_half n = omega arith

-- an odd number, and an even one
pub bits_odd : (count n : ℕ) → bits_of (suc count) (1 + 2 * n) ≡ true ∷ bits_of count n
bits_odd count n = λ i. nat_eq (odd n i) 1 ∷ bits_of count (odd_half n i)

pub bits_even : (count n : ℕ) → bits_of (suc count) (2 * n) ≡ false ∷ bits_of count n
bits_even count n = λ i. nat_eq (even n i) 1 ∷ bits_of count (even_half n i)

pow_more : (n : ℕ) → 2 ^ suc n ≡ 2 * 2 ^ n
pow_more n = omega arith

pub pow_some : (n : ℕ) → 0 < 2 ^ n
pow_some zero = omega arith
pow_some (suc n) = omega (arith, pow_some n, pow_more n)

pub pow_mono : (few bys : ℕ) → few ≤ bys → 2 ^ few ≤ 2 ^ bys
pow_mono zero bys l = omega (arith, pow_some bys)
pow_mono (suc few) zero l = absurd (omega (arith, l))
pow_mono (suc few) (suc bys) l = omega (arith, pow_mono few bys (omega (arith, l)), pow_more few, pow_more bys)

-- all bits but the first few
pub bits_behind : (bys few : ℕ) → few ≤ bys → bits_of bys (2 ^ bys - 2 ^ few) ≡ flags_behind bys few
bits_behind zero few l = refl
bits_behind (suc bys) zero l =
    let e : 2 ^ suc bys - 1 ≡ 1 + 2 * (2 ^ bys - 1) = omega (arith, pow_more bys, pow_some bys) in
    ap (bits_of (suc bys)) e ∙ bits_odd bys (2 ^ bys - 1) ∙ ap (λ r. true ∷ r) (bits_behind bys 0 (omega arith))
bits_behind (suc bys) (suc few) l =
    let e : 2 ^ suc bys - 2 ^ suc few ≡ 2 * (2 ^ bys - 2 ^ few) = omega (arith, pow_more bys, pow_more few) in
    ap (bits_of (suc bys)) e ∙ bits_even bys (2 ^ bys - 2 ^ few) ∙ ap (λ r. false ∷ r) (bits_behind bys few (omega (arith, l)))

eq_self : (a b : ℕ) → a ≡ b → nat_eq a b ≡ true
eq_self a b e = let d = Decides-eqb a b in d.1 e

eq_apart : (a b : ℕ) → (a ≡ b → ⊥) → nat_eq a b ≡ false
eq_apart a b n = by (nat_eq a b) refl
  where
    by : (t : Bool) → nat_eq a b ≡ t → nat_eq a b ≡ false
    by true e = let d = Decides-eqb a b in absurd (n (d.0 e))
    by false e = e

-- no bit is set of 0
no_bits : (count a x : ℕ) → x < a → bits_of count 0 ≡ map (λ other. nat_eq x other) (range_with_len a count)
no_bits zero a x l = refl
no_bits (suc count) a x l =
    let apart : x ≡ a → ⊥ = λ e. absurd (omega (arith, e, l)) in
    λ i. sym (eq_apart x a apart) i ∷ no_bits count (a + 1) x (omega (arith, l)) i

one_bit : (count a f : ℕ) → bits_of count (2 ^ f) ≡ map (λ other. nat_eq (a + f) other) (range_with_len a count)
one_bit zero a f = refl
one_bit (suc count) a zero =
    let e : a + 0 ≡ a = omega arith in
    λ i. sym (eq_self (a + 0) a e) i ∷ no_bits count (a + 1) (a + 0) (omega arith) i
one_bit (suc count) a (suc f) =
    let apart : a + suc f ≡ a → ⊥ = λ e. absurd (omega (arith, e)) in
    let e : a + 1 + f ≡ a + suc f = omega arith in
    ap (bits_of (suc count)) (pow_more f)
    ∙ bits_even count (2 ^ f)
    ∙ (λ i. sym (eq_apart (a + suc f) a apart) i ∷ one_bit count (a + 1) f i)
    ∙ ap (λ n. nat_eq (a + suc f) a ∷ map (λ other. nat_eq n other) (range_with_len (a + 1) count)) e

-- the bit of a number alone
pub bit_alone : (f count : ℕ) → bits_of count (2 ^ f) ≡ map (λ other. nat_eq f other) (range_with_len 0 count)
bit_alone f count = let e : 0 + f ≡ f = omega arith in one_bit count 0 f ∙ ap (λ n. map (λ other. nat_eq n other) (range_with_len 0 count)) e

-- ---- row numbers

none_rows : (n k a x number : ℕ) → n ≤ k → x < a
    → map row_or_none (take n (replicate k 18446744073709551615)) ≡ map (λ table. if nat_eq x table then Some number else None) (range_with_len a n)
none_rows zero k a x number l m = refl
none_rows (suc n) zero a x number l m = absurd (omega (arith, l))
none_rows (suc n) (suc k) a x number l m =
    let apart : x ≡ a → ⊥ = λ e. absurd (omega (arith, e, m)) in
    ap (λ b. (if b then None else Some 18446744073709551615) ∷ map row_or_none (take n (replicate k 18446744073709551615))) (eq_self 18446744073709551615 18446744073709551615 refl)
    ∙ ap (λ r. None ∷ r) (none_rows n k (a + 1) x number (omega (arith, l)) (omega (arith, m)))
    ∙ ap (λ t. (if t then Some number else None) ∷ map (λ table. if nat_eq x table then Some number else None) (range_with_len (a + 1) n)) (sym (eq_apart x a apart))

one_row_of : (n k a t number : ℕ) → n ≤ k → number + 1 < 2 ^ 64
    → map row_or_none (take n (set (replicate k 18446744073709551615) t number)) ≡ map (λ table. if nat_eq (a + t) table then Some number else None) (range_with_len a n)
one_row_of zero k a t number l m = refl
one_row_of (suc n) zero a t number l m = absurd (omega (arith, l))
one_row_of (suc n) (suc k) a zero number l m =
    let apart : number ≡ 18446744073709551615 → ⊥ = λ e. absurd (omega (arith, e, m)) in
    let e : a + 0 ≡ a = omega arith in
    ap (λ b. (if b then None else Some number) ∷ map row_or_none (take n (replicate k 18446744073709551615))) (eq_apart number 18446744073709551615 apart)
    ∙ ap (λ r. Some number ∷ r) (none_rows n k (a + 1) (a + 0) number (omega (arith, l)) (omega arith))
    ∙ ap (λ b. (if b then Some number else None) ∷ map (λ table. if nat_eq (a + 0) table then Some number else None) (range_with_len (a + 1) n)) (sym (eq_self (a + 0) a e))
one_row_of (suc n) (suc k) a (suc t) number l m =
    let apart : a + suc t ≡ a → ⊥ = λ e. absurd (omega (arith, e)) in
    let e : a + 1 + t ≡ a + suc t = omega arith in
    ap (λ b. (if b then None else Some 18446744073709551615) ∷ map row_or_none (take n (set (replicate k 18446744073709551615) t number))) (eq_self 18446744073709551615 18446744073709551615 refl)
    ∙ ap (λ r. None ∷ r) (one_row_of n k (a + 1) t number (omega (arith, l)) m ∙ ap (λ x. map (λ table. if nat_eq x table then Some number else None) (range_with_len (a + 1) n)) e)
    ∙ ap (λ b. (if b then Some number else None) ∷ map (λ table. if nat_eq (a + suc t) table then Some number else None) (range_with_len (a + 1) n)) (sym (eq_apart (a + suc t) a apart))

-- the row of one table alone
pub row_alone : (n t number : ℕ) → n ≤ 16 → number + 1 < 2 ^ 64
    → map row_or_none (take n (set (replicate 16 18446744073709551615) t number)) ≡ map (λ table. if nat_eq t table then Some number else None) (range_with_len 0 n)
row_alone n t number l m =
    let e : 0 + t ≡ t = omega arith in
    one_row_of n 16 0 t number l m ∙ ap (λ x. map (λ table. if nat_eq x table then Some number else None) (range_with_len 0 n)) e

-- ---- shifts

-- a shift by at most 16 loses no bit of 32, and one by less than 16 none of 16
pub shl32 : (f : ℕ) → f ≤ 16 → 1 * 2 ^ f % 4294967296 ≡ 2 ^ f
shl32 f h = let small : 2 ^ f ≤ 65536 = pow_mono f 16 h in omega (arith, small)

pub shl16 : (f : ℕ) → f < 16 → 1 * 2 ^ f % 65536 ≡ 2 ^ f
shl16 f h = let small : 2 ^ f ≤ 32768 = pow_mono f 15 (omega (arith, h)) in omega (arith, small)
