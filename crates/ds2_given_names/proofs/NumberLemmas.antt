-- Balances of two numbers.
use Rattle.std.proofs.Common.{◌≡◌, ◌≤◌, ◌<◌, ◌⊎◌, inl, inr, ℕ, zero, suc, ◌+◌, ◌-◌, ◌*◌, Bool, true, false, nat_le, List, [], ◌∷◌, take, drop, refl, sym, ap, ◌∙◌, arith}
use Rattle.std.proofs.lemmas.Bool.{leb-true, leb-false, le-leb, lt-leb}
use Rattle.std.specs.Prelude.{if◌then◌else◌}
use Rattle.ds2_given_names.specs.NumberOrder.{with_digit, spelled_behind, clamped_balance, Balances}

module _ (e a b m n : ℕ) (small : e ≤ 48) (a_is_byte : a ≤ 255) (b_is_byte : b ≤ 255) where
  -- the first number is greater whatever follows
  pub first_weighs : 10 * e + (b - 48) ≤ 216 + (a - 48) → Balances e m n → Balances 0 (with_digit m a) (with_digit n b)
  first_weighs h (inl k) = inl (refl, omega (arith, k, h, small, a_is_byte, b_is_byte))
  first_weighs h (inr (inl k)) = absurd (omega (arith, k, h, a_is_byte, b_is_byte))
  first_weighs h (inr (inr k)) = inl (refl, omega (arith, k, h, a_is_byte, b_is_byte))

  -- the second number is
  pub second_weighs : 216 + (a - 48) + 48 ≤ 10 * e + (b - 48) → Balances e m n → Balances 48 (with_digit m a) (with_digit n b)
  second_weighs h (inl k) = absurd (omega (arith, k, h, a_is_byte, b_is_byte))
  second_weighs h (inr (inl k)) = inr (inl (refl, omega (arith, k, h, a_is_byte, b_is_byte)))
  second_weighs h (inr (inr k)) = inr (inl (refl, omega (arith, k, h, a_is_byte, b_is_byte)))

  -- neither, yet
  pub neither_weighs : (r : ℕ) → 10 * e + (b - 48) ≡ 216 + (a - 48) + r → 0 < r → r ≤ 48 → Balances e m n → Balances r (with_digit m a) (with_digit n b)
  neither_weighs r h p q (inl k) = absurd (omega (arith, k, h, p, a_is_byte, b_is_byte))
  neither_weighs r h p q (inr (inl k)) = absurd (omega (arith, k, h, q, a_is_byte, b_is_byte))
  neither_weighs r h p q (inr (inr k)) = inr (inr (omega (arith, k, h, a_is_byte, b_is_byte), q))

  pub weighed : Balances e m n → Balances (clamped_balance (10 * e + (b - 48)) (216 + (a - 48))) (with_digit m a) (with_digit n b)
  weighed k = by (nat_le up down) (nat_le 48 (up - down)) refl refl
    where
      up : ℕ
      up = 10 * e + (b - 48)

      down : ℕ
      down = 216 + (a - 48)

      by : (s t : Bool) → nat_le up down ≡ s → nat_le 48 (up - down) ≡ t → Balances (if s then 0 else if t then 48 else (up - down)) (with_digit m a) (with_digit n b)
      by true t h g = first_weighs (leb-true up down h) k
      by false true h g =
          let x = leb-false up down h in
          let y = leb-true 48 (up - down) g in second_weighs (omega (arith, x, y)) k
      by false false h g =
          let x = leb-false up down h in
          let y = leb-false 48 (up - down) g in neither_weighs (up - down) (omega (arith, x)) (omega (arith, x)) (omega (arith, y)) k

pub at_most_is : (e m n : ℕ) → Balances e m n → nat_le 24 e ≡ nat_le m n
at_most_is e m n (inl k) = lt-leb 24 e (omega (arith, k)) ∙ sym (lt-leb m n (omega (arith, k)))
at_most_is e m n (inr (inl k)) = le-leb 24 e (omega (arith, k)) ∙ sym (le-leb m n (omega (arith, k)))
at_most_is e m n (inr (inr k)) = by (nat_le 24 e) refl
  where
    by : (t : Bool) → nat_le 24 e ≡ t → t ≡ nat_le m n
    by true h = let g = leb-true 24 e h in sym (le-leb m n (omega (arith, k, g)))
    by false h = let g = leb-false 24 e h in sym (lt-leb m n (omega (arith, k, g)))

pub digits_apart : (k m : ℕ) (xs : List ℕ) → spelled_behind (spelled_behind m (take k xs)) (drop k xs) ≡ spelled_behind m xs
digits_apart zero m xs = refl
digits_apart (suc k) m [] = refl
digits_apart (suc k) m (x ∷ xs) = digits_apart k (with_digit m x) xs

pub equal_balance : Balances 24 0 0
equal_balance = inr (inr (refl, omega (arith)))
