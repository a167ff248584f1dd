-- The sign of a quotient.
use Rattle.std.proofs.Common.{◌≡◌, ℕ, zero, suc, ◌+◌, ◌*◌, ◌^◌, ◌<◌, ℤ, pos, negsuc, neg_ℤ, ◌*ℤ◌, unsigned_abs, Option, Some, None, Bool, true, false, not, ltb, cond, refl, sym, ap, ◌∙◌, arith}
use Rattle.std.specs.Prelude.{int_lt}
use mathlib.Core.Bool.{beq}
use Rattle.std.proofs.Math.IntN.{neg_ℤ-neg_ℤ}
use Rattle.std.proofs.lemmas.Bool.Decides.{nat_tests}
use Rattle.ds2_decimal.specs.Decimal.{is_within}
use Rattle.ds2_decimal.specs.Rounding.{moved_sign, rounded_half_up, round}
use Rattle.ds2_decimal.specs.Steps.{signed_number, quotient, signed_quotient}
use Rattle.ds2_decimal.proofs.IntegerLemmas.{times-neg, unsigned_abs-neg}
use Rattle.ds2_decimal.proofs.QuotientLemmas.{quotient_from}

pub unsigned_abs-signed : (s : Bool) (n : ℕ) → unsigned_abs (signed_number s n) ≡ n
unsigned_abs-signed true n = unsigned_abs-neg (pos n)
unsigned_abs-signed false n = refl

rounded-zero : (b : ℕ) → 0 < b → rounded_half_up 0 b ≡ 0
rounded-zero b some = quotient_from (2 * 0 + b) (2 * b) 0 b (omega arith) (omega arith)

pub round-neg : (z : ℤ) (b : ℕ) → 0 < b → round (neg_ℤ z) b ≡ neg_ℤ (round z b)
round-neg (pos zero) b some =
    ap (λ (n : ℕ). pos n) (rounded-zero b some) ∙ sym (ap (λ (n : ℕ). neg_ℤ (pos n)) (rounded-zero b some))
round-neg (pos (suc n)) b some = refl
round-neg (negsuc n) b some = sym (neg_ℤ-neg_ℤ (pos (rounded_half_up (suc n) b)))

-- the sign of a number times a positive one
not_negative : (n : ℕ) → ltb n 0 ≡ false
not_negative n = grind (arith, nat_tests)

pub round-numerator : (a b : ℤ) (t : ℕ) → 0 < unsigned_abs b → round (moved_sign b a *ℤ pos t) (unsigned_abs b) ≡ signed_number (not (beq (int_lt a (pos 0)) (int_lt b (pos 0)))) (rounded_half_up (unsigned_abs a * t) (unsigned_abs b))
round-numerator (pos n) (pos m) t some =
    let of : Bool → Bool → ℤ = λ p q. signed_number (not (beq p q)) (rounded_half_up (n * t) m) in
    sym (ap (λ (p : Bool). of p (ltb m 0)) (not_negative n) ∙ ap (λ (q : Bool). of false q) (not_negative m))
round-numerator (negsuc n) (pos m) t some =
    let of : Bool → ℤ = λ q. signed_number (not (beq true q)) (rounded_half_up (suc n * t) m) in
    round-neg (pos (suc n * t)) m some ∙ sym (ap of (not_negative m))
round-numerator (pos n) (negsuc m) t some =
    let of : Bool → ℤ = λ p. signed_number (not (beq p true)) (rounded_half_up (n * t) (suc m)) in
    ap (λ (z : ℤ). round z (suc m)) (times-neg (pos n) t) ∙ round-neg (pos (n * t)) (suc m) some ∙ sym (ap of (not_negative n))
round-numerator (negsuc n) (negsuc m) t some = refl

some_inside : (t : Bool) (x q : ℕ) → let none : Option ℕ = None in cond t (Some x) none ≡ Some q → (t ≡ true) × (x ≡ q)
some_inside true x q e = (refl, cc)
some_inside false x q e = cc

none_inside : (t : Bool) (x : ℕ) → let none : Option ℕ = None in cond t (Some x) none ≡ none → t ≡ false
none_inside true x e = cc
none_inside false x e = refl

pub signed_some : (a b : ℤ) (k m : ℕ) → 0 < unsigned_abs b → quotient (unsigned_abs a) k (unsigned_abs b) ≡ Some m → signed_quotient a k b ≡ Some (signed_number (not (beq (int_lt a (pos 0)) (int_lt b (pos 0)))) m)
signed_some a b k m some e =
    let s : Bool = not (beq (int_lt a (pos 0)) (int_lt b (pos 0))) in
    let n : ℕ = rounded_half_up (unsigned_abs a * 10 ^ k) (unsigned_abs b) in
    let inside = some_inside (ltb n (10 ^ 38)) n m e in
    let of : ℤ → Option ℤ = λ z. cond (is_within 38 z) (Some z) None in
    let by : ℕ → Option ℤ = λ x. cond (ltb x (10 ^ 38)) (Some (signed_number s m)) None in
    let test : Bool → Option ℤ = λ t. cond t (Some (signed_number s m)) None in
    ap of (round-numerator a b (10 ^ k) some)
    ∙ ap (λ (x : ℕ). of (signed_number s x)) inside.1
    ∙ ap by (unsigned_abs-signed s m ∙ sym inside.1)
    ∙ ap test inside.0

pub signed_none : (a b : ℤ) (k : ℕ) → 0 < unsigned_abs b → quotient (unsigned_abs a) k (unsigned_abs b) ≡ None → signed_quotient a k b ≡ None
signed_none a b k some e =
    let s : Bool = not (beq (int_lt a (pos 0)) (int_lt b (pos 0))) in
    let n : ℕ = rounded_half_up (unsigned_abs a * 10 ^ k) (unsigned_abs b) in
    let of : ℤ → Option ℤ = λ z. cond (is_within 38 z) (Some z) None in
    let by : ℕ → Option ℤ = λ x. cond (ltb x (10 ^ 38)) (Some (signed_number s n)) None in
    let test : Bool → Option ℤ = λ t. cond t (Some (signed_number s n)) None in
    ap of (round-numerator a b (10 ^ k) some)
    ∙ ap by (unsigned_abs-signed s n)
    ∙ ap test (none_inside (ltb n (10 ^ 38)) n e)
