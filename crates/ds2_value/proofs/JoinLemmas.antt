-- The join of two types.
use Rattle.std.proofs.Common.{◌≡◌, ℕ, ◌+◌, ◌-◌, ◌≤◌, max, Option, Some, None, refl, ap, arith}
use Rattle.std.specs.Prelude.{IsTrue, nat_le, ◌&&◌, Bool, true, false, if◌then◌else◌}
use Rattle.std.specs.Cmp.{first_so, second_so}
use Rattle.std.proofs.lemmas.Bool.{leb-true, le-leb}
use Rattle.ds2_value.specs.Types.{in_bounds, is_from_one, join_decimals, takes, JoinCommutes, JoinTakesBoth, TakesItself, TakesOnward}
use Rattle.ds2_value.specs.declared.ty.Ty.{Ty}
use Rattle.ds2_value.specs.declared.ty.Ty.TheVariants.{BigInt, Decimal, Char, Varchar}

max-comm : (m n : ℕ) → max m n ≡ max n m
max-comm m n = omega arith

decimals-comm : (p s q t : ℕ) → join_decimals p s q t ≡ join_decimals q t p s
decimals-comm p s q t = rw (max-comm s t, max-comm (p - s) (q - t)) refl

pub commutes : JoinCommutes
commutes BigInt BigInt = refl
commutes BigInt (Decimal q t) = decimals-comm 19 0 q t
commutes BigInt (Char m) = refl
commutes BigInt (Varchar m) = refl
commutes (Decimal p s) BigInt = decimals-comm p s 19 0
commutes (Decimal p s) (Decimal q t) = decimals-comm p s q t
commutes (Decimal p s) (Char m) = refl
commutes (Decimal p s) (Varchar m) = refl
commutes (Char n) BigInt = refl
commutes (Char n) (Decimal q t) = refl
commutes (Char n) (Char m) = ap (λ (k : ℕ). Some (Char k)) (max-comm n m)
commutes (Char n) (Varchar m) = ap (λ (k : ℕ). Some (Varchar k)) (max-comm n m)
commutes (Varchar n) BigInt = refl
commutes (Varchar n) (Decimal q t) = refl
commutes (Varchar n) (Char m) = ap (λ (k : ℕ). Some (Varchar k)) (max-comm n m)
commutes (Varchar n) (Varchar m) = ap (λ (k : ℕ). Some (Varchar k)) (max-comm n m)

all-so : (a b : Bool) → IsTrue a → IsTrue b → IsTrue (a && b)
all-so a b h k = rw (h, k) refl

within : (m n : ℕ) → m ≤ n → IsTrue (nat_le m n)
within m n h = le-leb m n h

-- the numbers of a type in bounds
scale-le : (p s : ℕ) → IsTrue (in_bounds (Decimal p s)) → s ≤ p
scale-le p s h = leb-true s p (second-part (is_from_one p 38) (nat_le s p) h)
  where
    second-part : (a b : Bool) → IsTrue (a && b) → IsTrue b
    second-part a b h = second_so a b h

from-one : (n limit : ℕ) → IsTrue (is_from_one n limit) → (1 ≤ n) × (n ≤ limit)
from-one n limit h = (leb-true 1 n (first_so (nat_le 1 n) (nat_le n limit) h), leb-true n limit (second_so (nat_le 1 n) (nat_le n limit) h))

digits-from-one : (p s : ℕ) → IsTrue (in_bounds (Decimal p s)) → 1 ≤ p
digits-from-one p s h = (from-one p 38 (first_so (is_from_one p 38) (nat_le s p) h)).0

to-one : (n limit : ℕ) → 1 ≤ n → n ≤ limit → IsTrue (is_from_one n limit)
to-one n limit h k = all-so (nat_le 1 n) (nat_le n limit) (within 1 n h) (within n limit k)

the-type : Option Ty → Ty
the-type None = BigInt
the-type (Some c) = c

same : (a c : Ty) → Some a ≡ Some c → a ≡ c
unfolding the-type
same a c h = ap the-type h

-- all that is wanted of a join
abbrev Both : Ty → Ty → Ty → Type 0
Both a b c = IsTrue (in_bounds c) × IsTrue (takes c a) × IsTrue (takes c b)

abbrev after : ℕ → ℕ → ℕ
after s t = max s t

abbrev digits : ℕ → ℕ → ℕ → ℕ → ℕ
digits p s q t = max (p - s) (q - t) + max s t

-- the joined decimals, where there are such
decimals-are : (p s q t : ℕ) (c : Ty) → join_decimals p s q t ≡ Some c → (Decimal (digits p s q t) (after s t) ≡ c) × (digits p s q t ≤ 38)
decimals-are p s q t c h = by (nat_le (digits p s q t) 38) refl h
  where
    by : (b : Bool) → nat_le (digits p s q t) 38 ≡ b → (if b then Some (Decimal (digits p s q t) (after s t)) else None) ≡ Some c → (Decimal (digits p s q t) (after s t) ≡ c) × (digits p s q t ≤ 38)
    by true d e = (same _ _ e, leb-true (digits p s q t) 38 d)
    by false d e = cc

decimals-bounds : (p s q t : ℕ) → 1 ≤ p → digits p s q t ≤ 38 → IsTrue (in_bounds (Decimal (digits p s q t) (after s t)))
decimals-bounds p s q t h few =
    all-so (is_from_one (digits p s q t) 38) (nat_le (after s t) (digits p s q t)) (to-one (digits p s q t) 38 (omega arith) few) (within (after s t) (digits p s q t) (omega arith))

decimals-take : (p s q t : ℕ) → s ≤ p → IsTrue (takes (Decimal (digits p s q t) (after s t)) (Decimal p s))
decimals-take p s q t h = all-so (nat_le s (after s t)) (nat_le (p + after s t) (digits p s q t + s)) (within s (after s t) (omega arith)) (within (p + after s t) (digits p s q t + s) (omega arith))

decimals-take-right : (p s q t : ℕ) → t ≤ q → IsTrue (takes (Decimal (digits p s q t) (after s t)) (Decimal q t))
decimals-take-right p s q t h = all-so (nat_le t (after s t)) (nat_le (q + after s t) (digits p s q t + t)) (within t (after s t) (omega arith)) (within (q + after s t) (digits p s q t + t) (omega arith))

pub takes-both : JoinTakesBoth
takes-both BigInt BigInt c h k e = rw (← same _ _ e) (refl, refl, refl)
takes-both BigInt (Decimal q t) c h k e =
    let is = decimals-are 19 0 q t c e in
    rw (← is.0) (decimals-bounds 19 0 q t (omega arith) is.1, within (19 + after 0 t) (digits 19 0 q t) (omega arith), decimals-take-right 19 0 q t (scale-le q t k))
takes-both BigInt (Char m) c h k e = cc
takes-both BigInt (Varchar m) c h k e = cc
takes-both (Decimal p s) BigInt c h k e =
    let is = decimals-are p s 19 0 c e in
    rw (← is.0) (decimals-bounds p s 19 0 (digits-from-one p s h) is.1, decimals-take p s 19 0 (scale-le p s h), within (19 + after s 0) (digits p s 19 0) (omega arith))
takes-both (Decimal p s) (Decimal q t) c h k e =
    let is = decimals-are p s q t c e in
    rw (← is.0) (decimals-bounds p s q t (digits-from-one p s h) is.1, decimals-take p s q t (scale-le p s h), decimals-take-right p s q t (scale-le q t k))
takes-both (Decimal p s) (Char m) c h k e = cc
takes-both (Decimal p s) (Varchar m) c h k e = cc
takes-both (Char n) BigInt c h k e = cc
takes-both (Char n) (Decimal q t) c h k e = cc
takes-both (Char n) (Char m) c h k e =
    let a = from-one n 1024 h in
    let b = from-one m 1024 k in
    rw (← same _ _ e) (to-one (max n m) 1024 (omega (arith, a.0)) (omega (arith, a.1, b.1)), within n (max n m) (omega arith), within m (max n m) (omega arith))
takes-both (Char n) (Varchar m) c h k e =
    let a = from-one n 1024 h in
    let b = from-one m 1024 k in
    rw (← same _ _ e) (to-one (max n m) 1024 (omega (arith, a.0)) (omega (arith, a.1, b.1)), within n (max n m) (omega arith), within m (max n m) (omega arith))
takes-both (Varchar n) BigInt c h k e = cc
takes-both (Varchar n) (Decimal q t) c h k e = cc
takes-both (Varchar n) (Char m) c h k e =
    let a = from-one n 1024 h in
    let b = from-one m 1024 k in
    rw (← same _ _ e) (to-one (max n m) 1024 (omega (arith, a.0)) (omega (arith, a.1, b.1)), within n (max n m) (omega arith), within m (max n m) (omega arith))
takes-both (Varchar n) (Varchar m) c h k e =
    let a = from-one n 1024 h in
    let b = from-one m 1024 k in
    rw (← same _ _ e) (to-one (max n m) 1024 (omega (arith, a.0)) (omega (arith, a.1, b.1)), within n (max n m) (omega arith), within m (max n m) (omega arith))

pub takes-itself : TakesItself
takes-itself BigInt = refl
takes-itself (Decimal p s) = all-so (nat_le s s) (nat_le (p + s) (p + s)) (within s s (omega arith)) (within (p + s) (p + s) (omega arith))
takes-itself (Char n) = within n n (omega arith)
takes-itself (Varchar n) = within n n (omega arith)

-- the digits of decimals of which one takes the other
takes-digits : (p s q t : ℕ) → IsTrue (takes (Decimal p s) (Decimal q t)) → (t ≤ s) × (q + s ≤ p + t)
takes-digits p s q t h =
    (leb-true t s (first_so (nat_le t s) (nat_le (q + s) (p + t)) h), leb-true (q + s) (p + t) (second_so (nat_le t s) (nat_le (q + s) (p + t)) h))

shorter : (m n k : ℕ) → IsTrue (nat_le m n) → IsTrue (nat_le n k) → IsTrue (nat_le m k)
shorter m n k h j =
    let a = leb-true m n h in
    let b = leb-true n k j in
    within m k (omega (arith, a, b))

pub takes-onward : TakesOnward
takes-onward BigInt BigInt c h k = k
takes-onward BigInt (Decimal q t) BigInt h k = cc
takes-onward BigInt (Decimal q t) (Decimal p s) h k =
    let a = leb-true (19 + t) q h in
    let b = takes-digits p s q t k in
    within (19 + s) p (omega (arith, a, b.0, b.1))
takes-onward BigInt (Decimal q t) (Char n) h k = cc
takes-onward BigInt (Decimal q t) (Varchar n) h k = cc
takes-onward BigInt (Char m) c h k = cc
takes-onward BigInt (Varchar m) c h k = cc
takes-onward (Decimal r u) BigInt c h k = cc
takes-onward (Decimal r u) (Decimal q t) BigInt h k = cc
takes-onward (Decimal r u) (Decimal q t) (Decimal p s) h k =
    let a = takes-digits q t r u h in
    let b = takes-digits p s q t k in
    all-so (nat_le u s) (nat_le (r + s) (p + u)) (within u s (omega (arith, a.0, b.0))) (within (r + s) (p + u) (omega (arith, a.1, b.1)))
takes-onward (Decimal r u) (Decimal q t) (Char n) h k = cc
takes-onward (Decimal r u) (Decimal q t) (Varchar n) h k = cc
takes-onward (Decimal r u) (Char m) c h k = cc
takes-onward (Decimal r u) (Varchar m) c h k = cc
takes-onward (Char l) BigInt c h k = cc
takes-onward (Char l) (Decimal q t) c h k = cc
takes-onward (Char l) (Char m) BigInt h k = cc
takes-onward (Char l) (Char m) (Decimal p s) h k = cc
takes-onward (Char l) (Char m) (Char n) h k = shorter l m n h k
takes-onward (Char l) (Char m) (Varchar n) h k = shorter l m n h k
takes-onward (Char l) (Varchar m) BigInt h k = cc
takes-onward (Char l) (Varchar m) (Decimal p s) h k = cc
takes-onward (Char l) (Varchar m) (Char n) h k = cc
takes-onward (Char l) (Varchar m) (Varchar n) h k = shorter l m n h k
takes-onward (Varchar l) BigInt c h k = cc
takes-onward (Varchar l) (Decimal q t) c h k = cc
takes-onward (Varchar l) (Char m) c h k = cc
takes-onward (Varchar l) (Varchar m) BigInt h k = cc
takes-onward (Varchar l) (Varchar m) (Decimal p s) h k = cc
takes-onward (Varchar l) (Varchar m) (Char n) h k = cc
takes-onward (Varchar l) (Varchar m) (Varchar n) h k = shorter l m n h k
