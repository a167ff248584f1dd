-- Rounding by the rest of a division.
use Rattle.std.proofs.Common.{◌≡◌, ℕ, ◌+◌, ◌-◌, ◌*◌, ◌/◌, ◌%◌, ◌^◌, ◌<◌, ◌≤◌, Option, Some, None, Bool, true, false, ltb, cond, refl, ap, ◌∙◌, arith}
use Rattle.std.specs.Option.{option_map_or}
use Rattle.std.proofs.lemmas.Nat.{div-add-mod', mod_below}
use Rattle.std.proofs.lemmas.Bool.Decides.{nat_tests}
use Rattle.ds2_decimal.specs.Rounding.{rounded_half_up}
use Rattle.ds2_decimal.specs.Steps.{quotient, quotient_and_rest}
use Rattle.ds2_decimal.proofs.QuotientLemmas.{quotient_from}

-- a rest of half the divisor or more rounds up
pub rounded_up : (n b : ℕ) → 0 < b → b ≤ 2 * (n % b) → rounded_half_up n b ≡ n / b + 1
rounded_up n b some large =
    let whole : n / b * b + n % b ≡ n = div-add-mod' n b in
    let below : n % b < b = mod_below n b some in
    quotient_from (2 * n + b) (2 * b) (n / b + 1) (2 * (n % b) - b) (omega (arith, ap (λ (x : ℕ). 2 * x) whole)) (omega arith)

pub rounded_down : (n b : ℕ) → 0 < b → 2 * (n % b) < b → rounded_half_up n b ≡ n / b
rounded_down n b some small =
    let whole : n / b * b + n % b ≡ n = div-add-mod' n b in
    quotient_from (2 * n + b) (2 * b) (n / b) (2 * (n % b) + b) (omega (arith, ap (λ (x : ℕ). 2 * x) whole)) (omega arith)

pub record Found (n z d q r : ℕ) : Type 0 where
  pub quotient : n * 10 ^ z / d ≡ q
  pub rest : n * 10 ^ z % d ≡ r
  pub digits : q < 10 ^ 38

parts : (t : Bool) (x y q r : ℕ) → let none : Option (ℕ × ℕ) = None in cond t (Some (x, y)) none ≡ Some (q, r) → (t ≡ true) × (x ≡ q) × (y ≡ r)
parts true x y q r e =
    let first : Option (ℕ × ℕ) → ℕ = λ o. option_map_or (λ (p : ℕ × ℕ). p.0) o 0 in
    let second : Option (ℕ × ℕ) → ℕ = λ o. option_map_or (λ (p : ℕ × ℕ). p.1) o 0 in
    (refl, ap first e, ap second e)
parts false x y q r e = cc

pub found : (n z d q r : ℕ) → quotient_and_rest n z d ≡ Some (q, r) → Found n z d q r
found n z d q r e =
    let (t, x, y) = parts (ltb (n * 10 ^ z / d) (10 ^ 38)) (n * 10 ^ z / d) (n * 10 ^ z % d) q r e in
    record { quotient = x; rest = y; digits = grind (arith, nat_tests) }

pub quotient_up : (n z d q r : ℕ) → 0 < d → quotient_and_rest n z d ≡ Some (q, r) → d - r ≤ r → quotient n z d ≡ cond (ltb (q + 1) (10 ^ 38)) (Some (q + 1)) None
quotient_up n z d q r some e large =
    let is = found n z d q r e in
    let rounded = rounded_up (n * 10 ^ z) d some (omega (arith, is.rest)) in
    let of : ℕ → Option ℕ = λ x. cond (ltb x (10 ^ 38)) (Some x) None in
    ap of (rounded ∙ ap (λ (x : ℕ). x + 1) is.quotient)

pub quotient_down : (n z d q r : ℕ) → 0 < d → quotient_and_rest n z d ≡ Some (q, r) → r < d - r → quotient n z d ≡ Some q
quotient_down n z d q r some e small =
    let is = found n z d q r e in
    let rounded = rounded_down (n * 10 ^ z) d some (omega (arith, is.rest)) in
    let of : ℕ → Option ℕ = λ x. cond (ltb x (10 ^ 38)) (Some x) None in
    let test : ltb q (10 ^ 38) ≡ true = let digits = is.digits in grind (arith, nat_tests) in
    let yes : Bool → Option ℕ = λ t. cond t (Some q) None in
    ap of (rounded ∙ is.quotient) ∙ ap yes test

no_parts : (t : Bool) (x y : ℕ) → let none : Option (ℕ × ℕ) = None in cond t (Some (x, y)) none ≡ none → t ≡ false
no_parts true x y e = cc
no_parts false x y e = refl

rounded_ge : (n b : ℕ) → 0 < b → n / b ≤ rounded_half_up n b
rounded_ge n b some =
    let up = rounded_up n b some in
    let down = rounded_down n b some in
    grind arith

pub quotient_none : (n z d : ℕ) → 0 < d → quotient_and_rest n z d ≡ None → quotient n z d ≡ None
quotient_none n z d some e =
    let test : ltb (n * 10 ^ z / d) (10 ^ 38) ≡ false = no_parts (ltb (n * 10 ^ z / d) (10 ^ 38)) (n * 10 ^ z / d) (n * 10 ^ z % d) e in
    let large : 10 ^ 38 ≤ n * 10 ^ z / d = grind (arith, nat_tests) in
    let more : n * 10 ^ z / d ≤ rounded_half_up (n * 10 ^ z) d = rounded_ge (n * 10 ^ z) d some in
    let no : ltb (rounded_half_up (n * 10 ^ z) d) (10 ^ 38) ≡ false = grind (arith, nat_tests) in
    let of : Bool → Option ℕ = λ t. cond t (Some (rounded_half_up (n * 10 ^ z) d)) None in
    ap of no
