-- The text of a decimal is ASCII.
use Rattle.std.proofs.Common.{◌≡◌, ◌+◌, ◌/◌, ◌%◌, ◌^◌, ◌<◌, ◌≤◌, ℕ, zero, suc, Bool, true, false, [], ◌∷◌, ◌++◌, refl, ◌∙◌, arith}
use Rattle.std.specs.Prelude.{◌==◌, ◌&&◌, nat_lt, if◌then◌else◌, pos, unsigned_abs, int_lt}
use Rattle.std.specs.Fmt.{decimal}
use Rattle.std.specs.List.{list_all}
use Rattle.std.proofs.Math.Nat.{div-le_self}
use Rattle.std.proofs.lemmas.Bool.{and_from, ltb-true}
use Rattle.std.proofs.lemmas.Bool.Decides.{nat_tests}
use Rattle.std.proofs.lemmas.List.Folds.{list_all-append}
use Rattle.std.proofs.lemmas.Nat.{mod_below}
use Rattle.ds2_decimal.specs.Decimal.{Decimal, IsDecimal}
use Rattle.ds2_decimal.specs.declared.dec.TheConstants.{MOST_DIGITS}
use Rattle.ds2_decimal.specs.Text.{last_digits, decimal_text, written_magnitude}
use Rattle.ds2_csv_cells.proofs.LawNumbers.{spells, ascii-digits}

small-units : (d : Decimal) → IsDecimal d → unsigned_abs d.units < 10 ^ 64
small-units d valid = let h = ltb-true (unsigned_abs d.units) (10 ^ MOST_DIGITS) valid.digits in omega arith

-- it is ASCII
last-ascii : (k n : ℕ) → list_all (λ c. nat_lt c 128) (last_digits k n) ≡ true
last-ascii zero n = refl
last-ascii (suc k) n =
    list_all-append (λ c. nat_lt c 128) (last_digits k (n / 10)) ((48 + n % 10) ∷ [])
    ∙ and_from (list_all (λ c. nat_lt c 128) (last_digits k (n / 10))) (nat_lt (48 + n % 10) 128 && true) (last-ascii k (n / 10)) (and_from (nat_lt (48 + n % 10) 128) true (digit (n % 10) (mod_below n 10 (omega arith))) refl)
  where
    digit : (d : ℕ) → d < 10 → nat_lt (48 + d) 128 ≡ true
    digit d h = grind (arith, nat_tests)

magnitude-ascii : (m s : ℕ) → m < 10 ^ 64 → list_all (λ c. nat_lt c 128) (written_magnitude m s) ≡ true
magnitude-ascii m s small = by (s == 0)
  where
    whole : (n : ℕ) → n < 10 ^ 64 → list_all (λ c. nat_lt c 128) (decimal n) ≡ true
    whole n h = ascii-digits (decimal n) (spells n h).digits

    by : (b : Bool) → list_all (λ c. nat_lt c 128) (if b then decimal m else decimal (m / 10 ^ s) ++ (46 ∷ last_digits s m)) ≡ true
    by true = whole m small
    by false =
        let less : m / 10 ^ s ≤ m = div-le_self m (10 ^ s) in
        list_all-append (λ c. nat_lt c 128) (decimal (m / 10 ^ s)) (46 ∷ last_digits s m)
        ∙ and_from (list_all (λ c. nat_lt c 128) (decimal (m / 10 ^ s))) (list_all (λ c. nat_lt c 128) (46 ∷ last_digits s m)) (whole (m / 10 ^ s) (omega arith)) (last-ascii s m)

pub written-ascii : (d : Decimal) → IsDecimal d → list_all (λ c. nat_lt c 128) (decimal_text d) ≡ true
written-ascii d valid = by (int_lt d.units (pos 0))
  where
    by : (b : Bool) → list_all (λ c. nat_lt c 128) ((if b then 45 ∷ [] else []) ++ written_magnitude (unsigned_abs d.units) d.scale) ≡ true
    by true = magnitude-ascii (unsigned_abs d.units) d.scale (small-units d valid)
    by false = magnitude-ascii (unsigned_abs d.units) d.scale (small-units d valid)
