-- The text of numbers, which needs no quotes, part by part.
use Rattle.std.proofs.Common.{◌==◌, ◌^◌, ◌+◌, ◌/◌, ◌%◌, zero, suc, Bool, true, false, ℤ, ◌≡◌, ◌≤◌, ◌<◌, ℕ, List, [], ◌∷◌, ◌++◌, ◌-◌, refl, sym, ap, ◌∙◌, arith, append_assoc}
use Rattle.std.specs.Prelude.{pos, negsuc, unsigned_abs, int_lt, ◌||◌, if◌then◌else◌}
use Rattle.std.specs.Char.{is_ascii_digit}
use Rattle.std.specs.Fmt.{decimal, signed_decimal}
use Rattle.std.specs.List.{list_any}
use Rattle.std.specs.Str.{all_ascii_digits}
use Rattle.std.proofs.Math.Nat.{div-le_self}
use Rattle.std.proofs.lemmas.Bool.{ltb-true, or_from}
use Rattle.std.proofs.lemmas.Bool.Decides.{nat_tests}
use Rattle.std.proofs.lemmas.List.Folds.{list_any-append}
use Rattle.std.proofs.lemmas.Nat.{mod_below}
use Rattle.csv.specs.Writing.{default_writer, needs_byte, quoted}
use Rattle.ds2_csv_records.specs.Records.{field_of}
use Rattle.ds2_decimal.specs.Decimal.{Decimal}
use Rattle.ds2_decimal.specs.Text.{decimal_text, last_digits, written_magnitude}
use Rattle.ds2_value.specs.Value.{fits_bigint}
use Rattle.ds2_csv_cells.proofs.LawNumbers.{spells, no-digit}

-- the text of an integer needs no quotes
no-mark : (d : ℕ) → is_ascii_digit d ≡ true → needs_byte default_writer d ≡ false
no-mark d e = grind (arith, nat_tests)

digits-plain : (ds : List ℕ) → all_ascii_digits ds ≡ true → field_of ds ≡ ds
unfolding field_of
digits-plain ds e = let none = no-digit (needs_byte default_writer) ds no-mark e in ap (λ b. if b then quoted default_writer ds else ds) none

minus-plain : (ds : List ℕ) → all_ascii_digits ds ≡ true → field_of (45 ∷ ds) ≡ 45 ∷ ds
unfolding field_of
minus-plain ds e = let none = no-digit (needs_byte default_writer) ds no-mark e in ap (λ b. if b then quoted default_writer (45 ∷ ds) else 45 ∷ ds) none

pub number_plain : (i : ℤ) → fits_bigint i ≡ true → field_of (signed_decimal i) ≡ signed_decimal i
number_plain (pos n) e = let small = ltb-true n (2 ^ 63) e in digits-plain (decimal n) (spells n (omega arith)).digits
number_plain (negsuc n) e = let small = ltb-true n (2 ^ 63) e in minus-plain (decimal (suc n)) (spells (suc n) (omega arith)).digits

-- nor does the text of a decimal
last-plain : (k n : ℕ) → list_any (needs_byte default_writer) (last_digits k n) ≡ false
last-plain zero n = refl
last-plain (suc k) n =
    list_any-append (needs_byte default_writer) (last_digits k (n / 10)) ((48 + n % 10) ∷ [])
    ∙ or_from (list_any (needs_byte default_writer) (last_digits k (n / 10))) (needs_byte default_writer (48 + n % 10) || false) (last-plain k (n / 10))
    (or_from (needs_byte default_writer (48 + n % 10)) false (no-mark (48 + n % 10) (digit (n % 10) (mod_below n 10 (omega arith)))) refl)
  where
    digit : (d : ℕ) → d < 10 → is_ascii_digit (48 + d) ≡ true
    digit d h = grind (arith, nat_tests)

whole-plain : (n : ℕ) → n < 10 ^ 64 → list_any (needs_byte default_writer) (decimal n) ≡ false
whole-plain n h = no-digit (needs_byte default_writer) (decimal n) no-mark (spells n h).digits

magnitude-plain : (m s : ℕ) → m < 10 ^ 64 → list_any (needs_byte default_writer) (written_magnitude m s) ≡ false
magnitude-plain m s small = by (s == 0)
  where
    by : (b : Bool) → list_any (needs_byte default_writer) (if b then decimal m else decimal (m / 10 ^ s) ++ (46 ∷ last_digits s m)) ≡ false
    by true = whole-plain m small
    by false =
        let less : m / 10 ^ s ≤ m = div-le_self m (10 ^ s) in
        list_any-append (needs_byte default_writer) (decimal (m / 10 ^ s)) (46 ∷ last_digits s m)
        ∙ or_from (list_any (needs_byte default_writer) (decimal (m / 10 ^ s))) (list_any (needs_byte default_writer) (46 ∷ last_digits s m)) (whole-plain (m / 10 ^ s) (omega arith)) (last-plain s m)

sign-plain : (b : Bool) (m s : ℕ) → m < 10 ^ 64 → list_any (needs_byte default_writer) ((if b then 45 ∷ [] else []) ++ written_magnitude m s) ≡ false
sign-plain true m s small = magnitude-plain m s small
sign-plain false m s small = magnitude-plain m s small

decimal-plain : (d : Decimal) → unsigned_abs d.units < 10 ^ 64 → field_of (decimal_text d) ≡ decimal_text d
unfolding field_of
decimal-plain d small = let none = sign-plain (int_lt d.units (pos 0)) (unsigned_abs d.units) d.scale small in ap (λ b. if b then quoted default_writer (decimal_text d) else decimal_text d) none

pub decimal-added : (old signed new : List ℕ) (d : Decimal) (b : Bool) (m s : ℕ) → unsigned_abs d.units < 10 ^ 64 → b ≡ int_lt d.units (pos 0) → m ≡ unsigned_abs d.units → s ≡ d.scale
    → signed ≡ old ++ (if b then 45 ∷ [] else []) → new ≡ signed ++ written_magnitude m s → new ≡ old ++ field_of (decimal_text d)
decimal-added old signed new d b m s small below size scale sign text =
    text ∙ ap (λ (t : List ℕ). t ++ written_magnitude m s) sign ∙ append_assoc old (if b then 45 ∷ [] else []) (written_magnitude m s)
    ∙ ap (λ c. old ++ ((if c then 45 ∷ [] else []) ++ written_magnitude m s)) below
    ∙ ap (λ n. old ++ ((if int_lt d.units (pos 0) then 45 ∷ [] else []) ++ written_magnitude n s)) size
    ∙ ap (λ n. old ++ ((if int_lt d.units (pos 0) then 45 ∷ [] else []) ++ written_magnitude (unsigned_abs d.units) n)) scale
    ∙ ap (λ (t : List ℕ). old ++ t) (sym (decimal-plain d small))

-- the last digits, one after the other
pub digits-added : (old front new : List ℕ) (n k c : ℕ) → 0 < k → front ≡ old ++ last_digits (k - 1) (n / 10) → new ≡ front ++ (c ∷ []) → c ≡ 48 + n % 10 → new ≡ old ++ last_digits k n
digits-added old front new n zero c some first last digit = absurd (omega arith)
digits-added old front new n (suc k) c some first last digit =
    let e : suc k - 1 ≡ k = omega arith in
    last ∙ ap (λ (t : List ℕ). t ++ (c ∷ [])) (first ∙ ap (λ j. old ++ last_digits j (n / 10)) e) ∙ append_assoc old (last_digits k (n / 10)) (c ∷ [])
    ∙ ap (λ d. old ++ (last_digits k (n / 10) ++ (d ∷ []))) digit

pub magnitude-added : (old whole point new digits : List ℕ) (n s u : ℕ) → (s == 0) ≡ false → u ≡ 10 ^ s → digits ≡ decimal (n / u) → whole ≡ old ++ digits → point ≡ whole ++ (46 ∷ []) → new ≡ point ++ last_digits s n
    → new ≡ old ++ written_magnitude n s
magnitude-added old whole point new digits n s u some unit text front dot last =
    last ∙ ap (λ (t : List ℕ). t ++ last_digits s n) (dot ∙ ap (λ (t : List ℕ). t ++ (46 ∷ [])) (front ∙ ap (λ (t : List ℕ). old ++ t) (text ∙ ap (λ k. decimal (n / k)) unit)))
    ∙ append_assoc (old ++ decimal (n / 10 ^ s)) (46 ∷ []) (last_digits s n) ∙ append_assoc old (decimal (n / 10 ^ s)) (46 ∷ last_digits s n)
    ∙ ap (λ b. old ++ (if b then decimal n else decimal (n / 10 ^ s) ++ (46 ∷ last_digits s n))) (sym some)
