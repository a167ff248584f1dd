-- Constants are parts: numbers with signs, and the values of a type.
use Rattle.std.proofs.Common.{◌≡◌, ℕ, ℤ, pos, negsuc, ◌+◌, ◌*◌, ◌/◌, ◌%◌, ◌^◌, ◌<◌, Bool, true, false, cond, if◌then◌else◌, ◌==◌, not, IsTrue, Some, None, FitsSigned, refl, sym, ap, ◌∙◌, ltb-true, lt-ltb, eqb-true, eq-eqb, arith}
use Rattle.std.specs.Int.{w64, w128, cast_signed, cast_unsigned}
use Rattle.std.proofs.lemmas.Int.{of_z-to_z, to_z-of_z}
use Rattle.std.proofs.Math.Facts.{sfits_to_z, Fits-of_lt}
use Rattle.ds2_base.specs.Bytes.{Bytes}
use Rattle.ds2_decimal.specs.Decimal.{Decimal}
use Rattle.ds2_value.specs.Types.{fits}
use Rattle.ds2_value.specs.Value.{fits_bigint}
use Rattle.ds2_value.specs.declared.ty.Ty.{Ty}
use Rattle.ds2_value.specs.declared.ty.Ty.TheVariants.{BigInt, Decimal as DecimalOf, Char, Varchar}
use Rattle.ds2_value.specs.declared.value.Value.{Value}
use Rattle.ds2_value.specs.declared.value.Value.TheVariants.{Null, Int, Dec, Txt}
use Rattle.ds2_code.specs.ValidCode.{is_char_type}
use Rattle.ds2_code.specs.declared.parts.Constant.{Constant}
use Rattle.ds2_object_words.specs.Parts.{number64_part, then_part, ◌⨾◌, variant_part}
use Rattle.ds2_object_words.specs.PartLaws.{IsLawfulPart}
use Rattle.ds2_object_words.specs.Words.{text_part, type_part}
use Rattle.ds2_object_words.specs.CodeParts.{signed64_part, number128_part, fits_signed128, signed128_part, bigint_in, units_in, text_in, text_value_part, constant_value_part, constant_type_part, constant_line}
use Rattle.ds2_object_words.proofs.PartLemmas.{both, then_law, seen_as_law, variant_law, checked_law, some_is}
use Rattle.ds2_object_words.proofs.NumberLemmas.{number64_law, number64_allows}
use Rattle.ds2_object_words.proofs.WordLemmas.{pair_law, text_law, type_law}

-- a value that is there where a test holds
tested : {A : Type 0} (b : Bool) (x y : A) → cond b (Some x) None ≡ Some y → (b ≡ true) × (x ≡ y)
tested true x y e = (refl, some_is x y e)
tested false x y e = absurd cc

pub bigint_fits : (z : ℤ) → IsTrue (fits_bigint z) → FitsSigned w64 z
bigint_fits (pos n) h = record { sfits = ltb-true n (2 ^ 63) h }
bigint_fits (negsuc n) h = record { sfits = ltb-true n (2 ^ 63) h }

pub fits_bigint_so : (z : ℤ) → FitsSigned w64 z → IsTrue (fits_bigint z)
fits_bigint_so (pos n) h = lt-ltb n (2 ^ 63) h.sfits
fits_bigint_so (negsuc n) h = lt-ltb n (2 ^ 63) h.sfits

units_fit : (z : ℤ) → IsTrue (fits_signed128 z) → FitsSigned w128 z
units_fit (pos n) h = record { sfits = ltb-true n (2 ^ 127) h }
units_fit (negsuc n) h = record { sfits = ltb-true n (2 ^ 127) h }

pub fits_signed128_so : (z : ℤ) → FitsSigned w128 z → IsTrue (fits_signed128 z)
fits_signed128_so (pos n) h = lt-ltb n (2 ^ 127) h.sfits
fits_signed128_so (negsuc n) h = lt-ltb n (2 ^ 127) h.sfits

-- 64 bits as a number with a sign, and back
bits64_back : (n : ℕ) → n < 2 ^ 64 → (if fits_bigint (cast_signed w64 n) then Some (cast_unsigned w64 (cast_signed w64 n)) else None) ≡ Some n
bits64_back n lt = rw (fits_bigint_so (cast_signed w64 n) (sfits_to_z {w = w64} {n = n} (Fits-of_lt {w = w64} {n = n} lt))) (ap (λ (k : ℕ). Some k) (of_z-to_z w64 n lt))

signed64_back : (z : ℤ) (n : ℕ) → (if fits_bigint z then Some (cast_unsigned w64 z) else None) ≡ Some n → cast_signed w64 n ≡ z
signed64_back z n e =
    let k = tested (fits_bigint z) (cast_unsigned w64 z) n e in
    ap (cast_signed w64) (sym k.1) ∙ to_z-of_z w64 z (bigint_fits z k.0)

pub signed64_law : IsLawfulPart signed64_part
signed64_law =
    variant_law (cast_signed w64) (λ (z : ℤ). if fits_bigint z then Some (cast_unsigned w64 z) else None) number64_part number64_law
    (λ n h. bits64_back n (ltb-true n (2 ^ 64) (sym (number64_allows n) ∙ h))) signed64_back

-- ---- 128 bits

halves_back : (x : ℕ × ℕ) → x.0 < 2 ^ 64 → ((x.0 + x.1 * 2 ^ 64) % 2 ^ 64, (x.0 + x.1 * 2 ^ 64) / 2 ^ 64) ≡ x
halves_back x lt =
    let low : (x.0 + x.1 * 2 ^ 64) % 2 ^ 64 ≡ x.0 = omega arith in
    let high : (x.0 + x.1 * 2 ^ 64) / 2 ^ 64 ≡ x.1 = omega arith in
    rw (low, high) refl

whole_back : (n : ℕ) → n % 2 ^ 64 + n / 2 ^ 64 * 2 ^ 64 ≡ n
whole_back n = omega arith

number128_law : IsLawfulPart number128_part
number128_law =
    seen_as_law (λ (x : ℕ × ℕ). x.0 + x.1 * 2 ^ 64) (λ (n : ℕ). (n % 2 ^ 64, n / 2 ^ 64)) (number64_part ⨾ number64_part)
    (pair_law number64_part number64_part number64_law number64_law)
    (λ x h. let k : IsTrue (number64_part.allows x.0) × IsTrue (number64_part.allows x.1) = both (number64_part.allows x.0) (number64_part.allows x.1) h in
    halves_back x (ltb-true x.0 (2 ^ 64) (sym (number64_allows x.0) ∙ k.0)))
    (λ n h. whole_back n)

below128 : (n : ℕ) → IsTrue (number128_part.allows n) → n < 2 ^ 128
below128 n h =
    let k : IsTrue (number64_part.allows (n % 2 ^ 64)) × IsTrue (number64_part.allows (n / 2 ^ 64)) = both (number64_part.allows (n % 2 ^ 64)) (number64_part.allows (n / 2 ^ 64)) h in
    let high : n / 2 ^ 64 < 2 ^ 64 = ltb-true (n / 2 ^ 64) (2 ^ 64) (sym (number64_allows (n / 2 ^ 64)) ∙ k.1) in
    omega arith

bits128_back : (n : ℕ) → n < 2 ^ 128 → (if fits_signed128 (cast_signed w128 n) then Some (cast_unsigned w128 (cast_signed w128 n)) else None) ≡ Some n
bits128_back n lt = rw (fits_signed128_so (cast_signed w128 n) (sfits_to_z {w = w128} {n = n} (Fits-of_lt {w = w128} {n = n} lt))) (ap (λ (k : ℕ). Some k) (of_z-to_z w128 n lt))

signed128_back : (z : ℤ) (n : ℕ) → (if fits_signed128 z then Some (cast_unsigned w128 z) else None) ≡ Some n → cast_signed w128 n ≡ z
signed128_back z n e =
    let k = tested (fits_signed128 z) (cast_unsigned w128 z) n e in
    ap (cast_signed w128) (sym k.1) ∙ to_z-of_z w128 z (units_fit z k.0)

pub signed128_law : IsLawfulPart signed128_part
signed128_law =
    variant_law (cast_signed w128) (λ (z : ℤ). if fits_signed128 z then Some (cast_unsigned w128 z) else None) number128_part number128_law
    (λ n h. bits128_back n (below128 n h)) signed128_back

-- ---- values

bigint_back : (v : Value) (i : ℤ) → bigint_in v ≡ Some i → Int i ≡ v
bigint_back Null i e = absurd cc
bigint_back (Int j) i e = ap Int (sym (some_is j i e))
bigint_back (Dec d) i e = absurd cc
bigint_back (Txt t) i e = absurd cc

same_number : (s : ℕ) (d : Decimal) (z : ℤ) → (if d.scale == s then Some d.units else None) ≡ Some z → Dec (record { units = z; scale = s }) ≡ Dec d
same_number s d z e =
    let k = tested (d.scale == s) d.units z e in
    let scales : d.scale ≡ s = eqb-true d.scale s k.0 in
    rw (← scales, ← k.1) refl

units_back : (s : ℕ) (v : Value) (z : ℤ) → units_in s v ≡ Some z → Dec (record { units = z; scale = s }) ≡ v
units_back s Null z e = absurd cc
units_back s (Int i) z e = absurd cc
units_back s (Dec d) z e = same_number s d z e
units_back s (Txt t) z e = absurd cc

units_there : (s : ℕ) (z : ℤ) → units_in s (Dec (record { units = z; scale = s })) ≡ Some z
units_there s z = rw (eq-eqb s s refl) refl

text_back : (v : Value) (t : Bytes) → text_in v ≡ Some t → Txt t ≡ v
text_back Null t e = absurd cc
text_back (Int i) t e = absurd cc
text_back (Dec d) t e = absurd cc
text_back (Txt u) t e = ap Txt (sym (some_is u t e))

text_value_law : (ty : Ty) → IsLawfulPart (text_value_part ty)
text_value_law ty = checked_law (λ (v : Value). fits v ty) (variant_part Txt text_in text_part) (variant_law Txt text_in text_part text_law (λ t h. refl) text_back)

constant_value_law : (ty : Ty) → IsLawfulPart (constant_value_part ty)
constant_value_law BigInt = variant_law Int bigint_in signed64_part signed64_law (λ i h. refl) bigint_back
constant_value_law (DecimalOf p s) =
    checked_law (λ (v : Value). fits v (DecimalOf p s)) (variant_part (λ (z : ℤ). Dec (record { units = z; scale = s })) (units_in s) signed128_part)
    (variant_law (λ (z : ℤ). Dec (record { units = z; scale = s })) (units_in s) signed128_part signed128_law (λ z h. units_there s z) (units_back s))
constant_value_law (Char n) = text_value_law (Char n)
constant_value_law (Varchar n) = text_value_law (Varchar n)

pub constant_law : IsLawfulPart constant_line
unfolding constant_line
constant_law =
    seen_as_law (λ (x : Ty × Value). record { ty = x.0; value = x.1 }) (λ (c : Constant). (c.ty, c.value)) (then_part constant_type_part constant_value_part)
    (then_law constant_type_part constant_value_part (checked_law (λ (ty : Ty). not (is_char_type ty)) type_part type_law) constant_value_law)
    (λ a h. refl) (λ b h. refl)
