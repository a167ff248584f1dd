-- Numbers with signs that are put behind bytes, and decimals that do not fit.
use Rattle.std.proofs.Common.{◌≡◌, ℕ, ℤ, ◌/◌, ◌%◌, ◌^◌, ◌<◌, ◌≤◌, Bool, true, false, cond, ◌&&◌, ◌==◌, IsTrue, [], ◌++◌, Option, Some, None, nat_lt, nat_le, FitsSigned, unsigned_abs, refl, sym, ap, ◌∙◌, append_assoc, lt-ltb, ltb-false, le-ltb, leb-true, le-leb, arith, if◌then◌else◌}
use Rattle.std.specs.Int.{w64, w128, cast_unsigned, to_le_bytes}
use Rattle.std.specs.Option.{option_map_or}
use Rattle.std.proofs.Math.Facts.{Fits-of_z, Fits-lt-pow}
use Rattle.ds2_base.specs.Bytes.{Bytes}
use Rattle.ds2_decimal.specs.Arithmetic.{new}
use Rattle.ds2_decimal.specs.Decimal.{Decimal, is_within}
use Rattle.ds2_decimal.specs.declared.dec.TheConstants.{MOST_DIGITS}
use Rattle.ds2_decimal.proofs.TenPowers.{pow-ten_le}
use Rattle.ds2_value.specs.Types.{in_bounds, fits, is_from_one}
use Rattle.ds2_value.specs.Value.{fits_bigint}
use Rattle.ds2_value.specs.declared.ty.Ty.TheVariants.{Decimal as DecimalOf}
use Rattle.ds2_value.specs.declared.value.Value.TheVariants.{Dec}
use Rattle.ds2_object_words.specs.Parts.{number64_part, Writes}
use Rattle.ds2_object_words.specs.CodeParts.{signed64_part, fits_signed128, signed128_part}
use Rattle.ds2_object_words.proofs.PartLemmas.{both, and_true}
use Rattle.ds2_object_words.proofs.ConstantLemmas.{fits_bigint_so, fits_signed128_so}

bits_of64 : (z : ℤ) → FitsSigned w64 z → (if fits_bigint z then Some (cast_unsigned w64 z) else None) ≡ Some (cast_unsigned w64 z)
bits_of64 z f = rw (fits_bigint_so z f) refl

-- 64 bits that were put behind bytes
pub signed64_written : {before after bytes : Bytes} {z : ℤ} → FitsSigned w64 z → bytes ≡ to_le_bytes w64 (cast_unsigned w64 z) → after ≡ before ++ bytes → Writes signed64_part before z after
unfolding number64_part
signed64_written {before} {after} {bytes} {z} f same is = record {
  bytes = is ∙ ap (λ (t : Bytes). before ++ t) same ∙ ap (λ (o : Option ℕ). before ++ option_map_or (to_le_bytes w64) o []) (sym (bits_of64 z f));
  allowed = ap (λ (o : Option ℕ). option_map_or (λ (n : ℕ). nat_lt n (2 ^ 64)) o false) (bits_of64 z f)
      ∙ lt-ltb (cast_unsigned w64 z) (2 ^ 64) (Fits-lt-pow {w = w64} {n = cast_unsigned w64 z} (Fits-of_z {w = w64} {z = z} f));
}

bits_of128 : (z : ℤ) → FitsSigned w128 z → (if fits_signed128 z then Some (cast_unsigned w128 z) else None) ≡ Some (cast_unsigned w128 z)
bits_of128 z f = rw (fits_signed128_so z f) refl

few_halves : (n : ℕ) → n < 2 ^ 128 → IsTrue (nat_lt (n % 2 ^ 64) (2 ^ 64) && nat_lt (n / 2 ^ 64) (2 ^ 64))
few_halves n lt = and_true (nat_lt (n % 2 ^ 64) (2 ^ 64)) (nat_lt (n / 2 ^ 64) (2 ^ 64)) (lt-ltb (n % 2 ^ 64) (2 ^ 64) (omega arith)) (lt-ltb (n / 2 ^ 64) (2 ^ 64) (omega arith))

-- 128 bits that were put behind bytes, half by half
pub signed128_written : {before mid after low high : Bytes} {z : ℤ} {n : ℕ} → FitsSigned w128 z → n ≡ cast_unsigned w128 z → low ≡ to_le_bytes w64 (n % 2 ^ 64)
    → high ≡ to_le_bytes w64 (n / 2 ^ 64) → mid ≡ before ++ low → after ≡ mid ++ high → Writes signed128_part before z after
unfolding number64_part
signed128_written {before} {mid} {after} {low} {high} {z} {n} f is low-is high-is first second = record {
  bytes = second ∙ ap (λ (t : Bytes). mid ++ t) high-is ∙ ap (λ (t : Bytes). t ++ to_le_bytes w64 (n / 2 ^ 64)) first
      ∙ ap (λ (t : Bytes). (before ++ t) ++ to_le_bytes w64 (n / 2 ^ 64)) low-is
      ∙ append_assoc before (to_le_bytes w64 (n % 2 ^ 64)) (to_le_bytes w64 (n / 2 ^ 64))
      ∙ ap (λ (k : ℕ). before ++ (to_le_bytes w64 (k % 2 ^ 64) ++ to_le_bytes w64 (k / 2 ^ 64))) is
      ∙ ap (λ (o : Option ℕ). before ++ option_map_or (λ (k : ℕ). to_le_bytes w64 (k % 2 ^ 64) ++ to_le_bytes w64 (k / 2 ^ 64)) o []) (sym (bits_of128 z f));
  allowed = ap (λ (o : Option ℕ). option_map_or (λ (k : ℕ). nat_lt (k % 2 ^ 64) (2 ^ 64) && nat_lt (k / 2 ^ 64) (2 ^ 64)) o false) (bits_of128 z f)
      ∙ few_halves (cast_unsigned w128 z) (Fits-lt-pow {w = w128} {n = cast_unsigned w128 z} (Fits-of_z {w = w128} {z = z} f));
}

-- ---- decimals

no_decimal : (b : Bool) (d : Decimal) → cond b (Some d) None ≡ None → b ≡ false
no_decimal true d e = absurd cc
no_decimal false d e = refl

not_within : (a b : Bool) → (a && b) ≡ false → IsTrue b → a ≡ false
not_within true b e h = absurd (let k : false ≡ true = sym e ∙ h in cc)
not_within false b e h = refl

-- units that no decimal has fit no type in bounds
pub units_unfit : (units : ℤ) (p s : ℕ) → IsTrue (in_bounds (DecimalOf p s)) → new units s ≡ None → is_within p units ≡ false
units_unfit units p s bounds e =
    let b : IsTrue (is_from_one p MOST_DIGITS) × IsTrue (nat_le s p) = both (is_from_one p MOST_DIGITS) (nat_le s p) bounds in
    let k : IsTrue (nat_le 1 p) × IsTrue (nat_le p MOST_DIGITS) = both (nat_le 1 p) (nat_le p MOST_DIGITS) b.0 in
    let most : p ≤ 38 = leb-true p 38 k.1 in
    let scale : s ≤ p = leb-true s p b.1 in
    let refused : (is_within MOST_DIGITS units && nat_le s MOST_DIGITS) ≡ false = no_decimal (is_within MOST_DIGITS units && nat_le s MOST_DIGITS) (record { units = units; scale = s }) e in
    let far : is_within MOST_DIGITS units ≡ false = not_within (is_within MOST_DIGITS units) (nat_le s MOST_DIGITS) refused (le-leb s 38 (omega arith)) in
    let large : 10 ^ 38 ≤ unsigned_abs units = ltb-false (unsigned_abs units) (10 ^ 38) far in
    let tens : 10 ^ p ≤ 10 ^ 38 = pow-ten_le p 38 most in
    le-ltb (unsigned_abs units) (10 ^ p) (omega arith)

both_false : (a b : Bool) → b ≡ false → (a && b) ≡ false
both_false true b h = h
both_false false b h = refl

pub unfit_at : (p s : ℕ) (units : ℤ) → is_within p units ≡ false → fits (Dec (record { units = units; scale = s })) (DecimalOf p s) ≡ false
unfit_at p s units far = both_false (s == s) (is_within p units) far
