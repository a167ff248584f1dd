-- Operations whose results are no decimals.
use Rattle.std.proofs.Common.{◌≡◌, ℕ, zero, suc, Bool, true, false, [], ◌∷◌, Option, Some, None, Result, Ok, Err, ℤ, pos, negsuc, ◌+ℤ◌, ◌-ℤ◌, ◌*ℤ◌, neg_ℤ, unsigned_abs, int_rem, refl, subst, IsTrue, if◌then◌else◌, nat_le}
use Rattle.ds2_decimal.specs.Rounding.{is_zero}
use Rattle.std.specs.Option.{option_map_or}
use Rattle.std.specs.declared.cmp.Ordering.{Ordering}
use Rattle.ds2_base.specs.Bytes.{Bytes}
use Rattle.ds2_base.specs.Characters.{char_count}
use Rattle.ds2_value.specs.Functions.{is_null_of, length_of, trim_of, joined_texts, concat_of, part_of, substr_of}
use Rattle.ds2_value.specs.Texts.{cut_to, after_characters}
use Rattle.ds2_value.specs.Operations.{truth_value, or_null_at_fault, line_value, of_one, of_one_or_fault, of_two}
use Rattle.ds2_value.specs.Row.{Row}
use Rattle.ds2_value.specs.Types.{assign_of}
use Rattle.ds2_value.specs.Value.{fits_bigint, bigint_of, sum_of, difference_of, product_of, negative_of, absolute_of, remainder_of, holds_for, compared_as, compare_of, compared_of, truth_of, and_of, or_of, not_of, is_null}
use Rattle.ds2_value.specs.declared.comparison.Comparison.{Comparison}
use Rattle.ds2_value.specs.declared.fault.Fault.{Fault}
use Rattle.ds2_value.specs.declared.fault.Fault.TheVariants.{Overflow, DivideByZero, Range}
use Rattle.ds2_value.specs.declared.truth.Truth.{Truth}
use Rattle.ds2_value.specs.declared.truth.Truth.TheVariants.{Yes, No, Unknown}
use Rattle.ds2_value.specs.declared.ty.TheConstants.{TEXT_CHARACTERS}
use Rattle.ds2_value.specs.declared.ty.Ty.{Ty}
use Rattle.ds2_value.specs.declared.ty.Ty.TheVariants.{Char, Varchar}
use Rattle.ds2_value.specs.declared.value.Value.{Value}
use Rattle.ds2_value.specs.declared.value.Value.TheVariants.{Null, Int, Dec, Txt}
use Rattle.ds2_code.specs.InstructionTable.{of_operands}
use Rattle.ds2_code.specs.Scales.{is_scaled}

-- no decimal
abbrev pub is_plain : Value → Bool
is_plain (Dec d) = false
is_plain _ = true

-- no decimal, or a fault
abbrev pub is_plain_result : Result Value Fault → Bool
is_plain_result (Ok v) = is_plain v
is_plain_result (Err fault) = true

pub plain_scaled : (v : Value) (u : Ty) → IsTrue (is_plain v) → IsTrue (is_scaled v u)
plain_scaled Null u h = refl
plain_scaled (Int i) u h = refl
plain_scaled (Dec d) u h = absurd cc
plain_scaled (Txt t) u h = refl

pub plain_ok : (r : Result Value Fault) (v : Value) (u : Ty) → IsTrue (is_plain_result r) → r ≡ Ok v → IsTrue (is_scaled v u)
plain_ok r v u h e = plain_scaled v u (subst (λ z. IsTrue (is_plain_result z)) e h)

if_plain : (b : Bool) (x y : Result Value Fault) → IsTrue (is_plain_result x) → IsTrue (is_plain_result y) → IsTrue (is_plain_result (if b then x else y))
if_plain true x y h k = h
if_plain false x y h k = k

if_plain_value : (b : Bool) (x y : Value) → IsTrue (is_plain x) → IsTrue (is_plain y) → IsTrue (is_plain (if b then x else y))
if_plain_value true x y h k = h
if_plain_value false x y h k = k

bigint_plain : (z : ℤ) → IsTrue (is_plain_result (bigint_of z))
bigint_plain z = if_plain (fits_bigint z) (Ok (Int z)) (Err Overflow) refl refl

pub sum_plain : (vs : Row) → IsTrue (is_plain_result (of_two sum_of vs))
unfolding sum_of
sum_plain [] = refl
sum_plain (a ∷ []) = refl
sum_plain (Null ∷ b ∷ []) = refl
sum_plain (Dec d ∷ b ∷ []) = refl
sum_plain (Txt t ∷ b ∷ []) = refl
sum_plain (Int x ∷ Null ∷ []) = refl
sum_plain (Int x ∷ Dec d ∷ []) = refl
sum_plain (Int x ∷ Txt t ∷ []) = refl
sum_plain (Int x ∷ Int y ∷ []) = bigint_plain (x +ℤ y)
sum_plain (a ∷ b ∷ c ∷ vs) = refl

pub difference_plain : (vs : Row) → IsTrue (is_plain_result (of_two difference_of vs))
unfolding difference_of
difference_plain [] = refl
difference_plain (a ∷ []) = refl
difference_plain (Null ∷ b ∷ []) = refl
difference_plain (Dec d ∷ b ∷ []) = refl
difference_plain (Txt t ∷ b ∷ []) = refl
difference_plain (Int x ∷ Null ∷ []) = refl
difference_plain (Int x ∷ Dec d ∷ []) = refl
difference_plain (Int x ∷ Txt t ∷ []) = refl
difference_plain (Int x ∷ Int y ∷ []) = bigint_plain (x -ℤ y)
difference_plain (a ∷ b ∷ c ∷ vs) = refl

pub product_plain : (vs : Row) → IsTrue (is_plain_result (of_two product_of vs))
unfolding product_of
product_plain [] = refl
product_plain (a ∷ []) = refl
product_plain (Null ∷ b ∷ []) = refl
product_plain (Dec d ∷ b ∷ []) = refl
product_plain (Txt t ∷ b ∷ []) = refl
product_plain (Int x ∷ Null ∷ []) = refl
product_plain (Int x ∷ Dec d ∷ []) = refl
product_plain (Int x ∷ Txt t ∷ []) = refl
product_plain (Int x ∷ Int y ∷ []) = bigint_plain (x *ℤ y)
product_plain (a ∷ b ∷ c ∷ vs) = refl

pub remainder_plain : (vs : Row) → IsTrue (is_plain_result (of_two remainder_of vs))
unfolding remainder_of
remainder_plain [] = refl
remainder_plain (a ∷ []) = refl
remainder_plain (Null ∷ b ∷ []) = refl
remainder_plain (Dec d ∷ b ∷ []) = refl
remainder_plain (Txt t ∷ b ∷ []) = refl
remainder_plain (Int x ∷ Null ∷ []) = refl
remainder_plain (Int x ∷ Dec d ∷ []) = refl
remainder_plain (Int x ∷ Txt t ∷ []) = refl
remainder_plain (Int x ∷ Int y ∷ []) = if_plain (is_zero y) (Err DivideByZero) (Ok (Int (int_rem x y))) refl refl
remainder_plain (a ∷ b ∷ c ∷ vs) = refl

pub negative_plain : (vs : Row) → IsTrue (is_plain_result (of_one_or_fault negative_of vs))
unfolding negative_of
negative_plain [] = refl
negative_plain (Null ∷ []) = refl
negative_plain (Dec d ∷ []) = refl
negative_plain (Txt t ∷ []) = refl
negative_plain (Int x ∷ []) = bigint_plain (neg_ℤ x)
negative_plain (a ∷ b ∷ vs) = refl

pub absolute_plain : (vs : Row) → IsTrue (is_plain_result (of_one_or_fault absolute_of vs))
unfolding absolute_of
absolute_plain [] = refl
absolute_plain (Null ∷ []) = refl
absolute_plain (Dec d ∷ []) = refl
absolute_plain (Txt t ∷ []) = refl
absolute_plain (Int x ∷ []) = bigint_plain (pos (unsigned_abs x))
absolute_plain (a ∷ b ∷ vs) = refl

truth_plain : (t : Truth) → IsTrue (is_plain (truth_value t))
truth_plain Yes = refl
truth_plain No = refl
truth_plain Unknown = refl

compared_plain_as : (c : Comparison) (o : Option Ordering) → IsTrue (is_plain (compared_as c o))
compared_plain_as c None = refl
compared_plain_as c (Some order) = if_plain_value (holds_for c order) (Int (pos 1)) (Int (pos 0)) refl refl

pub compared_plain : (c : Comparison) (vs : Row) → IsTrue (is_plain (of_operands (compared_of c) vs))
unfolding compared_of
compared_plain c [] = refl
compared_plain c (a ∷ []) = refl
compared_plain c (a ∷ b ∷ []) = compared_plain_as c (compare_of a b)
compared_plain c (a ∷ b ∷ d ∷ vs) = refl

pub and_plain : (vs : Row) → IsTrue (is_plain (of_operands (λ a b. truth_value (and_of (truth_of a) (truth_of b))) vs))
and_plain [] = refl
and_plain (a ∷ []) = refl
and_plain (a ∷ b ∷ []) = truth_plain (and_of (truth_of a) (truth_of b))
and_plain (a ∷ b ∷ c ∷ vs) = refl

pub or_plain : (vs : Row) → IsTrue (is_plain (of_operands (λ a b. truth_value (or_of (truth_of a) (truth_of b))) vs))
or_plain [] = refl
or_plain (a ∷ []) = refl
or_plain (a ∷ b ∷ []) = truth_plain (or_of (truth_of a) (truth_of b))
or_plain (a ∷ b ∷ c ∷ vs) = refl

pub not_plain : (vs : Row) → IsTrue (is_plain (of_one (λ a. truth_value (not_of (truth_of a))) vs))
not_plain [] = refl
not_plain (a ∷ []) = truth_plain (not_of (truth_of a))
not_plain (a ∷ b ∷ vs) = refl

pub condition_plain : (vs : Row) → IsTrue (is_plain (of_one (λ a. truth_value (truth_of a)) vs))
condition_plain [] = refl
condition_plain (a ∷ []) = truth_plain (truth_of a)
condition_plain (a ∷ b ∷ vs) = refl

pub is_null_plain : (vs : Row) → IsTrue (is_plain (is_null_of vs))
is_null_plain [] = refl
is_null_plain (a ∷ []) = if_plain_value (is_null a) (Int (pos 1)) (Int (pos 0)) refl refl
is_null_plain (a ∷ b ∷ vs) = refl

pub length_plain : (vs : Row) → IsTrue (is_plain (length_of vs))
length_plain [] = refl
length_plain (Null ∷ []) = refl
length_plain (Int i ∷ []) = refl
length_plain (Dec d ∷ []) = refl
length_plain (Txt t ∷ []) = refl
length_plain (Null ∷ b ∷ vs) = refl
length_plain (Int i ∷ b ∷ vs) = refl
length_plain (Dec d ∷ b ∷ vs) = refl
length_plain (Txt t ∷ b ∷ vs) = refl

pub trim_plain : (vs : Row) → IsTrue (is_plain (trim_of vs))
trim_plain [] = refl
trim_plain (Null ∷ []) = refl
trim_plain (Int i ∷ []) = refl
trim_plain (Dec d ∷ []) = refl
trim_plain (Txt t ∷ []) = refl
trim_plain (Null ∷ b ∷ vs) = refl
trim_plain (Int i ∷ b ∷ vs) = refl
trim_plain (Dec d ∷ b ∷ vs) = refl
trim_plain (Txt t ∷ b ∷ vs) = refl

joined_plain : (o : Option Bytes) → IsTrue (is_plain (option_map_or (λ bytes. Txt (cut_to TEXT_CHARACTERS bytes)) o Null))
joined_plain None = refl
joined_plain (Some bytes) = refl

pub concat_plain : (vs : Row) → IsTrue (is_plain (concat_of vs))
concat_plain vs = joined_plain (joined_texts vs)

part_plain : (t : Bytes) (i k : ℤ) → IsTrue (is_plain_result (part_of t i k))
part_plain t (pos zero) k = refl
part_plain t (pos (suc i)) (pos k) = if_plain (nat_le i (char_count t)) (Ok (Txt (cut_to k (after_characters i t)))) (Err Range) refl refl
part_plain t (pos (suc i)) (negsuc k) = refl
part_plain t (negsuc i) k = refl

pub substr_plain : (vs : Row) → IsTrue (is_plain_result (substr_of vs))
substr_plain [] = refl
substr_plain (Null ∷ vs) = refl
substr_plain (Int i ∷ vs) = refl
substr_plain (Dec d ∷ vs) = refl
substr_plain (Txt t ∷ []) = refl
substr_plain (Txt t ∷ Null ∷ vs) = refl
substr_plain (Txt t ∷ Dec d ∷ vs) = refl
substr_plain (Txt t ∷ Txt u ∷ vs) = refl
substr_plain (Txt t ∷ Int i ∷ []) = part_plain t i (pos (char_count t))
substr_plain (Txt t ∷ Int i ∷ Null ∷ vs) = refl
substr_plain (Txt t ∷ Int i ∷ Dec d ∷ vs) = refl
substr_plain (Txt t ∷ Int i ∷ Txt u ∷ vs) = refl
substr_plain (Txt t ∷ Int i ∷ Int k ∷ []) = part_plain t i k
substr_plain (Txt t ∷ Int i ∷ Int k ∷ v ∷ vs) = refl

pub padded_plain : (n : ℕ) (vs : Row) → IsTrue (is_plain (of_one (λ v. or_null_at_fault (assign_of v (Char n))) vs))
padded_plain n [] = refl
padded_plain n (Null ∷ []) = refl
padded_plain n (Int i ∷ []) = refl
padded_plain n (Dec d ∷ []) = refl
padded_plain n (Txt t ∷ []) = refl
padded_plain n (a ∷ b ∷ vs) = refl

pub cut_plain : (n : ℕ) (vs : Row) → IsTrue (is_plain (of_one (λ v. or_null_at_fault (assign_of v (Varchar n))) vs))
cut_plain n [] = refl
cut_plain n (Null ∷ []) = refl
cut_plain n (Int i ∷ []) = refl
cut_plain n (Dec d ∷ []) = refl
cut_plain n (Txt t ∷ []) = refl
cut_plain n (a ∷ b ∷ vs) = refl

pub shown_plain : (vs : Row) → IsTrue (is_plain (of_one line_value vs))
shown_plain [] = refl
shown_plain (a ∷ []) = refl
shown_plain (a ∷ b ∷ vs) = refl
