-- Numbers: what operations on them give is of the types that valid code knows.
use Rattle.std.proofs.Common.{◌≡◌, ℕ, zero, suc, ◌+◌, ◌^◌, ◌<◌, ◌≤◌, max, Bool, true, false, List, [], ◌∷◌, Option, Some, None, Result, Ok, Err, ℤ, pos, negsuc, ◌+ℤ◌, ◌-ℤ◌, ◌*ℤ◌, neg_ℤ, unsigned_abs, refl, sym, ap, ◌∙◌, subst, arith}
use Rattle.std.specs.Prelude.{IsTrue, if◌then◌else◌, nat_le, nat_lt, int_rem, ◌==◌, ◌/◌, ◌%◌, fold}
use Rattle.std.specs.Option.{option_map_or}
use Rattle.std.specs.Ordering.{is_lt, is_gt}
use Rattle.std.specs.declared.cmp.Ordering.{Ordering}
use Rattle.std.proofs.Math.Nat.{div-le_self, mod-le, pow-le-pow_right}
use Rattle.std.proofs.lemmas.Bool.{leb-true, ltb-true, lt-ltb, eqb-true, eq-eqb}
use Rattle.ds2_decimal.specs.Arithmetic as decimal
use Rattle.ds2_decimal.specs.Decimal.{Decimal, is_within}
use Rattle.ds2_decimal.specs.Rounding.{is_zero, round, round_down}
use Rattle.ds2_decimal.specs.declared.dec.TheConstants.{MOST_DIGITS}
use Rattle.ds2_decimal.specs.declared.dec.DecFault.{DecFault}
use Rattle.ds2_decimal.specs.declared.dec.DecFault.TheVariants.{Overflow, DivideByZero}
use Rattle.ds2_value.specs.Functions.{is_null_of, first_of, lesser_of, greater_of}
use Rattle.ds2_value.specs.Keeping.{IsHeld, AssignedFits, FittingIsHeld}
use Rattle.ds2_value.specs.Operations.{of_decimals, of_decimal, truth_value, widened, or_null_at_fault, of_one, of_one_or_fault, of_two}
use Rattle.ds2_value.specs.Order.{key_order}
use Rattle.ds2_value.specs.Row.{Row}
use Rattle.ds2_value.specs.Types.{in_bounds, is_from_one, fits, assign_of, decimal_value}
use Rattle.ds2_value.specs.Value.{fits_bigint, bigint_of, sum_of, difference_of, product_of, negative_of, absolute_of, remainder_of, holds_for, compared_as, compare_of, compared_of, truth_of, and_of, or_of, not_of, is_null}
use Rattle.ds2_value.specs.declared.comparison.Comparison.{Comparison}
use Rattle.ds2_value.specs.declared.fault.Fault.{Fault}
use Rattle.ds2_value.specs.declared.fault.Fault.TheVariants as fault
use Rattle.ds2_value.specs.declared.truth.Truth.{Truth}
use Rattle.ds2_value.specs.declared.truth.Truth.TheVariants.{Yes, No, Unknown}
use Rattle.ds2_value.specs.declared.ty.Ty.{Ty}
use Rattle.ds2_value.specs.declared.ty.Ty.TheVariants.{BigInt, Decimal as DecimalOf, Char, Varchar}
use Rattle.ds2_value.specs.declared.value.Value.{Value}
use Rattle.ds2_value.specs.declared.value.Value.TheVariants.{Null, Int, Dec, Txt}
use Rattle.ds2_code.specs.InstructionTable.{of_operands}
use Rattle.ds2_value.specs.ValueFunctions.{decimal_of_scale, by_scales, as_operand}
use Rattle.ds2_code.specs.Fitting.{is_of_type, AreOfTypes}
use Rattle.ds2_code.proofs.FittingLists.{both, and_true, if_some, when_true, some_is, value_fits, type_bounds}

-- ---- BIGINT

-- a BIGINT, or a fault
abbrev pub is_bigint_result : Result Value Fault → Bool
is_bigint_result (Ok v) = fits v BigInt
is_bigint_result (Err fault) = true

pub bigint_ok : (r : Result Value Fault) (v : Value) → IsTrue (is_bigint_result r) → r ≡ Ok v → fits v BigInt ≡ true
bigint_ok r v h e = subst (λ z. IsTrue (is_bigint_result z)) e h

if_value : (b : Bool) (x y : Value) (t : Ty) → fits x t ≡ true → fits y t ≡ true → fits (if b then x else y) t ≡ true
if_value true x y t h k = h
if_value false x y t h k = k

bigint_fits : (z : ℤ) → IsTrue (is_bigint_result (bigint_of z))
bigint_fits z = of (fits_bigint z) refl
  where
    of : (b : Bool) → fits_bigint z ≡ b → IsTrue (is_bigint_result (if b then Ok (Int z) else Err fault.Overflow))
    of true e = e
    of false e = refl

int_of_type : (x : ℤ) (t : Ty) → IsTrue (is_of_type (Int x) t) → fits_bigint x ≡ true
int_of_type x BigInt h = value_fits (Int x) BigInt h
int_of_type x (DecimalOf p s) h = absurd (let e : false ≡ true = h in cc)
int_of_type x (Char n) h = absurd (let e : false ≡ true = h in cc)
int_of_type x (Varchar n) h = absurd (let e : false ≡ true = h in cc)

negative_small : (r n : ℕ) → r ≤ suc n → n < 2 ^ 63 → fits_bigint (neg_ℤ (pos r)) ≡ true
negative_small zero n h k = refl
negative_small (suc r) n h k = lt-ltb r (2 ^ 63) (omega (arith, h, k))

remainder_small : (x y : ℤ) → fits_bigint x ≡ true → fits_bigint (int_rem x y) ≡ true
remainder_small (pos n) y h = let less = mod-le n (unsigned_abs y) in let few = ltb-true n (2 ^ 63) h in lt-ltb (n % unsigned_abs y) (2 ^ 63) (omega (arith, less, few))
remainder_small (negsuc n) y h = negative_small (suc n % unsigned_abs y) n (mod-le (suc n) (unsigned_abs y)) (ltb-true n (2 ^ 63) h)

pub sum_fits : (vs : Row) (ts : List Ty) → AreOfTypes vs ts → IsTrue (is_bigint_result (of_two sum_of vs))
unfolding sum_of
sum_fits [] ts h = refl
sum_fits (a ∷ []) ts h = refl
sum_fits (Null ∷ b ∷ []) ts h = refl
sum_fits (Dec d ∷ b ∷ []) ts h = refl
sum_fits (Txt t ∷ b ∷ []) ts h = refl
sum_fits (Int x ∷ Null ∷ []) ts h = refl
sum_fits (Int x ∷ Dec d ∷ []) ts h = refl
sum_fits (Int x ∷ Txt t ∷ []) ts h = refl
sum_fits (Int x ∷ Int y ∷ []) ts h = bigint_fits (x +ℤ y)
sum_fits (a ∷ b ∷ c ∷ vs) ts h = refl

pub difference_fits : (vs : Row) (ts : List Ty) → AreOfTypes vs ts → IsTrue (is_bigint_result (of_two difference_of vs))
unfolding difference_of
difference_fits [] ts h = refl
difference_fits (a ∷ []) ts h = refl
difference_fits (Null ∷ b ∷ []) ts h = refl
difference_fits (Dec d ∷ b ∷ []) ts h = refl
difference_fits (Txt t ∷ b ∷ []) ts h = refl
difference_fits (Int x ∷ Null ∷ []) ts h = refl
difference_fits (Int x ∷ Dec d ∷ []) ts h = refl
difference_fits (Int x ∷ Txt t ∷ []) ts h = refl
difference_fits (Int x ∷ Int y ∷ []) ts h = bigint_fits (x -ℤ y)
difference_fits (a ∷ b ∷ c ∷ vs) ts h = refl

pub product_fits : (vs : Row) (ts : List Ty) → AreOfTypes vs ts → IsTrue (is_bigint_result (of_two product_of vs))
unfolding product_of
product_fits [] ts h = refl
product_fits (a ∷ []) ts h = refl
product_fits (Null ∷ b ∷ []) ts h = refl
product_fits (Dec d ∷ b ∷ []) ts h = refl
product_fits (Txt t ∷ b ∷ []) ts h = refl
product_fits (Int x ∷ Null ∷ []) ts h = refl
product_fits (Int x ∷ Dec d ∷ []) ts h = refl
product_fits (Int x ∷ Txt t ∷ []) ts h = refl
product_fits (Int x ∷ Int y ∷ []) ts h = bigint_fits (x *ℤ y)
product_fits (a ∷ b ∷ c ∷ vs) ts h = refl

remainder_by : (b : Bool) (z : ℤ) → fits_bigint z ≡ true → IsTrue (is_bigint_result (if b then Err fault.DivideByZero else Ok (Int z)))
remainder_by true z h = refl
remainder_by false z h = h

pub remainder_fits : (vs : Row) (ts : List Ty) → AreOfTypes vs ts → IsTrue (is_bigint_result (of_two remainder_of vs))
unfolding remainder_of
remainder_fits [] ts h = refl
remainder_fits (a ∷ []) ts h = refl
remainder_fits (Null ∷ b ∷ []) ts h = refl
remainder_fits (Dec d ∷ b ∷ []) ts h = refl
remainder_fits (Txt t ∷ b ∷ []) ts h = refl
remainder_fits (Int x ∷ Null ∷ []) ts h = refl
remainder_fits (Int x ∷ Dec d ∷ []) ts h = refl
remainder_fits (Int x ∷ Txt t ∷ []) ts h = refl
remainder_fits (Int x ∷ Int y ∷ []) [] h = absurd h
remainder_fits (Int x ∷ Int y ∷ []) (t ∷ ts) h = remainder_by (is_zero y) (int_rem x y) (remainder_small x y (int_of_type x t h.0))
remainder_fits (a ∷ b ∷ c ∷ vs) ts h = refl

pub negative_fits : (vs : Row) (ts : List Ty) → AreOfTypes vs ts → IsTrue (is_bigint_result (of_one_or_fault negative_of vs))
unfolding negative_of
negative_fits [] ts h = refl
negative_fits (Null ∷ []) ts h = refl
negative_fits (Dec d ∷ []) ts h = refl
negative_fits (Txt t ∷ []) ts h = refl
negative_fits (Int x ∷ []) ts h = bigint_fits (neg_ℤ x)
negative_fits (a ∷ b ∷ vs) ts h = refl

pub absolute_fits : (vs : Row) (ts : List Ty) → AreOfTypes vs ts → IsTrue (is_bigint_result (of_one_or_fault absolute_of vs))
unfolding absolute_of
absolute_fits [] ts h = refl
absolute_fits (Null ∷ []) ts h = refl
absolute_fits (Dec d ∷ []) ts h = refl
absolute_fits (Txt t ∷ []) ts h = refl
absolute_fits (Int x ∷ []) ts h = bigint_fits (pos (unsigned_abs x))
absolute_fits (a ∷ b ∷ vs) ts h = refl

-- ---- comparisons and conditions

truth_fits : (t : Truth) → fits (truth_value t) BigInt ≡ true
truth_fits Yes = refl
truth_fits No = refl
truth_fits Unknown = refl

compared_fits_as : (c : Comparison) (o : Option Ordering) → fits (compared_as c o) BigInt ≡ true
compared_fits_as c None = refl
compared_fits_as c (Some order) = if_value (holds_for c order) (Int (pos 1)) (Int (pos 0)) BigInt refl refl

pub compared_fits : (c : Comparison) (vs : Row) (ts : List Ty) → AreOfTypes vs ts → fits (of_operands (compared_of c) vs) BigInt ≡ true
unfolding compared_of
compared_fits c [] ts h = refl
compared_fits c (a ∷ []) ts h = refl
compared_fits c (a ∷ b ∷ []) ts h = compared_fits_as c (compare_of a b)
compared_fits c (a ∷ b ∷ d ∷ vs) ts h = refl

pub and_fits : (vs : Row) (ts : List Ty) → AreOfTypes vs ts → fits (of_operands (λ a b. truth_value (and_of (truth_of a) (truth_of b))) vs) BigInt ≡ true
and_fits [] ts h = refl
and_fits (a ∷ []) ts h = refl
and_fits (a ∷ b ∷ []) ts h = truth_fits (and_of (truth_of a) (truth_of b))
and_fits (a ∷ b ∷ c ∷ vs) ts h = refl

pub or_fits : (vs : Row) (ts : List Ty) → AreOfTypes vs ts → fits (of_operands (λ a b. truth_value (or_of (truth_of a) (truth_of b))) vs) BigInt ≡ true
or_fits [] ts h = refl
or_fits (a ∷ []) ts h = refl
or_fits (a ∷ b ∷ []) ts h = truth_fits (or_of (truth_of a) (truth_of b))
or_fits (a ∷ b ∷ c ∷ vs) ts h = refl

pub not_fits : (vs : Row) (ts : List Ty) → AreOfTypes vs ts → fits (of_one (λ a. truth_value (not_of (truth_of a))) vs) BigInt ≡ true
not_fits [] ts h = refl
not_fits (a ∷ []) ts h = truth_fits (not_of (truth_of a))
not_fits (a ∷ b ∷ vs) ts h = refl

pub condition_fits : (vs : Row) (ts : List Ty) → AreOfTypes vs ts → fits (of_one (λ a. truth_value (truth_of a)) vs) BigInt ≡ true
condition_fits [] ts h = refl
condition_fits (a ∷ []) ts h = truth_fits (truth_of a)
condition_fits (a ∷ b ∷ vs) ts h = refl

pub is_null_fits : (vs : Row) (ts : List Ty) → AreOfTypes vs ts → fits (is_null_of vs) BigInt ≡ true
is_null_fits [] ts h = refl
is_null_fits (a ∷ []) ts h = if_value (is_null a) (Int (pos 1)) (Int (pos 0)) BigInt refl refl
is_null_fits (a ∷ b ∷ vs) ts h = refl

-- ---- decimals

-- a decimal of 38 digits at a scale
abbrev pub HasScale : ℕ → Decimal → Type 0
HasScale s d = (d.scale ≡ s) × (is_within MOST_DIGITS d.units ≡ true)

within_by : (b : Bool) (z : ℤ) (s : ℕ) (d : Decimal) → is_within MOST_DIGITS z ≡ b → (if b then Ok (record { units = z; scale = s }) else Err Overflow) ≡ Ok d → HasScale s d
within_by true z s d e h = let w : record { units = z; scale = s } ≡ d = cc in subst (λ (x : Decimal). HasScale s x) w (refl, e)
within_by false z s d e h = absurd cc

within_scale : (z : ℤ) (s : ℕ) (d : Decimal) → decimal.within MOST_DIGITS z s ≡ Ok d → HasScale s d
within_scale z s d h = within_by (is_within MOST_DIGITS z) z s d refl h

else_ok : (b : Bool) (r : Result Decimal DecFault) (d : Decimal) → (if b then Err DivideByZero else r) ≡ Ok d → r ≡ Ok d
else_ok true r d h = absurd cc
else_ok false r d h = h

aligned_scale_of : (f : ℤ → ℤ → ℤ) (s : ℕ) (o : Option (ℤ × ℤ)) (d : Decimal) → option_map_or (λ (p : ℤ × ℤ). decimal.within MOST_DIGITS (f p.0 p.1) s) o (Err Overflow) ≡ Ok d → HasScale s d
aligned_scale_of f s None d h = absurd cc
aligned_scale_of f s (Some p) d h = within_scale (f p.0 p.1) s d h

aligned_scale : (f : ℤ → ℤ → ℤ) (a b d : Decimal) → decimal.on_aligned f a b ≡ Ok d → HasScale (max a.scale b.scale) d
aligned_scale f a b d h = aligned_scale_of f (decimal.common_scale a b) (decimal.aligned a b) d h

pub sum_scale : (a b d : Decimal) → decimal.add a b ≡ Ok d → HasScale (max a.scale b.scale) d
sum_scale a b d h = aligned_scale (λ x y. x +ℤ y) a b d h

pub difference_scale : (a b d : Decimal) → decimal.sub a b ≡ Ok d → HasScale (max a.scale b.scale) d
difference_scale a b d h = aligned_scale (λ x y. x -ℤ y) a b d h

pub product_scale : (a b d : Decimal) → decimal.mul a b ≡ Ok d → HasScale (a.scale + b.scale) d
product_scale a b d h = within_scale (a.units *ℤ b.units) (a.scale + b.scale) d h

pub quotient_scale_is : (a b d : Decimal) → decimal.div a b ≡ Ok d → HasScale (max 6 (max a.scale b.scale)) d
quotient_scale_is a b d h =
    let units = round (decimal.numerator a b) (unsigned_abs b.units) in
    within_scale units (decimal.quotient_scale a b) d (else_ok (is_zero b.units) (decimal.within MOST_DIGITS units (decimal.quotient_scale a b)) d h)

pub remainder_scale : (a b d : Decimal) → decimal.modulo a b ≡ Ok d → HasScale (max a.scale b.scale) d
remainder_scale a b d h = aligned_scale int_rem a b d (else_ok (is_zero b.units) (decimal.on_aligned int_rem a b) d h)

-- ---- as operations on values

pub null_result : (v : Value) (u : Ty) → ◌≡◌ {A = Result Value Fault} (Ok Null) (Ok v) → fits v u ≡ true
null_result v u h = let e : Null ≡ v = cc in subst (λ z. fits z u ≡ true) e refl

decimal_is : (r : Result Decimal DecFault) (v : Value) → decimal_value r ≡ Ok v → (d : Decimal) × (r ≡ Ok d) × (v ≡ Dec d)
decimal_is (Ok d) v h = (d, refl, cc)
decimal_is (Err e) v h = absurd cc

-- the type of a decimal
decimal_type : (a : Decimal) (t : Ty) → IsTrue (is_of_type (Dec a) t) → (p : ℕ) × (t ≡ DecimalOf p a.scale) × (is_within p a.units ≡ true) × (p ≤ 38)
decimal_type a BigInt h = absurd (let e : false ≡ true = h in cc)
decimal_type a (Char n) h = absurd (let e : false ≡ true = h in cc)
decimal_type a (Varchar n) h = absurd (let e : false ≡ true = h in cc)
decimal_type a (DecimalOf p s) h =
    let k = both (a.scale == s) (is_within p a.units) (value_fits (Dec a) (DecimalOf p s) h) in
    let b = both (is_from_one p MOST_DIGITS) (nat_le s p) (type_bounds (Dec a) (DecimalOf p s) h) in
    let c = both (nat_le 1 p) (nat_le p MOST_DIGITS) b.0 in
    (p, ap (λ z. DecimalOf p z) (sym (eqb-true a.scale s k.0)), k.1, leb-true p 38 c.1)

-- the types of two decimals
two_scales : (a b : Decimal) (ts : List Ty) → AreOfTypes (Dec a ∷ Dec b ∷ []) ts → (p : ℕ) × (q : ℕ) × (ts ≡ DecimalOf p a.scale ∷ DecimalOf q b.scale ∷ [])
two_scales a b [] h = absurd h
two_scales a b (t ∷ []) h = absurd h.1
two_scales a b (t ∷ u ∷ []) h =
    let k = decimal_type a t h.0 in
    let l = decimal_type b u h.1.0 in
    (k.0, l.0, ap (λ z. z ∷ u ∷ []) k.1 ∙ ap (λ z. DecimalOf k.0 a.scale ∷ z ∷ []) l.1)
two_scales a b (t ∷ u ∷ w ∷ ts) h = absurd h.1.1

-- 38 digits at a scale that is in bounds are of the type
scaled_fits : (d : Decimal) (s : ℕ) → HasScale s d → fits (Dec d) (DecimalOf 38 s) ≡ true
scaled_fits d s h = and_true (d.scale == s) (is_within 38 d.units) (eq-eqb d.scale s h.0) h.1

module _ (f : Decimal → Decimal → Result Decimal DecFault) (scale : ℕ → ℕ → ℕ) (made : (a b d : Decimal) → f a b ≡ Ok d → HasScale (scale a.scale b.scale) d) where
  two_fit : (a b : Decimal) (v : Value) (ts : List Ty) (u : Ty) → decimal_value (f a b) ≡ Ok v → AreOfTypes (Dec a ∷ Dec b ∷ []) ts → by_scales scale ts ≡ Some u → fits v u ≡ true
  two_fit a b v ts u h k g =
      let d = decimal_is (f a b) v h in
      let s = two_scales a b ts k in
      let n = scale a.scale b.scale in
      let at : decimal_of_scale n ≡ Some u = sym (ap (by_scales scale) s.2) ∙ g in
      let is : DecimalOf 38 n ≡ u = some_is (DecimalOf 38 n) u (if_some (nat_le n 38) (Some (DecimalOf 38 n)) u at) in
      subst (λ z. fits z u ≡ true) (sym d.2) (subst (λ z. fits (Dec d.0) z ≡ true) is (scaled_fits d.0 n (made a b d.0 d.1)))

  pub of_decimals_fits : (vs : Row) (v : Value) (ts : List Ty) (u : Ty) → of_two (of_decimals f) vs ≡ Ok v → AreOfTypes vs ts → by_scales scale ts ≡ Some u → fits v u ≡ true
  of_decimals_fits [] v ts u h k g = null_result v u h
  of_decimals_fits (a ∷ []) v ts u h k g = null_result v u h
  of_decimals_fits (Null ∷ b ∷ []) v ts u h k g = null_result v u h
  of_decimals_fits (Int i ∷ b ∷ []) v ts u h k g = null_result v u h
  of_decimals_fits (Txt t ∷ b ∷ []) v ts u h k g = null_result v u h
  of_decimals_fits (Dec a ∷ Null ∷ []) v ts u h k g = null_result v u h
  of_decimals_fits (Dec a ∷ Int i ∷ []) v ts u h k g = null_result v u h
  of_decimals_fits (Dec a ∷ Txt t ∷ []) v ts u h k g = null_result v u h
  of_decimals_fits (Dec a ∷ Dec b ∷ []) v ts u h k g = two_fit a b v ts u h k g
  of_decimals_fits (a ∷ b ∷ c ∷ vs) v ts u h k g = null_result v u h

-- the type of such an operation's result is in bounds
pub scales_bounds : (scale : ℕ → ℕ → ℕ) (ts : List Ty) (u : Ty) → by_scales scale ts ≡ Some u → in_bounds u ≡ true
scales_bounds scale [] u h = absurd cc
scales_bounds scale (t ∷ []) u h = one t h
  where
    one : (t : Ty) → by_scales scale (t ∷ []) ≡ Some u → in_bounds u ≡ true
    one BigInt h = absurd cc
    one (DecimalOf p s) h = absurd cc
    one (Char n) h = absurd cc
    one (Varchar n) h = absurd cc
scales_bounds scale (BigInt ∷ w ∷ ts) u h = absurd cc
scales_bounds scale (Char n ∷ w ∷ ts) u h = absurd cc
scales_bounds scale (Varchar n ∷ w ∷ ts) u h = absurd cc
scales_bounds scale (DecimalOf p s ∷ BigInt ∷ ts) u h = absurd cc
scales_bounds scale (DecimalOf p s ∷ Char n ∷ ts) u h = absurd cc
scales_bounds scale (DecimalOf p s ∷ Varchar n ∷ ts) u h = absurd cc
scales_bounds scale (DecimalOf p s ∷ DecimalOf q t ∷ []) u h =
    let n = scale s t in
    let is : DecimalOf 38 n ≡ u = some_is (DecimalOf 38 n) u (if_some (nat_le n 38) (Some (DecimalOf 38 n)) u h) in
    subst (λ z. in_bounds z ≡ true) is (when_true (nat_le n 38) (Some (DecimalOf 38 n)) u h)
scales_bounds scale (DecimalOf p s ∷ DecimalOf q t ∷ w ∷ ts) u h = absurd cc

-- an operation on one decimal that keeps its scale and its size
module _ (f : Decimal → Decimal) (kept : (d : Decimal) → (f d).scale ≡ d.scale) (size : (d : Decimal) → unsigned_abs (f d).units ≡ unsigned_abs d.units) where
  same_fits : (d : Decimal) (t : Ty) → IsTrue (is_of_type (Dec d) t) → fits (Dec (f d)) t ≡ true
  same_fits d BigInt h = absurd (let e : false ≡ true = h in cc)
  same_fits d (Char n) h = absurd (let e : false ≡ true = h in cc)
  same_fits d (Varchar n) h = absurd (let e : false ≡ true = h in cc)
  same_fits d (DecimalOf p s) h =
      let k = both (d.scale == s) (is_within p d.units) (value_fits (Dec d) (DecimalOf p s) h) in
      and_true ((f d).scale == s) (is_within p (f d).units) (ap (λ n. n == s) (kept d) ∙ k.0) (ap (λ n. nat_lt n (10 ^ p)) (size d) ∙ k.1)

  pub of_decimal_fits : (vs : Row) (ts : List Ty) (u : Ty) → AreOfTypes vs ts → as_operand ts ≡ Some u → fits (of_one (of_decimal f) vs) u ≡ true
  of_decimal_fits [] ts u h g = refl
  of_decimal_fits (Null ∷ []) ts u h g = refl
  of_decimal_fits (Int i ∷ []) ts u h g = refl
  of_decimal_fits (Txt t ∷ []) ts u h g = refl
  of_decimal_fits (Dec d ∷ []) [] u h g = absurd h
  of_decimal_fits (Dec d ∷ []) (t ∷ []) u h g = let is : t ≡ u = some_is t u g in subst (λ z. fits (Dec (f d)) z ≡ true) is (same_fits d t h.0)
  of_decimal_fits (Dec d ∷ []) (t ∷ w ∷ ts) u h g = absurd h.1
  of_decimal_fits (a ∷ b ∷ vs) ts u h g = refl

pub negative_size : (z : ℤ) → unsigned_abs (neg_ℤ z) ≡ unsigned_abs z
negative_size (pos zero) = refl
negative_size (pos (suc n)) = refl
negative_size (negsuc n) = refl

-- one that gives whole numbers, of no more digits
module _ (f : Decimal → Decimal) (whole : (d : Decimal) → (f d).scale ≡ 0) (less : (d : Decimal) → unsigned_abs (f d).units ≤ unsigned_abs d.units) where
  rounded_fits : (d : Decimal) (t : Ty) → IsTrue (is_of_type (Dec d) t) → fits (Dec (f d)) (DecimalOf 38 0) ≡ true
  rounded_fits d t h =
      let k = decimal_type d t h in
      let small : unsigned_abs d.units < 10 ^ k.0 = ltb-true (unsigned_abs d.units) (10 ^ k.0) k.2 in
      let fewer : 10 ^ k.0 ≤ 10 ^ 38 = pow-le-pow_right (omega arith) k.3 in
      let below = less d in
      and_true ((f d).scale == 0) (is_within 38 (f d).units) (eq-eqb (f d).scale 0 (whole d)) (lt-ltb (unsigned_abs (f d).units) (10 ^ 38) (omega (arith, below, small, fewer)))

  pub whole_fits : (vs : Row) (ts : List Ty) → AreOfTypes vs ts → fits (of_one (of_decimal f) vs) (DecimalOf 38 0) ≡ true
  whole_fits [] ts h = refl
  whole_fits (Null ∷ []) ts h = refl
  whole_fits (Int i ∷ []) ts h = refl
  whole_fits (Txt t ∷ []) ts h = refl
  whole_fits (Dec d ∷ []) [] h = absurd h
  whole_fits (Dec d ∷ []) (t ∷ ts) h = rounded_fits d t h.0
  whole_fits (a ∷ b ∷ vs) ts h = refl

down_less : (z : ℤ) (b : ℕ) → unsigned_abs (round_down z b) ≤ unsigned_abs z
down_less (pos n) b = div-le_self n b
down_less (negsuc n) b = let less = div-le_self n b in let more : suc (n / b) ≤ suc n = omega (arith, less) in more

pub floor_less : (d : Decimal) → unsigned_abs (decimal.floor d).units ≤ unsigned_abs d.units
floor_less d = down_less d.units (10 ^ d.scale)

pub ceil_less : (d : Decimal) → unsigned_abs (decimal.ceil d).units ≤ unsigned_abs d.units
ceil_less d =
    let down = round_down (neg_ℤ d.units) (10 ^ d.scale) in
    let less = down_less (neg_ℤ d.units) (10 ^ d.scale) in
    subst (λ (n : ℕ). n ≤ unsigned_abs d.units) (sym (negative_size down)) (subst (λ (n : ℕ). unsigned_abs down ≤ n) (negative_size d.units) less)

bigint_digits : (i : ℤ) → fits_bigint i ≡ true → is_within 19 i ≡ true
bigint_digits (pos n) h = let b = ltb-true n (2 ^ 63) h in lt-ltb n (10 ^ 19) (omega (arith, b))
bigint_digits (negsuc n) h = let b = ltb-true n (2 ^ 63) h in lt-ltb (suc n) (10 ^ 19) (omega (arith, b))

pub widened_fits : (vs : Row) (ts : List Ty) → AreOfTypes vs ts → fits (of_one widened vs) (DecimalOf 19 0) ≡ true
widened_fits [] ts h = refl
widened_fits (Null ∷ []) ts h = refl
widened_fits (Int i ∷ []) [] h = absurd h
widened_fits (Int i ∷ []) (t ∷ ts) h = bigint_digits i (int_of_type i t h.0)
widened_fits (Txt t ∷ []) ts h = refl
widened_fits (Dec d ∷ []) ts h = refl
widened_fits (a ∷ b ∷ vs) ts h = refl

-- ---- assignments

module _ (held : FittingIsHeld) (assigned : AssignedFits) where
  pub value_held : (v : Value) (t : Ty) → IsTrue (is_of_type v t) → IsHeld v
  value_held v t h = held v t (type_bounds v t h) (value_fits v t h)

  pub rescaled_fits : (c : Ty) → in_bounds c ≡ true → (vs : Row) (ts : List Ty) (v : Value) → AreOfTypes vs ts → of_one_or_fault (λ w. assign_of w c) vs ≡ Ok v → fits v c ≡ true
  rescaled_fits c b [] ts v h e = null_result v c e
  rescaled_fits c b (w ∷ []) [] v h e = absurd h
  rescaled_fits c b (w ∷ []) (t ∷ ts) v h e = assigned w v c (value_held w t h.0) b e
  rescaled_fits c b (a ∷ w ∷ vs) ts v h e = null_result v c e

  or_null_fits : (v : Value) (c : Ty) (r : Result Value Fault) → assign_of v c ≡ r → in_bounds c ≡ true → IsHeld v → fits (or_null_at_fault r) c ≡ true
  or_null_fits v c (Ok w) e b h = assigned v w c h b e
  or_null_fits v c (Err f) e b h = refl

  pub assigned_fits : (v : Value) (c : Ty) → in_bounds c ≡ true → IsHeld v → fits (or_null_at_fault (assign_of v c)) c ≡ true
  assigned_fits v c b h = or_null_fits v c (assign_of v c) refl b h

  pub brought_fits : (c : Ty) → in_bounds c ≡ true → (vs : Row) (ts : List Ty) → AreOfTypes vs ts → fits (of_one (λ v. or_null_at_fault (assign_of v c)) vs) c ≡ true
  brought_fits c b [] ts h = refl
  brought_fits c b (w ∷ []) [] h = absurd h
  brought_fits c b (w ∷ []) (t ∷ ts) h = assigned_fits w c b (value_held w t h.0)
  brought_fits c b (a ∷ w ∷ vs) ts h = refl

-- ---- choices

-- each of the values is of one type
abbrev pub AllOfType : Ty → Row → Type 0
AllOfType t [] = Unit {0}
AllOfType t (v ∷ vs) = IsTrue (is_of_type v t) × AllOfType t vs

abbrev pub KeepsType : (Value → Value → Value) → Type 0
KeepsType f = (a b : Value) (t : Ty) → IsTrue (is_of_type a t) → IsTrue (is_of_type b t) → IsTrue (is_of_type (f a b) t)

if_of_type : (c : Bool) (x y : Value) (t : Ty) → IsTrue (is_of_type x t) → IsTrue (is_of_type y t) → IsTrue (is_of_type (if c then x else y) t)
if_of_type true x y t h k = h
if_of_type false x y t h k = k

pub first_keeps : KeepsType first_of
first_keeps a b t h k = if_of_type (is_null a) b a t k h

pub lesser_keeps : KeepsType lesser_of
lesser_keeps a b t h k =
    if_of_type (is_null a) b (if is_null b then a else if is_lt (key_order b a) then b else a) t k
    (if_of_type (is_null b) a (if is_lt (key_order b a) then b else a) t h (if_of_type (is_lt (key_order b a)) b a t k h))

pub greater_keeps : KeepsType greater_of
greater_keeps a b t h k =
    if_of_type (is_null a) b (if is_null b then a else if is_gt (key_order b a) then b else a) t k
    (if_of_type (is_null b) a (if is_gt (key_order b a) then b else a) t h (if_of_type (is_gt (key_order b a)) b a t k h))

pub fold_of_type : (f : Value → Value → Value) → KeepsType f → (t : Ty) (best : Value) (vs : Row) → IsTrue (is_of_type best t) → AllOfType t vs → IsTrue (is_of_type (fold f best vs) t)
fold_of_type f keeps t best [] h k = h
fold_of_type f keeps t best (v ∷ vs) h k = fold_of_type f keeps t (f best v) vs (keeps best v t h k.0) k.1
