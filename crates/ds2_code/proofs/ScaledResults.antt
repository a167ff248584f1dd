-- The scales of what operations on decimals give, and of choices.
use Rattle.std.proofs.Common.{◌≡◌, ℕ, ◌+◌, ◌-◌, ◌^◌, ◌+ℤ◌, ◌-ℤ◌, ◌*ℤ◌, unsigned_abs, int_rem, max, Bool, true, false, List, [], ◌∷◌, Option, Some, None, Result, Ok, Err, ℤ, refl, sym, ap, ◌∙◌, subst, fold, IsTrue, if◌then◌else◌, nat_le}
use Rattle.std.specs.Option.{option_map_or}
use Rattle.std.specs.Ordering.{is_lt, is_gt}
use Rattle.std.proofs.lemmas.Bool.{eqb-true, eq-eqb}
use Rattle.ds2_decimal.specs.Arithmetic as decimal
use Rattle.ds2_decimal.specs.Decimal.{Decimal, is_within, units_at}
use Rattle.ds2_decimal.specs.Rounding.{is_zero, round}
use Rattle.ds2_decimal.specs.declared.dec.TheConstants.{MOST_DIGITS}
use Rattle.ds2_decimal.specs.declared.dec.DecFault.{DecFault}
use Rattle.ds2_decimal.specs.declared.dec.DecFault.TheVariants.{Overflow, DivideByZero}
use Rattle.ds2_value.specs.Functions.{first_of, lesser_of, greater_of}
use Rattle.ds2_value.specs.Operations.{of_decimals, of_decimal, widened, of_one, of_one_or_fault, of_two}
use Rattle.ds2_value.specs.Order.{key_order}
use Rattle.ds2_value.specs.Row.{Row}
use Rattle.ds2_value.specs.Types.{assign_of, decimal_value, whole_decimal}
use Rattle.ds2_value.specs.Value.{is_null}
use Rattle.ds2_value.specs.declared.fault.Fault.{Fault}
use Rattle.ds2_value.specs.declared.ty.Ty.{Ty}
use Rattle.ds2_value.specs.declared.ty.Ty.TheVariants.{BigInt, Decimal as DecimalOf, Char, Varchar}
use Rattle.ds2_value.specs.declared.value.Value.{Value}
use Rattle.ds2_value.specs.declared.value.Value.TheVariants.{Null, Int, Dec, Txt}
use Rattle.ds2_value.specs.ValueFunctions.{decimal_of_scale, by_scales, as_operand}
use Rattle.ds2_code.specs.Scales.{is_type_of_scale, is_scaled, AreScaled, is_scale_of_product}
use Rattle.ds2_code.proofs.ScaledLists.{if_some, some_is}

-- ---- what operations on decimals give

ok_if : (b : Bool) (x d : Decimal) (e : DecFault) → (if b then Ok x else Err e) ≡ Ok d → x ≡ d
ok_if true x d e h = cc
ok_if false x d e h = absurd cc

within_scale : (p : ℕ) (u : ℤ) (s : ℕ) (d : Decimal) → decimal.within p u s ≡ Ok d → d.scale ≡ s
within_scale p u s d h = sym (ap (λ (z : Decimal). z.scale) (ok_if (is_within p u) (record { units = u; scale = s }) d Overflow h))

else_ok : (b : Bool) (r : Result Decimal DecFault) (d : Decimal) → (if b then Err DivideByZero else r) ≡ Ok d → r ≡ Ok d
else_ok true r d h = absurd cc
else_ok false r d h = h

aligned_scale_of : (f : ℤ → ℤ → ℤ) (s : ℕ) (o : Option (ℤ × ℤ)) (d : Decimal) → option_map_or (λ (p : ℤ × ℤ). decimal.within MOST_DIGITS (f p.0 p.1) s) o (Err Overflow) ≡ Ok d → d.scale ≡ s
aligned_scale_of f s None d h = absurd cc
aligned_scale_of f s (Some p) d h = within_scale MOST_DIGITS (f p.0 p.1) s d h

aligned_scale : (f : ℤ → ℤ → ℤ) (a b d : Decimal) → decimal.on_aligned f a b ≡ Ok d → d.scale ≡ max a.scale b.scale
aligned_scale f a b d h = aligned_scale_of f (decimal.common_scale a b) (decimal.aligned a b) d h

pub sum_scale : (a b d : Decimal) → decimal.add a b ≡ Ok d → d.scale ≡ max a.scale b.scale
sum_scale a b d h = aligned_scale (λ x y. x +ℤ y) a b d h

pub difference_scale : (a b d : Decimal) → decimal.sub a b ≡ Ok d → d.scale ≡ max a.scale b.scale
difference_scale a b d h = aligned_scale (λ x y. x -ℤ y) a b d h

pub product_scale : (a b d : Decimal) → decimal.mul a b ≡ Ok d → d.scale ≡ a.scale + b.scale
product_scale a b d h = within_scale MOST_DIGITS (a.units *ℤ b.units) (a.scale + b.scale) d h

pub quotient_scale_is : (a b d : Decimal) → decimal.div a b ≡ Ok d → d.scale ≡ max 6 (max a.scale b.scale)
quotient_scale_is a b d h =
    let units = round (decimal.numerator a b) (unsigned_abs b.units) in
    within_scale MOST_DIGITS units (decimal.quotient_scale a b) d (else_ok (is_zero b.units) (decimal.within MOST_DIGITS units (decimal.quotient_scale a b)) d h)

pub remainder_scale : (a b d : Decimal) → decimal.modulo a b ≡ Ok d → d.scale ≡ max a.scale b.scale
remainder_scale a b d h = aligned_scale int_rem a b d (else_ok (is_zero b.units) (decimal.on_aligned int_rem a b) d h)

-- ---- as operations on values

pub null_scaled : (v : Value) (u : Ty) → ◌≡◌ {A = Result Value Fault} (Ok Null) (Ok v) → IsTrue (is_scaled v u)
null_scaled v u h = let e : Null ≡ v = cc in subst (λ z. IsTrue (is_scaled z u)) e refl

decimal_is : (r : Result Decimal DecFault) (v : Value) → decimal_value r ≡ Ok v → (d : Decimal) × (r ≡ Ok d) × (v ≡ Dec d)
decimal_is (Ok d) v h = (d, refl, cc)
decimal_is (Err e) v h = absurd cc

-- the types of two decimals
two_scales : (a b : Decimal) (ts : List Ty) → AreScaled (Dec a ∷ Dec b ∷ []) ts → (p : ℕ) × (q : ℕ) × (ts ≡ DecimalOf p a.scale ∷ DecimalOf q b.scale ∷ [])
two_scales a b [] h = absurd h
two_scales a b (t ∷ []) h = absurd h.1
two_scales a b (BigInt ∷ u ∷ []) h = absurd (let e : false ≡ true = h.0 in cc)
two_scales a b (Char n ∷ u ∷ []) h = absurd (let e : false ≡ true = h.0 in cc)
two_scales a b (Varchar n ∷ u ∷ []) h = absurd (let e : false ≡ true = h.0 in cc)
two_scales a b (DecimalOf p s ∷ BigInt ∷ []) h = absurd (let e : false ≡ true = h.1.0 in cc)
two_scales a b (DecimalOf p s ∷ Char n ∷ []) h = absurd (let e : false ≡ true = h.1.0 in cc)
two_scales a b (DecimalOf p s ∷ Varchar n ∷ []) h = absurd (let e : false ≡ true = h.1.0 in cc)
two_scales a b (DecimalOf p s ∷ DecimalOf q t ∷ []) h =
    (p, q, ap (λ z. DecimalOf p z ∷ DecimalOf q t ∷ []) (sym (eqb-true a.scale s h.0)) ∙ ap (λ z. DecimalOf p a.scale ∷ DecimalOf q z ∷ []) (sym (eqb-true b.scale t h.1.0)))
two_scales a b (t ∷ u ∷ w ∷ ts) h = absurd h.1.1

module _ (f : Decimal → Decimal → Result Decimal DecFault) (scale : ℕ → ℕ → ℕ) (made : (a b d : Decimal) → f a b ≡ Ok d → d.scale ≡ scale a.scale b.scale) where
  two_scaled : (a b : Decimal) (v : Value) (ts : List Ty) (u : Ty) → decimal_value (f a b) ≡ Ok v → AreScaled (Dec a ∷ Dec b ∷ []) ts → by_scales scale ts ≡ Some u → IsTrue (is_scaled v u)
  two_scaled a b v ts u h k g =
      let d = decimal_is (f a b) v h in
      let s = two_scales a b ts k in
      let n = scale a.scale b.scale in
      let at : decimal_of_scale n ≡ Some u = sym (ap (by_scales scale) s.2) ∙ g in
      let is : DecimalOf 38 n ≡ u = some_is (DecimalOf 38 n) u (if_some (nat_le n 38) (Some (DecimalOf 38 n)) u at) in
      subst (λ z. IsTrue (is_scaled z u)) (sym d.2) (subst (λ z. IsTrue (is_type_of_scale d.0.scale z)) is (eq-eqb d.0.scale n (made a b d.0 d.1)))

  pub of_decimals_scaled : (vs : Row) (v : Value) (ts : List Ty) (u : Ty) → of_two (of_decimals f) vs ≡ Ok v → AreScaled vs ts → by_scales scale ts ≡ Some u → IsTrue (is_scaled v u)
  of_decimals_scaled [] v ts u h k g = null_scaled v u h
  of_decimals_scaled (a ∷ []) v ts u h k g = null_scaled v u h
  of_decimals_scaled (Null ∷ b ∷ []) v ts u h k g = null_scaled v u h
  of_decimals_scaled (Int i ∷ b ∷ []) v ts u h k g = null_scaled v u h
  of_decimals_scaled (Txt t ∷ b ∷ []) v ts u h k g = null_scaled v u h
  of_decimals_scaled (Dec a ∷ Null ∷ []) v ts u h k g = null_scaled v u h
  of_decimals_scaled (Dec a ∷ Int i ∷ []) v ts u h k g = null_scaled v u h
  of_decimals_scaled (Dec a ∷ Txt t ∷ []) v ts u h k g = null_scaled v u h
  of_decimals_scaled (Dec a ∷ Dec b ∷ []) v ts u h k g = two_scaled a b v ts u h k g
  of_decimals_scaled (a ∷ b ∷ c ∷ vs) v ts u h k g = null_scaled v u h

-- an operation on one decimal that keeps its scale
module _ (f : Decimal → Decimal) (kept : (d : Decimal) → (f d).scale ≡ d.scale) where
  pub of_decimal_scaled : (vs : Row) (ts : List Ty) (u : Ty) → AreScaled vs ts → as_operand ts ≡ Some u → IsTrue (is_scaled (of_one (of_decimal f) vs) u)
  of_decimal_scaled [] ts u h g = refl
  of_decimal_scaled (Null ∷ []) ts u h g = refl
  of_decimal_scaled (Int i ∷ []) ts u h g = refl
  of_decimal_scaled (Txt t ∷ []) ts u h g = refl
  of_decimal_scaled (Dec d ∷ []) [] u h g = absurd h
  of_decimal_scaled (Dec d ∷ []) (t ∷ []) u h g =
      let is : t ≡ u = some_is t u g in
      subst (λ z. IsTrue (is_type_of_scale (f d).scale z)) is (subst (λ n. IsTrue (is_type_of_scale n t)) (sym (kept d)) h.0)
  of_decimal_scaled (Dec d ∷ []) (t ∷ w ∷ ts) u h g = absurd h.1
  of_decimal_scaled (a ∷ b ∷ vs) ts u h g = refl

-- one that gives whole numbers
module _ (f : Decimal → Decimal) (whole : (d : Decimal) → (f d).scale ≡ 0) (p : ℕ) where
  pub whole_scaled : (vs : Row) → IsTrue (is_scaled (of_one (of_decimal f) vs) (DecimalOf p 0))
  whole_scaled [] = refl
  whole_scaled (Null ∷ []) = refl
  whole_scaled (Int i ∷ []) = refl
  whole_scaled (Txt t ∷ []) = refl
  whole_scaled (Dec d ∷ []) = eq-eqb (f d).scale 0 (whole d)
  whole_scaled (a ∷ b ∷ vs) = refl

pub widened_scaled : (vs : Row) → IsTrue (is_scaled (of_one widened vs) (DecimalOf 19 0))
widened_scaled [] = refl
widened_scaled (Null ∷ []) = refl
widened_scaled (Int i ∷ []) = refl
widened_scaled (Txt t ∷ []) = refl
widened_scaled (Dec d ∷ []) = refl
widened_scaled (a ∷ b ∷ vs) = refl

rescaled_by : (p s : ℕ) (d : Decimal) (v : Value) → decimal_value (decimal.rescale p s d) ≡ Ok v → IsTrue (is_scaled v (DecimalOf p s))
rescaled_by p s d v h =
    let e = decimal_is (decimal.rescale p s d) v h in
    subst (λ z. IsTrue (is_scaled z (DecimalOf p s))) (sym e.2) (eq-eqb e.0.scale s (within_scale p (if nat_le d.scale s then units_at s d else round d.units (10 ^ (d.scale - s))) s e.0 e.1))

pub rescaled : (p s : ℕ) (vs : Row) (v : Value) → of_one_or_fault (λ w. assign_of w (DecimalOf p s)) vs ≡ Ok v → IsTrue (is_scaled v (DecimalOf p s))
rescaled p s [] v h = null_scaled v (DecimalOf p s) h
rescaled p s (Null ∷ []) v h = null_scaled v (DecimalOf p s) h
rescaled p s (Txt t ∷ []) v h = null_scaled v (DecimalOf p s) h
rescaled p s (Int i ∷ []) v h = rescaled_by p s (whole_decimal i) v h
rescaled p s (Dec d ∷ []) v h = rescaled_by p s d v h
rescaled p s (a ∷ b ∷ vs) v h = null_scaled v (DecimalOf p s) h

-- ---- products

product_within : (a b : Decimal) (ts : List Ty) (u : Ty) → AreScaled (Dec a ∷ Dec b ∷ []) ts → by_scales (λ s t. s + t) ts ≡ Some u → IsTrue (nat_le (a.scale + b.scale) 38)
product_within a b ts u h g = let s = two_scales a b ts h in kept (nat_le (a.scale + b.scale) 38) (sym (ap (by_scales (λ x y. x + y)) s.2) ∙ g)
  where
    kept : (c : Bool) → (if c then Some (DecimalOf 38 (a.scale + b.scale)) else None) ≡ Some u → IsTrue c
    kept true e = refl
    kept false e = absurd cc

pub product_has_scale : (vs : Row) (ts : List Ty) (u : Ty) → AreScaled vs ts → by_scales (λ s t. s + t) ts ≡ Some u → IsTrue (is_scale_of_product vs)
product_has_scale [] ts u h g = refl
product_has_scale (Null ∷ vs) ts u h g = refl
product_has_scale (Int i ∷ vs) ts u h g = refl
product_has_scale (Txt t ∷ vs) ts u h g = refl
product_has_scale (Dec a ∷ []) ts u h g = refl
product_has_scale (Dec a ∷ Null ∷ vs) ts u h g = refl
product_has_scale (Dec a ∷ Int i ∷ vs) ts u h g = refl
product_has_scale (Dec a ∷ Txt t ∷ vs) ts u h g = refl
product_has_scale (Dec a ∷ Dec b ∷ []) ts u h g = product_within a b ts u h g
product_has_scale (Dec a ∷ Dec b ∷ v ∷ vs) ts u h g = refl

-- ---- choices

-- each of the values has the scale of one type
abbrev pub AllScaled : Ty → Row → Type 0
AllScaled t [] = Unit {0}
AllScaled t (v ∷ vs) = IsTrue (is_scaled v t) × AllScaled t vs

abbrev pub KeepsType : (Value → Value → Value) → Type 0
KeepsType f = (a b : Value) (t : Ty) → IsTrue (is_scaled a t) → IsTrue (is_scaled b t) → IsTrue (is_scaled (f a b) t)

if_scaled : (c : Bool) (x y : Value) (t : Ty) → IsTrue (is_scaled x t) → IsTrue (is_scaled y t) → IsTrue (is_scaled (if c then x else y) t)
if_scaled true x y t h k = h
if_scaled false x y t h k = k

pub first_keeps : KeepsType first_of
first_keeps a b t h k = if_scaled (is_null a) b a t k h

pub lesser_keeps : KeepsType lesser_of
lesser_keeps a b t h k =
    if_scaled (is_null a) b (if is_null b then a else if is_lt (key_order b a) then b else a) t k
    (if_scaled (is_null b) a (if is_lt (key_order b a) then b else a) t h (if_scaled (is_lt (key_order b a)) b a t k h))

pub greater_keeps : KeepsType greater_of
greater_keeps a b t h k =
    if_scaled (is_null a) b (if is_null b then a else if is_gt (key_order b a) then b else a) t k
    (if_scaled (is_null b) a (if is_gt (key_order b a) then b else a) t h (if_scaled (is_gt (key_order b a)) b a t k h))

pub fold_scaled : (f : Value → Value → Value) → KeepsType f → (t : Ty) (best : Value) (vs : Row) → IsTrue (is_scaled best t) → AllScaled t vs → IsTrue (is_scaled (fold f best vs) t)
fold_scaled f keeps t best [] h k = h
fold_scaled f keeps t best (v ∷ vs) h k = fold_scaled f keeps t (f best v) vs (keeps best v t h k.0) k.1
