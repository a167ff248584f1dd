-- Values that are given for slots, beside the types of these.
use Rattle.std.proofs.Common.{◌≡◌, ℕ, zero, suc, ◌+◌, ◌<◌, ◌≤◌, min, Bool, true, false, ◌&&◌, List, [], ◌∷◌, length, drop, get_or, Option, Some, None, refl, sym, ap, ◌∙◌, subst, IsTrue, arith}
use Rattle.std.specs.Prelude.{slice_get}
use Rattle.std.specs.Option.{option_map}
use Rattle.ds2_value.specs.Row.{Row}
use Rattle.ds2_value.specs.declared.ty.Ty.{Ty}
use Rattle.ds2_value.specs.declared.value.Value.{Value}
use Rattle.ds2_code.specs.declared.parts.Slot.{Slot}
use Rattle.ds2_code.specs.OperandTypes.{slot_type}
use Rattle.ds2_code.specs.Scales.{AreGivenScaled, is_scaled}
use Rattle.ds2_unit.specs.GivenScales.{has_scale_of_slot, have_given_scales}

-- where a slot is there or not, its type is
pub scale_where : (slots : List Slot) (n : ℕ) (v : Value) (o : Option Slot) → o ≡ slice_get slots n → has_scale_of_slot (option_map (λ (s : Slot). s.ty) o) v ≡ has_scale_of_slot (slot_type slots n) v
scale_where slots n v o e = ap (λ (x : Option Slot). has_scale_of_slot (option_map (λ (s : Slot). s.ty) x) v) e

-- ---- values one after the other

none_for : (slots : List Slot) (vs : Row) → have_given_scales slots [] vs ≡ true
none_for slots [] = refl
none_for slots (v ∷ vs) = refl

none_given : (slots : List Slot) (ns : List ℕ) → have_given_scales slots ns [] ≡ true
none_given slots [] = refl
none_given slots (n ∷ ns) = refl

pub given_end : (slots : List Slot) (ns : List ℕ) (vs : Row) (n : ℕ) → min (length ns) (length vs) ≤ n → have_given_scales slots (drop n ns) (drop n vs) ≡ true
given_end slots [] vs zero h = none_for slots vs
given_end slots [] vs (suc n) h = none_for slots (drop (suc n) vs)
given_end slots (k ∷ ns) [] zero h = refl
given_end slots (k ∷ ns) [] (suc n) h = none_given slots (drop n ns)
given_end slots (k ∷ ns) (v ∷ vs) zero h = absurd (omega (arith, h))
given_end slots (k ∷ ns) (v ∷ vs) (suc n) h = given_end slots ns vs n (omega (arith, h))

-- the values from one on have their scales where that one has, and those behind it
pub given_step : (slots : List Slot) (ns : List ℕ) (vs : Row) (n d : ℕ) (v : Value) → n < length ns → n < length vs → v ≡ get_or vs n v
    → have_given_scales slots (drop n ns) (drop n vs) ≡ (has_scale_of_slot (slot_type slots (get_or ns n d)) v && have_given_scales slots (drop (n + 1) ns) (drop (n + 1) vs))
given_step slots [] vs n d v few some is = absurd (omega (arith, few))
given_step slots (k ∷ ns) [] n d v few some is = absurd (omega (arith, some))
given_step slots (k ∷ ns) (w ∷ vs) zero d v few some is =
    let one : suc zero ≡ 0 + 1 = omega arith in
    ap (λ z. has_scale_of_slot (slot_type slots k) z && have_given_scales slots ns vs) (sym is)
    ∙ ap (λ m. has_scale_of_slot (slot_type slots k) v && have_given_scales slots (drop m (k ∷ ns)) (drop m (w ∷ vs))) one
given_step slots (k ∷ ns) (w ∷ vs) (suc n) d v few some is =
    let more : suc (n + 1) ≡ suc n + 1 = omega arith in
    given_step slots ns vs n d v (omega (arith, few)) (omega (arith, some)) is
    ∙ ap (λ m. has_scale_of_slot (slot_type slots (get_or ns n d)) v && have_given_scales slots (drop m (k ∷ ns)) (drop m (w ∷ vs))) more

pub first_fits : (a b whole : Bool) (left : Bool) → left ≡ whole → left ≡ (a && b) → a ≡ true → b ≡ whole
first_fits a b whole left here step fits = sym (ap (λ z. z && b) fits) ∙ sym step ∙ here

pub first_fails : (a b whole : Bool) (left : Bool) → left ≡ whole → left ≡ (a && b) → a ≡ false → false ≡ whole
first_fails a b whole left here step fails = sym (ap (λ z. z && b) fails) ∙ sym step ∙ here

-- ---- what the test tells

both_first : (a b : Bool) → (a && b) ≡ true → a ≡ true
both_first true b h = refl
both_first false b h = h

both_second : (a b : Bool) → (a && b) ≡ true → b ≡ true
both_second true b h = h
both_second false b h = absurd cc

in_slot : (o : Option Ty) (v : Value) (ty : Ty) → has_scale_of_slot o v ≡ true → o ≡ Some ty → IsTrue (is_scaled v ty)
in_slot None v ty h e = absurd cc
in_slot (Some t) v ty h e =
    let same : t ≡ ty = cc in
    subst (λ (z : Ty). IsTrue (is_scaled v z)) same h

pub given_scales : (slots : List Slot) (ns : List ℕ) (vs : Row) → have_given_scales slots ns vs ≡ true → AreGivenScaled slots ns vs
given_scales slots [] [] h = tt
given_scales slots (n ∷ ns) [] h = tt
given_scales slots [] (v ∷ vs) h = tt
given_scales slots (n ∷ ns) (v ∷ vs) h =
    let here = has_scale_of_slot (slot_type slots n) v in
    let rest = have_given_scales slots ns vs in
    (λ ty e. in_slot (slot_type slots n) v ty (both_first here rest h) e, given_scales slots ns vs (both_second here rest h))
