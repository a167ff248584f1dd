-- Constants as keys: two are one where their types and their values are.
use Rattle.std.specs.Prelude.{◌≡◌, ℕ, nat_eq, Bool, true, false, ◌&&◌, refl}
use Rattle.std.proofs.Common.{ap, ◌∙◌}
use Rattle.std.specs.Bool.{Decides}
use Rattle.std.specs.Cmp.{signed_Decides, unsigned_Decides}
use Rattle.std.specs.Cmp.Lexicographic.{bytes_decides}
use Rattle.std.specs.Ordering.{int_eq}
use Rattle.ds2_value.specs.Types.{same_ty}
use Rattle.ds2_value.specs.declared.ty.Ty.{Ty}
use Rattle.ds2_value.specs.declared.ty.Ty.TheVariants.{BigInt, Decimal as DecimalOf, Char, Varchar}
use Rattle.ds2_value.specs.declared.value.Value.{Value}
use Rattle.ds2_value.specs.declared.value.Value.TheVariants.{Null, Int, Dec, Txt}
use Rattle.ds2_program_code.specs.UsedConstants.{UsedConstant}
use Rattle.ds2_program_code.specs.CodeConstants.{is_one_value, is_one_constant}
use Rattle.ds2_constants.specs.declared.key.ConstantKey.{ConstantKey}

-- a key is a constant with its type
abbrev pub used_of_key : ConstantKey → UsedConstant
used_of_key k = record { value = k.value; ty = k.ty }

-- two keys are one constant
abbrev pub is_one_key : ConstantKey → ConstantKey → Bool
is_one_key a b = is_one_constant (used_of_key a) (used_of_key b)

-- ---- they decide equality

both_hold : (a b : Bool) → (a && b) ≡ true → (a ≡ true) × (b ≡ true)
both_hold true true h = (refl, refl)
both_hold true false h = cc h
both_hold false b h = cc h

hold_both : (a b : Bool) → a ≡ true → b ≡ true → (a && b) ≡ true
hold_both true true g h = refl
hold_both true false g h = cc h
hold_both false b g h = cc g

numbers_decide : (m n : ℕ) → Decides (nat_eq m n) (m ≡ n)
numbers_decide = unsigned_Decides

same_number : (m : ℕ) → nat_eq m m ≡ true
same_number m = (numbers_decide m m).1 refl

ty_decides : (t u : Ty) → Decides (same_ty t u) (t ≡ u)
ty_decides BigInt BigInt = (λ e. refl, λ e. refl)
ty_decides (DecimalOf p s) (DecimalOf q t) = (
  λ h. let k = both_hold (nat_eq p q) (nat_eq s t) h in ap (λ z. DecimalOf z s) ((numbers_decide p q).0 k.0) ∙ ap (λ z. DecimalOf q z) ((numbers_decide s t).0 k.1),
  λ h. let a : p ≡ q = cc h in let b : s ≡ t = cc h in hold_both (nat_eq p q) (nat_eq s t) ((numbers_decide p q).1 a) ((numbers_decide s t).1 b),
)
ty_decides (Char n) (Char m) = (λ h. ap (λ z. Char z) ((numbers_decide n m).0 h), λ h. let a : n ≡ m = cc h in (numbers_decide n m).1 a)
ty_decides (Varchar n) (Varchar m) = (λ h. ap (λ z. Varchar z) ((numbers_decide n m).0 h), λ h. let a : n ≡ m = cc h in (numbers_decide n m).1 a)
ty_decides _ _ = (λ h. cc h, λ h. cc h)

value_decides : (v w : Value) → Decides (is_one_value v w) (v ≡ w)
value_decides Null Null = (λ e. refl, λ e. refl)
value_decides (Int i) (Int j) = (λ h. ap (λ z. Int z) ((signed_Decides i j).0 h), λ h. let a : i ≡ j = cc h in (signed_Decides i j).1 a)
value_decides (Dec d) (Dec e) = (
  λ h. let k = both_hold (int_eq d.units e.units) (nat_eq d.scale e.scale) h in
      ap (λ z. Dec (record { units = z; scale = d.scale })) ((signed_Decides d.units e.units).0 k.0) ∙ ap (λ z. Dec (record { units = e.units; scale = z })) ((numbers_decide d.scale e.scale).0 k.1),
  λ h. let a : d ≡ e = cc h in
      hold_both (int_eq d.units e.units) (nat_eq d.scale e.scale) ((signed_Decides d.units e.units).1 (ap (λ z. z.units) a)) ((numbers_decide d.scale e.scale).1 (ap (λ z. z.scale) a)),
)
value_decides (Txt a) (Txt b) = (λ h. ap (λ z. Txt z) ((bytes_decides a b).0 h), λ h. let e : a ≡ b = cc h in (bytes_decides a b).1 e)
value_decides _ _ = (λ h. cc h, λ h. cc h)

-- the test of two keys tells whether they are equal
pub key_decides : (a b : ConstantKey) → Decides (is_one_key a b) (a ≡ b)
key_decides a b = (
  λ h. let k = both_hold (same_ty a.ty b.ty) (is_one_value a.value b.value) h in
      ap (λ z. record { ty = z; value = a.value }) ((ty_decides a.ty b.ty).0 k.0) ∙ ap (λ z. record { ty = b.ty; value = z }) ((value_decides a.value b.value).0 k.1),
  λ h. hold_both (same_ty a.ty b.ty) (is_one_value a.value b.value) ((ty_decides a.ty b.ty).1 (ap (λ z. z.ty) h)) ((value_decides a.value b.value).1 (ap (λ z. z.value) h)),
)
