-- Values beside types, one after the other.
use Rattle.std.proofs.Common.{◌≡◌, ℕ, zero, suc, Bool, true, false, ◌&&◌, List, [], ◌∷◌, ◌++◌, length, replicate, Option, Some, None, refl, sym, ap, ◌∙◌, subst, IsTrue, if◌then◌else◌, slice_get, slice_set, ◌==◌}
use Rattle.std.proofs.lemmas.Bool.{eqb-true}
use Rattle.ds2_value.specs.Row.{Row}
use Rattle.ds2_value.specs.Types.{fits, same_ty}
use Rattle.ds2_value.specs.Value.{or_null}
use Rattle.ds2_value.specs.declared.ty.Ty.{Ty}
use Rattle.ds2_value.specs.declared.ty.Ty.TheVariants.{BigInt, Decimal as DecimalOf, Char, Varchar}
use Rattle.ds2_value.specs.declared.value.Value.{Value}
use Rattle.ds2_value.specs.declared.value.Value.TheVariants.{Null, Int, Dec, Txt}
use Rattle.ds2_code.specs.declared.parts.Slot.{Slot}
use Rattle.ds2_code.specs.declared.parts.SlotRole.{SlotRole}
use Rattle.ds2_code.specs.declared.parts.SlotRole.TheVariants.{Cleared, Kept, Column, Flag}
use Rattle.ds2_code.specs.CodeUnit.{null_where_cleared, without_cleared}
use Rattle.ds2_code.specs.Desk.{SlotSettings, with_slot_settings}
use Rattle.ds2_code.specs.OperandTypes.{slot_type}
use Rattle.ds2_code.specs.Scales.{is_scaled, AreScaled, types_of_slots, AreSettingsScaled}

pub both : (a b : Bool) → (a && b) ≡ true → (a ≡ true) × (b ≡ true)
both true b h = (refl, h)
both false b h = absurd cc

pub if_some : {A : Type 0} (b : Bool) (o : Option A) (t : A) → (if b then o else None) ≡ Some t → o ≡ Some t
if_some true o t h = h
if_some false o t h = absurd cc

pub when_true : {A : Type 0} (b : Bool) (o : Option A) (t : A) → (if b then o else None) ≡ Some t → b ≡ true
when_true true o t h = refl
when_true false o t h = absurd cc

pub some_is : {A : Type 0} (x y : A) → Some x ≡ Some y → x ≡ y
some_is x y h = cc

pub ty_is : (t u : Ty) → same_ty t u ≡ true → t ≡ u
ty_is BigInt BigInt h = refl
ty_is BigInt (DecimalOf q t) h = absurd cc
ty_is BigInt (Char m) h = absurd cc
ty_is BigInt (Varchar m) h = absurd cc
ty_is (DecimalOf p s) BigInt h = absurd cc
ty_is (DecimalOf p s) (DecimalOf q t) h =
    let k = both (p == q) (s == t) h in ap (λ z. DecimalOf z s) (eqb-true p q k.0) ∙ ap (λ z. DecimalOf q z) (eqb-true s t k.1)
ty_is (DecimalOf p s) (Char m) h = absurd cc
ty_is (DecimalOf p s) (Varchar m) h = absurd cc
ty_is (Char n) BigInt h = absurd cc
ty_is (Char n) (DecimalOf q t) h = absurd cc
ty_is (Char n) (Char m) h = ap (λ z. Char z) (eqb-true n m h)
ty_is (Char n) (Varchar m) h = absurd cc
ty_is (Varchar n) BigInt h = absurd cc
ty_is (Varchar n) (DecimalOf q t) h = absurd cc
ty_is (Varchar n) (Char m) h = absurd cc
ty_is (Varchar n) (Varchar m) h = ap (λ z. Varchar z) (eqb-true n m h)

pub of_same_type : (v : Value) (t u : Ty) → same_ty t u ≡ true → IsTrue (is_scaled v u) → IsTrue (is_scaled v t)
of_same_type v t u same h = subst (λ z. IsTrue (is_scaled v z)) (sym (ty_is t u same)) h

pub fits_scaled : (v : Value) (t : Ty) → fits v t ≡ true → IsTrue (is_scaled v t)
fits_scaled Null t h = refl
fits_scaled (Int i) t h = refl
fits_scaled (Txt b) t h = refl
fits_scaled (Dec d) BigInt h = absurd cc
fits_scaled (Dec d) (DecimalOf p s) h = (both (d.scale == s) _ h).0
fits_scaled (Dec d) (Char n) h = absurd cc
fits_scaled (Dec d) (Varchar n) h = absurd cc

pub get_scaled : (vs : Row) (ts : List Ty) (n : ℕ) (t : Ty) → AreScaled vs ts → slice_get ts n ≡ Some t → IsTrue (is_scaled (or_null (slice_get vs n)) t)
get_scaled [] [] n t h g = absurd cc
get_scaled [] (u ∷ ts) n t h g = absurd h
get_scaled (v ∷ vs) [] n t h g = absurd h
get_scaled (v ∷ vs) (u ∷ ts) zero t h g = let e : u ≡ t = cc in subst (λ z. IsTrue (is_scaled v z)) e h.0
get_scaled (v ∷ vs) (u ∷ ts) (suc n) t h g = get_scaled vs ts n t h.1 g

pub set_scaled : (vs : Row) (ts : List Ty) (n : ℕ) (v : Value) → AreScaled vs ts → ((t : Ty) → slice_get ts n ≡ Some t → IsTrue (is_scaled v t)) → AreScaled (slice_set vs n v) ts
set_scaled [] [] n v h g = tt
set_scaled [] (u ∷ ts) n v h g = absurd h
set_scaled (w ∷ vs) [] n v h g = absurd h
set_scaled (w ∷ vs) (u ∷ ts) zero v h g = (g u refl, h.1)
set_scaled (w ∷ vs) (u ∷ ts) (suc n) v h g = (h.0, set_scaled vs ts n v h.1 g)

pub append_scaled : (vs ws : Row) (ts us : List Ty) → AreScaled vs ts → AreScaled ws us → AreScaled (vs ++ ws) (ts ++ us)
append_scaled [] ws [] us h k = k
append_scaled [] ws (t ∷ ts) us h k = absurd h
append_scaled (v ∷ vs) ws [] us h k = absurd h
append_scaled (v ∷ vs) ws (t ∷ ts) us h k = (h.0, append_scaled vs ws ts us h.1 k)

pub nulls_scaled : (ts : List Ty) → AreScaled (replicate (length ts) Null) ts
nulls_scaled [] = tt
nulls_scaled (t ∷ ts) = (refl, nulls_scaled ts)

pub slot_type_at : (slots : List Slot) (n : ℕ) → slice_get (types_of_slots slots) n ≡ slot_type slots n
slot_type_at [] n = refl
slot_type_at (s ∷ slots) zero = refl
slot_type_at (s ∷ slots) (suc n) = slot_type_at slots n

pub settings_scaled : (parts : List Slot) (settings : SlotSettings) (slots : Row) → AreSettingsScaled parts settings → AreScaled slots (types_of_slots parts) → AreScaled (with_slot_settings settings slots) (types_of_slots parts)
settings_scaled parts [] slots h k = k
settings_scaled parts (set ∷ more) slots h k =
    settings_scaled parts more (slice_set slots set.0 set.1) h.1
    (set_scaled slots (types_of_slots parts) set.0 set.1 k (λ t g. h.0 t (sym (slot_type_at parts set.0) ∙ g)))

cleared_scaled : (role : SlotRole) (v : Value) (t : Ty) → IsTrue (is_scaled v t) → IsTrue (is_scaled (null_where_cleared role v) t)
cleared_scaled Cleared v t h = refl
cleared_scaled Kept v t h = h
cleared_scaled Column v t h = h
cleared_scaled Flag v t h = h

pub clearing_scaled : (parts : List Slot) (slots : Row) → AreScaled slots (types_of_slots parts) → AreScaled (without_cleared parts slots) (types_of_slots parts)
clearing_scaled [] slots h = h
clearing_scaled (s ∷ ss) [] h = absurd h
clearing_scaled (s ∷ ss) (v ∷ slots) h = (cleared_scaled s.role v s.ty h.0, clearing_scaled ss slots h.1)
