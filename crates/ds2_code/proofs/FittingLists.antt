-- Values beside types, one after the other.
use Rattle.std.proofs.Common.{◌≡◌, ℕ, zero, suc, Bool, true, false, ◌&&◌, List, [], ◌∷◌, ◌++◌, length, Option, Some, None, refl, sym, ap, ◌∙◌, subst}
use Rattle.std.specs.Prelude.{IsTrue, if◌then◌else◌, slice_get, slice_set, replicate, ◌==◌, map}
use Rattle.std.specs.List.{list_all, zip}
use Rattle.std.proofs.lemmas.Bool.{eqb-true}
use Rattle.ds2_value.specs.Row.{Row}
use Rattle.ds2_value.specs.Types.{in_bounds, fits, same_ty}
use Rattle.ds2_value.specs.Value.{or_null}
use Rattle.ds2_value.specs.declared.ty.Ty.{Ty}
use Rattle.ds2_value.specs.declared.ty.Ty.TheVariants.{BigInt, Decimal as DecimalOf, Char, Varchar}
use Rattle.ds2_value.specs.declared.value.Value.{Value}
use Rattle.ds2_value.specs.declared.value.Value.TheVariants.{Null}
use Rattle.ds2_code.specs.declared.parts.Slot.{Slot}
use Rattle.ds2_code.specs.declared.parts.SlotRole.{SlotRole}
use Rattle.ds2_code.specs.declared.parts.SlotRole.TheVariants.{Cleared, Kept, Column, Flag}
use Rattle.ds2_code.specs.CodeUnit.{null_where_cleared, without_cleared}
use Rattle.ds2_code.specs.Desk.{SlotSettings, with_slot_settings, values_of_slots}
use Rattle.ds2_code.specs.OperandTypes.{slot_type, type_of_parameter}
use Rattle.ds2_code.specs.Fitting.{is_of_type, AreOfTypes, slot_types, AreOfSlots, AreSettingsOfSlots}

pub both : (a b : Bool) → (a && b) ≡ true → (a ≡ true) × (b ≡ true)
both true b h = (refl, h)
both false b h = absurd cc

pub and_true : (a b : Bool) → a ≡ true → b ≡ true → (a && b) ≡ true
and_true a b h k = ap (λ x. x && b) h ∙ k

pub if_some : {A : Type 0} (b : Bool) (o : Option A) (t : A) → (if b then o else None) ≡ Some t → o ≡ Some t
if_some true o t h = h
if_some false o t h = absurd cc

pub when_true : {A : Type 0} (b : Bool) (o : Option A) (t : A) → (if b then o else None) ≡ Some t → b ≡ true
when_true true o t h = refl
when_true false o t h = absurd cc

pub some_is : {A : Type 0} (x y : A) → Some x ≡ Some y → x ≡ y
some_is x y h = cc

pub if_so : {A : Type 0} (P : A → Type 0) (b : Bool) (x y : A) → P x → P y → P (if b then x else y)
if_so P true x y h k = h
if_so P false x y h k = k

-- ---- one value

pub value_fits : (v : Value) (t : Ty) → IsTrue (is_of_type v t) → fits v t ≡ true
value_fits v t h = (both (fits v t) (in_bounds t) h).0

pub type_bounds : (v : Value) (t : Ty) → IsTrue (is_of_type v t) → in_bounds t ≡ true
type_bounds v t h = (both (fits v t) (in_bounds t) h).1

pub of_type : (v : Value) (t : Ty) → fits v t ≡ true → in_bounds t ≡ true → IsTrue (is_of_type v t)
of_type v t h k = and_true (fits v t) (in_bounds t) h k

ty_is : (t u : Ty) → same_ty t u ≡ true → t ≡ u
ty_is BigInt BigInt h = refl
ty_is BigInt (DecimalOf q t) h = absurd cc
ty_is BigInt (Char m) h = absurd cc
ty_is BigInt (Varchar m) h = absurd cc
ty_is (DecimalOf p s) BigInt h = absurd cc
ty_is (DecimalOf p s) (DecimalOf q t) h =
    let k = both (p == q) (s == t) h in ap (λ z. DecimalOf z s) (eqb-true p q k.0) ∙ ap (λ z. DecimalOf q z) (eqb-true s t k.1)
ty_is (DecimalOf p s) (Char m) h = absurd cc
ty_is (DecimalOf p s) (Varchar m) h = absurd cc
ty_is (Char n) BigInt h = absurd cc
ty_is (Char n) (DecimalOf q t) h = absurd cc
ty_is (Char n) (Char m) h = ap (λ z. Char z) (eqb-true n m h)
ty_is (Char n) (Varchar m) h = absurd cc
ty_is (Varchar n) BigInt h = absurd cc
ty_is (Varchar n) (DecimalOf q t) h = absurd cc
ty_is (Varchar n) (Char m) h = absurd cc
ty_is (Varchar n) (Varchar m) h = ap (λ z. Varchar z) (eqb-true n m h)

pub of_same_type : (v : Value) (t u : Ty) → same_ty t u ≡ true → IsTrue (is_of_type v u) → IsTrue (is_of_type v t)
of_same_type v t u same h = subst (λ z. IsTrue (is_of_type v z)) (sym (ty_is t u same)) h

-- ---- values beside types

pub get_of_type : (vs : Row) (ts : List Ty) (n : ℕ) (t : Ty) → AreOfTypes vs ts → slice_get ts n ≡ Some t → IsTrue (is_of_type (or_null (slice_get vs n)) t)
get_of_type [] [] n t h g = absurd cc
get_of_type [] (u ∷ ts) n t h g = absurd h
get_of_type (v ∷ vs) [] n t h g = absurd h
get_of_type (v ∷ vs) (u ∷ ts) zero t h g = let e : u ≡ t = cc in subst (λ z. IsTrue (is_of_type v z)) e h.0
get_of_type (v ∷ vs) (u ∷ ts) (suc n) t h g = get_of_type vs ts n t h.1 g

pub set_of_type : (vs : Row) (ts : List Ty) (n : ℕ) (v : Value) → AreOfTypes vs ts → ((t : Ty) → slice_get ts n ≡ Some t → IsTrue (is_of_type v t)) → AreOfTypes (slice_set vs n v) ts
set_of_type [] [] n v h g = tt
set_of_type [] (u ∷ ts) n v h g = absurd h
set_of_type (w ∷ vs) [] n v h g = absurd h
set_of_type (w ∷ vs) (u ∷ ts) zero v h g = (g u refl, h.1)
set_of_type (w ∷ vs) (u ∷ ts) (suc n) v h g = (h.0, set_of_type vs ts n v h.1 g)

pub append_of_types : (vs ws : Row) (ts us : List Ty) → AreOfTypes vs ts → AreOfTypes ws us → AreOfTypes (vs ++ ws) (ts ++ us)
append_of_types [] ws [] us h k = k
append_of_types [] ws (t ∷ ts) us h k = absurd h
append_of_types (v ∷ vs) ws [] us h k = absurd h
append_of_types (v ∷ vs) ws (t ∷ ts) us h k = (h.0, append_of_types vs ws ts us h.1 k)

pub nulls_of_types : (ts : List Ty) → list_all in_bounds ts ≡ true → AreOfTypes (replicate (length ts) Null) ts
nulls_of_types [] h = tt
nulls_of_types (t ∷ ts) h = let k = both (in_bounds t) (list_all in_bounds ts) h in (of_type Null t refl k.0, nulls_of_types ts k.1)

-- ---- values beside slots

pub slot_type_at : (slots : List Slot) (n : ℕ) → slice_get (slot_types slots) n ≡ slot_type slots n
slot_type_at [] n = refl
slot_type_at (s ∷ slots) zero = refl
slot_type_at (s ∷ slots) (suc n) = slot_type_at slots n

pub settings_of_types : (parts : List Slot) (settings : SlotSettings) (slots : Row) → AreSettingsOfSlots parts settings → AreOfTypes slots (slot_types parts) → AreOfTypes (with_slot_settings settings slots) (slot_types parts)
settings_of_types parts [] slots h k = k
settings_of_types parts (set ∷ more) slots h k =
    settings_of_types parts more (slice_set slots set.0 set.1) h.1
    (set_of_type slots (slot_types parts) set.0 set.1 k (λ t g. h.0 t (sym (slot_type_at parts set.0) ∙ g)))

-- values for slots are settings
pub zipped_settings : (parts : List Slot) (ns : List ℕ) (vs : Row) → AreOfSlots parts ns vs → AreSettingsOfSlots parts (zip ns vs)
zipped_settings parts [] [] h = tt
zipped_settings parts [] (v ∷ vs) h = absurd h
zipped_settings parts (n ∷ ns) [] h = absurd h
zipped_settings parts (n ∷ ns) (v ∷ vs) h = (h.0, zipped_settings parts ns vs h.1)

-- the values of slots are for slots
pub values_for_slots : (parts : List Slot) (ns : List ℕ) (slots : Row) → AreOfTypes slots (slot_types parts) → AreOfSlots parts ns (values_of_slots ns slots)
values_for_slots parts [] slots h = tt
values_for_slots parts (n ∷ ns) slots h = (λ t e. get_of_type slots (slot_types parts) n t h (slot_type_at parts n ∙ e), values_for_slots parts ns slots h)

-- a parameter is set
pub parameter_of_slots : (parts : List Slot) (ns : List ℕ) (vs : Row) (j : ℕ) (v : Value) → AreOfSlots parts ns vs
    → ((t : Ty) → type_of_parameter (map (λ n. slot_type parts n) ns) j ≡ Some t → IsTrue (is_of_type v t)) → AreOfSlots parts ns (slice_set vs j v)
parameter_of_slots parts [] [] j v h g = tt
parameter_of_slots parts [] (w ∷ vs) j v h g = absurd h
parameter_of_slots parts (n ∷ ns) [] j v h g = absurd h
parameter_of_slots parts (n ∷ ns) (w ∷ vs) zero v h g = (g, h.1)
parameter_of_slots parts (n ∷ ns) (w ∷ vs) (suc j) v h g = (h.0, parameter_of_slots parts ns vs j v h.1 g)

cleared_of_type : (role : SlotRole) (v : Value) (t : Ty) → IsTrue (is_of_type v t) → IsTrue (is_of_type (null_where_cleared role v) t)
cleared_of_type Cleared v t h = of_type Null t refl (type_bounds v t h)
cleared_of_type Kept v t h = h
cleared_of_type Column v t h = h
cleared_of_type Flag v t h = h

pub cleared_of_types : (parts : List Slot) (slots : Row) → AreOfTypes slots (slot_types parts) → AreOfTypes (without_cleared parts slots) (slot_types parts)
cleared_of_types [] slots h = h
cleared_of_types (s ∷ ss) [] h = absurd h
cleared_of_types (s ∷ ss) (v ∷ slots) h = (cleared_of_type s.role v s.ty h.0, cleared_of_types ss slots h.1)
