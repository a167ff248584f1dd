-- Each constant that code uses has its number.
use Rattle.std.proofs.Common.{◌≡◌, ℕ, zero, suc, nat_eq, Bool, true, false, ◌||◌, List, [], ◌∷◌, ◌++◌, map, flat_map, slice_get, Option, Some, unwrap_or, ℤ, refl, sym, ap, ◌∙◌, subst, eq-eqb, eqb-true, Ordering, Less, Equal, Greater, is_eq, int_cmp, if◌then◌else◌}
use Rattle.std.specs.List.{list_any, fold}
use Rattle.std.specs.Option.{option_map, option_map_or}
use Rattle.std.specs.Ordering.{int_eq}
use Rattle.std.proofs.lemmas.Bool.{true≢false, and_parts, and_from}
use Rattle.std.proofs.lemmas.Cmp.{int_eq_equiv}
use Rattle.std.proofs.lemmas.Map.Lookups.{exact_signed}
use Rattle.std.proofs.lemmas.Slice.Eq.{bytes_eq-Decides}
use Rattle.ds2_value.specs.Types.{same_ty}
use Rattle.ds2_value.specs.Value.{is_null}
use Rattle.ds2_value.specs.declared.ty.Ty.{Ty}
use Rattle.ds2_value.specs.declared.ty.Ty.TheVariants.{BigInt, Decimal as DecimalOf, Char, Varchar}
use Rattle.ds2_value.specs.declared.value.Value.{Value}
use Rattle.ds2_value.specs.declared.value.Value.TheVariants.{Null, Int, Dec, Txt}
use Rattle.ds2_meaning.specs.ProgramTree.{UnitTree}
use Rattle.ds2_code.specs.declared.parts.Constant.{Constant}
use Rattle.ds2_code.specs.declared.parts.ProgramParts.{ProgramParts}
use Rattle.ds2_code.specs.Desk.{constant_value}
use Rattle.ds2_gen.specs.CoveredForms.{HasConstant}
use Rattle.ds2_gen.specs.ExpressionCode.{CodeNumbers}
use Rattle.ds2_program_code.specs.UsedConstants.{UsedConstant, constants_of_body, HaveConstants}
use Rattle.ds2_program_code.specs.CodeConstants.{is_one_value, is_one_constant, with_used_constant, constant_number, constant_part}
use Rattle.ds2_program_code.specs.CodeMethods.{CodeMethod}
use Rattle.ds2_program_code.specs.ProgramCode.{constants_of_program, code_constants}
use Rattle.ds2_program_code.proofs.Lists.{same_some, any_in_front, any_in_back, number_of_any, number_passes, slice_mapped}

-- ---- one constant

int_self : (i : ℤ) → int_eq i i ≡ true
int_self i = int_eq_equiv.refl i

order_is : (o : Ordering) → is_eq o ≡ true → o ≡ Equal
order_is Less e = absurd (true≢false (sym e))
order_is Equal e = refl
order_is Greater e = absurd (true≢false (sym e))

int_same : (a b : ℤ) → int_eq a b ≡ true → a ≡ b
int_same a b e = exact_signed a b (order_is (int_cmp a b) e)

same_self : (t : Ty) → same_ty t t ≡ true
same_self BigInt = refl
same_self (DecimalOf p s) = and_from (nat_eq p p) (nat_eq s s) (eq-eqb p p refl) (eq-eqb s s refl)
same_self (Char n) = eq-eqb n n refl
same_self (Varchar n) = eq-eqb n n refl

value_self : (v : Value) → is_one_value v v ≡ true
value_self Null = refl
value_self (Int i) = int_self i
value_self (Dec d) = and_from (int_eq d.units d.units) (nat_eq d.scale d.scale) (int_self d.units) (eq-eqb d.scale d.scale refl)
value_self (Txt t) = (bytes_eq-Decides t t).1 refl

constant_self : (c : UsedConstant) → is_one_constant c c ≡ true
constant_self c = and_from (same_ty c.ty c.ty) (is_one_value c.value c.value) (same_self c.ty) (value_self c.value)

abbrev decimal_of : ℤ → ℕ → Value
decimal_of units scale = Dec (record { units = units; scale = scale })

value_same : (a b : Value) → is_one_value a b ≡ true → a ≡ b
value_same Null Null e = refl
value_same (Int a) (Int b) e = ap Int (int_same a b e)
value_same (Dec a) (Dec b) e =
    let parts = and_parts (int_eq a.units b.units) (nat_eq a.scale b.scale) e in
    ap (λ u. decimal_of u a.scale) (int_same a.units b.units parts.0) ∙ ap (λ s. decimal_of b.units s) (eqb-true a.scale b.scale parts.1)
value_same (Txt a) (Txt b) e = ap Txt ((bytes_eq-Decides a b).0 e)
value_same _ _ e = absurd (true≢false (sym e))

-- ---- constants that are listed

abbrev pub is_listed_in : List UsedConstant → UsedConstant → Bool
is_listed_in constants c = list_any (λ other. is_one_constant c other) constants

stays_by : (b : Bool) (constants : List UsedConstant) (c x : UsedConstant) → is_listed_in constants c ≡ true → is_listed_in (if b then constants else constants ++ x ∷ []) c ≡ true
stays_by true constants c x e = e
stays_by false constants c x e = any_in_front (λ other. is_one_constant c other) constants (x ∷ []) e

stays : (used constants : List UsedConstant) (c : UsedConstant) → is_listed_in constants c ≡ true → is_listed_in (fold with_used_constant constants used) c ≡ true
stays [] constants c e = e
stays (x ∷ used) constants c e = stays used (with_used_constant constants x) c (stays_by (is_null x.value || is_listed_in constants x) constants c x e)

joins_by : (null there : Bool) (constants : List UsedConstant) (c : UsedConstant) → null ≡ false → is_listed_in constants c ≡ there → is_listed_in (if null || there then constants else constants ++ c ∷ []) c ≡ true
joins_by true there constants c e f = absurd (true≢false e)
joins_by false true constants c e f = f
joins_by false false constants c e f = any_in_back (λ other. is_one_constant c other) constants (c ∷ []) (ap (λ b. b || false) (constant_self c))

joins : (constants : List UsedConstant) (c : UsedConstant) → is_null c.value ≡ false → is_listed_in (with_used_constant constants c) c ≡ true
joins constants c e = joins_by (is_null c.value) (is_listed_in constants c) constants c e refl

-- each of these that is not null is listed
abbrev pub AreListed : List UsedConstant → List UsedConstant → Type 0
AreListed constants [] = Unit {0}
AreListed constants (c ∷ used) = (is_null c.value ≡ false → is_listed_in constants c ≡ true) × AreListed constants used

pub all_listed : (used constants : List UsedConstant) → AreListed (fold with_used_constant constants used) used
all_listed [] constants = tt
all_listed (c ∷ used) constants = (λ e. stays used (with_used_constant constants c) c (joins constants c e), all_listed used (with_used_constant constants c))

-- ---- their numbers

found_value : (constants : List UsedConstant) (c : UsedConstant) → is_listed_in constants c ≡ true → constant_value (constant_number constants c.value c.ty) (map constant_part constants) ≡ c.value
found_value constants c e =
    let it = number_of_any (λ other. is_one_constant c other) constants e in
    let passes = number_passes (λ other. is_one_constant c other) constants it.0 it.1 in
    let y = passes.0 in
    ap (λ o. constant_value (unwrap_or o 0) (map constant_part constants)) it.1
    ∙ ap (λ (o : Option Constant). option_map_or (λ (k : Constant). k.value) o Null) (slice_mapped constant_part constants it.0 ∙ ap (λ o. option_map constant_part o) passes.1)
    ∙ sym (value_same c.value (UsedConstant.value y) (and_parts (same_ty c.ty (UsedConstant.ty y)) (is_one_value c.value (UsedConstant.value y)) passes.2).1)

constant_by : (code : ProgramParts) (numbers : CodeNumbers) (v : Value) (ty : Ty) → (is_null v ≡ false → constant_value (numbers.constant v ty) code.constants ≡ v) → HasConstant code numbers v ty
constant_by code numbers Null ty h = tt
constant_by code numbers (Int i) ty h = h refl
constant_by code numbers (Dec d) ty h = h refl
constant_by code numbers (Txt t) ty h = h refl

module _ (code : ProgramParts) (numbers : CodeNumbers) where
  have_listed : (constants used : List UsedConstant) → code.constants ≡ map constant_part constants → numbers.constant ≡ constant_number constants → AreListed constants used → HaveConstants code numbers used
  have_listed constants [] e f listed = tt
  have_listed constants (c ∷ used) e f listed = (
    constant_by code numbers c.value c.ty
        (λ some. ap (λ (g : Value → Ty → ℕ). constant_value (g c.value c.ty) code.constants) f ∙ ap (λ l. constant_value (constant_number constants c.value c.ty) l) e ∙ found_value constants c (listed.0 some)),
    have_listed constants used e f listed.1,
  )

  -- the constants of a program have their numbers
  pub program_constants : (p : UnitTree) → code.constants ≡ map constant_part (code_constants p) → numbers.constant ≡ constant_number (code_constants p) → HaveConstants code numbers (constants_of_program p)
  program_constants p e f = have_listed (code_constants p) (constants_of_program p) e f (all_listed (constants_of_program p) [])

  pub first_have : (xs ys : List UsedConstant) → HaveConstants code numbers (xs ++ ys) → HaveConstants code numbers xs
  first_have [] ys h = tt
  first_have (x ∷ xs) ys h = (h.0, first_have xs ys h.1)

  pub rest_have : (xs ys : List UsedConstant) → HaveConstants code numbers (xs ++ ys) → HaveConstants code numbers ys
  rest_have [] ys h = h
  rest_have (x ∷ xs) ys h = rest_have xs ys h.1

  pub method_have : (methods : List CodeMethod) (n : ℕ) (m : CodeMethod) → slice_get methods n ≡ Some m → HaveConstants code numbers (flat_map (λ (x : CodeMethod). constants_of_body x.method.body) methods)
      → HaveConstants code numbers (constants_of_body m.method.body)
  method_have [] n m e h = absurd cc
  method_have (x ∷ methods) zero m e h =
      subst (λ (y : CodeMethod). HaveConstants code numbers (constants_of_body y.method.body)) (same_some x m e)
      (first_have (constants_of_body x.method.body) (flat_map (λ (y : CodeMethod). constants_of_body y.method.body) methods) h)
  method_have (x ∷ methods) (suc n) m e h =
      method_have methods n m e (rest_have (constants_of_body x.method.body) (flat_map (λ (y : CodeMethod). constants_of_body y.method.body) methods) h)
