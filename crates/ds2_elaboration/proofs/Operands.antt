-- Operands that break no rule are typed, and so are their conversions.
use Rattle.std.proofs.Common.{◌≡◌, ◌==◌, Bool, true, false, [], ◌∷◌, ◌++◌, if◌then◌else◌, refl, sym, ap, ◌∙◌, subst}
use Rattle.std.proofs.lemmas.Bool.{and_parts, eqb-true}
use Rattle.ds2_base.specs.declared.place.Place.{Place}
use Rattle.ds2_value.specs.Types.{in_bounds, same_ty}
use Rattle.ds2_value.specs.declared.ty.Ty.{Ty}
use Rattle.ds2_value.specs.declared.ty.Ty.TheVariants.{BigInt, Decimal as DecimalOf, Char, Varchar}
use Rattle.ds2_meaning.specs.IsTyped.{NamesInScope, class_of, Decimals, Texts, IsNumeric, type_scale, expression_type, IsTypedExpression}
use Rattle.ds2_meaning.specs.TypedExpression.{TypedExpression, Widen, Convert}
use Rattle.ds2_meaning.specs.declared.refusals.TypeKind.TheVariants.{NotTruth}
use Rattle.ds2_elaboration.specs.TypedForms.{IsOfTyping, IsSoundlyElaborated, IsInType}
use Rattle.ds2_elaboration.specs.Typings.{TypeRefusals, type_refusal_at, clash_unless, Typing, Known, NullAt, Unknown, ElaboratedExpression, form_of_operands, is_numeric_type, is_characters, is_integer_type, is_assigned_from, where_known, null_clash, operand_clash, truth_refusals, assigned_refusals, widened_node, in_type, assigned_node}
use Rattle.ds2_elaboration.proofs.Outcome.{both_empty}

pub unclashed : (b : Bool) (place : Place) → clash_unless b place ≡ [] → b ≡ true
unclashed true place h = refl
unclashed false place h = cc

true_operand : (b : Bool) (place : Place) → (if b then [] else type_refusal_at NotTruth place) ≡ [] → b ≡ true
true_operand true place h = refl
true_operand false place h = cc

pub numeric : (ty : Ty) → is_numeric_type ty ≡ true → IsNumeric ty
numeric BigInt h = tt
numeric (DecimalOf p s) h = tt
numeric (Char n) h = cc
numeric (Varchar n) h = cc

pub integer : (ty : Ty) → is_integer_type ty ≡ true → ty ≡ BigInt
integer BigInt h = refl
integer (DecimalOf p s) h = cc
integer (Char n) h = cc
integer (Varchar n) h = cc

pub textual : (ty : Ty) → is_characters ty ≡ true → class_of ty ≡ Texts
textual BigInt h = cc
textual (DecimalOf p s) h = cc
textual (Char n) h = refl
textual (Varchar n) h = refl

pub one_type : (a b : Ty) → same_ty a b ≡ true → a ≡ b
one_type BigInt BigInt h = refl
one_type BigInt (DecimalOf q t) h = cc
one_type BigInt (Char m) h = cc
one_type BigInt (Varchar m) h = cc
one_type (DecimalOf p s) BigInt h = cc
one_type (DecimalOf p s) (DecimalOf q t) h =
    let parts = and_parts (p == q) (s == t) h in
    ap (λ k. DecimalOf k s) (eqb-true p q parts.0) ∙ ap (λ k. DecimalOf q k) (eqb-true s t parts.1)
one_type (DecimalOf p s) (Char m) h = cc
one_type (DecimalOf p s) (Varchar m) h = cc
one_type (Char n) BigInt h = cc
one_type (Char n) (DecimalOf q t) h = cc
one_type (Char n) (Char m) h = ap (λ k. Char k) (eqb-true n m h)
one_type (Char n) (Varchar m) h = cc
one_type (Varchar n) BigInt h = cc
one_type (Varchar n) (DecimalOf q t) h = cc
one_type (Varchar n) (Char m) h = cc
one_type (Varchar n) (Varchar m) h = ap (λ k. Varchar k) (eqb-true n m h)

module _ (names : NamesInScope) where
  -- an operand: typed, of a type in bounds that passes a test
  pub record Operand (test : Ty → Bool) (node : TypedExpression) : Type 0 where
    pub typed : IsTypedExpression names node
    pub bounds : in_bounds (expression_type node) ≡ true
    pub passes : test (expression_type node) ≡ true

  pub form_typed : (refusals : TypeRefusals) (node : TypedExpression)
      → (refusals ≡ [] → IsTypedExpression names node × (in_bounds (expression_type node) ≡ true))
      → IsSoundlyElaborated names (form_of_operands refusals node)
  form_typed [] node f h = let p = f refl in (p.0, refl, p.1)
  form_typed (r ∷ rs) node f h = cc

  known_operand : (test : Ty → Bool) (place : Place) (typing : Typing) (node : TypedExpression) → IsOfTyping names typing node
      → operand_clash test place typing ≡ [] → Operand test node
  known_operand test place (Known ty) node h c = record { typed = h.0; bounds = h.2; passes = ap test h.1 ∙ unclashed (test ty) place c }
  known_operand test place (NullAt word) node h c = cc
  known_operand test place Unknown node h c = absurd h

  pub operand : (test : Ty → Bool) (place : Place) (x : ElaboratedExpression) → IsSoundlyElaborated names x
      → x.refusals ++ operand_clash test place x.typing ≡ [] → Operand test x.node
  operand test place x f h = let p = both_empty x.refusals (operand_clash test place x.typing) h in known_operand test place x.typing x.node (f p.0) p.1

  known_truth : (place : Place) (typing : Typing) (node : TypedExpression) → IsOfTyping names typing node → null_clash typing ≡ []
      → where_known typing (λ ty. if is_numeric_type ty then [] else type_refusal_at NotTruth place) ≡ [] → Operand is_numeric_type node
  known_truth place (Known ty) node h n c = record { typed = h.0; bounds = h.2; passes = ap is_numeric_type h.1 ∙ true_operand (is_numeric_type ty) place c }
  known_truth place (NullAt word) node h n c = cc
  known_truth place Unknown node h n c = absurd h

  pub truth_operand : (place : Place) (x : ElaboratedExpression) → IsSoundlyElaborated names x → truth_refusals place x ≡ [] → Operand is_numeric_type x.node
  truth_operand place x f h =
      let p = both_empty (x.refusals ++ null_clash x.typing) (where_known x.typing (λ ty. if is_numeric_type ty then [] else type_refusal_at NotTruth place)) h in
      let q = both_empty x.refusals (null_clash x.typing) p.0 in
      known_truth place x.typing x.node (f q.0) q.1 p.1

  -- ---- conversions

  -- a number that is widened where it is a BIGINT: a DECIMAL of the same scale
  pub record Wide (ty : Ty) (node : TypedExpression) : Type 0 where
    pub typed : IsTypedExpression names node
    pub decimal : class_of (expression_type node) ≡ Decimals
    pub bounds : in_bounds (expression_type node) ≡ true
    pub scale : type_scale (expression_type node) ≡ type_scale ty

  pub wide_from : (ty : Ty) (node : TypedExpression) → expression_type node ≡ ty → IsTypedExpression names node → in_bounds (expression_type node) ≡ true
      → is_numeric_type ty ≡ true → Wide ty (if is_integer_type ty then Widen node else node)
  wide_from BigInt node e typed bounds h = record { typed = (typed, e); decimal = refl; bounds = refl; scale = refl }
  wide_from (DecimalOf p s) node e typed bounds h = record { typed = typed; decimal = ap class_of e; bounds = bounds; scale = ap type_scale e }
  wide_from (Char n) node e typed bounds h = cc
  wide_from (Varchar n) node e typed bounds h = cc

  pub wide : (node : TypedExpression) → Operand is_numeric_type node → Wide (expression_type node) (widened_node node)
  wide node o = wide_from (expression_type node) node refl o.typed o.bounds o.passes

  converted_if : (ty : Ty) (w : TypedExpression) (same : Bool) → same_ty (expression_type w) ty ≡ same → IsTypedExpression names w
      → class_of (expression_type w) ≡ class_of ty → in_bounds ty ≡ true → IsInType names ty (if same then w else Convert w ty)
  converted_if ty w true e typed class bounds = record { typed = typed; exact = one_type (expression_type w) ty e }
  converted_if ty w false e typed class bounds = record { typed = (typed, bounds, class); exact = refl }

  pub converted : (ty : Ty) (node : TypedExpression) → IsTypedExpression names node → in_bounds (expression_type node) ≡ true → in_bounds ty ≡ true
      → is_assigned_from ty (expression_type node) ≡ true → IsInType names ty (in_type ty node)
  converted BigInt node typed own bounds h =
      converted_if BigInt node (same_ty (expression_type node) BigInt) refl typed (ap class_of (integer (expression_type node) h)) bounds
  converted (DecimalOf p s) node typed own bounds h =
      let w = wide_from (expression_type node) node refl typed own h in
      converted_if (DecimalOf p s) (widened_node node) (same_ty (expression_type (widened_node node)) (DecimalOf p s)) refl w.typed w.decimal bounds
  converted (Char n) node typed own bounds h =
      converted_if (Char n) node (same_ty (expression_type node) (Char n)) refl typed (textual (expression_type node) h) bounds
  converted (Varchar n) node typed own bounds h =
      converted_if (Varchar n) node (same_ty (expression_type node) (Varchar n)) refl typed (textual (expression_type node) h) bounds

  -- ---- assigned values

  pub assigned_as : (ty : Ty) (place : Place) (x : ElaboratedExpression) (typing : Typing) → x.typing ≡ typing → IsOfTyping names typing x.node → in_bounds ty ≡ true
      → where_known typing (λ from. clash_unless (is_assigned_from ty from) place) ≡ [] → IsInType names ty (assigned_node ty x)
  assigned_as ty place x (Known from) e h bounds c =
      subst (λ (t : Typing). IsInType names ty (assigned_node ty (record { typing = t; refusals = x.refusals; node = x.node }))) (sym e)
      (converted ty x.node h.0 h.2 bounds (ap (is_assigned_from ty) h.1 ∙ unclashed (is_assigned_from ty from) place c))
  assigned_as ty place x (NullAt word) e h bounds c =
      subst (λ (t : Typing). IsInType names ty (assigned_node ty (record { typing = t; refusals = x.refusals; node = x.node }))) (sym e)
      (record { typed = (bounds, refl); exact = refl })
  assigned_as ty place x Unknown e h bounds c = absurd h

  -- a value that is assigned to a type is typed, and exactly of that type
  pub assigned_typed : (ty : Ty) (place : Place) (x : ElaboratedExpression) → IsSoundlyElaborated names x → in_bounds ty ≡ true
      → assigned_refusals ty place x ≡ [] → IsInType names ty (assigned_node ty x)
  assigned_typed ty place x f bounds h =
      let p = both_empty x.refusals (where_known x.typing (λ from. clash_unless (is_assigned_from ty from) place)) h in
      assigned_as ty place x x.typing refl (f p.0) bounds p.1
