-- Comparisons that break no rule become typed nodes.
use Rattle.std.proofs.Common.{◌≡◌, true, [], ◌++◌, refl, sym, ap, ◌∙◌}
use Rattle.ds2_base.specs.declared.place.Place.{Place}
use Rattle.ds2_token.specs.declared.token.Token.{Token}
use Rattle.ds2_value.specs.Types.{in_bounds}
use Rattle.ds2_value.specs.declared.ty.Ty.{Ty}
use Rattle.ds2_value.specs.declared.ty.Ty.TheVariants.{BigInt, Decimal as DecimalOf, Char, Varchar}
use Rattle.ds2_meaning.specs.IsTyped.{NamesInScope, class_of, expression_type, IsTypedExpression}
use Rattle.ds2_meaning.specs.TypedExpression.{TypedExpression}
use Rattle.ds2_elaboration.specs.OperatorTypes.{compared_node, elaborated_comparison}
use Rattle.ds2_elaboration.specs.TypedForms.{IsOfTyping, IsSoundlyElaborated}
use Rattle.ds2_elaboration.specs.Typings.{TypeRefusals, clash_unless, Typing, Known, NullAt, Unknown, ElaboratedExpression, is_numeric_type, are_comparable, where_both_known}
use Rattle.ds2_elaboration.proofs.Outcome.{both_empty}
use Rattle.ds2_elaboration.proofs.Operands.{unclashed, wide}

module _ (names : NamesInScope) where
  -- both sides of a comparison are typed and of one kind
  abbrev AreCompared : TypedExpression → TypedExpression → Type 0
  AreCompared a b = IsTypedExpression names a × IsTypedExpression names b × (class_of (expression_type a) ≡ class_of (expression_type b))

  -- an expression with what is known of it
  abbrev one_side : Typing → TypeRefusals → TypedExpression → ElaboratedExpression
  one_side typing refusals node = record { typing = typing; refusals = refusals; node = node }

  numbers_compared : (t u : Ty) (r q : TypeRefusals) (a b : TypedExpression) → IsOfTyping names (Known t) a → IsOfTyping names (Known u) b → are_comparable t u ≡ true
      → AreCompared (compared_node (one_side (Known t) r a) (Known u)) (compared_node (one_side (Known u) q b) (Known t))
  numbers_compared BigInt BigInt r k a b x y h = (x.0, y.0, ap class_of (x.1 ∙ sym y.1))
  numbers_compared BigInt (DecimalOf q v) r k a b x y h =
      let w = wide names a (record { typed = x.0; bounds = x.2; passes = ap is_numeric_type x.1 }) in (w.typed, y.0, w.decimal ∙ sym (ap class_of y.1))
  numbers_compared BigInt (Char m) r k a b x y h = cc
  numbers_compared BigInt (Varchar m) r k a b x y h = cc
  numbers_compared (DecimalOf p s) BigInt r k a b x y h =
      let w = wide names b (record { typed = y.0; bounds = y.2; passes = ap is_numeric_type y.1 }) in (x.0, w.typed, ap class_of x.1 ∙ sym w.decimal)
  numbers_compared (DecimalOf p s) (DecimalOf q v) r k a b x y h =
      let l = wide names a (record { typed = x.0; bounds = x.2; passes = ap is_numeric_type x.1 }) in
      let r = wide names b (record { typed = y.0; bounds = y.2; passes = ap is_numeric_type y.1 }) in
      (l.typed, r.typed, l.decimal ∙ sym r.decimal)
  numbers_compared (DecimalOf p s) (Char m) r k a b x y h = cc
  numbers_compared (DecimalOf p s) (Varchar m) r k a b x y h = cc
  numbers_compared (Char n) BigInt r k a b x y h = cc
  numbers_compared (Char n) (DecimalOf q v) r k a b x y h = cc
  numbers_compared (Char n) (Char m) r k a b x y h = (x.0, y.0, ap class_of x.1 ∙ sym (ap class_of y.1))
  numbers_compared (Char n) (Varchar m) r k a b x y h = (x.0, y.0, ap class_of x.1 ∙ sym (ap class_of y.1))
  numbers_compared (Varchar n) BigInt r k a b x y h = cc
  numbers_compared (Varchar n) (DecimalOf q v) r k a b x y h = cc
  numbers_compared (Varchar n) (Char m) r k a b x y h = (x.0, y.0, ap class_of x.1 ∙ sym (ap class_of y.1))
  numbers_compared (Varchar n) (Varchar m) r k a b x y h = (x.0, y.0, ap class_of x.1 ∙ sym (ap class_of y.1))

  sides_compared : (place : Place) (t u : Typing) (r q : TypeRefusals) (a b : TypedExpression) → IsOfTyping names t a → IsOfTyping names u b
      → where_both_known t u (λ x y. clash_unless (are_comparable x y) place) ≡ []
      → AreCompared (compared_node (one_side t r a) u) (compared_node (one_side u q b) t)
  sides_compared place (Known t) (Known u) r k a b x y h = numbers_compared t u r k a b x y (unclashed (are_comparable t u) place h)
  sides_compared place (Known t) (NullAt word) r k a b x y h = (x.0, (sym (ap in_bounds x.1) ∙ x.2, refl), ap class_of x.1)
  sides_compared place (Known t) Unknown r k a b x y h = absurd y
  sides_compared place (NullAt word) (Known u) r k a b x y h = ((sym (ap in_bounds y.1) ∙ y.2, refl), y.0, sym (ap class_of y.1))
  sides_compared place (NullAt word) (NullAt other) r k a b x y h = ((refl, refl), (refl, refl), refl)
  sides_compared place (NullAt word) Unknown r k a b x y h = absurd y
  sides_compared place Unknown u r k a b x y h = absurd x

  pub comparison_typed : (operator : Token) (a b : ElaboratedExpression) → IsSoundlyElaborated names a → IsSoundlyElaborated names b
      → IsSoundlyElaborated names (elaborated_comparison operator a b)
  comparison_typed operator a b f g h =
      let rule = where_both_known a.typing b.typing (λ x y. clash_unless (are_comparable x y) operator.place) in
      let p = both_empty (a.refusals ++ b.refusals) rule h in
      let q = both_empty a.refusals b.refusals p.0 in
      (sides_compared operator.place a.typing b.typing a.refusals b.refusals a.node b.node (f q.0) (g q.1) p.1, refl, refl)
