-- `return`, once it is told whether it has a value.
use Rattle.std.proofs.Common.{◌≡◌, [], Option, Some, None, refl, sym, ap, ◌∙◌, subst}
use Rattle.ds2_base.specs.declared.place.Place.{Place}
use Rattle.ds2_tree.specs.Expressions.{Expression}
use Rattle.ds2_value.specs.declared.ty.Ty.{Ty}
use Rattle.ds2_meaning.specs.TypedStatement as t
use Rattle.ds2_elaboration.specs.ExpressionTypes.{TypeScope, elaborated}
use Rattle.ds2_elaboration.specs.StatementTypes.{return_refusals, return_node}
use Rattle.ds2_expression_types.specs.Arguments.{value_in}
use Rattle.ds2_simple_statement_types.specs.StatementOutcomes.{StandsAs}
use Rattle.ds2_simple_statement_types.specs.ReturnedAndWritten.{returned_refusals}
use Rattle.ds2_simple_statement_types.proofs.PartOutcomes.{stands_as, Results}

module _ (types : TypeScope) (place : Place) where
  -- without a value
  pub returned_nothing : (value : Option Expression) (result : Results) → value ≡ None → StandsAs [] (t.Return place) result
      → StandsAs (return_refusals types place types.returns value) (return_node types place types.returns value) result
  returned_nothing value result e h =
      stands_as _ _ _ _ result (ap (return_refusals types place types.returns) e) (ap (return_node types place types.returns) e) h

  value_broken : (returns : Option Ty) (e : Expression) → return_refusals types place returns (Some e) ≡ returned_refusals place returns (elaborated types e)
  value_broken None e = refl
  value_broken (Some ty) e = refl

  value_formed : (returns : Option Ty) (e : Expression) → return_node types place returns (Some e) ≡ t.ReturnValue place (value_in returns (elaborated types e))
  value_formed None e = refl
  value_formed (Some ty) e = refl

  -- with a value
  pub returned_something : (returns : Option Ty) (value : Option Expression) (e : Expression) (result : Results) → returns ≡ types.returns → value ≡ Some e
      → StandsAs (returned_refusals place returns (elaborated types e)) (t.ReturnValue place (value_in returns (elaborated types e))) result
      → StandsAs (return_refusals types place types.returns value) (return_node types place types.returns value) result
  returned_something returns value e result r v h =
      subst (λ (own : Option Ty). StandsAs (return_refusals types place own value) (return_node types place own value) result) r
      (stands_as _ _ _ _ result (ap (return_refusals types place returns) v ∙ value_broken returns e) (ap (return_node types place returns) v ∙ value_formed returns e) h)
