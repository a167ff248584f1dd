-- Instances of packages.
use Rattle.std.proofs.Common.{◌≡◌, List, [], map, Option, Some, None, Result, Ok, Err, refl, sym, ap, ◌∙◌, subst}
use Rattle.ds2_base.specs.declared.place.Place.{Place}
use Rattle.ds2_base.specs.declared.place.Refusal.{Refusal}
use Rattle.ds2_tree.specs.Globals.{Method}
use Rattle.ds2_tree.specs.declared.globals.Constant.{Constant}
use Rattle.ds2_meaning.specs.TypedExpression.{NoArgument}
use Rattle.ds2_meaning.specs.View.{argument_tree, in_a_row, instance_tree}
use Rattle.ds2_meaning.specs.declared.expressions.Argument.{Argument}
use Rattle.ds2_meaning.specs.declared.methods.Parameter.{Parameter}
use Rattle.ds2_meaning.specs.declared.refusals.TypeKind.{TypeKind}
use Rattle.ds2_meaning.specs.declared.units.Instance as typed
use Rattle.ds2_names.specs.SourceUnit.{spelled_name}
use Rattle.ds2_scope.specs.declared.instances.Instance.{Instance}
use Rattle.ds2_elaboration.specs.ExpressionTypes.{ElaboratedArguments, arguments_for}
use Rattle.ds2_elaboration.specs.ProgramTypes.{arguments_of_constructor, constructor_arguments, constructor_of}
use Rattle.ds2_elaboration.specs.SourceTypes.{elaborated_parameters}
use Rattle.ds2_elaboration.specs.UnitsBefore.{PackageTypes}
use Rattle.ds2_reference_types.specs.Passing.{AreAllPassed}
use Rattle.ds2_types.specs.Judgements.{IsOutcome}
use Rattle.ds2_instance_types.specs.PackageInstances.{construction_of, construction_with, instance_of_types, IsInstanceOf}

-- a package without a constructor
pub none_constructed : (place : Place) (constants : List Constant) (m : Option Method) (none : List Argument) → m ≡ None → none ≡ []
    → AreAllPassed (arguments_of_constructor place constants m) (Ok none)
none_constructed place constants m none e f =
    subst (λ (o : Option Method). AreAllPassed (arguments_of_constructor place constants o) (Ok none)) (sym e) (refl, ap (λ (l : List Argument). in_a_row (map argument_tree l) NoArgument) f)

-- one with a constructor that has these parameters
pub one_constructed : (place : Place) (constants : List Constant) (m : Option Method) (own : Method) (ps : List Parameter) (passed : Result (List Argument) (Refusal TypeKind)) → m ≡ Some own
    → ps ≡ elaborated_parameters own → AreAllPassed (arguments_for place ps (constructor_arguments constants)) passed → AreAllPassed (arguments_of_constructor place constants m) passed
one_constructed place constants m own ps passed e f h =
    subst (λ (a : ElaboratedArguments). AreAllPassed a passed)
    (ap (λ (l : List Parameter). arguments_for place l (constructor_arguments constants)) f ∙ ap (arguments_of_constructor place constants) (sym e)) h

-- an instance whose constants break a rule
module _ (a : ElaboratedArguments) (passed : Result (List Argument) (Refusal TypeKind)) (h : AreAllPassed a passed) where
  pub constants_broken : {A : Type 0} (IsSo : A → Type 0) (r : Refusal TypeKind) → passed ≡ Err r → IsOutcome IsSo a.refusals (Err r)
  constants_broken IsSo r e = subst (AreAllPassed a) e h

  pub constants_passed : (l : List Argument) → passed ≡ Ok l → (a.refusals ≡ []) × (in_a_row (map argument_tree l) NoArgument ≡ a.arguments)
  constants_passed l e = subst (AreAllPassed a) e h

-- one whose constants break none
pub instance_made : (i : Instance) (constants : List Constant) (p : PackageTypes) (passed : Result (List Argument) (Refusal TypeKind)) (l : List Argument) (own : typed.Instance)
    → AreAllPassed (arguments_of_constructor i.name.now.place constants (constructor_of p)) passed → passed ≡ Ok l
    → instance_tree own ≡ instance_of_types (spelled_name i.name.now) p
    → construction_of own ≡ construction_with i.keyword.now.place (spelled_name i.name.now) p (in_a_row (map argument_tree l) NoArgument)
    → IsOutcome (IsInstanceOf i constants p) (arguments_of_constructor i.name.now.place constants (constructor_of p)).refusals (Ok own)
instance_made i constants p passed l own h e tree call =
    let so = constants_passed (arguments_of_constructor i.name.now.place constants (constructor_of p)) passed h l e in
    (so.0, record { tree = tree; call = call ∙ ap (construction_with i.keyword.now.place (spelled_name i.name.now) p) so.1 })
