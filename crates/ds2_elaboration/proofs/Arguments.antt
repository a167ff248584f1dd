-- Arguments of methods, and values for the parameters of thread programs, become typed ones where they break no rule.
use Rattle.std.proofs.Common.{◌≡◌, ℕ, is_some, Bool, true, false, List, [], ◌∷◌, ◌++◌, if◌then◌else◌, Some, None, refl, sym, ap, ◌∙◌, subst, true≢false}
use Rattle.std.specs.List.{AllByRecursion}
use Rattle.ds2_base.specs.declared.place.Place.{Place}
use Rattle.ds2_tree.specs.Globals.{Method}
use Rattle.ds2_value.specs.Types.{in_bounds, same_ty}
use Rattle.ds2_value.specs.declared.ty.Ty.{Ty}
use Rattle.ds2_meaning.specs.declared.globals.Variable as typed
use Rattle.ds2_meaning.specs.declared.location.Global.TheVariants.{Named, First, Last, Present, Parameter}
use Rattle.ds2_meaning.specs.declared.location.Reference.{Reference}
use Rattle.ds2_meaning.specs.declared.location.Reference.TheVariants.{At, Local}
use Rattle.ds2_meaning.specs.declared.methods.Parameter as parameters
use Rattle.ds2_meaning.specs.IsTyped.{NamesInScope, reference_type, IsTarget, AreTypedArguments, AreParameterValues}
use Rattle.ds2_meaning.specs.Method.{MethodTree}
use Rattle.ds2_meaning.specs.TypedExpression as tree
use Rattle.ds2_elaboration.specs.ExpressionTypes.{ElaboratedArguments, value_argument, is_settable_reference, reference_in, reference_or_none, in_out_argument, arguments_for, values_for}
use Rattle.ds2_elaboration.specs.FunctionTypes.{ElaboratedArgument}
use Rattle.ds2_elaboration.specs.SourceTypes.{elaborated_parameters}
use Rattle.ds2_elaboration.specs.TypedForms.{IsOfTyping, IsSoundArgument}
use Rattle.ds2_elaboration.specs.TypedScopes.{MethodStands}
use Rattle.ds2_elaboration.specs.Typings.{clash_unless, Typing, Known, NullAt, Unknown, where_known, assigned_refusals}
use Rattle.ds2_elaboration.proofs.Operands.{unclashed, one_type, assigned_typed}
use Rattle.ds2_elaboration.proofs.Outcome.{both_empty}

pub is_target : (r : Reference) → is_settable_reference r ≡ true → IsTarget r
is_target (At (Named name)) h = tt
is_target (At (Parameter name)) h = tt
is_target (At (First name)) h = cc
is_target (At (Last name)) h = cc
is_target (At (Present name)) h = cc
is_target (Local name) h = tt

module _ (names : NamesInScope) where
  -- a variable of this type that may be set
  abbrev IsHanded : Ty → Reference → Type 0
  IsHanded ty reference = IsTarget reference × (reference_type names reference ≡ Some ty)

  handed_if : (ty : Ty) (reference : Reference) (b : Bool) → is_settable_reference reference ≡ b → is_some (if b then Some reference else None) ≡ true
      → reference_type names reference ≡ Some ty → IsHanded ty (reference_or_none (if b then Some reference else None))
  handed_if ty reference true e s t = (is_target reference e, t)
  handed_if ty reference false e s t = cc

  handed : (ty : Ty) (place : Place) (typing : Typing) (node : tree.TypedExpression) → IsOfTyping names typing node → is_some (reference_in node) ≡ true
      → where_known typing (λ own. clash_unless (same_ty own ty) place) ≡ [] → IsHanded ty (reference_or_none (reference_in node))
  handed ty place (Known own) (tree.Variable reference declared) h s w =
      handed_if ty reference (is_settable_reference reference) refl s (h.0 ∙ ap (λ t. Some t) (h.1 ∙ one_type own ty (unclashed (same_ty own ty) place w)))
  handed ty place (Known own) _ h s w = cc
  handed ty place (NullAt word) node h s w = absurd (true≢false (sym s ∙ ap (λ n. is_some (reference_in n)) h))
  handed ty place Unknown node h s w = absurd h

  argument_if : (p : parameters.Parameter) (ps : List parameters.Parameter) (x : ElaboratedArgument) (rest : ElaboratedArguments) (b : Bool) → p.is_in_out ≡ b
      → in_bounds p.ty ≡ true → IsSoundArgument names x → (rest.refusals ≡ [] → AreTypedArguments names ps rest.arguments)
      → (if b then in_out_argument p.ty x rest else value_argument p.ty x rest).refusals ≡ []
      → AreTypedArguments names (p ∷ ps) (if b then in_out_argument p.ty x rest else value_argument p.ty x rest).arguments
  argument_if p ps x rest true e bounds f r h =
      let own = clash_unless (is_some (reference_in x.value.node)) x.place in
      let exact = where_known x.value.typing (λ own. clash_unless (same_ty own p.ty) x.place) in
      let a = both_empty (x.value.refusals ++ own ++ exact) rest.refusals h in
      let c = both_empty (x.value.refusals ++ own) exact a.0 in
      let d = both_empty x.value.refusals own c.0 in
      let t = handed p.ty x.place x.value.typing x.value.node (f d.0) (unclashed (is_some (reference_in x.value.node)) x.place d.1) c.1 in
      (e, t.0, t.1, r a.1)
  argument_if p ps x rest false e bounds f r h =
      let a = both_empty (assigned_refusals p.ty x.place x.value) rest.refusals h in
      let t = assigned_typed names p.ty x.place x.value f bounds a.0 in
      (e, t.typed, t.exact, r a.1)

  pub arguments_fit : (place : Place) (ps : List parameters.Parameter) (xs : List ElaboratedArgument)
      → AllByRecursion (λ (p : parameters.Parameter). in_bounds p.ty ≡ true) ps → AllByRecursion (IsSoundArgument names) xs
      → (arguments_for place ps xs).refusals ≡ [] → AreTypedArguments names ps (arguments_for place ps xs).arguments
  arguments_fit place [] [] b f h = tt
  arguments_fit place [] (x ∷ xs) b f h = cc
  arguments_fit place (p ∷ ps) [] b f h = cc
  arguments_fit place (p ∷ ps) (x ∷ xs) b f h =
      argument_if p ps x (arguments_for place ps xs) p.is_in_out refl b.0 f.0 (arguments_fit place ps xs b.1 f.1) h

  -- the arguments of a method that can be called
  pub method_arguments : (methods : List MethodTree) (place : Place) (number : ℕ) (m : Method) (xs : List ElaboratedArgument) → (s : MethodStands methods number m)
      → AllByRecursion (IsSoundArgument names) xs → (arguments_for place (elaborated_parameters m) xs).refusals ≡ []
      → AreTypedArguments names s.method.parameters (arguments_for place (elaborated_parameters m) xs).arguments
  method_arguments methods place number m xs s f h =
      subst (λ ps. AreTypedArguments names ps (arguments_for place (elaborated_parameters m) xs).arguments) (sym s.parameters)
      (arguments_fit place (elaborated_parameters m) xs s.parameter_bounds f h)

  -- the values for the parameters of a thread program
  pub values_fit : (place : Place) (ps : List typed.Variable) (xs : List ElaboratedArgument) → AllByRecursion (λ (v : typed.Variable). in_bounds v.ty ≡ true) ps
      → AllByRecursion (IsSoundArgument names) xs → (values_for place ps xs).refusals ≡ [] → AreParameterValues names ps (values_for place ps xs).values
  values_fit place [] [] b f h = tt
  values_fit place [] (x ∷ xs) b f h = cc
  values_fit place (p ∷ ps) [] b f h = cc
  values_fit place (p ∷ ps) (x ∷ xs) b f h =
      let a = both_empty (assigned_refusals p.ty x.place x.value) (values_for place ps xs).refusals h in
      let t = assigned_typed names p.ty x.place x.value f.0 b.0 a.0 in
      (refl, t.typed, t.exact, values_fit place ps xs b.1 f.1 a.1)
