-- The deeds of methods and of constructors.
use Rattle.std.proofs.Common.{◌≡◌, ◌<◌, ℕ, ◌+◌, List, [], ◌∷◌, length, drop, map, get_or, slice_get, Option, None, option_map, sym, ap, ◌∙◌}
use Rattle.ds2_meaning.specs.declared.methods.Method.{Method}
use Rattle.ds2_meaning.specs.declared.units.Instance.{Instance}
use Rattle.ds2_meaning.specs.ProgramTree.{UnitTree, methods_of}
use Rattle.ds2_meaning.specs.TypedExpression.{TypedArguments, NoArgument}
use Rattle.ds2_meaning.specs.TypedStatement.{TypedStatements}
use Rattle.ds2_meaning.specs.View.{in_a_row, argument_tree, constructors_first, typed_method}
use Rattle.ds2_locality.specs.Deeds.{MethodAt, CodeScope, constructor_deeds, body_deeds, deeds_of_method, method_deeds}
use Rattle.ds2_deeds.specs.declared.deed.NumberedDeed.{NumberedDeed}
use Rattle.ds2_deeds.specs.NumberedDeeds.{ProgramNumbers, with_deeds}
use Rattle.ds2_deeds.proofs.DeedLemmas.{both_added, drop_next}

-- a method that is not there does nothing
pub no_method : (p : UnitTree) (m : MethodAt) (o : Option Method) → option_map typed_method o ≡ slice_get (methods_of p m.home) m.number → o ≡ None → method_deeds p m ≡ []
no_method p m o is none = ap (λ x. deeds_of_method p m.home x) (sym is ∙ ap (λ (x : Option Method). option_map typed_method x) none)

module _ (n : ProgramNumbers) (s : CodeScope) where
  -- the arguments of the constructor of an instance
  abbrev pub arguments_of : Instance → TypedArguments
  arguments_of i = in_a_row (map argument_tree i.arguments) NoArgument

  -- an instance does what its constructor does, where it has one
  pub constructor_done : (i : Instance) (o : Option ℕ) (rest : TypedStatements) (before grown : List NumberedDeed) → i.constructor ≡ o → grown ≡ with_deeds n (constructor_deeds s i.name o (arguments_of i)) before
      → with_deeds n (body_deeds s rest) grown ≡ with_deeds n (body_deeds s (constructors_first (i ∷ []) rest)) before
  constructor_done i o rest before grown e is =
      ap (λ d. with_deeds n (body_deeds s rest) d) (is ∙ ap (λ (x : Option ℕ). with_deeds n (constructor_deeds s i.name x (arguments_of i)) before) (sym e))
      ∙ sym (both_added n (constructor_deeds s i.name i.constructor (arguments_of i)) (body_deeds s rest) before)

  -- one instance more, by a scope that is this one
  pub instance_done : (instances : List Instance) (i : ℕ) (x : Instance) (rest : TypedStatements) (own : CodeScope) (now next whole : List NumberedDeed) → i < length instances → x ≡ get_or instances i x → own ≡ s
      → ((r : TypedStatements) → with_deeds n (body_deeds own r) next ≡ with_deeds n (body_deeds own (constructors_first (x ∷ []) r)) now)
      → with_deeds n (body_deeds s (constructors_first (drop i instances) rest)) now ≡ whole → with_deeds n (body_deeds s (constructors_first (drop (i + 1) instances) rest)) next ≡ whole
  instance_done instances i x rest own now next whole lt here same step before =
      let r = constructors_first (drop (i + 1) instances) rest in
      sym (ap (λ z. with_deeds n (body_deeds z r) next) same) ∙ step r ∙ ap (λ z. with_deeds n (body_deeds z (constructors_first (x ∷ []) r)) now) same
      ∙ ap (λ (l : List Instance). with_deeds n (body_deeds s (constructors_first l rest)) now) (sym (drop_next instances i x lt here)) ∙ before
