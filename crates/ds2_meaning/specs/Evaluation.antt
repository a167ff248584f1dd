-- What an expression means: its value or a fault, with its operands from the left.
use Rattle.std.specs.Prelude.{ℕ, List, [], ◌∷◌, Option, Some, None, if◌then◌else◌}
use Rattle.ds2_value.specs.Operations.{widened}
use Rattle.ds2_value.specs.Value.{compared_of}
use Rattle.ds2_value.specs.declared.fault.Fault.{Fault}
use Rattle.ds2_value.specs.declared.value.Value.{Value}
use Rattle.ds2_meaning.specs.HashObjects.{DeclaredObjects, hash_named, iterator_named, call_hash, call_iterator}
use Rattle.ds2_meaning.specs.Location.{Home}
use Rattle.ds2_meaning.specs.RunState.{RunState, ExpressionEnd, Gives, Breaks, then_operand, ExpressionsEnd, GiveAll, BreakAt, variable_value, store}
use Rattle.ds2_meaning.specs.TypedExpression.{TypedExpression, Constant, Variable, Widen, Convert, Prefixed, Chain, Compared, Applied, Called, HashCalled, IteratorCalled, Links, NoLink, Link, TypedExpressions, NoExpression, Then, TypedArguments, NoArgument, ByValue, InOut}
use Rattle.ds2_meaning.specs.ValueOperations.{operated, prefixed, converted, applied}

-- how a called method ends: with its result, the last values of its in_out parameters and the caller's state, or with a fault
pub data CallEnd : Type 0 where
  Answers : (result : Value) → (handed_back : List Value) → RunState → CallEnd
  CallBreaks : Fault → RunState → CallEnd

-- what calls do: a method of a home, by its number, with arguments
abbrev pub Calls : Type 0
Calls = Home → ℕ → List Value → RunState → CallEnd

-- what a statement finds around it: what calls do, the hash objects and iterators of its unit, the variables of each output's
-- columns, and whose code it is
pub record Surroundings : Type 0 where
  pub calls : Calls
  pub objects : DeclaredObjects
  pub outputs : List (List (List ℕ))
  pub home : Home

-- whose method is called: an instance's, or one of the caller's own unit
abbrev pub callee_home : Home → Option (List ℕ) → Home
callee_home home None = home
callee_home home (Some instance) = Some instance

-- one more value before those that follow
abbrev pub with_one_more : Value → ExpressionsEnd → ExpressionsEnd
with_one_more v (GiveAll vs w) = GiveAll (v ∷ vs) w
with_one_more v (BreakAt f w) = BreakAt f w

-- goes on with the expressions that follow the first
abbrev pub then_others : ExpressionEnd → (RunState → ExpressionsEnd) → ExpressionsEnd
then_others (Gives v w) go = with_one_more v (go w)
then_others (Breaks f w) go = BreakAt f w

-- goes on with the values of all
abbrev pub then_all : ExpressionsEnd → (List Value → RunState → ExpressionEnd) → ExpressionEnd
then_all (GiveAll vs w) go = go vs w
then_all (BreakAt f w) go = Breaks f w

-- calls a method with the values of its arguments
abbrev pub then_call : ExpressionsEnd → (List Value → RunState → CallEnd) → CallEnd
then_call (GiveAll vs w) go = go vs w
then_call (BreakAt f w) go = CallBreaks f w

-- the variables that were handed in and out have the last values of their parameters; of a variable that was handed in twice
-- the first one stays
abbrev pub taken_back : Home → TypedArguments → List Value → RunState → RunState
taken_back home NoArgument vs w = w
taken_back home (ByValue e rest) vs w = taken_back home rest vs w
taken_back home (InOut variable rest) [] w = w
taken_back home (InOut variable rest) (v ∷ vs) w = store home variable v (taken_back home rest vs w)

-- a call that has ended, back in its caller: the in_out parameters are copied out before anything else is evaluated
abbrev pub after_call : Home → TypedArguments → CallEnd → CallEnd
after_call home arguments (Answers result vs w) = Answers result vs (taken_back home arguments vs w)
after_call home arguments (CallBreaks f w) = CallBreaks f w

-- a method of an instance's package, or of the caller's own unit, is called with arguments that have these values
abbrev pub call_with : Surroundings → Option (List ℕ) → ℕ → TypedArguments → ExpressionsEnd → CallEnd
call_with s instance method arguments values = after_call s.home arguments (then_call values (s.calls (callee_home s.home instance) method))

-- the value of a call is the method's result
abbrev pub result_of : CallEnd → ExpressionEnd
result_of (Answers result vs w) = Gives result w
result_of (CallBreaks f w) = Breaks f w

module _ (s : Surroundings) where
  abbrev mutual
    -- the value of an expression, or its fault
    pub evaluate : TypedExpression → RunState → ExpressionEnd
    evaluate (Constant v ty) w = Gives v w
    evaluate (Variable variable ty) w = Gives (variable_value s.home variable w) w
    evaluate (Widen e) w = then_operand (evaluate e w) (λ v u. Gives (widened v) u)
    evaluate (Convert e ty) w = then_operand (evaluate e w) (converted ty)
    evaluate (Prefixed p e ty) w = then_operand (evaluate e w) (prefixed p)
    evaluate (Chain first links) w = then_operand (evaluate first w) (evaluate_links links)
    evaluate (Compared comparison left right) w =
        then_operand (evaluate left w) (λ x u. then_operand (evaluate right u) (λ y v. Gives (compared_of comparison x y) v))
    evaluate (Applied function arguments ty) w = then_all (evaluate_all arguments w) (applied function)
    evaluate (Called instance method arguments ty) w = result_of (call_with s instance method arguments (evaluate_arguments arguments w))
    evaluate (HashCalled hash f) w = call_hash s.objects s.home f (hash_named s.objects.hashes hash) w
    evaluate (IteratorCalled iterator f) w = call_iterator s.objects s.home f (iterator_named s.objects.iterators iterator) w

    -- the value of a chain, from the value of its operands up to here
    pub evaluate_links : Links → Value → RunState → ExpressionEnd
    evaluate_links NoLink x w = Gives x w
    evaluate_links (Link widens operation operand ty rest) x w =
        then_operand (evaluate operand w) (λ y u.
        then_operand (operated operation (if widens then widened x else x) y u) (evaluate_links rest))

    -- the values of several expressions, in order
    pub evaluate_all : TypedExpressions → RunState → ExpressionsEnd
    evaluate_all NoExpression w = GiveAll [] w
    evaluate_all (Then e rest) w = then_others (evaluate e w) (evaluate_all rest)

    -- the values of arguments, in order; that of a variable is read where it stands
    pub evaluate_arguments : TypedArguments → RunState → ExpressionsEnd
    evaluate_arguments NoArgument w = GiveAll [] w
    evaluate_arguments (ByValue e rest) w = then_others (evaluate e w) (evaluate_arguments rest)
    evaluate_arguments (InOut variable rest) w = with_one_more (variable_value s.home variable w) (evaluate_arguments rest w)

  -- a call: its arguments, the method, and the variables that were handed in and out
  abbrev pub call : Option (List ℕ) → ℕ → TypedArguments → RunState → CallEnd
  call instance method arguments w = call_with s instance method arguments (evaluate_arguments arguments w)
