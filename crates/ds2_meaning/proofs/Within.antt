-- What is left of a budget stays within a bound: the words of the meaning, expressions, statements and calls.
use Rattle.std.proofs.Common.{ℕ, zero, suc, ◌≤◌, Bool, true, false, List, [], ◌∷◌, Option, Some, None, Result, Ok, Err, arith}
use Rattle.std.specs.List.{join_with_byte}
use Rattle.std.specs.Prelude.{bytes_eq, slice_get, if◌then◌else◌, pos}
use Rattle.ds2_base.specs.declared.place.Place.{Place}
use Rattle.ds2_value.specs.HashList.{Shift, shifted, hash_answer, iterator_answer}
use Rattle.ds2_value.specs.Operations.{is_true, widened, of_decimals, line_text}
use Rattle.ds2_value.specs.Progress.{with_step}
use Rattle.ds2_value.specs.Row.{Row}
use Rattle.ds2_value.specs.Run.{Tested}
use Rattle.ds2_value.specs.Types.{assign_of}
use Rattle.ds2_value.specs.Value.{sum_of, difference_of, product_of, negative_of, compared_of}
use Rattle.ds2_value.specs.ValueFunctions.{function_value}
use Rattle.ds2_value.specs.declared.comparison.Comparison.TheVariants.{Equal, Less, LessOrEqual, GreaterOrEqual}
use Rattle.ds2_value.specs.declared.fault.Fault.{Fault}
use Rattle.ds2_value.specs.declared.hash_function.HashFunction.{HashFunction}
use Rattle.ds2_value.specs.declared.hash_function.IteratorFunction.{IteratorFunction}
use Rattle.ds2_value.specs.declared.ty.Ty.{Ty}
use Rattle.ds2_value.specs.declared.ty.Ty.TheVariants.{BigInt, Decimal as DecimalOf, Char, Varchar}
use Rattle.ds2_value.specs.declared.value.Value.{Value}
use Rattle.ds2_value.specs.declared.value.Value.TheVariants.{Null, Int}
use Rattle.ds2_decimal.specs.Arithmetic as decimal
use Rattle.ds2_meaning.specs.declared.expressions.Function.{Function}
use Rattle.ds2_meaning.specs.declared.expressions.Function.TheVariants as function
use Rattle.ds2_meaning.specs.declared.expressions.Operation.{Operation}
use Rattle.ds2_meaning.specs.declared.expressions.Operation.TheVariants as operation
use Rattle.ds2_meaning.specs.declared.expressions.Prefix.{Prefix}
use Rattle.ds2_meaning.specs.declared.expressions.Prefix.TheVariants as prefix
use Rattle.ds2_meaning.specs.declared.hashes.DeclaredHash.{DeclaredHash}
use Rattle.ds2_meaning.specs.declared.hashes.DeclaredIterator.{DeclaredIterator}
use Rattle.ds2_meaning.specs.declared.hashes.HashVariable.{HashVariable}
use Rattle.ds2_meaning.specs.declared.location.Global.TheVariants as global
use Rattle.ds2_meaning.specs.declared.location.Reference.{Reference}
use Rattle.ds2_meaning.specs.declared.location.Reference.TheVariants.{At, Local}
use Rattle.ds2_meaning.specs.declared.methods.Parameter.{Parameter}
use Rattle.ds2_meaning.specs.BudgetLaws.{left_by_expression, left_by_statement}
use Rattle.ds2_meaning.specs.Evaluation.{Surroundings, Calls, CallEnd, Answers, CallBreaks, callee_home, with_one_more, then_others, then_all, then_call, taken_back, after_call, call_with, result_of, evaluate, evaluate_links, evaluate_all, evaluate_arguments, call}
use Rattle.ds2_meaning.specs.Execution.{labelled, dropped, step_or_one, counts_on, write_one, write_each, any_holds, any_equals, with_texts, with_step_value, count_turn, rounds_counted, while_turn, rounds_while, until_turn, rounds_until, constructed, with_parameters_set, exec, exec_all, select, select_value}
use Rattle.ds2_meaning.specs.Invocation.{method_state, returned, call_finding, carried_out, call_too_deep, invoke}
use Rattle.ds2_meaning.specs.HashObjects.{DeclaredObjects, hash_named, iterator_named, object_at, items_of, position_of, values_of_variables, with_values_stored, with_data_copied, with_iterator_shifted, with_iterators_shifted, call_hash, call_iterator_of, call_iterator}
use Rattle.ds2_meaning.specs.Location.{Home, Holds, Items, Position}
use Rattle.ds2_meaning.specs.Method.{MethodTree, Declarations}
use Rattle.ds2_meaning.specs.RunState.{RunState, ExpressionEnd, Gives, Breaks, then_operand, attempt, ExpressionsEnd, GiveAll, BreakAt, StatementOutcome, Proceeds, Leaves, Continues, Returns, Faults, then_value, then_statement, then_round, step_fails, step_finding, begin_step, after_test, noting, with_progress, variable_value, store, keep_at, put_line}
use Rattle.ds2_meaning.specs.TypedExpression.{TypedExpression, Constant, Variable, Widen, Convert, Prefixed, Chain, Compared, Applied, Called, HashCalled, IteratorCalled, Links, NoLink, Link, TypedExpressions, NoExpression, Then, TypedArguments, NoArgument, ByValue, InOut}
use Rattle.ds2_meaning.specs.TypedStatement.{TypedStatement, Empty, Assign, Invoke, Evaluate, SetParameters, ParameterValue, Construct, Leave, Continue, Return, ReturnValue, Output, Put, If, IfElse, Select, SelectValue, Block, Count, While, Until, TypedStatements, Finish, Next, TypedWhens, NoOtherwise, Otherwise, When, Item, Text, Shown, Labelled}
use Rattle.ds2_meaning.specs.ValueOperations.{operated, prefixed, converted, applied}

-- what several expressions leave, and what a call leaves
abbrev pub left_by_all : ExpressionsEnd → ℕ
left_by_all (GiveAll vs w) = w.progress.left
left_by_all (BreakAt f w) = w.progress.left

abbrev pub left_by_call : CallEnd → ℕ
left_by_call (Answers v vs w) = w.progress.left
left_by_call (CallBreaks f w) = w.progress.left

-- ---- words of expressions

pub operand_within : (n : ℕ) (e : ExpressionEnd) (go : Value → RunState → ExpressionEnd) → left_by_expression e ≤ n
    → ((v : Value) (w : RunState) → w.progress.left ≤ n → left_by_expression (go v w) ≤ n) → left_by_expression (then_operand e go) ≤ n
operand_within n (Gives v w) go h k = k v w h
operand_within n (Breaks f w) go h k = h

pub attempt_within : (n : ℕ) (r : Result Value Fault) (w : RunState) → w.progress.left ≤ n → left_by_expression (attempt r w) ≤ n
attempt_within n (Ok v) w h = h
attempt_within n (Err f) w h = h

others_within : (n : ℕ) (e : ExpressionEnd) (go : RunState → ExpressionsEnd) → left_by_expression e ≤ n
    → ((w : RunState) → w.progress.left ≤ n → left_by_all (go w) ≤ n) → left_by_all (then_others e go) ≤ n
others_within n (Gives v w) go h k = one_more (go w) (k w h)
  where
    one_more : (rest : ExpressionsEnd) → left_by_all rest ≤ n → left_by_all (with_one_more v rest) ≤ n
    one_more (GiveAll vs u) h = h
    one_more (BreakAt f u) h = h
others_within n (Breaks f w) go h k = h

one_more_within : (n : ℕ) (v : Value) (rest : ExpressionsEnd) → left_by_all rest ≤ n → left_by_all (with_one_more v rest) ≤ n
one_more_within n v (GiveAll vs u) h = h
one_more_within n v (BreakAt f u) h = h

all_within : (n : ℕ) (e : ExpressionsEnd) (go : List Value → RunState → ExpressionEnd) → left_by_all e ≤ n
    → ((vs : List Value) (w : RunState) → w.progress.left ≤ n → left_by_expression (go vs w) ≤ n) → left_by_expression (then_all e go) ≤ n
all_within n (GiveAll vs w) go h k = k vs w h
all_within n (BreakAt f w) go h k = h

operated_within : (n : ℕ) (o : Operation) (a b : Value) (w : RunState) → w.progress.left ≤ n → left_by_expression (operated o a b w) ≤ n
operated_within n operation.IntegerAdd a b w h = attempt_within n (sum_of a b) w h
operated_within n operation.IntegerSubtract a b w h = attempt_within n (difference_of a b) w h
operated_within n operation.IntegerMultiply a b w h = attempt_within n (product_of a b) w h
operated_within n operation.DecimalAdd a b w h = attempt_within n (of_decimals decimal.add a b) w h
operated_within n operation.DecimalSubtract a b w h = attempt_within n (of_decimals decimal.sub a b) w h
operated_within n operation.DecimalMultiply a b w h = attempt_within n (of_decimals decimal.mul a b) w h
operated_within n operation.DecimalDivide a b w h = attempt_within n (of_decimals decimal.div a b) w h
operated_within n operation.Concatenate a b w h = h
operated_within n operation.And a b w h = h
operated_within n operation.Or a b w h = h

prefixed_within : (n : ℕ) (p : Prefix) (a : Value) (w : RunState) → w.progress.left ≤ n → left_by_expression (prefixed p a w) ≤ n
prefixed_within n prefix.IntegerNegate a w h = attempt_within n (negative_of a) w h
prefixed_within n prefix.DecimalNegate a w h = h
prefixed_within n prefix.Plus a w h = h
prefixed_within n prefix.Not a w h = h

converted_within : (n : ℕ) (ty : Ty) (a : Value) (w : RunState) → w.progress.left ≤ n → left_by_expression (converted ty a w) ≤ n
converted_within n BigInt a w h = h
converted_within n (DecimalOf p s) a w h = attempt_within n (assign_of a (DecimalOf p s)) w h
converted_within n (Char c) a w h = h
converted_within n (Varchar c) a w h = h

applied_within : (n : ℕ) (f : Function) (vs : List Value) (w : RunState) → w.progress.left ≤ n → left_by_expression (applied f vs w) ≤ n
applied_within n (function.Value f) vs w h = attempt_within n (function_value f vs) w h
applied_within n function.Coalesce vs w h = h
applied_within n function.Least vs w h = h
applied_within n function.Greatest vs w h = h
applied_within n function.Unchanged vs w h = h

-- ---- calls of hash objects and iterators

values_stored_within : (n : ℕ) (home : Home) (xs : List HashVariable) (row : Row) (w : RunState) → w.progress.left ≤ n
    → (with_values_stored home xs row w).progress.left ≤ n
values_stored_within n home [] row w h = h
values_stored_within n home (x ∷ xs) [] w h = h
values_stored_within n home (x ∷ xs) (v ∷ vs) w h = values_stored_within n home xs vs (store home (At x.global) v w) h

copied_within : (n : ℕ) (home : Home) (hash : DeclaredHash) (row : Option Row) (w : RunState) → w.progress.left ≤ n
    → (with_data_copied home hash row w).progress.left ≤ n
copied_within n home hash None w h = h
copied_within n home hash (Some row) w h = values_stored_within n home hash.data_variables row w h

shifted_within : (n : ℕ) (shift : Shift) (home : Home) (hash : List ℕ) (is : List DeclaredIterator) (w : RunState) → w.progress.left ≤ n
    → (with_iterators_shifted shift home hash is w).progress.left ≤ n
shifted_within n shift home hash [] w h = h
shifted_within n shift home hash (i ∷ is) w h =
    shifted_within n shift home hash is (with_iterator_shifted shift home hash i w) (by (bytes_eq i.hash hash))
  where
    by : (b : Bool) → (if b then keep_at (object_at home i.name) (Position (shifted shift (position_of home i.name w))) w else w).progress.left ≤ n
    by true = h
    by false = h

hash_called_within : (n : ℕ) (objects : DeclaredObjects) (home : Home) (f : HashFunction) (hash : Option DeclaredHash) (w : RunState) → w.progress.left ≤ n
    → left_by_expression (call_hash objects home f hash w) ≤ n
hash_called_within n objects home f None w h = h
hash_called_within n objects home f (Some hash) w h =
    let answer = hash_answer f (values_of_variables home hash.key_variables w) (values_of_variables home hash.data_variables w) (items_of home hash.name w) in
    copied_within n home hash answer.copied
    (with_iterators_shifted answer.shift home hash.name objects.iterators (keep_at (object_at home hash.name) (Items answer.items) w))
    (shifted_within n answer.shift home hash.name objects.iterators (keep_at (object_at home hash.name) (Items answer.items) w) h)

iterator_of_within : (n : ℕ) (home : Home) (f : IteratorFunction) (i : DeclaredIterator) (hash : Option DeclaredHash) (w : RunState) → w.progress.left ≤ n
    → left_by_expression (call_iterator_of home f i hash w) ≤ n
iterator_of_within n home f i None w h = h
iterator_of_within n home f i (Some hash) w h =
    let answer = iterator_answer f (items_of home hash.name w) (position_of home i.name w) in
    copied_within n home hash answer.copied (keep_at (object_at home i.name) (Position answer.position) w) h

iterator_called_within : (n : ℕ) (objects : DeclaredObjects) (home : Home) (f : IteratorFunction) (i : Option DeclaredIterator) (w : RunState) → w.progress.left ≤ n
    → left_by_expression (call_iterator objects home f i w) ≤ n
iterator_called_within n objects home f None w h = h
iterator_called_within n objects home f (Some i) w h = iterator_of_within n home f i (hash_named objects.hashes i.hash) w h

-- ---- words of calls

pub stored_within : (n : ℕ) (home : Home) (r : Reference) (v : Value) (w : RunState) → w.progress.left ≤ n → (store home r v w).progress.left ≤ n
stored_within n home (At g) v w h = h
stored_within n home (Local x) v w h = h

taken_back_within : (n : ℕ) (home : Home) (arguments : TypedArguments) (vs : List Value) (w : RunState) → w.progress.left ≤ n
    → (taken_back home arguments vs w).progress.left ≤ n
taken_back_within n home NoArgument vs w h = h
taken_back_within n home (ByValue e rest) vs w h = taken_back_within n home rest vs w h
taken_back_within n home (InOut r rest) [] w h = h
taken_back_within n home (InOut r rest) (v ∷ vs) w h = stored_within n home r v (taken_back home rest vs w) (taken_back_within n home rest vs w h)

after_call_within : (n : ℕ) (home : Home) (arguments : TypedArguments) (c : CallEnd) → left_by_call c ≤ n → left_by_call (after_call home arguments c) ≤ n
after_call_within n home arguments (Answers v vs w) h = taken_back_within n home arguments vs w h
after_call_within n home arguments (CallBreaks f w) h = h

then_call_within : (n : ℕ) (e : ExpressionsEnd) (go : List Value → RunState → CallEnd) → left_by_all e ≤ n
    → ((vs : List Value) (w : RunState) → w.progress.left ≤ n → left_by_call (go vs w) ≤ n) → left_by_call (then_call e go) ≤ n
then_call_within n (GiveAll vs w) go h k = k vs w h
then_call_within n (BreakAt f w) go h k = h

result_within : (n : ℕ) (c : CallEnd) → left_by_call c ≤ n → left_by_expression (result_of c) ≤ n
result_within n (Answers v vs w) h = h
result_within n (CallBreaks f w) h = h

dropped_within : (n : ℕ) (c : CallEnd) → left_by_call c ≤ n → left_by_statement (dropped c) ≤ n
dropped_within n (Answers v vs w) h = h
dropped_within n (CallBreaks f w) h = h

-- ---- words of statements

pub value_then_within : (n : ℕ) (e : ExpressionEnd) (go : Value → RunState → StatementOutcome) → left_by_expression e ≤ n
    → ((v : Value) (w : RunState) → w.progress.left ≤ n → left_by_statement (go v w) ≤ n) → left_by_statement (then_value e go) ≤ n
value_then_within n (Gives v w) go h k = k v w h
value_then_within n (Breaks f w) go h k = h

statement_then_within : (n : ℕ) (o : StatementOutcome) (go : RunState → StatementOutcome) → left_by_statement o ≤ n
    → ((w : RunState) → w.progress.left ≤ n → left_by_statement (go w) ≤ n) → left_by_statement (then_statement o go) ≤ n
statement_then_within n (Proceeds w) go h k = k w h
statement_then_within n (Leaves w) go h k = h
statement_then_within n (Continues w) go h k = h
statement_then_within n (Returns v w) go h k = h
statement_then_within n (Faults f w) go h k = h

round_then_within : (n : ℕ) (o : StatementOutcome) (go : RunState → StatementOutcome) → left_by_statement o ≤ n
    → ((w : RunState) → w.progress.left ≤ n → left_by_statement (go w) ≤ n) → left_by_statement (then_round o go) ≤ n
round_then_within n (Proceeds w) go h k = k w h
round_then_within n (Leaves w) go h k = h
round_then_within n (Continues w) go h k = k w h
round_then_within n (Returns v w) go h k = h
round_then_within n (Faults f w) go h k = h

finding_within : (n k : ℕ) (place : Place) (w : RunState) (go : RunState → StatementOutcome) → k ≤ n
    → ((u : RunState) → u.progress.left ≤ n → left_by_statement (go u) ≤ n) → left_by_statement (step_finding k place w go) ≤ n
finding_within n zero place w go h k = omega arith
finding_within n (suc j) place w go h k = k (with_progress (with_step place j w.progress) w) (omega (arith, h))

step_within : (n : ℕ) (place : Place) (w : RunState) (go : RunState → StatementOutcome) → w.progress.left ≤ n
    → ((u : RunState) → u.progress.left ≤ n → left_by_statement (go u) ≤ n) → left_by_statement (begin_step place w go) ≤ n
step_within n place w go h k = finding_within n w.progress.left place w go h k

step_fails_within : (n : ℕ) (place : Place) (w : RunState) → left_by_statement (step_fails place w) ≤ n
step_fails_within n place w = omega arith

test_within : (n : ℕ) (b : Bool) (w : RunState) (on off : RunState → StatementOutcome) → w.progress.left ≤ n
    → ((u : RunState) → u.progress.left ≤ n → left_by_statement (on u) ≤ n) → ((u : RunState) → u.progress.left ≤ n → left_by_statement (off u) ≤ n)
    → left_by_statement (after_test b w on off) ≤ n
test_within n true w on off h k l = k (noting (Tested true) w) h
test_within n false w on off h k l = l (noting (Tested false) w) h

counts_on_within : (n : ℕ) (i end : Value) (step : Option Value) (w : RunState) (on off : RunState → StatementOutcome) → w.progress.left ≤ n
    → ((u : RunState) → u.progress.left ≤ n → left_by_statement (on u) ≤ n) → ((u : RunState) → u.progress.left ≤ n → left_by_statement (off u) ≤ n)
    → left_by_statement (counts_on i end step w on off) ≤ n
counts_on_within n i end None w on off h k l = test_within n (is_true (compared_of LessOrEqual i end)) w on off h k l
counts_on_within n i end (Some c) w on off h k l =
    test_within n (is_true (compared_of GreaterOrEqual c (Int (pos 0)))) w
    (λ u. after_test (is_true (compared_of LessOrEqual i end)) u on off)
    (λ u. after_test (is_true (compared_of Less c (Int (pos 0)))) u (λ x. after_test (is_true (compared_of GreaterOrEqual i end)) x on off) off)
    h
    (λ u m. test_within n (is_true (compared_of LessOrEqual i end)) u on off m k l)
    (λ u m. test_within n (is_true (compared_of Less c (Int (pos 0)))) u (λ x. after_test (is_true (compared_of GreaterOrEqual i end)) x on off) off m
    (λ x q. test_within n (is_true (compared_of GreaterOrEqual i end)) x on off q k l) l)

written_within : (n : ℕ) (home : Home) (o : Option (List (List ℕ))) (number : ℕ) (w : RunState) → w.progress.left ≤ n → (write_one home o number w).progress.left ≤ n
written_within n home None number w h = h
written_within n home (Some sources) number w h = h

written_each_within : (n : ℕ) (home : Home) (outputs : List (List (List ℕ))) (ns : List ℕ) (w : RunState) → w.progress.left ≤ n
    → (write_each home outputs ns w).progress.left ≤ n
written_each_within n home outputs [] w h = h
written_each_within n home outputs (m ∷ ns) w h =
    written_each_within n home outputs ns (write_one home (slice_get outputs m) m w) (written_within n home (slice_get outputs m) m w h)

-- what calls leave is within every bound that what they found is within
abbrev pub CallsAreWithin : Calls → Type 0
CallsAreWithin calls = (n : ℕ) (home : Home) (m : ℕ) (vs : List Value) (w : RunState) → w.progress.left ≤ n → left_by_call (calls home m vs w) ≤ n

-- what a body leaves is within every bound that what it found is within
abbrev pub IsWithin : (RunState → StatementOutcome) → Type 0
IsWithin body = (n : ℕ) (w : RunState) → w.progress.left ≤ n → left_by_statement (body w) ≤ n

module _ (s : Surroundings) (calls_within : CallsAreWithin s.calls) where
  mutual
    pub value_within : (e : TypedExpression) (n : ℕ) (w : RunState) → w.progress.left ≤ n → left_by_expression (evaluate s e w) ≤ n
    value_within (Constant v ty) n w h = h
    value_within (Variable r ty) n w h = h
    value_within (Widen e) n w h = operand_within n (evaluate s e w) (λ v u. Gives (widened v) u) (value_within e n w h) (λ v u k. k)
    value_within (Convert e ty) n w h = operand_within n (evaluate s e w) (converted ty) (value_within e n w h) (λ v u k. converted_within n ty v u k)
    value_within (Prefixed p e ty) n w h = operand_within n (evaluate s e w) (prefixed p) (value_within e n w h) (λ v u k. prefixed_within n p v u k)
    value_within (Chain first links) n w h =
        operand_within n (evaluate s first w) (evaluate_links s links) (value_within first n w h) (λ v u k. links_within links v n u k)
    value_within (Compared c a b) n w h =
        operand_within n (evaluate s a w) (λ x u. then_operand (evaluate s b u) (λ y v. Gives (compared_of c x y) v)) (value_within a n w h)
        (λ x u k. operand_within n (evaluate s b u) (λ y v. Gives (compared_of c x y) v) (value_within b n u k) (λ y v l. l))
    value_within (Applied f es ty) n w h = all_within n (evaluate_all s es w) (applied f) (values_within es n w h) (λ vs u k. applied_within n f vs u k)
    value_within (Called instance m es ty) n w h =
        result_within n (call_with s instance m es (evaluate_arguments s es w))
        (after_call_within n s.home es (then_call (evaluate_arguments s es w) (s.calls (callee_home s.home instance) m))
        (then_call_within n (evaluate_arguments s es w) (s.calls (callee_home s.home instance) m) (arguments_within es n w h)
        (λ vs u k. calls_within n (callee_home s.home instance) m vs u k)))
    value_within (HashCalled hash f) n w h = hash_called_within n s.objects s.home f (hash_named s.objects.hashes hash) w h
    value_within (IteratorCalled i f) n w h = iterator_called_within n s.objects s.home f (iterator_named s.objects.iterators i) w h

    pub links_within : (links : Links) (x : Value) (n : ℕ) (w : RunState) → w.progress.left ≤ n → left_by_expression (evaluate_links s links x w) ≤ n
    links_within NoLink x n w h = h
    links_within (Link widens o e ty rest) x n w h =
        operand_within n (evaluate s e w) (λ y u. then_operand (operated o (if widens then widened x else x) y u) (evaluate_links s rest)) (value_within e n w h)
        (λ y u k. operand_within n (operated o (if widens then widened x else x) y u) (evaluate_links s rest)
        (operated_within n o (if widens then widened x else x) y u k) (λ v z l. links_within rest v n z l))

    pub values_within : (es : TypedExpressions) (n : ℕ) (w : RunState) → w.progress.left ≤ n → left_by_all (evaluate_all s es w) ≤ n
    values_within NoExpression n w h = h
    values_within (Then e rest) n w h = others_within n (evaluate s e w) (evaluate_all s rest) (value_within e n w h) (λ u k. values_within rest n u k)

    pub arguments_within : (es : TypedArguments) (n : ℕ) (w : RunState) → w.progress.left ≤ n → left_by_all (evaluate_arguments s es w) ≤ n
    arguments_within NoArgument n w h = h
    arguments_within (ByValue e rest) n w h = others_within n (evaluate s e w) (evaluate_arguments s rest) (value_within e n w h) (λ u k. arguments_within rest n u k)
    arguments_within (InOut r rest) n w h = one_more_within n (variable_value s.home r w) (evaluate_arguments s rest w) (arguments_within rest n w h)

  call_within : (instance : Option (List ℕ)) (m : ℕ) (es : TypedArguments) (n : ℕ) (w : RunState) → w.progress.left ≤ n → left_by_call (call s instance m es w) ≤ n
  call_within instance m es n w h =
      after_call_within n s.home es (then_call (evaluate_arguments s es w) (s.calls (callee_home s.home instance) m))
      (then_call_within n (evaluate_arguments s es w) (s.calls (callee_home s.home instance) m) (arguments_within es n w h)
      (λ vs u k. calls_within n (callee_home s.home instance) m vs u k))

  holds_within : (es : TypedExpressions) (n : ℕ) (w : RunState) (on off : RunState → StatementOutcome) → w.progress.left ≤ n
      → ((u : RunState) → u.progress.left ≤ n → left_by_statement (on u) ≤ n) → ((u : RunState) → u.progress.left ≤ n → left_by_statement (off u) ≤ n)
      → left_by_statement (any_holds s es w on off) ≤ n
  holds_within NoExpression n w on off h k l = l w h
  holds_within (Then e rest) n w on off h k l =
      value_then_within n (evaluate s e w) (λ v u. after_test (is_true v) u on (λ x. any_holds s rest x on off)) (value_within e n w h)
      (λ v u m. test_within n (is_true v) u on (λ x. any_holds s rest x on off) m k (λ x q. holds_within rest n x on off q k l))

  equals_within : (value : Value) (es : TypedExpressions) (n : ℕ) (w : RunState) (on off : RunState → StatementOutcome) → w.progress.left ≤ n
      → ((u : RunState) → u.progress.left ≤ n → left_by_statement (on u) ≤ n) → ((u : RunState) → u.progress.left ≤ n → left_by_statement (off u) ≤ n)
      → left_by_statement (any_equals s value es w on off) ≤ n
  equals_within value NoExpression n w on off h k l = l w h
  equals_within value (Then e rest) n w on off h k l =
      value_then_within n (evaluate s e w) (λ v u. after_test (is_true (compared_of Equal value v)) u on (λ x. any_equals s value rest x on off)) (value_within e n w h)
      (λ v u m. test_within n (is_true (compared_of Equal value v)) u on (λ x. any_equals s value rest x on off) m k (λ x q. equals_within value rest n x on off q k l))

  texts_within : (items : List Item) (n : ℕ) (w : RunState) (go : List (List ℕ) → RunState → StatementOutcome) → w.progress.left ≤ n
      → ((ts : List (List ℕ)) (u : RunState) → u.progress.left ≤ n → left_by_statement (go ts u) ≤ n) → left_by_statement (with_texts s items w go) ≤ n
  texts_within [] n w go h k = k [] w h
  texts_within (Text t ∷ items) n w go h k = texts_within items n w (λ ts. go (t ∷ ts)) h (λ ts u m. k (t ∷ ts) u m)
  texts_within (Shown e ∷ items) n w go h k =
      value_then_within n (evaluate s e w) (λ v u. with_texts s items u (λ ts. go (line_text v ∷ ts))) (value_within e n w h)
      (λ v u m. texts_within items n u (λ ts. go (line_text v ∷ ts)) m (λ ts x q. k (line_text v ∷ ts) x q))
  texts_within (Labelled name e ∷ items) n w go h k =
      value_then_within n (evaluate s e w) (λ v u. with_texts s items u (λ ts. go (labelled name v ∷ ts))) (value_within e n w h)
      (λ v u m. texts_within items n u (λ ts. go (labelled name v ∷ ts)) m (λ ts x q. k (labelled name v ∷ ts) x q))

  step_value_within : (step : Option TypedExpression) (n : ℕ) (w : RunState) (go : Option Value → RunState → StatementOutcome) → w.progress.left ≤ n
      → ((c : Option Value) (u : RunState) → u.progress.left ≤ n → left_by_statement (go c u) ≤ n) → left_by_statement (with_step_value s step w go) ≤ n
  step_value_within None n w go h k = k None w h
  step_value_within (Some e) n w go h k = value_then_within n (evaluate s e w) (λ v u. go (Some v) u) (value_within e n w h) (λ v u m. k (Some v) u m)

  constructed_within : (instance : List ℕ) (m : Option ℕ) (es : TypedArguments) (n : ℕ) (w : RunState) → w.progress.left ≤ n
      → left_by_statement (constructed s instance m es w) ≤ n
  constructed_within instance None es n w h = h
  constructed_within instance (Some m) es n w h = dropped_within n (call s (Some instance) m es w) (call_within (Some instance) m es n w h)

  pub while_turn_within : (place : Place) (e : TypedExpression) (body rest : RunState → StatementOutcome) → IsWithin body → IsWithin rest → IsWithin (while_turn s place e body rest)
  while_turn_within place e body rest b r n w h =
      step_within n place w (λ u. then_value (evaluate s e u) (λ v x. after_test (is_true v) x (λ y. then_round (body y) rest) Proceeds)) h
      (λ u k. value_then_within n (evaluate s e u) (λ v x. after_test (is_true v) x (λ y. then_round (body y) rest) Proceeds) (value_within e n u k)
      (λ v x l. test_within n (is_true v) x (λ y. then_round (body y) rest) Proceeds l
      (λ y m. round_then_within n (body y) rest (b n y m) (λ z q. r n z q)) (λ y m. m)))

  pub until_turn_within : (place : Place) (e : TypedExpression) (body rest : RunState → StatementOutcome) → IsWithin body → IsWithin rest → IsWithin (until_turn s place e body rest)
  until_turn_within place e body rest b r n w h =
      round_then_within n (body w) (λ u. begin_step place u (λ x. then_value (evaluate s e x) (λ v y. after_test (is_true v) y Proceeds rest))) (b n w h)
      (λ u k. step_within n place u (λ x. then_value (evaluate s e x) (λ v y. after_test (is_true v) y Proceeds rest)) k
      (λ x l. value_then_within n (evaluate s e x) (λ v y. after_test (is_true v) y Proceeds rest) (value_within e n x l)
      (λ v y m. test_within n (is_true v) y Proceeds rest m (λ z q. q) (λ z q. r n z q))))

  pub count_turn_within : (place : Place) (i : Reference) (end : Value) (step : Option Value) (body rest : RunState → StatementOutcome) → IsWithin body → IsWithin rest
      → IsWithin (count_turn s place i end step body rest)
  count_turn_within place i end step body rest b r n w h =
      counts_on_within n (variable_value s.home i w) end step w
      (λ u. then_round (body u) (λ x. begin_step place x (λ y. then_value (attempt (sum_of (variable_value s.home i y) (step_or_one step)) y) (λ v z. rest (store s.home i v z)))))
      Proceeds h
      (λ u k. round_then_within n (body u) (λ x. begin_step place x (λ y. then_value (attempt (sum_of (variable_value s.home i y) (step_or_one step)) y) (λ v z. rest (store s.home i v z)))) (b n u k)
      (λ x l. step_within n place x (λ y. then_value (attempt (sum_of (variable_value s.home i y) (step_or_one step)) y) (λ v z. rest (store s.home i v z))) l
      (λ y m. value_then_within n (attempt (sum_of (variable_value s.home i y) (step_or_one step)) y) (λ v z. rest (store s.home i v z))
      (attempt_within n (sum_of (variable_value s.home i y) (step_or_one step)) y m) (λ v z q. r n (store s.home i v z) (stored_within n s.home i v z q)))))
      (λ u k. k)

  rounds_while_within : (k : ℕ) (place : Place) (e : TypedExpression) (body : RunState → StatementOutcome) → IsWithin body → IsWithin (rounds_while s k place e body)
  rounds_while_within zero place e body b n w h = step_fails_within n place w
  rounds_while_within (suc k) place e body b n w h = while_turn_within place e body (rounds_while s k place e body) b (rounds_while_within k place e body b) n w h

  rounds_until_within : (k : ℕ) (place : Place) (e : TypedExpression) (body : RunState → StatementOutcome) → IsWithin body → IsWithin (rounds_until s k place e body)
  rounds_until_within zero place e body b n w h = round_then_within n (body w) (step_fails place) (b n w h) (λ u k. step_fails_within n place u)
  rounds_until_within (suc k) place e body b n w h = until_turn_within place e body (rounds_until s k place e body) b (rounds_until_within k place e body b) n w h

  rounds_counted_within : (k : ℕ) (place : Place) (i : Reference) (end : Value) (step : Option Value) (body : RunState → StatementOutcome) → IsWithin body
      → IsWithin (rounds_counted s k place i end step body)
  rounds_counted_within zero place i end step body b n w h =
      counts_on_within n (variable_value s.home i w) end step w (λ u. then_round (body u) (step_fails place)) Proceeds h
      (λ u k. round_then_within n (body u) (step_fails place) (b n u k) (λ x l. step_fails_within n place x)) (λ u k. k)
  rounds_counted_within (suc k) place i end step body b n w h =
      count_turn_within place i end step body (rounds_counted s k place i end step body) b (rounds_counted_within k place i end step body b) n w h

  parameters_within : (instance : List ℕ) (ps : List ParameterValue) → IsWithin (with_parameters_set s instance ps)
  parameters_within instance [] n w h = h
  parameters_within instance (p ∷ ps) n w h =
      value_then_within n (evaluate s p.value w)
      (λ v u. with_parameters_set s instance ps (keep_at (record { home = Some instance; global = global.Parameter p.parameter }) (Holds v) u))
      (value_within p.value n w h)
      (λ v u k. parameters_within instance ps n (keep_at (record { home = Some instance; global = global.Parameter p.parameter }) (Holds v) u) k)

  mutual
    pub statement_within : (t : TypedStatement) → IsWithin (exec s t)
    statement_within (Empty place) n w h = step_within n place w Proceeds h (λ u k. k)
    statement_within (Assign place r e) n w h =
        step_within n place w (λ u. then_value (evaluate s e u) (λ v x. Proceeds (store s.home r v x))) h
        (λ u k. value_then_within n (evaluate s e u) (λ v x. Proceeds (store s.home r v x)) (value_within e n u k) (λ v x l. stored_within n s.home r v x l))
    statement_within (Invoke place instance m es) n w h =
        step_within n place w (λ u. dropped (call s instance m es u)) h (λ u k. dropped_within n (call s instance m es u) (call_within instance m es n u k))
    statement_within (Evaluate place e) n w h =
        step_within n place w (λ u. then_value (evaluate s e u) (λ v x. Proceeds x)) h
        (λ u k. value_then_within n (evaluate s e u) (λ v x. Proceeds x) (value_within e n u k) (λ v x l. l))
    statement_within (SetParameters place instance ps) n w h =
        step_within n place w (with_parameters_set s instance ps) h (λ u k. parameters_within instance ps n u k)
    statement_within (Construct place instance m es) n w h =
        step_within n place w (constructed s instance m es) h (λ u k. constructed_within instance m es n u k)
    statement_within (Leave place) n w h = step_within n place w Leaves h (λ u k. k)
    statement_within (Continue place) n w h = step_within n place w Continues h (λ u k. k)
    statement_within (Return place) n w h = step_within n place w (Returns Null) h (λ u k. k)
    statement_within (ReturnValue place e) n w h =
        step_within n place w (λ u. then_value (evaluate s e u) Returns) h (λ u k. value_then_within n (evaluate s e u) Returns (value_within e n u k) (λ v x l. l))
    statement_within (Output place ns) n w h =
        step_within n place w (λ u. Proceeds (write_each s.home s.outputs ns u)) h (λ u k. written_each_within n s.home s.outputs ns u k)
    statement_within (Put place items) n w h = step_within n place w (λ u. with_texts s items u (λ texts x. Proceeds (put_line (join_with_byte 32 texts) x))) h (λ u k. texts_within items n u (λ texts x. Proceeds (put_line (join_with_byte 32 texts) x)) k (λ ts x l. l))
    statement_within (If place e on) n w h =
        step_within n place w (λ u. then_value (evaluate s e u) (λ v x. after_test (is_true v) x (exec s on) Proceeds)) h
        (λ u k. value_then_within n (evaluate s e u) (λ v x. after_test (is_true v) x (exec s on) Proceeds) (value_within e n u k)
        (λ v x l. test_within n (is_true v) x (exec s on) Proceeds l (λ y m. statement_within on n y m) (λ y m. m)))
    statement_within (IfElse place e on off) n w h =
        step_within n place w (λ u. then_value (evaluate s e u) (λ v x. after_test (is_true v) x (exec s on) (exec s off))) h
        (λ u k. value_then_within n (evaluate s e u) (λ v x. after_test (is_true v) x (exec s on) (exec s off)) (value_within e n u k)
        (λ v x l. test_within n (is_true v) x (exec s on) (exec s off) l (λ y m. statement_within on n y m) (λ y m. statement_within off n y m)))
    statement_within (Select place whens) n w h = step_within n place w (select s whens) h (λ u k. select_within whens n u k)
    statement_within (SelectValue place e whens) n w h =
        step_within n place w (λ u. then_value (evaluate s e u) (λ v x. select_value s v whens x)) h
        (λ u k. value_then_within n (evaluate s e u) (λ v x. select_value s v whens x) (value_within e n u k) (λ v x l. select_value_within v whens n x l))
    statement_within (Block place body) n w h = step_within n place w (exec_all s body) h (λ u k. statements_within body n u k)
    statement_within (Count place i start end step body) n w h =
        step_within n place w (λ u. then_value (evaluate s start u) (λ a x. then_value (evaluate s end x) (λ b y. with_step_value s step y (λ c z.
        begin_step place (store s.home i a z) (λ q. rounds_counted s q.progress.left place i b c (exec_all s body) q))))) h
        (λ u k. value_then_within n (evaluate s start u) (λ a x. then_value (evaluate s end x) (λ b y. with_step_value s step y (λ c z.
        begin_step place (store s.home i a z) (λ q. rounds_counted s q.progress.left place i b c (exec_all s body) q)))) (value_within start n u k)
        (λ a x l. value_then_within n (evaluate s end x) (λ b y. with_step_value s step y (λ c z.
        begin_step place (store s.home i a z) (λ q. rounds_counted s q.progress.left place i b c (exec_all s body) q))) (value_within end n x l)
        (λ b y m. step_value_within step n y (λ c z. begin_step place (store s.home i a z) (λ q. rounds_counted s q.progress.left place i b c (exec_all s body) q)) m
        (λ c z o. step_within n place (store s.home i a z) (λ q. rounds_counted s q.progress.left place i b c (exec_all s body) q) (stored_within n s.home i a z o)
        (λ q p. rounds_counted_within q.progress.left place i b c (exec_all s body) (statements_within body) n q p)))))
    statement_within (While place e body) n w h =
        step_within n place w (λ u. rounds_while s u.progress.left place e (exec_all s body) u) h
        (λ u k. rounds_while_within u.progress.left place e (exec_all s body) (statements_within body) n u k)
    statement_within (Until place e body) n w h =
        step_within n place w (λ u. rounds_until s u.progress.left place e (exec_all s body) u) h
        (λ u k. rounds_until_within u.progress.left place e (exec_all s body) (statements_within body) n u k)

    pub statements_within : (ts : TypedStatements) → IsWithin (exec_all s ts)
    statements_within Finish n w h = h
    statements_within (Next t rest) n w h = statement_then_within n (exec s t w) (exec_all s rest) (statement_within t n w h) (λ u k. statements_within rest n u k)

    pub select_within : (whens : TypedWhens) → IsWithin (select s whens)
    select_within NoOtherwise n w h = h
    select_within (Otherwise t) n w h = statement_within t n w h
    select_within (When tests t rest) n w h = holds_within tests n w (exec s t) (select s rest) h (λ u k. statement_within t n u k) (λ u k. select_within rest n u k)

    pub select_value_within : (v : Value) (whens : TypedWhens) → IsWithin (select_value s v whens)
    select_value_within v NoOtherwise n w h = h
    select_value_within v (Otherwise t) n w h = statement_within t n w h
    select_value_within v (When tests t rest) n w h =
        equals_within v tests n w (exec s t) (select_value s v rest) h (λ u k. statement_within t n u k) (λ u k. select_value_within v rest n u k)

-- ---- calls

call_finding_within : (n k : ℕ) (w : RunState) (go : ℕ → CallEnd) → w.progress.left ≤ n → k ≤ n → ((j : ℕ) → j ≤ n → left_by_call (go j) ≤ n)
    → left_by_call (call_finding k w go) ≤ n
call_finding_within n zero w go h k l = h
call_finding_within n (suc j) w go h k l = l j (omega (arith, k))

returned_within : (n : ℕ) (parameters : List Parameter) (caller : RunState) (o : StatementOutcome) → left_by_statement o ≤ n → left_by_call (returned parameters caller o) ≤ n
returned_within n parameters caller (Proceeds w) h = h
returned_within n parameters caller (Leaves w) h = h
returned_within n parameters caller (Continues w) h = h
returned_within n parameters caller (Returns v w) h = h
returned_within n parameters caller (Faults f w) h = h

carried_out_within : (calls : Calls) → CallsAreWithin calls → (n : ℕ) (objects : DeclaredObjects) (home : Home) (o : Option MethodTree) (vs : List Value) (left : ℕ) (w : RunState)
    → w.progress.left ≤ n → left ≤ n → left_by_call (carried_out calls objects home o vs left w) ≤ n
carried_out_within calls within n objects home None vs left w h k = h
carried_out_within calls within n objects home (Some m) vs left w h k =
    returned_within n m.parameters w (exec_all (record { calls = calls; objects = objects; outputs = []; home = home }) m.body (method_state m.parameters vs left w))
    (statements_within (record { calls = calls; objects = objects; outputs = []; home = home }) within m.body n (method_state m.parameters vs left w) k)

pub invoke_within : (declared : Declarations) (depth : ℕ) → CallsAreWithin (invoke declared depth)
invoke_within declared zero n home m vs w h = call_finding_within n w.progress.left w (λ left. call_too_deep left w) h h (λ j k. k)
invoke_within declared (suc depth) n home m vs w h =
    call_finding_within n w.progress.left w
    (λ left. carried_out (invoke declared depth) (declared.objects home) home (slice_get (declared.methods home) m) vs left w) h h
    (λ j k. carried_out_within (invoke declared depth) (invoke_within declared depth) n (declared.objects home) home (slice_get (declared.methods home) m) vs j w h k)
