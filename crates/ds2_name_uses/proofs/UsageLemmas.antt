-- What a use of a name breaks in a method of a unit, by tests on names.
use Rattle.std.proofs.Common.{◌≡◌, ℕ, ◌+◌, Bool, true, false, not, ◌||◌, ◌&&◌, List, [], ◌∷◌, ◌++◌, length, bytes_eq, Option, Some, None, refl, sym, ap, ◌∙◌, add-one}
use Rattle.std.specs.Prelude.{if◌then◌else◌, map, is_some, codes}
use Rattle.std.specs.Option.{option_map_or}
use Rattle.std.specs.declared.boxed.Box.{Box}
use Rattle.std.specs.declared.alloc.Global.{Global}
use Rattle.ds2_base.specs.declared.place.Place.{Place}
use Rattle.ds2_token.specs.declared.token.Token.{Token}
use Rattle.ds2_tree.specs.Expressions.{Expression, Constant, Null, Variable, Member, Call, Parenthesis, Sign, Chain, Comparison, Not, Arguments, NoArgument, Argument}
use Rattle.ds2_tree.specs.ExpressionViews.{expression_tree, arguments_of}
use Rattle.ds2_tree.specs.Globals.{Method}
use Rattle.ds2_tree.specs.declared.expressions.Argument as code_argument
use Rattle.ds2_tree.specs.declared.expressions.Callee.{Callee}
use Rattle.ds2_tree.specs.declared.expressions.Callee.TheVariants as callee
use Rattle.ds2_tree.specs.declared.expressions.ChainKind.{ChainKind}
use Rattle.ds2_tree.specs.declared.expressions.Expression as code_expression
use Rattle.ds2_tree.specs.declared.expressions.Expression.TheVariants as expression
use Rattle.ds2_tree.specs.declared.expressions.Operand as code_operand
use Rattle.ds2_calls.specs.InstanceSorts.{sort_of, sort_if_any, sort_named}
use Rattle.ds2_calls.specs.KnownUnits.{units_known}
use Rattle.ds2_calls.specs.SortCalls.{is_known_stage}
use Rattle.ds2_calls.specs.UnitsCalls.{HasCalls}
use Rattle.ds2_calls.proofs.CallLemmas.{counts_of_call, known_sort, known_stage, counts_on, flags_are, calls_tell}
use Rattle.ds2_names.specs.NameRules.{from_each, place_unless, visible_instance, columns_are_known, is_flag_word, is_object, is_in_scope, is_known_name, may_be_global, is_settable, unknown_in_use, not_variable_in_use, is_known_thread, is_hash, argument_count, takes_count, unknown_method_on, unknown_member_on, unknown_method_in_use, wrong_count_on, wrong_count_in_use, no_names}
use Rattle.ds2_names.specs.SourceUnit.{is_package, PlacedName, placed_name, names_alone, InstanceOf, AnyPackage, HashObject, HashIterator, AnyThread, SourceInstance, instance_named, SourceNames, spelled_name, is_system_name, local_names, vector_names, plain_globals, instance_names, all_globals, is_named}
use Rattle.ds2_names.specs.UnitRules.{is_system_method, is_setting, misplaced_setting}
use Rattle.ds2_names.specs.Uses.{NameUse, Values, Members, HandsOver, CallsOn, Sets, WritesTo, callee_place, first_place, method_named, statements_uses}
use Rattle.ds2_name_uses.specs.BrokenUses.{broken_in_method}
use Rattle.ds2_name_uses.specs.declared.scope.Scope.{Scope}
use Rattle.ds2_name_uses.specs.declared.scope.UsageRule.{UsageRule}
use Rattle.ds2_name_uses.specs.declared.scope.UsageRule.TheVariants as usage
use Rattle.ds2_scope.specs.Earliest.{earlier_of, earliest}
use Rattle.ds2_scope.specs.NameSets.{HasNames}
use Rattle.ds2_name_uses.specs.ScopeTables.{AreTablesOf, tests_by}
use Rattle.ds2_calls.specs.UseParts.{earliest_use, next_flag, further_flags}
use Rattle.ds2_name_uses.specs.UseRules.{settable_names, tests_of, flags_by, visible_sort, is_global_there, is_value_there, is_there, may_be_set, is_object_there, unknown_by, not_variable_by, unknown_call_on, is_hash_sort, unknown_member_by, unknown_method_by, wrong_count_by_sort, wrong_count_by, is_setting_by, misplaced_by, broken_by, broken_in_use, no_name_in, no_name_if}
use Rattle.ds2_scope.proofs.EarliestLemmas.{earlier_of_assoc, earliest_append}
use Rattle.ds2_calls.proofs.UseLemmas.{call_is, chain_is}

-- ---- arguments for in_out parameters

pub call_begins : (e : code_expression.Expression) (f : Box Callee Global) (p : Place) (xs : List code_argument.Argument) (q : Place)
    → e ≡ expression.Call f p xs q → first_place (expression_tree e) ≡ callee_place f.value
call_begins e f p xs q h = ap first_place (call_is e f p xs q h)

pub chain_begins : (e : code_expression.Expression) (kind : ChainKind) (a : Box code_expression.Expression Global) (os : List code_operand.Operand)
    → e ≡ expression.Chain kind a os → first_place (expression_tree e) ≡ first_place (expression_tree a.value)
chain_begins e kind a os h = ap first_place (chain_is e kind a os h)

pub call_is_no_name : (e : code_expression.Expression) (f : Box Callee Global) (p : Place) (xs : List code_argument.Argument) (q : Place)
    → e ≡ expression.Call f p xs q → no_name_in (expression_tree e) ≡ first_place (expression_tree e) ∷ []
call_is_no_name e f p xs q h = ap no_name_in (call_is e f p xs q h) ∙ sym (ap (λ t. first_place t ∷ []) (call_is e f p xs q h))

pub chain_is_no_name : (e : code_expression.Expression) (kind : ChainKind) (a : Box code_expression.Expression Global) (os : List code_operand.Operand)
    → e ≡ expression.Chain kind a os → no_name_in (expression_tree e) ≡ first_place (expression_tree e) ∷ []
chain_is_no_name e kind a os h = ap no_name_in (chain_is e kind a os h) ∙ sym (ap (λ t. first_place t ∷ []) (chain_is e kind a os h))

pub count_is : (xs : List code_argument.Argument) → argument_count (arguments_of xs) ≡ length xs
count_is [] = refl
count_is (x ∷ xs) = ap (λ n. n + 1) (count_is xs) ∙ add-one (length xs)

no_flags : (xs : Arguments) → no_names [] xs ≡ []
no_flags NoArgument = refl
no_flags (Argument c e rest) = refl

pub no_arguments : (flags : List Bool) → no_names flags NoArgument ≡ []
no_arguments [] = refl
no_arguments (true ∷ flags) = refl
no_arguments (false ∷ flags) = refl

one_no_name : (flags : List Bool) (c : Option Place) (e : Expression) (rest : Arguments)
    → no_names flags (Argument c e rest) ≡ no_name_if (next_flag flags) e ++ no_names (further_flags flags) rest
one_no_name [] c e rest = sym (no_flags rest)
one_no_name (false ∷ flags) c e rest = refl
one_no_name (true ∷ flags) c (Variable name) rest = refl
one_no_name (true ∷ flags) c (Constant t) rest = refl
one_no_name (true ∷ flags) c (Null t) rest = refl
one_no_name (true ∷ flags) c (Member o p m) rest = refl
one_no_name (true ∷ flags) c (Call f p xs q) rest = refl
one_no_name (true ∷ flags) c (Parenthesis p e q) rest = refl
one_no_name (true ∷ flags) c (Sign o e) rest = refl
one_no_name (true ∷ flags) c (Chain k e more) rest = refl
one_no_name (true ∷ flags) c (Comparison a o b) rest = refl
one_no_name (true ∷ flags) c (Not o e) rest = refl

pub one_more_no_name : (found : Option Place) (flags : List Bool) (c : Option Place) (e : Expression) (rest : Arguments)
    → earlier_of (earlier_of found (earliest (no_name_if (next_flag flags) e))) (earliest (no_names (further_flags flags) rest)) ≡ earlier_of found (earliest (no_names flags (Argument c e rest)))
one_more_no_name found flags c e rest =
    earlier_of_assoc found (earliest (no_name_if (next_flag flags) e)) (earliest (no_names (further_flags flags) rest))
    ∙ ap (earlier_of found) (sym (earliest_append (no_name_if (next_flag flags) e) (no_names (further_flags flags) rest)))
    ∙ ap (λ places. earlier_of found (earliest places)) (sym (one_no_name flags c e rest))

-- ---- tests

or_assoc : (a b c : Bool) → (a || (b || c)) ≡ ((a || b) || c)
or_assoc true b c = refl
or_assoc false b c = refl

value_test : (l s f n o : Bool) → (l || (s || f) || (o && not ((s || f) || n))) ≡ (l || (s || (f || (o && not n))))
value_test true s f n o = refl
value_test false true f n true = refl
value_test false true f n false = refl
value_test false false true n true = refl
value_test false false true n false = refl
value_test false false false n o = refl

known_test : (l s f n o : Bool) → (l || (((s || f) || n) || (o && not ((s || f) || n)))) ≡ (l || (s || (f || (n || o))))
known_test true s f n o = refl
known_test false true f n o = refl
known_test false false true n o = refl
known_test false false false true o = refl
known_test false false false false true = refl
known_test false false false false false = refl

set_test : (l v p f n o : Bool) → (l || (v || p || (o && not (((v || p) || f) || n)))) ≡ (l || ((v || p) || (o && not (f || n))))
set_test true v p f n o = refl
set_test false true p f n true = refl
set_test false true p f n false = refl
set_test false false true f n true = refl
set_test false false true f n false = refl
set_test false false false f n o = refl

pub named_append : (xs ys : List PlacedName) (name : List ℕ) → is_named (xs ++ ys) name ≡ (is_named xs name || is_named ys name)
named_append [] ys name = refl
named_append (x ∷ xs) ys name = ap (λ t. bytes_eq x.name name || t) (named_append xs ys name) ∙ or_assoc (bytes_eq x.name name) (is_named xs name) (is_named ys name)

named_instance : (instances : List SourceInstance) (name : List ℕ)
    → is_named (map (λ (i : SourceInstance). placed_name i.name) instances) name ≡ is_some (sort_named instances name)
named_instance [] name = refl
named_instance (i ∷ instances) name = by (bytes_eq (spelled_name i.name) name) (named_instance instances name)
  where
    by : (t : Bool) → is_named (map (λ (x : SourceInstance). placed_name x.name) instances) name ≡ is_some (sort_named instances name)
        → (t || is_named (map (λ (x : SourceInstance). placed_name x.name) instances) name) ≡ is_some (sort_if_any (if t then Some i else instance_named instances name))
    by true rest = refl
    by false rest = rest

-- ---- instances

some_sort : (o : Option SourceInstance) → is_some o ≡ is_some (sort_if_any o)
some_sort None = refl
some_sort (Some i) = refl

hash_is : (s : InstanceOf) → is_hash s ≡ is_hash_sort (sort_of s)
hash_is (AnyPackage package' arguments) = refl
hash_is (HashObject keys items table) = refl
hash_is (HashIterator hash) = refl
hash_is (AnyThread thread) = refl

module _ (names : SourceNames) where
  named_global : (name : List ℕ) → is_named (all_globals names) name ≡ ((is_named (settable_names names) name || is_named names.flags name) || is_some (sort_named names.instances name))
  named_global name =
      named_append (plain_globals names) (instance_names names) name
      ∙ (λ i. named_append (settable_names names) names.flags name i || named_instance names.instances name i)

  pub global_is : (name : List ℕ)
      → may_be_global names name ≡ (is_named (settable_names names) name || (is_named names.flags name || (is_some (sort_named names.instances name) || not (columns_are_known names))))
  global_is name =
      (λ i. named_global name i || (not (columns_are_known names) && not (named_global name i)))
      ∙ known_test false (is_named (settable_names names) name) (is_named names.flags name) (is_some (sort_named names.instances name)) (not (columns_are_known names))

  method_there : (o : Option SourceInstance) (method : Token) → unknown_method_on names method o ≡ unknown_call_on (units_known names.known) method (sort_if_any o)
  method_there None method = refl
  method_there (Some x) method =
      (λ i. place_unless (not (known_sort names.known x.sort i) || is_some (counts_on names.known x.sort (spelled_name method) i)) method.place)

  count_taken : (o : Option SourceInstance) (method : Token) (n : ℕ) → wrong_count_on names method n o ≡ wrong_count_by_sort (units_known names.known) method n (sort_if_any o)
  count_taken None method n = refl
  count_taken (Some x) method n = ap (λ counts. place_unless (takes_count counts n) method.place) (counts_on names.known x.sort (spelled_name method))

  stage_there : (o : Option SourceInstance)
      → option_map_or (λ (x : SourceInstance). is_known_thread names.known x.sort) o false ≡ option_map_or (is_known_stage (units_known names.known)) (sort_if_any o) false
  stage_there None = refl
  stage_there (Some x) = known_stage names.known x.sort

member_there : (o : Option SourceInstance) (member : Token) → unknown_member_on member o ≡ unknown_member_by member (sort_if_any o)
member_there None member = refl
member_there (Some x) member = ap (λ t. place_unless (t && bytes_eq (spelled_name member) (codes "num_items")) member.place) (hash_is x.sort)

-- tables tell which globals are there
pub global_by_tables : (names : SourceNames) (s : Scope) → AreTablesOf s.unit.now names → HasCalls s.calls names → (name : List ℕ) → may_be_global names name ≡ is_global_there (tests_by s) name
global_by_tables names s t has name =
    global_is names name ∙ sym (λ i. t.settable name i || (t.flags name i || (is_some ((calls_tell s.calls names has i).sort_of_instance name) || t.is_open i)))

-- ---- rules

module _ (names : SourceNames) (m : Method) where
  seen : (name : List ℕ) → sort_if_any (visible_instance names m name) ≡ visible_sort (tests_of names m) name
  seen name = by (is_named (local_names m) name)
    where
      by : (t : Bool) → sort_if_any (if t then None else instance_named names.instances name) ≡ (if t then None else sort_named names.instances name)
      by true = refl
      by false = refl

  value_is : (name : List ℕ) → is_in_scope names m name ≡ is_value_there (tests_of names m) name
  value_is name =
      (λ i. is_named (local_names m) name || named_append (settable_names names) names.flags name i || (not (columns_are_known names) && not (named_global names name i)))
      ∙ value_test (is_named (local_names m) name) (is_named (settable_names names) name) (is_named names.flags name) (is_some (sort_named names.instances name)) (not (columns_are_known names))

  known_is : (name : List ℕ) → is_known_name names m name ≡ is_there (tests_of names m) name
  known_is name = ap (λ t. is_named (local_names m) name || t) (global_is names name)

  settable_is : (name : List ℕ) → is_settable names m name ≡ may_be_set (tests_of names m) name
  settable_is name =
      let both = named_append (vector_names names) names.parameters name in
      let flag = is_named names.flags name in
      let inst = is_some (sort_named names.instances name) in
      let unknown = not (columns_are_known names) in
      (λ i. is_named (local_names m) name || (is_named (vector_names names) name || is_named names.parameters name || (unknown && not (named_global names name i))))
      ∙ (λ i. is_named (local_names m) name || (is_named (vector_names names) name || is_named names.parameters name || (unknown && not ((both i || flag) || inst))))
      ∙ set_test (is_named (local_names m) name) (is_named (vector_names names) name) (is_named names.parameters name) flag inst unknown
      ∙ sym (λ i. is_named (local_names m) name || (both i || (unknown && not (flag || inst))))

  object_is : (object member : Token) → is_object names m object member ≡ is_object_there (tests_of names m) object member
  object_is object member = by (is_flag_word object)
    where
      by : (t : Bool)
          → (if t then (t && is_named names.bys (spelled_name member)) else is_some (visible_instance names m (spelled_name object)))
          ≡ (if t then is_named names.bys (spelled_name member) else is_some (visible_sort (tests_of names m) (spelled_name object)))
      by true = refl
      by false = some_sort (visible_instance names m (spelled_name object)) ∙ ap is_some (seen (spelled_name object))

  unknown_is : (u : NameUse) → unknown_in_use names m u ≡ unknown_by (tests_of names m) u
  unknown_is (Values n) = ap (λ t. place_unless t n.place) (value_is (spelled_name n))
  unknown_is (HandsOver n) = ap (λ t. place_unless t n.place) (known_is (spelled_name n))
  unknown_is (Sets n) = ap (λ t. place_unless t n.place) (known_is (spelled_name n))
  unknown_is (Members object member) = ap (λ t. place_unless t object.place) (object_is object member)
  unknown_is (CallsOn (callee.Method object dot method) arguments) =
      ap (λ t. place_unless t object.place) (some_sort (visible_instance names m (spelled_name object)) ∙ ap is_some (seen (spelled_name object)))
  unknown_is (CallsOn (callee.Function t) arguments) = refl
  unknown_is (CallsOn (callee.Null keyword) arguments) = refl
  unknown_is (WritesTo n) = refl

  not_variable_is : (u : NameUse) → not_variable_in_use names m u ≡ not_variable_by (tests_of names m) u
  not_variable_is (Sets n) = ap (λ t. place_unless t n.place) (settable_is (spelled_name n))
  not_variable_is (HandsOver n) = ap (λ t. place_unless t n.place) (settable_is (spelled_name n))
  not_variable_is (CallsOn f arguments) = ap (λ flags. no_names flags arguments) (flags_are names f)
  not_variable_is (Values n) = refl
  not_variable_is (Members object member) = refl
  not_variable_is (WritesTo n) = refl

  unknown_method_is : (u : NameUse) → unknown_method_in_use names m u ≡ unknown_method_by (tests_of names m) u
  unknown_method_is (CallsOn (callee.Function t) arguments) =
      let name = spelled_name t in
      ap (λ counts. place_unless (not (not (is_package names.unit.kind) && is_system_name name) && is_some counts) t.place) (counts_of_call (method_named names.methods name) name)
  unknown_method_is (CallsOn (callee.Null keyword) arguments) = refl
  unknown_method_is (CallsOn (callee.Method object dot method) arguments) =
      method_there names (visible_instance names m (spelled_name object)) method ∙ ap (unknown_call_on (units_known names.known) method) (seen (spelled_name object))
  unknown_method_is (Members object member) =
      ap (λ places. if is_flag_word object then [] else places)
      (member_there (visible_instance names m (spelled_name object)) member ∙ ap (unknown_member_by member) (seen (spelled_name object)))
  unknown_method_is (Values n) = refl
  unknown_method_is (HandsOver n) = refl
  unknown_method_is (Sets n) = refl
  unknown_method_is (WritesTo n) = refl

  wrong_count_is : (u : NameUse) → wrong_count_in_use names m u ≡ wrong_count_by (tests_of names m) u
  wrong_count_is (CallsOn (callee.Function t) arguments) =
      let name = spelled_name t in
      ap (λ counts. place_unless (takes_count counts (argument_count arguments)) t.place) (counts_of_call (method_named names.methods name) name)
  wrong_count_is (CallsOn (callee.Null keyword) arguments) = refl
  wrong_count_is (CallsOn (callee.Method object dot method) arguments) =
      count_taken names (visible_instance names m (spelled_name object)) method (argument_count arguments)
      ∙ ap (wrong_count_by_sort (units_known names.known) method (argument_count arguments)) (seen (spelled_name object))
  wrong_count_is (Values n) = refl
  wrong_count_is (Members object member) = refl
  wrong_count_is (HandsOver n) = refl
  wrong_count_is (Sets n) = refl
  wrong_count_is (WritesTo n) = refl

  setting_is : (object method : Token) → is_setting names m object method ≡ is_setting_by (tests_of names m) object method
  setting_is object method =
      ap (λ t. bytes_eq (spelled_name method) (codes "setparms") && t)
      (stage_there names (visible_instance names m (spelled_name object)) ∙ ap (λ o. option_map_or (is_known_stage (units_known names.known)) o false) (seen (spelled_name object)))

  misplaced_is : (u : NameUse) → misplaced_setting names m u ≡ misplaced_by (tests_of names m) u
  misplaced_is (CallsOn (callee.Method object dot method) arguments) =
      ap (λ t. place_unless (not t || is_system_method (codes "init") names m) object.place) (setting_is object method)
  misplaced_is (CallsOn (callee.Function t) arguments) = refl
  misplaced_is (CallsOn (callee.Null keyword) arguments) = refl
  misplaced_is (Values n) = refl
  misplaced_is (Members object member) = refl
  misplaced_is (HandsOver n) = refl
  misplaced_is (Sets n) = refl
  misplaced_is (WritesTo n) = refl

  broken_is : (rule : UsageRule) (u : NameUse) → broken_in_use rule names m u ≡ broken_by rule (tests_of names m) u
  broken_is usage.UnknownName u = unknown_is u
  broken_is usage.NotVariable u = not_variable_is u
  broken_is usage.UnknownMethod u = unknown_method_is u
  broken_is usage.WrongCount u = wrong_count_is u
  broken_is usage.MisplacedSetting u = misplaced_is u

  -- the tests that tables make are those on names
  tests_are : (s : Scope) → AreTablesOf s.unit.now names → HasCalls s.calls names → HasNames s.locals (names_alone (local_names m)) → s.is_init ≡ is_system_method (codes "init") names m
      → tests_by s ≡ tests_of names m
  tests_are s t has l init = λ i. record {
    is_local = λ name. l name i;
    is_settable = λ name. t.settable name i;
    is_flag = λ name. t.flags name i;
    is_by = λ name. t.bys name i;
    is_output = λ name. t.outputs name i && not (bytes_eq name (codes "_null_"));
    calls = calls_tell s.calls names has i;
    is_open = t.is_open i;
    is_program = t.is_program i;
    is_init = init i;
  }

  -- what the uses of a method break of a rule
  pub method_is : (s : Scope) → AreTablesOf s.unit.now names → HasCalls s.calls names → HasNames s.locals (names_alone (local_names m)) → s.is_init ≡ is_system_method (codes "init") names m
      → earliest_use (broken_by s.rule (tests_by s)) (statements_uses (flags_by (tests_by s)) m.body) ≡ earliest (broken_in_method s.rule names m)
  method_is s t has l init =
      (λ i. earliest_use (broken_by s.rule (tests_are s t has l init i)) (statements_uses (flags_by (tests_are s t has l init i)) m.body))
      ∙ sym (λ i. earliest (from_each (λ u. broken_is s.rule u i) (statements_uses (λ f. flags_are names f i) m.body)))
