-- The deeds of typed statements: a variable that they mention is seen as one, and what they change is no flag.
use Rattle.std.proofs.Common.{◌≡◌, ℕ, Bool, true, List, [], ◌∷◌, ◌++◌, map, filter, bytes_eq, Option, Some, None, refl}
use Rattle.std.specs.List.{AllByRecursion}
use Rattle.ds2_value.specs.declared.hash_function.HashFunction.{HashFunction}
use Rattle.ds2_value.specs.declared.hash_function.HashFunction.TheVariants as hash
use Rattle.ds2_value.specs.declared.ty.Ty.{Ty}
use Rattle.ds2_value.specs.declared.ty.Ty.TheVariants.{BigInt}
use Rattle.ds2_meaning.specs.declared.globals.Variable.{Variable as DeclaredVariable}
use Rattle.ds2_meaning.specs.declared.hashes.DeclaredHash.{DeclaredHash}
use Rattle.ds2_meaning.specs.declared.hashes.DeclaredIterator.{DeclaredIterator}
use Rattle.ds2_meaning.specs.declared.hashes.HashVariable.{HashVariable}
use Rattle.ds2_meaning.specs.declared.location.Global.{Global}
use Rattle.ds2_meaning.specs.declared.location.Global.TheVariants.{Parameter}
use Rattle.ds2_meaning.specs.declared.location.Reference.{Reference}
use Rattle.ds2_meaning.specs.declared.location.Reference.TheVariants.{At, Local}
use Rattle.ds2_meaning.specs.declared.methods.Parameter as parameters
use Rattle.ds2_meaning.specs.Evaluation.{callee_home}
use Rattle.ds2_meaning.specs.HashObjects.{hash_named, iterator_named, object_at}
use Rattle.ds2_meaning.specs.IsTyped.{NamesInScope, reference_type, thread_parameters, IsTarget, IsTypedExpression, AreTypedLinks, AreTypedExpressions, AreTypedArguments, AreTypedConditions, AreTypedValues, IsTypedStep, AreTypedItems, IsTypedCall, AreParameterValues, AreValuesFor, TypeClass, class_of, expression_type, AreTypedWhens, AreTypedValueWhens, IsTypedStatement, AreTypedStatements, AreHashVariables, AreHashTargets}
use Rattle.ds2_meaning.specs.Location.{Location}
use Rattle.ds2_meaning.specs.TypedExpression as e
use Rattle.ds2_meaning.specs.TypedStatement as s
use Rattle.ds2_locality.specs.Deeds.{MethodAt, CodeScope, global_at, variable_at, variables_at, hash_variables_at, columns_written, Deed, Mention, Change, CallOf, set_deeds, changed_by_hash, hash_deeds, walked_hash_deeds, iterator_deeds, expression_deeds, link_deeds, expressions_deeds, argument_deeds, call_deeds, parameter_deeds, item_deeds, step_deeds, statement_deeds, body_deeds, when_deeds}
use Rattle.ds2_locality.proofs.Frame.{Allowed, AreAllowed}

all_joined : {A : Type 0} (P : A → Type 0) (xs ys : List A) → AllByRecursion P xs → AllByRecursion P ys → AllByRecursion P (xs ++ ys)
all_joined P [] ys g h = h
all_joined P (x ∷ xs) ys g h = (g.0, all_joined P xs ys g.1 h)

-- what is asked of variables, of hash objects and iterators, of what is changed, and of methods
module _ (W U V : Location → Type 0) (R : MethodAt → Type 0) (any_call : (m : MethodAt) → R m) (names : NamesInScope) (c : CodeScope)
    (globals_are : (g : Global) (ty : Ty) → names.globals g ≡ Some ty → W (global_at c.home g))
    (targets_free : (g : Global) → IsTarget (At g) → V (global_at c.home g))
    (objects_free : (name : List ℕ) → V (object_at c.home name))
    (hashes_are : (name : List ℕ) (h : DeclaredHash) → hash_named c.objects.hashes name ≡ Some h → U (object_at c.home h.name))
    (iterators_are : (name : List ℕ) (i : DeclaredIterator) → iterator_named c.objects.iterators name ≡ Some i → U (object_at c.home i.name) × U (object_at c.home i.hash))
    (hash_variables : (name : List ℕ) (h : DeclaredHash) → hash_named c.objects.hashes name ≡ Some h
    → AreHashVariables names.globals h.key_variables × AreHashVariables names.globals h.data_variables × AreHashTargets h.data_variables)
    (parameters_free : (instance name : List ℕ) → V (global_at (Some instance) (Parameter name)))
    (columns_are : (ns : List ℕ) → AllByRecursion W (columns_written c ns)) where
  abbrev Fine : List Deed → Type 0
  Fine deeds = AreAllowed W U V R deeds

  joined : (xs ys : List Deed) → Fine xs → Fine ys → Fine (xs ++ ys)
  joined xs ys g h = all_joined (Allowed W U V R) xs ys g h

  mentions : (ats : List Location) → AllByRecursion W ats → Fine (map Mention ats)
  mentions [] h = tt
  mentions (at ∷ ats) h = (h.0, mentions ats h.1)

  changes : (ats : List Location) → AllByRecursion V ats → Fine (map Change ats)
  changes [] h = tt
  changes (at ∷ ats) h = (h.0, changes ats h.1)

  reference_is : (r : Reference) (ty : Ty) → reference_type names r ≡ Some ty → AllByRecursion W (variable_at c.home r)
  reference_is (At g) ty h = (globals_are g ty h, tt)
  reference_is (Local name) ty h = tt

  target_free : (r : Reference) → IsTarget r → AllByRecursion V (variable_at c.home r)
  target_free (At g) h = (targets_free g h, tt)
  target_free (Local name) h = tt

  set_fine : (r : Reference) (ty : Ty) → IsTarget r → reference_type names r ≡ Some ty → Fine (set_deeds c.home r)
  set_fine r ty target h =
      joined (map Mention (variable_at c.home r)) (map Change (variable_at c.home r)) (mentions (variable_at c.home r) (reference_is r ty h)) (changes (variable_at c.home r) (target_free r target))

  call_fine : (m : MethodAt) → Fine (CallOf m ∷ [])
  call_fine m = (any_call m, tt)

  -- ---- hash objects and iterators

  variables_are : (variables : List HashVariable) → AreHashVariables names.globals variables → AllByRecursion W (variables_at c.home variables)
  variables_are [] h = tt
  variables_are (v ∷ variables) h = (globals_are v.global v.ty h.0, variables_are variables h.2)

  data_free : (variables : List HashVariable) → AreHashTargets variables → AllByRecursion V (variables_at c.home variables)
  data_free [] h = tt
  data_free (v ∷ variables) h = (targets_free v.global h.0, data_free variables h.1)

  iterators_free : (is : List DeclaredIterator) → AllByRecursion V (map (λ (i : DeclaredIterator). object_at c.home i.name) is)
  iterators_free [] = tt
  iterators_free (i ∷ is) = (objects_free i.name, iterators_free is)

  changed_free : (f : HashFunction) (h : DeclaredHash) → AreHashTargets h.data_variables → AllByRecursion V (changed_by_hash c.home c.objects.iterators f h)
  changed_free hash.Find h q = data_free h.data_variables q
  changed_free hash.Check h q = tt
  changed_free hash.NumItems h q = tt
  changed_free hash.Add h q = (objects_free h.name, iterators_free (filter (λ (i : DeclaredIterator). bytes_eq i.hash h.name) c.objects.iterators))
  changed_free hash.Replace h q = (objects_free h.name, iterators_free (filter (λ (i : DeclaredIterator). bytes_eq i.hash h.name) c.objects.iterators))
  changed_free hash.Remove h q = (objects_free h.name, iterators_free (filter (λ (i : DeclaredIterator). bytes_eq i.hash h.name) c.objects.iterators))
  changed_free hash.Clear h q = (objects_free h.name, iterators_free (filter (λ (i : DeclaredIterator). bytes_eq i.hash h.name) c.objects.iterators))

  both_are : (h : DeclaredHash) → AreHashVariables names.globals h.key_variables → AreHashVariables names.globals h.data_variables → AllByRecursion W (hash_variables_at c.home h)
  both_are h keys data' =
      all_joined W (variables_at c.home h.key_variables) (variables_at c.home h.data_variables) (variables_are h.key_variables keys) (variables_are h.data_variables data')

  hash_fine : (f : HashFunction) (name : List ℕ) (o : Option DeclaredHash) → hash_named c.objects.hashes name ≡ o → Fine (hash_deeds c f o)
  hash_fine f name None q = tt
  hash_fine f name (Some h) q =
      let v = hash_variables name h q in (
        hashes_are name h q,
        joined (map Mention (hash_variables_at c.home h)) (map Change (changed_by_hash c.home c.objects.iterators f h)) (mentions (hash_variables_at c.home h) (both_are h v.0 v.1))
            (changes (changed_by_hash c.home c.objects.iterators f h) (changed_free f h v.2)),
      )

  walked_fine : (name : List ℕ) (o : Option DeclaredHash) → hash_named c.objects.hashes name ≡ o → Fine (walked_hash_deeds c.home o)
  walked_fine name None q = tt
  walked_fine name (Some h) q =
      let v = hash_variables name h q in
      joined (map Mention (hash_variables_at c.home h)) (map Change (variables_at c.home h.data_variables)) (mentions (hash_variables_at c.home h) (both_are h v.0 v.1))
      (changes (variables_at c.home h.data_variables) (data_free h.data_variables v.2))

  iterator_fine : (name : List ℕ) (o : Option DeclaredIterator) → iterator_named c.objects.iterators name ≡ o → Fine (iterator_deeds c o)
  iterator_fine name None q = tt
  iterator_fine name (Some i) q =
      let u = iterators_are name i q in (u.0, (u.1, (objects_free i.name, walked_fine i.hash (hash_named c.objects.hashes i.hash) refl)))

  -- ---- expressions

  mutual
    expression_fine : (x : e.TypedExpression) → IsTypedExpression names x → Fine (expression_deeds c x)
    expression_fine (e.Constant v ty) h = tt
    expression_fine (e.Variable r ty) h = mentions (variable_at c.home r) (reference_is r ty h)
    expression_fine (e.Widen x) h = expression_fine x h.0
    expression_fine (e.Convert x ty) h = expression_fine x h.0
    expression_fine (e.Prefixed o x ty) h = expression_fine x h.0
    expression_fine (e.Chain first links) h = joined (expression_deeds c first) (link_deeds c links) (expression_fine first h.0) (links_fine (expression_type first) links h.1)
    expression_fine (e.Compared o a b) h = joined (expression_deeds c a) (expression_deeds c b) (expression_fine a h.0) (expression_fine b h.1)
    expression_fine (e.Applied f es ty) h = expressions_fine es h.0
    expression_fine (e.Called instance n es ty) h =
        let m : MethodAt = record { home = callee_home c.home instance; number = n } in joined (argument_deeds c es) (CallOf m ∷ []) (arguments_fine h.0.parameters es h.3) (call_fine m)
    expression_fine (e.HashCalled name f) h = hash_fine f name (hash_named c.objects.hashes name) refl
    expression_fine (e.IteratorCalled name f) h = iterator_fine name (iterator_named c.objects.iterators name) refl

    links_fine : (ty : Ty) (links : e.Links) → AreTypedLinks names ty links → Fine (link_deeds c links)
    links_fine ty e.NoLink h = tt
    links_fine ty (e.Link widens o x to rest) h = joined (expression_deeds c x) (link_deeds c rest) (expression_fine x h.0) (links_fine to rest h.2)

    expressions_fine : (es : e.TypedExpressions) → AreTypedExpressions names es → Fine (expressions_deeds c es)
    expressions_fine e.NoExpression h = tt
    expressions_fine (e.Then x rest) h = joined (expression_deeds c x) (expressions_deeds c rest) (expression_fine x h.0) (expressions_fine rest h.1)

    arguments_fine : (ps : List parameters.Parameter) (es : e.TypedArguments) → AreTypedArguments names ps es → Fine (argument_deeds c es)
    arguments_fine [] e.NoArgument h = tt
    arguments_fine [] (e.ByValue x rest) h = absurd h
    arguments_fine [] (e.InOut r rest) h = absurd h
    arguments_fine (q ∷ ps) e.NoArgument h = absurd h
    arguments_fine (q ∷ ps) (e.ByValue x rest) h = joined (expression_deeds c x) (argument_deeds c rest) (expression_fine x h.1) (arguments_fine ps rest h.3)
    arguments_fine (q ∷ ps) (e.InOut r rest) h = joined (set_deeds c.home r) (argument_deeds c rest) (set_fine r q.ty h.1 h.2) (arguments_fine ps rest h.3)

  conditions_fine : (es : e.TypedExpressions) → AreTypedConditions names es → Fine (expressions_deeds c es)
  conditions_fine e.NoExpression h = tt
  conditions_fine (e.Then x rest) h = joined (expression_deeds c x) (expressions_deeds c rest) (expression_fine x h.0.0) (conditions_fine rest h.1)

  values_fine : (kind : TypeClass) (es : e.TypedExpressions) → AreTypedValues names kind es → Fine (expressions_deeds c es)
  values_fine kind e.NoExpression h = tt
  values_fine kind (e.Then x rest) h = joined (expression_deeds c x) (expressions_deeds c rest) (expression_fine x h.0) (values_fine kind rest h.2)

  step_fine : (step : Option e.TypedExpression) → IsTypedStep names step → Fine (step_deeds c step)
  step_fine None h = tt
  step_fine (Some x) h = expression_fine x h.0

  items_fine : (items : List s.Item) → AreTypedItems names items → Fine (item_deeds c items)
  items_fine [] h = tt
  items_fine (s.Text t ∷ items) h = items_fine items h
  items_fine (s.Shown x ∷ items) h = joined (expression_deeds c x) (item_deeds c items) (expression_fine x h.0) (items_fine items h.1)
  items_fine (s.Labelled name x ∷ items) h = joined (expression_deeds c x) (item_deeds c items) (expression_fine x h.0) (items_fine items h.1)

  passed_fine : (instance : Option (List ℕ)) (n : ℕ) (es : e.TypedArguments) → IsTypedCall names instance n es → Fine (call_deeds c instance n es)
  passed_fine instance n es h =
      let m : MethodAt = record { home = callee_home c.home instance; number = n } in joined (argument_deeds c es) (CallOf m ∷ []) (arguments_fine h.0.parameters es h.2) (call_fine m)

  given_fine : (instance : List ℕ) (ps : List DeclaredVariable) (values : List s.ParameterValue) → AreParameterValues names ps values → Fine (parameter_deeds c instance values)
  given_fine instance [] [] h = tt
  given_fine instance [] (v ∷ values) h = absurd h
  given_fine instance (q ∷ ps) [] h = absurd h
  given_fine instance (q ∷ ps) (v ∷ values) h =
      joined (expression_deeds c v.value) (Change (global_at (Some instance) (Parameter v.parameter)) ∷ parameter_deeds c instance values) (expression_fine v.value h.1)
      (parameters_free instance v.parameter, given_fine instance ps values h.3)

  given_by : (instance : List ℕ) (o : Option (List DeclaredVariable)) (values : List s.ParameterValue) → AreValuesFor names o values → Fine (parameter_deeds c instance values)
  given_by instance None values h = absurd h
  given_by instance (Some ps) values h = given_fine instance ps values h

  -- ---- statements

  mutual
    pub statement_fine : (loop : Bool) (t : s.TypedStatement) → IsTypedStatement names loop t → Fine (statement_deeds c t)
    statement_fine loop (s.Empty place) h = tt
    statement_fine loop (s.Assign place r x) h = joined (expression_deeds c x) (set_deeds c.home r) (expression_fine x h.1) (set_fine r (expression_type x) h.0 h.2)
    statement_fine loop (s.Invoke place instance n es) h = passed_fine instance n es h
    statement_fine loop (s.Evaluate place x) h = expression_fine x h
    statement_fine loop (s.SetParameters place instance values) h = given_by instance (thread_parameters names.threads instance) values h
    statement_fine loop (s.Construct place instance n es) h = absurd h
    statement_fine loop (s.Leave place) h = tt
    statement_fine loop (s.Continue place) h = tt
    statement_fine loop (s.Return place) h = tt
    statement_fine loop (s.ReturnValue place x) h = expression_fine x h.0
    statement_fine loop (s.Output place ns) h = (tt, mentions (columns_written c ns) (columns_are ns))
    statement_fine loop (s.Put place items) h = (tt, items_fine items h)
    statement_fine loop (s.If place x on) h = joined (expression_deeds c x) (statement_deeds c on) (expression_fine x h.0.0) (statement_fine loop on h.1)
    statement_fine loop (s.IfElse place x on off) h =
        joined (expression_deeds c x ++ statement_deeds c on) (statement_deeds c off) (joined (expression_deeds c x) (statement_deeds c on) (expression_fine x h.0.0) (statement_fine loop on h.1)) (statement_fine loop off h.2)
    statement_fine loop (s.Select place whens) h = whens_fine loop whens h
    statement_fine loop (s.SelectValue place x whens) h = joined (expression_deeds c x) (when_deeds c whens) (expression_fine x h.0) (value_whens_fine loop (class_of (expression_type x)) whens h.1)
    statement_fine loop (s.Block place body) h = statements_fine loop body h
    statement_fine loop (s.Count place r start end step body) h =
        joined (expression_deeds c start ++ expression_deeds c end ++ step_deeds c step ++ set_deeds c.home r) (body_deeds c body)
        (joined (expression_deeds c start ++ expression_deeds c end ++ step_deeds c step) (set_deeds c.home r)
        (joined (expression_deeds c start ++ expression_deeds c end) (step_deeds c step) (joined (expression_deeds c start) (expression_deeds c end) (expression_fine start h.2.0) (expression_fine end h.3.0)) (step_fine step h.4))
        (set_fine r BigInt h.0 h.1))
        (statements_fine true body h.5)
    statement_fine loop (s.While place x body) h = joined (expression_deeds c x) (body_deeds c body) (expression_fine x h.0.0) (statements_fine true body h.1)
    statement_fine loop (s.Until place x body) h = joined (expression_deeds c x) (body_deeds c body) (expression_fine x h.0.0) (statements_fine true body h.1)

    pub statements_fine : (loop : Bool) (t : s.TypedStatements) → AreTypedStatements names loop t → Fine (body_deeds c t)
    statements_fine loop s.Finish h = tt
    statements_fine loop (s.Next first rest) h = joined (statement_deeds c first) (body_deeds c rest) (statement_fine loop first h.0) (statements_fine loop rest h.1)

    whens_fine : (loop : Bool) (t : s.TypedWhens) → AreTypedWhens names loop t → Fine (when_deeds c t)
    whens_fine loop s.NoOtherwise h = tt
    whens_fine loop (s.Otherwise t) h = statement_fine loop t h
    whens_fine loop (s.When es t rest) h =
        joined (expressions_deeds c es ++ statement_deeds c t) (when_deeds c rest) (joined (expressions_deeds c es) (statement_deeds c t) (conditions_fine es h.0) (statement_fine loop t h.1)) (whens_fine loop rest h.2)

    value_whens_fine : (loop : Bool) (kind : TypeClass) (t : s.TypedWhens) → AreTypedValueWhens names loop kind t → Fine (when_deeds c t)
    value_whens_fine loop kind s.NoOtherwise h = tt
    value_whens_fine loop kind (s.Otherwise t) h = statement_fine loop t h
    value_whens_fine loop kind (s.When es t rest) h =
        joined (expressions_deeds c es ++ statement_deeds c t) (when_deeds c rest) (joined (expressions_deeds c es) (statement_deeds c t) (values_fine kind es h.0) (statement_fine loop t h.1)) (value_whens_fine loop kind rest h.2)
