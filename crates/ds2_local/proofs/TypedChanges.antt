-- What typed statements change: variables, hash objects and iterators that are told.
use Rattle.std.proofs.Common.{◌≡◌, ℕ, Bool, true, false, List, [], ◌∷◌, ◌++◌, map, filter, cond, bytes_eq, Option, Some, None, refl}
use Rattle.std.specs.List.{AllByRecursion}
use Rattle.ds2_value.specs.declared.hash_function.HashFunction.{HashFunction}
use Rattle.ds2_value.specs.declared.hash_function.HashFunction.TheVariants as hash
use Rattle.ds2_value.specs.declared.ty.Ty.{Ty}
use Rattle.ds2_value.specs.declared.ty.Ty.TheVariants.{BigInt}
use Rattle.ds2_meaning.specs.declared.globals.Variable.{Variable as DeclaredVariable}
use Rattle.ds2_meaning.specs.declared.hashes.DeclaredHash.{DeclaredHash}
use Rattle.ds2_meaning.specs.declared.hashes.DeclaredIterator.{DeclaredIterator}
use Rattle.ds2_meaning.specs.declared.hashes.HashVariable.{HashVariable}
use Rattle.ds2_meaning.specs.declared.location.Global.{Global}
use Rattle.ds2_meaning.specs.declared.location.Global.TheVariants.{Parameter}
use Rattle.ds2_meaning.specs.declared.location.Reference.{Reference}
use Rattle.ds2_meaning.specs.declared.location.Reference.TheVariants.{At, Local}
use Rattle.ds2_meaning.specs.declared.methods.Parameter as parameters
use Rattle.ds2_meaning.specs.Evaluation.{callee_home}
use Rattle.ds2_meaning.specs.HashObjects.{hash_named, iterator_named, object_at}
use Rattle.ds2_meaning.specs.IsTyped.{NamesInScope, reference_type, thread_parameters, IsTypedExpression, AreTypedLinks, AreTypedExpressions, AreTypedArguments, AreTypedConditions, AreTypedValues, IsTypedStep, AreTypedItems, IsTypedCall, AreValuesFor, TypeClass, class_of, expression_type, AreTypedWhens, AreTypedValueWhens, IsTypedStatement, AreTypedStatements, AreHashVariables}
use Rattle.ds2_meaning.specs.Location.{Location}
use Rattle.ds2_meaning.specs.TypedExpression as e
use Rattle.ds2_meaning.specs.TypedStatement as s
use Rattle.ds2_locality.specs.Deeds.{MethodAt, CodeScope, global_at, variable_at, variables_at, iterators_over, hash_variables_at, columns_written, Deed, Mention, Change, CallOf, set_deeds, changed_by_hash, hash_deeds, walked_hash_deeds, iterator_deeds, expression_deeds, link_deeds, expressions_deeds, argument_deeds, call_deeds, parameter_deeds, item_deeds, step_deeds, statement_deeds, body_deeds, when_deeds}

all_joined : {A : Type 0} (P : A → Type 0) (xs ys : List A) → AllByRecursion P xs → AllByRecursion P ys → AllByRecursion P (xs ++ ys)
all_joined P [] ys g h = h
all_joined P (x ∷ xs) ys g h = (g.0, all_joined P xs ys g.1 h)

-- what is changed is told
abbrev pub Told : (Location → Type 0) → Deed → Type 0
Told V (Change at) = V at
Told V _ = Unit {0}

-- what is told of variables, of hash objects and iterators
module _ (V : Location → Type 0) (names : NamesInScope) (c : CodeScope)
    (globals_told : (g : Global) (ty : Ty) → names.globals g ≡ Some ty → V (global_at c.home g))
    (hashes_told : (name : List ℕ) (h : DeclaredHash) → hash_named c.objects.hashes name ≡ Some h → V (object_at c.home h.name))
    (iterators_told : AllByRecursion (λ (i : DeclaredIterator). V (object_at c.home i.name)) c.objects.iterators)
    (named_told : (name : List ℕ) (i : DeclaredIterator) → iterator_named c.objects.iterators name ≡ Some i → V (object_at c.home i.name))
    (hash_variables : (name : List ℕ) (h : DeclaredHash) → hash_named c.objects.hashes name ≡ Some h → AreHashVariables names.globals h.data_variables)
    (no_threads : (instance : List ℕ) → thread_parameters names.threads instance ≡ None) where
  abbrev Fine : List Deed → Type 0
  Fine deeds = AllByRecursion (Told V) deeds

  joined : (xs ys : List Deed) → Fine xs → Fine ys → Fine (xs ++ ys)
  joined xs ys g h = all_joined (Told V) xs ys g h

  mentions : (ats : List Location) → Fine (map Mention ats)
  mentions [] = tt
  mentions (at ∷ ats) = (tt, mentions ats)

  changes : (ats : List Location) → AllByRecursion V ats → Fine (map Change ats)
  changes [] h = tt
  changes (at ∷ ats) h = (h.0, changes ats h.1)

  reference_told : (r : Reference) (ty : Ty) → reference_type names r ≡ Some ty → AllByRecursion V (variable_at c.home r)
  reference_told (At g) ty h = (globals_told g ty h, tt)
  reference_told (Local name) ty h = tt

  set_fine : (r : Reference) (ty : Ty) → reference_type names r ≡ Some ty → Fine (set_deeds c.home r)
  set_fine r ty h = joined (map Mention (variable_at c.home r)) (map Change (variable_at c.home r)) (mentions (variable_at c.home r)) (changes (variable_at c.home r) (reference_told r ty h))

  call_fine : (m : MethodAt) → Fine (CallOf m ∷ [])
  call_fine m = (tt, tt)

  -- ---- hash objects and iterators

  data_told : (variables : List HashVariable) → AreHashVariables names.globals variables → AllByRecursion V (variables_at c.home variables)
  data_told [] h = tt
  data_told (v ∷ variables) h = (globals_told v.global v.ty h.0, data_told variables h.2)

  over_next : (b : Bool) (i : DeclaredIterator) (is : List DeclaredIterator) → V (object_at c.home i.name) → AllByRecursion V (map (λ (x : DeclaredIterator). object_at c.home x.name) is)
      → AllByRecursion V (map (λ (x : DeclaredIterator). object_at c.home x.name) (cond b (i ∷ is) is))
  over_next true i is g h = (g, h)
  over_next false i is g h = h

  over_told : (name : List ℕ) (is : List DeclaredIterator) → AllByRecursion (λ (i : DeclaredIterator). V (object_at c.home i.name)) is → AllByRecursion V (iterators_over c.home is name)
  over_told name [] h = tt
  over_told name (i ∷ is) h = over_next (bytes_eq i.hash name) i (filter (λ (x : DeclaredIterator). bytes_eq x.hash name) is) h.0 (over_told name is h.1)

  changed_told : (f : HashFunction) (h : DeclaredHash) → V (object_at c.home h.name) → AreHashVariables names.globals h.data_variables → AllByRecursion V (changed_by_hash c.home c.objects.iterators f h)
  changed_told hash.Find h g q = data_told h.data_variables q
  changed_told hash.Check h g q = tt
  changed_told hash.NumItems h g q = tt
  changed_told hash.Add h g q = (g, over_told h.name c.objects.iterators iterators_told)
  changed_told hash.Replace h g q = (g, over_told h.name c.objects.iterators iterators_told)
  changed_told hash.Remove h g q = (g, over_told h.name c.objects.iterators iterators_told)
  changed_told hash.Clear h g q = (g, over_told h.name c.objects.iterators iterators_told)

  hash_fine : (f : HashFunction) (name : List ℕ) (o : Option DeclaredHash) → hash_named c.objects.hashes name ≡ o → Fine (hash_deeds c f o)
  hash_fine f name None q = tt
  hash_fine f name (Some h) q = (
    tt,
    joined (map Mention (hash_variables_at c.home h)) (map Change (changed_by_hash c.home c.objects.iterators f h)) (mentions (hash_variables_at c.home h))
        (changes (changed_by_hash c.home c.objects.iterators f h) (changed_told f h (hashes_told name h q) (hash_variables name h q))),
  )

  walked_fine : (name : List ℕ) (o : Option DeclaredHash) → hash_named c.objects.hashes name ≡ o → Fine (walked_hash_deeds c.home o)
  walked_fine name None q = tt
  walked_fine name (Some h) q =
      joined (map Mention (hash_variables_at c.home h)) (map Change (variables_at c.home h.data_variables)) (mentions (hash_variables_at c.home h))
      (changes (variables_at c.home h.data_variables) (data_told h.data_variables (hash_variables name h q)))

  iterator_fine : (name : List ℕ) (o : Option DeclaredIterator) → iterator_named c.objects.iterators name ≡ o → Fine (iterator_deeds c o)
  iterator_fine name None q = tt
  iterator_fine name (Some i) q = (tt, (tt, (named_told name i q, walked_fine i.hash (hash_named c.objects.hashes i.hash) refl)))

  -- ---- expressions

  mutual
    expression_fine : (x : e.TypedExpression) → IsTypedExpression names x → Fine (expression_deeds c x)
    expression_fine (e.Constant v ty) h = tt
    expression_fine (e.Variable r ty) h = mentions (variable_at c.home r)
    expression_fine (e.Widen x) h = expression_fine x h.0
    expression_fine (e.Convert x ty) h = expression_fine x h.0
    expression_fine (e.Prefixed o x ty) h = expression_fine x h.0
    expression_fine (e.Chain first links) h = joined (expression_deeds c first) (link_deeds c links) (expression_fine first h.0) (links_fine (expression_type first) links h.1)
    expression_fine (e.Compared o a b) h = joined (expression_deeds c a) (expression_deeds c b) (expression_fine a h.0) (expression_fine b h.1)
    expression_fine (e.Applied f es ty) h = expressions_fine es h.0
    expression_fine (e.Called instance n es ty) h =
        let m : MethodAt = record { home = callee_home c.home instance; number = n } in joined (argument_deeds c es) (CallOf m ∷ []) (arguments_fine h.0.parameters es h.3) (call_fine m)
    expression_fine (e.HashCalled name f) h = hash_fine f name (hash_named c.objects.hashes name) refl
    expression_fine (e.IteratorCalled name f) h = iterator_fine name (iterator_named c.objects.iterators name) refl

    links_fine : (ty : Ty) (links : e.Links) → AreTypedLinks names ty links → Fine (link_deeds c links)
    links_fine ty e.NoLink h = tt
    links_fine ty (e.Link widens o x to rest) h = joined (expression_deeds c x) (link_deeds c rest) (expression_fine x h.0) (links_fine to rest h.2)

    expressions_fine : (es : e.TypedExpressions) → AreTypedExpressions names es → Fine (expressions_deeds c es)
    expressions_fine e.NoExpression h = tt
    expressions_fine (e.Then x rest) h = joined (expression_deeds c x) (expressions_deeds c rest) (expression_fine x h.0) (expressions_fine rest h.1)

    arguments_fine : (ps : List parameters.Parameter) (es : e.TypedArguments) → AreTypedArguments names ps es → Fine (argument_deeds c es)
    arguments_fine [] e.NoArgument h = tt
    arguments_fine [] (e.ByValue x rest) h = absurd h
    arguments_fine [] (e.InOut r rest) h = absurd h
    arguments_fine (q ∷ ps) e.NoArgument h = absurd h
    arguments_fine (q ∷ ps) (e.ByValue x rest) h = joined (expression_deeds c x) (argument_deeds c rest) (expression_fine x h.1) (arguments_fine ps rest h.3)
    arguments_fine (q ∷ ps) (e.InOut r rest) h = joined (set_deeds c.home r) (argument_deeds c rest) (set_fine r q.ty h.2) (arguments_fine ps rest h.3)

  conditions_fine : (es : e.TypedExpressions) → AreTypedConditions names es → Fine (expressions_deeds c es)
  conditions_fine e.NoExpression h = tt
  conditions_fine (e.Then x rest) h = joined (expression_deeds c x) (expressions_deeds c rest) (expression_fine x h.0.0) (conditions_fine rest h.1)

  values_fine : (kind : TypeClass) (es : e.TypedExpressions) → AreTypedValues names kind es → Fine (expressions_deeds c es)
  values_fine kind e.NoExpression h = tt
  values_fine kind (e.Then x rest) h = joined (expression_deeds c x) (expressions_deeds c rest) (expression_fine x h.0) (values_fine kind rest h.2)

  step_fine : (step : Option e.TypedExpression) → IsTypedStep names step → Fine (step_deeds c step)
  step_fine None h = tt
  step_fine (Some x) h = expression_fine x h.0

  items_fine : (items : List s.Item) → AreTypedItems names items → Fine (item_deeds c items)
  items_fine [] h = tt
  items_fine (s.Text t ∷ items) h = items_fine items h
  items_fine (s.Shown x ∷ items) h = joined (expression_deeds c x) (item_deeds c items) (expression_fine x h.0) (items_fine items h.1)
  items_fine (s.Labelled name x ∷ items) h = joined (expression_deeds c x) (item_deeds c items) (expression_fine x h.0) (items_fine items h.1)

  passed_fine : (instance : Option (List ℕ)) (n : ℕ) (es : e.TypedArguments) → IsTypedCall names instance n es → Fine (call_deeds c instance n es)
  passed_fine instance n es h =
      let m : MethodAt = record { home = callee_home c.home instance; number = n } in joined (argument_deeds c es) (CallOf m ∷ []) (arguments_fine h.0.parameters es h.2) (call_fine m)

  given_by : (instance : List ℕ) (o : Option (List DeclaredVariable)) (values : List s.ParameterValue) → o ≡ None → AreValuesFor names o values → Fine (parameter_deeds c instance values)
  given_by instance None values e h = absurd h
  given_by instance (Some ps) values e h = absurd cc

  -- ---- statements

  mutual
    pub statement_fine : (loop : Bool) (t : s.TypedStatement) → IsTypedStatement names loop t → Fine (statement_deeds c t)
    statement_fine loop (s.Empty place) h = tt
    statement_fine loop (s.Assign place r x) h = joined (expression_deeds c x) (set_deeds c.home r) (expression_fine x h.1) (set_fine r (expression_type x) h.2)
    statement_fine loop (s.Invoke place instance n es) h = passed_fine instance n es h
    statement_fine loop (s.Evaluate place x) h = expression_fine x h
    statement_fine loop (s.SetParameters place instance values) h = given_by instance (thread_parameters names.threads instance) values (no_threads instance) h
    statement_fine loop (s.Construct place instance n es) h = absurd h
    statement_fine loop (s.Leave place) h = tt
    statement_fine loop (s.Continue place) h = tt
    statement_fine loop (s.Return place) h = tt
    statement_fine loop (s.ReturnValue place x) h = expression_fine x h.0
    statement_fine loop (s.Output place ns) h = (tt, mentions (columns_written c ns))
    statement_fine loop (s.Put place items) h = (tt, items_fine items h)
    statement_fine loop (s.If place x on) h = joined (expression_deeds c x) (statement_deeds c on) (expression_fine x h.0.0) (statement_fine loop on h.1)
    statement_fine loop (s.IfElse place x on off) h =
        joined (expression_deeds c x ++ statement_deeds c on) (statement_deeds c off) (joined (expression_deeds c x) (statement_deeds c on) (expression_fine x h.0.0) (statement_fine loop on h.1)) (statement_fine loop off h.2)
    statement_fine loop (s.Select place whens) h = whens_fine loop whens h
    statement_fine loop (s.SelectValue place x whens) h = joined (expression_deeds c x) (when_deeds c whens) (expression_fine x h.0) (value_whens_fine loop (class_of (expression_type x)) whens h.1)
    statement_fine loop (s.Block place body) h = statements_fine loop body h
    statement_fine loop (s.Count place r start end step body) h =
        joined (expression_deeds c start ++ expression_deeds c end ++ step_deeds c step ++ set_deeds c.home r) (body_deeds c body)
        (joined (expression_deeds c start ++ expression_deeds c end ++ step_deeds c step) (set_deeds c.home r)
        (joined (expression_deeds c start ++ expression_deeds c end) (step_deeds c step) (joined (expression_deeds c start) (expression_deeds c end) (expression_fine start h.2.0) (expression_fine end h.3.0)) (step_fine step h.4))
        (set_fine r BigInt h.1))
        (statements_fine true body h.5)
    statement_fine loop (s.While place x body) h = joined (expression_deeds c x) (body_deeds c body) (expression_fine x h.0.0) (statements_fine true body h.1)
    statement_fine loop (s.Until place x body) h = joined (expression_deeds c x) (body_deeds c body) (expression_fine x h.0.0) (statements_fine true body h.1)

    pub statements_fine : (loop : Bool) (t : s.TypedStatements) → AreTypedStatements names loop t → Fine (body_deeds c t)
    statements_fine loop s.Finish h = tt
    statements_fine loop (s.Next first rest) h = joined (statement_deeds c first) (body_deeds c rest) (statement_fine loop first h.0) (statements_fine loop rest h.1)

    whens_fine : (loop : Bool) (t : s.TypedWhens) → AreTypedWhens names loop t → Fine (when_deeds c t)
    whens_fine loop s.NoOtherwise h = tt
    whens_fine loop (s.Otherwise t) h = statement_fine loop t h
    whens_fine loop (s.When es t rest) h =
        joined (expressions_deeds c es ++ statement_deeds c t) (when_deeds c rest) (joined (expressions_deeds c es) (statement_deeds c t) (conditions_fine es h.0) (statement_fine loop t h.1)) (whens_fine loop rest h.2)

    value_whens_fine : (loop : Bool) (kind : TypeClass) (t : s.TypedWhens) → AreTypedValueWhens names loop kind t → Fine (when_deeds c t)
    value_whens_fine loop kind s.NoOtherwise h = tt
    value_whens_fine loop kind (s.Otherwise t) h = statement_fine loop t h
    value_whens_fine loop kind (s.When es t rest) h =
        joined (expressions_deeds c es ++ statement_deeds c t) (when_deeds c rest) (joined (expressions_deeds c es) (statement_deeds c t) (values_fine kind es h.0) (statement_fine loop t h.1)) (value_whens_fine loop kind rest h.2)
