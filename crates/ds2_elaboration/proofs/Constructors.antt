-- The constructors of the instances of a program that breaks no rule are typed.
use Rattle.std.proofs.Common.{◌≡◌, inl, inr, ℕ, ℤ, ◌+◌, bytes_eq, codes, cond, find, slice_get, length, position, is_some, Bool, true, false, ◌||◌, not, List, [], ◌∷◌, ◌++◌, map, unwrap_or, if◌then◌else◌, Option, Some, None, refl, sym, ap, ◌∙◌, subst}
use Rattle.std.specs.List.{position_from, AllByRecursion}
use Rattle.std.proofs.lemmas.Bool.{and_parts, or_parts}
use Rattle.std.proofs.lemmas.Iterator.Adapters.{position_from-zero}
use Rattle.ds2_base.specs.declared.place.Place.{Place}
use Rattle.ds2_decimal.specs.Decimal.{Decimal}
use Rattle.ds2_token.specs.Values.{token_integer, token_decimal}
use Rattle.ds2_token.specs.Words.{is_integer, is_decimal}
use Rattle.ds2_token.specs.declared.token.Token.{Token}
use Rattle.ds2_tree.specs.Expressions.{is_null_word}
use Rattle.ds2_tree.specs.Globals.{Method, GlobalItem, Declared, Listed, Defined, is_signed_constant, IsConstant, AreConstants, IsGlobal}
use Rattle.ds2_tree.specs.Lists.{Each, Is, IfAny, HasComma, Separated}
use Rattle.ds2_tree.specs.declared.globals.Constant.{Constant}
use Rattle.ds2_tree.specs.declared.globals.Constants.{Constants}
use Rattle.ds2_tree.specs.declared.globals.Declaration.TheVariants as declaration
use Rattle.ds2_meaning.specs.IsTyped.{NamesInScope, method_number, are_distinct, expression_type, HasConstructorArguments, AreTypedStatements, AreBehindConstructors, IsTypedInit}
use Rattle.ds2_meaning.specs.Method.{MethodTree}
use Rattle.ds2_meaning.specs.ProgramTree.{InstanceTree, UnitTree, instance_methods, is_listed}
use Rattle.ds2_meaning.specs.TypedExpression.{TypedExpression, NoArgument}
use Rattle.ds2_meaning.specs.TypedStatement.{TypedStatement, TypedStatements, Next}
use Rattle.ds2_names.specs.NameRules.{from_each}
use Rattle.ds2_names.specs.SourceUnit.{TableColumns, UnitSource, spelled_name, names_alone, source_methods, is_package, constants_listed, InstanceOf, AnyPackage, HashObject, HashIterator, AnyThread, SourceInstance, source_instances, SourceNames}
use Rattle.ds2_names.specs.Uses.{method_named}
use Rattle.ds2_elaboration.specs.ElaborationLaws.{StandsAmong}
use Rattle.ds2_elaboration.specs.ExpressionTypes.{integer_node, integer_constant, decimal_node, typed_decimal, typed_text, constant_node, number_of_method}
use Rattle.ds2_elaboration.specs.ProgramTypes.{signed_node, elaborated_constant, constructor_arguments, constructor_of, arguments_of_constructor, construction_refusals, instance_refusals, instance_of_package, instance_of_sort, constructions, constructions_of_sort, in_front, body_of_method, scope_of_declarations, typed_unit}
use Rattle.ds2_elaboration.specs.SourceTypes.{unit_names}
use Rattle.ds2_elaboration.specs.TypedForms.{IsSoundlyElaborated, IsSoundArgument}
use Rattle.ds2_elaboration.specs.TypedPrograms.{PackageStands}
use Rattle.ds2_elaboration.specs.Typings.{elaborated_null, form_of_operands, is_numeric_type}
use Rattle.ds2_elaboration.specs.UnitsBefore.{PackageTypes, UnitsBefore, package_types}
use Rattle.ds2_elaboration.proofs.Arguments.{method_arguments}
use Rattle.ds2_elaboration.proofs.Choices.{either}
use Rattle.ds2_elaboration.proofs.Constants.{constant_typed}
use Rattle.ds2_elaboration.proofs.Distinct.{not_true}
use Rattle.ds2_elaboration.proofs.Facts.{JoinLaws, UnitHolds, once, instance_rules}
use Rattle.ds2_elaboration.proofs.Instances.{instances_placed, instances_distinct}
use Rattle.ds2_elaboration.proofs.Links.{sign_fits}
use Rattle.ds2_elaboration.proofs.Lookups.{of_among, for_each}
use Rattle.ds2_elaboration.proofs.Methods.{names_with, init_statements}
use Rattle.ds2_elaboration.proofs.Objects.{instances_of, package_there, instance_further}
use Rattle.ds2_elaboration.proofs.Operands.{form_typed}
use Rattle.ds2_elaboration.proofs.Orders.{bytes_are, turned_bytes}

-- ---- constants

-- a number is one of BIGINT or DECIMAL
integer_is_number : (t : Token) → is_numeric_type (expression_type (integer_constant t)) ≡ true
integer_is_number t = of_found (token_integer t)
  where
    of_found : (found : Option ℤ) → is_numeric_type (expression_type (integer_node found)) ≡ true
    of_found None = refl
    of_found (Some i) = refl

decimal_is_number : (t : Token) → is_numeric_type (expression_type (typed_decimal t)) ≡ true
decimal_is_number t = of_found (token_decimal t)
  where
    of_found : (found : Option Decimal) → is_numeric_type (expression_type (decimal_node found)) ≡ true
    of_found None = refl
    of_found (Some d) = refl

number_if : (i d : Bool) (a b c : TypedExpression) → is_numeric_type (expression_type a) ≡ true → is_numeric_type (expression_type b) ≡ true → (i || d) ≡ true
    → is_numeric_type (expression_type (if i then a else if d then b else c)) ≡ true
number_if true d a b c f g h = f
number_if false true a b c f g h = g
number_if false false a b c f g h = cc

module _ (names : NamesInScope) where
  -- a constant, behind `-` where it is a number
  signed_typed : (minus : Option Place) (t : Token) → Is (is_signed_constant minus) t → IsSoundlyElaborated names (form_of_operands [] (signed_node minus (constant_node t)))
  signed_typed None t g = constant_typed names t
  signed_typed (Some place) t g =
      let node = constant_node t in
      let own = constant_typed names t refl in
      let number = number_if (is_integer t) (is_decimal t) (integer_constant t) (typed_decimal t) (typed_text t) (integer_is_number t) (decimal_is_number t) g in
      form_typed names [] (signed_node (Some place) node) (λ h. ((own.0, sign_fits false (expression_type node) number), own.2))

  constant_sound : (c : Constant) → IsConstant c → IsSoundlyElaborated names (elaborated_constant c)
  constant_sound c g =
      either names (is_null_word c.value) (elaborated_null c.value.place) (form_of_operands [] (signed_node c.minus (constant_node c.value))) (λ h. refl)
      (signed_typed c.minus c.value g)

  constants_sound : (constants : List Constant) → AllByRecursion IsConstant constants → AllByRecursion (IsSoundArgument names) (constructor_arguments constants)
  constants_sound [] g = tt
  constants_sound (c ∷ constants) g = (constant_sound c g.0, constants_sound constants g.1)

-- the constants of instances are of the grammar
abbrev ConstantsHold : InstanceOf → Type 0
ConstantsHold (AnyPackage package' arguments) = AllByRecursion IsConstant arguments
ConstantsHold _ = Unit {0}

constants_behind : (constants : List Constant) → Each (λ (c : Constant). HasComma c.comma × IsConstant c) constants → AllByRecursion IsConstant constants
constants_behind [] g = tt
constants_behind (c ∷ constants) g = (g.0.1, constants_behind constants g.1)

some_constants : (arguments : Option Constants) → IfAny AreConstants arguments → AllByRecursion IsConstant (constants_listed arguments)
some_constants None g = tt
some_constants (Some cs) g = separated cs.list g
  where
    separated : (constants : List Constant) → Separated (λ (c : Constant). c.comma) IsConstant constants → AllByRecursion IsConstant constants
    separated [] g = tt
    separated (c ∷ constants) g = (g.1, constants_behind constants g.2)

constants_of_grammar : (globals : List GlobalItem) → Each IsGlobal globals → AllByRecursion (λ (i : SourceInstance). ConstantsHold i.sort) (source_instances globals)
constants_of_grammar [] g = tt
constants_of_grammar (Declared (declaration.Variables v) ∷ globals) g = constants_of_grammar globals g.1
constants_of_grammar (Declared (declaration.Instance keyword package_keyword package' name arguments end) ∷ globals) g =
    (some_constants arguments g.0.4, constants_of_grammar globals g.1)
constants_of_grammar (Declared (declaration.Hash keyword package_keyword hash_keyword name opening keys comma items size closing end) ∷ globals) g = (tt, constants_of_grammar globals g.1)
constants_of_grammar (Declared (declaration.Hiter keyword package_keyword hiter_keyword name opening hash closing end) ∷ globals) g = (tt, constants_of_grammar globals g.1)
constants_of_grammar (Declared (declaration.Thread keyword thread_keyword thread name end) ∷ globals) g = (tt, constants_of_grammar globals g.1)
constants_of_grammar (Listed keyword names end ∷ globals) g = constants_of_grammar globals g.1
constants_of_grammar (Defined m ∷ globals) g = constants_of_grammar globals g.1

-- ---- the number of a constructor

position_of_names : (name : List ℕ) (methods : List MethodTree) (sources : List Method)
    → map (λ (m : MethodTree). m.name) methods ≡ map (λ (m : Method). spelled_name m.name) sources → (k : ℕ)
    → position_from (λ (m : MethodTree). bytes_eq m.name name) k methods ≡ position_from (λ (m : Method). bytes_eq (spelled_name m.name) name) k sources
position_of_names name [] [] e k = refl
position_of_names name [] (s ∷ sources) e k = cc
position_of_names name (m ∷ methods) [] e k = cc
position_of_names name (m ∷ methods) (s ∷ sources) e k =
    let p = heads m.name (spelled_name s.name) (map (λ (x : MethodTree). x.name) methods) (map (λ (x : Method). spelled_name x.name) sources) e in
    let rest = position_from (λ (x : MethodTree). bytes_eq x.name name) (k + 1) methods in
    ap (λ n. cond (bytes_eq n name) (Some k) rest) p.0
    ∙ ap (λ r. cond (bytes_eq (spelled_name s.name) name) (Some k) r) (position_of_names name methods sources p.1 (k + 1))
  where
    heads : (a b : List ℕ) (xs ys : List (List ℕ)) → a ∷ xs ≡ b ∷ ys → (a ≡ b) × (xs ≡ ys)
    heads a b xs ys h = (cc, cc)

no_position_if : {A : Type 0} (b : Bool) (x : A) (rest : Option A) (k : ℕ) (further : Option ℕ) → cond b (Some x) rest ≡ None → (rest ≡ None → further ≡ None)
    → cond b (Some k) further ≡ None
no_position_if true x rest k further h f = cc
no_position_if false x rest k further h f = f h

no_position : {A : Type 0} (test : A → Bool) (xs : List A) (k : ℕ) → find test xs ≡ None → position_from test k xs ≡ None
no_position test [] k h = refl
no_position test (x ∷ xs) k h = no_position_if (test x) x (find test xs) k (position_from test (k + 1) xs) h (no_position test xs (k + 1))

some_position_if : {A : Type 0} (b : Bool) (x y : A) (rest : Option A) (k : ℕ) (further : Option ℕ) → cond b (Some x) rest ≡ Some y → (rest ≡ Some y → is_some further ≡ true)
    → is_some (cond b (Some k) further) ≡ true
some_position_if true x y rest k further h f = refl
some_position_if false x y rest k further h f = f h

some_position : {A : Type 0} (test : A → Bool) (xs : List A) (k : ℕ) (x : A) → find test xs ≡ Some x → is_some (position_from test k xs) ≡ true
some_position test [] k x h = cc
some_position test (y ∷ xs) k x h = some_position_if (test y) y x (find test xs) k (position_from test (k + 1) xs) h (some_position test xs (k + 1) x)

its_number : (found : Option ℕ) → is_some found ≡ true → found ≡ Some (unwrap_or found 0)
its_number None h = cc
its_number (Some n) h = refl

-- a package without a constructor has no number for it
no_constructor : (p : PackageTypes) → PackageStands p → constructor_of p ≡ None → method_number 0 p.methods p.name ≡ None
no_constructor p stands h =
    position_of_names p.name p.methods p.sources stands.names 0 ∙ no_position (λ (m : Method). bytes_eq (spelled_name m.name) p.name) p.sources 0 h

-- and the constructor has the number of its source
constructor_number : (p : PackageTypes) → PackageStands p → (m : Method) → constructor_of p ≡ Some m → method_number 0 p.methods p.name ≡ Some (number_of_method p.sources p.name)
constructor_number p stands m h =
    let test = λ (x : Method). bytes_eq (spelled_name x.name) p.name in
    let same : position test p.sources ≡ position_from test 0 p.sources = position_from-zero test p.sources in
    let there = its_number (position_from test 0 p.sources) (some_position test p.sources 0 m h) in
    position_of_names p.name p.methods p.sources stands.names 0 ∙ (there ∙ ap (λ (o : Option ℕ). Some (unwrap_or o 0)) (sym same))

-- ---- instances by their names

unlisted_among : (names : List (List ℕ)) (name other : List ℕ) → is_listed names name ≡ false → StandsAmong names other → bytes_eq other name ≡ false
unlisted_among [] name other h m = absurd m
unlisted_among (n ∷ names) name other h m =
    let p = or_parts (bytes_eq n name) (is_listed names name) h in elim m [
      | inl e ↦ ap (λ x. bytes_eq x name) e ∙ p.0
      | inr k ↦ unlisted_among names name other p.1 k
    ]

name_among : (is : List SourceInstance) (i : SourceInstance) → StandsAmong is i → StandsAmong (names_alone (instances_placed is)) (spelled_name i.name)
name_among [] i m = absurd m
name_among (j ∷ is) i m = elim m [
  | inl e ↦ inl (ap (λ (x : SourceInstance). spelled_name x.name) e)
  | inr k ↦ inr (name_among is i k)
]

in_front_append : (xs ys : List TypedStatement) (others : TypedStatements) → in_front (xs ++ ys) others ≡ in_front xs (in_front ys others)
in_front_append [] ys others = refl
in_front_append (x ∷ xs) ys others = ap (λ rest. Next x rest) (in_front_append xs ys others)

module _ (before : UnitsBefore) where
  -- the package that an instance is one of
  abbrev package_of_sort : InstanceOf → Option PackageTypes
  package_of_sort (AnyPackage package' arguments) = package_types before.packages (spelled_name package')
  package_of_sort _ = None

  -- the constants of an instance
  abbrev constants_of_sort : InstanceOf → List Constant
  constants_of_sort (AnyPackage package' arguments) = arguments
  constants_of_sort _ = []

  package_first : (own : List ℕ) (rest : List InstanceTree) (found : Option PackageTypes) (p : PackageTypes) → found ≡ Some p
      → instance_methods (instance_of_package own found ++ rest) own ≡ p.methods
  package_first own rest None p h = cc
  package_first own rest (Some q) p h =
      ap (λ b. if b then q.methods else instance_methods rest own) (bytes_are own own refl) ∙ ap (λ (found : Option PackageTypes). methods_or_none found) h
    where
      methods_or_none : Option PackageTypes → List MethodTree
      methods_or_none None = []
      methods_or_none (Some x) = x.methods

  instance_first : (own : List ℕ) (rest : List InstanceTree) (sort : InstanceOf) (p : PackageTypes) → package_of_sort sort ≡ Some p
      → instance_methods (instance_of_sort before own sort ++ rest) own ≡ p.methods
  instance_first own rest (AnyPackage package' arguments) p h = package_first own rest (package_types before.packages (spelled_name package')) p h
  instance_first own rest (HashObject keys items table) p h = cc
  instance_first own rest (HashIterator hash) p h = cc
  instance_first own rest (AnyThread thread) p h = cc

  -- the methods of an instance are those of its package
  methods_at : (is : List SourceInstance) → are_distinct (names_alone (instances_placed is)) ≡ true → (i : SourceInstance) → StandsAmong is i → (p : PackageTypes)
      → package_of_sort i.sort ≡ Some p → instance_methods (instances_of before is) (spelled_name i.name) ≡ p.methods
  methods_at [] d i m p h = absurd m
  methods_at (j ∷ is) d i m p h =
      let names = names_alone (instances_placed is) in
      let q = and_parts (not (is_listed names (spelled_name j.name))) (are_distinct names) d in elim m [
        | inl e ↦ subst (λ (x : SourceInstance). instance_methods (instances_of before (j ∷ is)) (spelled_name x.name) ≡ p.methods) (sym e)
            (instance_first (spelled_name j.name) (instances_of before is) j.sort p (ap (λ (x : SourceInstance). package_of_sort x.sort) (sym e) ∙ h))
        | inr k ↦ instance_further before true (spelled_name j.name) (spelled_name i.name) (instances_of before is) j.sort
            (inr (turned_bytes (spelled_name i.name) (spelled_name j.name)
            (unlisted_among names (spelled_name j.name) (spelled_name i.name) (not_true (is_listed names (spelled_name j.name)) q.0) (name_among is i k))))
            ∙ methods_at is q.1 i k p h
      ]

  -- ---- constructors in front of statements

  module _ (names : NamesInScope) where
    -- the constants of an instance are arguments of its constructor
    abbrev IsConstructed : SourceInstance → Type 0
    IsConstructed i = (p : PackageTypes) → package_of_sort i.sort ≡ Some p
        → HasConstructorArguments names (spelled_name i.name) (method_number 0 p.methods p.name) (arguments_of_constructor i.name.place (constants_of_sort i.sort) (constructor_of p)).arguments

    package_behind : (i : SourceInstance) (constants : List Constant) (found : Option PackageTypes) (rest : List InstanceTree) (others : TypedStatements)
        → ((p : PackageTypes) → found ≡ Some p
        → HasConstructorArguments names (spelled_name i.name) (method_number 0 p.methods p.name) (arguments_of_constructor i.name.place constants (constructor_of p)).arguments)
        → AreBehindConstructors names rest others
        → AreBehindConstructors names (instance_of_package (spelled_name i.name) found ++ rest) (in_front (constructions i constants found) others)
    package_behind i constants None rest others f k = k
    package_behind i constants (Some p) rest others f k = (refl, refl, f p refl, k)

    one_behind : (keyword name : Token) (sort : InstanceOf) (rest : List InstanceTree) (others : TypedStatements)
        → IsConstructed (record { keyword = keyword; name = name; sort = sort }) → AreBehindConstructors names rest others
        → AreBehindConstructors names (instance_of_sort before (spelled_name name) sort ++ rest)
        (in_front (constructions_of_sort before (record { keyword = keyword; name = name; sort = sort }) sort) others)
    one_behind keyword name (AnyPackage package' arguments) rest others f k =
        package_behind (record { keyword = keyword; name = name; sort = AnyPackage package' arguments }) arguments (package_types before.packages (spelled_name package')) rest others f k
    one_behind keyword name (HashObject keys items table) rest others f k = k
    one_behind keyword name (HashIterator hash) rest others f k = k
    one_behind keyword name (AnyThread thread) rest others f k = k

    -- statements that construct instances, one behind the other
    abbrev constructing : List SourceInstance → List TypedStatement
    constructing is = from_each (λ (i : SourceInstance). constructions_of_sort before i i.sort) is

    all_behind : (is : List SourceInstance) (statements : TypedStatements) → AllByRecursion IsConstructed is → AreTypedStatements names false statements
        → AreBehindConstructors names (instances_of before is) (in_front (constructing is) statements)
    all_behind [] statements f k = k
    all_behind (i ∷ is) statements f k =
        subst (λ (all : TypedStatements). AreBehindConstructors names (instances_of before (i ∷ is)) all)
        (sym (in_front_append (constructions_of_sort before i i.sort) (constructing is) statements))
        (one_behind i.keyword i.name i.sort (instances_of before is) (in_front (constructing is) statements) f.0 (all_behind is statements f.1 k))

    -- the constructor of an instance takes its constants
    constructor_fits : (p : PackageTypes) → PackageStands p → (name : List ℕ) (at : Place) (constants : List Constant) → names.methods (Some name) ≡ p.methods
        → AllByRecursion IsConstant constants → (found : Option Method) → constructor_of p ≡ found → (arguments_of_constructor at constants found).refusals ≡ []
        → HasConstructorArguments names name (method_number 0 p.methods p.name) (arguments_of_constructor at constants found).arguments
    constructor_fits p stands name at constants e g None c h =
        subst (λ (number : Option ℕ). HasConstructorArguments names name number NoArgument) (sym (no_constructor p stands c)) refl
    constructor_fits p stands name at constants e g (Some m) c h =
        let number = number_of_method p.sources p.name in
        let s = stands.methods p.name m c in
        let fits = method_arguments names p.methods at number m (constructor_arguments constants) s (constants_sound names constants g) h in
        subst (λ (n : Option ℕ). HasConstructorArguments names name n (arguments_of_constructor at constants (Some m)).arguments) (sym (constructor_number p stands m c))
        ((s.method, ap (λ (ms : List MethodTree). slice_get ms number) e ∙ s.there, fits))

-- ---- `init` of a program

module _ (laws : JoinLaws) (tables : TableColumns) (before : UnitsBefore) (u : UnitSource) (given : UnitHolds tables before u) (runs : is_package u.kind ≡ false) where
  abbrev names_here : SourceNames
  names_here = unit_names tables before u

  abbrev program : UnitTree
  program = typed_unit tables before u

  -- what the declaration of an instance breaks, by its sort
  construction_rule : (i : SourceInstance) (sort : InstanceOf) (p : PackageTypes) → package_of_sort before sort ≡ Some p
      → instance_refusals tables before (scope_of_declarations tables before u) i sort ≡ []
      → (arguments_of_constructor i.name.place (constants_of_sort before sort) (constructor_of p)).refusals ≡ []
  construction_rule i (AnyPackage package' arguments) p h r = subst (λ (found : Option PackageTypes). construction_refusals i.name.place arguments found ≡ []) h r
  construction_rule i (HashObject keys items table) p h r = cc
  construction_rule i (HashIterator hash) p h r = cc
  construction_rule i (AnyThread thread) p h r = cc

  package_of_instance : (sort : InstanceOf) (p : PackageTypes) → package_of_sort before sort ≡ Some p → PackageStands p
  package_of_instance (AnyPackage package' arguments) p h = package_there before given.stand.packages (spelled_name package') p h
  package_of_instance (HashObject keys items table) p h = cc
  package_of_instance (HashIterator hash) p h = cc
  package_of_instance (AnyThread thread) p h = cc

  constants_of_hold : (sort : InstanceOf) → ConstantsHold sort → AllByRecursion IsConstant (constants_of_sort before sort)
  constants_of_hold (AnyPackage package' arguments) g = g
  constants_of_hold (HashObject keys items table) g = tt
  constants_of_hold (HashIterator hash) g = tt
  constants_of_hold (AnyThread thread) g = tt

  -- among names with these methods of instances
  module _ (names : NamesInScope) (methods : (name : List ℕ) → names.methods (Some name) ≡ instance_methods program.instances name) where
    constructed : AllByRecursion (IsConstructed before names) names_here.instances
    constructed =
        let distinct = instances_distinct tables before.names.known u given.source (once laws tables before u given).globals in
        let grammar = constants_of_grammar u.globals given.source.grammar in
        for_each (IsConstructed before names) names_here.instances (λ i m p h.
        constructor_fits before names p (package_of_instance i.sort p h) (spelled_name i.name) i.name.place (constants_of_sort before i.sort)
        (methods (spelled_name i.name) ∙ methods_at before names_here.instances distinct i m p h)
        (constants_of_hold i.sort (of_among (λ (j : SourceInstance). ConstantsHold j.sort) names_here.instances i grammar m)) (constructor_of p) refl
        (construction_rule i i.sort p h
        (of_among (λ (j : SourceInstance). instance_refusals tables before (scope_of_declarations tables before u) j j.sort ≡ []) names_here.instances i
        (instance_rules laws tables before u given) m)))

  -- `init` with its constructors
  pub init_typed : IsTypedInit program program.init
  init_typed =
      let body = body_of_method tables before u (method_named (source_methods u.globals) (codes "init")) in
      let own = init_statements laws tables before u given runs in
      let names = names_with laws tables before u given runs body.locals program.threads true (length program.outputs) None in
      (own.0, all_behind before names names_here.instances body.statements (constructed names (λ name. refl)) own.1)
