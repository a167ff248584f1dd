-- The hash objects and iterators of a unit that breaks no rule are typed.
use Rattle.std.proofs.Common.{◌≡◌, ℕ, bytes_eq, cond, is_some, Bool, true, false, not, ◌&&◌, ◌||◌, List, [], ◌∷◌, ◌++◌, map, if◌then◌else◌, option_map, Option, Some, None, refl, ap, ◌∙◌, subst, true≢false}
use Rattle.std.specs.List.{AllByRecursion}
use Rattle.std.specs.Option.{option_map_or}
use Rattle.std.proofs.lemmas.Bool.{and_parts}
use Rattle.ds2_token.specs.declared.token.Token.{Token}
use Rattle.ds2_tree.specs.declared.globals.Parameter as source_parameter
use Rattle.ds2_value.specs.Row.{Columns}
use Rattle.ds2_value.specs.Schema.{has_column, distinct_names, types_in_bounds}
use Rattle.ds2_value.specs.Types.{in_bounds, takes, join_of}
use Rattle.ds2_value.specs.declared.ty.Ty.{Ty}
use Rattle.ds2_value.specs.declared.ty.Ty.TheVariants.{BigInt}
use Rattle.ds2_meaning.specs.declared.hashes.DeclaredHash.{DeclaredHash}
use Rattle.ds2_meaning.specs.declared.hashes.DeclaredIterator.{DeclaredIterator}
use Rattle.ds2_meaning.specs.declared.hashes.HashVariable.{HashVariable}
use Rattle.ds2_meaning.specs.declared.location.Global.{Global}
use Rattle.ds2_meaning.specs.declared.location.Global.TheVariants.{Named, Present, Parameter as ThreadParameter}
use Rattle.ds2_meaning.specs.declared.location.Reference.{Reference}
use Rattle.ds2_meaning.specs.declared.location.Reference.TheVariants.{At, Local}
use Rattle.ds2_meaning.specs.declared.refusals.TypeKind.TheVariants.{TypeClash}
use Rattle.ds2_meaning.specs.HashObjects.{hash_named}
use Rattle.ds2_meaning.specs.IsTyped.{NamesInScope, type_in, variable_names, AreHashVariables, AreHashTargets, column_type, AreLoadedVariables, IsTypedLoad, AreTypedHashes, AreTypedIterators, AreTypedObjects}
use Rattle.ds2_meaning.specs.ProgramTree.{is_listed}
use Rattle.ds2_names.specs.NameRules.{from_each, place_unless, may_be_column, has_each_column, unknown_hash_variables, lacking_table, is_hash, is_hash_name, unknown_in_instance, is_settable_global, is_only_instance, not_variable_in_instance}
use Rattle.ds2_names.specs.SourceUnit.{TableColumns, UnitSource, spelled_name, spelled_text, PlacedName, placed_name, names_alone, InstanceOf, AnyPackage, HashObject, HashIterator, AnyThread, SourceInstance, instance_named, SourceNames, vector_names, is_named}
use Rattle.ds2_elaboration.specs.ExpressionTypes.{TypeScope, KnownVariable, unjoined_refusals, known_parameter, known_global, global_variable}
use Rattle.ds2_elaboration.specs.ProgramTypes.{hash_variable_of, typed_hash_variables, hash_load, hash_of_sort, iterator_of_sort, clashing_load, load_refusals, loaded_refusals, instance_refusals, scope_of_declarations, unit_objects}
use Rattle.ds2_elaboration.specs.SourceTypes.{spelled_type, is_joined_to, type_of_column, parameter_variables, unit_names, vector_variables}
use Rattle.ds2_elaboration.specs.TypedScopes.{ScopeStands}
use Rattle.ds2_elaboration.specs.Typings.{TypeRefusals, type_refusal_at, clash_unless, typing_behind, where_known}
use Rattle.ds2_elaboration.specs.UnitsBefore.{UnitsBefore}
use Rattle.ds2_elaboration.proofs.Accepted.{both_all, halves_empty, bounded_in}
use Rattle.ds2_elaboration.proofs.Distinct.{vector_is}
use Rattle.ds2_elaboration.proofs.Expressions.{KnownStands, StandsIfKnown, global_found}
use Rattle.ds2_elaboration.proofs.Facts.{JoinLaws, UnitHolds, vector_bounds, parameter_bounds, instance_rules, known_instances, no_further_column, none_unjoined, settable_instances}
use Rattle.ds2_elaboration.proofs.Joins.{joined_to}
use Rattle.ds2_elaboration.proofs.Lookups.{found_behind}
use Rattle.ds2_elaboration.proofs.Objects.{some_here, hashes_of, iterators_of}
use Rattle.ds2_elaboration.proofs.Operands.{unclashed}
use Rattle.ds2_elaboration.proofs.Outcome.{both_empty, unplaced}
use Rattle.ds2_elaboration.proofs.Readings.{untyped_unlisted}
use Rattle.ds2_elaboration.proofs.Vectors.{column_bounded}

-- ---- columns of a hash object's table

column_types_are : (columns : Columns) (name : List ℕ) → column_type columns name ≡ type_of_column name columns
column_types_are [] name = refl
column_types_are (c ∷ columns) name = ap (λ rest. if bytes_eq c.name name then Some c.ty else rest) (column_types_are columns name)

typed_column_if : (b there : Bool) (own : Ty) (rest : Option Ty) → (b || there) ≡ true → (there ≡ true → is_some rest ≡ true) → is_some (if b then Some own else rest) ≡ true
typed_column_if true there own rest h f = refl
typed_column_if false there own rest h f = f h

typed_column : (columns : Columns) (name : List ℕ) → has_column name columns ≡ true → is_some (type_of_column name columns) ≡ true
typed_column [] name h = cc
typed_column (c ∷ columns) name h = typed_column_if (bytes_eq c.name name) (has_column name columns) c.ty (type_of_column name columns) h (typed_column columns name)

each_column : (columns : Columns) (xs ys : List Token) → has_each_column columns (xs ++ ys) ≡ true → (has_each_column columns xs ≡ true) × (has_each_column columns ys ≡ true)
each_column columns [] ys h = (refl, h)
each_column columns (x ∷ xs) ys h =
    let p = and_parts (has_column (spelled_name x) columns) (has_each_column columns (xs ++ ys)) h in
    let q = each_column columns xs ys p.1 in
    (ap (λ b. b && has_each_column columns xs) p.0 ∙ q.0, q.1)

-- ---- lists of variables and objects

hash_variables_append : (globals : Global → Option Ty) (xs ys : List HashVariable) → AreHashVariables globals xs → AreHashVariables globals ys → AreHashVariables globals (xs ++ ys)
hash_variables_append globals [] ys f g = g
hash_variables_append globals (x ∷ xs) ys f g = (f.0, f.1, hash_variables_append globals xs ys f.2 g)

targets_append : (xs ys : List HashVariable) → AreHashTargets xs → AreHashTargets ys → AreHashTargets (xs ++ ys)
targets_append [] ys f g = g
targets_append (x ∷ xs) ys f g = (f.0, targets_append xs ys f.1 g)

loaded_append : (columns : Columns) (xs ys : List HashVariable) → AreLoadedVariables columns xs → AreLoadedVariables columns ys → AreLoadedVariables columns (xs ++ ys)
loaded_append columns [] ys f g = g
loaded_append columns (x ∷ xs) ys f g = (f.0, loaded_append columns xs ys f.1 g)

hashes_append : (globals : Global → Option Ty) (xs ys : List DeclaredHash) → AreTypedHashes globals xs → AreTypedHashes globals ys → AreTypedHashes globals (xs ++ ys)
hashes_append globals [] ys f g = g
hashes_append globals (x ∷ xs) ys f g = (f.0, hashes_append globals xs ys f.1 g)

iterators_append : (hashes : List DeclaredHash) (xs ys : List DeclaredIterator) → AreTypedIterators hashes xs → AreTypedIterators hashes ys → AreTypedIterators hashes (xs ++ ys)
iterators_append hashes [] ys f g = g
iterators_append hashes (x ∷ xs) ys f g = (f.0, iterators_append hashes xs ys f.1 g)

pub parameter_names_of : (u : UnitSource) → names_alone (map (λ (p : source_parameter.Parameter). placed_name p.name) u.parameters) ≡ variable_names (parameter_variables u)
parameter_names_of u = from_list u.parameters
  where
    from_list : (ps : List source_parameter.Parameter) → names_alone (map (λ (p : source_parameter.Parameter). placed_name p.name) ps)
        ≡ variable_names (map (λ (p : source_parameter.Parameter). record { name = spelled_name p.name; ty = spelled_type p.ty }) ps)
    from_list [] = refl
    from_list (p ∷ ps) = ap (λ ns. spelled_name p.name ∷ ns) (from_list ps)

none_settable : (a b c : Bool) → a ≡ false → b ≡ false → c ≡ false → (a || b || c) ≡ true → true ≡ false
none_settable true b c e f g h = e
none_settable false true c e f g h = f
none_settable false false true e f g h = g
none_settable false false false e f g h = cc

module _ (laws : JoinLaws) (tables : TableColumns) (before : UnitsBefore) (u : UnitSource) (given : UnitHolds tables before u) where
  abbrev names_here : SourceNames
  names_here = unit_names tables before u

  abbrev scope_here : TypeScope
  scope_here = scope_of_declarations tables before u

  -- a global of the unit is a variable of the vector, a parameter or a flag
  by_global : (P : Option KnownVariable → Type 0) (name : List ℕ)
      → ((ty : Ty) → type_in scope_here.variables name ≡ Some ty → P (Some (record { reference = At (Named name); ty = ty; refusals = unjoined_refusals scope_here name })))
      → ((ty : Ty) → type_in scope_here.parameters name ≡ Some ty → P (Some (record { reference = At (ThreadParameter name); ty = ty; refusals = [] })))
      → (type_in scope_here.variables name ≡ None → type_in scope_here.parameters name ≡ None → P (Some (record { reference = At (Present name); ty = BigInt; refusals = [] })))
      → (type_in scope_here.variables name ≡ None → type_in scope_here.parameters name ≡ None → P None) → P (global_variable scope_here name)
  by_global P name f g k n = of_vector (type_in scope_here.variables name) refl
    where
      of_flag : (b : Bool) → type_in scope_here.variables name ≡ None → type_in scope_here.parameters name ≡ None
          → P (if b then Some (record { reference = At (Present name); ty = BigInt; refusals = [] }) else None)
      of_flag true e d = k e d
      of_flag false e d = n e d

      of_parameters : (found : Option Ty) → type_in scope_here.variables name ≡ None → type_in scope_here.parameters name ≡ found → P (known_parameter scope_here name found)
      of_parameters (Some ty) e d = g ty d
      of_parameters None e d = of_flag (is_listed scope_here.flags name) e d

      of_vector : (found : Option Ty) → type_in scope_here.variables name ≡ found → P (known_global scope_here name found)
      of_vector (Some ty) e = f ty e
      of_vector None e = of_parameters (type_in scope_here.parameters name) e refl

  -- no column of the unit is unjoined
  joined_all : (name : List ℕ) → unjoined_refusals scope_here name ≡ []
  joined_all name =
      ap (λ (columns : List PlacedName). from_each (λ (c : PlacedName). if bytes_eq c.name name then type_refusal_at TypeClash c.place else []) columns)
      (none_unjoined laws tables before u given)

  -- ---- data variables may be set

  targets_of : (name : List ℕ) → is_settable_global names_here name ≡ true → AreHashTargets (hash_variable_of (global_variable scope_here name))
  targets_of name h =
      by_global (λ (found : Option KnownVariable). AreHashTargets (hash_variable_of found)) name (λ ty e. (tt, tt)) (λ ty e. (tt, tt)) (λ e d. absurd (true≢false (unset e d))) (λ e d. tt)
    where
      unset : type_in scope_here.variables name ≡ None → type_in scope_here.parameters name ≡ None → true ≡ false
      unset e d =
          none_settable (is_named (vector_names names_here) name) (is_named names_here.parameters name) (may_be_column names_here name)
          (ap (λ ns. is_listed ns name) (vector_is tables before u) ∙ untyped_unlisted (vector_variables tables before u) name e)
          (ap (λ ns. is_listed ns name) (parameter_names_of u) ∙ untyped_unlisted (parameter_variables u) name d)
          (no_further_column laws tables before u given name) h

  all_targets : (items : List Token) → from_each (λ (t : Token). place_unless (is_settable_global names_here (spelled_name t)) t.place) items ≡ []
      → AreHashTargets (typed_hash_variables scope_here items)
  all_targets [] h = tt
  all_targets (t ∷ items) h =
      let rule = λ (x : Token). place_unless (is_settable_global names_here (spelled_name x)) x.place in
      let p = both_empty (rule t) (from_each rule items) h in
      targets_append (hash_variable_of (global_variable scope_here (spelled_name t))) (typed_hash_variables scope_here items)
      (targets_of (spelled_name t) (unplaced (is_settable_global names_here (spelled_name t)) t.place p.0)) (all_targets items p.1)

  -- ---- the table of a hash object

  -- a variable takes the values of its column
  column_taken : (text : Token) (name : List ℕ) (own : Ty) (refusals : TypeRefusals) (found : Option Ty) → type_of_column name (tables (spelled_text text)) ≡ found → is_some found ≡ true
      → refusals ≡ [] → in_bounds own ≡ true
      → clashing_load text.place (tables (spelled_text text)) (record { reference = At (Named name); ty = own; refusals = refusals }) found ≡ []
      → (ty : Ty) × (column_type (tables (spelled_text text)) name ≡ Some ty) × (takes own ty ≡ true)
  column_taken text name own refusals None e s r b h = cc
  column_taken text name own refusals (Some ty) e s r b h =
      let columns = tables (spelled_text text) in
      let types = (and_parts (distinct_names columns) (types_in_bounds columns) (given.schemas (spelled_text text))).1 in
      let rule = subst (λ (rs : TypeRefusals). where_known (typing_behind rs own) (λ o. clash_unless (is_joined_to o (join_of o ty)) text.place) ≡ []) r h in
      let joined = unclashed (is_joined_to own (join_of own ty)) text.place rule in (
        ty,
        column_types_are columns name ∙ e,
        joined_to laws.join laws.itself laws.onward own ty (join_of own ty) refl joined b (column_bounded name columns types ty e),
      )

  loaded_of : (text : Token) (name : List ℕ) → has_column name (tables (spelled_text text)) ≡ true
      → option_map_or (λ (v : KnownVariable). clashing_load text.place (tables (spelled_text text)) v (type_of_column name (tables (spelled_text text)))) (global_variable scope_here name) [] ≡ []
      → AreLoadedVariables (tables (spelled_text text)) (hash_variable_of (global_variable scope_here name))
  loaded_of text name there =
      let columns = tables (spelled_text text) in
      let found = type_of_column name columns in
      let some = typed_column columns name there in
      by_global
      (λ (v : Option KnownVariable). option_map_or (λ (x : KnownVariable). clashing_load text.place columns x (type_of_column name columns)) v [] ≡ [] → AreLoadedVariables columns (hash_variable_of v))
      name
      (λ ty e h. (
        column_taken text name ty (unjoined_refusals scope_here name) found refl some (joined_all name)
            (bounded_in (vector_variables tables before u) (vector_bounds laws tables before u given) name ty e) h,
        tt,
      ))
      (λ ty e h. (column_taken text name ty [] found refl some refl (bounded_in (parameter_variables u) (parameter_bounds laws tables before u given) name ty e) h, tt))
      (λ e d h. (column_taken text name BigInt [] found refl some refl refl h, tt)) (λ e d h. tt)

  all_loaded : (text : Token) (variables : List Token) → has_each_column (tables (spelled_text text)) variables ≡ true → from_each (load_refusals tables scope_here text) variables ≡ []
      → AreLoadedVariables (tables (spelled_text text)) (typed_hash_variables scope_here variables)
  all_loaded text [] f h = tt
  all_loaded text (t ∷ variables) f h =
      let columns = tables (spelled_text text) in
      let p = and_parts (has_column (spelled_name t) columns) (has_each_column columns variables) f in
      let q = both_empty (load_refusals tables scope_here text t) (from_each (load_refusals tables scope_here text) variables) h in
      loaded_append columns (hash_variable_of (global_variable scope_here (spelled_name t))) (typed_hash_variables scope_here variables)
      (loaded_of text (spelled_name t) p.0 q.0) (all_loaded text variables p.1 q.1)

  -- ---- hash objects

  module _ (names : NamesInScope) (stands : ScopeStands scope_here names) where
    -- a variable that a hash object names
    variable_typed : (reference : Reference) (ty : Ty) (refusals : TypeRefusals) → KnownStands names (record { reference = reference; ty = ty; refusals = refusals })
        → AreHashVariables names.globals (hash_variable_of (Some (record { reference = reference; ty = ty; refusals = refusals })))
    variable_typed (At global) ty refusals k = (k.there, k.bounds, tt)
    variable_typed (Local name) ty refusals k = tt

    variable_of : (found : Option KnownVariable) → StandsIfKnown names found → AreHashVariables names.globals (hash_variable_of found)
    variable_of None k = tt
    variable_of (Some v) k = variable_typed v.reference v.ty v.refusals k

    all_variables : (variables : List Token) → AreHashVariables names.globals (typed_hash_variables scope_here variables)
    all_variables [] = tt
    all_variables (t ∷ variables) =
        let found = global_variable scope_here (spelled_name t) in
        hash_variables_append names.globals (hash_variable_of found) (typed_hash_variables scope_here variables) (variable_of found (global_found scope_here names stands (spelled_name t)))
        (all_variables variables)

    -- the rules of the declaration of an instance
    abbrev RulesOf : SourceInstance → InstanceOf → Type 0
    RulesOf i sort =
        (unknown_in_instance tables names_here sort ≡ []) × ((not_variable_in_instance names_here sort ≡ []) × (instance_refusals tables before scope_here i sort ≡ []))

    load_typed : (name : List ℕ) (keys items : List Token) (table : Option Token) → lacking_table tables (keys ++ items) table ≡ []
        → loaded_refusals tables scope_here (keys ++ items) table ≡ []
        → IsTypedLoad (record {
          name = name;
          key_variables = typed_hash_variables scope_here keys;
          data_variables = typed_hash_variables scope_here items;
          loaded = option_map (hash_load tables before.names.made) table;
        }) (option_map (hash_load tables before.names.made) table)
    load_typed name keys items None l r = tt
    load_typed name keys items (Some text) l r =
        let columns = tables (spelled_text text) in
        let there = each_column columns keys items (unplaced (has_each_column columns (keys ++ items)) text.place l) in
        let rules = halves_empty (load_refusals tables scope_here text) keys items r in
        (given.schemas (spelled_text text), all_loaded text keys there.0 rules.0, all_loaded text items there.1 rules.1)

    hash_typed : (i : SourceInstance) (name : List ℕ) (sort : InstanceOf) → RulesOf i sort → AreTypedHashes names.globals (hash_of_sort tables before.names.made scope_here name sort)
    hash_typed i name (AnyPackage package' arguments) h = tt
    hash_typed i name (HashObject keys items table) h =
        let lacking = both_empty (unknown_hash_variables names_here (keys ++ items)) (lacking_table tables (keys ++ items) table) h.0 in
        let set = both_empty (from_each (λ (t : Token). place_unless (not (is_only_instance names_here (spelled_name t))) t.place) keys)
        (from_each (λ (t : Token). place_unless (is_settable_global names_here (spelled_name t)) t.place) items) h.1.0 in
        ((all_variables keys, all_variables items, all_targets items set.1, load_typed name keys items table lacking.1 h.1.1), tt)
    hash_typed i name (HashIterator hash) h = tt
    hash_typed i name (AnyThread thread) h = tt

    hashes_typed : (is : List SourceInstance) → AllByRecursion (λ (i : SourceInstance). RulesOf i i.sort) is
        → AreTypedHashes names.globals (hashes_of before tables before.names.made scope_here is)
    hashes_typed [] f = tt
    hashes_typed (i ∷ is) f =
        hashes_append names.globals (hash_of_sort tables before.names.made scope_here (spelled_name i.name) i.sort) (hashes_of before tables before.names.made scope_here is)
        (hash_typed i (spelled_name i.name) i.sort f.0) (hashes_typed is f.1)

    rules_of_all : AllByRecursion (λ (i : SourceInstance). RulesOf i i.sort) names_here.instances
    rules_of_all =
        both_all (λ (i : SourceInstance). unknown_in_instance tables names_here i.sort ≡ [])
        (λ (i : SourceInstance). (not_variable_in_instance names_here i.sort ≡ []) × (instance_refusals tables before scope_here i i.sort ≡ [])) names_here.instances
        (known_instances laws tables before u given)
        (both_all (λ (i : SourceInstance). not_variable_in_instance names_here i.sort ≡ []) (λ (i : SourceInstance). instance_refusals tables before scope_here i i.sort ≡ [])
        names_here.instances (settable_instances laws tables before u given) (instance_rules laws tables before u given))

    -- ---- iterators

    abbrev hashes_here : List SourceInstance → List DeclaredHash
    hashes_here is = hashes_of before tables before.names.made scope_here is

    hash_of_name : (own name : List ℕ) (rest : List DeclaredHash) (sort : InstanceOf) → is_hash sort ≡ true → bytes_eq own name ≡ true
        → is_some (hash_named (hash_of_sort tables before.names.made scope_here own sort ++ rest) name) ≡ true
    hash_of_name own name rest (AnyPackage package' arguments) h e = cc
    hash_of_name own name rest (HashObject keys items table) h e =
        some_here (bytes_eq own name) (record {
          name = own;
          key_variables = typed_hash_variables scope_here keys;
          data_variables = typed_hash_variables scope_here items;
          loaded = option_map (hash_load tables before.names.made) table;
        }) (hash_named rest name) e
    hash_of_name own name rest (HashIterator hash) h e = cc
    hash_of_name own name rest (AnyThread thread) h e = cc

    hash_if : (b : Bool) (name : List ℕ) (i : SourceInstance) (is : List SourceInstance) → bytes_eq (spelled_name i.name) name ≡ b
        → (option_map_or (λ (j : SourceInstance). is_hash j.sort) (instance_named is name) false ≡ true → is_some (hash_named (hashes_here is) name) ≡ true)
        → option_map_or (λ (j : SourceInstance). is_hash j.sort) (cond b (Some i) (instance_named is name)) false ≡ true
        → is_some (hash_named (hash_of_sort tables before.names.made scope_here (spelled_name i.name) i.sort ++ hashes_here is) name) ≡ true
    hash_if true name i is e f h = hash_of_name (spelled_name i.name) name (hashes_here is) i.sort h e
    hash_if false name i is e f h =
        found_behind (λ (x : DeclaredHash). bytes_eq x.name name) (hash_of_sort tables before.names.made scope_here (spelled_name i.name) i.sort) (hashes_here is) (f h)

    hash_is_there : (name : List ℕ) (is : List SourceInstance) → option_map_or (λ (j : SourceInstance). is_hash j.sort) (instance_named is name) false ≡ true
        → is_some (hash_named (hashes_here is) name) ≡ true
    hash_is_there name [] h = cc
    hash_is_there name (i ∷ is) h = hash_if (bytes_eq (spelled_name i.name) name) name i is refl (hash_is_there name is) h

    iterator_typed : (name : List ℕ) (sort : InstanceOf) → unknown_in_instance tables names_here sort ≡ []
        → AreTypedIterators (hashes_here names_here.instances) (iterator_of_sort name sort)
    iterator_typed name (AnyPackage package' arguments) h = tt
    iterator_typed name (HashObject keys items table) h = tt
    iterator_typed name (HashIterator hash) h =
        (hash_is_there (spelled_text hash) names_here.instances (unplaced (is_hash_name names_here (spelled_text hash)) hash.place h), tt)
    iterator_typed name (AnyThread thread) h = tt

    iterators_typed : (is : List SourceInstance) → AllByRecursion (λ (i : SourceInstance). unknown_in_instance tables names_here i.sort ≡ []) is
        → AreTypedIterators (hashes_here names_here.instances) (iterators_of before is)
    iterators_typed [] f = tt
    iterators_typed (i ∷ is) f =
        iterators_append (hashes_here names_here.instances) (iterator_of_sort (spelled_name i.name) i.sort) (iterators_of before is)
        (iterator_typed (spelled_name i.name) i.sort f.0) (iterators_typed is f.1)

    -- the hash objects and iterators of the unit
    pub objects_typed : AreTypedObjects names.globals (unit_objects tables before u)
    objects_typed = (hashes_typed names_here.instances rules_of_all, iterators_typed names_here.instances (known_instances laws tables before u given))
