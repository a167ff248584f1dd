-- What a typed program keeps before its first unit fits, and so do the values that it gives to its stage.
use Rattle.std.proofs.Common.{◌≡◌, ◌≤◌, ◌+◌, ◌^◌, ℕ, Bool, true, false, not, ◌&&◌, ◌||◌, List, [], ◌∷◌, ◌++◌, length, bytes_eq, Option, Some, None, Result, Ok, Err, unwrap_or, refl, sym, ap, ◌∙◌, subst, true≢false, arith}
use Rattle.std.specs.Prelude.{IsTrue, if◌then◌else◌}
use Rattle.std.specs.List.{list_all}
use Rattle.std.proofs.lemmas.Bool.{lt-ltb, ltb-true}
use Rattle.std.proofs.lemmas.List.{length-append}
use Rattle.std.proofs.lemmas.Slice.Eq.{bytes_eq-Decides}
use Rattle.ds2_value.specs.HashList.{HashItem, HashItems, item_data, added_item, hash_answer}
use Rattle.ds2_value.specs.Keeping.{IsHeld, FittingIsHeld, AssignedFits}
use Rattle.ds2_value.specs.Operations.{or_null_at_fault}
use Rattle.ds2_value.specs.Row.{Row, Columns}
use Rattle.ds2_value.specs.Schema.{row_fits, distinct_names, types_in_bounds}
use Rattle.ds2_value.specs.Types.{in_bounds, fits, assign_of}
use Rattle.ds2_value.specs.declared.fault.Fault.{Fault}
use Rattle.ds2_value.specs.declared.hash_function.HashFunction.TheVariants.{Add}
use Rattle.ds2_value.specs.declared.ty.Ty.{Ty}
use Rattle.ds2_value.specs.declared.value.Value.{Value}
use Rattle.ds2_value.specs.declared.value.Value.TheVariants.{Null}
use Rattle.ds2_table.specs.Table.{rows_fit}
use Rattle.ds2_meaning.specs.declared.globals.Variable.{Variable}
use Rattle.ds2_meaning.specs.declared.hashes.DeclaredHash.{DeclaredHash}
use Rattle.ds2_meaning.specs.declared.hashes.DeclaredIterator.{DeclaredIterator}
use Rattle.ds2_meaning.specs.declared.hashes.HashVariable.{HashVariable}
use Rattle.ds2_meaning.specs.declared.hashes.LoadedTable.{LoadedTable}
use Rattle.ds2_meaning.specs.declared.location.Global.{Global}
use Rattle.ds2_meaning.specs.declared.location.Global.TheVariants.{Named, First, Last, Present, Parameter}
use Rattle.ds2_meaning.specs.HashObjects.{DeclaredObjects, hash_named, object_at}
use Rattle.ds2_meaning.specs.IsTyped.{type_in, variable_names, are_distinct, AreHashVariables, IsTypedLoad, AreTypedHashes, AreTypedInstances, package_globals, globals_of, thread_parameters, IsTypedUnit, IsTypedProgram, parameter_type, location_type, row_fits_variables, items_fit_variables, is_countable, items_fit, StorageFits}
use Rattle.ds2_meaning.specs.Location.{Home, is_same_global, is_same_home, Location, is_same_location, Content, Holds, Items, Position, Storage, held, items_held, with_content}
use Rattle.ds2_meaning.specs.ProgramMeaning.{nothing_kept, global_name, row_for_variables, with_rows_as_items, first_items, with_hashes_opened, with_iterators_opened, with_objects_opened, with_instances_opened, with_parameters, parameters_given}
use Rattle.ds2_meaning.specs.ProgramTree.{InstanceTree, UnitTree, ProgramTree, OverTables, OverStage, is_listed, instance_objects, objects_of, reader_of}
use Rattle.ds2_meaning.specs.Reading.{TableRows, value_under, stage_instance}
use Rattle.ds2_meaning.specs.StorageLaws.{LoadFits, LoadsFit, InstanceLoadsFit, ParametersFit, OpeningFits, GivenParametersFit}

-- ---- tests

both_true : (b c : Bool) → b && c ≡ true → (b ≡ true) × (c ≡ true)
both_true true c h = (refl, h)
both_true false c h = absurd (true≢false (sym h))

are_both : (b c : Bool) → b ≡ true → c ≡ true → b && c ≡ true
are_both b c h k = ap (λ x. x && c) h ∙ k

neither : (b c : Bool) → b || c ≡ false → (b ≡ false) × (c ≡ false)
neither true c h = absurd (true≢false h)
neither false c h = (refl, h)

not_so : (b : Bool) → not b ≡ true → b ≡ false
not_so true h = absurd (true≢false (sym h))
not_so false h = refl

other_way : (a b : List ℕ) → bytes_eq a b ≡ true → bytes_eq b a ≡ true
other_way a b h = (bytes_eq-Decides b a).1 (sym ((bytes_eq-Decides a b).0 h))

other_way_false : (a b : List ℕ) → bytes_eq a b ≡ false → bytes_eq b a ≡ false
other_way_false a b h = by (bytes_eq b a) refl
  where
    by : (c : Bool) → bytes_eq b a ≡ c → bytes_eq b a ≡ false
    by true e = absurd (true≢false (sym (other_way b a e) ∙ h))
    by false e = e

same_home : (home : Home) → is_same_home home home ≡ true
same_home None = refl
same_home (Some i) = (bytes_eq-Decides i i).1 refl

null_fits : (v : Value) (ty : Ty) → v ≡ Null → IsTrue (fits v ty)
null_fits v ty h = ap (λ x. fits x ty) h

-- ---- values

-- no location holds a value
abbrev NoneHeld : Storage → Type 0
NoneHeld c = (at : Location) → held (c at) ≡ Null

kept_none : (l : Location) (content : Content) (before : Storage) → held content ≡ Null → NoneHeld before → NoneHeld (with_content l content before)
kept_none l content before h k at = by (is_same_location at l)
  where
    by : (b : Bool) → held (if b then content else before at) ≡ Null
    by true = h
    by false = k at

hashes_none : (tables : TableRows) (home : Home) (hashes : List DeclaredHash) (before : Storage) → NoneHeld before → NoneHeld (with_hashes_opened tables home hashes before)
hashes_none tables home [] before k = k
hashes_none tables home (h ∷ hashes) before k =
    kept_none (object_at home h.name) (Items (first_items h h.loaded tables)) (with_hashes_opened tables home hashes before) refl (hashes_none tables home hashes before k)

iterators_none : (home : Home) (iterators : List DeclaredIterator) (before : Storage) → NoneHeld before → NoneHeld (with_iterators_opened home iterators before)
iterators_none home [] before k = k
iterators_none home (i ∷ iterators) before k =
    kept_none (object_at home i.name) (Position None) (with_iterators_opened home iterators before) refl (iterators_none home iterators before k)

objects_none : (tables : TableRows) (home : Home) (objects : DeclaredObjects) (before : Storage) → NoneHeld before → NoneHeld (with_objects_opened tables home objects before)
objects_none tables home objects before k =
    hashes_none tables home objects.hashes (with_iterators_opened home objects.iterators before) (iterators_none home objects.iterators before k)

instances_none : (tables : TableRows) (instances : List InstanceTree) (before : Storage) → NoneHeld before → NoneHeld (with_instances_opened tables instances before)
instances_none tables [] before k = k
instances_none tables (i ∷ instances) before k =
    objects_none tables (Some i.name) i.objects (with_instances_opened tables instances before) (instances_none tables instances before k)

-- ---- parameters

-- a global of a home is the parameter of this name
abbrev is_parameter : Home → Global → List ℕ → Bool
is_parameter home global name = is_same_home home None && is_same_global global (Parameter name)

-- each parameter that a global of a home is has this type
abbrev ParametersAgree : Home → Global → Ty → List Variable → Type 0
ParametersAgree home global ty [] = Unit {0}
ParametersAgree home global ty (p ∷ ps) = (is_parameter home global p.name ≡ true → p.ty ≡ ty) × ParametersAgree home global ty ps

parameters_fit : (at : Location) (ty : Ty) (ps : List Variable) (vs : List Value) (before : Storage) → ParametersAgree at.home at.global ty ps → ParametersFit ps vs
    → IsTrue (fits (held (before at)) ty) → IsTrue (fits (held (with_parameters ps vs before at)) ty)
parameters_fit at ty [] vs before a f h = h
parameters_fit at ty (p ∷ ps) [] before a f h = h
parameters_fit at ty (p ∷ ps) (v ∷ vs) before a f h =
    parameters_fit at ty ps vs (with_content (record { home = None; global = Parameter p.name }) (Holds v) before) a.1 f.1 (by (is_parameter at.home at.global p.name) a.0)
  where
    by : (b : Bool) → (b ≡ true → p.ty ≡ ty) → IsTrue (fits (held (if b then Holds v else before at)) ty)
    by true e = subst (λ t. IsTrue (fits v t)) (e refl) f.0
    by false e = h

no_parameter : (home : Home) (global : Global) (ty : Ty) (ps : List Variable) → ((name : List ℕ) → is_parameter home global name ≡ false) → ParametersAgree home global ty ps
no_parameter home global ty [] never = tt
no_parameter home global ty (p ∷ ps) never = ((λ h. absurd (true≢false (sym h ∙ never p.name))), no_parameter home global ty ps never)

unlisted : (name m : List ℕ) (ty : Ty) (ps : List Variable) → name ≡ m → is_listed (variable_names ps) name ≡ false → ParametersAgree None (Parameter m) ty ps
unlisted name m ty [] e n = tt
unlisted name m ty (q ∷ qs) e n =
    let parts = neither (bytes_eq q.name name) (is_listed (variable_names qs) name) n in (
      (λ h. absurd (true≢false (sym ((bytes_eq-Decides q.name name).1 (sym ((bytes_eq-Decides m q.name).0 h) ∙ sym e)) ∙ parts.0))),
      unlisted name m ty qs e parts.1,
    )

one_type : (m : List ℕ) (ty : Ty) (ps : List Variable) → IsTrue (are_distinct (variable_names ps)) → type_in ps m ≡ Some ty → ParametersAgree None (Parameter m) ty ps
one_type m ty [] d e = tt
one_type m ty (p ∷ ps) d e =
    let parts = both_true (not (is_listed (variable_names ps) p.name)) (are_distinct (variable_names ps)) d in
    by (not_so (is_listed (variable_names ps) p.name) parts.0) (λ f. one_type m ty ps parts.1 f) (bytes_eq p.name m) refl e
  where
    by : is_listed (variable_names ps) p.name ≡ false → (type_in ps m ≡ Some ty → ParametersAgree None (Parameter m) ty ps) → (b : Bool) → bytes_eq p.name m ≡ b
        → (if b then Some p.ty else type_in ps m) ≡ Some ty → ParametersAgree None (Parameter m) ty (p ∷ ps)
    by alone again true same f = ((λ h. ap (λ o. unwrap_or o p.ty) f), unlisted p.name m ty ps ((bytes_eq-Decides p.name m).0 same) alone)
    by alone again false differs f = ((λ h. absurd (true≢false (sym (other_way m p.name h) ∙ differs))), again f)

parameters_agree : (p : UnitTree) (home : Home) (global : Global) (ty : Ty) → IsTrue (are_distinct (variable_names p.parameters)) → location_type p home global ≡ Some ty
    → ParametersAgree home global ty p.parameters
parameters_agree p (Some i) global ty d e = no_parameter (Some i) global ty p.parameters (λ name. refl)
parameters_agree p None (Named x) ty d e = no_parameter None (Named x) ty p.parameters (λ name. refl)
parameters_agree p None (First x) ty d e = no_parameter None (First x) ty p.parameters (λ name. refl)
parameters_agree p None (Last x) ty d e = no_parameter None (Last x) ty p.parameters (λ name. refl)
parameters_agree p None (Present x) ty d e = no_parameter None (Present x) ty p.parameters (λ name. refl)
parameters_agree p None (Parameter x) ty d e = one_type x ty p.parameters d e

-- ---- items of rows

-- the laws of values that this rests on
record ValueLaws : Type 0 where
  fitting : FittingIsHeld
  assigned : AssignedFits

abbrev AllInBounds : List HashVariable → Type 0
AllInBounds [] = Unit {0}
AllInBounds (x ∷ xs) = IsTrue (in_bounds x.ty) × AllInBounds xs

all_in_bounds : (globals : Global → Option Ty) (xs : List HashVariable) → AreHashVariables globals xs → AllInBounds xs
all_in_bounds globals [] h = tt
all_in_bounds globals (x ∷ xs) h = (h.1, all_in_bounds globals xs h.2)

under_is_held : (laws : ValueLaws) (name : List ℕ) (columns : Columns) (row : Row) → IsTrue (types_in_bounds columns) → IsTrue (row_fits row columns) → IsHeld (value_under name columns row)
under_is_held laws name [] row b f = tt
under_is_held laws name (c ∷ cs) [] b f = tt
under_is_held laws name (c ∷ cs) (v ∷ vs) b f =
    let bounds = both_true (in_bounds c.ty) (types_in_bounds cs) b in
    let fit = both_true (fits v c.ty) (row_fits vs cs) f in
    by (bytes_eq c.name name) (laws.fitting v c.ty bounds.0 fit.0) (under_is_held laws name cs vs bounds.1 fit.1)
  where
    by : (t : Bool) → IsHeld v → IsHeld (value_under name cs vs) → IsHeld (if t then v else value_under name cs vs)
    by true h k = h
    by false h k = k

assigned_or_null : (laws : ValueLaws) (v : Value) (ty : Ty) → IsHeld v → IsTrue (in_bounds ty) → IsTrue (fits (or_null_at_fault (assign_of v ty)) ty)
assigned_or_null laws v ty h b = by (assign_of v ty) refl
  where
    by : (r : Result Value Fault) → assign_of v ty ≡ r → IsTrue (fits (or_null_at_fault r) ty)
    by (Ok w) e = laws.assigned v w ty h b e
    by (Err fault) e = null_fits Null ty refl

row_fits_them : (laws : ValueLaws) (xs : List HashVariable) (columns : Columns) (row : Row) → IsTrue (types_in_bounds columns) → IsTrue (row_fits row columns) → AllInBounds xs
    → IsTrue (row_fits_variables (row_for_variables xs columns row) xs)
row_fits_them laws [] columns row b f i = refl
row_fits_them laws (x ∷ xs) columns row b f i =
    are_both (fits (or_null_at_fault (assign_of (value_under (global_name x.global) columns row) x.ty)) x.ty) (row_fits_variables (row_for_variables xs columns row) xs)
    (assigned_or_null laws (value_under (global_name x.global) columns row) x.ty (under_is_held laws (global_name x.global) columns row b f) i.0)
    (row_fits_them laws xs columns row b f i.1)

all_and_one : (test : HashItem → Bool) (items : HashItems) (item : HashItem) → IsTrue (list_all test items) → IsTrue (test item) → IsTrue (list_all test (items ++ item ∷ []))
all_and_one test [] item h k = are_both (test item) true k refl
all_and_one test (x ∷ items) item h k =
    let parts = both_true (test x) (list_all test items) h in
    are_both (test x) (list_all test (items ++ item ∷ [])) parts.0 (all_and_one test items item parts.1 k)

-- a key and data fit the variables of a hash object
abbrev item_fits : DeclaredHash → HashItem → Bool
item_fits hash item = row_fits_variables item.0 hash.key_variables && row_fits_variables item.1 hash.data_variables

added_fits : (hash : DeclaredHash) (present : Option Row) (key row : Row) (items : HashItems) → IsTrue (item_fits hash (key, row)) → IsTrue (items_fit_variables hash items)
    → IsTrue (items_fit_variables hash (added_item present key row items).items)
added_fits hash None key row items f h = all_and_one (item_fits hash) items (key, row) h f
added_fits hash (Some there) key row items f h = h

rows_fit_as_items : (laws : ValueLaws) (hash : DeclaredHash) (columns : Columns) (rows : List Row) (items : HashItems) → IsTrue (types_in_bounds columns)
    → IsTrue (rows_fit rows columns) → AllInBounds hash.key_variables → AllInBounds hash.data_variables → IsTrue (items_fit_variables hash items)
    → IsTrue (items_fit_variables hash (with_rows_as_items hash columns rows items))
rows_fit_as_items laws hash columns [] items b f k d h = h
rows_fit_as_items laws hash columns (row ∷ rows) items b f k d h =
    let parts = both_true (row_fits row columns) (rows_fit rows columns) f in
    let key = row_for_variables hash.key_variables columns row in
    let data_row = row_for_variables hash.data_variables columns row in
    rows_fit_as_items laws hash columns rows (hash_answer Add key data_row items).items b parts.1 k d
    (added_fits hash (item_data key items) key data_row items
    (are_both (row_fits_variables key hash.key_variables) (row_fits_variables data_row hash.data_variables)
    (row_fits_them laws hash.key_variables columns row b parts.0 k) (row_fits_them laws hash.data_variables columns row b parts.0 d)) h)

one_more_at_most : (present : Option Row) (key row : Row) (items : HashItems) → length (added_item present key row items).items ≤ length items + 1
one_more_at_most None key row items = omega (arith, length-append items ((key, row) ∷ []))
one_more_at_most (Some there) key row items = omega arith

-- at most one item a row
one_a_row : (hash : DeclaredHash) (columns : Columns) (rows : List Row) (items : HashItems) → length (with_rows_as_items hash columns rows items) ≤ length rows + length items
one_a_row hash columns [] items = omega arith
one_a_row hash columns (row ∷ rows) items =
    let key = row_for_variables hash.key_variables columns row in
    let data_row = row_for_variables hash.data_variables columns row in
    let more = one_a_row hash columns rows (hash_answer Add key data_row items).items in
    let one = one_more_at_most (item_data key items) key data_row items in
    omega (arith, more, one)

fewer_are_countable : (m n : ℕ) → m ≤ n → IsTrue (is_countable n) → IsTrue (is_countable m)
fewer_are_countable m n h k = let below = ltb-true n (2 ^ 63) k in lt-ltb m (2 ^ 63) (omega (arith, h, below))

first_items_fit : (laws : ValueLaws) (tables : TableRows) (hash : DeclaredHash) (loaded : Option LoadedTable) → IsTypedLoad hash loaded → LoadFits tables loaded
    → AllInBounds hash.key_variables → AllInBounds hash.data_variables → IsTrue (items_fit hash (first_items hash loaded tables))
first_items_fit laws tables hash None t f k d = refl
first_items_fit laws tables hash (Some loaded) t f k d =
    let bounds = both_true (distinct_names loaded.columns) (types_in_bounds loaded.columns) t.0 in
    let rows = tables loaded.table in
    let few : length (with_rows_as_items hash loaded.columns rows []) ≤ length rows = omega (arith, one_a_row hash loaded.columns rows []) in
    are_both (is_countable (length (with_rows_as_items hash loaded.columns rows []))) (items_fit_variables hash (with_rows_as_items hash loaded.columns rows []))
    (fewer_are_countable (length (with_rows_as_items hash loaded.columns rows [])) (length rows) few f.0)
    (rows_fit_as_items laws hash loaded.columns rows [] bounds.1 f.1 k d refl)

-- ---- where items are kept

hash_there : (laws : ValueLaws) (globals : Global → Option Ty) (tables : TableRows) (home : Home) (hashes : List DeclaredHash) (name : List ℕ) (hash : DeclaredHash) (before : Storage)
    → AreTypedHashes globals hashes → LoadsFit tables hashes → hash_named hashes name ≡ Some hash
    → IsTrue (items_fit hash (items_held (with_hashes_opened tables home hashes before (object_at home name))))
hash_there laws globals tables home [] name hash before t f e = cc
hash_there laws globals tables home (h ∷ hashes) name hash before t f e =
    by (λ k. hash_there laws globals tables home hashes name hash before t.1 f.1 k) (bytes_eq h.name name) refl e
  where
    is_here : Bool → Type 0
    is_here b = IsTrue (items_fit hash (items_held (if b then Items (first_items h h.loaded tables) else with_hashes_opened tables home hashes before (object_at home name))))

    here : IsTrue (items_fit h (first_items h h.loaded tables))
    here = first_items_fit laws tables h h.loaded t.0.3 f.0 (all_in_bounds globals h.key_variables t.0.0) (all_in_bounds globals h.data_variables t.0.1)

    by : (hash_named hashes name ≡ Some hash → IsTrue (items_fit hash (items_held (with_hashes_opened tables home hashes before (object_at home name)))))
        → (b : Bool) → bytes_eq h.name name ≡ b → (if b then Some h else hash_named hashes name) ≡ Some hash
        → IsTrue (items_fit hash (items_held (with_hashes_opened tables home (h ∷ hashes) before (object_at home name))))
    by again true same k =
        let found : h ≡ hash = ap (λ o. unwrap_or o h) k in
        let there : is_same_home home home && bytes_eq name h.name ≡ true = are_both (is_same_home home home) (bytes_eq name h.name) (same_home home) (other_way h.name name same) in
        subst is_here (sym there) (subst (λ x. IsTrue (items_fit x (first_items h h.loaded tables))) found here)
    by again false differs k =
        let elsewhere : is_same_home home home && bytes_eq name h.name ≡ false =
        ap (λ b. b && bytes_eq name h.name) (same_home home) ∙ other_way_false h.name name differs in
        subst is_here (sym elsewhere) (again k)

-- what another home keeps stays
past_hashes : (tables : TableRows) (home other : Home) (name : List ℕ) (hashes : List DeclaredHash) (before : Storage) → is_same_home other home ≡ false
    → with_hashes_opened tables home hashes before (object_at other name) ≡ before (object_at other name)
past_hashes tables home other name [] before e = refl
past_hashes tables home other name (h ∷ hashes) before e =
    ap (λ b. if b && bytes_eq name h.name then Items (first_items h h.loaded tables) else with_hashes_opened tables home hashes before (object_at other name)) e
    ∙ past_hashes tables home other name hashes before e

past_iterators : (home other : Home) (name : List ℕ) (iterators : List DeclaredIterator) (before : Storage) → is_same_home other home ≡ false
    → with_iterators_opened home iterators before (object_at other name) ≡ before (object_at other name)
past_iterators home other name [] before e = refl
past_iterators home other name (i ∷ iterators) before e =
    ap (λ b. if b && bytes_eq name i.name then Position None else with_iterators_opened home iterators before (object_at other name)) e
    ∙ past_iterators home other name iterators before e

past_objects : (tables : TableRows) (home other : Home) (name : List ℕ) (objects : DeclaredObjects) (before : Storage) → is_same_home other home ≡ false
    → with_objects_opened tables home objects before (object_at other name) ≡ before (object_at other name)
past_objects tables home other name objects before e =
    past_hashes tables home other name objects.hashes (with_iterators_opened home objects.iterators before) e ∙ past_iterators home other name objects.iterators before e

past_parameters : (home : Home) (name : List ℕ) (ps : List Variable) (vs : List Value) (before : Storage)
    → with_parameters ps vs before (object_at home name) ≡ before (object_at home name)
past_parameters home name [] vs before = refl
past_parameters home name (p ∷ ps) [] before = refl
past_parameters home name (p ∷ ps) (v ∷ vs) before =
    past_parameters home name ps vs (with_content (record { home = None; global = Parameter p.name }) (Holds v) before) ∙ of_home home
  where
    of_home : (h : Home) → with_content (record { home = None; global = Parameter p.name }) (Holds v) before (object_at h name) ≡ before (object_at h name)
    of_home None = refl
    of_home (Some i) = refl

instance_there : (laws : ValueLaws) (tables : TableRows) (instances : List InstanceTree) (i name : List ℕ) (hash : DeclaredHash) → AreTypedInstances instances
    → InstanceLoadsFit tables instances → hash_named (instance_objects instances i).hashes name ≡ Some hash
    → IsTrue (items_fit hash (items_held (with_instances_opened tables instances nothing_kept (object_at (Some i) name))))
instance_there laws tables [] i name hash t f e = cc
instance_there laws tables (j ∷ instances) i name hash t f e =
    by (λ k. instance_there laws tables instances i name hash t.4 f.1 k) (bytes_eq j.name i) refl e
  where
    rest : Storage
    rest = with_instances_opened tables instances nothing_kept

    by : (hash_named (instance_objects instances i).hashes name ≡ Some hash → IsTrue (items_fit hash (items_held (rest (object_at (Some i) name)))))
        → (b : Bool) → bytes_eq j.name i ≡ b → hash_named (if b then j.objects else instance_objects instances i).hashes name ≡ Some hash
        → IsTrue (items_fit hash (items_held (with_objects_opened tables (Some j.name) j.objects rest (object_at (Some i) name))))
    by again true same k =
        subst (λ x. IsTrue (items_fit hash (items_held (with_objects_opened tables (Some j.name) j.objects rest (object_at (Some x) name)))))
        ((bytes_eq-Decides j.name i).0 same)
        (hash_there laws (package_globals j.variables) tables (Some j.name) j.objects.hashes name hash (with_iterators_opened (Some j.name) j.objects.iterators rest) t.2.0 f.0 k)
    by again false differs k =
        subst (λ content. IsTrue (items_fit hash (items_held content)))
        (sym (past_objects tables (Some j.name) (Some i) name j.objects rest (other_way_false j.name i differs))) (again k)

items_there : (laws : ValueLaws) (p : UnitTree) (tables : TableRows) (typed : IsTypedUnit p) → LoadsFit tables p.objects.hashes → InstanceLoadsFit tables p.instances
    → (home : Home) (name : List ℕ) (hash : DeclaredHash) → hash_named (objects_of p home).hashes name ≡ Some hash
    → IsTrue (items_fit hash (items_held (with_objects_opened tables None p.objects (with_instances_opened tables p.instances nothing_kept) (object_at home name))))
items_there laws p tables typed f g None name hash e =
    hash_there laws (globals_of p) tables None p.objects.hashes name hash (with_iterators_opened None p.objects.iterators (with_instances_opened tables p.instances nothing_kept)) typed.objects.0 f e
items_there laws p tables typed f g (Some i) name hash e =
    subst (λ content. IsTrue (items_fit hash (items_held content)))
    (sym (past_objects tables None (Some i) name p.objects (with_instances_opened tables p.instances nothing_kept) refl))
    (instance_there laws tables p.instances i name hash typed.instances g e)

pub opening_fits : FittingIsHeld → AssignedFits → OpeningFits
opening_fits fitting assigned p tables values typed f g parameters =
    let laws : ValueLaws = record { fitting = fitting; assigned = assigned } in
    let base = with_objects_opened tables None p.objects (with_instances_opened tables p.instances nothing_kept) in
    let none = objects_none tables None p.objects (with_instances_opened tables p.instances nothing_kept) (instances_none tables p.instances nothing_kept (λ at. refl)) in
    record {
      values = λ at ty e.
          parameters_fit at ty p.parameters values base (parameters_agree p at.home at.global ty typed.parameters.1 e) parameters (null_fits (held (base at)) ty (none at));
      items = λ home name hash e.
          subst (λ content. IsTrue (items_fit hash (items_held content))) (sym (past_parameters home name p.parameters values base))
          (items_there laws p tables typed f g home name hash e);
    }

-- ---- values for a stage

-- each of these variables has its type under its name among all
abbrev HaveTheirTypes : List Variable → List Variable → Type 0
HaveTheirTypes all [] = Unit {0}
HaveTheirTypes all (q ∷ qs) = (type_in all q.name ≡ Some q.ty) × HaveTheirTypes all qs

behind_another : (p : Variable) (all qs : List Variable) → is_listed (variable_names qs) p.name ≡ false → HaveTheirTypes all qs → HaveTheirTypes (p ∷ all) qs
behind_another p all [] n h = tt
behind_another p all (q ∷ qs) n h =
    let parts = neither (bytes_eq q.name p.name) (is_listed (variable_names qs) p.name) n in
    (ap (λ b. if b then Some p.ty else type_in all q.name) (other_way_false q.name p.name parts.0) ∙ h.0, behind_another p all qs parts.1 h.1)

have_their_types : (ps : List Variable) → IsTrue (are_distinct (variable_names ps)) → HaveTheirTypes ps ps
have_their_types [] d = tt
have_their_types (p ∷ ps) d =
    let parts = both_true (not (is_listed (variable_names ps) p.name)) (are_distinct (variable_names ps)) d in (
      ap (λ b. if b then Some p.ty else type_in ps p.name) ((bytes_eq-Decides p.name p.name).1 refl),
      behind_another p ps ps (not_so (is_listed (variable_names ps) p.name) parts.0) (have_their_types ps parts.1),
    )

given_fit : (p : UnitTree) (instance : List ℕ) (all qs : List Variable) (kept : Storage) → thread_parameters p.threads instance ≡ Some all → HaveTheirTypes all qs
    → StorageFits p kept → ParametersFit qs (parameters_given instance qs kept)
given_fit p instance all [] kept e h f = tt
given_fit p instance all (q ∷ qs) kept e h f = (
  f.values (record { home = Some instance; global = Parameter q.name }) q.ty (ap (λ o. parameter_type o q.name) e ∙ h.0),
  given_fit p instance all qs kept e h.1 f,
)

pub given_parameters_fit : GivenParametersFit
given_parameters_fit p stage kept typed f =
    given_fit p (stage_instance p.reading) (reader_of stage).parameters (reader_of stage).parameters kept typed.1.3
    (have_their_types (reader_of stage).parameters (of_stage stage typed.2)) f
  where
    of_stage : (s : ProgramTree) → IsTypedProgram s → IsTrue (are_distinct (variable_names (reader_of s).parameters))
    of_stage (OverTables q) t = t.0.parameters.1
    of_stage (OverStage q inner) t = t.0.parameters.1
