-- What is misplaced in a unit, part by part.
use Rattle.std.proofs.Common.{◌≡◌, ◌+◌, Bool, true, false, not, ◌&&◌, ◌||◌, List, [], ◌∷◌, ◌++◌, bytes_eq, nat_le, nat_eq, nat_lt, length, Option, Some, None, refl, sym, ap, ◌∙◌}
use Rattle.std.specs.Prelude.{if◌then◌else◌, codes, map, filter, is_some}
use Rattle.std.specs.Option.{option_map, option_map_or}
use Rattle.ds2_base.specs.declared.place.Place.{Place}
use Rattle.ds2_token.specs.declared.token.Token.{Token}
use Rattle.ds2_tree.specs.Globals.{Method, GlobalItem, Declared, Listed, Defined}
use Rattle.ds2_tree.specs.declared.units.OutputTable as source_output
use Rattle.ds2_names.specs.NameRules.{from_each, place_unless, uses_in}
use Rattle.ds2_names.specs.SourceUnit.{spelled_name, is_system_name, is_package, is_thread, UnitKind, OfPackage, OfThread, OfData, InstanceOf, AnyPackage, HashObject, HashIterator, AnyThread, SourceInstance, KnownUnit, KnownThread, thread_of_instance, thread_named, SourceNames}
use Rattle.ds2_names.specs.UnitRules.{misplaced_null, misplaced_setting, misplaced_reading, misplaced_in_all, misplaced_in_method, misplaced_in_kind, longest_chain, makes_long_chain, instance_keywords, list_keywords}
use Rattle.ds2_scope.specs.Earliest.{earlier_of, earliest}
use Rattle.ds2_misplaced.specs.MisplacedParts.{allows, rule_on_outputs, is_system_in, may_read_in, misplaced_method_head, misplaced_body, misplaced_in_method_of, chain_or_one, keyword_where, list_keyword_in, null_place, repeated_options, misplaced_aside, misplaced_settings, MisplacedIsBoth}
use Rattle.ds2_scope.specs.UnitsKnown.{kept_thread}
use Rattle.ds2_scope.specs.declared.known.KnownThread as code_thread
use Rattle.ds2_scope.proofs.EarliestLemmas.{earlier_of_assoc, earliest_append, swap_last, interchange}

-- ---- methods

pub in_method_parts : (kind : UnitKind) (m : Method) → earliest (misplaced_in_method_of kind m)
    ≡ earlier_of (earliest (misplaced_method_head (is_system_in kind (spelled_name m.name)) m))
    (earlier_of (earliest (misplaced_reading (may_read_in kind (spelled_name m.name)) m.reading))
    (earliest (misplaced_body (rule_on_outputs kind (is_system_in kind (spelled_name m.name))) m)))
in_method_parts kind m =
    let head = misplaced_method_head (is_system_in kind (spelled_name m.name)) m in
    let reading = misplaced_reading (may_read_in kind (spelled_name m.name)) m.reading in
    let body = misplaced_body (rule_on_outputs kind (is_system_in kind (spelled_name m.name))) m in
    earliest_append (head ++ reading) body
    ∙ ap (λ x. earlier_of x (earliest body)) (earliest_append head reading)
    ∙ earlier_of_assoc (earliest head) (earliest reading) (earliest body)

-- the rule on `output` allows what may be written
writes : (kind : UnitKind) (s : Bool) (tables : List Token)
    → ((not (is_package kind) && s) && (not (is_thread kind) || nat_eq (length tables) 0)) ≡ allows (rule_on_outputs kind (not (is_package kind) && s)) tables
writes OfPackage s tables = refl
writes OfThread true tables = refl
writes OfThread false tables = refl
writes OfData true tables = refl
writes OfData false tables = refl

-- what is misplaced in a method is what its kind of unit tells, and its calls of `setparms`
method_is : (names : SourceNames) (m : Method) → misplaced_in_method names m ≡ misplaced_in_method_of names.unit.kind m ++ from_each (misplaced_setting names m) (uses_in names m)
method_is names m =
    let kind = names.unit.kind in
    let head = misplaced_method_head (is_system_in kind (spelled_name m.name)) m in
    let reading = misplaced_reading (may_read_in kind (spelled_name m.name)) m.reading in
    λ i. (head ++ reading ++ misplaced_in_all (λ tables. writes kind (is_system_name (spelled_name m.name)) tables i) (is_some m.returns) false m.body)
    ++ from_each (misplaced_setting names m) (uses_in names m)

methods_are : (names : SourceNames) (ms : List Method)
    → earliest (from_each (misplaced_in_method names) ms)
    ≡ earlier_of (earliest (from_each (misplaced_in_method_of names.unit.kind) ms)) (earliest (from_each (λ (m : Method). from_each (misplaced_setting names m) (uses_in names m)) ms))
methods_are names [] = refl
methods_are names (m ∷ ms) =
    let here = misplaced_in_method_of names.unit.kind m in
    let calls = from_each (misplaced_setting names m) (uses_in names m) in
    let others = from_each (misplaced_in_method_of names.unit.kind) ms in
    let further = from_each (λ (x : Method). from_each (misplaced_setting names x) (uses_in names x)) ms in
    earliest_append (misplaced_in_method names m) (from_each (misplaced_in_method names) ms)
    ∙ (λ i. earlier_of (earliest (method_is names m i)) (methods_are names ms i))
    ∙ ap (λ x. earlier_of x (earlier_of (earliest others) (earliest further))) (earliest_append here calls)
    ∙ interchange (earliest here) (earliest calls) (earliest others) (earliest further)
    ∙ sym (λ i. earlier_of (earliest_append here others i) (earliest_append calls further i))

-- ---- outputs

one_null : (o : source_output.OutputTable) (t : Bool) (rest : List source_output.OutputTable) (places : List Place) → map (λ (x : source_output.OutputTable). x.table.place) rest ≡ places
    → map (λ (x : source_output.OutputTable). x.table.place) (if t then o ∷ rest else rest) ≡ place_unless (not t) o.table.place ++ places
one_null o true rest places h = ap (λ ps. o.table.place ∷ ps) h
one_null o false rest places h = h

all_nulls : (outputs : List source_output.OutputTable)
    → map (λ (o : source_output.OutputTable). o.table.place) (filter (λ (o : source_output.OutputTable). bytes_eq (spelled_name o.table) (codes "_null_")) outputs) ≡ from_each null_place outputs
all_nulls [] = refl
all_nulls (o ∷ outputs) =
    one_null o (bytes_eq (spelled_name o.table) (codes "_null_")) (filter (λ (x : source_output.OutputTable). bytes_eq (spelled_name x.table) (codes "_null_")) outputs)
    (from_each null_place outputs) (all_nulls outputs)

-- `_null_` among several outputs
pub null_unless : (outputs : List source_output.OutputTable) → misplaced_null outputs ≡ (if nat_le (length outputs) 1 then [] else from_each null_place outputs)
null_unless outputs = by (nat_le (length outputs) 1)
  where
    by : (t : Bool) → (if t then [] else map (λ (o : source_output.OutputTable). o.table.place) (filter (λ (o : source_output.OutputTable). bytes_eq (spelled_name o.table) (codes "_null_")) outputs))
        ≡ (if t then [] else from_each null_place outputs)
    by true = refl
    by false = all_nulls outputs

-- ---- instances and lists

one_keyword : (i : SourceInstance) (t : Bool) (rest : List SourceInstance) (places : List Place) → map (λ (x : SourceInstance). x.keyword.place) rest ≡ places
    → map (λ (x : SourceInstance). x.keyword.place) (if t then i ∷ rest else rest) ≡ place_unless (not t) i.keyword.place ++ places
one_keyword i true rest places h = ap (λ ps. i.keyword.place ∷ ps) h
one_keyword i false rest places h = h

pub keywords_are : (test : InstanceOf → Bool) (is : List SourceInstance) → instance_keywords test is ≡ from_each (keyword_where test) is
keywords_are test [] = refl
keywords_are test (i ∷ is) = one_keyword i (test i.sort) (filter (λ (x : SourceInstance). test x.sort) is) (from_each (keyword_where test) is) (keywords_are test is)

pub list_item : (g : GlobalItem) (gs : List GlobalItem) → list_keywords (g ∷ gs) ≡ list_keyword_in g ++ list_keywords gs
list_item (Declared d) gs = refl
list_item (Listed keyword names end) gs = refl
list_item (Defined m) gs = refl

-- an instance of a thread program makes a long chain by what is kept of that
pub chain_is : (known : List KnownUnit) (i : SourceInstance) (t : Token) (thread : Option code_thread.KnownThread) → i.sort ≡ AnyThread t
    → thread ≡ option_map kept_thread (thread_of_instance known (Some i)) → nat_lt longest_chain (chain_or_one thread + 1) ≡ makes_long_chain known i.sort
chain_is known i t thread = by i.sort
  where
    kept_chain : (r : Option KnownThread) → chain_or_one (option_map kept_thread r) ≡ option_map_or (λ (k : KnownThread). k.chain) r 1
    kept_chain None = refl
    kept_chain (Some r) = refl

    by : (sort : InstanceOf) → sort ≡ AnyThread t → thread ≡ option_map kept_thread (thread_of_instance known (Some (record i { sort = sort })))
        → nat_lt longest_chain (chain_or_one thread + 1) ≡ makes_long_chain known sort
    by (AnyPackage package' arguments) h k = absurd (cc h)
    by (HashObject keys items table) h k = absurd (cc h)
    by (HashIterator hash) h k = absurd (cc h)
    by (AnyThread t') h k = ap (λ n. nat_lt longest_chain (n + 1)) (ap chain_or_one k ∙ kept_chain (thread_named known (spelled_name t')))

-- ---- a unit

pub aside_parts : (names : SourceNames)
    → earliest (misplaced_aside names)
    ≡ earlier_of (earlier_of (earliest (from_each (misplaced_in_method_of names.unit.kind) names.methods)) (earliest (misplaced_in_kind names.unit.kind names)))
    (earlier_of (earliest (misplaced_null names.outputs)) (earliest (from_each repeated_options names.outputs)))
aside_parts names =
    let methods = from_each (misplaced_in_method_of names.unit.kind) names.methods in
    let kind = misplaced_in_kind names.unit.kind names in
    let nulls = misplaced_null names.outputs in
    let options = from_each repeated_options names.outputs in
    earliest_append ((methods ++ kind) ++ nulls) options
    ∙ ap (λ x. earlier_of x (earliest options)) (earliest_append (methods ++ kind) nulls)
    ∙ earlier_of_assoc (earliest (methods ++ kind)) (earliest nulls) (earliest options)
    ∙ ap (λ x. earlier_of x (earlier_of (earliest nulls) (earliest options))) (earliest_append methods kind)

pub is_both : MisplacedIsBoth
is_both names =
    let all = from_each (misplaced_in_method names) names.methods in
    let methods = from_each (misplaced_in_method_of names.unit.kind) names.methods in
    let calls = misplaced_settings names in
    let kind = misplaced_in_kind names.unit.kind names in
    let nulls = misplaced_null names.outputs in
    let options = from_each repeated_options names.outputs in
    earliest_append ((all ++ kind) ++ nulls) options
    ∙ ap (λ x. earlier_of x (earliest options)) (earliest_append (all ++ kind) nulls ∙ ap (λ x. earlier_of x (earliest nulls)) (earliest_append all kind))
    ∙ ap (λ x. earlier_of (earlier_of (earlier_of x (earliest kind)) (earliest nulls)) (earliest options)) (methods_are names names.methods)
    ∙ ap (λ x. earlier_of (earlier_of x (earliest nulls)) (earliest options)) (swap_last (earliest methods) (earliest calls) (earliest kind))
    ∙ ap (λ x. earlier_of x (earliest options)) (swap_last (earlier_of (earliest methods) (earliest kind)) (earliest calls) (earliest nulls))
    ∙ swap_last (earlier_of (earlier_of (earliest methods) (earliest kind)) (earliest nulls)) (earliest calls) (earliest options)
    ∙ ap (λ x. earlier_of x (earliest calls))
    (ap (λ x. earlier_of x (earliest options)) (ap (λ x. earlier_of x (earliest nulls)) (sym (earliest_append methods kind)) ∙ sym (earliest_append (methods ++ kind) nulls))
    ∙ sym (earliest_append ((methods ++ kind) ++ nulls) options))
