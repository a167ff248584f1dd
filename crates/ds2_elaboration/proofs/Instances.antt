-- The tokens that give names in a unit, and that its variables and instances have distinct names.
use Rattle.std.proofs.Common.{◌≡◌, ◌⊎◌, inl, inr, ℕ, bytes_eq, codes, Bool, true, false, not, List, [], ◌∷◌, ◌++◌, map, filter, if◌then◌else◌, Option, Some, None, refl, sym, ap, ◌∙◌, subst}
use Rattle.std.specs.List.{AllByRecursion}
use Rattle.std.proofs.lemmas.Bool.{or_from}
use Rattle.ds2_base.specs.declared.place.Place.{Place}
use Rattle.ds2_token.specs.declared.token.Token.{Token}
use Rattle.ds2_tree.specs.Globals.{Method, GlobalItem, Declared, Listed, Defined, constants_spelling, bracketed_spelling, hash_size_spelling, global_spelling}
use Rattle.ds2_tree.specs.Lists.{if_any}
use Rattle.ds2_tree.specs.Marks.{open_mark, close_mark, comma_mark, semicolon_mark}
use Rattle.ds2_tree.specs.Readings.{reading_spelling}
use Rattle.ds2_tree.specs.declared.globals.Declaration.TheVariants as declaration
use Rattle.ds2_tree.specs.declared.globals.VariableDeclaration.{VariableDeclaration}
use Rattle.ds2_tree.specs.declared.readings.Input as source_input
use Rattle.ds2_tree.specs.declared.readings.Reading as source_reading
use Rattle.ds2_tree.specs.declared.readings.Reading.TheVariants as read_as
use Rattle.ds2_value.specs.Row.{Columns}
use Rattle.ds2_meaning.specs.IsTyped.{are_distinct}
use Rattle.ds2_meaning.specs.ProgramTree.{is_listed}
use Rattle.ds2_names.specs.NameRules.{from_each, later_places}
use Rattle.ds2_names.specs.SourceUnit.{TableColumns, spelled_name, PlacedName, placed_name, names_alone, variable_declarations, source_methods, UnitKind, OfPackage, OfThread, OfData, reads_thread, reading_by_kind, UnitSource, SourceInstance, source_instances, KnownThread, KnownUnit, reading_of_run, tables_of_reading, new_columns_of, new_columns, stage_token, stage_columns_at, stage_read, columns_of_stage, SourceNames, names_of_unit, vector_names, plain_globals, instance_names, all_globals}
use Rattle.ds2_elaboration.specs.ElaborationLaws.{StandsAmong}
use Rattle.ds2_elaboration.proofs.Distinct.{NoneListed, distinct_append}
use Rattle.ds2_elaboration.proofs.Limits.{tables_within}
use Rattle.ds2_elaboration.proofs.Locals.{declaration_within, declared_as_tokens, parameters_as_tokens, reading_within}
use Rattle.ds2_elaboration.proofs.Lookups.{of_among, among_append, among_first, among_second, all_append}
use Rattle.ds2_elaboration.proofs.Orders.{Within, none_within, passed, kept, order_within, parts_within, AreApart, within_among, kinds_apart, not_given_before, among_not_before, differ, distinct_tokens}
use Rattle.ds2_elaboration.proofs.Units.{parameter_tokens, StandsAsUnit}

-- ---- the tokens that a part of a unit gives to variables, to instances and to its reading statement

abbrev pub variable_tokens : GlobalItem → List Token
variable_tokens (Declared (declaration.Variables v)) = v.names
variable_tokens _ = []

abbrev pub instance_tokens : GlobalItem → List Token
instance_tokens (Declared (declaration.Instance keyword package_keyword package' name arguments end)) = name ∷ []
instance_tokens (Declared (declaration.Hash keyword package_keyword hash_keyword name opening keys comma items size closing end)) = name ∷ []
instance_tokens (Declared (declaration.Hiter keyword package_keyword hiter_keyword name opening hash closing end)) = name ∷ []
instance_tokens (Declared (declaration.Thread keyword thread_keyword thread name end)) = name ∷ []
instance_tokens _ = []

abbrev pub reading_tokens : GlobalItem → List Token
reading_tokens (Defined m) = if_any reading_spelling m.reading
reading_tokens _ = []

variables_as_tokens : (globals : List GlobalItem) → from_each (λ (v : VariableDeclaration). v.names) (variable_declarations globals) ≡ from_each variable_tokens globals
variables_as_tokens [] = refl
variables_as_tokens (Declared (declaration.Variables v) ∷ globals) = ap (λ ts. v.names ++ ts) (variables_as_tokens globals)
variables_as_tokens (Declared (declaration.Instance keyword package_keyword package' name arguments end) ∷ globals) = variables_as_tokens globals
variables_as_tokens (Declared (declaration.Hash keyword package_keyword hash_keyword name opening keys comma items size closing end) ∷ globals) = variables_as_tokens globals
variables_as_tokens (Declared (declaration.Hiter keyword package_keyword hiter_keyword name opening hash closing end) ∷ globals) = variables_as_tokens globals
variables_as_tokens (Declared (declaration.Thread keyword thread_keyword thread name end) ∷ globals) = variables_as_tokens globals
variables_as_tokens (Listed keyword names end ∷ globals) = variables_as_tokens globals
variables_as_tokens (Defined m ∷ globals) = variables_as_tokens globals

-- the names of the instances of a unit
abbrev pub instances_placed : List SourceInstance → List PlacedName
instances_placed instances = map (λ (i : SourceInstance). placed_name i.name) instances

instances_as_tokens : (globals : List GlobalItem) → instances_placed (source_instances globals) ≡ map placed_name (from_each instance_tokens globals)
instances_as_tokens [] = refl
instances_as_tokens (Declared (declaration.Variables v) ∷ globals) = instances_as_tokens globals
instances_as_tokens (Declared (declaration.Instance keyword package_keyword package' name arguments end) ∷ globals) = ap (λ ns. placed_name name ∷ ns) (instances_as_tokens globals)
instances_as_tokens (Declared (declaration.Hash keyword package_keyword hash_keyword name opening keys comma items size closing end) ∷ globals) =
    ap (λ ns. placed_name name ∷ ns) (instances_as_tokens globals)
instances_as_tokens (Declared (declaration.Hiter keyword package_keyword hiter_keyword name opening hash closing end) ∷ globals) =
    ap (λ ns. placed_name name ∷ ns) (instances_as_tokens globals)
instances_as_tokens (Declared (declaration.Thread keyword thread_keyword thread name end) ∷ globals) = ap (λ ns. placed_name name ∷ ns) (instances_as_tokens globals)
instances_as_tokens (Listed keyword names end ∷ globals) = instances_as_tokens globals
instances_as_tokens (Defined m ∷ globals) = instances_as_tokens globals

readings_as_tokens : (globals : List GlobalItem) → from_each (λ (m : Method). if_any reading_spelling m.reading) (source_methods globals) ≡ from_each reading_tokens globals
readings_as_tokens [] = refl
readings_as_tokens (Declared d ∷ globals) = readings_as_tokens globals
readings_as_tokens (Listed keyword names end ∷ globals) = readings_as_tokens globals
readings_as_tokens (Defined m ∷ globals) = ap (λ ts. if_any reading_spelling m.reading ++ ts) (readings_as_tokens globals)

-- ---- where they stand

variables_within : (g : GlobalItem) → Within (variable_tokens g) (global_spelling g)
variables_within (Declared (declaration.Variables v)) = declaration_within v
variables_within (Declared (declaration.Instance keyword package_keyword package' name arguments end)) =
    none_within (global_spelling (Declared (declaration.Instance keyword package_keyword package' name arguments end)))
variables_within (Declared (declaration.Hash keyword package_keyword hash_keyword name opening keys comma items size closing end)) =
    none_within (global_spelling (Declared (declaration.Hash keyword package_keyword hash_keyword name opening keys comma items size closing end)))
variables_within (Declared (declaration.Hiter keyword package_keyword hiter_keyword name opening hash closing end)) =
    none_within (global_spelling (Declared (declaration.Hiter keyword package_keyword hiter_keyword name opening hash closing end)))
variables_within (Declared (declaration.Thread keyword thread_keyword thread name end)) =
    none_within (global_spelling (Declared (declaration.Thread keyword thread_keyword thread name end)))
variables_within (Listed keyword names end) = none_within (global_spelling (Listed keyword names end))
variables_within (Defined m) = none_within (global_spelling (Defined m))

-- a name behind three tokens
named_fourth : (a b c name : Token) (rest : List Token) → Within (name ∷ []) (a ∷ (b ∷ (c ∷ (name ∷ rest))))
named_fourth a b c name rest = passed a (passed b (passed c (kept name (none_within rest))))

instances_within : (g : GlobalItem) → Within (instance_tokens g) (global_spelling g)
instances_within (Declared (declaration.Variables v)) = none_within (global_spelling (Declared (declaration.Variables v)))
instances_within (Declared (declaration.Instance keyword package_keyword package' name arguments end)) =
    named_fourth keyword package_keyword package' name (if_any constants_spelling arguments ++ (semicolon_mark end ∷ []))
instances_within (Declared (declaration.Hash keyword package_keyword hash_keyword name opening keys comma items size closing end)) =
    named_fourth keyword package_keyword hash_keyword name
    (open_mark opening ∷ (bracketed_spelling keys ++ (comma_mark comma ∷ (bracketed_spelling items ++ (if_any hash_size_spelling size ++ (close_mark closing ∷ (semicolon_mark end ∷ [])))))))
instances_within (Declared (declaration.Hiter keyword package_keyword hiter_keyword name opening hash closing end)) =
    named_fourth keyword package_keyword hiter_keyword name (open_mark opening ∷ (hash ∷ (close_mark closing ∷ (semicolon_mark end ∷ []))))
instances_within (Declared (declaration.Thread keyword thread_keyword thread name end)) = named_fourth keyword thread_keyword thread name (semicolon_mark end ∷ [])
instances_within (Listed keyword names end) = none_within (global_spelling (Listed keyword names end))
instances_within (Defined m) = none_within (global_spelling (Defined m))

readings_within : (g : GlobalItem) → Within (reading_tokens g) (global_spelling g)
readings_within (Declared d) = none_within (global_spelling (Declared d))
readings_within (Listed keyword names end) = none_within (global_spelling (Listed keyword names end))
readings_within (Defined m) = reading_within m

-- no part gives names to variables and to instances
one_kind : (g : GlobalItem) → (variable_tokens g ≡ []) ⊎ (instance_tokens g ≡ [])
one_kind (Declared (declaration.Variables v)) = inr refl
one_kind (Declared (declaration.Instance keyword package_keyword package' name arguments end)) = inl refl
one_kind (Declared (declaration.Hash keyword package_keyword hash_keyword name opening keys comma items size closing end)) = inl refl
one_kind (Declared (declaration.Hiter keyword package_keyword hiter_keyword name opening hash closing end)) = inl refl
one_kind (Declared (declaration.Thread keyword thread_keyword thread name end)) = inl refl
one_kind (Listed keyword names end) = inl refl
one_kind (Defined m) = inl refl

reads_or_names : (g : GlobalItem) → (reading_tokens g ≡ []) ⊎ (instance_tokens g ≡ [])
reads_or_names (Declared d) = inl refl
reads_or_names (Listed keyword names end) = inl refl
reads_or_names (Defined m) = inr refl

-- ---- where columns stand

-- a name stands at the place of one of these tokens
abbrev StandsAt : List Token → PlacedName → Type 0
StandsAt tokens n = (t : Token) × (StandsAmong tokens t × (n.place ≡ t.place))

at_if : (tokens : List Token) (b : Bool) (n : PlacedName) (others rest : List PlacedName) → StandsAt tokens n → AllByRecursion (StandsAt tokens) others
    → AllByRecursion (StandsAt tokens) rest → AllByRecursion (StandsAt tokens) (if b then others else n ∷ rest)
at_if tokens true n others rest s f g = f
at_if tokens false n others rest s f g = (s, g)

columns_at : (tokens : List Token) (t : Token) → StandsAmong tokens t → (known : List (List ℕ)) (columns : Columns)
    → AllByRecursion (StandsAt tokens) (new_columns_of known t.place columns)
columns_at tokens t m known [] = tt
columns_at tokens t m known (c ∷ columns) =
    at_if tokens (is_listed known c.name) (record { name = c.name; place = t.place }) (new_columns_of known t.place columns) (new_columns_of (c.name ∷ known) t.place columns)
    ((t, (m, refl))) (columns_at tokens t m known columns) (columns_at tokens t m (c.name ∷ known) columns)

tables_at : (tokens : List Token) (tables : TableColumns) (known : List (List ℕ)) (inputs : List source_input.Input)
    → ((t : Token) → StandsAmong (map (λ (i : source_input.Input). i.table) inputs) t → StandsAmong tokens t)
    → AllByRecursion (StandsAt tokens) (new_columns tables known inputs)
tables_at tokens tables known [] f = tt
tables_at tokens tables known (i ∷ inputs) f =
    let own = new_columns_of known i.table.place (tables (spelled_name i.table)) in
    all_append (StandsAt tokens) own (new_columns tables (names_alone own ++ known) inputs) (columns_at tokens i.table (f i.table (inl refl)) known (tables (spelled_name i.table)))
    (tables_at tokens tables (names_alone own ++ known) inputs (λ t k. f t (inr k)))

stage_names_at : (tokens : List Token) (t : Token) → StandsAmong tokens t → (names : List (List ℕ))
    → AllByRecursion (StandsAt tokens) (map (λ name. record { name = name; place = t.place }) names)
stage_names_at tokens t m [] = tt
stage_names_at tokens t m (name ∷ names) = ((t, (m, refl)), stage_names_at tokens t m names)

stage_found_at : (tokens : List Token) (t : Token) → StandsAmong tokens t → (names : List (List ℕ)) (found : Option KnownThread)
    → AllByRecursion (StandsAt tokens) (stage_columns_at names t.place found)
stage_found_at tokens t m names None = tt
stage_found_at tokens t m names (Some thread) = stage_names_at tokens t m (filter (λ name. not (is_listed names name)) thread.columns)

stage_at : (tokens : List Token) (known : List KnownUnit) (instances : List SourceInstance) (names : List (List ℕ)) (token : Option Token)
    → ((t : Token) → token ≡ Some t → StandsAmong tokens t) → AllByRecursion (StandsAt tokens) (columns_of_stage known instances names token)
stage_at tokens known instances names None f = tt
stage_at tokens known instances names (Some t) f = stage_found_at tokens t (f t refl) names (stage_read known instances (Some t))

same_token : (a b : Token) → Some a ≡ Some b → b ≡ a
same_token a b h = cc

stage_token_among : (reading : Option source_reading.Reading) (t : Token) → stage_token reading ≡ Some t → StandsAmong (if_any reading_spelling reading) t
stage_token_among None t h = cc
stage_token_among (Some (read_as.Set keyword inputs end by)) t h = cc
stage_token_among (Some (read_as.SetFrom keyword from instance threads end)) t h = inr (inr (inl (same_token instance t h)))
stage_token_among (Some (read_as.Merge keyword inputs retain end by)) t h = cc

run_if : (b : Bool) (own rest : Option source_reading.Reading) (others : List Token) (t : Token)
    → (StandsAmong (if_any reading_spelling rest) t → StandsAmong others t) → StandsAmong (if_any reading_spelling (if b then own else rest)) t
    → StandsAmong (if_any reading_spelling own ++ others) t
run_if true own rest others t f m = among_first (if_any reading_spelling own) others t m
run_if false own rest others t f m = among_second (if_any reading_spelling own) others t (f m)

run_among : (methods : List Method) (t : Token) → StandsAmong (if_any reading_spelling (reading_of_run methods)) t
    → StandsAmong (from_each (λ (m : Method). if_any reading_spelling m.reading) methods) t
run_among [] t m = absurd m
run_among (x ∷ methods) t m =
    run_if (bytes_eq (spelled_name x.name) (codes "run")) x.reading (reading_of_run methods) (from_each (λ (y : Method). if_any reading_spelling y.reading) methods) t (run_among methods t) m

tables_if : (b : Bool) (reading : source_reading.Reading) (t : Token) → StandsAmong (if_any reading_spelling (if b then None else Some reading)) t
    → StandsAmong (if_any reading_spelling (Some reading)) t
tables_if true reading t m = absurd m
tables_if false reading t m = m

kind_among : (kind : UnitKind) (reading : Option source_reading.Reading) (t : Token) → StandsAmong (if_any reading_spelling (reading_by_kind kind reading)) t
    → StandsAmong (if_any reading_spelling reading) t
kind_among OfPackage reading t m = absurd m
kind_among OfThread None t m = absurd m
kind_among OfThread (Some reading) t m = tables_if (reads_thread reading) reading t m
kind_among OfData reading t m = m

-- ---- names that stand apart

all_unlisted : (xs : List PlacedName) (o : PlacedName) → ((n : PlacedName) → StandsAmong xs n → bytes_eq n.name o.name ≡ false) → is_listed (names_alone xs) o.name ≡ false
all_unlisted [] o f = refl
all_unlisted (n ∷ xs) o f = or_from (bytes_eq n.name o.name) (is_listed (names_alone xs) o.name) (f n (inl refl)) (all_unlisted xs o (λ m k. f m (inr k)))

none_of : (xs ys : List PlacedName) → ((n o : PlacedName) → StandsAmong xs n → StandsAmong ys o → bytes_eq n.name o.name ≡ false) → NoneListed (names_alone xs) (names_alone ys)
none_of xs [] f = tt
none_of xs (o ∷ ys) f = (all_unlisted xs o (λ n m. f n o m (inl refl)), none_of xs ys (λ n p m k. f n p m (inr k)))

placed_from : (tokens : List Token) (n : PlacedName) → StandsAmong (map placed_name tokens) n → (t : Token) × (StandsAmong tokens t × (n ≡ placed_name t))
placed_from [] n m = absurd m
placed_from (t ∷ tokens) n m = elim m [
  | inl e ↦ (t, (inl refl, e))
  | inr k ↦ let r = placed_from tokens n k in (r.0, (inr r.1.0, r.1.1))
]

module _ (tables : TableColumns) (known : List KnownUnit) (u : UnitSource) (source : StandsAsUnit u) (once : later_places (all_globals (names_of_unit tables known u)) ≡ []) where
  abbrev names_here : SourceNames
  names_here = names_of_unit tables known u

  abbrev all_here : List PlacedName
  all_here = all_globals names_here

  -- the tokens of the reading statement of the unit
  read_here : (t : Token) → StandsAmong (if_any reading_spelling names_here.reading) t → StandsAmong (from_each reading_tokens u.globals) t
  read_here t m = subst (λ (ts : List Token). StandsAmong ts t) (readings_as_tokens u.globals) (run_among (source_methods u.globals) t (kind_among u.kind (reading_of_run (source_methods u.globals)) t m))

  columns_stand : AllByRecursion (StandsAt (from_each reading_tokens u.globals)) names_here.columns
  columns_stand =
      let declared = names_alone names_here.declared in
      let tokens = from_each reading_tokens u.globals in
      all_append (StandsAt tokens) (new_columns tables declared (tables_of_reading names_here.reading)) (columns_of_stage known names_here.instances declared (stage_token names_here.reading))
      (tables_at tokens tables declared (tables_of_reading names_here.reading) (λ t m. read_here t (within_among (tables_within names_here.reading) t m)))
      (stage_at tokens known names_here.instances declared (stage_token names_here.reading) (λ t e. read_here t (stage_token_among names_here.reading t e)))

  instance_among : (n : PlacedName) → StandsAmong (instance_names names_here) n → (t : Token) × (StandsAmong (from_each instance_tokens u.globals) t × (n ≡ placed_name t))
  instance_among n m = placed_from (from_each instance_tokens u.globals) n (subst (λ (ns : List PlacedName). StandsAmong ns n) (instances_as_tokens u.globals) m)

  declared_among : (n : PlacedName) → StandsAmong names_here.declared n → (t : Token) × (StandsAmong (from_each variable_tokens u.globals) t × (n ≡ placed_name t))
  declared_among n m =
      placed_from (from_each variable_tokens u.globals) n
      (subst (λ (ns : List PlacedName). StandsAmong ns n) (declared_as_tokens (variable_declarations u.globals) ∙ ap (λ ts. map placed_name ts) (variables_as_tokens u.globals)) m)

  -- a declared variable, and a column, stand apart from each instance
  declared_apart : (n o : PlacedName) → StandsAmong names_here.declared n → StandsAmong (instance_names names_here) o → AreApart n.place o.place
  declared_apart n o m k =
      let a = declared_among n m in
      let b = instance_among o k in
      let apart = kinds_apart variable_tokens instance_tokens global_spelling variables_within instances_within one_kind u.globals source.order a.0 b.0 a.1.0 b.1.0 in
      subst (λ (x : PlacedName). AreApart x.place o.place) (sym a.1.1) (subst (λ (y : PlacedName). AreApart a.0.place y.place) (sym b.1.1) apart)

  column_apart : (n o : PlacedName) → StandsAmong names_here.columns n → StandsAmong (instance_names names_here) o → AreApart n.place o.place
  column_apart n o m k =
      let a = of_among (StandsAt (from_each reading_tokens u.globals)) names_here.columns n columns_stand m in
      let b = instance_among o k in
      let apart = kinds_apart reading_tokens instance_tokens global_spelling readings_within instances_within reads_or_names u.globals source.order a.0 b.0 a.1.0 b.1.0 in
      subst (λ (place : Place). AreApart place o.place) (sym a.1.1) (subst (λ (y : PlacedName). AreApart a.0.place y.place) (sym b.1.1) apart)

  vector_apart : (n o : PlacedName) → StandsAmong (vector_names names_here) n → StandsAmong (instance_names names_here) o → AreApart n.place o.place
  vector_apart n o m k = elim (among_append names_here.declared names_here.columns n m) [
    | inl p ↦ declared_apart n o p k
    | inr q ↦ column_apart n o q k
  ]

  vector_inside : (n : PlacedName) → StandsAmong (vector_names names_here) n → StandsAmong all_here n
  vector_inside n m =
      among_first (plain_globals names_here) (instance_names names_here) n
      (among_first (vector_names names_here ++ names_here.parameters) names_here.flags n (among_first (vector_names names_here) names_here.parameters n m))

  -- the instances have names that no variable has
  pub none_of_vector : NoneListed (names_alone (vector_names names_here)) (names_alone (instance_names names_here))
  none_of_vector =
      none_of (vector_names names_here) (instance_names names_here) (λ n o m k.
      differ all_here (not_given_before all_here once) n o (vector_inside n m) (among_second (plain_globals names_here) (instance_names names_here) o k) (vector_apart n o m k))

  pub instances_distinct : are_distinct (names_alone (instance_names names_here)) ≡ true
  instances_distinct =
      let tokens = from_each instance_tokens u.globals in
      let e = instances_as_tokens u.globals in
      let own = among_not_before all_here (instance_names names_here) (λ n m. among_second (plain_globals names_here) (instance_names names_here) n m) (not_given_before all_here once) in
      ap (λ ns. are_distinct (names_alone ns)) e
      ∙ distinct_tokens tokens (order_within (parts_within instance_tokens global_spelling instances_within u.globals) source.order)
      (among_not_before (instance_names names_here) (map placed_name tokens) (λ n m. subst (λ (ns : List PlacedName). StandsAmong ns n) (sym e) m) own)

  -- variables and instances together
  pub all_distinct : are_distinct (names_alone (vector_names names_here)) ≡ true
      → are_distinct (names_alone (vector_names names_here) ++ names_alone (instance_names names_here)) ≡ true
  all_distinct h =
      distinct_append (names_alone (vector_names names_here)) (names_alone (instance_names names_here)) h instances_distinct none_of_vector

  -- declared variables
  pub declared_distinct : are_distinct (names_alone names_here.declared) ≡ true
  declared_distinct =
      let tokens = from_each variable_tokens u.globals in
      let e = declared_as_tokens (variable_declarations u.globals) ∙ ap (λ ts. map placed_name ts) (variables_as_tokens u.globals) in
      let own = among_not_before all_here names_here.declared (λ n m. vector_inside n (among_first names_here.declared names_here.columns n m)) (not_given_before all_here once) in
      ap (λ ns. are_distinct (names_alone ns)) e
      ∙ distinct_tokens tokens (order_within (parts_within variable_tokens global_spelling variables_within u.globals) source.order)
      (among_not_before names_here.declared (map placed_name tokens) (λ n m. subst (λ (ns : List PlacedName). StandsAmong ns n) (sym e) m) own)

  -- parameters of a thread program
  pub parameters_distinct : are_distinct (names_alone names_here.parameters) ≡ true
  parameters_distinct =
      let tokens = parameter_tokens u.parameters in
      let e = parameters_as_tokens u.parameters in
      let own = among_not_before all_here names_here.parameters (λ n m.
      among_first (plain_globals names_here) (instance_names names_here) n
      (among_first (vector_names names_here ++ names_here.parameters) names_here.flags n (among_second (vector_names names_here) names_here.parameters n m)))
      (not_given_before all_here once) in
      ap (λ ns. are_distinct (names_alone ns)) e
      ∙ distinct_tokens tokens source.parameters
      (among_not_before names_here.parameters (map placed_name tokens) (λ n m. subst (λ (ns : List PlacedName). StandsAmong ns n) (sym e) m) own)
