-- The reading statement of a program that breaks no rule is typed.
use Rattle.std.proofs.Common.{◌≡◌, inl, inr, ℕ, ◌≤◌, nat_le, length, bytes_eq, codes, cond, Bool, true, false, not, ◌||◌, List, [], ◌∷◌, ◌++◌, map, filter, if◌then◌else◌, Option, Some, None, refl, sym, ap, ◌∙◌, subst, true≢false, arith}
use Rattle.std.specs.List.{AllByRecursion}
use Rattle.std.specs.Prelude.{is_some}
use Rattle.std.proofs.lemmas.Bool.{and_parts, or_parts, or_from, or_left, or_right, not_from_false, leb-true}
use Rattle.std.proofs.lemmas.List.{length-map}
use Rattle.std.proofs.lemmas.List.Folds.{list_any-append}
use Rattle.ds2_base.specs.declared.place.Place.{Place}
use Rattle.ds2_token.specs.declared.token.Token.{Token}
use Rattle.ds2_tree.specs.Globals.{Method}
use Rattle.ds2_tree.specs.Lists.{if_any, IfAny, SomeOf}
use Rattle.ds2_tree.specs.Readings.{reading_spelling, IsByVariable, IsBy, IsReading}
use Rattle.ds2_tree.specs.declared.readings.ByVariable as source_by
use Rattle.ds2_tree.specs.declared.readings.Input as source_input
use Rattle.ds2_tree.specs.declared.readings.Reading as source_reading
use Rattle.ds2_tree.specs.declared.readings.Reading.TheVariants as read_as
use Rattle.ds2_tree.specs.declared.readings.Threads.{Threads}
use Rattle.ds2_tree.specs.declared.units.OutputTable as source_output
use Rattle.ds2_value.specs.Row.{Columns}
use Rattle.ds2_value.specs.Schema.{has_column, distinct_names, types_in_bounds, is_schema}
use Rattle.ds2_value.specs.Types.{takes}
use Rattle.ds2_value.specs.declared.schema.Column.{Column}
use Rattle.ds2_value.specs.declared.ty.Ty.{Ty}
use Rattle.ds2_meaning.specs.declared.globals.Variable as typed
use Rattle.ds2_meaning.specs.declared.readings.Input as typed_input
use Rattle.ds2_meaning.specs.declared.readings.MentionedTable.{MentionedTable}
use Rattle.ds2_meaning.specs.declared.readings.Reading.TheVariants.{Merge}
use Rattle.ds2_meaning.specs.IsTyped.{type_in, variable_names, AreVariables, AreByColumns, AreTypedInputs, MergesBy, IsTypedReading}
use Rattle.ds2_meaning.specs.ProgramTree.{is_listed}
use Rattle.ds2_names.specs.NameRules.{from_each, place_unless, spelled_number, is_in_all_tables, real_outputs}
use Rattle.ds2_names.specs.SourceUnit.{TableColumns, UnitSource, spelled_name, PlacedName, placed_name, names_alone, variable_declarations, source_methods, local_names, is_package, SourceInstance, reading_of_run, tables_of_reading, bys_of_reading, new_columns_of, new_columns, stage_token, columns_of_stage, SourceNames, instance_names, all_globals}
use Rattle.ds2_names.specs.UnitRules.{beyond, places_of, too_many_variables, is_between, bad_threads, bad_reading_number}
use Rattle.ds2_names.specs.Uses.{method_named}
use Rattle.ds2_elaboration.specs.ElaborationLaws.{StandsAmong}
use Rattle.ds2_elaboration.specs.ProgramTypes.{read_input, read_by, asked_workers, read_statement, reading_of_method, program_reading}
use Rattle.ds2_elaboration.specs.SourceTypes.{type_of_column, ColumnTyping, Absent, with_table, clashing_table, joined_type, program_variables, unit_names, program_inputs, unit_stage, stage_typing, column_typing, clash_at_stage, clashing_at, column_variables, vector_variables}
use Rattle.ds2_elaboration.specs.TypedPrograms.{StandInOrder}
use Rattle.ds2_elaboration.specs.UnitsBefore.{UnitsBefore, typed_stage, typed_stage_columns}
use Rattle.ds2_elaboration.proofs.Accepted.{each_empty, bounded_in}
use Rattle.ds2_elaboration.proofs.Distinct.{not_true, names_append, among_listed}
use Rattle.ds2_elaboration.proofs.Facts.{JoinLaws, UnitHolds, held, reading_numbers, declared_variable_bounds, unclashed_tables, known_bys, column_rules, reading_is}
use Rattle.ds2_elaboration.proofs.Joins.{TakesType, DeclaredTakes, IsUnclashed, unclashed_step, IsBoundedDeclared, stage_step, type_onward, fits_all, declared_takes, joined_takes}
use Rattle.ds2_elaboration.proofs.Limits.{few_tables, few_bys}
use Rattle.ds2_elaboration.proofs.Locals.{declared_variable_names}
use Rattle.ds2_elaboration.proofs.Lookups.{of_among, for_each, mapped_among}
use Rattle.ds2_elaboration.proofs.Methods.{readings_of_grammar, methods_in_order, run_in_order}
use Rattle.ds2_elaboration.proofs.Orders.{same_bytes, bytes_are, turned_bytes}
use Rattle.ds2_elaboration.proofs.Outcome.{both_empty, unplaced}
use Rattle.ds2_elaboration.proofs.Stages.{stage_schema, stage_types, stage_names}
use Rattle.ds2_elaboration.proofs.Vectors.{reading_if_any, reading_found}

-- ---- names and types

type_first_if : (b : Bool) (own : Ty) (rest others : Option Ty) (ty : Ty) → (rest ≡ Some ty → others ≡ Some ty) → (if b then Some own else rest) ≡ Some ty
    → (if b then Some own else others) ≡ Some ty
type_first_if true own rest others ty f h = h
type_first_if false own rest others ty f h = f h

type_in_first : (xs ys : List typed.Variable) (name : List ℕ) (ty : Ty) → type_in xs name ≡ Some ty → type_in (xs ++ ys) name ≡ Some ty
type_in_first [] ys name ty h = cc
type_in_first (x ∷ xs) ys name ty h =
    type_first_if (bytes_eq x.name name) x.ty (type_in xs name) (type_in (xs ++ ys) name) ty (type_in_first xs ys name ty) h

none_if : (b : Bool) (own : Ty) (rest : Option Ty) → (if b then Some own else rest) ≡ None → (b ≡ false) × (rest ≡ None)
none_if true own rest h = cc
none_if false own rest h = (refl, h)

type_in_second : (xs ys : List typed.Variable) (name : List ℕ) → type_in xs name ≡ None → type_in (xs ++ ys) name ≡ type_in ys name
type_in_second [] ys name h = refl
type_in_second (x ∷ xs) ys name h =
    let p = none_if (bytes_eq x.name name) x.ty (type_in xs name) h in
    ap (λ b. if b then Some x.ty else type_in (xs ++ ys) name) p.0 ∙ type_in_second xs ys name p.1

pub untyped_unlisted : (xs : List typed.Variable) (name : List ℕ) → type_in xs name ≡ None → is_listed (variable_names xs) name ≡ false
untyped_unlisted [] name h = refl
untyped_unlisted (x ∷ xs) name h =
    let p = none_if (bytes_eq x.name name) x.ty (type_in xs name) h in
    or_from (bytes_eq x.name name) (is_listed (variable_names xs) name) p.0 (untyped_unlisted xs name p.1)

column_type_if : (b : Bool) (f : List ℕ → Ty) (own name : List ℕ) (rest : Option Ty) (listed : Bool) → bytes_eq own name ≡ b → (b || listed) ≡ true
    → (listed ≡ true → rest ≡ Some (f name)) → (if b then Some (f own) else rest) ≡ Some (f name)
column_type_if true f own name rest listed e h g = ap (λ n. Some (f n)) (same_bytes own name e)
column_type_if false f own name rest listed e h g = g h

column_type_in : (f : List ℕ → Ty) (names : List PlacedName) (name : List ℕ) → is_listed (names_alone names) name ≡ true
    → type_in (map (λ (n : PlacedName). record { name = n.name; ty = f n.name }) names) name ≡ Some (f name)
column_type_in f [] name h = cc
column_type_in f (n ∷ names) name h =
    column_type_if (bytes_eq n.name name) f n.name name (type_in (map (λ (m : PlacedName). record { name = m.name; ty = f m.name }) names) name) (is_listed (names_alone names) name)
    refl h (column_type_in f names name)

-- ---- the rule of a name

declared_rule_if : (clash : List ℕ → List Place) (b : Bool) (own name : List ℕ) (ty d : Ty) (rest : Option Ty) → bytes_eq own name ≡ b → clash own ≡ []
    → (rest ≡ Some d → clash name ≡ []) → (if b then Some ty else rest) ≡ Some d → clash name ≡ []
declared_rule_if clash true own name ty d rest e c f h = subst (λ n. clash n ≡ []) (same_bytes own name e) c
declared_rule_if clash false own name ty d rest e c f h = f h

declared_rule : (clash : List ℕ → List Place) (xs : List typed.Variable) (name : List ℕ) (d : Ty) → AllByRecursion (λ (v : typed.Variable). clash v.name ≡ []) xs
    → type_in xs name ≡ Some d → clash name ≡ []
declared_rule clash [] name d f h = cc
declared_rule clash (x ∷ xs) name d f h =
    declared_rule_if clash (bytes_eq x.name name) x.name name x.ty d (type_in xs name) refl f.0 (declared_rule clash xs name d f.1) h

column_rule_if : (clash : List ℕ → List Place) (b listed : Bool) (own name : List ℕ) → bytes_eq own name ≡ b → clash own ≡ [] → (listed ≡ true → clash name ≡ [])
    → (b || listed) ≡ true → clash name ≡ []
column_rule_if clash true listed own name e c f h = subst (λ n. clash n ≡ []) (same_bytes own name e) c
column_rule_if clash false listed own name e c f h = f h

column_rule : (clash : List ℕ → List Place) (names : List PlacedName) (name : List ℕ) → AllByRecursion (λ (n : PlacedName). clash n.name ≡ []) names
    → is_listed (names_alone names) name ≡ true → clash name ≡ []
column_rule clash [] name f h = cc
column_rule clash (n ∷ names) name f h =
    column_rule_if clash (bytes_eq n.name name) (is_listed (names_alone names) name) n.name name refl f.0 (column_rule clash names name f.1) h

-- ---- each column of a table is a name of the program

turned_or : (a b c : Bool) → ((a || b) || c) ≡ true → (b || (a || c)) ≡ true
turned_or true true c h = refl
turned_or true false c h = refl
turned_or false true c h = refl
turned_or false false c h = h

or_further : (a b c : Bool) → (a || b) ≡ true → (a || (b || c)) ≡ true
or_further true b c h = refl
or_further false true c h = refl
or_further false false c h = cc

-- a name is known, or new
abbrev IsKnownOrNew : List (List ℕ) → List PlacedName → List ℕ → Type 0
IsKnownOrNew known new name = (is_listed known name || is_listed (names_alone new) name) ≡ true

first_if : (b : Bool) (known : List (List ℕ)) (name : List ℕ) (place : Place) (others rest : List PlacedName) → is_listed known name ≡ b
    → IsKnownOrNew known (if b then others else record { name = name; place = place } ∷ rest) name
first_if true known name place others rest e = or_left (is_listed known name) (is_listed (names_alone others) name) e
first_if false known name place others rest e =
    or_right (is_listed known name) (bytes_eq name name || is_listed (names_alone rest) name)
    (or_left (bytes_eq name name) (is_listed (names_alone rest) name) (bytes_are name name refl))

further_if : (b : Bool) (known : List (List ℕ)) (own name : List ℕ) (place : Place) (others rest : List PlacedName) → IsKnownOrNew known others name
    → IsKnownOrNew (own ∷ known) rest name → IsKnownOrNew known (if b then others else record { name = own; place = place } ∷ rest) name
further_if true known own name place others rest f g = f
further_if false known own name place others rest f g = turned_or (bytes_eq own name) (is_listed known name) (is_listed (names_alone rest) name) g

column_listed : (known : List (List ℕ)) (place : Place) (columns : Columns) (c : Column) → StandsAmong columns c → IsKnownOrNew known (new_columns_of known place columns) c.name
column_listed known place [] c m = absurd m
column_listed known place (d ∷ columns) c m = elim m [
  | inl e ↦ subst (λ (x : Column). IsKnownOrNew known (new_columns_of known place (d ∷ columns)) x.name) (sym e)
      (first_if (is_listed known d.name) known d.name place (new_columns_of known place columns) (new_columns_of (d.name ∷ known) place columns) refl)
  | inr k ↦ further_if (is_listed known d.name) known d.name c.name place (new_columns_of known place columns) (new_columns_of (d.name ∷ known) place columns)
      (column_listed known place columns c k) (column_listed (d.name ∷ known) place columns c k)
]

listed_or : (xs ys : List (List ℕ)) (name : List ℕ) → is_listed (xs ++ ys) name ≡ (is_listed xs name || is_listed ys name)
listed_or xs ys name = list_any-append (λ other. bytes_eq other name) xs ys

either_listed : (known : List (List ℕ)) (own rest : List PlacedName) (name : List ℕ)
    → (is_listed known name || (is_listed (names_alone own) name || is_listed (names_alone rest) name)) ≡ true → IsKnownOrNew known (own ++ rest) name
either_listed known own rest name h =
    ap (λ ns. is_listed known name || is_listed ns name) (names_append own rest)
    ∙ (ap (λ b. is_listed known name || b) (listed_or (names_alone own) (names_alone rest) name) ∙ h)

all_listed : (tables : TableColumns) (known : List (List ℕ)) (inputs : List source_input.Input) (i : source_input.Input) → StandsAmong inputs i → (c : Column)
    → StandsAmong (tables (spelled_name i.table)) c → IsKnownOrNew known (new_columns tables known inputs) c.name
all_listed tables known [] i m c k = absurd m
all_listed tables known (j ∷ inputs) i m c k =
    let own = new_columns_of known j.table.place (tables (spelled_name j.table)) in
    let rest = new_columns tables (names_alone own ++ known) inputs in
    either_listed known own rest c.name (elim m [
      | inl e ↦ or_further (is_listed known c.name) (is_listed (names_alone own) c.name) (is_listed (names_alone rest) c.name)
          (column_listed known j.table.place (tables (spelled_name j.table)) c (subst (λ (x : source_input.Input). StandsAmong (tables (spelled_name x.table)) c) e k))
      | inr n ↦ turned_or (is_listed (names_alone own) c.name) (is_listed known c.name) (is_listed (names_alone rest) c.name)
          (sym (ap (λ b. b || is_listed (names_alone rest) c.name) (listed_or (names_alone own) known c.name))
          ∙ all_listed tables (names_alone own ++ known) inputs i n c k)
    ])

-- a name that is listed and passes a test is kept
kept_if : (test : List ℕ → Bool) (name : List ℕ) → test name ≡ true → (t b listed : Bool) (n : List ℕ) (rest : List (List ℕ)) → bytes_eq n name ≡ b → test n ≡ t
    → (listed ≡ true → is_listed rest name ≡ true) → (b || listed) ≡ true → is_listed (cond t (n ∷ rest) rest) name ≡ true
kept_if test name k true true listed n rest e g f h = ap (λ x. x || is_listed rest name) e
kept_if test name k true false listed n rest e g f h = or_right (bytes_eq n name) (is_listed rest name) (f h)
kept_if test name k false true listed n rest e g f h = absurd (true≢false (sym k ∙ (ap test (sym (same_bytes n name e)) ∙ g)))
kept_if test name k false false listed n rest e g f h = f h

kept_listed : (test : List ℕ → Bool) (name : List ℕ) → test name ≡ true → (names : List (List ℕ)) → is_listed names name ≡ true → is_listed (filter test names) name ≡ true
kept_listed test name k [] h = cc
kept_listed test name k (n ∷ names) h =
    kept_if test name k (test n) (bytes_eq n name) (is_listed names name) n (filter test names) refl refl (kept_listed test name k names) h

-- ---- columns with their own types

own_type_if : (b : Bool) (own ty : Ty) (rest : Option Ty) → b ≡ false → rest ≡ Some ty → (if b then Some own else rest) ≡ Some ty
own_type_if true own ty rest e h = cc
own_type_if false own ty rest e h = h

unlisted_column : (own : List ℕ) (columns : Columns) (c : Column) → has_column own columns ≡ false → StandsAmong columns c → bytes_eq own c.name ≡ false
unlisted_column own [] c h m = absurd m
unlisted_column own (d ∷ columns) c h m =
    let p = or_parts (bytes_eq d.name own) (has_column own columns) h in elim m [
      | inl e ↦ subst (λ (x : Column). bytes_eq own x.name ≡ false) (sym e) (turned_bytes d.name own p.0)
      | inr k ↦ unlisted_column own columns c p.1 k
    ]

own_type : (columns : Columns) → distinct_names columns ≡ true → (c : Column) → StandsAmong columns c → type_of_column c.name columns ≡ Some c.ty
own_type [] f c m = absurd m
own_type (d ∷ columns) f c m =
    let p = and_parts (not (has_column d.name columns)) (distinct_names columns) f in elim m [
      | inl e ↦ subst (λ (x : Column). type_of_column x.name (d ∷ columns) ≡ Some x.ty) (sym e)
          (ap (λ b. if b then Some d.ty else type_of_column d.name columns) (bytes_are d.name d.name refl))
      | inr k ↦ own_type_if (bytes_eq d.name c.name) d.ty c.ty (type_of_column c.name columns) (unlisted_column d.name columns c (not_true (has_column d.name columns) p.0) k)
          (own_type columns p.1 c k)
    ]

are_variables : (variables : List typed.Variable) (columns : Columns)
    → AllByRecursion (λ (c : Column). (ty : Ty) × (type_in variables c.name ≡ Some ty) × (takes ty c.ty ≡ true)) columns → AreVariables variables columns
are_variables variables [] f = tt
are_variables variables (c ∷ columns) f = (f.0, are_variables variables columns f.1)

-- ---- the places of tables and BY variables

input_places : (inputs : List source_input.Input)
    → map (λ (i : source_input.Input). i.table.place) inputs ≡ map (λ (t : Token). t.place) (map (λ (i : source_input.Input). i.table) inputs)
input_places [] = refl
input_places (i ∷ inputs) = ap (λ places. i.table.place ∷ places) (input_places inputs)

by_places : (bys : List source_by.ByVariable)
    → places_of (map (λ (b : source_by.ByVariable). placed_name b.name) bys) ≡ map (λ (t : Token). t.place) (map (λ (b : source_by.ByVariable). b.name) bys)
by_places [] = refl
by_places (b ∷ bys) = ap (λ places. b.name.place ∷ places) (by_places bys)

-- ---- BY variables

by_columns : (tables : TableColumns) (i : source_input.Input) (inputs : List source_input.Input) (bys : List source_by.ByVariable)
    → AllByRecursion (λ (b : source_by.ByVariable). is_in_all_tables tables (i ∷ inputs) (spelled_name b.name) ≡ true) bys
    → AreByColumns (map read_by bys) (tables (spelled_name i.table))
    × AllByRecursion (λ (b : source_by.ByVariable). is_in_all_tables tables inputs (spelled_name b.name) ≡ true) bys
by_columns tables i inputs [] f = (tt, tt)
by_columns tables i inputs (b ∷ bys) f =
    let p = and_parts (has_column (spelled_name b.name) (tables (spelled_name i.table))) (is_in_all_tables tables inputs (spelled_name b.name)) f.0 in
    let q = by_columns tables i inputs bys f.1 in
    ((p.0, q.0), (p.1, q.1))

module _ (tables : TableColumns) (schemas : (table : List ℕ) → is_schema (tables table) ≡ true) (made : List MentionedTable) (columns : Columns) (variables : List typed.Variable) where
  typed_inputs : (bys : List source_by.ByVariable) (inputs : List source_input.Input)
      → AllByRecursion (λ (i : source_input.Input). AreVariables variables (tables (spelled_name i.table))) inputs
      → AllByRecursion (λ (b : source_by.ByVariable). is_in_all_tables tables inputs (spelled_name b.name) ≡ true) bys
      → AreTypedInputs variables (map read_by bys) (map (read_input tables made) inputs)
  typed_inputs bys [] f g = tt
  typed_inputs bys (i ∷ inputs) f g =
      let p = by_columns tables i inputs bys g in (schemas (spelled_name i.table), f.0, p.0, typed_inputs bys inputs f.1 p.1)

  -- so many tables and BY variables
  few_of : (bys : List source_by.ByVariable) (inputs : List source_input.Input) → length inputs ≤ 16 → length bys ≤ 16
      → (length (map (read_input tables made) inputs) ≤ 16) × (length (map read_by bys) ≤ 16)
  few_of bys inputs f g =
      (subst (λ n. n ≤ 16) (sym (length-map inputs (read_input tables made))) f, subst (λ n. n ≤ 16) (sym (length-map bys read_by)) g)

  -- one worker, or as many as are asked for
  workers_asked : (threads : Option Threads) → bad_threads threads ≡ [] → (1 ≤ asked_workers threads) × (asked_workers threads ≤ 64)
  workers_asked None h = (omega arith, omega arith)
  workers_asked (Some threads) h =
      let n = spelled_number threads.number in
      let p = and_parts (nat_le 1 n) (nat_le n 64) (unplaced (is_between 1 64 n) threads.number.place h) in
      (leb-true 1 n p.0, leb-true n 64 p.1)

  -- what a reading statement needs
  pub record ReadingHolds (reading : Option source_reading.Reading) : Type 0 where
    pub tables_few : length (tables_of_reading reading) ≤ 16
    pub bys_few : length (bys_of_reading reading) ≤ 16
    pub inputs : AllByRecursion (λ (i : source_input.Input). AreVariables variables (tables (spelled_name i.table))) (tables_of_reading reading)
    pub bys : AllByRecursion (λ (b : source_by.ByVariable). is_in_all_tables tables (tables_of_reading reading) (spelled_name b.name) ≡ true) (bys_of_reading reading)
    pub numbers : bad_reading_number reading ≡ []
    pub stage : AreVariables variables columns
    pub grammar : IfAny IsReading reading

  -- the BY variables of a `merge` of the grammar
  merges_by : (inputs : List typed_input.Input) (bys : List source_by.ByVariable) (retains : Bool) → SomeOf IsByVariable bys → MergesBy (Merge inputs (map read_by bys) retains)
  merges_by inputs [] retains some = absurd some
  merges_by inputs (b ∷ bys) retains some = tt

  typed_reading : (reading : Option source_reading.Reading) → ReadingHolds reading → IsTypedReading variables (read_statement tables made columns reading)
  typed_reading None h = (h.tables_few, h.bys_few, tt, tt)
  typed_reading (Some (read_as.Set keyword inputs end by)) h =
      let bys = bys_of_reading (Some (read_as.Set keyword inputs end by)) in
      let p = few_of bys inputs h.tables_few h.bys_few in (p.0, p.1, typed_inputs bys inputs h.inputs h.bys, tt)
  typed_reading (Some (read_as.SetFrom keyword from instance threads end)) h =
      let p = workers_asked threads h.numbers in (p.0, p.1, h.stage)
  typed_reading (Some (read_as.Merge keyword inputs retain end by)) h =
      let p = few_of by.variables inputs h.tables_few h.bys_few in
      let some : IsBy by = h.grammar.3 in
      (p.0, p.1, typed_inputs by.variables inputs h.inputs h.bys, merges_by (map (read_input tables made) inputs) by.variables (is_some retain) some.1)

  pub typed_reading_of : (found : Option Method) → ReadingHolds (reading_if_any found) → IsTypedReading variables (reading_of_method tables made columns found)
  typed_reading_of None h = (h.tables_few, h.bys_few, tt, tt)
  typed_reading_of (Some m) h = typed_reading m.reading h

grammar_if : (b : Bool) (own rest : Option source_reading.Reading) → IfAny IsReading own → IfAny IsReading rest → IfAny IsReading (if b then own else rest)
grammar_if true own rest f g = f
grammar_if false own rest f g = g

run_of_grammar : (methods : List Method) → AllByRecursion (λ (m : Method). IfAny IsReading m.reading) methods → IfAny IsReading (reading_of_run methods)
run_of_grammar [] f = tt
run_of_grammar (m ∷ methods) f = grammar_if (bytes_eq (spelled_name m.name) (codes "run")) m.reading (reading_of_run methods) f.0 (run_of_grammar methods f.1)

number_if : (b : Bool) (own rest : Option source_reading.Reading) → bad_reading_number own ≡ [] → bad_reading_number rest ≡ [] → bad_reading_number (if b then own else rest) ≡ []
number_if true own rest f g = f
number_if false own rest f g = g

run_number : (methods : List Method) → from_each (λ (m : Method). bad_reading_number m.reading) methods ≡ [] → bad_reading_number (reading_of_run methods) ≡ []
run_number [] h = refl
run_number (m ∷ methods) h =
    let p = both_empty (bad_reading_number m.reading) (from_each (λ (x : Method). bad_reading_number x.reading) methods) h in
    number_if (bytes_eq (spelled_name m.name) (codes "run")) m.reading (reading_of_run methods) p.0 (run_number methods p.1)

-- ---- the reading statement

module _ (laws : JoinLaws) (tables : TableColumns) (before : UnitsBefore) (u : UnitSource) (given : UnitHolds tables before u) where
  abbrev names_here : SourceNames
  names_here = unit_names tables before u

  abbrev inputs_here : List source_input.Input
  inputs_here = program_inputs tables before u

  abbrev columns_here : List PlacedName
  columns_here = names_here.columns

  abbrev stage_here : Columns
  stage_here = typed_stage_columns (unit_stage tables before u)

  abbrev vector_here : List typed.Variable
  vector_here = vector_variables tables before u

  -- what is known of a column up to all tables
  abbrev final_of : Option Ty → List ℕ → ColumnTyping
  final_of declared name = column_typing tables before u declared name

  -- the places at which a name does not join
  abbrev clash_of : List ℕ → List Place
  clash_of name = clashing_at tables before u (type_in (program_variables u) name) name

  declared_rules : AllByRecursion (λ (v : typed.Variable). clash_of v.name ≡ []) (program_variables u)
  declared_rules =
      each_empty (λ (v : typed.Variable). clash_of v.name) (program_variables u)
      (both_empty (from_each (λ (v : typed.Variable). clash_of v.name) (program_variables u)) (from_each (λ (n : PlacedName). clash_of n.name) columns_here)
      (unclashed_tables laws tables before u given)).0

  -- no rule is broken by the thread program that is read from
  unclashed_stage : (declared : Option Ty) (name : List ℕ) (token : Option Token) → stage_token names_here.reading ≡ token
      → clash_at_stage tables before u declared name token ≡ [] → IsUnclashed (stage_typing tables before u declared name)
  unclashed_stage declared name None e h =
      subst (λ (t : Option Token). IsUnclashed (with_table declared Absent (type_of_column name (typed_stage_columns (typed_stage before.threads names_here.instances t))))) (sym e) tt
  unclashed_stage declared name (Some t) e h = unclashed_step t.place Absent (stage_typing tables before u declared name) tt h

  -- what is known of a name takes each column of it, and the declared variable takes what is known
  record FitsName (declared : Option Ty) (name : List ℕ) : Type 0 where
    taken : DeclaredTakes declared (final_of declared name)
    inputs : AllByRecursion (λ (i : source_input.Input). (ty : Ty) → type_of_column name (tables (spelled_name i.table)) ≡ Some ty → TakesType (final_of declared name) ty) inputs_here
    stage : (ty : Ty) → type_of_column name stage_here ≡ Some ty → TakesType (final_of declared name) ty

  fits_name : (declared : Option Ty) → IsBoundedDeclared declared → (name : List ℕ) → clashing_at tables before u declared name ≡ [] → FitsName declared name
  fits_name declared d name rule =
      let first = stage_typing tables before u declared name in
      let p = both_empty (clash_at_stage tables before u declared name (stage_token names_here.reading)) (clashing_table tables declared name first inputs_here) rule in
      let k = unclashed_stage declared name (stage_token names_here.reading) refl p.0 in
      let s = stage_step laws.join laws.itself laws.onward declared d name stage_here (stage_types tables before u given.stand) k in
      let r = fits_all laws.join laws.itself laws.onward tables given.schemas declared d name first inputs_here s.bounds k s.taken p.1 in
      record {
        taken = r.1;
        inputs = r.2;
        stage = λ ty e. type_onward laws.join laws.itself laws.onward ty first (final_of declared name) (s.own ty e) r.0;
      }

  -- a variable of the vector takes the values of a column
  abbrev IsTaken : List ℕ → Ty → Type 0
  IsTaken name own = (ty : Ty) × (type_in vector_here name ≡ Some ty) × (takes ty own ≡ true)

  taken_by_name : (name : List ℕ) (own : Ty) (found : Option Ty) → type_in (program_variables u) name ≡ found
      → ((declared : Option Ty) → FitsName declared name → TakesType (final_of declared name) own)
      → (found ≡ None → is_listed (names_alone columns_here) name ≡ true) → IsTaken name own
  taken_by_name name own (Some d) e f g =
      let rule = subst (λ o. clashing_at tables before u o name ≡ []) e (declared_rule clash_of (program_variables u) name d declared_rules e) in
      let fits = fits_name (Some d) (bounded_in (program_variables u) (declared_variable_bounds laws tables before u given) name d e) name rule in (
        d,
        type_in_first (program_variables u) (column_variables tables before u) name d e,
        declared_takes laws.join laws.itself laws.onward d own (final_of (Some d) name) fits.taken (f (Some d) fits),
      )
  taken_by_name name own None e f g =
      let listed = g refl in
      let rule = subst (λ o. clashing_at tables before u o name ≡ []) e (column_rule clash_of columns_here name (column_rules laws tables before u given) listed) in
      let fits = fits_name None tt name rule in (
        joined_type (final_of None name),
        type_in_second (program_variables u) (column_variables tables before u) name e ∙ column_type_in (λ n. joined_type (final_of None n)) columns_here name listed,
        joined_takes own (final_of None name) (f None fits),
      )

  abbrev declared_here : List (List ℕ)
  declared_here = names_alone names_here.declared

  undeclared : (name : List ℕ) → type_in (program_variables u) name ≡ None → is_listed declared_here name ≡ false
  undeclared name e =
      sym (ap (λ ns. is_listed ns name) (declared_variable_names (variable_declarations u.globals))) ∙ untyped_unlisted (program_variables u) name e

  -- the columns that tables add, and those that a thread program adds
  abbrev from_tables : List PlacedName
  from_tables = new_columns tables declared_here inputs_here

  abbrev from_stage : List PlacedName
  from_stage = columns_of_stage before.names.known names_here.instances declared_here (stage_token names_here.reading)

  both_listed : (name : List ℕ) → (is_listed (names_alone from_tables) name || is_listed (names_alone from_stage) name) ≡ true → is_listed (names_alone columns_here) name ≡ true
  both_listed name h =
      ap (λ ns. is_listed ns name) (names_append from_tables from_stage) ∙ (listed_or (names_alone from_tables) (names_alone from_stage) name ∙ h)

  table_listed : (i : source_input.Input) → StandsAmong inputs_here i → (c : Column) → StandsAmong (tables (spelled_name i.table)) c → type_in (program_variables u) c.name ≡ None
      → is_listed (names_alone columns_here) c.name ≡ true
  table_listed i m c k e =
      let new = all_listed tables declared_here inputs_here i m c k in
      both_listed c.name (or_left (is_listed (names_alone from_tables) c.name) (is_listed (names_alone from_stage) c.name)
      (sym (ap (λ b. b || is_listed (names_alone from_tables) c.name) (undeclared c.name e)) ∙ new))

  stage_listed : (c : Column) → StandsAmong stage_here c → type_in (program_variables u) c.name ≡ None → is_listed (names_alone columns_here) c.name ≡ true
  stage_listed c k e =
      let test = λ (name : List ℕ). not (is_listed declared_here name) in
      let names = map (λ (x : Column). x.name) stage_here in
      let there = among_listed names c.name (mapped_among (λ (x : Column). x.name) stage_here c k) in
      let kept = kept_listed test c.name (not_from_false (is_listed declared_here c.name) (undeclared c.name e)) names there in
      both_listed c.name (or_right (is_listed (names_alone from_tables) c.name) (is_listed (names_alone from_stage) c.name)
      (ap (λ ns. is_listed ns c.name) (stage_names tables before u given.stand declared_here names_here.instances (stage_token names_here.reading)) ∙ kept))

  -- a column of a table is taken by its variable
  table_taken : (i : source_input.Input) → StandsAmong inputs_here i → (c : Column) → StandsAmong (tables (spelled_name i.table)) c → IsTaken c.name c.ty
  table_taken i m c k =
      let columns = tables (spelled_name i.table) in
      let t = own_type columns (and_parts (distinct_names columns) (types_in_bounds columns) (given.schemas (spelled_name i.table))).0 c k in
      taken_by_name c.name c.ty (type_in (program_variables u) c.name) refl
      (λ declared fits.
      of_among (λ (x : source_input.Input). (ty : Ty) → type_of_column c.name (tables (spelled_name x.table)) ≡ Some ty → TakesType (final_of declared c.name) ty)
      inputs_here i fits.inputs m c.ty t)
      (table_listed i m c k)

  stage_taken : (c : Column) → StandsAmong stage_here c → IsTaken c.name c.ty
  stage_taken c k =
      let t = own_type stage_here (and_parts (distinct_names stage_here) (types_in_bounds stage_here) (stage_schema tables before u given.stand)).0 c k in
      taken_by_name c.name c.ty (type_in (program_variables u) c.name) refl (λ declared fits. fits.stage c.ty t) (stage_listed c k)

  inputs_typed : AllByRecursion (λ (i : source_input.Input). AreVariables vector_here (tables (spelled_name i.table))) inputs_here
  inputs_typed =
      for_each (λ (i : source_input.Input). AreVariables vector_here (tables (spelled_name i.table))) inputs_here
      (λ i m. are_variables vector_here (tables (spelled_name i.table))
      (for_each (λ (c : Column). IsTaken c.name c.ty) (tables (spelled_name i.table)) (λ c k. table_taken i m c k)))

  pub stage_typed : AreVariables vector_here stage_here
  stage_typed = are_variables vector_here stage_here (for_each (λ (c : Column). IsTaken c.name c.ty) stage_here stage_taken)

  -- ---- so many tables and BY variables

  -- at most 16 tables and 16 BY variables
  limits : (beyond 16 (map (λ (i : source_input.Input). i.table.place) inputs_here) ≡ []) × (beyond 16 (places_of names_here.bys) ≡ [])
  limits =
      let globals = beyond 1000 (places_of (all_globals names_here) ++ places_of names_here.bys ++ places_of names_here.bys) in
      let locals = from_each (λ (m : Method). beyond 1000 (places_of (local_names m))) names_here.methods in
      let outputs = beyond 16 (map (λ (o : source_output.OutputTable). o.table.place) (real_outputs names_here)) in
      let inputs = beyond 16 (map (λ (i : source_input.Input). i.table.place) inputs_here) in
      let bys = beyond 16 (places_of names_here.bys) in
      let instances = beyond 64 (places_of (instance_names names_here)) in
      let variables = from_each (λ (i : SourceInstance). too_many_variables i.sort) names_here.instances in
      let p = both_empty (globals ++ locals ++ outputs ++ inputs ++ bys ++ instances) variables (held laws tables before u given).too_many in
      let q = both_empty (globals ++ locals ++ outputs ++ inputs ++ bys) instances p.0 in
      let r = both_empty (globals ++ locals ++ outputs ++ inputs) bys q.0 in
      ((both_empty (globals ++ locals ++ outputs) inputs r.0).1, r.1)

  bys_in_tables : (bys : List source_by.ByVariable)
      → from_each (λ (b : PlacedName). place_unless (is_in_all_tables tables inputs_here b.name) b.place) (map (λ (b : source_by.ByVariable). placed_name b.name) bys) ≡ []
      → AllByRecursion (λ (b : source_by.ByVariable). is_in_all_tables tables inputs_here (spelled_name b.name) ≡ true) bys
  bys_in_tables [] h = tt
  bys_in_tables (b ∷ bys) h =
      let rule = λ (n : PlacedName). place_unless (is_in_all_tables tables inputs_here n.name) n.place in
      let p = both_empty (rule (placed_name b.name)) (from_each rule (map (λ (x : source_by.ByVariable). placed_name x.name) bys)) h in
      (unplaced (is_in_all_tables tables inputs_here (spelled_name b.name)) b.name.place p.0, bys_in_tables bys p.1)

  reading_order : is_package u.kind ≡ false → StandInOrder (if_any reading_spelling names_here.reading)
  reading_order runs =
      subst (λ (r : Option source_reading.Reading). StandInOrder (if_any reading_spelling r)) (sym (reading_is laws tables before u given runs))
      (run_in_order (source_methods u.globals) (methods_in_order u.globals given.source.order))

  -- the reading statement of a program is typed
  pub reading_typed : is_package u.kind ≡ false → IsTypedReading vector_here (program_reading tables before u)
  reading_typed runs =
      let order = reading_order runs in
      let reading = names_here.reading in
      let e = reading_is laws tables before u given runs in
      let holds : ReadingHolds tables given.schemas before.names.made stage_here vector_here reading = record {
        tables_few = few_tables reading order (subst (λ places. beyond 16 places ≡ []) (input_places (tables_of_reading reading)) limits.0);
        bys_few = few_bys reading order (subst (λ places. beyond 16 places ≡ []) (by_places (bys_of_reading reading)) limits.1);
        inputs = inputs_typed;
        bys = bys_in_tables (bys_of_reading reading) (known_bys laws tables before u given);
        numbers = ap bad_reading_number e ∙ run_number (source_methods u.globals) (reading_numbers laws tables before u given);
        stage = stage_typed;
        grammar = subst (λ (r : Option source_reading.Reading). IfAny IsReading r) (sym e) (run_of_grammar (source_methods u.globals) (readings_of_grammar u.globals given.source.grammar));
      } in
      typed_reading_of tables given.schemas before.names.made stage_here vector_here (method_named (source_methods u.globals) (codes "run"))
      (subst (λ (r : Option source_reading.Reading). ReadingHolds tables given.schemas before.names.made stage_here vector_here r) (e ∙ reading_found (source_methods u.globals)) holds)
