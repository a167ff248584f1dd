-- Distinct names: those of columns, and of the variables of a unit.
use Rattle.std.proofs.Common.{◌≡◌, inl, inr, ℕ, bytes_eq, cond, Bool, true, false, not, ◌||◌, List, [], ◌∷◌, ◌++◌, map, filter, if◌then◌else◌, None, refl, sym, ap, ◌∙◌, subst}
use Rattle.std.specs.List.{AllByRecursion}
use Rattle.std.proofs.lemmas.Bool.{and_parts, and_from, or_from, or_parts, or_left, or_right, not_from_false}
use Rattle.ds2_base.specs.declared.place.Place.{Place}
use Rattle.ds2_tree.specs.declared.readings.Input as source_input
use Rattle.ds2_value.specs.Row.{Columns}
use Rattle.ds2_value.specs.Schema.{has_column, distinct_names}
use Rattle.ds2_value.specs.declared.schema.Column.{Column}
use Rattle.ds2_value.specs.declared.ty.Ty.{Ty}
use Rattle.ds2_meaning.specs.declared.globals.Variable as typed
use Rattle.ds2_meaning.specs.IsTyped.{are_distinct, variable_names}
use Rattle.ds2_meaning.specs.ProgramTree.{is_listed}
use Rattle.ds2_names.specs.SourceUnit.{TableColumns, UnitSource, spelled_name, PlacedName, names_alone, declared_names, variable_declarations, new_columns_of, new_columns, vector_names}
use Rattle.ds2_elaboration.specs.ElaborationLaws.{StandsAmong}
use Rattle.ds2_elaboration.specs.SourceTypes.{joined_type, program_variables, unit_names, column_typing, column_variables, vector_variables}
use Rattle.ds2_elaboration.specs.UnitsBefore.{UnitsBefore}
use Rattle.ds2_elaboration.proofs.Accepted.{each_of, all_pass}
use Rattle.ds2_elaboration.proofs.Locals.{declared_variable_names, map_append}
use Rattle.ds2_elaboration.proofs.Orders.{bytes_are, turned_bytes}

-- ---- lists of names

-- none of these names is listed
abbrev pub NoneListed : List (List ℕ) → List (List ℕ) → Type 0
NoneListed listed names = AllByRecursion (λ (name : List ℕ). is_listed listed name ≡ false) names

pub listed_append : (xs ys : List (List ℕ)) (name : List ℕ) → is_listed xs name ≡ false → is_listed ys name ≡ false → is_listed (xs ++ ys) name ≡ false
listed_append [] ys name f g = g
listed_append (x ∷ xs) ys name f g =
    let p = or_parts (bytes_eq x name) (is_listed xs name) f in or_from (bytes_eq x name) (is_listed (xs ++ ys) name) p.0 (listed_append xs ys name p.1 g)

pub unlisted_first : (xs ys : List (List ℕ)) (name : List ℕ) → is_listed (xs ++ ys) name ≡ false → (is_listed xs name ≡ false) × (is_listed ys name ≡ false)
unlisted_first [] ys name h = (refl, h)
unlisted_first (x ∷ xs) ys name h =
    let p = or_parts (bytes_eq x name) (is_listed (xs ++ ys) name) h in
    let q = unlisted_first xs ys name p.1 in
    (or_from (bytes_eq x name) (is_listed xs name) p.0 q.0, q.1)

first_of_listed : (x : List ℕ) (xs names : List (List ℕ)) → NoneListed (x ∷ xs) names → (is_listed names x ≡ false) × NoneListed xs names
first_of_listed x xs [] f = (refl, tt)
first_of_listed x xs (n ∷ names) f =
    let p = or_parts (bytes_eq x n) (is_listed xs n) f.0 in
    let q = first_of_listed x xs names f.1 in
    (or_from (bytes_eq n x) (is_listed names x) (turned_bytes x n p.0) q.0, (p.1, q.1))

none_listed_append : (listed xs ys : List (List ℕ)) → NoneListed listed xs → NoneListed listed ys → NoneListed listed (xs ++ ys)
none_listed_append listed [] ys f g = g
none_listed_append listed (x ∷ xs) ys f g = (f.0, none_listed_append listed xs ys f.1 g)

none_listed_halves : (xs ys names : List (List ℕ)) → NoneListed (xs ++ ys) names → NoneListed xs names × NoneListed ys names
none_listed_halves xs ys [] f = (tt, tt)
none_listed_halves xs ys (n ∷ names) f =
    let p = unlisted_first xs ys n f.0 in
    let q = none_listed_halves xs ys names f.1 in
    ((p.0, q.0), (p.1, q.1))

pub distinct_append : (xs ys : List (List ℕ)) → are_distinct xs ≡ true → are_distinct ys ≡ true → NoneListed xs ys → are_distinct (xs ++ ys) ≡ true
distinct_append [] ys f g n = g
distinct_append (x ∷ xs) ys f g n =
    let p = and_parts (not (is_listed xs x)) (are_distinct xs) f in
    let q = first_of_listed x xs ys n in
    and_from (not (is_listed (xs ++ ys) x)) (are_distinct (xs ++ ys))
    (not_from_false (is_listed (xs ++ ys) x) (listed_append xs ys x (from_not (is_listed xs x) p.0) q.0)) (distinct_append xs ys p.1 g q.1)
  where
    from_not : (b : Bool) → not b ≡ true → b ≡ false
    from_not true h = cc
    from_not false h = refl

-- ---- new columns

-- new names: distinct, and none of them known
abbrev pub AreNew : List (List ℕ) → List PlacedName → Type 0
AreNew known names = (are_distinct (names_alone names) ≡ true) × NoneListed known (names_alone names)

one_new_if : (b : Bool) (known : List (List ℕ)) (name : List ℕ) (place : Place) (others rest : List PlacedName) → is_listed known name ≡ b → AreNew known others
    → AreNew (name ∷ known) rest → AreNew known (if b then others else record { name = name; place = place } ∷ rest)
one_new_if true known name place others rest e f g = f
one_new_if false known name place others rest e f g =
    let p = first_of_listed name known (names_alone rest) g.1 in
    (and_from (not (is_listed (names_alone rest) name)) (are_distinct (names_alone rest)) (not_from_false (is_listed (names_alone rest) name) p.0) g.0, (e, p.1))

columns_new : (known : List (List ℕ)) (place : Place) (columns : Columns) → AreNew known (new_columns_of known place columns)
columns_new known place [] = (refl, tt)
columns_new known place (c ∷ columns) =
    one_new_if (is_listed known c.name) known c.name place (new_columns_of known place columns) (new_columns_of (c.name ∷ known) place columns) refl
    (columns_new known place columns) (columns_new (c.name ∷ known) place columns)

pub names_append : (xs ys : List PlacedName) → names_alone (xs ++ ys) ≡ names_alone xs ++ names_alone ys
names_append xs ys = map_append (λ (n : PlacedName). n.name) xs ys

pub all_columns_new : (tables : TableColumns) (known : List (List ℕ)) (inputs : List source_input.Input) → AreNew known (new_columns tables known inputs)
all_columns_new tables known [] = (refl, tt)
all_columns_new tables known (i ∷ inputs) =
    let own = new_columns_of known i.table.place (tables (spelled_name i.table)) in
    let rest = new_columns tables (names_alone own ++ known) inputs in
    let p = columns_new known i.table.place (tables (spelled_name i.table)) in
    let q = all_columns_new tables (names_alone own ++ known) inputs in
    let r = none_listed_halves (names_alone own) known (names_alone rest) q.1 in
    let e = sym (names_append own rest) in (
      subst (λ ns. are_distinct ns ≡ true) e (distinct_append (names_alone own) (names_alone rest) p.0 q.0 r.0),
      subst (λ ns. NoneListed known ns) e (none_listed_append known (names_alone own) (names_alone rest) p.1 r.1),
    )

-- ---- kept names

pub unlisted_if : (b : Bool) (own name : List ℕ) (rest : List (List ℕ)) → bytes_eq own name ≡ false → is_listed rest name ≡ false → is_listed (cond b (own ∷ rest) rest) name ≡ false
unlisted_if true own name rest e h = or_from (bytes_eq own name) (is_listed rest name) e h
unlisted_if false own name rest e h = h

unlisted_kept : (test : List ℕ → Bool) (names : List (List ℕ)) (name : List ℕ) → is_listed names name ≡ false → is_listed (filter test names) name ≡ false
unlisted_kept test [] name h = refl
unlisted_kept test (n ∷ names) name h =
    let p = or_parts (bytes_eq n name) (is_listed names name) h in unlisted_if (test n) n name (filter test names) p.0 (unlisted_kept test names name p.1)

pub distinct_if : (b : Bool) (own : List ℕ) (rest : List (List ℕ)) → is_listed rest own ≡ false → are_distinct rest ≡ true → are_distinct (cond b (own ∷ rest) rest) ≡ true
distinct_if true own rest e h = and_from (not (is_listed rest own)) (are_distinct rest) (not_from_false (is_listed rest own) e) h
distinct_if false own rest e h = h

pub not_true : (b : Bool) → not b ≡ true → b ≡ false
not_true true h = cc
not_true false h = refl

pub distinct_kept : (test : List ℕ → Bool) (names : List (List ℕ)) → are_distinct names ≡ true → are_distinct (filter test names) ≡ true
distinct_kept test [] h = refl
distinct_kept test (n ∷ names) h =
    let p = and_parts (not (is_listed names n)) (are_distinct names) h in
    distinct_if (test n) n (filter test names) (unlisted_kept test names n (not_true (is_listed names n) p.0)) (distinct_kept test names p.1)

-- names that are not listed, kept of names
pub unlisted_names : (known names : List (List ℕ)) → NoneListed known (filter (λ name. not (is_listed known name)) names)
unlisted_names known names =
    let kept = filter (λ name. not (is_listed known name)) names in
    each_of (λ (name : List ℕ). not (is_listed known name) ≡ true) (λ (name : List ℕ). is_listed known name ≡ false) (λ name h. not_true (is_listed known name) h) kept
    (all_pass (λ name. not (is_listed known name)) names)

-- ---- the names of columns

pub column_is_listed : (name : List ℕ) (columns : Columns) → is_listed (map (λ (c : Column). c.name) columns) name ≡ has_column name columns
column_is_listed name [] = refl
column_is_listed name (c ∷ columns) = ap (λ b. bytes_eq c.name name || b) (column_is_listed name columns)

pub column_names_distinct : (columns : Columns) → distinct_names columns ≡ true → are_distinct (map (λ (c : Column). c.name) columns) ≡ true
column_names_distinct [] h = refl
column_names_distinct (c ∷ columns) h =
    let names = map (λ (d : Column). d.name) columns in
    let p = and_parts (not (has_column c.name columns)) (distinct_names columns) h in
    and_from (not (is_listed names c.name)) (are_distinct names) (ap not (column_is_listed c.name columns) ∙ p.0) (column_names_distinct columns p.1)

pub among_listed : (names : List (List ℕ)) (name : List ℕ) → StandsAmong names name → is_listed names name ≡ true
among_listed [] name m = absurd m
among_listed (n ∷ names) name m = elim m [
  | inl e ↦ or_left (bytes_eq n name) (is_listed names name) (bytes_are n name (sym e))
  | inr k ↦ or_right (bytes_eq n name) (is_listed names name) (among_listed names name k)
]

-- ---- the variables of a unit

column_names : (names : List PlacedName) (f : PlacedName → Ty) → variable_names (map (λ (n : PlacedName). record { name = n.name; ty = f n }) names) ≡ names_alone names
column_names [] f = refl
column_names (n ∷ names) f = ap (λ ns. n.name ∷ ns) (column_names names f)

pub vector_variable_names : (tables : TableColumns) (before : UnitsBefore) (u : UnitSource)
    → variable_names (vector_variables tables before u) ≡ names_alone (unit_names tables before u).declared ++ names_alone (unit_names tables before u).columns
vector_variable_names tables before u =
    let declared = names_alone (declared_names (variable_declarations u.globals)) in
    map_append (λ (v : typed.Variable). v.name) (program_variables u) (column_variables tables before u)
    ∙ (ap (λ ns. ns ++ variable_names (column_variables tables before u)) (declared_variable_names (variable_declarations u.globals))
    ∙ ap (λ ns. declared ++ ns) (column_names (unit_names tables before u).columns (λ n. joined_type (column_typing tables before u None n.name))))

pub vector_is : (tables : TableColumns) (before : UnitsBefore) (u : UnitSource)
    → names_alone (vector_names (unit_names tables before u)) ≡ variable_names (vector_variables tables before u)
vector_is tables before u =
    names_append (unit_names tables before u).declared (unit_names tables before u).columns ∙ sym (vector_variable_names tables before u)
