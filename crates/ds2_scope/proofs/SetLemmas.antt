-- Sets of names, and columns that are not known yet.
use Rattle.std.proofs.Common.{◌≡◌, ◌<◌, ◌+◌, ℕ, suc, Bool, true, false, not, ◌||◌, List, [], ◌∷◌, ◌++◌, length, drop, get_or, bytes_eq, refl, sym, ap, ◌∙◌, append_assoc, append-nil, add-one}
use Rattle.std.proofs.Math.Seq.{drop-cons}
use Rattle.std.specs.Prelude.{if◌then◌else◌, map, nat_eq}
use Rattle.std.specs.Cmp.Lexicographic.{pointwise}
use Rattle.std.specs.HashSet.{HashSet, contains}
use Rattle.std.proofs.lemmas.Slice.Eq.{bytes_eq-Decides}
use Rattle.ds2_base.specs.declared.place.Place.{Place}
use Rattle.ds2_tree.specs.declared.readings.Input as source_input
use Rattle.ds2_value.specs.Row.{Columns}
use Rattle.ds2_value.specs.Schema.{has_column}
use Rattle.ds2_value.specs.declared.schema.Column.{Column}
use Rattle.ds2_meaning.specs.ProgramTree.{is_listed}
use Rattle.ds2_names.specs.SourceUnit.{TableColumns, PlacedName, spelled_name, names_alone, new_columns_of, new_columns}
use Rattle.ds2_scope.specs.NameSets.{HasNames, column_names, AddsColumns, AddsAllColumns}

-- the items that are left, the first of them apart
pub item_first : {A : Type 0} (xs : List A) (i : ℕ) (x : A) → x ≡ get_or xs i x → i < length xs → drop i xs ≡ x ∷ drop (i + 1) xs
item_first xs i x is lt = drop-cons xs i x lt ∙ ap (λ r. r ∷ drop (suc i) xs) (sym is) ∙ ap (λ n. x ∷ drop n xs) (sym (add-one i))

pub either_moved : (a b c : Bool) → ((a || b) || c) ≡ (b || (a || c))
either_moved true true c = refl
either_moved true false c = refl
either_moved false b c = refl

pub or_false : (a : Bool) → (a || false) ≡ a
or_false true = refl
or_false false = refl

-- a name among others may stand first
listed_first : (xs : List (List ℕ)) (y : List ℕ) (ys : List (List ℕ)) (name : List ℕ) → is_listed (xs ++ y ∷ ys) name ≡ is_listed (y ∷ (xs ++ ys)) name
listed_first [] y ys name = refl
listed_first (x ∷ xs) y ys name =
    ap (λ t. bytes_eq x name || t) (listed_first xs y ys name) ∙ sym (either_moved' (bytes_eq y name) (bytes_eq x name) (is_listed (xs ++ ys) name))
  where
    either_moved' : (a b c : Bool) → (a || (b || c)) ≡ (b || (a || c))
    either_moved' true true c = refl
    either_moved' true false c = refl
    either_moved' false b c = refl

module _ {S : Type 0} where
  -- one column more
  pub more_columns : (k : List (List ℕ)) (place : Place) (c : Column) (cs : Columns) (before middle after : List PlacedName) (first second : HashSet (List ℕ) S)
      → AddsColumns k place (c ∷ []) before middle first → AddsColumns (names_alone (new_columns_of k place (c ∷ [])) ++ k) place cs middle after second
      → AddsColumns k place (c ∷ cs) before after second
  more_columns k place c cs before middle after first second a b =
      let both = by (is_listed k c.name) a.names b.names b.known in record { names = both.0; known = both.1 }
    where
      x : PlacedName
      x = record { name = c.name; place = place }

      all : Bool → List PlacedName
      all t = if t then new_columns_of k place cs else x ∷ new_columns_of (c.name ∷ k) place cs

      by : (t : Bool) → middle ≡ before ++ (if t then [] else x ∷ []) → after ≡ middle ++ new_columns_of (names_alone (if t then [] else x ∷ []) ++ k) place cs
          → HasNames second (names_alone (new_columns_of (names_alone (if t then [] else x ∷ []) ++ k) place cs) ++ (names_alone (if t then [] else x ∷ []) ++ k))
          → (after ≡ before ++ all t) × HasNames second (names_alone (all t) ++ k)
      by true m n h = (n ∙ ap (λ l. l ++ new_columns_of k place cs) (m ∙ append-nil before), h)
      by false m n h = (
        n ∙ ap (λ l. l ++ new_columns_of (c.name ∷ k) place cs) m ∙ append_assoc before (x ∷ []) (new_columns_of (c.name ∷ k) place cs),
        λ name. h name ∙ listed_first (names_alone (new_columns_of (c.name ∷ k) place cs)) c.name k name,
      )

  -- a column that was known adds nothing
  pub old_column : (k : List (List ℕ)) (place : Place) (c : Column) (names : List PlacedName) (before after : HashSet (List ℕ) S) → HasNames before k
      → contains (pointwise nat_eq) before c.name ≡ true → ((other : List ℕ) → contains (pointwise nat_eq) after other ≡ (bytes_eq c.name other || contains (pointwise nat_eq) before other))
      → AddsColumns k place (c ∷ []) names names after
  old_column k place c names before after h there more =
      let known = sym (h c.name) ∙ there in record {
        names = sym (append-nil names) ∙ sym (ap (λ t. names ++ (if t then [] else record { name = c.name; place = place } ∷ [])) known);
        known = λ other.
            more other ∙ is_old other (bytes_eq c.name other) refl
            ∙ ap (λ t. is_listed (names_alone (if t then [] else record { name = c.name; place = place } ∷ []) ++ k) other) (sym known);
      }
    where
      is_old : (other : List ℕ) (t : Bool) → bytes_eq c.name other ≡ t → (t || contains (pointwise nat_eq) before other) ≡ is_listed k other
      is_old other true e = sym (sym (h other) ∙ ap (contains (pointwise nat_eq) before) (sym ((bytes_eq-Decides c.name other).0 e)) ∙ there)
      is_old other false e = h other

  -- columns that are left lead to all columns
  abbrev pub LeadsToColumns : List (List ℕ) → Place → Columns → List PlacedName → Columns → List PlacedName → HashSet (List ℕ) S → Type 0
  LeadsToColumns k place all before left names set =
      (between : List (List ℕ)) × HasNames set between
      × ((after : List PlacedName) (end : HashSet (List ℕ) S) → AddsColumns between place left names after end → AddsColumns k place all before after end)

  pub columns_begin : (k : List (List ℕ)) (place : Place) (all : Columns) (before : List PlacedName) (set : HashSet (List ℕ) S) → HasNames set k
      → LeadsToColumns k place all before all before set
  columns_begin k place all before set h = (k, h, λ after end rest. rest)

  pub columns_go_on : (k : List (List ℕ)) (place : Place) (all : Columns) (before : List PlacedName) (c : Column) (cs : Columns) (names names' : List PlacedName) (set set' : HashSet (List ℕ) S)
      → LeadsToColumns k place all before (c ∷ cs) names set → ((b : List (List ℕ)) → HasNames set b → AddsColumns b place (c ∷ []) names names' set')
      → LeadsToColumns k place all before cs names' set'
  columns_go_on k place all before c cs names names' set set' lead adds =
      let b = lead.0 in
      let one = adds b lead.1 in (
        names_alone (new_columns_of b place (c ∷ [])) ++ b,
        one.known,
        λ after end rest. lead.2 after end (more_columns b place c cs names names' after set' end one rest),
      )

  pub columns_end : (k : List (List ℕ)) (place : Place) (all : Columns) (before names : List PlacedName) (set : HashSet (List ℕ) S)
      → LeadsToColumns k place all before [] names set → AddsColumns k place all before names set
  columns_end k place all before names set lead = lead.2 names set (record { names = sym (append-nil names); known = lead.1 })

  -- tables that are left lead to all tables
  abbrev pub LeadsToInputs : TableColumns → List (List ℕ) → List source_input.Input → List PlacedName → List source_input.Input → List PlacedName → HashSet (List ℕ) S → Type 0
  LeadsToInputs tables k all before left names set =
      (between : List (List ℕ)) × HasNames set between × ((after : List PlacedName) → AddsAllColumns tables between left names after → AddsAllColumns tables k all before after)

  pub inputs_begin : (tables : TableColumns) (k : List (List ℕ)) (all : List source_input.Input) (before : List PlacedName) (set : HashSet (List ℕ) S) → HasNames set k
      → LeadsToInputs tables k all before all before set
  inputs_begin tables k all before set h = (k, h, λ after rest. rest)

  pub inputs_go_on : (tables : TableColumns) (k : List (List ℕ)) (all : List source_input.Input) (before : List PlacedName) (i : source_input.Input) (is : List source_input.Input)
      (names names' : List PlacedName) (set set' : HashSet (List ℕ) S) → LeadsToInputs tables k all before (i ∷ is) names set
      → ((b : List (List ℕ)) → HasNames set b → AddsColumns b i.table.place (tables (spelled_name i.table)) names names' set') → LeadsToInputs tables k all before is names' set'
  inputs_go_on tables k all before i is names names' set set' lead adds =
      let b = lead.0 in
      let one = adds b lead.1 in
      let own = new_columns_of b i.table.place (tables (spelled_name i.table)) in
      let others = new_columns tables (names_alone own ++ b) is in (
        names_alone own ++ b,
        one.known,
        λ after rest. lead.2 after (rest ∙ ap (λ l. l ++ others) one.names ∙ append_assoc names own others),
      )

  pub inputs_end : (tables : TableColumns) (k : List (List ℕ)) (all : List source_input.Input) (before names : List PlacedName) (set : HashSet (List ℕ) S)
      → LeadsToInputs tables k all before [] names set → AddsAllColumns tables k all before names
  inputs_end tables k all before names set lead = lead.2 names (sym (append-nil names))

-- a column's name is among the names
pub has_column_is : (columns : Columns) (name : List ℕ) → has_column name columns ≡ is_listed (column_names columns) name
has_column_is [] name = refl
has_column_is (c ∷ columns) name = ap (λ t. bytes_eq c.name name || t) (has_column_is columns name)
