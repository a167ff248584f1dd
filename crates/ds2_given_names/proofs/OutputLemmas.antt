-- The columns of outputs by tables of names, and what outputs break.
use Rattle.std.proofs.Common.{◌≡◌, ℕ, Bool, true, false, not, ◌||◌, ◌&&◌, List, [], ◌∷◌, ◌++◌, length, nat_eq, bytes_eq, Option, Some, None, refl, sym, ap, ◌∙◌, arith}
use Rattle.std.specs.Prelude.{if◌then◌else◌, codes, map, filter}
use Rattle.std.specs.Cmp.Lexicographic.{pointwise}
use Rattle.std.specs.HashMap.{HashMap, get}
use Rattle.std.specs.Option.{option_or}
use Rattle.std.proofs.lemmas.List.{length-map}
use Rattle.std.proofs.lemmas.Slice.Eq.{bytes_eq-Decides}
use Rattle.ds2_base.specs.declared.place.Place.{Place}
use Rattle.ds2_token.specs.Words.{is_word}
use Rattle.ds2_token.specs.declared.token.Token.{Token}
use Rattle.ds2_tree.specs.Globals.{GlobalItem, Declared, Listed, Defined}
use Rattle.ds2_tree.specs.declared.units.OutputOption.{OutputOption}
use Rattle.ds2_tree.specs.declared.units.OutputOption.TheVariants as option
use Rattle.ds2_tree.specs.declared.units.OutputTable as source_output
use Rattle.ds2_tree.specs.declared.units.Renaming.{Renaming}
use Rattle.ds2_meaning.specs.ProgramTree.{is_listed}
use Rattle.ds2_names.specs.NameRules.{from_each, place_unless, options_of, listed_by, passes_keep, listed_in_statements, is_output_column, columns_left, renamings_in, renamings_of, renamed_to, OutputName, name_if_renamed, output_name, clashing_name, clashing_columns, is_behind, clash_at_new_name, columns_are_known, real_outputs}
use Rattle.ds2_names.specs.SourceUnit.{UnitSource, SourceNames, PlacedName, placed_name, names_alone, spelled_name, vector_names, is_earlier}
use Rattle.ds2_names.specs.UnitRules.{without_columns, output_without_columns}
use Rattle.std.specs.List.{list_any}
use Rattle.ds2_scope.specs.Collected.{listed_in, listed_in_option}
use Rattle.ds2_given_names.specs.declared.lists.KeepDrop.{KeepDrop}
use Rattle.ds2_given_names.specs.declared.output_rules.BrokenOutputs.{BrokenOutputs}
use Rattle.ds2_scope.specs.Earliest.{earlier_of, earliest}
use Rattle.ds2_scope.specs.NameSets.{HasNames}
use Rattle.ds2_given_names.specs.OutputParts.{is_given, AreLists, passes_lists, AreStatementLists, AreOptionLists, new_name_of, HasNewNames, columns_by, earlier_new, first_new, new_if_named, first_new_of, is_new_behind, clashes, is_null_output, clashing_in}
use Rattle.ds2_given_names.specs.OutputRules.{earlier_of_both, BreaksRealOutput, BreaksOutput, BreaksOutputs}
use Rattle.ds2_scope.specs.UnitNames.{NamesAre}
use Rattle.ds2_scope.specs.NamedPlaces.{stands_behind}
use Rattle.ds2_scope.proofs.EarliestLemmas as places
use Rattle.ds2_scope.proofs.EarliestLemmas.{must_not, earlier_of_assoc}
use Rattle.std.proofs.lemmas.Bool.{eqb-true}
use Rattle.ds2_scope.proofs.TableLemmas.{or_none}

-- ---- `keep` and `drop`

pub given_where_some : (names : List PlacedName) → is_given (names_alone names) ≡ not (nat_eq (length names) 0)
given_where_some [] = refl
given_where_some (n ∷ names) = sym (ap not (must_not (nat_eq (length (n ∷ names)) 0) (λ h. let k = eqb-true (length (n ∷ names)) 0 h in omega (arith, k))))

alone_append : (xs ys : List PlacedName) → names_alone (xs ++ ys) ≡ names_alone xs ++ names_alone ys
alone_append [] ys = refl
alone_append (x ∷ xs) ys = ap (λ r. x.name ∷ r) (alone_append xs ys)

spelled_alone : (tokens : List Token) → names_alone (map placed_name tokens) ≡ map spelled_name tokens
spelled_alone [] = refl
spelled_alone (t ∷ tokens) = ap (λ r. spelled_name t ∷ r) (spelled_alone tokens)

chosen : (t : Bool) (tokens : List Token) → names_alone (if t then map placed_name tokens else []) ≡ (if t then map spelled_name tokens else [])
chosen true tokens = spelled_alone tokens
chosen false tokens = refl

pub statements_listed : (word : List ℕ) (gs : List GlobalItem) → names_alone (from_each (listed_in word) gs) ≡ listed_in_statements word gs
statements_listed word [] = refl
statements_listed word (Listed keyword names end ∷ gs) =
    alone_append (if is_word word keyword then map placed_name names else []) (from_each (listed_in word) gs)
    ∙ (λ i. chosen (is_word word keyword) names i ++ statements_listed word gs i)
statements_listed word (Declared d ∷ gs) = statements_listed word gs
statements_listed word (Defined m ∷ gs) = statements_listed word gs

option_listed : (word : List ℕ) (x : OutputOption) → names_alone (listed_in_option word x) ≡ listed_by word x
option_listed word (option.Listed keyword equals opening names closing) = chosen (is_word word keyword) names
option_listed word (option.Overwrite keyword equals answer) = refl
option_listed word (option.Rename keyword equals opening renamings closing) = refl

pub options_listed : (word : List ℕ) (xs : List OutputOption) → names_alone (from_each (listed_in_option word) xs) ≡ from_each (listed_by word) xs
options_listed word [] = refl
options_listed word (x ∷ xs) =
    alone_append (listed_in_option word x) (from_each (listed_in_option word) xs) ∙ (λ i. option_listed word x i ++ options_listed word xs i)

pub lists_are : (l : KeepDrop) (kept kept' dropped dropped' : List (List ℕ)) → kept ≡ kept' → dropped ≡ dropped' → AreLists l kept dropped → AreLists l kept' dropped'
lists_are l kept kept' dropped dropped' h k a = record {
  has_keep = a.has_keep ∙ ap is_given h;
  kept = λ name. a.kept name ∙ ap (λ names. is_listed names name) h;
  dropped = λ name. a.dropped name ∙ ap (λ names. is_listed names name) k;
}

pub statement_lists : (l : KeepDrop) (gs : List GlobalItem)
    → AreLists l (names_alone (from_each (listed_in (codes "keep")) gs)) (names_alone (from_each (listed_in (codes "drop")) gs)) → AreStatementLists l gs
statement_lists l gs a = lists_are l _ _ _ _ (statements_listed (codes "keep") gs) (statements_listed (codes "drop") gs) a

pub option_lists : (l : KeepDrop) (xs : List OutputOption)
    → AreLists l (names_alone (from_each (listed_in_option (codes "keep")) xs)) (names_alone (from_each (listed_in_option (codes "drop")) xs)) → AreOptionLists l xs
option_lists l xs a = lists_are l _ _ _ _ (options_listed (codes "keep") xs) (options_listed (codes "drop") xs) a

keep_test : (kept : List (List ℕ)) (name : List ℕ) → (not (is_given kept) || is_listed kept name) ≡ passes_keep kept name
keep_test [] name = refl
keep_test (k ∷ kept) name = refl

four_tests : (a b c d : Bool) → ((a && not c) && (b && not d)) ≡ (a && b && not c && not d)
four_tests true true true d = refl
four_tests true true false d = refl
four_tests true false true d = refl
four_tests true false false d = refl
four_tests false b c d = refl

pub passes_is : (s o : KeepDrop) (u : UnitSource) (options : List OutputOption) → AreStatementLists s u.globals → AreOptionLists o options
    → (name : List ℕ) → (passes_lists s name && passes_lists o name) ≡ is_output_column u options name
passes_is s o u options a b name =
    let ks = listed_in_statements (codes "keep") u.globals in
    let ds = listed_in_statements (codes "drop") u.globals in
    let ko = from_each (listed_by (codes "keep")) options in
    let do' = from_each (listed_by (codes "drop")) options in
    (λ i. ((not (a.has_keep i) || a.kept name i) && not (a.dropped name i)) && ((not (b.has_keep i) || b.kept name i) && not (b.dropped name i)))
    ∙ (λ i. (keep_test ks name i && not (is_listed ds name)) && (keep_test ko name i && not (is_listed do' name)))
    ∙ four_tests (passes_keep ks name) (passes_keep ko name) (is_listed ds name) (is_listed do' name)

two_tests : (a c : Bool) → (a && not c) ≡ (a && true && not c && not false)
two_tests true true = refl
two_tests true false = refl
two_tests false c = refl

-- without options the statements alone tell
pub passes_left : (s : KeepDrop) (u : UnitSource) → AreStatementLists s u.globals → (name : List ℕ) → passes_lists s name ≡ is_output_column u [] name
passes_left s u a name =
    let ks = listed_in_statements (codes "keep") u.globals in
    let ds = listed_in_statements (codes "drop") u.globals in
    (λ i. (not (a.has_keep i) || a.kept name i) && not (a.dropped name i))
    ∙ (λ i. keep_test ks name i && not (is_listed ds name))
    ∙ two_tests (passes_keep ks name) (is_listed ds name)

-- ---- renamings

pub one_more_renaming : (x : Option PlacedName) (r : Renaming) (rs : List Renaming) (name : List ℕ)
    → option_or (option_or x (new_name_of name r)) (renamed_to rs name) ≡ option_or x (renamed_to (r ∷ rs) name)
one_more_renaming x r rs name = by (bytes_eq (spelled_name r.old) name) x
  where
    by : (t : Bool) (y : Option PlacedName) → option_or (option_or y (if t then Some (placed_name r.new) else None)) (renamed_to rs name) ≡ option_or y (if t then Some (placed_name r.new) else renamed_to rs name)
    by true None = refl
    by true (Some n) = refl
    by false y = ap (λ z. option_or z (renamed_to rs name)) (or_none y)

renamed_append : (rs ss : List Renaming) (name : List ℕ) → option_or (renamed_to rs name) (renamed_to ss name) ≡ renamed_to (rs ++ ss) name
renamed_append [] ss name = refl
renamed_append (r ∷ rs) ss name = by (bytes_eq (spelled_name r.old) name) (renamed_append rs ss name)
  where
    by : (t : Bool) → option_or (renamed_to rs name) (renamed_to ss name) ≡ renamed_to (rs ++ ss) name → option_or (if t then Some (placed_name r.new) else renamed_to rs name) (renamed_to ss name) ≡ (if t then Some (placed_name r.new) else renamed_to (rs ++ ss) name)
    by true ih = refl
    by false ih = ih

or_assoc : {A : Type 0} (x y z : Option A) → option_or (option_or x y) z ≡ option_or x (option_or y z)
or_assoc None y z = refl
or_assoc (Some a) y z = refl

pub one_more_option : (x : Option PlacedName) (o : OutputOption) (os : List OutputOption) (name : List ℕ)
    → option_or (option_or x (renamed_to (renamings_in o) name)) (renamed_to (from_each renamings_in os) name) ≡ option_or x (renamed_to (from_each renamings_in (o ∷ os)) name)
one_more_option x o os name =
    or_assoc x (renamed_to (renamings_in o) name) (renamed_to (from_each renamings_in os) name)
    ∙ ap (option_or x) (renamed_append (renamings_in o) (from_each renamings_in os) name)

-- ---- two columns of one name

-- a new name stands behind the earlier of two where it stands behind one of them
behind_either : (x y : Option (Option Place)) (p : Place) → is_new_behind (first_new x y) p ≡ (is_new_behind x p || is_new_behind y p)
behind_either None y p = refl
behind_either (Some a) None p = by (is_behind p a)
  where
    by : (t : Bool) → t ≡ (t || false)
    by true = refl
    by false = refl
behind_either (Some None) (Some b) p = refl
behind_either (Some (Some a)) (Some None) p = by (is_earlier a p)
  where
    by : (t : Bool) → true ≡ (t || true)
    by true = refl
    by false = refl
behind_either (Some (Some a)) (Some (Some b)) p = by (is_earlier b a) ∙ places.behind_either (Some a) (Some b) p
  where
    by : (t : Bool) → is_behind p (if t then Some b else Some a) ≡ stands_behind (if t then Some b else Some a) p
    by true = refl
    by false = refl

pub behind_first_new : (all : List OutputName) (name : List ℕ) (p : Place)
    → is_new_behind (first_new_of all name) p ≡ list_any (λ (o : OutputName). bytes_eq o.name name && is_behind p o.new_place) all
behind_first_new [] name p = refl
behind_first_new (n ∷ all) name p =
    behind_either (new_if_named name n) (first_new_of all name) p ∙ (λ i. here (bytes_eq n.name name) i || behind_first_new all name p i)
  where
    here : (t : Bool) → is_new_behind (if t then Some n.new_place else None) p ≡ (t && is_behind p n.new_place)
    here true = refl
    here false = refl

-- the place of a renamed column that has the name of another one
pub clash_at : (all : List OutputName) (n : OutputName) (place : Place) → clash_at_new_name all n (Some place) ≡ place_unless (not (is_new_behind (first_new_of all n.name) place)) place
clash_at all n place =
    by (list_any (λ (o : OutputName). bytes_eq o.name n.name && is_behind place o.new_place) all) ∙ ap (λ t. place_unless (not t) place) (sym (behind_first_new all n.name place))
  where
    by : (t : Bool) → (if t then place ∷ [] else []) ≡ place_unless (not t) place
    by true = refl
    by false = refl

earlier_new_assoc : (x y z : Option Place) → earlier_new (earlier_new x y) z ≡ earlier_new x (earlier_new y z)
earlier_new_assoc None y z = refl
earlier_new_assoc (Some a) None z = refl
earlier_new_assoc (Some a) (Some b) None = by (is_earlier b a)
  where
    by : (t : Bool) → earlier_new (if t then Some b else Some a) None ≡ None
    by true = refl
    by false = refl
earlier_new_assoc (Some a) (Some b) (Some c) = by_place (is_earlier b a) (is_earlier c b) (earlier_of_assoc (Some a) (Some b) (Some c))
  where
    by_place : (s t : Bool) → earlier_of (if s then Some b else Some a) (Some c) ≡ earlier_of (Some a) (if t then Some c else Some b)
        → earlier_new (if s then Some b else Some a) (Some c) ≡ earlier_new (Some a) (if t then Some c else Some b)
    by_place true true h = h
    by_place true false h = h
    by_place false true h = h
    by_place false false h = h

first_new_assoc : (x y z : Option (Option Place)) → first_new (first_new x y) z ≡ first_new x (first_new y z)
first_new_assoc None y z = refl
first_new_assoc (Some a) None z = refl
first_new_assoc (Some a) (Some b) None = refl
first_new_assoc (Some a) (Some b) (Some c) = ap (λ p. Some p) (earlier_new_assoc a b c)

pub one_more_new : (x : Option (Option Place)) (n : OutputName) (names : List OutputName) (name : List ℕ)
    → first_new (first_new x (new_if_named name n)) (first_new_of names name) ≡ first_new x (first_new_of (n ∷ names) name)
one_more_new x n names name = first_new_assoc x (new_if_named name n) (first_new_of names name)

pub first_new_none : (x : Option (Option Place)) → first_new x None ≡ x
first_new_none None = refl
first_new_none (Some a) = refl

-- a table in which a name has the earlier of its place and another one
pub one_more_column : (old : List ℕ → Option (Option Place)) (n : OutputName) (first : Option Place) (name : List ℕ) → Some first ≡ first_new (old n.name) (Some n.new_place)
    → (if bytes_eq n.name name then Some first else old name) ≡ first_new (old name) (new_if_named name n)
one_more_column old n first name h = by (bytes_eq n.name name) refl
  where
    by : (t : Bool) → bytes_eq n.name name ≡ t → (if t then Some first else old name) ≡ first_new (old name) (if t then Some n.new_place else None)
    by true e = h ∙ ap (λ x. first_new (old x) (Some n.new_place)) ((bytes_eq-Decides n.name name).0 e)
    by false e = sym (first_new_none (old name))

-- ---- outputs

module _ {S : Type 0} (names : SourceNames) (o : source_output.OutputTable) (statements options : KeepDrop) (news : HashMap (List ℕ) PlacedName S) (variables : List PlacedName) where
  columns_are : AreStatementLists statements names.unit.globals → AreOptionLists options (options_of o.options) → HasNewNames news (renamings_of o) → variables ≡ vector_names names
      → columns_by statements options news variables ≡ map (output_name (renamings_of o)) (columns_left names (options_of o.options))
  columns_are a b n v = λ i.
      map (λ name. name_if_renamed name (n name i)) (filter (λ name. passes_is statements options names.unit (options_of o.options) a b name i) (names_alone (v i)))

  pub real_output : (is_open : Bool) (clash empty : Option Place) → AreStatementLists statements names.unit.globals → AreOptionLists options (options_of o.options) → HasNewNames news (renamings_of o)
      → variables ≡ vector_names names → is_open ≡ not (columns_are_known names) → clash ≡ earliest (clashes (columns_by statements options news variables))
      → empty ≡ earliest (place_unless (is_open || not (nat_eq (length (columns_by statements options news variables)) 0)) o.table.place)
      → BreaksRealOutput names o (record { clash = clash; empty = empty })
  real_output is_open clash empty a b n v k c e =
      let columns = columns_are a b n v in
      let count = length-map (columns_left names (options_of o.options)) (output_name (renamings_of o)) in record {
        clash = c ∙ ap (λ all. earliest (clashes all)) columns;
        empty = e
            ∙ (λ i. earliest (place_unless (k i || not (nat_eq (length (columns i)) 0)) o.table.place))
            ∙ ap (λ n. earliest (place_unless (not (columns_are_known names) || not (nat_eq n 0)) o.table.place)) count;
      }

pub null_output : (names : SourceNames) (o : source_output.OutputTable) → is_null_output o ≡ true → BreaksOutput names o (record { clash = None; empty = None })
null_output names o h = record {
  clash = sym (ap (λ t. earliest (if t then [] else clashing_columns names o)) h);
  empty = sym (ap (λ t. earliest (if t then [] else without_columns names (options_of o.options) o.table.place)) h);
}

pub other_output : (names : SourceNames) (o : source_output.OutputTable) (b : BrokenOutputs) → is_null_output o ≡ false → BreaksRealOutput names o b → BreaksOutput names o b
other_output names o b h r = record {
  clash = r.clash ∙ sym (ap (λ t. earliest (if t then [] else clashing_columns names o)) h);
  empty = r.empty ∙ sym (ap (λ t. earliest (if t then [] else without_columns names (options_of o.options) o.table.place)) h);
}

-- outputs other than `_null_`
pub real_clashes : (names : SourceNames) (os : List source_output.OutputTable)
    → from_each (clashing_columns names) (filter (λ (o : source_output.OutputTable). not (is_null_output o)) os) ≡ from_each (clashing_in names) os
real_clashes names [] = refl
real_clashes names (o ∷ os) = by (is_null_output o) (real_clashes names os)
  where
    rest : List source_output.OutputTable
    rest = filter (λ (x : source_output.OutputTable). not (is_null_output x)) os

    by : (t : Bool) → from_each (clashing_columns names) rest ≡ from_each (clashing_in names) os → from_each (clashing_columns names) (if not t then o ∷ rest else rest) ≡ (if t then [] else clashing_columns names o) ++ from_each (clashing_in names) os
    by true ih = ih
    by false ih = ap (λ r. clashing_columns names o ++ r) ih
