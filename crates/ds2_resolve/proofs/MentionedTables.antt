-- The tables of the store that a unit mentions.
use Rattle.std.proofs.Common.{◌≡◌, ℕ, Bool, true, false, ◌||◌, List, [], ◌∷◌, ◌++◌, bytes_eq, Option, Some, None, refl, sym, ap, ◌∙◌, append-nil}
use Rattle.std.specs.Prelude.{if◌then◌else◌, filter, map}
use Rattle.std.proofs.lemmas.List.{map-append}
use Rattle.std.proofs.lemmas.List.Folds.{list_any-append}
use Rattle.std.proofs.lemmas.Slice.Eq.{bytes_eq-Decides}
use Rattle.ds2_token.specs.declared.token.Token.{Token}
use Rattle.ds2_tree.specs.Globals.{GlobalItem, Declared, Listed, Defined}
use Rattle.ds2_tree.specs.declared.globals.Declaration.TheVariants as declaration
use Rattle.ds2_tree.specs.declared.readings.Input as source_input
use Rattle.ds2_meaning.specs.ProgramTree.{is_listed}
use Rattle.ds2_names.specs.NameRules.{from_each}
use Rattle.ds2_names.specs.SourceLimits.{named_by_text, tables_in_item, first_mentions}
use Rattle.ds2_names.specs.SourceUnit.{PlacedName, placed_name, spelled_name, spelled_text, sized_table, names_alone, tables_of_reading}
use Rattle.ds2_resolve.specs.StoreMentions.{stored_table, stored_text, stored_in_hash, stored_in_global, first_by}
use Rattle.ds2_scope.proofs.SetLemmas.{or_false}

-- ---- lists of names

pub listed_append : (xs ys : List (List ℕ)) (name : List ℕ) → is_listed (xs ++ ys) name ≡ (is_listed xs name || is_listed ys name)
listed_append xs ys name = list_any-append (λ other. bytes_eq other name) xs ys

listed_last : (xs : List (List ℕ)) (y name : List ℕ) → is_listed (xs ++ y ∷ []) name ≡ (is_listed xs name || bytes_eq y name)
listed_last xs y name = listed_append xs (y ∷ []) name ∙ ap (λ t. is_listed xs name || t) (or_false (bytes_eq y name))

-- ---- tables at their first mention

-- a test that tells of one name more
module _ (t : PlacedName) (s s' : List ℕ → Bool) (more : (name : List ℕ) → s' name ≡ (bytes_eq t.name name || s name)) where
  -- a name that was seen is nothing new
  seen_before : s t.name ≡ true → (name : List ℕ) → s' name ≡ s name
  seen_before there name = more name ∙ by (bytes_eq t.name name) refl
    where
      by : (e : Bool) → bytes_eq t.name name ≡ e → (e || s name) ≡ s name
      by true e = sym (ap s (sym ((bytes_eq-Decides t.name name).0 e)) ∙ there)
      by false e = refl

  -- one table more, before further ones
  pub one_first : (tables : List PlacedName) → first_by s (t ∷ tables) ≡ (if s t.name then [] else t ∷ []) ++ first_by s' tables
  one_first tables = by (s t.name) refl
    where
      by : (e : Bool) → s t.name ≡ e → (if e then first_by s tables else t ∷ first_by (λ name. bytes_eq t.name name || s name) tables) ≡ (if e then [] else t ∷ []) ++ first_by s' tables
      by true e = λ i. first_by (λ name. sym (seen_before e name) i) tables
      by false e = λ i. t ∷ first_by (λ name. sym (more name) i) tables

  -- what was seen is what was seen before and what was new
  pub one_seen : (old : List ℕ → Bool) (first : List PlacedName) (name : List ℕ) → s name ≡ (is_listed (names_alone first) name || old name)
      → s' name ≡ (is_listed (names_alone (first ++ (if s t.name then [] else t ∷ []))) name || old name)
  one_seen old first name h = by (s t.name) refl
    where
      moved : (a b c : Bool) → (a || (b || c)) ≡ ((b || a) || c)
      moved true true c = refl
      moved true false c = refl
      moved false true c = refl
      moved false false c = refl

      by : (e : Bool) → s t.name ≡ e → s' name ≡ (is_listed (names_alone (first ++ (if e then [] else t ∷ []))) name || old name)
      by true e = seen_before e name ∙ h ∙ sym (ap (λ f. is_listed (names_alone f) name || old name) (append-nil first))
      by false e =
          more name
          ∙ ap (λ x. bytes_eq t.name name || x) h
          ∙ moved (bytes_eq t.name name) (is_listed (names_alone first) name) (old name)
          ∙ ap (λ x. x || old name) (sym (ap (λ ns. is_listed ns name) (map-append (λ (n : PlacedName). n.name) first (t ∷ [])) ∙ listed_last (names_alone first) t.name name))

pub first_mentions_are : (seen : List (List ℕ)) (tables : List PlacedName) → first_mentions seen tables ≡ first_by (is_listed seen) tables
first_mentions_are seen [] = refl
first_mentions_are seen (t ∷ tables) = by (is_listed seen t.name) (first_mentions_are seen tables) (first_mentions_are (t.name ∷ seen) tables)
  where
    by : (e : Bool) → first_mentions seen tables ≡ first_by (is_listed seen) tables → first_mentions (t.name ∷ seen) tables ≡ first_by (is_listed (t.name ∷ seen)) tables
        → (if e then first_mentions seen tables else t ∷ first_mentions (t.name ∷ seen) tables)
        ≡ (if e then first_by (is_listed seen) tables else t ∷ first_by (λ name. bytes_eq t.name name || is_listed seen name) tables)
    by true h k = h
    by false h k = ap (λ r. t ∷ r) k

-- ---- the tables of a unit

pub filter_append : {A : Type 0} (test : A → Bool) (xs ys : List A) → filter test (xs ++ ys) ≡ filter test xs ++ filter test ys
filter_append test [] ys = refl
filter_append test (x ∷ xs) ys = by (test x) (filter_append test xs ys)
  where
    by : (t : Bool) → filter test (xs ++ ys) ≡ filter test xs ++ filter test ys → (if t then x ∷ filter test (xs ++ ys) else filter test (xs ++ ys)) ≡ (if t then x ∷ filter test xs else filter test xs) ++ filter test ys
    by true h = ap (λ r. x ∷ r) h
    by false h = h

module _ (stored : List ℕ → Bool) where
  inputs_stored : (inputs : List source_input.Input)
      → filter (λ (t : PlacedName). stored t.name) (map (λ (i : source_input.Input). placed_name i.table) inputs) ≡ from_each (stored_table stored) inputs
  inputs_stored [] = refl
  inputs_stored (i ∷ inputs) = by (stored (spelled_name i.table)) (inputs_stored inputs)
    where
      rest : List PlacedName
      rest = filter (λ (t : PlacedName). stored t.name) (map (λ (i' : source_input.Input). placed_name i'.table) inputs)

      by : (t : Bool) → rest ≡ from_each (stored_table stored) inputs → (if t then placed_name i.table ∷ rest else rest) ≡ (if t then placed_name i.table ∷ [] else []) ++ from_each (stored_table stored) inputs
      by true h = ap (λ r. placed_name i.table ∷ r) h
      by false h = h

  text_stored : (text : Token) → filter (λ (t : PlacedName). stored t.name) (named_by_text (Some text)) ≡ stored_text stored text
  text_stored text = refl

  hash_stored : (text : Option Token) → filter (λ (t : PlacedName). stored t.name) (named_by_text text) ≡ stored_in_hash stored text
  hash_stored None = refl
  hash_stored (Some text) = text_stored text

  pub globals_stored : (globals : List GlobalItem) → filter (λ (t : PlacedName). stored t.name) (from_each tables_in_item globals) ≡ from_each (stored_in_global stored) globals
  globals_stored [] = refl
  globals_stored (Declared (declaration.Variables v) ∷ globals) = globals_stored globals
  globals_stored (Declared (declaration.Instance a b c d e f) ∷ globals) = globals_stored globals
  globals_stored (Declared (declaration.Hash a b c d e f g h size j k) ∷ globals) =
      filter_append (λ (t : PlacedName). stored t.name) (named_by_text (sized_table size)) (from_each tables_in_item globals)
      ∙ (λ i. hash_stored (sized_table size) i ++ globals_stored globals i)
  globals_stored (Declared (declaration.Hiter a b c d e f g h) ∷ globals) = globals_stored globals
  globals_stored (Declared (declaration.Thread a b c d e) ∷ globals) = globals_stored globals
  globals_stored (Listed keyword names end ∷ globals) = globals_stored globals
  globals_stored (Defined m ∷ globals) =
      filter_append (λ (t : PlacedName). stored t.name) (tables_in_item (Defined m)) (from_each tables_in_item globals)
      ∙ (λ i. inputs_stored (tables_of_reading m.reading) i ++ globals_stored globals i)
