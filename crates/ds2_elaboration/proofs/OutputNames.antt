-- The outputs of a data or thread program that breaks no rule have distinct names, and so have the columns of each.
use Rattle.std.proofs.Common.{◌≡◌, inl, inr, ℕ, bytes_eq, cond, Bool, true, false, not, ◌&&◌, List, [], ◌∷◌, ◌++◌, map, filter, if◌then◌else◌, Option, Some, None, refl, sym, ap, ◌∙◌, subst, true≢false}
use Rattle.std.specs.List.{list_any, AllByRecursion}
use Rattle.std.proofs.lemmas.Bool.{and_parts, and_from, or_parts, or_from, or_left, or_right, not_from_false, false_from_ne_true}
use Rattle.ds2_base.specs.declared.place.Place.{Place}
use Rattle.ds2_token.specs.declared.token.Token.{Token}
use Rattle.ds2_tree.specs.Lists.{if_any, all_spelled}
use Rattle.ds2_tree.specs.Marks.{open_mark, close_mark, equals_mark}
use Rattle.ds2_tree.specs.Units.{renaming_spelling, option_spelling, options_spelling, output_spelling}
use Rattle.ds2_tree.specs.declared.units.OutputOption.{OutputOption}
use Rattle.ds2_tree.specs.declared.units.OutputOption.TheVariants as option
use Rattle.ds2_tree.specs.declared.units.OutputOptions.{OutputOptions}
use Rattle.ds2_tree.specs.declared.units.OutputTable as source_output
use Rattle.ds2_tree.specs.declared.units.Renaming.{Renaming}
use Rattle.ds2_value.specs.Row.{Columns}
use Rattle.ds2_value.specs.Schema.{has_column, distinct_names, types_in_bounds}
use Rattle.ds2_value.specs.Types.{in_bounds}
use Rattle.ds2_value.specs.declared.ty.Ty.{Ty}
use Rattle.ds2_meaning.specs.declared.globals.OutputColumn.{OutputColumn}
use Rattle.ds2_meaning.specs.declared.globals.Variable as typed
use Rattle.ds2_meaning.specs.IsTyped.{type_in, AreInBounds, are_distinct}
use Rattle.ds2_meaning.specs.ProgramTree.{is_listed}
use Rattle.ds2_names.specs.NameRules.{from_each, options_of, renamed_to, renamings_in, renamings_of, OutputName, name_if_renamed, output_name, is_behind, clash_at_new_name, clashing_name, later_places}
use Rattle.ds2_names.specs.SourceUnit.{spelled_name, PlacedName, placed_name, names_alone, is_earlier}
use Rattle.ds2_elaboration.specs.ElaborationLaws.{StandsAmong}
use Rattle.ds2_elaboration.specs.ProgramTypes.{type_or_bigint, made_column}
use Rattle.ds2_elaboration.specs.TypedPrograms.{StandInOrder}
use Rattle.ds2_elaboration.proofs.Accepted.{each_empty, same_item, bounded_in}
use Rattle.ds2_elaboration.proofs.Distinct.{not_true, unlisted_if, distinct_if}
use Rattle.ds2_elaboration.proofs.Locals.{map_append}
use Rattle.ds2_elaboration.proofs.Lookups.{of_among, mapped_among}
use Rattle.ds2_elaboration.proofs.Orders.{Within, kept, passed, none_within, itself_within, behind_others, before_others, order_within, parts_within, same_bytes, bytes_are, AreApart, not_given_before, distinct_tokens}

-- ---- items of lists

among_any : {A : Type 0} (test : A → Bool) (xs : List A) (x : A) → StandsAmong xs x → test x ≡ true → list_any test xs ≡ true
among_any test [] x m h = absurd m
among_any test (y ∷ ys) x m h = elim m [
  | inl e ↦ or_left (test y) (list_any test ys) (ap test (sym e) ∙ h)
  | inr k ↦ or_right (test y) (list_any test ys) (among_any test ys x k h)
]

-- ---- names of outputs

map_if : {A : Type 0} (f : A → List ℕ) (b : Bool) (x : A) (rest : List A) → map f (cond b (x ∷ rest) rest) ≡ cond b (f x ∷ map f rest) (map f rest)
map_if f true x rest = refl
map_if f false x rest = refl

unlisted_map : {A : Type 0} (f : A → List ℕ) (test : A → Bool) (xs : List A) (name : List ℕ) → is_listed (map f xs) name ≡ false → is_listed (map f (filter test xs)) name ≡ false
unlisted_map f test [] name h = refl
unlisted_map f test (x ∷ xs) name h =
    let p = or_parts (bytes_eq (f x) name) (is_listed (map f xs) name) h in
    ap (λ ns. is_listed ns name) (map_if f (test x) x (filter test xs))
    ∙ unlisted_if (test x) (f x) name (map f (filter test xs)) p.0 (unlisted_map f test xs name p.1)

pub distinct_map : {A : Type 0} (f : A → List ℕ) (test : A → Bool) (xs : List A) → are_distinct (map f xs) ≡ true → are_distinct (map f (filter test xs)) ≡ true
distinct_map f test [] h = refl
distinct_map f test (x ∷ xs) h =
    let p = and_parts (not (is_listed (map f xs) (f x))) (are_distinct (map f xs)) h in
    ap are_distinct (map_if f (test x) x (filter test xs))
    ∙ distinct_if (test x) (f x) (map f (filter test xs)) (unlisted_map f test xs (f x) (not_true (is_listed (map f xs) (f x)) p.0)) (distinct_map f test xs p.1)

pub tables_within : (outputs : List source_output.OutputTable) → Within (map (λ (o : source_output.OutputTable). o.table) outputs) (all_spelled output_spelling outputs)
tables_within [] = none_within []
tables_within (o ∷ outputs) = kept o.table (behind_others (if_any options_spelling o.options) (tables_within outputs))

names_as_tokens : (outputs : List source_output.OutputTable)
    → map (λ (o : source_output.OutputTable). placed_name o.table) outputs ≡ map placed_name (map (λ (o : source_output.OutputTable). o.table) outputs)
names_as_tokens [] = refl
names_as_tokens (o ∷ outputs) = ap (λ ns. placed_name o.table ∷ ns) (names_as_tokens outputs)

table_names : (outputs : List source_output.OutputTable)
    → names_alone (map placed_name (map (λ (o : source_output.OutputTable). o.table) outputs)) ≡ map (λ (o : source_output.OutputTable). spelled_name o.table) outputs
table_names [] = refl
table_names (o ∷ outputs) = ap (λ ns. spelled_name o.table ∷ ns) (table_names outputs)

pub outputs_distinct : (outputs : List source_output.OutputTable) → StandInOrder (all_spelled output_spelling outputs)
    → later_places (map (λ (o : source_output.OutputTable). placed_name o.table) outputs) ≡ []
    → are_distinct (map (λ (o : source_output.OutputTable). spelled_name o.table) outputs) ≡ true
outputs_distinct outputs order once =
    let tokens = map (λ (o : source_output.OutputTable). o.table) outputs in
    let e = names_as_tokens outputs in
    sym (ap are_distinct (table_names outputs))
    ∙ distinct_tokens tokens (order_within (tables_within outputs) order) (not_given_before (map placed_name tokens) (subst (λ ns. later_places ns ≡ []) e once))

-- ---- renamed columns

-- the new names of renamings
abbrev pub new_tokens : List Renaming → List Token
new_tokens renamings = map (λ (r : Renaming). r.new) renamings

placed_if : (P : Place → Type 0) (b : Bool) (t : Token) (y : PlacedName) (rest : Option PlacedName) → P t.place → (rest ≡ Some y → P y.place)
    → (if b then Some (placed_name t) else rest) ≡ Some y → P y.place
placed_if P true t y rest f g h = subst (λ (n : PlacedName). P n.place) (same_item (placed_name t) y h) f
placed_if P false t y rest f g h = g h

of_renamed : (P : Place → Type 0) (renamings : List Renaming) (name : List ℕ) (y : PlacedName) → AllByRecursion (λ (t : Token). P t.place) (new_tokens renamings)
    → renamed_to renamings name ≡ Some y → P y.place
of_renamed P [] name y f h = cc
of_renamed P (r ∷ renamings) name y f h =
    placed_if P (bytes_eq (spelled_name r.old) name) r.new y (renamed_to renamings name) f.0 (of_renamed P renamings name y f.1) h

apart_if : (p q : Bool) (r : Renaming) (renamings : List Renaming) (a b : List ℕ) (x y : PlacedName) → bytes_eq (spelled_name r.old) a ≡ p → bytes_eq (spelled_name r.old) b ≡ q
    → bytes_eq a b ≡ false → AllByRecursion (λ (later : Token). is_earlier r.new.place later.place ≡ true) (new_tokens renamings)
    → (renamed_to renamings a ≡ Some x → renamed_to renamings b ≡ Some y → AreApart x.place y.place)
    → (if p then Some (placed_name r.new) else renamed_to renamings a) ≡ Some x → (if q then Some (placed_name r.new) else renamed_to renamings b) ≡ Some y
    → AreApart x.place y.place
apart_if true true r renamings a b x y e g n o f h k =
    absurd (true≢false (sym (bytes_are a b (sym (same_bytes (spelled_name r.old) a e) ∙ same_bytes (spelled_name r.old) b g)) ∙ n))
apart_if true false r renamings a b x y e g n o f h k =
    inl (subst (λ (z : PlacedName). is_earlier z.place y.place ≡ true) (same_item (placed_name r.new) x h) (of_renamed (λ place. is_earlier r.new.place place ≡ true) renamings b y o k))
apart_if false true r renamings a b x y e g n o f h k =
    inr (subst (λ (z : PlacedName). is_earlier z.place x.place ≡ true) (same_item (placed_name r.new) y k) (of_renamed (λ place. is_earlier r.new.place place ≡ true) renamings a x o h))
apart_if false false r renamings a b x y e g n o f h k = f h k

apart : (renamings : List Renaming) (a b : List ℕ) (x y : PlacedName) → StandInOrder (new_tokens renamings) → bytes_eq a b ≡ false → renamed_to renamings a ≡ Some x
    → renamed_to renamings b ≡ Some y → AreApart x.place y.place
apart [] a b x y o n h k = cc
apart (r ∷ renamings) a b x y o n h k =
    apart_if (bytes_eq (spelled_name r.old) a) (bytes_eq (spelled_name r.old) b) r renamings a b x y refl refl n o.0 (apart renamings a b x y o.1 n) h k

one_place_if : (b : Bool) (place : Place) → b ≡ true → (if b then place ∷ [] else []) ≡ [] → true ≡ false
one_place_if true place e h = cc
one_place_if false place e h = sym e

-- a name that stands behind another one clashes
clashes : (all : List OutputName) (n o : OutputName) (place : Place) → StandsAmong all o → bytes_eq o.name n.name ≡ true → is_behind place o.new_place ≡ true
    → clash_at_new_name all n (Some place) ≡ [] → true ≡ false
clashes all n o place m e b h =
    let test = λ (x : OutputName). bytes_eq x.name n.name && is_behind place x.new_place in
    one_place_if (list_any test all) place (among_any test all o m (and_from (bytes_eq o.name n.name) (is_behind place o.new_place) e b)) h

turned_true : (a b : List ℕ) → bytes_eq a b ≡ true → bytes_eq b a ≡ true
turned_true a b h = bytes_are b a (sym (same_bytes a b h))

module _ (renamings : List Renaming) (order : StandInOrder (new_tokens renamings)) (all : List OutputName) where
  two_names : (a b : List ℕ) (x y : Option PlacedName) → renamed_to renamings a ≡ x → renamed_to renamings b ≡ y → bytes_eq a b ≡ false
      → StandsAmong all (name_if_renamed a x) → StandsAmong all (name_if_renamed b y) → clashing_name all (name_if_renamed a x) ≡ [] → clashing_name all (name_if_renamed b y) ≡ []
      → bytes_eq (name_if_renamed a x).name (name_if_renamed b y).name ≡ true → true ≡ false
  two_names a b None None e g n ma mb ca cb h = sym h ∙ n
  two_names a b (Some x) None e g n ma mb ca cb h = clashes all (name_if_renamed a (Some x)) (name_if_renamed b None) x.place mb (turned_true x.name b h) refl ca
  two_names a b None (Some y) e g n ma mb ca cb h = clashes all (name_if_renamed b (Some y)) (name_if_renamed a None) y.place ma h refl cb
  two_names a b (Some x) (Some y) e g n ma mb ca cb h = elim (apart renamings a b x y order n e g) [
    | inl earlier ↦ clashes all (name_if_renamed b (Some y)) (name_if_renamed a (Some x)) y.place ma h earlier cb
    | inr earlier ↦ clashes all (name_if_renamed a (Some x)) (name_if_renamed b (Some y)) x.place mb (turned_true x.name y.name h) earlier ca
  ]

module _ (variables : List typed.Variable) (o : source_output.OutputTable) (order : StandInOrder (new_tokens (renamings_of o))) (left : List (List ℕ))
    (once : from_each (clashing_name (map (output_name (renamings_of o)) left)) (map (output_name (renamings_of o)) left) ≡ []) where
  abbrev all_names : List OutputName
  all_names = map (output_name (renamings_of o)) left

  -- the columns of these names, as those of a table
  abbrev columns_of : List (List ℕ) → Columns
  columns_of names = map (λ (c : OutputColumn). record { name = c.name; ty = c.ty }) (map (made_column variables (renamings_of o)) names)

  clash_free : (name : List ℕ) → StandsAmong left name → clashing_name all_names (output_name (renamings_of o) name) ≡ []
  clash_free name m =
      of_among (λ (n : OutputName). clashing_name all_names n ≡ []) all_names (output_name (renamings_of o) name) (each_empty (clashing_name all_names) all_names once)
      (mapped_among (output_name (renamings_of o)) left name m)

  -- two names become two names
  names_differ : (a b : List ℕ) → StandsAmong left a → StandsAmong left b → bytes_eq a b ≡ false
      → bytes_eq (output_name (renamings_of o) a).name (output_name (renamings_of o) b).name ≡ false
  names_differ a b ma mb n =
      let renamings = renamings_of o in
      false_from_ne_true (bytes_eq (output_name renamings a).name (output_name renamings b).name) (λ h.
      true≢false (two_names renamings order all_names a b (renamed_to renamings a) (renamed_to renamings b) refl refl n
      (mapped_among (output_name renamings) left a ma) (mapped_among (output_name renamings) left b mb) (clash_free a ma) (clash_free b mb) h))

  no_column : (a : List ℕ) (rest : List (List ℕ)) → StandsAmong left a → ((name : List ℕ) → StandsAmong rest name → StandsAmong left name) → is_listed rest a ≡ false
      → has_column (output_name (renamings_of o) a).name (columns_of rest) ≡ false
  no_column a [] m f h = refl
  no_column a (b ∷ rest) m f h =
      let p = or_parts (bytes_eq b a) (is_listed rest a) h in
      or_from (bytes_eq (output_name (renamings_of o) b).name (output_name (renamings_of o) a).name) (has_column (output_name (renamings_of o) a).name (columns_of rest))
      (names_differ b a (f b (inl refl)) m p.0) (no_column a rest m (λ name k. f name (inr k)) p.1)

  columns_distinct_from : (names : List (List ℕ)) → ((name : List ℕ) → StandsAmong names name → StandsAmong left name) → are_distinct names ≡ true
      → distinct_names (columns_of names) ≡ true
  columns_distinct_from [] f h = refl
  columns_distinct_from (a ∷ rest) f h =
      let p = and_parts (not (is_listed rest a)) (are_distinct rest) h in
      and_from (not (has_column (output_name (renamings_of o) a).name (columns_of rest))) (distinct_names (columns_of rest))
      (not_from_false (has_column (output_name (renamings_of o) a).name (columns_of rest))
      (no_column a rest (f a (inl refl)) (λ name k. f name (inr k)) (not_true (is_listed rest a) p.0)))
      (columns_distinct_from rest (λ name k. f name (inr k)) p.1)

  pub columns_distinct : are_distinct left ≡ true → distinct_names (columns_of left) ≡ true
  columns_distinct h = columns_distinct_from left (λ name m. m) h

  known_bounds : (found : Option Ty) → ((ty : Ty) → found ≡ Some ty → in_bounds ty ≡ true) → in_bounds (type_or_bigint found) ≡ true
  known_bounds None f = refl
  known_bounds (Some ty) f = f ty refl

  pub columns_bounded : AreInBounds variables → (names : List (List ℕ)) → types_in_bounds (columns_of names) ≡ true
  columns_bounded b [] = refl
  columns_bounded b (name ∷ names) =
      and_from (in_bounds (type_or_bigint (type_in variables name))) (types_in_bounds (columns_of names))
      (known_bounds (type_in variables name) (bounded_in variables b name)) (columns_bounded b names)

-- ---- the order of new names

renaming_within : (r : Renaming) → Within (r.new ∷ []) (renaming_spelling r)
renaming_within r = passed r.old (passed (equals_mark r.equals) (itself_within (r.new ∷ [])))

one_each_renaming : (renamings : List Renaming) → from_each (λ (r : Renaming). r.new ∷ []) renamings ≡ new_tokens renamings
one_each_renaming [] = refl
one_each_renaming (r ∷ renamings) = ap (λ ts. r.new ∷ ts) (one_each_renaming renamings)

renamings_within : (renamings : List Renaming) → Within (new_tokens renamings) (all_spelled renaming_spelling renamings)
renamings_within renamings =
    subst (λ ts. Within ts (all_spelled renaming_spelling renamings)) (one_each_renaming renamings)
    (parts_within (λ (r : Renaming). r.new ∷ []) renaming_spelling renaming_within renamings)

option_within : (x : OutputOption) → Within (new_tokens (renamings_in x)) (option_spelling x)
option_within (option.Listed keyword equals opening listed closing) = none_within (option_spelling (option.Listed keyword equals opening listed closing))
option_within (option.Overwrite keyword equals answer) = none_within (option_spelling (option.Overwrite keyword equals answer))
option_within (option.Rename keyword equals opening renamings closing) =
    passed keyword (passed (equals_mark equals) (passed (open_mark opening) (before_others (close_mark closing ∷ []) (renamings_within renamings))))

mapped_each : (options : List OutputOption) → from_each (λ (x : OutputOption). new_tokens (renamings_in x)) options ≡ new_tokens (from_each renamings_in options)
mapped_each [] = refl
mapped_each (x ∷ options) =
    ap (λ ts. new_tokens (renamings_in x) ++ ts) (mapped_each options) ∙ sym (map_append (λ (r : Renaming). r.new) (renamings_in x) (from_each renamings_in options))

options_within : (options : Option OutputOptions) → Within (new_tokens (from_each renamings_in (options_of options))) (if_any options_spelling options)
options_within None = none_within []
options_within (Some options) =
    subst (λ ts. Within ts (options_spelling options)) (mapped_each options.list)
    (passed (open_mark options.opening) (before_others (close_mark options.closing ∷ [])
    (parts_within (λ (x : OutputOption). new_tokens (renamings_in x)) option_spelling option_within options.list)))

pub renamings_in_order : (o : source_output.OutputTable) → StandInOrder (output_spelling o) → StandInOrder (new_tokens (renamings_of o))
renamings_in_order o order = order_within (passed o.table (options_within o.options)) order

pub outputs_in_order : (outputs : List source_output.OutputTable) → StandInOrder (all_spelled output_spelling outputs)
    → AllByRecursion (λ (o : source_output.OutputTable). StandInOrder (output_spelling o)) outputs
outputs_in_order [] order = tt
outputs_in_order (o ∷ outputs) order = (
  order_within (before_others (all_spelled output_spelling outputs) (itself_within (output_spelling o))) order,
  outputs_in_order outputs (order_within (behind_others (output_spelling o) (itself_within (all_spelled output_spelling outputs))) order),
)
