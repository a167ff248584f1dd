-- Which variables become columns of an output, and under which names, by tables of names.
use Rattle.std.specs.Prelude.{◌≡◌, ℕ, Bool, true, false, not, ◌&&◌, ◌||◌, nat_eq, bytes_eq, codes, if◌then◌else◌, length, List, [], ◌∷◌, ◌++◌, map, filter, Option, Some, None}
use Rattle.std.specs.Cmp.Lexicographic.{pointwise}
use Rattle.std.specs.HashMap.{HashMap, get}
use Rattle.std.specs.HashSet.{contains}
use Rattle.ds2_base.specs.declared.place.Place.{Place}
use Rattle.ds2_tree.specs.Globals.{GlobalItem}
use Rattle.ds2_tree.specs.declared.units.OutputOption.{OutputOption}
use Rattle.ds2_tree.specs.declared.units.OutputTable as source_output
use Rattle.ds2_tree.specs.declared.units.Renaming.{Renaming}
use Rattle.ds2_names.specs.NameRules.{from_each, place_unless, options_of, listed_by, listed_in_statements, renamings_of, clashing_name, clashing_columns, is_behind, renamed_to, OutputName, name_if_renamed}
use Rattle.ds2_names.specs.SourceUnit.{SourceNames, PlacedName, placed_name, names_alone, spelled_name, is_earlier}
use Rattle.ds2_names.specs.UnitRules.{output_without_columns}
use Rattle.ds2_given_names.specs.declared.lists.KeepDrop.{KeepDrop}
use Rattle.ds2_scope.specs.NameSets.{HasNames}

-- ---- `keep` and `drop`

-- a list has names
abbrev pub is_given : List (List ℕ) → Bool
is_given [] = false
is_given (name ∷ names) = true

-- the tables of the names that `keep` and `drop` list
pub record AreLists (l : KeepDrop) (keeps drops : List (List ℕ)) : Type 0 where
  pub has_keep : l.has_keep ≡ is_given keeps
  pub kept : HasNames l.kept keeps
  pub dropped : HasNames l.dropped drops

-- tables let a name through
abbrev pub passes_lists : KeepDrop → List ℕ → Bool
passes_lists l name = (not l.has_keep || contains (pointwise nat_eq) l.kept name) && not (contains (pointwise nat_eq) l.dropped name)

-- the tables of the statements of a unit
abbrev pub AreStatementLists : KeepDrop → List GlobalItem → Type 0
AreStatementLists l globals = AreLists l (listed_in_statements (codes "keep") globals) (listed_in_statements (codes "drop") globals)

-- the tables of the options of an output
abbrev pub AreOptionLists : KeepDrop → List OutputOption → Type 0
AreOptionLists l options = AreLists l (from_each (listed_by (codes "keep")) options) (from_each (listed_by (codes "drop")) options)

-- ---- renamings

-- the new name that a renaming gives to this one
abbrev pub new_name_of : List ℕ → Renaming → Option PlacedName
new_name_of name r = if bytes_eq (spelled_name r.old) name then Some (placed_name r.new) else None

-- a table has for each old name the first new one
abbrev pub HasNewNames : {S : Type 0} → HashMap (List ℕ) PlacedName S → List Renaming → Type 0
HasNewNames news renamings = (name : List ℕ) → get (pointwise nat_eq) news name ≡ renamed_to renamings name

-- the columns of an output that come of variables
abbrev pub columns_by : {S : Type 0} → KeepDrop → KeepDrop → HashMap (List ℕ) PlacedName S → List PlacedName → List OutputName
columns_by statements options news variables =
    map (λ name. name_if_renamed name (get (pointwise nat_eq) news name)) (filter (λ name. passes_lists statements name && passes_lists options name) (names_alone variables))

-- ---- two columns of one name

-- the earlier of two places of new names, where a name that is not new stands first
abbrev pub earlier_new : Option Place → Option Place → Option Place
earlier_new None other = None
earlier_new (Some a) None = None
earlier_new (Some a) (Some b) = if is_earlier b a then Some b else Some a

-- likewise, where there are some names
abbrev pub first_new : Option (Option Place) → Option (Option Place) → Option (Option Place)
first_new None other = other
first_new (Some a) None = Some a
first_new (Some a) (Some b) = Some (earlier_new a b)

-- the place of a new name, where the name is this one
abbrev pub new_if_named : List ℕ → OutputName → Option (Option Place)
new_if_named name n = if bytes_eq n.name name then Some n.new_place else None

-- the earliest place at which columns of an output have this name
abbrev pub first_new_of : List OutputName → List ℕ → Option (Option Place)
first_new_of [] name = None
first_new_of (n ∷ names) name = first_new (new_if_named name n) (first_new_of names name)

-- a new name stands behind another column of its name, where there is one
abbrev pub is_new_behind : Option (Option Place) → Place → Bool
is_new_behind None place = false
is_new_behind (Some first) place = is_behind place first

-- a table has for each name of columns the earliest place
abbrev pub HasFirstNew : {S : Type 0} → HashMap (List ℕ) (Option Place) S → List OutputName → Type 0
HasFirstNew firsts names = (name : List ℕ) → get (pointwise nat_eq) firsts name ≡ first_new_of names name

-- the later ones of two columns of one name
abbrev pub clashes : List OutputName → List Place
clashes all = from_each (clashing_name all) all

-- ---- an output

-- an output is `_null_`
abbrev pub is_null_output : source_output.OutputTable → Bool
is_null_output o = bytes_eq (spelled_name o.table) (codes "_null_")

-- the later ones of two columns of one name of an output; `_null_` has no columns
abbrev pub clashing_in : SourceNames → source_output.OutputTable → List Place
clashing_in names o = if is_null_output o then [] else clashing_columns names o
