-- What the instances of a unit are, by their names.
use Rattle.std.specs.Prelude.{◌≡◌, ℕ, nat_eq, ◌++◌, bytes_eq, if◌then◌else◌, List, [], map, Option, Some, None}
use Rattle.std.specs.Cmp.Lexicographic.{pointwise}
use Rattle.std.specs.HashMap.{HashMap, get}
use Rattle.std.specs.Option.{option_map}
use Rattle.ds2_token.specs.declared.token.Token.{Token}
use Rattle.ds2_tree.specs.Globals.{GlobalItem, Declared, Listed, Defined}
use Rattle.ds2_tree.specs.declared.globals.BracketedName.{BracketedName}
use Rattle.ds2_tree.specs.declared.globals.Declaration.TheVariants as declaration
use Rattle.ds2_names.specs.SourceUnit.{spelled_name, spelled_text, bracketed_tokens, InstanceOf, AnyPackage, HashObject, HashIterator, AnyThread, SourceInstance, instance_named}
use Rattle.ds2_calls.specs.declared.instances.Sort.{Sort}
use Rattle.ds2_calls.specs.declared.instances.Sort.TheVariants as sort

-- the names between brackets
abbrev pub bracketed_names : List BracketedName → List (List ℕ)
bracketed_names names = map (λ (n : BracketedName). spelled_name n.name) names

-- what an instance is one of, by names
abbrev pub sort_of : InstanceOf → Sort
sort_of (AnyPackage package' arguments) = sort.Package (spelled_name package')
sort_of (HashObject keys items table) = sort.Hash (map spelled_name (keys ++ items))
sort_of (HashIterator hash) = sort.Iterator (spelled_text hash)
sort_of (AnyThread thread) = sort.Thread (spelled_name thread)

-- what an instance is one of, where there is an instance
abbrev pub sort_if_any : Option SourceInstance → Option Sort
sort_if_any o = option_map (λ (i : SourceInstance). sort_of i.sort) o

-- what a table of instances tells by their names
abbrev pub SortsByName : Type 0
SortsByName = List ℕ → Option Sort

-- what the first of these instances is one of that has a name
abbrev pub sort_named : List SourceInstance → SortsByName
sort_named instances name = sort_if_any (instance_named instances name)

-- the key and data variables of a hash object
abbrev pub variables_in_sort : Option Sort → List (List ℕ)
variables_in_sort None = []
variables_in_sort (Some (sort.Package name)) = []
variables_in_sort (Some (sort.Hash variables)) = variables
variables_in_sort (Some (sort.Iterator hash)) = []
variables_in_sort (Some (sort.Thread name)) = []

-- the key and data variables of the hash object that an instance is or goes over
abbrev pub variables_of_sort : SortsByName → Option Sort → List (List ℕ)
variables_of_sort sorts None = []
variables_of_sort sorts (Some (sort.Package name)) = []
variables_of_sort sorts (Some (sort.Hash variables)) = variables
variables_of_sort sorts (Some (sort.Iterator hash)) = variables_in_sort (sorts hash)
variables_of_sort sorts (Some (sort.Thread name)) = []

-- those of the instance of a name
abbrev pub variables_by_name : SortsByName → List ℕ → List (List ℕ)
variables_by_name sorts name = variables_of_sort sorts (sorts name)

-- what an instance is one of, where it has this name
abbrev pub sort_if_spelled : List ℕ → Token → Sort → Option Sort
sort_if_spelled name t s = if bytes_eq (spelled_name t) name then Some s else None

-- what the instance of this name is one of that a part of a unit declares
abbrev pub sort_in : GlobalItem → SortsByName
sort_in (Declared (declaration.Variables v)) other = None
sort_in (Declared (declaration.Instance keyword package_keyword package' name arguments end)) other = sort_if_spelled other name (sort.Package (spelled_name package'))
sort_in (Declared (declaration.Hash keyword package_keyword hash_keyword name opening keys comma items size closing end)) other =
    sort_if_spelled other name (sort.Hash (map spelled_name (bracketed_tokens keys ++ bracketed_tokens items)))
sort_in (Declared (declaration.Hiter keyword package_keyword hiter_keyword name opening hash closing end)) other = sort_if_spelled other name (sort.Iterator (spelled_text hash))
sort_in (Declared (declaration.Thread keyword thread_keyword thread name end)) other = sort_if_spelled other name (sort.Thread (spelled_name thread))
sort_in (Listed keyword names end) other = None
sort_in (Defined m) other = None

-- a table has for each name what the first instance of that name is one of
abbrev pub HasSorts : {S : Type 0} → HashMap (List ℕ) Sort S → List SourceInstance → Type 0
HasSorts table instances = (name : List ℕ) → get (pointwise nat_eq) table name ≡ sort_named instances name
