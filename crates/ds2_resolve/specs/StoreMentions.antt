-- The tables of the store that a unit mentions, and which of them for the first time.
use Rattle.std.specs.Prelude.{ℕ, Bool, ◌||◌, nat_eq, bytes_eq, if◌then◌else◌, List, [], ◌∷◌, Option, Some, None}
use Rattle.std.specs.HashMap.{HashMap}
use Rattle.ds2_token.specs.declared.token.Token.{Token}
use Rattle.ds2_tree.specs.Globals.{GlobalItem, Declared, Listed, Defined}
use Rattle.ds2_tree.specs.declared.globals.Declaration.TheVariants as declaration
use Rattle.ds2_tree.specs.declared.readings.Input as source_input
use Rattle.ds2_names.specs.NameRules.{from_each}
use Rattle.ds2_names.specs.SourceUnit.{PlacedName, placed_name, spelled_name, spelled_text, sized_table, tables_of_reading}
use Rattle.ds2_resolve.specs.TableMakers.{maker_in}

-- no program makes a table
abbrev pub is_of_store : {S : Type 0} → HashMap (List ℕ) ℕ S → List ℕ → Bool
is_of_store makers name = nat_eq (maker_in makers name) 0

-- the table of an input, where it is one of the store
abbrev pub stored_table : (List ℕ → Bool) → source_input.Input → List PlacedName
stored_table stored input = if stored (spelled_name input.table) then placed_name input.table ∷ [] else []

-- the table of a text, where it is one of the store
abbrev pub stored_text : (List ℕ → Bool) → Token → List PlacedName
stored_text stored text = if stored (spelled_text text) then record { name = spelled_text text; place = text.place } ∷ [] else []

-- the table of a hash object, where it has one of the store
abbrev pub stored_in_hash : (List ℕ → Bool) → Option Token → List PlacedName
stored_in_hash stored None = []
stored_in_hash stored (Some text) = stored_text stored text

-- the tables of the store that a part of a unit names: that of a hash object, and those of the reading statement of a method
abbrev pub stored_in_global : (List ℕ → Bool) → GlobalItem → List PlacedName
stored_in_global stored (Defined m) = from_each (stored_table stored) (tables_of_reading m.reading)
stored_in_global stored (Declared (declaration.Hash keyword package_keyword hash_keyword name opening keys comma items size closing end)) = stored_in_hash stored (sized_table size)
stored_in_global stored (Declared d) = []
stored_in_global stored (Listed keyword names end) = []

-- each table at its first mention, where a test tells those that were seen before
abbrev pub first_by : (List ℕ → Bool) → List PlacedName → List PlacedName
first_by seen [] = []
first_by seen (t ∷ tables) = if seen t.name then first_by seen tables else t ∷ first_by (λ name. bytes_eq t.name name || seen name) tables
