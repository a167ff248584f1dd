-- The limits over a whole source, what is known before each of its units, and the refusal of the names of a unit.
use Rattle.std.specs.Prelude.{ℕ, ◌+◌, ◌-◌, max, Bool, not, nat_le, nat_lt, nat_eq, bytes_eq, codes, if◌then◌else◌, List, [], ◌∷◌, ◌++◌, length, map, filter, drop, Option, Some, None}
use Rattle.std.specs.Option.{option_map_or}
use Rattle.ds2_base.specs.declared.place.Place.{Place}
use Rattle.ds2_base.specs.declared.place.Refusal.{Refusal}
use Rattle.ds2_token.specs.declared.token.Token.{Token}
use Rattle.ds2_tree.specs.Globals.{GlobalItem, Declared, Listed, Defined}
use Rattle.ds2_tree.specs.Units.{SourcePart, Proc, Run, Quit, APackage, AThread, AData, package_spelling, source_spelling}
use Rattle.ds2_tree.specs.declared.globals.Declaration.TheVariants as declaration
use Rattle.ds2_tree.specs.declared.readings.Input as source_input
use Rattle.ds2_tree.specs.declared.units.OutputTable as source_output
use Rattle.ds2_names.specs.NameRules.{from_each, place_unless, columns_left}
use Rattle.ds2_meaning.specs.declared.readings.MentionedTable.{MentionedTable}
use Rattle.ds2_meaning.specs.ProgramTree.{is_listed}
use Rattle.ds2_names.specs.Refusals.{scope_rank, least_refusal, broken_at}
use Rattle.ds2_names.specs.SourceUnit.{TableColumns, spelled_name, spelled_text, PlacedName, placed_name, names_alone, source_methods, UnitKind, OfPackage, OfThread, OfData, UnitSource, unit_of_package, unit_of_thread, unit_of_data, InstanceOf, AnyPackage, AnyThread, SourceInstance, source_instances, sized_table, KnownPackage, KnownThread, KnownUnit, Packaged, Threaded, package_named, thread_named, tables_of_reading, names_of_unit}
use Rattle.ds2_names.specs.UnitRules.{broken_name_rules}
use Rattle.ds2_meaning.specs.declared.refusals.ScopeKind.{ScopeKind}
use Rattle.ds2_meaning.specs.declared.refusals.ScopeKind.TheVariants as kind

-- ---- the table that a mention means

-- among tables that data programs make, the last program's first, the first of this name; where there is none, the table of the store
abbrev pub mentioned_table : List MentionedTable → List ℕ → MentionedTable
mentioned_table [] name = record { name = name; maker = 0 }
mentioned_table (t ∷ made) name = if bytes_eq t.name name then t else mentioned_table made name

-- a name means a table of the store
abbrev pub is_stored : List MentionedTable → List ℕ → Bool
is_stored made name = nat_eq (mentioned_table made name).maker 0

-- ---- tables of the store

-- the text of a table, as a name at its place
abbrev pub named_by_text : Option Token → List PlacedName
named_by_text None = []
named_by_text (Some t) = record { name = spelled_text t; place = t.place } ∷ []

-- the tables that a part of a unit mentions, in order: the one of a hash object, and those of a reading statement, also of one that
-- stands where it may not stand
abbrev pub tables_in_item : GlobalItem → List PlacedName
tables_in_item (Declared (declaration.Hash keyword package_keyword hash_keyword name opening keys comma items size closing end)) = named_by_text (sized_table size)
tables_in_item (Declared _) = []
tables_in_item (Listed keyword names end) = []
tables_in_item (Defined m) = map (λ (i : source_input.Input). placed_name i.table) (tables_of_reading m.reading)

-- those that no data program before makes
abbrev pub tables_of_store : List MentionedTable → List GlobalItem → List PlacedName
tables_of_store made globals = filter (λ (t : PlacedName). is_stored made t.name) (from_each tables_in_item globals)

-- each name at its first mention, without those that were seen
abbrev pub first_mentions : List (List ℕ) → List PlacedName → List PlacedName
first_mentions seen [] = []
first_mentions seen (t ∷ tables) = if is_listed seen t.name then first_mentions seen tables else t ∷ first_mentions (t.name ∷ seen) tables

-- the tables that the outputs of the data program of this number make; `_null_` is none
abbrev pub tables_made_by : ℕ → List source_output.OutputTable → List MentionedTable
tables_made_by number outputs =
    map (λ name. record { name = name; maker = number })
    (filter (λ name. not (bytes_eq name (codes "_null_"))) (map (λ (o : source_output.OutputTable). spelled_name o.table) outputs))

-- a part of a source as a unit, where it is one
abbrev pub unit_of_part : SourcePart → Option UnitSource
unit_of_part (Proc keyword ds2 end) = None
unit_of_part (Run keyword end) = None
unit_of_part (Quit keyword end) = None
unit_of_part (APackage u) = Some (unit_of_package u)
unit_of_part (AThread u) = Some (unit_of_thread u)
unit_of_part (AData u) = Some (unit_of_data u)

-- what stands in a part of a source
abbrev pub globals_in : SourcePart → List GlobalItem
globals_in part = option_map_or (λ (u : UnitSource). u.globals) (unit_of_part part) []

-- the outputs that a part of a source has
abbrev pub outputs_in : SourcePart → List source_output.OutputTable
outputs_in part = option_map_or (λ (u : UnitSource). u.outputs) (unit_of_part part) []

-- one for a data program
abbrev pub data_programs_in : SourcePart → ℕ
data_programs_in (AData u) = 1
data_programs_in _ = 0

-- the tables that must come from the store and are first mentioned in a part of a source, behind data programs that make some
-- tables and behind mentions of others
abbrev pub first_mentioned : (made : List MentionedTable) → (seen : List (List ℕ)) → SourcePart → List PlacedName
first_mentioned made seen part = first_mentions seen (tables_of_store made (globals_in part))

-- the tables that so many data programs make and a part of a source behind them, those of the last one first
abbrev pub made_with : (programs : ℕ) → (made : List MentionedTable) → SourcePart → List MentionedTable
made_with programs made part = tables_made_by (programs + 1) (outputs_in part) ++ made

-- the tables that must come from the store, each at its first mention in parts of a source behind so many data programs, which make
-- some tables, and behind mentions of others
abbrev pub store_tables : (programs : ℕ) → (made : List MentionedTable) → (seen : List (List ℕ)) → List SourcePart → List PlacedName
store_tables programs made seen [] = []
store_tables programs made seen (part ∷ parts) =
    let own = first_mentioned made seen part in
    own ++ store_tables (programs + data_programs_in part) (made_with programs made part) (names_alone own ++ seen) parts

-- ---- what stands before a unit

-- what stands before a unit: packages and thread programs; how many data programs, and the tables that they make, those
-- of the last one first; the tables of the store that are mentioned; and the count of tokens, which begins with all tokens of the source and grows at each instance of a
-- package by the tokens of that package
pub record BeforeUnit : Type 0 where
  pub known : List KnownUnit
  pub data_programs : ℕ
  pub made : List MentionedTable
  pub mentioned : List (List ℕ)
  pub tokens : ℕ

-- before the first unit of a source
abbrev pub before_all : List SourcePart → BeforeUnit
before_all parts = record { known = []; data_programs = 0; made = []; mentioned = []; tokens = length (source_spelling parts) }

-- the tokens of the package that an instance is one of
abbrev pub tokens_of_sort : List KnownUnit → InstanceOf → ℕ
tokens_of_sort known (AnyPackage package' arguments) = option_map_or (λ (p : KnownPackage). p.tokens) (package_named known (spelled_name package')) 0
tokens_of_sort known _ = 0

-- the count of tokens behind instances
abbrev pub tokens_behind : List KnownUnit → ℕ → List SourceInstance → ℕ
tokens_behind known count [] = count
tokens_behind known count (i ∷ instances) = tokens_behind known (count + tokens_of_sort known i.sort) instances

-- how many thread programs the longest chain has that an instance brings
abbrev pub chain_of_sort : List KnownUnit → InstanceOf → ℕ
chain_of_sort known (AnyThread thread) = option_map_or (λ (t : KnownThread). t.chain) (thread_named known (spelled_name thread)) 0
chain_of_sort known _ = 0

-- how many thread programs the longest chain has that a thread program with these instances is the end of
abbrev pub chain_length : List KnownUnit → List SourceInstance → ℕ
chain_length known [] = 1
chain_length known (i ∷ instances) = max (chain_of_sort known i.sort + 1) (chain_length known instances)

-- what is known of a package, and of a thread program over tables, behind other units
abbrev pub known_part : TableColumns → List KnownUnit → SourcePart → List KnownUnit
known_part tables known (APackage u) =
    Packaged (record { name = spelled_name u.name; methods = source_methods u.globals; tokens = length (package_spelling u) }) ∷ []
known_part tables known (AThread u) =
    let names = names_of_unit tables known (unit_of_thread u) in
    Threaded (record {
      name = spelled_name u.name;
      parameters = names_alone names.parameters;
      columns = columns_left names [];
      chain = chain_length known names.instances;
    }) ∷ []
known_part tables known _ = []

-- what stands before the unit that follows a part of a source: what stood before the part, and the part
abbrev pub behind_part : TableColumns → SourcePart → BeforeUnit → BeforeUnit
behind_part tables part before = record {
  known = known_part tables before.known part ++ before.known;
  data_programs = before.data_programs + data_programs_in part;
  made = made_with before.data_programs before.made part;
  mentioned = names_alone (first_mentioned before.made before.mentioned part) ++ before.mentioned;
  tokens = tokens_behind before.known before.tokens (source_instances (globals_in part));
}

-- ---- the limits

-- how many packages stand before a unit
abbrev pub count_packages : List KnownUnit → ℕ
count_packages [] = 0
count_packages (Packaged p ∷ known) = count_packages known + 1
count_packages (Threaded t ∷ known) = count_packages known

-- how many thread programs stand before a unit
abbrev pub count_threads : List KnownUnit → ℕ
count_threads [] = 0
count_threads (Packaged p ∷ known) = count_threads known
count_threads (Threaded t ∷ known) = count_threads known + 1

-- how many units of a kind stand before a unit
abbrev pub units_before : BeforeUnit → UnitKind → ℕ
units_before before OfPackage = count_packages before.known
units_before before OfThread = count_threads before.known
units_before before OfData = before.data_programs

-- the place of a unit's name; of a data program that of its first output
abbrev pub unit_place : Option Token → List source_output.OutputTable → List Place
unit_place (Some t) outputs = t.place ∷ []
unit_place None [] = []
unit_place None (o ∷ outputs) = o.table.place ∷ []

-- 64 packages, 64 thread programs, 64 data programs
abbrev pub too_many_units : BeforeUnit → UnitSource → List Place
too_many_units before u = if nat_lt (units_before before u.kind) 64 then [] else unit_place u.name u.outputs

-- the instances behind which the count of tokens is above a limit
abbrev pub beyond_tokens : ℕ → List KnownUnit → ℕ → List SourceInstance → List Place
beyond_tokens limit known count [] = []
beyond_tokens limit known count (i ∷ instances) =
    let behind = count + tokens_of_sort known i.sort in place_unless (nat_le behind limit) i.name.place ++ beyond_tokens limit known behind instances

-- 1,000,000 tokens, those of the package of each instance counted once more
abbrev pub too_many_tokens : BeforeUnit → UnitSource → List Place
too_many_tokens before u = beyond_tokens 1000000 before.known before.tokens (source_instances u.globals)

-- 16 tables of the store, each at its first mention
abbrev pub too_many_tables : BeforeUnit → UnitSource → List Place
too_many_tables before u =
    map (λ (t : PlacedName). t.place) (drop (16 - length before.mentioned) (first_mentions before.mentioned (tables_of_store before.made u.globals)))

-- the places of a unit at which a limit over the source is passed
abbrev pub beyond_source_limits : BeforeUnit → UnitSource → List Place
beyond_source_limits before u = too_many_units before u ++ too_many_tokens before u ++ too_many_tables before u

-- ---- the refusal of the names of a unit

-- the refusal of the names of a unit of a source, where there is one: that of the least place, and at one place the first kind
abbrev pub scope_refusal : TableColumns → BeforeUnit → UnitSource → Option (Refusal ScopeKind)
scope_refusal tables before u =
    least_refusal scope_rank
    (broken_name_rules tables (names_of_unit tables before.known u) ++ broken_at kind.TooManyNames (beyond_source_limits before u))
