-- The tables that a unit mentions: its reading statement reads them, and its hash objects begin with them.
use Rattle.std.proofs.Common.{◌≡◌, ℕ, Bool, true, false, ◌||◌, List, [], ◌∷◌, ◌++◌, map, Option, Some, None, bytes_eq, refl, sym, ap, ◌∙◌}
use Rattle.std.specs.Prelude.{cond}
use Rattle.std.specs.List.{AllByRecursion}
use Rattle.std.proofs.lemmas.Slice.Eq.{bytes_eq-Decides}
use Rattle.ds2_token.specs.declared.token.Token.{Token}
use Rattle.ds2_tree.specs.Globals.{Method, GlobalItem, Declared, Listed, Defined}
use Rattle.ds2_tree.specs.declared.globals.Declaration.TheVariants as declaration
use Rattle.ds2_tree.specs.declared.readings.Input as source_input
use Rattle.ds2_tree.specs.declared.readings.Reading as source_reading
use Rattle.ds2_meaning.specs.ProgramTree.{is_listed}
use Rattle.ds2_names.specs.NameRules.{from_each}
use Rattle.ds2_names.specs.SourceLimits.{first_mentions, named_by_text, tables_in_item}
use Rattle.ds2_names.specs.SourceUnit.{AnyPackage, AnyThread, HashIterator, HashObject, InstanceOf, PlacedName, SourceInstance, placed_name, names_alone, sized_table, source_instances, source_methods, spelled_name, spelled_text, tables_of_reading}
use Rattle.ds2_names.specs.Uses.{method_named}

-- ---- names that are mentioned

pub or_left : (a b : Bool) → a ≡ true → (a || b) ≡ true
or_left a b t = ap (λ c. c || b) t

pub or_right : (a b : Bool) → b ≡ true → (a || b) ≡ true
or_right true b t = refl
or_right false b t = t

-- a name that is listed in both of three lists' ends
or_swap : (a b c : Bool) → ((a || b) || c) ≡ true → (b || (a || c)) ≡ true
or_swap true b c t = or_right b true refl
or_swap false b c t = t

pub listed_behind : (name : List ℕ) (xs ys : List PlacedName) → is_listed (names_alone ys) name ≡ true → is_listed (names_alone (xs ++ ys)) name ≡ true
listed_behind name [] ys t = t
listed_behind name (x ∷ xs) ys t = or_right (bytes_eq x.name name) (is_listed (names_alone (xs ++ ys)) name) (listed_behind name xs ys t)

pub listed_before : (name : List ℕ) (xs ys : List PlacedName) → is_listed (names_alone xs) name ≡ true → is_listed (names_alone (xs ++ ys)) name ≡ true
listed_before name [] ys t = absurd (cc t)
listed_before name (x ∷ xs) ys t = by (bytes_eq x.name name) t (λ h. listed_before name xs ys h)
  where
    by : (b : Bool) → (b || is_listed (names_alone xs) name) ≡ true → (is_listed (names_alone xs) name ≡ true → is_listed (names_alone (xs ++ ys)) name ≡ true)
        → (b || is_listed (names_alone (xs ++ ys)) name) ≡ true
    by true t later = refl
    by false t later = later t

-- a name is among those that were seen, or those of tables at their first mention behind them
abbrev pub IsFound : List ℕ → List PlacedName → List (List ℕ) → Type 0
IsFound name tables seen = (is_listed seen name || is_listed (names_alone (first_mentions seen tables)) name) ≡ true

-- a name among tables is among those that were seen or those at their first mention
pub listed_first : (name : List ℕ) (seen : List (List ℕ)) (tables : List PlacedName) → is_listed (names_alone tables) name ≡ true
    → (is_listed seen name || is_listed (names_alone (first_mentions seen tables)) name) ≡ true
listed_first name seen [] h = absurd (cc h)
listed_first name seen (t ∷ tables) h = by (bytes_eq t.name name) refl (is_listed seen t.name) refl h (λ k. listed_first name seen tables k) (λ k. listed_first name (t.name ∷ seen) tables k)
  where
    by : (same : Bool) → bytes_eq t.name name ≡ same → (known : Bool) → is_listed seen t.name ≡ known → (same || is_listed (names_alone tables) name) ≡ true
        → (is_listed (names_alone tables) name ≡ true → IsFound name tables seen) → (is_listed (names_alone tables) name ≡ true → IsFound name tables (t.name ∷ seen))
        → (is_listed seen name || is_listed (names_alone (cond known (first_mentions seen tables) (t ∷ first_mentions (t.name ∷ seen) tables))) name) ≡ true
    by true same true known h again more =
        or_left (is_listed seen name) (is_listed (names_alone (first_mentions seen tables)) name) (ap (λ n. is_listed seen n) (sym ((bytes_eq-Decides t.name name).0 same)) ∙ known)
    by true same false known h again more =
        or_right (is_listed seen name) (bytes_eq t.name name || is_listed (names_alone (first_mentions (t.name ∷ seen) tables)) name)
        (or_left (bytes_eq t.name name) (is_listed (names_alone (first_mentions (t.name ∷ seen) tables)) name) same)
    by false same true known h again more = again h
    by false same false known h again more =
        or_swap (bytes_eq t.name name) (is_listed seen name) (is_listed (names_alone (first_mentions (t.name ∷ seen) tables)) name) (more h)

-- each of these tables is listed among others by its name
abbrev pub AreAmong : List PlacedName → List PlacedName → Type 0
AreAmong all tables = AllByRecursion (λ (t : PlacedName). is_listed (names_alone all) t.name ≡ true) tables

among_behind : (own all tables : List PlacedName) → AreAmong all tables → AreAmong (own ++ all) tables
among_behind own all [] are = tt
among_behind own all (t ∷ tables) are = (listed_behind t.name own all are.0, among_behind own all tables are.1)

among_before : (own all : List PlacedName) → AreAmong own own → AreAmong (own ++ all) own
among_before own all are = by own are
  where
    by : (tables : List PlacedName) → AreAmong own tables → AreAmong (own ++ all) tables
    by [] are = tt
    by (t ∷ tables) are = (listed_before t.name own all are.0, by tables are.1)

pub bytes_same : (name : List ℕ) → bytes_eq name name ≡ true
bytes_same name = (bytes_eq-Decides name name).1 refl

among_itself : (own : List PlacedName) → AreAmong own own
among_itself [] = tt
among_itself (t ∷ own) =
    (or_left (bytes_eq t.name t.name) (is_listed (names_alone own) t.name) (bytes_same t.name), among_behind (t ∷ []) own own (among_itself own))

-- ---- the method that reads

-- the tables of a reading statement, as names at their places
abbrev pub tables_named : Option source_reading.Reading → List PlacedName
tables_named reading = map (λ (i : source_input.Input). placed_name i.table) (tables_of_reading reading)

-- a method that is there has its reading statement over tables among these
abbrev pub ReadsAmong : List PlacedName → Option Method → Type 0
ReadsAmong all None = Unit {0}
ReadsAmong all (Some m) = AreAmong all (tables_named m.reading)

reads_behind : (own all : List PlacedName) (m : Option Method) → ReadsAmong all m → ReadsAmong (own ++ all) m
reads_behind own all None are = tt
reads_behind own all (Some m) are = among_behind own all (tables_named m.reading) are

pub method_reads : (globals : List GlobalItem) → (name : List ℕ) → ReadsAmong (from_each tables_in_item globals) (method_named (source_methods globals) name)
method_reads [] name = tt
method_reads (Declared (declaration.Variables v) ∷ globals) name = method_reads globals name
method_reads (Declared (declaration.Instance a b c d e f) ∷ globals) name = method_reads globals name
method_reads (Declared (declaration.Hash a b c d e f g h i j k) ∷ globals) name =
    reads_behind (named_by_text (sized_table i)) (from_each tables_in_item globals) (method_named (source_methods globals) name) (method_reads globals name)
method_reads (Declared (declaration.Hiter a b c d e f g h) ∷ globals) name = method_reads globals name
method_reads (Declared (declaration.Thread a b c d e) ∷ globals) name = method_reads globals name
method_reads (Listed keyword names end ∷ globals) name = method_reads globals name
method_reads (Defined m ∷ globals) name =
    by (bytes_eq (spelled_name m.name) name) (method_reads globals name)
  where
    by : (b : Bool) → ReadsAmong (from_each tables_in_item globals) (method_named (source_methods globals) name)
        → ReadsAmong (tables_named m.reading ++ from_each tables_in_item globals) (cond b (Some m) (method_named (source_methods globals) name))
    by true others = among_before (tables_named m.reading) (from_each tables_in_item globals) (among_itself (tables_named m.reading))
    by false others = reads_behind (tables_named m.reading) (from_each tables_in_item globals) (method_named (source_methods globals) name) others

-- ---- the tables of hash objects

-- the table of a hash object, where it has one, is listed among tables
abbrev pub IsTableAmong : List PlacedName → Option Token → Type 0
IsTableAmong all None = Unit {0}
IsTableAmong all (Some t) = is_listed (names_alone all) (spelled_text t) ≡ true

abbrev pub LoadsAmong : List PlacedName → InstanceOf → Type 0
LoadsAmong all (HashObject keys items table) = IsTableAmong all table
LoadsAmong all _ = Unit {0}

-- so are those of all instances
abbrev pub InstancesAmong : List PlacedName → List SourceInstance → Type 0
InstancesAmong all instances = AllByRecursion (λ (i : SourceInstance). LoadsAmong all i.sort) instances

table_behind : (own all : List PlacedName) (table : Option Token) → IsTableAmong all table → IsTableAmong (own ++ all) table
table_behind own all None is = tt
table_behind own all (Some t) is = listed_behind (spelled_text t) own all is

loads_behind : (own all : List PlacedName) (sort : InstanceOf) → LoadsAmong all sort → LoadsAmong (own ++ all) sort
loads_behind own all (AnyPackage package' arguments) is = tt
loads_behind own all (HashObject keys items table) is = table_behind own all table is
loads_behind own all (HashIterator hash) is = tt
loads_behind own all (AnyThread thread) is = tt

instances_behind : (own all : List PlacedName) (instances : List SourceInstance) → InstancesAmong all instances → InstancesAmong (own ++ all) instances
instances_behind own all [] are = tt
instances_behind own all (i ∷ instances) are = (loads_behind own all i.sort are.0, instances_behind own all instances are.1)

own_table_among : (table : Option Token) (all : List PlacedName) → IsTableAmong (named_by_text table ++ all) table
own_table_among None all = tt
own_table_among (Some t) all = or_left (bytes_eq (spelled_text t) (spelled_text t)) (is_listed (names_alone all) (spelled_text t)) (bytes_same (spelled_text t))

pub instances_load : (globals : List GlobalItem) → InstancesAmong (from_each tables_in_item globals) (source_instances globals)
instances_load [] = tt
instances_load (Declared (declaration.Variables v) ∷ globals) = instances_load globals
instances_load (Declared (declaration.Instance a b c d e f) ∷ globals) = (tt, instances_load globals)
instances_load (Declared (declaration.Hash a b c d e f g h i j k) ∷ globals) =
    (own_table_among (sized_table i) (from_each tables_in_item globals), instances_behind (named_by_text (sized_table i)) (from_each tables_in_item globals) (source_instances globals) (instances_load globals))
instances_load (Declared (declaration.Hiter a b c d e f g h) ∷ globals) = (tt, instances_load globals)
instances_load (Declared (declaration.Thread a b c d e) ∷ globals) = (tt, instances_load globals)
instances_load (Listed keyword names end ∷ globals) = instances_load globals
instances_load (Defined m ∷ globals) = instances_behind (tables_named m.reading) (from_each tables_in_item globals) (source_instances globals) (instances_load globals)
