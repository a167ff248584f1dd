-- The reading of tables of the store, each with the columns that references of code have for it.
use Rattle.std.specs.Prelude.{◌≡◌, ℕ, Bool, true, false, bytes_eq, ◌||◌, List, [], ◌∷◌, map, Option, Result, Ok, Err}
use Rattle.std.specs.List.{AllByRecursion}
use Rattle.ds2_table.specs.Table.{Contents}
use Rattle.ds2_csv.specs.Reads.{reads}
use Rattle.ds2_csv.specs.declared.refusal.CsvRefusal.{CsvRefusal}
use Rattle.ds2_code.specs.declared.parts.TableReference.{TableReference}
use Rattle.ds2_outside.specs.Files.{Files}
use Rattle.ds2_answer.specs.declared.kinds.TheConstants.{TABLE_LIMIT}
use Rattle.ds2_answer.specs.Answer.{table_file}
use Rattle.ds2_answer.specs.HeldTables.{NamedTable}
use Rattle.ds2_answer.specs.Plan.{Plan, ReadsFile, each_in_turn}
use Rattle.ds2_answer.specs.TablePlans.{are_columns_named, read_table, read_tables, with_read_table}
use Rattle.ds2_store_steps.specs.declared.halt.Halt.{Halt}
use Rattle.ds2_store_steps.specs.Halts.{HaltsPlan}
use Rattle.ds2_store_steps.specs.FileReads.{OverSomeFiles, WasFileRead}

-- names differ from each other, and from those that a test tells
abbrev pub DifferFrom : (List ℕ → Bool) → List (List ℕ) → Type 0
DifferFrom seen [] = Unit {0}
DifferFrom seen (name ∷ names) = (seen name ≡ false) × DifferFrom (λ other. bytes_eq name other || seen other) names

-- names differ from each other
abbrev pub DifferAll : List (List ℕ) → Type 0
DifferAll names = DifferFrom (λ name. false) names

-- a table has the columns that each of these references has for it
abbrev pub HasColumnsNamed : List TableReference → NamedTable → Type 0
HasColumnsNamed references t = are_columns_named references t.name t.contents.columns ≡ true

-- a table that was read of its file, which is within its limit
pub record WasTableRead (references : List TableReference) (name : List ℕ) (told : Option Files) (t : NamedTable) : Type 0 where
  pub name_is : t.name ≡ name
  pub bytes : List ℕ
  pub read : WasFileRead TABLE_LIMIT (table_file name) told bytes
  pub contents_are : reads bytes ≡ Ok t.contents
  pub columns : HasColumnsNamed references t

-- what a call leaves that keeps what was read of a file: the table and no line, or the file is refused
abbrev pub KeepsRead : List TableReference → (name : List ℕ) → Result Contents CsvRefusal → List ℕ → Result NamedTable Halt → List ℕ → Type 0
KeepsRead references name table said (Ok t) log = (t.name ≡ name) × (table ≡ Ok t.contents) × HasColumnsNamed references t × (log ≡ said)
KeepsRead references name table said (Err halt) log = (told : Option Files) (go : Contents → Plan) → HaltsPlan (with_read_table references name table go) said told halt log told

-- what a call leaves that reads a table: the table and no change, or a halt in the reading
abbrev pub ReadsTable : List TableReference → List ℕ → List ℕ → Option Files → Result NamedTable Halt → List ℕ → Option Files → Type 0
ReadsTable references name said told (Ok t) log now = WasTableRead references name told t × (log ≡ said) × (now ≡ told)
ReadsTable references name said told (Err halt) log now = OverSomeFiles told (λ files. (go : Contents → Plan) → HaltsPlan (read_table references name files go) said told halt log now)

-- the files of tables are read, one behind the other
abbrev pub files_read_then : List (List ℕ) → Plan → Plan
files_read_then names rest = each_in_turn (λ name others. ReadsFile (table_file name) others) names rest

-- what a call leaves that reads tables behind others: these tables and no change, where their files are read and then comes the rest; or a
-- halt in the reading
abbrev pub ReadsTables : List TableReference → List (List ℕ) → List NamedTable → List ℕ → Option Files → Result (List NamedTable) Halt → List ℕ → Option Files → Type 0
ReadsTables references names before said told (Ok read) log now =
    (log ≡ said) × (now ≡ told) × OverSomeFiles told (λ files. (go : List NamedTable → Plan) → read_tables references names before files go ≡ files_read_then names (go read))
ReadsTables references names before said told (Err halt) log now =
    OverSomeFiles told (λ files. (go : List NamedTable → Plan) → HaltsPlan (read_tables references names before files go) said told halt log now)

-- the names of tables
abbrev pub names_read : List NamedTable → List (List ℕ)
names_read tables = map (λ (t : NamedTable). t.name) tables

-- these tables were read for these names, each with the columns that the references have for it
pub record AreTablesRead (references : List TableReference) (names : List (List ℕ)) (read : List NamedTable) : Type 0 where
  pub names_are : names_read read ≡ names
  pub columns : AllByRecursion (HasColumnsNamed references) read
