-- The tables that a command reads before its programs run, and the files that their outputs would make.
use Rattle.std.specs.Prelude.{ℕ, Bool, true, false, not, ◌&&◌, ◌||◌, ◌==◌, bytes_eq, if◌then◌else◌, List, [], ◌∷◌, ◌++◌, Result, Ok, Err}
use Rattle.std.specs.List.{list_all}
use Rattle.std.specs.FinMap.{contains_key}
use Rattle.ds2_value.specs.Row.{Columns}
use Rattle.ds2_value.specs.Types.{same_ty}
use Rattle.ds2_table.specs.Table.{Contents}
use Rattle.ds2_csv.specs.Reads.{reads}
use Rattle.ds2_csv.specs.declared.refusal.CsvRefusal.{CsvRefusal}
use Rattle.ds2_outside.specs.Files.{Files, file}
use Rattle.ds2_code.specs.declared.parts.TableReference.{TableReference}
use Rattle.ds2_answer.specs.declared.kinds.FileKind.{FileKind}
use Rattle.ds2_answer.specs.declared.kinds.FileKind.TheVariants as kind
use Rattle.ds2_answer.specs.declared.kinds.TheConstants.{TABLE_LIMIT}
use Rattle.ds2_answer.specs.declared.status.Status.TheVariants as ended
use Rattle.ds2_answer.specs.Answer.{table_file}
use Rattle.ds2_answer.specs.HeldTables.{NamedTable}
use Rattle.ds2_answer.specs.Lines.{exists_line, file_line}
use Rattle.ds2_answer.specs.Load.{within_limit}
use Rattle.ds2_answer.specs.Plan.{Plan, Stops, Logs, ReadsFile, AsksFor}

-- ---- files that are read

-- a file is refused
abbrev pub refuse_file : List ℕ → FileKind → Plan
refuse_file name kind = Logs (file_line name kind) (Stops ended.File)

-- a file is refused, or the command goes on with its bytes
abbrev pub with_bytes : List ℕ → Result (List ℕ) FileKind → (List ℕ → Plan) → Plan
with_bytes name (Err kind) go = refuse_file name kind
with_bytes name (Ok bytes) go = go bytes

-- a file is read that has to be there and within its limit
abbrev pub read_file : ℕ → List ℕ → Files → (List ℕ → Plan) → Plan
read_file limit name files go = ReadsFile name (with_bytes name (within_limit limit (file files name)) go)

-- ---- tables that are read

-- two lists of columns have the same names and types, in the same order
abbrev pub same_columns : Columns → Columns → Bool
same_columns [] [] = true
same_columns [] (d ∷ ds) = false
same_columns (c ∷ cs) [] = false
same_columns (c ∷ cs) (d ∷ ds) = (bytes_eq c.name d.name && same_ty c.ty d.ty) && same_columns cs ds

-- columns are those that a reference has, unless it is one to another table
abbrev pub are_columns_of : (name : List ℕ) → Columns → TableReference → Bool
are_columns_of name columns r = not (r.maker == 0 && bytes_eq r.name name) || same_columns r.columns columns

-- columns are those that each of these references has for a table of the store
abbrev pub are_columns_named : List TableReference → (name : List ℕ) → Columns → Bool
are_columns_named references name columns = list_all (are_columns_of name columns) references

-- a table of other columns than code names is refused, or it is held
abbrev pub with_read_columns : Bool → List ℕ → Plan → Plan
with_read_columns false name go = refuse_file (table_file name) kind.OtherSchema
with_read_columns true name go = go

-- a file that is no table, or one of other columns, is refused, or the table is held
abbrev pub with_read_table : List TableReference → List ℕ → Result Contents CsvRefusal → (Contents → Plan) → Plan
with_read_table references name (Err refusal) go = refuse_file (table_file name) (kind.Table refusal)
with_read_table references name (Ok contents) go = with_read_columns (are_columns_named references name contents.columns) name (go contents)

-- the file of a table is read, and the table is held
abbrev pub read_table : List TableReference → List ℕ → Files → (Contents → Plan) → Plan
read_table references name files go = read_file TABLE_LIMIT (table_file name) files (λ bytes. with_read_table references name (reads bytes) go)

-- tables of the store are read in order, behind those that were read, each with the columns that these references have for it
abbrev pub read_tables : List TableReference → List (List ℕ) → List NamedTable → Files → (List NamedTable → Plan) → Plan
read_tables references [] read files go = go read
read_tables references (name ∷ names) read files go =
    read_table references name files (λ contents. read_tables references names (read ++ record { name = name; contents = contents } ∷ []) files go)

-- ---- outputs

-- an output of a program: the table that it makes, and whether a file of that name may be written over
pub record OutputNamed : Type 0 where
  pub name : List ℕ
  pub overwrites : Bool

-- whether there is a file of a name
abbrev pub Presence : Type 0
Presence = List ℕ → Bool

-- among these files
abbrev pub present_in : Files → Presence
present_in files name = contains_key files name

-- an output is there already
abbrev pub refuse_output : List ℕ → Plan
refuse_output name = Logs (exists_line (table_file name)) (Stops ended.Exists)

-- the rest follows unless the file of an output is there
abbrev pub unless_there : Bool → List ℕ → Plan → Plan
unless_there true name rest = refuse_output name
unless_there false name rest = rest

-- an output that may not be written over is refused where an earlier one makes its table, and where its file is there
abbrev pub ask_unless_made : Bool → Presence → List ℕ → Plan → Plan
ask_unless_made true there name rest = refuse_output name
ask_unless_made false there name rest = AsksFor (table_file name) (unless_there (there (table_file name)) name rest)

-- an output that may be written over is not asked for; `made` tells the names of the tables that earlier outputs make
abbrev pub output_then : (made : List ℕ → Bool) → Presence → OutputNamed → Plan → Plan
output_then made there output rest = if output.overwrites then rest else ask_unless_made (made output.name) there output.name rest

-- the table of an output is made too
abbrev pub made_too : OutputNamed → (List ℕ → Bool) → (List ℕ → Bool)
made_too output made name = bytes_eq output.name name || made name

-- the outputs of programs in order, behind others; those of one program differ in their names
abbrev pub outputs_then : (made : List ℕ → Bool) → Presence → List OutputNamed → Plan → Plan
outputs_then made there [] rest = rest
outputs_then made there (output ∷ outputs) rest = output_then made there output (outputs_then (made_too output made) there outputs rest)

-- no table is made
abbrev pub none_made : List ℕ → Bool
none_made name = false
