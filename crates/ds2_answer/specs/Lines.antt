-- The lines of the log.
use Rattle.std.specs.Prelude.{ℕ, nat_le, if◌then◌else◌, List, [], ◌∷◌, ◌++◌, codes, Option, Some, None}
use Rattle.std.specs.List.{flat_map}
use Rattle.std.specs.Fmt.{decimal}
use Rattle.ds2_base.specs.declared.place.Place.{Place}
use Rattle.ds2_value.specs.declared.fault.Fault.{Fault}
use Rattle.ds2_value.specs.declared.fault.Fault.TheVariants.{Overflow, DivideByZero, Range, NoWhen, BudgetSpent, DepthReached}
use Rattle.ds2_csv.specs.declared.refusal.CsvKind.{CsvKind}
use Rattle.ds2_csv.specs.declared.refusal.CsvKind.TheVariants as csv
use Rattle.ds2_source.specs.LexKind.{LexKind}
use Rattle.ds2_source.specs.LexKind.TheVariants.{BadCharacter, OpenText, OpenComment, NumberTooLong, DoubleConstant, BadName, TextTooLong}
use Rattle.ds2_source.specs.ParseKind.{ParseKind}
use Rattle.ds2_source.specs.ParseKind.TheVariants.{Unexpected, TooDeep}
use Rattle.ds2_source.specs.ScopeKind.{ScopeKind}
use Rattle.ds2_source.specs.ScopeKind.TheVariants as scope
use Rattle.ds2_source.specs.TypeKind.{TypeKind}
use Rattle.ds2_source.specs.TypeKind.TheVariants as types
use Rattle.ds2_source.specs.declared.kinds.SourceKind.{SourceKind}
use Rattle.ds2_source.specs.declared.kinds.SourceKind.TheVariants.{Lex, Parse, Scope, Types}
use Rattle.ds2_source.specs.declared.kinds.SourceRefusal.{SourceRefusal}
use Rattle.ds2_answer.specs.declared.kinds.FileKind.{FileKind}
use Rattle.ds2_answer.specs.declared.kinds.FileKind.TheVariants as file
use Rattle.ds2_object.specs.declared.refusal.ObjectRefusal.{ObjectRefusal}
use Rattle.ds2_object.specs.declared.refusal.ObjectRefusal.TheVariants as object
use Rattle.ds2_locality.specs.declared.locality.Reason.{Reason}
use Rattle.ds2_locality.specs.declared.locality.Reason.TheVariants.{TermHasStatements, InitWrites, Reads}
use Rattle.ds2_locality.specs.declared.locality.Verdict.{Verdict}
use Rattle.ds2_locality.specs.declared.locality.Verdict.TheVariants.{Local, NotLocal}

-- the words are no command
abbrev pub usage_line : List ℕ
usage_line = codes "ERROR: Usage.\n"

-- there was no memory
abbrev pub memory_line : List ℕ
memory_line = codes "ERROR: Want of memory.\n"

-- a call of this kind on this file has failed
abbrev pub fault_line : List ℕ → List ℕ → List ℕ
fault_line kind name = codes "ERROR: " ++ (kind ++ (codes " fault on " ++ (name ++ codes ".\n")))

-- the name of a kind of a table's refusal
abbrev pub table_kind_text : CsvKind → List ℕ
table_kind_text csv.TooLarge = codes "TooLarge"
table_kind_text csv.NotUtf8 = codes "NotUtf8"
table_kind_text csv.NoHeader = codes "NoHeader"
table_kind_text csv.BadHeader = codes "BadHeader"
table_kind_text csv.BadType = codes "BadType"
table_kind_text csv.DuplicateColumn = codes "DuplicateColumn"
table_kind_text csv.BadRecord = codes "BadRecord"
table_kind_text csv.BadCell = codes "BadCell"

-- the place of a table's refusal: a cell has a row and a column, a header cell a column, a record a row, and a file none
abbrev pub table_place : CsvKind → ℕ → ℕ → List ℕ
table_place csv.TooLarge row column = codes ".\n"
table_place csv.NotUtf8 row column = codes ".\n"
table_place csv.NoHeader row column = codes ".\n"
table_place csv.BadHeader row column = codes " at column " ++ (decimal column ++ codes ".\n")
table_place csv.BadType row column = codes " at column " ++ (decimal column ++ codes ".\n")
table_place csv.DuplicateColumn row column = codes " at column " ++ (decimal column ++ codes ".\n")
table_place csv.BadRecord row column = codes " at row " ++ (decimal row ++ codes ".\n")
table_place csv.BadCell row column = codes " at row " ++ (decimal row ++ (codes ", column " ++ (decimal column ++ codes ".\n")))

-- what the line on a refused file says of a kind: its name, and the place in the table
abbrev pub kind_text : FileKind → List ℕ
kind_text file.Absent = codes "Absent.\n"
kind_text file.TooLarge = codes "TooLarge.\n"
kind_text file.NotUtf8 = codes "NotUtf8.\n"
kind_text file.OtherSchema = codes "OtherSchema.\n"
kind_text (file.Table refusal) = table_kind_text refusal.kind ++ table_place refusal.kind refusal.row refusal.column

-- a file is refused
abbrev pub file_line : List ℕ → FileKind → List ℕ
file_line name kind = codes "ERROR: File " ++ (name ++ (codes " refused: " ++ kind_text kind))

-- a place, and what follows
abbrev pub at_place : Place → List ℕ → List ℕ
at_place place rest = codes " at " ++ (decimal place.line ++ (codes ":" ++ (decimal place.column ++ rest)))

-- the name of a lexer's kind
abbrev pub lex_kind_text : LexKind → List ℕ
lex_kind_text BadCharacter = codes "BadCharacter"
lex_kind_text OpenText = codes "OpenText"
lex_kind_text OpenComment = codes "OpenComment"
lex_kind_text NumberTooLong = codes "NumberTooLong"
lex_kind_text DoubleConstant = codes "DoubleConstant"
lex_kind_text BadName = codes "BadName"
lex_kind_text TextTooLong = codes "TextTooLong"

-- the name of a parser's kind
abbrev pub parse_kind_text : ParseKind → List ℕ
parse_kind_text Unexpected = codes "Unexpected"
parse_kind_text TooDeep = codes "TooDeep"

-- the name of a kind of the rules of names
abbrev pub scope_kind_text : ScopeKind → List ℕ
scope_kind_text scope.UnknownName = codes "UnknownName"
scope_kind_text scope.DuplicateName = codes "DuplicateName"
scope_kind_text scope.UnknownMethod = codes "UnknownMethod"
scope_kind_text scope.WrongCount = codes "WrongCount"
scope_kind_text scope.NotVariable = codes "NotVariable"
scope_kind_text scope.AliasedArgument = codes "AliasedArgument"
scope_kind_text scope.TooManyNames = codes "TooManyNames"
scope_kind_text scope.BadNumber = codes "BadNumber"
scope_kind_text scope.Misplaced = codes "Misplaced"
scope_kind_text scope.NoColumns = codes "NoColumns"

-- the name of a kind of the rules of types
abbrev pub type_kind_text : TypeKind → List ℕ
type_kind_text types.TypeClash = codes "TypeClash"
type_kind_text types.ScaleTooLarge = codes "ScaleTooLarge"
type_kind_text types.NotTruth = codes "NotTruth"
type_kind_text types.NoReturn = codes "NoReturn"

-- the name of a kind of a source's refusal
abbrev pub source_kind_text : SourceKind → List ℕ
source_kind_text (Lex kind) = lex_kind_text kind
source_kind_text (Parse kind) = parse_kind_text kind
source_kind_text (Scope kind) = scope_kind_text kind
source_kind_text (Types kind) = type_kind_text kind

-- a source is refused
abbrev pub source_line : SourceRefusal → List ℕ
source_line refusal = codes "ERROR: Source refused: " ++ (source_kind_text refusal.kind ++ at_place refusal.place (codes ".\n"))

-- the name of a fault
abbrev pub fault_text : Fault → List ℕ
fault_text Overflow = codes "Overflow"
fault_text DivideByZero = codes "DivideByZero"
fault_text Range = codes "Range"
fault_text NoWhen = codes "NoWhen"
fault_text BudgetSpent = codes "BudgetSpent"
fault_text DepthReached = codes "DepthReached"

-- a program has ended in a fault of its own
abbrev pub error_line : List ℕ → Place → List ℕ
error_line kind place = codes "ERROR: " ++ (kind ++ at_place place (codes ".\n"))

-- a table was written
abbrev pub table_line : List ℕ → ℕ → List ℕ
table_line name rows = codes "NOTE: Table " ++ (name ++ (codes ", " ++ (decimal rows ++ codes " rows.\n")))

-- the instructions that the stored code of a program has executed
abbrev pub count_line : ℕ → List ℕ
count_line instructions = codes "NOTE: " ++ (decimal instructions ++ codes " instructions.\n")

-- an object was stored in a file
abbrev pub object_line : List ℕ → ℕ → List ℕ
object_line name bytes = codes "NOTE: Object " ++ (name ++ (codes ", " ++ (decimal bytes ++ codes " bytes.\n")))

-- the file of an output is there already, or an earlier output makes it
abbrev pub exists_line : List ℕ → List ℕ
exists_line name = codes "ERROR: Output " ++ (name ++ codes " exists.\n")

-- what the line on a refused object says of the refusal
abbrev pub object_refusal_text : ObjectRefusal → List ℕ
object_refusal_text object.BadMagic = codes "BadMagic.\n"
object_refusal_text object.BadVersion = codes "BadVersion.\n"
object_refusal_text object.Truncated = codes "Truncated.\n"
object_refusal_text object.TrailingBytes = codes "TrailingBytes.\n"
object_refusal_text (object.BadField offset) = codes "BadField at byte " ++ (decimal offset ++ codes ".\n")
object_refusal_text object.NotValid = codes "NotValid.\n"

-- an object is refused
abbrev pub object_refused_line : ObjectRefusal → List ℕ
object_refused_line refusal = codes "ERROR: Object refused: " ++ object_refusal_text refusal

-- that a thread program is local at a grain; a grain above 1 is told
abbrev pub local_text : ℕ → List ℕ
local_text grain = if nat_le grain 1 then codes "local" else codes "local by " ++ decimal grain

-- why a thread program is not local; a read is told with its place
abbrev pub not_local_text : Reason → Place → List ℕ
not_local_text TermHasStatements place = codes "not local: term has statements"
not_local_text InitWrites place = codes "not local: init writes"
not_local_text (Reads name) place = codes "not local: " ++ (name ++ (codes " read at " ++ (decimal place.line ++ (codes ":" ++ decimal place.column))))

-- what a verdict says
abbrev pub verdict_text : Verdict → List ℕ
verdict_text (Local grain) = local_text grain
verdict_text (NotLocal reason place) = not_local_text reason place

-- what `check` says of a thread program: its verdict
abbrev pub checked_thread_line : (name verdict : List ℕ) → List ℕ
checked_thread_line name verdict = codes "NOTE: Thread " ++ (name ++ (codes ", " ++ (verdict ++ codes ".\n")))

-- a verdict behind a name, where one is told
abbrev pub verdict_part : Option (List ℕ) → List ℕ
verdict_part None = []
verdict_part (Some verdict) = codes ", " ++ verdict

-- how many groups a thread program had, with its verdict where one is told
abbrev pub thread_line : List ℕ → Option (List ℕ) → ℕ → List ℕ
thread_line name verdict groups = codes "NOTE: Thread " ++ (name ++ (verdict_part verdict ++ (codes ", " ++ (decimal groups ++ codes " groups.\n"))))

-- a line that a program has put
abbrev pub line_put : List ℕ → List ℕ
line_put line = line ++ 10 ∷ []

-- lines that a program has put, one behind the other
abbrev pub lines_put : List (List ℕ) → List ℕ
lines_put lines = flat_map line_put lines

-- `demo` is done: the number of its rows, and the total of their amounts
abbrev pub demo_line : ℕ → (total : List ℕ) → List ℕ
demo_line rows total = codes "NOTE: Demo, " ++ (decimal rows ++ (codes " rows, total " ++ (total ++ codes ".\n")))
