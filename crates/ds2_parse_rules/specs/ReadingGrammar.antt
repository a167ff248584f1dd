-- The grammar of reading statements, as parsers on lists. m bounds the turns of each list.
use Rattle.std.specs.Prelude.{ℕ, Bool, ◌||◌, codes, List, [], ◌∷◌, Option}
use Rattle.ds2_base.specs.declared.place.Place.{Place}
use Rattle.ds2_token.specs.declared.token.Token.{Token}
use Rattle.ds2_token.specs.Words.{is_one_of, is_name_token, is_table, is_integer}
use Rattle.ds2_tree.specs.Parsers.{Parser, Either, One, Two, kept, choose_by, to, seq, optional}
use Rattle.ds2_tree.specs.declared.readings.Reading.{Reading}
use Rattle.ds2_tree.specs.declared.readings.Reading.TheVariants.{Set, SetFrom, Merge}
use Rattle.ds2_tree.specs.declared.readings.Input.{Input}
use Rattle.ds2_tree.specs.declared.readings.InputFlag.{InputFlag}
use Rattle.ds2_tree.specs.declared.readings.Threads.{Threads}
use Rattle.ds2_tree.specs.declared.readings.MergeRetain.{MergeRetain}
use Rattle.ds2_tree.specs.declared.readings.By.{By}
use Rattle.ds2_tree.specs.declared.readings.ByVariable.{ByVariable}
use Rattle.ds2_parse_rules.specs.GrammarTokens.{mark_rule, word_rule, is_open_mark, starts, one_or_more}

-- ---- what a statement reads

-- a flag as it is read
abbrev pub InputFlagTree : Type 0
InputFlagTree = Place × (Token × (Place × (Token × Place)))

-- a flag of what was read
abbrev pub input_flag_of : InputFlagTree → InputFlag
input_flag_of x = record { opening = x.0; keyword = x.1.0; equals = x.1.1.0; name = x.1.1.1.0; closing = x.1.1.1.1 }

-- "(" "in" "=" name ")"
abbrev pub input_flag_rule : Parser InputFlag
input_flag_rule = to input_flag_of (seq (mark_rule (codes "(")) (seq (word_rule (codes "in")) (seq (mark_rule (codes "=")) (seq (kept is_name_token) (mark_rule (codes ")"))))))

-- an input of what was read
abbrev pub input_read : Token × Option InputFlag → Input
input_read x = record { table = x.0; flag = x.1 }

-- table [ "(" "in" "=" name ")" ]
abbrev pub input_rule : Parser Input
input_rule = to input_read (seq (kept is_table) (optional is_open_mark input_flag_rule))

-- input { input }
abbrev pub inputs_rule : ℕ → Parser (List Input)
inputs_rule m = one_or_more m is_table input_rule

-- ---- what the rows are grouped by

-- the tokens with which a variable of `by` begins: a name or `descending`
abbrev pub begins_by_variable : Token → Bool
begins_by_variable t = is_name_token t || starts (codes "descending") t

-- a variable of what was read
abbrev pub by_variable_of : Option Token × Token → ByVariable
by_variable_of x = record { descending = x.0; name = x.1 }

-- ["descending"] name
abbrev pub by_variable_rule : Parser ByVariable
by_variable_rule = to by_variable_of (seq (optional (starts (codes "descending")) (word_rule (codes "descending"))) (kept is_name_token))

-- a `by` of what was read
abbrev pub by_of : Token × (List ByVariable × Place) → By
by_of x = record { keyword = x.0; variables = x.1.0; end = x.1.1 }

-- "by" ["descending"] name { ["descending"] name } ";"
abbrev pub by_rule : ℕ → Parser By
by_rule m = to by_of (seq (word_rule (codes "by")) (seq (one_or_more m begins_by_variable by_variable_rule) (mark_rule (codes ";"))))

-- ---- the statements

-- a count of threads of what was read
abbrev pub threads_of : Token × (Place × Token) → Threads
threads_of x = record { keyword = x.0; equals = x.1.0; number = x.1.1 }

-- "threads" "=" integer
abbrev pub threads_rule : Parser Threads
threads_rule = to threads_of (seq (word_rule (codes "threads")) (seq (mark_rule (codes "=")) (kept is_integer)))

-- what stands behind `set` where it reads from an instance
abbrev pub SetFromTree : Type 0
SetFromTree = Token × (Token × (Option Threads × Place))

-- "from" name [ "threads" "=" integer ] ";"
abbrev pub set_from_rule : Parser SetFromTree
set_from_rule = seq (word_rule (codes "from")) (seq (kept is_name_token) (seq (optional (starts (codes "threads")) threads_rule) (mark_rule (codes ";"))))

-- what stands behind `set` where it reads tables
abbrev pub SetTree : Type 0
SetTree = List Input × (Place × Option By)

-- input { input } ";" [ by ]
abbrev pub set_tables_rule : ℕ → Parser SetTree
set_tables_rule m = seq (inputs_rule m) (seq (mark_rule (codes ";")) (optional (starts (codes "by")) (by_rule m)))

-- the mark `/`
abbrev pub is_slash_mark : Token → Bool
is_slash_mark t = is_one_of [] (codes "/" ∷ []) t

-- the mark `/` and `retain` of what was read
abbrev pub merge_retain_of : Place × Token → MergeRetain
merge_retain_of x = record { slash = x.0; keyword = x.1 }

-- "/" "retain"
abbrev pub merge_retain_rule : Parser MergeRetain
merge_retain_rule = to merge_retain_of (seq (mark_rule (codes "/")) (word_rule (codes "retain")))

-- the parts of a `merge`, as they are read
abbrev pub MergeTree : Type 0
MergeTree = Token × (List Input × (Option MergeRetain × (Place × By)))

-- "merge" input { input } [ "/" "retain" ] ";" by
abbrev pub merge_rule : ℕ → Parser MergeTree
merge_rule m = seq (word_rule (codes "merge")) (seq (inputs_rule m) (seq (optional is_slash_mark merge_retain_rule) (seq (mark_rule (codes ";")) (by_rule m))))

-- a reading statement as it is read, by its kind
abbrev pub ReadingTree : Type 0
ReadingTree = Either (Token × Either SetFromTree SetTree) MergeTree

-- the reading statement of what was read, by its kind
abbrev pub reading_of_kind : ReadingTree → Reading
reading_of_kind (One (k, One x)) = SetFrom k x.0 x.1.0 x.1.1.0 x.1.1.1
reading_of_kind (One (k, Two x)) = Set k x.0 x.1.0 x.1.1
reading_of_kind (Two x) = Merge x.0 x.1.0 x.1.1.0 x.1.1.1.0 x.1.1.1.1

-- the tokens with which a reading statement begins: `set` or `merge`
abbrev pub begins_reading : Token → Bool
begins_reading t = is_one_of (codes "set" ∷ codes "merge" ∷ []) [] t

-- "set" and what it reads from, an instance where `from` stands behind it, or else tables
abbrev pub set_rule : ℕ → Parser (Token × Either SetFromTree SetTree)
set_rule m = seq (word_rule (codes "set")) (choose_by (starts (codes "from")) (to One set_from_rule) (to Two (set_tables_rule m)))

-- a reading statement, by its word
abbrev pub reading_rule : ℕ → Parser Reading
reading_rule m = to reading_of_kind (choose_by (starts (codes "set")) (to One (set_rule m)) (to Two (merge_rule m)))
