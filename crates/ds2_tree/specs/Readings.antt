-- Reading statements: their spellings, and which are of the grammar. Their trees are plain data.
use Rattle.std.specs.Prelude.{codes, List, [], ◌∷◌, ◌++◌}
use Rattle.ds2_token.specs.declared.token.Token.{Token}
use Rattle.ds2_tree.specs.declared.readings.Reading.{Reading}
use Rattle.ds2_tree.specs.declared.readings.Reading.TheVariants.{Set, SetFrom, Merge}
use Rattle.ds2_tree.specs.declared.readings.Input.{Input}
use Rattle.ds2_tree.specs.declared.readings.InputFlag.{InputFlag}
use Rattle.ds2_tree.specs.declared.readings.Threads.{Threads}
use Rattle.ds2_tree.specs.declared.readings.MergeRetain.{MergeRetain}
use Rattle.ds2_tree.specs.declared.readings.By.{By}
use Rattle.ds2_tree.specs.declared.readings.ByVariable.{ByVariable}
use Rattle.ds2_token.specs.Words.{is_word, is_name_token, is_table, is_integer}
use Rattle.ds2_tree.specs.Marks.{open_mark, close_mark, equals_mark, slash_mark, semicolon_mark}
use Rattle.ds2_tree.specs.Lists.{one_token, if_any, all_spelled, Is, IfAny, SomeOf}

-- "(" "in" "=" name ")"
abbrev pub input_flag_spelling : InputFlag → List Token
input_flag_spelling f = open_mark f.opening ∷ (f.keyword ∷ (equals_mark f.equals ∷ (f.name ∷ (close_mark f.closing ∷ []))))

-- table [ "(" "in" "=" name ")" ]
abbrev pub input_spelling : Input → List Token
input_spelling i = i.table ∷ if_any input_flag_spelling i.flag

-- ["descending"] name
abbrev pub by_variable_spelling : ByVariable → List Token
by_variable_spelling v = if_any one_token v.descending ++ (v.name ∷ [])

-- "by" ["descending"] name { ["descending"] name } ";"
abbrev pub by_spelling : By → List Token
by_spelling b = b.keyword ∷ (all_spelled by_variable_spelling b.variables ++ (semicolon_mark b.end ∷ []))

-- "threads" "=" integer
abbrev pub threads_spelling : Threads → List Token
threads_spelling t = t.keyword ∷ (equals_mark t.equals ∷ (t.number ∷ []))

-- "/" "retain"
abbrev pub merge_retain_spelling : MergeRetain → List Token
merge_retain_spelling r = slash_mark r.slash ∷ (r.keyword ∷ [])

-- the tokens of a reading statement
abbrev pub reading_spelling : Reading → List Token
-- "set" input { input } ";" [ by ]
reading_spelling (Set keyword inputs end by) = keyword ∷ (all_spelled input_spelling inputs ++ (semicolon_mark end ∷ if_any by_spelling by))
-- "set" "from" name [ "threads" "=" integer ] ";"
reading_spelling (SetFrom keyword from_keyword instance threads end) = keyword ∷ (from_keyword ∷ (instance ∷ (if_any threads_spelling threads ++ (semicolon_mark end ∷ []))))
-- "merge" input { input } [ "/" "retain" ] ";" by
reading_spelling (Merge keyword inputs retain end by) = keyword ∷ (all_spelled input_spelling inputs ++ (if_any merge_retain_spelling retain ++ (semicolon_mark end ∷ by_spelling by)))

-- ---- which trees are of the grammar

-- the word `in` and a name
abbrev pub IsInputFlag : InputFlag → Type 0
IsInputFlag f = Is (is_word (codes "in")) f.keyword × Is is_name_token f.name

-- a table, with a flag of the grammar or none
abbrev pub IsInput : Input → Type 0
IsInput i = Is is_table i.table × IfAny IsInputFlag i.flag

-- a name, with `descending` or nothing before it
abbrev pub IsByVariable : ByVariable → Type 0
IsByVariable v = IfAny (Is (is_word (codes "descending"))) v.descending × Is is_name_token v.name

-- the word `by` and one variable at least
abbrev pub IsBy : By → Type 0
IsBy b = Is (is_word (codes "by")) b.keyword × SomeOf IsByVariable b.variables

-- the word `threads` and an integer
abbrev pub IsThreads : Threads → Type 0
IsThreads t = Is (is_word (codes "threads")) t.keyword × Is is_integer t.number

-- its words are those of its form, and its inputs, its instance and its variables are of the grammar
abbrev pub IsReading : Reading → Type 0
IsReading (Set keyword inputs end by) = Is (is_word (codes "set")) keyword × SomeOf IsInput inputs × IfAny IsBy by
IsReading (SetFrom keyword from_keyword instance threads end) =
    Is (is_word (codes "set")) keyword × Is (is_word (codes "from")) from_keyword × Is is_name_token instance × IfAny IsThreads threads
IsReading (Merge keyword inputs retain end by) =
    Is (is_word (codes "merge")) keyword × SomeOf IsInput inputs × IfAny (λ r. Is (is_word (codes "retain")) r.keyword) retain × IsBy by
