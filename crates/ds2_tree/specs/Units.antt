-- Sources and their units: their trees, spellings and levels of nesting.
use Rattle.std.specs.Prelude.{ℕ, Bool, codes, List, [], ◌∷◌, ◌++◌, Option, None}
use Rattle.ds2_base.specs.declared.place.Place.{Place}
use Rattle.ds2_token.specs.declared.token.Token.{Token}
use Rattle.ds2_tree.specs.declared.globals.Parameters.{Parameters}
use Rattle.ds2_tree.specs.declared.units.OutputTable.{OutputTable}
use Rattle.ds2_tree.specs.declared.units.OutputOptions.{OutputOptions}
use Rattle.ds2_tree.specs.declared.units.OutputOption.{OutputOption}
use Rattle.ds2_tree.specs.declared.units.OutputOption.TheVariants as option
use Rattle.ds2_tree.specs.declared.units.Renaming.{Renaming}
use Rattle.ds2_token.specs.Words.{is_word, is_one_of, is_name_token, is_package_name, is_table}
use Rattle.ds2_tree.specs.Marks.{open_mark, close_mark, equals_mark, semicolon_mark}
use Rattle.ds2_tree.specs.Lists.{one_token, if_any, all_spelled, Is, IfAny, Each, SomeOf}
use Rattle.ds2_tree.specs.Levels.{first_opened}
use Rattle.ds2_tree.specs.Globals.{GlobalItem, global_spelling, IsGlobal, global_opens, parameters_spelling, AreParameters}

-- a package
pub record Package : Type 0 where
  pub keyword : Token
  pub name : Token
  pub semicolon : Place
  pub globals : List GlobalItem
  pub end_keyword : Token
  pub end : Place

-- a thread program
pub record Thread : Type 0 where
  pub keyword : Token
  pub name : Token
  pub parameters : Option Parameters
  pub semicolon : Place
  pub globals : List GlobalItem
  pub end_keyword : Token
  pub end : Place

-- a data program
pub record DataProgram : Type 0 where
  pub keyword : Token
  pub outputs : List OutputTable
  pub semicolon : Place
  pub globals : List GlobalItem
  pub end_keyword : Token
  pub end : Place

-- a part of a source: `proc ds2`, `run` or `quit`, or a unit
pub data SourcePart : Type 0 where
  Proc : (keyword ds2 : Token) → (end : Place) → SourcePart
  Run : (keyword : Token) → (end : Place) → SourcePart
  Quit : (keyword : Token) → (end : Place) → SourcePart
  APackage : Package → SourcePart
  AThread : Thread → SourcePart
  AData : DataProgram → SourcePart

-- ---- spellings

-- name "=" name
abbrev pub renaming_spelling : Renaming → List Token
renaming_spelling r = r.old ∷ (equals_mark r.equals ∷ (r.new ∷ []))

-- the tokens of an option of an output table
abbrev pub option_spelling : OutputOption → List Token
-- ("keep" | "drop") "=" "(" name { name } ")"
option_spelling (option.Listed keyword e p names q) = keyword ∷ (equals_mark e ∷ (open_mark p ∷ (all_spelled one_token names ++ (close_mark q ∷ []))))
-- "overwrite" "=" ("yes" | "no")
option_spelling (option.Overwrite keyword e answer) = keyword ∷ (equals_mark e ∷ (answer ∷ []))
-- "rename" "=" "(" name "=" name { name "=" name } ")"
option_spelling (option.Rename keyword e p renamings q) = keyword ∷ (equals_mark e ∷ (open_mark p ∷ (all_spelled renaming_spelling renamings ++ (close_mark q ∷ []))))

-- "(" { option } ")"
abbrev pub options_spelling : OutputOptions → List Token
options_spelling o = open_mark o.opening ∷ (all_spelled option_spelling o.list ++ (close_mark o.closing ∷ []))

-- table [ "(" { option } ")" ]
abbrev pub output_spelling : OutputTable → List Token
output_spelling o = o.table ∷ if_any options_spelling o.options

-- "package" pname ";" { global } "endpackage" ";"
abbrev pub package_spelling : Package → List Token
package_spelling u = u.keyword ∷ (u.name ∷ (semicolon_mark u.semicolon ∷ (all_spelled global_spelling u.globals ++ (u.end_keyword ∷ (semicolon_mark u.end ∷ [])))))

-- "thread" name [ parameters ] ";" { global } "endthread" ";"
abbrev pub thread_spelling : Thread → List Token
thread_spelling u =
    u.keyword ∷ (u.name ∷ (if_any parameters_spelling u.parameters ++ (semicolon_mark u.semicolon ∷ (all_spelled global_spelling u.globals ++ (u.end_keyword ∷ (semicolon_mark u.end ∷ []))))))

-- "data" outp { outp } ";" { global } "enddata" ";"
abbrev pub data_spelling : DataProgram → List Token
data_spelling u =
    u.keyword ∷ (all_spelled output_spelling u.outputs ++ (semicolon_mark u.semicolon ∷ (all_spelled global_spelling u.globals ++ (u.end_keyword ∷ (semicolon_mark u.end ∷ [])))))

-- the tokens of a part of a source
abbrev pub part_spelling : SourcePart → List Token
-- "proc" "ds2" ";"
part_spelling (Proc keyword ds2 end) = keyword ∷ (ds2 ∷ (semicolon_mark end ∷ []))
-- "run" ";" and "quit" ";"
part_spelling (Run keyword end) = keyword ∷ (semicolon_mark end ∷ [])
part_spelling (Quit keyword end) = keyword ∷ (semicolon_mark end ∷ [])
part_spelling (APackage u) = package_spelling u
part_spelling (AThread u) = thread_spelling u
part_spelling (AData u) = data_spelling u

-- the tokens of a source
abbrev pub source_spelling : List SourcePart → List Token
source_spelling parts = all_spelled part_spelling parts

-- ---- which trees are of the grammar

-- the word before the names of an option: "keep" | "drop"
abbrev pub is_kept_or_dropped : Token → Bool
is_kept_or_dropped t = is_one_of (codes "keep" ∷ codes "drop" ∷ []) [] t

-- an answer: "yes" | "no"
abbrev pub is_answer : Token → Bool
is_answer t = is_one_of (codes "yes" ∷ codes "no" ∷ []) [] t

-- the old name and the new one are names
abbrev pub IsRenaming : Renaming → Type 0
IsRenaming r = Is is_name_token r.old × Is is_name_token r.new

-- the word of its form, with one name or renaming at least, or with an answer
abbrev pub IsOption : OutputOption → Type 0
IsOption (option.Listed keyword e p names q) = Is is_kept_or_dropped keyword × SomeOf (Is is_name_token) names
IsOption (option.Overwrite keyword e answer) = Is (is_word (codes "overwrite")) keyword × Is is_answer answer
IsOption (option.Rename keyword e p renamings q) = Is (is_word (codes "rename")) keyword × SomeOf IsRenaming renamings

-- a table, with options of the grammar or none
abbrev pub IsOutput : OutputTable → Type 0
IsOutput o = Is is_table o.table × IfAny (λ options. Each IsOption options.list) o.options

-- the word `package`, a name that a package may have, parts of the grammar, and the word `endpackage`
abbrev pub IsPackage : Package → Type 0
IsPackage u = Is (is_word (codes "package")) u.keyword × Is is_package_name u.name × Each IsGlobal u.globals × Is (is_word (codes "endpackage")) u.end_keyword

-- the word `thread`, a name, parts of the grammar, and the word `endthread`
abbrev pub IsThread : Thread → Type 0
IsThread u =
    Is (is_word (codes "thread")) u.keyword × Is is_name_token u.name × IfAny AreParameters u.parameters × Each IsGlobal u.globals × Is (is_word (codes "endthread")) u.end_keyword

-- the word `data`, one output table at least, parts of the grammar, and the word `enddata`
abbrev pub IsData : DataProgram → Type 0
IsData u = Is (is_word (codes "data")) u.keyword × SomeOf IsOutput u.outputs × Each IsGlobal u.globals × Is (is_word (codes "enddata")) u.end_keyword

-- the words `proc ds2`, `run` or `quit`, or a unit of the grammar
abbrev pub IsPart : SourcePart → Type 0
IsPart (Proc keyword ds2 end) = Is (is_word (codes "proc")) keyword × Is (is_word (codes "ds2")) ds2
IsPart (Run keyword end) = Is (is_word (codes "run")) keyword
IsPart (Quit keyword end) = Is (is_word (codes "quit")) keyword
IsPart (APackage u) = IsPackage u
IsPart (AThread u) = IsThread u
IsPart (AData u) = IsData u

-- a source of the grammar: well-levelled, at any depth
abbrev pub IsSource : List SourcePart → Type 0
IsSource parts = Each IsPart parts

-- ---- levels of nesting

-- the tokens of what a unit is made of from the first one on that opens more than n levels
abbrev pub globals_opens : List GlobalItem → ℕ → Option (List Token)
globals_opens [] n = None
globals_opens (g ∷ gs) n = first_opened (global_opens g n) (all_spelled global_spelling gs) (globals_opens gs n)

-- the globals of a unit, and behind them its last two tokens
abbrev pub unit_opens : List GlobalItem → Token → Place → ℕ → Option (List Token)
unit_opens globals end_keyword end n = first_opened (globals_opens globals n) (end_keyword ∷ (semicolon_mark end ∷ [])) None

-- the tokens of a part of a source from the first one on that opens more than n levels
abbrev pub part_opens : SourcePart → ℕ → Option (List Token)
part_opens (Proc keyword ds2 end) n = None
part_opens (Run keyword end) n = None
part_opens (Quit keyword end) n = None
part_opens (APackage u) n = unit_opens u.globals u.end_keyword u.end n
part_opens (AThread u) n = unit_opens u.globals u.end_keyword u.end n
part_opens (AData u) n = unit_opens u.globals u.end_keyword u.end n

-- the tokens of a source from the first one on that opens more than n levels
abbrev pub source_opens : List SourcePart → ℕ → Option (List Token)
source_opens [] n = None
source_opens (p ∷ ps) n = first_opened (part_opens p n) (source_spelling ps) (source_opens ps n)
