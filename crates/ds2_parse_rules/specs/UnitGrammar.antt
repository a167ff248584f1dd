-- The grammar of units and sources, as parsers on lists. m bounds the turns of each list, n the levels.
use Rattle.std.specs.Prelude.{ℕ, suc, Bool, codes, List, [], ◌∷◌, length, Option, Some, None}
use Rattle.ds2_base.specs.declared.place.Place.{Place}
use Rattle.ds2_token.specs.declared.token.Token.{Token}
use Rattle.ds2_token.specs.Words.{is_one_of, is_name_token, is_package_name, is_table}
use Rattle.ds2_tree.specs.Parsers.{ParserOutcome, Parser, Either, One, Two, ◌>>>◌, pure, unexpected, peek, kept, choose_by, to, seq, many_of, optional}
use Rattle.ds2_tree.specs.declared.globals.Parameters.{Parameters}
use Rattle.ds2_tree.specs.declared.units.OutputTable.{OutputTable}
use Rattle.ds2_tree.specs.declared.units.OutputOptions.{OutputOptions}
use Rattle.ds2_tree.specs.declared.units.OutputOption.{OutputOption}
use Rattle.ds2_tree.specs.declared.units.OutputOption.TheVariants as option
use Rattle.ds2_tree.specs.declared.units.Renaming.{Renaming}
use Rattle.ds2_tree.specs.Globals.{GlobalItem}
use Rattle.ds2_tree.specs.Units.{Package, Thread, DataProgram, SourcePart, Proc, Run, Quit, APackage, AThread, AData, is_kept_or_dropped, is_answer}
use Rattle.ds2_parse_rules.specs.GrammarTokens.{mark_rule, word_rule, is_open_mark, starts, one_or_more}
use Rattle.ds2_parse_rules.specs.GlobalGrammar.{names_rule, parameters_rule, begins_global, global_rule}

-- ---- output tables

-- a renaming of what was read
abbrev pub renaming_of : Token × (Place × Token) → Renaming
renaming_of x = record { old = x.0; equals = x.1.0; new = x.1.1 }

-- name "=" name
abbrev pub renaming_rule : Parser Renaming
renaming_rule = to renaming_of (seq (kept is_name_token) (seq (mark_rule (codes "=")) (kept is_name_token)))

-- a keyword, `=`, and a list in parentheses, as they are read
abbrev pub OptionListTree : Type 0 → Type 0
OptionListTree A = Token × (Place × (Place × (List A × Place)))

-- ("keep" | "drop") "=" "(" name { name } ")"
abbrev pub kept_option_rule : ℕ → Parser (OptionListTree Token)
kept_option_rule m = seq (kept is_kept_or_dropped) (seq (mark_rule (codes "=")) (seq (mark_rule (codes "(")) (seq (names_rule m) (mark_rule (codes ")")))))

-- "overwrite" "=" ("yes" | "no")
abbrev pub overwrite_rule : Parser (Token × (Place × Token))
overwrite_rule = seq (word_rule (codes "overwrite")) (seq (mark_rule (codes "=")) (kept is_answer))

-- "rename" "=" "(" name "=" name { name "=" name } ")"
abbrev pub rename_rule : ℕ → Parser (OptionListTree Renaming)
rename_rule m = seq (word_rule (codes "rename")) (seq (mark_rule (codes "=")) (seq (mark_rule (codes "(")) (seq (one_or_more m is_name_token renaming_rule) (mark_rule (codes ")")))))

-- an option as it is read, by its kind
abbrev pub OptionTree : Type 0
OptionTree = Either (OptionListTree Token) (Either (Token × (Place × Token)) (OptionListTree Renaming))

-- the option of what was read, by its kind
abbrev pub option_of_kind : OptionTree → OutputOption
option_of_kind (One x) = option.Listed x.0 x.1.0 x.1.1.0 x.1.1.1.0 x.1.1.1.1
option_of_kind (Two (One x)) = option.Overwrite x.0 x.1.0 x.1.1
option_of_kind (Two (Two x)) = option.Rename x.0 x.1.0 x.1.1.0 x.1.1.1.0 x.1.1.1.1

-- the words with which an option begins
abbrev pub begins_option : Token → Bool
begins_option t = is_one_of (codes "keep" ∷ codes "drop" ∷ codes "overwrite" ∷ codes "rename" ∷ []) [] t

-- an option of an output table, by its word
abbrev pub option_rule : ℕ → Parser OutputOption
option_rule m = to option_of_kind (choose_by is_kept_or_dropped (to One (kept_option_rule m)) (to Two (choose_by (starts (codes "overwrite")) (to One overwrite_rule) (to Two (rename_rule m)))))

-- the options of what was read
abbrev pub options_read : Place × (List OutputOption × Place) → OutputOptions
options_read x = record { opening = x.0; list = x.1.0; closing = x.1.1 }

-- "(" { option } ")"
abbrev pub options_rule : ℕ → Parser OutputOptions
options_rule m = to options_read (seq (mark_rule (codes "(")) (seq (many_of m begins_option (option_rule m)) (mark_rule (codes ")"))))

-- the output table of what was read
abbrev pub output_read : Token × Option OutputOptions → OutputTable
output_read x = record { table = x.0; options = x.1 }

-- table [ "(" { option } ")" ]
abbrev pub output_rule : ℕ → Parser OutputTable
output_rule m = to output_read (seq (kept is_table) (optional is_open_mark (options_rule m)))

-- ---- units

-- what stands behind the `;` of a unit's first line, as it is read
abbrev pub UnitBody : Type 0
UnitBody = List GlobalItem × (Token × Place)

-- { global }, the word that ends the unit, and ";"
abbrev pub unit_body_rule : ℕ → ℕ → List ℕ → Parser UnitBody
unit_body_rule m n end_word = seq (many_of m begins_global (global_rule m n)) (seq (word_rule end_word) (mark_rule (codes ";")))

-- the package of what was read
abbrev pub package_of : Token × (Token × (Place × UnitBody)) → Package
package_of x = record { keyword = x.0; name = x.1.0; semicolon = x.1.1.0; globals = x.1.1.1.0; end_keyword = x.1.1.1.1.0; end = x.1.1.1.1.1 }

-- "package" pname ";" { global } "endpackage" ";"
abbrev pub package_rule : ℕ → ℕ → Parser Package
package_rule m n = to package_of (seq (word_rule (codes "package")) (seq (kept is_package_name) (seq (mark_rule (codes ";")) (unit_body_rule m n (codes "endpackage")))))

-- the thread program of what was read
abbrev pub thread_of : Token × (Token × (Option Parameters × (Place × UnitBody))) → Thread
thread_of x = record { keyword = x.0; name = x.1.0; parameters = x.1.1.0; semicolon = x.1.1.1.0; globals = x.1.1.1.1.0; end_keyword = x.1.1.1.1.1.0; end = x.1.1.1.1.1.1 }

-- "thread" name [ "(" [ param { "," param } ] ")" ] ";" { global } "endthread" ";"
abbrev pub thread_rule : ℕ → ℕ → Parser Thread
thread_rule m n =
    to thread_of (seq (word_rule (codes "thread")) (seq (kept is_name_token) (seq (optional is_open_mark (parameters_rule m)) (seq (mark_rule (codes ";")) (unit_body_rule m n (codes "endthread"))))))

-- the data program of what was read
abbrev pub data_of : Token × (List OutputTable × (Place × UnitBody)) → DataProgram
data_of x = record { keyword = x.0; outputs = x.1.0; semicolon = x.1.1.0; globals = x.1.1.1.0; end_keyword = x.1.1.1.1.0; end = x.1.1.1.1.1 }

-- "data" outp { outp } ";" { global } "enddata" ";"
abbrev pub data_rule : ℕ → ℕ → Parser DataProgram
data_rule m n = to data_of (seq (word_rule (codes "data")) (seq (one_or_more m is_table (output_rule m)) (seq (mark_rule (codes ";")) (unit_body_rule m n (codes "enddata")))))

-- ---- parts of a source

-- a unit as it is read, by its kind
abbrev pub UnitRead : Type 0
UnitRead = Either Package (Either Thread DataProgram)

-- a package, a thread program or a data program, by its word
abbrev pub unit_rule : ℕ → ℕ → Parser UnitRead
unit_rule m n = choose_by (starts (codes "package")) (to One (package_rule m n)) (to Two (choose_by (starts (codes "thread")) (to One (thread_rule m n)) (to Two (data_rule m n))))

-- a part of a source as it is read, by its kind
abbrev pub PartTree : Type 0
PartTree = Either (Token × (Token × Place)) (Either (Token × Place) (Either (Token × Place) UnitRead))

-- the part of a source of what was read, by its kind
abbrev pub part_of_kind : PartTree → SourcePart
part_of_kind (One x) = Proc x.0 x.1.0 x.1.1
part_of_kind (Two (One x)) = Run x.0 x.1
part_of_kind (Two (Two (One x))) = Quit x.0 x.1
part_of_kind (Two (Two (Two (One u)))) = APackage u
part_of_kind (Two (Two (Two (Two (One u))))) = AThread u
part_of_kind (Two (Two (Two (Two (Two u))))) = AData u

-- the words with which a part of a source begins
abbrev pub begins_part : Token → Bool
begins_part t = is_one_of (codes "proc" ∷ codes "run" ∷ codes "quit" ∷ codes "package" ∷ codes "thread" ∷ codes "data" ∷ []) [] t

-- "proc" "ds2" ";" | "run" ";" | "quit" ";" | package | thread | data, by the first word
abbrev pub part_rule : ℕ → ℕ → Parser SourcePart
part_rule m n =
    to part_of_kind (choose_by (starts (codes "proc")) (to One (seq (word_rule (codes "proc")) (seq (word_rule (codes "ds2")) (mark_rule (codes ";"))))) (to Two
    (choose_by (starts (codes "run")) (to One (seq (word_rule (codes "run")) (mark_rule (codes ";")))) (to Two
    (choose_by (starts (codes "quit")) (to One (seq (word_rule (codes "quit")) (mark_rule (codes ";")))) (to Two (unit_rule m n)))))))

-- ---- sources

-- the parts of a source, up to a token that begins none
abbrev pub parts_rule : ℕ → ℕ → Parser (List SourcePart)
parts_rule m n = many_of m begins_part (part_rule m n)

-- at the end of the text the parts are the source, and before any other token nothing goes on
abbrev pub at_the_end : List SourcePart → Option Token → Parser (List SourcePart)
at_the_end parts None = pure parts
at_the_end parts (Some t) = unexpected

-- { part }, and the end of the text
abbrev pub source_rule : ℕ → ℕ → Parser (List SourcePart)
source_rule m n = parts_rule m n >>> λ parts. peek (at_the_end parts)

-- the source that the tokens spell, within n levels, or where there is none
abbrev pub parse_source : ℕ → List Token → ParserOutcome (List SourcePart)
parse_source n ts = source_rule (suc (length ts)) n ts
