-- Small data programs, one or a few for each rule of names: options of outputs, BY variables, aliases, numbers, columns, what an
-- unknown thread program leaves open, and names that are given twice.
use Rattle.std.specs.Prelude.{◌≡◌, ℕ, ◌+◌, codes, List, [], ◌∷◌, ◌++◌, map, Option, Some, None}
use Rattle.ds2_token.specs.declared.kinds.TokenKind.TheVariants.{Integer}
use Rattle.ds2_token.specs.declared.token.Token.{Token}
use Rattle.ds2_tree.specs.Globals.{GlobalItem, Declared, Listed, Defined}
use Rattle.ds2_tree.specs.Statements as s
use Rattle.ds2_tree.specs.declared.globals.Declaration.TheVariants as declaration
use Rattle.ds2_tree.specs.declared.globals.TypeName.{TypeName}
use Rattle.ds2_tree.specs.declared.globals.TypeName.TheVariants as type_name
use Rattle.ds2_tree.specs.declared.readings.Reading as source_reading
use Rattle.ds2_tree.specs.declared.readings.Reading.TheVariants as reading
use Rattle.ds2_tree.specs.declared.units.OutputOption.{OutputOption}
use Rattle.ds2_tree.specs.declared.units.OutputOption.TheVariants as option
use Rattle.ds2_tree.specs.declared.units.OutputTable as source_output
use Rattle.ds2_tree.specs.declared.units.Renaming.{Renaming}
use Rattle.ds2_meaning.specs.ExampleWords.{col}
use Rattle.ds2_meaning.specs.declared.refusals.ScopeKind.TheVariants.{UnknownName, DuplicateName, NotVariable, AliasedArgument, TooManyNames, BadNumber, Misplaced, NoColumns}
use Rattle.ds2_names.specs.NameExamples.{word_in}
use Rattle.ds2_names.specs.SourceUnit.{UnitSource}
use Rattle.ds2_names.specs.InstanceExamples.{bigints_at, hash_at, thread_at, parameter_placed_at, word_in_out, method_placed_at, call_on, call_of, member_into, name_into, running, data_unit, thread_unit, refused, refused_at, thread_t, sixteen_tables}

-- ---- words

-- an output of this name, in column 6, with these options
abbrev pub output_with : List ℕ → List OutputOption → source_output.OutputTable
output_with name options = record { table = word_in 6 name; options = Some (record { opening = col 12; list = options; closing = col 70 }) }

-- data name(options); with these parts
abbrev pub data_with_options : List ℕ → List OutputOption → List GlobalItem → UnitSource
data_with_options name options globals = record (data_unit globals) { outputs = output_with name options ∷ [] }

-- data out(options); dcl bigint a b; method run(); end;
abbrev pub over_two : List OutputOption → UnitSource
over_two options = data_with_options (codes "out") options (bigints_at 80 (codes "a" ∷ codes "b" ∷ []) ∷ running [] ∷ [])

-- keep=(names) or drop=(names)
abbrev pub listing_at : ℕ → List ℕ → List Token → OutputOption
listing_at column word names = option.Listed (word_in column word) (col (column + 4)) (col (column + 5)) names (col (column + 15))

-- old=new; the new name two columns behind the old one
abbrev pub renaming_at : ℕ → List ℕ → List ℕ → Renaming
renaming_at column old new = record { old = word_in column old; equals = col (column + 1); new = word_in (column + 2) new }

-- rename=(renamings)
abbrev pub renamings_at : ℕ → List Renaming → OutputOption
renamings_at column renamings = option.Rename (word_in column (codes "rename")) (col (column + 6)) (col (column + 7)) renamings (col (column + 25))

-- outputs of these names in column 6, and one in column 60
abbrev pub outputs_and : List (List ℕ) → List ℕ → List source_output.OutputTable
outputs_and names last =
    map (λ name. record { table = word_in 6 name; options = None }) names ++ (record { table = word_in 60 last; options = None } ∷ [])

-- an integer
abbrev pub digits_in : ℕ → List ℕ → Token
digits_in column digits = record { kind = Integer; spelling = digits; place = col column }

-- dcl type x;
abbrev pub declared_as : TypeName → GlobalItem
declared_as ty = Declared (declaration.Variables (record { keyword = word_in 10 (codes "dcl"); ty = ty; names = word_in 40 (codes "x") ∷ []; end = col 41 }))

-- decimal(precision,scale); the numbers in the columns 22 and 25
abbrev pub decimal_as : List ℕ → List ℕ → TypeName
decimal_as precision scale =
    type_name.Decimal (word_in 14 (codes "decimal")) (col 21) (digits_in 22 precision) (Some (record { comma = col 24; number = digits_in 25 scale })) (col 27)

-- varchar(width); the width in column 22
abbrev pub varchar_as : List ℕ → TypeName
varchar_as width = type_name.Text (word_in 14 (codes "varchar")) (col 21) (digits_in 22 width) (col 26)

-- set s; by names;
abbrev pub set_by : List Token → Option source_reading.Reading
set_by names = Some (reading.Set (word_in 215 (codes "set")) (record { table = word_in 219 (codes "s"); flag = None } ∷ []) (col 220)
    (Some (record { keyword = word_in 222 (codes "by"); variables = map (λ (t : Token). record { descending = None; name = t }) names; end = col 240 })))

-- set from i threads=number;
abbrev pub from_i_in_threads : List ℕ → Option source_reading.Reading
from_i_in_threads number = Some (reading.SetFrom (word_in 215 (codes "set")) (word_in 219 (codes "from")) (word_in 224 (codes "i"))
    (Some (record { keyword = word_in 226 (codes "threads"); equals = col 233; number = digits_in 234 number })) (col 236))

-- method run(); with this reading statement and these statements
abbrev pub reading_run : Option source_reading.Reading → List s.Statement → GlobalItem
reading_run reads statements = Defined (method_placed_at 200 (codes "run") [] reads statements)

-- dcl bigint y; method run(); set s; by names; and these statements
abbrev pub by_unit : List Token → List s.Statement → UnitSource
by_unit names statements = data_unit (bigints_at 10 (codes "y" ∷ []) ∷ reading_run (set_by names) statements ∷ [])

-- dcl bigint v w; method m(in_out bigint a, in_out bigint b); with these statements; and these parts
abbrev pub in_out_unit : List s.Statement → List GlobalItem → UnitSource
in_out_unit statements globals = data_unit (bigints_at 10 (codes "v" ∷ codes "w" ∷ [])
    ∷ Defined (method_placed_at 40 (codes "m") (parameter_placed_at 60 (word_in_out 53) (codes "a") ∷ parameter_placed_at 80 (word_in_out 73) (codes "b") ∷ []) None statements)
    ∷ globals)

-- m(first, second); the names in the columns 222 and 224
abbrev pub call_m : List ℕ → List ℕ → List s.Statement
call_m first second = call_of 220 (codes "m") (word_in 222 first ∷ word_in 224 second ∷ []) ∷ []

-- method run(); set from x; with these statements; dcl thread nope x; where there is no nope, which stands in column 411; and these parts
abbrev pub from_unknown : List s.Statement → List GlobalItem → List GlobalItem
from_unknown statements globals =
    reading_run (Some (reading.SetFrom (word_in 215 (codes "set")) (word_in 219 (codes "from")) (word_in 224 (codes "x")) None (col 225))) statements
    ∷ thread_at 400 (codes "nope") (codes "x") ∷ globals

-- ---- outputs

-- options of outputs, and `_null_`
pub record OutputNameExamples : Type 0 where
  -- rename=(a=b) beside b; with drop=(b); rename=(a=b b=a); and rename=(a=b) of `_null_`, which is no output
  pub renamed_to_another : refused [] (over_two (renamings_at 20 (renaming_at 28 (codes "a") (codes "b") ∷ []) ∷ [])) ≡ refused_at DuplicateName 30
  pub renamed_to_a_dropped_one : refused [] (over_two (listing_at 50 (codes "drop") (word_in 56 (codes "b") ∷ []) ∷ renamings_at 20 (renaming_at 28 (codes "a") (codes "b") ∷ []) ∷ [])) ≡ None
  pub exchanged : refused [] (over_two (renamings_at 20 (renaming_at 28 (codes "a") (codes "b") ∷ renaming_at 32 (codes "b") (codes "a") ∷ []) ∷ [])) ≡ None
  pub columns_of_no_output : refused [] (data_with_options (codes "_null_") (renamings_at 20 (renaming_at 28 (codes "a") (codes "b") ∷ []) ∷ []) (bigints_at 80 (codes "a" ∷ codes "b" ∷ []) ∷ running [] ∷ [])) ≡ None
  -- rename=(a=c b=c), rename=(a=c a=d) and rename=(q=c)
  pub both_renamed : refused [] (over_two (renamings_at 20 (renaming_at 28 (codes "a") (codes "c") ∷ renaming_at 32 (codes "b") (codes "c") ∷ []) ∷ [])) ≡ refused_at DuplicateName 34
  pub renamed_again : refused [] (over_two (renamings_at 20 (renaming_at 28 (codes "a") (codes "c") ∷ renaming_at 32 (codes "a") (codes "d") ∷ []) ∷ [])) ≡ refused_at DuplicateName 32
  pub nothing_renamed : refused [] (over_two (renamings_at 20 (renaming_at 28 (codes "q") (codes "c") ∷ []) ∷ [])) ≡ refused_at UnknownName 28
  -- keep=(a q), keep=(q) and drop=(a b), and keep=(a) keep=(b)
  pub unknown_kept : refused [] (over_two (listing_at 20 (codes "keep") (word_in 26 (codes "a") ∷ word_in 28 (codes "q") ∷ []) ∷ [])) ≡ refused_at UnknownName 28
  pub nothing_kept : refused [] (over_two (listing_at 20 (codes "keep") (word_in 26 (codes "q") ∷ []) ∷ [])) ≡ refused_at NoColumns 6
  pub all_dropped : refused [] (over_two (listing_at 20 (codes "drop") (word_in 26 (codes "a") ∷ word_in 28 (codes "b") ∷ []) ∷ [])) ≡ refused_at NoColumns 6
  pub option_again : refused [] (over_two (listing_at 20 (codes "keep") (word_in 26 (codes "a") ∷ []) ∷ listing_at 40 (codes "keep") (word_in 46 (codes "a") ∷ []) ∷ [])) ≡ refused_at Misplaced 40
  -- a thread program without a column: drop k;
  pub thread_without_columns : refused [] (thread_unit (bigints_at 20 (codes "k" ∷ []) ∷ Listed (word_in 50 (codes "drop")) (word_in 55 (codes "k") ∷ []) (col 56) ∷ [])) ≡ refused_at NoColumns 8
  -- sixteen outputs, and one more; and `_null_`
  pub seventeenth_output : refused [] (record (data_unit (bigints_at 80 (codes "y" ∷ []) ∷ running [] ∷ [])) { outputs = outputs_and sixteen_tables (codes "q") }) ≡ refused_at TooManyNames 60
  pub null_behind_sixteen : refused [] (record (data_unit (bigints_at 80 (codes "y" ∷ []) ∷ running [] ∷ [])) { outputs = outputs_and sixteen_tables (codes "_null_") }) ≡ refused_at Misplaced 60
  pub output_again : refused [] (record (data_unit (bigints_at 80 (codes "y" ∷ []) ∷ running [] ∷ [])) { outputs = outputs_and sixteen_tables (codes "B") }) ≡ refused_at DuplicateName 60

-- ---- what a name means

-- BY variables, aliases, names given twice, and numbers
pub record RuleNameExamples : Type 0 where
  -- set s; by a a; and by q; and by a; with y = first.a; and y = first.b;
  pub by_again : refused [] (by_unit (word_in 225 (codes "a") ∷ word_in 227 (codes "a") ∷ []) []) ≡ refused_at DuplicateName 227
  pub by_no_column : refused [] (by_unit (word_in 225 (codes "q") ∷ []) []) ≡ refused_at UnknownName 225
  pub by_a_declared_one : refused [] (by_unit (word_in 225 (codes "y") ∷ []) []) ≡ refused_at UnknownName 225
  pub flag_is_taken : refused [] (by_unit (word_in 225 (codes "a") ∷ []) (member_into 250 (codes "y") (codes "first") (codes "a") ∷ [])) ≡ None
  pub flag_of_no_by : refused [] (by_unit (word_in 225 (codes "a") ∷ []) (member_into 250 (codes "y") (codes "first") (codes "b") ∷ [])) ≡ refused_at UnknownName 254
  -- m(v, w); and m(v, v); and m(v, w); where m has w = a; and where m calls n, which has w = w;
  pub two_variables : refused [] (in_out_unit [] (running (call_m (codes "v") (codes "w")) ∷ [])) ≡ None
  pub one_variable : refused [] (in_out_unit [] (running (call_m (codes "v") (codes "v")) ∷ [])) ≡ refused_at AliasedArgument 224
  pub reached_variable : refused [] (in_out_unit (name_into 100 (codes "w") (codes "a") ∷ []) (running (call_m (codes "v") (codes "w")) ∷ [])) ≡ refused_at AliasedArgument 224
  pub reached_behind_a_call : refused [] (in_out_unit (call_of 100 (codes "n") [] ∷ [])
      (Defined (method_placed_at 120 (codes "n") [] None (name_into 140 (codes "w") (codes "w") ∷ [])) ∷ running (call_m (codes "v") (codes "w")) ∷ [])) ≡ refused_at AliasedArgument 224
  -- two globals: dcl bigint k; dcl bigint K; two parameters and two methods
  pub global_again : refused [] (data_unit (bigints_at 10 (codes "k" ∷ []) ∷ bigints_at 40 (codes "K" ∷ []) ∷ running [] ∷ [])) ≡ refused_at DuplicateName 51
  pub parameter_again : refused [] (data_unit (bigints_at 10 (codes "k" ∷ []) ∷ Defined (method_placed_at 40 (codes "m") (parameter_placed_at 60 None (codes "a") ∷ parameter_placed_at 80 None (codes "a") ∷ []) None []) ∷ running [] ∷ [])) ≡ refused_at DuplicateName 87
  pub method_again : refused [] (data_unit (bigints_at 10 (codes "k" ∷ []) ∷ running [] ∷ Defined (method_placed_at 300 (codes "run") [] None []) ∷ [])) ≡ refused_at DuplicateName 307
  -- a name of a variable and of an instance is no less a variable: dcl bigint k; dcl package hash h([x],[k]); or h([k],[x]); then
  -- dcl bigint x; dcl package hash x([k],[k]); and x = k; and m(v, w); before such two of x and of w
  pub key_given_twice : refused [] (data_unit (bigints_at 10 (codes "k" ∷ []) ∷ hash_at 30 (codes "h") (codes "x") (codes "k") ∷ bigints_at 70 (codes "x" ∷ []) ∷ hash_at 100 (codes "x") (codes "k") (codes "k") ∷ running [] ∷ [])) ≡ refused_at DuplicateName 117
  pub data_variable_given_twice : refused [] (data_unit (bigints_at 10 (codes "k" ∷ []) ∷ hash_at 30 (codes "h") (codes "k") (codes "x") ∷ bigints_at 70 (codes "x" ∷ []) ∷ hash_at 100 (codes "x") (codes "k") (codes "k") ∷ running [] ∷ [])) ≡ refused_at DuplicateName 117
  pub target_given_twice : refused [] (data_unit (running (name_into 220 (codes "x") (codes "k") ∷ []) ∷ bigints_at 300 (codes "k" ∷ codes "x" ∷ []) ∷ hash_at 340 (codes "x") (codes "k") (codes "k") ∷ [])) ≡ refused_at DuplicateName 357
  pub argument_given_twice : refused [] (in_out_unit [] (running (call_m (codes "v") (codes "w")) ∷ hash_at 340 (codes "w") (codes "v") (codes "v") ∷ [])) ≡ refused_at DuplicateName 357
  -- decimal(39,0), decimal(05,06), decimal(38,38), varchar(0), varchar(1024) and varchar(1025)
  pub great_precision : refused [] (data_unit (declared_as (decimal_as (codes "39") (codes "0")) ∷ running [] ∷ [])) ≡ refused_at BadNumber 22
  pub scale_above_precision : refused [] (data_unit (declared_as (decimal_as (codes "05") (codes "06")) ∷ running [] ∷ [])) ≡ refused_at BadNumber 25
  pub greatest_precision : refused [] (data_unit (declared_as (decimal_as (codes "38") (codes "38")) ∷ running [] ∷ [])) ≡ None
  pub no_width : refused [] (data_unit (declared_as (varchar_as (codes "0")) ∷ running [] ∷ [])) ≡ refused_at BadNumber 22
  pub greatest_width : refused [] (data_unit (declared_as (varchar_as (codes "1024")) ∷ running [] ∷ [])) ≡ None
  pub great_width : refused [] (data_unit (declared_as (varchar_as (codes "1025")) ∷ running [] ∷ [])) ≡ refused_at BadNumber 22
  -- set from i threads=64; and threads=65;
  pub most_threads : refused (thread_t 1) (data_unit (thread_at 50 (codes "t") (codes "i") ∷ reading_run (from_i_in_threads (codes "64")) [] ∷ [])) ≡ None
  pub more_threads : refused (thread_t 1) (data_unit (thread_at 50 (codes "t") (codes "i") ∷ reading_run (from_i_in_threads (codes "65")) [] ∷ [])) ≡ refused_at BadNumber 234

-- ---- an unknown thread program

-- nothing follows from a thread program that is not known but the refusal at its name
pub record UnknownThreadExamples : Type 0 where
  -- x.setparms(a); in `run`, before dcl thread nope x;
  pub parameters_of_unknown : refused [] (data_unit (bigints_at 10 (codes "a" ∷ []) ∷ running (call_on 220 (codes "x") (codes "setparms") (word_in 231 (codes "a") ∷ []) ∷ []) ∷ thread_at 400 (codes "nope") (codes "x") ∷ [])) ≡ refused_at UnknownName 411
  -- set from x; and b = c; c = b; m(c, w); a hash object over c, keep=(c) and drop c; where c may be a column of it
  pub value_may_be_column : refused [] (data_unit (from_unknown (name_into 230 (codes "b") (codes "c") ∷ []) (bigints_at 450 (codes "b" ∷ []) ∷ []))) ≡ refused_at UnknownName 411
  pub target_may_be_column : refused [] (data_unit (from_unknown (name_into 230 (codes "c") (codes "b") ∷ []) (bigints_at 450 (codes "b" ∷ []) ∷ []))) ≡ refused_at UnknownName 411
  pub argument_may_be_column : refused [] (in_out_unit [] (from_unknown (call_m (codes "c") (codes "w")) [])) ≡ refused_at UnknownName 411
  pub hash_variables_may_be_columns : refused [] (data_unit (hash_at 40 (codes "h") (codes "c") (codes "d") ∷ from_unknown [] [])) ≡ refused_at UnknownName 411
  pub kept_may_be_column : refused [] (data_with_options (codes "out") (listing_at 20 (codes "keep") (word_in 26 (codes "c") ∷ []) ∷ []) (from_unknown [] [])) ≡ refused_at UnknownName 411
  pub dropped_may_be_column : refused [] (data_unit (Listed (word_in 50 (codes "drop")) (word_in 55 (codes "c") ∷ []) (col 56) ∷ from_unknown [] [])) ≡ refused_at UnknownName 411
  -- m(c, c); : whatever it is, it is handed over twice
  pub column_handed_twice : refused [] (in_out_unit [] (from_unknown (call_m (codes "c") (codes "c")) [])) ≡ refused_at AliasedArgument 224
  -- but an instance is there, and is no value and no target: b = h; and h = b;
  pub instance_is_no_column : refused [] (data_unit (hash_at 40 (codes "h") (codes "b") (codes "b") ∷ from_unknown (name_into 230 (codes "b") (codes "h") ∷ []) (bigints_at 450 (codes "b" ∷ []) ∷ []))) ≡ refused_at UnknownName 234
  pub instance_is_no_target : refused [] (data_unit (hash_at 40 (codes "h") (codes "b") (codes "b") ∷ from_unknown (name_into 230 (codes "h") (codes "b") ∷ []) (bigints_at 450 (codes "b" ∷ []) ∷ []))) ≡ refused_at NotVariable 230
  -- b = c; without such a reading statement
  pub no_column : refused [] (data_unit (running (name_into 230 (codes "b") (codes "c") ∷ []) ∷ thread_at 400 (codes "nope") (codes "x") ∷ bigints_at 450 (codes "b" ∷ []) ∷ [])) ≡ refused_at UnknownName 234
