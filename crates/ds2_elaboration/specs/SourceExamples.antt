-- Small programs and sources: what they become, or where they are refused, and their layouts.
use Rattle.std.specs.Prelude.{◌≡◌, ℕ, codes, false, true, bytes_eq, if◌then◌else◌, List, [], ◌∷◌, map, Option, Some, None, Result, Ok, Err}
use Rattle.std.specs.Result.{result_map_both}
use Rattle.ds2_tree.specs.Globals.{GlobalItem, Listed}
use Rattle.ds2_tree.specs.Expressions.{Expression}
use Rattle.ds2_tree.specs.Statements.{Statement, If}
use Rattle.ds2_tree.specs.declared.expressions.ChainKind.TheVariants.{Concatenation}
use Rattle.ds2_tree.specs.declared.globals.Parameter.{Parameter}
use Rattle.ds2_tree.specs.declared.globals.TypeName.{TypeName}
use Rattle.ds2_tree.specs.Units.{DataProgram, AData}
use Rattle.ds2_tree.specs.declared.readings.Input.{Input}
use Rattle.ds2_tree.specs.declared.readings.Reading.{Reading}
use Rattle.ds2_tree.specs.declared.readings.Reading.TheVariants as read_as
use Rattle.ds2_tree.specs.declared.units.OutputOption.TheVariants as option
use Rattle.ds2_value.specs.declared.ty.Ty.TheVariants.{BigInt, Decimal as DecimalOf, Char, Varchar}
use Rattle.ds2_value.specs.declared.value.Value.TheVariants.{Null}
use Rattle.ds2_meaning.specs.declared.globals.Variable.{Variable}
use Rattle.ds2_meaning.specs.declared.expressions.Operation.TheVariants.{Concatenate}
use Rattle.ds2_meaning.specs.declared.location.Global.TheVariants.{Named, First, Last, Present}
use Rattle.ds2_meaning.specs.declared.location.Reference.TheVariants.{Local}
use Rattle.ds2_meaning.specs.declared.readings.Input as typed_input
use Rattle.ds2_meaning.specs.declared.readings.MentionedTable.{MentionedTable}
use Rattle.ds2_meaning.specs.declared.readings.Reading.TheVariants as typed_as
use Rattle.ds2_meaning.specs.declared.refusals.ScopeKind.TheVariants.{UnknownName}
use Rattle.ds2_meaning.specs.declared.refusals.TypeKind.TheVariants.{TypeClash, NoReturn}
use Rattle.ds2_meaning.specs.ExampleWords.{col, local, binary, bigint, bigint_column, stored}
use Rattle.ds2_meaning.specs.Method.{MethodTree}
use Rattle.ds2_names.specs.NameExamples.{word_in}
use Rattle.ds2_meaning.specs.ProgramTree.{UnitTree, ProgramTree, reader_of}
use Rattle.ds2_meaning.specs.Reading.{inputs_of}
use Rattle.ds2_names.specs.SourceUnit.{TableColumns}
use Rattle.ds2_meaning.specs.TypedExpression.{Constant, Variable as Reads, Widen, Convert}
use Rattle.ds2_meaning.specs.TypedStatement.{TypedStatements, Finish, Next, ReturnValue}
use Rattle.ds2_layout.specs.declared.slot.SlotRole.TheVariants.{Cleared, Kept, Column, Flag}
use Rattle.ds2_elaboration.specs.Elaboration.{ProgramRefusal, OfNames, OfTypes, elaborated_source}
use Rattle.ds2_layout.specs.Layout.{slot_for, layout_of}
use Rattle.ds2_elaboration.specs.OperatorExamples.{no_columns_at_all, program_around, statements_of_run, refused_in}
use Rattle.ds2_elaboration.specs.SourceWords.{becomes_alone, typed_alone, name_at, integer_at, decimal_at, null_at, chained, sets, returns_at, bigint_word, decimal_words, text_words, parameter_at, declares, returning, method_at, program_from}

-- ---- programs that read tables

-- the tables of the store: each has one column k, of a type of its own
abbrev pub small_tables : TableColumns
small_tables table =
    if bytes_eq table (codes "whole") then bigint_column (codes "k") ∷ []
    else if bytes_eq table (codes "fixed") then record { name = codes "k"; ty = DecimalOf 3 1 } ∷ []
    else if bytes_eq table (codes "short") then record { name = codes "k"; ty = Char 2 } ∷ []
    else if bytes_eq table (codes "long") then record { name = codes "k"; ty = Char 3 } ∷ []
    else if bytes_eq table (codes "free") then record { name = codes "k"; ty = Varchar 2 } ∷ []
    else []

-- a table of a reading statement
abbrev pub read_at : ℕ → List ℕ → Input
read_at column table = record { table = word_in column table; flag = None }

-- set and these tables;
abbrev pub set_of_tables : List Input → Option Reading
set_of_tables inputs = Some (read_as.Set (word_in 100 (codes "set")) inputs (col 999) None)

-- a program with these declarations that reads these tables and does nothing
abbrev pub reading_program : List GlobalItem → List Input → DataProgram
reading_program globals inputs = program_from (method_at 80 (codes "run") [] None (set_of_tables inputs) [] ∷ globals)

-- the columns of the reading statement of a program that is not refused
abbrev pub columns_of : Result UnitTree ProgramRefusal → Result (List Variable) ProgramRefusal
columns_of = result_map_both (λ (p : UnitTree). p.columns) (λ refusal. refusal)

-- what the columns of two tables become beside declared variables
abbrev pub columns_over : List GlobalItem → List ℕ → List ℕ → Result (List Variable) ProgramRefusal
columns_over globals first second = columns_of (becomes_alone small_tables (reading_program globals (read_at 104 first ∷ read_at 112 second ∷ [])))

-- what the columns of three tables become
abbrev pub columns_over_three : List ℕ → List ℕ → List ℕ → Result (List Variable) ProgramRefusal
columns_over_three first second third =
    columns_of (becomes_alone small_tables (reading_program [] (read_at 104 first ∷ read_at 112 second ∷ read_at 120 third ∷ [])))

-- a TypeClash in this column
abbrev pub clash_in : ℕ → Result (List Variable) ProgramRefusal
clash_in column = Err (OfTypes (record { kind = TypeClash; place = col column }))

-- ---- methods and outputs

-- method h(parameter) returns this type; and this statement, end; beside i
abbrev pub returning_program : Parameter → TypeName → Statement → DataProgram
returning_program parameter ty statement =
    program_from (declares 10 bigint_word (codes "i") ∷ method_at 60 (codes "h") (parameter ∷ []) (returning ty) None (statement ∷ []) ∷ [])

-- if condition then return value; with the return in column 85
abbrev pub returns_if : ℕ → Expression → Expression → Statement
returns_if column condition value = If (word_in column (codes "if")) condition (word_in 999 (codes "then")) (returns_at 85 value)

-- method h() returns bigint; and this statement, end; beside i
abbrev pub program_with_method : Statement → DataProgram
program_with_method statement =
    program_from (declares 10 bigint_word (codes "i") ∷ method_at 60 (codes "h") [] (returning bigint_word) None (statement ∷ []) ∷ [])

-- the statements of the methods of a program
abbrev pub bodies_of : UnitTree → List TypedStatements
bodies_of p = map (λ (m : MethodTree). m.body) p.methods

-- the statements of the methods of a program that is not refused
abbrev pub bodies_unless_refused : Result UnitTree ProgramRefusal → Result (List TypedStatements) ProgramRefusal
bodies_unless_refused = result_map_both bodies_of (λ refusal. refusal)

-- data out(rename=(k=z)) rest(drop=(k) overwrite=yes); with the declared variables i and k
abbrev pub program_with_options : DataProgram
program_with_options = record {
  keyword = word_in 1 (codes "data");
  outputs =
      record { table = word_in 6 (codes "out"); options = Some (record { opening = col 9; list = option.Rename (word_in 10 (codes "rename")) (col 16) (col 17) (record { old = word_in 18 (codes "k"); equals = col 19; new = word_in 20 (codes "z") } ∷ []) (col 21) ∷ []; closing = col 22 }) }
      ∷ record { table = word_in 24 (codes "rest"); options = Some (record { opening = col 28; list = option.Listed (word_in 29 (codes "drop")) (col 33) (col 34) (word_in 35 (codes "k") ∷ []) (col 36) ∷ option.Overwrite (word_in 37 (codes "overwrite")) (col 46) (word_in 47 (codes "yes")) ∷ []; closing = col 50 }) }
      ∷ [];
  semicolon = col 51;
  globals = declares 60 bigint_word (codes "i") ∷ declares 70 bigint_word (codes "k") ∷ [];
  end_keyword = word_in 999 (codes "enddata");
  end = col 999;
}

-- merge short long / retain; by descending k;
abbrev pub merging_program : DataProgram
merging_program = program_from (method_at 80 (codes "run") [] None (Some (read_as.Merge (word_in 100 (codes "merge")) (read_at 106 (codes "short") ∷ read_at 112 (codes "long") ∷ [])
    (Some (record { slash = col 117; keyword = word_in 119 (codes "retain") })) (col 125)
    (record { keyword = word_in 127 (codes "by"); variables = record { descending = Some (word_in 130 (codes "descending")); name = word_in 141 (codes "k") } ∷ []; end = col 142 }))) [] ∷ [])

-- what becomes of methods, columns and outputs
pub record ProgramTypeExamples : Type 0 where
  -- if i then return 1; : does not surely return
  pub no_return : statements_of_run (becomes_alone no_columns_at_all (program_with_method (returns_if 75 (name_at 78 (codes "i")) (integer_at 92 (codes "1"))))) ≡ refused_in NoReturn 67
  -- return 1;
  pub surely_returned : statements_of_run (becomes_alone no_columns_at_all (program_with_method (returns_at 75 (integer_at 82 (codes "1"))))) ≡ Ok Finish
  -- return a; of a BIGINT from a method that returns decimal(5,2)
  pub returned_value_converted : bodies_of (typed_alone no_columns_at_all (program_around []))
      ≡ Next (ReturnValue (col 40) (Convert (Widen (local (codes "a"))) (DecimalOf 5 2))) Finish ∷ Finish ∷ []
  -- return a; of a BIGINT from a method that returns decimal(19,0) : widened alone
  pub widened_alone : bodies_unless_refused (becomes_alone no_columns_at_all (returning_program (parameter_at 70 bigint_word (codes "a")) (decimal_words (codes "19") (codes "0")) (returns_at 75 (name_at 82 (codes "a")))))
      ≡ Ok (Next (ReturnValue (col 75) (Widen (local (codes "a")))) Finish ∷ [])
  -- return a || a; of 1,000 characters from a method that returns varchar(1024) : cut to that, and not converted
  pub joined_at_most : bodies_unless_refused (becomes_alone no_columns_at_all (returning_program (parameter_at 70 (text_words (codes "char") (codes "1000")) (codes "a")) (text_words (codes "varchar") (codes "1024")) (returns_at 75 (chained Concatenation 84 (codes "||") (name_at 82 (codes "a")) (name_at 87 (codes "a"))))))
      ≡ Ok (Next (ReturnValue (col 75) (binary Concatenate (Varchar 1024) (Reads (Local (codes "a")) (Char 1000)) (Reads (Local (codes "a")) (Char 1000)))) Finish ∷ [])
  -- return null; from a method that returns bigint
  pub null_returned : bodies_unless_refused (becomes_alone no_columns_at_all (program_with_method (returns_at 75 (null_at 82))))
      ≡ Ok (Next (ReturnValue (col 75) (Constant Null BigInt)) Finish ∷ [])
  -- return 1.5n; from it : at the word
  pub decimal_returned : bodies_unless_refused (becomes_alone no_columns_at_all (program_with_method (returns_at 75 (decimal_at 82 (codes "1.5n")))))
      ≡ Err (OfTypes (record { kind = TypeClash; place = col 75 }))
  -- set short long; : the columns join
  pub columns_joined : columns_over [] (codes "short") (codes "long") ≡ Ok (record { name = codes "k"; ty = Char 3 } ∷ [])
  -- set whole fixed; : a BIGINT counts as 19 digits
  pub numbers_joined : columns_over [] (codes "whole") (codes "fixed") ≡ Ok (record { name = codes "k"; ty = DecimalOf 20 1 } ∷ [])
  -- set whole short; : at the second table
  pub columns_clash : columns_over [] (codes "whole") (codes "short") ≡ clash_in 112
  -- set short long short; set short long whole; set short whole long; : at the first table at which the join fails
  pub three_joined : columns_over_three (codes "short") (codes "long") (codes "short") ≡ Ok (record { name = codes "k"; ty = Char 3 } ∷ [])
  pub third_clashes : columns_over_three (codes "short") (codes "long") (codes "whole") ≡ clash_in 120
  pub second_of_three_clashes : columns_over_three (codes "short") (codes "whole") (codes "long") ≡ clash_in 112
  -- dcl bigint k; set whole fixed; : the declared variable isn't what the join gives
  pub declared_clashes : columns_over (declares 10 bigint_word (codes "k") ∷ []) (codes "whole") (codes "fixed") ≡ clash_in 112
  -- dcl bigint k; set fixed whole; : at the first table
  pub declared_clashes_first : columns_over (declares 10 bigint_word (codes "k") ∷ []) (codes "fixed") (codes "whole") ≡ clash_in 104
  -- dcl varchar(3) k; set short free; and dcl char(3) k; set short free; : a CHAR and a VARCHAR join to a VARCHAR
  pub declared_joins : columns_over (declares 10 (text_words (codes "varchar") (codes "3")) (codes "k") ∷ []) (codes "short") (codes "free") ≡ Ok []
  pub declared_char_clashes : columns_over (declares 10 (text_words (codes "char") (codes "3")) (codes "k") ∷ []) (codes "short") (codes "free") ≡ clash_in 112
  -- out has z in place of k, rest has i alone and may be written over
  pub outputs_made : (typed_alone no_columns_at_all program_with_options).outputs
      ≡ record { name = codes "out"; overwrites = false; columns = record { name = codes "i"; source = codes "i"; ty = BigInt } ∷ record { name = codes "z"; source = codes "k"; ty = BigInt } ∷ [] }
      ∷ record { name = codes "rest"; overwrites = true; columns = record { name = codes "i"; source = codes "i"; ty = BigInt } ∷ [] } ∷ []
  -- no `run`: no load; `run` without a reading statement: one
  pub no_load : (typed_alone no_columns_at_all program_with_options).reading ≡ typed_as.Nothing
  pub one_load : (typed_alone no_columns_at_all (program_around [])).reading ≡ typed_as.Once
  -- the tables of a `merge` with their columns, its BY variables, and `/ retain`
  pub merged : (typed_alone small_tables merging_program).reading
      ≡ typed_as.Merge (record { table = stored (codes "short"); present = None; columns = record { name = codes "k"; ty = Char 2 } ∷ [] } ∷ record { table = stored (codes "long"); present = None; columns = record { name = codes "k"; ty = Char 3 } ∷ [] } ∷ [])
      (record { name = codes "k"; is_descending = true } ∷ []) true

-- ---- sources

-- for each program of a source that is not refused its columns
abbrev pub columns_of_each : Result (List ProgramTree) ProgramRefusal → Result (List (List Variable)) ProgramRefusal
columns_of_each = result_map_both (map (λ (p : ProgramTree). (reader_of p).columns)) (λ refusal. refusal)

-- a source of two programs that are made of these globals
abbrev pub two_programs : List GlobalItem → List GlobalItem → Result (List (List Variable)) ProgramRefusal
two_programs first second = columns_of_each (elaborated_source small_tables (AData (program_from first) ∷ AData (program_from second) ∷ []))

-- for each program of a source that is not refused the tables of its reading statement
abbrev pub tables_of_each : Result (List ProgramTree) ProgramRefusal → Result (List (List MentionedTable)) ProgramRefusal
tables_of_each = result_map_both (map (λ (p : ProgramTree). map (λ (i : typed_input.Input). i.table) (inputs_of (reader_of p).reading))) (λ refusal. refusal)

-- method run(); target = i; end; beside i
abbrev pub setting_program : List ℕ → List GlobalItem
setting_program target = declares 10 bigint_word (codes "i") ∷ method_at 80 (codes "run") [] None None (sets 100 target (name_at 104 (codes "i")) ∷ []) ∷ []

-- what becomes of sources of two programs
pub record TwoProgramExamples : Type 0 where
  -- the second program reads what the first one makes
  pub later_program_reads : two_programs (setting_program (codes "i")) (method_at 80 (codes "run") [] None (set_of_tables (read_at 104 (codes "out") ∷ [])) [] ∷ [])
      ≡ Ok ([] ∷ (bigint (codes "i") ∷ []) ∷ [])
  -- set out whole; where the first program makes out
  pub tables_have_makers : tables_of_each (elaborated_source small_tables (AData (program_from (setting_program (codes "i")))
      ∷ AData (program_from (method_at 80 (codes "run") [] None (set_of_tables (read_at 104 (codes "out") ∷ read_at 112 (codes "whole") ∷ [])) [] ∷ [])) ∷ []))
      ≡ Ok ([] ∷ (record { name = codes "out"; maker = 1 } ∷ stored (codes "whole") ∷ []) ∷ [])
  -- the first program's refusal is given, and the second's is not
  pub first_program_refused : two_programs (setting_program (codes "q")) (setting_program (codes "r")) ≡ Err (OfNames (record { kind = UnknownName; place = col 100 }))
  -- the first program's types are given, and the second's names are not
  pub first_types_refused : two_programs (declares 12 (text_words (codes "varchar") (codes "5")) (codes "v") ∷ setting_program (codes "v")) (setting_program (codes "q"))
      ≡ Err (OfTypes (record { kind = TypeClash; place = col 100 }))
  -- the second program's names are looked at behind the first program's types
  pub second_program_refused : two_programs (setting_program (codes "i")) (setting_program (codes "q")) ≡ Err (OfNames (record { kind = UnknownName; place = col 100 }))

-- ---- layouts

-- set whole (in=p); by k;
abbrev pub flagged_reading : Option Reading
flagged_reading = Some (read_as.Set (word_in 100 (codes "set"))
    (record { table = word_in 104 (codes "whole"); flag = Some (record { opening = col 110; keyword = word_in 111 (codes "in"); equals = col 113; name = word_in 114 (codes "p"); closing = col 115 }) } ∷ []) (col 116)
    (Some (record { keyword = word_in 118 (codes "by"); variables = record { descending = None; name = word_in 121 (codes "k") } ∷ []; end = col 122 })))

-- dcl bigint i j; retain i; method run(); set whole (in=p); by k; end;
abbrev pub flagged_program : DataProgram
flagged_program = program_from (
    declares 10 bigint_word (codes "i") ∷ declares 12 bigint_word (codes "j") ∷ Listed (word_in 20 (codes "retain")) (word_in 27 (codes "i") ∷ []) (col 28)
    ∷ method_at 80 (codes "run") [] None flagged_reading [] ∷ [])

-- the slots of small programs
pub record LayoutExamples : Type 0 where
  -- i is kept, j is set to null, k is a column; then the flags p, first.k and last.k; the output has i, j and k
  pub slots_in_order : layout_of (typed_alone small_tables flagged_program) ≡ record {
    slots =
        slot_for None (Named (codes "i")) BigInt Kept ∷ slot_for None (Named (codes "j")) BigInt Cleared ∷ slot_for None (Named (codes "k")) BigInt Column
        ∷ slot_for None (Present (codes "p")) BigInt Flag ∷ slot_for None (First (codes "k")) BigInt Flag ∷ slot_for None (Last (codes "k")) BigInt Flag ∷ [];
    projections = (0 ∷ 1 ∷ 2 ∷ []) ∷ [];
  }
  -- a renamed output has the slot of the old name
  pub renamed_output : (layout_of (typed_alone no_columns_at_all program_with_options)).projections ≡ (0 ∷ 1 ∷ []) ∷ (0 ∷ []) ∷ []
