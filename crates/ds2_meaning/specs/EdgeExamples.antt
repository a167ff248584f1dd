-- What small programs leave at the edges: null on the right, ways out of loops, merges over several keys, columns in wider variables.
-- Each stands behind its source, and its places rise with its statements.
use Rattle.std.specs.Prelude.{◌≡◌, true, false, codes, [], ◌∷◌, ◌++◌, map, length, replicate, Some, None, pos}
use Rattle.ds2_value.specs.declared.comparison.Comparison.TheVariants as comparison
use Rattle.ds2_value.specs.declared.ty.Ty.TheVariants.{BigInt, Decimal as DecimalOf, Varchar}
use Rattle.ds2_value.specs.declared.value.Value.TheVariants.{Null}
use Rattle.ds2_value.specs.declared.value_function.ValueFunction.TheVariants as of_values
use Rattle.ds2_meaning.specs.declared.expressions.Function.TheVariants as function
use Rattle.ds2_meaning.specs.declared.expressions.Operation.TheVariants as operation
use Rattle.ds2_meaning.specs.declared.readings.Reading.TheVariants.{Set, Merge, From}
use Rattle.ds2_meaning.specs.ExampleWords.{col, natural, fixed, value_of_type, variable_of, int, decimal_constant, text_constant, binary, plus, function_of, assign_at, bigint, bigint_column, unit_with, program_with, seen, ran, ends_with}
use Rattle.ds2_meaning.specs.FurtherExamples.{variable_in, x_plus_one, where_x_is}
use Rattle.ds2_meaning.specs.ProgramExamples.{input_of, reader, with_columns, retaining, rows_over, two, merging}
use Rattle.ds2_meaning.specs.ProgramMeaning.{program_answer}
use Rattle.ds2_meaning.specs.ProgramTree.{OverTables, OverStage}
use Rattle.ds2_meaning.specs.StatementExamples.{with_methods}
use Rattle.ds2_meaning.specs.TypedExpression.{TypedExpression, Convert, Compared, Called, NoArgument}
use Rattle.ds2_meaning.specs.TypedStatement.{Leave, Continue, ReturnValue, Put, If, While, Until, Labelled}
use Rattle.ds2_meaning.specs.View.{all_statements}

-- q of type DECIMAL(5,1)
abbrev pub q_of_one_digit : TypedExpression
q_of_one_digit = value_of_type (codes "q") (DecimalOf 5 1)

-- null on the right, and ways out of loops
pub record EdgeExamples : Type 0 where
  -- dcl bigint a y; dcl decimal(5,1) p q; dcl varchar(3) t u; a = 1 + y; p = 1.5n * q; q = 1.5n / q; t = 'a' || u;
  pub null_on_the_right : ran (unit_with (map bigint (codes "a" ∷ codes "y" ∷ []) ++ map (variable_in (DecimalOf 5 1)) (codes "p" ∷ codes "q" ∷ []) ++ map (variable_in (Varchar 3)) (codes "t" ∷ codes "u" ∷ [])) (
      assign_at 1 (codes "a") (plus (int 1) (variable_of (codes "y")))
      ∷ assign_at 12 (codes "p") (Convert (binary operation.DecimalMultiply (DecimalOf 38 2) (decimal_constant 15 2 1) q_of_one_digit) (DecimalOf 5 1))
      ∷ assign_at 26 (codes "q") (Convert (binary operation.DecimalDivide (DecimalOf 38 6) (decimal_constant 15 2 1) q_of_one_digit) (DecimalOf 5 1))
      ∷ assign_at 40 (codes "t") (Convert (binary operation.Concatenate (Varchar 4) (text_constant (codes "a") 1) (value_of_type (codes "u") (Varchar 3))) (Varchar 3)) ∷ [])) 10
      ≡ ends_with ((Null ∷ Null ∷ Null ∷ Null ∷ Null ∷ Null ∷ []) ∷ []) (10 ∷ 6 ∷ 10 ∷ [])
  -- x = 0; s = 0; do until (x >= 2); x = x + 1; if x = 1 then continue; s = s + 1; end;
  pub until_continues_at_its_test : ran (program_with (codes "x" ∷ codes "s" ∷ []) (
      assign_at 1 (codes "x") (int 0) ∷ assign_at 8 (codes "s") (int 0)
      ∷ Until (col 15) (Compared comparison.GreaterOrEqual (variable_of (codes "x")) (int 2)) (all_statements (
      x_plus_one 33 ∷ where_x_is 44 1 (Continue (col 58)) ∷ assign_at 68 (codes "s") (plus (variable_of (codes "s")) (int 1)) ∷ [])) ∷ [])) 20
      ≡ ends_with ((natural 2 ∷ natural 1 ∷ []) ∷ []) (20 ∷ 9 ∷ 20 ∷ [])
  -- x = 0; do while (1); x = x + 1; if x = 2 then leave; end;
  pub while_is_left : ran (program_with (codes "x" ∷ []) (
      assign_at 1 (codes "x") (int 0) ∷ While (col 8) (int 1) (all_statements (x_plus_one 22 ∷ where_x_is 33 2 (Leave (col 47)) ∷ [])) ∷ [])) 20
      ≡ ends_with ((natural 2 ∷ []) ∷ []) (20 ∷ 11 ∷ 20 ∷ [])
  -- method k() returns bigint; do while (1); return 7; end; return 0; end; and x = k();
  pub return_out_of_while : ran (with_methods (record {
    name = codes "k";
    parameters = [];
    locals = [];
    returns = Some BigInt;
    body = all_statements (While (col 28) (int 1) (all_statements (ReturnValue (col 42) (int 7) ∷ [])) ∷ ReturnValue (col 57) (int 0) ∷ []);
  } ∷ [])
      (program_with (codes "x" ∷ []) (assign_at 120 (codes "x") (Called None 0 NoArgument BigInt) ∷ []))) 20
      ≡ ends_with ((natural 7 ∷ []) ∷ []) (20 ∷ 15 ∷ 20 ∷ [])
  -- merge x y / retain; by k; if q = 11 then p = 9; : what was assigned stays within its key
  pub assigned_within_a_key : rows_over (merging true (If (col 1) (Compared comparison.Equal (variable_of (codes "q")) (int 11)) (assign_at 16 (codes "p") (int 9)) ∷ []))
      ((codes "x", two 1 7 ∷ two 2 8 ∷ []) ∷ (codes "y", two 1 10 ∷ two 1 11 ∷ two 1 12 ∷ two 2 11 ∷ two 2 13 ∷ two 3 20 ∷ []) ∷ [])
      ≡ (natural 1 ∷ natural 7 ∷ natural 10 ∷ []) ∷ (natural 1 ∷ natural 9 ∷ natural 11 ∷ []) ∷ (natural 1 ∷ natural 9 ∷ natural 12 ∷ [])
      ∷ (natural 2 ∷ natural 9 ∷ natural 11 ∷ []) ∷ (natural 2 ∷ natural 9 ∷ natural 13 ∷ []) ∷ (natural 3 ∷ Null ∷ natural 20 ∷ []) ∷ []
  -- merge x y; by descending k;
  pub merged_descending : rows_over (with_columns (codes "k" ∷ codes "p" ∷ codes "q" ∷ []) (reader (
      Merge (input_of (codes "x") (codes "k" ∷ codes "p" ∷ []) ∷ input_of (codes "y") (codes "k" ∷ codes "q" ∷ []) ∷ []) (record { name = codes "k"; is_descending = true } ∷ []) false)
      [] (codes "k" ∷ codes "p" ∷ codes "q" ∷ []) []))
      ((codes "x", two 1 7 ∷ two 2 8 ∷ []) ∷ (codes "y", two 2 20 ∷ []) ∷ [])
      ≡ (natural 2 ∷ natural 8 ∷ natural 20 ∷ []) ∷ (natural 1 ∷ natural 7 ∷ Null ∷ []) ∷ []
  -- retain a; set t u; where u has no a: a retained column is set by each load
  pub retained_column : rows_over (retaining (codes "a" ∷ []) (with_columns (codes "a" ∷ codes "b" ∷ []) (reader (
      Set (input_of (codes "t") (codes "a" ∷ codes "b" ∷ []) ∷ input_of (codes "u") (codes "b" ∷ []) ∷ []) []) [] (codes "a" ∷ codes "b" ∷ []) [])))
      ((codes "t", two 1 5 ∷ []) ∷ (codes "u", (natural 6 ∷ []) ∷ []) ∷ [])
      ≡ two 1 5 ∷ (Null ∷ natural 6 ∷ []) ∷ []
  -- dcl decimal(20,1) x; set from s; where the thread program's x is BIGINT, and set to 3
  pub wider_than_the_thread : (seen (program_answer (OverStage (record (unit_with (variable_in (DecimalOf 20 1) (codes "x") ∷ []) []) {
    threads = record { name = codes "s"; parameters = [] } ∷ [];
    reading = From (codes "s") 1 (bigint_column (codes "x") ∷ []);
  }) (OverTables (record (program_with (codes "x" ∷ []) (assign_at 50 (codes "x") (int 3) ∷ [])) { thread = Some (codes "three") }))) [] (λ table. []) 10 0)).rows
      ≡ (fixed (pos 30) 1 ∷ []) ∷ []

-- texts of more than 1,024 characters are cut
pub record TextLimitExamples : Type 0 where
  -- x = length(t || t); where t has 600 characters
  pub joined_text_is_cut : ran (program_with (codes "x" ∷ []) (assign_at 1 (codes "x") (function_of (function.Value of_values.Length) BigInt (
      binary operation.Concatenate (Varchar 1024) (text_constant (replicate 600 97) 600) (text_constant (replicate 600 97) 600) ∷ [])) ∷ [])) 10
      ≡ ends_with ((natural 1024 ∷ []) ∷ []) (10 ∷ 9 ∷ 10 ∷ [])
  -- put u=; where u has 1,024 characters
  pub labelled_text_is_cut : map length (ran (program_with [] (Put (col 1) (Labelled (codes "u") (text_constant (replicate 1024 97) 1024) ∷ []) ∷ [])) 10).lines ≡ 1024 ∷ []
