-- What further small programs leave: null in each operand, the order of conversions, loops, calls, loads, faults. Each stands behind
-- its source, and its places rise with its statements.
use Rattle.std.specs.Prelude.{◌≡◌, ℕ, true, false, codes, List, [], ◌∷◌, ◌++◌, map, Some, None, pos, negsuc}
use Rattle.ds2_value.specs.declared.comparison.Comparison.TheVariants as comparison
use Rattle.ds2_value.specs.declared.fault.Ending.TheVariants.{Normal, Faulted}
use Rattle.ds2_value.specs.declared.fault.Fault.TheVariants.{BudgetSpent, DivideByZero, Overflow}
use Rattle.ds2_value.specs.declared.ty.Ty.{Ty}
use Rattle.ds2_value.specs.declared.ty.Ty.TheVariants.{BigInt, Decimal as DecimalOf, Char, Varchar}
use Rattle.ds2_value.specs.declared.value.Value.TheVariants.{Null, Txt}
use Rattle.ds2_value.specs.declared.value_function.ValueFunction.TheVariants as of_values
use Rattle.ds2_meaning.specs.declared.expressions.Function.TheVariants as function
use Rattle.ds2_meaning.specs.declared.expressions.Operation.TheVariants as operation
use Rattle.ds2_meaning.specs.declared.expressions.Prefix.TheVariants as prefix
use Rattle.ds2_meaning.specs.declared.globals.Variable as variables
use Rattle.ds2_meaning.specs.declared.location.Global.TheVariants.{First, Last, Present, Parameter}
use Rattle.ds2_meaning.specs.declared.location.Reference.TheVariants.{At, Local}
use Rattle.ds2_meaning.specs.declared.readings.Reading.{Reading}
use Rattle.ds2_meaning.specs.declared.readings.Reading.TheVariants.{Set, Merge, From}
use Rattle.ds2_meaning.specs.ExampleWords.{col, natural, fixed, global, value_of_type, variable_of, local, int, decimal_constant, text_constant, binary, plus, less, negated, function_of, assign_at, assign_local, bigint, by_value, bigint_column, stored, output_of, body_of, unit_with, program_with, seen, ran, ends_with, faults_at}
use Rattle.ds2_meaning.specs.HashObjects.{no_objects}
use Rattle.ds2_meaning.specs.Method.{MethodTree}
use Rattle.ds2_meaning.specs.ProgramExamples.{tables_of, input_of, by_ascending, reader, with_columns, rows_over, two, getting, merging, summing, totals, sales}
use Rattle.ds2_meaning.specs.ProgramMeaning.{program_answer}
use Rattle.ds2_meaning.specs.ProgramTree.{UnitTree, ProgramTree, OverTables, OverStage}
use Rattle.ds2_meaning.specs.Reading.{TableRows, first_grain, number_of_groups}
use Rattle.ds2_meaning.specs.StatementExamples.{one_by_zero, with_methods, calling, handed_in_and_out, fresh_method}
use Rattle.ds2_meaning.specs.TypedExpression.{TypedExpression, Constant, Variable, Widen, Convert, Prefixed, Chain, Link, NoLink, Compared, Called, NoArgument, ByValue, InOut}
use Rattle.ds2_meaning.specs.TypedStatement.{TypedStatement, Empty, Invoke, Construct, Leave, Continue, Return, ReturnValue, Output, Put, If, SelectValue, Count, While, Until, Otherwise, When, Text, Shown}
use Rattle.ds2_meaning.specs.View.{all_expressions, all_statements}

-- a variable of this type
abbrev pub variable_in : Ty → List ℕ → variables.Variable
variable_in ty name = record { name = name; ty = ty }

-- a null operand of each operator and function
pub record NullExamples : Type 0 where
  -- a = 1 - y; b = y * 2; c = -y; d = abs(y); e = mod(y, 0); f = length(u); g = mod(5, y);
  pub integers : ran (unit_with (map bigint (codes "a" ∷ codes "b" ∷ codes "c" ∷ codes "d" ∷ codes "e" ∷ codes "f" ∷ codes "g" ∷ codes "y" ∷ []) ++ variable_in (Varchar 3) (codes "u") ∷ []) (
      assign_at 1 (codes "a") (less (int 1) (variable_of (codes "y")))
      ∷ assign_at 11 (codes "b") (binary operation.IntegerMultiply BigInt (variable_of (codes "y")) (int 2))
      ∷ assign_at 21 (codes "c") (negated (variable_of (codes "y")))
      ∷ assign_at 31 (codes "d") (function_of (function.Value of_values.IntegerAbsolute) BigInt (variable_of (codes "y") ∷ []))
      ∷ assign_at 41 (codes "e") (function_of (function.Value of_values.IntegerModulo) BigInt (variable_of (codes "y") ∷ int 0 ∷ []))
      ∷ assign_at 51 (codes "f") (function_of (function.Value of_values.Length) BigInt (value_of_type (codes "u") (Varchar 3) ∷ []))
      ∷ assign_at 61 (codes "g") (function_of (function.Value of_values.IntegerModulo) BigInt (int 5 ∷ variable_of (codes "y") ∷ [])) ∷ [])) 10
      ≡ ends_with ((Null ∷ Null ∷ Null ∷ Null ∷ Null ∷ Null ∷ Null ∷ Null ∷ Null ∷ []) ∷ []) (10 ∷ 3 ∷ 10 ∷ [])
  -- dcl decimal(5,1) p q r s; p = floor(q); r = q - 1.5n; s = min(q, 1.5n);
  pub decimals : ran (unit_with (map (variable_in (DecimalOf 5 1)) (codes "p" ∷ codes "q" ∷ codes "r" ∷ codes "s" ∷ [])) (
      assign_at 1 (codes "p") (Convert (function_of (function.Value of_values.Floor) (DecimalOf 38 0) (value_of_type (codes "q") (DecimalOf 5 1) ∷ [])) (DecimalOf 5 1))
      ∷ assign_at 11 (codes "r") (Convert (binary operation.DecimalSubtract (DecimalOf 38 1) (value_of_type (codes "q") (DecimalOf 5 1)) (decimal_constant 15 2 1)) (DecimalOf 5 1))
      ∷ assign_at 21 (codes "s") (Convert (function_of function.Least (DecimalOf 38 1) (Convert (value_of_type (codes "q") (DecimalOf 5 1)) (DecimalOf 38 1) ∷ Convert (decimal_constant 15 2 1) (DecimalOf 38 1) ∷ [])) (DecimalOf 5 1)) ∷ [])) 10
      ≡ ends_with ((Null ∷ Null ∷ Null ∷ fixed (pos 15) 1 ∷ []) ∷ []) (10 ∷ 7 ∷ 10 ∷ [])
  -- dcl varchar(3) t v w u; dcl bigint y; dcl char(3) c; t = u || 'a'; v = substr('abc', y); w = substr('abc', 1, y); u = trim(u); c = null;
  pub texts : ran (unit_with (map (variable_in (Varchar 3)) (codes "t" ∷ codes "v" ∷ codes "w" ∷ codes "u" ∷ []) ++ bigint (codes "y") ∷ variable_in (Char 3) (codes "c") ∷ []) (
      assign_at 1 (codes "t") (Convert (binary operation.Concatenate (Varchar 4) (value_of_type (codes "u") (Varchar 3)) (text_constant (codes "a") 1)) (Varchar 3))
      ∷ assign_at 21 (codes "v") (function_of (function.Value of_values.SubstringFrom) (Varchar 3) (text_constant (codes "abc") 3 ∷ variable_of (codes "y") ∷ []))
      ∷ assign_at 41 (codes "w") (function_of (function.Value of_values.Substring) (Varchar 3) (text_constant (codes "abc") 3 ∷ int 1 ∷ variable_of (codes "y") ∷ []))
      ∷ assign_at 61 (codes "u") (function_of (function.Value of_values.Trim) (Varchar 3) (value_of_type (codes "u") (Varchar 3) ∷ []))
      ∷ assign_at 81 (codes "c") (Constant Null (Char 3)) ∷ [])) 10
      ≡ ends_with ((Null ∷ Null ∷ Null ∷ Null ∷ Null ∷ Null ∷ []) ∷ []) (10 ∷ 5 ∷ 10 ∷ [])

-- the least value of 1.5n and two other operands, each as a DECIMAL with 6 digits behind the point
abbrev pub least_beside : TypedExpression → TypedExpression → TypedExpression
least_beside a b = function_of function.Least (DecimalOf 38 6) (Convert (decimal_constant 15 2 1) (DecimalOf 38 6) ∷ Convert a (DecimalOf 38 6) ∷ Convert b (DecimalOf 38 6) ∷ [])

-- conversions come directly behind their operands
pub record ConversionExamples : Type 0 where
  -- dcl decimal(10,6) x; x = min(1.5n, 38 nines, 1 / 0);
  pub overflow_comes_first : ran (unit_with (variable_in (DecimalOf 10 6) (codes "x") ∷ []) (
      assign_at 7 (codes "x") (Convert (least_beside (decimal_constant 99999999999999999999999999999999999999 38 0) one_by_zero) (DecimalOf 10 6)) ∷ [])) 10
      ≡ faults_at Overflow 7 (10 ∷ 9 ∷ [])
  -- dcl decimal(10,6) x; x = min(1.5n, 1 / 0, 38 nines);
  pub division_comes_first : ran (unit_with (variable_in (DecimalOf 10 6) (codes "x") ∷ []) (
      assign_at 7 (codes "x") (Convert (least_beside one_by_zero (decimal_constant 99999999999999999999999999999999999999 38 0)) (DecimalOf 10 6)) ∷ [])) 10
      ≡ faults_at DivideByZero 7 (10 ∷ 9 ∷ [])
  -- dcl decimal(10,2) x; dcl bigint y; x = coalesce(y, 1, 2.50n);
  pub greatest_scale : ran (unit_with (variable_in (DecimalOf 10 2) (codes "x") ∷ bigint (codes "y") ∷ []) (
      assign_at 7 (codes "x") (Convert (function_of function.Coalesce (DecimalOf 38 2) (
      Convert (Widen (variable_of (codes "y"))) (DecimalOf 38 2) ∷ Convert (Widen (int 1)) (DecimalOf 38 2) ∷ Convert (decimal_constant 250 3 2) (DecimalOf 38 2) ∷ [])) (DecimalOf 10 2)) ∷ [])) 10
      ≡ ends_with ((fixed (pos 100) 2 ∷ Null ∷ []) ∷ []) (10 ∷ 9 ∷ 10 ∷ [])
  -- dcl decimal(5,1) x y z; x = mod(-7.5n, 2); y = abs(x); z = 1 + 0.5n;
  pub decimal_functions : ran (unit_with (map (variable_in (DecimalOf 5 1)) (codes "x" ∷ codes "y" ∷ codes "z" ∷ [])) (
      assign_at 1 (codes "x") (Convert (function_of (function.Value of_values.DecimalModulo) (DecimalOf 38 1) (Prefixed prefix.DecimalNegate (decimal_constant 75 2 1) (DecimalOf 2 1) ∷ Widen (int 2) ∷ [])) (DecimalOf 5 1))
      ∷ assign_at 21 (codes "y") (function_of (function.Value of_values.DecimalAbsolute) (DecimalOf 5 1) (value_of_type (codes "x") (DecimalOf 5 1) ∷ []))
      ∷ assign_at 31 (codes "z") (Convert (Chain (int 1) (Link true operation.DecimalAdd (decimal_constant 5 1 1) (DecimalOf 38 1) NoLink)) (DecimalOf 5 1)) ∷ [])) 10
      ≡ ends_with ((fixed (negsuc 14) 1 ∷ fixed (pos 15) 1 ∷ fixed (pos 15) 1 ∷ []) ∷ []) (10 ∷ 7 ∷ 10 ∷ [])
  -- dcl varchar(3) t u; dcl bigint x; t = coalesce(u, 'ab'); x = 5 ^= 5;
  pub first_text : ran (unit_with (map (variable_in (Varchar 3)) (codes "t" ∷ codes "u" ∷ []) ++ bigint (codes "x") ∷ []) (
      assign_at 1 (codes "t") (function_of function.Coalesce (Varchar 3) (value_of_type (codes "u") (Varchar 3) ∷ Convert (text_constant (codes "ab") 2) (Varchar 3) ∷ []))
      ∷ assign_at 21 (codes "x") (Compared comparison.NotEqual (int 5) (int 5)) ∷ [])) 10
      ≡ ends_with ((Txt (codes "ab") ∷ Null ∷ natural 0 ∷ []) ∷ []) (10 ∷ 8 ∷ 10 ∷ [])

-- x = x + 1;
abbrev pub x_plus_one : ℕ → TypedStatement
x_plus_one column = assign_at column (codes "x") (plus (variable_of (codes "x")) (int 1))

-- if x = n then this
abbrev pub where_x_is : ℕ → ℕ → TypedStatement → TypedStatement
where_x_is column n statement = If (col column) (Compared comparison.Equal (variable_of (codes "x")) (int n)) statement

-- loops with `leave`, `continue` and null
pub record RoundExamples : Type 0 where
  -- x = 0; do while (x < 2); x = x + 1; end;
  pub while_goes_on : ran (program_with (codes "x" ∷ []) (
      assign_at 1 (codes "x") (int 0) ∷ While (col 8) (Compared comparison.Less (variable_of (codes "x")) (int 2)) (all_statements (x_plus_one 25 ∷ [])) ∷ [])) 10
      ≡ ends_with ((natural 2 ∷ []) ∷ []) (10 ∷ 3 ∷ 10 ∷ [])
  -- x = 0; s = 0; do while (x < 2); x = x + 1; if x = 1 then continue; s = s + 1; end;
  pub continue_goes_to_the_test : ran (program_with (codes "x" ∷ codes "s" ∷ []) (
      assign_at 1 (codes "x") (int 0) ∷ assign_at 8 (codes "s") (int 0)
      ∷ While (col 15) (Compared comparison.Less (variable_of (codes "x")) (int 2)) (all_statements (
      x_plus_one 32 ∷ where_x_is 43 1 (Continue (col 57)) ∷ assign_at 67 (codes "s") (plus (variable_of (codes "s")) (int 1)) ∷ [])) ∷ [])) 20
      ≡ ends_with ((natural 2 ∷ natural 1 ∷ []) ∷ []) (20 ∷ 8 ∷ 20 ∷ [])
  -- x = 0; do until (y); x = x + 1; if x = 2 then leave; end;
  pub until_goes_on_with_null : ran (program_with (codes "x" ∷ codes "y" ∷ []) (
      assign_at 1 (codes "x") (int 0) ∷ Until (col 8) (variable_of (codes "y")) (all_statements (x_plus_one 22 ∷ where_x_is 33 2 (Leave (col 47)) ∷ [])) ∷ [])) 20
      ≡ ends_with ((natural 2 ∷ Null ∷ []) ∷ []) (20 ∷ 12 ∷ 20 ∷ [])
  -- do while (y); x = 1; end;
  pub while_ends_with_null : ran (program_with (codes "x" ∷ codes "y" ∷ []) (While (col 1) (variable_of (codes "y")) (all_statements (assign_at 15 (codes "x") (int 1) ∷ [])) ∷ [])) 10
      ≡ ends_with ((Null ∷ Null ∷ []) ∷ []) (10 ∷ 8 ∷ 10 ∷ [])
  -- do i = y to 3; end;
  pub null_start : ran (program_with (codes "i" ∷ codes "y" ∷ []) (Count (col 1) (global (codes "i")) (variable_of (codes "y")) (int 3) None (all_statements []) ∷ [])) 10
      ≡ ends_with ((Null ∷ Null ∷ []) ∷ []) (10 ∷ 8 ∷ 10 ∷ [])
  -- do i = 1 to 2 by 0; end;
  pub step_of_zero : ran (program_with (codes "i" ∷ []) (Count (col 1) (global (codes "i")) (int 1) (int 2) (Some (int 0)) (all_statements []) ∷ [])) 5
      ≡ faults_at BudgetSpent 1 (5 ∷ 0 ∷ [])
  -- select (1); when (y) x = 1; otherwise x = 2; end;
  pub null_when : ran (program_with (codes "x" ∷ codes "y" ∷ []) (
      SelectValue (col 1) (int 1) (When (all_expressions (variable_of (codes "y") ∷ [])) (assign_at 22 (codes "x") (int 1)) (Otherwise (assign_at 39 (codes "x") (int 2)))) ∷ [])) 10
      ≡ ends_with ((natural 2 ∷ Null ∷ []) ∷ []) (10 ∷ 8 ∷ 10 ∷ [])

-- method p(bigint n); k = n; end;
abbrev pub keeping_its_argument : MethodTree
keeping_its_argument = record { name = codes "p"; parameters = by_value (codes "n") ∷ []; locals = []; returns = None; body = all_statements (assign_at 50 (codes "k") (local (codes "n")) ∷ []) }

-- calls, and returns out of loops
pub record CallExamples : Type 0 where
  -- method k() returns bigint; dcl bigint i; do i = 1 to 5; if i = 3 then return i; end; return 0; end; and x = k();
  pub return_out_of_a_loop : ran (with_methods (record {
    name = codes "k";
    parameters = [];
    locals = bigint (codes "i") ∷ [];
    returns = Some BigInt;
    body = all_statements (
        Count (col 42) (Local (codes "i")) (int 1) (int 5) None (all_statements (If (col 57) (Compared comparison.Equal (local (codes "i")) (int 3)) (ReturnValue (col 71) (local (codes "i"))) ∷ [])) ∷ ReturnValue (col 86) (int 0) ∷ []);
  } ∷ [])
      (program_with (codes "x" ∷ []) (assign_at 120 (codes "x") (Called None 0 NoArgument BigInt) ∷ []))) 20
      ≡ ends_with ((natural 3 ∷ []) ∷ []) (20 ∷ 10 ∷ 20 ∷ [])
  -- method r(in_out bigint a); a = 1; return; a = 2; end; and r(x);
  pub return_in_the_middle : ran (with_methods (record {
    name = codes "r";
    parameters = handed_in_and_out (codes "a") ∷ [];
    locals = [];
    returns = None;
    body = all_statements (
        assign_local 28 (codes "a") (int 1) ∷ Return (col 35) ∷ assign_local 43 (codes "a") (int 2) ∷ []);
  } ∷ [])
      (program_with (codes "x" ∷ []) (Invoke (col 120) None 0 (InOut (global (codes "x")) NoArgument) ∷ []))) 10
      ≡ ends_with ((natural 1 ∷ []) ∷ []) (10 ∷ 6 ∷ 10 ∷ [])
  -- g();
  pub dropped_result : ran (with_methods (fresh_method ∷ []) (program_with (codes "x" ∷ []) (Invoke (col 120) None 0 NoArgument ∷ []))) 10
      ≡ ends_with ((Null ∷ []) ∷ []) (10 ∷ 6 ∷ 10 ∷ [])
  -- method keep(in_out bigint a, bigint b); end; method raise() returns bigint; x = 5; return 0; end; and x = 1; keep(x, raise());
  pub read_where_it_stands : ran (with_methods (
      record { name = codes "keep"; parameters = handed_in_and_out (codes "a") ∷ by_value (codes "b") ∷ []; locals = []; returns = None; body = all_statements [] }
      ∷ record { name = codes "raise"; parameters = []; locals = []; returns = Some BigInt; body = all_statements (assign_at 75 (codes "x") (int 5) ∷ ReturnValue (col 82) (int 0) ∷ []) } ∷ [])
      (program_with (codes "x" ∷ []) (assign_at 120 (codes "x") (int 1) ∷ Invoke (col 127) None 0 (InOut (global (codes "x")) (ByValue (Called None 1 NoArgument BigInt) NoArgument)) ∷ []))) 10
      ≡ ends_with ((natural 1 ∷ []) ∷ []) (10 ∷ 4 ∷ 10 ∷ [])
  -- x = f(3); with a budget that ends inside the second call
  pub spent_inside_a_call : ran (calling 3) 5 ≡ faults_at BudgetSpent 38 (5 ∷ 0 ∷ [])
  -- dcl package p q(1); dcl package p r(2); dcl package e w; x = q.get(); z = r.get();
  pub own_variables : ran (record (program_with (codes "x" ∷ codes "z" ∷ []) (
      assign_at 80 (codes "x") (Called (Some (codes "q")) 1 NoArgument BigInt) ∷ assign_at 92 (codes "z") (Called (Some (codes "r")) 1 NoArgument BigInt) ∷ [])) {
        instances = record { name = codes "q"; package' = codes "p"; variables = bigint (codes "k") ∷ []; objects = no_objects; methods = keeping_its_argument ∷ getting ∷ [] }
            ∷ record { name = codes "r"; package' = codes "p"; variables = bigint (codes "k") ∷ []; objects = no_objects; methods = keeping_its_argument ∷ getting ∷ [] }
            ∷ record { name = codes "w"; package' = codes "e"; variables = []; objects = no_objects; methods = [] } ∷ [];
        init = body_of (Construct (col 60) (codes "q") (Some 0) (ByValue (int 1) NoArgument) ∷ Construct (col 65) (codes "r") (Some 0) (ByValue (int 2) NoArgument) ∷ Construct (col 70) (codes "w") None NoArgument ∷ []);
      }) 20
      ≡ ends_with ((natural 1 ∷ natural 2 ∷ []) ∷ []) (13 ∷ 14 ∷ 20 ∷ [])
  -- method init(); output; end; method run(); x = 1; end; method term(); output; end;
  pub output_in_init_and_term : ran (record (program_with (codes "x" ∷ []) (assign_at 50 (codes "x") (int 1) ∷ [])) {
    init = body_of (Output (col 16) (0 ∷ []) ∷ []);
    term = body_of (Output (col 80) (0 ∷ []) ∷ []);
  }) 10
      ≡ ends_with ((Null ∷ []) ∷ (natural 1 ∷ []) ∷ []) (9 ∷ 9 ∷ 9 ∷ [])

-- set sales; by region prod;
abbrev pub by_region_and_product : Reading
by_region_and_product = Set (record { table = stored (codes "sales"); present = None; columns = record { name = codes "region"; ty = Varchar 1 } ∷ record { name = codes "prod"; ty = Varchar 1 } ∷ [] } ∷ [])
    (by_ascending (codes "region") ∷ by_ascending (codes "prod") ∷ [])

-- sales in regions of products
abbrev pub product_sales : TableRows
product_sales = tables_of ((codes "sales", (Txt (codes "N") ∷ Txt (codes "a") ∷ []) ∷ (Txt (codes "N") ∷ Txt (codes "b") ∷ []) ∷ (Txt (codes "S") ∷ Txt (codes "a") ∷ []) ∷ (Txt (codes "N") ∷ Txt (codes "a") ∷ []) ∷ []) ∷ [])

-- loads over several tables, and their groups
pub record ReadingExamples : Type 0 where
  -- set a(in=ia) b; by k; i = ia; f = first.k; l = last.k;
  pub interleaved_with_flags : rows_over (with_columns (codes "i" ∷ codes "f" ∷ codes "l" ∷ codes "k" ∷ []) (reader (Set (
      record { table = stored (codes "a"); present = Some (codes "ia"); columns = bigint_column (codes "k") ∷ [] } ∷ input_of (codes "b") (codes "k" ∷ []) ∷ []) (by_ascending (codes "k") ∷ []))
      (codes "i" ∷ codes "f" ∷ codes "l" ∷ []) (codes "k" ∷ []) (
      assign_at 1 (codes "i") (Variable (At (Present (codes "ia"))) BigInt) ∷ assign_at 9 (codes "f") (Variable (At (First (codes "k"))) BigInt) ∷ assign_at 22 (codes "l") (Variable (At (Last (codes "k"))) BigInt) ∷ [])))
      ((codes "a", (natural 1 ∷ []) ∷ (natural 2 ∷ []) ∷ []) ∷ (codes "b", (natural 1 ∷ []) ∷ (natural 2 ∷ []) ∷ (natural 2 ∷ []) ∷ []) ∷ [])
      ≡ (natural 1 ∷ natural 1 ∷ natural 0 ∷ natural 1 ∷ []) ∷ (natural 0 ∷ natural 0 ∷ natural 1 ∷ natural 1 ∷ [])
      ∷ (natural 1 ∷ natural 1 ∷ natural 0 ∷ natural 2 ∷ []) ∷ (natural 0 ∷ natural 0 ∷ natural 0 ∷ natural 2 ∷ []) ∷ (natural 0 ∷ natural 0 ∷ natural 1 ∷ natural 2 ∷ []) ∷ []
  -- merge x y / retain; by k; where the second key has no row of x
  pub retained_within_a_key : rows_over (merging true []) ((codes "x", two 1 7 ∷ []) ∷ (codes "y", two 1 10 ∷ two 1 11 ∷ two 2 20 ∷ []) ∷ [])
      ≡ (natural 1 ∷ natural 7 ∷ natural 10 ∷ []) ∷ (natural 1 ∷ natural 7 ∷ natural 11 ∷ []) ∷ (natural 2 ∷ Null ∷ natural 20 ∷ []) ∷ []
  -- merge x y; by k; where both tables have v, and y runs out
  pub last_giver_wins : rows_over (with_columns (codes "k" ∷ codes "v" ∷ []) (reader (Merge (input_of (codes "x") (codes "k" ∷ codes "v" ∷ []) ∷ input_of (codes "y") (codes "k" ∷ codes "v" ∷ []) ∷ []) (by_ascending (codes "k") ∷ []) false) [] (codes "k" ∷ codes "v" ∷ []) []))
      ((codes "x", two 1 5 ∷ two 1 8 ∷ []) ∷ (codes "y", two 1 6 ∷ []) ∷ []) ≡ two 1 6 ∷ two 1 8 ∷ []
  -- merge x y; by k; where x has no row
  pub merged_with_an_empty_table : rows_over (merging false []) ((codes "x", []) ∷ (codes "y", two 1 10 ∷ []) ∷ []) ≡ (natural 1 ∷ Null ∷ natural 10 ∷ []) ∷ []
  -- dcl decimal(20,1) a; dcl char(5) t; set s; where a is BIGINT and t is CHAR(2) in the table
  pub wider_variables : rows_over (record (unit_with (variable_in (DecimalOf 20 1) (codes "a") ∷ variable_in (Char 5) (codes "t") ∷ []) []) {
    reading = Set (record { table = stored (codes "s"); present = None; columns = bigint_column (codes "a") ∷ record { name = codes "t"; ty = Char 2 } ∷ [] } ∷ []) [];
  })
      ((codes "s", (natural 3 ∷ Txt (codes "ab") ∷ []) ∷ []) ∷ []) ≡ (fixed (pos 30) 1 ∷ Txt (codes "ab   ") ∷ []) ∷ []
  -- set sales; by region prod; : four loads, two regions, three products of a region
  pub groups_at_each_grain : (number_of_groups 0 by_region_and_product product_sales ≡ 4)
      × (number_of_groups 1 by_region_and_product product_sales ≡ 2) × (number_of_groups 2 by_region_and_product product_sales ≡ 3)
  -- set t; : without BY each load is a group
  pub groups_without_by : number_of_groups (first_grain (Set (input_of (codes "t") (codes "a" ∷ []) ∷ []) [])) (Set (input_of (codes "t") (codes "a" ∷ []) ∷ []) [])
      (tables_of ((codes "t", (natural 1 ∷ []) ∷ (natural 1 ∷ []) ∷ (natural 2 ∷ []) ∷ []) ∷ [])) ≡ 3

-- thread names; method run(); put n; x = 1; end; with a parameter n, and with this in `init`
abbrev pub naming : List TypedStatement → UnitTree
naming init = record (program_with (codes "x" ∷ []) (Put (col 40) (Shown (Variable (At (Parameter (codes "n"))) BigInt) ∷ []) ∷ assign_at 48 (codes "x") (int 1) ∷ [])) {
  thread = Some (codes "names");
  parameters = bigint (codes "n") ∷ [];
  init = body_of init;
}

-- a program that puts a line in each of its units, and reads from a thread program
abbrev pub putting : UnitTree → ProgramTree
putting stage = OverStage (record (program_with [] (Put (col 200) (Text (codes "r") ∷ []) ∷ [])) {
  columns = bigint (codes "x") ∷ [];
  reading = From (codes "s") 1 (bigint_column (codes "x") ∷ []);
  outputs = output_of (bigint (codes "x") ∷ []) ∷ [];
  init = body_of (Put (col 180) (Text (codes "i") ∷ []) ∷ []);
  term = body_of (Put (col 220) (Text (codes "t") ∷ []) ∷ []);
}) (OverTables stage)

-- the thread program of sums, which faults where the amount is 2.25
abbrev pub faulting_sums : UnitTree
faulting_sums = summing (If (col 1) (Compared comparison.Equal (value_of_type (codes "amt") (DecimalOf 3 2)) (decimal_constant 225 3 2)) (If (col 20) one_by_zero (Empty (col 33))) ∷ []) (Output (col 75) (0 ∷ []))

-- faults in each unit, and the order of units
pub record FaultExamples : Type 0 where
  -- a fault in `init`
  pub in_init : ran (record (program_with (codes "x" ∷ []) []) { init = body_of (If (col 16) one_by_zero (Empty (col 29)) ∷ []) }) 10
      ≡ record { rows = []; lines = []; ending = Some (Faulted DivideByZero (col 16)); budgets_left = 9 ∷ [] }
  -- a fault in `term`
  pub in_term : ran (record (program_with (codes "x" ∷ []) (assign_at 50 (codes "x") (int 1) ∷ [])) { term = body_of (If (col 90) one_by_zero (Empty (col 103)) ∷ []) }) 10
      ≡ record { rows = (natural 1 ∷ []) ∷ []; lines = []; ending = Some (Faulted DivideByZero (col 90)); budgets_left = 10 ∷ 9 ∷ 9 ∷ [] }
  -- init, the stage, run and term, with a parameter that no `setparms` gave
  pub lines_in_order : seen (program_answer (putting (naming [])) [] (λ table. []) 10 0)
      ≡ record { rows = (natural 1 ∷ []) ∷ []; lines = codes "i" ∷ codes "null" ∷ codes "r" ∷ codes "t" ∷ []; ending = Some Normal; budgets_left = 9 ∷ 10 ∷ 8 ∷ 10 ∷ 9 ∷ 9 ∷ [] }
  -- a fault in the stage's `init`
  pub in_the_stage : seen (program_answer (putting (naming (If (col 30) one_by_zero (Empty (col 43)) ∷ []))) [] (λ table. []) 10 0)
      ≡ record { rows = []; lines = codes "i" ∷ []; ending = Some (Faulted DivideByZero (col 30)); budgets_left = 9 ∷ 9 ∷ [] }
  -- a fault in the third load of the stage: if amt = 2.25n then if 1 / 0 then;
  pub in_a_load_of_the_stage : seen (program_answer (totals faulting_sums) [] sales 20 1)
      ≡ record { rows = []; lines = []; ending = Some (Faulted DivideByZero (col 20)); budgets_left = 20 ∷ 20 ∷ 16 ∷ 17 ∷ 18 ∷ [] }
  -- what is known of that stage
  pub noted_of_the_stage : (program_answer (totals faulting_sums) [] sales 20 1).stages
      ≡ record { groups = 0; executed = 0; ending = Some (Faulted DivideByZero (col 20)) } ∷ []
