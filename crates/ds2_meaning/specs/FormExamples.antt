-- What small programs leave with null on each side of each operator, with each comparison, in the order of evaluation, with further
-- faults and over tables, written out from the rules by hand. Each stands behind its source, and its places rise with its statements.
use Rattle.std.specs.Prelude.{◌≡◌, ℕ, ◌+◌, true, false, codes, List, [], ◌∷◌, map, Some, None, pos, negsuc}
use Rattle.ds2_value.specs.Row.{Row}
use Rattle.ds2_value.specs.declared.comparison.Comparison.{Comparison}
use Rattle.ds2_value.specs.declared.comparison.Comparison.TheVariants as comparison
use Rattle.ds2_value.specs.declared.fault.Ending.TheVariants.{Faulted}
use Rattle.ds2_value.specs.declared.fault.Fault.TheVariants.{BudgetSpent, DivideByZero, Overflow, Range}
use Rattle.ds2_value.specs.declared.ty.Ty.TheVariants.{BigInt, Decimal as DecimalOf, Varchar}
use Rattle.ds2_value.specs.declared.value.Value.TheVariants.{Null, Txt}
use Rattle.ds2_value.specs.declared.value_function.ValueFunction.TheVariants as of_values
use Rattle.ds2_meaning.specs.declared.expressions.Function.TheVariants as function
use Rattle.ds2_meaning.specs.declared.expressions.Operation.{Operation}
use Rattle.ds2_meaning.specs.declared.expressions.Operation.TheVariants as operation
use Rattle.ds2_meaning.specs.declared.expressions.Prefix.TheVariants as prefix
use Rattle.ds2_meaning.specs.declared.location.Global.TheVariants.{Parameter}
use Rattle.ds2_meaning.specs.declared.location.Reference.TheVariants.{At}
use Rattle.ds2_meaning.specs.declared.readings.Reading.TheVariants.{Set, From}
use Rattle.ds2_meaning.specs.ExampleWords.{col, natural, fixed, global, value_of_type, variable_of, local, int, decimal_constant, text_constant, binary, plus, less, negated, function_of, assign_at, assign_local, bigint, bigint_column, stored, body_of, unit_with, program_with, Seen, seen, ran, ends_with, faults_at}
use Rattle.ds2_meaning.specs.FurtherExamples.{variable_in, keeping_its_argument}
use Rattle.ds2_meaning.specs.HashObjects.{no_objects}
use Rattle.ds2_meaning.specs.Method.{MethodTree}
use Rattle.ds2_meaning.specs.ProgramExamples.{tables_of, input_of, reader, with_columns, ran_over, rows_over, two, getting}
use Rattle.ds2_meaning.specs.ProgramMeaning.{program_answer}
use Rattle.ds2_meaning.specs.ProgramTree.{UnitTree, OverTables, OverStage}
use Rattle.ds2_meaning.specs.StatementExamples.{one_by_zero, with_methods, handed_in_and_out}
use Rattle.ds2_meaning.specs.TypedExpression.{TypedExpression, Variable, Widen, Convert, Prefixed, Chain, Link, NoLink, Compared, Called, NoArgument, ByValue, InOut}
use Rattle.ds2_meaning.specs.TypedStatement.{TypedStatement, Assign, Invoke, Construct, ReturnValue, Put, If, Shown}
use Rattle.ds2_meaning.specs.View.{all_statements}

-- ---- operands

-- the value of q, which is DECIMAL(5,1)
abbrev pub the_null_decimal : TypedExpression
the_null_decimal = value_of_type (codes "q") (DecimalOf 5 1)

-- name = a value that is brought to DECIMAL(5,1);
abbrev pub decimal_into : ℕ → List ℕ → TypedExpression → TypedStatement
decimal_into column name value = assign_at column name (Convert value (DecimalOf 5 1))

-- 1.5n, an operator and a DECIMAL, with so many digits behind the point
abbrev pub behind_one_and_a_half : Operation → ℕ → TypedExpression → TypedExpression
behind_one_and_a_half operation scale other = binary operation (DecimalOf 38 scale) (decimal_constant 15 2 1) other

-- name = 1 compared with 1;
abbrev pub ones_compared : ℕ → List ℕ → Comparison → TypedStatement
ones_compared column name c = assign_at column name (Compared c (int 1) (int 1))

-- null on each side of each operator, null beside what is not null in each function, and what each comparison gives
pub record OperandExamples : Type 0 where
  -- a = y - 1; b = 2 * y; c = +y; d = 0 and y; e = 1 and y; f = 0 or y; g = 1 or y; h = 1 = y; k = y < 1; m = max(3, y, 2); n = coalesce(3, y); o = floor(y);
  pub integers_beside_null : ran (program_with (codes "a" ∷ codes "b" ∷ codes "c" ∷ codes "d" ∷ codes "e" ∷ codes "f" ∷ codes "g" ∷ codes "h" ∷ codes "k" ∷ codes "m" ∷ codes "n" ∷ codes "o" ∷ codes "y" ∷ []) (
      assign_at 1 (codes "a") (less (variable_of (codes "y")) (int 1))
      ∷ assign_at 12 (codes "b") (binary operation.IntegerMultiply BigInt (int 2) (variable_of (codes "y")))
      ∷ assign_at 23 (codes "c") (Prefixed prefix.Plus (variable_of (codes "y")) BigInt)
      ∷ assign_at 31 (codes "d") (binary operation.And BigInt (int 0) (variable_of (codes "y")))
      ∷ assign_at 44 (codes "e") (binary operation.And BigInt (int 1) (variable_of (codes "y")))
      ∷ assign_at 57 (codes "f") (binary operation.Or BigInt (int 0) (variable_of (codes "y")))
      ∷ assign_at 69 (codes "g") (binary operation.Or BigInt (int 1) (variable_of (codes "y")))
      ∷ assign_at 81 (codes "h") (Compared comparison.Equal (int 1) (variable_of (codes "y")))
      ∷ assign_at 92 (codes "k") (Compared comparison.Less (variable_of (codes "y")) (int 1))
      ∷ assign_at 103 (codes "m") (function_of function.Greatest BigInt (int 3 ∷ variable_of (codes "y") ∷ int 2 ∷ []))
      ∷ assign_at 121 (codes "n") (function_of function.Coalesce BigInt (int 3 ∷ variable_of (codes "y") ∷ []))
      ∷ assign_at 141 (codes "o") (function_of function.Unchanged BigInt (variable_of (codes "y") ∷ [])) ∷ [])) 20
      ≡ ends_with ((Null ∷ Null ∷ Null ∷ natural 0 ∷ Null ∷ Null ∷ natural 1 ∷ Null ∷ Null ∷ natural 3 ∷ natural 3 ∷ Null ∷ Null ∷ []) ∷ []) (20 ∷ 8 ∷ 20 ∷ [])
  -- dcl decimal(5,1) p r s t u v w x z q; p = q + 1.5n; r = 1.5n + q; s = 1.5n - q; t = q * 1.5n; u = -q; v = abs(q); w = mod(q, 2); x = mod(1.5n, q); z = ceil(q);
  pub decimals_beside_null : ran (unit_with (map (variable_in (DecimalOf 5 1)) (codes "p" ∷ codes "r" ∷ codes "s" ∷ codes "t" ∷ codes "u" ∷ codes "v" ∷ codes "w" ∷ codes "x" ∷ codes "z" ∷ codes "q" ∷ [])) (
      decimal_into 1 (codes "p") (binary operation.DecimalAdd (DecimalOf 38 1) the_null_decimal (decimal_constant 15 2 1))
      ∷ decimal_into 15 (codes "r") (behind_one_and_a_half operation.DecimalAdd 1 the_null_decimal)
      ∷ decimal_into 29 (codes "s") (behind_one_and_a_half operation.DecimalSubtract 1 the_null_decimal)
      ∷ decimal_into 43 (codes "t") (binary operation.DecimalMultiply (DecimalOf 38 2) the_null_decimal (decimal_constant 15 2 1))
      ∷ assign_at 57 (codes "u") (Prefixed prefix.DecimalNegate the_null_decimal (DecimalOf 5 1))
      ∷ assign_at 65 (codes "v") (function_of (function.Value of_values.DecimalAbsolute) (DecimalOf 5 1) (the_null_decimal ∷ []))
      ∷ decimal_into 77 (codes "w") (function_of (function.Value of_values.DecimalModulo) (DecimalOf 38 1) (the_null_decimal ∷ Widen (int 2) ∷ []))
      ∷ decimal_into 92 (codes "x") (function_of (function.Value of_values.DecimalModulo) (DecimalOf 38 1) (decimal_constant 15 2 1 ∷ the_null_decimal ∷ []))
      ∷ decimal_into 110 (codes "z") (function_of (function.Value of_values.Ceiling) (DecimalOf 38 0) (the_null_decimal ∷ [])) ∷ [])) 20
      ≡ ends_with ((Null ∷ Null ∷ Null ∷ Null ∷ Null ∷ Null ∷ Null ∷ Null ∷ Null ∷ Null ∷ []) ∷ []) (20 ∷ 11 ∷ 20 ∷ [])
  -- dcl decimal(5,1) d f; dcl decimal(5,2) e; d = 2.5n - 4; f = max(1.5n, 2); e = 0.125n;
  pub differences_and_rounding : ran (unit_with (variable_in (DecimalOf 5 1) (codes "d") ∷ variable_in (DecimalOf 5 1) (codes "f") ∷ variable_in (DecimalOf 5 2) (codes "e") ∷ []) (
      decimal_into 1 (codes "d") (binary operation.DecimalSubtract (DecimalOf 38 1) (decimal_constant 25 2 1) (Widen (int 4)))
      ∷ decimal_into 14 (codes "f") (function_of function.Greatest (DecimalOf 38 1) (Convert (decimal_constant 15 2 1) (DecimalOf 38 1) ∷ Convert (Widen (int 2)) (DecimalOf 38 1) ∷ []))
      ∷ assign_at 32 (codes "e") (Convert (decimal_constant 125 3 3) (DecimalOf 5 2)) ∷ [])) 10
      ≡ ends_with ((fixed (negsuc 14) 1 ∷ fixed (pos 20) 1 ∷ fixed (pos 13) 2 ∷ []) ∷ []) (10 ∷ 7 ∷ 10 ∷ [])
  -- a = 1 = 1; b = 1 ^= 1; c = 1 < 1; d = 1 <= 1; e = 1 > 1; f = 1 >= 1; g = 'a' < 'b'; h = 1.5n > 1;
  pub each_comparison : ran (program_with (codes "a" ∷ codes "b" ∷ codes "c" ∷ codes "d" ∷ codes "e" ∷ codes "f" ∷ codes "g" ∷ codes "h" ∷ []) (
      ones_compared 1 (codes "a") comparison.Equal ∷ ones_compared 12 (codes "b") comparison.NotEqual ∷ ones_compared 24 (codes "c") comparison.Less
      ∷ ones_compared 35 (codes "d") comparison.LessOrEqual ∷ ones_compared 47 (codes "e") comparison.Greater ∷ ones_compared 58 (codes "f") comparison.GreaterOrEqual
      ∷ assign_at 70 (codes "g") (Compared comparison.Less (text_constant (codes "a") 1) (text_constant (codes "b") 1))
      ∷ assign_at 85 (codes "h") (Compared comparison.Greater (decimal_constant 15 2 1) (Widen (int 1))) ∷ [])) 20
      ≡ ends_with ((natural 1 ∷ natural 0 ∷ natural 0 ∷ natural 1 ∷ natural 0 ∷ natural 1 ∷ natural 1 ∷ natural 1 ∷ []) ∷ []) (20 ∷ 12 ∷ 20 ∷ [])

-- ---- order

-- method h(in_out bigint a) returns bigint; a = a + 1; return a; end;
abbrev pub one_more_of : MethodTree
one_more_of = record {
  name = codes "h";
  parameters = handed_in_and_out (codes "a") ∷ [];
  locals = [];
  returns = Some BigInt;
  body = all_statements (assign_local 43 (codes "a") (plus (local (codes "a")) (int 1)) ∷ ReturnValue (col 54) (local (codes "a")) ∷ []);
}

-- method g() returns bigint; x = coalesce(x, 0) + 1; return x; end;
abbrev pub counting_calls : MethodTree
counting_calls = record {
  name = codes "g";
  parameters = [];
  locals = [];
  returns = Some BigInt;
  body = all_statements (
      assign_at 28 (codes "x") (plus (function_of function.Coalesce BigInt (variable_of (codes "x") ∷ int 0 ∷ [])) (int 1)) ∷ ReturnValue (col 53) (variable_of (codes "x")) ∷ []);
}

-- method f(decimal(3,1) a, decimal(3,1) b); end;
abbrev pub taking_decimals : MethodTree
taking_decimals = record {
  name = codes "f";
  parameters = record { name = codes "a"; ty = DecimalOf 3 1; is_in_out = false } ∷ record { name = codes "b"; ty = DecimalOf 3 1; is_in_out = false } ∷ [];
  locals = [];
  returns = None;
  body = all_statements [];
}

-- f(first, second); where each argument is brought to DECIMAL(3,1)
abbrev pub calling_with_decimals : TypedExpression → TypedExpression → UnitTree
calling_with_decimals first second = with_methods (taking_decimals ∷ []) (program_with (codes "x" ∷ []) (
    Invoke (col 120) None 0 (ByValue (Convert first (DecimalOf 3 1)) (ByValue (Convert second (DecimalOf 3 1)) NoArgument)) ∷ []))

-- operands and arguments from the left, each converted before the next, and what is handed back before anything else
pub record OrderExamples : Type 0 where
  -- x = 1; y = h(x) + x;
  pub handed_back_at_once : ran (with_methods (one_more_of ∷ []) (program_with (codes "x" ∷ codes "y" ∷ []) (
      assign_at 100 (codes "x") (int 1)
      ∷ assign_at 107 (codes "y") (plus (Called None 0 (InOut (global (codes "x")) NoArgument) BigInt) (variable_of (codes "x"))) ∷ []))) 20
      ≡ ends_with (two 2 4 ∷ []) (20 ∷ 15 ∷ 20 ∷ [])
  -- y = g() * 10 + g();
  pub operands_from_the_left : ran (with_methods (counting_calls ∷ []) (program_with (codes "x" ∷ codes "y" ∷ []) (
      assign_at 100 (codes "y") (Chain (Called None 0 NoArgument BigInt) (Link false operation.IntegerMultiply (int 10) BigInt (Link false operation.IntegerAdd (Called None 0 NoArgument BigInt) BigInt NoLink))) ∷ []))) 20
      ≡ ends_with (two 2 12 ∷ []) (20 ∷ 13 ∷ 20 ∷ [])
  -- a = 1 or 1 / 0; : both sides are evaluated
  pub or_evaluates_both : ran (program_with (codes "a" ∷ []) (assign_at 1 (codes "a") (binary operation.Or BigInt (int 1) one_by_zero) ∷ [])) 10 ≡ faults_at DivideByZero 1 (10 ∷ 9 ∷ [])
  -- f(99.95n, 1 / 0); and f(1 / 0, 99.95n);
  pub first_argument_overflows : ran (calling_with_decimals (decimal_constant 9995 4 2) one_by_zero) 10 ≡ faults_at Overflow 120 (10 ∷ 9 ∷ [])
  pub first_argument_divides : ran (calling_with_decimals one_by_zero (decimal_constant 9995 4 2)) 10 ≡ faults_at DivideByZero 120 (10 ∷ 9 ∷ [])

-- ---- faults

-- a program with an instance q(1) of package p, whose constructor has the statement k = n; in column 50, and with this budget
abbrev pub constructing : ℕ → Seen
constructing budget = ran (record (program_with (codes "x" ∷ []) []) {
  instances = record { name = codes "q"; package' = codes "p"; variables = bigint (codes "k") ∷ []; objects = no_objects; methods = keeping_its_argument ∷ getting ∷ [] } ∷ [];
  init = body_of (Construct (col 80) (codes "q") (Some 0) (ByValue (int 1) NoArgument) ∷ []);
}) budget

-- a fault at this column of `init`, with nothing of the budget left
abbrev pub spent_in_init : ℕ → Seen
spent_in_init column = record { rows = []; lines = []; ending = Some (Faulted BudgetSpent (col column)); budgets_left = 0 ∷ [] }

-- further faults of operations, and a budget that ends in a constructor
pub record FaultFormExamples : Type 0 where
  -- dcl varchar(3) t; t = substr('abc', 0);
  pub before_the_first : ran (unit_with (variable_in (Varchar 3) (codes "t") ∷ []) (assign_at 1 (codes "t") (function_of (function.Value of_values.SubstringFrom) (Varchar 3) (text_constant (codes "abc") 3 ∷ int 0 ∷ [])) ∷ [])) 10
      ≡ faults_at Range 1 (10 ∷ 9 ∷ [])
  -- dcl decimal(5,1) x; x = mod(7.5n, 0);
  pub decimal_remainder_of_zero : ran (unit_with (variable_in (DecimalOf 5 1) (codes "x") ∷ []) (
      decimal_into 7 (codes "x") (function_of (function.Value of_values.DecimalModulo) (DecimalOf 38 1) (decimal_constant 75 2 1 ∷ Widen (int 0) ∷ [])) ∷ [])) 10
      ≡ faults_at DivideByZero 7 (10 ∷ 9 ∷ [])
  -- x = -9223372036854775807 - 1; y = -x;
  pub least_integer_negated : ran (program_with (codes "x" ∷ codes "y" ∷ []) (
      assign_at 1 (codes "x") (less (negated (int 9223372036854775807)) (int 1)) ∷ assign_at 31 (codes "y") (negated (variable_of (codes "x"))) ∷ [])) 10
      ≡ faults_at Overflow 31 (10 ∷ 8 ∷ [])
  -- dcl package p q(1); : the declaration is a step, the call another one, and then the statement of the constructor
  pub spent_at_a_declaration : constructing 0 ≡ spent_in_init 80
  pub spent_at_a_constructor : constructing 1 ≡ spent_in_init 80
  pub spent_within_a_constructor : constructing 2 ≡ spent_in_init 50

-- ---- tables

-- set t; with the columns a and b, and these statements, with x before them in the output
abbrev pub over_a_and_b : List TypedStatement → UnitTree
over_a_and_b body = with_columns (codes "x" ∷ codes "a" ∷ codes "b" ∷ []) (reader (Set (input_of (codes "t") (codes "a" ∷ codes "b" ∷ []) ∷ []) []) (codes "x" ∷ []) (codes "a" ∷ codes "b" ∷ []) body)

-- x = a + b;
abbrev pub sum_of_a_and_b : List TypedStatement
sum_of_a_and_b = assign_at 46 (codes "x") (plus (variable_of (codes "a")) (variable_of (codes "b"))) ∷ []

-- x = a; x = x + b;
abbrev pub sum_in_two_steps : List TypedStatement
sum_in_two_steps = assign_at 46 (codes "x") (variable_of (codes "a")) ∷ assign_at 53 (codes "x") (plus (variable_of (codes "x")) (variable_of (codes "b"))) ∷ []

-- ten rows k and d: d is 0 in the rows 3 and 9, and else 1
abbrev pub ten_rows : List Row
ten_rows = two 0 1 ∷ two 1 1 ∷ two 2 1 ∷ two 3 0 ∷ two 4 1 ∷ two 5 1 ∷ two 6 1 ∷ two 7 1 ∷ two 8 1 ∷ two 9 0 ∷ []

-- if k = n then x = 1 / d;
abbrev pub divides_where : ℕ → ℕ → TypedStatement
divides_where column n = If (col column) (Compared comparison.Equal (variable_of (codes "k")) (int n))
    (assign_at (column + 15) (codes "x") (Convert (Chain (int 1) (Link true operation.DecimalDivide (Widen (variable_of (codes "d"))) (DecimalOf 38 6) NoLink)) (DecimalOf 10 6)))

-- thread t; dcl decimal(10,6) x; method run(); set s; if k = 3 then x = 1 / d; if k = 9 then x = 1 / d; end; endthread;
abbrev pub dividing : UnitTree
dividing = record (reader (Set (input_of (codes "s") (codes "k" ∷ codes "d" ∷ []) ∷ []) []) (codes "k" ∷ []) (codes "d" ∷ []) (divides_where 30 3 ∷ divides_where 70 9 ∷ [])) {
  thread = Some (codes "t");
  declared = variable_in (DecimalOf 10 6) (codes "x") ∷ [];
  columns = bigint (codes "k") ∷ bigint (codes "d") ∷ [];
}

-- data out; dcl thread t i; method run(); set from i; end; enddata;
abbrev pub reading_divisions : UnitTree
reading_divisions = record (program_with [] []) {
  columns = bigint (codes "k") ∷ [];
  threads = record { name = codes "i"; parameters = [] } ∷ [];
  reading = From (codes "i") 2 (bigint_column (codes "k") ∷ []);
}

-- thread t(bigint n); method run(); set s; put n; n = n + 1; end; endthread;
abbrev pub counting_up : UnitTree
counting_up = record (with_columns (codes "a" ∷ []) (reader (Set (input_of (codes "s") (codes "a" ∷ []) ∷ []) []) [] (codes "a" ∷ []) (
    Put (col 40) (Shown (Variable (At (Parameter (codes "n"))) BigInt) ∷ [])
    ∷ Assign (col 47) (At (Parameter (codes "n"))) (plus (Variable (At (Parameter (codes "n"))) BigInt) (int 1)) ∷ []))) {
      thread = Some (codes "t");
      parameters = bigint (codes "n") ∷ [];
    }

-- programs over tables, a thread program that faults, and one that sets its parameter
pub record TableExamples : Type 0 where
  -- set t; x = a + b;
  pub one_row : rows_over (over_a_and_b sum_of_a_and_b) ((codes "t", two 1 2 ∷ []) ∷ []) ≡ (natural 3 ∷ natural 1 ∷ natural 2 ∷ []) ∷ []
  pub no_row : ran_over (over_a_and_b sum_of_a_and_b) ((codes "t", []) ∷ []) 10 ≡ ends_with [] (10 ∷ 10 ∷ [])
  pub sum_of_a_row_overflows : ran_over (over_a_and_b sum_of_a_and_b) ((codes "t", two 9223372036854775807 1 ∷ []) ∷ []) 10 ≡ faults_at Overflow 46 (10 ∷ 9 ∷ [])
  -- set t; x = a; x = x + b; with a budget of 1, and of 2
  pub second_step_is_missing : ran_over (over_a_and_b sum_in_two_steps) ((codes "t", two 1 2 ∷ []) ∷ []) 1 ≡ faults_at BudgetSpent 53 (1 ∷ 0 ∷ [])
  pub just_enough_steps : ran_over (over_a_and_b sum_in_two_steps) ((codes "t", two 1 2 ∷ []) ∷ []) 2 ≡ ends_with ((natural 3 ∷ natural 1 ∷ natural 2 ∷ []) ∷ []) (2 ∷ 0 ∷ 2 ∷ [])
  -- set t; with i bigint and s varchar(5): null, two characters, and the empty text stay as they are
  pub copied_texts : rows_over (record (unit_with (bigint (codes "i") ∷ variable_in (Varchar 5) (codes "s") ∷ []) []) {
    declared = [];
    columns = bigint (codes "i") ∷ variable_in (Varchar 5) (codes "s") ∷ [];
    reading = Set (record { table = stored (codes "t"); present = None; columns = bigint_column (codes "i") ∷ record { name = codes "s"; ty = Varchar 5 } ∷ [] } ∷ []) [];
  })
      ((codes "t", (natural 1 ∷ Null ∷ []) ∷ (natural 2 ∷ Txt (codes "xN") ∷ []) ∷ (natural 3 ∷ Txt [] ∷ []) ∷ []) ∷ [])
      ≡ (natural 1 ∷ Null ∷ []) ∷ (natural 2 ∷ Txt (codes "xN") ∷ []) ∷ (natural 3 ∷ Txt [] ∷ []) ∷ []
  -- the thread program faults in its fourth load, though the tenth would fault too: the data program has no load
  pub first_fault_of_a_stage : seen (program_answer (OverStage reading_divisions (OverTables dividing)) [] (tables_of ((codes "s", ten_rows) ∷ [])) 10 0)
      ≡ record { rows = []; lines = []; ending = Some (Faulted DivideByZero (col 45)); budgets_left = 10 ∷ 10 ∷ 8 ∷ 8 ∷ 8 ∷ 8 ∷ [] }
  -- n is 5 at first: a parameter is kept from load to load, and may be set
  pub parameter_is_kept : (seen (program_answer (OverTables counting_up) (natural 5 ∷ []) (tables_of ((codes "s", (natural 1 ∷ []) ∷ (natural 2 ∷ []) ∷ []) ∷ [])) 10 0)).lines
      ≡ codes "5" ∷ codes "6" ∷ []
