-- What small programs of statements and methods leave, written out from the rules by hand. Each stands behind its source; the
-- numbers in statements are their columns, which rise with the statements.
use Rattle.std.specs.Prelude.{◌≡◌, ℕ, true, codes, List, [], ◌∷◌, Some, None}
use Rattle.ds2_value.specs.declared.comparison.Comparison.TheVariants as comparison
use Rattle.ds2_value.specs.declared.fault.Ending.TheVariants.{Normal}
use Rattle.ds2_value.specs.declared.fault.Fault.TheVariants.{BudgetSpent, DepthReached, DivideByZero, NoWhen, Overflow}
use Rattle.ds2_value.specs.declared.ty.Ty.TheVariants.{BigInt, Decimal as DecimalOf, Char}
use Rattle.ds2_value.specs.declared.value.Value.TheVariants.{Null, Txt}
use Rattle.ds2_meaning.specs.declared.expressions.Function.TheVariants as function
use Rattle.ds2_meaning.specs.declared.expressions.Operation.TheVariants as operation
use Rattle.ds2_meaning.specs.declared.location.Reference.TheVariants.{Local}
use Rattle.ds2_meaning.specs.declared.methods.Parameter.{Parameter}
use Rattle.ds2_meaning.specs.ExampleWords.{col, natural, global, value_of_type, variable_of, local, int, text_constant, plus, less, negated, function_of, assign_at, assign_local, bigint, by_value, unit_with, program_with, ran, ends_with, faults_at}
use Rattle.ds2_meaning.specs.Method.{MethodTree}
use Rattle.ds2_meaning.specs.ProgramTree.{UnitTree}
use Rattle.ds2_meaning.specs.TypedExpression.{TypedExpression, Convert, Widen, Chain, Link, NoLink, Compared, Called, NoArgument, ByValue, InOut}
use Rattle.ds2_meaning.specs.TypedStatement.{Empty, Invoke, Leave, Continue, Return, ReturnValue, Output, Put, If, IfElse, Select, SelectValue, Block, Count, While, Until, NoOtherwise, Otherwise, When, Text, Shown, Labelled}
use Rattle.ds2_meaning.specs.View.{all_expressions, all_statements}

-- an expression that is evaluated to a fault: 1 / 0
abbrev pub one_by_zero : TypedExpression
one_by_zero = Chain (int 1) (Link true operation.DecimalDivide (Widen (int 0)) (DecimalOf 38 6) NoLink)

-- choices: if, else if, select
pub record ChoiceExamples : Type 0 where
  -- a = 0; if a then if b then x = 1; else x = 2;
  pub else_of_the_nearest_if : ran (program_with (codes "a" ∷ codes "b" ∷ codes "x" ∷ []) (
      assign_at 1 (codes "a") (int 0)
      ∷ If (col 8) (variable_of (codes "a")) (IfElse (col 18) (variable_of (codes "b")) (assign_at 28 (codes "x") (int 1)) (assign_at 40 (codes "x") (int 2))) ∷ [])) 10
      ≡ ends_with ((natural 0 ∷ Null ∷ Null ∷ []) ∷ []) (10 ∷ 8 ∷ 10 ∷ [])
  -- a = 1; b = 0; if a then if b then x = 1; else x = 2;
  pub else_part_is_taken : ran (program_with (codes "a" ∷ codes "b" ∷ codes "x" ∷ []) (
      assign_at 1 (codes "a") (int 1)
      ∷ assign_at 8 (codes "b") (int 0)
      ∷ If (col 15) (variable_of (codes "a")) (IfElse (col 25) (variable_of (codes "b")) (assign_at 35 (codes "x") (int 1)) (assign_at 47 (codes "x") (int 2))) ∷ [])) 10
      ≡ ends_with ((natural 1 ∷ natural 0 ∷ natural 2 ∷ []) ∷ []) (10 ∷ 5 ∷ 10 ∷ [])
  -- if y then x = 1; else x = 2;
  pub unknown_takes_the_else_part : ran (program_with (codes "x" ∷ codes "y" ∷ []) (
      IfElse (col 1) (variable_of (codes "y")) (assign_at 11 (codes "x") (int 1)) (assign_at 23 (codes "x") (int 2)) ∷ [])) 10
      ≡ ends_with ((natural 2 ∷ Null ∷ []) ∷ []) (10 ∷ 8 ∷ 10 ∷ [])
  -- if 0 then; else if 0 then; else if 1 / 0 then;
  pub fault_at_the_chained_if : ran (program_with (codes "x" ∷ []) (
      IfElse (col 1) (int 0) (Empty (col 10)) (IfElse (col 17) (int 0) (Empty (col 26)) (If (col 33) one_by_zero (Empty (col 46)))) ∷ [])) 10
      ≡ faults_at DivideByZero 33 (10 ∷ 7 ∷ [])
  -- select (y); when (y) x = 1; otherwise x = 2; end; select (3); when (1, 3) z = 7; when (3) z = 8; end;
  pub selected_by_value : ran (program_with (codes "x" ∷ codes "y" ∷ codes "z" ∷ []) (
      SelectValue (col 1) (variable_of (codes "y")) (When (all_expressions (variable_of (codes "y") ∷ [])) (assign_at 22 (codes "x") (int 1)) (Otherwise (assign_at 40 (codes "x") (int 2))))
      ∷ SelectValue (col 55) (int 3) (When (all_expressions (int 1 ∷ int 3 ∷ [])) (assign_at 80 (codes "z") (int 7)) (When (all_expressions (int 3 ∷ [])) (assign_at 95 (codes "z") (int 8)) NoOtherwise)) ∷ [])) 10
      ≡ ends_with ((natural 2 ∷ Null ∷ natural 7 ∷ []) ∷ []) (10 ∷ 6 ∷ 10 ∷ [])
  -- select; when (0, y) x = 1; when (1) x = 2; end;
  pub selected_by_condition : ran (program_with (codes "x" ∷ codes "y" ∷ []) (
      Select (col 1) (When (all_expressions (int 0 ∷ variable_of (codes "y") ∷ [])) (assign_at 20 (codes "x") (int 1)) (When (all_expressions (int 1 ∷ [])) (assign_at 36 (codes "x") (int 2)) NoOtherwise)) ∷ [])) 10
      ≡ ends_with ((natural 2 ∷ Null ∷ []) ∷ []) (10 ∷ 8 ∷ 10 ∷ [])
  -- select; when (0) x = 1; end;
  pub no_when_applies : ran (program_with (codes "x" ∷ []) (
      Select (col 1) (When (all_expressions (int 0 ∷ [])) (assign_at 18 (codes "x") (int 1)) NoOtherwise) ∷ [])) 10
      ≡ faults_at NoWhen 1 (10 ∷ 9 ∷ [])
  -- select (1); end;
  pub no_when_at_all : ran (program_with (codes "x" ∷ []) (SelectValue (col 1) (int 1) NoOtherwise ∷ [])) 10 ≡ faults_at NoWhen 1 (10 ∷ 9 ∷ [])

-- loops; a loop is a step, and so is each of its tests
pub record LoopExamples : Type 0 where
  -- s = 0; do i = 3 to 1 by -1; s = s + i; end;
  pub counts_down : ran (program_with (codes "i" ∷ codes "s" ∷ []) (
      assign_at 1 (codes "s") (int 0)
      ∷ Count (col 8) (global (codes "i")) (int 3) (int 1) (Some (negated (int 1))) (all_statements (assign_at 30 (codes "s") (plus (variable_of (codes "s")) (variable_of (codes "i"))) ∷ [])) ∷ [])) 20
      ≡ ends_with ((natural 0 ∷ natural 6 ∷ []) ∷ []) (20 ∷ 11 ∷ 20 ∷ [])
  -- do i = 1 to y; end;
  pub null_end : ran (program_with (codes "i" ∷ codes "y" ∷ []) (Count (col 1) (global (codes "i")) (int 1) (variable_of (codes "y")) None (all_statements []) ∷ [])) 10
      ≡ ends_with ((natural 1 ∷ Null ∷ []) ∷ []) (10 ∷ 8 ∷ 10 ∷ [])
  -- do i = 1 to 3 by y; end;
  pub null_step : ran (program_with (codes "i" ∷ codes "y" ∷ []) (Count (col 1) (global (codes "i")) (int 1) (int 3) (Some (variable_of (codes "y"))) (all_statements []) ∷ [])) 10
      ≡ ends_with ((natural 1 ∷ Null ∷ []) ∷ []) (10 ∷ 8 ∷ 10 ∷ [])
  -- n = 2; do i = 1 to n; n = 5; end;
  pub end_is_evaluated_once : ran (program_with (codes "i" ∷ codes "n" ∷ []) (
      assign_at 1 (codes "n") (int 2)
      ∷ Count (col 8) (global (codes "i")) (int 1) (variable_of (codes "n")) None (all_statements (assign_at 25 (codes "n") (int 5) ∷ [])) ∷ [])) 10
      ≡ ends_with ((natural 3 ∷ natural 5 ∷ []) ∷ []) (10 ∷ 3 ∷ 10 ∷ [])
  -- x = 5; do until (x >= 1); x = x + 1; end;
  pub until_tests_behind_its_body : ran (program_with (codes "x" ∷ []) (
      assign_at 1 (codes "x") (int 5)
      ∷ Until (col 8) (Compared comparison.GreaterOrEqual (variable_of (codes "x")) (int 1)) (all_statements (assign_at 27 (codes "x") (plus (variable_of (codes "x")) (int 1)) ∷ [])) ∷ [])) 10
      ≡ ends_with ((natural 6 ∷ []) ∷ []) (10 ∷ 6 ∷ 10 ∷ [])
  -- do while (0); x = 1; end;
  pub while_tests_before_its_body : ran (program_with (codes "x" ∷ []) (While (col 1) (int 0) (all_statements (assign_at 15 (codes "x") (int 1) ∷ [])) ∷ [])) 10
      ≡ ends_with ((Null ∷ []) ∷ []) (10 ∷ 8 ∷ 10 ∷ [])
  -- s = 0; do i = 1 to 3; do j = 1 to 3; if j = 2 then continue; if j = 3 then leave; s = s + 1; end; end;
  pub innermost_loop : ran (program_with (codes "i" ∷ codes "j" ∷ codes "s" ∷ []) (
      assign_at 1 (codes "s") (int 0)
      ∷ Count (col 8) (global (codes "i")) (int 1) (int 3) None (all_statements (
      Count (col 23) (global (codes "j")) (int 1) (int 3) None (all_statements (
      If (col 38) (Compared comparison.Equal (variable_of (codes "j")) (int 2)) (Continue (col 52))
      ∷ If (col 62) (Compared comparison.Equal (variable_of (codes "j")) (int 3)) (Leave (col 76))
      ∷ assign_at 83 (codes "s") (plus (variable_of (codes "s")) (int 1)) ∷ [])) ∷ [])) ∷ [])) 50
      ≡ ends_with ((natural 4 ∷ natural 3 ∷ natural 3 ∷ []) ∷ []) (50 ∷ 8 ∷ 50 ∷ [])
  -- do i = 1 to 5; ; end;
  pub spent_at_a_test : ran (program_with (codes "i" ∷ []) (Count (col 8) (global (codes "i")) (int 1) (int 5) None (all_statements (Empty (col 24) ∷ [])) ∷ [])) 5
      ≡ faults_at BudgetSpent 8 (5 ∷ 0 ∷ [])
  -- i = 9223372036854775807; do i = i to i; end;
  pub step_overflows : ran (program_with (codes "i" ∷ []) (
      assign_at 1 (codes "i") (int 9223372036854775807)
      ∷ Count (col 26) (global (codes "i")) (variable_of (codes "i")) (variable_of (codes "i")) None (all_statements []) ∷ [])) 10
      ≡ faults_at Overflow 26 (10 ∷ 6 ∷ [])

-- lines, rows and ends
pub record OutputExamples : Type 0 where
  -- dcl char(4) t; dcl bigint x y; t = 'b'; y = 12; put 'a ' x t y=; put;
  pub lines_of_items : ran (unit_with (record { name = codes "t"; ty = Char 4 } ∷ bigint (codes "x") ∷ bigint (codes "y") ∷ []) (
      assign_at 1 (codes "t") (Convert (text_constant (codes "b") 1) (Char 4))
      ∷ assign_at 10 (codes "y") (int 12)
      ∷ Put (col 18) (Text (codes "a ") ∷ Shown (variable_of (codes "x")) ∷ Shown (value_of_type (codes "t") (Char 4)) ∷ Labelled (codes "y") (variable_of (codes "y")) ∷ [])
      ∷ Put (col 35) [] ∷ [])) 10
      ≡ record { rows = (Txt (codes "b   ") ∷ Null ∷ natural 12 ∷ []) ∷ []; lines = codes "a  null b y=12" ∷ [] ∷ []; ending = Some Normal; budgets_left = 10 ∷ 6 ∷ 10 ∷ [] }
  -- do i = 1 to 2; output; end;
  pub rows_where_they_are_written : ran (program_with (codes "i" ∷ []) (
      Count (col 1) (global (codes "i")) (int 1) (int 2) None (all_statements (Output (col 16) (0 ∷ []) ∷ [])) ∷ [])) 10
      ≡ ends_with ((natural 1 ∷ []) ∷ (natural 2 ∷ []) ∷ []) (10 ∷ 4 ∷ 10 ∷ [])
  -- x = 1; return; x = 2;
  pub row_at_a_return : ran (program_with (codes "x" ∷ []) (assign_at 1 (codes "x") (int 1) ∷ Return (col 8) ∷ assign_at 16 (codes "x") (int 2) ∷ [])) 10
      ≡ ends_with ((natural 1 ∷ []) ∷ []) (10 ∷ 8 ∷ 10 ∷ [])
  -- if 0 then output;
  pub no_row_where_an_output_stands : ran (program_with (codes "x" ∷ []) (If (col 1) (int 0) (Output (col 11) (0 ∷ [])) ∷ [])) 10 ≡ ends_with [] (10 ∷ 9 ∷ 10 ∷ [])
  -- do; ; end;
  pub blocks_and_empty_statements_are_steps : ran (program_with (codes "x" ∷ []) (Block (col 1) (all_statements (Empty (col 5) ∷ [])) ∷ [])) 10
      ≡ ends_with ((Null ∷ []) ∷ []) (10 ∷ 8 ∷ 10 ∷ [])

-- a program whose `run` has these statements, and with these methods
abbrev pub with_methods : List MethodTree → UnitTree → UnitTree
with_methods methods p = record p { methods = methods }

-- method f(bigint n) returns bigint; if n <= 1 then return 1; return 1 + f(n - 1); end;
abbrev pub counting_method : MethodTree
counting_method = record {
  name = codes "f";
  parameters = by_value (codes "n") ∷ [];
  locals = [];
  returns = Some BigInt;
  body = all_statements (
      If (col 38) (Compared comparison.LessOrEqual (local (codes "n")) (int 1)) (ReturnValue (col 53) (int 1))
      ∷ ReturnValue (col 63) (plus (int 1) (Called None 0 (ByValue (less (local (codes "n")) (int 1)) NoArgument) BigInt)) ∷ []);
}

-- x = f(n);
abbrev pub calling : ℕ → UnitTree
calling n = with_methods (counting_method ∷ []) (program_with (codes "x" ∷ []) (assign_at 120 (codes "x") (Called None 0 (ByValue (int n) NoArgument) BigInt) ∷ []))

-- an in_out parameter of type BIGINT
abbrev pub handed_in_and_out : List ℕ → Parameter
handed_in_and_out name = record { name = name; ty = BigInt; is_in_out = true }

-- method swap(in_out bigint a, in_out bigint b); dcl bigint t; t = a; a = b; b = t; end;
abbrev pub swapping_method : MethodTree
swapping_method = record {
  name = codes "swap";
  parameters = handed_in_and_out (codes "a") ∷ handed_in_and_out (codes "b") ∷ [];
  locals = bigint (codes "t") ∷ [];
  returns = None;
  body = all_statements (
      assign_local 62 (codes "t") (local (codes "a")) ∷ assign_local 69 (codes "a") (local (codes "b")) ∷ assign_local 76 (codes "b") (local (codes "t")) ∷ []);
}

-- method add(bigint n, in_out bigint s); if n > 0 then do; s = s + n; add(n - 1, s); end; end;
abbrev pub adding_method : MethodTree
adding_method = record {
  name = codes "add";
  parameters = by_value (codes "n") ∷ handed_in_and_out (codes "s") ∷ [];
  locals = [];
  returns = None;
  body = all_statements (
      If (col 40) (Compared comparison.Greater (local (codes "n")) (int 0)) (Block (col 54) (all_statements (
      assign_local 58 (codes "s") (plus (local (codes "s")) (local (codes "n")))
      ∷ Invoke (col 69) None 0 (ByValue (less (local (codes "n")) (int 1)) (InOut (Local (codes "s")) NoArgument)) ∷ []))) ∷ []);
}

-- method g() returns bigint; dcl bigint l; l = coalesce(l, 0) + 1; return l; end;
abbrev pub fresh_method : MethodTree
fresh_method = record {
  name = codes "g";
  parameters = [];
  locals = bigint (codes "l") ∷ [];
  returns = Some BigInt;
  body = all_statements (
      assign_local 42 (codes "l") (plus (function_of function.Coalesce BigInt (local (codes "l") ∷ int 0 ∷ [])) (int 1)) ∷ ReturnValue (col 66) (local (codes "l")) ∷ []);
}

-- calls; a call is a step behind its arguments
pub record MethodExamples : Type 0 where
  -- f(100): a hundred frames
  pub hundred_deep : ran (calling 100) 1000 ≡ ends_with ((natural 100 ∷ []) ∷ []) (1000 ∷ 699 ∷ 1000 ∷ [])
  -- f(101): the frame that is one too many
  pub one_too_deep : ran (calling 101) 1000 ≡ faults_at DepthReached 63 (1000 ∷ 698 ∷ [])
  -- f(1), with a budget of 1: the call finds nothing left, at the place of its statement
  pub spent_at_a_call : ran (calling 1) 1 ≡ faults_at BudgetSpent 120 (1 ∷ 0 ∷ [])
  -- x = 1; y = 2; swap(x, y);
  pub swapped : ran (with_methods (swapping_method ∷ []) (program_with (codes "x" ∷ codes "y" ∷ []) (
      assign_at 100 (codes "x") (int 1) ∷ assign_at 107 (codes "y") (int 2) ∷ Invoke (col 114) None 0 (InOut (global (codes "x")) (InOut (global (codes "y")) NoArgument)) ∷ []))) 10
      ≡ ends_with ((natural 2 ∷ natural 1 ∷ []) ∷ []) (10 ∷ 3 ∷ 10 ∷ [])
  -- x = 0; add(3, x);
  pub added_up : ran (with_methods (adding_method ∷ []) (program_with (codes "x" ∷ []) (
      assign_at 100 (codes "x") (int 0) ∷ Invoke (col 107) None 0 (ByValue (int 3) (InOut (global (codes "x")) NoArgument)) ∷ []))) 30
      ≡ ends_with ((natural 6 ∷ []) ∷ []) (30 ∷ 11 ∷ 30 ∷ [])
  -- x = g() + g();
  pub locals_are_null_at_entry : ran (with_methods (fresh_method ∷ []) (program_with (codes "x" ∷ []) (
      assign_at 100 (codes "x") (plus (Called None 0 NoArgument BigInt) (Called None 0 NoArgument BigInt)) ∷ []))) 10
      ≡ ends_with ((natural 2 ∷ []) ∷ []) (10 ∷ 3 ∷ 10 ∷ [])
  -- method h() returns bigint; if 1 / 0 then; return 1; end; and x = h();
  pub fault_inside_a_method : ran (with_methods (record { name = codes "h"; parameters = []; locals = []; returns = Some BigInt; body = all_statements (If (col 28) one_by_zero (Empty (col 41)) ∷ ReturnValue (col 43) (int 1) ∷ []) } ∷ []) (program_with (codes "x" ∷ []) (
      assign_at 100 (codes "x") (Called None 0 NoArgument BigInt) ∷ []))) 10
      ≡ faults_at DivideByZero 28 (10 ∷ 7 ∷ [])
  -- x = g() + 9223372036854775807: the place is the caller's again behind the call
  pub place_behind_a_call : ran (with_methods (fresh_method ∷ []) (program_with (codes "x" ∷ []) (
      assign_at 100 (codes "x") (plus (Called None 0 NoArgument BigInt) (int 9223372036854775807)) ∷ []))) 10
      ≡ faults_at Overflow 100 (10 ∷ 6 ∷ [])
