-- Small calls and statements: what they become, or where they are refused.
use Rattle.std.specs.Prelude.{◌≡◌, ℕ, codes, [], ◌∷◌, Some, None}
use Rattle.ds2_tree.specs.Expressions.{Expression, Call}
use Rattle.ds2_tree.specs.declared.expressions.Callee.TheVariants as callee
use Rattle.ds2_tree.specs.declared.expressions.ChainKind.TheVariants.{Concatenation, And}
use Rattle.ds2_value.specs.declared.ty.Ty.TheVariants.{BigInt, Decimal as DecimalOf, Varchar}
use Rattle.ds2_value.specs.declared.value.Value.TheVariants.{Null}
use Rattle.ds2_value.specs.declared.value_function.ValueFunction.TheVariants as of_values
use Rattle.ds2_meaning.specs.ExampleWords.{col, int, function_of, global}
use Rattle.ds2_names.specs.NameExamples.{word_in}
use Rattle.ds2_meaning.specs.TypedExpression.{Constant, Widen, Convert, Called, NoArgument, ByValue, InOut, Then, NoExpression}
use Rattle.ds2_meaning.specs.TypedStatement.{Invoke, Evaluate, If, Empty, Select, SelectValue, When, NoOtherwise, Count, While, Until, Finish}
use Rattle.ds2_meaning.specs.declared.expressions.Function.TheVariants as function
use Rattle.ds2_meaning.specs.declared.refusals.TypeKind.TheVariants.{TypeClash, NotTruth}
use Rattle.ds2_elaboration.specs.OperatorExamples.{become, setting, only, set_to, refused_in, value_d, value_c, value_v, value_i, value_j}
use Rattle.ds2_elaboration.specs.SourceWords.{name_at, integer_at, null_at, sign_at, chained, calling_at, arguments_from, calls, if_at, counts_at, counts_by_at, tests_at, selects_true_at, selects_at}

-- null(argument), with the word in this column
abbrev pub null_test_at : ℕ → Expression → Expression
null_test_at column argument = Call (callee.Null (word_in column (codes "null"))) (col 999) (arguments_from (argument ∷ [])) (col 999)

-- functions: what they become, and TypeClash at their names
pub record FunctionExamples : Type 0 where
  -- d = coalesce(null, i, d); : each argument in the common type, converted directly after it is evaluated
  pub coalesce_of_numbers : setting (codes "d") (calling_at 104 (codes "coalesce") (null_at 113 ∷ name_at 119 (codes "i") ∷ name_at 122 (codes "d") ∷ []))
      ≡ set_to (codes "d") (Convert (function_of function.Coalesce (DecimalOf 38 2) (Constant Null (DecimalOf 38 2) ∷ Convert (Widen value_i) (DecimalOf 38 2) ∷ Convert value_d (DecimalOf 38 2) ∷ [])) (DecimalOf 5 2))
  -- v = coalesce(c, v);
  pub coalesce_of_texts : setting (codes "v") (calling_at 104 (codes "coalesce") (name_at 113 (codes "c") ∷ name_at 116 (codes "v") ∷ []))
      ≡ set_to (codes "v") (function_of function.Coalesce (Varchar 5) (Convert value_c (Varchar 5) ∷ value_v ∷ []))
  -- v = coalesce(c); : a VARCHAR
  pub coalesce_of_one : setting (codes "v") (calling_at 104 (codes "coalesce") (name_at 113 (codes "c") ∷ []))
      ≡ set_to (codes "v") (Convert (function_of function.Coalesce (Varchar 3) (Convert value_c (Varchar 3) ∷ [])) (Varchar 5))
  -- i = coalesce(null, null); and i = coalesce(i, c);
  pub coalesce_of_nulls : setting (codes "i") (calling_at 104 (codes "coalesce") (null_at 113 ∷ null_at 119 ∷ [])) ≡ refused_in TypeClash 104
  pub coalesce_of_unlike : setting (codes "i") (calling_at 104 (codes "coalesce") (name_at 113 (codes "i") ∷ name_at 116 (codes "c") ∷ [])) ≡ refused_in TypeClash 104
  -- i = min(i, j); d = max(i, d);
  pub least_integer_type : setting (codes "i") (calling_at 104 (codes "min") (name_at 108 (codes "i") ∷ name_at 111 (codes "j") ∷ []))
      ≡ set_to (codes "i") (function_of function.Least BigInt (value_i ∷ value_j ∷ []))
  pub greatest_decimal : setting (codes "d") (calling_at 104 (codes "max") (name_at 108 (codes "i") ∷ name_at 111 (codes "d") ∷ []))
      ≡ set_to (codes "d") (Convert (function_of function.Greatest (DecimalOf 38 2) (Convert (Widen value_i) (DecimalOf 38 2) ∷ Convert value_d (DecimalOf 38 2) ∷ [])) (DecimalOf 5 2))
  -- i = max(i, c); and i = max(i, null);
  pub greatest_of_text : setting (codes "i") (calling_at 104 (codes "max") (name_at 108 (codes "i") ∷ name_at 111 (codes "c") ∷ [])) ≡ refused_in TypeClash 104
  pub greatest_of_null : setting (codes "i") (calling_at 104 (codes "max") (name_at 108 (codes "i") ∷ null_at 111 ∷ [])) ≡ refused_in TypeClash 111
  -- d = mod(i, d);
  pub remainder_widened : setting (codes "d") (calling_at 104 (codes "mod") (name_at 108 (codes "i") ∷ name_at 111 (codes "d") ∷ []))
      ≡ set_to (codes "d") (Convert (function_of (function.Value of_values.DecimalModulo) (DecimalOf 38 2) (Widen value_i ∷ value_d ∷ [])) (DecimalOf 5 2))
  -- d = abs(d); i = floor(i); d = ceil(d);
  pub absolute_keeps_its_type : setting (codes "d") (calling_at 104 (codes "abs") (name_at 108 (codes "d") ∷ [])) ≡ set_to (codes "d") (function_of (function.Value of_values.DecimalAbsolute) (DecimalOf 5 2) (value_d ∷ []))
  pub floor_of_integer : setting (codes "i") (calling_at 104 (codes "floor") (name_at 110 (codes "i") ∷ [])) ≡ set_to (codes "i") (function_of function.Unchanged BigInt (value_i ∷ []))
  pub ceiling_of_decimal : setting (codes "d") (calling_at 104 (codes "ceil") (name_at 109 (codes "d") ∷ []))
      ≡ set_to (codes "d") (Convert (function_of (function.Value of_values.Ceiling) (DecimalOf 38 0) (value_d ∷ [])) (DecimalOf 5 2))
  -- i = length(c); i = length(i); v = length(i); : a BIGINT always, so the last is refused at the statement
  pub length_of_text : setting (codes "i") (calling_at 104 (codes "length") (name_at 111 (codes "c") ∷ [])) ≡ set_to (codes "i") (function_of (function.Value of_values.Length) BigInt (value_c ∷ []))
  pub length_of_number : setting (codes "i") (calling_at 104 (codes "length") (name_at 111 (codes "i") ∷ [])) ≡ refused_in TypeClash 104
  pub length_all_the_same : setting (codes "v") (calling_at 104 (codes "length") (name_at 111 (codes "i") ∷ [])) ≡ refused_in TypeClash 100
  -- i = trim(i); : no type, so the statement is not refused
  pub trim_of_number : setting (codes "i") (calling_at 104 (codes "trim") (name_at 109 (codes "i") ∷ [])) ≡ refused_in TypeClash 104
  -- v = substr(c, i); v = substr(c, 1, d);
  pub part_of_text : setting (codes "v") (calling_at 104 (codes "substr") (name_at 111 (codes "c") ∷ name_at 114 (codes "i") ∷ []))
      ≡ set_to (codes "v") (Convert (function_of (function.Value of_values.SubstringFrom) (Varchar 3) (value_c ∷ value_i ∷ [])) (Varchar 5))
  pub part_of_decimal_length : setting (codes "v") (calling_at 104 (codes "substr") (name_at 111 (codes "c") ∷ integer_at 114 (codes "1") ∷ name_at 117 (codes "d") ∷ [])) ≡ refused_in TypeClash 104
  -- i = null(c); i = null(null);
  pub null_test : setting (codes "i") (null_test_at 104 (name_at 109 (codes "c"))) ≡ set_to (codes "i") (function_of (function.Value of_values.IsNull) BigInt (value_c ∷ []))
  pub null_test_of_null : setting (codes "i") (null_test_at 104 (null_at 109)) ≡ refused_in TypeClash 109
  -- abs(i); as a statement: its value is dropped
  pub function_as_statement : become (calls 100 (codes "abs") (name_at 104 (codes "i") ∷ []) ∷ []) ≡ only (Evaluate (col 100) (function_of (function.Value of_values.IntegerAbsolute) BigInt (value_i ∷ [])))

-- calls of methods: what they become, TypeClash at an argument and at the name
pub record MethodCallExamples : Type 0 where
  -- d = f(j); the method's type is that of d
  pub method_called : setting (codes "d") (calling_at 104 (codes "f") (name_at 106 (codes "j") ∷ [])) ≡ set_to (codes "d") (Called None 0 (ByValue value_j NoArgument) (DecimalOf 5 2))
  -- d = f(null);
  pub null_passed : setting (codes "d") (calling_at 104 (codes "f") (null_at 106 ∷ [])) ≡ set_to (codes "d") (Called None 0 (ByValue (Constant Null BigInt) NoArgument) (DecimalOf 5 2))
  -- d = f(-d); : at the argument's first token
  pub decimal_passed : setting (codes "d") (calling_at 104 (codes "f") (sign_at 106 (codes "-") (name_at 107 (codes "d")) ∷ [])) ≡ refused_in TypeClash 106
  -- c = f(c); : a call has its type all the same, so the assignment is refused first
  pub call_all_the_same : setting (codes "c") (calling_at 104 (codes "f") (name_at 106 (codes "c") ∷ [])) ≡ refused_in TypeClash 100
  -- i = g(j); : returns nothing
  pub nothing_returned : setting (codes "i") (calling_at 104 (codes "g") (name_at 106 (codes "j") ∷ [])) ≡ refused_in TypeClash 104
  -- g(j); f(j); : as statements
  pub variable_handed_over : become (calls 100 (codes "g") (name_at 102 (codes "j") ∷ []) ∷ []) ≡ only (Invoke (col 100) None 1 (InOut (global (codes "j")) NoArgument))
  pub result_dropped : become (calls 100 (codes "f") (name_at 102 (codes "j") ∷ []) ∷ []) ≡ only (Invoke (col 100) None 0 (ByValue value_j NoArgument))
  -- g(d); : not exactly the parameter's type
  pub other_type_handed_over : become (calls 100 (codes "g") (name_at 102 (codes "d") ∷ []) ∷ []) ≡ refused_in TypeClash 102

-- choices and loops: what they become, NotTruth and TypeClash at the first token of an expression
pub record ChoiceTypeExamples : Type 0 where
  -- if d then; : a number of any type
  pub decimal_condition : become (if_at 100 (name_at 103 (codes "d")) ∷ []) ≡ only (If (col 100) value_d (Empty (col 998)))
  -- if c || v then; if null then;
  pub text_condition : become (if_at 100 (chained Concatenation 105 (codes "||") (name_at 103 (codes "c")) (name_at 108 (codes "v"))) ∷ []) ≡ refused_in NotTruth 103
  pub null_condition : become (if_at 100 (null_at 103) ∷ []) ≡ refused_in TypeClash 103
  -- do i = 1 to j; end;
  pub counted : become (counts_at 100 (codes "i") (integer_at 107 (codes "1")) (name_at 112 (codes "j")) ∷ []) ≡ only (Count (col 100) (global (codes "i")) (int 1) value_j None Finish)
  -- do d = 1 to 2; end; do i = d to 2; end; do i = 1 to c; end;
  pub counted_by_decimal : become (counts_at 100 (codes "d") (integer_at 107 (codes "1")) (integer_at 112 (codes "2")) ∷ []) ≡ refused_in TypeClash 103
  pub counted_from_decimal : become (counts_at 100 (codes "i") (name_at 107 (codes "d")) (integer_at 112 (codes "2")) ∷ []) ≡ refused_in TypeClash 107
  pub counted_to_text : become (counts_at 100 (codes "i") (integer_at 107 (codes "1")) (name_at 112 (codes "c")) ∷ []) ≡ refused_in TypeClash 112
  -- do i = 1 to 2 by j; end; do i = 1 to 2 by d; end;
  pub counted_by_step : become (counts_by_at 100 (codes "i") (integer_at 107 (codes "1")) (integer_at 112 (codes "2")) (name_at 117 (codes "j")) ∷ [])
      ≡ only (Count (col 100) (global (codes "i")) (int 1) (int 2) (Some value_j) Finish)
  pub decimal_step : become (counts_by_at 100 (codes "i") (integer_at 107 (codes "1")) (integer_at 112 (codes "2")) (name_at 117 (codes "d")) ∷ []) ≡ refused_in TypeClash 117
  -- do while (d); end; do until (i); end; do until (c); end;
  pub tested_before : become (tests_at 100 (codes "while") (name_at 110 (codes "d")) ∷ []) ≡ only (While (col 100) value_d Finish)
  pub tested_behind : become (tests_at 100 (codes "until") (name_at 110 (codes "i")) ∷ []) ≡ only (Until (col 100) value_i Finish)
  pub text_tested : become (tests_at 100 (codes "until") (name_at 110 (codes "c")) ∷ []) ≡ refused_in NotTruth 110
  -- select; when (i, d); end; select; when (i, c); end; : each test is a condition
  pub selected_as_true : become (selects_true_at 100 (name_at 114 (codes "i") ∷ name_at 117 (codes "d") ∷ []) ∷ [])
      ≡ only (Select (col 100) (When (Then value_i (Then value_d NoExpression)) (Empty (col 998)) NoOtherwise))
  pub text_as_true : become (selects_true_at 100 (name_at 114 (codes "i") ∷ name_at 117 (codes "c") ∷ []) ∷ []) ≡ refused_in NotTruth 117
  -- select (i); when (j, d); end; : one is a DECIMAL, so all are
  pub selected_as_decimals : become (selects_at 100 (name_at 108 (codes "i")) (name_at 118 (codes "j") ∷ name_at 121 (codes "d") ∷ []) ∷ [])
      ≡ only (SelectValue (col 100) (Widen value_i) (When (Then (Widen value_j) (Then value_d NoExpression)) (Empty (col 998)) NoOtherwise))
  -- select (c); when (v, i); end; : at the test
  pub unlike_test : become (selects_at 100 (name_at 108 (codes "c")) (name_at 118 (codes "v") ∷ name_at 121 (codes "i") ∷ []) ∷ []) ≡ refused_in TypeClash 121
  -- select (c); when (c & i); end; : a text under `&`, and a number beside a text; of two kinds at one place the first is given
  pub two_kinds : become (selects_at 100 (name_at 108 (codes "c")) (chained And 120 (codes "&") (name_at 118 (codes "c")) (name_at 122 (codes "i")) ∷ []) ∷ []) ≡ refused_in TypeClash 118
  -- select (null); when (i); end; select (i); when (null); end;
  pub null_selected : become (selects_at 100 (null_at 108) (name_at 118 (codes "i") ∷ []) ∷ []) ≡ refused_in TypeClash 108
  pub null_test_refused : become (selects_at 100 (name_at 108 (codes "i")) (null_at 118 ∷ []) ∷ []) ≡ refused_in TypeClash 118
