-- Small statements with operators: what they become, or where they are refused.
use Rattle.std.specs.Prelude.{◌≡◌, ℕ, codes, false, true, List, [], ◌∷◌, None, Result, Ok, Err}
use Rattle.std.specs.Result.{result_map_both}
use Rattle.ds2_tree.specs.Expressions.{Expression}
use Rattle.ds2_tree.specs.Statements.{Statement}
use Rattle.ds2_tree.specs.Units.{DataProgram}
use Rattle.ds2_tree.specs.declared.expressions.ChainKind.TheVariants.{Sum, Product, Concatenation, And, Or}
use Rattle.ds2_value.specs.declared.comparison.Comparison.TheVariants as comparison
use Rattle.ds2_value.specs.declared.ty.Ty.TheVariants.{BigInt, Decimal as DecimalOf, Char, Varchar}
use Rattle.ds2_value.specs.declared.value.Value.TheVariants.{Null}
use Rattle.ds2_meaning.specs.ExampleWords.{col, int, plus, variable_of, value_of_type, decimal_constant, text_constant, negated, assign_at}
use Rattle.ds2_meaning.specs.ProgramTree.{UnitTree}
use Rattle.ds2_names.specs.SourceUnit.{TableColumns}
use Rattle.ds2_meaning.specs.TypedExpression.{TypedExpression, Constant, Widen, Convert, Prefixed, Chain, Link, NoLink, Compared}
use Rattle.ds2_meaning.specs.TypedStatement.{TypedStatement, TypedStatements, Finish, Next}
use Rattle.ds2_meaning.specs.declared.expressions.Operation.TheVariants as operation
use Rattle.ds2_meaning.specs.declared.expressions.Prefix.TheVariants as prefix
use Rattle.ds2_meaning.specs.declared.refusals.ScopeKind.TheVariants.{UnknownName}
use Rattle.ds2_meaning.specs.declared.refusals.TypeKind.{TypeKind}
use Rattle.ds2_meaning.specs.declared.refusals.TypeKind.TheVariants.{TypeClash, ScaleTooLarge, NotTruth}
use Rattle.ds2_elaboration.specs.Elaboration.{ProgramRefusal, OfNames, OfTypes}
use Rattle.ds2_elaboration.specs.SourceWords.{becomes_alone, name_at, integer_at, decimal_at, text_at, null_at, parenthesis_at, sign_at, not_at, chained, chained_twice, compared_at, calling_at, sets, returns_at, bigint_word, decimal_words, text_words, declares, parameter_at, in_out_at, returning, method_at, program_from}

-- ---- the program around a statement

-- the store has no table with a column
abbrev pub no_columns_at_all : TableColumns
no_columns_at_all table = []

-- data out; dcl bigint i; dcl bigint j; dcl decimal(5,2) d; dcl decimal(20,20) e; dcl char(3) c; dcl varchar(5) v;
-- method f(bigint a) returns decimal(5,2); return a; end; method g(in_out bigint a); end; method run(); and these statements, end;
abbrev pub program_around : List Statement → DataProgram
program_around body = program_from (
    declares 10 bigint_word (codes "i") ∷ declares 11 bigint_word (codes "j")
    ∷ declares 12 (decimal_words (codes "5") (codes "2")) (codes "d") ∷ declares 13 (decimal_words (codes "20") (codes "20")) (codes "e")
    ∷ declares 14 (text_words (codes "char") (codes "3")) (codes "c") ∷ declares 15 (text_words (codes "varchar") (codes "5")) (codes "v")
    ∷ method_at 20 (codes "f") (parameter_at 35 bigint_word (codes "a") ∷ []) (returning (decimal_words (codes "5") (codes "2"))) None (returns_at 40 (name_at 47 (codes "a")) ∷ [])
    ∷ method_at 60 (codes "g") (in_out_at 70 bigint_word (codes "a") ∷ []) None None []
    ∷ method_at 80 (codes "run") [] None None body ∷ [])

-- the statements of `run` of a program that is not refused
abbrev pub statements_of_run : Result UnitTree ProgramRefusal → Result TypedStatements ProgramRefusal
statements_of_run = result_map_both (λ (p : UnitTree). p.run.statements) (λ refusal. refusal)

-- what statements of `run` become in that program
abbrev pub become : List Statement → Result TypedStatements ProgramRefusal
become body = statements_of_run (becomes_alone no_columns_at_all (program_around body))

-- what target = value; in column 100 becomes
abbrev pub setting : List ℕ → Expression → Result TypedStatements ProgramRefusal
setting target value = become (sets 100 target value ∷ [])

-- this statement alone
abbrev pub only : TypedStatement → Result TypedStatements ProgramRefusal
only statement = Ok (Next statement Finish)

-- target = value; in column 100
abbrev pub set_to : List ℕ → TypedExpression → Result TypedStatements ProgramRefusal
set_to target value = only (assign_at 100 target value)

-- refused for types, in this column
abbrev pub refused_in : TypeKind → ℕ → Result TypedStatements ProgramRefusal
refused_in kind column = Err (OfTypes (record { kind = kind; place = col column }))

-- the value of d
abbrev pub value_d : TypedExpression
value_d = value_of_type (codes "d") (DecimalOf 5 2)

-- the value of e
abbrev pub value_e : TypedExpression
value_e = value_of_type (codes "e") (DecimalOf 20 20)

-- the value of c
abbrev pub value_c : TypedExpression
value_c = value_of_type (codes "c") (Char 3)

-- the value of v
abbrev pub value_v : TypedExpression
value_v = value_of_type (codes "v") (Varchar 5)

-- the value of i
abbrev pub value_i : TypedExpression
value_i = variable_of (codes "i")

-- the value of j
abbrev pub value_j : TypedExpression
value_j = variable_of (codes "j")

-- operators between operands: what they become, and TypeClash and ScaleTooLarge at the operator
pub record OperatorExamples : Type 0 where
  -- i = j + 1;
  pub integer_sum : setting (codes "i") (chained Sum 106 (codes "+") (name_at 104 (codes "j")) (integer_at 108 (codes "1"))) ≡ set_to (codes "i") (plus value_j (int 1))
  -- d = i + d; : the left operand is widened
  pub left_widened : setting (codes "d") (chained Sum 106 (codes "+") (name_at 104 (codes "i")) (name_at 108 (codes "d")))
      ≡ set_to (codes "d") (Convert (Chain value_i (Link true operation.DecimalAdd value_d (DecimalOf 38 2) NoLink)) (DecimalOf 5 2))
  -- d = d - i; : the right operand is widened
  pub right_widened : setting (codes "d") (chained Sum 106 (codes "-") (name_at 104 (codes "d")) (name_at 108 (codes "i")))
      ≡ set_to (codes "d") (Convert (Chain value_d (Link false operation.DecimalSubtract (Widen value_i) (DecimalOf 38 2) NoLink)) (DecimalOf 5 2))
  -- d = i + j + d; : the sum of i and j is exact, and then widened
  pub sum_widened : setting (codes "d") (chained_twice Sum 106 (codes "+") 110 (codes "+") (name_at 104 (codes "i")) (name_at 108 (codes "j")) (name_at 112 (codes "d")))
      ≡ set_to (codes "d") (Convert (Chain value_i (Link false operation.IntegerAdd value_j BigInt (Link true operation.DecimalAdd value_d (DecimalOf 38 2) NoLink))) (DecimalOf 5 2))
  -- d = i / j; : both are widened
  pub quotient : setting (codes "d") (chained Product 106 (codes "/") (name_at 104 (codes "i")) (name_at 108 (codes "j")))
      ≡ set_to (codes "d") (Convert (Chain value_i (Link true operation.DecimalDivide (Widen value_j) (DecimalOf 38 6) NoLink)) (DecimalOf 5 2))
  -- d = d * e; : 22 digits behind the point
  pub product_scale : setting (codes "d") (chained Product 106 (codes "*") (name_at 104 (codes "d")) (name_at 108 (codes "e")))
      ≡ set_to (codes "d") (Convert (Chain value_d (Link false operation.DecimalMultiply value_e (DecimalOf 38 22) NoLink)) (DecimalOf 5 2))
  -- d = i * d; : the left operand is widened
  pub product_widened : setting (codes "d") (chained Product 106 (codes "*") (name_at 104 (codes "i")) (name_at 108 (codes "d")))
      ≡ set_to (codes "d") (Convert (Chain value_i (Link true operation.DecimalMultiply value_d (DecimalOf 38 2) NoLink)) (DecimalOf 5 2))
  -- d = e * d * e; : 42 digits behind the point at the second operator
  pub second_scale_too_large : setting (codes "d") (chained_twice Product 106 (codes "*") 110 (codes "*") (name_at 104 (codes "e")) (name_at 108 (codes "d")) (name_at 112 (codes "e"))) ≡ refused_in ScaleTooLarge 110
  -- d = e * e; : 40 digits behind the point
  pub scale_too_large : setting (codes "d") (chained Product 106 (codes "*") (name_at 104 (codes "e")) (name_at 108 (codes "e"))) ≡ refused_in ScaleTooLarge 106
  -- i = e * c; : a clash, and no product
  pub product_clash : setting (codes "i") (chained Product 106 (codes "*") (name_at 104 (codes "e")) (name_at 108 (codes "c"))) ≡ refused_in TypeClash 106
  -- i = c + 1;
  pub sum_clash : setting (codes "i") (chained Sum 106 (codes "+") (name_at 104 (codes "c")) (integer_at 108 (codes "1"))) ≡ refused_in TypeClash 106
  -- i = c + 1 + v; : the first operator
  pub first_operator : setting (codes "i") (chained_twice Sum 106 (codes "+") 110 (codes "+") (name_at 104 (codes "c")) (integer_at 108 (codes "1")) (name_at 112 (codes "v"))) ≡ refused_in TypeClash 106
  -- i = i + 1 + v; : the second operator
  pub second_operator : setting (codes "i") (chained_twice Sum 106 (codes "+") 110 (codes "+") (name_at 104 (codes "i")) (integer_at 108 (codes "1")) (name_at 112 (codes "v"))) ≡ refused_in TypeClash 110
  -- i = null + 1; and i = (null) + 1; : at the word
  pub null_operand : setting (codes "i") (chained Sum 109 (codes "+") (null_at 104) (integer_at 111 (codes "1"))) ≡ refused_in TypeClash 104
  pub null_in_parentheses : setting (codes "i") (chained Sum 111 (codes "+") (parenthesis_at 104 (null_at 105)) (integer_at 113 (codes "1"))) ≡ refused_in TypeClash 105
  -- i = c + null; i = c + trim(i); v = i || null; : an operand is refused whatever stands on the other side
  pub text_beside_null : setting (codes "i") (chained Sum 106 (codes "+") (name_at 104 (codes "c")) (null_at 108)) ≡ refused_in TypeClash 106
  pub text_beside_refused : setting (codes "i") (chained Sum 106 (codes "+") (name_at 104 (codes "c")) (calling_at 108 (codes "trim") (name_at 113 (codes "i") ∷ []))) ≡ refused_in TypeClash 106
  pub number_beside_null : setting (codes "v") (chained Concatenation 106 (codes "||") (name_at 104 (codes "i")) (null_at 109)) ≡ refused_in TypeClash 106
  -- i = null * c; : the word comes before the operator
  pub null_before_text : setting (codes "i") (chained Product 109 (codes "*") (null_at 104) (name_at 111 (codes "c"))) ≡ refused_in TypeClash 104
  -- v = c || v; : eight characters, cut to five
  pub texts_joined : setting (codes "v") (chained Concatenation 106 (codes "||") (name_at 104 (codes "c")) (name_at 109 (codes "v")))
      ≡ set_to (codes "v") (Convert (Chain value_c (Link false operation.Concatenate value_v (Varchar 8) NoLink)) (Varchar 5))
  -- v = c || i;
  pub number_joined : setting (codes "v") (chained Concatenation 106 (codes "||") (name_at 104 (codes "c")) (name_at 109 (codes "i"))) ≡ refused_in TypeClash 106
  -- i = -j; and d = -d; : the operand's type
  pub integer_negated : setting (codes "i") (sign_at 104 (codes "-") (name_at 105 (codes "j"))) ≡ set_to (codes "i") (negated value_j)
  pub decimal_negated : setting (codes "d") (sign_at 104 (codes "-") (name_at 105 (codes "d"))) ≡ set_to (codes "d") (Prefixed prefix.DecimalNegate value_d (DecimalOf 5 2))
  -- i = -c;
  pub text_negated : setting (codes "i") (sign_at 104 (codes "-") (name_at 105 (codes "c"))) ≡ refused_in TypeClash 104

-- conditions and comparisons: what they become, TypeClash at the operator, NotTruth at the operand
pub record TruthTypeExamples : Type 0 where
  -- i = i & d; : numbers of any types
  pub numbers_are_true : setting (codes "i") (chained And 106 (codes "&") (name_at 104 (codes "i")) (name_at 108 (codes "d")))
      ≡ set_to (codes "i") (Chain value_i (Link false operation.And value_d BigInt NoLink))
  -- i = i & c; i = c & i; i = ^(c); : at the first token of the text
  pub text_on_the_right : setting (codes "i") (chained And 106 (codes "&") (name_at 104 (codes "i")) (name_at 108 (codes "c"))) ≡ refused_in NotTruth 108
  pub text_on_the_left : setting (codes "i") (chained And 106 (codes "&") (name_at 104 (codes "c")) (name_at 108 (codes "i"))) ≡ refused_in NotTruth 104
  pub not_of_text : setting (codes "i") (not_at 104 (parenthesis_at 105 (name_at 106 (codes "c")))) ≡ refused_in NotTruth 105
  -- i = i | d; i = i | c;
  pub either : setting (codes "i") (chained Or 106 (codes "|") (name_at 104 (codes "i")) (name_at 108 (codes "d")))
      ≡ set_to (codes "i") (Chain value_i (Link false operation.Or value_d BigInt NoLink))
  pub either_of_text : setting (codes "i") (chained Or 106 (codes "|") (name_at 104 (codes "i")) (name_at 108 (codes "c"))) ≡ refused_in NotTruth 108
  -- i = ^null;
  pub not_of_null : setting (codes "i") (not_at 104 (null_at 105)) ≡ refused_in TypeClash 105
  -- i = i < d; : a BIGINT is widened
  pub comparison_widened : setting (codes "i") (compared_at 106 (codes "<") (name_at 104 (codes "i")) (name_at 108 (codes "d"))) ≡ set_to (codes "i") (Compared comparison.Less (Widen value_i) value_d)
  -- i = c = v; : texts of any lengths
  pub texts_compared : setting (codes "i") (compared_at 106 (codes "=") (name_at 104 (codes "c")) (name_at 108 (codes "v"))) ≡ set_to (codes "i") (Compared comparison.Equal value_c value_v)
  -- i = c ^= null; : null has the type of the other side
  pub null_compared : setting (codes "i") (compared_at 106 (codes "^=") (name_at 104 (codes "c")) (null_at 109)) ≡ set_to (codes "i") (Compared comparison.NotEqual value_c (Constant Null (Char 3)))
  -- i = null = null;
  pub nulls_compared : setting (codes "i") (compared_at 109 (codes "=") (null_at 104) (null_at 111)) ≡ set_to (codes "i") (Compared comparison.Equal (Constant Null BigInt) (Constant Null BigInt))
  -- i = c = 1;
  pub unlike_compared : setting (codes "i") (compared_at 106 (codes "=") (name_at 104 (codes "c")) (integer_at 108 (codes "1"))) ≡ refused_in TypeClash 106
  -- v = (i = c); : a refused comparison is a BIGINT all the same, so the assignment is refused first
  pub type_all_the_same : setting (codes "v") (parenthesis_at 104 (compared_at 107 (codes "=") (name_at 105 (codes "i")) (name_at 109 (codes "c")))) ≡ refused_in TypeClash 100
  -- v = -(i = c); : a sign before it has no type, so the assignment is not
  pub no_type_around : setting (codes "v") (sign_at 104 (codes "-") (parenthesis_at 105 (compared_at 108 (codes "=") (name_at 106 (codes "i")) (name_at 110 (codes "c"))))) ≡ refused_in TypeClash 108

-- assignments and constants: what they become, and TypeClash at the statement
pub record AssignmentExamples : Type 0 where
  -- i = j; c = c; : nothing is converted
  pub one_type : setting (codes "i") (name_at 104 (codes "j")) ≡ set_to (codes "i") value_j
  pub one_text_type : setting (codes "c") (name_at 104 (codes "c")) ≡ set_to (codes "c") value_c
  -- d = i; : widened, then brought to two digits behind the point
  pub integer_to_decimal : setting (codes "d") (name_at 104 (codes "i")) ≡ set_to (codes "d") (Convert (Widen value_i) (DecimalOf 5 2))
  -- d = e;
  pub decimal_to_decimal : setting (codes "d") (name_at 104 (codes "e")) ≡ set_to (codes "d") (Convert value_e (DecimalOf 5 2))
  -- c = v; v = c;
  pub filled : setting (codes "c") (name_at 104 (codes "v")) ≡ set_to (codes "c") (Convert value_v (Char 3))
  pub cut : setting (codes "v") (name_at 104 (codes "c")) ≡ set_to (codes "v") (Convert value_c (Varchar 5))
  -- d = null; d = (null);
  pub null_assigned : setting (codes "d") (null_at 104) ≡ set_to (codes "d") (Constant Null (DecimalOf 5 2))
  pub null_in_parentheses_assigned : setting (codes "d") (parenthesis_at 104 (null_at 105)) ≡ set_to (codes "d") (Constant Null (DecimalOf 5 2))
  -- i = d; i = c; c = i;
  pub decimal_to_integer : setting (codes "i") (name_at 104 (codes "d")) ≡ refused_in TypeClash 100
  pub text_to_number : setting (codes "i") (name_at 104 (codes "c")) ≡ refused_in TypeClash 100
  pub number_to_text : setting (codes "c") (name_at 104 (codes "i")) ≡ refused_in TypeClash 100
  -- d = 01.50n; and d = 0.05n; : digits without leading zeros, and at least those behind the point
  pub decimal_digits : setting (codes "d") (decimal_at 104 (codes "01.50n")) ≡ set_to (codes "d") (Convert (decimal_constant 150 3 2) (DecimalOf 5 2))
  pub digits_behind_the_point : setting (codes "d") (decimal_at 104 (codes "0.05n")) ≡ set_to (codes "d") (Convert (decimal_constant 5 2 2) (DecimalOf 5 2))
  -- v = 'it''s'; : two quotes are one
  pub quote_in_text : setting (codes "v") (text_at 104 (codes "'it''s'")) ≡ set_to (codes "v") (Convert (text_constant (codes "it's") 4) (Varchar 5))
  -- v = ''; : one character at least
  pub empty_text : setting (codes "v") (text_at 104 (codes "''")) ≡ set_to (codes "v") (Convert (text_constant [] 1) (Varchar 5))
  -- i = c; j = d; : the second is not given
  pub first_of_two_types : become (sets 100 (codes "i") (name_at 104 (codes "c")) ∷ sets 110 (codes "j") (name_at 114 (codes "d")) ∷ []) ≡ refused_in TypeClash 100
  -- i = c; q = 1; : names come before types
  pub names_first : become (sets 100 (codes "i") (name_at 104 (codes "c")) ∷ sets 110 (codes "q") (integer_at 114 (codes "1")) ∷ []) ≡ Err (OfNames (record { kind = UnknownName; place = col 110 }))
