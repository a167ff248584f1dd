-- What small programs with one expression or two leave, written out from the rules by hand. Each stands behind its source.
use Rattle.std.specs.Prelude.{◌≡◌, true, false, codes, [], ◌∷◌, pos, negsuc}
use Rattle.ds2_value.specs.declared.comparison.Comparison.TheVariants as comparison
use Rattle.ds2_value.specs.declared.fault.Fault.TheVariants.{Overflow, DivideByZero, Range}
use Rattle.ds2_value.specs.declared.ty.Ty.TheVariants.{BigInt, Decimal as DecimalOf, Char, Varchar}
use Rattle.ds2_value.specs.declared.value.Value.TheVariants.{Null, Int, Txt}
use Rattle.ds2_value.specs.declared.value_function.ValueFunction.TheVariants as of_values
use Rattle.ds2_meaning.specs.declared.expressions.Function.TheVariants as function
use Rattle.ds2_meaning.specs.declared.expressions.Operation.TheVariants as operation
use Rattle.ds2_meaning.specs.declared.expressions.Prefix.TheVariants as prefix
use Rattle.ds2_meaning.specs.ExampleWords.{natural, fixed, value_of_type, variable_of, int, decimal_constant, text_constant, binary, plus, less, negated, function_of, assign_at, unit_with, program_with, bigint, ran, ends_with, faults_at}
use Rattle.ds2_meaning.specs.TypedExpression.{Widen, Convert, Prefixed, Chain, Link, NoLink, Compared}

-- operators on BIGINT values: chains from the left, null, and results that leave 64 bits
pub record IntegerExamples : Type 0 where
  -- x = 9223372036854775807 + 1;
  pub sum_overflows : ran (program_with (codes "x" ∷ []) (assign_at 7 (codes "x") (plus (int 9223372036854775807) (int 1)) ∷ [])) 10
      ≡ faults_at Overflow 7 (10 ∷ 9 ∷ [])
  -- x = 2 - 5 - 4;
  pub chains_go_from_the_left : ran (program_with (codes "x" ∷ []) (
      assign_at 7 (codes "x") (Chain (int 2) (Link false operation.IntegerSubtract (int 5) BigInt (Link false operation.IntegerSubtract (int 4) BigInt NoLink))) ∷ [])) 10
      ≡ ends_with ((Int (negsuc 6) ∷ []) ∷ []) (10 ∷ 9 ∷ 10 ∷ [])
  -- x = y + 1;
  pub null_operand_gives_null : ran (program_with (codes "x" ∷ codes "y" ∷ []) (assign_at 7 (codes "x") (plus (variable_of (codes "y")) (int 1)) ∷ [])) 10
      ≡ ends_with ((Null ∷ Null ∷ []) ∷ []) (10 ∷ 9 ∷ 10 ∷ [])
  -- x = 3037000500 * 3037000500;
  pub product_overflows : ran (program_with (codes "x" ∷ []) (
      assign_at 7 (codes "x") (binary operation.IntegerMultiply BigInt (int 3037000500) (int 3037000500)) ∷ [])) 10
      ≡ faults_at Overflow 7 (10 ∷ 9 ∷ [])
  -- x = -5 * 3; y = +x;
  pub signs : ran (program_with (codes "x" ∷ codes "y" ∷ []) (
      assign_at 7 (codes "x") (binary operation.IntegerMultiply BigInt (negated (int 5)) (int 3))
      ∷ assign_at 20 (codes "y") (Prefixed prefix.Plus (variable_of (codes "x")) BigInt) ∷ [])) 10
      ≡ ends_with ((Int (negsuc 14) ∷ Int (negsuc 14) ∷ []) ∷ []) (10 ∷ 8 ∷ 10 ∷ [])
  -- x = -9223372036854775807 - 1; y = mod(x, -1); x = abs(x);
  pub least_integer : ran (program_with (codes "x" ∷ codes "y" ∷ []) (
      assign_at 7 (codes "x") (less (negated (int 9223372036854775807)) (int 1))
      ∷ assign_at 40 (codes "y") (function_of (function.Value of_values.IntegerModulo) BigInt (variable_of (codes "x") ∷ negated (int 1) ∷ []))
      ∷ assign_at 60 (codes "x") (function_of (function.Value of_values.IntegerAbsolute) BigInt (variable_of (codes "x") ∷ [])) ∷ [])) 10
      ≡ faults_at Overflow 60 (10 ∷ 7 ∷ [])
  -- x = mod(-7, 3); y = abs(-5);
  pub remainder_has_the_sign_of_the_first : ran (program_with (codes "x" ∷ codes "y" ∷ []) (
      assign_at 7 (codes "x") (function_of (function.Value of_values.IntegerModulo) BigInt (negated (int 7) ∷ int 3 ∷ []))
      ∷ assign_at 20 (codes "y") (function_of (function.Value of_values.IntegerAbsolute) BigInt (negated (int 5) ∷ [])) ∷ [])) 10
      ≡ ends_with ((Int (negsuc 0) ∷ natural 5 ∷ []) ∷ []) (10 ∷ 8 ∷ 10 ∷ [])
  -- x = mod(5, 0);
  pub remainder_of_zero : ran (program_with (codes "x" ∷ []) (
      assign_at 7 (codes "x") (function_of (function.Value of_values.IntegerModulo) BigInt (int 5 ∷ int 0 ∷ [])) ∷ [])) 10
      ≡ faults_at DivideByZero 7 (10 ∷ 9 ∷ [])

-- operators on DECIMAL values: scales, rounding half away from 0, division
pub record DecimalExamples : Type 0 where
  -- dcl decimal(10,2) x y z; x = 10.00n / 3; y = 2.00n / 3; z = -0.005n;
  pub rounded : ran (unit_with (record { name = codes "x"; ty = DecimalOf 10 2 } ∷ record { name = codes "y"; ty = DecimalOf 10 2 } ∷ record { name = codes "z"; ty = DecimalOf 10 2 } ∷ []) (
      assign_at 7 (codes "x") (Convert (binary operation.DecimalDivide (DecimalOf 38 6) (decimal_constant 1000 4 2) (Widen (int 3))) (DecimalOf 10 2))
      ∷ assign_at 25 (codes "y") (Convert (binary operation.DecimalDivide (DecimalOf 38 6) (decimal_constant 200 3 2) (Widen (int 3))) (DecimalOf 10 2))
      ∷ assign_at 45 (codes "z") (Convert (Prefixed prefix.DecimalNegate (decimal_constant 5 3 3) (DecimalOf 3 3)) (DecimalOf 10 2)) ∷ [])) 10
      ≡ ends_with ((fixed (pos 333) 2 ∷ fixed (pos 67) 2 ∷ fixed (negsuc 0) 2 ∷ []) ∷ []) (10 ∷ 7 ∷ 10 ∷ [])
  -- dcl decimal(38,0) x; x = the product of two constants of 38 nines;
  pub product_of_nines : ran (unit_with (record { name = codes "x"; ty = DecimalOf 38 0 } ∷ []) (
      assign_at 7 (codes "x") (Convert (binary operation.DecimalMultiply (DecimalOf 38 0) (decimal_constant 99999999999999999999999999999999999999 38 0) (decimal_constant 99999999999999999999999999999999999999 38 0)) (DecimalOf 38 0)) ∷ [])) 10
      ≡ faults_at Overflow 7 (10 ∷ 9 ∷ [])
  -- dcl decimal(38,0) x; x = 10000000000000000000n * 1000000000000000000n;
  pub product_of_tens : ran (unit_with (record { name = codes "x"; ty = DecimalOf 38 0 } ∷ []) (
      assign_at 7 (codes "x") (Convert (binary operation.DecimalMultiply (DecimalOf 38 0) (decimal_constant 10000000000000000000 20 0) (decimal_constant 1000000000000000000 19 0)) (DecimalOf 38 0)) ∷ [])) 10
      ≡ ends_with ((fixed (pos 10000000000000000000000000000000000000) 0 ∷ []) ∷ []) (10 ∷ 9 ∷ 10 ∷ [])
  -- dcl decimal(3,1) x; x = 99.95n;
  pub assignment_overflows : ran (unit_with (record { name = codes "x"; ty = DecimalOf 3 1 } ∷ []) (
      assign_at 7 (codes "x") (Convert (decimal_constant 9995 4 2) (DecimalOf 3 1)) ∷ [])) 10
      ≡ faults_at Overflow 7 (10 ∷ 9 ∷ [])
  -- dcl decimal(10,6) x; x = 1 / 0;
  pub divided_by_zero : ran (unit_with (record { name = codes "x"; ty = DecimalOf 10 6 } ∷ []) (
      assign_at 7 (codes "x") (Convert (Chain (int 1) (Link true operation.DecimalDivide (Widen (int 0)) (DecimalOf 38 6) NoLink)) (DecimalOf 10 6)) ∷ [])) 10
      ≡ faults_at DivideByZero 7 (10 ∷ 9 ∷ [])
  -- dcl decimal(10,6) x; dcl bigint y; x = y / 0;
  pub null_divided_by_zero : ran (unit_with (record { name = codes "x"; ty = DecimalOf 10 6 } ∷ bigint (codes "y") ∷ []) (
      assign_at 7 (codes "x") (Convert (Chain (variable_of (codes "y")) (Link true operation.DecimalDivide (Widen (int 0)) (DecimalOf 38 6) NoLink)) (DecimalOf 10 6)) ∷ [])) 10
      ≡ ends_with ((Null ∷ Null ∷ []) ∷ []) (10 ∷ 9 ∷ 10 ∷ [])
  -- dcl decimal(5,0) f c; dcl bigint g; f = floor(-1.5n); c = ceil(-1.5n); g = floor(7);
  pub whole_parts : ran (unit_with (record { name = codes "f"; ty = DecimalOf 5 0 } ∷ record { name = codes "c"; ty = DecimalOf 5 0 } ∷ bigint (codes "g") ∷ []) (
      assign_at 7 (codes "f") (Convert (function_of (function.Value of_values.Floor) (DecimalOf 38 0) (Prefixed prefix.DecimalNegate (decimal_constant 15 2 1) (DecimalOf 2 1) ∷ [])) (DecimalOf 5 0))
      ∷ assign_at 25 (codes "c") (Convert (function_of (function.Value of_values.Ceiling) (DecimalOf 38 0) (Prefixed prefix.DecimalNegate (decimal_constant 15 2 1) (DecimalOf 2 1) ∷ [])) (DecimalOf 5 0))
      ∷ assign_at 45 (codes "g") (function_of function.Unchanged BigInt (int 7 ∷ [])) ∷ [])) 10
      ≡ ends_with ((fixed (negsuc 1) 0 ∷ fixed (negsuc 0) 0 ∷ natural 7 ∷ []) ∷ []) (10 ∷ 7 ∷ 10 ∷ [])

-- comparisons and truth, with null
pub record TruthExamples : Type 0 where
  -- a = y = y; b = 1 = 1.00n; c = 'a' = 'a  '; d = 2 < 1;
  pub compared : ran (program_with (codes "a" ∷ codes "b" ∷ codes "c" ∷ codes "d" ∷ codes "y" ∷ []) (
      assign_at 1 (codes "a") (Compared comparison.Equal (variable_of (codes "y")) (variable_of (codes "y")))
      ∷ assign_at 11 (codes "b") (Compared comparison.Equal (Widen (int 1)) (decimal_constant 100 3 2))
      ∷ assign_at 21 (codes "c") (Compared comparison.Equal (text_constant (codes "a") 1) (text_constant (codes "a  ") 3))
      ∷ assign_at 31 (codes "d") (Compared comparison.Less (int 2) (int 1)) ∷ [])) 10
      ≡ ends_with ((Null ∷ natural 1 ∷ natural 1 ∷ natural 0 ∷ Null ∷ []) ∷ []) (10 ∷ 6 ∷ 10 ∷ [])
  -- a = y and 0; b = y or 1; c = not y; d = y and 1; e = 7 and 2;
  pub combined : ran (program_with (codes "a" ∷ codes "b" ∷ codes "c" ∷ codes "d" ∷ codes "e" ∷ codes "y" ∷ []) (
      assign_at 1 (codes "a") (binary operation.And BigInt (variable_of (codes "y")) (int 0))
      ∷ assign_at 11 (codes "b") (binary operation.Or BigInt (variable_of (codes "y")) (int 1))
      ∷ assign_at 21 (codes "c") (Prefixed prefix.Not (variable_of (codes "y")) BigInt)
      ∷ assign_at 31 (codes "d") (binary operation.And BigInt (variable_of (codes "y")) (int 1))
      ∷ assign_at 41 (codes "e") (binary operation.And BigInt (int 7) (int 2)) ∷ [])) 10
      ≡ ends_with ((natural 0 ∷ natural 1 ∷ Null ∷ Null ∷ natural 1 ∷ Null ∷ []) ∷ []) (10 ∷ 5 ∷ 10 ∷ [])
  -- a = 0 and 9223372036854775807 + 1;
  pub both_sides_are_evaluated : ran (program_with (codes "a" ∷ []) (
      assign_at 1 (codes "a") (binary operation.And BigInt (int 0) (plus (int 9223372036854775807) (int 1))) ∷ [])) 10
      ≡ faults_at Overflow 1 (10 ∷ 9 ∷ [])
  -- a = null(y); b = null(5); c = coalesce(y, 5); d = min(y, 3, 2); e = max(y, 3, 2); f = min(y, y);
  pub chosen : ran (program_with (codes "a" ∷ codes "b" ∷ codes "c" ∷ codes "d" ∷ codes "e" ∷ codes "f" ∷ codes "y" ∷ []) (
      assign_at 1 (codes "a") (function_of (function.Value of_values.IsNull) BigInt (variable_of (codes "y") ∷ []))
      ∷ assign_at 11 (codes "b") (function_of (function.Value of_values.IsNull) BigInt (int 5 ∷ []))
      ∷ assign_at 21 (codes "c") (function_of function.Coalesce BigInt (variable_of (codes "y") ∷ int 5 ∷ []))
      ∷ assign_at 31 (codes "d") (function_of function.Least BigInt (variable_of (codes "y") ∷ int 3 ∷ int 2 ∷ []))
      ∷ assign_at 41 (codes "e") (function_of function.Greatest BigInt (variable_of (codes "y") ∷ int 3 ∷ int 2 ∷ []))
      ∷ assign_at 51 (codes "f") (function_of function.Least BigInt (variable_of (codes "y") ∷ variable_of (codes "y") ∷ [])) ∷ [])) 10
      ≡ ends_with ((natural 1 ∷ natural 0 ∷ natural 5 ∷ natural 2 ∷ natural 3 ∷ Null ∷ Null ∷ []) ∷ []) (10 ∷ 4 ∷ 10 ∷ [])

-- texts: types cut and fill, functions count characters
pub record TextExamples : Type 0 where
  -- dcl varchar(3) t; dcl char(4) u; dcl bigint l; t = 'ab' || 'cd'; u = 'a'; l = length(u);
  pub cut_and_filled : ran (unit_with (record { name = codes "t"; ty = Varchar 3 } ∷ record { name = codes "u"; ty = Char 4 } ∷ bigint (codes "l") ∷ []) (
      assign_at 1 (codes "t") (Convert (binary operation.Concatenate (Varchar 4) (text_constant (codes "ab") 2) (text_constant (codes "cd") 2)) (Varchar 3))
      ∷ assign_at 21 (codes "u") (Convert (text_constant (codes "a") 1) (Char 4))
      ∷ assign_at 31 (codes "l") (function_of (function.Value of_values.Length) BigInt (value_of_type (codes "u") (Char 4) ∷ [])) ∷ [])) 10
      ≡ ends_with ((Txt (codes "abc") ∷ Txt (codes "a   ") ∷ natural 1 ∷ []) ∷ []) (10 ∷ 7 ∷ 10 ∷ [])
  -- dcl varchar(3) t u v; t = substr('abc', 4); u = substr('abc', 2, 9); v = trim('a  ') || u;
  pub parts : ran (unit_with (record { name = codes "t"; ty = Varchar 3 } ∷ record { name = codes "u"; ty = Varchar 3 } ∷ record { name = codes "v"; ty = Varchar 3 } ∷ []) (
      assign_at 1 (codes "t") (Convert (function_of (function.Value of_values.SubstringFrom) (Varchar 3) (text_constant (codes "abc") 3 ∷ int 4 ∷ [])) (Varchar 3))
      ∷ assign_at 21 (codes "u") (Convert (function_of (function.Value of_values.Substring) (Varchar 3) (text_constant (codes "abc") 3 ∷ int 2 ∷ int 9 ∷ [])) (Varchar 3))
      ∷ assign_at 41 (codes "v") (Convert (binary operation.Concatenate (Varchar 6) (function_of (function.Value of_values.Trim) (Varchar 3) (text_constant (codes "a  ") 3 ∷ [])) (value_of_type (codes "u") (Varchar 3))) (Varchar 3)) ∷ [])) 10
      ≡ ends_with ((Txt [] ∷ Txt (codes "bc") ∷ Txt (codes "abc") ∷ []) ∷ []) (10 ∷ 7 ∷ 10 ∷ [])
  -- dcl varchar(3) t; t = substr('abc', 5);
  pub past_the_end : ran (unit_with (record { name = codes "t"; ty = Varchar 3 } ∷ []) (
      assign_at 1 (codes "t") (Convert (function_of (function.Value of_values.SubstringFrom) (Varchar 3) (text_constant (codes "abc") 3 ∷ int 5 ∷ [])) (Varchar 3)) ∷ [])) 10
      ≡ faults_at Range 1 (10 ∷ 9 ∷ [])
  -- dcl varchar(3) t; t = substr('abc', 1, -1);
  pub less_than_none : ran (unit_with (record { name = codes "t"; ty = Varchar 3 } ∷ []) (
      assign_at 1 (codes "t") (Convert (function_of (function.Value of_values.Substring) (Varchar 3) (text_constant (codes "abc") 3 ∷ int 1 ∷ negated (int 1) ∷ [])) (Varchar 3)) ∷ [])) 10
      ≡ faults_at Range 1 (10 ∷ 9 ∷ [])
  -- dcl varchar(3) t u; t = 'a' || u; u = substr(u, 0);
  pub null_text : ran (unit_with (record { name = codes "t"; ty = Varchar 3 } ∷ record { name = codes "u"; ty = Varchar 3 } ∷ []) (
      assign_at 1 (codes "t") (Convert (binary operation.Concatenate (Varchar 4) (text_constant (codes "a") 1) (value_of_type (codes "u") (Varchar 3))) (Varchar 3))
      ∷ assign_at 21 (codes "u") (Convert (function_of (function.Value of_values.SubstringFrom) (Varchar 3) (value_of_type (codes "u") (Varchar 3) ∷ int 0 ∷ [])) (Varchar 3)) ∷ [])) 10
      ≡ ends_with ((Null ∷ Null ∷ []) ∷ []) (10 ∷ 8 ∷ 10 ∷ [])
