-- Words that the small sources of the examples are written with. Each takes the column at which it stands.
use Rattle.std.specs.Prelude.{ℕ, ◌+◌, codes, List, [], ◌∷◌, Option, Some, None, Result, Ok, Err}
use Rattle.ds2_token.specs.declared.kinds.TokenKind.TheVariants as kind
use Rattle.ds2_token.specs.declared.token.Token.{Token}
use Rattle.ds2_tree.specs.Expressions.{Expression, Constant, Null, Variable, Call, Parenthesis, Sign, Chain, Comparison, Not, NoOperand, Operand, Arguments, NoArgument, Argument}
use Rattle.ds2_tree.specs.Globals.{GlobalItem, Declared, Defined}
use Rattle.ds2_tree.specs.Statements as s
use Rattle.ds2_tree.specs.Units.{DataProgram}
use Rattle.ds2_tree.specs.declared.expressions.Callee.TheVariants as callee
use Rattle.ds2_tree.specs.declared.expressions.ChainKind.{ChainKind}
use Rattle.ds2_tree.specs.declared.globals.Declaration.TheVariants.{Variables}
use Rattle.ds2_tree.specs.declared.globals.Parameter.{Parameter}
use Rattle.ds2_tree.specs.declared.globals.Returns.{Returns}
use Rattle.ds2_tree.specs.declared.globals.TypeName.{TypeName}
use Rattle.ds2_tree.specs.declared.globals.TypeName.TheVariants as type_name
use Rattle.ds2_tree.specs.declared.readings.Reading as source_reading
use Rattle.ds2_meaning.specs.ExampleWords.{col}
use Rattle.ds2_meaning.specs.ProgramTree.{UnitTree, reader_of}
use Rattle.ds2_names.specs.NameExamples.{word_in}
use Rattle.ds2_names.specs.SourceUnit.{TableColumns, unit_of_data}
use Rattle.ds2_elaboration.specs.Elaboration.{ProgramRefusal, unit_refusal, before_source}
use Rattle.ds2_elaboration.specs.ProgramTypes.{typed_program}

-- ---- tokens

-- a mark
abbrev pub mark_token_in : ℕ → List ℕ → Token
mark_token_in column letters = record { kind = kind.Mark; spelling = letters; place = col column }

-- an integer
abbrev pub integer_in : ℕ → List ℕ → Token
integer_in column digits = record { kind = kind.Integer; spelling = digits; place = col column }

-- ---- expressions

-- the value of a name
abbrev pub name_at : ℕ → List ℕ → Expression
name_at column letters = Variable (word_in column letters)

-- an integer constant
abbrev pub integer_at : ℕ → List ℕ → Expression
integer_at column digits = Constant (integer_in column digits)

-- a decimal constant
abbrev pub decimal_at : ℕ → List ℕ → Expression
decimal_at column digits = Constant (record { kind = kind.Decimal; spelling = digits; place = col column })

-- a text constant, with its quotes
abbrev pub text_at : ℕ → List ℕ → Expression
text_at column letters = Constant (record { kind = kind.Text; spelling = letters; place = col column })

-- null
abbrev pub null_at : ℕ → Expression
null_at column = Null (word_in column (codes "null"))

-- (inner), with the parenthesis in this column
abbrev pub parenthesis_at : ℕ → Expression → Expression
parenthesis_at column inner = Parenthesis (col column) inner (col 999)

-- an operator before its operand
abbrev pub sign_at : ℕ → List ℕ → Expression → Expression
sign_at column sign operand = Sign (mark_token_in column sign) operand

-- not operand
abbrev pub not_at : ℕ → Expression → Expression
not_at column operand = Not (mark_token_in column (codes "^")) operand

-- left operator right, with the operator in this column
abbrev pub chained : ChainKind → ℕ → List ℕ → Expression → Expression → Expression
chained kind column operator left right = Chain kind left (Operand (mark_token_in column operator) right NoOperand)

-- left operator middle operator right, with the operators in these columns
abbrev pub chained_twice : ChainKind → ℕ → List ℕ → ℕ → List ℕ → Expression → Expression → Expression → Expression
chained_twice kind first_column first second_column second a b c =
    Chain kind a (Operand (mark_token_in first_column first) b (Operand (mark_token_in second_column second) c NoOperand))

-- a comparison, with its operator in this column
abbrev pub compared_at : ℕ → List ℕ → Expression → Expression → Expression
compared_at column operator left right = Comparison left (mark_token_in column operator) right

-- arguments, without their commas
abbrev pub arguments_from : List Expression → Arguments
arguments_from [] = NoArgument
arguments_from (e ∷ es) = Argument None e (arguments_from es)

-- a call of a name
abbrev pub calling_at : ℕ → List ℕ → List Expression → Expression
calling_at column letters arguments = Call (callee.Function (word_in column letters)) (col 999) (arguments_from arguments) (col 999)

-- ---- statements

-- target = value;
abbrev pub sets : ℕ → List ℕ → Expression → s.Statement
sets column target value = s.Assignment (word_in column target) (col 999) value (col 999)

-- a call as a statement
abbrev pub calls : ℕ → List ℕ → List Expression → s.Statement
calls column letters arguments = s.Call (callee.Function (word_in column letters)) (col 999) (arguments_from arguments) (col 999) (col 999)

-- statements in order
abbrev pub statements_from : List s.Statement → s.Statements
statements_from [] = s.NoStatement
statements_from (x ∷ xs) = s.Then x (statements_from xs)

-- if condition then;
abbrev pub if_at : ℕ → Expression → s.Statement
if_at column condition = s.If (word_in column (codes "if")) condition (word_in 999 (codes "then")) (s.Empty (col 998))

-- return value;
abbrev pub returns_at : ℕ → Expression → s.Statement
returns_at column value = s.Return (word_in column (codes "return")) (Some value) (col 999)

-- do variable = start to stop; end; with the variable behind the word
abbrev pub counts_at : ℕ → List ℕ → Expression → Expression → s.Statement
counts_at column variable start stop =
    s.Do (word_in column (codes "do")) (s.Counted (word_in (column + 3) variable) (col 999) start (word_in 999 (codes "to")) stop None) (col 999) s.NoStatement (word_in 999 (codes "end")) (col 999)

-- do variable = start to stop by step; end; with the variable behind the word
abbrev pub counts_by_at : ℕ → List ℕ → Expression → Expression → Expression → s.Statement
counts_by_at column variable start stop step =
    s.Do (word_in column (codes "do"))
    (s.Counted (word_in (column + 3) variable) (col 999) start (word_in 999 (codes "to")) stop (Some (record { keyword = word_in 999 (codes "by"); value = step })))
    (col 999) s.NoStatement (word_in 999 (codes "end")) (col 999)

-- do while (condition); end; or do until (condition); end;
abbrev pub tests_at : ℕ → List ℕ → Expression → s.Statement
tests_at column word condition =
    s.Do (word_in column (codes "do")) (s.Tested (word_in 999 word) (col 999) condition (col 999)) (col 999) s.NoStatement (word_in 999 (codes "end")) (col 999)

-- select; when (tests) ; end;
abbrev pub selects_true_at : ℕ → List Expression → s.Statement
selects_true_at column tests =
    s.Select (word_in column (codes "select")) None (col 999)
    (s.When (word_in 999 (codes "when")) (col 999) (arguments_from tests) (col 999) (s.Empty (col 998)) s.NoWhen) s.NoOtherwise (word_in 999 (codes "end")) (col 999)

-- select (value); when (tests) ; end;
abbrev pub selects_at : ℕ → Expression → List Expression → s.Statement
selects_at column value tests =
    s.Select (word_in column (codes "select")) (Some (record { opening = col 999; value = value; closing = col 999 })) (col 999)
    (s.When (word_in 999 (codes "when")) (col 999) (arguments_from tests) (col 999) (s.Empty (col 998)) s.NoWhen) s.NoOtherwise (word_in 999 (codes "end")) (col 999)

-- ---- declarations and methods

-- bigint
abbrev pub bigint_word : TypeName
bigint_word = type_name.BigInt (word_in 999 (codes "bigint"))

-- decimal(precision, scale)
abbrev pub decimal_words : List ℕ → List ℕ → TypeName
decimal_words precision scale =
    type_name.Decimal (word_in 999 (codes "decimal")) (col 999) (integer_in 999 precision) (Some (record { comma = col 999; number = integer_in 999 scale })) (col 999)

-- char(width) and varchar(width)
abbrev pub text_words : List ℕ → List ℕ → TypeName
text_words keyword width = type_name.Text (word_in 999 keyword) (col 999) (integer_in 999 width) (col 999)

-- dcl type name;
abbrev pub declares : ℕ → TypeName → List ℕ → GlobalItem
declares column ty name = Declared (Variables (record { keyword = word_in 999 (codes "dcl"); ty = ty; names = word_in column name ∷ []; end = col 999 }))

-- a parameter by value
abbrev pub parameter_at : ℕ → TypeName → List ℕ → Parameter
parameter_at column ty name = record { comma = None; in_out = None; ty = ty; name = word_in column name }

-- an in_out parameter
abbrev pub in_out_at : ℕ → TypeName → List ℕ → Parameter
in_out_at column ty name = record { comma = None; in_out = Some (word_in 999 (codes "in_out")); ty = ty; name = word_in column name }

-- returns type
abbrev pub returning : TypeName → Option Returns
returning ty = Some (record { keyword = word_in 999 (codes "returns"); ty = ty })

-- a method without locals
abbrev pub method_at : ℕ → List ℕ → List Parameter → Option Returns → Option source_reading.Reading → List s.Statement → GlobalItem
method_at column name parameters returns reading body = Defined (record {
  keyword = word_in column (codes "method");
  name = word_in (column + 7) name;
  parameters = record { opening = col 999; list = parameters; closing = col 999 };
  returns = returns;
  semicolon = col 999;
  locals = [];
  reading = reading;
  body = statements_from body;
  end_keyword = word_in 999 (codes "end");
  end = col 999;
})

-- data out; with these globals
abbrev pub program_from : List GlobalItem → DataProgram
program_from globals = record {
  keyword = word_in 1 (codes "data");
  outputs = record { table = word_in 6 (codes "out"); options = None } ∷ [];
  semicolon = col 9;
  globals = globals;
  end_keyword = word_in 999 (codes "enddata");
  end = col 999;
}

-- ---- outcomes

-- what a data program becomes over these tables, behind no other unit
abbrev pub typed_alone : TableColumns → DataProgram → UnitTree
typed_alone tables u = reader_of (typed_program tables (before_source []) (unit_of_data u))

-- a program, where it is not refused
abbrev pub unless_refused : UnitTree → Option ProgramRefusal → Result UnitTree ProgramRefusal
unless_refused p None = Ok p
unless_refused p (Some refusal) = Err refusal

-- what a data program becomes over these tables behind no other unit, or its refusal
abbrev pub becomes_alone : TableColumns → DataProgram → Result UnitTree ProgramRefusal
becomes_alone tables u = unless_refused (typed_alone tables u) (unit_refusal tables (before_source []) (unit_of_data u))
