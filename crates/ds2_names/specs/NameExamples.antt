-- Small sources and the refusals of their names.
use Rattle.std.specs.Prelude.{◌≡◌, ℕ, codes, List, [], ◌∷◌, Option, Some, None}
use Rattle.ds2_token.specs.declared.kinds.TokenKind.TheVariants.{Word, Mark}
use Rattle.ds2_token.specs.declared.token.Token.{Token}
use Rattle.ds2_tree.specs.Expressions.{Variable, Chain, NoOperand, Operand}
use Rattle.ds2_tree.specs.Globals.{Declared, Defined}
use Rattle.ds2_tree.specs.Statements.{Statement, Assignment, Leave, NoStatement, Then}
use Rattle.ds2_tree.specs.Units.{DataProgram, AData}
use Rattle.ds2_tree.specs.declared.expressions.ChainKind.TheVariants.{Sum}
use Rattle.ds2_tree.specs.declared.globals.Declaration.TheVariants.{Variables}
use Rattle.ds2_tree.specs.declared.globals.TypeName.TheVariants as type_name
use Rattle.ds2_tree.specs.declared.readings.Reading.TheVariants as reading
use Rattle.ds2_meaning.specs.ExampleWords.{col, bigint_column}
use Rattle.ds2_base.specs.declared.place.Refusal.{Refusal}
use Rattle.ds2_meaning.specs.declared.refusals.ScopeKind.{ScopeKind}
use Rattle.ds2_names.specs.SourceLimits.{before_all, scope_refusal}
use Rattle.ds2_names.specs.SourceUnit.{TableColumns, unit_of_data}
use Rattle.ds2_meaning.specs.declared.refusals.ScopeKind.TheVariants.{UnknownName, Misplaced}

-- a word in this column
abbrev pub word_in : ℕ → List ℕ → Token
word_in column letters = record { kind = Word; spelling = letters; place = col column }

-- data out; dcl bigint x; method run(); set t; and this statement, end; enddata;
abbrev pub program_of_statement : Statement → DataProgram
program_of_statement statement = record {
  keyword = word_in 1 (codes "data");
  outputs = record { table = word_in 6 (codes "out"); options = None } ∷ [];
  semicolon = col 9;
  globals = Declared (Variables (record { keyword = word_in 11 (codes "dcl"); ty = type_name.BigInt (word_in 15 (codes "bigint")); names = word_in 22 (codes "x") ∷ []; end = col 23 }))
      ∷ Defined (record {
        keyword = word_in 25 (codes "method");
        name = word_in 32 (codes "run");
        parameters = record { opening = col 35; list = []; closing = col 36 };
        returns = None;
        semicolon = col 37;
        locals = [];
        reading = Some (reading.Set (word_in 39 (codes "set")) (record { table = word_in 43 (codes "t"); flag = None } ∷ []) (col 44) None);
        body = Then statement NoStatement;
        end_keyword = word_in 57 (codes "end");
        end = col 60;
      }) ∷ [];
  end_keyword = word_in 62 (codes "enddata");
  end = col 69;
}

-- the table t has the BIGINT columns a and b, and so has every other one
abbrev pub two_columns : TableColumns
two_columns table = bigint_column (codes "a") ∷ bigint_column (codes "b") ∷ []

-- the refusal of the names of the one program of a source
abbrev pub refusal_of_program : DataProgram → Option (Refusal ScopeKind)
refusal_of_program program = scope_refusal two_columns (before_all (AData program ∷ [])) (unit_of_data program)

-- target = left + right; in the columns 46, 50 and 54
abbrev pub sum_of_names : List ℕ → List ℕ → List ℕ → Statement
sum_of_names target left right =
    Assignment (word_in 46 target) (col 48)
    (Chain Sum (Variable (word_in 50 left)) (Operand (record { kind = Mark; spelling = codes "+"; place = col 52 }) (Variable (word_in 54 right)) NoOperand)) (col 55)

-- small sources and the refusals of their names
pub record NameExamples : Type 0 where
  -- x = a + b;
  pub taken : refusal_of_program (program_of_statement (sum_of_names (codes "x") (codes "a") (codes "b"))) ≡ None
  -- X = A + b; in letters of either case
  pub taken_in_any_case : refusal_of_program (program_of_statement (sum_of_names (codes "X") (codes "A") (codes "b"))) ≡ None
  -- x = q + r; : the first of two
  pub first_of_two : refusal_of_program (program_of_statement (sum_of_names (codes "x") (codes "q") (codes "r"))) ≡ Some (record { kind = UnknownName; place = col 50 })
  -- z = a + b; : at one place the first kind
  pub first_kind : refusal_of_program (program_of_statement (sum_of_names (codes "z") (codes "a") (codes "b"))) ≡ Some (record { kind = UnknownName; place = col 46 })
  -- leave; outside of loops
  pub leave_outside_of_loops : refusal_of_program (program_of_statement (Leave (word_in 46 (codes "leave")) (col 51))) ≡ Some (record { kind = Misplaced; place = col 46 })
