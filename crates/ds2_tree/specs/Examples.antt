-- Some trees, their tokens, and the levels that they open.
use Rattle.std.specs.Prelude.{◌≡◌, ℕ, codes, List, [], ◌∷◌, Some, None}
use Rattle.ds2_base.specs.declared.place.Place.{Place}
use Rattle.ds2_token.specs.declared.kinds.TokenKind.{TokenKind}
use Rattle.ds2_token.specs.declared.kinds.TokenKind.TheVariants as kind
use Rattle.ds2_token.specs.declared.token.Token.{Token}
use Rattle.ds2_tree.specs.declared.expressions.ChainKind.TheVariants as chain
use Rattle.ds2_tree.specs.declared.expressions.Callee.TheVariants as callee
use Rattle.ds2_tree.specs.declared.globals.Declaration.{Declaration}
use Rattle.ds2_tree.specs.declared.globals.Declaration.TheVariants as declared_as
use Rattle.ds2_tree.specs.declared.units.OutputTable.{OutputTable}
use Rattle.ds2_tree.specs.declared.units.OutputOption.TheVariants as option
use Rattle.ds2_token.specs.Words.{mark_at}
use Rattle.ds2_tree.specs.Expressions.{Expression, Constant, Variable, Call, Parenthesis, Sign, Chain, NoOperand, Operand, NoArgument, Argument, IsExpression}
use Rattle.ds2_tree.specs.Statements.{Statement, Empty, Assignment, If, IfElse, Do, Block, NoStatement, Then, IsStatement, statement_spelling, statement_opens}
use Rattle.ds2_tree.specs.Globals.{IsDeclaration, declaration_spelling}
use Rattle.ds2_tree.specs.Units.{IsOutput, output_spelling}

-- the n-th column of the first line
abbrev at : ℕ → Place
at n = record { line = 1; column = n }

-- a token of this kind and spelling in the n-th column
abbrev sample_token : TokenKind → List ℕ → ℕ → Token
sample_token k text n = record { kind = k; spelling = text; place = at n }

-- a word in the n-th column
abbrev sample_word : List ℕ → ℕ → Token
sample_word text n = sample_token kind.Word text n

-- a mark in the n-th column
abbrev sample_mark : List ℕ → ℕ → Token
sample_mark text n = mark_at text (at n)

-- a variable whose name stands in the n-th column
abbrev sample_variable : List ℕ → ℕ → Expression
sample_variable text n = Variable (sample_word text n)

-- if a then ; ELSE IF b then ; else ;
abbrev pub chained_ifs : Statement
chained_ifs =
    IfElse (sample_word (codes "if") 1) (sample_variable (codes "a") 4) (sample_word (codes "then") 6) (Empty (at 11)) (sample_word (codes "ELSE") 13)
    (IfElse (sample_word (codes "IF") 18) (sample_variable (codes "b") 21) (sample_word (codes "then") 23) (Empty (at 28)) (sample_word (codes "else") 30) (Empty (at 35)))

-- the tokens of the chained `if` statements from the second `if` on
abbrev pub from_second_if : List Token
from_second_if =
    sample_word (codes "IF") 18 ∷ sample_word (codes "b") 21 ∷ sample_word (codes "then") 23 ∷ sample_mark (codes ";") 28 ∷ sample_word (codes "else") 30 ∷ sample_mark (codes ";") 35 ∷ []

-- the tokens of the chained `if` statements
abbrev pub chained_tokens : List Token
chained_tokens = sample_word (codes "if") 1 ∷ sample_word (codes "a") 4 ∷ sample_word (codes "then") 6 ∷ sample_mark (codes ";") 11 ∷ sample_word (codes "ELSE") 13 ∷ from_second_if

-- if a then if b then ; else ; with the `else` at the outer `if`
abbrev pub outer_else : Statement
outer_else =
    IfElse (sample_word (codes "if") 1) (sample_variable (codes "a") 4) (sample_word (codes "then") 6)
    (If (sample_word (codes "if") 11) (sample_variable (codes "b") 14) (sample_word (codes "then") 16) (Empty (at 21))) (sample_word (codes "else") 23) (Empty (at 28))

-- f(-1,(b))*2 in x=a-f(-1,(b))*2;
abbrev pub product : Expression
product =
    Chain chain.Product
    (Call (callee.Function (sample_word (codes "f") 5)) (at 6)
    (Argument None (Sign (sample_mark (codes "-") 7) (Constant (sample_token kind.Integer (codes "1") 8)))
    (Argument (Some (at 9)) (Parenthesis (at 10) (sample_variable (codes "b") 11) (at 12)) NoArgument)) (at 13))
    (Operand (sample_mark (codes "*") 14) (Constant (sample_token kind.Integer (codes "2") 15)) NoOperand)

-- x=a-f(-1,(b))*2;
abbrev pub difference : Statement
difference = Assignment (sample_word (codes "x") 1) (at 2) (Chain chain.Sum (sample_variable (codes "a") 3) (Operand (sample_mark (codes "-") 4) product NoOperand)) (at 16)

-- the tokens of x=a-f(-1,(b))*2; from the parenthesis around b on
abbrev pub from_parenthesis : List Token
from_parenthesis =
    sample_mark (codes "(") 10 ∷ sample_word (codes "b") 11 ∷ sample_mark (codes ")") 12 ∷ sample_mark (codes ")") 13 ∷ sample_mark (codes "*") 14 ∷ sample_token kind.Integer (codes "2") 15 ∷ sample_mark (codes ";") 16 ∷ []

-- the tokens of x=a-f(-1,(b))*2; from the sign before 1 on
abbrev pub from_sign : List Token
from_sign = sample_mark (codes "-") 7 ∷ sample_token kind.Integer (codes "1") 8 ∷ sample_mark (codes ",") 9 ∷ from_parenthesis

-- the tokens of x=a-f(-1,(b))*2; from the argument list on
abbrev pub from_arguments : List Token
from_arguments = sample_mark (codes "(") 6 ∷ from_sign

-- the tokens of x=a-f(-1,(b))*2;
abbrev pub difference_tokens : List Token
difference_tokens = sample_word (codes "x") 1 ∷ sample_mark (codes "=") 2 ∷ sample_word (codes "a") 3 ∷ sample_mark (codes "-") 4 ∷ sample_word (codes "f") 5 ∷ from_arguments

-- ( a + b ) * 2 without its parentheses
abbrev pub loose_product : Expression
loose_product =
    Chain chain.Product (Chain chain.Sum (sample_variable (codes "a") 1) (Operand (sample_mark (codes "+") 2) (sample_variable (codes "b") 3) NoOperand))
    (Operand (sample_mark (codes "*") 4) (Constant (sample_token kind.Integer (codes "2") 5)) NoOperand)

-- dcl package hash h([k,m],[v w],8,'t');
abbrev pub hash_declaration : Declaration
hash_declaration =
    declared_as.Hash (sample_word (codes "dcl") 1) (sample_word (codes "package") 5) (sample_word (codes "hash") 13) (sample_word (codes "h") 18) (at 19)
    (record { opening = at 20; names = record { comma = None; name = sample_word (codes "k") 21 } ∷ record { comma = Some (at 22); name = sample_word (codes "m") 23 } ∷ []; closing = at 24 })
    (at 25)
    (record { opening = at 26; names = record { comma = None; name = sample_word (codes "v") 27 } ∷ record { comma = None; name = sample_word (codes "w") 29 } ∷ []; closing = at 30 })
    (Some (record { comma = at 31; number = sample_token kind.Integer (codes "8") 32; table = Some (record { comma = at 33; text = sample_token kind.Text (codes "'t'") 34 }) }))
    (at 37) (at 38)

-- the tokens of dcl package hash h([k,m],[v w],8,'t');
abbrev pub hash_tokens : List Token
hash_tokens =
    sample_word (codes "dcl") 1 ∷ sample_word (codes "package") 5 ∷ sample_word (codes "hash") 13 ∷ sample_word (codes "h") 18 ∷ sample_mark (codes "(") 19
    ∷ sample_mark (codes "[") 20 ∷ sample_word (codes "k") 21 ∷ sample_mark (codes ",") 22 ∷ sample_word (codes "m") 23 ∷ sample_mark (codes "]") 24 ∷ sample_mark (codes ",") 25
    ∷ sample_mark (codes "[") 26 ∷ sample_word (codes "v") 27 ∷ sample_word (codes "w") 29 ∷ sample_mark (codes "]") 30 ∷ sample_mark (codes ",") 31
    ∷ sample_token kind.Integer (codes "8") 32 ∷ sample_mark (codes ",") 33 ∷ sample_token kind.Text (codes "'t'") 34 ∷ sample_mark (codes ")") 37 ∷ sample_mark (codes ";") 38 ∷ []

-- o(keep=(a b)rename=(a="B c"))
abbrev pub sample_output : OutputTable
sample_output = record {
  table = sample_word (codes "o") 1;
  options = Some (record {
    opening = at 2;
    list = option.Listed (sample_word (codes "keep") 3) (at 7) (at 8) (sample_word (codes "a") 9 ∷ sample_word (codes "b") 11 ∷ []) (at 12)
        ∷ option.Rename (sample_word (codes "rename") 13) (at 19) (at 20) (record { old = sample_word (codes "a") 21; equals = at 22; new = sample_token kind.Quoted (codes "\"B c\"") 23 } ∷ []) (at 28) ∷ [];
    closing = at 29;
  });
}

-- the tokens of o(keep=(a b)rename=(a="B c"))
abbrev pub output_tokens : List Token
output_tokens =
    sample_word (codes "o") 1 ∷ sample_mark (codes "(") 2 ∷ sample_word (codes "keep") 3 ∷ sample_mark (codes "=") 7 ∷ sample_mark (codes "(") 8 ∷ sample_word (codes "a") 9
    ∷ sample_word (codes "b") 11 ∷ sample_mark (codes ")") 12 ∷ sample_word (codes "rename") 13 ∷ sample_mark (codes "=") 19 ∷ sample_mark (codes "(") 20 ∷ sample_word (codes "a") 21
    ∷ sample_mark (codes "=") 22 ∷ sample_token kind.Quoted (codes "\"B c\"") 23 ∷ sample_mark (codes ")") 28 ∷ sample_mark (codes ")") 29 ∷ []

-- do; ; end;
abbrev pub block : Statement
block = Do (sample_word (codes "do") 1) Block (at 3) (Then (Empty (at 5)) NoStatement) (sample_word (codes "end") 7) (at 10)

-- how these trees are spelled, the levels that they open, and which of them are of the grammar
pub record TreeExamples : Type 0 where
  pub chained : statement_spelling chained_ifs ≡ chained_tokens
  -- an `else if` stays on its level, its parts open one
  pub chained_opens_one : statement_opens chained_ifs 1 ≡ None
  pub then_part_opens : statement_opens chained_ifs 0 ≡ Some (sample_mark (codes ";") 11 ∷ sample_word (codes "ELSE") 13 ∷ from_second_if)
  pub else_is_nearest : IsStatement outer_else → ⊥
  pub computed : statement_spelling difference ≡ difference_tokens
  pub arguments_open : statement_opens difference 0 ≡ Some from_arguments
  pub sign_opens : statement_opens difference 1 ≡ Some from_sign
  pub two_levels : statement_opens difference 2 ≡ None
  pub product_binds_tighter : IsExpression loose_product → ⊥
  pub hash_spelled : declaration_spelling hash_declaration ≡ hash_tokens
  pub hash_is_one : IsDeclaration hash_declaration
  pub output_spelled : output_spelling sample_output ≡ output_tokens
  pub output_is_one : IsOutput sample_output
  pub block_opens : statement_opens block 0 ≡ Some (sample_mark (codes ";") 5 ∷ sample_word (codes "end") 7 ∷ sample_mark (codes ";") 10 ∷ [])
