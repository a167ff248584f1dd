-- Some texts, as their tokens, and what is read of them.
use Rattle.std.specs.Prelude.{◌≡◌, ℕ, ◌+◌, codes, List, [], ◌∷◌, ◌++◌}
use Rattle.ds2_base.specs.declared.place.Place.{Place}
use Rattle.ds2_token.specs.declared.kinds.TokenKind.{TokenKind}
use Rattle.ds2_token.specs.declared.kinds.TokenKind.TheVariants as kind
use Rattle.ds2_token.specs.declared.token.Token.{Token}
use Rattle.ds2_token.specs.Words.{mark_at}
use Rattle.ds2_tree.specs.Parsers.{Read, Unexpected, TooDeep}
use Rattle.ds2_tree.specs.declared.expressions.ChainKind.TheVariants as chain
use Rattle.ds2_tree.specs.Expressions.{Expression, Variable, Chain, NoOperand, Operand}
use Rattle.ds2_tree.specs.Statements.{Empty, If, IfElse}
use Rattle.ds2_tree.specs.Units.{Run}
use Rattle.ds2_parse_rules.specs.ExpressionGrammar.{expression}
use Rattle.ds2_parse_rules.specs.StatementGrammar.{statement_rule}
use Rattle.ds2_parse_rules.specs.GlobalGrammar.{declaration_rule, method_rule}
use Rattle.ds2_parse_rules.specs.UnitGrammar.{parse_source}

-- the n-th column of the first line
abbrev in_column : ℕ → Place
in_column n = record { line = 1; column = n }

-- a token of this kind in the n-th column
abbrev token_in : TokenKind → List ℕ → ℕ → Token
token_in k text n = record { kind = k; spelling = text; place = in_column n }

-- a word in the n-th column
abbrev word_at_column : List ℕ → ℕ → Token
word_at_column text n = token_in kind.Word text n

-- a mark in the n-th column
abbrev mark_in : List ℕ → ℕ → Token
mark_in text n = mark_at text (in_column n)

-- a variable of one letter in the n-th column
abbrev variable_at_column : List ℕ → ℕ → Expression
variable_at_column text n = Variable (word_at_column text n)

-- an `if` with its condition a, in the n-th column, up to its `then`
abbrev if_in : ℕ → List Token
if_in n = word_at_column (codes "if") n ∷ (word_at_column (codes "a") (n + 3) ∷ (word_at_column (codes "then") (n + 5) ∷ []))

-- what begins a hash's declaration: dcl package hash h([k],[v],8
abbrev hash_begin : List Token
hash_begin =
    word_at_column (codes "dcl") 1 ∷ word_at_column (codes "package") 5 ∷ word_at_column (codes "hash") 13 ∷ word_at_column (codes "h") 18 ∷ mark_in (codes "(") 19
    ∷ mark_in (codes "[") 20 ∷ word_at_column (codes "k") 21 ∷ mark_in (codes "]") 22 ∷ mark_in (codes ",") 23
    ∷ mark_in (codes "[") 24 ∷ word_at_column (codes "v") 25 ∷ mark_in (codes "]") 26 ∷ mark_in (codes ",") 27 ∷ token_in kind.Integer (codes "8") 28 ∷ []

-- method m();
abbrev method_begin : List Token
method_begin = word_at_column (codes "method") 1 ∷ word_at_column (codes "m") 8 ∷ mark_in (codes "(") 9 ∷ mark_in (codes ")") 10 ∷ mark_in (codes ";") 11 ∷ []

-- what is read of these texts, and where the others are refused
pub record SourceExamples : Type 0 where
  -- an empty text, and run;
  pub nothing : parse_source 64 [] ≡ Read [] []
  pub run : parse_source 64 (word_at_column (codes "run") 1 ∷ (mark_in (codes ";") 4 ∷ [])) ≡ Read (Run (word_at_column (codes "run") 1) (in_column 4) ∷ []) []
  -- data out; x
  pub no_global : parse_source 64 (word_at_column (codes "data") 1 ∷ (word_at_column (codes "out") 6 ∷ (mark_in (codes ";") 9 ∷ (word_at_column (codes "x") 11 ∷ [])))) ≡ Unexpected (word_at_column (codes "x") 11 ∷ [])
  -- data out;
  pub ends_early : parse_source 64 (word_at_column (codes "data") 1 ∷ (word_at_column (codes "out") 6 ∷ (mark_in (codes ";") 9 ∷ []))) ≡ Unexpected []
  -- run; x
  pub trails : parse_source 64 (word_at_column (codes "run") 1 ∷ (mark_in (codes ";") 4 ∷ (word_at_column (codes "x") 6 ∷ []))) ≡ Unexpected (word_at_column (codes "x") 6 ∷ [])
  -- if a then if a then ; else ;
  pub nearest : statement_rule 20 64 (if_in 1 ++ (if_in 11 ++ (mark_in (codes ";") 21 ∷ (word_at_column (codes "else") 23 ∷ (mark_in (codes ";") 28 ∷ [])))))
      ≡ Read (If (word_at_column (codes "if") 1) (variable_at_column (codes "a") 4) (word_at_column (codes "then") 6)
      (IfElse (word_at_column (codes "if") 11) (variable_at_column (codes "a") 14) (word_at_column (codes "then") 16) (Empty (in_column 21)) (word_at_column (codes "else") 23) (Empty (in_column 28)))) []
  -- if a then ; else if a then ; within one level, and within none
  pub chained : statement_rule 20 1 (if_in 1 ++ (mark_in (codes ";") 11 ∷ (word_at_column (codes "else") 13 ∷ (if_in 18 ++ (mark_in (codes ";") 28 ∷ [])))))
      ≡ Read (IfElse (word_at_column (codes "if") 1) (variable_at_column (codes "a") 4) (word_at_column (codes "then") 6) (Empty (in_column 11)) (word_at_column (codes "else") 13)
      (If (word_at_column (codes "if") 18) (variable_at_column (codes "a") 21) (word_at_column (codes "then") 23) (Empty (in_column 28)))) []
  pub then_opens : statement_rule 20 0 (if_in 1 ++ (mark_in (codes ";") 11 ∷ [])) ≡ TooDeep (mark_in (codes ";") 11 ∷ [])
  -- a-b-c
  pub from_the_left : expression 20 64 (word_at_column (codes "a") 1 ∷ (mark_in (codes "-") 2 ∷ (word_at_column (codes "b") 3 ∷ (mark_in (codes "-") 4 ∷ (word_at_column (codes "c") 5 ∷ [])))))
      ≡ Read (Chain chain.Sum (variable_at_column (codes "a") 1) (Operand (mark_in (codes "-") 2) (variable_at_column (codes "b") 3) (Operand (mark_in (codes "-") 4) (variable_at_column (codes "c") 5) NoOperand))) []
  -- x=a<b<c;
  pub one_comparison : statement_rule 20 64 (word_at_column (codes "x") 1 ∷ (mark_in (codes "=") 2 ∷ (word_at_column (codes "a") 3 ∷ (mark_in (codes "<") 4 ∷ (word_at_column (codes "b") 5 ∷ (mark_in (codes "<") 6 ∷ (word_at_column (codes "c") 7 ∷ (mark_in (codes ";") 8 ∷ []))))))))
      ≡ Unexpected (mark_in (codes "<") 6 ∷ (word_at_column (codes "c") 7 ∷ (mark_in (codes ";") 8 ∷ [])))
  -- ((a)) within one level
  pub second_parenthesis : expression 20 1 (mark_in (codes "(") 1 ∷ (mark_in (codes "(") 2 ∷ (word_at_column (codes "a") 3 ∷ (mark_in (codes ")") 4 ∷ (mark_in (codes ")") 5 ∷ [])))))
      ≡ TooDeep (mark_in (codes "(") 2 ∷ (word_at_column (codes "a") 3 ∷ (mark_in (codes ")") 4 ∷ (mark_in (codes ")") 5 ∷ []))))
  -- f() within no level
  pub empty_list_opens : expression 20 0 (word_at_column (codes "f") 1 ∷ (mark_in (codes "(") 2 ∷ (mark_in (codes ")") 3 ∷ []))) ≡ TooDeep (mark_in (codes "(") 2 ∷ (mark_in (codes ")") 3 ∷ []))
  -- dcl package "hash" h;
  pub hash_in_quotes : declaration_rule 20 (word_at_column (codes "dcl") 1 ∷ (word_at_column (codes "package") 5 ∷ (token_in kind.Quoted (codes "\"hash\"") 13 ∷ (word_at_column (codes "h") 20 ∷ (mark_in (codes ";") 21 ∷ [])))))
      ≡ Unexpected (token_in kind.Quoted (codes "\"hash\"") 13 ∷ (word_at_column (codes "h") 20 ∷ (mark_in (codes ";") 21 ∷ [])))
  -- dcl package hash h([k],[v],8,'a b' where the text spells no table
  pub text_is_no_table : declaration_rule 20 (hash_begin ++ (mark_in (codes ",") 29 ∷ (token_in kind.Text (codes "'a b'") 30 ∷ []))) ≡ Unexpected (token_in kind.Text (codes "'a b'") 30 ∷ [])
  -- method m(); ; set t; with a reading statement behind the first statement
  pub reading_comes_first : method_rule 20 64 (method_begin ++ (mark_in (codes ";") 13 ∷ (word_at_column (codes "set") 15 ∷ (word_at_column (codes "t") 19 ∷ (mark_in (codes ";") 20 ∷ [])))))
      ≡ Unexpected (word_at_column (codes "set") 15 ∷ (word_at_column (codes "t") 19 ∷ (mark_in (codes ";") 20 ∷ [])))
