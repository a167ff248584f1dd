-- The trees of a method's statements, as the code holds them.
use Rattle.std.proofs.Common.{◌≡◌, List, [], ◌∷◌, map, refl, ap}
use Rattle.ds2_token.specs.declared.token.Token.{Token}
use Rattle.ds2_tree.specs.Parsers.{Read}
use Rattle.ds2_tree.specs.declared.statements.Statement as code
use Rattle.ds2_tree.specs.Globals.{Method}
use Rattle.ds2_tree.specs.Statements.{Statements, Then}
use Rattle.ds2_tree.specs.StatementViews.{statement_tree, statements_of}
use Rattle.ds2_parse_rules.specs.StatementGrammar.{listed_statements}

statements_same : (ss : List code.Statement) → listed_statements (map statement_tree ss) ≡ statements_of ss
statements_same [] = refl
statements_same (s ∷ ss) = ap (λ rest. Then (statement_tree s) rest) (statements_same ss)

-- a method that was read, with the statements that were read in it
pub with_body : (put : Statements → Method) (rest : List Token) (ss : List code.Statement) → Read (put (listed_statements (map statement_tree ss))) rest ≡ Read (put (statements_of ss)) rest
with_body put rest ss = ap (λ (b : Statements). Read (put b) rest) (statements_same ss)
