-- A function that gives what the rule of a symbol does keeps the promise of the symbol.
use Rattle.std.proofs.Common.{◌≡◌, ℕ, suc, ◌≤◌, ◌<◌, List, [], length, Result, None, refl, sym, ap, ◌∙◌, arith}
use Rattle.std.proofs.lemmas.List.{append-nil}
use Rattle.ds2_base.specs.declared.place.Place.{Place}
use Rattle.ds2_base.specs.declared.place.Refusal.{Refusal}
use Rattle.ds2_base.specs.declared.stop.Stop.{Stop}
use Rattle.ds2_token.specs.declared.token.Token.{Token}
use Rattle.ds2_tree.specs.declared.kind.ParseKind.{ParseKind}
use Rattle.ds2_tree.specs.Parsers.{Read}
use Rattle.ds2_tree.specs.Promise.{Gives, Promises}
use Rattle.ds2_tree.proofs.Goes.{goes}
use Rattle.ds2_tree.proofs.Words.{sym as symbol}
use Rattle.ds2_tree.proofs.Promised.{promised}
use Rattle.ds2_tree.specs.Expressions.{Expression, expression_spelling, IsExpression, expression_opens}
use Rattle.ds2_tree.specs.Statements.{Statement, statement_spelling, IsStatement, statement_opens}
use Rattle.ds2_parse_rules.specs.ExpressionGrammar.{expression}
use Rattle.ds2_parse_rules.specs.StatementGrammar.{statement_rule}
use Rattle.ds2_parse_statements.specs.StatementSymbols.{expression_symbol, statement_symbol}
use Rattle.ds2_parse_statements.proofs.ExpressionLaws.{expression_part, expression_law}
use Rattle.ds2_parse_statements.proofs.StatementLaws.{statement_part}
use Rattle.ds2_parse_statements.proofs.StatementSumLaws.{statement_law}
use Rattle.ds2_parse_statements.proofs.SteadyLaws.{steady_expression, steady_statement}

-- ---- expressions

expression_levels : (e : Expression) → IsExpression e → (n : ℕ) × ((m : ℕ) → n ≤ m → expression_opens e m ≡ None)
expression_levels e is = (length (expression_spelling e), λ m le. (expression_law (suc (length (expression_spelling e))) m).enough e is (omega arith) le)

expression_reads : (e : Expression) (k n : ℕ) → IsExpression e → length (expression_spelling e) ≤ k → expression (suc k) n (expression_spelling e) ≡ goes (expression_opens e n) [] (Read e [])
expression_reads e k n is short = ap (expression (suc k) n) (sym (append-nil (expression_spelling e))) ∙ (expression_law (suc k) n).reads e is (omega (arith, short)) [] (refl, (refl, (refl, (refl, (refl, (refl, (refl, refl)))))))

pub expression_promise : {X : Type 0} (f : X → Expression × List Token) (n : ℕ) (end : Place) (ts : List Token) (r : Result X (Stop (Refusal ParseKind))) → ((m : ℕ) → length ts < m → Gives end f r (expression m n ts)) → Promises expression_symbol n end f ts r
expression_promise f n end ts r gives =
    let k = length ts in
    promised expression_symbol (symbol (expression_part n)).Good n (λ x r g. (g.0, g.1)) (λ k n. expression (suc k) n) expression_levels expression_reads ts end f k r (expression (suc k) n ts)
    (gives (suc k) (omega arith)) ((expression_law (suc k) n).rule ts) (λ Same i m le low is. (steady_expression (suc k) (suc i) (omega (arith, le)) n m low is).holds ts)

-- ---- statements

statement_levels : (s : Statement) → IsStatement s → (n : ℕ) × ((m : ℕ) → n ≤ m → statement_opens s m ≡ None)
statement_levels s is = (length (statement_spelling s), λ m le. (statement_law (suc (length (statement_spelling s))) m).enough s is (omega arith) le)

statement_reads : (s : Statement) (k n : ℕ) → IsStatement s → length (statement_spelling s) ≤ k → statement_rule (suc k) n (statement_spelling s) ≡ goes (statement_opens s n) [] (Read s [])
statement_reads s k n is short = ap (statement_rule (suc k) n) (sym (append-nil (statement_spelling s))) ∙ (statement_law (suc k) n).reads s is (omega (arith, short)) [] (λ _. refl)

pub statement_promise : {X : Type 0} (f : X → Statement × List Token) (n : ℕ) (end : Place) (ts : List Token) (r : Result X (Stop (Refusal ParseKind))) → ((m : ℕ) → length ts < m → Gives end f r (statement_rule m n ts)) → Promises statement_symbol n end f ts r
statement_promise f n end ts r gives =
    let k = length ts in
    promised statement_symbol (symbol (statement_part n)).Good n (λ x r g. (g.0, g.1)) (λ k n. statement_rule (suc k) n) statement_levels statement_reads ts end f k r (statement_rule (suc k) n ts)
    (gives (suc k) (omega arith)) ((statement_law (suc k) n).rule ts) (λ Same i m le low is. (steady_statement (suc k) (suc i) (omega (arith, le)) n m low is).holds ts)
