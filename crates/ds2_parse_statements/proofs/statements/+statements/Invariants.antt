use Rattle.std.proofs.Common.{◌≡◌, ◌++◌, length, map, ◌+◌, ◌*◌, ◌≤◌, ◌<◌, ℕ, codes}
use Rattle.ds2_tree.specs.Parsers.{and_then, pure, to, many_of}
use Rattle.ds2_tree.specs.StatementViews.{statement_tree, whens_of}
use Rattle.ds2_parse_rules.specs.GrammarTokens.{starts}
use Rattle.ds2_parse_rules.specs.ExpressionGrammar.{expression}
use Rattle.ds2_parse_rules.specs.StatementGrammar.{begins_statement, otherwise_of, listed_whens, when_rule, statement_rule}
use Rattle.ds2_parse_statements.specs.StatementParts.{within_rule, else_rule, and_whens}
use Rattle.ds2_parse_statements.proofs.StatementSteps.{others_and}
use Rattle.ds2_parse_statements.proofs.statements.+statements.Given as goal

abbrev pub decreases-statement : goal.decreases-statement
decreases-statement l = 20 * length l.tokens.now + 7

abbrev pub decreases-statements : goal.decreases-statements
decreases-statements l = 20 * length l.tokens.now + 8

abbrev pub decreases-any_statement : goal.decreases-any_statement
decreases-any_statement l = 20 * length l.tokens.now + 6

abbrev pub decreases-keyword_statement : goal.decreases-keyword_statement
decreases-keyword_statement l = 20 * length l.tokens.now + 5

abbrev pub decreases-within : goal.decreases-within
decreases-within l = 20 * length l.tokens.now + 8

abbrev pub decreases-block_or_loop : goal.decreases-block_or_loop
decreases-block_or_loop l = 20 * length l.tokens.now + 3

abbrev pub decreases-inner_statements : goal.decreases-inner_statements
decreases-inner_statements l = 20 * length l.tokens.now + 9

abbrev pub decreases-conditional : goal.decreases-conditional
decreases-conditional l = 20 * length l.tokens.now + 3

abbrev pub decreases-else_parts : goal.decreases-else_parts
decreases-else_parts l = 20 * length l.tokens.now

abbrev pub decreases-arm : goal.decreases-arm
decreases-arm l = 20 * length l.tokens.now + 1

abbrev pub decreases-selection : goal.decreases-selection
decreases-selection l = 20 * length l.tokens.now + 3

abbrev pub decreases-selection_body : goal.decreases-selection_body
decreases-selection_body l = 20 * length l.tokens.now + 3

abbrev pub decreases-whens : goal.decreases-whens
decreases-whens l = 20 * length l.tokens.now + 2

abbrev pub decreases-when : goal.decreases-when
decreases-when l = 20 * length l.tokens.now + 1

abbrev pub decreases-otherwise : goal.decreases-otherwise
decreases-otherwise l = 20 * length l.tokens.now + 1

-- some turns are left, more than tokens, and they give what the whole gives
abbrev pub invariant-statements-loop-alloc : goal.invariant-statements-loop-alloc
invariant-statements-loop-alloc l = record {
  same : (m : ℕ) → length l.tokens < m → (j : ℕ) × (length l.rest < j)
      × (many_of m begins_statement (statement_rule m l.levels) l.tokens ≡ and_then (many_of j begins_statement (statement_rule m l.levels) l.rest) (λ rs. pure (map statement_tree l.found ++ rs)));
  shorter : length l.rest ≤ length l.tokens;
}

abbrev pub decreases-statements-loop-alloc : goal.decreases-statements-loop-alloc
decreases-statements-loop-alloc l = length l.rest

abbrev pub invariant-whens-loop-alloc : goal.invariant-whens-loop-alloc
invariant-whens-loop-alloc l = record {
  same : (m : ℕ) → length l.tokens < m → (j : ℕ) × (length l.rest < j)
      × (to listed_whens (many_of m (starts (codes "when")) (when_rule m (expression m l.levels) (within_rule m l.levels))) l.tokens
      ≡ and_then (many_of j (starts (codes "when")) (when_rule m (expression m l.levels) (within_rule m l.levels)) l.rest) (λ rs. pure (and_whens (whens_of l.found) rs)));
  shorter : length l.rest ≤ length l.tokens;
}

abbrev pub decreases-whens-loop-alloc : goal.decreases-whens-loop-alloc
decreases-whens-loop-alloc l = length l.rest

-- what stands behind the arms gives what the whole gives
abbrev pub invariant-else_parts-loop-alloc : goal.invariant-else_parts-loop-alloc
invariant-else_parts-loop-alloc l = record {
  same : (m : ℕ) → length l.tokens < m → (k : ℕ) → length l.tokens < k → (j : ℕ) × (length l.rest < j)
      × (to otherwise_of (else_rule k (expression m l.levels) (within_rule m l.levels)) l.tokens ≡ to (others_and l.others) (else_rule j (expression m l.levels) (within_rule m l.levels)) l.rest);
  shorter : length l.rest ≤ length l.tokens;
}

abbrev pub decreases-else_parts-loop-alloc : goal.decreases-else_parts-loop-alloc
decreases-else_parts-loop-alloc l = length l.rest
