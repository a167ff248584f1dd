use Rattle.std.proofs.Common.{codes}
use Rattle.ds2_token.specs.Words.{is_integer}
use Rattle.ds2_parse_rules.specs.GrammarTokens.{mark_rule, is_comma_mark}
use Rattle.ds2_parse_rules.specs.GlobalGrammar.{hash_table_rule, hash_size_of}
use Rattle.ds2_tree.specs.Parsers.{kept, seq, optional}
use Rattle.ds2_parse_rules.proofs.RuleSteps.{read_whole, read_stops}
use Rattle.ds2_parse_declarations.proofs.declarations.HashSizeRuleRule.read.Goals as goal

pub returns-in_err-parts-clause-exact : goal.returns-in_err-parts-clause-exact
returns-in_err-parts-clause-exact c m lt = read_stops c.args.end (λ x. (x.0, x.1.now)) c.from_residual.result c.in_err-parts.field-0.0 hash_size_of (seq (mark_rule (codes ",")) (seq (kept is_integer) (optional is_comma_mark hash_table_rule))) c.args.tokens.now c.from_residual.ensures.1 (c.in_err-parts.ensures.exact m lt)

pub returns-clause-exact : goal.returns-clause-exact
returns-clause-exact c m lt = read_whole hash_size_of (seq (mark_rule (codes ",")) (seq (kept is_integer) (optional is_comma_mark hash_table_rule))) c.args.tokens.now c.in_ok-parts.parts c.in_ok-parts.rest.now (c.in_ok-parts.ensures.exact m lt)
