use Rattle.std.proofs.Common.{codes}
use Rattle.ds2_token.specs.Words.{is_name_token}
use Rattle.ds2_parse_rules.specs.GrammarTokens.{mark_rule, word_rule}
use Rattle.ds2_parse_rules.specs.ReadingGrammar.{input_flag_of}
use Rattle.ds2_tree.specs.Parsers.{kept, seq}
use Rattle.ds2_parse_rules.proofs.RuleSteps.{read_whole, read_stops}
use Rattle.ds2_parse_declarations.proofs.readings.InputFlagRuleRule.read.Goals as goal

pub returns-in_err-parts-clause-exact : goal.returns-in_err-parts-clause-exact
returns-in_err-parts-clause-exact c m lt = read_stops c.args.end (λ x. (x.0, x.1.now)) c.from_residual.result c.in_err-parts.field-0.0 input_flag_of (seq (mark_rule (codes "(")) (seq (word_rule (codes "in")) (seq (mark_rule (codes "=")) (seq (kept is_name_token) (mark_rule (codes ")")))))) c.args.tokens.now c.from_residual.ensures.1 (c.in_err-parts.ensures.exact m lt)

pub returns-clause-exact : goal.returns-clause-exact
returns-clause-exact c m lt = read_whole input_flag_of (seq (mark_rule (codes "(")) (seq (word_rule (codes "in")) (seq (mark_rule (codes "=")) (seq (kept is_name_token) (mark_rule (codes ")")))))) c.args.tokens.now c.in_ok-parts.parts c.in_ok-parts.rest.now (c.in_ok-parts.ensures.exact m lt)
