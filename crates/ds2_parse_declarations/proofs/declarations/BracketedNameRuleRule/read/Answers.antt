use Rattle.std.proofs.Common.{codes}
use Rattle.ds2_token.specs.Words.{is_name_token}
use Rattle.ds2_parse_rules.specs.GrammarTokens.{mark_rule, is_comma_mark}
use Rattle.ds2_parse_rules.specs.GlobalGrammar.{bracketed_name_of}
use Rattle.ds2_tree.specs.Parsers.{kept, seq, optional}
use Rattle.ds2_parse_rules.proofs.RuleSteps.{read_whole, read_stops}
use Rattle.ds2_parse_declarations.proofs.declarations.BracketedNameRuleRule.read.Goals as goal

pub returns-in_err-parts-clause-exact : goal.returns-in_err-parts-clause-exact
returns-in_err-parts-clause-exact c m lt = read_stops c.args.end (λ x. (x.0, x.1.now)) c.from_residual.result c.in_err-parts.field-0.0 bracketed_name_of (seq (optional is_comma_mark (mark_rule (codes ","))) (kept is_name_token)) c.args.tokens.now c.from_residual.ensures.1 (c.in_err-parts.ensures.exact m lt)

pub returns-clause-exact : goal.returns-clause-exact
returns-clause-exact c m lt = read_whole bracketed_name_of (seq (optional is_comma_mark (mark_rule (codes ","))) (kept is_name_token)) c.args.tokens.now c.in_ok-parts.parts c.in_ok-parts.rest.now (c.in_ok-parts.ensures.exact m lt)
