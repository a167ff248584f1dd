use Rattle.std.proofs.Common.{codes}
use Rattle.ds2_token.specs.Words.{is_table}
use Rattle.ds2_tree.specs.Parsers.{seq}
use Rattle.ds2_tree.specs.UnitViews.{data_tree}
use Rattle.ds2_parse_rules.specs.GrammarTokens.{mark_rule, word_rule, one_or_more}
use Rattle.ds2_parse_rules.specs.UnitGrammar.{output_rule, unit_body_rule, data_of}
use Rattle.ds2_source.specs.UnitBodies.{unit_body_parts}
use Rattle.ds2_parse_rules.proofs.RuleSteps.{read_whole, read_stops}
use Rattle.ds2_source.proofs.units.data_program.Goals as goal

pub returns-in_err-parts-clause-exact : goal.returns-in_err-parts-clause-exact
returns-in_err-parts-clause-exact c m lt =
    read_stops c.args.end (λ x. (data_tree x.0, x.1.now)) c.from_residual.result c.in_err-parts.field-0.0 data_of (seq (word_rule (codes "data")) (seq (one_or_more m is_table (output_rule m)) (seq (mark_rule (codes ";")) (unit_body_rule m c.args.levels (codes "enddata"))))) c.args.tokens.now c.from_residual.ensures.1 (c.in_err-parts.ensures.exact m lt)

pub returns-clause-exact : goal.returns-clause-exact
returns-clause-exact c m lt =
    let parts = c.in_ok-parts.parts in
    read_whole data_of (seq (word_rule (codes "data")) (seq (one_or_more m is_table (output_rule m)) (seq (mark_rule (codes ";")) (unit_body_rule m c.args.levels (codes "enddata"))))) c.args.tokens.now (parts.0, (parts.1.0, (parts.1.1.0, unit_body_parts parts.1.1.1))) c.in_ok-parts.rest.now (c.in_ok-parts.ensures.exact m lt)
