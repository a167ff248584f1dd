use Rattle.std.proofs.Common.{codes}
use Rattle.ds2_token.specs.Words.{is_name_token}
use Rattle.ds2_tree.specs.Parsers.{kept, seq, optional}
use Rattle.ds2_tree.specs.UnitViews.{thread_tree}
use Rattle.ds2_parse_rules.specs.GrammarTokens.{mark_rule, word_rule, is_open_mark}
use Rattle.ds2_parse_rules.specs.GlobalGrammar.{parameters_rule}
use Rattle.ds2_parse_rules.specs.UnitGrammar.{unit_body_rule, thread_of}
use Rattle.ds2_source.specs.UnitBodies.{unit_body_parts}
use Rattle.ds2_parse_rules.proofs.RuleSteps.{read_whole, read_stops}
use Rattle.ds2_source.proofs.units.thread.Goals as goal

pub returns-in_err-parts-clause-exact : goal.returns-in_err-parts-clause-exact
returns-in_err-parts-clause-exact c m lt =
    read_stops c.args.end (λ x. (thread_tree x.0, x.1.now)) c.from_residual.result c.in_err-parts.field-0.0 thread_of (seq (word_rule (codes "thread")) (seq (kept is_name_token) (seq (optional is_open_mark (parameters_rule m)) (seq (mark_rule (codes ";")) (unit_body_rule m c.args.levels (codes "endthread")))))) c.args.tokens.now c.from_residual.ensures.1 (c.in_err-parts.ensures.exact m lt)

pub returns-clause-exact : goal.returns-clause-exact
returns-clause-exact c m lt =
    let parts = c.in_ok-parts.parts in
    read_whole thread_of (seq (word_rule (codes "thread")) (seq (kept is_name_token) (seq (optional is_open_mark (parameters_rule m)) (seq (mark_rule (codes ";")) (unit_body_rule m c.args.levels (codes "endthread")))))) c.args.tokens.now (parts.0, (parts.1.0, (parts.1.1.0, (parts.1.1.1.0, unit_body_parts parts.1.1.1.1)))) c.in_ok-parts.rest.now (c.in_ok-parts.ensures.exact m lt)
