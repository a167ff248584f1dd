use Rattle.std.proofs.Common.{codes, length, suc, arith}
use Rattle.ds2_tree.specs.Parsers.{One, seq}
use Rattle.ds2_tree.specs.UnitViews.{part_tree}
use Rattle.ds2_parse_rules.specs.GrammarTokens.{mark_rule, word_rule}
use Rattle.ds2_parse_rules.specs.UnitGrammar.{part_of_kind}
use Rattle.ds2_parse_rules.proofs.RuleSteps.{read_whole, read_stops}
use Rattle.ds2_source.proofs.units.proc.Goals as goal

pub returns-in_err-parts-clause-exact : goal.returns-in_err-parts-clause-exact
returns-in_err-parts-clause-exact c =
    read_stops c.args.end (λ x. (part_tree x.0, x.1.now)) c.from_residual.result c.in_err-parts.field-0.0 (λ x. part_of_kind (One x)) (seq (word_rule (codes "proc")) (seq (word_rule (codes "ds2")) (mark_rule (codes ";")))) c.args.tokens.now c.from_residual.ensures.1 (c.in_err-parts.ensures.exact (suc (length c.args.tokens.now)) (omega arith))

pub returns-clause-exact : goal.returns-clause-exact
returns-clause-exact c =
    let parts = c.in_ok-parts.parts in
    read_whole (λ x. part_of_kind (One x)) (seq (word_rule (codes "proc")) (seq (word_rule (codes "ds2")) (mark_rule (codes ";")))) c.args.tokens.now parts c.in_ok-parts.rest.now (c.in_ok-parts.ensures.exact (suc (length c.args.tokens.now)) (omega arith))
