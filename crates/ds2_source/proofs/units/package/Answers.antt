use Rattle.std.proofs.Common.{codes, arith, suc, length}
use Rattle.ds2_token.specs.Words.{is_package_name}
use Rattle.ds2_tree.specs.Parsers.{kept, seq}
use Rattle.ds2_tree.specs.UnitViews.{package_tree}
use Rattle.ds2_parse_rules.specs.GrammarTokens.{mark_rule, word_rule}
use Rattle.ds2_parse_rules.specs.UnitGrammar.{unit_body_rule, package_of}
use Rattle.ds2_source.specs.UnitBodies.{unit_body_parts}
use Rattle.ds2_source.proofs.UnitLaws.{package_read}
use Rattle.ds2_parse_rules.proofs.RuleSteps.{read_whole, read_stops}
use Rattle.ds2_source.proofs.units.package.Goals as goal

pub returns-in_err-parts-clause-exact : goal.returns-in_err-parts-clause-exact
returns-in_err-parts-clause-exact c m lt =
    read_stops c.args.end (λ x. (package_tree x.0, x.1.now)) c.from_residual.result c.in_err-parts.field-0.0 package_of (seq (word_rule (codes "package")) (seq (kept is_package_name) (seq (mark_rule (codes ";")) (unit_body_rule m c.args.levels (codes "endpackage"))))) c.args.tokens.now c.from_residual.ensures.1 (c.in_err-parts.ensures.exact m lt)

pub returns-clause-exact : goal.returns-clause-exact
returns-clause-exact c m lt =
    let parts = c.in_ok-parts.parts in
    read_whole package_of (seq (word_rule (codes "package")) (seq (kept is_package_name) (seq (mark_rule (codes ";")) (unit_body_rule m c.args.levels (codes "endpackage"))))) c.args.tokens.now (parts.0, (parts.1.0, (parts.1.1.0, unit_body_parts parts.1.1.1))) c.in_ok-parts.rest.now (c.in_ok-parts.ensures.exact m lt)

pub invariant_of-package : goal.invariant_of-package
invariant_of-package c =
    let m = suc (length c.args.tokens.now) in
    let parts = c.in_ok-parts.parts in
    let counted = package_read m c.args.levels c.args.tokens.now c.in_ok-parts.rest.now (package_of (parts.0, (parts.1.0, (parts.1.1.0, unit_body_parts parts.1.1.1)))) (read_whole package_of (seq (word_rule (codes "package")) (seq (kept is_package_name) (seq (mark_rule (codes ";")) (unit_body_rule m c.args.levels (codes "endpackage"))))) c.args.tokens.now (parts.0, (parts.1.0, (parts.1.1.0, unit_body_parts parts.1.1.1))) c.in_ok-parts.rest.now (c.in_ok-parts.ensures.exact m (omega arith))) in
    omega (arith, counted)
