use Rattle.std.proofs.Common.{◌≡◌, codes, refl, sym, subst, arith}
use Rattle.ds2_tree.specs.Parsers.{One, to, seq}
use Rattle.ds2_tree.specs.Promise.{Gives}
use Rattle.ds2_parse_rules.specs.GrammarTokens.{word_rule}
use Rattle.ds2_parse_rules.specs.GlobalGrammar.{package_tail, package_declaration, declaration_of}
use Rattle.ds2_parse_rules.proofs.RuleSteps.{held, taken, on_read}
use Rattle.ds2_parse_declarations.proofs.declarations.of_package.Goals as goal

pub returns-clause-exact : goal.returns-clause-exact
returns-clause-exact c m lt =
    subst (Gives c.args.end (λ x. (x.0, x.1.now)) c.behind_package.result)
    (sym (held (λ o. o ≡ to (λ x. package_declaration c.args.keyword c.in_ok-package_keyword.package_keyword x) (package_tail m) c.in_ok-package_keyword.rest.now) (λ x. declaration_of (c.args.keyword, One x)) (seq (word_rule (codes "package")) (package_tail m)) c.args.tokens.now (on_read (word_rule (codes "package")) (package_tail m) c.in_ok-package_keyword.ensures.exact (taken refl))))
    (c.behind_package.ensures.exact m (omega (arith, lt, c.in_ok-package_keyword.ensures.shorter)))
