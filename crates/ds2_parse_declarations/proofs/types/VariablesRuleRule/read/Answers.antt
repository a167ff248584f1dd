use Rattle.std.proofs.Common.{◌≡◌, refl, sym, subst, arith}
use Rattle.ds2_tree.specs.Parsers.{kept, to, seq}
use Rattle.ds2_tree.specs.Promise.{Gives}
use Rattle.ds2_tree.specs.Globals.{is_dcl}
use Rattle.ds2_parse_rules.specs.GlobalGrammar.{variables_of, variables_tail}
use Rattle.ds2_parse_rules.proofs.RuleSteps.{held, taken, on_read}
use Rattle.ds2_parse_declarations.proofs.types.VariablesRuleRule.read.Goals as goal

pub returns-clause-exact : goal.returns-clause-exact
returns-clause-exact c m lt =
    subst (Gives c.args.end (λ x. (x.0, x.1.now)) c.declared_variables.result)
    (sym (held (λ o. o ≡ to (λ x. variables_of (c.in_ok-keyword.keyword, x)) (variables_tail m) c.in_ok-keyword.rest.now) variables_of (seq (kept is_dcl) (variables_tail m)) c.args.tokens.now
    (on_read (kept is_dcl) (variables_tail m) c.in_ok-keyword.ensures.exact (taken refl))))
    (c.declared_variables.ensures.exact m (omega (arith, lt, c.in_ok-keyword.ensures.shorter)))
