use Rattle.std.proofs.Common.{Option, sym, subst}
use Rattle.ds2_base.specs.declared.place.Place.{Place}
use Rattle.ds2_elaboration.specs.Typings.{truth_refusals}
use Rattle.ds2_types.specs.declared.judgement.Typing as code_typing
use Rattle.ds2_simple_statement_types.specs.StatementOutcomes.{IsNodeAs}
use Rattle.ds2_statement_types.specs.TestRules.{test_rule}
use Rattle.ds2_statement_types.proofs.when_tests.ruled_test.Goals as goal

pub returns-in-None : goal.returns-in-None
returns-in-None c = λ e p h.
    subst (λ (o : Option code_typing.Typing). IsNodeAs (test_rule o e) e.value.node c.true_or_false.result) (sym c.in-None.is)
    (subst (λ (q : Place). IsNodeAs (truth_refusals q e.value) e.value.node c.true_or_false.result) (sym p) (c.true_or_false.ensures e.value h))

pub returns-in-Some : goal.returns-in-Some
returns-in-Some c = λ e p h.
    subst (λ (o : Option code_typing.Typing). IsNodeAs (test_rule o e) e.value.node c.compared.result) (sym c.in-Some.is) (c.compared.ensures e p h)
