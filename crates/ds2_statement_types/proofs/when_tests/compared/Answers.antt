use Rattle.std.proofs.Common.{refl, sym, ap, ◌∙◌}
use Rattle.ds2_base.specs.declared.place.Place.{Place}
use Rattle.ds2_types.specs.Judgements.{first_type_refusal, typing_of}
use Rattle.ds2_types.proofs.Outcomes.{IsTree, after_one}
use Rattle.ds2_statement_types.specs.TestRules.{value_clash}
use Rattle.ds2_simple_statement_types.proofs.PartOutcomes.{outcome_under}
use Rattle.ds2_statement_types.proofs.TestForms.{value_rule}
use Rattle.ds2_statement_types.proofs.when_tests.compared.Goals as goal

pub returns : goal.returns
returns c = λ e p h.
    outcome_under (IsTree e.value.node) _ _ c.ruled.result (sym (value_rule (typing_of c.args.selected) e))
    (after_one (value_clash (typing_of c.args.selected) e.place) e.value c.args.x c.beside_clash-clash.result c.ruled.result h
    (c.beside_clash-clash.ensures ∙ ap (λ (q : Place). first_type_refusal (value_clash (typing_of c.args.selected) q (typing_of c.args.x.typing))) (sym p))
    c.ruled.ensures c.ruled.result refl)
