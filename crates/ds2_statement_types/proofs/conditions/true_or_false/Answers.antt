use Rattle.std.proofs.Common.{[], if◌then◌else◌, sym, append_assoc, refl}
use Rattle.ds2_elaboration.specs.Typings.{type_refusal_at, is_numeric_type, null_clash, where_known}
use Rattle.ds2_meaning.specs.declared.refusals.TypeKind.TheVariants.{NotTruth}
use Rattle.ds2_types.specs.Judgements.{truth_clash}
use Rattle.ds2_types.proofs.Outcomes.{IsTree, after_one}
use Rattle.ds2_simple_statement_types.proofs.PartOutcomes.{outcome_under}
use Rattle.ds2_statement_types.proofs.conditions.true_or_false.Goals as goal

pub returns : goal.returns
returns c = λ e h.
    let told = where_known e.typing (λ ty. if is_numeric_type ty then [] else type_refusal_at NotTruth c.args.place) in
    outcome_under (IsTree e.node) _ _ c.ruled.result (sym (append_assoc e.refusals (null_clash e.typing) told))
    (after_one (truth_clash c.args.place) e c.args.x c.truth_clash-clash.result c.ruled.result h c.truth_clash-clash.ensures c.ruled.ensures c.ruled.result refl)
