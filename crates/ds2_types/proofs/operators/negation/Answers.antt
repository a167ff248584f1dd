use Rattle.std.proofs.Common.{subst, sym, append_assoc, [], if◌then◌else◌, Ok, Err}
use Rattle.ds2_value.specs.declared.ty.Ty.TheVariants.{BigInt}
use Rattle.ds2_meaning.specs.TypedExpression.{TypedExpression, Prefixed}
use Rattle.ds2_types.specs.declared.judgement.Typing.TheVariants as known
use Rattle.ds2_meaning.specs.declared.expressions.Prefix.TheVariants.{Not}
use Rattle.ds2_meaning.specs.declared.refusals.TypeKind.TheVariants.{NotTruth}
use Rattle.ds2_elaboration.specs.Typings.{TypeRefusals, type_refusal_at, is_numeric_type, null_clash, where_known, form_of_type}
use Rattle.ds2_types.specs.Judgements.{truth_clash, IsJudged}
use Rattle.ds2_types.proofs.Forms.{broken_of_type, typed_of_type}
use Rattle.ds2_types.proofs.operators.negation.Goals as goal

pub returns-in-Err : goal.returns-in-Err
returns-in-Err c = λ e h.
    let told = where_known e.typing (λ ty. if is_numeric_type ty then [] else type_refusal_at NotTruth c.args.first_token) in
    subst (λ (r : TypeRefusals). IsJudged (form_of_type BigInt r (Prefixed Not e.node BigInt)) (record { typing = known.Known BigInt; outcome = Err c.in-Err.refusal })) (sym (append_assoc e.refusals (null_clash e.typing) told))
    (broken_of_type (truth_clash c.args.first_token) e c.args.x c.truth_clash-clash.result c.ruled.result h c.truth_clash-clash.ensures c.ruled.ensures BigInt
    (Prefixed Not e.node BigInt) c.in-Err.refusal c.in-Err.is)

pub returns-in_ok-node-in-Ok : goal.returns-in_ok-node-in-Ok
returns-in_ok-node-in-Ok c = λ e h.
    let told = where_known e.typing (λ ty. if is_numeric_type ty then [] else type_refusal_at NotTruth c.args.first_token) in
    subst (λ (r : TypeRefusals). IsJudged (form_of_type BigInt r (Prefixed Not e.node BigInt)) (record { typing = known.Known BigInt; outcome = Ok c.in_ok-node-in-Ok.node })) (sym (append_assoc e.refusals (null_clash e.typing) told))
    (typed_of_type (truth_clash c.args.first_token) e c.args.x c.truth_clash-clash.result c.ruled.result h c.truth_clash-clash.ensures c.ruled.ensures BigInt
    c.in-Ok.operand c.in-Ok.is (λ (t : TypedExpression). Prefixed Not t BigInt) c.in_ok-node-in-Ok.node c.in_ok-node-in-Ok.ensures)
