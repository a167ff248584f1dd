use Rattle.std.proofs.Common.{Result, sym, ap, ◌∙◌, subst}
use Rattle.ds2_base.specs.declared.place.Place.{Place}
use Rattle.ds2_base.specs.declared.place.Refusal.{Refusal}
use Rattle.ds2_elaboration.specs.Typings.{assigned_node, assigned_refusals}
use Rattle.ds2_meaning.specs.TypedExpression.{TypedExpression}
use Rattle.ds2_meaning.specs.declared.refusals.TypeKind.{TypeKind}
use Rattle.ds2_types.specs.declared.judgement.Node.{Node}
use Rattle.ds2_simple_statement_types.specs.StatementOutcomes.{IsNodeAs}
use Rattle.ds2_simple_statement_types.proofs.settings.one_setting.Goals as goal

pub returns-in-Err : goal.returns-in-Err
returns-in-Err c = λ e p h.
    let so = subst (λ (place : Place). IsNodeAs (assigned_refusals c.args.p.now.ty place e.value) (assigned_node c.args.p.now.ty e.value) c.in_ok-outcome.outcome) (sym p) (c.in_ok-outcome.ensures e.value h) in
    subst (λ (o : Result Node (Refusal TypeKind)). IsNodeAs (assigned_refusals c.args.p.now.ty e.place e.value) (assigned_node c.args.p.now.ty e.value) o) c.in-Err.is so

pub returns-in_ok-own-in-Ok : goal.returns-in_ok-own-in-Ok
returns-in_ok-own-in-Ok c = λ e p h.
    let so = subst (λ (place : Place). IsNodeAs (assigned_refusals c.args.p.now.ty place e.value) (assigned_node c.args.p.now.ty e.value) c.in_ok-outcome.outcome) (sym p) (c.in_ok-outcome.ensures e.value h) in
    let is = subst (λ (o : Result Node (Refusal TypeKind)). IsNodeAs (assigned_refusals c.args.p.now.ty e.place e.value) (assigned_node c.args.p.now.ty e.value) o) c.in-Ok.is so in
    (is.0, c.in_ok-own-in-Ok.ensures ∙ ap (λ (n : TypedExpression). record { parameter = c.args.p.now.name; value = n }) is.1)
