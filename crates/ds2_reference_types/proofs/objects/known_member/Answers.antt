use Rattle.std.proofs.Common.{Some, Ok, sym, subst}
use Rattle.ds2_elaboration.specs.ExpressionTypes.{ObjectCalls, member_of_object}
use Rattle.ds2_types.specs.Judgements.{IsJudged, Judges}
use Rattle.ds2_reference_types.specs.Scopes.{AreKnownCalls, IsInstance, IsThreadObject}
use Rattle.ds2_reference_types.specs.declared.scopes.KnownCalls.{KnownCalls}
use Rattle.ds2_reference_types.proofs.objects.known_member.Goals as goal

pub returns-in-Methods : goal.returns-in-Methods
returns-in-Methods c = λ calls h.
    let so = subst (λ (k : KnownCalls). AreKnownCalls k calls) c.in-Methods.is h.calls in
    subst (λ (o : ObjectCalls). IsJudged (member_of_object c.args.object.now c.args.member.now (Some o)) c.nameless.result) (sym (IsInstance.same so)) c.nameless.ensures

pub returns-in-Hash : goal.returns-in-Hash
returns-in-Hash c = λ calls h.
    let so = subst (λ (k : KnownCalls). AreKnownCalls k calls) c.in-Hash.is h.calls in
    subst (λ (o : ObjectCalls). Judges (member_of_object c.args.object.now c.args.member.now (Some o)) c.items.result) (sym so) (c.items.ensures h.name)

pub returns-in-Iterator : goal.returns-in-Iterator
returns-in-Iterator c = λ calls h.
    let so = subst (λ (k : KnownCalls). AreKnownCalls k calls) c.in-Iterator.is h.calls in
    subst (λ (o : ObjectCalls). IsJudged (member_of_object c.args.object.now c.args.member.now (Some o)) c.nameless-in-Iterator.result) (sym so) c.nameless-in-Iterator.ensures

pub returns-in-Parameters : goal.returns-in-Parameters
returns-in-Parameters c = λ calls h.
    let so = subst (λ (k : KnownCalls). AreKnownCalls k calls) c.in-Parameters.is h.calls in
    subst (λ (o : ObjectCalls). IsJudged (member_of_object c.args.object.now c.args.member.now (Some o)) c.nameless-in-Parameters.result) (sym (IsThreadObject.same so)) c.nameless-in-Parameters.ensures
