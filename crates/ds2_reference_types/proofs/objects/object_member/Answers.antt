use Rattle.std.proofs.Common.{Option, ap}
use Rattle.std.specs.Option.{option_copied}
use Rattle.ds2_elaboration.specs.ExpressionTypes.{ObjectCalls, member_of_object}
use Rattle.ds2_types.specs.Judgements.{IsJudged, Judges}
use Rattle.ds2_reference_types.proofs.ObjectForms.{no_object, an_object}
use Rattle.ds2_reference_types.proofs.objects.object_member.Goals as goal

pub returns-in-None : goal.returns-in-None
returns-in-None c = λ types s.
    no_object types c.args.scope.now c.args.object.now c.in_ok-spelled.spelled (option_copied c.object.result)
    (λ (o : Option ObjectCalls). IsJudged (member_of_object c.args.object.now c.args.member.now o) c.nameless.result) s c.in_ok-spelled.ensures c.object.ensures (ap option_copied c.in-None.is)
    c.nameless.ensures

pub returns : goal.returns
returns c = λ types s.
    an_object types c.args.scope.now c.args.object.now c.in_ok-spelled.spelled (option_copied c.object.result)
    (λ (o : Option ObjectCalls). Judges (member_of_object c.args.object.now c.args.member.now o) c.known_member.result) c.in-Some.known.now s c.in_ok-spelled.ensures c.object.ensures
    (ap option_copied c.in-Some.is) c.known_member.ensures
