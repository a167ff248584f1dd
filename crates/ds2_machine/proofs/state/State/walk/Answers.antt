use Rattle.ds2_machine.proofs.HashSteps.{iterator_stepped}
use Rattle.ds2_machine.proofs.state.State.walk.Goals as goal

pub returns : goal.returns
returns c = λ told.
    iterator_stepped c.args.part.now c.args.self.now told c.iterate.new.self c.iterate.new.slots c.push.new.self c.in_ok-given.given c.in_ok-push.ensures.stack c.in_ok-push.ensures.below c.args.function c.args.number c.args.object
    c.in_ok-given.ensures
