use Rattle.std.proofs.Common.{List, ℕ, subst}
use Rattle.ds2_slots.specs.SlotHashes.{HasCalledHash}
use Rattle.ds2_machine.proofs.HashSteps.{hash_stepped}
use Rattle.ds2_machine.proofs.state.State.call_object.Goals as goal

pub returns : goal.returns
returns c = λ told.
    let P : List ℕ → Type 0 = λ walked. HasCalledHash c.args.function c.args.number c.args.part.now walked c.args.self.now.slots c.call.new.slots c.args.self.now.objects c.call.new.self c.in_ok-given.given in
    hash_stepped c.args.part.now c.args.self.now told c.call.new.self c.call.new.slots c.push.new.self c.in_ok-given.given c.in_ok-push.ensures.stack c.in_ok-push.ensures.below c.args.code.now c.args.function c.args.number
    (subst P c.as_slice-walked.ensures c.in_ok-given.ensures)
