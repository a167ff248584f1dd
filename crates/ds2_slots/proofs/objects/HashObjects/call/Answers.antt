use Rattle.std.proofs.Common.{ℕ, List, Option, ap, ◌∙◌}
use Rattle.std.specs.Prelude.{slice_set}
use Rattle.ds2_code.specs.HashCalls.{all_shifted}
use Rattle.ds2_slots.specs.SlotHashes.{meaning_of_shift}
use Rattle.ds2_slots.specs.declared.objects.HashObjects.{HashObjects}
use Rattle.ds2_slots.proofs.Answered.{called}
use Rattle.ds2_slots.proofs.objects.HashObjects.call.Goals as goal

pub returns : goal.returns
returns c =
    called c.args.function c.args.object.number c.args.object.part.now c.args.walked.now c.args.slots.now c.call_object.new.slots c.args.self.now _ c.in_ok-code.field-0.code (meaning_of_shift c.in_ok-code.field-0.shift) c.take-object.result c.call_object.new.object
    c.take-object.ensures.taken c.in_ok-code.ensures
    (ap (λ (z : HashObjects). z.hashes) c.put.ensures ∙ ap (λ (z : HashObjects). slice_set z.hashes c.args.object.number c.call_object.new.object) c.take-object.ensures.rest)
    (c.shift_all.ensures
    ∙ ap (λ (z : List (Option ℕ)). all_shifted (meaning_of_shift c.in_ok-code.field-0.shift) c.args.object.number c.args.walked.now z)
    (ap (λ (z : HashObjects). z.iterators) c.put.ensures ∙ ap (λ (z : HashObjects). z.iterators) c.take-object.ensures.rest))
