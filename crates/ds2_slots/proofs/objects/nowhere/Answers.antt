use Rattle.std.proofs.Common.{ℕ, List, [], ◌∷◌, ◌++◌, Option, None, sym, ap, ◌∙◌}
use Rattle.ds2_slots.proofs.Shifts.{nowhere_next}
use Rattle.ds2_slots.proofs.objects.nowhere.Goals as goal

pub loop-number-preserved : goal.loop-number-preserved
loop-number-preserved c =
    c.in_ok-push.ensures.ok ∙ ap (λ (z : List (Option ℕ)). z ++ None ∷ []) c.loop-number.invariant
    ∙ sym (nowhere_next c.args.walked.now c.loop-number.number c.loop-number-test.true)
