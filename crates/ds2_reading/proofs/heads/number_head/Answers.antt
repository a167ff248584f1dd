use Rattle.std.proofs.Common.{◌^◌, refl, subst, ℤ, pos, to_z, of_z, w64}
use Rattle.std.specs.Prelude.{◌*ℤ◌}
use Rattle.std.proofs.lemmas.Int.{to_z-of_z}
use Rattle.ds2_reading.specs.KeyHeads.{IsNumberHead, whole}
use Rattle.ds2_reading.proofs.heads.number_head.Goals as goal

pub returns-clause-head : goal.returns-clause-head
returns-clause-head c =
    let P : ℤ → Type 0 = λ v. IsNumberHead c.number_front.result (v *ℤ pos (10 ^ 38)) in
    subst P (to_z-of_z w64 c.args.i c.ranges.i)
    (whole (to_z w64 (of_z w64 c.args.i)) c.number_front.ensures.value c.number_front.ensures.high c.number_front.ensures.low refl)
