use Rattle.std.proofs.Common.{ℤ, ap, ◌∙◌, w64}
use Rattle.std.proofs.lemmas.Int.{to_z-of_z}
use Rattle.std.specs.Int.{cast_unsigned, to_le_bytes}
use Rattle.ds2_object_words.proofs.ConstantSteps.{signed64_written}
use Rattle.ds2_object_words.proofs.constants.write_signed64.Goals as goal

pub returns : goal.returns
returns c =
    signed64_written c.ranges.number (c.to_le_bytes.ensures ∙ ap (λ (z : ℤ). to_le_bytes w64 (cast_unsigned w64 z)) (to_z-of_z w64 c.args.number c.ranges.number))
    c.in_ok-append.ensures.ok
