use Rattle.std.proofs.Common.{ap, ◌∙◌}
use Rattle.std.proofs.lemmas.Int.{to_z-of_z}
use Rattle.std.specs.Int.{w128, cast_unsigned}
use Rattle.ds2_object_words.proofs.ConstantSteps.{signed128_written}
use Rattle.ds2_object_words.proofs.constants.write_signed128.Goals as goal

pub returns : goal.returns
returns c =
    signed128_written c.ranges.number (c.cast_unsigned-n.ensures ∙ ap (cast_unsigned w128) (to_z-of_z w128 c.args.number c.ranges.number)) c.to_le_bytes.ensures
    c.to_le_bytes-2.ensures c.in_ok-append.ensures.ok c.in_ok-append-2.ensures.ok
