use Rattle.std.proofs.Common.{◌-◌, ◌∙◌, arith}
use Rattle.ds2_reading.specs.LoadMeaning.{bits_of}
use Rattle.ds2_reading.proofs.Bits.{shl32, pow_mono, bits_behind}
use Rattle.ds2_reading.proofs.flags.all_but.Goals as goal

pub overflow_sub-result : goal.overflow_sub-result
overflow_sub-result c =
    omega (arith, shl32 c.args.few (omega arith), shl32 c.args.bys (omega arith), pow_mono c.args.few c.args.bys c.requires.few)

pub returns : goal.returns
returns c =
    (λ i. bits_of c.args.bys (shl32 c.args.bys (omega arith) i - shl32 c.args.few (omega arith) i)) ∙ bits_behind c.args.bys c.args.few c.requires.few
