use Rattle.std.proofs.Common.{ap, ◌∙◌}
use Rattle.ds2_reading.specs.LoadMeaning.{bits_of}
use Rattle.ds2_reading.proofs.Bits.{shl16, bit_alone}
use Rattle.ds2_reading.proofs.flags.one.Goals as goal

pub returns : goal.returns
returns c = λ count. ap (bits_of count) (shl16 c.args.flag c.requires) ∙ bit_alone c.args.flag count
