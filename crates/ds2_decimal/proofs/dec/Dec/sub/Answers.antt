use Rattle.std.proofs.Common.{◌∙◌, ap}
use Rattle.ds2_decimal.specs.Decimal.{Decimal}
use Rattle.ds2_decimal.specs.Arithmetic as spec
use Rattle.ds2_decimal.proofs.AlignedLemmas.{add-neg}
use Rattle.ds2_decimal.proofs.dec.Dec.sub.Goals as goal

pub returns : goal.returns
returns c = c.add.ensures ∙ ap (λ (d : Decimal). spec.add c.args.self d) c.neg.ensures ∙ add-neg c.args.self c.args.other
