use Rattle.std.proofs.Common.{◌∙◌}
use Rattle.ds2_constants.proofs.TableLemmas.{number_is}
use Rattle.ds2_constants.proofs.table.ConstantTable.number.Goals as goal

pub returns : goal.returns
returns c =
    number_is c.self.inside.keys c.self.inside.numbers c.args.self.now c.args.key.now c.copied.result c.unwrap_or.result c.self.view_is c.self.invariant (c.copied.ensures ∙ c.get.ensures.value)
    c.unwrap_or.ensures
