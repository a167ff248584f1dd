use Rattle.std.proofs.Common.{◌∙◌}
use Rattle.ds2_expression_types.proofs.growth.first_alone.Goals as goal

pub returns : goal.returns
returns c =
    let g = c.begun.ensures in
    record { begins = g.begins; goes_on = g.goes_on; type_so_far = g.type_so_far ∙ c.args.first.own_type }
