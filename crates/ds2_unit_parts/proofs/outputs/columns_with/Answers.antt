use Rattle.std.proofs.Common.{◌∙◌}
use Rattle.ds2_names.specs.NameRules.{from_each, renamings_in}
use Rattle.ds2_names.specs.SourceUnit.{names_alone}
use Rattle.ds2_unit_parts.proofs.OutputColumns.{columns_whole}
use Rattle.ds2_unit_parts.proofs.outputs.columns_with.Goals as goal

pub returns : goal.returns
returns c = λ all u h s.
    let options = c.args.options.now in
    c.in_ok-made.ensures all (from_each renamings_in options) h c.in_ok-news.ensures
    ∙ columns_whole c.args.statements.now c.in_ok-lists.lists all options u s c.in_ok-lists.ensures (names_alone c.args.variables.now)
