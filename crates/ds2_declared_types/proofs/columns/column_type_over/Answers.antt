use Rattle.std.proofs.Common.{ap, ◌∙◌}
use Rattle.std.specs.Prelude.{map}
use Rattle.ds2_elaboration.specs.SourceTypes.{ColumnTyping}
use Rattle.ds2_declared_types.specs.InputColumns.{column_found, joined_columns}
use Rattle.ds2_declared_types.proofs.columns.column_type_over.Goals as goal

pub returns : goal.returns
returns c =
    let from = c.args.from in
    c.joined_over.ensures
    ∙ ap (λ (t : ColumnTyping). joined_columns c.args.declared t (map (column_found c.args.name.now) from.inputs.now))
    c.typing_of_rows-begun.ensures
