use Rattle.std.proofs.Common.{ap, ◌∙◌}
use Rattle.ds2_names.specs.SourceUnit.{columns_stored}
use Rattle.ds2_elaboration.specs.SourceTypes.{type_of_column}
use Rattle.ds2_declared_types.proofs.input_types.input_types.Goals as goal

pub returns : goal.returns
returns c = λ name.
    let ty = c.in_ok-types.ensures name ∙ ap (type_of_column name) (c.columns_of.ensures ∙ ap (columns_stored c.args.tables.now) (c.as_slice.ensures ∙ c.in_ok-table.ensures)) in
    λ i. record { place = c.args.input.now.table.place; ty = ty i }
