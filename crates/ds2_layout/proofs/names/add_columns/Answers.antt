use Rattle.std.proofs.Common.{bytes_eq}
use Rattle.ds2_value.specs.declared.schema.Column.{Column}
use Rattle.ds2_layout.proofs.LayoutLemmas.{more_known, all_known}
use Rattle.ds2_layout.proofs.names.add_columns.Goals as goal

pub columns-preserved : goal.columns-preserved
columns-preserved c = λ other.
    more_known (λ (column : Column). bytes_eq column.name other) c.args.columns.now c.columns.column-index c.column-item.result c.columns-test.true c.column-item.is _ _ _ (c.in_ok-add_name.ensures other) (c.columns.invariant other)

pub returns : goal.returns
returns c = λ other.
    all_known (λ (column : Column). bytes_eq column.name other) c.args.columns.now c.columns.column-index c.columns-test.false _ _ (c.columns.invariant other)
