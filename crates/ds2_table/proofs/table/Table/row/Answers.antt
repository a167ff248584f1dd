use Rattle.std.proofs.Common.{◌∙◌, ◌<◌, List, [], sym, ap, subst, length, get_or, arith}
use Rattle.std.proofs.lemmas.List.{take_all}
use Rattle.ds2_columns.specs.Columns.{ColumnContents}
use Rattle.ds2_table.specs.Across.{row_across}
use Rattle.ds2_table.specs.Table.{Contents}
use Rattle.ds2_table.proofs.Across.{row_at, row_count}
use Rattle.ds2_table.proofs.table.Table.row.Goals as goal

pub returns : goal.returns
returns c =
    let P : Contents → Type 0 = λ t. c.args.row < length t.rows in
    let there = subst P (sym c.self.view_is) c.requires in
    c.columns.invariant
    ∙ ap (λ (columns : List ColumnContents). row_across columns c.args.row)
    (take_all c.columns.column-index c.deref-column-items.result.now (omega (arith, c.columns-test.false)) ∙ c.deref-column-items.ensures.value)
    ∙ sym (row_at c.self.inside.rows c.self.inside.columns.items c.args.row (omega (arith, there, row_count c.self.inside.rows c.self.inside.columns.items)))
    ∙ ap (λ (t : Contents). get_or t.rows c.args.row []) c.self.view_is
