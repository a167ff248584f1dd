use Rattle.std.proofs.Common.{◌∙◌, sym, ap, length}
use Rattle.ds2_table.specs.Table.{Contents}
use Rattle.ds2_table.proofs.Across.{row_count}
use Rattle.ds2_table.proofs.table.Table.len.Goals as goal

pub returns : goal.returns
returns c = sym (row_count c.self.inside.rows c.self.inside.columns.items) ∙ ap (λ (t : Contents). length t.rows) c.self.view_is
