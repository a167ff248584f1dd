use Rattle.std.proofs.Common.{◌≡◌, ◌∙◌, ℕ, [], ◌<◌, ap, length, get_or, subst}
use Rattle.ds2_value.specs.Row.{Columns}
use Rattle.ds2_table.specs.Across.{rows_across}
use Rattle.ds2_table.specs.Table.{Contents}
use Rattle.ds2_table.proofs.FittingRows.{widths}
use Rattle.ds2_table.proofs.table.Table.width.Goals as goal

pub returns : goal.returns
returns c =
    let P : Contents → Type 0 = λ t. (row : ℕ) → row < length t.rows → c.len.result ≡ length (get_or t.rows row []) in
    subst P c.self.view_is
    (λ row h. c.len.ensures ∙ ap (λ (cs : Columns). length cs) c.columns.ensures.value
    ∙ widths (rows_across c.self.inside.rows c.self.inside.columns.items) c.self.inside.schema row c.self.invariant.fit h)
