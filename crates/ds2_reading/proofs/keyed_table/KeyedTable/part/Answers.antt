use Rattle.std.proofs.Common.{◌≡◌, ◌∙◌, List, [], sym, ap, subst}
use Rattle.std.specs.Prelude.{get_or, None}
use Rattle.std.specs.Arc.{arc_value}
use Rattle.ds2_value.specs.Cell.{lent_value}
use Rattle.ds2_value.specs.Value.{or_null}
use Rattle.ds2_value.specs.declared.value.Value.{Value}
use Rattle.ds2_table.specs.Table.{Contents, table_value}
use Rattle.ds2_reading.specs.KeyOrder.{part_of_key}
use Rattle.ds2_reading.proofs.Keys.{part_is, part_past}
use Rattle.ds2_reading.proofs.keyed_table.KeyedTable.part.Goals as goal

pub returns-in-None : goal.returns-in-None
returns-in-None c =
    let P : List (List Value) → Type 0 = λ keys. or_null None ≡ part_of_key (get_or keys c.args.row []) c.args.by in
    subst P c.self.view_is (sym (part_past c.self.inside.columns (arc_value c.self.inside.table).rows c.args.row c.args.by (sym c.in-None.ensures)))

pub returns-in-Some : goal.returns-in-Some
returns-in-Some c =
    let P : List (List Value) → Type 0 = λ keys. lent_value c.cell.result ≡ part_of_key (get_or keys c.args.row []) c.args.by in
    subst P c.self.view_is
    (c.cell.ensures ∙ ap (λ (t : Contents). table_value t.rows c.args.row c.in-Some.column.now) c.deref.ensures
    ∙ sym (part_is c.self.inside.columns (arc_value c.self.inside.table).rows c.args.row c.args.by c.in-Some.column.now (sym c.in-Some.ensures)))
