use Rattle.std.proofs.Common.{List, sym, ap, ◌∙◌}
use Rattle.ds2_value.specs.declared.value.Value.{Value}
use Rattle.ds2_table.specs.Loads.{input_rows}
use Rattle.ds2_reading.specs.KeyOrder.{part_of_key, row_in}
use Rattle.ds2_reading.proofs.AllRows.{key_there, key_past}
use Rattle.ds2_reading.proofs.inputs.numbered_part.Goals as goal

pub returns-in-None : goal.returns-in-None
returns-in-None c = sym (ap (λ (key : List Value). part_of_key key c.args.by) (key_past (input_rows 0 c.args.tables.now) c.args.number c.in-None.ensures.row))

pub returns-in-Some : goal.returns-in-Some
returns-in-Some c =
    c.part_in.ensures
    ∙ ap (λ (key : List Value). part_of_key key c.args.by)
    (sym (key_there (input_rows 0 c.args.tables.now) c.args.number (row_in c.args.tables.now c.in-Some.row) (sym c.in-Some.ensures.row)))
