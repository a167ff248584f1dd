use Rattle.std.proofs.Common.{◌<◌, length, arith}
use Rattle.ds2_table.specs.Loads.{input_rows}
use Rattle.ds2_reading.proofs.Runs.{number_is, numbers_more}
use Rattle.ds2_reading.proofs.numbers.headed_numbers.Goals as goal

pub rows-preserved : goal.rows-preserved
rows-preserved c =
    let l : c.rows.row < length (input_rows 0 c.args.inputs.now.tables) = omega (arith, c.requires.count) in
    numbers_more c.args.inputs.now c.rows.numbers.items _ c.numbered.result c.rows.row c.rows.invariant
    (number_is c.args.inputs.now c.is_descending-is_descending.result c.numbered.result c.key_head.result c.rows.row _ c.is_descending-is_descending.ensures c.key_head.ensures.head
    c.key_head.ensures.bound c.part-value.ensures c.numbered.ensures.head c.numbered.ensures.row l) c.numbered.ensures.row c.in_ok-push.ensures.items
