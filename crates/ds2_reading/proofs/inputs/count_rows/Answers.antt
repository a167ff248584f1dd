use Rattle.std.proofs.Common.{ap, arith, length, ◌∙◌}
use Rattle.std.proofs.lemmas.List.{take_all}
use Rattle.ds2_table.specs.Loads.{input_rows}
use Rattle.ds2_reading.proofs.inputs.count_rows.Goals as goal

pub returns-then-rows-lt4294967296-clause-count : goal.returns-then-rows-lt4294967296-clause-count
returns-then-rows-lt4294967296-clause-count c = c.tables.invariant.0 ∙ ap (λ ts. length (input_rows 0 ts)) (take_all c.tables.table c.args.tables.now (omega arith))
