use Rattle.std.proofs.Common.{[], ◌∷◌, ◌++◌, drop, sym, ap, ◌∙◌, arith}
use Rattle.std.specs.Arc.{arc_value}
use Rattle.ds2_table.specs.Table.{Contents}
use Rattle.ds2_unit.proofs.StagedRuns.{all_behind, next_behind}
use Rattle.ds2_unit.proofs.thread.tables_behind.Goals as goal

pub tables-preserved : goal.tables-preserved
tables-preserved c =
    next_behind c.args.tables.now c.tables.behind c.push.new.self c.tables.number (arc_value c.in-Some.table.now) (drop c.args.first c.args.tables.now) (sym c.in-Some.ensures)
    (c.in_ok-push.ensures.ok ∙ ap (λ (t : Contents). c.tables.behind ++ t ∷ []) c.in_ok-one.ensures) c.tables.invariant

pub returns : goal.returns
returns c = all_behind c.args.tables.now c.tables.behind c.tables.number (drop c.args.first c.args.tables.now) (omega (arith, c.tables-test.false, c.len-count.ensures)) c.tables.invariant
