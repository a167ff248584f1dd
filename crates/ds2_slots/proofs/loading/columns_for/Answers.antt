use Rattle.std.proofs.Common.{sym, ap, ◌∙◌, ◌++◌}
use Rattle.std.proofs.lemmas.List.{append-nil}
use Rattle.std.proofs.lemmas.Option.{slice_get_past}
use Rattle.ds2_value.specs.Row.{Row}
use Rattle.ds2_slots.specs.LoadedHashes.{row_in_table}
use Rattle.ds2_slots.proofs.LoadedSteps.{columns_end}
use Rattle.ds2_slots.proofs.loading.columns_for.Goals as goal

pub returns-in_default : goal.returns-in_default
returns-in_default g c =
    sym (append-nil c.loop-place.list)
    ∙ ap (λ (z : Row). c.loop-place.list ++ z) (sym (columns_end c.args.slots.now c.args.numbers.now c.args.columns.now (row_in_table (g.T.HashTables.tables c.args.from.now.tables.now) c.args.from.now.number c.args.row) c.loop-place.place (slice_get_past c.args.columns.now c.loop-place.place c.in_default.ensures.lookup.3)))
    ∙ c.loop-place.invariant
