use Rattle.std.proofs.Common.{ℕ, ◌<◌, [], ◌∷◌, subst}
use Rattle.std.proofs.lemmas.List.{length-map}
use Rattle.ds2_code.specs.CodeUnit.{row_slot_settings}
use Rattle.ds2_machine.specs.declared.record.OutRow.{OutRow}
use Rattle.ds2_loads.proofs.LoadsTaken.{row_there}
use Rattle.ds2_loads.proofs.stage_rows.StageRowsLoadSource.enter.Goals as goal

pub returns-clause-entered : goal.returns-clause-entered
returns-clause-entered c =
    let rows = c.args.self.now in
    let P : ℕ → Type 0 = λ n. c.args.g < n in
    let here = subst P (length-map rows.all.now (λ (r : OutRow). row_slot_settings rows.slots.now rows.into.now r.row ∷ [])) c.requires in
    row_there (λ (r : OutRow). row_slot_settings rows.slots.now rows.into.now r.row) rows.all.now c.one_row-self.result.now c.args.g here c.one_row-self.ensures
