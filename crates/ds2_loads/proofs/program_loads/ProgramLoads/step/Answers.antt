use Rattle.std.proofs.Common.{refl, sym, ◌∙◌}
use Rattle.ds2_loads.proofs.CursorSteps.{groups_stay, goes_on}
use Rattle.ds2_loads.proofs.program_loads.ProgramLoads.step.Goals as goal

pub returns-clause-next : goal.returns-clause-next
returns-clause-next c =
    let was = c.args.self.now in
    goes_on was.at c.next_load.new.load c.next_load.result was.cursor c.next_load.new.self
    (c.next_load.ensures was.at refl (sym c.as_slice-reads.ensures) (was.as_many_tables, was.as_many_bys, was.few_by_row))

pub returns-clause-groups : goal.returns-clause-groups
returns-clause-groups c =
    let was = c.args.self.now in
    groups_stay was.at c.next_load.new.load c.next_load.new.self
    ∙ (c.next_load.ensures was.at refl (sym c.as_slice-reads.ensures) (was.as_many_tables, was.as_many_bys, was.few_by_row)).groups
