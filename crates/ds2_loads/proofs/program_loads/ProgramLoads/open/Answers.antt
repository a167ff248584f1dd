use Rattle.std.proofs.Common.{sym, ◌∙◌, subst}
use Rattle.ds2_table.specs.Loads.{groups}
use Rattle.ds2_reading.specs.declared.reading.Reading.{Reading}
use Rattle.ds2_code_answer.specs.CodeLoads.{code_keyed_loads}
use Rattle.ds2_loads.specs.LoadCursors.{IsCursorOver}
use Rattle.ds2_loads.proofs.OpenCursors.{settings_are, groups_are}
use Rattle.ds2_loads.proofs.program_loads.ProgramLoads.open.Goals as goal

pub invariant_of-result : goal.invariant_of-result
invariant_of-result c =
    let P : Reading → Type 0 = λ r. IsCursorOver r c.in_ok-cursor.cursor in
    let over = subst P (sym c.before_first.ensures.over.reading) c.in_ok-cursor.ensures.over in
    record { as_many_tables = over.0; as_many_bys = over.1; few_by_row = over.2 }

pub returns-clause-left : goal.returns-clause-left
returns-clause-left c =
    let at = c.before_first.result in
    let over = c.before_first.ensures.over in
    c.in_ok-cursor.ensures.left at over.reading
    ∙ settings_are at c.args.program.now c.args.tables.now c.before_first.ensures.slots (over.reading ∙ c.requires.reading) over.retained over.tables (code_keyed_loads c.args.program.now c.args.tables.now)

pub returns-clause-groups : goal.returns-clause-groups
returns-clause-groups c =
    let at = c.before_first.result in
    let over = c.before_first.ensures.over in
    c.in_ok-cursor.ensures.groups at over.reading
    ∙ groups_are at c.args.program.now c.args.tables.now c.before_first.ensures.slots (over.reading ∙ c.requires.reading) over.retained over.tables
    (groups c.args.grain (code_keyed_loads c.args.program.now c.args.tables.now))
