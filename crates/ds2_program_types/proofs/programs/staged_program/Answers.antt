use Rattle.std.proofs.Common.{sym, ap, ◌∙◌}
use Rattle.ds2_elaboration.specs.SourceTypes.{unit_stage}
use Rattle.ds2_names.specs.SourceUnit.{UnitSource, columns_stored, is_package}
use Rattle.ds2_scope.specs.CodeUnits.{unit_source}
use Rattle.ds2_program_types.specs.TypedPrograms.{IsStagedProgram}
use Rattle.ds2_program_types.proofs.TreeForms.{told_over}
use Rattle.ds2_program_types.proofs.programs.staged_program.Goals as goal

pub returns : goal.returns
returns c = λ before t m p n.
    let u = unit_source c.args.unit in
    let hand = c.at_hand-hand.ensures in
    let own = c.at_hand-hand.result in
    let read = c.in_ok-read.ensures before t in
    told_over IsStagedProgram before own.from.tables.now c.args.tables.now (unit_source own.unit) u c.in_ok-typed.typed hand.tables hand.unit
    (c.in_ok-typed.ensures before t m (hand.hand before read n) (ap (λ (x : UnitSource). is_package x.kind) hand.unit ∙ p)
    (read.stage ∙ (λ i. unit_stage (columns_stored (sym hand.tables i)) before (sym hand.unit i))))
