use Rattle.std.proofs.Common.{◌++◌, ap, ◌∙◌}
use Rattle.ds2_meaning.specs.ProgramTree.{is_listed}
use Rattle.ds2_names.specs.SourceUnit.{names_alone}
use Rattle.ds2_scope.specs.NameSets.{stage_columns_by}
use Rattle.ds2_scope.proofs.columns.add_stage_columns.Goals as goal

pub returns : goal.returns
returns c =
    let old = c.args.names.now in
    c.in_ok-push_stage_columns.ensures
    ∙ (λ i. old ++ stage_columns_by (λ name. c.in_ok-known.ensures name i) c.args.place c.args.columns.now)
    ∙ ap (λ ns. old ++ stage_columns_by (is_listed (names_alone ns)) c.args.place c.args.columns.now) c.as_slice.ensures
