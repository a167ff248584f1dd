use Rattle.std.proofs.Common.{◌++◌, sym, ap, ◌∙◌}
use Rattle.std.specs.Option.{option_copied}
use Rattle.ds2_meaning.specs.ProgramTree.{is_listed}
use Rattle.ds2_names.specs.SourceUnit.{names_alone, columns_of_stage}
use Rattle.ds2_scope.specs.CodeUnits.{instances_in_source}
use Rattle.ds2_scope.specs.NameSets.{stage_columns_by}
use Rattle.ds2_scope.proofs.UnitNameLemmas.{stage_some}
use Rattle.ds2_scope.proofs.unit_names.add_stage.Goals as goal

pub returns-in_ok-add_stage_columns-in-Some-2-clause-names : goal.returns-in_ok-add_stage_columns-in-Some-2-clause-names
returns-in_ok-add_stage_columns-in-Some-2-clause-names c = λ units kept.
    let old = c.args.names.now in
    let all = instances_in_source c.args.instances.now in
    let stage = c.in-Some.stage.now in
    let read = sym (ap option_copied c.in-Some-2.is) ∙ c.in_ok-stage_read-in-Some.ensures units kept in
    c.in_ok-add_stage_columns-in-Some-2.ensures
    ∙ (λ i. old ++ stage_columns_by (is_listed (names_alone old)) stage.place (c.as_slice.ensures i))
    ∙ ap (λ cs. old ++ cs) (stage_some units all (names_alone old) stage c.in-Some-2.thread.now read).0
    ∙ ap (λ s. old ++ columns_of_stage units all (names_alone old) s) (sym (ap option_copied c.in-Some.is))
