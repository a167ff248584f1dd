use Rattle.std.proofs.Common.{◌++◌, ◌&&◌, ap, ◌∙◌}
use Rattle.ds2_names.specs.NameRules.{has_each_column}
use Rattle.ds2_names.specs.SourceUnit.{columns_stored}
use Rattle.ds2_scope.specs.CodeUnits.{names_bracketed}
use Rattle.ds2_misplaced.proofs.TestForms.{both_have}
use Rattle.ds2_misplaced.proofs.variables.has_both.Goals as goal

pub returns : goal.returns
returns c =
    let keys = names_bracketed c.args.keys.now in
    let items = names_bracketed c.args.items.now in
    c.both.ensures
    ∙ (λ i. c.in_ok-has_keys.ensures i && c.in_ok-has_items.ensures i)
    ∙ both_have c.in_ok-columns.columns c.columns_of.result.now keys items c.in_ok-columns.ensures
    ∙ ap (λ cs. has_each_column cs (keys ++ items)) (c.columns_of.ensures ∙ ap (columns_stored c.args.tables.now) (c.as_slice.ensures ∙ c.in_ok-name.ensures))
