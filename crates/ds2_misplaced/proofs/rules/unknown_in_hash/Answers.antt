use Rattle.std.proofs.Common.{◌++◌, sym, ap, ◌∙◌}
use Rattle.std.specs.Option.{option_copied}
use Rattle.ds2_names.specs.NameRules.{lacking_table}
use Rattle.ds2_names.specs.SourceUnit.{columns_stored}
use Rattle.ds2_scope.specs.CodeUnits.{names_bracketed}
use Rattle.ds2_scope.specs.Earliest.{earlier_of}
use Rattle.ds2_misplaced.specs.InstanceTables.{tests_in_tables}
use Rattle.ds2_misplaced.proofs.TestForms.{hash_unknown}
use Rattle.ds2_misplaced.proofs.rules.unknown_in_hash.Goals as goal

pub returns : goal.returns
returns c =
    let keys = names_bracketed c.args.keys.now in
    let items = names_bracketed c.args.items.now in
    c.earlier_of-2.ensures
    ∙ ap (λ x. earlier_of x c.in_ok-lacking.lacking) c.earlier_of.ensures
    ∙ (λ i. earlier_of (earlier_of (c.in_ok-key.ensures i) (c.in_ok-item.ensures i)) (c.in_ok-lacking.ensures i))
    ∙ sym (hash_unknown (tests_in_tables c.args.scope).is_global keys items (lacking_table (columns_stored c.args.tables.now) (keys ++ items) (option_copied c.args.table)))
