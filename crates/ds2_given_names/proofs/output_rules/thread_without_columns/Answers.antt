use Rattle.std.proofs.Common.{[], None, refl, sym, ap, ◌∙◌, append-nil}
use Rattle.std.specs.Option.{option_copied}
use Rattle.ds2_names.specs.NameRules.{from_each}
use Rattle.ds2_names.specs.UnitRules.{without_columns}
use Rattle.ds2_scope.specs.Earliest.{earliest}
use Rattle.ds2_given_names.specs.OutputRules.{name_place}
use Rattle.ds2_given_names.proofs.output_rules.thread_without_columns.Goals as goal

pub returns-in_ok-broken-in-Some : goal.returns-in_ok-broken-in-Some
returns-in_ok-broken-in-Some c = λ all are statements.
    let name = c.in-Some.name.now in
    (c.in_ok-broken-in-Some.ensures all (record { table = name; options = None }) are statements refl refl).empty
    ∙ sym (ap earliest (append-nil (without_columns all [] name.place)))
    ∙ sym (ap (λ o. earliest (from_each (without_columns all []) (name_place (option_copied o)))) c.in-Some.is)
