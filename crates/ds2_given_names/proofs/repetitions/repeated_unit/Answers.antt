use Rattle.std.proofs.Common.{not, sym, ap, ◌∙◌}
use Rattle.std.specs.Option.{option_copied}
use Rattle.ds2_meaning.specs.ProgramTree.{is_listed}
use Rattle.ds2_names.specs.NameRules.{place_unless, duplicate_unit}
use Rattle.ds2_names.specs.SourceUnit.{known_names}
use Rattle.ds2_scope.specs.Earliest.{earliest}
use Rattle.ds2_given_names.proofs.repetitions.repeated_unit.Goals as goal

pub returns-in_ok-spelled-in-Some : goal.returns-in_ok-spelled-in-Some
returns-in_ok-spelled-in-Some c = λ units kept.
    let place = c.in-Some.name.now.place in
    c.place_unless.ensures
    ∙ (λ i. earliest (place_unless (not (c.has_name.ensures units kept i)) place))
    ∙ ap (λ n. earliest (place_unless (not (is_listed (known_names units) n)) place)) c.in_ok-spelled-in-Some.ensures
    ∙ sym (ap (λ o. earliest (duplicate_unit units (option_copied o))) c.in-Some.is)
