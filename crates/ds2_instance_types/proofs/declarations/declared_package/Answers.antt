use Rattle.std.proofs.Common.{sym, ap, ◌∙◌}
use Rattle.std.specs.Prelude.{option_copied}
use Rattle.std.specs.Option.{option_map}
use Rattle.ds2_elaboration.specs.UnitsBefore.{package_types}
use Rattle.ds2_declared_types.specs.TypesKnown.{kept_types}
use Rattle.ds2_instance_types.proofs.DeclarationForms.{known_package, unknown_package}
use Rattle.ds2_instance_types.proofs.declarations.declared_package.Goals as goal

pub returns-in-None : goal.returns-in-None
returns-in-None c = λ tables before scope t.
    unknown_package tables before scope c.args.instance.now c.args.named.now c.args.constants.now
    (ap (package_types before.packages) (sym (c.as_slice.ensures ∙ c.in_ok-spelled.ensures)) ∙ sym (c.package_named.ensures before t) ∙ ap (λ o. option_map kept_types (option_copied o)) c.in-None.is)

pub returns : goal.returns
returns c = λ tables before scope t.
    known_package tables before scope c.args.instance.now c.args.named.now c.args.constants.now (kept_types c.in-Some.found.now) c.in_ok-outcome-in-Some.outcome c.as_package.result
    (ap (package_types before.packages) (sym (c.as_slice.ensures ∙ c.in_ok-spelled.ensures)) ∙ sym (c.package_named.ensures before t) ∙ ap (λ o. option_map kept_types (option_copied o)) c.in-Some.is)
    c.in_ok-outcome-in-Some.ensures c.as_package.ensures
