use Rattle.std.proofs.Common.{[], Option, sym, ap, ◌∙◌}
use Rattle.std.specs.Prelude.{map, option_copied}
use Rattle.std.specs.Option.{option_map, option_map_or}
use Rattle.ds2_tree.specs.UnitViews.{global_tree}
use Rattle.ds2_names.specs.SourceUnit.{source_methods}
use Rattle.ds2_elaboration.specs.UnitsBefore.{PackageTypes}
use Rattle.ds2_declared_types.specs.TypesKnown.{kept_types}
use Rattle.ds2_declared_types.proofs.known.KnownTypes.source_named.Goals as goal

pub returns-in-None : goal.returns-in-None
returns-in-None c = λ before h.
    ap (λ (o : Option PackageTypes). option_map_or (λ (p : PackageTypes). p.sources) o []) (ap (λ o. option_map kept_types (option_copied o)) (sym c.in-None.is) ∙ c.package_named.ensures before h)

pub returns-in-Some : goal.returns-in-Some
returns-in-Some c = λ before h.
    ap (λ l. source_methods (map global_tree l)) c.as_slice.ensures
    ∙ ap (λ (o : Option PackageTypes). option_map_or (λ (p : PackageTypes). p.sources) o []) (ap (λ o. option_map kept_types (option_copied o)) (sym c.in-Some.is) ∙ c.package_named.ensures before h)
