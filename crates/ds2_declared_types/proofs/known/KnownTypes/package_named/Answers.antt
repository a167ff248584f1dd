use Rattle.std.proofs.Common.{List, ap, ◌∙◌}
use Rattle.std.specs.Prelude.{map}
use Rattle.ds2_elaboration.specs.UnitsBefore.{PackageTypes, package_types}
use Rattle.ds2_declared_types.specs.TypesKnown.{kept_types}
use Rattle.ds2_declared_types.proofs.known.KnownTypes.package_named.Goals as goal

pub returns : goal.returns
returns c = λ before h.
    c.first_package.ensures ∙ ap (λ (l : List PackageTypes). package_types l c.args.name.now) (ap (map kept_types) c.as_slice.ensures ∙ h.packages)
