use Rattle.std.proofs.Common.{length, refl, sym}
use Rattle.ds2_tree.specs.Units.{package_spelling}
use Rattle.ds2_tree.specs.UnitViews.{package_tree}
use Rattle.ds2_names.specs.SourceUnit.{KnownPackage, spelled_name, source_methods}
use Rattle.ds2_resolve.proofs.BeforeLemmas.{package_behind}
use Rattle.ds2_resolve.proofs.before.UnitsBefore.enter_package.Goals as goal

pub returns : goal.returns
returns c = λ tables units kept.
    let u = package_tree c.args.unit.now in
    let p : KnownPackage = record { name = spelled_name u.name; methods = source_methods u.globals; tokens = length (package_spelling u) } in
    package_behind c.args.self.now _ units u tables kept
    (c.in_ok-add_package-2.ensures units.known p kept.known (sym c.in_ok-name.ensures) (sym c.args.unit.now.counted))
    (c.in_ok-add_package.ensures units.known p refl refl kept.calls)
    refl refl refl refl refl
