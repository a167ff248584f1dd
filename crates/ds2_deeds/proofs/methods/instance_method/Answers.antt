use Rattle.std.proofs.Common.{sym, ap, slice_get, ◌∙◌}
use Rattle.std.specs.Option.{option_copied}
use Rattle.ds2_meaning.specs.declared.units.TypedPackage.{TypedPackage}
use Rattle.ds2_deeds.proofs.MethodLemmas.{found_there}
use Rattle.ds2_deeds.proofs.methods.instance_method.Goals as goal

pub returns-then-eq : goal.returns-then-eq
returns-then-eq c =
    found_there c.args.instances.now c.instances.instance-index c.instance-item.result c.args.name.now c.args.k (option_copied c.get.result) _ c.instances-test.true c.instance-item.is
    (sym c.eq.ensures ∙ c.if-eq.true) (c.get.ensures ∙ ap (λ (p : TypedPackage). slice_get p.methods c.args.k) c.get-package.ensures) c.instances.invariant
