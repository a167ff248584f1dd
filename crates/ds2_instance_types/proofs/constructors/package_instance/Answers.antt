use Rattle.ds2_elaboration.specs.ProgramTypes.{arguments_of_constructor, constructor_of}
use Rattle.ds2_declared_types.specs.TypesKnown.{kept_types}
use Rattle.ds2_instance_types.specs.PackageInstances.{IsInstanceOf}
use Rattle.ds2_instance_types.proofs.PackageForms.{constants_broken, instance_made}
use Rattle.ds2_instance_types.proofs.constructors.package_instance.Goals as goal

pub returns-in-Err : goal.returns-in-Err
returns-in-Err c =
    let i = c.args.instance.now in
    let p = kept_types c.args.found.now in
    constants_broken (arguments_of_constructor i.name.now.place c.args.constants.now (constructor_of p)) c.in_ok-passed.passed c.in_ok-passed.ensures
    (IsInstanceOf i c.args.constants.now p) c.in-Err.refusal c.in-Err.is

pub returns-in_ok-own-in-Ok : goal.returns-in_ok-own-in-Ok
returns-in_ok-own-in-Ok c =
    instance_made c.args.instance.now c.args.constants.now (kept_types c.args.found.now) c.in_ok-passed.passed c.in-Ok.arguments c.in_ok-own-in-Ok.own c.in_ok-passed.ensures c.in-Ok.is
    c.in_ok-own-in-Ok.ensures.tree c.in_ok-own-in-Ok.ensures.construction
