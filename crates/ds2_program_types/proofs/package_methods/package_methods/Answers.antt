use Rattle.std.proofs.Common.{take, map, refl, ap, arith}
use Rattle.ds2_meaning.specs.View.{typed_method}
use Rattle.ds2_tree.specs.UnitViews.{global_tree}
use Rattle.ds2_program_types.proofs.MethodLists.{methods_among, rules_among, one_more_typed, all_typed}
use Rattle.ds2_program_types.specs.PackageMethods.{AreTyped}
use Rattle.ds2_program_types.proofs.package_methods.package_methods.Goals as goal

pub globals-init : goal.globals-init
globals-init c = λ tables before u t. (refl, ap (map typed_method) c.new.ensures)

pub globals-preserved : goal.globals-preserved
globals-preserved c = λ tables before u t.
    let passed = take c.globals.global-index c.args.globals.now in
    one_more_typed (AreTyped tables before u) global_tree tables before u c.args.globals.now c.globals.global-index c.global-item.result c.in_ok-all.all (omega arith) c.global-item.is
    (c.in_ok-all.ensures tables before u (methods_among (AreTyped tables before u) global_tree tables before u passed) (rules_among (AreTyped tables before u) global_tree tables before u passed) t (c.globals.invariant tables before u t))

pub returns : goal.returns
returns c = λ tables before u t. all_typed (AreTyped tables before u) global_tree tables before u c.args.globals.now c.globals.global-index c.globals.all (omega arith) (c.globals.invariant tables before u t)
