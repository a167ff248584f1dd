use Rattle.std.proofs.Common.{◌+◌, List, map, drop, sym, ap, ◌∙◌, arith}
use Rattle.std.specs.Prelude.{flat_map}
use Rattle.std.proofs.lemmas.Grind.{common_steps}
use Rattle.ds2_meaning.specs.declared.methods.Method.{Method}
use Rattle.ds2_meaning.specs.declared.units.Instance.{Instance}
use Rattle.ds2_meaning.specs.declared.units.TypedPackage.{TypedPackage}
use Rattle.ds2_meaning.specs.View.{instance_tree, typed_method}
use Rattle.ds2_constants.specs.UsedOnce.{with_used}
use Rattle.ds2_generate.specs.ConstantWalk.{constants_of_instance, constants_of_methods}
use Rattle.ds2_generate.proofs.WalkLemmas.{no_constant, instance_collected, grown_by_equal, first_and_rest}
use Rattle.ds2_generate.proofs.constants.collect_instances.Goals as goal

pub instances-preserved : goal.instances-preserved
instances-preserved c =
    let instances = c.args.instances.now in
    let n = c.instances.instance-index in
    let i = c.instance-item.result in
    let rest = map instance_tree (drop (n + 1) instances) in
    ap (λ t. with_used (flat_map constants_of_instance rest) t)
    (grown_by_equal (λ (l : List Method). constants_of_methods (map typed_method l)) _ _ _ _ (c.as_slice.ensures ∙ ap (λ (p : TypedPackage). p.methods) c.get.ensures) c.in_ok-collect_methods.ensures)
    ∙ sym (instance_collected (instance_tree i) rest c.instances.table)
    ∙ ap (λ (l : List Instance). with_used (flat_map constants_of_instance (map instance_tree l)) c.instances.table) (sym (first_and_rest instances n i c.instances-test.true c.instance-item.is))
    ∙ c.instances.invariant

pub returns : goal.returns
returns c = grind (arith, common_steps, no_constant c.instances.table, c.instances.invariant)
