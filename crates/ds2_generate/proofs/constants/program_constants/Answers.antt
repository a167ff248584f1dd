use Rattle.std.proofs.Common.{List, [], None, map}
use Rattle.std.specs.Prelude.{flat_map}
use Rattle.ds2_meaning.specs.declared.methods.Method.{Method}
use Rattle.ds2_meaning.specs.declared.units.Instance.{Instance}
use Rattle.ds2_meaning.specs.View.{init_tree, instance_tree, system_tree, typed_method, unit_tree}
use Rattle.ds2_program_code.specs.UsedConstants.{constants_of_body}
use Rattle.ds2_generate.specs.ConstantWalk.{constants_of_instance, constants_of_methods}
use Rattle.ds2_generate.proofs.WalkLemmas.{grown_by_equal, program_collected}
use Rattle.ds2_generate.proofs.constants.program_constants.Goals as goal

pub returns : goal.returns
returns c =
    let p = c.args.program.now in
    program_collected (unit_tree None [] p) _ _ _ _ _ _ c.new-table.ensures
    (grown_by_equal (λ (l : List Instance). constants_of_body (init_tree l (system_tree p.init)).statements) _ _ _ _ c.as_slice-instances.ensures c.in_ok-collect_system.ensures)
    c.in_ok-collect_system-2.ensures c.in_ok-collect_system-3.ensures
    (grown_by_equal (λ (l : List Method). constants_of_methods (map typed_method l)) _ _ _ _ c.as_slice-methods.ensures c.in_ok-collect_methods.ensures)
    (grown_by_equal (λ (l : List Instance). flat_map constants_of_instance (map instance_tree l)) _ _ _ _ c.as_slice-instances.ensures c.in_ok-collect_instances.ensures)
