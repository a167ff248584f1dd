use Rattle.std.proofs.Common.{◌≡◌, ◌++◌, List, length, map, drop}
use Rattle.std.specs.Prelude.{flat_map}
use Rattle.ds2_meaning.specs.View.{instance_tree}
use Rattle.ds2_program_code.specs.CodeMethods.{CodeMethod}
use Rattle.ds2_generate.specs.UnitBodies.{tree_of_unit, with_declared, with_method_parts, instance_code_methods}
use Rattle.ds2_generate.proofs.bodies.emit_instance_methods.Given as goal

abbrev pub invariant-instances : goal.invariant-instances
invariant-instances l = record {
  code : (rest : List CodeMethod)
      → with_declared (tree_of_unit l.unit) (flat_map instance_code_methods (map instance_tree (drop l.instance-index l.instances)) ++ rest) l.code
      ≡ with_declared (tree_of_unit l.unit) (flat_map instance_code_methods (map instance_tree l.instances) ++ rest) l.fn.code;
  parts : (rest : List CodeMethod)
      → with_method_parts (tree_of_unit l.unit) (length l.code) (flat_map instance_code_methods (map instance_tree (drop l.instance-index l.instances)) ++ rest) l.parts
      ≡ with_method_parts (tree_of_unit l.unit) (length l.fn.code) (flat_map instance_code_methods (map instance_tree l.instances) ++ rest) l.fn.parts;
}
