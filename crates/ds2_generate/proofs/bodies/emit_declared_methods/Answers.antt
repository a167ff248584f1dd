use Rattle.std.proofs.Common.{◌+◌, ◌++◌, List, length, map, drop, sym, ap, ◌∙◌}
use Rattle.ds2_meaning.specs.declared.methods.Method.{Method}
use Rattle.ds2_meaning.specs.View.{typed_method}
use Rattle.ds2_program_code.specs.CodeMethods.{CodeMethod, methods_at}
use Rattle.ds2_numbering.specs.SoughtLocations.{home_of_name}
use Rattle.ds2_generate.specs.UnitBodies.{tree_of_unit, with_declared, with_method_parts}
use Rattle.ds2_generate.proofs.UnitLemmas.{method_emitted, part_emitted}
use Rattle.ds2_generate.proofs.WalkLemmas.{first_and_rest}
use Rattle.ds2_generate.proofs.bodies.emit_declared_methods.Goals as goal

pub methods-preserved : goal.methods-preserved
methods-preserved c =
    let p = tree_of_unit c.args.unit.now in
    let home = home_of_name c.args.home in
    let methods = c.args.methods.now in
    let n = c.methods.method-index in
    let x = c.method-item.result in
    let m : CodeMethod = record { home = home; method = typed_method x } in
    let later = methods_at home (map typed_method (drop (n + 1) methods)) in
    let here = sym (first_and_rest methods n x c.methods-test.true c.method-item.is) in
    let done = c.in_ok-emit_declared.ensures in
    record {
      code = λ (rest : List CodeMethod).
          sym (method_emitted p m (later ++ rest) c.methods.code _ done.code)
          ∙ ap (λ (l : List Method). with_declared p (methods_at home (map typed_method l) ++ rest) c.methods.code) here
          ∙ c.methods.invariant.code rest;
      parts = λ (rest : List CodeMethod).
          sym (part_emitted p m (later ++ rest) c.methods.code _ c.methods.parts _ done.code done.parts)
          ∙ ap (λ (l : List Method). with_method_parts p (length c.methods.code) (methods_at home (map typed_method l) ++ rest) c.methods.parts) here
          ∙ c.methods.invariant.parts rest;
    }
