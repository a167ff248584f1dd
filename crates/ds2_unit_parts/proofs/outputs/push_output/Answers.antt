use Rattle.std.proofs.Common.{◌≡◌, true, false, bytes_eq, codes, arith}
use Rattle.std.proofs.lemmas.Grind.{common_steps}
use Rattle.ds2_names.specs.SourceUnit.{names_alone, spelled_name}
use Rattle.ds2_unit_parts.specs.TypedOutputs.{outputs_made_of}
use Rattle.ds2_unit_parts.proofs.MadeForms.{pushed_none, pushed_one}
use Rattle.ds2_unit_parts.proofs.outputs.push_output.Goals as goal

pub returns-then-null : goal.returns-then-null
returns-then-null c = λ known u h k.
    let e : bytes_eq (spelled_name c.args.o.now.table) (codes "_null_") ≡ true = grind (arith, common_steps) in
    pushed_none (outputs_made_of known u (names_alone c.args.variables.now)) c.args.o.now c.args.all.now e

pub returns : goal.returns
returns c = λ known u h k.
    let e : bytes_eq (spelled_name c.args.o.now.table) (codes "_null_") ≡ false = grind (arith, common_steps) in
    pushed_one (outputs_made_of known u (names_alone c.args.variables.now)) c.args.o.now c.args.all.now _ c.in_ok-made.made e (c.in_ok-made.ensures known u h k) c.in_ok-push.ensures.ok
