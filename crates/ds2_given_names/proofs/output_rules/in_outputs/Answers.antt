use Rattle.std.proofs.Common.{◌+◌, drop, arith}
use Rattle.std.proofs.lemmas.Grind.{common_steps}
use Rattle.ds2_names.specs.UnitRules.{output_without_columns}
use Rattle.ds2_given_names.specs.OutputParts.{clashing_in}
use Rattle.ds2_scope.proofs.CollectedLemmas.{one_more_item}
use Rattle.ds2_scope.proofs.EarliestLemmas.{none_right}
use Rattle.ds2_given_names.proofs.output_rules.in_outputs.Goals as goal

pub outputs-preserved : goal.outputs-preserved
outputs-preserved c = λ all are statements.
    let o = c.o-item.result in
    let rest = drop (c.outputs.o-index + 1) c.args.outputs.now in
    let here = c.in_ok-in_output.ensures all are statements in
    let before = c.outputs.invariant all are statements in (
      let k = one_more_item (clashing_in all) c.outputs.found.clash o rest in
          let h = here.clash in
          let b = before.0 in grind (arith, common_steps, k, h, b),
      let k = one_more_item (output_without_columns all) c.outputs.found.empty o rest in
          let h = here.empty in
          let b = before.1 in grind (arith, common_steps, k, h, b),
    )

pub returns : goal.returns
returns c = λ all are statements.
    let before = c.outputs.invariant all are statements in record {
      clash = let n = none_right c.outputs.found.clash in let b = before.0 in grind (arith, common_steps, n, b);
      empty = let n = none_right c.outputs.found.empty in let b = before.1 in grind (arith, common_steps, n, b);
    }
