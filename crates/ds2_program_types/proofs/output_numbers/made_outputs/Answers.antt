use Rattle.std.proofs.Common.{◌+◌, drop, arith}
use Rattle.std.proofs.lemmas.Grind.{common_steps}
use Rattle.std.specs.Prelude.{nat_eq}
use Rattle.std.specs.Cmp.Lexicographic.{pointwise}
use Rattle.std.specs.HashMap.{get}
use Rattle.std.proofs.lemmas.List.{drop_all}
use Rattle.ds2_program_types.proofs.OutputForms.{one_more_output, one_more_counted, numbers_whole}
use Rattle.ds2_program_types.proofs.output_numbers.made_outputs.Goals as goal

pub outputs-preserved : goal.outputs-preserved
outputs-preserved c =
    let left = drop (c.outputs.o-index + 1) c.args.outputs.now in (
      λ name.
          let k = one_more_output (get (pointwise nat_eq) c.outputs.numbers name) c.outputs.count c.in_ok-count.count c.o-item.result left name c.in_ok-count.ensures.number in
          let noted = c.in_ok-count.ensures.table name in
          let before = c.outputs.invariant.0 name in
          grind (arith, common_steps, k, noted, before),
      let k = one_more_counted c.outputs.count c.in_ok-count.count c.o-item.result left c.in_ok-count.ensures.number in
          let before = c.outputs.invariant.1 in
          grind (arith, common_steps, k, before),
    )

pub returns-clause-numbers : goal.returns-clause-numbers
returns-clause-numbers c = λ name.
    numbers_whole (get (pointwise nat_eq) c.outputs.numbers name) c.outputs.count (drop c.outputs.o-index c.args.outputs.now) c.args.outputs.now name
    (drop_all c.outputs.o-index c.args.outputs.now (omega arith)) (c.outputs.invariant.0 name)
