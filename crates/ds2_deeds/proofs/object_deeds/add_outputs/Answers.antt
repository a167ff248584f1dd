use Rattle.std.proofs.Common.{ℕ, List, map, slice_get, arith}
use Rattle.std.proofs.lemmas.Grind.{common_steps}
use Rattle.ds2_locality.specs.Deeds.{Mention, columns_at, columns_written}
use Rattle.ds2_deeds.specs.CodeTrees.{scope_of}
use Rattle.ds2_deeds.specs.NumberedDeeds.{numbers_of}
use Rattle.ds2_deeds.proofs.DeedLemmas.{none_added, number_added}
use Rattle.ds2_deeds.proofs.ItemLemmas.{output_first}
use Rattle.ds2_deeds.proofs.object_deeds.add_outputs.Goals as goal

pub returns : goal.returns
returns c = grind (arith, common_steps, none_added (numbers_of c.args.numbers) c.outputs.deeds, c.outputs.invariant)

pub outputs-preserved : goal.outputs-preserved
outputs-preserved c =
    let s = scope_of c.args.scope.now in
    number_added (numbers_of c.args.numbers) (λ (l : List ℕ). map Mention (columns_written s l)) (λ (x : ℕ). map Mention (columns_at s.home (slice_get s.outputs x))) (output_first s)
    c.args.outputs.now c.outputs.number-index c.outputs.deeds _ _ c.outputs-test.true c.in_ok-add_output.ensures c.outputs.invariant
