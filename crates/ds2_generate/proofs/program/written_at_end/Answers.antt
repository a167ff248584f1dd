use Rattle.std.proofs.Common.{◌+◌, ◌-◌, ◌++◌, [], ◌∷◌, sym, ap, ◌∙◌, append_assoc}
use Rattle.std.specs.List.{range_with_len}
use Rattle.ds2_generate.proofs.OutputLemmas.{numbers_from}
use Rattle.ds2_generate.proofs.program.written_at_end.Goals as goal

pub outputs-preserved : goal.outputs-preserved
outputs-preserved c =
    let n = c.outputs.output in
    let count = c.in_ok-count.count in
    let rest = range_with_len (n + 1) (count - (n + 1)) in
    ap (λ l. l ++ rest) c.in_ok-push.ensures.ok
    ∙ append_assoc c.outputs.list (n ∷ []) rest
    ∙ sym (ap (λ l. c.outputs.list ++ l) (numbers_from n count c.outputs-test.true))
    ∙ c.outputs.invariant
