use Rattle.std.proofs.Common.{◌≡◌, Some, arith}
use Rattle.std.proofs.lemmas.Grind.{common_steps}
use Rattle.std.specs.Prelude.{nat_eq}
use Rattle.std.specs.Cmp.Lexicographic.{pointwise}
use Rattle.std.specs.HashMap.{get}
use Rattle.ds2_given_names.specs.OutputParts.{first_new}
use Rattle.ds2_given_names.proofs.OutputLemmas.{one_more_column}
use Rattle.ds2_given_names.proofs.output_columns.note_column.Goals as goal

pub returns : goal.returns
returns c = λ name.
    let n = c.args.n.now in
    let h : Some c.with_place-first.result ≡ first_new (get (pointwise nat_eq) c.args.firsts.now n.name) (Some n.new_place) = grind (arith, common_steps) in
    let k = one_more_column (get (pointwise nat_eq) c.args.firsts.now) n c.with_place-first.result name h in
    let updated = c.in_ok-insert.ensures.updates name in
    grind (arith, common_steps, k, updated)
