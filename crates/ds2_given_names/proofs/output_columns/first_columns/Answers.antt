use Rattle.std.proofs.Common.{◌+◌, drop, arith}
use Rattle.std.proofs.lemmas.Grind.{common_steps}
use Rattle.std.specs.Prelude.{nat_eq}
use Rattle.std.specs.Cmp.Lexicographic.{pointwise}
use Rattle.std.specs.HashMap.{get}
use Rattle.ds2_given_names.proofs.OutputLemmas.{one_more_new, first_new_none}
use Rattle.ds2_given_names.proofs.output_columns.first_columns.Goals as goal

pub columns-preserved : goal.columns-preserved
columns-preserved c = λ name.
    let k = one_more_new (get (pointwise nat_eq) c.columns.firsts name) c.n-item.result (drop (c.columns.n-index + 1) c.args.columns.now) name in
    let noted = c.in_ok-note_column.ensures name in
    let before = c.columns.invariant name in
    grind (arith, common_steps, k, noted, before)

pub returns : goal.returns
returns c = λ name.
    let k = first_new_none (get (pointwise nat_eq) c.columns.firsts name) in
    let before = c.columns.invariant name in
    grind (arith, common_steps, k, before)
