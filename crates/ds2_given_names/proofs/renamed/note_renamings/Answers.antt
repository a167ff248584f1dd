use Rattle.std.proofs.Common.{◌+◌, drop, arith}
use Rattle.std.proofs.lemmas.Grind.{common_steps}
use Rattle.std.specs.Prelude.{nat_eq}
use Rattle.std.specs.Cmp.Lexicographic.{pointwise}
use Rattle.std.specs.HashMap.{get}
use Rattle.ds2_given_names.proofs.OutputLemmas.{one_more_renaming}
use Rattle.ds2_scope.proofs.TableLemmas.{or_none}
use Rattle.ds2_given_names.proofs.renamed.note_renamings.Goals as goal

pub renamings-preserved : goal.renamings-preserved
renamings-preserved c = λ name.
    let k = one_more_renaming (get (pointwise nat_eq) c.renamings.news name) c.r-item.result (drop (c.renamings.r-index + 1) c.args.renamings.now) name in
    let noted = c.in_ok-note_renaming.ensures name in
    let before = c.renamings.invariant name in
    grind (arith, common_steps, k, noted, before)

pub returns : goal.returns
returns c = λ name.
    let k = or_none (get (pointwise nat_eq) c.renamings.news name) in
    let before = c.renamings.invariant name in
    grind (arith, common_steps, k, before)
