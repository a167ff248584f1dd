use Rattle.std.proofs.Common.{◌+◌, drop, arith}
use Rattle.std.proofs.lemmas.Grind.{common_steps}
use Rattle.std.specs.Prelude.{nat_eq}
use Rattle.std.specs.Cmp.Lexicographic.{pointwise}
use Rattle.std.specs.HashMap.{get}
use Rattle.ds2_given_names.proofs.OutputLemmas.{one_more_option}
use Rattle.ds2_scope.proofs.TableLemmas.{or_none}
use Rattle.ds2_given_names.proofs.renamed.new_names.Goals as goal

pub options-preserved : goal.options-preserved
options-preserved c = λ name.
    let k = one_more_option (get (pointwise nat_eq) c.options.news name) c.option-item.result (drop (c.options.option-index + 1) c.args.options.now) name in
    let noted = c.in_ok-note_option.ensures name in
    let before = c.options.invariant name in
    grind (arith, common_steps, k, noted, before)

pub returns : goal.returns
returns c = λ name.
    let k = or_none (get (pointwise nat_eq) c.options.news name) in
    let before = c.options.invariant name in
    grind (arith, common_steps, k, before)
