use Rattle.std.proofs.Common.{◌+◌, drop, arith}
use Rattle.std.proofs.lemmas.Grind.{common_steps}
use Rattle.std.specs.Prelude.{nat_eq}
use Rattle.std.specs.Cmp.Lexicographic.{pointwise}
use Rattle.std.specs.HashMap.{get}
use Rattle.ds2_scope.proofs.NamedLemmas.{one_more_first}
use Rattle.ds2_scope.proofs.repeated.first_places.Goals as goal

pub names-preserved : goal.names-preserved
names-preserved c = λ name.
    let k = one_more_first (get (pointwise nat_eq) c.names.firsts name) c.n-item.result (drop (c.names.n-index + 1) c.args.names.now) name in
    let noted = c.in_ok-note.ensures name in
    let before = c.names.invariant name in
    grind (arith, common_steps, k, noted, before)
