use Rattle.std.proofs.Common.{◌≡◌, Some, arith}
use Rattle.std.proofs.lemmas.Grind.{common_steps}
use Rattle.std.specs.Prelude.{nat_eq}
use Rattle.std.specs.Cmp.Lexicographic.{pointwise}
use Rattle.std.specs.HashMap.{get}
use Rattle.ds2_scope.specs.Earliest.{earlier_of}
use Rattle.ds2_scope.proofs.NamedLemmas.{one_more_noted}
use Rattle.ds2_scope.proofs.repeated.note.Goals as goal

pub returns : goal.returns
returns c = λ name.
    let n = c.args.n.now in
    let h : Some c.earlier-first.result ≡ earlier_of (get (pointwise nat_eq) c.args.firsts.now n.name) (Some n.place) = grind (arith, common_steps) in
    let k = one_more_noted (get (pointwise nat_eq) c.args.firsts.now) n c.earlier-first.result name h in
    let updated = c.in_ok-insert.ensures.updates name in
    grind (arith, common_steps, k, updated)
