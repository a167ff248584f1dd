use Rattle.std.proofs.Common.{◌≡◌, Some, nat_eq, subst, sym, ◌∙◌, arith}
use Rattle.std.proofs.lemmas.Grind.{common_steps}
use Rattle.std.specs.Cmp.Lexicographic.{pointwise}
use Rattle.std.specs.HashMap.{get}
use Rattle.ds2_aliases.specs.ReachedNames.{HasReaching}
use Rattle.ds2_aliases.proofs.ReachLemmas.{one_more_reached}
use Rattle.ds2_aliases.proofs.reach.is_reached.Goals as goal

pub returns-in-Some-clause-answer : goal.returns-in-Some-clause-answer
returns-in-Some-clause-answer c = λ unit are has.
    let name = c.args.name.now in
    let found : Some c.in-Some.set.now ≡ get (pointwise nat_eq) c.args.reached.now name = grind (arith, common_steps) in
    c.contains.ensures ∙ (subst (λ o. HasReaching unit name o) (sym found) (has name)) c.args.method.now

pub returns-in-Some-clause-table : goal.returns-in-Some-clause-table
returns-in-Some-clause-table c = λ unit are has. has

pub returns-clause-answer : goal.returns-clause-answer
returns-clause-answer c = λ unit are has. c.contains-answer.ensures ∙ c.in_ok-set.ensures unit are c.args.method.now

pub returns-clause-table : goal.returns-clause-table
returns-clause-table c = λ unit are has. λ other.
    let name = c.args.name.now in
    let put = c.in_ok-insert.ensures.updates other in
    one_more_reached unit name other c.in_ok-set.set (get (pointwise nat_eq) c.args.reached.now other) (get (pointwise nat_eq) c.insert.new.self other)
    (λ method. c.in_ok-set.ensures unit are method) (has other) (grind (arith, common_steps, put))
