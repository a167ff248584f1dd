use Rattle.std.proofs.Common.{◌+◌, drop, bytes_eq, nat_eq, not, ap, arith}
use Rattle.std.proofs.lemmas.Grind.{common_steps}
use Rattle.std.proofs.lemmas.Slice.Eq.{bytes_eq-Decides}
use Rattle.std.specs.Cmp.Lexicographic.{pointwise}
use Rattle.std.specs.HashSet.{contains}
use Rattle.ds2_meaning.specs.ProgramTree.{is_listed}
use Rattle.ds2_scope.proofs.SetLemmas.{either_moved}
use Rattle.ds2_aliases.proofs.TestLemmas.{or_false, and_false}
use Rattle.ds2_aliases.proofs.ReachLemmas.{one_entered}
use Rattle.ds2_aliases.proofs.reach.enter.Goals as goal

pub names-preserved : goal.names-preserved
names-preserved c = (
  λ other.
      let k = either_moved (bytes_eq c.name-item.result other) (contains (pointwise nat_eq) c.names.set other) (is_listed (drop (c.names.name-index + 1) c.args.names.now) other) in
      let entered = c.in_ok-enter_one.ensures.set other in
      let before = c.names.invariant.0 other in
      grind (arith, common_steps, k, entered, before),
  λ other.
      let name = c.name-item.result in
      let set = contains (pointwise nat_eq) c.names.set in
      let k = one_entered (is_listed c.names.added other) (set name) (bytes_eq name other) (set other) (is_listed (drop (c.names.name-index + 1) c.args.names.now) other)
      (λ e. ap set ((bytes_eq-Decides name other).0 e)) in
      let entered = c.in_ok-enter_one.ensures.set other in
      let added = c.in_ok-enter_one.ensures.added other in
      let before = c.names.invariant.1 other in
      grind (arith, common_steps, k, entered, added, before),
)

pub returns-clause-set : goal.returns-clause-set
returns-clause-set c = λ other.
    let k = or_false (contains (pointwise nat_eq) c.names.set other) in
    let before = c.names.invariant.0 other in
    grind (arith, common_steps, k, before)

pub returns-clause-added : goal.returns-clause-added
returns-clause-added c = λ other.
    let k = and_false (not (contains (pointwise nat_eq) c.names.set other)) in
    let n = or_false (is_listed c.names.added other) in
    let before = c.names.invariant.1 other in
    grind (arith, common_steps, k, n, before)
