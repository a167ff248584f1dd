use Rattle.std.proofs.Common.{◌+◌, drop, bytes_eq, arith}
use Rattle.std.proofs.lemmas.Grind.{common_steps}
use Rattle.ds2_meaning.specs.ProgramTree.{is_listed}
use Rattle.ds2_aliases.specs.MethodLinks.{linked}
use Rattle.ds2_aliases.proofs.TestLemmas.{or_false, and_false}
use Rattle.ds2_aliases.proofs.LinkLemmas.{one_more_link}
use Rattle.ds2_aliases.proofs.links.link_all.Goals as goal

pub names-preserved : goal.names-preserved
names-preserved c = λ other m.
    let k = one_more_link (is_listed (linked c.names.table other) m) (bytes_eq c.args.method.now m) (bytes_eq c.name-item.result other) (is_listed (drop (c.names.name-index + 1) c.args.names.now) other) in
    let linked_one = c.in_ok-link.ensures other m in
    let before = c.names.invariant other m in
    grind (arith, common_steps, k, linked_one, before)

pub returns : goal.returns
returns c = λ other m.
    let k = and_false (bytes_eq c.args.method.now m) in
    let n = or_false (is_listed (linked c.names.table other) m) in
    let before = c.names.invariant other m in
    grind (arith, common_steps, k, n, before)
