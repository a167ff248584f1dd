use Rattle.std.proofs.Common.{◌+◌, drop, nat_eq, not, ap, arith}
use Rattle.std.proofs.lemmas.Grind.{common_steps}
use Rattle.std.proofs.lemmas.Slice.Eq.{bytes_eq-Decides}
use Rattle.std.specs.Cmp.Lexicographic.{pointwise}
use Rattle.std.specs.HashSet.{contains}
use Rattle.ds2_meaning.specs.ProgramTree.{is_listed}
use Rattle.ds2_aliases.specs.MethodLinks.{linked}
use Rattle.ds2_aliases.proofs.TestLemmas.{or_false, and_false}
use Rattle.ds2_aliases.proofs.LinkLemmas.{one_more_method}
use Rattle.ds2_aliases.proofs.links.links_of.Goals as goal

pub methods-preserved : goal.methods-preserved
methods-preserved c = λ name method.
    let m = c.m-item.result in
    let seen = contains (pointwise nat_eq) c.methods.seen in
    let k = one_more_method c.args.kind (is_listed (linked c.methods.table name) method) (seen method) (seen m.name) m (drop (c.methods.m-index + 1) c.args.methods.now) name method
    (λ e. ap seen ((bytes_eq-Decides m.name method).0 e)) in
    let noted = c.in_ok-note_method.ensures.table name method in
    let entered = c.in_ok-note_method.ensures.seen method in
    let before = c.methods.invariant name method in
    grind (arith, common_steps, k, noted, entered, before)

pub returns : goal.returns
returns c = λ name method.
    let k = and_false (not (contains (pointwise nat_eq) c.methods.seen method)) in
    let n = or_false (is_listed (linked c.methods.table name) method) in
    let before = c.methods.invariant name method in
    grind (arith, common_steps, k, n, before)
