use Rattle.std.proofs.Common.{◌||◌, ap, ◌∙◌, bytes_eq, nat_eq, arith}
use Rattle.std.proofs.lemmas.Grind.{common_steps}
use Rattle.std.specs.Cmp.Lexicographic.{pointwise}
use Rattle.std.specs.HashMap.{get}
use Rattle.ds2_meaning.specs.ProgramTree.{is_listed}
use Rattle.ds2_aliases.specs.MethodLinks.{linked}
use Rattle.ds2_aliases.proofs.LinkLemmas.{one_link}
use Rattle.ds2_aliases.proofs.links.link.Goals as goal

pub returns : goal.returns
returns c = λ other m.
    let method = c.args.method.now in
    let put = c.in_ok-insert.ensures.updates other in
    one_link (linked c.args.table.now) c.args.name.now method other m (get (pointwise nat_eq) c.take_linked-methods.new.table other) (get (pointwise nat_eq) c.insert.new.self other) c.push_method.new.methods
    (λ x. c.in_ok-push_method.ensures x ∙ ap (λ ms. is_listed ms x || bytes_eq method x) c.take_linked-methods.ensures.taken) (c.take_linked-methods.ensures.others other) (grind (arith, common_steps, put))
