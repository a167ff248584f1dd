use Rattle.std.proofs.Common.{nat_eq, bytes_eq}
use Rattle.std.specs.Cmp.Lexicographic.{pointwise}
use Rattle.std.specs.HashMap.{get}
use Rattle.ds2_aliases.proofs.LinkLemmas.{linked_taken}
use Rattle.ds2_aliases.proofs.links.take_linked.Goals as goal

pub returns-in-None-clause-others : goal.returns-in-None-clause-others
returns-in-None-clause-others c = λ other. linked_taken (bytes_eq c.args.name.now other) (get (pointwise nat_eq) c.args.table.now other) (get (pointwise nat_eq) c.remove.new.self other) (c.remove.ensures.updates other)

pub returns-in-Some-clause-others : goal.returns-in-Some-clause-others
returns-in-Some-clause-others c = λ other. linked_taken (bytes_eq c.args.name.now other) (get (pointwise nat_eq) c.args.table.now other) (get (pointwise nat_eq) c.remove.new.self other) (c.remove.ensures.updates other)
