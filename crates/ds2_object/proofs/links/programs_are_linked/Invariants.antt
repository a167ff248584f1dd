use Rattle.std.proofs.Common.{◌≡◌, [], take, drop}
use Rattle.ds2_object.specs.ObjectSpelling.{linked_behind}
use Rattle.ds2_object.proofs.links.programs_are_linked.Given as goal

abbrev pub invariant-programs : goal.invariant-programs
invariant-programs l = linked_behind (take l.i l.programs) (drop l.i l.programs) ≡ linked_behind [] l.programs
