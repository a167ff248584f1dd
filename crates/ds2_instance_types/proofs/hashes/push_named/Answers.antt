use Rattle.std.proofs.Common.{ap}
use Rattle.std.specs.Option.{option_copied}
use Rattle.ds2_names.specs.SourceUnit.{spelled_name}
use Rattle.ds2_instance_types.proofs.HashForms.{known_pushed, none_pushed}
use Rattle.ds2_instance_types.proofs.hashes.push_named.Goals as goal

pub returns-in-None : goal.returns-in-None
returns-in-None c = λ scope h.
    none_pushed scope c.in_ok-spelled.spelled (spelled_name c.args.listed.now) (option_copied c.global_named.result) c.in_ok-spelled.ensures (c.global_named.ensures scope h) c.args.variables.now
    (ap option_copied c.in-None.is)

pub returns : goal.returns
returns c = λ scope h.
    known_pushed scope c.in_ok-spelled.spelled (spelled_name c.args.listed.now) (option_copied c.global_named.result) c.in_ok-spelled.ensures (c.global_named.ensures scope h) c.in-Some.known.now
    c.args.variables.now _ (ap option_copied c.in-Some.is) c.in_ok-push_known-in-Some.ensures
