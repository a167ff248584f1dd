use Rattle.std.proofs.Common.{refl, arith}
use Rattle.ds2_instance_types.specs.HashDeclarations.{load_rules}
use Rattle.ds2_instance_types.proofs.HashForms.{rules_more, rules_whole}
use Rattle.ds2_instance_types.proofs.hashes.clash_of_variables.Goals as goal

pub names-init : goal.names-init
names-init c = λ scope h. refl

pub names-preserved : goal.names-preserved
names-preserved c = λ scope h.
    rules_more (load_rules c.args.columns.now scope c.args.text) c.args.names.now c.names.n-index c.n-item.result c.names.found c.in_ok-own.own _ (omega arith) c.n-item.is
    (c.names.invariant scope h) (c.in_ok-own.ensures scope h) c.lesser-found.ensures

pub returns : goal.returns
returns c = λ scope h.
    rules_whole (load_rules c.args.columns.now scope c.args.text) c.args.names.now c.names.n-index c.names.found (omega arith) (c.names.invariant scope h)
