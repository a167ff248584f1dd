use Rattle.std.proofs.Common.{bytes_eq}
use Rattle.ds2_layout.proofs.LayoutLemmas.{more_known, all_known}
use Rattle.ds2_layout.proofs.names.add_names.Goals as goal

pub names-preserved : goal.names-preserved
names-preserved c = λ other.
    more_known (λ name. bytes_eq name other) c.args.names.now c.names.name-index c.name-item.result c.names-test.true c.name-item.is _ _ _ (c.in_ok-add_name.ensures other) (c.names.invariant other)

pub returns : goal.returns
returns c = λ other.
    all_known (λ name. bytes_eq name other) c.args.names.now c.names.name-index c.names-test.false _ _ (c.names.invariant other)
