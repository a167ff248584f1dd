use Rattle.ds2_tree.specs.UnitViews.{source_tree}
use Rattle.ds2_resolve.proofs.before.UnitsBefore.of_source.Goals as goal

pub returns : goal.returns
returns c = c.new.ensures (source_tree c.args.source.now) c.args.source.now.counted
