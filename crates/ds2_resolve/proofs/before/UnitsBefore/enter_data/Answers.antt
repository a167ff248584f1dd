use Rattle.std.proofs.Common.{◌+◌, refl, ◌∙◌}
use Rattle.std.specs.Prelude.{if◌then◌else◌}
use Rattle.ds2_tree.specs.UnitViews.{data_tree}
use Rattle.ds2_resolve.specs.TableMakers.{maker_in, makes_table}
use Rattle.ds2_resolve.proofs.BeforeLemmas.{data_behind}
use Rattle.ds2_resolve.proofs.before.UnitsBefore.enter_data.Goals as goal

pub returns : goal.returns
returns c = λ tables units kept.
    data_behind c.args.self.now _ units (data_tree c.args.program.now) tables kept refl refl c.in_ok-count.ensures
    (λ name.
    c.in_ok-note_outputs.ensures name
    ∙ (λ i. if makes_table (c.as_slice.ensures i) name then c.in_ok-count.ensures i else maker_in c.args.self.now.makers name))
    refl refl refl
