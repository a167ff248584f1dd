use Rattle.std.proofs.Common.{List}
use Rattle.ds2_code.specs.declared.parts.ProgramParts.{ProgramParts}
use Rattle.ds2_code.specs.declared.parts.StagedParts.{StagedParts}
use Rattle.ds2_object.specs.MadeTables.{parts_spelled}
use Rattle.ds2_object.specs.ObjectSpelling.{parts_linked}
use Rattle.ds2_object.proofs.MadeLemmas.{first_and_rest, none_behind}
use Rattle.ds2_object.proofs.WalkLemmas.{walk_begun, walk_first, walk_more, walk_broken, walk_done}
use Rattle.ds2_object.proofs.linked.stages_are_made.Goals as goal

pub stages-init : goal.stages-init
stages-init c = walk_begun c.args.made.now (λ (earlier : List StagedParts) (p : ProgramParts). parts_linked earlier p) parts_spelled c.args.stages.now c.requires

pub parts_are_made-requires : goal.parts_are_made-requires
parts_are_made-requires c =
    walk_first c.args.made.now (λ (earlier : List StagedParts) (p : ProgramParts). parts_linked earlier p) parts_spelled c.args.stages.now c.first-item.result c.stages.rest.now _ (first_and_rest c.stages.rest.now c.first-item.result c.in-len1-up.len_at_least c.first-item.is) c.stages.invariant

pub returns-then-not-branch : goal.returns-then-not-branch
returns-then-not-branch c =
    walk_broken c.args.made.now (λ (earlier : List StagedParts) (p : ProgramParts). parts_linked earlier p) parts_spelled c.args.stages.now c.first-item.result c.stages.rest.now _ c.in_ok-parts_are_made.field-0 (first_and_rest c.stages.rest.now c.first-item.result c.in-len1-up.len_at_least c.first-item.is) c.if-not-branch.true c.in_ok-parts_are_made.ensures c.stages.invariant

pub stages-preserved : goal.stages-preserved
stages-preserved c =
    walk_more c.args.made.now (λ (earlier : List StagedParts) (p : ProgramParts). parts_linked earlier p) parts_spelled c.args.stages.now c.first-item.result c.stages.rest.now _ c.in_ok-parts_are_made.field-0 (first_and_rest c.stages.rest.now c.first-item.result c.in-len1-up.len_at_least c.first-item.is) c.if-not-branch.false c.in_ok-parts_are_made.ensures c.stages.invariant

pub returns : goal.returns
returns c = walk_done c.args.made.now (λ (earlier : List StagedParts) (p : ProgramParts). parts_linked earlier p) parts_spelled c.args.stages.now c.stages.rest.now (none_behind c.stages.rest.now c.in_default.len_below) c.stages.invariant
