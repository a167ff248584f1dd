use Rattle.std.proofs.Common.{List, ◌++◌, map, drop, ap, ◌∙◌}
use Rattle.ds2_table.specs.Loads.{KeyedLoad}
use Rattle.ds2_reading.specs.CursorState.{Cursor}
use Rattle.ds2_reading.specs.LoadMeaning.{load_meaning}
use Rattle.ds2_reading.specs.declared.load.Load.{Load as LoadInCode}
use Rattle.ds2_loads.proofs.OpenCursors.{kept_more, kept_all}
use Rattle.ds2_loads.proofs.kept_loads.kept_walk.Goals as goal

pub loads-preserved : goal.loads-preserved
loads-preserved c =
    let first = c.args.walk in
    let after = c.next_load.new.self in
    let left = c.next_load.ensures.left in
    let so_far = c.loads.invariant in (
      ap (λ (loads : List LoadInCode). map (load_meaning first.tables first.bys) loads ++ map (λ (l : KeyedLoad). l.load) (drop after.given after.loads)) c.in_ok-push.ensures.ok
          ∙ kept_more first c.loads.walk after so_far.1 so_far.2 left c.loads.loads c.in-Some.load c.next_load.result c.next_load.ensures.load c.in-Some.is so_far.0,
      ap (λ (x : Cursor). x.tables) left ∙ so_far.1,
      ap (λ (x : Cursor). x.bys) left ∙ so_far.2,
    )

pub returns : goal.returns
returns c = kept_all c.args.walk c.loads.walk c.loads.loads c.next_load.result c.next_load.ensures.load c.in_default.is c.loads.invariant.0
