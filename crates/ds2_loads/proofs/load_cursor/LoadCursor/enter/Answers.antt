use Rattle.std.proofs.Common.{◌<◌, sym, subst, refl}
use Rattle.ds2_loads.specs.LoadCursors.{HasEntered, group_number}
use Rattle.ds2_loads.specs.declared.load_cursor.LoadCursor.{LoadCursor}
use Rattle.ds2_loads.specs.declared.load_cursor.LoadCursor.TheVariants as cursor
use Rattle.ds2_loads.proofs.CursorSteps.{set_entered, merge_entered, kept_entered}
use Rattle.ds2_loads.proofs.load_cursor.LoadCursor.enter.Goals as goal

pub returns-in-Set : goal.returns-in-Set
returns-in-Set c = λ at.
    let P : LoadCursor → Type 0 = λ s. HasEntered at c.args.g c.set_group-loads.result s (cursor.Set c.seek.new.self) in
    let Q : LoadCursor → Type 0 = λ s. c.args.g < group_number s in
    subst P (sym c.in-Set.is) (set_entered at c.in-Set.cursor c.seek.new.self c.args.g c.set_group-loads.result (subst Q c.in-Set.is c.requires) c.seek.ensures c.set_group-loads.ensures)

pub returns-in-Merge : goal.returns-in-Merge
returns-in-Merge c = λ at.
    let P : LoadCursor → Type 0 = λ s. HasEntered at c.args.g c.merge_group-loads.result s (cursor.Merge c.seek-in-Merge.new.self) in
    let Q : LoadCursor → Type 0 = λ s. c.args.g < group_number s in
    subst P (sym c.in-Merge.is) (merge_entered at c.in-Merge.cursor c.seek-in-Merge.new.self c.args.g c.merge_group-loads.result (subst Q c.in-Merge.is c.requires) c.seek-in-Merge.ensures c.merge_group-loads.ensures)

pub returns-in-Kept : goal.returns-in-Kept
returns-in-Kept c = λ at.
    let P : LoadCursor → Type 0 = λ s. HasEntered at c.args.g 1 s (cursor.Kept (record { loads = c.in-Kept.loads.loads; given = c.args.g })) in
    let Q : LoadCursor → Type 0 = λ s. c.args.g < group_number s in
    subst P (sym c.in-Kept.is) (kept_entered at c.in-Kept.loads (record { loads = c.in-Kept.loads.loads; given = c.args.g }) c.args.g (subst Q c.in-Kept.is c.requires) refl refl)
