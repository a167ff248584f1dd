use Rattle.std.proofs.Common.{◌≤◌, Option, length, sym, subst}
use Rattle.ds2_reading.specs.declared.load.Load.{Load as LoadInCode}
use Rattle.ds2_loads.specs.LoadCursors.{IsCursorOver, HasGivenNext, load_gone_to, tables_by_row}
use Rattle.ds2_loads.specs.declared.load_cursor.LoadCursor.{LoadCursor}
use Rattle.ds2_loads.specs.declared.load_cursor.LoadCursor.TheVariants as cursor
use Rattle.ds2_loads.proofs.CursorSteps.{rows_next, set_walked, merge_walked, set_next, merge_next, kept_next}
use Rattle.ds2_loads.proofs.load_cursor.LoadCursor.next_load.Goals as goal

pub next_row-requires : goal.next_row-requires
next_row-requires c = let Q : LoadCursor → Type 0 = λ s. tables_by_row (length c.args.reads.now) s ≤ 16 in subst Q c.in-Rows.is c.requires

pub returns-in-Rows : goal.returns-in-Rows
returns-in-Rows c = λ at tables reads over.
    let given = load_gone_to c.next_row.result c.next_row.new.load in
    let P : LoadCursor → Type 0 = λ s. HasGivenNext at given s (cursor.Rows c.next_row.new.place) in
    let Q : LoadCursor → Type 0 = λ s. IsCursorOver at.reading.now s in
    subst P (sym c.in-Rows.is) (rows_next at c.args.tables.now c.args.reads.now tables reads c.in-Rows.place c.next_row.new.place (subst Q c.in-Rows.is over) given c.next_row.ensures)

pub returns-in-SetWalk : goal.returns-in-SetWalk
returns-in-SetWalk c = λ at tables reads over.
    let P : LoadCursor → Type 0 = λ s. HasGivenNext at c.next_load.result s (cursor.SetWalk c.next_load.new.self) in
    let R : Option LoadInCode → Type 0 = λ given. HasGivenNext at given c.args.self.now (cursor.SetWalk c.next_load.new.self) in
    let Q : LoadCursor → Type 0 = λ s. IsCursorOver at.reading.now s in
    subst R (sym c.put.ensures)
    (subst P (sym c.in-SetWalk.is) (set_walked at c.in-SetWalk.walk c.next_load.new.self c.next_load.ensures.left c.next_load.result c.next_load.ensures.load (subst Q c.in-SetWalk.is over)))

pub returns-in-MergeWalk : goal.returns-in-MergeWalk
returns-in-MergeWalk c = λ at tables reads over.
    let P : LoadCursor → Type 0 = λ s. HasGivenNext at c.next_load-in-MergeWalk.result s (cursor.MergeWalk c.next_load-in-MergeWalk.new.self) in
    let R : Option LoadInCode → Type 0 = λ given. HasGivenNext at given c.args.self.now (cursor.MergeWalk c.next_load-in-MergeWalk.new.self) in
    let Q : LoadCursor → Type 0 = λ s. IsCursorOver at.reading.now s in
    subst R (sym c.put-in-MergeWalk.ensures)
    (subst P (sym c.in-MergeWalk.is)
    (merge_walked at c.in-MergeWalk.walk c.next_load-in-MergeWalk.new.self c.next_load-in-MergeWalk.ensures.left c.next_load-in-MergeWalk.result c.next_load-in-MergeWalk.ensures.load (subst Q c.in-MergeWalk.is over)))

pub returns-in-Set : goal.returns-in-Set
returns-in-Set c = λ at tables reads over.
    let P : LoadCursor → Type 0 = λ s. HasGivenNext at c.next_load-in-Set.result s (cursor.Set c.next_load-in-Set.new.self) in
    let R : Option LoadInCode → Type 0 = λ given. HasGivenNext at given c.args.self.now (cursor.Set c.next_load-in-Set.new.self) in
    let Q : LoadCursor → Type 0 = λ s. IsCursorOver at.reading.now s in
    subst R (sym c.put-in-Set.ensures)
    (subst P (sym c.in-Set.is)
    (set_next at c.in-Set.cursor c.next_load-in-Set.new.self c.next_load-in-Set.ensures.left c.next_load-in-Set.result c.next_load-in-Set.ensures.load (subst Q c.in-Set.is over)))

pub returns-in-Merge : goal.returns-in-Merge
returns-in-Merge c = λ at tables reads over.
    let P : LoadCursor → Type 0 = λ s. HasGivenNext at c.next_load-in-Merge.result s (cursor.Merge c.next_load-in-Merge.new.self) in
    let R : Option LoadInCode → Type 0 = λ given. HasGivenNext at given c.args.self.now (cursor.Merge c.next_load-in-Merge.new.self) in
    let Q : LoadCursor → Type 0 = λ s. IsCursorOver at.reading.now s in
    subst R (sym c.put-in-Merge.ensures)
    (subst P (sym c.in-Merge.is)
    (merge_next at c.in-Merge.cursor c.next_load-in-Merge.new.self c.next_load-in-Merge.ensures.left c.next_load-in-Merge.result c.next_load-in-Merge.ensures.load (subst Q c.in-Merge.is over)))

pub returns-in-Kept : goal.returns-in-Kept
returns-in-Kept c = λ at tables reads over.
    let P : LoadCursor → Type 0 = λ s. HasGivenNext at c.next_load-in-Kept.result s (cursor.Kept c.next_load-in-Kept.new.self) in
    let R : Option LoadInCode → Type 0 = λ given. HasGivenNext at given c.args.self.now (cursor.Kept c.next_load-in-Kept.new.self) in
    subst R (sym c.put-in-Kept.ensures)
    (subst P (sym c.in-Kept.is) (kept_next at c.in-Kept.loads c.next_load-in-Kept.new.self c.next_load-in-Kept.ensures.loads c.next_load-in-Kept.result c.next_load-in-Kept.ensures.next))
