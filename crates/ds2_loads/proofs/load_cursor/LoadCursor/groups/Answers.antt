use Rattle.std.proofs.Common.{length, sym, ap, ◌∙◌}
use Rattle.ds2_loads.specs.LoadCursors.{cursor_groups}
use Rattle.ds2_loads.specs.declared.load_cursor.LoadCursor.{LoadCursor}
use Rattle.ds2_loads.proofs.CursorSteps.{as_many_parts}
use Rattle.ds2_loads.proofs.load_cursor.LoadCursor.groups.Goals as goal

pub returns-in-Set : goal.returns-in-Set
returns-in-Set c = λ at. c.groups.ensures ∙ sym (as_many_parts at c.in-Set.cursor) ∙ ap (λ (s : LoadCursor). length (cursor_groups at s)) (sym c.in-Set.is)

pub returns-in-Merge : goal.returns-in-Merge
returns-in-Merge c = λ at. c.groups-in-Merge.ensures ∙ sym (as_many_parts at c.in-Merge.cursor) ∙ ap (λ (s : LoadCursor). length (cursor_groups at s)) (sym c.in-Merge.is)
