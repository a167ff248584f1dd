-- Cursors over the loads of either statement.
use Rattle.ds2_reading.specs.CursorState.{Cursor}
use Rattle.ds2_layer_cases.specs.declared.loads.cursor.LoadCursor.{LoadCursor}
use Rattle.ds2_layer_cases.specs.declared.loads.cursor.LoadCursor.TheVariants.{Set, Merge}

-- what stands for a cursor, of whichever statement
abbrev pub cursor_in : LoadCursor → Cursor
cursor_in (Set cursor) = cursor
cursor_in (Merge cursor) = cursor
