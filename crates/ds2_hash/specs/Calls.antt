-- What the calls of hash objects and of their iterators say of what they give.
use Rattle.std.specs.Prelude.{ℕ, Bool, if◌then◌else◌, Option, Some, None, slice_get}
use Rattle.std.specs.List.{IsDistinct}
use Rattle.std.specs.Map.{keys_of}
use Rattle.std.specs.Option.{option_map}
use Rattle.ds2_value.specs.HashList.{HashItems, HashAnswer, IteratorAnswer, Shift, Stays, Closes, done_code, missed_code}
use Rattle.ds2_value.specs.Order.{same_row}
use Rattle.ds2_value.specs.Row.{Row}
use Rattle.ds2_value.specs.declared.value.Value.{Value}

-- the code of a call that did what was asked, or did not
abbrev pub call_code : Bool → Value
call_code done = if done then done_code else missed_code

-- what a call gives that did what was asked, or did not: the items that it leaves, the data that it found, and what becomes of
-- the iterators
abbrev pub answer_of : Bool → HashItems → Option Row → Shift → HashAnswer
answer_of done items copied shift = record { code = call_code done; items = items; copied = copied; shift = shift }

-- what becomes of the iterators where the item at a position was removed, or none was
abbrev pub shift_of_removal : Option ℕ → Shift
shift_of_removal None = Stays
shift_of_removal (Some j) = Closes j

-- the data of the item at a position
abbrev pub data_at : Option ℕ → HashItems → Option Row
data_at None items = None
data_at (Some p) items = option_map (λ item. item.1) (slice_get items p)

-- what a call of an iterator gives that went to an item, or did not: the position where it then stands, and the data of the item
-- to which it went
abbrev pub iteration_of : Bool → Option ℕ → HashItems → IteratorAnswer
iteration_of went position items = record { code = call_code went; position = position; copied = if went then data_at position items else None }

-- no two items have equal keys
abbrev pub HasDistinctKeys : HashItems → Type 0
HasDistinctKeys items = IsDistinct same_row (keys_of items)
