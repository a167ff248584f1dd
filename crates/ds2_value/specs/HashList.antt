-- Hash objects and their iterators: a hash object is the list of its items in order of insertion, an iterator a position in it.
use Rattle.std.specs.Prelude.{ℕ, zero, suc, ◌+◌, Bool, true, false, nat_lt, if◌then◌else◌, List, [], ◌∷◌, ◌++◌, length, slice_get, Option, Some, None, pos}
use Rattle.std.specs.Option.{option_map}
use Rattle.ds2_value.specs.Order.{same_row}
use Rattle.ds2_value.specs.Row.{Row}
use Rattle.ds2_value.specs.declared.hash_function.HashFunction.{HashFunction}
use Rattle.ds2_value.specs.declared.hash_function.HashFunction.TheVariants as hash
use Rattle.ds2_value.specs.declared.hash_function.IteratorFunction.{IteratorFunction}
use Rattle.ds2_value.specs.declared.hash_function.IteratorFunction.TheVariants as iterator
use Rattle.ds2_value.specs.declared.value.Value.{Value}
use Rattle.ds2_value.specs.declared.value.Value.TheVariants.{Int}

-- an item: its key row and its data row
abbrev pub HashItem : Type 0
HashItem = Row × Row

-- the items of a hash object, the first inserted one first
abbrev pub HashItems : Type 0
HashItems = List HashItem

-- the data of the item with a key
abbrev pub item_data : Row → HashItems → Option Row
item_data key [] = None
item_data key (item ∷ items) = if same_row item.0 key then Some item.1 else item_data key items

-- the position of the item with a key
abbrev pub item_position : Row → HashItems → Option ℕ
item_position key [] = None
item_position key (item ∷ items) = if same_row item.0 key then Some 0 else option_map (λ i. suc i) (item_position key items)

-- a present key keeps its place and its key row and gets other data; an absent one goes last
abbrev pub with_replaced : Row → Row → HashItems → HashItems
with_replaced key row [] = (key, row) ∷ []
with_replaced key row (item ∷ items) = if same_row item.0 key then (item.0, row) ∷ items else item ∷ with_replaced key row items

-- the items without that with a key; the others keep their order
abbrev pub without_item : Row → HashItems → HashItems
without_item key [] = []
without_item key (item ∷ items) = if same_row item.0 key then items else item ∷ without_item key items

-- the position before another one, where there is one
abbrev pub before_position : ℕ → Option ℕ
before_position zero = None
before_position (suc p) = Some p

-- where an iterator stands after the item at j was removed: as before in front of j, else one lower, from the first item nowhere
abbrev pub after_removal : ℕ → Option ℕ → Option ℕ
after_removal j None = None
after_removal j (Some p) = if nat_lt p j then Some p else before_position p

-- the position of the first of n items
abbrev pub first_position : ℕ → Option ℕ
first_position zero = None
first_position (suc n) = Some 0

-- the position of the last of n items
abbrev pub last_position : ℕ → Option ℕ
last_position n = before_position n

-- the position of the next of n items; from nowhere that of the first
abbrev pub next_position : ℕ → Option ℕ → Option ℕ
next_position n None = first_position n
next_position n (Some p) = if nat_lt (p + 1) n then Some (p + 1) else None

-- the position of the item before, among n; from nowhere that of the last
abbrev pub prev_position : ℕ → Option ℕ → Option ℕ
prev_position n None = last_position n
prev_position n (Some p) = before_position p

-- what a call does to the positions of a hash object's iterators: nothing, the item at a position is gone, or all items are
pub data Shift : Type 0 where
  Stays : Shift
  Closes : (removed : ℕ) → Shift
  Empties : Shift

-- where an iterator stands behind a call that does this
abbrev pub shifted : Shift → Option ℕ → Option ℕ
shifted Stays position = position
shifted (Closes j) position = after_removal j position
shifted Empties position = None

-- the code of a call that did what was asked
abbrev pub done_code : Value
done_code = Int (pos 0)

-- the code of a call that did not, as its key is missing or, for `add`, present, or as an iterator has no item to go to
abbrev pub missed_code : Value
missed_code = Int (pos 1)

-- what a call of a hash object gives: its code, the items behind it, the data that go into the data variables, and what
-- becomes of its iterators
pub record HashAnswer : Type 0 where
  pub code : Value
  pub items : HashItems
  pub copied : Option Row
  pub shift : Shift

-- a call that changes nothing and gives this code
abbrev pub only_code : Value → HashItems → HashAnswer
only_code code items = record { code = code; items = items; copied = None; shift = Stays }

-- `find`: the data of the item with the key, where it is there
abbrev pub found_item : Option Row → HashItems → HashAnswer
found_item None items = only_code missed_code items
found_item (Some row) items = record { code = done_code; items = items; copied = Some row; shift = Stays }

-- `check`: whether the item is there
abbrev pub checked_item : Option Row → HashItems → HashAnswer
checked_item None items = only_code missed_code items
checked_item (Some row) items = only_code done_code items

-- `add`: an item goes last where its key is absent; where it is present nothing changes
abbrev pub added_item : Option Row → Row → Row → HashItems → HashAnswer
added_item None key row items = only_code done_code (items ++ (key, row) ∷ [])
added_item (Some present) key row items = only_code missed_code items

-- `remove`: the item with the key goes, and the iterators behind it come one lower
abbrev pub removed_item : Option ℕ → Row → HashItems → HashAnswer
removed_item None key items = only_code missed_code items
removed_item (Some j) key items = record { code = done_code; items = without_item key items; copied = None; shift = Closes j }

-- a call of a hash object whose key and data variables have these values
abbrev pub hash_answer : HashFunction → Row → Row → HashItems → HashAnswer
hash_answer hash.Find key row items = found_item (item_data key items) items
hash_answer hash.Check key row items = checked_item (item_data key items) items
hash_answer hash.Add key row items = added_item (item_data key items) key row items
hash_answer hash.Replace key row items = only_code done_code (with_replaced key row items)
hash_answer hash.Remove key row items = removed_item (item_position key items) key items
hash_answer hash.Clear key row items = record { code = done_code; items = []; copied = None; shift = Empties }
hash_answer hash.NumItems key row items = only_code (Int (pos (length items))) items

-- what a call of an iterator gives: its code, where it stands behind it, and the data that go into the data variables
pub record IteratorAnswer : Type 0 where
  pub code : Value
  pub position : Option ℕ
  pub copied : Option Row

-- where a call of an iterator goes that stands somewhere in n items; none where there is no such item
abbrev pub position_sought : IteratorFunction → ℕ → Option ℕ → Option ℕ
position_sought iterator.First n position = first_position n
position_sought iterator.Next n position = next_position n position
position_sought iterator.Prev n position = prev_position n position
position_sought iterator.Last n position = last_position n

-- the item at a position, where one is sought
abbrev pub item_sought : Option ℕ → HashItems → Option (ℕ × HashItem)
item_sought None items = None
item_sought (Some p) items = option_map (λ item. (p, item)) (slice_get items p)

-- an iterator goes to an item, whose data are copied; where there is none it stays where it was
abbrev pub gone_to : Option (ℕ × HashItem) → Option ℕ → IteratorAnswer
gone_to None position = record { code = missed_code; position = position; copied = None }
gone_to (Some found) position = record { code = done_code; position = Some found.0; copied = Some found.1.1 }

-- a call of an iterator that stands somewhere in these items
abbrev pub iterator_answer : IteratorFunction → HashItems → Option ℕ → IteratorAnswer
iterator_answer f items position = gone_to (item_sought (position_sought f (length items) position) items) position
