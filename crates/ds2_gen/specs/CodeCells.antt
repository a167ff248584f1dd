-- Where code keeps what a unit names, and when what it keeps is a state of the meaning.
use Rattle.std.specs.Prelude.{◌≡◌, ℕ, ◌<◌, ◌≤◌, Bool, true, false, bytes_eq, List, Option, Some, slice_get}
use Rattle.ds2_value.specs.Row.{Row}
use Rattle.ds2_value.specs.declared.value.Value.{Value}
use Rattle.ds2_meaning.specs.declared.location.Reference.{Reference}
use Rattle.ds2_meaning.specs.declared.location.Reference.TheVariants.{At, Local}
use Rattle.ds2_meaning.specs.Location.{Home, Location, is_same_location, Content, Holds, Storage, held, items_held, position_held}
use Rattle.ds2_meaning.specs.RunState.{Locals, RunState}
use Rattle.ds2_code.specs.Desk.{ProgramData, Desk}

-- what the code of a body reads and sets: a location, or a parameter or local of the body by its name
pub data Nameable : Type 0 where
  GlobalAt : Location → Nameable
  LocalNamed : List ℕ → Nameable

-- whether two of these are one
abbrev pub is_same_nameable : Nameable → Nameable → Bool
is_same_nameable (GlobalAt a) (GlobalAt b) = is_same_location a b
is_same_nameable (LocalNamed a) (LocalNamed b) = bytes_eq a b
is_same_nameable _ _ = false

-- what a reference in the code of a home names
abbrev pub nameable_of : Home → Reference → Nameable
nameable_of home (At global) = GlobalAt (record { home = home; global = global })
nameable_of home (Local name) = LocalNamed name

-- what is kept under it
abbrev pub content_of : Nameable → Storage → Locals → Content
content_of (GlobalAt at) storage locals = storage at
content_of (LocalNamed name) storage locals = Holds (locals name)

-- where code keeps something: a global slot, a local of the frame, a hash object, an iterator, a parameter for the thread program
pub data CodeCell : Type 0 where
  SlotCell : ℕ → CodeCell
  LocalCell : ℕ → CodeCell
  HashCell : ℕ → CodeCell
  IteratorCell : ℕ → CodeCell
  ParameterCell : ℕ → CodeCell

-- all that the code of a frame keeps: the frame's locals and the program's data
pub record Cells : Type 0 where
  pub locals : Row
  pub state : ProgramData

-- what a desk keeps below its operands
abbrev pub kept_on : Desk → Cells
kept_on d = record { locals = d.locals; state = d.state }

-- a desk with these operands above what is kept
abbrev pub desk_of : Row → Cells → Desk
desk_of stack cells = record { stack = stack; locals = cells.locals; state = cells.state }

-- a cell has this content
abbrev pub CellHas : CodeCell → Content → Cells → Type 0
CellHas (SlotCell n) c d = slice_get d.state.slots n ≡ Some (held c)
CellHas (LocalCell n) c d = slice_get d.locals n ≡ Some (held c)
CellHas (HashCell n) c d = slice_get d.state.hashes n ≡ Some (items_held c)
CellHas (IteratorCell n) c d = slice_get d.state.iterators n ≡ Some (position_held c)
CellHas (ParameterCell n) c d = slice_get d.state.parameters n ≡ Some (held c)

-- a cell is alike before and behind a piece of code
abbrev pub IsSameCell : CodeCell → Cells → Cells → Type 0
IsSameCell (SlotCell n) d e = slice_get d.state.slots n ≡ slice_get e.state.slots n
IsSameCell (LocalCell n) d e = slice_get d.locals n ≡ slice_get e.locals n
IsSameCell (HashCell n) d e = slice_get d.state.hashes n ≡ slice_get e.state.hashes n
IsSameCell (IteratorCell n) d e = slice_get d.state.iterators n ≡ slice_get e.state.iterators n
IsSameCell (ParameterCell n) d e = slice_get d.state.parameters n ≡ slice_get e.state.parameters n

-- a cell holds a value that instructions load and store
abbrev pub IsValueCell : CodeCell → Type 0
IsValueCell (SlotCell n) = Unit {0}
IsValueCell (LocalCell n) = Unit {0}
IsValueCell _ = ⊥

-- the cells of the code of a body: one for each thing that it names, one for each value that the code itself keeps, by their
-- numbers, and which cells code that keeps values from a number on leaves as they are
pub record Placement : Type 0 where
  pub cell : Nameable → Option CodeCell
  pub kept_cell : ℕ → CodeCell
  pub kept_count : ℕ
  pub is_reserved : ℕ → CodeCell → Bool

-- two things have two cells, and no cell of a thing is reserved; the cell of a kept value is reserved for code that keeps values from
-- a higher number on, and not from a lower one on; what is reserved stays so for higher numbers
pub record IsPlacement (p : Placement) : Type 0 where
  pub apart : (x y : Nameable) (c : CodeCell) → p.cell x ≡ Some c → p.cell y ≡ Some c → is_same_nameable x y ≡ true
  pub unreserved : (x : Nameable) (c : CodeCell) (kept : ℕ) → p.cell x ≡ Some c → p.is_reserved kept c ≡ false
  pub values : (n : ℕ) → n < p.kept_count → IsValueCell (p.kept_cell n)
  pub behind : (n kept : ℕ) → n < p.kept_count → n < kept → p.is_reserved kept (p.kept_cell n) ≡ true
  pub ahead : (n kept : ℕ) → n < p.kept_count → kept ≤ n → p.is_reserved kept (p.kept_cell n) ≡ false
  pub grows : (kept more : ℕ) (c : CodeCell) → kept ≤ more → p.is_reserved kept c ≡ true → p.is_reserved more c ≡ true

-- a kept value is this one
abbrev pub KeptIs : Placement → ℕ → Value → Cells → Type 0
KeptIs p n v d = CellHas (p.kept_cell n) (Holds v) d

-- there is room for each kept value
abbrev pub HasKeptRoom : Placement → Cells → Type 0
HasKeptRoom p d = (n : ℕ) → n < p.kept_count → (v : Value) × KeptIs p n v d

-- the cells hold a state of the meaning: each has what is kept under its name, and there is room for the values that the code keeps
abbrev pub HoldState : Placement → RunState → Cells → Type 0
HoldState p w d = ((x : Nameable) (c : CodeCell) → p.cell x ≡ Some c → CellHas c (content_of x w.storage w.locals) d) × HasKeptRoom p d

-- the cells that are reserved from this number on are alike
abbrev pub LeaveReserved : Placement → ℕ → Cells → Cells → Type 0
LeaveReserved p kept d e = (c : CodeCell) → p.is_reserved kept c ≡ true → IsSameCell c d e
