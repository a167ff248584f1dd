-- What `run` of a program's code leaves as it is: what no instruction changes that can be reached from its entry, and no load sets.
use Rattle.std.specs.List.{list_any, AllByRecursion}
use Rattle.std.specs.Option.{option_map_or}
use Rattle.std.specs.Prelude.{◌≡◌, ◌≤◌, ◌⊎◌, ℕ, zero, suc, ◌+◌, nat_eq, Bool, true, false, ◌&&◌, Option, Some, None, slice_get}
use Rattle.ds2_value.specs.Progress.{Progress, Completed}
use Rattle.ds2_value.specs.declared.fault.TheConstants.{CALL_DEPTH}
use Rattle.ds2_value.specs.declared.hash_function.HashFunction.{HashFunction}
use Rattle.ds2_value.specs.declared.hash_function.HashFunction.TheVariants as hash
use Rattle.ds2_value.specs.declared.value.Value.{Value}
use Rattle.ds2_code.specs.declared.instr.Instr.{Instr}
use Rattle.ds2_code.specs.declared.parts.HashPart.{HashPart}
use Rattle.ds2_code.specs.declared.parts.MethodPart.{MethodPart}
use Rattle.ds2_code.specs.declared.parts.ProgramParts.{ProgramParts}
use Rattle.ds2_code.specs.declared.parts.Slot.{Slot}
use Rattle.ds2_code.specs.declared.parts.SlotRole.{SlotRole}
use Rattle.ds2_code.specs.declared.parts.SlotRole.TheVariants.{Cleared, Kept, Column, Flag}
use Rattle.ds2_code.specs.CodeBound.{falls_through, jump_target}
use Rattle.ds2_code.specs.CodeUnit.{code_run}
use Rattle.ds2_code.specs.Desk.{ProgramData, SlotSettings, StoreTarget, IntoSlot, IntoParameter}
use Rattle.ds2_code.specs.InstructionTable.{Kind, Stores, CallsHash, CallsIterator, Enters, kind_of}

-- ---- locations

-- where a program's code keeps something from one unit to the next: a slot, a hash object, an iterator, or a parameter for the thread program
-- that it reads from
pub data DataLocation : Type 0 where
  SlotAt : ℕ → DataLocation
  HashAt : ℕ → DataLocation
  IteratorAt : ℕ → DataLocation
  ParameterAt : ℕ → DataLocation

-- data hold the same at a location
abbrev pub HoldSame : DataLocation → ProgramData → ProgramData → Type 0
HoldSame (SlotAt n) d e = slice_get d.slots n ≡ slice_get e.slots n
HoldSame (HashAt n) d e = slice_get d.hashes n ≡ slice_get e.hashes n
HoldSame (IteratorAt n) d e = slice_get d.iterators n ≡ slice_get e.iterators n
HoldSame (ParameterAt n) d e = slice_get d.parameters n ≡ slice_get e.parameters n

-- ---- what an instruction changes

-- a store changes the slot or the parameter that it stores into; a local of a method is no location of the data
abbrev pub store_changes : StoreTarget → DataLocation → Bool
store_changes (IntoSlot n) (SlotAt m) = nat_eq m n
store_changes (IntoParameter n) (ParameterAt m) = nat_eq m n
store_changes _ _ = false

-- a call of a hash object copies data into its data variables
abbrev pub copies_data : HashFunction → Bool
copies_data hash.Find = true
copies_data _ = false

-- a call of a hash object changes its items, and with them where the iterators over it stand
abbrev pub changes_items : HashFunction → Bool
changes_items hash.Find = false
changes_items hash.Check = false
changes_items hash.NumItems = false
changes_items hash.Add = true
changes_items hash.Replace = true
changes_items hash.Remove = true
changes_items hash.Clear = true

-- a slot is that of a data variable of a hash object, where there is one
abbrev pub is_data_slot : Option HashPart → ℕ → Bool
is_data_slot None n = false
is_data_slot (Some part) n = list_any (nat_eq n) part.data_slots

-- an iterator is over hash object h, where there is such an iterator
abbrev pub is_over : ℕ → Option ℕ → Bool
is_over h None = false
is_over h (Some over) = nat_eq over h

-- a call of hash object h changes its data variables, or its items and where the iterators over it stand
abbrev pub hash_call_changes : ProgramParts → HashFunction → ℕ → DataLocation → Bool
hash_call_changes code f h (SlotAt n) = copies_data f && is_data_slot (slice_get code.hashes h) n
hash_call_changes code f h (HashAt n) = changes_items f && nat_eq n h
hash_call_changes code f h (IteratorAt n) = changes_items f && is_over h (slice_get code.iterators n)
hash_call_changes code f h (ParameterAt n) = false

-- the hash object that an iterator is over
abbrev pub hash_walked : ProgramParts → Option ℕ → Option HashPart
hash_walked code None = None
hash_walked code (Some h) = slice_get code.hashes h

-- a call of iterator i changes where it stands, and the data variables of its hash object
abbrev pub iterator_call_changes : ProgramParts → ℕ → DataLocation → Bool
iterator_call_changes code i (SlotAt n) = is_data_slot (hash_walked code (slice_get code.iterators i)) n
iterator_call_changes code i (HashAt n) = false
iterator_call_changes code i (IteratorAt n) = nat_eq n i
iterator_call_changes code i (ParameterAt n) = false

-- an instruction of this kind changes a location: it stores there, or calls a hash object or an iterator that changes it
abbrev pub kind_changes : ProgramParts → Kind → DataLocation → Bool
kind_changes code (Stores target) at = store_changes target at
kind_changes code (CallsHash f h) at = hash_call_changes code f h at
kind_changes code (CallsIterator f i) at = iterator_call_changes code i at
kind_changes code _ at = false

-- ---- what can be reached

-- from an instruction a run goes on in the same body: at the next one, behind a call too, or at the target of a jump
pub record GoesTo (code : ProgramParts) (at to : ℕ) : Type 0 where
  pub instr : Instr
  pub here : slice_get code.instrs at ≡ Some instr
  pub goes : ((falls_through (kind_of instr) ≡ true) × (to ≡ at + 1)) ⊎ (jump_target (kind_of instr) ≡ Some to)

-- an instruction calls the method that begins there
pub record CallsTo (code : ProgramParts) (at to : ℕ) : Type 0 where
  pub instr : Instr
  pub here : slice_get code.instrs at ≡ Some instr
  pub number : ℕ
  pub calls : kind_of instr ≡ Enters number
  pub method : MethodPart
  pub listed : slice_get code.methods number ≡ Some method
  pub begins : method.entry ≡ to

-- an instruction is reached so many instructions on from an entry, with so many calls under way: from the one before a run goes on to it in the
-- same body, or calls the method that begins there
abbrev pub IsReachedIn : ProgramParts → (entry steps calls at : ℕ) → Type 0
IsReachedIn code entry zero calls at = (calls ≡ 0) × (at ≡ entry)
IsReachedIn code entry (suc n) calls at =
    (before : ℕ) × ((IsReachedIn code entry n calls before × GoesTo code before at) ⊎ ((outer : ℕ) × (calls ≡ suc outer) × IsReachedIn code entry n outer before × CallsTo code before at))

-- an instruction can be reached from an entry, with no more calls under way than there may be
abbrev pub CanBeReached : ProgramParts → (entry at : ℕ) → Type 0
CanBeReached code entry at = (steps calls : ℕ) × (calls ≤ CALL_DEPTH) × IsReachedIn code entry steps calls at

-- no instruction that can be reached from an entry changes a location
abbrev pub IsUnchangedFrom : ProgramParts → ℕ → DataLocation → Type 0
IsUnchangedFrom code entry location =
    (at : ℕ) (i : Instr) → CanBeReached code entry at → slice_get code.instrs at ≡ Some i → kind_changes code (kind_of i) location ≡ false

-- ---- what is fixed

-- a slot of this role is no column or flag of the reading statement, and `run` does not set it to null
abbrev pub is_kept_role : SlotRole → Bool
is_kept_role Kept = true
is_kept_role Cleared = false
is_kept_role Column = false
is_kept_role Flag = false

-- what a location holds stays from one load to the next, but for what instructions do
abbrev pub is_kept_in_code : ProgramParts → DataLocation → Bool
is_kept_in_code code (SlotAt n) = option_map_or (λ (slot : Slot). is_kept_role slot.role) (slice_get code.slots n) false
is_kept_in_code code _ = true

-- a location is fixed in code where it is kept from one load to the next, and no instruction that can be reached from the entry of `run`
-- changes it
pub record IsFixedInCode (code : ProgramParts) (location : DataLocation) : Type 0 where
  pub kept : is_kept_in_code code location ≡ true
  pub unchanged : IsUnchangedFrom code code.run location

-- a load sets slots of columns and flags alone
abbrev pub SetsNoKeptSlot : ProgramParts → SlotSettings → Type 0
SetsNoKeptSlot code load = AllByRecursion (λ (set : ℕ × Value). is_kept_in_code code (SlotAt set.0) ≡ false) load

-- `run` of any code on such a load, where it ends normally, leaves each location as it was that is fixed in the code
abbrev pub RunsLeaveFixedInCode : Type 0
RunsLeaveFixedInCode =
    (code : ProgramParts) (budget : ℕ) (load : SlotSettings) (before after : ProgramData) (unit : Progress) (executed : ℕ) (location : DataLocation) → IsFixedInCode code location
    → SetsNoKeptSlot code load → code_run code budget load before ≡ Completed after unit executed → HoldSame location before after
