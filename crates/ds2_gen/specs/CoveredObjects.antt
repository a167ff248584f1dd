-- Which hash objects and iterators code can call: those whose parts are those of the program's.
use Rattle.std.specs.Prelude.{◌≡◌, IsTrue, ℕ, nat_eq, Bool, false, ◌&&◌, ◌||◌, bytes_eq, List, [], ◌∷◌, map, slice_get, Some}
use Rattle.ds2_meaning.specs.declared.hashes.DeclaredHash.{DeclaredHash}
use Rattle.ds2_meaning.specs.declared.hashes.DeclaredIterator.{DeclaredIterator}
use Rattle.ds2_meaning.specs.declared.hashes.HashVariable.{HashVariable}
use Rattle.ds2_meaning.specs.declared.location.Reference.TheVariants.{At}
use Rattle.ds2_meaning.specs.HashObjects.{hash_named, iterator_named, object_at}
use Rattle.ds2_meaning.specs.IsTyped.{are_distinct}
use Rattle.ds2_meaning.specs.Location.{Home, Location, is_same_location}
use Rattle.ds2_code.specs.declared.parts.HashPart.{HashPart}
use Rattle.ds2_code.specs.declared.parts.ProgramParts.{ProgramParts}
use Rattle.ds2_gen.specs.CodeCells.{Nameable, GlobalAt, LocalNamed, CodeCell, SlotCell, HashCell, IteratorCell}
use Rattle.ds2_gen.specs.ExpressionCode.{CodeNumbers, cell_of, object_cell}

-- these slots are those of the variables of a hash object, in order
abbrev pub AreVariableSlots : CodeNumbers → List HashVariable → List ℕ → Type 0
AreVariableSlots numbers [] [] = Unit {0}
AreVariableSlots numbers (v ∷ variables) (n ∷ slots) = (cell_of numbers (At v.global) ≡ Some (SlotCell n)) × AreVariableSlots numbers variables slots
AreVariableSlots numbers _ _ = ⊥

-- the names of iterators
abbrev pub iterator_names : List DeclaredIterator → List (List ℕ)
iterator_names iterators = map (λ (i : DeclaredIterator). i.name) iterators

-- a location is that of an iterator of a home that walks the hash object of this name
abbrev pub is_walking : Home → (hash : List ℕ) → List DeclaredIterator → Location → Bool
is_walking home hash [] at = false
is_walking home hash (i ∷ iterators) at = (is_same_location at (object_at home i.name) && bytes_eq i.hash hash) || is_walking home hash iterators at

-- what code names is an iterator of its home that walks the hash object of this name
abbrev pub walks_hash : CodeNumbers → (hash : List ℕ) → Nameable → Bool
walks_hash numbers hash (GlobalAt at) = is_walking numbers.home hash numbers.objects.iterators at
walks_hash numbers hash (LocalNamed name) = false

-- a cell is that of an iterator of the code that walks the hash object of a number, where that is so
abbrev pub IsWalker : ProgramParts → ℕ → CodeCell → Bool → Type 0
IsWalker code number (IteratorCell n) walks = (walked : ℕ) × (slice_get code.iterators n ≡ Some walked) × (nat_eq walked number ≡ walks)
IsWalker code number _ walks = walks ≡ false

-- the code's iterators of a hash object are those that walk it, and no iterator is reserved
pub record IteratorsFit (code : ProgramParts) (numbers : CodeNumbers) (hash : List ℕ) (number : ℕ) : Type 0 where
  pub distinct : IsTrue (are_distinct (iterator_names numbers.objects.iterators))
  pub walking : (x : Nameable) (c : CodeCell) → numbers.placement.cell x ≡ Some c → IsWalker code number c (walks_hash numbers hash x)
  pub unreserved : (kept n : ℕ) → numbers.placement.is_reserved kept (IteratorCell n) ≡ false

-- a hash object is there, has its number, and in the code the slots of its variables
pub record HasHash (code : ProgramParts) (numbers : CodeNumbers) (name : List ℕ) : Type 0 where
  pub declared : DeclaredHash
  pub number : ℕ
  pub part : HashPart
  pub meant : hash_named numbers.objects.hashes name ≡ Some declared
  pub placed : object_cell numbers name ≡ Some (HashCell number)
  pub coded : slice_get code.hashes number ≡ Some part
  pub key_slots : AreVariableSlots numbers declared.key_variables part.key_slots
  pub data_slots : AreVariableSlots numbers declared.data_variables part.data_slots
  pub iterators : IteratorsFit code numbers name number

-- an iterator is there with the hash object that it walks, both have their numbers, and the hash object its slots
pub record HasIterator (code : ProgramParts) (numbers : CodeNumbers) (name : List ℕ) : Type 0 where
  pub declared : DeclaredIterator
  pub hash : DeclaredHash
  pub number : ℕ
  pub hash_number : ℕ
  pub part : HashPart
  pub meant : iterator_named numbers.objects.iterators name ≡ Some declared
  pub hash_meant : hash_named numbers.objects.hashes declared.hash ≡ Some hash
  pub placed : object_cell numbers name ≡ Some (IteratorCell number)
  pub hash_placed : object_cell numbers declared.hash ≡ Some (HashCell hash_number)
  pub coded : slice_get code.iterators number ≡ Some hash_number
  pub hash_coded : slice_get code.hashes hash_number ≡ Some part
  pub data_slots : AreVariableSlots numbers hash.data_variables part.data_slots
