-- Hash objects whose key and data variables are slots.
use Rattle.std.specs.Prelude.{◌≡◌, ℕ, zero, suc, Bool, true, false, List, [], ◌∷◌, Option, None, slice_get, slice_set, unwrap_or}
use Rattle.ds2_value.specs.HashList.{HashItems, HashAnswer, hash_answer, IteratorAnswer, iterator_answer, Shift, Stays, Closes, Empties, shifted}
use Rattle.ds2_value.specs.Row.{Row}
use Rattle.ds2_value.specs.declared.hash_function.HashFunction.{HashFunction}
use Rattle.ds2_value.specs.declared.hash_function.IteratorFunction.{IteratorFunction}
use Rattle.ds2_value.specs.declared.value.Value.{Value}
use Rattle.ds2_code.specs.declared.parts.HashPart.{HashPart}
use Rattle.ds2_code.specs.Desk.{values_of_slots}
use Rattle.ds2_code.specs.HashCalls.{with_copied, all_shifted}
use Rattle.ds2_slots.specs.declared.objects.HashObjects.{HashObjects}
use Rattle.ds2_slots.specs.declared.shift.HashShift.{HashShift}
use Rattle.ds2_slots.specs.declared.shift.HashShift.TheVariants as shift

-- what becomes of iterators, in the words of the meaning of calls
abbrev pub meaning_of_shift : HashShift → Shift
meaning_of_shift shift.Stays = Stays
meaning_of_shift (shift.Closes j) = Closes j
meaning_of_shift shift.Empties = Empties

-- the positions with that of this iterator shifted
abbrev pub with_one_shifted : Shift → ℕ → List (Option ℕ) → List (Option ℕ)
with_one_shifted s n [] = []
with_one_shifted s zero (p ∷ positions) = shifted s p ∷ positions
with_one_shifted s (suc n) (p ∷ positions) = p ∷ with_one_shifted s n positions

-- the same where the iterator walks the object that was called
abbrev pub with_shifted_where : Bool → Shift → ℕ → List (Option ℕ) → List (Option ℕ)
with_shifted_where true s n positions = with_one_shifted s n positions
with_shifted_where false s n positions = positions

-- what a call of an object answers, by the values in the slots of its variables
abbrev pub answer_by_slots : HashFunction → HashPart → Row → HashItems → HashAnswer
answer_by_slots f part slots items = hash_answer f (values_of_slots part.key_slots slots) (values_of_slots part.data_slots slots) items

-- an answer that copies no data
abbrev pub answer_without_data : Value → HashItems → Shift → HashAnswer
answer_without_data given items s = record { code = given; items = items; copied = None; shift = s }

-- a call left what it answers: its code, the slots, the items and what becomes of iterators
pub record HasGivenAnswer (part : HashPart) (before after : Row) (items : HashItems) (given : Value) (s : Shift) (answer : HashAnswer) : Type 0 where
  pub gives : given ≡ answer.code
  pub copies : after ≡ with_copied part answer.copied before
  pub leaves : items ≡ answer.items
  pub shifts : s ≡ answer.shift

-- what object `number` answers
abbrev pub answer_of_object : HashFunction → ℕ → HashPart → Row → HashObjects → HashAnswer
answer_of_object f number part slots objects = answer_by_slots f part slots (unwrap_or (slice_get objects.hashes number) [])

-- a call of object `number` gave its code, and left slots, objects and iterators as the meaning of the call says
pub record HasCalledHash (f : HashFunction) (number : ℕ) (part : HashPart) (walked : List ℕ) (before after : Row) (objects now : HashObjects) (given : Value) : Type 0 where
  pub gives : given ≡ (answer_of_object f number part before objects).code
  pub copies : after ≡ with_copied part (answer_of_object f number part before objects).copied before
  pub leaves : now.hashes ≡ slice_set objects.hashes number (answer_of_object f number part before objects).items
  pub shifts : now.iterators ≡ all_shifted (answer_of_object f number part before objects).shift number walked objects.iterators

-- what iterator `number` of an object answers
abbrev pub answer_of_hiter : IteratorFunction → ℕ → ℕ → HashObjects → IteratorAnswer
answer_of_hiter f number object objects = iterator_answer f (unwrap_or (slice_get objects.hashes object) []) (unwrap_or (slice_get objects.iterators number) None)

-- a call of iterator `number` of an object gave its code, and left slots and iterators as the meaning of the call says
pub record HasMovedHiter (f : IteratorFunction) (number object : ℕ) (part : HashPart) (before after : Row) (objects now : HashObjects) (given : Value) : Type 0 where
  pub gives : given ≡ (answer_of_hiter f number object objects).code
  pub copies : after ≡ with_copied part (answer_of_hiter f number object objects).copied before
  pub leaves : now ≡ record { hashes = objects.hashes; iterators = slice_set objects.iterators number (answer_of_hiter f number object objects).position }
