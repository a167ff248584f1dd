-- Calls of hash objects and iterators by their numbers: the key and the data lie in slots.
use Rattle.std.specs.Prelude.{ℕ, nat_eq, if◌then◌else◌, List, [], ◌∷◌, Option, Some, None, slice_get, slice_set, unwrap_or}
use Rattle.ds2_value.specs.HashList.{HashAnswer, hash_answer, IteratorAnswer, iterator_answer, Shift, shifted}
use Rattle.ds2_value.specs.Row.{Row}
use Rattle.ds2_value.specs.declared.hash_function.HashFunction.{HashFunction}
use Rattle.ds2_value.specs.declared.hash_function.IteratorFunction.{IteratorFunction}
use Rattle.ds2_code.specs.declared.parts.HashPart.{HashPart}
use Rattle.ds2_code.specs.declared.parts.ProgramParts.{ProgramParts}
use Rattle.ds2_code.specs.Desk.{ProgramData, Desk, with_state, pushed, values_of_slots, with_values_in}

-- the slots behind a call that copies an item's data, or does not
abbrev pub with_copied : HashPart → Option Row → Row → Row
with_copied hash None slots = slots
with_copied hash (Some row) slots = with_values_in hash.data_slots row slots

-- where the iterators stand behind a call of hash h, by the hash of each
abbrev pub all_shifted : Shift → ℕ → List ℕ → List (Option ℕ) → List (Option ℕ)
all_shifted shift h [] positions = positions
all_shifted shift h (k ∷ ks) [] = []
all_shifted shift h (k ∷ ks) (p ∷ positions) = (if nat_eq k h then shifted shift p else p) ∷ all_shifted shift h ks positions

-- the program's data behind a call of hash h
abbrev pub after_hash_call : ProgramParts → ℕ → HashPart → HashAnswer → ProgramData → ProgramData
after_hash_call code h hash answer state = record {
  slots = with_copied hash answer.copied state.slots;
  hashes = slice_set state.hashes h answer.items;
  iterators = all_shifted answer.shift h code.iterators state.iterators;
  parameters = state.parameters;
}

-- what hash h answers, by the values of its key and data variables
abbrev pub answer_of_hash : HashFunction → ℕ → HashPart → ProgramData → HashAnswer
answer_of_hash f h hash state =
    hash_answer f (values_of_slots hash.key_slots state.slots) (values_of_slots hash.data_slots state.slots) (unwrap_or (slice_get state.hashes h) [])

-- a call of hash h leaves its code; none where there is no such hash
abbrev pub hash_called : ProgramParts → HashFunction → ℕ → Option HashPart → Desk → Option Desk
hash_called code f h None d = None
hash_called code f h (Some hash) d =
    let answer = answer_of_hash f h hash d.state in Some (pushed answer.code (with_state (after_hash_call code h hash answer d.state) d))

-- the program's data behind a call of iterator i
abbrev pub after_iterator_call : ℕ → HashPart → IteratorAnswer → ProgramData → ProgramData
after_iterator_call i hash answer state = record {
  slots = with_copied hash answer.copied state.slots;
  hashes = state.hashes;
  iterators = slice_set state.iterators i answer.position;
  parameters = state.parameters;
}

-- what iterator i of hash h answers
abbrev pub answer_of_iterator : IteratorFunction → ℕ → ℕ → ProgramData → IteratorAnswer
answer_of_iterator f i h state = iterator_answer f (unwrap_or (slice_get state.hashes h) []) (unwrap_or (slice_get state.iterators i) None)

-- a call of iterator i of a hash leaves its code; none where there is no such hash
abbrev pub iterator_moved : IteratorFunction → ℕ → ℕ → Option HashPart → Desk → Option Desk
iterator_moved f i h None d = None
iterator_moved f i h (Some hash) d =
    let answer = answer_of_iterator f i h d.state in Some (pushed answer.code (with_state (after_iterator_call i hash answer d.state) d))

-- a call of iterator i leaves its code; none where there is no such iterator
abbrev pub iterator_called : ProgramParts → IteratorFunction → ℕ → Option ℕ → Desk → Option Desk
iterator_called code f i None d = None
iterator_called code f i (Some h) d = iterator_moved f i h (slice_get code.hashes h) d
