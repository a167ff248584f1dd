-- What calls of hash objects answer, from the clauses of their parts.
use Rattle.std.proofs.Common.{◌≡◌, ℕ, zero, suc, Bool, true, false, List, [], ◌∷◌, Option, Some, None, refl, sym, ap, ◌∙◌, subst}
use Rattle.std.specs.Prelude.{slice_get, slice_set, unwrap_or}
use Rattle.ds2_value.specs.HashList.{HashItem, HashItems, HashAnswer, IteratorAnswer, iterator_answer, Shift, Stays}
use Rattle.ds2_value.specs.Row.{Row}
use Rattle.ds2_value.specs.declared.hash_function.HashFunction.{HashFunction}
use Rattle.ds2_value.specs.declared.hash_function.IteratorFunction.{IteratorFunction}
use Rattle.ds2_value.specs.declared.value.Value.{Value}
use Rattle.ds2_hash.specs.Calls.{call_code, answer_of, data_at, iteration_of}
use Rattle.ds2_code.specs.declared.parts.HashPart.{HashPart}
use Rattle.ds2_code.specs.Desk.{with_values_in}
use Rattle.ds2_code.specs.HashCalls.{with_copied, all_shifted}
use Rattle.ds2_slots.specs.declared.objects.HashObjects.{HashObjects}
use Rattle.ds2_slots.specs.declared.shift.HashShift.{HashShift}
use Rattle.ds2_slots.specs.declared.shift.HashShift.TheVariants as shift
use Rattle.ds2_slots.specs.SlotHashes.{meaning_of_shift, answer_by_slots, answer_without_data, HasGivenAnswer, HasCalledHash, HasMovedHiter}

-- a call that copies no data
pub unchanged : (part : HashPart) (slots : Row) (items : HashItems) (given : Value) (s : Shift) (answer : HashAnswer) → answer ≡ answer_without_data given items s → HasGivenAnswer part slots slots items given s answer
unchanged part slots items given s answer e = record {
  gives = ap (λ (a : HashAnswer). a.code) (sym e);
  copies = ap (λ (a : HashAnswer). with_copied part a.copied slots) (sym e);
  leaves = ap (λ (a : HashAnswer). a.items) (sym e);
  shifts = ap (λ (a : HashAnswer). a.shift) (sym e);
}

-- an item that was not found
pub not_found : (part : HashPart) (slots : Row) (items : HashItems) (given : Value) (t : HashShift) (answer : HashAnswer)
    → answer ≡ answer_of false items None Stays → given ≡ call_code false → t ≡ shift.Stays → HasGivenAnswer part slots slots items given (meaning_of_shift t) answer
not_found part slots items given t answer e g s = record {
  gives = g ∙ ap (λ (a : HashAnswer). a.code) (sym e);
  copies = ap (λ (a : HashAnswer). with_copied part a.copied slots) (sym e);
  leaves = ap (λ (a : HashAnswer). a.items) (sym e);
  shifts = ap meaning_of_shift s ∙ ap (λ (a : HashAnswer). a.shift) (sym e);
}

-- one that was found, whose data were copied
pub found : (part : HashPart) (before after row : Row) (items : HashItems) (given : Value) (t : HashShift) (answer : HashAnswer)
    → answer ≡ answer_of true items (Some row) Stays → given ≡ call_code true → t ≡ shift.Stays → after ≡ with_values_in part.data_slots row before
    → HasGivenAnswer part before after items given (meaning_of_shift t) answer
found part before after row items given t answer e g s w = record {
  gives = g ∙ ap (λ (a : HashAnswer). a.code) (sym e);
  copies = w ∙ ap (λ (a : HashAnswer). with_copied part a.copied before) (sym e);
  leaves = ap (λ (a : HashAnswer). a.items) (sym e);
  shifts = ap meaning_of_shift s ∙ ap (λ (a : HashAnswer). a.shift) (sym e);
}

pub ruleset finding = (not_found, found)

set_twice : {A : Type 0} (xs : List A) (n : ℕ) (a b : A) → slice_set (slice_set xs n a) n b ≡ slice_set xs n b
set_twice [] n a b = refl
set_twice (x ∷ xs) zero a b = refl
set_twice (x ∷ xs) (suc n) a b = ap (λ z. x ∷ z) (set_twice xs n a b)

-- an object that was taken out, called and put back
pub called : (f : HashFunction) (number : ℕ) (part : HashPart) (walked : List ℕ) (before after : Row) (objects now : HashObjects) (given : Value) (s : Shift) (old new : HashItems)
    → old ≡ unwrap_or (slice_get objects.hashes number) [] → HasGivenAnswer part before after new given s (answer_by_slots f part before old)
    → now.hashes ≡ slice_set (slice_set objects.hashes number []) number new → now.iterators ≡ all_shifted s number walked objects.iterators
    → HasCalledHash f number part walked before after objects now given
called f number part walked before after objects now given s old new taken answers hashes iterators =
    let a = subst (λ (z : HashItems). HasGivenAnswer part before after new given s (answer_by_slots f part before z)) taken answers in
    record {
      gives = a.gives;
      copies = a.copies;
      leaves = hashes ∙ set_twice objects.hashes number [] new ∙ ap (λ (z : HashItems). slice_set objects.hashes number z) a.leaves;
      shifts = iterators ∙ ap (λ (z : Shift). all_shifted z number walked objects.iterators) a.shifts;
    }

-- an iterator that went, or did not
pub moved : (f : IteratorFunction) (number object : ℕ) (part : HashPart) (before after : Row) (objects now : HashObjects) (went : Bool) (items : HashItems) (from to : Option ℕ)
    → items ≡ unwrap_or (slice_get objects.hashes object) [] → from ≡ unwrap_or (slice_get objects.iterators number) None → iterator_answer f items from ≡ iteration_of went to items
    → after ≡ with_copied part (iteration_of went to items).copied before → now ≡ record { hashes = objects.hashes; iterators = slice_set objects.iterators number to }
    → HasMovedHiter f number object part before after objects now (call_code went)
moved f number object part before after objects now went items from to at stood goes copies stands =
    let e : iterator_answer f (unwrap_or (slice_get objects.hashes object) []) (unwrap_or (slice_get objects.iterators number) None) ≡ iteration_of went to items =
    ap (λ (z : HashItems). iterator_answer f z (unwrap_or (slice_get objects.iterators number) None)) (sym at) ∙ ap (λ (z : Option ℕ). iterator_answer f items z) (sym stood) ∙ goes in
    record {
      gives = ap (λ (a : IteratorAnswer). a.code) (sym e);
      copies = copies ∙ ap (λ (a : IteratorAnswer). with_copied part a.copied before) (sym e);
      leaves = stands ∙ ap (λ (a : IteratorAnswer). record { hashes = objects.hashes; iterators = slice_set objects.iterators number a.position }) (sym e);
    }

pub no_data : (part : HashPart) (items : HashItems) (p : ℕ) (slots : Row) → None ≡ slice_get items p → slots ≡ with_copied part (data_at (Some p) items) slots
no_data part [] p slots h = refl
no_data part (x ∷ items) zero slots h = absurd cc
no_data part (x ∷ items) (suc p) slots h = no_data part items p slots h

pub data_there : (part : HashPart) (items : HashItems) (p : ℕ) (slots : Row) (item : HashItem) → Some item ≡ slice_get items p → with_values_in part.data_slots item.1 slots ≡ with_copied part (data_at (Some p) items) slots
data_there part [] p slots item h = absurd cc
data_there part (x ∷ items) zero slots item h = let same : item ≡ x = cc in ap (λ (z : HashItem). with_values_in part.data_slots z.1 slots) same
data_there part (x ∷ items) (suc p) slots item h = data_there part items p slots item h

pub ruleset copying = (no_data, data_there)
