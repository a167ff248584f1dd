-- Values of slots, one after the other.
use Rattle.std.proofs.Common.{◌≡◌, ℕ, zero, suc, ◌+◌, ◌<◌, List, [], ◌∷◌, ◌++◌, Some, None, length, take, drop, get_or, refl, ap, ◌∙◌, add-one, arith}
use Rattle.std.specs.Prelude.{slice_get, slice_set}
use Rattle.ds2_value.specs.Value.{or_null}
use Rattle.ds2_value.specs.declared.value.Value.{Value}
use Rattle.ds2_code.specs.Desk.{values_of_slots, with_values_in}

values_more : (ns : List ℕ) (slots : List Value) (i d : ℕ) → i < length ns → values_of_slots (take (suc i) ns) slots ≡ values_of_slots (take i ns) slots ++ or_null (slice_get slots (get_or ns i d)) ∷ []
values_more [] slots i d h = absurd (omega (arith, h))
values_more (n ∷ ns) slots zero d h = refl
values_more (n ∷ ns) slots (suc i) d h = ap (λ z. or_null (slice_get slots n) ∷ z) (values_more ns slots i d (omega arith))

pub values_next : (ns : List ℕ) (slots : List Value) (i : ℕ) → i < length ns → values_of_slots (take (i + 1) ns) slots ≡ values_of_slots (take i ns) slots ++ or_null (slice_get slots (get_or ns i 0)) ∷ []
values_next ns slots i h = ap (λ k. values_of_slots (take k ns) slots) (add-one i) ∙ values_more ns slots i 0 h

set_nothing : (ns : List ℕ) (slots : List Value) → with_values_in ns [] slots ≡ slots
set_nothing [] slots = refl
set_nothing (n ∷ ns) slots = refl

pub set_end : (ns : List ℕ) (values slots : List Value) (i : ℕ) → slice_get values i ≡ None → with_values_in (drop i ns) (drop i values) slots ≡ slots
set_end [] [] slots zero h = refl
set_end (n ∷ ns) [] slots zero h = refl
set_end ns (v ∷ values) slots zero h = absurd cc
set_end [] [] slots (suc i) h = refl
set_end (n ∷ ns) [] slots (suc i) h = set_nothing (drop i ns) slots
set_end [] (v ∷ values) slots (suc i) h = refl
set_end (n ∷ ns) (v ∷ values) slots (suc i) h = set_end ns values slots i h

set_more : (ns : List ℕ) (values slots : List Value) (i n : ℕ) (v : Value) → slice_get ns i ≡ Some n → slice_get values i ≡ Some v
    → with_values_in (drop i ns) (drop i values) slots ≡ with_values_in (drop (suc i) ns) (drop (suc i) values) (slice_set slots n v)
set_more [] values slots i n v h k = absurd cc
set_more (m ∷ ns) [] slots i n v h k = absurd cc
set_more (m ∷ ns) (w ∷ values) slots zero n v h k =
    let same_number : m ≡ n = cc in
    let same : w ≡ v = cc in
    ap (λ (x : ℕ). with_values_in ns values (slice_set slots x w)) same_number ∙ ap (λ (x : Value). with_values_in ns values (slice_set slots n x)) same
set_more (m ∷ ns) (w ∷ values) slots (suc i) n v h k = set_more ns values slots i n v h k

pub set_next : (ns : List ℕ) (values slots : List Value) (i n : ℕ) (v : Value) → slice_get ns i ≡ Some n → slice_get values i ≡ Some v
    → with_values_in (drop i ns) (drop i values) slots ≡ with_values_in (drop (i + 1) ns) (drop (i + 1) values) (slice_set slots n v)
set_next ns values slots i n v h k = rw (add-one i) (set_more ns values slots i n v h k)

pub ruleset setting = (set_end, set_next)
