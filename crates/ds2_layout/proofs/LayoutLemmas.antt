-- Names that are known so far, numbers that are given so far, and slots in order.
use Rattle.std.proofs.Common.{◌≡◌, ℕ, suc, ◌+◌, ◌<◌, ◌≤◌, Bool, true, false, cond, List, [], ◌∷◌, ◌++◌, length, get_or, drop, map, Option, Some, None, refl, sym, ap, ◌∙◌, add-one, drop_of_length-le}
use Rattle.std.specs.Prelude.{◌||◌, position, unwrap_or}
use Rattle.std.specs.List.{list_any, position_from}
use Rattle.std.proofs.Math.Seq.{drop-cons}
use Rattle.std.proofs.lemmas.Iterator.Adapters.{position_from-zero}
use Rattle.ds2_meaning.specs.declared.methods.SystemMethod.{SystemMethod}
use Rattle.ds2_meaning.specs.declared.globals.OutputTable.{OutputTable}
use Rattle.ds2_meaning.specs.declared.globals.Variable.{Variable}
use Rattle.ds2_meaning.specs.declared.readings.Reading.{Reading}
use Rattle.ds2_meaning.specs.declared.readings.Reading.TheVariants as reading
use Rattle.ds2_meaning.specs.Reading.{inputs_of, bys_of, is_column}
use Rattle.ds2_meaning.specs.ProgramTree.{sources, UnitTree, ProgramTree, reader_of}
use Rattle.ds2_meaning.specs.View.{reading_with_run, over_stage}
use Rattle.ds2_layout.specs.declared.slot.LayoutSlot.{LayoutSlot}
use Rattle.ds2_layout.specs.declared.slot.Layout.{Layout}
use Rattle.ds2_layout.specs.Layout.{slot_at, projection}
use Rattle.ds2_layout.specs.SlotSearch.{earlier_number, own_variable, projection_by, vector_slot_by}

-- these slots with these projections
abbrev pub made_layout : List LayoutSlot → List (List ℕ) → Layout
made_layout slots projections = record { slots = slots; projections = projections }

or_moved : (a b c : Bool) → (b || (a || c)) ≡ ((a || b) || c)
or_moved true true c = refl
or_moved true false c = refl
or_moved false true c = refl
or_moved false false c = refl

-- one more item is known: those left and those known give the same as before
pub more_known : {A : Type 0} (p : A → Bool) (xs : List A) (i : ℕ) (x : A) → i < length xs → x ≡ get_or xs i x → (known more want : Bool) → more ≡ (p x || known)
    → (list_any p (drop i xs) || known) ≡ want → (list_any p (drop (i + 1) xs) || more) ≡ want
more_known p xs i x lt here known more want is before =
    let left = list_any p (drop (suc i) xs) in
    ap (λ k. list_any p (drop k xs) || more) (add-one i)
    ∙ ap (λ b. left || b) is
    ∙ or_moved (p x) left known
    ∙ ap (λ y. (p y || left) || known) here
    ∙ ap (λ l. list_any p l || known) (sym (drop-cons xs i x lt))
    ∙ before

-- no item is left: those known are all
pub all_known : {A : Type 0} (p : A → Bool) (xs : List A) (i : ℕ) → length xs ≤ i → (known want : Bool) → (list_any p (drop i xs) || known) ≡ want → known ≡ want
all_known p xs i past known want before =
    ap (λ l. list_any p l || known) (sym (drop_of_length-le xs past)) ∙ before

pub earlier_none : (n : Option ℕ) → earlier_number n None ≡ n
earlier_none None = refl
earlier_none (Some n) = refl

earlier_in_order : (n : Option ℕ) (b : Bool) (at : ℕ) (later : Option ℕ) → earlier_number (earlier_number n (cond b (Some at) None)) later ≡ earlier_number n (cond b (Some at) later)
earlier_in_order None true at later = refl
earlier_in_order None false at later = refl
earlier_in_order (Some n) b at later = refl

-- one more item has its number: the numbers given and those still to come give the same as before
pub more_numbered : {A : Type 0} (p : A → Bool) (xs : List A) (i at : ℕ) (x : A) → i < length xs → x ≡ get_or xs i x → (given more want : Option ℕ)
    → more ≡ earlier_number given (cond (p x) (Some at) None) → earlier_number given (position_from p at (drop i xs)) ≡ want
    → earlier_number more (position_from p (at + 1) (drop (i + 1) xs)) ≡ want
more_numbered p xs i at x lt here given more want is before =
    let later = position_from p (at + 1) (drop (suc i) xs) in
    ap (λ k. earlier_number more (position_from p (at + 1) (drop k xs))) (add-one i)
    ∙ ap (λ n. earlier_number n later) is
    ∙ earlier_in_order given (p x) at later
    ∙ ap (λ y. earlier_number given (cond (p y) (Some at) later)) here
    ∙ ap (λ l. earlier_number given (position_from p at l)) (sym (drop-cons xs i x lt))
    ∙ before

-- no item is left: the numbers given are all
pub all_numbered : {A : Type 0} (p : A → Bool) (xs : List A) (i at : ℕ) → length xs ≤ i → (given want : Option ℕ)
    → earlier_number given (position_from p at (drop i xs)) ≡ want → given ≡ want
all_numbered p xs i at past given want before =
    sym (earlier_none given) ∙ ap (λ l. earlier_number given (position_from p at l)) (sym (drop_of_length-le xs past)) ∙ before

-- the numbers still to come at first
pub none_numbered : {A : Type 0} (p : A → Bool) (xs : List A) → earlier_number None (position_from p 0 xs) ≡ position p xs
none_numbered p xs = sym (position_from-zero p xs)

-- ---- what is read where there is `run`

pub inputs_with_run : (run : SystemMethod) (r : Reading) → inputs_of (reading_with_run (Some run) r) ≡ inputs_of r
inputs_with_run run reading.Nothing = refl
inputs_with_run run reading.Once = refl
inputs_with_run run (reading.Set inputs bys) = refl
inputs_with_run run (reading.Merge inputs bys retains) = refl
inputs_with_run run (reading.From instance workers columns) = refl

pub bys_with_run : (run : SystemMethod) (r : Reading) → bys_of (reading_with_run (Some run) r) ≡ bys_of r
bys_with_run run reading.Nothing = refl
bys_with_run run reading.Once = refl
bys_with_run run (reading.Set inputs bys) = refl
bys_with_run run (reading.Merge inputs bys retains) = refl
bys_with_run run (reading.From instance workers columns) = refl

pub columns_with_run : (run : SystemMethod) (r : Reading) (name : List ℕ) → is_column (reading_with_run (Some run) r) name ≡ is_column r name
columns_with_run run reading.Nothing name = refl
columns_with_run run reading.Once name = refl
columns_with_run run (reading.Set inputs bys) name = refl
columns_with_run run (reading.Merge inputs bys retains) name = refl
columns_with_run run (reading.From instance workers columns) name = refl

-- ---- tests and numbers that agree

pub map_alike : {A B : Type 0} (f g : A → B) → ((x : A) → f x ≡ g x) → (xs : List A) → map f xs ≡ map g xs
map_alike f g same [] = refl
map_alike f g same (x ∷ xs) = ap (λ y. y ∷ map f xs) (same x) ∙ ap (λ ys. g x ∷ ys) (map_alike f g same xs)

-- tests that agree give the same slots
pub vector_alike : (columns retained wanted_columns wanted_retained : List ℕ → Bool) → ((name : List ℕ) → columns name ≡ wanted_columns name)
    → ((name : List ℕ) → retained name ≡ wanted_retained name) → (variables : List Variable)
    → map (vector_slot_by columns retained) variables ≡ map (vector_slot_by wanted_columns wanted_retained) variables
vector_alike columns retained wanted_columns wanted_retained same_columns same_retained variables =
    map_alike (vector_slot_by columns retained) (vector_slot_by wanted_columns wanted_retained)
    (λ v.
    ap (λ b. vector_slot_by (λ name. b) retained v) (same_columns v.name)
    ∙ ap (λ b. vector_slot_by wanted_columns (λ name. b) v) (same_retained v.name))
    variables

-- numbers that agree give the same projections
pub projections_alike : (numbers wanted : List ℕ → Option ℕ) → ((name : List ℕ) → numbers name ≡ wanted name) → (outputs : List OutputTable)
    → map (projection_by numbers) outputs ≡ map (projection_by wanted) outputs
projections_alike numbers wanted same outputs =
    map_alike (projection_by numbers) (projection_by wanted)
    (λ output. map_alike (λ name. unwrap_or (numbers name) 0) (λ name. unwrap_or (wanted name) 0) (λ name. ap (λ n. unwrap_or n 0) (same name)) (sources output))
    outputs

-- a list is mapped part by part
pub map_parts : {A B : Type 0} (f : A → B) (xs ys : List A) → map f xs ++ map f ys ≡ map f (xs ++ ys)
map_parts f [] ys = refl
map_parts f (x ∷ xs) ys = ap (λ l. f x ∷ l) (map_parts f xs ys)

pub cond_or : (b c : Bool) → cond b true c ≡ (b || c)
cond_or true c = refl
cond_or false c = refl

-- ---- the layout

-- the slots of the vector, made of those of the declared variables and those of the columns
pub vector_made : (columns retained wanted_columns wanted_retained : List ℕ → Bool) → ((name : List ℕ) → columns name ≡ wanted_columns name)
    → ((name : List ℕ) → retained name ≡ wanted_retained name) → (first second : List Variable) (one two : List LayoutSlot)
    → one ≡ map (vector_slot_by columns retained) first → two ≡ one ++ map (vector_slot_by columns retained) second
    → two ≡ map (vector_slot_by wanted_columns wanted_retained) (first ++ second)
vector_made columns retained wanted_columns wanted_retained same_columns same_retained first second one two is_one is_two =
    let f = vector_slot_by columns retained in
    is_two ∙ ap (λ l. l ++ map f second) is_one ∙ map_parts f first second
    ∙ vector_alike columns retained wanted_columns wanted_retained same_columns same_retained (first ++ second)

-- slots, and the projections by their numbers, are a layout
pub layout_made : (slots wanted : List LayoutSlot) (made : List (List ℕ)) (outputs : List OutputTable) (numbers : List ℕ → Option ℕ) → slots ≡ wanted
    → ((name : List ℕ) → numbers name ≡ slot_at slots (own_variable name)) → made ≡ map (projection_by numbers) outputs
    → made_layout slots made ≡ made_layout wanted (map (projection wanted) outputs)
layout_made slots wanted made outputs numbers is numbered projected =
    ap (λ m. made_layout slots m) (projected ∙ projections_alike numbers (λ name. slot_at slots (own_variable name)) numbered outputs)
    ∙ ap (λ s. made_layout s (map (projection s) outputs)) is

-- the program that reads, over the thread program that it may read from
pub reader_over : (p : UnitTree) (stage : Option ProgramTree) → p ≡ reader_of (over_stage p stage)
reader_over p None = refl
reader_over p (Some stage) = refl

-- five lists, each added to what stood before
pub five_made : {A : Type 0} (a b c d e one two three four five : List A) → one ≡ a → two ≡ one ++ b → three ≡ two ++ c → four ≡ three ++ d → five ≡ four ++ e
    → five ≡ a ++ b ++ c ++ d ++ e
five_made a b c d e one two three four five is_one is_two is_three is_four is_five =
    is_five ∙ ap (λ l. l ++ e) (is_four ∙ ap (λ l. l ++ d) (is_three ∙ ap (λ l. l ++ c) (is_two ∙ ap (λ l. l ++ b) is_one)))

pub or_none : (b : Bool) → (b || false) ≡ b
or_none true = refl
or_none false = refl
