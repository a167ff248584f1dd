-- Each instruction leaves less work: the lists.
use Rattle.std.proofs.Common.{◌≡◌, ℕ, zero, suc, ◌+◌, ◌*◌, ◌<◌, ◌≤◌, Bool, true, false, ◌⊎◌, ⊎_elim, inl, List, [], ◌∷◌, length, Some, refl, ap, ◌∙◌, arith, mul-le-mul_right}
use Rattle.std.specs.Prelude.{slice_get, if◌then◌else◌}
use Rattle.ds2_code.specs.declared.instr.Instr.{Instr}
use Rattle.ds2_code.specs.CodeBound.{starts_step, IsBoundedJump, plain_ahead, one_for_steps, frame_potential, callers_potential, work_ahead}
use Rattle.ds2_code.specs.CodeRun.{CallFrame}

plain_nil : (at : ℕ) → plain_ahead [] at ≡ 0
unfolding plain_ahead
plain_nil at = refl

plain_first : (i : Instr) (instrs : List Instr) (b : Bool) → starts_step (Some i) ≡ b → plain_ahead (i ∷ instrs) zero ≡ (if b then 0 else 1) + plain_ahead instrs zero
unfolding plain_ahead
plain_first i instrs b e = ap (λ t. (if t then 0 else 1) + plain_ahead instrs zero) e

plain_next : (i : Instr) (instrs : List Instr) (at : ℕ) → plain_ahead (i ∷ instrs) (suc at) ≡ plain_ahead instrs at
unfolding plain_ahead
plain_next i instrs at = refl

ticks_nil : one_for_steps [] ≡ 0
unfolding one_for_steps
ticks_nil = refl

ticks_first : (i : Instr) (instrs : List Instr) (b : Bool) → starts_step (Some i) ≡ b → one_for_steps (i ∷ instrs) ≡ (if b then 1 else one_for_steps instrs)
unfolding one_for_steps
ticks_first i instrs b e = ap (λ t. if t then 1 else one_for_steps instrs) e

potential_is : (instrs : List Instr) (at : ℕ) (b : Bool) → starts_step (slice_get instrs at) ≡ b → frame_potential instrs at ≡ (if b then 0 else plain_ahead instrs at) + one_for_steps instrs
unfolding frame_potential
potential_is instrs at b e = ap (λ t. (if t then 0 else plain_ahead instrs at) + one_for_steps instrs) e

work_is : (instrs : List Instr) (at : ℕ) (fs : List CallFrame) (left : ℕ) → work_ahead instrs at fs left ≡ left * length instrs + (frame_potential instrs at + callers_potential instrs fs)
unfolding work_ahead
work_is instrs at fs left = refl

waiting_nil : (instrs : List Instr) → callers_potential instrs [] ≡ 0
unfolding callers_potential
waiting_nil instrs = refl

waiting_first : (instrs : List Instr) (f : CallFrame) (fs : List CallFrame) → callers_potential instrs (f ∷ fs) ≡ frame_potential instrs f.to + callers_potential instrs fs
unfolding callers_potential
waiting_first instrs f fs = refl

same_tick : (x i : Instr) (b : Bool) → Some x ≡ Some i → starts_step (Some i) ≡ b → starts_step (Some x) ≡ b
same_tick x i b h e = ap starts_step h ∙ e

plain_here : (instrs : List Instr) (at : ℕ) (i : Instr) → slice_get instrs at ≡ Some i → starts_step (Some i) ≡ false → plain_ahead instrs at ≡ suc (plain_ahead instrs (suc at))
plain_here [] at i h e = absurd cc
plain_here (x ∷ xs) zero i h e = omega (arith, plain_first x xs false (same_tick x i false h e), plain_next x xs zero)
plain_here (x ∷ xs) (suc n) i h e = omega (arith, plain_next x xs n, plain_here xs n i h e, plain_next x xs (suc n))

-- one instruction more
first_by : (x : Instr) (xs : List Instr) (b : Bool) → starts_step (Some x) ≡ b → (plain_ahead xs zero ≤ plain_ahead (x ∷ xs) zero) × (plain_ahead (x ∷ xs) zero ≤ suc (plain_ahead xs zero))
first_by x xs true e = let p = plain_first x xs true e in (omega (arith, p), omega (arith, p))
first_by x xs false e = let p = plain_first x xs false e in (omega (arith, p), omega (arith, p))

plain_falls : (instrs : List Instr) (at to : ℕ) → at ≤ to → plain_ahead instrs to ≤ plain_ahead instrs at
plain_falls [] at to h = omega (arith, plain_nil at, plain_nil to)
plain_falls (x ∷ xs) zero zero h = omega arith
plain_falls (x ∷ xs) zero (suc n) h =
    let f = first_by x xs (starts_step (Some x)) refl in
    let ih = plain_falls xs zero n (omega arith) in
    omega (arith, f.0, plain_next x xs n, ih)
plain_falls (x ∷ xs) (suc m) zero h = absurd (omega arith)
plain_falls (x ∷ xs) (suc m) (suc n) h =
    let ih = plain_falls xs m n (omega arith) in
    omega (arith, plain_next x xs m, plain_next x xs n, ih)

plain_most : (instrs : List Instr) → plain_ahead instrs zero ≤ length instrs
plain_most [] = omega (arith, plain_nil zero)
plain_most (x ∷ xs) = let f = first_by x xs (starts_step (Some x)) refl in omega (arith, f.1, plain_most xs)

most_by : (x : Instr) (xs : List Instr) (b : Bool) → starts_step (Some x) ≡ b → plain_ahead xs zero + one_for_steps xs ≤ length xs → plain_ahead (x ∷ xs) zero + one_for_steps (x ∷ xs) ≤ suc (length xs)
most_by x xs true e ih = omega (arith, plain_first x xs true e, ticks_first x xs true e, plain_most xs)
most_by x xs false e ih = omega (arith, plain_first x xs false e, ticks_first x xs false e, ih)

most : (instrs : List Instr) → plain_ahead instrs zero + one_for_steps instrs ≤ length instrs
most [] = omega (arith, plain_nil zero, ticks_nil)
most (x ∷ xs) = most_by x xs (starts_step (Some x)) refl (most xs)

ticks_by : (x : Instr) (xs : List Instr) (b : Bool) → starts_step (Some x) ≡ b → one_for_steps xs ≡ 1 → one_for_steps (x ∷ xs) ≡ 1
ticks_by x xs true e ih = ticks_first x xs true e
ticks_by x xs false e ih = ticks_first x xs false e ∙ ih

ticks_here : (instrs : List Instr) (at : ℕ) (i : Instr) → slice_get instrs at ≡ Some i → starts_step (Some i) ≡ true → one_for_steps instrs ≡ 1
ticks_here [] at i h e = absurd cc
ticks_here (x ∷ xs) zero i h e = ticks_first x xs true (same_tick x i true h e)
ticks_here (x ∷ xs) (suc n) i h e = ticks_by x xs (starts_step (Some x)) refl (ticks_here xs n i h e)

most_potential_by : (instrs : List Instr) (at : ℕ) (b : Bool) → starts_step (slice_get instrs at) ≡ b → frame_potential instrs at ≤ length instrs
most_potential_by instrs at true e = omega (arith, potential_is instrs at true e, most instrs)
most_potential_by instrs at false e =
    let down = plain_falls instrs zero at (omega arith) in
    omega (arith, potential_is instrs at false e, down, most instrs)

most_potential : (instrs : List Instr) (at : ℕ) → frame_potential instrs at ≤ length instrs
most_potential instrs at = most_potential_by instrs at (starts_step (slice_get instrs at)) refl

some_potential_by : (instrs : List Instr) (at : ℕ) (i : Instr) (b : Bool) → slice_get instrs at ≡ Some i → starts_step (Some i) ≡ b → 0 < frame_potential instrs at
some_potential_by instrs at i true h e = omega (arith, potential_is instrs at true (ap starts_step h ∙ e), ticks_here instrs at i h e)
some_potential_by instrs at i false h e = omega (arith, potential_is instrs at false (ap starts_step h ∙ e), plain_here instrs at i h e)

-- where there is an instruction, there is work
pub some_work : (instrs : List Instr) (at : ℕ) (fs : List CallFrame) (left : ℕ) (i : Instr) → slice_get instrs at ≡ Some i → 0 < work_ahead instrs at fs left
some_work instrs at fs left i h =
    let some = some_potential_by instrs at i (starts_step (Some i)) h refl in
    omega (arith, work_is instrs at fs left, some)

-- with no caller: at most all instructions for each unit of the budget, and once more
pub most_work : (instrs : List Instr) (at left : ℕ) → work_ahead instrs at [] left ≤ (left + 1) * length instrs
most_work instrs at left = omega (arith, work_is instrs at [] left, waiting_nil instrs, most_potential instrs at)

forward_by : (instrs : List Instr) (at to : ℕ) (i : Instr) (b : Bool) → slice_get instrs at ≡ Some i → starts_step (Some i) ≡ false → starts_step (slice_get instrs to) ≡ b → (at < to) ⊎ (b ≡ true) → frame_potential instrs to < frame_potential instrs at
forward_by instrs at to i true h e t k = omega (arith, potential_is instrs at false (ap starts_step h ∙ e), potential_is instrs to true t, plain_here instrs at i h e)
forward_by instrs at to i false h e t k =
    ⊎_elim (λ (up : at < to).
    let down = plain_falls instrs (suc at) to (omega arith) in
    omega (arith, potential_is instrs at false (ap starts_step h ∙ e), potential_is instrs to false t, plain_here instrs at i h e, down))
    (λ (no : false ≡ true). absurd cc) k

forward : (instrs : List Instr) (at to : ℕ) (i : Instr) → slice_get instrs at ≡ Some i → starts_step (Some i) ≡ false → IsBoundedJump instrs at to → frame_potential instrs to < frame_potential instrs at
forward instrs at to i h e k = forward_by instrs at to i (starts_step (slice_get instrs to)) h e refl k

-- an instruction that begins no step leaves less work
pub stays : (instrs : List Instr) (at to : ℕ) (fs : List CallFrame) (left : ℕ) (i : Instr) → slice_get instrs at ≡ Some i → starts_step (Some i) ≡ false → IsBoundedJump instrs at to → work_ahead instrs to fs left < work_ahead instrs at fs left
stays instrs at to fs left i h e k =
    let less = forward instrs at to i h e k in
    omega (arith, work_is instrs at fs left, work_is instrs to fs left, less)

-- and so does one that begins a step
pub begins : (instrs : List Instr) (at : ℕ) (fs : List CallFrame) (n : ℕ) (i : Instr) → slice_get instrs at ≡ Some i → starts_step (Some i) ≡ true → work_ahead instrs (at + 1) fs n < work_ahead instrs at fs (suc n)
begins instrs at fs n i h e =
    omega (arith, work_is instrs at fs (suc n), work_is instrs (at + 1) fs n, potential_is instrs at true (ap starts_step h ∙ e), ticks_here instrs at i h e, most_potential instrs (at + 1))

-- and a call: the new frame has at most the length to do, which is what one unit of the budget stands for
pub enters : (instrs : List Instr) (at entry : ℕ) (f : CallFrame) (fs : List CallFrame) (n : ℕ) (i : Instr) → slice_get instrs at ≡ Some i → starts_step (Some i) ≡ false → f.to ≡ at + 1 → work_ahead instrs entry (f ∷ fs) n < work_ahead instrs at fs (suc n)
enters instrs at entry f fs n i h e to =
    let less = forward instrs at (at + 1) i h e (inl (omega arith)) in
    let there : frame_potential instrs f.to ≡ frame_potential instrs (at + 1) = ap (frame_potential instrs) to in
    omega (arith, work_is instrs at fs (suc n), work_is instrs entry (f ∷ fs) n, waiting_first instrs f fs, most_potential instrs entry, there, less)

-- and a return: what the caller has to do was counted
pub leaves : (instrs : List Instr) (at : ℕ) (f : CallFrame) (fs : List CallFrame) (left : ℕ) (i : Instr) → slice_get instrs at ≡ Some i → work_ahead instrs f.to fs left < work_ahead instrs at (f ∷ fs) left
leaves instrs at f fs left i h =
    let some = some_potential_by instrs at i (starts_step (Some i)) h refl in
    omega (arith, work_is instrs at (f ∷ fs) left, work_is instrs f.to fs left, waiting_first instrs f fs, some)

-- the instruction at hand is work beyond all steps that are left, and beyond fewer steps
pub more_work : (instrs : List Instr) (at : ℕ) (fs : List CallFrame) (left fewer : ℕ) (i : Instr) → slice_get instrs at ≡ Some i → fewer ≤ left → 1 + fewer * length instrs ≤ work_ahead instrs at fs left
more_work instrs at fs left fewer i h less =
    let some = some_potential_by instrs at i (starts_step (Some i)) h refl in
    let all : fewer * length instrs ≤ left * length instrs = mul-le-mul_right (length instrs) less in
    omega (arith, work_is instrs at fs left, some, all)
