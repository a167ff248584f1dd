-- Operands that are taken off, arguments and in_out parameters, one after the other.
use Rattle.std.proofs.Common.{◌≡◌, ℕ, zero, suc, ◌+◌, ◌-◌, ◌<◌, ◌≤◌, true, false, List, [], ◌∷◌, Option, Some, None, refl, ap, length, take, drop, arith, sym, ◌∙◌, add-one}
use Rattle.std.specs.Prelude.{replicate, slice_get, if◌then◌else◌}
use Rattle.ds2_value.specs.declared.value.Value.{Value}
use Rattle.ds2_value.specs.declared.value.Value.TheVariants.{Null}
use Rattle.ds2_code.specs.declared.parts.ParameterPart.{ParameterPart}
use Rattle.ds2_code.specs.CodeRun.{with_in_outs}
use Rattle.ds2_code.specs.Desk.{Taken, take_off}
use Rattle.ds2_frames.specs.declared.frames.Waiting.{Waiting}
use Rattle.ds2_machine.specs.MachineView.{waiting_frames}

-- two values that were taken off were there
pub two_there : (stack : List Value) (t : Taken) → take_off 2 [] stack ≡ Some t → 2 ≤ length stack
two_there [] t h = absurd cc
two_there (a ∷ []) t h = absurd cc
two_there (a ∷ b ∷ stack) t h = omega arith

pub take_next : (n : ℕ) (v : Value) (arguments stack : List Value) → 0 < n → take_off n arguments (v ∷ stack) ≡ take_off (n - 1) (v ∷ arguments) stack
take_next zero v arguments stack h = absurd (omega (arith, h))
take_next (suc n) v arguments stack h = ap (λ k. take_off k (v ∷ arguments) stack) (omega arith)

pub take_short : (n : ℕ) (arguments : List Value) → 0 < n → take_off n arguments [] ≡ None
take_short zero arguments h = absurd (omega (arith, h))
take_short (suc n) arguments h = refl

pub frames_number : (operands locals : List Value) (ws : List Waiting) → length (waiting_frames operands locals ws) ≡ length ws
frames_number operands locals [] = refl
frames_number operands locals (w ∷ ws) = ap (λ n. suc n) (frames_number (take w.operands operands) (take w.locals locals) ws)

passed_nothing : (ps : List ParameterPart) (stack : List Value) → with_in_outs ps [] stack ≡ stack
passed_nothing [] stack = refl
passed_nothing (p ∷ ps) stack = refl

-- the values of in_out parameters from a number on, where the local of that number is not there
pub passed_end : (ps : List ParameterPart) (locals stack : List Value) (i : ℕ) → slice_get locals i ≡ None → with_in_outs (drop i ps) (drop i locals) stack ≡ stack
passed_end [] [] stack zero h = refl
passed_end (p ∷ ps) [] stack zero h = refl
passed_end ps (v ∷ locals) stack zero h = absurd cc
passed_end [] [] stack (suc i) h = refl
passed_end (p ∷ ps) [] stack (suc i) h = passed_nothing (drop i ps) stack
passed_end [] (v ∷ locals) stack (suc i) h = refl
passed_end (p ∷ ps) (v ∷ locals) stack (suc i) h = passed_end ps locals stack i h

passed_more : (ps : List ParameterPart) (locals stack : List Value) (i : ℕ) (p : ParameterPart) (v : Value) → slice_get ps i ≡ Some p → slice_get locals i ≡ Some v
    → with_in_outs (drop i ps) (drop i locals) stack ≡ with_in_outs (drop (suc i) ps) (drop (suc i) locals) (if p.is_in_out then v ∷ stack else stack)
passed_more [] locals stack i p v h k = absurd cc
passed_more (q ∷ ps) [] stack i p v h k = absurd cc
passed_more (q ∷ ps) (w ∷ locals) stack zero p v h k =
    let same_part : q ≡ p = cc in
    let same : w ≡ v = cc in
    ap (λ (x : ParameterPart). with_in_outs ps locals (if x.is_in_out then w ∷ stack else stack)) same_part ∙ ap (λ (x : Value). with_in_outs ps locals (if p.is_in_out then x ∷ stack else stack)) same
passed_more (q ∷ ps) (w ∷ locals) stack (suc i) p v h k = passed_more ps locals stack i p v h k

pub passed_next : (ps : List ParameterPart) (locals stack : List Value) (i : ℕ) (p : ParameterPart) (v : Value) → slice_get ps i ≡ Some p → slice_get locals i ≡ Some v
    → with_in_outs (drop i ps) (drop i locals) stack ≡ with_in_outs (drop (i + 1) ps) (drop (i + 1) locals) (if p.is_in_out then v ∷ stack else stack)
passed_next ps locals stack i p v h k = rw (add-one i) (passed_more ps locals stack i p v h k)

pub ruleset passing = (passed_end, passed_next)
