-- Pieces of code with jumps, one behind the other.
use Rattle.std.proofs.Common.{◌≡◌, ℕ, suc, ◌+◌, Bool, true, List, [], ◌∷◌, ◌++◌, length, Option, Some, refl, sym, ◌∙◌, subst, arith}
use Rattle.ds2_value.specs.declared.ty.Ty.{Ty}
use Rattle.ds2_code.specs.declared.instr.Instr.{Instr}
use Rattle.ds2_code.specs.declared.parts.ProgramParts.{ProgramParts}
use Rattle.ds2_code.specs.CodeBound.{jump_target, falls_through}
use Rattle.ds2_code.specs.InstructionTable.{kind_of}
use Rattle.ds2_code.specs.OperandTypes.{OperandTypes, CodeRole, types_behind}
use Rattle.ds2_program_code.specs.TypedOperands.{OperandsLead}
use Rattle.ds2_program_code.specs.TypedRuns.{operands_after, LeadsToOpen, OperandsRun, AreOpenPlaces}

pub size_step : (at n : ℕ) → at + 1 + n ≡ at + suc n
size_step at n = omega arith

pub size_none : (at : ℕ) → at ≡ at + 0
size_none at = omega arith

module _ (code : ProgramParts) (params : List (Option Ty)) (role : CodeRole) (open_at : ℕ → Bool) where
  -- plain code runs
  pub plain_runs : (is : List Instr) (s t : OperandTypes) → OperandsLead code params role s is t → OperandsRun code params role open_at s is t
  plain_runs [] s t h = h
  plain_runs (i ∷ is) s t h = (
    h.0,
    h.1,
    subst (λ o. LeadsToOpen open_at o) (sym h.3) tt,
    subst (λ b. OperandsRun code params role open_at (operands_after b h.0) is t) (sym h.2) (plain_runs is h.0 t h.4),
  )

  pub runs_append : (xs ys : List Instr) (s t u : OperandTypes) → OperandsRun code params role open_at s xs t → OperandsRun code params role open_at t ys u → OperandsRun code params role open_at s (xs ++ ys) u
  runs_append [] ys s t u a b = subst (λ z. OperandsRun code params role open_at z ys u) (sym a) b
  runs_append (x ∷ xs) ys s t u a b = (a.0, a.1, a.2, runs_append xs ys (operands_after (falls_through (kind_of x)) a.0) t u a.3 b)

  pub plain_then : (xs ys : List Instr) (s t u : OperandTypes) → OperandsLead code params role s xs t → OperandsRun code params role open_at t ys u → OperandsRun code params role open_at s (xs ++ ys) u
  plain_then xs ys s t u a b = runs_append xs ys s t u (plain_runs xs s t a) b

  pub runs_one : (i : Instr) (s next t : OperandTypes) → types_behind code params role i s ≡ Some next → LeadsToOpen open_at (jump_target (kind_of i)) → operands_after (falls_through (kind_of i)) next ≡ t → OperandsRun code params role open_at s (i ∷ []) t
  runs_one i s next t e jump after = (next, e, jump, after)

  -- the places of the second of two pieces, however the first one's jumps lead
  pub open_behind : (other : ℕ → Bool) (xs ys : List Instr) (s t : OperandTypes) (at mid : ℕ) → at + length xs ≡ mid → OperandsRun code params role other s xs t → AreOpenPlaces code params role open_at s at (xs ++ ys) → AreOpenPlaces code params role open_at t mid ys
  open_behind other [] ys s t at mid size run places =
      subst (λ n. AreOpenPlaces code params role open_at t n ys) (size_none at ∙ size) (subst (λ z. AreOpenPlaces code params role open_at z at ys) run places)
  open_behind other (x ∷ xs) ys s t at mid size run places =
      open_behind other xs ys (operands_after (falls_through (kind_of x)) run.0) t (at + 1) mid (size_step at (length xs) ∙ size) run.3 (places.1 run.0 run.1)

  -- those of the first
  pub open_front : (xs ys : List Instr) (s : OperandTypes) (at : ℕ) → AreOpenPlaces code params role open_at s at (xs ++ ys) → AreOpenPlaces code params role open_at s at xs
  open_front [] ys s at places = tt
  open_front (x ∷ xs) ys s at places = (places.0, λ next e. open_front xs ys (operands_after (falls_through (kind_of x)) next) (at + 1) (places.1 next e))

-- every place is open to those that ask nothing
abbrev pub Anywhere : ℕ → Bool
Anywhere n = true

pub all_open : (code : ProgramParts) (params : List (Option Ty)) (role : CodeRole) (is : List Instr) (s : OperandTypes) (at : ℕ) → AreOpenPlaces code params role Anywhere s at is
all_open code params role [] s at = tt
all_open code params role (i ∷ is) s at = ((λ e. refl), (λ next e. all_open code params role is (operands_after (falls_through (kind_of i)) next) (at + 1)))
