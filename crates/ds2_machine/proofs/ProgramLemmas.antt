-- The programs of valid code.
use Rattle.std.proofs.Common.{◌≡◌, ℕ, zero, suc, ◌-◌, ◌<◌, Bool, true, false, List, [], ◌∷◌, Option, Some, None, refl, sym, ap, ◌∙◌, subst, arith}
use Rattle.std.specs.Prelude.{slice_get, unwrap_or}
use Rattle.ds2_code.specs.declared.parts.ProgramParts.{ProgramParts}
use Rattle.ds2_code.specs.declared.parts.StagedParts.{StagedParts}
use Rattle.ds2_code.specs.ValidCode.{IsValidStaged}
use Rattle.ds2_machine.specs.AtRest.{staged_program, IsProgramOfValid}

pub data_program : (parts : StagedParts) → IsValidStaged parts → IsProgramOfValid parts.program
data_program parts valid = record { parts = parts; valid = valid; number = 0; here = refl }

pub thread_program : (parts : StagedParts) → IsValidStaged parts → (k : ℕ) (p : ProgramParts) → Some p ≡ slice_get parts.stages k → IsProgramOfValid p
thread_program parts valid k p here = record { parts = parts; valid = valid; number = suc k; here = sym here }

pub below : (parts : StagedParts) (n : ℕ) (o : Option ProgramParts) → 0 < n → o ≡ slice_get parts.stages (n - 1) → staged_program parts n ≡ unwrap_or o parts.program
below parts zero o h here = absurd (omega (arith, h))
below parts (suc k) o h here =
    let same : suc k - 1 ≡ k = omega arith in
    ap (λ j. unwrap_or (slice_get parts.stages j) parts.program) (sym same) ∙ ap (λ z. unwrap_or z parts.program) (sym here)

pub ruleset programs = (data_program, thread_program, below)
