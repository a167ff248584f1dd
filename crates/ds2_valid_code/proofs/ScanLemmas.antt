-- The scan along the list, step by step.
use Rattle.std.proofs.Common.{◌≡◌, ℕ, zero, suc, ◌+◌, ◌<◌, Bool, List, [], ◌∷◌, ◌++◌, length, drop, Option, Some, None, ap, arith}
use Rattle.std.specs.Prelude.{slice_get}
use Rattle.ds2_value.specs.declared.ty.Ty.{Ty}
use Rattle.ds2_code.specs.declared.instr.Instr.{Instr}
use Rattle.ds2_code.specs.declared.parts.ProgramParts.{ProgramParts}
use Rattle.ds2_code.specs.CodeBound.{falls_through}
use Rattle.ds2_code.specs.InstructionTable.{kind_of}
use Rattle.ds2_code.specs.OperandTypes.{types_behind}
use Rattle.ds2_valid_code.specs.declared.owner.CodeOwner.{CodeOwner}
use Rattle.ds2_valid_code.specs.CodeScan.{CodeMark, owner_role, Standing, standing, arriving, entry_found, types_onward, mark_of, on_standing, on_types, with_mark, scan_code}

-- marks in front of those that are still to come
abbrev pub marks_joined : List CodeMark → Option (List CodeMark) → Option (List CodeMark)
marks_joined marks None = None
marks_joined marks (Some more) = Some (marks ++ more)

module _ (code : ProgramParts) (parameters : List (Option Ty)) (table : List (Option CodeOwner)) where
  pub scan_stops : (at : ℕ) (came : Bool) (s : Standing) (i : Instr) (is : List Instr) → arriving (entry_found (slice_get table at)) came s ≡ None
      → scan_code code parameters table at came s (i ∷ is) ≡ None
  scan_stops at came s i is e =
      ap (λ o. on_standing o (λ q. on_types (types_behind code parameters (owner_role code.methods q.owner) i q.types)
      (λ types. with_mark (mark_of q)
      (scan_code code parameters table (at + 1) (falls_through (kind_of i)) (standing q.owner (types_onward (falls_through (kind_of i)) types)) is)))) e

  pub scan_stops_at : (at : ℕ) (came : Bool) (s : Standing) (is : List Instr) (k : ℕ) → k < length is → arriving (entry_found (slice_get table at)) came s ≡ None
      → scan_code code parameters table at came s (drop k is) ≡ None
  scan_stops_at at came s [] k l e = absurd (omega (arith, l))
  scan_stops_at at came s (i ∷ is) zero l e = scan_stops at came s i is e
  scan_stops_at at came s (i ∷ is) (suc k) l e = scan_stops_at at came s is k (omega (arith, l)) e
