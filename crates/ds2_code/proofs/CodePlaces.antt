-- What is known at each instruction of valid code.
use Rattle.std.proofs.Common.{◌≡◌, ℕ, zero, suc, ◌+◌, Bool, true, false, List, [], ◌∷◌, Option, Some, None, refl, ap, subst}
use Rattle.std.specs.Prelude.{slice_get}
use Rattle.ds2_value.specs.declared.ty.Ty.{Ty}
use Rattle.ds2_code.specs.declared.instr.Instr.{Instr}
use Rattle.ds2_code.specs.declared.parts.ProgramParts.{ProgramParts}
use Rattle.ds2_code.specs.CodeBound.{falls_through}
use Rattle.ds2_code.specs.InstructionTable.{kind_of}
use Rattle.ds2_code.specs.OperandTypes.{OperandTypes, CodeRole, types_behind}
use Rattle.ds2_code.specs.ValidCode.{CodePoint, point, entry_role, Arrives, behind_instruction, AlongList}

came_is : (o : Option CodeRole) (s q : CodePoint) → Arrives o true s q → q ≡ s
came_is None s q h = h
came_is (Some r) s q h = h.1

module _ (code : ProgramParts) (parameters : List (Option Ty)) where
  -- the instruction, what it leaves, and that this stands behind it where it falls through
  pub record KnownAt (instrs : List Instr) (points : List CodePoint) (k : ℕ) (p : CodePoint) : Type 0 where
    pub instr : Instr
    pub here : slice_get instrs k ≡ Some instr
    pub types : OperandTypes
    pub leaves : types_behind code parameters p.role instr p.types ≡ Some types
    pub next : falls_through (kind_of instr) ≡ true → slice_get points (suc k) ≡ Some (point p.role types)

  first_of_all : (at : ℕ) (r : CodeRole) (t : OperandTypes) (is : List Instr) (qs : List CodePoint) → AlongList code parameters at true (point r t) is qs → slice_get qs 0 ≡ Some (point r t)
  first_of_all at r t [] [] f = absurd (let k : true ≡ false = f in cc)
  first_of_all at r t [] (q ∷ qs) f = absurd f
  first_of_all at r t (i ∷ is) [] f = absurd f
  first_of_all at r t (i ∷ is) (q ∷ qs) f = ap (λ z. Some z) (came_is (entry_role code at) (point r t) q f.0)

  first_is : (b : Bool) (at : ℕ) (r : CodeRole) (t : OperandTypes) (is : List Instr) (qs : List CodePoint) → AlongList code parameters at b (behind_instruction b r t) is qs → b ≡ true → slice_get qs 0 ≡ Some (point r t)
  first_is b at r t is qs f e = first_of_all at r t is qs (subst (λ z. AlongList code parameters at z (behind_instruction z r t) is qs) e f)

  pub known : (is : List Instr) (at : ℕ) (came : Bool) (s : CodePoint) (ss : List CodePoint) → AlongList code parameters at came s is ss → (k : ℕ) (q : CodePoint) → slice_get ss k ≡ Some q → KnownAt is ss k q
  known [] at came s [] f k q g = absurd cc
  known [] at came s (x ∷ ss) f k q g = absurd f
  known (i ∷ is) at came s [] f k q g = absurd f
  known (i ∷ is) at came s (x ∷ ss) f zero q g =
      let w : x ≡ q = cc in
      subst (λ z. KnownAt (i ∷ is) (x ∷ ss) zero z) w
      (record { instr = i; here = refl; types = f.1; leaves = f.2; next = λ e. first_is (falls_through (kind_of i)) (at + 1) x.role f.1 is ss f.3 e })
  known (i ∷ is) at came s (x ∷ ss) f (suc k) q g =
      let r = known is (at + 1) (falls_through (kind_of i)) (behind_instruction (falls_through (kind_of i)) x.role f.1) ss f.3 k q g in
      record { instr = r.instr; here = r.here; types = r.types; leaves = r.leaves; next = r.next }
