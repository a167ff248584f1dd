-- The points of bodies that stand behind each other, along their list, and where their jumps lead.
use Rattle.std.proofs.Common.{◌≡◌, ℕ, zero, suc, ◌+◌, ◌<◌, ◌≤◌, Bool, true, false, List, [], ◌∷◌, ◌++◌, length, slice_get, Option, Some, None, unwrap_or, refl, sym, ap, ◌∙◌, subst, arith, append_assoc, length-append}
use Rattle.std.proofs.lemmas.Bool.{true≢false}
use Rattle.ds2_value.specs.declared.ty.Ty.{Ty}
use Rattle.ds2_code.specs.declared.instr.Instr.{Instr}
use Rattle.ds2_code.specs.declared.parts.ProgramParts.{ProgramParts}
use Rattle.ds2_code.specs.CodeBound.{jump_target, falls_through}
use Rattle.ds2_code.specs.InstructionTable.{kind_of}
use Rattle.ds2_code.specs.OperandTypes.{OperandTypes, CodeRole, OfUnit, types_behind}
use Rattle.ds2_code.specs.ValidCode.{CodePoint, point, entry_role, Arrives, behind_instruction, AlongList}
use Rattle.ds2_gen.specs.BodyCode.{CodeBody, OfSystem, OfMethod, code_of_body, bodies_code}
use Rattle.ds2_program_code.specs.TypedRuns.{operands_after, LeadsToOpen, OperandsRun, AreOpenPlaces}
use Rattle.ds2_program_code.proofs.BodyTypes.{role_of}
use Rattle.ds2_program_code.proofs.Lists.{same_some, slice_in_front, slice_in_back}

-- ---- open places

abbrev has_none : OperandTypes → Bool
has_none [] = true
has_none (t ∷ types) = false

none_is : (types : OperandTypes) → has_none types ≡ true → types ≡ []
none_is [] e = refl
none_is (t ∷ types) e = absurd (true≢false (sym e))

-- the place of a number is one of points, which begin at a number, and no operand stands there
abbrev pub is_open : ℕ → List CodePoint → ℕ → Bool
is_open zero [] n = false
is_open zero (p ∷ ps) zero = has_none p.types
is_open zero (p ∷ ps) (suc n) = is_open zero ps n
is_open (suc at) ps zero = false
is_open (suc at) ps (suc n) = is_open at ps n

from_zero : (k : ℕ) → k ≡ 0 + k
from_zero k = omega arith

one_later : (at k : ℕ) → suc (at + k) ≡ suc at + k
one_later at k = omega arith

no_later : (at : ℕ) → at + 0 ≡ at
no_later at = omega arith

next_place : (at k : ℕ) → at + suc k ≡ at + 1 + k
next_place at k = omega arith

zero_step : (n k : ℕ) → n ≡ 0 + k → suc n ≡ 0 + suc k
zero_step n k e = omega arith

suc_step : (n at k : ℕ) → n ≡ at + k → suc n ≡ suc at + k
suc_step n at k e = omega arith

open_there : (at k : ℕ) (ps : List CodePoint) → is_open zero ps k ≡ true → is_open at ps (at + k) ≡ true
open_there zero k ps e = subst (λ n. is_open zero ps n ≡ true) (from_zero k) e
open_there (suc at) k ps e = subst (λ n. is_open (suc at) ps n ≡ true) (one_later at k) (open_there at k ps e)

-- an open place is that of a point without operands
record OpenPoint (at n : ℕ) (ps : List CodePoint) : Type 0 where
  number : ℕ
  here : n ≡ at + number
  found : CodePoint
  listed : slice_get ps number ≡ Some found
  empty : found.types ≡ []

open_gives : (at n : ℕ) (ps : List CodePoint) → is_open at ps n ≡ true → OpenPoint at n ps
open_gives zero n [] e = absurd (true≢false (sym e))
open_gives zero zero (p ∷ ps) e = record { number = 0; here = from_zero 0; found = p; listed = refl; empty = none_is p.types e }
open_gives zero (suc n) (p ∷ ps) e =
    let it = open_gives zero n ps e in
    record { number = suc it.number; here = zero_step n it.number it.here; found = it.found; listed = it.listed; empty = it.empty }
open_gives (suc at) zero ps e = absurd (true≢false (sym e))
open_gives (suc at) (suc n) ps e =
    let it = open_gives at n ps e in
    record { number = it.number; here = suc_step n at it.number it.here; found = it.found; listed = it.listed; empty = it.empty }

-- the last instruction does not fall through
abbrev pub Stops : List Instr → Type 0
Stops [] = ⊥
Stops (i ∷ []) = falls_through (kind_of i) ≡ false
Stops (i ∷ j ∷ is) = Stops (j ∷ is)

stops_more : (i : Instr) (is : List Instr) → Stops is → Stops (i ∷ is)
stops_more i [] h = absurd h
stops_more i (j ∷ is) h = h

pub stops_behind : (xs ys : List Instr) → Stops ys → Stops (xs ++ ys)
stops_behind [] ys h = h
stops_behind (x ∷ xs) ys h = stops_more x (xs ++ ys) (stops_behind xs ys h)

-- whose code a body is
abbrev pub body_role : CodeBody → CodeRole
body_role (OfSystem numbers body written) = OfUnit
body_role (OfMethod numbers method) = role_of method

same_point : (q : CodePoint) (role : CodeRole) → q.role ≡ role → q.types ≡ [] → q ≡ point role []
same_point q role e f = ap (λ r. point r q.types) e ∙ ap (λ ts. point role ts) f

-- ---- the points of a body

more_inside : (at k : ℕ) → at + suc (suc k) ≡ at + 1 + suc k
more_inside at k = omega arith

inner_less : (k n : ℕ) → suc k < n → suc (suc k) < suc n
inner_less k n less = omega arith

two_inside : (n : ℕ) → 1 < suc (suc n)
two_inside n = omega arith

module _ (code : ProgramParts) (params : List (Option Ty)) where
  -- the points of code of a role, from these operands on
  abbrev pub points_of : CodeRole → OperandTypes → List Instr → List CodePoint
  points_of role types [] = []
  points_of role types (i ∷ is) = point role types ∷ points_of role (operands_after (falls_through (kind_of i)) (unwrap_or (types_behind code params role i types) [])) is

  pub points_count : (role : CodeRole) (types : OperandTypes) (is : List Instr) → length (points_of role types is) ≡ length is
  points_count role types [] = refl
  points_count role types (i ∷ is) =
      ap (λ n. suc n) (points_count role (operands_after (falls_through (kind_of i)) (unwrap_or (types_behind code params role i types) [])) is)

  point_role : (role : CodeRole) (types : OperandTypes) (is : List Instr) (k : ℕ) (q : CodePoint) → slice_get (points_of role types is) k ≡ Some q → q.role ≡ role
  point_role role types [] k q e = absurd cc
  point_role role types (i ∷ is) zero q e = sym (ap (λ (x : CodePoint). x.role) (same_some (point role types) q e))
  point_role role types (i ∷ is) (suc k) q e =
      point_role role (operands_after (falls_through (kind_of i)) (unwrap_or (types_behind code params role i types) [])) is k q e

  -- each of them without operands is open to what says so
  places_by : (open_at : ℕ → Bool) (role : CodeRole) (is : List Instr) (types : OperandTypes) (at : ℕ) → ((k : ℕ) → is_open zero (points_of role types is) k ≡ true → open_at (at + k) ≡ true)
      → AreOpenPlaces code params role open_at types at is
  places_by open_at role [] types at each = tt
  places_by open_at role (i ∷ is) types at each = (
    λ none. subst (λ n. open_at n ≡ true) (no_later at) (each 0 (ap has_none none)),
    λ next e. places_by open_at role is (operands_after (falls_through (kind_of i)) next) (at + 1)
        (λ k opens. subst (λ n. open_at n ≡ true) (next_place at k)
        (each (suc k) (subst (λ ts. is_open zero (points_of role (operands_after (falls_through (kind_of i)) ts) is) k ≡ true) (sym (ap (λ o. unwrap_or o []) e)) opens))),
  )

  -- to a body its own places are open where no operand stands
  pub own_places : (role : CodeRole) (is : List Instr) (at : ℕ) → AreOpenPlaces code params role (is_open at (points_of role [] is)) [] at is
  own_places role is at = places_by (is_open at (points_of role [] is)) role is [] at (λ k opens. open_there at k (points_of role [] is) opens)

  arrives_within : (b : Bool) (role : CodeRole) (types : OperandTypes) → Arrives None b (behind_instruction b role types) (point role (operands_after b types))
  arrives_within true role types = refl
  arrives_within false role types = refl

  -- they stand along the list, where no entry is inside and the last instruction does not fall through
  pub along_body : (open_at : ℕ → Bool) (role : CodeRole) (is rest : List Instr) (more : List CodePoint) (types last : OperandTypes) (at : ℕ) (came : Bool) (before : CodePoint) → OperandsRun code params role open_at types is last → Stops is
      → Arrives (entry_role code at) came before (point role types) → ((k : ℕ) → suc k < length is → entry_role code (at + suc k) ≡ None)
      → ((other : CodePoint) → AlongList code params (at + length is) false other rest more) → AlongList code params at came before (is ++ rest) (points_of role types is ++ more)
  along_body open_at role [] rest more types last at came before run stops arrives inside next = absurd stops
  along_body open_at role (i ∷ []) rest more types last at came before run stops arrives inside next =
      (arrives, run.0, run.1, subst (λ b. AlongList code params (at + 1) b (behind_instruction b role run.0) rest more) (sym stops) (next (behind_instruction false role run.0)))
  along_body open_at role (i ∷ j ∷ is) rest more types last at came before run stops arrives inside next =
      let b = falls_through (kind_of i) in
      let size = length is in
      let entered : entry_role code (at + 1) ≡ None = inside 0 (two_inside size) in
      let behind : AlongList code params (at + 1) b (behind_instruction b role run.0) ((j ∷ is) ++ rest) (points_of role (operands_after b run.0) (j ∷ is) ++ more) =
      along_body open_at role (j ∷ is) rest more (operands_after b run.0) last (at + 1) b (behind_instruction b role run.0) run.3 stops
      (subst (λ o. Arrives o b (behind_instruction b role run.0) (point role (operands_after b run.0))) (sym entered) (arrives_within b role run.0))
      (λ k less. ap (λ n. entry_role code n) (sym (more_inside at k)) ∙ inside (suc k) (inner_less k (suc size) less))
      (λ other. subst (λ n. AlongList code params n false other rest more) (next_place at (suc size)) (next other)) in (
        arrives,
        run.0,
        run.1,
        subst (λ ts. AlongList code params (at + 1) b (behind_instruction b role run.0) ((j ∷ is) ++ rest) (points_of role (operands_after b ts) (j ∷ is) ++ more)) (sym (ap (λ o. unwrap_or o []) run.1)) behind,
      )

  -- a jump within it, or what stands behind it
  body_jump : {G : Type 0} (role : CodeRole) (open_at : ℕ → Bool) (is rest : List Instr) (types last : OperandTypes) (more : List CodePoint) (n to : ℕ) (i : Instr) (q : CodePoint) → OperandsRun code params role open_at types is last
      → slice_get (is ++ rest) n ≡ Some i → slice_get (points_of role types is ++ more) n ≡ Some q → jump_target (kind_of i) ≡ Some to → (open_at to ≡ true → q.role ≡ role → G)
      → ((k : ℕ) → slice_get rest k ≡ Some i → slice_get more k ≡ Some q → G) → G
  body_jump role open_at [] rest types last more n to i q run e f jump here later = later n e f
  body_jump role open_at (x ∷ is) rest types last more zero to i q run e f jump here later =
      here (subst (λ o. LeadsToOpen open_at o) (ap (λ y. jump_target (kind_of y)) (same_some x i e) ∙ jump) run.2) (sym (ap (λ (y : CodePoint). y.role) (same_some (point role types) q f)))
  body_jump role open_at (x ∷ is) rest types last more (suc n) to i q run e f jump here later =
      let b = falls_through (kind_of x) in
      body_jump role open_at is rest (operands_after b (unwrap_or (types_behind code params role x types) [])) last more n to i q
      (subst (λ ts. OperandsRun code params role open_at (operands_after b ts) is last) (sym (ap (λ o. unwrap_or o []) run.1)) run.3) e f jump here later

  -- ---- bodies

  -- the points of bodies, the first of which begins at a number
  abbrev pub points_from : ℕ → List CodeBody → List CodePoint
  points_from at [] = []
  points_from at (b ∷ bodies) = points_of (body_role b) [] (code_of_body at b) ++ points_from (at + length (code_of_body at b)) bodies

  -- the code of a body runs, with its own places open, and its last instruction does not fall through
  abbrev pub BodyRuns : ℕ → CodeBody → Type 0
  BodyRuns at b = OperandsRun code params (body_role b) (is_open at (points_of (body_role b) [] (code_of_body at b))) [] (code_of_body at b) [] × Stops (code_of_body at b)

  -- likewise that of bodies
  abbrev pub BodiesRun : ℕ → List CodeBody → Type 0
  BodiesRun at [] = Unit {0}
  BodiesRun at (b ∷ bodies) = BodyRuns at b × BodiesRun (at + length (code_of_body at b)) bodies

  jump_lands : (points front own more : List CodePoint) (at to k : ℕ) (role : CodeRole) (p q : CodePoint) → points ≡ front ++ (own ++ more) → length front ≡ at → to ≡ at + k → slice_get own k ≡ Some q → q.types ≡ [] → q.role ≡ role → p.role ≡ role
      → slice_get points to ≡ Some (point p.role [])
  jump_lands points front own more at to k role p q whole size here listed empty same own_role =
      ap (λ l. slice_get l to) whole ∙ ap (λ n. slice_get (front ++ (own ++ more)) n) (here ∙ ap (λ n. n + k) (sym size)) ∙ slice_in_back front (own ++ more) k ∙ slice_in_front own more k q listed
      ∙ ap Some (same_point q p.role (same ∙ sym own_role) empty)

  pub behind_body : (points front own more : List CodePoint) → points ≡ front ++ (own ++ more) → points ≡ (front ++ own) ++ more
  behind_body points front own more e = e ∙ sym (append_assoc front own more)

  pub size_behind : (front : List CodePoint) (role : CodeRole) (is : List Instr) (at : ℕ) → length front ≡ at → length (front ++ points_of role [] is) ≡ at + length is
  size_behind front role is at size = length-append front (points_of role [] is) ∙ ap (λ n. length front + n) (points_count role [] is) ∙ ap (λ n. n + length is) size

  -- each jump leads to where no operand stands, in code of its role
  pub targets_from : (points front : List CodePoint) (at : ℕ) (bodies : List CodeBody) → BodiesRun at bodies → points ≡ front ++ points_from at bodies → length front ≡ at → (n to : ℕ) (i : Instr) (q : CodePoint)
      → slice_get (bodies_code at bodies) n ≡ Some i → slice_get (points_from at bodies) n ≡ Some q → jump_target (kind_of i) ≡ Some to → slice_get points to ≡ Some (point q.role [])
  targets_from points front at [] runs whole size n to i q e f jump = absurd cc
  targets_from points front at (b ∷ bodies) runs whole size n to i q e f jump =
      let role = body_role b in
      let is = code_of_body at b in
      let own = points_of role [] is in
      let next = at + length is in
      let more = points_from next bodies in
      body_jump role (is_open at own) is (bodies_code next bodies) [] [] more n to i q runs.0.0 e f jump
      (λ opens same.
      let it = open_gives at to own opens in
      jump_lands points front own more at to it.number role q it.found whole size it.here it.listed it.empty (point_role role [] is it.number it.found it.listed) same)
      (λ k g h. targets_from points (front ++ own) next bodies runs.1 (behind_body points front own more whole) (size_behind front role is at size) k to i q g h jump)

  head_point : (role : CodeRole) (is : List Instr) (more : List CodePoint) → 1 ≤ length is → slice_get (points_of role [] is ++ more) 0 ≡ Some (point role [])
  head_point role [] more some = let no : 1 ≤ 0 = some in absurd (omega arith)
  head_point role (i ∷ is) more some = refl

  -- where a body begins
  pub start_point : (points front : List CodePoint) (at : ℕ) (role : CodeRole) (is : List Instr) (more : List CodePoint) → points ≡ front ++ (points_of role [] is ++ more) → length front ≡ at → 1 ≤ length is
      → slice_get points at ≡ Some (point role [])
  start_point points front at role is more whole size some =
      ap (λ l. slice_get l at) whole ∙ ap (λ n. slice_get (front ++ (points_of role [] is ++ more)) n) (sym (no_later at) ∙ ap (λ n. n + 0) (sym size)) ∙ slice_in_back front (points_of role [] is ++ more) 0 ∙ head_point role is more some
