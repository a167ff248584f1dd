-- The entries of a typed program's code: each body begins at one of its role, and no entry is inside a body.
use Rattle.std.proofs.Common.{◌≡◌, ℕ, zero, suc, ◌+◌, ◌<◌, ◌≤◌, ◌==◌, eq-eqb, ne_eqb, false, List, [], ◌∷◌, ◌++◌, length, map, slice_get, Option, Some, None, refl, sym, ap, ◌∙◌, subst, arith, append_assoc, if◌then◌else◌}
use Rattle.ds2_value.specs.declared.ty.Ty.{Ty}
use Rattle.ds2_meaning.specs.ProgramTree.{UnitTree}
use Rattle.ds2_code.specs.declared.instr.Instr.{Instr}
use Rattle.ds2_code.specs.declared.parts.MethodPart.{MethodPart}
use Rattle.ds2_code.specs.OperandTypes.{CodeRole, OfUnit, OfMethod, signature_of}
use Rattle.ds2_code.specs.ValidCode.{CodePoint, point, unit_entry_role, method_entry_role, entry_role, Arrives, AlongList, HasOperandTypes}
use Rattle.ds2_gen.specs.BodyCode.{code_of_body, bodies_code}
use Rattle.ds2_gen.specs.MethodCode.{method_code}
use Rattle.ds2_gen.specs.StatementCode.{outputs_code}
use Rattle.ds2_gen.specs.UnitCode.{implicit_outputs}
use Rattle.ds2_program_code.specs.CodeMethods.{CodeMethod, code_methods}
use Rattle.ds2_program_code.specs.ProgramCode.{method_numbers, init_numbers, run_numbers, term_numbers, init_body, run_body, term_body, method_body, code_bodies, run_entry, term_entry, methods_entry, method_part, method_parts, program_code}
use Rattle.ds2_program_code.proofs.Bodies.{method_some, body_some, zero_plus}
use Rattle.ds2_program_code.proofs.BodyTypes.{role_of}
use Rattle.ds2_program_code.proofs.Lists.{same_some}
use Rattle.ds2_program_code.proofs.Points.{is_open, points_of, points_count, along_body, points_from, BodiesRun, behind_body, size_behind, targets_from, start_point}

-- ---- numbers

miss : {X : Type 0} (a n : ℕ) (x y : X) → (a ≡ n → ⊥) → (if a == n then x else y) ≡ y
miss a n x y apart = ap (λ b. if b then x else y) (ne_eqb a n apart)

hit : {X : Type 0} (a n : ℕ) (x y : X) → a ≡ n → (if a == n then x else y) ≡ x
hit a n x y e = ap (λ b. if b then x else y) (eq-eqb a n e)

not_above : (at n : ℕ) → n < at → at ≡ n → ⊥
not_above at n less e = omega arith

not_below : (at n : ℕ) → at < n → at ≡ n → ⊥
not_below at n less e = omega arith

grown : (n at size : ℕ) → n < at → n < at + size
grown n at size less = omega arith

behind_some : (at size : ℕ) → 1 ≤ size → at < at + size
behind_some at size some = omega arith

inside_above : (at k : ℕ) → at < at + suc k
inside_above at k = omega arith

inside_below : (at k size : ℕ) → suc k < size → at + suc k < at + size
inside_below at k size less = omega arith

inside_from : (at k : ℕ) → at ≤ at + suc k
inside_from at k = omega arith

from_here : (at : ℕ) → at ≤ at
from_here at = omega arith

from_behind : (at size n : ℕ) → at + size ≤ n → at ≤ n
from_behind at size n from = omega arith

behind_above : (at size n : ℕ) → 1 ≤ size → at + size ≤ n → at < n
behind_above at size n some from = omega arith

-- ---- declared methods

module _ (p : UnitTree) where
  -- the code of a declared method that begins at a number
  abbrev code_at : ℕ → CodeMethod → List Instr
  code_at at m = method_code (method_numbers p m) at m.method

  some_code : (at : ℕ) (m : CodeMethod) → 1 ≤ length (code_at at m)
  some_code at m = method_some (method_numbers p m) at m.method

  above : (at n : ℕ) (methods : List CodeMethod) (other : Option CodeRole) → n < at → method_entry_role (method_parts p at methods) n other ≡ other
  above at n [] other less = refl
  above at n (m ∷ methods) other less =
      above (at + length (code_at at m)) n methods (if at == n then Some (role_of m.method) else other) (grown n at (length (code_at at m)) less) ∙ miss at n (Some (role_of m.method)) other (not_above at n less)

  here_role : (at : ℕ) (m : CodeMethod) (methods : List CodeMethod) → method_entry_role (method_parts p at (m ∷ methods)) at None ≡ Some (role_of m.method)
  here_role at m methods =
      above (at + length (code_at at m)) at methods (if at == at then Some (role_of m.method) else None) (behind_some at (length (code_at at m)) (some_code at m)) ∙ hit at at (Some (role_of m.method)) None refl

  inside_none : (at n : ℕ) (m : CodeMethod) (methods : List CodeMethod) → at < n → n < at + length (code_at at m) → method_entry_role (method_parts p at (m ∷ methods)) n None ≡ None
  inside_none at n m methods more less =
      above (at + length (code_at at m)) n methods (if at == n then Some (role_of m.method) else None) less ∙ miss at n (Some (role_of m.method)) None (not_below at n more)

  behind_role : (at n : ℕ) (m : CodeMethod) (methods : List CodeMethod) → at + length (code_at at m) ≤ n → method_entry_role (method_parts p at (m ∷ methods)) n None ≡ method_entry_role (method_parts p (at + length (code_at at m)) methods) n None
  behind_role at n m methods from =
      ap (λ o. method_entry_role (method_parts p (at + length (code_at at m)) methods) n o)
      (miss at n (Some (role_of m.method)) None (not_below at n (behind_above at (length (code_at at m)) n (some_code at m) from)))

  -- the entries from a number on are those of these methods, the first of which begins there
  abbrev EntriesFrom : ℕ → List CodeMethod → Type 0
  EntriesFrom at methods = (n : ℕ) → at ≤ n → entry_role (program_code p) n ≡ method_entry_role (method_parts p at methods) n None

  entries_behind : (at : ℕ) (m : CodeMethod) (methods : List CodeMethod) → EntriesFrom at (m ∷ methods) → EntriesFrom (at + length (code_at at m)) methods
  entries_behind at m methods entries n from = entries n (from_behind at (length (code_at at m)) n from) ∙ behind_role at n m methods from

  module _ (params : List (Option Ty)) where
    along_methods : (at : ℕ) (methods : List CodeMethod) (before : CodePoint) → EntriesFrom at methods → BodiesRun (program_code p) params at (map (method_body p) methods)
        → AlongList (program_code p) params at false before (bodies_code at (map (method_body p) methods)) (points_from (program_code p) params at (map (method_body p) methods))
    along_methods at [] before entries runs = refl
    along_methods at (m ∷ methods) before entries runs =
        let code = program_code p in
        let role = role_of m.method in
        let is = code_at at m in
        let next = at + length is in
        along_body code params (is_open at (points_of code params role [] is)) role is (bodies_code next (map (method_body p) methods)) (points_from code params next (map (method_body p) methods)) [] [] at false before runs.0.0 runs.0.1
        (subst (λ o. Arrives o false before (point role [])) (sym (entries at (from_here at) ∙ here_role at m methods)) refl)
        (λ k less. entries (at + suc k) (inside_from at k) ∙ inside_none at (at + suc k) m methods (inside_above at k) (inside_below at k (length is) less))
        (λ other. along_methods next methods other (entries_behind at m methods entries) runs.1)

    methods_begin : (points front : List CodePoint) (at : ℕ) (methods : List CodeMethod) → points ≡ front ++ points_from (program_code p) params at (map (method_body p) methods) → length front ≡ at
        → (k : ℕ) (m : MethodPart) → slice_get (method_parts p at methods) k ≡ Some m → slice_get points m.entry ≡ Some (point (OfMethod (signature_of m)) [])
    methods_begin points front at [] whole size k m e = absurd cc
    methods_begin points front at (x ∷ methods) whole size zero m e =
        let is = code_at at x in
        subst (λ (y : MethodPart). slice_get points y.entry ≡ Some (point (OfMethod (signature_of y)) [])) (same_some (method_part at x.method) m e)
        (start_point (program_code p) params points front at (role_of x.method) is (points_from (program_code p) params (at + length is) (map (method_body p) methods)) whole size (some_code at x))
    methods_begin points front at (x ∷ methods) whole size (suc k) m e =
        let is = code_at at x in
        let own = points_of (program_code p) params (role_of x.method) [] is in
        let next = at + length is in
        methods_begin points (front ++ own) next methods (behind_body (program_code p) params points front own (points_from (program_code p) params next (map (method_body p) methods)) whole)
        (size_behind (program_code p) params front (role_of x.method) is at size) k m e

-- ---- system methods

-- what is known of three entries and the first of methods
within_first : (k size : ℕ) → suc k < size → 0 + suc k < size
within_first k size less = omega arith

not_zero : (n : ℕ) → 1 ≤ n → 0 ≡ n → ⊥
not_zero n some e = omega arith

some_inside : (at k : ℕ) → 1 ≤ at + suc k
some_inside at k = omega arith

some_behind : (n m : ℕ) → 1 ≤ n → n < m → 1 ≤ m
some_behind n m some less = omega arith

less_less : (a b c : ℕ) → a < b → b < c → a < c
less_less a b c e f = omega arith

same_less : (a b c : ℕ) → a < b → b ≡ c → a < c
same_less a b c e f = omega arith

less_same : (a b c : ℕ) → a ≡ b → b < c → a < c
less_same a b c e f = omega arith

sum_below : (at size k n : ℕ) → suc k < size → at + size ≡ n → at + suc k < n
sum_below at size k n less e = omega arith

before_inside : (at k n : ℕ) → n ≡ at → n < at + suc k
before_inside at k n e = omega arith

from_at_least : (a b n : ℕ) → a < b → b ≤ n → a < n
from_at_least a b n less from = omega arith

some_first : (n : ℕ) → 1 ≤ n → 0 < n
some_first n some = omega arith

module _ (p : UnitTree) (params : List (Option Ty)) (runs : BodiesRun (program_code p) params 0 (code_bodies p)) where
  abbrev code : List Instr
  code = bodies_code 0 (code_bodies p)

  abbrev methods : List CodeMethod
  methods = code_methods p

  -- the three bodies, and where the second, the third and the first method begin
  abbrev init_code : List Instr
  init_code = code_of_body 0 (init_body p)

  abbrev second : ℕ
  second = 0 + length init_code

  abbrev run_code : List Instr
  run_code = code_of_body second (run_body p)

  abbrev third : ℕ
  third = second + length run_code

  abbrev term_code : List Instr
  term_code = code_of_body third (term_body p)

  abbrev last : ℕ
  last = third + length term_code

  second_is : second ≡ run_entry p
  second_is = zero_plus (length init_code)

  third_is : third ≡ term_entry p
  third_is = ap (λ n. n + length (code_of_body n (run_body p))) second_is

  last_is : last ≡ methods_entry p
  last_is = ap (λ n. n + length (code_of_body n (term_body p))) third_is

  init_some : 1 ≤ length init_code
  init_some = body_some (init_numbers p) 0 p.init []

  run_some : (at : ℕ) → 1 ≤ length (code_of_body at (run_body p))
  run_some at = body_some (run_numbers p) at p.run (outputs_code (implicit_outputs p))

  term_some : (at : ℕ) → 1 ≤ length (code_of_body at (term_body p))
  term_some at = body_some (term_numbers p) at p.term []

  run_less : run_entry p < term_entry p
  run_less = behind_some (run_entry p) (length (code_of_body (run_entry p) (run_body p))) (run_some (run_entry p))

  term_less : term_entry p < methods_entry p
  term_less = behind_some (term_entry p) (length (code_of_body (term_entry p) (term_body p))) (term_some (term_entry p))

  -- below the first method only the units' entries count
  below : (n : ℕ) → n < methods_entry p → entry_role (program_code p) n ≡ unit_entry_role (0 ∷ run_entry p ∷ term_entry p ∷ []) n
  below n less = above p (methods_entry p) n methods (unit_entry_role (0 ∷ run_entry p ∷ term_entry p ∷ []) n) less

  no_unit : (n : ℕ) → (0 ≡ n → ⊥) → (run_entry p ≡ n → ⊥) → (term_entry p ≡ n → ⊥) → unit_entry_role (0 ∷ run_entry p ∷ term_entry p ∷ []) n ≡ None
  no_unit n a b c =
      miss 0 n (Some OfUnit) (unit_entry_role (run_entry p ∷ term_entry p ∷ []) n) a ∙ miss (run_entry p) n (Some OfUnit) (unit_entry_role (term_entry p ∷ []) n) b ∙ miss (term_entry p) n (Some OfUnit) None c

  init_entry : entry_role (program_code p) 0 ≡ Some OfUnit
  init_entry =
      below 0 (less_less 0 (run_entry p) (methods_entry p) (some_first (run_entry p) init_some) (less_less (run_entry p) (term_entry p) (methods_entry p) run_less term_less))
      ∙ hit 0 0 (Some OfUnit) (unit_entry_role (run_entry p ∷ term_entry p ∷ []) 0) refl

  second_entry : entry_role (program_code p) second ≡ Some OfUnit
  second_entry =
      ap (λ n. entry_role (program_code p) n) second_is ∙ below (run_entry p) (less_less (run_entry p) (term_entry p) (methods_entry p) run_less term_less)
      ∙ miss 0 (run_entry p) (Some OfUnit) (unit_entry_role (run_entry p ∷ term_entry p ∷ []) (run_entry p)) (not_zero (run_entry p) init_some)
      ∙ hit (run_entry p) (run_entry p) (Some OfUnit) (unit_entry_role (term_entry p ∷ []) (run_entry p)) refl

  third_entry : entry_role (program_code p) third ≡ Some OfUnit
  third_entry =
      ap (λ n. entry_role (program_code p) n) third_is ∙ below (term_entry p) term_less
      ∙ miss 0 (term_entry p) (Some OfUnit) (unit_entry_role (run_entry p ∷ term_entry p ∷ []) (term_entry p)) (not_zero (term_entry p) (some_behind (run_entry p) (term_entry p) init_some run_less))
      ∙ miss (run_entry p) (term_entry p) (Some OfUnit) (unit_entry_role (term_entry p ∷ []) (term_entry p)) (not_below (run_entry p) (term_entry p) run_less)
      ∙ hit (term_entry p) (term_entry p) (Some OfUnit) None refl

  inside_init : (k : ℕ) → suc k < length init_code → entry_role (program_code p) (0 + suc k) ≡ None
  inside_init k less =
      let here : 0 + suc k < run_entry p = within_first k (length init_code) less in
      let before_term = less_less (0 + suc k) (run_entry p) (term_entry p) here run_less in
      below (0 + suc k) (less_less (0 + suc k) (term_entry p) (methods_entry p) before_term term_less)
      ∙ no_unit (0 + suc k) (not_zero (0 + suc k) (some_inside 0 k)) (not_above (run_entry p) (0 + suc k) here) (not_above (term_entry p) (0 + suc k) before_term)

  inside_run : (k : ℕ) → suc k < length run_code → entry_role (program_code p) (second + suc k) ≡ None
  inside_run k less =
      let here : second + suc k < term_entry p = sum_below second (length run_code) k (term_entry p) less third_is in
      below (second + suc k) (less_less (second + suc k) (term_entry p) (methods_entry p) here term_less)
      ∙ no_unit (second + suc k) (not_zero (second + suc k) (some_inside second k)) (not_below (run_entry p) (second + suc k) (before_inside second k (run_entry p) (sym second_is))) (not_above (term_entry p) (second + suc k) here)

  inside_term : (k : ℕ) → suc k < length term_code → entry_role (program_code p) (third + suc k) ≡ None
  inside_term k less =
      let here : third + suc k < methods_entry p = sum_below third (length term_code) k (methods_entry p) less last_is in
      let behind_term : term_entry p < third + suc k = before_inside third k (term_entry p) (sym third_is) in
      below (third + suc k) here
      ∙ no_unit (third + suc k) (not_zero (third + suc k) (some_inside third k)) (not_below (run_entry p) (third + suc k) (less_less (run_entry p) (term_entry p) (third + suc k) run_less behind_term))
      (not_below (term_entry p) (third + suc k) behind_term)

  from_methods : EntriesFrom p (methods_entry p) methods
  from_methods n from =
      let behind_term = from_at_least (term_entry p) (methods_entry p) n term_less from in
      let behind_run = less_less (run_entry p) (term_entry p) n run_less behind_term in
      let behind_init = less_less 0 (run_entry p) n (some_first (run_entry p) init_some) behind_run in
      ap (λ o. method_entry_role (method_parts p (methods_entry p) methods) n o)
      (no_unit n (not_below 0 n behind_init) (not_below (run_entry p) n behind_run) (not_below (term_entry p) n behind_term))

  -- ---- the whole list

  abbrev init_points : List CodePoint
  init_points = points_of (program_code p) params OfUnit [] init_code

  abbrev run_points : List CodePoint
  run_points = points_of (program_code p) params OfUnit [] run_code

  abbrev term_points : List CodePoint
  term_points = points_of (program_code p) params OfUnit [] term_code

  abbrev method_points : List CodePoint
  method_points = points_from (program_code p) params last (map (method_body p) methods)

  abbrev pub all_points : List CodePoint
  all_points = points_from (program_code p) params 0 (code_bodies p)

  arrives_at : (at : ℕ) (before : CodePoint) → entry_role (program_code p) at ≡ Some OfUnit → Arrives (entry_role (program_code p) at) false before (point OfUnit [])
  arrives_at at before e = subst (λ o. Arrives o false before (point OfUnit [])) (sym e) refl

  along_from_last : (before : CodePoint) → AlongList (program_code p) params last false before (bodies_code last (map (method_body p) methods)) method_points
  along_from_last before = along_methods p params last methods before (subst (λ n. EntriesFrom p n methods) (sym last_is) from_methods) runs.1.1.1

  along_from_third : (before : CodePoint) → AlongList (program_code p) params third false before (bodies_code third (term_body p ∷ map (method_body p) methods)) (term_points ++ method_points)
  along_from_third before =
      along_body (program_code p) params (is_open third term_points) OfUnit term_code (bodies_code last (map (method_body p) methods)) method_points [] [] third false before runs.1.1.0.0 runs.1.1.0.1 (arrives_at third before third_entry) inside_term along_from_last

  along_from_second : (before : CodePoint) → AlongList (program_code p) params second false before (bodies_code second (run_body p ∷ term_body p ∷ map (method_body p) methods)) (run_points ++ (term_points ++ method_points))
  along_from_second before =
      along_body (program_code p) params (is_open second run_points) OfUnit run_code (bodies_code third (term_body p ∷ map (method_body p) methods)) (term_points ++ method_points) [] [] second false before runs.1.0.0 runs.1.0.1
      (arrives_at second before second_entry) inside_run along_from_third

  along_all : AlongList (program_code p) params 0 false (point OfUnit []) code all_points
  along_all =
      along_body (program_code p) params (is_open 0 init_points) OfUnit init_code (bodies_code second (run_body p ∷ term_body p ∷ map (method_body p) methods)) (run_points ++ (term_points ++ method_points)) [] [] 0 false (point OfUnit []) runs.0.0 runs.0.1
      (arrives_at 0 (point OfUnit []) init_entry) inside_init along_from_second

  -- where bodies begin
  init_begins : slice_get all_points 0 ≡ Some (point OfUnit [])
  init_begins = start_point (program_code p) params all_points [] 0 OfUnit init_code (run_points ++ (term_points ++ method_points)) refl refl init_some

  run_begins : slice_get all_points (run_entry p) ≡ Some (point OfUnit [])
  run_begins = start_point (program_code p) params all_points init_points (run_entry p) OfUnit run_code (term_points ++ method_points) refl (points_count (program_code p) params OfUnit [] init_code) (run_some second)

  behind_run_is : all_points ≡ (init_points ++ run_points) ++ (term_points ++ method_points)
  behind_run_is = sym (append_assoc init_points run_points (term_points ++ method_points))

  run_size : length (init_points ++ run_points) ≡ term_entry p
  run_size = size_behind (program_code p) params init_points OfUnit run_code second (points_count (program_code p) params OfUnit [] init_code ∙ sym (zero_plus (length init_code))) ∙ third_is

  term_begins : slice_get all_points (term_entry p) ≡ Some (point OfUnit [])
  term_begins = start_point (program_code p) params all_points (init_points ++ run_points) (term_entry p) OfUnit term_code method_points behind_run_is run_size (term_some third)

  behind_term_is : all_points ≡ ((init_points ++ run_points) ++ term_points) ++ points_from (program_code p) params (methods_entry p) (map (method_body p) methods)
  behind_term_is =
      behind_run_is ∙ sym (append_assoc (init_points ++ run_points) term_points method_points)
      ∙ ap (λ n. ((init_points ++ run_points) ++ term_points) ++ points_from (program_code p) params n (map (method_body p) methods)) last_is

  term_size : length ((init_points ++ run_points) ++ term_points) ≡ methods_entry p
  term_size = size_behind (program_code p) params (init_points ++ run_points) OfUnit term_code third (run_size ∙ sym third_is) ∙ last_is

  unit_begins : (k at : ℕ) → slice_get (0 ∷ run_entry p ∷ term_entry p ∷ []) k ≡ Some at → slice_get all_points at ≡ Some (point OfUnit [])
  unit_begins zero at e = subst (λ n. slice_get all_points n ≡ Some (point OfUnit [])) (same_some 0 at e) init_begins
  unit_begins (suc zero) at e = subst (λ n. slice_get all_points n ≡ Some (point OfUnit [])) (same_some (run_entry p) at e) run_begins
  unit_begins (suc (suc zero)) at e = subst (λ n. slice_get all_points n ≡ Some (point OfUnit [])) (same_some (term_entry p) at e) term_begins
  unit_begins (suc (suc (suc k))) at e = absurd cc

  pub operand_types : HasOperandTypes (program_code p) params all_points
  operand_types = record {
    along = along_all;
    targets = λ at to i q e f jump. targets_from (program_code p) params all_points [] 0 (code_bodies p) runs refl refl at to i q e f jump;
    units = unit_begins;
    methods = λ k m e. methods_begin p params all_points ((init_points ++ run_points) ++ term_points) (methods_entry p) methods behind_term_is term_size k m e;
  }
