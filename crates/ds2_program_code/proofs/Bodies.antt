-- The code of each body stands at its entry, and each method has its number.
use Rattle.std.proofs.Common.{◌≡◌, ℕ, zero, suc, ◌+◌, ◌<◌, ◌≤◌, Bool, true, false, List, [], ◌∷◌, ◌++◌, length, map, flat_map, slice_get, bytes_eq, Option, Some, None, is_some, refl, sym, ap, ◌∙◌, subst, arith, append_assoc, length-append, if◌then◌else◌}
use Rattle.std.specs.Option.{option_map}
use Rattle.std.proofs.lemmas.List.{length-map}
use Rattle.std.proofs.lemmas.Slice.Eq.{bytes_eq-Decides}
use Rattle.ds2_value.specs.declared.ty.Ty.{Ty}
use Rattle.ds2_meaning.specs.Location.{Home}
use Rattle.ds2_meaning.specs.Method.{MethodTree}
use Rattle.ds2_meaning.specs.ProgramTree.{BodyTree, InstanceTree, UnitTree, instance_methods, methods_of}
use Rattle.ds2_code.specs.declared.instr.Instr.{Instr}
use Rattle.ds2_code.specs.declared.instr.Instr.TheVariants as instr
use Rattle.ds2_code.specs.declared.parts.MethodPart.{MethodPart}
use Rattle.ds2_gen.specs.BodyCode.{code_of_body, bodies_code, HasEntriesInside}
use Rattle.ds2_gen.specs.CodePieces.{StandsAt}
use Rattle.ds2_gen.specs.ExpressionCode.{CodeNumbers}
use Rattle.ds2_gen.specs.MethodCode.{method_ending, method_end, method_exits, method_code}
use Rattle.ds2_gen.specs.StatementCode.{outputs_code, statements_code}
use Rattle.ds2_gen.specs.UnitCode.{locals_code, body_start, body_end, unit_exits, body_code, plain_ending, run_ending, implicit_outputs}
use Rattle.ds2_program_code.specs.CodeMethods.{CodeMethod, methods_at, code_methods, first_of_instance, first_method_of}
use Rattle.ds2_program_code.specs.ProgramCode.{method_numbers, init_numbers, run_numbers, term_numbers, init_body, run_body, term_body, method_body, code_bodies, run_entry, term_entry, methods_entry, method_part, method_parts, program_code}
use Rattle.ds2_program_code.proofs.Lists.{same_some, slice_in_front, slice_in_back, slice_mapped, stands_in, inside_list}

-- ---- methods have numbers

in_front_of : {X : Type 0} (xs ys : List X) (n k : ℕ) (x : X) → n ≡ k → slice_get xs k ≡ Some x → slice_get (xs ++ ys) n ≡ Some x
in_front_of xs ys n k x e f = ap (λ m. slice_get (xs ++ ys) m) e ∙ slice_in_front xs ys k x f

-- a method of a home
abbrev pub owned : Home → MethodTree → CodeMethod
owned home m = record { home = home; method = m }

listed_at : (home : Home) (methods : List MethodTree) (k : ℕ) (m : MethodTree) → slice_get methods k ≡ Some m → slice_get (methods_at home methods) k ≡ Some (owned home m)
listed_at home methods k m e = slice_mapped (owned home) methods k ∙ ap (λ o. option_map (owned home) o) e

-- the methods of an instance
abbrev methods_of_instance : InstanceTree → List CodeMethod
methods_of_instance i = methods_at (Some i.name) i.methods

in_instances_by : (b : Bool) (front : List CodeMethod) (before : ℕ) (i : InstanceTree) (instances : List InstanceTree) (name : List ℕ) (k : ℕ) (m : MethodTree) → bytes_eq i.name name ≡ b → length front ≡ before
    → slice_get (if b then i.methods else instance_methods instances name) k ≡ Some m
    → (slice_get (instance_methods instances name) k ≡ Some m
    → slice_get ((front ++ methods_of_instance i) ++ flat_map methods_of_instance instances) (first_of_instance (before + length i.methods) instances name + k) ≡ Some (owned (Some name) m))
    → slice_get (front ++ (methods_of_instance i ++ flat_map methods_of_instance instances)) ((if b then before else first_of_instance (before + length i.methods) instances name) + k) ≡ Some (owned (Some name) m)
in_instances_by true front before i instances name k m same size listed later =
    let rest = methods_of_instance i ++ flat_map methods_of_instance instances in
    let here : slice_get (methods_of_instance i) k ≡ Some (owned (Some name) m) =
    listed_at (Some i.name) i.methods k m listed ∙ ap (λ n. Some (owned (Some n) m)) ((bytes_eq-Decides i.name name).0 same) in
    ap (λ n. slice_get (front ++ rest) (n + k)) (sym size) ∙ slice_in_back front rest k ∙ slice_in_front (methods_of_instance i) (flat_map methods_of_instance instances) k (owned (Some name) m) here
in_instances_by false front before i instances name k m same size listed later =
    ap (λ l. slice_get l (first_of_instance (before + length i.methods) instances name + k)) (sym (append_assoc front (methods_of_instance i) (flat_map methods_of_instance instances))) ∙ later listed

in_instances : (front : List CodeMethod) (before : ℕ) (instances : List InstanceTree) (name : List ℕ) (k : ℕ) (m : MethodTree) → length front ≡ before → slice_get (instance_methods instances name) k ≡ Some m
    → slice_get (front ++ flat_map methods_of_instance instances) (first_of_instance before instances name + k) ≡ Some (owned (Some name) m)
in_instances front before [] name k m size listed = absurd cc
in_instances front before (i ∷ instances) name k m size listed =
    in_instances_by (bytes_eq i.name name) front before i instances name k m refl size listed
    (λ e. in_instances (front ++ methods_of_instance i) (before + length i.methods) instances name k m
    (length-append front (methods_of_instance i) ∙ ap (λ n. length front + n) (length-map i.methods (owned (Some i.name))) ∙ ap (λ n. n + length i.methods) size) e)

-- a method of a home stands among those of the program under its number
pub number_listed : (p : UnitTree) (home : Home) (k : ℕ) (m : MethodTree) → slice_get (methods_of p home) k ≡ Some m → slice_get (code_methods p) (first_method_of p home + k) ≡ Some (owned home m)
number_listed p None k m e =
    let at : 0 + k ≡ k = omega arith in
    in_front_of (methods_at None p.methods) (flat_map methods_of_instance p.instances) (0 + k) k (owned None m) at (listed_at None p.methods k m e)
number_listed p (Some name) k m e = in_instances (methods_at None p.methods) (length p.methods) p.instances name k m (length-map p.methods (owned None)) e

-- ---- sizes

behind_some : {X : Type 0} (xs ys : List X) → 1 ≤ length ys → 1 ≤ length (xs ++ ys)
behind_some xs ys some = omega (arith, length-append xs ys, some)

one_some : 1 ≤ 1
one_some = omega arith

two_some : 1 ≤ 2
two_some = omega arith

ending_some : (returns : Option Ty) → 1 ≤ length (method_ending returns)
ending_some None = one_some
ending_some (Some ty) = two_some

pub method_some : (numbers : CodeNumbers) (at : ℕ) (m : MethodTree) → 1 ≤ length (method_code numbers at m)
method_some numbers at m =
    behind_some (statements_code numbers at 0 (method_exits (method_end numbers at m) (is_some m.returns)) m.body) (method_ending m.returns) (ending_some m.returns)

pub body_some : (numbers : CodeNumbers) (at : ℕ) (body : BodyTree) (outputs : List Instr) → 1 ≤ length (body_code numbers at body (outputs ++ instr.End ∷ []))
body_some numbers at body outputs =
    let statements = statements_code numbers (body_start numbers at body) 0 (unit_exits (body_end numbers at body)) body.statements in
    let ending = outputs ++ instr.End ∷ [] in
    behind_some (locals_code numbers body.locals) (statements ++ ending) (behind_some statements ending (behind_some outputs (instr.End ∷ []) one_some))

pub zero_plus : (n : ℕ) → 0 + n ≡ n
zero_plus n = omega arith

-- ---- where bodies stand

-- a declared method that stands in code
pub record MethodStands (p : UnitTree) (all : List Instr) (parts : List MethodPart) (n : ℕ) (m : CodeMethod) : Type 0 where
  pub entry : ℕ
  pub part : slice_get parts n ≡ Some (method_part entry m.method)
  pub code : StandsAt all entry (method_code (method_numbers p m) entry m.method)
  pub inside : entry < length all

method_stands : (p : UnitTree) (all front : List Instr) (at : ℕ) (methods : List CodeMethod) (n : ℕ) (m : CodeMethod) → all ≡ front ++ bodies_code at (map (method_body p) methods) → length front ≡ at → slice_get methods n ≡ Some m
    → MethodStands p all (method_parts p at methods) n m
method_stands p all front at [] n m whole size e = absurd cc
method_stands p all front at (x ∷ methods) zero m whole size e =
    let code = method_code (method_numbers p x) at x.method in
    let rest = bodies_code (at + length code) (map (method_body p) methods) in
    subst (λ (y : CodeMethod). MethodStands p all (method_parts p at (x ∷ methods)) zero y) (same_some x m e)
    (record { entry = at; part = refl; code = stands_in all front code rest at whole size; inside = inside_list all front code rest at whole size (method_some (method_numbers p x) at x.method) })
method_stands p all front at (x ∷ methods) (suc n) m whole size e =
    let code = method_code (method_numbers p x) at x.method in
    let rest = bodies_code (at + length code) (map (method_body p) methods) in
    let it = method_stands p all (front ++ code) (at + length code) methods n m (whole ∙ sym (append_assoc front code rest)) (length-append front code ∙ ap (λ k. k + length code) size) e in
    record { entry = it.entry; part = it.part; code = it.code; inside = it.inside }

module _ (p : UnitTree) where
  abbrev all_code : List Instr
  all_code = bodies_code 0 (code_bodies p)

  abbrev init_code : List Instr
  init_code = code_of_body 0 (init_body p)

  abbrev run_code_of : List Instr
  run_code_of = code_of_body (run_entry p) (run_body p)

  abbrev term_code : List Instr
  term_code = code_of_body (term_entry p) (term_body p)

  abbrev methods_code : List Instr
  methods_code = bodies_code (methods_entry p) (map (method_body p) (code_methods p))

  from_zero : 0 + length init_code ≡ run_entry p
  from_zero = zero_plus (length init_code)

  code_in_parts : all_code ≡ init_code ++ (run_code_of ++ (term_code ++ methods_code))
  code_in_parts = ap (λ n. init_code ++ bodies_code n (run_body p ∷ term_body p ∷ map (method_body p) (code_methods p))) from_zero

  run_in_parts : all_code ≡ init_code ++ (run_code_of ++ (term_code ++ methods_code))
  run_in_parts = code_in_parts

  term_in_parts : all_code ≡ (init_code ++ run_code_of) ++ (term_code ++ methods_code)
  term_in_parts = code_in_parts ∙ sym (append_assoc init_code run_code_of (term_code ++ methods_code))

  methods_in_parts : all_code ≡ ((init_code ++ run_code_of) ++ term_code) ++ methods_code
  methods_in_parts = term_in_parts ∙ sym (append_assoc (init_code ++ run_code_of) term_code methods_code)

  run_size : length (init_code ++ run_code_of) ≡ term_entry p
  run_size = length-append init_code run_code_of

  term_size : length ((init_code ++ run_code_of) ++ term_code) ≡ methods_entry p
  term_size = length-append (init_code ++ run_code_of) term_code ∙ ap (λ n. n + length term_code) run_size

  -- the code of the system methods
  pub init_stands : StandsAt all_code 0 (body_code (init_numbers p) 0 p.init plain_ending)
  init_stands = stands_in all_code [] init_code (run_code_of ++ (term_code ++ methods_code)) 0 code_in_parts refl

  pub run_stands : StandsAt all_code (run_entry p) (body_code (run_numbers p) (run_entry p) p.run (run_ending p))
  run_stands = stands_in all_code init_code run_code_of (term_code ++ methods_code) (run_entry p) run_in_parts refl

  pub term_stands : StandsAt all_code (term_entry p) (body_code (term_numbers p) (term_entry p) p.term plain_ending)
  term_stands = stands_in all_code (init_code ++ run_code_of) term_code methods_code (term_entry p) term_in_parts run_size

  pub init_inside : 0 < length all_code
  init_inside = inside_list all_code [] init_code (run_code_of ++ (term_code ++ methods_code)) 0 code_in_parts refl (body_some (init_numbers p) 0 p.init [])

  pub run_inside : run_entry p < length all_code
  run_inside = inside_list all_code init_code run_code_of (term_code ++ methods_code) (run_entry p) run_in_parts refl (body_some (run_numbers p) (run_entry p) p.run (outputs_code (implicit_outputs p)))

  pub term_inside : term_entry p < length all_code
  term_inside = inside_list all_code (init_code ++ run_code_of) term_code methods_code (term_entry p) term_in_parts run_size (body_some (term_numbers p) (term_entry p) p.term [])

  -- that of a declared method
  pub declared_stands : (n : ℕ) (m : CodeMethod) → slice_get (code_methods p) n ≡ Some m → MethodStands p all_code (method_parts p (methods_entry p) (code_methods p)) n m
  declared_stands n m e = method_stands p all_code ((init_code ++ run_code_of) ++ term_code) (methods_entry p) (code_methods p) n m methods_in_parts term_size e

  part_by : (at : ℕ) (methods : List CodeMethod) (n : ℕ) (part : MethodPart) → slice_get (method_parts p at methods) n ≡ Some part → (m : CodeMethod) × (slice_get methods n ≡ Some m)
  part_by at [] n part e = absurd cc
  part_by at (x ∷ methods) zero part e = (x, refl)
  part_by at (x ∷ methods) (suc n) part e = part_by (at + length (method_code (method_numbers p x) at x.method)) methods n part e

  pub entries_inside : HasEntriesInside (program_code p)
  entries_inside k part e =
      let listed = part_by (methods_entry p) (code_methods p) k part e in
      let it = declared_stands k listed.0 listed.1 in
      subst (λ (x : MethodPart). x.entry < length all_code) (same_some (method_part it.entry (CodeMethod.method listed.0)) part (sym it.part ∙ e)) it.inside
