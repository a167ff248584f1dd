-- The code of a typed program within limits has operand types along its list.
use Rattle.std.proofs.Common.{◌≡◌, ◌⊎◌, inl, inr, ℕ, zero, suc, ◌+◌, not, ◌||◌, true, List, [], ◌∷◌, ◌++◌, length, map, flat_map, slice_get, bytes_eq, Option, Some, None, IsTrue, is_some, refl, sym, ap, ◌∙◌, if◌then◌else◌}
use Rattle.std.proofs.lemmas.Bool.{and_parts, not-true}
use Rattle.ds2_value.specs.declared.ty.Ty.{Ty}
use Rattle.ds2_meaning.specs.IsTyped.{are_distinct, IsTypedUnit}
use Rattle.ds2_meaning.specs.Method.{MethodTree}
use Rattle.ds2_meaning.specs.ProgramTree.{BodyTree, InstanceTree, UnitTree, is_listed, instance_methods, methods_of, output_sources}
use Rattle.ds2_code.specs.declared.instr.Instr.TheVariants as instr
use Rattle.ds2_code.specs.OperandTypes.{OfUnit}
use Rattle.ds2_gen.specs.BodyCode.{code_of_body}
use Rattle.ds2_gen.specs.ExpressionCode.{CodeNumbers}
use Rattle.ds2_gen.specs.MethodCode.{method_ending, method_end, method_exits, method_code}
use Rattle.ds2_gen.specs.StatementCode.{outputs_code, statements_code}
use Rattle.ds2_gen.specs.UnitCode.{locals_code, body_start, body_end, unit_exits, body_code, implicit_outputs}
use Rattle.ds2_program_code.specs.KeptTypes.{EachValueHasType}
use Rattle.ds2_program_code.specs.PlacedProgram.{layout_size, first_of_run, first_of_term, system_placement, method_placement}
use Rattle.ds2_program_code.specs.CodeMethods.{CodeMethod, methods_at, code_methods}
use Rattle.ds2_program_code.specs.ProgramCode.{init_numbers, run_numbers, term_numbers, method_numbers, init_body, run_body, term_body, method_body, code_bodies, program_code}
use Rattle.ds2_program_code.specs.TypedCode.{FitsCodeLimits, StageParametersFit, TypedCodeHasTypes}
use Rattle.ds2_program_code.specs.TypedRuns.{StatementsRun}
use Rattle.ds2_program_code.proofs.Bodies.{owned}
use Rattle.ds2_program_code.proofs.BodyRuns.{locals_lead, body_statements_run, init_statements_run, system_runs, implicit_lead, method_runs}
use Rattle.ds2_program_code.proofs.BodyTypes.{role_of}
use Rattle.ds2_program_code.proofs.ConstantTypes.{init_typed, run_typed, term_typed, method_typed}
use Rattle.ds2_program_code.proofs.Entries.{all_points, operand_types}
use Rattle.ds2_program_code.proofs.Homes.{names_of_instances, instance_names, apart_names_by}
use Rattle.ds2_program_code.proofs.Lists.{bytes_self, any_in_back, slice_mapped}
use Rattle.ds2_program_code.proofs.Objects.{mapped_some}
use Rattle.ds2_program_code.proofs.OwnSlots.{init_slots, run_slots, term_slots}
use Rattle.ds2_program_code.proofs.Points.{is_open, Stops, stops_behind, points_of, own_places, BodyRuns, BodiesRun}
use Rattle.ds2_program_code.proofs.ProgramFits.{method_typed_at}

-- ---- each listed method is one of its home

pub slice_split : {X : Type 0} (xs ys : List X) (n : ℕ) (x : X) → slice_get (xs ++ ys) n ≡ Some x → (slice_get xs n ≡ Some x) ⊎ ((k : ℕ) × (slice_get ys k ≡ Some x))
slice_split [] ys n x e = inr (n, e)
slice_split (y ∷ xs) ys zero x e = inl e
slice_split (y ∷ xs) ys (suc n) x e = slice_split xs ys n x e

-- a method among those of an instance, which is found by its name
record MethodOfInstance (instances : List InstanceTree) (m : CodeMethod) : Type 0 where
  name : List ℕ
  owner : m.home ≡ Some name
  listed : is_listed (names_of_instances instances) name ≡ true
  number : ℕ
  there : slice_get (instance_methods instances name) number ≡ Some m.method

-- the methods of instances in the order of their code
abbrev instances_methods : List InstanceTree → List CodeMethod
instances_methods instances = flat_map (λ (i : InstanceTree). methods_at (Some i.name) i.methods) instances

instance_back_by : (i : InstanceTree) (instances : List InstanceTree) (n : ℕ) (m : CodeMethod) → IsTrue (are_distinct (names_of_instances (i ∷ instances)))
    → (slice_get (methods_at (Some i.name) i.methods) n ≡ Some m) ⊎ ((k : ℕ) × (slice_get (instances_methods instances) k ≡ Some m))
    → ((k : ℕ) → slice_get (instances_methods instances) k ≡ Some m → MethodOfInstance instances m) → MethodOfInstance (i ∷ instances) m
instance_back_by i instances n m distinct (inl e) later =
    let it = mapped_some (owned (Some i.name)) (slice_get i.methods n) m (sym (slice_mapped (owned (Some i.name)) i.methods n) ∙ e) in
    record {
      name = i.name;
      owner = sym (ap (λ (x : CodeMethod). x.home) it.2);
      listed = ap (λ b. b || is_listed (names_of_instances instances) i.name) (bytes_self i.name);
      number = n;
      there = ap (λ b. slice_get (if b then i.methods else instance_methods instances i.name) n) (bytes_self i.name) ∙ it.1 ∙ ap (λ (x : CodeMethod). Some x.method) it.2;
    }
instance_back_by i instances n m distinct (inr e) later =
    let names = names_of_instances instances in
    let rest = later e.0 e.1 in
    let parts = and_parts (not (is_listed names i.name)) (are_distinct names) distinct in
    let other = apart_names_by (bytes_eq i.name rest.name) names i.name rest.name refl (not-true (is_listed names i.name) parts.0) rest.listed in
    record {
      name = rest.name;
      owner = rest.owner;
      listed = any_in_back (λ x. bytes_eq x rest.name) (i.name ∷ []) names rest.listed;
      number = rest.number;
      there = ap (λ b. slice_get (if b then i.methods else instance_methods instances rest.name) rest.number) other ∙ rest.there;
    }

instance_back : (instances : List InstanceTree) (n : ℕ) (m : CodeMethod) → IsTrue (are_distinct (names_of_instances instances)) → slice_get (instances_methods instances) n ≡ Some m → MethodOfInstance instances m
instance_back [] n m distinct e = absurd cc
instance_back (i ∷ instances) n m distinct e =
    let names = names_of_instances instances in
    let parts = and_parts (not (is_listed names i.name)) (are_distinct names) distinct in
    instance_back_by i instances n m distinct (slice_split (methods_at (Some i.name) i.methods) (instances_methods instances) n m e) (λ k f. instance_back instances k m parts.1 f)

listed_back_by : (p : UnitTree) → IsTypedUnit p → (n : ℕ) (m : CodeMethod) → (slice_get (methods_at None p.methods) n ≡ Some m) ⊎ ((k : ℕ) × (slice_get (instances_methods p.instances) k ≡ Some m))
    → (k : ℕ) × (slice_get (methods_of p m.home) k ≡ Some m.method)
listed_back_by p typed n m (inl e) =
    let it = mapped_some (owned None) (slice_get p.methods n) m (sym (slice_mapped (owned None) p.methods n) ∙ e) in
    (n, ap (λ h. slice_get (methods_of p h) n) (sym (ap (λ (x : CodeMethod). x.home) it.2)) ∙ it.1 ∙ ap (λ (x : CodeMethod). Some x.method) it.2)
listed_back_by p typed n m (inr e) =
    let it = instance_back p.instances e.0 m (instance_names p typed) e.1 in
    (it.number, ap (λ h. slice_get (methods_of p h) it.number) it.owner ∙ it.there)

pub listed_back : (p : UnitTree) → IsTypedUnit p → (n : ℕ) (m : CodeMethod) → slice_get (code_methods p) n ≡ Some m → (k : ℕ) × (slice_get (methods_of p m.home) k ≡ Some m.method)
listed_back p typed n m e = listed_back_by p typed n m (slice_split (methods_at None p.methods) (instances_methods p.instances) n m e)

-- ---- the last instruction of a body

system_stops : (numbers : CodeNumbers) (at : ℕ) (body : BodyTree) (written : List ℕ) → Stops (body_code numbers at body (outputs_code written ++ instr.End ∷ []))
system_stops numbers at body written =
    let con = statements_code numbers (body_start numbers at body) 0 (unit_exits (body_end numbers at body)) body.statements in
    let ending = outputs_code written ++ instr.End ∷ [] in
    stops_behind (locals_code numbers body.locals) (con ++ ending) (stops_behind con ending (stops_behind (outputs_code written) (instr.End ∷ []) refl))

ending_stops : (o : Option Ty) → Stops (method_ending o)
ending_stops None = refl
ending_stops (Some ty) = refl

method_stops : (numbers : CodeNumbers) (at : ℕ) (m : MethodTree) → Stops (method_code numbers at m)
method_stops numbers at m =
    stops_behind (statements_code numbers at 0 (method_exits (method_end numbers at m) (is_some m.returns)) m.body) (method_ending m.returns) (ending_stops m.returns)

-- ---- the bodies of a typed program

module _ (run : StatementsRun) (values : EachValueHasType) (p : UnitTree) (params : List (Option Ty)) (typed : IsTypedUnit p) (limits : FitsCodeLimits p) (stage : StageParametersFit p params) where
  init_at : (at : ℕ) → BodyRuns (program_code p) params at (init_body p)
  init_at at =
      let first = layout_size p in
      let own = init_slots values p in
      let is = IsTypedUnit.init typed in
      let constants = init_typed p None (output_sources p) (system_placement p first p.init) in
      let code = code_of_body at (init_body p) in (
        system_runs (program_code p) params (init_numbers p) p.init [] (locals_lead p params first p.init own is.0.1 [] p.init.locals refl is.0.0) (init_statements_run run p params typed limits first p.init own constants limits.init stage is.0 is.1) refl
            (is_open at (points_of (program_code p) params OfUnit [] code)) at (own_places (program_code p) params OfUnit code at),
        system_stops (init_numbers p) at p.init [],
      )

  run_at : (at : ℕ) → BodyRuns (program_code p) params at (run_body p)
  run_at at =
      let first = first_of_run p in
      let own = run_slots values p in
      let is = IsTypedUnit.run typed in
      let constants = run_typed p None (output_sources p) (system_placement p first p.run) in
      let code = code_of_body at (run_body p) in (
        system_runs (program_code p) params (run_numbers p) p.run (implicit_outputs p) (locals_lead p params first p.run own is.0.1 [] p.run.locals refl is.0.0) (body_statements_run run p params typed limits first p.run own constants limits.run is)
            (implicit_lead p params typed limits first own) (is_open at (points_of (program_code p) params OfUnit [] code)) at (own_places (program_code p) params OfUnit code at),
        system_stops (run_numbers p) at p.run (implicit_outputs p),
      )

  term_at : (at : ℕ) → BodyRuns (program_code p) params at (term_body p)
  term_at at =
      let first = first_of_term p in
      let own = term_slots values p in
      let is = IsTypedUnit.term typed in
      let constants = term_typed p None (output_sources p) (system_placement p first p.term) in
      let code = code_of_body at (term_body p) in (
        system_runs (program_code p) params (term_numbers p) p.term [] (locals_lead p params first p.term own is.0.1 [] p.term.locals refl is.0.0) (body_statements_run run p params typed limits first p.term own constants limits.term is) refl
            (is_open at (points_of (program_code p) params OfUnit [] code)) at (own_places (program_code p) params OfUnit code at),
        system_stops (term_numbers p) at p.term [],
      )

  method_at : (n : ℕ) (m : CodeMethod) → slice_get (code_methods p) n ≡ Some m → (at : ℕ) → BodyRuns (program_code p) params at (method_body p m)
  method_at n m e at =
      let it = listed_back p typed n m e in
      let code = code_of_body at (method_body p m) in (
        method_runs run p params typed limits m.home it.0 m.method it.1 (method_typed_at p typed m.home it.0 m.method it.1) (method_typed p m.home [] (method_placement p m.method) n m e)
            (is_open at (points_of (program_code p) params (role_of m.method) [] code)) at (own_places (program_code p) params (role_of m.method) code at),
        method_stops (method_numbers p m) at m.method,
      )

  methods_run : (at : ℕ) (methods : List CodeMethod) → ((n : ℕ) (m : CodeMethod) → slice_get methods n ≡ Some m → (at : ℕ) → BodyRuns (program_code p) params at (method_body p m)) → BodiesRun (program_code p) params at (map (method_body p) methods)
  methods_run at [] each = tt
  methods_run at (m ∷ methods) each = (each 0 m refl at, methods_run (at + length (code_of_body at (method_body p m))) methods (λ n x e to. each (suc n) x e to))

  bodies_run : BodiesRun (program_code p) params 0 (code_bodies p)
  bodies_run =
      let second = 0 + length (code_of_body 0 (init_body p)) in
      let third = second + length (code_of_body second (run_body p)) in
      let last = third + length (code_of_body third (term_body p)) in
      (init_at 0, (run_at second, (term_at third, methods_run last (code_methods p) method_at)))

pub typed_code_has_types : EachValueHasType → StatementsRun → TypedCodeHasTypes
typed_code_has_types values run p params typed limits stage =
    let runs = bodies_run run values p params typed limits stage in
    (all_points p params runs, operand_types p params runs)
