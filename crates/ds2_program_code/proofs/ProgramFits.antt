-- The code of a typed program is what the theorem of the generator asks for.
use Rattle.std.proofs.Common.{◌≡◌, ℕ, zero, suc, ◌+◌, ◌<◌, ◌≤◌, Bool, true, false, List, [], ◌∷◌, ◌++◌, length, map, flat_map, slice_get, Option, Some, None, is_some, IsTrue, refl, sym, ap, ◌∙◌, subst, arith, bytes_eq, codes, append-nil, length-append, le_refl, if◌then◌else◌}
use Rattle.std.specs.List.{range_with_len}
use Rattle.std.specs.Option.{option_map}
use Rattle.std.proofs.lemmas.List.{length-map}
use Rattle.ds2_value.specs.declared.ty.Ty.{Ty}
use Rattle.ds2_meaning.specs.declared.globals.Variable.{Variable}
use Rattle.ds2_meaning.specs.declared.location.Global.{Global}
use Rattle.ds2_meaning.specs.declared.methods.Parameter.{Parameter}
use Rattle.ds2_meaning.specs.HashObjects.{DeclaredObjects}
use Rattle.ds2_meaning.specs.IsTyped.{are_distinct, variable_names, names_in_method, IsTypedMethod, AreTypedMethods, AreTypedInstances, package_globals, package_methods, instance_variables, globals_of, names_in_body, names_in_init, IsTypedUnit, HasConstructorArguments, AreBehindConstructors}
use Rattle.ds2_meaning.specs.Location.{Home}
use Rattle.ds2_meaning.specs.Method.{MethodTree}
use Rattle.ds2_meaning.specs.ProgramTree.{InstanceTree, UnitTree, instance_methods, instance_objects, methods_of, objects_of, output_sources, declarations_of, program_has_output}
use Rattle.ds2_meaning.specs.TypedExpression.{TypedArguments}
use Rattle.ds2_meaning.specs.TypedStatement.{Invoke, Construct, TypedStatements, Finish, Next}
use Rattle.ds2_base.specs.declared.place.Place.{Place}
use Rattle.ds2_layout.specs.declared.slot.LayoutSlot.{LayoutSlot}
use Rattle.ds2_layout.specs.Layout.{program_slots}
use Rattle.ds2_code.specs.declared.parts.MethodPart.{MethodPart}
use Rattle.ds2_code.specs.declared.parts.ProgramParts.{ProgramParts}
use Rattle.ds2_code.specs.declared.parts.Slot.{Slot}
use Rattle.ds2_code.specs.declared.parts.SlotRole.TheVariants.{Kept}
use Rattle.ds2_gen.specs.BodyCode.{BodiesStayInList}
use Rattle.ds2_gen.specs.CodeCells.{Placement}
use Rattle.ds2_gen.specs.CodePieces.{ReturnWay, JumpsToEnd, HandsBack}
use Rattle.ds2_gen.specs.CoveredForms.{HaveOutputs, IsCoveredConstructor, AreCoveredStatements}
use Rattle.ds2_gen.specs.ExpressionCode.{Callee, CodeNumbers}
use Rattle.ds2_gen.specs.MethodCode.{IsMethodPlacement, HasMethod, MayCall, CalleeFits, CalleesFit, MethodsFit}
use Rattle.ds2_gen.specs.StatementCode.{statements_keep}
use Rattle.ds2_gen.specs.UnitCode.{body_end, plain_ending, run_ending, implicit_outputs}
use Rattle.ds2_gen.specs.UnitTheorem.{HasSystemMethod, IsCodeOfUnits}
use Rattle.ds2_program_code.specs.KeptTypes.{all_types_kept, EachValueHasType}
use Rattle.ds2_program_code.specs.PlacedProgram.{first_of_run, layout_size, first_of_term, system_placement, method_placement}
use Rattle.ds2_program_code.specs.PlacementLaws.{HasDistinctParameters, SystemMethodFits, MethodFits, ProgramIsPlaced, PlacementsFit, HaveRolesOf, LayoutRolesFit}
use Rattle.ds2_program_code.specs.TypedIsCovered.{ReturnsAs, TypedIsCovered}
use Rattle.ds2_program_code.specs.UsedConstants.{constants_of_arguments, constants_of_body, HaveConstants}
use Rattle.ds2_program_code.specs.CodeMethods.{CodeMethod, code_methods, first_method_of}
use Rattle.ds2_program_code.specs.CodeParts.{layout_slot, own_types, slots_of_body, code_slots}
use Rattle.ds2_program_code.specs.ProgramCode.{constants_of_program, body_numbers, init_numbers, run_numbers, term_numbers, method_numbers, code_bodies, run_entry, term_entry, method_part, program_code}
use Rattle.ds2_program_code.specs.ProgramCodeLaws.{numbers_of_listed, declared_numbers, TypedProgramsHaveCode}
use Rattle.ds2_program_code.proofs.Bodies.{owned, number_listed, MethodStands, declared_stands, init_stands, run_stands, term_stands, init_inside, run_inside, term_inside, entries_inside}
use Rattle.ds2_program_code.proofs.Constants.{program_constants, first_have, rest_have, method_have}
use Rattle.ds2_program_code.proofs.Homes.{distinct_front}
use Rattle.ds2_program_code.proofs.Lists.{same_some}
use Rattle.ds2_program_code.proofs.Names.{methods_from, listed_callee, names_with_parameters, body_placed, init_placed, method_placed, system_place, output_here}
use Rattle.ds2_program_code.proofs.Slots.{globals_at}

-- ---- typed methods

typed_method : (globals : Global → Option Ty) (methods : Option (List ℕ) → List MethodTree) (objects : DeclaredObjects) (listed : List MethodTree) (k : ℕ) (m : MethodTree) → AreTypedMethods globals methods objects listed → slice_get listed k ≡ Some m
    → IsTypedMethod globals methods objects m
typed_method globals methods objects [] k m typed e = absurd cc
typed_method globals methods objects (x ∷ listed) zero m typed e = subst (λ y. IsTypedMethod globals methods objects y) (same_some x m e) typed.0
typed_method globals methods objects (x ∷ listed) (suc k) m typed e = typed_method globals methods objects listed k m typed.1 e

instance_method_by : (b : Bool) (i : InstanceTree) (variables : List Variable) (methods : List MethodTree) (objects : DeclaredObjects) (k : ℕ) (m : MethodTree) → slice_get (if b then i.methods else methods) k ≡ Some m
    → AreTypedMethods (package_globals i.variables) (package_methods i.methods) i.objects i.methods
    → (slice_get methods k ≡ Some m → IsTypedMethod (package_globals variables) (package_methods methods) objects m)
    → IsTypedMethod (package_globals (if b then i.variables else variables)) (package_methods (if b then i.methods else methods)) (if b then i.objects else objects) m
instance_method_by true i variables methods objects k m e here later = typed_method (package_globals i.variables) (package_methods i.methods) i.objects i.methods k m here e
instance_method_by false i variables methods objects k m e here later = later e

instance_method_typed : (instances : List InstanceTree) (name : List ℕ) (k : ℕ) (m : MethodTree) → AreTypedInstances instances → slice_get (instance_methods instances name) k ≡ Some m
    → IsTypedMethod (package_globals (instance_variables instances name)) (package_methods (instance_methods instances name)) (instance_objects instances name) m
instance_method_typed [] name k m typed e = absurd cc
instance_method_typed (i ∷ instances) name k m typed e =
    instance_method_by (bytes_eq i.name name) i (instance_variables instances name) (instance_methods instances name) (instance_objects instances name) k m e typed.3 (λ f. instance_method_typed instances name k m typed.4 f)

pub method_typed_at : (p : UnitTree) → IsTypedUnit p → (home : Home) (k : ℕ) (m : MethodTree) → slice_get (methods_of p home) k ≡ Some m → IsTypedMethod (globals_at p home) (methods_from p home) (objects_of p home) m
method_typed_at p typed None k m e = typed_method (globals_of p) (methods_of p) p.objects p.methods k m typed.methods e
method_typed_at p typed (Some name) k m e = instance_method_typed p.instances name k m typed.instances e

distinct_parameters : (p : UnitTree) → IsTypedUnit p → (home : Home) (k : ℕ) (m : MethodTree) → slice_get (methods_of p home) k ≡ Some m → HasDistinctParameters m
distinct_parameters p typed home k m e =
    distinct_front (map (λ (x : Parameter). x.name) m.parameters) (variable_names m.locals)
    (subst (λ names. IsTrue (are_distinct names)) (names_with_parameters m.parameters m.locals) (method_typed_at p typed home k m e).0.1)

returns_as : (returns : Option Ty) → ReturnsAs (HandsBack (is_some returns)) returns
returns_as None = tt
returns_as (Some ty) = tt

-- ---- constants of bodies

module _ (p : UnitTree) (home : Home) (outputs : List (List (List ℕ))) (placement : Placement) where
  all_constants : HaveConstants (program_code p) (body_numbers p home outputs placement) (constants_of_program p)
  all_constants = program_constants (program_code p) (body_numbers p home outputs placement) p refl refl

  init_constants : HaveConstants (program_code p) (body_numbers p home outputs placement) (constants_of_body p.init.statements)
  init_constants = first_have (program_code p) (body_numbers p home outputs placement) (constants_of_body p.init.statements) (constants_of_body p.run.statements ++ (constants_of_body p.term.statements ++ flat_map (λ (m : CodeMethod). constants_of_body m.method.body) (code_methods p))) all_constants

  behind_init : HaveConstants (program_code p) (body_numbers p home outputs placement) (constants_of_body p.run.statements ++ (constants_of_body p.term.statements ++ flat_map (λ (m : CodeMethod). constants_of_body m.method.body) (code_methods p)))
  behind_init = rest_have (program_code p) (body_numbers p home outputs placement) (constants_of_body p.init.statements) (constants_of_body p.run.statements ++ (constants_of_body p.term.statements ++ flat_map (λ (m : CodeMethod). constants_of_body m.method.body) (code_methods p))) all_constants

  run_constants : HaveConstants (program_code p) (body_numbers p home outputs placement) (constants_of_body p.run.statements)
  run_constants = first_have (program_code p) (body_numbers p home outputs placement) (constants_of_body p.run.statements) (constants_of_body p.term.statements ++ flat_map (λ (m : CodeMethod). constants_of_body m.method.body) (code_methods p)) behind_init

  behind_run : HaveConstants (program_code p) (body_numbers p home outputs placement) (constants_of_body p.term.statements ++ flat_map (λ (m : CodeMethod). constants_of_body m.method.body) (code_methods p))
  behind_run = rest_have (program_code p) (body_numbers p home outputs placement) (constants_of_body p.run.statements) (constants_of_body p.term.statements ++ flat_map (λ (m : CodeMethod). constants_of_body m.method.body) (code_methods p)) behind_init

  term_constants : HaveConstants (program_code p) (body_numbers p home outputs placement) (constants_of_body p.term.statements)
  term_constants = first_have (program_code p) (body_numbers p home outputs placement) (constants_of_body p.term.statements) (flat_map (λ (m : CodeMethod). constants_of_body m.method.body) (code_methods p)) behind_run

  method_constants : (n : ℕ) (m : CodeMethod) → slice_get (code_methods p) n ≡ Some m → HaveConstants (program_code p) (body_numbers p home outputs placement) (constants_of_body m.method.body)
  method_constants n m e =
      method_have (program_code p) (body_numbers p home outputs placement) (code_methods p) n m e
      (rest_have (program_code p) (body_numbers p home outputs placement) (constants_of_body p.term.statements) (flat_map (λ (m : CodeMethod). constants_of_body m.method.body) (code_methods p)) behind_run)

-- ---- roles

kept_in_both : (xs ys : List Slot) → HaveRolesOf [] xs → HaveRolesOf [] ys → HaveRolesOf [] (xs ++ ys)
kept_in_both [] ys a b = b
kept_in_both (x ∷ xs) ys a b = (a.0, kept_in_both xs ys a.1 b)

kept_types : (name : List ℕ) (types : List Ty) → HaveRolesOf [] (map (λ (ty : Ty). record { name = name; ty = ty; role = Kept }) types)
kept_types name [] = tt
kept_types name (t ∷ types) = (refl, kept_types name types)

roles_of_layout : (layout : List LayoutSlot) (rest : List Slot) → HaveRolesOf [] rest → HaveRolesOf layout (map layout_slot layout ++ rest)
roles_of_layout [] rest kept = kept
roles_of_layout (l ∷ layout) rest kept = (refl, roles_of_layout layout rest kept)

roles_have : (p : UnitTree) → HaveRolesOf (program_slots p) (code_slots p)
roles_have p =
    let init = slots_of_body (codes "init") p.init in
    let run = slots_of_body (codes "run") p.run in
    let term = slots_of_body (codes "term") p.term in
    roles_of_layout (program_slots p) (init ++ (run ++ term))
    (kept_in_both init (run ++ term) (kept_types (codes "init") (own_types p.init)) (kept_in_both run term (kept_types (codes "run") (own_types p.run)) (kept_types (codes "term") (own_types p.term))))

-- ---- outputs at the end of `run`

outputs_in_range : (code : ProgramParts) (numbers : CodeNumbers) (a n limit : ℕ) → a + n ≤ limit → ((k : ℕ) → k < limit → HaveOutputs code numbers (k ∷ [])) → HaveOutputs code numbers (range_with_len a n)
outputs_in_range code numbers a zero limit h each = tt
outputs_in_range code numbers a (suc n) limit h each = ((each a (omega arith)).0, outputs_in_range code numbers (a + 1) n limit (omega arith) each)

outputs_by : (b : Bool) (code : ProgramParts) (numbers : CodeNumbers) (ns : List ℕ) → HaveOutputs code numbers ns → HaveOutputs code numbers (if b then [] else ns)
outputs_by true code numbers ns h = tt
outputs_by false code numbers ns h = h

-- ---- the whole

module _ (placed : PlacementsFit) (roles : LayoutRolesFit) (values : EachValueHasType) (covers : TypedIsCovered) (within : BodiesStayInList) (p : UnitTree) (typed : IsTypedUnit p) where
  frame_places : (m : MethodTree) → length (map (λ (v : Variable). v.ty) m.locals ++ all_types_kept m.body) ≡ length m.locals + statements_keep m.body
  frame_places m =
      length-append (map (λ (v : Variable). v.ty) m.locals) (all_types_kept m.body)
      ∙ ap (λ n. n + length (all_types_kept m.body)) (length-map m.locals (λ (v : Variable). v.ty))
      ∙ ap (λ n. length m.locals + n) (values m.body)

  method_here : (home : Home) (k : ℕ) (m : MethodTree) (e : slice_get (methods_of p home) k ≡ Some m) (it : MethodStands p (ProgramParts.instrs (program_code p)) (ProgramParts.methods (program_code p)) (first_method_of p home + k) (owned home m))
      → HasMethod (program_code p) (method_numbers p (owned home m)) (declarations_of p) home m (method_part it.entry m)
  method_here home k m e it =
      let is = method_typed_at p typed home k m e in
      let fits = ProgramIsPlaced.in_methods (placed p) m (distinct_parameters p typed home k m e) in
      record {
        home = refl;
        objects = refl;
        outputs = refl;
        parameters = refl;
        placement = subst (λ n. IsMethodPlacement (method_placement p m) m.parameters n) (sym (frame_places m)) fits.frame;
        covered = covers (program_code p) (method_numbers p (owned home m)) (names_in_method (globals_at p home) (methods_from p home) (objects_of p home) m) (HandsBack (is_some m.returns)) false m.body
            (method_placed p home m typed) (returns_as m.returns)
            (method_constants p home [] (method_placement p m) (first_method_of p home + k) (owned home m) (number_listed p home k m e)) is.1;
        kept = le_refl (statements_keep m.body);
        stands = it.code;
      }

  module _ (own : Home) (outputs : List (List (List ℕ))) (placement : Placement) (may : (m : MethodTree) → MayCall placement (method_placement p m)) where
    callee_by : (home : Home) (k : ℕ) (callee : Callee) (part : MethodPart) (o : Option MethodTree) → slice_get (methods_of p home) k ≡ o
        → option_map (listed_callee p home k) o ≡ Some callee → slice_get (ProgramParts.methods (program_code p)) callee.number ≡ Some part
        → CalleeFits (program_code p) (declarations_of p) (declared_numbers p) (body_numbers p own outputs placement) home k callee part
    callee_by home k callee part None e here coded = absurd cc
    callee_by home k callee part (Some m) e here coded =
        let first = listed_callee p home k m in
        let one : first ≡ callee = same_some first callee here in
        let it = declared_stands p (first_method_of p home + k) (owned home m) (number_listed p home k m e) in
        let same : method_part it.entry m ≡ part = same_some (method_part it.entry m) part (sym it.part ∙ ap (λ (c : Callee). slice_get (ProgramParts.methods (program_code p)) c.number) one ∙ coded) in
        subst (λ x. CalleeFits (program_code p) (declarations_of p) (declared_numbers p) (body_numbers p own outputs placement) home k callee x) same
        (subst (λ c. CalleeFits (program_code p) (declarations_of p) (declared_numbers p) (body_numbers p own outputs placement) home k c (method_part it.entry m)) one
        (record {
          method = m;
          listed = e;
          result = refl;
          body = subst (λ o. HasMethod (program_code p) (numbers_of_listed p home o) (declarations_of p) home m (method_part it.entry m)) (sym e) (method_here home k m e it);
          may = subst (λ o. MayCall placement (CodeNumbers.placement (numbers_of_listed p home o))) (sym e) (may m);
        }))

    callees_fit : CalleesFit (program_code p) (declarations_of p) (declared_numbers p) (body_numbers p own outputs placement)
    callees_fit home k callee part here coded = callee_by home k callee part (slice_get (methods_of p home) k) refl here coded

  inner_fits : MethodsFit (program_code p) (declarations_of p) (declared_numbers p)
  inner_fits home k m e =
      subst (λ o. CalleesFit (program_code p) (declarations_of p) (declared_numbers p) (numbers_of_listed p home o)) (sym e)
      (callees_fit home [] (method_placement p m) (λ other. MethodFits.further_calls (ProgramIsPlaced.in_methods (placed p) m (distinct_parameters p typed home k m e)) other))

  -- constructors

  constructor_covered : (place : Place) (way : ReturnWay) → ReturnsAs way None → (instance : List ℕ) (constructor : Option ℕ) (arguments : TypedArguments) → HaveConstants (program_code p) (init_numbers p) (constants_of_arguments arguments)
      → HasConstructorArguments (names_in_init p p.init.locals) instance constructor arguments → IsCoveredConstructor (program_code p) (init_numbers p) instance constructor arguments
  constructor_covered place way agrees instance None arguments have is = tt
  constructor_covered place way agrees instance (Some number) arguments have is =
      (covers (program_code p) (init_numbers p) (names_in_init p p.init.locals) way false (Next (Invoke place (Some instance) number arguments) Finish) (init_placed p (layout_size p) p.init typed) agrees
      (subst (λ cs. HaveConstants (program_code p) (init_numbers p) cs) (sym (append-nil (constants_of_arguments arguments))) have) (is, tt)).0

  behind_covered : (way : ReturnWay) → ReturnsAs way None → (instances : List InstanceTree) (body : TypedStatements) → HaveConstants (program_code p) (init_numbers p) (constants_of_body body)
      → AreBehindConstructors (names_in_init p p.init.locals) instances body → AreCoveredStatements (program_code p) (init_numbers p) way body
  behind_covered way agrees [] body have is = covers (program_code p) (init_numbers p) (names_in_init p p.init.locals) way false body (init_placed p (layout_size p) p.init typed) agrees have is
  behind_covered way agrees (i ∷ instances) (Next (Construct place instance constructor arguments) rest) have is = (
    constructor_covered place way agrees instance constructor arguments (first_have (program_code p) (init_numbers p) (constants_of_arguments arguments) (constants_of_body rest) have) is.2,
    behind_covered way agrees instances rest (rest_have (program_code p) (init_numbers p) (constants_of_arguments arguments) (constants_of_body rest) have) is.3,
  )
  behind_covered way agrees (i ∷ instances) _ have is = absurd is

  -- system methods

  init_has : HasSystemMethod (program_code p) (declared_numbers p) (init_numbers p) p p.init 0 plain_ending
  init_has = record {
    home = refl;
    objects = refl;
    outputs = refl;
    placement = SystemMethodFits.placed (ProgramIsPlaced.in_init (placed p));
    covered = behind_covered (JumpsToEnd (body_end (init_numbers p) 0 p.init)) tt p.instances p.init.statements (init_constants p None (output_sources p) (system_placement p (layout_size p) p.init)) (IsTypedUnit.init typed).1;
    kept = le_refl (statements_keep p.init.statements);
    stands = init_stands p;
    inside = init_inside p;
    callees = callees_fit None (output_sources p) (system_placement p (layout_size p) p.init) (λ m. SystemMethodFits.calls (ProgramIsPlaced.in_init (placed p)) m);
  }

  run_has : HasSystemMethod (program_code p) (declared_numbers p) (run_numbers p) p p.run (run_entry p) (run_ending p)
  run_has = record {
    home = refl;
    objects = refl;
    outputs = refl;
    placement = SystemMethodFits.placed (ProgramIsPlaced.in_run (placed p));
    covered = covers (program_code p) (run_numbers p) (names_in_body p p.run.locals) (JumpsToEnd (body_end (run_numbers p) (run_entry p) p.run)) false p.run.statements (body_placed p (first_of_run p) p.run typed) tt
        (run_constants p None (output_sources p) (system_placement p (first_of_run p) p.run)) (IsTypedUnit.run typed).1;
    kept = le_refl (statements_keep p.run.statements);
    stands = run_stands p;
    inside = run_inside p;
    callees = callees_fit None (output_sources p) (system_placement p (first_of_run p) p.run) (λ m. SystemMethodFits.calls (ProgramIsPlaced.in_run (placed p)) m);
  }

  term_has : HasSystemMethod (program_code p) (declared_numbers p) (term_numbers p) p p.term (term_entry p) plain_ending
  term_has = record {
    home = refl;
    objects = refl;
    outputs = refl;
    placement = SystemMethodFits.placed (ProgramIsPlaced.in_term (placed p));
    covered = covers (program_code p) (term_numbers p) (names_in_body p p.term.locals) (JumpsToEnd (body_end (term_numbers p) (term_entry p) p.term)) false p.term.statements (body_placed p (first_of_term p) p.term typed) tt
        (term_constants p None (output_sources p) (system_placement p (first_of_term p) p.term)) (IsTypedUnit.term typed).1;
    kept = le_refl (statements_keep p.term.statements);
    stands = term_stands p;
    inside = term_inside p;
    callees = callees_fit None (output_sources p) (system_placement p (first_of_term p) p.term) (λ m. SystemMethodFits.calls (ProgramIsPlaced.in_term (placed p)) m);
  }

  implicit_have : HaveOutputs (program_code p) (run_numbers p) (implicit_outputs p)
  implicit_have =
      outputs_by (program_has_output p) (program_code p) (run_numbers p) (range_with_len 0 (length p.outputs))
      (outputs_in_range (program_code p) (run_numbers p) 0 (length p.outputs) (length p.outputs) (omega arith)
      (λ k less. (output_here p (system_placement p (first_of_run p) p.run) (system_place p (first_of_run p) p.run) typed.outputs k less, tt)))

  pub program_fits : IsCodeOfUnits (program_code p) p (init_numbers p) (run_numbers p) (term_numbers p) (declared_numbers p)
  program_fits =
      let inside = within (program_code p) (code_bodies p) refl (entries_inside p) in
      record {
        at_init = init_has;
        at_run = run_has;
        at_term = term_has;
        inner = inner_fits;
        implicit = implicit_have;
        roles = roles (program_code p) p (roles_have p);
        jumps = inside.0;
        stays = inside.1;
      }

pub typed_programs_have_code : PlacementsFit → LayoutRolesFit → EachValueHasType → TypedIsCovered → BodiesStayInList → TypedProgramsHaveCode
typed_programs_have_code placed roles values covers within p typed = program_fits placed roles values covers within p typed
