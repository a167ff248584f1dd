-- The code of each body of a typed program runs from no operand to none.
use Rattle.std.proofs.Common.{◌≡◌, ℕ, zero, suc, ◌+◌, ◌<◌, ◌≤◌, Bool, true, false, List, [], ◌∷◌, ◌++◌, length, map, slice_get, nat_eq, eq-eqb, Option, Some, None, IsTrue, is_some, refl, sym, ap, ◌∙◌, subst, arith, if◌then◌else◌}
use Rattle.std.specs.List.{range_with_len}
use Rattle.std.specs.Option.{option_map}
use Rattle.std.proofs.lemmas.Bool.{and_from}
use Rattle.ds2_value.specs.Types.{same_ty, in_bounds}
use Rattle.ds2_value.specs.declared.ty.Ty.{Ty}
use Rattle.ds2_value.specs.declared.ty.Ty.TheVariants.{BigInt, Decimal as DecimalOf, Char, Varchar}
use Rattle.ds2_meaning.specs.declared.globals.Variable.{Variable}
use Rattle.ds2_meaning.specs.IsTyped.{AreInBounds, AreTypedVariables, are_distinct, variable_names, thread_parameters, HasConstructorArguments, IsTypedMethod, AreOutputs, AreBehindConstructors, names_in_method, names_in_body, names_in_init, IsTypedBody, IsTypedUnit}
use Rattle.ds2_meaning.specs.Location.{Home}
use Rattle.ds2_meaning.specs.Method.{MethodTree}
use Rattle.ds2_meaning.specs.ProgramTree.{BodyTree, InstanceTree, UnitTree, methods_of, objects_of, program_has_output}
use Rattle.ds2_meaning.specs.TypedExpression.{TypedArguments}
use Rattle.ds2_meaning.specs.TypedStatement.{Construct, TypedStatements, Next}
use Rattle.ds2_code.specs.declared.instr.Instr.TheVariants as instr
use Rattle.ds2_code.specs.declared.parts.OutputPart.{OutputPart}
use Rattle.ds2_code.specs.declared.parts.ProgramParts.{ProgramParts}
use Rattle.ds2_code.specs.OperandTypes.{Signature, CodeRole, OfUnit, OfMethod, signature_of, slot_type, none_for, none_below, stored_type, without_result, with_only_result}
use Rattle.ds2_gen.specs.CodeCells.{LocalNamed, SlotCell}
use Rattle.ds2_gen.specs.CodePieces.{HandsBack}
use Rattle.ds2_gen.specs.ExpressionCode.{CodeNumbers, store_instr}
use Rattle.ds2_gen.specs.MethodCode.{method_ending, method_end, method_exits, method_code}
use Rattle.ds2_gen.specs.StatementCode.{outputs_code, construct_code, statement_size, statements_size, statement_code, statements_code}
use Rattle.ds2_gen.specs.UnitCode.{locals_code, body_start, body_end, unit_exits, body_code, implicit_outputs}
use Rattle.ds2_gen.proofs.SizeLemmas.{size_is, sizes_are}
use Rattle.ds2_program_code.specs.KeptTypes.{all_types_kept}
use Rattle.ds2_program_code.specs.PlacedProgram.{names_of_variables, system_cell, system_placement}
use Rattle.ds2_program_code.specs.UsedConstants.{constants_of_arguments, constants_of_body}
use Rattle.ds2_program_code.specs.CodeParts.{code_slots, output_part}
use Rattle.ds2_program_code.specs.ProgramCode.{system_numbers, method_numbers, method_part, program_code}
use Rattle.ds2_program_code.specs.TypedCode.{FitsCodeLimits, StageParametersFit}
use Rattle.ds2_program_code.specs.TypedOperands.{OperandsLead, HaveConstantsOfTypes}
use Rattle.ds2_program_code.specs.TypedRuns.{OperandsRun, AreOpenPlaces, ReturnsOfRole, KeptHaveTypes, AllPutsAreShort, StatementsRun}
use Rattle.ds2_program_code.proofs.OperandLeads.{front_types, back_types}
use Rattle.ds2_program_code.proofs.PlainStatements.{outputs_lead, invoke_leads}
use Rattle.ds2_program_code.proofs.RunPieces.{plain_runs, runs_append, plain_then, runs_one, open_behind, open_front, Anywhere, all_open}
use Rattle.ds2_program_code.proofs.Bodies.{owned}
use Rattle.ds2_program_code.proofs.BodyTypes.{role_of, system_kept, body_types, init_types, method_kept, method_types}
use Rattle.ds2_program_code.proofs.Lists.{slice_in_front, slice_mapped, slice_below}
use Rattle.ds2_program_code.proofs.Names.{methods_from}
use Rattle.ds2_program_code.proofs.OwnSlots.{OwnSlotsHaveTypes}
use Rattle.ds2_program_code.proofs.Slots.{globals_at}
use Rattle.ds2_program_code.proofs.UnitsInTurn.{number_at}

type_self : (t : Ty) → same_ty t t ≡ true
type_self BigInt = refl
type_self (DecimalOf q s) = and_from (nat_eq q q) (nat_eq s s) (eq-eqb q q refl) (eq-eqb s s refl)
type_self (Char n) = eq-eqb n n refl
type_self (Varchar n) = eq-eqb n n refl

stored_back : (t : Ty) → stored_type (Some t) (t ∷ []) ≡ Some []
stored_back t = ap (λ b. none_for (if b then Some (record { taken = t ∷ []; below = [] }) else None)) (type_self t)

-- ---- locals of system methods

module _ (p : UnitTree) (params : List (Option Ty)) (first : ℕ) (body : BodyTree) (own : OwnSlotsHaveTypes p first body) (distinct : IsTrue (are_distinct (variable_names body.locals))) where
  item_at : (front : List Variable) (v : Variable) (vs : List Variable) → slice_get (front ++ v ∷ vs) (length front) ≡ Some v
  item_at [] v vs = refl
  item_at (x ∷ front) v vs = item_at front v vs

  one_more : (front : List Variable) (v : Variable) (vs : List Variable) → (front ++ v ∷ []) ++ vs ≡ front ++ v ∷ vs
  one_more [] v vs = refl
  one_more (x ∷ front) v vs = ap (λ l. x ∷ l) (one_more front v vs)

  -- the cell of a local, and the type of its slot
  local_cell : (k : ℕ) (v : Variable) → slice_get body.locals k ≡ Some v → system_cell p first body (LocalNamed v.name) ≡ Some (SlotCell (first + k))
  local_cell k v e =
      ap (λ o. option_map (λ n. SlotCell (first + n)) o) (number_at (names_of_variables body.locals) k v.name distinct (slice_mapped (λ (x : Variable). x.name) body.locals k ∙ ap (λ o. option_map (λ (x : Variable). x.name) o) e))

  local_slot : (k : ℕ) (v : Variable) → slice_get body.locals k ≡ Some v → slot_type (code_slots p) (first + k) ≡ Some v.ty
  local_slot k v e =
      own k v.ty (slice_in_front (map (λ (x : Variable). x.ty) body.locals) (all_types_kept body.statements) k v.ty (slice_mapped (λ (x : Variable). x.ty) body.locals k ∙ ap (λ o. option_map (λ (x : Variable). x.ty) o) e))

  pub locals_lead : (front vs : List Variable) → body.locals ≡ front ++ vs → AreInBounds vs → OperandsLead (program_code p) params OfUnit [] (locals_code (system_numbers p first body) vs) []
  locals_lead front [] whole bounds = refl
  locals_lead front (v ∷ vs) whole bounds =
      let here : slice_get body.locals (length front) ≡ Some v = ap (λ l. slice_get l (length front)) whole ∙ item_at front v vs in (
        v.ty ∷ [],
        ap (λ b. if b then Some (v.ty ∷ []) else None) bounds.0,
        refl,
        refl,
        subst (λ o. OperandsLead (program_code p) params OfUnit (v.ty ∷ []) (store_instr o ∷ locals_code (system_numbers p first body) vs) []) (sym (local_cell (length front) v here))
            ([], ap (λ t. stored_type t (v.ty ∷ [])) (local_slot (length front) v here) ∙ stored_back v.ty, refl, refl, locals_lead (front ++ v ∷ []) vs (whole ∙ sym (one_more front v vs)) bounds.1),
      )

-- ---- the statements of system methods

-- the statements of a system method run
abbrev pub SystemStatementsRun : ProgramParts → List (Option Ty) → CodeNumbers → BodyTree → Type 0
SystemStatementsRun code params numbers body =
    (open_at : ℕ → Bool) (at to : ℕ) → at + statements_size numbers body.statements ≡ to → open_at to ≡ true → AreOpenPlaces code params OfUnit open_at [] at (statements_code numbers at 0 (unit_exits to) body.statements)
    → OperandsRun code params OfUnit open_at [] (statements_code numbers at 0 (unit_exits to) body.statements) []

no_stages : {G : Type 0} (instance : List ℕ) (ps : List Variable) → thread_parameters [] instance ≡ Some ps → G
no_stages instance ps e = absurd cc

outputs_there : (p : UnitTree) (n : ℕ) → n < length p.outputs → is_some (slice_get (map (output_part p) p.outputs) n) ≡ true
outputs_there p n less =
    let it = slice_below p.outputs n less in
    ap (λ (o : Option OutputPart). is_some o) (slice_mapped (output_part p) p.outputs n ∙ ap (λ o. option_map (output_part p) o) it.1)

behind_first : (at a b to : ℕ) → at + (a + b) ≡ to → at + a + b ≡ to
behind_first at a b to e = omega arith

module _ (run : StatementsRun) (p : UnitTree) (params : List (Option Ty)) (typed : IsTypedUnit p) (limits : FitsCodeLimits p) (first : ℕ) (body : BodyTree) (own : OwnSlotsHaveTypes p first body) (have : HaveConstantsOfTypes (program_code p) (system_numbers p first body) (constants_of_body body.statements)) (puts : AllPutsAreShort body.statements) where
  -- those of `run` and `term`
  pub body_statements_run : IsTypedBody p body → SystemStatementsRun (program_code p) params (system_numbers p first body) body
  body_statements_run is open_at at to size opens places =
      run (program_code p) params OfUnit (system_numbers p first body) (names_in_body p body.locals) open_at 0 false body.statements at to (unit_exits to) (body_types p first body own typed limits is.0) (outputs_there p)
      (λ instance ps e. no_stages instance ps e) size opens places (opens, opens, opens) refl (system_kept p first body own) puts have is.1

  module _ (stage : StageParametersFit p params) (locals_typed : AreTypedVariables body.locals) where
    construct_leads : (instance : List ℕ) (constructor : Option ℕ) (arguments : TypedArguments) → HaveConstantsOfTypes (program_code p) (system_numbers p first body) (constants_of_arguments arguments)
        → HasConstructorArguments (names_in_init p body.locals) instance constructor arguments → OperandsLead (program_code p) params OfUnit [] (construct_code (system_numbers p first body) instance constructor arguments) []
    construct_leads instance None arguments constants is = refl
    construct_leads instance (Some number) arguments constants is =
        invoke_leads (program_code p) params OfUnit (system_numbers p first body) (names_in_init p body.locals) (init_types p first body own typed limits locals_typed) (Some instance) number arguments [] constants is

    -- statements behind constructors
    behind_run : (instances : List InstanceTree) (statements : TypedStatements) (open_at : ℕ → Bool) (at to : ℕ) → at + statements_size (system_numbers p first body) statements ≡ to → open_at to ≡ true
        → AreOpenPlaces (program_code p) params OfUnit open_at [] at (statements_code (system_numbers p first body) at 0 (unit_exits to) statements) → all_types_kept statements ≡ all_types_kept body.statements → AllPutsAreShort statements
        → HaveConstantsOfTypes (program_code p) (system_numbers p first body) (constants_of_body statements) → AreBehindConstructors (names_in_init p body.locals) instances statements
        → OperandsRun (program_code p) params OfUnit open_at [] (statements_code (system_numbers p first body) at 0 (unit_exits to) statements) []
    behind_run [] statements open_at at to size opens places kept short constants is =
        run (program_code p) params OfUnit (system_numbers p first body) (names_in_init p body.locals) open_at 0 false statements at to (unit_exits to) (init_types p first body own typed limits locals_typed) (outputs_there p) stage size opens places (opens, opens, opens) refl
        (subst (λ ts. KeptHaveTypes (program_code p) OfUnit (system_placement p first body) 0 ts) (sym kept) (system_kept p first body own)) short constants is
    behind_run (i ∷ instances) (Next (Construct place instance constructor arguments) rest) open_at at to size opens places kept short constants is =
        let numbers = system_numbers p first body in
        let one = Construct place instance constructor arguments in
        let next = at + statement_size numbers one in
        let front = statement_code numbers at 0 (unit_exits to) one in
        let back = statements_code numbers next 0 (unit_exits to) rest in
        let leads : OperandsLead (program_code p) params OfUnit [] front [] =
        ([], refl, refl, refl, construct_leads instance constructor arguments (front_types (program_code p) numbers (constants_of_arguments arguments) (constants_of_body rest) constants) is.2) in
        let behind = open_behind (program_code p) params OfUnit open_at Anywhere front back [] [] at next (ap (λ n. at + n) (size_is numbers at 0 (unit_exits to) one)) (plain_runs (program_code p) params OfUnit Anywhere front [] [] leads) places in
        plain_then (program_code p) params OfUnit open_at front back [] [] [] leads
        (behind_run instances rest open_at next to (behind_first at (statement_size numbers one) (statements_size numbers rest) to size) opens behind kept short.1
        (back_types (program_code p) numbers (constants_of_arguments arguments) (constants_of_body rest) constants) is.3)
    behind_run (i ∷ instances) _ open_at at to size opens places kept short constants is = absurd is

    -- those of `init`
    pub init_statements_run : AreBehindConstructors (names_in_init p body.locals) p.instances body.statements → SystemStatementsRun (program_code p) params (system_numbers p first body) body
    init_statements_run is open_at at to size opens places = behind_run p.instances body.statements open_at at to size opens places refl puts have is

-- ---- the code of system methods

ending_open : (code : ProgramParts) (params : List (Option Ty)) (open_at : ℕ → Bool) (ns : List ℕ) (at : ℕ) → AreOpenPlaces code params OfUnit open_at [] at (outputs_code ns ++ instr.End ∷ []) → open_at at ≡ true
ending_open code params open_at [] at places = places.0 refl
ending_open code params open_at (n ∷ ns) at places = places.0 refl

-- the code of a system method runs, with every place open where no operand stands
pub system_runs : (code : ProgramParts) (params : List (Option Ty)) (numbers : CodeNumbers) (body : BodyTree) (written : List ℕ) → OperandsLead code params OfUnit [] (locals_code numbers body.locals) []
    → SystemStatementsRun code params numbers body → OperandsLead code params OfUnit [] (outputs_code written) [] → (open_at : ℕ → Bool) (at : ℕ)
    → AreOpenPlaces code params OfUnit open_at [] at (body_code numbers at body (outputs_code written ++ instr.End ∷ []))
    → OperandsRun code params OfUnit open_at [] (body_code numbers at body (outputs_code written ++ instr.End ∷ [])) []
system_runs code params numbers body written lead runs outs open_at at places =
    let locals = locals_code numbers body.locals in
    let start = body_start numbers at body in
    let end = body_end numbers at body in
    let con = statements_code numbers start 0 (unit_exits end) body.statements in
    let ending = outputs_code written ++ instr.End ∷ [] in
    let at_start = open_behind code params OfUnit open_at Anywhere locals (con ++ ending) [] [] at start refl (plain_runs code params OfUnit Anywhere locals [] [] lead) places in
    let anywhere = runs Anywhere start end refl refl (all_open code params OfUnit con [] start) in
    let at_end = open_behind code params OfUnit open_at Anywhere con ending [] [] start end (ap (λ n. start + n) (sizes_are numbers start 0 (unit_exits end) body.statements)) anywhere at_start in
    plain_then code params OfUnit open_at locals (con ++ ending) [] [] [] lead
    (runs_append code params OfUnit open_at con ending [] [] []
    (runs open_at start end refl (ending_open code params open_at written end at_end) (open_front code params OfUnit open_at con ending [] start at_start))
    (plain_then code params OfUnit open_at (outputs_code written) (instr.End ∷ []) [] [] [] outs (runs_one code params OfUnit open_at instr.End [] [] [] refl tt refl)))

-- ---- outputs at the end of `run`

inside_range : (a n limit : ℕ) → a + suc n ≤ limit → a < limit
inside_range a n limit within = omega arith

rest_of_range : (a n limit : ℕ) → a + suc n ≤ limit → a + 1 + n ≤ limit
rest_of_range a n limit within = omega arith

whole_range : (n : ℕ) → 0 + n ≤ n
whole_range n = omega arith

ranged_outputs : (p : UnitTree) (locals : List Variable) (a n : ℕ) → a + n ≤ length p.outputs → AreOutputs (names_in_body p locals) (range_with_len a n)
ranged_outputs p locals a zero within = tt
ranged_outputs p locals a (suc n) within = (inside_range a n (length p.outputs) within, ranged_outputs p locals (a + 1) n (rest_of_range a n (length p.outputs) within))

outputs_by : (b : Bool) (p : UnitTree) (locals : List Variable) (ns : List ℕ) → AreOutputs (names_in_body p locals) ns → AreOutputs (names_in_body p locals) (if b then [] else ns)
outputs_by true p locals ns h = tt
outputs_by false p locals ns h = h

pub implicit_lead : (p : UnitTree) (params : List (Option Ty)) (typed : IsTypedUnit p) (limits : FitsCodeLimits p) (first : ℕ) (own : OwnSlotsHaveTypes p first p.run) → OperandsLead (program_code p) params OfUnit [] (outputs_code (implicit_outputs p)) []
implicit_lead p params typed limits first own =
    outputs_lead (program_code p) params OfUnit (system_numbers p first p.run) (names_in_body p p.run.locals) (body_types p first p.run own typed limits (IsTypedUnit.run typed).0) (implicit_outputs p) [] (outputs_there p)
    (outputs_by (program_has_output p) p p.run.locals (range_with_len 0 (length p.outputs)) (ranged_outputs p p.run.locals 0 (length p.outputs) (whole_range (length p.outputs))))

-- ---- declared methods

method_open : (code : ProgramParts) (params : List (Option Ty)) (role : CodeRole) (open_at : ℕ → Bool) (o : Option Ty) (at : ℕ) → AreOpenPlaces code params role open_at [] at (method_ending o) → open_at at ≡ true
method_open code params role open_at None at places = places.0 refl
method_open code params role open_at (Some ty) at places = places.0 refl

ending_runs : (code : ProgramParts) (params : List (Option Ty)) (signature : Signature) (open_at : ℕ → Bool) (o : Option Ty) → signature.returns ≡ o → ((ty : Ty) → o ≡ Some ty → in_bounds ty ≡ true)
    → OperandsRun code params (OfMethod signature) open_at [] (method_ending o) []
ending_runs code params signature open_at None e bounds = ([], ap (λ r. without_result r []) e, tt, refl)
ending_runs code params signature open_at (Some ty) e bounds = (
  ty ∷ [],
  ap (λ b. if b then Some (ty ∷ []) else None) (bounds ty refl),
  tt,
  ([], ap (λ r. with_only_result r (ty ∷ [])) e ∙ ap (λ b. none_below (if b then Some (record { taken = ty ∷ []; below = [] }) else None)) (type_self ty), tt, refl),
)

returns_fit : (signature : Signature) (o : Option Ty) → signature.returns ≡ o → ReturnsOfRole (OfMethod signature) (HandsBack (is_some o)) o
returns_fit signature None e = (e, refl)
returns_fit signature (Some ty) e = (e, (ty, refl))

no_outputs : {G : Type 0} (n : ℕ) → n < 0 → G
no_outputs n less = absurd (omega arith)

-- the code of a declared method runs, with every place open where no operand stands
pub method_runs : (run : StatementsRun) (p : UnitTree) (params : List (Option Ty)) (typed : IsTypedUnit p) (limits : FitsCodeLimits p) (home : Home) (k : ℕ) (m : MethodTree) → slice_get (methods_of p home) k ≡ Some m
    → IsTypedMethod (globals_at p home) (methods_from p home) (objects_of p home) m → HaveConstantsOfTypes (program_code p) (method_numbers p (owned home m)) (constants_of_body m.body)
    → (open_at : ℕ → Bool) (at : ℕ) → AreOpenPlaces (program_code p) params (role_of m) open_at [] at (method_code (method_numbers p (owned home m)) at m)
    → OperandsRun (program_code p) params (role_of m) open_at [] (method_code (method_numbers p (owned home m)) at m) []
method_runs run p params typed limits home k m e is constants open_at at places =
    let code = program_code p in
    let numbers = method_numbers p (owned home m) in
    let names = names_in_method (globals_at p home) (methods_from p home) (objects_of p home) m in
    let types = method_types p home m typed limits is.0 in
    let end = method_end numbers at m in
    let exits = method_exits end (is_some m.returns) in
    let con = statements_code numbers at 0 exits m.body in
    let ending = method_ending m.returns in
    let returns = returns_fit (signature_of (method_part 0 m)) m.returns refl in
    let puts = limits.methods home k m e in
    let anywhere : OperandsRun code params (role_of m) Anywhere [] con [] =
    run code params (role_of m) numbers names Anywhere 0 false m.body at end exits types (λ n less. no_outputs n less) (λ instance ps f. no_stages instance ps f) refl refl (all_open code params (role_of m) con [] at) (refl, refl, tt) returns (method_kept p home m) puts constants is.1 in
    let at_end = open_behind code params (role_of m) open_at Anywhere con ending [] [] at end (ap (λ n. at + n) (sizes_are numbers at 0 exits m.body)) anywhere places in
    let opens = method_open code params (role_of m) open_at m.returns end at_end in
    runs_append code params (role_of m) open_at con ending [] [] []
    (run code params (role_of m) numbers names open_at 0 false m.body at end exits types (λ n less. no_outputs n less) (λ instance ps f. no_stages instance ps f) refl opens (open_front code params (role_of m) open_at con ending [] at places) (opens, opens, tt) returns
    (method_kept p home m) puts constants is.1)
    (ending_runs code params (signature_of (method_part 0 m)) open_at m.returns refl (λ ty f. limits.results home k m ty e f))
