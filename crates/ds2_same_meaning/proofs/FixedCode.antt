-- What is fixed in the tree of a typed program is fixed in its code.
use Rattle.std.proofs.Common.{◌≡◌, ℕ, zero, suc, ◌+◌, ◌-◌, ◌<◌, ◌≤◌, Bool, true, false, not, ◌&&◌, List, [], ◌∷◌, ◌++◌, map, flat_map, length, slice_get, bytes_eq, codes, is_some, Option, Some, None, inl, inr, refl, sym, ap, ◌∙◌, subst, arith, length-append, if◌then◌else◌}
use Rattle.std.specs.List.{AllByRecursion}
use Rattle.std.specs.Option.{option_map, option_map_or}
use Rattle.std.specs.Prelude.{◌⊎◌}
use Rattle.std.proofs.lemmas.Bool.{true≢false, and_parts, not-true, or_left, or_right}
use Rattle.std.proofs.lemmas.Slice.Eq.{bytes_eq-Decides}
use Rattle.ds2_value.specs.declared.fault.TheConstants.{CALL_DEPTH}
use Rattle.ds2_value.specs.declared.ty.Ty.{Ty}
use Rattle.ds2_meaning.specs.declared.globals.Variable.{Variable}
use Rattle.ds2_meaning.specs.declared.location.Global.TheVariants.{Named, Parameter}
use Rattle.ds2_meaning.specs.declared.readings.ByVariable.{ByVariable}
use Rattle.ds2_meaning.specs.declared.readings.Input.{Input}
use Rattle.ds2_meaning.specs.IsTyped.{is_by, is_flag_of, is_present}
use Rattle.ds2_meaning.specs.Location.{Location, is_same_location}
use Rattle.ds2_meaning.specs.Method.{MethodTree}
use Rattle.ds2_meaning.specs.ProgramTree.{InstanceTree, UnitTree, data_vector, has_variable, is_listed, output_sources, declarations_of}
use Rattle.ds2_meaning.specs.Reading.{inputs_of, bys_of, is_column}
use Rattle.ds2_layout.specs.declared.slot.LayoutSlot.{LayoutSlot}
use Rattle.ds2_layout.specs.declared.slot.SlotRole.TheVariants as layout_role
use Rattle.ds2_layout.specs.Layout.{vector_role, slot_for, vector_slots, parameter_slots, input_flag_slots, by_flag_slots, instance_slots, program_slots, location_of_slot}
use Rattle.ds2_code.specs.declared.instr.Instr.{Instr}
use Rattle.ds2_code.specs.declared.instr.Instr.TheVariants as instr
use Rattle.ds2_code.specs.declared.parts.MethodPart.{MethodPart}
use Rattle.ds2_code.specs.declared.parts.Slot.{Slot}
use Rattle.ds2_code.specs.CodeBound.{jump_target, falls_through}
use Rattle.ds2_code.specs.InstructionTable.{Kind, kind_of}
use Rattle.ds2_gen.specs.BodyCode.{CodeBody, OfMethod, code_of_body, BodiesStayInList}
use Rattle.ds2_gen.specs.CodeCells.{Nameable, GlobalAt, is_same_nameable, SlotCell}
use Rattle.ds2_gen.specs.CodePieces.{StandsAt, JumpsToEnd, HandsBack}
use Rattle.ds2_gen.specs.ExpressionCode.{CodeNumbers}
use Rattle.ds2_gen.specs.MethodCode.{HasMethod, method_ending, method_end, method_exits}
use Rattle.ds2_gen.specs.StatementCode.{store_kept, outputs_code, statements_code}
use Rattle.ds2_gen.specs.UnitCode.{implicit_outputs, locals_code, body_start, body_end, unit_exits}
use Rattle.ds2_gen.specs.UnitTheorem.{IsCodeOfUnits}
use Rattle.ds2_program_code.specs.PlacedProgram.{slot_locations, program_cell, layout_size, first_of_run, own_slots}
use Rattle.ds2_program_code.specs.PlacementLaws.{code_role}
use Rattle.ds2_program_code.proofs.Placements.{global_cell, location_is}
use Rattle.ds2_program_code.specs.CodeMethods.{CodeMethod, callee_of}
use Rattle.ds2_program_code.specs.CodeParts.{layout_slot, code_slots, slots_of_body}
use Rattle.ds2_program_code.specs.ProgramCode.{init_numbers, run_numbers, term_numbers, method_numbers, run_body, run_entry, program_code}
use Rattle.ds2_program_code.specs.ProgramCodeLaws.{numbers_of_listed, declared_numbers, TypedProgramsHaveCode}
use Rattle.ds2_program_code.proofs.Lists.{same_some, slice_in_front, slice_mapped, slice_below, number_passes, number_inside}
use Rattle.ds2_locality.specs.Deeds.{MethodAt, method_scope, deeds_of_method, body_deeds, run_can_change}
use Rattle.ds2_locality.specs.KeptLocations.{is_kept}
use Rattle.ds2_locality.proofs.Frame.{AreAllowed, Any}
use Rattle.ds2_locality.proofs.Kept.{Apart, run_allowed}
use Rattle.ds2_locality.proofs.Reached.{Safe}
use Rattle.ds2_same_meaning.specs.FixedInCode.{DataLocation, SlotAt, HashAt, IteratorAt, ParameterAt, kind_changes, GoesTo, CallsTo, IsReachedIn, CanBeReached, is_kept_role, is_kept_in_code}
use Rattle.ds2_same_meaning.specs.IndependenceInCode.{cell_of_data, FixedIsFixedInCode}
use Rattle.ds2_same_meaning.proofs.BodyRegions.{jumps_within, next_within}
use Rattle.ds2_same_meaning.proofs.CodeDeeds.{all_both, other_number, IsAllowedCall, CallsAllowed, Spares, system_spared, method_spared}

-- ---- lists

each_at : {X : Type 0} (P : X → Type 0) (xs : List X) (n : ℕ) (x : X) → AllByRecursion P xs → slice_get xs n ≡ Some x → P x
each_at P [] n x all e = absurd cc
each_at P (y ∷ xs) zero x all e = subst P (same_some y x e) all.0
each_at P (y ∷ xs) (suc n) x all e = each_at P xs n x all.1 e

stands_there : (all : List Instr) (start : ℕ) (is : List Instr) (j at : ℕ) (i : Instr) → start + j ≡ at → StandsAt all start is → slice_get is j ≡ Some i → slice_get all at ≡ Some i
stands_there all start [] j at i e stands here = absurd cc
stands_there all start (x ∷ is) zero at i e stands here = let same : at ≡ start = omega (arith, e) in ap (λ n. slice_get all n) same ∙ stands.0 ∙ here
stands_there all start (x ∷ is) (suc j) at i e stands here = stands_there all (start + 1) is j at i (omega (arith, e)) stands.1 here

longer : (xs ys : List Instr) → 0 < length ys → 0 < length (xs ++ ys)
longer xs ys less = let sum = length-append xs ys in omega (arith, less, sum)

-- ---- roles

-- the role of a slot of the layout tells whether its location is kept from one load to the next
abbrev RoleTells : UnitTree → LayoutSlot → Type 0
RoleTells p l = is_kept_role (code_role l.role) ≡ is_kept p (location_of_slot l)

abbrev RolesTell : UnitTree → List LayoutSlot → Type 0
RolesTell p ls = AllByRecursion (RoleTells p) ls

vector_by : (held retained column : Bool) → held ≡ true
    → is_kept_role (code_role (if column then layout_role.Column else if retained then layout_role.Kept else layout_role.Cleared)) ≡ (not column && not (held && not retained && not column))
vector_by true true true e = refl
vector_by true true false e = refl
vector_by true false true e = refl
vector_by true false false e = refl
vector_by false retained column e = absurd (true≢false (sym e))

vector_tells : (p : UnitTree) (vs : List Variable) → ((name : List ℕ) → has_variable vs name ≡ true → has_variable (data_vector p) name ≡ true)
    → RolesTell p (map (λ (v : Variable). slot_for None (Named v.name) v.ty (vector_role p v.name)) vs)
vector_tells p [] all = tt
vector_tells p (v ∷ vs) all = (
  vector_by (has_variable (data_vector p) v.name) (is_listed p.retained v.name) (is_column p.reading v.name) (all v.name (or_left (bytes_eq v.name v.name) (has_variable vs v.name) ((bytes_eq-Decides v.name v.name).1 refl))),
  vector_tells p vs (λ name h. all name (or_right (bytes_eq v.name name) (has_variable vs name) h)),
)

parameters_tell : (p : UnitTree) (vs : List Variable) → RolesTell p (map (λ (v : Variable). slot_for None (Parameter v.name) v.ty layout_role.Kept) vs)
parameters_tell p [] = tt
parameters_tell p (v ∷ vs) = (refl, parameters_tell p vs)

-- a flag is none that is kept
flag_by : (b : Bool) → b ≡ true → false ≡ (not b && true)
flag_by true e = refl
flag_by false e = absurd (true≢false (sym e))

then_true : (a b : Bool) → a ≡ true → (if a then true else b) ≡ true
then_true true b e = refl
then_true false b e = absurd (true≢false (sym e))

else_true : (a b : Bool) → b ≡ true → (if a then true else b) ≡ true
else_true true b e = refl
else_true false b e = e

flags_by : (p : UnitTree) (i : Input) (o : Option (List ℕ)) → ((name : List ℕ) → is_flag_of o name ≡ true → is_present (inputs_of p.reading) name ≡ true) → RolesTell p (input_flag_slots (record i { present = o }))
flags_by p i None all = tt
flags_by p i (Some name) all = (flag_by (is_present (inputs_of p.reading) name) (all name ((bytes_eq-Decides name name).1 refl)), tt)

input_flags_tell : (p : UnitTree) (inputs : List Input) → ((name : List ℕ) → is_present inputs name ≡ true → is_present (inputs_of p.reading) name ≡ true) → RolesTell p (flat_map input_flag_slots inputs)
input_flags_tell p [] all = tt
input_flags_tell p (i ∷ inputs) all =
    all_both (RoleTells p) (input_flag_slots i) (flat_map input_flag_slots inputs) (flags_by p i i.present (λ name h. all name (then_true (is_flag_of i.present name) (is_present inputs name) h)))
    (input_flags_tell p inputs (λ name h. all name (else_true (is_flag_of i.present name) (is_present inputs name) h)))

by_flags_tell : (p : UnitTree) (bys : List ByVariable) → ((name : List ℕ) → is_by bys name ≡ true → is_by (bys_of p.reading) name ≡ true) → RolesTell p (flat_map by_flag_slots bys)
by_flags_tell p [] all = tt
by_flags_tell p (b ∷ bys) all =
    let known = all b.name (then_true (bytes_eq b.name b.name) (is_by bys b.name) ((bytes_eq-Decides b.name b.name).1 refl)) in
    (flag_by (is_by (bys_of p.reading) b.name) known, (flag_by (is_by (bys_of p.reading) b.name) known, by_flags_tell p bys (λ name h. all name (else_true (bytes_eq b.name name) (is_by bys name) h))))

instance_tells : (p : UnitTree) (name : List ℕ) (vs : List Variable) → RolesTell p (map (λ (v : Variable). slot_for (Some name) (Named v.name) v.ty layout_role.Kept) vs)
instance_tells p name [] = tt
instance_tells p name (v ∷ vs) = (refl, instance_tells p name vs)

instances_tell : (p : UnitTree) (instances : List InstanceTree) → RolesTell p (flat_map instance_slots instances)
instances_tell p [] = tt
instances_tell p (i ∷ instances) = all_both (RoleTells p) (instance_slots i) (flat_map instance_slots instances) (instance_tells p i.name i.variables) (instances_tell p instances)

roles_tell : (p : UnitTree) → RolesTell p (program_slots p)
roles_tell p =
    let flags = flat_map input_flag_slots (inputs_of p.reading) in
    let bys = flat_map by_flag_slots (bys_of p.reading) in
    let own = vector_slots p ++ parameter_slots p in
    all_both (RoleTells p) (own ++ flags ++ bys) (flat_map instance_slots p.instances)
    (all_both (RoleTells p) (own ++ flags) bys
    (all_both (RoleTells p) own flags (all_both (RoleTells p) (vector_slots p) (parameter_slots p) (vector_tells p (data_vector p) (λ name h. h)) (parameters_tell p p.parameters))
    (input_flags_tell p (inputs_of p.reading) (λ name h. h))) (by_flags_tell p (bys_of p.reading) (λ name h. h))) (instances_tell p p.instances)

mapped_slot : (slots : List LayoutSlot) (n : ℕ) (y : Location) → slice_get (map location_of_slot slots) n ≡ Some y → (l : LayoutSlot) × (slice_get slots n ≡ Some l) × (location_of_slot l ≡ y)
mapped_slot [] n y e = absurd cc
mapped_slot (l ∷ slots) zero y e = (l, refl, same_some (location_of_slot l) y e)
mapped_slot (l ∷ slots) (suc n) y e = mapped_slot slots n y e

-- a slot is kept from one load to the next where its location is
pub slot_is_kept : (p : UnitTree) (at : Location) (n : ℕ) → program_cell p at ≡ Some (SlotCell n) → is_kept_in_code (program_code p) (SlotAt n) ≡ is_kept p at
slot_is_kept p at n placed =
    let it = number_passes (λ other. is_same_location at other) (slot_locations p) n (global_cell p at (SlotCell n) placed) in
    let slot = mapped_slot (program_slots p) n it.0 it.1 in
    let rest = slots_of_body (codes "init") p.init ++ (slots_of_body (codes "run") p.run ++ slots_of_body (codes "term") p.term) in
    let coded : slice_get (map layout_slot (program_slots p)) n ≡ Some (layout_slot slot.0) = slice_mapped layout_slot (program_slots p) n ∙ ap (λ o. option_map layout_slot o) slot.1 in
    let here : slice_get (code_slots p) n ≡ Some (layout_slot slot.0) = slice_in_front (map layout_slot (program_slots p)) rest n (layout_slot slot.0) coded in
    ap (λ (o : Option Slot). option_map_or (λ (s : Slot). is_kept_role s.role) o false) here ∙ each_at (RoleTells p) (program_slots p) n slot.0 (roles_tell p) slot.1
    ∙ ap (is_kept p) (slot.2 ∙ sym (location_is at it.0 it.2))

-- ---- bodies

-- the values that `run` keeps for itself lie behind the layout's slots
run_keeps : (p : UnitTree) (x : Location) (there : DataLocation) → program_cell p x ≡ Some (cell_of_data there) → (n : ℕ) → kind_changes (program_code p) (kind_of (store_kept (run_numbers p) n)) there ≡ false
run_keeps p x (SlotAt m) placed n =
    let less : m < layout_size p = number_inside (λ other. is_same_location x other) (slot_locations p) m (global_cell p x (SlotCell m) placed) in
    other_number m (first_of_run p + length p.run.locals + n) (λ e. let same : m ≡ layout_size p + own_slots p.init + length p.run.locals + n = e in omega (arith, less, same))
run_keeps p x (HashAt m) placed n = refl
run_keeps p x (IteratorAt m) placed n = refl
run_keeps p x (ParameterAt m) placed n = refl

module _ (p : UnitTree) (c : IsCodeOfUnits (program_code p) p (init_numbers p) (run_numbers p) (term_numbers p) (declared_numbers p)) (within : BodiesStayInList) (x : Location) (there : DataLocation)
    (placed : program_cell p x ≡ Some (cell_of_data there)) where
  -- a method, and those that it calls so many calls deep, do not change x
  abbrev Deep : ℕ → MethodAt → Type 0
  Deep k m = Safe p Any Any (Apart x) k m

  abbrev SparesSo : ℕ → Instr → Type 0
  SparesSo k i = Spares (program_code p) (callee_of p) there (Deep k) i

  -- an instruction of the code of a body that does not change x, and calls no method that does so, so many calls deep
  record InBody (k at : ℕ) : Type 0 where
    start : ℕ
    numbers : CodeNumbers
    body : CodeBody
    place : ℕ
    is : start + place ≡ at
    inside : place < length (code_of_body start body)
    stands : StandsAt (program_code p).instrs start (code_of_body start body)
    spares : AllByRecursion (SparesSo k) (code_of_body start body)

  stands_so : (k at : ℕ) (b : InBody k at) (i : Instr) → slice_get (program_code p).instrs at ≡ Some i → slice_get (code_of_body b.start b.body) b.place ≡ Some i
  stands_so k at b i here =
      let it = slice_below (code_of_body b.start b.body) b.place b.inside in
      it.1 ∙ ap Some (same_some it.0 i (sym (stands_there (program_code p).instrs b.start (code_of_body b.start b.body) b.place at it.0 b.is b.stands it.1) ∙ here))

  spared_so : (k at : ℕ) (b : InBody k at) (i : Instr) → slice_get (program_code p).instrs at ≡ Some i → SparesSo k i
  spared_so k at b i here = each_at (SparesSo k) (code_of_body b.start b.body) b.place i b.spares (stands_so k at b i here)

  moved : (k at to place : ℕ) (b : InBody k at) → b.start + place ≡ to → place < length (code_of_body b.start b.body) → InBody k to
  moved k at to place b is inside = record { start = b.start; numbers = b.numbers; body = b.body; place = place; is = is; inside = inside; stands = b.stands; spares = b.spares }

  goes_on : (k at to : ℕ) → InBody k at → GoesTo (program_code p) at to → InBody k to
  goes_on k at to b g = by g.goes
    where
      here : slice_get (code_of_body b.start b.body) b.place ≡ Some g.instr
      here = stands_so k at b g.instr g.here

      by : ((falls_through (kind_of g.instr) ≡ true) × (to ≡ at + 1)) ⊎ (jump_target (kind_of g.instr) ≡ Some to) → InBody k to
      by (inl next) = let e = next.1 in let f = b.is in moved k at to (b.place + 1) b (omega (arith, e, f)) (next_within within (program_code p) b.numbers b.start b.body b.place g.instr here next.0)
      by (inr jumps) =
          let it = jumps_within within (program_code p) b.numbers b.start b.body b.place to g.instr here jumps in
          let least : b.start ≤ to = it.0 in
          let less : to < b.start + length (code_of_body b.start b.body) = it.1 in
          moved k at to (to - b.start) b (omega (arith, least)) (omega (arith, least, less))

  -- ---- calls

  ending_there : (o : Option Ty) → 0 < length (method_ending o)
  ending_there None = omega arith
  ending_there (Some ty) = omega arith

  other_cell : (numbers : CodeNumbers) → ((y z : Nameable) → numbers.placement.cell y ≡ Some (cell_of_data there) → numbers.placement.cell z ≡ Some (cell_of_data there) → is_same_nameable y z ≡ true)
      → numbers.placement.cell (GlobalAt x) ≡ Some (cell_of_data there) → (y : Nameable) → is_same_nameable (GlobalAt x) y ≡ false → numbers.placement.cell y ≡ Some (cell_of_data there) → ⊥
  other_cell numbers apart own y other is = true≢false (sym (apart (GlobalAt x) y own is) ∙ other)

  method_begins : (k to : ℕ) (m : CodeMethod) (part : MethodPart) → HasMethod (program_code p) (method_numbers p m) (declarations_of p) m.home m.method part → part.entry ≡ to
      → AreAllowed Any Any (Apart x) (Deep k) (body_deeds (method_scope p m.home) m.method.body) → InBody k to
  method_begins k to m part h begins deeds =
      let numbers = method_numbers p m in
      let exits = method_exits (method_end numbers part.entry m.method) (is_some m.method.returns) in
      record {
        start = part.entry;
        numbers = numbers;
        body = OfMethod numbers m.method;
        place = 0;
        is = omega (arith, begins);
        inside = longer (statements_code numbers part.entry 0 exits m.method.body) (method_ending m.method.returns) (ending_there m.method.returns);
        stands = h.stands;
        spares = method_spared (program_code p) numbers [] x there placed (other_cell numbers (λ y z own is. h.placement.sound.apart y z (cell_of_data there) own is) placed) (λ n. refl) (Deep k)
            (HandsBack (is_some m.method.returns)) part.entry m.method h.covered deeds;
      }

  calls_in : (k at to : ℕ) → InBody (suc k) at → CallsTo (program_code p) at to → InBody k to
  calls_in k at to b call =
      let a : IsAllowedCall (callee_of p) (Deep (suc k)) call.number =
      subst (λ (kind : Kind). CallsAllowed (callee_of p) (Deep (suc k)) kind) call.calls (spared_so (suc k) at b call.instr call.here).1 in
      let fits = c.at_run.callees a.home a.method a.callee call.method a.placed (ap (λ n. slice_get (program_code p).methods n) a.is ∙ call.listed) in
      let body = subst (λ (n : CodeNumbers). HasMethod (program_code p) n (declarations_of p) a.home fits.method call.method) (ap (numbers_of_listed p a.home) fits.listed) fits.body in
      let deeds = subst (λ (o : Option MethodTree). AreAllowed Any Any (Apart x) (Deep k) (deeds_of_method p a.home o)) fits.listed a.allowed in
      method_begins k to (record { home = a.home; method = fits.method }) call.method body call.begins deeds

  -- ---- what is reached

  -- behind one instruction more
  one_more : (depth steps calls before at k : ℕ) → calls + k ≡ depth
      → ((fewer j : ℕ) → fewer + j ≡ depth → IsReachedIn (program_code p) (program_code p).run steps fewer before → InBody j before)
      → (
      (IsReachedIn (program_code p) (program_code p).run steps calls before × GoesTo (program_code p) before at)
      ⊎ ((outer : ℕ) × (calls ≡ suc outer) × IsReachedIn (program_code p) (program_code p).run steps outer before × CallsTo (program_code p) before at)
      )
      → InBody k at
  one_more depth steps calls before at k e earlier (inl on) = goes_on k before at (earlier calls k e on.0) on.1
  one_more depth steps calls before at k e earlier (inr call) =
      let more : calls ≡ suc call.0 = call.1 in calls_in k before at (earlier call.0 (suc k) (omega (arith, e, more)) call.2) call.3

  reached_in : (depth : ℕ) → InBody depth (program_code p).run → (steps calls at k : ℕ) → calls + k ≡ depth → IsReachedIn (program_code p) (program_code p).run steps calls at → InBody k at
  reached_in depth begun zero calls at k e r =
      let none : calls ≡ 0 = r.0 in
      let same : depth ≡ k = omega (arith, e, none) in
      subst (λ n. InBody k n) (sym r.1) (subst (λ n. InBody n (program_code p).run) same begun)
  reached_in depth begun (suc steps) calls at k e r = one_more depth steps calls r.0 at k e (λ fewer j f h. reached_in depth begun steps fewer r.0 j f h) r.1

  run_begins : run_can_change p x ≡ false → InBody CALL_DEPTH (program_code p).run
  run_begins still =
      let numbers = run_numbers p in
      let start = body_start numbers (run_entry p) p.run in
      let end = body_end numbers (run_entry p) p.run in
      let cl = locals_code numbers p.run.locals in
      let cs = statements_code numbers start 0 (unit_exits end) p.run.statements in
      let written = outputs_code (implicit_outputs p) in
      let ending = instr.End ∷ [] in
      record {
        start = (program_code p).run;
        numbers = numbers;
        body = run_body p;
        place = 0;
        is = omega arith;
        inside = longer cl (cs ++ (written ++ ending)) (longer cs (written ++ ending) (longer written ending (omega arith)));
        stands = c.at_run.stands;
        spares = system_spared (program_code p) numbers (output_sources p) x there placed (other_cell numbers (λ y z own is. c.at_run.placement.sound.apart y z (cell_of_data there) own is) placed)
            (run_keeps p x there placed) (Deep CALL_DEPTH) (JumpsToEnd end) (run_entry p) p.run (implicit_outputs p) c.at_run.covered (run_allowed p x still);
      }

  pub spared_where_reached : run_can_change p x ≡ false → (at : ℕ) (i : Instr) → CanBeReached (program_code p) (program_code p).run at → slice_get (program_code p).instrs at ≡ Some i
      → kind_changes (program_code p) (kind_of i) there ≡ false
  spared_where_reached still at i reached here =
      let least : reached.1 ≤ CALL_DEPTH = reached.2 in
      let k = CALL_DEPTH - reached.1 in
      (spared_so k at (reached_in CALL_DEPTH (run_begins still) reached.0 reached.1 at k (omega (arith, least)) reached.3) i here).0

kept_there : (p : UnitTree) (x : Location) → is_kept p x ≡ true → (there : DataLocation) → program_cell p x ≡ Some (cell_of_data there) → is_kept_in_code (program_code p) there ≡ true
kept_there p x kept (SlotAt n) placed = slot_is_kept p x n placed ∙ kept
kept_there p x kept (HashAt n) placed = refl
kept_there p x kept (IteratorAt n) placed = refl
kept_there p x kept (ParameterAt n) placed = refl

pub fixed_is_fixed_in_code : TypedProgramsHaveCode → BodiesStayInList → FixedIsFixedInCode
fixed_is_fixed_in_code have within p typed x fixed there placed =
    let parts = and_parts (is_kept p x) (not (run_can_change p x)) fixed in
    record {
      kept = kept_there p x parts.0 there placed;
      unchanged = spared_where_reached p (have p typed) within x there placed (not-true (run_can_change p x) parts.1);
    }
