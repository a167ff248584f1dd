-- The frame of a method: how it begins, what it hands back, and what its caller finds behind it.
use Rattle.std.proofs.Common.{◌≡◌, ℕ, zero, suc, ◌+◌, ◌<◌, Bool, true, false, List, [], ◌∷◌, ◌++◌, length, map, replicate, Some, None, refl, sym, ap, ◌∙◌, subst, arith, length-append, if◌then◌else◌}
use Rattle.std.specs.Prelude.{slice_get}
use Rattle.std.proofs.lemmas.Bool.{true≢false}
use Rattle.std.proofs.lemmas.List.{length-replicate}
use Rattle.ds2_value.specs.Row.{Row}
use Rattle.ds2_value.specs.declared.value.Value.{Value}
use Rattle.ds2_value.specs.declared.value.Value.TheVariants.{Null}
use Rattle.ds2_meaning.specs.declared.methods.Parameter.{Parameter}
use Rattle.ds2_meaning.specs.Invocation.{method_state, back_in}
use Rattle.ds2_meaning.specs.Location.{Location, Content, Holds}
use Rattle.ds2_meaning.specs.Method.{locals_at_entry, last_values}
use Rattle.ds2_meaning.specs.RunState.{RunState, Locals}
use Rattle.ds2_code.specs.CodeRun.{with_in_outs}
use Rattle.ds2_gen.specs.CallPieces.{stacked, in_out_count}
use Rattle.ds2_gen.specs.CodeCells.{Nameable, GlobalAt, LocalNamed, content_of, CodeCell, SlotCell, LocalCell, HashCell, IteratorCell, ParameterCell, Cells, CellHas, IsSameCell, Placement, IsPlacement, HoldState, LeaveReserved}
use Rattle.ds2_gen.specs.MethodCode.{parameter_part, HaveLocals, IsLocalAt, IsMethodPlacement, is_in_frame, MayCall}
use Rattle.ds2_gen.proofs.CellLemmas.{some_is, cell_has_on}

-- ---- parameters and locals

null_at : (k n : ℕ) → n < k → slice_get (replicate k Null) n ≡ Some Null
null_at zero n less = absurd (omega arith)
null_at (suc k) zero less = refl
null_at (suc k) (suc n) less = null_at k n (omega arith)

has_place : {X : Type 0} (xs : List X) (n : ℕ) → n < length xs → (x : X) × (slice_get xs n ≡ Some x)
has_place [] n less = absurd (omega arith)
has_place (x ∷ xs) zero less = (x, refl)
has_place (x ∷ xs) (suc n) less = has_place xs n (omega arith)

entry_value : (ps : List Parameter) (locals : ℕ) (arguments : List Value) (name : List ℕ) (n : ℕ) → length arguments ≡ length ps → IsLocalAt ps locals name n
    → slice_get (arguments ++ replicate locals Null) n ≡ Some (locals_at_entry ps arguments name)
entry_value [] locals [] name n count is = null_at locals n is
entry_value [] locals (v ∷ vs) name n count is = absurd (omega arith)
entry_value (x ∷ ps) locals [] name n count is = absurd (omega arith)
entry_value (x ∷ ps) locals (v ∷ vs) name zero count is = ap (λ b. Some (if b then v else locals_at_entry ps vs name)) (sym is)
entry_value (x ∷ ps) locals (v ∷ vs) name (suc n) count is =
    let fewer : length vs ≡ length ps = omega arith in
    entry_value ps locals vs name n fewer is.1 ∙ ap (λ b. Some (if b then v else locals_at_entry ps vs name)) (sym is.0)

-- ---- what is handed back

-- the first values of a frame are those of the parameters
abbrev AreParameters : List Parameter → Row → Locals → Type 0
AreParameters [] locals values = Unit {0}
AreParameters (x ∷ ps) [] values = ⊥
AreParameters (x ∷ ps) (v ∷ locals) values = (v ≡ values x.name) × AreParameters ps locals values

parameters_are : (p : Placement) (ps : List Parameter) (n : ℕ) (u : RunState) (d : Cells) (rest : Row) → HaveLocals p n ps → HoldState p u d
    → ((i j : ℕ) → n + i ≡ j → slice_get d.locals j ≡ slice_get rest i) → AreParameters ps rest u.locals
parameters_are p [] n u d rest have holds same = tt
parameters_are p (x ∷ ps) n u d [] have holds same =
    let none : None ≡ Some (u.locals x.name) = sym (same 0 n (omega arith)) ∙ holds.0 (LocalNamed x.name) (LocalCell n) have.0 in
    absurd cc
parameters_are p (x ∷ ps) n u d (v ∷ rest) have holds same =
    let here : Some v ≡ Some (u.locals x.name) = sym (same 0 n (omega arith)) ∙ holds.0 (LocalNamed x.name) (LocalCell n) have.0 in
    (some_is v (u.locals x.name) here, parameters_are p ps (suc n) u d rest have.1 holds (λ i j e. same (suc i) j (omega arith)))

handed_by : (b : Bool) (ps : List Parameter) (locals : Row) (v y : Value) (rest : List Value) (stack : Row) → v ≡ y
    → ((under : Row) → with_in_outs (map parameter_part ps) locals under ≡ stacked rest under)
    → with_in_outs (map parameter_part ps) locals (if b then v ∷ stack else stack) ≡ stacked (if b then y ∷ rest else rest) stack
handed_by true ps locals v y rest stack same more = more (v ∷ stack) ∙ ap (λ x. stacked rest (x ∷ stack)) same
handed_by false ps locals v y rest stack same more = more stack

-- the last values of in_out parameters lie above the operands, in order
handed_back : (ps : List Parameter) (locals : Row) (values : Locals) (stack : Row) → AreParameters ps locals values → with_in_outs (map parameter_part ps) locals stack ≡ stacked (last_values ps values) stack
handed_back [] locals values stack are = refl
handed_back (x ∷ ps) [] values stack are = absurd are
handed_back (x ∷ ps) (v ∷ locals) values stack are =
    handed_by x.is_in_out ps locals v (values x.name) (last_values ps values) stack are.0 (λ under. handed_back ps locals values under are.1)

pub handed_stack : (p : Placement) (ps : List Parameter) (u : RunState) (d : Cells) (stack : Row) → HaveLocals p 0 ps → HoldState p u d
    → with_in_outs (map parameter_part ps) d.locals stack ≡ stacked (last_values ps u.locals) stack
handed_stack p ps u d stack have holds =
    handed_back ps d.locals u.locals stack (parameters_are p ps 0 u d d.locals have holds (λ i j e. let same : j ≡ i = omega arith in ap (λ n. slice_get d.locals n) same))

count_by : (b : Bool) (v : Value) (vs : List Value) (n : ℕ) → length vs ≡ n → length (if b then v ∷ vs else vs) ≡ (if b then suc n else n)
count_by true v vs n same = ap suc same
count_by false v vs n same = same

pub handed_count : (ps : List Parameter) (values : Locals) → length (last_values ps values) ≡ in_out_count (map parameter_part ps)
handed_count [] values = refl
handed_count (x ∷ ps) values = count_by x.is_in_out (values x.name) (last_values ps values) (in_out_count (map parameter_part ps)) (handed_count ps values)

-- ---- two frames

-- the cells with which a method begins, and with which its caller goes on
abbrev pub entry_cells : List Value → ℕ → Cells → Cells
entry_cells arguments locals cells = record { locals = arguments ++ replicate locals Null; state = cells.state }

abbrev pub resumed_cells : Cells → Cells → Cells
resumed_cells cells d = record { locals = cells.locals; state = d.state }

out_of_frame : (c : CodeCell) → ((n : ℕ) → c ≡ LocalCell n → ⊥) → is_in_frame c ≡ false
out_of_frame (SlotCell n) out = refl
out_of_frame (LocalCell n) out = absurd (out n refl)
out_of_frame (HashCell n) out = refl
out_of_frame (IteratorCell n) out = refl
out_of_frame (ParameterCell n) out = refl

-- what lies outside of frames is there in each
in_each_frame : (c : CodeCell) (x : Content) (d : Cells) (locals : Row) → is_in_frame c ≡ false → CellHas c x d → CellHas c x (record { locals = locals; state = d.state })
in_each_frame (SlotCell n) x d locals out h = h
in_each_frame (LocalCell n) x d locals out h = absurd (true≢false out)
in_each_frame (HashCell n) x d locals out h = h
in_each_frame (IteratorCell n) x d locals out h = h
in_each_frame (ParameterCell n) x d locals out h = h

module _ (caller callee : Placement) (may : MayCall caller callee) (ps : List Parameter) (locals : ℕ) (placement : IsMethodPlacement callee ps locals) (arguments : List Value) (cells : Cells) (w : RunState) (holds : HoldState caller w cells) where
  global_out : (at : Location) (c : CodeCell) → callee.cell (GlobalAt at) ≡ Some c → is_in_frame c ≡ false
  global_out at c here = out_of_frame c (λ n e. placement.frameless at n (here ∙ ap Some e))

  -- ---- the method begins

  entry_names : (left : ℕ) → length arguments ≡ length ps → (x : Nameable) (c : CodeCell) → callee.cell x ≡ Some c
      → CellHas c (content_of x (method_state ps arguments left w).storage (method_state ps arguments left w).locals) (entry_cells arguments locals cells)
  entry_names left count (GlobalAt at) c here =
      in_each_frame c (w.storage at) cells (arguments ++ replicate locals Null) (global_out at c here) (holds.0 (GlobalAt at) c (may.globals at ∙ here))
  entry_names left count (LocalNamed name) c here =
      let it = placement.names name c here in
      subst (λ k. CellHas k (Holds (locals_at_entry ps arguments name)) (entry_cells arguments locals cells)) (sym it.1) (entry_value ps locals arguments name it.0 count it.2)

  entry_room : length arguments ≡ length ps → (k : ℕ) → k < callee.kept_count → (v : Value) × CellHas (callee.kept_cell k) (Holds v) (entry_cells arguments locals cells)
  entry_room count k less =
      let it = placement.kept k less in
      let bound : it.0 < length ps + locals = it.2 in
      let inside : it.0 < length (arguments ++ replicate locals Null) = omega (arith, length-append arguments (replicate locals Null), length-replicate locals Null) in
      let place = has_place (arguments ++ replicate locals Null) it.0 inside in
      (place.0, subst (λ c. CellHas c (Holds place.0) (entry_cells arguments locals cells)) (sym it.1) place.1)

  pub entry_holds : (left : ℕ) → length arguments ≡ length ps → HoldState callee (method_state ps arguments left w) (entry_cells arguments locals cells)
  entry_holds left count = (entry_names left count, entry_room count)

  -- ---- its caller goes on

  module _ (u : RunState) (d : Cells) (after : HoldState callee u d) (leaves : LeaveReserved callee 0 (entry_cells arguments locals cells) d) where
    -- what lies in the caller's frame, or what the method leaves alone
    same_behind : (c : CodeCell) → (is_in_frame c ≡ false → callee.is_reserved 0 c ≡ true) → IsSameCell c cells (resumed_cells cells d)
    same_behind (SlotCell n) reserved = leaves (SlotCell n) (reserved refl)
    same_behind (LocalCell n) reserved = refl
    same_behind (HashCell n) reserved = leaves (HashCell n) (reserved refl)
    same_behind (IteratorCell n) reserved = leaves (IteratorCell n) (reserved refl)
    same_behind (ParameterCell n) reserved = leaves (ParameterCell n) (reserved refl)

    resumed_names : (x : Nameable) (c : CodeCell) → caller.cell x ≡ Some c → CellHas c (content_of x (back_in w u).storage (back_in w u).locals) (resumed_cells cells d)
    resumed_names (GlobalAt at) c here =
        let there = sym (may.globals at) ∙ here in
        in_each_frame c (u.storage at) d cells.locals (global_out at c there) (after.0 (GlobalAt at) c there)
    resumed_names (LocalNamed name) c here =
        cell_has_on c (Holds (w.locals name)) cells (resumed_cells cells d) (same_behind c (may.locals name c here)) (holds.0 (LocalNamed name) c here)

    pub resumed_reserved : (kept : ℕ) → LeaveReserved caller kept cells (resumed_cells cells d)
    resumed_reserved kept c is = same_behind c (may.reserved kept c is)

    resumed_room : IsPlacement caller → (k : ℕ) → k < caller.kept_count → (v : Value) × CellHas (caller.kept_cell k) (Holds v) (resumed_cells cells d)
    resumed_room sound k less =
        let above : k < suc k = omega arith in
        let room = holds.1 k less in
        (room.0, cell_has_on (caller.kept_cell k) (Holds room.0) cells (resumed_cells cells d) (resumed_reserved (suc k) (caller.kept_cell k) (sound.behind k (suc k) less above)) room.1)

    pub resumed_holds : IsPlacement caller → HoldState caller (back_in w u) (resumed_cells cells d)
    resumed_holds sound = (resumed_names, resumed_room sound)
