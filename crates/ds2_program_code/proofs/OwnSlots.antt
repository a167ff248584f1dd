-- The types of the slots of system methods, and of the places of frames.
use Rattle.std.proofs.Common.{◌≡◌, ℕ, ◌+◌, Bool, true, false, List, [], ◌∷◌, ◌++◌, length, map, slice_get, bytes_eq, codes, Some, refl, sym, ap, ◌∙◌, subst, append_assoc, length-append, if◌then◌else◌}
use Rattle.std.specs.Option.{option_map}
use Rattle.std.proofs.lemmas.List.{length-map}
use Rattle.ds2_value.specs.declared.ty.Ty.{Ty}
use Rattle.ds2_meaning.specs.declared.globals.Variable.{Variable}
use Rattle.ds2_meaning.specs.declared.methods.Parameter.{Parameter}
use Rattle.ds2_meaning.specs.IsTyped.{type_in, with_parameters_of}
use Rattle.ds2_meaning.specs.Method.{MethodTree}
use Rattle.ds2_meaning.specs.ProgramTree.{BodyTree, UnitTree}
use Rattle.ds2_layout.specs.Layout.{program_slots, location_of_slot}
use Rattle.ds2_code.specs.declared.parts.ParameterPart.{ParameterPart}
use Rattle.ds2_code.specs.declared.parts.Slot.{Slot}
use Rattle.ds2_code.specs.declared.parts.SlotRole.TheVariants.{Kept}
use Rattle.ds2_code.specs.OperandTypes.{slot_type}
use Rattle.ds2_gen.specs.MethodCode.{parameter_part}
use Rattle.ds2_program_code.specs.KeptTypes.{all_types_kept, EachValueHasType}
use Rattle.ds2_program_code.specs.PlacedProgram.{own_slots, layout_size, first_of_run, first_of_term, names_of_variables, frame_names}
use Rattle.ds2_program_code.specs.CodeParts.{layout_slot, own_types, slots_of_body, code_slots}
use Rattle.ds2_program_code.proofs.Lists.{same_some, bytes_swap, slice_in_front, slice_in_back, slice_mapped, Beside, beside_here, beside_later}
use Rattle.ds2_program_code.proofs.Names.{names_with_parameters}

-- the slot of a system method of this name for a type
abbrev own_slot : List ℕ → Ty → Slot
own_slot name ty = record { name = name; ty = ty; role = Kept }

-- the slots of a system method from a number on have the types of what it keeps
abbrev pub OwnSlotsHaveTypes : UnitTree → ℕ → BodyTree → Type 0
OwnSlotsHaveTypes p first body = (k : ℕ) (ty : Ty) → slice_get (own_types body) k ≡ Some ty → slot_type (code_slots p) (first + k) ≡ Some ty

own_at : (name : List ℕ) (body : BodyTree) (rest : List Slot) (k : ℕ) (ty : Ty) → slice_get (own_types body) k ≡ Some ty → slice_get (slots_of_body name body ++ rest) k ≡ Some (own_slot name ty)
own_at name body rest k ty e = slice_in_front (slots_of_body name body) rest k (own_slot name ty) (slice_mapped (own_slot name) (own_types body) k ∙ ap (λ o. option_map (own_slot name) o) e)

-- behind slots of this number
behind_slots : (front rest : List Slot) (n k : ℕ) (s : Slot) → length front ≡ n → slice_get rest k ≡ Some s → option_map (λ (x : Slot). x.ty) (slice_get (front ++ rest) (n + k)) ≡ Some s.ty
behind_slots front rest n k s size e = ap (λ m. option_map (λ (x : Slot). x.ty) (slice_get (front ++ rest) (m + k))) (sym size) ∙ ap (λ o. option_map (λ (x : Slot). x.ty) o) (slice_in_back front rest k ∙ e)

module _ (values : EachValueHasType) (p : UnitTree) where
  own_count_of : (name : List ℕ) (body : BodyTree) → length (slots_of_body name body) ≡ own_slots body
  own_count_of name body =
      length-map (own_types body) (own_slot name) ∙ length-append (map (λ (v : Variable). v.ty) body.locals) (all_types_kept body.statements)
      ∙ ap (λ n. n + length (all_types_kept body.statements)) (length-map body.locals (λ (v : Variable). v.ty)) ∙ ap (λ n. length body.locals + n) (values body.statements)

  layout_count : length (map layout_slot (program_slots p)) ≡ layout_size p
  layout_count = length-map (program_slots p) layout_slot ∙ sym (length-map (program_slots p) location_of_slot)

  pub init_slots : OwnSlotsHaveTypes p (layout_size p) p.init
  init_slots k ty e =
      let rest = slots_of_body (codes "run") p.run ++ slots_of_body (codes "term") p.term in
      behind_slots (map layout_slot (program_slots p)) (slots_of_body (codes "init") p.init ++ rest) (layout_size p) k (own_slot (codes "init") ty) layout_count (own_at (codes "init") p.init rest k ty e)

  pub run_slots : OwnSlotsHaveTypes p (first_of_run p) p.run
  run_slots k ty e =
      let layout = map layout_slot (program_slots p) in
      let init = slots_of_body (codes "init") p.init in
      let run = slots_of_body (codes "run") p.run in
      let term = slots_of_body (codes "term") p.term in
      let size : length (layout ++ init) ≡ first_of_run p = length-append layout init ∙ ap (λ n. n + length init) layout_count ∙ ap (λ n. layout_size p + n) (own_count_of (codes "init") p.init) in
      ap (λ (l : List Slot). option_map (λ (x : Slot). x.ty) (slice_get l (first_of_run p + k))) (sym (append_assoc layout init (run ++ term)))
      ∙ behind_slots (layout ++ init) (run ++ term) (first_of_run p) k (own_slot (codes "run") ty) size (own_at (codes "run") p.run term k ty e)

  pub term_slots : OwnSlotsHaveTypes p (first_of_term p) p.term
  term_slots k ty e =
      let layout = map layout_slot (program_slots p) in
      let init = slots_of_body (codes "init") p.init in
      let run = slots_of_body (codes "run") p.run in
      let term = slots_of_body (codes "term") p.term in
      let size : length ((layout ++ init) ++ run) ≡ first_of_term p =
      length-append (layout ++ init) run ∙ ap (λ n. n + length run) (length-append layout init ∙ ap (λ n. n + length init) layout_count ∙ ap (λ n. layout_size p + n) (own_count_of (codes "init") p.init))
      ∙ ap (λ n. first_of_run p + n) (own_count_of (codes "run") p.run) in
      let here : slice_get (slots_of_body (codes "term") p.term) k ≡ Some (own_slot (codes "term") ty) = slice_mapped (own_slot (codes "term")) (own_types p.term) k ∙ ap (λ o. option_map (own_slot (codes "term")) o) e in
      ap (λ (l : List Slot). option_map (λ (x : Slot). x.ty) (slice_get l (first_of_term p + k))) (sym (append_assoc layout init (run ++ term)) ∙ sym (append_assoc (layout ++ init) run term))
      ∙ behind_slots ((layout ++ init) ++ run) term (first_of_term p) k (own_slot (codes "term") ty) size here

-- ---- names with types

local_by : (b : Bool) (v : Variable) (vs : List Variable) (name : List ℕ) (ty : Ty) → bytes_eq v.name name ≡ b → (if b then Some v.ty else type_in vs name) ≡ Some ty
    → (type_in vs name ≡ Some ty → Beside (λ other. bytes_eq name other) (names_of_variables vs) (map (λ (x : Variable). x.ty) vs) ty) → Beside (λ other. bytes_eq name other) (v.name ∷ names_of_variables vs) (v.ty ∷ map (λ (x : Variable). x.ty) vs) ty
local_by true v vs name ty same e later =
    subst (λ t. Beside (λ other. bytes_eq name other) (v.name ∷ names_of_variables vs) (v.ty ∷ map (λ (x : Variable). x.ty) vs) t) (same_some v.ty ty e)
    (beside_here (λ other. bytes_eq name other) v.name (names_of_variables vs) v.ty (map (λ (x : Variable). x.ty) vs) (bytes_swap name v.name ∙ same))
local_by false v vs name ty same e later =
    beside_later (λ other. bytes_eq name other) v.name (names_of_variables vs) v.ty (map (λ (x : Variable). x.ty) vs) ty (bytes_swap name v.name ∙ same) (later e)

-- the number of a name has its type
pub local_typed : (vs : List Variable) (name : List ℕ) (ty : Ty) → type_in vs name ≡ Some ty → Beside (λ other. bytes_eq name other) (names_of_variables vs) (map (λ (v : Variable). v.ty) vs) ty
local_typed [] name ty e = absurd cc
local_typed (v ∷ vs) name ty e = local_by (bytes_eq v.name name) v vs name ty refl e (λ f. local_typed vs name ty f)

types_with_parameters : (ps : List Parameter) (vs : List Variable) → map (λ (v : Variable). v.ty) (with_parameters_of ps vs) ≡ map (λ (p : ParameterPart). p.ty) (map parameter_part ps) ++ map (λ (v : Variable). v.ty) vs
types_with_parameters [] vs = refl
types_with_parameters (x ∷ ps) vs = ap (λ ts. x.ty ∷ ts) (types_with_parameters ps vs)

-- the number of a name in a frame has its type among those of parameters and locals
pub frame_typed : (m : MethodTree) (name : List ℕ) (ty : Ty) → type_in (with_parameters_of m.parameters m.locals) name ≡ Some ty
    → Beside (λ other. bytes_eq name other) (frame_names m) (map (λ (p : ParameterPart). p.ty) (map parameter_part m.parameters) ++ map (λ (v : Variable). v.ty) m.locals) ty
frame_typed m name ty e =
    subst (λ ts. Beside (λ other. bytes_eq name other) (frame_names m) ts ty) (types_with_parameters m.parameters m.locals)
    (subst (λ names. Beside (λ other. bytes_eq name other) names (map (λ (v : Variable). v.ty) (with_parameters_of m.parameters m.locals)) ty) (names_with_parameters m.parameters m.locals)
    (local_typed (with_parameters_of m.parameters m.locals) name ty e))
