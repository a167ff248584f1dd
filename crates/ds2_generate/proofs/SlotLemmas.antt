-- The slots of system methods, one behind the other.
use Rattle.std.proofs.Common.{◌≡◌, ℕ, ◌+◌, List, [], ◌∷◌, ◌++◌, length, map, codes, refl, sym, ap, ◌∙◌, append_assoc, length-append}
use Rattle.std.proofs.lemmas.List.{length-map}
use Rattle.std.specs.Str.{chars}
use Rattle.ds2_base.specs.Name.{IsOwnName}
use Rattle.ds2_meaning.specs.declared.globals.Variable.{Variable}
use Rattle.ds2_meaning.specs.declared.units.Instance.{Instance}
use Rattle.ds2_meaning.specs.ProgramTree.{BodyTree, UnitTree}
use Rattle.ds2_meaning.specs.TypedStatement.{TypedStatements}
use Rattle.ds2_meaning.specs.View.{constructors_first, init_tree, system_tree}
use Rattle.ds2_layout.specs.declared.slot.LayoutSlot.{LayoutSlot}
use Rattle.ds2_layout.specs.Layout.{program_slots, location_of_slot}
use Rattle.ds2_code.specs.declared.parts.Slot.{Slot}
use Rattle.ds2_program_code.specs.KeptTypes.{all_types_kept, EachValueHasType}
use Rattle.ds2_program_code.specs.PlacedProgram.{own_slots, layout_size, first_of_run, first_of_term}
use Rattle.ds2_program_code.specs.CodeParts.{layout_slot, own_types, slots_of_body}
use Rattle.ds2_generate.specs.declared.unit.Unit.{Unit}
use Rattle.ds2_generate.specs.OwnSlots.{kept_slot, AreProgramSlots}
use Rattle.ds2_generate.specs.UnitBodies.{IsLaidOut, tree_of_unit}

-- the names of system methods are names as they stand
pub init_named : IsOwnName (codes "init")
unfolding chars
init_named = refl

pub run_named : IsOwnName (codes "run")
unfolding chars
run_named = refl

pub term_named : IsOwnName (codes "term")
unfolding chars
term_named = refl

-- constructors keep no values
constructors_keep : (is : List Instance) (rest : TypedStatements) → all_types_kept (constructors_first is rest) ≡ all_types_kept rest
constructors_keep [] rest = refl
constructors_keep (i ∷ is) rest = constructors_keep is rest

-- so `init` has the own slots of its statements
slots_of_init : (name : List ℕ) (is : List Instance) (body : BodyTree) → slots_of_body name (init_tree is body) ≡ slots_of_body name body
slots_of_init name is body = ap (λ l. map (kept_slot name) (map (λ (v : Variable). v.ty) body.locals ++ l)) (constructors_keep is body.statements)

module _ (values : EachValueHasType) where
  own_count : (body : BodyTree) → length (own_types body) ≡ own_slots body
  own_count body =
      length-append (map (λ (v : Variable). v.ty) body.locals) (all_types_kept body.statements)
      ∙ ap (λ n. n + length (all_types_kept body.statements)) (length-map body.locals (λ (v : Variable). v.ty))
      ∙ ap (λ n. length body.locals + n) (values body.statements)

  body_count : (name : List ℕ) (body : BodyTree) → length (slots_of_body name body) ≡ own_slots body
  body_count name body = length-map (own_types body) (kept_slot name) ∙ own_count body

  -- how many slots stand before those of the next system method
  grown : (s t : List Slot) (n : ℕ) (name : List ℕ) (body : BodyTree) → length s ≡ n → t ≡ s ++ slots_of_body name body → length t ≡ n + own_slots body
  grown s t n name body size is =
      ap length is ∙ length-append s (slots_of_body name body) ∙ ap (λ k. k + length (slots_of_body name body)) size ∙ ap (λ k. n + k) (body_count name body)

  module _ (p : UnitTree) where
    layout_count : length (map layout_slot (program_slots p)) ≡ layout_size p
    layout_count = length-map (program_slots p) layout_slot ∙ sym (length-map (program_slots p) location_of_slot)

    placed : (s0 s1 s2 s3 : List Slot) (init run term : ℕ) → s0 ≡ map layout_slot (program_slots p)
        → init ≡ length s0 → s1 ≡ s0 ++ slots_of_body (codes "init") p.init
        → run ≡ length s1 → s2 ≡ s1 ++ slots_of_body (codes "run") p.run
        → term ≡ length s2 → s3 ≡ s2 ++ slots_of_body (codes "term") p.term
        → AreProgramSlots p (record { slots = s3; init = init; run = run; term = term })
    placed s0 s1 s2 s3 init run term e0 f1 e1 f2 e2 f3 e3 =
        let l = map layout_slot (program_slots p) in
        let a = slots_of_body (codes "init") p.init in
        let b = slots_of_body (codes "run") p.run in
        let d = slots_of_body (codes "term") p.term in
        let n0 : length s0 ≡ layout_size p = ap length e0 ∙ layout_count in
        let n1 : length s1 ≡ first_of_run p = grown s0 s1 (layout_size p) (codes "init") p.init n0 e1 in
        let n2 : length s2 ≡ first_of_term p = grown s1 s2 (first_of_run p) (codes "run") p.run n1 e2 in
        record {
          slots = e3 ∙ ap (λ s. s ++ d) (e2 ∙ ap (λ s. s ++ b) (e1 ∙ ap (λ s. s ++ a) e0)) ∙ append_assoc (l ++ a) b d ∙ append_assoc l a (b ++ d);
          init = f1 ∙ n0;
          run = f2 ∙ n1;
          term = f3 ∙ n2;
        }

  pub slots_placed : (u : Unit) (s0 s1 s2 s3 : List Slot) (init run term : ℕ) → IsLaidOut u → s0 ≡ map layout_slot u.slots.now
      → init ≡ length s0 → s1 ≡ s0 ++ slots_of_body (codes "init") (system_tree u.program.now.init)
      → run ≡ length s1 → s2 ≡ s1 ++ slots_of_body (codes "run") (system_tree u.program.now.run)
      → term ≡ length s2 → s3 ≡ s2 ++ slots_of_body (codes "term") (system_tree u.program.now.term)
      → AreProgramSlots (tree_of_unit u) (record { slots = s3; init = init; run = run; term = term })
  slots_placed u s0 s1 s2 s3 init run term laid e0 f1 e1 f2 e2 f3 e3 =
      placed (tree_of_unit u) s0 s1 s2 s3 init run term (e0 ∙ ap (λ (l : List LayoutSlot). map layout_slot l) laid.slots) f1
      (e1 ∙ ap (λ l. s0 ++ l) (sym (slots_of_init (codes "init") u.program.now.instances (system_tree u.program.now.init)))) f2 e2 f3 e3
