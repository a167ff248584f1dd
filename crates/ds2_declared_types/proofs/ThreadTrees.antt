-- Thread programs, as the code holds them.
use Rattle.std.proofs.Common.{◌≡◌, ℕ, Bool, bytes_eq, if◌then◌else◌, false, List, ◌∷◌, Option, Some, None, refl, ap, ◌∙◌}
use Rattle.std.specs.Option.{option_map_or}
use Rattle.ds2_meaning.specs.ProgramTree.{ProgramTree, UnitTree, reader_of}
use Rattle.ds2_meaning.specs.View.{over_stage, thread_part, typed_thread_program, unit_tree}
use Rattle.ds2_meaning.specs.declared.units.TypedThread.{TypedThread, out-TypedThread}
use Rattle.ds2_meaning.specs.declared.units.TypedThread.TheFolds.{fold_out-TypedThread}
use Rattle.ds2_elaboration.specs.UnitsBefore.{typed_thread_named}

-- a thread program without the one that it may read from
abbrev pub own_tree : TypedThread → UnitTree
own_tree t = unit_tree (Some (out-TypedThread t).name) (out-TypedThread t).parameters (out-TypedThread t).program

reader_over : (p : UnitTree) (o : Option ProgramTree) → reader_of (over_stage p o) ≡ p
reader_over p None = refl
reader_over p (Some stage) = refl

pub reader_is : (t : TypedThread) → reader_of (typed_thread_program t) ≡ own_tree t
reader_is t = ap reader_of (fold_out-TypedThread ProgramTree thread_part t) ∙ reader_over (own_tree t) _

-- one thread program more
pub one_more_thread : (t : TypedThread) (others : List ProgramTree) (name : List ℕ)
    → typed_thread_named (typed_thread_program t ∷ others) name ≡ (if bytes_eq (out-TypedThread t).name name then Some (typed_thread_program t) else typed_thread_named others name)
one_more_thread t others name =
    ap (λ (p : UnitTree). if option_map_or (λ own. bytes_eq own name) p.thread false then Some (typed_thread_program t) else typed_thread_named others name) (reader_is t)

-- its parameters
pub parameters_are : (t : TypedThread) → (reader_of (typed_thread_program t)).parameters ≡ (out-TypedThread t).parameters
parameters_are t = ap (λ (p : UnitTree). p.parameters) (reader_is t)

-- its outputs
pub outputs_are : (t : TypedThread) → (reader_of (typed_thread_program t)).outputs ≡ (out-TypedThread t).program.outputs
outputs_are t = ap (λ (p : UnitTree). p.outputs) (reader_is t)
