-- The codes of thread programs, each behind that of the program that reads from it.
use Rattle.std.proofs.Common.{◌≡◌, ℕ, List, [], ◌∷◌, ◌++◌, Option, Some, None, Result, Ok, Err, IfOk, Global, refl, sym, ap, ◌∙◌, append_assoc}
use Rattle.std.specs.Option.{option_map}
use Rattle.std.specs.declared.sync.Arc.{Arc}
use Rattle.ds2_meaning.specs.declared.globals.Variable.{Variable}
use Rattle.ds2_meaning.specs.declared.units.Program.{Program}
use Rattle.ds2_meaning.specs.declared.units.TypedThread.{TypedThread, out-TypedThread}
use Rattle.ds2_meaning.specs.declared.units.TypedThread.TheFolds.{fold-roll-TypedThread}
use Rattle.ds2_meaning.specs.declared.units.TypedThread.TheViews.{roll-TypedThread, roll-out-TypedThread}
use Rattle.ds2_meaning.specs.ProgramTree.{UnitTree, ProgramTree, reader_of}
use Rattle.ds2_meaning.specs.View.{over_stage, thread_part, typed_thread_program, unit_tree, unshared}
use Rattle.ds2_layout.specs.declared.slot.Layout.{Layout}
use Rattle.ds2_layout.specs.Layout.{layout_of}
use Rattle.ds2_code.specs.declared.parts.ProgramParts.{ProgramParts}
use Rattle.ds2_code.specs.declared.parts.StagedParts.{StagedParts}
use Rattle.ds2_program_code.specs.ProgramCode.{program_code}
use Rattle.ds2_generate.specs.Generated.{codes_of, codes_below, code_with_stages}

-- ---- programs over the thread program that they may hold

codes_over : (p : UnitTree) (o : Option ProgramTree) → codes_of (over_stage p o) ≡ program_code p ∷ codes_below o
codes_over p None = refl
codes_over p (Some stage) = refl

reader_is : (p : UnitTree) (o : Option ProgramTree) → reader_of (over_stage p o) ≡ p
reader_is p None = refl
reader_is p (Some stage) = refl

-- staged code from its parts
abbrev from_codes : ProgramParts → List ProgramParts → StagedParts
from_codes program stages = record { program = program; stages = stages }

-- the code of a program and the codes of its thread programs make the staged code
pub staged_is : (p : UnitTree) (o : Option ProgramTree) (program : ProgramParts) (stages : List ProgramParts) → program ≡ program_code (reader_of (over_stage p o)) → stages ≡ codes_below o
    → from_codes program stages ≡ code_with_stages (over_stage p o)
staged_is p None program stages first rest = ap (λ c. from_codes c stages) first ∙ ap (λ l. from_codes (program_code p) l) rest
staged_is p (Some stage) program stages first rest = ap (λ c. from_codes c stages) first ∙ ap (λ l. from_codes (program_code p) l) rest

-- the layout and the code of a program are those of the one that reads, over the thread program that it may hold
pub data_laid_out : (p : UnitTree) (o : Option ProgramTree) (layout : Layout) → layout ≡ layout_of (reader_of (over_stage p o)) → layout ≡ layout_of p
data_laid_out p o layout is = is ∙ ap layout_of (reader_is p o)

pub data_coded : {E : Type 0} (p : UnitTree) (o : Option ProgramTree) (r : Result ProgramParts E) → IfOk r (λ code. code ≡ program_code p) → IfOk r (λ code. code ≡ program_code (reader_of (over_stage p o)))
data_coded p o (Ok code) is = is ∙ ap program_code (sym (reader_is p o))
data_coded p o (Err e) is = tt

-- ---- thread programs

thread_rolled : (name : List ℕ) (parameters : List Variable) (program : Program) (o : Option (Arc TypedThread Global))
    → typed_thread_program (roll-TypedThread (record { name = name; parameters = parameters; program = program; stage = o })) ≡ over_stage (unit_tree (Some name) parameters program) (option_map typed_thread_program (unshared o))
thread_rolled name parameters program None = fold-roll-TypedThread ProgramTree thread_part (record { name = name; parameters = parameters; program = program; stage = None })
thread_rolled name parameters program (Some b) = fold-roll-TypedThread ProgramTree thread_part (record { name = name; parameters = parameters; program = program; stage = Some b })

rolled : (t : TypedThread) → roll-TypedThread (out-TypedThread t) ≡ t
rolled = roll-out-TypedThread

-- a thread program without the one that it may read from
abbrev pub own_tree : TypedThread → UnitTree
own_tree t = unit_tree (Some (out-TypedThread t).name) (out-TypedThread t).parameters (out-TypedThread t).program

-- the one that it may read from
abbrev pub tree_below : TypedThread → Option ProgramTree
tree_below t = option_map typed_thread_program (unshared (out-TypedThread t).stage)

thread_is : (t : TypedThread) → typed_thread_program t ≡ over_stage (own_tree t) (tree_below t)
thread_is t =
    ap typed_thread_program (sym (rolled t))
    ∙ thread_rolled (out-TypedThread t).name (out-TypedThread t).parameters (out-TypedThread t).program (out-TypedThread t).stage

pub reader_at : (t : TypedThread) → reader_of (typed_thread_program t) ≡ own_tree t
reader_at t = ap reader_of (thread_is t) ∙ reader_is (own_tree t) (tree_below t)

-- the layout does not depend on the name that a program has as a thread program
pub layout_at : (t : TypedThread) (parameters : List Variable) (layout : Layout) → parameters ≡ (out-TypedThread t).parameters → layout ≡ layout_of (reader_of (typed_thread_program t))
    → layout ≡ layout_of (unit_tree None parameters (out-TypedThread t).program)
layout_at t parameters layout given is =
    is ∙ ap layout_of (reader_at t) ∙ ap (λ (l : List Variable). layout_of (unit_tree None l (out-TypedThread t).program)) (sym given)

-- the code of a thread program
code_at : (t : TypedThread) (parameters : List Variable) (code : ProgramParts) → parameters ≡ (out-TypedThread t).parameters
    → code ≡ program_code (unit_tree (Some (out-TypedThread t).name) parameters (out-TypedThread t).program) → code ≡ program_code (reader_of (typed_thread_program t))
code_at t parameters code given is =
    is ∙ ap (λ (l : List Variable). program_code (unit_tree (Some (out-TypedThread t).name) l (out-TypedThread t).program)) given ∙ ap program_code (sym (reader_at t))

pub thread_coded : {E : Type 0} (t : TypedThread) (parameters : List Variable) (r : Result ProgramParts E) → parameters ≡ (out-TypedThread t).parameters
    → IfOk r (λ code. code ≡ program_code (unit_tree (Some (out-TypedThread t).name) parameters (out-TypedThread t).program)) → IfOk r (λ code. code ≡ program_code (reader_of (typed_thread_program t)))
thread_coded t parameters (Ok code) given is = code_at t parameters code given is
thread_coded t parameters (Err e) given is = tt

codes_at : (t : TypedThread) → codes_of (typed_thread_program t) ≡ program_code (reader_of (typed_thread_program t)) ∷ codes_below (tree_below t)
codes_at t = ap codes_of (thread_is t) ∙ codes_over (own_tree t) (tree_below t) ∙ ap (λ q. program_code q ∷ codes_below (tree_below t)) (sym (reader_at t))

-- a thread program that reads from none ends the list
pub last_stage : (t : TypedThread) (old new : List ProgramParts) (code : ProgramParts) → (out-TypedThread t).stage ≡ None
    → code ≡ program_code (reader_of (typed_thread_program t)) → new ≡ old ++ code ∷ [] → new ≡ old ++ codes_of (typed_thread_program t)
last_stage t old new code none first added =
    added ∙ ap (λ c. old ++ c ∷ []) first
    ∙ sym (ap (λ l. old ++ l) (codes_at t ∙ ap (λ o. program_code (reader_of (typed_thread_program t)) ∷ codes_below (option_map typed_thread_program (unshared o))) none))

-- one that reads from another stands before that one's codes
pub stage_before : (t : TypedThread) (b : Arc TypedThread Global) (old mid new : List ProgramParts) (code : ProgramParts) → (out-TypedThread t).stage ≡ Some b
    → code ≡ program_code (reader_of (typed_thread_program t)) → mid ≡ old ++ code ∷ [] → new ≡ mid ++ codes_of (typed_thread_program b.value)
    → new ≡ old ++ codes_of (typed_thread_program t)
stage_before t b old mid new code some first added rest =
    let c = program_code (reader_of (typed_thread_program t)) in
    let l = codes_of (typed_thread_program b.value) in
    rest ∙ ap (λ m. m ++ l) (added ∙ ap (λ x. old ++ x ∷ []) first) ∙ append_assoc old (c ∷ []) l
    ∙ sym (ap (λ m. old ++ m) (codes_at t ∙ ap (λ o. c ∷ codes_below (option_map typed_thread_program (unshared o))) some))
