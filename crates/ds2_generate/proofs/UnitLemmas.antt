-- How the bodies of a program are put together.
use Rattle.std.proofs.Common.{◌≡◌, ℕ, ◌+◌, List, [], ◌∷◌, ◌++◌, length, map, Option, None, Result, Ok, Err, OnOk, sym, ap, subst, refl, ◌∙◌, append_assoc, append-nil, length-append, zero-add}
use Rattle.std.specs.Prelude.{flat_map}
use Rattle.ds2_meaning.specs.declared.methods.Method.{Method}
use Rattle.ds2_meaning.specs.declared.units.Instance.{Instance}
use Rattle.ds2_meaning.specs.ProgramTree.{BodyTree, UnitTree}
use Rattle.ds2_meaning.specs.View.{init_tree, instance_tree, system_tree, typed_method}
use Rattle.ds2_layout.specs.declared.slot.LayoutSlot.{LayoutSlot}
use Rattle.ds2_layout.specs.Layout.{program_slots}
use Rattle.ds2_code.specs.declared.instr.Instr.{Instr}
use Rattle.ds2_code.specs.declared.parts.MethodPart.{MethodPart}
use Rattle.ds2_gen.specs.BodyCode.{OfSystem, code_of_body, bodies_code}
use Rattle.ds2_gen.specs.CodeCells.{Nameable, GlobalAt, LocalNamed, CodeCell}
use Rattle.ds2_gen.specs.ExpressionCode.{CodeNumbers}
use Rattle.ds2_gen.specs.MethodCode.{method_code}
use Rattle.ds2_program_code.specs.PlacedProgram.{layout_size}
use Rattle.ds2_program_code.specs.UsedConstants.{UsedConstant}
use Rattle.ds2_program_code.specs.CodeMethods.{CodeMethod, methods_at, code_methods}
use Rattle.ds2_program_code.specs.ProgramCode.{code_constants, system_numbers, method_numbers, init_body, run_body, term_body, method_body, code_bodies, run_entry, term_entry, methods_entry, method_part, method_parts}
use Rattle.ds2_numbering.specs.declared.frame.Frame.{Frame}
use Rattle.ds2_numbering.specs.declared.frame.Frame.TheVariants as frame
use Rattle.ds2_numbering.specs.FrameNumbers.{body_in, cell_in, frame_numbers}
use Rattle.ds2_numbering.specs.SoughtLocations.{home_of_name}
use Rattle.ds2_generate.specs.declared.unit.Unit.{Unit}
use Rattle.ds2_generate.specs.UnitBodies.{tree_of_unit, with_declared, with_method_parts, instance_code_methods}

-- an answer says what follows from what it said
pub on_ok : {T E P Q : Type 0} (r : Result T E) → OnOk r P → (P → Q) → OnOk r Q
on_ok (Ok x) h f = f h
on_ok (Err e) h f = h

-- what holds anyway holds at success
pub on_any : {T E P : Type 0} (r : Result T E) → P → OnOk r P
on_any (Ok x) h = h
on_any (Err e) h = tt

-- what a body finds fixed by the definition
abbrev pub numbers_in : UnitTree → Frame → CodeNumbers
numbers_in p (frame.System first locals instances body) = system_numbers p first (body_in locals.now instances.now body.now)
numbers_in p (frame.Declared home method) = method_numbers p (record { home = home_of_name home; method = typed_method method.now })

cell_is : (p : UnitTree) (f : Frame) (n : Nameable) → cell_in (program_slots p) p f n ≡ (numbers_in p f).placement.cell n
cell_is p (frame.System first locals instances body) (GlobalAt at) = refl
cell_is p (frame.System first locals instances body) (LocalNamed name) = refl
cell_is p (frame.Declared home method) (GlobalAt at) = refl
cell_is p (frame.Declared home method) (LocalNamed name) = refl

cells_are : (p : UnitTree) (f : Frame) → cell_in (program_slots p) p f ≡ (numbers_in p f).placement.cell
cells_are p f = λ i n. cell_is p f n i

-- these numbers with other cells
abbrev with_cells : CodeNumbers → (Nameable → Option CodeCell) → CodeNumbers
with_cells n cells = record n { placement = record n.placement { cell = cells } }

numbers_are : (p : UnitTree) (f : Frame) → frame_numbers (program_slots p) (code_constants p) p f ≡ numbers_in p f
numbers_are p (frame.System first locals instances body) =
    ap (with_cells (numbers_in p (frame.System first locals instances body))) (cells_are p (frame.System first locals instances body))
numbers_are p (frame.Declared home method) = ap (with_cells (numbers_in p (frame.Declared home method))) (cells_are p (frame.Declared home method))

-- what a body finds fixed is what the definition says, where slots and constants are those of the program
pub body_numbered : (p : UnitTree) (slots : List LayoutSlot) (constants : List UsedConstant) (n : CodeNumbers) (held f : Frame) → held ≡ f → n ≡ frame_numbers slots constants p f
    → slots ≡ program_slots p → constants ≡ code_constants p → n ≡ numbers_in p f
body_numbered p slots constants n held f same is hs hc =
    is ∙ ap (λ s. frame_numbers s constants p f) hs ∙ ap (λ c. frame_numbers (program_slots p) c p f) hc ∙ numbers_are p f

-- the code of a system method whose tree is an equal one
pub system_emitted : {T E : Type 0} (p : UnitTree) (first : ℕ) (written : List ℕ) (code new : List Instr) (r : Result T E) (tree other : BodyTree) → tree ≡ other
    → OnOk r (new ≡ code ++ code_of_body (length code) (OfSystem (system_numbers p first tree) tree written))
    → OnOk r (new ≡ code ++ code_of_body (length code) (OfSystem (system_numbers p first other) other written))
system_emitted p first written code new r tree other is h = subst (λ t. OnOk r (new ≡ code ++ code_of_body (length code) (OfSystem (system_numbers p first t) t written))) is h

module _ (p : UnitTree) (m : CodeMethod) (rest : List CodeMethod) where
  -- a method before others
  pub method_emitted : (c d : List Instr) → d ≡ c ++ method_code (method_numbers p m) (length c) m.method → with_declared p (m ∷ rest) c ≡ with_declared p rest d
  unfolding with_declared
  method_emitted c d is =
      let code = method_code (method_numbers p m) (length c) m.method in
      sym (ap (λ x. x ++ bodies_code (length x) (map (method_body p) rest)) is
      ∙ ap (λ k. (c ++ code) ++ bodies_code k (map (method_body p) rest)) (length-append c code)
      ∙ append_assoc c code (bodies_code (length c + length code) (map (method_body p) rest)))

  -- the part of a method before those of others
  pub part_emitted : (c d : List Instr) (parts more : List MethodPart) → d ≡ c ++ method_code (method_numbers p m) (length c) m.method → more ≡ parts ++ method_part (length c) m.method ∷ []
      → with_method_parts p (length c) (m ∷ rest) parts ≡ with_method_parts p (length d) rest more
  unfolding with_method_parts
  part_emitted c d parts more code_is part_is =
      let code = method_code (method_numbers p m) (length c) m.method in
      let at : length d ≡ length c + length code = ap length code_is ∙ length-append c code in
      sym (ap (λ k. more ++ method_parts p k rest) at ∙ ap (λ x. x ++ method_parts p (length c + length code) rest) part_is
      ∙ append_assoc parts (method_part (length c) m.method ∷ []) (method_parts p (length c + length code) rest))

-- ---- the whole

module _ (p : UnitTree) where
  -- the code of the bodies, part by part
  bodies_split : bodies_code 0 (code_bodies p)
      ≡ code_of_body 0 (init_body p) ++ (code_of_body (run_entry p) (run_body p) ++ (code_of_body (term_entry p) (term_body p) ++ bodies_code (methods_entry p) (map (method_body p) (code_methods p))))
  bodies_split =
      ap (λ k. code_of_body 0 (init_body p) ++ bodies_code k (run_body p ∷ term_body p ∷ map (method_body p) (code_methods p))) (zero-add (length (code_of_body 0 (init_body p))))

  pub second_begins : (c1 c2 : List Instr) → c1 ≡ code_of_body 0 (init_body p) → c2 ≡ c1 ++ code_of_body (length c1) (run_body p) → c2 ≡ code_of_body 0 (init_body p) ++ code_of_body (run_entry p) (run_body p)
  second_begins c1 c2 e1 e2 = e2 ∙ ap (λ c. c ++ code_of_body (length c) (run_body p)) e1

  pub third_begins : (c2 : List Instr) → c2 ≡ code_of_body 0 (init_body p) ++ code_of_body (run_entry p) (run_body p) → length c2 ≡ term_entry p
  third_begins c2 e2 = ap length e2 ∙ length-append (code_of_body 0 (init_body p)) (code_of_body (run_entry p) (run_body p))

  units_end : (c2 c3 : List Instr) → c2 ≡ code_of_body 0 (init_body p) ++ code_of_body (run_entry p) (run_body p) → c3 ≡ c2 ++ code_of_body (length c2) (term_body p)
      → c3 ≡ (code_of_body 0 (init_body p) ++ code_of_body (run_entry p) (run_body p)) ++ code_of_body (term_entry p) (term_body p)
  units_end c2 c3 e2 e3 = e3 ∙ ap (λ k. c2 ++ code_of_body k (term_body p)) (third_begins c2 e2) ∙ ap (λ c. c ++ code_of_body (term_entry p) (term_body p)) e2

  methods_begin : (c2 c3 : List Instr) → c2 ≡ code_of_body 0 (init_body p) ++ code_of_body (run_entry p) (run_body p) → c3 ≡ c2 ++ code_of_body (length c2) (term_body p)
      → length c3 ≡ methods_entry p
  methods_begin c2 c3 e2 e3 =
      let whole = units_end c2 c3 e2 e3 in
      ap length whole ∙ length-append (code_of_body 0 (init_body p) ++ code_of_body (run_entry p) (run_body p)) (code_of_body (term_entry p) (term_body p))
      ∙ ap (λ k. k + length (code_of_body (term_entry p) (term_body p))) (length-append (code_of_body 0 (init_body p)) (code_of_body (run_entry p) (run_body p)))

  pub bodies_written : (c1 c2 c3 c5 : List Instr)
      → c1 ≡ code_of_body 0 (init_body p) → c2 ≡ c1 ++ code_of_body (length c1) (run_body p) → c3 ≡ c2 ++ code_of_body (length c2) (term_body p)
      → with_declared p [] c5 ≡ with_declared p (code_methods p) c3 → c5 ≡ bodies_code 0 (code_bodies p)
  unfolding with_declared
  bodies_written c1 c2 c3 c5 e1 e2 e3 e5 =
      let second = second_begins c1 c2 e1 e2 in
      let a = code_of_body 0 (init_body p) in
      let b = code_of_body (run_entry p) (run_body p) in
      let t = code_of_body (term_entry p) (term_body p) in
      let d = bodies_code (methods_entry p) (map (method_body p) (code_methods p)) in
      sym (append-nil c5) ∙ e5
      ∙ ap (λ k. c3 ++ bodies_code k (map (method_body p) (code_methods p))) (methods_begin c2 c3 second e3)
      ∙ ap (λ c. c ++ d) (units_end c2 c3 second e3)
      ∙ append_assoc (a ++ b) t d ∙ append_assoc a b (t ++ d) ∙ sym bodies_split

  pub parts_written : (c1 c2 c3 c5 : List Instr) (parts : List MethodPart)
      → c1 ≡ code_of_body 0 (init_body p) → c2 ≡ c1 ++ code_of_body (length c1) (run_body p) → c3 ≡ c2 ++ code_of_body (length c2) (term_body p)
      → with_method_parts p (length c5) [] parts ≡ with_method_parts p (length c3) (code_methods p) [] → parts ≡ method_parts p (methods_entry p) (code_methods p)
  unfolding with_method_parts
  parts_written c1 c2 c3 c5 parts e1 e2 e3 e5 =
      sym (append-nil parts) ∙ e5 ∙ ap (λ k. method_parts p k (code_methods p)) (methods_begin c2 c3 (second_begins c1 c2 e1 e2) e3)

-- ---- what the code of a program is written from

-- the code of `init` is the first
pub init_begins : (u : Unit) (first : ℕ) (instances : List Instance) (code new : List Instr) → code ≡ [] → first ≡ layout_size (tree_of_unit u) → instances ≡ u.program.now.instances
    → new ≡ code ++ code_of_body (length code) (OfSystem (system_numbers (tree_of_unit u) first (init_tree instances (system_tree u.program.now.init))) (init_tree instances (system_tree u.program.now.init)) [])
    → new ≡ code_of_body 0 (init_body (tree_of_unit u))
init_begins u first instances code new empty here are is =
    let p = tree_of_unit u in
    let t : List Instance → BodyTree = λ l. init_tree l (system_tree u.program.now.init) in
    is ∙ ap (λ (c : List Instr). c ++ code_of_body (length c) (OfSystem (system_numbers p first (t instances)) (t instances) [])) empty
    ∙ ap (λ n. code_of_body 0 (OfSystem (system_numbers p n (t instances)) (t instances) [])) here
    ∙ ap (λ l. code_of_body 0 (OfSystem (system_numbers p (layout_size p) (t l)) (t l) [])) are

-- the code of a system method whose own slots begin at an equal number
pub system_begins : (p : UnitTree) (tree : BodyTree) (written : List ℕ) (first other : ℕ) (code new : List Instr) → first ≡ other
    → new ≡ code ++ code_of_body (length code) (OfSystem (system_numbers p first tree) tree written) → new ≡ code ++ code_of_body (length code) (OfSystem (system_numbers p other tree) tree written)
system_begins p tree written first other code new is e = e ∙ ap (λ n. code ++ code_of_body (length code) (OfSystem (system_numbers p n tree) tree written)) is

-- the methods of instances in code
abbrev pub methods_of_instances : List Instance → List CodeMethod
methods_of_instances l = flat_map instance_code_methods (map instance_tree l)

-- behind the program's own methods stand those of its instances
methods_listed : (u : Unit) (own : List Method) (instances : List Instance) → own ≡ u.program.now.methods → instances ≡ u.program.now.instances
    → methods_at None (map typed_method own) ++ (methods_of_instances instances ++ []) ≡ code_methods (tree_of_unit u)
methods_listed u own instances mine theirs =
    ap (λ l. methods_at None (map typed_method own) ++ l) (append-nil (methods_of_instances instances))
    ∙ ap (λ (l : List Method). methods_at None (map typed_method l) ++ methods_of_instances instances) mine
    ∙ ap (λ l. methods_at None (map typed_method u.program.now.methods) ++ methods_of_instances l) theirs

pub methods_follow : (u : Unit) (own : List Method) (instances : List Instance) (before between after : List Instr) → own ≡ u.program.now.methods → instances ≡ u.program.now.instances
    → with_declared (tree_of_unit u) (methods_of_instances instances ++ []) between ≡ with_declared (tree_of_unit u) (methods_at None (map typed_method own) ++ (methods_of_instances instances ++ [])) before
    → with_declared (tree_of_unit u) [] after ≡ with_declared (tree_of_unit u) (methods_of_instances instances ++ []) between
    → with_declared (tree_of_unit u) [] after ≡ with_declared (tree_of_unit u) (code_methods (tree_of_unit u)) before
methods_follow u own instances before between after mine theirs first second =
    second ∙ first ∙ ap (λ l. with_declared (tree_of_unit u) l before) (methods_listed u own instances mine theirs)

pub parts_follow : (u : Unit) (own : List Method) (instances : List Instance) (before between after : ℕ) (none some all : List MethodPart)
    → own ≡ u.program.now.methods → instances ≡ u.program.now.instances → none ≡ []
    → with_method_parts (tree_of_unit u) between (methods_of_instances instances ++ []) some
    ≡ with_method_parts (tree_of_unit u) before (methods_at None (map typed_method own) ++ (methods_of_instances instances ++ [])) none
    → with_method_parts (tree_of_unit u) after [] all ≡ with_method_parts (tree_of_unit u) between (methods_of_instances instances ++ []) some
    → with_method_parts (tree_of_unit u) after [] all ≡ with_method_parts (tree_of_unit u) before (code_methods (tree_of_unit u)) []
parts_follow u own instances before between after none some all mine theirs empty first second =
    second ∙ first ∙ ap (λ l. with_method_parts (tree_of_unit u) before l none) (methods_listed u own instances mine theirs)
    ∙ ap (λ l. with_method_parts (tree_of_unit u) before (code_methods (tree_of_unit u)) l) empty
