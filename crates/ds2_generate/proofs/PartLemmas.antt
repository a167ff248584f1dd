-- The parts of a program's code make the whole.
use Rattle.std.proofs.Common.{◌≡◌, ℕ, List, map, Option, None, refl, ap, ◌∙◌}
use Rattle.ds2_meaning.specs.declared.globals.OutputTable.{OutputTable}
use Rattle.ds2_meaning.specs.declared.globals.Variable.{Variable}
use Rattle.ds2_meaning.specs.declared.location.Global.TheVariants.{Parameter}
use Rattle.ds2_meaning.specs.declared.readings.Reading.{Reading}
use Rattle.ds2_meaning.specs.declared.readings.Reading.TheVariants as read
use Rattle.ds2_meaning.specs.ProgramTree.{UnitTree}
use Rattle.ds2_meaning.specs.View.{reading_with_run, unit_tree}
use Rattle.ds2_layout.specs.declared.slot.LayoutSlot.{LayoutSlot}
use Rattle.ds2_layout.specs.Layout.{program_slots, projection}
use Rattle.ds2_code.specs.declared.instr.Instr.{Instr}
use Rattle.ds2_code.specs.declared.parts.Constant.{Constant}
use Rattle.ds2_code.specs.declared.parts.HashPart.{HashPart}
use Rattle.ds2_code.specs.declared.parts.MethodPart.{MethodPart}
use Rattle.ds2_code.specs.declared.parts.OutputPart.{OutputPart}
use Rattle.ds2_code.specs.declared.parts.ProgramParts.{ProgramParts}
use Rattle.ds2_code.specs.declared.parts.ReadingPart.{ReadingPart}
use Rattle.ds2_code.specs.declared.parts.Slot.{Slot}
use Rattle.ds2_gen.specs.BodyCode.{bodies_code}
use Rattle.ds2_program_code.specs.UsedConstants.{UsedConstant}
use Rattle.ds2_program_code.specs.CodeConstants.{constant_part}
use Rattle.ds2_program_code.specs.CodeMethods.{code_methods}
use Rattle.ds2_program_code.specs.CodeParts.{code_slots, hash_parts, iterator_parts, reading_part, output_part, slot_of_global}
use Rattle.ds2_program_code.specs.ProgramCode.{program_code, code_constants, code_bodies, run_entry, term_entry, methods_entry, method_parts}
use Rattle.ds2_numbering.specs.CellNumbers.{tree_of}
use Rattle.ds2_generate.specs.declared.program.ProgramBodies.{ProgramBodies}
use Rattle.ds2_generate.specs.declared.program.ProgramSlots.{ProgramSlots}
use Rattle.ds2_generate.specs.declared.program.TableParts.{TableParts}
use Rattle.ds2_generate.specs.declared.unit.Unit.{Unit}
use Rattle.ds2_generate.specs.OutputParts.{output_parts_by}
use Rattle.ds2_generate.specs.OwnSlots.{AreProgramSlots}
use Rattle.ds2_generate.specs.PartsAmong.{slot_among, hash_parts_among, reading_part_among}
use Rattle.ds2_generate.specs.UnitBodies.{IsLaidOut, tree_of_unit}
use Rattle.ds2_generate.specs.UnitTables.{AreTablesOfUnit}
use Rattle.ds2_generate.proofs.OutputLemmas.{outputs_are}

-- ---- tables

-- parts by the slots of a program are those of the program
hashes_by : (p : UnitTree) → hash_parts_among (program_slots p) p ≡ hash_parts p
hashes_by p = refl

reading_by : (p : UnitTree) (r : Reading) → reading_part_among (program_slots p) r ≡ reading_part p r
reading_by p read.Nothing = refl
reading_by p read.Once = refl
reading_by p (read.Set inputs bys) = refl
reading_by p (read.Merge inputs bys retains) = refl
reading_by p (read.From instance workers columns) = refl

pub tables_made : (u : Unit) (projections : List (List ℕ)) (outputs : List OutputTable) (t : TableParts) → u.slots.now ≡ program_slots (tree_of_unit u)
    → projections ≡ map (projection (program_slots (tree_of_unit u))) (tree_of_unit u).outputs → outputs ≡ (tree_of_unit u).outputs
    → t.hashes ≡ hash_parts_among u.slots.now (tree_of u.program.now)
    → t.iterators ≡ iterator_parts (tree_of u.program.now)
    → t.parameters ≡ map (λ (v : Variable). slot_among u.slots.now (record { home = None; global = Parameter v.name })) u.parameters.now
    → t.reading ≡ reading_part_among u.slots.now (reading_with_run u.program.now.run u.program.now.reading)
    → t.outputs ≡ output_parts_by outputs projections
    → AreTablesOfUnit (tree_of_unit u) t
tables_made u projections outputs t slots projected listed hashes iterators parameters reading made =
    let p = tree_of_unit u in
    record {
      hashes = hashes ∙ ap (λ (l : List LayoutSlot). hash_parts_among l p) slots ∙ hashes_by p;
      iterators = iterators;
      parameters = parameters ∙ ap (λ (l : List LayoutSlot). map (λ (v : Variable). slot_among l (record { home = None; global = Parameter v.name })) p.parameters) slots;
      reading = reading ∙ ap (λ (l : List LayoutSlot). reading_part_among l p.reading) slots ∙ reading_by p p.reading;
      outputs = made ∙ ap (λ o. output_parts_by o projections) listed ∙ ap (λ l. output_parts_by p.outputs l) projected ∙ outputs_are p p.outputs;
    }

-- ---- the whole

-- a program's code from its parts
abbrev from_parts : Option (List ℕ) → List Slot → List Constant → List HashPart → List ℕ → List ℕ → List MethodPart → ReadingPart → List OutputPart → ℕ → ℕ → List Instr → ProgramParts
from_parts name slots constants hashes iterators parameters methods reading outputs run term instrs = record {
  name = name;
  slots = slots;
  constants = constants;
  hashes = hashes;
  iterators = iterators;
  parameters = parameters;
  methods = methods;
  reading = reading;
  outputs = outputs;
  init = 0;
  run = run;
  term = term;
  instrs = instrs;
}

pub parts_made : (u : Unit) (thread name : Option (List ℕ)) (own : ProgramSlots) (constants : List Constant) (t : TableParts) (b : ProgramBodies) → IsLaidOut u
    → AreProgramSlots (tree_of_unit u) own → name ≡ thread → constants ≡ map constant_part u.constants.now
    → AreTablesOfUnit (tree_of_unit u) t
    → b.instrs ≡ bodies_code 0 (code_bodies (tree_of_unit u)) → b.methods ≡ method_parts (tree_of_unit u) (methods_entry (tree_of_unit u)) (code_methods (tree_of_unit u))
    → b.run ≡ run_entry (tree_of_unit u) → b.term ≡ term_entry (tree_of_unit u)
    → from_parts name own.slots constants t.hashes t.iterators t.parameters b.methods t.reading t.outputs b.run b.term b.instrs ≡ program_code (unit_tree thread u.parameters.now u.program.now)
parts_made u thread name own constants t b laid slots named listed tables instrs methods run term =
    let p = tree_of_unit u in
    let s1 = code_slots p in
    let c1 = map constant_part (code_constants p) in
    let h1 = hash_parts p in
    let i1 = iterator_parts p in
    let a1 = map (λ (v : Variable). slot_of_global p None (Parameter v.name)) p.parameters in
    let m1 = method_parts p (methods_entry p) (code_methods p) in
    let r1 = reading_part p p.reading in
    let o1 = map (output_part p) p.outputs in
    let all : constants ≡ c1 = listed ∙ ap (λ (l : List UsedConstant). map constant_part l) laid.constants in
    ap (λ x. from_parts x own.slots constants t.hashes t.iterators t.parameters b.methods t.reading t.outputs b.run b.term b.instrs) named
    ∙ ap (λ x. from_parts thread x constants t.hashes t.iterators t.parameters b.methods t.reading t.outputs b.run b.term b.instrs) slots.slots
    ∙ ap (λ x. from_parts thread s1 x t.hashes t.iterators t.parameters b.methods t.reading t.outputs b.run b.term b.instrs) all
    ∙ ap (λ x. from_parts thread s1 c1 x t.iterators t.parameters b.methods t.reading t.outputs b.run b.term b.instrs) tables.hashes
    ∙ ap (λ x. from_parts thread s1 c1 h1 x t.parameters b.methods t.reading t.outputs b.run b.term b.instrs) tables.iterators
    ∙ ap (λ x. from_parts thread s1 c1 h1 i1 x b.methods t.reading t.outputs b.run b.term b.instrs) tables.parameters
    ∙ ap (λ x. from_parts thread s1 c1 h1 i1 a1 x t.reading t.outputs b.run b.term b.instrs) methods
    ∙ ap (λ x. from_parts thread s1 c1 h1 i1 a1 m1 x t.outputs b.run b.term b.instrs) tables.reading
    ∙ ap (λ x. from_parts thread s1 c1 h1 i1 a1 m1 r1 x b.run b.term b.instrs) tables.outputs
    ∙ ap (λ x. from_parts thread s1 c1 h1 i1 a1 m1 r1 o1 x b.term b.instrs) run
    ∙ ap (λ x. from_parts thread s1 c1 h1 i1 a1 m1 r1 o1 (run_entry p) x b.instrs) term
    ∙ ap (λ x. from_parts thread s1 c1 h1 i1 a1 m1 r1 o1 (run_entry p) (term_entry p) x) instrs
