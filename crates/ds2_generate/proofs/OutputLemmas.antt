-- Outputs by the projections of a layout are those of the definition.
use Rattle.std.proofs.Common.{◌≡◌, ℕ, suc, ◌+◌, ◌-◌, ◌<◌, Bool, ◌||◌, List, [], ◌∷◌, map, refl, sym, ap, ◌∙◌, arith}
use Rattle.std.specs.List.{list_any, range_with_len}
use Rattle.ds2_meaning.specs.declared.globals.OutputColumn.{OutputColumn}
use Rattle.ds2_meaning.specs.declared.globals.OutputTable.{OutputTable}
use Rattle.ds2_meaning.specs.declared.methods.Method.{Method}
use Rattle.ds2_meaning.specs.declared.units.Instance.{Instance}
use Rattle.ds2_meaning.specs.declared.units.Program.{Program}
use Rattle.ds2_meaning.specs.Method.{MethodTree}
use Rattle.ds2_meaning.specs.ProgramTree.{UnitTree, program_has_output}
use Rattle.ds2_meaning.specs.TypedStatement.{TypedStatements, have_output}
use Rattle.ds2_meaning.specs.View.{constructors_first, system_tree, typed_method}
use Rattle.ds2_numbering.specs.CellNumbers.{tree_of}
use Rattle.ds2_layout.specs.declared.slot.LayoutSlot.{LayoutSlot}
use Rattle.ds2_layout.specs.Layout.{program_slots, source_slot, projection}
use Rattle.ds2_program_code.specs.CodeParts.{output_part}
use Rattle.ds2_generate.specs.OutputParts.{column_pairs, output_parts_by}

pairs_are : (slots : List LayoutSlot) (columns : List OutputColumn)
    → column_pairs columns (map (source_slot slots) (map (λ (c : OutputColumn). c.source) columns)) ≡ map (λ (c : OutputColumn). (c.name, source_slot slots c.source)) columns
pairs_are slots [] = refl
pairs_are slots (c ∷ columns) = ap (λ l. (c.name, source_slot slots c.source) ∷ l) (pairs_are slots columns)

pub outputs_are : (p : UnitTree) (outputs : List OutputTable) → output_parts_by outputs (map (projection (program_slots p)) outputs) ≡ map (output_part p) outputs
outputs_are p [] = refl
outputs_are p (o ∷ outputs) =
    ap (λ columns. record (output_part p o) { columns = columns } ∷ output_parts_by outputs (map (projection (program_slots p)) outputs)) (pairs_are (program_slots p) o.columns)
    ∙ ap (λ l. output_part p o ∷ l) (outputs_are p outputs)

-- ---- the outputs to which `run` writes at its end

-- no constructor is an `output` statement
constructors_have_none : (is : List Instance) (rest : TypedStatements) → have_output (constructors_first is rest) ≡ have_output rest
constructors_have_none [] rest = refl
constructors_have_none (i ∷ is) rest = constructors_have_none is rest

pub output_seen : (p : Program) (methods : List Method) (i r t m : Bool)
    → i ≡ have_output (system_tree p.init).statements → r ≡ have_output (system_tree p.run).statements → t ≡ have_output (system_tree p.term).statements
    → methods ≡ p.methods → m ≡ list_any (λ (x : MethodTree). have_output x.body) (map typed_method methods) → (i || r || t || m) ≡ program_has_output (tree_of p)
output_seen p methods i r t m in_init in_run in_term are in_methods =
    let r1 = have_output (system_tree p.run).statements in
    let t1 = have_output (system_tree p.term).statements in
    ap (λ x. x || r || t || m) (in_init ∙ sym (constructors_have_none p.instances (system_tree p.init).statements))
    ∙ ap (λ x. have_output (tree_of p).init.statements || x || t || m) in_run
    ∙ ap (λ x. have_output (tree_of p).init.statements || r1 || x || m) in_term
    ∙ ap (λ x. have_output (tree_of p).init.statements || r1 || t1 || x) (in_methods ∙ ap (λ (l : List Method). list_any (λ (x : MethodTree). have_output x.body) (map typed_method l)) are)

-- the numbers from one on are that one and those behind it
pub numbers_from : (n count : ℕ) → n < count → range_with_len n (count - n) ≡ n ∷ range_with_len (n + 1) (count - (n + 1))
numbers_from n count lt =
    let more : count - n ≡ suc (count - (n + 1)) = omega (arith, lt) in
    ap (λ k. range_with_len n k) more
