-- Typed units over what the code holds of them.
use Rattle.std.proofs.Common.{◌≡◌, ℕ, List, Option, Some, None, Result, false, refl, sym, ap, ◌∙◌, subst}
use Rattle.std.specs.Option.{option_map}
use Rattle.std.specs.declared.alloc.Global as allocator
use Rattle.std.specs.declared.sync.Arc.{Arc}
use Rattle.ds2_base.specs.declared.place.Refusal.{Refusal}
use Rattle.ds2_tree.specs.Units.{DataProgram, Thread}
use Rattle.ds2_meaning.specs.ProgramTree.{ProgramTree}
use Rattle.ds2_meaning.specs.View.{over_stage, thread_part, typed_thread_program, unit_tree, unshared}
use Rattle.ds2_meaning.specs.declared.globals.Variable.{Variable}
use Rattle.ds2_meaning.specs.declared.refusals.TypeKind.{TypeKind}
use Rattle.ds2_meaning.specs.declared.units.Program.{Program}
use Rattle.ds2_meaning.specs.declared.units.TypedData.{TypedData}
use Rattle.ds2_meaning.specs.declared.units.TypedThread.{TypedThread, out-TypedThread}
use Rattle.ds2_meaning.specs.declared.units.TypedThread.TheFolds.{fold-roll-TypedThread}
use Rattle.ds2_meaning.specs.declared.units.TypedThread.TheViews.{roll-TypedThread}
use Rattle.ds2_names.specs.SourceUnit.{TableColumns, UnitSource, columns_stored, is_package, source_methods, spelled_name, unit_of_data, unit_of_thread}
use Rattle.ds2_names.specs.declared.schemas.NamedSchema.{NamedSchema}
use Rattle.ds2_elaboration.specs.ProgramTypes.{broken_type_rules, over_stage_read, typed_program, typed_unit}
use Rattle.ds2_elaboration.specs.SourceTypes.{parameter_variables, unit_names, unit_stage}
use Rattle.ds2_elaboration.specs.UnitsBefore.{UnitsBefore}
use Rattle.ds2_scope.specs.UnitNames.{NamesAre}
use Rattle.ds2_scope.specs.declared.unit_names.UnitNames.{UnitNames}
use Rattle.ds2_types.specs.Judgements.{IsOutcome}
use Rattle.ds2_program_types.specs.ThreadHeads.{IsHeadOf}
use Rattle.ds2_program_types.specs.declared.check.ThreadHead.{ThreadHead}
use Rattle.ds2_program_types.specs.TypedPrograms.{HavePlaces, IsStagedProgram, IsTypedData, IsTypedThread}

-- what stands of a unit, over the same tables and the same unit
pub told_over : {A : Type 0} (Is : TableColumns → UnitsBefore → UnitSource → A → Type 0) (before : UnitsBefore) (xs ys : List NamedSchema) (u v : UnitSource) (outcome : Result A (Refusal TypeKind)) → xs ≡ ys
    → u ≡ v → IsOutcome (Is (columns_stored xs) before u) (broken_type_rules (columns_stored xs) before u) outcome
    → IsOutcome (Is (columns_stored ys) before v) (broken_type_rules (columns_stored ys) before v) outcome
told_over Is before xs ys u v outcome e f h =
    subst (λ (w : UnitSource). IsOutcome (Is (columns_stored ys) before w) (broken_type_rules (columns_stored ys) before w) outcome) f
    (subst (λ (l : List NamedSchema). IsOutcome (Is (columns_stored l) before u) (broken_type_rules (columns_stored l) before u) outcome) e h)

-- what stands of a unit that is no package, as it stands in the source
pub of_source : {A : Type 0} (Is : TableColumns → UnitsBefore → UnitSource → A → Type 0) (tables : TableColumns) (before : UnitsBefore) (names : UnitNames) (u v : UnitSource)
    (outcome : Result A (Refusal TypeKind)) → u ≡ v → is_package v.kind ≡ false
    → (is_package u.kind ≡ false → NamesAre names (unit_names tables before u) → IsOutcome (Is tables before u) (broken_type_rules tables before u) outcome)
    → NamesAre names (unit_names tables before v) → IsOutcome (Is tables before v) (broken_type_rules tables before v) outcome
of_source Is tables before names u v outcome e p h n =
    subst (λ (w : UnitSource). IsOutcome (Is tables before w) (broken_type_rules tables before w) outcome) e
    (h (ap (λ (w : UnitSource). is_package w.kind) e ∙ p) (subst (λ (w : UnitSource). NamesAre names (unit_names tables before w)) (sym e) n))

module _ (tables : TableColumns) (before : UnitsBefore) (u : UnitSource) where
  staged : (s : Option ProgramTree) → over_stage (typed_unit tables before u) s ≡ over_stage_read tables before u s
  staged None = refl
  staged (Some stage) = refl

  -- a program and what it reads from are the typed program
  pub over_told : (d : TypedData) → IsStagedProgram tables before u d
      → over_stage (unit_tree (option_map spelled_name u.name) (parameter_variables u) d.program) (option_map typed_thread_program d.stage) ≡ typed_program tables before u
  over_told d h = (λ i. over_stage (h.program.tree i) (h.stage i)) ∙ staged (unit_stage tables before u)

-- a data program with what it reads from
pub data_told : (tables : TableColumns) (before : UnitsBefore) (p : DataProgram) (d : TypedData) → IsStagedProgram tables before (unit_of_data p) d → IsTypedData tables before (unit_of_data p) d
data_told tables before p d h = record { tree = over_told tables before (unit_of_data p) d h; places = h.program.places }

-- a thread program of its parts
pub thread_opened : (name : List ℕ) (parameters : List Variable) (program : Program) (stage : Option (Arc TypedThread allocator.Global))
    → typed_thread_program (roll-TypedThread (record { name = name; parameters = parameters; program = program; stage = stage }))
    ≡ over_stage (unit_tree (Some name) parameters program) (option_map typed_thread_program (unshared stage))
thread_opened name parameters program None = fold-roll-TypedThread ProgramTree thread_part (record { name = name; parameters = parameters; program = program; stage = None })
thread_opened name parameters program (Some b) = fold-roll-TypedThread ProgramTree thread_part (record { name = name; parameters = parameters; program = program; stage = Some b })

module _ (tables : TableColumns) (before : UnitsBefore) (t : Thread) (made : TypedThread) (d : TypedData) where
  -- a thread program with its name, its parameters and what it reads from
  pub thread_told : (head : ThreadHead) (stage : Option TypedThread)
      → typed_thread_program made ≡ over_stage (unit_tree (Some head.name) head.parameters d.program) (option_map typed_thread_program stage) → (out-TypedThread made).program ≡ d.program
      → IsHeadOf t head → stage ≡ d.stage → IsStagedProgram tables before (unit_of_thread t) d → IsTypedThread tables before (unit_of_thread t) made
  thread_told head stage m q n s h = record {
    tree =
        m ∙ (λ i. over_stage (unit_tree (Some (n.name i)) (n.parameters i) d.program) (option_map typed_thread_program (s i)))
        ∙ over_told tables before (unit_of_thread t) d h;
    places = subst (λ (x : Program). HavePlaces (source_methods (unit_of_thread t).globals) x) (sym q) h.program.places;
  }
