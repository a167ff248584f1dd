-- What becomes of one unit, as the code holds it.
use Rattle.std.proofs.Common.{◌≡◌, List, [], ◌∷◌, Option, Some, None, refl, sym, ap, subst, ◌∙◌}
use Rattle.std.specs.Option.{option_map}
use Rattle.ds2_base.specs.declared.place.Refusal.{Refusal}
use Rattle.ds2_tree.specs.Units.{DataProgram, AData}
use Rattle.ds2_meaning.specs.IsTyped.{AreTypedOutputs, IsTypedProgram, IsTypedUnit}
use Rattle.ds2_meaning.specs.ProgramTree.{UnitTree, ProgramTree, OverTables, OverStage, reader_of}
use Rattle.ds2_meaning.specs.View.{over_stage, typed_data_program, typed_thread_program, unit_tree}
use Rattle.ds2_meaning.specs.declared.globals.OutputTable.{OutputTable}
use Rattle.ds2_meaning.specs.declared.globals.Variable.{Variable}
use Rattle.ds2_meaning.specs.declared.refusals.ScopeKind.{ScopeKind}
use Rattle.ds2_meaning.specs.declared.refusals.TypeKind.{TypeKind}
use Rattle.ds2_meaning.specs.declared.units.TypedData.{TypedData}
use Rattle.ds2_names.specs.Refusals.{type_rank, least_refusal}
use Rattle.ds2_names.specs.SourceLimits.{scope_refusal}
use Rattle.ds2_names.specs.SourceUnit.{TableColumns, UnitSource, unit_of_data}
use Rattle.ds2_elaboration.specs.Elaboration.{OfNames, OfTypes, names_before_types, unit_refusal}
use Rattle.ds2_elaboration.specs.ElaborationLaws.{OneOutcome}
use Rattle.ds2_elaboration.specs.ProgramTypes.{broken_type_rules, type_refusal, over_stage_read, typed_unit, typed_program}
use Rattle.ds2_elaboration.specs.SourceTypes.{unit_stage}
use Rattle.ds2_elaboration.specs.TypedPrograms.{EveryUnitIsTyped, HaveSchemas, UnitsStand, StandsInSource}
use Rattle.ds2_elaboration.specs.Typings.{TypeRefusals}
use Rattle.ds2_elaboration.specs.UnitsBefore.{UnitsBefore}
use Rattle.ds2_source.specs.SourceRefusals.{source_refusal_of}
use Rattle.ds2_source.specs.declared.kinds.SourceRefusal.{SourceRefusal}
use Rattle.ds2_compile.specs.TablesBehind.{HaveOutputSchemas}

-- ---- the refusal of a unit

module _ (tables : TableColumns) (before : UnitsBefore) (u : UnitSource) where
  abbrev given_of : Option (Refusal ScopeKind) → Option (Refusal TypeKind) → Option SourceRefusal
  given_of names types = option_map source_refusal_of (names_before_types names types)

  -- a unit that is refused for its names
  pub refused_for_names : (r : Refusal ScopeKind) (given : SourceRefusal) → Some r ≡ scope_refusal tables before.names u → given ≡ source_refusal_of (OfNames r)
      → option_map source_refusal_of (unit_refusal tables before u) ≡ Some given
  refused_for_names r given e is = sym (ap (λ n. given_of n (type_refusal tables before u)) e) ∙ ap (λ (x : SourceRefusal). Some x) (sym is)

  -- a unit whose names are sound, and that is refused for its types
  pub refused_for_types : (r : Refusal TypeKind) (given : SourceRefusal) → None ≡ scope_refusal tables before.names u → type_refusal tables before u ≡ Some r → given ≡ source_refusal_of (OfTypes r)
      → option_map source_refusal_of (unit_refusal tables before u) ≡ Some given
  refused_for_types r given e t is =
      sym (ap (λ n. given_of n (type_refusal tables before u)) e) ∙ ap (λ (n : Option (Refusal TypeKind)). given_of None n) t ∙ ap (λ (x : SourceRefusal). Some x) (sym is)

  -- a unit that breaks no rule
  pub unrefused : None ≡ scope_refusal tables before.names u → broken_type_rules tables before u ≡ [] → unit_refusal tables before u ≡ None
  unrefused e t =
      sym (ap (λ n. names_before_types n (type_refusal tables before u)) e) ∙ ap (λ (rs : TypeRefusals). names_before_types None (least_refusal type_rank rs)) t

-- ---- the outputs of a program that is typed

reader_is : (p : UnitTree) (stage : Option ProgramTree) → reader_of (over_stage p stage) ≡ p
reader_is p None = refl
reader_is p (Some stage) = refl

reader_read : (tables : TableColumns) (before : UnitsBefore) (u : UnitSource) (stage : Option ProgramTree) → reader_of (over_stage_read tables before u stage) ≡ typed_unit tables before u
reader_read tables before u None = refl
reader_read tables before u (Some stage) = refl

-- a unit without the thread program that it reads from
pub reader_made : (tables : TableColumns) (before : UnitsBefore) (u : UnitSource) → reader_of (typed_program tables before u) ≡ typed_unit tables before u
reader_made tables before u = reader_read tables before u (unit_stage tables before u)

-- the outputs of the typed program are those of its tree
pub outputs_of_typed : (d : TypedData) (p : ProgramTree) → typed_data_program d ≡ p → d.program.outputs ≡ (reader_of p).outputs
outputs_of_typed d p e =
    sym (ap UnitTree.outputs (reader_is (unit_tree None [] d.program) (option_map typed_thread_program d.stage))) ∙ ap (λ (t : ProgramTree). UnitTree.outputs (reader_of t)) e

outputs_have_schemas : (variables : List Variable) (outputs : List OutputTable) → AreTypedOutputs variables outputs → HaveOutputSchemas outputs
outputs_have_schemas variables [] typed = tt
outputs_have_schemas variables (o ∷ outputs) typed = (typed.1, outputs_have_schemas variables outputs typed.3)

reader_typed : (p : ProgramTree) → IsTypedProgram p → IsTypedUnit (reader_of p)
reader_typed (OverTables p) typed = typed.0
reader_typed (OverStage p stage) typed = typed.0

-- the outputs of a program that became typed have the columns of schemas
pub schemas_of_typed : OneOutcome → EveryUnitIsTyped → (tables : TableColumns) (before : UnitsBefore) (u : DataProgram) → StandsInSource (AData u) → HaveSchemas tables → UnitsStand before
    → (d : TypedData) → unit_refusal tables before (unit_of_data u) ≡ None → typed_data_program d ≡ typed_program tables before (unit_of_data u) → HaveOutputSchemas d.program.outputs
schemas_of_typed one every tables before u source schemas stand d none is =
    let typed = every tables before (AData u) source schemas stand (one.breaks_no_rule tables before (unit_of_data u) none) in
    let p = typed_program tables before (unit_of_data u) in
    subst (λ (os : List OutputTable). HaveOutputSchemas os) (sym (outputs_of_typed d p is))
    (outputs_have_schemas _ (UnitTree.outputs (reader_of p)) (reader_typed p typed.0).outputs)
