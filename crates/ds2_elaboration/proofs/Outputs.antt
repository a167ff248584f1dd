-- The outputs of a data or thread program that breaks no rule are typed.
use Rattle.std.proofs.Common.{◌≡◌, ℕ, ◌≤◌, nat_eq, bytes_eq, codes, Bool, true, false, not, ◌||◌, List, [], ◌∷◌, length, map, filter, if◌then◌else◌, Option, Some, None, refl, sym, ap, ◌∙◌, subst, arith}
use Rattle.std.specs.List.{AllByRecursion}
use Rattle.std.specs.Option.{option_map_or}
use Rattle.std.proofs.lemmas.Bool.{and_from}
use Rattle.std.proofs.lemmas.List.{length-map}
use Rattle.ds2_base.specs.declared.place.Place.{Place}
use Rattle.ds2_token.specs.declared.token.Token.{Token}
use Rattle.ds2_tree.specs.Units.{output_spelling}
use Rattle.ds2_tree.specs.declared.units.OutputTable as source_output
use Rattle.ds2_tree.specs.declared.units.Renaming.{Renaming}
use Rattle.ds2_value.specs.Schema.{distinct_names, types_in_bounds, is_schema}
use Rattle.ds2_value.specs.declared.ty.Ty.{Ty}
use Rattle.ds2_meaning.specs.declared.globals.OutputTable as typed_output
use Rattle.ds2_meaning.specs.declared.globals.Variable as typed
use Rattle.ds2_meaning.specs.IsTyped.{type_in, are_distinct, variable_names, AreOutputColumns, AreTypedOutputs, names_of_outputs}
use Rattle.ds2_meaning.specs.ProgramMeaning.{output_columns}
use Rattle.ds2_meaning.specs.ProgramTree.{is_listed}
use Rattle.ds2_names.specs.NameRules.{from_each, place_unless, columns_are_known, options_of, OutputName, output_name, clashing_name, clashing_columns, renamings_of, is_output_column, columns_left}
use Rattle.ds2_names.specs.SourceUnit.{TableColumns, UnitKind, OfPackage, OfThread, OfData, is_thread, UnitSource, spelled_name, names_alone, SourceNames, vector_names}
use Rattle.ds2_names.specs.UnitRules.{without_columns, output_without_columns, thread_name_place}
use Rattle.ds2_elaboration.specs.ProgramTypes.{made_outputs, type_or_bigint, made_column, made_output, thread_output, unit_outputs}
use Rattle.ds2_elaboration.specs.SourceTypes.{unit_names, vector_variables}
use Rattle.ds2_elaboration.specs.TypedPrograms.{StandInOrder}
use Rattle.ds2_elaboration.specs.UnitsBefore.{UnitsBefore}
use Rattle.ds2_elaboration.proofs.Accepted.{each_empty, of_kept, all_pass}
use Rattle.ds2_elaboration.proofs.Distinct.{distinct_kept, among_listed, vector_is}
use Rattle.ds2_elaboration.proofs.Facts.{JoinLaws, UnitHolds, held, once, vector_bounds, columns_known}
use Rattle.ds2_elaboration.proofs.Lookups.{for_each}
use Rattle.ds2_elaboration.proofs.Outcome.{both_empty}
use Rattle.ds2_elaboration.proofs.OutputNames.{distinct_map, outputs_distinct, columns_distinct, columns_bounded, renamings_in_order, outputs_in_order}
use Rattle.ds2_elaboration.proofs.Stages.{vector_distinct}

-- ---- columns

all_among : (names : List (List ℕ)) → AllByRecursion (λ (name : List ℕ). is_listed names name ≡ true) names
all_among names = for_each (λ (name : List ℕ). is_listed names name ≡ true) names (among_listed names)

typed_if : (b listed : Bool) (own : Ty) (rest : Option Ty) → (listed ≡ true → rest ≡ Some (type_or_bigint rest)) → (b || listed) ≡ true
    → (if b then Some own else rest) ≡ Some (type_or_bigint (if b then Some own else rest))
typed_if true listed own rest f h = refl
typed_if false listed own rest f h = f h

pub type_of_listed : (variables : List typed.Variable) (name : List ℕ) → is_listed (variable_names variables) name ≡ true
    → type_in variables name ≡ Some (type_or_bigint (type_in variables name))
type_of_listed [] name h = cc
type_of_listed (v ∷ variables) name h =
    typed_if (bytes_eq v.name name) (is_listed (variable_names variables) name) v.ty (type_in variables name) (type_of_listed variables name) h

output_columns_typed : (variables : List typed.Variable) (renamings : List Renaming) (names : List (List ℕ))
    → AllByRecursion (λ (name : List ℕ). is_listed (variable_names variables) name ≡ true) names → AreOutputColumns variables (map (made_column variables renamings) names)
output_columns_typed variables renamings [] f = tt
output_columns_typed variables renamings (name ∷ names) f = (type_of_listed variables name f.0, output_columns_typed variables renamings names f.1)

-- ---- outputs

some_left : (known none : Bool) (place : Place) → known ≡ true → place_unless (not known || not none) place ≡ [] → none ≡ false
some_left true true place e h = cc
some_left true false place e h = refl
some_left false none place e h = cc

one_at_least : {A : Type 0} (xs : List A) → nat_eq (length xs) 0 ≡ false → 1 ≤ length xs
one_at_least [] h = cc
one_at_least (x ∷ xs) h = omega arith

unnull : (b : Bool) (rest : List Place) → not b ≡ true → (if b then [] else rest) ≡ [] → rest ≡ []
unnull true rest n h = cc
unnull false rest n h = h

-- an output of this name without options
abbrev named_alone : Token → source_output.OutputTable
named_alone t = record { table = t; options = None }

-- the output of a thread program that has this name
abbrev own_output : Option Token → List source_output.OutputTable
own_output name = option_map_or (λ (t : Token). named_alone t ∷ []) name []

-- without renamings no column clashes
no_clash : (all : List OutputName) (names : List (List ℕ)) → from_each (clashing_name all) (map (output_name []) names) ≡ []
no_clash all [] = refl
no_clash all (name ∷ names) = no_clash all names

-- the columns of an output are those of a schema
abbrev pub HasSchema : typed_output.OutputTable → Type 0
HasSchema o = is_schema (output_columns o) ≡ true

module _ (laws : JoinLaws) (tables : TableColumns) (before : UnitsBefore) (u : UnitSource) (given : UnitHolds tables before u) where
  abbrev names_here : SourceNames
  names_here = unit_names tables before u

  abbrev vector_here : List typed.Variable
  vector_here = vector_variables tables before u

  -- what an output needs: a column, distinct names, and its tokens in order
  record OutputHolds (o : source_output.OutputTable) : Type 0 where
    left : without_columns names_here (options_of o.options) o.table.place ≡ []
    once : clashing_columns names_here o ≡ []
    order : StandInOrder (output_spelling o)

  columns_typed : (o : source_output.OutputTable) → AreOutputColumns vector_here (made_output tables before u o).columns
  columns_typed o =
      let all = names_alone (vector_names names_here) in
      let test = is_output_column u (options_of o.options) in
      let listed = of_kept (λ (name : List ℕ). is_listed all name ≡ true) test all (all_among all) in
      output_columns_typed vector_here (renamings_of o) (filter test all)
      (subst (λ ns. AllByRecursion (λ (name : List ℕ). is_listed ns name ≡ true) (filter test all)) (vector_is tables before u) listed)

  some_columns : (o : source_output.OutputTable) → OutputHolds o → 1 ≤ length (made_output tables before u o).columns
  some_columns o h =
      let left = columns_left names_here (options_of o.options) in
      let some = one_at_least left (some_left (columns_are_known names_here) (nat_eq (length left) 0) o.table.place (columns_known laws tables before u given) h.left) in
      subst (λ k. 1 ≤ k) (sym (length-map left (made_column vector_here (renamings_of o)))) some

  output_schema : (o : source_output.OutputTable) → OutputHolds o → HasSchema (made_output tables before u o)
  output_schema o h =
      let options = options_of o.options in
      let all = names_alone (vector_names names_here) in
      let left = columns_left names_here options in
      let renamed = renamings_in_order o h.order in
      let distinct = ap are_distinct (vector_is tables before u) ∙ vector_distinct tables before u given.stand given.source (once laws tables before u given).globals in
      let columns = output_columns (made_output tables before u o) in
      and_from (distinct_names columns) (types_in_bounds columns)
      (columns_distinct vector_here o renamed left h.once (distinct_kept (is_output_column u options) all distinct))
      (columns_bounded vector_here o renamed left h.once (vector_bounds laws tables before u given) left)

  typed_outputs : (outputs : List source_output.OutputTable) → AllByRecursion OutputHolds outputs → AreTypedOutputs vector_here (map (made_output tables before u) outputs)
  typed_outputs [] f = tt
  typed_outputs (o ∷ outputs) f = (some_columns o f.0, output_schema o f.0, columns_typed o, typed_outputs outputs f.1)

  all_schemas : (outputs : List source_output.OutputTable) → AllByRecursion OutputHolds outputs → AllByRecursion HasSchema (map (made_output tables before u) outputs)
  all_schemas [] f = tt
  all_schemas (o ∷ outputs) f = (output_schema o f.0, all_schemas outputs f.1)

  -- ---- by the kind of the unit

  -- what the outputs of a unit of this kind are made of
  abbrev sources_of : UnitKind → List source_output.OutputTable
  sources_of OfPackage = []
  sources_of OfThread = own_output u.name
  sources_of OfData = made_outputs u

  -- the rules of an output with a name of its own
  data_holds : (outputs : List source_output.OutputTable) → AllByRecursion (λ (o : source_output.OutputTable). not (bytes_eq (spelled_name o.table) (codes "_null_")) ≡ true) outputs
      → AllByRecursion (λ (o : source_output.OutputTable). output_without_columns names_here o ≡ []) outputs
      → AllByRecursion (λ (o : source_output.OutputTable). clashing_columns names_here o ≡ []) outputs
      → AllByRecursion (λ (o : source_output.OutputTable). StandInOrder (output_spelling o)) outputs → AllByRecursion OutputHolds outputs
  data_holds [] n f g k = tt
  data_holds (o ∷ outputs) n f g k = (
    record { left = unnull (bytes_eq (spelled_name o.table) (codes "_null_")) (without_columns names_here (options_of o.options) o.table.place) n.0 f.0; once = g.0; order = k.0 },
    data_holds outputs n.1 f.1 g.1 k.1,
  )

  own_holds : (name : Option Token) → from_each (without_columns names_here []) (option_map_or (λ (t : Token). t.place ∷ []) name []) ≡ [] → AllByRecursion OutputHolds (own_output name)
  own_holds None h = tt
  own_holds (Some t) h = (
    record {
      left = (both_empty (without_columns names_here [] t.place) [] h).0;
      once = no_clash (map (output_name []) (columns_left names_here [])) (columns_left names_here []);
      order = (tt, tt);
    },
    tt,
  )

  -- a column is left of each output
  left_of_each : (from_each (output_without_columns names_here) u.outputs ≡ []) × (from_each (without_columns names_here []) (thread_name_place names_here) ≡ [])
  left_of_each =
      both_empty (from_each (output_without_columns names_here) u.outputs) (from_each (without_columns names_here []) (thread_name_place names_here)) (held laws tables before u given).columns

  sources_hold : (kind : UnitKind) → u.kind ≡ kind → AllByRecursion OutputHolds (sources_of kind)
  sources_hold OfPackage e = tt
  sources_hold OfThread e =
      own_holds u.name
      (subst (λ (k : UnitKind). from_each (without_columns names_here []) (if is_thread k then option_map_or (λ (t : Token). t.place ∷ []) u.name [] else []) ≡ []) e left_of_each.1)
  sources_hold OfData e =
      let test = λ (o : source_output.OutputTable). not (bytes_eq (spelled_name o.table) (codes "_null_")) in
      data_holds (made_outputs u) (all_pass test u.outputs)
      (of_kept (λ (o : source_output.OutputTable). output_without_columns names_here o ≡ []) test u.outputs (each_empty (output_without_columns names_here) u.outputs left_of_each.0))
      (each_empty (clashing_columns names_here) (made_outputs u) (once laws tables before u given).columns)
      (of_kept (λ (o : source_output.OutputTable). StandInOrder (output_spelling o)) test u.outputs (outputs_in_order u.outputs given.source.outputs))

  -- the output of a thread program has the columns of one that has its name
  own_typed : (name : Option Token) → AllByRecursion OutputHolds (own_output name)
      → AreTypedOutputs vector_here (option_map_or (λ (t : Token). thread_output tables before u t ∷ []) name [])
  own_typed None h = tt
  own_typed (Some t) h = (some_columns (named_alone t) h.0, output_schema (named_alone t) h.0, columns_typed (named_alone t), tt)

  own_schema : (name : Option Token) → AllByRecursion OutputHolds (own_output name)
      → AllByRecursion HasSchema (option_map_or (λ (t : Token). thread_output tables before u t ∷ []) name [])
  own_schema None h = tt
  own_schema (Some t) h = (output_schema (named_alone t) h.0, tt)

  typed_of_kind : (kind : UnitKind) → AllByRecursion OutputHolds (sources_of kind) → AreTypedOutputs vector_here (unit_outputs tables before u kind)
  typed_of_kind OfPackage h = tt
  typed_of_kind OfThread h = own_typed u.name h
  typed_of_kind OfData h = typed_outputs (made_outputs u) h

  schemas_of_kind : (kind : UnitKind) → AllByRecursion OutputHolds (sources_of kind) → AllByRecursion HasSchema (unit_outputs tables before u kind)
  schemas_of_kind OfPackage h = tt
  schemas_of_kind OfThread h = own_schema u.name h
  schemas_of_kind OfData h = all_schemas (made_outputs u) h

  pub outputs_typed : AreTypedOutputs vector_here (unit_outputs tables before u u.kind)
  outputs_typed = typed_of_kind u.kind (sources_hold u.kind refl)

  pub output_schemas : AllByRecursion HasSchema (unit_outputs tables before u u.kind)
  output_schemas = schemas_of_kind u.kind (sources_hold u.kind refl)

  -- ---- distinct names

  made_output_names : (outputs : List source_output.OutputTable)
      → names_of_outputs (map (made_output tables before u) outputs) ≡ map (λ (o : source_output.OutputTable). spelled_name o.table) outputs
  made_output_names [] = refl
  made_output_names (o ∷ outputs) = ap (λ ns. spelled_name o.table ∷ ns) (made_output_names outputs)

  one_name : (name : Option Token) → are_distinct (names_of_outputs (option_map_or (λ (t : Token). thread_output tables before u t ∷ []) name [])) ≡ true
  one_name None = refl
  one_name (Some t) = refl

  names_of_kind : (kind : UnitKind) → are_distinct (names_of_outputs (unit_outputs tables before u kind)) ≡ true
  names_of_kind OfPackage = refl
  names_of_kind OfThread = one_name u.name
  names_of_kind OfData =
      ap are_distinct (made_output_names (made_outputs u))
      ∙ distinct_map (λ (o : source_output.OutputTable). spelled_name o.table) (λ (o : source_output.OutputTable). not (bytes_eq (spelled_name o.table) (codes "_null_"))) u.outputs
      (outputs_distinct u.outputs given.source.outputs (once laws tables before u given).outputs)

  -- the outputs have distinct names
  pub output_names_distinct : are_distinct (names_of_outputs (unit_outputs tables before u u.kind)) ≡ true
  output_names_distinct = names_of_kind u.kind
