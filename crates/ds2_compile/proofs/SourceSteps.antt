-- What a source becomes, part by part.
use Rattle.std.proofs.Common.{◌≡◌, ◌+◌, ◌-◌, ◌<◌, ◌≤◌, ℕ, suc, length, get_or, take, drop, bytes_eq, Bool, true, false, List, [], ◌∷◌, ◌++◌, map, reverse, if◌then◌else◌, Option, None, Some, Result, Ok, Err, refl, sym, ap, subst, ◌∙◌, append_assoc, append-nil, arith, IsErrAnd}
use Rattle.std.specs.List.{AllByRecursion}
use Rattle.std.proofs.lemmas.List.{map-append, reverse-append, reverse-reverse, take_rest}
use Rattle.ds2_base.specs.declared.place.Place.{Place}
use Rattle.ds2_base.specs.declared.stop.Stop.{Stop}
use Rattle.ds2_base.specs.declared.stop.Stop.TheVariants.{Refused, OutOfMemory}
use Rattle.ds2_token.specs.declared.token.Token.{Token}
use Rattle.ds2_tree.specs.Lists.{Each}
use Rattle.ds2_tree.specs.Units.{DataProgram, SourcePart, Proc, Run, Quit, AData, IsPart, part_spelling, source_spelling}
use Rattle.ds2_tree.specs.UnitViews.{part_tree}
use Rattle.ds2_tree.specs.declared.units.SourcePart as source_part
use Rattle.ds2_value.specs.Row.{Columns}
use Rattle.ds2_value.specs.Schema.{is_schema}
use Rattle.ds2_meaning.specs.ProgramMeaning.{output_columns}
use Rattle.ds2_meaning.specs.ProgramTree.{UnitTree, ProgramTree}
use Rattle.ds2_meaning.specs.View.{typed_data_program}
use Rattle.ds2_meaning.specs.declared.globals.OutputTable as typed_output
use Rattle.ds2_meaning.specs.declared.readings.MentionedTable.{MentionedTable}
use Rattle.ds2_meaning.specs.declared.units.TypedData.{TypedData}
use Rattle.ds2_meaning.specs.declared.units.TypedThread.{TypedThread}
use Rattle.ds2_names.specs.SourceLimits.{BeforeUnit, before_all, behind_part}
use Rattle.ds2_names.specs.SourceUnit.{TableColumns, UnitSource, columns_stored, is_earlier, unit_of_data}
use Rattle.ds2_names.specs.declared.schemas.NamedSchema.{NamedSchema}
use Rattle.ds2_elaboration.specs.Elaboration.{ProgramRefusal, before_source, elaborated_parts, elaborated_source, made_columns, part_refusal, program_in, tables_behind_part, unit_refusal, units_behind, with_programs}
use Rattle.ds2_elaboration.specs.ElaborationLaws.{OneOutcome}
use Rattle.ds2_elaboration.specs.ProgramTypes.{typed_program}
use Rattle.ds2_elaboration.specs.TextPrograms.{TokensStandInOrder}
use Rattle.ds2_elaboration.specs.TypedPrograms.{EveryUnitIsTyped, HaveSchemas, StandInOrder, StandsInSource, UnitsStand}
use Rattle.ds2_elaboration.specs.UnitsBefore.{UnitsBefore}
use Rattle.ds2_declared_types.specs.TypesKnown.{TellsTypes}
use Rattle.ds2_declared_types.specs.declared.known.KnownTypes.{KnownTypes}
use Rattle.ds2_resolve.specs.StandingBefore.{TellsOfUnits}
use Rattle.ds2_resolve.specs.declared.before.UnitsBefore as kept
use Rattle.ds2_source.specs.SourceTexts.{StandsInText}
use Rattle.ds2_source.specs.declared.kinds.SourceRefusal.{SourceRefusal}
use Rattle.ds2_compile.specs.SourceOutcomes.{AreProgramsOf, IsOutcomeOfSource, IsUnitRefusal, IsRefusedSource, programs_or_refusal}
use Rattle.ds2_compile.specs.SourceThreads.{AreThreadsBehind, AreThreadsIn, AreThreadsOfSource}
use Rattle.ds2_compile.specs.TablesBehind.{HaveOutputSchemas, last_outputs, schema_of_output, mention_of_output}
use Rattle.ds2_compile.specs.TypedSoFar.{BecomesOrStops, BecomesWithRest, StandsBehind, StandsBehindSome, all_before}
use Rattle.ds2_compile.specs.declared.programs.TypedSource.{TypedSource}
use Rattle.ds2_compile.specs.declared.typed_so_far.TypedSoFar.{TypedSoFar}
use Rattle.ds2_compile.proofs.TablesMade.{outputs_made}
use Rattle.ds2_compile.proofs.UnitOutcomes.{outputs_of_typed, reader_made, schemas_of_typed}
use Rattle.ds2_compile.proofs.UnitsBehind.{data_behind}

-- ---- the parts of a text stand in order

first_of_all : (P : Token → Type 0) (xs ys : List Token) → AllByRecursion P (xs ++ ys) → AllByRecursion P xs
first_of_all P [] ys all = tt
first_of_all P (x ∷ xs) ys all = (all.0, first_of_all P xs ys all.1)

order_first : (xs ys : List Token) → StandInOrder (xs ++ ys) → StandInOrder xs
order_first [] ys o = tt
order_first (x ∷ xs) ys o = (first_of_all (λ (later : Token). is_earlier x.place later.place ≡ true) xs ys o.0, order_first xs ys o.1)

order_second : (xs ys : List Token) → StandInOrder (xs ++ ys) → StandInOrder ys
order_second [] ys o = o
order_second (x ∷ xs) ys o = order_second xs ys o.1

parts_stand : (parts : List SourcePart) → Each IsPart parts → StandInOrder (source_spelling parts) → AllByRecursion StandsInSource parts
parts_stand [] g o = tt
parts_stand (part ∷ parts) g o = (
  record { grammar = g.0; order = order_first (part_spelling part) (source_spelling parts) o },
  parts_stand parts g.1 (order_second (part_spelling part) (source_spelling parts) o),
)

pub text_stands : TokensStandInOrder → (parts : List SourcePart) → StandsInText parts → AllByRecursion StandsInSource parts
text_stands law parts stands = parts_stand parts stands.grammar (law stands.text (source_spelling parts) stands.short stands.stands)

-- ---- what a program makes for those behind it

-- the columns of tables before others are those of the outputs, else the others'
columns_behind : (outputs : List typed_output.OutputTable) (tables : List NamedSchema) (name : List ℕ)
    → columns_stored (map schema_of_output outputs ++ tables) name ≡ made_columns outputs name (columns_stored tables name)
columns_behind [] tables name = refl
columns_behind (o ∷ outputs) tables name = ap (λ (others : Columns). if bytes_eq o.name name then output_columns o else others) (columns_behind outputs tables name)

chosen : (here : Bool) (a b : Columns) → is_schema a ≡ true → is_schema b ≡ true → is_schema (if here then a else b) ≡ true
chosen true a b h k = h
chosen false a b h k = k

schemas_behind : (outputs : List typed_output.OutputTable) (tables : List NamedSchema) → HaveOutputSchemas outputs → HaveSchemas (columns_stored tables)
    → HaveSchemas (columns_stored (map schema_of_output outputs ++ tables))
schemas_behind [] tables own others name = others name
schemas_behind (o ∷ outputs) tables own others name =
    chosen (bytes_eq o.name name) (output_columns o) (columns_stored (map schema_of_output outputs ++ tables) name) own.0 (schemas_behind outputs tables own.1 others name)

-- the last of typed programs
pub last_pushed : (typed : List TypedData) (d : TypedData) → last_outputs (typed ++ d ∷ []) ≡ d.program.outputs
last_pushed [] d = refl
last_pushed (e ∷ []) d = refl
last_pushed (e ∷ f ∷ typed) d = last_pushed (f ∷ typed) d

pub last_is : (typed : List TypedData) (d other : TypedData) → 1 ≤ length typed → d ≡ get_or typed (length typed - 1) other → last_outputs typed ≡ d.program.outputs
last_is [] d other some e = absurd (omega (arith, some))
last_is (f ∷ []) d other some e = ap (λ (x : TypedData). x.program.outputs) (sym e)
last_is (f ∷ g ∷ typed) d other some e =
    let next : length (f ∷ g ∷ typed) - 1 ≡ suc (length (g ∷ typed) - 1) = omega arith in
    last_is (g ∷ typed) d other (omega arith) (e ∙ ap (λ n. get_or (f ∷ g ∷ typed) n other) next)

-- ---- a part that is no unit

nothing_more : (before : BeforeUnit)
    → record { known = before.known; data_programs = before.data_programs + 0; made = before.made; mentioned = before.mentioned; tokens = before.tokens } ≡ before
nothing_more before =
    ap (λ n. record { known = before.known; data_programs = n; made = before.made; mentioned = before.mentioned; tokens = before.tokens })
    (let e : before.data_programs + 0 ≡ before.data_programs = omega arith in e)

abbrev with_names : UnitsBefore → BeforeUnit → UnitsBefore
with_names before names = record { names = names; packages = before.packages; threads = before.threads }

nothing_behind : (before : UnitsBefore)
    → with_names before (record { known = before.names.known; data_programs = before.names.data_programs + 0; made = before.names.made; mentioned = before.names.mentioned; tokens = before.names.tokens })
    ≡ before
nothing_behind before = ap (with_names before) (nothing_more before.names)

-- no program stands before others
no_program : (others : Result (List ProgramTree) ProgramRefusal) → with_programs None [] others ≡ others
no_program (Ok programs) = refl
no_program (Err refusal) = refl

module _ (tables : TableColumns) (parts : List SourcePart) (t : TypedSoFar) where
  passed : (rest others : List SourcePart) (lead : BecomesWithRest tables parts t others)
      → elaborated_parts (columns_stored t.tables) lead.units others ≡ elaborated_parts (columns_stored t.tables) lead.units rest
      → ((threads : List TypedThread) → AreThreadsBehind (columns_stored t.tables) lead.units rest threads → AreThreadsBehind (columns_stored t.tables) lead.units others threads)
      → BecomesWithRest tables parts t rest
  passed rest others lead e same = record {
    units = lead.units;
    stands = lead.stands;
    leads = lead.leads ∙ ap (all_before (map typed_data_program t.typed)) e;
    threads = λ threads is. lead.threads threads (same threads is);
  }

  -- no thread program more
  none_more : (rest : List SourcePart) (units next : UnitsBefore) → next ≡ units → (threads : List TypedThread) → AreThreadsBehind (columns_stored t.tables) units rest threads
      → AreThreadsBehind (columns_stored t.tables) next rest threads
  none_more rest units next e threads is = subst (λ (b : UnitsBefore). AreThreadsBehind (columns_stored t.tables) b rest threads) (sym e) is

  past : (rest : List SourcePart) (units next : UnitsBefore) → next ≡ units
      → with_programs None [] (elaborated_parts (columns_stored t.tables) next rest) ≡ elaborated_parts (columns_stored t.tables) units rest
  past rest units next e =
      no_program (elaborated_parts (columns_stored t.tables) next rest) ∙ ap (λ (b : UnitsBefore). elaborated_parts (columns_stored t.tables) b rest) e

  pub past_proc : (rest : List SourcePart) (keyword ds2 : Token) (end : Place) → BecomesWithRest tables parts t (Proc keyword ds2 end ∷ rest) → BecomesWithRest tables parts t rest
  past_proc rest keyword ds2 end lead =
      passed rest (Proc keyword ds2 end ∷ rest) lead (past rest lead.units (units_behind (columns_stored t.tables) (Proc keyword ds2 end) lead.units) (nothing_behind lead.units))
      (λ threads is. ([], threads, refl, refl, none_more rest lead.units (units_behind (columns_stored t.tables) (Proc keyword ds2 end) lead.units) (nothing_behind lead.units) threads is))

  pub past_run : (rest : List SourcePart) (keyword : Token) (end : Place) → BecomesWithRest tables parts t (Run keyword end ∷ rest) → BecomesWithRest tables parts t rest
  past_run rest keyword end lead =
      passed rest (Run keyword end ∷ rest) lead (past rest lead.units (units_behind (columns_stored t.tables) (Run keyword end) lead.units) (nothing_behind lead.units))
      (λ threads is. ([], threads, refl, refl, none_more rest lead.units (units_behind (columns_stored t.tables) (Run keyword end) lead.units) (nothing_behind lead.units) threads is))

  pub past_quit : (rest : List SourcePart) (keyword : Token) (end : Place) → BecomesWithRest tables parts t (Quit keyword end ∷ rest) → BecomesWithRest tables parts t rest
  past_quit rest keyword end lead =
      passed rest (Quit keyword end ∷ rest) lead (past rest lead.units (units_behind (columns_stored t.tables) (Quit keyword end) lead.units) (nothing_behind lead.units))
      (λ threads is. ([], threads, refl, refl, none_more rest lead.units (units_behind (columns_stored t.tables) (Quit keyword end) lead.units) (nothing_behind lead.units) threads is))

-- ---- one more unit

-- the programs of a part stand behind those before it
programs_behind : (programs own : List ProgramTree) (others : Result (List ProgramTree) ProgramRefusal)
    → all_before programs (with_programs None own others) ≡ all_before (programs ++ own) others
programs_behind programs own (Ok others) = ap (λ (ps : List ProgramTree). Ok ps) (sym (append_assoc programs own others))
programs_behind programs own (Err refusal) = refl

-- thread programs that are kept with the last one first stand before others
threads_in_order : (known next own others : List TypedThread) → next ≡ reverse own ++ known → reverse next ++ others ≡ reverse known ++ (own ++ others)
threads_in_order known next own others e =
    ap (λ (ts : List TypedThread). reverse ts ++ others) e
    ∙ ap (λ (ts : List TypedThread). ts ++ others) (reverse-append (reverse own) known)
    ∙ ap (λ (ts : List TypedThread). (reverse known ++ ts) ++ others) (reverse-reverse own)
    ∙ append_assoc (reverse known) own others

-- what is kept behind a part leads on
pub part_leads : (tables : TableColumns) (parts rest : List SourcePart) (t next : TypedSoFar) (part : SourcePart) (lead : BecomesWithRest tables parts t (part ∷ rest))
    → part_refusal (columns_stored t.tables) lead.units part ≡ None
    → map typed_data_program next.typed ≡ map typed_data_program t.typed ++ program_in (columns_stored t.tables) lead.units part
    → columns_stored next.tables ≡ tables_behind_part (columns_stored t.tables) lead.units part
    → StandsBehind next (units_behind (columns_stored t.tables) part lead.units)
    → (own : List TypedThread) → AreThreadsIn (columns_stored t.tables) lead.units part own → next.known.threads ≡ reverse own ++ t.known.threads → BecomesWithRest tables parts next rest
part_leads tables parts rest t next part lead none typed tables_are stands own_threads are threads_are =
    let T = columns_stored t.tables in
    let so_far = map typed_data_program t.typed in
    let own = program_in T lead.units part in
    let behind = units_behind T part lead.units in
    let others = elaborated_parts (tables_behind_part T lead.units part) behind rest in
    record {
      units = behind;
      stands = stands;
      leads =
          lead.leads
          ∙ ap (λ (o : Option ProgramRefusal). all_before so_far (with_programs o own others)) none
          ∙ programs_behind so_far own others
          ∙ (λ i. all_before (sym typed i) (elaborated_parts (sym tables_are i) behind rest));
      threads = λ others is.
          subst (λ (ts : List TypedThread). AreThreadsOfSource tables parts ts) (sym (threads_in_order t.known.threads next.known.threads own_threads others threads_are))
          (lead.threads (own_threads ++ others) (own_threads, others, refl, are, subst (λ (T : TableColumns). AreThreadsBehind T behind rest others) tables_are is));
    }

-- ---- one more data program

-- what is kept behind one more program
pub record HasOneMore (t : TypedSoFar) (d : TypedData) (next : TypedSoFar) : Type 0 where
  pub known : next.known ≡ t.known
  pub made : next.made ≡ map (mention_of_output next.before.count) d.program.outputs ++ t.made
  pub tables : next.tables ≡ map schema_of_output d.program.outputs ++ t.tables
  pub typed : next.typed ≡ t.typed ++ d ∷ []

pub one_more_kept : (t : TypedSoFar) (d : TypedData) (pushed : List TypedData) (next : TypedSoFar) (before : kept.UnitsBefore) → pushed ≡ t.typed ++ d ∷ [] → next.before ≡ before → next.known ≡ t.known
    → next.made ≡ map (mention_of_output before.count) (last_outputs pushed) ++ t.made → next.tables ≡ map schema_of_output (last_outputs pushed) ++ t.tables → next.typed ≡ pushed → HasOneMore t d next
one_more_kept t d pushed next before pushed_is before_is known made tables typed =
    let outputs : last_outputs pushed ≡ d.program.outputs = ap last_outputs pushed_is ∙ last_pushed t.typed d in
    record {
      known = known;
      made = made ∙ (λ i. map (mention_of_output (kept.UnitsBefore.count (sym before_is i))) (outputs i) ++ t.made);
      tables = tables ∙ ap (λ (os : List typed_output.OutputTable). map schema_of_output os ++ t.tables) outputs;
      typed = typed ∙ pushed_is;
    }

module _ (t : TypedSoFar) (u : DataProgram) (d : TypedData) (next : TypedSoFar) (more : HasOneMore t d next) where
  abbrev T : TableColumns
  T = columns_stored t.tables

  abbrev own : UnitSource
  own = unit_of_data u

  program_stands : (units : UnitsBefore) → StandsBehind t units → TellsOfUnits next.before (behind_part T (AData u) units.names)
      → typed_data_program d ≡ typed_program T units own → StandsBehind next (units_behind T (AData u) units)
  program_stands units stands tells is = record {
    tells = tells;
    types =
        (let same = subst (λ k. TellsTypes k units) (sym more.known) stands.types in
        record { packages = same.packages; threads = same.threads });
    made =
        more.made
        ∙ (λ i. map (mention_of_output (tells.count i)) ((outputs_of_typed d (typed_program T units own) is ∙ ap UnitTree.outputs (reader_made T units own)) i) ++ stands.made i)
        ∙ ap (λ (ts : List MentionedTable). ts ++ units.names.made) (outputs_made (units.names.data_programs + 1) T units own u.outputs);
  }

  pub program_leads : (tables : TableColumns) (parts rest : List SourcePart) (lead : BecomesWithRest tables parts t (AData u ∷ rest)) → TellsOfUnits next.before (behind_part T (AData u) lead.units.names)
      → unit_refusal T lead.units own ≡ None → typed_data_program d ≡ typed_program T lead.units own → BecomesWithRest tables parts next rest
  program_leads tables parts rest lead tells none is =
      let units = lead.units in
      let p = typed_program T units own in
      let so_far = map typed_data_program t.typed in
      part_leads tables parts rest t next (AData u) lead none
      (ap (map typed_data_program) more.typed ∙ map-append typed_data_program t.typed (d ∷ []) ∙ ap (λ (q : ProgramTree). so_far ++ q ∷ []) is)
      (ap columns_stored more.tables ∙ (λ i name. columns_behind d.program.outputs t.tables name i) ∙ (λ i name. made_columns (outputs_of_typed d p is i) name (T name)))
      (program_stands units lead.stands tells is) [] refl (ap KnownTypes.threads more.known)

  pub program_is_behind : OneOutcome → EveryUnitIsTyped → StandsInSource (AData u) → (some : StandsBehindSome t) → TellsOfUnits next.before (behind_part T (AData u) some.units.names)
      → unit_refusal T some.units own ≡ None → typed_data_program d ≡ typed_program T some.units own → StandsBehindSome next
  program_is_behind one every source some tells none is = record {
    units = units_behind T (AData u) some.units;
    stands = program_stands some.units some.stands tells is;
    typed = data_behind T some.units some.typed u;
    schemas =
        subst (λ (ts : List NamedSchema). HaveSchemas (columns_stored ts)) (sym more.tables)
        (schemas_behind d.program.outputs t.tables (schemas_of_typed one every T some.units u source some.schemas some.typed d none is) some.schemas);
  }

-- ---- one more package or thread program

-- what is kept behind a unit that is no data program: its names and its types
pub record HasOtherTypes (t next : TypedSoFar) : Type 0 where
  pub made : next.made ≡ t.made
  pub tables : next.tables ≡ t.tables
  pub typed : next.typed ≡ t.typed

-- it stands there, where the part makes no tables
pub unit_stands : (t next : TypedSoFar) (part : SourcePart) → HasOtherTypes t next → (units : UnitsBefore) → StandsBehind t units
    → (units_behind (columns_stored t.tables) part units).names.made ≡ units.names.made
    → TellsOfUnits next.before (behind_part (columns_stored t.tables) part units.names) → TellsTypes next.known (units_behind (columns_stored t.tables) part units)
    → StandsBehind next (units_behind (columns_stored t.tables) part units)
unit_stands t next part same units stands no_table tells types = record { tells = tells; types = types; made = same.made ∙ stands.made ∙ sym no_table }

module _ (t next : TypedSoFar) (same : HasOtherTypes t next) (part : SourcePart) where
  abbrev C : TableColumns
  C = columns_stored t.tables

  -- it leads on, where the part makes no tables and is no data program
  pub unit_leads : (tables : TableColumns) (parts rest : List SourcePart) (lead : BecomesWithRest tables parts t (part ∷ rest)) → part_refusal C lead.units part ≡ None
      → program_in C lead.units part ≡ [] → tables_behind_part C lead.units part ≡ C → StandsBehind next (units_behind C part lead.units)
      → (own : List TypedThread) → AreThreadsIn C lead.units part own → next.known.threads ≡ reverse own ++ t.known.threads → BecomesWithRest tables parts next rest
  unit_leads tables parts rest lead none no_program no_table stands own are threads_are =
      let so_far = map typed_data_program t.typed in
      part_leads tables parts rest t next part lead none
      (ap (map typed_data_program) same.typed ∙ sym (append-nil so_far) ∙ ap (λ (ps : List ProgramTree). so_far ++ ps) (sym no_program)) (ap columns_stored same.tables ∙ sym no_table) stands own are threads_are

  pub unit_is_behind : (units : UnitsBefore) → StandsBehind next units → UnitsStand units → HaveSchemas C → StandsBehindSome next
  unit_is_behind units stands typed schemas = record {
    units = units;
    stands = stands;
    typed = typed;
    schemas = subst (λ (ts : List NamedSchema). HaveSchemas (columns_stored ts)) (sym same.tables) schemas;
  }

-- ---- a unit that is refused

-- a refusal as what a source becomes
abbrev as_refused : Option SourceRefusal → Result (List ProgramTree) SourceRefusal
as_refused None = Ok []
as_refused (Some refusal) = Err refusal

stopped_outcome : (programs own : List ProgramTree) (refusal : Option ProgramRefusal) (others : Result (List ProgramTree) ProgramRefusal) (stop : Stop SourceRefusal)
    → IsUnitRefusal refusal stop → IsRefusedSource (all_before programs (with_programs refusal own others)) stop
stopped_outcome programs own None others (Refused r) e = absurd (cc e)
stopped_outcome programs own (Some refusal) others (Refused r) e = ap as_refused e
stopped_outcome programs own refusal others OutOfMemory e = tt

pub refused_there : (tables : TableColumns) (parts rest : List SourcePart) (t : TypedSoFar) (part : SourcePart) (stop : Stop SourceRefusal) (lead : BecomesWithRest tables parts t (part ∷ rest))
    → IsUnitRefusal (part_refusal (columns_stored t.tables) lead.units part) stop → IsRefusedSource (elaborated_source tables parts) stop
refused_there tables parts rest t part stop lead e =
    let T = columns_stored t.tables in
    subst (λ (o : Result (List ProgramTree) ProgramRefusal). IsRefusedSource o stop) (sym lead.leads)
    (stopped_outcome (map typed_data_program t.typed) (program_in T lead.units part) (part_refusal T lead.units part)
    (elaborated_parts (tables_behind_part T lead.units part) (units_behind T part lead.units) rest) stop e)

-- what a call gave that ended so
pub ended_there : (tables : TableColumns) (parts rest : List SourcePart) (stop : Stop SourceRefusal) (result : Result TypedSoFar (Stop SourceRefusal)) → IsErrAnd result (λ e. e ≡ stop)
    → IsRefusedSource (elaborated_source tables parts) stop → BecomesOrStops tables parts result rest
ended_there tables parts rest stop (Ok t) is outcome = absurd is
ended_there tables parts rest stop (Err e) is outcome = subst (λ (s : Stop SourceRefusal). IsRefusedSource (elaborated_source tables parts) s) (sym is) outcome

-- ---- part by part

-- a list that is not empty, by its first item and those behind it
rest_by_first : {A : Type 0} (xs : List A) (x : A) → 1 ≤ length xs → x ≡ get_or xs 0 x → xs ≡ x ∷ take (length xs - 1) (drop 1 xs)
rest_by_first [] x some first = absurd (omega arith)
rest_by_first {A} (y ∷ xs) x some first = ap (λ (z : A). z ∷ xs) (sym first) ∙ ap (λ (t : List A). x ∷ t) (sym (take_rest (y ∷ xs) 1))

pub parts_left : (rest : List source_part.SourcePart) (first : source_part.SourcePart) → 1 ≤ length rest → first ≡ get_or rest 0 first
    → map part_tree rest ≡ part_tree first ∷ map part_tree (take (length rest - 1) (drop 1 rest))
parts_left rest first some is = ap (map part_tree) (rest_by_first rest first some is)

pub no_parts_left : (rest : List source_part.SourcePart) → length rest < 1 → map part_tree rest ≡ []
no_parts_left [] none = refl
no_parts_left (x ∷ rest) none = absurd (omega arith)

-- a call on a part ended so
pub source_ended : (tables : TableColumns) (parts : List SourcePart) (stop : Stop SourceRefusal) (result : Result TypedSource (Stop SourceRefusal)) → IsErrAnd result (λ e. e ≡ stop)
    → IsRefusedSource (elaborated_source tables parts) stop → IsOutcomeOfSource (elaborated_source tables parts) result
source_ended tables parts stop (Ok typed) is outcome = absurd is
source_ended tables parts stop (Err e) is outcome = subst (λ (s : Stop SourceRefusal). IsRefusedSource (elaborated_source tables parts) s) (sym is) outcome

-- ---- the end of a source

pub all_typed : (tables : TableColumns) (parts : List SourcePart) (t : TypedSoFar) (programs : List TypedData) → BecomesWithRest tables parts t [] → programs ≡ t.typed
    → AreProgramsOf (elaborated_source tables parts) programs
all_typed tables parts t programs lead e =
    ap programs_or_refusal lead.leads ∙ ap (λ (ps : List ProgramTree). Ok ps) (append-nil (map typed_data_program t.typed)) ∙ ap (λ (ds : List TypedData). Ok (map typed_data_program ds)) (sym e)

pub all_threads : (tables : TableColumns) (parts : List SourcePart) (t : TypedSoFar) (threads : List TypedThread) → BecomesWithRest tables parts t [] → threads ≡ reverse t.known.threads
    → AreThreadsOfSource tables parts threads
all_threads tables parts t threads lead e =
    subst (λ (ts : List TypedThread). AreThreadsOfSource tables parts ts) (append-nil (reverse t.known.threads) ∙ sym e) (lead.threads [] refl)

-- the beginning of a source
pub source_begins : (tables : List NamedSchema) (parts : List SourcePart) (t : TypedSoFar) → t.typed ≡ [] → t.made ≡ [] → t.tables ≡ tables → TellsOfUnits t.before (before_all parts)
    → TellsTypes t.known (before_source parts) → t.known.threads ≡ [] → BecomesWithRest (columns_stored tables) parts t parts
source_begins tables parts t typed made tables_are tells types no_thread = record {
  units = before_source parts;
  stands = record { tells = tells; types = types; made = made };
  leads =
      begins (elaborated_source (columns_stored tables) parts)
      ∙ (λ i. all_before (map typed_data_program (sym typed i)) (elaborated_parts (columns_stored (sym tables_are i)) (before_source parts) parts));
  threads = λ others is.
      subst (λ (ts : List TypedThread). AreThreadsOfSource (columns_stored tables) parts (reverse ts ++ others)) (sym no_thread)
      (subst (λ (ts : List NamedSchema). AreThreadsBehind (columns_stored ts) (before_source parts) parts others) tables_are is);
}
  where
    begins : (o : Result (List ProgramTree) ProgramRefusal) → o ≡ all_before [] o
    begins (Ok ps) = refl
    begins (Err r) = refl

-- nothing stands before the first unit
none_stand : (parts : List SourcePart) → UnitsStand (before_source parts)
none_stand parts = record { packages = tt; threads = tt; package_methods = λ name. refl; thread_parameters = λ name. refl; thread_columns = λ name. refl }

pub source_begins_behind : (tables : List NamedSchema) (parts : List SourcePart) (t : TypedSoFar) → t.made ≡ [] → t.tables ≡ tables → TellsOfUnits t.before (before_all parts)
    → TellsTypes t.known (before_source parts) → HaveSchemas (columns_stored tables) → StandsBehindSome t
source_begins_behind tables parts t made tables_are tells types schemas = record {
  units = before_source parts;
  stands = record { tells = tells; types = types; made = made };
  typed = none_stand parts;
  schemas = subst (λ (ts : List NamedSchema). HaveSchemas (columns_stored ts)) (sym tables_are) schemas;
}
