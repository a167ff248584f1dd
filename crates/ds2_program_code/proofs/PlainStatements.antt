-- Statements without jumps: their operands.
use Rattle.std.proofs.Common.{◌≡◌, ℕ, zero, suc, ◌+◌, ◌<◌, min, max, nat_le, true, List, [], ◌∷◌, ◌++◌, length, map, replicate, slice_get, Option, Some, None, is_some, refl, sym, ap, ◌∙◌, subst, if◌then◌else◌}
use Rattle.std.specs.List.{AllByRecursion}
use Rattle.std.specs.Option.{option_map}
use Rattle.ds2_base.specs.Characters.{char_count}
use Rattle.ds2_value.specs.declared.comparison.Comparison.TheVariants.{Equal}
use Rattle.ds2_value.specs.declared.ty.Ty.{Ty}
use Rattle.ds2_value.specs.declared.ty.Ty.TheVariants.{BigInt, Decimal as DecimalOf, Char, Varchar}
use Rattle.ds2_value.specs.declared.ty.TheConstants.{TEXT_CHARACTERS}
use Rattle.ds2_value.specs.declared.value.Value.TheVariants.{Txt}
use Rattle.ds2_meaning.specs.declared.globals.Variable as global_variable
use Rattle.ds2_meaning.specs.declared.methods.Parameter.{Parameter}
use Rattle.ds2_meaning.specs.Evaluation.{callee_home}
use Rattle.ds2_meaning.specs.IsTyped.{NamesInScope, Texts, class_of, expression_type, IsTypedExpression, IsTypedCondition, AreTypedItems, AreOutputs, IsTypedCall, AreParameterValues}
use Rattle.ds2_meaning.specs.Method.{MethodTree}
use Rattle.ds2_meaning.specs.TypedExpression.{TypedExpression, TypedArguments}
use Rattle.ds2_meaning.specs.TypedStatement.{ParameterValue, Item, Text, Shown, Labelled}
use Rattle.ds2_code.specs.declared.instr.Instr.TheVariants as instr
use Rattle.ds2_code.specs.declared.parts.Constant.{Constant as ConstantPart}
use Rattle.ds2_code.specs.declared.parts.ProgramParts.{ProgramParts}
use Rattle.ds2_value.specs.ValueFunctions.{is_text_type}
use Rattle.ds2_value.specs.declared.value_function.OperandClass.TheVariants.{AnyText}
use Rattle.ds2_code.specs.OperandTypes.{OperandTypes, CodeRole, take_classes, with_type, none_for, stored_type, with_in_out_types, with_result_type}
use Rattle.ds2_gen.specs.CodeCells.{CodeCell, SlotCell, LocalCell, HashCell, IteratorCell, ParameterCell}
use Rattle.ds2_gen.specs.ExpressionCode.{Callee, CodeNumbers, store_instr, call_instr, truth_code, back_code, expression_code, arguments_code, comparison_instr, condition_code}
use Rattle.ds2_gen.specs.MethodCode.{parameter_part}
use Rattle.ds2_gen.specs.StatementCode.{text_type, label_of, drop_code, outputs_code, item_code, items_code, invoke_code, parameter_cell, parameters_code, load_kept, equality_code}
use Rattle.ds2_program_code.specs.UsedConstants.{constants_used, constants_of_arguments, constants_of_items, constants_of_parameters}
use Rattle.ds2_program_code.specs.TypedOperands.{OperandsLead, HasCellOfType, HasConstantOfType, HaveConstantsOfTypes, NamesHaveTypes}
use Rattle.ds2_program_code.specs.TypedRuns.{IsTypedParameter}
use Rattle.ds2_program_code.proofs.OperandLeads.{part_there, pushed_types, front_types, back_types, leads_append, leads_one, load_by, stored, truth_leads, comparison_leads, expression_leads, arguments_lead, called_leads, back_leads}

first_type : (u t : Ty) (types below : OperandTypes) → u ∷ types ≡ t ∷ below → u ≡ t
first_type u t types below e = cc

rest_types : (u t : Ty) (types below : OperandTypes) → u ∷ types ≡ t ∷ below → types ≡ below
rest_types u t types below e = cc

-- so many texts above others
abbrev TextsAbove : ℕ → OperandTypes → OperandTypes → Type 0
TextsAbove zero types below = types ≡ below
TextsAbove (suc n) [] below = ⊥
TextsAbove (suc n) (t ∷ types) below = (class_of t ≡ Texts) × TextsAbove n types below

texts_more : (n : ℕ) (types : OperandTypes) (t : Ty) (below : OperandTypes) → class_of t ≡ Texts → TextsAbove n types (t ∷ below) → TextsAbove (suc n) types below
texts_more zero [] t below text h = absurd cc
texts_more zero (u ∷ types) t below text h = (subst (λ x. class_of x ≡ Texts) (sym (first_type u t types below h)) text, rest_types u t types below h)
texts_more (suc n) [] t below text h = absurd h
texts_more (suc n) (u ∷ types) t below text h = (h.0, texts_more n types t below text h.1)

text_is : (t : Ty) → class_of t ≡ Texts → is_text_type t ≡ true
text_is BigInt e = absurd cc
text_is (DecimalOf p s) e = absurd cc
text_is (Char n) e = refl
text_is (Varchar n) e = refl

taken_texts : (n : ℕ) (types below : OperandTypes) (taken : List Ty) → TextsAbove n types below → (xs : List Ty) × (take_classes (replicate n AnyText) taken types ≡ Some (record { taken = xs; below = below }))
taken_texts zero types below taken h = (taken, ap (λ s. Some (record { taken = taken; below = s })) h)
taken_texts (suc n) [] below taken h = absurd h
taken_texts (suc n) (t ∷ types) below taken h =
    let it = taken_texts n types below (t ∷ taken) h.1 in
    (it.0, ap (λ b. if b then take_classes (replicate n AnyText) (t ∷ taken) types else None) (text_is t h.0) ∙ it.1)

module _ (code : ProgramParts) (params : List (Option Ty)) (role : CodeRole) (numbers : CodeNumbers) (names : NamesInScope) (have_types : NamesHaveTypes code role numbers names) where
  -- ---- conditions and kept values

  pub condition_leads : (e : TypedExpression) (s : OperandTypes) → HaveConstantsOfTypes code numbers (constants_used e) → IsTypedCondition names e → OperandsLead code params role s (condition_code numbers e) (BigInt ∷ s)
  condition_leads e s have typed =
      leads_append code params role (expression_code numbers e) (truth_code (expression_type e)) s (expression_type e ∷ s) (BigInt ∷ s) (expression_leads code params role numbers names have_types e s have typed.0)
      (truth_leads code params role (expression_type e) s typed.1)

  pub equality_leads : (n : ℕ) (ty : Ty) (e : TypedExpression) (s : OperandTypes) → HasCellOfType code role (Some (numbers.placement.kept_cell n)) ty → HaveConstantsOfTypes code numbers (constants_used e) → IsTypedExpression names e → class_of (expression_type e) ≡ class_of ty
      → OperandsLead code params role s (equality_code numbers n ty e) (BigInt ∷ s)
  equality_leads n ty e s kept have typed class =
      leads_append code params role (load_kept numbers n ty ∷ []) (expression_code numbers e ++ comparison_instr (class_of ty) Equal ∷ []) s (ty ∷ s) (BigInt ∷ s) (load_by code params role (Some (numbers.placement.kept_cell n)) ty ty s kept)
      (leads_append code params role (expression_code numbers e) (comparison_instr (class_of ty) Equal ∷ []) (ty ∷ s) (expression_type e ∷ ty ∷ s) (BigInt ∷ s) (expression_leads code params role numbers names have_types e (ty ∷ s) have typed)
      (comparison_leads code params role Equal ty (expression_type e) s (sym class)))

  -- ---- lines

  text_leads : (t : List ℕ) (ty : Ty) (s : OperandTypes) → HasConstantOfType code numbers (Txt t) ty → OperandsLead code params role s (instr.Const (numbers.constant (Txt t) ty) ∷ []) (ty ∷ s)
  text_leads t ty s has = leads_one code params role (instr.Const (numbers.constant (Txt t) ty)) s (ty ∷ s) (ap (λ o. with_type (option_map (λ (c : ConstantPart). c.ty) o) s) has.1 ∙ ap (λ x. Some (x ∷ s)) has.2) refl refl

  show_leads : (t : Ty) (s : OperandTypes) → OperandsLead code params role (t ∷ s) (instr.Show ∷ []) (Varchar TEXT_CHARACTERS ∷ s)
  show_leads t s = leads_one code params role instr.Show (t ∷ s) (Varchar TEXT_CHARACTERS ∷ s) refl refl refl

  -- the text of one item above operands
  abbrev ItemLeads : Item → OperandTypes → Type 0
  ItemLeads item s = (t : Ty) × (class_of t ≡ Texts) × OperandsLead code params role s (item_code numbers item) (t ∷ s)

  shown_leads : (e : TypedExpression) (s : OperandTypes) → HaveConstantsOfTypes code numbers (constants_used e) → IsTypedExpression names e → OperandsLead code params role s (expression_code numbers e ++ instr.Show ∷ []) (Varchar TEXT_CHARACTERS ∷ s)
  shown_leads e s have typed =
      leads_append code params role (expression_code numbers e) (instr.Show ∷ []) s (expression_type e ∷ s) (Varchar TEXT_CHARACTERS ∷ s) (expression_leads code params role numbers names have_types e s have typed) (show_leads (expression_type e) s)

  labelled_leads : (name : List ℕ) (e : TypedExpression) (s : OperandTypes) → HasConstantOfType code numbers (Txt (label_of name)) (text_type (label_of name)) → HaveConstantsOfTypes code numbers (constants_used e) → IsTypedExpression names e → ItemLeads (Labelled name e) s
  labelled_leads name e s has have typed =
      let label = text_type (label_of name) in
      let line = Varchar (min TEXT_CHARACTERS (max 1 (char_count (label_of name)) + TEXT_CHARACTERS)) in (
        line,
        refl,
        leads_append code params role (instr.Const (numbers.constant (Txt (label_of name)) label) ∷ []) (expression_code numbers e ++ instr.Show ∷ instr.Cat ∷ []) s (label ∷ s) (line ∷ s) (text_leads (label_of name) label s has)
            (leads_append code params role (expression_code numbers e) (instr.Show ∷ instr.Cat ∷ []) (label ∷ s) (expression_type e ∷ label ∷ s) (line ∷ s) (expression_leads code params role numbers names have_types e (label ∷ s) have typed)
            (Varchar TEXT_CHARACTERS ∷ label ∷ s, refl, refl, refl, (line ∷ s, refl, refl, refl, refl))),
      )

  -- the texts of a line above operands
  pub items_lead : (items : List Item) (s : OperandTypes) → HaveConstantsOfTypes code numbers (constants_of_items items) → AreTypedItems names items
      → (last : OperandTypes) × OperandsLead code params role s (items_code numbers items) last × TextsAbove (length items) last s
  items_lead [] s have typed = (s, refl, refl)
  items_lead (Text t ∷ items) s have typed =
      let rest = items_lead items (text_type t ∷ s) have.1 typed in (
        rest.0,
        leads_append code params role (instr.Const (numbers.constant (Txt t) (text_type t)) ∷ []) (items_code numbers items) s (text_type t ∷ s) rest.0 (text_leads t (text_type t) s have.0) rest.1,
        texts_more (length items) rest.0 (text_type t) s refl rest.2,
      )
  items_lead (Shown e ∷ items) s have typed =
      let rest = items_lead items (Varchar TEXT_CHARACTERS ∷ s) (back_types code numbers (constants_used e) (constants_of_items items) have) typed.1 in (
        rest.0,
        leads_append code params role (expression_code numbers e ++ instr.Show ∷ []) (items_code numbers items) s (Varchar TEXT_CHARACTERS ∷ s) rest.0
            (shown_leads e s (front_types code numbers (constants_used e) (constants_of_items items) have) typed.0) rest.1,
        texts_more (length items) rest.0 (Varchar TEXT_CHARACTERS) s refl rest.2,
      )
  items_lead (Labelled name e ∷ items) s have typed =
      let line = labelled_leads name e s have.0 (front_types code numbers (constants_used e) (constants_of_items items) have.1) typed.0 in
      let rest = items_lead items (line.0 ∷ s) (back_types code numbers (constants_used e) (constants_of_items items) have.1) typed.1 in (
        rest.0,
        leads_append code params role (item_code numbers (Labelled name e)) (items_code numbers items) s (line.0 ∷ s) rest.0 line.2 rest.1,
        texts_more (length items) rest.0 line.0 s line.1 rest.2,
      )

  pub put_leads : (n : ℕ) (types below : OperandTypes) → nat_le n 1000000 ≡ true → TextsAbove n types below → OperandsLead code params role types (instr.Put n ∷ []) below
  put_leads n types below few texts =
      leads_one code params role (instr.Put n) types below
      (ap (λ b. if b then none_for (take_classes (replicate n AnyText) [] types) else None) few ∙ ap (λ o. none_for o) (taken_texts n types below [] texts).1) refl refl

  -- ---- outputs

  pub outputs_lead : (ns : List ℕ) (s : OperandTypes) → ((n : ℕ) → n < names.outputs → is_some (slice_get code.outputs n) ≡ true) → AreOutputs names ns → OperandsLead code params role s (outputs_code ns) s
  outputs_lead [] s there typed = refl
  outputs_lead (n ∷ ns) s there typed = (s, part_there (slice_get code.outputs n) (Some s) (there n typed.0), refl, refl, outputs_lead ns s there typed.1)

  -- ---- calls

  drop_leads : (o : Option Callee) (callee : Callee) (returns : Option Ty) (s : OperandTypes) → o ≡ Some callee → callee.has_result ≡ is_some returns → OperandsLead code params role (with_result_type returns s) (drop_code o) s
  drop_leads o callee None s placed result =
      subst (λ x. OperandsLead code params role s (drop_code x) s) (sym placed) (subst (λ b. OperandsLead code params role s (if b then instr.DropTop ∷ [] else []) s) (sym result) refl)
  drop_leads o callee (Some ty) s placed result =
      subst (λ x. OperandsLead code params role (ty ∷ s) (drop_code x) s) (sym placed)
      (subst (λ b. OperandsLead code params role (ty ∷ s) (if b then instr.DropTop ∷ [] else []) s) (sym result) (leads_one code params role instr.DropTop (ty ∷ s) s refl refl refl))

  pub invoke_leads : (instance : Option (List ℕ)) (number : ℕ) (arguments : TypedArguments) (s : OperandTypes) → HaveConstantsOfTypes code numbers (constants_of_arguments arguments) → IsTypedCall names instance number arguments
      → OperandsLead code params role s (invoke_code numbers (callee_home numbers.home instance) number arguments) s
  invoke_leads instance number arguments s have typed =
      let method = typed.0 in
      let it = have_types.methods instance number method typed.1 in
      let home = callee_home numbers.home instance in
      let call = call_instr (numbers.callee home number) in
      let types = map (λ (p : Parameter). p.ty) (MethodTree.parameters method) in
      let base = with_result_type (MethodTree.returns method) s in
      let last = with_in_out_types (map parameter_part (MethodTree.parameters method)) base in
      leads_append code params role (arguments_code numbers arguments ++ (call ∷ back_code numbers arguments)) (drop_code (numbers.callee home number)) s base s
      (leads_append code params role (arguments_code numbers arguments) (call ∷ back_code numbers arguments) s (pushed_types types s) base
      (arguments_lead code params role numbers names have_types (MethodTree.parameters method) arguments s have typed.2)
      (leads_append code params role (call ∷ []) (back_code numbers arguments) (pushed_types types s) last base
      (called_leads code params role numbers names have_types home it.callee it.part number method s it.placed it.coded it.parameters it.returns)
      (back_leads code params role numbers names have_types (MethodTree.parameters method) arguments base typed.2)))
      (drop_leads (numbers.callee home number) it.callee (MethodTree.returns method) s it.placed it.result)

  -- ---- parameters of thread programs

  parameter_store : (o : Option CodeCell) (ty : Ty) (s : OperandTypes) → IsTypedParameter params o ty → OperandsLead code params role (ty ∷ s) (store_instr o ∷ []) s
  parameter_store None ty s is = leads_one code params role instr.DropTop (ty ∷ s) s refl refl refl
  parameter_store (Some (ParameterCell n)) ty s is = leads_one code params role (instr.SetParm n) (ty ∷ s) s (ap (λ t. stored_type t (ty ∷ s)) is ∙ stored code params role ty s) refl refl
  parameter_store (Some (SlotCell n)) ty s is = absurd is
  parameter_store (Some (LocalCell n)) ty s is = absurd is
  parameter_store (Some (HashCell n)) ty s is = absurd is
  parameter_store (Some (IteratorCell n)) ty s is = absurd is

  pub parameters_lead : (instance : List ℕ) (ps : List global_variable.Variable) (values : List ParameterValue) (s : OperandTypes) → AllByRecursion (λ (v : global_variable.Variable). IsTypedParameter params (parameter_cell numbers instance v.name) v.ty) ps
      → HaveConstantsOfTypes code numbers (constants_of_parameters values) → AreParameterValues names ps values → OperandsLead code params role s (parameters_code numbers instance values) s
  parameters_lead instance [] [] s cells have typed = refl
  parameters_lead instance [] (v ∷ values) s cells have typed = absurd typed
  parameters_lead instance (p ∷ ps) [] s cells have typed = absurd typed
  parameters_lead instance (p ∷ ps) (v ∷ values) s cells have typed =
      let cell : IsTypedParameter params (parameter_cell numbers instance v.parameter) p.ty = subst (λ n. IsTypedParameter params (parameter_cell numbers instance n) p.ty) (sym typed.0) cells.0 in
      leads_append code params role (expression_code numbers v.value) (store_instr (parameter_cell numbers instance v.parameter) ∷ parameters_code numbers instance values) s (p.ty ∷ s) s
      (subst (λ t. OperandsLead code params role s (expression_code numbers v.value) (t ∷ s)) typed.2 (expression_leads code params role numbers names have_types v.value s (front_types code numbers (constants_used v.value) (constants_of_parameters values) have) typed.1))
      (leads_append code params role (store_instr (parameter_cell numbers instance v.parameter) ∷ []) (parameters_code numbers instance values) (p.ty ∷ s) s s (parameter_store (parameter_cell numbers instance v.parameter) p.ty s cell)
      (parameters_lead instance ps values s cells.1 (back_types code numbers (constants_used v.value) (constants_of_parameters values) have) typed.3))
