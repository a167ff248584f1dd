-- The code of a body changes no location that its deeds do not change, and calls no method that they do not call.
use Rattle.std.proofs.Common.{◌≡◌, ℕ, ◌+◌, Bool, true, false, ◌&&◌, List, [], ◌∷◌, ◌++◌, Option, Some, None, refl, sym, ap, ◌∙◌, subst, if◌then◌else◌, bytes_eq, map, filter, cond, is_some, length}
use Rattle.std.specs.List.{list_any, AllByRecursion}
use Rattle.std.specs.Prelude.{nat_eq, slice_get}
use Rattle.std.proofs.lemmas.Bool.{true≢false, or_from, eqb-true}
use Rattle.ds2_base.specs.declared.place.Place.{Place}
use Rattle.ds2_value.specs.declared.comparison.Comparison.{Comparison}
use Rattle.ds2_value.specs.declared.comparison.Comparison.TheVariants.{Equal, Less, LessOrEqual, GreaterOrEqual}
use Rattle.ds2_value.specs.declared.hash_function.HashFunction.{HashFunction}
use Rattle.ds2_value.specs.declared.hash_function.HashFunction.TheVariants as hash
use Rattle.ds2_value.specs.declared.hash_function.IteratorFunction.{IteratorFunction}
use Rattle.ds2_value.specs.declared.ty.Ty.{Ty}
use Rattle.ds2_value.specs.declared.ty.Ty.TheVariants.{BigInt, Decimal as DecimalOf, Char, Varchar}
use Rattle.ds2_value.specs.declared.value.Value.{Value}
use Rattle.ds2_value.specs.declared.value.Value.TheVariants as value
use Rattle.ds2_meaning.specs.declared.expressions.Function.{Function}
use Rattle.ds2_meaning.specs.declared.expressions.Function.TheVariants as function
use Rattle.ds2_meaning.specs.declared.expressions.Operation.{Operation}
use Rattle.ds2_meaning.specs.declared.expressions.Operation.TheVariants as operation
use Rattle.ds2_meaning.specs.declared.expressions.Prefix.{Prefix}
use Rattle.ds2_meaning.specs.declared.expressions.Prefix.TheVariants as prefix
use Rattle.ds2_meaning.specs.declared.globals.Variable as global_variable
use Rattle.ds2_meaning.specs.declared.hashes.DeclaredHash.{DeclaredHash}
use Rattle.ds2_meaning.specs.declared.hashes.DeclaredIterator.{DeclaredIterator}
use Rattle.ds2_meaning.specs.declared.hashes.HashVariable.{HashVariable}
use Rattle.ds2_meaning.specs.declared.location.Global.TheVariants.{Parameter}
use Rattle.ds2_meaning.specs.declared.location.Reference.{Reference}
use Rattle.ds2_meaning.specs.declared.location.Reference.TheVariants.{At, Local}
use Rattle.ds2_meaning.specs.Evaluation.{callee_home}
use Rattle.ds2_meaning.specs.HashObjects.{hash_named, iterator_named, object_at}
use Rattle.ds2_meaning.specs.IsTyped.{TypeClass, Integers, Decimals, Texts, class_of, expression_type}
use Rattle.ds2_meaning.specs.Location.{Home, Location, is_same_location}
use Rattle.ds2_meaning.specs.Method.{MethodTree}
use Rattle.ds2_meaning.specs.ProgramTree.{BodyTree}
use Rattle.ds2_meaning.specs.TypedExpression.{TypedExpression, Constant, Variable, Widen, Convert, Prefixed, Chain, Compared, Applied, Called, HashCalled, IteratorCalled, Links, NoLink, Link, TypedExpressions, NoExpression, Then, TypedArguments, NoArgument, ByValue, InOut}
use Rattle.ds2_meaning.specs.TypedStatement.{TypedStatement, Empty, Assign, Invoke, Evaluate, SetParameters, ParameterValue, Construct, Leave, Continue, Return, ReturnValue, Output, Put, If, IfElse, Select, SelectValue, Block, Count, While, Until, TypedStatements, Finish, Next, TypedWhens, NoOtherwise, Otherwise, When, Item, Text, Shown, Labelled}
use Rattle.ds2_code.specs.declared.instr.Instr.{Instr}
use Rattle.ds2_code.specs.declared.instr.Instr.TheVariants as instr
use Rattle.ds2_code.specs.declared.parts.HashPart.{HashPart}
use Rattle.ds2_code.specs.declared.parts.ProgramParts.{ProgramParts}
use Rattle.ds2_code.specs.InstructionTable.{Kind, Enters, kind_of}
use Rattle.ds2_gen.specs.BodyCode.{OfSystem, OfMethod, code_of_body}
use Rattle.ds2_gen.specs.CodeCells.{Nameable, GlobalAt, LocalNamed, is_same_nameable, CodeCell, SlotCell, LocalCell, HashCell, IteratorCell, ParameterCell}
use Rattle.ds2_gen.specs.CodePieces.{ReturnWay, JumpsToEnd, HandsBack, ExitPoints}
use Rattle.ds2_gen.specs.CoveredForms.{IsCoveredExpression, AreCoveredArguments, AreCoveredExpressions, AreCoveredLinks, AreCoveredItems, IsCoveredStep, IsCoveredStatement, AreCoveredStatements, AreCoveredWhens, AreCoveredParameters, IsCoveredConstructor}
use Rattle.ds2_gen.specs.CoveredObjects.{AreVariableSlots, is_walking, HasHash, HasIterator}
use Rattle.ds2_gen.specs.ExpressionCode.{Callee, CodeNumbers, constant_instr, load_instr, cell_of, store_instr, call_instr, object_cell, hash_instr, iterator_instr, conversion_code, truth_code, prefix_code, operation_instr, operand_code, widening_code, widened_type, left_operand_code, comparison_instr, function_code, expressions_count, back_code, expression_code, expressions_code, links_code, method_call_code, arguments_code, condition_code}
use Rattle.ds2_gen.specs.MethodCode.{method_ending, method_end, method_exits}
use Rattle.ds2_gen.specs.StatementCode.{return_instr, outputs_code, drop_code, text_type, label_of, item_code, items_code, invoke_code, construct_code, parameter_cell, parameters_code, condition_size, store_kept, Subject, Conditions, EqualTo, compares, test_code, tests_code, tests_size, step_keeps, values_kept, step_code, step_instr, advance_code, end_number, bound_code, step_sign_code, falling_test_code, count_test_code, count_test_size, count_values_code, count_begin_code, statement_size, statements_size, whens_size, statement_code, statements_code, whens_code}
use Rattle.ds2_gen.specs.UnitCode.{locals_code, body_start, body_end, unit_exits}
use Rattle.ds2_gen.proofs.ObjectLemmas.{hash_name, iterator_name}
use Rattle.ds2_locality.specs.Deeds.{MethodAt, CodeScope, Deed, Mention, Change, CallOf, global_at, variables_at, hash_variables_at, iterators_over, set_deeds, changed_by_hash, hash_deeds, walked_hash_deeds, iterator_deeds, expression_deeds, link_deeds, expressions_deeds, argument_deeds, constructor_deeds, parameter_deeds, item_deeds, step_deeds, statement_deeds, body_deeds, when_deeds}
use Rattle.ds2_locality.proofs.Frame.{Allowed, AreAllowed, Any, all_front, all_back}
use Rattle.ds2_locality.proofs.Kept.{Apart}
use Rattle.ds2_same_meaning.specs.FixedInCode.{DataLocation, SlotAt, HashAt, IteratorAt, ParameterAt, copies_data, changes_items, is_data_slot, is_over, hash_call_changes, hash_walked, iterator_call_changes, kind_changes}
use Rattle.ds2_same_meaning.specs.IndependenceInCode.{cell_of_data}

pub all_both : {X : Type 0} (P : X → Type 0) (xs ys : List X) → AllByRecursion P xs → AllByRecursion P ys → AllByRecursion P (xs ++ ys)
all_both P [] ys front back = back
all_both P (x ∷ xs) ys front back = (front.0, all_both P xs ys front.1 back)

-- a method that is called is one of those that are allowed
pub record IsAllowedCall (callees : Home → ℕ → Option Callee) (R : MethodAt → Type 0) (number : ℕ) : Type 0 where
  pub home : Home
  pub method : ℕ
  pub callee : Callee
  pub placed : callees home method ≡ Some callee
  pub is : callee.number ≡ number
  pub allowed : R (record { home = home; number = method })

abbrev pub CallsAllowed : (Home → ℕ → Option Callee) → (MethodAt → Type 0) → Kind → Type 0
CallsAllowed callees R (Enters number) = IsAllowedCall callees R number
CallsAllowed callees R _ = Unit {0}

-- an instruction leaves a location alone, and enters only such methods
abbrev pub Spares : ProgramParts → (Home → ℕ → Option Callee) → DataLocation → (MethodAt → Type 0) → Instr → Type 0
Spares code callees there R i = (kind_changes code (kind_of i) there ≡ false) × CallsAllowed callees R (kind_of i)

-- ---- where another thing is kept

abbrev Elsewhere : CodeNumbers → Location → DataLocation → Type 0
Elsewhere numbers location there = (x : Nameable) → is_same_nameable (GlobalAt location) x ≡ false → numbers.placement.cell x ≡ Some (cell_of_data there) → ⊥

pub other_number : (n m : ℕ) → (n ≡ m → ⊥) → nat_eq n m ≡ false
other_number n m away = by (nat_eq n m) refl
  where
    by : (b : Bool) → nat_eq n m ≡ b → b ≡ false
    by true e = absurd (away (eqb-true n m e))
    by false e = refl

store_by : (code : ProgramParts) (o : Option CodeCell) (there : DataLocation) → (o ≡ Some (cell_of_data there) → ⊥) → kind_changes code (kind_of (store_instr o)) there ≡ false
store_by code None there other = refl
store_by code (Some (SlotCell n)) (SlotAt m) other = other_number m n (λ e. other (ap (λ k. Some (SlotCell k)) (sym e)))
store_by code (Some (SlotCell n)) (HashAt m) other = refl
store_by code (Some (SlotCell n)) (IteratorAt m) other = refl
store_by code (Some (SlotCell n)) (ParameterAt m) other = refl
store_by code (Some (LocalCell n)) there other = refl
store_by code (Some (HashCell n)) there other = refl
store_by code (Some (IteratorCell n)) there other = refl
store_by code (Some (ParameterCell n)) (SlotAt m) other = refl
store_by code (Some (ParameterCell n)) (HashAt m) other = refl
store_by code (Some (ParameterCell n)) (IteratorAt m) other = refl
store_by code (Some (ParameterCell n)) (ParameterAt m) other = other_number m n (λ e. other (ap (λ k. Some (ParameterCell k)) (sym e)))

store_enters_none : (callees : Home → ℕ → Option Callee) (R : MethodAt → Type 0) (o : Option CodeCell) → CallsAllowed callees R (kind_of (store_instr o))
store_enters_none callees R None = tt
store_enters_none callees R (Some (SlotCell n)) = tt
store_enters_none callees R (Some (LocalCell n)) = tt
store_enters_none callees R (Some (HashCell n)) = tt
store_enters_none callees R (Some (IteratorCell n)) = tt
store_enters_none callees R (Some (ParameterCell n)) = tt

-- ---- hash objects and iterators

module _ (code : ProgramParts) (numbers : CodeNumbers) (location : Location) where
  abbrev AllApart : List Location → Type 0
  AllApart others = AllByRecursion (Apart location) others

  data_slots_spared : (n : ℕ) → Elsewhere numbers location (SlotAt n) → (variables : List HashVariable) (slots : List ℕ) → AreVariableSlots numbers variables slots
      → AllApart (variables_at numbers.home variables) → list_any (nat_eq n) slots ≡ false
  data_slots_spared n away [] [] are spared = refl
  data_slots_spared n away [] (k ∷ slots) are spared = absurd are
  data_slots_spared n away (v ∷ variables) [] are spared = absurd are
  data_slots_spared n away (v ∷ variables) (k ∷ slots) are spared =
      or_from (nat_eq n k) (list_any (nat_eq n) slots)
      (other_number n k (λ e. away (GlobalAt (global_at numbers.home v.global)) spared.0 (are.0 ∙ ap (λ j. Some (SlotCell j)) (sym e))))
      (data_slots_spared n away variables slots are.1 spared.1)

  not_both : (a b : Bool) → a ≡ false → (a && b) ≡ false
  not_both true b e = absurd (true≢false e)
  not_both false b e = refl

  none : (a : Bool) → (a && false) ≡ false
  none true = refl
  none false = refl

  walking_by : (b : Bool) (i : DeclaredIterator) (iterators : List DeclaredIterator) (name : List ℕ)
      → AllApart (map (λ (k : DeclaredIterator). object_at numbers.home k.name) (cond b (i ∷ filter (λ (k : DeclaredIterator). bytes_eq k.hash name) iterators) (filter (λ (k : DeclaredIterator). bytes_eq k.hash name) iterators)))
      → ((is_same_location location (object_at numbers.home i.name) && b) ≡ false) × AllApart (iterators_over numbers.home iterators name)
  walking_by true i iterators name spared = (not_both (is_same_location location (object_at numbers.home i.name)) true spared.0, spared.1)
  walking_by false i iterators name spared = (none (is_same_location location (object_at numbers.home i.name)), spared)

  not_walking : (iterators : List DeclaredIterator) (name : List ℕ) → AllApart (iterators_over numbers.home iterators name) → is_walking numbers.home name iterators location ≡ false
  not_walking [] name spared = refl
  not_walking (i ∷ iterators) name spared =
      let parts = walking_by (bytes_eq i.hash name) i iterators name spared in
      or_from (is_same_location location (object_at numbers.home i.name) && bytes_eq i.hash name) (is_walking numbers.home name iterators location) parts.0 (not_walking iterators name parts.1)

  apart_of : (others : List Location) (R : MethodAt → Type 0) → AreAllowed Any Any (Apart location) R (map Change others) → AllApart others
  apart_of [] R h = tt
  apart_of (other ∷ others) R h = (h.0, apart_of others R h.1)

  -- its data variables are kept in other slots
  data_apart : (n : ℕ) (part : HashPart) (variables : List HashVariable) (o : Option HashPart) → o ≡ Some part → Elsewhere numbers location (SlotAt n) → AreVariableSlots numbers variables part.data_slots
      → AllApart (variables_at numbers.home variables) → is_data_slot o n ≡ false
  data_apart n part variables o found away are spared = ap (λ (x : Option HashPart). is_data_slot x n) found ∙ data_slots_spared n away variables part.data_slots are spared

  over_apart : (n number : ℕ) (o : Option ℕ) (walks : Bool) → ((walked : ℕ) × (o ≡ Some walked) × (nat_eq walked number ≡ walks)) → walks ≡ false → is_over number o ≡ false
  over_apart n number o walks it calm = ap (is_over number) it.1 ∙ it.2 ∙ calm

  -- a call that changes items, where the hash object and its iterators are others
  items_apart : (name : List ℕ) (h : HasHash code numbers name) (there : DataLocation) → numbers.placement.cell (GlobalAt location) ≡ Some (cell_of_data there) → Elsewhere numbers location there
      → Apart location (object_at numbers.home h.declared.name) → AllApart (iterators_over numbers.home numbers.objects.iterators h.declared.name) → (f : HashFunction) → copies_data f ≡ false → changes_items f ≡ true
      → hash_call_changes code f h.number there ≡ false
  items_apart name h (SlotAt n) placed away own over f calm items = not_both (copies_data f) (is_data_slot (slice_get code.hashes h.number) n) calm
  items_apart name h (HashAt n) placed away own over f calm items =
      let there = ap (λ k. numbers.placement.cell (GlobalAt (object_at numbers.home k))) (hash_name numbers.objects.hashes name h.declared h.meant) ∙ h.placed in
      ap (λ b. b && nat_eq n h.number) items ∙ other_number n h.number (λ e. away (GlobalAt (object_at numbers.home h.declared.name)) own (there ∙ ap (λ k. Some (HashCell k)) (sym e)))
  items_apart name h (IteratorAt n) placed away own over f calm items =
      let spared = subst (λ k. AllApart (iterators_over numbers.home numbers.objects.iterators k)) (hash_name numbers.objects.hashes name h.declared h.meant) over in
      ap (λ b. b && is_over h.number (slice_get code.iterators n)) items
      ∙ over_apart n h.number (slice_get code.iterators n) (is_walking numbers.home name numbers.objects.iterators location) (h.iterators.walking (GlobalAt location) (IteratorCell n) placed)
      (not_walking numbers.objects.iterators name spared)
  items_apart name h (ParameterAt n) placed away own over f calm items = refl

  -- `find` copies into its data variables alone
  find_apart : (name : List ℕ) (h : HasHash code numbers name) (there : DataLocation) → Elsewhere numbers location there → AllApart (variables_at numbers.home h.declared.data_variables)
      → hash_call_changes code hash.Find h.number there ≡ false
  find_apart name h (SlotAt n) away spared = data_apart n h.part h.declared.data_variables (slice_get code.hashes h.number) h.coded away h.data_slots spared
  find_apart name h (HashAt n) away spared = refl
  find_apart name h (IteratorAt n) away spared = refl
  find_apart name h (ParameterAt n) away spared = refl

  -- a call that changes nothing
  still : (f : HashFunction) (number : ℕ) (there : DataLocation) → copies_data f ≡ false → changes_items f ≡ false → hash_call_changes code f number there ≡ false
  still f number (SlotAt n) calm items = not_both (copies_data f) (is_data_slot (slice_get code.hashes number) n) calm
  still f number (HashAt n) calm items = not_both (changes_items f) (nat_eq n number) items
  still f number (IteratorAt n) calm items = not_both (changes_items f) (is_over number (slice_get code.iterators n)) items
  still f number (ParameterAt n) calm items = refl

  hash_apart : (name : List ℕ) (h : HasHash code numbers name) (there : DataLocation) → numbers.placement.cell (GlobalAt location) ≡ Some (cell_of_data there) → Elsewhere numbers location there
      → (f : HashFunction) → AllApart (changed_by_hash numbers.home numbers.objects.iterators f h.declared) → hash_call_changes code f h.number there ≡ false
  hash_apart name h there placed away hash.Find spared = find_apart name h there away spared
  hash_apart name h there placed away hash.Check spared = still hash.Check h.number there refl refl
  hash_apart name h there placed away hash.NumItems spared = still hash.NumItems h.number there refl refl
  hash_apart name h there placed away hash.Add spared = items_apart name h there placed away spared.0 spared.1 hash.Add refl refl
  hash_apart name h there placed away hash.Replace spared = items_apart name h there placed away spared.0 spared.1 hash.Replace refl refl
  hash_apart name h there placed away hash.Remove spared = items_apart name h there placed away spared.0 spared.1 hash.Remove refl refl
  hash_apart name h there placed away hash.Clear spared = items_apart name h there placed away spared.0 spared.1 hash.Clear refl refl

  -- a call of an iterator moves it, and copies into the data variables of its hash object
  iterator_apart : (name : List ℕ) (i : HasIterator code numbers name) (there : DataLocation) → Elsewhere numbers location there → Apart location (object_at numbers.home i.declared.name)
      → AllApart (variables_at numbers.home i.hash.data_variables) → iterator_call_changes code i.number there ≡ false
  iterator_apart name i (SlotAt n) away own spared =
      data_apart n i.part i.hash.data_variables (hash_walked code (slice_get code.iterators i.number)) (ap (hash_walked code) i.coded ∙ i.hash_coded) away i.data_slots spared
  iterator_apart name i (HashAt n) away own spared = refl
  iterator_apart name i (IteratorAt n) away own spared =
      let there = ap (λ k. numbers.placement.cell (GlobalAt (object_at numbers.home k))) (iterator_name numbers.objects.iterators name i.declared i.meant) ∙ i.placed in
      other_number n i.number (λ e. away (GlobalAt (object_at numbers.home i.declared.name)) own (there ∙ ap (λ k. Some (IteratorCell k)) (sym e)))
  iterator_apart name i (ParameterAt n) away own spared = refl

-- ---- bodies

module _ (code : ProgramParts) (numbers : CodeNumbers) (outputs : List (List (List ℕ))) (location : Location) (there : DataLocation) (placed : numbers.placement.cell (GlobalAt location) ≡ Some (cell_of_data there))
    (elsewhere : (x : Nameable) → is_same_nameable (GlobalAt location) x ≡ false → numbers.placement.cell x ≡ Some (cell_of_data there) → ⊥)
    (kept : (n : ℕ) → kind_changes code (kind_of (store_kept numbers n)) there ≡ false) (R : MethodAt → Type 0) where
  abbrev Spared : Instr → Type 0
  Spared i = Spares code numbers.callee there R i

  abbrev AllSpared : List Instr → Type 0
  AllSpared is = AllByRecursion Spared is

  abbrev Fine : List Deed → Type 0
  Fine deeds = AreAllowed Any Any (Apart location) R deeds

  abbrev front : (xs ys : List Deed) → Fine (xs ++ ys) → Fine xs
  front xs ys h = all_front (Allowed Any Any (Apart location) R) xs ys h

  abbrev back : (xs ys : List Deed) → Fine (xs ++ ys) → Fine ys
  back xs ys h = all_back (Allowed Any Any (Apart location) R) xs ys h

  abbrev scope : CodeScope
  scope = record { home = numbers.home; objects = numbers.objects; outputs = outputs }

  two : (xs ys : List Instr) → AllSpared xs → AllSpared ys → AllSpared (xs ++ ys)
  two xs ys a b = all_both Spared xs ys a b

  -- ---- one instruction

  store_spared : (x : Nameable) → is_same_nameable (GlobalAt location) x ≡ false → Spared (store_instr (numbers.placement.cell x))
  store_spared x other = (store_by code (numbers.placement.cell x) there (elsewhere x other), store_enters_none numbers.callee R (numbers.placement.cell x))

  variable_spared : (variable : Reference) → Fine (set_deeds numbers.home variable) → Spared (store_instr (cell_of numbers variable))
  variable_spared (At global) fine = store_spared (GlobalAt (global_at numbers.home global)) fine.1.0
  variable_spared (Local name) fine = store_spared (LocalNamed name) refl

  kept_spared : (n : ℕ) → Spared (store_kept numbers n)
  kept_spared n = (kept n, store_enters_none numbers.callee R (Some (numbers.placement.kept_cell n)))

  load_spared : (o : Option CodeCell) (ty : Ty) → Spared (load_instr o ty)
  load_spared None ty = (refl, tt)
  load_spared (Some (SlotCell n)) ty = (refl, tt)
  load_spared (Some (LocalCell n)) ty = (refl, tt)
  load_spared (Some (HashCell n)) ty = (refl, tt)
  load_spared (Some (IteratorCell n)) ty = (refl, tt)
  load_spared (Some (ParameterCell n)) ty = (refl, tt)

  constant_spared : (v : Value) (ty : Ty) → Spared (constant_instr numbers v ty)
  constant_spared value.Null ty = (refl, tt)
  constant_spared (value.Int i) ty = (refl, tt)
  constant_spared (value.Dec d) ty = (refl, tt)
  constant_spared (value.Txt t) ty = (refl, tt)

  comparison_spared : (kind : TypeClass) (comparison : Comparison) → Spared (comparison_instr kind comparison)
  comparison_spared Integers comparison = (refl, tt)
  comparison_spared Decimals comparison = (refl, tt)
  comparison_spared Texts comparison = (refl, tt)

  operation_spared : (o : Operation) → Spared (operation_instr o)
  operation_spared operation.IntegerAdd = (refl, tt)
  operation_spared operation.IntegerSubtract = (refl, tt)
  operation_spared operation.IntegerMultiply = (refl, tt)
  operation_spared operation.DecimalAdd = (refl, tt)
  operation_spared operation.DecimalSubtract = (refl, tt)
  operation_spared operation.DecimalMultiply = (refl, tt)
  operation_spared operation.DecimalDivide = (refl, tt)
  operation_spared operation.Concatenate = (refl, tt)
  operation_spared operation.And = (refl, tt)
  operation_spared operation.Or = (refl, tt)

  call_spared : (home : Home) (method : ℕ) (o : Option Callee) → numbers.callee home method ≡ o → R (record { home = home; number = method }) → Spared (call_instr o)
  call_spared home method None found allowed = (refl, tt)
  call_spared home method (Some callee) found allowed = (refl, record { home = home; method = method; callee = callee; placed = found; is = refl; allowed = allowed })

  hash_spared : (name : List ℕ) (f : HashFunction) → HasHash code numbers name → Fine (hash_deeds scope f (hash_named numbers.objects.hashes name)) → Spared (hash_instr (object_cell numbers name) f)
  hash_spared name f h fine =
      let deeds = subst (λ (o : Option DeclaredHash). Fine (hash_deeds scope f o)) h.meant fine in
      let changed = changed_by_hash numbers.home numbers.objects.iterators f h.declared in
      let apart = apart_of code numbers location changed R (back (map Mention (hash_variables_at numbers.home h.declared)) (map Change changed) deeds.1) in
      subst (λ (o : Option CodeCell). Spared (hash_instr o f)) (sym h.placed) (hash_apart code numbers location name h there placed elsewhere f apart, tt)

  iterator_spared : (name : List ℕ) (f : IteratorFunction) → HasIterator code numbers name → Fine (iterator_deeds scope (iterator_named numbers.objects.iterators name))
      → Spared (iterator_instr (object_cell numbers name) f)
  iterator_spared name f i fine =
      let deeds = subst (λ (o : Option DeclaredIterator). Fine (iterator_deeds scope o)) i.meant fine in
      let walked = subst (λ (o : Option DeclaredHash). Fine (walked_hash_deeds numbers.home o)) i.hash_meant deeds.1.1.1 in
      let copied = variables_at numbers.home i.hash.data_variables in
      let apart = apart_of code numbers location copied R (back (map Mention (hash_variables_at numbers.home i.hash)) (map Change copied) walked) in
      subst (λ (o : Option CodeCell). Spared (iterator_instr o f)) (sym i.placed) (iterator_apart code numbers location name i there elsewhere deeds.1.1.0 apart, tt)

  return_spared : (way : ReturnWay) → Spared (return_instr way)
  return_spared (JumpsToEnd end) = (refl, tt)
  return_spared (HandsBack true) = (refl, tt)
  return_spared (HandsBack false) = (refl, tt)

  -- ---- short runs

  conversion_spared : (ty : Ty) → AllSpared (conversion_code ty)
  conversion_spared BigInt = tt
  conversion_spared (DecimalOf p s) = ((refl, tt), tt)
  conversion_spared (Char n) = ((refl, tt), tt)
  conversion_spared (Varchar n) = ((refl, tt), tt)

  truth_spared : (ty : Ty) → AllSpared (truth_code ty)
  truth_spared BigInt = tt
  truth_spared (DecimalOf p s) = ((refl, tt), tt)
  truth_spared (Char n) = tt
  truth_spared (Varchar n) = tt

  prefix_spared : (x : Prefix) (ty : Ty) → AllSpared (prefix_code x ty)
  prefix_spared prefix.IntegerNegate ty = ((refl, tt), tt)
  prefix_spared prefix.DecimalNegate ty = ((refl, tt), tt)
  prefix_spared prefix.Plus ty = tt
  prefix_spared prefix.Not ty = two (truth_code ty) (instr.Not ∷ []) (truth_spared ty) ((refl, tt), tt)

  operand_spared : (o : Operation) (ty : Ty) → AllSpared (operand_code o ty)
  operand_spared operation.And ty = truth_spared ty
  operand_spared operation.Or ty = truth_spared ty
  operand_spared _ ty = tt

  widening_spared : (b : Bool) → AllSpared (widening_code b)
  widening_spared true = ((refl, tt), tt)
  widening_spared false = tt

  left_operand_spared : (b : Bool) (o : Operation) (ty : Ty) → AllSpared (left_operand_code b o ty)
  left_operand_spared b o ty = two (widening_code b) (operand_code o (widened_type b ty)) (widening_spared b) (operand_spared o (widened_type b ty))

  function_spared : (f : Function) (n : ℕ) → AllSpared (function_code f n)
  function_spared (function.Value f) n = ((refl, tt), tt)
  function_spared function.Coalesce n = ((refl, tt), tt)
  function_spared function.Least n = ((refl, tt), tt)
  function_spared function.Greatest n = ((refl, tt), tt)
  function_spared function.Unchanged n = tt

  -- ---- expressions

  back_spared : (arguments : TypedArguments) → Fine (argument_deeds scope arguments) → AllSpared (back_code numbers arguments)
  back_spared NoArgument fine = tt
  back_spared (ByValue e rest) fine = back_spared rest (back (expression_deeds scope e) (argument_deeds scope rest) fine)
  back_spared (InOut variable rest) fine =
      two (back_code numbers rest) (store_instr (cell_of numbers variable) ∷ []) (back_spared rest (back (set_deeds numbers.home variable) (argument_deeds scope rest) fine))
      (variable_spared variable (front (set_deeds numbers.home variable) (argument_deeds scope rest) fine), tt)

  mutual
    expression_spared : (e : TypedExpression) → IsCoveredExpression code numbers e → Fine (expression_deeds scope e) → AllSpared (expression_code numbers e)
    expression_spared (Constant v ty) covered fine = (constant_spared v ty, tt)
    expression_spared (Variable variable ty) covered fine = (load_spared (cell_of numbers variable) ty, tt)
    expression_spared (Widen e) covered fine = two (expression_code numbers e) (instr.IToD ∷ []) (expression_spared e covered fine) ((refl, tt), tt)
    expression_spared (Convert e ty) covered fine = two (expression_code numbers e) (conversion_code ty) (expression_spared e covered fine) (conversion_spared ty)
    expression_spared (Prefixed x e ty) covered fine = two (expression_code numbers e) (prefix_code x (expression_type e)) (expression_spared e covered fine) (prefix_spared x (expression_type e))
    expression_spared (Chain first links) covered fine =
        two (expression_code numbers first) (links_code numbers (expression_type first) links) (expression_spared first covered.0 (front (expression_deeds scope first) (link_deeds scope links) fine))
        (links_spared links (expression_type first) covered.1 (back (expression_deeds scope first) (link_deeds scope links) fine))
    expression_spared (Compared comparison left right) covered fine =
        let i = comparison_instr (class_of (expression_type left)) comparison in
        two (expression_code numbers left) (expression_code numbers right ++ i ∷ []) (expression_spared left covered.0 (front (expression_deeds scope left) (expression_deeds scope right) fine))
        (two (expression_code numbers right) (i ∷ []) (expression_spared right covered.1 (back (expression_deeds scope left) (expression_deeds scope right) fine))
        (comparison_spared (class_of (expression_type left)) comparison, tt))
    expression_spared (Applied f arguments ty) covered fine =
        two (expressions_code numbers arguments) (function_code f (expressions_count arguments)) (expressions_spared arguments covered.1 fine) (function_spared f (expressions_count arguments))
    expression_spared (Called instance method arguments ty) covered fine =
        let home = callee_home numbers.home instance in
        let call = CallOf (record { home = home; number = method }) ∷ [] in
        let own = front (argument_deeds scope arguments) call fine in
        two (arguments_code numbers arguments) (call_instr (numbers.callee home method) ∷ back_code numbers arguments) (arguments_spared arguments covered.2 own)
        (call_spared home method (numbers.callee home method) refl (back (argument_deeds scope arguments) call fine).0, back_spared arguments own)
    expression_spared (HashCalled name f) covered fine = (hash_spared name f covered fine, tt)
    expression_spared (IteratorCalled name f) covered fine = (iterator_spared name f covered fine, tt)

    expressions_spared : (es : TypedExpressions) → AreCoveredExpressions code numbers es → Fine (expressions_deeds scope es) → AllSpared (expressions_code numbers es)
    expressions_spared NoExpression covered fine = tt
    expressions_spared (Then e rest) covered fine =
        two (expression_code numbers e) (expressions_code numbers rest) (expression_spared e covered.0 (front (expression_deeds scope e) (expressions_deeds scope rest) fine))
        (expressions_spared rest covered.1 (back (expression_deeds scope e) (expressions_deeds scope rest) fine))

    links_spared : (links : Links) (ty : Ty) → AreCoveredLinks code numbers links → Fine (link_deeds scope links) → AllSpared (links_code numbers ty links)
    links_spared NoLink ty covered fine = tt
    links_spared (Link widens o e to rest) ty covered fine =
        let c1 = left_operand_code widens o ty in
        let c2 = expression_code numbers e in
        let c3 = operand_code o (expression_type e) in
        let c4 = operation_instr o ∷ links_code numbers to rest in
        two c1 (c2 ++ (c3 ++ c4)) (left_operand_spared widens o ty)
        (two c2 (c3 ++ c4) (expression_spared e covered.0 (front (expression_deeds scope e) (link_deeds scope rest) fine))
        (two c3 c4 (operand_spared o (expression_type e)) (operation_spared o, links_spared rest to covered.1 (back (expression_deeds scope e) (link_deeds scope rest) fine))))

    arguments_spared : (arguments : TypedArguments) → AreCoveredArguments code numbers arguments → Fine (argument_deeds scope arguments) → AllSpared (arguments_code numbers arguments)
    arguments_spared NoArgument covered fine = tt
    arguments_spared (ByValue e rest) covered fine =
        two (expression_code numbers e) (arguments_code numbers rest) (expression_spared e covered.0 (front (expression_deeds scope e) (argument_deeds scope rest) fine))
        (arguments_spared rest covered.1 (back (expression_deeds scope e) (argument_deeds scope rest) fine))
    arguments_spared (InOut variable rest) covered fine =
        (load_spared (cell_of numbers variable) BigInt, arguments_spared rest covered.1 (back (set_deeds numbers.home variable) (argument_deeds scope rest) fine))

  called_spared : (home : Home) (method : ℕ) (arguments : TypedArguments) → AreCoveredArguments code numbers arguments
      → Fine (argument_deeds scope arguments ++ CallOf (record { home = home; number = method }) ∷ []) → AllSpared (method_call_code numbers home method arguments)
  called_spared home method arguments covered fine =
      let call = CallOf (record { home = home; number = method }) ∷ [] in
      let own = front (argument_deeds scope arguments) call fine in
      two (arguments_code numbers arguments) (call_instr (numbers.callee home method) ∷ back_code numbers arguments) (arguments_spared arguments covered own)
      (call_spared home method (numbers.callee home method) refl (back (argument_deeds scope arguments) call fine).0, back_spared arguments own)

  condition_spared : (e : TypedExpression) → IsCoveredExpression code numbers e → Fine (expression_deeds scope e) → AllSpared (condition_code numbers e)
  condition_spared e covered fine = two (expression_code numbers e) (truth_code (expression_type e)) (expression_spared e covered fine) (truth_spared (expression_type e))

  -- ---- parts of statements

  drop_by : (b : Bool) → AllSpared (if b then instr.DropTop ∷ [] else [])
  drop_by true = ((refl, tt), tt)
  drop_by false = tt

  drop_spared : (o : Option Callee) → AllSpared (drop_code o)
  drop_spared None = tt
  drop_spared (Some callee) = drop_by callee.has_result

  invoke_spared : (home : Home) (method : ℕ) (arguments : TypedArguments) → AreCoveredArguments code numbers arguments
      → Fine (argument_deeds scope arguments ++ CallOf (record { home = home; number = method }) ∷ []) → AllSpared (invoke_code numbers home method arguments)
  invoke_spared home method arguments covered fine =
      two (method_call_code numbers home method arguments) (drop_code (numbers.callee home method)) (called_spared home method arguments covered fine) (drop_spared (numbers.callee home method))

  construct_spared : (instance : List ℕ) (constructor : Option ℕ) (arguments : TypedArguments) → IsCoveredConstructor code numbers instance constructor arguments
      → Fine (constructor_deeds scope instance constructor arguments) → AllSpared (construct_code numbers instance constructor arguments)
  construct_spared instance None arguments covered fine = tt
  construct_spared instance (Some method) arguments covered fine = invoke_spared (Some instance) method arguments covered.1 fine

  parameters_spared : (instance : List ℕ) (ps : List ParameterValue) → AreCoveredParameters code numbers instance ps → Fine (parameter_deeds scope instance ps) → AllSpared (parameters_code numbers instance ps)
  parameters_spared instance [] covered fine = tt
  parameters_spared instance (p ∷ ps) covered fine =
      let set = global_at (Some instance) (Parameter p.parameter) in
      let more = back (expression_deeds scope p.value) (Change set ∷ parameter_deeds scope instance ps) fine in
      two (expression_code numbers p.value) (store_instr (parameter_cell numbers instance p.parameter) ∷ parameters_code numbers instance ps)
      (expression_spared p.value covered.1 (front (expression_deeds scope p.value) (Change set ∷ parameter_deeds scope instance ps) fine))
      (store_spared (GlobalAt set) more.0, parameters_spared instance ps covered.2 more.1)

  items_spared : (items : List Item) → AreCoveredItems code numbers items → Fine (item_deeds scope items) → AllSpared (items_code numbers items)
  items_spared [] covered fine = tt
  items_spared (Text t ∷ items) covered fine = (constant_spared (value.Txt t) (text_type t), items_spared items covered.1 fine)
  items_spared (Shown e ∷ items) covered fine =
      two (item_code numbers (Shown e)) (items_code numbers items)
      (two (expression_code numbers e) (instr.Show ∷ []) (expression_spared e covered.0 (front (expression_deeds scope e) (item_deeds scope items) fine)) ((refl, tt), tt))
      (items_spared items covered.1 (back (expression_deeds scope e) (item_deeds scope items) fine))
  items_spared (Labelled name e ∷ items) covered fine =
      two (item_code numbers (Labelled name e)) (items_code numbers items) (
        constant_spared (value.Txt (label_of name)) (text_type (label_of name)),
        two (expression_code numbers e) (instr.Show ∷ instr.Cat ∷ []) (expression_spared e covered.1 (front (expression_deeds scope e) (item_deeds scope items) fine)) ((refl, tt), ((refl, tt), tt)),
      )
      (items_spared items covered.2 (back (expression_deeds scope e) (item_deeds scope items) fine))

  outputs_spared : (ns : List ℕ) → AllSpared (outputs_code ns)
  outputs_spared [] = tt
  outputs_spared (n ∷ ns) = ((refl, tt), outputs_spared ns)

  -- ---- tests and counted loops

  test_spared : (subject : Subject) (e : TypedExpression) → IsCoveredExpression code numbers e → Fine (expression_deeds scope e) → AllSpared (test_code numbers subject e)
  test_spared Conditions e covered fine = condition_spared e covered fine
  test_spared (EqualTo n ty) e covered fine =
      (load_spared (Some (numbers.placement.kept_cell n)) ty, two (expression_code numbers e) (comparison_instr (class_of ty) Equal ∷ []) (expression_spared e covered fine) (comparison_spared (class_of ty) Equal, tt))

  tests_spared : (subject : Subject) (on off : ℕ) (tests : TypedExpressions) → AreCoveredExpressions code numbers tests → Fine (expressions_deeds scope tests) → AllSpared (tests_code numbers subject on off tests)
  tests_spared subject on off NoExpression covered fine = ((refl, tt), tt)
  tests_spared subject on off (Then e NoExpression) covered fine =
      two (test_code numbers subject e) (instr.JFalse off ∷ []) (test_spared subject e covered.0 (front (expression_deeds scope e) [] fine)) ((refl, tt), tt)
  tests_spared subject on off (Then e (Then f rest)) covered fine =
      let more = expressions_deeds scope (Then f rest) in
      two (test_code numbers subject e) (instr.JTrue on ∷ tests_code numbers subject on off (Then f rest)) (test_spared subject e covered.0 (front (expression_deeds scope e) more fine))
      ((refl, tt), tests_spared subject on off (Then f rest) covered.1 (back (expression_deeds scope e) more fine))

  step_spared : (step : Option TypedExpression) → IsCoveredStep code numbers step → Fine (step_deeds scope step) → AllSpared (step_code numbers step)
  step_spared None covered fine = tt
  step_spared (Some e) covered fine = expression_spared e covered.0 fine

  begin_spared : (place : Place) (variable : Reference) (n : ℕ) (step : Option TypedExpression) (test : ℕ) → Fine (set_deeds numbers.home variable) → AllSpared (count_begin_code numbers place variable n step test)
  begin_spared place variable n None test fine = (kept_spared (end_number n None), (variable_spared variable fine, ((refl, tt), ((refl, tt), tt))))
  begin_spared place variable n (Some e) test fine = (kept_spared n, (kept_spared (end_number n (Some e)), (variable_spared variable fine, ((refl, tt), ((refl, tt), tt)))))

  step_instr_spared : (n : ℕ) (step : Option TypedExpression) → Spared (step_instr numbers n step)
  step_instr_spared n None = (refl, tt)
  step_instr_spared n (Some e) = load_spared (Some (numbers.placement.kept_cell n)) BigInt

  advance_spared : (place : Place) (variable : Reference) (n : ℕ) (step : Option TypedExpression) → Fine (set_deeds numbers.home variable) → AllSpared (advance_code numbers place variable (step_instr numbers n step))
  advance_spared place variable n step fine =
      ((refl, tt), (load_spared (cell_of numbers variable) BigInt, (step_instr_spared n step, ((refl, tt), (variable_spared variable fine, tt)))))

  bound_spared : (variable : Reference) (end : ℕ) (comparison : Comparison) (next : List Instr) → AllSpared next → AllSpared (bound_code numbers variable end comparison next)
  bound_spared variable end comparison next h = (load_spared (cell_of numbers variable) BigInt, (load_spared (Some (numbers.placement.kept_cell end)) BigInt, ((refl, tt), h)))

  sign_spared : (step : ℕ) (comparison : Comparison) (next : List Instr) → AllSpared next → AllSpared (step_sign_code numbers step comparison next)
  sign_spared step comparison next h = (load_spared (Some (numbers.placement.kept_cell step)) BigInt, ((refl, tt), ((refl, tt), h)))

  count_test_spared : (test first : ℕ) (variable : Reference) (n : ℕ) (step : Option TypedExpression) → AllSpared (count_test_code numbers test first variable n step)
  count_test_spared test first variable n None = bound_spared variable (end_number n None) LessOrEqual (instr.JTrue first ∷ []) ((refl, tt), tt)
  count_test_spared test first variable n (Some e) =
      let end = end_number n (Some e) in
      let again = instr.JTrue first ∷ [] in
      let rest = instr.JTrue first ∷ (instr.Jump (test + 17) ∷ falling_test_code numbers (test + 17) first variable n end) in
      let falling = sign_spared n Less (instr.JFalse (test + 17) ∷ bound_code numbers variable end GreaterOrEqual again) ((refl, tt), bound_spared variable end GreaterOrEqual again ((refl, tt), tt)) in
      sign_spared n GreaterOrEqual (instr.JFalse (test + 9) ∷ bound_code numbers variable end LessOrEqual rest) ((refl, tt), bound_spared variable end LessOrEqual rest ((refl, tt), ((refl, tt), falling)))

  -- ---- statements

  mutual
    statement_spared : (way : ReturnWay) (at n : ℕ) (exits : ExitPoints) (t : TypedStatement) → IsCoveredStatement code numbers way t → Fine (statement_deeds scope t) → AllSpared (statement_code numbers at n exits t)
    statement_spared way at n exits (Empty place) covered fine = ((refl, tt), tt)
    statement_spared way at n exits (Assign place variable e) covered fine = (
      (refl, tt),
      two (expression_code numbers e) (store_instr (cell_of numbers variable) ∷ []) (expression_spared e covered.1 (front (expression_deeds scope e) (set_deeds numbers.home variable) fine))
          (variable_spared variable (back (expression_deeds scope e) (set_deeds numbers.home variable) fine), tt),
    )
    statement_spared way at n exits (Invoke place instance method arguments) covered fine = ((refl, tt), invoke_spared (callee_home numbers.home instance) method arguments covered.1 fine)
    statement_spared way at n exits (Evaluate place e) covered fine = ((refl, tt), two (expression_code numbers e) (instr.DropTop ∷ []) (expression_spared e covered fine) ((refl, tt), tt))
    statement_spared way at n exits (SetParameters place instance values) covered fine = ((refl, tt), parameters_spared instance values covered fine)
    statement_spared way at n exits (Construct place instance constructor arguments) covered fine = ((refl, tt), construct_spared instance constructor arguments covered fine)
    statement_spared way at n exits (Leave place) covered fine = ((refl, tt), ((refl, tt), tt))
    statement_spared way at n exits (Continue place) covered fine = ((refl, tt), ((refl, tt), tt))
    statement_spared way at n exits (Return place) covered fine = ((refl, tt), (return_spared exits.return, tt))
    statement_spared way at n exits (ReturnValue place e) covered fine = ((refl, tt), two (expression_code numbers e) (instr.RetV ∷ []) (expression_spared e covered.1 fine) ((refl, tt), tt))
    statement_spared way at n exits (Output place outputs) covered fine = ((refl, tt), outputs_spared outputs)
    statement_spared way at n exits (Put place items) covered fine = ((refl, tt), two (items_code numbers items) (instr.Put (length items) ∷ []) (items_spared items covered fine.1) ((refl, tt), tt))
    statement_spared way at n exits (If place e on) covered fine =
        let first = at + 1 + condition_size numbers e + 1 in
        let c = statement_code numbers first n exits on in (
          (refl, tt),
          two (condition_code numbers e) (instr.JFalse (first + statement_size numbers on) ∷ c) (condition_spared e covered.0 (front (expression_deeds scope e) (statement_deeds scope on) fine))
              ((refl, tt), statement_spared way first n exits on covered.1 (back (expression_deeds scope e) (statement_deeds scope on) fine)),
        )
    statement_spared way at n exits (IfElse place e on off) covered fine =
        let first = at + 1 + condition_size numbers e + 1 in
        let other = first + statement_size numbers on + 1 in
        let c1 = statement_code numbers first n exits on in
        let c2 = instr.Jump (other + statement_size numbers off) ∷ statement_code numbers other (n + values_kept on) exits off in
        let de = expression_deeds scope e in
        let d1 = statement_deeds scope on in
        let d2 = statement_deeds scope off in
        let begun = front (de ++ d1) d2 fine in (
          (refl, tt),
          two (condition_code numbers e) (instr.JFalse other ∷ (c1 ++ c2)) (condition_spared e covered.0 (front de d1 begun))
              ((refl, tt), two c1 c2 (statement_spared way first n exits on covered.1 (back de d1 begun)) ((refl, tt), statement_spared way other (n + values_kept on) exits off covered.2 (back (de ++ d1) d2 fine))),
        )
    statement_spared way at n exits (Select place whens) covered fine = ((refl, tt), whens_spared way (at + 1) n (at + 1 + whens_size numbers false whens) exits Conditions whens covered fine)
    statement_spared way at n exits (SelectValue place e whens) covered fine =
        let first = at + 1 + length (expression_code numbers e) + 1 in
        let subject = EqualTo n (expression_type e) in
        let end = first + whens_size numbers true whens in
        let de = expression_deeds scope e in
        let dw = when_deeds scope whens in (
          (refl, tt),
          two (expression_code numbers e) (store_kept numbers n ∷ whens_code numbers first (n + 1) end exits subject whens) (expression_spared e covered.0 (front de dw fine))
              (kept_spared n, whens_spared way first (n + 1) end exits subject whens covered.1 (back de dw fine)),
        )
    statement_spared way at n exits (Block place body) covered fine = ((refl, tt), statements_spared way (at + 1) n exits body covered fine)
    statement_spared way at n exits (Count place variable start end step body) covered fine =
        let values = count_values_code numbers start end step in
        let first = at + 1 + length values + (step_keeps step + 4) in
        let again = first + statements_size numbers body in
        let test = again + 5 in
        let within : ExitPoints = record { leave = test + count_test_size step; continue = again; return = exits.return } in
        let cb = statements_code numbers first (end_number n step + 1) within body in
        let advance = advance_code numbers place variable (step_instr numbers n step) in
        let tests = count_test_code numbers test first variable n step in
        let begin = count_begin_code numbers place variable n step test in
        let ds = expression_deeds scope start in
        let de = expression_deeds scope end in
        let dp = step_deeds scope step in
        let dv = set_deeds numbers.home variable in
        let db = body_deeds scope body in
        let f4 = front (ds ++ de ++ dp ++ dv) db fine in
        let f3 = front (ds ++ de ++ dp) dv f4 in
        let f2 = front (ds ++ de) dp f3 in
        let set = back (ds ++ de ++ dp) dv f4 in (
          (refl, tt),
          two values (begin ++ (cb ++ (advance ++ tests)))
              (two (expression_code numbers start) (expression_code numbers end ++ step_code numbers step) (expression_spared start covered.1 (front ds de f2))
              (two (expression_code numbers end) (step_code numbers step) (expression_spared end covered.2 (back ds de f2)) (step_spared step covered.3 (back (ds ++ de) dp f3))))
              (two begin (cb ++ (advance ++ tests)) (begin_spared place variable n step test set)
              (two cb (advance ++ tests) (statements_spared way first (end_number n step + 1) within body covered.4 (back (ds ++ de ++ dp ++ dv) db fine))
              (two advance tests (advance_spared place variable n step set) (count_test_spared test first variable n step)))),
        )
    statement_spared way at n exits (While place e body) covered fine =
        let first = at + 2 + condition_size numbers e + 1 in
        let end = first + statements_size numbers body + 1 in
        let within : ExitPoints = record { leave = end; continue = at + 1; return = exits.return } in
        let cb = statements_code numbers first n within body in
        let de = expression_deeds scope e in
        let db = body_deeds scope body in (
          (refl, tt),
          (
            (refl, tt),
            two (condition_code numbers e) (instr.JFalse end ∷ (cb ++ instr.Jump (at + 1) ∷ [])) (condition_spared e covered.0 (front de db fine))
                ((refl, tt), two cb (instr.Jump (at + 1) ∷ []) (statements_spared way first n within body covered.1 (back de db fine)) ((refl, tt), tt)),
          ),
        )
    statement_spared way at n exits (Until place e body) covered fine =
        let test = at + 1 + statements_size numbers body in
        let end = test + 1 + condition_size numbers e + 1 in
        let within : ExitPoints = record { leave = end; continue = test; return = exits.return } in
        let cb = statements_code numbers (at + 1) n within body in
        let cc = condition_code numbers e in
        let de = expression_deeds scope e in
        let db = body_deeds scope body in (
          (refl, tt),
          two cb (instr.Tick place ∷ (cc ++ instr.JFalse (at + 1) ∷ [])) (statements_spared way (at + 1) n within body covered.1 (back de db fine))
              ((refl, tt), two cc (instr.JFalse (at + 1) ∷ []) (condition_spared e covered.0 (front de db fine)) ((refl, tt), tt)),
        )

    statements_spared : (way : ReturnWay) (at n : ℕ) (exits : ExitPoints) (ts : TypedStatements) → AreCoveredStatements code numbers way ts → Fine (body_deeds scope ts) → AllSpared (statements_code numbers at n exits ts)
    statements_spared way at n exits Finish covered fine = tt
    statements_spared way at n exits (Next t rest) covered fine =
        let mid = at + statement_size numbers t in
        two (statement_code numbers at n exits t) (statements_code numbers mid (n + values_kept t) exits rest)
        (statement_spared way at n exits t covered.0 (front (statement_deeds scope t) (body_deeds scope rest) fine))
        (statements_spared way mid (n + values_kept t) exits rest covered.1 (back (statement_deeds scope t) (body_deeds scope rest) fine))

    whens_spared : (way : ReturnWay) (at n end : ℕ) (exits : ExitPoints) (subject : Subject) (whens : TypedWhens) → AreCoveredWhens code numbers way whens → Fine (when_deeds scope whens)
        → AllSpared (whens_code numbers at n end exits subject whens)
    whens_spared way at n end exits subject NoOtherwise covered fine = ((refl, tt), tt)
    whens_spared way at n end exits subject (Otherwise t) covered fine = statement_spared way at n exits t covered fine
    whens_spared way at n end exits subject (When tests t rest) covered fine =
        let first = at + tests_size numbers (compares subject) tests in
        let next = first + statement_size numbers t + 1 in
        let cs = statement_code numbers first n exits t in
        let cr = instr.Jump end ∷ whens_code numbers next (n + values_kept t) end exits subject rest in
        let dt = expressions_deeds scope tests in
        let ds = statement_deeds scope t in
        let dr = when_deeds scope rest in
        let begun = front (dt ++ ds) dr fine in
        two (tests_code numbers subject first next tests) (cs ++ cr) (tests_spared subject first next tests covered.0 (front dt ds begun))
        (two cs cr (statement_spared way first n exits t covered.1 (back dt ds begun)) ((refl, tt), whens_spared way next (n + values_kept t) end exits subject rest covered.2 (back (dt ++ ds) dr fine)))

  -- ---- bodies

  locals_spared : (locals : List global_variable.Variable) → AllSpared (locals_code numbers locals)
  locals_spared [] = tt
  locals_spared (v ∷ locals) = ((refl, tt), (store_spared (LocalNamed v.name) refl, locals_spared locals))

  pub system_spared : (way : ReturnWay) (at : ℕ) (body : BodyTree) (written : List ℕ) → AreCoveredStatements code numbers way body.statements → Fine (body_deeds scope body.statements)
      → AllSpared (code_of_body at (OfSystem numbers body written))
  system_spared way at body written covered fine =
      let cs = statements_code numbers (body_start numbers at body) 0 (unit_exits (body_end numbers at body)) body.statements in
      let ending = outputs_code written ++ instr.End ∷ [] in
      two (locals_code numbers body.locals) (cs ++ ending) (locals_spared body.locals)
      (two cs ending (statements_spared way (body_start numbers at body) 0 (unit_exits (body_end numbers at body)) body.statements covered fine)
      (two (outputs_code written) (instr.End ∷ []) (outputs_spared written) ((refl, tt), tt)))

  ending_spared : (o : Option Ty) → AllSpared (method_ending o)
  ending_spared None = ((refl, tt), tt)
  ending_spared (Some ty) = ((refl, tt), ((refl, tt), tt))

  pub method_spared : (way : ReturnWay) (at : ℕ) (method : MethodTree) → AreCoveredStatements code numbers way method.body → Fine (body_deeds scope method.body)
      → AllSpared (code_of_body at (OfMethod numbers method))
  method_spared way at method covered fine =
      let exits = method_exits (method_end numbers at method) (is_some method.returns) in
      two (statements_code numbers at 0 exits method.body) (method_ending method.returns) (statements_spared way at 0 exits method.body covered fine) (ending_spared method.returns)
