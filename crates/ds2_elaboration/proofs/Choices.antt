-- Functions of several values, and functions by their names, become typed nodes where their arguments break no rule.
use Rattle.std.proofs.Common.{◌≡◌, ℕ, suc, ◌≤◌, max, nat_le, Bool, true, false, not, ◌&&◌, ◌||◌, List, [], ◌∷◌, ◌++◌, length, map, fold, if◌then◌else◌, Option, Some, refl, sym, ap, ◌∙◌, subst, arith}
use Rattle.std.specs.List.{list_all, AllByRecursion}
use Rattle.std.proofs.lemmas.Bool.{and_parts, and_from, leb-true, le-leb}
use Rattle.ds2_base.specs.declared.place.Place.{Place}
use Rattle.ds2_token.specs.declared.token.Token.{Token}
use Rattle.ds2_value.specs.Types.{in_bounds}
use Rattle.ds2_value.specs.declared.ty.Ty.{Ty}
use Rattle.ds2_value.specs.declared.ty.Ty.TheVariants.{BigInt, Decimal as DecimalOf, Char, Varchar}
use Rattle.ds2_meaning.specs.IsTyped.{NamesInScope, type_scale, type_width, decimal_result, expression_type, expression_types, AllOfType, IsManyFrom, IsTypedExpression, AreTypedExpressions, IsApplication}
use Rattle.ds2_meaning.specs.TypedExpression.{TypedExpression, TypedExpressions}
use Rattle.ds2_meaning.specs.declared.expressions.Function.{Function}
use Rattle.ds2_meaning.specs.declared.expressions.Function.TheVariants as function
use Rattle.ds2_names.proofs.FunctionRows.{of_function_named}
use Rattle.ds2_names.specs.Functions.{null_test, functions, takes_so_many}
use Rattle.ds2_names.specs.declared.functions.FunctionOfMany.TheVariants as many
use Rattle.ds2_names.specs.declared.functions.ByType.{ByType}
use Rattle.ds2_names.specs.declared.functions.FunctionRow.{FunctionRow}
use Rattle.ds2_names.specs.declared.functions.NamedFunction.{NamedFunction}
use Rattle.ds2_names.specs.declared.functions.NamedFunction.TheVariants as named
use Rattle.ds2_names.specs.NameRules.{from_each}
use Rattle.ds2_names.specs.SourceUnit.{spelled_name}
use Rattle.ds2_elaboration.specs.FunctionTypes.{ElaboratedArgument, nodes_in_order, refusals_in, argument_refusals, known_types, is_null_argument, common_type, common_node, elaborated_coalesce, elaborated_extreme, elaborated_substring, form_of_function, form_of_row, elaborated_function, elaborated_null_call}
use Rattle.ds2_elaboration.specs.TypedForms.{IsOfTyping, IsSoundlyElaborated, IsSoundArgument, IsInType, EveryFormIsTyped}
use Rattle.ds2_elaboration.specs.Typings.{TypeRefusals, clash_unless, Typing, Known, NullAt, Unknown, ElaboratedExpression, elaborated_nameless, is_numeric_type, is_characters, is_integer_type, is_assigned_from, where_known, operand_clash, assigned_node}
use Rattle.ds2_elaboration.proofs.Comparisons.{comparison_typed}
use Rattle.ds2_elaboration.proofs.Functions.{part_from_taken, part_taken, is_right, one_typed, remainder_typed, width_bounds}
use Rattle.ds2_elaboration.proofs.Links.{scale_at_most, result_in_bounds, greater_within, width_from_one, sign_typed, not_typed, next_link}
use Rattle.ds2_elaboration.proofs.Operands.{unclashed, numeric, integer, operand, form_typed, assigned_as, assigned_typed}
use Rattle.ds2_elaboration.proofs.Outcome.{both_empty}

-- ---- rows of functions

-- what a function takes, and how many arguments, let it be typed
abbrev is_right_row : NamedFunction → ℕ × ℕ → Bool
is_right_row (named.OfOne f) counts = is_right f
is_right_row (named.OfMany many.Coalesce) counts = nat_le 1 counts.0 && nat_le counts.1 16
is_right_row (named.OfMany many.Greatest) counts = nat_le 2 counts.0 && nat_le counts.1 16
is_right_row (named.OfMany many.Least) counts = nat_le 2 counts.0 && nat_le counts.1 16
is_right_row named.Remainder counts = true
is_right_row named.Substring counts = nat_le 2 counts.0 && nat_le counts.1 3

-- so many arguments are within these numbers
within : (n : ℕ) (counts : ℕ × ℕ) (least most : ℕ) → (nat_le least counts.0 && nat_le counts.1 most) ≡ true → counts.0 ≤ n → n ≤ counts.1 → (least ≤ n) × (n ≤ most)
within n counts least most h some few =
    let p = and_parts (nat_le least counts.0) (nat_le counts.1 most) h in
    (omega (arith, leb-true least counts.0 p.0, some), omega (arith, leb-true counts.1 most p.1, few))

-- ---- the common type

module _ (names : NamesInScope) where
  -- the greatest scale of types, and their greatest width
  abbrev greatest_scale : ℕ → List Ty → ℕ
  greatest_scale least types = fold (λ (s : ℕ) (ty : Ty). max s (type_scale ty)) least types

  abbrev greatest_width : ℕ → List Ty → ℕ
  greatest_width least types = fold (λ (n : ℕ) (ty : Ty). max n (type_width ty)) least types

  scale_within : (types : List Ty) (least : ℕ) → least ≤ 38 → list_all in_bounds types ≡ true → greatest_scale least types ≤ 38
  scale_within [] least l h = l
  scale_within (t ∷ ts) least l h =
      let p = and_parts (in_bounds t) (list_all in_bounds ts) h in
      scale_within ts (max least (type_scale t)) (greater_within names least (type_scale t) l (scale_at_most names t p.0)) p.1

  width_at_most : (ty : Ty) → in_bounds ty ≡ true → type_width ty ≤ 1024
  width_at_most BigInt h = omega arith
  width_at_most (DecimalOf p s) h = omega arith
  width_at_most (Char n) h = leb-true n 1024 (and_parts (nat_le 1 n) (nat_le n 1024) h).1
  width_at_most (Varchar n) h = leb-true n 1024 (and_parts (nat_le 1 n) (nat_le n 1024) h).1

  width_within : (types : List Ty) (least : ℕ) → least ≤ 1024 → list_all in_bounds types ≡ true → greatest_width least types ≤ 1024
  width_within [] least l h = l
  width_within (t ∷ ts) least l h =
      let p = and_parts (in_bounds t) (list_all in_bounds ts) h in
      let w = width_at_most t p.0 in width_within ts (max least (type_width t)) (omega (arith, l, w)) p.1

  width_kept : (types : List Ty) (least : ℕ) → 1 ≤ least → 1 ≤ greatest_width least types
  width_kept [] least l = l
  width_kept (t ∷ ts) least l = width_kept ts (max least (type_width t)) (omega (arith, l))

  text_bounds : (types : List Ty) → list_all is_integer_type types ≡ false → list_all is_characters types ≡ true → list_all in_bounds types ≡ true
      → in_bounds (Varchar (greatest_width 0 types)) ≡ true
  text_bounds [] i c h = cc
  text_bounds (t ∷ ts) i c h =
      let width = greatest_width 0 (t ∷ ts) in
      let p = and_parts (is_characters t) (list_all is_characters ts) c in
      let q = and_parts (in_bounds t) (list_all in_bounds ts) h in
      let some : 1 ≤ max 0 (type_width t) = omega (arith, width_from_one names t p.0 q.0) in
      and_from (nat_le 1 width) (nat_le width 1024) (le-leb 1 width (width_kept ts (max 0 (type_width t)) some))
      (le-leb width 1024 (width_within (t ∷ ts) 0 (omega arith) h))

  -- the common type of types of which all are BIGINT or not, and all are numbers or not
  abbrev common_if : Bool → Bool → List Ty → Ty
  common_if integers numbers types =
      if integers then BigInt else if numbers then decimal_result (greatest_scale 0 types) else Varchar (greatest_width 0 types)

  bounds_if : (a b : Bool) (types : List Ty) → list_all is_integer_type types ≡ a → list_all is_numeric_type types ≡ b → (b || list_all is_characters types) ≡ true
      → list_all in_bounds types ≡ true → in_bounds (common_if a b types) ≡ true
  bounds_if true b types i n k h = refl
  bounds_if false true types i n k h = result_in_bounds names (greatest_scale 0 types) (scale_within types 0 (omega arith) h)
  bounds_if false false types i n k h = text_bounds types i k h

  takes_if : (a b : Bool) (types : List Ty) → list_all is_integer_type types ≡ a → list_all is_numeric_type types ≡ b → (b || list_all is_characters types) ≡ true
      → list_all (is_assigned_from (common_if a b types)) types ≡ true
  takes_if true b types i n k = i
  takes_if false true types i n k = n
  takes_if false false types i n k = k

  common_bounds : (types : List Ty) → (list_all is_numeric_type types || list_all is_characters types) ≡ true → list_all in_bounds types ≡ true
      → in_bounds (common_type types) ≡ true
  common_bounds types = bounds_if (list_all is_integer_type types) (list_all is_numeric_type types) types refl refl

  common_takes : (types : List Ty) → (list_all is_numeric_type types || list_all is_characters types) ≡ true
      → list_all (is_assigned_from (common_type types)) types ≡ true
  common_takes types = takes_if (list_all is_integer_type types) (list_all is_numeric_type types) types refl refl

  numeric_if : (a b : Bool) (types : List Ty) → b ≡ true → is_numeric_type (common_if a b types) ≡ true
  numeric_if true b types n = refl
  numeric_if false true types n = refl
  numeric_if false false types n = cc

  -- ---- arguments in one type

  -- an argument of which this much is known
  abbrev argument_of : Place → Typing → TypeRefusals → TypedExpression → ElaboratedArgument
  argument_of place typing refusals node = record { place = place; value = record { typing = typing; refusals = refusals; node = node } }

  -- an argument is typed, of the type that is known of it
  abbrev IsKnownArgument : ElaboratedArgument → Type 0
  IsKnownArgument x = IsOfTyping names x.value.typing x.value.node

  -- an argument may be assigned to a type, else TypeClash at a place
  abbrev IsTaken : Ty → Place → Typing → Type 0
  IsTaken ty place typing = where_known typing (λ (from : Ty). clash_unless (is_assigned_from ty from) place) ≡ []

  taken_first : (ty : Ty) (place at : Place) (typing : Typing) (r : TypeRefusals) (node : TypedExpression) (xs : List ElaboratedArgument)
      → list_all (is_assigned_from ty) (known_types (argument_of at typing r node ∷ xs)) ≡ true
      → IsTaken ty place typing × (list_all (is_assigned_from ty) (known_types xs) ≡ true)
  taken_first ty place at (Known from) r node xs h =
      let p = and_parts (is_assigned_from ty from) (list_all (is_assigned_from ty) (known_types xs)) h in (ap (λ b. clash_unless b place) p.0, p.1)
  taken_first ty place at (NullAt word) r node xs h = (refl, h)
  taken_first ty place at Unknown r node xs h = (refl, h)

  all_taken : (ty : Ty) (place : Place) (xs : List ElaboratedArgument) → list_all (is_assigned_from ty) (known_types xs) ≡ true
      → AllByRecursion (λ (x : ElaboratedArgument). IsTaken ty place x.value.typing) xs
  all_taken ty place [] h = tt
  all_taken ty place (x ∷ xs) h =
      let p = taken_first ty place x.place x.value.typing x.value.refusals x.value.node xs h in (p.0, all_taken ty place xs p.1)

  bounds_first : (at : Place) (typing : Typing) (r : TypeRefusals) (node : TypedExpression) (xs : List ElaboratedArgument) → IsOfTyping names typing node
      → list_all in_bounds (known_types xs) ≡ true → list_all in_bounds (known_types (argument_of at typing r node ∷ xs)) ≡ true
  bounds_first at (Known from) r node xs k h = and_from (in_bounds from) (list_all in_bounds (known_types xs)) (sym (ap in_bounds k.1) ∙ k.2) h
  bounds_first at (NullAt word) r node xs k h = h
  bounds_first at Unknown r node xs k h = absurd k

  known_bounds : (xs : List ElaboratedArgument) → AllByRecursion IsKnownArgument xs → list_all in_bounds (known_types xs) ≡ true
  known_bounds [] k = refl
  known_bounds (x ∷ xs) k = bounds_first x.place x.value.typing x.value.refusals x.value.node xs k.0 (known_bounds xs k.1)

  -- typed expressions in one type, and how many they are
  record InOneType (ty : Ty) (count : ℕ) (nodes : TypedExpressions) : Type 0 where
    typed : AreTypedExpressions names nodes
    types : AllOfType ty (expression_types nodes)
    counted : length (expression_types nodes) ≡ count

  one_more : (ty : Ty) (count : ℕ) (node : TypedExpression) (nodes : List TypedExpression) → IsInType names ty node → InOneType ty count (nodes_in_order nodes)
      → InOneType ty (suc count) (nodes_in_order (node ∷ nodes))
  one_more ty count node nodes h more = record { typed = (h.typed, more.typed); types = (h.exact, more.types); counted = ap suc more.counted }

  in_one_type : (ty : Ty) (place : Place) (xs : List ElaboratedArgument) → in_bounds ty ≡ true → AllByRecursion IsKnownArgument xs
      → AllByRecursion (λ (x : ElaboratedArgument). IsTaken ty place x.value.typing) xs
      → InOneType ty (length xs) (nodes_in_order (map (λ (x : ElaboratedArgument). assigned_node ty x.value) xs))
  in_one_type ty place [] bounds k t = record { typed = tt; types = tt; counted = refl }
  in_one_type ty place (x ∷ xs) bounds k t =
      one_more ty (length xs) (assigned_node ty x.value) (map (λ (y : ElaboratedArgument). assigned_node ty y.value) xs)
      (assigned_as names ty place x.value x.value.typing refl k.0 bounds t.0) (in_one_type ty place xs bounds k.1 t.1)

  -- values in their common type
  together : (place : Place) (xs : List ElaboratedArgument) → AllByRecursion IsKnownArgument xs
      → (list_all is_numeric_type (known_types xs) || list_all is_characters (known_types xs)) ≡ true
      → InOneType (common_type (known_types xs)) (length xs) (nodes_in_order (map (λ (x : ElaboratedArgument). assigned_node (common_type (known_types xs)) x.value) xs))
      × (in_bounds (common_type (known_types xs)) ≡ true)
  together place xs k h =
      let types = known_types xs in
      let bounds = common_bounds types h (known_bounds xs k) in
      (in_one_type (common_type types) place xs bounds k (all_taken (common_type types) place xs (common_takes types h)), bounds)

  -- ---- coalesce, min and max

  all_known : (xs : List ElaboratedArgument) → AllByRecursion (IsSoundArgument names) xs → refusals_in xs ≡ [] → AllByRecursion IsKnownArgument xs
  all_known [] f h = tt
  all_known (x ∷ xs) f h = let p = both_empty x.value.refusals (refusals_in xs) h in (f.0 p.0, all_known xs f.1 p.1)

  pub coalesce_typed : (name : Place) (xs : List ElaboratedArgument) → 1 ≤ length xs → length xs ≤ 16 → AllByRecursion (IsSoundArgument names) xs
      → IsSoundlyElaborated names (elaborated_coalesce name xs)
  coalesce_typed name xs least most f =
      form_typed names (elaborated_coalesce name xs).refusals (common_node function.Coalesce xs) (λ h.
      let one_kind = list_all is_numeric_type (known_types xs) || list_all is_characters (known_types xs) in
      let p = both_empty (refusals_in xs ++ clash_unless (not (list_all is_null_argument xs)) name) (clash_unless one_kind name) h in
      let q = both_empty (refusals_in xs) (clash_unless (not (list_all is_null_argument xs)) name) p.0 in
      let t = together name xs (all_known xs f q.0) (unclashed one_kind name p.1) in
      ((t.0.typed, ((subst (λ n. 1 ≤ n) (sym t.0.counted) least, subst (λ n. n ≤ 16) (sym t.0.counted) most), t.0.types)), t.1))

  numeric_first : (name at : Place) (typing : Typing) (r : TypeRefusals) (node : TypedExpression) (xs : List ElaboratedArgument) → IsOfTyping names typing node
      → operand_clash is_numeric_type name typing ≡ [] → list_all is_numeric_type (known_types xs) ≡ true
      → list_all is_numeric_type (known_types (argument_of at typing r node ∷ xs)) ≡ true
  numeric_first name at (Known from) r node xs k c h =
      and_from (is_numeric_type from) (list_all is_numeric_type (known_types xs)) (unclashed (is_numeric_type from) name c) h
  numeric_first name at (NullAt word) r node xs k c h = h
  numeric_first name at Unknown r node xs k c h = absurd k

  -- the arguments of `min` and `max` are known, and numbers
  numbers_known : (name : Place) (xs : List ElaboratedArgument) → AllByRecursion (IsSoundArgument names) xs → from_each (argument_refusals is_numeric_type name) xs ≡ []
      → AllByRecursion IsKnownArgument xs × (list_all is_numeric_type (known_types xs) ≡ true)
  numbers_known name [] f h = (tt, refl)
  numbers_known name (x ∷ xs) f h =
      let p = both_empty (argument_refusals is_numeric_type name x) (from_each (argument_refusals is_numeric_type name) xs) h in
      let q = both_empty x.value.refusals (operand_clash is_numeric_type name x.value.typing) p.0 in
      let rest = numbers_known name xs f.1 p.1 in
      ((f.0 q.0, rest.0), numeric_first name x.place x.value.typing x.value.refusals x.value.node xs (f.0 q.0) q.1 rest.1)

  -- `min` and `max` of so many numbers
  extreme_from : (g : Function) → ((types : List Ty) (result : Ty) → IsManyFrom 2 types → is_numeric_type result ≡ true → AllOfType result types → IsApplication g types result)
      → (name : Place) (xs : List ElaboratedArgument) → 2 ≤ length xs → length xs ≤ 16 → AllByRecursion (IsSoundArgument names) xs
      → IsSoundlyElaborated names (elaborated_extreme g name xs)
  extreme_from g rule name xs least most f =
      form_typed names (elaborated_extreme g name xs).refusals (common_node g xs) (λ h.
      let k = numbers_known name xs f h in
      let types = known_types xs in
      let t = together name xs k.0 (ap (λ b. b || list_all is_characters types) k.1) in
      let n = numeric_if (list_all is_integer_type types) (list_all is_numeric_type types) types k.1 in
      let ty = common_type types in
      let nodes = nodes_in_order (map (λ (x : ElaboratedArgument). assigned_node ty x.value) xs) in
      ((t.0.typed, rule (expression_types nodes) ty (subst (λ m. 2 ≤ m) (sym t.0.counted) least, subst (λ m. m ≤ 16) (sym t.0.counted) most) n t.0.types), t.1))

  pub least_typed : (name : Place) (xs : List ElaboratedArgument) → 2 ≤ length xs → length xs ≤ 16 → AllByRecursion (IsSoundArgument names) xs
      → IsSoundlyElaborated names (elaborated_extreme function.Least name xs)
  least_typed = extreme_from function.Least (λ types result m n a. (m, numeric result n, a))

  pub greatest_typed : (name : Place) (xs : List ElaboratedArgument) → 2 ≤ length xs → length xs ≤ 16 → AllByRecursion (IsSoundArgument names) xs
      → IsSoundlyElaborated names (elaborated_extreme function.Greatest name xs)
  greatest_typed = extreme_from function.Greatest (λ types result m n a. (m, numeric result n, a))

  -- ---- null(x) and substr

  pub nameless_typed : (place : Place) → IsSoundlyElaborated names (elaborated_nameless place)
  nameless_typed place h = cc

  -- an expression is typed, whatever is known of its type
  pub any_of_typing : (typing : Typing) (node : TypedExpression) → IsOfTyping names typing node → IsTypedExpression names node
  any_of_typing (Known ty) node h = h.0
  any_of_typing (NullAt place) node h = subst (IsTypedExpression names) (sym h) (refl, refl)
  any_of_typing Unknown node h = absurd h

  substring_of_two : (name : Place) (x n : ElaboratedArgument) → IsSoundArgument names x → IsSoundArgument names n
      → IsSoundlyElaborated names (elaborated_substring name x (n ∷ []))
  substring_of_two name x n f g =
      form_typed names (elaborated_substring name x (n ∷ [])).refusals (elaborated_substring name x (n ∷ [])).node (λ h.
      let p = both_empty (argument_refusals is_characters name x) (from_each (argument_refusals is_integer_type name) (n ∷ [])) h in
      let q = both_empty (argument_refusals is_integer_type name n) [] p.1 in
      let o = operand names is_characters name x.value f p.0 in
      let i = operand names is_integer_type name n.value g q.0 in (
        ((o.typed, (i.typed, tt)), part_from_taken (expression_type x.value.node) (expression_type n.value.node) o.passes (integer (expression_type n.value.node) i.passes)),
        width_bounds names (expression_type x.value.node) o.passes o.bounds,
      ))

  substring_of_three : (name : Place) (x n m : ElaboratedArgument) → IsSoundArgument names x → IsSoundArgument names n → IsSoundArgument names m
      → IsSoundlyElaborated names (elaborated_substring name x (n ∷ (m ∷ [])))
  substring_of_three name x n m f g k =
      form_typed names (elaborated_substring name x (n ∷ (m ∷ []))).refusals (elaborated_substring name x (n ∷ (m ∷ []))).node (λ h.
      let p = both_empty (argument_refusals is_characters name x) (from_each (argument_refusals is_integer_type name) (n ∷ (m ∷ []))) h in
      let q = both_empty (argument_refusals is_integer_type name n) (from_each (argument_refusals is_integer_type name) (m ∷ [])) p.1 in
      let r = both_empty (argument_refusals is_integer_type name m) [] q.1 in
      let o = operand names is_characters name x.value f p.0 in
      let i = operand names is_integer_type name n.value g q.0 in
      let j = operand names is_integer_type name m.value k r.0 in (
        (
          (o.typed, (i.typed, (j.typed, tt))),
          part_taken (expression_type x.value.node) (expression_type n.value.node) (expression_type m.value.node) o.passes (integer (expression_type n.value.node) i.passes)
              (integer (expression_type m.value.node) j.passes),
        ),
        width_bounds names (expression_type x.value.node) o.passes o.bounds,
      ))

  -- ---- functions by their names

  -- one of two forms
  pub either : (b : Bool) (x y : ElaboratedExpression) → IsSoundlyElaborated names x → IsSoundlyElaborated names y → IsSoundlyElaborated names (if b then x else y)
  either true x y f g = f
  either false x y f g = g

  of_one_typed : (f : ByType) → is_right f ≡ true → (name : Place) (xs : List ElaboratedArgument) → AllByRecursion (IsSoundArgument names) xs
      → IsSoundlyElaborated names (form_of_function (named.OfOne f) name xs)
  of_one_typed f right name [] h = nameless_typed name
  of_one_typed f right name (x ∷ []) h = one_typed names f right name x h.0
  of_one_typed f right name (x ∷ (y ∷ more)) h = nameless_typed name

  pub null_call_typed : (word : Place) (xs : List ElaboratedArgument) → AllByRecursion (IsSoundArgument names) xs → IsSoundlyElaborated names (elaborated_null_call word xs)
  null_call_typed word xs h = of_one_typed null_test refl word xs h

  remainder_of : (name : Place) (xs : List ElaboratedArgument) → AllByRecursion (IsSoundArgument names) xs → IsSoundlyElaborated names (form_of_function named.Remainder name xs)
  remainder_of name [] h = nameless_typed name
  remainder_of name (x ∷ []) h = nameless_typed name
  remainder_of name (x ∷ (y ∷ [])) h = remainder_typed names name x y h.0 h.1.0
  remainder_of name (x ∷ (y ∷ (z ∷ more))) h = nameless_typed name

  substring_of : (name : Place) (xs : List ElaboratedArgument) → 2 ≤ length xs → length xs ≤ 3 → AllByRecursion (IsSoundArgument names) xs
      → IsSoundlyElaborated names (form_of_function named.Substring name xs)
  substring_of name [] least most h = nameless_typed name
  substring_of name (x ∷ []) least most h = absurd (omega (arith, least))
  substring_of name (x ∷ (y ∷ [])) least most h = substring_of_two name x y h.0 h.1.0
  substring_of name (x ∷ (y ∷ (z ∷ []))) least most h = substring_of_three name x y z h.0 h.1.0 h.1.1.0
  substring_of name (x ∷ (y ∷ (z ∷ (w ∷ more)))) least most h = absurd (omega (arith, most))

  taken_if : (b : Bool) (name : Place) (form : ElaboratedExpression) → (b ≡ true → IsSoundlyElaborated names form)
      → IsSoundlyElaborated names (if b then form else elaborated_nameless name)
  taken_if true name form f = f refl
  taken_if false name form f = nameless_typed name

  module _ (name : Place) (xs : List ElaboratedArgument) (sound : AllByRecursion (IsSoundArgument names) xs) where
    by_function : (f : NamedFunction) (counts : ℕ × ℕ) → is_right_row f counts ≡ true → counts.0 ≤ length xs → length xs ≤ counts.1 → IsSoundlyElaborated names (form_of_function f name xs)
    by_function (named.OfOne f) counts h some few = of_one_typed f h name xs sound
    by_function (named.OfMany many.Coalesce) counts h some few = let n = within (length xs) counts 1 16 h some few in coalesce_typed name xs n.0 n.1 sound
    by_function (named.OfMany many.Greatest) counts h some few = let n = within (length xs) counts 2 16 h some few in greatest_typed name xs n.0 n.1 sound
    by_function (named.OfMany many.Least) counts h some few = let n = within (length xs) counts 2 16 h some few in least_typed name xs n.0 n.1 sound
    by_function named.Remainder counts h some few = remainder_of name xs sound
    by_function named.Substring counts h some few = let n = within (length xs) counts 2 3 h some few in substring_of name xs n.0 n.1 sound

    row_typed : (row : FunctionRow) → is_right_row row.function row.counts ≡ true → IsSoundlyElaborated names (form_of_row (Some row) name xs)
    row_typed row right =
        taken_if (takes_so_many row.counts (length xs)) name (form_of_function row.function name xs) (λ e.
        let p = and_parts (nat_le row.counts.0 (length xs)) (nat_le (length xs) row.counts.1) e in
        by_function row.function row.counts right (leb-true row.counts.0 (length xs) p.0) (leb-true (length xs) row.counts.1 p.1))

    rows_typed : (rows : List (List ℕ × FunctionRow)) → list_all (λ (row : List ℕ × FunctionRow). is_right_row row.1.function row.1.counts) rows ≡ true
        → AllByRecursion (λ (row : List ℕ × FunctionRow). IsSoundlyElaborated names (form_of_row (Some row.1) name xs)) rows
    rows_typed [] h = tt
    rows_typed (row ∷ rows) h =
        let p = and_parts (is_right_row row.1.function row.1.counts) (list_all (λ (r : List ℕ × FunctionRow). is_right_row r.1.function r.1.counts) rows) h in
        (row_typed row.1 p.0, rows_typed rows p.1)

  pub function_typed : (t : Token) (xs : List ElaboratedArgument) → AllByRecursion (IsSoundArgument names) xs → IsSoundlyElaborated names (elaborated_function t xs)
  function_typed t xs sound =
      of_function_named (λ (o : Option FunctionRow). IsSoundlyElaborated names (form_of_row o t.place xs)) (nameless_typed t.place) (spelled_name t)
      (rows_typed t.place xs sound functions refl)

pub every_form_is_typed : EveryFormIsTyped
every_form_is_typed names = record {
  assigned = assigned_typed names;
  sign = sign_typed names;
  negation = not_typed names;
  link = next_link names;
  comparison = comparison_typed names;
  functions = function_typed names;
}
