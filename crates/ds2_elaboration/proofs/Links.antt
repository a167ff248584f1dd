-- Operators that break no rule become typed nodes.
use Rattle.std.proofs.Common.{◌≡◌, ℕ, ◌+◌, ◌≤◌, max, min, nat_le, Bool, true, false, not, ◌&&◌, ◌||◌, [], ◌++◌, if◌then◌else◌, refl, sym, ap, ◌∙◌, subst, arith}
use Rattle.std.proofs.lemmas.Bool.{and_parts, and_from, leb-true, le-leb}
use Rattle.ds2_base.specs.declared.place.Place.{Place}
use Rattle.ds2_token.specs.declared.token.Token.{Token}
use Rattle.ds2_tree.specs.declared.expressions.ChainKind.{ChainKind}
use Rattle.ds2_tree.specs.declared.expressions.ChainKind.TheVariants as chain
use Rattle.ds2_value.specs.Types.{in_bounds}
use Rattle.ds2_value.specs.declared.ty.Ty.{Ty}
use Rattle.ds2_value.specs.declared.ty.Ty.TheVariants.{BigInt, Decimal as DecimalOf, Char, Varchar}
use Rattle.ds2_meaning.specs.IsTyped.{NamesInScope, class_of, Decimals, type_scale, type_width, decimal_result, expression_type, IsLeftOperand, IsOperation, IsPrefix}
use Rattle.ds2_meaning.specs.TypedExpression.{TypedExpression}
use Rattle.ds2_meaning.specs.declared.expressions.Operation.{Operation}
use Rattle.ds2_meaning.specs.declared.expressions.Operation.TheVariants as operation
use Rattle.ds2_meaning.specs.declared.expressions.Prefix.TheVariants as prefix
use Rattle.ds2_meaning.specs.declared.refusals.TypeKind.TheVariants.{ScaleTooLarge}
use Rattle.ds2_elaboration.specs.ExpressionTypes.{is_truth_chain, link_refusals}
use Rattle.ds2_elaboration.specs.OperatorTypes.{is_plus, is_times, are_numeric_types, are_integer_types, scale_refusals, is_operand_type, pair_refusals, plain_link, decimal_link, product_link, quotient_link, concatenation_link, elaborated_link, elaborated_sign, elaborated_not}
use Rattle.ds2_elaboration.specs.TypedForms.{IsOfTyping, IsSoundlyElaborated, IsLeft, LinkFits}
use Rattle.ds2_elaboration.specs.Typings.{TypeRefusals, type_refusal_at, Typing, Known, NullAt, Unknown, ElaboratedExpression, where_both_known, operand_clash, is_numeric_type, is_characters, is_integer_type, widened_node}
use Rattle.ds2_elaboration.proofs.Outcome.{both_empty}
use Rattle.ds2_elaboration.proofs.Operands.{unclashed, numeric, integer, textual, Operand, operand, truth_operand, form_typed, wide}

pub sign_fits : (plus : Bool) (ty : Ty) → is_numeric_type ty ≡ true
    → IsPrefix (if plus then prefix.Plus else if is_integer_type ty then prefix.IntegerNegate else prefix.DecimalNegate) ty ty
sign_fits true ty h = (numeric ty h, refl)
sign_fits false BigInt h = (refl, refl)
sign_fits false (DecimalOf p s) h = (refl, refl)
sign_fits false (Char n) h = cc
sign_fits false (Varchar n) h = cc

module _ (names : NamesInScope) where
  pub sign_typed : (operator : Token) (x : ElaboratedExpression) → IsSoundlyElaborated names x → IsSoundlyElaborated names (elaborated_sign operator x)
  sign_typed operator x f =
      form_typed names (elaborated_sign operator x).refusals (elaborated_sign operator x).node (λ h.
      let o = operand names is_numeric_type operator.place x f h in
      ((o.typed, sign_fits (is_plus operator) (expression_type x.node) o.passes), o.bounds))

  pub not_typed : (place : Place) (x : ElaboratedExpression) → IsSoundlyElaborated names x → IsSoundlyElaborated names (elaborated_not place x)
  not_typed place x f h = let o = truth_operand names place x f h in ((o.typed, (numeric (expression_type x.node) o.passes, refl)), refl, refl)

  -- ---- operators between operands

  -- the left operand of an operation on decimals
  record LeftDecimal (ty : Ty) : Type 0 where
    l : Ty
    is_left : IsLeftOperand (is_integer_type ty) ty l
    decimal : class_of l ≡ Decimals
    scale : type_scale l ≡ type_scale ty

  left_decimal : (ty : Ty) → is_numeric_type ty ≡ true → LeftDecimal ty
  left_decimal BigInt h = record { l = DecimalOf 19 0; is_left = (refl, refl); decimal = refl; scale = refl }
  left_decimal (DecimalOf p s) h = record { l = DecimalOf p s; is_left = refl; decimal = refl; scale = refl }
  left_decimal (Char n) h = cc
  left_decimal (Varchar n) h = cc

  pub scale_at_most : (ty : Ty) → in_bounds ty ≡ true → type_scale ty ≤ 38
  scale_at_most BigInt h = omega arith
  scale_at_most (DecimalOf p s) h =
      let a = and_parts (nat_le 1 p && nat_le p 38) (nat_le s p) h in
      let b = and_parts (nat_le 1 p) (nat_le p 38) a.0 in
      omega (arith, leb-true s p a.1, leb-true p 38 b.1)
  scale_at_most (Char n) h = omega arith
  scale_at_most (Varchar n) h = omega arith

  pub result_in_bounds : (s : ℕ) → s ≤ 38 → in_bounds (decimal_result s) ≡ true
  result_in_bounds s h = le-leb s 38 h

  -- an operation on decimals whose scale is a function of those of its operands
  decimal_fits : (o : Operation) (scale : ℕ → ℕ → ℕ) (ty : Ty) (node : TypedExpression) → is_numeric_type ty ≡ true → Operand names is_numeric_type node
      → ((a b : Ty) → class_of a ≡ Decimals → class_of b ≡ Decimals → scale (type_scale a) (type_scale b) ≤ 38
      → IsOperation o a b (decimal_result (scale (type_scale a) (type_scale b))))
      → scale (type_scale ty) (type_scale (expression_type node)) ≤ 38
      → LinkFits names ty (decimal_link o ty node (scale (type_scale ty) (type_scale (expression_type node))))
  decimal_fits o scale ty node numbers x rule limit =
      let l = left_decimal ty numbers in
      let w = wide names node x in
      let same : scale (type_scale l.l) (type_scale (expression_type (widened_node node))) ≡ scale (type_scale ty) (type_scale (expression_type node)) =
      ap (λ k. scale k (type_scale (expression_type (widened_node node)))) l.scale ∙ ap (λ k. scale (type_scale ty) k) w.scale in
      record {
        operand = w.typed;
        left = (
          l.l,
          l.is_left,
          subst (λ k. IsOperation o l.l (expression_type (widened_node node)) (decimal_result k)) same
              (rule l.l (expression_type (widened_node node)) l.decimal w.decimal (subst (λ k. k ≤ 38) (sym same) limit)),
        );
        bounds = result_in_bounds (scale (type_scale ty) (type_scale (expression_type node))) limit;
      }

  pub greater_within : (a b : ℕ) → a ≤ 38 → b ≤ 38 → max a b ≤ 38
  greater_within a b g h = omega (arith, g, h)

  sum_if : (plus same : Bool) (ty : Ty) (node : TypedExpression) → are_integer_types ty (expression_type node) ≡ same → in_bounds ty ≡ true
      → is_numeric_type ty ≡ true → Operand names is_numeric_type node
      → LinkFits names ty (if same then plain_link (if plus then operation.IntegerAdd else operation.IntegerSubtract) node BigInt
      else decimal_link (if plus then operation.DecimalAdd else operation.DecimalSubtract) ty node (max (type_scale ty) (type_scale (expression_type node))))
  sum_if true true ty node e bounds numbers x =
      let p = and_parts (is_integer_type ty) (is_integer_type (expression_type node)) e in
      record { operand = x.typed; left = (ty, refl, (integer ty p.0, integer (expression_type node) p.1, refl)); bounds = refl }
  sum_if false true ty node e bounds numbers x =
      let p = and_parts (is_integer_type ty) (is_integer_type (expression_type node)) e in
      record { operand = x.typed; left = (ty, refl, (integer ty p.0, integer (expression_type node) p.1, refl)); bounds = refl }
  sum_if true false ty node e bounds numbers x =
      decimal_fits operation.DecimalAdd (λ a b. max a b) ty node numbers x (λ a b g h k. (g, h, refl))
      (greater_within (type_scale ty) (type_scale (expression_type node)) (scale_at_most ty bounds) (scale_at_most (expression_type node) x.bounds))
  sum_if false false ty node e bounds numbers x =
      decimal_fits operation.DecimalSubtract (λ a b. max a b) ty node numbers x (λ a b g h k. (g, h, refl))
      (greater_within (type_scale ty) (type_scale (expression_type node)) (scale_at_most ty bounds) (scale_at_most (expression_type node) x.bounds))

  quotient_fits : (ty : Ty) (node : TypedExpression) → in_bounds ty ≡ true → is_numeric_type ty ≡ true → Operand names is_numeric_type node → LinkFits names ty (quotient_link ty node)
  quotient_fits ty node bounds numbers x =
      decimal_fits operation.DecimalDivide (λ a b. max 6 (max a b)) ty node numbers x (λ a b g h k. (g, h, refl))
      (greater_within 6 (max (type_scale ty) (type_scale (expression_type node))) (omega arith)
      (greater_within (type_scale ty) (type_scale (expression_type node)) (scale_at_most ty bounds) (scale_at_most (expression_type node) x.bounds)))

  product_if : (same : Bool) (ty : Ty) (node : TypedExpression) → are_integer_types ty (expression_type node) ≡ same
      → (same ≡ false → type_scale ty + type_scale (expression_type node) ≤ 38)
      → is_numeric_type ty ≡ true → Operand names is_numeric_type node
      → LinkFits names ty (if same then plain_link operation.IntegerMultiply node BigInt
      else decimal_link operation.DecimalMultiply ty node (type_scale ty + type_scale (expression_type node)))
  product_if true ty node e limit numbers x =
      let p = and_parts (is_integer_type ty) (is_integer_type (expression_type node)) e in
      record { operand = x.typed; left = (ty, refl, (integer ty p.0, integer (expression_type node) p.1, refl)); bounds = refl }
  product_if false ty node e limit numbers x =
      decimal_fits operation.DecimalMultiply (λ a b. a + b) ty node numbers x (λ a b g h k. ((g, h, refl), k)) (limit refl)

  pub width_from_one : (ty : Ty) → is_characters ty ≡ true → in_bounds ty ≡ true → 1 ≤ type_width ty
  width_from_one BigInt c h = cc
  width_from_one (DecimalOf p s) c h = cc
  width_from_one (Char n) c h = leb-true 1 n (and_parts (nat_le 1 n) (nat_le n 1024) h).0
  width_from_one (Varchar n) c h = leb-true 1 n (and_parts (nat_le 1 n) (nat_le n 1024) h).0

  concatenation_fits : (ty : Ty) (node : TypedExpression) → in_bounds ty ≡ true → is_characters ty ≡ true → Operand names is_characters node → LinkFits names ty (concatenation_link ty node)
  concatenation_fits ty node bounds text x =
      let width = min 1024 (type_width ty + type_width (expression_type node)) in
      record {
        operand = x.typed;
        left = (ty, refl, (textual ty text, textual (expression_type node) x.passes, refl));
        bounds = and_from (nat_le 1 width) (nat_le width 1024)
            (le-leb 1 width (omega (arith, width_from_one ty text bounds))) (le-leb width 1024 (omega arith));
      }

  scale_limit : (times same le : Bool) → (not times || same || le) ≡ true → times ≡ true → same ≡ false → le ≡ true
  scale_limit true true le h t s = cc
  scale_limit true false le h t s = h
  scale_limit false same le h t s = cc

  no_scale_refusal : (b : Bool) (place : Place) → (if b then [] else type_refusal_at ScaleTooLarge place) ≡ [] → b ≡ true
  no_scale_refusal true place h = refl
  no_scale_refusal false place h = cc

  of_numbers : (b : Bool) (rest : TypeRefusals) → b ≡ true → (if b then rest else []) ≡ [] → rest ≡ []
  of_numbers true rest e h = h
  of_numbers false rest e h = cc

  product_or_quotient : (times : Bool) (operator : Token) (ty : Ty) (node : TypedExpression) → is_times operator ≡ times → in_bounds ty ≡ true
      → is_numeric_type ty ≡ true → Operand names is_numeric_type node → scale_refusals operator ty (expression_type node) ≡ []
      → LinkFits names ty (if times then product_link ty node else quotient_link ty node)
  product_or_quotient true operator ty node e bounds numbers x h =
      let same = are_integer_types ty (expression_type node) in
      let least = nat_le (type_scale ty + type_scale (expression_type node)) 38 in
      let holds = no_scale_refusal (not (is_times operator) || same || least) operator.place h in
      product_if same ty node refl
      (λ different. leb-true (type_scale ty + type_scale (expression_type node)) 38 (scale_limit (is_times operator) same least holds e different))
      numbers x
  product_or_quotient false operator ty node e bounds numbers x h = quotient_fits ty node bounds numbers x

  link_fits : (kind : ChainKind) → is_truth_chain kind ≡ false → (operator : Token) (ty : Ty) (node : TypedExpression) → in_bounds ty ≡ true
      → is_operand_type kind ty ≡ true → Operand names (is_operand_type kind) node
      → pair_refusals kind operator ty (expression_type node) ≡ [] → LinkFits names ty (elaborated_link kind operator ty node)
  link_fits chain.Sum k operator ty node bounds left x h =
      sum_if (is_plus operator) (are_integer_types ty (expression_type node)) ty node refl bounds left (record { typed = x.typed; bounds = x.bounds; passes = x.passes })
  link_fits chain.Product k operator ty node bounds left x h =
      let numbers = and_from (is_numeric_type ty) (is_numeric_type (expression_type node)) left x.passes in
      product_or_quotient (is_times operator) operator ty node refl bounds left (record { typed = x.typed; bounds = x.bounds; passes = x.passes })
      (of_numbers (are_numeric_types ty (expression_type node)) (scale_refusals operator ty (expression_type node)) numbers h)
  link_fits chain.Concatenation k operator ty node bounds left x h =
      concatenation_fits ty node bounds left (record { typed = x.typed; bounds = x.bounds; passes = x.passes })
  link_fits chain.And k operator ty node bounds left x h = cc
  link_fits chain.Or k operator ty node bounds left x h = cc

  known_link : (kind : ChainKind) → is_truth_chain kind ≡ false → (operator : Token) (left : Typing) (ty : Ty) (typing : Typing) (node : TypedExpression)
      → IsLeft left ty → IsOfTyping names typing node → operand_clash (is_operand_type kind) operator.place left ≡ []
      → operand_clash (is_operand_type kind) operator.place typing ≡ [] → where_both_known left typing (pair_refusals kind operator) ≡ []
      → LinkFits names ty (elaborated_link kind operator ty node)
  known_link kind k operator (Known t) ty (Known u) node l x a b h =
      link_fits kind k operator ty node l.1
      (ap (is_operand_type kind) l.0 ∙ unclashed (is_operand_type kind t) operator.place a)
      (record { typed = x.0; bounds = x.2; passes = ap (is_operand_type kind) x.1 ∙ unclashed (is_operand_type kind u) operator.place b })
      (ap (λ v. pair_refusals kind operator v (expression_type node)) l.0 ∙ ap (λ v. pair_refusals kind operator t v) x.1 ∙ h)
  known_link kind k operator (Known t) ty (NullAt place) node l x a b h = cc
  known_link kind k operator (Known t) ty Unknown node l x a b h = absurd x
  known_link kind k operator (NullAt place) ty typing node l x a b h = cc
  known_link kind k operator Unknown ty typing node l x a b h = absurd l

  -- a further operand of a chain that breaks no rule
  pub next_link : (kind : ChainKind) → is_truth_chain kind ≡ false → (operator : Token) (left : Typing) (ty : Ty) (x : ElaboratedExpression)
      → IsLeft left ty → IsSoundlyElaborated names x → link_refusals kind operator left x ≡ [] → LinkFits names ty (elaborated_link kind operator ty x.node)
  next_link kind k operator left ty x l f h =
      let before = operand_clash (is_operand_type kind) operator.place left in
      let behind = operand_clash (is_operand_type kind) operator.place x.typing in
      let p = both_empty (x.refusals ++ before ++ behind) (where_both_known left x.typing (pair_refusals kind operator)) h in
      let q = both_empty (x.refusals ++ before) behind p.0 in
      let r = both_empty x.refusals before q.0 in
      known_link kind k operator left ty x.typing x.node l (f r.0) r.1 q.1 p.1
