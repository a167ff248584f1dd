-- Constants become typed nodes.
use Rattle.std.proofs.Common.{◌≡◌, ℕ, suc, ◌+◌, ◌^◌, ◌%◌, ◌<◌, ◌≤◌, max, nat_le, nat_lt, Bool, true, false, ◌&&◌, ◌==◌, pos, List, [], ◌∷◌, ◌++◌, length, if◌then◌else◌, Some, None, option_and_then, decimal, refl, sym, subst, arith, length-append, lit≤, lt_of_lt_of_le}
use Rattle.std.proofs.Math.Nat.{pow-le-pow_right}
use Rattle.std.specs.Str.{is_utf8}
use Rattle.std.proofs.lemmas.Bool.{and_parts, and_from, ltb-true, leb-true, le-leb, lt-ltb, eq-eqb}
use Rattle.std.proofs.lemmas.Fmt.{decimal_by_steps_wide, length-decimal-le_wide}
use Rattle.ds2_base.specs.Characters.{char_count}
use Rattle.ds2_decimal.specs.Decimal.{is_within}
use Rattle.ds2_decimal.specs.declared.dec.TheConstants.{MOST_DIGITS}
use Rattle.ds2_token.specs.Limits.{text_content, units_of, scale_of}
use Rattle.ds2_token.specs.Words.{is_integer, is_decimal}
use Rattle.ds2_token.specs.declared.token.Token.{Token}
use Rattle.ds2_value.specs.Types.{in_bounds}
use Rattle.ds2_value.specs.declared.ty.TheConstants.{TEXT_CHARACTERS}
use Rattle.ds2_meaning.specs.IsTyped.{NamesInScope, expression_type, IsTypedExpression}
use Rattle.ds2_meaning.specs.TypedExpression.{TypedExpression}
use Rattle.ds2_elaboration.specs.ExpressionTypes.{integer_node, integer_constant, decimal_node, typed_decimal, text_within, text_node, typed_text, constant_node}
use Rattle.ds2_elaboration.specs.TypedForms.{IsSoundlyElaborated}
use Rattle.ds2_elaboration.specs.Typings.{form_of_operands}
use Rattle.ds2_elaboration.proofs.Operands.{form_typed}

-- a number is below the power of ten of its digits
one_digit_more : (m : ℕ) (digits : List ℕ) (c : ℕ) → m < 10 ^ suc (length digits) → m < 10 ^ length (digits ++ (c ∷ []))
one_digit_more m digits c h =
    let e : length (digits ++ (c ∷ [])) ≡ suc (length digits) = omega (arith, length-append digits (c ∷ [])) in subst (λ k. m < 10 ^ k) (sym e) h

digits_hold : (n : ℕ) → n < 10 ^ 64 → n < 10 ^ length (decimal n)
digits_hold =
    decimal_by_steps_wide (λ m digits. m < 10 ^ length digits) (λ m l. l)
    (λ m digits l h. one_digit_more m digits (48 + m % 10) (omega (arith, h)))

below_wider : (n a b : ℕ) → n < 10 ^ a → a ≤ b → n < 10 ^ b
below_wider n a b h l = lt_of_lt_of_le h (pow-le-pow_right (lit≤ tt) l)

module _ (names : NamesInScope) where
  abbrev IsTypedConstant : TypedExpression → Type 0
  IsTypedConstant node = IsTypedExpression names node × (in_bounds (expression_type node) ≡ true)

  one_of_two : (b : Bool) (x y : TypedExpression) → IsTypedConstant x → IsTypedConstant y → IsTypedConstant (if b then x else y)
  one_of_two true x y f g = f
  one_of_two false x y f g = g

  integer_if : (n : ℕ) (b : Bool) → nat_lt n (2 ^ 63) ≡ b → IsTypedConstant (integer_node (if b then Some (pos n) else None))
  integer_if n true e = ((refl, e), refl)
  integer_if n false e = ((refl, refl), refl)

  integer_typed : (t : Token) → IsTypedConstant (integer_constant t)
  integer_typed t = integer_if (units_of t.spelling) (nat_lt (units_of t.spelling) (2 ^ 63)) refl

  decimal_bounds : (l s : ℕ) → l ≤ 38 → s ≤ 38 → ((nat_le 1 (max 1 (max l s)) && nat_le (max 1 (max l s)) 38) && nat_le s (max 1 (max l s))) ≡ true
  decimal_bounds l s g h =
      and_from (nat_le 1 (max 1 (max l s)) && nat_le (max 1 (max l s)) 38) (nat_le s (max 1 (max l s)))
      (and_from (nat_le 1 (max 1 (max l s))) (nat_le (max 1 (max l s)) 38) (le-leb 1 (max 1 (max l s)) (omega arith)) (le-leb (max 1 (max l s)) 38 (omega (arith, g, h))))
      (le-leb s (max 1 (max l s)) (omega arith))

  decimal_if : (n s : ℕ) (b : Bool) → (is_within MOST_DIGITS (pos n) && nat_le s MOST_DIGITS) ≡ b
      → IsTypedConstant (decimal_node (if b then Some (record { units = pos n; scale = s }) else None))
  decimal_if n s true e =
      let p = and_parts (is_within MOST_DIGITS (pos n)) (nat_le s MOST_DIGITS) e in
      let small : n < 10 ^ 38 = ltb-true n (10 ^ 38) p.0 in
      let digits = length-decimal-le_wide 38 n (omega arith) small (omega (arith, small)) in
      let bounds = decimal_bounds (length (decimal n)) s digits (leb-true s 38 p.1) in
      let precision = max 1 (max (length (decimal n)) s) in
      let held = below_wider n (length (decimal n)) precision (digits_hold n (omega (arith, small))) (omega arith) in
      ((bounds, and_from (s == s) (nat_lt n (10 ^ precision)) (eq-eqb s s refl) (lt-ltb n (10 ^ precision) held)), bounds)
  decimal_if n s false e = ((refl, refl), refl)

  decimal_typed : (t : Token) → IsTypedConstant (typed_decimal t)
  decimal_typed t =
      decimal_if (units_of t.spelling) (scale_of t.spelling)
      (is_within MOST_DIGITS (pos (units_of t.spelling)) && nat_le (scale_of t.spelling) MOST_DIGITS) refl

  text_within_if : (bytes : List ℕ) (b : Bool) → nat_le (char_count bytes) TEXT_CHARACTERS ≡ b → is_utf8 bytes ≡ true
      → IsTypedConstant (text_node (if b then Some bytes else None))
  text_within_if bytes true e utf8 =
      let width = max 1 (char_count bytes) in
      let bounds = and_from (nat_le 1 width) (nat_le width 1024)
      (le-leb 1 width (omega arith)) (le-leb width 1024 (omega (arith, leb-true (char_count bytes) 1024 e))) in
      ((bounds, and_from (is_utf8 bytes) (nat_le (char_count bytes) width) utf8 (le-leb (char_count bytes) width (omega arith))), bounds)
  text_within_if bytes false e utf8 = ((refl, refl), refl)

  text_if : (bytes : List ℕ) (b : Bool) → is_utf8 bytes ≡ b → IsTypedConstant (text_node (option_and_then text_within (if b then Some bytes else None)))
  text_if bytes true e = text_within_if bytes (nat_le (char_count bytes) TEXT_CHARACTERS) refl e
  text_if bytes false e = ((refl, refl), refl)

  text_typed : (t : Token) → IsTypedConstant (typed_text t)
  text_typed t = text_if (text_content t.spelling) (is_utf8 (text_content t.spelling)) refl

  -- a constant
  pub constant_typed : (t : Token) → IsSoundlyElaborated names (form_of_operands [] (constant_node t))
  constant_typed t =
      form_typed names [] (constant_node t)
      (λ h.
      one_of_two (is_integer t) (integer_constant t) (if is_decimal t then typed_decimal t else typed_text t) (integer_typed t)
      (one_of_two (is_decimal t) (typed_decimal t) (typed_text t) (decimal_typed t) (text_typed t)))
