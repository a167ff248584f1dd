-- The walk over the characters of two texts.
use Rattle.std.proofs.Common.{◌≡◌, ℕ, List, [], ◌∷◌, length, drop, refl, sym, ◌∙◌, arith}
use Rattle.std.specs.Prelude.{Option, Some, None, unwrap_or, is_some, true, false}
use Rattle.std.specs.Ordering.{nat_cmp, ordering_then, is_ne}
use Rattle.std.specs.Str.{chars, IsUtf8}
use Rattle.std.specs.Str.Iter.{chars_rest, chars_steps}
use Rattle.std.specs.declared.cmp.Ordering.{Ordering}
use Rattle.std.specs.declared.cmp.Ordering.TheVariants.{Less, Equal, Greater}
use Rattle.std.specs.declared.str.Chars.{Chars}
use Rattle.std.proofs.lemmas.Str.{chars-nil, chars_past_char, IsUtf8-past_char}
use Rattle.ds2_value.specs.Texts.{padded_cmp}
use Rattle.ds2_value.specs.TextLaws.{padded_cmp-step, padded_cmp-nil}

-- no bytes are no characters
no-chars : (bytes : List ℕ) → length bytes ≡ 0 → chars bytes ≡ []
no-chars [] h = chars-nil
no-chars (b ∷ bytes) h = absurd (omega arith)

-- what is left after a step of `chars`
pub chars-after : (s t : Chars) (r : Option ℕ) → IsUtf8 (chars_rest s) → chars_steps s r t → chars (chars_rest t) ≡ drop 1 (chars (chars_rest s))
chars-after s t None u h = rw (h.0.1, no-chars (chars_rest s) h.0.0) refl
chars-after s t (Some c) u h = rw (chars_past_char (chars_rest s) (chars_rest t) c u h.0) refl

pub utf8-after : (s t : Chars) (r : Option ℕ) → IsUtf8 (chars_rest s) → chars_steps s r t → IsUtf8 (chars_rest t)
utf8-after s t None u h = rw h.0.1 u
utf8-after s t (Some c) u h = IsUtf8-past_char (chars_rest s) (chars_rest t) c u h.0

-- one step of both texts: their characters, or blanks, decide, and then what is left
pub both-step : (s s' t t' : Chars) (x y : Option ℕ) → IsUtf8 (chars_rest s) → IsUtf8 (chars_rest t) → chars_steps s x s' → chars_steps t y t'
    → padded_cmp (chars (chars_rest s)) (chars (chars_rest t)) ≡ ordering_then (nat_cmp (unwrap_or x 32) (unwrap_or y 32)) (padded_cmp (chars (chars_rest s')) (chars (chars_rest t')))
both-step s s' t t' x y u v h k =
    padded_cmp-step (chars (chars_rest s)) (chars (chars_rest t))
    ∙ rw (← h.2, ← k.2, ← chars-after s s' x u h, ← chars-after t t' y v k) refl

-- both texts are at their ends
pub both-ended : (s s' t t' : Chars) (x y : Option ℕ) → is_some x ≡ false → is_some y ≡ false → chars_steps s x s' → chars_steps t y t'
    → padded_cmp (chars (chars_rest s)) (chars (chars_rest t)) ≡ Equal
both-ended s s' t t' None None p q h k = rw (no-chars (chars_rest s) h.0.0, no-chars (chars_rest t) k.0.0) padded_cmp-nil
both-ended s s' t t' None (Some d) p q h k = cc
both-ended s s' t t' (Some c) y p q h k = cc

-- the first of two orders decides where it is not Equal, and else the second
pub first-decides : (whole r o : Ordering) → whole ≡ ordering_then r o → is_ne r ≡ true → r ≡ whole
first-decides whole Less o e h = sym e
first-decides whole Equal o e h = cc
first-decides whole Greater o e h = sym e

pub second-decides : (whole r o : Ordering) → whole ≡ ordering_then r o → is_ne r ≡ false → o ≡ whole
second-decides whole Less o e h = cc
second-decides whole Equal o e h = sym e
second-decides whole Greater o e h = cc
