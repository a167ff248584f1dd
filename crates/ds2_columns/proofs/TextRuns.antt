-- Texts in one run of bytes.
use Rattle.std.proofs.Common.{◌≡◌, ℕ, true, zero, suc, ◌+◌, ◌-◌, ◌<◌, ◌≤◌, List, [], ◌∷◌, ◌++◌, length, take, drop, get_or, refl, sym, ap, subst, ◌∙◌, arith, length-append}
use Rattle.std.proofs.lemmas.List.{length-take, length-take-le, length-drop, take_all, take-take, take-append-le, drop-append-le, drop-drop, drop-take, nil_from_length}
use Rattle.std.proofs.lemmas.Option.{slice_get_past}
use Rattle.std.specs.List.{list_all}
use Rattle.std.specs.Prelude.{◌^◌, Some, None, slice_get}
use Rattle.std.specs.Str.{is_utf8}
use Rattle.ds2_base.specs.Bytes.{Bytes}
use Rattle.ds2_columns.specs.Texts.{texts_between, texts_end, AreEnds, AreTexts}
use Rattle.ds2_columns.proofs.Fitting.{all_behind, all_first, holds_at}

-- where the first texts end
pub place_is : (from : ℕ) (ends : List ℕ) (count d : ℕ) → count < length ends → texts_end from ends (suc count) ≡ get_or ends count d
place_is from [] count d h = absurd (omega (arith, h))
place_is from (e ∷ ends) zero d h = refl
place_is from (e ∷ ends) (suc count) d h = place_is e ends count d (omega (arith, h))

pub place_of : (from : ℕ) (ends : List ℕ) (count n d : ℕ) → count ≡ suc n → n < length ends → texts_end from ends count ≡ get_or ends n d
place_of from ends count n d e h = ap (λ (m : ℕ). texts_end from ends m) e ∙ place_is from ends n d h

pub rises : (from : ℕ) (ends : List ℕ) (bytes : Bytes) (count : ℕ) → AreEnds from ends bytes → from ≤ texts_end from ends count
rises from ends bytes zero h = omega arith
rises from [] bytes (suc count) h = omega arith
rises from (e ∷ ends) bytes (suc count) h = omega (arith, h.0, rises e ends (drop (e - from) bytes) count h.2)

pub goes_on : (from : ℕ) (ends : List ℕ) (bytes : Bytes) (count : ℕ) → AreEnds from ends bytes → texts_end from ends count ≤ texts_end from ends (suc count)
goes_on from [] bytes zero h = omega arith
goes_on from [] bytes (suc count) h = omega arith
goes_on from (e ∷ ends) bytes zero h = omega (arith, h.0)
goes_on from (e ∷ ends) bytes (suc count) h = goes_on e ends (drop (e - from) bytes) count h.2

pub within : (from : ℕ) (ends : List ℕ) (bytes : Bytes) (count : ℕ) → AreEnds from ends bytes → texts_end from ends count ≤ from + length bytes
within from ends bytes zero h = omega arith
within from [] bytes (suc count) h = omega arith
within from (e ∷ ends) bytes (suc count) h =
    omega (arith, h.0, h.1, length-drop (e - from) bytes, within e ends (drop (e - from) bytes) count h.2)

-- the text in a row
pub text_in_row : (from : ℕ) (ends : List ℕ) (bytes : Bytes) (row : ℕ) → AreEnds from ends bytes → row < length ends
    → slice_get (texts_between from ends bytes) row
    ≡ Some (take (texts_end from ends (suc row) - texts_end from ends row) (drop (texts_end from ends row - from) bytes))
text_in_row from [] bytes row h l = absurd (omega (arith, l))
text_in_row from (e ∷ ends) bytes zero h l =
    let none : from - from ≡ 0 = omega arith in ap (λ (n : ℕ). Some (take (e - from) (drop n bytes))) (sym none)
text_in_row from (e ∷ ends) bytes (suc row) h l =
    let place : ℕ = texts_end e ends row in
    let ahead : (e - from) + (place - e) ≡ place - from = omega (arith, h.0, rises e ends (drop (e - from) bytes) row h.2) in
    text_in_row e ends (drop (e - from) bytes) row h.2 (omega (arith, l))
    ∙ ap (λ (bs : Bytes). Some (take (texts_end e ends (suc row) - place) bs)) (drop-drop (place - e) (e - from) bytes ∙ ap (λ (n : ℕ). drop n bytes) ahead)

-- one more text
pub text_behind : (from : ℕ) (ends : List ℕ) (bytes text : Bytes) (end : ℕ) → AreEnds from ends bytes → end ≡ from + length bytes + length text
    → texts_between from (ends ++ end ∷ []) (bytes ++ text) ≡ texts_between from ends bytes ++ text ∷ []
text_behind from [] bytes text end h k =
    ap (λ (bs : Bytes). take (end - from) (bs ++ text) ∷ []) (nil_from_length bytes h)
    ∙ ap (λ (t : Bytes). t ∷ []) (take_all (end - from) text (omega (arith, h, k)))
text_behind from (e ∷ ends) bytes text end h k =
    let first = take-append-le (e - from) bytes text h.1 in
    let rest = drop-append-le (e - from) bytes text h.1 in
    let more = text_behind e ends (drop (e - from) bytes) text end h.2 (omega (arith, h.0, h.1, k, length-drop (e - from) bytes)) in
    λ i. first i ∷ (ap (λ (bs : Bytes). texts_between e (ends ++ end ∷ []) bs) rest ∙ more) i

pub end_behind : (from : ℕ) (ends : List ℕ) (bytes text : Bytes) (end : ℕ) → AreEnds from ends bytes → end ≡ from + length bytes + length text
    → AreEnds from (ends ++ end ∷ []) (bytes ++ text)
end_behind from [] bytes text end h k = (
  omega (arith, k),
  omega (arith, k, length-append bytes text),
  length-drop (end - from) (bytes ++ text) ∙ omega (arith, k, length-append bytes text),
)
end_behind from (e ∷ ends) bytes text end h k = (
  h.0,
  omega (arith, h.1, length-append bytes text),
  subst (λ (bs : Bytes). AreEnds e (ends ++ end ∷ []) bs) (sym (drop-append-le (e - from) bytes text h.1))
      (end_behind e ends (drop (e - from) bytes) text end h.2 (omega (arith, h.0, h.1, k, length-drop (e - from) bytes))),
)

-- the first texts
first_bytes : (from e place : ℕ) (bytes : Bytes) → from ≤ e → e ≤ place → drop (e - from) (take (place - from) bytes) ≡ take (place - e) (drop (e - from) bytes)
first_bytes from e place bytes h k =
    let whole : place - from ≡ (e - from) + (place - e) = omega (arith, h, k) in
    ap (λ (n : ℕ). drop (e - from) (take n bytes)) whole ∙ drop-take (e - from) (place - e) bytes

pub first_texts : (from : ℕ) (ends : List ℕ) (bytes : Bytes) (count : ℕ) → AreEnds from ends bytes → count ≤ length ends
    → texts_between from (take count ends) (take (texts_end from ends count - from) bytes) ≡ take count (texts_between from ends bytes)
first_texts from ends bytes zero h l = refl
first_texts from [] bytes (suc count) h l = absurd (omega (arith, l))
first_texts from (e ∷ ends) bytes (suc count) h l =
    let place : ℕ = texts_end e ends count in
    let up = rises e ends (drop (e - from) bytes) count h.2 in
    let first = take-take (e - from) (place - from) bytes (omega (arith, h.0, up)) in
    let more = first_texts e ends (drop (e - from) bytes) count h.2 (omega (arith, l)) in
    λ i. first i ∷ (ap (λ (bs : Bytes). texts_between e (take count ends) bs) (first_bytes from e place bytes h.0 up) ∙ more) i

pub first_ends : (from : ℕ) (ends : List ℕ) (bytes : Bytes) (count : ℕ) → AreEnds from ends bytes → count ≤ length ends
    → AreEnds from (take count ends) (take (texts_end from ends count - from) bytes)
first_ends from ends bytes zero h l =
    let none : from - from ≡ 0 = omega arith in
    length-take-le (from - from) bytes (omega (arith, none)) ∙ none
first_ends from [] bytes (suc count) h l = absurd (omega (arith, l))
first_ends from (e ∷ ends) bytes (suc count) h l =
    let place : ℕ = texts_end e ends count in
    let up = rises e ends (drop (e - from) bytes) count h.2 in
    let inside = within e ends (drop (e - from) bytes) count h.2 in (
      h.0,
      omega (arith, h.0, h.1, up, inside, length-drop (e - from) bytes, length-take-le (place - from) bytes (omega (arith, h.0, h.1, up, inside, length-drop (e - from) bytes))),
      subst (λ (bs : Bytes). AreEnds e (take count ends) bs) (sym (first_bytes from e place bytes h.0 up)) (first_ends e ends (drop (e - from) bytes) count h.2 (omega (arith, l))),
    )

-- ---- the same of texts that are kept

pub as_many_texts : (from : ℕ) (ends : List ℕ) (bytes : Bytes) → length (texts_between from ends bytes) ≡ length ends
as_many_texts from [] bytes = refl
as_many_texts from (e ∷ ends) bytes = ap (λ (n : ℕ). suc n) (as_many_texts e ends (drop (e - from) bytes))

pub no_text : (ends : List ℕ) (bytes : Bytes) (row : ℕ) → length ends ≤ row → None ≡ slice_get (texts_between 0 ends bytes) row
no_text ends bytes row h = sym (slice_get_past (texts_between 0 ends bytes) row (omega (arith, h, as_many_texts 0 ends bytes)))

pub in_row : (ends : List ℕ) (bytes : Bytes) (row from to : ℕ) → AreEnds 0 ends bytes → row < length ends
    → from ≡ texts_end 0 ends row → to ≡ texts_end 0 ends (row + 1)
    → Some (take (to - from) (drop from bytes)) ≡ slice_get (texts_between 0 ends bytes) row
in_row ends bytes row from to h l f t =
    let next : row + 1 ≡ suc row = omega arith in
    let start : texts_end 0 ends row ≡ texts_end 0 ends row - 0 = omega arith in
    (λ i. Some (take (t i - f i) (drop (f i) bytes)))
    ∙ ap (λ (n : ℕ). Some (take (texts_end 0 ends n - texts_end 0 ends row) (drop (texts_end 0 ends row) bytes))) next
    ∙ ap (λ (n : ℕ). Some (take (texts_end 0 ends (suc row) - texts_end 0 ends row) (drop n bytes))) start
    ∙ sym (text_in_row 0 ends bytes row h l)

pub texts_utf8 : (ends : List ℕ) (bytes : Bytes) (row : ℕ) (text : Bytes) → AreTexts ends bytes → Some text ≡ slice_get (texts_between 0 ends bytes) row → is_utf8 text ≡ true
texts_utf8 ends bytes row text h e = holds_at is_utf8 (texts_between 0 ends bytes) row text h.utf8 (sym e)

pub grown_is : (ends new_ends : List ℕ) (bytes new_bytes text : Bytes) (end : ℕ) → AreTexts ends bytes → end ≡ length bytes + length text
    → new_ends ≡ ends ++ end ∷ [] → new_bytes ≡ bytes ++ text → texts_between 0 new_ends new_bytes ≡ texts_between 0 ends bytes ++ text ∷ []
grown_is ends new_ends bytes new_bytes text end h e p q =
    (λ i. texts_between 0 (p i) (q i)) ∙ text_behind 0 ends bytes text end h.divide (omega (arith, e))

pub grown : (ends new_ends : List ℕ) (bytes new_bytes text : Bytes) (end : ℕ) → AreTexts ends bytes → is_utf8 text ≡ true → end ≡ length bytes + length text
    → end < 2 ^ 32 → new_ends ≡ ends ++ end ∷ [] → new_bytes ≡ bytes ++ text → AreTexts new_ends new_bytes
grown ends new_ends bytes new_bytes text end h u e l p q = record {
  divide =
      subst (λ (es : List ℕ). AreEnds 0 es new_bytes) (sym p)
      (subst (λ (bs : Bytes). AreEnds 0 (ends ++ end ∷ []) bs) (sym q) (end_behind 0 ends bytes text end h.divide (omega (arith, e))));
  utf8 =
      ap (λ (ts : List Bytes). list_all is_utf8 ts) (grown_is ends new_ends bytes new_bytes text end h e p q)
      ∙ all_behind is_utf8 (texts_between 0 ends bytes) text h.utf8 u;
  places = omega (arith, ap (λ (bs : Bytes). length bs) q, length-append bytes text, e, l);
}

pub cut_is : (ends new_ends : List ℕ) (bytes new_bytes : Bytes) (count place : ℕ) → AreTexts ends bytes → count ≤ length ends → place ≡ texts_end 0 ends count
    → new_ends ≡ take count ends → new_bytes ≡ take place bytes → texts_between 0 new_ends new_bytes ≡ take count (texts_between 0 ends bytes)
cut_is ends new_ends bytes new_bytes count place h l e p q =
    let whole : place ≡ texts_end 0 ends count - 0 = omega (arith, e) in
    (λ i. texts_between 0 (p i) (q i)) ∙ ap (λ (n : ℕ). texts_between 0 (take count ends) (take n bytes)) whole ∙ first_texts 0 ends bytes count h.divide l

pub cut : (ends new_ends : List ℕ) (bytes new_bytes : Bytes) (count place : ℕ) → AreTexts ends bytes → count ≤ length ends → place ≡ texts_end 0 ends count
    → new_ends ≡ take count ends → new_bytes ≡ take place bytes → AreTexts new_ends new_bytes
cut ends new_ends bytes new_bytes count place h l e p q =
    let whole : place ≡ texts_end 0 ends count - 0 = omega (arith, e) in
    record {
      divide =
          subst (λ (es : List ℕ). AreEnds 0 es new_bytes) (sym p)
          (subst (λ (bs : Bytes). AreEnds 0 (take count ends) bs) (sym (q ∙ ap (λ (n : ℕ). take n bytes) whole)) (first_ends 0 ends bytes count h.divide l));
      utf8 =
          ap (λ (ts : List Bytes). list_all is_utf8 ts) (cut_is ends new_ends bytes new_bytes count place h l e p q)
          ∙ all_first is_utf8 count (texts_between 0 ends bytes) h.utf8;
      places = omega (arith, ap (λ (bs : Bytes). length bs) q, length-take place bytes, h.places);
    }
