-- What is found at the front of a text that begins with no gap is the longest form there, and where none is found there is none.
use Rattle.std.proofs.Common.{◌≡◌, ℕ, zero, suc, ◌<◌, ◌≤◌, ◌⊎◌, inl, inr, Bool, true, false, cond, ◌&&◌, ◌||◌, not, [], ◌∷◌, ◌++◌, length, drop, Option, Some, None, Result, refl, sym, ap, ◌∙◌, subst, arith}
use Rattle.std.specs.Prelude.{◌==◌, codes, nat_lt}
use Rattle.std.specs.Char.{is_ascii_digit}
use Rattle.std.specs.Str.{bytes_eq}
use Rattle.std.proofs.lemmas.Bool.{and_parts, and_from, and_right, or_cases, eqb-true, cases_Bool, cond-true, cond-false, both_ways, false_from_ne_true, not_from_false, ltb-true}
use Rattle.std.proofs.lemmas.List.{take_all}
use Rattle.ds2_base.specs.Bytes.{Bytes}
use Rattle.ds2_token.specs.declared.kinds.TokenKind.{TokenKind}
use Rattle.ds2_token.specs.declared.kinds.TokenKind.TheVariants.{Mark}
use Rattle.ds2_token.specs.declared.kinds.LexKind.{LexKind}
use Rattle.ds2_token.specs.declared.kinds.LexKind.TheVariants.{OpenComment}
use Rattle.ds2_token.specs.declared.scan.Found.{Found}
use Rattle.ds2_token.specs.Forms.{is_word_letter, is_mark_form, opens_comment, holds_comment_end, is_open_comment, form_of}
use Rattle.ds2_token.specs.Scan.{further, comment_end, piece_size, quoted_found, text_found, is_mark_byte, is_mark_pair, mark_size, mark_found, token_found, fault_found, found}
use Rattle.ds2_token.specs.Standing.{IsForm, BeginsNoForm}
use Rattle.ds2_token.proofs.Pieces.{clash, same_bytes, no_end}
use Rattle.ds2_token.proofs.Heads
use Rattle.ds2_token.proofs.Fronts.{There, first_same, rest_same, whole_longest, fault_kind, word_there, quoted_there, text_there}
use Rattle.ds2_token.proofs.Numbers.{number_there, there_of}

nothing_formed : (form : Result TokenKind LexKind) → None ≡ Some form → ⊥
nothing_formed form e = cc

some_found : (f g : Found) → Some f ≡ Some g → f ≡ g
some_found f g e = cc

none_found : (f : Found) → None ≡ Some f → ⊥
none_found f e = cc

mark_zero : (n : ℕ) → mark_found n ≡ None → n ≡ 0
mark_zero zero e = refl
mark_zero (suc n) e = absurd (none_found (token_found Mark (suc n)) (sym e))

further_zero : (n : ℕ) → further 2 n ≡ 0 → n ≡ 0
further_zero zero e = refl
further_zero (suc n) e = absurd (omega arith)

four_or_five : (b : Bool) (n : ℕ) → n ≡ cond b 4 5 → 4 ≤ n
four_or_five true n e = omega arith
four_or_five false n e = omega arith

-- ---- comments without an end

record Opened (text : Bytes) : Type 0 where
  rest : Bytes
  cut : text ≡ 47 ∷ 42 ∷ rest

opened_of : (c d : ℕ) (cs : Bytes) → c ∷ d ∷ [] ≡ 47 ∷ 42 ∷ [] → c ∷ d ∷ cs ≡ 47 ∷ 42 ∷ cs
opened_of c d cs e =
    let first : c ≡ 47 = cc in
    let second : d ≡ 42 = cc in
    cc

one_byte : (c : ℕ) → bytes_eq (c ∷ []) (codes "/*") ≡ false
one_byte c = and_right (c == 47) false refl

opened : (text : Bytes) → opens_comment text ≡ true → Opened text
opened [] e = clash e
opened (c ∷ []) e = absurd (both_ways (bytes_eq (c ∷ []) (codes "/*")) (one_byte c) e)
opened (c ∷ d ∷ cs) e = record { rest = cs; cut = opened_of c d cs (same_bytes (c ∷ d ∷ []) (codes "/*") e) }

-- a text opens a comment where a beginning of it does
opens_along : (other left text : Bytes) → opens_comment other ≡ true → other ++ left ≡ text → opens_comment text ≡ true
opens_along other left text e same =
    let o = opened other e in
    ap opens_comment (sym same) ∙ ap (λ (xs : Bytes). opens_comment (xs ++ left)) o.cut

open_is_comment : (text : Bytes) → opens_comment text ≡ true → piece_size text ≡ 0 → is_open_comment text ≡ true
open_is_comment text e none =
    let o = opened text e in
    let size : further 2 (comment_end o.rest) ≡ 0 = ap piece_size (sym o.cut) ∙ none in
    let end : comment_end o.rest ≡ 0 = further_zero (comment_end o.rest) size in
    and_from (opens_comment text) (not (holds_comment_end (drop 2 text))) e
    (not_from_false (holds_comment_end (drop 2 text)) (ap (λ (xs : Bytes). holds_comment_end (drop 2 xs)) o.cut ∙ no_end o.rest end))

never_shape : (cs : Bytes) → Heads.is_mark_shape (47 ∷ 42 ∷ cs) ≡ true → ⊥
never_shape [] e = clash e
never_shape (c ∷ cs) e = clash e

no_opened_mark : (c : ℕ) (cs : Bytes) → opens_comment (c ∷ cs) ≡ true → is_mark_form (c ∷ cs) ≡ false
no_opened_mark c cs e =
    let o = opened (c ∷ cs) e in
    false_from_ne_true (is_mark_form (c ∷ cs)) (λ is. never_shape o.rest (ap Heads.is_mark_shape (sym o.cut) ∙ Heads.mark_shape (c ∷ cs) is))

comment_there : (c : ℕ) (cs : Bytes) → opens_comment (c ∷ cs) ≡ true → piece_size (c ∷ cs) ≡ 0 → There (c ∷ cs) (fault_found OpenComment (length (c ∷ cs)))
comment_there c cs e none =
    let unclosed : is_open_comment (c ∷ cs) ≡ true = open_is_comment (c ∷ cs) e none in
    let class : Heads.class_of c ≡ 4 = Heads.comment_head c cs unclosed in
    record {
      some = omega arith;
      fits = omega arith;
      form = ap form_of (take_all (length (c ∷ cs)) (c ∷ cs) (omega arith)) ∙ Heads.comment_form c cs class (no_opened_mark c cs e) unclosed;
      longest = λ other left same is. whole_longest (c ∷ cs) other left same;
      ends = λ kind f. fault_kind kind OpenComment f;
    }

-- ---- marks

-- the class of a byte of no other form
other_class : (c : ℕ) → is_word_letter c ≡ false → is_ascii_digit c ≡ false → (c == 34) ≡ false → (c == 39) ≡ false → 4 ≤ Heads.class_of c
unfolding Heads.class_of
other_class c letter digit double single =
    let here : Heads.class_of c ≡ cond (is_mark_byte c) 4 5 =
    cond-false (is_word_letter c) 0 _ letter ∙ cond-false (is_ascii_digit c) 1 _ digit ∙ cond-false (c == 34) 2 _ double ∙ cond-false (c == 39) 3 _ single in
    four_or_five (is_mark_byte c) (Heads.class_of c) here

-- only marks stand at the front of a text of such a byte that opens no comment
mark_only : (c : ℕ) (cs other left : Bytes) → 4 ≤ Heads.class_of c → opens_comment (c ∷ cs) ≡ false → other ++ left ≡ c ∷ cs → 0 < length other → IsForm other
    → Heads.is_mark_shape other ≡ true
mark_only c cs [] left class none same some is = absurd (omega arith)
mark_only c cs (o ∷ os) left class none same some (form, is) =
    let first : o ≡ c = first_same c o cs os left same in
    let here : Heads.class_of o ≡ Heads.class_of c = ap Heads.class_of first in
    elim (Heads.at_sign o os form (omega arith) is) [
      | inl e ↦ Heads.mark_shape (o ∷ os) e
      | inr e ↦
          let opens : opens_comment (o ∷ os) ≡ true = (and_parts (opens_comment (o ∷ os)) (not (holds_comment_end (drop 2 (o ∷ os)))) e).0 in
          absurd (both_ways (opens_comment (c ∷ cs)) none (opens_along (o ∷ os) left (c ∷ cs) opens same))
    ]

-- how long a spelling of a mark's shape is
shape_most : (s : Bytes) → Heads.is_mark_shape s ≡ true → length s ≤ 2
shape_most [] e = omega arith
shape_most (c ∷ []) e = omega arith
shape_most (c ∷ d ∷ []) e = omega arith
shape_most (c ∷ d ∷ f ∷ cs) e = clash e

-- and that one of two bytes is a pair
shape_pair : (c d : ℕ) (cs s left : Bytes) → Heads.is_mark_shape s ≡ true → s ++ left ≡ c ∷ d ∷ cs → is_mark_pair c d ≡ false → length s ≤ 1
shape_pair c d cs [] left e same none = omega arith
shape_pair c d cs (o ∷ []) left e same none = omega arith
shape_pair c d cs (o ∷ p ∷ []) left e same none =
    let first : o ≡ c = first_same c o (d ∷ cs) (p ∷ []) left same in
    let second : p ≡ d = first_same d p cs [] left (rest_same c o (d ∷ cs) (p ∷ []) left same) in
    let pair : is_mark_pair o p ≡ true = (and_parts (is_mark_byte o) (is_mark_pair o p) e).1 in
    let there : is_mark_pair c d ≡ is_mark_pair o p = ap (λ (x : ℕ). is_mark_pair x d) (sym first) ∙ ap (λ (y : ℕ). is_mark_pair o y) (sym second) in
    absurd (both_ways (is_mark_pair c d) none (there ∙ pair))
shape_pair c d cs (o ∷ p ∷ q ∷ s) left e same none = clash e

-- what a pair is
abbrev is_good_pair : ℕ → ℕ → Bool
is_good_pair c d = is_mark_byte c && is_mark_form (c ∷ d ∷ []) && nat_lt d 128

pair_of : (c d x y : ℕ) → c ≡ x → d ≡ y → is_good_pair x y ≡ true → is_good_pair c d ≡ true
pair_of c d x y e f good = ap (λ (n : ℕ). is_good_pair n d) e ∙ ap (λ (n : ℕ). is_good_pair x n) f ∙ good

pair_good : (c d : ℕ) → is_mark_pair c d ≡ true → is_good_pair c d ≡ true
pair_good c d e =
    elim (cases_Bool (d == 61)) [
      | inl f ↦
          let equal : d ≡ 61 = eqb-true d 61 f in
          elim (or_cases (c == 94 || c == 126 || c == 60) (c == 62) (sym (cond-true (d == 61) (c == 94 || c == 126 || c == 60 || c == 62) (c == 124 && d == 124) f) ∙ e)) [
            | inr g ↦ pair_of c d 62 61 (eqb-true c 62 g) equal refl
            | inl g ↦ elim (or_cases (c == 94 || c == 126) (c == 60) g) [
              | inr h ↦ pair_of c d 60 61 (eqb-true c 60 h) equal refl
              | inl h ↦ elim (or_cases (c == 94) (c == 126) h) [
                | inr i ↦ pair_of c d 126 61 (eqb-true c 126 i) equal refl
                | inl i ↦ pair_of c d 94 61 (eqb-true c 94 i) equal refl
              ]
            ]
          ]
      | inr f ↦
          let parts = and_parts (c == 124) (d == 124) (sym (cond-false (d == 61) (c == 94 || c == 126 || c == 60 || c == 62) (c == 124 && d == 124) f) ∙ e) in
          pair_of c d 124 124 (eqb-true c 124 parts.0) (eqb-true d 124 parts.1) refl
    ]

single_most : (c : ℕ) (cs other left : Bytes) → 4 ≤ Heads.class_of c → opens_comment (c ∷ cs) ≡ false
    → ((s left : Bytes) → Heads.is_mark_shape s ≡ true → s ++ left ≡ c ∷ cs → length s ≤ 1) → other ++ left ≡ c ∷ cs → IsForm other → length other ≤ 1
single_most c cs [] left class none most same is = omega arith
single_most c cs (o ∷ os) left class none most same is = most (o ∷ os) left (mark_only c cs (o ∷ os) left class none same (omega arith) is) same

within_two : (c : ℕ) (cs other left : Bytes) → 4 ≤ Heads.class_of c → opens_comment (c ∷ cs) ≡ false → other ++ left ≡ c ∷ cs → IsForm other → length other ≤ 2
within_two c cs [] left class none same is = omega arith
within_two c cs (o ∷ os) left class none same is = shape_most (o ∷ os) (mark_only c cs (o ∷ os) left class none same (omega arith) is)

single_there : (c : ℕ) (cs : Bytes) → 4 ≤ Heads.class_of c → opens_comment (c ∷ cs) ≡ false → is_mark_byte c ≡ true
    → ((s left : Bytes) → Heads.is_mark_shape s ≡ true → s ++ left ≡ c ∷ cs → length s ≤ 1) → There (c ∷ cs) (token_found Mark 1)
single_there c cs class none mark most =
    there_of (c ∷ cs) (c ∷ []) cs (token_found Mark 1) refl refl (omega arith)
    (Heads.mark_form c [] (Heads.sign_class c mark) (Heads.mark_byte_form c mark))
    (λ other left same is. single_most c cs other left class none most same is)
    (λ kind f. Heads.mark_byte_ascii c mark)

pair_there : (c d : ℕ) (cs : Bytes) → 4 ≤ Heads.class_of c → opens_comment (c ∷ d ∷ cs) ≡ false → is_mark_pair c d ≡ true → There (c ∷ d ∷ cs) (token_found Mark 2)
pair_there c d cs class none pair =
    let good : is_good_pair c d ≡ true = pair_good c d pair in
    let one = and_parts (is_mark_byte c && is_mark_form (c ∷ d ∷ [])) (nat_lt d 128) good in
    let two = and_parts (is_mark_byte c) (is_mark_form (c ∷ d ∷ [])) one.0 in
    there_of (c ∷ d ∷ cs) (c ∷ d ∷ []) cs (token_found Mark 2) refl refl (omega arith)
    (Heads.mark_form c (d ∷ []) (Heads.sign_class c two.0) two.1)
    (λ other left same is. within_two c (d ∷ cs) other left class none same is)
    (λ kind f. ltb-true d 128 one.1)

abbrev MarkFound : Bytes → ℕ → Type 0
MarkFound text n = (f : Found) → mark_found n ≡ Some f → There text f

mark_is : (text : Bytes) (n : ℕ) → There text (token_found Mark (suc n)) → MarkFound text (suc n)
mark_is text n is f e = subst (There text) (some_found (token_found Mark (suc n)) f e) is

mark_not : (text : Bytes) → MarkFound text 0
mark_not text f e = absurd (none_found f e)

mark_there : (c : ℕ) (cs : Bytes) → 4 ≤ Heads.class_of c → opens_comment (c ∷ cs) ≡ false → MarkFound (c ∷ cs) (mark_size (c ∷ cs))
mark_there c [] class none =
    elim (cases_Bool (is_mark_byte c)) [
      | inl e ↦ subst (MarkFound (c ∷ [])) (sym (cond-true (is_mark_byte c) 1 0 e))
          (mark_is (c ∷ []) 0 (single_there c [] class none e (λ s left shape same. omega (arith, whole_longest (c ∷ []) s left same))))
      | inr e ↦ subst (MarkFound (c ∷ [])) (sym (cond-false (is_mark_byte c) 1 0 e)) (mark_not (c ∷ []))
    ]
mark_there c (d ∷ cs) class none =
    elim (cases_Bool (is_mark_pair c d)) [
      | inl e ↦ subst (MarkFound (c ∷ d ∷ cs)) (sym (cond-true (is_mark_pair c d) 2 (cond (is_mark_byte c) 1 0) e)) (mark_is (c ∷ d ∷ cs) 1 (pair_there c d cs class none e))
      | inr e ↦ elim (cases_Bool (is_mark_byte c)) [
        | inl f ↦
            subst (MarkFound (c ∷ d ∷ cs)) (sym (cond-false (is_mark_pair c d) 2 (cond (is_mark_byte c) 1 0) e ∙ cond-true (is_mark_byte c) 1 0 f))
            (mark_is (c ∷ d ∷ cs) 0 (single_there c (d ∷ cs) class none f (λ s left shape same. shape_pair c d cs s left shape same e)))
        | inr f ↦
            subst (MarkFound (c ∷ d ∷ cs)) (sym (cond-false (is_mark_pair c d) 2 (cond (is_mark_byte c) 1 0) e ∙ cond-false (is_mark_byte c) 1 0 f)) (mark_not (c ∷ d ∷ cs))
      ]
    ]

-- where no mark is found none stands
mark_byte_size : (c : ℕ) (cs : Bytes) → is_mark_byte c ≡ true → 0 < mark_size (c ∷ cs)
mark_byte_size c [] e = let size : mark_size (c ∷ []) ≡ 1 = cond-true (is_mark_byte c) 1 0 e in omega arith
mark_byte_size c (d ∷ cs) e =
    elim (cases_Bool (is_mark_pair c d)) [
      | inl f ↦ let size : mark_size (c ∷ d ∷ cs) ≡ 2 = cond-true (is_mark_pair c d) 2 (cond (is_mark_byte c) 1 0) f in omega arith
      | inr f ↦ let size : mark_size (c ∷ d ∷ cs) ≡ 1 = cond-false (is_mark_pair c d) 2 (cond (is_mark_byte c) 1 0) f ∙ cond-true (is_mark_byte c) 1 0 e in omega arith
    ]

shape_first : (c o : ℕ) (os : Bytes) → o ≡ c → Heads.is_mark_shape (o ∷ os) ≡ true → is_mark_byte c ≡ true
shape_first c o os first e = ap is_mark_byte (sym first) ∙ Heads.shape_head o os e

none_of : (c : ℕ) (cs s left : Bytes) → 4 ≤ Heads.class_of c → opens_comment (c ∷ cs) ≡ false → mark_size (c ∷ cs) ≡ 0 → s ++ left ≡ c ∷ cs → IsForm s → ⊥
none_of c cs [] left class none size same (form, is) = nothing_formed form is
none_of c cs (o ∷ os) left class none size same is =
    let shape : Heads.is_mark_shape (o ∷ os) ≡ true = mark_only c cs (o ∷ os) left class none same (omega arith) is in
    let mark : is_mark_byte c ≡ true = shape_first c o os (first_same c o cs os left same) shape in
    omega (arith, mark_byte_size c cs mark)

mark_none : (c : ℕ) (cs : Bytes) → 4 ≤ Heads.class_of c → opens_comment (c ∷ cs) ≡ false → mark_size (c ∷ cs) ≡ 0 → BeginsNoForm (c ∷ cs)
mark_none c cs class none size =
    (omega arith, λ s left same is. none_of c cs s left class none size same is)

-- ---- all forms

pick_some : (b : Bool) (x f : Found) (rest : Option Found) → cond b (Some x) rest ≡ Some f → ((b ≡ true) × (x ≡ f)) ⊎ ((b ≡ false) × (rest ≡ Some f))
pick_some true x f rest e = inl (refl, some_found x f e)
pick_some false x f rest e = inr (refl, e)

pick_none : (b : Bool) (x : Found) (rest : Option Found) → cond b (Some x) rest ≡ None → (b ≡ false) × (rest ≡ None)
pick_none true x rest e = absurd (none_found x (sym e))
pick_none false x rest e = (refl, e)

there_first : (c d : ℕ) (cs : Bytes) (f : Found) → c ≡ d → There (d ∷ cs) f → There (c ∷ cs) f
there_first c d cs f e is = subst (λ (x : ℕ). There (x ∷ cs) f) (sym e) is

pub found_there : (text : Bytes) (f : Found) → piece_size text ≡ 0 → found text ≡ Some f → There text f
unfolding found
found_there [] f p e = absurd (none_found f e)
found_there (c ∷ cs) f p e =
    elim (pick_some (is_word_letter c) _ f _ e) [
      | inl a ↦ subst (There (c ∷ cs)) a.1 (word_there c cs a.0)
      | inr a ↦ elim (pick_some (is_ascii_digit c) _ f _ a.1) [
        | inl b ↦ subst (There (c ∷ cs)) b.1 (number_there c cs b.0)
        | inr b ↦ elim (pick_some (c == 34) _ f _ b.1) [
          | inl d ↦ subst (There (c ∷ cs)) d.1 (there_first c 34 cs (quoted_found cs) (eqb-true c 34 d.0) (quoted_there cs))
          | inr d ↦ elim (pick_some (c == 39) _ f _ d.1) [
            | inl g ↦ subst (There (c ∷ cs)) g.1 (there_first c 39 cs (text_found cs) (eqb-true c 39 g.0) (text_there cs))
            | inr g ↦ elim (pick_some (opens_comment (c ∷ cs)) _ f _ g.1) [
              | inl h ↦ subst (There (c ∷ cs)) h.1 (comment_there c cs h.0 p)
              | inr h ↦ mark_there c cs (other_class c a.0 b.0 d.0 g.0) h.0 f h.1
            ]
          ]
        ]
      ]
    ]

pub found_none : (text : Bytes) → 0 < length text → found text ≡ None → BeginsNoForm text
unfolding found
found_none [] some e = absurd (omega arith)
found_none (c ∷ cs) some e =
    let a = pick_none (is_word_letter c) _ _ e in
    let b = pick_none (is_ascii_digit c) _ _ a.1 in
    let d = pick_none (c == 34) _ _ b.1 in
    let g = pick_none (c == 39) _ _ d.1 in
    let h = pick_none (opens_comment (c ∷ cs)) _ _ g.1 in
    mark_none c cs (other_class c a.0 b.0 d.0 g.0) h.0 (mark_zero (mark_size (c ∷ cs)) h.1)
