-- Gaps: what piece stands at the front of a text, and the longest gap there.
use Rattle.std.proofs.Common.{◌≡◌, ℕ, zero, suc, ◌+◌, ◌-◌, ◌<◌, ◌≤◌, inl, inr, Bool, true, false, cond, ◌&&◌, ◌||◌, not, List, [], ◌∷◌, ◌++◌, length, take, drop, get_or, refl, sym, ap, ◌∙◌, subst, arith, append_assoc}
use Rattle.std.specs.Prelude.{◌==◌, nat_le, codes}
use Rattle.std.specs.List.{concat, list_all}
use Rattle.std.specs.Str.{bytes_eq}
use Rattle.std.specs.Cmp.Lexicographic.{bytes_decides}
use Rattle.std.proofs.lemmas.Bool.{and_parts, or_parts, or_cases, and_from, and_right, or_left, or_right, or_from, eqb-true, leb-true, le-leb, not-true, not_from_false, cases_Bool, cond-true, cond-false, both_ways}
use Rattle.std.proofs.lemmas.Bool.Decides.{nat_tests}
use Rattle.std.proofs.lemmas.List.{append-nil, length-append, take-append-drop, take_at, drop_at, take_all, length-take-le, take-take, drop-take, get_or_at, get_or-take, get_or-drop}
use Rattle.ds2_base.specs.Bytes.{Bytes}
use Rattle.ds2_token.specs.Forms.{is_blank_piece, opens_comment, closes_comment, holds_comment_end, is_comment, IsGap}
use Rattle.ds2_token.specs.Scan.{is_blank_byte, further, closes_here, comment_end, piece_size}
use Rattle.ds2_token.specs.Standing.{IsLongest}
use Rattle.ds2_token.proofs.OneAnswer.{same_cut}

pub clash : {A : Type 0} → false ≡ true → A
clash e = absurd (both_ways false refl e)

pub same_bytes : (a b : Bytes) → bytes_eq a b ≡ true → a ≡ b
same_bytes a b e = (bytes_decides a b).0 e

abbrev pub is_piece : Bytes → Bool
is_piece piece = is_blank_piece piece || is_comment piece

-- ---- the end of a comment

further_some : (n k : ℕ) → 0 < n → further k n ≡ n + k
further_some zero k some = absurd (omega arith)
further_some (suc n) k some = refl

further_more : (p n : ℕ) → further p (further 1 n) ≡ further (p + 1) n
further_more p zero = refl
further_more p (suc n) = further_some (suc n + 1) p (omega arith) ∙ omega arith

one_less : (c : ℕ) (cs : Bytes) → take (length (c ∷ cs) - 1) cs ≡ cs
one_less c cs = take_all (length (c ∷ cs) - 1) cs (omega arith)

-- one byte further
pub comment_end_more : (p : ℕ) (text : Bytes) → closes_here text ≡ false → 0 < length text
    → further (p + 1) (comment_end (take (length text - 1) (drop 1 text))) ≡ further p (comment_end text)
comment_end_more p [] e some = absurd (omega arith)
comment_end_more p (c ∷ cs) e some =
    ap (λ (xs : Bytes). further (p + 1) (comment_end xs)) (one_less c cs)
    ∙ sym (further_more p (comment_end cs))
    ∙ ap (further p) (sym (cond-false (closes_here (c ∷ cs)) 2 (further 1 (comment_end cs)) e))

pair_test : (x y : Bool) → (x && (y && true)) ≡ (x && y)
pair_test true true = refl
pair_test true false = refl
pair_test false y = refl

end_branch : (b : Bool) (c d : ℕ) (cs : Bytes) → (c == 42 && d == 47) ≡ b → comment_end (c ∷ d ∷ cs) ≡ cond b 2 (further 1 (comment_end (d ∷ cs)))
end_branch b c d cs e = ap (λ (t : Bool). cond t 2 (further 1 (comment_end (d ∷ cs)))) e

end_of_body : (body t : Bytes) → holds_comment_end body ≡ false → comment_end (body ++ 42 ∷ 47 ∷ t) ≡ length body + 2
end_of_body [] t e = refl
end_of_body (c ∷ []) t e = end_branch false c 42 (47 ∷ t) (and_right (c == 42) false refl)
end_of_body (c ∷ d ∷ body) t e =
    let parts = or_parts (bytes_eq (take 2 (c ∷ d ∷ body)) (codes "*/")) (holds_comment_end (d ∷ body)) e in
    let apart : (c == 42 && d == 47) ≡ false = sym (pair_test (c == 42) (d == 47)) ∙ parts.0 in
    let rest : comment_end (d ∷ (body ++ 42 ∷ 47 ∷ t)) ≡ length (d ∷ body) + 2 = end_of_body (d ∷ body) t parts.1 in
    let step : comment_end (c ∷ d ∷ (body ++ 42 ∷ 47 ∷ t)) ≡ further 1 (comment_end (d ∷ (body ++ 42 ∷ 47 ∷ t))) = end_branch false c d (body ++ 42 ∷ 47 ∷ t) apart in
    step ∙ ap (further 1) rest ∙ further_some (length (d ∷ body) + 2) 1 (omega arith) ∙ omega arith

-- the first end in a text, and what stands before and behind it
pub record End (text : Bytes) (size : ℕ) : Type 0 where
  pub body : Bytes
  pub rest : Bytes
  pub cut : text ≡ body ++ 42 ∷ 47 ∷ rest
  pub plain : holds_comment_end body ≡ false
  pub sized : size ≡ length body + 2

zero_clash : {A : Type 0} (k : ℕ) → 0 ≡ suc k → A
zero_clash k e = absurd (omega arith)

more_plain : (c d : ℕ) (cs body rest : Bytes) → (c == 42 && d == 47) ≡ false → d ∷ cs ≡ body ++ 42 ∷ 47 ∷ rest → holds_comment_end body ≡ false → holds_comment_end (c ∷ body) ≡ false
more_plain c d cs [] rest apart cut plain = or_from (c == 42 && false) false (and_right (c == 42) false refl) refl
more_plain c d cs (b ∷ body) rest apart cut plain =
    let whole : d ∷ cs ≡ b ∷ (body ++ 42 ∷ 47 ∷ rest) = cut in
    let heads : d ≡ b = cc in
    or_from (c == 42 && (b == 47 && true)) (holds_comment_end (b ∷ body))
    (pair_test (c == 42) (b == 47) ∙ ap (λ (x : ℕ). c == 42 && x == 47) (sym heads) ∙ apart) plain

end_here : (c d : ℕ) (cs : Bytes) (k : ℕ) → (c == 42 && d == 47) ≡ true → comment_end (c ∷ d ∷ cs) ≡ suc k → End (c ∷ d ∷ cs) (suc k)
end_here c d cs k e is =
    let parts = and_parts (c == 42) (d == 47) e in
    let first : c ≡ 42 = eqb-true c 42 parts.0 in
    let second : d ≡ 47 = eqb-true d 47 parts.1 in
    let both : c ∷ d ∷ cs ≡ 42 ∷ 47 ∷ cs = cc in
    record {
      body = [];
      rest = cs;
      cut = both;
      plain = refl;
      sized = sym is ∙ end_branch true c d cs e;
    }

end_later : (c d : ℕ) (cs : Bytes) (k n : ℕ) → (c == 42 && d == 47) ≡ false → comment_end (c ∷ d ∷ cs) ≡ suc k → comment_end (d ∷ cs) ≡ n
    → ((j : ℕ) → n ≡ suc j → End (d ∷ cs) (suc j)) → End (c ∷ d ∷ cs) (suc k)
end_later c d cs k zero e is rest behind = zero_clash k (sym (ap (further 1) rest) ∙ sym (end_branch false c d cs e) ∙ is)
end_later c d cs k (suc j) e is rest behind =
    let found = behind j refl in
    let size : suc j + 1 ≡ suc k = sym (ap (further 1) rest) ∙ sym (end_branch false c d cs e) ∙ is in
    record {
      body = c ∷ found.body;
      rest = found.rest;
      cut = ap (λ (xs : Bytes). c ∷ xs) found.cut;
      plain = more_plain c d cs found.body found.rest e found.cut found.plain;
      sized = omega (arith, found.sized, size);
    }

pub end_found : (text : Bytes) (k : ℕ) → comment_end text ≡ suc k → End text (suc k)
end_found [] k is = zero_clash k is
end_found (c ∷ []) k is = zero_clash k is
end_found (c ∷ d ∷ cs) k is =
    elim (cases_Bool (c == 42 && d == 47)) [
      | inl e ↦ end_here c d cs k e is
      | inr e ↦ end_later c d cs k (comment_end (d ∷ cs)) e is refl (λ j n. end_found (d ∷ cs) j n)
    ]

two_zero : (n : ℕ) → n ≡ 2 → n ≡ 0 → ⊥
two_zero n e f = omega arith

further_none : (n k : ℕ) → further k n ≡ 0 → 0 < k → n ≡ 0
further_none zero k e some = refl
further_none (suc n) k e some = absurd (omega arith)

-- where no end is found there is none
pub no_end : (text : Bytes) → comment_end text ≡ 0 → holds_comment_end text ≡ false
no_end [] is = refl
no_end (c ∷ []) is = or_from (c == 42 && false) false (and_right (c == 42) false refl) refl
no_end (c ∷ d ∷ cs) is =
    elim (cases_Bool (c == 42 && d == 47)) [
      | inl e ↦ absurd (two_zero (comment_end (c ∷ d ∷ cs)) (end_branch true c d cs e) is)
      | inr e ↦
          let rest : further 1 (comment_end (d ∷ cs)) ≡ 0 = sym (end_branch false c d cs e) ∙ is in
          or_from (c == 42 && (d == 47 && true)) (holds_comment_end (d ∷ cs)) (pair_test (c == 42) (d == 47) ∙ e)
          (no_end (d ∷ cs) (further_none (comment_end (d ∷ cs)) 1 rest (omega arith)))
    ]

-- ---- blanks and comments

record Blank (s : Bytes) : Type 0 where
  byte : ℕ
  cut : s ≡ byte ∷ []
  blank : is_blank_byte byte ≡ true

blank_of : (s : Bytes) (c : ℕ) → bytes_eq s (c ∷ []) ≡ true → is_blank_byte c ≡ true → Blank s
blank_of s c e is = record { byte = c; cut = same_bytes s (c ∷ []) e; blank = is }

blank_parts : (s : Bytes) → is_blank_piece s ≡ true → Blank s
blank_parts s e =
    elim (or_cases (bytes_eq s (32 ∷ []) || bytes_eq s (9 ∷ []) || bytes_eq s (13 ∷ [])) (bytes_eq s (10 ∷ [])) e) [
      | inr f ↦ blank_of s 10 f refl
      | inl f ↦ elim (or_cases (bytes_eq s (32 ∷ []) || bytes_eq s (9 ∷ [])) (bytes_eq s (13 ∷ [])) f) [
        | inr g ↦ blank_of s 13 g refl
        | inl g ↦ elim (or_cases (bytes_eq s (32 ∷ [])) (bytes_eq s (9 ∷ [])) g) [
          | inr h ↦ blank_of s 9 h refl
          | inl h ↦ blank_of s 32 h refl
        ]
      ]
    ]

blank_bools : (w x y z : Bool) → (w || x || y || z) ≡ true → ((w && true) || (x && true) || (y && true) || (z && true)) ≡ true
blank_bools true x y z e = refl
blank_bools false true y z e = refl
blank_bools false false true z e = refl
blank_bools false false false true e = refl
blank_bools false false false false e = e

blank_is : (c : ℕ) → is_blank_byte c ≡ true → is_blank_piece (c ∷ []) ≡ true
blank_is c e = blank_bools (c == 32) (c == 9) (c == 13) (c == 10) e

record Comment (s : Bytes) : Type 0 where
  body : Bytes
  cut : s ≡ 47 ∷ 42 ∷ (body ++ 42 ∷ 47 ∷ [])
  plain : holds_comment_end body ≡ false

comment_of : (a b : ℕ) (q : Bytes) → 2 ≤ length q → bytes_eq (a ∷ b ∷ []) (codes "/*") ≡ true → bytes_eq (drop (length q - 2) q) (codes "*/") ≡ true
    → holds_comment_end (take (length q - 2) q) ≡ false → Comment (a ∷ b ∷ q)
comment_of a b q long opens closes plain =
    let front : a ∷ b ∷ [] ≡ 47 ∷ 42 ∷ [] = same_bytes (a ∷ b ∷ []) (codes "/*") opens in
    let back : drop (length q - 2) q ≡ 42 ∷ 47 ∷ [] = same_bytes (drop (length q - 2) q) (codes "*/") closes in
    let rest : q ≡ take (length q - 2) q ++ 42 ∷ 47 ∷ [] = sym (take-append-drop (length q - 2) q) ∙ ap (λ (xs : Bytes). take (length q - 2) q ++ xs) back in
    let first : a ≡ 47 = cc in
    let second : b ≡ 42 = cc in
    let both : a ∷ b ∷ q ≡ 47 ∷ 42 ∷ (take (length q - 2) q ++ 42 ∷ 47 ∷ []) = cc in
    record { body = take (length q - 2) q; cut = both; plain = plain }

drop_two : (n : ℕ) (a b : ℕ) (q : Bytes) → 2 ≤ n → drop n (a ∷ b ∷ q) ≡ drop (n - 2) q
drop_two zero a b q long = absurd (omega arith)
drop_two (suc zero) a b q long = absurd (omega arith)
drop_two (suc (suc n)) a b q long = ap (λ (k : ℕ). drop k q) (omega arith)

comment_parts : (s : Bytes) → is_comment s ≡ true → Comment s
comment_parts [] e = clash e
comment_parts (a ∷ []) e = clash e
comment_parts (a ∷ b ∷ q) e =
    let s : Bytes = a ∷ b ∷ q in
    let one = and_parts (nat_le 4 (length s) && opens_comment s && closes_comment s) (not (holds_comment_end (take (length s - 4) (drop 2 s)))) e in
    let two = and_parts (nat_le 4 (length s) && opens_comment s) (closes_comment s) one.0 in
    let three = and_parts (nat_le 4 (length s)) (opens_comment s) two.0 in
    let size : 4 ≤ length s = leb-true 4 (length s) three.0 in
    let long : 2 ≤ length q = omega arith in
    let places : length s - 4 ≡ length q - 2 = omega arith in
    let plain : holds_comment_end (take (length s - 4) q) ≡ false = not-true _ one.1 in
    let less : length s - 2 ≡ length q = omega arith in
    let closes : drop (length s - 2) s ≡ drop (length q - 2) q = ap (λ (k : ℕ). drop k s) less ∙ drop_two (length q) a b q long in
    comment_of a b q long three.1 (ap (λ (xs : Bytes). bytes_eq xs (codes "*/")) (sym closes) ∙ two.1)
    (ap (λ (k : ℕ). holds_comment_end (take k q)) (sym places) ∙ plain)

-- a comment of this body is one
comment_is : (body : Bytes) → holds_comment_end body ≡ false → is_comment (47 ∷ 42 ∷ (body ++ 42 ∷ 47 ∷ [])) ≡ true
comment_is body plain =
    let q : Bytes = body ++ 42 ∷ 47 ∷ [] in
    let s : Bytes = 47 ∷ 42 ∷ q in
    let size : length q ≡ length body + 2 = length-append body (42 ∷ 47 ∷ []) in
    let less : length s - 2 ≡ length q = omega arith in
    let least : length s - 4 ≡ length body = omega arith in
    let back : drop (length s - 2) s ≡ 42 ∷ 47 ∷ [] =
    ap (λ (k : ℕ). drop k s) less ∙ drop_two (length q) 47 42 q (omega arith) ∙ drop_at body (42 ∷ 47 ∷ []) (length q - 2) (omega arith) in
    let inner : take (length s - 4) q ≡ body = take_at body (42 ∷ 47 ∷ []) (length s - 4) (sym least) in
    and_from (nat_le 4 (length s) && opens_comment s && closes_comment s) (not (holds_comment_end (take (length s - 4) (drop 2 s))))
    (and_from (nat_le 4 (length s) && opens_comment s) (closes_comment s)
    (and_from (nat_le 4 (length s)) (opens_comment s) (le-leb 4 (length s) (omega arith)) refl)
    (ap (λ (xs : Bytes). bytes_eq xs (codes "*/")) back))
    (not_from_false _ (ap holds_comment_end inner ∙ plain))

-- ---- the piece at the front

blank_size : (c : ℕ) (left : Bytes) → is_blank_byte c ≡ true → piece_size (c ∷ left) ≡ 1
blank_size c [] e = cond-true (is_blank_byte c) 1 0 e
blank_size c (d ∷ ds) e = cond-true (is_blank_byte c) 1 _ e

-- a piece at the front is the one that is found
pub piece_is_found : (p left : Bytes) → is_piece p ≡ true → piece_size (p ++ left) ≡ length p
piece_is_found p left e =
    elim (or_cases (is_blank_piece p) (is_comment p) e) [
      | inl f ↦
          let b = blank_parts p f in
          ap (λ (xs : Bytes). piece_size (xs ++ left)) b.cut ∙ blank_size b.byte left b.blank ∙ sym (ap length b.cut)
      | inr f ↦
          let k = comment_parts p f in
          let size : length p ≡ length k.body + 4 = omega (arith, ap length k.cut, length-append k.body (42 ∷ 47 ∷ [])) in
          let text : p ++ left ≡ 47 ∷ 42 ∷ (k.body ++ 42 ∷ 47 ∷ left) =
          ap (λ (xs : Bytes). xs ++ left) k.cut ∙ ap (λ (xs : Bytes). 47 ∷ 42 ∷ xs) (append_assoc k.body (42 ∷ 47 ∷ []) left) in
          ap piece_size text ∙ ap (further 2) (end_of_body k.body left k.plain) ∙ further_some (length k.body + 2) 2 (omega arith) ∙ omega (arith, size)
    ]

comment_front : (text : Bytes) (k : ℕ) → comment_end text ≡ suc k → is_piece (take (suc k + 2) (47 ∷ 42 ∷ text)) ≡ true
comment_front text k is =
    let found = end_found text k is in
    let whole : 47 ∷ 42 ∷ text ≡ (47 ∷ 42 ∷ (found.body ++ 42 ∷ 47 ∷ [])) ++ found.rest =
    ap (λ (xs : Bytes). 47 ∷ 42 ∷ xs) (found.cut ∙ sym (append_assoc found.body (42 ∷ 47 ∷ []) found.rest)) in
    let size : length (47 ∷ 42 ∷ (found.body ++ 42 ∷ 47 ∷ [])) ≡ suc k + 2 = omega (arith, found.sized, length-append found.body (42 ∷ 47 ∷ [])) in
    let front : take (suc k + 2) (47 ∷ 42 ∷ text) ≡ 47 ∷ 42 ∷ (found.body ++ 42 ∷ 47 ∷ []) =
    ap (λ (xs : Bytes). take (suc k + 2) xs) whole ∙ take_at (47 ∷ 42 ∷ (found.body ++ 42 ∷ 47 ∷ [])) found.rest (suc k + 2) size in
    ap is_piece front ∙ or_right (is_blank_piece (47 ∷ 42 ∷ (found.body ++ 42 ∷ 47 ∷ []))) (is_comment (47 ∷ 42 ∷ (found.body ++ 42 ∷ 47 ∷ []))) (comment_is found.body found.plain)

take_one : (c : ℕ) (cs : Bytes) → take 1 (c ∷ cs) ≡ c ∷ []
take_one c cs = refl

blank_front : (c : ℕ) (cs : Bytes) → is_blank_byte c ≡ true → is_piece (take (piece_size (c ∷ cs)) (c ∷ cs)) ≡ true
blank_front c cs e =
    let front : take (piece_size (c ∷ cs)) (c ∷ cs) ≡ c ∷ [] = ap (λ (n : ℕ). take n (c ∷ cs)) (blank_size c cs e) in
    ap is_piece front ∙ or_left (is_blank_piece (c ∷ [])) (is_comment (c ∷ [])) (blank_is c e)

slash_front : (c d : ℕ) (cs : Bytes) (n : ℕ) → (c == 47 && d == 42) ≡ true → comment_end cs ≡ n → 0 < further 2 n → is_piece (take (further 2 n) (c ∷ d ∷ cs)) ≡ true
slash_front c d cs zero e is some = absurd (omega arith)
slash_front c d cs (suc k) e is some =
    let parts = and_parts (c == 47) (d == 42) e in
    let first : c ≡ 47 = eqb-true c 47 parts.0 in
    let second : d ≡ 42 = eqb-true d 42 parts.1 in
    let both : c ∷ d ∷ cs ≡ 47 ∷ 42 ∷ cs = cc in
    ap (λ (xs : Bytes). is_piece (take (suc k + 2) xs)) both ∙ comment_front cs k is

-- what is found is a piece
pub found_is_piece : (text : Bytes) → 0 < piece_size text → is_piece (take (piece_size text) text) ≡ true
found_is_piece [] some = absurd (omega arith)
found_is_piece (c ∷ []) some =
    elim (cases_Bool (is_blank_byte c)) [
      | inl e ↦ blank_front c [] e
      | inr e ↦ let none : piece_size (c ∷ []) ≡ 0 = cond-false (is_blank_byte c) 1 0 e in absurd (omega arith)
    ]
found_is_piece (c ∷ d ∷ cs) some =
    elim (cases_Bool (is_blank_byte c)) [
      | inl e ↦ blank_front c (d ∷ cs) e
      | inr e ↦
          let other : piece_size (c ∷ d ∷ cs) ≡ cond (c == 47 && d == 42) (further 2 (comment_end cs)) 0 = cond-false (is_blank_byte c) 1 _ e in
          elim (cases_Bool (c == 47 && d == 42)) [
            | inl f ↦
                let size : piece_size (c ∷ d ∷ cs) ≡ further 2 (comment_end cs) = other ∙ cond-true (c == 47 && d == 42) _ 0 f in
                ap (λ (n : ℕ). is_piece (take n (c ∷ d ∷ cs))) size
                ∙ slash_front c d cs (comment_end cs) f refl (omega (arith, size))
            | inr f ↦ let none : piece_size (c ∷ d ∷ cs) ≡ 0 = other ∙ cond-false (c == 47 && d == 42) _ 0 f in absurd (omega arith)
          ]
    ]

-- ---- the longest gap

piece_some : (p : Bytes) → is_piece p ≡ true → 0 < length p
piece_some [] e = clash e
piece_some (c ∷ cs) e = omega arith

pieces_within : (ps qs : List Bytes) (left rest : Bytes) → list_all is_piece ps ≡ true → list_all is_piece qs ≡ true
    → concat ps ++ left ≡ concat qs ++ rest → piece_size rest ≡ 0 → length (concat ps) ≤ length (concat qs)
pieces_within [] qs left rest p q same none = omega arith
pieces_within (a ∷ ps) [] left rest p q same none =
    let parts = and_parts (is_piece a) (list_all is_piece ps) p in
    let text : a ++ (concat ps ++ left) ≡ rest = sym (append_assoc a (concat ps) left) ∙ same in
    let size : piece_size rest ≡ length a = ap piece_size (sym text) ∙ piece_is_found a (concat ps ++ left) parts.0 in
    let some : 0 < length a = piece_some a parts.0 in
    absurd (omega arith)
pieces_within (a ∷ ps) (b ∷ qs) left rest p q same none =
    let one = and_parts (is_piece a) (list_all is_piece ps) p in
    let two = and_parts (is_piece b) (list_all is_piece qs) q in
    let text : a ++ (concat ps ++ left) ≡ b ++ (concat qs ++ rest) = sym (append_assoc a (concat ps) left) ∙ same ∙ append_assoc b (concat qs) rest in
    let sizes : length a ≡ length b =
    sym (piece_is_found a (concat ps ++ left) one.0) ∙ ap piece_size text ∙ piece_is_found b (concat qs ++ rest) two.0 in
    let cuts : (a ≡ b) × (concat ps ++ left ≡ concat qs ++ rest) = same_cut a (concat ps ++ left) b (concat qs ++ rest) text sizes in
    let behind : length (concat ps) ≤ length (concat qs) = pieces_within ps qs left rest one.1 two.1 cuts.1 none in
    let a_size : length (concat (a ∷ ps)) ≡ length a + length (concat ps) = length-append a (concat ps) in
    let b_size : length (concat (b ∷ qs)) ≡ length b + length (concat qs) = length-append b (concat qs) in
    omega arith

-- a gap behind which no piece stands is the longest
pub gap_stops : (gap rest : Bytes) → IsGap gap → piece_size rest ≡ 0 → IsLongest IsGap gap rest
gap_stops gap rest (qs, whole, all) none = record {
  is = (qs, whole, all);
  longest = λ other left same is.
      let text : concat is.0 ++ left ≡ concat qs ++ rest =
      ap (λ (xs : Bytes). xs ++ left) (sym is.1) ∙ same ∙ ap (λ (xs : Bytes). xs ++ rest) whole in
      let within : length (concat is.0) ≤ length (concat qs) = pieces_within is.0 qs left rest is.2 all text none in
      let front : length other ≡ length (concat is.0) = ap length is.1 in
      let size : length gap ≡ length (concat qs) = ap length whole in
      omega arith;
}

-- no gap, and a gap with one more piece
pub gap_none : IsGap []
gap_none = ([], refl, refl)

concat_push : (ps : List Bytes) (p : Bytes) → concat (ps ++ p ∷ []) ≡ concat ps ++ p
concat_push [] p = append-nil p
concat_push (a ∷ ps) p = ap (λ (xs : Bytes). a ++ xs) (concat_push ps p) ∙ sym (append_assoc a (concat ps) p)

all_push : (ps : List Bytes) (p : Bytes) → list_all is_piece ps ≡ true → is_piece p ≡ true → list_all is_piece (ps ++ p ∷ []) ≡ true
all_push [] p e f = and_from (is_piece p) true f refl
all_push (a ∷ ps) p e f =
    let parts = and_parts (is_piece a) (list_all is_piece ps) e in
    and_from (is_piece a) (list_all is_piece (ps ++ p ∷ [])) parts.0 (all_push ps p parts.1 f)

pub gap_more : (gap p : Bytes) → IsGap gap → is_piece p ≡ true → IsGap (gap ++ p)
gap_more gap p (ps, whole, all) is =
    (ps ++ p ∷ [], ap (λ (xs : Bytes). xs ++ p) whole ∙ sym (concat_push ps p), all_push ps p all is)

-- ---- a step over a piece

add_less : (m n : ℕ) → 0 < n → m + (n - 1) ≡ m + n - 1
add_less m n some = omega arith

take_more : (m n : ℕ) (xs : Bytes) → take (m + n) xs ≡ take m xs ++ take n (drop m xs)
take_more m n xs =
    sym (take-append-drop m (take (m + n) xs))
    ∙ ap (λ (ys : Bytes). ys ++ drop m (take (m + n) xs)) (take-take m (m + n) xs (omega arith))
    ∙ ap (λ (ys : Bytes). take m xs ++ ys) (drop-take m n xs)

pub gap_grows : (text : Bytes) (passed size : ℕ) → IsGap (take passed text) → size ≡ piece_size (drop passed text) → 0 < size → IsGap (take (passed + size) text)
gap_grows text passed size gap is some =
    let piece : is_piece (take size (drop passed text)) ≡ true =
    ap (λ (n : ℕ). is_piece (take n (drop passed text))) is ∙ found_is_piece (drop passed text) (omega arith) in
    subst IsGap (sym (take_more passed size text)) (gap_more (take passed text) (take size (drop passed text)) gap piece)

blank_ascii : (c : ℕ) → is_blank_byte c ≡ true → c < 128
blank_ascii c e = grind (arith, nat_tests)

last_of_comment : (body : Bytes) → get_or (47 ∷ 42 ∷ (body ++ 42 ∷ 47 ∷ [])) (length (47 ∷ 42 ∷ (body ++ 42 ∷ 47 ∷ [])) - 1) 0 ≡ 47
last_of_comment body =
    let s : Bytes = 47 ∷ 42 ∷ (body ++ 42 ∷ 47 ∷ []) in
    let cut : s ≡ (47 ∷ 42 ∷ (body ++ 42 ∷ [])) ++ 47 ∷ [] = ap (λ (xs : Bytes). 47 ∷ 42 ∷ xs) (sym (append_assoc body (42 ∷ []) (47 ∷ []))) in
    let size : length (47 ∷ 42 ∷ (body ++ 42 ∷ [])) ≡ length s - 1 = omega (arith, length-append body (42 ∷ []), length-append body (42 ∷ 47 ∷ [])) in
    ap (λ (xs : Bytes). get_or xs (length s - 1) 0) cut ∙ get_or_at (47 ∷ 42 ∷ (body ++ 42 ∷ [])) 47 [] 0 (length s - 1) size

-- the last byte of a piece is ASCII
piece_ascii : (p : Bytes) → is_piece p ≡ true → get_or p (length p - 1) 0 < 128
piece_ascii p e =
    elim (or_cases (is_blank_piece p) (is_comment p) e) [
      | inl f ↦
          let b = blank_parts p f in
          let last : get_or p (length p - 1) 0 ≡ b.byte = ap (λ (xs : Bytes). get_or xs (length xs - 1) 0) b.cut in
          omega (arith, last, blank_ascii b.byte b.blank)
      | inr f ↦
          let k = comment_parts p f in
          let last : get_or p (length p - 1) 0 ≡ 47 = ap (λ (xs : Bytes). get_or xs (length xs - 1) 0) k.cut ∙ last_of_comment k.body in
          omega arith
    ]

pub gap_ends : (text : Bytes) (passed size : ℕ) → size ≡ piece_size (drop passed text) → 0 < size → size ≤ length (drop passed text) → get_or text (passed + size - 1) 0 < 128
gap_ends text passed size is some fits =
    let piece : is_piece (take size (drop passed text)) ≡ true =
    ap (λ (n : ℕ). is_piece (take n (drop passed text))) is ∙ found_is_piece (drop passed text) (omega arith) in
    let last : get_or (take size (drop passed text)) (length (take size (drop passed text)) - 1) 0 < 128 = piece_ascii (take size (drop passed text)) piece in
    let whole : length (take size (drop passed text)) ≡ size = length-take-le size (drop passed text) fits in
    let here : get_or (take size (drop passed text)) (length (take size (drop passed text)) - 1) 0 ≡ get_or (drop passed text) (size - 1) 0 =
    ap (λ (n : ℕ). get_or (take size (drop passed text)) (n - 1) 0) whole ∙ get_or-take size (drop passed text) (size - 1) 0 (omega arith) in
    let there : get_or (drop passed text) (size - 1) 0 ≡ get_or text (passed + size - 1) 0 =
    get_or-drop passed text (size - 1) 0 ∙ ap (λ (n : ℕ). get_or text n 0) (add_less passed size some) in
    omega arith
