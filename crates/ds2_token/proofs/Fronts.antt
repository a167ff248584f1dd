-- The form that is found at the front of a text has the spelling of its kind, and no longer form stands there.
use Rattle.std.proofs.Common.{◌≡◌, ℕ, suc, ◌+◌, ◌-◌, ◌<◌, ◌≤◌, inl, inr, Bool, true, false, cond, ◌&&◌, not, [], ◌∷◌, ◌++◌, length, take, drop, get_or, Some, Result, Ok, Err, refl, sym, ap, ◌∙◌, arith, append_assoc}
use Rattle.std.specs.Prelude.{◌==◌, nat_le, nat_lt, slice_index}
use Rattle.std.specs.List.{list_all, prefix_len}
use Rattle.std.specs.Char.{is_ascii_digit}
use Rattle.std.proofs.lemmas.Bool.{and_parts, and_from, or_cases, or_left, or_right, eqb-true, eq-eqb, leb-true, le-leb, ltb-true, ltb-false, not-true, not_from_false, cases_Bool, cond-true, cond-false, cond_both, both_ways, false_from_ne_true}
use Rattle.std.proofs.lemmas.Bool.Decides.{nat_tests}
use Rattle.std.proofs.lemmas.List.{length-append, length-take-le, take-append-drop, take_at, take_all, get_or_at}
use Rattle.std.proofs.lemmas.List.Sums.{prefix_len-le-length, prefix_len_passes}
use Rattle.ds2_base.specs.Bytes.{Bytes}
use Rattle.ds2_token.specs.declared.kinds.TokenKind.{TokenKind}
use Rattle.ds2_token.specs.declared.kinds.TokenKind.TheVariants.{Word, Quoted, Text}
use Rattle.ds2_token.specs.declared.kinds.LexKind.{LexKind}
use Rattle.ds2_token.specs.declared.kinds.LexKind.TheVariants.{OpenText}
use Rattle.ds2_token.specs.declared.scan.Found.{Found}
use Rattle.ds2_token.specs.Forms.{is_word_letter, is_word_part, is_word_form, is_enclosed, between_quotes, begins_with, holds_double_quote, is_paired, is_quoted_form, is_text_form, is_open_form, form_of}
use Rattle.ds2_token.specs.Scan.{before_double_quote, quoted_found, paired_len, text_found, token_found, fault_found}
use Rattle.ds2_token.specs.Standing.{IsForm}
use Rattle.ds2_token.proofs.Runs.{run_size_yes, run_all, run_within, run_stop, none_from_all, all_from_none}
use Rattle.ds2_token.proofs.Heads

-- what is said of a form that was found
pub record There (text : Bytes) (f : Found) : Type 0 where
  pub some : 0 < f.size
  pub fits : f.size ≤ length text
  pub form : form_of (take f.size text) ≡ Some f.form
  pub longest : (other left : Bytes) → other ++ left ≡ text → IsForm other → length other ≤ f.size
  -- a token ends in an ASCII byte
  pub ends : (kind : TokenKind) → f.form ≡ Ok kind → get_or text (f.size - 1) 0 < 128

-- the first bytes of one text
pub first_same : (c o : ℕ) (cs os left : Bytes) → (o ∷ os) ++ left ≡ c ∷ cs → o ≡ c
first_same c o cs os left e = let whole : o ∷ (os ++ left) ≡ c ∷ cs = e in cc

pub rest_same : (c o : ℕ) (cs os left : Bytes) → (o ∷ os) ++ left ≡ c ∷ cs → os ++ left ≡ cs
rest_same c o cs os left e = let whole : o ∷ (os ++ left) ≡ c ∷ cs = e in cc

-- all of a text is the longest
pub whole_longest : (text other left : Bytes) → other ++ left ≡ text → length other ≤ length text
whole_longest text other left e = omega (arith, ap length (sym e), length-append other left)

-- what a fault says of tokens
abbrev pub refused : LexKind → Result TokenKind LexKind
refused fault = Err fault

fault_never : (kind : TokenKind) (fault : LexKind) → refused fault ≡ Ok kind → ⊥
fault_never kind fault e = cc

pub fault_kind : {A : Type 0} (kind : TokenKind) (fault : LexKind) → refused fault ≡ Ok kind → A
fault_kind kind fault e = absurd (fault_never kind fault e)

not_false_true : (b : Bool) → not b ≡ false → b ≡ true
not_false_true true e = refl
not_false_true false e = sym e

-- the byte at which what follows begins
last_of : (k : ℕ) (cs : Bytes) (q : ℕ) (after : Bytes) → k ≤ length cs → drop k cs ≡ q ∷ after → get_or cs k 0 ≡ q
last_of k cs q after fits cut =
    ap (λ (xs : Bytes). get_or xs k 0) (sym (take-append-drop k cs) ∙ ap (λ (xs : Bytes). take k cs ++ xs) cut)
    ∙ get_or_at (take k cs) q after 0 k (length-take-le k cs fits)

next_less : (k : ℕ) → k + 2 - 1 ≡ suc k
next_less k = omega arith

-- ---- words

letter_part : (c : ℕ) → is_word_letter c ≡ true → is_word_part c ≡ true
letter_part c e = or_left (is_word_letter c) (is_ascii_digit c) e

word_bound : (c : ℕ) (cs other left : Bytes) → is_word_letter c ≡ true → other ++ left ≡ c ∷ cs → IsForm other → length other ≤ prefix_len is_word_part (c ∷ cs)
word_bound c cs [] left e same is = omega arith
word_bound c cs (o ∷ os) left e same (form, is) =
    let first : o ≡ c = first_same c o cs os left same in
    let class : Heads.class_of o ≡ 0 = ap Heads.class_of first ∙ Heads.letter_class c e in
    let word : is_word_form (o ∷ os) ≡ true = Heads.at_letter o os form class is in
    let parts = and_parts (is_word_letter o) (list_all is_word_part os) word in
    let all : list_all is_word_part (o ∷ os) ≡ true = and_from (is_word_part o) (list_all is_word_part os) (letter_part o parts.0) parts.1 in
    let within : length (o ∷ os) ≤ prefix_len is_word_part ((o ∷ os) ++ left) = run_within is_word_part (o ∷ os) left all in
    let here : prefix_len is_word_part ((o ∷ os) ++ left) ≡ prefix_len is_word_part (c ∷ cs) = ap (prefix_len is_word_part) same in
    omega arith

part_ascii : (c : ℕ) → is_word_part c ≡ true → c < 128
part_ascii c e = grind (arith, nat_tests)

pub word_there : (c : ℕ) (cs : Bytes) → is_word_letter c ≡ true → There (c ∷ cs) (token_found Word (prefix_len is_word_part (c ∷ cs)))
word_there c cs e =
    let size : prefix_len is_word_part (c ∷ cs) ≡ suc (prefix_len is_word_part cs) = run_size_yes is_word_part c cs (letter_part c e) in
    let front : take (prefix_len is_word_part (c ∷ cs)) (c ∷ cs) ≡ c ∷ take (prefix_len is_word_part cs) cs = ap (λ (n : ℕ). take n (c ∷ cs)) size in
    let word : is_word_form (c ∷ take (prefix_len is_word_part cs) cs) ≡ true =
    and_from (is_word_letter c) (list_all is_word_part (take (prefix_len is_word_part cs) cs)) e (run_all is_word_part cs) in
    record {
      some = omega arith;
      fits = prefix_len-le-length is_word_part (c ∷ cs);
      form = ap form_of front ∙ Heads.word_form (c ∷ take (prefix_len is_word_part cs) cs) word;
      longest = λ other left same is. word_bound c cs other left e same is;
      ends = λ kind f. part_ascii (get_or (c ∷ cs) (prefix_len is_word_part (c ∷ cs) - 1) 0)
          (prefix_len_passes is_word_part (c ∷ cs) (prefix_len is_word_part (c ∷ cs) - 1) 0 (omega arith));
    }

-- ---- quotes

enclosed_is : (q : ℕ) (body : Bytes) → is_enclosed q (q ∷ (body ++ q ∷ [])) ≡ true
enclosed_is q body =
    let s : Bytes = q ∷ (body ++ q ∷ []) in
    let size : length s ≡ length body + 2 = omega (arith, length-append body (q ∷ [])) in
    let last : slice_index s (length s - 1) ≡ q = get_or_at (q ∷ body) q [] 0 (length s - 1) (omega arith) in
    and_from (nat_le 2 (length s) && slice_index s 0 == q) (slice_index s (length s - 1) == q)
    (and_from (nat_le 2 (length s)) (q == q) (le-leb 2 (length s) (omega arith)) (eq-eqb q q refl))
    (eq-eqb (slice_index s (length s - 1)) q last)

inside_is : (q : ℕ) (body : Bytes) → between_quotes (q ∷ (body ++ q ∷ [])) ≡ body
inside_is q body =
    let s : Bytes = q ∷ (body ++ q ∷ []) in
    take_at body (q ∷ []) (length s - 2) (omega (arith, length-append body (q ∷ [])))

-- the front of a text behind whose first byte body and this byte follow
enclosed_front : (q : ℕ) (cs after : Bytes) (k : ℕ) → k ≤ length cs → drop k cs ≡ q ∷ after → take (k + 2) (q ∷ cs) ≡ q ∷ (take k cs ++ q ∷ [])
enclosed_front q cs after k fits cut =
    let split : cs ≡ (take k cs ++ q ∷ []) ++ after =
    sym (take-append-drop k cs) ∙ ap (λ (xs : Bytes). take k cs ++ xs) cut ∙ sym (append_assoc (take k cs) (q ∷ []) after) in
    let size : length (q ∷ (take k cs ++ q ∷ [])) ≡ k + 2 = omega (arith, length-append (take k cs) (q ∷ []), length-take-le k cs fits) in
    ap (λ (xs : Bytes). take (k + 2) (q ∷ xs)) split ∙ take_at (q ∷ (take k cs ++ q ∷ [])) after (k + 2) size

abbrev not_double : ℕ → Bool
not_double c = not (c == 34)

quoted_bound : (cs other left : Bytes) → other ++ left ≡ 34 ∷ cs → IsForm other → length other ≤ before_double_quote cs + 2
quoted_bound cs [] left same is = omega arith
quoted_bound cs (o ∷ os) left same (form, is) =
    let first : o ≡ 34 = first_same 34 o cs os left same in
    let rest : os ++ left ≡ cs = rest_same 34 o cs os left same in
    elim (Heads.at_double o os form (Heads.double_class o first) is) [
      | inl quoted ↦
          let m : ℕ = length (o ∷ os) - 2 in
          let parts = and_parts (is_enclosed 34 (o ∷ os)) (not (holds_double_quote (between_quotes (o ∷ os)))) quoted in
          let all : list_all not_double (take m os) ≡ true = all_from_none (λ c. c == 34) (take m os) (not-true (holds_double_quote (take m os)) parts.1) in
          let cut : take m os ++ (drop m os ++ left) ≡ cs =
          sym (append_assoc (take m os) (drop m os) left) ∙ ap (λ (xs : Bytes). xs ++ left) (take-append-drop m os) ∙ rest in
          let within : length (take m os) ≤ prefix_len not_double (take m os ++ (drop m os ++ left)) = run_within not_double (take m os) (drop m os ++ left) all in
          let here : prefix_len not_double (take m os ++ (drop m os ++ left)) ≡ before_double_quote cs = ap (prefix_len not_double) cut in
          let size : length (take m os) ≡ m = length-take-le m os (omega arith) in
          omega arith
      | inr unclosed ↦
          elim (or_cases (o == 34 && not (holds_double_quote os)) (o == 39 && is_paired os) unclosed) [
            | inl e ↦
                let parts = and_parts (o == 34) (not (holds_double_quote os)) e in
                let all : list_all not_double os ≡ true = all_from_none (λ c. c == 34) os (not-true (holds_double_quote os) parts.1) in
                let within : length os ≤ prefix_len not_double (os ++ left) = run_within not_double os left all in
                let here : prefix_len not_double (os ++ left) ≡ before_double_quote cs = ap (prefix_len not_double) rest in
                omega arith
            | inr e ↦
                let other : o ≡ 39 = eqb-true o 39 (and_parts (o == 39) (is_paired os) e).0 in
                absurd (omega arith)
          ]
    ]

double_stop : (c : ℕ) → not_double c ≡ false → c ≡ 34
double_stop c e = eqb-true c 34 (not_false_true (c == 34) e)

closed_quoted : (cs : Bytes) → before_double_quote cs < length cs → There (34 ∷ cs) (token_found Quoted (before_double_quote cs + 2))
closed_quoted cs short =
    let k : ℕ = before_double_quote cs in
    let stop = run_stop not_double cs short in
    let byte : stop.byte ≡ 34 = double_stop stop.byte stop.stops in
    let cut : drop k cs ≡ 34 ∷ stop.rest = stop.cut ∙ ap (λ (c : ℕ). c ∷ stop.rest) byte in
    let front : take (k + 2) (34 ∷ cs) ≡ 34 ∷ (take k cs ++ 34 ∷ []) = enclosed_front 34 cs stop.rest k (omega arith) cut in
    let plain : holds_double_quote (take k cs) ≡ false = none_from_all (λ c. c == 34) (take k cs) (run_all not_double cs) in
    let quoted : is_quoted_form (34 ∷ (take k cs ++ 34 ∷ [])) ≡ true =
    and_from (is_enclosed 34 (34 ∷ (take k cs ++ 34 ∷ []))) (not (holds_double_quote (between_quotes (34 ∷ (take k cs ++ 34 ∷ [])))))
    (enclosed_is 34 (take k cs))
    (not_from_false (holds_double_quote (between_quotes (34 ∷ (take k cs ++ 34 ∷ [])))) (ap holds_double_quote (inside_is 34 (take k cs)) ∙ plain)) in
    let last : get_or cs k 0 ≡ 34 = last_of k cs 34 stop.rest (omega arith) cut in
    record {
      some = omega arith;
      fits = omega arith;
      form = ap form_of front ∙ Heads.quoted_form 34 (take k cs ++ 34 ∷ []) (Heads.double_class 34 refl) quoted;
      longest = λ other left same is. quoted_bound cs other left same is;
      ends = λ kind f. omega (arith, ap (λ (n : ℕ). get_or (34 ∷ cs) n 0) (next_less k), last);
    }

-- the last byte of what has one after its quote
last_after : (q : ℕ) (cs : Bytes) → 0 < length cs → slice_index (q ∷ cs) (length (q ∷ cs) - 1) ≡ get_or cs (length cs - 1) 0
last_after q [] some = absurd (omega arith)
last_after q (c ∷ cs) some =
    let up : length (q ∷ c ∷ cs) - 1 ≡ suc (length (c ∷ cs) - 1) = omega arith in
    ap (λ (n : ℕ). get_or (q ∷ c ∷ cs) n 0) up

open_quoted : (cs : Bytes) → length cs ≤ before_double_quote cs → There (34 ∷ cs) (fault_found OpenText (length cs + 1))
open_quoted cs long =
    let size : before_double_quote cs ≡ length cs = omega (arith, prefix_len-le-length not_double cs) in
    let all : list_all not_double cs ≡ true = ap (list_all not_double) (sym (take_all (before_double_quote cs) cs long)) ∙ run_all not_double cs in
    let plain : holds_double_quote cs ≡ false = none_from_all (λ c. c == 34) cs all in
    let front : take (length cs + 1) (34 ∷ cs) ≡ 34 ∷ cs = take_all (length cs + 1) (34 ∷ cs) (omega arith) in
    let not_closed : is_quoted_form (34 ∷ cs) ≡ false =
    false_from_ne_true (is_quoted_form (34 ∷ cs)) (λ is.
    let parts = and_parts (is_enclosed 34 (34 ∷ cs)) (not (holds_double_quote (between_quotes (34 ∷ cs)))) is in
    let ends = and_parts (nat_le 2 (length (34 ∷ cs)) && slice_index (34 ∷ cs) 0 == 34) (slice_index (34 ∷ cs) (length (34 ∷ cs) - 1) == 34) parts.0 in
    let long2 : 2 ≤ length (34 ∷ cs) = leb-true 2 (length (34 ∷ cs)) (and_parts (nat_le 2 (length (34 ∷ cs))) (slice_index (34 ∷ cs) 0 == 34) ends.0).0 in
    let last : get_or cs (length cs - 1) 0 ≡ 34 = sym (last_after 34 cs (omega arith)) ∙ eqb-true (slice_index (34 ∷ cs) (length (34 ∷ cs) - 1)) 34 ends.1 in
    let passes : not_double (get_or cs (length cs - 1) 0) ≡ true = prefix_len_passes not_double cs (length cs - 1) 0 (omega arith) in
    both_ways (get_or cs (length cs - 1) 0 == 34) (not-true (get_or cs (length cs - 1) 0 == 34) passes) (eq-eqb (get_or cs (length cs - 1) 0) 34 last)) in
    let not_text : is_text_form (34 ∷ cs) ≡ false = Heads.not_text 34 2 cs (Heads.double_class 34 refl) refl in
    let unclosed : is_open_form (34 ∷ cs) ≡ true =
    or_left (begins_with 34 (34 ∷ cs) && not (holds_double_quote cs)) (begins_with 39 (34 ∷ cs) && is_paired cs) (not_from_false (holds_double_quote cs) plain) in
    record {
      some = omega arith;
      fits = omega arith;
      form = ap form_of front ∙ Heads.open_form 34 2 cs (Heads.double_class 34 refl) (omega arith) (omega arith) not_closed not_text unclosed;
      longest = λ other left same is. omega (arith, whole_longest (34 ∷ cs) other left same);
      ends = λ kind f. fault_kind kind OpenText f;
    }

pub quoted_there : (cs : Bytes) → There (34 ∷ cs) (quoted_found cs)
quoted_there cs =
    cond_both (nat_lt (before_double_quote cs) (length cs)) (token_found Quoted (before_double_quote cs + 2)) (fault_found OpenText (length cs + 1)) (There (34 ∷ cs))
    (λ e. closed_quoted cs (ltb-true (before_double_quote cs) (length cs) e))
    (λ e. open_quoted cs (ltb-false (before_double_quote cs) (length cs) e))

-- ---- pairs of quotes

paired_other : (c : ℕ) (zs : Bytes) → (c == 39) ≡ false → is_paired (c ∷ zs) ≡ is_paired zs
paired_other c [] e = not_from_false (c == 39) e
paired_other c (z ∷ zs) e = cond-false (c == 39) (z == 39 && is_paired zs) (is_paired (z ∷ zs)) e

paired_len_other : (c : ℕ) (zs : Bytes) → (c == 39) ≡ false → paired_len (c ∷ zs) ≡ suc (paired_len zs)
paired_len_other c [] e = cond-false (c == 39) 0 1 e
paired_len_other c (z ∷ zs) e = cond-false (c == 39) (cond (z == 39) (paired_len zs + 2) 0) (paired_len (z ∷ zs) + 1) e ∙ omega arith

paired_len_pair : (c d : ℕ) (zs : Bytes) → (c == 39) ≡ true → (d == 39) ≡ true → paired_len (c ∷ d ∷ zs) ≡ suc (suc (paired_len zs))
paired_len_pair c d zs e f = cond-true (c == 39) (cond (d == 39) (paired_len zs + 2) 0) (paired_len (d ∷ zs) + 1) e ∙ cond-true (d == 39) (paired_len zs + 2) 0 f ∙ omega arith

paired_len_stop : (c d : ℕ) (zs : Bytes) → (c == 39) ≡ true → (d == 39) ≡ false → paired_len (c ∷ d ∷ zs) ≡ 0
paired_len_stop c d zs e f = cond-true (c == 39) (cond (d == 39) (paired_len zs + 2) 0) (paired_len (d ∷ zs) + 1) e ∙ cond-false (d == 39) (paired_len zs + 2) 0 f

paired_pair : (c d : ℕ) (zs : Bytes) → (c == 39) ≡ true → is_paired (c ∷ d ∷ zs) ≡ (d == 39 && is_paired zs)
paired_pair c d zs e = cond-true (c == 39) (d == 39 && is_paired zs) (is_paired (d ∷ zs)) e

-- what stands in pairs at the front is no longer than what is found
paired_within : (xs left : Bytes) → is_paired xs ≡ true → length xs ≤ paired_len (xs ++ left)
paired_within [] left e = omega arith
paired_within (x ∷ []) left e =
    let size : paired_len (x ∷ left) ≡ suc (paired_len left) = paired_len_other x left (not-true (x == 39) e) in
    omega arith
paired_within (x ∷ y ∷ ys) left e =
    elim (cases_Bool (x == 39)) [
      | inl f ↦
          let parts = and_parts (y == 39) (is_paired ys) (sym (paired_pair x y ys f) ∙ e) in
          let size : paired_len (x ∷ y ∷ (ys ++ left)) ≡ suc (suc (paired_len (ys ++ left))) = paired_len_pair x y (ys ++ left) f parts.0 in
          let rest : length ys ≤ paired_len (ys ++ left) = paired_within ys left parts.1 in
          omega arith
      | inr f ↦
          let size : paired_len (x ∷ (y ∷ (ys ++ left))) ≡ suc (paired_len (y ∷ (ys ++ left))) = paired_len_other x (y ∷ (ys ++ left)) f in
          let rest : length (y ∷ ys) ≤ paired_len (y ∷ (ys ++ left)) = paired_within (y ∷ ys) left (sym (paired_other x (y ∷ ys) f) ∙ e) in
          omega arith
    ]

paired_front : (cs : Bytes) → is_paired (take (paired_len cs) cs) ≡ true
paired_front [] = refl
paired_front (c ∷ []) =
    elim (cases_Bool (c == 39)) [
      | inl e ↦ ap (λ (n : ℕ). is_paired (take n (c ∷ []))) (cond-true (c == 39) 0 1 e)
      | inr e ↦ ap (λ (n : ℕ). is_paired (take n (c ∷ []))) (paired_len_other c [] e) ∙ not_from_false (c == 39) e
    ]
paired_front (c ∷ d ∷ cs) =
    elim (cases_Bool (c == 39)) [
      | inl e ↦ elim (cases_Bool (d == 39)) [
        | inl f ↦
            ap (λ (n : ℕ). is_paired (take n (c ∷ d ∷ cs))) (paired_len_pair c d cs e f)
            ∙ paired_pair c d (take (paired_len cs) cs) e
            ∙ and_from (d == 39) (is_paired (take (paired_len cs) cs)) f (paired_front cs)
        | inr f ↦ ap (λ (n : ℕ). is_paired (take n (c ∷ d ∷ cs))) (paired_len_stop c d cs e f)
      ]
      | inr e ↦
          ap (λ (n : ℕ). is_paired (take n (c ∷ d ∷ cs))) (paired_len_other c (d ∷ cs) e)
          ∙ paired_other c (take (paired_len (d ∷ cs)) (d ∷ cs)) e
          ∙ paired_front (d ∷ cs)
    ]

-- where it stops before the end, a quote stands
record QuoteAt (xs : Bytes) : Type 0 where
  rest : Bytes
  cut : xs ≡ 39 ∷ rest

quote_at : (c : ℕ) (cs : Bytes) → (c == 39) ≡ true → QuoteAt (c ∷ cs)
quote_at c cs e = record { rest = cs; cut = ap (λ (x : ℕ). x ∷ cs) (eqb-true c 39 e) }

quote_along : (xs ys : Bytes) → xs ≡ ys → QuoteAt ys → QuoteAt xs
quote_along xs ys e is = record { rest = is.rest; cut = e ∙ is.cut }

paired_stop : (cs : Bytes) → paired_len cs < length cs → QuoteAt (drop (paired_len cs) cs)
paired_stop [] short = absurd (omega arith)
paired_stop (c ∷ []) short =
    elim (cases_Bool (c == 39)) [
      | inl e ↦ quote_along (drop (paired_len (c ∷ [])) (c ∷ [])) (c ∷ []) (ap (λ (n : ℕ). drop n (c ∷ [])) (cond-true (c == 39) 0 1 e)) (quote_at c [] e)
      | inr e ↦ absurd (omega (arith, paired_len_other c [] e))
    ]
paired_stop (c ∷ d ∷ cs) short =
    elim (cases_Bool (c == 39)) [
      | inl e ↦ elim (cases_Bool (d == 39)) [
        | inl f ↦
            let size : paired_len (c ∷ d ∷ cs) ≡ suc (suc (paired_len cs)) = paired_len_pair c d cs e f in
            quote_along (drop (paired_len (c ∷ d ∷ cs)) (c ∷ d ∷ cs)) (drop (paired_len cs) cs) (ap (λ (n : ℕ). drop n (c ∷ d ∷ cs)) size)
            (paired_stop cs (omega arith))
        | inr f ↦
            quote_along (drop (paired_len (c ∷ d ∷ cs)) (c ∷ d ∷ cs)) (c ∷ d ∷ cs) (ap (λ (n : ℕ). drop n (c ∷ d ∷ cs)) (paired_len_stop c d cs e f))
            (quote_at c (d ∷ cs) e)
      ]
      | inr e ↦
          let size : paired_len (c ∷ d ∷ cs) ≡ suc (paired_len (d ∷ cs)) = paired_len_other c (d ∷ cs) e in
          quote_along (drop (paired_len (c ∷ d ∷ cs)) (c ∷ d ∷ cs)) (drop (paired_len (d ∷ cs)) (d ∷ cs)) (ap (λ (n : ℕ). drop n (c ∷ d ∷ cs)) size)
          (paired_stop (d ∷ cs) (omega arith))
    ]

text_bound : (cs other left : Bytes) → other ++ left ≡ 39 ∷ cs → IsForm other → length other ≤ paired_len cs + 2
text_bound cs [] left same is = omega arith
text_bound cs (o ∷ os) left same (form, is) =
    let first : o ≡ 39 = first_same 39 o cs os left same in
    let rest : os ++ left ≡ cs = rest_same 39 o cs os left same in
    elim (Heads.at_single o os form (Heads.single_class o first) is) [
      | inl text ↦
          let m : ℕ = length (o ∷ os) - 2 in
          let parts = and_parts (is_enclosed 39 (o ∷ os)) (is_paired (between_quotes (o ∷ os))) text in
          let cut : take m os ++ (drop m os ++ left) ≡ cs =
          sym (append_assoc (take m os) (drop m os) left) ∙ ap (λ (xs : Bytes). xs ++ left) (take-append-drop m os) ∙ rest in
          let within : length (take m os) ≤ paired_len (take m os ++ (drop m os ++ left)) = paired_within (take m os) (drop m os ++ left) parts.1 in
          let here : paired_len (take m os ++ (drop m os ++ left)) ≡ paired_len cs = ap paired_len cut in
          let size : length (take m os) ≡ m = length-take-le m os (omega arith) in
          omega arith
      | inr unclosed ↦
          elim (or_cases (o == 34 && not (holds_double_quote os)) (o == 39 && is_paired os) unclosed) [
            | inl e ↦
                let other : o ≡ 34 = eqb-true o 34 (and_parts (o == 34) (not (holds_double_quote os)) e).0 in
                absurd (omega arith)
            | inr e ↦
                let within : length os ≤ paired_len (os ++ left) = paired_within os left (and_parts (o == 39) (is_paired os) e).1 in
                let here : paired_len (os ++ left) ≡ paired_len cs = ap paired_len rest in
                omega arith
          ]
    ]

closed_text : (cs : Bytes) → paired_len cs < length cs → There (39 ∷ cs) (token_found Text (paired_len cs + 2))
closed_text cs short =
    let k : ℕ = paired_len cs in
    let stop = paired_stop cs short in
    let front : take (k + 2) (39 ∷ cs) ≡ 39 ∷ (take k cs ++ 39 ∷ []) = enclosed_front 39 cs stop.rest k (omega arith) stop.cut in
    let text : is_text_form (39 ∷ (take k cs ++ 39 ∷ [])) ≡ true =
    and_from (is_enclosed 39 (39 ∷ (take k cs ++ 39 ∷ []))) (is_paired (between_quotes (39 ∷ (take k cs ++ 39 ∷ []))))
    (enclosed_is 39 (take k cs)) (ap is_paired (inside_is 39 (take k cs)) ∙ paired_front cs) in
    let last : get_or cs k 0 ≡ 39 = last_of k cs 39 stop.rest (omega arith) stop.cut in
    record {
      some = omega arith;
      fits = omega arith;
      form = ap form_of front ∙ Heads.text_form 39 (take k cs ++ 39 ∷ []) (Heads.single_class 39 refl) text;
      longest = λ other left same is. text_bound cs other left same is;
      ends = λ kind f. omega (arith, ap (λ (n : ℕ). get_or (39 ∷ cs) n 0) (next_less k), last);
    }

paired_len_within : (cs : Bytes) → paired_len cs ≤ length cs
paired_len_within [] = omega arith
paired_len_within (c ∷ []) =
    elim (cases_Bool (c == 39)) [
      | inl e ↦ let size : paired_len (c ∷ []) ≡ 0 = cond-true (c == 39) 0 1 e in omega arith
      | inr e ↦ omega (arith, paired_len_other c [] e)
    ]
paired_len_within (c ∷ d ∷ cs) =
    elim (cases_Bool (c == 39)) [
      | inl e ↦ elim (cases_Bool (d == 39)) [
        | inl f ↦ omega (arith, paired_len_pair c d cs e f, paired_len_within cs)
        | inr f ↦ omega (arith, paired_len_stop c d cs e f)
      ]
      | inr e ↦ omega (arith, paired_len_other c (d ∷ cs) e, paired_len_within (d ∷ cs))
    ]

-- behind pairs a single quote is found
paired_exact : (xs : Bytes) → is_paired xs ≡ true → paired_len (xs ++ 39 ∷ []) ≡ length xs
paired_exact [] e = refl
paired_exact (x ∷ []) e = paired_len_other x (39 ∷ []) (not-true (x == 39) e)
paired_exact (x ∷ y ∷ ys) e =
    elim (cases_Bool (x == 39)) [
      | inl f ↦
          let parts = and_parts (y == 39) (is_paired ys) (sym (paired_pair x y ys f) ∙ e) in
          omega (arith, paired_len_pair x y (ys ++ 39 ∷ []) f parts.0, paired_exact ys parts.1)
      | inr f ↦ omega (arith, paired_len_other x (y ∷ (ys ++ 39 ∷ [])) f, paired_exact (y ∷ ys) (sym (paired_other x (y ∷ ys) f) ∙ e))
    ]

-- what ends in a byte is all but the last and that byte
pub last_cut : (cs : Bytes) (q : ℕ) → 0 < length cs → get_or cs (length cs - 1) 0 ≡ q → cs ≡ take (length cs - 1) cs ++ q ∷ []
last_cut [] q some e = absurd (omega arith)
last_cut (c ∷ []) q some e = ap (λ (x : ℕ). x ∷ []) e
last_cut (c ∷ d ∷ cs) q some e =
    let n : ℕ = length (d ∷ cs) - 1 in
    let less : length (c ∷ d ∷ cs) - 1 ≡ suc n = omega arith in
    let last : get_or (d ∷ cs) n 0 ≡ q = sym (ap (λ (k : ℕ). get_or (c ∷ d ∷ cs) k 0) less) ∙ e in
    ap (λ (xs : Bytes). c ∷ xs) (last_cut (d ∷ cs) q (omega arith) last) ∙ ap (λ (k : ℕ). take k (c ∷ d ∷ cs) ++ q ∷ []) (sym less)

open_text : (cs : Bytes) → length cs ≤ paired_len cs → There (39 ∷ cs) (fault_found OpenText (length cs + 1))
open_text cs long =
    let size : paired_len cs ≡ length cs = omega (arith, paired_len_within cs) in
    let paired : is_paired cs ≡ true = ap is_paired (sym (take_all (paired_len cs) cs long)) ∙ paired_front cs in
    let front : take (length cs + 1) (39 ∷ cs) ≡ 39 ∷ cs = take_all (length cs + 1) (39 ∷ cs) (omega arith) in
    let not_closed : is_text_form (39 ∷ cs) ≡ false =
    false_from_ne_true (is_text_form (39 ∷ cs)) (λ is.
    let parts = and_parts (is_enclosed 39 (39 ∷ cs)) (is_paired (between_quotes (39 ∷ cs))) is in
    let ends = and_parts (nat_le 2 (length (39 ∷ cs)) && slice_index (39 ∷ cs) 0 == 39) (slice_index (39 ∷ cs) (length (39 ∷ cs) - 1) == 39) parts.0 in
    let long2 : 2 ≤ length (39 ∷ cs) = leb-true 2 (length (39 ∷ cs)) (and_parts (nat_le 2 (length (39 ∷ cs))) (slice_index (39 ∷ cs) 0 == 39) ends.0).0 in
    let last : get_or cs (length cs - 1) 0 ≡ 39 = sym (last_after 39 cs (omega arith)) ∙ eqb-true (slice_index (39 ∷ cs) (length (39 ∷ cs) - 1)) 39 ends.1 in
    let cut : cs ≡ take (length cs - 1) cs ++ 39 ∷ [] = last_cut cs 39 (omega arith) last in
    let less : length (39 ∷ cs) - 2 ≡ length cs - 1 = omega arith in
    let body : is_paired (take (length cs - 1) cs) ≡ true = ap (λ (n : ℕ). is_paired (take n cs)) (sym less) ∙ parts.1 in
    let exact : paired_len (take (length cs - 1) cs ++ 39 ∷ []) ≡ length (take (length cs - 1) cs) = paired_exact (take (length cs - 1) cs) body in
    let here : paired_len cs ≡ paired_len (take (length cs - 1) cs ++ 39 ∷ []) = ap paired_len cut in
    let short : length (take (length cs - 1) cs) ≡ length cs - 1 = length-take-le (length cs - 1) cs (omega arith) in
    omega arith) in
    let not_quoted : is_quoted_form (39 ∷ cs) ≡ false = Heads.not_quoted 39 3 cs (Heads.single_class 39 refl) refl in
    let unclosed : is_open_form (39 ∷ cs) ≡ true =
    or_right (begins_with 34 (39 ∷ cs) && not (holds_double_quote cs)) (begins_with 39 (39 ∷ cs) && is_paired cs) paired in
    record {
      some = omega arith;
      fits = omega arith;
      form = ap form_of front ∙ Heads.open_form 39 3 cs (Heads.single_class 39 refl) (omega arith) (omega arith) not_quoted not_closed unclosed;
      longest = λ other left same is. omega (arith, whole_longest (39 ∷ cs) other left same);
      ends = λ kind f. fault_kind kind OpenText f;
    }

pub text_there : (cs : Bytes) → There (39 ∷ cs) (text_found cs)
text_there cs =
    cond_both (nat_lt (paired_len cs) (length cs)) (token_found Text (paired_len cs + 2)) (fault_found OpenText (length cs + 1)) (There (39 ∷ cs))
    (λ e. closed_text cs (ltb-true (paired_len cs) (length cs) e))
    (λ e. open_text cs (ltb-false (paired_len cs) (length cs) e))
