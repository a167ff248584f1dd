-- The number that is found at the front of a text.
use Rattle.std.proofs.Common.{◌≡◌, ℕ, zero, suc, ◌+◌, ◌-◌, ◌<◌, ◌≤◌, inl, inr, Bool, true, false, ◌||◌, not, [], ◌∷◌, ◌++◌, length, take, drop, get_or, Some, Ok, refl, sym, ap, ◌∙◌, subst, arith, append_assoc}
use Rattle.std.specs.Prelude.{◌==◌, slice_index}
use Rattle.std.specs.List.{list_all, prefix_len}
use Rattle.std.specs.Char.{is_ascii_digit}
use Rattle.std.proofs.lemmas.Bool.{and_parts, and_from, and_left, or_cases, or_left, or_right, eqb-true, cases_Bool, cond-true, cond-false, cond_both, both_ways, false_from_ne_true, not-true, not_from_false}
use Rattle.std.proofs.lemmas.Bool.Decides.{nat_tests}
use Rattle.std.proofs.lemmas.List.{length-append, take-append-drop, take_at, drop_at, get_or_at, get_or_append_left}
use Rattle.std.proofs.lemmas.List.Folds.{list_all-append, length-prefix_len}
use Rattle.ds2_base.specs.Bytes.{Bytes}
use Rattle.ds2_token.specs.declared.kinds.TokenKind.{TokenKind}
use Rattle.ds2_token.specs.declared.kinds.TokenKind.TheVariants.{Integer, Decimal}
use Rattle.ds2_token.specs.declared.kinds.LexKind.TheVariants.{DoubleConstant}
use Rattle.ds2_token.specs.declared.scan.Found.{Found}
use Rattle.ds2_token.specs.Forms.{begins_with, is_integer_form, leading_digits, past_digits, is_fraction, is_pointed_form, without_last, ends_in_n, is_decimal_form, form_of}
use Rattle.ds2_token.specs.Scan.{digits_len, begins_with_n, pointed_found, number_after_digits, number_found, token_found, fault_found}
use Rattle.ds2_token.specs.Standing.{IsForm}
use Rattle.ds2_token.proofs.Pieces.{clash}
use Rattle.ds2_token.proofs.Runs.{first_passes, run_size_yes, run_all, run_stops, run_len, run_within, run_same}
use Rattle.ds2_token.proofs.Heads
use Rattle.ds2_token.proofs.Heads.{NumberIs, integer, decimal, pointed}
use Rattle.ds2_token.proofs.Fronts.{There, first_same, fault_kind, last_cut}

abbrev pub all_digits : Bytes → Bool
all_digits s = list_all is_ascii_digit s

abbrev is_n : ℕ → Bool
is_n c = c == 110 || c == 78

n_no_digit : (c : ℕ) → is_n c ≡ true → is_ascii_digit c ≡ false
n_no_digit c e =
    elim (or_cases (c == 110) (c == 78) e) [
      | inl f ↦ ap is_ascii_digit (eqb-true c 110 f)
      | inr f ↦ ap is_ascii_digit (eqb-true c 78 f)
    ]

n_ascii : (c : ℕ) → is_n c ≡ true → c < 128
n_ascii c e =
    elim (or_cases (c == 110) (c == 78) e) [
      | inl f ↦ omega (arith, eqb-true c 110 f)
      | inr f ↦ omega (arith, eqb-true c 78 f)
    ]

digit_no_n : (c : ℕ) → is_ascii_digit c ≡ true → not (is_n c) ≡ true
digit_no_n c e = not_from_false (is_n c) (false_from_ne_true (is_n c) (λ f. both_ways (is_ascii_digit c) (n_no_digit c f) e))

digit_ascii : (c : ℕ) → is_ascii_digit c ≡ true → c < 128
digit_ascii c e = grind (arith, nat_tests)

all_at : (p : ℕ → Bool) (xs : Bytes) (i : ℕ) → list_all p xs ≡ true → i < length xs → p (get_or xs i 0) ≡ true
all_at p [] i e fits = absurd (omega arith)
all_at p (x ∷ xs) zero e fits = (and_parts (p x) (list_all p xs) e).0
all_at p (x ∷ xs) (suc i) e fits = all_at p xs i (and_parts (p x) (list_all p xs) e).1 (omega arith)

-- ---- what the forms of numbers are

integer_all : (s : Bytes) → is_integer_form s ≡ true → all_digits s ≡ true
integer_all [] e = refl
integer_all (c ∷ cs) e = e

integer_some : (s : Bytes) → is_integer_form s ≡ true → 0 < length s
integer_some [] e = clash e
integer_some (c ∷ cs) e = omega arith

integer_is : (s : Bytes) → 0 < length s → all_digits s ≡ true → is_integer_form s ≡ true
integer_is [] some e = absurd (omega arith)
integer_is (c ∷ cs) some e = e

record Fraction (s : Bytes) : Type 0 where
  digits : Bytes
  cut : s ≡ 46 ∷ digits
  all : all_digits digits ≡ true

fraction_parts : (s : Bytes) → is_fraction s ≡ true → Fraction s
fraction_parts [] e = clash e
fraction_parts (c ∷ cs) e =
    let parts = and_parts (c == 46) (list_all is_ascii_digit cs) e in
    record { digits = cs; cut = ap (λ (x : ℕ). x ∷ cs) (eqb-true c 46 parts.0); all = parts.1 }

record Pointed (s : Bytes) : Type 0 where
  whole : Bytes
  fraction : Bytes
  cut : s ≡ whole ++ 46 ∷ fraction
  whole_all : all_digits whole ≡ true
  fraction_all : all_digits fraction ≡ true

pointed_parts : (s : Bytes) → is_pointed_form s ≡ true → Pointed s
pointed_parts s e =
    let parts = and_parts (is_integer_form (leading_digits s)) (is_fraction (past_digits s)) e in
    let f = fraction_parts (past_digits s) parts.1 in
    record {
      whole = leading_digits s;
      fraction = f.digits;
      cut = sym (take-append-drop (prefix_len is_ascii_digit s) s) ∙ ap (λ (xs : Bytes). leading_digits s ++ xs) f.cut;
      whole_all = run_all is_ascii_digit s;
      fraction_all = f.all;
    }

pointed_is : (whole fraction : Bytes) → 0 < length whole → all_digits whole ≡ true → all_digits fraction ≡ true → is_pointed_form (whole ++ 46 ∷ fraction) ≡ true
pointed_is whole fraction some all rest =
    let s : Bytes = whole ++ 46 ∷ fraction in
    let size : prefix_len is_ascii_digit s ≡ length whole = run_len is_ascii_digit whole (46 ∷ fraction) all refl in
    let front : leading_digits s ≡ whole = take_at whole (46 ∷ fraction) (prefix_len is_ascii_digit s) (sym size) in
    let back : past_digits s ≡ 46 ∷ fraction = drop_at whole (46 ∷ fraction) (prefix_len is_ascii_digit s) (sym size) in
    and_from (is_integer_form (leading_digits s)) (is_fraction (past_digits s))
    (ap is_integer_form front ∙ integer_is whole some all) (ap is_fraction back ∙ rest)

-- all but the last byte, and the last
without_last_is : (front : Bytes) (e : ℕ) → without_last (front ++ e ∷ []) ≡ front
without_last_is front e = take_at front (e ∷ []) (length (front ++ e ∷ []) - 1) (omega (arith, length-append front (e ∷ [])))

last_is : (front : Bytes) (e : ℕ) → slice_index (front ++ e ∷ []) (length (front ++ e ∷ []) - 1) ≡ e
last_is front e = get_or_at front e [] 0 (length (front ++ e ∷ []) - 1) (omega (arith, length-append front (e ∷ [])))

decimal_is : (front : Bytes) (e : ℕ) → is_n e ≡ true → (is_integer_form front || is_pointed_form front) ≡ true → is_decimal_form (front ++ e ∷ []) ≡ true
decimal_is front e n is =
    and_from (ends_in_n (front ++ e ∷ [])) (is_integer_form (without_last (front ++ e ∷ [])) || is_pointed_form (without_last (front ++ e ∷ [])))
    (ap is_n (last_is front e) ∙ n)
    (ap (λ (xs : Bytes). is_integer_form xs || is_pointed_form xs) (without_last_is front e) ∙ is)

record Decimals (s : Bytes) : Type 0 where
  front : Bytes
  last : ℕ
  cut : s ≡ front ++ last ∷ []
  is_last : is_n last ≡ true
  number : (is_integer_form front || is_pointed_form front) ≡ true

decimal_parts : (s : Bytes) → 0 < length s → is_decimal_form s ≡ true → Decimals s
decimal_parts s some e =
    let parts = and_parts (ends_in_n s) (is_integer_form (without_last s) || is_pointed_form (without_last s)) e in
    record {
      front = without_last s;
      last = get_or s (length s - 1) 0;
      cut = last_cut s (get_or s (length s - 1) 0) some refl;
      is_last = parts.0;
      number = parts.1;
    }

-- a byte that is no digit makes no integer
no_integer : (front : Bytes) (e : ℕ) (back : Bytes) → is_ascii_digit e ≡ false → is_integer_form (front ++ e ∷ back) ≡ false
no_integer front e back other =
    false_from_ne_true (is_integer_form (front ++ e ∷ back)) (λ is.
    let all : list_all is_ascii_digit (front ++ e ∷ back) ≡ true = integer_all (front ++ e ∷ back) is in
    let parts = and_parts (list_all is_ascii_digit front) (list_all is_ascii_digit (e ∷ back)) (sym (list_all-append is_ascii_digit front (e ∷ back)) ∙ all) in
    both_ways (is_ascii_digit e) other (and_parts (is_ascii_digit e) (list_all is_ascii_digit back) parts.1).0)

-- ---- no longer number

pointed_least : (n : ℕ) (rest : Bytes) → n ≤ (pointed_found n rest).size
pointed_least n rest =
    cond_both (begins_with_n rest) (token_found Decimal (n + 1)) (fault_found DoubleConstant n) (λ (f : Found). n ≤ f.size) (λ e. omega arith) (λ e. omega arith)

behind_least : (n : ℕ) (rest : Bytes) → n ≤ (number_after_digits n rest).size
behind_least n rest =
    let points : ℕ = n + 1 + digits_len (drop 1 rest) in
    cond_both (begins_with_n rest) (token_found Decimal (n + 1)) _ (λ (f : Found). n ≤ f.size) (λ e. omega arith)
    (λ e. cond_both (begins_with 46 rest) (pointed_found points (drop (1 + digits_len (drop 1 rest)) rest)) (token_found Integer n) (λ (f : Found). n ≤ f.size)
    (λ f. omega (arith, pointed_least points (drop (1 + digits_len (drop 1 rest)) rest))) (λ f. omega arith))

drop_next : (k c : ℕ) (cs : Bytes) → drop (1 + k) (c ∷ cs) ≡ drop k cs
drop_next k c cs =
    let next : 1 + k ≡ suc k = omega arith in
    ap (λ (n : ℕ). drop n (c ∷ cs)) next

integer_bound : (xs left whole rest : Bytes) → all_digits whole ≡ true → first_passes is_ascii_digit rest ≡ false → xs ++ left ≡ whole ++ rest
    → is_integer_form xs ≡ true → length xs ≤ (number_after_digits (length whole) rest).size
integer_bound xs left whole rest all stops same is =
    let within : length xs ≤ prefix_len is_ascii_digit (xs ++ left) = run_within is_ascii_digit xs left (integer_all xs is) in
    let here : prefix_len is_ascii_digit (xs ++ left) ≡ length whole = ap (prefix_len is_ascii_digit) same ∙ run_len is_ascii_digit whole rest all stops in
    omega (arith, behind_least (length whole) rest)

-- a point and then these
point_size : (n : ℕ) (cs : Bytes) → number_after_digits n (46 ∷ cs) ≡ pointed_found (n + 1 + digits_len cs) (drop (digits_len cs) cs)
point_size n cs = ap (pointed_found (n + 1 + digits_len cs)) (drop_next (digits_len cs) 46 cs)

pointed_bound : (xs left whole rest : Bytes) → all_digits whole ≡ true → first_passes is_ascii_digit rest ≡ false → xs ++ left ≡ whole ++ rest
    → Pointed xs → length xs ≤ (number_after_digits (length whole) rest).size
pointed_bound xs left whole rest all stops same p =
    let text : p.whole ++ 46 ∷ (p.fraction ++ left) ≡ whole ++ rest =
    sym (append_assoc p.whole (46 ∷ p.fraction) left) ∙ ap (λ (ys : Bytes). ys ++ left) (sym p.cut) ∙ same in
    let cuts = run_same is_ascii_digit p.whole (46 ∷ (p.fraction ++ left)) whole rest p.whole_all refl all stops text in
    let size : number_after_digits (length whole) rest ≡ pointed_found (length whole + 1 + digits_len (p.fraction ++ left)) (drop (digits_len (p.fraction ++ left)) (p.fraction ++ left)) =
    ap (number_after_digits (length whole)) (sym cuts.1) ∙ point_size (length whole) (p.fraction ++ left) in
    let least = pointed_least (length whole + 1 + digits_len (p.fraction ++ left)) (drop (digits_len (p.fraction ++ left)) (p.fraction ++ left)) in
    let sizes : (number_after_digits (length whole) rest).size ≡ (pointed_found (length whole + 1 + digits_len (p.fraction ++ left)) (drop (digits_len (p.fraction ++ left)) (p.fraction ++ left))).size =
    ap (λ (f : Found). f.size) size in
    let within : length p.fraction ≤ digits_len (p.fraction ++ left) = run_within is_ascii_digit p.fraction left p.fraction_all in
    let front : length p.whole ≡ length whole = ap length cuts.0 in
    let total : length xs ≡ length p.whole + suc (length p.fraction) = ap length p.cut ∙ length-append p.whole (46 ∷ p.fraction) in
    omega (arith, least, sizes, within)

n_size : (n e : ℕ) (rest : Bytes) → is_n e ≡ true → number_after_digits n (e ∷ rest) ≡ token_found Decimal (n + 1)
n_size n e rest is = cond-true (begins_with_n (e ∷ rest)) (token_found Decimal (n + 1)) _ is

n_pointed : (n e : ℕ) (rest : Bytes) → is_n e ≡ true → pointed_found n (e ∷ rest) ≡ token_found Decimal (n + 1)
n_pointed n e rest is = cond-true (begins_with_n (e ∷ rest)) (token_found Decimal (n + 1)) (fault_found DoubleConstant n) is

decimal_bound : (xs left whole rest : Bytes) → all_digits whole ≡ true → first_passes is_ascii_digit rest ≡ false → xs ++ left ≡ whole ++ rest
    → Decimals xs → length xs ≤ (number_after_digits (length whole) rest).size
decimal_bound xs left whole rest all stops same d =
    let text : d.front ++ d.last ∷ left ≡ whole ++ rest = sym (append_assoc d.front (d.last ∷ []) left) ∙ ap (λ (ys : Bytes). ys ++ left) (sym d.cut) ∙ same in
    let total : length xs ≡ length d.front + 1 = ap length d.cut ∙ length-append d.front (d.last ∷ []) in
    elim (or_cases (is_integer_form d.front) (is_pointed_form d.front) d.number) [
      | inl is ↦
          let cuts = run_same is_ascii_digit d.front (d.last ∷ left) whole rest (integer_all d.front is) (n_no_digit d.last d.is_last) all stops text in
          let size : number_after_digits (length whole) rest ≡ token_found Decimal (length whole + 1) =
          ap (number_after_digits (length whole)) (sym cuts.1) ∙ n_size (length whole) d.last left d.is_last in
          omega (arith, ap length cuts.0, ap (λ (f : Found). f.size) size)
      | inr is ↦
          let p = pointed_parts d.front is in
          let behind : Bytes = p.fraction ++ d.last ∷ left in
          let whole_text : p.whole ++ 46 ∷ behind ≡ whole ++ rest =
          sym (append_assoc p.whole (46 ∷ p.fraction) (d.last ∷ left)) ∙ ap (λ (ys : Bytes). ys ++ d.last ∷ left) (sym p.cut) ∙ text in
          let cuts = run_same is_ascii_digit p.whole (46 ∷ behind) whole rest p.whole_all refl all stops whole_text in
          let digits : digits_len behind ≡ length p.fraction = run_len is_ascii_digit p.fraction (d.last ∷ left) p.fraction_all (n_no_digit d.last d.is_last) in
          let after : drop (digits_len behind) behind ≡ d.last ∷ left = drop_at p.fraction (d.last ∷ left) (digits_len behind) (sym digits) in
          let size : number_after_digits (length whole) rest ≡ token_found Decimal (length whole + 1 + digits_len behind + 1) =
          ap (number_after_digits (length whole)) (sym cuts.1) ∙ point_size (length whole) behind
          ∙ ap (pointed_found (length whole + 1 + digits_len behind)) after ∙ n_pointed (length whole + 1 + digits_len behind) d.last left d.is_last in
          let front : length d.front ≡ length p.whole + suc (length p.fraction) = ap length p.cut ∙ length-append p.whole (46 ∷ p.fraction) in
          omega (arith, ap length cuts.0, ap (λ (f : Found). f.size) size)
    ]

number_bound_of : (xs left whole rest : Bytes) → 0 < length xs → all_digits whole ≡ true → first_passes is_ascii_digit rest ≡ false → xs ++ left ≡ whole ++ rest
    → NumberIs xs → length xs ≤ (number_after_digits (length whole) rest).size
number_bound_of xs left whole rest some all stops same (integer e) = integer_bound xs left whole rest all stops same e
number_bound_of xs left whole rest some all stops same (decimal e) = decimal_bound xs left whole rest all stops same (decimal_parts xs some e)
number_bound_of xs left whole rest some all stops same (pointed e) = pointed_bound xs left whole rest all stops same (pointed_parts xs e)

number_bound : (c : ℕ) (body rest other left : Bytes) → all_digits (c ∷ body) ≡ true → first_passes is_ascii_digit rest ≡ false
    → other ++ left ≡ c ∷ (body ++ rest) → IsForm other → length other ≤ (number_after_digits (length (c ∷ body)) rest).size
number_bound c body rest [] left all stops same is = omega arith
number_bound c body rest (o ∷ os) left all stops same (form, is) =
    let first : o ≡ c = first_same c o (body ++ rest) os left same in
    let digit : is_ascii_digit c ≡ true = (and_parts (is_ascii_digit c) (list_all is_ascii_digit body) all).0 in
    let class : Heads.class_of o ≡ 1 = ap Heads.class_of first ∙ Heads.digit_class c digit in
    number_bound_of (o ∷ os) left (c ∷ body) rest (omega arith) all stops same (Heads.at_digit o os form class is)

-- ---- the number that is found

-- a spelling at the front, and what is said of it
pub there_of : (text s after : Bytes) (f : Found) → text ≡ s ++ after → length s ≡ f.size → 0 < length s → form_of s ≡ Some f.form
    → ((other left : Bytes) → other ++ left ≡ text → IsForm other → length other ≤ f.size)
    → ((kind : TokenKind) → f.form ≡ Ok kind → get_or s (length s - 1) 0 < 128) → There text f
there_of text s after f cut size some form longest ends =
    let front : take f.size text ≡ s = ap (take f.size) cut ∙ take_at s after f.size size in
    record {
      some = omega arith;
      fits = omega (arith, ap length cut, length-append s after);
      form = ap form_of front ∙ form;
      longest = longest;
      ends = λ kind e.
          let last : get_or text (f.size - 1) 0 ≡ get_or s (length s - 1) 0 =
          ap (λ (xs : Bytes). get_or xs (f.size - 1) 0) cut ∙ get_or_append_left s after 0 (f.size - 1) (omega arith) ∙ ap (λ (n : ℕ). get_or s (n - 1) 0) (sym size) in
          omega (arith, ends kind e);
    }

there_as : (text : Bytes) (f g : Found) → f ≡ g → There text g → There text f
there_as text f g e is = subst (There text) (sym e) is

last_n : (front : Bytes) (e : ℕ) → is_n e ≡ true → get_or (front ++ e ∷ []) (length (front ++ e ∷ []) - 1) 0 < 128
last_n front e n = omega (arith, last_is front e, n_ascii e n)

-- digits and n
whole_decimal : (c : ℕ) (body : Bytes) (e : ℕ) (after : Bytes) → all_digits (c ∷ body) ≡ true → is_n e ≡ true
    → There (c ∷ (body ++ e ∷ after)) (number_after_digits (length (c ∷ body)) (e ∷ after))
whole_decimal c body e after all n =
    let digit : is_ascii_digit c ≡ true = (and_parts (is_ascii_digit c) (list_all is_ascii_digit body) all).0 in
    let s : Bytes = c ∷ (body ++ e ∷ []) in
    let size : number_after_digits (length (c ∷ body)) (e ∷ after) ≡ token_found Decimal (length (c ∷ body) + 1) = n_size (length (c ∷ body)) e after n in
    let cut : c ∷ (body ++ e ∷ after) ≡ s ++ after = ap (λ (xs : Bytes). c ∷ xs) (sym (append_assoc body (e ∷ []) after)) in
    let sizes : (number_after_digits (length (c ∷ body)) (e ∷ after)).size ≡ length (c ∷ body) + 1 = ap (λ (f : Found). f.size) size in
    there_as (c ∷ (body ++ e ∷ after)) (number_after_digits (length (c ∷ body)) (e ∷ after)) (token_found Decimal (length (c ∷ body) + 1)) size
    (there_of (c ∷ (body ++ e ∷ after)) s after (token_found Decimal (length (c ∷ body) + 1)) cut (omega (arith, length-append body (e ∷ []))) (omega arith)
    (Heads.decimal_form c (body ++ e ∷ []) (Heads.digit_class c digit) (no_integer (c ∷ body) e [] (n_no_digit e n))
    (decimal_is (c ∷ body) e n (or_left (is_integer_form (c ∷ body)) (is_pointed_form (c ∷ body)) all)))
    (λ other left same is. omega (arith, number_bound c body (e ∷ after) other left all (n_no_digit e n) same is, sizes))
    (λ kind f. last_n (c ∷ body) e n))

-- digits alone
whole_integer : (c : ℕ) (body rest : Bytes) → all_digits (c ∷ body) ≡ true → first_passes is_ascii_digit rest ≡ false
    → number_after_digits (length (c ∷ body)) rest ≡ token_found Integer (length (c ∷ body)) → There (c ∷ (body ++ rest)) (number_after_digits (length (c ∷ body)) rest)
whole_integer c body rest all stops size =
    let digit : is_ascii_digit c ≡ true = (and_parts (is_ascii_digit c) (list_all is_ascii_digit body) all).0 in
    let sizes : (number_after_digits (length (c ∷ body)) rest).size ≡ length (c ∷ body) = ap (λ (f : Found). f.size) size in
    there_as (c ∷ (body ++ rest)) (number_after_digits (length (c ∷ body)) rest) (token_found Integer (length (c ∷ body))) size
    (there_of (c ∷ (body ++ rest)) (c ∷ body) rest (token_found Integer (length (c ∷ body))) refl refl (omega arith)
    (Heads.integer_form c body (Heads.digit_class c digit) all)
    (λ other left same is. omega (arith, number_bound c body rest other left all stops same is, sizes))
    (λ kind f. digit_ascii (get_or (c ∷ body) (length (c ∷ body) - 1) 0) (all_at is_ascii_digit (c ∷ body) (length (c ∷ body) - 1) all (omega arith))))

-- digits, a point, digits and n
point_decimal : (c : ℕ) (body fraction : Bytes) (e : ℕ) (after : Bytes) → all_digits (c ∷ body) ≡ true → all_digits fraction ≡ true → is_n e ≡ true
    → There (c ∷ (body ++ 46 ∷ (fraction ++ e ∷ after))) (number_after_digits (length (c ∷ body)) (46 ∷ (fraction ++ e ∷ after)))
point_decimal c body fraction e after all rest n =
    let digit : is_ascii_digit c ≡ true = (and_parts (is_ascii_digit c) (list_all is_ascii_digit body) all).0 in
    let behind : Bytes = fraction ++ e ∷ after in
    let text : Bytes = c ∷ (body ++ 46 ∷ behind) in
    let front : Bytes = body ++ 46 ∷ fraction in
    let s : Bytes = c ∷ (front ++ e ∷ []) in
    let digits : digits_len behind ≡ length fraction = run_len is_ascii_digit fraction (e ∷ after) rest (n_no_digit e n) in
    let follows : drop (digits_len behind) behind ≡ e ∷ after = drop_at fraction (e ∷ after) (digits_len behind) (sym digits) in
    let total : ℕ = length (c ∷ body) + 1 + digits_len behind in
    let size : number_after_digits (length (c ∷ body)) (46 ∷ behind) ≡ token_found Decimal (total + 1) =
    point_size (length (c ∷ body)) behind ∙ ap (pointed_found total) follows ∙ n_pointed total e after n in
    let cut : text ≡ s ++ after =
    ap (λ (xs : Bytes). c ∷ (body ++ 46 ∷ xs)) (sym (append_assoc fraction (e ∷ []) after))
    ∙ ap (λ (xs : Bytes). c ∷ xs) (sym (append_assoc body (46 ∷ (fraction ++ e ∷ [])) after))
    ∙ ap (λ (xs : Bytes). c ∷ (xs ++ after)) (sym (append_assoc body (46 ∷ fraction) (e ∷ []))) in
    let s_size : length s ≡ total + 1 = omega (arith, length-append front (e ∷ []), length-append body (46 ∷ fraction), digits) in
    let sizes : (number_after_digits (length (c ∷ body)) (46 ∷ behind)).size ≡ total + 1 = ap (λ (f : Found). f.size) size in
    there_as text (number_after_digits (length (c ∷ body)) (46 ∷ behind)) (token_found Decimal (total + 1)) size
    (there_of text s after (token_found Decimal (total + 1)) cut s_size (omega arith)
    (Heads.decimal_form c (front ++ e ∷ []) (Heads.digit_class c digit) (no_integer (c ∷ front) e [] (n_no_digit e n))
    (decimal_is (c ∷ front) e n (or_right (is_integer_form (c ∷ front)) (is_pointed_form (c ∷ front)) (pointed_is (c ∷ body) fraction (omega arith) all rest))))
    (λ other left same is. omega (arith, number_bound c body (46 ∷ behind) other left all refl same is, sizes))
    (λ kind f. last_n (c ∷ front) e n))

-- no byte of a number with a point is n
all_mono : (p q : ℕ → Bool) (xs : Bytes) → ((c : ℕ) → p c ≡ true → q c ≡ true) → list_all p xs ≡ true → list_all q xs ≡ true
all_mono p q [] up e = refl
all_mono p q (x ∷ xs) up e =
    let parts = and_parts (p x) (list_all p xs) e in
    and_from (q x) (list_all q xs) (up x parts.0) (all_mono p q xs up parts.1)

abbrev no_n : ℕ → Bool
no_n c = not (is_n c)

no_n_pointed : (whole fraction : Bytes) → all_digits whole ≡ true → all_digits fraction ≡ true → list_all no_n (whole ++ 46 ∷ fraction) ≡ true
no_n_pointed whole fraction all rest =
    list_all-append no_n whole (46 ∷ fraction)
    ∙ and_from (list_all no_n whole) (list_all no_n (46 ∷ fraction)) (all_mono is_ascii_digit no_n whole digit_no_n all) (all_mono is_ascii_digit no_n fraction digit_no_n rest)

not_ended : (s : Bytes) → 0 < length s → list_all no_n s ≡ true → is_decimal_form s ≡ false
not_ended s some all =
    and_left (ends_in_n s) (is_integer_form (without_last s) || is_pointed_form (without_last s))
    (not-true (is_n (get_or s (length s - 1) 0)) (all_at no_n s (length s - 1) all (omega arith)))

-- digits, a point and digits
point_double : (c : ℕ) (body fraction after : Bytes) → all_digits (c ∷ body) ≡ true → all_digits fraction ≡ true → first_passes is_ascii_digit after ≡ false
    → begins_with_n after ≡ false → There (c ∷ (body ++ 46 ∷ (fraction ++ after))) (number_after_digits (length (c ∷ body)) (46 ∷ (fraction ++ after)))
point_double c body fraction after all rest stops no_end =
    let digit : is_ascii_digit c ≡ true = (and_parts (is_ascii_digit c) (list_all is_ascii_digit body) all).0 in
    let behind : Bytes = fraction ++ after in
    let text : Bytes = c ∷ (body ++ 46 ∷ behind) in
    let tail : Bytes = body ++ 46 ∷ fraction in
    let s : Bytes = c ∷ tail in
    let digits : digits_len behind ≡ length fraction = run_len is_ascii_digit fraction after rest stops in
    let follows : drop (digits_len behind) behind ≡ after = drop_at fraction after (digits_len behind) (sym digits) in
    let total : ℕ = length (c ∷ body) + 1 + digits_len behind in
    let size : number_after_digits (length (c ∷ body)) (46 ∷ behind) ≡ fault_found DoubleConstant total =
    point_size (length (c ∷ body)) behind ∙ ap (pointed_found total) follows
    ∙ cond-false (begins_with_n after) (token_found Decimal (total + 1)) (fault_found DoubleConstant total) no_end in
    let cut : text ≡ s ++ after = ap (λ (xs : Bytes). c ∷ xs) (sym (append_assoc body (46 ∷ fraction) after)) in
    let s_size : length s ≡ total = omega (arith, length-append body (46 ∷ fraction), digits) in
    let sizes : (number_after_digits (length (c ∷ body)) (46 ∷ behind)).size ≡ total = ap (λ (f : Found). f.size) size in
    there_as text (number_after_digits (length (c ∷ body)) (46 ∷ behind)) (fault_found DoubleConstant total) size
    (there_of text s after (fault_found DoubleConstant total) cut s_size (omega arith)
    (Heads.pointed_form c tail (Heads.digit_class c digit) (no_integer (c ∷ body) 46 fraction refl)
    (not_ended s (omega arith) (no_n_pointed (c ∷ body) fraction all rest)) (pointed_is (c ∷ body) fraction (omega arith) all rest))
    (λ other left same is. omega (arith, number_bound c body (46 ∷ behind) other left all refl same is, sizes))
    (λ kind f. fault_kind kind DoubleConstant f))

first_n : (after : Bytes) (P : Bytes → Type 0) → begins_with_n after ≡ true → ((e : ℕ) (rest : Bytes) → is_n e ≡ true → P (e ∷ rest)) → P after
first_n [] P e go = clash e
first_n (x ∷ xs) P e go = go x xs e

-- behind a point
point_there : (c : ℕ) (body behind : Bytes) → all_digits (c ∷ body) ≡ true → There (c ∷ (body ++ 46 ∷ behind)) (number_after_digits (length (c ∷ body)) (46 ∷ behind))
point_there c body behind all =
    let k : ℕ = digits_len behind in
    let P : Bytes → Type 0 = λ xs. There (c ∷ (body ++ 46 ∷ xs)) (number_after_digits (length (c ∷ body)) (46 ∷ xs)) in
    let rest : all_digits (take k behind) ≡ true = run_all is_ascii_digit behind in
    subst P (take-append-drop k behind) (
    elim (cases_Bool (begins_with_n (drop k behind))) [
      | inl e ↦ first_n (drop k behind) (λ after. P (take k behind ++ after)) e (λ n after is. point_decimal c body (take k behind) n after all rest is)
      | inr e ↦ point_double c body (take k behind) (drop k behind) all rest (run_stops is_ascii_digit behind) e
    ])

behind_there : (c : ℕ) (body rest : Bytes) → all_digits (c ∷ body) ≡ true → first_passes is_ascii_digit rest ≡ false
    → There (c ∷ (body ++ rest)) (number_after_digits (length (c ∷ body)) rest)
behind_there c body [] all stops = whole_integer c body [] all stops refl
behind_there c body (x ∷ xs) all stops =
    elim (cases_Bool (is_n x)) [
      | inl e ↦ whole_decimal c body x xs all e
      | inr e ↦ elim (cases_Bool (x == 46)) [
        | inl f ↦
            let P : ℕ → Type 0 = λ d. There (c ∷ (body ++ d ∷ xs)) (number_after_digits (length (c ∷ body)) (d ∷ xs)) in
            subst P (sym (eqb-true x 46 f)) (point_there c body xs all)
        | inr f ↦
            whole_integer c body (x ∷ xs) all stops
            (cond-false (begins_with_n (x ∷ xs)) (token_found Decimal (length (c ∷ body) + 1)) _ e
            ∙ cond-false (begins_with 46 (x ∷ xs)) _ (token_found Integer (length (c ∷ body))) f)
      ]
    ]

pub number_there : (c : ℕ) (cs : Bytes) → is_ascii_digit c ≡ true → There (c ∷ cs) (number_found (c ∷ cs))
number_there c cs digit =
    let k : ℕ = prefix_len is_ascii_digit cs in
    let body : Bytes = take k cs in
    let all : all_digits (c ∷ body) ≡ true = and_from (is_ascii_digit c) (list_all is_ascii_digit body) digit (run_all is_ascii_digit cs) in
    let size : digits_len (c ∷ cs) ≡ suc k = run_size_yes is_ascii_digit c cs digit in
    let whole : length (c ∷ body) ≡ suc k = omega (arith, length-prefix_len is_ascii_digit cs) in
    let here : number_found (c ∷ cs) ≡ number_after_digits (length (c ∷ body)) (drop k cs) =
    ap (λ (n : ℕ). number_after_digits n (drop n (c ∷ cs))) size ∙ ap (λ (n : ℕ). number_after_digits n (drop k cs)) (sym whole) in
    let P : Bytes → Type 0 = λ xs. There (c ∷ xs) (number_after_digits (length (c ∷ body)) (drop k cs)) in
    there_as (c ∷ cs) (number_found (c ∷ cs)) (number_after_digits (length (c ∷ body)) (drop k cs)) here
    (subst P (take-append-drop k cs) (behind_there c body (drop k cs) all (run_stops is_ascii_digit cs)))
