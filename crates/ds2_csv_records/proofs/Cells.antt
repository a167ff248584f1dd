-- Where the cells of a text end, and what they spell.
use Rattle.std.proofs.Common.{◌≡◌, ◌+◌, ◌-◌, ◌<◌, ◌≤◌, ◌==◌, ◌∷◌, ◌++◌, [], ℕ, zero, suc, List, Bool, true, false, length, get_or, drop, take, append_assoc, length-drop, ◌⊎◌, refl, sym, ap, ◌∙◌, arith, inl, inr}
use Rattle.std.specs.Prelude.{not, ◌||◌, ◌&&◌, if◌then◌else◌}
use Rattle.std.specs.List.{prefix_len}
use Rattle.std.specs.Str.{IsUtf8, IsCharBoundary}
use Rattle.csv.specs.Reading.{strip_bom, is_bom}
use Rattle.std.proofs.Math.Utf8.{encode}
use Rattle.std.proofs.lemmas.Bool.{and_parts}
use Rattle.std.proofs.lemmas.List.{append-nil}
use Rattle.std.proofs.lemmas.List.Sums.{prefix_len_is}
use Rattle.std.proofs.lemmas.Str.{IsCharBoundary-start, IsCharBoundary-after_ascii, IsCharBoundary-at_seam, IsUtf8-past_char}
use Rattle.std.proofs.lemmas.Bool.{eqb-true}
use Rattle.ds2_csv_records.specs.Cells.{begins_mark, begins_quoted, ends_cell, bare_len, begins_end, quoted_len, to_quote, unquoted}

-- the end of a cell is ASCII
pub end-ascii : (c : ℕ) → ends_cell c ≡ true → c < 128
end-ascii c h = by (c == 44) refl (c == 13) refl h
  where
    by : (a : Bool) → (c == 44) ≡ a → (b : Bool) → (c == 13) ≡ b → (a || (b || (c == 10))) ≡ true → c < 128
    by true e b f g = let k = eqb-true c 44 e in omega arith
    by false e true f g = let k = eqb-true c 13 f in omega arith
    by false e false f g = let k = eqb-true c 10 g in omega arith

-- what stands behind a cell without quotes begins with its end
pub bare-ends : (text : List ℕ) → begins_end (drop (bare_len text) text) ≡ true
bare-ends [] = refl
bare-ends (c ∷ cs) = by (ends_cell c) refl (bare-ends cs)
  where
    by : (b : Bool) → ends_cell c ≡ b → begins_end (drop (bare_len cs) cs) ≡ true → begins_end (drop (if not b then 1 + bare_len cs else 0) (c ∷ cs)) ≡ true
    by true e more = e
    by false e more = let n : 1 + bare_len cs ≡ suc (bare_len cs) = omega arith in rw n more

pub bare-within : (text : List ℕ) → bare_len text ≤ length text
bare-within [] = omega arith
bare-within (c ∷ cs) = by (not (ends_cell c)) (bare-within cs)
  where
    by : (b : Bool) → bare_len cs ≤ length cs → (if b then 1 + bare_len cs else 0) ≤ suc (length cs)
    by true h = omega arith
    by false h = omega arith

-- the same of a cell with quotes
pub quoted-ends : (within : Bool) (text : List ℕ) → begins_end (drop (quoted_len within text) text) ≡ true
unfolding quoted_len
quoted-ends within [] = refl
quoted-ends true (c ∷ cs) = quoted-ends (not (c == 34)) cs
quoted-ends false (c ∷ cs) = by (c == 34) (quoted-ends true cs) (bare-ends (c ∷ cs))
  where
    by : (b : Bool) → begins_end (drop (quoted_len true cs) cs) ≡ true → begins_end (drop (bare_len (c ∷ cs)) (c ∷ cs)) ≡ true
        → begins_end (drop (if b then suc (quoted_len true cs) else bare_len (c ∷ cs)) (c ∷ cs)) ≡ true
    by true more bare = more
    by false more bare = bare

pub quoted-within : (within : Bool) (text : List ℕ) → quoted_len within text ≤ length text
unfolding quoted_len
quoted-within within [] = omega arith
quoted-within true (c ∷ cs) = let k = quoted-within (not (c == 34)) cs in omega arith
quoted-within false (c ∷ cs) = by (c == 34) (quoted-within true cs) (bare-within (c ∷ cs))
  where
    by : (b : Bool) → quoted_len true cs ≤ length cs → bare_len (c ∷ cs) ≤ suc (length cs) → (if b then suc (quoted_len true cs) else bare_len (c ∷ cs)) ≤ suc (length cs)
    by true more bare = omega arith
    by false more bare = bare

-- a text that may be cut where a cell ends: what stands there is ASCII
begins-ascii : (text : List ℕ) → begins_end text ≡ true → 0 < length text → get_or text 0 0 < 128
begins-ascii [] h l = absurd (omega arith)
begins-ascii (c ∷ cs) h l = end-ascii c h

get-dropped : (text : List ℕ) (n : ℕ) → n < length text → (get_or (drop n text) 0 0 ≡ get_or text n 0) × (0 < length (drop n text))
get-dropped [] n h = absurd (omega arith)
get-dropped (c ∷ cs) zero h = (refl, omega arith)
get-dropped (c ∷ cs) (suc n) h = get-dropped cs n (omega arith)

pub end-mark : (text : List ℕ) (n : ℕ) → begins_end (drop n text) ≡ true → n < length text → get_or text n 0 < 128
end-mark text n h l =
    let g = get-dropped text n l in
    rw g.0 at (begins-ascii (drop n text) h g.1)

pub cut-mark : (text : List ℕ) (n : ℕ) → n ≤ length text → (n < length text → get_or text n 0 < 128) → IsCharBoundary text n
cut-mark text n within mark = (within, λ l g. absurd (let b = mark l in omega arith))

-- one more byte of a cell with quotes
pub quoted-took : (text : List ℕ) (i : ℕ) (within next : Bool) → i < length text → quoted_len true text ≡ i + quoted_len within (drop i text)
    → (within ≡ true → next ≡ not (get_or text i 0 == 34)) → (within ≡ false → ((get_or text i 0 == 34) ≡ true) × (next ≡ true))
    → quoted_len true text ≡ (i + 1) + quoted_len next (drop (i + 1) text)
unfolding quoted_len
quoted-took text i within next l before one two = before ∙ by text i within l one two
  where
    by : (t : List ℕ) (n : ℕ) (w : Bool) → n < length t → (w ≡ true → next ≡ not (get_or t n 0 == 34)) → (w ≡ false → ((get_or t n 0 == 34) ≡ true) × (next ≡ true))
        → n + quoted_len w (drop n t) ≡ (n + 1) + quoted_len next (drop (n + 1) t)
    by [] n w h f g = absurd (omega arith)
    by (c ∷ cs) zero true h f g = rw (f refl) (omega arith)
    by (c ∷ cs) zero false h f g = let k = g refl in rw (k.0, k.1) (omega arith)
    by (c ∷ cs) (suc n) w h f g =
        let e : suc n + 1 ≡ suc (n + 1) = omega arith in
        let k = by cs n w (omega arith) f g in
        rw e (omega (arith, k))

pub quoted-stops : (text : List ℕ) (i : ℕ) (within : Bool) → i < length text → quoted_len true text ≡ i + quoted_len within (drop i text)
    → within ≡ false → (get_or text i 0 == 34) ≡ false → quoted_len true text ≡ i + bare_len (drop i text)
unfolding quoted_len
quoted-stops text i within l before out other = before ∙ ap (λ b. i + quoted_len b (drop i text)) out ∙ ap (λ n. i + n) (by text i l other)
  where
    by : (t : List ℕ) (n : ℕ) → n < length t → (get_or t n 0 == 34) ≡ false → quoted_len false (drop n t) ≡ bare_len (drop n t)
    by [] n h o = absurd (omega arith)
    by (c ∷ cs) zero h o = rw o refl
    by (c ∷ cs) (suc n) h o = by cs n (omega arith) o

pub quoted-done : (text : List ℕ) (i : ℕ) (within : Bool) → length text ≤ i → i ≤ length text → quoted_len true text ≡ i + quoted_len within (drop i text) → quoted_len true text ≡ length text
unfolding quoted_len
quoted-done text i within l m before = before ∙ by text i within l m
  where
    by : (t : List ℕ) (n : ℕ) (w : Bool) → length t ≤ n → n ≤ length t → n + quoted_len w (drop n t) ≡ length t
    by [] zero w h k = refl
    by [] (suc n) w h k = absurd (omega arith)
    by (c ∷ cs) zero w h k = absurd (omega arith)
    by (c ∷ cs) (suc n) w h k = let e = by cs n w (omega arith) (omega arith) in omega arith

-- what a cell with quotes spells up to its next quote
pub spells-part : (text : List ℕ) → unquoted true text ≡ take (to_quote text) text ++ unquoted true (drop (to_quote text) text)
unfolding unquoted
spells-part [] = refl
spells-part (c ∷ cs) = by (c == 34) refl (spells-part cs)
  where
    by : (b : Bool) → (c == 34) ≡ b → unquoted true cs ≡ take (to_quote cs) cs ++ unquoted true (drop (to_quote cs) cs)
        → unquoted true (c ∷ cs) ≡ take (if not b then 1 + to_quote cs else 0) (c ∷ cs) ++ unquoted true (drop (if not b then 1 + to_quote cs else 0) (c ∷ cs))
    by true e more = refl
    by false e more =
        let n : 1 + to_quote cs ≡ suc (to_quote cs) = omega arith in
        rw (e, n) (ap (λ (t : List ℕ). c ∷ t) more)

pub quote-within : (text : List ℕ) → to_quote text ≤ length text
quote-within [] = omega arith
quote-within (c ∷ cs) = by (not (c == 34)) (quote-within cs)
  where
    by : (b : Bool) → to_quote cs ≤ length cs → (if b then 1 + to_quote cs else 0) ≤ suc (length cs)
    by true h = omega arith
    by false h = omega arith

-- so many bytes pass a test, and no more
pub prefix-stops : (test : ℕ → Bool) (text : List ℕ) (i : ℕ) → i < length text → ((k : ℕ) → k < i → test (get_or text k 0) ≡ true) → test (get_or text i 0) ≡ false → i ≡ prefix_len test text
prefix-stops test text i l pass stop = sym (prefix_len_is test text i 0 (omega arith) pass (λ _. stop))

pub prefix-whole : (test : ℕ → Bool) (text : List ℕ) (i : ℕ) → length text ≤ i → i ≤ length text → ((k : ℕ) → k < i → test (get_or text k 0) ≡ true) → length text ≡ prefix_len test text
prefix-whole test text i l m pass = sym (prefix_len_is test text (length text) 0 (omega arith) (λ k h. pass k (omega arith)) (λ h. absurd (omega arith)))

-- a byte order mark
mark-text : (a b c : ℕ) (rest : List ℕ) → is_bom a b c ≡ true → a ∷ b ∷ c ∷ rest ≡ encode 65279 ++ rest
unfolding encode
mark-text a b c rest e =
    let front = and_parts ((a == 239) && (b == 187)) (c == 191) e in
    let both = and_parts (a == 239) (b == 187) front.0 in
    let x = eqb-true a 239 both.0 in
    let y = eqb-true b 187 both.1 in
    let z = eqb-true c 191 front.1 in
    rw (x, y, z) refl

pub mark-cut : (text : List ℕ) → IsUtf8 text → begins_mark text ≡ true → IsCharBoundary text 3
unfolding encode
mark-cut [] u h = cc h
mark-cut (a ∷ []) u h = cc h
mark-cut (a ∷ b ∷ []) u h = cc h
mark-cut (a ∷ b ∷ c ∷ rest) u h = let e = mark-text a b c rest h in IsCharBoundary-at_seam (a ∷ b ∷ c ∷ rest) (encode 65279) rest e (IsUtf8-past_char (a ∷ b ∷ c ∷ rest) rest 65279 u e)

pub mark-gone : (text : List ℕ) → begins_mark text ≡ true → drop 3 text ≡ strip_bom text
unfolding strip_bom
mark-gone [] h = cc h
mark-gone (a ∷ []) h = cc h
mark-gone (a ∷ b ∷ []) h = cc h
mark-gone (a ∷ b ∷ c ∷ rest) h = rw h refl

pub no-mark : (text : List ℕ) → begins_mark text ≡ false → text ≡ strip_bom text
unfolding strip_bom
no-mark [] h = refl
no-mark (a ∷ []) h = refl
no-mark (a ∷ b ∷ []) h = refl
no-mark (a ∷ b ∷ c ∷ rest) h = rw h refl

-- a text may be cut behind a quote
pub quote-cut : (text : List ℕ) → IsUtf8 text → begins_quoted text ≡ true → IsCharBoundary text 1
quote-cut [] u h = cc h
quote-cut (c ∷ cs) u h = let e = eqb-true c 34 h in IsCharBoundary-after_ascii (c ∷ cs) 0 u (omega arith) (omega arith)

-- the end of a cell is one byte long
pub end-cut : (text : List ℕ) → IsUtf8 text → begins_end text ≡ true → 1 ≤ length text → IsCharBoundary text 1
end-cut [] u h l = absurd (omega arith)
end-cut (c ∷ cs) u h l = let e = end-ascii c h in IsCharBoundary-after_ascii (c ∷ cs) 0 u (omega arith) e

-- a text from the first quote on begins with one, or has ended
pub quote-begins : (text : List ℕ) → 0 < length (drop (to_quote text) text) → begins_quoted (drop (to_quote text) text) ≡ true
quote-begins [] l = absurd (omega arith)
quote-begins (c ∷ cs) l = by (c == 34) refl (quote-begins cs) l
  where
    by : (b : Bool) → (c == 34) ≡ b → (0 < length (drop (to_quote cs) cs) → begins_quoted (drop (to_quote cs) cs) ≡ true)
        → 0 < length (drop (if not b then 1 + to_quote cs else 0) (c ∷ cs)) → begins_quoted (drop (if not b then 1 + to_quote cs else 0) (c ∷ cs)) ≡ true
    by true e more l = e
    by false e more l = let n : 1 + to_quote cs ≡ suc (to_quote cs) = omega arith in rw n (more (rw n at l))

-- a text may be cut behind the ends of lines at its start
pub lines-cut : (text : List ℕ) (n : ℕ) → IsUtf8 text → n ≤ length text → (0 < n → get_or text (n - 1) 0 < 128) → IsCharBoundary text n
lines-cut text zero u within mark = IsCharBoundary-start text u
lines-cut text (suc n) u within mark =
    let b : get_or text n 0 < 128 = by (mark (omega arith)) in
    let e : n + 1 ≡ suc n = omega arith in
    rw e at (IsCharBoundary-after_ascii text n u (omega arith) b)
  where
    by : get_or text (suc n - 1) 0 < 128 → get_or text n 0 < 128
    by h = let e : suc n - 1 ≡ n = omega arith in rw e at h

-- what a cell with quotes spells, part by part
spells-more : (old part behind rest : List ℕ) (n : ℕ) → n ≡ to_quote rest → part ≡ take n rest → behind ≡ drop n rest → (old ++ part) ++ unquoted true behind ≡ old ++ unquoted true rest
spells-more old part behind rest n is f b =
    append_assoc old part (unquoted true behind)
    ∙ ap (λ (t : List ℕ). old ++ t) (ap (λ (t : List ℕ). t ++ unquoted true behind) (f ∙ ap (λ k. take k rest) is) ∙ ap (λ (t : List ℕ). take (to_quote rest) rest ++ unquoted true t) (b ∙ ap (λ k. drop k rest) is) ∙ sym (spells-part rest))

pub part-last : (old new part behind rest : List ℕ) (n : ℕ) → n ≡ to_quote rest → part ≡ take n rest → behind ≡ drop n rest → new ≡ old ++ part → new ++ unquoted true behind ≡ old ++ unquoted true rest
part-last old new part behind rest n is f b e = rw e (spells-more old part behind rest n is f b)

two : (c d : ℕ) (cs ds z : List ℕ) → (c == 34) ≡ true → d ≡ 34 → d ∷ ds ≡ cs → z ≡ ds → 34 ∷ unquoted true z ≡ unquoted true (c ∷ cs)
unfolding unquoted
two c d cs ds z h e i k = rw (← i, h, e, k) refl

pub part-quote : (old new part behind after left rest : List ℕ) (n : ℕ) → n ≡ to_quote rest → part ≡ take n rest → behind ≡ drop n rest → begins_quoted behind ≡ true → after ≡ drop 1 behind
    → begins_quoted after ≡ true → left ≡ drop 1 after → new ≡ (old ++ part) ++ (34 ∷ []) → new ++ unquoted true left ≡ old ++ unquoted true rest
part-quote old new part behind after left rest n is f b q a r l e =
    ap (λ (t : List ℕ). t ++ unquoted true left) e ∙ append_assoc (old ++ part) (34 ∷ []) (unquoted true left)
    ∙ ap (λ (t : List ℕ). (old ++ part) ++ t) (by behind after left q a r l) ∙ spells-more old part behind rest n is f b
  where
    by : (x y z : List ℕ) → begins_quoted x ≡ true → y ≡ drop 1 x → begins_quoted y ≡ true → z ≡ drop 1 y → 34 ∷ unquoted true z ≡ unquoted true x
    by [] y z h i j k = cc h
    by (c ∷ cs) [] z h i j k = cc j
    by (c ∷ cs) (d ∷ ds) z h i j k = two c d cs ds z h (eqb-true d 34 j) i k

pub part-rest : (old new part behind after rest : List ℕ) (n : ℕ) → n ≡ to_quote rest → part ≡ take n rest → behind ≡ drop n rest → begins_quoted behind ≡ true → after ≡ drop 1 behind
    → begins_quoted after ≡ false → new ≡ (old ++ part) ++ after → new ++ unquoted true [] ≡ old ++ unquoted true rest
unfolding unquoted
part-rest old new part behind after rest n is f b q a r e =
    append-nil new ∙ e ∙ ap (λ (t : List ℕ). (old ++ part) ++ t) (by behind after q a r) ∙ spells-more old part behind rest n is f b
  where
    bare : (y : List ℕ) → begins_quoted y ≡ false → y ≡ unquoted false y
    bare [] h = refl
    bare (c ∷ cs) h = rw h refl

    by : (x y : List ℕ) → begins_quoted x ≡ true → y ≡ drop 1 x → begins_quoted y ≡ false → y ≡ unquoted true x
    by [] y h i j = cc h
    by (c ∷ cs) y h i j = bare y j ∙ ap (λ (t : List ℕ). unquoted false t) i ∙ rw h refl

pub spelled-all : (text whole rest : List ℕ) (b : Bool) → b ≡ (length rest == 0) → b ≡ true → text ++ unquoted true rest ≡ whole → text ≡ whole
unfolding unquoted
spelled-all text whole [] b e f g = sym (append-nil text) ∙ g
spelled-all text whole (c ∷ cs) b e f g = let h = eqb-true (length (c ∷ cs)) 0 (sym e ∙ f) in absurd (omega (arith, h))

-- what is left of a cell with quotes behind its next quote
pub behind-quoted : (rest behind : List ℕ) (n : ℕ) (b : Bool) → n ≡ to_quote rest → behind ≡ drop n rest → b ≡ (length behind == 0) → b ≡ false → begins_quoted behind ≡ true
behind-quoted rest behind n b is e f g =
    let same : behind ≡ drop (to_quote rest) rest = e ∙ ap (λ k. drop k rest) is in
    ap begins_quoted same ∙ quote-begins rest (rw same at (some behind b f g))
  where
    some : (t : List ℕ) (x : Bool) → x ≡ (length t == 0) → x ≡ false → 0 < length t
    some [] x h k = cc (sym h ∙ k)
    some (c ∷ cs) x h k = omega arith

pub none-shorter : (rest behind : List ℕ) (b : Bool) → b ≡ (length behind == 0) → b ≡ true → 0 < length rest → length behind < length rest
none-shorter rest [] b e f l = l
none-shorter rest (c ∷ cs) b e f l = let h = eqb-true (length (c ∷ cs)) 0 (sym e ∙ f) in absurd (omega (arith, h))

pub two-shorter : (rest behind after left : List ℕ) (n : ℕ) → behind ≡ drop n rest → after ≡ drop 1 behind → left ≡ drop 1 after → 0 < length rest → length left < length rest
two-shorter rest behind after left n b a l some =
    let x = length-drop n rest in
    let y = length-drop 1 behind in
    let z = length-drop 1 after in
    omega (arith, some, ap (λ (t : List ℕ). length t) b ∙ x, ap (λ (t : List ℕ). length t) a ∙ y, ap (λ (t : List ℕ). length t) l ∙ z, by behind after a)
  where
    by : (s t : List ℕ) → t ≡ drop 1 s → length t < length s ⊎ (length s ≡ 0)
    by [] t e = inr refl
    by (c ∷ cs) t e = inl (rw e (omega arith))
