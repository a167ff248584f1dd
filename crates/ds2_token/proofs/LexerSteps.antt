-- Steps of the lexer.
use Rattle.std.proofs.Common.{◌≡◌, ℕ, zero, suc, ◌+◌, ◌-◌, ◌<◌, ◌≤◌, ◌⊎◌, inl, inr, Bool, true, false, cond, List, [], ◌∷◌, ◌++◌, length, take, drop, get_or, Option, Some, None, Result, Ok, Err, refl, sym, ap, ◌∙◌, subst, arith}
use Rattle.std.specs.Str.{chars, IsUtf8, IsCharBoundary}
use Rattle.std.proofs.lemmas.Str.{IsCharBoundary-after_ascii, IsCharBoundary-start, IsCharBoundary-from_rest}
use Rattle.std.proofs.lemmas.List.{append-nil, length-take-le, take-append-drop, drop-drop, nil_from_length}
use Rattle.ds2_base.specs.Bytes.{Bytes}
use Rattle.ds2_base.specs.Place.{start_place, place_past}
use Rattle.ds2_base.specs.Says.{Says}
use Rattle.ds2_base.specs.declared.place.Place.{Place}
use Rattle.ds2_base.specs.declared.place.Refusal.{Refusal}
use Rattle.ds2_base.specs.declared.stop.Stop.{Stop}
use Rattle.ds2_base.specs.declared.stop.Stop.TheVariants.{Refused, OutOfMemory}
use Rattle.ds2_token.specs.declared.kinds.TokenKind.{TokenKind}
use Rattle.ds2_token.specs.declared.kinds.TokenKind.TheVariants.{Quoted, Text}
use Rattle.ds2_token.specs.declared.kinds.LexKind.{LexKind}
use Rattle.ds2_token.specs.declared.kinds.LexKind.TheVariants.{BadCharacter}
use Rattle.ds2_token.specs.declared.lexer.Next.{Next}
use Rattle.ds2_token.specs.declared.scan.Found.{Found}
use Rattle.ds2_token.specs.declared.token.Token.{Token}
use Rattle.ds2_token.specs.Forms.{IsGap, is_word_form, is_quoted_form, is_text_form, is_integer_form, is_decimal_form, is_mark_form, is_pointed_form, is_open_form, is_open_comment, form_of}
use Rattle.ds2_token.specs.Limits.{limit_fault}
use Rattle.ds2_token.specs.Reading.{spelled_unless, spelled_token, IsTokenAt, IsFrontOf, IsNextToken, IsNextOf}
use Rattle.ds2_token.specs.Scan.{piece_size, found}
use Rattle.ds2_token.specs.Standing.{IsForm, IsLongest, BeginsWith, LeadsTo, refusal_of, refusal_of_form, IsRefusedFor, BeginsWithRefusal, without_mark, StandsFor, IsFirstRefusal, IsReadOf}
use Rattle.ds2_token.specs.Words.{quoted_kind, text_kind}
use Rattle.ds2_token.proofs.Pieces.{clash}
use Rattle.ds2_token.proofs.Fronts.{There}
use Rattle.ds2_token.proofs.FoundForms.{found_there, found_none}
use Rattle.ds2_token.proofs.OneAnswer.{one_list_stands, one_refusal_is_first, no_refusal_beside_tokens}

-- ---- where a text may be cut

cut_behind : (bs : Bytes) (n : ℕ) → IsUtf8 bs → 0 < n → n ≤ length bs → get_or bs (n - 1) 0 < 128 → IsCharBoundary bs n
cut_behind bs zero utf8 some fits ascii = absurd (omega arith)
cut_behind bs (suc n) utf8 some fits ascii =
    let less : suc n - 1 ≡ n = omega arith in
    let next : n + 1 ≡ suc n = omega arith in
    let byte : get_or bs n 0 < 128 = omega (arith, ap (λ (k : ℕ). get_or bs k 0) less) in
    subst (IsCharBoundary bs) next (IsCharBoundary-after_ascii bs n utf8 (omega arith) byte)

pub gap_edge : (bs : Bytes) (n : ℕ) → IsUtf8 bs → n ≤ length bs → (0 < n → get_or bs (n - 1) 0 < 128) → IsCharBoundary bs n
gap_edge bs zero utf8 fits ascii = IsCharBoundary-start bs utf8
gap_edge bs (suc n) utf8 fits ascii = cut_behind bs (suc n) utf8 (omega arith) fits (ascii (omega arith))

-- ---- what is found at the front

pub there_at : (text bytes : Bytes) (f : Found) → bytes ≡ text → piece_size text ≡ 0 → Some f ≡ found bytes → There text f
there_at text bytes f same none is = found_there text f none (ap found (sym same) ∙ sym is)

pub there_edge : (text : Bytes) (f : Found) (kind : TokenKind) → IsUtf8 text → There text f → f.form ≡ Ok kind → IsCharBoundary text f.size
there_edge text f kind utf8 t e = cut_behind text f.size utf8 t.some t.fits (t.ends kind e)

pub there_longest : (text : Bytes) (f : Found) → There text f → IsLongest IsForm (take f.size text) (drop f.size text)
there_longest text f t = record {
  is = (f.form, t.form);
  longest = λ other left same is.
      let within : length other ≤ f.size = t.longest other left (same ∙ take-append-drop f.size text) is in
      let size : length (take f.size text) ≡ f.size = length-take-le f.size text t.fits in
      omega arith;
}

pub cause_at : (text : Bytes) (f : Found) (kind : LexKind) → There text f → refusal_of (take f.size text) ≡ Some kind → IsRefusedFor text kind
cause_at text f kind t e = inr (take f.size text, drop f.size text, sym (take-append-drop f.size text), there_longest text f t, e)

form_along : (s : Bytes) (form other : Result TokenKind LexKind) → form_of s ≡ Some form → form ≡ other → form_of s ≡ Some other
form_along s form other e f = e ∙ ap (λ (x : Result TokenKind LexKind). Some x) f

pub refused_at : (text : Bytes) (f : Found) (kind : LexKind) → There text f → f.form ≡ Err kind → IsRefusedFor text kind
refused_at text f kind t e =
    cause_at text f kind t (ap (λ (form : Option (Result TokenKind LexKind)). refusal_of_form form (take f.size text)) (form_along (take f.size text) f.form (Err kind) t.form e))

pub none_at : (text bytes : Bytes) → bytes ≡ text → 0 < length text → None ≡ found bytes → IsRefusedFor text BadCharacter
none_at text bytes same some is = inl (found_none text some (ap found (sym same) ∙ sym is), refl)

-- ---- a spelling of a kind has the kind's form

abbrev Form : Type 0
Form = Option (Result TokenKind LexKind)

abbrev has_kind : (TokenKind → Bool) → Form → Bool
has_kind p None = false
has_kind p (Some (Err fault)) = false
has_kind p (Some (Ok kind)) = p kind

pick_not : (p : TokenKind → Bool) (b : Bool) (x rest : Form) → has_kind p x ≡ false → has_kind p (cond b x rest) ≡ true → has_kind p rest ≡ true
pick_not p true x rest other e = clash (sym other ∙ e)
pick_not p false x rest other e = e

pick_is : (p : TokenKind → Bool) (b : Bool) (x rest : Form) → has_kind p (cond b x rest) ≡ true → (b ≡ true) ⊎ (has_kind p rest ≡ true)
pick_is p true x rest e = inl refl
pick_is p false x rest e = inr e

quoted_from : (s : Bytes) → has_kind quoted_kind (form_of s) ≡ true → is_quoted_form s ≡ true
quoted_from s e =
    elim (pick_is quoted_kind (is_quoted_form s) _ _ (pick_not quoted_kind (is_word_form s) _ _ refl e)) [
      | inl f ↦ f
      | inr g ↦ clash (pick_not quoted_kind (is_open_comment s) _ _ refl (pick_not quoted_kind (is_open_form s) _ _ refl
          (pick_not quoted_kind (is_pointed_form s) _ _ refl (pick_not quoted_kind (is_mark_form s) _ _ refl
          (pick_not quoted_kind (is_decimal_form s) _ _ refl (pick_not quoted_kind (is_integer_form s) _ _ refl
          (pick_not quoted_kind (is_text_form s) _ _ refl g)))))))
    ]

text_from : (s : Bytes) → has_kind text_kind (form_of s) ≡ true → is_text_form s ≡ true
text_from s e =
    elim (pick_is text_kind (is_text_form s) _ _ (pick_not text_kind (is_quoted_form s) _ _ refl (pick_not text_kind (is_word_form s) _ _ refl e))) [
      | inl f ↦ f
      | inr g ↦ clash (pick_not text_kind (is_open_comment s) _ _ refl (pick_not text_kind (is_open_form s) _ _ refl
          (pick_not text_kind (is_pointed_form s) _ _ refl (pick_not text_kind (is_mark_form s) _ _ refl
          (pick_not text_kind (is_decimal_form s) _ _ refl (pick_not text_kind (is_integer_form s) _ _ refl g))))))
    ]

pub kind_at : (text s : Bytes) (f : Found) (kind : TokenKind) → There text f → f.form ≡ Ok kind → s ≡ take f.size text → form_of s ≡ Some (Ok kind)
kind_at text s f kind t e same = ap form_of same ∙ form_along (take f.size text) f.form (Ok kind) t.form e

pub quoted_at : (text s : Bytes) (f : Found) (kind : TokenKind) → There text f → f.form ≡ Ok kind → s ≡ take f.size text → kind ≡ Quoted → is_quoted_form s ≡ true
quoted_at text s f kind t e same is = quoted_from s (ap (has_kind quoted_kind) (kind_at text s f kind t e same) ∙ ap quoted_kind is)

pub text_at : (text s : Bytes) (f : Found) (kind : TokenKind) → There text f → f.form ≡ Ok kind → s ≡ take f.size text → kind ≡ Text → is_text_form s ≡ true
text_at text s f kind t e same is = text_from s (ap (has_kind text_kind) (kind_at text s f kind t e same) ∙ ap text_kind is)

-- ---- a token at the front

abbrev Spelled : Type 0
Spelled = Result Token (Refusal LexKind)

abbrev a_token : Token → Spelled
a_token token = Ok token

abbrev a_refusal : Refusal LexKind → Spelled
a_refusal refusal = Err refusal

same_token : (t u : Token) → a_token t ≡ a_token u → t ≡ u
same_token t u e = cc

same_refusal : (r q : Refusal LexKind) → a_refusal r ≡ a_refusal q → r ≡ q
same_refusal r q e = cc

token_refusal : {A : Type 0} (t : Token) (r : Refusal LexKind) → a_token t ≡ a_refusal r → A
token_refusal t r e = cc

token_of : (text s : Bytes) (f : Found) (kind : TokenKind) (at : Place) → IsUtf8 text → There text f → f.form ≡ Ok kind → s ≡ take f.size text
    → limit_fault kind s ≡ None → IsTokenAt at text (record { kind = kind; spelling = s; place = at })
token_of text s f kind at utf8 t e same within =
    let size : length s ≡ f.size = ap length same ∙ length-take-le f.size text t.fits in
    let behind : drop (length s) text ≡ drop f.size text = ap (λ (n : ℕ). drop n text) size in
    let P : Bytes → Type 0 = λ front. IsLongest IsForm front (drop (length s) text) in
    let Q : Bytes → Type 0 = λ back. IsLongest IsForm (take f.size text) back in
    record {
      some = omega (arith, t.some);
      cut = sym (take-append-drop f.size text) ∙ ap (λ (front : Bytes). front ++ drop f.size text) (sym same) ∙ ap (λ (back : Bytes). s ++ back) (sym behind);
      edge = subst (IsCharBoundary text) (sym size) (there_edge text f kind utf8 t e);
      form_is_longest = subst P (sym same) (subst Q (sym behind) (there_longest text f t));
      kind = kind_at text s f kind t e same;
      within = within;
      place = refl;
    }

front_ok : (text s : Bytes) (f : Found) (kind : TokenKind) (at : Place) (token : Token) (l : Option LexKind) → IsUtf8 text → There text f → f.form ≡ Ok kind → s ≡ take f.size text
    → limit_fault kind s ≡ l → spelled_unless l kind s at ≡ a_token token → IsTokenAt at text token
front_ok text s f kind at token None utf8 t e same limit says =
    subst (IsTokenAt at text) (same_token (record { kind = kind; spelling = s; place = at }) token says) (token_of text s f kind at utf8 t e same limit)
front_ok text s f kind at token (Some fault) utf8 t e same limit says = token_refusal token (record { kind = fault; place = at }) (sym says)

front_err : (text s : Bytes) (f : Found) (kind : TokenKind) (at : Place) (refusal : Refusal LexKind) (l : Option LexKind) → There text f → f.form ≡ Ok kind → s ≡ take f.size text
    → limit_fault kind s ≡ l → spelled_unless l kind s at ≡ a_refusal refusal → IsRefusedFor text refusal.kind × (refusal.place ≡ at)
front_err text s f kind at refusal None t e same limit says = token_refusal (record { kind = kind; spelling = s; place = at }) refusal says
front_err text s f kind at refusal (Some fault) t e same limit says =
    let P : Refusal LexKind → Type 0 = λ r. IsRefusedFor text r.kind × (r.place ≡ at) in
    let broken : refusal_of (take f.size text) ≡ Some fault =
    ap refusal_of (sym same) ∙ ap (λ (form : Form). refusal_of_form form s) (kind_at text s f kind t e same) ∙ limit in
    subst P (same_refusal (record { kind = fault; place = at }) refusal says) (cause_at text f fault t broken, refl)

pub front_of : (text s : Bytes) (f : Found) (kind : TokenKind) (at : Place) (r : Result Token (Stop (Refusal LexKind))) → IsUtf8 text → There text f → f.form ≡ Ok kind
    → s ≡ take f.size text → Says r (spelled_token kind s at) → IsFrontOf at text r
front_of text s f kind at (Ok token) utf8 t e same says = front_ok text s f kind at token (limit_fault kind s) utf8 t e same refl says
front_of text s f kind at (Err (Refused refusal)) utf8 t e same says = front_err text s f kind at refusal (limit_fault kind s) t e same refl says
front_of text s f kind at (Err OutOfMemory) utf8 t e same says = tt

-- ---- the next token

pub gap_all : (text rest : Bytes) (n : ℕ) → IsLongest IsGap (take n text) (drop n text) → rest ≡ drop n text → length rest ≡ 0 → IsGap text
gap_all text rest n longest same none =
    let empty : drop n text ≡ [] = nil_from_length (drop n text) (sym (ap length same) ∙ none) in
    let whole : take n text ≡ text = sym (append-nil (take n text)) ∙ ap (λ (xs : Bytes). take n text ++ xs) (sym empty) ∙ take-append-drop n text in
    subst IsGap whole longest.is

pub next_is : (at place : Place) (text passed rest : Bytes) (n size : ℕ) (token : Token) → IsLongest IsGap (take n text) (drop n text) → n ≤ length text
    → passed ≡ take n text → rest ≡ drop n text → place ≡ place_past at (chars passed) → IsTokenAt place rest token → size ≡ n + length token.spelling
    → IsNextToken at text (record { token = token; size = size })
next_is at place text passed rest n size token longest fits front back placed t whole =
    let behind : drop (length token.spelling) rest ≡ drop size text =
    ap (drop (length token.spelling)) back ∙ drop-drop (length token.spelling) n text ∙ ap (λ (k : ℕ). drop k text) (sym whole) in
    let follows : drop n text ≡ token.spelling ++ drop size text =
    sym back ∙ t.cut ∙ ap (λ (xs : Bytes). token.spelling ++ xs) behind in
    let P : Bytes → Type 0 = λ xs. IsLongest IsGap (take n text) xs in
    let Q : Bytes → Type 0 = λ xs. IsLongest IsForm token.spelling xs in
    let E : Bytes → Type 0 = λ xs. IsCharBoundary xs (length token.spelling) in
    record {
      some = omega (arith, t.some);
      edge = subst (IsCharBoundary text) (sym whole) (IsCharBoundary-from_rest text n (length token.spelling) fits (subst E back t.edge));
      begins = record {
        gap = take n text;
        cut = sym (take-append-drop n text) ∙ ap (λ (xs : Bytes). take n text ++ xs) follows;
        gap_is_longest = subst P follows longest;
        form_is_longest = subst Q behind t.form_is_longest;
        kind = t.kind;
        within = t.within;
        place = t.place ∙ placed ∙ ap (λ (xs : Bytes). place_past at (chars xs)) front;
      };
    }

pub longest_along : (text bytes : Bytes) (n : ℕ) → bytes ≡ text → IsLongest IsGap (take n bytes) (drop n bytes) → IsLongest IsGap (take n text) (drop n text)
longest_along text bytes n e is = subst (λ (xs : Bytes). IsLongest IsGap (take n xs) (drop n xs)) e is

pub refusal_is : (at place : Place) (text passed rest : Bytes) (n : ℕ) (refusal : Refusal LexKind) → IsLongest IsGap (take n text) (drop n text)
    → passed ≡ take n text → rest ≡ drop n text → place ≡ place_past at (chars passed) → IsRefusedFor rest refusal.kind × (refusal.place ≡ place) → BeginsWithRefusal at text refusal
refusal_is at place text passed rest n refusal longest front back placed is =
    let P : Bytes → Type 0 = λ xs. IsRefusedFor xs refusal.kind in
    record {
      gap = take n text;
      left = drop n text;
      cut = sym (take-append-drop n text);
      gap_is_longest = longest;
      cause = subst P back is.0;
      place = is.1 ∙ placed ∙ ap (λ (xs : Bytes). place_past at (chars xs)) front;
    }

stopped : (at place : Place) (text passed rest : Bytes) (n : ℕ) (e : Stop (Refusal LexKind)) → IsLongest IsGap (take n text) (drop n text)
    → passed ≡ take n text → rest ≡ drop n text → place ≡ place_past at (chars passed) → IsFrontOf place rest (Err e) → IsNextOf at text (Err e)
stopped at place text passed rest n (Refused refusal) longest front back placed is = refusal_is at place text passed rest n refusal longest front back placed is
stopped at place text passed rest n OutOfMemory longest front back placed is = tt

pub err_next : (at place : Place) (text passed rest : Bytes) (n : ℕ) (e : Stop (Refusal LexKind)) (r : Result (Option Next) (Stop (Refusal LexKind)))
    → IsLongest IsGap (take n text) (drop n text) → passed ≡ take n text → rest ≡ drop n text → place ≡ place_past at (chars passed)
    → IsFrontOf place rest (Err e) → r ≡ Err e → IsNextOf at text r
err_next at place text passed rest n e r longest front back placed is same =
    subst (IsNextOf at text) (sym same) (stopped at place text passed rest n e longest front back placed is)

-- ---- whole texts

-- one more token behind others
leads_more : (tokens : List Token) (at mid : Place) (text rest after : Bytes) (token : Token) → LeadsTo at text tokens mid rest → BeginsWith mid rest token after
    → LeadsTo at text (tokens ++ token ∷ []) (place_past token.place (chars token.spelling)) after
leads_more [] at mid text rest after token leads begins =
    let P : Place → Type 0 = λ place. BeginsWith place text token after in
    let Q : Bytes → Type 0 = λ bytes. BeginsWith mid bytes token after in
    (after, subst P (sym leads.0) (subst Q (sym leads.1) begins), (refl, refl))
leads_more (t ∷ ts) at mid text rest after token (behind, first, leads) begins =
    (behind, first, leads_more ts (place_past t.place (chars t.spelling)) mid behind rest after token leads begins)

pub read_step : (tokens grown : List Token) (at mid place : Place) (text rest after : Bytes) (token : Token) (size : ℕ) → LeadsTo at text tokens mid rest
    → IsNextToken mid rest (record { token = token; size = size }) → grown ≡ tokens ++ token ∷ [] → place ≡ place_past token.place (chars token.spelling) → after ≡ drop size rest
    → LeadsTo at text grown place after
read_step tokens grown at mid place text rest after token size leads is more placed back =
    let P : List Token → Type 0 = λ ts. LeadsTo at text ts place after in
    let Q : Place → Type 0 = λ p. LeadsTo at text (tokens ++ token ∷ []) p after in
    let R : Bytes → Type 0 = λ bytes. LeadsTo at text (tokens ++ token ∷ []) (place_past token.place (chars token.spelling)) bytes in
    subst P (sym more) (subst Q (sym placed) (subst R (sym back) (leads_more tokens at mid text rest (drop size rest) token leads is.begins)))

-- where a text was read to, and what comes of it
pub read_start : (text rest : Bytes) → rest ≡ without_mark text → LeadsTo start_place (without_mark text) [] start_place rest
read_start text rest e = (refl, sym e)

-- the one answer of a text
pub accepts_of : (text : Bytes) (r : Result (List Token) (Stop (Refusal LexKind))) → IsReadOf text r → (tokens : List Token) → StandsFor text tokens → Says r (Ok tokens)
accepts_of text (Ok list) read tokens stands = ap (λ (ts : List Token). Ok ts) (one_list_stands text tokens list stands read)
accepts_of text (Err (Refused refusal)) read tokens stands = absurd (no_refusal_beside_tokens text tokens refusal stands read)
accepts_of text (Err OutOfMemory) read tokens stands = tt

pub refuses_of : (text : Bytes) (r : Result (List Token) (Stop (Refusal LexKind))) → IsReadOf text r → (refusal : Refusal LexKind) → IsFirstRefusal text refusal → Says r (Err refusal)
refuses_of text (Ok list) read refusal first = absurd (no_refusal_beside_tokens text list refusal read first)
refuses_of text (Err (Refused other)) read refusal first = ap (λ (x : Refusal LexKind). Err x) (one_refusal_is_first text refusal other first read)
refuses_of text (Err OutOfMemory) read refusal first = tt

pub read_along : (text other : Bytes) (r : Result (List Token) (Stop (Refusal LexKind))) → other ≡ text → IsReadOf other r → IsReadOf text r
read_along text other r e read = subst (λ (bytes : Bytes). IsReadOf bytes r) e read
