-- A text has one answer: the tokens that stand for it, or the first refusal.
use Rattle.std.proofs.Common.{◌≡◌, ◌+◌, ◌<◌, ◌≤◌, inl, inr, List, [], ◌∷◌, ◌++◌, length, Option, Some, None, Result, Ok, refl, sym, ap, ◌∙◌, subst, arith}
use Rattle.std.proofs.lemmas.List.{append-nil, length-append}
use Rattle.std.specs.Str.{chars}
use Rattle.ds2_base.specs.Bytes.{Bytes}
use Rattle.ds2_base.specs.Place.{start_place, place_past}
use Rattle.ds2_base.specs.declared.place.Place.{Place}
use Rattle.ds2_base.specs.declared.place.Refusal.{Refusal}
use Rattle.ds2_token.specs.declared.kinds.TokenKind.{TokenKind}
use Rattle.ds2_token.specs.declared.kinds.LexKind.{LexKind}
use Rattle.ds2_token.specs.declared.token.Token.{Token}
use Rattle.ds2_token.specs.Forms.{IsGap, form_of}
use Rattle.ds2_token.specs.Limits.{limit_fault}
use Rattle.ds2_token.specs.Standing.{IsForm, IsLongest, BeginsWith, LeadsTo, refusal_of, refusal_of_form, IsRefusedFor, BeginsWithRefusal, without_mark}
use Rattle.ds2_token.specs.Laws.{OneListStands, OneRefusalIsFirst, NoRefusalBesideTokens}

-- ---- beginnings of one text

-- two beginnings of one length are equal, and so is what stands behind them
pub same_cut : (a b c d : Bytes) → a ++ b ≡ c ++ d → length a ≡ length c → (a ≡ c) × (b ≡ d)
same_cut [] b [] d e l = (refl, e)
same_cut [] b (x ∷ c) d e l = absurd (omega arith)
same_cut (x ∷ a) b [] d e l = absurd (omega arith)
same_cut (x ∷ a) b (y ∷ c) d e l =
    let whole : x ∷ (a ++ b) ≡ y ∷ (c ++ d) = e in
    let heads : x ≡ y = cc in
    let tails : a ++ b ≡ c ++ d = cc in
    let rest : (a ≡ c) × (b ≡ d) = same_cut a b c d tails (omega arith) in
    let front : a ≡ c = rest.0 in
    let both : x ∷ a ≡ y ∷ c = cc in
    (both, rest.1)

-- two longest beginnings of one text are equal
pub longest_same : (Is : Bytes → Type 0) (a b c d : Bytes) → IsLongest Is a b → IsLongest Is c d → a ++ b ≡ c ++ d → (a ≡ c) × (b ≡ d)
longest_same Is a b c d p q e =
    let up : length c ≤ length a = p.longest c d (sym e) q.is in
    let down : length a ≤ length c = q.longest a b e p.is in
    same_cut a b c d e (omega arith)

-- ---- forms

abbrev formed : TokenKind → Option (Result TokenKind LexKind)
formed kind = Some (Ok kind)

same_kind : (k l : TokenKind) → formed k ≡ formed l → k ≡ l
same_kind k l e = cc

none_formed : (form : Result TokenKind LexKind) → None ≡ Some form → ⊥
none_formed form e = cc

pub form_some : (s : Bytes) → IsForm s → 0 < length s
form_some [] (form, e) = absurd (none_formed form e)
form_some (c ∷ cs) is = omega arith

none_refused : (kind : LexKind) → None ≡ Some kind → ⊥
none_refused kind e = cc

same_refused : (k l : LexKind) → Some k ≡ Some l → k ≡ l
same_refused k l e = cc

-- the spelling of a token is not refused
kept : (s : Bytes) (kind : TokenKind) (refused : LexKind) → form_of s ≡ Some (Ok kind) → limit_fault kind s ≡ None → refusal_of s ≡ Some refused → ⊥
kept s kind refused is within fault =
    let said : refusal_of s ≡ limit_fault kind s = ap (λ (form : Option (Result TokenKind LexKind)). refusal_of_form form s) is in
    none_refused refused (sym within ∙ sym said ∙ fault)

-- ---- what a text begins with

token_same : (t u : Token) → t.kind ≡ u.kind → t.spelling ≡ u.spelling → t.place ≡ u.place → t ≡ u
token_same t u k s p = λ i. record { kind = k i; spelling = s i; place = p i }

refusal_same : (r q : Refusal LexKind) → r.kind ≡ q.kind → r.place ≡ q.place → r ≡ q
refusal_same r q k p = λ i. record { kind = k i; place = p i }

begins_same : (at : Place) (text : Bytes) (t u : Token) (r s : Bytes) → BeginsWith at text t r → BeginsWith at text u s → (t ≡ u) × (r ≡ s)
begins_same at text t u r s p q =
    let gaps : (p.gap ≡ q.gap) × (t.spelling ++ r ≡ u.spelling ++ s) =
    longest_same IsGap p.gap (t.spelling ++ r) q.gap (u.spelling ++ s) p.gap_is_longest q.gap_is_longest (sym p.cut ∙ q.cut) in
    let parts : (t.spelling ≡ u.spelling) × (r ≡ s) = longest_same IsForm t.spelling r u.spelling s p.form_is_longest q.form_is_longest gaps.1 in
    let kinds : t.kind ≡ u.kind = same_kind t.kind u.kind (sym p.kind ∙ ap form_of parts.0 ∙ q.kind) in
    let places : t.place ≡ u.place = p.place ∙ ap (λ (gap : Bytes). place_past at (chars gap)) gaps.0 ∙ sym q.place in
    (token_same t u kinds parts.0 places, parts.1)

-- a text that is a gap begins with nothing else
gap_is_all : (text gap rest : Bytes) → IsGap text → text ≡ gap ++ rest → IsLongest IsGap gap rest → length rest ≡ 0
gap_is_all text gap rest is cut longest =
    let whole : text ++ [] ≡ gap ++ rest = append-nil text ∙ cut in
    let most : length text ≤ length gap = longest.longest text [] whole is in
    let sizes : length text ≡ length gap + length rest = ap length cut ∙ length-append gap rest in
    omega arith

gap_no_token : (at : Place) (text : Bytes) (t : Token) (r : Bytes) → IsGap text → BeginsWith at text t r → ⊥
gap_no_token at text t r is p =
    let none : length (t.spelling ++ r) ≡ 0 = gap_is_all text p.gap (t.spelling ++ r) is p.cut p.gap_is_longest in
    let some : 0 < length t.spelling = form_some t.spelling p.form_is_longest.is in
    let sizes : length (t.spelling ++ r) ≡ length t.spelling + length r = length-append t.spelling r in
    omega arith

cause_some : (text : Bytes) (kind : LexKind) → IsRefusedFor text kind → 0 < length text
cause_some text kind (inl (none, e)) = none.0
cause_some text kind (inr (s, rest, cut, longest, refused)) =
    let some : 0 < length s = form_some s longest.is in
    let sizes : length text ≡ length s + length rest = ap length cut ∙ length-append s rest in
    omega arith

gap_no_refusal : (at : Place) (text : Bytes) (r : Refusal LexKind) → IsGap text → BeginsWithRefusal at text r → ⊥
gap_no_refusal at text r is p =
    let none : length p.left ≡ 0 = gap_is_all text p.gap p.left is p.cut p.gap_is_longest in
    let some : 0 < length p.left = cause_some p.left r.kind p.cause in
    omega arith

token_no_cause : (t : Token) (rest left : Bytes) (kind : LexKind) → t.spelling ++ rest ≡ left → IsLongest IsForm t.spelling rest
    → form_of t.spelling ≡ Some (Ok t.kind) → limit_fault t.kind t.spelling ≡ None → IsRefusedFor left kind → ⊥
token_no_cause t rest left kind same longest is within (inl (none, e)) = none.1 t.spelling rest same longest.is
token_no_cause t rest left kind same longest is within (inr (s, after, cut, most, refused)) =
    let parts : (s ≡ t.spelling) × (after ≡ rest) = longest_same IsForm s after t.spelling rest most longest (sym cut ∙ sym same) in
    kept t.spelling t.kind kind is within (sym (ap refusal_of parts.0) ∙ refused)

token_no_refusal : (at : Place) (text : Bytes) (t : Token) (rest : Bytes) (r : Refusal LexKind) → BeginsWith at text t rest → BeginsWithRefusal at text r → ⊥
token_no_refusal at text t rest r p q =
    let gaps : (p.gap ≡ q.gap) × (t.spelling ++ rest ≡ q.left) =
    longest_same IsGap p.gap (t.spelling ++ rest) q.gap q.left p.gap_is_longest q.gap_is_longest (sym p.cut ∙ q.cut) in
    token_no_cause t rest q.left r.kind gaps.1 p.form_is_longest p.kind p.within q.cause

cause_same : (text other : Bytes) (k l : LexKind) → text ≡ other → IsRefusedFor text k → IsRefusedFor other l → k ≡ l
cause_same text other k l same (inl (none, e)) (inl (never, f)) = e ∙ sym f
cause_same text other k l same (inl (none, e)) (inr (s, rest, cut, longest, refused)) = absurd (none.1 s rest (sym cut ∙ sym same) longest.is)
cause_same text other k l same (inr (s, rest, cut, longest, refused)) (inl (none, e)) = absurd (none.1 s rest (sym cut ∙ same) longest.is)
cause_same text other k l same (inr (s, rest, cut, longest, refused)) (inr (z, after, cut2, longest2, refused2)) =
    let parts : (s ≡ z) × (rest ≡ after) = longest_same IsForm s rest z after longest longest2 (sym cut ∙ same ∙ cut2) in
    same_refused k l (sym refused ∙ ap refusal_of parts.0 ∙ refused2)

refused_same : (at : Place) (text : Bytes) (r q : Refusal LexKind) → BeginsWithRefusal at text r → BeginsWithRefusal at text q → r ≡ q
refused_same at text r q a b =
    let gaps : (a.gap ≡ b.gap) × (a.left ≡ b.left) = longest_same IsGap a.gap a.left b.gap b.left a.gap_is_longest b.gap_is_longest (sym a.cut ∙ b.cut) in
    refusal_same r q (cause_same a.left b.left r.kind q.kind gaps.1 a.cause b.cause)
    (a.place ∙ ap (λ (gap : Bytes). place_past at (chars gap)) gaps.0 ∙ sym b.place)

-- ---- whole texts

-- how a text ends behind its tokens: in a gap, or with a refusal
abbrev Ends : Place → Bytes → Option (Refusal LexKind) → Type 0
Ends at text None = IsGap text
Ends at text (Some refusal) = BeginsWithRefusal at text refusal

ends_same : (at : Place) (text : Bytes) (a b : Option (Refusal LexKind)) → Ends at text a → Ends at text b → a ≡ b
ends_same at text None None p q = refl
ends_same at text None (Some r) p q = absurd (gap_no_refusal at text r p q)
ends_same at text (Some r) None p q = absurd (gap_no_refusal at text r q p)
ends_same at text (Some r) (Some s) p q = ap (λ (x : Refusal LexKind). Some x) (refused_same at text r s p q)

ends_no_token : (at : Place) (text : Bytes) (a : Option (Refusal LexKind)) (t : Token) (rest : Bytes) → Ends at text a → BeginsWith at text t rest → ⊥
ends_no_token at text None t rest p q = gap_no_token at text t rest p q
ends_no_token at text (Some r) t rest p q = token_no_refusal at text t rest r q p

ends_along : (at end : Place) (text left : Bytes) (a : Option (Refusal LexKind)) → at ≡ end → text ≡ left → Ends end left a → Ends at text a
ends_along at end text left a p q is =
    let P : Place → Type 0 = λ place. Ends place text a in
    let Q : Bytes → Type 0 = λ bytes. Ends end bytes a in
    subst P (sym p) (subst Q (sym q) is)

leads_same : (tokens others : List Token) (at end stop : Place) (text left rest : Bytes) (a b : Option (Refusal LexKind))
    → LeadsTo at text tokens end left → Ends end left a → LeadsTo at text others stop rest → Ends stop rest b → (tokens ≡ others) × (a ≡ b)
leads_same [] [] at end stop text left rest a b p ends q stops =
    (refl, ends_same at text a b (ends_along at end text left a p.0 p.1 ends) (ends_along at stop text rest b q.0 q.1 stops))
leads_same [] (u ∷ us) at end stop text left rest a b p ends (after, q, more) stops =
    absurd (ends_no_token at text a u after (ends_along at end text left a p.0 p.1 ends) q)
leads_same (t ∷ ts) [] at end stop text left rest a b (after, p, more) ends q stops =
    absurd (ends_no_token at text b t after (ends_along at stop text rest b q.0 q.1 stops) p)
leads_same (t ∷ ts) (u ∷ us) at end stop text left rest a b (after, p, more) ends (behind, q, others) stops =
    let heads : (t ≡ u) × (after ≡ behind) = begins_same at text t u after behind p q in
    let P : Token → Type 0 = λ token. LeadsTo (place_past token.place (chars token.spelling)) behind us stop rest in
    let Q : Bytes → Type 0 = λ bytes. LeadsTo (place_past t.place (chars t.spelling)) bytes us stop rest in
    let moved : LeadsTo (place_past t.place (chars t.spelling)) after us stop rest = subst Q (sym heads.1) (subst P (sym heads.0) others) in
    let tails : (ts ≡ us) × (a ≡ b) = leads_same ts us (place_past t.place (chars t.spelling)) end stop after left rest a b more ends moved stops in
    let first : t ≡ u = heads.0 in
    let then_same : ts ≡ us = tails.0 in
    let both : t ∷ ts ≡ u ∷ us = cc in
    (both, tails.1)

pub one_list_stands : OneListStands
one_list_stands text tokens others (end, left, p, gap) (stop, rest, q, gap2) =
    (leads_same tokens others start_place end stop (without_mark text) left rest None None p gap q gap2).0

some_same : (r q : Refusal LexKind) → Some r ≡ Some q → r ≡ q
some_same r q e = cc

none_some : (r : Refusal LexKind) → None ≡ Some r → ⊥
none_some r e = cc

pub one_refusal_is_first : OneRefusalIsFirst
one_refusal_is_first text refusal other (tokens, at, left, p, begins) (others, stop, rest, q, begins2) =
    some_same refusal other (leads_same tokens others start_place at stop (without_mark text) left rest (Some refusal) (Some other) p begins q begins2).1

pub no_refusal_beside_tokens : NoRefusalBesideTokens
no_refusal_beside_tokens text tokens refusal (end, left, p, gap) (others, stop, rest, q, begins) =
    none_some refusal (leads_same tokens others start_place end stop (without_mark text) left rest None (Some refusal) p gap q begins).1
