use Rattle.std.proofs.Common.{◌≡◌, ◌≢◌, ℕ, List, ◌∷◌, [], ◌++◌, ◌∙◌, ap, sym, lit<}
use Rattle.std.specs.Str.{IsUtf8}
use Rattle.std.proofs.lemmas.Str.Pattern.{strip_suffix_char}
use Rattle.ds2_value.specs.Texts.{trimmed}
use Rattle.ds2_value.proofs.TrimLemmas.{utf8-front, trimmed-blank, trimmed-none}
use Rattle.ds2_value.proofs.texts.trimmed.Goals as goal

pub blanks-preserved : goal.blanks-preserved
blanks-preserved c =
    let ending = strip_suffix_char 32 c.blanks.rest.now c.strip_suffix.result c.strip_suffix.ensures.cases (lit< tt) in
    let e : c.blanks.rest.now ≡ c.in-Some.front.now ++ 32 ∷ [] = rw c.in-Some.is at ending in
    let u : IsUtf8 c.in-Some.front.now = utf8-front c.in-Some.front.now (rw e at c.blanks.invariant.0) in
    (u, sym (trimmed-blank c.in-Some.front.now u) ∙ sym (ap trimmed e) ∙ c.blanks.invariant.1)

pub returns : goal.returns
returns c =
    let ending = strip_suffix_char 32 c.blanks.rest.now c.strip_suffix.result c.strip_suffix.ensures.cases (lit< tt) in
    let none : (front : List ℕ) → c.blanks.rest.now ≢ front ++ 32 ∷ [] = rw c.in_default.is at ending in
    trimmed-none c.blanks.rest.now c.blanks.invariant.0 none ∙ c.blanks.invariant.1
