-- The tables that programs name, gathered once, and those of each program among them.
use Rattle.std.proofs.Common.{◌≡◌, ◌+◌, ◌≤◌, ◌∙◌, ℕ, zero, suc, List, [], ◌∷◌, ◌++◌, drop, length, take, Some, None, refl, sym, ap, subst, append_assoc, arith}
use Rattle.std.specs.Prelude.{slice_get}
use Rattle.std.proofs.Math.Seq.{drop-append_seam}
use Rattle.std.proofs.lemmas.List.{length-append}
use Rattle.ds2_code.specs.declared.parts.StagedParts.{StagedParts}
use Rattle.ds2_code.specs.declared.parts.TableReference.{TableReference}
use Rattle.ds2_code_answer.specs.CodeTables.{program_references}
use Rattle.ds2_answer.specs.ObjectPlans.{references_of}
use Rattle.ds2_exec.specs.declared.run_codes.NamedPlace.{NamedPlace}
use Rattle.ds2_exec.specs.GatheredCodes.{AreGathered, places_behind}

-- what one program names
abbrev named_by : StagedParts → List TableReference
named_by code = program_references code.program code.stages

-- ---- one more program

pub named_more : (codes' left after : List StagedParts) (code : StagedParts) (references own now : List TableReference) → left ≡ code ∷ after → own ≡ named_by code → now ≡ references ++ own
    → references ++ references_of left ≡ references_of codes' → now ++ references_of after ≡ references_of codes'
named_more codes' left after code references own now is named added so_far =
    ap (λ (rs : List TableReference). rs ++ references_of after) (added ∙ ap (λ (rs : List TableReference). references ++ rs) named)
    ∙ append_assoc references (named_by code) (references_of after)
    ∙ ap (λ (cs : List StagedParts). references ++ references_of cs) (sym is)
    ∙ so_far

pub placed_more : (codes' left after : List StagedParts) (code : StagedParts) (references own now : List TableReference) (places more : List NamedPlace) (start count : ℕ) → left ≡ code ∷ after → own ≡ named_by code
    → now ≡ references ++ own → start ≡ length references → count ≡ length own → more ≡ places ++ record { start = start; count = count } ∷ []
    → places ++ places_behind (length references) left ≡ places_behind 0 codes' → more ++ places_behind (length now) after ≡ places_behind 0 codes'
placed_more codes' left after code references own now places more start count is named added starts counts pushed so_far =
    let size : count ≡ length (named_by code) = counts ∙ ap length named in
    let here : NamedPlace = record { start = length references; count = length (named_by code) } in
    let same : record { start = start; count = count } ≡ here = λ i. record { start = starts i; count = size i } in
    let all : length now ≡ length references + length (named_by code) = ap length (added ∙ ap (λ (rs : List TableReference). references ++ rs) named) ∙ length-append references (named_by code) in
    ap (λ (ps : List NamedPlace). ps ++ places_behind (length now) after) (pushed ∙ ap (λ (p : NamedPlace). places ++ p ∷ []) same)
    ∙ append_assoc places (here ∷ []) (places_behind (length now) after)
    ∙ ap (λ (n : ℕ). places ++ here ∷ places_behind n after) all
    ∙ ap (λ (cs : List StagedParts). places ++ places_behind (length references) cs) (sym is)
    ∙ so_far

-- ---- the tables of one program

-- each program has its place
placed_where : (codes' : List StagedParts) (before number : ℕ) (code : StagedParts) → slice_get codes' number ≡ Some code → slice_get (places_behind before codes') number ≡ None → ⊥
placed_where [] before zero code here none = absurd cc
placed_where [] before (suc number) code here none = absurd cc
placed_where (c ∷ codes') before zero code here none = absurd cc
placed_where (c ∷ codes') before (suc number) code here none = placed_where codes' (before + length (named_by c)) number code here none

pub has_place : (codes' : List StagedParts) (places : List NamedPlace) (number : ℕ) (code : StagedParts) → places ≡ places_behind 0 codes' → slice_get codes' number ≡ Some code → slice_get places number ≡ None → ⊥
has_place codes' places number code is here none = placed_where codes' 0 number code here (ap (λ (ps : List NamedPlace). slice_get ps number) (sym is) ∙ none)

-- the references at a place are what a program names
abbrev pub IsCut : List TableReference → NamedPlace → List TableReference → Type 0
IsCut references place own = take place.count (drop place.start references) ≡ own

take_own : {A : Type 0} (own more : List A) → take (length own) (own ++ more) ≡ own
take_own [] more = refl
take_own (x ∷ own) more = ap (λ xs. x ∷ xs) (take_own own more)

cut_here : (front own more : List TableReference) → IsCut (front ++ (own ++ more)) (record { start = length front; count = length own }) own
cut_here front own more = ap (take (length own)) (drop-append_seam front (own ++ more)) ∙ take_own own more

cut_behind : (codes' : List StagedParts) (front : List TableReference) (number : ℕ) (code : StagedParts) (place : NamedPlace) → slice_get codes' number ≡ Some code
    → slice_get (places_behind (length front) codes') number ≡ Some place → IsCut (front ++ references_of codes') place (named_by code)
cut_behind [] front zero code place here at = absurd cc
cut_behind [] front (suc number) code place here at = absurd cc
cut_behind (c ∷ codes') front zero code place here at =
    let same : c ≡ code = cc in
    let first : NamedPlace = record { start = length front; count = length (named_by c) } in
    let there : first ≡ place = cc in
    let P : StagedParts → Type 0 = λ x. IsCut (front ++ references_of (c ∷ codes')) place (named_by x) in
    let Q : NamedPlace → Type 0 = λ p. IsCut (front ++ references_of (c ∷ codes')) p (named_by c) in
    subst P same (subst Q there (cut_here front (named_by c) (references_of codes')))
cut_behind (c ∷ codes') front (suc number) code place here at =
    let own = named_by c in
    let count : length front + length own ≡ length (front ++ own) = sym (length-append front own) in
    let P : ℕ → Type 0 = λ n. slice_get (places_behind n codes') number ≡ Some place in
    subst (λ (rs : List TableReference). IsCut rs place (named_by code)) (append_assoc front own (references_of codes')) (cut_behind codes' (front ++ own) number code place here (subst P count at))

pub cut_at : (codes' : List StagedParts) (references : List TableReference) (places : List NamedPlace) (number : ℕ) (code : StagedParts) (place : NamedPlace) → AreGathered codes' references places → slice_get codes' number ≡ Some code
    → slice_get places number ≡ Some place → IsCut references place (named_by code)
cut_at codes' references places number code place gathered here at =
    subst (λ (rs : List TableReference). IsCut rs place (named_by code)) (sym gathered.named) (cut_behind codes' [] number code place here (ap (λ (ps : List NamedPlace). slice_get ps number) (sym gathered.placed) ∙ at))

-- a place is within the references
within_all : (codes' : List StagedParts) (before number : ℕ) (place : NamedPlace) → slice_get (places_behind before codes') number ≡ Some place → place.start + place.count ≤ before + length (references_of codes')
within_all [] before zero place at = absurd cc
within_all [] before (suc number) place at = absurd cc
within_all (c ∷ codes') before zero place at =
    let count = length-append (named_by c) (references_of codes') in
    let first : NamedPlace = record { start = before; count = length (named_by c) } in
    let there : first ≡ place = cc in
    subst (λ (p : NamedPlace). p.start + p.count ≤ before + length (references_of (c ∷ codes'))) there (omega (arith, count))
within_all (c ∷ codes') before (suc number) place at =
    let count = length-append (named_by c) (references_of codes') in
    omega (arith, count, within_all codes' (before + length (named_by c)) number place at)

pub place_within : (codes' : List StagedParts) (references : List TableReference) (places : List NamedPlace) (number : ℕ) (place : NamedPlace) → AreGathered codes' references places → slice_get places number ≡ Some place
    → place.start + place.count ≤ length references
place_within codes' references places number place gathered at =
    let within = within_all codes' 0 number place (ap (λ (ps : List NamedPlace). slice_get ps number) (sym gathered.placed) ∙ at) in
    omega (arith, within, ap length gathered.named)

-- ---- the first of the codes that are left

pub record IsNext (codes' : List StagedParts) (number : ℕ) (code : StagedParts) (after : List StagedParts) : Type 0 where
  pub here : slice_get codes' number ≡ Some code
  pub behind : drop (number + 1) codes' ≡ after

pub next_at : (codes' : List StagedParts) (number : ℕ) (code : StagedParts) (after : List StagedParts) → drop number codes' ≡ code ∷ after → IsNext codes' number code after
next_at [] zero code after is = absurd cc
next_at [] (suc number) code after is = absurd cc
next_at (c ∷ codes') zero code after is =
    let same : c ≡ code = cc in
    let rest : codes' ≡ after = cc in
    let one : 0 + 1 ≡ suc zero = omega arith in
    record { here = ap (λ (x : StagedParts). Some x) same; behind = ap (λ (n : ℕ). drop n (c ∷ codes')) one ∙ rest }
next_at (c ∷ codes') (suc number) code after is =
    let next = next_at codes' number code after is in
    let more : suc number + 1 ≡ suc (number + 1) = omega arith in
    record { here = next.here; behind = ap (λ (n : ℕ). drop n (c ∷ codes')) more ∙ next.behind }
