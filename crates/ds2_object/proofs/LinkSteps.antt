-- Links, program after program.
use Rattle.std.proofs.Common.{◌≡◌, ℕ, zero, suc, ◌+◌, Bool, true, false, ◌&&◌, List, [], ◌∷◌, ◌++◌, take, drop, slice_get, Some, sym, ap, ◌∙◌, append_assoc, append-nil, arith}
use Rattle.ds2_code.specs.declared.parts.StagedParts.{StagedParts}
use Rattle.ds2_object_words.proofs.PartLemmas.{some_is}
use Rattle.ds2_object.specs.ObjectSpelling.{program_linked, linked_behind}

abbrev linked_split : List StagedParts → StagedParts → List StagedParts → List StagedParts → Bool
linked_split earlier p more behind = program_linked earlier p && linked_behind more behind

linked_at : (done programs : List StagedParts) (i : ℕ) (p : StagedParts) → slice_get programs i ≡ Some p
    → linked_behind (done ++ take i programs) (drop i programs) ≡ linked_split (done ++ take i programs) p (done ++ take (suc i) programs) (drop (suc i) programs)
linked_at done [] i p e = absurd cc
linked_at done (q ∷ programs) zero p e =
    let same : q ≡ p = some_is q p e in
    rw (append-nil done) (ap (λ (z : StagedParts). linked_split done z (done ++ q ∷ []) programs) same)
linked_at done (q ∷ programs) (suc i) p e =
    let here : (done ++ q ∷ []) ++ take i programs ≡ done ++ q ∷ take i programs = append_assoc done (q ∷ []) (take i programs) in
    let next : (done ++ q ∷ []) ++ take (suc i) programs ≡ done ++ q ∷ take (suc i) programs = append_assoc done (q ∷ []) (take (suc i) programs) in
    ap (λ (z : List StagedParts). linked_behind z (drop i programs)) (sym here) ∙ linked_at (done ++ q ∷ []) programs i p e
    ∙ ap (λ (z : List StagedParts). linked_split z p ((done ++ q ∷ []) ++ take (suc i) programs) (drop (suc i) programs)) here
    ∙ ap (λ (z : List StagedParts). linked_split (done ++ q ∷ take i programs) p z (drop (suc i) programs)) next

-- the links of a program and of those behind it
pub linked_step : (programs : List StagedParts) (i : ℕ) (p : StagedParts) → slice_get programs i ≡ Some p
    → linked_behind (take i programs) (drop i programs) ≡ (program_linked (take i programs) p && linked_behind (take (suc i) programs) (drop (suc i) programs))
linked_step programs i p e = linked_at [] programs i p e

-- one more program is linked
pub link_more : (programs : List StagedParts) (i : ℕ) (p : StagedParts) (b total : Bool) → slice_get programs i ≡ Some p → b ≡ program_linked (take i programs) p → b ≡ true
    → linked_behind (take i programs) (drop i programs) ≡ total → linked_behind (take (i + 1) programs) (drop (i + 1) programs) ≡ total
link_more programs i p b total at is holds so_far =
    let next : i + 1 ≡ suc i = omega arith in
    let one : linked_behind (take i programs) (drop i programs) ≡ linked_behind (take (suc i) programs) (drop (suc i) programs) =
    linked_step programs i p at ∙ ap (λ (z : Bool). z && linked_behind (take (suc i) programs) (drop (suc i) programs)) (sym is ∙ holds) in
    rw next (sym one ∙ so_far)

-- a program is not linked
pub link_broken : (programs : List StagedParts) (i : ℕ) (p : StagedParts) (b total : Bool) → slice_get programs i ≡ Some p → b ≡ program_linked (take i programs) p → b ≡ false
    → linked_behind (take i programs) (drop i programs) ≡ total → total ≡ false
link_broken programs i p b total at is fails so_far =
    sym so_far ∙ linked_step programs i p at ∙ ap (λ (z : Bool). z && linked_behind (take (suc i) programs) (drop (suc i) programs)) (sym is ∙ fails)
