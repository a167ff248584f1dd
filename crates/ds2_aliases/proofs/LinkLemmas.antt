-- Tables that link methods to names.
use Rattle.std.proofs.Common.{◌≡◌, ℕ, Bool, true, false, not, ◌||◌, ◌&&◌, cond, List, [], ◌∷◌, bytes_eq, Option, Some, None, refl, sym, ap, ◌∙◌}
use Rattle.std.specs.Prelude.{if◌then◌else◌, unwrap_or}
use Rattle.std.proofs.lemmas.Slice.Eq.{bytes_eq-Decides}
use Rattle.ds2_meaning.specs.ProgramTree.{is_listed}
use Rattle.ds2_aliases.specs.declared.links.LinkKind.{LinkKind}
use Rattle.ds2_aliases.specs.declared.parts.MethodParts.{MethodParts}
use Rattle.ds2_aliases.specs.MethodLinks.{links_of_method, links_if_any}
use Rattle.ds2_aliases.specs.ReachingMethods.{part_named}
use Rattle.ds2_aliases.proofs.TestLemmas.{or_false, and_false, and_true}

-- a name that was taken out of a table
pub linked_taken : (t : Bool) (old new : Option (List (List ℕ))) → new ≡ cond t None old → unwrap_or new [] ≡ (if t then [] else unwrap_or old [])
linked_taken true old new h = ap (λ o. unwrap_or o []) h
linked_taken false old new h = ap (λ o. unwrap_or o []) h

-- a name that was put into one
linked_put : (t : Bool) (old new : Option (List (List ℕ))) (methods : List (List ℕ)) → new ≡ cond t (Some methods) old → unwrap_or new [] ≡ (if t then methods else unwrap_or old [])
linked_put true old new methods h = ap (λ o. unwrap_or o []) h
linked_put false old new methods h = ap (λ o. unwrap_or o []) h

-- a method that is linked to a name more
pub one_link : (old : List ℕ → List (List ℕ)) (name method other m : List ℕ) (between new : Option (List (List ℕ))) (methods : List (List ℕ)) → ((m : List ℕ) → is_listed methods m ≡ (is_listed (old name) m || bytes_eq method m))
    → unwrap_or between [] ≡ (if bytes_eq name other then [] else old other) → new ≡ cond (bytes_eq name other) (Some methods) between
    → is_listed (unwrap_or new []) m ≡ (is_listed (old other) m || (bytes_eq method m && bytes_eq name other))
one_link old name method other m between new methods pushed taken put = by (bytes_eq name other) refl taken (linked_put (bytes_eq name other) between new methods put)
  where
    by : (t : Bool) → bytes_eq name other ≡ t → unwrap_or between [] ≡ (if t then [] else old other) → unwrap_or new [] ≡ (if t then methods else unwrap_or between [])
        → is_listed (unwrap_or new []) m ≡ (is_listed (old other) m || (bytes_eq method m && t))
    by true e k h =
        ap (λ ms. is_listed ms m) h
        ∙ pushed m
        ∙ (λ i. is_listed (old ((bytes_eq-Decides name other).0 e i)) m || sym (and_true (bytes_eq method m)) i)
    by false e k h =
        ap (λ ms. is_listed ms m) (h ∙ k)
        ∙ sym (or_false (is_listed (old other) m))
        ∙ ap (λ t. is_listed (old other) m || t) (sym (and_false (bytes_eq method m)))

-- one name more, before further ones
pub one_more_link : (o t n r : Bool) → ((o || (t && n)) || (t && r)) ≡ (o || (t && (n || r)))
one_more_link true t n r = refl
one_more_link false true true r = refl
one_more_link false true false r = refl
one_more_link false false n r = refl

-- one method more: its names are linked, unless its name was seen
pub one_more_method : (k : LinkKind) (o s seen : Bool) (m : MethodParts) (rest : List MethodParts) (name method : List ℕ) → (bytes_eq m.name method ≡ true → seen ≡ s)
    → ((o || (not seen && (bytes_eq m.name method && is_listed (links_of_method k m) name))) || (not (bytes_eq m.name method || s) && is_listed (links_if_any k (part_named rest method)) name))
    ≡ (o || (not s && is_listed (links_if_any k (part_named (m ∷ rest) method)) name))
one_more_method k o s seen m rest name method same = by (bytes_eq m.name method) same
  where
    here : Bool
    here = is_listed (links_of_method k m) name

    there : Bool
    there = is_listed (links_if_any k (part_named rest method)) name

    by : (t : Bool) → (t ≡ true → seen ≡ s)
        → ((o || (not seen && (t && here))) || (not (t || s) && there)) ≡ (o || (not s && is_listed (links_if_any k (cond t (Some m) (part_named rest method))) name))
    by true h = or_false (o || (not seen && here)) ∙ ap (λ x. o || (not x && here)) (h refl)
    by false h = ap (λ x. (o || x) || (not s && there)) (and_false (not seen)) ∙ ap (λ x. x || (not s && there)) (or_false o)
