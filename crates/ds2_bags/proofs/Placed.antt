-- A loop that takes the last of a list.
use Rattle.std.proofs.Common.{◌≡◌, ℕ, List, [], ◌∷◌, ◌++◌, length, length-append, ap, ◌∙◌, sym, refl, subst, below_more, arith, Bool, true, false}
use Rattle.std.specs.Prelude.{◌||◌, slice_index_or, if◌then◌else◌}
use Rattle.std.specs.List.{All, list_any}
use Rattle.std.proofs.Math.ListN.{get_or-append}
use Rattle.std.proofs.Math.Seq.{get_or-append_seam}
use Rattle.std.proofs.lemmas.List.Folds.{list_any-append}

either_step : {Y : Type 0} (a b : Bool) (s o n : Y) → n ≡ (if b then s else o) → (if a then s else n) ≡ (if (a || (b || false)) then s else o)
either_step true b s o n e = refl
either_step false true s o n e = e
either_step false false s o n e = e

-- the last one is placed, and the others are left
pub placed_last : {X Y : Type 0} (p : X → Bool) (xs ys : List X) (y : X) (s o n : Y) → ys ≡ xs ++ y ∷ [] → n ≡ (if p y then s else o)
    → (if list_any p xs then s else n) ≡ (if list_any p ys then s else o)
placed_last p xs ys y s o n is e =
    either_step (list_any p xs) (p y) s o n e ∙ ap (λ (b : Bool). if b then s else o) (sym (ap (list_any p) is ∙ list_any-append p xs (y ∷ [])))

pub All_front : {X : Type 0} (P : X → Type 0) (xs ys : List X) (y : X) → ys ≡ xs ++ y ∷ [] → All P ys → All P xs
All_front P xs ys y is h = λ k d below.
    subst P (ap (λ (zs : List _). slice_index_or zs k d) is ∙ get_or-append xs (y ∷ []) d k below) (h k d (omega (arith, ap length is, length-append xs (y ∷ []))))

pub All_last : {X : Type 0} (P : X → Type 0) (xs ys : List X) (y : X) → ys ≡ xs ++ y ∷ [] → All P ys → P y
All_last P xs ys y is h =
    subst P (ap (λ (zs : List _). slice_index_or zs (length xs) y) is ∙ get_or-append_seam xs y [] y) (h (length xs) y (omega (arith, ap length is, length-append xs (y ∷ []))))

pub All_pushed : {X : Type 0} (P : X → Type 0) (xs ys : List X) (y : X) → ys ≡ xs ++ y ∷ [] → All P xs → P y → All P ys
All_pushed P xs ys y is h here = subst (λ (zs : List _). All P zs) (sym is) (λ k d below.
    below_more (λ (j : ℕ). P (slice_index_or (xs ++ y ∷ []) j d)) (length xs)
    (λ j low. subst P (sym (get_or-append xs (y ∷ []) d j low)) (h j d low))
    (subst P (sym (get_or-append_seam xs y [] d)) here)
    k (omega (arith, length-append xs (y ∷ []))))
