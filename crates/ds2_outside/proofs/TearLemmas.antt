-- The first tear of a call, as a scan from the front finds it.
use Rattle.std.proofs.Common.{◌≡◌, ap, ◌∙◌, ℕ, ◌+◌, ◌<◌, Some, length, get_or, List, drop, if◌then◌else◌}
use Rattle.std.proofs.lemmas.Bool.{eq-eqb, ne_eqb}
use Rattle.std.proofs.lemmas.List.{at_drop_more}
use Rattle.ds2_outside.specs.Tears.{kept_at}
use Rattle.ds2_outside.specs.declared.tear.Tear.{Tear}

pub kept_here : (call : ℕ) (tears : List Tear) (i : ℕ) (d : Tear) → i < length tears → (get_or tears i d).call ≡ call → kept_at call (drop i tears) ≡ Some (get_or tears i d).keep
unfolding kept_at
kept_here call tears i d h same =
    at_drop_more (kept_at call) tears i d h
    ∙ ap (λ b. if b then Some (get_or tears i d).keep else kept_at call (drop (i + 1) tears)) (eq-eqb _ _ same)

pub kept_later : (call : ℕ) (tears : List Tear) (i : ℕ) (d : Tear) → i < length tears → ((get_or tears i d).call ≡ call → ⊥) → kept_at call (drop i tears) ≡ kept_at call (drop (i + 1) tears)
unfolding kept_at
kept_later call tears i d h other =
    at_drop_more (kept_at call) tears i d h
    ∙ ap (λ b. if b then Some (get_or tears i d).keep else kept_at call (drop (i + 1) tears)) (ne_eqb _ _ other)
