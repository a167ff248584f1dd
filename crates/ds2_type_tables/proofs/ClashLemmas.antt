-- Columns whose tables do not join, one more in a table.
use Rattle.std.proofs.Common.{◌≡◌, ℕ, ◌+◌, ◌<◌, Bool, true, false, if◌then◌else◌, bytes_eq, List, [], ◌∷◌, ◌++◌, length, get_or, take, Option, Some, None, refl, sym, ap, ◌∙◌}
use Rattle.std.proofs.lemmas.List.{append-nil, take_more}
use Rattle.std.proofs.lemmas.Slice.Eq.{bytes_eq-Decides}
use Rattle.ds2_base.specs.declared.place.Refusal.{Refusal}
use Rattle.ds2_meaning.specs.declared.refusals.TypeKind.{TypeKind}
use Rattle.ds2_meaning.specs.declared.refusals.TypeKind.TheVariants.{TypeClash}
use Rattle.ds2_names.specs.NameRules.{from_each}
use Rattle.ds2_names.specs.SourceUnit.{PlacedName}
use Rattle.ds2_elaboration.specs.Typings.{TypeRefusals, type_refusal_at}
use Rattle.ds2_types.specs.Judgements.{first_type_refusal, lesser_refusal}
use Rattle.ds2_types.proofs.RefusalOrder.{least_append}
use Rattle.ds2_type_tables.specs.Clashes.{clash_of_column}

none_lesser : (x : Option (Refusal TypeKind)) → lesser_refusal x None ≡ x
none_lesser None = refl
none_lesser (Some r) = refl

-- a table in which the name of a column has the lesser of what it had and of the column's own
pub noted : (old : List ℕ → Option (Refusal TypeKind)) (c : PlacedName) (first : Refusal TypeKind) (name : List ℕ)
    → Some first ≡ lesser_refusal (old c.name) (Some (record { kind = TypeClash; place = c.place }))
    → (if bytes_eq c.name name then Some first else old name) ≡ lesser_refusal (old name) (first_type_refusal (clash_of_column name c))
noted old c first name h = by (bytes_eq c.name name) refl
  where
    by : (t : Bool) → bytes_eq c.name name ≡ t
        → (if t then Some first else old name) ≡ lesser_refusal (old name) (first_type_refusal (if t then type_refusal_at TypeClash c.place else []))
    by true e = h ∙ ap (λ (n : List ℕ). lesser_refusal (old n) (Some (record { kind = TypeClash; place = c.place }))) ((bytes_eq-Decides c.name name).0 e)
    by false e = sym (none_lesser (old name))

from_each-last : (f : PlacedName → TypeRefusals) (xs : List PlacedName) (x : PlacedName) → from_each f (xs ++ x ∷ []) ≡ from_each f xs ++ f x
from_each-last f [] x = append-nil (f x)
from_each-last f (y ∷ xs) x = ap (λ (l : TypeRefusals). f y ++ l) (from_each-last f xs x) ∙ sym (assoc (f y) (from_each f xs) (f x))
  where
    assoc : (a b c : TypeRefusals) → (a ++ b) ++ c ≡ a ++ (b ++ c)
    assoc [] b c = refl
    assoc (r ∷ a) b c = ap (λ (l : TypeRefusals). r ∷ l) (assoc a b c)

-- one column more
pub one_more_clash : (name : List ℕ) (cs : List PlacedName) (i : ℕ) (c : PlacedName) → i < length cs → c ≡ get_or cs i c
    → first_type_refusal (from_each (clash_of_column name) (take (i + 1) cs))
    ≡ lesser_refusal (first_type_refusal (from_each (clash_of_column name) (take i cs))) (first_type_refusal (clash_of_column name c))
one_more_clash name cs i c h e =
    ap (λ (l : List PlacedName). first_type_refusal (from_each (clash_of_column name) l)) (take_more cs i c h ∙ ap (λ (x : PlacedName). take i cs ++ x ∷ []) (sym e))
    ∙ ap first_type_refusal (from_each-last (clash_of_column name) (take i cs) c) ∙ least_append (from_each (clash_of_column name) (take i cs)) (clash_of_column name c)
