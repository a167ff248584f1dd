-- The outputs that a program makes, one by one.
use Rattle.std.proofs.Common.{◌≡◌, ℕ, Bool, true, false, if◌then◌else◌, bytes_eq, List, [], ◌∷◌, ◌++◌, map, filter, refl, sym, ap, ◌∙◌}
use Rattle.std.specs.Prelude.{not, codes}
use Rattle.std.proofs.lemmas.List.{append-nil, map-append}
use Rattle.ds2_tree.specs.declared.units.OutputTable.{OutputTable}
use Rattle.ds2_names.specs.SourceUnit.{spelled_name}
use Rattle.ds2_unit_parts.specs.TypedOutputs.{made_among}

-- the outputs that are made among some, and one before them
pub made_first : (o : OutputTable) (outputs : List OutputTable) → made_among (o ∷ outputs) ≡ made_among (o ∷ []) ++ made_among outputs
made_first o outputs = by (not (bytes_eq (spelled_name o.table) (codes "_null_")))
  where
    by : (b : Bool) → (if b then o ∷ made_among outputs else made_among outputs) ≡ (if b then o ∷ [] else []) ++ made_among outputs
    by true = refl
    by false = refl

-- one output more, made of one by one
pub made_more : {A : Type 0} (form : OutputTable → A) (o : OutputTable) (outputs : List OutputTable)
    → map form (made_among (o ∷ outputs)) ≡ map form (made_among (o ∷ [])) ++ map form (made_among outputs)
made_more form o outputs = ap (map form) (made_first o outputs) ∙ map-append form (made_among (o ∷ [])) (made_among outputs)

-- an output that is not made, pushed behind others
pub pushed_none : {A : Type 0} (form : OutputTable → A) (o : OutputTable) (old : List A) → bytes_eq (spelled_name o.table) (codes "_null_") ≡ true
    → old ≡ old ++ map form (made_among (o ∷ []))
pushed_none {A} form o old e = sym (append-nil old) ∙ ap (λ (b : Bool). old ++ map form (if not b then o ∷ [] else [])) (sym e)

-- and one that is
pub pushed_one : {A : Type 0} (form : OutputTable → A) (o : OutputTable) (old new : List A) (own : A) → bytes_eq (spelled_name o.table) (codes "_null_") ≡ false
    → own ≡ form o → new ≡ old ++ own ∷ [] → new ≡ old ++ map form (made_among (o ∷ []))
pushed_one {A} form o old new own e k n = n ∙ ap (λ (x : A). old ++ x ∷ []) k ∙ ap (λ (b : Bool). old ++ map form (if not b then o ∷ [] else [])) (sym e)
