-- Signatures that are spelled by the same numbers are equal.
use Rattle.std.proofs.Common.{◌≡◌, ℕ, Bool, true, false, List, [], ◌∷◌, ◌++◌, drop, get_or, Option, Some, None, refl, sym, ap, ◌∙◌, arith}
use Rattle.std.specs.Prelude.{◌==◌, if◌then◌else◌}
use Rattle.std.specs.Ordering.{is_eq, nat_cmp}
use Rattle.std.specs.declared.cmp.Ordering.{Ordering}
use Rattle.std.specs.declared.cmp.Ordering.TheVariants.{Less, Equal, Greater}
use Rattle.std.specs.Cmp.Lexicographic.{slice_cmp}
use Rattle.std.specs.FinMap.{nat_cmp-IsAntisymmetric, slice_cmp-IsAntisymmetric}
use Rattle.std.proofs.lemmas.Cmp.{tied_itself, nat_list_cmp_total}
use Rattle.std.proofs.lemmas.List.{append_assoc, append-nil}
use Rattle.ds2_value.specs.declared.ty.Ty.{Ty}
use Rattle.ds2_value.specs.declared.ty.Ty.TheVariants.{BigInt, Decimal as DecimalOf, Char, Varchar}
use Rattle.ds2_code.specs.declared.parts.ParameterPart.{ParameterPart}
use Rattle.ds2_code.specs.OperandTypes.{Signature}
use Rattle.ds2_valid_code.specs.SignatureCodes.{type_code, parameter_code, list_code, returns_code, signature_code, same_code}

pub code_same : (a : List ℕ) → same_code a a ≡ true
code_same a = ap is_eq (tied_itself nat_list_cmp_total a)

pub code_is : (a b : List ℕ) → same_code a b ≡ true → a ≡ b
code_is a b h = slice_cmp-IsAntisymmetric nat_cmp-IsAntisymmetric a b (tie (slice_cmp nat_cmp a b) h)
  where
    tie : (o : Ordering) → is_eq o ≡ true → o ≡ Equal
    tie Less h = absurd cc
    tie Equal h = refl
    tie Greater h = absurd cc

-- what begins with a spelling begins with no other one, nor with 0
record Spells {A : Type 0} (code : A → List ℕ) : Type 0 where
  same : (x y : A) (r q : List ℕ) → code x ++ r ≡ code y ++ q → (x ≡ y) × (r ≡ q)
  begins : (x : A) (r q : List ℕ) → code x ++ r ≡ 0 ∷ q → ⊥

-- ---- types

-- the type that numbers begin with, and what is behind it
abbrev type_read : List ℕ → Ty
type_read l = if get_or l 0 0 == 1 then BigInt else (if get_or l 0 0 == 2 then DecimalOf (get_or l 1 0) (get_or l 2 0) else (if get_or l 0 0 == 3 then Char (get_or l 1 0) else Varchar (get_or l 1 0)))

abbrev behind_type : List ℕ → List ℕ
behind_type l = if get_or l 0 0 == 1 then drop 1 l else (if get_or l 0 0 == 2 then drop 3 l else drop 2 l)

type_back : (t : Ty) (r : List ℕ) → (type_read (type_code t ++ r) ≡ t) × (behind_type (type_code t ++ r) ≡ r) × ((get_or (type_code t ++ r) 0 0 == 0) ≡ false)
type_back BigInt r = (refl, refl, refl)
type_back (DecimalOf p s) r = (refl, refl, refl)
type_back (Char n) r = (refl, refl, refl)
type_back (Varchar n) r = (refl, refl, refl)

types_spell : Spells type_code
types_spell = record {
  same = λ t u r q h. (
    sym (type_back t r).0 ∙ ap type_read h ∙ (type_back u q).0,
    sym (type_back t r).1 ∙ ap behind_type h ∙ (type_back u q).1,
  );
  begins = λ t r q h. let z : false ≡ true = sym (type_back t r).2 ∙ ap (λ l. get_or l 0 0 == 0) h in cc;
}

-- ---- parameters

abbrev flag_code : Bool → List ℕ
flag_code a = (if a then 2 else 1) ∷ []

flag_is : (a b : Bool) → get_or (flag_code a) 0 0 ≡ get_or (flag_code b) 0 0 → a ≡ b
flag_is true true h = refl
flag_is true false h = absurd (omega (arith, h))
flag_is false true h = absurd (omega (arith, h))
flag_is false false h = refl

flag_begins : (a : Bool) → get_or (flag_code a) 0 0 ≡ 0 → ⊥
flag_begins true h = omega (arith, h)
flag_begins false h = omega (arith, h)

abbrev parameter : Ty → Bool → ParameterPart
parameter t b = record { ty = t; is_in_out = b }

parameters_spell : Spells parameter_code
parameters_spell = record {
  same = λ p q r s h.
      let k = types_spell.same p.ty q.ty r s (ap (drop 1) h) in
      let flags = flag_is p.is_in_out q.is_in_out (ap (λ l. get_or l 0 0) h) in (
        ap (λ z. parameter z p.is_in_out) k.0 ∙ ap (parameter q.ty) flags,
        k.1,
      );
  begins = λ p r q h. flag_begins p.is_in_out (ap (λ l. get_or l 0 0) h);
}

-- ---- lists

module _ {A : Type 0} (code : A → List ℕ) (s : Spells code) where
  list_same : (xs ys : List A) (r q : List ℕ) → list_code code xs ++ r ≡ list_code code ys ++ q → (xs ≡ ys) × (r ≡ q)
  list_same [] [] r q h = (refl, ap (drop 1) h)
  list_same [] (y ∷ ys) r q h = absurd (s.begins y (list_code code ys ++ q) r (sym (h ∙ append_assoc (code y) (list_code code ys) q)))
  list_same (x ∷ xs) [] r q h = absurd (s.begins x (list_code code xs ++ r) q (sym (append_assoc (code x) (list_code code xs) r) ∙ h))
  list_same (x ∷ xs) (y ∷ ys) r q h =
      let k = s.same x y (list_code code xs ++ r) (list_code code ys ++ q) (sym (append_assoc (code x) (list_code code xs) r) ∙ h ∙ append_assoc (code y) (list_code code ys) q) in
      let l = list_same xs ys r q k.1 in
      (ap (λ z. z ∷ xs) k.0 ∙ ap (λ z. y ∷ z) l.0, l.1)

-- ---- signatures

returns_are : (a b : Option Ty) → returns_code a ≡ returns_code b → a ≡ b
returns_are None None h = refl
returns_are None (Some u) h = absurd (types_spell.begins u [] [] (append-nil (type_code u) ∙ sym h))
returns_are (Some t) None h = absurd (types_spell.begins t [] [] (append-nil (type_code t) ∙ h))
returns_are (Some t) (Some u) h = ap (λ z. Some z) (types_spell.same t u [] [] (ap (λ z. z ++ []) h)).0

abbrev signed : List ParameterPart → List Ty → Option Ty → Signature
signed ps ts r = record { parameters = ps; locals = ts; returns = r }

pub signature_is : (a b : Signature) → signature_code a ≡ signature_code b → a ≡ b
signature_is a b h =
    let k = list_same parameter_code parameters_spell a.parameters b.parameters (list_code type_code a.locals ++ returns_code a.returns) (list_code type_code b.locals ++ returns_code b.returns) h in
    let l = list_same type_code types_spell a.locals b.locals (returns_code a.returns) (returns_code b.returns) k.1 in
    ap (λ z. signed z a.locals a.returns) k.0
    ∙ ap (λ z. signed b.parameters z a.returns) l.0
    ∙ ap (λ z. signed b.parameters b.locals z) (returns_are a.returns b.returns l.1)
