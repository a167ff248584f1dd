-- Items one after the other, as loops read and write them.
use Rattle.std.proofs.Common.{◌≡◌, ℕ, suc, ◌+◌, ◌-◌, ◌<◌, ◌≤◌, Bool, IsTrue, List, [], ◌∷◌, ◌++◌, Ok, Err, refl, sym, ap, ◌∙◌, append_assoc, append-nil, arith}
use Rattle.std.specs.List.{flat_map, list_all}
use Rattle.ds2_base.specs.Bytes.{Bytes}
use Rattle.ds2_base.specs.declared.stop.Stop.{Stop}
use Rattle.ds2_base.specs.declared.stop.Stop.TheVariants.{Refused, OutOfMemory}
use Rattle.ds2_object_words.specs.declared.flaw.Flaw.{Flaw}
use Rattle.ds2_object_words.specs.Parts.{FormatPart, FieldRead, and_read, items_read, StopsReading, Writes, ItemsWritten}
use Rattle.ds2_object_words.proofs.PartLemmas.{both, and_true, found}

-- ---- reading

-- what was read before, and what is still read
abbrev pub with_front : {A : Type 0} → List A → FieldRead (List A) → FieldRead (List A)
with_front front read = and_read read (λ xs rest. Ok (front ++ xs, rest))

regroup : {A : Type 0} (front : List A) (x : A) (read : FieldRead (List A))
    → with_front front (and_read read (λ xs behind. Ok (x ∷ xs, behind))) ≡ with_front (front ++ x ∷ []) read
regroup {A} front x (Ok y) = ap (λ (xs : List A). found (xs, y.1)) (sym (append_assoc front (x ∷ []) y.0))
regroup {A} front x (Err flaw) = refl

pub one_read : {A : Type 0} (p : FormatPart A) (front : List A) (count i : ℕ) (bytes rest : Bytes) (x : A) (total : FieldRead (List A)) → i < count
    → p.read bytes ≡ Ok (x, rest) → with_front front (items_read p (count - i) bytes) ≡ total → with_front (front ++ x ∷ []) (items_read p (count - (i + 1)) rest) ≡ total
one_read p front count i bytes rest x total lt h so_far =
    let k : count - i ≡ suc (count - (i + 1)) = omega arith in
    let one : with_front front (items_read p (count - i) bytes) ≡ with_front (front ++ x ∷ []) (items_read p (count - (i + 1)) rest) =
    rw (k, h) (regroup front x (items_read p (count - (i + 1)) rest)) in
    sym one ∙ so_far

pub none_read : {A : Type 0} (stop : Stop Flaw) (p : FormatPart A) (front : List A) (count i : ℕ) (bytes : Bytes) (total : FieldRead (List A)) → i < count
    → StopsReading stop (p.read bytes) → with_front front (items_read p (count - i) bytes) ≡ total → StopsReading stop total
none_read OutOfMemory p front count i bytes total lt h so_far = tt
none_read (Refused flaw) p front count i bytes total lt h so_far =
    let k : count - i ≡ suc (count - (i + 1)) = omega arith in
    let one : with_front front (items_read p (count - i) bytes) ≡ Err flaw = rw (k, h) refl in
    sym so_far ∙ one

pub all_read : {A : Type 0} (p : FormatPart A) (front : List A) (count i : ℕ) (bytes : Bytes) (total : FieldRead (List A)) → count ≤ i
    → with_front front (items_read p (count - i) bytes) ≡ total → total ≡ Ok (front, bytes)
all_read {A} p front count i bytes total le so_far =
    let k : count - i ≡ 0 = omega arith in
    let one : with_front front (items_read p (count - i) bytes) ≡ Ok (front, bytes) = rw k (ap (λ (xs : List A). found (xs, bytes)) (append-nil front)) in
    sym so_far ∙ one

-- ---- writing

-- how far the items of a list are written
pub record ItemsLeft {A : Type 0} (p : FormatPart A) (rules : A → Bool) (before : Bytes) (items : List A) (out : Bytes) (rest : List A) : Type 0 where
  pub bytes : out ++ flat_map p.spelled rest ≡ before ++ flat_map p.spelled items
  pub allowed : IsTrue (list_all p.allows rest) → IsTrue (list_all p.allows items)
  pub ruled : IsTrue (list_all rules rest)

pub first_ruled : {A : Type 0} (rules : A → Bool) (x : A) (whole xs : List A) → whole ≡ x ∷ xs → IsTrue (list_all rules whole) → IsTrue (rules x)
first_ruled rules x whole xs e h = (both (rules x) (list_all rules xs) (ap (list_all rules) (sym e) ∙ h)).0

-- nothing is written yet
pub none_written : {A : Type 0} (p : FormatPart A) (rules : A → Bool) (before : Bytes) (items : List A) → IsTrue (list_all rules items) → ItemsLeft p rules before items before items
none_written p rules before items h = record { bytes = refl; allowed = λ k. k; ruled = h }

pub one_written : {A : Type 0} (p : FormatPart A) (rules : A → Bool) (before : Bytes) (items : List A) (out : Bytes) (x : A) (whole rest : List A) (after : Bytes)
    → whole ≡ x ∷ rest → ItemsLeft p rules before items out whole → Writes p out x after → ItemsLeft p rules before items after rest
one_written {A} p rules before items out x whole rest after e left written = record {
  bytes = rw written.bytes (append_assoc out (p.spelled x) (flat_map p.spelled rest)) ∙ ap (λ (xs : List A). out ++ flat_map p.spelled xs) (sym e) ∙ left.bytes;
  allowed = λ h. left.allowed (ap (list_all p.allows) e ∙ and_true (p.allows x) (list_all p.allows rest) written.allowed h);
  ruled = (both (rules x) (list_all rules rest) (ap (list_all rules) (sym e) ∙ left.ruled)).1;
}

pub all_written : {A : Type 0} (p : FormatPart A) (rules : A → Bool) (before : Bytes) (items : List A) (out : Bytes) (rest : List A) → rest ≡ [] → ItemsLeft p rules before items out rest
    → ItemsWritten p before items out
all_written {A} p rules before items out rest e left = record {
  bytes = sym (append-nil out) ∙ ap (λ (xs : List A). out ++ flat_map p.spelled xs) (sym e) ∙ left.bytes;
  allowed = left.allowed (ap (list_all p.allows) e);
}
