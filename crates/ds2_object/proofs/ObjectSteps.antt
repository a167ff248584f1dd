-- How a file is read, and how an object is written.
use Rattle.std.proofs.Common.{◌≡◌, ℕ, Bool, true, false, cond, if◌then◌else◌, ◌==◌, IsTrue, List, [], ◌∷◌, ◌++◌, length, map, reverse, Option, Some, None, Result, Ok, Err, refl, sym, ap, subst, ◌∙◌, append_assoc, append-nil, SomeIff}
use Rattle.std.specs.Prelude.{bytes_eq}
use Rattle.std.specs.List.{list_all, AllByRecursion}
use Rattle.std.specs.Option.{option_map, option_and_then}
use Rattle.std.proofs.Math.Dec.{eqb-suc-zero}
use Rattle.std.proofs.lemmas.List.{length-map, reverse-append, reverse-reverse}
use Rattle.ds2_base.specs.Bytes.{Bytes}
use Rattle.ds2_base.specs.Says.{Says}
use Rattle.ds2_base.specs.declared.stop.Stop.{Stop}
use Rattle.ds2_base.specs.declared.stop.Stop.TheVariants.{Refused, OutOfMemory}
use Rattle.ds2_code.specs.ValidCode.{IsValidStaged}
use Rattle.ds2_code.specs.declared.parts.StagedParts.{StagedParts}
use Rattle.ds2_object_words.specs.declared.flaw.Flaw.{Flaw}
use Rattle.ds2_object_words.specs.declared.flaw.Flaw.TheVariants as flaw
use Rattle.ds2_object_words.specs.PartLaws.{AreBytes}
use Rattle.ds2_object_words.specs.Parts.{FieldRead, number16_part, number32_part, bytes_part, list_part, StopsReading, Writes, ItemsWritten}
use Rattle.ds2_object_words.proofs.PartLemmas.{both, some_is}
use Rattle.ds2_object_words.proofs.ListSteps.{ItemsLeft, first_ruled, none_written, one_written, all_written}
use Rattle.ds2_object_words.proofs.WriteSteps.{list_written, any_items}
use Rattle.ds2_object_programs.specs.ProgramRules.{data_spelled}
use Rattle.ds2_object_programs.specs.ProgramSpelling.{WrittenProgram, StagedReading, data_program_part, read_as, all_made, data_parts, written_data}
use Rattle.ds2_object_programs.proofs.AgainLemmas.{data_again, data_only}
use Rattle.ds2_object_programs.proofs.MadeSteps.{read_as_ok, read_as_stops}
use Rattle.ds2_object.specs.ObjectSpelling.{magic_bytes, format_version, WrittenObject, programs_part, stop_of_flaw, then_reads, nothing_behind, version_read, magic_read, object_read, written_object, object_parts, then_parts, has_no_name, object_linked, IsValidObject, IsSpellingOf, DecodesTo, IsGivenBack}
use Rattle.ds2_object.specs.declared.refusal.ObjectRefusal.{ObjectRefusal}
use Rattle.ds2_object.specs.declared.refusal.ObjectRefusal.TheVariants as refusal
use Rattle.ds2_object.proofs.ObjectLemmas.{read_is_spelled, spelled_read}
use Rattle.ds2_object.proofs.ValidLemmas.{object_is_spelled}

-- ---- objects as they are written, and as parts

-- what is written of programs with spellings is made into the same programs
pub object_again : (programs : List StagedParts) → IsTrue (list_all data_spelled programs) → object_parts (written_object programs) ≡ Some programs
object_again [] h = refl
object_again (s ∷ programs) h =
    let k : IsTrue (data_spelled s) × IsTrue (list_all data_spelled programs) = both (data_spelled s) (list_all data_spelled programs) h in
    rw (data_again s k.0, object_again programs k.1) refl

mapped_some : {A B : Type 0} (f : A → B) (o : Option A) (b : B) → option_map f o ≡ Some b → (a : A) × (o ≡ Some a) × (f a ≡ b)
mapped_some {B = B} f None b e = absurd cc
mapped_some {B = B} f (Some a) b e = (a, refl, some_is {A = B} (f a) b e)

chained_some : {A B : Type 0} (f : A → Option B) (o : Option A) (b : B) → option_and_then f o ≡ Some b → (a : A) × (o ≡ Some a) × (f a ≡ Some b)
chained_some f None b e = absurd cc
chained_some f (Some a) b e = (a, refl, e)

-- and nothing else is
pub object_only : (object : WrittenObject) (programs : List StagedParts) → object_parts object ≡ Some programs → written_object programs ≡ object
object_only [] [] e = refl
object_only [] (p ∷ programs) e = absurd cc
object_only (w ∷ object) programs e =
    let a = chained_some {A = StagedParts} {B = List StagedParts} (λ p. option_map (λ others. p ∷ others) (all_made data_parts object)) (data_parts w) programs e in
    let b = mapped_some {A = List StagedParts} {B = List StagedParts} (λ others. a.0 ∷ others) (all_made data_parts object) programs a.2 in
    let first : written_data a.0 ≡ w = data_only w a.0 a.1 in
    let others : written_object b.0 ≡ object = object_only object b.0 b.1 in
    ap written_object (sym b.2) ∙ rw (first, others) refl

-- ---- reading

-- a field that is not read
pub reads_stop : {A : Type 0} (total : ℕ) (r : FieldRead A) (f : A → Bytes → Result WrittenObject ObjectRefusal) (stop : Stop Flaw) → StopsReading stop r
    → Says {T = Option (List StagedParts)} (Err (stop_of_flaw total stop)) (then_parts (then_reads total r f))
reads_stop total r f OutOfMemory h = tt
reads_stop total r f (Refused why) h = rw h refl

-- a magic that is not read
pub magic_stops : (total : ℕ) (b : Bytes) (stop : Stop Flaw) → StopsReading stop ((bytes_part 4).read b) → Says {T = Option (List StagedParts)} (Err (stop_of_flaw total stop)) (then_parts (magic_read total b))
magic_stops total b stop h =
    reads_stop {A = Bytes} total ((bytes_part 4).read b) (λ magic rest. if bytes_eq magic magic_bytes then version_read total rest else Err refusal.BadMagic) stop h

-- a whole file, from its first byte on
pub whole_read : (file bytes : Bytes) (total : ℕ) (r : Result (Option (List StagedParts)) (Stop ObjectRefusal)) → bytes ≡ file → total ≡ length file → Says r (then_parts (magic_read total bytes))
    → Says r (then_parts (object_read file))
whole_read file bytes total r same counted says =
    subst (λ (z : Bytes). Says r (then_parts (magic_read (length file) z))) same (subst (λ (n : ℕ). Says r (then_parts (magic_read n bytes))) counted says)

-- a version that is not read
pub version_stops : (total : ℕ) (b : Bytes) (stop : Stop Flaw) → StopsReading stop (number16_part.read b) → Says {T = Option (List StagedParts)} (Err (stop_of_flaw total stop)) (then_parts (version_read total b))
version_stops total b stop h =
    reads_stop {A = ℕ} total (number16_part.read b)
    (λ version rest. if version == format_version then then_reads total (programs_part.read rest) nothing_behind else Err refusal.BadVersion) stop h

-- programs that are not read
pub programs_stop : (total : ℕ) (b : Bytes) (stop : Stop Flaw) → StopsReading stop (read_as object_parts (programs_part.read b))
    → Says {T = Option (List StagedParts)} (Err (stop_of_flaw total stop)) (then_parts (then_reads total (programs_part.read b) nothing_behind))
programs_stop total b stop h =
    reads_stop {A = WrittenObject} total (programs_part.read b) nothing_behind stop (read_as_stops {W = WrittenObject} {A = Option (List StagedParts)} object_parts (programs_part.read b) stop h)

abbrev as_result : Option (List StagedParts) → Result (Option (List StagedParts)) ObjectRefusal
as_result o = Ok o

ends_or_not : (whole : Bool) (object : WrittenObject) (programs : Option (List StagedParts)) (rest : Bytes) → object_parts object ≡ programs → (length rest == 0) ≡ whole
    → then_parts (nothing_behind object rest) ≡ cond whole (Ok programs) (Err refusal.TrailingBytes)
ends_or_not whole object programs [] e is =
    subst (λ (w : Bool). then_parts (nothing_behind object []) ≡ cond w (Ok programs) (Err refusal.TrailingBytes)) is (ap (λ (o : Option (List StagedParts)). as_result o) e)
ends_or_not whole object programs (b ∷ rest) e is =
    subst (λ (w : Bool). then_parts (nothing_behind object (b ∷ rest)) ≡ cond w (Ok programs) (Err refusal.TrailingBytes)) (sym (eqb-suc-zero (length rest)) ∙ is) refl

-- programs that are read, and the end of the file behind them or not
programs_end : (total : ℕ) (b rest : Bytes) (programs : Option (List StagedParts)) (whole : Bool) → read_as object_parts (programs_part.read b) ≡ Ok (programs, rest) → (length rest == 0) ≡ whole
    → then_parts (then_reads total (programs_part.read b) nothing_behind) ≡ cond whole (Ok programs) (Err refusal.TrailingBytes)
programs_end total b rest programs whole h is =
    let k = read_as_ok {W = WrittenObject} {A = Option (List StagedParts)} object_parts (programs_part.read b) programs rest h in
    rw k.1 (ends_or_not whole k.0 programs rest k.2 is)

-- programs that are read, with nothing behind them
pub programs_whole : (total : ℕ) (b rest : Bytes) (programs : Option (List StagedParts)) (whole : Bool) → read_as object_parts (programs_part.read b) ≡ Ok (programs, rest) → (length rest == 0) ≡ whole
    → whole ≡ true → then_parts (then_reads total (programs_part.read b) nothing_behind) ≡ Ok programs
programs_whole total b rest programs whole h is holds = programs_end total b rest programs whole h is ∙ ap (λ (w : Bool). cond w (Ok programs) (Err refusal.TrailingBytes)) holds

-- programs that are read, with bytes behind them
pub programs_before : (total : ℕ) (b rest : Bytes) (programs : Option (List StagedParts)) (whole : Bool) → read_as object_parts (programs_part.read b) ≡ Ok (programs, rest) → (length rest == 0) ≡ whole
    → whole ≡ false → then_parts (then_reads total (programs_part.read b) nothing_behind) ≡ Err refusal.TrailingBytes
programs_before total b rest programs whole h is fails = programs_end total b rest programs whole h is ∙ ap (λ (w : Bool). cond w (Ok programs) (Err refusal.TrailingBytes)) fails

-- ---- valid programs

-- programs that were taken from the end are valid
pub append_valid : (front : List StagedParts) (p : StagedParts) → AllByRecursion IsValidStaged front → IsValidStaged p → AllByRecursion IsValidStaged (front ++ p ∷ [])
append_valid [] p v w = (w, tt)
append_valid (q ∷ front) p v w = (v.0, append_valid front p v.1 w)

pub middle_valid : (front : List StagedParts) (p : StagedParts) (behind : List StagedParts) → AllByRecursion IsValidStaged (front ++ p ∷ behind) → IsValidStaged p
middle_valid [] p behind v = v.0
middle_valid (q ∷ front) p behind v = middle_valid front p behind v.1

-- programs that are valid so far, and those that are left, the last one first
pub record ValidLeft (programs codes rest : List StagedParts) : Type 0 where
  pub whole : programs ≡ codes ++ reverse rest
  pub valid : AllByRecursion IsValidStaged codes

pub valid_begun : (programs rest : List StagedParts) → rest ≡ reverse programs → ValidLeft programs [] rest
valid_begun programs rest e = record { whole = sym (reverse-reverse programs) ∙ ap reverse (sym e); valid = tt }

turned : (rest more : List StagedParts) (p : StagedParts) → rest ≡ more ++ p ∷ [] → reverse rest ≡ p ∷ reverse more
turned rest more p e = ap reverse e ∙ reverse-append more (p ∷ [])

one_more_valid : (programs codes rest more : List StagedParts) (p : StagedParts) → rest ≡ more ++ p ∷ [] → IsValidStaged p → ValidLeft programs codes rest → ValidLeft programs (codes ++ p ∷ []) more
one_more_valid programs codes rest more p e v left = record {
  whole = left.whole ∙ ap (λ (z : List StagedParts). codes ++ z) (turned rest more p e) ∙ sym (append_assoc codes (p ∷ []) (reverse more));
  valid = append_valid codes p left.valid v;
}

pub valid_more : (programs codes rest more : List StagedParts) (p code : StagedParts) → rest ≡ more ++ p ∷ [] → SomeIff (Some code) (IsValidStaged p) p → ValidLeft programs codes rest
    → ValidLeft programs (codes ++ code ∷ []) more
valid_more programs codes rest more p code e v left =
    subst (λ (z : StagedParts). ValidLeft programs (codes ++ z ∷ []) more) (sym v.1) (one_more_valid programs codes rest more p e v.0 left)

pub valid_none : (programs codes rest more : List StagedParts) (p : StagedParts) → rest ≡ more ++ p ∷ [] → ¬ (IsValidStaged p) → ValidLeft programs codes rest → ¬ (AllByRecursion IsValidStaged programs)
valid_none programs codes rest more p e not_valid left all =
    let same : programs ≡ codes ++ p ∷ reverse more = left.whole ∙ ap (λ (z : List StagedParts). codes ++ z) (turned rest more p e) in
    not_valid (middle_valid codes p (reverse more) (subst (AllByRecursion IsValidStaged) same all))

pub valid_all : (programs codes rest : List StagedParts) → rest ≡ [] → ValidLeft programs codes rest → SomeIff (Some codes) (AllByRecursion IsValidStaged programs) programs
valid_all programs codes rest e left =
    let same : programs ≡ codes = left.whole ∙ ap (λ (z : List StagedParts). codes ++ reverse z) e ∙ append-nil codes in
    (subst (AllByRecursion IsValidStaged) (sym same) left.valid, sym same)

-- valid programs and their links
pub valid_linked : (programs codes : List StagedParts) (object : Option (List StagedParts)) → SomeIff (Some codes) (AllByRecursion IsValidStaged programs) programs
    → SomeIff object (IsTrue (object_linked codes)) codes → SomeIff object (IsValidObject programs) programs
valid_linked programs codes None each links = λ valid. links (ap object_linked each.1 ∙ valid.links)
valid_linked programs codes (Some object) each links =
    (record { each = each.0; links = ap object_linked (sym each.1) ∙ links.0 }, links.1 ∙ each.1)

pub not_each_valid : (programs : List StagedParts) → ¬ (AllByRecursion IsValidStaged programs) → ¬ (IsValidObject programs)
not_each_valid programs invalid = λ valid. invalid valid.each

-- ---- decoding

as_parts : (a b : Option (List StagedParts)) → as_result a ≡ as_result b → a ≡ b
as_parts a b e = cc

parts_ok : (r : Result WrittenObject ObjectRefusal) (programs : Option (List StagedParts)) → then_parts r ≡ Ok programs → (object : WrittenObject) × (r ≡ Ok object) × (object_parts object ≡ programs)
parts_ok (Ok object) programs e = (object, refl, as_parts (object_parts object) programs e)
parts_ok (Err r) programs e = absurd cc

parts_err : (r : Result WrittenObject ObjectRefusal) (why : ObjectRefusal) → then_parts r ≡ Err why → r ≡ Err why
parts_err (Ok object) why e = absurd cc
parts_err (Err r) why e = let k : r ≡ why = cc in ap (λ (z : ObjectRefusal). Err z) k

-- programs of which an instruction is none
pub decodes_none : (bytes : Bytes) → then_parts (object_read bytes) ≡ Ok None → DecodesTo (Err (Refused refusal.NotValid)) bytes
decodes_none bytes e =
    let k = parts_ok (object_read bytes) None e in (
      k.0,
      k.1,
      λ programs same valid.
          absurd (let again : object_parts k.0 ≡ Some programs = ap object_parts (sym same) ∙ object_again programs (object_is_spelled programs valid) in
          let none : object_parts k.0 ≡ None = k.2 in cc),
    )

-- programs that are not valid
pub decodes_invalid : (bytes : Bytes) (programs : List StagedParts) → then_parts (object_read bytes) ≡ Ok (Some programs) → ¬ (IsValidObject programs) → DecodesTo (Err (Refused refusal.NotValid)) bytes
decodes_invalid bytes programs e invalid =
    let k = parts_ok (object_read bytes) (Some programs) e in (
      k.0,
      k.1,
      λ others same valid.
          let again : object_parts k.0 ≡ Some others = ap object_parts (sym same) ∙ object_again others (object_is_spelled others valid) in
          let equal : programs ≡ others = some_is programs others (sym k.2 ∙ again) in
          invalid (subst IsValidObject (sym equal) valid),
    )

-- programs that are valid
pub decodes_valid : (bytes : Bytes) (programs object : List StagedParts) → then_parts (object_read bytes) ≡ Ok (Some programs) → SomeIff (Some object) (IsValidObject programs) programs
    → DecodesTo (Ok object) bytes
decodes_valid bytes programs object e valid =
    let k = parts_ok (object_read bytes) (Some programs) e in
    let whole : DecodesTo (Ok programs) bytes = (k.1 ∙ ap (λ (o : WrittenObject). Ok o) (sym (object_only k.0 programs k.2)), valid.0) in
    subst (λ (z : List StagedParts). DecodesTo (Ok z) bytes) (sym valid.1) whole

-- what is read of a file is never that the code is not valid
then_never : {A B : Type 0} (total : ℕ) (r : FieldRead A) (f : A → Bytes → Result B ObjectRefusal) → ((a : A) (rest : Bytes) → f a rest ≡ Err refusal.NotValid → ⊥) → then_reads total r f ≡ Err refusal.NotValid → ⊥
then_never total (Ok x) f never e = never x.0 x.1 e
then_never total (Err flaw.Truncated) f never e = absurd cc
then_never total (Err (flaw.Bad left)) f never e = absurd cc

chosen_never : {B : Type 0} (b : Bool) (r : Result B ObjectRefusal) (other : ObjectRefusal) → (r ≡ Err refusal.NotValid → ⊥) → (other ≡ refusal.NotValid → ⊥) → cond b r (Err other) ≡ Err refusal.NotValid → ⊥
chosen_never true r other never differs e = never e
chosen_never false r other never differs e = differs cc

end_never : (object : WrittenObject) (rest : Bytes) → nothing_behind object rest ≡ Err refusal.NotValid → ⊥
end_never object [] e = absurd cc
end_never object (b ∷ rest) e = absurd cc

version_never : (total : ℕ) (bytes : Bytes) → version_read total bytes ≡ Err refusal.NotValid → ⊥
version_never total bytes =
    then_never {A = ℕ} {B = WrittenObject} total (number16_part.read bytes)
    (λ version rest. if version == format_version then then_reads total (programs_part.read rest) nothing_behind else Err refusal.BadVersion)
    (λ version rest. chosen_never {B = WrittenObject} (version == format_version) (then_reads total (programs_part.read rest) nothing_behind) refusal.BadVersion
    (then_never {A = WrittenObject} {B = WrittenObject} total (programs_part.read rest) nothing_behind end_never) (λ e. absurd cc))

read_never : (bytes : Bytes) → object_read bytes ≡ Err refusal.NotValid → ⊥
read_never bytes =
    then_never {A = Bytes} {B = WrittenObject} (length bytes) ((bytes_part 4).read bytes)
    (λ magic rest. if bytes_eq magic magic_bytes then version_read (length bytes) rest else Err refusal.BadMagic)
    (λ magic rest. chosen_never {B = WrittenObject} (bytes_eq magic magic_bytes) (version_read (length bytes) rest) refusal.BadMagic (version_never (length bytes) rest) (λ e. absurd cc))

refused_so : (bytes : Bytes) (why : ObjectRefusal) → object_read bytes ≡ Err why → DecodesTo (Err (Refused why)) bytes
refused_so bytes refusal.BadMagic e = e
refused_so bytes refusal.BadVersion e = e
refused_so bytes refusal.Truncated e = e
refused_so bytes refusal.TrailingBytes e = e
refused_so bytes (refusal.BadField offset) e = e
refused_so bytes refusal.NotValid e = absurd (read_never bytes e)

-- a file that is refused as it is read
pub decodes_refused : (bytes : Bytes) (stop : Stop ObjectRefusal) → Says {T = Option (List StagedParts)} (Err stop) (then_parts (object_read bytes)) → DecodesTo (Err stop) bytes
decodes_refused bytes OutOfMemory h = tt
decodes_refused bytes (Refused why) h = refused_so bytes why (parts_err (object_read bytes) why h)

-- ---- encoding

-- nothing is asked of a written program
abbrev pub any_program : WrittenProgram StagedReading → Bool
any_program w = true

-- how far programs are written
pub record ProgramsLeft (before : Bytes) (programs : List StagedParts) (out : Bytes) (rest : List StagedParts) : Type 0 where
  pub items : ItemsLeft data_program_part any_program before (map written_data programs) out (map written_data rest)
  pub unnamed : IsTrue (list_all has_no_name rest)

pub programs_begun : (before : Bytes) (programs : List StagedParts) → IsTrue (list_all has_no_name programs) → ProgramsLeft before programs before programs
programs_begun before programs h = record { items = none_written data_program_part any_program before (map written_data programs) (any_items (map written_data programs)); unnamed = h }

pub first_unnamed : (before : Bytes) (programs : List StagedParts) (out : Bytes) (p : StagedParts) (whole rest : List StagedParts) → whole ≡ p ∷ rest → ProgramsLeft before programs out whole
    → IsTrue (has_no_name p)
first_unnamed before programs out p whole rest e left = first_ruled has_no_name p whole rest e left.unnamed

pub program_written : (before : Bytes) (programs : List StagedParts) (out : Bytes) (p : StagedParts) (whole rest : List StagedParts) (after : Bytes) → whole ≡ p ∷ rest
    → ProgramsLeft before programs out whole → Writes data_program_part out (written_data p) after → ProgramsLeft before programs after rest
program_written before programs out p whole rest after e left written = record {
  items = one_written data_program_part any_program before (map written_data programs) out (written_data p) (map written_data whole) (map written_data rest) after
      (ap (map written_data) e) left.items written;
  unnamed = (both (has_no_name p) (list_all has_no_name rest) (ap (list_all has_no_name) (sym e) ∙ left.unnamed)).1;
}

pub programs_written : (before : Bytes) (programs : List StagedParts) (out : Bytes) (rest : List StagedParts) → rest ≡ [] → ProgramsLeft before programs out rest
    → ItemsWritten data_program_part before (map written_data programs) out
programs_written before programs out rest e left =
    all_written data_program_part any_program before (map written_data programs) out (map written_data rest) (ap (map written_data) e) left.items

-- an object that was written
pub object_written : (a b c d : Bytes) (programs : List StagedParts) → a ≡ magic_bytes → Writes number16_part a 1 b → Writes number32_part b (length programs) c
    → ItemsWritten data_program_part c (map written_data programs) d → IsSpellingOf d programs
unfolding programs_part
object_written a b c d programs magic version count items =
    let same : length (map written_data programs) ≡ length programs = length-map programs written_data in
    let counted : Writes number32_part b (length (map written_data programs)) c = rw same count in
    let k = list_written counted items in
    record {
      bytes_are = k.bytes ∙ ap (λ (z : Bytes). z ++ (list_part data_program_part).spelled (map written_data programs)) version.bytes
          ∙ append_assoc a (number16_part.spelled 1) ((list_part data_program_part).spelled (map written_data programs))
          ∙ ap (λ (z : Bytes). z ++ (number16_part.spelled 1 ++ (list_part data_program_part).spelled (map written_data programs))) magic;
      allowed = k.allowed;
    }

-- ---- laws

abbrev as_read : WrittenObject → Result WrittenObject ObjectRefusal
as_read object = Ok object

object_is : (a b : WrittenObject) → as_read a ≡ as_read b → a ≡ b
object_is a b e = cc

same_programs : (a b : List StagedParts) → IsValidObject a → IsValidObject b → written_object a ≡ written_object b → a ≡ b
same_programs a b v w e =
    some_is a b (sym (object_again a (object_is_spelled a v)) ∙ ap object_parts e ∙ object_again b (object_is_spelled b w))

encoded_is_read : (programs : List StagedParts) (bytes : Bytes) → IsSpellingOf bytes programs → object_read bytes ≡ Ok (written_object programs)
encoded_is_read programs bytes s = ap object_read s.bytes_are ∙ spelled_read (written_object programs) s.allowed

not_refused_so : (programs : List StagedParts) (bytes : Bytes) (why : ObjectRefusal) → object_read bytes ≡ Ok (written_object programs) → IsValidObject programs → DecodesTo (Err (Refused why)) bytes → ⊥
not_refused_so programs bytes refusal.BadMagic e v h = absurd (let k : as_read (written_object programs) ≡ Err refusal.BadMagic = sym e ∙ h in cc)
not_refused_so programs bytes refusal.BadVersion e v h = absurd (let k : as_read (written_object programs) ≡ Err refusal.BadVersion = sym e ∙ h in cc)
not_refused_so programs bytes refusal.Truncated e v h = absurd (let k : as_read (written_object programs) ≡ Err refusal.Truncated = sym e ∙ h in cc)
not_refused_so programs bytes refusal.TrailingBytes e v h = absurd (let k : as_read (written_object programs) ≡ Err refusal.TrailingBytes = sym e ∙ h in cc)
not_refused_so programs bytes (refusal.BadField offset) e v h = absurd (let k : as_read (written_object programs) ≡ Err (refusal.BadField offset) = sym e ∙ h in cc)
not_refused_so programs bytes refusal.NotValid e v h = h.2 programs (object_is (written_object programs) h.0 (sym e ∙ h.1)) v

-- the spelling of valid programs is decoded as these programs
pub given_back : (programs : List StagedParts) (bytes : Bytes) (result : Result (List StagedParts) (Stop ObjectRefusal)) → IsValidObject programs → IsSpellingOf bytes programs → DecodesTo result bytes
    → IsGivenBack result programs
given_back programs bytes (Ok given) v s d =
    same_programs given programs d.1 v (object_is (written_object given) (written_object programs) (sym d.0 ∙ encoded_is_read programs bytes s))
given_back programs bytes (Err OutOfMemory) v s d = tt
given_back programs bytes (Err (Refused why)) v s d = not_refused_so programs bytes why (encoded_is_read programs bytes s) v d

-- bytes that are decoded are the spelling of what they are decoded as
pub decoded_spelled : (programs : List StagedParts) (bytes : Bytes) → AreBytes bytes → DecodesTo (Ok programs) bytes → IsSpellingOf bytes programs
decoded_spelled programs bytes fits d =
    let k = read_is_spelled bytes (written_object programs) fits d.0 in
    record { bytes_are = k.0; allowed = k.1 }
