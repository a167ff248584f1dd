-- Object files: what is spelled is read, what is read is spelled, each cut is Truncated.
use Rattle.std.proofs.Common.{◌≡◌, ℕ, ◌+◌, ◌-◌, Bool, true, false, cond, if◌then◌else◌, ◌==◌, IsTrue, [], ◌∷◌, ◌++◌, length, Result, Ok, Err, refl, sym, ap, subst, ◌∙◌, append-nil, length-append, eqb-true, arith}
use Rattle.std.specs.Prelude.{bytes_eq}
use Rattle.std.proofs.lemmas.Slice.Eq.{bytes_eq-Decides}
use Rattle.ds2_base.specs.Bytes.{Bytes}
use Rattle.ds2_object_words.specs.declared.flaw.Flaw.TheVariants as flaw
use Rattle.ds2_object_words.specs.PartLaws.{AreBytes, GoesOnAs, IsLawfulPart}
use Rattle.ds2_object_words.specs.Parts.{FieldRead, number16_part, bytes_part}
use Rattle.ds2_object_words.proofs.PartLemmas.{bytes_law, rest_bytes}
use Rattle.ds2_object_words.proofs.NumberLemmas.{number16_law, list_law}
use Rattle.ds2_object_programs.specs.ProgramSpelling.{data_program_part}
use Rattle.ds2_object.specs.ObjectSpelling.{magic_bytes, format_version, WrittenObject, programs_part, object_spelled, then_reads, nothing_behind, version_read, object_read}
use Rattle.ds2_object.specs.declared.refusal.ObjectRefusal.{ObjectRefusal}
use Rattle.ds2_object.specs.declared.refusal.ObjectRefusal.TheVariants as refusal
use Rattle.ds2_object_programs.proofs.ProgramLemmas.{data_program_law}

programs_law : IsLawfulPart programs_part
unfolding programs_part
programs_law = list_law data_program_part data_program_law

version_allowed : IsTrue (number16_part.allows format_version)
unfolding number16_part
version_allowed = refl

-- ---- what is spelled is read

whole_spelled : (object : WrittenObject) → IsTrue (programs_part.allows object) → programs_part.read (programs_part.spelled object) ≡ Ok (object, [])
whole_spelled object h = ap programs_part.read (sym (append-nil (programs_part.spelled object))) ∙ programs_law.again object [] h

version_spelled : (total : ℕ) (object : WrittenObject) → IsTrue (programs_part.allows object) → version_read total (number16_part.spelled format_version ++ programs_part.spelled object) ≡ Ok object
version_spelled total object h =
    rw (number16_law.again format_version (programs_part.spelled object) version_allowed, whole_spelled object h) refl

pub spelled_read : (object : WrittenObject) → IsTrue (programs_part.allows object) → object_read (object_spelled object) ≡ Ok object
spelled_read object h =
    let total = length (object_spelled object) in
    let behind : Bytes = number16_part.spelled format_version ++ programs_part.spelled object in
    ap (λ (r : FieldRead Bytes). then_reads {B = WrittenObject} total r (λ magic rest. if bytes_eq magic magic_bytes then version_read total rest else Err refusal.BadMagic))
    ((bytes_law 4).again magic_bytes behind refl) ∙ version_spelled total object h

-- ---- further bytes

-- what is read of a longer file, beside what is read of its front
abbrev pub GoesOnBehind : {A : Type 0} → Result A ObjectRefusal → Result A ObjectRefusal → Type 0
GoesOnBehind (Ok x) longer = longer ≡ Err refusal.TrailingBytes
GoesOnBehind (Err refusal.Truncated) longer = Unit {0}
GoesOnBehind (Err r) longer = longer ≡ Err r

step_goes_on : {A B : Type 0} (total more_total : ℕ) (r longer : FieldRead A) (byte : ℕ) (more : Bytes) (f g : A → Bytes → Result B ObjectRefusal) → more_total ≡ total + length (byte ∷ more)
    → GoesOnAs r (byte ∷ more) longer → ((a : A) (rest : Bytes) → GoesOnBehind (f a rest) (g a (rest ++ byte ∷ more))) → GoesOnBehind (then_reads total r f) (then_reads more_total longer g)
step_goes_on total more_total (Ok x) longer byte more f g sum h k = rw h (k x.0 x.1)
step_goes_on total more_total (Err flaw.Truncated) longer byte more f g sum h k = tt
step_goes_on total more_total (Err (flaw.Bad left)) longer byte more f g sum h k =
    let same : more_total - (left + length (byte ∷ more)) ≡ total - left = omega (arith, sum) in
    rw h (ap (λ (n : ℕ). Err (refusal.BadField n)) same)

end_goes_on : {A : Type 0} (x : A) (rest : Bytes) (byte : ℕ) (more : Bytes) → GoesOnBehind (nothing_behind x rest) (nothing_behind x (rest ++ byte ∷ more))
end_goes_on x [] byte more = refl
end_goes_on x (b ∷ rest) byte more = refl

version_chosen : (b : Bool) (total more_total : ℕ) (rest : Bytes) (byte : ℕ) (more : Bytes) → more_total ≡ total + length (byte ∷ more)
    → GoesOnBehind (cond b (then_reads total (programs_part.read rest) nothing_behind) (Err refusal.BadVersion))
    (cond b (then_reads more_total (programs_part.read (rest ++ byte ∷ more)) nothing_behind) (Err refusal.BadVersion))
version_chosen true total more_total rest byte more sum =
    step_goes_on total more_total (programs_part.read rest) (programs_part.read (rest ++ byte ∷ more)) byte more nothing_behind nothing_behind sum
    (programs_law.steady rest (byte ∷ more)) (λ x behind. end_goes_on x behind byte more)
version_chosen false total more_total rest byte more sum = refl

version_goes_on : (total more_total : ℕ) (bytes : Bytes) (byte : ℕ) (more : Bytes) → more_total ≡ total + length (byte ∷ more)
    → GoesOnBehind (version_read total bytes) (version_read more_total (bytes ++ byte ∷ more))
version_goes_on total more_total bytes byte more sum =
    step_goes_on total more_total (number16_part.read bytes) (number16_part.read (bytes ++ byte ∷ more)) byte more
    (λ version rest. if version == format_version then then_reads total (programs_part.read rest) nothing_behind else Err refusal.BadVersion)
    (λ version rest. if version == format_version then then_reads more_total (programs_part.read rest) nothing_behind else Err refusal.BadVersion) sum
    (number16_law.steady bytes (byte ∷ more)) (λ version rest. version_chosen (version == format_version) total more_total rest byte more sum)

magic_chosen : (b : Bool) (total more_total : ℕ) (rest : Bytes) (byte : ℕ) (more : Bytes) → more_total ≡ total + length (byte ∷ more)
    → GoesOnBehind (cond b (version_read total rest) (Err refusal.BadMagic)) (cond b (version_read more_total (rest ++ byte ∷ more)) (Err refusal.BadMagic))
magic_chosen true total more_total rest byte more sum = version_goes_on total more_total rest byte more sum
magic_chosen false total more_total rest byte more sum = refl

pub file_goes_on : (bytes : Bytes) (byte : ℕ) (more : Bytes) → GoesOnBehind (object_read bytes) (object_read (bytes ++ byte ∷ more))
file_goes_on bytes byte more =
    let sum : length (bytes ++ byte ∷ more) ≡ length bytes + length (byte ∷ more) = length-append bytes (byte ∷ more) in
    step_goes_on (length bytes) (length (bytes ++ byte ∷ more)) ((bytes_part 4).read bytes) ((bytes_part 4).read (bytes ++ byte ∷ more)) byte more
    (λ magic rest. if bytes_eq magic magic_bytes then version_read (length bytes) rest else Err refusal.BadMagic)
    (λ magic rest. if bytes_eq magic magic_bytes then version_read (length (bytes ++ byte ∷ more)) rest else Err refusal.BadMagic) sum
    ((bytes_law 4).steady bytes (byte ∷ more))
    (λ magic rest. magic_chosen (bytes_eq magic magic_bytes) (length bytes) (length (bytes ++ byte ∷ more)) rest byte more sum)

-- what the front of a file is, of which the whole is an object
cut_at : (r : Result WrittenObject ObjectRefusal) (object : WrittenObject) (whole : Result WrittenObject ObjectRefusal) → GoesOnBehind r whole → whole ≡ Ok object → r ≡ Err refusal.Truncated
cut_at (Ok x) object whole h e = absurd (let k : Err refusal.TrailingBytes ≡ Ok object = sym h ∙ e in cc)
cut_at (Err refusal.Truncated) object whole h e = refl
cut_at (Err refusal.BadMagic) object whole h e = absurd (let k : Err refusal.BadMagic ≡ Ok object = sym h ∙ e in cc)
cut_at (Err refusal.BadVersion) object whole h e = absurd (let k : Err refusal.BadVersion ≡ Ok object = sym h ∙ e in cc)
cut_at (Err refusal.TrailingBytes) object whole h e = absurd (let k : Err refusal.TrailingBytes ≡ Ok object = sym h ∙ e in cc)
cut_at (Err (refusal.BadField offset)) object whole h e = absurd (let k : Err (refusal.BadField offset) ≡ Ok object = sym h ∙ e in cc)
cut_at (Err refusal.NotValid) object whole h e = absurd (let k : Err refusal.NotValid ≡ Ok object = sym h ∙ e in cc)

pub cut_is_truncated : (object : WrittenObject) (front : Bytes) (byte : ℕ) (rest : Bytes) → IsTrue (programs_part.allows object) → object_spelled object ≡ front ++ byte ∷ rest
    → object_read front ≡ Err refusal.Truncated
cut_is_truncated object front byte rest h e = cut_at (object_read front) object (object_read (front ++ byte ∷ rest)) (file_goes_on front byte rest) (ap object_read (sym e) ∙ spelled_read object h)

abbrev as_object : WrittenObject → Result WrittenObject ObjectRefusal
as_object object = Ok object

same_object : (a b : WrittenObject) → as_object a ≡ as_object b → a ≡ b
same_object a b e = cc

-- two objects, of which one's spelling begins the other's
pub begins_no_object : (a b : WrittenObject) (rest : Bytes) → IsTrue (programs_part.allows a) → IsTrue (programs_part.allows b) → object_spelled a ++ rest ≡ object_spelled b
    → (a ≡ b) × (rest ≡ [])
begins_no_object a b [] h k e =
    (same_object a b (sym (spelled_read a h) ∙ ap object_read (sym (append-nil (object_spelled a)) ∙ e) ∙ spelled_read b k), refl)
begins_no_object a b (byte ∷ rest) h k e =
    absurd (let cut : object_read (object_spelled a) ≡ Err refusal.Truncated = cut_is_truncated b (object_spelled a) byte rest k (sym e) in
    let both : as_object a ≡ Err refusal.Truncated = sym (spelled_read a h) ∙ cut in cc)

-- ---- what is read is spelled

then_ok : {A B : Type 0} (total : ℕ) (r : FieldRead A) (f : A → Bytes → Result B ObjectRefusal) (y : B) → then_reads total r f ≡ Ok y
    → (a : A) × (rest : Bytes) × (r ≡ Ok (a, rest)) × (f a rest ≡ Ok y)
then_ok total (Ok x) f y e = (x.0, x.1, refl, e)
then_ok total (Err flaw) f y e = absurd cc

chosen_ok : {B : Type 0} (b : Bool) (r : Result B ObjectRefusal) (other : ObjectRefusal) (y : B) → cond b r (Err other) ≡ Ok y → (b ≡ true) × (r ≡ Ok y)
chosen_ok true r other y e = (refl, e)
chosen_ok false r other y e = absurd cc

all_read : (programs object : WrittenObject) (rest : Bytes) → nothing_behind programs rest ≡ Ok object → (programs ≡ object) × (rest ≡ [])
all_read programs object [] e = (same_object programs object e, refl)
all_read programs object (byte ∷ rest) e = absurd cc

pub read_is_spelled : (bytes : Bytes) (object : WrittenObject) → AreBytes bytes → object_read bytes ≡ Ok object → (bytes ≡ object_spelled object) × IsTrue (programs_part.allows object)
read_is_spelled bytes object fits e =
    let m = then_ok {A = Bytes} {B = WrittenObject} (length bytes) ((bytes_part 4).read bytes) (λ magic rest. if bytes_eq magic magic_bytes then version_read (length bytes) rest else Err refusal.BadMagic) object e in
    let c = chosen_ok {B = WrittenObject} (bytes_eq m.0 magic_bytes) (version_read (length bytes) m.1) refusal.BadMagic object m.3 in
    let s = (bytes_law 4).takes bytes m.0 m.1 fits m.2 in
    let behind = rest_bytes bytes m.0 m.1 s.parts fits in
    let v = then_ok {A = ℕ} {B = WrittenObject} (length bytes) (number16_part.read m.1)
    (λ version rest. if version == format_version then then_reads (length bytes) (programs_part.read rest) nothing_behind else Err refusal.BadVersion) object c.1 in
    let d = chosen_ok {B = WrittenObject} (v.0 == format_version) (then_reads (length bytes) (programs_part.read v.1) nothing_behind) refusal.BadVersion object v.3 in
    let t = number16_law.takes m.1 v.0 v.1 behind v.2 in
    let behind_version = rest_bytes m.1 (number16_part.spelled v.0) v.1 t.parts behind in
    let p = then_ok {A = WrittenObject} {B = WrittenObject} (length bytes) (programs_part.read v.1) nothing_behind object d.1 in
    let n = all_read p.0 object p.1 p.3 in
    let u = programs_law.takes v.1 p.0 p.1 behind_version p.2 in
    let magic : m.0 ≡ magic_bytes = (bytes_eq-Decides m.0 magic_bytes).0 c.0 in
    let version : v.0 ≡ format_version = eqb-true v.0 format_version d.0 in
    let programs : v.1 ≡ programs_part.spelled object =
    u.parts ∙ ap (λ (z : Bytes). programs_part.spelled p.0 ++ z) n.1 ∙ append-nil (programs_part.spelled p.0) ∙ ap programs_part.spelled n.0 in (
      s.parts ∙ ap (λ (z : Bytes). z ++ m.1) magic ∙ ap (λ (z : Bytes). magic_bytes ++ z) t.parts
          ∙ ap (λ (k : ℕ). magic_bytes ++ (number16_part.spelled k ++ v.1)) version ∙ ap (λ (z : Bytes). magic_bytes ++ (number16_part.spelled format_version ++ z)) programs,
      subst (λ (w : WrittenObject). IsTrue (programs_part.allows w)) n.0 u.allowed,
    )
