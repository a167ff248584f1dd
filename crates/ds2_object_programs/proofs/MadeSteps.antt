-- What is made of what was read: one value, or items one after the other.
use Rattle.std.proofs.Common.{◌≡◌, ℕ, suc, ◌+◌, ◌-◌, ◌<◌, ◌≤◌, Bool, true, false, if◌then◌else◌, List, [], ◌∷◌, ◌++◌, Option, Some, None, option_map, Ok, Err, refl, sym, ap, ◌∙◌, append_assoc, append-nil, arith}
use Rattle.ds2_base.specs.Bytes.{Bytes}
use Rattle.ds2_base.specs.declared.stop.Stop.{Stop}
use Rattle.ds2_base.specs.declared.stop.Stop.TheVariants.{Refused, OutOfMemory}
use Rattle.ds2_object_words.specs.declared.flaw.Flaw.{Flaw}
use Rattle.ds2_object_words.specs.Parts.{FormatPart, FieldRead, and_read, items_read, StopsReading}
use Rattle.ds2_object_words.proofs.PartLemmas.{found, found_is}
use Rattle.ds2_object_programs.specs.ProgramSpelling.{read_as, all_made, AddsMade}

-- ---- one value

-- what was read, where something was made of it
pub read_as_ok : {W A : Type 0} (make : W → A) (r : FieldRead W) (y : A) (rest : Bytes) → read_as make r ≡ Ok (y, rest) → (w : W) × (r ≡ Ok (w, rest)) × (make w ≡ y)
read_as_ok {W} {A} make (Ok x) y rest e =
    let k = found_is {A = A} (make x.0, x.1) (y, rest) e in
    (x.0, ap (λ (z : A × Bytes). found (x.0, z.1)) k, ap (λ (z : A × Bytes). z.0) k)
read_as_ok make (Err flaw) y rest e = absurd cc

abbrev refused : {A : Type 0} → Flaw → FieldRead A
refused flaw = Err flaw

flaw_is : {A : Type 0} (f g : Flaw) → refused {A = A} f ≡ refused g → f ≡ g
flaw_is f g e = cc

-- where nothing was made, nothing was read
pub read_as_stops : {W A : Type 0} (make : W → A) (r : FieldRead W) (stop : Stop Flaw) → StopsReading stop (read_as make r) → StopsReading stop r
read_as_stops make r OutOfMemory h = tt
read_as_stops make (Ok x) (Refused flaw) h = absurd cc
read_as_stops {W} {A} make (Err f) (Refused flaw) h = ap (λ (z : Flaw). refused {A = W} z) (flaw_is {A = A} f flaw h)

-- what is made of what is made
pub read_as_twice : {W A B : Type 0} (make : W → A) (then_make : A → B) (r : FieldRead W) → read_as then_make (read_as make r) ≡ read_as (λ w. then_make (make w)) r
read_as_twice make then_make (Ok x) = refl
read_as_twice make then_make (Err flaw) = refl

-- ---- items

-- what was made before, where something was made of each item, and what is made of those left
abbrev pub joined : {A : Type 0} → Bool → List A → Option (List A) → Option (List A)
joined true front (Some xs) = Some (front ++ xs)
joined true front None = None
joined false front xs = None

-- what comes of all items, when so many are left
abbrev pub made_left : {W A : Type 0} → FormatPart W → (W → Option A) → Bool → List A → ℕ → Bytes → FieldRead (Option (List A))
made_left p make whole front left bytes = read_as (λ ws. joined whole front (all_made make ws)) (items_read p left bytes)

abbrev answer : {A : Type 0} → Option A → Bytes → FieldRead (Option A)
answer made rest = Ok (made, rest)

joined_more : {A : Type 0} (whole : Bool) (front : List A) (a : A) (made : Option (List A)) → joined whole front (option_map (λ others. a ∷ others) made) ≡ joined whole (front ++ a ∷ []) made
joined_more {A} true front a (Some xs) = ap (λ (ys : List A). Some ys) (sym (append_assoc front (a ∷ []) xs))
joined_more true front a None = refl
joined_more false front a made = refl

joined_none : {A : Type 0} (whole : Bool) (front : List A) → joined whole front None ≡ None
joined_none true front = refl
joined_none false front = refl

step_made : {W A : Type 0} (make : W → Option A) (whole : Bool) (front : List A) (w : W) (a : A) (read : FieldRead (List W)) → make w ≡ Some a
    → read_as (λ ws. joined whole front (all_made make ws)) (and_read read (λ ws behind. Ok (w ∷ ws, behind)))
    ≡ read_as (λ ws. joined whole (front ++ a ∷ []) (all_made make ws)) read
step_made {W} {A} make whole front w a (Ok y) e = rw e (ap (λ (made : Option (List A)). answer made y.1) (joined_more whole front a (all_made make y.0)))
step_made make whole front w a (Err flaw) e = refl

step_unmade : {W A : Type 0} (make : W → Option A) (whole : Bool) (front : List A) (w : W) (read : FieldRead (List W)) → make w ≡ None
    → read_as (λ ws. joined whole front (all_made make ws)) (and_read read (λ ws behind. Ok (w ∷ ws, behind)))
    ≡ read_as (λ ws. joined false front (all_made make ws)) read
step_unmade {W} {A} make whole front w (Ok y) e = rw e (ap (λ (made : Option (List A)). answer made y.1) (joined_none whole front))
step_unmade make whole front w (Err flaw) e = refl

joined_first : {A : Type 0} (made : Option (List A)) → joined true [] made ≡ made
joined_first (Some xs) = refl
joined_first None = refl

begun : {W A : Type 0} (make : W → Option A) (r : FieldRead (List W)) → read_as (λ ws. joined true [] (all_made make ws)) r ≡ read_as (all_made make) r
begun make (Ok x) = ap (λ o. answer o x.1) (joined_first (all_made make x.0))
begun make (Err flaw) = refl

-- no item is read yet
pub none_begun : {W A : Type 0} (p : FormatPart W) (make : W → Option A) (count : ℕ) (bytes : Bytes) → made_left p make true [] count bytes ≡ read_as (all_made make) (items_read p count bytes)
none_begun p make count bytes = begun make (items_read p count bytes)

-- an item of which something is made
pub one_made : {W A : Type 0} (p : FormatPart W) (make : W → Option A) (whole : Bool) (front : List A) (count i : ℕ) (bytes rest : Bytes) (a : A) (total : FieldRead (Option (List A)))
    → i < count → read_as make (p.read bytes) ≡ Ok (Some a, rest) → made_left p make whole front (count - i) bytes ≡ total
    → made_left p make whole (front ++ a ∷ []) (count - (i + 1)) rest ≡ total
one_made {W} {A} p make whole front count i bytes rest a total lt h so_far =
    let k : count - i ≡ suc (count - (i + 1)) = omega arith in
    let r = read_as_ok {W = W} {A = Option A} make (p.read bytes) (Some a) rest h in
    let one : made_left p make whole front (count - i) bytes ≡ made_left p make whole (front ++ a ∷ []) (count - (i + 1)) rest =
    rw (k, r.1) (step_made make whole front r.0 a (items_read p (count - (i + 1)) rest) r.2) in
    sym one ∙ so_far

-- an item of which nothing is made
pub one_unmade : {W A : Type 0} (p : FormatPart W) (make : W → Option A) (whole : Bool) (front : List A) (count i : ℕ) (bytes rest : Bytes) (total : FieldRead (Option (List A)))
    → i < count → read_as make (p.read bytes) ≡ Ok (None, rest) → made_left p make whole front (count - i) bytes ≡ total
    → made_left p make false front (count - (i + 1)) rest ≡ total
one_unmade {W} {A} p make whole front count i bytes rest total lt h so_far =
    let k : count - i ≡ suc (count - (i + 1)) = omega arith in
    let r = read_as_ok {W = W} {A = Option A} make (p.read bytes) None rest h in
    let one : made_left p make whole front (count - i) bytes ≡ made_left p make false front (count - (i + 1)) rest =
    rw (k, r.1) (step_unmade make whole front r.0 (items_read p (count - (i + 1)) rest) r.2) in
    sym one ∙ so_far

-- an item that is read, whether something is made of it or not
pub one_taken : {W A : Type 0} (p : FormatPart W) (make : W → Option A) (whole still : Bool) (front more : List A) (count i : ℕ) (bytes rest : Bytes) (made : Option A) (total : FieldRead (Option (List A)))
    → i < count → read_as make (p.read bytes) ≡ Ok (made, rest) → AddsMade made whole front still more → made_left p make whole front (count - i) bytes ≡ total
    → made_left p make still more (count - (i + 1)) rest ≡ total
one_taken p make whole still front more count i bytes rest (Some a) total lt h adds so_far = rw (adds.0, adds.1) (one_made p make whole front count i bytes rest a total lt h so_far)
one_taken p make whole still front more count i bytes rest None total lt h adds so_far = rw adds.0 (one_unmade p make whole front count i bytes rest total lt h so_far)

-- an item that is not read
pub none_made : {W A : Type 0} (stop : Stop Flaw) (p : FormatPart W) (make : W → Option A) (whole : Bool) (front : List A) (count i : ℕ) (bytes : Bytes) (total : FieldRead (Option (List A)))
    → i < count → StopsReading stop (read_as make (p.read bytes)) → made_left p make whole front (count - i) bytes ≡ total → StopsReading stop total
none_made OutOfMemory p make whole front count i bytes total lt h so_far = tt
none_made {W} {A} (Refused flaw) p make whole front count i bytes total lt h so_far =
    let k : count - i ≡ suc (count - (i + 1)) = omega arith in
    let r = read_as_stops {W = W} {A = Option A} make (p.read bytes) (Refused flaw) h in
    let one : made_left p make whole front (count - i) bytes ≡ Err flaw = rw (k, r) refl in
    sym so_far ∙ one

-- all items are read
pub all_items_made : {W A : Type 0} (p : FormatPart W) (make : W → Option A) (whole : Bool) (front : List A) (count i : ℕ) (bytes : Bytes) (total : FieldRead (Option (List A)))
    → count ≤ i → made_left p make whole front (count - i) bytes ≡ total → total ≡ answer (if whole then Some front else None) bytes
all_items_made {W} {A} p make true front count i bytes total le so_far =
    let k : count - i ≡ 0 = omega arith in
    let one : made_left p make true front (count - i) bytes ≡ answer (Some front) bytes = rw k (ap (λ (xs : List A). answer (Some xs) bytes) (append-nil front)) in
    sym so_far ∙ one
all_items_made {W} {A} p make false front count i bytes total le so_far =
    let k : count - i ≡ 0 = omega arith in
    let one : made_left p make false front (count - i) bytes ≡ answer None bytes = rw k refl in
    sym so_far ∙ one
