-- What keys in order of insertion, with their numbers, are as a table of constants.
use Rattle.std.proofs.Common.{◌≡◌, ◌<◌, length, get_or, drop, append_assoc, add-one, ◌+◌, ℕ, suc, Bool, true, false, List, [], ◌∷◌, ◌++◌, map, Option, Some, None, option_map, refl, sym, ap, ◌∙◌, if◌then◌else◌, unwrap_or, cond}
use Rattle.std.specs.Prelude.{◌||◌}
use Rattle.std.specs.BTreeMap.{BTreeMap, get, is_at}
use Rattle.std.specs.Cmp.{eq_by_cmp_equiv}
use Rattle.std.specs.List.{list_any}
use Rattle.std.specs.Option.{is_some}
use Rattle.std.proofs.lemmas.List.{map-append, length-map}
use Rattle.std.proofs.Math.Seq.{drop-cons}
use Rattle.ds2_value.specs.Value.{is_null}
use Rattle.ds2_value.specs.declared.value.Value.{Value}
use Rattle.ds2_code.specs.declared.parts.Constant.{Constant}
use Rattle.ds2_program_code.specs.PlacedProgram.{number_of_first}
use Rattle.ds2_program_code.specs.UsedConstants.{UsedConstant}
use Rattle.ds2_program_code.specs.CodeConstants.{is_one_constant, with_used_constant, constant_number, constant_part}
use Rattle.ds2_constants.specs.declared.key.ConstantKey.{ConstantKey}
use Rattle.ds2_constants.specs.ConstantKeys.{used_of_key, is_one_key, key_decides}
use Rattle.ds2_constants.specs.ConstantNumbers.{HaveConstantNumbers}
use Rattle.ds2_constants.specs.KeyOrder.{key_cmp, key_total, key_tied}

-- ---- one constant more

-- what is found in a list, or at its end
abbrev or_last : Option ℕ → Bool → ℕ → Option ℕ
or_last (Some k) b n = Some k
or_last None b n = if b then Some n else None

last_moved : (o : Option ℕ) (b : Bool) (n : ℕ) → option_map (λ m. suc m) (or_last o b n) ≡ or_last (option_map (λ m. suc m) o) b (suc n)
last_moved (Some k) b n = refl
last_moved None true n = refl
last_moved None false n = refl

last_next : (first : Bool) (o whole : Option ℕ) (b : Bool) (n : ℕ) → whole ≡ or_last o b n
    → (if first then Some 0 else option_map (λ m. suc m) whole) ≡ or_last (if first then Some 0 else option_map (λ m. suc m) o) b (suc n)
last_next true o whole b n h = refl
last_next false o whole b n h = ap (λ w. option_map (λ m. suc m) w) h ∙ last_moved o b n

number_with_last : {X : Type 0} (test : X → Bool) (xs : List X) (y : X) → number_of_first test (xs ++ y ∷ []) ≡ or_last (number_of_first test xs) (test y) (length xs)
number_with_last test [] y = refl
number_with_last test (x ∷ xs) y = last_next (test x) (number_of_first test xs) (number_of_first test (xs ++ y ∷ [])) (test y) (length xs) (number_with_last test xs y)

given_by : (b : Bool) (here o : Option ℕ) (n k : ℕ) → n ≡ k → (b ≡ true → here ≡ o) → is_some here ≡ false → cond b (Some n) o ≡ or_last o b k
given_by false here None n k e same none = refl
given_by false here (Some m) n k e same none = refl
given_by true here None n k e same none = ap (λ i. Some i) e
given_by true here (Some m) n k e same none = let f : false ≡ true = sym none ∙ ap (λ x. is_some x) (same refl) in cc f

-- the number of a constant among those of keys
abbrev number_in : List ConstantKey → ConstantKey → Option ℕ
number_in keys k = number_of_first (λ other. is_one_constant (used_of_key k) other) (map used_of_key keys)

-- a constant that has no number is given the next one
pub next_numbered : (keys : List ConstantKey) (m n : BTreeMap ConstantKey ℕ) (x : ConstantKey) → HaveConstantNumbers keys m → is_some (get key_cmp m x) ≡ false
    → ((q : ConstantKey) → get key_cmp n q ≡ cond (is_at (key_cmp x) q) (Some (length keys)) (get key_cmp m q)) → HaveConstantNumbers (keys ++ x ∷ []) n
next_numbered keys m n x are none put k =
    let same : is_at (key_cmp x) k ≡ is_one_key k x = (eq_by_cmp_equiv key_total).symm x k ∙ sym (key_tied k x) in
    let here : is_some (number_in keys x) ≡ false = ap (λ o. is_some o) (sym (are x)) ∙ none in
    put k ∙ ap (λ b. cond b (Some (length keys)) (get key_cmp m k)) same ∙ ap (λ o. cond (is_one_key k x) (Some (length keys)) o) (are k)
    ∙ given_by (is_one_key k x) (number_in keys x) (number_in keys k) (length keys) (length (map used_of_key keys)) (sym (length-map keys used_of_key))
    (λ h. ap (λ z. number_in keys z) (sym ((key_decides k x).0 h))) here
    ∙ sym (ap (λ z. number_of_first (λ other. is_one_constant (used_of_key k) other) z) (map-append used_of_key keys (x ∷ [])) ∙ number_with_last (λ other. is_one_constant (used_of_key k) other) (map used_of_key keys) (used_of_key x))

numbered_by : (b : Bool) (o : Option ℕ) (any : Bool) → any ≡ is_some o → (b || any) ≡ is_some (if b then Some 0 else option_map (λ m. suc m) o)
numbered_by true o any h = refl
numbered_by false None any h = h
numbered_by false (Some m) any h = h

-- a test passes an item where it has a first one
any_numbered : {X : Type 0} (test : X → Bool) (xs : List X) → list_any test xs ≡ is_some (number_of_first test xs)
any_numbered test [] = refl
any_numbered test (x ∷ xs) = numbered_by (test x) (number_of_first test xs) (list_any test xs) (any_numbered test xs)

-- what a constant that is not null joins
joined : (keys : List ConstantKey) (m : BTreeMap ConstantKey ℕ) (k : ConstantKey) (b : Bool) → HaveConstantNumbers keys m → is_null k.value ≡ false → is_some (get key_cmp m k) ≡ b
    → with_used_constant (map used_of_key keys) (used_of_key k) ≡ (if b then map used_of_key keys else map used_of_key keys ++ used_of_key k ∷ [])
joined keys m k b are some e =
    let table = map used_of_key keys in
    let any = list_any (λ other. is_one_constant (used_of_key k) other) table in
    ap (λ x. if x then table else table ++ used_of_key k ∷ [])
    (ap (λ x. x || any) some ∙ any_numbered (λ other. is_one_constant (used_of_key k) other) table ∙ ap (λ o. is_some o) (sym (are k)) ∙ e)

-- keys of one constant are one
pub one_key : (a b : ConstantKey) → used_of_key a ≡ used_of_key b → a ≡ b
one_key a b e = ap (λ (u : UsedConstant). let key : ConstantKey = record { ty = u.ty; value = u.value } in key) e

-- a constant that stands there
pub there_already : (keys : List ConstantKey) (m : BTreeMap ConstantKey ℕ) (table : List UsedConstant) (k : ConstantKey) (c : UsedConstant) → map used_of_key keys ≡ table
    → is_null c.value ≡ false → used_of_key k ≡ c → HaveConstantNumbers keys m → is_some (get key_cmp m k) ≡ true → with_used_constant table c ≡ table
there_already keys m table k c same some is are there =
    ap (λ t. with_used_constant t c) (sym same) ∙ ap (λ x. with_used_constant (map used_of_key keys) x) (sym is)
    ∙ joined keys m k true are (ap (λ x. is_null x.value) is ∙ some) there ∙ same

-- a constant that joins
pub joins_next : (keys grown : List ConstantKey) (m : BTreeMap ConstantKey ℕ) (table : List UsedConstant) (k : ConstantKey) (c : UsedConstant) → map used_of_key keys ≡ table
    → is_null c.value ≡ false → used_of_key k ≡ c → HaveConstantNumbers keys m → is_some (get key_cmp m k) ≡ false → grown ≡ keys ++ k ∷ []
    → map used_of_key grown ≡ with_used_constant table c
joins_next keys grown m table k c same some is are none put =
    ap (λ l. map used_of_key l) put ∙ map-append used_of_key keys (k ∷ [])
    ∙ sym (joined keys m k false are (ap (λ x. is_null x.value) is ∙ some) none)
    ∙ ap (λ t. with_used_constant t (used_of_key k)) same ∙ ap (λ x. with_used_constant table x) is

-- null joins no table
pub null_stays : (table : List UsedConstant) (c : UsedConstant) → is_null c.value ≡ true → with_used_constant table c ≡ table
null_stays table c h = ap (λ b. if b || list_any (λ other. is_one_constant c other) table then table else table ++ c ∷ []) h

-- the number that is found for a key is that of its constant
pub number_is : (keys : List ConstantKey) (m : BTreeMap ConstantKey ℕ) (table : List UsedConstant) (k : ConstantKey) (o : Option ℕ) (n : ℕ)
    → map used_of_key keys ≡ table → HaveConstantNumbers keys m → o ≡ get key_cmp m k → n ≡ unwrap_or o 0 → n ≡ constant_number table k.value k.ty
number_is keys m table k o n same are is found =
    found ∙ ap (λ x. unwrap_or x 0) (is ∙ are k) ∙ ap (λ t. constant_number t k.value k.ty) same

-- one key more has become a constant
pub key_moved : (keys : List ConstantKey) (i : ℕ) (k : ConstantKey) → i < length keys → k ≡ get_or keys i k → (list more want : List Constant) (v : Value) → v ≡ k.value
    → (let part : Constant = record { ty = k.ty; value = v } in more ≡ list ++ part ∷ []) → list ++ map constant_part (map used_of_key (drop i keys)) ≡ want
    → more ++ map constant_part (map used_of_key (drop (i + 1) keys)) ≡ want
key_moved keys i k lt here list more want v same put before =
    let rest = λ (j : ℕ). map constant_part (map used_of_key (drop j keys)) in
    let part = constant_part (used_of_key k) in
    ap (λ (l : List Constant). l ++ rest (i + 1)) (put ∙ ap (λ (x : Value). list ++ constant_part (record { value = x; ty = k.ty }) ∷ []) same)
    ∙ append_assoc list (part ∷ []) (rest (i + 1))
    ∙ ap (λ (j : ℕ). list ++ part ∷ rest j) (add-one i)
    ∙ ap (λ (x : ConstantKey). list ++ constant_part (used_of_key x) ∷ rest (suc i)) here
    ∙ ap (λ (l : List ConstantKey). list ++ map constant_part (map used_of_key l)) (sym (drop-cons keys i k lt))
    ∙ before
