-- Whose code it is: one number for methods with equal signatures, and another one for others.
use Rattle.std.proofs.Common.{◌≡◌, ℕ, zero, suc, ◌+◌, ◌^◌, ◌<◌, ◌≤◌, Bool, true, false, ◌&&◌, List, [], ◌∷◌, ◌++◌, length, get_or, take, drop, Option, Some, None, refl, sym, ap, ap₂, ◌∙◌, subst, arith}
use Rattle.std.specs.Prelude.{◌==◌, slice_get, slice_set, unwrap_or, Vec, if◌then◌else◌}
use Rattle.std.specs.List.{list_all}
use Rattle.std.specs.Option.{option_map}
use Rattle.std.proofs.lemmas.Bool.{ltb-true, eq-eqb, eqb-true, eqb-false}
use Rattle.std.proofs.lemmas.List.{length-set, take_more, drop_more, length-take-le, append_assoc}
use Rattle.std.specs.declared.alloc.Global.{Global}
use Rattle.std.specs.Ordering.{is_eq, nat_cmp}
use Rattle.std.specs.Cmp.{unsigned_ties}
use Rattle.std.specs.BTreeMap.{BTreeMap, get}
use Rattle.std.specs.Map.{lookup}
use Rattle.ds2_code.specs.declared.instr.Instr.{Instr}
use Rattle.ds2_code.specs.declared.parts.MethodPart.{MethodPart}
use Rattle.ds2_code.specs.declared.parts.OutputPart.{OutputPart}
use Rattle.ds2_code.specs.declared.parts.ProgramParts.{ProgramParts}
use Rattle.ds2_code.specs.OperandTypes.{CodeRole, OfUnit, OfMethod, signature_of}
use Rattle.ds2_code.specs.ValidCode.{parts_in_range, is_short, own_lists_short, hash_short, method_short, reading_short, lists_short, values_allowed, unit_entries, unit_entry_role, method_entry_role, entry_role}
use Rattle.ds2_valid_code.specs.declared.owner.CodeOwner.{CodeOwner}
use Rattle.ds2_valid_code.specs.declared.owner.CodeOwner.TheVariants.{Unit as UnitCode, Method as MethodCode}
use Rattle.ds2_valid_code.specs.declared.owner.EntryPoint.{EntryPoint}
use Rattle.ds2_valid_code.specs.CodeScan.{first_where, first_like, entry_point, unit_points, method_points, role_of_method, owner_role, owner_of, same_owner, no_entries, with_entries, with_unit_entries, with_method_entries, entry_table, entry_found, HasEntries}
use Rattle.ds2_valid_code.specs.SignatureCodes.{signature_code, same_code, number_of_code, found_or}
use Rattle.ds2_valid_code.proofs.SignatureLemmas.{code_same, code_is, signature_is}

-- ---- tests

pub both : (a b : Bool) → (a && b) ≡ true → (a ≡ true) × (b ≡ true)
both true b h = (refl, h)
both false b h = absurd cc

pub and_so : (a b : Bool) → a ≡ true → b ≡ true → (a && b) ≡ true
and_so true b g h = h
and_so false b g h = absurd cc

pub split : (a b : Bool) → (if a then b else false) ≡ true → (a ≡ true) × (b ≡ true)
split true b h = (refl, h)
split false b h = absurd cc

pub join : (a b : Bool) → a ≡ true → b ≡ true → (if a then b else false) ≡ true
join true b g h = h
join false b g h = absurd cc

-- ---- how many methods

-- code whose lists are short has few methods
pub few_methods : (code : ProgramParts) → (parts_in_range code && (lists_short code && values_allowed code)) ≡ true → length code.methods < 2 ^ 32
few_methods code h =
    let all = both (parts_in_range code) (lists_short code && values_allowed code) h in
    let lists = both (lists_short code) (values_allowed code) all.1 in
    let own = both (own_lists_short code)
    ((list_all hash_short code.hashes && list_all method_short code.methods) && (reading_short code.reading && list_all (λ (o : OutputPart). is_short o.columns) code.outputs)) lists.0 in
    let late = both (is_short code.slots && (is_short code.constants && (is_short code.hashes && is_short code.iterators)))
    (is_short code.parameters && (is_short code.methods && (is_short code.outputs && is_short code.instrs))) own.0 in
    let methods = both (is_short code.parameters) (is_short code.methods && (is_short code.outputs && is_short code.instrs)) late.1 in
    ltb-true (length code.methods) (2 ^ 32) (both (is_short code.methods) (is_short code.outputs && is_short code.instrs) methods.1).0

-- ---- the first method

abbrev picked : Bool → Option ℕ → Option ℕ
picked b o = if b then Some 0 else option_map suc o

some_suc : (o : Option ℕ) (k : ℕ) → option_map suc o ≡ Some (suc k) → o ≡ Some k
some_suc None k h = absurd cc
some_suc (Some j) k h = let w : suc j ≡ suc k = cc in let v : j ≡ k = omega (arith, w) in ap (λ z. Some z) v

some_not_zero : (o : Option ℕ) → option_map suc o ≡ Some 0 → ⊥
some_not_zero None h = cc
some_not_zero (Some j) h = let w : suc j ≡ 0 = cc in omega (arith, w)

zero_not_suc : (k : ℕ) → Some 0 ≡ Some (suc k) → ⊥
zero_not_suc k h = let w : 0 ≡ suc k = cc in omega (arith, w)

pub where_passes : (test : MethodPart → Bool) (ms : List MethodPart) (k : ℕ) → first_where test ms ≡ Some k → (m : MethodPart) × (slice_get ms k ≡ Some m) × (test m ≡ true)
where_passes test [] k h = absurd cc
where_passes test (x ∷ ms) zero h = first (test x) refl h
  where
    first : (b : Bool) → test x ≡ b → picked b (first_where test ms) ≡ Some 0 → (m : MethodPart) × (slice_get (x ∷ ms) 0 ≡ Some m) × (test m ≡ true)
    first true e h = (x, refl, e)
    first false e h = absurd (some_not_zero (first_where test ms) h)
where_passes test (x ∷ ms) (suc k) h = first (test x) h (where_passes test ms k)
  where
    first : (b : Bool) → picked b (first_where test ms) ≡ Some (suc k) → (first_where test ms ≡ Some k → (m : MethodPart) × (slice_get ms k ≡ Some m) × (test m ≡ true))
        → (m : MethodPart) × (slice_get ms k ≡ Some m) × (test m ≡ true)
    first true h go = absurd (zero_not_suc k h)
    first false h go = go (some_suc (first_where test ms) k h)

pub where_some : (test : MethodPart → Bool) (ms : List MethodPart) (k : ℕ) (m : MethodPart) → slice_get ms k ≡ Some m → test m ≡ true → (j : ℕ) × (first_where test ms ≡ Some j)
where_some test [] k m g e = absurd cc
where_some test (x ∷ ms) zero m g e = let w : x ≡ m = cc in (0, ap (λ b. picked b (first_where test ms)) (ap test w ∙ e))
where_some test (x ∷ ms) (suc k) m g e = first (test x) refl (where_some test ms k m g e)
  where
    first : (b : Bool) → test x ≡ b → ((j : ℕ) × (first_where test ms ≡ Some j)) → (j : ℕ) × (first_where test (x ∷ ms) ≡ Some j)
    first true f r = (0, ap (λ b. picked b (first_where test ms)) f)
    first false f r = (suc r.0, ap (λ b. picked b (first_where test ms)) f ∙ ap (option_map suc) r.1)

-- what is the first among some is the first among all
pub where_kept : (test : MethodPart → Bool) (ms : List MethodPart) (n k : ℕ) → first_where test (take n ms) ≡ Some k → first_where test ms ≡ Some k
where_kept test ms zero k h = absurd cc
where_kept test [] (suc n) k h = absurd cc
where_kept test (x ∷ ms) (suc n) k h = by (test x) (first_where test (take n ms)) (where_kept test ms n) h
  where
    by : (b : Bool) (o : Option ℕ) → ((j : ℕ) → o ≡ Some j → first_where test ms ≡ Some j) → picked b o ≡ Some k → picked b (first_where test ms) ≡ Some k
    by true o go h = h
    by false None go h = absurd cc
    by false (Some j) go h = ap (option_map suc) (go j refl) ∙ h

map_found_or : (a : Option ℕ) (b : Bool) (n : ℕ) → option_map suc (found_or a (if b then Some n else None)) ≡ found_or (option_map suc a) (if b then Some (suc n) else None)
map_found_or None true n = refl
map_found_or None false n = refl
map_found_or (Some k) b n = refl

where_push : (test : MethodPart → Bool) (ms : List MethodPart) (m : MethodPart) → first_where test (ms ++ m ∷ []) ≡ found_or (first_where test ms) (if test m then Some (length ms) else None)
where_push test [] m = refl
where_push test (x ∷ ms) m = first (test x) (where_push test ms m)
  where
    first : (b : Bool) → first_where test (ms ++ m ∷ []) ≡ found_or (first_where test ms) (if test m then Some (length ms) else None)
        → picked b (first_where test (ms ++ m ∷ [])) ≡ found_or (picked b (first_where test ms)) (if test m then Some (suc (length ms)) else None)
    first true e = refl
    first false e = ap (option_map suc) e ∙ map_found_or (first_where test ms) (test m) (length ms)

-- one more method is the first where none before it passes
pub where_more : (test : MethodPart → Bool) (ms : List MethodPart) (i : ℕ) (m : MethodPart) → i < length ms → m ≡ get_or ms i m
    → first_where test (take (i + 1) ms) ≡ found_or (first_where test (take i ms)) (if test m then Some i else None)
where_more test ms i m l h =
    let within : i ≤ length ms = omega (arith, l) in
    ap (first_where test) (take_more ms i m l ∙ ap (λ z. take i ms ++ z ∷ []) (sym h))
    ∙ where_push test (take i ms) m
    ∙ ap (λ n. found_or (first_where test (take i ms)) (if test m then Some n else None)) (length-take-le i ms within)

-- the first method with each signature is known
abbrev pub FindsFirst : BTreeMap (Vec ℕ Global) ℕ → List MethodPart → Type 0
FindsFirst numbers ms = (other : Vec ℕ Global) → number_of_code numbers other.items ≡ first_where (λ m. same_code (signature_code (signature_of m)) other.items) ms

or_none : (o : Option ℕ) → o ≡ found_or o None
or_none None = refl
or_none (Some n) = refl

-- where a signature has a number, the map stays
pub number_stays : (numbers : BTreeMap (Vec ℕ Global) ℕ) (code other : List ℕ) (n next : ℕ) → number_of_code numbers code ≡ Some n
    → number_of_code numbers other ≡ found_or (number_of_code numbers other) (if same_code code other then Some next else None)
number_stays numbers code other n next f = by (same_code code other) refl
  where
    by : (b : Bool) → same_code code other ≡ b → number_of_code numbers other ≡ found_or (number_of_code numbers other) (if b then Some next else None)
    by true e = let g : number_of_code numbers other ≡ Some n = ap (number_of_code numbers) (sym (code_is code other e)) ∙ f in g ∙ ap (λ o. found_or o (Some next)) (sym g)
    by false e = or_none (number_of_code numbers other)

-- where it has none, it gets the next one
pub number_given : (old new : BTreeMap (Vec ℕ Global) ℕ) (code other : List ℕ) (next : ℕ) → number_of_code old code ≡ None
    → number_of_code new other ≡ (if same_code code other then Some next else number_of_code old other)
    → number_of_code new other ≡ found_or (number_of_code old other) (if same_code code other then Some next else None)
number_given old new code other next f g = g ∙ by (same_code code other) refl
  where
    by : (b : Bool) → same_code code other ≡ b → (if b then Some next else number_of_code old other) ≡ found_or (number_of_code old other) (if b then Some next else None)
    by true e = ap (λ o. found_or o (Some next)) (sym (ap (number_of_code old) (sym (code_is code other e)) ∙ f))
    by false e = or_none (number_of_code old other)

-- the number that is found for a method is that of its owner
pub owner_found : (ms : List MethodPart) (i n : ℕ) (m : MethodPart) → i < length ms → m ≡ get_or ms i m
    → Some n ≡ found_or (first_like (take i ms) (signature_of m)) (Some i) → owner_of ms m ≡ MethodCode n
owner_found ms i n m l h e =
    let test : MethodPart → Bool = λ x. same_code (signature_code (signature_of x)) (signature_code (signature_of m)) in
    ap (λ o. MethodCode (unwrap_or o 0))
    (where_kept test ms (i + 1) n
    (where_more test ms i m l h ∙ ap (λ b. found_or (first_where test (take i ms)) (if b then Some i else None)) (code_same (signature_code (signature_of m))) ∙ sym e))

-- one more entry of a method
pub points_grow : (methods ms : List MethodPart) (ps : List EntryPoint) (i : ℕ) (m : MethodPart) (o : CodeOwner) → i < length ms → m ≡ get_or ms i m → owner_of methods m ≡ o
    → (ps ++ entry_point m.entry o ∷ []) ++ method_points methods (drop (i + 1) ms) ≡ ps ++ method_points methods (drop i ms)
points_grow methods ms ps i m o l h e =
    append_assoc ps (entry_point m.entry o ∷ []) (method_points methods (drop (i + 1) ms))
    ∙ ap (λ z. ps ++ entry_point m.entry z ∷ method_points methods (drop (i + 1) ms)) (sym e)
    ∙ ap (λ z. ps ++ method_points methods z) (sym (drop_more ms i m l ∙ ap (λ z. z ∷ drop (i + 1) ms) (sym h)))

-- ---- owners

-- a number by which code is known: that of the first method with its signature
abbrev pub IsKnown : List MethodPart → CodeOwner → Type 0
IsKnown methods UnitCode = Unit {0}
IsKnown methods (MethodCode k) = (m : MethodPart) × (slice_get methods k ≡ Some m) × (first_like methods (signature_of m) ≡ Some k)

pub owner_same : (a : CodeOwner) → same_owner a a ≡ true
owner_same UnitCode = refl
owner_same (MethodCode k) = eq-eqb k k refl

pub owner_is : (a b : CodeOwner) → same_owner a b ≡ true → a ≡ b
owner_is UnitCode UnitCode h = refl
owner_is UnitCode (MethodCode k) h = absurd cc
owner_is (MethodCode j) UnitCode h = absurd cc
owner_is (MethodCode j) (MethodCode k) h = ap (λ z. MethodCode z) (eqb-true j k h)

-- known owners of one role are one
pub one_owner : (methods : List MethodPart) (a b : CodeOwner) → IsKnown methods a → IsKnown methods b → owner_role methods a ≡ owner_role methods b → a ≡ b
one_owner methods UnitCode UnitCode ka kb h = refl
one_owner methods UnitCode (MethodCode k) ka kb h = absurd (let z : OfUnit ≡ OfMethod (signature_of kb.0) = h ∙ ap role_of_method kb.1 in cc)
one_owner methods (MethodCode j) UnitCode ka kb h = absurd (let z : OfMethod (signature_of ka.0) ≡ OfUnit = sym (ap role_of_method ka.1) ∙ h in cc)
one_owner methods (MethodCode j) (MethodCode k) ka kb h =
    let z : OfMethod (signature_of ka.0) ≡ OfMethod (signature_of kb.0) = sym (ap role_of_method ka.1) ∙ h ∙ ap role_of_method kb.1 in
    let s : signature_of ka.0 ≡ signature_of kb.0 = cc in
    let e : Some j ≡ Some k = sym ka.2 ∙ ap (first_like methods) s ∙ kb.2 in
    let w : j ≡ k = cc in
    ap (λ z. MethodCode z) w

-- a method's owner is known, and is of its role
pub owner_known : (methods : List MethodPart) (j : ℕ) (m : MethodPart) → slice_get methods j ≡ Some m
    → IsKnown methods (owner_of methods m) × (owner_role methods (owner_of methods m) ≡ OfMethod (signature_of m))
owner_known methods j m g =
    let test : MethodPart → Bool = λ x. same_code (signature_code (signature_of x)) (signature_code (signature_of m)) in
    let r = where_some test methods j m g (code_same (signature_code (signature_of m))) in
    let f = where_passes test methods r.0 r.1 in
    let s : signature_of f.0 ≡ signature_of m = signature_is (signature_of f.0) (signature_of m) (code_is (signature_code (signature_of f.0)) (signature_code (signature_of m)) f.2) in
    let e : owner_of methods m ≡ MethodCode r.0 = ap (λ o. MethodCode (unwrap_or o 0)) r.1 in (
      subst (IsKnown methods) (sym e) (f.0, f.1, ap (first_like methods) s ∙ r.1),
      ap (owner_role methods) e ∙ ap role_of_method f.1 ∙ ap (λ z. OfMethod z) s,
    )

-- ---- entries

set_same : (t : List (Option CodeOwner)) (at : ℕ) (x : Option CodeOwner) → at < length t → slice_get (slice_set t at x) at ≡ Some x
set_same [] at x l = absurd (omega (arith, l))
set_same (y ∷ t) zero x l = refl
set_same (y ∷ t) (suc at) x l = set_same t at x (omega (arith, l))

set_other : (t : List (Option CodeOwner)) (e at : ℕ) (x : Option CodeOwner) → (e ≡ at → ⊥) → slice_get (slice_set t e x) at ≡ slice_get t at
set_other [] e at x ne = refl
set_other (y ∷ t) zero zero x ne = absurd (ne refl)
set_other (y ∷ t) zero (suc at) x ne = refl
set_other (y ∷ t) (suc e) zero x ne = refl
set_other (y ∷ t) (suc e) (suc at) x ne = set_other t e at x (λ z. ne (ap suc z))

set_found : (t : List (Option CodeOwner)) (e at : ℕ) (o : CodeOwner) → at < length t
    → entry_found (slice_get (slice_set t e (Some o)) at) ≡ (if e == at then Some o else entry_found (slice_get t at))
set_found t e at o l = by (e == at) refl
  where
    by : (b : Bool) → (e == at) ≡ b → entry_found (slice_get (slice_set t e (Some o)) at) ≡ (if b then Some o else entry_found (slice_get t at))
    by true f = ap (λ z. entry_found (slice_get (slice_set t z (Some o)) at)) (eqb-true e at f) ∙ ap entry_found (set_same t at (Some o) l)
    by false f = ap entry_found (set_other t e at (Some o) (eqb-false e at f))

-- one more entry
pub entry_written : (old new : BTreeMap ℕ CodeOwner) (t : List (Option CodeOwner)) (e : ℕ) (o : CodeOwner)
    → ((at : ℕ) → get nat_cmp new at ≡ (if is_eq (nat_cmp e at) then Some o else get nat_cmp old at)) → HasEntries old t → HasEntries new (slice_set t e (Some o))
entry_written old new t e o u h at l =
    let inside : at < length t = subst (λ n. at < n) (length-set t e (Some o)) l in
    u at ∙ ap₂ (λ b x. if b then Some o else x) (sym (unsigned_ties e at)) (h at inside) ∙ sym (set_found t e at o inside)

if_map : (methods : List MethodPart) (b : Bool) (o : CodeOwner) (x : Option CodeOwner)
    → option_map (owner_role methods) (if b then Some o else x) ≡ (if b then Some (owner_role methods o) else option_map (owner_role methods) x)
if_map methods true o x = refl
if_map methods false o x = refl

-- each entry of a table is known
abbrev pub AllKnown : List MethodPart → List (Option CodeOwner) → Type 0
AllKnown methods t = (at : ℕ) (o : CodeOwner) → entry_found (slice_get t at) ≡ Some o → IsKnown methods o

set_known : (methods : List MethodPart) (t : List (Option CodeOwner)) (e : ℕ) (o : CodeOwner) → IsKnown methods o → AllKnown methods t → AllKnown methods (slice_set t e (Some o))
set_known methods [] e o k h at p g = h at p g
set_known methods (x ∷ t) zero o k h zero p g = let w : o ≡ p = cc in subst (IsKnown methods) w k
set_known methods (x ∷ t) zero o k h (suc at) p g = h (suc at) p g
set_known methods (x ∷ t) (suc e) o k h zero p g = h zero p g
set_known methods (x ∷ t) (suc e) o k h (suc at) p g = set_known methods t e o k (λ at p g. h (suc at) p g) at p g

no_entry_found : (is : List Instr) (at : ℕ) → entry_found (slice_get (no_entries is) at) ≡ None
no_entry_found [] at = refl
no_entry_found (i ∷ is) zero = refl
no_entry_found (i ∷ is) (suc at) = no_entry_found is at

no_entries_length : (is : List Instr) → length (no_entries is) ≡ length is
no_entries_length [] = refl
no_entries_length (i ∷ is) = ap suc (no_entries_length is)

-- a role, else another one
abbrev role_or : Option CodeRole → Option CodeRole → Option CodeRole
role_or None other = other
role_or (Some r) other = Some r

-- the role of the entry that a table has
abbrev role_at : List MethodPart → List (Option CodeOwner) → ℕ → Option CodeRole
role_at methods t at = option_map (owner_role methods) (entry_found (slice_get t at))

set_role : (methods : List MethodPart) (t : List (Option CodeOwner)) (e at : ℕ) (o : CodeOwner) → at < length t
    → role_at methods (slice_set t e (Some o)) at ≡ (if e == at then Some (owner_role methods o) else role_at methods t at)
set_role methods t e at o l = ap (option_map (owner_role methods)) (set_found t e at o l) ∙ if_map methods (e == at) o (entry_found (slice_get t at))

unit_or : (us : List ℕ) (at : ℕ) → role_or (unit_entry_role us at) (Some OfUnit) ≡ Some OfUnit
unit_or [] at = refl
unit_or (u ∷ us) at = by (u == at) (unit_or us at)
  where
    by : (b : Bool) → role_or (unit_entry_role us at) (Some OfUnit) ≡ Some OfUnit → role_or (if b then Some OfUnit else unit_entry_role us at) (Some OfUnit) ≡ Some OfUnit
    by true h = refl
    by false h = h

within_set : (t : List (Option CodeOwner)) (e : ℕ) (x : Option CodeOwner) (at : ℕ) → at < length t → at < length (slice_set t e x)
within_set t e x at l = subst (λ n. at < n) (sym (length-set t e x)) l

unit_roles : (methods : List MethodPart) (us : List ℕ) (t : List (Option CodeOwner)) (at : ℕ) → at < length t
    → role_at methods (with_unit_entries t us) at ≡ role_or (unit_entry_role us at) (role_at methods t at)
unit_roles methods [] t at l = refl
unit_roles methods (u ∷ us) t at l =
    unit_roles methods us (slice_set t u (Some UnitCode)) at (within_set t u (Some UnitCode) at l)
    ∙ ap (role_or (unit_entry_role us at)) (set_role methods t u at UnitCode l)
    ∙ by (u == at)
  where
    by : (b : Bool) → role_or (unit_entry_role us at) (if b then Some OfUnit else role_at methods t at) ≡ role_or (if b then Some OfUnit else unit_entry_role us at) (role_at methods t at)
    by true = unit_or us at
    by false = refl

points_length : (ps : List EntryPoint) (t : List (Option CodeOwner)) → length (with_entries t ps) ≡ length t
points_length [] t = refl
points_length (p ∷ ps) t = points_length ps (slice_set t p.at (Some p.owner)) ∙ length-set t p.at (Some p.owner)

unit_length : (us : List ℕ) (t : List (Option CodeOwner)) → length (with_unit_entries t us) ≡ length t
unit_length us t = points_length (unit_points us) t

unit_known : (methods : List MethodPart) (us : List ℕ) (t : List (Option CodeOwner)) → AllKnown methods t → AllKnown methods (with_unit_entries t us)
unit_known methods [] t h = h
unit_known methods (u ∷ us) t h = unit_known methods us (slice_set t u (Some UnitCode)) (set_known methods t u UnitCode tt h)

-- these are methods of the code
abbrev AreMethods : List MethodPart → List MethodPart → Type 0
AreMethods methods ms = (k : ℕ) (m : MethodPart) → slice_get ms k ≡ Some m → (j : ℕ) × (slice_get methods j ≡ Some m)

method_roles : (methods ms : List MethodPart) → AreMethods methods ms → (t : List (Option CodeOwner)) (at : ℕ) → at < length t
    → role_at methods (with_method_entries methods t ms) at ≡ method_entry_role ms at (role_at methods t at)
method_roles methods [] are t at l = refl
method_roles methods (m ∷ ms) are t at l =
    let o = owner_of methods m in
    let here = are 0 m refl in
    method_roles methods ms (λ k m g. are (suc k) m g) (slice_set t m.entry (Some o)) at (within_set t m.entry (Some o) at l)
    ∙ ap (method_entry_role ms at)
    (set_role methods t m.entry at o l ∙ ap (λ r. if m.entry == at then Some r else role_at methods t at) ((owner_known methods here.0 m here.1).1))

method_known : (methods ms : List MethodPart) → AreMethods methods ms → (t : List (Option CodeOwner)) → AllKnown methods t → AllKnown methods (with_method_entries methods t ms)
method_known methods [] are t h = h
method_known methods (m ∷ ms) are t h =
    let here = are 0 m refl in
    method_known methods ms (λ k m g. are (suc k) m g) (slice_set t m.entry (Some (owner_of methods m)))
    (set_known methods t m.entry (owner_of methods m) ((owner_known methods here.0 m here.1).0) h)

none_known : (methods : List MethodPart) (is : List Instr) → AllKnown methods (no_entries is)
none_known methods is at o g = absurd (let z : None ≡ Some o = sym (no_entry_found is at) ∙ g in cc)

role_or_none : (o : Option CodeRole) → role_or o None ≡ o
role_or_none None = refl
role_or_none (Some r) = refl

beyond : (t : List (Option CodeOwner)) (at : ℕ) → length t ≤ at → slice_get t at ≡ None
beyond [] at l = refl
beyond (x ∷ t) zero l = absurd (omega (arith, l))
beyond (x ∷ t) (suc at) l = beyond t at (omega (arith, l))

pub none_written : (m : BTreeMap ℕ CodeOwner) (is : List Instr) → m.entries ≡ [] → HasEntries m (no_entries is)
none_written m is e at l = ap (lookup (λ k. is_eq (nat_cmp at k))) e ∙ sym (no_entry_found is at)

module _ (code : ProgramParts) where
  -- the table has the role of each entry
  pub entries_agree : (at : ℕ) → at < length code.instrs → option_map (owner_role code.methods) (entry_found (slice_get (entry_table code) at)) ≡ entry_role code at
  entries_agree at l =
      let blank = no_entries code.instrs in
      let units = with_unit_entries blank (unit_entries code) in
      let inside : at < length blank = subst (λ n. at < n) (sym (no_entries_length code.instrs)) l in
      method_roles code.methods code.methods (λ k m g. (k, g)) units at (subst (λ n. at < n) (sym (unit_length (unit_entries code) blank)) inside)
      ∙ ap (method_entry_role code.methods at)
      (unit_roles code.methods (unit_entries code) blank at inside
      ∙ ap (λ o. role_or (unit_entry_role (unit_entries code) at) (option_map (owner_role code.methods) o)) (no_entry_found code.instrs at)
      ∙ role_or_none (unit_entry_role (unit_entries code) at))

  table_length : length (entry_table code) ≡ length code.instrs
  table_length =
      points_length (method_points code.methods code.methods) (with_unit_entries (no_entries code.instrs) (unit_entries code))
      ∙ unit_length (unit_entries code) (no_entries code.instrs)
      ∙ no_entries_length code.instrs

  pub entry_read : (entries : BTreeMap ℕ CodeOwner) (at : ℕ) → HasEntries entries (entry_table code) → at < length code.instrs
      → get nat_cmp entries at ≡ entry_found (slice_get (entry_table code) at)
  entry_read entries at h l = h at (subst (λ n. at < n) (sym table_length) l)

  pub entry_beyond : (at : ℕ) → length code.instrs ≤ at → None ≡ entry_found (slice_get (entry_table code) at)
  entry_beyond at l = sym (ap entry_found (beyond (entry_table code) at (subst (λ n. n ≤ at) (sym table_length) l)))

  pub entries_known : AllKnown code.methods (entry_table code)
  entries_known =
      method_known code.methods code.methods (λ k m g. (k, g)) (with_unit_entries (no_entries code.instrs) (unit_entries code))
      (unit_known code.methods (unit_entries code) (no_entries code.instrs) (none_known code.methods code.instrs))
