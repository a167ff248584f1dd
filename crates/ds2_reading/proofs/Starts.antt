-- Groups begin where the first BY variables change.
use Rattle.std.proofs.Common.{◌≡◌, ℕ, zero, suc, ◌+◌, ◌<◌, ◌≤◌, Bool, true, false, not, ◌||◌, cond, List, [], ◌∷◌, ◌++◌, map, length, take, refl, sym, ap, ◌∙◌, true≢false, arith, ◌⊎◌, inl, inr}
use Rattle.std.specs.Prelude.{if◌then◌else◌, get_or, Option, Some, None}
use Rattle.std.proofs.lemmas.List.{get_or_append_left, get_or_push, length-append}
use Rattle.ds2_value.specs.Order.{same_row}
use Rattle.ds2_value.specs.declared.value.Value.{Value}
use Rattle.ds2_table.specs.LoadLaws.{one_after_another, AreInByOrder}
use Rattle.ds2_table.specs.Loads.{KeyedLoad, has_key, each_once, group_with_key, groups}
use Rattle.ds2_table.proofs.ByOrder.{rows_equiv}
use Rattle.ds2_table.proofs.Groups.{groups_divide_loads}
use Rattle.ds2_reading.specs.GroupStarts.{opens_group, group_openings, keys_of_loads}

-- where groups begin, the first one at a number
abbrev pub offsets : ℕ → List (List KeyedLoad) → List ℕ
offsets k [] = []
offsets k (g ∷ gs) = k ∷ offsets (k + length g) gs

-- ---- groups one after the other

-- none of these loads opens a group behind a load with this key, nor behind the one before it
abbrev Alike : ℕ → List Value → List KeyedLoad → Type 0
Alike p key [] = Unit {0}
Alike p key (m ∷ ms) = (opens_group p (Some key) m.key ≡ false) × Alike p m.key ms

abbrev last_key : List Value → List KeyedLoad → List Value
last_key key [] = key
last_key key (m ∷ ms) = last_key m.key ms

-- each group opens with its first load and with no other
abbrev Parted : ℕ → Option (List Value) → List (List KeyedLoad) → Type 0
Parted p previous [] = Unit {0}
Parted p previous ([] ∷ gs) = ⊥
Parted p previous ((l ∷ ls) ∷ gs) = (opens_group p previous l.key ≡ true) × Alike p l.key ls × Parted p (Some (last_key l.key ls)) gs

openings_alike : (p n : ℕ) (key : List Value) (ls rest : List KeyedLoad) → Alike p key ls
    → group_openings p n (Some key) (keys_of_loads (ls ++ rest)) ≡ group_openings p (n + length ls) (Some (last_key key ls)) (keys_of_loads rest)
openings_alike p n key [] rest a = let e : n ≡ n + 0 = omega arith in ap (λ k. group_openings p k (Some key) (keys_of_loads rest)) e
openings_alike p n key (m ∷ ms) rest a =
    let e : n + 1 + length ms ≡ n + suc (length ms) = omega arith in
    ap (λ b. if b then n ∷ group_openings p (n + 1) (Some m.key) (keys_of_loads (ms ++ rest)) else group_openings p (n + 1) (Some m.key) (keys_of_loads (ms ++ rest))) a.0
    ∙ openings_alike p (n + 1) m.key ms rest a.1
    ∙ ap (λ k. group_openings p k (Some (last_key m.key ms)) (keys_of_loads rest)) e

parted_openings : (p n : ℕ) (previous : Option (List Value)) (gs : List (List KeyedLoad)) → Parted p previous gs
    → group_openings p n previous (keys_of_loads (one_after_another gs)) ≡ offsets n gs
parted_openings p n previous [] h = refl
parted_openings p n previous ([] ∷ gs) h = absurd h
parted_openings p n previous ((l ∷ ls) ∷ gs) h =
    let e : n + 1 + length ls ≡ n + suc (length ls) = omega arith in
    let rest = group_openings p (n + 1) (Some l.key) (keys_of_loads (ls ++ one_after_another gs)) in
    ap (λ b. if b then n ∷ rest else rest) h.0
    ∙ ap (λ r. n ∷ r) (openings_alike p (n + 1) l.key ls (one_after_another gs) h.1
    ∙ ap (λ k. group_openings p k (Some (last_key l.key ls)) (keys_of_loads (one_after_another gs))) e
    ∙ parted_openings p (n + suc (length ls)) (Some (last_key l.key ls)) gs h.2)

-- ---- at grain 0

single_openings : (n : ℕ) (previous : Option (List Value)) (loads : List KeyedLoad) → group_openings 0 n previous (keys_of_loads loads) ≡ offsets n (map (λ l. l ∷ []) loads)
single_openings n previous [] = refl
single_openings n previous (l ∷ loads) = ap (λ r. n ∷ r) (single_openings (n + 1) (Some l.key) loads)

-- ---- at a grain above 0

same_known : (keys : List (List Value)) (a b : List Value) → same_row a b ≡ true → has_key keys a ≡ has_key keys b
same_known [] a b e = refl
same_known (k ∷ keys) a b e = let q = rows_equiv in
    let first : same_row k a ≡ same_row k b = q.symm k a ∙ q.congr a b k e ∙ q.symm b k in
    λ i. first i || same_known keys a b e i

module _ (q : ℕ) (loads : List KeyedLoad) where
  -- the loads of a key
  abbrev of_key : List Value → List KeyedLoad
  of_key key = group_with_key (suc q) key loads

  abbrev begin : KeyedLoad → List Value
  begin l = take (suc q) l.key

  -- each of these loads has a key
  abbrev Have : List Value → List KeyedLoad → Type 0
  Have key [] = Unit {0}
  Have key (m ∷ ms) = (same_row (begin m) key ≡ true) × Have key ms

  have_filtered : (key : List Value) (ls : List KeyedLoad) → Have key (group_with_key (suc q) key ls)
  have_filtered key [] = tt
  have_filtered key (l ∷ ls) = by (same_row (begin l) key) refl (have_filtered key ls)
    where
      by : (b : Bool) → same_row (begin l) key ≡ b → Have key (group_with_key (suc q) key ls)
          → Have key (cond b (l ∷ group_with_key (suc q) key ls) (group_with_key (suc q) key ls))
      by true e again = (e, again)
      by false e again = again

  alike : (key own : List Value) (ls : List KeyedLoad) → same_row (take (suc q) own) key ≡ true → Have key ls → Alike (suc q) own ls
  alike key own [] e h = tt
  alike key own (m ∷ ms) e h =
      let r = rows_equiv in
      (ap not (r.congr (take (suc q) own) key (begin m) e ∙ r.symm key (begin m) ∙ h.0), alike key m.key ms h.0 h.1)

  last_has : (key own : List Value) (ls : List KeyedLoad) → same_row (take (suc q) own) key ≡ true → Have key ls → same_row (take (suc q) (last_key own ls)) key ≡ true
  last_has key own [] e h = e
  last_has key own (m ∷ ms) e h = last_has key m.key ms h.0 h.1

  -- the load before, if any, has a key that was seen
  abbrev WasSeen : Option (List Value) → List (List Value) → Type 0
  WasSeen None seen = Unit {0}
  WasSeen (Some other) seen = has_key seen (take (suc q) other) ≡ true

  -- loads of each of these keys are there
  abbrev Found : List (List Value) → Type 0
  Found [] = Unit {0}
  Found (key ∷ keys) = ((l : KeyedLoad) × (ls : List KeyedLoad) × (of_key key ≡ l ∷ ls)) × Found keys

  new_opens : (previous : Option (List Value)) (seen : List (List Value)) (key own : List Value) → WasSeen previous seen → has_key seen key ≡ false
      → same_row (take (suc q) own) key ≡ true → opens_group (suc q) previous own ≡ true
  new_opens None seen key own w n e = refl
  new_opens (Some other) seen key own w n e = ap not (differs (same_row (take (suc q) other) (take (suc q) own)) refl)
    where
      differs : (b : Bool) → same_row (take (suc q) other) (take (suc q) own) ≡ b → same_row (take (suc q) other) (take (suc q) own) ≡ false
      differs false k = k
      differs true k =
          absurd (true≢false (sym w ∙ same_known seen (take (suc q) other) (take (suc q) own) k ∙ same_known seen (take (suc q) own) key e ∙ n))

  parted_once : (seen keys : List (List Value)) (previous : Option (List Value)) → WasSeen previous seen → Found keys
      → Parted (suc q) previous (map of_key (each_once seen keys))
  parted_once seen [] previous w f = tt
  parted_once seen (key ∷ keys) previous w f =
      by (has_key seen key) refl (parted_once seen keys previous w f.1) (λ other seen-it. parted_once (key ∷ seen) keys (Some other) seen-it f.1)
    where
      with_first : (g : List KeyedLoad) → of_key key ≡ g → Have key g → ((l : KeyedLoad) × (ls : List KeyedLoad) × (of_key key ≡ l ∷ ls)) → has_key seen key ≡ false
          → ((other : List Value) → has_key (key ∷ seen) (take (suc q) other) ≡ true → Parted (suc q) (Some other) (map of_key (each_once (key ∷ seen) keys)))
          → Parted (suc q) previous (g ∷ map of_key (each_once (key ∷ seen) keys))
      with_first [] e h some n more = let none : [] ≡ some.0 ∷ some.1 = sym e ∙ some.2 in cc
      with_first (l ∷ ls) e h some n more =
          let r = rows_equiv in
          let own = last_key l.key ls in
          let last : same_row (take (suc q) own) key ≡ true = last_has key l.key ls h.0 h.1 in
          let known : has_key (key ∷ seen) (take (suc q) own) ≡ true = ap (λ b. b || has_key seen (take (suc q) own)) (r.symm key (take (suc q) own) ∙ last) in
          (new_opens previous seen key l.key w n h.0, alike key l.key ls h.0 h.1, more own known)

      by : (b : Bool) → has_key seen key ≡ b → Parted (suc q) previous (map of_key (each_once seen keys))
          → ((other : List Value) → has_key (key ∷ seen) (take (suc q) other) ≡ true → Parted (suc q) (Some other) (map of_key (each_once (key ∷ seen) keys)))
          → Parted (suc q) previous (map of_key (if b then each_once seen keys else key ∷ each_once (key ∷ seen) keys))
      by true e same more = same
      by false e same more = with_first (of_key key) refl (have_filtered key loads) f.0 e more

  some_kept : (key : List Value) (xs : List KeyedLoad) (l : KeyedLoad) (ys : List KeyedLoad) → same_row (begin l) key ≡ true
      → (m : KeyedLoad) × (ms : List KeyedLoad) × (group_with_key (suc q) key (xs ++ l ∷ ys) ≡ m ∷ ms)
  some_kept key [] l ys e = (l, group_with_key (suc q) key ys, ap (λ b. cond b (l ∷ group_with_key (suc q) key ys) (group_with_key (suc q) key ys)) e)
  some_kept key (x ∷ xs) l ys e = by (same_row (begin x) key) refl (some_kept key xs l ys e)
    where
      by : (b : Bool) → same_row (begin x) key ≡ b → (m : KeyedLoad) × (ms : List KeyedLoad) × (group_with_key (suc q) key (xs ++ l ∷ ys) ≡ m ∷ ms)
          → (m : KeyedLoad) × (ms : List KeyedLoad) × (group_with_key (suc q) key (x ∷ (xs ++ l ∷ ys)) ≡ m ∷ ms)
      by true k again = (x, group_with_key (suc q) key (xs ++ l ∷ ys), ap (λ b. cond b (x ∷ group_with_key (suc q) key (xs ++ l ∷ ys)) (group_with_key (suc q) key (xs ++ l ∷ ys))) k)
      by false k again = (again.0, again.1, ap (λ b. cond b (x ∷ group_with_key (suc q) key (xs ++ l ∷ ys)) (group_with_key (suc q) key (xs ++ l ∷ ys))) k ∙ again.2)

  assoc : (xs : List KeyedLoad) (l : KeyedLoad) (ys : List KeyedLoad) → xs ++ l ∷ ys ≡ (xs ++ l ∷ []) ++ ys
  assoc [] l ys = refl
  assoc (x ∷ xs) l ys = ap (λ r. x ∷ r) (assoc xs l ys)

  found_from : (done left : List KeyedLoad) → loads ≡ done ++ left → Found (map (λ (l : KeyedLoad). take (suc q) l.key) left)
  found_from done [] e = tt
  found_from done (l ∷ left) e =
      let r = rows_equiv in
      let some = some_kept (begin l) done l left (r.refl (begin l)) in
      ((some.0, some.1, ap (group_with_key (suc q) (begin l)) e ∙ some.2), found_from (done ++ l ∷ []) left (e ∙ assoc done l left))

  above_openings : (ds : List Bool) → AreInByOrder ds loads → group_openings (suc q) 0 None (keys_of_loads loads) ≡ offsets 0 (groups (suc q) loads)
  above_openings ds o =
      ap (λ ls. group_openings (suc q) 0 None (keys_of_loads ls)) (sym (groups_divide_loads ds (suc q) loads o))
      ∙ parted_openings (suc q) 0 None (groups (suc q) loads) (parted_once [] (map (λ (l : KeyedLoad). take (suc q) l.key) loads) None tt (found_from [] loads refl))

-- the loads that open groups are those at which the groups begin
pub openings_are : (ds : List Bool) (p : ℕ) (loads : List KeyedLoad) → AreInByOrder ds loads
    → group_openings p 0 None (keys_of_loads loads) ≡ offsets 0 (groups p loads)
openings_are ds zero loads o = single_openings 0 None loads
openings_are ds (suc q) loads o = above_openings q loads ds o

pub as_many : (k : ℕ) (gs : List (List KeyedLoad)) → length (offsets k gs) ≡ length gs
as_many k [] = refl
as_many k (g ∷ gs) = ap suc (as_many (k + length g) gs)

offset_at : (k : ℕ) (gs : List (List KeyedLoad)) (i d : ℕ) → i < length gs → get_or (offsets k gs) i d ≡ k + length (one_after_another (take i gs))
offset_at k [] i d l = absurd (omega (arith, l))
offset_at k (g ∷ gs) zero d l = let e : k ≡ k + 0 = omega arith in e
offset_at k (g ∷ gs) (suc i) d l =
    offset_at (k + length g) gs i d (omega (arith, l))
    ∙ omega (arith, length-append g (one_after_another (take i gs)))

all_taken : (gs : List (List KeyedLoad)) → take (length gs) gs ≡ gs
all_taken [] = refl
all_taken (g ∷ gs) = ap (λ r. g ∷ r) (all_taken gs)

-- the beginnings of the groups, and then the number of loads
pub beginnings : (ds : List Bool) (p : ℕ) (loads : List KeyedLoad) → AreInByOrder ds loads → (g d : ℕ) → g ≤ length (groups p loads)
    → get_or (group_openings p 0 None (keys_of_loads loads) ++ length loads ∷ []) g d ≡ length (one_after_another (take g (groups p loads)))
beginnings ds p loads o g d l = by (split g (length (groups p loads)) l)
  where
    count : length (group_openings p 0 None (keys_of_loads loads)) ≡ length (groups p loads)
    count = ap length (openings_are ds p loads o) ∙ as_many 0 (groups p loads)

    split : (a b : ℕ) → a ≤ b → (a < b) ⊎ (a ≡ b)
    split zero zero l = inr refl
    split zero (suc b) l = inl (omega arith)
    split (suc a) zero l = absurd (omega (arith, l))
    split (suc a) (suc b) l = next (split a b (omega (arith, l)))
      where
        next : (a < b) ⊎ (a ≡ b) → (suc a < suc b) ⊎ (suc a ≡ suc b)
        next (inl k) = inl (omega (arith, k))
        next (inr e) = inr (ap suc e)

    by : (g < length (groups p loads)) ⊎ (g ≡ length (groups p loads))
        → get_or (group_openings p 0 None (keys_of_loads loads) ++ length loads ∷ []) g d ≡ length (one_after_another (take g (groups p loads)))
    by (inl k) =
        get_or_append_left (group_openings p 0 None (keys_of_loads loads)) (length loads ∷ []) d g (omega (arith, k, count))
        ∙ ap (λ os. get_or os g d) (openings_are ds p loads o)
        ∙ offset_at 0 (groups p loads) g d k
        ∙ omega arith
    by (inr e) =
        get_or_push (group_openings p 0 None (keys_of_loads loads)) (length loads) d g (omega (arith, count, e))
        ∙ ap length (sym (groups_divide_loads ds p loads o))
        ∙ ap (λ gs. length (one_after_another gs)) (sym (all_taken (groups p loads)))
        ∙ ap (λ n. length (one_after_another (take n (groups p loads)))) (sym e)
