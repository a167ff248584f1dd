-- The groups of loads in BY order, one after the other, are the loads.
use Rattle.std.proofs.Common.{◌≡◌, ℕ, zero, suc, Bool, true, false, not, ◌||◌, cond, List, [], ◌∷◌, ◌++◌, map, take, refl, sym, ap, ◌∙◌, true≢false}
use Rattle.std.specs.Prelude.{if◌then◌else◌, filter}
use Rattle.std.specs.List.{list_any}
use Rattle.ds2_value.specs.Order.{same_row}
use Rattle.ds2_value.specs.declared.value.Value.{Value}
use Rattle.ds2_table.specs.LoadLaws.{one_after_another, GroupsDivideLoads}
use Rattle.ds2_table.specs.Loads.{KeyedLoad, has_key, each_once, group_with_key}
use Rattle.ds2_table.proofs.ByOrder.{rows_equiv, has_value, NoneHas, Chosen, ComeFirst, StandTogether, stand_together}

or_true : (b : Bool) → b || true ≡ true
or_true true = refl
or_true false = refl

first_not : (b c : Bool) → b || c ≡ false → b ≡ false
first_not true c h = absurd (true≢false h)
first_not false c h = refl

second_not : (b c : Bool) → b || c ≡ false → c ≡ false
second_not true c h = absurd (true≢false h)
second_not false c h = h

-- equal keys are among the same keys
same_known : (keys : List (List Value)) (a b : List Value) → same_row a b ≡ true → has_key keys a ≡ has_key keys b
same_known [] a b e = refl
same_known (k ∷ keys) a b e = let q = rows_equiv in
    let first : same_row k a ≡ same_row k b = q.symm k a ∙ q.congr a b k e ∙ q.symm b k in
    λ i. first i || same_known keys a b e i

-- a key that is not among keys is none of them
unseen : (seen : List (List Value)) (k x : List Value) → has_key seen k ≡ true → has_key seen x ≡ false → same_row k x ≡ false
unseen seen k x h n = by (same_row k x) refl
  where
    by : (b : Bool) → same_row k x ≡ b → same_row k x ≡ false
    by false e = e
    by true e = absurd (true≢false (sym h ∙ same_known seen k x e ∙ n))

-- the test for loads whose value was not seen
abbrev is_new : ℕ → List (List Value) → KeyedLoad → Bool
is_new p seen l = not (has_key seen (take p l.key))

-- a load whose value was seen is in no group of a value that was not
others_same : (p : ℕ) (l : KeyedLoad) (loads : List KeyedLoad) (seen keys : List (List Value)) → has_key seen (take p l.key) ≡ true
    → map (λ key. group_with_key p key (l ∷ loads)) (each_once seen keys) ≡ map (λ key. group_with_key p key loads) (each_once seen keys)
others_same p l loads seen [] h = refl
others_same p l loads seen (x ∷ keys) h = by (others_same p l loads seen keys h) (λ known. others_same p l loads (x ∷ seen) keys known) (has_key seen x) refl
  where
    by : map (λ key. group_with_key p key (l ∷ loads)) (each_once seen keys) ≡ map (λ key. group_with_key p key loads) (each_once seen keys)
        → (has_key (x ∷ seen) (take p l.key) ≡ true
        → map (λ key. group_with_key p key (l ∷ loads)) (each_once (x ∷ seen) keys) ≡ map (λ key. group_with_key p key loads) (each_once (x ∷ seen) keys))
        → (b : Bool) → has_key seen x ≡ b
        → map (λ key. group_with_key p key (l ∷ loads)) (each_once seen (x ∷ keys)) ≡ map (λ key. group_with_key p key loads) (each_once seen (x ∷ keys))
    by same more true e =
        ap (λ b. map (λ key. group_with_key p key (l ∷ loads)) (if b then each_once seen keys else x ∷ each_once (x ∷ seen) keys)) e
        ∙ same
        ∙ sym (ap (λ b. map (λ key. group_with_key p key loads) (if b then each_once seen keys else x ∷ each_once (x ∷ seen) keys)) e)
    by same more false e =
        let known : has_key (x ∷ seen) (take p l.key) ≡ true = ap (λ b. same_row x (take p l.key) || b) h ∙ or_true (same_row x (take p l.key)) in
        let first : group_with_key p x (l ∷ loads) ≡ group_with_key p x loads =
        ap (λ b. cond b (l ∷ group_with_key p x loads) (group_with_key p x loads)) (unseen seen (take p l.key) x h e) in
        let rest = more known in
        ap (λ b. map (λ key. group_with_key p key (l ∷ loads)) (if b then each_once seen keys else x ∷ each_once (x ∷ seen) keys)) e
        ∙ (λ i. first i ∷ rest i)
        ∙ sym (ap (λ b. map (λ key. group_with_key p key loads) (if b then each_once seen keys else x ∷ each_once (x ∷ seen) keys)) e)

none_kept : (p : ℕ) (k : List Value) (loads : List KeyedLoad) → NoneHas p k loads → filter (has_value p k) loads ≡ []
none_kept p k [] h = refl
none_kept p k (m ∷ loads) h =
    ap (λ b. cond b (m ∷ filter (has_value p k) loads) (filter (has_value p k) loads)) (first_not (has_value p k m) (list_any (has_value p k) loads) h)
    ∙ none_kept p k loads (second_not (has_value p k m) (list_any (has_value p k) loads) h)

turned : (p : ℕ) (k : List Value) (m : KeyedLoad) (b : Bool) → has_value p k m ≡ b → same_row k (take p m.key) ≡ b
turned p k m b h = let q = rows_equiv in q.symm k (take p m.key) ∙ h

none_dropped : (p : ℕ) (k : List Value) (seen : List (List Value)) (loads : List KeyedLoad) → NoneHas p k loads
    → filter (is_new p (k ∷ seen)) loads ≡ filter (is_new p seen) loads
none_dropped p k seen [] h = refl
none_dropped p k seen (m ∷ loads) h =
    let other = turned p k m false (first_not (has_value p k m) (list_any (has_value p k) loads) h) in
    let rest = none_dropped p k seen loads (second_not (has_value p k m) (list_any (has_value p k) loads) h) in
    ap (λ b. cond (not (b || has_key seen (take p m.key))) (m ∷ filter (is_new p (k ∷ seen)) loads) (filter (is_new p (k ∷ seen)) loads)) other
    ∙ ap (λ r. cond (not (has_key seen (take p m.key))) (m ∷ r) r) rest

-- loads with a new value that come first, and then the other new ones, are the new ones
parted : (p : ℕ) (k : List Value) (seen : List (List Value)) (loads : List KeyedLoad) → has_key seen k ≡ false → ComeFirst p k loads
    → filter (has_value p k) loads ++ filter (is_new p (k ∷ seen)) loads ≡ filter (is_new p seen) loads
parted p k seen [] n c = refl
parted p k seen (m ∷ loads) n c = by (λ q. parted p k seen loads n q) (has_value p k m) refl c
  where
    by : (ComeFirst p k loads → filter (has_value p k) loads ++ filter (is_new p (k ∷ seen)) loads ≡ filter (is_new p seen) loads)
        → (b : Bool) → has_value p k m ≡ b → Chosen b (ComeFirst p k loads) (NoneHas p k loads)
        → filter (has_value p k) (m ∷ loads) ++ filter (is_new p (k ∷ seen)) (m ∷ loads) ≡ filter (is_new p seen) (m ∷ loads)
    by again true h q =
        let seen_not : has_key seen (take p m.key) ≡ false = same_known seen (take p m.key) k h ∙ n in
        ap (λ b. cond b (m ∷ filter (has_value p k) loads) (filter (has_value p k) loads)
        ++ cond (not (same_row k (take p m.key) || has_key seen (take p m.key))) (m ∷ filter (is_new p (k ∷ seen)) loads) (filter (is_new p (k ∷ seen)) loads)) h
        ∙ ap (λ b. (m ∷ filter (has_value p k) loads)
        ++ cond (not (b || has_key seen (take p m.key))) (m ∷ filter (is_new p (k ∷ seen)) loads) (filter (is_new p (k ∷ seen)) loads)) (turned p k m true h)
        ∙ ap (λ r. m ∷ r) (again q)
        ∙ sym (ap (λ b. cond (not b) (m ∷ filter (is_new p seen) loads) (filter (is_new p seen) loads)) seen_not)
    by again false h q =
        ap (λ b. cond b (m ∷ filter (has_value p k) loads) (filter (has_value p k) loads)
        ++ cond (not (same_row k (take p m.key) || has_key seen (take p m.key))) (m ∷ filter (is_new p (k ∷ seen)) loads) (filter (is_new p (k ∷ seen)) loads)) h
        ∙ ap (λ x. x ++ cond (not (same_row k (take p m.key) || has_key seen (take p m.key))) (m ∷ filter (is_new p (k ∷ seen)) loads) (filter (is_new p (k ∷ seen)) loads)) (none_kept p k loads q)
        ∙ ap (λ b. cond (not (b || has_key seen (take p m.key))) (m ∷ filter (is_new p (k ∷ seen)) loads) (filter (is_new p (k ∷ seen)) loads)) (turned p k m false h)
        ∙ ap (λ r. cond (not (has_key seen (take p m.key))) (m ∷ r) r) (none_dropped p k seen loads q)

-- the groups of the values that were not seen are the loads with such values
divided : (p : ℕ) (loads : List KeyedLoad) (seen : List (List Value)) → StandTogether p loads
    → one_after_another (map (λ key. group_with_key p key loads) (each_once seen (map (λ (l : KeyedLoad). take p l.key) loads))) ≡ filter (is_new p seen) loads
divided p [] seen st = refl
divided p (l ∷ loads) seen st = by (divided p loads seen st.1) (divided p loads (take p l.key ∷ seen) st.1) (has_key seen (take p l.key)) refl
  where
    by : one_after_another (map (λ key. group_with_key p key loads) (each_once seen (map (λ (m : KeyedLoad). take p m.key) loads))) ≡ filter (is_new p seen) loads
        → one_after_another (map (λ key. group_with_key p key loads) (each_once (take p l.key ∷ seen) (map (λ (m : KeyedLoad). take p m.key) loads))) ≡ filter (is_new p (take p l.key ∷ seen)) loads
        → (b : Bool) → has_key seen (take p l.key) ≡ b
        → one_after_another (map (λ key. group_with_key p key (l ∷ loads)) (each_once seen (map (λ (m : KeyedLoad). take p m.key) (l ∷ loads)))) ≡ filter (is_new p seen) (l ∷ loads)
    by same more true e =
        ap (λ b. one_after_another (map (λ key. group_with_key p key (l ∷ loads))
        (if b then each_once seen (map (λ (m : KeyedLoad). take p m.key) loads) else take p l.key ∷ each_once (take p l.key ∷ seen) (map (λ (m : KeyedLoad). take p m.key) loads)))) e
        ∙ ap one_after_another (others_same p l loads seen (map (λ (m : KeyedLoad). take p m.key) loads) e)
        ∙ same
        ∙ sym (ap (λ b. cond (not b) (l ∷ filter (is_new p seen) loads) (filter (is_new p seen) loads)) e)
    by same more false e =
        let q = rows_equiv in
        let itself = q.refl (take p l.key) in
        let known : has_key (take p l.key ∷ seen) (take p l.key) ≡ true = ap (λ b. b || has_key seen (take p l.key)) itself in
        ap (λ b. one_after_another (map (λ key. group_with_key p key (l ∷ loads))
        (if b then each_once seen (map (λ (m : KeyedLoad). take p m.key) loads) else take p l.key ∷ each_once (take p l.key ∷ seen) (map (λ (m : KeyedLoad). take p m.key) loads)))) e
        ∙ ap (λ gs. group_with_key p (take p l.key) (l ∷ loads) ++ one_after_another gs) (others_same p l loads (take p l.key ∷ seen) (map (λ (m : KeyedLoad). take p m.key) loads) known)
        ∙ ap (λ b. cond b (l ∷ group_with_key p (take p l.key) loads) (group_with_key p (take p l.key) loads)
        ++ one_after_another (map (λ key. group_with_key p key loads) (each_once (take p l.key ∷ seen) (map (λ (m : KeyedLoad). take p m.key) loads)))) itself
        ∙ ap (λ r. l ∷ (group_with_key p (take p l.key) loads ++ r)) more
        ∙ ap (λ r. l ∷ r) (parted p (take p l.key) seen loads e st.0)
        ∙ sym (ap (λ b. cond (not b) (l ∷ filter (is_new p seen) loads) (filter (is_new p seen) loads)) e)

all_new : (p : ℕ) (loads : List KeyedLoad) → filter (is_new p []) loads ≡ loads
all_new p [] = refl
all_new p (l ∷ loads) = ap (λ r. l ∷ r) (all_new p loads)

one_each : (loads : List KeyedLoad) → one_after_another (map (λ l. l ∷ []) loads) ≡ loads
one_each [] = refl
one_each (l ∷ loads) = ap (λ r. l ∷ r) (one_each loads)

pub groups_divide_loads : GroupsDivideLoads
groups_divide_loads descending zero loads o = one_each loads
groups_divide_loads descending (suc p) loads o = divided (suc p) loads [] (stand_together (suc p) descending loads o) ∙ all_new (suc p) loads
