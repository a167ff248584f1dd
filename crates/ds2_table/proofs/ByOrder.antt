-- In BY order the loads with one value of the first BY variables stand together.
use Rattle.std.proofs.Common.{◌≡◌, ℕ, zero, suc, Bool, true, false, not, ◌||◌, ◌&&◌, List, [], ◌∷◌, length, take, refl, sym, ap, ◌∙◌, subst, true≢false, arith}
use Rattle.std.specs.Prelude.{IsTrue}
use Rattle.std.specs.Cmp.{IsTotalOrder, IsEquivalence}
use Rattle.std.specs.Cmp.Lexicographic.{lists_equiv}
use Rattle.std.specs.List.{list_any}
use Rattle.std.specs.Ordering.{is_eq, is_gt, ordering_then, ordering_reverse}
use Rattle.std.specs.declared.cmp.Ordering.{Ordering}
use Rattle.std.specs.declared.cmp.Ordering.TheVariants.{Less, Equal, Greater}
use Rattle.ds2_value.specs.Order.{key_order, value_eq, same_row}
use Rattle.ds2_value.specs.ValueLaws.{key_order_total, value_equiv}
use Rattle.ds2_value.specs.declared.value.Value.{Value}
use Rattle.ds2_table.specs.LoadLaws.{AreInOrderAfter, AreInByOrder}
use Rattle.ds2_table.specs.Loads.{KeyedLoad, value_order, keys_order}

-- ---- the order of one BY variable

reverse_twice : (r : Ordering) → ordering_reverse (ordering_reverse r) ≡ r
reverse_twice Less = refl
reverse_twice Equal = refl
reverse_twice Greater = refl

reversed-Less : (r : Ordering) → ordering_reverse r ≡ Less → r ≡ Greater
reversed-Less Less h = cc
reversed-Less Equal h = cc
reversed-Less Greater h = refl

reversed-Equal : (r : Ordering) → ordering_reverse r ≡ Equal → r ≡ Equal
reversed-Equal Less h = cc
reversed-Equal Equal h = refl
reversed-Equal Greater h = cc

turned_total : (R : Value → Value → Ordering) → IsTotalOrder R → IsTotalOrder (λ x y. ordering_reverse (R x y))
turned_total R o = record {
  antisymm = λ x y. ap ordering_reverse (o.antisymm x y);
  trans = λ x y z a b.
      let zy : R z y ≡ Less = o.antisymm z y ∙ ap ordering_reverse (reversed-Less (R y z) b) in
      let yx : R y x ≡ Less = o.antisymm y x ∙ ap ordering_reverse (reversed-Less (R x y) a) in
      ap ordering_reverse (o.antisymm x z ∙ ap ordering_reverse (o.trans z y x zy yx));
  congr = λ x y z e. ap ordering_reverse (o.congr x y z (reversed-Equal (R x y) e));
}

pub order_total : (descending : Bool) → IsTotalOrder (value_order descending)
order_total false = key_order_total
order_total true = turned_total key_order key_order_total

-- equal values are equal in either direction
tied : (d : Bool) (x y : Value) → value_order d x y ≡ Equal → value_eq x y ≡ true
tied false x y h = ap is_eq h
tied true x y h = ap is_eq (reversed-Equal (key_order x y) h)

-- ---- the order of keys

-- a key has a value for each BY variable
abbrev pub Fits : List Bool → List Value → Type 0
Fits [] [] = Unit {0}
Fits [] (x ∷ xs) = ⊥
Fits (d ∷ ds) [] = ⊥
Fits (d ∷ ds) (x ∷ xs) = Fits ds xs

pub as_long : (ds : List Bool) (xs : List Value) → length xs ≡ length ds → Fits ds xs
as_long [] [] h = tt
as_long [] (x ∷ xs) h = absurd (omega (arith, h))
as_long (d ∷ ds) [] h = absurd (omega (arith, h))
as_long (d ∷ ds) (x ∷ xs) h = as_long ds xs (omega (arith, h))

-- the first p parts of a key stand before those of another one
abbrev pub IsBefore : ℕ → List Bool → List Value → List Value → Type 0
IsBefore p ds a b = keys_order (take p ds) (take p a) (take p b) ≡ Less

pub then-Less : (r o : Ordering) → r ≡ Less → ordering_then r o ≡ Less
then-Less r o h = ap (λ s. ordering_then s o) h

pub then-Equal : (r o : Ordering) → r ≡ Equal → ordering_then r o ≡ o
then-Equal r o h = ap (λ s. ordering_then s o) h

-- what is not after, or before, in two parts
pub data Stands (r : Ordering) : Type 0 where
  before : r ≡ Less → Stands r
  level : r ≡ Equal → Stands r
  after : r ≡ Greater → Stands r

pub stands : (r : Ordering) → Stands r
stands Less = before refl
stands Equal = level refl
stands Greater = after refl

pub greater_not : (r o : Ordering) → r ≡ Greater → IsTrue (not (is_gt (ordering_then r o))) → ⊥
greater_not r o e h = true≢false (sym h ∙ ap (λ s. not (is_gt (ordering_then s o))) e)

pub greater_not_less : (r o : Ordering) → r ≡ Greater → ordering_then r o ≡ Less → ⊥
greater_not_less r o e h = let k : Greater ≡ Less = sym (ap (λ s. ordering_then s o) e) ∙ h in absurd_of k
  where
    absurd_of : Greater ≡ Less → ⊥
    absurd_of k = cc

pub not_less : Equal ≡ Less → ⊥
not_less k = cc

pub level_part : (r o : Ordering) → r ≡ Equal → IsTrue (not (is_gt (ordering_then r o))) → IsTrue (not (is_gt o))
level_part r o e h = sym (ap (λ s. not (is_gt (ordering_then s o))) e) ∙ h

-- a key before another one stands before what does not stand before that one
before_on : (p : ℕ) (ds : List Bool) (a b c : List Value) → Fits ds a → Fits ds b → Fits ds c
    → IsBefore p ds a b → IsTrue (not (is_gt (keys_order ds b c))) → IsBefore p ds a c
before_on zero ds a b c f g k h l = absurd (not_less h)
before_on (suc p) [] [] [] [] f g k h l = absurd (not_less h)
before_on (suc p) [] [] [] (z ∷ zs) f g k h l = absurd k
before_on (suc p) [] [] (y ∷ ys) c f g k h l = absurd g
before_on (suc p) [] (x ∷ xs) b c f g k h l = absurd f
before_on (suc p) (d ∷ ds) [] b c f g k h l = absurd f
before_on (suc p) (d ∷ ds) (x ∷ xs) [] c f g k h l = absurd g
before_on (suc p) (d ∷ ds) (x ∷ xs) (y ∷ ys) [] f g k h l = absurd k
before_on (suc p) (d ∷ ds) (x ∷ xs) (y ∷ ys) (z ∷ zs) f g k h l =
    by (λ inner rest. before_on p ds xs ys zs f g k inner rest) (stands (value_order d x y)) (stands (value_order d y z))
  where
    total : IsTotalOrder (value_order d)
    total = order_total d

    ys-zs : Ordering
    ys-zs = keys_order ds ys zs

    by : (IsBefore p ds xs ys → IsTrue (not (is_gt (keys_order ds ys zs))) → IsBefore p ds xs zs)
        → Stands (value_order d x y) → Stands (value_order d y z) → IsBefore (suc p) (d ∷ ds) (x ∷ xs) (z ∷ zs)
    by again (before xy) (before yz) = then-Less (value_order d x z) (keys_order (take p ds) (take p xs) (take p zs)) (total.trans x y z xy yz)
    by again (before xy) (level yz) =
        let zx : value_order d z x ≡ value_order d y x = sym (total.congr y z x yz) in
        let xz : value_order d x z ≡ Less = total.antisymm x z ∙ ap ordering_reverse zx ∙ sym (total.antisymm x y) ∙ xy in
        then-Less (value_order d x z) (keys_order (take p ds) (take p xs) (take p zs)) xz
    by again (before xy) (after yz) = absurd (greater_not (value_order d y z) ys-zs yz l)
    by again (level xy) (before yz) =
        then-Less (value_order d x z) (keys_order (take p ds) (take p xs) (take p zs)) (total.congr x y z xy ∙ yz)
    by again (level xy) (level yz) =
        let inner = sym (then-Equal (value_order d x y) (keys_order (take p ds) (take p xs) (take p ys)) xy) ∙ h in
        let rest = level_part (value_order d y z) ys-zs yz l in
        then-Equal (value_order d x z) (keys_order (take p ds) (take p xs) (take p zs)) (total.congr x y z xy ∙ yz) ∙ again inner rest
    by again (level xy) (after yz) = absurd (greater_not (value_order d y z) ys-zs yz l)
    by again (after xy) q = absurd (greater_not_less (value_order d x y) (keys_order (take p ds) (take p xs) (take p ys)) xy h)

-- what does not stand before a key and differs from it in the first p parts stands after it in them
before_of : (p : ℕ) (ds : List Bool) (a b : List Value) → Fits ds a → Fits ds b → IsTrue (not (is_gt (keys_order ds a b)))
    → same_row (take p b) (take p a) ≡ false → IsBefore p ds a b
before_of zero ds a b f g h n = absurd (true≢false n)
before_of (suc p) [] [] [] f g h n = absurd (true≢false n)
before_of (suc p) [] [] (y ∷ ys) f g h n = absurd g
before_of (suc p) [] (x ∷ xs) b f g h n = absurd f
before_of (suc p) (d ∷ ds) [] b f g h n = absurd f
before_of (suc p) (d ∷ ds) (x ∷ xs) [] f g h n = absurd g
before_of (suc p) (d ∷ ds) (x ∷ xs) (y ∷ ys) f g h n = by (λ inner rest. before_of p ds xs ys f g inner rest) (stands (value_order d x y))
  where
    total : IsTotalOrder (value_order d)
    total = order_total d

    by : (IsTrue (not (is_gt (keys_order ds xs ys))) → same_row (take p ys) (take p xs) ≡ false → IsBefore p ds xs ys)
        → Stands (value_order d x y) → IsBefore (suc p) (d ∷ ds) (x ∷ xs) (y ∷ ys)
    by again (before xy) = then-Less (value_order d x y) (keys_order (take p ds) (take p xs) (take p ys)) xy
    by again (level xy) =
        let yx : value_eq y x ≡ true = tied d y x (total.antisymm y x ∙ ap ordering_reverse xy) in
        let rest : same_row (take p ys) (take p xs) ≡ false = sym (ap (λ b. b && same_row (take p ys) (take p xs)) yx) ∙ n in
        then-Equal (value_order d x y) (keys_order (take p ds) (take p xs) (take p ys)) xy ∙ again (level_part (value_order d x y) (keys_order ds xs ys) xy h) rest
    by again (after xy) = absurd (greater_not (value_order d x y) (keys_order ds xs ys) xy h)

is_Equal : (r : Ordering) → is_eq r ≡ true → r ≡ Equal
is_Equal Less k = absurd (true≢false (sym k))
is_Equal Equal k = refl
is_Equal Greater k = absurd (true≢false (sym k))

pub tied_order : (d : Bool) (x y : Value) → value_eq x y ≡ true → value_order d x y ≡ Equal
tied_order false x y h = is_Equal (key_order x y) h
tied_order true x y h = ap ordering_reverse (is_Equal (key_order x y) h)

-- what stands after a key in the first p parts differs from it in them
differs_of : (p : ℕ) (ds : List Bool) (a b : List Value) → Fits ds a → Fits ds b → IsBefore p ds a b → same_row (take p b) (take p a) ≡ false
differs_of zero ds a b f g h = absurd (not_less h)
differs_of (suc p) [] [] [] f g h = absurd (not_less h)
differs_of (suc p) [] [] (y ∷ ys) f g h = absurd g
differs_of (suc p) [] (x ∷ xs) b f g h = absurd f
differs_of (suc p) (d ∷ ds) [] b f g h = absurd f
differs_of (suc p) (d ∷ ds) (x ∷ xs) [] f g h = absurd g
differs_of (suc p) (d ∷ ds) (x ∷ xs) (y ∷ ys) f g h = by (λ inner. differs_of p ds xs ys f g inner) (value_eq y x) refl
  where
    by : (IsBefore p ds xs ys → same_row (take p ys) (take p xs) ≡ false) → (b : Bool) → value_eq y x ≡ b → value_eq y x && same_row (take p ys) (take p xs) ≡ false
    by again false e = ap (λ b. b && same_row (take p ys) (take p xs)) e
    by again true e =
        let q = value_equiv in
        let inner = sym (then-Equal (value_order d x y) (keys_order (take p ds) (take p xs) (take p ys)) (tied_order d x y (q.symm x y ∙ e))) ∙ h in
        ap (λ b. b && same_row (take p ys) (take p xs)) e ∙ again inner

-- ---- loads that stand together

-- equality of keys is an equivalence
pub rows_equiv : IsEquivalence same_row
rows_equiv = lists_equiv value_equiv

-- whether a load has this value of the first p BY variables
abbrev pub has_value : ℕ → List Value → KeyedLoad → Bool
has_value p key l = same_row (take p l.key) key

-- no load has it
abbrev pub NoneHas : ℕ → List Value → List KeyedLoad → Type 0
NoneHas p key loads = list_any (has_value p key) loads ≡ false

-- one of two statements, by a test
abbrev pub Chosen : Bool → Type 0 → Type 0 → Type 0
Chosen true A B = A
Chosen false A B = B

-- the loads that have it come first
abbrev pub ComeFirst : ℕ → List Value → List KeyedLoad → Type 0
ComeFirst p key [] = Unit {0}
ComeFirst p key (l ∷ loads) = Chosen (has_value p key l) (ComeFirst p key loads) (NoneHas p key loads)

-- behind each load those with its value come first
abbrev pub StandTogether : ℕ → List KeyedLoad → Type 0
StandTogether p [] = Unit {0}
StandTogether p (l ∷ loads) = ComeFirst p (take p l.key) loads × StandTogether p loads

-- behind a load whose key stands after a first one none has the value of the first one
none_after : (p : ℕ) (ds : List Bool) (first : List Value) (m : List Value) (loads : List KeyedLoad) → Fits ds first → Fits ds m → IsBefore p ds first m
    → AreInOrderAfter ds m loads → NoneHas p (take p first) loads
none_after p ds first m [] f g h o = refl
none_after p ds first m (l ∷ loads) f g h o =
    let fits = as_long ds l.key o.0 in
    let before_l = before_on p ds first m l.key f g fits h o.1 in
    ap (λ b. b || list_any (has_value p (take p first)) loads) (differs_of p ds first l.key f fits before_l)
    ∙ none_after p ds first l.key loads f fits before_l o.2

-- tests for equal keys give the same
same_test : (p : ℕ) (a b : List Value) → same_row a b ≡ true → (l : KeyedLoad) → has_value p a l ≡ has_value p b l
same_test p a b e l = let q = rows_equiv in q.symm (take p l.key) a ∙ q.congr a b (take p l.key) e ∙ q.symm b (take p l.key)

same_any : (p : ℕ) (a b : List Value) → same_row a b ≡ true → (loads : List KeyedLoad) → list_any (has_value p a) loads ≡ list_any (has_value p b) loads
same_any p a b e [] = refl
same_any p a b e (l ∷ loads) = λ i. same_test p a b e l i || same_any p a b e loads i

come_first_same : (p : ℕ) (a b : List Value) → same_row a b ≡ true → (loads : List KeyedLoad) → ComeFirst p a loads → ComeFirst p b loads
come_first_same p a b e [] h = tt
come_first_same p a b e (l ∷ loads) h = by (λ q. come_first_same p a b e loads q) (has_value p a l) refl h
  where
    by : (ComeFirst p a loads → ComeFirst p b loads) → (t : Bool) → has_value p a l ≡ t → Chosen t (ComeFirst p a loads) (NoneHas p a loads)
        → Chosen (has_value p b l) (ComeFirst p b loads) (NoneHas p b loads)
    by again true k q =
        let c : true ≡ has_value p b l = sym k ∙ same_test p a b e l in
        let P : Bool → Type 0 = λ t. Chosen t (ComeFirst p b loads) (NoneHas p b loads) in subst P c (again q)
    by again false k q =
        let c : false ≡ has_value p b l = sym k ∙ same_test p a b e l in
        let P : Bool → Type 0 = λ t. Chosen t (ComeFirst p b loads) (NoneHas p b loads) in subst P c (sym (same_any p a b e loads) ∙ q)

come_first : (p : ℕ) (ds : List Bool) (key : List Value) (loads : List KeyedLoad) → Fits ds key → AreInOrderAfter ds key loads → ComeFirst p (take p key) loads
come_first p ds key [] f o = tt
come_first p ds key (l ∷ loads) f o = by (come_first p ds l.key loads (as_long ds l.key o.0) o.2) (has_value p (take p key) l) refl
  where
    by : ComeFirst p (take p l.key) loads → (t : Bool) → has_value p (take p key) l ≡ t → Chosen (has_value p (take p key) l) (ComeFirst p (take p key) loads) (NoneHas p (take p key) loads)
    by again true k =
        let P : Bool → Type 0 = λ t. Chosen t (ComeFirst p (take p key) loads) (NoneHas p (take p key) loads) in
        subst P (sym k) (come_first_same p (take p l.key) (take p key) k loads again)
    by again false k =
        let fits : Fits ds l.key = as_long ds l.key o.0 in
        let P : Bool → Type 0 = λ t. Chosen t (ComeFirst p (take p key) loads) (NoneHas p (take p key) loads) in
        subst P (sym k) (none_after p ds key l.key loads f fits (before_of p ds key l.key f fits o.1 k) o.2)

together_after : (p : ℕ) (ds : List Bool) (key : List Value) (loads : List KeyedLoad) → AreInOrderAfter ds key loads → StandTogether p loads
together_after p ds key [] o = tt
together_after p ds key (l ∷ loads) o = (come_first p ds l.key loads (as_long ds l.key o.0) o.2, together_after p ds l.key loads o.2)

-- in BY order loads with one value stand together
pub stand_together : (p : ℕ) (ds : List Bool) (loads : List KeyedLoad) → AreInByOrder ds loads → StandTogether p loads
stand_together p ds [] o = tt
stand_together p ds (l ∷ loads) o = (come_first p ds l.key loads (as_long ds l.key o.0) o.1, together_after p ds l.key loads o.1)
