-- States that agree outside of a dirty set, and two runs from such states, word by word of the meaning.
use Rattle.std.proofs.Common.{◌≡◌, ℕ, zero, suc, Bool, true, false, ◌&&◌, ◌||◌, List, [], ◌∷◌, Some, None, Result, Ok, Err, refl, sym, ap, ◌∙◌, if◌then◌else◌}
use Rattle.std.specs.List.{AllByRecursion}
use Rattle.std.specs.Prelude.{pos}
use Rattle.std.proofs.lemmas.Bool.{true≢false}
use Rattle.std.proofs.lemmas.Slice.Eq.{bytes_eq-Decides}
use Rattle.ds2_base.specs.declared.place.Place.{Place}
use Rattle.ds2_value.specs.Operations.{is_true, truth_value}
use Rattle.ds2_value.specs.Progress.{Progress, with_event, with_failure, with_step, without_step}
use Rattle.ds2_value.specs.Run.{Event, Did, Tested}
use Rattle.ds2_value.specs.Value as value
use Rattle.ds2_value.specs.Value.{truth_of, is_yes, and_of, or_of, not_of}
use Rattle.ds2_value.specs.declared.fault.Fault.{Fault}
use Rattle.ds2_value.specs.declared.fault.Fault.TheVariants.{BudgetSpent}
use Rattle.ds2_value.specs.declared.truth.Truth.{Truth}
use Rattle.ds2_value.specs.declared.truth.Truth.TheVariants.{Yes, No, Unknown}
use Rattle.ds2_value.specs.declared.value.Value.{Value}
use Rattle.ds2_value.specs.declared.value.Value.TheVariants.{Int}
use Rattle.ds2_meaning.specs.declared.location.Global.{Global}
use Rattle.ds2_meaning.specs.declared.location.Global.TheVariants.{Named, First, Last, Present, Parameter}
use Rattle.ds2_meaning.specs.declared.location.Reference.{Reference}
use Rattle.ds2_meaning.specs.declared.location.Reference.TheVariants.{At, Local}
use Rattle.ds2_meaning.specs.Evaluation.{CallEnd, Answers, CallBreaks, with_one_more, then_others, then_all, then_call, result_of}
use Rattle.ds2_meaning.specs.Execution.{dropped}
use Rattle.ds2_meaning.specs.Location.{Home, is_same_home, is_same_global, Location, is_same_location, Content, Holds, held}
use Rattle.ds2_meaning.specs.ProgramTree.{UnitTree}
use Rattle.ds2_meaning.specs.RunState.{RunState, with_local, with_progress, noting, noting_failure, variable_value, store, keep_at, ExpressionEnd, Gives, Breaks, then_operand, attempt, ExpressionsEnd, GiveAll, BreakAt, StatementOutcome, Proceeds, Leaves, Continues, Returns, Faults, then_value, then_statement, then_round, step_fails, step_finding, begin_step, after_test}
use Rattle.ds2_locality.specs.Deeds.{global_at, variable_at}
use Rattle.ds2_locality.specs.KeptLocations.{seen_at}
use Rattle.ds2_locality.specs.Walk.{DirtySet, united, cleaned, all_cleaned, WalkEnd, FailsAt, GoesOn, then_walk, read_locations, WaysOut, way_on, meeting, ways_past, both_ways, by_condition}
use Rattle.ds2_locality.proofs.Frame.{location_is}

-- ---- decided conditions

-- what a condition is decided as it is
abbrev pub Fits : Truth → Value → Type 0
Fits Yes v = truth_of v ≡ Yes
Fits No v = truth_of v ≡ No
Fits Unknown v = Unit {0}

back_again : (t : Truth) → truth_of (truth_value t) ≡ t
unfolding value.truth_of
back_again Yes = refl
back_again No = refl
back_again Unknown = refl

pub fits_one : (c : Content) → c ≡ Holds (Int (pos 1)) → Fits Yes (held c)
unfolding value.truth_of
fits_one c e = ap (λ (z : Content). truth_of (held z)) e

pub fits_not : (t : Truth) (v : Value) → Fits t v → Fits (not_of t) (truth_value (not_of (truth_of v)))
fits_not Yes v h = ap (λ z. truth_of (truth_value (not_of z))) h ∙ back_again No
fits_not No v h = ap (λ z. truth_of (truth_value (not_of z))) h ∙ back_again Yes
fits_not Unknown v h = tt

and_no : (z : Truth) → and_of z No ≡ No
and_no Yes = refl
and_no No = refl
and_no Unknown = refl

or_yes : (z : Truth) → or_of z Yes ≡ Yes
or_yes Yes = refl
or_yes No = refl
or_yes Unknown = refl

pub fits_and : (t q : Truth) (a b : Value) → Fits t a → Fits q b → Fits (and_of t q) (truth_value (and_of (truth_of a) (truth_of b)))
fits_and No q a b h k = ap (λ z. truth_of (truth_value (and_of z (truth_of b)))) h ∙ back_again No
fits_and Unknown No a b h k = ap (λ z. truth_of (truth_value (and_of (truth_of a) z))) k ∙ ap (λ z. truth_of (truth_value z)) (and_no (truth_of a)) ∙ back_again No
fits_and Unknown Yes a b h k = tt
fits_and Unknown Unknown a b h k = tt
fits_and Yes Yes a b h k = ap (λ z. truth_of (truth_value (and_of z (truth_of b)))) h ∙ ap (λ z. truth_of (truth_value z)) k ∙ back_again Yes
fits_and Yes No a b h k = ap (λ z. truth_of (truth_value (and_of z (truth_of b)))) h ∙ ap (λ z. truth_of (truth_value z)) k ∙ back_again No
fits_and Yes Unknown a b h k = tt

pub fits_or : (t q : Truth) (a b : Value) → Fits t a → Fits q b → Fits (or_of t q) (truth_value (or_of (truth_of a) (truth_of b)))
fits_or Yes q a b h k = ap (λ z. truth_of (truth_value (or_of z (truth_of b)))) h ∙ back_again Yes
fits_or Unknown Yes a b h k = ap (λ z. truth_of (truth_value (or_of (truth_of a) z))) k ∙ ap (λ z. truth_of (truth_value z)) (or_yes (truth_of a)) ∙ back_again Yes
fits_or Unknown No a b h k = tt
fits_or Unknown Unknown a b h k = tt
fits_or No Yes a b h k = ap (λ z. truth_of (truth_value (or_of z (truth_of b)))) h ∙ ap (λ z. truth_of (truth_value z)) k ∙ back_again Yes
fits_or No No a b h k = ap (λ z. truth_of (truth_value (or_of z (truth_of b)))) h ∙ ap (λ z. truth_of (truth_value z)) k ∙ back_again No
fits_or No Unknown a b h k = tt

-- ---- sets

-- what is clean in the one is clean in the other
abbrev pub Below : DirtySet → DirtySet → Type 0
Below y d = (at : Location) → d at ≡ false → y at ≡ false

pub left_clean : (a b : Bool) → (a || b) ≡ false → a ≡ false
left_clean true b e = e
left_clean false b e = refl

pub right_clean : (a b : Bool) → (a || b) ≡ false → b ≡ false
right_clean true b e = absurd (true≢false e)
right_clean false b e = e

pub both_clean : (a b : Bool) → a ≡ false → b ≡ false → (a || b) ≡ false
both_clean true b e f = e
both_clean false b e f = f

clean_by : (b c : Bool) → c ≡ false → (if b then false else c) ≡ false
clean_by true c e = refl
clean_by false c e = e

pub cleaned_below : (at : Location) (d : DirtySet) → Below (cleaned at d) d
cleaned_below at d other e = clean_by (is_same_location other at) (d other) e

pub all_cleaned_below : (ats : List Location) (d : DirtySet) → Below (all_cleaned ats d) d
all_cleaned_below [] d other e = e
all_cleaned_below (at ∷ ats) d other e = all_cleaned_below ats (cleaned at d) other (cleaned_below at d other e)

home_self : (h : Home) → is_same_home h h ≡ true
home_self None = refl
home_self (Some name) = (bytes_eq-Decides name name).1 refl

global_self : (g : Global) → is_same_global g g ≡ true
global_self (Named n) = (bytes_eq-Decides n n).1 refl
global_self (First n) = (bytes_eq-Decides n n).1 refl
global_self (Last n) = (bytes_eq-Decides n n).1 refl
global_self (Present n) = (bytes_eq-Decides n n).1 refl
global_self (Parameter n) = (bytes_eq-Decides n n).1 refl

pub location_self : (at : Location) → is_same_location at at ≡ true
location_self at = ap (λ b. b && is_same_global at.global at.global) (home_self at.home) ∙ global_self at.global

-- ---- two states

-- a location is no known flag
abbrev pub Free : (Location → Bool) → Location → Type 0
Free known at = (k : Location) → known k ≡ true → is_same_location k at ≡ false

-- a location is seen as that of a variable
abbrev pub IsValueAt : UnitTree → Location → Type 0
IsValueAt p at = (c : Content) → seen_at p at c ≡ Holds (held c)

module _ (p : UnitTree) (known : Location → Bool) where
  -- two states have all in common but what stands at dirty locations, and known flags are 1 in them
  pub record Near (d : DirtySet) (w u : RunState) : Type 0 where
    pub progress : w.progress ≡ u.progress
    pub locals : w.locals ≡ u.locals
    pub alike : (at : Location) → d at ≡ false → seen_at p at (w.storage at) ≡ seen_at p at (u.storage at)
    pub ones : (at : Location) → known at ≡ true → seen_at p at (w.storage at) ≡ Holds (Int (pos 1))

  pub near_below : (y d : DirtySet) (w u : RunState) → Below y d → Near y w u → Near d w u
  near_below y d w u b n = record { progress = n.progress; locals = n.locals; alike = λ at e. n.alike at (b at e); ones = n.ones }

  pub near_progress : (d : DirtySet) (w u : RunState) (a b : Progress) → Near d w u → a ≡ b → Near d (with_progress a w) (with_progress b u)
  near_progress d w u a b n e = record { progress = e; locals = n.locals; alike = n.alike; ones = n.ones }

  pub near_noting : (d : DirtySet) (w u : RunState) (e : Event) → Near d w u → Near d (noting e w) (noting e u)
  near_noting d w u e n = near_progress d w u (with_event e w.progress) (with_event e u.progress) n (ap (with_event e) n.progress)

  ones_by : (b : Bool) (k : Location) (c : Content) (w : RunState) → b ≡ false → seen_at p k (w.storage k) ≡ Holds (Int (pos 1)) → seen_at p k (if b then c else w.storage k) ≡ Holds (Int (pos 1))
  ones_by true k c w e h = absurd (true≢false e)
  ones_by false k c w e h = h

  seen_moved : (other at : Location) (c z : Content) → is_same_location other at ≡ true → seen_at p at c ≡ seen_at p at z → seen_at p other c ≡ seen_at p other z
  seen_moved other at c z e h =
      let is = location_is other at e in ap (λ (l : Location). seen_at p l c) is ∙ h ∙ ap (λ (l : Location). seen_at p l z) (sym is)

  cleaned_by : (b : Bool) (other at : Location) (c z : Content) (f : Bool) (w u : RunState) → is_same_location other at ≡ b → (if b then false else f) ≡ false → seen_at p at c ≡ seen_at p at z
      → (f ≡ false → seen_at p other (w.storage other) ≡ seen_at p other (u.storage other)) → seen_at p other (if b then c else w.storage other) ≡ seen_at p other (if b then z else u.storage other)
  cleaned_by true other at c z f w u e g h k = seen_moved other at c z e h
  cleaned_by false other at c z f w u e g h k = k g

  -- what is set alike is clean
  pub near_cleaned : (at : Location) (c z : Content) (d : DirtySet) (w u : RunState) → Free known at → seen_at p at c ≡ seen_at p at z → Near d w u
      → Near (cleaned at d) (keep_at at c w) (keep_at at z u)
  near_cleaned at c z d w u free h n = record {
    progress = n.progress;
    locals = n.locals;
    alike = λ other e. cleaned_by (is_same_location other at) other at c z (d other) w u refl e h (n.alike other);
    ones = λ k e. ones_by (is_same_location k at) k c w (free k e) (n.ones k e);
  }

  kept_by : (b : Bool) (other at : Location) (c z : Content) (w u : RunState) → is_same_location other at ≡ b → (b ≡ true → seen_at p at c ≡ seen_at p at z)
      → seen_at p other (w.storage other) ≡ seen_at p other (u.storage other) → seen_at p other (if b then c else w.storage other) ≡ seen_at p other (if b then z else u.storage other)
  kept_by true other at c z w u e h k = seen_moved other at c z e (h refl)
  kept_by false other at c z w u e h k = k

  -- what is set alike, where it is clean, leaves the dirty set as it is
  pub near_kept : (at : Location) (c z : Content) (d : DirtySet) (w u : RunState) → Free known at → (d at ≡ false → seen_at p at c ≡ seen_at p at z) → Near d w u
      → Near d (keep_at at c w) (keep_at at z u)
  near_kept at c z d w u free h n = record {
    progress = n.progress;
    locals = n.locals;
    alike = λ other e. kept_by (is_same_location other at) other at c z w u refl (λ same. h (ap d (sym (location_is other at same)) ∙ e)) (n.alike other e);
    ones = λ k e. ones_by (is_same_location k at) k c w (free k e) (n.ones k e);
  }

  -- a variable gets one value in both
  pub near_store : (home : Home) (r : Reference) (v : Value) (d : DirtySet) (w u : RunState) → AllByRecursion (Free known) (variable_at home r) → Near d w u
      → Near (all_cleaned (variable_at home r) d) (store home r v w) (store home r v u)
  near_store home (At g) v d w u free n = near_cleaned (global_at home g) (Holds v) (Holds v) d w u free.0 refl n
  near_store home (Local name) v d w u free n = record { progress = n.progress; locals = ap (with_local name v) n.locals; alike = n.alike; ones = n.ones }

  pub near_stored : (home : Home) (r : Reference) (v : Value) (d : DirtySet) (w u : RunState) → AllByRecursion (Free known) (variable_at home r) → Near d w u
      → Near d (store home r v w) (store home r v u)
  near_stored home r v d w u free n =
      near_below (all_cleaned (variable_at home r) d) d (store home r v w) (store home r v u) (all_cleaned_below (variable_at home r) d) (near_store home r v d w u free n)

  -- a clean variable has one value
  pub near_value : (home : Home) (r : Reference) (d : DirtySet) (w u : RunState) → AllByRecursion (IsValueAt p) (variable_at home r) → AllByRecursion (λ at. d at ≡ false) (variable_at home r)
      → Near d w u → variable_value home r w ≡ variable_value home r u
  near_value home (At g) d w u is clean n =
      let at = global_at home g in ap held (sym (is.0 (w.storage at)) ∙ n.alike at clean.0 ∙ is.0 (u.storage at))
  near_value home (Local name) d w u is clean n = ap (λ (locals : List ℕ → Value). locals name) n.locals

  -- ---- two ends

  pub data SameExpression (x : DirtySet) (t : Truth) : ExpressionEnd → ExpressionEnd → Type 0 where
    give : (v : Value) (w u : RunState) → Near x w u → Fits t v → SameExpression x t (Gives v w) (Gives v u)
    break : (f : Fault) (w u : RunState) → w.progress ≡ u.progress → SameExpression x t (Breaks f w) (Breaks f u)

  abbrev pub ExpressionAt : WalkEnd DirtySet → Truth → ExpressionEnd → ExpressionEnd → Type 0
  ExpressionAt (FailsAt at place) t a b = Unit {0}
  ExpressionAt (GoesOn x) t a b = SameExpression x t a b

  pub data SameExpressions (x : DirtySet) : ExpressionsEnd → ExpressionsEnd → Type 0 where
    give_all : (vs : List Value) (w u : RunState) → Near x w u → SameExpressions x (GiveAll vs w) (GiveAll vs u)
    break_all : (f : Fault) (w u : RunState) → w.progress ≡ u.progress → SameExpressions x (BreakAt f w) (BreakAt f u)

  abbrev pub ExpressionsAt : WalkEnd DirtySet → ExpressionsEnd → ExpressionsEnd → Type 0
  ExpressionsAt (FailsAt at place) a b = Unit {0}
  ExpressionsAt (GoesOn x) a b = SameExpressions x a b

  pub data SameCall (x : DirtySet) : CallEnd → CallEnd → Type 0 where
    answer : (v : Value) (vs : List Value) (w u : RunState) → Near x w u → SameCall x (Answers v vs w) (Answers v vs u)
    break_call : (f : Fault) (w u : RunState) → w.progress ≡ u.progress → SameCall x (CallBreaks f w) (CallBreaks f u)

  abbrev pub CallAt : WalkEnd DirtySet → CallEnd → CallEnd → Type 0
  CallAt (FailsAt at place) a b = Unit {0}
  CallAt (GoesOn x) a b = SameCall x a b

  pub data SameStatement (x : WaysOut) : StatementOutcome → StatementOutcome → Type 0 where
    proceed : (w u : RunState) → Near x.onward w u → SameStatement x (Proceeds w) (Proceeds u)
    leave : (w u : RunState) → Near x.leaves w u → SameStatement x (Leaves w) (Leaves u)
    continue' : (w u : RunState) → Near x.continues w u → SameStatement x (Continues w) (Continues u)
    return' : (v : Value) (w u : RunState) → Near x.returns w u → SameStatement x (Returns v w) (Returns v u)
    fault : (f : Fault) (w u : RunState) → w.progress ≡ u.progress → SameStatement x (Faults f w) (Faults f u)

  abbrev pub StatementAt : WalkEnd WaysOut → StatementOutcome → StatementOutcome → Type 0
  StatementAt (FailsAt at place) a b = Unit {0}
  StatementAt (GoesOn x) a b = SameStatement x a b

  -- ---- words of expressions

  pub breaks_at : (o : WalkEnd DirtySet) (t : Truth) (f : Fault) (w u : RunState) → w.progress ≡ u.progress → ExpressionAt o t (Breaks f w) (Breaks f u)
  breaks_at (FailsAt at place) t f w u e = tt
  breaks_at (GoesOn x) t f w u e = break f w u e

  -- reads of clean locations change nothing, and a read of a dirty one ends the claim
  reads_by : (A : Type 0) (b : Bool) (place : Place) (at : Location) (more : List Location) (d : DirtySet) (go : DirtySet → WalkEnd A) (P : WalkEnd A → Type 0)
      → ((x : Location) (q : Place) → P (FailsAt x q)) → (b ≡ false → P (then_walk (read_locations place more d) go))
      → P (then_walk (then_walk (if b then FailsAt at place else GoesOn d) (read_locations place more)) go)
  reads_by A true place at more d go P fails h = fails at place
  reads_by A false place at more d go P fails h = h refl

  pub reads_then : (A : Type 0) (place : Place) (ats : List Location) (d : DirtySet) (go : DirtySet → WalkEnd A) (P : WalkEnd A → Type 0) → ((x : Location) (q : Place) → P (FailsAt x q))
      → (AllByRecursion (λ at. d at ≡ false) ats → P (go d)) → P (then_walk (read_locations place ats d) go)
  reads_then A place [] d go P fails h = h tt
  reads_then A place (at ∷ more) d go P fails h =
      reads_by A (d at) place at more d go P fails (λ e. reads_then A place more d go P fails (λ clean. h (e, clean)))

  alone_by : (b : Bool) (place : Place) (at : Location) (more : List Location) (d : DirtySet) (P : WalkEnd DirtySet → Type 0) → ((x : Location) (q : Place) → P (FailsAt x q))
      → (b ≡ false → P (read_locations place more d)) → P (then_walk (if b then FailsAt at place else GoesOn d) (read_locations place more))
  alone_by true place at more d P fails h = fails at place
  alone_by false place at more d P fails h = h refl

  pub reads_alone : (place : Place) (ats : List Location) (d : DirtySet) (P : WalkEnd DirtySet → Type 0) → ((x : Location) (q : Place) → P (FailsAt x q))
      → (AllByRecursion (λ at. d at ≡ false) ats → P (GoesOn d)) → P (read_locations place ats d)
  reads_alone place [] d P fails h = h tt
  reads_alone place (at ∷ more) d P fails h = alone_by (d at) place at more d P fails (λ e. reads_alone place more d P fails (λ clean. h (e, clean)))

  pub attempt_same : (d : DirtySet) (t : Truth) (r : Result Value Fault) (w u : RunState) → ((v : Value) → r ≡ Ok v → Fits t v) → Near d w u → SameExpression d t (attempt r w) (attempt r u)
  attempt_same d t (Ok v) w u h n = give v (noting Did w) (noting Did u) (near_noting d w u Did n) (h v refl)
  attempt_same d t (Err f) w u h n = break f (noting_failure w) (noting_failure u) (ap with_failure n.progress)

  pub operand_some : (x : DirtySet) (t q : Truth) (a b : ExpressionEnd) (o : WalkEnd DirtySet) (f g : Value → RunState → ExpressionEnd) → SameExpression x t a b
      → ((v : Value) (w u : RunState) → Near x w u → Fits t v → ExpressionAt o q (f v w) (g v u)) → ExpressionAt o q (then_operand a f) (then_operand b g)
  operand_some x t q _ _ o f g (give v w u n h) k = k v w u n h
  operand_some x t q _ _ o f g (break e w u h) k = breaks_at o q e w u h

  pub operand_same : (o : WalkEnd DirtySet) (t q : Truth) (a b : ExpressionEnd) (go : DirtySet → WalkEnd DirtySet) (f g : Value → RunState → ExpressionEnd) → ExpressionAt o t a b
      → ((x : DirtySet) (v : Value) (w u : RunState) → Near x w u → Fits t v → ExpressionAt (go x) q (f v w) (g v u)) → ExpressionAt (then_walk o go) q (then_operand a f) (then_operand b g)
  operand_same (FailsAt at place) t q a b go f g h k = tt
  operand_same (GoesOn x) t q a b go f g h k = operand_some x t q a b (go x) f g h (k x)

  -- an operand, and then what walks nothing
  pub alone_same : (o : WalkEnd DirtySet) (t q : Truth) (a b : ExpressionEnd) (f g : Value → RunState → ExpressionEnd) → ExpressionAt o t a b
      → ((x : DirtySet) (v : Value) (w u : RunState) → Near x w u → Fits t v → SameExpression x q (f v w) (g v u)) → ExpressionAt o q (then_operand a f) (then_operand b g)
  alone_same (FailsAt at place) t q a b f g h k = tt
  alone_same (GoesOn x) t q a b f g h k = operand_some x t q a b (GoesOn x) f g h (k x)

  one_more_some : (x : DirtySet) (v : Value) (a b : ExpressionsEnd) → SameExpressions x a b → SameExpressions x (with_one_more v a) (with_one_more v b)
  one_more_some x v _ _ (give_all vs w u n) = give_all (v ∷ vs) w u n
  one_more_some x v _ _ (break_all f w u e) = break_all f w u e

  pub one_more_same : (o : WalkEnd DirtySet) (v : Value) (a b : ExpressionsEnd) → ExpressionsAt o a b → ExpressionsAt o (with_one_more v a) (with_one_more v b)
  one_more_same (FailsAt at place) v a b h = tt
  one_more_same (GoesOn x) v a b h = one_more_some x v a b h

  all_break_at : (o : WalkEnd DirtySet) (f : Fault) (w u : RunState) → w.progress ≡ u.progress → ExpressionsAt o (BreakAt f w) (BreakAt f u)
  all_break_at (FailsAt at place) f w u e = tt
  all_break_at (GoesOn x) f w u e = break_all f w u e

  others_some : (x : DirtySet) (t : Truth) (a b : ExpressionEnd) (o : WalkEnd DirtySet) (f g : RunState → ExpressionsEnd) → SameExpression x t a b
      → ((w u : RunState) → Near x w u → ExpressionsAt o (f w) (g u)) → ExpressionsAt o (then_others a f) (then_others b g)
  others_some x t _ _ o f g (give v w u n h) k = one_more_same o v (f w) (g u) (k w u n)
  others_some x t _ _ o f g (break e w u h) k = all_break_at o e w u h

  pub others_same : (o : WalkEnd DirtySet) (t : Truth) (a b : ExpressionEnd) (go : DirtySet → WalkEnd DirtySet) (f g : RunState → ExpressionsEnd) → ExpressionAt o t a b
      → ((x : DirtySet) (w u : RunState) → Near x w u → ExpressionsAt (go x) (f w) (g u)) → ExpressionsAt (then_walk o go) (then_others a f) (then_others b g)
  others_same (FailsAt at place) t a b go f g h k = tt
  others_same (GoesOn x) t a b go f g h k = others_some x t a b (go x) f g h (k x)

  all_some : (x : DirtySet) (q : Truth) (a b : ExpressionsEnd) (f g : List Value → RunState → ExpressionEnd) → SameExpressions x a b
      → ((vs : List Value) (w u : RunState) → Near x w u → SameExpression x q (f vs w) (g vs u)) → SameExpression x q (then_all a f) (then_all b g)
  all_some x q _ _ f g (give_all vs w u n) k = k vs w u n
  all_some x q _ _ f g (break_all e w u h) k = break e w u h

  pub all_same : (o : WalkEnd DirtySet) (q : Truth) (a b : ExpressionsEnd) (f g : List Value → RunState → ExpressionEnd) → ExpressionsAt o a b
      → ((x : DirtySet) (vs : List Value) (w u : RunState) → Near x w u → SameExpression x q (f vs w) (g vs u)) → ExpressionAt o q (then_all a f) (then_all b g)
  all_same (FailsAt at place) q a b f g h k = tt
  all_same (GoesOn x) q a b f g h k = all_some x q a b f g h (k x)

  -- ---- words of calls

  call_breaks_at : (o : WalkEnd DirtySet) (f : Fault) (w u : RunState) → w.progress ≡ u.progress → CallAt o (CallBreaks f w) (CallBreaks f u)
  call_breaks_at (FailsAt at place) f w u e = tt
  call_breaks_at (GoesOn x) f w u e = break_call f w u e

  then_call_some : (x : DirtySet) (a b : ExpressionsEnd) (o : WalkEnd DirtySet) (f g : List Value → RunState → CallEnd) → SameExpressions x a b
      → ((vs : List Value) (w u : RunState) → Near x w u → CallAt o (f vs w) (g vs u)) → CallAt o (then_call a f) (then_call b g)
  then_call_some x _ _ o f g (give_all vs w u n) k = k vs w u n
  then_call_some x _ _ o f g (break_all e w u h) k = call_breaks_at o e w u h

  pub then_call_same : (o : WalkEnd DirtySet) (a b : ExpressionsEnd) (go : DirtySet → WalkEnd DirtySet) (f g : List Value → RunState → CallEnd) → ExpressionsAt o a b
      → ((x : DirtySet) (vs : List Value) (w u : RunState) → Near x w u → CallAt (go x) (f vs w) (g vs u)) → CallAt (then_walk o go) (then_call a f) (then_call b g)
  then_call_same (FailsAt at place) a b go f g h k = tt
  then_call_same (GoesOn x) a b go f g h k = then_call_some x a b (go x) f g h (k x)

  result_some : (x : DirtySet) (a b : CallEnd) → SameCall x a b → SameExpression x Unknown (result_of a) (result_of b)
  result_some x _ _ (answer v vs w u n) = give v w u n tt
  result_some x _ _ (break_call f w u e) = break f w u e

  pub result_same : (o : WalkEnd DirtySet) (a b : CallEnd) → CallAt o a b → ExpressionAt o Unknown (result_of a) (result_of b)
  result_same (FailsAt at place) a b h = tt
  result_same (GoesOn x) a b h = result_some x a b h

  dropped_some : (x : DirtySet) (a b : CallEnd) → SameCall x a b → SameStatement (way_on x) (dropped a) (dropped b)
  dropped_some x _ _ (answer v vs w u n) = proceed w u n
  dropped_some x _ _ (break_call f w u e) = fault f w u e

  pub dropped_same : (o : WalkEnd DirtySet) (a b : CallEnd) → CallAt o a b → StatementAt (then_walk o (λ x. GoesOn (way_on x))) (dropped a) (dropped b)
  dropped_same (FailsAt at place) a b h = tt
  dropped_same (GoesOn x) a b h = dropped_some x a b h

  -- ---- words of statements

  pub faults_at : (o : WalkEnd WaysOut) (f : Fault) (w u : RunState) → w.progress ≡ u.progress → StatementAt o (Faults f w) (Faults f u)
  faults_at (FailsAt at place) f w u e = tt
  faults_at (GoesOn x) f w u e = fault f w u e

  pub value_some : (x : DirtySet) (t : Truth) (a b : ExpressionEnd) (o : WalkEnd WaysOut) (f g : Value → RunState → StatementOutcome) → SameExpression x t a b
      → ((v : Value) (w u : RunState) → Near x w u → Fits t v → StatementAt o (f v w) (g v u)) → StatementAt o (then_value a f) (then_value b g)
  value_some x t _ _ o f g (give v w u n h) k = k v w u n h
  value_some x t _ _ o f g (break e w u h) k = faults_at o e w u h

  pub value_same : (o : WalkEnd DirtySet) (t : Truth) (a b : ExpressionEnd) (go : DirtySet → WalkEnd WaysOut) (f g : Value → RunState → StatementOutcome) → ExpressionAt o t a b
      → ((x : DirtySet) (v : Value) (w u : RunState) → Near x w u → Fits t v → StatementAt (go x) (f v w) (g v u)) → StatementAt (then_walk o go) (then_value a f) (then_value b g)
  value_same (FailsAt at place) t a b go f g h k = tt
  value_same (GoesOn x) t a b go f g h k = value_some x t a b (go x) f g h (k x)

  finding_same : (n m : ℕ) (place : Place) (d : DirtySet) (w u : RunState) (o : WalkEnd WaysOut) (f g : RunState → StatementOutcome) → n ≡ m → Near d w u
      → ((w u : RunState) → Near d w u → StatementAt o (f w) (g u)) → StatementAt o (step_finding n place w f) (step_finding m place u g)
  finding_same zero zero place d w u o f g e h k =
      faults_at o BudgetSpent (with_progress (without_step place w.progress) w) (with_progress (without_step place u.progress) u) (ap (without_step place) h.progress)
  finding_same zero (suc m) place d w u o f g e h k = absurd cc
  finding_same (suc n) zero place d w u o f g e h k = absurd cc
  finding_same (suc i) (suc j) place d w u o f g e h k =
      let same : i ≡ j = cc in
      k (with_progress (with_step place i w.progress) w) (with_progress (with_step place j u.progress) u)
      (near_progress d w u (with_step place i w.progress) (with_step place j u.progress) h (ap (λ n. with_step place n w.progress) same ∙ ap (with_step place j) h.progress))

  pub begun_same : (place : Place) (d : DirtySet) (w u : RunState) (o : WalkEnd WaysOut) (f g : RunState → StatementOutcome) → Near d w u
      → ((w u : RunState) → Near d w u → StatementAt o (f w) (g u)) → StatementAt o (begin_step place w f) (begin_step place u g)
  begun_same place d w u o f g n k = finding_same w.progress.left u.progress.left place d w u o f g (ap (λ (q : Progress). q.left) n.progress) n k

  pub step_fails_same : (place : Place) (d : DirtySet) (w u : RunState) (o : WalkEnd WaysOut) → Near d w u → StatementAt o (step_fails place w) (step_fails place u)
  step_fails_same place d w u o n =
      faults_at o BudgetSpent (with_progress (without_step place w.progress) w) (with_progress (without_step place u.progress) u) (ap (without_step place) n.progress)

  pub test_any : (b : Bool) (d : DirtySet) (w u : RunState) (o : WalkEnd WaysOut) (f g h k : RunState → StatementOutcome) → Near d w u
      → ((w u : RunState) → Near d w u → StatementAt o (f w) (h u)) → ((w u : RunState) → Near d w u → StatementAt o (g w) (k u)) → StatementAt o (after_test b w f g) (after_test b u h k)
  test_any true d w u o f g h k n on off = on (noting (Tested true) w) (noting (Tested true) u) (near_noting d w u (Tested true) n)
  test_any false d w u o f g h k n on off = off (noting (Tested false) w) (noting (Tested false) u) (near_noting d w u (Tested false) n)

  -- wider ways
  ways_left : (x y : WaysOut) (a b : StatementOutcome) → SameStatement x a b → SameStatement (meeting x y) a b
  ways_left x y _ _ (proceed w u n) = proceed w u (near_below x.onward (united x.onward y.onward) w u (λ at e. left_clean (x.onward at) (y.onward at) e) n)
  ways_left x y _ _ (leave w u n) = leave w u (near_below x.leaves (united x.leaves y.leaves) w u (λ at e. left_clean (x.leaves at) (y.leaves at) e) n)
  ways_left x y _ _ (continue' w u n) = continue' w u (near_below x.continues (united x.continues y.continues) w u (λ at e. left_clean (x.continues at) (y.continues at) e) n)
  ways_left x y _ _ (return' v w u n) = return' v w u (near_below x.returns (united x.returns y.returns) w u (λ at e. left_clean (x.returns at) (y.returns at) e) n)
  ways_left x y _ _ (fault f w u e) = fault f w u e

  ways_right : (x y : WaysOut) (a b : StatementOutcome) → SameStatement y a b → SameStatement (meeting x y) a b
  ways_right x y _ _ (proceed w u n) = proceed w u (near_below y.onward (united x.onward y.onward) w u (λ at e. right_clean (x.onward at) (y.onward at) e) n)
  ways_right x y _ _ (leave w u n) = leave w u (near_below y.leaves (united x.leaves y.leaves) w u (λ at e. right_clean (x.leaves at) (y.leaves at) e) n)
  ways_right x y _ _ (continue' w u n) = continue' w u (near_below y.continues (united x.continues y.continues) w u (λ at e. right_clean (x.continues at) (y.continues at) e) n)
  ways_right x y _ _ (return' v w u n) = return' v w u (near_below y.returns (united x.returns y.returns) w u (λ at e. right_clean (x.returns at) (y.returns at) e) n)
  ways_right x y _ _ (fault f w u e) = fault f w u e

  pub both_left : (o q : WalkEnd WaysOut) (a b : StatementOutcome) → StatementAt o a b → StatementAt (both_ways o q) a b
  both_left (FailsAt at place) q a b h = tt
  both_left (GoesOn x) (FailsAt at place) a b h = tt
  both_left (GoesOn x) (GoesOn y) a b h = ways_left x y a b h

  pub both_right : (o q : WalkEnd WaysOut) (a b : StatementOutcome) → StatementAt q a b → StatementAt (both_ways o q) a b
  both_right (FailsAt at place) q a b h = tt
  both_right (GoesOn x) (FailsAt at place) a b h = tt
  both_right (GoesOn x) (GoesOn y) a b h = ways_right x y a b h

  pub yes_same : (b : Bool) (d : DirtySet) (w u : RunState) (o : WalkEnd WaysOut) (f g h k : RunState → StatementOutcome) → b ≡ true → Near d w u
      → ((w u : RunState) → Near d w u → StatementAt o (f w) (h u)) → StatementAt o (after_test b w f g) (after_test b u h k)
  yes_same true d w u o f g h k e n on = on (noting (Tested true) w) (noting (Tested true) u) (near_noting d w u (Tested true) n)
  yes_same false d w u o f g h k e n on = absurd (true≢false (sym e))

  pub no_same : (b : Bool) (d : DirtySet) (w u : RunState) (o : WalkEnd WaysOut) (f g h k : RunState → StatementOutcome) → b ≡ false → Near d w u
      → ((w u : RunState) → Near d w u → StatementAt o (g w) (k u)) → StatementAt o (after_test b w f g) (after_test b u h k)
  no_same true d w u o f g h k e n off = absurd (true≢false e)
  no_same false d w u o f g h k e n off = off (noting (Tested false) w) (noting (Tested false) u) (near_noting d w u (Tested false) n)

  -- a condition, by what it is decided as
  pub condition_same : (t : Truth) (v : Value) (d : DirtySet) (w u : RunState) (o q : WalkEnd WaysOut) (f g h k : RunState → StatementOutcome) → Fits t v → Near d w u
      → ((w u : RunState) → Near d w u → StatementAt o (f w) (h u)) → ((w u : RunState) → Near d w u → StatementAt q (g w) (k u))
      → StatementAt (by_condition t o q) (after_test (is_true v) w f g) (after_test (is_true v) u h k)
  condition_same Yes v d w u o q f g h k e n on off = yes_same (is_true v) d w u o f g h k (ap is_yes e) n on
  condition_same No v d w u o q f g h k e n on off = no_same (is_true v) d w u q f g h k (ap is_yes e) n off
  condition_same Unknown v d w u o q f g h k e n on off =
      test_any (is_true v) d w u (both_ways o q) f g h k n (λ w u m. both_left o q (f w) (h u) (on w u m)) (λ w u m. both_right o q (g w) (k u) (off w u m))

  -- a statement, and then those that follow
  then_some : (x y : WaysOut) (a b : StatementOutcome) (f g : RunState → StatementOutcome) → SameStatement x a b → ((w u : RunState) → Near x.onward w u → SameStatement y (f w) (g u))
      → SameStatement (ways_past x y) (then_statement a f) (then_statement b g)
  then_some x y _ _ f g (proceed w u n) k = past (f w) (g u) (k w u n)
    where
      past : (a b : StatementOutcome) → SameStatement y a b → SameStatement (ways_past x y) a b
      past _ _ (proceed w u n) = proceed w u n
      past _ _ (leave w u n) = leave w u (near_below y.leaves (united x.leaves y.leaves) w u (λ at e. right_clean (x.leaves at) (y.leaves at) e) n)
      past _ _ (continue' w u n) = continue' w u (near_below y.continues (united x.continues y.continues) w u (λ at e. right_clean (x.continues at) (y.continues at) e) n)
      past _ _ (return' v w u n) = return' v w u (near_below y.returns (united x.returns y.returns) w u (λ at e. right_clean (x.returns at) (y.returns at) e) n)
      past _ _ (fault f w u e) = fault f w u e
  then_some x y _ _ f g (leave w u n) k = leave w u (near_below x.leaves (united x.leaves y.leaves) w u (λ at e. left_clean (x.leaves at) (y.leaves at) e) n)
  then_some x y _ _ f g (continue' w u n) k = continue' w u (near_below x.continues (united x.continues y.continues) w u (λ at e. left_clean (x.continues at) (y.continues at) e) n)
  then_some x y _ _ f g (return' v w u n) k = return' v w u (near_below x.returns (united x.returns y.returns) w u (λ at e. left_clean (x.returns at) (y.returns at) e) n)
  then_some x y _ _ f g (fault q w u e) k = fault q w u e

  then_at : (x : WaysOut) (o : WalkEnd WaysOut) (a b : StatementOutcome) (f g : RunState → StatementOutcome) → SameStatement x a b → ((w u : RunState) → Near x.onward w u → StatementAt o (f w) (g u))
      → StatementAt (then_walk o (λ y. GoesOn (ways_past x y))) (then_statement a f) (then_statement b g)
  then_at x (FailsAt at place) a b f g h k = tt
  then_at x (GoesOn y) a b f g h k = then_some x y a b f g h k

  pub then_same : (o : WalkEnd WaysOut) (a b : StatementOutcome) (go : DirtySet → WalkEnd WaysOut) (f g : RunState → StatementOutcome) → StatementAt o a b
      → ((d : DirtySet) (w u : RunState) → Near d w u → StatementAt (go d) (f w) (g u))
      → StatementAt (then_walk o (λ x. then_walk (go x.onward) (λ y. GoesOn (ways_past x y)))) (then_statement a f) (then_statement b g)
  then_same (FailsAt at place) a b go f g h k = tt
  then_same (GoesOn x) a b go f g h k = then_at x (go x.onward) a b f g h (k x.onward)

  -- the body of a loop, and then its next round
  pub round_some : (x : WaysOut) (o : WalkEnd WaysOut) (a b : StatementOutcome) (f g : RunState → StatementOutcome) → SameStatement x a b
      → ((w u : RunState) → Near x.onward w u → StatementAt o (f w) (g u)) → ((w u : RunState) → Near x.leaves w u → StatementAt o (Proceeds w) (Proceeds u))
      → ((w u : RunState) → Near x.continues w u → StatementAt o (f w) (g u)) → ((v : Value) (w u : RunState) → Near x.returns w u → StatementAt o (Returns v w) (Returns v u))
      → StatementAt o (then_round a f) (then_round b g)
  round_some x o _ _ f g (proceed w u n) k l m r = k w u n
  round_some x o _ _ f g (leave w u n) k l m r = l w u n
  round_some x o _ _ f g (continue' w u n) k l m r = m w u n
  round_some x o _ _ f g (return' v w u n) k l m r = r v w u n
  round_some x o _ _ f g (fault q w u e) k l m r = faults_at o q w u e
