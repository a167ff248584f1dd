-- Walks past statements whose ways part and meet.
use Rattle.std.proofs.Common.{◌≡◌, Bool, true, false, List, [], ◌∷◌, Option, Some, None, Result, Ok, Err, refl, sym, ap, ◌∙◌}
use Rattle.std.specs.Prelude.{IfOk}
use Rattle.ds2_base.specs.declared.place.Place.{Place}
use Rattle.ds2_value.specs.declared.truth.Truth.{Truth}
use Rattle.ds2_value.specs.declared.truth.Truth.TheVariants.{Yes, No, Unknown}
use Rattle.ds2_meaning.specs.declared.location.Reference.{Reference}
use Rattle.ds2_meaning.specs.declared.location.Global.{Global}
use Rattle.ds2_meaning.specs.declared.location.Global.TheVariants.{Named, First, Last, Present, Parameter}
use Rattle.ds2_meaning.specs.declared.readings.ByVariable.{ByVariable}
use Rattle.ds2_meaning.specs.Location.{Home}
use Rattle.ds2_meaning.specs.TypedExpression.{TypedExpression, TypedExpressions}
use Rattle.ds2_meaning.specs.TypedStatement.{TypedStatement, TypedStatements, TypedWhens, When, Count, While, Until}
use Rattle.ds2_meaning.specs.View.{if_tree}
use Rattle.ds2_locality.specs.Deeds.{variable_at}
use Rattle.ds2_locality.specs.KeptLocations.{is_first_of_by}
use Rattle.ds2_locality.specs.Walk.{DirtySet, nothing_dirty, no_flag, WalkEnd, GoesOn, then_walk, CallWalks, WaysOut, no_way, past_loop, decided, TestsEnd, past_test, WalkScope, all_cleaned, walk_expression, walk_step, walk_tests, walk, walk_all, walk_whens}
use Rattle.ds2_deeds.specs.ElseParts.{ElsePart}
use Rattle.ds2_deeds.specs.NamedLocations.{code_home}
use Rattle.ds2_recorded_walk.specs.declared.branches.WalkedBranches.{WalkedBranches}
use Rattle.ds2_recorded_walk.specs.declared.record.LoopWays.{LoopWays}
use Rattle.ds2_recorded_walk.specs.declared.record.RecordedWalk.{RecordedWalk}
use Rattle.ds2_recorded_walk.specs.declared.walk_scope.RecordScope.{RecordScope}
use Rattle.ds2_recorded_walk.specs.ElseWalks.{else_walk}
use Rattle.ds2_recorded_walk.specs.KnownFlags.{first_flags}
use Rattle.ds2_recorded_walk.specs.LocationBits.{either_on, set_of_bits}
use Rattle.ds2_recorded_walk.specs.RecordedParts.{branch_walk, BranchWalked, ArmsLeft, RestWalked, told_parted, walked_to_parting, TestsRecorded, WhensLeft, whens_rest, count_head, loop_by, LoopWalked, UntilWalked}
use Rattle.ds2_recorded_walk.specs.RecordedStatements.{walk_scope, locations_of, TellsCalls, GoesOnBy, GoesPastBy, met, rest_walk, chain_rest}
use Rattle.ds2_recorded_walk.specs.RecordedWalks.{of_those, Telling, told, walked_on, walked_past}
use Rattle.ds2_recorded_walk.proofs.BranchLemmas.{told_met, met_nothing, unknown_branch, part_walked}
use Rattle.ds2_recorded_walk.proofs.GoesLemmas.{goes_then_past, passes_here}
use Rattle.ds2_recorded_walk.proofs.LoopLemmas.{told_left, told_continued, told_returned, told_ended, told_loop, head_loop, test_loop, told_until}
use Rattle.ds2_recorded_walk.proofs.TestsLemmas.{held_parting, begun_parting, parting_walked, parting_ended, parting_open, parting_held}
use Rattle.ds2_recorded_walk.proofs.WalkLemmas.{then_after, then_same, passed_then}

-- ---- results

pub if_ok : {T E : Type 0} {P Q : T → Type 0} (r : Result T E) → IfOk r P → ((x : T) → P x → Q x) → IfOk r Q
if_ok (Ok x) h f = f x h
if_ok (Err e) h f = h

-- ---- no known flags

no_first : (home : Home) (global : Global) → is_first_of_by [] home global ≡ false
no_first None (Named name) = refl
no_first None (First name) = refl
no_first None (Last name) = refl
no_first None (Present name) = refl
no_first None (Parameter name) = refl
no_first (Some instance) global = refl

pub no_flags : first_flags [] ≡ no_flag
no_flags = λ i at. no_first at.home at.global i

-- ---- an `if`

if_walks : (w : WalkScope) (place : Place) (condition : TypedExpression) (on : TypedStatement) (rest : ElsePart)
    → walk w (if_tree place condition on rest) ≡ (λ d. then_walk (walk_expression w condition place d) (branch_walk w (decided w.known w.code.home condition) on rest))
if_walks w place condition on None = refl
if_walks w place condition on (Some off) = refl

four_parts : (e : WalkEnd DirtySet) (f g : DirtySet → WalkEnd DirtySet) (clean : DirtySet → DirtySet) (go : DirtySet → WalkEnd WaysOut)
    → then_walk (then_walk e (λ x. then_walk (f x) (λ y. then_walk (g y) (λ z. GoesOn (clean z))))) go ≡ then_walk e (λ x. then_walk (f x) (λ y. then_walk (g y) (λ z. go (clean z))))
four_parts e f g clean go =
    then_after e (λ x. then_walk (f x) (λ y. then_walk (g y) (λ z. GoesOn (clean z)))) go
    ∙ then_same e (λ x. then_walk (then_walk (f x) (λ y. then_walk (g y) (λ z. GoesOn (clean z)))) go) (λ x. then_walk (f x) (λ y. then_walk (g y) (λ z. go (clean z))))
    (λ x. then_after (f x) (λ y. then_walk (g y) (λ z. GoesOn (clean z))) go
    ∙ then_same (f x) (λ y. then_walk (then_walk (g y) (λ z. GoesOn (clean z))) go) (λ y. then_walk (g y) (λ z. go (clean z))) (λ y. then_after (g y) (λ z. GoesOn (clean z)) go))

-- a counted loop is its head, and then its rounds
counted : (w : WalkScope) (place : Place) (variable : Reference) (start end : TypedExpression) (step : Option TypedExpression) (body : TypedStatements)
    → (λ d. then_walk (count_head place variable start end step w d) (λ h. then_walk (walk_all w body h) (λ ways. GoesOn (past_loop h ways)))) ≡ walk w (Count place variable start end step body)
counted w place variable start end step body =
    λ i d. four_parts (walk_expression w start place d) (walk_expression w end place) (walk_step w step place) (all_cleaned (variable_at w.code.home variable)) (λ h. then_walk (walk_all w body h) (λ ways. GoesOn (past_loop h ways))) i

-- where tests have been walked so far that these are left of those, with what is dirty where one of them holds
pub record TestsLeft (s : RecordScope) (before after : RecordedWalk) (held : List Bool) (left whole : WalkScope → DirtySet → WalkEnd TestsEnd) : Type 0 where
  pub by : (calls : CallWalks) → TellsCalls s calls
      → held_parting (locations_of s) held (left (walk_scope s calls)) (told (locations_of s) after) ≡ walked_to_parting (whole (walk_scope s calls)) (told (locations_of s) before)

-- ---- loops

-- the ways out of the loop around are set aside while its body is walked
apart : (a x : RecordedWalk) (none : LoopWays) → none ≡ record { leaves = []; continues = [] } → x ≡ record a { leaves = none.leaves; continues = none.continues } → x ≡ record a { leaves = []; continues = [] }
apart a x none none_is is = is ∙ ap (λ (n : LoopWays). record a { leaves = n.leaves; continues = n.continues }) none_is

-- and stand again behind it
again : (a v y : RecordedWalk) (around : LoopWays) → around ≡ record { leaves = a.leaves; continues = a.continues } → y ≡ record v { leaves = around.leaves; continues = around.continues }
    → y ≡ record v { leaves = a.leaves; continues = a.continues }
again a v y around around_is is = is ∙ ap (λ (w : LoopWays). record v { leaves = w.leaves; continues = w.continues }) around_is

-- ---- tests

-- what a test and those that follow it do
abbrev pub test_then : List ByVariable → TypedExpression → Place → (WalkScope → DirtySet → WalkEnd TestsEnd) → WalkScope → DirtySet → WalkEnd TestsEnd
test_then known test place go w d = then_walk (walk_expression w test place d) (λ x. past_test (decided (first_flags known) w.code.home test) x (go w))

module _ (s : RecordScope) where
  -- ---- out of a statement

  pub leaves_loop : (a b : RecordedWalk) → b ≡ record a { onward = []; leaves = either_on a.leaves a.onward } → GoesPastBy s a b (λ w d. GoesOn (record no_way { leaves = d }))
  leaves_loop a b is = record { by = λ calls tells. ap (λ w. told (locations_of s) w) is ∙ told_left (locations_of s) a }

  pub goes_to_next_round : (a b : RecordedWalk) → b ≡ record a { onward = []; continues = either_on a.continues a.onward } → GoesPastBy s a b (λ w d. GoesOn (record no_way { continues = d }))
  goes_to_next_round a b is = record { by = λ calls tells. ap (λ w. told (locations_of s) w) is ∙ told_continued (locations_of s) a }

  pub returns_from : (a b : RecordedWalk) → b ≡ record a { onward = []; returns = either_on a.returns a.onward } → GoesPastBy s a b (λ w d. GoesOn (record no_way { returns = d }))
  returns_from a b is = record { by = λ calls tells. ap (λ w. told (locations_of s) w) is ∙ told_returned (locations_of s) a }

  pub goes_no_way : (a b : RecordedWalk) → b ≡ record a { onward = [] } → GoesPastBy s a b (λ w d. GoesOn no_way)
  goes_no_way a b is = record { by = λ calls tells. ap (λ w. told (locations_of s) w) is ∙ told_ended (locations_of s) a }

  -- ---- branches

  pub branch_taken : {a b : RecordedWalk} (old : WalkedBranches) (truth : Truth) (on : TypedStatement) → truth ≡ Yes → GoesPastBy s a b (λ w. walk w on) → BranchWalked s a b old (record old { is_decided = true }) truth on
  branch_taken {a} {b} old truth on e p = record {
    by = λ rest calls tells undecided.
        let w = walk_scope s calls in
        let ls = locations_of s in
        ap (λ t. met (set_of_bits ls old.ends) t) (p.by calls tells ∙ ap (λ x. walked_past (branch_walk w x on rest) (told ls a)) (sym e));
  }

  pub branch_left : (a : RecordedWalk) (old : WalkedBranches) (truth : Truth) (on : TypedStatement) → truth ≡ No → BranchWalked s a a old old truth on
  branch_left a old truth on e = record {
    by = λ rest calls tells undecided.
        let w = walk_scope s calls in
        let ls = locations_of s in
        ap (λ d. chain_rest w ls old.ends d rest (told ls a)) undecided ∙ ap (λ x. met (set_of_bits ls old.ends) (walked_past (branch_walk w x on rest) (told ls a))) (sym e);
  }

  pub branch_open : {a v : RecordedWalk} (b : RecordedWalk) (old : WalkedBranches) (before end ends : List Bool) (truth : Truth) (on : TypedStatement) → truth ≡ Unknown → GoesPastBy s a v (λ w. walk w on)
      → before ≡ a.onward → end ≡ v.onward → b ≡ record v { onward = before } → ends ≡ either_on old.ends end → BranchWalked s a b old (record old { ends = ends }) truth on
  branch_open {a} {v} b old before end ends truth on e p before_is end_is b_is ends_is = record {
    by = λ rest calls tells undecided.
        let w = walk_scope s calls in
        let ls = locations_of s in
        ap (λ d. chain_rest w ls ends d rest (told ls b)) undecided
        ∙ ap (λ x. met (set_of_bits ls x) (walked_past (else_walk w rest) (told ls b))) (ends_is ∙ ap (either_on old.ends) end_is)
        ∙ ap (λ x. met (set_of_bits ls (either_on old.ends v.onward)) (walked_past (else_walk w rest) (told ls x))) (b_is ∙ ap (λ x. record v { onward = x }) before_is)
        ∙ unknown_branch ls w on rest a v old.ends (p.by calls tells)
        ∙ ap (λ x. met (set_of_bits ls old.ends) (walked_past (branch_walk w x on rest) (told ls a))) (sym e);
  }

  -- ---- chains

  pub arms_decided : (a : RecordedWalk) (b : WalkedBranches) (left whole : ElsePart) → b.is_decided ≡ true → ArmsLeft s a a b b left whole
  arms_decided a b left whole e = record {
    by = λ calls tells.
        let w = walk_scope s calls in
        let ls = locations_of s in
        ap (λ d. chain_rest w ls b.ends d left (told ls a)) e ∙ sym (ap (λ d. chain_rest w ls b.ends d whole (told ls a)) e);
  }

  pub arm_walked : {a b c : RecordedWalk} {old new : WalkedBranches} (place : Place) (condition : TypedExpression) (truth : Truth) (on : TypedStatement) (rest whole : ElsePart) → whole ≡ Some (if_tree place condition on rest)
      → old.is_decided ≡ false → GoesOnBy s a b (λ w. walk_expression w condition place) → truth ≡ decided (first_flags s.known.now) (code_home s.body.home) condition → BranchWalked s b c old new truth on
      → ArmsLeft s a c old new rest whole
  arm_walked {a} {b} {c} {old} {new} place condition truth on rest whole is undecided p e q = record {
    by = λ calls tells.
        let w = walk_scope s calls in
        let ls = locations_of s in
        let ends = set_of_bits ls old.ends in
        q.by rest calls tells undecided
        ∙ ap (λ t. met ends (walked_past (branch_walk w truth on rest) t)) (p.by calls tells)
        ∙ ap (λ t. met ends t) (sym (passed_then (walk_expression w condition place) (branch_walk w truth on rest) (told ls a)))
        ∙ ap (λ x. met ends (walked_past (λ d. then_walk (walk_expression w condition place d) (branch_walk w x on rest)) (told ls a))) e
        ∙ ap (λ f. met ends (walked_past f (told ls a))) (sym (if_walks w place condition on rest))
        ∙ ap (λ o. chain_rest w ls old.ends false o (told ls a)) (sym is)
        ∙ ap (λ d. chain_rest w ls old.ends d whole (told ls a)) (sym undecided);
  }

  pub arms_whole : (a : RecordedWalk) (b : WalkedBranches) (left : ElsePart) → ArmsLeft s a a b b left left
  arms_whole a b left = record { by = λ calls tells. refl }

  -- the first one of `else if` parts
  pub arm_gone : {X : Type 0} {a b c : RecordedWalk} {x y z : WalkedBranches} {whole : ElsePart} (of : List X → ElsePart) (items rest : List X) (item : X) → items ≡ item ∷ rest
      → ArmsLeft s a b x y (of items) whole → ArmsLeft s b c y z (of rest) (of (item ∷ rest)) → ArmsLeft s a c x z (of rest) whole
  arm_gone {X} {a} {b} {c} {x} {y} of items rest item is p q = record {
    by = λ calls tells.
        let w = walk_scope s calls in
        let ls = locations_of s in
        q.by calls tells ∙ ap (λ l. chain_rest w ls y.ends y.is_decided (of l) (told ls b)) (sym is) ∙ p.by calls tells;
  }

  -- past the last one
  pub no_arm_left : {X : Type 0} {a b : RecordedWalk} {x y : WalkedBranches} {whole : ElsePart} (of : List X → ElsePart) (items : List X) → items ≡ [] → ArmsLeft s a b x y (of items) whole → ArmsLeft s a b x y (of []) whole
  no_arm_left {X} {a} {b} {x} {y} of items is p = record {
    by = λ calls tells.
        let w = walk_scope s calls in
        let ls = locations_of s in
        ap (λ l. chain_rest w ls y.ends y.is_decided (of l) (told ls b)) (sym is) ∙ p.by calls tells;
  }

  pub rest_decided : (a : RecordedWalk) (d : Bool) (rest : ElsePart) → d ≡ true → RestWalked s a a d rest
  rest_decided a d rest e = record { by = λ calls tells. sym (ap (λ x. rest_walk (walk_scope s calls) x rest (told (locations_of s) a)) e) }

  pub rest_walked : {a b : RecordedWalk} (d : Bool) (rest : ElsePart) → d ≡ false → GoesPastBy s a b (λ w. else_walk w rest) → RestWalked s a b d rest
  rest_walked {a} d rest e p = record { by = λ calls tells. p.by calls tells ∙ sym (ap (λ x. rest_walk (walk_scope s calls) x rest (told (locations_of s) a)) e) }

  -- an `if`: its condition, its first part, the others and the last one, and then its ways meet
  pub if_walked : {a b c d r : RecordedWalk} {old x y : WalkedBranches} (f : RecordedWalk) (place : Place) (condition : TypedExpression) (truth : Truth) (on : TypedStatement) (chain last : ElsePart)
      → GoesOnBy s a b (λ w. walk_expression w condition place) → truth ≡ decided (first_flags s.known.now) (code_home s.body.home) condition
      → old.ends ≡ [] → old.is_decided ≡ false → BranchWalked s b c old x truth on → ArmsLeft s c d x y last chain → RestWalked s d r y.is_decided last
      → f ≡ record r { onward = either_on r.onward y.ends } → GoesPastBy s a f (λ w. walk w (if_tree place condition on chain))
  if_walked {a} {b} {c} {d} {r} {old} {x} {y} f place condition truth on chain last tested e none undecided branch arms rest is = record {
    by = λ calls tells.
        let w = walk_scope s calls in
        let ls = locations_of s in
        ap (λ z. told ls z) is ∙ told_met ls r y.ends
        ∙ ap (λ t. met (set_of_bits ls y.ends) t) (rest.by calls tells)
        ∙ arms.by calls tells ∙ branch.by chain calls tells undecided
        ∙ ap (λ z. met (set_of_bits ls z) (walked_past (branch_walk w truth on chain) (told ls b))) none
        ∙ met_nothing ls (walked_past (branch_walk w truth on chain) (told ls b))
        ∙ ap (λ t. walked_past (branch_walk w truth on chain) t) (tested.by calls tells)
        ∙ sym (passed_then (walk_expression w condition place) (branch_walk w truth on chain) (told ls a))
        ∙ ap (λ z. walked_past (λ d. then_walk (walk_expression w condition place d) (branch_walk w z on chain)) (told ls a)) e
        ∙ ap (λ g. walked_past g (told ls a)) (sym (if_walks w place condition on chain));
  }

  -- ---- tests

  pub tests_begun : (a : RecordedWalk) (held : List Bool) (f : WalkScope → DirtySet → WalkEnd TestsEnd) → held ≡ [] → TestsLeft s a a held f f
  tests_begun a held f none = record { by = λ calls tells. ap (λ h. held_parting (locations_of s) h (f (walk_scope s calls)) (told (locations_of s) a)) none ∙ begun_parting (locations_of s) (f (walk_scope s calls)) (told (locations_of s) a) }

  -- a test has been walked
  test_walked : {a b c : RecordedWalk} {held : List Bool} {whole : WalkScope → DirtySet → WalkEnd TestsEnd} (test : WalkScope → DirtySet → WalkEnd DirtySet) (go : WalkScope → DirtySet → WalkEnd TestsEnd)
      → TestsLeft s a b held (λ w d. then_walk (test w d) (go w)) whole → GoesOnBy s b c test → TestsLeft s a c held go whole
  test_walked {a} {b} {c} {held} test go p q = record {
    by = λ calls tells.
        let w = walk_scope s calls in
        let ls = locations_of s in
        ap (λ t. held_parting ls held (go w) t) (q.by calls tells) ∙ sym (parting_walked ls held (test w) (go w) (told ls b)) ∙ p.by calls tells;
  }

  pub tests_here : {a b : RecordedWalk} {held : List Bool} {f g whole : WalkScope → DirtySet → WalkEnd TestsEnd} → ((calls : CallWalks) → f (walk_scope s calls) ≡ g (walk_scope s calls))
      → TestsLeft s a b held f whole → TestsLeft s a b held g whole
  tests_here {a} {b} {held} same p = record { by = λ calls tells. ap (λ go. held_parting (locations_of s) held go (told (locations_of s) b)) (sym (same calls)) ∙ p.by calls tells }

  module _ (known : List ByVariable) (test : TypedExpression) (place : Place) (go : WalkScope → DirtySet → WalkEnd TestsEnd) where
    -- a test that never holds
    pub test_fails : {a b c : RecordedWalk} {held : List Bool} {whole : WalkScope → DirtySet → WalkEnd TestsEnd} (same : List Bool) → decided (first_flags known) (code_home s.body.home) test ≡ No
        → TestsLeft s a b held (test_then known test place go) whole → GoesOnBy s b c (λ w. walk_expression w test place) → same ≡ held → TestsLeft s a c same go whole
    test_fails {a} {b} {c} {held} {whole} same e p q is = record {
      by = λ calls tells.
          let past : TestsLeft s a c held go whole =
          tests_here (λ calls. ap (λ t. λ x. past_test t x (go (walk_scope s calls))) e)
          (test_walked (λ w. walk_expression w test place) (λ w x. past_test (decided (first_flags known) w.code.home test) x (go w)) p q) in
          ap (λ h. held_parting (locations_of s) h (go (walk_scope s calls)) (told (locations_of s) c)) is ∙ past.by calls tells;
    }

    -- a test that may hold
    pub test_may_hold : {a b c : RecordedWalk} {held : List Bool} {whole : WalkScope → DirtySet → WalkEnd TestsEnd} (grown : List Bool) → decided (first_flags known) (code_home s.body.home) test ≡ Unknown
        → TestsLeft s a b held (test_then known test place go) whole → GoesOnBy s b c (λ w. walk_expression w test place) → grown ≡ either_on held c.onward → TestsLeft s a c grown go whole
    test_may_hold {a} {b} {c} {held} {whole} grown e p q is = record {
      by = λ calls tells.
          let w = walk_scope s calls in
          let ls = locations_of s in
          let past : TestsLeft s a c held (λ w x. past_test Unknown x (go w)) whole =
          tests_here (λ calls. ap (λ t. λ x. past_test t x (go (walk_scope s calls))) e)
          (test_walked (λ w. walk_expression w test place) (λ w x. past_test (decided (first_flags known) w.code.home test) x (go w)) p q) in
          ap (λ h. held_parting ls h (go w) (told ls c)) is ∙ sym (parting_open ls held (go w) c) ∙ past.by calls tells;
    }

    -- a test that always holds: none behind it is walked
    pub test_holds : {a b c : RecordedWalk} {held : List Bool} (tests : TypedExpressions) (m d : RecordedWalk) (none holding : List Bool)
        → decided (first_flags known) (code_home s.body.home) test ≡ Yes → TestsLeft s a b held (test_then known test place go) (λ w. walk_tests w (first_flags known) tests place) → GoesOnBy s b c (λ w. walk_expression w test place)
        → m ≡ record c { onward = either_on c.onward held } → none ≡ [] → holding ≡ m.onward → d ≡ record m { onward = none } → TestsRecorded s a d holding known tests place
    test_holds {a} {b} {c} {held} tests m d none holding e p q m_is none_is out_is d_is = record {
      by = λ calls tells.
          let w = walk_scope s calls in
          let ls = locations_of s in
          let past : TestsLeft s a c held (λ w x. past_test Yes x (go w)) (λ w. walk_tests w (first_flags known) tests place) =
          tests_here (λ calls. ap (λ t. λ x. past_test t x (go (walk_scope s calls))) e)
          (test_walked (λ w. walk_expression w test place) (λ w x. past_test (decided (first_flags known) w.code.home test) x (go w)) p q) in
          let same_walk : d ≡ record c { onward = [] } = d_is ∙ ap (λ z. record m { onward = z }) none_is ∙ ap (λ (z : RecordedWalk). record z { onward = [] }) m_is in
          let same_holding : holding ≡ either_on c.onward held = out_is ∙ ap (λ (z : RecordedWalk). z.onward) m_is in
          ap (λ x. told_parted ls x holding) same_walk ∙ ap (λ h. told_parted ls (record c { onward = [] }) h) same_holding ∙ sym (parting_held ls held (go w) c) ∙ past.by calls tells;
    }

  -- past the last test
  pub tests_ended : {a b : RecordedWalk} {held : List Bool} {X : Type 0} (of : List X → WalkScope → DirtySet → WalkEnd TestsEnd) (items : List X) (known : List ByVariable) (tests : TypedExpressions) (place : Place) → items ≡ []
      → of [] ≡ (λ w d. GoesOn (record { holding = nothing_dirty; failing = d })) → TestsLeft s a b held (of items) (λ w. walk_tests w (first_flags known) tests place) → TestsRecorded s a b held known tests place
  tests_ended {a} {b} {held} of items known tests place is none p = record {
    by = λ calls tells.
        let w = walk_scope s calls in
        let ls = locations_of s in
        sym (parting_ended ls held b) ∙ ap (λ (go : WalkScope → DirtySet → WalkEnd TestsEnd). held_parting ls held (go w) (told ls b)) (sym (ap of is ∙ none)) ∙ p.by calls tells;
  }

  -- ---- the parts of a `select`

  pub when_walked : {a u x v : RecordedWalk} (b : RecordedWalk) (holding failing end old new : List Bool) (known : List ByVariable) (place : Place) (tests : TypedExpressions) (on : TypedStatement) (rest whole : TypedWhens)
      → TestsRecorded s a u holding known tests place → failing ≡ u.onward → x ≡ record u { onward = holding } → GoesPastBy s x v (λ w. walk w on) → end ≡ v.onward → b ≡ record v { onward = failing }
      → new ≡ either_on old end → whole ≡ When tests on rest → WhensLeft s a b old new known place rest whole
  when_walked {a} {u} {x} {v} b holding failing end old new known place tests on rest whole tested failing_is x_is p end_is b_is new_is is = record {
    by = λ calls tells.
        let w = walk_scope s calls in
        let ls = locations_of s in
        let later = walk_whens w (first_flags known) rest place in
        ap (λ z. met (set_of_bits ls z) (walked_past later (told ls b))) (new_is ∙ ap (either_on old) end_is)
        ∙ ap (λ z. met (set_of_bits ls (either_on old v.onward)) (walked_past later (told ls z))) (b_is ∙ ap (λ z. record v { onward = z }) failing_is)
        ∙ part_walked ls a u v holding old (walk_tests w (first_flags known) tests place) (walk w on) later (tested.by calls tells) (p.by calls tells ∙ ap (λ z. walked_past (walk w on) (told ls z)) x_is)
        ∙ ap (λ z. met (set_of_bits ls old) (walked_past (walk_whens w (first_flags known) z place) (told ls a))) (sym is);
  }

  pub whens_whole : (a : RecordedWalk) (ends : List Bool) (known : List ByVariable) (place : Place) (left : TypedWhens) → WhensLeft s a a ends ends known place left left
  whens_whole a ends known place left = record { by = λ calls tells. refl }

  -- the first one of `when` parts
  pub when_gone : {X : Type 0} {a b c : RecordedWalk} {x y z : List Bool} {known : List ByVariable} {place : Place} {whole : TypedWhens} (of : List X → TypedWhens) (items rest : List X) (item : X) → items ≡ item ∷ rest
      → WhensLeft s a b x y known place (of items) whole → WhensLeft s b c y z known place (of rest) (of (item ∷ rest)) → WhensLeft s a c x z known place (of rest) whole
  when_gone {X} {a} {b} {c} {x} {y} {z} {known} {place} of items rest item is p q = record {
    by = λ calls tells.
        let w = walk_scope s calls in
        let ls = locations_of s in
        q.by calls tells ∙ ap (λ l. whens_rest w ls y known (of l) place (told ls b)) (sym is) ∙ p.by calls tells;
  }

  -- past the last one
  pub no_when_left : {X : Type 0} {a b : RecordedWalk} {x y : List Bool} {known : List ByVariable} {place : Place} {whole : TypedWhens} (of : List X → TypedWhens) (items : List X) → items ≡ []
      → WhensLeft s a b x y known place (of items) whole → WhensLeft s a b x y known place (of []) whole
  no_when_left {X} {a} {b} {x} {y} {known} {place} of items is p = record {
    by = λ calls tells.
        let w = walk_scope s calls in
        let ls = locations_of s in
        ap (λ l. whens_rest w ls y known (of l) place (told ls b)) (sym is) ∙ p.by calls tells;
  }

  -- a `select`: its parts and the last one, and then its ways meet
  pub select_walked : {a b c : RecordedWalk} {ends : List Bool} {known : List ByVariable} {place : Place} {parts : TypedWhens} (d : RecordedWalk) (old : List Bool) (last : TypedWhens) → old ≡ [] → WhensLeft s a b old ends known place last parts
      → GoesPastBy s b c (λ w. walk_whens w (first_flags known) last place) → d ≡ record c { onward = either_on c.onward ends } → GoesPastBy s a d (λ w. walk_whens w (first_flags known) parts place)
  select_walked {a} {b} {c} {ends} {known} {place} {parts} d old last none p q is = record {
    by = λ calls tells.
        let w = walk_scope s calls in
        let ls = locations_of s in
        ap (λ z. told ls z) is ∙ told_met ls c ends ∙ ap (λ t. met (set_of_bits ls ends) t) (q.by calls tells) ∙ p.by calls tells
        ∙ ap (λ z. met (set_of_bits ls z) (walked_past (walk_whens w (first_flags known) parts place) (told ls a))) none
        ∙ met_nothing ls (walked_past (walk_whens w (first_flags known) parts place) (told ls a));
  }

  -- ---- loops

  pub loop_walked : {v : RecordedWalk} (a x y : RecordedWalk) (none around : LoopWays) (head : List Bool) (body : TypedStatements) → none ≡ record { leaves = []; continues = [] }
      → around ≡ record { leaves = a.leaves; continues = a.continues } → x ≡ record a { leaves = none.leaves; continues = none.continues } → GoesPastBy s x v (λ w. walk_all w body)
      → y ≡ record v { leaves = around.leaves; continues = around.continues } → LoopWalked s a (record y { onward = head }) head body
  loop_walked {v} a x y none around head body none_is around_is x_is p y_is = record {
    by = λ calls tells.
        let w = walk_scope s calls in
        let ls = locations_of s in
        ap (λ (z : RecordedWalk). told ls (record z { onward = head })) (again a v y around around_is y_is)
        ∙ told_loop ls w body a v head (p.by calls tells ∙ ap (λ z. walked_past (walk_all w body) (told ls z)) (apart a x none none_is x_is));
  }

  -- the way on stands at the head
  pub loop_from_head : {a b : RecordedWalk} {head : List Bool} {body : TypedStatements} → head ≡ a.onward → LoopWalked s a b head body
      → GoesPastBy s a b (λ w d. then_walk (walk_all w body d) (λ ways. GoesOn (past_loop d ways)))
  loop_from_head {a} {b} {head} {body} is p = record { by = λ calls tells. p.by calls tells ∙ head_loop (locations_of s) (walk_all (walk_scope s calls) body) a head is }

  pub count_walked : {a b c : RecordedWalk} {head : List Bool} {body : TypedStatements} (place : Place) (variable : Reference) (start end : TypedExpression) (step : Option TypedExpression)
      → GoesOnBy s a b (count_head place variable start end step) → head ≡ b.onward → LoopWalked s b c head body → GoesPastBy s a c (λ w. walk w (Count place variable start end step body))
  count_walked {a} {b} {c} {head} {body} place variable start end step p is q = passes_here s (λ calls. counted (walk_scope s calls) place variable start end step body) (goes_then_past s p (loop_from_head is q))

  pub while_walked : {a b c : RecordedWalk} {head : List Bool} {body : TypedStatements} (place : Place) (condition : TypedExpression) → head ≡ a.onward → GoesOnBy s a b (λ w. walk_expression w condition place)
      → LoopWalked s b c head body → GoesPastBy s a c (λ w. walk w (While place condition body))
  while_walked {a} {b} {c} {head} {body} place condition is p q = record {
    by = λ calls tells.
        let w = walk_scope s calls in
        let ls = locations_of s in
        q.by calls tells ∙ ap (λ (t : Telling). λ dirty. then_walk (t dirty) (loop_by w body (of_those (set_of_bits ls head) dirty))) (p.by calls tells)
        ∙ test_loop ls (walk_expression w condition place) (walk_all w body) a head is;
  }

  pub until_body_walked : {v : RecordedWalk} (a x y m : RecordedWalk) (none around inner : LoopWays) (body : TypedStatements) → none ≡ record { leaves = []; continues = [] }
      → around ≡ record { leaves = a.leaves; continues = a.continues } → x ≡ record a { leaves = none.leaves; continues = none.continues } → GoesPastBy s x v (λ w. walk_all w body)
      → inner ≡ record { leaves = v.leaves; continues = v.continues } → y ≡ record v { leaves = around.leaves; continues = around.continues }
      → m ≡ record y { onward = either_on y.onward inner.continues } → UntilWalked s a m inner.leaves body
  until_body_walked {v} a x y m none around inner body none_is around_is x_is p inner_is y_is m_is = record {
    by = λ calls tells test.
        let w = walk_scope s calls in
        let ls = locations_of s in
        let met_is : m ≡ record v { onward = either_on v.onward v.continues; leaves = a.leaves; continues = a.continues } =
        m_is ∙ ap (λ o. record y { onward = either_on y.onward o }) (ap (λ (z : LoopWays). z.continues) inner_is)
        ∙ ap (λ (z : RecordedWalk). record z { onward = either_on z.onward v.continues }) (again a v y around around_is y_is) in
        ap (λ (z : LoopWays). met (set_of_bits ls z.leaves) (walked_on test (told ls m))) inner_is
        ∙ ap (λ z. met (set_of_bits ls v.leaves) (walked_on test (told ls z))) met_is
        ∙ told_until ls a v (walk_all w body) test (p.by calls tells ∙ ap (λ z. walked_past (walk_all w body) (told ls z)) (apart a x none none_is x_is));
  }

  pub until_walked : {a m t : RecordedWalk} {left : List Bool} {body : TypedStatements} (f : RecordedWalk) (place : Place) (condition : TypedExpression) → UntilWalked s a m left body
      → GoesOnBy s m t (λ w. walk_expression w condition place) → f ≡ record t { onward = either_on t.onward left } → GoesPastBy s a f (λ w. walk w (Until place condition body))
  until_walked {a} {m} {t} {left} {body} f place condition p q f_is = record {
    by = λ calls tells.
        let w = walk_scope s calls in
        let ls = locations_of s in
        ap (λ z. told ls z) f_is ∙ told_met ls t left ∙ ap (λ z. met (set_of_bits ls left) z) (q.by calls tells) ∙ p.by calls tells (walk_expression w condition place);
  }
