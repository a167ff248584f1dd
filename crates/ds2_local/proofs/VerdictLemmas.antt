-- The verdict by what the rules find.
use Rattle.std.proofs.Common.{◌≡◌, ℕ, ◌+◌, false, true≢false, List, [], ◌∷◌, length, Option, Some, None, refl, sym, ap, ◌∙◌}
use Rattle.ds2_base.specs.declared.place.Place.{Place}
use Rattle.ds2_value.specs.declared.fault.TheConstants.{CALL_DEPTH}
use Rattle.std.specs.Prelude.{◌==◌}
use Rattle.ds2_meaning.specs.declared.methods.SystemMethod.{SystemMethod}
use Rattle.ds2_meaning.specs.declared.statements.Statement.{Statement}
use Rattle.ds2_meaning.specs.ProgramTree.{UnitTree}
use Rattle.ds2_meaning.specs.Reading.{bys_of}
use Rattle.ds2_meaning.specs.View.{system_tree, typed_statements}
use Rattle.ds2_locality.specs.declared.locality.Reason.TheVariants.{TermHasStatements, InitWrites}
use Rattle.ds2_locality.specs.declared.locality.Verdict.{Verdict}
use Rattle.ds2_locality.specs.declared.locality.Verdict.TheVariants.{NotLocal}
use Rattle.ds2_locality.specs.Deeds.{body_deeds, init_deeds, system_scope}
use Rattle.ds2_locality.specs.Verdict.{JudgedThread, Ground, at_finest, first_ground, first_write, ground_at, ground_of_init, ground_of_term, unless_grounded, verdict_of}
use Rattle.ds2_deeds.specs.declared.deed.NumberedDeed.{NumberedDeed}
use Rattle.ds2_deeds.specs.CodeTrees.{nameless_tree}
use Rattle.ds2_deeds.specs.NumberedCalls.{with_called}
use Rattle.ds2_deeds.specs.NumberedDeeds.{numbers_of, numbered_deeds}
use Rattle.ds2_local.specs.declared.judged.JudgedBodies.{JudgedBodies}
use Rattle.ds2_local.specs.JudgedBodies.{HoldsJudged}
use Rattle.ds2_local.specs.JudgedTrees.{place_of_system}
use Rattle.ds2_local.specs.Verdicts.{ground_of_place, first_write_numbered}
use Rattle.ds2_local.proofs.DepthLemmas.{held_callees}
use Rattle.ds2_local.proofs.WriteLemmas.{write_numbered}

-- a system method that has statements
pub with_statements : (m : SystemMethod) → (length m.body == 0) ≡ false
    → ground_of_place TermHasStatements (Some m.place) ≡ ground_of_term (place_of_system (Some m)) (system_tree (Some m)).statements
with_statements m e = by_body m.body e
  where
    by_body : (body : List Statement) → (length body == 0) ≡ false → ground_of_place TermHasStatements (Some m.place) ≡ ground_of_term m.place (typed_statements body)
    by_body [] f = absurd (true≢false f)
    by_body (s ∷ ss) f = refl

module _ (t : JudgedThread) (b : JudgedBodies) (holds : HoldsJudged t b) where
  term_held : ground_of_term t.term_place t.program.term.statements ≡ ground_of_term (place_of_system b.program.now.term) (system_tree b.program.now.term).statements
  term_held =
      ap (λ (p : UnitTree). ground_of_term t.term_place p.term.statements) holds.numbered.tree
      ∙ ap (λ place. ground_of_term place (system_tree b.program.now.term).statements) holds.numbered.term_place

  -- by the rule on `term`
  pub by_term : (o : Option Place) (place : Place) → o ≡ Some place → ground_of_place TermHasStatements o ≡ ground_of_term (place_of_system b.program.now.term) (system_tree b.program.now.term).statements
      → NotLocal TermHasStatements place ≡ verdict_of t
  by_term o place e is =
      ap (λ x. unless_grounded (first_ground (ground_of_place TermHasStatements x) (ground_of_init (first_write (init_deeds t.program)))) (at_finest (ground_at t) (length (bys_of t.program.reading)))) (sym e)
      ∙ ap (λ g. unless_grounded (first_ground g (ground_of_init (first_write (init_deeds t.program)))) (at_finest (ground_at t) (length (bys_of t.program.reading)))) (is ∙ sym term_held)

  -- past it
  past_term : (o : Option Place) (g : Option Ground) → o ≡ None → ground_of_place TermHasStatements o ≡ ground_of_term (place_of_system b.program.now.term) (system_tree b.program.now.term).statements
      → ground_of_init (first_write (init_deeds t.program)) ≡ g → unless_grounded g (at_finest (ground_at t) (length (bys_of t.program.reading))) ≡ verdict_of t
  past_term o g e is f =
      ap (λ x. unless_grounded x (at_finest (ground_at t) (length (bys_of t.program.reading)))) (sym f)
      ∙ ap (λ x. unless_grounded (first_ground (ground_of_place TermHasStatements x) (ground_of_init (first_write (init_deeds t.program)))) (at_finest (ground_at t) (length (bys_of t.program.reading)))) (sym e)
      ∙ ap (λ x. unless_grounded (first_ground x (ground_of_init (first_write (init_deeds t.program)))) (at_finest (ground_at t) (length (bys_of t.program.reading)))) (is ∙ sym term_held)

  -- by the rule on `init`
  pub by_init : (o p : Option Place) (place : Place) → o ≡ None → ground_of_place TermHasStatements o ≡ ground_of_term (place_of_system b.program.now.term) (system_tree b.program.now.term).statements
      → p ≡ Some place → p ≡ first_write (init_deeds t.program) → NotLocal InitWrites place ≡ verdict_of t
  by_init o p place e is f g = past_term o (ground_of_init (Some place)) e is (ap (λ x. ground_of_init x) (sym g ∙ f))

  -- by those on walks
  pub by_walks : (o p : Option Place) (v : Verdict) → o ≡ None → ground_of_place TermHasStatements o ≡ ground_of_term (place_of_system b.program.now.term) (system_tree b.program.now.term).statements
      → p ≡ None → p ≡ first_write (init_deeds t.program) → v ≡ at_finest (ground_at t) (length (bys_of t.program.reading)) → v ≡ verdict_of t
  by_walks o p v e is f g h = h ∙ past_term o None e is (ap (λ x. ground_of_init x) (sym g ∙ f))

  -- the earliest place at which `init` writes
  pub init_writes : (own all : List NumberedDeed) (found : Option Place) → own ≡ numbered_deeds (numbers_of b.numbers) (body_deeds (system_scope (nameless_tree b.program.now)) (nameless_tree b.program.now).init.statements)
      → all ≡ with_called b.deeds.now (length b.deeds.now + CALL_DEPTH) own → found ≡ first_write_numbered all → found ≡ first_write (init_deeds t.program)
  init_writes own all found e f g =
      g
      ∙ ap (λ l. first_write_numbered l)
      (f ∙ held_callees t b holds own (body_deeds (system_scope t.program) t.program.init.statements)
      (e ∙ ap (λ (p : UnitTree). numbered_deeds (numbers_of b.numbers) (body_deeds (system_scope p) p.init.statements)) (sym holds.numbered.tree)))
      ∙ write_numbered (numbers_of b.numbers) (init_deeds t.program)
