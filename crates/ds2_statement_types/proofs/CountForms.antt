-- The parts of a counted loop, out of their pairs.
use Rattle.std.proofs.Common.{◌≡◌, ◌++◌, Option, Some, Result, refl, sym, ap, ◌∙◌, subst}
use Rattle.ds2_base.specs.declared.place.Place.{Place}
use Rattle.ds2_base.specs.declared.place.Refusal.{Refusal}
use Rattle.ds2_elaboration.specs.Typings.{TypeRefusals}
use Rattle.ds2_meaning.specs.TypedExpression.{TypedExpression}
use Rattle.ds2_meaning.specs.TypedStatement as t
use Rattle.ds2_meaning.specs.declared.location.Reference.{Reference}
use Rattle.ds2_meaning.specs.declared.refusals.TypeKind.{TypeKind}
use Rattle.ds2_types.specs.Judgements.{node_tree, IsOutcome}
use Rattle.ds2_types.specs.declared.judgement.Node.{Node}
use Rattle.ds2_types.proofs.Outcomes.{IsTree}
use Rattle.ds2_simple_statement_types.specs.BothParts.{both_parts}
use Rattle.ds2_statement_types.specs.Controls.{count_form}
use Rattle.ds2_simple_statement_types.specs.StatementOutcomes.{tree_if_any}
use Rattle.ds2_statement_types.specs.declared.counts.TypedCount.{TypedCount}
use Rattle.ds2_simple_statement_types.specs.declared.parts.Both.{Both}
use Rattle.ds2_simple_statement_types.proofs.PartOutcomes.{AreBoth, both_stand}

module _ (r : Reference) (a b : TypedExpression) (by : Option TypedExpression) where
  -- this variable
  abbrev pub IsVariable : Reference → Type 0
  IsVariable v = v ≡ r

  -- this step
  abbrev pub IsStep : Option Node → Type 0
  IsStep n = tree_if_any n ≡ by

  -- the parts, in pairs
  abbrev pub AreCounted : Both (Both (Both Reference Node) Node) (Option Node) → Type 0
  AreCounted p = AreBoth (AreBoth (AreBoth IsVariable (IsTree a)) (IsTree b)) IsStep p

  -- the parts of a counted loop stand
  pub count_stands : (vs xs ys zs : TypeRefusals) (variable : Result Reference (Refusal TypeKind)) (start stop : Result Node (Refusal TypeKind)) (step : Result (Option Node) (Refusal TypeKind))
      (one : Result (Both Reference Node) (Refusal TypeKind)) (two : Result (Both (Both Reference Node) Node) (Refusal TypeKind))
      (three : Result (Both (Both (Both Reference Node) Node) (Option Node)) (Refusal TypeKind)) → IsOutcome IsVariable vs variable → IsOutcome (IsTree a) xs start
      → IsOutcome (IsTree b) ys stop → IsOutcome IsStep zs step → one ≡ both_parts variable start → two ≡ both_parts one stop → three ≡ both_parts two step
      → IsOutcome AreCounted (vs ++ xs ++ ys ++ zs) three
  count_stands vs xs ys zs variable start stop step one two three h i j k e f g =
      both_stand (AreBoth (AreBoth IsVariable (IsTree a)) (IsTree b)) IsStep (vs ++ xs ++ ys) zs two step three
      (both_stand (AreBoth IsVariable (IsTree a)) (IsTree b) (vs ++ xs) ys one stop two (both_stand IsVariable (IsTree a) vs xs variable start one h i e) j f) k g

  -- a counted loop of parts that are these
  pub same_count : (p : Both (Both (Both Reference Node) Node) (Option Node)) (c : TypedCount)
      → c ≡ record { variable = p.first.first.first; start = p.first.first.second; stop = p.first.second; step = p.second } → AreCounted p
      → (place : Place) (body : t.TypedStatements) → count_form place c body ≡ t.Count place r a b by body
  same_count p c e h place body =
      ap (λ (x : TypedCount). count_form place x body) e
      ∙ ap (λ (v : Reference). t.Count place v (node_tree p.first.first.second) (node_tree p.first.second) (tree_if_any p.second) body) h.0.0.0
      ∙ ap (λ (x : TypedExpression). t.Count place r x (node_tree p.first.second) (tree_if_any p.second) body) h.0.0.1
      ∙ ap (λ (x : TypedExpression). t.Count place r a x (tree_if_any p.second) body) h.0.1
      ∙ ap (λ (x : Option TypedExpression). t.Count place r a b x body) h.1
