-- Steps of the code of what stands behind `select` and `do`, against their rules.
use Rattle.std.proofs.Common.{◌≡◌, ◌||◌, Bool, true, false, List, [], ◌∷◌, Option, Some, None, refl, sym, ap, ◌∙◌, subst}
use Rattle.ds2_base.specs.declared.place.Place.{Place}
use Rattle.ds2_base.specs.declared.place.Refusal.{Refusal}
use Rattle.ds2_base.specs.declared.stop.Stop.{Stop}
use Rattle.ds2_token.specs.declared.token.Token.{Token}
use Rattle.ds2_token.specs.Words.{is_name_token}
use Rattle.ds2_tree.specs.declared.kind.ParseKind.{ParseKind}
use Rattle.ds2_tree.specs.Parsers.{Read, Parser, Either, One, Two, pure, first, kept, when, choose_by, to, seq, optional}
use Rattle.ds2_tree.specs.Promise.{Fails}
use Rattle.ds2_tree.proofs.Steps.{choose_yes}
use Rattle.ds2_tree.specs.Expressions.{Expression}
use Rattle.ds2_tree.specs.Statements.{Block, Counted, Tested, is_while_or_until}
use Rattle.ds2_parse_rules.specs.GrammarTokens.{enclosed, Fronted}
use Rattle.ds2_parse_rules.specs.StatementGrammar.{begins_control, CountedTree, step_of, control_of, counted_rule, control_rule}
use Rattle.ds2_parse_statements.specs.StatementParts.{behind_variable}
use Rattle.ds2_parse_rules.proofs.RuleSteps.{held, taken, on_read, on_some, on_none, on_yes, on_no}
use Rattle.ds2_parse_rules.proofs.FrontSteps.{kept_read, fronted_when}

-- ---- an optional part that is there

module _ {A : Type 0} (is : Token → Bool) (p : Parser A) (ts : List Token) (there : when is (first ts) ≡ true) where
  pub optional_stops : (end : Place) (e : Stop (Refusal ParseKind)) → Fails end e (to Some p ts) → Fails end e (optional is p ts)
  optional_stops end e h = subst (Fails end e) (sym (choose_yes is (to Some p) (pure None) ts there)) h

  pub optional_read : (x : Option A) (z : List Token) → to Some p ts ≡ Read x z → optional is p ts ≡ Read x z
  optional_read x z h = choose_yes is (to Some p) (pure None) ts there ∙ h

-- ---- what stands between `do` and its `;`

begins_is : (ts : List Token) → when begins_control (first ts) ≡ (when is_name_token (first ts) || when is_while_or_until (first ts))
begins_is [] = refl
begins_is (t ∷ ts) = refl

module _ (e : Parser Expression) (ts : List Token) where
  abbrev tested_part : Parser (Token × (Place × (Expression × Place)))
  tested_part = seq (kept is_while_or_until) (enclosed e)

  abbrev count_or_test : Parser (Either CountedTree (Token × (Place × (Expression × Place))))
  count_or_test = choose_by is_name_token (to One (counted_rule e)) (to Two tested_part)

  pub control_counted : (t : Token) (r : List Token) → Fronted is_name_token ts t r → (u : Token) → u ≡ t
      → control_rule e ts ≡ to (λ x. Counted u x.0 x.1.0 x.1.1.0 x.1.1.1.0 (step_of x.1.1.1.1)) (behind_variable e) r
  control_counted t r there u same =
      let c = fronted_when is_name_token ts t r there in
      held (λ o. o ≡ to (λ x. Counted u x.0 x.1.0 x.1.1.0 x.1.1.1.0 (step_of x.1.1.1.1)) (behind_variable e) r) control_of (optional begins_control count_or_test) ts
      (on_some begins_control count_or_test (begins_is ts ∙ ap (λ b. b || when is_while_or_until (first ts)) c)
      (on_yes is_name_token One (counted_rule e) Two tested_part c (on_read (kept is_name_token) (behind_variable e) (kept_read is_name_token ts t r there u same) (taken refl))))

  module _ (no_name : when is_name_token (first ts) ≡ false) where
    pub control_tested : (t : Token) (r : List Token) → Fronted is_while_or_until ts t r → (u : Token) → u ≡ t → control_rule e ts ≡ to (λ x. Tested u x.0 x.1.0 x.1.1) (enclosed e) r
    control_tested t r there u same =
        held (λ o. o ≡ to (λ x. Tested u x.0 x.1.0 x.1.1) (enclosed e) r) control_of (optional begins_control count_or_test) ts
        (on_some begins_control count_or_test (begins_is ts ∙ ap (λ b. b || when is_while_or_until (first ts)) no_name ∙ fronted_when is_while_or_until ts t r there)
        (on_no is_name_token One (counted_rule e) Two tested_part no_name (on_read (kept is_while_or_until) (enclosed e) (kept_read is_while_or_until ts t r there u same) (taken refl))))

    pub control_none : when is_while_or_until (first ts) ≡ false → control_rule e ts ≡ Read Block ts
    control_none no_word = held (λ o. o ≡ Read Block ts) control_of (optional begins_control count_or_test) ts
        (on_none begins_control count_or_test (begins_is ts ∙ ap (λ b. b || when is_while_or_until (first ts)) no_name ∙ no_word) refl)
