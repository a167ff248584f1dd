-- What deeds by numbers mention and change.
use Rattle.std.proofs.Common.{◌≡◌, ℕ, Bool, true, false, true≢false, List, [], ◌∷◌, Option, Some, None, refl, sym, ap, ◌∙◌}
use Rattle.std.specs.List.{list_any}
use Rattle.std.specs.Prelude.{◌||◌, ◌==◌, slice_get}
use Rattle.std.proofs.lemmas.Bool.Decides.{Decides-eqb}
use Rattle.std.proofs.lemmas.List.Folds.{list_any-append}
use Rattle.std.proofs.lemmas.Option.{same_Some}
use Rattle.ds2_meaning.specs.Location.{Location, is_same_location}
use Rattle.ds2_program_code.specs.PlacedProgram.{number_of_location}
use Rattle.ds2_locality.specs.Deeds.{Deed, Mention, MentionObject, Change, CallOf, WriteAt, mentions_location, changes_location}
use Rattle.ds2_locality.proofs.Frame.{location_is}
use Rattle.ds2_locality.proofs.Near.{location_self}
use Rattle.ds2_deeds.specs.declared.deed.NumberedDeed.TheVariants as deed_by
use Rattle.ds2_deeds.specs.NamedMethods.{number_among_methods}
use Rattle.ds2_deeds.specs.NumberedCalls.{mentions_number, changes_number}
use Rattle.ds2_deeds.specs.NumberedDeeds.{ProgramNumbers, deed_if_numbered, numbered_deed, numbered_deeds}
use Rattle.ds2_local.proofs.FirstLemmas.{location_at}

-- a number is this one
abbrev is_number : ℕ → Option ℕ → Bool
is_number k None = false
is_number k (Some j) = j == k

or_nothing : (a : Bool) → (a || false) ≡ a
or_nothing true = refl
or_nothing false = refl

both_or : (a b c d : Bool) → a ≡ b → c ≡ d → (a || c) ≡ (b || d)
both_or a b c d p q = ap (λ x. x || c) p ∙ ap (λ x. b || x) q

module _ (n : ProgramNumbers) (at : Location) (k : ℕ) (is : number_of_location n.locations at ≡ Some k) where
  apart_numbers : (other : Location) (j : ℕ) → number_of_location n.locations other ≡ Some j → is_same_location at other ≡ false → (b : Bool) → (j == k) ≡ b → false ≡ b
  apart_numbers other j e apart true f =
      let here : Some at ≡ Some other = sym (location_at n.locations at k is) ∙ ap (λ i. slice_get n.locations i) (sym ((Decides-eqb j k).0 f)) ∙ location_at n.locations other j e in
      absurd (true≢false (sym (location_self at) ∙ ap (λ l. is_same_location at l) (same_Some at other here) ∙ apart))
  apart_numbers other j e apart false f = refl

  same_number : (other : Location) (b : Bool) (o : Option ℕ) → is_same_location at other ≡ b → number_of_location n.locations other ≡ o → b ≡ is_number k o
  same_number other true None same e =
      let bad : Some k ≡ None = sym is ∙ ap (λ l. number_of_location n.locations l) (location_is at other same) ∙ e in absurd cc
  same_number other true (Some j) same e =
      let one : j ≡ k = same_Some j k (sym e ∙ ap (λ l. number_of_location n.locations l) (sym (location_is at other same)) ∙ is) in sym ((Decides-eqb j k).1 one)
  same_number other false None same e = refl
  same_number other false (Some j) same e = apart_numbers other j e same (j == k) refl

  one_mention : (o : Option ℕ) → list_any (mentions_number k) (deed_if_numbered (λ j. deed_by.Mention j) o) ≡ is_number k o
  one_mention None = refl
  one_mention (Some j) = or_nothing (j == k)

  no_mention_of_change : (o : Option ℕ) → list_any (mentions_number k) (deed_if_numbered (λ j. deed_by.Change j) o) ≡ false
  no_mention_of_change None = refl
  no_mention_of_change (Some j) = refl

  no_mention_of_call : (o : Option ℕ) → list_any (mentions_number k) (deed_if_numbered (λ j. deed_by.Call j) o) ≡ false
  no_mention_of_call None = refl
  no_mention_of_call (Some j) = refl

  mention_one : (d : Deed) → list_any (mentions_number k) (numbered_deed n d) ≡ mentions_location at d
  mention_one (Mention other) = one_mention (number_of_location n.locations other) ∙ sym (same_number other (is_same_location at other) (number_of_location n.locations other) refl refl)
  mention_one (MentionObject other) = one_mention (number_of_location n.locations other) ∙ sym (same_number other (is_same_location at other) (number_of_location n.locations other) refl refl)
  mention_one (Change other) = no_mention_of_change (number_of_location n.locations other)
  mention_one (CallOf m) = no_mention_of_call (number_among_methods n.methods m)
  mention_one (WriteAt place) = refl

  -- deeds mention a location where by numbers they mention its number
  pub mentions_numbered : (deeds : List Deed) → list_any (mentions_number k) (numbered_deeds n deeds) ≡ list_any (mentions_location at) deeds
  mentions_numbered [] = refl
  mentions_numbered (d ∷ deeds) =
      list_any-append (mentions_number k) (numbered_deed n d) (numbered_deeds n deeds)
      ∙ both_or (list_any (mentions_number k) (numbered_deed n d)) (mentions_location at d) (list_any (mentions_number k) (numbered_deeds n deeds)) (list_any (mentions_location at) deeds) (mention_one d) (mentions_numbered deeds)

  one_change : (o : Option ℕ) → list_any (changes_number k) (deed_if_numbered (λ j. deed_by.Change j) o) ≡ is_number k o
  one_change None = refl
  one_change (Some j) = or_nothing (j == k)

  no_change_of_mention : (o : Option ℕ) → list_any (changes_number k) (deed_if_numbered (λ j. deed_by.Mention j) o) ≡ false
  no_change_of_mention None = refl
  no_change_of_mention (Some j) = refl

  no_change_of_call : (o : Option ℕ) → list_any (changes_number k) (deed_if_numbered (λ j. deed_by.Call j) o) ≡ false
  no_change_of_call None = refl
  no_change_of_call (Some j) = refl

  change_one : (d : Deed) → list_any (changes_number k) (numbered_deed n d) ≡ changes_location at d
  change_one (Mention other) = no_change_of_mention (number_of_location n.locations other)
  change_one (MentionObject other) = no_change_of_mention (number_of_location n.locations other)
  change_one (Change other) = one_change (number_of_location n.locations other) ∙ sym (same_number other (is_same_location at other) (number_of_location n.locations other) refl refl)
  change_one (CallOf m) = no_change_of_call (number_among_methods n.methods m)
  change_one (WriteAt place) = refl

  -- deeds change a location where by numbers they change its number
  pub changes_numbered : (deeds : List Deed) → list_any (changes_number k) (numbered_deeds n deeds) ≡ list_any (changes_location at) deeds
  changes_numbered [] = refl
  changes_numbered (d ∷ deeds) =
      list_any-append (changes_number k) (numbered_deed n d) (numbered_deeds n deeds)
      ∙ both_or (list_any (changes_number k) (numbered_deed n d)) (changes_location at d) (list_any (changes_number k) (numbered_deeds n deeds)) (list_any (changes_location at) deeds) (change_one d) (changes_numbered deeds)
