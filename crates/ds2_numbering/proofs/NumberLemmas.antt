-- What is given numbers by a hash: the first number stays.
use Rattle.std.proofs.Common.{◌≡◌, ◌≤◌, ℕ, Bool, true, false, List, [], ◌++◌, length, map, drop, Option, Some, None, cond, refl, sym, ap, ◌∙◌, drop_of_length-le}
use Rattle.std.specs.Cmp.Lexicographic.{bytes_decides, nat_list_eq_equiv}
use Rattle.std.specs.HashMap.{HashMap, get}
use Rattle.std.specs.Map.{lookup}
use Rattle.std.specs.Option.{is_some}
use Rattle.std.specs.Prelude.{bytes_eq}
use Rattle.std.specs.Borrow.{Bor}
use Rattle.ds2_layout.specs.declared.slot.LayoutSlot.{LayoutSlot}
use Rattle.ds2_layout.specs.Layout.{location_of_slot}
use Rattle.ds2_meaning.specs.Location.{Location, is_same_location}
use Rattle.ds2_numbering.specs.declared.search.Search.{Search}
use Rattle.ds2_numbering.specs.declared.sought.Sought.{Sought}
use Rattle.ds2_numbering.specs.NameNumbers.{number_under, AreNamed}
use Rattle.ds2_numbering.specs.Searching.{first_or_this, search_among, search_by, search_names, unbegun}
use Rattle.ds2_numbering.specs.SlotNumbers.{AreNumbered}
use Rattle.ds2_numbering.specs.SoughtKeys.{is_one_sought}
use Rattle.ds2_numbering.specs.SoughtLocations.{location_sought}
use Rattle.ds2_numbering.proofs.SearchLemmas.{first_found, search_both}

stays_number : (o : Option ℕ) (n : ℕ) → o ≡ first_or_this o false n
stays_number None n = refl
stays_number (Some m) n = refl

given_by : (b : Bool) (here o : Option ℕ) (n : ℕ) → (b ≡ true → here ≡ o) → is_some here ≡ false → cond b (Some n) o ≡ first_or_this o b n
given_by false here o n same none = stays_number o n
given_by true here None n same none = refl
given_by true here (Some m) n same none = let e : false ≡ true = sym none ∙ ap (λ x. is_some x) (same refl) in cc e

-- a name that has no number is given one
pub name_given : (before after : List ℕ → Option ℕ) (name : List ℕ) (n : ℕ) → is_some (before name) ≡ false → ((q : List ℕ) → after q ≡ cond (bytes_eq name q) (Some n) (before q))
    → (q : List ℕ) → after q ≡ first_or_this (before q) (bytes_eq q name) n
name_given before after name n none put q =
    put q ∙ given_by (bytes_eq name q) (before name) (before q) n (λ h. ap before ((bytes_decides name q).0 h)) none ∙ ap (λ b. first_or_this (before q) b n) (nat_list_eq_equiv.symm name q)

-- ---- numbers are those that a search finds

-- how far a search has come
abbrev pub reached : Option ℕ → ℕ → Search
reached found seen = record { found = found; seen = seen }

-- behind the last item a search has come to its end
pub all_searched : {X Y : Type 0} (test : Y → Bool) (f : X → Y) (xs : List X) (i : ℕ) (s whole : Search) → length xs ≤ i → search_by test (map f (drop i xs)) s ≡ whole → s ≡ whole
all_searched test f xs i s whole past before = ap (λ l. search_by test (map f l) s) (sym (drop_of_length-le xs past)) ∙ before

module _ {S : Type 0} where
  -- behind the last slot each location has the number of its first one
  pub all_slots_numbered : (slots : List LayoutSlot) (m : HashMap Sought ℕ S) (seen : ℕ)
      → ((q : Sought) → reached (get is_one_sought m q) seen ≡ search_among (location_sought q) (map location_of_slot slots) unbegun) → AreNumbered slots m
  all_slots_numbered slots m seen is q = first_found (λ (other : Location). is_same_location (location_sought q) other) (map location_of_slot slots) (reached (get is_one_sought m q) seen) (is q)

  no_name : (m : HashMap (Bor (List ℕ)) ℕ S) (name : List ℕ) → m.entries ≡ [] → number_under m name ≡ None
  no_name m name none = ap (λ es. lookup (λ (k : Bor (List ℕ)). bytes_eq name k.now) es) none

  -- names that are given numbers from 0 on have that of their first place
  pub first_named : (names : List (List ℕ)) (m grown : HashMap (Bor (List ℕ)) ℕ S) (seen : ℕ) → m.entries ≡ []
      → ((name : List ℕ) → reached (number_under grown name) seen ≡ search_names name names (reached (number_under m name) 0)) → AreNamed names grown
  first_named names m grown seen none is name =
      first_found (λ other. bytes_eq name other) names (reached (number_under grown name) seen) (is name ∙ ap (λ o. search_names name names (reached o 0)) (no_name m name none))

  -- likewise those of two lists
  pub both_named : (some others : List (List ℕ)) (m mid grown : HashMap (Bor (List ℕ)) ℕ S) (behind seen : ℕ) → m.entries ≡ []
      → ((name : List ℕ) → reached (number_under mid name) behind ≡ search_names name some (reached (number_under m name) 0))
      → ((name : List ℕ) → reached (number_under grown name) seen ≡ search_names name others (reached (number_under mid name) behind))
      → AreNamed (some ++ others) grown
  both_named some others m mid grown behind seen none first second =
      first_named (some ++ others) m grown seen none
      (λ name. second name ∙ ap (λ s. search_names name others s) (first name) ∙ sym (search_both (λ other. bytes_eq name other) some others (reached (number_under m name) 0)))
