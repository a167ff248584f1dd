-- What definitions see of the trees that the code reads.
use Rattle.std.specs.Prelude.{◌≡◌, refl, List, [], ◌∷◌, Option, None, Some, map}
use Rattle.std.specs.Option.{option_map}

-- how a tree is seen: one, one that may be absent, and a list of them
pub record TreeView (Tree : Type 0) : Type 1 where
  pub Seen : Type 0
  pub one : Tree → Seen
  pub any : Option Tree → Option Seen
  pub all : List Tree → List Seen
  pub none_is : any None ≡ None
  pub some_is : (x : Tree) → any (Some x) ≡ Some (one x)
  pub empty_is : all [] ≡ []
  pub first_is : (x : Tree) (xs : List Tree) → all (x ∷ xs) ≡ one x ∷ all xs

-- a tree that is seen as it is
abbrev pub seen_as_it_is : (A : Type 0) → TreeView A
seen_as_it_is A = record {
  Seen = A;
  one = λ x. x;
  any = λ o. o;
  all = λ l. l;
  none_is = refl;
  some_is = λ x. refl;
  empty_is = refl;
  first_is = λ x xs. refl;
}

-- a tree that is seen through a function
abbrev pub seen_through : {A B : Type 0} → (A → B) → TreeView A
seen_through {A} {B} f = record {
  Seen = B;
  one = f;
  any = option_map f;
  all = map f;
  none_is = refl;
  some_is = λ x. refl;
  empty_is = refl;
  first_is = λ x xs. refl;
}

-- two trees, each seen through a function of its own
abbrev pub both_seen : {A B C D : Type 0} → (A → C) → (B → D) → A × B → C × D
both_seen f g x = (f x.0, g x.1)
