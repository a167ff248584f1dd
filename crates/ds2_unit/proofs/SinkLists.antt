-- What a sink takes, one after the other.
use Rattle.std.proofs.Common.{ℕ, List, [], ◌++◌, sym, subst, append_assoc}
use Rattle.std.proofs.lemmas.List.{append-nil}
use Rattle.ds2_value.specs.Run.{Written}
use Rattle.ds2_machine.specs.Sink.{SinkTakes}

module _ {S : Type 0} (has_taken : S → S → List Written → List (List ℕ) → Type 0) where
  pub nothing_taken : (s : S) → SinkTakes has_taken s s [] []
  nothing_taken s from rows lines h =
      let P : List Written → Type 0 = λ r. has_taken from s r (lines ++ []) in
      let Q : List (List ℕ) → Type 0 = λ l. has_taken from s rows l in
      subst P (sym (append-nil rows)) (subst Q (sym (append-nil lines)) h)

  pub taken_more : (a b c : S) (rows more : List Written) (lines further : List (List ℕ)) → SinkTakes has_taken a b rows lines → SinkTakes has_taken b c more further
      → SinkTakes has_taken a c (rows ++ more) (lines ++ further)
  taken_more a b c rows more lines further first second from so_far said h =
      let P : List Written → Type 0 = λ r. has_taken from c r (said ++ (lines ++ further)) in
      let Q : List (List ℕ) → Type 0 = λ l. has_taken from c ((so_far ++ rows) ++ more) l in
      subst P (append_assoc so_far rows more) (subst Q (append_assoc said lines further) (second from (so_far ++ rows) (said ++ lines) (first from so_far said h)))
