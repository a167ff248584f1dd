-- Through the history that bags stand for each party carries a state, and its hand-ins are what the first state gives.
use Rattle.std.proofs.Common.{◌≡◌, ℕ, zero, suc, ◌+◌, ◌<◌, List, [], ◌∷◌, ◌++◌, refl, sym, ap, ◌∙◌, arith, inl, inr, length}
use Rattle.std.specs.Prelude.{Some, map, replicate, slice_get}
use Rattle.std.proofs.lemmas.List.{length-replicate}
use Rattle.std.proofs.lemmas.Option.{slice_get_within, slice_get_cases}
use Rattle.ds2_schedule.specs.Runs.{run_length}
use Rattle.ds2_schedule.specs.Stage.{Stage, StageStep, Draws, HandsIn, Retakes, after_step, opening_stage}
use Rattle.ds2_schedule.proofs.Legal.{IsLegalStep, AreLegal}
use Rattle.ds2_schedule.specs.Schedule.{GroupProgram, AgreeAsStates, IsCarriedStep, carried, AreCarried, IsCarried, in_order, one_thread}
use Rattle.ds2_schedule.specs.Bags.{GroupRun, Bag, worker_draws, caller_draws, run_hand_ins, all_hand_ins, history, handed_by, all_handed, StageHasEnded, AreAnswers, BagsAnswer, answer_from, EndedIsCarried, EndedIsOneThread}
use Rattle.ds2_schedule.proofs.Steps.{Sound, sound_step, sound_start}
use Rattle.ds2_schedule.proofs.Schedule.{Free, free_of, itself, StillAgree, agree_step, agree_all, agree_start, every_schedule}
use Rattle.ds2_schedule.proofs.Counts.{length_changed}
use Rattle.ds2_schedule.proofs.Bags.{ended_goes, complete_facts}

-- a hand-in has the rows and the fault of the first state's result
abbrev IsTrueStep : {S O : Type 0} → GroupProgram S O → S → StageStep → Type 0
IsTrueStep p first (Draws w d) = Unit {0}
IsTrueStep p first (HandsIn w g rows faulted) = (rows ≡ p.rows (p.result first g)) × (faulted ≡ p.faults (p.result first g))
IsTrueStep p first Retakes = Unit {0}

abbrev AreTrue : {S O : Type 0} → GroupProgram S O → S → List StageStep → Type 0
AreTrue p first [] = Unit {0}
AreTrue p first (x ∷ xs) = IsTrueStep p first x × AreTrue p first xs

there : {A : Type 0} (xs : List A) (i : ℕ) → i < length xs → (x : A) × (slice_get xs i ≡ Some x)
there xs i low = elim ((slice_get_cases xs i).1) [
  | inl t ↦ (t.0, t.2)
  | inr t ↦ absurd (omega (arith, low, t.0))
]

module _ {S O : Type 0} (agrees : S → S → Type 0) (p : GroupProgram S O) (free : Free agrees p) where
  carried_many : (states : List S) (x : StageStep) → length (carried p states x) ≡ length states
  carried_many states (Draws w d) = refl
  carried_many states (HandsIn w g rows faulted) = length_changed (λ s. p.leaves s g) states w
  carried_many states Retakes = refl

  carried_step : (m l workers : ℕ) (first : S) (states : List S) (s : Stage) (x : StageStep) → IsLegalStep workers s x → IsTrueStep p first x → Sound m l workers s
      → StillAgree agrees p free first states s.handed → length states ≡ workers + 1 → IsCarriedStep p states x
  carried_step m l workers first states s (Draws w d) legal is sound h many = tt
  carried_step m l workers first states s Retakes legal is sound h many = tt
  carried_step m l workers first states s (HandsIn w g rows faulted) legal is sound h many =
      let inside = slice_get_within s.left w (g ∷ legal.0.0) legal.0.1 in
      let t = there states w (omega (arith, inside, many, sound.parties)) in
      let same = free.same first t.0 g (free.back t.0 first (h.agree w t.0 t.1 legal.1)) in
      (t.0, t.1, is.0 ∙ ap p.rows same, is.1 ∙ ap p.faults same)

  carried_all : (m l workers : ℕ) (first : S) (states : List S) (s : Stage) (xs : List StageStep) → AreLegal m l workers s xs → AreTrue p first xs → Sound m l workers s
      → StillAgree agrees p free first states s.handed → length states ≡ workers + 1 → AreCarried p states xs
  carried_all m l workers first states s [] legal is sound h many = tt
  carried_all m l workers first states s (x ∷ xs) legal is sound h many =
      let one = carried_step m l workers first states s x legal.0 is.0 sound h many in (
        one,
        carried_all m l workers first (carried p states x) (after_step m l workers s x) xs legal.1 is.1 (sound_step m l workers s x sound legal.0)
            (agree_step agrees p free m l workers first states s x legal.0 one h).0 (carried_many states x ∙ many),
      )

  true_append : (first : S) (xs ys : List StageStep) → AreTrue p first xs → AreTrue p first ys → AreTrue p first (xs ++ ys)
  true_append first [] ys h k = k
  true_append first (x ∷ xs) ys h k = (h.0, true_append first xs ys h.1 k)

  true_draws : (first : S) (bags : List Bag) (a n : ℕ) → AreTrue p first (worker_draws bags a n)
  true_draws first bags a zero = tt
  true_draws first bags a (suc n) = (tt, true_draws first bags (a + 1) n)

  true_own : (first : S) (w a n : ℕ) → AreTrue p first (caller_draws w a n)
  true_own first w a zero = tt
  true_own first w a (suc n) = (tt, true_own first w (a + 1) n)

  true_hands : (first : S) (w : ℕ) (dones : List GroupRun) → AreAnswers p first dones → AreTrue p first (run_hand_ins w dones)
  true_hands first w [] h = tt
  true_hands first w (d ∷ ds) h = ((h.0.0, h.0.1), true_hands first w ds h.1)

  true_bags : (first : S) (w : ℕ) (bags : List Bag) → BagsAnswer p first bags → AreTrue p first (all_hand_ins w bags)
  true_bags first w [] h = tt
  true_bags first w (b ∷ bs) h = true_append first (run_hand_ins w b.runs) (all_hand_ins (w + 1) bs) (true_hands first w b.runs h.0) (true_bags first (w + 1) bs h.1)

  pub ended_is_carried : (m workers : ℕ) (first : S) (bags : List Bag) (word n : ℕ) (more : List GroupRun) → agrees first first → StageHasEnded m workers bags word n more → BagsAnswer p first bags → AreAnswers p first more
      → IsCarried p workers first (history workers bags word n more)
  ended_is_carried m workers first bags word n more begins h from_first own =
      let l = run_length m workers in
      carried_all m l workers first (replicate (workers + 1) first) (opening_stage workers) (history workers bags word n more) (complete_facts m workers bags word n more h).0
      (true_append first (worker_draws bags 0 word) _ (true_draws first bags 0 word)
      (true_append first (all_hand_ins 0 bags) _ (true_bags first 0 bags from_first)
      (tt, true_append first (caller_draws workers word n) (run_hand_ins workers more) (true_own first workers word n) (true_hands first workers more own))))
      (sound_start m l workers) (agree_start agrees p free workers first begins) (length-replicate (workers + 1) first)

  pub ended_is_alone : (m workers : ℕ) (first : S) (bags : List Bag) (word n : ℕ) (more : List GroupRun) → agrees first first → StageHasEnded m workers bags word n more → BagsAnswer p first bags → AreAnswers p first more
      → in_order p.faults (map (answer_from p first) (all_handed 0 bags ++ handed_by workers more)) 0 m ≡ one_thread p first 0 m
  ended_is_alone m workers first bags word n more begins h from_first own =
      let l = run_length m workers in
      let xs = history workers bags word n more in
      let done = complete_facts m workers bags word n more h in
      let told_so = ended_is_carried m workers first bags word n more begins h from_first own in
      let all = agree_all agrees p free m l workers first (replicate (workers + 1) first) (opening_stage workers) xs done.0 told_so (agree_start agrees p free workers first begins) in
      let g = ended_goes m workers bags word n more h in
      ap (λ (s : Stage). in_order p.faults (map (answer_from p first) s.handed) 0 m) (sym g.ends)
      ∙ ap (λ (t : List (ℕ × O)). in_order p.faults t 0 m) all.1
      ∙ every_schedule agrees p free m workers first xs begins done.0 told_so done.1

pub ended_is_carried_law : (S K C O : Type 0) → EndedIsCarried S K C O
ended_is_carried_law S K C O p is_state fixed m workers first bags word n more free state h answers own = ended_is_carried (AgreeAsStates is_state fixed) p (free_of is_state fixed p free) m workers first bags word n more (itself is_state fixed first state) h answers own

pub ended_is_one_thread : (S K C O : Type 0) → EndedIsOneThread S K C O
ended_is_one_thread S K C O p is_state fixed m workers first bags word n more free state h answers own = ended_is_alone (AgreeAsStates is_state fixed) p (free_of is_state fixed p free) m workers first bags word n more (itself is_state fixed first state) h answers own
