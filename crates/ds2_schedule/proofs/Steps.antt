-- Each step keeps that the groups of the runs drawn are left or handed in, each once.
use Rattle.std.proofs.Common.{◌≡◌, ℕ, zero, suc, ◌+◌, ◌*◌, List, [], ◌∷◌, ◌++◌, sym, ap, ◌∙◌, arith, length}
use Rattle.std.specs.List.{concat}
use Rattle.std.specs.Prelude.{min, map, replicate}
use Rattle.std.proofs.lemmas.Bool.Decides.{nat_tests}
use Rattle.std.proofs.lemmas.List.{length-replicate, length-append, map-append}
use Rattle.ds2_schedule.specs.Runs.{run_length, run_groups, times, once_below}
use Rattle.ds2_schedule.specs.Stage.{HandIn, Stage, StageStep, Draws, HandsIn, Retakes, without_next, ascending, after_step, opening_stage, after_steps, replay, group_of, occurs, first_runs, EachGroupOnce}
use Rattle.ds2_schedule.proofs.Counts.{times-append, run_drawn, left_more, left_fewer, times_ascending, left_last, left_none, length_changed}
use Rattle.ds2_schedule.proofs.Legal.{IsLegalStep, AreLegal, legal_steps}

pub record Sound (m l workers : ℕ) (s : Stage) : Type 0 where
  pub parties : length s.left ≡ workers + 1
  pub once : (x : ℕ) → occurs x s ≡ once_below x (min m (s.drawn * l))

pub sound_step : (m l workers : ℕ) (s : Stage) (x : StageStep) → Sound m l workers s → IsLegalStep workers s x → Sound m l workers (after_step m l workers s x)
sound_step m l workers s (Draws w d) h legal = record {
  parties = length_changed (λ gs. gs ++ run_groups m l d) s.left w ∙ h.parties;
  once = λ x.
      let r = run_drawn x m l d in
      let e = ap (λ (k : ℕ). once_below x (min m (k * l))) legal.1 in
      let f = ap (λ (k : ℕ). once_below x (min m ((k + 1) * l))) legal.1 in
      omega (arith, h.once x, left_more x (run_groups m l d) s.left w (omega (arith, legal.0, h.parties)), r, e, f);
}
sound_step m l workers s (HandsIn w g rows faulted) h legal = record {
  parties = length_changed without_next s.left w ∙ h.parties;
  once = λ x.
      let e : HandIn = record { party = w; group = g; rows = rows; faulted = faulted } in
      omega (arith, h.once x, left_fewer x g legal.0.0 s.left w legal.0.1, ap (times x) (map-append group_of s.handed (e ∷ [])), times-append x (map group_of s.handed) (g ∷ []));
}
sound_step m l workers s Retakes h legal = record {
  parties = omega (arith, length-append (replicate workers []) (ascending (concat s.left) ∷ []), (let none : List ℕ = [] in length-replicate workers none));
  once = λ x. omega (arith, h.once x, left_last x workers (ascending (concat s.left)), times_ascending x (concat s.left));
}

pub sound_all : (m l workers : ℕ) (s : Stage) (xs : List StageStep) → Sound m l workers s → AreLegal m l workers s xs → Sound m l workers (after_steps m l workers s xs)
sound_all m l workers s [] h legal = h
sound_all m l workers s (x ∷ xs) h legal = sound_all m l workers (after_step m l workers s x) xs (sound_step m l workers s x h legal.0) legal.1

below_none : (x : ℕ) → once_below x 0 ≡ 0
below_none x = grind (arith, nat_tests)

none_below : (x m l : ℕ) → 0 ≡ once_below x (min m (0 * l))
none_below x m l = let e : min m (0 * l) ≡ 0 = omega arith in sym (ap (once_below x) e ∙ below_none x)

pub sound_start : (m l workers : ℕ) → Sound m l workers (opening_stage workers)
sound_start m l workers = record {
  parties = length-replicate (workers + 1) [];
  once = λ x. omega (arith, left_none x (workers + 1), none_below x m l);
}

first_runs_are : (x m l n : ℕ) → times x (first_runs m l n) ≡ once_below x (min m (n * l))
first_runs_are x m l zero = none_below x m l
first_runs_are x m l (suc n) =
    let e : (n + 1) * l ≡ suc n * l = ap (λ (k : ℕ). k * l) (omega arith) in
    omega (arith, times-append x (first_runs m l n) (run_groups m l n), first_runs_are x m l n, run_drawn x m l n, ap (λ (k : ℕ). once_below x (min m k)) e)

pub each_group_once : EachGroupOnce
each_group_once m workers xs legal g =
    let l = run_length m workers in
    let once = (sound_all m l workers (opening_stage workers) xs (sound_start m l workers) (legal_steps m l workers (opening_stage workers) xs legal)).once g in
    (once ∙ sym (first_runs_are g m l (replay m workers xs).drawn), once)
