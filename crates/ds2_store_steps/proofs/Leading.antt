-- From one step of a plan to the next.
use Rattle.std.proofs.Common.{◌≡◌, ◌≤◌, ◌<◌, ◌-◌, ◌∙◌, take, length, get_or, drop, ap, arith, inl, inr, ℕ, List, [], ◌∷◌, ◌++◌, refl, sym, subst, Option, Some, None, Result, Ok, Err, IsErrAnd}
use Rattle.std.proofs.lemmas.List.{take_all}
use Rattle.ds2_outside.specs.Files.{Files}
use Rattle.ds2_store_steps.specs.declared.halt.Halt.{Halt}
use Rattle.ds2_store_steps.specs.declared.halt.Halt.TheVariants.{Ended, OutOfMemory}
use Rattle.ds2_store_steps.specs.Halts.{Follows, HaltsPlan, LeadsOn}
use Rattle.ds2_store_steps.specs.PlanOutcomes.{CutShort, TornFile, files_told_with}
use Rattle.ds2_answer.specs.Plan.{Plan, Stops, Logs, ReadsFile, AsksFor, WritesFile, each_in_turn}

-- what holds of a store as a call has left it holds of it at the end of the session
pub store_ends : {S : Type 0} (P : S → Type 0) (left end : S) → end ≡ left → P left → P end
store_ends P left end is holds = subst P (sym is) holds

not_torn : (told : Option Files) (name bytes : List ℕ) → TornFile told name bytes told
not_torn None name bytes = tt
not_torn (Some files) name bytes = inl refl

-- a call may end a plan at once
pub at_once : (plan : Plan) (told : Option Files) → CutShort plan told told
at_once (Stops status) told = refl
at_once (Logs line rest) told = inl refl
at_once (ReadsFile name rest) told = inl refl
at_once (AsksFor name rest) told = inl refl
at_once (WritesFile name bytes rest) told = inl (not_torn told name bytes)

pub leads_none : (plan : Plan) (said : List ℕ) (told : Option Files) → LeadsOn plan plan said told said told
leads_none plan said told = record { ends = λ s t n o. o; short = λ n o. o }

pub leads_read : (name : List ℕ) (rest : Plan) (said : List ℕ) (told : Option Files) → LeadsOn (ReadsFile name rest) rest said told said told
leads_read name rest said told = record { ends = λ s t n o. inr o; short = λ n o. inr o }

pub leads_ask : (name : List ℕ) (rest : Plan) (said : List ℕ) (told : Option Files) → LeadsOn (AsksFor name rest) rest said told said told
leads_ask name rest said told = record { ends = λ s t n o. inr o; short = λ n o. inr o }

pub leads_write : (name bytes : List ℕ) (rest : Plan) (said : List ℕ) (told : Option Files) → LeadsOn (WritesFile name bytes rest) rest said told said (files_told_with told name bytes)
leads_write name bytes rest said told = record { ends = λ s t n o. inr o; short = λ n o. inr o }

pub leads_say : (line : List ℕ) (rest : Plan) (said : List ℕ) (told : Option Files) → LeadsOn (Logs line rest) rest said told (said ++ line) told
leads_say line rest said told = record { ends = λ s t n o. o; short = λ n o. inr o }

-- what comes of the middle comes of the whole
pub does_on : {T : Type 0} (whole middle : Plan) (rest : T → Plan) (said text : List ℕ) (told between : Option Files) (result : Result T Halt) (log : List ℕ) (now : Option Files)
    → LeadsOn whole middle said told text between → Follows middle rest text between result log now → Follows whole rest said told result log now
does_on whole middle rest said text told between (Ok value) log now a b =
    record { ends = λ s t n o. a.ends s t n (b.ends s t n o); short = λ n o. a.short n (b.short n o) }
does_on whole middle rest said text told between (Err (Ended status)) log now a b = a.ends status log now b
does_on whole middle rest said text told between (Err OutOfMemory) log now a b = a.short now b

-- what halts ends with this halt
pub halts_with : {T U : Type 0} (whole middle : Plan) (rest : T → Plan) (given : U → Plan) (said text : List ℕ) (told between now : Option Files) (halt : Halt) (result : Result T Halt) (log : List ℕ)
    → IsErrAnd result (λ e. e ≡ halt) → LeadsOn whole middle said told text between → Follows middle given text between (Err halt) log now → Follows whole rest said told result log now
halts_with whole middle rest given said text told between now halt (Ok value) log is a b = absurd is
halts_with whole middle rest given said text told between now halt (Err e) log is a b =
    subst (λ (h : Halt). HaltsPlan whole said told h log now) (sym is) (does_on whole middle given said text told between (Err halt) log now a b)

-- a call that finds no memory has left what stood before
pub no_memory : {T : Type 0} (whole : Plan) (rest : T → Plan) (said log : List ℕ) (told now : Option Files) (result : Result T Halt)
    → IsErrAnd result (λ e. e ≡ OutOfMemory) → now ≡ told → Follows whole rest said told result log now
no_memory whole rest said log told now (Ok value) is same = absurd is
no_memory whole rest said log told now (Err e) is same =
    subst (λ (h : Halt). HaltsPlan whole said told h log now) (sym is) (subst (λ (n : Option Files). CutShort whole told n) (sym same) (at_once whole told))

-- the first of some items, and those after it
pub item_is : {T : Type 0} (left : List T) (x : T) → 1 ≤ length left → x ≡ get_or left 0 x → left ≡ x ∷ take (length left - 1) (drop 1 left)
item_is [] x some is = absurd (omega arith)
item_is (first ∷ rest) x some is =
    let enough : length rest ≤ length (first ∷ rest) - 1 = omega arith in
    ap (λ s. s ∷ rest) (sym is) ∙ ap (λ r. x ∷ r) (sym (take_all (length (first ∷ rest) - 1) rest enough))

-- no items are left
pub none_is_left : {T : Type 0} (left : List T) → length left < 1 → left ≡ []
none_is_left [] none = refl
none_is_left (x ∷ left) none = absurd (omega arith)

module _ {T : Type 0} (part : T → Plan → Plan) where
  -- one item more of those that are left
  pub part_more : (told between now : Option Files) (xs left after : List T) (x : T) (said text log : List ℕ) (result : Result (Unit {0}) Halt)
      → ((rest : Plan) → LeadsOn (each_in_turn part xs rest) (each_in_turn part left rest) said told text between)
      → left ≡ x ∷ after
      → ((rest : Plan) → Follows (part x rest) (λ _. rest) text between result log now)
      → (rest : Plan) → Follows (each_in_turn part xs rest) (λ _. each_in_turn part after rest) said told result log now
  part_more told between now xs left after x said text log result a is b rest =
      does_on (each_in_turn part xs rest) (part x (each_in_turn part after rest)) (λ _. each_in_turn part after rest) said text told between result log now
      (subst (λ (l : List T). LeadsOn (each_in_turn part xs rest) (each_in_turn part l rest) said told text between) is (a rest)) (b (each_in_turn part after rest))

  pub parts_done : (told now : Option Files) (xs left : List T) (said log : List ℕ)
      → ((rest : Plan) → LeadsOn (each_in_turn part xs rest) (each_in_turn part left rest) said told log now) → length left < 1
      → (rest : Plan) → LeadsOn (each_in_turn part xs rest) rest said told log now
  parts_done told now xs left said log a none rest = subst (λ (l : List T). LeadsOn (each_in_turn part xs rest) (each_in_turn part l rest) said told log now) (none_is_left left none) (a rest)

  -- what halts in a part halts in the whole
  pub part_halts : (told between now : Option Files) (xs left after : List T) (x : T) (said text log : List ℕ) (halt : Halt) (result : Result (Unit {0}) Halt)
      → IsErrAnd result (λ e. e ≡ halt)
      → ((rest : Plan) → LeadsOn (each_in_turn part xs rest) (each_in_turn part left rest) said told text between)
      → left ≡ x ∷ after
      → ((rest : Plan) → Follows {T = Unit {0}} (part x rest) (λ _. rest) text between (Err halt) log now)
      → (rest : Plan) → Follows (each_in_turn part xs rest) (λ _. rest) said told result log now
  part_halts told between now xs left after x said text log halt (Ok value) is a at b rest = absurd is
  part_halts told between now xs left after x said text log halt (Err e) is a at b rest =
      subst (λ (h : Halt). HaltsPlan (each_in_turn part xs rest) said told h log now) (sym is) (part_more told between now xs left after x said text log (Err halt) a at b rest)
