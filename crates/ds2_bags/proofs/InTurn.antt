-- One more answer of the one thread's.
use Rattle.std.proofs.Common.{◌≡◌, ◌<◌, ◌+◌, ◌-◌, ℕ, suc, List, [], ◌∷◌, ◌++◌, Bool, true, false, ap, ◌∙◌, sym, arith, Option, Some, None}
use Rattle.std.specs.Prelude.{if◌then◌else◌}
use Rattle.std.proofs.lemmas.List.{append_assoc, append-nil}
use Rattle.ds2_schedule.specs.Schedule.{one_thread, up_to_fault}
use Rattle.ds2_bags.specs.declared.group_end.GroupEnd.{GroupEnd}
use Rattle.ds2_bags.specs.StageEnds.{program_of_job, first_faulted}
use Rattle.ds2_bags.specs.Endings.{ended_by_fault}

-- what is left of m groups from g on is the answer of g and what is left behind it
one_more : (m g : ℕ) → g < m → m - g ≡ suc (m - (g + 1))
one_more m g low = omega arith

turn_here : (answer : ℕ → GroupEnd) (m g : ℕ) → g < m → one_thread (program_of_job answer) tt g (m - g) ≡ up_to_fault (ended_by_fault (answer g).ending) (answer g) (one_thread (program_of_job answer) tt (g + 1) (m - (g + 1)))
turn_here answer m g low = ap (one_thread (program_of_job answer) tt g) (one_more m g low)

fault_here : (answer : ℕ → GroupEnd) (m g : ℕ) → g < m → first_faulted answer g (m - g) ≡ (if ended_by_fault (answer g).ending then Some g else first_faulted answer (g + 1) (m - (g + 1)))
fault_here answer m g low = ap (first_faulted answer g) (one_more m g low)

-- behind an answer that is no fault the others follow
pub turn_goes_on : (answer : ℕ → GroupEnd) (m g : ℕ) (ends now : List GroupEnd) (end : GroupEnd) → g < m → end ≡ answer g → ended_by_fault end.ending ≡ false
    → now ≡ ends ++ end ∷ [] → ends ++ one_thread (program_of_job answer) tt g (m - g) ≡ one_thread (program_of_job answer) tt 0 m
    → now ++ one_thread (program_of_job answer) tt (g + 1) (m - (g + 1)) ≡ one_thread (program_of_job answer) tt 0 m
turn_goes_on answer m g ends now end low is calm pushed before =
    let rest = one_thread (program_of_job answer) tt (g + 1) (m - (g + 1)) in
    let here : up_to_fault (ended_by_fault (answer g).ending) (answer g) rest ≡ end ∷ rest =
    ap {B = List GroupEnd} (λ (e : GroupEnd). up_to_fault (ended_by_fault e.ending) e rest) (sym is) ∙ ap {B = List GroupEnd} (λ (b : Bool). up_to_fault b end rest) calm in
    ap {B = List GroupEnd} (λ (xs : List GroupEnd). xs ++ rest) pushed ∙ append_assoc ends (end ∷ []) rest ∙ ap {B = List GroupEnd} (λ (xs : List GroupEnd). ends ++ xs) (sym (turn_here answer m g low ∙ here)) ∙ before

pub fault_goes_on : (answer : ℕ → GroupEnd) (m g : ℕ) (end : GroupEnd) → g < m → end ≡ answer g → ended_by_fault end.ending ≡ false
    → first_faulted answer g (m - g) ≡ first_faulted answer 0 m → first_faulted answer (g + 1) (m - (g + 1)) ≡ first_faulted answer 0 m
fault_goes_on answer m g end low is calm before =
    let rest = first_faulted answer (g + 1) (m - (g + 1)) in
    let none : ended_by_fault (answer g).ending ≡ false = ap {B = Bool} (λ (e : GroupEnd). ended_by_fault e.ending) (sym is) ∙ calm in
    sym (fault_here answer m g low ∙ ap {B = Option ℕ} (λ (b : Bool). if b then Some g else rest) none) ∙ before

-- a fault is the last answer
pub turn_ends : (answer : ℕ → GroupEnd) (m g : ℕ) (ends now : List GroupEnd) (end : GroupEnd) → g < m → end ≡ answer g → ended_by_fault end.ending ≡ true
    → now ≡ ends ++ end ∷ [] → ends ++ one_thread (program_of_job answer) tt g (m - g) ≡ one_thread (program_of_job answer) tt 0 m
    → now ≡ one_thread (program_of_job answer) tt 0 m
turn_ends answer m g ends now end low is fault pushed before =
    let rest = one_thread (program_of_job answer) tt (g + 1) (m - (g + 1)) in
    let here : up_to_fault (ended_by_fault (answer g).ending) (answer g) rest ≡ end ∷ [] =
    ap {B = List GroupEnd} (λ (e : GroupEnd). up_to_fault (ended_by_fault e.ending) e rest) (sym is) ∙ ap {B = List GroupEnd} (λ (b : Bool). up_to_fault b end rest) fault in
    pushed ∙ ap {B = List GroupEnd} (λ (xs : List GroupEnd). ends ++ xs) (sym (turn_here answer m g low ∙ here)) ∙ before

pub fault_ends : (answer : ℕ → GroupEnd) (m g : ℕ) (end : GroupEnd) → g < m → end ≡ answer g → ended_by_fault end.ending ≡ true
    → first_faulted answer g (m - g) ≡ first_faulted answer 0 m → Some g ≡ first_faulted answer 0 m
fault_ends answer m g end low is fault before =
    let rest = first_faulted answer (g + 1) (m - (g + 1)) in
    let here : ended_by_fault (answer g).ending ≡ true = ap {B = Bool} (λ (e : GroupEnd). ended_by_fault e.ending) (sym is) ∙ fault in
    sym (fault_here answer m g low ∙ ap {B = Option ℕ} (λ (b : Bool). if b then Some g else rest) here) ∙ before

-- where no group is left, the answers are all
pub turn_is_over : (answer : ℕ → GroupEnd) (m g : ℕ) (ends : List GroupEnd) → m - g ≡ 0
    → ends ++ one_thread (program_of_job answer) tt g (m - g) ≡ one_thread (program_of_job answer) tt 0 m → ends ≡ one_thread (program_of_job answer) tt 0 m
turn_is_over answer m g ends over before =
    sym (append-nil ends) ∙ ap {B = List GroupEnd} (λ (n : ℕ). ends ++ one_thread (program_of_job answer) tt g n) (sym over) ∙ before

pub no_fault_is_left : (answer : ℕ → GroupEnd) (m g : ℕ) → m - g ≡ 0 → first_faulted answer g (m - g) ≡ first_faulted answer 0 m → None ≡ first_faulted answer 0 m
no_fault_is_left answer m g over before = ap {B = Option ℕ} (first_faulted answer g) (sym over) ∙ before
