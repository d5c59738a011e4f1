-- Rule 18.13: the wrong cores that the batch's claim excludes, as its fields name them
-- (crates/batch/specs/Claim.antt). What each answers to a small admitted batch, or leaves in its
-- table, does not meet the claim. Each proof looks at one field of the claim, the one that says so.
use Rattle.std.specs.Prelude.{◌≡◌, ℕ, true, false, List, [], ◌∷◌, get_or, ◌≢◌, refl, Float}
use Rattle.std.proofs.Common.{sym, ap, ◌∙◌, arith, rules}
use Rattle.std.specs.Float.{nan}
use Rattle.std.specs.Float.Ieee.{lt, round, of_bits}
use Rattle.numeric.specs.Double.{plus_zero}
use Rattle.decimal.specs.Decimal.{value}
use Rattle.refusal.specs.Questions.{passed}
use Rattle.model.specs.Parameters.{start_of}
use Rattle.model.specs.TimeGrid.{grid_of}
use Rattle.model.specs.Walk.{state_after}
use Rattle.batch.specs.Claim.{BatchAnswer, OneTo, state_of, entry, BatchClaim}
use Rattle.vanilla.specs.Call.{VanillaInputs, vanilla_batch, vanilla_payoff}
use Rattle.figures.specs.Admitted.{nine, ten, level, twice, touched, lent, vanilla_asked}
use Rattle.figures.specs.Admitted.{nine_admitted, nine_passes, nine_report, nine_reaches}
use Rattle.figures.specs.Admitted.{level_admitted, level_passes, level_report}
use Rattle.figures.specs.Admitted.{touched_admitted, touched_passes, touched_price}
use Rattle.figures.specs.Admitted.{ten_admitted, ten_stops, ten_refused, ten_ends}
use Rattle.figures.specs.Admitted.{twice_admitted, twice_reaches}

-- the claim of a batch, of its table and its answer, as its call has it (`BatchAnswered`)
abbrev Claim : VanillaInputs → List Float → BatchAnswer → Type 0
Claim i after answer =
    vanilla_asked i ≡ passed → BatchClaim (vanilla_batch i) (vanilla_payoff i) lent after answer

-- it does not hold
abbrev Excluded : VanillaInputs → List Float → BatchAnswer → Type 0
Excluded i after answer = Claim i after answer → ⊥

first_of_one : OneTo 1 1
first_of_one = search rules

first_of_two : OneTo 2 1
first_of_two = search rules

second_of_two : OneTo 2 2
second_of_two = search rules

-- one double below another is not the same
apart : {x y : Float} → lt x y ≡ true → lt y y ≡ false → x ≢ y
apart below same e = cc

-- ---- a core that refuses everything

-- as non-finite, though each step is finite: by `exactly`
pub refuses_everything :
    (after : List Float) (answer : BatchAnswer) → answer.number ≡ 22 → Excluded nine after answer
refuses_everything after answer is-22 claim = nine_passes ((claim nine_admitted).exactly.0 is-22)

-- by any number: by `otherwise`
pub refuses_by_another_number :
    (after : List Float) (answer : BatchAnswer) → (answer.number ≢ 0)
    → Excluded nine after answer
refuses_by_another_number after answer refuses claim =
    refuses
    (ap (λ (a : BatchAnswer). a.number)
    ((claim nine_admitted).otherwise nine_passes ∙ nine_report))

-- so too as 24, at a path that there is not, with the steps that were taken
pub refuses_as_24 :
    (after doubles : List Float) (counts : List ℕ)
    → Excluded nine after
    (record {
      number = 24;
      place = 99 ∷ 7 ∷ 7 ∷ 7 ∷ [];
      doubles = doubles;
      counts = counts;
      steps = 2;
    })
refuses_as_24 after doubles counts =
    refuses_by_another_number after _ (λ is-0. omega (arith, is-0))

-- ---- a core that reports non-finite before the first step: by `names`
pub before_the_first_step :
    (after : List Float) (answer : BatchAnswer) → answer.number ≡ 22 → answer.steps ≡ 0
    → Excluded ten after answer
before_the_first_step after answer is-22 none claim =
    let named = (claim ten_admitted).names is-22 in
    omega (arith, none, named.taken, named.first.is_step.from)

-- ---- a core that works the first step and repeats that state: by `written.observed`
pub repeats_the_first_state :
    (after : List Float) (answer : BatchAnswer)
    → entry (vanilla_batch twice) after 1 1 ≡ (state_of (vanilla_batch twice) 1 1).spot
    → Excluded twice after answer
unfolding start_of grid_of state_after value round of_bits lt
repeats_the_first_state after answer repeated claim =
    let observed =
    (claim twice_admitted).written.observed 1 1 first_of_two first_of_one twice_reaches in
    apart refl refl (sym repeated ∙ observed)

-- ---- a core that writes no observation: by `written.observed`
pub writes_no_observation : (answer : BatchAnswer) → Excluded nine lent answer
unfolding start_of grid_of state_after value round of_bits lt
writes_no_observation answer claim =
    apart refl refl
    ((claim nine_admitted).written.observed 1 1 first_of_two first_of_one nine_reaches)

-- ---- a core with a fixed price, whatever it is: by `otherwise`
pub fixed_price :
    (price : Float) (after after' : List Float) (answer answer' : BatchAnswer)
    → get_or answer.doubles 0 nan ≡ price → get_or answer'.doubles 0 nan ≡ price
    → Claim nine after answer → Excluded level after' answer'
unfolding value round of_bits lt
fixed_price price after after' answer answer' fixed fixed' claim claim' =
    let first : BatchAnswer → Float = λ a. get_or a.doubles 0 nan in
    let is-25 = ap first ((claim nine_admitted).otherwise nine_passes ∙ nine_report) in
    let is-50 = ap first ((claim' level_admitted).otherwise level_passes ∙ level_report) in
    apart refl refl (sym is-25 ∙ fixed ∙ sym fixed' ∙ is-50)

-- ---- a core that pays a put whose path touched its barrier inside a segment: by `otherwise`
pub pays_after_a_touch :
    (after : List Float) (answer : BatchAnswer) → (get_or answer.doubles 0 nan ≢ plus_zero)
    → Excluded touched after answer
pays_after_a_touch after answer pays claim =
    pays
    (ap (λ (a : BatchAnswer). get_or a.doubles 0 nan)
    ((claim touched_admitted).otherwise touched_passes)
    ∙ touched_price)

-- ---- a core that invents the step total

-- of a batch that goes through: by `otherwise`
pub invents_the_total :
    (after : List Float) (answer : BatchAnswer) → (answer.steps ≢ 2)
    → Excluded nine after answer
invents_the_total after answer other claim =
    other
    (ap (λ (a : BatchAnswer). a.steps)
    ((claim nine_admitted).otherwise nine_passes ∙ nine_report))

-- and of one that stops: by `names`
pub invents_the_total_at_a_stop :
    (after : List Float) (answer : BatchAnswer) → answer.number ≡ 22 → (answer.steps ≢ 2)
    → Excluded ten after answer
unfolding start_of grid_of
invents_the_total_at_a_stop after answer is-22 other claim =
    let named = (claim ten_admitted).names is-22 in
    let stop = ten_stops named.path named.step named.quantity named.first in
    other (named.taken ∙ rw (stop.path, stop.step))

-- ---- a core that goes past a step that is not finite: by `exactly`
pub goes_past_the_stop :
    (after : List Float) (answer : BatchAnswer) → (answer.number ≢ 22)
    → Excluded ten after answer
goes_past_the_stop after answer other claim = other ((claim ten_admitted).exactly.1 ten_refused)

-- ---- a core that names another path, step or quantity: by `names`
pub names_another_place :
    (after : List Float) (answer : BatchAnswer) → answer.number ≡ 22
    → (answer.place ≢ 2 ∷ 1 ∷ 1 ∷ answer.steps ∷ []) → Excluded ten after answer
unfolding start_of grid_of
names_another_place after answer is-22 other claim =
    let named = (claim ten_admitted).names is-22 in
    let stop = ten_stops named.path named.step named.quantity named.first in
    other (named.named ∙ rw (stop.path, stop.step, stop.quantity))

-- ---- a core that writes at the stop: by `written.untouched`
pub writes_at_the_stop :
    (after : List Float) (answer : BatchAnswer)
    → (entry (vanilla_batch ten) after 2 1 ≢ plus_zero) → Excluded ten after answer
unfolding start_of grid_of
writes_at_the_stop after answer other claim =
    other ((claim ten_admitted).written.untouched 2 1 second_of_two first_of_one ten_ends)
