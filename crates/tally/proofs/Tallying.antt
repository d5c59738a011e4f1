-- The tally of the paths that have ended, row by row of their observations, and how many of them
-- are non-positive. Assumes nothing.
use mathlib.Core.Path.{◌≡◌, refl, sym, ◌∙◌, ap}
use mathlib.Core.List.{List, [], ◌∷◌}
use mathlib.Core.Bool.{cond}
use mathlib.Core.Option.{none}
use Prim.Native.Nat.{ℕ, zero, suc, ◌+◌, ◌≤◌, ◌<◌}
use native.Mathlib.Nat.{add-zero, add_assoc, add_comm}
use native.Mathlib.Numerals.{add-one}
use native.Mathlib.Omega.{arith}
use lib.Ieee.{Float, nan, le}
use lib.ListN.{get_or, length}
use Rattle.std.specs.Prelude.{count_by}
use Rattle.std.proofs.lemmas.List.Sums.{sum_by-cons}
use Rattle.walks.specs.declared.Observed.{Observed}
use Rattle.numeric.specs.Double.{plus_zero}
use Rattle.model.specs.Walk.{stop_within}
use Rattle.model.specs.Inner.Admitted.{Admitted}
use Rattle.model.proofs.Stops.{stop_finite}
use Rattle.walks.specs.Batch.{Batch, walk_of, non_positive_by, non_positive_paths, observation}
use Rattle.walks.proofs.Flags.{one_most}
use Rattle.walks.proofs.Fallen.{fallen_lowest}
use Rattle.estimates.specs.declared.Payoff.{Payoff}
use Rattle.estimates.specs.declared.Tally.{Tally}
use Rattle.estimates.specs.Payoff.{underlying_of}
use Rattle.estimates.specs.Inner.Tally.{with_path, tally_of}
use Rattle.estimates.proofs.Tallying.{tally_next}
use Rattle.tally.specs.Inner.Rows.{last_observation, with_rows, fallen_among, underlying_in}
use Rattle.tally.specs.Inner.Rows.{lowest_in, paid_in, tally_in}

-- no row, and one row more
pub rows_none :
    (t : Tally) (payoff : Payoff) (o : Observed) (rows : List Float) (count : ℕ)
    (lowest : List Float)
    → with_rows t payoff o rows count lowest 0 ≡ t
unfolding with_rows
rows_none t payoff o rows count lowest = refl

pub rows_more :
    (t : Tally) (payoff : Payoff) (o : Observed) (rows : List Float) (count : ℕ)
    (lowest : List Float) (n : ℕ)
    → with_rows t payoff o rows count lowest (n + 1)
    ≡ with_path payoff (with_rows t payoff o rows count lowest n)
    (underlying_of o (last_observation rows count (n + 1))) (get_or lowest n nan)
unfolding with_rows
rows_more t payoff o rows count lowest n = rw add-one refl

-- rows of the paths after `path` take the tally on to them
pub rows_tallied :
    (b : Batch) (payoff : Payoff) (path : ℕ) {t : Tally} (rows lowest : List Float) (n : ℕ)
    → t ≡ tally_in b payoff path
    → ((l : ℕ) → l < n
    → last_observation rows b.simulation.grid.count (suc l)
    ≡ observation b (suc (path + l)) b.simulation.grid.count)
    → ((l : ℕ) → l < n → get_or lowest l nan ≡ lowest_in b (suc (path + l)))
    → with_rows t payoff b.observed rows b.simulation.grid.count lowest n
    ≡ tally_in b payoff (path + n)
unfolding with_rows with_path tally_of
rows_tallied b payoff path rows lowest zero before same low =
    before ∙ ap (tally_in b payoff) (sym (add-zero path))
rows_tallied b payoff path rows lowest (suc n) before same low =
    let next : path + suc n ≡ suc (path + n) = omega arith in
    rw (
      rows_tallied b payoff path rows lowest n before
          (λ l h. same l (omega arith)) (λ l h. low l (omega arith)),
      same n (omega arith),
      low n (omega arith),
      next,
    )
    (tally_next (paid_in b payoff) (underlying_in b) b.mirrored (path + n))

-- ---- the non-positive paths

-- those of a list are its elements at or below zero
fallen_first :
    (x : Float) (xs : List Float) (n : ℕ)
    → fallen_among (x ∷ xs) (suc n) ≡ cond (le x plus_zero) 1 0 + fallen_among xs n
unfolding fallen_among
fallen_first x xs zero = add_comm 0 (cond (le x plus_zero) 1 0)
fallen_first x xs (suc n) =
    ap (λ (m : ℕ). m + cond (le (get_or xs n nan) plus_zero) 1 0) (fallen_first x xs n)
    ∙ add_assoc (cond (le x plus_zero) 1 0) (fallen_among xs n) _

pub fallen_counted :
    (lowest : List Float)
    → count_by (λ x. le x plus_zero) lowest ≡ fallen_among lowest (length lowest)
unfolding fallen_among
fallen_counted [] = refl
fallen_counted (x ∷ xs) =
    sum_by-cons (λ y. cond (le y plus_zero) 1 0) x xs
    ∙ ap (λ (m : ℕ). cond (le x plus_zero) 1 0 + m) (fallen_counted xs)
    ∙ sym (fallen_first x xs (length xs))

pub fallen_few : (lowest : List Float) (n : ℕ) → fallen_among lowest n ≤ n
unfolding fallen_among
fallen_few lowest zero = omega arith
fallen_few lowest (suc n) =
    omega (arith, fallen_few lowest n, one_most (le (get_or lowest n nan) plus_zero))

-- of paths after `path` that do not stop, those whose lowest spots are at or below zero
pub fallen_more :
    (b : Batch) → Admitted b.simulation → (path : ℕ) (lowest : List Float) (n : ℕ)
    → ((l : ℕ) → l < n
    → stop_within (walk_of b (suc (path + l))) b.simulation.grid.total ≡ none)
    → ((l : ℕ) → l < n → get_or lowest l nan ≡ lowest_in b (suc (path + l)))
    → non_positive_paths b (path + n) ≡ non_positive_paths b path + fallen_among lowest n
unfolding non_positive_paths fallen_among
fallen_more b ok path lowest zero going low =
    ap (non_positive_paths b) (add-zero path) ∙ sym (add-zero (non_positive_paths b path))
fallen_more b ok path lowest (suc n) going low =
    let next : path + suc n ≡ suc (path + n) = omega arith in
    let total = b.simulation.grid.total in
    let walk = walk_of b (suc (path + n)) in
    let here : non_positive_by walk total ≡ le (get_or lowest n nan) plus_zero =
    fallen_lowest walk ok total (stop_finite walk total (going n (omega arith)))
    ∙ ap (λ (x : Float). le x plus_zero) (sym (low n (omega arith))) in
    ap (non_positive_paths b) next
    ∙ rw (
      fallen_more b ok path lowest n (λ l h. going l (omega arith))
          (λ l h. low l (omega arith)),
      here,
    )
    (add_assoc (non_positive_paths b path) (fallen_among lowest n)
    (cond (le (get_or lowest n nan) plus_zero) 1 0))
