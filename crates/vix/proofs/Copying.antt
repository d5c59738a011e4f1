-- A part of the workspace that is copied to the front of a list. Assumes nothing.
use Rattle.std.proofs.Common.{◌≡◌, ℕ, ◌+◌, ◌-◌, ◌≤◌, List, ◌++◌, length, get_or, take, drop, ap}
use Rattle.std.proofs.Common.{◌∙◌, arith, get_or-take, get_or-drop, length-take-le, length-drop}
use Rattle.std.proofs.lemmas.List.{take_at}
use lib.Ieee.{Float, nan}
use Rattle.numeric.specs.Table.{tabulate}
use Rattle.numeric.proofs.Tables.{is_tabulate}

-- the count doubles at `at`, and what the list held behind them
module _ (count at : ℕ) (work : List Float) (fits : at + count ≤ length work) {copied : List Float}
    (part : copied ≡ take (at + count - at) (drop at work)) where
  pub copied_front : (rest : List Float) → take count (copied ++ rest)
      ≡ tabulate count (λ i. get_or work (at + i) nan)
  copied_front rest =
      let whole : at + count - at ≡ count = omega arith in
      let same : copied ≡ take count (drop at work) = part
      ∙ ap (λ (n : ℕ). take n (drop at work)) whole in
      let long : length copied ≡ count =
      ap length same ∙ length-take-le count (drop at work) (omega (arith, length-drop at work)) in
      take_at copied rest count long
      ∙ is_tabulate nan count _ copied long
      (λ i h. rw same (get_or-take count (drop at work) i nan h ∙ get_or-drop at work i nan))
