-- What is asked of a batch before 22, past its model: of its strike, its barrier, its paths, its
-- draws and its table. Definitions only.
use Rattle.std.specs.Prelude.{Bool, true, false, not, ◌&&◌, ◌||◌, List, [], ◌∷◌, ◌++◌}
use Rattle.std.specs.Prelude.{ℕ, ◌*◌, ◌%◌, eqb, leb}
use Rattle.decimal.specs.declared.Decimal.{Decimal}
use Rattle.decimal.specs.Decimal.{is_negative, is_positive, value}
use Rattle.refusal.specs.declared.Refusal.TheVariants.{Strike, Barrier, Paths, Pairs}
use Rattle.refusal.specs.declared.Refusal.TheVariants.{Draws, Lengths}
use Rattle.refusal.specs.Questions.{Question, ask}
use Rattle.model.specs.declared.TimeGrid.{TimeGrid}
use Rattle.model.specs.Questions.{scale_question}
use Rattle.walks.specs.Batch.{draws_needed}
use Rattle.estimates.specs.declared.Style.{Style}
use Rattle.estimates.specs.declared.Style.TheVariants.{Call, Put}
use Rattle.estimates.specs.declared.Payoff.{Payoff}
use Rattle.estimates.specs.declared.Payoff.TheVariants.{Vanilla, DownAndOut}

-- Rule 14.9: 18, a strike that is not negative, then 1 of it
abbrev pub strike_questions : Decimal → List Question
strike_questions strike = ask Strike (not (is_negative strike)) ∷ scale_question strike ∷ []

-- Rule 14.9: 27, a barrier above zero, then 1 of it
abbrev pub barrier_questions : Decimal → List Question
barrier_questions barrier = ask Barrier (is_positive barrier) ∷ scale_question barrier ∷ []

-- Rule 10.5: a flag that is set says put
abbrev pub style_of : Bool → Style
style_of true = Put
style_of false = Call

-- Rule 10.5: a call or a put at its strike as converted
abbrev pub vanilla_at : Style → Decimal → Payoff
vanilla_at style strike = Vanilla style (value strike)

-- Rule 10.5: a put at its strike that vanishes at its barrier, both as converted
abbrev pub down_and_out_at : Decimal → Decimal → Payoff
down_and_out_at strike barrier = DownAndOut (value strike) (value barrier)

-- Rule 14.10: 2 to 65,536 paths, and in a mirrored batch an even number of them
unfoldable pub paths_pass : Bool → ℕ → Bool
paths_pass mirrored paths = leb 2 paths && leb paths 65536 && (not mirrored || eqb (paths % 2) 0)

-- Rule 14.10: 28, of a mirrored batch: one pair alone has no error
abbrev pub pair_questions : Bool → ℕ → List Question
pair_questions true paths = ask Pairs (leb 4 paths) ∷ []
pair_questions false paths = []

-- Rule 14.10: 19, then 28
unfoldable pub path_questions : Bool → ℕ → List Question
unfolding paths_pass
path_questions mirrored paths =
    ask Paths (paths_pass mirrored paths) ∷ pair_questions mirrored paths

-- Rule 14.10: 20, exactly the draws needed; 21, a table of a row a path and a column a segment
abbrev pub length_questions : TimeGrid → Bool → ℕ → ℕ → ℕ → List Question
length_questions grid mirrored paths drawn lent =
    ask Draws (eqb drawn (draws_needed mirrored paths grid.total))
    ∷ ask Lengths (eqb lent (paths * grid.count))
    ∷ []

-- Rule 14.10: with so many draws and a table of so many doubles lent
abbrev pub batch_questions : TimeGrid → Bool → ℕ → ℕ → ℕ → List Question
batch_questions grid mirrored paths drawn lent =
    path_questions mirrored paths ++ length_questions grid mirrored paths drawn lent
