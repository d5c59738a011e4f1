-- What is asked of a schedule, in order. Definitions only.
use Rattle.std.specs.Prelude.{◌&&◌, List, [], ◌∷◌, ◌++◌, ℕ, leb, ltb}
use Rattle.decimal.specs.Decimal.{is_positive}
use Rattle.refusal.specs.declared.Refusal.TheVariants as no
use Rattle.refusal.specs.Questions.{Question, ask, each}
use Rattle.model.specs.declared.Segment.{Segment}
use Rattle.model.specs.declared.Schedule.{Schedule}
use Rattle.model.specs.Questions.{scale_question}
use Rattle.model.specs.TimeGrid.{segment_at, steps_through}

-- Rule 14.6: of segment i, with the steps up to its end: 13, its dt positive and its steps not 0;
-- 14, at most 4,096 steps; 1 of its dt
abbrev pub questions_of : Segment → ℕ → ℕ → List Question
questions_of s i total =
    ask (no.Segment i) (is_positive s.dt && ltb 0 s.steps)
    ∷ ask (no.TooManySteps i) (leb total 4096)
    ∷ scale_question s.dt
    ∷ []

-- Rule 14.6: of segment i
abbrev pub segment_questions : Schedule → ℕ → List Question
segment_questions g i = questions_of (segment_at g i) i (steps_through g i)

-- Rule 14.6: 11, one segment or more; 12, at most 64; then segment by segment
unfoldable pub schedule_questions : Schedule → List Question
schedule_questions g =
    (ask no.NoSegment (leb 1 g.count) ∷ ask no.TooManySegments (leb g.count 64) ∷ [])
    ++ each (segment_questions g) g.count
