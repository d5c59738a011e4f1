-- The matrix call: its questions, its answer, and what it leaves in the matrix and the workspace
-- that it is lent, for all inputs. Definitions only.
use Rattle.std.specs.Prelude.{◌≡◌, Bool, ◌&&◌, List, [], ◌∷◌, ◌++◌, ℕ, ◌*◌, leb, eqb, length, Float}
use Rattle.refusal.specs.declared.Refusal.{Refusal}
use Rattle.refusal.specs.declared.Refusal.TheVariants.{Matrix, Workspace, Exponential}
use Rattle.refusal.specs.Refusal.{number_of, no_place, place_of}
use Rattle.refusal.specs.Questions.{Question, ask, first_no}
use Rattle.refusal.specs.Questions.{once_asked, written_once_asked, KeptUnlessPassed}
use Rattle.exponential.specs.Norm.{norm1}
use Rattle.exponential.specs.Exponential.{squarings, IsLeast, exponential, exponential_finite}
use Rattle.exponentiation.specs.declared.Exponentiation.{Exponentiation}

-- Rule 15.6: what the call is given, a dimension and a matrix, and what it is lent, a matrix for
-- the result and a workspace
pub record MatrixInputs : Type 0 where
  pub dimension : ℕ
  pub input : List Float
  pub output : List Float
  pub workspace : List Float

-- Rule 15.6: what it is given
abbrev pub matrix_inputs : ℕ → List Float → List Float → List Float → MatrixInputs
matrix_inputs dimension input output workspace =
    record { dimension = dimension; input = input; output = output; workspace = workspace }

-- ---- the questions

-- Rule 14.14, 26: a dimension from 1 to 67, and an input and an output as long as its square
unfoldable pub shape_right : ℕ → ℕ → ℕ → Bool
shape_right n input output = leb 1 n && (leb n 67 && (eqb input (n * n) && eqb output (n * n)))

-- Rule 14.14: 26, then 16, a workspace that is 5 × dimension² long, of matrices and a workspace of
-- so many doubles
unfoldable pub sizes_asked : ℕ → ℕ → ℕ → ℕ → List Question
unfolding shape_right
sizes_asked n input output workspace =
    ask Matrix (shape_right n input output)
    ∷ ask Workspace (eqb workspace (5 * (n * n)))
    ∷ []

-- Rule 14.14: of what is given and lent
abbrev pub size_questions : MatrixInputs → List Question
size_questions i = sizes_asked i.dimension (length i.input) (length i.output) (length i.workspace)

-- Rule 14.14: these, then 17, a finite exponential of the input
unfoldable pub exponential_questions : MatrixInputs → List Question
unfolding sizes_asked exponential_finite
exponential_questions i =
    size_questions i ++ (ask Exponential (exponential_finite i.dimension i.input) ∷ [])

-- ---- the answer

-- Rule 17.2: of an answered call, the number of squarings
abbrev pub answered : ℕ → Exponentiation
answered count = record { number = 0; place = no_place; squarings = count }

-- Rule 17.2: of a refused call, the number and the place of its refusal, and no squarings
abbrev pub refused : Refusal → Exponentiation
refused refusal = record { number = number_of refusal; place = place_of refusal; squarings = 0 }

-- Rule 15.6: the answer
unfoldable pub exponential_call : MatrixInputs → Exponentiation
unfolding exponential_questions squarings norm1
exponential_call i =
    once_asked (first_no (exponential_questions i)) refused
    (answered (squarings (norm1 i.dimension i.input)))

-- Rule 16.4: the lent matrix after the call
unfoldable pub exponential_table : MatrixInputs → List Float
unfolding exponential_questions exponential
exponential_table i =
    written_once_asked (first_no (exponential_questions i)) i.output
    (exponential i.dimension i.input)

-- ---- all that the call promises: of its answer, of the number of squarings where it is answered,
-- and of the lent matrix and the workspace as it leaves them (Rules 15.6, 12.3, 16.4 and 16.5)
pub record ExponentialAnswered
    (i : MatrixInputs) (r : Exponentiation) (after after-work : List Float) : Type 0 where
  pub answer : r ≡ exponential_call i
  pub least : r.number ≡ 0 → IsLeast (norm1 i.dimension i.input) r.squarings
  pub output : after ≡ exponential_table i
  pub workspace : KeptUnlessPassed (first_no (size_questions i)) i.workspace after-work
