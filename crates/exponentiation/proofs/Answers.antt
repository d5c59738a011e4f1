-- The questions of the matrix call, and what it promises where each of them ends it. Assumes
-- nothing.
use mathlib.Core.Path.{◌≡◌, refl, ap, ◌∙◌}
use mathlib.Core.Bool.{Bool, true, false, ◌&&◌, and-eq-true_iff}
use mathlib.Core.List.{List, [], ◌∷◌}
use Prim.Native.Nat.{ℕ, ◌*◌, ◌≤◌, ◌<◌}
use native.Mathlib.Omega.{arith}
use lib.Dec.{leb, eqb}
use lib.Ieee.{Float}
use borrow.Author.Tests.{leb-true, eqb-true}
use Rattle.refusal.specs.declared.Refusal.{Refusal}
use Rattle.std.specs.Prelude.{Option, Some, None, Ok, Err}
use Rattle.std.specs.Bool.{then_some}
use Rattle.std.specs.Option.{ok_or}
use Rattle.refusal.specs.declared.Refusal.TheVariants.{Exponential}
use Rattle.refusal.specs.Refusal.{number_of}
use Rattle.refusal.specs.Questions.{Question, ask, first_no, passed, KeptUnlessPassed}
use Rattle.refusal.proofs.Laws.{then, stops, passed_head, passed_tail, kept_same, kept_free}
use Rattle.refusal.proofs.Laws.{Each, first_has}
use Rattle.exponential.specs.Norm.{norm1}
use Rattle.exponential.specs.Exponential.{IsLeast, exponential, exponential_finite}
use Rattle.exponential.specs.Inner.Workspace.{exponentiated}
use Rattle.exponentiation.specs.Call.{MatrixInputs, shape_right, sizes_asked, size_questions}
use Rattle.exponentiation.specs.Call.{exponential_questions}
use Rattle.exponentiation.specs.Inner.Answer.{answer_of}
use Rattle.exponentiation.specs.Call.{exponential_call, exponential_table, ExponentialAnswered}

-- ---- 26

pub record Right (n input output : ℕ) : Type 0 where
  pub least : 1 ≤ n
  pub most : n ≤ 67
  pub input_is : input ≡ n * n
  pub output_is : output ≡ n * n

pub right : (n input output : ℕ) → shape_right n input output ≡ true → Right n input output
unfolding shape_right
right n input output e =
    let both = eqb input (n * n) && eqb output (n * n) in
    let p = (and-eq-true_iff (leb 1 n) (leb n 67 && both)).0 e in
    let q = (and-eq-true_iff (leb n 67) both).0 p.1 in
    let r = (and-eq-true_iff (eqb input (n * n)) (eqb output (n * n))).0 q.1 in
    record {
      least = leb-true 1 n p.0;
      most = leb-true n 67 q.0;
      input_is = eqb-true input (n * n) r.0;
      output_is = eqb-true output (n * n) r.1;
    }

-- ---- the sizes

-- 26 and 16 are passed
pub record Sized (n input output workspace : ℕ) : Type 0 where
  pub shape : Right n input output
  pub room : workspace ≡ 5 * (n * n)

pub sized :
    (n input output workspace : ℕ) → first_no (sizes_asked n input output workspace) ≡ passed
    → Sized n input output workspace
unfolding sizes_asked
sized n input output workspace e =
    record {
      shape = right n input output (passed_head _ _ e);
      room = eqb-true _ _ (passed_head _ _ (passed_tail _ _ e));
    }

-- ---- the answer, and what is written

-- which way the exponential went
is_false : (b : Bool) (s : ℕ) → None ≡ then_some b s → b ≡ false
is_false true s e = let never : ◌≡◌ {A = ℕ} 0 1 = cc in absurd (omega arith)
is_false false s e = refl

is_true : (b : Bool) (s t : ℕ) → Some s ≡ then_some b t → (b ≡ true) × (s ≡ t)
is_true true s t e = (refl, cc)
is_true false s t e = let never : ◌≡◌ {A = ℕ} 0 1 = cc in absurd (omega arith)

-- which way its answer went
pub none_by : (o : Option ℕ) (e r : Refusal) → ok_or o e ≡ Err r → (None ≡ o) × (r ≡ e)
none_by None e r h = (refl, cc)
none_by (Some s) e r h = let never : ◌≡◌ {A = ℕ} 0 1 = cc in absurd (omega arith)

pub some_by : (o : Option ℕ) (e : Refusal) (s : ℕ) → ok_or o e ≡ Ok s → Some s ≡ o
some_by None e s h = let never : ◌≡◌ {A = ℕ} 0 1 = cc in absurd (omega arith)
some_by (Some t) e s h = cc

module _ (i : MatrixInputs) where
  abbrev sizes : List Question
  sizes = size_questions i

  abbrev is_finite : Bool
  is_finite = exponential_finite i.dimension i.input

  abbrev last : Bool → List Question
  last b = ask Exponential b ∷ []

  refused_by :
      (r : Refusal) (after-work : List Float) → 0 < number_of r
      → first_no (exponential_questions i) ≡ Err r
      → KeptUnlessPassed (first_no sizes) i.workspace after-work
      → ExponentialAnswered i (answer_of (Err r)) i.output after-work
  unfolding exponential_call exponential_table
  refused_by r after-work h e kept =
      record {
        answer = rw e;
        least = λ q. absurd (omega (arith, h, q));
        output = rw e;
        workspace = kept;
      }

  abbrev Above : Refusal → Type 0
  Above r = 0 < number_of r

  each_above : Each Above sizes
  unfolding sizes_asked
  each_above = (omega arith, (omega arith, tt))

  pub sizes_refused :
      (r : Refusal) → first_no sizes ≡ Err r
      → ExponentialAnswered i (answer_of (Err r)) i.output i.workspace
  unfolding exponential_questions
  sizes_refused r e =
      refused_by r i.workspace (first_has Above sizes each_above r e) (stops sizes (last is_finite) r e)
      (kept_same (first_no sizes) i.workspace)

  module _ (told : first_no sizes ≡ passed) (after-work : List Float) where
    free : KeptUnlessPassed (first_no sizes) i.workspace after-work
    free = kept_free (first_no sizes) i.workspace after-work told

    at_17 : (b : Bool) → is_finite ≡ b → first_no (exponential_questions i) ≡ first_no (last b)
    unfolding exponential_questions
    at_17 b q = then sizes (last is_finite) told ∙ ap (λ (x : Bool). first_no (last x)) q

    pub not_finite :
        None ≡ exponentiated i.dimension i.input
        → ExponentialAnswered i (answer_of (Err Exponential)) i.output after-work
    unfolding exponentiated first_no
    not_finite q =
        refused_by Exponential after-work (omega arith) (at_17 false (is_false is_finite _ q)) free

    all_passed : is_finite ≡ true → first_no (exponential_questions i) ≡ passed
    unfolding first_no
    all_passed q = at_17 true q

    pub done :
        (s : ℕ) (after : List Float) → Some s ≡ exponentiated i.dimension i.input
        → after ≡ exponential i.dimension i.input → IsLeast (norm1 i.dimension i.input) s
        → ExponentialAnswered i (answer_of (Ok s)) after after-work
    unfolding exponentiated exponential_call exponential_table
    done s after q h few =
        let way = is_true is_finite _ _ q in
        let all = all_passed way.0 in
        record {
          answer = rw (all, way.1);
          least = λ zero. few;
          output = rw all h;
          workspace = free;
        }
