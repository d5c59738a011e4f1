-- Question 17 in its three parts, and the exponential put together. Assumes nothing.
use mathlib.Core.Path.{◌≡◌, sym, ap, ◌∙◌, subst}
use mathlib.Core.Bool.{Bool, true, false, ◌&&◌}
use mathlib.Core.List.{List, ◌++◌}
use Prim.Native.Nat.{ℕ, ◌*◌}
use lib.ListN.{length, take}
use lib.Seq.{take_at}
use lib.Ieee.{Float}
use Rattle.std.specs.Bool.{then_some}
use Rattle.std.specs.declared.option.Option.{Option}
use Rattle.numeric.specs.Double.{plus, finite}
use Rattle.matrix.specs.Matrix.{scaled, all_finite}
use Rattle.exponential.specs.Norm.{norm1}
use Rattle.exponential.specs.Exponential.{two_to_minus, squarings, horner, squared}
use Rattle.exponential.specs.Exponential.{exponential_by, exponential, exponential_finite}
use Rattle.exponential.specs.Inner.Workspace.{exponentiated, Holds}

outcome_is :
    (n : ℕ) (a : List Float) (b c d : Bool) → finite (norm1 n a) ≡ b
    → finite (plus (norm1 n a) (norm1 n a)) ≡ c → all_finite (exponential n a) ≡ d
    → exponentiated n a ≡ then_some (b && (c && d)) (squarings (norm1 n a))
unfolding exponentiated exponential_finite
outcome_is n a b c d e f g = rw (e, f, g)

-- what is answered, where the norm and twice the norm are finite and `result` is the exponential
pub told :
    (n s : ℕ) (a result : List Float) (norm : Float) (b : Bool) → norm ≡ norm1 n a
    → finite norm ≡ true → finite (plus norm norm) ≡ true → s ≡ squarings norm
    → result ≡ exponential n a → b ≡ all_finite result → then_some b s ≡ exponentiated n a
told n s a result norm b q e f h r entries =
    ap (then_some b) (h ∙ ap squarings q)
    ∙ sym
    (outcome_is n a true true b (ap finite (sym q) ∙ e)
    (ap (λ (x : Float). finite (plus x x)) (sym q) ∙ f) (ap all_finite (sym r) ∙ sym entries))

-- and what stands in its place
pub stands :
    (b : Bool) (s : ℕ) (outcome : Option ℕ) (place result : List Float) → outcome ≡ then_some b s
    → place ≡ result → Holds outcome place result
stands true s outcome place result e p = subst (λ (o : Option ℕ). Holds o place result) (sym e) p
stands false s outcome place result e p = subst (λ (o : Option ℕ). Holds o place result) (sym e) tt

-- the scaled matrix, the polynomial and the squarings together
pub chained :
    (n s : ℕ) (factor : Float) (work first argument value after rest : List Float)
    → length after ≡ n * n → first ≡ take (n * n) work → factor ≡ two_to_minus s
    → argument ≡ scaled factor first → value ≡ horner n argument 18 → after ≡ squared n value s
    → take (n * n) (after ++ rest) ≡ exponential_by n (take (n * n) work) s
unfolding exponential_by
chained n s factor work first argument value after rest long w f p h r =
    take_at after rest (n * n) long
    ∙ r
    ∙ ap (λ (m : List Float). squared n m s)
    (h
    ∙ ap (λ (m : List Float). horner n m 18)
    (p ∙ ap (λ (x : Float). scaled x first) f ∙ ap (scaled (two_to_minus s)) w))

pub exponential_is :
    (n s : ℕ) (a : List Float) (norm : Float) → norm ≡ norm1 n a → s ≡ squarings norm
    → exponential_by n a s ≡ exponential n a
unfolding exponential
exponential_is n s a norm q e = ap (exponential_by n a) (e ∙ ap squarings q)
