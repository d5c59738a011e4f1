-- Powers of two as doubles, and the search for the number of squarings. Assumes nothing.
use mathlib.Core.Path.{◌≡◌, refl, sym, ap, ◌∙◌, subst, subst₂}
use mathlib.Core.Bool.{Bool, true, false, not, ◌&&◌, ◌||◌, true≢false}
use mathlib.Core.List.{List}
use Prim.Native.Nat.{ℕ, suc, ◌+◌, ◌-◌, ◌*◌, ◌^◌, ◌≤◌, ◌<◌}
use native.Mathlib.Nat.{le_of_lt, le_antisymm, mul_assoc, mul-one, one-mul, mul-pos}
use native.Mathlib.Nat.{mul-le-mul_right}
use native.Mathlib.Numerals.{add-one}
use native.Mathlib.Decide.{dec_le}
use native.Mathlib.Omega.{arith}
use lib.Dec.{T, ltb, eqb, lit<}
use lib.IntN.{pos, negsuc}
use lib.ListN.{get_or}
use lib.Ieee.{Float, nan, inf, fin, binary64, up, down, minus, round, add, mul, level, lt, le}
use lib.Ieee.Fits.{up_pos, down_pos}
use lib.Ieee.Order.{round_mono}
use borrow.Author.Tests.{ltb-true, ltb-false, lt-ltb, le-ltb, eq-eqb, ne_eqb}
use Rattle.numeric.specs.Double.{plus, times, one, finite}
use Rattle.numeric.specs.Table.{tabulate}
use Rattle.numeric.proofs.Tables.{get_d_tabulate}
use Rattle.exponential.specs.Exponential.{half_two_to, two_to_minus, first_enough, squarings}

-- ---- doubling and halving are exact: computed for each of the powers that can come up

abbrev pub two : Float
two = fin false 1 (pos 1)

abbrev pub half : Float
half = fin false 1 (negsuc 0)

doubles : tabulate 1024 (λ s. times (half_two_to s) two) ≡ tabulate 1024 (λ s. half_two_to (s + 1))
unfolding tabulate mul
doubles = refl

halves :
    tabulate 1024 (λ s. times (two_to_minus s) half) ≡ tabulate 1024 (λ s. two_to_minus (s + 1))
unfolding tabulate mul
halves = refl

from_list :
    (f g : ℕ → Float) (many : ℕ) → tabulate many f ≡ tabulate many g → (s : ℕ) → s < many
    → f s ≡ g s
from_list f g many e s h =
    sym (get_d_tabulate many s f nan h)
    ∙ ap (λ (l : List Float). get_or l s nan) e
    ∙ get_d_tabulate many s g nan h

pub doubled : (s : ℕ) → s < 1024 → times (half_two_to s) two ≡ half_two_to (s + 1)
doubled = from_list (λ s. times (half_two_to s) two) (λ s. half_two_to (s + 1)) 1024 doubles

pub halved : (s : ℕ) → s < 1024 → times (two_to_minus s) half ≡ two_to_minus (s + 1)
halved = from_list (λ s. times (two_to_minus s) half) (λ s. two_to_minus (s + 1)) 1024 halves

-- ---- the largest norm: where twice the norm is finite, it is below 2 ^ 1023

twice : (p m d : ℕ) → p * d ≤ m → 2 * p * (d * d) ≤ (m * d + m * d) * 1
twice p m d h =
    let e : 2 * p * (d * d) ≡ 2 * (p * d * d) =
    mul_assoc 2 p (d * d) ∙ ap (λ (x : ℕ). 2 * x) (sym (mul_assoc p d d)) in
    rw e (omega (arith, mul-le-mul_right d h))

above_infinity : (y : Float) → T (le (inf false) y) → finite y ≡ true → ⊥
unfolding le
above_infinity nan h e = true≢false (sym e)
above_infinity (inf s) h e = true≢false (sym e)
above_infinity (fin s m d) h e = h

overflows : round binary64 false (2 * 2 ^ 1023) 1 ≡ inf false
unfolding round
overflows = refl

pub not_over :
    (norm : Float) → finite (plus norm norm) ≡ true → lt (half_two_to 1024) norm ≡ true → ⊥
unfolding lt add
not_over nan f l = true≢false (sym l)
not_over (inf true) f l = true≢false (sym l)
not_over (inf false) f l = true≢false (sym f)
not_over (fin true m e) f l = true≢false (sym l)
not_over (fin false m e) f l =
    let a = m * up e * down e in
    above_infinity (round binary64 false (a + a) (down e * down e))
    (subst (λ (x : Float). T (le x (round binary64 false (a + a) (down e * down e)))) overflows
    (round_mono binary64 (2 * 2 ^ 1023) 1 (a + a) (down e * down e) (lit< tt)
    (mul-pos (down_pos e) (down_pos e)) (twice (2 ^ 1023) (m * up e) (down e) large)))
    f
  where
    large : 2 ^ 1023 * down e ≤ m * up e
    large =
        le_of_lt
        (subst₂ (λ (x y : ℕ). x * down e < y) (one-mul (2 ^ 1023)) (mul-one (m * up e))
        (ltb-true (1 * 2 ^ 1023 * down e) (m * up e * 1) l))

-- ---- the test: norm ≤ bound is the opposite of bound < norm, for a bound that is a power of two
-- and a norm that is finite

opposite : (a b : ℕ) (t : Bool) → ltb b a ≡ t → (ltb a b || (eqb a b && true)) ≡ not t
opposite a b true e =
    rw
    (le-ltb a b (le_of_lt (ltb-true b a e)), ne_eqb a b (λ (q : a ≡ b). differ q (ltb-true b a e)))
  where
    differ : a ≡ b → b < a → ⊥
    differ q h = omega arith
opposite a b false e = go (dec_le b a)
  where
    go : Dec (b ≤ a) → (ltb a b || (eqb a b && true)) ≡ true
    go (yes h) =
        let q : a ≡ b = le_antisymm (ltb-false b a e) h in
        rw (le-ltb a b h, eq-eqb a b q)
    go (no h) = rw (lt-ltb a b (omega arith))

pub tested :
    (norm : Float) (s : ℕ) (t : Bool) → finite (plus norm norm) ≡ true → lt (half_two_to s) norm ≡ t
    → le norm (half_two_to s) ≡ not t
unfolding lt le add
tested nan s t f l = absurd (true≢false (sym f))
tested (inf true) s t f l = absurd (true≢false (sym f))
tested (inf false) s t f l = absurd (true≢false (sym f))
tested (fin false m e) s t f l =
    opposite (m * up e * down (minus s 1)) (1 * up (minus s 1) * down e) t l
tested (fin true m e) s t f l =
    ap (λ (b : Bool). b || level true a false b')
    (lt-ltb 0 (a + b')
    (positive a b' (mul-pos (mul-pos (lit< tt) (up_pos (minus s 1))) (down_pos e))))
    ∙ ap not l
  where
    a : ℕ
    a = m * up e * down (minus s 1)

    b' : ℕ
    b' = 1 * up (minus s 1) * down e

    positive : (x y : ℕ) → 0 < y → 0 < x + y
    positive x y h = omega arith

-- ---- the search

module _ (norm : Float) (many s : ℕ) where
  turn :
      first_enough (many + 1) s norm
      ≡ elim (le norm (half_two_to s)) as (λ b. ℕ)
      [ true ↦ s | false ↦ first_enough many (suc s) norm ]
  unfolding first_enough
  turn = ap (λ (k : ℕ). first_enough k s norm) (add-one many)

  pub search_more :
      le norm (half_two_to s) ≡ false → first_enough (many + 1) s norm
      ≡ first_enough many (s + 1) norm
  search_more e =
      turn
      ∙ ap (λ (b : Bool). elim b as (λ b. ℕ) [ true ↦ s | false ↦ first_enough many (suc s) norm ])
      e
      ∙ ap (λ (k : ℕ). first_enough many k norm) (sym (add-one s))

  pub search_found : le norm (half_two_to s) ≡ true → first_enough (many + 1) s norm ≡ s
  search_found e =
      turn
      ∙ ap (λ (b : Bool). elim b as (λ b. ℕ) [ true ↦ s | false ↦ first_enough many (suc s) norm ])
      e

-- where the search stands: it goes on at s, with 2^-s and 0.5 × 2^s
pub record Searching (norm : Float) (s : ℕ) (factor bound : Float) : Type 0 where
  pub most : s ≤ 1024
  pub factor_is : factor ≡ two_to_minus s
  pub bound_is : bound ≡ half_two_to s
  pub rest : first_enough (1024 - s + 1) s norm ≡ squarings norm

pub searching_none : (norm : Float) → Searching norm 0 one half
unfolding squarings
searching_none norm = record { most = omega arith; factor_is = refl; bound_is = refl; rest = refl }

module _
    (norm : Float) (s : ℕ) (factor bound : Float) (small : finite (plus norm norm) ≡ true)
    (p : Searching norm s factor bound) where
  pub searching_under : lt bound norm ≡ true → s < 1024
  searching_under l = go (dec_le 1024 s)
    where
      go : Dec (1024 ≤ s) → s < 1024
      go (yes h) =
          let q : s ≡ 1024 = le_antisymm p.most h in
          absurd
          (not_over norm small
          (ap (λ (k : ℕ). lt (half_two_to k) norm) (sym q)
          ∙ ap (λ (x : Float). lt x norm) (sym p.bound_is)
          ∙ l))
      go (no h) = omega arith

  pub searching_more :
      lt bound norm ≡ true → Searching norm (s + 1) (times factor half) (times bound two)
  searching_more l =
      let h = searching_under l in
      let left : 1024 - s ≡ 1024 - (s + 1) + 1 = omega arith in
      record {
        most = omega arith;
        factor_is = ap (λ (x : Float). times x half) p.factor_is ∙ halved s h;
        bound_is = ap (λ (x : Float). times x two) p.bound_is ∙ doubled s h;
        rest = ap (λ (k : ℕ). first_enough k (s + 1) norm) (sym left)
            ∙ sym
            (search_more norm (1024 - s) s
            (tested norm s true small (ap (λ (x : Float). lt x norm) (sym p.bound_is) ∙ l)))
            ∙ p.rest;
      }

  pub searching_done : lt bound norm ≡ false → s ≡ squarings norm
  searching_done l =
      sym
      (search_found norm (1024 - s) s
      (tested norm s false small (ap (λ (x : Float). lt x norm) (sym p.bound_is) ∙ l)))
      ∙ p.rest
