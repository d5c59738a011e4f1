-- The tables of a trace, point by point. Assumes nothing.
use mathlib.Core.Path.{◌≡◌, refl, sym, ap, subst, ◌∙◌}
use mathlib.Core.List.{List}
use mathlib.Core.Option.{none, some}
use mathlib.Core.Logic.{⊎_elim}
use Prim.Native.Nat.{ℕ, suc, ◌+◌, ◌*◌, ◌/◌, ◌%◌, ◌≤◌, ◌<◌}
use native.Mathlib.Nat.{div-add-mod', div-lt_iff_lt-mul, le-div_iff_mul-le, mod-lt, suc-mul}
use native.Mathlib.Nat.{mul-le-mul_right}
use native.Mathlib.Omega.{arith}
use lib.ListN.{length, get_or, set, length-set}
use lib.Seq.{get_or-take, get_or-set_same, get_or-set_other}
use lib.Ieee.{Float, nan}
use Rattle.numeric.proofs.Tables.{is_tabulate}
use Rattle.model.specs.declared.State.{State}
use Rattle.model.specs.Inner.InUse.{state_in_use}
use Rattle.model.specs.Walk.{Walk, Stop, state_after, stop_within, unless_stopped}
use Rattle.model.proofs.First.{split}
use Rattle.trace.specs.Trace.{Tables, tables, table_after, tables_after}
use Rattle.trace.specs.Inner.Points.{Sized, Written, PointWritten}

-- ---- a table with the points below m written
module _ (w : Walk) (point : ℕ → ℕ) (entry : State → ℕ → Float) (lent : List Float) where
  pub record Through (l : List Float) (m : ℕ) : Type 0 where
    pub long : length l ≡ length lent
    pub new :
        (x : ℕ) → x < length lent → point x < m → get_or l x nan ≡ entry (state_after w (point x)) x
    pub rest : (x : ℕ) → m ≤ point x → get_or l x nan ≡ get_or lent x nan

  pub through_none : Through lent 0
  through_none = record { long = refl; new = λ x h k. absurd (omega arith); rest = λ x h. refl }

  -- the next point is written, and nothing else
  pub through_next :
      (l l' : List Float) (m : ℕ) → Through l m → length l' ≡ length l
      → ((x : ℕ) → x < length lent → point x ≡ m → get_or l' x nan ≡ entry (state_after w m) x)
      → ((x : ℕ) → (point x ≡ m → ⊥) → get_or l' x nan ≡ get_or l x nan) → Through l' (m + 1)
  through_next l l' m h same here other =
      record {
        long = same ∙ h.long;
        new = λ x b k.
            ⊎_elim (λ (z : point x < m). other x (λ e. absurd (omega arith)) ∙ h.new x b z)
            (λ (z : m ≤ point x).
            let e : point x ≡ m = omega arith in
            here x b e ∙ ap (λ (j : ℕ). entry (state_after w j) x) (sym e))
            (split (point x) m);
        rest = λ x k. other x (λ e. absurd (omega arith)) ∙ h.rest x (omega arith);
      }

  -- where the walk stops at point m, or has no such point, the table is as it should be
  pub through_end :
      (l : List Float) (m : ℕ) (stop : Stop) → Through l m
      → ((j : ℕ) → j < m → stop_within w j ≡ none)
      → ((x : ℕ) → x < length lent → m ≤ point x → stop_within w (point x) ≡ some stop)
      → l ≡ table_after w point entry lent
  unfolding table_after
  through_end l m stop h going stops =
      is_tabulate nan (length lent) _ l h.long
      (λ x b.
      ⊎_elim (λ (z : point x < m). h.new x b z ∙ sym (rw (going (point x) z, unless_stopped)))
      (λ (z : m ≤ point x). h.rest x z ∙ sym (rw (stops x b z, unless_stopped)))
      (split (point x) m))

-- ---- the two kinds of table
abbrev pub factor_of : ℕ → State → ℕ → Float
factor_of n s x = get_or s.factors (x % n) nan

quotient_is : {n m x : ℕ} → 1 ≤ n → m * n ≤ x → x < suc m * n → x / n ≡ m
quotient_is one least most =
    omega (arith, (le-div_iff_mul-le one).1 least, (div-lt_iff_lt-mul one).1 most)

module _ (w : Walk) where
  -- one entry a point
  abbrev pub Points : (State → Float) → List Float → List Float → ℕ → Type 0
  Points look lent = Through w (λ x. x) (λ s x. look s) lent

  -- n entries a point
  abbrev pub Factors : ℕ → List Float → List Float → ℕ → Type 0
  Factors n lent = Through w (λ x. x / n) (factor_of n) lent

  pub points_next :
      (look : State → Float) (lent l : List Float) (m : ℕ) (v : Float) → Points look lent l m
      → m < length l → v ≡ look (state_after w m) → Points look lent (set l m v) (m + 1)
  points_next look lent l m v h k e =
      through_next w _ _ lent l (set l m v) m h (length-set l m v)
      (λ x b z. rw z (get_or-set_same l m v nan k ∙ e)) (λ x z. get_or-set_other l m x v nan z)

  pub factors_next :
      (n : ℕ) (values lent l l' : List Float) (m : ℕ) → 1 ≤ n → Factors n lent l m
      → length l' ≡ length l → Written (m * n) n values l l'
      → ((i : ℕ) → i < n → get_or values i nan ≡ get_or (state_after w m).factors i nan)
      → Factors n lent l' (m + 1)
  factors_next n values lent l l' m one h same k e =
      through_next w _ _ lent l l' m h same
      (λ x b z.
      let at : m * n + x % n ≡ x = ap (λ (j : ℕ). j * n + x % n) (sym z) ∙ div-add-mod' x n in
      ap (λ (j : ℕ). get_or l' j nan) (sym at) ∙ k.new (x % n) (mod-lt x one)
      ∙ e (x % n) (mod-lt x one))
      (λ x z.
      ⊎_elim (λ (y : x < m * n). k.front x y)
      (λ (y : m * n ≤ x).
      ⊎_elim (λ (t : x < suc m * n). absurd (z (quotient_is one y t)))
      (λ (t : suc m * n ≤ x). k.back x (omega (arith, suc-mul m n))) (split x (suc m * n)))
      (split x (m * n)))

-- the places of a point
pub point_fits :
    {total : ℕ} (l : List Float) (m : ℕ) → length l ≡ total + 1 → m ≤ total → m < length l
point_fits l m e h = omega arith

pub factors_fit :
    (n total : ℕ) (l : List Float) (m : ℕ) → length l ≡ (total + 1) * n → m ≤ total
    → m * n + n ≤ length l
factors_fit n total l m e h =
    let most : suc m * n ≤ (total + 1) * n = mul-le-mul_right n (omega arith) in
    omega (arith, suc-mul m n)

-- ---- the four tables
pub record AllThrough (w : Walk) (n : ℕ) (lent t : Tables) (m : ℕ) : Type 0 where
  pub spots : Points w (λ s. s.spot) lent.spots t.spots m
  pub variances : Points w (λ s. s.variance) lent.variances t.variances m
  pub z : Points w (λ s. s.z) lent.z t.z m
  pub factors : Factors w n lent.factors t.factors m

tables_same :
    {a a' b b' c c' d d' : List Float} → a ≡ a' → b ≡ b' → c ≡ c' → d ≡ d'
    → tables a b c d ≡ tables a' b' c' d'
tables_same e f g h = rw (e, f, g, h)

module _
    (w : Walk)
    (n total : ℕ)
    (lent : Tables)
    (one : 1 ≤ n)
    (size : Sized total n lent)
  where
    pub all_none : AllThrough w n lent lent 0
    all_none =
        record {
          spots = through_none w _ _ _;
          variances = through_none w _ _ _;
          z = through_none w _ _ _;
          factors = through_none w _ _ _;
        }

    -- a table of one entry a point, with the entry of point m set
    point_next :
        (look : State → Float) (table l l' : List Float) (s : State) (m : ℕ) → m ≤ total
        → length table ≡ total + 1 → Points w look table l m → l' ≡ set l m (look s)
        → look s ≡ look (state_after w m) → Points w look table l' (m + 1)
    point_next look table l l' s m most size h new e =
        subst (λ (x : List Float). Points w look table x (m + 1)) (sym new)
        (points_next w look table l m (look s) h (point_fits l m (h.long ∙ size) most) e)

    pub all_next :
        (t t' : Tables) (s : State) (m : ℕ) → m ≤ total → AllThrough w n lent t m
        → PointWritten n s m t t' → length t'.factors ≡ length t.factors
        → state_in_use n s ≡ state_after w m → AllThrough w n lent t' (m + 1)
    all_next t t' s m most h new same e =
        record {
          spots =
              point_next (λ s. s.spot) _ _ _ s m most size.spots h.spots new.spots
              (ap (λ (s : State). s.spot) e);
          variances =
              point_next (λ s. s.variance) _ _ _ s m most size.variances h.variances
              new.variances (ap (λ (s : State). s.variance) e);
          z =
              point_next (λ s. s.z) _ _ _ s m most size.z h.z new.z
              (ap (λ (s : State). s.z) e);
          factors =
              factors_next w n s.factors lent.factors t.factors t'.factors m one
              h.factors same new.factors
              (λ i b.
              sym (get_or-take n s.factors i nan b)
              ∙ ap (λ (s : State). get_or s.factors i nan) e);
        }

    -- the walk has stopped at point m, or point m is past the last one
    module _
        (m : ℕ)
        (stop : Stop)
        (going : (j : ℕ) → j < m → stop_within w j ≡ none)
        (stops : (j : ℕ) → m ≤ j → j ≤ total → stop_within w j ≡ some stop)
      where
        point_end :
            (look : State → Float) (table l : List Float) → length table ≡ total + 1
            → Points w look table l m → l ≡ table_after w (λ x. x) (λ s x. look s) table
        point_end look table l size h =
            through_end w _ _ table l m stop h going (λ x b z. stops x z (omega arith))

        factors_end :
            (l : List Float) → Factors w n lent.factors l m
            → l ≡ table_after w (λ x. x / n) (factor_of n) lent.factors
        factors_end l h =
            through_end w _ _ lent.factors l m stop h going
            (λ x b z.
            let q : x / n < total + 1 = (div-lt_iff_lt-mul one).1 (omega (arith, size.factors)) in
            stops (x / n) z (omega arith))

        pub all_end :
            (t : Tables) → w.simulation.kernel.n ≡ n → AllThrough w n lent t m
            → t ≡ tables_after w lent
        all_end t e h =
            tables_same (point_end (λ s. s.spot) _ _ size.spots h.spots)
            (point_end (λ s. s.variance) _ _ size.variances h.variances)
            (point_end (λ s. s.z) _ _ size.z h.z)
            (factors_end t.factors h.factors
            ∙ ap (λ (n : ℕ). table_after w (λ x. x / n) (factor_of n) lent.factors) (sym e))
