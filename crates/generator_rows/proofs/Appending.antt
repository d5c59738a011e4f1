-- Lists written from the front on, piece by piece. Assumes nothing.
use mathlib.Core.Path.{◌≡◌, refl, sym, ap, ◌∙◌, subst}
use mathlib.Core.List.{List, [], ◌∷◌, ◌++◌, append_assoc, append-nil}
use Prim.Native.Nat.{ℕ, zero, suc, ◌+◌, ◌-◌, ◌*◌, ◌<◌, ◌≤◌}
use native.Mathlib.Nat.{add-zero, zero-add, add-mul, suc-mul, zero-mul}
use native.Mathlib.Numerals.{add-one}
use native.Mathlib.Omega.{arith}
use lib.ListN.{length, take, set, length-append}
use lib.Seq.{take-suc-set}
use lib.Ieee.{Float}
use Rattle.generator_rows.specs.State.{pairs_before, joined, pairs_of_row, pairs_of_rows}
use Rattle.generator_rows.specs.State.{in_state_order, integral_at, constant_at, dimension}
use Rattle.generator_rows.specs.Inner.Appended.{Appended}

-- ---- nothing, one double, and one piece after the other

pub appended_none : (at : ℕ) (l : List Float) → Appended at [] l l
appended_none at l =
    record { front = ap (λ (n : ℕ). take n l) (add-zero at) ∙ sym (append-nil (take at l)) }

pub appended_one :
    (at : ℕ) (l : List Float) (x : Float) → at < length l → Appended at (x ∷ []) l (set l at x)
appended_one at l x h = record { front = rw add-one (take-suc-set l at x h) }

pub appended_then :
    {at at' : ℕ} {a b x y z : List Float} → Appended at a x y → Appended at' b y z
    → at' ≡ at + length a → Appended at (a ++ b) x z
appended_then {at} {at'} {a} {b} {x} {y} {z} h l e =
    record {
      front =
          ap (λ (n : ℕ). take n z) longer
          ∙ l.front
          ∙ ap (λ (s : List Float). s ++ b) (ap (λ (n : ℕ). take n y) e ∙ h.front)
          ∙ append_assoc (take at x) a b;
    }
  where
    longer : at + length (a ++ b) ≡ at' + length b
    longer = omega (arith, length-append a b)

-- what is written at the very front is the front
pub is_front :
    {n : ℕ} {new : List Float} (x y : List Float) → take n y ≡ new → length new ≡ n
    → Appended 0 new x y
is_front {n} {new} x y h e =
    record { front = ap (λ (m : ℕ). take m y) (zero-add (length new) ∙ e) ∙ h }

pub front_is : {n : ℕ} {new x y : List Float} → Appended 0 new x y → length new ≡ n → take n y ≡ new
front_is {n} {new} {x} {y} h e =
    ap (λ (m : ℕ). take m y) (sym e ∙ sym (zero-add (length new))) ∙ h.front

-- ---- one more of those that are joined

module _ (f : ℕ → List Float) where
  pub joined_none : {at : ℕ} {l : List Float} → Appended at (joined f 0) l l
  unfolding joined
  joined_none {at} {l} = appended_none at l

  pub joined_more :
      {at at' i : ℕ} {x y z : List Float} → Appended at (joined f i) x y → Appended at' (f i) y z
      → at' ≡ at + length (joined f i) → Appended at (joined f (i + 1)) x z
  unfolding joined
  joined_more {at} {at'} {i} h l e = rw (add-one i) (appended_then h l e)

  -- one double more
  pub joined_store :
      {at at' i : ℕ} {x y : List Float} {v : Float} → Appended at (joined f i) x y → at' < length y
      → v ∷ [] ≡ f i → at' ≡ at + length (joined f i)
      → Appended at (joined f (i + 1)) x (set y at' v)
  joined_store {at} {at'} {i} {x} {y} {v} h l e a =
      joined_more h (subst (λ (new : List Float). Appended at' new y (set y at' v)) e
      (appended_one at' y v l)) a

-- ---- how long they are

module _ (d : ℕ) where
  pub length_joined :
      (f : ℕ → List Float) (n : ℕ) → ((i : ℕ) → length (f i) ≡ d) → length (joined f n) ≡ n * d
  unfolding joined
  length_joined f zero h = sym (zero-mul d)
  length_joined f (suc n) h =
      length-append (joined f n) (f n) ∙ omega (arith, length_joined f n h, h n, suc-mul n d)

  module _ (pair : ℕ → ℕ → List Float) (h : (i j : ℕ) → length (pair i j) ≡ d) where
    pub length_of_row : (i k : ℕ) → length (pairs_of_row pair i k) ≡ k * d
    unfolding pairs_of_row
    length_of_row i k = length_joined (λ m. pair i (i + m)) k (λ m. h i (i + m))

    pub length_of_rows : (n i : ℕ) → length (pairs_of_rows pair n i) ≡ pairs_before n i * d
    unfolding pairs_of_rows pairs_before joined
    length_of_rows n zero = sym (zero-mul d)
    length_of_rows n (suc i) =
        length-append (pairs_of_rows pair n i) (pairs_of_row pair i (n - i))
        ∙ omega (
          arith,
          length_of_rows n i,
          length_of_row i (n - i),
          add-mul (pairs_before n i)
              (n - i) d,
        )

pub length_singles : (f : ℕ → Float) (n : ℕ) → length (joined (λ i. f i ∷ []) n) ≡ n
length_singles f n = length_joined 1 (λ i. f i ∷ []) n (λ i. refl) ∙ omega arith

-- one double more of those that are joined one by one
pub single_store :
    (f : ℕ → Float) {at at' i : ℕ} {x y : List Float} {v : Float}
    → Appended at (joined (λ i. f i ∷ []) i) x y → at' < length y → v ∷ [] ≡ f i ∷ [] → at' ≡ at + i
    → Appended at (joined (λ i. f i ∷ []) (i + 1)) x (set y at' v)
single_store f {at} {at'} {i} h l e o =
    joined_store (λ i. f i ∷ []) h l e (o ∙ ap (λ (n : ℕ). at + n) (sym (length_singles f i)))

-- and of the pairs of a row
pub pair_none :
    (pair : ℕ → ℕ → List Float) (i at : ℕ) (l : List Float)
    → Appended at (pairs_of_row pair i (i - i)) l l
unfolding pairs_of_row joined
pair_none pair i at l =
    let none : 0 ≡ i - i = omega arith in
    subst (λ (n : ℕ). Appended at (pairs_of_row pair i n) l l) none (appended_none at l)

pub pair_store :
    (f : ℕ → ℕ → Float) {at at' i j : ℕ} {x y : List Float} {v : Float}
    → Appended at (pairs_of_row (λ i j. f i j ∷ []) i (j - i)) x y → i ≤ j → at' < length y
    → v ∷ [] ≡ f i j ∷ [] → at' ≡ at + (j - i)
    → Appended at (pairs_of_row (λ i j. f i j ∷ []) i (j + 1 - i)) x (set y at' v)
unfolding pairs_of_row
pair_store f {at} {at'} {i} {j} {x} {y} {v} h within l e o =
    let next : j - i + 1 ≡ j + 1 - i = omega arith in
    let here : j ≡ i + (j - i) = omega arith in
    subst (λ (n : ℕ). Appended at (joined (λ m. f i (i + m) ∷ []) n) x (set y at' v)) next
    (single_store (λ m. f i (i + m)) h l (e ∙ ap (λ (m : ℕ). f i m ∷ []) here) o)

-- ---- the rows of pairs, and the whole in the state's order

module _ (pair : ℕ → ℕ → List Float) (n : ℕ) where
  pub rows_none : (at : ℕ) (l : List Float) → Appended at (pairs_of_rows pair n 0) l l
  unfolding pairs_of_rows
  rows_none at l = appended_none at l

  pub rows_more :
      (i : ℕ) {at at' : ℕ} {x y z : List Float} → Appended at (pairs_of_rows pair n i) x y
      → Appended at' (pairs_of_row pair i (n - i)) y z → at' ≡ at + length (pairs_of_rows pair n i)
      → Appended at (pairs_of_rows pair n (i + 1)) x z
  unfolding pairs_of_rows
  rows_more i h l e = joined_more (λ r. pairs_of_row pair r (n - r)) h l e

module _ (d n : ℕ) (mean : ℕ → List Float) (pair : ℕ → ℕ → List Float)
    {integral constant : List Float} (means : (i : ℕ) → length (mean i) ≡ d) (pairs : (i j : ℕ)
    → length (pair i j) ≡ d) (one : length integral ≡ d) (last : length constant ≡ d) where
  pub order_written :
      (total : ℕ) {a b c : ℕ} {v w x y z : List Float} → Appended 0 (joined mean n) v w
      → Appended a (pairs_of_rows pair n n) w x → a ≡ n * d → Appended b integral x y
      → b ≡ integral_at n * d → Appended c constant y z → c ≡ constant_at n * d
      → total ≡ dimension n * d → take total z ≡ in_state_order n mean pair integral constant
  unfolding in_state_order
  order_written total {a} {b} {c} {v} {w} {x} {y} {z} h j e k f l g t =
      front_is whole long
    where
      front : length (joined mean n) ≡ n * d
      front = length_joined d mean n means

      middle : length (pairs_of_rows pair n n) ≡ pairs_before n n * d
      middle = length_of_rows d pair pairs n n

      two : length (joined mean n ++ pairs_of_rows pair n n) ≡ integral_at n * d
      two =
          length-append (joined mean n) (pairs_of_rows pair n n)
          ∙ omega (arith, front, middle, add-mul n (pairs_before n n) d)

      three : length (joined mean n ++ pairs_of_rows pair n n ++ integral) ≡ constant_at n * d
      three =
          length-append (joined mean n ++ pairs_of_rows pair n n) integral
          ∙ omega (arith, two, one, add-mul (integral_at n) 1 d)

      whole : Appended 0 (joined mean n ++ pairs_of_rows pair n n ++ integral ++ constant) v z
      whole =
          appended_then (appended_then (appended_then h j (e ∙ sym front ∙ sym (zero-add _))) k (f
          ∙ sym two ∙ sym (zero-add _))) l
          (g ∙ sym three ∙ sym (zero-add _))

      long : length (joined mean n ++ pairs_of_rows pair n n ++ integral ++ constant) ≡ total
      long =
          length-append (joined mean n ++ pairs_of_rows pair n n ++ integral) constant
          ∙ omega (
            arith,
            three,
            last,
            add-mul (constant_at n) 1 d,
            add-mul (integral_at n) 1 d,
            add-mul (integral_at n) 2 d,
          )
