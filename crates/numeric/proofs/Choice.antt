-- Which of two doubles next to each other is the nearest to an exact number between them
-- (`specs/Correct.antt`). Assumes nothing.
use Rattle.std.proofs.Common.{◌≡◌, ℕ, ◌+◌, ◌-◌, ◌*◌, ◌/◌, ◌%◌, ◌^◌, ◌<◌, ◌≤◌, Bool, false, T, ◌⊎◌, ℤ, sym, ap, ◌∙◌, subst, inl, inr, le_trans, le_of_eq, lt_of_lt_of_le, le_of_lt, mul-le-mul_right, mul_assoc, le_antisymm, eq-or-lt_of_le, not-le_of_lt, mul-div_cancel, add-one, arith, pow_mono, pow-add, shl_lt}
use Prim.Native.Nat.{Ordering}
use lib.Ieee.{Float, nan, inf, fin, binary64, up, down, fits, nearest}
use lib.Ieee.Exact.{HasValue}
use lib.Ieee.Fits.{down_pos}
use Rattle.numeric.specs.Correct.{size_of, Exact, IsDouble, NotNearer, NearestDouble}
use Rattle.numeric.proofs.Numbers.{le_or_lt}
use Rattle.numeric.proofs.Compare.{Cmp}
use Rattle.numeric.proofs.Rounded.{Units, shift_of}

-- ---- a double's size

pub size_is : (s : Bool) (n : ℕ) (e : ℤ) (u : Units binary64 n e)
    → size_of (fin s n e) ≡ n * 2 ^ u.shift
size_is s n e u =
    ap (λ (y : ℕ). y / down e) u.equal ∙ mul-div_cancel (n * 2 ^ u.shift) (down_pos e)

exact : (n : ℕ) (e : ℤ) → IsDouble n e → size_of (fin false n e) * down e ≡ n * up e * 2 ^ 1074
exact n e F =
    let u = shift_of binary64 false n e F in
    ap (λ (y : ℕ). y * down e) (size_is false n e u) ∙ sym u.equal

-- the other way: the size of what has a value
size_of_value : (x : Float) (s : Bool) (a : ℕ) → HasValue x s a (2 ^ 1074) → size_of x ≡ a
size_of_value nan s a h = absurd h
size_of_value (inf t) s a h = absurd h
size_of_value (fin t m e) s a h = ap (λ (y : ℕ). y / down e) h.1 ∙ mul-div_cancel a (down_pos e)

-- ---- no double n * 2 ^ j lies between q * 2 ^ k and (q + 1) * 2 ^ k, where q has 53 digits

module _ (q k : ℕ) where
  abbrev pub lower : ℕ
  lower = q * 2 ^ k

  abbrev pub upper : ℕ
  upper = (q + 1) * 2 ^ k

  abbrev Outside : ℕ → Type 0
  Outside y = (y ≤ lower) ⊎ (upper ≤ y)

  outside : (n j : ℕ) → n < 2 ^ 53 → 2 ^ 52 ≤ q → Outside (n * 2 ^ j)
  outside n j N Q = by_place (le_or_lt k j)
    where
      place : (j k : ℕ) → j < k → 53 + j ≤ 52 + k
      place j k h = omega arith

      back : (j k : ℕ) → k ≤ j → j ≡ j - k + k
      back j k h = omega arith

      next : (q c : ℕ) → q < c → q + 1 ≤ c
      next q c h = omega arith

      multiple : k ≤ j → n * 2 ^ j ≡ n * 2 ^ (j - k) * 2 ^ k
      multiple h =
          ap (λ (x : ℕ). n * 2 ^ x) (back j k h)
          ∙ ap (λ (x : ℕ). n * x) (pow-add 2 (j - k) k)
          ∙ sym (mul_assoc n (2 ^ (j - k)) (2 ^ k))

      by_multiple : (c : ℕ) → n * 2 ^ j ≡ c * 2 ^ k → (c ≤ q) ⊎ (q < c) → Outside (n * 2 ^ j)
      by_multiple c e (inl h) = inl (le_trans (le_of_eq e) (mul-le-mul_right (2 ^ k) h))
      by_multiple c e (inr h) =
          inr (le_trans (mul-le-mul_right (2 ^ k) (next q c h)) (le_of_eq (sym e)))

      by_place : (k ≤ j) ⊎ (j < k) → Outside (n * 2 ^ j)
      by_place (inl h) = by_multiple (n * 2 ^ (j - k)) (multiple h) (le_or_lt (n * 2 ^ (j - k)) q)
      by_place (inr h) =
          inl
          (le_trans (le_of_lt (shl_lt 53 j N))
          (le_trans (pow_mono (place j k h))
          (le_trans (le_of_eq (pow-add 2 52 k)) (mul-le-mul_right (2 ^ k) Q))))

-- ---- the number x lies from lo on and below hi, with no double between the two: the one on its
-- side of the middle is the nearest, and each of them is where it lies at the middle

pub record Around (x : Exact) (lo hi : ℕ) : Type 0 where
  pub rises : (m n : ℕ) → m < n → x.level m < x.level n
  pub from : x.level (lo + lo) ≤ x.twice
  pub under : x.twice < x.level (hi + hi)

module _ {x : Exact} {lo hi : ℕ} (around : Around x lo hi) where
  level_le : (m n : ℕ) → m ≤ n → x.level m ≤ x.level n
  level_le m n h = by_case (eq-or-lt_of_le h)
    where
      by_case : (m ≡ n) ⊎ (m < n) → x.level m ≤ x.level n
      by_case (inl e) = le_of_eq (ap x.level e)
      by_case (inr l) = le_of_lt (around.rises m n l)

  module _ (Tie : Type 0) (tied : x.twice ≡ x.level (lo + hi) → Tie) (y : ℕ) where
    at_lower : (y ≤ lo) ⊎ (hi ≤ y) → x.twice ≤ x.level (lo + hi) → NotNearer x Tie lo y
    at_lower gap h =
        record {
          from_above = λ l. le_trans h (beyond l gap);
          from_below = λ l. le_trans (level_le (lo + y) (lo + lo) (omega arith)) around.from;
          tie = λ d e. tie d e gap;
        }
      where
        beyond : lo < y → (y ≤ lo) ⊎ (hi ≤ y) → x.level (lo + hi) ≤ x.level (lo + y)
        beyond l (inl g) = absurd (not-le_of_lt l g)
        beyond l (inr g) = level_le (lo + hi) (lo + y) (omega arith)

        nearer : y < lo → x.level (lo + y) < x.twice
        nearer l = lt_of_lt_of_le (around.rises (lo + y) (lo + lo) (omega arith)) around.from

        tie : (lo ≡ y → ⊥) → x.twice ≡ x.level (lo + y) → (y ≤ lo) ⊎ (hi ≤ y) → Tie
        tie d e (inl g) = absurd (not-le_of_lt (nearer (omega arith)) (le_of_eq e))
        tie d e (inr g) =
            let back = level_le (lo + hi) (lo + y) (omega arith) in
            tied (le_antisymm h (le_trans back (le_of_eq (sym e))))

    at_upper : (y ≤ lo) ⊎ (hi ≤ y) → x.level (lo + hi) ≤ x.twice → NotNearer x Tie hi y
    at_upper gap h =
        record {
          from_above = λ l. le_of_lt (nearer (omega arith));
          from_below = λ l. le_trans (before l gap) h;
          tie = λ d e. tie d e gap;
        }
      where
        before : y < hi → (y ≤ lo) ⊎ (hi ≤ y) → x.level (hi + y) ≤ x.level (lo + hi)
        before l (inl g) = level_le (hi + y) (lo + hi) (omega arith)
        before l (inr g) = absurd (not-le_of_lt l g)

        nearer : hi ≤ y → x.twice < x.level (hi + y)
        nearer l = lt_of_lt_of_le around.under (level_le (hi + hi) (hi + y) (omega arith))

        tie : (hi ≡ y → ⊥) → x.twice ≡ x.level (hi + y) → (y ≤ lo) ⊎ (hi ≤ y) → Tie
        tie d e (inl g) =
            let up = level_le (hi + y) (lo + hi) (omega arith) in
            tied (le_antisymm (le_trans (le_of_eq e) up) h)
        tie d e (inr g) = absurd (not-le_of_lt (nearer g) (le_of_eq (sym e)))

-- ---- q * 2 ^ k and (q + 1) * 2 ^ k are the two, and the order o of the number and their middle
-- says which is taken: at a tie the one with the even q

module _ (q k : ℕ) (x : Exact) (at : Around x (lower q k) (upper q k)) (AtTie : ℕ → Type 0) where
  abbrev pub middle : ℕ
  middle = x.level (lower q k + upper q k)

  -- what is to be shown of the size r
  abbrev Taken : ℕ → ℕ → Type 0
  Taken r y = NotNearer x (AtTie r) r y

  module _ (tied : x.twice ≡ middle → AtTie ((q + q % 2) * 2 ^ k)) where
    module _ (y : ℕ) (gap : Outside q k y) where
      at_tie : x.twice ≡ middle → (q % 2 ≤ 0) ⊎ (0 < q % 2) → Taken ((q + q % 2) * 2 ^ k) y
      at_tie c (inl h) =
          let Tie = AtTie ((q + q % 2) * 2 ^ k) in
          let same : q ≡ q + q % 2 = omega arith in
          subst (λ (p : ℕ). NotNearer x Tie (p * 2 ^ k) y) same
          (at_lower at Tie tied y gap (le_of_eq c))
      at_tie c (inr h) =
          let Tie = AtTie ((q + q % 2) * 2 ^ k) in
          let next : q + 1 ≡ q + q % 2 = omega arith in
          subst (λ (p : ℕ). NotNearer x Tie (p * 2 ^ k) y) next
          (at_upper at Tie tied y gap (le_of_eq (sym c)))

      by_order : (o : Ordering) → Cmp o x.twice middle → Taken (nearest q o * 2 ^ k) y
      by_order Ordering.lt c =
          at_lower at (AtTie (lower q k)) (λ e. absurd (not-le_of_lt c (le_of_eq (sym e)))) y gap
          (le_of_lt c)
      by_order Ordering.eq c = at_tie c (le_or_lt (q % 2) 0)
      by_order Ordering.gt c =
          subst (λ (p : ℕ). Taken (p * 2 ^ k) y) (add-one q)
          (at_upper at (AtTie (upper q k)) (λ e. absurd (not-le_of_lt c (le_of_eq e))) y gap
          (le_of_lt c))

    -- a float of that size is the nearest double
    module _ (Q : 2 ^ 52 ≤ q) (o : Ordering) (c : Cmp o x.twice middle) (s : Bool) where
      abbrev r : ℕ
      r = nearest q o * 2 ^ k

      among : (y : Float) → HasValue y s r (2 ^ 1074)
          → (n : ℕ) (d : ℤ) → IsDouble n d → Taken (size_of y) (size_of (fin false n d))
      among y h n d F =
          let u = shift_of binary64 false n d F in
          subst (λ (z : ℕ). Taken z (size_of (fin false n d))) (sym (size_of_value y s r h))
          (subst (λ (z : ℕ). Taken r z) (sym (size_is false n d u))
          (by_order (n * 2 ^ u.shift) (outside q k n u.shift u.digits Q) o c))

      pub is_nearest_lem : (y : Float) → T (fits binary64 y) → HasValue y s r (2 ^ 1074)
          → NearestDouble s x AtTie y
      is_nearest_lem nan F h = absurd h
      is_nearest_lem (inf t) F h = absurd h
      is_nearest_lem (fin t m e) F h = record {
        m = m;
        e = e;
        is = ap (λ (b : Bool). fin b m e) h.0;
        double = F;
        exact = exact;
        nearest = among (fin t m e) h;
      }
