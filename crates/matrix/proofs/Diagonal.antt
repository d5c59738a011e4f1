-- + 1 on the diagonal, one row after the other. Assumes nothing.
use mathlib.Core.Path.{◌≡◌, refl, sym, ap, ◌∙◌, subst}
use mathlib.Core.Bool.{Bool, true, false, cond, ◌&&◌, and-true}
use mathlib.Core.List.{List}
use Prim.Native.Nat.{ℕ, ◌+◌, ◌*◌, ◌/◌, ◌%◌, ◌≤◌, ◌<◌}
use native.Mathlib.Decide.{dec_le, ℕ_discrete}
use native.Mathlib.Omega.{arith}
use lib.Dec.{eqb, ltb}
use lib.Arith.{digits_div, digits_mod}
use lib.ListN.{length, set, replicate, length-set, get_or-replicate}
use lib.Seq.{get_or-set_same, get_or-set_other}
use lib.Ieee.{Float, nan}
use borrow.Author.Tests.{lt-ltb, le-ltb, eq-eqb, ne_eqb}
use Rattle.numeric.specs.Double.{plus, one, plus_zero}
use Rattle.matrix.specs.Matrix.{entry, identity, plus_identity}
use Rattle.matrix.proofs.Cells.{inside, length_matrix, entry_matrix, same_matrix}

-- two cells at one place are one cell
same_row : (n r c i j : ℕ) → c < n → j < n → r * n + c ≡ i * n + j → r ≡ i
same_row n r c i j h l e = sym (digits_div r h) ∙ ap (λ (k : ℕ). k / n) e ∙ digits_div i l

same_column : (n r c i j : ℕ) → c < n → j < n → r * n + c ≡ i * n + j → c ≡ j
same_column n r c i j h l e = sym (digits_mod r h) ∙ ap (λ (k : ℕ). k % n) e ∙ digits_mod i l

-- x + 1 where b holds
pub bumped : Bool → Float → Float
bumped b x = cond b (plus x one) x

-- whether cell (r, c) is among the first i of the diagonal
pub among : ℕ → ℕ → ℕ → Bool
among r c i = eqb r c && ltb r i

pub record Bumped (n : ℕ) (before now : List Float) (i : ℕ) : Type 0 where
  pub len : length now ≡ length before
  pub cells :
      (r c : ℕ) → r < n → c < n → entry n now r c ≡ bumped (among r c i) (entry n before r c)

pub bumped_none : (n : ℕ) (l : List Float) → Bumped n l l 0
unfolding bumped among
bumped_none n l =
    record {
      len = refl;
      cells = λ r c h k. sym (rw (le-ltb r 0 (omega arith), and_false (eqb r c)));
    }
  where
    and_false : (b : Bool) → (b && false) ≡ false
    and_false true = refl
    and_false false = refl

among_other_row : (r c i : ℕ) → (r ≡ i → ⊥) → among r c i ≡ among r c (i + 1)
unfolding among
among_other_row r c i d = ap (λ (b : Bool). eqb r c && b) (go (dec_le i r))
  where
    go : Dec (i ≤ r) → ltb r i ≡ ltb r (i + 1)
    go (yes h) = le-ltb r i h ∙ sym (le-ltb r (i + 1) (omega arith))
    go (no h) = lt-ltb r i (omega arith) ∙ sym (lt-ltb r (i + 1) (omega arith))

among_other_column : (r c i : ℕ) → (r ≡ c → ⊥) → among r c i ≡ among r c (i + 1)
unfolding among
among_other_column r c i d = rw (ne_eqb r c d)

among_now : (i : ℕ) → among i i (i + 1) ≡ true
unfolding among
among_now i = rw (eq-eqb i i refl, lt-ltb i (i + 1) (omega arith))

among_next : (i : ℕ) → among i i i ≡ false
unfolding among
among_next i = rw (eq-eqb i i refl, le-ltb i i (omega arith))

module _
    (n : ℕ) (before now : List Float) (i : ℕ) (p : Bumped n before now i) (h : i < n)
    (long : length before ≡ n * n) where
  after : List Float
  after = set now (i * n + i) (plus (entry n now i i) one)

  changed : entry n after i i ≡ bumped (among i i (i + 1)) (entry n before i i)
  unfolding after bumped
  changed =
      get_or-set_same now (i * n + i) (plus (entry n now i i) one) nan
      (omega (arith, inside h h, p.len))
      ∙ ap (λ (x : Float). plus x one)
      (p.cells i i h h
      ∙ ap (λ (b : Bool). cond b (plus (entry n before i i) one) (entry n before i i))
      (among_next i))
      ∙ sym
      (ap (λ (b : Bool). cond b (plus (entry n before i i) one) (entry n before i i)) (among_now i))

  kept :
      (r c : ℕ) → r < n → c < n → (r * n + c ≡ i * n + i → ⊥) → among r c i ≡ among r c (i + 1)
      → entry n after r c ≡ bumped (among r c (i + 1)) (entry n before r c)
  unfolding after
  kept r c a b d e =
      get_or-set_other now (i * n + i) (r * n + c) (plus (entry n now i i) one) nan d
      ∙ p.cells r c a b
      ∙ ap (λ (t : Bool). bumped t (entry n before r c)) e

  at :
      (r c : ℕ) → r < n → c < n → Dec (r ≡ i) → Dec (c ≡ i)
      → entry n after r c ≡ bumped (among r c (i + 1)) (entry n before r c)
  at r c a b (no d) q = kept r c a b (λ e. d (same_row n r c i i b h e)) (among_other_row r c i d)
  at r c a b (yes e) (no d) =
      kept r c a b (λ q. d (same_column n r c i i b h q))
      (among_other_column r c i (λ q. d (sym q ∙ e)))
  at r c a b (yes e) (yes q) =
      subst (λ (k : ℕ). entry n after k c ≡ bumped (among k c (i + 1)) (entry n before k c)) (sym e)
      (subst (λ (k : ℕ). entry n after i k ≡ bumped (among i k (i + 1)) (entry n before i k))
      (sym q) changed)

  pub bumped_more : Bumped n before (set now (i * n + i) (plus (entry n now i i) one)) (i + 1)
  unfolding after
  bumped_more =
      record {
        len = length-set now (i * n + i) (plus (entry n now i i) one) ∙ p.len;
        cells = λ r c a b. at r c a b (ℕ_discrete r i) (ℕ_discrete c i);
      }

pub bumped_all :
    (n : ℕ) (before now : List Float) (i : ℕ) → length before ≡ n * n → Bumped n before now i
    → n ≤ i → now ≡ plus_identity n before
unfolding plus_identity bumped among
bumped_all n before now i long p h =
    same_matrix n now (plus_identity n before) (p.len ∙ long)
    (length_matrix n (λ r c. cond (eqb r c) (plus (entry n before r c) one) (entry n before r c)))
    (λ r c a b.
    p.cells r c a b
    ∙ ap (λ (t : Bool). cond (eqb r c && t) (plus (entry n before r c) one) (entry n before r c))
    (lt-ltb r i (omega arith))
    ∙ ap (λ (t : Bool). cond t (plus (entry n before r c) one) (entry n before r c))
    (and-true (eqb r c))
    ∙ sym
    (entry_matrix n (λ r c. cond (eqb r c) (plus (entry n before r c) one) (entry n before r c)) r c
    a b))

-- zeros with + 1 on the diagonal
pub identity_is : (n : ℕ) → plus_identity n (replicate (n * n) plus_zero) ≡ identity n
unfolding plus_identity identity
identity_is n =
    same_matrix n (plus_identity n (replicate (n * n) plus_zero)) (identity n)
    (length_matrix n
    (λ r c.
    cond (eqb r c) (plus (entry n (replicate (n * n) plus_zero) r c) one)
    (entry n (replicate (n * n) plus_zero) r c)))
    (length_matrix n (λ r c. cond (eqb r c) one plus_zero))
    (λ r c a b.
    entry_matrix n
    (λ i j.
    cond (eqb i j) (plus (entry n (replicate (n * n) plus_zero) i j) one)
    (entry n (replicate (n * n) plus_zero) i j)) r c a b
    ∙ ap (λ (x : Float). cond (eqb r c) (plus x one) x)
    (get_or-replicate (n * n) (r * n + c) plus_zero nan (inside a b))
    ∙ ap (λ (x : Float). cond (eqb r c) x plus_zero) zero_plus_one
    ∙ sym (entry_matrix n (λ i j. cond (eqb i j) one plus_zero) r c a b))
  where
    zero_plus_one : plus plus_zero one ≡ one
    zero_plus_one = refl
