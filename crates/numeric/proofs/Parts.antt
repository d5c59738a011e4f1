-- A list of which a part was written, as a slice is after a write to `s[a..e]`. Assumes nothing.
use mathlib.Core.Path.{◌≡◌, sym, ◌∙◌, subst, ap}
use mathlib.Core.List.{List, ◌++◌}
use Prim.Native.Nat.{ℕ, ◌+◌, ◌-◌, ◌≤◌, ◌<◌}
use native.Mathlib.Omega.{arith}
use lib.ListN.{length, get_or, take, drop, get_or-append}
use lib.Seq.{get_or-append-add, length-take-le, get_or-take, get_or-drop}
use borrow.Rule.Slice.PartMut.{put_mid, post_of, drop_put}

-- ys in the place of the k elements from `at` on
module _ {A : Type 0} (d : A) (xs ys : List A) (at k : ℕ) (within : at ≤ length xs) where
  pub put_before : (j : ℕ) → j < at → get_or (put_mid at k xs ys) j d ≡ get_or xs j d
  put_before j h =
      get_or-append (take at xs) (ys ++ post_of at k xs) d j
      (subst (λ (n : ℕ). j < n) (sym (length-take-le at xs within)) h)
      ∙ get_or-take at xs j d h

  pub put_in : (j : ℕ) → j < length ys → get_or (put_mid at k xs ys) (at + j) d ≡ get_or ys j d
  put_in j h =
      subst (λ (n : ℕ). get_or (put_mid at k xs ys) (n + j) d ≡ get_or (ys ++ post_of at k xs) j d)
      (length-take-le at xs within) (get_or-append-add (take at xs) (ys ++ post_of at k xs) j d)
      ∙ get_or-append ys (post_of at k xs) d j h

-- those from `end` on are as they were
module _ {A : Type 0} (d : A) (xs ys : List A) (at end : ℕ) where
  pub put_after :
      at ≤ end → end ≤ length xs → length ys ≡ end - at → (j : ℕ) → end ≤ j
      → get_or (put_mid at (end - at) xs ys) j d ≡ get_or xs j d
  put_after h g l j b =
      let at-j : (zs : List A) → get_or zs j d ≡ get_or (drop end zs) (j - end) d =
      λ zs. ap (λ (n : ℕ). get_or zs n d) (omega arith) ∙ sym (get_or-drop end zs (j - end) d) in
      at-j (put_mid at (end - at) xs ys)
      ∙ ap (λ (zs : List A). get_or zs (j - end) d) (drop_put at end xs ys h g l)
      ∙ sym (at-j xs)
