-- Lists given by their entries. Assumes nothing.
use Rattle.std.proofs.Common.{◌≡◌, ℕ, zero, suc, ◌+◌, ◌<◌, ◌≤◌, List, length, get_or, take, set, sym, refl, ap, ◌∙◌, le_of_suc-le-suc, not-suc-le-zero, arith, length-take-le, get_or-set_other, get_or-take, get_or-set_same, ext_get_or, below_more}
use Rattle.numeric.specs.Table.{tabulate}

module _ {A : Type 0} where
  pub length_tabulate : (n : ℕ) (f : ℕ → A) → length (tabulate n f) ≡ n
  unfolding tabulate
  length_tabulate zero f = refl
  length_tabulate (suc n) f = ap suc (length_tabulate n (λ i. f (suc i)))

  pub get_d_tabulate : (n i : ℕ) (f : ℕ → A) (d : A) → i < n → get_or (tabulate n f) i d ≡ f i
  unfolding tabulate
  get_d_tabulate zero i f d h = absurd (not-suc-le-zero h)
  get_d_tabulate (suc n) zero f d h = refl
  get_d_tabulate (suc n) (suc i) f d h = get_d_tabulate n i (λ k. f (suc k)) d (le_of_suc-le-suc h)

  module _ (d : A) (n : ℕ) (f : ℕ → A) where
    -- a list of that length and with those entries is the table
    pub is_tabulate : (l : List A) → length l ≡ n → ((i : ℕ) → i < n → get_or l i d ≡ f i) → l ≡ tabulate n f
    is_tabulate l long entry =
        ext_get_or d l (tabulate n f) (long ∙ sym (length_tabulate n f))
        (λ i h. let b : i < n = omega arith in entry i b ∙ sym (get_d_tabulate n i f d b))

    -- and so is the front of a longer one
    pub take_is_tabulate : (l : List A) → n ≤ length l → ((i : ℕ) → i < n → get_or l i d ≡ f i) → take n l ≡ tabulate n f
    take_is_tabulate l long entry =
        is_tabulate (take n l) (length-take-le n l long) (λ i h. get_or-take n l i d h ∙ entry i h)

  -- two tables with the same entries
  pub tabulate_same : (d : A) (n : ℕ) (f g : ℕ → A) → ((i : ℕ) → i < n → f i ≡ g i) → tabulate n f ≡ tabulate n g
  tabulate_same d n f g same =
      is_tabulate d n g (tabulate n f) (length_tabulate n f) (λ i h. get_d_tabulate n i f d h ∙ same i h)

  -- a loop that fills a list from the front: what is stored at i makes the first i + 1 right
  pub fill_next : (d : A) (f : ℕ → A) (l : List A) (i : ℕ) (v : A) → i < length l → ((j : ℕ) → j < i → get_or l j d ≡ f j) → v ≡ f i → (j : ℕ) → j < i + 1 → get_or (set l i v) j d ≡ f j
  fill_next d f l i v h done new =
      below_more (λ (j : ℕ). get_or (set l i v) j d ≡ f j) i
      (λ j k. get_or-set_other l i j v d (λ e. absurd (omega arith)) ∙ done j k) (get_or-set_same l i v d h ∙ new)
