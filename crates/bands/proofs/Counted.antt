-- Words counted and found, word by word and part by part: what is left to find behind a part is what that part does not have. By induction
-- over the words. Assumes nothing.
use Prim.Native.Nat.{ℕ, zero, suc, ◌+◌, ◌-◌, ◌≤◌, ◌<◌}
use native.Mathlib.Omega.{arith}
use native.Mathlib.Numerals.{add-one}
use native.Mathlib.Nat.{sub-zero}
use mathlib.Core.Path.{◌≡◌, refl, sym, ap, ◌∙◌}
use mathlib.Core.Bool.{Bool, true, false, cond}
use mathlib.Core.List.{List, [], ◌∷◌}
use lib.ListN.{length, get_or, take, drop, drop_of_length-le}
use lib.Seq.{take_all, drop-cons}
use Rattle.std.specs.declared.ops.Range.{Range}
use Rattle.std.specs.List.{count_by, sum_by}
use Rattle.std.proofs.lemmas.List.Sums.{sum_by-cons}
use Rattle.aadl.specs.Tokens.{length_in, total}
use Rattle.bands.specs.Bands.{within_band, tally, nth_within}

-- WORD BY WORD ---------------------------------------------------------------------------------------------------------

pub word_at : (ws : List ℕ) (i : ℕ) → i < length ws → drop i ws ≡ get_or ws i 0 ∷ drop (i + 1) ws
word_at ws i h = drop-cons ws i 0 h ∙ ap (λ (n : ℕ). get_or ws i 0 ∷ drop n ws) (sym (add-one i))

-- the sum of lengths, as a chain gives it
pub total-sums : (ws : List ℕ) → total ws ≡ sum_by length_in ws
total-sums [] = refl
total-sums (w ∷ ws) = ap (λ (n : ℕ). length_in w + n) (total-sums ws) ∙ sym (sum_by-cons length_in w ws)

cond_suc : (t : Bool) (n : ℕ) → cond t (suc n) n ≡ cond t 1 0 + n
cond_suc true n = omega arith
cond_suc false n = omega arith

module _ (b : Range ℕ) where
  abbrev here : List ℕ → ℕ → Bool
  here ws i = within_band b (get_or ws i 0)

  -- the count, as a chain gives it
  pub tally-counts : (ws : List ℕ) → tally b ws ≡ count_by (within_band b) ws
  unfolding tally
  tally-counts [] = refl
  tally-counts (w ∷ ws) =
      let one : ℕ → ℕ = λ (v : ℕ). cond (within_band b v) 1 0 in
      cond_suc (within_band b w) (tally b ws) ∙ ap (λ (n : ℕ). one w + n) (tally-counts ws) ∙ sym (sum_by-cons one w ws)

  pub nth_end : (ws : List ℕ) (n i : ℕ) → length ws ≤ i → nth_within b n (drop i ws) ≡ 0
  unfolding nth_within
  nth_end ws n i h = ap (nth_within b n) (drop_of_length-le ws h)

  -- the one that is found, one that is passed on the way to it, and a word that is not in the band
  pub nth-found : (ws : List ℕ) (i : ℕ) → i < length ws → here ws i ≡ true → nth_within b 0 (drop i ws) ≡ 0
  unfolding nth_within
  nth-found ws i h e = ap (nth_within b 0) (word_at ws i h) ∙ rw e refl

  pub nth-passed : (ws : List ℕ) (n i : ℕ) → i < length ws → here ws i ≡ true → (n ≡ 0 → ⊥) →
      nth_within b n (drop i ws) ≡ suc (nth_within b (n - 1) (drop (i + 1) ws))
  unfolding nth_within
  nth-passed ws zero i h e f = absurd (f refl)
  nth-passed ws (suc n) i h e f =
      let q : n ≡ suc n - 1 = omega arith in
      ap (nth_within b (suc n)) (word_at ws i h) ∙ rw e (ap (λ (m : ℕ). suc (nth_within b m (drop (i + 1) ws))) q)

  pub nth-other : (ws : List ℕ) (n i : ℕ) → i < length ws → here ws i ≡ false → nth_within b n (drop i ws) ≡ suc (nth_within b n (drop (i + 1) ws))
  unfolding nth_within
  nth-other ws zero i h e = ap (nth_within b 0) (word_at ws i h) ∙ rw e refl
  nth-other ws (suc n) i h e = ap (nth_within b (suc n)) (word_at ws i h) ∙ rw e refl

  -- PART BY PART -------------------------------------------------------------------------------------------------------

  -- Where the first c words have at most n of them, the one with number n stands behind.
  behind-one : (t : Bool) (w n c k : ℕ) (ws : List ℕ) → within_band b w ≡ t → cond t (suc k) k ≤ n →
      ((m : ℕ) → k ≤ m → nth_within b m ws ≡ c + nth_within b (m - k) (drop c ws)) →
      nth_within b n (w ∷ ws) ≡ suc c + nth_within b (n - cond t (suc k) k) (drop c ws)
  unfolding nth_within
  behind-one true w zero c k ws e l h = absurd (omega arith)
  behind-one true w (suc n) c k ws e l h =
      let q : suc n - suc k ≡ n - k = omega arith in
      rw (e, q) (omega (arith, h n (omega (arith, l))))
  behind-one false w zero c k ws e l h = rw e (omega (arith, h zero l))
  behind-one false w (suc n) c k ws e l h = rw e (omega (arith, h (suc n) l))

  pub nth-behind : (ws : List ℕ) (n c : ℕ) → c ≤ length ws → tally b (take c ws) ≤ n →
      nth_within b n ws ≡ c + nth_within b (n - tally b (take c ws)) (drop c ws)
  unfolding tally
  nth-behind ws n zero h l = rw (sub-zero n) (omega arith)
  nth-behind [] n (suc c) h l = absurd (omega arith)
  nth-behind (w ∷ ws) n (suc c) h l =
      behind-one (within_band b w) w n c (tally b (take c ws)) ws refl l (λ m g. nth-behind ws m c (omega (arith, h)) g)

  -- The same of a part and what is behind it.
  pub nth-part : (ws part rest : List ℕ) (n c k : ℕ) → part ≡ take c ws → rest ≡ drop c ws → length rest + c ≡ length ws → k ≡ tally b part → k ≤ n →
      nth_within b n ws ≡ c + nth_within b (n - k) rest
  nth-part ws part rest n c k p r h q l =
      let counted : k ≡ tally b (take c ws) = q ∙ ap (tally b) p in
      rw (counted, r) (nth-behind ws n c (omega (arith, h)) (omega (arith, counted, l)))

  -- WHETHER IT IS THERE ------------------------------------------------------------------------------------------------

  pub nth-among : (ws : List ℕ) (n : ℕ) → n < tally b ws → nth_within b n ws < length ws
  unfolding tally nth_within
  nth-among [] n h = absurd (omega (arith, h))
  nth-among (w ∷ ws) n h = go (within_band b w) refl n (λ m l. nth-among ws m l) h
    where
      go : (t : Bool) → within_band b w ≡ t → (n : ℕ) → ((m : ℕ) → m < tally b ws → nth_within b m ws < length ws) → n < tally b (w ∷ ws) →
          nth_within b n (w ∷ ws) < suc (length ws)
      go true e zero ih l = rw e (omega arith)
      go true e (suc n) ih l =
          let few : suc n < suc (tally b ws) = rw e at l in
          rw e (omega (arith, ih n (omega (arith, few))))
      go false e zero ih l = rw e (omega (arith, ih 0 (rw e at l)))
      go false e (suc n) ih l = rw e (omega (arith, ih (suc n) (rw e at l)))

  pub nth-none : (ws : List ℕ) (n : ℕ) → tally b ws ≤ n → nth_within b n ws ≡ length ws
  nth-none ws n h =
      let all : take (length ws) ws ≡ ws = take_all (length ws) ws (omega arith) in
      let few : tally b (take (length ws) ws) ≤ n = omega (arith, ap (tally b) all, h) in
      let m = n - tally b (take (length ws) ws) in
      omega (arith, nth-behind ws n (length ws) (omega arith) few, nth_end ws m (length ws) (omega arith))
