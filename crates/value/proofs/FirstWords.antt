-- Words of events in a band that no second word lies in: each is where its event is. By induction over the events. Assumes nothing.
use Prim.Native.Nat.{ℕ, zero, suc, ◌+◌}
use native.Mathlib.Omega.{arith}
use mathlib.Core.Path.{◌≡◌, refl}
use mathlib.Core.Bool.{Bool, true, false}
use mathlib.Core.List.{List, [], ◌∷◌, map}
use Rattle.predictive.specs.Events.{Event, taken}
use Rattle.aadl.specs.Encoding.{event_word, words_for, words_of}
use Rattle.std.specs.declared.ops.Range.{Range}
use Rattle.bands.specs.Bands.{within_band, nth_within}

module _ (b : Range ℕ) (number : ℕ → ℕ) (none : (t : ℕ) → within_band b (number t) ≡ false) where
  pub nth-first : (t n : ℕ) (es : List Event) → nth_within b n (words_of number t es) ≡ words_for (nth_within b n (map event_word es))
  unfolding nth_within
  nth-first t n [] = refl
  nth-first t n (e ∷ es) = go (within_band b (event_word e)) refl n (λ m. nth-first (t + taken (e ∷ [])) m es)
    where
      ws : List ℕ
      ws = words_of number (t + taken (e ∷ [])) es

      go : (u : Bool) → within_band b (event_word e) ≡ u → (m : ℕ) → ((j : ℕ) → nth_within b j ws ≡ words_for (nth_within b j (map event_word es))) →
          nth_within b m (event_word e ∷ number t ∷ ws) ≡ words_for (nth_within b m (event_word e ∷ map event_word es))
      go true h zero ih = rw h refl
      go true h (suc zero) ih = rw (h, none t) (omega (arith, ih 0))
      go true h (suc (suc m)) ih = rw (h, none t) (omega (arith, ih (suc m)))
      go false h zero ih = rw (h, none t) (omega (arith, ih 0))
      go false h (suc m) ih = rw (h, none t) (omega (arith, ih (suc m)))
