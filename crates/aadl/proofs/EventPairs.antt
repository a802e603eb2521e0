-- Two words for each event: where an event's first word stands among all, how many events words have, and that the first words of events'
-- words are the events' own. By induction over pairs of words. Assumes nothing.
use Prim.Native.Nat.{ℕ, zero, suc, ◌+◌, ◌/◌, ◌<◌}
use native.Mathlib.Omega.{arith}
use mathlib.Core.Path.{◌≡◌, refl, sym, ap, ◌∙◌}
use mathlib.Core.List.{List, [], ◌∷◌, map}
use lib.ListN.{length, get_or, take, drop}
use Rattle.predictive.specs.Events.{Event, taken}
use Rattle.aadl.specs.Encoding.{event_word, words_for, words_of, first_words}

-- THE WORDS OF EVENTS --------------------------------------------------------------------------------------------------

module _ (number : ℕ → ℕ) where
  pub length_words_of : (t : ℕ) (es : List Event) → length (words_of number t es) ≡ words_for (length es)
  length_words_of t [] = refl
  length_words_of t (e ∷ es) = omega (arith, length_words_of (t + taken (e ∷ [])) es)

  pub first_words-of : (t : ℕ) (es : List Event) → first_words (words_of number t es) ≡ map event_word es
  unfolding first_words
  first_words-of t [] = refl
  first_words-of t (e ∷ es) = ap (λ (ws : List ℕ). event_word e ∷ ws) (first_words-of (t + taken (e ∷ [])) es)

-- ANY WORDS ------------------------------------------------------------------------------------------------------------

two-more : (n : ℕ) → words_for (suc n) ≡ suc (suc (words_for n))
two-more n = omega arith

pub length_first_words : (ws : List ℕ) → length (first_words ws) ≡ length ws / 2
unfolding first_words
length_first_words [] = refl
length_first_words (w ∷ []) = refl
length_first_words (w ∷ v ∷ ws) = omega (arith, length_first_words ws)

pub first-word_at : (ws : List ℕ) (i d : ℕ) → i < length (first_words ws) → get_or (first_words ws) i d ≡ get_or ws (words_for i) d
unfolding first_words
first-word_at [] i d h = absurd (omega (arith, h))
first-word_at (w ∷ []) i d h = absurd (omega (arith, h))
first-word_at (w ∷ v ∷ ws) zero d h = refl
first-word_at (w ∷ v ∷ ws) (suc i) d h = first-word_at ws i d (omega (arith, h)) ∙ ap (λ (n : ℕ). get_or (w ∷ v ∷ ws) n d) (sym (two-more i))

-- The first events of words, and the events behind them: a law of pairs, so taken and dropped alike.
first_words-take_more : (n : ℕ) → ((ws : List ℕ) → first_words (take (words_for n) ws) ≡ take n (first_words ws)) → (ws : List ℕ) →
    first_words (take (suc (suc (words_for n))) ws) ≡ take (suc n) (first_words ws)
unfolding first_words
first_words-take_more n ih [] = refl
first_words-take_more n ih (w ∷ []) = refl
first_words-take_more n ih (w ∷ v ∷ ws) = ap (λ (us : List ℕ). w ∷ us) (ih ws)

pub first_words-take : (n : ℕ) (ws : List ℕ) → first_words (take (words_for n) ws) ≡ take n (first_words ws)
unfolding first_words
first_words-take zero ws = refl
first_words-take (suc n) ws = ap (λ (k : ℕ). first_words (take k ws)) (two-more n) ∙ first_words-take_more n (first_words-take n) ws

first_words-drop_more : (n : ℕ) → ((ws : List ℕ) → first_words (drop (words_for n) ws) ≡ drop n (first_words ws)) → (ws : List ℕ) →
    first_words (drop (suc (suc (words_for n))) ws) ≡ drop (suc n) (first_words ws)
unfolding first_words
first_words-drop_more n ih [] = refl
first_words-drop_more n ih (w ∷ []) = refl
first_words-drop_more n ih (w ∷ v ∷ ws) = ih ws

pub first_words-drop : (n : ℕ) (ws : List ℕ) → first_words (drop (words_for n) ws) ≡ drop n (first_words ws)
unfolding first_words
first_words-drop zero ws = refl
first_words-drop (suc n) ws = ap (λ (k : ℕ). first_words (drop k ws)) (two-more n) ∙ first_words-drop_more n (first_words-drop n) ws
