-- Which words are counted, and written. Assumes nothing.
use Prim.Native.Nat.{ℕ, ◌-◌, ◌*◌, min}
use native.Mathlib.Omega.{arith}
use mathlib.Core.Path.{◌≡◌, refl, sym, ap, ◌∙◌}
use mathlib.Core.Bool.{cond}
use mathlib.Core.List.{List, [], ◌∷◌, ◌++◌}
use lib.ListN.{length, take, drop, length-drop}
use lib.Seq.{take_all}
use lib.Dec.{eqb}
use borrow.Author.Tests.{eq-eqb, ne_eqb}
use Rattle.writing.proofs.LeastLaws.{take_within, drop_within}
use Rattle.aadl.specs.Words.{bytes}
use Rattle.replay_lines.specs.Records.{old_word, line, count, rest, more_lines}

-- WHAT IS LEFT ---------------------------------------------------------------------------------------------------------

pub rest-refused : (number used : ℕ) (ws : List ℕ) → (number ≡ 0 → ⊥) → count 0 ws ≡ rest number used ws
unfolding rest
rest-refused number used ws f = rw (ne_eqb number 0 f) refl

pub rest-kept : (number used from : ℕ) (ws : List ℕ) → number ≡ 0 → from ≡ min used (length ws) → count old_word (take (length ws - from) (drop from ws)) ≡ rest number used ws
unfolding rest
rest-kept number used from ws e f =
    let all = take_all (length ws - from) (drop from ws) (omega (arith, length-drop from ws)) in
    ap (count old_word) (all ∙ ap (λ (k : ℕ). drop k ws) f ∙ drop_within used ws) ∙ rw (eq-eqb number 0 e) refl

-- LINES ----------------------------------------------------------------------------------------------------------------

-- Two numbers of used words that differ past the lent ones alone are as good as each other.
module _ (j n : ℕ) (ws : List ℕ) (e : min j (length ws) ≡ min n (length ws)) where
  pub take_alike : take j ws ≡ take n ws
  take_alike = sym (take_within j ws) ∙ ap (λ (k : ℕ). take k ws) e ∙ take_within n ws

  pub rest-alike : (number : ℕ) → rest number j ws ≡ rest number n ws
  unfolding rest
  rest-alike number =
      ap (λ (us : List ℕ). cond (eqb number 0) (count old_word us) (count 0 ws)) (sym (drop_within j ws) ∙ ap (λ (k : ℕ). drop k ws) e ∙ drop_within n ws)

-- So it is for words that are used four by four.
pub more_within : (number n k : ℕ) (ws : List ℕ) → k ≡ min n (length ws) → more_lines number (k * 4) ws ≡ more_lines number (n * 4) ws
unfolding more_lines
more_within number n k ws e =
    let q : min (k * 4) (length ws) ≡ min (n * 4) (length ws) = omega (arith, e) in
    λ i. line (bytes "more") (take_alike (k * 4) (n * 4) ws q i) ++ line (bytes "left") (rest-alike (k * 4) (n * 4) ws q number i ∷ [])
