-- What remains after a token: all but its symbol, whatever trivia lie behind it. A byte past the text's end reads as 0, so a start
-- that is capped there shows the same symbols. By induction over the words. Assumes nothing.
use Prim.Native.Nat.{ℕ, zero, suc, ◌+◌, ◌≤◌, ◌<◌, min}
use native.Mathlib.Omega.{arith}
use native.Mathlib.Numerals.{add-one}
use mathlib.Core.Path.{◌≡◌, refl, sym, ap, ap₂, ◌∙◌}
use mathlib.Core.Bool.{Bool, true, false, cond}
use mathlib.Core.List.{List, [], ◌∷◌, map}
use lib.ListN.{length, get_or, drop, drop_of_length-le, get_or-eq_default}
use lib.Seq.{drop-cons}
use lib.Dec.{leb}
use borrow.Author.Tests.{leb-true, leb-false}
use Rattle.aadl.specs.Bytes.{peek}
use Rattle.aadl.specs.Tokens.{kind_in, length_in}
use Rattle.aadl.specs.Symbols.{is_trivia, symbol_of, Placed, placed}
use Rattle.parser.specs.declared.Counters.{Counters}
use Rattle.parser.specs.Counters.{Place}
use Rattle.parser.specs.Input.{Input, token_in, without_trivia, standing, rest, past, skip, trivia_ahead, after_one, next, END, ahead}

abbrev pub tail : List ℕ → List ℕ
tail [] = []
tail (x ∷ xs) = xs

pub tail-drop : (i : ℕ) (xs : List ℕ) → tail (drop i xs) ≡ drop (suc i) xs
tail-drop zero [] = refl
tail-drop zero (x ∷ xs) = refl
tail-drop (suc i) [] = refl
tail-drop (suc i) (x ∷ xs) = tail-drop i xs

-- THE TEXT'S END -------------------------------------------------------------------------------------------------------

without-step : (text : List ℕ) (b w : ℕ) (ws : List ℕ) →
    let more = without_trivia text (b + length_in w) ws in
    without_trivia text b (w ∷ ws) ≡ cond (is_trivia (kind_in w)) more (symbol_of (kind_in w) (peek text b) ∷ more)
unfolding without_trivia placed
without-step text b w ws = go (is_trivia (kind_in w))
  where
    more : List Placed
    more = placed text (b + length_in w) (map token_in ws)

    go : (t : Bool) → map (λ (p : Placed). p.symbol) (cond t more (record { symbol = symbol_of (kind_in w) (peek text b); place = b } ∷ more))
        ≡ cond t (map (λ (p : Placed). p.symbol) more) (symbol_of (kind_in w) (peek text b) ∷ map (λ (p : Placed). p.symbol) more)
    go true = refl
    go false = refl

past_same : (text : List ℕ) (a b : ℕ) (ws : List ℕ) → length text ≤ a → length text ≤ b → without_trivia text a ws ≡ without_trivia text b ws
unfolding without_trivia placed
past_same text a b [] h l = refl
past_same text a b (w ∷ ws) h l =
    without-step text a w ws
    ∙ ap₂ (λ (x : ℕ) (xs : List ℕ). cond (is_trivia (kind_in w)) xs (symbol_of (kind_in w) x ∷ xs))
    (get_or-eq_default text 0 h ∙ sym (get_or-eq_default text 0 l))
    (past_same text (a + length_in w) (b + length_in w) ws (omega arith) (omega arith))
    ∙ sym (without-step text b w ws)

capped : (text : List ℕ) (b : ℕ) (ws : List ℕ) → without_trivia text (min b (length text)) ws ≡ without_trivia text b ws
capped text b ws = go (leb b (length text)) refl
  where
    go : (t : Bool) → leb b (length text) ≡ t → without_trivia text (min b (length text)) ws ≡ without_trivia text b ws
    go true e = ap (λ (n : ℕ). without_trivia text n ws) (omega (arith, leb-true b (length text) e))
    go false e = past_same text (min b (length text)) b ws (omega (arith, leb-false b (length text) e)) (omega (arith, leb-false b (length text) e))

-- SKIPPING -------------------------------------------------------------------------------------------------------------

tail-is : (ws : List ℕ) (i w : ℕ) (vs : List ℕ) → drop i ws ≡ w ∷ vs → drop (suc i) ws ≡ vs
tail-is ws i w vs e = sym (tail-drop i ws) ∙ ap tail e

-- after the trivia the first symbol stands
skip-stands : (text : List ℕ) (ws : List ℕ) (i b : ℕ) (vs : List ℕ) → drop i ws ≡ vs →
    standing text (skip text i b vs).byte (drop (skip text i b vs).at ws) ≡ without_trivia text b vs
unfolding skip standing placed
skip-stands text ws i b [] e = ap (standing text b) e
skip-stands text ws i b (w ∷ vs) e =
    go (is_trivia (kind_in w)) (skip-stands text ws (suc i) (past text b w) vs (tail-is ws i w vs e) ∙ capped text (b + length_in w) vs)
    ∙ sym (without-step text b w vs)
  where
    more : List ℕ
    more = without_trivia text (b + length_in w) vs

    here : Place
    here = record { at = i; byte = b }

    s : Place
    s = skip text (suc i) (past text b w) vs

    go : (t : Bool) → standing text s.byte (drop s.at ws) ≡ more →
        standing text (cond t s here).byte (drop (cond t s here).at ws) ≡ cond t more (symbol_of (kind_in w) (peek text b) ∷ more)
    go true f = f
    go false f = ap (standing text b) e

pub standing-after_one : (text ws : List ℕ) (i b : ℕ) →
    standing text (after_one text i b (drop i ws)).byte (drop (after_one text i b (drop i ws)).at ws) ≡ tail (standing text b (drop i ws))
unfolding after_one standing
standing-after_one text ws i b = go (drop i ws) refl
  where
    go : (vs : List ℕ) → drop i ws ≡ vs →
        standing text (after_one text i b vs).byte (drop (after_one text i b vs).at ws) ≡ tail (standing text b vs)
    go [] e = ap (standing text b) e
    go (w ∷ vs) e = skip-stands text ws (suc i) (past text b w) vs (tail-is ws i w vs e) ∙ capped text (b + length_in w) vs

-- The same where a parser stands, of a parser that was moved on.
pub rest-after_one : (inp : Input) (p q : Counters) → q.at ≡ (next inp p).at → q.byte ≡ (next inp p).byte → rest inp q ≡ tail (rest inp p)
unfolding rest
rest-after_one inp p q e f =
    ap₂ (λ (i b : ℕ). standing inp.text b (drop i inp.words)) e f ∙ standing-after_one inp.text inp.words p.at p.byte

-- WORD BY WORD ---------------------------------------------------------------------------------------------------------

-- before trivia a skip goes past one word, and nowhere else
pub skip-goes : (text : List ℕ) (i b : ℕ) (ws : List ℕ) → trivia_ahead ws ≡ true → after_one text i b ws ≡ skip text i b ws
unfolding skip after_one
skip-goes text i b [] e = refl
skip-goes text i b (w ∷ ws) e = rw e refl

pub skip-stops : (text : List ℕ) (i b : ℕ) (ws : List ℕ) → trivia_ahead ws ≡ false → skip text i b ws ≡ record { at = i; byte = b }
unfolding skip
skip-stops text i b [] e = refl
skip-stops text i b (w ∷ ws) e = rw e refl

module _ (text ws : List ℕ) (i b : ℕ) where
  pub skip-more : i < length ws → is_trivia (kind_in (get_or ws i 0)) ≡ true →
      skip text (i + 1) (past text b (get_or ws i 0)) (drop (i + 1) ws) ≡ skip text i b (drop i ws)
  unfolding skip
  skip-more h e = rw (drop-cons ws i 0 h, e, add-one i) refl

  pub skip-stays : i < length ws → is_trivia (kind_in (get_or ws i 0)) ≡ false → skip text i b (drop i ws) ≡ record { at = i; byte = b }
  unfolding skip
  skip-stays h e = rw (drop-cons ws i 0 h, e) refl

  pub skip-ends : length ws ≤ i → skip text i b (drop i ws) ≡ record { at = i; byte = b }
  unfolding skip
  skip-ends h = rw (drop_of_length-le ws h) refl

  pub trivia_is : i < length ws → trivia_ahead (drop i ws) ≡ is_trivia (kind_in (get_or ws i 0))
  trivia_is h = ap trivia_ahead (drop-cons ws i 0 h)

  pub trivia_ends : length ws ≤ i → trivia_ahead (drop i ws) ≡ false
  trivia_ends h = ap trivia_ahead (drop_of_length-le ws h)

  pub after-one_is : i < length ws → after_one text i b (drop i ws) ≡ skip text (i + 1) (past text b (get_or ws i 0)) (drop (i + 1) ws)
  unfolding after_one
  after-one_is h = rw (drop-cons ws i 0 h, add-one i) refl

  pub after-one_ends : length ws ≤ i → after_one text i b (drop i ws) ≡ record { at = i; byte = b }
  unfolding after_one
  after-one_ends h = rw (drop_of_length-le ws h) refl

  pub ahead-is : {k x : ℕ} → i < length ws → k ≡ kind_in (get_or ws i 0) → x ≡ peek text b → symbol_of k x ≡ ahead (standing text b (drop i ws))
  unfolding standing
  ahead-is h e f = ap₂ symbol_of e f ∙ rw (drop-cons ws i 0 h) refl

  pub ahead-ends : length ws ≤ i → END ≡ ahead (standing text b (drop i ws))
  unfolding standing
  ahead-ends h = rw (drop_of_length-le ws h) refl
