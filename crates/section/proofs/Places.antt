-- Where a parser stands among a text's non-trivia tokens. The tokens tile the text, so a start is never capped at its end; after the
-- trivia are skipped the parser's byte is the start of the next non-trivia token, or the text's length, and the word where it stands has
-- that token's raw number, or is none. Assumes nothing.
use Prim.Native.Nat.{ℕ, zero, suc, ◌+◌, ◌<◌}
use native.Mathlib.Omega.{arith}
use native.Mathlib.Numerals.{add-one}
use mathlib.Core.Path.{◌≡◌, refl, sym, ap, subst, ◌∙◌}
use mathlib.Core.Bool.{Bool, true, false, cond}
use mathlib.Core.List.{List, [], ◌∷◌, map}
use lib.ListN.{length, get_or, drop, length-map}
use lib.Seq.{drop-drop, get_or-drop}
use Rattle.aadl.specs.Bytes.{peek}
use Rattle.aadl.specs.Tokens.{kind_in, tokens, length_in, total, token_word}
use Rattle.aadl.specs.Symbols.{is_trivia, symbol_of, Placed, placed, symbols, start_of, raw_numbers, raw_number}
use Rattle.aadl.specs.Answers.{token_words}
use Rattle.parser.specs.declared.Counters.{Counters}
use Rattle.parser.specs.Counters.{Place}
use Rattle.parser.specs.Input.{input, standing, rest, past, skip, after_one, next, new}
use Rattle.section.specs.Standing.{placed_words, numbers_in, Solid, Stood, Behind}
use Rattle.section.proofs.WordsBack.{placed-back, numbers-back, total-token_words}

abbrev symbol-at : (text : List ℕ) → (byte w : ℕ) → Placed
symbol-at text b w = record { symbol = symbol_of (kind_in w) (peek text b); place = b }

-- the raw numbers of words, by the first
numbers-trivia : (i w : ℕ) (vs : List ℕ) → is_trivia (kind_in w) ≡ true → numbers_in i (w ∷ vs) ≡ numbers_in (suc i) vs
unfolding raw_numbers
numbers-trivia i w vs e = rw e refl

numbers-solid : (i w : ℕ) (vs : List ℕ) → is_trivia (kind_in w) ≡ false → numbers_in i (w ∷ vs) ≡ i ∷ numbers_in (suc i) vs
unfolding raw_numbers
numbers-solid i w vs e = rw e refl

numbers-none : (i : ℕ) → numbers_in i [] ≡ []
unfolding raw_numbers
numbers-none i = refl

module _ (text ws : List ℕ) where
  -- where the words from i on are vs
  stood : (ps : List Placed) (ns : List ℕ) (i b : ℕ) (vs : List ℕ) → drop i ws ≡ vs → b + total vs ≡ length text → placed_words text b vs ≡ ps →
      i + length vs ≡ length ws → numbers_in i vs ≡ ns → Solid vs → Stood text ws ps ns i b
  stood ps ns i b vs e t s l m n =
      record {
        tiles = subst (λ (us : List ℕ). b + total us ≡ length text) (sym e) t;
        shows = ap (placed_words text b) e ∙ s;
        solid = subst Solid (sym e) n;
        counts = ap (λ (us : List ℕ). i + length us) e ∙ l;
        numbers = ap (numbers_in i) e ∙ m;
      }

  next-drop : (i w : ℕ) (vs : List ℕ) → drop i ws ≡ w ∷ vs → drop (suc i) ws ≡ vs
  next-drop i w vs e = ap (λ (n : ℕ). drop n ws) (sym (add-one i)) ∙ sym (drop-drop 1 i ws) ∙ ap (drop 1) e

  placed-trivia : (b w : ℕ) (vs : List ℕ) → is_trivia (kind_in w) ≡ true → placed_words text b (w ∷ vs) ≡ placed_words text (b + length_in w) vs
  unfolding placed
  placed-trivia b w vs e = rw e refl

  placed-solid : (b w : ℕ) (vs : List ℕ) → is_trivia (kind_in w) ≡ false →
      placed_words text b (w ∷ vs) ≡ symbol-at text b w ∷ placed_words text (b + length_in w) vs
  unfolding placed
  placed-solid b w vs e = rw e refl

  placed-none : (b : ℕ) → placed_words text b [] ≡ []
  unfolding placed
  placed-none b = refl

  -- the start after a word is not capped
  past_is : (b w : ℕ) (vs : List ℕ) → b + total (w ∷ vs) ≡ length text → past text b w ≡ b + length_in w
  past_is b w vs t = omega (arith, t)

  skip-stood : (ps : List Placed) (ns : List ℕ) (i b : ℕ) (vs : List ℕ) → drop i ws ≡ vs → b + total vs ≡ length text → placed_words text b vs ≡ ps →
      i + length vs ≡ length ws → numbers_in i vs ≡ ns → Stood text ws ps ns (skip text i b vs).at (skip text i b vs).byte
  unfolding skip
  skip-stood ps ns i b [] e t s l m = stood ps ns i b [] e t s l m tt
  skip-stood ps ns i b (w ∷ vs) e t s l m = go (is_trivia (kind_in w)) refl (skip-stood ps ns (suc i) (past text b w) vs (next-drop i w vs e))
    where
      q : past text b w ≡ b + length_in w
      q = past_is b w vs t

      here : Place
      here = record { at = i; byte = b }

      more : Place
      more = skip text (suc i) (past text b w) vs

      go : (u : Bool) → is_trivia (kind_in w) ≡ u →
          (past text b w + total vs ≡ length text → placed_words text (past text b w) vs ≡ ps → suc i + length vs ≡ length ws → numbers_in (suc i) vs ≡ ns →
          Stood text ws ps ns more.at more.byte) → Stood text ws ps ns (cond u more here).at (cond u more here).byte
      go true f k =
          k (omega (arith, q, t)) (ap (λ (n : ℕ). placed_words text n vs) q ∙ sym (placed-trivia b w vs f) ∙ s) (omega (arith, l)) (sym (numbers-trivia i w vs f) ∙ m)
      go false f k = stood ps ns i b (w ∷ vs) e t s l m f

  after-one_stood : (ps : List Placed) (ns : List ℕ) (i b : ℕ) → Stood text ws ps ns i b →
      Stood text ws (drop 1 ps) (drop 1 ns) (after_one text i b (drop i ws)).at (after_one text i b (drop i ws)).byte
  unfolding after_one
  after-one_stood ps ns i b x = go (drop i ws) refl x.tiles x.shows x.counts x.numbers x.solid
    where
      go : (vs : List ℕ) → drop i ws ≡ vs → b + total vs ≡ length text → placed_words text b vs ≡ ps → i + length vs ≡ length ws → numbers_in i vs ≡ ns → Solid vs →
          Stood text ws (drop 1 ps) (drop 1 ns) (after_one text i b vs).at (after_one text i b vs).byte
      go [] e t s l m n =
          stood (drop 1 ps) (drop 1 ns) i b [] e t (placed-none b ∙ ap (drop 1) (sym (placed-none b) ∙ s)) l (numbers-none i ∙ ap (drop 1) (sym (numbers-none i) ∙ m)) tt
      go (w ∷ vs) e t s l m n =
          let q = past_is b w vs t in
          skip-stood (drop 1 ps) (drop 1 ns) (suc i) (past text b w) vs (next-drop i w vs e) (omega (arith, q, t))
          (ap (λ (n : ℕ). placed_words text n vs) q ∙ ap (drop 1) (sym (placed-solid b w vs n) ∙ s)) (omega (arith, l)) (ap (drop 1) (sym (numbers-solid i w vs n) ∙ m))

  -- the byte is the first one's place
  stood-place : (ps : List Placed) (ns : List ℕ) (i b : ℕ) → Stood text ws ps ns i b → b ≡ get_or (map (λ (p : Placed). p.place) ps) 0 (length text)
  stood-place ps ns i b x = go (drop i ws) x.tiles x.shows x.solid
    where
      go : (vs : List ℕ) → b + total vs ≡ length text → placed_words text b vs ≡ ps → Solid vs →
          b ≡ get_or (map (λ (p : Placed). p.place) ps) 0 (length text)
      go [] t s n = subst (λ (l : List Placed). b ≡ get_or (map (λ (p : Placed). p.place) l) 0 (length text)) (sym (placed-none b) ∙ s) (omega (arith, t))
      go (w ∷ vs) t s n = subst (λ (l : List Placed). b ≡ get_or (map (λ (p : Placed). p.place) l) 0 (length text)) (sym (placed-solid b w vs n) ∙ s) refl

  -- .. and the word its raw number, or as many as there are words
  stood-number : (ps : List Placed) (ns : List ℕ) (i b : ℕ) → Stood text ws ps ns i b → i ≡ get_or ns 0 (length ws)
  stood-number ps ns i b x = go (drop i ws) x.counts x.numbers x.solid
    where
      go : (vs : List ℕ) → i + length vs ≡ length ws → numbers_in i vs ≡ ns → Solid vs → i ≡ get_or ns 0 (length ws)
      go [] l m n = subst (λ (us : List ℕ). i ≡ get_or us 0 (length ws)) (sym (numbers-none i) ∙ m) (omega (arith, l))
      go (w ∷ vs) l m n = subst (λ (us : List ℕ). i ≡ get_or us 0 (length ws)) (sym (numbers-solid i w vs n) ∙ m) refl

  -- what stands there is all of them
  pub stood-symbols : (ps : List Placed) (ns : List ℕ) (i b : ℕ) → Stood text ws ps ns i b → standing text b (drop i ws) ≡ map (λ (p : Placed). p.symbol) ps
  unfolding standing
  stood-symbols ps ns i b x = go (drop i ws) x.shows x.solid
    where
      go : (vs : List ℕ) → placed_words text b vs ≡ ps → Solid vs → standing text b vs ≡ map (λ (p : Placed). p.symbol) ps
      go [] s n = ap (map (λ (p : Placed). p.symbol)) (sym (placed-none b) ∙ s)
      go (w ∷ vs) s n = ap (map (λ (p : Placed). p.symbol)) (sym (placed-solid b w vs n) ∙ s)

-- OF A TEXT ------------------------------------------------------------------------------------------------------------

getD_from : (ps : List Placed) (k d : ℕ) → get_or (map (λ (p : Placed). p.place) (drop k ps)) 0 d ≡ get_or (map (λ (p : Placed). p.place) ps) k d
getD_from ps zero d = refl
getD_from [] (suc k) d = refl
getD_from (p ∷ ps) (suc k) d = getD_from ps k d

-- It stands at the start of the next one ..
pub behind-byte : (text : List ℕ) (k : ℕ) (p : Counters) → Behind text k p → p.byte ≡ start_of text k
unfolding start_of
behind-byte text k p x =
    let ps = placed text 0 (tokens text) in
    stood-place text (token_words text) (drop k ps) (drop k (raw_numbers 0 (tokens text))) p.at p.byte x.where_it_is ∙ getD_from ps k (length text)

-- .. at its raw number, or at the token count.
pub behind-at : (text : List ℕ) (k : ℕ) (p : Counters) → Behind text k p → p.at ≡ raw_number text k
unfolding raw_number
behind-at text k p x =
    let ns = raw_numbers 0 (tokens text) in
    stood-number text (token_words text) (drop k (placed text 0 (tokens text))) (drop k ns) p.at p.byte x.where_it_is
    ∙ ap (get_or (drop k ns) 0) (length-map (tokens text) token_word) ∙ get_or-drop k ns 0 (length (tokens text)) ∙ ap (λ (n : ℕ). get_or ns n (length (tokens text))) (omega arith)

pub new-behind : (text : List ℕ) (l : ℕ) → length text < 65536 → Behind text 0 (new (input text (token_words text)) l)
unfolding new
new-behind text l h =
    let ws = token_words text in
    record {
      where_it_is = skip-stood text ws (placed text 0 (tokens text)) (raw_numbers 0 (tokens text)) 0 0 ws refl (omega (arith, total-token_words text h)) (placed-back text h)
          (omega arith) (numbers-back text h);
    }

pub next-behind : (text : List ℕ) (k : ℕ) (p q : Counters) → Behind text k p → q.at ≡ (next (input text (token_words text)) p).at →
    q.byte ≡ (next (input text (token_words text)) p).byte → Behind text (suc k) q
next-behind text k p q x e f =
    let ws = token_words text in
    let ps = placed text 0 (tokens text) in
    let ns = raw_numbers 0 (tokens text) in
    let y = after-one_stood text ws (drop k ps) (drop k ns) p.at p.byte x.where_it_is in
    let c : drop 1 (drop k ps) ≡ drop (suc k) ps = drop-drop 1 k ps ∙ ap (λ (n : ℕ). drop n ps) (add-one k) in
    let d : drop 1 (drop k ns) ≡ drop (suc k) ns = drop-drop 1 k ns ∙ ap (λ (n : ℕ). drop n ns) (add-one k) in
    record {
      where_it_is = subst (λ (l : List Placed). Stood text ws l (drop (suc k) ns) q.at q.byte) c
          (subst (λ (l : List ℕ). Stood text ws (drop 1 (drop k ps)) l q.at q.byte) d
          (subst (λ (i : ℕ). Stood text ws (drop 1 (drop k ps)) (drop 1 (drop k ns)) i q.byte) (sym e)
          (subst (λ (b : ℕ). Stood text ws (drop 1 (drop k ps)) (drop 1 (drop k ns)) (next (input text ws) p).at b) (sym f) y)));
    }

-- A new parser has all of the text's symbols before it.
pub new-rest : (text : List ℕ) (l : ℕ) → length text < 65536 → rest (input text (token_words text)) (new (input text (token_words text)) l) ≡ symbols text
unfolding rest new symbols
new-rest text l h =
    let p = new (input text (token_words text)) l in
    stood-symbols text (token_words text) (placed text 0 (tokens text)) (raw_numbers 0 (tokens text)) p.at p.byte (new-behind text l h).where_it_is
