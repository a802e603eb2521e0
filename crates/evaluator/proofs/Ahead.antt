-- What stands where a parser stands: the symbol of the text's next token; and where that is a literal of a whole number, a digit. Assumes
-- nothing.
use Prim.Native.Nat.{ℕ, zero, suc, ◌+◌, ◌≤◌, ◌<◌}
use native.Mathlib.Omega.{arith}
use mathlib.Core.Path.{◌≡◌, refl, sym, ap, subst, ◌∙◌}
use mathlib.Core.Bool.{Bool, true, false, ◌&&◌, cond}
use mathlib.Core.List.{List, [], ◌∷◌, map, append-nil}
use lib.ListN.{length, get_or, take, drop, length-drop, length-map, drop_of_length-le}
use lib.Seq.{get_or-drop}
use lib.Dec.{eqb}
use borrow.Author.Tests.{eq-eqb}
use Rattle.aadl.specs.declared.Token.{Token}
use Rattle.aadl.specs.Kinds.{ERROR, INTEGER_LIT, #◌}
use Rattle.aadl.specs.Bytes.{peek, is_digit, is_ident_continue, run}
use Rattle.aadl.specs.Tokens.{kind_in, total, tokens, token_word, token_of, from_token, word_of}
use Rattle.aadl.specs.Symbols.{symbol_of, C_STYLE, Placed, placed, symbols, raw_numbers}
use Rattle.aadl.specs.Answers.{token_words}
use Rattle.aadl.proofs.TokenBounds.{token-cases, word-kind, mark-kind}
use Rattle.aadl.proofs.TokenText.{TokenAt, token-at}
use Rattle.parser.specs.declared.Counters.{Counters}
use Rattle.parser.specs.Input.{input, standing, rest, ahead, nth}
use Rattle.parser.specs.declared.Tokens.{Tokens}
use Rattle.parser.specs.Parsers.{source, cursor}
use Rattle.section.specs.Standing.{Passed}
use Rattle.section.specs.Reaching.{Reached}
use Rattle.section.proofs.Places.{stood-symbols}
use Rattle.section.proofs.Seeking.{behind-total}
use Rattle.evaluator.specs.Terms.{ahead_at}

-- SYMBOLS --------------------------------------------------------------------------------------------------------------

map_drop : (ps : List Placed) (k : ℕ) → map (λ (p : Placed). p.symbol) (drop k ps) ≡ drop k (map (λ (p : Placed). p.symbol) ps)
map_drop ps zero = refl
map_drop [] (suc k) = refl
map_drop (p ∷ ps) (suc k) = map_drop ps k

first_of : (xs : List ℕ) (k : ℕ) → 0 < length (drop k xs) → drop k xs ≡ ahead (drop k xs) ∷ drop (suc k) xs
first_of [] zero h = absurd (omega (arith, h))
first_of [] (suc k) h = absurd (omega (arith, h))
first_of (x ∷ xs) zero h = refl
first_of (x ∷ xs) (suc k) h = first_of xs k h

some-symbol : (text : List ℕ) (b : ℕ) (ws : List ℕ) → 0 < length ws → 0 < length (standing text b ws)
unfolding standing
some-symbol text b [] h = h
some-symbol text b (w ∷ ws) h = omega arith

module _ (text : List ℕ) (k : ℕ) (p : Counters) (x : Passed text k p) where
  stands : standing text p.byte (drop p.at (token_words text)) ≡ drop k (symbols text)
  unfolding symbols
  stands =
      let ps = placed text 0 (tokens text) in
      stood-symbols text (token_words text) (drop k ps) (drop k (raw_numbers 0 (tokens text))) p.at p.byte x.behind.where_it_is ∙ map_drop ps k

  -- the parser's current symbol
  pub passed-ahead : (ws : List ℕ) → ws ≡ token_words text → (c : ℕ) → c ≡ nth (input text ws) p 0 → c ≡ ahead_at text k
  unfolding nth rest
  passed-ahead ws w c e =
      e ∙ ap (λ (v : List ℕ). nth (input text v) p 0) w
      ∙ ap (λ (t : Bool). cond t (ahead (standing text p.byte (drop p.at (token_words text)))) 257) (eq-eqb p.stop 0 x.goes)
      ∙ ap ahead stands

  -- what remains
  pub passed-rest : (ws : List ℕ) → ws ≡ token_words text → rest (input text ws) p ≡ drop k (symbols text)
  unfolding rest
  passed-rest ws w = ap (λ (v : List ℕ). rest (input text v) p) w ∙ stands

  -- A symbol stands there exactly if a token's word does.
  pub some-there : p.at < length (token_words text) → drop k (symbols text) ≡ ahead_at text k ∷ drop (suc k) (symbols text)
  unfolding standing
  some-there h =
      first_of (symbols text) k
      (subst (λ (ys : List ℕ). 0 < length ys) stands (some-symbol text p.byte (drop p.at (token_words text)) (omega (arith, h, length-drop p.at (token_words text)))))

  pub none_there : length (token_words text) ≤ p.at → drop k (symbols text) ≡ []
  unfolding standing
  none_there h = sym stands ∙ ap (standing text p.byte) (drop_of_length-le (token_words text) h)

-- A symbol that is not the end's stands among them.
pub here : (xs : List ℕ) (k x : ℕ) → ahead (drop k xs) ≡ x → (x ≡ 257 → ⊥) → drop k xs ≡ x ∷ drop (suc k) xs
here [] zero x e n = absurd (n (sym e))
here [] (suc k) x e n = absurd (n (sym e))
here (y ∷ xs) zero x e n = ap (λ (z : ℕ). z ∷ xs) e
here (y ∷ xs) (suc k) x e n = here xs k x e n

-- TOKENS ---------------------------------------------------------------------------------------------------------------

module _ (text : List ℕ) (k : ℕ) (t : Tokens) (x : Reached text k t) where
  -- the symbol where they stand
  pub reached-ahead : (c : ℕ) → c ≡ nth (source t) (cursor t) 0 → c ≡ ahead_at text k
  reached-ahead c e = passed-ahead text k (cursor t) x.stands t.words.now x.words_are c (e ∙ ap (λ (bs : List ℕ). nth (input bs t.words.now) (cursor t) 0) x.text_is)

  -- what remains
  pub reached-rest : rest (source t) (cursor t) ≡ drop k (symbols text)
  reached-rest = ap (λ (bs : List ℕ). rest (input bs t.words.now) (cursor t)) x.text_is ∙ passed-rest text k (cursor t) x.stands t.words.now x.words_are

  -- a symbol is there, or none
  pub reached-some : t.at < length t.words.now → drop k (symbols text) ≡ ahead_at text k ∷ drop (suc k) (symbols text)
  reached-some h = some-there text k (cursor t) x.stands (subst (λ (ws : List ℕ). t.at < length ws) x.words_are h)

  pub reached-none : length t.words.now ≤ t.at → drop k (symbols text) ≡ []
  reached-none h = none_there text k (cursor t) x.stands (subst (λ (ws : List ℕ). length ws ≤ t.at) x.words_are h)

-- LITERALS -------------------------------------------------------------------------------------------------------------

-- Only a number is of the kind INTEGER_LIT.
digit-first : (bs : List ℕ) → (token_of bs).kind ≡ # INTEGER_LIT → is_digit (peek bs 0) ≡ true
unfolding word_of
digit-first bs =
    token-cases (λ (t : Token). t.kind ≡ # INTEGER_LIT → is_digit (peek bs 0) ≡ true) bs (λ e q. absurd (omega (arith, q))) (λ e q. absurd (omega (arith, q))) (λ e q. absurd (omega (arith, q)))
    (λ e q. e) (λ e q. absurd (omega (arith, q, (word-kind (take (run is_ident_continue bs) bs)).0))) (λ q. absurd (omega (arith, q, mark-kind bs)))

symbol-kind : (k b : ℕ) → symbol_of k b ≡ # INTEGER_LIT → k ≡ # INTEGER_LIT
symbol-kind k b e = by (eqb k (# ERROR) && eqb b 48) e
  where
    by : (t : Bool) → cond t C_STYLE k ≡ # INTEGER_LIT → k ≡ # INTEGER_LIT
    by true q = absurd (omega (arith, q))
    by false q = q

-- the word where it stands, if there is one
word-there : (text : List ℕ) (i b : ℕ) → ahead (standing text b (drop i (token_words text))) ≡ # INTEGER_LIT →
    (i < length (token_words text)) × (kind_in (get_or (token_words text) i 0) ≡ # INTEGER_LIT)
unfolding standing
word-there text i b e = by (token_words text) i e
  where
    by : (ws : List ℕ) (j : ℕ) → ahead (standing text b (drop j ws)) ≡ # INTEGER_LIT → (j < length ws) × (kind_in (get_or ws j 0) ≡ # INTEGER_LIT)
    by [] zero q = absurd (omega (arith, q))
    by [] (suc j) q = absurd (omega (arith, q))
    by (w ∷ ws) zero q = (omega arith, symbol-kind (kind_in w) (peek text b) q)
    by (w ∷ ws) (suc j) q = let r = by ws j q in (omega (arith, r.0), r.1)

pub literal-begins : (text : List ℕ) (k : ℕ) (t : Tokens) → Reached text k t → ahead_at text k ≡ # INTEGER_LIT → is_digit (peek text t.byte) ≡ true
literal-begins text k t y e =
    let p = cursor t in
    let h = y.short in
    let x = y.stands in
    let ws = token_words text in
    let i = p.at in
    let w = word-there text i p.byte (ap ahead (stands text k p x) ∙ e) in
    let there = subst (λ (l : List ℕ). TokenAt text l i) (append-nil ws) (token-at text [] i h (omega (arith, w.0, length-map (tokens text) token_word))) in
    let zero : total (take i ws) + 0 ≡ p.byte = omega (arith, behind-total text h k p x.behind) in
    ap is_digit (sym (get_or-drop (total (take i ws)) text 0 0 ∙ ap (peek text) zero)) ∙ digit-first (from_token text ws i) (sym there.kind ∙ w.1)
