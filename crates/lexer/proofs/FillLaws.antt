-- Filling words with a text's tokens, one token at a turn: what is written and what remains to be written make up the whole. So at the
-- end, or where no word is left, the words, the place and the last token are as the definition says. Assumes nothing.
use Prim.Native.Nat.{ℕ, zero, suc, ◌+◌, ◌-◌, ◌≤◌, ◌<◌, zero-le}
use native.Mathlib.Nat.{le_refl}
use native.Mathlib.Numerals.{add-one}
use native.Mathlib.Omega.{arith}
use mathlib.Core.Path.{◌≡◌, refl, sym, ap, subst, ◌∙◌}
use mathlib.Core.Bool.{Bool, true, false}
use mathlib.Core.List.{List, [], ◌∷◌, ◌++◌, append_assoc, append-nil}
use lib.ListN.{length, get_or, drop, take, set, length-drop, length-set, length-map, drop_of_length-le, take-append-drop}
use lib.Seq.{drop-cons, take-suc-set, drop-set-lt, drop-drop, take_all, get_or-take, length-take-le}
use lib.Dec.{ltb}
use borrow.Author.Tests.{ne_eqb, lt-ltb, le-ltb, ltb-true, ltb-false}
use Rattle.aadl.specs.declared.Token.{Token}
use Rattle.aadl.specs.Tokens.{token, lengths, token_of, tokens, token_word}
use Rattle.aadl.specs.Answers.{token_words}
use Rattle.aadl.proofs.TokenBounds.{token-within, token-kind_small}
use Rattle.aadl.proofs.TokensCover.{tokens-step, tokens_none, token-by_number}
use Rattle.aadl.proofs.Unclosed.{LastTells, last-tells}
use Rattle.lexer.specs.Filling.{write, last_of, filled_of}
use Rattle.std.specs.Prelude.{Option, Some, None, Result, Ok, Err, cond, eqb, unwrap_or}
use Rattle.lexer.specs.declared.Filled.{Filled}

write-nil : (ws : List ℕ) → write ws [] ≡ []
write-nil [] = refl
write-nil (w ∷ ws) = refl

-- where all words fit, the old contents come after them
pub write-fits : (ws old : List ℕ) → length ws ≤ length old → write ws old ≡ ws ++ drop (length ws) old
write-fits [] old h = refl
write-fits (w ∷ ws) [] h = absurd (omega arith)
write-fits (w ∷ ws) (o ∷ old) h = ap (λ (l : List ℕ). w ∷ l) (write-fits ws old (omega arith))

-- one token more
lengths-more : (n : ℕ) (ts : List Token) (d : Token) → n < length ts → lengths (take (suc n) ts) ≡ lengths (take n ts) + (get_or ts n d).len
lengths-more n [] d h = absurd (omega (arith, h))
lengths-more zero (t ∷ ts) d h = omega arith
lengths-more (suc n) (t ∷ ts) d h = omega (arith, lengths-more n ts d (omega (arith, h)))

-- Where filling stands: `at` bytes read, n words written, and the last token that was read, if there is one.
pub record Filling (s old words : List ℕ) (at n : ℕ) (last : Option Token) : Type 0 where
  pub fits : at ≤ length s
  pub room : n ≤ length old
  pub same : length words ≡ length old
  pub written : take n words ++ write (token_words (drop at s)) (drop n words) ≡ write (token_words s) old
  pub counts : n + length (tokens (drop at s)) ≡ length (tokens s)
  pub place : at ≡ lengths (take n (tokens s))
  pub carried : last ≡ last_of (take n (tokens s))

pub filling_starts : (s old : List ℕ) → Filling s old old 0 0 None
filling_starts s old =
    record { fits = zero-le; room = zero-le; same = refl; written = refl; counts = omega arith; place = refl; carried = refl }

-- one token more is the last
last-more : (ts : List Token) (n : ℕ) (t : Token) → n < length ts → get_or ts n (token 0 0) ≡ t → Some t ≡ last_of (take (n + 1) ts)
last-more ts n t h e =
    let long : length (take (n + 1) ts) ≡ n + 1 = length-take-le (n + 1) ts (omega (arith, h)) in
    let some : eqb (length (take (n + 1) ts)) 0 ≡ false = ne_eqb _ 0 (λ z. omega (arith, z, long)) in
    let place : length (take (n + 1) ts) - 1 ≡ n = omega (arith, long) in
    let is : get_or (take (n + 1) ts) (length (take (n + 1) ts) - 1) (token 0 0) ≡ t =
    ap (λ (k : ℕ). get_or (take (n + 1) ts) k (token 0 0)) place ∙ get_or-take (n + 1) ts n (token 0 0) (omega arith) ∙ e in
    rw (some, is) refl

module _ {s old words : List ℕ} {at n : ℕ} {last : Option Token} (f : Filling s old words at n last) where
  -- the next token, and the tokens after it
  more : (t : Token) → at < length s → t ≡ token_of (drop at s) → tokens (drop at s) ≡ t ∷ tokens (drop (at + t.len) s)
  more t h e = tokens-step (drop at s) (omega (arith, length-drop at s)) ∙ (λ i. e' i ∷ tokens (d i))
    where
      e' : token_of (drop at s) ≡ t
      e' = sym e

      d : drop (token_of (drop at s)).len (drop at s) ≡ drop (at + t.len) s
      d = drop-drop (token_of (drop at s)).len at s ∙ ap (λ (u : Token). drop (at + u.len) s) (sym e)

  pub filling_more : (t : Token) → at < length s → n < length words → t ≡ token_of (drop at s) →
      Filling s old (set words n (token_word t)) (at + t.len) (n + 1) (Some t)
  filling_more t h l e =
      let m = more t h e in
      let w = token-within (drop at s) (omega (arith, length-drop at s)) in
      let ts = tokens s in
      let d = token 0 0 in
      let some : n < length ts = omega (arith, ap length m) in
      let this : get_or ts n d ≡ t = token-by_number n s d some ∙ ap (λ (k : ℕ). token_of (drop k s)) (sym f.place) ∙ sym e in
      record {
        fits = omega (arith, ap (λ (u : Token). u.len) e, length-drop at s);
        room = omega arith;
        same = length-set words n (token_word t) ∙ f.same;
        written =
            rw (add-one, take-suc-set words n (token_word t) l, drop-set-lt (suc n) words n (token_word t) (le_refl (suc n)), append_assoc)
            (rw (m, drop-cons words n 0 l) at f.written);
        counts = omega (arith, ap length m);
        place = rw add-one (omega (arith, f.place, lengths-more n ts d some, ap (λ (u : Token). u.len) this));
        carried = last-more ts n t some this;
      }

  pub filling_full : at < length s → n ≡ length words → (Err at ≡ filled_of s (length old)) × (words ≡ write (token_words s) old)
  unfolding filled_of
  filling_full h l =
      let ts = tokens s in
      let m = tokens-step (drop at s) (omega (arith, length-drop at s)) in
      let g : length old < length ts = omega (arith, ap length m) in
      let k : n ≡ length old = omega arith in
      let v : length words ≤ n = omega arith in (
        rw (lt-ltb (length old) (length ts) g) (ap Err (f.place ∙ ap (λ (i : ℕ). lengths (take i ts)) k)),
        sym (append-nil words)
            ∙ (rw (take_all n words v, drop_of_length-le words v, write-nil (token_words (drop at s))) at f.written),
      )

  pub filling_ends : length s ≤ at → (Ok (record { count = n; last = last }) ≡ filled_of s (length old)) × (words ≡ write (token_words s) old)
  unfolding filled_of
  filling_ends h =
      let ts = tokens s in
      let z = tokens_none (drop at s) (omega (arith, length-drop at s)) in
      let g : n ≡ length ts = omega (arith, ap length z) in
      let l : length ts ≤ length old = omega arith in
      let carried : last ≡ last_of ts = f.carried ∙ ap last_of (take_all n ts (omega arith)) in (
        rw (le-ltb (length old) (length ts) l) (λ i. Ok (record { count = g i; last = carried i })),
        sym (take-append-drop n words) ∙ (rw z at f.written),
      )

-- A token's kind and length fit their places in a word.
pub record Fitting (s : List ℕ) (at : ℕ) (t : Token) : Type 0 where
  pub some : 1 ≤ t.len
  pub inside : at + t.len ≤ length s
  pub small : t.kind < 128

pub token-fits : (s : List ℕ) (at : ℕ) (t : Token) → at < length s → t ≡ token_of (drop at s) → Fitting s at t
token-fits s at t h e =
    let w = token-within (drop at s) (omega (arith, length-drop at s)) in
    let q = ap (λ (u : Token). u.len) e in
    record { some = omega arith; inside = omega (arith, length-drop at s); small = omega (arith, token-kind_small (drop at s), ap (λ (u : Token). u.kind) e) }

-- WHAT A FILLING ANSWERS -----------------------------------------------------------------------------------------------

last-is : (ts : List Token) → get_or ts (length ts - 1) (token 0 0) ≡ unwrap_or (last_of ts) (token 0 0)
last-is [] = refl
last-is (t ∷ ts) = rw (ne_eqb (suc (length ts)) 0 (λ z. omega (arith, z))) refl

-- what a filling says is told by what it is; a token of no bytes stands for no last one
abbrev pub Told : (text : List ℕ) (m : ℕ) → Result Filled ℕ → Type 0
Told text m (Err at) = (m < length (tokens text)) × (at ≡ lengths (take m (tokens text)))
Told text m (Ok f) = (length (tokens text) ≤ m) × (f.count ≡ length (tokens text)) × LastTells text (unwrap_or f.last (token 0 0))

pub filled-told : (text : List ℕ) (m : ℕ) (r : Result Filled ℕ) → r ≡ filled_of text m → Told text m r
unfolding filled_of
filled-told text m r e = subst (Told text m) (sym e) (go (ltb m (length ts)) refl)
  where
    ts : List Token
    ts = tokens text

    go : (t : Bool) → ltb m (length ts) ≡ t → Told text m (cond t (Err (lengths (take m ts))) (Ok (record { count = length ts; last = last_of ts })))
    go true q = (ltb-true m (length ts) q, refl)
    go false q = (ltb-false m (length ts) q, refl, subst (LastTells text) (last-is ts) (last-tells text))

-- Where all tokens have a word, the words are theirs, and then the old contents.
pub all-written : (text old : List ℕ) → length (tokens text) ≤ length old → write (token_words text) old ≡ token_words text ++ drop (length (token_words text)) old
all-written text old h = write-fits (token_words text) old (omega (arith, length-map (tokens text) token_word))
