-- The token words of a text, with any words behind them: where each token starts, and that its kind and its text come back from its word
-- (`TokenAt`), since the words before it count the bytes before it (`counted`). What the sum of the lengths in any words says of a
-- token's text; and that what holds of a text's words, with any behind them, holds of those that a call left (`read_told`). Assumes nothing.
use Prim.Native.Nat.{ℕ, zero, suc, ◌+◌, ◌≤◌, ◌<◌}
use native.Mathlib.Nat.{not-suc-le-zero, le_of_suc-le-suc}
use native.Mathlib.Omega.{arith}
use mathlib.Core.Path.{◌≡◌, refl, sym, ap, ap₂, subst, ◌∙◌}
use mathlib.Core.List.{List, [], ◌∷◌, ◌++◌, map}
use lib.ListN.{length, get_or, take, drop, length-drop, length-map, length-append, get_or-append, get_or-map}
use lib.Dec.{eqb}
use borrow.Author.Tests.{lt-ltb, le-ltb, le-leb, lt-leb, ltb-false, eqb-true, not-false}
use Rattle.aadl.specs.declared.Token.{Token}
use Rattle.aadl.specs.Limits.{Limits, Allowed}
use Rattle.aadl.specs.Tokens.{token, token_of, tokens, unclosed, lengths, token_word, length_in, kind_in, total, from_token, token_text}
use Rattle.aadl.specs.Answers.{Check, text_checks, token_words}
use Rattle.aadl.specs.Calls.{lent, filled, Each, Fails}
use Rattle.aadl.proofs.TokenBounds.{token-positive, token-kind_small}
use Rattle.aadl.proofs.TokensCover.{tokens-cover_text, kinds-small, token-by_number, lengths-around}
use Rattle.aadl.proofs.Checks.{fails_by}

-- ANY WORDS ------------------------------------------------------------------------------------------------------------

module _ (text ws : List ℕ) (i : ℕ) where
  pub text-none : length ws ≤ i → token_text text ws i ≡ []
  unfolding token_text
  text-none h = rw (le-ltb i (length ws) h) refl

  pub text-past : i < length ws → length text < total (take i ws) + length_in (get_or ws i 0) → token_text text ws i ≡ []
  unfolding token_text
  text-past h l = rw (lt-ltb i (length ws) h, lt-leb (total (take i ws) + length_in (get_or ws i 0)) (length text) l) refl

  pub text_at : i < length ws → total (take i ws) + length_in (get_or ws i 0) ≤ length text →
      token_text text ws i ≡ take (length_in (get_or ws i 0)) (from_token text ws i)
  unfolding token_text
  text_at h l = rw (lt-ltb i (length ws) h, le-leb (total (take i ws) + length_in (get_or ws i 0)) (length text) l) refl

-- A TOKEN'S WORD -------------------------------------------------------------------------------------------------------

module _ (t : Token) (h : t.kind < 128) (l : t.len < 65536) where
  pub kind-back : kind_in (token_word t) ≡ t.kind
  kind-back = omega (arith, h, l)

  pub length_back : length_in (token_word t) ≡ t.len
  length_back = omega (arith, h, l)

-- THE WORDS OF A TEXT --------------------------------------------------------------------------------------------------

-- the words of some tokens count the bytes before each
pub counted : (rest : List ℕ) (i : ℕ) (ts : List Token) → Each (λ (t : Token). t.kind < 128) ts → lengths ts < 65536 → i ≤ length ts →
    total (take i (map token_word ts ++ rest)) ≡ lengths (take i ts)
counted rest zero ts k l h = refl
counted rest (suc i) [] k l h = absurd (not-suc-le-zero h)
counted rest (suc i) (t ∷ ts) k l h =
    ap₂ ◌+◌ (length_back t k.0 (omega (arith, l))) (counted rest i ts k.1 (omega (arith, l)) (le_of_suc-le-suc h))

-- The token with number i, among the token words of a text with any words behind: the bytes from its start on begin with it.
pub record TokenAt (text ts : List ℕ) (i : ℕ) : Type 0 where
  pub some : 1 ≤ length (from_token text ts i)
  pub token-is : get_or (tokens text) i (token 0 0) ≡ token_of (from_token text ts i)
  pub kind : kind_in (get_or ts i 0) ≡ (token_of (from_token text ts i)).kind
  pub len : length_in (get_or ts i 0) ≡ (token_of (from_token text ts i)).len
  pub text-is : token_text text ts i ≡ take (token_of (from_token text ts i)).len (from_token text ts i)

pub token-at : (text rest : List ℕ) (i : ℕ) → length text < 65536 → i < length (tokens text) → TokenAt text (token_words text ++ rest) i
token-at text rest i s h =
    let d = token 0 0 in
    let us = tokens text in
    let ts = token_words text ++ rest in
    let cover = tokens-cover_text text in
    let before : total (take i ts) ≡ lengths (take i us) = counted rest i us (kinds-small text) (omega (arith, s, cover)) (omega (arith, h)) in
    let from = from_token text ts i in
    let t = token_of from in
    let same : get_or us i d ≡ t = token-by_number i text d h ∙ ap (λ (k : ℕ). token_of (drop k text)) (sym before) in
    let ends : total (take i ts) + t.len ≤ length text = omega (arith, before, ap (λ (u : Token). u.len) same, lengths-around i us d h, cover) in
    let count = length-map us token_word in
    let word : get_or ts i 0 ≡ token_word t = get_or-append (token_words text) rest 0 i (omega (arith, h, count)) ∙ get_or-map token_word us i d ∙ ap token_word same in
    let k = token-kind_small from in
    let l : t.len < 65536 = omega (arith, ends, s) in
    let n : length_in (get_or ts i 0) ≡ t.len = ap length_in word ∙ length_back t k l in
    record {
      some = omega (arith, ends, token-positive from, length-drop (total (take i ts)) text);
      token-is = same;
      kind = ap kind_in word ∙ kind-back t k l;
      len = n;
      text-is = text_at text ts i (omega (arith, h, length-append (token_words text) rest, count)) (omega (arith, n, ends)) ∙ ap (λ (m : ℕ). take m from) n;
    }

-- THE WORDS THAT A CALL LEFT -------------------------------------------------------------------------------------------

-- Of a call that refuses nothing: it was lent the words old for tokens, counts n of them and left the words ts. The text is short, its strings are closed,
-- its tokens are counted, and the words are filled.
pub record TokensRead (text old : List ℕ) (n : ℕ) (ts : List ℕ) : Type 0 where
  pub short : length text < 65536
  pub closed : unclosed (tokens text) ≡ length text
  pub count : n ≡ length (tokens text)
  pub fills : ts ≡ filled (lent old (token_words text))

-- Any call whose checks begin with those of the text is such a one.
pub text-read : (limits : Limits) (text old : List ℕ) (own : List Check) (n : ℕ) (ts : List ℕ) → Allowed limits →
    Each Fails (text_checks limits text (length old) ++ own) → n ≡ length (tokens text) → ts ≡ filled (lent old (token_words text)) → TokensRead text old n ts
text-read limits text old own n ts allowed none count fills =
    let cs = text_checks limits text (length old) ++ own in
    let short = ltb-false limits.bytes (length text) (fails_by 1 cs none) in
    record {
      short = omega (arith, allowed, short);
      closed = eqb-true (unclosed (tokens text)) (length text) (not-false (eqb (unclosed (tokens text)) (length text)) (fails_by 8 cs none));
      count = count;
      fills = fills;
    }

-- So what holds of a text's token words, their number and any words behind them, holds of those that it left.
pub read_told : (P : ℕ → List ℕ → Type 0) {text old : List ℕ} {n : ℕ} {ts : List ℕ} → TokensRead text old n ts →
    ((rest : List ℕ) → length text < 65536 → P (length (tokens text)) (token_words text ++ rest)) → P n ts
read_told P {text} {old} {ts} x holds =
    subst (λ (k : ℕ). P k ts) (sym x.count) (subst (P (length (tokens text))) (sym x.fills) (holds (drop (length (token_words text)) old) x.short))
