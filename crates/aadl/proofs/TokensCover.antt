-- The tokens of a text, one after another: each has at least one byte, and their lengths sum to the text's, so that every byte
-- belongs to exactly one token. Passing over k bytes is dropping them, and no token passes the end. The token with a number is the one that
-- the bytes behind those before it begin with (`token-by_number`). Assumes nothing.
use Prim.Native.Nat.{ℕ, zero, suc, ◌+◌, ◌-◌, ◌≤◌, ◌<◌, min, zero-le, suc-le-suc}
use native.Mathlib.Nat.{not-suc-le-zero, le_of_suc-le-suc}
use native.Mathlib.Omega.{arith}
use mathlib.Core.Path.{◌≡◌, refl, ap, ◌∙◌}
use mathlib.Core.List.{List, [], ◌∷◌}
use lib.ListN.{length, get_or, take, drop}
use lib.Seq.{drop-drop}
use Rattle.aadl.specs.declared.Token.{Token}
use Rattle.aadl.specs.Tokens.{lengths, token_of, tokens_after, tokens}
use Rattle.aadl.proofs.Lists.{Each, drop_past_head}
use Rattle.aadl.proofs.TokenBounds.{token-within, token-kind_small}

-- ONE AFTER ANOTHER ----------------------------------------------------------------------------------------------------

pub tokens_after-drops : (k : ℕ) (bs : List ℕ) → tokens_after k bs ≡ tokens (drop k bs)
unfolding tokens tokens_after
tokens_after-drops zero bs = refl
tokens_after-drops (suc k) [] = refl
tokens_after-drops (suc k) (b ∷ bs) = tokens_after-drops k bs

pub tokens-step : (bs : List ℕ) → 1 ≤ length bs → tokens bs ≡ token_of bs ∷ tokens (drop (token_of bs).len bs)
unfolding tokens tokens_after
tokens-step [] h = absurd (not-suc-le-zero h)
tokens-step (b ∷ bs) h =
    let n = (token_of (b ∷ bs)).len in
    ap (λ (ts : List Token). token_of (b ∷ bs) ∷ ts)
    (tokens_after-drops (n - 1) bs ∙ ap tokens (drop_past_head n b bs (token-within (b ∷ bs) h).0))

pub tokens_none : (bs : List ℕ) → length bs ≤ 0 → tokens bs ≡ []
unfolding tokens tokens_after
tokens_none [] h = refl
tokens_none (b ∷ bs) h = absurd (not-suc-le-zero h)

-- EVERY BYTE IN ONE TOKEN ----------------------------------------------------------------------------------------------

-- of the bytes passed over, those that are there
tokens_after-cover : (k : ℕ) (bs : List ℕ) → min k (length bs) + lengths (tokens_after k bs) ≡ length bs
unfolding tokens_after
tokens_after-cover zero [] = omega arith
tokens_after-cover (suc k) [] = omega arith
tokens_after-cover (suc k) (b ∷ bs) = omega (arith, tokens_after-cover k bs)
tokens_after-cover zero (b ∷ bs) =
    let n = (token_of (b ∷ bs)).len in
    omega (arith, token-within (b ∷ bs) (suc-le-suc zero-le), tokens_after-cover (n - 1) bs)

pub tokens-cover_text : (bs : List ℕ) → lengths (tokens bs) ≡ length bs
unfolding tokens
tokens-cover_text bs = omega (arith, tokens_after-cover 0 bs)

-- EACH TOKEN -----------------------------------------------------------------------------------------------------------

-- What holds of the token that any bytes begin with holds of each token of a text.
module _ (P : Token → Type 0) (holds : (bs : List ℕ) → 1 ≤ length bs → P (token_of bs)) where
  each_after : (k : ℕ) (bs : List ℕ) → Each P (tokens_after k bs)
  unfolding tokens_after
  each_after zero [] = tt
  each_after (suc k) [] = tt
  each_after (suc k) (b ∷ bs) = each_after k bs
  each_after zero (b ∷ bs) = (holds (b ∷ bs) (suc-le-suc zero-le), each_after ((token_of (b ∷ bs)).len - 1) bs)

  pub each-token : (bs : List ℕ) → Each P (tokens bs)
  unfolding tokens
  each-token bs = each_after 0 bs

-- Each has at least one byte, and a kind below 128.
pub tokens-positive : (bs : List ℕ) → Each (λ (t : Token). 1 ≤ t.len) (tokens bs)
tokens-positive bs = each-token (λ (t : Token). 1 ≤ t.len) (λ cs h. (token-within cs h).0) bs

pub kinds-small : (bs : List ℕ) → Each (λ (t : Token). t.kind < 128) (tokens bs)
kinds-small bs = each-token (λ (t : Token). t.kind < 128) (λ cs h. token-kind_small cs) bs

-- A text has at most as many tokens as bytes.
count-within : (ts : List Token) → Each (λ (t : Token). 1 ≤ t.len) ts → length ts ≤ lengths ts
count-within [] h = zero-le
count-within (t ∷ ts) h = omega (arith, h.0, count-within ts h.1)

pub tokens-within_text : (bs : List ℕ) → length (tokens bs) ≤ length bs
tokens-within_text bs = omega (arith, count-within (tokens bs) (tokens-positive bs), tokens-cover_text bs)

-- BY NUMBER ------------------------------------------------------------------------------------------------------------

pub token-by_number : (i : ℕ) (bs : List ℕ) (d : Token) → i < length (tokens bs) → get_or (tokens bs) i d ≡ token_of (drop (lengths (take i (tokens bs))) bs)
token-by_number zero [] d h = absurd (omega (arith, h, ap length (tokens_none [] zero-le)))
token-by_number (suc i) [] d h = absurd (omega (arith, h, ap length (tokens_none [] zero-le)))
token-by_number zero (b ∷ bs) d h = ap (λ (ts : List Token). get_or ts 0 d) (tokens-step (b ∷ bs) (suc-le-suc zero-le))
token-by_number (suc i) (b ∷ bs) d h =
    let n = (token_of (b ∷ bs)).len in
    let rest = drop n (b ∷ bs) in
    let e = tokens-step (b ∷ bs) (suc-le-suc zero-le) in
    rw e (token-by_number i rest d (omega (arith, h, ap length e)) ∙ ap token_of (drop-drop (lengths (take i (tokens rest))) n (b ∷ bs)))

-- Those before it, itself and those behind it have all bytes.
pub lengths-around : (i : ℕ) (ts : List Token) (d : Token) → i < length ts → lengths (take i ts) + ((get_or ts i d).len + lengths (drop (suc i) ts)) ≡ lengths ts
lengths-around i [] d h = absurd (not-suc-le-zero h)
lengths-around zero (t ∷ ts) d h = omega arith
lengths-around (suc i) (t ∷ ts) d h = omega (arith, lengths-around i ts d (le_of_suc-le-suc h))
