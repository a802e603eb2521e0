-- The raw number of a text's non-trivia token, its number among all tokens: it never falls, it is at most the token count, the tokens before
-- it end where the token starts, and the token with it has the kind that the parser sees. `number_in` counts it down the tokens, one step
-- for each token passed, so that each law is one induction over them; `raw_number-in` says that it is the raw number. Assumes nothing.
use Prim.Native.Nat.{ℕ, zero, suc, ◌+◌, ◌≤◌, ◌<◌, zero-le, suc-le-suc}
use native.Mathlib.Nat.{not-suc-le-zero, le_of_suc-le-suc}
use native.Mathlib.Omega.{arith}
use mathlib.Core.Path.{◌≡◌, refl, ap, ◌∙◌}
use mathlib.Core.Bool.{Bool, true, false, cond}
use mathlib.Core.List.{List, [], ◌∷◌, map}
use lib.ListN.{length, get_or, take, get_or-map}
use Rattle.aadl.specs.declared.Token.{Token}
use Rattle.aadl.specs.Bytes.{peek}
use Rattle.aadl.specs.Tokens.{token, tokens, lengths}
use Rattle.aadl.specs.Symbols.{is_trivia, symbol_of, Placed, placed, start_of, raw_numbers, raw_number, without_trivia, kinds}
use Rattle.aadl.proofs.TokensCover.{tokens-cover_text}

-- DOWN THE TOKENS ------------------------------------------------------------------------------------------------------

-- How many tokens stand before the non-trivia one with number n, all of them where there is none: by the first token, whether it is trivia, and
-- how many of the rest stand before ..
abbrev past : (trivia : Bool) → (rest : ℕ → ℕ) → (n : ℕ) → ℕ
past true rest n = suc (rest n)
past false rest zero = 0
past false rest (suc n) = suc (rest n)

-- .. and down all tokens.
abbrev number_in : List Token → (n : ℕ) → ℕ
number_in [] n = 0
number_in (t ∷ ts) n = past (is_trivia t.kind) (number_in ts) n

raw_numbers-from : (i : ℕ) (ts : List Token) → raw_numbers (suc i) ts ≡ map suc (raw_numbers i ts)
unfolding raw_numbers
raw_numbers-from i [] = refl
raw_numbers-from i (t ∷ ts) = go (is_trivia t.kind) (raw_numbers-from (suc i) ts)
  where
    go : (b : Bool) → raw_numbers (suc (suc i)) ts ≡ map suc (raw_numbers (suc i) ts) →
        cond b (raw_numbers (suc (suc i)) ts) (suc i ∷ raw_numbers (suc (suc i)) ts) ≡ map suc (cond b (raw_numbers (suc i) ts) (i ∷ raw_numbers (suc i) ts))
    go true e = e
    go false e = ap (λ (l : List ℕ). suc i ∷ l) e

-- one token further on
number_behind : (ts : List Token) (n : ℕ) → get_or (raw_numbers 0 ts) n (length ts) ≡ number_in ts n →
    get_or (raw_numbers 1 ts) n (suc (length ts)) ≡ suc (number_in ts n)
number_behind ts n h =
    ap (λ (l : List ℕ). get_or l n (suc (length ts))) (raw_numbers-from 0 ts) ∙ get_or-map suc (raw_numbers 0 ts) n (length ts) ∙ ap suc h

number_is : (ts : List Token) (n : ℕ) → get_or (raw_numbers 0 ts) n (length ts) ≡ number_in ts n
unfolding raw_numbers
number_is [] n = refl
number_is (t ∷ ts) n = go (is_trivia t.kind) n (λ m. number_behind ts m (number_is ts m))
  where
    go : (b : Bool) (n : ℕ) → ((m : ℕ) → get_or (raw_numbers 1 ts) m (suc (length ts)) ≡ suc (number_in ts m)) →
        get_or (cond b (raw_numbers 1 ts) (0 ∷ raw_numbers 1 ts)) n (suc (length ts)) ≡ past b (number_in ts) n
    go true n h = h n
    go false zero h = refl
    go false (suc n) h = h n

raw_number-in : (text : List ℕ) (n : ℕ) → raw_number text n ≡ number_in (tokens text) n
unfolding raw_number
raw_number-in text n = number_is (tokens text) n

-- ITS LAWS, DOWN THE TOKENS --------------------------------------------------------------------------------------------

number-within : (ts : List Token) (n : ℕ) → number_in ts n ≤ length ts
number-within [] n = zero-le
number-within (t ∷ ts) n = go (is_trivia t.kind) n (number-within ts)
  where
    go : (b : Bool) (n : ℕ) → ((m : ℕ) → number_in ts m ≤ length ts) → past b (number_in ts) n ≤ suc (length ts)
    go true n h = suc-le-suc (h n)
    go false zero h = zero-le
    go false (suc n) h = suc-le-suc (h n)

number-rises : (ts : List Token) (m n : ℕ) → m ≤ n → number_in ts m ≤ number_in ts n
number-rises [] m n l = zero-le
number-rises (t ∷ ts) m n l = go (is_trivia t.kind) m n l (number-rises ts)
  where
    go : (b : Bool) (m n : ℕ) → m ≤ n → ((i j : ℕ) → i ≤ j → number_in ts i ≤ number_in ts j) → past b (number_in ts) m ≤ past b (number_in ts) n
    go true m n l h = suc-le-suc (h m n l)
    go false zero n l h = zero-le
    go false (suc m) zero l h = absurd (not-suc-le-zero l)
    go false (suc m) (suc n) l h = suc-le-suc (h m n (le_of_suc-le-suc l))

-- the bytes before it, where the first token starts at p and the last one ends at e
abbrev places : (text : List ℕ) (p : ℕ) → List Token → List ℕ
places text p ts = map (λ (x : Placed). x.place) (placed text p ts)

number-place : (text : List ℕ) (p e : ℕ) (ts : List Token) (n : ℕ) → p + lengths ts ≡ e → p + lengths (take (number_in ts n) ts) ≡ get_or (places text p ts) n e
unfolding placed
number-place text p e [] n h = omega (arith, h)
number-place text p e (t ∷ ts) n h = go (is_trivia t.kind) n (λ m. number-place text (p + t.len) e ts m (omega (arith, h)))
  where
    rest : List Placed
    rest = placed text (p + t.len) ts

    go : (b : Bool) (n : ℕ) → ((m : ℕ) → p + t.len + lengths (take (number_in ts m) ts) ≡ get_or (places text (p + t.len) ts) m e) →
        p + lengths (take (past b (number_in ts) n) (t ∷ ts))
        ≡ get_or (map (λ (x : Placed). x.place) (cond b rest (record { symbol = symbol_of t.kind (peek text p); place = p } ∷ rest))) n e
    go true n i = omega (arith, i n)
    go false zero i = omega arith
    go false (suc n) i = omega (arith, i n)

-- the token with it
abbrev SeenAt : List Token → (i k : ℕ) → Type 0
SeenAt ts i k = (i < length ts) × ((get_or ts i (token 0 0)).kind ≡ k) × (is_trivia k ≡ false)

number-seen : (ts : List Token) (n : ℕ) → n < length (without_trivia ts) → SeenAt ts (number_in ts n) (get_or (without_trivia ts) n 0)
number-seen [] n h = absurd (not-suc-le-zero h)
number-seen (t ∷ ts) n h = go (is_trivia t.kind) refl n h (number-seen ts)
  where
    further : (i k : ℕ) → SeenAt ts i k → SeenAt (t ∷ ts) (suc i) k
    further i k s = (suc-le-suc s.0, s.1, s.2)

    go : (b : Bool) → is_trivia t.kind ≡ b → (n : ℕ) → n < length (cond b (without_trivia ts) (t.kind ∷ without_trivia ts)) →
        ((m : ℕ) → m < length (without_trivia ts) → SeenAt ts (number_in ts m) (get_or (without_trivia ts) m 0)) →
        SeenAt (t ∷ ts) (past b (number_in ts) n) (get_or (cond b (without_trivia ts) (t.kind ∷ without_trivia ts)) n 0)
    go true e n l i = further (number_in ts n) (get_or (without_trivia ts) n 0) (i n l)
    go false e zero l i = (suc-le-suc zero-le, refl, e)
    go false e (suc n) l i = further (number_in ts n) (get_or (without_trivia ts) n 0) (i n (le_of_suc-le-suc l))

-- OF A TEXT ------------------------------------------------------------------------------------------------------------

module _ (text : List ℕ) where
  pub raw_number-rises : (i j : ℕ) → i ≤ j → raw_number text i ≤ raw_number text j
  raw_number-rises i j h = rw (raw_number-in text i, raw_number-in text j) (number-rises (tokens text) i j h)

  pub raw_number-counted : (n : ℕ) → raw_number text n ≤ length (tokens text)
  raw_number-counted n = rw (raw_number-in text n) (number-within (tokens text) n)

  -- The tokens before it end where the token starts, or at the text's end where there is none.
  pub raw_number-place : (n : ℕ) → lengths (take (raw_number text n) (tokens text)) ≡ start_of text n
  unfolding start_of
  raw_number-place n =
      rw (raw_number-in text n)
      (omega (arith, number-place text 0 (length text) (tokens text) n (omega (arith, tokens-cover_text text))))

  -- The token with it is there and has the kind that the parser sees, which is no trivia's.
  pub raw_number-kind : (n : ℕ) → n < length (kinds text) →
      (raw_number text n < length (tokens text)) × ((get_or (tokens text) (raw_number text n) (token 0 0)).kind ≡ get_or (kinds text) n 0)
      × (is_trivia (get_or (kinds text) n 0) ≡ false)
  unfolding kinds
  raw_number-kind n h = rw (raw_number-in text n) (number-seen (tokens text) n h)
