-- Two texts p ++ x and p ++ y, where p ends at a token boundary of the first and y is meek: the tokens before the boundary are the same in
-- both, and the second has a boundary there too. By induction over p, passing over bytes as the definition of tokens does. Assumes nothing.
use Prim.Native.Nat.{ℕ, zero, suc, ◌-◌, ◌≤◌, zero-le, suc-le-suc}
use native.Mathlib.Omega.{arith}
use mathlib.Core.Path.{◌≡◌, refl, sym, ap, ap₂, subst, ◌∙◌}
use mathlib.Core.List.{List, [], ◌∷◌, ◌++◌}
use lib.ListN.{length}
use Rattle.aadl.specs.declared.Token.{Token}
use Rattle.aadl.specs.Kinds.{WHITESPACE, #◌}
use Rattle.aadl.specs.Bytes.{peek, run, is_whitespace, not_lf}
use Rattle.aadl.specs.Tokens.{marks, mark_of, token_of, tokens_after, tokens}
use Rattle.aadl.proofs.Lists.{getD_past_head}
use Rattle.aadl.proofs.TokenBounds.{token-positive}
use Rattle.aadl.proofs.SameRuns.{Meek}
use Rattle.aadl.proofs.SameTokens.{token_of-same}

-- BOUNDARIES -----------------------------------------------------------------------------------------------------------

-- Of the tokens of p ++ x after k bytes, one ends where p does, or p has just those k bytes.
abbrev pub Bound : (p x : List ℕ) → (k : ℕ) → Type 0
Bound [] x k = k ≡ 0
Bound (c ∷ p) x (suc k) = Bound p x k
Bound (c ∷ p) x zero = Bound p x ((token_of (c ∷ (p ++ x))).len - 1)

-- Those of them that start in p.
abbrev pub front : (p x : List ℕ) → (k : ℕ) → List Token
front [] x k = []
front (c ∷ p) x (suc k) = front p x k
front (c ∷ p) x zero =
    let t = token_of (c ∷ (p ++ x)) in
    t ∷ front p x (t.len - 1)

pub tokens-front : (p x : List ℕ) (k : ℕ) → Bound p x k → tokens_after k (p ++ x) ≡ front p x k ++ tokens x
unfolding tokens tokens_after
tokens-front [] x k e = ap (λ (i : ℕ). tokens_after i x) e
tokens-front (c ∷ p) x (suc k) h = tokens-front p x k h
tokens-front (c ∷ p) x zero h =
    let t = token_of (c ∷ (p ++ x)) in
    ap (λ (ts : List Token). t ∷ ts) (tokens-front p x (t.len - 1) h)

pub bound-within : (p x : List ℕ) (k : ℕ) → Bound p x k → k ≤ length p
bound-within [] x k e = omega arith
bound-within (c ∷ p) x (suc k) h = suc-le-suc (bound-within p x k h)
bound-within (c ∷ p) x zero h = zero-le

-- DOTS -----------------------------------------------------------------------------------------------------------------

dots-long : (c : ℕ) (x : List ℕ) → (token_of (c ∷ x)).len - 1 ≡ 0 → c ≡ 46 → peek x 0 ≡ 46 → ⊥
unfolding token_of mark_of marks
dots-long c [] h e f = omega arith
dots-long c (b ∷ x) h e f =
    let g : (token_of (c ∷ b ∷ x)).len ≡ 2 = ap₂ (λ (i j : ℕ). (token_of (i ∷ j ∷ x)).len) e f in
    omega arith

-- no boundary stands between two dots of which the first starts a token
no_dots : (p x : List ℕ) (k : ℕ) → Bound p x k → suc k ≡ length p → peek (p ++ x) k ≡ 46 → peek x 0 ≡ 46 → ⊥
no_dots [] x k h l e f = omega arith
no_dots (c ∷ p) x (suc k) h l e f = no_dots p x k h (omega arith) e f
no_dots (c ∷ []) x zero h l e f = dots-long c x h e f
no_dots (c ∷ d ∷ p) x zero h l e f = omega arith

-- THE SAME TOKENS ------------------------------------------------------------------------------------------------------

module _ (x y : List ℕ) (m : Meek x y) (some : 1 ≤ length x) (line : run not_lf x ≡ 0 → run not_lf y ≡ 0) where
  pub token-before : (c : ℕ) (p : List ℕ) → Bound p x ((token_of (c ∷ (p ++ x))).len - 1) →
      ((token_of (c ∷ (p ++ x))).kind ≡ # WHITESPACE → run is_whitespace x ≡ 0 → run is_whitespace y ≡ 0) →
      token_of (c ∷ (p ++ y)) ≡ token_of (c ∷ (p ++ x))
  token-before c p h w =
      let n = (token_of (c ∷ (p ++ x))).len in
      token_of-same c p x y m
      record {
        ends = omega (arith, bound-within p x (n - 1) h);
        white = w;
        comment = λ k. line;
        closed = λ e. absurd (omega (arith, ap length e));
        parted = λ l e f. no_dots p x (n - 1) h (omega (arith, token-positive (c ∷ (p ++ x)))) (getD_past_head n c (p ++ x) 0 (token-positive (c ∷ (p ++ x))) ∙ e) f;
      }

  pub front_same : (run is_whitespace x ≡ 0 → run is_whitespace y ≡ 0) → (p : List ℕ) (k : ℕ) → Bound p x k → (front p y k ≡ front p x k) × (Bound p y k)
  front_same w [] k h = (refl, h)
  front_same w (c ∷ p) (suc k) h = front_same w p k h
  front_same w (c ∷ p) zero h =
      let t = token_of (c ∷ (p ++ x)) in
      let r = front_same w p (t.len - 1) h in
      subst (λ (s : Token). (s ∷ front p y (s.len - 1) ≡ t ∷ front p x (t.len - 1)) × (Bound p y (s.len - 1)))
      (sym (token-before c p h (λ k. w))) (ap (λ (ts : List Token). t ∷ ts) r.0, r.1)

  -- the tokens up to the boundary, then those of y
  pub tokens-same_front : (run is_whitespace x ≡ 0 → run is_whitespace y ≡ 0) → (p : List ℕ) → Bound p x 0 → tokens (p ++ y) ≡ front p x 0 ++ tokens y
  unfolding tokens
  tokens-same_front w p h =
      let r = front_same w p 0 h in
      tokens-front p y 0 r.1 ∙ ap (λ (ts : List Token). ts ++ tokens_after 0 y) r.0
