-- The symbols of a text show the kinds of its non-trivia tokens: marking C-style literals hides no kind, since no kind is 128 or more
-- and the mark is above them. By induction over the tokens. Assumes nothing.
use Prim.Native.Nat.{ℕ, ◌+◌, ◌<◌}
use native.Mathlib.Omega.{arith}
use mathlib.Core.Path.{◌≡◌, refl, sym, ap₂}
use mathlib.Core.Bool.{Bool, true, false, cond, ◌&&◌}
use mathlib.Core.List.{List, [], ◌∷◌, map}
use lib.Dec.{eqb}
use borrow.Author.Tests.{eqb-true, ne_eqb}
use Rattle.predictive.proofs.Tests.{and_l}
use Rattle.aadl.specs.declared.Token.{Token}
use Rattle.aadl.specs.Kinds.{#◌, ERROR}
use Rattle.aadl.specs.Bytes.{peek}
use Rattle.aadl.specs.Tokens.{tokens}
use Rattle.aadl.specs.Symbols.{is_trivia, C_STYLE, symbol_of, shown, Placed, placed, symbols, without_trivia, kinds}
use Rattle.aadl.proofs.Lists.{Each}
use Rattle.aadl.proofs.TokensCover.{kinds-small}

-- a symbol shows the kind of its token
shown-symbol : (k b : ℕ) → k < 128 → shown (symbol_of k b) ≡ k
unfolding shown
shown-symbol k b h = go (eqb k (# ERROR) && eqb b 48) refl
  where
    go : (t : Bool) → (eqb k (# ERROR) && eqb b 48) ≡ t → cond (eqb (cond t C_STYLE k) C_STYLE) (# ERROR) (cond t C_STYLE k) ≡ k
    go true e = sym (eqb-true k (# ERROR) (and_l (eqb k (# ERROR)) (eqb b 48) e))
    go false e = rw (ne_eqb k C_STYLE (λ q. omega arith))

shown-placed : (text : List ℕ) (i : ℕ) (ts : List Token) → Each (λ (t : Token). t.kind < 128) ts →
    map shown (map (λ (p : Placed). p.symbol) (placed text i ts)) ≡ without_trivia ts
unfolding placed
shown-placed text i [] h = refl
shown-placed text i (t ∷ ts) h = go (is_trivia t.kind) (shown-placed text (i + t.len) ts h.1)
  where
    rest : List Placed
    rest = placed text (i + t.len) ts

    go : (b : Bool) → map shown (map (λ (p : Placed). p.symbol) rest) ≡ without_trivia ts →
        map shown (map (λ (p : Placed). p.symbol) (cond b rest (record { symbol = symbol_of t.kind (peek text i); place = i } ∷ rest)))
        ≡ cond b (without_trivia ts) (t.kind ∷ without_trivia ts)
    go true e = e
    go false e = ap₂ (λ (k : ℕ) (ks : List ℕ). k ∷ ks) (shown-symbol t.kind (peek text i) h.0) e

pub symbols-show_kinds : (text : List ℕ) → map shown (symbols text) ≡ kinds text
unfolding symbols kinds
symbols-show_kinds text = shown-placed text 0 (tokens text) (kinds-small text)
