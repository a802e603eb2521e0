-- The tests of the parser's code against the heads that stand. The end's number is no kind, so no head stands for it; and no symbol
-- is the end's, since a word's kind is below 256. By cases on what remains. Assumes nothing.
use Prim.Native.Nat.{ℕ, ◌≤◌, ◌<◌, ◌/◌}
use native.Mathlib.Nat.{mod-lt}
use native.Mathlib.Omega.{arith}
use mathlib.Core.Path.{◌≡◌, refl, sym, ap, ap₂, subst, ◌∙◌}
use mathlib.Core.Bool.{Bool, true, false, cond, ◌&&◌, ◌||◌, or-false}
use mathlib.Core.List.{List, [], ◌∷◌}
use lib.ListN.{length, get_or, drop}
use lib.Dec.{eqb, lit<}
use borrow.Author.Tests.{eqb-true, eq-eqb, ne_eqb}
use Rattle.predictive.specs.Grammar.{one, two, is, at, has}
use Rattle.predictive.specs.Reader.{ones, twos, first}
use Rattle.predictive.proofs.Tests.{and_l}
use Rattle.predictive.proofs.Heads.{at_end}
use Rattle.aadl.specs.Kinds.{ERROR, COLON, IDENT, #◌}
use Rattle.aadl.specs.Bytes.{peek}
use Rattle.aadl.specs.Tokens.{kind_in}
use Rattle.aadl.specs.Symbols.{C_STYLE, symbol_of, shown}
use Rattle.aadl.specs.Section.{keywords, property_name}
use Rattle.parser.specs.declared.Counters.{Counters}
use Rattle.parser.specs.Input.{Input, standing, rest, END, ahead, nth}
use Rattle.parser.specs.Reads.{stands, heads_of}
use Rattle.parser.proofs.Trivia.{ahead-is, ahead-ends}

-- WHAT STANDS AHEAD ----------------------------------------------------------------------------------------------------

symbol-known : (w b : ℕ) → (symbol_of (kind_in w) b ≡ END → ⊥) × (shown (symbol_of (kind_in w) b) < 258)
unfolding shown
symbol-known w b = go (eqb (kind_in w) (# ERROR) && eqb b 48)
  where
    go : (t : Bool) → (cond t C_STYLE (kind_in w) ≡ END → ⊥) × (shown (cond t C_STYLE (kind_in w)) < 258)
    go true = (λ e. omega (arith, e), omega arith)
    go false = (λ e. omega (arith, e), rw (ne_eqb (kind_in w) C_STYLE (λ e. omega (arith, e))) (omega arith))

standing-known : (text : List ℕ) (b : ℕ) (vs : List ℕ) →
    (ahead (standing text b vs) ≡ END → standing text b vs ≡ []) × (shown (ahead (standing text b vs)) < 258)
unfolding standing shown
standing-known text b [] = (λ e. refl, omega arith)
standing-known text b (w ∷ vs) = (λ e. absurd ((symbol-known w (peek text b)).0 e), (symbol-known w (peek text b)).1)

pub rest-ends : (inp : Input) (p : Counters) → ahead (rest inp p) ≡ END → rest inp p ≡ []
unfolding rest
rest-ends inp p = (standing-known inp.text p.byte (drop p.at inp.words)).0

pub nth-goes : (inp : Input) (p : Counters) (n : ℕ) → p.stop ≡ 0 → nth inp p n ≡ ahead (drop n (rest inp p))
unfolding nth
nth-goes inp p n h = rw (eq-eqb p.stop 0 h) refl

pub nth-stopped : (inp : Input) (p : Counters) (n : ℕ) → (p.stop ≡ 0 → ⊥) → nth inp p n ≡ END
unfolding nth
nth-stopped inp p n h = rw (ne_eqb p.stop 0 h) refl

-- the kind of the token ahead fits into an event's word
pub shown-small : (inp : Input) (p : Counters) {x k : ℕ} → x ≡ nth inp p 0 → k ≡ shown x → k < 258
unfolding nth rest shown
shown-small inp p {x} {k} e f = subst (λ (y : ℕ). y < 258) (sym (f ∙ ap shown e)) (go (eqb p.stop 0))
  where
    go : (t : Bool) → shown (cond t (ahead (rest inp p)) END) < 258
    go true = (standing-known inp.text p.byte (drop p.at inp.words)).1
    go false = omega arith

-- WHAT THE TOKEN AHEAD SHOWS ------------------------------------------------------------------------------------------

shown-symbol : (k b : ℕ) → k < 256 → k ≡ shown (symbol_of k b)
unfolding shown
shown-symbol k b h = go (eqb k (# ERROR) && eqb b 48) refl
  where
    go : (t : Bool) → (eqb k (# ERROR) && eqb b 48) ≡ t → k ≡ shown (cond t C_STYLE k)
    go true e = eqb-true k (# ERROR) (and_l (eqb k (# ERROR)) (eqb b 48) e)
    go false e = sym (rw (ne_eqb k 258 (λ z. let w : ⊥ = omega (arith, h, z) in w)) refl)

module _ (text ws : List ℕ) (i b : ℕ) where
  pub shown-ahead : i < length ws → kind_in (get_or ws i 0) ≡ shown (ahead (standing text b (drop i ws)))
  shown-ahead h =
      let k = kind_in (get_or ws i 0) in
      shown-symbol k (peek text b) (mod-lt (get_or ws i 0 / 65536) (lit< tt)) ∙ ap shown (ahead-is text ws i b h refl refl)

  pub shown-end : length ws ≤ i → END ≡ shown (ahead (standing text b (drop i ws)))
  unfolding shown
  shown-end h = ap shown (ahead-ends text ws i b h)

-- HEADS ----------------------------------------------------------------------------------------------------------------

is-ahead : (k : ℕ) (xs : List ℕ) → k < 256 → is k xs ≡ eqb (ahead xs) k
is-ahead k [] h = sym (ne_eqb END k (λ e. omega (arith, e)))
is-ahead k (x ∷ xs) h = refl

pub one-is : (inp : Input) (p : Counters) (k : ℕ) {x : ℕ} → k < 256 → x ≡ nth inp p 0 → eqb x k ≡ stands inp (one k ∷ []) p
unfolding nth stands
one-is inp p k h e = ap (λ (x : ℕ). eqb x k) e ∙ go (eqb p.stop 0)
  where
    go : (t : Bool) → eqb (cond t (ahead (rest inp p)) END) k ≡ cond t (is k (rest inp p) || false) false
    go true = sym (is-ahead k (rest inp p) h) ∙ sym (or-false (is k (rest inp p)))
    go false = ne_eqb END k (λ e. omega (arith, e))

pub either-is : (inp : Input) (p : Counters) (k l : ℕ) {x : ℕ} → k < 256 → l < 256 → x ≡ nth inp p 0 →
    (eqb x k || eqb x l) ≡ stands inp (one k ∷ one l ∷ []) p
unfolding nth stands
either-is inp p k l h i e = ap (λ (x : ℕ). eqb x k || eqb x l) e ∙ go (eqb p.stop 0)
  where
    go : (t : Bool) → (eqb (cond t (ahead (rest inp p)) END) k || eqb (cond t (ahead (rest inp p)) END) l) ≡ cond t (is k (rest inp p) || (is l (rest inp p) || false)) false
    go true = rw (is-ahead k (rest inp p) h, is-ahead l (rest inp p) i, or-false (eqb (ahead (rest inp p)) l)) refl
    go false = rw (ne_eqb END k (λ e. omega (arith, e)), ne_eqb END l (λ e. omega (arith, e))) refl

pub two_is : (inp : Input) (p : Counters) (k l : ℕ) {t : Bool} → l < 256 → stands inp (one k ∷ []) p ≡ t →
    (t && eqb (nth inp p 1) l) ≡ stands inp (two k l ∷ []) p
unfolding nth stands
two_is inp p k l h e = ap (λ (t : Bool). t && eqb (nth inp p 1) l) (sym e) ∙ go (eqb p.stop 0) (rest inp p)
  where
    go : (t : Bool) (xs : List ℕ) →
        (cond t (at (one k ∷ []) xs) false && eqb (cond t (ahead (drop 1 xs)) END) l) ≡ cond t (at (two k l ∷ []) xs) false
    go false xs = refl
    go true [] = refl
    go true (x ∷ xs) = rw (is-ahead l xs h, or-false (eqb x k)) (sym (or-false (eqb x k && eqb (ahead xs) l)))

at-twos_is : (ks : List ℕ) (l x : ℕ) (xs : List ℕ) → at (twos ks l) (x ∷ xs) ≡ (has ks x && is l xs)
unfolding twos
at-twos_is [] l x xs = refl
at-twos_is (k ∷ ks) l x xs = ap (λ (b : Bool). (eqb x k && is l xs) || b) (at-twos_is ks l x xs) ∙ go (eqb x k) (has ks x) (is l xs)
  where
    go : (a b i : Bool) → ((a && i) || (b && i)) ≡ ((a || b) && i)
    go true b true = refl
    go true true false = refl
    go true false false = refl
    go false b i = refl

no_keyword : has keywords END ≡ false
unfolding keywords
no_keyword = refl

-- An identifier, or a keyword before `:`.
abbrev named : ℕ → ℕ → Bool
named x y = eqb x (# IDENT) || (has keywords x && eqb y (# COLON))

pub name-is : (inp : Input) (p : Counters) (m : ℕ) {x y : ℕ} → x ≡ nth inp p 0 → y ≡ nth inp p 1 →
    (eqb x (# IDENT) || (has keywords x && eqb y (# COLON))) ≡ stands inp (heads_of (property_name m)) p
unfolding nth stands first ones
name-is inp p m e f = ap₂ named e f ∙ go (eqb p.stop 0) (rest inp p)
  where
    go : (t : Bool) (xs : List ℕ) → named (cond t (ahead (drop 0 xs)) END) (cond t (ahead (drop 1 xs)) END) ≡
        cond t (at (one (# IDENT) ∷ twos keywords (# COLON)) xs) false
    go false xs = rw no_keyword refl
    go true [] = rw no_keyword (sym (at_end (twos keywords (# COLON))))
    go true (x ∷ xs) =
        let e = at-twos_is keywords (# COLON) x xs ∙ ap (λ (b : Bool). has keywords x && b) (is-ahead (# COLON) xs (omega arith)) in
        sym (ap (λ (b : Bool). eqb x (# IDENT) || b) e)
