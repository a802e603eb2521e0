-- A text whose last token is a SEMICOLON: its last byte is `;`, with a token boundary before it (`split`), and the tokens of a text behind
-- it are added to its own (`glued_split`). No other token has that kind; `;` is a token of its own whatever follows it, and ends any token
-- before it. Assumes nothing.
use Prim.Native.Nat.{ℕ, zero, suc, ◌-◌, ◌≤◌, ◌<◌, zero-le, suc-le-suc}
use Prim.Native.String.{String}
use native.Mathlib.Nat.{le_of_suc-le-suc, not-suc-le-zero}
use native.Mathlib.Omega.{arith}
use mathlib.Core.Path.{◌≡◌, refl, sym, ap, subst, ◌∙◌}
use mathlib.Core.Bool.{Bool, true, false, ◌&&◌}
use mathlib.Core.List.{List, [], ◌∷◌, ◌++◌, append_assoc}
use lib.ListN.{length, take, drop, drop_of_length-le}
use lib.Dec.{eqb, ltb}
use borrow.Author.Tests.{eqb-true, eqb-false, ltb-true, ltb-false}
use Rattle.predictive.specs.Grammar.{stand}
use Rattle.predictive.proofs.Tests.{never, and_l}
use Rattle.aadl.specs.declared.Token.{Token}
use Rattle.aadl.specs.Kinds.{SEMICOLON, #◌}
use Rattle.aadl.specs.Words.{bytes}
use Rattle.aadl.specs.Bytes.{peek, run, is_ident_continue}
use Rattle.aadl.specs.Tokens.{token, word_of, marks, longest_mark, mark_of, token_of, tokens_after, tokens}
use Rattle.aadl.proofs.Bools.{cond_has}
use Rattle.aadl.proofs.TokenBounds.{token-cases, word-kind, longest_mark-between, number-kind}
use Rattle.aadl.proofs.TokensCover.{tokens_after-drops, tokens_none, tokens-step}
use Rattle.aadl.proofs.Separators.{semicolon_separates, separates_meek}
use Rattle.aadl.proofs.Boundaries.{Bound, front, tokens-same_front}

-- THE KIND SEMICOLON ---------------------------------------------------------------------------------------------------

-- the first kind is the first mark's
first-mark : (k : ℕ) (m : String) (ms : List String) (bs : List ℕ) → 1 ≤ (longest_mark k (m ∷ ms) bs).len → (longest_mark k (m ∷ ms) bs).kind ≡ k →
    (stand (bytes m) bs ≡ true) × ((longest_mark k (m ∷ ms) bs).len ≡ length (bytes m))
first-mark k m ms bs =
    let shorter = ltb (longest_mark (suc k) ms bs).len (length (bytes m)) in
    cond_has (λ (t : Token). 1 ≤ t.len → t.kind ≡ k → (stand (bytes m) bs ≡ true) × (t.len ≡ length (bytes m))) (stand (bytes m) bs && shorter) _ _
    (λ e h f. (and_l (stand (bytes m) bs) shorter e, refl)) (λ e h f. absurd (omega (arith, (longest_mark-between (suc k) ms bs (suc-le-suc zero-le)).0 h)))

stand-first : (c : ℕ) (bs : List ℕ) → stand (c ∷ []) bs ≡ true → peek bs 0 ≡ c
stand-first c [] e = never e
stand-first c (b ∷ bs) e = eqb-true b c (and_l (eqb b c) true e)

-- a SEMICOLON is `;` and no more
pub semicolon_alone : (bs : List ℕ) → (token_of bs).kind ≡ # SEMICOLON → (peek bs 0 ≡ 59) × ((token_of bs).len ≡ 1)
unfolding word_of mark_of marks
semicolon_alone bs =
    token-cases P bs (λ e h. absurd (omega arith)) (λ e h. absurd (omega arith)) (λ e h. absurd (omega arith))
    (λ e h. absurd (number-kind (λ (k : ℕ). k ≡ # SEMICOLON → ⊥) bs (λ z l. omega arith) (λ l. omega arith) (λ l. omega arith) h))
    (λ e h. absurd (omega (arith, (word-kind (take (run is_ident_continue bs) bs)).0)))
    (cond_has P (eqb (longest_mark 5 marks bs).len 0) _ _ (λ e h. absurd (omega arith))
    (λ e h. let r = first-mark 5 ";" (drop 1 marks) bs (omega (arith, eqb-false (longest_mark 5 marks bs).len 0 e)) h in (stand-first 59 bs r.0, r.1)))
  where
    P : Token → Type 0
    P t = t.kind ≡ # SEMICOLON → (peek bs 0 ≡ 59) × (t.len ≡ 1)

semicolon_step : (b : List ℕ) → tokens (59 ∷ b) ≡ token (# SEMICOLON) 1 ∷ tokens b
unfolding token_of mark_of marks
semicolon_step b = tokens-step (59 ∷ b) (suc-le-suc zero-le)

-- TEXTS THAT END IN A SEMICOLON ----------------------------------------------------------------------------------------

-- The kind of the last token; k if there is none.
abbrev pub last-kind : ℕ → List Token → ℕ
last-kind k [] = k
last-kind k (t ∷ ts) = last-kind t.kind ts

-- `;` is the last byte, and a token boundary is before it
pub record Split (k : ℕ) (a : List ℕ) : Type 0 where
  pub before : List ℕ
  pub whole : before ++ 59 ∷ [] ≡ a
  pub bound : Bound before (59 ∷ []) k

tokens-over : (k : ℕ) (a : List ℕ) → length a ≤ k → tokens_after k a ≡ []
tokens-over k a h = tokens_after-drops k a ∙ ap tokens (drop_of_length-le a h) ∙ tokens_none [] zero-le

pub split : (c k : ℕ) (a : List ℕ) → k < length a → last-kind c (tokens_after k a) ≡ # SEMICOLON → Split k a
unfolding tokens_after
split c k [] h e = absurd (not-suc-le-zero h)
split c (suc k) (b ∷ a) h e =
    let s = split c k a (le_of_suc-le-suc h) e in
    record { before = b ∷ s.before; whole = ap (λ (l : List ℕ). b ∷ l) s.whole; bound = s.bound }
split c zero (b ∷ a) h e = by_end (ltb (t.len - 1) (length a)) refl (λ l. split t.kind (t.len - 1) a l e)
  where
    t : Token
    t = token_of (b ∷ a)

    alone : (d : ℕ) (l : List ℕ) → d ≡ 59 → length l ≤ 0 → Split 0 (d ∷ l)
    alone d [] f g = record { before = []; whole = ap (λ (i : ℕ). i ∷ []) (sym f); bound = refl }
    alone d (i ∷ l) f g = absurd (not-suc-le-zero g)

    by_end : (s : Bool) → ltb (t.len - 1) (length a) ≡ s → (t.len - 1 < length a → Split (t.len - 1) a) → Split 0 (b ∷ a)
    by_end true f r =
        let s = r (ltb-true (t.len - 1) (length a) f) in
        record {
          before = b ∷ s.before;
          whole = ap (λ (l : List ℕ). b ∷ l) s.whole;
          bound = subst (λ (l : List ℕ). Bound s.before (59 ∷ []) ((token_of (b ∷ l)).len - 1)) (sym s.whole) s.bound;
        }
    by_end false f r =
        let n = ltb-false (t.len - 1) (length a) f in
        let j = semicolon_alone (b ∷ a) (rw (tokens-over (t.len - 1) a n) at e) in
        alone b a j.0 (omega (arith, j.1))

-- ONE AFTER ANOTHER ----------------------------------------------------------------------------------------------------

glued_front : (p b : List ℕ) → Bound p (59 ∷ []) 0 → tokens (p ++ 59 ∷ b) ≡ front p (59 ∷ []) 0 ++ (token (# SEMICOLON) 1 ∷ tokens b)
unfolding run
glued_front p b h =
    tokens-same_front (59 ∷ []) (59 ∷ b) (separates_meek (59 ∷ []) (59 ∷ b) (semicolon_separates b)) (suc-le-suc zero-le)
    (λ e. absurd (omega arith)) (λ e. refl) p h ∙
    ap (λ (ts : List Token). front p (59 ∷ []) 0 ++ ts) (semicolon_step b)

pub glued_split : (p b : List ℕ) → Bound p (59 ∷ []) 0 → tokens ((p ++ 59 ∷ []) ++ b) ≡ tokens (p ++ 59 ∷ []) ++ tokens b
glued_split p b h =
    let t = token (# SEMICOLON) 1 in
    let f = front p (59 ∷ []) 0 in
    ap tokens (append_assoc p (59 ∷ []) b) ∙ glued_front p b h ∙ sym (append_assoc f (t ∷ []) (tokens b)) ∙
    ap (λ (ts : List Token). ts ++ tokens b) (sym (glued_front p [] h ∙ ap (λ (ts : List Token). f ++ (t ∷ ts)) (tokens_none [] zero-le)))
