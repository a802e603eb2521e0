-- Signs before an operand, a literal, and what stands before an association's arrow, passed one by one: the pass gives from where the tokens
-- stand what it gives from the start. Assumes nothing.
use Prim.Native.Nat.{ℕ, suc, ◌≤◌, ◌<◌}
use native.Mathlib.Omega.{arith}
use mathlib.Core.Path.{◌≡◌, refl, sym, ap, ◌∙◌}
use mathlib.Core.Bool.{Bool, true, false, not, ◌||◌, beq, cond}
use mathlib.Core.List.{List, [], ◌∷◌}
use mathlib.Core.Option.{Option, none, some}
use lib.ListN.{length, drop, length-drop}
use lib.Dec.{eqb}
use lib.IntN.{pos}
use borrow.Author.Tests.{ne_eqb}
use Rattle.std.specs.Prelude.{Result}
use Rattle.predictive.specs.Grammar.{has}
use Rattle.predictive.proofs.Tests.{never}
use Rattle.aadl.specs.Kinds.{FAT_ARROW, PLUS_ARROW, PLUS, MINUS, INTEGER_LIT, CONSTANT_KW, #◌}
use Rattle.aadl.specs.Symbols.{symbols}
use Rattle.aadl.specs.Values.{kept, with_sign, number_at}
use Rattle.int64.specs.declared.Whole.{Whole}
use Rattle.parser.specs.declared.Tokens.{Tokens}
use Rattle.parser.specs.Input.{rest, ahead}
use Rattle.parser.specs.Parsers.{source, cursor}
use Rattle.section.specs.Reaching.{Reached}
use Rattle.evaluator.specs.Pass.{Pending, expects, continued, took, pass, evaluated, past_constant, past_arrow}
use Rattle.evaluator.specs.Terms.{Held, passing, ahead_at, SignsPassed, Operand, ArrowPassed}
use Rattle.evaluator.proofs.Ahead.{reached-rest, reached-some, reached-none, here}
use Rattle.evaluator.proofs.Steps.{sign-step, literal-step, no_operand}

-- one of two, as the code tests it
pub two-kinds : (a b x : ℕ) → has (a ∷ b ∷ []) x ≡ (eqb x a || eqb x b)
two-kinds a b x = go (eqb x a) (eqb x b)
  where
    go : (t u : Bool) → (t || (u || false)) ≡ (t || u)
    go true u = refl
    go false true = refl
    go false false = refl

-- the end's number is no kind of some
pub not_end : (ks : List ℕ) (x : ℕ) → has ks x ≡ true → has ks 257 ≡ false → x ≡ 257 → ⊥
not_end ks x t f e = never (sym f ∙ ap (has ks) (sym e) ∙ t)

-- how many symbols remain
abbrev pub left : Tokens → ℕ
left t = length (rest (source t) (cursor t))

-- Fewer remain behind one that stands where the tokens do, or further on.
pub fewer : (text : List ℕ) (i j x : ℕ) (t r : Tokens) → Reached text i t → i ≤ j → ahead_at text j ≡ x → (x ≡ 257 → ⊥) → Reached text (suc j) r → left r < left t
fewer text i j x t r a l e n b =
    let xs = symbols text in
    omega (
      arith,
      l,
      ap length (reached-rest text i t a),
      ap length (reached-rest text (suc j) r b),
      ap length (here xs j x e n),
      length-drop i xs,
      length-drop j xs,
      length-drop (suc j) xs,
    )

-- SIGNS ----------------------------------------------------------------------------------------------------------------

-- From token k the tokens t have come to a token `to`, which shows c, past signs that turn the next operand or not.
pub record SignsSoFar (text : List ℕ) (k : ℕ) (t : Tokens) (negative : Bool) (c : ℕ) : Type 0 where
  pub to : ℕ
  pub from : k ≤ to
  pub stands : Reached text to t
  pub gives : (s p : Pending) → passing text k (expects false s p) ≡ passing text to (expects negative s p)
  pub shows : c ≡ ahead_at text to

module _ (text : List ℕ) (k : ℕ) where
  pub no_sign_yet : (t : Tokens) (c : ℕ) → Reached text k t → c ≡ ahead_at text k → SignsSoFar text k t false c
  no_sign_yet t c x e = record { to = k; from = omega arith; stands = x; gives = λ s q. refl; shows = e }

  pub one-sign_more : (q r : Tokens) (m : Bool) (c d : ℕ) (x : SignsSoFar text k q m c) → (eqb c (# PLUS) || eqb c (# MINUS)) ≡ true → Reached text (suc x.to) r →
      d ≡ ahead_at text (suc x.to) → SignsSoFar text k r (not (beq m (eqb c (# MINUS)))) d
  one-sign_more q r m c d x t p e =
      record {
        to = suc x.to;
        from = omega (arith, x.from);
        stands = p;
        gives = λ s q. x.gives s q ∙ sign-step text x.to c m s q (sym x.shows) (two-kinds (# PLUS) (# MINUS) c ∙ t);
        shows = e;
      }

  pub no_sign_more : (q : Tokens) (m : Bool) (c : ℕ) → SignsSoFar text k q m c → (eqb c (# PLUS) || eqb c (# MINUS)) ≡ false → SignsPassed text k m q
  no_sign_more q m c x t =
      record { to = x.to; from = x.from; stands = x.stands; gives = x.gives; no_sign = ap (has (# PLUS ∷ # MINUS ∷ [])) (sym x.shows) ∙ two-kinds (# PLUS) (# MINUS) c ∙ t }

-- OPERANDS -------------------------------------------------------------------------------------------------------------

module _ (text : List ℕ) (k : ℕ) (m : Bool) (t : Tokens) (x : SignsPassed text k m t) where
  pub no_literal : (ahead_at text x.to ≡ # INTEGER_LIT → ⊥) → (s q : Pending) → passing text k (expects false s q) ≡ none
  no_literal n s q = x.gives s q ∙ no_operand text x.to m s q (λ i. ne_eqb (ahead_at text x.to) (# INTEGER_LIT) n i || x.no_sign i)

  module _ (shown : ahead_at text x.to ≡ # INTEGER_LIT) where
    by_number : (o : Option ℕ) → number_at text x.to ≡ o → (s q : Pending) →
        passing text k (expects false s q) ≡ continued (took x.to m s q o) (λ u. passing text (suc x.to) u)
    by_number o e s q =
        x.gives s q ∙ literal-step text x.to m s q shown
        ∙ ap (λ (v : Option ℕ). continued (took x.to m s q v) (λ u. passing text (suc x.to) u)) e

    pub broken-literal : number_at text x.to ≡ none → (s q : Pending) → passing text k (expects false s q) ≡ none
    broken-literal n s q = by_number none n s q

    pub whole-literal : (n : ℕ) (r : Result Whole ℕ) (u : Tokens) → number_at text x.to ≡ some n → Reached text (suc x.to) u →
        Held text (with_sign m (kept x.to (pos n))) r → Operand text k r u
    whole-literal n r u f p h =
        record { to = suc x.to; from = omega (arith, x.from); stands = p; outcome = with_sign m (kept x.to (pos n)); held = h; gives = by_number (some n) f }

-- THE ARROW ------------------------------------------------------------------------------------------------------------

-- From token k the tokens q have come to a token `to`, before the arrow.
pub record BeforeArrow (text : List ℕ) (k : ℕ) (q : Tokens) : Type 0 where
  pub to : ℕ
  pub stands : Reached text to q
  pub gives : past_arrow (number_at text) k (drop k (symbols text)) ≡ past_arrow (number_at text) to (drop to (symbols text))

module _ (text : List ℕ) (k : ℕ) (q : Tokens) (x : BeforeArrow text k q) where
  abbrev shows : ℕ
  shows = ahead_at text x.to

  -- a symbol stands there: it is the arrow, or it is passed
  module _ (h : q.at < length q.words.now) (r : Tokens) (p : Reached text (suc x.to) r) where
    by-arrow : (t : Bool) → (eqb shows (# FAT_ARROW) || eqb shows (# PLUS_ARROW)) ≡ t →
        past_arrow (number_at text) k (drop k (symbols text))
        ≡ cond t (past_constant (number_at text) (suc x.to) (drop (suc x.to) (symbols text))) (past_arrow (number_at text) (suc x.to) (drop (suc x.to) (symbols text)))
    unfolding past_arrow
    by-arrow t e =
        x.gives ∙ ap (past_arrow (number_at text) x.to) (reached-some text x.to q x.stands h)
        ∙ ap (λ (b : Bool). cond b (past_constant (number_at text) (suc x.to) (drop (suc x.to) (symbols text))) (past_arrow (number_at text) (suc x.to) (drop (suc x.to) (symbols text)))) e

    pub arrow-here : (eqb shows (# FAT_ARROW) || eqb shows (# PLUS_ARROW)) ≡ true → ArrowPassed text k r
    arrow-here e = record { to = suc x.to; stands = p; gives = by-arrow true e }

    pub no_arrow_here : (eqb shows (# FAT_ARROW) || eqb shows (# PLUS_ARROW)) ≡ false → BeforeArrow text k r
    no_arrow_here e = record { to = suc x.to; stands = p; gives = by-arrow false e }

  -- none does
  pub no_arrow : length q.words.now ≤ q.at → ArrowPassed text k q
  unfolding past_arrow
  no_arrow h =
      let e = reached-none text x.to q x.stands h in
      record { to = x.to; stands = x.stands; gives = x.gives ∙ ap (past_arrow (number_at text) x.to) e ∙ ap (past_constant (number_at text) x.to) (sym e) }

-- From token k the tokens have come to the value.
pub record AtValue (text : List ℕ) (k : ℕ) (t : Tokens) : Type 0 where
  pub to : ℕ
  pub stands : Reached text to t
  pub gives : past_arrow (number_at text) k (drop k (symbols text)) ≡ evaluated (number_at text) to (drop to (symbols text))

-- Behind the arrow `constant` stands, or it does not.
module _ (text : List ℕ) (k : ℕ) (q : Tokens) (x : ArrowPassed text k q) where
  pub constant-here : (r : Tokens) → ahead_at text x.to ≡ # CONSTANT_KW → Reached text (suc x.to) r → AtValue text k r
  constant-here r e p =
      record { to = suc x.to; stands = p; gives = x.gives ∙ ap (past_constant (number_at text) x.to) (here (symbols text) x.to (# CONSTANT_KW) e (λ f. omega (arith, f))) }

  pub no_constant-here : (ahead_at text x.to ≡ # CONSTANT_KW → ⊥) → AtValue text k q
  unfolding pass
  no_constant-here n = record { to = x.to; stands = x.stands; gives = x.gives ∙ go (drop x.to (symbols text)) n }
    where
      go : (ys : List ℕ) → (ahead ys ≡ # CONSTANT_KW → ⊥) → past_constant (number_at text) x.to ys ≡ evaluated (number_at text) x.to ys
      go [] m = refl
      go (y ∷ ys) m = rw (ne_eqb y (# CONSTANT_KW) m) refl
