-- The pass over a text's symbols, a symbol at a time: what a sign, a literal and an operator do to its state, and where it ends. Assumes
-- nothing.
use Prim.Native.Nat.{ℕ, suc}
use native.Mathlib.Omega.{arith}
use mathlib.Core.Path.{◌≡◌, refl, sym, ap, subst, ◌∙◌}
use mathlib.Core.Logic.{◌⊎◌, inl, inr, ⊎_elim}
use mathlib.Core.Bool.{Bool, true, false, not, ◌||◌, beq}
use mathlib.Core.List.{List, [], ◌∷◌}
use mathlib.Core.Option.{none, some}
use lib.ListN.{drop}
use lib.Dec.{eqb}
use borrow.Author.Tests.{eqb-true}
use Rattle.predictive.specs.Grammar.{at, has}
use Rattle.predictive.specs.Reader.{ones}
use Rattle.predictive.proofs.Tests.{never, or_l, or_r, or_cases}
use Rattle.aadl.specs.Kinds.{PLUS, MINUS, STAR, SLASH, DOT_DOT, INTEGER_LIT, IDENT, #◌}
use Rattle.aadl.specs.Symbols.{symbols}
use Rattle.aadl.specs.Values.{Outcome, number_at}
use Rattle.parser.specs.Input.{ahead}
use Rattle.evaluator.specs.Pass.{Mark, stop, mark_of, Pending, nothing, completed, State, expects, behind, continued, took, step, pass}
use Rattle.evaluator.specs.declared.Operator.{Operator as Sign}
use Rattle.evaluator.specs.declared.Operator.TheVariants.{Times, Plus, Minus}
use Rattle.evaluator.specs.Terms.{kind_of, sum_behind, product_behind, passing, ahead_at}
use Rattle.evaluator.proofs.Ahead.{here}
use Rattle.evaluator.proofs.Operands.{none-begins}
use Rattle.evaluator.proofs.Sums.{settled, ended}

-- Whether one of some kinds stands, by the symbol ahead: at the end none does.
at_ahead : (ns : List ℕ) → has ns 257 ≡ false → (ys : List ℕ) → has ns (ahead ys) ≡ false → at (ones ns) ys ≡ false
unfolding ones
at_ahead [] e ys f = refl
at_ahead (n ∷ ns) e [] f = at_ahead ns (or_r (eqb 257 n) (has ns 257) e) [] (or_r (eqb 257 n) (has ns 257) e)
at_ahead (n ∷ ns) e (y ∷ ys) f = (λ i. or_l (eqb y n) (has ns y) f i || at_ahead ns (or_r (eqb 257 n) (has ns 257) e) (y ∷ ys) (or_r (eqb y n) (has ns y) f) i)

one_of : (a b x : ℕ) → has (a ∷ b ∷ []) x ≡ true → (x ≡ a) ⊎ (x ≡ b)
one_of a b x e =
    ⊎_elim (λ f. inl (eqb-true x a f)) (λ f. inr (⊎_elim (λ g. eqb-true x b g) (λ g. never g) (or_cases (eqb x b) false f))) (or_cases (eqb x a) (has (b ∷ []) x) e)

module _ (text : List ℕ) where
  abbrev xs : List ℕ
  xs = symbols text

  -- one symbol
  one-step : (k x : ℕ) (st : State) → ahead_at text k ≡ x → (x ≡ 257 → ⊥) → passing text k st ≡ continued (step (number_at text) (mark_of x) k st) (λ u. passing text (suc k) u)
  unfolding pass
  one-step k x st e n = ap (λ (ys : List ℕ). pass (number_at text) k ys st) (here xs k x e n)

  -- signs before an operand
  pub sign-step : (k x : ℕ) (m : Bool) (s q : Pending) → ahead_at text k ≡ x → has (# PLUS ∷ # MINUS ∷ []) x ≡ true →
      passing text k (expects m s q) ≡ passing text (suc k) (expects (not (beq m (eqb x (# MINUS)))) s q)
  sign-step k x m s q e t =
      ⊎_elim
      (λ (f : x ≡ # PLUS). subst (λ (y : ℕ). passing text k (expects m s q) ≡ passing text (suc k) (expects (not (beq m (eqb y (# MINUS)))) s q)) (sym f)
      (one-step k (# PLUS) (expects m s q) (e ∙ f) (λ g. omega (arith, g)) ∙ ap (λ (n : Bool). passing text (suc k) (expects n s q)) (as_it_was m)))
      (λ (f : x ≡ # MINUS). subst (λ (y : ℕ). passing text k (expects m s q) ≡ passing text (suc k) (expects (not (beq m (eqb y (# MINUS)))) s q)) (sym f)
      (one-step k (# MINUS) (expects m s q) (e ∙ f) (λ g. omega (arith, g)) ∙ ap (λ (n : Bool). passing text (suc k) (expects n s q)) (turned m)))
      (one_of (# PLUS) (# MINUS) x t)
    where
      as_it_was : (n : Bool) → n ≡ not (beq n false)
      as_it_was true = refl
      as_it_was false = refl

      turned : (n : Bool) → not n ≡ not (beq n true)
      turned true = refl
      turned false = refl

  -- a literal, and where no operand of a constant begins
  pub literal-step : (k : ℕ) (m : Bool) (s q : Pending) → ahead_at text k ≡ # INTEGER_LIT →
      passing text k (expects m s q) ≡ continued (took k m s q (number_at text k)) (λ u. passing text (suc k) u)
  literal-step k m s q e = one-step k (# INTEGER_LIT) (expects m s q) e (λ g. omega (arith, g))

  pub no_operand : (k : ℕ) (m : Bool) (s q : Pending) → has (# INTEGER_LIT ∷ # PLUS ∷ # MINUS ∷ []) (ahead_at text k) ≡ false → passing text k (expects m s q) ≡ none
  no_operand k m s q e = none-begins (number_at text) k (drop k xs) m s q (at_ahead (# INTEGER_LIT ∷ # PLUS ∷ # MINUS ∷ []) refl (drop k xs) e)

  -- operators
  pub operator-step : (k : ℕ) (op : Sign) (s : Pending) (o : Outcome) → ahead_at text k ≡ kind_of op →
      passing text k (behind s o) ≡ passing text (suc k) (expects false (sum_behind op k s o) (product_behind op k o))
  operator-step k Times s o e = one-step k (# STAR) (behind s o) e (λ g. omega (arith, g))
  operator-step k Plus s o e = one-step k (# PLUS) (behind s o) e (λ g. omega (arith, g))
  operator-step k Minus s o e = one-step k (# MINUS) (behind s o) e (λ g. omega (arith, g))

  -- where no `*` follows the sum is complete
  pub no_star : (k : ℕ) (s : Pending) (o : Outcome) → has (# STAR ∷ []) (ahead_at text k) ≡ false → passing text k (behind s o) ≡ passing text k (behind nothing (completed s o))
  no_star k s o e = settled (number_at text) k (drop k xs) s o (at_ahead (# STAR ∷ []) refl (drop k xs) e)

  -- the end: nothing goes on with the value, or something that makes it no constant
  pub over : (k : ℕ) (o : Outcome) → has (# PLUS ∷ # MINUS ∷ # STAR ∷ # SLASH ∷ # DOT_DOT ∷ # IDENT ∷ []) (ahead_at text k) ≡ false → passing text k (behind nothing o) ≡ some o
  over k o e = ended (number_at text) k (drop k xs) o (at_ahead (# PLUS ∷ # MINUS ∷ # STAR ∷ # SLASH ∷ # DOT_DOT ∷ # IDENT ∷ []) refl (drop k xs) e)

  pub stopped : (k x : ℕ) (o : Outcome) → ahead_at text k ≡ x → has (# SLASH ∷ # DOT_DOT ∷ # IDENT ∷ []) x ≡ true → passing text k (behind nothing o) ≡ none
  stopped k x o e t =
      ⊎_elim (λ (f : eqb x (# SLASH) ≡ true). at_mark (# SLASH) (λ g. omega (arith, g)) (eqb-true x (# SLASH) f) refl)
      (λ t'.
      ⊎_elim (λ (f : x ≡ # DOT_DOT). at_mark (# DOT_DOT) (λ g. omega (arith, g)) f refl) (λ (f : x ≡ # IDENT). at_mark (# IDENT) (λ g. omega (arith, g)) f refl)
      (one_of (# DOT_DOT) (# IDENT) x t'))
      (or_cases (eqb x (# SLASH)) (has (# DOT_DOT ∷ # IDENT ∷ []) x) t)
    where
      at_mark : (y : ℕ) → (y ≡ 257 → ⊥) → x ≡ y → mark_of y ≡ stop → passing text k (behind nothing o) ≡ none
      at_mark y n f m = one-step k y (behind nothing o) (e ∙ f) n ∙ ap (λ (w : Mark). continued (step (number_at text) w k (behind nothing o)) (λ u. passing text (suc k) u)) m
