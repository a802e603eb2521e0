-- The pass over the tokens of an association, from left to right: past its name and its arrow, past `constant`, and then its first value with
-- two accumulators, the sum so far and the product so far. Assumes nothing.
use Rattle.std.specs.Prelude.{ℕ, suc, Bool, false, not, cond, ◌||◌, List, [], ◌∷◌, eqb, pos}
use Rattle.std.proofs.Math.Option.{Option, none, some}
use Rattle.aadl.specs.Kinds.{PLUS, MINUS, STAR, SLASH, DOT_DOT, INTEGER_LIT, IDENT, FAT_ARROW, PLUS_ARROW, CONSTANT_KW, #◌}
use Rattle.aadl.specs.Values.{Operator, plus, minus, times, Outcome, kept, with_sign, joined}

-- What a symbol is to the pass: a literal, an operator or sign, something that makes the value no constant, or anything else.
pub data Mark : Type 0 where
  number add sub mul stop other : Mark

abbrev pub mark_of : ℕ → Mark
mark_of x =
    cond (eqb x (# INTEGER_LIT)) number
    (cond (eqb x (# PLUS)) add
    (cond (eqb x (# MINUS)) sub
    (cond (eqb x (# STAR)) mul
    (cond (eqb x (# SLASH)) stop
    (cond (eqb x (# DOT_DOT)) stop
    (cond (eqb x (# IDENT)) stop other))))))

-- A left operand with its operator, that waits for the right one; or none.
pub data Pending : Type 0 where
  nothing : Pending
  waiting : Operator → (token : ℕ) → (left : Outcome) → Pending

abbrev pub completed : Pending → Outcome → Outcome
completed nothing o = o
completed (waiting op i l) o = joined op i l o

-- Before an operand, of which an odd number of minus signs has been read or not; or behind one, with the product so far.
pub data State : Type 0 where
  expects : (negative : Bool) → (sum product : Pending) → State
  behind : (sum : Pending) → (product : Outcome) → State

-- The pass is over, or it goes on in a state.
pub data Step : Type 0 where
  ends : Option Outcome → Step
  goes : State → Step

abbrev pub continued : Step → (State → Option Outcome) → Option Outcome
continued (ends r) k = r
continued (goes st) k = k st

-- What is answered where the symbols end.
abbrev pub at_end : State → Option Outcome
at_end (expects m s p) = none
at_end (behind s q) = some (completed s q)

-- A literal, by its number: none where it breaks a rule of its form.
abbrev pub took : (token : ℕ) → (negative : Bool) → (sum product : Pending) → Option ℕ → Step
took i m s p none = ends none
took i m s p (some n) = goes (behind s (completed p (with_sign m (kept i (pos n)))))

module _ (number-of-token : ℕ → Option ℕ) where
  -- One symbol, by its mark and the number of its token.
  abbrev pub step : Mark → (token : ℕ) → State → Step
  step number i (expects m s p) = took i m s p (number-of-token i)
  step add i (expects m s p) = goes (expects m s p)
  step sub i (expects m s p) = goes (expects (not m) s p)
  step mul i (expects m s p) = ends none
  step stop i (expects m s p) = ends none
  step other i (expects m s p) = ends none
  step number i (behind s q) = ends (some (completed s q))
  step add i (behind s q) = goes (expects false (waiting plus i (completed s q)) nothing)
  step sub i (behind s q) = goes (expects false (waiting minus i (completed s q)) nothing)
  step mul i (behind s q) = goes (expects false s (waiting times i q))
  step stop i (behind s q) = ends none
  step other i (behind s q) = ends (some (completed s q))

  -- The pass over the symbols from the token i on.
  unfoldable pub pass : (i : ℕ) → List ℕ → State → Option Outcome
  pass i [] st = at_end st
  pass i (x ∷ xs) st = continued (step (mark_of x) i st) (λ u. pass (suc i) xs u)

  -- The value that begins with the token i.
  abbrev pub evaluated : (i : ℕ) → List ℕ → Option Outcome
  evaluated i xs = pass i xs (expects false nothing nothing)

  -- The value that begins with the token i, or behind it where that is `constant`.
  abbrev pub past_constant : (i : ℕ) → List ℕ → Option Outcome
  past_constant i [] = none
  past_constant i (x ∷ xs) = cond (eqb x (# CONSTANT_KW)) (evaluated (suc i) xs) (evaluated i (x ∷ xs))

  -- The first value of the association that begins with the token i: it stands behind the first arrow.
  unfoldable pub past_arrow : (i : ℕ) → List ℕ → Option Outcome
  past_arrow i [] = none
  past_arrow i (x ∷ xs) =
      let on = past_arrow (suc i) xs in
      cond (eqb x (# FAT_ARROW) || eqb x (# PLUS_ARROW)) (past_constant (suc i) xs) on
