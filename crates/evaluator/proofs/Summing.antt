-- A sum, operand by operand: what waits for the next one, and the value where nothing goes on. Assumes nothing.
use Prim.Native.Nat.{ℕ, suc, ◌≤◌}
use native.Mathlib.Omega.{arith}
use mathlib.Core.Path.{◌≡◌, refl, sym, ap, ◌∙◌}
use mathlib.Core.Bool.{Bool, true, false, ◌||◌}
use mathlib.Core.List.{List, [], ◌∷◌}
use mathlib.Core.Option.{none}
use lib.Dec.{eqb}
use Rattle.std.specs.Prelude.{Some, None, Result}
use Rattle.predictive.specs.Grammar.{has}
use Rattle.predictive.proofs.Tests.{or_r}
use Rattle.aadl.specs.Kinds.{PLUS, MINUS, STAR, SLASH, DOT_DOT, IDENT, #◌}
use Rattle.aadl.specs.Values.{Outcome}
use Rattle.int64.specs.declared.Whole.{Whole}
use Rattle.parser.specs.declared.Tokens.{Tokens}
use Rattle.section.specs.Reaching.{Reached}
use Rattle.section.proofs.Reaching.{reached-place}
use Rattle.evaluator.specs.declared.Operator.{Operator as Sign}
use Rattle.evaluator.specs.declared.Terms.{Terms}
use Rattle.evaluator.specs.Pass.{Pending, nothing, completed, expects, behind}
use Rattle.evaluator.specs.Terms.{kind_of, sum_behind, product_behind, Wait, Then, Ends, passing, ahead_at, Operand, Sum, ValueRead}
use Rattle.evaluator.proofs.Steps.{operator-step, no_star, over, stopped}

-- From token k the tokens t have come to an operand for which a sum and a product wait.
pub record Ready (text : List ℕ) (k : ℕ) (t : Tokens) (u : Terms) : Type 0 where
  pub to : ℕ
  pub from : k ≤ to
  pub stands : Reached text to t
  pub sum : Pending
  pub product : Pending
  pub waits : Wait text sum product u
  pub gives : passing text k (expects false nothing nothing) ≡ passing text to (expects false sum product)

module _ (text : List ℕ) (k : ℕ) where
  pub ready-first : (t : Tokens) → Reached text k t → Ready text k t (record { sum = None; product = None })
  ready-first t x = record { to = k; from = omega arith; stands = x; sum = nothing; product = nothing; waits = (tt, tt); gives = refl }

  module _ (t : Tokens) (u : Terms) (x : Ready text k t u) where
    -- an operand is read, and the tokens v stand behind it
    module _ (r : Result Whole ℕ) (v : Tokens) (y : Operand text x.to r v) where
      abbrev factor : Outcome
      factor = completed x.product y.outcome

      so_far : passing text k (expects false nothing nothing) ≡ passing text y.to (behind x.sum factor)
      so_far = x.gives ∙ y.gives x.sum x.product

      -- an operator goes on with it
      pub ready-again : (op : Sign) (w : Tokens) (n : Terms) → ahead_at text y.to ≡ kind_of op → Then u op v.byte r n → Reached text (suc y.to) w → Ready text k w n
      ready-again op w n e h p =
          record {
            to = suc y.to;
            from = omega (arith, x.from, y.from);
            stands = p;
            sum = sum_behind op y.to x.sum factor;
            product = product_behind op y.to factor;
            waits = h text y.to x.sum x.product y.outcome (reached-place text y.to v y.stands) x.waits y.held;
            gives = so_far ∙ operator-step text y.to op x.sum factor e;
          }

      -- none does
      pub summed : (all : Result Whole ℕ) → has (# PLUS ∷ # MINUS ∷ # STAR ∷ []) (ahead_at text y.to) ≡ false → Ends u r all → Sum text k all v
      summed all e h =
          record {
            to = y.to;
            from = omega (arith, x.from, y.from);
            stands = y.stands;
            outcome = completed x.sum factor;
            held = h text x.sum x.product y.outcome x.waits y.held;
            gives = so_far ∙ no_star text y.to x.sum factor (no-star (ahead_at text y.to) e);
            no_operator = e;
          }
        where
          no-star : (z : ℕ) → has (# PLUS ∷ # MINUS ∷ # STAR ∷ []) z ≡ false → has (# STAR ∷ []) z ≡ false
          no-star z f = or_r (eqb z (# MINUS)) _ (or_r (eqb z (# PLUS)) _ f)

-- THE VALUE ------------------------------------------------------------------------------------------------------------

-- A sum that is read to its end: something behind it makes it none, or it is the value.
module _ (text : List ℕ) (k : ℕ) (r : Result Whole ℕ) (t : Tokens) (x : Sum text k r t) (c : ℕ) (e : c ≡ ahead_at text x.to) where
  pub stopped-sum : has (# SLASH ∷ # DOT_DOT ∷ # IDENT ∷ []) c ≡ true → passing text k (expects false nothing nothing) ≡ none
  stopped-sum s = x.gives ∙ stopped text x.to c x.outcome (sym e) s

  pub whole_sum : has (# SLASH ∷ # DOT_DOT ∷ # IDENT ∷ []) c ≡ false → ValueRead text (passing text k (expects false nothing nothing)) (Some r)
  whole_sum s = (x.outcome, x.held, x.gives ∙ over text x.to x.outcome (six (ahead_at text x.to) x.no_operator (ap (has (# SLASH ∷ # DOT_DOT ∷ # IDENT ∷ [])) (sym e) ∙ s)))
    where
      six : (y : ℕ) → has (# PLUS ∷ # MINUS ∷ # STAR ∷ []) y ≡ false → has (# SLASH ∷ # DOT_DOT ∷ # IDENT ∷ []) y ≡ false →
          has (# PLUS ∷ # MINUS ∷ # STAR ∷ # SLASH ∷ # DOT_DOT ∷ # IDENT ∷ []) y ≡ false
      six y e f = three (eqb y (# PLUS)) (eqb y (# MINUS)) (eqb y (# STAR)) e f
        where
          three : (a b d : Bool) {v : Bool} → (a || (b || (d || false))) ≡ false → v ≡ false → (a || (b || (d || v))) ≡ false
          three true b d e f = e
          three false true d e f = e
          three false false true e f = e
          three false false false e f = f
