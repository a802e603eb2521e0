-- What the functions of the pass answer, by the pass over a text's symbols: where the tokens stand, and what an operand or a sum came to. Assumes
-- nothing.
use Rattle.std.specs.Prelude.{ℕ, ◌<◌, ◌≤◌, ◌≡◌, Bool, true, false, List, [], ◌∷◌, drop, Option as Maybe, Some, None, Result, Ok, Err, MatchOption}
use Rattle.std.proofs.Math.Option.{Option, none, some}
use Rattle.predictive.specs.Grammar.{has}
use Rattle.aadl.specs.Kinds.{PLUS, MINUS, STAR, #◌}
use Rattle.aadl.specs.Symbols.{symbols, start_of}
use Rattle.aadl.specs.Values.{Operator, plus, minus, times, Outcome, exact, beyond, in_range, joined, number_at}
use Rattle.int64.specs.declared.Whole.{Whole}
use Rattle.int64.specs.Integers.{integer}
use Rattle.parser.specs.declared.Tokens.{Tokens}
use Rattle.parser.specs.Input.{ahead}
use Rattle.section.specs.Reaching.{Reached}
use Rattle.evaluator.specs.declared.Operator.{Operator as Sign}
use Rattle.evaluator.specs.declared.Operator.TheVariants.{Times, Plus, Minus}
use Rattle.evaluator.specs.declared.Waiting.{Waiting}
use Rattle.evaluator.specs.declared.Terms.{Terms}
use Rattle.evaluator.specs.Pass.{Pending, nothing, waiting, completed, State, expects, behind, pass, past_constant, past_arrow}

-- OPERATORS ------------------------------------------------------------------------------------------------------------

abbrev pub operator : Sign → Operator
operator Times = times
operator Plus = plus
operator Minus = minus

abbrev pub kind_of : Sign → ℕ
kind_of Times = # STAR
kind_of Plus = # PLUS
kind_of Minus = # MINUS

-- the operator of a kind, if it is one's
abbrev pub OperatorOf : (kind : ℕ) → Maybe Sign → Type 0
OperatorOf kind r = MatchOption r (has (# PLUS ∷ # MINUS ∷ # STAR ∷ []) kind ≡ false) (λ op. kind ≡ kind_of op)

-- What waits behind an operand o, the product so far, and the operator of token i: for a product, and in it for an operand.
abbrev pub sum_behind : Sign → (i : ℕ) → (sum : Pending) → (o : Outcome) → Pending
sum_behind Times i s o = s
sum_behind Plus i s o = waiting plus i (completed s o)
sum_behind Minus i s o = waiting minus i (completed s o)

abbrev pub product_behind : Sign → (i : ℕ) → (o : Outcome) → Pending
product_behind Times i o = waiting times i o
product_behind Plus i o = nothing
product_behind Minus i o = nothing

module _ (text : List ℕ) where
  -- What an outcome is in the code: its number, which is in the range; or the start of its token.
  abbrev pub Held : Outcome → Result Whole ℕ → Type 0
  Held (exact z) (Ok w) = (integer w ≡ z) × (in_range z ≡ true)
  Held (exact z) (Err p) = ⊥
  Held (beyond i) (Ok w) = ⊥
  Held (beyond i) (Err p) = p ≡ start_of text i

  -- What waits for an operand: nothing, or an outcome with an operator and where that starts.
  abbrev pub Waits : Pending → Maybe Waiting → Type 0
  Waits nothing None = Unit {0}
  Waits nothing (Some w) = ⊥
  Waits (waiting op i o) None = ⊥
  Waits (waiting op i o) (Some w) = (operator w.op ≡ op) × (w.place ≡ start_of text i) × Held o w.left

  abbrev pub Wait : (sum product : Pending) → Terms → Type 0
  Wait s q t = Waits s t.sum × Waits q t.product

  -- The pass over the text's symbols from token k on, in a state.
  abbrev pub passing : (k : ℕ) → State → Option Outcome
  passing k st = pass (number_at text) k (drop k (symbols text)) st

  -- The symbol of token k, or the end's.
  abbrev pub ahead_at : (k : ℕ) → ℕ
  ahead_at k = ahead (drop k (symbols text))

  -- behind the signs of an operand, of which an odd number is minus or not
  pub record SignsPassed (k : ℕ) (negative : Bool) (t : Tokens) : Type 0 where
    pub to : ℕ
    pub from : k ≤ to
    pub stands : Reached text to t
    pub gives : (s q : Pending) → passing k (expects false s q) ≡ passing to (expects negative s q)
    pub no_sign : has (# PLUS ∷ # MINUS ∷ []) (ahead_at to) ≡ false

  -- The tokens stand at a later token, and what was read came to an outcome r, whatever sum and product wait for it.
  pub record Operand (k : ℕ) (r : Result Whole ℕ) (t : Tokens) : Type 0 where
    pub to : ℕ
    pub from : k < to
    pub stands : Reached text to t
    pub outcome : Outcome
    pub held : Held outcome r
    pub gives : (s q : Pending) → passing k (expects false s q) ≡ passing to (behind s (completed q outcome))

  -- an operand, or none of a constant
  abbrev pub OperandRead : (k : ℕ) → Maybe (Result Whole ℕ) → Tokens → Type 0
  OperandRead k r t = MatchOption r ((s q : Pending) → passing k (expects false s q) ≡ none) (λ o. Operand k o t)

  -- The same of a sum, where no operator goes on with it.
  pub record Sum (k : ℕ) (r : Result Whole ℕ) (t : Tokens) : Type 0 where
    pub to : ℕ
    pub from : k < to
    pub stands : Reached text to t
    pub outcome : Outcome
    pub held : Held outcome r
    pub gives : passing k (expects false nothing nothing) ≡ passing to (behind nothing outcome)
    pub no_operator : has (# PLUS ∷ # MINUS ∷ # STAR ∷ []) (ahead_at to) ≡ false

  abbrev pub SumRead : (k : ℕ) → Maybe (Result Whole ℕ) → Tokens → Type 0
  SumRead k r t = MatchOption r (passing k (expects false nothing nothing) ≡ none) (λ o. Sum k o t)

  -- behind the arrow of the association that begins with token k
  pub record ArrowPassed (k : ℕ) (t : Tokens) : Type 0 where
    pub to : ℕ
    pub stands : Reached text to t
    pub gives : past_arrow (number_at text) k (drop k (symbols text)) ≡ past_constant (number_at text) to (drop to (symbols text))

  -- What a value comes to where the pass gives `all`: it is no constant, or it has that outcome.
  abbrev pub ValueRead : (all : Option Outcome) → Maybe (Result Whole ℕ) → Type 0
  ValueRead all r = MatchOption r (all ≡ none) (λ v. (o : Outcome) × Held o v × (all ≡ some o))

  -- the first value of the association that begins with token k
  abbrev pub FirstValue : (k : ℕ) → Maybe (Result Whole ℕ) → Type 0
  FirstValue k r = ValueRead (past_arrow (number_at text) k (drop k (symbols text))) r

-- r is an operand with what waits for it.
abbrev pub Completes : Maybe Waiting → (operand r : Result Whole ℕ) → Type 0
Completes w x r = (text : List ℕ) (p : Pending) (o : Outcome) → Waits text p w → Held text o x → Held text (completed p o) r

-- Two operands x and y and an operator, which stands at a place, come to r: of every text in which they are outcomes.
abbrev pub Joins : Sign → (place : ℕ) → (x y r : Result Whole ℕ) → Type 0
Joins op place x y r =
    (text : List ℕ) (i : ℕ) (a b : Outcome) → place ≡ start_of text i → Held text a x → Held text b y → Held text (joined (operator op) i a b) r

-- u is what waits behind an operand and an operator, which stands at a place, where before it t waits.
abbrev pub Then : Terms → Sign → (place : ℕ) → (operand : Result Whole ℕ) → (u : Terms) → Type 0
Then t op place x u =
    (text : List ℕ) (i : ℕ) (s q : Pending) (o : Outcome) → place ≡ start_of text i → Wait text s q t → Held text o x →
    Wait text (sum_behind op i s (completed q o)) (product_behind op i (completed q o)) u

-- r is the sum whose last operand x is, where t waits for it.
abbrev pub Ends : Terms → (operand r : Result Whole ℕ) → Type 0
Ends t x r = (text : List ℕ) (s q : Pending) (o : Outcome) → Wait text s q t → Held text o x → Held text (completed s (completed q o)) r
