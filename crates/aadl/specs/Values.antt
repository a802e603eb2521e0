-- 02's request Six: "given a clean text, an association's number from 0, it gives the first value as a signed 64-bit number". What a literal
-- stands for, what a constant is and what it comes to, on the tree that is derived. Numbers here are exact. Assumes nothing.
use Rattle.std.specs.Prelude.{ℕ, zero, suc, ◌+◌, ◌-◌, ◌*◌, Bool, true, false, ◌&&◌, take, drop, leb, ltb, eqb, ℤ, pos, negsuc, neg_ℤ, ◌+ℤ◌, ◌-ℤ◌, ◌*ℤ◌}
use Rattle.std.proofs.Math.Bool.{cond}
use mathlib.Core.List.{List, [], ◌∷◌, ◌++◌}
use Rattle.std.proofs.Math.Option.{Option, none, some}
use Rattle.std.proofs.Math.ListN.{length}
use Rattle.std.specs.Int.Signed.{le_z}
use Rattle.predictive.specs.Forest.{Forest, nil, leaf, err, node, wrap, leaves}
use Rattle.aadl.specs.declared.Number.{Number}
use Rattle.aadl.specs.Kinds.{PLUS, MINUS, STAR, PROPERTY_ASSOCIATION, PROPERTY_EXPRESSION, INTEGER_VALUE, BINARY_EXPR, #◌}
use Rattle.aadl.specs.Bytes.{within, is_digit}
use Rattle.aadl.specs.Tokens.{number_of}
use Rattle.aadl.specs.Symbols.{start_of}

-- LITERALS -------------------------------------------------------------------------------------------------------------

-- 0 to 9, a to f or A to F; any other byte is no digit, which 16 tells in every base up to 16.
abbrev pub digit_of : ℕ → ℕ
digit_of b = cond (is_digit b) (b - 48) (cond (within 97 102 b) (b - 87) (cond (within 65 70 b) (b - 55) 16))

-- "Underscores are skipped."
unfoldable pub digits : List ℕ → List ℕ
digits [] = []
digits (b ∷ bs) =
    let rest = digits bs in
    cond (eqb b 95) rest (digit_of b ∷ rest)

-- The number that digits stand for in a base, behind those that stand for n.
unfoldable pub number_by : (base n : ℕ) → List ℕ → ℕ
number_by base n [] = n
number_by base n (d ∷ ds) = number_by base (n * base + d) ds

-- "At least one digit, only digits below the base."
unfoldable pub all_below : ℕ → List ℕ → Bool
all_below base [] = true
all_below base (d ∷ ds) = ltb d base && all_below base ds

abbrev pub in_base : ℕ → List ℕ → Option ℕ
in_base base ds = cond (ltb 0 (length ds) && all_below base ds) (some (number_by base 0 ds)) none

-- "A based literal needs a decimal base 2 to 16, leading zeros allowed, .. and its closing `#`."
abbrev pub in_written_base : (base : ℕ) → (closed : Bool) → List ℕ → Option ℕ
in_written_base base closed ds = cond ((leb 2 base && leb base 16) && closed) (in_base base ds) none

-- What stands from a place up to another.
abbrev pub part : (begin end : ℕ) → List ℕ → List ℕ
part i e bs = take (e - i) (drop i bs)

-- The number of an INTEGER_LIT that some bytes begin with, by its parts; none where it breaks a rule of its form.
abbrev pub number_by_parts : List ℕ → Number → Option ℕ
number_by_parts bs n =
    let ds = digits (part n.inner.begin n.inner.end bs) in
    cond (eqb n.base.end 0) (in_base 10 ds)
    (in_written_base (number_by 10 0 (digits (part n.base.begin n.base.end bs))) n.closed ds)

unfoldable pub literal_number : List ℕ → Option ℕ
literal_number bs = number_by_parts bs (number_of bs)

-- The same, by the number of a non-trivia token of a text.
unfoldable pub number_at : (text : List ℕ) → (token : ℕ) → Option ℕ
number_at text i = literal_number (drop (start_of text i) text)

-- CONSTANTS AND WHAT THEY COME TO --------------------------------------------------------------------------------------

pub data Operator : Type 0 where
  plus minus times : Operator

-- "A constant is INTEGER_LIT without a unit, signs, and `+ - *`." Literals and operators have the numbers of their tokens.
pub data Constant : Type 0 where
  literal : (token number : ℕ) → Constant
  signed : (negative : Bool) → Constant → Constant
  binary : Operator → (token : ℕ) → (left right : Constant) → Constant

-- Exactly a number; or beyond the range, with the token of the first literal or operator concerned.
pub data Outcome : Type 0 where
  exact : ℤ → Outcome
  beyond : (token : ℕ) → Outcome

-- -9,223,372,036,854,775,808 to 9,223,372,036,854,775,807
abbrev pub in_range : ℤ → Bool
in_range z = le_z (negsuc 9223372036854775807) z && le_z z (pos 9223372036854775807)

abbrev pub kept : (token : ℕ) → ℤ → Outcome
kept i z = cond (in_range z) (exact z) (beyond i)

abbrev pub with_sign : (negative : Bool) → Outcome → Outcome
with_sign false o = o
with_sign true (exact z) = exact (neg_ℤ z)
with_sign true (beyond i) = beyond i

abbrev pub operate : Operator → ℤ → ℤ → ℤ
operate plus x y = x +ℤ y
operate minus x y = x -ℤ y
operate times x y = x *ℤ y

-- "Every partial result must lie in the signed range: left operand, right operand, then their operator."
abbrev pub joined : Operator → (token : ℕ) → (left right : Outcome) → Outcome
joined op i (beyond j) r = beyond j
joined op i (exact x) (beyond j) = beyond j
joined op i (exact x) (exact y) = kept i (operate op x y)

-- "A literal is at most 9,223,372,036,854,775,807 even after a minus sign."
unfoldable pub value : Constant → Outcome
value (literal i n) = kept i (pos n)
value (signed m c) = with_sign m (value c)
value (binary op i a b) = joined op i (value a) (value b)

-- CONSTANTS IN A TREE --------------------------------------------------------------------------------------------------

-- A child of a node: a token, with its kind and its number; or a tree, with the constant that it is, if it is one.
pub data Child : Type 0 where
  token : (kind number : ℕ) → Child
  tree : Option Constant → Child

-- a tree alone
abbrev pub alone : List Child → Option Constant
alone [] = none
alone (token k i ∷ cs) = none
alone (tree c ∷ []) = c
alone (tree c ∷ d ∷ cs) = none

abbrev pub signed_by : (negative : Bool) → Option Constant → Option Constant
signed_by m none = none
signed_by m (some c) = some (signed m c)

abbrev pub joined_by : Operator → (token : ℕ) → (left right : Option Constant) → Option Constant
joined_by op i none r = none
joined_by op i (some a) none = none
joined_by op i (some a) (some b) = some (binary op i a b)

-- a sign and its operand
abbrev pub sign_and : (kind : ℕ) → Option Constant → Option Constant
sign_and k c = cond (eqb k (# PLUS)) (signed_by false c) (cond (eqb k (# MINUS)) (signed_by true c) none)

-- two operands and what stands between them
abbrev pub operands : (kind token : ℕ) → (left right : Option Constant) → Option Constant
operands k i a b =
    cond (eqb k (# PLUS)) (joined_by plus i a b)
    (cond (eqb k (# MINUS)) (joined_by minus i a b)
    (cond (eqb k (# STAR)) (joined_by times i a b) none))

abbrev pub literal_by : (token : ℕ) → Option ℕ → Option Constant
literal_by i none = none
literal_by i (some n) = some (literal i n)

-- An association: the number of its first token, and the constant that its first value is, if it is one.
pub record Association : Type 0 where
  pub first : ℕ
  pub constant : Option Constant

abbrev pub association : (first : ℕ) → Option Constant → Association
association i c = record { first = i; constant = c }

module _ (number-of-token : ℕ → Option ℕ) where
  -- one child, an INTEGER_LIT: a second one would be its unit
  abbrev pub literal_child : List Child → Option Constant
  literal_child [] = none
  literal_child (tree c ∷ cs) = none
  literal_child (token k i ∷ []) = literal_by i (number-of-token i)
  literal_child (token k i ∷ d ∷ cs) = none

  abbrev pub signed_child : List Child → Option Constant
  signed_child [] = none
  signed_child (tree c ∷ cs) = none
  signed_child (token k i ∷ cs) = sign_and k (alone cs)

  abbrev pub binary_children : List Child → Option Constant
  binary_children [] = none
  binary_children (token k i ∷ cs) = none
  binary_children (tree a ∷ []) = none
  binary_children (tree a ∷ tree b ∷ cs) = none
  binary_children (tree a ∷ token k i ∷ cs) = operands k i a (alone cs)

  -- The constant that a node is, by its kind and its children.
  abbrev pub constant_of : (kind : ℕ) → List Child → Option Constant
  constant_of k cs =
      cond (eqb k (# INTEGER_VALUE)) (literal_child cs)
      (cond (eqb k (# PROPERTY_EXPRESSION)) (signed_child cs)
      (cond (eqb k (# BINARY_EXPR)) (binary_children cs) none))

  -- The tokens and trees of a forest as children; i tokens stand before them.
  unfoldable pub children : (i : ℕ) → Forest → List Child
  children i nil = []
  children i (leaf k f) = token k i ∷ children (suc i) f
  children i (err m f) = children i f
  children i (node k a f) = tree (constant_of k (children i a)) ∷ children (i + length (leaves a)) f
  children i (wrap k a b f) =
      tree (constant_of k (children i a ++ children (i + length (leaves a)) b))
      ∷ children (i + length (leaves a) + length (leaves b)) f

  -- The constant that the tree with a number is among children.
  abbrev pub nth_tree : ℕ → List Child → Option Constant
  nth_tree n [] = none
  nth_tree n (token k i ∷ cs) = nth_tree n cs
  nth_tree zero (tree c ∷ cs) = c
  nth_tree (suc n) (tree c ∷ cs) = nth_tree n cs

  -- The associations of a forest in their order; i tokens stand before it. Of an association's trees the first is its PROPERTY_REF, the
  -- second its first value.
  unfoldable pub associations : (i : ℕ) → Forest → List Association
  unfolding children
  associations i nil = []
  associations i (leaf k f) = associations (suc i) f
  associations i (err m f) = associations i f
  associations i (node k a f) =
      let rest = associations (i + length (leaves a)) f in
      let inner = associations i a ++ rest in
      cond (eqb k (# PROPERTY_ASSOCIATION)) (association i (nth_tree 1 (children i a)) ∷ rest) inner
  associations i (wrap k a b f) =
      let rest = associations (i + length (leaves a) + length (leaves b)) f in
      let inner = (associations i a ++ associations (i + length (leaves a)) b) ++ rest in
      let first = nth_tree 1 (children i a ++ children (i + length (leaves a)) b) in
      cond (eqb k (# PROPERTY_ASSOCIATION)) (association i first ∷ rest) inner
