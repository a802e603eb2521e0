-- Products, sums and Expressions in the pass. Behind a product the pass holds what the product comes to; where no `*` follows, the sum is
-- complete too; and where nothing goes on with an Expression, the pass is over with its value. Assumes nothing.
use Prim.Native.Nat.{ℕ, suc, ◌+◌}
use native.Mathlib.Omega.{arith}
use mathlib.Core.Path.{◌≡◌, refl, sym, ap, ◌∙◌}
use mathlib.Core.Logic.{⊎_elim}
use mathlib.Core.Bool.{Bool, true, false, cond}
use mathlib.Core.List.{List, [], ◌∷◌}
use mathlib.Core.Option.{Option, none, some}
use lib.Dec.{eqb}
use Rattle.predictive.specs.Forest.{Forest, nil, leaf, wrap, leaves}
use Rattle.predictive.specs.Grammar.{Head, at, Part, seq, Leaning, d_seq, d_alone, d_with, d_leaning, l_one, l_more}
use Rattle.predictive.specs.Reader.{ones, twos, heads_of, null, first}
use Rattle.predictive.proofs.Tests.{or_l, or_r}
use Rattle.predictive.proofs.Heads.{apart, clear, disjoint}
use Rattle.predictive.proofs.Begins.{begins-apart}
use Rattle.predictive.proofs.Consumed.{count, count-wrap}
use Rattle.aadl.specs.Kinds.{PLUS, MINUS, STAR, SLASH, DOT_DOT, INTEGER_LIT, IDENT, BINARY_EXPR, #◌}
use Rattle.aadl.specs.Symbols.{shown}
use Rattle.aadl.specs.Section.{Rule, heads, grammar, one_of, operand, product, sum, expression}
use Rattle.aadl.specs.Values.{Operator, plus, minus, times, Constant, binary, Outcome, joined, value, joined_by, operands, children}
use Rattle.aadl.proofs.SectionTest.{tables, grammar-fine}
use Rattle.evaluator.specs.Pass.{number, add, sub, stop, other, Pending, nothing, waiting, completed, State, expects, behind, continued, step, pass, evaluated}
use Rattle.evaluator.proofs.Parts.{D, Token, the_token, either-token, Single, s-node, s-wrap, lean-single, operand-single, product-single}
use Rattle.evaluator.proofs.Operands.{given, constant-in, Passes, operand-passes}

-- GOING ON WITH A CONSTANT ---------------------------------------------------------------------------------------------

given-joined : (op : Operator) (j : ℕ) (o r : Option Constant) (k : Constant → Constant → Option Outcome) (l : Constant → Option Outcome) →
    ((a b : Constant) → k a b ≡ l (binary op j a b)) → given o (λ a. given r (k a)) ≡ given (joined_by op j o r) l
given-joined op j none r k l h = refl
given-joined op j (some a) none k l h = refl
given-joined op j (some a) (some b) k l h = h a b

given-none : (o : Option Constant) → given o (λ c. none) ≡ none
given-none none = refl
given-none (some c) = refl

given-same : (o : Option Constant) (k l : Constant → Option Outcome) → ((c : Constant) → k c ≡ l c) → given o k ≡ given o l
given-same none k l h = refl
given-same (some c) k l h = h c

-- The outcome of a constant, if there is one.
abbrev pub outcome : Option Constant → Option Outcome
outcome o = given o (λ c. some (value c))

-- what would go on with an Expression
abbrev pub goes_on : List Head
goes_on = heads (PLUS ∷ MINUS ∷ STAR ∷ SLASH ∷ DOT_DOT ∷ IDENT ∷ [])

abbrev pub star : List Head
star = heads (STAR ∷ [])

module _ (number-of-token : ℕ → Option ℕ) where
  abbrev pass_on : (i : ℕ) → List ℕ → State → Option Outcome
  pass_on i xs st = pass number-of-token i xs st

  abbrev constant : (i : ℕ) → Forest → Option Constant
  constant i f = constant-in number-of-token i f

  -- the pass behind the tree f and with its value, if it is a constant
  abbrev Behind : (i : ℕ) → Forest → List ℕ → Pending → Option Outcome
  Behind i f xs s = given (constant i f) (λ c. pass_on (i + count f) xs (behind s (value c)))

  -- TWO OPERANDS -------------------------------------------------------------------------------------------------------

  -- A left operand, an operator and a right operand.
  abbrev over : ℕ → Forest → Forest → Forest
  over k a b = wrap (# BINARY_EXPR) a (leaf k b) nil

  over-constant : (i k : ℕ) (a b : Forest) → Single a → constant i (over k a b) ≡ operands k (i + count a) (constant i a) (constant (suc (i + count a)) b)
  unfolding children
  over-constant i k a b s-node = refl
  over-constant i k a b s-wrap = refl

  over-place : (i k : ℕ) (a b : Forest) → suc (i + count a) + count b ≡ i + count (over k a b)
  unfolding leaves
  over-place i k a b = omega (arith, count-wrap (# BINARY_EXPR) a (leaf k b))

  -- The pass goes on as `entry` behind the left operand and as `last` behind the right one.
  join : (op : Operator) (k i : ℕ) (a b : Forest) (entry : Constant → Option Outcome) (last : ℕ → Outcome → Option Outcome) → Single a →
      ((o r : Option Constant) → operands k (i + count a) o r ≡ joined_by op (i + count a) o r) →
      ((c : Constant) → entry c ≡ given (constant (suc (i + count a)) b) (λ d. last (suc (i + count a) + count b) (joined op (i + count a) (value c) (value d)))) →
      given (constant i a) entry ≡ given (constant i (over k a b)) (λ c. last (i + count (over k a b)) (value c))
  unfolding value
  join op k i a b entry last one by h =
      let j = i + count a in
      given-same (constant i a) entry (λ c. given (constant (suc j) b) (λ d. last (suc j + count b) (joined op j (value c) (value d)))) h
      ∙ given-joined op j (constant i a) (constant (suc j) b) (λ c d. last (suc j + count b) (joined op j (value c) (value d)))
      (λ c. last (i + count (over k a b)) (value c))
      (λ c d. ap (λ (n : ℕ). last n (joined op j (value c) (value d))) (over-place i k a b))
      ∙ ap (λ (o : Option Constant). given o (λ c. last (i + count (over k a b)) (value c)))
      (sym (over-constant i k a b one ∙ by (constant i a) (constant (suc j) b)))

  -- PRODUCTS -----------------------------------------------------------------------------------------------------------

  star-more : (i : ℕ) (a b : Forest) (ys zs : List ℕ) (s : Pending) → Single a → Passes number-of-token (suc (i + count a)) b ys zs →
      Behind i a (# STAR ∷ ys) s ≡ Behind i (over (# STAR) a b) zs s
  unfolding pass
  star-more i a b ys zs s one h =
      join times (# STAR) i a b (λ c. pass_on (i + count a) (# STAR ∷ ys) (behind s (value c))) (λ n o. pass_on n zs (behind s o)) one (λ o r. refl)
      (λ c. h false s (waiting times (i + count a) (value c)))

  slash-more : (i : ℕ) (a b : Forest) (ys zs : List ℕ) (s : Pending) → Single a → Behind i a (# SLASH ∷ ys) s ≡ Behind i (over (# SLASH) a b) zs s
  unfolding pass
  slash-more i a b ys zs s one = given-none (constant i a) ∙ rw (over-constant i (# SLASH) a b one) refl

  abbrev factor : Part Rule
  factor = seq (one_of (STAR ∷ SLASH ∷ [])) operand

  product-more : (i : ℕ) (a : Forest) {g : Forest} {xs zs : List ℕ} (s : Pending) → Single a → D factor g xs zs →
      Behind i a xs s ≡ Behind i (wrap (# BINARY_EXPR) a g nil) zs s
  unfolding shown
  product-more i a {xs = xs} {zs = zs} s one (d_seq {f = f} {g = b} {ys = ys} t d q) =
      ⊎_elim
      (λ (e : Token (# STAR) f xs ys). rw (q, e.0, e.1) (star-more i a b ys zs s one (operand-passes number-of-token (suc (i + count a)) d)))
      (λ (e : Token (# SLASH) f xs ys). rw (q, e.0, e.1) (slash-more i a b ys zs s one))
      (either-token t)

  factors_pass : {f : Forest} {xs ys : List ℕ} (i : ℕ) (s : Pending) → Leaning grammar (# BINARY_EXPR) operand factor f xs ys →
      pass_on i xs (expects false s nothing) ≡ Behind i f ys s
  factors_pass i s (l_one d) = operand-passes number-of-token i d false s nothing
  factors_pass i s (l_more {f = a} l d) = factors_pass i s l ∙ product-more i a s (lean-single (λ g us vs e. operand-single e) l) d

  product-passes : {f : Forest} {xs ys : List ℕ} (i : ℕ) (s : Pending) → D product f xs ys → pass_on i xs (expects false s nothing) ≡ Behind i f ys s
  product-passes i s (d_leaning l) = factors_pass i s l

  -- SUMS ---------------------------------------------------------------------------------------------------------------

  settled-mark : (i : ℕ) (s : Pending) (q : Outcome) (k : State → Option Outcome) (a b c d e f : Bool) →
      continued (step number-of-token (cond a number (cond b add (cond c sub (cond d stop (cond e stop (cond f stop other)))))) i (behind s q)) k
      ≡ continued (step number-of-token (cond a number (cond b add (cond c sub (cond d stop (cond e stop (cond f stop other)))))) i (behind nothing (completed s q))) k
  settled-mark i s q k true b c d e f = refl
  settled-mark i s q k false true c d e f = refl
  settled-mark i s q k false false true d e f = refl
  settled-mark i s q k false false false true e f = refl
  settled-mark i s q k false false false false true f = refl
  settled-mark i s q k false false false false false true = refl
  settled-mark i s q k false false false false false false = refl

  -- Where no `*` follows, the product is complete, and so is the sum.
  pub settled : (i : ℕ) (xs : List ℕ) (s : Pending) (q : Outcome) → at star xs ≡ false → pass_on i xs (behind s q) ≡ pass_on i xs (behind nothing (completed s q))
  unfolding pass ones
  settled i [] s q e = refl
  settled i (x ∷ xs) s q e =
      rw (or_l (eqb x (# STAR)) false e)
      (settled-mark i s q (λ u. pass_on (suc i) xs u) (eqb x (# INTEGER_LIT)) (eqb x (# PLUS)) (eqb x (# MINUS)) (eqb x (# SLASH)) (eqb x (# DOT_DOT)) (eqb x (# IDENT)))

  -- an operator with the product behind it, in the pass and in the tree
  term-more : (op : Operator) (k i : ℕ) (a : Forest) {b : Forest} {ys zs : List ℕ} → Single a → at star zs ≡ false → D product b ys zs →
      ((o r : Option Constant) → operands k (i + count a) o r ≡ joined_by op (i + count a) o r) →
      ((c : Constant) →
      pass_on (i + count a) (k ∷ ys) (behind nothing (value c)) ≡ pass_on (suc (i + count a)) ys (expects false (waiting op (i + count a) (value c)) nothing)) →
      Behind i a (k ∷ ys) nothing ≡ Behind i (over k a b) zs nothing
  term-more op k i a {b} {ys} {zs} one n d by e =
      let j = suc (i + count a) in
      join op k i a b (λ c. pass_on (i + count a) (k ∷ ys) (behind nothing (value c))) (λ l o. pass_on l zs (behind nothing o)) one by
      (λ c.
      let s = waiting op (i + count a) (value c) in
      e c
      ∙ product-passes j s d
      ∙ given-same (constant j b) (λ r. pass_on (j + count b) zs (behind s (value r))) (λ r. pass_on (j + count b) zs (behind nothing (completed s (value r))))
      (λ r. settled (j + count b) zs s (value r) n))

  abbrev term : Part Rule
  term = seq (one_of (PLUS ∷ MINUS ∷ [])) product

  sum_more : (i : ℕ) (a : Forest) {g : Forest} {xs zs : List ℕ} → Single a → at star zs ≡ false → D term g xs zs →
      Behind i a xs nothing ≡ Behind i (wrap (# BINARY_EXPR) a g nil) zs nothing
  unfolding pass shown
  sum_more i a {xs = xs} {zs = zs} one n (d_seq {f = f} {ys = ys} t d q) =
      ⊎_elim
      (λ (e : Token (# PLUS) f xs ys). rw (q, e.0, e.1) (term-more plus (# PLUS) i a one n d (λ o r. refl) (λ c. refl)))
      (λ (e : Token (# MINUS) f xs ys). rw (q, e.0, e.1) (term-more minus (# MINUS) i a one n d (λ o r. refl) (λ c. refl)))
      (either-token t)

  no_star : {g : Forest} {xs ys : List ℕ} → D term g xs ys → at star xs ≡ false
  unfolding ones twos heads_of null first apart clear disjoint
  no_star d = begins-apart grammar tables grammar-fine star d refl refl

  terms_pass : {f : Forest} {xs ys : List ℕ} (i : ℕ) → Leaning grammar (# BINARY_EXPR) product term f xs ys → at star ys ≡ false →
      evaluated number-of-token i xs ≡ Behind i f ys nothing
  terms_pass i (l_one d) n = product-passes i nothing d
  terms_pass i (l_more {f = a} l d) n = terms_pass i l (no_star d) ∙ sum_more i a (lean-single (λ g us vs e. product-single e) l) n d

  sum-passes : {f : Forest} {xs ys : List ℕ} (i : ℕ) → D sum f xs ys → at star ys ≡ false → evaluated number-of-token i xs ≡ Behind i f ys nothing
  sum-passes i (d_leaning l) n = terms_pass i l n

  -- EXPRESSIONS --------------------------------------------------------------------------------------------------------

  ended-mark : (i : ℕ) (q : Outcome) (k : State → Option Outcome) (a : Bool) → continued (step number-of-token (cond a number other) i (behind nothing q)) k ≡ some q
  ended-mark i q k true = refl
  ended-mark i q k false = refl

  -- Where nothing goes on, the pass is at its end.
  pub ended : (i : ℕ) (xs : List ℕ) (q : Outcome) → at goes_on xs ≡ false → pass_on i xs (behind nothing q) ≡ some q
  unfolding pass ones
  ended i [] q e = refl
  ended i (x ∷ xs) q e =
      let r₁ = or_r (eqb x (# PLUS)) _ e in
      let r₂ = or_r (eqb x (# MINUS)) _ r₁ in
      let r₃ = or_r (eqb x (# STAR)) _ r₂ in
      let r₄ = or_r (eqb x (# SLASH)) _ r₃ in
      let r₅ = or_r (eqb x (# DOT_DOT)) _ r₄ in
      rw (or_l (eqb x (# PLUS)) _ e, or_l (eqb x (# MINUS)) _ r₁, or_l (eqb x (# STAR)) _ r₂)
      (rw (or_l (eqb x (# SLASH)) _ r₃, or_l (eqb x (# DOT_DOT)) _ r₄, or_l (eqb x (# IDENT)) _ r₅)
      (ended-mark i q (λ u. pass_on (suc i) xs u) (eqb x (# INTEGER_LIT))))

  not_star : (xs : List ℕ) → at goes_on xs ≡ false → at star xs ≡ false
  unfolding ones
  not_star [] e = refl
  not_star (x ∷ xs) e =
      let r₂ = or_r (eqb x (# MINUS)) _ (or_r (eqb x (# PLUS)) _ e) in
      rw (or_l (eqb x (# STAR)) _ r₂) refl

  -- For every derivation of an Expression, which nothing goes on with: the pass over its tokens gives the outcome of the constant that
  -- its tree is, and none just where it is none.
  pub expression-evaluated : {f : Forest} {xs ys : List ℕ} (i : ℕ) → D expression f xs ys → at goes_on ys ≡ false →
      evaluated number-of-token i xs ≡ outcome (constant i f)
  unfolding pass children ones
  expression-evaluated {f} {xs} {ys} i (d_alone d m) n =
      sum-passes i d (not_star ys n)
      ∙ given-same (constant i f) (λ c. pass_on (i + count f) ys (behind nothing (value c))) (λ c. some (value c)) (λ c. ended (i + count f) ys (value c) n)
  expression-evaluated {xs = xs} i (d_with {f = a} {ys = ys} d (d_seq {ys = zs} t e q)) n =
      let k = the_token t in
      let z : at star ys ≡ false = rw k.0 refl in
      sum-passes i d z
      ∙ given-same (constant i a) (λ c. pass_on (i + count a) ys (behind nothing (value c))) (λ c. none) (λ c. rw k.0 refl)
      ∙ given-none (constant i a)
