-- An operand in the pass: from before it to behind it, with the value of the constant that its tree is; where it is none the pass ends with
-- none. Literals and signs by what they are, and every other operand by what it begins with. Assumes nothing.
use Prim.Native.Nat.{ℕ, zero, suc, ◌+◌, ◌<◌}
use native.Mathlib.Nat.{not-suc-le-zero}
use native.Mathlib.Omega.{arith}
use mathlib.Core.Path.{◌≡◌, refl, sym, ap, ◌∙◌}
use mathlib.Core.Logic.{⊎_elim}
use mathlib.Core.Bool.{Bool, true, false, not, cond}
use mathlib.Core.List.{List, [], ◌∷◌}
use mathlib.Core.Option.{Option, none, some}
use lib.ListN.{length}
use lib.Dec.{eqb}
use lib.IntN.{pos, neg_ℤ-neg_ℤ}
use Rattle.predictive.specs.Forest.{Forest, nil, leaf, node, leaves}
use Rattle.predictive.specs.Grammar.{Head, at, Part, tok, inside, d_tok, d_seq, d_some, d_none, d_inside, d_rule}
use Rattle.predictive.specs.Reader.{ones, twos, heads_of, null, first}
use Rattle.predictive.proofs.Tests.{or_l, or_r}
use Rattle.predictive.proofs.Heads.{apart, clear, disjoint}
use Rattle.predictive.proofs.Begins.{begins-apart}
use Rattle.predictive.proofs.Consumed.{count, count-node}
use Rattle.aadl.specs.Kinds.{PLUS, MINUS, STAR, SLASH, DOT_DOT, INTEGER_LIT, IDENT, PROPERTY_EXPRESSION, INTEGER_VALUE, #◌}
use Rattle.aadl.specs.Symbols.{shown}
use Rattle.aadl.specs.Section.{Rule, heads, grammar, integer_value, named_value, signed_value, operand}
use Rattle.aadl.specs.Values.{Constant, signed, Outcome, exact, beyond, kept, with_sign, value, Child, alone, signed_by, literal_by, constant_of, children}
use Rattle.aadl.proofs.SectionTest.{tables, grammar-fine}
use Rattle.evaluator.specs.Pass.{mul, stop, other, Pending, completed, State, expects, behind, continued, took, step, pass}
use Rattle.evaluator.proofs.Parts.{D, ◌or◌, opened, nothing-wrong, nothing-fails, Token, the_token, either-token}

-- going on with a constant, if there is one
abbrev pub given : Option Constant → (Constant → Option Outcome) → Option Outcome
given none k = none
given (some c) k = k c

module _ (number-of-token : ℕ → Option ℕ) where
  -- the constant that a forest is
  abbrev pub constant-in : (i : ℕ) → Forest → Option Constant
  constant-in i f = alone (children number-of-token i f)

  abbrev pass_on : (i : ℕ) → List ℕ → State → Option Outcome
  pass_on i xs st = pass number-of-token i xs st

  -- An operand goes through the pass, from before it to behind it.
  abbrev pub Passes : (i : ℕ) → Forest → (xs ys : List ℕ) → Type 0
  Passes i f xs ys =
      (m : Bool) (s p : Pending) →
      pass_on i xs (expects m s p) ≡ given (constant-in i f) (λ c. pass_on (i + count f) ys (behind s (completed p (with_sign m (value c)))))

  -- WHERE NO OPERAND OF A CONSTANT BEGINS ------------------------------------------------------------------------------

  abbrev pub operand-marks : List Head
  operand-marks = heads (INTEGER_LIT ∷ PLUS ∷ MINUS ∷ [])

  not_here : (i : ℕ) (m : Bool) (s p : Pending) (k : State → Option Outcome) (a b c d : Bool) →
      continued (step number-of-token (cond a mul (cond b stop (cond c stop (cond d stop other)))) i (expects m s p)) k ≡ none
  not_here i m s p k true b c d = refl
  not_here i m s p k false true c d = refl
  not_here i m s p k false false true d = refl
  not_here i m s p k false false false true = refl
  not_here i m s p k false false false false = refl

  pub none-begins : (i : ℕ) (xs : List ℕ) (m : Bool) (s p : Pending) → at operand-marks xs ≡ false → pass_on i xs (expects m s p) ≡ none
  unfolding pass ones
  none-begins i [] m s p e = refl
  none-begins i (x ∷ xs) m s p e =
      let e₁ = or_l (eqb x (# INTEGER_LIT)) _ e in
      let r₁ = or_r (eqb x (# INTEGER_LIT)) _ e in
      let e₂ = or_l (eqb x (# PLUS)) _ r₁ in
      let e₃ = or_l (eqb x (# MINUS)) _ (or_r (eqb x (# PLUS)) _ r₁) in
      rw (e₁, e₂, e₃) (not_here i m s p (λ u. pass_on (suc i) xs u) (eqb x (# STAR)) (eqb x (# SLASH)) (eqb x (# DOT_DOT)) (eqb x (# IDENT)))

  -- A node that begins with none of them, and of a kind that is no constant's.
  no_constant : {k : ℕ} {p : Part Rule} {f : Forest} {xs ys : List ℕ} (i : ℕ) → ((cs : List Child) → constant_of number-of-token k cs ≡ none) →
      not (null p) ≡ true → disjoint (first grammar p) operand-marks ≡ true → D (inside k p) f xs ys → Passes i f xs ys
  unfolding children
  no_constant {xs = xs} i h n a (d_inside {f = g} d) m s p =
      none-begins i xs m s p (begins-apart grammar tables grammar-fine operand-marks d n a) ∙ rw (h (children number-of-token i g)) refl

  -- LITERALS -----------------------------------------------------------------------------------------------------------

  abbrev integer : Forest → Forest
  integer f = node (# INTEGER_VALUE) (leaf (# INTEGER_LIT) f) nil

  plain_passes : (i : ℕ) (xs : List ℕ) → Passes i (integer nil) (# INTEGER_LIT ∷ xs) xs
  unfolding pass children leaves value
  plain_passes i xs m s p = by (number-of-token i) (omega arith)
    where
      by : (o : Option ℕ) {j : ℕ} → suc i ≡ j →
          continued (took i m s p o) (λ u. pass_on (suc i) xs u) ≡ given (literal_by i o) (λ c. pass_on j xs (behind s (completed p (with_sign m (value c)))))
      by none e = refl
      by (some n) e = ap (λ (j : ℕ). pass_on j xs (behind s (completed p (with_sign m (kept i (pos n)))))) e

  unit_passes : (i : ℕ) (xs : List ℕ) → Passes i (integer (leaf (# IDENT) nil)) (# INTEGER_LIT ∷ # IDENT ∷ xs) xs
  unfolding pass children
  unit_passes i xs m s p = by (number-of-token i)
    where
      by : (o : Option ℕ) → continued (took i m s p o) (λ u. pass_on (suc i) (# IDENT ∷ xs) u) ≡ none
      by none = refl
      by (some n) = refl

  integer-passes : {f : Forest} {xs ys : List ℕ} (i : ℕ) → D integer_value f xs ys → Passes i f xs ys
  unfolding shown
  integer-passes i (d_inside (d_seq {ys = ys} t (d_none m) q)) =
      let a = the_token t in
      rw (q, a.0, a.1) (plain_passes i ys)
  integer-passes i (d_inside (d_seq {zs = zs} t (d_some u) q)) =
      let a = the_token t in
      let b = the_token u in
      rw (q, a.0, b.0, a.1, b.1) (unit_passes i zs)

  named-passes : {f : Forest} {xs ys : List ℕ} (i : ℕ) → D named_value f xs ys → Passes i f xs ys
  unfolding pass children shown
  named-passes i (d_inside (d_seq t d q)) m s p =
      let a = the_token t in
      rw (q, a.0, a.1) refl

  -- SIGNS --------------------------------------------------------------------------------------------------------------

  -- by a sign that is a minus or not
  abbrev turned : (minus negative : Bool) → Bool
  turned false m = m
  turned true m = not m

  signs-join : (n m : Bool) (o : Outcome) → with_sign m (with_sign n o) ≡ with_sign (turned n m) o
  signs-join false m o = refl
  signs-join true true (exact z) = ap exact (neg_ℤ-neg_ℤ z)
  signs-join true true (beyond i) = refl
  signs-join true false o = refl

  given-signed : (n : Bool) (o : Option Constant) (k l : Constant → Option Outcome) → ((c : Constant) → k c ≡ l (signed n c)) → given o k ≡ given (signed_by n o) l
  given-signed n none k l h = refl
  given-signed n (some c) k l h = h c

  abbrev sign-over : ℕ → Forest → Forest
  sign-over k f = node (# PROPERTY_EXPRESSION) (leaf k f) nil

  sign-place : (i k : ℕ) (f : Forest) → suc i + count f ≡ i + count (sign-over k f)
  unfolding leaves
  sign-place i k f = omega (arith, count-node (# PROPERTY_EXPRESSION) (leaf k f))

  -- The sign k, of which the pass and the tree know whether it is a minus.
  sign-passes : (n : Bool) (k i : ℕ) (f : Forest) (xs ys : List ℕ) →
      ((m : Bool) (s p : Pending) → pass_on i (k ∷ xs) (expects m s p) ≡ pass_on (suc i) xs (expects (turned n m) s p)) →
      constant-in i (sign-over k f) ≡ signed_by n (constant-in (suc i) f) → Passes (suc i) f xs ys → Passes i (sign-over k f) (k ∷ xs) ys
  unfolding value
  sign-passes n k i f xs ys e c h m s p =
      let on : ℕ → Outcome → Option Outcome = λ j o. pass_on j ys (behind s (completed p o)) in
      let j = i + count (sign-over k f) in
      e m s p
      ∙ h (turned n m) s p
      ∙ given-signed n (constant-in (suc i) f) (λ d. on (suc i + count f) (with_sign (turned n m) (value d))) (λ d. on j (with_sign m (value d)))
      (λ d. ap (λ (l : ℕ). on l (with_sign (turned n m) (value d))) (sign-place i k f) ∙ ap (on j) (sym (signs-join n m (value d))))
      ∙ ap (λ (o : Option Constant). given o (λ d. on j (with_sign m (value d)))) (sym c)

  shorter : {m : ℕ} {ks : List ℕ} {f : Forest} {xs ys : List ℕ} → D (tok m ks) f xs ys → length ys < length xs
  shorter (d_tok h e) = omega arith

  -- OPERANDS -----------------------------------------------------------------------------------------------------------

  -- every shorter operand behind a sign
  abbrev Again : (i : ℕ) → (xs : List ℕ) → Type 0
  Again i xs = (g : Forest) (us vs : List ℕ) → length us < length xs → D operand g us vs → Passes (suc i) g us vs

  signed-passes : {f : Forest} {xs ys : List ℕ} (i : ℕ) → Again i xs → D signed_value f xs ys → Passes i f xs ys
  unfolding pass children shown
  signed-passes {xs = xs} i again (d_inside (d_seq {f = g} {g = b} {ys = us} {zs = zs} t (d_rule d) q)) =
      let h = again b us zs (shorter t) d in
      ⊎_elim
      (λ (a : Token (# PLUS) g xs us). rw (q, a.0, a.1) (sign-passes false (# PLUS) i b us zs (λ m s p. refl) refl h))
      (λ (a : Token (# MINUS) g xs us). rw (q, a.0, a.1) (sign-passes true (# MINUS) i b us zs (λ m s p. refl) refl h))
      (either-token t)

  operand-from : {f : Forest} {xs ys : List ℕ} (i : ℕ) → Again i xs → D operand f xs ys → Passes i f xs ys
  unfolding ones twos heads_of null first apart clear disjoint
  operand-from i again =
      integer-passes i
      or no_constant i (λ cs. refl) refl refl
      or no_constant i (λ cs. refl) refl refl
      or no_constant i (λ cs. refl) refl refl
      or (λ d. no_constant i (λ cs. refl) refl refl (opened d))
      or no_constant i (λ cs. refl) refl refl
      or no_constant i (λ cs. refl) refl refl
      or no_constant i (λ cs. refl) refl refl
      or (λ d. no_constant i (λ cs. refl) refl refl (opened d))
      or (λ d. no_constant i (λ cs. refl) refl refl (opened d))
      or named-passes i
      or (λ d. signed-passes i again (opened d))
      or nothing-wrong
      or nothing-fails

  -- by induction over the symbols
  operand-within : (n : ℕ) (f : Forest) (xs ys : List ℕ) (i : ℕ) → length xs < n → D operand f xs ys → Passes i f xs ys
  operand-within zero f xs ys i l d = absurd (not-suc-le-zero l)
  operand-within (suc n) f xs ys i l d = operand-from i (λ g us vs h e. operand-within n g us vs (suc i) (omega (arith, h, l)) e) d

  pub operand-passes : {f : Forest} {xs ys : List ℕ} (i : ℕ) → D operand f xs ys → Passes i f xs ys
  operand-passes {f} {xs} {ys} i d = operand-within (suc (length xs)) f xs ys i (omega arith) d
