-- A mark, and the ERROR token of any other character, that ends within a ∷ u is the same before x and before y, where y is meek. Marks and
-- the rows of table 3-7 are lists of tests for a byte each, and y's first byte passes none but a list's first. By induction over the list
-- and over u. Assumes nothing.
use Prim.Native.Nat.{ℕ, suc, ◌≤◌, ◌<◌, max}
use Prim.Native.String.{String}
use native.Mathlib.Nat.{le_of_suc-le-suc, not-suc-le-zero}
use native.Mathlib.Omega.{arith}
use mathlib.Core.Path.{◌≡◌, refl, sym, ap, ◌∙◌}
use mathlib.Core.Bool.{Bool, true, false, ◌&&◌, cond}
use mathlib.Core.List.{List, [], ◌∷◌, ◌++◌}
use lib.ListN.{length, drop}
use lib.Dec.{eqb, leb, ltb}
use borrow.Author.Tests.{eqb-true, ltb-true, ltb-false, leb-true, lt-leb}
use Rattle.predictive.specs.Grammar.{has, stand}
use Rattle.predictive.proofs.Tests.{and_l, and_r, and_both, and_false_l, or_l, or_r}
use Rattle.aadl.specs.declared.Token.{Token}
use Rattle.aadl.specs.Kinds.{ERROR, #◌}
use Rattle.aadl.specs.Words.{bytes}
use Rattle.aadl.specs.Utf8.{Range, ◌to◌, table_3_7, fits, fitting, sequence}
use Rattle.aadl.specs.Bytes.{peek, within}
use Rattle.aadl.specs.Tokens.{token, marks, longest_mark, mark_of}
use Rattle.aadl.proofs.Bools.{false_unless, cond_first, cond_same}
use Rattle.aadl.proofs.Lists.{every, Each}
use Rattle.aadl.proofs.SameRuns.{inner, Meek, meek_mark, meek_low}

-- A LIST OF TESTS ------------------------------------------------------------------------------------------------------

-- one test more, that is the same
and_same : (t s s' : Bool) {n l : ℕ} → ((s ≡ true → n ≤ l) → s' ≡ s) → ((t && s) ≡ true → suc n ≤ suc l) → (t && s') ≡ (t && s)
and_same true s s' f h = f (λ e. le_of_suc-le-suc (h e))
and_same false s s' f h = refl

-- f passes where the bytes pass the tests of a list one by one; p is the test that an element makes.
module _ {A : Type 0} (p : A → ℕ → Bool) (f : List A → List ℕ → Bool) (done : (bs : List ℕ) → f [] bs ≡ true)
    (none : (t : A) (ts : List A) → f (t ∷ ts) [] ≡ false) (step : (t : A) (ts : List A) (b : ℕ) (bs : List ℕ) → f (t ∷ ts) (b ∷ bs) ≡ (p t b && f ts bs)) where
  tests_fail : (t : A) (ts : List A) (y : List ℕ) → p t (peek y 0) ≡ false → f (t ∷ ts) y ≡ false
  tests_fail t ts [] e = none t ts
  tests_fail t ts (b ∷ y) e = step t ts b y ∙ and_false_l (p t b) (f ts y) e

  tests_more : (t : A) (ts : List A) (b : ℕ) (u x y : List ℕ) → ((f ts (u ++ x) ≡ true → length ts ≤ length u) → f ts (u ++ y) ≡ f ts (u ++ x)) →
      (f (t ∷ ts) (b ∷ (u ++ x)) ≡ true → suc (length ts) ≤ suc (length u)) → f (t ∷ ts) (b ∷ (u ++ y)) ≡ f (t ∷ ts) (b ∷ (u ++ x))
  tests_more t ts b u x y g h =
      step t ts b (u ++ y) ∙
      and_same (p t b) (f ts (u ++ x)) (f ts (u ++ y)) {n = length ts} {l = length u} g (λ e. h (step t ts b (u ++ x) ∙ e)) ∙
      sym (step t ts b (u ++ x))

  tests_same : (ts : List A) (u x y : List ℕ) → Each (λ (t : A). p t (peek y 0) ≡ false) ts → (f ts (u ++ x) ≡ true → length ts ≤ length u) →
      f ts (u ++ y) ≡ f ts (u ++ x)
  tests_same [] u x y e h = done (u ++ y) ∙ sym (done (u ++ x))
  tests_same (t ∷ ts) [] x y e h = tests_fail t ts y e.0 ∙ sym (false_unless (f (t ∷ ts) x) (λ e. not-suc-le-zero (h e)))
  tests_same (t ∷ ts) (b ∷ u) x y e h = tests_more t ts b u x y (λ g. tests_same ts u x y e.1 g) h

  -- the first test's byte is before y
  tests_same_first : (ts : List A) (b : ℕ) (u x y : List ℕ) → Each (λ (t : A). p t (peek y 0) ≡ false) (drop 1 ts) →
      (f ts (b ∷ (u ++ x)) ≡ true → length ts ≤ suc (length u)) → f ts (b ∷ (u ++ y)) ≡ f ts (b ∷ (u ++ x))
  tests_same_first [] b u x y e h = done (b ∷ (u ++ y)) ∙ sym (done (b ∷ (u ++ x)))
  tests_same_first (t ∷ ts) b u x y e h = tests_more t ts b u x y (λ g. tests_same ts u x y e g) h

-- MARKS ----------------------------------------------------------------------------------------------------------------

has-none : (ks : List ℕ) (b : ℕ) → has ks b ≡ false → Each (λ (k : ℕ). eqb b k ≡ false) ks
has-none [] b e = tt
has-none (k ∷ ks) b e = (or_l (eqb b k) (has ks b) e, has-none ks b (or_r (eqb b k) (has ks b) e))

longest-same : (k : ℕ) (ms : List String) (a : ℕ) (u x y : List ℕ) → inner ms (peek y 0) ≡ false →
    (longest_mark k ms (a ∷ (u ++ x))).len ≤ suc (length u) → longest_mark k ms (a ∷ (u ++ y)) ≡ longest_mark k ms (a ∷ (u ++ x))
unfolding inner
longest-same k [] a u x y e h = refl
longest-same k (m ∷ ms) a u x y e h =
    rw (
      longest-same (suc k) ms a u x y (or_r (has (drop 1 ks) (peek y 0)) (inner ms (peek y 0)) e) (rest (stand ks bs && shorter) refl h),
      tests_same_first (λ (i b : ℕ). eqb b i) stand (λ l. refl) (λ i is. refl) (λ i is b l. refl) ks a u x y
          (has-none (drop 1 ks) (peek y 0) (or_l (has (drop 1 ks) (peek y 0)) (inner ms (peek y 0)) e)) (λ s. fitted shorter refl s),
    ) refl
  where
    ks : List ℕ
    ks = bytes m

    bs : List ℕ
    bs = a ∷ (u ++ x)

    t : Token
    t = longest_mark (suc k) ms bs

    shorter : Bool
    shorter = ltb t.len (length ks)

    rest : (c : Bool) → (stand ks bs && shorter) ≡ c → (cond c (token k (length ks)) t).len ≤ suc (length u) → t.len ≤ suc (length u)
    rest true f l = omega (arith, ltb-true t.len (length ks) (and_r (stand ks bs) shorter f))
    rest false f l = l

    fitted : (c : Bool) → shorter ≡ c → stand ks bs ≡ true → length ks ≤ suc (length u)
    fitted true f s = cond_first (λ (r : Token). r.len ≤ suc (length u)) (stand ks bs && shorter) (token k (length ks)) t h (and_both (stand ks bs) shorter s f)
    fitted false f s = omega (arith, ltb-false t.len (length ks) f, rest (stand ks bs && shorter) refl h)

-- ANY OTHER CHARACTER --------------------------------------------------------------------------------------------------

abbrev in_range : Range → ℕ → Bool
in_range (low to high) b = within low high b

abbrev no_ascii : Range → Bool
no_ascii (low to high) = leb 128 low

fits-step : (r : Range) (rs : List Range) (b : ℕ) (bs : List ℕ) → fits (r ∷ rs) (b ∷ bs) ≡ (in_range r b && fits rs bs)
fits-step (low to high) rs b bs = refl

fits-ends : (r : Range) (rs : List Range) → fits (r ∷ rs) [] ≡ false
fits-ends (low to high) rs = refl

ascii_none : (rs : List Range) (b : ℕ) → every no_ascii rs ≡ true → b < 128 → Each (λ (r : Range). in_range r b ≡ false) rs
ascii_none [] b e h = tt
ascii_none (low to high ∷ rs) b e h = (
  and_false_l (leb low b) (leb b high) (lt-leb low b (omega (arith, leb-true 128 low (and_l (leb 128 low) (every no_ascii rs) e)))),
  ascii_none rs b (and_r (leb 128 low) (every no_ascii rs) e) h,
)

-- no range behind a row's first has an ASCII byte
abbrev no_ascii_inside : List Range → Bool
no_ascii_inside row = every no_ascii (drop 1 row)

fitting-same : (rows : List (List Range)) (a : ℕ) (u x y : List ℕ) → every no_ascii_inside rows ≡ true → peek y 0 < 128 →
    fitting rows (a ∷ (u ++ x)) ≤ suc (length u) → fitting rows (a ∷ (u ++ y)) ≡ fitting rows (a ∷ (u ++ x))
fitting-same [] a u x y e l h = refl
fitting-same (row ∷ rows) a u x y e l h =
    let Q : ℕ → Type 0 = λ (n : ℕ). n ≤ suc (length u) in
    let same = tests_same_first in_range fits (λ bs. refl) fits-ends fits-step row a u x y
    (ascii_none (drop 1 row) (peek y 0) (and_l (no_ascii_inside row) (every no_ascii_inside rows) e) l)
    (cond_first Q (fits row (a ∷ (u ++ x))) (length row) (fitting rows (a ∷ (u ++ x))) h) in
    cond_same Q (fits row (a ∷ (u ++ x))) (fits row (a ∷ (u ++ y))) same _ _ _ _
    (λ f k. refl) (λ f k. fitting-same rows a u x y (and_r (no_ascii_inside row) (every no_ascii_inside rows) e) l k) h

sequence-same : (a : ℕ) (u x y : List ℕ) → peek y 0 < 128 → sequence (a ∷ (u ++ x)) ≤ suc (length u) → sequence (a ∷ (u ++ y)) ≡ sequence (a ∷ (u ++ x))
unfolding sequence table_3_7
sequence-same a u x y l h = fitting-same table_3_7 a u x y refl l h

-- EITHER ---------------------------------------------------------------------------------------------------------------

pub mark-same : (a : ℕ) (u x y : List ℕ) → Meek x y → (mark_of (a ∷ (u ++ x))).len ≤ suc (length u) → mark_of (a ∷ (u ++ y)) ≡ mark_of (a ∷ (u ++ x))
unfolding mark_of
mark-same a u x y m h =
    cond_same (λ (r : Token). r.len ≤ suc (length u)) (eqb t.len 0) (eqb (longest_mark 5 marks (a ∷ (u ++ y))).len 0)
    (ap (λ (r : Token). eqb r.len 0) same) _ _ _ _
    (λ e k. ap (λ (n : ℕ). token (# ERROR) (max 1 n)) (sequence-same a u x y (meek_low m) (omega arith))) (λ e k. same) h
  where
    t : Token
    t = longest_mark 5 marks (a ∷ (u ++ x))

    short : (c : Bool) → eqb t.len 0 ≡ c → (cond c (token (# ERROR) (max 1 (sequence (a ∷ (u ++ x))))) t).len ≤ suc (length u) → t.len ≤ suc (length u)
    short true e k = omega (arith, eqb-true t.len 0 e)
    short false e k = k

    same : longest_mark 5 marks (a ∷ (u ++ y)) ≡ t
    same = longest-same 5 marks a u x y (meek_mark m) (short (eqb t.len 0) refl h)
