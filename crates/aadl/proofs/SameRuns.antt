-- Two texts u ++ x and u ++ y that part behind u, where y is meek: it goes on with no token that x would not go on with. A test of one
-- byte or two, a run and an exponent that end within u are the same in both. By the place, before u's end or at it, and by induction over
-- u. Assumes nothing.
use Prim.Native.Nat.{ℕ, suc, ◌+◌, ◌≤◌, ◌<◌}
use Prim.Native.String.{String}
use native.Mathlib.Nat.{le_of_suc-le-suc, eq-or-lt_of_le}
use native.Mathlib.Omega.{arith}
use mathlib.Core.Path.{◌≡◌, refl, sym, ap, ap₂, ◌∙◌}
use mathlib.Core.Logic.{⊎_elim}
use mathlib.Core.Bool.{Bool, true, false, ◌||◌}
use mathlib.Core.List.{List, [], ◌∷◌, ◌++◌}
use lib.ListN.{length, drop, length-drop, get_or-append}
use lib.Seq.{drop-append-le, get_or-append-add}
use lib.Dec.{eqb, leb}
use borrow.Author.Tests.{leb-false}
use Rattle.predictive.specs.Grammar.{has}
use Rattle.predictive.proofs.Tests.{or_l, or_r, or_neither}
use Rattle.aadl.specs.Words.{bytes}
use Rattle.aadl.specs.Bytes.{peek, run, run_end, is_digit, is_ident_continue, is_exponent, is_sign, is_grouped, is_based}
use Rattle.aadl.specs.Tokens.{marks, exponent_end, radix_digit}
use Rattle.aadl.proofs.Bools.{false_unless, cond_first, cond_same}
use Rattle.aadl.proofs.ByteClasses.{other_byte}
use Rattle.aadl.proofs.TokenBounds.{run-end_upto, signed-end, signed-upto, exponent_end-upto}

-- MEEK -----------------------------------------------------------------------------------------------------------------

-- A byte of one of the marks behind its first.
unfoldable pub inner : List String → ℕ → Bool
inner [] b = false
inner (m ∷ ms) b = has (drop 1 (bytes m)) b || inner ms b

-- A byte that goes on with some token but is not of a run: it stands in a number or a mark behind the first byte, or after a string's
-- quote, or in a character of several bytes.
abbrev pub joins : ℕ → Bool
joins b = has (bytes "#.+-eExXoObB\"") b || (inner marks b || leb 128 b)

-- A run that ends before x ends before y too, and y's first byte is none of those.
pub record Meek (x y : List ℕ) : Type 0 where
  pub digit : run is_digit x ≡ 0 → run is_digit y ≡ 0
  pub word : run is_ident_continue x ≡ 0 → run is_ident_continue y ≡ 0
  pub grouped : run is_grouped x ≡ 0 → run is_grouped y ≡ 0
  pub based : run is_based x ≡ 0 → run is_based y ≡ 0
  pub radix : (m : ℕ) → radix_digit m (peek x 0) ≡ false → radix_digit m (peek y 0) ≡ false
  pub apart : joins (peek y 0) ≡ false

module _ {x y : List ℕ} (m : Meek x y) where
  pub meek_none : (c : ℕ) → joins c ≡ true → eqb (peek y 0) c ≡ false
  meek_none c e = other_byte joins (peek y 0) c m.apart e

  pub meek_exponent : is_exponent (peek y 0) ≡ false
  meek_exponent = or_neither (eqb (peek y 0) 101) (eqb (peek y 0) 69) (meek_none 101 refl) (meek_none 69 refl)

  pub meek_sign : is_sign (peek y 0) ≡ false
  meek_sign = or_neither (eqb (peek y 0) 43) (eqb (peek y 0) 45) (meek_none 43 refl) (meek_none 45 refl)

  pub meek_marker : (b : ℕ) → radix_digit (peek y 0) b ≡ false
  meek_marker b = rw (meek_none 120 refl, meek_none 88 refl, meek_none 111 refl, meek_none 79 refl, meek_none 98 refl, meek_none 66 refl) refl

  pub meek_rest : (inner marks (peek y 0) || leb 128 (peek y 0)) ≡ false
  meek_rest = or_r (has (bytes "#.+-eExXoObB\"") (peek y 0)) _ m.apart

  pub meek_mark : inner marks (peek y 0) ≡ false
  meek_mark = or_l (inner marks (peek y 0)) _ meek_rest

  pub meek_low : peek y 0 < 128
  meek_low = leb-false 128 (peek y 0) (or_r (inner marks (peek y 0)) _ meek_rest)

-- BYTES ----------------------------------------------------------------------------------------------------------------

pub peek-seam : (u z : List ℕ) (i : ℕ) → i ≡ length u → peek (u ++ z) i ≡ peek z 0
peek-seam u z i e =
    let f : i ≡ length u + 0 = omega arith in
    ap (λ (j : ℕ). peek (u ++ z) j) f ∙ get_or-append-add u z 0 0

module _ (u x y : List ℕ) where
  pub peek-before : (i : ℕ) → i < length u → peek (u ++ y) i ≡ peek (u ++ x) i
  peek-before i h = get_or-append u y 0 i h ∙ sym (get_or-append u x 0 i h)

  -- A test of two bytes in a row is the same: y's first byte fails as the first of the two, x's does not pass as the first in u ++ x, and as
  -- the second it makes no difference which of them it is.
  pub pair_same : (q : ℕ → ℕ → Bool) (i : ℕ) → i ≤ length u → ((b : ℕ) → q (peek y 0) b ≡ false) →
      (q (peek (u ++ x) i) (peek (u ++ x) (i + 1)) ≡ true → i < length u) →
      (i + 1 ≡ length u → q (peek (u ++ x) i) (peek y 0) ≡ q (peek (u ++ x) i) (peek x 0)) →
      q (peek (u ++ y) i) (peek (u ++ y) (i + 1)) ≡ q (peek (u ++ x) i) (peek (u ++ x) (i + 1))
  pair_same q i l none short second = ⊎_elim at (λ k. ⊎_elim last before (eq-or-lt_of_le k)) (eq-or-lt_of_le l)
    where
      at : i ≡ length u → q (peek (u ++ y) i) (peek (u ++ y) (i + 1)) ≡ q (peek (u ++ x) i) (peek (u ++ x) (i + 1))
      at k =
          ap (λ (b : ℕ). q b (peek (u ++ y) (i + 1))) (peek-seam u y i k) ∙ none (peek (u ++ y) (i + 1)) ∙
          sym (false_unless (q (peek (u ++ x) i) (peek (u ++ x) (i + 1))) (λ t. omega (arith, short t)))

      last : suc i ≡ length u → q (peek (u ++ y) i) (peek (u ++ y) (i + 1)) ≡ q (peek (u ++ x) i) (peek (u ++ x) (i + 1))
      last k =
          let n : i + 1 ≡ length u = omega arith in
          ap₂ q (peek-before i (omega arith)) (peek-seam u y (i + 1) n) ∙ second n ∙ ap (q (peek (u ++ x) i)) (sym (peek-seam u x (i + 1) n))

      before : suc i < length u → q (peek (u ++ y) i) (peek (u ++ y) (i + 1)) ≡ q (peek (u ++ x) i) (peek (u ++ x) (i + 1))
      before k = ap₂ q (peek-before i (omega arith)) (peek-before (i + 1) (omega arith))

  -- a test of one byte that y's first byte fails
  pub byte-same : (q : ℕ → Bool) (i : ℕ) → i ≤ length u → q (peek y 0) ≡ false → (q (peek (u ++ x) i) ≡ true → i < length u) →
      q (peek (u ++ y) i) ≡ q (peek (u ++ x) i)
  byte-same q i l none short = pair_same (λ (b c : ℕ). q b) i l (λ b. none) short (λ e. refl)

-- RUNS -----------------------------------------------------------------------------------------------------------------

pub run-same : (p : ℕ → Bool) (u x y : List ℕ) → run p (u ++ x) ≤ length u → (run p x ≡ 0 → run p y ≡ 0) → run p (u ++ y) ≡ run p (u ++ x)
unfolding run
run-same p [] x y h e =
    let z : run p x ≡ 0 = omega arith in
    e z ∙ sym z
run-same p (b ∷ u) x y h e =
    cond_same (λ (n : ℕ). n ≤ suc (length u)) (p b) (p b) refl _ _ _ _ (λ f k. ap suc (run-same p u x y (le_of_suc-le-suc k) e)) (λ f k. refl) h

pub run-end_same : (p : ℕ → Bool) (u x y : List ℕ) (i : ℕ) → run_end p (u ++ x) i ≤ length u → (run p x ≡ 0 → run p y ≡ 0) →
    run_end p (u ++ y) i ≡ run_end p (u ++ x) i
unfolding run_end
run-end_same p u x y i h e =
    let l : i ≤ length u = omega arith in
    let k : i + run p (drop i u ++ x) ≤ length u = rw (drop-append-le i u x l) at h in
    rw (drop-append-le i u x l, drop-append-le i u y l)
    (ap (λ (n : ℕ). i + n) (run-same p (drop i u) x y (omega (arith, length-drop i u)) e))

-- EXPONENTS ------------------------------------------------------------------------------------------------------------

pub exponent-past : (bs : List ℕ) (i : ℕ) → is_exponent (peek bs i) ≡ true → i < exponent_end bs i
unfolding exponent_end
exponent-past bs i e = rw e (omega (arith, (signed-upto bs i).from))

module _ (u x y : List ℕ) (m : Meek x y) (i : ℕ) where
  pub exponent-test : exponent_end (u ++ x) i ≤ length u → is_exponent (peek (u ++ y) i) ≡ is_exponent (peek (u ++ x) i)
  exponent-test h =
      byte-same u x y is_exponent i (omega (arith, (exponent_end-upto (u ++ x) i).from)) (meek_exponent m) (λ t. omega (arith, exponent-past (u ++ x) i t))

  signed_same : signed-end (u ++ x) i ≤ length u → signed-end (u ++ y) i ≡ signed-end (u ++ x) i
  signed_same h =
      let Q : ℕ → Type 0 = λ (n : ℕ). n ≤ length u in
      let signs = byte-same u x y is_sign (i + 1) (omega (arith, (signed-upto (u ++ x) i).from)) (meek_sign m)
      (λ t. omega (arith, (run-end_upto is_digit (u ++ x) (i + 2)).from, cond_first Q (is_sign (peek (u ++ x) (i + 1))) _ _ h t)) in
      cond_same Q (is_sign (peek (u ++ x) (i + 1))) (is_sign (peek (u ++ y) (i + 1))) signs _ _ _ _
      (λ f l. run-end_same is_digit u x y (i + 2) l m.digit) (λ f l. run-end_same is_digit u x y (i + 1) l m.digit) h

  pub exponent_same : exponent_end (u ++ x) i ≤ length u → exponent_end (u ++ y) i ≡ exponent_end (u ++ x) i
  unfolding exponent_end
  exponent_same h =
      cond_same (λ (n : ℕ). n ≤ length u) (is_exponent (peek (u ++ x) i)) (is_exponent (peek (u ++ y) i)) (exponent-test h) _ _ _ _
      (λ e k. signed_same k) (λ e k. refl) h
