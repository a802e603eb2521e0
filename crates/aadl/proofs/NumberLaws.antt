-- What a form relies on of a number's parts (`parts-hold`), case by case as 01 lists them: each run of digits is of its class, and the marks
-- between the runs are those that the cases test. So of what is told by token number, whatever the words (`told-parts_hold`), which is a number
-- or none. Assumes nothing.
use Prim.Native.Nat.{ℕ, ◌+◌, ◌-◌, ◌≤◌, zero-le}
use native.Mathlib.Nat.{not-suc-le-zero}
use native.Mathlib.Omega.{arith}
use mathlib.Core.Path.{◌≡◌, refl, ap, ◌∙◌}
use mathlib.Core.Bool.{Bool, true, false, ◌&&◌, ◌||◌, cond}
use mathlib.Core.List.{List}
use lib.ListN.{length, get_or, get_or-eq_default}
use lib.Dec.{eqb, ltb}
use borrow.Author.Tests.{eqb-true, lt-ltb, ltb-true, ltb-false}
use Rattle.predictive.proofs.Tests.{never, and_l, and_r}
use Rattle.aadl.specs.declared.Number.{Number}
use Rattle.aadl.specs.Bytes.{peek, run, run_end, is_digit, is_exponent, is_grouped, is_based}
use Rattle.aadl.specs.Tokens.{unbased, exponent_end, based, real, integer, number_of, kind_in, length_in, from_token}
use Rattle.aadl.specs.NumberParts.{no_number, fits_word, number_parts, AllOf, is_dotted, is_inner, PartsHold}
use Rattle.aadl.proofs.Bools.{cond_has}
use Rattle.aadl.proofs.RunLaws.{run-byte, run-end_byte, run-end_from}
use Rattle.aadl.proofs.TokenBounds.{exponent_end-upto, hash-upto, number-cases, number-upto}

-- RUNS IN A ROW --------------------------------------------------------------------------------------------------------

module _ (p : ℕ → Bool) (bs : List ℕ) where
  all_none : (i : ℕ) → AllOf p bs i i
  all_none i k h l = absurd (omega (arith, h, l))

  all-on : (i e j : ℕ) → AllOf p bs i e → AllOf p bs e j → AllOf p bs i j
  all-on i e j f g k h l = by_place (ltb k e) refl
    where
      by_place : (t : Bool) → ltb k e ≡ t → p (peek bs k) ≡ true
      by_place true q = f k h (ltb-true k e q)
      by_place false q = g k (ltb-false k e q) l

  all_one : (i : ℕ) → p (peek bs i) ≡ true → AllOf p bs i (i + 1)
  all_one i e k h l = ap (λ (n : ℕ). p (peek bs n)) (omega (arith, h, l)) ∙ e

all_more : (p q : ℕ → Bool) → ((b : ℕ) → p b ≡ true → q b ≡ true) → (bs : List ℕ) (i e : ℕ) → AllOf p bs i e → AllOf q bs i e
all_more p q more bs i e f k h l = more (peek bs k) (f k h l)

digit_or : (t : ℕ → Bool) (b : ℕ) → is_digit b ≡ true → (is_digit b || t b) ≡ true
digit_or t b e = rw e refl

digits-first : (bs : List ℕ) → AllOf is_digit bs 0 (run is_digit bs)
digits-first bs k h l = run-byte is_digit bs k l

-- THE CASES ------------------------------------------------------------------------------------------------------------

module _ (bs : List ℕ) where
  -- a C-style literal, and no number
  digitless_parts : (k n : ℕ) → PartsHold bs (unbased k n 0 false)
  digitless_parts k n =
      record {
        base_order = zero-le;
        parts_order = zero-le;
        inner_order = zero-le;
        inside = zero-le;
        base_digits = all_none is_digit bs 0;
        inner_digits = all_none (is_inner (unbased k n 0 false)) bs 0;
        hash = λ e. never e;
        closing = refl;
        with_exponent = λ e. never e;
        no_exponent = λ e h. absurd (not-suc-le-zero h);
      }

  -- where no exponent stands, it ends where it would begin
  exponent-none : (i : ℕ) → is_exponent (peek bs i) ≡ false → exponent_end bs i ≡ i
  unfolding exponent_end
  exponent-none i e = rw e refl

  real-parts : (e : ℕ) → AllOf is_dotted bs 0 e → PartsHold bs (real bs e)
  real-parts e f =
      record {
        base_order = zero-le;
        parts_order = zero-le;
        inner_order = zero-le;
        inside = (exponent_end-upto bs e).from;
        base_digits = all_none is_digit bs 0;
        inner_digits = f;
        hash = λ e. never e;
        closing = refl;
        with_exponent = λ x. (x, refl);
        no_exponent = λ x h. exponent-none e x;
      }

  integer-parts : (e : ℕ) → AllOf is_grouped bs 0 e → PartsHold bs (integer e)
  integer-parts e f =
      record {
        base_order = zero-le;
        parts_order = zero-le;
        inner_order = zero-le;
        inside = omega arith;
        base_digits = all_none is_digit bs 0;
        inner_digits = f;
        hash = λ e. never e;
        closing = refl;
        with_exponent = λ e. never e;
        no_exponent = λ e h. refl;
      }

  -- d digits, and `#` behind them
  based-parts : (d : ℕ) → AllOf is_digit bs 0 d → peek bs d ≡ 35 → PartsHold bs (based bs (d + 1))
  unfolding based
  based-parts d f h =
      let e = run_end is_based bs (d + 1) in
      let g = cond (eqb (peek bs e) 35) (e + 1) e in
      let base-end : d + 1 - 1 ≡ d = omega arith in
      let based : ltb (d + 1 - 1) (d + 1) ≡ true = lt-ltb (d + 1 - 1) (d + 1) (omega arith) in
      record {
        base_order = zero-le;
        parts_order = omega arith;
        inner_order = run-end_from is_based bs (d + 1);
        inside = omega (arith, (hash-upto bs e).from, (exponent_end-upto bs g).from);
        base_digits = λ k i l. f k i (omega (arith, l));
        inner_digits = λ k i l. rw based (run-end_byte is_based bs (d + 1) k i l);
        hash = λ t. (ap (peek bs) base-end ∙ h, omega arith);
        closing = rw based refl;
        with_exponent = λ x. (x, refl);
        no_exponent = λ x i. exponent-none g x;
      }

-- The parts of the number that some bytes begin with.
pub parts-hold : (bs : List ℕ) → PartsHold bs (number_of bs)
unfolding number_of
parts-hold bs =
    let d = run is_digit bs in
    let digits = digits-first bs in
    let dotted = all_more is_digit is_dotted (digit_or (λ (b : ℕ). eqb b 46)) bs in
    let grouped = all_more is_digit is_grouped (digit_or (λ (b : ℕ). eqb b 95)) bs 0 d digits in
    number-cases (λ (n : Number). PartsHold bs n) bs d (λ c. digitless_parts bs _ _) (λ h. based-parts bs d digits (eqb-true (peek bs d) 35 h))
    (λ o.
    real-parts bs _
    (all-on is_dotted bs 0 d _ (dotted 0 d digits)
    (all-on is_dotted bs d (d + 1) _ (all_one is_dotted bs d (ap is_dotted (eqb-true (peek bs d) 46 o))) (dotted (d + 1) _ (run-end_byte is_digit bs (d + 1))))))
    (real-parts bs d (dotted 0 d digits)) (integer-parts bs _ (all-on is_grouped bs 0 d _ grouped (run-end_byte is_grouped bs d)))

-- BY TOKEN NUMBER ------------------------------------------------------------------------------------------------------

module _ (text words : List ℕ) (i : ℕ) where
  abbrev bs : List ℕ
  bs = from_token text words i

  abbrev digit : Bool
  digit = is_digit (peek bs 0)

  abbrev fits : Bool
  fits = fits_word (number_of bs) (get_or words i 0)

  pub told-parts_hold : PartsHold bs (number_parts text words i)
  unfolding number_parts
  told-parts_hold = cond_has (λ (n : Number). PartsHold bs n) (digit && fits) _ _ (λ e. parts-hold bs) (λ e. digitless_parts bs 0 0)

  -- no digit stands where the token starts
  pub no_digit_there : digit ≡ false → number_parts text words i ≡ no_number
  unfolding number_parts
  no_digit_there e = rw e refl

  -- one does: the token is that number, or has another kind or length
  pub digit-there : digit ≡ true → number_parts text words i ≡ cond fits (number_of bs) no_number
  unfolding number_parts
  digit-there e = rw e refl

  -- there is no such token
  pub no_word_there : length words ≤ i → number_parts text words i ≡ no_number
  unfolding number_parts
  no_word_there h =
      let n = number_of bs in
      let kind = eqb n.kind (kind_in (get_or words i 0)) in
      let len = eqb n.len (length_in (get_or words i 0)) in
      let none : length_in (get_or words i 0) ≡ 0 = ap length_in (get_or-eq_default words 0 h) in
      cond_has (λ (m : Number). m ≡ no_number) (digit && fits) _ _
      (λ e. absurd (omega (arith, (number-upto bs (and_l digit fits e)).from, eqb-true n.len (length_in (get_or words i 0)) (and_r kind len (and_r digit fits e)), none))) (λ e. refl)
