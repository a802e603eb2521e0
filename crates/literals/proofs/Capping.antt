-- Digits one by one: behind the cap a number stays, since no digit makes one smaller. By induction over the digits. Assumes nothing.
use Prim.Native.Nat.{ℕ, zero, suc, ◌+◌, ◌-◌, ◌*◌, ◌≤◌, ◌<◌, min}
use native.Mathlib.Omega.{arith}
use native.Mathlib.Nat.{le-mul_of_pos_right}
use mathlib.Core.Path.{◌≡◌, refl, sym, ap, ◌∙◌}
use mathlib.Core.Bool.{Bool, true, false, ◌&&◌, cond}
use mathlib.Core.List.{List, [], ◌∷◌}
use mathlib.Core.Option.{none, some}
use lib.ListN.{length, get_or, drop, drop_of_length-le}
use lib.Seq.{drop-cons}
use native.Mathlib.Numerals.{add-one}
use Rattle.std.specs.Char.{digit_value}
use Rattle.std.proofs.lemmas.Bool.Decides.{nat_tests}
use lib.Dec.{leb, ltb, eqb}
use borrow.Author.Tests.{leb-true, leb-false, lt-ltb, le-ltb, ltb-true, ltb-false, ne_eqb}
use Rattle.aadl.specs.Bytes.{peek, is_digit}
use Rattle.aadl.specs.NumberParts.{AllOf}
use Rattle.aadl.specs.Values.{digit_of, digits, number_by, all_below, in_base, part}
use Rattle.aadl.proofs.Bools.{bounds}
use Rattle.int64.specs.Integers.{most}
use Rattle.literals.proofs.Parts.{from_more, from_end}
use Rattle.std.specs.Prelude.{Option as Told, Some, None, unwrap_or}
use Rattle.literals.specs.Capped.{capped}

-- THE CAP --------------------------------------------------------------------------------------------------------------

-- No digit makes a number smaller.
grows : (base n : ℕ) (ds : List ℕ) → 1 ≤ base → n ≤ number_by base n ds
unfolding number_by
grows base n [] h = omega arith
grows base n (d ∷ ds) h = omega (arith, le-mul_of_pos_right {m = base} n h, grows base (n * base + d) ds h)

-- So a number that is cut at the cap comes to the same, cut again.
cut : (base n : ℕ) (ds : List ℕ) → 1 ≤ base → min (number_by base (min n most) ds) most ≡ min (number_by base n ds) most
cut base n ds h = by (leb n most) refl
  where
    by : (t : Bool) → leb n most ≡ t → min (number_by base (min n most) ds) most ≡ min (number_by base n ds) most
    by true e =
        let q : min n most ≡ n = omega (arith, leb-true n most e) in
        ap (λ (k : ℕ). min (number_by base k ds) most) q
    by false e = omega (arith, leb-false n most e, grows base n ds h, grows base (min n most) ds h)

-- DIGIT BY DIGIT -------------------------------------------------------------------------------------------------------

-- What the digits that remain make of the number so far.
abbrev pub goes_on : (base : ℕ) → Told ℕ → List ℕ → Told ℕ
goes_on base o [] = o
goes_on base o (d ∷ ds) = cond (ltb d base) (goes_on base (Some (min (unwrap_or o 0 * base + d) most)) ds) None

from_some : (base n : ℕ) (ds : List ℕ) → 1 ≤ base → n ≤ most → goes_on base (Some n) ds ≡ cond (all_below base ds) (Some (min (number_by base n ds) most)) None
unfolding number_by all_below
from_some base n [] h l = let q : n ≡ min n most = omega (arith, l) in ap Some q
from_some base n (d ∷ ds) h l = by (ltb d base) (from_some base (min (n * base + d) most) ds h (omega arith))
  where
    m : ℕ
    m = n * base + d

    by : (t : Bool) → goes_on base (Some (min m most)) ds ≡ cond (all_below base ds) (Some (min (number_by base (min m most) ds) most)) None →
        cond t (goes_on base (Some (min m most)) ds) None ≡ cond (t && all_below base ds) (Some (min (number_by base m ds) most)) None
    by true e = e ∙ ap (λ (k : ℕ). cond (all_below base ds) (Some k) None) (cut base m ds h)
    by false e = refl

pub from_none : (base : ℕ) (ds : List ℕ) → 1 ≤ base → goes_on base None ds ≡ capped (in_base base ds)
from_none base [] h = refl
from_none base (d ∷ ds) h =
    from_first ∙ from_some base 0 (d ∷ ds) h (omega arith) ∙ kept (all_below base (d ∷ ds))
  where
    from_first : goes_on base None (d ∷ ds) ≡ goes_on base (Some 0) (d ∷ ds)
    from_first = refl

    kept : (t : Bool) → cond t (Some (min (number_by base 0 (d ∷ ds)) most)) None ≡ capped (cond (ltb 0 (length (d ∷ ds)) && t) (some (number_by base 0 (d ∷ ds))) none)
    kept true = rw (lt-ltb 0 (length (d ∷ ds)) (omega arith)) refl
    kept false = rw (lt-ltb 0 (length (d ∷ ds)) (omega arith)) refl

-- A digit below a base up to 16 is the one that the library reads.
digit-value : (b : ℕ) → digit_of b ≡ min (digit_value b) 16
digit-value b = grind (arith, nat_tests)

module _ (base : ℕ) (part : List ℕ) (i : ℕ) (o : Told ℕ) where
  abbrev remain : ℕ → List ℕ
  remain k = digits (drop k part)

  pub ended : length part ≤ i → goes_on base o (remain i) ≡ o
  unfolding digits
  ended h = ap (λ (bs : List ℕ). goes_on base o (digits bs)) (drop_of_length-le part h)

  module _ (h : i < length part) where
    here : drop i part ≡ get_or part i 0 ∷ drop (i + 1) part
    here = drop-cons part i 0 h ∙ ap (λ (k : ℕ). get_or part i 0 ∷ drop k part) (sym (add-one i))

    pub passed : eqb (get_or part i 0) 95 ≡ true → goes_on base o (remain i) ≡ goes_on base o (remain (i + 1))
    unfolding digits
    passed e = ap (λ (bs : List ℕ). goes_on base o (digits bs)) here ∙ rw e refl

    at_digit : eqb (get_or part i 0) 95 ≡ false → goes_on base o (remain i) ≡ goes_on base o (digit_of (get_or part i 0) ∷ remain (i + 1))
    unfolding digits
    at_digit e = ap (λ (bs : List ℕ). goes_on base o (digits bs)) here ∙ rw e refl

    pub longer : (d n : ℕ) → eqb (get_or part i 0) 95 ≡ false → base ≤ 16 → d < base → d ≡ digit_value (get_or part i 0) → n ≡ min (unwrap_or o 0 * base + d) most →
        goes_on base o (remain i) ≡ goes_on base (Some n) (remain (i + 1))
    longer d n e l h q r =
        let same : digit_of (get_or part i 0) ≡ d = omega (arith, digit-value (get_or part i 0)) in
        at_digit e ∙ rw (same, lt-ltb d base h) (ap (λ (k : ℕ). goes_on base (Some k) (remain (i + 1))) (sym r))

    pub broken : eqb (get_or part i 0) 95 ≡ false → base ≤ 16 → base ≤ digit_value (get_or part i 0) → goes_on base o (remain i) ≡ None
    broken e l h =
        let no_less : base ≤ digit_of (get_or part i 0) = omega (arith, digit-value (get_or part i 0)) in
        at_digit e ∙ rw (le-ltb (digit_of (get_or part i 0)) base no_less) refl

-- Bytes one by one: an underscore is no digit.
module _ (s : List ℕ) (i to : ℕ) (h : i < to) (l : i < length s) where
  pub digits_more : eqb (peek s i) 95 ≡ false → digits (part i to s) ≡ digit_of (peek s i) ∷ digits (part (i + 1) to s)
  unfolding digits
  digits_more e = ap digits (from_more i to s h l) ∙ rw e refl

pub digits_end : (s : List ℕ) (i to : ℕ) → to ≤ i → digits (part i to s) ≡ []
unfolding digits
digits_end s i to h = ap digits (from_end i to s h)

-- Bytes that are digits are below ten.
decimal-below : (b : ℕ) → is_digit b ≡ true → (digit_of b < 10) × (eqb b 95 ≡ false)
decimal-below b e =
    let h = bounds 48 57 b e in
    let q : digit_of b ≡ b - 48 = rw e refl in
    (omega (arith, q, h.1), ne_eqb b 95 (λ f. omega (arith, f, h.1)))

pub decimals_below : (k : ℕ) (bs : List ℕ) (i e : ℕ) → e ≤ i + k → e ≤ length bs → AllOf is_digit bs i e → all_below 10 (digits (part i e bs)) ≡ true
unfolding all_below
decimals_below zero bs i e h l a = ap (all_below 10) (digits_end bs i e (omega arith))
decimals_below (suc k) bs i e h l a = by (ltb i e) refl (decimals_below k bs (i + 1) e (omega arith) l (λ j g f. a j (omega (arith, g)) f))
  where
    by : (t : Bool) → ltb i e ≡ t → all_below 10 (digits (part (i + 1) e bs)) ≡ true → all_below 10 (digits (part i e bs)) ≡ true
    by false q r = ap (all_below 10) (digits_end bs i e (ltb-false i e q))
    by true q r =
        let here = ltb-true i e q in
        let d = decimal-below (peek bs i) (a i (omega arith) here) in
        ap (all_below 10) (digits_more bs i e here (omega (arith, here, l)) d.1)
        ∙ ap (λ (t : Bool). t && all_below 10 (digits (part (i + 1) e bs))) (lt-ltb (digit_of (peek bs i)) 10 d.0)
        ∙ r
