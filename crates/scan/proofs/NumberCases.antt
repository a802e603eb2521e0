-- The cases of a number by what stands where its digits end, in places of the whole text. The definition counts its places from the number's
-- start; a place in the text is `at` more. Assumes nothing.
use Prim.Native.Nat.{ℕ, ◌+◌, ◌-◌, ◌≤◌, ◌<◌}
use native.Mathlib.Nat.{add_assoc}
use native.Mathlib.Omega.{arith}
use mathlib.Core.Path.{◌≡◌, refl, sym, ap, ◌∙◌}
use mathlib.Core.Logic.{⊎_elim}
use mathlib.Core.Bool.{Bool, true, false, not, ◌&&◌, ◌||◌, cond, false≢true}
use mathlib.Core.List.{List}
use lib.ListN.{take, drop}
use lib.Seq.{get_or-drop, drop-drop}
use lib.Dec.{eqb}
use borrow.Author.Tests.{eqb-true, not-true}
use Rattle.predictive.specs.Grammar.{has}
use Rattle.predictive.proofs.Tests.{or_cases, or_l, or_r, or_neither}
use Rattle.aadl.proofs.Bools.{false_unless}
use Rattle.aadl.proofs.ByteClasses.{other_byte, radix-word}
use Rattle.aadl.specs.declared.Number.{Number}
use Rattle.aadl.specs.Kinds.{#◌, INTEGER_LIT, REAL_LIT}
use Rattle.cursor.specs.declared.Window.{Window}
use Rattle.cursor.specs.Window.{window_of}
use Rattle.aadl.specs.Bytes.{peek, is_digit, is_ident_continue, is_exponent, is_sign, is_grouped, is_based, run, run_end}
use Rattle.aadl.specs.Tokens.{span, number, unbased, exponent_end, radix_digit, c_style, based, real, integer, number_from}

-- PLACES ---------------------------------------------------------------------------------------------------------------

later : (at : ℕ) (t : Bool) (m n : ℕ) → at + cond t m n ≡ cond t (at + m) (at + n)
later at true m n = refl
later at false m n = refl

module _ (s : List ℕ) (at : ℕ) where
  peek-at : (i k : ℕ) → peek (drop at s) (i + k) ≡ peek s (at + i + k)
  peek-at i k = get_or-drop at s (i + k) 0 ∙ ap (peek s) (sym (add_assoc at i k))

  run-end_of : (p : ℕ → Bool) (i : ℕ) → at + run_end p (drop at s) i ≡ run_end p s (at + i)
  unfolding run_end
  run-end_of p i = rw (drop-drop i at s) (omega arith)

  -- the same of a place in the text
  pub run-end_there : (p : ℕ → Bool) (i : ℕ) → at ≤ i → run_end p s i - at ≡ run_end p (drop at s) (i - at)
  run-end_there p i h =
      let place : at + (i - at) ≡ i = omega (arith, h) in
      omega (arith, run-end_of p (i - at), ap (run_end p s) place)

  run-end_at : (p : ℕ → Bool) (i k : ℕ) → at + run_end p (drop at s) (i + k) ≡ run_end p s (at + i + k)
  run-end_at p i k = run-end_of p (i + k) ∙ ap (run_end p s) (sym (add_assoc at i k))

  exponent-at : (i : ℕ) → at + exponent_end (drop at s) i ≡ exponent_end s (at + i)
  unfolding exponent_end
  exponent-at i =
      let x = is_exponent (peek (drop at s) i) in
      let g = is_sign (peek (drop at s) (i + 1)) in
      let e : x ≡ is_exponent (peek s (at + i)) = ap is_exponent (get_or-drop at s i 0) in
      let f : g ≡ is_sign (peek s (at + i + 1)) = ap is_sign (peek-at i 1) in
      later at x _ _ ∙ ap (λ (n : ℕ). cond x n (at + i)) (later at g _ _)
      ∙ (λ j. cond (e j) (cond (f j) (run-end_at is_digit i 2 j) (run-end_at is_digit i 1 j)) (at + i))

  -- REALS, AND NUMBERS WITH A BASE ---------------------------------------------------------------------------------------

  -- k is the place in the number that p is in the text
  module _ (k p : ℕ) (same : at + k ≡ p) where
    byte-there : peek s p ≡ peek (drop at s) k
    byte-there = ap (peek s) (sym same) ∙ sym (get_or-drop at s k 0)

    exponent-there : exponent_end s p - at ≡ exponent_end (drop at s) k
    exponent-there = omega (arith, exponent-at k, ap (exponent_end s) same)

  -- a real without a base
  pub real-at : (e : ℕ) → at ≤ e → unbased (# REAL_LIT) (exponent_end s e - at) (e - at) (is_exponent (peek s e)) ≡ real (drop at s) (e - at)
  real-at e h =
      let k = e - at in
      let same : at + k ≡ e = omega (arith, h) in
      (λ j. unbased (# REAL_LIT) (exponent-there k e same j) k (is_exponent (byte-there k e same j)))

  -- a number with a base, from the places that a scanner found
  pub based-at : (i e f : ℕ) → at < i → e ≡ run_end is_based s i → f ≡ cond (eqb (peek s e) 35) (e + 1) e →
      let kind = cond (has (take (e - i) (drop i s)) 46 || is_exponent (peek s f)) (# REAL_LIT) (# INTEGER_LIT) in
      number kind (exponent_end s f - at) (span 0 (i - 1 - at)) (span (i - at) (e - at)) (eqb (peek s e) 35) (is_exponent (peek s f)) ≡ based (drop at s) (i - at)
  unfolding based
  based-at i e f h p q =
      let bs = drop at s in
      let k = i - at in
      let m = run_end is_based bs k in
      let g = cond (eqb (peek bs m) 35) (m + 1) m in
      let begins : at + k ≡ i = omega (arith, h) in
      let ends : at + m ≡ e = run-end_of is_based k ∙ ap (run_end is_based s) begins ∙ sym p in
      let hash : eqb (peek s e) 35 ≡ eqb (peek bs m) 35 = ap (λ (b : ℕ). eqb b 35) (byte-there m e ends) in
      let past : at + g ≡ f = later at (eqb (peek bs m) 35) (m + 1) m ∙ (λ j. cond (sym hash j) ((sym (add_assoc at m 1) ∙ ap (λ (n : ℕ). n + 1) ends) j) (ends j)) ∙ sym q in
      let gap : e - i ≡ m - k = (λ j. sym ends j - sym begins j) ∙ gone m k in
      let inner : take (e - i) (drop i s) ≡ take (m - k) (drop k bs) = (λ j. take (gap j) ((ap (λ (n : ℕ). drop n s) (sym begins) ∙ sym (drop-drop k at s)) j)) in
      let x : is_exponent (peek s f) ≡ is_exponent (peek bs g) = ap is_exponent (byte-there g f past) in
      let inner-end : e - at ≡ m = ap (λ (n : ℕ). n - at) (sym ends) ∙ back m in
      (λ j. number (cond (has (inner j) 46 || x j) (# REAL_LIT) (# INTEGER_LIT)) (exponent-there g f past j) (span 0 (one_less i j)) (span k (inner-end j)) (hash j) (x j))
    where
      gone : (m k : ℕ) → at + m - (at + k) ≡ m - k
      gone m k = omega arith

      back : (m : ℕ) → at + m - at ≡ m
      back m = omega arith

      one_less : (i : ℕ) → i - 1 - at ≡ i - at - 1
      one_less i = omega arith

-- CASES ----------------------------------------------------------------------------------------------------------------

-- a byte that is `_`, or neither a letter nor `#`, begins none of the other cases but a dot's
pub integer-behind : (m c : ℕ) → (eqb m 95 || not (is_ident_continue m || eqb m 35)) ≡ true → (radix_digit m c ≡ false) × (eqb m 35 ≡ false) × (is_exponent m ≡ false)
integer-behind m c e =
    ⊎_elim
    (λ q. let mark = eqb-true m 95 q in (ap (λ (b : ℕ). radix_digit b c) mark, ap (λ (b : ℕ). eqb b 35) mark, ap is_exponent mark))
    (λ q.
    let other = not-true (is_ident_continue m || eqb m 35) q in
    let no_word = or_l (is_ident_continue m) (eqb m 35) other in (
      false_unless (radix_digit m c) (λ r. false≢true (sym no_word ∙ (radix-word m c r).0)),
      or_r (is_ident_continue m) (eqb m 35) other,
      or_neither _ _ (other_byte is_ident_continue m 101 no_word refl) (other_byte is_ident_continue m 69 no_word refl),
    ))
    (or_cases (eqb m 95) (not (is_ident_continue m || eqb m 35)) e)

-- The digits of the number at a place end at d, where m stands, and c behind it.
pub record Digits (s : List ℕ) (at d m c : ℕ) : Type 0 where
  pub ends : at + (d - at) ≡ d
  pub here : m ≡ peek s d
  pub next : c ≡ peek s (d + 1)

-- as a window there shows it
pub digits-by_window : (s : List ℕ) (at d : ℕ) (w : Window) → at < d → w ≡ window_of s d → Digits s at d w.first w.second
digits-by_window s at d w h e = record { ends = omega (arith, h); here = ap (λ (w : Window). w.first) e; next = ap (λ (w : Window). w.second) e }

module _ {s : List ℕ} {at d m c : ℕ} (z : Digits s at d m c) where
  here : peek (drop at s) (d - at) ≡ m
  here = get_or-drop at s (d - at) 0 ∙ ap (peek s) z.ends ∙ sym z.here

  next : peek (drop at s) (d - at + 1) ≡ c
  next = peek-at s at (d - at) 1 ∙ ap (λ (i : ℕ). peek s (i + 1)) z.ends ∙ sym z.next

  -- the number, and its C-style test
  abbrev pub whole : Number
  whole = number_from (drop at s) (d - at)

  abbrev pub c_style-test : Bool
  c_style-test = (eqb (d - at) 1 && eqb (peek (drop at s) 0) 48) && radix_digit m c

  -- a C-style literal is the whole run of letters, digits and `_`
  pub c_style-number : c_style-test ≡ true → (r : ℕ) → r ≡ run is_ident_continue (drop at s) → c_style r ≡ whole
  unfolding number_from
  c_style-number t r e = rw (here, next, t) (ap c_style e)

  module _ (t : c_style-test ≡ false) where
    pub based-number : eqb m 35 ≡ true → based (drop at s) (d + 1 - at) ≡ whole
    unfolding number_from
    based-number h = let place : d + 1 - at ≡ d - at + 1 = omega (arith, z.ends) in rw (here, next, t, h) (ap (based (drop at s)) place)

    module _ (h : eqb m 35 ≡ false) where
      pub dotted-number : (eqb m 46 && not (eqb c 46)) ≡ true → (e : ℕ) → e ≡ run_end is_digit s (d + 1) → real (drop at s) (e - at) ≡ whole
      unfolding number_from
      dotted-number o e f =
          let r = run_end is_digit (drop at s) (d - at + 1) in
          let place : at + r ≡ e = run-end_at s at is_digit (d - at) 1 ∙ ap (λ (i : ℕ). run_end is_digit s (i + 1)) z.ends ∙ sym f in
          let same : e - at ≡ r = omega (arith, place) in
          rw (here, next, t, h, o) (ap (real (drop at s)) same)

      module _ (o : (eqb m 46 && not (eqb c 46)) ≡ false) where
        pub exponent-number : is_exponent m ≡ true → real (drop at s) (d - at) ≡ whole
        unfolding number_from
        exponent-number x = rw (here, next, t, h, o, x) refl

        pub plain-number : is_exponent m ≡ false → integer (run_end is_grouped (drop at s) (d - at)) ≡ whole
        unfolding number_from
        plain-number x = rw (here, next, t, h, o, x) refl
