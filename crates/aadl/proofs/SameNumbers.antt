-- A number that ends within a ∷ u is the same number before x and before y, where y is meek, with all its parts: case by case as the
-- definition lists them. The one test that looks past a number's end for what must not be there, `1..`, is asked of the caller. Assumes
-- nothing.
use Prim.Native.Nat.{ℕ, suc, ◌+◌, ◌-◌, ◌≤◌, ◌<◌}
use native.Mathlib.Omega.{arith}
use mathlib.Core.Path.{◌≡◌, refl, sym, ap, subst, ◌∙◌}
use mathlib.Core.Bool.{Bool, true, false, not, ◌&&◌, cond, and-false}
use mathlib.Core.List.{List, ◌∷◌, ◌++◌}
use lib.ListN.{length, take, drop, length-drop, length-append}
use lib.Seq.{drop-append-le, take-append-le}
use lib.Dec.{eqb}
use borrow.Author.Tests.{eqb-true}
use Rattle.predictive.proofs.Tests.{and_false_l, and_false_r}
use Rattle.aadl.specs.Bytes.{peek, run, run_end, is_digit, is_ident_continue, is_exponent, is_grouped, is_based}
use Rattle.aadl.specs.declared.Number.{Number}
use Rattle.aadl.specs.Tokens.{exponent_end, radix_digit, is_c_style, c_style, based, real, integer, number_from, number_of}
use Rattle.aadl.proofs.Bools.{false_unless, cond_first, cond_same}
use Rattle.aadl.proofs.RunLaws.{run-end_from, run-stop}
use Rattle.aadl.proofs.TokenBounds.{exponent_end-upto, hash-upto, based-upto, decimals_upto, c_style-long, number_from-upto}
use Rattle.aadl.proofs.SameRuns.{Meek, meek_none, meek_exponent, meek_marker, peek-seam, pair_same, byte-same, run-same, run-end_same, exponent-past, exponent-test, exponent_same}

-- DOTS -----------------------------------------------------------------------------------------------------------------

-- One dot, and no second one.
abbrev dotted : List ℕ → ℕ → Bool
dotted bs d = eqb (peek bs d) 46 && not (eqb (peek bs (d + 1)) 46)

-- What follows a token that ends at n is not two dots, of which the first is u's last byte and the second x's first.
abbrev pub Parted : (u x : List ℕ) → ℕ → Type 0
Parted u x n = suc n ≡ length u → peek (u ++ x) n ≡ 46 → peek x 0 ≡ 46 → ⊥

-- digits before two dots are all of the number
dots-end : (bs : List ℕ) (d : ℕ) → d < length bs → peek bs d ≡ 46 → peek bs (d + 1) ≡ 46 → (number_from bs d).len ≡ d
unfolding number_from
dots-end bs d l e f = rw (e, f, and-false (eqb d 1 && eqb (peek bs 0) 48)) (run-stop is_grouped bs d l (ap is_grouped e))

-- PARTS OF A NUMBER ----------------------------------------------------------------------------------------------------

and_less : (a r r' : Bool) → (r ≡ false → r' ≡ false) → (a && r) ≡ false → (a && r') ≡ false
and_less true r r' f e = f e
and_less false r r' f e = refl

module _ (u x y : List ℕ) (m : Meek x y) where
  taken-same : (i e : ℕ) → i ≤ e → e ≤ length u → take (e - i) (drop i (u ++ y)) ≡ take (e - i) (drop i (u ++ x))
  taken-same i e h k =
      let l : i ≤ length u = omega arith in
      let n : e - i ≤ length (drop i u) = omega (arith, length-drop i u) in
      rw (drop-append-le i u x l, drop-append-le i u y l, take-append-le (e - i) (drop i u) x n, take-append-le (e - i) (drop i u) y n)

  based-same : (i : ℕ) → (based (u ++ x) i).len ≤ length u → based (u ++ y) i ≡ based (u ++ x) i
  unfolding based
  based-same i h = rw (ends, hashes) (rw (taken-same i e (run-end_from is_based (u ++ x) i) l, exponent-test u x y m f h, exponent_same u x y m f h) refl)
    where
      e : ℕ
      e = run_end is_based (u ++ x) i

      f : ℕ
      f = cond (eqb (peek (u ++ x) e) 35) (e + 1) e

      l : e ≤ length u
      l = omega (arith, (hash-upto (u ++ x) e).from, (exponent_end-upto (u ++ x) f).from)

      ends : run_end is_based (u ++ y) i ≡ e
      ends = run-end_same is_based u x y i l m.based

      hashes : eqb (peek (u ++ y) e) 35 ≡ eqb (peek (u ++ x) e) 35
      hashes =
          byte-same u x y (λ (b : ℕ). eqb b 35) e l (meek_none m 35 refl)
          (λ t. omega (arith, (exponent_end-upto (u ++ x) f).from, ap (λ (c : Bool). cond c (e + 1) e) t))

  real_same : (e : ℕ) → exponent_end (u ++ x) e ≤ length u → real (u ++ y) e ≡ real (u ++ x) e
  real_same e h = rw (exponent-test u x y m e h, exponent_same u x y m e h)

  decimals_same : (i : ℕ) → exponent_end (u ++ x) (run_end is_digit (u ++ x) i) ≤ length u →
      real (u ++ y) (run_end is_digit (u ++ y) i) ≡ real (u ++ x) (run_end is_digit (u ++ x) i)
  decimals_same i h =
      let e = run_end is_digit (u ++ x) i in
      let l : e ≤ length u = omega (arith, (exponent_end-upto (u ++ x) e).from) in
      ap (λ (n : ℕ). real (u ++ y) n) (run-end_same is_digit u x y i l m.digit) ∙ real_same e h

-- THE SAME NUMBER ------------------------------------------------------------------------------------------------------

module _ (a : ℕ) (u x y : List ℕ) (m : Meek x y) where
  number_from-same : (d : ℕ) → (number_from (a ∷ (u ++ x)) d).len ≤ suc (length u) → Parted (a ∷ u) x (number_from (a ∷ (u ++ x)) d).len →
      number_from (a ∷ (u ++ y)) d ≡ number_from (a ∷ (u ++ x)) d
  unfolding number_from
  number_from-same d h p =
      cond_same Q (is_c_style bs d) (is_c_style cs d) c_style-same _ _ _ _
      (λ e k. ap c_style (run-same is_ident_continue v x y k m.word))
      (λ e k. cond_same Q (eqb (peek bs d) 35) (eqb (peek cs d) 35) (hashes k) _ _ _ _ (λ f l. based-same v x y m (d + 1) l)
      (λ f l. cond_same Q (dotted bs d) (dotted cs d) (dots l) _ _ _ _ (λ g n. decimals_same v x y m (d + 1) n)
      (λ g n. cond_same Q (is_exponent (peek bs d)) (is_exponent (peek cs d)) (exponents n) _ _ _ _ (λ r q. real_same v x y m d q)
      (λ r q. ap integer (run-end_same is_grouped v x y d q m.grouped)) n) l) k) h
    where
      v : List ℕ
      v = a ∷ u

      bs : List ℕ
      bs = v ++ x

      cs : List ℕ
      cs = v ++ y

      -- the byte behind the digits
      c : ℕ
      c = peek bs d

      Q : Number → Type 0
      Q n = n.len ≤ length v

      l : d ≤ length v
      l = omega (arith, (number_from-upto bs d).from)

      zero-first : Bool
      zero-first = eqb d 1 && eqb a 48

      c_style-short : is_c_style bs d ≡ true → d + 2 ≤ length v
      c_style-short t = omega (arith, c_style-long bs d t, cond_first Q (is_c_style bs d) _ _ h t)

      c_style-seam : d + 1 ≡ length v → (zero-first && radix_digit c (peek y 0)) ≡ (zero-first && radix_digit c (peek x 0))
      c_style-seam e =
          let n = false_unless (is_c_style bs d) (λ t. omega (arith, c_style-short t)) in
          let f : (zero-first && radix_digit c (peek x 0)) ≡ false = ap (λ (b : ℕ). zero-first && radix_digit c b) (sym (peek-seam v x (d + 1) e)) ∙ n in
          and_less zero-first (radix_digit c (peek x 0)) (radix_digit c (peek y 0)) (m.radix c) f ∙ sym f

      c_style-same : is_c_style cs d ≡ is_c_style bs d
      c_style-same =
          pair_same v x y (λ (i j : ℕ). zero-first && radix_digit i j) d l
          (λ b. and_false_r zero-first (radix_digit (peek y 0) b) (meek_marker m b)) (λ t. omega (arith, c_style-short t)) c_style-seam

      bare : Number
      bare = cond (is_exponent c) (real bs d) (integer (run_end is_grouped bs d))

      hashes : Q (cond (eqb c 35) (based bs (d + 1)) (cond (dotted bs d) (real bs (run_end is_digit bs (d + 1))) bare)) → eqb (peek cs d) 35 ≡ eqb c 35
      hashes k =
          byte-same v x y (λ (b : ℕ). eqb b 35) d l (meek_none m 35 refl)
          (λ t. omega (arith, (based-upto bs (d + 1)).from, cond_first Q (eqb c 35) _ _ k t))

      by-dots : (s t : Bool) → eqb c 46 ≡ s → eqb (peek x 0) 46 ≡ t → d + 1 ≡ length v → (s && true) ≡ (s && not t)
      by-dots false t f g e = refl
      by-dots true false f g e = refl
      by-dots true true f g e =
          let i = eqb-true c 46 f in
          let j = eqb-true (peek x 0) 46 g in
          let n = dots-end bs d (omega (arith, length-append v x)) i (peek-seam v x (d + 1) e ∙ j) in
          absurd (subst (λ (k : ℕ). Parted v x k) n p (omega arith) i j)

      dots : Q (cond (dotted bs d) (real bs (run_end is_digit bs (d + 1))) bare) → dotted cs d ≡ dotted bs d
      dots k =
          pair_same v x y (λ (i j : ℕ). eqb i 46 && not (eqb j 46)) d l (λ b. and_false_l (eqb (peek y 0) 46) (not (eqb b 46)) (meek_none m 46 refl))
          (λ t. omega (arith, (decimals_upto bs (d + 1)).from, cond_first Q (dotted bs d) _ _ k t))
          (λ e. rw (meek_none m 46 refl) (by-dots (eqb c 46) (eqb (peek x 0) 46) refl refl e))

      exponents : Q bare → is_exponent (peek cs d) ≡ is_exponent c
      exponents k = byte-same v x y is_exponent d l (meek_exponent m) (λ t. omega (arith, exponent-past bs d t, cond_first Q (is_exponent c) _ _ k t))

  pub number_same : (number_of (a ∷ (u ++ x))).len ≤ suc (length u) → Parted (a ∷ u) x (number_of (a ∷ (u ++ x))).len →
      number_of (a ∷ (u ++ y)) ≡ number_of (a ∷ (u ++ x))
  unfolding number_of
  number_same h p =
      let d = run is_digit (a ∷ (u ++ x)) in
      let l : d ≤ suc (length u) = omega (arith, (number_from-upto (a ∷ (u ++ x)) d).from) in
      ap (λ (n : ℕ). number_from (a ∷ (u ++ y)) n) (run-same is_digit (a ∷ u) x y l m.digit) ∙ number_from-same d h p
