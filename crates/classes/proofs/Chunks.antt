-- Many bytes at a time: where none of the next n bytes is sought, a run of bytes that are not goes on over all of them, so that whole
-- chunks are passed one by one; and bytes below 128 are well-formed one by one. By induction over the bytes. Assumes nothing.
use Prim.Native.Nat.{ℕ, zero, suc, ◌+◌, ◌*◌, ◌/◌, ◌≤◌, ◌<◌, zero-le, suc-le-suc}
use native.Mathlib.Nat.{zero-add, suc-add, add_assoc, le_of_suc-le-suc, not-suc-le-zero}
use native.Mathlib.Numerals.{one-add}
use native.Mathlib.Omega.{arith}
use mathlib.Core.Path.{◌≡◌, refl, sym, ap, ◌∙◌}
use mathlib.Core.Bool.{Bool, true, false, not, ◌&&◌, ◌||◌, cond, and-true, or_assoc, or-false}
use mathlib.Core.List.{List, [], ◌∷◌}
use lib.ListN.{length, take, drop, length-drop}
use lib.Seq.{drop-drop}
use lib.Dec.{leb, eqb}
use borrow.Author.Tests.{leb-false, leb-true, le-leb, eq-eqb, ne_eqb, eqb-true, eqb-false}
use Rattle.std.specs.List.{fold, list_any, take_while, prefix_len}
use Rattle.std.proofs.lemmas.List.Folds.{length-prefix_len}
use Rattle.predictive.specs.Grammar.{has}
use Rattle.predictive.proofs.Tests.{never, and_both, or_l, or_r}
use Rattle.aadl.specs.Bytes.{run, run_end}
use Rattle.aadl.specs.Utf8.{ill_formed_after, ill_formed}
use Rattle.aadl.proofs.Bools.{cond_has}
use Rattle.aadl.proofs.Utf8Laws.{ascii_one}
use Rattle.aadl.proofs.TokenBounds.{run-within}
use Rattle.classes.specs.Search.{any, sought, unsought, other_than, chunks_end}

-- TESTS OVER A PART ----------------------------------------------------------------------------------------------------

eqb_sym : (a b : ℕ) → eqb a b ≡ eqb b a
eqb_sym a b = go (eqb b a) refl
  where
    go : (t : Bool) → eqb b a ≡ t → eqb a b ≡ t
    go true e = eq-eqb a b (sym (eqb-true b a e))
    go false e = ne_eqb a b (λ q. eqb-false b a e (sym q))

pub folded-any : (p : ℕ → Bool) (f : Bool) (bs : List ℕ) → fold (λ t b. t || p b) f bs ≡ (f || any p bs)
folded-any p f [] = sym (or-false f)
folded-any p f (b ∷ bs) = folded-any p (f || p b) bs ∙ or_assoc f (p b) (any p bs)

pub any_has : (x : ℕ) (bs : List ℕ) → list_any (λ b. eqb b x) bs ≡ has bs x
any_has x [] = refl
any_has x (b ∷ bs) = λ i. eqb_sym b x i || any_has x bs i

or_rest : (s t : Bool) → (s || t) ≡ true → not s ≡ true → t ≡ true
or_rest true t e d = never d
or_rest false t e d = e

-- SKIPPING -------------------------------------------------------------------------------------------------------------

pub taken-run : (p : ℕ → Bool) (bs : List ℕ) → length (take_while p bs) ≡ run p bs
unfolding run
taken-run p bs = length-prefix_len p bs ∙ counted bs
  where
    counted : (bs : List ℕ) → prefix_len p bs ≡ run p bs
    counted [] = refl
    counted (b ∷ bs) = ap (λ (k : ℕ). cond (p b) k 0) (one-add (prefix_len p bs) ∙ ap suc (counted bs))

module _ (p : ℕ → Bool) where
  -- none among the first n
  none-run : (bs : List ℕ) (n : ℕ) → n ≤ length bs → any p (take n bs) ≡ false → run (λ b. not (p b)) bs ≡ n + run (λ b. not (p b)) (drop n bs)
  unfolding run
  none-run bs zero h e = sym (zero-add (run (λ b. not (p b)) bs))
  none-run [] (suc n) h e = absurd (not-suc-le-zero h)
  none-run (b ∷ bs) (suc n) h e =
      rw (or_l (p b) (any p (take n bs)) e)
      (ap suc (none-run bs n (le_of_suc-le-suc h) (or_r (p b) (any p (take n bs)) e)) ∙ sym (suc-add n (run (λ b. not (p b)) (drop n bs))))

  -- one among the first n
  some-run : (bs : List ℕ) (n : ℕ) → any p (take n bs) ≡ true → run (λ b. not (p b)) bs < n
  unfolding run
  some-run bs zero e = never e
  some-run [] (suc n) e = never e
  some-run (b ∷ bs) (suc n) e =
      cond_has (λ (k : ℕ). k < suc n) (not (p b)) _ _ (λ d. suc-le-suc (some-run bs n (or_rest (p b) (any p (take n bs)) e d))) (λ d. suc-le-suc zero-le)

  pub chunk_more : (bs : List ℕ) (i n : ℕ) → n ≡ 16 → i + 16 ≤ length bs → any p (take n (drop i bs)) ≡ false → chunks_end (λ b. not (p b)) bs i ≡ chunks_end (λ b. not (p b)) bs (i + 16)
  unfolding chunks_end
  chunk_more bs i n m h e =
      rw (none-run (drop i bs) n (omega (arith, m, length-drop i bs)) e, drop-drop n i bs, m)
      (omega arith)

  chunk_none : (bs : List ℕ) (i : ℕ) → run (λ b. not (p b)) (drop i bs) < 16 → chunks_end (λ b. not (p b)) bs i ≡ i
  unfolding chunks_end
  chunk_none bs i h = omega (arith, h)

  pub chunk_stop : (bs : List ℕ) (i n : ℕ) → n ≡ 16 → any p (take n (drop i bs)) ≡ true → chunks_end (λ b. not (p b)) bs i ≡ i
  chunk_stop bs i n m e = chunk_none bs i (omega (arith, m, some-run (drop i bs) n e))

  pub chunk_over : (bs : List ℕ) (i : ℕ) → length bs < i + 16 → chunks_end (λ b. not (p b)) bs i ≡ i
  chunk_over bs i h = chunk_none bs i (omega (arith, h, length-drop i bs, run-within (λ b. not (p b)) (drop i bs)))

-- a run goes on from each place inside it
inside-run : (p : ℕ → Bool) (bs : List ℕ) (n : ℕ) → n ≤ run p bs → n + run p (drop n bs) ≡ run p bs
unfolding run
inside-run p bs zero h = zero-add (run p bs)
inside-run p [] (suc n) h = absurd (not-suc-le-zero h)
inside-run p (b ∷ bs) (suc n) h =
    cond_has
    (λ (k : ℕ). suc n ≤ k → suc n + run p (drop n bs) ≡ k)
    (p b)
    _
    _
    (λ d l. suc-add n (run p (drop n bs)) ∙ ap suc (inside-run p bs n (le_of_suc-le-suc l)))
    (λ d l. absurd (not-suc-le-zero l))
    h

pub chunks_inside : (p : ℕ → Bool) (bs : List ℕ) (i : ℕ) → run_end p bs (chunks_end p bs i) ≡ run_end p bs i
unfolding run_end chunks_end
chunks_inside p bs i =
    let n = run p (drop i bs) / 16 * 16 in
    rw (sym (drop-drop n i bs)) (add_assoc i n (run p (drop n (drop i bs))) ∙ ap (λ (k : ℕ). i + k) (inside-run p (drop i bs) n (omega arith)))

-- RANGES ---------------------------------------------------------------------------------------------------------------

-- 255 bounds no byte
no_bound : (most b : ℕ) (t : Bool) → eqb most 255 ≡ t → b < 256 → leb b most ≡ (t || leb b most)
no_bound most b true e h = ap (leb b) (eqb-true most 255 e) ∙ le-leb b 255 (le_of_suc-le-suc h)
no_bound most b false e h = refl

pub byte-sought : (least most b : ℕ) → b < 256 → (leb least b && leb b most) ≡ sought least most b
byte-sought least most b h = ap (λ (t : Bool). leb least b && t) (no_bound most b (eqb most 255) refl h)

not_both : (s t : Bool) → (s ≡ true → t ≡ true → ⊥) → (s && t) ≡ false
not_both true true f = absurd (f refl refl)
not_both true false f = refl
not_both false t f = refl

-- a range of one
one-between : (k b : ℕ) (t : Bool) → eqb b k ≡ t → (leb k b && leb b k) ≡ t
one-between k b true e = and_both (leb k b) (leb b k) (le-leb k b (omega (arith, eqb-true b k e))) (le-leb b k (omega (arith, eqb-true b k e)))
one-between k b false e = not_both (leb k b) (leb b k) (λ l m. eqb-false b k e (omega (arith, leb-true k b l, leb-true b k m)))

-- a run of what is not x to x
other-run : (x : ℕ) → eqb x 255 ≡ false → (bs : List ℕ) → run (unsought x x) bs ≡ run (other_than x) bs
unfolding run
other-run x u [] = refl
other-run x u (b ∷ bs) = rw (u, one-between x b (eqb b x) refl, other-run x u bs) refl

pub other-run_end : (x : ℕ) → x < 255 → (bs : List ℕ) (i : ℕ) → run_end (unsought x x) bs i ≡ run_end (other_than x) bs i
unfolding run_end
other-run_end x h bs i = ap (λ (k : ℕ). i + k) (other-run x (ne_eqb x 255 (λ e. absurd (omega (arith, e)))) (drop i bs))

-- WELL-FORMED TEXT -----------------------------------------------------------------------------------------------------

ascii_step : (b : ℕ) (bs : List ℕ) → leb 128 b ≡ false → ill_formed (b ∷ bs) ≡ suc (ill_formed bs)
unfolding ill_formed_after
ascii_step b bs e = rw (ascii_one b bs (leb-false 128 b e)) refl

pub ascii_whole : (bs : List ℕ) → any (sought 128 255) bs ≡ false → ill_formed bs ≡ length bs
unfolding ill_formed_after
ascii_whole [] e = refl
ascii_whole (b ∷ bs) e =
    let low = sym (and-true (leb 128 b)) ∙ or_l (sought 128 255 b) (any (sought 128 255) bs) e in
    ascii_step b bs low ∙ ap suc (ascii_whole bs (or_r (sought 128 255 b) (any (sought 128 255) bs) e))

-- the run of bytes below 128 at the front is well-formed
abbrev AsciiRun : List ℕ → Type 0
AsciiRun bs = run (unsought 128 255) bs + ill_formed (drop (run (unsought 128 255) bs) bs) ≡ ill_formed bs

ascii_more : (b : ℕ) (bs : List ℕ) (t : Bool) → leb 128 b ≡ t → AsciiRun bs → AsciiRun (b ∷ bs)
unfolding run
ascii_more b bs true e h = rw e (zero-add (ill_formed (b ∷ bs)))
ascii_more b bs false e h =
    let k = run (unsought 128 255) bs in
    rw e (suc-add k (ill_formed (drop k bs)) ∙ ap suc h ∙ sym (ascii_step b bs e))

ascii_run : (bs : List ℕ) → AsciiRun bs
unfolding run
ascii_run [] = zero-add (ill_formed [])
ascii_run (b ∷ bs) = ascii_more b bs (leb 128 b) refl (ascii_run bs)

pub ascii_run_end : (bs : List ℕ) (i : ℕ) → run_end (unsought 128 255) bs i + ill_formed (drop (run_end (unsought 128 255) bs i) bs) ≡ i + ill_formed (drop i bs)
unfolding run_end
ascii_run_end bs i =
    let k = run (unsought 128 255) (drop i bs) in
    rw (sym (drop-drop k i bs)) (add_assoc i k (ill_formed (drop k (drop i bs))) ∙ ap (λ (n : ℕ). i + n) (ascii_run (drop i bs)))
