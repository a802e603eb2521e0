-- Loops over a part. The invariant is that what reads the rest of the loop from here has read the whole loop from its beginning; a
-- turn takes a token, so that the turns allowed are never used up. Assumes nothing.
use Prim.Native.Nat.{ℕ, zero, suc, ◌≤◌, ◌<◌}
use native.Mathlib.Omega.{arith}
use mathlib.Core.Path.{◌≡◌, refl, sym, ap, ◌∙◌}
use mathlib.Core.Bool.{true, false, cond}
use mathlib.Core.Logic.{◌⊎◌, inl, inr}
use mathlib.Core.List.{List, [], ◌∷◌}
use lib.ListN.{length}
use lib.Dec.{eqb}
use borrow.Author.Tests.{eq-eqb, ne_eqb}
use Rattle.predictive.specs.Forest.{nil}
use Rattle.predictive.specs.Grammar.{Head, at, Part, many}
use Rattle.predictive.specs.Reader.{Result, done, repeat, step, below, read}
use Rattle.predictive.specs.Events.{events_of, taken}
use Rattle.predictive.proofs.Tests.{never}
use Rattle.predictive.proofs.Heads.{at_end}
use Rattle.predictive.proofs.Takes.{takes, takes_one}
use Rattle.aadl.specs.Section.{Rule, grammar}
use Rattle.parser.specs.declared.Counters.{Counters}
use Rattle.parser.specs.Input.{Input, rest}
use Rattle.parser.specs.Buffer.{room}
use Rattle.parser.specs.Reads.{stands, heads_of, reading_at, Became, Read}
use Rattle.parser.proofs.Pushing.{goes-or_stopped}
use Rattle.parser.proofs.Counting.{advance-fewer}
use Rattle.parser.proofs.Emitted.{emitted-advance}
use Rattle.parser.proofs.Join.{became_goes, became_no_more, became_same, became_both, became_nothing, stands-goes, stands_at, read_left, read-long}

-- what there is to read
abbrev pub μ : Input → Counters → ℕ
μ inp p = cond (eqb p.stop 0) (length (rest inp p)) 0

-- A HEAD THAT STANDS IS TAKEN ------------------------------------------------------------------------------------------

-- where a head stands, something remains
pub remains : (inp : Input) (hs : List Head) (p : Counters) → stands inp hs p ≡ true → 0 < length (rest inp p)
remains inp hs p s = some (rest inp p) (stands_at inp hs p s (stands-goes inp hs p s))
  where
    some : (xs : List ℕ) → at hs xs ≡ true → 0 < length xs
    some [] e = never (sym (at_end hs) ∙ e)
    some (x ∷ xs) e = omega arith

module _ {inp : Input} {d : ℕ} {P : Part Rule} {p : Counters} {b : List ℕ} {q : Counters} {c : List ℕ} where
  pub took_one : takes P ≡ true → stands inp (heads_of P) p ≡ true → Read inp d P p b q c → q.stop ≡ 0 → length (rest inp q) < length (rest inp p)
  unfolding read
  took_one t s x h =
      let n = suc (length (rest inp p)) in
      let o = reading_at inp n d P p in
      let a = stands_at inp (heads_of P) p s (stands-goes inp (heads_of P) p s) in
      let e = emitted-advance (x.did n (omega arith)).emitted in
      let f = advance-fewer inp (room b) (events_of o) p (ap (λ (u : Counters). u.stop) (sym e) ∙ h) in
      let k : 1 ≤ taken (events_of o) = takes_one grammar n d (below grammar n d) P (rest inp p) t a in
      omega (arith, f, k, remains inp (heads_of P) p s, ap (λ (u : Counters). length (rest inp u)) e)

  -- so the measure of a loop falls
  pub w-less : takes P ≡ true → stands inp (heads_of P) p ≡ true → Read inp d P p b q c → μ inp q < μ inp p
  w-less t s x = go (goes-or_stopped q.stop)
    where
      g : p.stop ≡ 0
      g = stands-goes inp (heads_of P) p s

      go : (q.stop ≡ 0) ⊎ (q.stop ≡ 0 → ⊥) → μ inp q < μ inp p
      go (inl h) = rw (eq-eqb q.stop 0 h, eq-eqb p.stop 0 g) (took_one t s x h)
      go (inr h) = rw (ne_eqb q.stop 0 h, eq-eqb p.stop 0 g) (remains inp (heads_of P) p s)

-- what a reading leaves is no more than there was
pub no_more_left : {inp : Input} {d : ℕ} {P : Part Rule} {p : Counters} {b : List ℕ} {q : Counters} {c : List ℕ} → Read inp d P p b q c → μ inp q ≤ μ inp p
no_more_left {inp} {d} {P} {p} {b} {q} {c} x = go (goes-or_stopped q.stop)
  where
    y : Became inp (reading_at inp (suc (length (rest inp p))) d P p) p b q c
    y = x.did (suc (length (rest inp p))) (omega arith)

    go : (q.stop ≡ 0) ⊎ (q.stop ≡ 0 → ⊥) → μ inp q ≤ μ inp p
    go (inl h) = rw (eq-eqb q.stop 0 h, eq-eqb p.stop 0 (became_goes y h)) (became_no_more y)
    go (inr h) = rw (ne_eqb q.stop 0 h) (omega arith)

-- THE LOOP -------------------------------------------------------------------------------------------------------------

abbrev turns : (n d : ℕ) → Part Rule → ℕ → List ℕ → Result
turns n d P m xs = repeat (λ ys. read grammar n d P ys) (heads_of P) m xs

-- Where a loop over P stands that began at p₀, with so many turns allowed.
record Turn (inp : Input) (n d : ℕ) (P : Part Rule) (p₀ : Counters) (b₀ : List ℕ) (p : Counters) (b : List ℕ) : Type 0 where
  allowed : ℕ
  enough : p.stop ≡ 0 → length (rest inp p) < allowed
  whole : (r : Counters) (c : List ℕ) → Became inp (turns n d P allowed (rest inp p)) p b r c → Became inp (reading_at inp n d (many P) p₀) p₀ b₀ r c

pub record Turning (inp : Input) (d : ℕ) (P : Part Rule) (p₀ : Counters) (b₀ : List ℕ) (p : Counters) (b : List ℕ) : Type 0 where
  turn : (n : ℕ) → length (rest inp p₀) < n → Turn inp n d P p₀ b₀ p b
  no_more : length (rest inp p) ≤ length (rest inp p₀)
  pub left : p.left ≡ p₀.left
  pub long : length b ≡ length b₀

module _ {inp : Input} {d : ℕ} {P : Part Rule} where
  pub w-holds : {p : Counters} {b : List ℕ} → Turning inp d P p b p b
  unfolding read step
  w-holds = record { turn = λ n l. record { allowed = n; enough = λ h. l; whole = λ r c x. x }; no_more = omega arith; left = refl; long = refl }

  pub w-again : {p₀ : Counters} {b₀ : List ℕ} {p : Counters} {b : List ℕ} {q : Counters} {c : List ℕ} → takes P ≡ true → Turning inp d P p₀ b₀ p b →
      stands inp (heads_of P) p ≡ true → Read inp d P p b q c → Turning inp d P p₀ b₀ q c
  unfolding repeat
  w-again {p₀} {b₀} {p} {b} {q} {c} t w s x =
      record {
        turn = λ n l. let k = w.turn n l in on n l k.allowed (k.enough (stands-goes inp (heads_of P) p s)) k.whole;
        no_more = omega (arith, w.no_more, became_no_more (x.did (suc (length (rest inp p))) (omega arith)));
        left = read_left x ∙ w.left;
        long = read-long x ∙ w.long;
      }
    where
      on : (n : ℕ) → length (rest inp p₀) < n → (m : ℕ) → length (rest inp p) < m →
          ((r : Counters) (e : List ℕ) → Became inp (turns n d P m (rest inp p)) p b r e → Became inp (reading_at inp n d (many P) p₀) p₀ b₀ r e) →
          Turn inp n d P p₀ b₀ q c
      on n l zero i k = let z : ⊥ = omega (arith, i) in absurd z
      on n l (suc m) i k =
          let y = x.did n (omega (arith, l, w.no_more)) in
          record {
            allowed = m;
            enough = λ h. omega (arith, i, took_one t s x h);
            whole = λ r e z. k r e (became_same
                (λ h. sym (rw (stands_at inp (heads_of P) p s h) refl))
                (became_both (turns n d P m) y z (λ h. ap (turns n d P m) (y.ends (became_goes y h) h))));
          }

  pub w-done : {p₀ : Counters} {b₀ : List ℕ} {p : Counters} {b : List ℕ} → Turning inp d P p₀ b₀ p b → stands inp (heads_of P) p ≡ false → Read inp d (many P) p₀ b₀ p b
  unfolding repeat
  w-done {p₀} {b₀} {p} {b} w s = record { did = λ n l. let k = w.turn n l in k.whole p b (became_same (λ h. sym (ends n k.allowed (k.enough h) h)) became_nothing) }
    where
      ends : (n m : ℕ) → length (rest inp p) < m → p.stop ≡ 0 → turns n d P m (rest inp p) ≡ done nil (rest inp p)
      ends n zero i h = let z : ⊥ = omega (arith, i) in absurd z
      ends n (suc m) i h = rw (stands_at inp (heads_of P) p s h) refl
