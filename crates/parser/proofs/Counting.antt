-- What events leave of the counters: the openers left stay, what remains never grows and falls by a token taken, and a parser that
-- stopped stays. By induction over the events, each a case of `step-on`. Assumes nothing.
use Prim.Native.Nat.{ℕ, ◌-◌, ◌≤◌, max}
use native.Mathlib.Omega.{arith}
use mathlib.Core.Path.{◌≡◌, refl, sym, ap, subst, ◌∙◌}
use mathlib.Core.Bool.{Bool, true, false, cond}
use mathlib.Core.Logic.{◌⊎◌, inl, inr}
use mathlib.Core.List.{List, [], ◌∷◌}
use lib.ListN.{length}
use lib.Dec.{eqb, ltb}
use borrow.Author.Tests.{eq-eqb, ne_eqb, eqb-false}
use Rattle.predictive.specs.Forest.{message, refusal}
use Rattle.predictive.specs.Events.{Event, start, token, finish, error, taken}
use Rattle.parser.specs.declared.Counters.{Counters}
use Rattle.parser.specs.Input.{Input, rest}
use Rattle.parser.specs.State.{state, with_stop, passed}
use Rattle.predictive.proofs.Tests.{never}
use Rattle.predictive.proofs.EventLaws.{taken-append}
use Rattle.parser.proofs.Trivia.{tail, rest-after_one}
use Rattle.parser.proofs.Pushing.{both_ways, goes-or_stopped}
use Rattle.parser.proofs.Emit.{counted, moved, one_on, step-on, advance}

module _ (inp : Input) where
  -- OPENERS LEFT -------------------------------------------------------------------------------------------------------

  counted-left : (n : ℕ) (p : Counters) → (counted inp n p).left ≡ p.left
  counted-left n p = both_ways (λ (q : Counters). q.left ≡ p.left) (ltb p.used n) refl refl

  counted-rest : (n : ℕ) (p : Counters) → rest inp (counted inp n p) ≡ rest inp p
  unfolding rest
  counted-rest n p = both_ways (λ (q : Counters). rest inp q ≡ rest inp p) (ltb p.used n) refl refl

  moved-left : (p : Counters) → (moved inp p).left ≡ p.left
  moved-left p = both_ways (λ (q : Counters). q.left ≡ p.left) (eqb p.stop 0) refl refl

  -- What holds of the counters after an event that is pushed, of a Token's and of a refusal's, holds of every event's.
  one-elim : (C : Event → Counters → Type 0) (n : ℕ) (p : Counters) → ((e : Event) → C e (counted inp n p)) → ((k : ℕ) → C (token k) (moved inp (counted inp n p))) →
      ((r : ℕ) → C (error (refusal r)) (with_stop (max 1 r) p)) → (e : Event) → C e (one_on inp n e p)
  one-elim C n p a b c (start k up) = a (start k up)
  one-elim C n p a b c (token k) = b k
  one-elim C n p a b c finish = a finish
  one-elim C n p a b c (error (message m)) = a (error (message m))
  one-elim C n p a b c (error (refusal r)) = c r

  one_left : (n : ℕ) (e : Event) (p : Counters) → (one_on inp n e p).left ≡ p.left
  one_left n e p = one-elim (λ e q. q.left ≡ p.left) n p (λ e. counted-left n p) (λ k. moved-left (counted inp n p) ∙ counted-left n p) (λ r. refl) e

  step_left : (n : ℕ) (e : Event) (p : Counters) → (step-on inp n e p).left ≡ p.left
  step_left n e p = both_ways (λ (q : Counters). q.left ≡ p.left) (eqb p.stop 0) (one_left n e p) refl

  -- The openers left stay.
  pub advance-left : (n : ℕ) (es : List Event) (p : Counters) → (advance inp n es p).left ≡ p.left
  unfolding advance
  advance-left n [] p = refl
  advance-left n (e ∷ es) p = advance-left n es (step-on inp n e p) ∙ step_left n e p

  moved-stopped : (p : Counters) → (p.stop ≡ 0 → ⊥) → moved inp p ≡ p
  moved-stopped p f = rw (ne_eqb p.stop 0 f) refl

  -- WHAT REMAINS -------------------------------------------------------------------------------------------------------

  -- What remains after some events is at most what remained less the tokens taken.
  abbrev Fewer : ℕ → Counters → Counters → Type 0
  Fewer k p r = length (rest inp r) ≤ length (rest inp p) - k

  tail-length : (xs : List ℕ) → length (tail xs) ≤ length xs - 1
  tail-length [] = omega arith
  tail-length (x ∷ xs) = omega arith

  moved-rest : (p : Counters) → p.stop ≡ 0 → rest inp (moved inp p) ≡ tail (rest inp p)
  moved-rest p h = rw (eq-eqb p.stop 0 h) (rest-after_one inp p (passed inp (state p [])).parser refl refl)

  moved-fewer : (p : Counters) → (moved inp p).stop ≡ 0 → Fewer 1 p (moved inp p)
  moved-fewer p h =
      let g : p.stop ≡ 0 = go (goes-or_stopped p.stop) in
      subst (λ (xs : List ℕ). length xs ≤ length (rest inp p) - 1) (sym (moved-rest p g)) (tail-length (rest inp p))
    where
      go : (p.stop ≡ 0) ⊎ (p.stop ≡ 0 → ⊥) → p.stop ≡ 0
      go (inl g) = g
      go (inr f) = absurd (f (ap (λ (q : Counters). q.stop) (sym (moved-stopped p f)) ∙ h))

  one_fewer : (n : ℕ) (e : Event) (p : Counters) → (one_on inp n e p).stop ≡ 0 → Fewer (taken (e ∷ [])) p (one_on inp n e p)
  unfolding taken rest
  one_fewer n (start k up) p h = omega (arith, ap length (counted-rest n p))
  one_fewer n (token k) p h = omega (arith, moved-fewer (counted inp n p) h, ap length (counted-rest n p))
  one_fewer n finish p h = omega (arith, ap length (counted-rest n p))
  one_fewer n (error (message m)) p h = omega (arith, ap length (counted-rest n p))
  one_fewer n (error (refusal r)) p h = omega arith

  step_fewer : (n : ℕ) (e : Event) (p : Counters) → (step-on inp n e p).stop ≡ 0 → Fewer (taken (e ∷ [])) p (step-on inp n e p)
  step_fewer n e p = go (eqb p.stop 0) refl
    where
      go : (t : Bool) → eqb p.stop 0 ≡ t → (cond t (one_on inp n e p) p).stop ≡ 0 → Fewer (taken (e ∷ [])) p (cond t (one_on inp n e p) p)
      go true i h = one_fewer n e p h
      go false i h = absurd (eqb-false _ _ i h)

  pub advance-stopped : (n : ℕ) (es : List Event) (p : Counters) → (p.stop ≡ 0 → ⊥) → advance inp n es p ≡ p
  unfolding advance
  advance-stopped n [] p h = refl
  advance-stopped n (e ∷ es) p h = rw (ne_eqb p.stop 0 h) (advance-stopped n es p h)

  pub advance-goes : (n : ℕ) (es : List Event) (p : Counters) → (advance inp n es p).stop ≡ 0 → p.stop ≡ 0
  advance-goes n es p h = go (goes-or_stopped p.stop)
    where
      go : (p.stop ≡ 0) ⊎ (p.stop ≡ 0 → ⊥) → p.stop ≡ 0
      go (inl g) = g
      go (inr f) = absurd (f (ap (λ (q : Counters). q.stop) (sym (advance-stopped n es p f)) ∙ h))

  pub advance-fewer : (n : ℕ) (es : List Event) (p : Counters) → (advance inp n es p).stop ≡ 0 → Fewer (taken es) p (advance inp n es p)
  unfolding advance taken
  advance-fewer n [] p h = omega arith
  advance-fewer n (e ∷ es) p h =
      let i = advance-fewer n es (step-on inp n e p) h in
      let j = step_fewer n e p (advance-goes n es (step-on inp n e p) h) in
      omega (arith, i, j, taken-append (e ∷ []) es)

  -- .. and it never grows, even where the parser stops on the way.
  moved-no_more : (p : Counters) → Fewer 0 p (moved inp p)
  moved-no_more p = go (goes-or_stopped p.stop)
    where
      go : (p.stop ≡ 0) ⊎ (p.stop ≡ 0 → ⊥) → Fewer 0 p (moved inp p)
      go (inl g) = omega (arith, ap length (moved-rest p g), tail-length (rest inp p))
      go (inr f) = omega (arith, ap (λ (q : Counters). length (rest inp q)) (moved-stopped p f))

  one-no_more : (n : ℕ) (e : Event) (p : Counters) → Fewer 0 p (one_on inp n e p)
  unfolding rest
  one-no_more n e p =
      one-elim (λ e q. Fewer 0 p q) n p (λ e. omega (arith, ap length (counted-rest n p)))
      (λ k. omega (arith, moved-no_more (counted inp n p), ap length (counted-rest n p))) (λ r. omega arith) e

  step-no_more : (n : ℕ) (e : Event) (p : Counters) → Fewer 0 p (step-on inp n e p)
  step-no_more n e p = both_ways (Fewer 0 p) (eqb p.stop 0) (one-no_more n e p) (omega arith)

  pub advance-no_more : (n : ℕ) (es : List Event) (p : Counters) → length (rest inp (advance inp n es p)) ≤ length (rest inp p)
  unfolding advance
  advance-no_more n [] p = omega arith
  advance-no_more n (e ∷ es) p = omega (arith, advance-no_more n es (step-on inp n e p), step-no_more n e p)

  -- An event that takes no token moves nothing on.
  abbrev takes_none : Event → Bool
  takes_none (start k up) = true
  takes_none (token k) = false
  takes_none finish = true
  takes_none (error m) = true

  one-stays : (n : ℕ) (e : Event) (p : Counters) → takes_none e ≡ true → rest inp (one_on inp n e p) ≡ rest inp p
  unfolding rest
  one-stays n (start k up) p t = counted-rest n p
  one-stays n (token k) p t = never t
  one-stays n finish p t = counted-rest n p
  one-stays n (error (message m)) p t = counted-rest n p
  one-stays n (error (refusal r)) p t = refl

  pub one-rest : (n : ℕ) (e : Event) (p : Counters) → takes_none e ≡ true → rest inp (advance inp n (e ∷ []) p) ≡ rest inp p
  unfolding advance
  one-rest n e p t = both_ways (λ (q : Counters). rest inp q ≡ rest inp p) (eqb p.stop 0) (one-stays n e p t) refl
