-- How readings join: for each way in which parts are put together, what is read where the pieces were read. A reader's proof is one
-- of these laws for each of its statements. Here and in the files above, a law's prefix says what it gives: `r-` a reading (`Read`),
-- `n-` a node with its marker (`ReadNode`), `o-` an operand (`ReadOperand`), `x-` a suffix after one, `c-` a left-leaning chain, `w-` a
-- loop, `due-` a loop with separators; `emitted-` speaks of events that were pushed, `became-` of a result that was. Assumes nothing.
use Prim.Native.Nat.{ℕ, zero, suc, ◌-◌, ◌≤◌, ◌<◌}
use native.Mathlib.Omega.{arith}
use mathlib.Core.Path.{◌≡◌, refl, sym, ap, subst, ◌∙◌}
use mathlib.Core.Bool.{Bool, true, false, cond, or-false}
use mathlib.Core.List.{List, [], ◌∷◌}
use lib.ListN.{length}
use lib.Dec.{eqb}
use borrow.Author.Tests.{eq-eqb, eqb-true}
use Rattle.predictive.specs.Forest.{nil, refusal}
use Rattle.predictive.specs.Grammar.{Head, one, is, at, Choice, Part, tok, seq, either, opt, until, inside, opens, rule}
use Rattle.predictive.specs.Reader.{Result, miss, done, pick, expected, unmet, within, step, below, read, first}
use Rattle.predictive.specs.Events.{Event, start, finish, events, events_of, left_over}
use Rattle.predictive.proofs.Tests.{never}
use Rattle.predictive.proofs.Heads.{at-append, in_l}
use Rattle.predictive.proofs.Takes.{both, both-events, both_left, boxed, boxed-events, boxed-left}
use Rattle.aadl.specs.Section.{Rule, rules, firsts, grammar}
use Rattle.parser.specs.declared.Counters.{Counters}
use Rattle.parser.specs.Counters.{Started, Completed}
use Rattle.parser.specs.Input.{Input, rest}
use Rattle.parser.specs.Buffer.{room, named}
use Rattle.parser.specs.State.{State, state, with_left, push, halt, enter, emit}
use Rattle.parser.specs.Reads.{stands, heads_of, reading_at, Emitted, Became, Read, Ran, Starts, Completes, ReadNode}
use Rattle.parser.proofs.Pushing.{halt-stops}
use Rattle.parser.proofs.Emit.{advance}
use Rattle.parser.proofs.Counting.{advance-no_more, one-rest}
use Rattle.parser.proofs.Emitted.{emitted, emitted-goes, emitted-advance, emitted-append, emitted-either, emitted-named, emitted-raised, emitted-started, emitted-completed, emitted-left}

-- WHAT CAME OF A READING -----------------------------------------------------------------------------------------------

module _ {inp : Input} {o : Result} {p : Counters} {b : List ℕ} {r : Counters} {c : List ℕ} (x : Became inp o p b r c) where
  pub became_goes : r.stop ≡ 0 → p.stop ≡ 0
  became_goes h = emitted-goes x.emitted h

  pub became_left : r.left ≡ p.left
  became_left = emitted-left x.emitted

  pub became_no_more : length (rest inp r) ≤ length (rest inp p)
  became_no_more =
      subst (λ (t : Counters). length (rest inp t) ≤ length (rest inp p)) (sym (emitted-advance x.emitted))
      (advance-no_more inp (room b) (events_of o) p)

-- The same by another result, equal where the parser goes on.
pub became_same : {inp : Input} {o t : Result} {p : Counters} {b : List ℕ} {r : Counters} {c : List ℕ} → (p.stop ≡ 0 → o ≡ t) →
    Became inp o p b r c → Became inp t p b r c
became_same {inp} {o} {t} {p} e x =
    record { emitted = emitted-either (λ g. ap events_of (e g)) x.emitted; ends = λ g h. x.ends g h ∙ ap left_over (e g) }

module _ {inp : Input} {p : Counters} {b : List ℕ} {r : Counters} {c : List ℕ} where
  pub r-same : {d e : ℕ} {P Q : Part Rule} → ((n : ℕ) → p.stop ≡ 0 → reading_at inp n d P p ≡ reading_at inp n e Q p) → Read inp d P p b r c →
      Read inp e Q p b r c
  r-same f x = record { did = λ n l. became_same (f n) (x.did n l) }

  pub read_left : {d : ℕ} {P : Part Rule} → Read inp d P p b r c → r.left ≡ p.left
  read_left x = became_left (x.did (suc (length (rest inp p))) (omega arith))

  pub read-long : {d : ℕ} {P : Part Rule} → Read inp d P p b r c → length c ≡ length b
  read-long x = (x.did (suc (length (rest inp p))) (omega arith)).emitted.long

  pub at_level : {d e : ℕ} {P : Part Rule} → d ≡ e → Read inp d P p b r c → Read inp e P p b r c
  at_level {d} {e} {P} q x = subst (λ (n : ℕ). Read inp n P p b r c) q x

-- ONE AFTER THE OTHER --------------------------------------------------------------------------------------------------

-- What was read by o, and then by k of what o left.
pub became_both : {inp : Input} {o t : Result} {p : Counters} {b : List ℕ} {q : Counters} {c : List ℕ} {r : Counters} {d : List ℕ} (k : List ℕ → Result) →
    Became inp o p b q c → Became inp t q c r d → (q.stop ≡ 0 → t ≡ k (left_over o)) → Became inp (both o k) p b r d
became_both {inp} {o} {t} {p} {b} {q} {c} {r} {d} k x y e =
    record {
      emitted =
          subst (λ (es : List Event). Emitted inp es p b r d) (sym (both-events o k))
          (emitted-append x.emitted y.emitted (λ h. ap events_of (e h)));
      ends = λ g h. let m = became_goes y h in y.ends m h ∙ ap left_over (e m) ∙ sym (both_left o k);
    }

pub r-seq : {inp : Input} {d : ℕ} {P Q : Part Rule} {p : Counters} {b : List ℕ} {q : Counters} {c : List ℕ} {r : Counters} {e : List ℕ} →
    Read inp d P p b q c → Read inp d Q q c r e → Read inp d (seq P Q) p b r e
unfolding read step
r-seq {inp} {d} {P} {Q} x y =
    record {
      did = λ n l.
          let s = x.did n l in
          let g = became_no_more s in
          became_both (read grammar n d Q) s (y.did n (omega (arith, l, g))) (λ h. ap (read grammar n d Q) (s.ends (became_goes s h) h));
    }

-- CHOICES --------------------------------------------------------------------------------------------------------------

module _ (inp : Input) (hs : List Head) (p : Counters) where
  pub stands-goes : stands inp hs p ≡ true → p.stop ≡ 0
  unfolding stands
  stands-goes = go (eqb p.stop 0) refl
    where
      go : (t : Bool) → eqb p.stop 0 ≡ t → cond t (at hs (rest inp p)) false ≡ true → p.stop ≡ 0
      go true e f = eqb-true p.stop 0 e
      go false e f = never f

  pub stands_at : {t : Bool} → stands inp hs p ≡ t → p.stop ≡ 0 → at hs (rest inp p) ≡ t
  unfolding stands
  stands_at e h = rw (eq-eqb p.stop 0 h) at e

-- Nothing is read.
pub became_nothing : {inp : Input} {p : Counters} {b : List ℕ} → Became inp (done nil (rest inp p)) p b p b
unfolding events_of left_over events emit
became_nothing = record { emitted = emitted refl; ends = λ g h. refl }

module _ {inp : Input} {d : ℕ} {c : Choice} {P : Part Rule} {p : Counters} {b : List ℕ} where
  pub r-opt_yes : {r : Counters} {e : List ℕ} → stands inp (heads_of P) p ≡ true → Read inp d P p b r e → Read inp d (opt c P) p b r e
  unfolding read step
  r-opt_yes s x = r-same (λ n h. sym (rw (stands_at inp (heads_of P) p s h) refl)) x

  pub r-opt_sure : {r : Counters} {e : List ℕ} → stands inp (heads_of P) p ≡ true → Read inp d (opt c P) p b r e → Read inp d P p b r e
  unfolding read step
  r-opt_sure s x = r-same (λ n h. rw (stands_at inp (heads_of P) p s h) refl) x

  -- the same before another part
  pub r-opt_first_sure : {Q : Part Rule} {r : Counters} {e : List ℕ} → stands inp (heads_of P) p ≡ true → Read inp d (seq (opt c P) Q) p b r e → Read inp d (seq P Q) p b r e
  unfolding read step
  r-opt_first_sure s x = r-same (λ n h. rw (stands_at inp (heads_of P) p s h) refl) x

  pub r-opt_no : stands inp (heads_of P) p ≡ false → Read inp d (opt c P) p b p b
  unfolding read step
  r-opt_no s = record { did = λ n l. became_same (λ h. sym (rw (stands_at inp (heads_of P) p s h) refl)) became_nothing }

module _ {inp : Input} {d : ℕ} {o : Choice} {P Q : Part Rule} {p : Counters} {b : List ℕ} {r : Counters} {c : List ℕ} where
  pub r-left : stands inp (heads_of P) p ≡ true → Read inp d P p b r c → Read inp d (either o P Q) p b r c
  unfolding read step
  r-left s x = r-same (λ n h. sym (rw (stands_at inp (heads_of P) p s h) refl)) x

  pub r-right : stands inp (heads_of P) p ≡ false → Read inp d Q p b r c → Read inp d (either o P Q) p b r c
  unfolding read step
  r-right s x = r-same (λ n h. sym (rw (stands_at inp (heads_of P) p s h) refl)) x

-- A choice that may be left out: its first side, or what is left.
module _ {inp : Input} {d : ℕ} {c o : Choice} {P Q : Part Rule} {p : Counters} {b : List ℕ} {r : Counters} {e : List ℕ} where
  pub r-opt_left : stands inp (heads_of P) p ≡ true → Read inp d P p b r e → Read inp d (opt c (either o P Q)) p b r e
  unfolding read step first
  r-opt_left s x = r-same (λ n h. let a = stands_at inp (heads_of P) p s h in sym (rw (in_l (heads_of P) (heads_of Q) (rest inp p) a, a) refl)) x

  pub r-opt_right : stands inp (heads_of P) p ≡ false → Read inp d (opt c Q) p b r e → Read inp d (opt c (either o P Q)) p b r e
  unfolding read step first
  r-opt_right s x = r-same (λ n h. let a = stands_at inp (heads_of P) p s h in sym (rw (at-append (heads_of P) (heads_of Q) (rest inp p), a) refl)) x

-- A part before the token k, which may stand at once.
is_at : (k : ℕ) (xs : List ℕ) (t : Bool) → at (one k ∷ []) xs ≡ t → is k xs ≡ t
is_at k [] t e = e
is_at k (x ∷ xs) t e = sym (or-false (eqb x k)) ∙ e

module _ {inp : Input} {d k : ℕ} {P : Part Rule} {p : Counters} {b : List ℕ} where
  pub r-until_at_once : {r : Counters} {e : List ℕ} → stands inp (one k ∷ []) p ≡ true → Read inp d (tok unmet (k ∷ [])) p b r e →
      Read inp d (until k P) p b r e
  unfolding read step
  r-until_at_once s x = r-same (λ n h. sym (rw (is_at k (rest inp p) true (stands_at inp (one k ∷ []) p s h)) refl)) x

  pub r-until : {q : Counters} {c : List ℕ} {r : Counters} {e : List ℕ} → stands inp (one k ∷ []) p ≡ false → Read inp d P p b q c →
      Read inp d (tok (expected k) (k ∷ [])) q c r e →
      Read inp d (until k P) p b r e
  unfolding read step
  r-until s x y = r-same (λ n h. sym (rw (is_at k (rest inp p) false (stands_at inp (one k ∷ []) p s h)) refl)) (r-seq x y)

-- NODES ----------------------------------------------------------------------------------------------------------------

module _ {inp : Input} where
  -- pushing a Start or a Finish moves nothing on
  pub rest-started : {p : Counters} {b : List ℕ} {q : Counters} {c : List ℕ} {k up : ℕ} → Emitted inp (start k up ∷ []) p b q c → rest inp q ≡ rest inp p
  unfolding advance
  rest-started {p} {b} {k = k} {up = up} x = ap (rest inp) (emitted-advance x) ∙ one-rest inp (room b) (start k up) p refl

  pub rest-finished : {p : Counters} {b : List ℕ} {q : Counters} {c : List ℕ} → Emitted inp (finish ∷ []) p b q c → rest inp q ≡ rest inp p
  unfolding advance
  rest-finished {p} {b} x = ap (rest inp) (emitted-advance x) ∙ one-rest inp (room b) finish p refl

pub r-inside : {inp : Input} {d k : ℕ} {P : Part Rule} {p : Counters} {b : List ℕ} {s : Started} {c : List ℕ} {q : Counters} {e : List ℕ} {r : Completed} {f : List ℕ} →
    Starts p b s c (push (start 0 0)) → Read inp d P s.p c q e → Completes s.m k q e r f → Read inp d (inside k P) p b r.p f
unfolding read step
r-inside {inp} {d} {k} {P} {p} {b} {s} {c} {q} {e} {r} {f} x y z = record { did = boxes }
  where
    opened : Emitted inp (start 0 0 ∷ []) p b s.p c
    opened = emitted-started x

    boxes : (n : ℕ) → length (rest inp p) < n → Became inp (boxed k (reading_at inp n d P p)) p b r.p f
    boxes n l =
        let o = reading_at inp n d P p in
        let i : Became inp o s.p c q e = became_same (λ h. ap (read grammar n d P) (rest-started opened)) (y.did n (subst (λ (xs : List ℕ). length xs < n) (sym (rest-started opened)) l)) in
        let j : Emitted inp (start 0 0 ∷ events_of o) p b q e = emitted-append opened i.emitted (λ h. refl) in
        let m : Emitted inp (start k 0 ∷ events_of o) p b q (named s.m.0 k e) = emitted-named [] (events_of o) 0 0 k j (λ h. omega (arith, x.mark)) in
        let t : Emitted inp (finish ∷ []) q (named s.m.0 k e) r.p f = emitted-completed z in
        record {
          emitted = subst (λ (es : List Event). Emitted inp es p b r.p f) (sym (boxed-events k o)) (emitted-append m t (λ h. refl));
          ends = λ g h. rest-finished t ∙ i.ends (emitted-goes i.emitted (emitted-goes t h)) (emitted-goes t h) ∙ sym (boxed-left k o);
        }

-- OPENERS --------------------------------------------------------------------------------------------------------------

pub within-left : (n d : ℕ) (xs : List ℕ) (o : Result) → (d ≡ 0 → ⊥) → within n d xs o ≡ o
within-left n zero xs o h = absurd (h refl)
within-left n (suc d) xs o h = refl

module _ {inp : Input} {P : Part Rule} {p : Counters} {b : List ℕ} where
  -- An opener, read with one opener fewer left.
  pub r-opens : {q : Counters} {c : List ℕ} → (p.left ≡ 0 → ⊥) → Read inp (suc (p.left - 1)) P (with_left (p.left - 1) p) b q c →
      Read inp p.left (opens P) p b (with_left p.left q) c
  unfolding read step rest
  r-opens {q} {c} f x = record { did = opened }
    where
      level : suc (p.left - 1) ≡ p.left
      level = omega (arith, f)

      opened : (n : ℕ) → length (rest inp p) < n → Became inp (reading_at inp n p.left (opens P) p) p b (with_left p.left q) c
      opened n l =
          let o = reading_at inp n p.left P p in
          let i : Became inp o (with_left (p.left - 1) p) b q c = subst (λ (d : ℕ). Became inp (reading_at inp n d P p) (with_left (p.left - 1) p) b q c) level (x.did n l) in
          became_same (λ h. sym (within-left 6 p.left (rest inp p) o f)) (record { emitted = emitted-raised (p.left - 1) i.emitted; ends = i.ends })

  -- An opener too many.
  pub r-deep : {r : Counters} {c : List ℕ} → p.left ≡ 0 → Ran (halt 6) p b r c → Read inp p.left (opens P) p b r c
  unfolding read step emit enter events_of left_over
  r-deep {r} {c} e x = record { did = λ n l. became_same (λ h. rw e refl) deep }
    where
      deep : Became inp (miss (refusal 6) (rest inp p)) p b r c
      deep = record { emitted = emitted x.ran; ends = λ g h. absurd (halt-stops 6 (state p b) (ap (λ (s : State). s.parser.stop) (sym x.ran) ∙ h)) }

-- A rule, inside an opener.
pub r-rule : {inp : Input} {d : ℕ} (r : Rule) {p : Counters} {b : List ℕ} {q : Counters} {c : List ℕ} → Read inp d (rules r) p b q c → Read inp (suc d) (rule r) p b q c
unfolding read step below
r-rule r x = r-same (λ n h. refl) x

pub r-opt_rule : {inp : Input} {d : ℕ} {o : Choice} (r : Rule) {p : Counters} {b : List ℕ} {q : Counters} {c : List ℕ} → heads_of (rules r) ≡ firsts r →
    Read inp d (opt o (rules r)) p b q c → Read inp (suc d) (opt o (rule r)) p b q c
unfolding read step below first
r-opt_rule {inp} {d} r {p} e x =
    r-same (λ n h. ap (λ (hs : List Head). pick (at hs (rest inp p)) (reading_at inp n d (rules r) p) (done nil (rest inp p))) e) x

-- NODES WITH THEIR MARKERS ---------------------------------------------------------------------------------------------

-- A node that is begun, read and completed.
pub n_inside : {inp : Input} {d k : ℕ} {P : Part Rule} {p : Counters} {b : List ℕ} {s : Started} {c : List ℕ} {q : Counters} {e : List ℕ} {r : Completed} {f : List ℕ} →
    Starts p b s c (push (start 0 0)) → Read inp d P s.p c q e → Completes s.m k q e r f → ReadNode inp d (inside k P) p b r f
n_inside x y z = record { reads = r-inside x y z; mark = z.mark ∙ x.mark }
