-- What the marker functions store, case by case: the parser stopped, or it goes on. Assumes nothing.
use Prim.Native.Nat.{ℕ, ◌≤◌, ◌<◌, ◌-◌}
use mathlib.Core.Path.{◌≡◌, refl, sym, ap, subst, ◌∙◌}
use mathlib.Core.Bool.{cond}
use mathlib.Core.List.{List}
use lib.Dec.{ltb}
use borrow.Author.Tests.{lt-ltb, le-ltb}
use Rattle.predictive.specs.Events.{start, finish}
use Rattle.parser.specs.declared.Counters.{Counters}
use Rattle.parser.specs.Counters.{Started}
use Rattle.parser.specs.Buffer.{room, put, named, linked}
use Rattle.parser.specs.State.{State, state, going, push, rewritten, complete, precede}
use Rattle.parser.specs.Reads.{Starts}
use Rattle.parser.proofs.Buffer.{room-same, put-long}
use Rattle.parser.proofs.Pushing.{Goes, Stopped, going-stopped, going-goes, push-went}

abbrev finished : (m k : ℕ) → State → State
finished m k s = push finish (rewritten (named m k) s)

pub complete-stopped : (m k : ℕ) (s : State) → Stopped s → complete m k s ≡ s
unfolding complete
complete-stopped m k s h = going-stopped (finished m k) s h

pub complete-goes : (m k : ℕ) (s : State) → Goes s → complete m k s ≡ push finish (rewritten (named m k) s)
unfolding complete
complete-goes m k s h = going-goes (finished m k) s h

-- A Start that was pushed had room.
pub started-fits : {p : Counters} {b : List ℕ} {s : Started} {c : List ℕ} → Starts p b s c (push (start 0 0)) → s.p.stop ≡ 0 → p.used < room c
started-fits {p} {b} {s} {c} i h =
    let t = push-went (start 0 0) (state p b) (sym (ap (λ (t : State). t.parser.stop) i.ran) ∙ h) in
    let w : c ≡ put p (start 0 0) b = ap (λ (t : State). t.words) (i.ran ∙ t.2) in
    subst (λ (n : ℕ). p.used < n) (sym (ap room w ∙ room-same b (put p (start 0 0) b) (put-long p (start 0 0) b))) t.1

-- The Start that is pushed first leaves q.
module _ (m : ℕ) (s q : State) (e : q ≡ push (start 0 0) s) where
  abbrev link : State → State
  link t = cond (ltb m s.parser.used) (rewritten (linked m (s.parser.used - m)) t) t

  opened : precede m s ≡ going link q
  unfolding precede
  opened = ap (going link) (sym e)

  pub precede-stopped : Stopped q → precede m s ≡ q
  precede-stopped h = opened ∙ going-stopped link q h

  pub precede-links : Goes q → m < s.parser.used → precede m s ≡ rewritten (linked m (s.parser.used - m)) q
  precede-links h l = opened ∙ going-goes link q h ∙ rw (lt-ltb m s.parser.used l) refl

  pub precede-stays : Goes q → s.parser.used ≤ m → precede m s ≡ q
  precede-stays h l = opened ∙ going-goes link q h ∙ rw (le-ltb m s.parser.used l) refl
