-- The steps of a parser, case by case: it stopped, there is room for an event, there is none. Assumes nothing.
use Prim.Native.Nat.{ℕ, zero, suc, ◌≤◌, ◌<◌}
use native.Mathlib.Omega.{arith}
use mathlib.Core.Path.{◌≡◌, refl, ◌∙◌}
use mathlib.Core.Bool.{Bool, true, false, cond}
use mathlib.Core.Logic.{◌⊎◌, inl, inr}
use lib.Dec.{eqb, ltb}
use borrow.Author.Tests.{eq-eqb, ne_eqb, eqb-true, eqb-false, lt-ltb, le-ltb, ltb-true, ltb-false}
use Rattle.predictive.specs.Events.{Event}
use Rattle.parser.specs.State.{State, going, stopped, appended, push_or_stop, push, halt, pass, passed}
use Rattle.parser.specs.Buffer.{room}
use Rattle.parser.specs.Input.{Input}

-- The parser of a state goes on, or it stopped.
abbrev pub Goes : State → Type 0
Goes s = s.parser.stop ≡ 0

abbrev pub Stopped : State → Type 0
Stopped s = Goes s → ⊥

-- What holds either way holds of a choice, and of a step that the parser makes while it goes on.
pub both_ways : {A : Type 0} (C : A → Type 0) (t : Bool) {a b : A} → C a → C b → C (cond t a b)
both_ways C true x y = x
both_ways C false x y = y

pub going-both : (f : State → State) (s : State) (C : State → Type 0) → C (f s) → C s → C (going f s)
unfolding going
going-both f s C x y = both_ways C (eqb s.parser.stop 0) x y

pub goes-or_stopped : (n : ℕ) → (n ≡ 0) ⊎ (n ≡ 0 → ⊥)
goes-or_stopped zero = inl refl
goes-or_stopped (suc n) = inr (λ e. omega arith)

pub going-stopped : (f : State → State) (s : State) → Stopped s → going f s ≡ s
unfolding going
going-stopped f s h = rw (ne_eqb s.parser.stop 0 h) refl

pub going-goes : (f : State → State) (s : State) → Goes s → going f s ≡ f s
unfolding going
going-goes f s h = rw (eq-eqb s.parser.stop 0 h) refl

-- PUSHING --------------------------------------------------------------------------------------------------------------

-- There is room for one more event.
abbrev pub Fits : State → Type 0
Fits s = s.parser.used < room s.words

-- What holds in each of the three cases holds of a push.
pub push-elim : (e : Event) (s : State) (C : State → Type 0) → (Stopped s → C s) → (Goes s → Fits s → C (appended e s)) →
    (Goes s → room s.words ≤ s.parser.used → C (stopped 5 s)) → C (push e s)
unfolding push going
push-elim e s C a b c = go (eqb s.parser.stop 0) refl (ltb s.parser.used (room s.words)) refl
  where
    go : (t : Bool) → eqb s.parser.stop 0 ≡ t → (u : Bool) → ltb s.parser.used (room s.words) ≡ u → C (cond t (cond u (appended e s) (stopped 5 s)) s)
    go true i true f = b (eqb-true _ _ i) (ltb-true _ _ f)
    go true i false f = c (eqb-true _ _ i) (ltb-false _ _ f)
    go false i u f = a (eqb-false _ _ i)

pub push-stopped : (e : Event) (s : State) → Stopped s → push e s ≡ s
unfolding push
push-stopped e s h = going-stopped (push_or_stop e) s h

pub push-goes : (e : Event) (s : State) → Goes s → push e s ≡ push_or_stop e s
unfolding push
push-goes e s h = going-goes (push_or_stop e) s h

pub pushed-fits : (e : Event) (s : State) → Fits s → push_or_stop e s ≡ appended e s
pushed-fits e s l = rw (lt-ltb s.parser.used (room s.words) l) refl

pub pushed-full : (e : Event) (s : State) → room s.words ≤ s.parser.used → push_or_stop e s ≡ stopped 5 s
pushed-full e s l = rw (le-ltb s.parser.used (room s.words) l) refl

pub push-fits : (e : Event) (s : State) → Goes s → Fits s → push e s ≡ appended e s
push-fits e s h l = push-goes e s h ∙ pushed-fits e s l

pub push-full : (e : Event) (s : State) → Goes s → room s.words ≤ s.parser.used → push e s ≡ stopped 5 s
push-full e s h l = push-goes e s h ∙ pushed-full e s l

-- A push after which the parser goes on had room.
pub push-went : (e : Event) (s : State) → Goes (push e s) → Goes s × Fits s × (push e s ≡ appended e s)
push-went e s =
    push-elim e s (λ r. Goes r → Goes s × Fits s × (r ≡ appended e s))
    (λ h i. absurd (h i))
    (λ h l i. (h, l, refl))
    (λ h l i. let z : ⊥ = omega (arith, i) in absurd z)

-- STOPPING AND PASSING -------------------------------------------------------------------------------------------------

pub halt-stopped : (n : ℕ) (s : State) → Stopped s → halt n s ≡ s
unfolding halt
halt-stopped n s h = going-stopped (stopped n) s h

pub halt-goes : (n : ℕ) (s : State) → Goes s → halt n s ≡ stopped n s
unfolding halt
halt-goes n s h = going-goes (stopped n) s h

pub halt-stops : (n : ℕ) (s : State) → Stopped (halt n s)
unfolding halt going
halt-stops n s = go (eqb s.parser.stop 0) refl
  where
    go : (t : Bool) → eqb s.parser.stop 0 ≡ t → Stopped (cond t (stopped n s) s)
    go true e h = omega (arith, h)
    go false e h = eqb-false _ _ e h

pub pass-stopped : (inp : Input) (s : State) → Stopped s → pass inp s ≡ s
unfolding pass
pass-stopped inp s h = going-stopped (passed inp) s h

pub pass-goes : (inp : Input) (s : State) → Goes s → pass inp s ≡ passed inp s
unfolding pass
pass-goes inp s h = going-goes (passed inp) s h
