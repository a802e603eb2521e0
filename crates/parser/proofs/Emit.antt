-- Events entered one after another. How the counters go depends on the room alone and not on what is in the words (`advance`); while
-- the parser goes on, each event had room (`Went`); and what events do not see may be changed before or after them (`emit-unseen`).
-- Assumes nothing.
use Prim.Native.Nat.{ℕ, zero, suc, ◌+◌, ◌≤◌, ◌<◌, max}
use native.Mathlib.Omega.{arith}
use mathlib.Core.Path.{◌≡◌, refl, ap, ap₂, ◌∙◌}
use mathlib.Core.Bool.{Bool, true, false, cond}
use mathlib.Core.List.{List, [], ◌∷◌, ◌++◌}
use lib.ListN.{length}
use lib.Dec.{eqb, ltb}
use Rattle.predictive.specs.Forest.{message, refusal}
use Rattle.predictive.specs.Events.{Event, start, token, finish, error}
use Rattle.parser.specs.declared.Counters.{Counters}
use Rattle.parser.specs.Input.{Input}
use Rattle.parser.specs.Buffer.{room}
use Rattle.parser.specs.State.{State, state, with_left, with_stop, one_used, going, stopped, appended, push_or_stop, push, halt, pass, passed, enter, emit, rewritten}
use Rattle.parser.proofs.Buffer.{room-same, put-long, put-raised, Below}
use Rattle.parser.proofs.Pushing.{Goes, Stopped, going-both, push-elim, push-stopped, push-went, halt-stopped, halt-stops, pass-stopped}

push-long : (e : Event) (s : State) → length (push e s).words ≡ length s.words
push-long e s = push-elim e s (λ r. length r.words ≡ length s.words) (λ h. refl) (λ h l. put-long s.parser e s.words) (λ h l. refl)

halt-words : (n : ℕ) (s : State) → (halt n s).words ≡ s.words
unfolding halt
halt-words n s = going-both (stopped n) s (λ r. r.words ≡ s.words) refl refl

module _ (inp : Input) where
  pub pass-words : (s : State) → (pass inp s).words ≡ s.words
  unfolding pass
  pass-words s = going-both (passed inp) s (λ r. r.words ≡ s.words) refl refl

  -- What holds of an event that is pushed, of a Token that is passed too, and of a refusal, holds of every event.
  pub enter-elim : (C : Event → State → Type 0) (s : State) → ((e : Event) → C e (push e s)) → ((k : ℕ) → C (token k) (pass inp (push (token k) s))) →
      ((n : ℕ) → C (error (refusal n)) (halt n s)) → (e : Event) → C e (enter inp e s)
  unfolding enter
  enter-elim C s a b c (start k up) = a (start k up)
  enter-elim C s a b c (token k) = b k
  enter-elim C s a b c finish = a finish
  enter-elim C s a b c (error (message m)) = a (error (message m))
  enter-elim C s a b c (error (refusal n)) = c n

  pub emit-append : (es ds : List Event) (s : State) → emit inp (es ++ ds) s ≡ emit inp ds (emit inp es s)
  unfolding emit
  emit-append [] ds s = refl
  emit-append (e ∷ es) ds s = emit-append es ds (enter inp e s)

  enter-long : (e : Event) (s : State) → length (enter inp e s).words ≡ length s.words
  enter-long e s =
      enter-elim (λ e r. length r.words ≡ length s.words) s (λ e. push-long e s) (λ k. ap length (pass-words (push (token k) s)) ∙ push-long _ s)
      (λ n. ap length (halt-words n s)) e

  pub emit-long : (es : List Event) (s : State) → length (emit inp es s).words ≡ length s.words
  unfolding emit
  emit-long [] s = refl
  emit-long (e ∷ es) s = emit-long es (enter inp e s) ∙ enter-long e s

  enter-room : (e : Event) (s : State) → room (enter inp e s).words ≡ room s.words
  enter-room e s = room-same s.words (enter inp e s).words (enter-long e s)

  -- STOPPED ------------------------------------------------------------------------------------------------------------

  enter-stopped : (e : Event) (s : State) → Stopped s → enter inp e s ≡ s
  enter-stopped e s h =
      enter-elim (λ e r. r ≡ s) s (λ e. push-stopped e s h) (λ k. ap (pass inp) (push-stopped _ s h) ∙ pass-stopped inp s h) (λ n. halt-stopped n s h) e

  pub emit-stopped : (es : List Event) (s : State) → Stopped s → emit inp es s ≡ s
  unfolding emit
  emit-stopped [] s h = refl
  emit-stopped (e ∷ es) s h = ap (emit inp es) (enter-stopped e s h) ∙ emit-stopped es s h

  -- COUNTERS -----------------------------------------------------------------------------------------------------------

  -- the counters after an event, where there is room for n
  abbrev pub counted : ℕ → Counters → Counters
  counted n p = cond (ltb p.used n) (one_used p) (with_stop 5 p)

  abbrev pub moved : Counters → Counters
  moved p = cond (eqb p.stop 0) (passed inp (state p [])).parser p

  abbrev pub one_on : ℕ → Event → Counters → Counters
  one_on n (start k up) p = counted n p
  one_on n (token k) p = moved (counted n p)
  one_on n finish p = counted n p
  one_on n (error (message m)) p = counted n p
  one_on n (error (refusal r)) p = with_stop (max 1 r) p

  abbrev pub step-on : ℕ → Event → Counters → Counters
  step-on n e p = cond (eqb p.stop 0) (one_on n e p) p

  unfoldable pub advance : ℕ → List Event → Counters → Counters
  advance n [] p = p
  advance n (e ∷ es) p = advance n es (step-on n e p)

  pub advance-append : (n : ℕ) (es ds : List Event) (p : Counters) → advance n (es ++ ds) p ≡ advance n ds (advance n es p)
  unfolding advance
  advance-append n [] ds p = refl
  advance-append n (e ∷ es) ds p = advance-append n es ds (step-on n e p)

  push-counts : (e : Event) (s : State) → (push e s).parser ≡ cond (eqb s.parser.stop 0) (counted (room s.words) s.parser) s.parser
  unfolding push going
  push-counts e s = go (eqb s.parser.stop 0) (ltb s.parser.used (room s.words))
    where
      go : (t u : Bool) → (cond t (cond u (appended e s) (stopped 5 s)) s).parser ≡ cond t (cond u (one_used s.parser) (with_stop 5 s.parser)) s.parser
      go true true = refl
      go true false = refl
      go false u = refl

  pass-moves : (s : State) → (pass inp s).parser ≡ moved s.parser
  unfolding pass going
  pass-moves s = go (eqb s.parser.stop 0)
    where
      go : (t : Bool) → (cond t (passed inp s) s).parser ≡ cond t (passed inp (state s.parser [])).parser s.parser
      go true = refl
      go false = refl

  halt-counts : (n : ℕ) (s : State) → (halt n s).parser ≡ cond (eqb s.parser.stop 0) (stopped n s).parser s.parser
  unfolding halt going
  halt-counts n s = go (eqb s.parser.stop 0)
    where
      go : (t : Bool) → (cond t (stopped n s) s).parser ≡ cond t (stopped n s).parser s.parser
      go true = refl
      go false = refl

  enter-counts : (e : Event) (s : State) → (enter inp e s).parser ≡ step-on (room s.words) e s.parser
  unfolding enter
  enter-counts (start k up) s = push-counts _ s
  enter-counts (token k) s = pass-moves (push (token k) s) ∙ ap moved (push-counts (token k) s) ∙ go (eqb s.parser.stop 0) refl
    where
      go : (t : Bool) → eqb s.parser.stop 0 ≡ t →
          moved (cond t (counted (room s.words) s.parser) s.parser) ≡ cond t (moved (counted (room s.words) s.parser)) s.parser
      go true e = refl
      go false e = rw e refl
  enter-counts finish s = push-counts _ s
  enter-counts (error (message m)) s = push-counts _ s
  enter-counts (error (refusal n)) s = halt-counts n s

  pub emit-advance : (es : List Event) (s : State) → (emit inp es s).parser ≡ advance (room s.words) es s.parser
  unfolding emit advance
  emit-advance [] s = refl
  emit-advance (e ∷ es) s =
      emit-advance es (enter inp e s)
      ∙ ap₂ (λ (n : ℕ) (p : Counters). advance n es p) (enter-room e s) (enter-counts e s)

  -- ROOM ---------------------------------------------------------------------------------------------------------------

  -- Where the parser goes on after the events, each had room.
  pub record Went (es : List Event) (s r : State) : Type 0 where
    pub goes : Goes s
    pub used : r.parser.used ≡ s.parser.used + length es
    pub fits : (k : ℕ) → k < length es → s.parser.used + k < room s.words

  push-went_one : (e : Event) (s : State) → Goes (push e s) → Went (e ∷ []) s (push e s)
  push-went_one e s h =
      let w = push-went e s h in
      record { goes = w.0; used = ap (λ (r : State). r.parser.used) w.2; fits = λ k l. omega (arith, l, w.1) }

  -- passing a token keeps the event counter, and goes on only where the parser went
  pass-used : (s : State) → (pass inp s).parser.used ≡ s.parser.used
  unfolding pass
  pass-used s = going-both (passed inp) s (λ r. r.parser.used ≡ s.parser.used) refl refl

  pub pass-went_on : (s : State) → Goes (pass inp s) → Goes s
  unfolding pass
  pass-went_on s = going-both (passed inp) s (λ r. Goes r → Goes s) (λ h. h) (λ h. h)

  pass-went : (e : Event) (s r : State) → (Goes r → Went (e ∷ []) s r) → Goes (pass inp r) → Went (e ∷ []) s (pass inp r)
  pass-went e s r f h = let w = f (pass-went_on r h) in record { goes = w.goes; used = pass-used r ∙ w.used; fits = w.fits }

  pub enter-went : (e : Event) (s : State) → Goes (enter inp e s) → Went (e ∷ []) s (enter inp e s)
  enter-went e s =
      enter-elim (λ e r. Goes r → Went (e ∷ []) s r) s (λ e. push-went_one e s) (λ k. pass-went (token k) s (push (token k) s) (push-went_one (token k) s))
      (λ n h. absurd (halt-stops n s h)) e

  pub emit-went : (es : List Event) (s : State) → Goes (emit inp es s) → Went es s (emit inp es s)
  unfolding emit
  emit-went [] s h = record { goes = h; used = omega arith; fits = λ k l. let z : ⊥ = omega (arith, l) in absurd z }
  emit-went (e ∷ es) s h =
      let i = emit-went es (enter inp e s) h in
      let j = enter-went e s i.goes in
      record { goes = j.goes; used = omega (arith, i.used, j.used); fits = each i.fits j.fits j.used }
    where
      each : ((k : ℕ) → k < length es → (enter inp e s).parser.used + k < room (enter inp e s).words) →
          ((k : ℕ) → k < 1 → s.parser.used + k < room s.words) → (enter inp e s).parser.used ≡ s.parser.used + 1 →
          (k : ℕ) → k < suc (length es) → s.parser.used + k < room s.words
      each f g u zero l = g 0 (omega arith)
      each f g u (suc k) l = omega (arith, f k (omega (arith, l)), u, enter-room e s)

  -- CHANGES THAT EVENTS DO NOT SEE --------------------------------------------------------------------------------------

  -- A change of states that makes no difference to what is pushed from an event on.
  pub record Unseen (from : ℕ) (f : State → State) : Type 0 where
    pub stop : (s : State) → (f s).parser.stop ≡ s.parser.stop
    pub used : (s : State) → (f s).parser.used ≡ s.parser.used
    pub rooms : (s : State) → room (f s).words ≡ room s.words
    pub pushes : (e : Event) (s : State) → from ≤ s.parser.used → appended e (f s) ≡ f (appended e s)
    pub stops : (n : ℕ) (s : State) → stopped n (f s) ≡ f (stopped n s)
    pub passes : (s : State) → passed inp (f s) ≡ f (passed inp s)

  -- a Start before them, changed where it stands
  pub rewritten-unseen : {m : ℕ} {f : List ℕ → List ℕ} → Below m f → Unseen (suc m) (rewritten f)
  rewritten-unseen {m} {f} x =
      record {
        stop = λ s. refl;
        used = λ s. refl;
        rooms = λ s. room-same s.words (f s.words) (x.long s.words);
        pushes = λ e s h. ap (state (one_used s.parser)) (x.over s.parser e s.words h);
        stops = λ n s. refl;
        passes = λ s. refl;
      }

  -- the openers left
  abbrev pub raised : ℕ → State → State
  raised l s = state (with_left l s.parser) s.words

  pub raised-unseen : (l : ℕ) → Unseen 0 (raised l)
  raised-unseen l =
      record {
        stop = λ s. refl;
        used = λ s. refl;
        rooms = λ s. refl;
        pushes = λ e s h. ap (state (with_left l (one_used s.parser))) (put-raised l s.parser e s.words);
        stops = λ n s. refl;
        passes = λ s. refl;
      }

  enter-used : (e : Event) (s : State) → s.parser.used ≤ (enter inp e s).parser.used
  unfolding halt
  enter-used e s =
      enter-elim (λ e r. s.parser.used ≤ r.parser.used) s more (λ k. omega (arith, more (token k), pass-used (push (token k) s)))
      (λ n. going-both (stopped n) s (λ r. s.parser.used ≤ r.parser.used) (omega arith) (omega arith)) e
    where
      more : (e : Event) → s.parser.used ≤ (push e s).parser.used
      more e = push-elim e s (λ r. s.parser.used ≤ r.parser.used) (λ h. omega arith) (λ h l. omega arith) (λ h l. omega arith)

  module _ {from : ℕ} {f : State → State} (x : Unseen from f) where
    -- a step that the parser makes while it goes on
    going-unseen : (g : State → State) (s : State) → g (f s) ≡ f (g s) → going g (f s) ≡ f (going g s)
    unfolding going
    going-unseen g s h = ap (λ (n : ℕ). cond (eqb n 0) (g (f s)) (f s)) (x.stop s) ∙ go (eqb s.parser.stop 0)
      where
        go : (t : Bool) → cond t (g (f s)) (f s) ≡ f (cond t (g s) s)
        go true = h
        go false = refl

    push-unseen : (e : Event) (s : State) → from ≤ s.parser.used → push e (f s) ≡ f (push e s)
    unfolding push
    push-unseen e s h =
        going-unseen (push_or_stop e) s
        (ap₂ (λ (u n : ℕ). cond (ltb u n) (appended e (f s)) (stopped 5 (f s))) (x.used s) (x.rooms s) ∙ go (ltb s.parser.used (room s.words)))
      where
        go : (t : Bool) → cond t (appended e (f s)) (stopped 5 (f s)) ≡ f (cond t (appended e s) (stopped 5 s))
        go true = x.pushes e s h
        go false = x.stops 5 s

    enter-unseen : (e : Event) (s : State) → from ≤ s.parser.used → enter inp e (f s) ≡ f (enter inp e s)
    unfolding enter pass halt
    enter-unseen (start k up) s h = push-unseen _ s h
    enter-unseen (token k) s h = ap (pass inp) (push-unseen _ s h) ∙ going-unseen (passed inp) (push (token k) s) (x.passes (push (token k) s))
    enter-unseen finish s h = push-unseen _ s h
    enter-unseen (error (message m)) s h = push-unseen _ s h
    enter-unseen (error (refusal n)) s h = going-unseen (stopped n) s (x.stops n s)

    pub emit-unseen : (es : List Event) (s : State) → from ≤ s.parser.used → emit inp es (f s) ≡ f (emit inp es s)
    unfolding emit
    emit-unseen [] s h = refl
    emit-unseen (e ∷ es) s h = ap (emit inp es) (enter-unseen e s h) ∙ emit-unseen es (enter inp e s) (omega (arith, h, enter-used e s))
