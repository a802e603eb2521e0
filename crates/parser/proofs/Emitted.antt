-- What is known of a parser and its words after events (`Emitted`): events and then others, a Start that is changed where it stands, and
-- pushing, completing and preceding in these terms. Assumes nothing.
use Prim.Native.Nat.{ℕ, ◌+◌, ◌-◌, ◌<◌, zero-le}
use native.Mathlib.Omega.{arith}
use mathlib.Core.Path.{◌≡◌, refl, sym, ap, ap₂, subst, ◌∙◌}
use mathlib.Core.Bool.{Bool, true, false, cond}
use mathlib.Core.Logic.{◌⊎◌, inl, inr}
use mathlib.Core.List.{List, [], ◌∷◌, ◌++◌}
use lib.ListN.{length}
use lib.Dec.{eqb, ltb}
use Rattle.predictive.specs.Events.{Event, start, finish}
use Rattle.parser.specs.declared.Counters.{Counters}
use Rattle.parser.specs.Counters.{Started, Completed}
use Rattle.parser.specs.declared.Marker.{Marker}
use Rattle.parser.specs.Input.{Input, input, rest}
use Rattle.parser.specs.Buffer.{room, put, named, linked}
use Rattle.parser.specs.State.{State, state, with_left, one_used, going, appended, push, enter, emit, rewritten, precede}
use Rattle.parser.specs.Reads.{Emitted, Starts, Completes}
use Rattle.parser.proofs.Buffer.{room-same, Below, named-below, linked-below, named-own, linked-own}
use Rattle.parser.proofs.Pushing.{Goes, Stopped, goes-or_stopped, push-went, push-fits}
use Rattle.parser.proofs.Marks.{complete-stopped, complete-goes, precede-links}
use Rattle.parser.proofs.Emit.{emit-append, emit-long, emit-stopped, advance, advance-append, emit-advance, emit-went, rewritten-unseen, raised, raised-unseen, emit-unseen}
use Rattle.parser.proofs.Counting.{advance-left, one-rest}

abbrev parser-of : State → Counters
parser-of s = s.parser

abbrev words_of : State → List ℕ
words_of s = s.words

abbrev stop-of : State → ℕ
stop-of s = s.parser.stop

-- AFTER EVENTS ---------------------------------------------------------------------------------------------------------

module _ {inp : Input} {es : List Event} {p : Counters} {b : List ℕ} {r : Counters} {c : List ℕ} where
  -- what a step by `emit` leaves
  pub emitted : state r c ≡ emit inp es (state p b) → Emitted inp es p b r c
  emitted e =
      record { parser = ap parser-of e; words = λ h. ap words_of e; long = ap (λ (s : State). length s.words) e ∙ emit-long inp es (state p b) }

  -- .. and what a parser that stops has left
  pub emitted-stopped : r ≡ (emit inp es (state p b)).parser → (r.stop ≡ 0 → ⊥) → length c ≡ length b → Emitted inp es p b r c
  emitted-stopped e f l = record { parser = e; words = λ h. absurd (f h); long = l }

  module _ (x : Emitted inp es p b r c) where
    pub emitted-state : r.stop ≡ 0 → state r c ≡ emit inp es (state p b)
    emitted-state h = ap₂ state x.parser (x.words h)

    goes_on : r.stop ≡ 0 → Goes (emit inp es (state p b))
    goes_on h = sym (ap (λ (t : Counters). t.stop) x.parser) ∙ h

    pub emitted-goes : r.stop ≡ 0 → p.stop ≡ 0
    emitted-goes h = (emit-went inp es (state p b) (goes_on h)).goes

    pub emitted-used : r.stop ≡ 0 → r.used ≡ p.used + length es
    emitted-used h = ap (λ (t : Counters). t.used) x.parser ∙ (emit-went inp es (state p b) (goes_on h)).used

    pub emitted-advance : r ≡ advance inp (room b) es p
    emitted-advance = x.parser ∙ emit-advance inp es (state p b)

module _ {inp : Input} {es ds : List Event} {p : Counters} {b : List ℕ} {q : Counters} {c : List ℕ} {r : Counters} {d : List ℕ} where
  -- Events and then others: of the others it matters only that they are ds while the parser goes on.
  pub emitted-append : {fs : List Event} → Emitted inp es p b q c → Emitted inp fs q c r d → (q.stop ≡ 0 → fs ≡ ds) → Emitted inp (es ++ ds) p b r d
  emitted-append {fs} x y e = go (goes-or_stopped q.stop)
    where
      s : State
      s = emit inp es (state p b)

      both : emit inp (es ++ ds) (state p b) ≡ emit inp ds s
      both = emit-append inp es ds (state p b)

      go : (q.stop ≡ 0) ⊎ (q.stop ≡ 0 → ⊥) → Emitted inp (es ++ ds) p b r d
      go (inl g) =
          let t : emit inp fs (state q c) ≡ emit inp (es ++ ds) (state p b) = ap₂ (emit inp) (e g) (emitted-state x g) ∙ sym both in
          record { parser = y.parser ∙ ap parser-of t; words = λ h. y.words h ∙ ap words_of t; long = y.long ∙ x.long }
      go (inr f) =
          let stays : r ≡ q = y.parser ∙ ap parser-of (emit-stopped inp fs (state q c) f) in
          let stopped : Stopped s = λ h. f (ap (λ (t : Counters). t.stop) x.parser ∙ h) in
          emitted-stopped (stays ∙ x.parser ∙ sym (ap parser-of (both ∙ emit-stopped inp ds s stopped)))
          (λ h. f (sym (ap (λ (t : Counters). t.stop) stays) ∙ h)) (y.long ∙ x.long)

-- Other events, the same while the parser goes on.
pub emitted-either : {inp : Input} {es ds : List Event} {p : Counters} {b : List ℕ} {r : Counters} {c : List ℕ} → (p.stop ≡ 0 → es ≡ ds) → Emitted inp es p b r c →
    Emitted inp ds p b r c
unfolding emit
emitted-either {inp} {p = p} {b = b} e x = emitted-append {inp = inp} {es = []} {p = p} {b = b} (emitted refl) x e

-- STARTS ---------------------------------------------------------------------------------------------------------------

-- The counters do not see a Start's kind and parent.
pub advance-start : (inp : Input) (n : ℕ) (ds es : List Event) (j k up vp : ℕ) (p : Counters) →
    advance inp n (ds ++ start j up ∷ es) p ≡ advance inp n (ds ++ start k vp ∷ es) p
unfolding advance
advance-start inp n ds es j k up vp p =
    advance-append inp n ds (start j up ∷ es) p ∙ sym (advance-append inp n ds (start k vp ∷ es) p)

-- By f, the Start that was just written at m becomes another.
abbrev Becomes : (m : ℕ) → (List ℕ → List ℕ) → (one other : Event) → Type 0
Becomes m f e d = (t : Counters) (a : List ℕ) → t.used ≡ m → t.used < room a → f (put t e a) ≡ put t d a

-- A Start among the events is given another kind or parent by a change of its words: as if it had been pushed so.
module _ (inp : Input) (ds es : List Event) (j k up vp : ℕ) {m : ℕ} {f : List ℕ → List ℕ} (below : Below m f) where
  emit-restart : (s : State) → Goes (emit inp (ds ++ start j up ∷ es) s) → m ≡ s.parser.used + length ds → Becomes m f (start j up) (start k vp) →
      rewritten f (emit inp (ds ++ start j up ∷ es) s) ≡ emit inp (ds ++ start k vp ∷ es) s
  unfolding emit enter
  emit-restart s h e own =
      let t = emit inp ds s in
      let a = emit-append inp ds (start j up ∷ es) s in
      let g = (emit-went inp es (push (start j up) t) (sym (ap stop-of a) ∙ h)).goes in
      let w = push-went (start j up) t g in
      let u : t.parser.used ≡ m = (emit-went inp ds s w.0).used ∙ sym e in
      ap (rewritten f) (a ∙ ap (emit inp es) w.2)
      ∙ sym (emit-unseen inp (rewritten-unseen inp below) es (appended (start j up) t) (omega (arith, u)))
      ∙ ap (λ (b : List ℕ). emit inp es (state (one_used t.parser) b)) (own t.parser t.words u w.1)
      ∙ sym (emit-append inp ds (start k vp ∷ es) s ∙ ap (emit inp es) (push-fits (start k vp) t w.0 w.1))

  pub emitted-restart : {p : Counters} {b : List ℕ} {q : Counters} {c : List ℕ} → Emitted inp (ds ++ start j up ∷ es) p b q c → (q.stop ≡ 0 → m ≡ p.used + length ds) →
      (q.stop ≡ 0 → Becomes m f (start j up) (start k vp)) → Emitted inp (ds ++ start k vp ∷ es) p b q (f c)
  emitted-restart {p} {b} {q} {c} x e own =
      record {
        parser = emitted-advance x ∙ advance-start inp (room b) ds es j k up vp p ∙ sym (emit-advance inp (ds ++ start k vp ∷ es) (state p b));
        words = λ h. ap f (x.words h) ∙ ap words_of (emit-restart (state p b) (goes_on x h) (e h) (own h));
        long = below.long c ∙ x.long;
      }

-- It is given a kind, or a parent at the next event.
pub emitted-named : {inp : Input} (ds es : List Event) (j up k : ℕ) {m : ℕ} {p : Counters} {b : List ℕ} {q : Counters} {c : List ℕ} →
    Emitted inp (ds ++ start j up ∷ es) p b q c → (q.stop ≡ 0 → m ≡ p.used + length ds) → Emitted inp (ds ++ start k 0 ∷ es) p b q (named m k c)
emitted-named {inp} ds es j up k {m} x e =
    emitted-restart inp ds es j k up 0 (named-below m k) x e (λ h t a i l. subst (λ (n : ℕ). named n k (put t (start j up) a) ≡ put t (start k 0) a) i (named-own t j up k a))

pub emitted-linked : {inp : Input} (ds es : List Event) (k up : ℕ) {m n : ℕ} {p : Counters} {b : List ℕ} {q : Counters} {c : List ℕ} →
    Emitted inp (ds ++ start k 0 ∷ es) p b q c → (q.stop ≡ 0 → m ≡ p.used + length ds) → (q.stop ≡ 0 → n ≡ up) → Emitted inp (ds ++ start k up ∷ es) p b q (linked m n c)
emitted-linked {inp} ds es k up {m} {n} x e f =
    emitted-restart inp ds es k k 0 up (linked-below m n) x e
    (λ h t a i l. ap₂ (λ (i d : ℕ). linked i d (put t (start k 0) a)) (sym i) (f h) ∙ linked-own t k up a l)

-- PUSHING, COMPLETING AND PRECEDING ------------------------------------------------------------------------------------

module _ {inp : Input} {p : Counters} {b : List ℕ} where
  pub emitted-started : {s : Started} {c : List ℕ} → Starts p b s c (push (start 0 0)) → Emitted inp (start 0 0 ∷ []) p b s.p c
  unfolding emit enter
  emitted-started x = emitted x.ran

  pub emitted-completed : {m : Marker} {k : ℕ} {r : Completed} {c : List ℕ} → Completes m k p b r c →
      Emitted inp (finish ∷ []) p (named m.0 k b) r.p c
  unfolding emit enter
  emitted-completed {m} {k} {r} {c} x = go (goes-or_stopped p.stop)
    where
      go : (p.stop ≡ 0) ⊎ (p.stop ≡ 0 → ⊥) → Emitted inp (finish ∷ []) p (named m.0 k b) r.p c
      go (inl h) = emitted (x.ran ∙ complete-goes m.0 k (state p b) h)
      go (inr f) =
          let e = x.ran ∙ complete-stopped m.0 k (state p b) f in
          emitted-stopped (ap parser-of e ∙ sym (ap parser-of (emit-stopped inp (finish ∷ []) (state p (named m.0 k b)) f)))
          (λ h. f (ap stop-of (sym e) ∙ h)) (ap (λ (u : State). length u.words) e ∙ sym ((named-below m.0 k).long b))

-- What preceding does to the counters: a Start is pushed.
precede-counts : (m : ℕ) (s : State) → ((precede m s).parser ≡ (push (start 0 0) s).parser) × (length (precede m s).words ≡ length (push (start 0 0) s).words)
unfolding precede going
precede-counts m s = go (eqb t.parser.stop 0) (ltb m s.parser.used)
  where
    t : State
    t = push (start 0 0) s

    f : List ℕ → List ℕ
    f = linked m (s.parser.used - m)

    go : (u v : Bool) → ((cond u (cond v (rewritten f t) t) t).parser ≡ t.parser) × (length (cond u (cond v (rewritten f t) t) t).words ≡ length t.words)
    go true true = (refl, (linked-below m (s.parser.used - m)).long t.words)
    go true false = (refl, refl)
    go false v = (refl, refl)

pub emitted-preceded : {inp : Input} {p : Counters} {b : List ℕ} {s : Started} {c : List ℕ} (m : ℕ) → (p.stop ≡ 0 → m < p.used) → Starts p b s c (precede m) →
    Emitted inp (start 0 0 ∷ []) p (linked m (p.used - m) b) s.p c
unfolding emit enter
emitted-preceded {inp} {p} {b} {s} {c} m l x = go (goes-or_stopped t.parser.stop)
  where
    t : State
    t = push (start 0 0) (state p b)

    f : List ℕ → List ℕ
    f = linked m (p.used - m)

    below : Below m f
    below = linked-below m (p.used - m)

    same : s.p ≡ t.parser
    same = ap parser-of x.ran ∙ (precede-counts m (state p b)).0

    counts : t.parser ≡ (emit inp (start 0 0 ∷ []) (state p (f b))).parser
    counts = emit-advance inp (start 0 0 ∷ []) (state p b)
        ∙ ap (λ (n : ℕ). advance inp n (start 0 0 ∷ []) p) (sym (room-same b (f b) (below.long b)))
        ∙ sym (emit-advance inp (start 0 0 ∷ []) (state p (f b)))

    long : length c ≡ length (f b)
    long = ap (λ (v : State). length v.words) x.ran ∙ (precede-counts m (state p b)).1 ∙ emit-long inp (start 0 0 ∷ []) (state p b) ∙ sym (below.long b)

    go : (t.parser.stop ≡ 0) ⊎ (t.parser.stop ≡ 0 → ⊥) → Emitted inp (start 0 0 ∷ []) p (f b) s.p c
    go (inr h) = emitted-stopped (same ∙ counts) (λ i. h (sym (ap (λ (v : Counters). v.stop) same) ∙ i)) long
    go (inl g) =
        let k = l (push-went (start 0 0) (state p b) g).0 in
        emitted (x.ran ∙ precede-links m (state p b) t refl g k ∙ sym (emit-unseen inp (rewritten-unseen inp below) (start 0 0 ∷ []) (state p b) k))

module _ (inp : Input) {p : Counters} {b : List ℕ} {s : Started} {c : List ℕ} (m : ℕ) (x : Starts p b s c (precede m)) where
  preceded_counts : s.p ≡ advance inp (room b) (start 0 0 ∷ []) p
  unfolding emit enter
  preceded_counts = ap parser-of x.ran ∙ (precede-counts m (state p b)).0 ∙ emit-advance inp (start 0 0 ∷ []) (state p b)

  pub preceded_rest : (rest inp s.p ≡ rest inp p) × (s.p.left ≡ p.left) × (length c ≡ length b)
  unfolding emit enter
  preceded_rest = (
    ap (rest inp) preceded_counts ∙ one-rest inp (room b) (start 0 0) p refl,
    ap (λ (t : Counters). t.left) preceded_counts ∙ advance-left inp (room b) (start 0 0 ∷ []) p,
    ap (λ (t : State). length t.words) x.ran ∙ (precede-counts m (state p b)).1 ∙ emit-long inp (start 0 0 ∷ []) (state p b),
  )

-- It goes on only where the parser went.
pub preceded_goes : {p : Counters} {b : List ℕ} {s : Started} {c : List ℕ} (m : ℕ) → Starts p b s c (precede m) → s.p.stop ≡ 0 → p.stop ≡ 0
preceded_goes {p} {b} m x h =
    (push-went (start 0 0) (state p b) (ap (λ (t : Counters). t.stop) (sym (ap parser-of x.ran ∙ (precede-counts m (state p b)).0)) ∙ h)).0

-- The openers left stay as they are.
pub emitted-left : {inp : Input} {es : List Event} {p : Counters} {b : List ℕ} {r : Counters} {c : List ℕ} → Emitted inp es p b r c → r.left ≡ p.left
emitted-left {inp} {es} {p} {b} x = ap (λ (t : Counters). t.left) (emitted-advance x) ∙ advance-left inp (room b) es p

-- Events from another number of openers left, which is then set back.
pub emitted-raised : {inp : Input} {es : List Event} {p : Counters} {b : List ℕ} {r : Counters} {c : List ℕ} (l : ℕ) → Emitted inp es (with_left l p) b r c →
    Emitted inp es p b (with_left p.left r) c
emitted-raised {inp} {es} {p} {b} {r} {c} l x =
    let s = emit inp es (state p b) in
    let e : emit inp es (state (with_left l p) b) ≡ raised inp l s = emit-unseen inp (raised-unseen inp l) es (state p b) zero-le in
    let left : s.parser.left ≡ p.left = ap (λ (t : Counters). t.left) (emit-advance inp es (state p b)) ∙ advance-left inp (room b) es p in
    record { parser = ap (with_left p.left) (x.parser ∙ ap parser-of e) ∙ ap (λ (n : ℕ). with_left n s.parser) (sym left); words = λ h. x.words h ∙ ap words_of e; long = x.long }

pub started-left : {p : Counters} {b : List ℕ} {s : Started} {c : List ℕ} → Starts p b s c (push (start 0 0)) → s.p.left ≡ p.left
started-left x = emitted-left (emitted-started {inp = input [] []} x)

pub preceded_left : {p : Counters} {b : List ℕ} {s : Started} {c : List ℕ} (m : ℕ) → Starts p b s c (precede m) → s.p.left ≡ p.left
preceded_left m x = (preceded_rest (input [] []) m x).1

pub completed-left : {m : Marker} {k : ℕ} {p : Counters} {b : List ℕ} {r : Completed} {c : List ℕ} → Completes m k p b r c → r.p.left ≡ p.left
completed-left x = emitted-left (emitted-completed {inp = input [] []} x)
