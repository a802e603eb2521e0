-- Left-leaning chains. A chain's invariant carries the forest read so far, which is one node, and where its own Start stands. Assumes
-- nothing.
use Rattle.std.specs.Prelude.{Some, None}
use Prim.Native.Nat.{ℕ, zero, suc, ◌+◌, ◌-◌, ◌≤◌, ◌<◌}
use native.Mathlib.Omega.{arith}
use mathlib.Core.Path.{◌≡◌, refl, sym, ap, subst, ◌∙◌}
use mathlib.Core.Bool.{Bool, true, false}
use mathlib.Core.Logic.{◌⊎◌, inl, inr}
use mathlib.Core.List.{List, [], ◌∷◌, ◌++◌, append_assoc, append-nil}
use lib.ListN.{length, length-append}
use borrow.Author.Tests.{eq-eqb, ne_eqb}
use Rattle.predictive.specs.Forest.{Forest, nil, err, wrap}
use Rattle.predictive.specs.Grammar.{Head, at, Part, leaning}
use Rattle.predictive.specs.Reader.{Result, miss, done, pick, after, firstly, unfinished, lean, step, read}
use Rattle.predictive.specs.Events.{Event, start, finish, events, behind_start, events_of, left_over}
use Rattle.predictive.proofs.Proper.{Whole, whole-wrap}
use Rattle.predictive.proofs.Lookahead.{single}
use Rattle.predictive.proofs.Readings.{reading-whole}
use Rattle.predictive.proofs.EventLaws.{length_events}
use Rattle.predictive.proofs.Takes.{wrapped, takes}
use Rattle.aadl.specs.Section.{Rule, grammar}
use Rattle.parser.specs.declared.Counters.{Counters}
use Rattle.parser.specs.Counters.{Started, Completed}
use Rattle.parser.specs.declared.CompletedMarker.{CompletedMarker}
use Rattle.parser.specs.Input.{Input, rest}
use Rattle.parser.specs.State.{precede}
use Rattle.parser.specs.Reads.{stands, heads_of, reading_at, Became, Read, ReadOperand, marked, Starts, Completes}
use Rattle.parser.proofs.Pushing.{goes-or_stopped}
use Rattle.parser.proofs.Buffer.{named-below}
use Rattle.parser.proofs.Emitted.{emitted-goes, emitted-used, emitted-left, emitted-completed, preceded_rest}
use Rattle.parser.proofs.Join.{became_goes, became_left, became_no_more, rest-finished, stands-goes, stands_at}
use Rattle.parser.proofs.Loops.{μ, remains, took_one}
use Rattle.parser.proofs.Turns.{stopped-within, turned}
use Rattle.parser.proofs.Nodes.{Found, found, marker_found, Missing, missing, nothing-missing}

-- Some events begin with those of f, with some forward parent.
data Begins (f : Forest) : List Event → Type 0 where
  begins : {es : List Event} (up : ℕ) (ds : List Event) → es ≡ events f up ++ ds → Begins f es

begins-wrapped : (k : ℕ) (f g : Forest) (es : List Event) → Begins (wrap k f g nil) es → Begins f es
unfolding events
begins-wrapped k f g es (begins up ds e) =
    begins (behind_start f) ((start k up ∷ events g 0) ++ finish ∷ ds)
    (e ∙ append_assoc (events f (behind_start f) ++ (start k up ∷ events g 0)) (finish ∷ []) ds ∙ append_assoc (events f (behind_start f)) (start k up ∷ events g 0) (finish ∷ ds))

lean-begins : (body : List ℕ → Result) (hs : List Head) (k m : ℕ) (f : Forest) (ys : List ℕ) → Begins f (events_of (lean body hs k m f ys))
unfolding lean events_of
lean-begins body hs k zero f ys = begins-wrapped k f unfinished _ (begins 0 [] (sym (append-nil _)))
lean-begins body hs k (suc m) f ys = go (at hs ys) (body ys) (λ g zs. begins-wrapped k f g _ (lean-begins body hs k m (wrap k f g nil) zs))
  where
    go : (t : Bool) (o : Result) → ((g : Forest) (zs : List ℕ) → Begins f (events_of (lean body hs k m (wrap k f g nil) zs))) →
        Begins f (events_of (pick t (after o (λ g zs. lean body hs k m (wrap k f g nil) zs)) (done f ys)))
    go true (miss x zs) h = h _ zs
    go true (done g zs) h = h g zs
    go false o h = begins 0 [] (sym (append-nil (events f 0)))

module _ (n d k : ℕ) (Q : Part Rule) where
  abbrev leaned : ℕ → Forest → List ℕ → Result
  leaned m f ys = lean (λ zs. read grammar n d Q zs) (heads_of Q) k m f ys

  -- a reader that stopped in a chain
  stopped-lean : {inp : Input} {p₀ : Counters} {b₀ : List ℕ} {p : Counters} {b : List ℕ} (m : ℕ) (f : Forest) (ys : List ℕ) → Whole f →
      Became inp (done f ys) p₀ b₀ p b → (p.stop ≡ 0 → ⊥) → Became inp (leaned m f ys) p₀ b₀ p b
  stopped-lean {inp} {p₀} {b₀} {p} {b} m f ys w x h = by (lean-begins (λ zs. read grammar n d Q zs) (heads_of Q) k m f ys)
    where
      by : Begins f (events_of (leaned m f ys)) → Became inp (leaned m f ys) p₀ b₀ p b
      by (begins up ds e) = stopped-within f ys up ds w x h e

-- Where a chain stands that goes on: the forest so far, its own Start, and that the rest of the chain makes the whole of it.
record Linked (inp : Input) (n d k : ℕ) (P Q : Part Rule) (p₀ : Counters) (b₀ : List ℕ) (p : Counters) (b : List ℕ) (m : ℕ) : Type 0 where
  forest : Forest
  left-of : List ℕ
  one : Whole forest
  so_far : Became inp (done forest left-of) p₀ b₀ p b
  own : m ≡ p.used - behind_start forest
  allowed : ℕ
  enough : length (rest inp p) < allowed
  whole : reading_at inp n d (leaning k P Q) p₀ ≡ leaned n d k Q allowed forest left-of

pub record Chaining (inp : Input) (d k : ℕ) (P Q : Part Rule) (p₀ : Counters) (b₀ : List ℕ) (p : Counters) (b : List ℕ) (m : ℕ) : Type 0 where
  on : (n : ℕ) → length (rest inp p₀) < n → p.stop ≡ 0 → Linked inp n d k P Q p₀ b₀ p b m
  off : (n : ℕ) → length (rest inp p₀) < n → (p.stop ≡ 0 → ⊥) → Became inp (reading_at inp n d (leaning k P Q) p₀) p₀ b₀ p b
  no_more : length (rest inp p) ≤ length (rest inp p₀)
  pub left : p.left ≡ p₀.left
  pub long : length b ≡ length b₀

-- what a chain makes of its first operand, once its reader stopped
stopped-first : {inp : Input} {d : ℕ} {P : Part Rule} {p₀ : Counters} {b₀ : List ℕ} {p : Counters} {b : List ℕ} (k : ℕ) (Q : Part Rule) → single P ≡ true →
    Read inp d P p₀ b₀ p b →
    (n : ℕ) → length (rest inp p₀) < n → (p.stop ≡ 0 → ⊥) → Became inp (reading_at inp n d (leaning k P Q) p₀) p₀ b₀ p b
unfolding read step
stopped-first {inp} {d} {P} {p₀} {b₀} {p} {b} k Q s x n l h = by (reading_at inp n d P p₀) (λ f ys e. reading-whole grammar n d P (rest inp p₀) f ys s e) (x.did n l)
  where
    by : (o : Result) → ((f : Forest) (ys : List ℕ) → o ≡ done f ys → Whole f) → Became inp o p₀ b₀ p b →
        Became inp (firstly o (λ f ys. leaned n d k Q n f ys)) p₀ b₀ p b
    by (miss x ys) w y = y
    by (done f ys) w y = stopped-lean n d k Q n f ys (w f ys refl) y h

module _ {inp : Input} {d k : ℕ} {P Q : Part Rule} {p₀ : Counters} {b₀ : List ℕ} {p : Counters} {b : List ℕ} where
  -- No first operand: no chain.
  pub c-none : single P ≡ true → ReadOperand inp d P p₀ b₀ (record { p = p; lhs = None }) b →
      ReadOperand inp d (leaning k P Q) p₀ b₀ (record { p = p; lhs = None }) b
  unfolding read step marked
  c-none s x = record { reads = record { did = λ n l. go n l (goes-or_stopped p.stop) }; mark = λ n l g h. to_none n (reading_at inp n d P p₀) (nothing-missing p.used _ (x.mark n l g h)) }
    where
      to_none : (n : ℕ) (o : Result) → Missing o → None ≡ marked p.used (firstly o (λ f ys. leaned n d k Q n f ys))
      to_none n (miss f ys) missing = refl
      to_none n (done _ _) h = elim h [ ]

      go : (n : ℕ) → length (rest inp p₀) < n → (p.stop ≡ 0) ⊎ (p.stop ≡ 0 → ⊥) → Became inp (reading_at inp n d (leaning k P Q) p₀) p₀ b₀ p b
      go n l (inr h) = stopped-first k Q s x.reads n l h
      go n l (inl h) = by (reading_at inp n d P p₀) (x.reads.did n l) (nothing-missing p.used _ (x.mark n l (became_goes (x.reads.did n l) h) h))
        where
          by : (o : Result) → Became inp o p₀ b₀ p b → Missing o → Became inp (firstly o (λ f ys. leaned n d k Q n f ys)) p₀ b₀ p b
          by (miss f ys) y missing = y
          by (done _ _) y h = elim h [ ]

  -- The first operand begins a chain.
  pub c-holds : {m : CompletedMarker} → single P ≡ true → ReadOperand inp d P p₀ b₀ (record { p = p; lhs = Some m }) b → Chaining inp d k P Q p₀ b₀ p b m.0
  unfolding read step
  c-holds {m} s x =
      let y = x.reads.did (suc (length (rest inp p₀))) (omega arith) in
      record { on = go; off = stopped-first k Q s x.reads; no_more = became_no_more y; left = became_left y; long = y.emitted.long }
    where
      go : (n : ℕ) → length (rest inp p₀) < n → p.stop ≡ 0 → Linked inp n d k P Q p₀ b₀ p b m.0
      go n l h = by (reading_at inp n d P p₀) refl (x.reads.did n l) (marker_found p.used m _ (x.mark n l (became_goes (x.reads.did n l) h) h))
        where
          by : (o : Result) → reading_at inp n d P p₀ ≡ o → Became inp o p₀ b₀ p b → Found p.used m.0 o → Linked inp n d k P Q p₀ b₀ p b m.0
          by (done f ys) e y (found j) =
              record {
                forest = f;
                left-of = ys;
                one = reading-whole grammar n d P (rest inp p₀) f ys s e;
                so_far = y;
                own = j;
                allowed = n;
                enough = omega (arith, l, became_no_more y);
                whole = ap (λ (o : Result). firstly o (λ f ys. leaned n d k Q n f ys)) e;
              }
          by (miss _ _) e y h = elim h [ ]

  -- The chain ends.
  pub c-done : {m : CompletedMarker} → Chaining inp d k P Q p₀ b₀ p b m.0 → stands inp (heads_of Q) p ≡ false →
      ReadOperand inp d (leaning k P Q) p₀ b₀ (record { p = p; lhs = Some m }) b
  unfolding lean marked left_over
  c-done {m} x s = record { reads = record { did = λ n l. go n l (goes-or_stopped p.stop) }; mark = λ n l g h. ends n l h }
    where
      over : (n : ℕ) (h : p.stop ≡ 0) (y : Linked inp n d k P Q p₀ b₀ p b m.0) → reading_at inp n d (leaning k P Q) p₀ ≡ done y.forest y.left-of
      over n h y = y.whole ∙ last y.allowed y.enough
        where
          a : at (heads_of Q) y.left-of ≡ false
          a = ap (at (heads_of Q)) (sym (y.so_far.ends (became_goes y.so_far h) h)) ∙ stands_at inp (heads_of Q) p s h

          last : (i : ℕ) → length (rest inp p) < i → leaned n d k Q i y.forest y.left-of ≡ done y.forest y.left-of
          last zero l = let z : ⊥ = omega (arith, l) in absurd z
          last (suc i) l = rw a refl

      ends : (n : ℕ) → length (rest inp p₀) < n → p.stop ≡ 0 → Some m ≡ marked p.used (reading_at inp n d (leaning k P Q) p₀)
      ends n l h =
          let y = x.on n l h in
          ap (λ (i : ℕ). Some (record { 0 = i })) y.own ∙ ap (marked p.used) (sym (over n h y))

      go : (n : ℕ) → length (rest inp p₀) < n → (p.stop ≡ 0) ⊎ (p.stop ≡ 0 → ⊥) → Became inp (reading_at inp n d (leaning k P Q) p₀) p₀ b₀ p b
      go n l (inl h) = let y = x.on n l h in subst (λ (o : Result). Became inp o p₀ b₀ p b) (sym (over n h y)) y.so_far
      go n l (inr h) = x.off n l h

-- One more turn takes a token.
turn-takes : {inp : Input} {d k : ℕ} {Q : Part Rule} {p : Counters} {b : List ℕ} {s : Started} {c : List ℕ} {q : Counters} {e : List ℕ} {r : Completed} {g : List ℕ} (m : ℕ) → takes Q ≡ true →
    stands inp (heads_of Q) p ≡ true → Starts p b s c (precede m) → Read inp d Q s.p c q e → Completes s.m k q e r g → r.p.stop ≡ 0 →
    length (rest inp r.p) < length (rest inp p)
unfolding stands
turn-takes {inp} {d} {k} {Q} {p} {b} {s} m t a y z u h =
    let v = emitted-completed {inp = inp} u in
    let i = emitted-goes v h in
    let j = became_goes (z.did (suc (length (rest inp s.p))) (omega arith)) i in
    let same = (preceded_rest inp m y).0 in
    let f = took_one t (stands_same same j) z i in
    omega (arith, f, ap length same, ap length (rest-finished v))
  where
    stands_same : rest inp s.p ≡ rest inp p → s.p.stop ≡ 0 → stands inp (heads_of Q) s.p ≡ true
    stands_same e j = rw (eq-eqb s.p.stop 0 j) (ap (at (heads_of Q)) e ∙ stands_at inp (heads_of Q) p a (stands-goes inp (heads_of Q) p a))

-- .. so the measure of the chain's loop falls.
pub c-less : {inp : Input} {d k : ℕ} {Q : Part Rule} {p : Counters} {b : List ℕ} {s : Started} {c : List ℕ} {q : Counters} {e : List ℕ} {r : Completed} {g : List ℕ} (m : ℕ) → takes Q ≡ true →
    stands inp (heads_of Q) p ≡ true → Starts p b s c (precede m) → Read inp d Q s.p c q e → Completes s.m k q e r g → μ inp r.p < μ inp p
c-less {inp} {d} {k} {Q} {p} {b} {s} {c} {q} {e} {r} {g} m t a y z u = go (goes-or_stopped r.p.stop)
  where
    h : p.stop ≡ 0
    h = stands-goes inp (heads_of Q) p a

    go : (r.p.stop ≡ 0) ⊎ (r.p.stop ≡ 0 → ⊥) → μ inp r.p < μ inp p
    go (inl i) = rw (eq-eqb r.p.stop 0 i, eq-eqb p.stop 0 h) (turn-takes m t a y z u i)
    go (inr i) = rw (ne_eqb r.p.stop 0 i, eq-eqb p.stop 0 h) (remains inp (heads_of Q) p a)

-- A chain after one more turn: the forest so far is below a new node, beside what the turn has read.
record Fresh (inp : Input) (n d k : ℕ) (P Q : Part Rule) (p₀ : Counters) (b₀ : List ℕ) (p : Counters) (r : Counters) (g : List ℕ) : Type 0 where
  old : Forest
  new : Forest
  zs : List ℕ
  before : p.used ≡ p₀.used + length (events old 0)
  so_far : Became inp (done (wrap k old new nil) zs) p₀ b₀ r g
  turns : ℕ
  more : length (rest inp p) ≤ turns
  whole : reading_at inp n d (leaning k P Q) p₀ ≡ leaned n d k Q turns (wrap k old new nil) zs

module _ {inp : Input} {d k : ℕ} {P Q : Part Rule} {p₀ : Counters} {b₀ : List ℕ} {p : Counters} {b : List ℕ} {s : Started} {c : List ℕ} {q : Counters} {e : List ℕ} {r : Completed} {g : List ℕ} where
  fresh : (m : ℕ) → stands inp (heads_of Q) p ≡ true → Starts p b s c (precede m) → Read inp d Q s.p c q e → Completes s.m k q e r g → (n : ℕ) →
      length (rest inp p) < n →
      Linked inp n d k P Q p₀ b₀ p b m → Fresh inp n d k P Q p₀ b₀ p r.p g
  unfolding lean events_of left_over
  fresh m a y z u n l x = by (read grammar n d Q x.left-of) refl (turned x.forest x.left-of x.one m x.so_far (λ _. x.own) y z u n l) x.allowed x.enough x.whole
    where
      goes : p.stop ≡ 0
      goes = stands-goes inp (heads_of Q) p a

      stood : at (heads_of Q) x.left-of ≡ true
      stood = ap (at (heads_of Q)) (sym (x.so_far.ends (became_goes x.so_far goes) goes)) ∙ stands_at inp (heads_of Q) p a goes

      used : p.used ≡ p₀.used + length (events x.forest 0)
      used = emitted-used x.so_far.emitted goes

      made : (new : Forest) (zs : List ℕ) (i : ℕ) → length (rest inp p) < suc i → Became inp (done (wrap k x.forest new nil) zs) p₀ b₀ r.p g →
          reading_at inp n d (leaning k P Q) p₀ ≡ leaned n d k Q i (wrap k x.forest new nil) zs → Fresh inp n d k P Q p₀ b₀ p r.p g
      made new zs i j w v = record { old = x.forest; new = new; zs = zs; before = used; so_far = w; turns = i; more = omega (arith, j); whole = v }

      by : (o : Result) → read grammar n d Q x.left-of ≡ o → Became inp (wrapped k x.forest o) p₀ b₀ r.p g → (i : ℕ) → length (rest inp p) < i →
          reading_at inp n d (leaning k P Q) p₀ ≡ leaned n d k Q i x.forest x.left-of → Fresh inp n d k P Q p₀ b₀ p r.p g
      by o f w zero j v = let t : ⊥ = omega (arith, j) in absurd t
      by (miss h zs) f w (suc i) j v = made (err h nil) zs i j w (v ∙ rw (stood, f) refl)
      by (done h zs) f w (suc i) j v = made h zs i j w (v ∙ rw (stood, f) refl)

  -- the new node's own Start
  fresh-own : (m : ℕ) (n : ℕ) → (f : Fresh inp n d k P Q p₀ b₀ p r.p g) → Starts p b s c (precede m) → Completes s.m k q e r g → r.p.stop ≡ 0 →
      r.m.0 ≡ r.p.used - behind_start (wrap k f.old f.new nil)
  unfolding events events_of
  fresh-own m n f y u i =
      omega (
        arith,
        u.mark ∙ y.mark,
        f.before,
        emitted-used f.so_far.emitted i,
        length-append (events f.old (behind_start f.old) ++ start k 0 ∷ events f.new 0) (finish ∷ []),
        length-append (events f.old (behind_start f.old)) (start k 0 ∷ events f.new 0),
        length_events f.old (behind_start f.old) 0,
      )

  pub c-again : (m : ℕ) → takes Q ≡ true → Chaining inp d k P Q p₀ b₀ p b m → stands inp (heads_of Q) p ≡ true → Starts p b s c (precede m) →
      Read inp d Q s.p c q e →
      Completes s.m k q e r g → Chaining inp d k P Q p₀ b₀ r.p g r.m.0
  c-again m t x a y z u =
      let v = emitted-completed {inp = inp} u in
      let w = z.did (suc (length (rest inp s.p))) (omega arith) in
      record {
        on = on;
        off = off;
        no_more = omega (arith, x.no_more, became_no_more w, ap length (rest-finished v), ap length (preceded_rest inp m y).0);
        left = emitted-left v ∙ became_left w ∙ (preceded_rest inp m y).1 ∙ x.left;
        long = v.long ∙ (named-below s.m.0 k).long e ∙ w.emitted.long ∙ (preceded_rest inp m y).2 ∙ x.long;
      }
    where
      now_fresh : (n : ℕ) → length (rest inp p₀) < n → Fresh inp n d k P Q p₀ b₀ p r.p g
      now_fresh n l = fresh m a y z u n (omega (arith, l, x.no_more)) (x.on n l (stands-goes inp (heads_of Q) p a))

      on : (n : ℕ) → length (rest inp p₀) < n → r.p.stop ≡ 0 → Linked inp n d k P Q p₀ b₀ r.p g r.m.0
      on n l i =
          let f = now_fresh n l in
          record {
            forest = wrap k f.old f.new nil;
            left-of = f.zs;
            one = whole-wrap;
            so_far = f.so_far;
            own = fresh-own m n f y u i;
            allowed = f.turns;
            enough = omega (arith, f.more, turn-takes m t a y z u i);
            whole = f.whole;
          }

      off : (n : ℕ) → length (rest inp p₀) < n → (r.p.stop ≡ 0 → ⊥) → Became inp (reading_at inp n d (leaning k P Q) p₀) p₀ b₀ r.p g
      off n l i =
          let f = now_fresh n l in
          subst (λ (o : Result). Became inp o p₀ b₀ r.p g) (sym f.whole) (stopped-lean n d k Q f.turns (wrap k f.old f.new nil) f.zs whole-wrap f.so_far i)
