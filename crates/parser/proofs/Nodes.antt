-- Readers that hand on a completed marker: an operand's node, no operand, and a suffix after one. Assumes nothing.
use Rattle.std.specs.Prelude.{Option, Some, None}
use Prim.Native.Nat.{ℕ, suc, ◌+◌, ◌-◌, ◌<◌}
use native.Mathlib.Omega.{arith}
use mathlib.Core.Path.{◌≡◌, refl, sym, ap, ◌∙◌}
use mathlib.Core.Bool.{Bool, true, false}
use mathlib.Core.Logic.{◌⊎◌, inl, inr}
use mathlib.Core.List.{List, [], ◌∷◌, ◌++◌, append_assoc}
use lib.ListN.{length, length-append}
use Rattle.predictive.specs.Forest.{Forest, Fault}
use Rattle.predictive.specs.Grammar.{at, Choice, Part, suffix, opens}
use Rattle.predictive.specs.Reader.{Result, miss, done, pick, firstly, step, read}
use Rattle.predictive.specs.Events.{start, finish, events, behind_start, events_of, left_over}
use Rattle.predictive.proofs.Proper.{Whole}
use Rattle.predictive.proofs.Lookahead.{single}
use Rattle.predictive.proofs.Readings.{reading-whole}
use Rattle.predictive.proofs.Takes.{boxed, wrapped, wrapped-events}
use Rattle.aadl.specs.Section.{Rule, grammar}
use Rattle.parser.specs.declared.Counters.{Counters}
use Rattle.parser.specs.Counters.{Started, Completed, Operand}
use Rattle.parser.specs.declared.CompletedMarker.{CompletedMarker}
use Rattle.parser.specs.Input.{Input, rest}
use Rattle.parser.specs.State.{precede, with_left}
use Rattle.parser.specs.Reads.{stands, heads_of, reading_at, Became, Read, ReadOperand, marked, Starts, Completes}
use Rattle.parser.proofs.Pushing.{goes-or_stopped}
use Rattle.parser.proofs.Emitted.{emitted-used}
use Rattle.parser.proofs.Join.{became_goes, r-same, became_no_more, stands-goes, stands_at, r-opens, within-left}
use Rattle.parser.proofs.Turns.{stopped-within, turned}

-- OPERANDS -------------------------------------------------------------------------------------------------------------

-- 0 for no node, else one more than where its Start stands
abbrev place_of : Option CompletedMarker → ℕ
place_of (Some m) = suc m.0
place_of None = 0

-- What the completed marker of a reading of one node tells: there was a node, and where its own Start stands.
pub data Found (used m : ℕ) : Result → Type 0 where
  found : {f : Forest} {ys : List ℕ} → m ≡ used - behind_start f → Found used m (done f ys)

pub marker_found : (used : ℕ) (m : CompletedMarker) (o : Result) → Some m ≡ marked used o → Found used m.0 o
unfolding marked
marker_found used m (miss x ys) e = let z : ⊥ = omega (arith, ap place_of e) in absurd z
marker_found used m (done f ys) e = found (let z : m.0 ≡ used - behind_start f = omega (arith, ap place_of e) in z)

pub data Missing : Result → Type 0 where
  missing : {x : Fault} {ys : List ℕ} → Missing (miss x ys)

pub nothing-missing : (used : ℕ) (o : Result) → None ≡ marked used o → Missing o
unfolding marked
nothing-missing used (miss x ys) e = missing
nothing-missing used (done f ys) e = let z : ⊥ = omega (arith, ap place_of e) in absurd z

module _ {inp : Input} {d : ℕ} {P : Part Rule} {p : Counters} {b : List ℕ} {q : Counters} {c : List ℕ} where
  -- A node whose Start was the first event.
  pub o_node : {m : CompletedMarker} (k : ℕ) (o : ℕ → Result) → ((n : ℕ) → p.stop ≡ 0 → reading_at inp n d P p ≡ boxed k (o n)) → Read inp d P p b q c →
      m.0 ≡ p.used → ReadOperand inp d P p b (record { p = q; lhs = Some m }) c
  unfolding marked events_of events
  o_node {m} k o e x s =
      record {
        reads = x;
        mark = λ n l g h.
            let u = emitted-used (x.did n l).emitted h ∙ ap (λ (t : Result). p.used + length (events_of t)) (e n g) in
            at-start (o n) u ∙ ap (marked q.used) (sym (e n g));
      }
    where
      at-start : (t : Result) → q.used ≡ p.used + length (events_of (boxed k t)) → Some m ≡ marked q.used (boxed k t)
      at-start (miss x ys) u = ap (λ (i : ℕ). Some (record { 0 = i })) (omega (arith, u, s))
      at-start (done f ys) u = ap (λ (i : ℕ). Some (record { 0 = i })) (omega (arith, u, s, length-append (events f 0) (finish ∷ [])))

  -- No operand.
  pub o_none : (x : Fault) → ((n : ℕ) → p.stop ≡ 0 → reading_at inp n d P p ≡ miss x (rest inp p)) → Read inp d P p b q c →
      ReadOperand inp d P p b (record { p = q; lhs = None }) c
  unfolding marked
  o_none x e r = record { reads = r; mark = λ n l g h. ap (marked q.used) (sym (e n g)) }

-- The same by another part, read alike where the parser goes on.
pub o_same : {inp : Input} {d e : ℕ} {P Q : Part Rule} {p : Counters} {b : List ℕ} {o : Operand} {c : List ℕ} →
    ((n : ℕ) → p.stop ≡ 0 → reading_at inp n d P p ≡ reading_at inp n e Q p) →
    ReadOperand inp d P p b o c → ReadOperand inp e Q p b o c
o_same {o = o} f x = record { reads = r-same f x.reads; mark = λ n l g h. x.mark n l g h ∙ ap (marked o.p.used) (f n g) }

-- An opener, read with one opener fewer left.
pub o_opens : {inp : Input} {P : Part Rule} {p : Counters} {b : List ℕ} {o : Operand} {c : List ℕ} → (p.left ≡ 0 → ⊥) →
    ReadOperand inp (suc (p.left - 1)) P (with_left (p.left - 1) p) b o c → ReadOperand inp p.left (opens P) p b (record { p = with_left p.left o.p; lhs = o.lhs }) c
unfolding read step rest
o_opens {inp} {P} {p} {o = o} f x =
    let level : suc (p.left - 1) ≡ p.left = omega (arith, f) in
    record {
      reads = r-opens f x.reads;
      mark = λ n l g h. x.mark n l g h
          ∙ ap (marked o.p.used) (ap (λ (d : ℕ). reading_at inp n d P p) level ∙ sym (within-left 6 p.left (rest inp p) _ f));
    }

-- SUFFIXES -------------------------------------------------------------------------------------------------------------

-- what a suffix makes of what was read before it
abbrev suffixed : (n d k : ℕ) → Part Rule → Result → Result
suffixed n d k Q o = firstly o (λ f ys. pick (at (heads_of Q) ys) (wrapped k f (read grammar n d Q ys)) (done f ys))

-- a reader that stopped before it
stopped-suffix : {inp : Input} {p₀ : Counters} {b₀ : List ℕ} {p : Counters} {b : List ℕ} (n d k : ℕ) (Q : Part Rule) (o : Result) →
    ((f : Forest) (ys : List ℕ) → o ≡ done f ys → Whole f) → Became inp o p₀ b₀ p b → (p.stop ≡ 0 → ⊥) → Became inp (suffixed n d k Q o) p₀ b₀ p b
stopped-suffix n d k Q (miss m ys) w y h = y
stopped-suffix {inp} {p₀} {b₀} {p} {b} n d k Q (done f ys) w y h = go (at (heads_of Q) ys)
  where
    go : (t : Bool) → Became inp (pick t (wrapped k f (read grammar n d Q ys)) (done f ys)) p₀ b₀ p b
    go true =
        stopped-within f ys (behind_start f) (start k 0 ∷ events_of (read grammar n d Q ys) ++ finish ∷ []) (w f ys refl) y h
        (wrapped-events k f (read grammar n d Q ys) ∙ append_assoc (events f (behind_start f)) (start k 0 ∷ events_of (read grammar n d Q ys)) (finish ∷ []))
    go false = y

module _ {inp : Input} {d k : ℕ} {c : Choice} {P Q : Part Rule} {p₀ : Counters} {b₀ : List ℕ} {p : Counters} {b : List ℕ} where
  -- P was missing.
  pub x-none : single P ≡ true → ReadOperand inp d P p₀ b₀ (record { p = p; lhs = None }) b → Read inp d (suffix c k P Q) p₀ b₀ p b
  unfolding read step
  x-none one x = record { did = λ n l. go n l (goes-or_stopped p.stop) }
    where
      go : (n : ℕ) → length (rest inp p₀) < n → (p.stop ≡ 0) ⊎ (p.stop ≡ 0 → ⊥) → Became inp (suffixed n d k Q (reading_at inp n d P p₀)) p₀ b₀ p b
      go n l (inr h) = stopped-suffix n d k Q (reading_at inp n d P p₀) (λ f ys e. reading-whole grammar n d P (rest inp p₀) f ys one e) (x.reads.did n l) h
      go n l (inl h) = by (reading_at inp n d P p₀) (x.reads.did n l) (nothing-missing p.used _ (x.mark n l (became_goes (x.reads.did n l) h) h))
        where
          by : (o : Result) → Became inp o p₀ b₀ p b → Missing o → Became inp (suffixed n d k Q o) p₀ b₀ p b
          by (miss f ys) y missing = y
          by (done _ _) y h = elim h [ ]

  -- P stands alone.
  pub x-stay : {m : CompletedMarker} → single P ≡ true → ReadOperand inp d P p₀ b₀ (record { p = p; lhs = Some m }) b → stands inp (heads_of Q) p ≡ false →
      Read inp d (suffix c k P Q) p₀ b₀ p b
  unfolding read step left_over
  x-stay {m} one x s = record { did = λ n l. go n l (goes-or_stopped p.stop) }
    where
      go : (n : ℕ) → length (rest inp p₀) < n → (p.stop ≡ 0) ⊎ (p.stop ≡ 0 → ⊥) → Became inp (suffixed n d k Q (reading_at inp n d P p₀)) p₀ b₀ p b
      go n l (inr h) = stopped-suffix n d k Q (reading_at inp n d P p₀) (λ f ys e. reading-whole grammar n d P (rest inp p₀) f ys one e) (x.reads.did n l) h
      go n l (inl h) = by (reading_at inp n d P p₀) (x.reads.did n l) (marker_found p.used m _ (x.mark n l (became_goes (x.reads.did n l) h) h))
        where
          by : (o : Result) → Became inp o p₀ b₀ p b → Found p.used m.0 o → Became inp (suffixed n d k Q o) p₀ b₀ p b
          by (done f ys) y (found e) =
              let a : at (heads_of Q) ys ≡ false = ap (at (heads_of Q)) (sym (y.ends (became_goes y h) h)) ∙ stands_at inp (heads_of Q) p s h in
              rw a y
          by (miss _ _) y h = elim h [ ]

  -- P is followed by Q.
  pub x-turn : {m : CompletedMarker} {s : Started} {e : List ℕ} {q : Counters} {f : List ℕ} {r : Completed} {g : List ℕ} → single P ≡ true →
      ReadOperand inp d P p₀ b₀ (record { p = p; lhs = Some m }) b → stands inp (heads_of Q) p ≡ true → Starts p b s e (precede m.0) → Read inp d Q s.p e q f →
      Completes s.m k q f r g → Read inp d (suffix c k P Q) p₀ b₀ r.p g
  unfolding read step left_over
  x-turn {m} {s} {e} {q} {f} {r} {g} one x t y z u = record { did = go }
    where
      h : p.stop ≡ 0
      h = stands-goes inp (heads_of Q) p t

      go : (n : ℕ) → length (rest inp p₀) < n → Became inp (suffixed n d k Q (reading_at inp n d P p₀)) p₀ b₀ r.p g
      go n l = by (reading_at inp n d P p₀) (λ v ys w. reading-whole grammar n d P (rest inp p₀) v ys one w) (x.reads.did n l) (marker_found p.used m _ (x.mark n l (became_goes (x.reads.did n l) h) h))
        where
          by : (o : Result) → ((v : Forest) (ys : List ℕ) → o ≡ done v ys → Whole v) → Became inp o p₀ b₀ p b → Found p.used m.0 o →
              Became inp (suffixed n d k Q o) p₀ b₀ r.p g
          by (done v ys) w i (found j) =
              let a : at (heads_of Q) ys ≡ true = ap (at (heads_of Q)) (sym (i.ends (became_goes i h) h)) ∙ stands_at inp (heads_of Q) p t h in
              rw a (turned v ys (w v ys refl) m.0 i (λ _. j) y z u n (omega (arith, l, became_no_more i)))
          by (miss _ _) w i h = elim h [ ]
