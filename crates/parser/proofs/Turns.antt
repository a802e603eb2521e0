-- A node that is begun after its first child: what was read ends in one node, whose own Start gets a parent at the next event. Assumes
-- nothing.
use Prim.Native.Nat.{ℕ, suc, ◌-◌, ◌<◌}
use native.Mathlib.Omega.{arith}
use mathlib.Core.Path.{◌≡◌, refl, sym, ap, subst, ◌∙◌}
use mathlib.Core.List.{List, [], ◌∷◌, ◌++◌, append_assoc}
use lib.ListN.{length, length-append}
use Rattle.predictive.specs.Forest.{Forest, nil, leaf, err, node, wrap}
use Rattle.predictive.specs.Grammar.{Part}
use Rattle.predictive.specs.Reader.{Result, done, read}
use Rattle.predictive.specs.Events.{Event, start, finish, events, behind_start, events_of, left_over}
use Rattle.predictive.proofs.Proper.{Whole, whole-node, whole-wrap}
use Rattle.predictive.proofs.Takes.{wrapped, wrapped-events, wrapped-left}
use Rattle.aadl.specs.Section.{Rule, grammar}
use Rattle.parser.specs.declared.Counters.{Counters}
use Rattle.parser.specs.Counters.{Started, Completed}
use Rattle.parser.specs.Input.{Input, rest}
use Rattle.parser.specs.Buffer.{room, named, linked}
use Rattle.parser.specs.State.{state, precede}
use Rattle.parser.specs.Reads.{reading_at, Emitted, Became, Read, Starts, Completes}
use Rattle.parser.proofs.Emit.{advance, advance-append, emit-advance}
use Rattle.parser.proofs.Counting.{advance-stopped}
use Rattle.parser.proofs.Emitted.{emitted-goes, emitted-used, emitted-advance, emitted-append, emitted-stopped, emitted-named, emitted-linked, emitted-preceded, emitted-completed, advance-start}
use Rattle.parser.proofs.Join.{became_goes, rest-started, rest-finished}

-- ONE NODE -------------------------------------------------------------------------------------------------------------

-- The events of one node: what stands before its own Start, its kind, and what stands after.
record Split (f : Forest) : Type 0 where
  ds : List Event
  kind : ℕ
  es : List Event
  splits : (up : ℕ) → events f up ≡ ds ++ start kind up ∷ es
  behind : behind_start f ≡ suc (length es)

split : (f : Forest) → Whole f → Split f
unfolding events
split (node k i nil) whole-node =
    record { ds = []; kind = k; es = events i 0 ++ finish ∷ []; splits = λ up. refl; behind = omega (arith, length-append (events i 0) (finish ∷ [])) }
split (wrap k a b nil) whole-wrap =
    record {
      ds = events a (behind_start a);
      kind = k;
      es = events b 0 ++ finish ∷ [];
      splits = λ up. append_assoc (events a (behind_start a)) (start k up ∷ events b 0) (finish ∷ []);
      behind = omega (arith, length-append (events b 0) (finish ∷ []));
    }
-- no other forest is whole
split nil w = elim w [ ]
split (leaf kind _) w = elim w [ ]
split (err _ _) w = elim w [ ]
split (node k i (leaf kind _)) w = elim w [ ]
split (node k i (err _ _)) w = elim w [ ]
split (node k i (node kind inside _)) w = elim w [ ]
split (node k i (wrap kind a b _)) w = elim w [ ]
split (wrap k a b (leaf kind _)) w = elim w [ ]
split (wrap k a b (err _ _)) w = elim w [ ]
split (wrap k a b (node kind inside _)) w = elim w [ ]
split (wrap k a b (wrap kind _ _ _)) w = elim w [ ]

-- events with a forward parent count as those without
advance-parent : (inp : Input) (n : ℕ) (f : Forest) → Whole f → (up vp : ℕ) (p : Counters) → advance inp n (events f up) p ≡ advance inp n (events f vp) p
advance-parent inp n f w up vp p =
    let s = split f w in
    ap (λ (l : List Event). advance inp n l p) (s.splits up)
    ∙ advance-start inp n s.ds s.es s.kind s.kind up vp p
    ∙ ap (λ (l : List Event). advance inp n l p) (sym (s.splits vp))

-- A reader that stopped within f stops there too if f gets a parent and whatever follows.
pub stopped-within : {inp : Input} {t : Result} {p : Counters} {b : List ℕ} {r : Counters} {c : List ℕ} (f : Forest) (ys : List ℕ) (up : ℕ) (ds : List Event) →
    Whole f → Became inp (done f ys) p b r c → (r.stop ≡ 0 → ⊥) → events_of t ≡ events f up ++ ds → Became inp t p b r c
unfolding events_of
stopped-within {inp} {t} {p} {b} {r} {c} f ys up ds w x h e =
    let n = room b in
    let same : r ≡ advance inp n (events f up) p = emitted-advance x.emitted ∙ advance-parent inp n f w 0 up p in
    record {
      emitted =
          emitted-stopped
          (same
          ∙ sym (advance-stopped inp n ds (advance inp n (events f up) p) (λ g. h (ap (λ (u : Counters). u.stop) same ∙ g)))
          ∙ sym (advance-append inp n (events f up) ds p)
          ∙ ap (λ (l : List Event). advance inp n l p) (sym e)
          ∙ sym (emit-advance inp (events_of t) (state p b)))
          h x.emitted.long;
      ends = λ g i. absurd (h i);
    }

-- A TURN ---------------------------------------------------------------------------------------------------------------

-- f was read; then it is preceded, Q is read, and the new node is completed.
module _ {inp : Input} {d k : ℕ} {Q : Part Rule} {p₀ : Counters} {b₀ : List ℕ} {p : Counters} {b : List ℕ} {s : Started} {c : List ℕ} {q : Counters} {e : List ℕ} {r : Completed} {g : List ℕ}
    (f : Forest) (ys : List ℕ) (w : Whole f) (m : ℕ) where
  pub turned : Became inp (done f ys) p₀ b₀ p b → (p.stop ≡ 0 → m ≡ p.used - behind_start f) → Starts p b s c (precede m) → Read inp d Q s.p c q e →
      Completes s.m k q e r g → (n : ℕ) → length (rest inp p) < n → Became inp (wrapped k f (read grammar n d Q ys)) p₀ b₀ r.p g
  unfolding events_of left_over
  turned x at-m y z t n l =
      let sp = split f w in
      let o = read grammar n d Q ys in
      let up = behind_start f in
      let long = length-append sp.ds (start sp.kind 0 ∷ sp.es) in
      let x0 : Emitted inp (sp.ds ++ start sp.kind 0 ∷ sp.es) p₀ b₀ p b = subst (λ (es : List Event). Emitted inp es p₀ b₀ p b) (sp.splits 0) x.emitted in
      let x1 : Emitted inp (sp.ds ++ start sp.kind up ∷ sp.es) p₀ b₀ p (linked m (p.used - m) b) = emitted-linked sp.ds sp.es sp.kind up x0
      (λ h. omega (arith, at-m h, emitted-used x0 h, sp.behind, long)) (λ h. omega (arith, at-m h, emitted-used x0 h, sp.behind, long)) in
      let x2 : Emitted inp (events f up) p₀ b₀ p (linked m (p.used - m) b) = subst (λ (es : List Event). Emitted inp es p₀ b₀ p (linked m (p.used - m) b)) (sym (sp.splits up)) x1 in
      let y1 : Emitted inp (start 0 0 ∷ []) p (linked m (p.used - m) b) s.p c = emitted-preceded m (λ h. omega (arith, at-m h, emitted-used x0 h, sp.behind, long)) y in
      let z1 = z.did n (subst (λ (xs : List ℕ). length xs < n) (sym (rest-started y1)) l) in
      let same : (s.p.stop ≡ 0 → reading_at inp n d Q s.p ≡ o) = λ h.
      let i = emitted-goes y1 h in
      ap (read grammar n d Q) (rest-started y1 ∙ x.ends (became_goes x i) i) in
      let z2 : Emitted inp (events f up ++ start 0 0 ∷ events_of o) p₀ b₀ q e = subst (λ (es : List Event). Emitted inp es p₀ b₀ q e) (append_assoc (events f up) (start 0 0 ∷ []) (events_of o))
      (emitted-append (emitted-append x2 y1 (λ h. refl)) z1.emitted (λ h. ap events_of (same h))) in
      let z3 = emitted-named (events f up) (events_of o) 0 0 k z2 (λ h. y.mark ∙ emitted-used x2 (emitted-goes y1 (became_goes z1 h))) in
      let t1 : Emitted inp (finish ∷ []) q (named s.m.0 k e) r.p g = emitted-completed t in
      record {
        emitted = subst (λ (es : List Event). Emitted inp es p₀ b₀ r.p g) (sym (wrapped-events k f o)) (emitted-append z3 t1 (λ h. refl));
        ends = λ i h.
            let j = emitted-goes t1 h in
            let u = became_goes z1 j in
            rest-finished t1 ∙ z1.ends u j ∙ ap left_over (same u) ∙ sym (wrapped-left k f o);
      }
