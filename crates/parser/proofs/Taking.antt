-- Readings of one token: a Token is pushed and passed; where it does not stand its message is pushed and nothing is taken. Assumes nothing.
use Prim.Native.Nat.{ℕ}
use mathlib.Core.Path.{◌≡◌, refl, sym, ap, ◌∙◌}
use mathlib.Core.Logic.{◌⊎◌, inl, inr}
use mathlib.Core.Bool.{true, false}
use mathlib.Core.List.{List, [], ◌∷◌}
use Rattle.predictive.specs.Forest.{nil, leaf, err, message}
use Rattle.predictive.specs.Grammar.{Part, at, tok, any, fail, seq, inside}
use Rattle.predictive.specs.Reader.{Result, done, ones, take_one, take_any, step, read}
use Rattle.predictive.specs.Events.{Event, start, token, error, events, events_of, left_over}
use Rattle.predictive.proofs.Tests.{never}
use Rattle.predictive.proofs.Heads.{at_end, at_ones}
use Rattle.predictive.proofs.Takes.{both, boxed}
use Rattle.aadl.specs.Symbols.{shown}
use Rattle.aadl.specs.Section.{Rule, grammar}
use Rattle.parser.specs.declared.Counters.{Counters}
use Rattle.parser.specs.Counters.{Started}
use Rattle.parser.specs.Input.{Input, rest, END, ahead, nth}
use Rattle.parser.specs.State.{State, state, push, precede, pass, passed, enter, emit}
use Rattle.parser.specs.Reads.{stands, Ran, Emitted, Became, reading_at, Read, Starts}
use Rattle.parser.proofs.Pushing.{Goes, Stopped, goes-or_stopped, push-elim, pass-stopped, pass-goes}
use Rattle.parser.proofs.Trivia.{tail, rest-after_one}
use Rattle.parser.proofs.Tests.{rest-ends, nth-goes}
use Rattle.parser.proofs.Emitted.{emitted, emitted-goes, emitted-started, preceded_rest, preceded_goes}
use Rattle.parser.proofs.Join.{became_same, became_nothing, stands_at, r-same, rest-started}

-- WHAT REMAINS ---------------------------------------------------------------------------------------------------------

push-rest : (inp : Input) (e : Event) (s : State) → rest inp (push e s).parser ≡ rest inp s.parser
unfolding rest
push-rest inp e s = push-elim e s (λ t. rest inp t.parser ≡ rest inp s.parser) (λ h. refl) (λ h l. refl) (λ h l. refl)

pass-rest : (inp : Input) (s : State) → Goes (pass inp s) → rest inp (pass inp s).parser ≡ tail (rest inp s.parser)
pass-rest inp s g = go (goes-or_stopped s.parser.stop)
  where
    go : Goes s ⊎ Stopped s → rest inp (pass inp s).parser ≡ tail (rest inp s.parser)
    go (inl h) = ap (λ (t : State). rest inp t.parser) (pass-goes inp s h) ∙ rest-after_one inp s.parser (passed inp s).parser refl refl
    go (inr h) = absurd (h (sym (ap (λ (t : State). t.parser.stop) (pass-stopped inp s h)) ∙ g))

-- ANY TOKEN ------------------------------------------------------------------------------------------------------------

-- none at the end ..
pub r-any_end : {inp : Input} {d : ℕ} {p : Counters} {b : List ℕ} → nth inp p 0 ≡ END → Read inp d any p b p b
unfolding read step take_any
r-any_end {inp} {d} {p} e = record { did = λ n l. became_same (λ h. sym (ended h)) became_nothing }
  where
    ended : p.stop ≡ 0 → take_any shown (rest inp p) ≡ done nil (rest inp p)
    ended h = rw (rest-ends inp p (sym (nth-goes inp p 0 h) ∙ e)) refl

-- .. else the one ahead
pub r-any : {inp : Input} {d x : ℕ} {p : Counters} {b : List ℕ} {r : Counters} {c : List ℕ} → x ≡ nth inp p 0 → (x ≡ END → ⊥) →
    Ran (enter inp (token (shown x))) p b r c → Read inp d any p b r c
unfolding read step take_any emit enter events_of events left_over
r-any {inp} {d} {x} {p} {b} {r} {c} e f j =
    record { did = λ n l. became_same (λ h. sym (ap (take_any shown) (split (rest inp p) (e ∙ nth-goes inp p 0 h)))) one_token }
  where
    split : (xs : List ℕ) → x ≡ ahead xs → xs ≡ x ∷ tail xs
    split [] h = absurd (f h)
    split (y ∷ ys) h = ap (λ (z : ℕ). z ∷ ys) (sym h)

    left : r.stop ≡ 0 → rest inp r ≡ tail (rest inp p)
    left g =
        ap (λ (s : State). rest inp s.parser) j.ran
        ∙ pass-rest inp (push (token (shown x)) (state p b)) (sym (ap (λ (s : State). s.parser.stop) j.ran) ∙ g)
        ∙ ap tail (push-rest inp (token (shown x)) (state p b))

    one_token : Became inp (done (leaf (shown x) nil) (tail (rest inp p))) p b r c
    one_token = record { emitted = emitted j.ran; ends = λ h g. left g }

-- A TOKEN OF SOME KINDS ------------------------------------------------------------------------------------------------

take_one-yes : (m : ℕ) (ks xs : List ℕ) → at (ones ks) xs ≡ true → take_any shown xs ≡ take_one shown m ks xs
unfolding take_one take_any
take_one-yes m ks [] e = never (sym (at_end (ones ks)) ∙ e)
take_one-yes m ks (x ∷ xs) e = rw (sym (at_ones ks x xs) ∙ e) refl

take_one-no : (m : ℕ) (ks xs : List ℕ) → at (ones ks) xs ≡ false → done (err (message m) nil) xs ≡ take_one shown m ks xs
unfolding take_one
take_one-no m ks [] e = refl
take_one-no m ks (x ∷ xs) e = rw (sym (at_ones ks x xs) ∙ e) refl

-- a message, and nothing is taken
stayed : (inp : Input) (e : Event) {p : Counters} {b : List ℕ} {r : Counters} {c : List ℕ} → Ran (push e) p b r c → rest inp r ≡ rest inp p
stayed inp e {p} {b} x = ap (λ (s : State). rest inp s.parser) x.ran ∙ push-rest inp e (state p b)

module _ {inp : Input} {d m : ℕ} {p : Counters} {b : List ℕ} {r : Counters} {c : List ℕ} where
  -- One that stands, if the parser goes on, is any token.
  pub r-took : {ks : List ℕ} → (p.stop ≡ 0 → at (ones ks) (rest inp p) ≡ true) → Read inp d any p b r c → Read inp d (tok m ks) p b r c
  unfolding read step
  r-took {ks} e x = r-same (λ n h. take_one-yes m ks (rest inp p) (e h)) x

  pub r-tok_yes : {ks : List ℕ} → stands inp (ones ks) p ≡ true → Read inp d any p b r c → Read inp d (tok m ks) p b r c
  r-tok_yes {ks} e x = r-took (stands_at inp (ones ks) p e) x

  -- a node that begins with any token, where one of some kinds stands
  pub r-node_head : {k : ℕ} {P : Part Rule} {ks : List ℕ} → stands inp (ones ks) p ≡ true → Read inp d (inside k (seq any P)) p b r c →
      Read inp d (inside k (seq (tok m ks) P)) p b r c
  unfolding read step
  r-node_head {k} {P} {ks} e x =
      r-same (λ n h. ap (λ (o : Result). boxed k (both o (read grammar n d P))) (take_one-yes m ks (rest inp p) (stands_at inp (ones ks) p e h))) x

  -- A message where nothing is taken.
  pub r-message : {P : Part Rule} → ((n : ℕ) → p.stop ≡ 0 → done (err (message m) nil) (rest inp p) ≡ reading_at inp n d P p) →
      Ran (push (error (message m))) p b r c →
      Read inp d P p b r c
  unfolding emit enter events_of events left_over
  r-message f x = record { did = λ n l. became_same (f n) missing }
    where
      missing : Became inp (done (err (message m) nil) (rest inp p)) p b r c
      missing = record { emitted = emitted x.ran; ends = λ h g. stayed inp (error (message m)) x }

  pub r-tok_no : {ks : List ℕ} → stands inp (ones ks) p ≡ false → Ran (push (error (message m))) p b r c → Read inp d (tok m ks) p b r c
  unfolding read step
  r-tok_no {ks} e x = r-message (λ n h. take_one-no m ks (rest inp p) (stands_at inp (ones ks) p e h)) x

  pub r-fail : Ran (push (error (message m))) p b r c → Read inp d (fail m) p b r c
  unfolding read step emit enter events_of events left_over
  r-fail x = record { did = λ n l. record { emitted = emitted x.ran; ends = λ h g. stayed inp (error (message m)) x } }

-- A TOKEN THAT STOOD BEFORE A START ------------------------------------------------------------------------------------

module _ {inp : Input} {d l : ℕ} {ks : List ℕ} {p : Counters} {b : List ℕ} {s : Started} {c : List ℕ} {r : Counters} {e : List ℕ} where
  pub bumped_inside : Starts p b s c (push (start 0 0)) → stands inp (ones ks) p ≡ true → Read inp d any s.p c r e →
      Read inp d (tok l ks) s.p c r e
  bumped_inside x t y =
      let z : Emitted inp (start 0 0 ∷ []) p b s.p c = emitted-started x in
      r-took (λ h. ap (at (ones ks)) (rest-started z) ∙ stands_at inp (ones ks) p t (emitted-goes z h)) y

  pub bumped_after : (m : ℕ) → Starts p b s c (precede m) → stands inp (ones ks) p ≡ true → Read inp d any s.p c r e → Read inp d (tok l ks) s.p c r e
  bumped_after m x t y = r-took (λ h. ap (at (ones ks)) (preceded_rest inp m x).0 ∙ stands_at inp (ones ks) p t (preceded_goes m x h)) y
