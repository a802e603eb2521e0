-- What a parser over a text's tokens answers after events, its room being m more: refusal 5 where the events pushed before an opener
-- too many outrun it, else 6 where there is such an opener, each at the start of the next token not taken; else the counts. By
-- induction over the events. Assumes nothing.
use Prim.Native.Nat.{ℕ, zero, suc, ◌+◌, ◌≤◌, ◌<◌, zero-le}
use native.Mathlib.Omega.{arith}
use mathlib.Core.Path.{◌≡◌, refl, sym, ap, ap₂, subst, ◌∙◌}
use mathlib.Core.Bool.{Bool, true, cond}
use mathlib.Core.List.{List, [], ◌∷◌}
use lib.ListN.{length, take}
use lib.Dec.{ltb, leb-suc-suc}
use borrow.Author.Tests.{eq-eqb, ne_eqb, lt-ltb, le-ltb}
use Rattle.predictive.specs.Forest.{message, refusal}
use Rattle.predictive.specs.Events.{Event, start, token, finish, error, taken, erring, stops}
use Rattle.aadl.specs.declared.Answer.{Answer}
use Rattle.aadl.specs.Limits.{most_events}
use Rattle.aadl.specs.Symbols.{start_of}
use Rattle.aadl.specs.Reading.{pushed}
use Rattle.aadl.specs.Answers.{answered, refused, token_words}
use Rattle.aadl.proofs.Lists.{Each}
use Rattle.aadl.proofs.Refusals.{Refuses6}
use Rattle.parser.specs.declared.Counters.{Counters}
use Rattle.parser.specs.Input.{Input, input, next}
use Rattle.parser.specs.State.{with_stop, one_used, one_more}
use Rattle.parser.proofs.Emit.{advance}
use Rattle.parser.proofs.Counting.{advance-stopped}
use Rattle.section.specs.Replies.{reply}
use Rattle.section.specs.Standing.{Behind}
use Rattle.section.proofs.Places.{behind-byte, next-behind}

-- ONE EVENT ------------------------------------------------------------------------------------------------------------

abbrev token-on : Input → Counters → Counters
token-on inp p = record { at = (next inp p).at; byte = (next inp p).byte; taken = one_more p.taken; used = p.used + 1; left = p.left; stop = p.stop }

-- an event that takes no token
pub data Plain : Event → Type 0 where
  a-start : {k up : ℕ} → Plain (start k up)
  a-finish : Plain finish
  a-message : {m : ℕ} → Plain (error (message m))

module _ (inp : Input) (n : ℕ) (es : List Event) (p : Counters) (g : p.stop ≡ 0) where
  advance-one_more : (e : Event) → Plain e → p.used < n → advance inp n (e ∷ es) p ≡ advance inp n es (one_used p)
  unfolding advance
  advance-one_more e a-start h = rw (eq-eqb p.stop 0 g, lt-ltb p.used n h) refl
  advance-one_more e a-finish h = rw (eq-eqb p.stop 0 g, lt-ltb p.used n h) refl
  advance-one_more e a-message h = rw (eq-eqb p.stop 0 g, lt-ltb p.used n h) refl

  advance-full : (e : Event) → Plain e → n ≤ p.used → advance inp n (e ∷ es) p ≡ advance inp n es (with_stop 5 p)
  unfolding advance
  advance-full e a-start h = rw (eq-eqb p.stop 0 g, le-ltb p.used n h) refl
  advance-full e a-finish h = rw (eq-eqb p.stop 0 g, le-ltb p.used n h) refl
  advance-full e a-message h = rw (eq-eqb p.stop 0 g, le-ltb p.used n h) refl

  advance-token : (k : ℕ) → p.used < n → advance inp n (token k ∷ es) p ≡ advance inp n es (token-on inp p)
  unfolding advance
  advance-token k h = rw (eq-eqb p.stop 0 g, lt-ltb p.used n h, eq-eqb p.stop 0 g) refl

  advance-token_full : (k : ℕ) → n ≤ p.used → advance inp n (token k ∷ es) p ≡ advance inp n es (with_stop 5 p)
  unfolding advance
  advance-token_full k h = rw (eq-eqb p.stop 0 g, le-ltb p.used n h) refl

  advance-deep : advance inp n (error (refusal 6) ∷ es) p ≡ advance inp n es (with_stop 6 p)
  unfolding advance
  advance-deep = rw (eq-eqb p.stop 0 g) refl

pushed-plain : (e : Event) (es : List Event) → Plain e → pushed (e ∷ es) ≡ e ∷ pushed es
unfolding pushed
pushed-plain e es a-start = refl
pushed-plain e es a-finish = refl
pushed-plain e es a-message = refl

taken-plain : (e : Event) (es : List Event) → Plain e → taken (e ∷ es) ≡ taken es
unfolding taken
taken-plain e es a-start = refl
taken-plain e es a-finish = refl
taken-plain e es a-message = refl

erring-plain : (e : Event) (es : List Event) → Plain e → erring stops (e ∷ es) ≡ erring stops es
unfolding erring
erring-plain e es a-start = refl
erring-plain e es a-finish = refl
erring-plain e es a-message = refl

-- EVENTS ---------------------------------------------------------------------------------------------------------------

-- the answer where the room is outrun after a tokens, an opener too many stands after b, or the counts are c and d
abbrev outcome : (text : List ℕ) → (tokens : ℕ) → (over : Bool) → (a : ℕ) → (deep : Bool) → (b c d : ℕ) → Answer
outcome text t over a deep b c d = cond over (refused 5 (start_of text a)) (cond deep (refused 6 (start_of text b)) (answered t c d))

outcome-same : (text : List ℕ) (t : ℕ) {o q : Bool} {a a' : ℕ} {x y : Bool} {b b' c c' d d' : ℕ} → o ≡ q → a ≡ a' → x ≡ y → b ≡ b' → c ≡ c' → d ≡ d' →
    outcome text t o a x b c d ≡ outcome text t q a' y b' c' d'
outcome-same text t e f g h k l = λ i. outcome text t (e i) (f i) (g i) (h i) (k i) (l i)

-- The parser p goes on: k tokens are behind it, and of the room n there are m words left.
pub record Going (text : List ℕ) (n m k : ℕ) (p : Counters) : Type 0 where
  pub goes : p.stop ≡ 0
  pub counted : p.taken ≡ k
  pub behind : Behind text k p
  pub fewer : k ≤ p.used
  pub room : p.used + m ≡ n

module _ (text : List ℕ) (t n : ℕ) (small : n ≤ most_events) where
  abbrev inp : Input
  inp = input text (token_words text)

  -- what p answers after the events
  abbrev Advances : (es : List Event) → (m k : ℕ) → Counters → Type 0
  Advances es m k p =
      reply t (advance inp n es p)
      ≡ outcome text t (ltb m (length (pushed es))) (k + taken (take m (pushed es))) (erring stops es) (k + taken (pushed es)) (k + taken es) (p.used + length es)

  stopped-reply : (s : ℕ) (es : List Event) (k : ℕ) (p : Counters) → Behind text k p →
      reply t (advance inp n es (with_stop (suc s) p)) ≡ refused (suc s) (start_of text (k + 0))
  unfolding reply
  stopped-reply s es k p x =
      let z : suc s ≡ 0 → ⊥ = λ e. omega (arith, e) in
      let q : reply t (with_stop (suc s) p) ≡ refused (suc s) p.byte = rw (ne_eqb (suc s) 0 z) refl in
      ap (reply t) (advance-stopped inp n es (with_stop (suc s) p) z) ∙ q ∙ ap (refused (suc s)) (behind-byte text k p x ∙ ap (start_of text) (omega arith))

  -- no word is left for the first of the events
  no_word : (e : Event) (es : List Event) (k : ℕ) (p : Counters) → Going text n 0 k p → pushed (e ∷ es) ≡ e ∷ pushed es →
      advance inp n (e ∷ es) p ≡ advance inp n es (with_stop 5 p) → Advances (e ∷ es) 0 k p
  unfolding taken
  no_word e es k p x f g =
      ap (reply t) g ∙ stopped-reply 4 es k p x.behind
      ∙ sym (ap (λ (o : Bool). outcome text t o (k + 0) (erring stops (e ∷ es)) (k + taken (pushed (e ∷ es))) (k + taken (e ∷ es)) (p.used + suc (length es)))
      (ap (λ (l : List Event). ltb 0 (length l)) f ∙ lt-ltb 0 (suc (length (pushed es))) (omega arith)))

  used-one : (m k : ℕ) (p : Counters) → Going text n (suc m) k p → Going text n m k (one_used p)
  used-one m k p x =
      record { goes = x.goes; counted = x.counted; behind = record { where_it_is = x.behind.where_it_is }; fewer = omega (arith, x.fewer); room = omega (arith, x.room) }

  one-taken : (m k : ℕ) (p : Counters) → Going text n (suc m) k p → Going text n m (suc k) (token-on inp p)
  one-taken m k p x =
      record {
        goes = x.goes;
        counted = omega (arith, x.counted, x.fewer, x.room, small);
        behind = next-behind text k p (token-on inp p) x.behind refl refl;
        fewer = omega (arith, x.fewer);
        room = omega (arith, x.room);
      }

  plain : (e : Event) (es : List Event) → Plain e → ((m k : ℕ) (p : Counters) → Going text n m k p → Advances es m k p) →
      (m k : ℕ) (p : Counters) → Going text n m k p → Advances (e ∷ es) m k p
  plain e es pl ih zero k p x = no_word e es k p x (pushed-plain e es pl) (advance-full inp n es p x.goes e pl (omega (arith, x.room)))
  plain e es pl ih (suc m) k p x =
      let f = pushed-plain e es pl in
      ap (reply t) (advance-one_more inp n es p x.goes e pl (omega (arith, x.room)))
      ∙ ih m k (one_used p) (used-one m k p x)
      ∙ sym (outcome-same text t
      (ap (λ (l : List Event). ltb (suc m) (length l)) f ∙ leb-suc-suc (suc m) (length (pushed es)))
      (ap (λ (l : List Event). k + taken (take (suc m) l)) f ∙ ap (λ (j : ℕ). k + j) (taken-plain e (take m (pushed es)) pl))
      (erring-plain e es pl)
      (ap (λ (l : List Event). k + taken l) f ∙ ap (λ (j : ℕ). k + j) (taken-plain e (pushed es) pl))
      (ap (λ (j : ℕ). k + j) (taken-plain e es pl))
      (omega arith))

  takes_one : (i : ℕ) (es : List Event) → ((m k : ℕ) (p : Counters) → Going text n m k p → Advances es m k p) →
      (m k : ℕ) (p : Counters) → Going text n m k p → Advances (token i ∷ es) m k p
  unfolding pushed taken erring
  takes_one i es ih zero k p x = no_word (token i) es k p x refl (advance-token_full inp n es p x.goes i (omega (arith, x.room)))
  takes_one i es ih (suc m) k p x =
      let one : (j : ℕ) → k + suc j ≡ suc k + j = λ j. omega arith in
      let same : erring stops es ≡ erring stops es = refl in
      let used : p.used + suc (length es) ≡ p.used + 1 + length es = omega arith in
      ap (reply t) (advance-token inp n es p x.goes i (omega (arith, x.room)))
      ∙ ih m (suc k) (token-on inp p) (one-taken m k p x)
      ∙ sym (outcome-same text t (leb-suc-suc (suc m) (length (pushed es))) (one (taken (take m (pushed es)))) same (one (taken (pushed es))) (one (taken es)) used)

  too_deep-here : (es : List Event) (m k : ℕ) (p : Counters) → Going text n m k p → Advances (error (refusal 6) ∷ es) m k p
  unfolding pushed taken erring
  too_deep-here es m k p x =
      ap (reply t) (advance-deep inp n es p x.goes) ∙ stopped-reply 5 es k p x.behind
      ∙ sym (ap (λ (o : Bool). outcome text t o (k + taken (take m [])) true (k + 0) (k + taken es) (p.used + suc (length es))) (le-ltb m 0 zero-le))

  pub advances : (es : List Event) → Each Refuses6 es → (m k : ℕ) (p : Counters) → Going text n m k p →
      reply t (advance (input text (token_words text)) n es p)
      ≡ cond (ltb m (length (pushed es))) (refused 5 (start_of text (k + taken (take m (pushed es)))))
      (cond (erring stops es) (refused 6 (start_of text (k + taken (pushed es)))) (answered t (k + taken es) (p.used + length es)))
  unfolding advance reply pushed taken erring
  advances [] h m k p x = rw (eq-eqb p.stop 0 x.goes, le-ltb m 0 zero-le) (ap₂ (answered t) (omega (arith, x.counted)) (omega arith))
  advances (start j up ∷ es) h m k p x = plain (start j up) es a-start (advances es h.1) m k p x
  advances (token j ∷ es) h m k p x = takes_one j es (advances es h.1) m k p x
  advances (finish ∷ es) h m k p x = plain finish es a-finish (advances es h.1) m k p x
  advances (error (message j) ∷ es) h m k p x = plain (error (message j)) es a-message (advances es h.1) m k p x
  advances (error (refusal j) ∷ es) h m k p x = subst (λ (r : ℕ). Advances (error (refusal r) ∷ es) m k p) (sym h.0) (too_deep-here es m k p x)
