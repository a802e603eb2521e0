-- What stands in the lent words after events, while the parser goes on: the events' words in a row, two for each, and behind them what was there.
-- Assumes nothing.
use Prim.Native.Nat.{ℕ, zero, suc, ◌+◌, ◌≤◌, ◌<◌, zero-le}
use native.Mathlib.Omega.{arith}
use native.Mathlib.Nat.{zero-add}
use native.Mathlib.Numerals.{add-one}
use mathlib.Core.Path.{◌≡◌, refl, ap, ◌∙◌}
use mathlib.Core.List.{List, [], ◌∷◌, ◌++◌}
use lib.ListN.{length, drop}
use lib.Seq.{sets, sets-eq}
use Rattle.predictive.specs.Events.{Event, token}
use Rattle.aadl.specs.Encoding.{event_word, words_for, cut_to_word}
use Rattle.parser.specs.declared.Counters.{Counters}
use Rattle.parser.specs.Input.{Input}
use Rattle.parser.specs.Buffer.{room, put}
use Rattle.parser.specs.State.{State, state, push, enter, emit}
use Rattle.parser.proofs.Buffer.{room_within}
use Rattle.parser.proofs.Pushing.{Goes, push-went, halt-stops}
use Rattle.parser.proofs.Emit.{enter-elim, pass-words, pass-went_on, enter-went, emit-went}

module _ (inp : Input) where
  enter-words : (e : Event) (s : State) → Goes (enter inp e s) → (enter inp e s).words ≡ put s.parser e s.words
  enter-words e s =
      enter-elim inp (λ e r. Goes r → r.words ≡ put s.parser e s.words) s one
      (λ k h. pass-words inp (push (token k) s) ∙ one (token k) (pass-went_on inp (push (token k) s) h))
      (λ n h. absurd (halt-stops n s h)) e
    where
      one : (e : Event) → Goes (push e s) → (push e s).words ≡ put s.parser e s.words
      one e h = ap (λ (r : State). r.words) (push-went e s h).2

  -- The words of events by the state before each: the event's own, and the number of the token where the parser then stands.
  unfoldable pub words-along : List Event → State → List ℕ
  words-along [] s = []
  words-along (e ∷ es) s = event_word e ∷ cut_to_word s.parser.at ∷ words-along es (enter inp e s)

  pub length_words_along : (es : List Event) (s : State) → length (words-along es s) ≡ words_for (length es)
  unfolding words-along
  length_words_along [] s = refl
  length_words_along (e ∷ es) s = omega (arith, length_words_along es (enter inp e s))

  emit-words : (es : List Event) (s : State) → Goes (emit inp es s) → (emit inp es s).words ≡ sets s.words (words_for s.parser.used) (words-along es s)
  unfolding emit put words-along
  emit-words [] s h = refl
  emit-words (e ∷ es) s h =
      let g = (emit-went inp es (enter inp e s) h).goes in
      let i = words_for s.parser.used in
      let next : words_for (s.parser.used + 1) ≡ suc (suc i) = omega arith in
      emit-words es (enter inp e s) h ∙ rw (enter-words e s g, (enter-went inp e s g).used, next, add-one i) refl

  -- From the first place on.
  pub written : (es : List Event) (p : Counters) (b : List ℕ) → p.used ≡ 0 → Goes (emit inp es (state p b)) →
      (emit inp es (state p b)).words ≡ words-along es (state p b) ++ drop (length (words-along es (state p b))) b
  written es p b z h =
      let ws = words-along es (state p b) in
      let f = (emit-went inp es (state p b) h).fits in
      let l : 0 + length ws ≤ length b = omega (arith, go (length es) (λ k i. omega (arith, f k i, z)), room_within b, length_words_along es (state p b)) in
      emit-words es (state p b) h ∙ ap (λ (u : ℕ). sets b (words_for u) ws) z ∙ sets-eq ws b 0 l ∙ ap (λ (k : ℕ). ws ++ drop k b) (zero-add (length ws))
    where
      go : (n : ℕ) → ((k : ℕ) → k < n → k < room b) → n ≤ room b
      go zero f = zero-le
      go (suc n) f = f n (omega arith)
