-- The words that a parser over a text's tokens writes are the definition's: it stands at the raw number of the next untaken token, an event
-- that takes no token leaves it there, and a Token moves it to the next. By induction over the events. Assumes nothing.
use Prim.Native.Nat.{ℕ, suc, ◌+◌, ◌<◌}
use native.Mathlib.Omega.{arith}
use mathlib.Core.Path.{◌≡◌, refl, sym, ap₂, subst, ◌∙◌}
use mathlib.Core.List.{List, [], ◌∷◌}
use lib.ListN.{length, length-map}
use Rattle.predictive.specs.Forest.{message, refusal}
use Rattle.predictive.specs.Events.{Event, start, token, finish, error, taken}
use Rattle.aadl.specs.Tokens.{tokens, token_word}
use Rattle.aadl.specs.Symbols.{raw_number}
use Rattle.aadl.specs.Encoding.{event_word, cut_to_word, words_of}
use Rattle.aadl.specs.Answers.{token_words}
use Rattle.aadl.proofs.TokensCover.{tokens-within_text}
use Rattle.parser.specs.declared.Counters.{Counters}
use Rattle.parser.specs.Input.{Input, input}
use Rattle.parser.specs.State.{State, passed, pass, push, enter, emit}
use Rattle.parser.proofs.Pushing.{Goes, push-went, halt-stops, pass-goes}
use Rattle.parser.proofs.Emit.{pass-went_on, emit-went}
use Rattle.parser.proofs.Written.{words-along}
use Rattle.section.specs.Standing.{Behind}
use Rattle.section.proofs.Places.{behind-at, next-behind}

module _ (text : List ℕ) (short : length text < 65536) where
  abbrev inp : Input
  inp = input text (token_words text)

  -- The number where the parser stands is a word as it is.
  number-whole : (k : ℕ) (p : Counters) → Behind text k p → cut_to_word p.at ≡ raw_number text k
  number-whole k p x =
      let few : p.at < 65536 = omega (arith, x.where_it_is.counts, length-map (tokens text) token_word, tokens-within_text text, short) in
      let whole : cut_to_word p.at ≡ p.at = omega (arith, few) in
      whole ∙ behind-at text k p x

  -- ONE EVENT ----------------------------------------------------------------------------------------------------------

  pushed-behind : (k : ℕ) (e : Event) (s : State) → Behind text k s.parser → Goes (push e s) → Behind text k (push e s).parser
  pushed-behind k e s x h =
      subst (λ (r : State). Behind text k r.parser) (sym (push-went e s h).2) (record { where_it_is = x.where_it_is })

  token-behind : (k j : ℕ) (s : State) → Behind text k s.parser → Goes (pass inp (push (token j) s)) → Behind text (suc k) (pass inp (push (token j) s)).parser
  token-behind k j s x h =
      let t = push (token j) s in
      let g = pass-went_on inp t h in
      subst (λ (r : State). Behind text (suc k) r.parser) (sym (pass-goes inp t g))
      (next-behind text k t.parser (passed inp t).parser (pushed-behind k (token j) s x g) refl refl)

  stays : (k : ℕ) {p : Counters} → Behind text k p → Behind text (k + 0) p
  stays k {p} x = subst (λ (n : ℕ). Behind text n p) (omega arith) x

  entered_behind : (k : ℕ) (e : Event) (s : State) → Behind text k s.parser → Goes (enter inp e s) → Behind text (k + taken (e ∷ [])) (enter inp e s).parser
  unfolding enter taken
  entered_behind k (start j up) s x h = stays k (pushed-behind k (start j up) s x h)
  entered_behind k (token j) s x h = subst (λ (n : ℕ). Behind text n (pass inp (push (token j) s)).parser) (omega arith) (token-behind k j s x h)
  entered_behind k finish s x h = stays k (pushed-behind k finish s x h)
  entered_behind k (error (message m)) s x h = stays k (pushed-behind k (error (message m)) s x h)
  entered_behind k (error (refusal n)) s x h = absurd (halt-stops n s h)

  -- EVENTS -------------------------------------------------------------------------------------------------------------

  pub along_numbers : (es : List Event) (k : ℕ) (s : State) → Behind text k s.parser → Goes (emit inp es s) →
      words-along (input text (token_words text)) es s ≡ words_of (raw_number text) k es
  unfolding emit words-along
  along_numbers [] k s x h = refl
  along_numbers (e ∷ es) k s x h =
      ap₂ (λ (n : ℕ) (ws : List ℕ). event_word e ∷ n ∷ ws) (number-whole k s.parser x)
      (along_numbers es (k + taken (e ∷ [])) (enter inp e s) (entered_behind k e s x (emit-went inp es (enter inp e s) h).goes) h)
