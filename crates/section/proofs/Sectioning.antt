-- The section's reader over a text's tokens: where `properties` stands its events are those of the text's reading, so that its parser
-- answers as the checks of the section call say, and its words are theirs. Where it does not stand, that is refusal 4. Assumes nothing.
use Prim.Native.Nat.{ℕ, suc, ◌+◌, ◌<◌}
use native.Mathlib.Nat.{zero-add}
use native.Mathlib.Omega.{arith}
use mathlib.Core.Path.{◌≡◌, refl, sym, ap, ap₂, subst, ◌∙◌}
use mathlib.Core.Bool.{Bool, true, false, not, cond, or-false}
use mathlib.Core.List.{List, [], ◌∷◌, ◌++◌}
use lib.ListN.{length, take, drop}
use lib.Dec.{ltb}
use Rattle.predictive.specs.Grammar.{one, is}
use Rattle.predictive.specs.Reader.{Result, read}
use Rattle.predictive.specs.Events.{Event, taken, erring, stops, events_of}
use Rattle.aadl.specs.declared.Limits.{Limits}
use Rattle.aadl.specs.Kinds.{PROPERTIES_KW, #◌}
use Rattle.aadl.specs.Tokens.{tokens}
use Rattle.aadl.specs.Symbols.{symbols, start_of}
use Rattle.aadl.specs.Section.{grammar, section}
use Rattle.aadl.specs.Encoding.{room as room_in}
use Rattle.aadl.specs.Reading.{reading, events, pushed, too_deep}
use Rattle.aadl.specs.Answers.{answered, refused, token_words, event_words}
use Rattle.aadl.proofs.Refusals.{events-refuse_6}
use Rattle.std.specs.Borrow.{Bor, MutBor}
use Rattle.parser.specs.declared.Parser.{Parser}
use Rattle.parser.specs.declared.Tokens.{Tokens}
use Rattle.parser.specs.declared.Counters.{Counters}
use Rattle.parser.specs.Input.{Input, input, rest, new}
use Rattle.parser.specs.Buffer.{room}
use Rattle.parser.specs.State.{State, state, halt}
use Rattle.parser.specs.Reads.{stands, Ran, Emitted, Read, reading_at}
use Rattle.parser.specs.Parsers.{source, counters, Began, stand, Steps, ReadsWithin}
use Rattle.parser.proofs.Buffer.{room_most}
use Rattle.parser.proofs.Pushing.{halt-goes}
use Rattle.parser.proofs.Written.{written}
use Rattle.parser.proofs.Emitted.{emitted-advance}
use Rattle.section.specs.Replies.{reply, section_reply, Sectioned, ReadsSection}
use Rattle.section.proofs.Places.{behind-byte, new-behind, new-rest}
use Rattle.section.proofs.Numbering.{along_numbers}
use Rattle.section.proofs.Advancing.{Going, advances}

module _ (limits : Limits) (text : List ℕ) (short : length text < 65536) where
  abbrev inp : Input
  inp = input text (token_words text)

  abbrev begin : Counters
  begin = new (input text (token_words text)) limits.openers

  begin-going : (n : ℕ) → Going text n n 0 begin
  unfolding new
  begin-going n =
      record { goes = refl; counted = refl; behind = new-behind text limits.openers short; fewer = omega arith; room = omega arith }

  -- REFUSAL 4 ----------------------------------------------------------------------------------------------------------

  begin-stands : stands inp (one (# PROPERTIES_KW) ∷ []) begin ≡ is (# PROPERTIES_KW) (symbols text)
  unfolding stands new
  begin-stands = or-false (is (# PROPERTIES_KW) (rest inp begin)) ∙ ap (is (# PROPERTIES_KW)) (new-rest text limits.openers short)

  -- `properties` does not stand
  pub refused-4 : (b : List ℕ) (r : Counters) (c : List ℕ) → stands inp (one (# PROPERTIES_KW) ∷ []) begin ≡ false → Ran (halt 4) begin b r c →
      Sectioned limits text b r c
  unfolding reply section_reply new
  refused-4 b r c h x =
      let e = x.ran ∙ halt-goes 4 (state begin b) refl in
      let f = ap (λ (s : State). s.parser) e in
      record {
        answer = ap (reply (length (tokens text))) f ∙ rw (sym begin-stands ∙ h) (ap (refused 4) (behind-byte text 0 begin (new-behind text limits.openers short)));
        words = λ g. absurd (omega (arith, g, ap (λ (p : Counters). p.stop) f));
        long = ap (λ (s : State). length s.words) e;
      }

  -- THE READING --------------------------------------------------------------------------------------------------------

  abbrev es : List Event
  es = events limits (symbols text)

  -- the section that is read from the first token on is the text's reading
  begin-reading : reading_at inp (suc (length (symbols text))) limits.openers section begin ≡ reading limits (symbols text)
  unfolding reading
  begin-reading = ap (λ (xs : List ℕ). read grammar (suc (length (symbols text))) limits.openers section xs) (new-rest text limits.openers short)

  module _ {b : List ℕ} {r : Counters} {c : List ℕ} (x : Read inp begin.left section begin b r c) where
    section-emitted : Emitted inp es begin b r c
    unfolding events new
    section-emitted =
        let n = suc (length (symbols text)) in
        subst (λ (o : Result). Emitted inp (events_of o) begin b r c) begin-reading
        (x.did n (omega (arith, ap length (new-rest text limits.openers short)))).emitted

    section-words : r.stop ≡ 0 → c ≡ event_words limits text ++ drop (length (event_words limits text)) b
    unfolding new
    section-words h =
        let goes = sym (ap (λ (t : Counters). t.stop) section-emitted.parser) ∙ h in
        let numbered = along_numbers text short es 0 (state begin b) (new-behind text limits.openers short) goes in
        section-emitted.words h ∙ written inp es begin b refl goes ∙ ap (λ (ws : List ℕ). ws ++ drop (length ws) b) numbered

    section-answers : is (# PROPERTIES_KW) (symbols text) ≡ true → reply (length (tokens text)) r ≡ section_reply limits text (room_in (length b))
    unfolding section_reply too_deep new room
    section-answers h =
        let n = room b in
        let t = length (tokens text) in
        let z : (j : ℕ) → 0 + j ≡ j = zero-add in
        ap (reply t) (emitted-advance section-emitted)
        ∙ advances text t n (room_most b) es (events-refuse_6 limits (symbols text)) n 0 begin (begin-going n)
        ∙ (λ i. cond (ltb n (length (pushed es))) (refused 5 (start_of text (z (taken (take n (pushed es))) i)))
        (cond (erring stops es) (refused 6 (start_of text (z (taken (pushed es)) i))) (answered t (z (taken es) i) (z (length es) i))))
        ∙ sym (ap (λ (q : Bool). cond (not q) (refused 4 (start_of text 0)) (cond (ltb n (length (pushed es))) (refused 5 (start_of text (taken (take n (pushed es)))))
        (cond (erring stops es) (refused 6 (start_of text (taken (pushed es)))) (answered t (taken es) (length es))))) h)

    -- `properties` stands, and the section is read
    pub section-read : stands inp (one (# PROPERTIES_KW) ∷ []) begin ≡ true → Sectioned limits text b r c
    section-read h =
        record { answer = section-answers (sym begin-stands ∙ h); words = section-words; long = section-emitted.long }

-- AS THE CODE HAS IT --------------------------------------------------------------------------------------------------

-- a parser that has begun over a text and the text's words
module _ (limits : Limits) {text : Bor (List ℕ)} {ws : Bor (List ℕ)} {events : MutBor (List ℕ)} {p : Parser} (short : length text.now < 65536)
    (w : ws.now ≡ token_words text.now) (x : Began text ws events limits.openers p) where
  abbrev begins : Counters
  begins = new (input text.now (token_words text.now)) limits.openers

  it_begins : counters p ≡ begins
  unfolding new
  it_begins =
      x.counts
      ∙ ap (λ (t : Tokens). record { at = t.at; byte = t.byte; taken = 0; used = 0; left = limits.openers; stop = 0 }) x.tokens
      ∙ ap (λ (l : List ℕ). new (input text.now l) limits.openers) w

  it_goes_over : source p.tokens ≡ input text.now (token_words text.now)
  it_goes_over = ap source x.tokens ∙ ap (input text.now) w

  it_stands : stand (one (# PROPERTIES_KW) ∷ []) p ≡ stands (input text.now (token_words text.now)) (one (# PROPERTIES_KW) ∷ []) begins
  it_stands = ap₂ (λ (i : Input) (q : Counters). stands i (one (# PROPERTIES_KW) ∷ []) q) it_goes_over it_begins

  code_refuses : {r : Parser} → stand (one (# PROPERTIES_KW) ∷ []) p ≡ false → Steps (λ _. halt 4) p r →
      Sectioned limits text.now events.now (counters r) r.events.now
  code_refuses {r} f y =
      refused-4 limits text.now short events.now (counters r) r.events.now (sym it_stands ∙ f)
      (ran x.holds it_begins)
    where
      ran : {b : List ℕ} {q : Counters} → p.events.now ≡ b → counters p ≡ q → Ran (halt 4) q b (counters r) r.events.now
      ran {b} d e =
          subst (λ (q : Counters). Ran (halt 4) q b (counters r) r.events.now) e
          (subst (λ (b : List ℕ). Ran (halt 4) (counters p) b (counters r) r.events.now) d y.did)

  code_reads : {r : Parser} → stand (one (# PROPERTIES_KW) ∷ []) p ≡ true → ReadsWithin p.left section p r →
      Sectioned limits text.now events.now (counters r) r.events.now
  code_reads {r} f y =
      section-read limits text.now short
      (over it_goes_over x.holds it_begins)
      (sym it_stands ∙ f)
    where
      over : {i : Input} {b : List ℕ} {q : Counters} → source p.tokens ≡ i → p.events.now ≡ b → counters p ≡ q → Read i q.left section q b (counters r) r.events.now
      over {i} {b} c d e =
          subst (λ (q : Counters). Read i q.left section q b (counters r) r.events.now) e
          (subst (λ (b : List ℕ). Read i p.left section (counters p) b (counters r) r.events.now) d
          (subst (λ (i : Input). Read i p.left section (counters p) p.events.now (counters r) r.events.now) c y.did))

  -- the section's reader, q being what its parser counted
  pub sectioned : {r : Parser} {q : Counters} → ReadsSection p r → q ≡ counters r → Sectioned limits text.now events.now q r.events.now
  sectioned {r} y told =
      subst (λ (q : Counters). Sectioned limits text.now events.now q r.events.now) (sym told) (go (stand (one (# PROPERTIES_KW) ∷ []) p) refl)
    where
      go : (t : Bool) → stand (one (# PROPERTIES_KW) ∷ []) p ≡ t → Sectioned limits text.now events.now (counters r) r.events.now
      go true e = code_reads e (y.read e)
      go false e = code_refuses e (y.refused_4 e)
