-- The three demands on the section call, as theorems about any limits and text, any lent words old and last, and the answer a and the
-- words ts and es that the call then gives: `SectionCalled` is what the call's contract says of them. What they rest on is aadl's. Assumes nothing.
use Prim.Native.Nat.{ℕ}
use native.Mathlib.Omega.{arith}
use mathlib.Core.Path.{◌≡◌, refl, sym, ap, ◌∙◌}
use mathlib.Core.Logic.{◌↔◌}
use mathlib.Core.Bool.{Bool, true, not, ◌&&◌}
use mathlib.Core.List.{List, [], ◌∷◌}
use lib.ListN.{length, take, length-map}
use lib.Seq.{length-take-le, take-take}
use lib.Dec.{eqb}
use borrow.Author.Tests.{eq-eqb, eqb-true, not-true}
use Rattle.predictive.specs.Events.{erring, any_fault}
use Rattle.predictive.proofs.Tests.{and_l, and_r}
use Rattle.aadl.specs.declared.Answer.{Answer}
use Rattle.aadl.specs.declared.Limits.{Limits}
use Rattle.aadl.specs.Limits.{Allowed}
use Rattle.aadl.specs.Symbols.{shown, symbols, kinds}
use Rattle.aadl.specs.Encoding.{words_for, first_words}
use Rattle.aadl.specs.Reading.{reads_cleanly}
use Rattle.aadl.specs.Answers.{answered, section_answer, left_in, token_words, event_words}
use Rattle.aadl.specs.Calls.{section_call, Settled}
use Rattle.aadl.specs.Demand.{answered_events, CleanAnswer, solid_words, is_clean}
use Rattle.aadl.specs.Promises.{SectionCalled, ReadWhole}
use Rattle.aadl.proofs.SymbolLaws.{symbols-show_kinds}
use Rattle.aadl.proofs.EventPairs.{length_first_words}
use Rattle.aadl.proofs.CallsRead.{section-answered, tokens-left, events_left, section-settled, section-read}
use Rattle.section.proofs.CleanLaws.{solid-kinds}
use Rattle.section.proofs.Unrefused.{all-counted, events-told, passed-short, token_words-counted, tokens-fit, events-fit}

module _ {limits : Limits} {text old last : List ℕ} {a : Answer} {ts es : List ℕ} (c : SectionCalled limits text old last a ts es) where
  -- Demand 1. Every answer is settled: counts with both buffers filled, or a refusal in its stated case only, with its place, zero counts
  -- and zero buffers.
  pub every-answer_is_settled : Settled (section_call limits text old last) a (ts ∷ es ∷ [])
  every-answer_is_settled = section-settled c

  -- Demand 2. The answer and every word at exit are those of the reading that is defined from 01, which was run against the Rust.
  pub every-answer-is-the-reading :
      (a ≡ section_answer limits text (length old) (length last)) × ((ts ≡ left_in a (token_words text) old) × (es ≡ left_in a (event_words limits text) last))
  every-answer-is-the-reading = (section-answered c, (tokens-left c, events_left c))

  -- Demand 3. An answer that refuses nothing is read as derived: cleanly exactly when 01's section grammar derives the kinds of the
  -- text's non-trivia tokens; by one derivation; and the tree that the answered events spell is it. Its words, strings and numbers are told, and each
  -- event knows its token.
  pub every-answer_is_read : Allowed limits → a.number ≡ 0 → ReadWhole text a ts es
  every-answer_is_read h z = section-read c z h

  -- The test of the function `is_clean` is exact: where nothing is refused it is the definition's ..
  pub clean-is_the_reading : Allowed limits → a.number ≡ 0 → is_clean a ts es ≡ reads_cleanly limits (symbols text)
  unfolding is_clean reads_cleanly
  clean-is_the_reading h z =
      let as_many : length (kinds text) ≡ length (symbols text) = sym (ap length (symbols-show_kinds text)) ∙ length-map (symbols text) shown in
      let solid = ap solid_words (token_words-counted c z) ∙ solid-kinds text (passed-short c z h) ∙ as_many in
      let taken_is = ap (λ (x : Answer). x.taken) (all-counted c z) in
      rw (eq-eqb a.number 0 z) (λ i. not (erring any_fault (events-told c z i)) && eqb (taken_is i) (solid i))

  -- .. whether it is asked with all words that were lent or with those that are counted ..
  pub clean-by_the_counted : a.number ≡ 0 →
      is_clean (answered (length (take a.tokens ts)) a.taken (length (first_words (take (words_for a.events) es)))) (take a.tokens ts) (take (words_for a.events) es)
      ≡ is_clean a ts es
  unfolding is_clean
  clean-by_the_counted z =
      let tokens-counted = length-take-le a.tokens ts (tokens-fit c z) in
      let events-counted : length (first_words (take (words_for a.events) es)) ≡ a.events =
      omega (arith, length_first_words (take (words_for a.events) es), length-take-le (words_for a.events) es (events-fit c z)) in
      rw (tokens-counted, events-counted, eq-eqb a.number 0 z, take-take a.tokens a.tokens ts (omega arith), take-take (words_for a.events) (words_for a.events) es (omega arith)) refl

  -- .. and tells whether the answer is clean as demand 3 has it.
  pub clean-is_told : Allowed limits → a.number ≡ 0 → (is_clean a ts es ≡ true) ↔ CleanAnswer text a es
  unfolding is_clean
  clean-is_told h z = (λ e. clean e, λ x. told x)
    where
      solid : solid_words (take a.tokens ts) ≡ length (kinds text)
      solid = ap solid_words (token_words-counted c z) ∙ solid-kinds text (passed-short c z h)

      erring-here : Bool
      erring-here = erring any_fault (answered_events a es)

      all_here : Bool
      all_here = eqb a.taken (solid_words (take a.tokens ts))

      clean : is_clean a ts es ≡ true → CleanAnswer text a es
      clean e =
          let f = and_r (eqb a.number 0) (not erring-here && all_here) e in
          record {
            no_error = not-true erring-here (and_l (not erring-here) all_here f);
            all_taken = eqb-true a.taken (solid_words (take a.tokens ts)) (and_r (not erring-here) all_here f) ∙ solid;
          }

      told : CleanAnswer text a es → is_clean a ts es ≡ true
      told x = rw (eq-eqb a.number 0 z, x.no_error, eq-eqb a.taken (solid_words (take a.tokens ts)) (x.all_taken ∙ sym solid)) refl
