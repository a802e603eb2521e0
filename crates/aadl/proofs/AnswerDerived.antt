-- Demand 3 of an answer: an answer that refuses nothing passed every check, so its events are all there and their words tell them
-- (EventWords); then it is demand 3 of the definitions. Assumes nothing.
use Prim.Native.Nat.{ℕ, ◌≤◌}
use native.Mathlib.Omega.{arith}
use mathlib.Core.Path.{◌≡◌, refl, sym, ap, ap₂, subst, ◌∙◌}
use mathlib.Core.Bool.{false}
use mathlib.Core.List.{List, [], ◌∷◌, ◌++◌}
use lib.ListN.{length, drop, length-map}
use lib.Dec.{eqb}
use borrow.Author.Tests.{ltb-false, eqb-true, not-false}
use Rattle.predictive.specs.Forest.{message, refusal}
use Rattle.predictive.specs.Events.{Event, start, token, finish, error, taken, erring, any_fault, stops}
use Rattle.predictive.specs.Tree.{spell}
use Rattle.predictive.proofs.Tests.{never}
use Rattle.aadl.specs.declared.Answer.{Answer}
use Rattle.aadl.specs.Limits.{Limits}
use Rattle.aadl.specs.Utf8.{ill_formed}
use Rattle.aadl.specs.Tokens.{tokens}
use Rattle.aadl.specs.Symbols.{shown, symbols, kinds}
use Rattle.aadl.specs.Encoding.{room, events_in}
use Rattle.aadl.specs.Reading.{events, pushed, too_deep, Clean}
use Rattle.aadl.specs.Answers.{text_checks, section_checks, answered, all_answered, section_answer, left_in, event_words}
use Rattle.aadl.specs.Demand.{answered_events, CleanAnswer, ReadAsDerived}
use Rattle.aadl.proofs.Characters.{WellFormed}
use Rattle.aadl.proofs.Checks.{fails_by}
use Rattle.aadl.specs.Calls.{plain, Call}
use Rattle.aadl.proofs.Settled.{whole}
use Rattle.aadl.proofs.AnswerLaws.{left-answered}
use Rattle.aadl.proofs.SymbolLaws.{symbols-show_kinds}
use Rattle.aadl.proofs.Demand3.{Demand3, demand_3}
use Rattle.aadl.proofs.EventWords.{first_words-tell}

-- without an opener too many all events are pushed
pushed-all : (es : List Event) → erring stops es ≡ false → pushed es ≡ es
unfolding pushed erring
pushed-all [] e = refl
pushed-all (start k up ∷ es) e = ap (λ (l : List Event). start k up ∷ l) (pushed-all es e)
pushed-all (token k ∷ es) e = ap (λ (l : List Event). token k ∷ l) (pushed-all es e)
pushed-all (finish ∷ es) e = ap (λ (l : List Event). finish ∷ l) (pushed-all es e)
pushed-all (error (message m) ∷ es) e = ap (λ (l : List Event). error (message m) ∷ l) (pushed-all es e)
pushed-all (error (refusal n) ∷ es) e = never (sym e)

-- THE ANSWER -----------------------------------------------------------------------------------------------------------

module _ (limits : Limits) (text : List ℕ) (m n : ℕ) where
  abbrev es : List Event
  es = events limits (symbols text)

  -- An answer that refuses nothing: the text is short enough and well-formed, no opener too many stands, all events have words and are
  -- counted.
  pub record Answered : Type 0 where
    pub short : length text ≤ limits.bytes
    pub formed : WellFormed text
    pub deep : too_deep limits (symbols text) ≡ false
    pub few : length es ≤ room n
    pub whole : section_answer limits text m n ≡ answered (length (tokens text)) (taken es) (length es)

  pub answered-whole : (section_answer limits text m n).number ≡ 0 → Answered
  unfolding section_answer too_deep
  answered-whole z =
      let cs = text_checks limits text m ++ section_checks limits text (room n) in
      let c : Call plain = record { checks = cs; all = all_answered limits text; buffers = [] } in
      let w = whole {call = c} (refl, refl) (record { answer = refl; exit = refl }) z in
      let d : erring stops es ≡ false = fails_by 6 cs w.none in
      let f : length (pushed es) ≤ room n = ltb-false (room n) (length (pushed es)) (fails_by 5 cs w.none) in
      record {
        short = ltb-false limits.bytes (length text) (fails_by 1 cs w.none);
        formed = eqb-true (ill_formed text) (length text) (not-false (eqb (ill_formed text) (length text)) (fails_by 2 cs w.none));
        deep = d;
        few = subst (λ (l : List Event). length l ≤ room n) (pushed-all es d) f;
        whole = w.counts;
      }

  -- The events that an answer counts are the reading's: told by the words ws that it left in the lent words old.
  pub told : (old : List ℕ) (a : Answer) (ws : List ℕ) → a ≡ section_answer limits text m n →
      ws ≡ left_in (section_answer limits text m n) (event_words limits text) old → (section_answer limits text m n).number ≡ 0 → answered_events a ws ≡ es
  told old a ws e w z =
      let x = answered-whole z in
      ap₂ answered_events e w
      ∙ ap (λ (b : Answer). answered_events b (left_in b (event_words limits text) old)) x.whole
      ∙ ap (events_in (length es)) (left-answered (length (tokens text)) (taken es) (length es) (event_words limits text) old)
      ∙ first_words-tell limits text (drop (length (event_words limits text)) old) x.deep (omega (arith, x.few))

  -- An answer that refuses nothing, and the event words that are then left, are read as derived.
  pub answer-derived : (old : List ℕ) → (section_answer limits text m n).number ≡ 0 →
      ReadAsDerived text (section_answer limits text m n) (left_in (section_answer limits text m n) (event_words limits text) old)
  answer-derived old z =
      record { exactly = (λ c. d.exactly.0 (clean c), λ u. cleaned (d.exactly.1 u)); unique = d.unique; spelled = λ t u. ap spell tells ∙ d.spelled t u }
    where
      d : Demand3 limits (symbols text) (kinds text)
      d = demand_3 limits text (answered-whole z).deep

      tells : answered_events (section_answer limits text m n) (left_in (section_answer limits text m n) (event_words limits text) old) ≡ es
      tells = told old (section_answer limits text m n) (left_in (section_answer limits text m n) (event_words limits text) old) refl refl z

      -- as many tokens are taken as the text has kinds just if as many as it has symbols
      many : length (kinds text) ≡ length (symbols text)
      many = sym (ap length (symbols-show_kinds text)) ∙ length-map (symbols text) shown

      count : (section_answer limits text m n).taken ≡ taken es
      count = ap (λ (x : Answer). x.taken) (answered-whole z).whole

      clean : CleanAnswer text (section_answer limits text m n) (left_in (section_answer limits text m n) (event_words limits text) old) →
          Clean limits (symbols text)
      clean c = record { no_error = sym (ap (erring any_fault) tells) ∙ c.no_error; all_taken = sym count ∙ c.all_taken ∙ many }

      cleaned : Clean limits (symbols text) →
          CleanAnswer text (section_answer limits text m n) (left_in (section_answer limits text m n) (event_words limits text) old)
      cleaned c = record { no_error = ap (erring any_fault) tells ∙ c.no_error; all_taken = count ∙ c.all_taken ∙ sym many }
