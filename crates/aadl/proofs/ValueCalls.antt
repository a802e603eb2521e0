-- The value call goes on from the section call, so that what follows of any such call (CallsRead) follows of it. Its own: by which check it refuses, and
-- that its value is that of a constant of the derivation. Assumes nothing.
use Prim.Native.Nat.{ℕ}
use mathlib.Core.Path.{◌≡◌, refl, sym, ap, ◌∙◌}
use mathlib.Core.Bool.{Bool, true, false, not, ◌||◌}
use mathlib.Core.List.{List, [], ◌∷◌}
use mathlib.Core.Option.{Option, none, some}
use lib.ListN.{length, length-replicate}
use lib.Dec.{leb, eqb}
use lib.IntN.{ℤ}
use borrow.Author.Tests.{eq-eqb, not-true, not-false, eqb-true}
use Rattle.predictive.specs.Forest.{Forest}
use Rattle.predictive.specs.Events.{taken, erring, any_fault}
use Rattle.predictive.proofs.Tests.{never, and_l, and_r, or_l}
use Rattle.aadl.specs.declared.Answer.{Answer}
use Rattle.aadl.specs.declared.ValueAnswer.{ValueAnswer}
use Rattle.aadl.specs.Limits.{Limits}
use Rattle.aadl.specs.Symbols.{symbols, kinds, start_of}
use Rattle.aadl.specs.Reading.{events, Clean, reads_cleanly, Derivation}
use Rattle.aadl.specs.Answers.{checked, left_in, token_words, event_words}
use Rattle.aadl.specs.Calls.{lent, answer_of, left, Did, section_call, tokens_call, Each, Fails, Settled}
use Rattle.aadl.specs.Values.{Constant, Outcome, exact, beyond, value, Association}
use Rattle.aadl.specs.ValueCall.{associations_in, nth_association, outcome_of, is_none, is_beyond, exact_value, text_associations, value_checks, with_value, value_refused, value_answer, valuing, value_call, Valued, valued_by}
use Rattle.aadl.specs.Promises.{SectionCalled, ValueCalled}
use Rattle.aadl.proofs.Demand3.{demand_3}
use Rattle.aadl.proofs.Settled.{Sound, settled, whole}
use Rattle.aadl.proofs.Extending.{by-own, own-fail}
use Rattle.aadl.proofs.CallsRead.{exit-at, section-sound, section-promised, section's, all-passed}

-- BY ITS OWN CHECKS ----------------------------------------------------------------------------------------------------

module _ (limits : Limits) (text : List ℕ) (k : ℕ) where
  -- the association with the number
  abbrev its : Association
  its = nth_association k (text_associations limits text)

  -- The text is not clean, or has no such association.
  abbrev pub lacks-it : Bool
  lacks-it = not (reads_cleanly limits (symbols text)) || leb (length (text_associations limits text)) k

  -- What the value call answers where the section call answered a, by its own checks.
  abbrev pub by-value_checks : Answer → ValueAnswer
  by-value_checks a = checked value_refused (value_checks limits text k) ((valuing limits text k).added a)

  module _ (a : Answer) where
    pub refused-lacking : lacks-it ≡ true → by-value_checks a ≡ value_refused 9 (length text)
    refused-lacking h = rw h refl

    module _ (h : lacks-it ≡ false) where
      pub refused-no_constant : its.constant ≡ none → by-value_checks a ≡ value_refused 9 (start_of text its.first)
      refused-no_constant e = rw (h, e) refl

      module _ (c : Constant) (e : its.constant ≡ some c) where
        pub refused-beyond : (i : ℕ) → value c ≡ beyond i → by-value_checks a ≡ value_refused 10 (start_of text i)
        refused-beyond i v = rw (h, e, v) refl

        pub value-passed : (x : ℤ) → value c ≡ exact x → by-value_checks a ≡ with_value a x
        value-passed x v = rw (h, e, v) refl

some-constant : (o : Option Constant) → is_none o ≡ false → (c : Constant) × (o ≡ some c)
some-constant none h = never (sym h)
some-constant (some c) h = (c, refl)

exact-outcome : (o : Outcome) → is_beyond o ≡ false → o ≡ exact (exact_value o)
exact-outcome (exact x) h = refl
exact-outcome (beyond i) h = never (sym h)

-- What the test of a clean reading says.
pub clean-by_test : (limits : Limits) (xs : List ℕ) → reads_cleanly limits xs ≡ true → Clean limits xs
unfolding reads_cleanly
clean-by_test limits xs c =
    let errs = erring any_fault (events limits xs) in
    let count = taken (events limits xs) in
    record { no_error = not-true errs (and_l (not errs) _ c); all_taken = eqb-true count (length xs) (and_r (not errs) (eqb count (length xs)) c) }

pub test_of_clean : (limits : Limits) (xs : List ℕ) → Clean limits xs → reads_cleanly limits xs ≡ true
unfolding reads_cleanly
test_of_clean limits xs c = rw (c.no_error, eq-eqb (taken (events limits xs)) (length xs) c.all_taken) refl

-- THE CALL -------------------------------------------------------------------------------------------------------------

pub value-sound : (limits : Limits) (text old last : List ℕ) (k : ℕ) → Sound (value_call limits text old last k)
unfolding value_call section_call tokens_call
value-sound limits text old last k = (refl, refl)

module _ (limits : Limits) (text old last : List ℕ) (k : ℕ) {a : ValueAnswer} {ts es : List ℕ} (d : Did (value_call limits text old last k) a (ts ∷ es ∷ [])) where
  module _ (z : a.answer.number ≡ 0) where
    section-by : SectionCalled limits text old last a.answer ts es
    unfolding value_call
    section-by = section's (valuing limits text k) (λ x. refl) limits text old last (value-sound limits text old last k) d z

    own : Each Fails (value_checks limits text k)
    unfolding value_call
    own = own-fail (section_call limits text old last) (valuing limits text k) (λ x. refl) (value-sound limits text old last k) d z

    counts : a.value ≡ exact_value (outcome_of (its limits text k).constant)
    unfolding value_call
    counts = ap (λ (x : ValueAnswer). x.value) (whole (value-sound limits text old last k) d z).counts

    -- The derivation has the constant, and that comes exactly to the value.
    valued : Valued text k a
    unfolding text_associations
    valued =
        let c = some-constant (its limits text k).constant own.1.0 in
        let v = exact-outcome (outcome_of (its limits text k).constant) own.1.1.0 in
        let clean = not-false (reads_cleanly limits (symbols text)) (or_l (not (reads_cleanly limits (symbols text))) _ own.0) in
        let u = demand_3 limits text (all-passed section-by z).deep in
        let t = u.exactly.0 (clean-by_test limits (symbols text) clean) in
        record {
          tree = t.0;
          derived = t.1;
          constant = c.0;
          among = ap (λ (f : Forest). (nth_association k (associations_in text f)).constant) (sym (u.spelled t.0 t.1)) ∙ c.1;
          exactly = ap outcome_of (sym c.1) ∙ v ∙ ap exact (sym counts);
        }

  -- What the section call answers, and the words that it leaves.
  abbrev first : Answer
  first = answer_of (section_call limits text old last)

  first-did : SectionCalled limits text old last first (left first.number (lent old (token_words text))) (left first.number (lent last (event_words limits text)))
  unfolding section_call tokens_call
  first-did = section-promised limits text old last (record { answer = refl; exit = refl })

  -- Where it refuses nothing, a derivation is the tree that is read, and the text is read cleanly: so the value call's own checks are the
  -- derivation's.
  decided : (t : Forest) → Derivation (kinds text) t → first.number ≡ 0 → a ≡ valued_by text t k first
  unfolding value_call text_associations
  decided t u z =
      let e = demand_3 limits text (all-passed first-did z).deep in
      let clean : reads_cleanly limits (symbols text) ≡ true = test_of_clean limits (symbols text) (e.exactly.1 (t, u)) in
      d.answer ∙ by-own (section-sound limits text old last) (valuing limits text k) first-did.did z ∙ rw (clean, e.spelled t u) refl

  -- So the call keeps its promise.
  pub value-promised : ValueCalled limits text old last k a ts es
  value-promised = record { did = d; derived = λ z. (section-by z).derived z; valued = valued; decided = decided }

module _ {limits : Limits} {text old last : List ℕ} {k : ℕ} {a : ValueAnswer} {ts es : List ℕ} (c : ValueCalled limits text old last k a ts es) where
  pub value-answered : a ≡ value_answer limits text (length old) (length last) k
  unfolding value_call section_call tokens_call value_answer
  value-answered = rw (length-replicate {A = ℕ} (length old) 0, length-replicate {A = ℕ} (length last) 0) c.did.answer

  -- every word at exit
  pub value-left : (ts ≡ left_in a.answer (token_words text) old) × (es ≡ left_in a.answer (event_words limits text) last)
  unfolding value_call section_call tokens_call left_in
  value-left = (exit-at 0 c.did.exit, exit-at 1 c.did.exit)

  pub value-settled : Settled (value_call limits text old last k) a (ts ∷ es ∷ [])
  value-settled = settled (value-sound limits text old last k) c.did

  pub value-section's : a.answer.number ≡ 0 → SectionCalled limits text old last a.answer ts es
  value-section's = section-by limits text old last k c.did
