-- What every call tells that refuses nothing, proved once: of the tokens-only call (`tokens-told` ..), of the section call (`section-read`), of any call that
-- goes on from it (`extension_read`). Assumes nothing.
use Prim.Native.Nat.{ℕ, ◌<◌}
use native.Mathlib.Omega.{arith}
use mathlib.Core.Path.{◌≡◌, refl, sym, ap, subst, ◌∙◌}
use mathlib.Core.List.{List, [], ◌∷◌, ◌++◌}
use lib.ListN.{length, get_or, drop}
use Rattle.aadl.specs.declared.Answer.{Answer}
use Rattle.aadl.specs.Limits.{Limits, Allowed}
use Rattle.aadl.specs.Tokens.{StringsClosed}
use Rattle.aadl.specs.Symbols.{symbols}
use Rattle.aadl.specs.WordKinds.{WordsTold}
use Rattle.aadl.specs.NumberParts.{NumbersTold}
use Rattle.aadl.specs.Reading.{events}
use Rattle.aadl.specs.Answers.{all_answered, tokens_answer, section_answer, left_in, token_words, event_words}
use Rattle.aadl.specs.Calls.{Form, lent, number_of, Did, filled, Extension, extending, tokens_call, reading_events, section_call, AnsweredWhole, Settled}
use Rattle.aadl.specs.EventTokens.{TokensKnown}
use Rattle.aadl.specs.Demand.{answered_events, ReadAsDerived}
use Rattle.aadl.specs.Promises.{TokensCalled, SectionCalled, ReadWhole}
use Rattle.aadl.proofs.Settled.{Sound, settled, whole}
use Rattle.aadl.proofs.Extending.{first's}
use Rattle.aadl.proofs.AnswerDerived.{Answered, answered-whole, told, answer-derived}
use Rattle.aadl.proofs.EventTokens.{tokens-known}
use Rattle.aadl.proofs.TokenText.{TokensRead, text-read, read_told}
use Rattle.aadl.proofs.WordTokens.{words_told}
use Rattle.aadl.proofs.StringTokens.{strings-closed}
use Rattle.aadl.proofs.NumberTokens.{numbers-told}

-- Of the exits of a call, the one with a number.
pub exit-at : {xs ys : List (List ℕ)} (i : ℕ) → xs ≡ ys → get_or xs i [] ≡ get_or ys i []
exit-at i e = ap (λ (l : List (List ℕ)). get_or l i []) e

-- THE TOKENS-ONLY CALL -------------------------------------------------------------------------------------------------

pub tokens-sound : (limits : Limits) (text old : List ℕ) → Sound (tokens_call limits text old)
unfolding tokens_call
tokens-sound limits text old = (refl, refl)

module _ (limits : Limits) (text old : List ℕ) {a : Answer} {ts : List ℕ} (d : Did (tokens_call limits text old) a (ts ∷ [])) where
  tokens-read_by : Allowed limits → a.number ≡ 0 → TokensRead text old a.tokens ts
  unfolding tokens_call
  tokens-read_by h z =
      let w = whole (tokens-sound limits text old) d z in
      text-read limits text old [] a.tokens ts h w.none (ap (λ (r : Answer). r.tokens) w.counts) (exit-at 0 w.fills)

  -- The call keeps its promise.
  pub tokens-promised : Allowed limits → TokensCalled limits text old a ts
  tokens-promised h = record { did = d; words_told = λ z. read_told (WordsTold text) (tokens-read_by h z) (words_told text) }

module _ {limits : Limits} {text old : List ℕ} {a : Answer} {ts : List ℕ} (c : TokensCalled limits text old a ts) where
  pub tokens-answered : a ≡ tokens_answer limits text (length old)
  unfolding tokens_call tokens_answer
  tokens-answered = c.did.answer

  pub tokens-left_only : ts ≡ left_in a (token_words text) old
  unfolding tokens_call left_in
  tokens-left_only = exit-at 0 c.did.exit

  pub tokens-settled : Settled (tokens_call limits text old) a (ts ∷ [])
  tokens-settled = settled (tokens-sound limits text old) c.did

  pub tokens-whole : a.number ≡ 0 → AnsweredWhole (tokens_call limits text old) a (ts ∷ [])
  tokens-whole = whole (tokens-sound limits text old) c.did

  module _ (z : a.number ≡ 0) (h : Allowed limits) where
    pub tokens-read : TokensRead text old a.tokens ts
    tokens-read = tokens-read_by limits text old c.did h z

    pub tokens-closed : StringsClosed text a.tokens ts
    tokens-closed = read_told (StringsClosed text) tokens-read (strings-closed text tokens-read.closed)

    pub tokens-numbers : NumbersTold text a.tokens ts
    tokens-numbers = read_told (NumbersTold text) tokens-read (numbers-told text)

-- A call that goes on from it did it, where nothing is refused and it just adds to the answer.
pub tokens's : {A : Type 0} {form : Form A} (x : Extension form) → ((a : Answer) → form.five (x.added a) ≡ a) → (limits : Limits) (text old : List ℕ) →
    Sound (extending (tokens_call limits text old) x) → {a : A} {ts : List ℕ} {more : List (List ℕ)} → Did (extending (tokens_call limits text old) x) a (ts ∷ more) →
    number_of form a ≡ 0 → Allowed limits → TokensCalled limits text old (form.five a) ts
unfolding tokens_call
tokens's x adds limits text old sound d z = tokens-promised limits text old (first's (tokens_call limits text old) x adds sound d z)

-- THE SECTION CALL -----------------------------------------------------------------------------------------------------

pub section-sound : (limits : Limits) (text old last : List ℕ) → Sound (section_call limits text old last)
unfolding section_call tokens_call
section-sound limits text old last = (refl, refl)

module _ (limits : Limits) (text old last : List ℕ) {a : Answer} {ts es : List ℕ} (d : Did (section_call limits text old last) a (ts ∷ es ∷ [])) where
  answered-by : a ≡ section_answer limits text (length old) (length last)
  unfolding section_call tokens_call section_answer
  answered-by = d.answer

  events-by : es ≡ left_in a (event_words limits text) last
  unfolding section_call tokens_call left_in
  events-by = exit-at 1 d.exit

  -- The call keeps its promise: demand 3.
  pub section-promised : SectionCalled limits text old last a ts es
  section-promised =
      record {
        did = d;
        derived = λ z.
            subst (λ (l : List ℕ). ReadAsDerived text a l) (sym events-by)
            (subst (λ (r : Answer). ReadAsDerived text r (left_in r (event_words limits text) last)) (sym answered-by)
            (answer-derived limits text (length old) (length last) last (sym (ap (λ (r : Answer). r.number) answered-by) ∙ z)));
      }

module _ {limits : Limits} {text old last : List ℕ} {a : Answer} {ts es : List ℕ} (c : SectionCalled limits text old last a ts es) where
  pub section-answered : a ≡ section_answer limits text (length old) (length last)
  section-answered = answered-by limits text old last c.did

  pub tokens-left : ts ≡ left_in a (token_words text) old
  unfolding section_call tokens_call left_in
  tokens-left = exit-at 0 c.did.exit

  pub events_left : es ≡ left_in a (event_words limits text) last
  events_left = events-by limits text old last c.did

  pub section-settled : Settled (section_call limits text old last) a (ts ∷ es ∷ [])
  section-settled = settled (section-sound limits text old last) c.did

  module _ (z : a.number ≡ 0) where
    pub section-whole : AnsweredWhole (section_call limits text old last) a (ts ∷ es ∷ [])
    section-whole = whole (section-sound limits text old last) c.did z

    passed : (section_answer limits text (length old) (length last)).number ≡ 0
    passed = sym (ap (λ (r : Answer). r.number) section-answered) ∙ z

    pub all-passed : Answered limits text (length old) (length last)
    all-passed = answered-whole limits text (length old) (length last) passed

    pub all-counted : a ≡ all_answered limits text
    all-counted = section-answered ∙ all-passed.whole

    pub tokens-filled : ts ≡ filled (lent old (token_words text))
    unfolding section_call tokens_call
    tokens-filled = exit-at 0 section-whole.fills

    pub events-filled : es ≡ filled (lent last (event_words limits text))
    unfolding section_call tokens_call
    events-filled = exit-at 1 section-whole.fills

    pub section-tokens_read : Allowed limits → TokensRead text old a.tokens ts
    unfolding section_call tokens_call
    section-tokens_read h =
        text-read limits text old (reading_events limits text last).own a.tokens ts h section-whole.none (ap (λ (r : Answer). r.tokens) all-counted) tokens-filled

    pub events-told : answered_events a es ≡ events limits (symbols text)
    events-told =
        told limits text (length old) (length last) last a es section-answered (events_left ∙ ap (λ (r : Answer). left_in r (event_words limits text) last) section-answered) passed

    -- Of the second words.
    events-known : length text < 65536 → TokensKnown text a ts es
    events-known short =
        let us = token_words text ++ drop (length (token_words text)) old in
        subst (λ (r : Answer). TokensKnown text r ts es) (sym all-counted)
        (subst (λ (l : List ℕ). TokensKnown text (all_answered limits text) l es) (sym tokens-filled)
        (subst (λ (l : List ℕ). TokensKnown text (all_answered limits text) us l) (sym events-filled)
        (tokens-known limits text (drop (length (token_words text)) old) (drop (length (event_words limits text)) last) short all-passed.deep (omega (arith, all-passed.few)))))

    pub section-read : Allowed limits → ReadWhole text a ts es
    section-read h =
        let t = section-tokens_read h in
        record {
          derived = c.derived z;
          words = read_told (WordsTold text) t (words_told text);
          strings = read_told (StringsClosed text) t (strings-closed text t.closed);
          numbers = read_told (NumbersTold text) t (numbers-told text);
          named = events-known t.short;
        }

-- ANY CALL THAT GOES ON FROM IT ----------------------------------------------------------------------------------------

module _ {A : Type 0} {form : Form A} (x : Extension form) (adds : (a : Answer) → form.five (x.added a) ≡ a) (limits : Limits) (text old last : List ℕ)
    (sound : Sound (extending (section_call limits text old last) x)) {a : A} {ts es : List ℕ} {more : List (List ℕ)}
    (d : Did (extending (section_call limits text old last) x) a (ts ∷ es ∷ more)) (z : number_of form a ≡ 0) where
  -- Where it refuses nothing it did what the section call does; so it tells all that the section call does.
  pub section's : SectionCalled limits text old last (form.five a) ts es
  unfolding section_call tokens_call
  section's = section-promised limits text old last (first's (section_call limits text old last) x adds sound d z)

  pub extension_read : Allowed limits → ReadWhole text (form.five a) ts es
  extension_read = section-read section's z
