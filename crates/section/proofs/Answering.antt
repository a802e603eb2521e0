-- The section call, way by way (aadl's Extending): the tokens-only call refused; the parser stopped; nothing is refused. Each keeps the call's
-- promise. Assumes nothing.
use Prim.Native.Nat.{ℕ, ◌≤◌, ◌<◌}
use native.Mathlib.Omega.{arith}
use mathlib.Core.Path.{◌≡◌, refl, sym, ap, ◌∙◌}
use mathlib.Core.Logic.{⊎_elim}
use mathlib.Core.List.{List, [], ◌∷◌}
use lib.ListN.{length, take, replicate, length-map, length-append}
use lib.Seq.{take_at}
use borrow.Author.Tests.{eq-eqb, ne_eqb}
use Rattle.aadl.specs.declared.Answer.{Answer}
use Rattle.aadl.specs.declared.Limits.{Limits}
use Rattle.aadl.specs.Limits.{Allowed}
use Rattle.aadl.specs.Tokens.{tokens, token_word}
use Rattle.aadl.specs.Encoding.{room}
use Rattle.aadl.specs.Answers.{section_checks, answered, all_answered, refused, checked, token_words}
use Rattle.aadl.specs.Calls.{plain, lent, Call, filled, tokens_call, reading_events, section_call}
use Rattle.aadl.specs.Promises.{TokensCalled, SectionCalled}
use Rattle.aadl.proofs.Settled.{number_small}
use Rattle.aadl.proofs.Extending.{did-same, on-refused, own-refuses, none-refuses}
use Rattle.aadl.proofs.CallsRead.{exit-at, tokens-sound, tokens-settled, tokens-whole, tokens-read, section-promised}
use Rattle.parser.specs.declared.Counters.{Counters}
use Rattle.section.specs.Replies.{reply, section_reply, Sectioned}

reply-stopped : (t : ℕ) (p : Counters) → (p.stop ≡ 0 → ⊥) → reply t p ≡ refused p.stop p.byte
unfolding reply
reply-stopped t p f = rw (ne_eqb p.stop 0 f) refl

reply-goes : (t : ℕ) (p : Counters) → p.stop ≡ 0 → reply t p ≡ answered t p.taken p.used
unfolding reply
reply-goes t p e = rw (eq-eqb p.stop 0 e) refl

-- The number for which a parser stopped fits a byte.
pub stopped-small : {limits : Limits} {text b : List ℕ} {p : Counters} {c : List ℕ} → Sectioned limits text b p c → (p.stop ≡ 0 → ⊥) → p.stop ≤ 255
unfolding section_reply
stopped-small {limits} {text} {b} {p} x f =
    let call : Call plain = record { checks = section_checks limits text (room (length b)); all = all_answered limits text; buffers = [] } in
    number_small {call = call} (refl, refl) {a = refused p.stop p.byte} (record { answer = sym (reply-stopped (length (tokens text)) p f) ∙ x.answer; exit = refl })

-- a is what the tokens-only call answered, ts the token words that it left
module _ {limits : Limits} {text old : List ℕ} {a : Answer} {ts : List ℕ} (c : TokensCalled limits text old a ts) where
  -- a refusal is its number and place alone
  alone : (a.number ≡ 0 → ⊥) → refused a.number a.place ≡ a
  unfolding tokens_call
  alone f =
      ⊎_elim
      (λ x. absurd (f (ap (λ (r : Answer). r.number) x.counts)))
      (λ x. (λ i. refused (x.no_counts i).number (x.no_counts i).place) ∙ sym x.no_counts)
      (tokens-settled c)

  pub called-refused : (last : List ℕ) (r : Answer) (es : List ℕ) → (a.number ≡ 0 → ⊥) → r ≡ refused a.number a.place → es ≡ replicate (length last) 0 →
      SectionCalled limits text old last r ts es
  unfolding section_call
  called-refused last r es f g z =
      section-promised limits text old last
      (did-same (on-refused (tokens-sound limits text old) (reading_events limits text last) c.did f) (g ∙ alone f) (λ i. ts ∷ z i ∷ []))

  module _ (n : a.number ≡ 0) where
    pub passed-short : Allowed limits → length text < 65536
    passed-short h = (tokens-read c n h).short

    passed-count : a.tokens ≡ length (tokens text)
    unfolding tokens_call
    passed-count = ap (λ (x : Answer). x.tokens) (tokens-whole c n).counts

    left-words : ts ≡ filled (lent old (token_words text))
    unfolding tokens_call
    left-words = exit-at 0 (tokens-whole c n).fills

    pub passed-fits : a.tokens ≤ length ts
    passed-fits = omega (arith, passed-count, length-map (tokens text) token_word, simp length-append at (ap length left-words))

    -- the words that it counted are the text's
    pub passed_words : take a.tokens ts ≡ token_words text
    passed_words = ap (take a.tokens) left-words ∙ take_at (token_words text) _ a.tokens (length-map (tokens text) token_word ∙ sym passed-count)

    module _ {last : List ℕ} {p : Counters} {es : List ℕ} (x : Sectioned limits text last p es) where
      by-reply : checked refused (section_checks limits text (room (length last))) ((reading_events limits text last).added a) ≡ reply (length (tokens text)) p
      unfolding section_reply
      by-reply =
          ap (λ (k : ℕ). checked refused (section_checks limits text (room (length last))) ((reading_events limits text last).added (answered k 0 0))) passed-count
          ∙ sym x.answer

      pub called-stopped : (r : Answer) (us fs : List ℕ) {gs : List ℕ} → gs ≡ es → (p.stop ≡ 0 → ⊥) → r ≡ refused p.stop p.byte → length ts ≡ length old →
          us ≡ replicate (length ts) 0 → fs ≡ replicate (length gs) 0 → SectionCalled limits text old last r us fs
      unfolding section_call tokens_call
      called-stopped r us fs e f g l y z =
          section-promised limits text old last
          (did-same
          (own-refuses (tokens-sound limits text old) (reading_events limits text last) c.did n (refused p.stop p.byte) (by-reply ∙ reply-stopped (length (tokens text)) p f) f)
          g (λ i. (y ∙ ap (λ (k : ℕ). replicate k 0) l) i ∷ (z ∙ ap (λ (k : ℕ). replicate k 0) (ap length e ∙ x.long)) i ∷ []))

      -- .. the lent words being those that the parser left
      pub called-answered : {fs : List ℕ} → fs ≡ es → p.stop ≡ 0 → SectionCalled limits text old last (answered a.tokens p.taken p.used) ts fs
      unfolding section_call
      called-answered e h =
          let t = length (tokens text) in
          section-promised limits text old last
          (did-same
          (none-refuses (tokens-sound limits text old) (reading_events limits text last) c.did n (answered t p.taken p.used) (by-reply ∙ reply-goes t p h) refl)
          (ap (λ (k : ℕ). answered k p.taken p.used) passed-count) (λ i. ts ∷ (e ∙ x.words h) i ∷ []))
