-- The pieces of a listing, end to end, are 01's listing, for all bytes: of a call's answer and words (by demand 1: either all was read, or nothing is
-- left but the refusal's line), and of a text of which only the first bytes were read, one more than may be. Assumes nothing.
use Prim.Native.Nat.{ℕ, suc, ◌-◌, ◌≤◌, ◌<◌}
use native.Mathlib.Omega.{arith}
use mathlib.Core.Path.{◌≡◌, refl, sym, ap, ◌∙◌}
use mathlib.Core.Logic.{⊎_elim}
use mathlib.Core.Bool.{Bool, true, false, cond}
use mathlib.Core.List.{List, [], ◌∷◌, ◌++◌, append-nil}
use lib.ListN.{length, take, drop, length-append}
use lib.Seq.{take_all, length-take-le}
use lib.Dec.{leb}
use borrow.Author.Tests.{ne_eqb, leb-true, leb-false}
use Rattle.aadl.specs.declared.Answer.{Answer}
use Rattle.aadl.specs.declared.Limits.{Limits}
use Rattle.aadl.specs.Limits.{Allowed}
use Rattle.aadl.specs.Answers.{section_checks, all_answered, refused, section_answer}
use Rattle.aadl.specs.Encoding.{room, words_for, first_words}
use Rattle.aadl.specs.Listing.{lent_tokens, lent_events, listing_answer, listing}
use Rattle.aadl.specs.Calls.{Each, tokens_call, section_call, AnsweredWhole, RefusedFirst}
use Rattle.aadl.specs.Promises.{SectionCalled}
use Rattle.aadl.proofs.AnswerLaws.{too_long}
use Rattle.aadl.proofs.CallsRead.{section-answered}
use Rattle.parser.specs.Input.{Input, input}
use Rattle.section.proofs.Unrefused.{token_words-counted, event_words-counted}
use Rattle.section.proofs.Demands.{every-answer_is_settled}
use Rattle.listing.specs.declared.Listing.{Listing}
use Rattle.listing.specs.declared.Position.{Position}
use Rattle.listing_lines.specs.Lines.{line_room, refusal_line, first_line}
use Rattle.listing.specs.Positions.{begin, step, lines_from}
use Rattle.listing.specs.Pieces.{joined, piece, left, ListsWithin}
use Rattle.listing_lines.proofs.LineLaws.{listing-is, first-is_header, first-is_refusal, line-some, first_line-some}
use Rattle.listing.proofs.PositionLaws.{listing-of_answer}
use Rattle.listing.proofs.PieceLaws.{piece-more, pieces, pieces-are_all}

-- OF A CALL ------------------------------------------------------------------------------------------------------------

-- The lines of an answer and the words that it counts, from a position on.
abbrev pub answer-lines : (text ts es : List ℕ) → Answer → Position → List (List ℕ)
answer-lines text ts es a k = first_line a ∷ lines_from (input text (take a.tokens ts)) 0 (first_words (take (words_for a.events) es)) k

module _ {limits : Limits} {text old last : List ℕ} {a : Answer} {ts es : List ℕ} (c : SectionCalled limits text old last a ts es) (h : Allowed limits) (m : length old ≡ lent_tokens) (n : length last ≡ lent_events) where
  answer-is : a ≡ listing_answer limits text
  answer-is = section-answered c ∙ (λ i. section_answer limits text (m i) (n i))

  read-listed : (k : Position) → k ≡ begin (input text (take a.tokens ts)) → AnsweredWhole (section_call limits text old last) a (ts ∷ es ∷ []) → joined (answer-lines text ts es a k) ≡ listing limits text
  unfolding section_call tokens_call
  read-listed k e x =
      let z : a.number ≡ 0 = ap (λ (r : Answer). r.number) x.counts in
      let f = first-is_header a z in
      let t = token_words-counted c z in
      let w = event_words-counted c z in
      let b = e ∙ ap (λ (l : List ℕ). begin (input text l)) t in
      (λ i. f i ++ joined (lines_from (input text (t i)) 0 (first_words (w i)) (b i)))
      ∙ listing-of_answer limits text h (ap (λ (r : Answer). r.number) (sym answer-is) ∙ z)

  refused-listed : (k : Position) → RefusedFirst (section_call limits text old last) a (ts ∷ es ∷ []) → joined (answer-lines text ts es a k) ≡ listing limits text
  unfolding lines_from first_words
  refused-listed k x =
      let z : a.number ≡ 0 → ⊥ = λ e. x.not_zero (sym (ap (λ (r : Answer). r.number) x.no_counts) ∙ e) in
      (λ i. first_line a ++ joined (lines_from (input text (take a.tokens ts)) 0 (first_words (take (words_for (x.no_counts i).events) es)) k))
      ∙ append-nil (first_line a) ∙ first-is_refusal a z
      ∙ sym (listing-is limits text a answer-is ∙ rw (ne_eqb a.number 0 z) refl)

  -- What the section call answers and leaves has the listing's lines.
  pub call_listed : (k : Position) → k ≡ begin (input text (take a.tokens ts)) → joined (answer-lines text ts es a k) ≡ listing limits text
  call_listed k e = ⊎_elim (read-listed k e) (refused-listed k) (every-answer_is_settled c)

-- OF THE FIRST BYTES ---------------------------------------------------------------------------------------------------

module _ (limits : Limits) where
  -- a text that is too long has one line, whatever it is
  long-listed : (text : List ℕ) → limits.bytes < length text → listing limits text ≡ refusal_line 1 limits.bytes
  unfolding section_answer
  long-listed text h =
      listing-is limits text (refused 1 limits.bytes) (sym (too_long limits text lent_tokens (section_checks limits text (room lent_events)) (all_answered limits text) h))

  -- So a text's first bytes, more than may be, have the listing of the whole.
  pub first-bytes_listed : (text : List ℕ) (n : ℕ) → limits.bytes < n → listing limits (take n text) ≡ listing limits text
  first-bytes_listed text n h = go (leb (length text) n) refl
    where
      go : (t : Bool) → leb (length text) n ≡ t → listing limits (take n text) ≡ listing limits text
      go true e = ap (listing limits) (take_all n text (leb-true (length text) n e))
      go false e =
          let g = leb-false (length text) n e in
          long-listed (take n text) (omega (arith, h, length-take-le n text (omega arith))) ∙ sym (long-listed text (omega (arith, h, g)))

-- WHERE IT ENDS --------------------------------------------------------------------------------------------------------

-- no line is empty
abbrev Some : List ℕ → Type 0
Some l = 1 ≤ length l

lines-some : (inp : Input) (n : ℕ) (ws : List ℕ) (c : Position) → Each Some (lines_from inp n ws c)
unfolding lines_from
lines-some inp n [] c = tt
lines-some inp n (w ∷ ws) c = (line-some n w c.spot.line c.spot.column, lines-some inp (suc n) ws (step inp w c))

left-some : (text ts es : List ℕ) (l : Listing) → Each Some (left text ts es l)
unfolding left
left-some text ts es l =
    let inp = input (take l.bytes text) (take l.answer.tokens ts) in
    let ws = drop l.event (first_words (take (words_for l.answer.events) es)) in
    go l.begun (lines_from inp l.event ws l.position) (lines-some inp l.event ws l.position)
  where
    go : (t : Bool) (ls : List (List ℕ)) → Each Some ls → Each Some (cond t ls (first_line l.answer ∷ ls))
    go true ls x = x
    go false ls x = (first_line-some l.answer, x)

none-given : (room : ℕ) (ls : List (List ℕ)) → line_room ≤ room → Each Some ls → length (piece room ls) ≡ 0 → ls ≡ []
none-given room [] h x e = refl
none-given room (l ∷ ls) h x e =
    absurd (omega (arith, x.0, e, ap length (piece-more room l ls h), length-append l (piece (room - length l) ls)))

-- So a piece without a byte, with room for a line, is the end: nothing is left.
pub empty-piece_is_the_end : (room : ℕ) (text ts es : List ℕ) (l : Listing) → line_room ≤ room → length (piece room (left text ts es l)) ≡ 0 → left text ts es l ≡ []
empty-piece_is_the_end room text ts es l h e = none-given room (left text ts es l) h (left-some text ts es l) e

-- END TO END -----------------------------------------------------------------------------------------------------------

-- From where `begin` stands, the pieces that `next_piece` gives in turn, with room for a line, are the listing of the text that was read.
pub pieces-are_the_listing : {limits : Limits} {text ts es : List ℕ} {bytes : ℕ} {l : Listing} (room count : ℕ) (t : List ℕ) → ListsWithin limits text bytes ts es l →
    take bytes text ≡ take (length text) t → line_room ≤ room → length (left text ts es l) ≤ count → pieces room count (left text ts es l) ≡ listing limits t
pieces-are_the_listing {limits} {text} {ts} {es} {bytes} {l} room count t x e h g = pieces-are_all room count (left text ts es l) h g ∙ x.lists t e
