-- From event to event a position stands behind the tokens that the events before took, at the spot of the next one; so the lines of the event
-- words of an answer are the listing's. By induction over the events. Assumes nothing.
use Prim.Native.Nat.{ℕ, zero, suc, ◌+◌, ◌≤◌, ◌<◌}
use native.Mathlib.Omega.{arith}
use native.Mathlib.Numerals.{add-one}
use native.Mathlib.Nat.{add-zero}
use mathlib.Core.Path.{◌≡◌, refl, sym, ap, ap₂, subst, ◌∙◌}
use mathlib.Core.Bool.{Bool, true, false, cond}
use mathlib.Core.List.{List, [], ◌∷◌, ◌++◌, map}
use lib.ListN.{length, get_or, drop}
use lib.Dec.{eqb}
use borrow.Author.Tests.{eq-eqb, ne_eqb}
use Rattle.predictive.specs.Events.{Event, start, token, finish, error, taken}
use Rattle.aadl.specs.declared.Limits.{Limits}
use Rattle.aadl.specs.Limits.{Allowed}
use Rattle.aadl.specs.Symbols.{is_trivia, symbols, start_of, raw_number}
use Rattle.aadl.specs.Encoding.{event_word, event_by, event_in, class_in, last_in, first_words}
use Rattle.aadl.specs.Reading.{events}
use Rattle.aadl.specs.Answers.{token_words, event_words}
use Rattle.aadl.specs.Listing.{event_lines, lent_tokens, lent_events, listing_answer, listing}
use Rattle.aadl.proofs.Characters.{WellFormed}
use Rattle.aadl.proofs.EventPairs.{first_words-of}
use Rattle.aadl.proofs.EventWords.{words-tell_events}
use Rattle.aadl.proofs.AnswerDerived.{answered-whole}
use Rattle.parser.specs.declared.Counters.{Counters}
use Rattle.parser.specs.Counters.{Place}
use Rattle.aadl.specs.Tokens.{kind_in}
use Rattle.parser.specs.Input.{Input, input, past, skip, after_one, new}
use Rattle.section.specs.Standing.{Behind}
use Rattle.section.proofs.Places.{behind-byte, new-behind, next-behind}
use Rattle.positions.specs.declared.Spot.{Spot}
use Rattle.listing.specs.declared.Position.{Position}
use Rattle.listing_lines.specs.Lines.{header}
use Rattle.positions.specs.Spots.{first, spot_after}
use Rattle.listing.specs.Positions.{position_at, begin, is_token, behind_token, step, lines_from}
use Rattle.listing.specs.Pieces.{joined}
use Rattle.positions.proofs.SpotLaws.{spot-in_steps}
use Rattle.listing_lines.proofs.LineLaws.{event_line-at, listing-is}

abbrev with_token : Input → Position → Position
with_token inp c = position_at inp (behind_token inp c) c.spot

-- AS THE CODE HAS IT ---------------------------------------------------------------------------------------------------

-- a place, and the spot of its byte, from another spot on
placed : (inp : Input) (p : Place) (f : Spot) {at byte : ℕ} {s : Spot} → at ≡ p.at → byte ≡ p.byte → s ≡ spot_after inp.text f byte →
    record { at = at; byte = byte; spot = s } ≡ position_at inp p f
placed inp p f e b g = λ i. record { at = e i; byte = b i; spot = (g ∙ ap (spot_after inp.text f) b) i }

pub begin-is : (inp : Input) {at byte : ℕ} {f s : Spot} → at ≡ (skip inp.text 0 0 inp.words).at → byte ≡ (skip inp.text 0 0 inp.words).byte → f ≡ first →
    s ≡ spot_after inp.text f byte → record { at = at; byte = byte; spot = s } ≡ begin inp
unfolding begin
begin-is inp {byte = byte} e b f g = placed inp _ first e b (g ∙ ap (λ (x : Spot). spot_after inp.text x byte) f)

pub step-token : (inp : Input) (w : ℕ) (c : Position) {at byte : ℕ} {s : Spot} → class_in w ≡ 1 → at ≡ (behind_token inp c).at → byte ≡ (behind_token inp c).byte →
    s ≡ spot_after inp.text c.spot byte → record { at = at; byte = byte; spot = s } ≡ step inp w c
unfolding step
step-token inp w c h e b g = placed inp _ c.spot e b g ∙ sym (ap (λ (t : Bool). cond t (with_token inp c) c) (eq-eqb (class_in w) 1 h))

pub step_other : (inp : Input) (w : ℕ) (c : Position) → (class_in w ≡ 1 → ⊥) → c ≡ step inp w c
unfolding step
step_other inp w c h = sym (ap (λ (t : Bool). cond t (with_token inp c) c) (ne_eqb (class_in w) 1 h))

-- WHICH WORDS TAKE A TOKEN ---------------------------------------------------------------------------------------------

takes : Event → Bool
takes (start k up) = false
takes (token k) = true
takes finish = false
takes (error m) = false

takes-by_class : (w : ℕ) → takes (event_in w) ≡ is_token w
unfolding event_in takes
takes-by_class w = go (class_in w)
  where
    go : (c : ℕ) → takes (event_by c (kind_in w) (last_in w)) ≡ eqb c 1
    go zero = refl
    go (suc zero) = refl
    go (suc (suc zero)) = refl
    go (suc (suc (suc c))) = sym (ne_eqb (suc (suc (suc c))) 1 (λ e. omega (arith, e)))

-- LATER STARTS ---------------------------------------------------------------------------------------------------------

skip-later : (text : List ℕ) (i b : ℕ) (ws : List ℕ) → b ≤ length text → b ≤ (skip text i b ws).byte
unfolding skip
skip-later text i b [] h = omega arith
skip-later text i b (w ∷ ws) h = go (is_trivia (kind_in w)) (skip-later text (suc i) (past text b w) ws (omega arith))
  where
    go : (t : Bool) → past text b w ≤ (skip text (suc i) (past text b w) ws).byte →
        b ≤ (cond t (skip text (suc i) (past text b w) ws) (record { at = i; byte = b })).byte
    go true k = omega (arith, k, h)
    go false k = omega arith

after-one_later : (text : List ℕ) (i b : ℕ) (ws : List ℕ) → b ≤ length text → b ≤ (after_one text i b ws).byte
unfolding after_one
after-one_later text i b [] h = omega arith
after-one_later text i b (w ∷ ws) h = omega (arith, h, skip-later text (suc i) (past text b w) ws (omega arith))

-- FROM EVENT TO EVENT --------------------------------------------------------------------------------------------------

-- The position stands behind t tokens that are taken.
abbrev counted : Position → Counters
counted c = record { at = c.at; byte = c.byte; taken = 0; used = 0; left = 0; stop = 0 }

pub record Stands (text : List ℕ) (t : ℕ) (c : Position) : Type 0 where
  pub behind : Behind text t (counted c)
  pub spot : c.spot ≡ spot_after text first (start_of text t)

module _ (text : List ℕ) (short : length text < 65536) where
  abbrev inp : Input
  inp = input text (token_words text)

  begin-stands : Stands text 0 (begin inp)
  unfolding begin new
  begin-stands =
      let b = new-behind text 0 short in
      record { behind = b; spot = ap (spot_after text first) (behind-byte text 0 (new inp 0) b) }

  token-stands : (t : ℕ) (c : Position) → Stands text t c → Stands text (suc t) (with_token inp c)
  token-stands t c x =
      let p = counted c in
      let q = counted (with_token inp c) in
      let b = next-behind text t p q x.behind refl refl in
      let l : p.byte ≤ q.byte = omega (arith, after-one_later text p.at p.byte (drop p.at (token_words text)) (omega (arith, x.behind.where_it_is.tiles))) in
      let s = behind-byte text (suc t) q b in
      let m : start_of text t ≤ start_of text (suc t) = omega (arith, l, s, behind-byte text t p x.behind) in
      record { behind = b; spot = ap₂ (spot_after text) x.spot s ∙ spot-in_steps text first (start_of text t) (start_of text (suc t)) m }

  step-stands : (e : Event) (t : ℕ) (c : Position) → event_in (event_word e) ≡ e → Stands text t c →
      Stands text (t + taken (e ∷ [])) (step inp (event_word e) c)
  unfolding step takes taken
  step-stands e t c q x = go e (sym (takes-by_class (event_word e)) ∙ ap takes q)
    where
      go : (f : Event) → is_token (event_word e) ≡ takes f → Stands text (t + taken (f ∷ [])) (cond (is_token (event_word e)) (with_token inp c) c)
      go (start k up) r = rw r (subst (λ (u : ℕ). Stands text u c) (sym (add-zero t)) x)
      go (token k) r = rw r (subst (λ (u : ℕ). Stands text u (with_token inp c)) (sym (add-one t)) (token-stands t c x))
      go finish r = rw r (subst (λ (u : ℕ). Stands text u c) (sym (add-zero t)) x)
      go (error m) r = rw r (subst (λ (u : ℕ). Stands text u c) (sym (add-zero t)) x)

  -- Words that tell their events have the events' lines, in a text that is well-formed.
  lines_are : WellFormed text → (es : List Event) (n t : ℕ) (c : Position) → Stands text t c → map event_in (map event_word es) ≡ es →
      joined (lines_from inp n (map event_word es) c) ≡ event_lines text n t es
  unfolding lines_from event_lines
  lines_are f [] n t c x q = refl
  lines_are f (e ∷ es) n t c x q =
      let w = event_word e in
      let r : event_in w ≡ e = ap (λ (l : List Event). get_or l 0 e) q in
      ap₂ ◌++◌
      (event_line-at text n t e c.spot r (omega (arith, short)) f x.spot)
      (lines_are f es (suc n) (t + taken (e ∷ [])) (step inp w c) (step-stands e t c r x) (ap (drop 1) q))

-- The header and the lines of an answer's event words, from the first position on, are the listing.
pub listing-of_answer : (limits : Limits) (text : List ℕ) → Allowed limits → (listing_answer limits text).number ≡ 0 →
    header ++ joined (lines_from (input text (token_words text)) 0 (first_words (event_words limits text)) (begin (input text (token_words text)))) ≡ listing limits text
listing-of_answer limits text h z =
    let x = answered-whole limits text lent_tokens lent_events z in
    let es = events limits (symbols text) in
    let short : length text < 65536 = omega (arith, x.short, h) in
    let own : first_words (event_words limits text) ≡ map event_word es = first_words-of (raw_number text) 0 es in
    let tells = sym (ap (map event_in) own) ∙ words-tell_events limits text x.deep (omega (arith, x.few)) in
    let l = lines_are text short x.formed es 0 0 (begin (input text (token_words text))) (begin-stands text short) tells in
    ap (λ (ws : List ℕ). header ++ joined (lines_from (input text (token_words text)) 0 ws (begin (input text (token_words text))))) own
    ∙ ap (λ (ls : List ℕ). header ++ ls) l
    ∙ sym (listing-is limits text (listing_answer limits text) refl ∙ rw (eq-eqb _ 0 z) refl)
