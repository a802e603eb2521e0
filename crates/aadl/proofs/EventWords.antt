-- An event's first word tells the event: kinds are below 256 and forward parents and messages below 65,536, so the three numbers in the word
-- do not run into each other. That the grammar's own kinds and messages are is computed; forward parents are below the number of
-- events. Assumes nothing.
use Prim.Native.Nat.{ℕ, suc, ◌+◌, ◌*◌, ◌/◌, ◌%◌, ◌≤◌, ◌<◌}
use native.Mathlib.Omega.{arith}
use mathlib.Core.Path.{◌≡◌, refl, sym, ap, ap₂, subst, ◌∙◌}
use mathlib.Core.Bool.{Bool, true, false, cond}
use mathlib.Core.List.{List, [], ◌∷◌, ◌++◌, map}
use lib.ListN.{length, length-append}
use lib.Seq.{take_at}
use lib.Dec.{ltb}
use borrow.Author.Tests.{lt-ltb, ltb-true}
use Rattle.predictive.specs.Forest.{Forest, nil, leaf, err, node, wrap, Fault, message, refusal}
use Rattle.predictive.specs.Reader.{Result, miss, done}
use Rattle.predictive.specs.Events.{Event, start, token, finish, error, behind_start, events_of, erring, stops}
use Rattle.predictive.specs.Events as E
use Rattle.predictive.proofs.Tests.{never, ◌and◌}
use Rattle.predictive.proofs.Bounds.{Small, form_fits, forms-fit, part-fits, Shown, FitsReading, reading-fits}
use Rattle.aadl.specs.declared.Token.{Token}
use Rattle.aadl.specs.Limits.{Limits, most_events}
use Rattle.aadl.specs.Tokens.{tokens}
use Rattle.aadl.specs.Symbols.{is_trivia, shown, symbols, raw_number, without_trivia, kinds}
use Rattle.aadl.specs.Section.{Rule, rules, Expression, Negated, Operand, Classifier, keywords, names, grammar, section}
use Rattle.aadl.specs.Encoding.{event_word, event_by, event_in, words_for, told_by, events_in}
use Rattle.aadl.specs.Reading.{reading, events, too_deep}
use Rattle.aadl.specs.Answers.{event_words}
use Rattle.aadl.proofs.Lists.{Each, each_append}
use Rattle.aadl.proofs.TokensCover.{kinds-small}
use Rattle.aadl.proofs.SymbolLaws.{symbols-show_kinds}
use Rattle.aadl.proofs.EventPairs.{length_words_of, first_words-of}

abbrev kind_fits : ℕ → Bool
kind_fits k = ltb k 256

abbrev fault_fits : Fault → Bool
fault_fits (message m) = ltb m 65536
fault_fits (refusal n) = true

-- ONE WORD -------------------------------------------------------------------------------------------------------------

-- What an event's numbers are to be for its word to tell it; no word tells a refusal.
abbrev pub Fits : Event → Type 0
Fits (start k up) = (k < 256) × (up < 65536)
Fits (token k) = k < 256
Fits finish = Unit {0}
Fits (error (message m)) = m < 65536
Fits (error (refusal n)) = ⊥

by_word : (w c k l : ℕ) → w / 16777216 ≡ c → w / 65536 % 256 ≡ k → w % 65536 ≡ l → event_in w ≡ event_by c k l
unfolding event_in
by_word w c k l p q r = λ i. event_by (p i) (q i) (r i)

pub event-back : (e : Event) → Fits e → event_in (event_word e) ≡ e
event-back (start k up) h =
    let f = h.0 in
    let g = h.1 in
    by_word (0 * 16777216 + k * 65536 + up) 0 k up (omega (arith, f, g)) (omega (arith, f, g)) (omega (arith, f, g))
event-back (token k) h = by_word (1 * 16777216 + k * 65536 + 1) 1 k 1 (omega (arith, h)) (omega (arith, h)) (omega (arith, h))
event-back finish h = by_word (2 * 16777216 + 0 * 65536 + 0) 2 0 0 (omega arith) (omega arith) (omega arith)
event-back (error (message m)) h = by_word (3 * 16777216 + 0 * 65536 + m) 3 0 m (omega (arith, h)) (omega (arith, h)) (omega (arith, h))
event-back (error (refusal n)) h = absurd h

events-back : (es : List Event) → Each Fits es → map event_in (map event_word es) ≡ es
events-back [] h = refl
events-back (e ∷ es) h = ap₂ (λ (d : Event) (ds : List Event). d ∷ ds) (event-back e h.0) (events-back es h.1)

-- THE EVENTS OF A FOREST -----------------------------------------------------------------------------------------------

behind-within : (f : Forest) (up : ℕ) → behind_start f ≤ length (E.events f up)
unfolding E.events
behind-within nil up = omega arith
behind-within (leaf k f) up = omega arith
behind-within (err m f) up = omega arith
behind-within (node k i f) up = omega (arith, length-append (start k up ∷ E.events i 0) (finish ∷ E.events f 0))
behind-within (wrap k a b f) up =
    omega (arith, length-append (E.events a (behind_start a) ++ (start k up ∷ E.events b 0)) (finish ∷ E.events f 0), length-append (E.events a (behind_start a)) (start k up ∷ E.events b 0))

-- the same but for a refusal
abbrev Whole : Event → Type 0
Whole (start k up) = (k < 256) × (up < 65536)
Whole (token k) = k < 256
Whole finish = Unit {0}
Whole (error (message m)) = m < 65536
Whole (error (refusal n)) = Unit {0}

small-events : (f : Forest) (up : ℕ) → Small kind_fits fault_fits f → up < 65536 → length (E.events f up) < 65536 → Each Whole (E.events f up)
unfolding E.events
small-events nil up s u l = tt
small-events (leaf k f) up s u l = (ltb-true k 256 s.0, small-events f 0 s.1 (omega arith) (omega (arith, l)))
small-events (err (message m) f) up s u l = (ltb-true m 65536 s.0, small-events f 0 s.1 (omega arith) (omega (arith, l)))
small-events (err (refusal n) f) up s u l = (tt, small-events f 0 s.1 (omega arith) (omega (arith, l)))
small-events (node k i f) up s u l =
    let n = length-append (start k up ∷ E.events i 0) (finish ∷ E.events f 0) in
    each_append Whole (start k up ∷ E.events i 0) (finish ∷ E.events f 0)
    ((ltb-true k 256 s.0, u), small-events i 0 s.1 (omega arith) (omega (arith, l, n)))
    (tt, small-events f 0 s.2 (omega arith) (omega (arith, l, n)))
small-events (wrap k a b f) up s u l =
    let n = length-append (E.events a (behind_start a) ++ (start k up ∷ E.events b 0)) (finish ∷ E.events f 0) in
    let m = length-append (E.events a (behind_start a)) (start k up ∷ E.events b 0) in
    let v = behind-within a (behind_start a) in
    each_append Whole (E.events a (behind_start a) ++ (start k up ∷ E.events b 0)) (finish ∷ E.events f 0)
    (each_append Whole (E.events a (behind_start a)) (start k up ∷ E.events b 0)
    (small-events a (behind_start a) s.1 (omega (arith, l, n, m, v)) (omega (arith, l, n, m)))
    ((ltb-true k 256 s.0, u), small-events b 0 s.2 (omega arith) (omega (arith, l, n, m))))
    (tt, small-events f 0 s.3 (omega arith) (omega (arith, l, n)))

-- THE EVENTS OF A SECTION ----------------------------------------------------------------------------------------------

-- Where no opener too many stands, each event's word tells it.
told : (es : List Event) → Each Whole es → erring stops es ≡ false → Each Fits es
unfolding erring
told [] h e = tt
told (start k up ∷ es) h e = (h.0, told es h.1 e)
told (token k ∷ es) h e = (h.0, told es h.1 e)
told (finish ∷ es) h e = (h.0, told es h.1 e)
told (error (message m) ∷ es) h e = (h.0, told es h.1 e)
told (error (refusal n) ∷ es) h e = never (sym e)

-- the grammar's own kinds and messages
rules-fit : (r : Rule) → part-fits kind_fits fault_fits (rules r) ≡ true
unfolding part-fits form_fits forms-fit ◌and◌ names keywords
rules-fit = elim [ Expression ↦ refl | Negated ↦ refl | Operand ↦ refl | Classifier ↦ refl ]

section-fits : part-fits kind_fits fault_fits section ≡ true
unfolding part-fits form_fits forms-fit ◌and◌ names keywords
section-fits = refl

-- the kinds of a text's tokens
untrivial : (ts : List Token) → Each (λ (t : Token). t.kind < 128) ts → Each (λ (k : ℕ). k < 128) (without_trivia ts)
untrivial [] h = tt
untrivial (t ∷ ts) h = go (is_trivia t.kind) (untrivial ts h.1)
  where
    go : (b : Bool) → Each (λ (k : ℕ). k < 128) (without_trivia ts) → Each (λ (k : ℕ). k < 128) (cond b (without_trivia ts) (t.kind ∷ without_trivia ts))
    go true i = i
    go false i = (h.0, i)

show_small : (xs : List ℕ) → Each (λ (k : ℕ). k < 128) (map shown xs) → Shown kind_fits fault_fits grammar xs
show_small [] h = tt
show_small (x ∷ xs) h = let f = h.0 in (lt-ltb (shown x) 256 (omega (arith, f)), show_small xs h.1)

symbols-small : (text : List ℕ) → Shown kind_fits fault_fits grammar (symbols text)
unfolding kinds
symbols-small text = show_small (symbols text) (subst (Each (λ (k : ℕ). k < 128)) (sym (symbols-show_kinds text)) (untrivial (tokens text) (kinds-small text)))

result_events : (r : Result) → FitsReading kind_fits fault_fits grammar r → length (events_of r) < 65536 → Each Whole (events_of r)
unfolding events_of
result_events (miss (message m) ys) h l = (ltb-true m 65536 h.forest.0, tt)
result_events (miss (refusal n) ys) h l = (tt, tt)
result_events (done f ys) h l = small-events f 0 h.forest (omega arith) l

-- The event words of a section that no opener too many stands in tell its events ..
pub words-tell_events : (limits : Limits) (text : List ℕ) → too_deep limits (symbols text) ≡ false → length (events limits (symbols text)) ≤ most_events →
    told_by (event_words limits text) ≡ events limits (symbols text)
unfolding events too_deep reading
words-tell_events limits text n l =
    let xs = symbols text in
    let r = reading limits xs in
    ap (map event_in) (first_words-of (raw_number text) 0 (events_of r))
    ∙ events-back (events_of r)
    (told (events_of r)
    (result_events r (reading-fits kind_fits fault_fits grammar (suc (length xs)) refl rules-fit limits.openers section section-fits xs (symbols-small text)) (omega (arith, l))) n)

-- .. also where others follow.
pub first_words-tell : (limits : Limits) (text rest : List ℕ) → too_deep limits (symbols text) ≡ false → length (events limits (symbols text)) ≤ most_events →
    events_in (length (events limits (symbols text))) (event_words limits text ++ rest) ≡ events limits (symbols text)
first_words-tell limits text rest n l =
    let es = events limits (symbols text) in
    let ws = event_words limits text in
    ap told_by (take_at ws rest (words_for (length es)) (length_words_of (raw_number text) 0 es))
    ∙ words-tell_events limits text n l
