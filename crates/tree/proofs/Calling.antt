-- The tree call, way by way: the section call refused; a node has no record; every node has one. Each keeps the
-- call's promise (aadl's Extending). The words of a text's events are walked as its events are, which are one root's, so that the walk's records are
-- the text's. Assumes nothing.
use Prim.Native.Nat.{ℕ, ◌≤◌, ◌<◌}
use native.Mathlib.Omega.{arith}
use mathlib.Core.Path.{◌≡◌, refl, sym, ap, ◌∙◌}
use mathlib.Core.List.{List, [], ◌∷◌, map}
use lib.ListN.{length, get_or, take, replicate}
use borrow.Author.Tests.{lt-ltb, le-ltb}
use Rattle.std.specs.Prelude.{Ok, Err}
use Rattle.predictive.specs.Events.{Event, start}
use Rattle.predictive.specs.Events as E
use Rattle.aadl.specs.declared.Answer.{Answer}
use Rattle.aadl.specs.declared.TreeAnswer.{TreeAnswer}
use Rattle.aadl.specs.declared.Limits.{Limits}
use Rattle.aadl.specs.Limits.{most_events}
use Rattle.aadl.specs.Kinds.{#◌, PROPERTY_SECTION}
use Rattle.aadl.specs.Tokens.{kind_in}
use Rattle.aadl.specs.Symbols.{symbols, raw_number, start_of}
use Rattle.aadl.specs.Encoding.{event_word, event_in, words_for, first_words}
use Rattle.aadl.specs.Reading.{events}
use Rattle.aadl.specs.Answers.{event_words}
use Rattle.aadl.specs.Calls.{tokens_call, section_call}
use Rattle.aadl.specs.Records.{Record, record_room, text_records, with_records, tree_refused, recording, tree_call}
use Rattle.aadl.specs.Promises.{SectionCalled, TreeCalled}
use Rattle.aadl.proofs.EventPairs.{length_first_words, first_words-of}
use Rattle.aadl.proofs.Root.{rooted, rooted-records}
use Rattle.aadl.proofs.Extending.{did-same, on-refused, own-refuses, none-refuses}
use Rattle.aadl.proofs.CallsRead.{section-sound}
use Rattle.aadl.proofs.TreeCalls.{tree-promised}
use Rattle.section.proofs.Unrefused.{all-passed, event_words-counted, event_words-long, events-told}
use Rattle.tree.specs.Walk.{walk, root}
use Rattle.tree.specs.Builders.{laid, walked, Built}
use Rattle.tree.proofs.Walking.{walk-records}

-- A TEXT'S EVENTS ------------------------------------------------------------------------------------------------------

-- The first event is the root's Start.
root-first : (limits : Limits) (xs : List ℕ) → (es : List Event) × (events limits xs ≡ start (# PROPERTY_SECTION) 0 ∷ es)
unfolding E.events
root-first limits xs = (_, (rooted limits xs).its-events)

-- So there is one, and the first word tells the root's kind.
some-event : (limits : Limits) (xs : List ℕ) → 1 ≤ length (events limits xs)
some-event limits xs = let r = root-first limits xs in omega (arith, ap length r.1)

root-kind : (limits : Limits) (text : List ℕ) → kind_in (get_or (first_words (event_words limits text)) 0 0) ≡ # PROPERTY_SECTION
root-kind limits text =
    ap (λ (ws : List ℕ). kind_in (get_or ws 0 0)) (first_words-of (raw_number text) 0 (events limits (symbols text)))
    ∙ ap (λ (es : List Event). kind_in (get_or (map event_word es) 0 0)) (root-first limits (symbols text)).1

-- The walk over first words that tell a text's events fills the text's records.
walk_of-text : (limits : Limits) (text ws : List ℕ) → map event_in ws ≡ events limits (symbols text) → kind_in (get_or ws 0 0) ≡ # PROPERTY_SECTION →
    (walked ws).rows ≡ text_records limits text
walk_of-text limits text ws told kind =
    let r = rooted limits (symbols text) in
    (λ i. (walk 0 ((told ∙ r.its-events) i) (root (kind i))).rows)
    ∙ walk-records (# PROPERTY_SECTION) r.inside r.proper
    ∙ sym (rooted-records limits text)

-- WAY BY WAY -----------------------------------------------------------------------------------------------------------

zeros : {m n : ℕ} → m ≡ n → ◌≡◌ {A = List ℕ} (replicate m 0) (replicate n 0)
zeros e = ap (λ (k : ℕ). replicate {A = ℕ} k 0) e

-- a is what the section call answered, ts and es the token and event words that it left
module _ {limits : Limits} {text old last : List ℕ} {a : Answer} {ts es : List ℕ} (c : SectionCalled limits text old last a ts es) where
  -- What it refuses the tree call refuses likewise.
  pub called-refused : (r : TreeAnswer) (rows rs : List ℕ) → (a.number ≡ 0 → ⊥) → r ≡ with_records a 0 → rs ≡ replicate (length rows) 0 →
      TreeCalled limits text old last rows r ts es rs
  unfolding tree_call
  called-refused r rows rs f g w =
      tree-promised limits text old last rows
      (did-same (on-refused (section-sound limits text old last) (recording limits text rows) c.did f) g (λ i. ts ∷ es ∷ w i ∷ []))

  module _ (z : a.number ≡ 0) where
    -- the first words of the events that it counts
    abbrev counted : List ℕ
    counted = first_words (take (words_for a.events) es)

    -- There are some events, and not too many.
    pub events-stand : (1 ≤ length counted) × (length counted ≤ most_events)
    events-stand =
        let long : length counted ≡ length (events limits (symbols text)) = omega (arith, length_first_words (take (words_for a.events) es), event_words-long c z) in
        (omega (arith, long, some-event limits (symbols text)), omega (arith, long, (all-passed c z).few))

    abbrev all : List Record
    all = text_records limits text

    built_rows : (walked counted).rows ≡ all
    built_rows =
        walk_of-text limits text counted (events-told c z)
        (ap (λ (ws : List ℕ). kind_in (get_or (first_words ws) 0 0)) (event_words-counted c z) ∙ root-kind limits text)

    -- what was built of them, rs being the record words, where the words rows were lent
    module _ {rows rs : List ℕ} where
      pub called-full : {t : ℕ} (x : Built counted rows (Err t) rs) (r : TreeAnswer) (place : ℕ) (us fs qs : List ℕ) → place ≡ start_of text t → r ≡ tree_refused 7 place →
          length ts ≡ length old → length es ≡ length last →
          us ≡ replicate (length ts) 0 → fs ≡ replicate (length es) 0 → qs ≡ replicate (length rs) 0 → TreeCalled limits text old last rows r us fs qs
      unfolding tree_call section_call tokens_call
      called-full x r place us fs qs p g lt le wt we wr =
          let behind : record_room (length rows) < length all = omega (arith, x.built.lacks, ap length built_rows) in
          let first = x.built.names ∙ ap (λ (l : List Record). get_or (map (λ (q : Record). q.first) l) (record_room (length rows)) 0) built_rows in
          tree-promised limits text old last rows
          (did-same
          (own-refuses (section-sound limits text old last) (recording limits text rows) c.did z
          (tree_refused 7 (start_of text (get_or (map (λ (q : Record). q.first) all) (record_room (length rows)) 0)))
          (rw (lt-ltb (record_room (length rows)) (length all) behind) refl) (λ h. omega (arith, h)))
          (g ∙ ap (tree_refused 7) (p ∙ ap (start_of text) first)) (λ i. (wt ∙ zeros lt) i ∷ (we ∙ zeros le) i ∷ (wr ∙ zeros x.long) i ∷ []))

      pub called-built : {n : ℕ} → Built counted rows (Ok n) rs → TreeCalled limits text old last rows (with_records a n) ts es rs
      unfolding tree_call
      called-built x =
          let few : length all ≤ record_room (length rows) = omega (arith, x.built.fits, x.built.counts, ap length built_rows) in
          tree-promised limits text old last rows
          (did-same
          (none-refuses (section-sound limits text old last) (recording limits text rows) c.did z (with_records a (length all))
          (rw (le-ltb (record_room (length rows)) (length all) few) refl) z)
          (ap (with_records a) (x.built.counts ∙ ap length built_rows)) (λ i. ts ∷ es ∷ (x.built.lays ∙ ap (λ (l : List Record). laid l rows) built_rows) i ∷ []))
