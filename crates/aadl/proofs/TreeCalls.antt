-- The tree call goes on from the section call, so that what follows of any such call (CallsRead) follows of it. Its own: its records are the derivation's
-- nodes. Assumes nothing.
use Prim.Native.Nat.{ℕ, ◌≤◌}
use native.Mathlib.Omega.{arith}
use mathlib.Core.Path.{◌≡◌, refl, sym, ap, ◌∙◌}
use mathlib.Core.List.{List, [], ◌∷◌}
use lib.ListN.{length, drop, length-replicate}
use borrow.Author.Tests.{le-ltb}
use Rattle.predictive.specs.Forest.{nil, node}
use Rattle.predictive.specs.Events.{Event}
use Rattle.predictive.specs.Tree.{spell}
use Rattle.aadl.specs.declared.Answer.{Answer}
use Rattle.aadl.specs.declared.TreeAnswer.{TreeAnswer}
use Rattle.aadl.specs.Limits.{Limits}
use Rattle.aadl.specs.Kinds.{#◌, PROPERTY_SECTION}
use Rattle.aadl.specs.Symbols.{symbols}
use Rattle.aadl.specs.Answers.{left_in, token_words, event_words}
use Rattle.aadl.specs.Calls.{answer_of, Did, section_call, tokens_call, Settled}
use Rattle.aadl.specs.Records.{record_room, records, text_records, record_words, with_records, tree_answer, recording, tree_call, answered_records}
use Rattle.aadl.specs.Promises.{SectionCalled, TreeCalled}
use Rattle.aadl.proofs.Demand3.{demand_3}
use Rattle.aadl.proofs.Settled.{Sound, settled, whole}
use Rattle.aadl.proofs.Extending.{by-own}
use Rattle.aadl.proofs.CallsRead.{exit-at, section-sound, section's, all-passed, events-told}
use Rattle.aadl.proofs.RecordLaws.{records-back, two-events_a_record}
use Rattle.aadl.proofs.Root.{rooted, rooted-records}

pub tree-sound : (limits : Limits) (text old last rows : List ℕ) → Sound (tree_call limits text old last rows)
unfolding tree_call section_call tokens_call
tree-sound limits text old last rows = (refl, refl)

-- With 65,536 words no text is refused 7: a node has two events, and there are at most 32,768.
pub never-refused_7 : (limits : Limits) (text old last rows : List ℕ) (a : Answer) (ts es : List ℕ) → SectionCalled limits text old last a ts es → a.number ≡ 0 →
    65536 ≤ length rows → answer_of (tree_call limits text old last rows) ≡ with_records a (length (text_records limits text))
unfolding tree_call records
never-refused_7 limits text old last rows a ts es c z h =
    let root = rooted limits (symbols text) in
    let twice = two-events_a_record (node (# PROPERTY_SECTION) root.inside nil) 0 0 0 0 in
    let few : length (text_records limits text) ≤ record_room (length rows) =
    omega (arith, h, twice, ap length (rooted-records limits text), ap length root.its-events, (all-passed c z).few) in
    by-own (section-sound limits text old last) (recording limits text rows) c.did z ∙ rw (le-ltb (record_room (length rows)) (length (text_records limits text)) few) refl

module _ (limits : Limits) (text old last rows : List ℕ) {a : TreeAnswer} {ts es rs : List ℕ} (d : Did (tree_call limits text old last rows) a (ts ∷ es ∷ rs ∷ [])) where
  section-by : a.answer.number ≡ 0 → SectionCalled limits text old last a.answer ts es
  unfolding tree_call
  section-by = section's (recording limits text rows) (λ x. refl) limits text old last (tree-sound limits text old last rows) d

  -- The records that it counts are the text's ..
  records-by : a.answer.number ≡ 0 → answered_records a rs ≡ text_records limits text
  unfolding tree_call section_call tokens_call
  records-by z =
      let w = whole (tree-sound limits text old last rows) d z in
      (λ i. answered_records (w.counts i) (exit-at 2 w.fills i)) ∙ records-back (text_records limits text) (drop (length (record_words limits text)) rows)

  -- .. which are the nodes of the derivation, where there is one, and of the tree that the events spell. So the call keeps its promise.
  pub tree-promised : TreeCalled limits text old last rows a ts es rs
  unfolding text_records
  tree-promised =
      record {
        did = d;
        derived = λ z. (section-by z).derived z;
        recorded = λ z.
            record {
              derived = λ t u. records-by z ∙ ap records ((demand_3 limits text (all-passed (section-by z) z).deep).spelled t u);
              spelled = records-by z ∙ ap (λ (l : List Event). records (spell l)) (sym (events-told (section-by z) z));
            };
      }

module _ {limits : Limits} {text old last rows : List ℕ} {a : TreeAnswer} {ts es rs : List ℕ} (c : TreeCalled limits text old last rows a ts es rs) where
  pub tree-answered : a ≡ tree_answer limits text (length old) (length last) (length rows)
  unfolding tree_call section_call tokens_call tree_answer
  tree-answered = rw (length-replicate {A = ℕ} (length old) 0, length-replicate {A = ℕ} (length last) 0, length-replicate {A = ℕ} (length rows) 0) c.did.answer

  -- every word at exit
  pub tree-left : (ts ≡ left_in a.answer (token_words text) old) × ((es ≡ left_in a.answer (event_words limits text) last) × (rs ≡ left_in a.answer (record_words limits text) rows))
  unfolding tree_call section_call tokens_call left_in
  tree-left = (exit-at 0 c.did.exit, (exit-at 1 c.did.exit, exit-at 2 c.did.exit))

  pub tree-settled : Settled (tree_call limits text old last rows) a (ts ∷ es ∷ rs ∷ [])
  tree-settled = settled (tree-sound limits text old last rows) c.did

  module _ (z : a.answer.number ≡ 0) where
    pub tree-section's : SectionCalled limits text old last a.answer ts es
    tree-section's = section-by limits text old last rows c.did z

    pub records-told : answered_records a rs ≡ text_records limits text
    records-told = records-by limits text old last rows c.did z
