-- A text's reading is one node whatever stands in it, so its records are those of a root. Assumes nothing.
use Prim.Native.Nat.{ℕ, suc}
use mathlib.Core.Path.{◌≡◌, refl, ap, ◌∙◌}
use mathlib.Core.List.{List, ◌++◌, map, append-nil}
use lib.ListN.{length}
use Rattle.predictive.specs.Forest.{Forest, nil, err, node, leaves}
use Rattle.predictive.specs.Grammar.{Part, inside, Grammar}
use Rattle.predictive.specs.Reader.{Result, miss, done, after, step, below, read}
use Rattle.predictive.specs.Events.{Event, events_of}
use Rattle.predictive.specs.Events
use Rattle.predictive.specs.Tree.{spell}
use Rattle.predictive.proofs.Proper.{Proper}
use Rattle.predictive.proofs.Readings.{reading-leaves, reading-proper}
use Rattle.predictive.proofs.Spell.{spell-events}
use Rattle.aadl.specs.Limits.{Limits}
use Rattle.aadl.specs.Kinds.{#◌, PROPERTY_SECTION}
use Rattle.aadl.specs.Symbols.{shown, symbols}
use Rattle.aadl.specs.Section.{grammar, section}
use Rattle.aadl.specs.Reading.{reading, events}
use Rattle.aadl.specs.Records.{records, text_records}
use Rattle.aadl.proofs.SectionTest.{tables, grammar-fine, section-good}
use Rattle.aadl.proofs.RecordLaws.{records-tree}

abbrev OneNode : (kind : ℕ) → Result → Type 0
OneNode k r = (i : Forest) × ((ys : List ℕ) × (r ≡ done (node k i nil) ys))

-- What is missing inside a node leaves its fault in it, so that the node is there.
node-after : (k : ℕ) (r : Result) → OneNode k (after r (λ f ys. done (node k f nil) ys))
node-after k (miss m ys) = (err m nil, (ys, refl))
node-after k (done f ys) = (f, (ys, refl))

read-inside : (G : Grammar) (bound d k : ℕ) (p : Part G.Rule) (xs : List ℕ) → OneNode k (read G bound d (inside k p) xs)
unfolding read step
read-inside G bound d k p xs = node-after k (step G bound d (below G bound d) p xs)

-- Every reading is one node, whatever stands.
pub section-root : (limits : Limits) (xs : List ℕ) → (i : Forest) × ((ys : List ℕ) × (reading limits xs ≡ done (node (# PROPERTY_SECTION) i nil) ys))
unfolding reading
section-root limits xs = read-inside grammar (suc (length xs)) limits.openers (# PROPERTY_SECTION) _ xs

-- A reading by what is inside its root, and the kinds that it leaves.
pub record Rooted (limits : Limits) (xs : List ℕ) : Type 0 where
  pub inside : Forest
  pub its-events : events limits xs ≡ Events.events (node (# PROPERTY_SECTION) inside nil) 0
  pub proper : Proper inside
  pub untaken : List ℕ
  pub its-leaves : map shown xs ≡ leaves inside ++ untaken

pub rooted : (limits : Limits) (xs : List ℕ) → Rooted limits xs
unfolding events events_of reading leaves
rooted limits xs =
    let s = section-root limits xs in
    let f = node (# PROPERTY_SECTION) s.0 nil in
    let n = suc (length xs) in
    let shows = reading-leaves grammar tables grammar-fine n limits.openers section section-good xs f s.1.0 s.1.1 in
    record {
      inside = s.0;
      its-events = ap events_of s.1.1;
      proper = (reading-proper grammar tables grammar-fine n limits.openers section section-good xs f s.1.0 s.1.1).0;
      untaken = map shown s.1.0;
      its-leaves = shows ∙ ap (λ (l : List ℕ). l ++ map shown s.1.0) (append-nil (leaves s.0));
    }

-- The records of a text are its root's: spelling the events gives the tree back, which has the records of its forest.
pub rooted-records : (limits : Limits) (text : List ℕ) →
    text_records limits text ≡ records (node (# PROPERTY_SECTION) (rooted limits (symbols text)).inside nil)
unfolding text_records records
rooted-records limits text =
    let r = rooted limits (symbols text) in
    let f = node (# PROPERTY_SECTION) r.inside nil in
    ap (λ (es : List Event). records (spell es)) r.its-events ∙ ap records (spell-events f (r.proper, tt)) ∙ records-tree f 0 0 0
