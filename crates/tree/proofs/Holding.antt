-- A builder that holds a walk: what the words of the innermost open node tell; and that it holds the walk after an event, way by way,
-- or stops where a node has no record. Assumes nothing.
use Prim.Native.Nat.{ℕ, suc, ◌+◌, ◌*◌, ◌-◌, ◌≤◌, ◌<◌}
use native.Mathlib.Omega.{arith}
use mathlib.Core.Path.{◌≡◌, sym, ap, ap₂, subst, ◌∙◌}
use mathlib.Core.Bool.{Bool, cond}
use mathlib.Core.List.{List}
use lib.ListN.{length, get_or, drop, set, length-append, length-set}
use lib.Seq.{sets}
use borrow.Author.Tests.{eq-eqb, ne_eqb}
use Rattle.predictive.specs.Events.{Event}
use Rattle.aadl.specs.Limits.{most_events}
use Rattle.aadl.specs.Records.{words_of_records, record_room}
use Rattle.tree.specs.declared.Builder.{Builder}
use Rattle.tree.specs.Walk.{Link, links, opened, Walk, innermost_row, with_links, begun, counted, closed}
use Rattle.tree.specs.Builders.{laid, Holds, Full}
use Rattle.tree.proofs.Chains.{length_opened, links-length, links-drop}
use Rattle.tree.proofs.Laid.{with_below, length_laid, laid-parent, laid-first, laid-below, laid-changed, laid_more}
use Rattle.tree.proofs.Sounding.{sound-later, sound-counted, sound-closed, sound-links, innermost-first}

abbrev pub builder : (records innermost taken : ℕ) → Builder
builder n p t = record { records = n; innermost = p; taken = t }

module _ {old : List ℕ} {i : ℕ} {w : Walk} {b : Builder} {words : List ℕ} (x : Holds old i w b words) where
  -- THE INNERMOST OPEN NODE'S WORDS ------------------------------------------------------------------------------------

  pub holds-long : length words ≡ length old
  holds-long = ap length x.lays ∙ length_laid w.rows old (omega (arith, x.fits))

  abbrev p : ℕ
  p = w.innermost

  at-innermost : (j : ℕ) {n : ℕ} → get_or (laid w.rows old) (p * 4 + j) 0 ≡ n → get_or words (b.innermost * 4 + j) 0 ≡ n
  at-innermost j e = ap₂ (λ (l : List ℕ) (k : ℕ). get_or l (k * 4 + j) 0) x.lays x.opens ∙ e

  pub holds-parent : get_or words (b.innermost * 4 + 1) 0 ≡ (innermost_row w).parent
  holds-parent = at-innermost 1 (laid-parent w.rows old p x.sound.innermost_stands)

  pub holds-first : get_or words (b.innermost * 4 + 2) 0 ≡ (innermost_row w).first
  holds-first = at-innermost 2 (laid-first w.rows old p x.sound.innermost_stands)

  pub holds-below : get_or words (b.innermost * 4 + 3) 0 ≡ (innermost_row w).below
  holds-below = at-innermost 3 (laid-below w.rows old p x.sound.innermost_stands)

  -- small numbers
  pub first_taken : get_or words (b.innermost * 4 + 2) 0 ≤ b.taken
  first_taken = omega (arith, holds-first, x.takes, innermost-first i w x.sound)

  pub few-taken : b.taken ≤ i
  few-taken = omega (arith, x.takes, x.sound.few_tokens)

  pub few-records : b.records ≤ suc (i * most_events)
  few-records = omega (arith, x.counts, x.sound.few_rows)

  pub innermost-before : b.innermost < b.records
  innermost-before = omega (arith, x.counts, x.opens, x.sound.innermost_stands)

  -- AFTER AN EVENT -----------------------------------------------------------------------------------------------------

  pub holds_later : Holds old (suc i) w b words
  holds_later =
      record { counts = x.counts; opens = x.opens; takes = x.takes; lays = x.lays; fits = x.fits; sound = sound-later i w x.sound }

  pub holds-counted : (n : ℕ) → n ≡ suc b.taken → Holds old (suc i) (counted w) (builder b.records b.innermost n) words
  holds-counted n e =
      record { counts = x.counts; opens = x.opens; takes = omega (arith, e, x.takes); lays = x.lays; fits = x.fits; sound = sound-counted i w x.sound }

  pub holds-closed : (q n : ℕ) → q ≡ get_or words (b.innermost * 4 + 1) 0 → n ≡ b.taken - get_or words (b.innermost * 4 + 2) 0 →
      Holds old (suc i) (closed w) (builder b.records q b.taken) (set words (b.innermost * 4 + 3) n)
  holds-closed q n e f =
      let below : n ≡ w.taken - (innermost_row w).first = omega (arith, f, holds-first, x.takes) in
      let same : length (closed w).rows ≡ length w.rows = length-set w.rows p (with_below (w.taken - (innermost_row w).first) (innermost_row w)) in
      record {
        counts = omega (arith, x.counts, same);
        opens = e ∙ holds-parent;
        takes = x.takes;
        lays = (λ j. set (x.lays j) (x.opens j * 4 + 3) (below j)) ∙ laid-changed w.rows old p (w.taken - (innermost_row w).first) x.sound.innermost_stands;
        fits = omega (arith, x.fits, same);
        sound = sound-closed i w x.sound;
      }

  -- A START ------------------------------------------------------------------------------------------------------------

  -- one that was used
  pub holds-used : (es : List Event) → get_or words (b.innermost * 4 + 3) 0 ≡ i → Holds old (suc i) (begun i es w) b words
  holds-used es e =
      let same : begun i es w ≡ w = ap (λ (t : Bool). cond t w (with_links (links i es 0) w)) (eq-eqb (innermost_row w).below i (sym holds-below ∙ e)) in
      subst (λ (v : Walk). Holds old (suc i) v b words) (sym same) holds_later

  -- one that opens its chain
  module _ (all : List Event) (few : length all ≤ most_events) (other : get_or words (b.innermost * 4 + 3) 0 ≡ i → ⊥) where
    chain-few : length (links 0 all i) ≤ most_events
    chain-few = omega (arith, few, links-length 0 all i)

    opens-chain : begun i (drop i all) w ≡ with_links (links 0 all i) w
    opens-chain =
        ap (λ (t : Bool). cond t w (with_links (links i (drop i all) 0) w)) (ne_eqb (innermost_row w).below i (λ e. other (holds-below ∙ e)))
        ∙ ap (λ (ls : List Link). with_links ls w) (sym (links-drop all 0 i ∙ ap (λ (j : ℕ). links j (drop i all) 0) (omega arith)))

    opened-length : length (with_links (links 0 all i) w).rows ≡ length w.rows + length (links 0 all i)
    opened-length =
        length-append w.rows (opened p (length w.rows) w.taken (links 0 all i))
        ∙ ap (λ (k : ℕ). length w.rows + k) (length_opened p (length w.rows) w.taken (links 0 all i))

    -- with a record for each node
    pub holds_opened : (n : ℕ) (to : List ℕ) → n ≡ b.records + length (links 0 all i) → n ≤ record_room (length words) →
        to ≡ sets words (b.records * 4) (words_of_records (opened b.innermost b.records b.taken (links 0 all i))) →
        Holds old (suc i) (begun i (drop i all) w) (builder n (n - 1) b.taken) to
    holds_opened n to e h f =
        let ls = links 0 all i in
        subst (λ (v : Walk). Holds old (suc i) v (builder n (n - 1) b.taken) to) (sym opens-chain)
        (record {
          counts = omega (arith, e, x.counts, opened-length);
          opens = omega (arith, e, x.counts);
          takes = x.takes;
          lays =
              f
              ∙ (λ j. sets (x.lays j) (x.counts j * 4) (words_of_records (opened (x.opens j) (x.counts j) (x.takes j) ls)))
              ∙ laid_more w.rows (opened p (length w.rows) w.taken ls) old (omega (arith, e, h, x.counts, holds-long, length_opened p (length w.rows) w.taken ls));
          fits = omega (arith, e, h, x.counts, holds-long, opened-length);
          sound = sound-links i w x.sound ls chain-few;
        })

    -- without
    pub holds-full : (n : ℕ) → n ≡ b.records + length (links 0 all i) → record_room (length words) < n →
        Full old w (begun i (drop i all) w) b.taken words
    holds-full n e h =
        record {
          takes = x.takes;
          before = x.fits;
          behind = omega (arith, ap (λ (v : Walk). length v.rows) opens-chain, opened-length, e, h, x.counts, ap record_room holds-long);
          long = holds-long;
        }
