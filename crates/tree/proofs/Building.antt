-- The pass over the events, turn by turn: the walk that a builder holds, gone on from the next event, is the whole walk. So at the end it
-- holds the whole walk's records; and where a node has no record, the first of them that is missing begins at the tokens taken (Growing).
-- Assumes nothing.
use Prim.Native.Nat.{ℕ, suc, ◌≤◌, ◌<◌}
use native.Mathlib.Omega.{arith}
use mathlib.Core.Path.{◌≡◌, refl, sym, ap, subst, ◌∙◌}
use mathlib.Core.List.{List, [], ◌∷◌, map}
use lib.ListN.{length, get_or, drop, length-map, drop_of_length-le}
use lib.Seq.{sets}
use Rattle.std.specs.Prelude.{Result, Ok, Err, MatchResult}
use Rattle.predictive.specs.Events.{Event}
use Rattle.aadl.specs.Tokens.{kind_in}
use Rattle.aadl.specs.Encoding.{event_in}
use Rattle.aadl.specs.Records.{Record, of_node, words_of_records, record_room}
use Rattle.tree.specs.declared.Builder.{Builder}
use Rattle.tree.specs.Walk.{Walk, turn, walk, root}
use Rattle.tree.specs.Builders.{laid, Holds, Full, walked, Whole, Lacks, Built}
use Rattle.tree.proofs.Chains.{events-from_here}
use Rattle.tree.proofs.Growing.{firsts-stay, first-without_record}
use Rattle.tree.proofs.Laid.{length_laid, laid_more, laid-over}
use Rattle.tree.proofs.Sounding.{sound-root}
use Rattle.tree.proofs.Holding.{builder, holds-long}
use Rattle.tree.proofs.Turning.{from, walk_turn}

abbrev first_of : Record → ℕ
first_of r = r.first

-- Before event i the builder holds a walk that goes on to the whole one.
pub record Building (ws old : List ℕ) (i : ℕ) (b : Builder) (words : List ℕ) : Type 0 where
  pub so_far : Walk
  pub holds : Holds old i so_far b words
  pub goes_on : walk i (from ws i) so_far ≡ walked ws

-- the root's record
abbrev first_rows : List ℕ → List Record
first_rows ws = (root (kind_in (get_or ws 0 0))).rows

-- The first record is the root's.
some-rows : (ws : List ℕ) → (rest : List ℕ) × (map first_of (walked ws).rows ≡ 0 ∷ rest)
some-rows ws = firsts-stay 0 (map event_in ws) (root (kind_in (get_or ws 0 0)))

one-row : (ws : List ℕ) → 1 ≤ length (walked ws).rows
one-row ws = omega (arith, length-map (walked ws).rows first_of, ap length (some-rows ws).1)

-- The root is open, in the words begun.
pub building_begins : (ws old begun : List ℕ) → 4 ≤ length old → begun ≡ sets old 0 (words_of_records (of_node (kind_in (get_or ws 0 0)) 0 0 0 ∷ [])) →
    Building ws begun 0 (builder 1 0 0) begun
building_begins ws old begun h e =
    let rs = first_rows ws in
    let lies : begun ≡ laid rs old = e ∙ laid_more [] rs old (omega (arith, h)) in
    record {
      so_far = root (kind_in (get_or ws 0 0));
      holds = record { counts = refl; opens = refl; takes = refl; lays = lies ∙ sym (laid-over rs rs old (omega arith)) ∙ ap (laid rs) (sym lies); fits = omega (arith, h, ap length lies, length_laid rs old (omega (arith, h))); sound = sound-root (kind_in (get_or ws 0 0)) };
      goes_on = refl;
    }

-- What is built over the words begun is built over the words that were lent.
pub built_over : (ws old begun : List ℕ) (r : Result ℕ ℕ) (words : List ℕ) → 4 ≤ length old →
    begun ≡ sets old 0 (words_of_records (of_node (kind_in (get_or ws 0 0)) 0 0 0 ∷ [])) → Built ws begun r words → Built ws old r words
built_over ws old begun r words h e x = record { built = over r x.built; long = x.long ∙ long }
  where
    rs : List Record
    rs = first_rows ws

    lies : begun ≡ laid rs old
    lies = e ∙ laid_more [] rs old (omega (arith, h))

    long : length begun ≡ length old
    long = ap length lies ∙ length_laid rs old (omega (arith, h))

    room : record_room (length begun) ≡ record_room (length old)
    room = ap record_room long

    over : (r : Result ℕ ℕ) → MatchResult r (λ n. Whole ws begun n words) (λ t. Lacks ws begun t) → MatchResult r (λ n. Whole ws old n words) (λ t. Lacks ws old t)
    over (Ok n) y =
        record {
          counts = y.counts;
          fits = omega (arith, y.fits, room);
          lays = y.lays ∙ ap (laid (walked ws).rows) lies ∙ laid-over rs (walked ws).rows old (one-row ws);
        }
    over (Err t) y =
        record {
          lacks = omega (arith, y.lacks, room);
          names = y.names ∙ ap (λ (n : ℕ). get_or (map first_of (walked ws).rows) (record_room n) 0) long;
        }

module _ (ws old : List ℕ) where
  -- there is no record for it
  pub building_none : length old < 4 → Built ws old (Err 0) old
  building_none h =
      let z : record_room (length old) ≡ 0 = omega (arith, h) in
      record {
        built = record {
          lacks = omega (arith, z, one-row ws);
          names = sym (ap (λ (k : ℕ). get_or (map first_of (walked ws).rows) k 0) z ∙ ap (λ (l : List ℕ). get_or l 0 0) (some-rows ws).1);
        };
        long = refl;
      }

  module _ {i : ℕ} {b : Builder} {words : List ℕ} (x : Building ws old i b words) where
    abbrev w : Walk
    w = x.so_far

    -- all events are passed
    pub building_done : length ws ≤ i → Built ws old (Ok b.records) words
    unfolding walk
    building_done h =
        let none : length (map event_in ws) ≤ i = omega (arith, h, length-map ws event_in) in
        let all : walk i (from ws i) w ≡ w = ap (λ (es : List Event). walk i es w) (drop_of_length-le (map event_in ws) none) in
        let whole : w ≡ walked ws = sym all ∙ x.goes_on in
        let y = subst (λ (v : Walk). Holds old i v b words) whole x.holds in
        record { built = record { counts = y.counts; fits = omega (arith, y.counts, y.fits); lays = y.lays }; long = holds-long y }

    module _ (here : i < length ws) where
      after_turn : walk (suc i) (from ws (suc i)) (turn i (from ws i) w) ≡ walked ws
      after_turn = sym (walk_turn ws i here w) ∙ x.goes_on

      -- the builder goes on
      pub building_more : (r : Builder) (to : List ℕ) → Holds old (suc i) (turn i (from ws i) w) r to → Building ws old (suc i) r to
      building_more r to y = record { so_far = turn i (from ws i) w; holds = y; goes_on = after_turn }

      -- a node has no record
      pub building_full : (t : ℕ) (to : List ℕ) → Full old w (turn i (from ws i) w) t to → Built ws old (Err t) to
      unfolding walk
      building_full t to y =
          let n = record_room (length old) in
          let split = events-from_here ws i here in
          let e = event_in (get_or ws i 0) in
          let es = map event_in (drop (suc i) ws) in
          let whole : walk (suc i) es (turn i (e ∷ es) w) ≡ walked ws = sym (ap (λ (ds : List Event). walk i ds w) split) ∙ x.goes_on in
          let lacks = first-without_record i e es w n y.before (subst (λ (ds : List Event). n < length (turn i ds w).rows) split y.behind) in
          record {
            built = record {
              lacks = subst (λ (v : Walk). n < length v.rows) whole lacks.0;
              names = y.takes ∙ sym lacks.1 ∙ ap (λ (v : Walk). get_or (map first_of v.rows) n 0) whole;
            };
            long = y.long;
          }
