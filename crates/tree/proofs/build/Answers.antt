-- No record is lent; else the root is open, and the events are passed one at a turn (Building, of the first words). Assumes
-- nothing.
use Prim.Native.Nat.{ℕ}
use native.Mathlib.Omega.{arith}
use native.Mathlib.Numerals.{add-one}
use mathlib.Core.Path.{◌≡◌, sym, ap, subst, ◌∙◌}
use mathlib.Core.List.{List, [], ◌∷◌}
use lib.ListN.{get_or}
use lib.Seq.{sets}
use borrow.Author.Rules.{rules}
use Rattle.std.specs.Prelude.{Result, Err}
use Rattle.aadl.specs.Tokens.{kind_in}
use Rattle.aadl.specs.Encoding.{first_words}
use Rattle.aadl.specs.Records.{of_node, words_of_records}
use Rattle.tree.specs.Builders.{Built}
use Rattle.tree.proofs.Building.{Building, building_begins, building_none, built_over, building_done, building_more, building_full}
use Rattle.tree.proofs.build.Goals as goal

-- The root's record is written, with the kind in the first event's first word.
begun : (ws old new : List ℕ) (w kind : ℕ) → w ≡ get_or ws 0 0 → kind ≡ kind_in w →
    new ≡ sets old 0 (words_of_records (of_node kind 0 0 0 ∷ [])) → new ≡ sets old 0 (words_of_records (of_node (kind_in (get_or ws 0 0)) 0 0 0 ∷ []))
begun ws old new w kind e f put = put ∙ ap (λ (k : ℕ). sets old 0 (words_of_records (of_node k 0 0 0 ∷ []))) (f ∙ ap kind_in e)

pub returns-then-records-lt4 : goal.returns-then-records-lt4
returns-then-records-lt4 c = building_none (first_words c.args.events.now) c.args.records.now c.if-records-lt4.true

pub loop-i-init : goal.loop-i-init
loop-i-init c =
    let a = c.args in
    let ws = first_words a.events.now in
    building_begins ws a.records.now c.put_record.new.records (omega arith)
    (begun ws a.records.now _ _ _ c.first_word.ensures c.kind_in.ensures c.put_record.ensures)

pub returns-in_err-turn : goal.returns-in_err-turn
returns-in_err-turn c =
    let a = c.args in
    let ws = first_words a.events.now in
    let x = c.loop-i.invariant in
    let begins = c.put_record.new.records in
    let went = c.turn in
    let full = c.in_err-turn.ensures begins x.so_far x.holds in
    let t = c.in_err-turn.field-0.0 in
    let handed : c.from_residual.result ≡ Err t = search rules in
    built_over ws a.records.now begins c.from_residual.result went.new.records (omega arith)
    (begun ws a.records.now _ _ _ c.first_word.ensures c.kind_in.ensures c.put_record.ensures)
    (subst (λ (r : Result ℕ ℕ). Built ws begins r went.new.records) (sym handed) (building_full ws begins x (omega arith) t went.new.records full))

pub loop-i-preserved : goal.loop-i-preserved
loop-i-preserved c =
    let ws = first_words c.args.events.now in
    let x = c.loop-i.invariant in
    let begins = c.put_record.new.records in
    let went = c.turn in
    let here = c.events_told-i-end.ensures in
    subst (λ (n : ℕ). Building ws begins n went.new.self went.new.records) (sym (add-one c.loop-i.i))
    (building_more ws begins x (omega arith) went.new.self went.new.records (c.in_ok-turn.ensures begins x.so_far x.holds))

pub returns : goal.returns
returns c =
    let a = c.args in
    let ws = first_words a.events.now in
    let l = c.loop-i in
    let begins = c.put_record.new.records in
    built_over ws a.records.now begins _ l.records (omega arith)
    (begun ws a.records.now _ _ _ c.first_word.ensures c.kind_in.ensures c.put_record.ensures) (building_done ws begins l.invariant (omega arith))
