-- The bytes that were read and the words that are counted are parts of what is lent; of these the lines are left (PieceLaws). Assumes nothing.
use Prim.Native.Nat.{min}
use native.Mathlib.Omega.{arith}
use mathlib.Core.Path.{◌≡◌, sym, ap, ◌∙◌}
use lib.ListN.{drop}
use Rattle.aadl.specs.Encoding.{words_for, first_words}
use Rattle.aadl.specs.Listing.{lent_events}
use Rattle.writing.proofs.LeastLaws.{take_least}
use Rattle.parser.specs.Input.{input}
use Rattle.listing.specs.Positions.{lines_from}
use Rattle.listing.specs.Pieces.{left}
use Rattle.listing.proofs.PieceLaws.{gave-same}
use Rattle.listing.proofs.Listing.more.Goals as goal

pub returns : goal.returns
unfolding left
returns c =
    let x = c.args in
    let l = x.self.now in
    let s = take_least _ _ _ x.text.now c.min-n.ensures (omega arith) in
    let t = take_least _ _ _ x.tokens.now c.min-t.ensures (omega arith) in
    let pairs : words_for c.min-e.result ≡ min (words_for l.answer.events) lent_events = omega (arith, c.min-e.ensures) in
    let w = ap first_words (take_least _ (words_for l.answer.events) lent_events x.events.now pairs (omega arith)) in
    let r = c.put_lines.ensures.lines in
    let m = c.put_lines.new.self in
    record {
      same = r.same;
      gave =
          gave-same r.gave (λ i. lines_from (input (s i) (t i)) l.event (drop l.event (w i)) l.position)
          ((λ i. lines_from (input (s i) (t i)) m.event (drop m.event (w i)) m.position) ∙ sym (ap (left x.text.now x.tokens.now x.events.now) c.put_lines.ensures.stays.stays));
    }
