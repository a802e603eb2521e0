-- LF, and the three lines (writing, WriteLaws): a number of events past the lent words uses all of them, as the number of the lent ones does
-- (CountLaws). Assumes nothing.
use Prim.Native.Nat.{min}
use native.Mathlib.Omega.{arith}
use mathlib.Core.Path.{◌≡◌, ap, ◌∙◌}
use mathlib.Core.List.{[], ◌∷◌}
use lib.ListN.{length}
use Rattle.aadl.specs.Words.{bytes}
use Rattle.aadl.specs.Encoding.{words_for}
use Rattle.writing.proofs.WriteLaws.{writes_then, writes-same}
use Rattle.replay_lines.specs.Records.{line, word_lines}
use Rattle.replay_lines.proofs.CountLaws.{take_alike, rest-alike}
use Rattle.replay_lines.proofs.put_buffers.Goals as goal

pub returns : goal.returns
unfolding word_lines
returns c =
    let x = c.args in
    let n = x.a.events in
    let k = c.min-used.result in
    let ws = x.events.now in
    let q : min (words_for k) (length ws) ≡ min (words_for n) (length ws) = omega (arith, c.min-used.ensures) in
    let e = writes-same c.put_line-2.ensures (ap (line (bytes "events")) (take_alike (words_for k) (words_for n) ws q)) in
    let f = c.rest_of-2.ensures ∙ rest-alike (words_for k) (words_for n) ws q x.a.number in
    let r = writes-same c.put_row.ensures (λ i. line (bytes "rest") (c.rest_of.ensures i ∷ f i ∷ [])) in
    writes_then c.put_byte.ensures (writes_then (writes_then c.put_line.ensures e) r)
