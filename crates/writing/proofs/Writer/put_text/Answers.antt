-- Byte after byte (WriteLaws): the text's first bytes are written. Assumes nothing.
use native.Mathlib.Numerals.{add-one}
use mathlib.Core.Path.{sym, ap, ◌∙◌}
use lib.ListN.{take}
use lib.Seq.{take-suc}
use Rattle.writing.proofs.WriteLaws.{writes_then, writes-same}
use Rattle.writing.proofs.Writer.put_text.Goals as goal

pub loop-b-preserved : goal.loop-b-preserved
loop-b-preserved c =
    let l = c.loop-b in
    let text = c.args.text.now in
    writes-same (writes_then l.invariant c.put_byte.ensures)
    (sym (take-suc text l.b-index 0 c.loop-b-test.true) ∙ ap (λ n. take n text) (sym (add-one l.b-index)))
