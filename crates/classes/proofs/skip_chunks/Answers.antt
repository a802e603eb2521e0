-- One chunk at a turn: the whole chunks from `i` on end where those from `from` on end. The measure is what is left of the text. Assumes
-- nothing.
use Prim.Native.Nat.{◌-◌, ◌+◌}
use mathlib.Core.Path.{sym, ◌∙◌}
use native.Mathlib.Omega.{arith}
use Rattle.classes.specs.Search.{sought}
use Rattle.classes.proofs.Chunks.{chunk_more, chunk_stop, chunk_over}
use borrow.Author.Rules.{rules}
use Rattle.classes.proofs.skip_chunks.Goals as goal

pub returns-then-any_between : goal.returns-then-any_between
returns-then-any_between c =
    let a = c.args in
    let l = c.loop-i in
    let i = l.i in
    let e = chunk_stop (sought a.least a.most) a.s.now i (i + 16 - i) (omega arith) (sym c.any_between.ensures ∙ c.if-any_between.true) in
    (sym e ∙ l.invariant.0, l.invariant.1)

pub loop-i-preserved : goal.loop-i-preserved
loop-i-preserved c =
    let a = c.args in
    let l = c.loop-i in
    let i = l.i in
    let e = chunk_more (sought a.least a.most) a.s.now i (i + 16 - i) (omega arith) (search rules) (sym c.any_between.ensures ∙ c.if-any_between.false) in
    (sym e ∙ l.invariant.0, search rules)

pub returns : goal.returns
returns c =
    let a = c.args in
    let l = c.loop-i in
    (sym (chunk_over (sought a.least a.most) a.s.now l.i (search rules)) ∙ l.invariant.0, l.invariant.1)
