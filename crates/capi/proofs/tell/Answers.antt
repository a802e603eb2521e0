-- Before `i` the numbers are written, as far as they are lent (Telling). Assumes nothing.
use Prim.Native.Nat.{ℕ, suc, ◌+◌, ◌≤◌}
use native.Mathlib.Omega.{arith}
use native.Mathlib.Numerals.{add-one}
use mathlib.Core.Path.{◌≡◌, sym, ap, ◌∙◌}
use mathlib.Core.List.{List}
use lib.ListN.{length, get_or, set, take}
use Rattle.lexer.specs.Filling.{write}
use Rattle.capi.proofs.Telling.{write-long, write-more, write_past}
use Rattle.capi.proofs.tell.Goals as goal
use Rattle.capi.proofs.tell.Goals.{then-i-lent, else-i-lent}

pub loop-i-preserved : goal.loop-i-preserved
loop-i-preserved c =
    let l = c.loop-i in
    let ns = c.args.numbers.now in
    let old = c.args.lent.now in
    let more = c.loop-i-test.true in
    let one : write (take (suc l.i) ns) old ≡ write (take (l.i + 1) ns) old = ap (λ (k : ℕ). write (take k ns) old) (sym (add-one l.i)) in
    elim c.if-i-lent.branch [
      | then-i-lent u ↦ u.lent-is ∙ ap (λ (m : List ℕ). set m l.i (get_or ns l.i 0)) l.invariant ∙ write-more ns old l.i more ∙ one
      | else-i-lent u ↦
          let past : length old ≤ l.i = omega (arith, u.if-i-lent.false, ap length l.invariant, write-long (take l.i ns) old) in
          u.lent-is ∙ l.invariant ∙ write_past ns old l.i more past ∙ one
    ]
