-- At once, or behind the chunks that have none: the run from where they end ends where the run from `from` on ends. Assumes nothing.
use Prim.Native.Nat.{ℕ, ◌+◌}
use native.Mathlib.Nat.{le_refl}
use native.Mathlib.Omega.{arith}
use mathlib.Core.Path.{sym, ap, ◌∙◌}
use mathlib.Core.Bool.{not}
use lib.ListN.{drop, length-drop}
use Rattle.aadl.specs.Bytes.{run, run_end}
use Rattle.aadl.proofs.RunLaws.{run-stop}
use Rattle.aadl.proofs.TokenBounds.{run-within}
use Rattle.classes.specs.Search.{unsought, chunks_end}
use Rattle.classes.proofs.Chunks.{taken-run, chunks_inside}
use Rattle.classes.proofs.next_between.Goals as goal

pub returns-then-between : goal.returns-then-between
returns-then-between c =
    let a = c.args in
    (sym (run-stop (unsought a.least a.most) a.s.now a.from c.if-from-s.true (ap not (sym c.between.ensures ∙ c.if-between.true))), c.requires, le_refl a.from)

pub returns : goal.returns
unfolding run_end chunks_end
returns c =
    let a = c.args in
    let class = unsought a.least a.most in
    let i = c.skip_chunks-i.result in
    let h = c.skip_chunks-i.ensures in
    let n = c.gap.ensures ∙ taken-run class c.rest.result.now ∙ ap (run class) c.rest.ensures in (
      ap (λ (k : ℕ). i + k) n ∙ ap (run_end class a.s.now) h.0 ∙ chunks_inside class a.s.now a.from,
      omega (arith, n, run-within class (drop i a.s.now), length-drop i a.s.now, h.1),
      omega (arith, h.0),
    )
