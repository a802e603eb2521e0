-- All of ASCII; else one sequence above ASCII at a turn: the first ill-formed place of the rest, counted from `at`, is that of the text. The measure
-- is what is left of the text. Assumes nothing.
-- past ASCII the first ill-formed place stays
use Prim.Native.Nat.{ℕ, ◌≤◌, ◌+◌}
use mathlib.Core.Path.{◌≡◌, sym, ap, ◌∙◌}
use mathlib.Core.List.{List}
use native.Mathlib.Omega.{arith}
use native.Mathlib.Nat.{zero-add}
use lib.ListN.{length, drop, length-drop}
use borrow.Author.Tests.{not-true}
use Rattle.aadl.specs.Bytes.{run_end}
use Rattle.aadl.specs.Utf8.{ill_formed}
use Rattle.aadl.proofs.Utf8Laws.{ill_formed-none}
use Rattle.aadl.proofs.RunLaws.{run-end_from}
use Rattle.classes.specs.Search.{any, sought, unsought}
use Rattle.classes.proofs.Chunks.{ascii_whole, ascii_run_end}
use Rattle.lexer.proofs.SequenceLaws.{ill_here, sequence-in, ill_next}
use borrow.Author.Rules.{rules}
use Rattle.lexer.proofs.valid_up_to.Goals as goal

skipped : (s : List ℕ) (from r : ℕ) → r ≡ run_end (unsought 128 255) s from → r + ill_formed (drop r s) ≡ from + ill_formed (drop from s)
skipped s from r e = ap (λ (k : ℕ). k + ill_formed (drop k s)) e ∙ ascii_run_end s from

pub returns-then-is_ascii : goal.returns-then-is_ascii
returns-then-is_ascii c =
    let s = c.args.s.now in
    sym (ascii_whole s (not-true (any (sought 128 255) s) (sym c.is_ascii.ensures ∙ c.if-is_ascii.true)))

pub loop-at-init : goal.loop-at-init
loop-at-init c =
    let s = c.args.s.now in
    (skipped s 0 c.skip_ascii-at.result c.skip_ascii-at.ensures.0 ∙ zero-add (ill_formed s), c.skip_ascii-at.ensures.1)

pub returns-then-n-eq0 : goal.returns-then-n-eq0
returns-then-n-eq0 c =
    let l = c.loop-at in
    sym (ill_here _ l.at _ (search rules) c.sequence_at-n.ensures c.if-n-eq0.true) ∙ l.invariant.0

pub overflow_add-at : goal.overflow_add-at
overflow_add-at c =
    let within : c.loop-at.at + c.sequence_at-n.result ≤ length c.args.s.now = sequence-in _ c.loop-at.at _ (search rules) c.sequence_at-n.ensures in
    omega (arith, within)

pub skip_ascii-at-requires-in-loop-at : goal.skip_ascii-at-requires-in-loop-at
skip_ascii-at-requires-in-loop-at c =
    let within : c.loop-at.at + c.sequence_at-n.result ≤ length c.args.s.now = sequence-in _ c.loop-at.at _ (search rules) c.sequence_at-n.ensures in
    within

pub loop-at-smaller : goal.loop-at-smaller
loop-at-smaller c =
    let s = c.args.s.now in
    let l = c.loop-at in
    let n = c.sequence_at-n.result in
    let z = c.if-n-eq0.false in
    omega (arith, c.skip_ascii-at-in-loop-at.ensures.0, run-end_from (unsought 128 255) s (l.at + n))

pub loop-at-preserved : goal.loop-at-preserved
loop-at-preserved c =
    let s = c.args.s.now in
    let l = c.loop-at in
    let n = c.sequence_at-n.result in (
      skipped s (l.at + n) c.skip_ascii-at-in-loop-at.result c.skip_ascii-at-in-loop-at.ensures.0 ∙ sym (ill_next s l.at n (search rules) c.sequence_at-n.ensures c.if-n-eq0.false) ∙ l.invariant.0,
      c.skip_ascii-at-in-loop-at.ensures.1,
    )

pub returns : goal.returns
returns c =
    let s = c.args.s.now in
    let l = c.loop-at in
    omega (arith, ill_formed-none (drop l.at s) (omega (arith, length-drop l.at s)))
