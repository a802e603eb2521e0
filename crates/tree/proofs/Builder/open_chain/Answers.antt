-- One record at a turn, from the chain's end (ChainWriting, of the first words). Assumes nothing.
use Prim.Native.Nat.{ℕ, ◌+◌, ◌-◌, ◌*◌}
use native.Mathlib.Omega.{arith}
use mathlib.Core.Path.{◌≡◌, sym, ap, subst, ◌∙◌}
use mathlib.Core.List.{List, [], ◌∷◌}
use lib.Seq.{sets}
use Rattle.aadl.specs.Tokens.{kind_in}
use Rattle.aadl.specs.Encoding.{last_in, first_words}
use Rattle.aadl.specs.Records.{of_node, words_of_records}
use Rattle.tree.proofs.Chains.{last-parent}
use Rattle.tree.proofs.ChainWriting.{Writing, writing_stands, writing_more, parent-first, parent-later}
use Rattle.tree.proofs.Builder.open_chain.Goals as goal
use Rattle.tree.proofs.Builder.open_chain.Goals.{then-number-self, else-number-self}

-- A Start stands where the chain goes on.
pub first_word-w-requires : goal.first_word-w-requires
first_word-w-requires c =
    let a = c.args in
    let l = c.loop-number in
    (writing_stands (first_words a.events.now) a.records.now a.self.innermost a.self.records a.self.taken a.i l.at l.number l.records l.invariant
    c.loop-number-test.true).0

pub put_record-requires : goal.put_record-requires
put_record-requires c =
    let a = c.args in
    let l = c.loop-number in
    let stands =
    writing_stands (first_words a.events.now) a.records.now a.self.innermost a.self.records a.self.taken a.i l.at l.number l.records l.invariant
    c.loop-number-test.true in (
      omega (arith, l.invariant.long),
      elim c.if-number-self.branch [ then-number-self u ↦ omega arith | else-number-self u ↦ omega arith ],
      c.requires.4,
      omega (arith, stands.0),
    )

pub loop-number-preserved : goal.loop-number-preserved
loop-number-preserved c =
    let a = c.args in
    let b = a.self in
    let l = c.loop-number in
    let more = c.loop-number-test.true in
    let chosen = c.if-number-self in
    let parent : chosen.parent ≡ last-parent b.innermost b.records ((l.number - 1) - b.records) =
    elim chosen.branch [
      | then-number-self u ↦ u.parent-is ∙ parent-first b.innermost b.records l.number u.if-number-self.true
      | else-number-self u ↦ u.parent-is ∙ parent-later b.innermost b.records l.number more u.if-number-self.false
    ] in
    let put = c.put_record in
    let first = c.first_word-w.ensures in
    let row : ℕ → List ℕ = λ k. sets l.records ((l.number - 1) * 4) (words_of_records (of_node k chosen.parent b.taken l.at ∷ [])) in
    let x = writing_more (first_words a.events.now) a.records.now b.innermost b.records b.taken a.i l.at l.number l.records l.invariant more
    chosen.parent put.new.records parent (put.ensures ∙ ap row (c.kind_in.ensures ∙ ap kind_in first)) in
    subst (λ (n : ℕ). Writing (first_words a.events.now) a.records.now b.innermost b.records b.taken a.i (l.at + n) (l.number - 1) put.new.records)
    (sym (c.last_in.ensures ∙ ap last_in first)) x
