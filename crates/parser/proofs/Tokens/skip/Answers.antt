-- Past one trivia word at a turn: what remains is skipped to the same place (Trivia). The measure is what is left. Assumes nothing.
use Prim.Native.Nat.{ℕ, ◌+◌}
use mathlib.Core.Path.{sym, ap, ◌∙◌}
use lib.ListN.{drop}
use borrow.Author.Rules.{rules}
use Rattle.aadl.specs.Symbols.{is_trivia}
use Rattle.parser.specs.Counters.{Place}
use Rattle.parser.specs.Input.{skip}
use Rattle.parser.specs.Parsers.{moved_to}
use Rattle.parser.proofs.Trivia.{skip-more, skip-stays, skip-ends}
use Rattle.parser.proofs.Tokens.skip.Goals as goal

pub returns-then-not-is_trivia : goal.returns-then-not-is_trivia
returns-then-not-is_trivia c =
    let t = c.args.self in
    let l = c.loop-at in
    let e = sym (c.is_trivia.ensures ∙ ap is_trivia c.kind_in.ensures) ∙ c.if-not-is_trivia.true in
    ap (λ (s : Place). moved_to s t) (sym (skip-stays t.text.now t.words.now l.at l.byte (search rules) e) ∙ l.invariant)

pub loop-at-preserved : goal.loop-at-preserved
loop-at-preserved c =
    let t = c.args.self in
    let l = c.loop-at in
    let e = sym (c.is_trivia.ensures ∙ ap is_trivia c.kind_in.ensures) ∙ c.if-not-is_trivia.false in
    ap (λ (b : ℕ). skip t.text.now (l.at + 1) b (drop (l.at + 1) t.words.now)) c.past-byte.ensures
    ∙ skip-more t.text.now t.words.now l.at l.byte (search rules) e ∙ l.invariant

pub returns : goal.returns
returns c =
    let t = c.args.self in
    let l = c.loop-at in
    ap (λ (s : Place). moved_to s t) (sym (skip-ends t.text.now t.words.now l.at l.byte (search rules)) ∙ l.invariant)
