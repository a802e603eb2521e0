-- A turn goes past the word where it stands; before trivia there is one more: what follows that word is found from there on (Trivia).
-- The measure is what is left. Assumes nothing.
use Prim.Native.Nat.{ℕ, ◌+◌}
use mathlib.Core.Path.{sym, ap, ◌∙◌}
use lib.ListN.{drop}
use borrow.Author.Rules.{rules}
use Rattle.parser.specs.Counters.{Place}
use Rattle.parser.specs.Input.{skip}
use Rattle.parser.specs.Parsers.{moved_to}
use Rattle.parser.proofs.Trivia.{skip-goes, skip-stops, after-one_is, after-one_ends}
use Rattle.parser.proofs.Tokens.next.Goals as goal

pub returns-then-not-trivia_at : goal.returns-then-not-trivia_at
returns-then-not-trivia_at c =
    let t = c.args.self in
    let l = c.loop-at in
    let ws = drop (l.at + 1) t.words.now in
    ap (λ (s : Place). moved_to s t)
    (sym (skip-stops t.text.now (l.at + 1) c.past-byte.result ws (sym c.trivia_at.ensures ∙ c.if-not-trivia_at.true))
    ∙ ap (λ (b : ℕ). skip t.text.now (l.at + 1) b ws) c.past-byte.ensures
    ∙ sym (after-one_is t.text.now t.words.now l.at l.byte (search rules)) ∙ l.invariant)

pub loop-at-preserved : goal.loop-at-preserved
loop-at-preserved c =
    let t = c.args.self in
    let l = c.loop-at in
    let ws = drop (l.at + 1) t.words.now in
    skip-goes t.text.now (l.at + 1) c.past-byte.result ws (sym c.trivia_at.ensures ∙ c.if-not-trivia_at.false)
    ∙ ap (λ (b : ℕ). skip t.text.now (l.at + 1) b ws) c.past-byte.ensures
    ∙ sym (after-one_is t.text.now t.words.now l.at l.byte (search rules)) ∙ l.invariant

pub returns : goal.returns
returns c =
    let t = c.args.self in
    let l = c.loop-at in
    ap (λ (s : Place). moved_to s t) (sym (after-one_ends t.text.now t.words.now l.at l.byte (search rules)) ∙ l.invariant)
