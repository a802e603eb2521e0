-- One Start at a turn: those counted, and the chain that is left, are as many as the whole chain has (Chains, of the first words). The measure
-- is how many events lie ahead. Assumes nothing.
use Prim.Native.Nat.{ℕ, ◌+◌}
use native.Mathlib.Omega.{arith}
use mathlib.Core.Path.{◌≡◌, sym, ap, ◌∙◌}
use mathlib.Core.List.{[], ◌∷◌, map}
use lib.ListN.{length, get_or, length-append, length-map}
use Rattle.aadl.specs.Tokens.{kind_in}
use Rattle.aadl.specs.Encoding.{event_in, class_in, last_in, first_words}
use Rattle.aadl.proofs.EventPairs.{length_first_words}
use Rattle.tree.specs.Walk.{link, links}
use Rattle.tree.proofs.Chains.{links-none, links-other, links-last, links-more}
use Rattle.tree.proofs.chain_length.Goals as goal

pub returns-then-class_in-ne0 : goal.returns-then-class_in-ne0
returns-then-class_in-ne0 c =
    let l = c.loop-at in
    let class = c.class_in.ensures ∙ ap class_in c.first_word-w.ensures in
    let other = links-other (first_words c.args.events.now) l.at (omega arith) (λ e. c.if-class_in-ne0.true (class ∙ e)) in
    omega (arith, ap length other)

pub returns-then-up-eq0 : goal.returns-then-up-eq0
returns-then-up-eq0 c =
    let l = c.loop-at in
    let class = c.class_in.ensures ∙ ap class_in c.first_word-w.ensures in
    let up = c.last_in-up.ensures ∙ ap last_in c.first_word-w.ensures in
    let last = links-last (first_words c.args.events.now) l.at (omega arith) (sym class ∙ c.if-class_in-ne0.false) (sym up ∙ c.if-up-eq0.true) in
    omega (arith, ap length last)

pub overflow_add-at : goal.overflow_add-at
overflow_add-at c =
    let up = c.last_in-up.ensures ∙ ap last_in c.first_word-w.ensures in
    record { fits = omega (arith, length_first_words c.args.events.now) }

pub loop-at-preserved : goal.loop-at-preserved
loop-at-preserved c =
    let l = c.loop-at in
    let ws = first_words c.args.events.now in
    let es = map event_in ws in
    let w = get_or ws l.at 0 in
    let class = c.class_in.ensures ∙ ap class_in c.first_word-w.ensures in
    let up : c.last_in-up.result ≡ last_in w = c.last_in-up.ensures ∙ ap last_in c.first_word-w.ensures in
    let more = links-more ws l.at (omega arith) (sym class ∙ c.if-class_in-ne0.false) (λ e. c.if-up-eq0.false (up ∙ e)) in
    let one = ap length more ∙ length-append (links 0 es (l.at + last_in w)) (link l.at (kind_in w) ∷ []) in
    (omega (arith, ap (λ (m : ℕ). length (links 0 es (l.at + m))) up), omega arith)

pub returns : goal.returns
returns c =
    let es = map event_in (first_words c.args.events.now) in
    omega (arith, ap length (links-none 0 es c.loop-at.at (omega (arith, length-map (first_words c.args.events.now) event_in))))
