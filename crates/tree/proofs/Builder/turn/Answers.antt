-- By the class of the event's first word (Turning): a Start, a Finish, a Token, or an Error, which does nothing (Holding). Assumes nothing.
use Prim.Native.Nat.{suc, ◌+◌}
use native.Mathlib.Omega.{arith}
use mathlib.Core.Path.{◌≡◌, sym, ap, subst, ◌∙◌}
use borrow.Author.Rules.{rules}
use Rattle.aadl.specs.Encoding.{class_in, first_words}
use Rattle.tree.specs.Walk.{Walk}
use Rattle.tree.specs.Builders.{Holds, Stepped}
use Rattle.tree.proofs.Holding.{builder, holds_later, holds-counted}
use Rattle.tree.proofs.Turning.{turn-start, turn-token, turn-finish, turn-error}
use Rattle.tree.proofs.Builder.turn.Goals as goal

pub returns-in-0 : goal.returns-in-0
returns-in-0 c =
    let a = c.args in
    let class = c.class_in.ensures ∙ ap class_in c.first_word.ensures in
    let went = c.start in
    λ old w x. subst (λ (v : Walk). Stepped old (suc a.i) w v went.result went.new.self went.new.records)
    (sym (turn-start (first_words a.events.now) a.i c.requires.0 w (sym class ∙ c.in-0.is))) (went.ensures old w x)

pub returns-in-1 : goal.returns-in-1
returns-in-1 c =
    let a = c.args in
    let class = c.class_in.ensures ∙ ap class_in c.first_word.ensures in
    let b = a.self.now in
    λ old w x. subst (λ (v : Walk). Holds old (suc a.i) v (builder b.records b.innermost (b.taken + 1)) a.records.now)
    (sym (turn-token (first_words a.events.now) a.i c.requires.0 w (sym class ∙ c.in-1.is))) (holds-counted x (b.taken + 1) (omega arith))

pub returns-in-2 : goal.returns-in-2
returns-in-2 c =
    let a = c.args in
    let class = c.class_in.ensures ∙ ap class_in c.first_word.ensures in
    let went = c.finish in
    λ old w x. subst (λ (v : Walk). Holds old (suc a.i) v went.new.self went.new.records)
    (sym (turn-finish (first_words a.events.now) a.i c.requires.0 w (sym class ∙ c.in-2.is))) (went.ensures old w x)

pub returns-in_default : goal.returns-in_default
returns-in_default c =
    let a = c.args in
    let class = c.class_in.ensures ∙ ap class_in c.first_word.ensures in
    let other : (c.class_in.result ≡ 0 → ⊥) × (c.class_in.result ≡ 1 → ⊥) × (c.class_in.result ≡ 2 → ⊥) = search rules in
    λ old w x. subst (λ (v : Walk). Holds old (suc a.i) v a.self.now a.records.now)
    (sym (turn-error (first_words a.events.now) a.i c.requires.0 w (λ e. other.0 (class ∙ e)) (λ e. other.1 (class ∙ e)) (λ e. other.2 (class ∙ e))))
    (holds_later x)
