-- The first number's test says which form it is, and so which numbers are read. Assumes nothing.
use mathlib.Core.Path.{refl, sym, ap, ap₂, ◌∙◌}
use borrow.Author.Tests.{eq-eqb, ne_eqb}
use Rattle.std.proofs.Common.{Some}
use Rattle.std.specs.Option.{option_map}
use Rattle.replay.specs.Heads.{request_of, head_from, record_head}
use Rattle.replay.proofs.head_of.Goals as goal

pub returns-then-not-is_extended : goal.returns-then-not-is_extended
unfolding record_head
returns-then-not-is_extended c =
    let e = sym c.is_extended.ensures ∙ c.if-not-is_extended.true in
    ap Some c.head_from.ensures ∙ rw e refl

pub returns-then-number_at-ne-NONE : goal.returns-then-number_at-ne-NONE
unfolding record_head
returns-then-number_at-ne-NONE c =
    let e = sym c.is_extended.ensures ∙ c.if-not-is_extended.false in
    rw (e, ne_eqb _ 4294967295 (λ q. c.if-number_at-ne-NONE.true (c.number_at.ensures ∙ q))) refl

pub returns-in_err-call : goal.returns-in_err-call
unfolding record_head
returns-in_err-call c =
    let e = sym c.is_extended.ensures ∙ c.if-not-is_extended.false in
    let n = sym c.number_at.ensures ∙ c.if-number_at-ne-NONE.false in
    let r = sym c.in_err-call.was ∙ c.request_of.ensures ∙ ap₂ request_of c.number_at-2.ensures c.number_at-3.ensures in
    c.from_residual.ensures ∙ ap (option_map (head_from c.args.back.now)) r ∙ rw (e, eq-eqb _ 4294967295 n) refl

pub returns : goal.returns
unfolding record_head
returns c =
    let e = sym c.is_extended.ensures ∙ c.if-not-is_extended.false in
    let n = sym c.number_at.ensures ∙ c.if-number_at-ne-NONE.false in
    let r = sym c.in_ok-call.was ∙ c.request_of.ensures ∙ ap₂ request_of c.number_at-2.ensures c.number_at-3.ensures in
    ap Some c.head_from-2.ensures ∙ ap (option_map (head_from c.args.back.now)) r ∙ rw (e, eq-eqb _ 4294967295 n) refl
