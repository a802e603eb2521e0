-- A sum, and what stands behind it (Summing). Assumes nothing.
use mathlib.Core.Path.{sym, ◌∙◌}
use Rattle.evaluator.proofs.Ahead.{reached-ahead}
use Rattle.evaluator.proofs.Summing.{stopped-sum, whole_sum}
use Rattle.evaluator.proofs.value.Goals as goal

pub returns-then-goes_on : goal.returns-then-goes_on
returns-then-goes_on c = λ k y.
    let text = c.args.tokens.now.text.now in
    let t = c.sum.new.tokens in
    let r = c.in_ok-all.all in
    let x = c.in_ok-all.ensures k y in
    stopped-sum text k r t x c.current.result (reached-ahead text x.to t x.stands _ c.current.ensures) (sym c.goes_on.ensures ∙ c.if-goes_on.true)

pub returns : goal.returns
returns c = λ k y.
    let text = c.args.tokens.now.text.now in
    let t = c.sum.new.tokens in
    let r = c.in_ok-all.all in
    let x = c.in_ok-all.ensures k y in
    whole_sum text k r t x c.current.result (reached-ahead text x.to t x.stands _ c.current.ensures) (sym c.goes_on.ensures ∙ c.if-goes_on.false)
