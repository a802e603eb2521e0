-- A byte that stands second in no mark leaves the first byte by itself; else `--`, or the longest mark (Marks). Assumes nothing.
use mathlib.Core.Path.{◌≡◌, sym, ◌∙◌}
use mathlib.Core.Bool.{false}
use native.Mathlib.Omega.{arith}
use lib.Dec.{eqb}
use Rattle.predictive.proofs.Tests.{and_false_r, or_l}
use Rattle.aadl.specs.Tokens.{marks}
use Rattle.classes.specs.Classes.{member, in_longer, is_second}
use Rattle.scan.proofs.Marks.{single-of_window, single-stands, longest-of_window, mark-token}
use Rattle.scan.proofs.scan_mark.Goals as goal

pub mark_or_error-requires : goal.mark_or_error-requires
unfolding member
mark_or_error-requires c =
    let not_second : is_second c.window_at-w.result.second ≡ false = sym c.in_class.ensures ∙ c.if-not-in_class.true in
    let w = c.window_at-w in
    let q = c.before in
    (omega (arith, q.requires.0.inside), c.one_mark-one.ensures ∙ single-stands q.args.s.now q.args.at q.args.k q.requires.0 q.requires.1 w.result w.ensures (not_second))

pub returns-then-not-in_class : goal.returns-then-not-in_class
unfolding member
returns-then-not-in_class c =
    let not_second : is_second c.window_at-w.result.second ≡ false = sym c.in_class.ensures ∙ c.if-not-in_class.true in
    let w = c.window_at-w in
    let q = c.before in
    let no_dash = or_l (eqb w.result.second 45) (in_longer 1 marks w.result.second) (not_second) in
    c.mark_or_error.ensures
    ∙ mark-token q.args.s.now q.args.at q.args.k q.requires.0 q.requires.1 w.result w.ensures (and_false_r (eqb w.result.first 45) (eqb w.result.second 45) no_dash)

pub longer_mark-requires : goal.longer_mark-requires
longer_mark-requires c =
    let w = c.window_at-w in
    let q = c.before in
    c.one_mark-one.ensures ∙ single-of_window q.args.s.now q.args.at q.args.k q.requires.0 q.requires.1 w.result w.ensures

pub mark_or_error-requires-2 : goal.mark_or_error-requires-2
mark_or_error-requires-2 c =
    let w = c.window_at-w in
    let q = c.before in
    (omega (arith, q.requires.0.inside), c.longer_mark.ensures ∙ longest-of_window q.args.s.now q.args.at w.result w.ensures)

pub returns : goal.returns
returns c =
    let w = c.window_at-w in
    let q = c.before in
    c.mark_or_error-2.ensures ∙ mark-token q.args.s.now q.args.at q.args.k q.requires.0 q.requires.1 w.result w.ensures c.if-w.false
