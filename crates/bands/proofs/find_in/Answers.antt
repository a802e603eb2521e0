-- One word at a turn: the one that is left to find stands as far on from here as it did from the start (Counted). Assumes nothing.
use Prim.Native.Nat.{ℕ, ◌+◌}
use native.Mathlib.Omega.{arith}
use mathlib.Core.Path.{◌≡◌, ap, ◌∙◌}
use mathlib.Core.Bool.{true, false}
use lib.ListN.{get_or, drop}
use borrow.Author.Rules.{rules}
use Rattle.bands.specs.Bands.{within_band, nth_within}
use Rattle.std.proofs.lemmas.Bool.Decides.{nat_tests}
use Rattle.bands.proofs.Counted.{nth-found, nth-passed, nth-other}
use Rattle.bands.proofs.find_in.Goals as goal
use Rattle.bands.proofs.find_in.Goals.{then-contains+else-left-eq0, else-contains}

pub returns-then-left-eq0 : goal.returns-then-left-eq0
returns-then-left-eq0 c =
    let band = c.args.band.now in
    let words = c.args.words.now in
    let l = c.loop-i in
    let none : l.left ≡ 0 = c.if-left-eq0.true in
    let inside : within_band band (get_or words l.i 0) ≡ true = search (rules, nat_tests) in
    let here = nth-found band words l.i (search rules) inside in
    let found = ap (λ (n : ℕ). nth_within band n (drop l.i words)) none ∙ here in
    (omega (arith, l.invariant, found), omega (arith, l.invariant, found))

pub loop-i-preserved : goal.loop-i-preserved
loop-i-preserved c =
    let band = c.args.band.now in
    let words = c.args.words.now in
    let l = c.loop-i in
    let on = drop (l.i + 1) words in
    elim c.if-contains.branch [
      | then-contains+else-left-eq0 u ↦
          let inside : within_band band (get_or words l.i 0) ≡ true = search (rules, nat_tests) in
          let passed = nth-passed band words l.left l.i (search rules) inside u.if-left-eq0.false in
          omega (arith, l.invariant, passed, ap (λ (n : ℕ). nth_within band n on) u.left-is)
      | else-contains u ↦
          let outside : within_band band (get_or words l.i 0) ≡ false = search (rules, nat_tests) in
          let other = nth-other band words l.left l.i (search rules) outside in
          omega (arith, l.invariant, other, ap (λ (n : ℕ). nth_within band n on) u.left-is)
    ]
