-- Behind the bound by the run; before it four bytes at a turn with no test for the end: the place looked at goes on (WordLaws) behind each
-- byte of a word. The measure is what is left up to the bound. Assumes nothing.
use Prim.Native.Nat.{ℕ, ◌+◌}
use mathlib.Core.Path.{◌≡◌, refl, sym, ap, ◌∙◌}
use mathlib.Core.List.{List}
use native.Mathlib.Omega.{arith}
use lib.ListN.{length, drop, length-drop}
use Rattle.std.proofs.lemmas.List.{take_rest}
use Rattle.std.specs.List.{take_while}
use Rattle.aadl.specs.Bytes.{is_ident_continue, run, run_end}
use Rattle.aadl.proofs.TokenBounds.{run-within}
use Rattle.classes.specs.Classes.{member}
use Rattle.classes.proofs.Chunks.{taken-run}
use Rattle.scan.proofs.WordLaws.{Going, going-inside, going_on, going-stops}
use Rattle.scan.proofs.Scanner.word_end.Goals as goal

pub returns-then-self-from : goal.returns-then-self-from
unfolding member run_end
returns-then-self-from c =
    let s = c.args.self.text.now in
    let p = is_ident_continue in
    let left = drop c.args.from s in
    let n : c.run.result ≡ run p left = c.run.ensures ∙ ap (λ (bs : List ℕ). length (take_while p bs)) (take_rest s c.args.from) ∙ taken-run p left in
    (omega (arith, n), omega (arith, n, run-within p left, length-drop c.args.from s, c.requires.1), omega arith)

pub returns-then-not-in_class : goal.returns-then-not-in_class
unfolding member
returns-then-not-in_class c =
    let l = c.loop-s in
    going-stops _ _ _ _ l.invariant (sym c.in_class.ensures ∙ c.if-not-in_class.true)

pub bounds-s-i-in-loop-s : goal.bounds-s-i-in-loop-s
unfolding member
bounds-s-i-in-loop-s c =
    let one : let a = c.args in
    Going a.self.text.now a.from a.self.bound (c.loop-s.i + 1) = let l = c.loop-s in
    going_on _ _ _ l.i l.invariant _ refl (sym c.in_class.ensures ∙ c.if-not-in_class.false) in
    going-inside _ _ _ _ (one)

pub returns-then-not-in_class-2 : goal.returns-then-not-in_class-2
unfolding member
returns-then-not-in_class-2 c =
    let one : let a = c.args in
    Going a.self.text.now a.from a.self.bound (c.loop-s.i + 1) = let l = c.loop-s in
    going_on _ _ _ l.i l.invariant _ refl (sym c.in_class.ensures ∙ c.if-not-in_class.false) in
    going-stops _ _ _ _ (one) (sym c.in_class-in-loop-s.ensures ∙ c.if-not-in_class-2.true)

pub bounds-s-i-in-loop-s-2 : goal.bounds-s-i-in-loop-s-2
unfolding member
bounds-s-i-in-loop-s-2 c =
    let one : let a = c.args in
    Going a.self.text.now a.from a.self.bound (c.loop-s.i + 1) = let l = c.loop-s in
    going_on _ _ _ l.i l.invariant _ refl (sym c.in_class.ensures ∙ c.if-not-in_class.false) in
    let two : let p = c.before in let a = p.args in
    Going a.self.text.now a.from a.self.bound (p.loop-s.i + 2) = going_on _ _ _ _ (one) _ (omega arith) (sym c.in_class-in-loop-s.ensures ∙ c.if-not-in_class-2.false) in
    going-inside _ _ _ _ (two)

pub returns-then-not-in_class-3 : goal.returns-then-not-in_class-3
unfolding member
returns-then-not-in_class-3 c =
    let one : let a = c.args in
    Going a.self.text.now a.from a.self.bound (c.loop-s.i + 1) = let l = c.loop-s in
    going_on _ _ _ l.i l.invariant _ refl (sym c.in_class.ensures ∙ c.if-not-in_class.false) in
    let two : let p = c.before in let a = p.args in
    Going a.self.text.now a.from a.self.bound (p.loop-s.i + 2) = going_on _ _ _ _ (one) _ (omega arith) (sym c.in_class-in-loop-s.ensures ∙ c.if-not-in_class-2.false) in
    going-stops _ _ _ _ (two) (sym c.in_class-in-loop-s-2.ensures ∙ c.if-not-in_class-3.true)

pub bounds-s-i-in-loop-s-3 : goal.bounds-s-i-in-loop-s-3
unfolding member
bounds-s-i-in-loop-s-3 c =
    let one : let a = c.args in
    Going a.self.text.now a.from a.self.bound (c.loop-s.i + 1) = let l = c.loop-s in
    going_on _ _ _ l.i l.invariant _ refl (sym c.in_class.ensures ∙ c.if-not-in_class.false) in
    let two : let p = c.before in let a = p.args in
    Going a.self.text.now a.from a.self.bound (p.loop-s.i + 2) = going_on _ _ _ _ (one) _ (omega arith) (sym c.in_class-in-loop-s.ensures ∙ c.if-not-in_class-2.false) in
    let three : let p = c.before in let a = p.args in
    Going a.self.text.now a.from a.self.bound (p.loop-s.i + 3) = going_on _ _ _ _ (two) _ (omega arith) (sym c.in_class-in-loop-s-2.ensures ∙ c.if-not-in_class-3.false) in
    going-inside _ _ _ _ (three)

pub returns-then-not-in_class-4 : goal.returns-then-not-in_class-4
unfolding member
returns-then-not-in_class-4 c =
    let one : let a = c.args in
    Going a.self.text.now a.from a.self.bound (c.loop-s.i + 1) = let l = c.loop-s in
    going_on _ _ _ l.i l.invariant _ refl (sym c.in_class.ensures ∙ c.if-not-in_class.false) in
    let two : let p = c.before in let a = p.args in
    Going a.self.text.now a.from a.self.bound (p.loop-s.i + 2) = going_on _ _ _ _ (one) _ (omega arith) (sym c.in_class-in-loop-s.ensures ∙ c.if-not-in_class-2.false) in
    let three : let p = c.before in let a = p.args in
    Going a.self.text.now a.from a.self.bound (p.loop-s.i + 3) = going_on _ _ _ _ (two) _ (omega arith) (sym c.in_class-in-loop-s-2.ensures ∙ c.if-not-in_class-3.false) in
    going-stops _ _ _ _ (three) (sym c.in_class-in-loop-s-3.ensures ∙ c.if-not-in_class-4.true)

pub loop-s-preserved : goal.loop-s-preserved
unfolding member
loop-s-preserved c =
    let one : let a = c.args in
    Going a.self.text.now a.from a.self.bound (c.loop-s.i + 1) = let l = c.loop-s in
    going_on _ _ _ l.i l.invariant _ refl (sym c.in_class.ensures ∙ c.if-not-in_class.false) in
    let two : let p = c.before in let a = p.args in
    Going a.self.text.now a.from a.self.bound (p.loop-s.i + 2) = going_on _ _ _ _ (one) _ (omega arith) (sym c.in_class-in-loop-s.ensures ∙ c.if-not-in_class-2.false) in
    let three : let p = c.before in let a = p.args in
    Going a.self.text.now a.from a.self.bound (p.loop-s.i + 3) = going_on _ _ _ _ (two) _ (omega arith) (sym c.in_class-in-loop-s-2.ensures ∙ c.if-not-in_class-3.false) in
    going_on _ _ _ _ (three) _ (omega arith) (sym c.in_class-in-loop-s-3.ensures ∙ c.if-not-in_class-4.false)
