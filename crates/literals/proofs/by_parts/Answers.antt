-- A base that is none: its digits are decimal, so that there is no digit, and no base that is allowed (Capping). Assumes nothing.
use Prim.Native.Nat.{ℕ, ◌≤◌, min}
use native.Mathlib.Omega.{arith}
use mathlib.Core.Path.{◌≡◌, refl, ◌∙◌}
use mathlib.Core.Bool.{Bool, true}
use mathlib.Core.List.{List, [], ◌∷◌}
use lib.ListN.{length}
use borrow.Author.Tests.{ne_eqb, lt-ltb}
use Rattle.std.specs.Prelude.{Some, None}
use Rattle.aadl.specs.declared.Number.{Number}
use Rattle.aadl.specs.NumberParts.{PartsHold}
use Rattle.aadl.specs.Values.{digits, number_by, all_below, in_base, in_written_base, part, number_by_parts}
use Rattle.int64.specs.Integers.{most}
use Rattle.literals.specs.Capped.{capped}
use Rattle.literals.proofs.Capping.{decimals_below}
use Rattle.literals.proofs.by_parts.Goals as goal

-- where decimal digits are no number there are none, so they are no base
no_digit : (ds inner : List ℕ) (closed : Bool) → all_below 10 ds ≡ true → None ≡ capped (in_base 10 ds) → None ≡ capped (in_written_base (number_by 10 0 ds) closed inner)
unfolding number_by
no_digit [] inner closed b e = refl
no_digit (d ∷ ds) inner closed b e =
    let there : capped (in_base 10 (d ∷ ds)) ≡ Some (min (number_by 10 0 (d ∷ ds)) most) = rw (lt-ltb 0 (length (d ∷ ds)) (omega arith), b) refl in
    cc

no_base : (bs : List ℕ) (n : Number) → PartsHold bs n → n.len ≤ length bs → (n.base.end ≡ 0 → ⊥) → None ≡ capped (in_base 10 (digits (part n.base.begin n.base.end bs))) →
    None ≡ capped (number_by_parts bs n)
no_base bs n x l z e =
    let upto : n.base.end ≤ length bs = omega (arith, x.parts_order, x.inner_order, x.inside, l) in
    let below = decimals_below n.base.end bs n.base.begin n.base.end (omega arith) upto x.base_digits in
    rw (ne_eqb n.base.end 0 z) (no_digit (digits (part n.base.begin n.base.end bs)) (digits (part n.inner.begin n.inner.end bs)) n.closed below e)

pub returns-in_err-base : goal.returns-in_err-base
returns-in_err-base c = c.from_residual.ensures ∙ no_base c.args.bytes.now c.args.n c.requires.0 c.requires.1 c.if-n-eq0.false c.in_err-base.ensures
