-- Literals behind their signs, by what is told of them: the cap is above the range, and signs do not leave it. Assumes nothing.
use Prim.Native.Nat.{ℕ, ◌≤◌, ◌<◌, min}
use native.Mathlib.Omega.{arith}
use mathlib.Core.Path.{◌≡◌, refl, sym, ap, subst}
use mathlib.Core.Bool.{Bool, true, false}
use mathlib.Core.List.{List}
use mathlib.Core.Option.{Option, none, some}
use lib.Dec.{leb}
use lib.IntN.{pos}
use borrow.Author.Tests.{le-leb, lt-leb}
use Rattle.std.specs.Prelude.{Some, None, Ok, Err}
use Rattle.aadl.specs.Symbols.{start_of}
use Rattle.aadl.specs.Values.{Outcome, exact, beyond, in_range, kept, with_sign}
use Rattle.int64.specs.Integers.{most, by_sign}
use Rattle.int64.proofs.Ranges.{negated-in_range}
use Rattle.literals.specs.Capped.{capped}
use Rattle.evaluator.specs.Terms.{Held}

-- What is told of a literal: that it breaks a rule, or its number.
pub none-told : (o : Option ℕ) → None ≡ capped o → o ≡ none
none-told none e = refl
none-told (some n) e = cc

pub some-told : (o : Option ℕ) (k : ℕ) → Some k ≡ capped o → (n : ℕ) × (o ≡ some n) × (k ≡ min n most)
some-told none k e = cc
some-told (some n) k e = (n, refl, cc)

-- in the range, or not
kept-signed : (m : Bool) (n i : ℕ) → leb n 9223372036854775807 ≡ true → with_sign m (kept i (pos n)) ≡ exact (by_sign m n)
kept-signed true n i e = rw e refl
kept-signed false n i e = rw e refl

lost-signed : (m : Bool) (n i : ℕ) → leb n 9223372036854775807 ≡ false → with_sign m (kept i (pos n)) ≡ beyond i
lost-signed true n i e = rw e refl
lost-signed false n i e = rw e refl

signed-in_range : (m : Bool) (n : ℕ) → leb n 9223372036854775807 ≡ true → in_range (by_sign m n) ≡ true
signed-in_range true n e = negated-in_range n e
signed-in_range false n e = e

module _ (text : List ℕ) (i : ℕ) (m : Bool) (n k : ℕ) (c : k ≡ min n most) where
  pub literal-beyond : (p : ℕ) → p ≡ start_of text i → most ≤ k → Held text (with_sign m (kept i (pos n))) (Err p)
  literal-beyond p e h = subst (λ (o : Outcome). Held text o (Err p)) (sym (lost-signed m n i (lt-leb n 9223372036854775807 (omega (arith, c, h))))) e

  pub literal-kept : k < most → Held text (with_sign m (kept i (pos n))) (Ok (record { negative = m; size = k }))
  literal-kept h =
      let low = le-leb n 9223372036854775807 (omega (arith, c, h)) in
      let same : k ≡ n = omega (arith, c, h) in
      subst (λ (o : Outcome). Held text o (Ok (record { negative = m; size = k }))) (sym (kept-signed m n i low)) (ap (by_sign m) same, signed-in_range m n low)
