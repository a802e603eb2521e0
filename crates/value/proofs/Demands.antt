-- The demands on the value call, as theorems about any limits, text and number of an association, any lent words old and last, and the answer
-- a and the words ts and es that the call then gives: `ValueCalled` is what the call's contract says of them, demands 2 and 3 among it. What
-- they rest on is aadl's. Assumes nothing.
use Prim.Native.Nat.{ℕ}
use mathlib.Core.Path.{◌≡◌}
use mathlib.Core.List.{List, [], ◌∷◌}
use Rattle.aadl.specs.declared.ValueAnswer.{ValueAnswer}
use Rattle.aadl.specs.declared.Limits.{Limits}
use Rattle.aadl.specs.Limits.{Allowed}
use Rattle.aadl.specs.Calls.{Settled}
use Rattle.aadl.specs.ValueCall.{value_call}
use Rattle.aadl.specs.Promises.{ValueCalled, ReadWhole}
use Rattle.aadl.proofs.CallsRead.{section-read}
use Rattle.aadl.proofs.ValueCalls.{value-settled, value-section's}

module _ {limits : Limits} {text old last : List ℕ} {k : ℕ} {a : ValueAnswer} {ts es : List ℕ} (c : ValueCalled limits text old last k a ts es) where
  -- Demand 1. Every answer is settled: counts and a value with both buffers filled, or a refusal in its stated case only, with its place,
  -- zero counts, the value 0 and zero buffers.
  pub every-value_is_settled : Settled (value_call limits text old last k) a (ts ∷ es ∷ [])
  every-value_is_settled = value-settled c

  -- What the section call tells where it refuses nothing, the value call tells too.
  pub every-value_is_read : Allowed limits → a.answer.number ≡ 0 → ReadWhole text a.answer ts es
  every-value_is_read h z = section-read (value-section's c z) z h
