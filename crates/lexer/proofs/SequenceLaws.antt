-- Reading a text's UTF-8 sequences one after another: where the reader stands, what remains gives the same first ill-formed place.
-- Assumes nothing.
use Prim.Native.Nat.{ℕ, ◌+◌, ◌≤◌, ◌<◌}
use native.Mathlib.Omega.{arith}
use mathlib.Core.Path.{◌≡◌, sym, ap, ◌∙◌}
use mathlib.Core.List.{List}
use lib.ListN.{length, drop, length-drop}
use lib.Seq.{drop-drop}
use Rattle.aadl.specs.Utf8.{sequence, ill_formed}
use Rattle.aadl.proofs.Utf8Laws.{sequence-within, ill_formed-stops, ill_formed-goes_on}

module _ (s : List ℕ) (at n : ℕ) (h : at < length s) (e : n ≡ sequence (drop at s)) where
  pub ill_here : n ≡ 0 → at + ill_formed (drop at s) ≡ at
  ill_here z = omega (arith, ill_formed-stops (drop at s) (sym e ∙ z))

  pub sequence-in : at + n ≤ length s
  sequence-in = omega (arith, length-drop at s, sequence-within (drop at s))

  pub ill_next : (n ≡ 0 → ⊥) → at + ill_formed (drop at s) ≡ at + n + ill_formed (drop (at + n) s)
  ill_next z =
      let m = ill_formed-goes_on (drop at s) (λ q. z (e ∙ q)) in
      let k : drop (sequence (drop at s)) (drop at s) ≡ drop (at + n) s = drop-drop (sequence (drop at s)) at s ∙ ap (λ (i : ℕ). drop (at + i) s) (sym e) in
      omega (arith, m, ap ill_formed k)
