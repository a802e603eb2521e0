-- Words: one that ends where its run does, and the bound before which each word ends. Assumes nothing.
use Prim.Native.Nat.{ℕ, zero, suc, ◌+◌, ◌-◌, ◌≤◌, ◌<◌}
use native.Mathlib.Omega.{arith}
use mathlib.Core.Path.{◌≡◌, refl, sym, ap, ◌∙◌}
use mathlib.Core.Bool.{Bool, true, false, cond}
use mathlib.Core.List.{List}
use mathlib.Core.Logic.{⊎_elim}
use native.Mathlib.Nat.{eq-or-lt_of_le, le_of_suc-le-suc}
use Rattle.std.specs.Prelude.{Option, Some, None, MatchOption, unwrap_or}
use lib.ListN.{length, get_or, take, drop}
use Rattle.predictive.proofs.Tests.{never}
use Rattle.aadl.specs.Kinds.{#◌, IDENT}
use Rattle.aadl.specs.Words.{kind_of_word}
use Rattle.aadl.specs.Bytes.{is_ident_continue, run, run_end}
use Rattle.aadl.specs.Tokens.{token, word_of, token_of}
use Rattle.aadl.proofs.Bools.{cond_has}
use Rattle.aadl.proofs.RunLaws.{run_more, run-stop, run-end_from}
use Rattle.scan.specs.Places.{Begins, last_gap, Bounds}
use Rattle.scan.proofs.FirstByte.{word-run, word-token}

pub word-is : (s : List ℕ) (at e k : ℕ) → Begins s at (# IDENT) → e ≡ run_end is_ident_continue s (at + 1) → k ≡ kind_of_word (take (e - at) (drop at s)) →
    token k (e - at) ≡ token_of (drop at s)
unfolding word_of
word-is s at e k h q r =
    let n : e - at ≡ run is_ident_continue (drop at s) = ap (λ (x : ℕ). x - at) q ∙ word-run s at _ h refl in
    (λ j. token ((r ∙ ap (λ (m : ℕ). kind_of_word (take m (drop at s))) n) j) (n j)) ∙ word-token s at h

-- THE BOUND ------------------------------------------------------------------------------------------------------------

pub gap_bounds : (s : List ℕ) (n : ℕ) → n ≤ length s → Bounds s (last_gap s n)
unfolding last_gap
gap_bounds s zero h = record { inside = λ p. absurd (omega (arith, p)); ends = λ p. absurd (omega (arith, p)) }
gap_bounds s (suc n) h =
    cond_has (Bounds s) (is_ident_continue (get_or s n 0)) _ _ (λ e. gap_bounds s n (omega arith)) (λ e. record { inside = λ p. omega arith; ends = λ p. e })

abbrev word_at : List ℕ → ℕ → Bool
word_at s k = is_ident_continue (get_or s k 0)

no_gap : (s : List ℕ) (n : ℕ) → ((k : ℕ) → k < n → word_at s k ≡ true) → last_gap s n ≡ 0
unfolding last_gap
no_gap s zero h = refl
no_gap s (suc n) h = rw (h n (omega arith)) (no_gap s n (λ k l. h k (omega arith)))

gap_at : (s : List ℕ) (n i : ℕ) → i < n → word_at s i ≡ false → ((k : ℕ) → i < k → k < n → word_at s k ≡ true) → last_gap s n ≡ i
unfolding last_gap
gap_at s zero i l e h = absurd (omega arith)
gap_at s (suc n) i l e h =
    ⊎_elim (λ q. ap (λ (t : Bool). cond t (last_gap s n) n) (ap (word_at s) (sym q) ∙ e) ∙ sym q) (λ m. rw (h n m (omega arith)) (gap_at s n i m e (λ k p q. h k p (omega arith))))
    (eq-or-lt_of_le (le_of_suc-le-suc l))

-- the last one that is found, or 0
pub found-gap : (s : List ℕ) (r : Option ℕ)
    → MatchOption r ((k : ℕ) → k < length s → word_at s k ≡ true) (λ i. (i < length s) × (word_at s i ≡ false) × ((k : ℕ) → i < k → k < length s → word_at s k ≡ true))
    → unwrap_or r 0 ≡ last_gap s (length s)
found-gap s None h = sym (no_gap s (length s) h)
found-gap s (Some i) h = sym (gap_at s (length s) i h.0 h.1 h.2)

-- WHERE A WORD GOES ON -------------------------------------------------------------------------------------------------

-- The word's end is looked for at a place that is not behind the bound.
pub record Going (s : List ℕ) (from bound i : ℕ) : Type 0 where
  pub bounds : Bounds s bound
  pub some : 1 ≤ bound
  pub before : i ≤ bound
  pub same : run_end is_ident_continue s i ≡ run_end is_ident_continue s from

module _ (s : List ℕ) (from bound i : ℕ) (g : Going s from bound i) where
  pub going-inside : i < length s
  going-inside = omega (arith, g.bounds.inside g.some, g.before)

  -- at a byte of a word it goes on, since none stands at the bound
  pub going_on : (j : ℕ) → j ≡ i + 1 → is_ident_continue (get_or s i 0) ≡ true → Going s from bound j
  going_on j n e =
      let l : i < bound = ⊎_elim (λ q. never (sym (g.bounds.ends g.some) ∙ ap (λ (j : ℕ). is_ident_continue (get_or s j 0)) (sym q) ∙ e)) (λ l. l) (eq-or-lt_of_le g.before) in
      record { bounds = g.bounds; some = g.some; before = omega arith; same = ap (run_end is_ident_continue s) n ∙ sym (run_more is_ident_continue s i going-inside e) ∙ g.same }

  pub going-stops : is_ident_continue (get_or s i 0) ≡ false → (i ≡ run_end is_ident_continue s from) × (i ≤ length s) × (from ≤ i)
  going-stops e =
      let end = sym (run-stop is_ident_continue s i going-inside e) ∙ g.same in
      (end, omega (arith, going-inside), omega (arith, end, run-end_from is_ident_continue s from))
