-- Laws of runs: a run goes on past a byte of its class, stops at another, and ends with the text; each of its bytes is of its class; a run
-- from a place on is one of the bytes from there on. Each is what the definition says of the bytes from the place on. Assumes nothing.
use Prim.Native.Nat.{ℕ, zero, suc, ◌+◌, ◌-◌, ◌≤◌, ◌<◌}
use native.Mathlib.Nat.{not-suc-le-zero, le_of_suc-le-suc}
use native.Mathlib.Numerals.{add-one}
use native.Mathlib.Omega.{arith}
use mathlib.Core.Path.{◌≡◌, refl, sym, ap, ◌∙◌}
use mathlib.Core.Bool.{Bool, true, false}
use mathlib.Core.List.{List, [], ◌∷◌}
use lib.ListN.{length, take, drop, drop_of_length-le}
use lib.Seq.{drop-cons, get_or-drop}
use Rattle.aadl.specs.Bytes.{peek, run, run_end}
use Rattle.aadl.proofs.Bools.{cond_has}

module _ (p : ℕ → Bool) (bs : List ℕ) (i : ℕ) where
  pub run_more : i < length bs → p (peek bs i) ≡ true → run_end p bs i ≡ run_end p bs (i + 1)
  unfolding run run_end
  run_more h e = rw (drop-cons bs i 0 h, e, add-one) (omega arith)

  pub run-stop : i < length bs → p (peek bs i) ≡ false → run_end p bs i ≡ i
  unfolding run run_end
  run-stop h e = rw (drop-cons bs i 0 h, e) (omega arith)

  pub run-over : length bs ≤ i → run_end p bs i ≡ i
  unfolding run run_end
  run-over h = rw (drop_of_length-le bs h) (omega arith)

  pub run-end_from : i ≤ run_end p bs i
  unfolding run_end
  run-end_from = omega arith

  pub run-rest : run_end p bs i - i ≡ run p (drop i bs)
  unfolding run_end
  run-rest = omega arith

-- what is taken by a run is all of its class
pub run-taken : (p : ℕ → Bool) (bs : List ℕ) → run p (take (run p bs) bs) ≡ run p bs
unfolding run
run-taken p [] = refl
run-taken p (b ∷ bs) = cond_has (λ (n : ℕ). run p (take n (b ∷ bs)) ≡ n) (p b) _ _ (λ e. rw e (ap suc (run-taken p bs))) (λ e. refl)

-- each byte of a run is of its class
pub run-byte : (p : ℕ → Bool) (bs : List ℕ) (k : ℕ) → k < run p bs → p (peek bs k) ≡ true
unfolding run
run-byte p [] k = λ h. absurd (not-suc-le-zero h)
run-byte p (b ∷ bs) zero = cond_has (λ (n : ℕ). zero < n → p b ≡ true) (p b) _ _ (λ e h. e) (λ e h. absurd (not-suc-le-zero h))
run-byte p (b ∷ bs) (suc k) =
    cond_has (λ (n : ℕ). suc k < n → p (peek bs k) ≡ true) (p b) _ _ (λ e h. run-byte p bs k (le_of_suc-le-suc h)) (λ e h. absurd (not-suc-le-zero h))

pub run-end_byte : (p : ℕ → Bool) (bs : List ℕ) (i k : ℕ) → i ≤ k → k < run_end p bs i → p (peek bs k) ≡ true
unfolding run_end
run-end_byte p bs i k h l =
    let place : i + (k - i) ≡ k = omega (arith, h) in
    ap p (ap (peek bs) (sym place) ∙ sym (get_or-drop i bs (k - i) 0)) ∙ run-byte p (drop i bs) (k - i) (omega (arith, h, l))

pub run_none : (p : ℕ → Bool) (bs : List ℕ) → p (peek bs 0) ≡ false → run p bs ≡ 0
unfolding run
run_none p [] e = refl
run_none p (b ∷ bs) e = rw e refl
