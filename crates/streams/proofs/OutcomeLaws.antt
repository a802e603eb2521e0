-- The kinds of a failure, and what is moved in each case of a call's answer. Assumes nothing.
use Rattle.std.proofs.Common.{◌+◌, ◌≡◌, ◌≢◌, ◌≤◌, ℕ, zero, suc, List, length, refl, sym, subst, arith}
use Rattle.std.specs.Prelude.{Option, Some, None, Result, Ok, Err, IfOk}
use Rattle.std.specs.Io.{ReadsAtMost, WritesAtMost}
use Rattle.std.specs.IoError.{error_kind}
use Rattle.std.specs.declared.io.Error.{Error}
use Rattle.std.specs.declared.io.ErrorKind.{ErrorKind}
use Rattle.std.specs.declared.io.ErrorKind.TheVariants.{Interrupted}
use Rattle.streams.specs.declared.Cut.{Cut}
use Rattle.streams.specs.declared.Progress.{Progress}
use Rattle.streams.specs.Outcomes.{failure_of, outcome_of, behind, Moves, AtMost}

pub again : (k : ErrorKind) (e : Error) → k ≡ Interrupted → failure_of k e ≡ Ok (Some 0)
unfolding failure_of
again k e q = rw q refl

pub other_failed : (k : ErrorKind) (e : Error) → k ≢ Interrupted → failure_of k e ≡ Err e
unfolding failure_of
other_failed Interrupted e ne = absurd (ne refl)
other_failed _ e ne = refl

moves_none : (m : ℕ) (k : ErrorKind) (e : Error) → Moves (failure_of k e) (λ n. n ≤ m)
unfolding failure_of
moves_none m Interrupted e = omega arith
moves_none m _ e = tt

-- no call moves more bytes than it was given
moves_at_most : (m : ℕ) (got : Result ℕ Error) → IfOk got (λ n. n ≤ m) → Moves (outcome_of got) (λ n. n ≤ m)
unfolding outcome_of
moves_at_most m (Ok zero) h = tt
moves_at_most m (Ok (suc n)) h = h
moves_at_most m (Err e) h = moves_none m (error_kind e) e

moves_by : (o got : Result (Option ℕ) Error) (P : ℕ → Type 0) → o ≡ got → Moves got P → Moves o P
moves_by o got P q h = subst (λ (r : Result (Option ℕ) Error). Moves r P) (sym q) h

pub reads_at_most : (m : ℕ) (got : Result ℕ Error) (o : Result (Option ℕ) Error) (xs : List ℕ) → o ≡ outcome_of got → ReadsAtMost got xs → length xs ≡ m →
    Moves o (λ n. n ≤ m)
reads_at_most m got o xs q h e = moves_by o (outcome_of got) (λ n. n ≤ m) q (moves_at_most m got (fits got h))
  where
    fits : (got : Result ℕ Error) → ReadsAtMost got xs → IfOk got (λ n. n ≤ m)
    fits (Ok n) h = omega (arith, h.0)
    fits (Err e) h = tt

pub writes_at_most : (m : ℕ) (got : Result ℕ Error) (o : Result (Option ℕ) Error) (xs : List ℕ) → o ≡ outcome_of got → WritesAtMost got xs → length xs ≡ m →
    Moves o (λ n. n ≤ m)
writes_at_most m got o xs q h e =
    moves_by o (outcome_of got) (λ n. n ≤ m) q (moves_at_most m got (subst (λ (k : ℕ). IfOk got (λ n. n ≤ k)) e h))

-- what a call moves behind the bytes that were moved before it
pub moves_behind : (o : Result (Option ℕ) Error) (count m k : ℕ) → count + m ≤ k → Moves o (λ n. n ≤ m) → Moves o (λ n. count + n ≤ k)
moves_behind (Ok (Some n)) count m k le h = omega (arith, le, h)
moves_behind (Ok None) count m k le h = tt
moves_behind (Err e) count m k le h = tt

goes_at_most : (k count : ℕ) (o : Result (Option ℕ) Error) (fatal : Option Error) → count ≤ k → Moves o (λ n. count + n ≤ k) → AtMost k (behind count o fatal)
unfolding behind
goes_at_most k count (Ok (Some n)) fatal le h = h
goes_at_most k count (Ok None) None le h = le
goes_at_most k count (Ok None) (Some why) le h = le
goes_at_most k count (Err e) fatal le h = le

-- a loop that has moved so many bytes at the most has moved no more behind a call
pub behind_at_most : (k count : ℕ) (o : Result (Option ℕ) Error) (fatal : Option Error) (r : Result Progress Cut) → count ≤ k → Moves o (λ n. count + n ≤ k) →
    r ≡ behind count o fatal → AtMost k r
behind_at_most k count o fatal r le h q = subst (AtMost k) (sym q) (goes_at_most k count o fatal le h)
