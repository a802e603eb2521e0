-- What the answer of a read or a write means. Assumes nothing.
use Rattle.std.specs.Prelude.{ℕ, ◌+◌, ◌≤◌, zero, suc, Option, Some, None, Result, Ok, Err, IfOk, IfSome}
use Rattle.std.specs.Result.{MatchResult}
use Rattle.std.specs.declared.io.Error.{Error}
use Rattle.std.specs.declared.io.ErrorKind.{ErrorKind}
use Rattle.std.specs.declared.io.ErrorKind.TheVariants.{Interrupted}
use Rattle.std.specs.IoError.{error_kind}
use Rattle.streams.specs.declared.Cut.{Cut}
use Rattle.streams.specs.declared.Progress.{Progress}
use Rattle.streams.specs.declared.Progress.TheVariants.{On, Ended}

-- A call that failed is made again where a signal interrupted it, and only there; it then moved no byte.
unfoldable pub failure_of : ErrorKind → Error → Result (Option ℕ) Error
failure_of Interrupted e = Ok (Some 0)
failure_of _ e = Err e

-- 0 is the input's end, any other number tells how many bytes were moved; an error is a failure, unless it is that a signal interrupted the call.
unfoldable pub outcome_of : (got : Result ℕ Error) → Result (Option ℕ) Error
outcome_of (Ok zero) = Ok None
outcome_of (Ok (suc n)) = Ok (Some (suc n))
outcome_of (Err e) = failure_of (error_kind e) e

-- How a loop of calls stands behind one, count bytes being moved before it: how many are moved now, and whether another call is made, or no byte was left to
-- move; or it failed. That no byte was left may be fatal, for a reason: a write has then failed, a read has come to the input's end.
unfoldable pub behind : (count : ℕ) → Result (Option ℕ) Error → (fatal : Option Error) → Result Progress Cut
behind count (Ok (Some n)) fatal = Ok (On (count + n))
behind count (Ok None) None = Ok (Ended count)
behind count (Ok None) (Some why) = Err (record { count = count; why = why })
behind count (Err e) fatal = Err (record { count = count; why = e })

-- P of the number of bytes that a call moved, if it moved any
abbrev pub Moves : Result (Option ℕ) Error → (P : ℕ → Type 0) → Type 0
Moves o P = IfOk o (λ moved. IfSome moved P)

-- the bytes that are moved
abbrev pub moved : Progress → ℕ
moved (On n) = n
moved (Ended n) = n

-- a loop of calls moved so many bytes at the most
abbrev pub AtMost : ℕ → Result Progress Cut → Type 0
AtMost m r = MatchResult r (λ p. moved p ≤ m) (λ cut. cut.count ≤ m)
