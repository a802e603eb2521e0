-- A slice that is lent to a function, as the function's contract sees it: of a shared one what it holds, of one that the function may write to
-- what it holds at entry and what it holds at exit. Assumes nothing.
use Rattle.std.specs.Prelude.{ℕ, List}
use Rattle.std.specs.Borrow.{Bor, MutBor}
use denote.Triple.Both.{Both}

abbrev pub Slice : Type 0
Slice = Both (Bor (List ℕ)) (Bor (List ℕ))

abbrev pub held : Slice → List ℕ
held s = s.entry.now

abbrev pub MutSlice : Type 0
MutSlice = Both (MutBor (List ℕ)) (MutBor (List ℕ))

abbrev pub before : MutSlice → List ℕ
before s = s.entry.now

abbrev pub after : MutSlice → List ℕ
after s = s.exit.now
