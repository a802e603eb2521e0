-- What lent bytes hold after some were written over them. Assumes nothing.
use Rattle.std.specs.Prelude.{ℕ, ◌+◌, min, ◌≡◌, List, length}
use Rattle.std.specs.Borrow.{MutBor}
use Rattle.std.proofs.lemmas.List.Edits.{sets}
use Rattle.writing.specs.declared.Writer.{Writer}

-- Bytes written over a buffer from a place on, and where they end. What has no room is left out: `sets` stores nothing behind the last place, and the end
-- is the buffer's at the most.
pub record Wrote (old : List ℕ) (at : ℕ) (bs new : List ℕ) (end : ℕ) : Type 0 where
  pub ends : end ≡ min (at + length bs) (length old)
  pub holds : new ≡ sets old at bs

-- A writer of lent bytes, from a place on, or from their end if that comes before.
pub record Begins (out : MutBor (List ℕ)) (at : ℕ) (w : Writer) : Type 0 where
  pub same : w.out.ghost_name ≡ out.ghost_name
  pub begins : w.out.now ≡ out.now
  pub stands : w.at ≡ min at (length out.now)

-- Bytes written by a writer, which keeps to the bytes that it was lent.
pub record Writes (old : Writer) (bs : List ℕ) (new : Writer) : Type 0 where
  pub same : new.out.ghost_name ≡ old.out.ghost_name
  pub wrote : Wrote old.out.now old.at bs new.out.now new.at
