-- What a scanner looks at: the byte at its position and the two after it; past the end 0. Assumes nothing.
use Rattle.std.specs.Prelude.{ℕ, ◌+◌, List}
use Rattle.aadl.specs.Bytes.{peek}
use Rattle.cursor.specs.declared.Window.{Window}

abbrev pub window_of : List ℕ → ℕ → Window
window_of bs i = record { first = peek bs i; second = peek bs (i + 1); third = peek bs (i + 2) }
