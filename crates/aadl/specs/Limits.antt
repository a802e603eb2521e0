-- The limits that 01 adds to the Rust: every definition and theorem takes them, and every function but the public calls. Assumes nothing.
use Rattle.std.specs.Prelude.{ℕ, ◌≤◌}
pub use Rattle.aadl.specs.declared.Limits.{Limits}

-- "At most 32,768 bytes of UTF-8"; refused is "the 65th open one".
abbrev pub base : Limits
base = record { bytes = 32768; openers = 64 }

-- Limits that a call can keep: a token's length fits its word.
abbrev pub Allowed : Limits → Type 0
Allowed limits = limits.bytes ≤ base.bytes

-- 01: "Of the lent event words only the first 32,768 are used"; 02, Seven: "the 32,768 counts events."
abbrev pub most_events : ℕ
most_events = 32768
