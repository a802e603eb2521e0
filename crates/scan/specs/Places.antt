-- What the scanners ask for. Assumes nothing.
use Rattle.std.specs.Prelude.{ℕ, zero, suc, ◌+◌, ◌≤◌, ◌<◌, ◌≡◌, true, false, cond, slice_index, List, length, get_or, eqb}
use Rattle.aadl.specs.Kinds.{#◌, WHITESPACE, IDENT, INTEGER_LIT, STRING_LIT}
use Rattle.aadl.specs.Bytes.{is_ident_continue}
use Rattle.classes.specs.Classes.{lead_of}

-- At a place in the text stands a byte that says k of the token that begins with it.
pub record Begins (s : List ℕ) (at k : ℕ) : Type 0 where
  pub inside : at < length s
  pub byte : get_or s at 0 < 256
  pub leads : lead_of (get_or s at 0) ≡ k

-- k is a mark's or nothing's.
pub record Other (k : ℕ) : Type 0 where
  pub no_space : eqb k (# WHITESPACE) ≡ false
  pub no_name : eqb k (# IDENT) ≡ false
  pub no_number : eqb k (# INTEGER_LIT) ≡ false
  pub no_string : eqb k (# STRING_LIT) ≡ false

-- `--` stands at a place.
pub record Dashes (s : List ℕ) (at : ℕ) : Type 0 where
  pub inside : at + 2 ≤ length s
  pub first : get_or s at 0 ≡ 45
  pub second : get_or s (at + 1) 0 ≡ 45

-- Every byte belongs to a word; ..
abbrev pub AllWord : List ℕ → Type 0
AllWord s = (k : ℕ) → k < length s → is_ident_continue (slice_index s k) ≡ true

-- .. or that at place i is the last that does not.
abbrev pub LastOutside : List ℕ → (i : ℕ) → Type 0
LastOutside s i =
    (i < length s) × (is_ident_continue (slice_index s i) ≡ false)
    × ((k : ℕ) → i < k → k < length s → is_ident_continue (slice_index s k) ≡ true)

-- The last of the first n places whose byte belongs to no word, or 0.
unfoldable pub last_gap : List ℕ → (n : ℕ) → ℕ
last_gap s zero = 0
last_gap s (suc n) =
    let before = last_gap s n in
    cond (is_ident_continue (get_or s n 0)) before n

-- A place with a byte that belongs to no word, unless the place is 0.
pub record Bounds (s : List ℕ) (bound : ℕ) : Type 0 where
  pub inside : 1 ≤ bound → bound < length s
  pub ends : 1 ≤ bound → is_ident_continue (get_or s bound 0) ≡ false
