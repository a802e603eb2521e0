-- What the inner scanners give. Assumes nothing.
use Rattle.std.specs.Prelude.{ℕ, cond, List, eqb, Option, Some, None}
use Rattle.aadl.specs.declared.Token.{Token}
use Rattle.aadl.specs.Tokens.{token, marks, longest_mark}

-- a mark of one byte by its kind, which is 0 for none
abbrev pub single : ℕ → Option Token
single k = cond (eqb k 0) None (Some (token k 1))

-- the longest mark that stands; of none aadl gives the length 0
abbrev pub longest : List ℕ → Option Token
longest bs =
    let best = longest_mark 5 marks bs in
    cond (eqb best.len 0) None (Some best)
