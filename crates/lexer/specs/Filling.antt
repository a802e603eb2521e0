-- How far the tokens of a text go into lent words. Assumes nothing.
use Rattle.std.specs.Prelude.{ℕ, ◌-◌, cond, List, [], ◌∷◌, length, get_or, take, eqb, ltb, Option, Some, None, Result, Ok, Err}
use Rattle.aadl.specs.declared.Token.{Token}
use Rattle.aadl.specs.Tokens.{token, tokens, lengths}
use Rattle.lexer.specs.declared.Filled.{Filled}

-- Words written over the first words of a buffer, as many as it has.
abbrev pub write : (words old : List ℕ) → List ℕ
write [] old = old
write (w ∷ ws) [] = []
write (w ∷ ws) (o ∷ old) = w ∷ write ws old

-- The last of some tokens.
abbrev pub last_of : List Token → Option Token
last_of ts = cond (eqb (length ts) 0) None (Some (get_or ts (length ts - 1) (token 0 0)))

-- How many tokens there are, and the last one; or, where a token is left without a word, its place.
unfoldable pub filled_of : (text : List ℕ) → (lent : ℕ) → Result Filled ℕ
filled_of text m =
    let ts = tokens text in
    cond (ltb m (length ts)) (Err (lengths (take m ts))) (Ok (record { count = length ts; last = last_of ts }))
