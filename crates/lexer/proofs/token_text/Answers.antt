-- Three cases: no such word, a sum past the text's end, and a part of the text (aadl's TokenText). Assumes nothing.
use Prim.Native.Nat.{ℕ, ◌+◌, ◌-◌, ◌≤◌, ◌<◌, min}
use mathlib.Core.Path.{◌≡◌, sym, ap, ap₂, ◌∙◌}
use mathlib.Core.Logic.{⊎_elim}
use mathlib.Core.List.{List, []}
use native.Mathlib.Omega.{arith}
use Rattle.std.proofs.lemmas.Bool.{cases_lt}
use lib.ListN.{length, drop, take, get_or}
use Rattle.aadl.specs.Tokens.{total, token_text, length_in}
use Rattle.aadl.proofs.TokenText.{text-none, text-past, text_at}
use borrow.Author.Rules.{rules}
use Rattle.lexer.proofs.token_text.Goals as goal

pub returns-in_default : goal.returns-in_default
returns-in_default c =
    let a = c.args in
    let none : length a.words.now ≤ a.number = search rules in
    sym (text-none a.src.now a.words.now a.number none)

-- where the sum before the token is cut at a place past the text's end, so is the part
text-is : (xs ws : List ℕ) (i from end : ℕ) → i < length ws → from ≡ min (total (take i ws)) (length xs + 1) → end ≡ from + length_in (get_or ws i 0) → (r : List ℕ) →
    (end ≤ length xs → r ≡ take (end - from) (drop from xs)) → (length xs < end → r ≡ []) → r ≡ token_text xs ws i
text-is xs ws i from end h f e r inside past = ⊎_elim beyond within (cases_lt (length xs) end)
  where
    within : end ≤ length xs → r ≡ token_text xs ws i
    within l =
        let p : from ≡ total (take i ws) = omega (arith, f, e, l) in
        let q : end - from ≡ length_in (get_or ws i 0) = omega (arith, e) in
        inside l ∙ ap₂ (λ (n k : ℕ). take n (drop k xs)) q p ∙ sym (text_at xs ws i h (omega (arith, p, e, l)))

    beyond : length xs < end → r ≡ token_text xs ws i
    beyond l = past l ∙ sym (text-past xs ws i h (omega (arith, f, e, l)))

pub returns : goal.returns
returns c =
    let a = c.args in
    let some : a.number < length a.words.now = search rules in
    let word : c.in-Some.word.now ≡ get_or a.words.now a.number 0 = search rules in
    let long : c.length_in.result ≡ length_in (get_or a.words.now a.number 0) = c.length_in.ensures ∙ ap length_in word in
    text-is a.src.now a.words.now a.number c.token_start-from.result c.saturating_add-end.result some c.token_start-from.ensures
    (omega (arith, c.saturating_add-end.ensures, long, c.token_start-from.ensures, c.well_formed)) c.part.result.now c.part.ensures.inside c.part.ensures.past
