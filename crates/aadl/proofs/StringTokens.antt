-- The strings of a text that passes check 8 (`strings-closed`): the text of each, read by itself, is one string and closed. By the law of locality,
-- nothing being behind it. Assumes nothing.
use Prim.Native.Nat.{ℕ, ◌≤◌, ◌<◌}
use mathlib.Core.Path.{◌≡◌, sym, ap, ◌∙◌}
use mathlib.Core.Bool.{true}
use mathlib.Core.List.{List, [], ◌++◌, append-nil}
use lib.ListN.{length, take, drop, take-append-drop}
use lib.Seq.{length-take-le}
use Rattle.aadl.specs.declared.Token.{Token}
use Rattle.aadl.specs.Kinds.{STRING_LIT, #◌}
use Rattle.aadl.specs.Tokens.{token, token_of, tokens, unclosed, from_token, StringsClosed}
use Rattle.aadl.specs.Symbols.{is_trivia}
use Rattle.aadl.specs.Answers.{token_words}
use Rattle.aadl.proofs.Lists.{each_at}
use Rattle.aadl.proofs.TokenBounds.{token-within}
use Rattle.aadl.proofs.Unclosed.{all_closed}
use Rattle.aadl.proofs.Separators.{nothing-separates}
use Rattle.aadl.proofs.Locality.{token-again}
use Rattle.aadl.proofs.TokenText.{token-at}

-- some bytes that begin with a string, closed: its text is such a string too
string-alone : (bs : List ℕ) → 1 ≤ length bs → (token_of bs).kind ≡ # STRING_LIT → (token_of bs).closed ≡ true →
    let w = take (token_of bs).len bs in token_of w ≡ token (# STRING_LIT) (length w)
string-alone bs some kind closed =
    let w = take (token_of bs).len bs in
    let r = drop (token_of bs).len bs in
    let joined : w ++ r ≡ bs = take-append-drop (token_of bs).len bs in
    let same : token_of (w ++ r) ≡ token_of bs = ap token_of joined in
    let long : length w ≡ (token_of bs).len = length-take-le (token_of bs).len bs (token-within bs some).1 in
    ap token_of (sym (append-nil w))
    ∙ token-again w r [] (ap (λ (t : Token). t.len) same ∙ sym long) (ap (λ (t : Token). is_trivia t.kind) same ∙ ap is_trivia kind)
    (λ e. ap (λ (t : Token). t.closed) same ∙ closed) nothing-separates
    ∙ same ∙ (λ i. record { kind = kind i; len = sym long i; closed = closed i })

pub strings-closed : (text : List ℕ) → unclosed (tokens text) ≡ length text → (rest : List ℕ) → length text < 65536 →
    StringsClosed text (length (tokens text)) (token_words text ++ rest)
strings-closed text u rest s i h k =
    let t = token-at text rest i s h in
    let closed = each_at (λ (x : Token). x.closed ≡ true) (tokens text) i (token 0 0) h (all_closed text u) in
    let alone = string-alone (from_token text (token_words text ++ rest) i) t.some (sym t.kind ∙ k) (sym (ap (λ (x : Token). x.closed) t.token-is) ∙ closed) in
    rw t.text-is alone
