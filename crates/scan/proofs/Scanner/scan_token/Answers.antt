-- The first byte says which scanner the token is for (`begins`); a mark that no other begins with is told by it alone. Assumes nothing.
use Prim.Native.Nat.{ℕ}
use mathlib.Core.Path.{◌≡◌, refl, sym, ap, ◌∙◌}
use native.Mathlib.Omega.{arith}
use borrow.Author.Rules.{rules}
use Rattle.aadl.specs.Tokens.{number_lit}
use Rattle.scan.specs.Places.{Begins}
use Rattle.scan.proofs.FirstByte.{digits-token}
use Rattle.scan.proofs.Marks.{lone-token}
use Rattle.scan.proofs.Scanner.scan_token.Goals as goal

pub returns-then-k : goal.returns-then-k
returns-then-k c =
    let begins : (k : ℕ) → c.lead-k.result ≡ k → let a = c.args in Begins a.self.text.now a.at k = λ k e. let s = c.before in
    record { inside = omega (arith, s.requires); byte = search rules; leads = sym c.lead-k.ensures ∙ e } in
    let q = c.before in
    c.token.ensures ∙ lone-token _ _ _ (begins _ refl) c.if-k.true

-- of the number its token keeps kind and length
pub returns-then-k-eq-INTEGER_LIT : goal.returns-then-k-eq-INTEGER_LIT
returns-then-k-eq-INTEGER_LIT c =
    let begins : (k : ℕ) → c.lead-k.result ≡ k → let a = c.args in Begins a.self.text.now a.at k = λ k e. let s = c.before in
    record { inside = omega (arith, s.requires); byte = search rules; leads = sym c.lead-k.ensures ∙ e } in
    let q4 = c.before in
    let a = q4.args in
    c.token-then-k-eq-INTEGER_LIT.ensures ∙ ap number_lit c.scan_number-n.ensures ∙ digits-token a.self.text.now a.at (begins _ q4.if-k-eq-INTEGER_LIT.true)
