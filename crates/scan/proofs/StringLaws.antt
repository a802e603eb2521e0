-- A string byte by byte: from each place that is reached, its end and whether it is closed are the same (`Passed`). It goes on behind a byte that is
-- no quote and behind a doubled quote, and ends behind a quote that no other follows, or with the text. Assumes nothing.
use Prim.Native.Nat.{ℕ, suc, ◌+◌, ◌-◌, ◌≤◌, ◌<◌}
use native.Mathlib.Nat.{le_refl}
use native.Mathlib.Numerals.{add-one}
use native.Mathlib.Omega.{arith}
use mathlib.Core.Path.{◌≡◌, refl, sym, ap, ◌∙◌}
use mathlib.Core.Bool.{Bool, true, false}
use mathlib.Core.List.{List, [], ◌∷◌}
use lib.ListN.{length, get_or, drop, drop_of_length-le}
use lib.Seq.{drop-cons, drop-drop, get_or-drop}
use borrow.Author.Tests.{eqb-false, ne_eqb}
use Rattle.aadl.specs.declared.Quoted.{Quoted}
use Rattle.aadl.specs.Kinds.{#◌, STRING_LIT}
use Rattle.aadl.specs.Bytes.{peek}
use Rattle.aadl.specs.Tokens.{more_quoted, quoted, string_of, string_lit}

-- THE BYTE AT A PLACE --------------------------------------------------------------------------------------------------

-- nothing more belongs to the string
abbrev ended : (closed : Bool) → Quoted
ended c = record { len = 0; closed = c }

-- after a quote that no other follows nothing belongs to the string
closes : (bs : List ℕ) → (peek bs 0 ≡ 34 → ⊥) → quoted true bs ≡ ended true
unfolding quoted
closes [] n = refl
closes (c ∷ cs) n = rw (ne_eqb c 34 n) refl

-- after a quote that another follows that one belongs to the string, and what remains begins behind it
doubles : (bs : List ℕ) → peek bs 0 ≡ 34 → quoted true bs ≡ more_quoted (quoted false (drop 1 bs))
unfolding quoted
doubles [] q = absurd (eqb-false 0 34 refl q)
doubles (c ∷ cs) q = rw q refl

module _ (s : List ℕ) (i : ℕ) where
  next : peek (drop (i + 1) s) 0 ≡ get_or s (i + 1) 0
  next =
      let same : i + 1 + 0 ≡ i + 1 = omega arith in
      get_or-drop (i + 1) s 0 0 ∙ ap (λ (k : ℕ). get_or s k 0) same

  quote : i < length s → get_or s i 0 ≡ 34 → quoted false (drop i s) ≡ more_quoted (quoted true (drop (i + 1) s))
  unfolding quoted
  quote h q = rw (drop-cons s i 0 h, q, add-one i) refl

  plain : i < length s → (get_or s i 0 ≡ 34 → ⊥) → quoted false (drop i s) ≡ more_quoted (quoted false (drop (i + 1) s))
  unfolding quoted
  plain h n = rw (drop-cons s i 0 h, ne_eqb (get_or s i 0) 34 n, add-one i) refl

  closed : i < length s → get_or s i 0 ≡ 34 → (get_or s (i + 1) 0 ≡ 34 → ⊥) → quoted false (drop i s) ≡ more_quoted (ended true)
  closed h q n = quote h q ∙ ap more_quoted (closes (drop (i + 1) s) (λ p. n (sym next ∙ p)))

  doubled : i < length s → get_or s i 0 ≡ 34 → get_or s (i + 1) 0 ≡ 34 → quoted false (drop i s) ≡ more_quoted (more_quoted (quoted false (drop (i + 2) s)))
  doubled h q r =
      let same : i + 1 + 1 ≡ i + 2 = omega arith in
      let behind : drop 1 (drop (i + 1) s) ≡ drop (i + 2) s = drop-drop 1 (i + 1) s ∙ ap (λ (k : ℕ). drop k s) same in
      quote h q ∙ ap more_quoted (doubles (drop (i + 1) s) (next ∙ r) ∙ ap (λ (bs : List ℕ). more_quoted (quoted false bs)) behind)

  over : length s ≤ i → quoted false (drop i s) ≡ ended false
  unfolding quoted
  over h = rw (drop_of_length-le s h) refl

-- FROM PLACE TO PLACE --------------------------------------------------------------------------------------------------

-- The bytes from a place up to i were passed.
pub record Passed (s : List ℕ) (from i : ℕ) : Type 0 where
  pub on : from ≤ i
  pub end : i + (quoted false (drop i s)).len ≡ from + (quoted false (drop from s)).len
  pub same : (quoted false (drop i s)).closed ≡ (quoted false (drop from s)).closed

pub passed_none : (s : List ℕ) (from : ℕ) → Passed s from from
passed_none s from = record { on = le_refl from; end = refl; same = refl }

module _ {s : List ℕ} {from i : ℕ} (p : Passed s from i) where
  -- what belongs to the string from i on is r
  abbrev Rest : Quoted → Type 0
  Rest r = quoted false (drop i s) ≡ r

  goes_on : (j : ℕ) (r : Quoted) → i ≤ j → Rest r → i + r.len ≡ j + (quoted false (drop j s)).len → r.closed ≡ (quoted false (drop j s)).closed → Passed s from j
  goes_on j r h e l c =
      let n = ap (λ (q : Quoted). q.len) e in
      record { on = omega (arith, h, p.on); end = omega (arith, l, n, p.end); same = sym c ∙ sym (ap (λ (q : Quoted). q.closed) e) ∙ p.same }

  ends : (j : ℕ) (r : Quoted) → Rest r → i + r.len ≡ j → record { len = j - from; closed = r.closed } ≡ quoted false (drop from s)
  ends j r e l =
      let n : j - from ≡ (quoted false (drop from s)).len = omega (arith, l, p.end, ap (λ (q : Quoted). q.len) e) in
      let c = sym (ap (λ (q : Quoted). q.closed) e) ∙ p.same in
      λ k. record { len = n k; closed = c k }

  pub passed-plain : i < length s → (get_or s i 0 ≡ 34 → ⊥) → Passed s from (i + 1)
  passed-plain h n = goes_on (i + 1) (more_quoted (quoted false (drop (i + 1) s))) (omega arith) (plain s i h n) (omega arith) refl

  pub passed-doubled : i < length s → get_or s i 0 ≡ 34 → get_or s (i + 1) 0 ≡ 34 → Passed s from (i + 2)
  passed-doubled h q r = goes_on (i + 2) (more_quoted (more_quoted (quoted false (drop (i + 2) s)))) (omega arith) (doubled s i h q r) (omega arith) refl

  pub ends-closed : i < length s → get_or s i 0 ≡ 34 → (get_or s (i + 1) 0 ≡ 34 → ⊥) → record { len = i + 1 - from; closed = true } ≡ quoted false (drop from s)
  ends-closed h q n = ends (i + 1) (more_quoted (ended true)) (closed s i h q n) (omega arith)

  pub ends_open : length s ≤ i → record { len = i - from; closed = false } ≡ quoted false (drop from s)
  ends_open h = ends i (ended false) (over s i h) (omega arith)

-- THE WHOLE STRING -----------------------------------------------------------------------------------------------------

-- the opening quote at a place, and what belongs to the string behind it
pub with_quote : (s : List ℕ) (at : ℕ) (q : Quoted) → q ≡ quoted false (drop (at + 1) s) →
    record { kind = # STRING_LIT; len = q.len + 1; closed = q.closed } ≡ string_lit (string_of (drop at s))
unfolding string_of
with_quote s at q e =
    let p : q ≡ quoted false (drop 1 (drop at s)) = e ∙ ap (quoted false) (sym (drop-drop 1 at s)) in
    let n : q.len + 1 ≡ suc (quoted false (drop 1 (drop at s))).len = omega (arith, ap (λ (r : Quoted). r.len) p) in
    λ k. record { kind = # STRING_LIT; len = n k; closed = (p k).closed }
