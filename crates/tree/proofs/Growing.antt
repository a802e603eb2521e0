-- A walk only adds records, and no record's first token changes: a Start adds the rows of its chain, each with the tokens taken so far
-- as its first; a Finish sets the row of the innermost open node, with the same first; nothing else touches the rows. So the first
-- token of the node for which a record is missing is known where it opens. Assumes nothing.
use Prim.Native.Nat.{ℕ, zero, suc, ◌+◌, ◌-◌, ◌≤◌, ◌<◌}
use native.Mathlib.Nat.{not-suc-le-zero, le_of_suc-le-suc}
use native.Mathlib.Omega.{arith}
use mathlib.Core.Path.{◌≡◌, refl, sym, ap, ◌∙◌}
use mathlib.Core.Bool.{Bool, true, false, cond}
use mathlib.Core.List.{List, [], ◌∷◌, ◌++◌, map, map-append, append_assoc, append-nil}
use lib.Dec.{eqb}
use lib.ListN.{length, get_or, length-append, length-map, get_or-append}
use lib.Seq.{get_or-append-add, map-set_same}
use Rattle.predictive.specs.Events.{Event, start, token, finish, error}
use Rattle.aadl.specs.Records.{Record, of_node}
use Rattle.tree.specs.Walk.{Link, links, opened, Walk, innermost_row, blank, with_links, closed, turn, walk}

abbrev firsts : List Record → List ℕ
firsts rs = map (λ (r : Record). r.first) rs

-- Each of the numbers is t.
abbrev All : ℕ → List ℕ → Type 0
All t ns = (n : ℕ) → n < length ns → get_or ns n 0 ≡ t

-- What a turn adds to the firsts: some more, and each is the number of the tokens taken.
record Adds (rs : List Record) (t : ℕ) (qs : List Record) : Type 0 where
  more : List ℕ
  grows : firsts qs ≡ firsts rs ++ more
  each : All t more

-- ONE TURN -------------------------------------------------------------------------------------------------------------

adds-nothing : (rs : List Record) (t : ℕ) → Adds rs t rs
adds-nothing rs t = record { more = []; grows = sym (append-nil (firsts rs)); each = λ n h. absurd (not-suc-le-zero h) }

firsts-opened : (p n t : ℕ) (ls : List Link) → All t (firsts (opened p n t ls))
firsts-opened p n t [] i h = absurd (not-suc-le-zero h)
firsts-opened p n t (l ∷ ls) zero h = refl
firsts-opened p n t (l ∷ ls) (suc i) h = firsts-opened n (suc n) t ls i (le_of_suc-le-suc h)

adds-links : (ls : List Link) (w : Walk) → Adds w.rows w.taken (with_links ls w).rows
adds-links ls w =
    let rs = opened w.innermost (length w.rows) w.taken ls in
    record {
      more = firsts rs;
      grows = map-append (λ (r : Record). r.first) w.rows rs;
      each = firsts-opened w.innermost (length w.rows) w.taken ls;
    }

-- A Start that is the innermost open node's own, or not.
adds-begun : (own : Bool) (ls : List Link) (w : Walk) → Adds w.rows w.taken (cond own w (with_links ls w)).rows
adds-begun true ls w = adds-nothing w.rows w.taken
adds-begun false ls w = adds-links ls w

adds-closed : (w : Walk) → Adds w.rows w.taken (closed w).rows
adds-closed w =
    let r = innermost_row w in
    let row = of_node r.kind r.parent r.first (w.taken - r.first) in
    record {
      more = [];
      grows = map-set_same (λ (r : Record). r.first) w.rows w.innermost row blank refl ∙ sym (append-nil (firsts w.rows));
      each = λ n h. absurd (not-suc-le-zero h);
    }

adds-turn : (i : ℕ) (es : List Event) (w : Walk) → Adds w.rows w.taken (turn i es w).rows
unfolding turn
adds-turn i [] w = adds-nothing w.rows w.taken
adds-turn i (start k up ∷ es) w = adds-begun (eqb (innermost_row w).below i) (links i (start k up ∷ es) 0) w
adds-turn i (token k ∷ es) w = adds-nothing w.rows w.taken
adds-turn i (finish ∷ es) w = adds-closed w
adds-turn i (error m ∷ es) w = adds-nothing w.rows w.taken

-- ALL TURNS ------------------------------------------------------------------------------------------------------------

pub firsts-stay : (i : ℕ) (es : List Event) (w : Walk)
    → (rest : List ℕ) × (map (λ (r : Record). r.first) (walk i es w).rows ≡ map (λ (r : Record). r.first) w.rows ++ rest)
unfolding walk
firsts-stay i [] w = ([], sym (append-nil (firsts w.rows)))
firsts-stay i (e ∷ es) w =
    let turned = adds-turn i (e ∷ es) w in
    let later = firsts-stay (suc i) es (turn i (e ∷ es) w) in (
      turned.more ++ later.0,
      later.1 ∙ ap (λ (ns : List ℕ). ns ++ later.0) turned.grows ∙ append_assoc (firsts w.rows) turned.more later.0,
    )

-- A record that a turn adds stays, and its first is the number of the tokens taken.
pub first-without_record : (i : ℕ) (e : Event) (es : List Event) (w : Walk) (n : ℕ) → length w.rows ≤ n → n < length (turn i (e ∷ es) w).rows
    → (n < length (walk (suc i) es (turn i (e ∷ es) w)).rows)
    × (get_or (map (λ (r : Record). r.first) (walk (suc i) es (turn i (e ∷ es) w)).rows) n 0 ≡ w.taken)
first-without_record i e es w n before behind =
    let v = turn i (e ∷ es) w in
    let last = walk (suc i) es v in
    let turned = adds-turn i (e ∷ es) w in
    let later = firsts-stay (suc i) es v in
    let m = n - length w.rows in
    let place : n ≡ length (firsts w.rows) + m = omega (arith, length-map w.rows (λ (r : Record). r.first)) in
    let opens : length v.rows ≡ length (firsts v.rows) = sym (length-map v.rows (λ (r : Record). r.first)) in
    let ends : length last.rows ≡ length (firsts last.rows) = sym (length-map last.rows (λ (r : Record). r.first)) in
    let long : length (firsts last.rows) ≡ length (firsts v.rows) + length later.0 = ap length later.1 ∙ length-append (firsts v.rows) later.0 in
    let added : length (firsts v.rows) ≡ length (firsts w.rows) + length turned.more = ap length turned.grows ∙ length-append (firsts w.rows) turned.more in (
      omega arith,
      ap (λ (ns : List ℕ). get_or ns n 0) later.1
          ∙ get_or-append (firsts v.rows) later.0 0 n (omega arith)
          ∙ ap (λ (ns : List ℕ). get_or ns n 0) turned.grows
          ∙ ap (λ (j : ℕ). get_or (firsts w.rows ++ turned.more) j 0) place
          ∙ get_or-append-add (firsts w.rows) turned.more m 0
          ∙ turned.each m (omega arith),
    )
