-- A walk stays sound, event by event: what a chain opens stands behind its parents and begins at the tokens taken, and closing a node
-- changes its last word alone. Assumes nothing.
use Prim.Native.Nat.{ℕ, suc, ◌+◌, ◌-◌, ◌≤◌, ◌<◌}
use native.Mathlib.Omega.{arith}
use mathlib.Core.Path.{◌≡◌, sym, ap, subst, ◌∙◌}
use mathlib.Core.List.{List, [], ◌∷◌, ◌++◌}
use lib.ListN.{length, set, length-append, length-set}
use Rattle.aadl.specs.Limits.{most_events}
use Rattle.aadl.specs.Records.{Record}
use Rattle.aadl.proofs.Lists.{Each, each_append, each_at, each_set, each-weaker}
use Rattle.tree.specs.Walk.{Link, opened, Walk, blank, innermost_row, with_links, counted, closed, root}
use Rattle.tree.specs.Builders.{Sound}
use Rattle.tree.proofs.Chains.{length_opened}
use Rattle.tree.proofs.Laid.{with_below}

-- EVENT BY EVENT -------------------------------------------------------------------------------------------------------

pub sound-root : (k : ℕ) → Sound 0 (root k)
sound-root k =
    record { innermost_stands = omega arith; parents_stand = (omega arith, tt); firsts_taken = (omega arith, tt); few_tokens = omega arith; few_rows = omega arith }

-- A chain's nodes stand in the open node p, each in the one before.
opened-parents : (p n t m : ℕ) (ls : List Link) → p < m → n + length ls ≤ m → Each (λ (r : Record). r.parent < m) (opened p n t ls)
opened-parents p n t m [] h k = tt
opened-parents p n t m (l ∷ ls) h k = (h, opened-parents n (suc n) t m ls (omega (arith, k)) (omega (arith, k)))

opened-firsts : (p n t : ℕ) (ls : List Link) → Each (λ (r : Record). r.first ≤ t) (opened p n t ls)
opened-firsts p n t [] = tt
opened-firsts p n t (l ∷ ls) = (omega arith, opened-firsts n (suc n) t ls)

module _ (i : ℕ) (w : Walk) (s : Sound i w) where
  pub sound-later : Sound (suc i) w
  sound-later =
      record {
        innermost_stands = s.innermost_stands;
        parents_stand = s.parents_stand;
        firsts_taken = s.firsts_taken;
        few_tokens = omega (arith, s.few_tokens);
        few_rows = omega (arith, s.few_rows);
      }

  pub sound-counted : Sound (suc i) (counted w)
  sound-counted =
      record {
        innermost_stands = s.innermost_stands;
        parents_stand = s.parents_stand;
        firsts_taken = each-weaker (λ (r : Record). r.first ≤ w.taken) (λ (r : Record). r.first ≤ suc w.taken) (λ r h. omega (arith, h)) w.rows s.firsts_taken;
        few_tokens = omega (arith, s.few_tokens);
        few_rows = omega (arith, s.few_rows);
      }

  -- the innermost open node's record
  pub innermost-parent : (innermost_row w).parent < length w.rows
  innermost-parent = each_at (λ (r : Record). r.parent < length w.rows) w.rows w.innermost blank s.innermost_stands s.parents_stand

  pub innermost-first : (innermost_row w).first ≤ w.taken
  innermost-first = each_at (λ (r : Record). r.first ≤ w.taken) w.rows w.innermost blank s.innermost_stands s.firsts_taken

  pub sound-closed : Sound (suc i) (closed w)
  sound-closed =
      let r = with_below (w.taken - (innermost_row w).first) (innermost_row w) in
      let same : length (set w.rows w.innermost r) ≡ length w.rows = length-set w.rows w.innermost r in
      record {
        innermost_stands = omega (arith, innermost-parent, same);
        parents_stand =
            subst (λ (n : ℕ). Each (λ (q : Record). q.parent < n) (set w.rows w.innermost r)) (sym same)
            (each_set (λ (q : Record). q.parent < length w.rows) w.rows w.innermost r innermost-parent s.parents_stand);
        firsts_taken = each_set (λ (q : Record). q.first ≤ w.taken) w.rows w.innermost r innermost-first s.firsts_taken;
        few_tokens = omega (arith, s.few_tokens);
        few_rows = omega (arith, s.few_rows, same);
      }

  pub sound-links : (ls : List Link) → length ls ≤ most_events → Sound (suc i) (with_links ls w)
  sound-links ls few =
      let new = opened w.innermost (length w.rows) w.taken ls in
      let n : length (w.rows ++ new) ≡ length w.rows + length ls =
      length-append w.rows new ∙ ap (λ (k : ℕ). length w.rows + k) (length_opened w.innermost (length w.rows) w.taken ls) in
      record {
        innermost_stands = omega (arith, n, s.innermost_stands);
        parents_stand =
            each_append (λ (r : Record). r.parent < length (w.rows ++ new)) w.rows new
            (each-weaker (λ (r : Record). r.parent < length w.rows) (λ (r : Record). r.parent < length (w.rows ++ new)) (λ r h. omega (arith, h, n)) w.rows s.parents_stand)
            (opened-parents w.innermost (length w.rows) w.taken (length (w.rows ++ new)) ls (omega (arith, s.innermost_stands, n)) (omega (arith, n)));
        firsts_taken = each_append (λ (r : Record). r.first ≤ w.taken) w.rows new s.firsts_taken (opened-firsts w.innermost (length w.rows) w.taken ls);
        few_tokens = omega (arith, s.few_tokens);
        few_rows = omega (arith, s.few_rows, n, few);
      }
