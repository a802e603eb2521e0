-- A chain's records are written from their end: those that are still to be written, before those that are, give what the whole chain
-- gives. So each turn takes the last link off (Chains), and its record is written first (Laid). Assumes nothing.
use Prim.Native.Nat.{ℕ, suc, ◌+◌, ◌*◌, ◌-◌, ◌≤◌, ◌<◌}
use native.Mathlib.Omega.{arith}
use mathlib.Core.Path.{◌≡◌, sym, ap, ◌∙◌}
use mathlib.Core.List.{List, [], ◌∷◌, ◌++◌, map}
use lib.ListN.{length, get_or, length-append}
use lib.Seq.{sets, length-sets}
use Rattle.aadl.specs.Tokens.{kind_in}
use Rattle.aadl.specs.Encoding.{event_in, class_in, last_in}
use Rattle.aadl.specs.Records.{Record, of_node, words_of_records}
use Rattle.aadl.proofs.RecordLaws.{length_record_words}
use Rattle.tree.specs.Walk.{Link, link, links, opened}
use Rattle.tree.proofs.Chains.{links-stands, links-step, last-parent, opened-snoc, length_opened}
use Rattle.tree.proofs.Laid.{words_append, sets_from_end}

-- The words over which the records of links are written, from record n on, in the open node p, with t tokens taken.
abbrev pub over : (p n t : ℕ) → List Link → List ℕ → List ℕ
over p n t ls words = sets words (n * 4) (words_of_records (opened p n t ls))

-- The chain that begins at event i is written into the words old, down to record number, and event `at` is the next.
pub record Writing (ws old : List ℕ) (p n t i : ℕ) (at number : ℕ) (words : List ℕ) : Type 0 where
  pub ahead : List Link
  pub counts : number ≡ n + length ahead
  pub next : 1 ≤ length ahead → links 0 (map event_in ws) at ≡ ahead
  pub long : length words ≡ length old
  pub same : over p n t ahead words ≡ over p n t (links 0 (map event_in ws) i) old

-- The last link's parent: the open node for a chain of one, else the record before.
pub parent-first : (p n number : ℕ) → number - 1 ≡ n → p ≡ last-parent p n ((number - 1) - n)
parent-first p n number e =
    let z : (number - 1) - n ≡ 0 = omega (arith, e) in
    sym (ap (last-parent p n) z)

pub parent-later : (p n number : ℕ) → n < number → (number - 1 ≡ n → ⊥) → (number - 1) - 1 ≡ last-parent p n ((number - 1) - n)
parent-later p n number h f =
    let z : (number - 1) - n ≡ suc ((number - 1) - n - 1) = omega (arith, f, h) in
    omega (arith, ap (last-parent p n) z, f, h)

module _ (ws old : List ℕ) (p n t i : ℕ) where
  module _ (at number : ℕ) (words : List ℕ) (x : Writing ws old p n t i at number words) (h : n < number) where
    some-ahead : 1 ≤ length x.ahead
    some-ahead = omega (arith, x.counts, h)

    -- A Start stands where the chain goes on.
    pub writing_stands : (at < length ws) × (class_in (get_or ws at 0) ≡ 0)
    writing_stands = links-stands ws at (omega (arith, some-ahead, ap length (x.next some-ahead)))

    pub writing_more : (parent : ℕ) (to : List ℕ) → parent ≡ last-parent p n ((number - 1) - n) →
        to ≡ sets words ((number - 1) * 4) (words_of_records (of_node (kind_in (get_or ws at 0)) parent t at ∷ [])) →
        Writing ws old p n t i (at + last_in (get_or ws at 0)) (number - 1) to
    writing_more parent to e f =
        let own = links-step ws at writing_stands.0 writing_stands.1 in
        let ls = own.0 in
        let l = link at (kind_in (get_or ws at 0)) in
        let split : x.ahead ≡ ls ++ (l ∷ []) = sym (x.next some-ahead) ∙ own.1.0 in
        let many : number - 1 ≡ n + length ls = omega (arith, x.counts, ap length split, length-append ls (l ∷ [])) in
        let r = of_node (kind_in (get_or ws at 0)) parent t at in
        let off : (number - 1) - n ≡ length ls = omega (arith, many) in
        let its : parent ≡ last-parent p n (length ls) = e ∙ ap (last-parent p n) off in
        let rows : opened p n t (ls ++ (l ∷ [])) ≡ opened p n t ls ++ (r ∷ []) =
        opened-snoc p n t ls l ∙ ap (λ (q : ℕ). opened p n t ls ++ (of_node (kind_in (get_or ws at 0)) q t at ∷ [])) (sym its) in
        let place : n * 4 + length (words_of_records (opened p n t ls)) ≡ (number - 1) * 4 = omega (arith, many, length_record_words (opened p n t ls), length_opened p n t ls) in
        record {
          ahead = ls;
          counts = many;
          next = own.1.1;
          long = ap length f ∙ length-sets words ((number - 1) * 4) (words_of_records (r ∷ [])) ∙ x.long;
          same =
              sym (ap (λ (k : List Link). over p n t k words) split
              ∙ ap (λ (rs : List Record). sets words (n * 4) (words_of_records rs)) rows
              ∙ ap (sets words (n * 4)) (words_append (opened p n t ls) (r ∷ []))
              ∙ sets_from_end words (n * 4) (words_of_records (opened p n t ls)) (words_of_records (r ∷ []))
              ∙ ap (λ (k : ℕ). sets (sets words k (words_of_records (r ∷ []))) (n * 4) (words_of_records (opened p n t ls))) place
              ∙ ap (over p n t ls) (sym f))
              ∙ x.same;
        }
