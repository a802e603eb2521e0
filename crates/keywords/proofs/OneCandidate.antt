-- One comparison decides a word's kind: the hash ignores case, and one computed test finds each word of the table in the slot of its
-- own hash; so a word that is not the one in its slot is none of the table. Assumes nothing.
use Prim.Native.Nat.{ℕ, ◌+◌, ◌-◌, ◌/◌, ◌%◌, ◌≤◌, ◌<◌}
use native.Mathlib.Nat.{add-mod_right, mod-lt}
use native.Mathlib.Omega.{arith}
use mathlib.Core.Path.{◌≡◌, refl, sym, ap, ◌∙◌, subst}
use mathlib.Core.Bool.{Bool, true, false, true≢false, ◌&&◌, cond}
use mathlib.Core.List.{List, map}
use lib.ListN.{length, get_or, length-map, get_or-map}
use lib.Dec.{leb, ltb, eqb}
use borrow.Author.Tests.{ltb-true, eqb-true}
use Rattle.aadl.specs.Kinds.{#◌, IDENT}
use Rattle.aadl.specs.Words.{words, table, row, lower, same, kind_of_word}
use Rattle.aadl.specs.Bytes.{within}
use Rattle.aadl.proofs.Bools.{bounds, below_at}
use Rattle.aadl.proofs.KeywordKinds.{same-is_lower, lower-is_same, kind_in-row, kind_in-no_row}
use Rattle.keywords.specs.Tables.{without_case, hash_of, candidate}

-- THE HASH -------------------------------------------------------------------------------------------------------------

pub hash-in : (w : List ℕ) → hash_of w < 256
hash-in w =
    let positive : 0 < 256 = omega arith in
    mod-lt _ positive

lower-without_case : (b : ℕ) → lower b % 32 ≡ b % 32
lower-without_case b = go (leb 65 b && leb b 90)
  where
    go : (t : Bool) → cond t (b + 32) b % 32 ≡ b % 32
    go true = add-mod_right b 32
    go false = refl

without_case-lower : (w : List ℕ) (j : ℕ) → without_case (map lower w) j ≡ without_case w j
without_case-lower w j = ap (λ (b : ℕ). b % 32) (get_or-map lower w j 0) ∙ lower-without_case (get_or w j 0)

hash-lower : (w : List ℕ) → hash_of (map lower w) ≡ hash_of w
hash-lower w =
    rw (length-map w lower, without_case-lower w 0, without_case-lower w (length w - 1), without_case-lower w (length w / 2)) refl

-- one test: no two words have one hash, so each is found by its own
own-candidate : (i : ℕ) → i < 81 → candidate (hash_of (row i).word) ≡ i
unfolding words table candidate
own-candidate i h =
    eqb-true (candidate (hash_of (row i).word)) i (below_at (λ (k : ℕ). eqb (candidate (hash_of (row k).word)) k) 81 refl i h)

-- one test: every slot holds a row
pub candidate-in : (h : ℕ) → h < 256 → candidate h < 82
unfolding words table candidate
candidate-in h l = ltb-true (candidate h) 82 (below_at (λ (k : ℕ). ltb (candidate k) 82) 256 refl h l)

-- THE KIND -------------------------------------------------------------------------------------------------------------

pub kind-if_same : (w : List ℕ) (i : ℕ) → i < 82 → same (row i).word w ≡ true → kind_of_word w ≡ (row i).kind
kind-if_same w i h e = kind_in-row i w h (same-is_lower (row i).word w e)

pub kind-if_not_candidate : (w : List ℕ) → same (row (candidate (hash_of w))).word w ≡ false → kind_of_word w ≡ # IDENT
kind-if_not_candidate w n =
    kind_in-no_row w
    (λ i h e.
    let own : candidate (hash_of w) ≡ i = ap candidate (sym (hash-lower w) ∙ ap hash_of e) ∙ own-candidate i h in
    let is : same (row i).word w ≡ true = subst (λ (v : List ℕ). same v w ≡ true) e (lower-is_same w) in
    true≢false (sym is ∙ ap (λ (k : ℕ). same (row k).word w) (sym own) ∙ n))

-- one test: every word has 1 to 14 letters
word-length : (i : ℕ) → i < 81 → (1 ≤ length (row i).word) × (length (row i).word ≤ 14)
unfolding words table
word-length i h = bounds 1 14 (length (row i).word) (below_at (λ (k : ℕ). within 1 14 (length (row k).word)) 81 refl i h)

pub kind-if_other_length : (w : List ℕ) → (1 ≤ length w → length w ≤ 14 → ⊥) → kind_of_word w ≡ # IDENT
kind-if_other_length w n =
    kind_in-no_row w
    (λ i h e.
    let l : length w ≡ length (row i).word = sym (length-map w lower) ∙ ap length e in
    n (omega (arith, word-length i h)) (omega (arith, word-length i h)))
