-- A word of another length is none of the table, and of any other the candidate of its hash decides; its kind is its own by aadl's `own-kind`.
-- Assumes nothing.
use Prim.Native.Nat.{ℕ, ◌<◌}
use native.Mathlib.Omega.{arith}
use mathlib.Core.Path.{◌≡◌, sym, ap, subst, ◌∙◌}
use mathlib.Core.Logic.{⊎_elim}
use mathlib.Core.Bool.{true, false, ◌||◌}
use mathlib.Core.List.{List}
use lib.ListN.{length, get_or}
use lib.Dec.{ltb}
use borrow.Author.Tests.{ltb-true}
use Rattle.predictive.proofs.Tests.{or_cases}
use Rattle.aadl.specs.Kinds.{#◌, IDENT}
use Rattle.aadl.specs.Words.{words, table, row, same, kind_of_word}
use Rattle.aadl.specs.WordKinds.{OwnKind}
use Rattle.aadl.proofs.KeywordKinds.{own-kind}
use Rattle.keywords.specs.Tables.{hash_of, candidate, word_kinds, word_slots}
use Rattle.keywords.proofs.Columns.{kind_at, slot_at}
use Rattle.keywords.proofs.OneCandidate.{hash-in, candidate-in, kind-if_same, kind-if_not_candidate, kind-if_other_length}
use Rattle.keywords.proofs.from_keyword.Goals as goal

own : (w : List ℕ) (k : ℕ) → k ≡ kind_of_word w → OwnKind w k
own w k e = subst (OwnKind w) (sym e) (own-kind w)

slot_read : (w : List ℕ) (h i : ℕ) → h ≡ hash_of w → i ≡ get_or word_slots h 0 → i ≡ candidate (hash_of w)
slot_read w h i e r = r ∙ ap (λ (k : ℕ). get_or word_slots k 0) e ∙ slot_at (hash_of w) (hash-in w)

-- a slot that is the hash's candidate is a row's
in_table : (w : List ℕ) (i : ℕ) → i ≡ candidate (hash_of w) → i < 82
in_table w i e = omega (arith, e, candidate-in (hash_of w) (hash-in w))

kind_read : (w : List ℕ) (i k : ℕ) → i ≡ candidate (hash_of w) → same (row i).word w ≡ true → k ≡ get_or word_kinds i 0 → k ≡ kind_of_word w
kind_read w i k e t r =
    let h = in_table w i e in
    r ∙ kind_at i h ∙ sym (kind-if_same w i h t)

no-kind : (w : List ℕ) (i : ℕ) → i ≡ candidate (hash_of w) → same (row i).word w ≡ false → # IDENT ≡ kind_of_word w
no-kind w i e f = sym (kind-if_not_candidate w (ap (λ (k : ℕ). same (row k).word w) (sym e) ∙ f))

other-length : (w : List ℕ) → (ltb (length w) 1 || ltb 14 (length w)) ≡ true → # IDENT ≡ kind_of_word w
other-length w t =
    let n = length w in
    sym
    (kind-if_other_length w
    (λ low high.
    ⊎_elim (λ q. omega (arith, ltb-true n 1 q)) (λ q. omega (arith, ltb-true 14 n q)) (or_cases (ltb n 1) (ltb 14 n) t)))

pub returns-then-n-clause-kind : goal.returns-then-n-clause-kind
returns-then-n-clause-kind c = other-length c.args.word.now c.if-n.true

pub returns-then-n-clause-own_kind : goal.returns-then-n-clause-own_kind
returns-then-n-clause-own_kind c = own _ _ (other-length c.args.word.now c.if-n.true)

pub is_word_in-requires : goal.is_word_in-requires
unfolding words table candidate
is_word_in-requires c = in_table c.args.word.now _ (slot_read c.args.word.now _ _ c.hash.ensures c.from-i.ensures)

pub bounds-i : goal.bounds-i
unfolding words table candidate
bounds-i c = in_table c.args.word.now _ (slot_read c.args.word.now _ _ c.hash.ensures c.from-i.ensures)

pub returns-then-is_word_in-clause-kind : goal.returns-then-is_word_in-clause-kind
unfolding words table candidate
returns-then-is_word_in-clause-kind c =
    let e = slot_read c.args.word.now _ _ c.hash.ensures c.from-i.ensures in
    kind_read c.args.word.now _ _ e (sym c.is_word_in.ensures ∙ c.if-is_word_in.true) c.from.ensures

pub returns-then-is_word_in-clause-own_kind : goal.returns-then-is_word_in-clause-own_kind
unfolding words table candidate
returns-then-is_word_in-clause-own_kind c =
    let e = slot_read c.args.word.now _ _ c.hash.ensures c.from-i.ensures in
    own _ _ (kind_read c.args.word.now _ _ e (sym c.is_word_in.ensures ∙ c.if-is_word_in.true) c.from.ensures)

pub returns-clause-kind : goal.returns-clause-kind
unfolding words table candidate
returns-clause-kind c =
    no-kind c.args.word.now _ (slot_read c.args.word.now _ _ c.hash.ensures c.from-i.ensures) (sym c.is_word_in.ensures ∙ c.if-is_word_in.false)

pub returns-clause-own_kind : goal.returns-clause-own_kind
unfolding words table candidate
returns-clause-own_kind c =
    own _ _ (no-kind c.args.word.now _ (slot_read c.args.word.now _ _ c.hash.ensures c.from-i.ensures) (sym c.is_word_in.ensures ∙ c.if-is_word_in.false))
