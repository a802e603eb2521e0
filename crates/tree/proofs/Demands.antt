-- The demands on the tree call, as theorems about any limits and text, any lent words old, last and rows, and the answer a and the words
-- ts, es and rs that the call then gives: `TreeCalled` is what the call's contract says of them, demands 2 and 3 among it. What they rest on
-- is aadl's. Assumes nothing.
use Prim.Native.Nat.{ℕ, zero, suc, ◌<◌}
use native.Mathlib.Omega.{arith}
use mathlib.Core.Path.{◌≡◌, refl, sym, ap, subst, ◌∙◌}
use mathlib.Core.List.{List, [], ◌∷◌}
use lib.ListN.{length, get_or, take, drop}
use Rattle.predictive.specs.Forest.{nil, leaves}
use Rattle.predictive.specs.Events.{Event}
use Rattle.predictive.specs.Tree.{spell}
use Rattle.aadl.specs.declared.Answer.{Answer}
use Rattle.aadl.specs.declared.TreeAnswer.{TreeAnswer}
use Rattle.aadl.specs.declared.Limits.{Limits}
use Rattle.aadl.specs.Limits.{Allowed}
use Rattle.aadl.specs.Kinds.{#◌, PROPERTY_SECTION}
use Rattle.aadl.specs.Symbols.{kinds}
use Rattle.aadl.specs.Calls.{Settled}
use Rattle.aadl.specs.Demand.{answered_events}
use Rattle.aadl.specs.Records.{Record, records_in, text_records, tree_call, answered_records}
use Rattle.aadl.specs.Promises.{TreeCalled, ReadWhole}
use Rattle.aadl.proofs.CallsRead.{section-read, all-counted, events-told}
use Rattle.aadl.proofs.TreeCalls.{tree-settled, tree-section's, records-told}
use Rattle.aadl.proofs.RecordsUpwards.{Upwards, record_at, insides, text-upwards, text-run}

-- THE DEMANDS ----------------------------------------------------------------------------------------------------------

module _ {limits : Limits} {text old last rows : List ℕ} {a : TreeAnswer} {ts es rs : List ℕ} (c : TreeCalled limits text old last rows a ts es rs) where
  -- Demand 1. Every answer is settled: counts with all three buffers filled, or a refusal in its stated case only, with its place, zero
  -- counts and zero buffers.
  pub every-tree_answer_is_settled : Settled (tree_call limits text old last rows) a (ts ∷ es ∷ rs ∷ [])
  every-tree_answer_is_settled = tree-settled c

  -- What the section call tells where it refuses nothing, the tree call tells too.
  pub every-tree_answer_is_read : Allowed limits → a.answer.number ≡ 0 → ReadWhole text a.answer ts es
  every-tree_answer_is_read h z = section-read (tree-section's c z) z h

-- THE RECORDS ----------------------------------------------------------------------------------------------------------

length_records_in : (n : ℕ) (ws : List ℕ) → length (records_in n ws) ≡ n
length_records_in zero ws = refl
length_records_in (suc n) ws = ap suc (length_records_in n (drop 4 ws))

module _ {limits : Limits} {text old last rows : List ℕ} {a : TreeAnswer} {ts es rs : List ℕ} (c : TreeCalled limits text old last rows a ts es rs) where
  pub every-record_is_counted : length (answered_records a rs) ≡ a.records
  every-record_is_counted = length_records_in a.records rs

  module _ (z : a.answer.number ≡ 0) where
    -- Who goes upwards in the answered records comes to the root: it is the first and has all that is taken below it, parents come
    -- before children, and a node's tokens lie within its parent's.
    pub every-tree_goes_upwards : Upwards (answered_records a rs) (# PROPERTY_SECTION) a.answer.taken
    every-tree_goes_upwards =
        let count = ap (λ (x : Answer). x.taken) (all-counted (tree-section's c z) z) in
        subst (λ (l : List Record). Upwards l (# PROPERTY_SECTION) a.answer.taken) (sym (records-told c z))
        (subst (λ (n : ℕ). Upwards (text_records limits text) (# PROPERTY_SECTION) n) (sym count) (text-upwards limits text))

    -- The tokens below a node of the tree that the answered events spell are the run of the text's that its record tells.
    pub every-record_tells_a_run : (r : ℕ) → r < a.records →
        leaves (get_or (insides (spell (answered_events a.answer es))) r nil)
        ≡ take (record_at (answered_records a rs) r).below (drop (record_at (answered_records a rs) r).first (kinds text))
    every-record_tells_a_run r l =
        let among : r < length (text_records limits text) = omega (arith, l, every-record_is_counted, ap length (records-told c z)) in
        ap (λ (es : List Event). leaves (get_or (insides (spell es)) r nil)) (events-told (tree-section's c z) z)
        ∙ text-run limits text r among
        ∙ ap (λ (qs : List Record). take (record_at qs r).below (drop (record_at qs r).first (kinds text))) (sym (records-told c z))
