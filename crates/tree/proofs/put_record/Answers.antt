-- Four words in a row, at a place. Assumes nothing.
use Prim.Native.Nat.{ℕ, ◌+◌, ◌*◌, ◌-◌, ◌≤◌}
use native.Mathlib.Omega.{arith}
use mathlib.Core.Path.{◌≡◌, sym, ap, ◌∙◌}
use mathlib.Core.List.{List, append_assoc}
use lib.ListN.{length, take, drop}
use lib.Seq.{sets, sets-eq, drop-drop}
use borrow.Rule.Slice.PartMut.{put_mid, post_of}
use Rattle.tree.proofs.put_record.Goals as goal

-- a part of a list that is written anew
written : (i k : ℕ) (ws vs us : List ℕ) → us ≡ vs → k ≡ length vs → i + length vs ≤ length ws → put_mid i k ws us ≡ sets ws i vs
written i k ws vs us e q h =
    let behind : post_of i k ws ≡ drop (i + length vs) ws = drop-drop k i ws ∙ ap (λ (n : ℕ). drop (i + n) ws) q in
    rw (e, behind) (sym (sets-eq vs ws i h ∙ append_assoc (take i ws) vs (drop (i + length vs) ws)))

pub returns : goal.returns
returns c =
    let at = c.args.number * 4 in
    written at (at + 4 - at) c.args.records.now _ c.copy_from_slice.new.self c.copy_from_slice.ensures.after (omega arith) (omega arith)
