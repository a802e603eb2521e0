-- The Start was used; or no record is left for a node of its chain; or its chain is opened (Holding). Assumes nothing.
use Prim.Native.Nat.{ℕ, ◌+◌, ◌≤◌}
use native.Mathlib.Omega.{arith}
use mathlib.Core.Path.{ap}
use mathlib.Core.List.{List}
use lib.ListN.{length, length-map}
use Rattle.aadl.specs.Limits.{most_events}
use Rattle.aadl.specs.Encoding.{event_in, first_words, told_by}
use Rattle.tree.proofs.Chains.{links-length}
use Rattle.tree.proofs.Holding.{holds-used, holds_opened, holds-full, few-taken, few-records, innermost-before}
use Rattle.tree.proofs.Builder.start.Goals as goal

-- as few events as first words
few-events : (ws : List ℕ) → length (first_words ws) ≤ most_events → length (told_by ws) ≤ most_events
few-events ws h = omega (arith, h, length-map (first_words ws) event_in)

pub returns-then-records-self : goal.returns-then-records-self
returns-then-records-self c = λ old w x. holds-used x _ c.if-records-self.true

pub overflow_add-count : goal.overflow_add-count
overflow_add-count c =
    let few = few-events c.args.events.now c.requires.1 in
    record { fits = omega (arith, few-records c.requires.2.1.1, links-length 0 (told_by c.args.events.now) c.args.i) }

pub returns-then-records-count : goal.returns-then-records-count
returns-then-records-count c =
    let a = c.args in
    let ws = a.events.now in
    λ old w x. holds-full x (told_by ws) (few-events ws c.requires.1) c.if-records-self.false _
    (ap (λ (n : ℕ). a.self.now.records + n) c.chain_length-n.ensures) c.if-records-count.true

pub open_chain-requires : goal.open_chain-requires
open_chain-requires c =
    let x = c.requires.2.1.1 in
    let ws = c.args.events.now in
    let few-chain = links-length 0 (told_by ws) c.args.i in
    let few = few-events ws c.requires.1 in (
      c.chain_length-n.ensures,
      omega arith,
      omega (arith, few-records x),
      omega (arith, innermost-before x, few-records x),
      omega (arith, few-taken x),
      c.requires.1,
    )

pub returns : goal.returns
returns c =
    let a = c.args in
    let ws = a.events.now in
    λ old w x. holds_opened x (told_by ws) (few-events ws c.requires.1) c.if-records-self.false _ _
    (ap (λ (k : ℕ). a.self.now.records + k) c.chain_length-n.ensures) (omega arith) c.open_chain.ensures
