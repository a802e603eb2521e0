-- Calls fall in the openers left, and with as many of them in where a function stands above those that it calls. Assumes nothing.
use Prim.Native.Nat.{ℕ, suc, ◌+◌, ◌*◌}
use Rattle.predictive.specs.Grammar.{seq, any}
use Rattle.aadl.specs.Kinds.{COMMA}
use Rattle.aadl.specs.Section as G
use Rattle.parser.proofs.Parsers.{Turning, μ}
use Rattle.grammar.proofs.+classifier.Given as goal

abbrev pub decreases-binding_items : goal.decreases-binding_items
decreases-binding_items l = l.p.now.left * 8 + 3

abbrev pub decreases-classifier_ref : goal.decreases-classifier_ref
decreases-classifier_ref l = l.p.now.left * 8 + 1

abbrev pub decreases-prototype_binding : goal.decreases-prototype_binding
decreases-prototype_binding l = l.p.now.left * 8 + 2

abbrev pub decreases-prototype_binding_list : goal.decreases-prototype_binding_list
decreases-prototype_binding_list l = l.p.now.left * 8 + 4

abbrev pub decreases-prototype_bindings : goal.decreases-prototype_bindings
decreases-prototype_bindings l = l.p.now.left * 8 + 0

abbrev pub invariant-binding_items-loop-p : goal.invariant-binding_items-loop-p
invariant-binding_items-loop-p l =
    Turning (suc l.initial.p.left) (seq (G.begun COMMA) (G.binding any)) l.initial.p l.p

abbrev pub decreases-binding_items-loop-p : goal.decreases-binding_items-loop-p
decreases-binding_items-loop-p l = μ l.p

abbrev pub invariant-classifier_ref-loop-p : goal.invariant-classifier_ref-loop-p
invariant-classifier_ref-loop-p l = (d : ℕ) → Turning d G.qualifier l.initial.p l.p

abbrev pub decreases-classifier_ref-loop-p : goal.decreases-classifier_ref-loop-p
decreases-classifier_ref-loop-p l = μ l.p
