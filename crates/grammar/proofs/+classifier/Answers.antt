-- Classifiers and their bindings: a law for each statement (Join, Levels); calls fall in the openers left. Assumes nothing.
use mathlib.Core.Path.{refl, sym, ◌∙◌}
use mathlib.Core.List.{append-nil}
use native.Mathlib.Omega.{arith}
use Rattle.predictive.specs.Grammar.{seq, any}
use Rattle.predictive.specs.Reader.{ones, first, null}
use Rattle.predictive.proofs.Takes.{takes}
use Rattle.aadl.specs.Kinds.{COMMA}
use Rattle.aadl.specs.Section as G
use Rattle.parser.proofs.Parsers.{read_left, r-seq, r-opt_yes, r-opt_no, r-opt_rule, r-deep, r-node_head, bumped_inside, w-holds, w-again, w-less, w-done, w-left, r-opens}
use Rattle.parser.proofs.Levels.{started-left, seq-at, inside-at, again_at, same}
use Prim.Native.Nat.{suc}
use Rattle.grammar.proofs.+classifier.Goals as goal

pub binding_items-loop-p-init : goal.binding_items-loop-p-init
binding_items-loop-p-init t c = w-holds

pub binding_items-prototype_binding-requires-in-loop-p : goal.binding_items-prototype_binding-requires-in-loop-p
binding_items-prototype_binding-requires-in-loop-p t c =
    (omega (arith, read_left c.prototype_binding.ensures, w-left c.loop-p.invariant, read_left (c.bump.ensures 0)), tt)

pub binding_items-loop-p-smaller : goal.binding_items-loop-p-smaller
unfolding first null ones takes
binding_items-loop-p-smaller t c =
    w-less {P = seq (G.begun COMMA) (G.binding any)} refl (sym c.at.ensures ∙ c.loop-p-test.true)
    (seq-at suc (c.bump.ensures _) c.prototype_binding-in-loop-p.ensures)

pub binding_items-loop-p-preserved : goal.binding_items-loop-p-preserved
unfolding first null ones takes
binding_items-loop-p-preserved t c =
    again_at suc refl c.loop-p.invariant (sym c.at.ensures ∙ c.loop-p-test.true)
    (seq-at suc (c.bump.ensures _) c.prototype_binding-in-loop-p.ensures)

pub binding_items-returns-after-loop-p : goal.binding_items-returns-after-loop-p
unfolding first null ones
binding_items-returns-after-loop-p t c =
    let named = sym c.at_ident_or_kw.ensures ∙ c.if-at_ident_or_kw.true in
    r-opt_yes (rw (append-nil (ones G.names), append-nil (ones G.names)) named)
    (seq-at suc (r-node_head named c.prototype_binding.ensures)
    (w-done c.loop-p.invariant (sym c.at.ensures ∙ c.loop-p-test.false)))

pub binding_items-returns-else-at_ident_or_kw : goal.binding_items-returns-else-at_ident_or_kw
unfolding first null ones
binding_items-returns-else-at_ident_or_kw t c =
    r-opt_no (rw (append-nil (ones G.names), append-nil (ones G.names)) (sym c.at_ident_or_kw.ensures ∙ c.if-at_ident_or_kw.false))

pub classifier_ref-returns-then-not-at_ident_or_kw : goal.classifier_ref-returns-then-not-at_ident_or_kw
unfolding first null ones
classifier_ref-returns-then-not-at_ident_or_kw t c =
    r-opt_no (rw (append-nil (ones G.names)) (sym c.at_ident_or_kw.ensures ∙ c.if-not-at_ident_or_kw.true))

pub classifier_ref-loop-p-init : goal.classifier_ref-loop-p-init
classifier_ref-loop-p-init t c = λ d. w-holds

pub classifier_ref-loop-p-smaller : goal.classifier_ref-loop-p-smaller
unfolding first null ones takes
classifier_ref-loop-p-smaller t c =
    w-less {P = G.qualifier} refl (sym c.at.ensures ∙ c.loop-p-test.true)
    (r-seq (c.bump.ensures 0) (c.name_or_error.ensures 0))

pub classifier_ref-loop-p-preserved : goal.classifier_ref-loop-p-preserved
unfolding first null ones takes
classifier_ref-loop-p-preserved t c =
    λ d. w-again refl (c.loop-p.invariant d) (sym c.at.ensures ∙ c.loop-p-test.true)
    (r-seq (c.bump.ensures d) (c.name_or_error.ensures d))

pub classifier_ref-prototype_bindings-requires : goal.classifier_ref-prototype_bindings-requires
classifier_ref-prototype_bindings-requires t c =
    (omega (arith, started-left c.start-m.ensures, read_left (c.bump_any.ensures 0), w-left (c.loop-p.invariant 0), read_left (c.implementation.ensures 0)), tt)

pub classifier_ref-returns : goal.classifier_ref-returns
unfolding first null ones
classifier_ref-returns t c =
    let named = sym c.at_ident_or_kw.ensures ∙ c.if-not-at_ident_or_kw.false in
    r-opt_yes (rw (append-nil (ones G.names)) named)
    (inside-at same c.start-m.ensures
    (seq-at same (bumped_inside c.start-m.ensures named (c.bump_any.ensures _))
    (seq-at same (w-done (c.loop-p.invariant _) (sym c.at.ensures ∙ c.loop-p-test.false))
    (seq-at same (c.implementation.ensures _) c.prototype_bindings.ensures)))
    c.complete.ensures)

pub prototype_binding-classifier_ref-requires : goal.prototype_binding-classifier_ref-requires
prototype_binding-classifier_ref-requires t c =
    (omega (arith, started-left c.start-m.ensures, read_left (c.bump_any.ensures 0), read_left (c.expect.ensures 0), read_left (c.direction.ensures 0), read_left (c.category.ensures 0)), tt)

pub prototype_binding-returns : goal.prototype_binding-returns
unfolding first null ones
prototype_binding-returns t c =
    inside-at suc c.start-m.ensures
    (seq-at suc (c.bump_any.ensures _)
    (seq-at suc (c.expect.ensures _)
    (seq-at suc (c.direction.ensures _)
    (seq-at suc (c.category.ensures _) (r-opt_rule G.Classifier (append-nil (ones G.names)) c.classifier_ref.ensures)))))
    c.complete.ensures

pub prototype_binding_list-binding_items-requires : goal.prototype_binding_list-binding_items-requires
prototype_binding_list-binding_items-requires t c =
    (omega (arith, started-left c.start-m.ensures, read_left (c.bump.ensures 0)), tt)

pub prototype_binding_list-returns : goal.prototype_binding_list-returns
prototype_binding_list-returns t c =
    inside-at suc c.start-m.ensures
    (seq-at suc (c.bump.ensures _) (seq-at suc c.binding_items.ensures (c.expect.ensures _)))
    c.complete.ensures

pub prototype_bindings-returns-then-left-eq0 : goal.prototype_bindings-returns-then-left-eq0
unfolding first null ones
prototype_bindings-returns-then-left-eq0 t c =
    r-opt_yes (sym c.at.ensures ∙ c.if-at.true) (r-deep c.if-left-eq0.true c.stop.ensures)

pub prototype_bindings-returns-else-left-eq0 : goal.prototype_bindings-returns-else-left-eq0
unfolding first null ones
prototype_bindings-returns-else-left-eq0 t c =
    r-opt_yes (sym c.at.ensures ∙ c.if-at.true)
    (r-opens {p = c.args.p.now} c.if-left-eq0.false c.prototype_binding_list.ensures)

pub prototype_bindings-returns-else-at : goal.prototype_bindings-returns-else-at
unfolding first null ones
prototype_bindings-returns-else-at t c =
    r-opt_no (sym c.at.ensures ∙ c.if-at.false)
