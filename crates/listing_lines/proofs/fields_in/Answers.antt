-- Each class by the event that the word stands for (LineLaws). Assumes nothing.
-- what an event shows
use Prim.Native.Nat.{ℕ, ◌≤◌}
use mathlib.Core.Path.{◌≡◌, sym, ap, ap₂, ◌∙◌}
use native.Mathlib.Omega.{arith}
use Rattle.predictive.specs.Forest.{message}
use Rattle.predictive.specs.Events.{Event, start, token, finish, error}
use Rattle.aadl.specs.Tokens.{kind_in}
use Rattle.aadl.specs.Encoding.{fields, class_in, last_in, event_in}
use Rattle.aadl.specs.Listing.{letter}
use Rattle.listing_lines.proofs.LineLaws.{event_by-class, event_by-high}
use Rattle.listing_lines.proofs.fields_in.Goals as goal

shown : (w : ℕ) (e : Event) → event_in w ≡ e → (letter e ≡ letter (event_in w)) × ((fields e).1 ≡ (fields (event_in w)).1) × ((fields e).2 ≡ (fields (event_in w)).2)
shown w e q = (ap letter (sym q), ap (λ (f : Event). (fields f).1) (sym q), ap (λ (f : Event). (fields f).2) (sym q))

module _ (w : ℕ) {k l j : ℕ} (kind : k ≡ kind_in w) (last : l ≡ last_in w) (class : j ≡ class_in w) where
  as_start : j ≡ 0 → event_in w ≡ start k l
  as_start h = event_by-class w 0 (sym class ∙ h) ∙ ap₂ start (sym kind) (sym last)

  as_token : j ≡ 1 → event_in w ≡ token k
  as_token h = event_by-class w 1 (sym class ∙ h) ∙ ap token (sym kind)

  as_finish : j ≡ 2 → event_in w ≡ finish
  as_finish h = event_by-class w 2 (sym class ∙ h)

  as_error : 3 ≤ j → event_in w ≡ error (message l)
  as_error h = event_by-high w (omega (arith, class, h)) ∙ ap (λ (m : ℕ). error (message m)) (sym last)

-- the kind, the last number and the class that were read
pub returns-in-0 : goal.returns-in-0
returns-in-0 c =
    shown c.args.word (start _ _)
    (as_start _ c.kind_in-kind.ensures c.last_in-last.ensures c.class_in.ensures (omega arith))

pub returns-in-1 : goal.returns-in-1
returns-in-1 c =
    shown c.args.word (token _)
    (as_token _ c.kind_in-kind.ensures c.last_in-last.ensures c.class_in.ensures (omega arith))

pub returns-in-2 : goal.returns-in-2
returns-in-2 c =
    shown c.args.word finish
    (as_finish _ c.kind_in-kind.ensures c.last_in-last.ensures c.class_in.ensures (omega arith))

pub returns-in_default : goal.returns-in_default
returns-in_default c =
    shown c.args.word (error (message _))
    (as_error _ c.kind_in-kind.ensures c.last_in-last.ensures c.class_in.ensures (omega arith))
