-- Every refusal among a reading's events is 6: it is the number by which the grammar refuses an opener too many, and its parts have
-- only messages, which is computed. Assumes nothing.
use Prim.Native.Nat.{ℕ, suc}
use mathlib.Core.Path.{◌≡◌, refl, ◌∙◌}
use mathlib.Core.Bool.{Bool, true, false, not}
use mathlib.Core.List.{List, [], ◌∷◌}
use lib.ListN.{length}
use lib.Dec.{eqb}
use borrow.Author.Tests.{eqb-true, not-false}
use Rattle.predictive.specs.Forest.{Fault, message, refusal}
use Rattle.predictive.specs.Events.{Event, start, token, finish, error, erring}
use Rattle.predictive.proofs.Tests.{◌and◌, or_l, or_r}
use Rattle.predictive.proofs.Bounds.{form_fits, forms-fit, part-fits, any-kind, but, reading-free}
use Rattle.predictive.proofs.EventLaws.{erring-reading}
use Rattle.aadl.specs.Limits.{Limits}
use Rattle.aadl.specs.Section.{Rule, rules, Expression, Negated, Operand, Classifier, keywords, names, grammar, section}
use Rattle.aadl.specs.Reading.{reading, events}
use Rattle.aadl.proofs.Lists.{Each}

-- a refusal that is not 6
abbrev other-refusal : Fault → Bool
other-refusal (message m) = false
other-refusal (refusal n) = not (eqb n 6)

-- where an event is a refusal, it is 6
abbrev pub Refuses6 : Event → Type 0
Refuses6 (start k up) = Unit {0}
Refuses6 (token k) = Unit {0}
Refuses6 finish = Unit {0}
Refuses6 (error (message m)) = Unit {0}
Refuses6 (error (refusal n)) = n ≡ 6

each-6 : (es : List Event) → erring other-refusal es ≡ false → Each Refuses6 es
unfolding erring
each-6 [] e = tt
each-6 (start k up ∷ es) e = (tt, each-6 es e)
each-6 (token k ∷ es) e = (tt, each-6 es e)
each-6 (finish ∷ es) e = (tt, each-6 es e)
each-6 (error (message m) ∷ es) e = (tt, each-6 es e)
each-6 (error (refusal n) ∷ es) e = (eqb-true n 6 (not-false (eqb n 6) (or_l (not (eqb n 6)) _ e)), each-6 es (or_r (not (eqb n 6)) _ e))

rules-fit : (r : Rule) → part-fits any-kind (but other-refusal) (rules r) ≡ true
unfolding part-fits form_fits forms-fit ◌and◌ names keywords
rules-fit = elim [ Expression ↦ refl | Negated ↦ refl | Operand ↦ refl | Classifier ↦ refl ]

section-fits : part-fits any-kind (but other-refusal) section ≡ true
unfolding part-fits form_fits forms-fit ◌and◌ names keywords
section-fits = refl

pub events-refuse_6 : (limits : Limits) (xs : List ℕ) → Each Refuses6 (events limits xs)
unfolding events reading
events-refuse_6 limits xs =
    each-6 (events limits xs)
    (erring-reading other-refusal (reading limits xs)
    ∙ reading-free other-refusal grammar (suc (length xs)) refl rules-fit limits.openers section section-fits xs)
