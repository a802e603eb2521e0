-- No reading of a section has message 0, which stands where the Rust would panic (`bump`) or not end, and none has
-- message 3, which 01 says is "never met here": the section grammar passes the test of `Unmet`, which is computed. Only
-- `Classifier` asks that a token with which it begins stands. Assumes nothing.
use Prim.Native.Nat.{ℕ, suc}
use native.Mathlib.Omega.{arith}
use mathlib.Core.Path.{◌≡◌, refl, ap, ◌∙◌}
use mathlib.Core.Bool.{Bool, true, false}
use mathlib.Core.List.{List, [], ◌∷◌, ◌++◌}
use mathlib.Core.Option.{Option, none, some}
use lib.ListN.{length}
use borrow.Author.Tests.{not-false}
use Rattle.predictive.specs.Forest.{Fault, refusal}
use Rattle.predictive.specs.Grammar.{Head, one, is}
use Rattle.predictive.specs.Reader.{unmet, ones, twos, heads_of, null, first}
use Rattle.predictive.specs.Events.{erring}
use Rattle.predictive.proofs.Tests.{or_true_l, ◌and◌}
use Rattle.predictive.proofs.Heads.{same, among, within-heads, minus}
use Rattle.predictive.proofs.Bounds.{form_fits, forms-fit}
use Rattle.predictive.proofs.Takes.{takes}
use Rattle.predictive.proofs.EventLaws.{erring-reading}
use Rattle.predictive.proofs.Unmet.{Known, covers, grants, without, sure, never_met}
use Rattle.aadl.specs.declared.Answer.{Answer}
use Rattle.aadl.specs.Limits.{Limits}
use Rattle.aadl.specs.Kinds.{#◌, PROPERTIES_KW}
use Rattle.aadl.specs.Section.{Rule, rules, Expression, Negated, Operand, Classifier, firsts, keywords, names, grammar, section}
use Rattle.aadl.specs.Symbols.{symbols}
use Rattle.aadl.specs.Encoding.{room}
use Rattle.aadl.specs.Reading.{reading, events}
use Rattle.aadl.specs.Answers.{text_checks, section_checks}
use Rattle.aadl.specs.Calls.{tokens_call, section_call}
use Rattle.aadl.specs.Demand.{answered_events}
use Rattle.aadl.specs.Promises.{SectionCalled}
use Rattle.aadl.proofs.Checks.{fails_by}
use Rattle.aadl.proofs.CallsRead.{section-whole, events-told}
use Rattle.aadl.proofs.Asides.{is-message}

-- What a rule asks to stand where it is called.
abbrev asks : Rule → Option (List Head)
asks Expression = none
asks Negated = none
asks Operand = none
asks Classifier = some (firsts Classifier)

-- The section grammar is sure of the faults that pass q, where one of the known heads stands first.
module _ (q : Fault → Bool) (known : Option (List Head)) where
  record Sure : Type 0 where
    no_refusal : q (refusal grammar.deep) ≡ false
    rules-sure : (r : Rule) → sure q grammar asks (asks r) (rules r) ≡ true
    section-sure : sure q grammar asks known section ≡ true

  never-erring : Sure → (limits : Limits) (xs : List ℕ) → Known known xs → erring q (events limits xs) ≡ false
  unfolding events reading
  never-erring s limits xs k =
      erring-reading q (reading limits xs)
      ∙ never_met q grammar asks (suc (length xs)) s.no_refusal s.rules-sure limits.openers section known s.section-sure xs k (omega arith)

-- a section begins with `properties`, or it is refused
abbrev begins : List Head
begins = one (# PROPERTIES_KW) ∷ []

sure-of_0 : Sure (is-message unmet) (some begins)
unfolding keywords names ones twos heads_of null first ◌and◌ same among within-heads minus form_fits forms-fit takes covers grants without sure
sure-of_0 = record { no_refusal = refl; rules-sure = elim [ Expression ↦ refl | Negated ↦ refl | Operand ↦ refl | Classifier ↦ refl ]; section-sure = refl }

sure-of_3 : Sure (is-message 3) none
unfolding keywords names ones twos heads_of null first ◌and◌ same among within-heads minus form_fits forms-fit takes covers grants without sure
sure-of_3 = record { no_refusal = refl; rules-sure = elim [ Expression ↦ refl | Negated ↦ refl | Operand ↦ refl | Classifier ↦ refl ]; section-sure = refl }

-- Message 0 is never met: no token is missing that is taken only where it stands, and no loop meets its bound.
pub never-message_0 : (limits : Limits) (xs : List ℕ) → is (# PROPERTIES_KW) xs ≡ true → erring (is-message 0) (events limits xs) ≡ false
never-message_0 limits xs e = never-erring (is-message unmet) (some begins) sure-of_0 limits xs (or_true_l (is (# PROPERTIES_KW) xs) false e)

-- Message 3 is never met.
pub never-message_3 : (limits : Limits) (xs : List ℕ) → erring (is-message 3) (events limits xs) ≡ false
never-message_3 limits xs = never-erring (is-message 3) none sure-of_3 limits xs tt

-- So an answer of the section call that refuses nothing has neither among its events.
pub never-answered : {limits : Limits} {text old last : List ℕ} {a : Answer} {ts es : List ℕ} → SectionCalled limits text old last a ts es → a.number ≡ 0 →
    (erring (is-message 0) (answered_events a es) ≡ false) × (erring (is-message 3) (answered_events a es) ≡ false)
unfolding section_call tokens_call
never-answered {limits} {text} {old} {last} {a} {ts} {es} c z =
    let xs = symbols text in
    let cs = text_checks limits text (length old) ++ section_checks limits text (room (length last)) in
    let stands = not-false (is (# PROPERTIES_KW) xs) (fails_by 4 cs (section-whole c z).none) in
    let told : answered_events a es ≡ events limits xs = events-told c z in
    (ap (erring (is-message 0)) told ∙ never-message_0 limits xs stands, ap (erring (is-message 3)) told ∙ never-message_3 limits xs)
