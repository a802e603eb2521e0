-- What the section call answers and leaves has the listing's lines, of the first bytes and so of the whole text (EndToEnd). Assumes nothing.
use native.Mathlib.Omega.{arith}
use mathlib.Core.Path.{◌≡◌, sym, ap, subst, ◌∙◌}
use mathlib.Core.Bool.{false}
use mathlib.Core.List.{List}
use Prim.Native.Nat.{ℕ}
use lib.ListN.{length, take}
use Rattle.aadl.specs.Answers.{section_answer}
use Rattle.aadl.specs.Promises.{SectionCalled}
use Rattle.aadl.specs.Listing.{lent_tokens, lent_events, listing}
use Rattle.writing.proofs.LeastLaws.{take_least}
use Rattle.parser.specs.Input.{input}
use Rattle.aadl.proofs.CallsRead.{section-answered}
use Rattle.listing.specs.Positions.{begin}
use Rattle.listing.specs.Pieces.{joined, left}
use Rattle.listing.proofs.EndToEnd.{answer-lines, call_listed, first-bytes_listed}
use Rattle.listing.proofs.begin_within.Goals as goal

pub returns : goal.returns
unfolding left
returns c =
    let x = c.args in
    let r = c.property_section_within-a in
    let ts = r.new.tokens in
    let es = r.new.events in
    let a = r.result in
    let k = c.first-c in
    let src = take c.min-n.result x.text.now in
    let long : length x.text.now ≡ 32769 = omega arith in
    let s = take_least _ x.bytes _ x.text.now c.min-n.ensures long in
    let m : length x.tokens.now ≡ lent_tokens = omega arith in
    let n : length x.events.now ≡ lent_events = omega arith in
    let t = take_least _ a.tokens _ ts c.min-t.ensures (r.auto.tokens ∙ m) in
    let position-is = k.ensures ∙ ap (λ (l : List ℕ). begin (input src l)) t in
    let listed = call_listed r.ensures c.requires m n k.result position-is in
    let told = section-answered r.ensures ∙ (λ i. section_answer x.limits (s i) (m i) (n i)) in
    let position-told = position-is ∙ (λ i. begin (input (s i) (take (told i).tokens ts))) in
    record {
      called = subst (λ (l : List ℕ). SectionCalled x.limits l x.tokens.now x.events.now a ts es) s r.ensures;
      stands = λ i. record { bytes = x.bytes; answer = told i; begun = false; event = 0; position = position-told i };
      lists =
          record {
            lists =
                λ t e. (λ i. joined (answer-lines (sym s i) ts es a k.result)) ∙ listed ∙ ap (listing x.limits) (s ∙ e)
                ∙ first-bytes_listed x.limits t (length x.text.now) (omega (arith, long, c.requires));
          };
    }
