-- A parser that is passed over a text's tokens, one by one, stands at the start of the next (Places). Assumes nothing.
use Prim.Native.Nat.{ℕ, suc, ◌<◌}
use mathlib.Core.Path.{◌≡◌, refl, sym, ap, subst, ◌∙◌}
use mathlib.Core.Bool.{Bool, cond}
use mathlib.Core.List.{List, []}
use lib.ListN.{length}
use borrow.Author.Tests.{eq-eqb}
use Rattle.aadl.specs.Symbols.{start_of}
use Rattle.aadl.specs.Answers.{token_words}
use Rattle.parser.specs.declared.Counters.{Counters}
use Rattle.parser.specs.Input.{Input, input, new}
use Rattle.parser.specs.State.{State, state, going, passed, pass}
use Rattle.parser.specs.Reads.{Ran}
use Rattle.section.specs.Standing.{Passed}
use Rattle.section.proofs.Places.{behind-byte, new-behind, next-behind}

module _ (text ws : List ℕ) (w : ws ≡ token_words text) where
  pub passed_none : (p : Counters) (l : ℕ) → length text < 65536 → p ≡ new (input text ws) l → Passed text 0 p
  unfolding new
  passed_none p l h e =
      let q : p ≡ new (input text (token_words text)) l = e ∙ ap (λ (v : List ℕ). new (input text v) l) w in
      subst (Passed text 0) (sym q) (record { goes = refl; behind = new-behind text l h })

  pub passed-one : (k : ℕ) (p r : Counters) → Passed text k p → Ran (pass (input text ws)) p [] r [] → Passed text (suc k) r
  unfolding pass going
  passed-one k p r x y =
      let inp : Input = input text (token_words text) in
      let e : r ≡ (passed inp (state p [])).parser =
      ap (λ (s : State). s.parser) y.ran ∙ ap (λ (v : List ℕ). (pass (input text v) (state p [])).parser) w
      ∙ ap (λ (t : Bool). (cond t (passed inp (state p [])) (state p [])).parser) (eq-eqb p.stop 0 x.goes) in
      record { goes = ap (λ (q : Counters). q.stop) e ∙ x.goes; behind = next-behind text k p r x.behind (ap (λ (q : Counters). q.at) e) (ap (λ (q : Counters). q.byte) e) }

-- It stands at the start of the next one.
pub passed-place : (text : List ℕ) (k : ℕ) (p : Counters) → Passed text k p → p.byte ≡ start_of text k
passed-place text k p x = behind-byte text k p x.behind
