-- The answer is that of the first check whose case holds (aadl's AnswerLaws); a refusal clears the words, and else they are filled. That
-- each token which is a word has that word's kind follows from both (aadl's `tokens-promised`). Assumes nothing.
use Prim.Native.Nat.{ℕ, suc, ◌-◌}
use native.Mathlib.Omega.{arith}
use mathlib.Core.Path.{◌≡◌, sym, ap, subst, ◌∙◌}
use mathlib.Core.Bool.{true}
use mathlib.Core.List.{List, [], ◌∷◌}
use lib.ListN.{length, replicate}
use Rattle.aadl.specs.declared.Answer.{Answer}
use Rattle.aadl.specs.declared.Limits.{Limits}
use Rattle.aadl.specs.Limits.{Allowed}
use Rattle.aadl.specs.declared.Token.{Token}
use Rattle.aadl.specs.Tokens.{token}
use Rattle.aadl.specs.Answers.{refused, answered, all_tokens, tokens_answer, token_words, left_in}
use Rattle.aadl.specs.Calls.{tokens_call}
use Rattle.aadl.specs.Promises.{TokensCalled}
use Rattle.aadl.proofs.AnswerLaws.{too_long, not_utf8, no_word_left, not_closed, text-passes, tokens_answer-is, left-by_refusal, left-answered}
use Rattle.aadl.proofs.CallsRead.{tokens-promised}
use Rattle.aadl.proofs.Unclosed.{LastTells}
use Rattle.lexer.specs.declared.Filled.{Filled}
use Rattle.std.specs.Prelude.{Option, Some, Ok, Err, unwrap_or}
use Rattle.lexer.proofs.FillLaws.{filled-told, all-written}
use borrow.Author.Tests.{not-true, not-false}
use Rattle.lexer.proofs.tokenize_within.Goals as goal
use Rattle.lexer.proofs.tokenize_within.Goals.{in-Some+else-not-last, in_default}

-- what a refused call leaves in the words, by its answer
zeros : (r : Answer) (n p : ℕ) (ws old : List ℕ) → r ≡ refused (suc n) p → replicate (length old) 0 ≡ left_in r ws old
zeros r n p ws old e = sym (left-by_refusal r ws old (λ z. omega (arith, z, ap (λ (a : Answer). a.number) e)))

-- so the call did what it promises
called : (limits : Limits) (text old ts : List ℕ) (r : Answer) → Allowed limits → r ≡ tokens_answer limits text (length old) → ts ≡ left_in r (token_words text) old →
    TokensCalled limits text old r ts
unfolding tokens_call tokens_answer left_in
called limits text old ts r h e w = tokens-promised limits text old (record { answer = e; exit = λ i. w i ∷ [] }) h

pub returns-then-limits-src : goal.returns-then-limits-src
returns-then-limits-src c =
    let x = c.args in
    let xs = x.src.now in
    let old = x.tokens.now in
    let limits = x.limits in
    let a = too_long limits xs (length old) [] (all_tokens xs) c.if-limits-src.true in
    let w = c.refuse in
    called limits xs old _ _ c.requires (w.ensures.0 ∙ sym (tokens_answer-is limits xs (length old) ∙ a))
    (w.ensures.1 ∙ zeros w.result 0 limits.bytes (token_words xs) old w.ensures.0)

pub returns-then-v-src : goal.returns-then-v-src
returns-then-v-src c =
    let x = c.args in
    let xs = x.src.now in
    let old = x.tokens.now in
    let limits = x.limits in
    let v = c.valid_up_to-v.ensures in
    let a = not_utf8 limits xs (length old) [] (all_tokens xs) c.if-limits-src.false (λ q. c.if-v-src.true (v ∙ q)) in
    let w = c.refuse-then-v-src in
    called limits xs old _ _ c.requires (w.ensures.0 ∙ ap (refused 2) v ∙ sym (tokens_answer-is limits xs (length old) ∙ a))
    (w.ensures.1 ∙ zeros w.result 1 c.valid_up_to-v.result (token_words xs) old w.ensures.0)

pub returns-in-Err : goal.returns-in-Err
returns-in-Err c =
    let x = c.args in
    let xs = x.src.now in
    let old = x.tokens.now in
    let limits = x.limits in
    let utf8 = sym c.valid_up_to-v.ensures ∙ c.if-v-src.false in
    let f = filled-told xs (length old) (Err c.in-Err.at) (sym c.in-Err.is ∙ c.fill.ensures.0) in
    let a = no_word_left limits xs (length old) [] (all_tokens xs) c.if-limits-src.false utf8 f.0 in
    let w = c.refuse-in-Err in
    called limits xs old _ _ c.requires (w.ensures.0 ∙ ap (refused 3) f.1 ∙ sym (tokens_answer-is limits xs (length old) ∙ a))
    (w.ensures.1 ∙ ap (λ (k : ℕ). replicate k 0) c.fill.auto.tokens ∙ zeros w.result 2 c.in-Err.at (token_words xs) old w.ensures.0)

-- a last token that is there
last-there : (text : List ℕ) (f : Filled) (t : Token) → f.last ≡ Some t → LastTells text (unwrap_or f.last (token 0 0)) → LastTells text t
last-there text f t e h = subst (LastTells text) (ap (λ (o : Option Token). unwrap_or o (token 0 0)) e) h

pub overflow_sub-src : goal.overflow_sub-src
overflow_sub-src c =
    let f = filled-told c.args.src.now (length c.args.tokens.now) (Ok c.in-Ok.filled) (sym c.in-Ok.is ∙ c.fill.ensures.0) in
    (last-there c.args.src.now c.in-Ok.filled c.in-Some.last c.in-Some.is f.2).inside

pub returns-then-not-last : goal.returns-then-not-last
returns-then-not-last c =
    let xs = c.args.src.now in
    let old = c.args.tokens.now in
    let limits = c.args.limits in
    let utf8 = sym c.valid_up_to-v.ensures ∙ c.if-v-src.false in
    let last = c.in-Some.last in
    let f = filled-told xs (length old) (Ok c.in-Ok.filled) (sym c.in-Ok.is ∙ c.fill.ensures.0) in
    let tells = last-there xs c.in-Ok.filled last c.in-Some.is f.2 in
    let unclosed = not-true last.closed c.if-not-last.true in
    let a = not_closed limits xs (length old) [] (all_tokens xs) c.if-limits-src.false utf8 f.0 (tells.refuses unclosed) in
    let w = c.refuse-then-not-last in
    called limits xs old _ _ c.requires (w.ensures.0 ∙ ap (refused 8) (tells.start unclosed) ∙ sym (tokens_answer-is limits xs (length old) ∙ a))
    (w.ensures.1 ∙ ap (λ (k : ℕ). replicate k 0) c.fill.auto.tokens ∙ zeros w.result 7 (length xs - last.len) (token_words xs) old w.ensures.0)

pub returns : goal.returns
returns c =
    let xs = c.args.src.now in
    let old = c.args.tokens.now in
    let limits = c.args.limits in
    let utf8 = sym c.valid_up_to-v.ensures ∙ c.if-v-src.false in
    let f = filled-told xs (length old) (Ok c.in-Ok.filled) (sym c.in-Ok.is ∙ c.fill.ensures.0) in
    let closed : (unwrap_or c.in-Ok.filled.last (token 0 0)).closed ≡ true =
    elim c.match-filled.branch [
      | in-Some+else-not-last w ↦ ap (λ (o : Option Token). (unwrap_or o (token 0 0)).closed) w.in-Some.is ∙ not-false _ w.if-not-last.false
      | in_default w ↦ ap (λ (o : Option Token). (unwrap_or o (token 0 0)).closed) w.in_default.is
    ] in
    let a = text-passes limits xs (length old) [] (all_tokens xs) c.if-limits-src.false utf8 f.0 (f.2.passes closed) in
    let d = c.default.ensures in
    let n = c.in-Ok.filled.count in
    let is : ◌≡◌ {A = Answer} _ (answered n 0 0) = λ i. record { number = d.0 i; place = d.1.0 i; tokens = n; taken = d.1.1.1.0 i; events = d.1.1.1.1 i } in
    called limits xs old _ _ c.requires (is ∙ ap (λ (k : ℕ). answered k 0 0) f.1 ∙ sym (tokens_answer-is limits xs (length old) ∙ a))
    (c.fill.ensures.1 ∙ all-written xs old f.0 ∙ sym (left-answered n 0 0 (token_words xs) old) ∙ ap (λ (r : Answer). left_in r (token_words xs) old) (sym is))
