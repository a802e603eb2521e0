-- The words before the token come to its byte, so the tokens from there on have those before it behind them (section's Seeking). Assumes nothing.
use Prim.Native.Nat.{ℕ}
use native.Mathlib.Omega.{arith}
use mathlib.Core.Path.{refl, ap, ◌∙◌}
use mathlib.Core.List.{List}
use lib.ListN.{take}
use Rattle.aadl.specs.Tokens.{total}
use Rattle.section.proofs.WordsBack.{total-token_words}
use Rattle.section.proofs.Seeking.{total-around, sought}
use Rattle.value.proofs.seek.Goals as goal

pub sum_of_lengths-byte-requires : goal.sum_of_lengths-byte-requires
sum_of_lengths-byte-requires c =
    let a = c.args in
    omega (arith, total-around a.words.now a.at, ap total c.requires.1, total-token_words a.text.now c.requires.0, c.requires.0)

pub returns : goal.returns
returns c = λ n e.
    let a = c.args in
    let byte = c.sum_of_lengths-byte.ensures ∙ ap (λ (ws : List ℕ). total (take a.at ws)) c.requires.1 in
    record {
      short = c.requires.0;
      text_is = refl;
      words_are = c.requires.1;
      stands = record { goes = refl; behind = sought a.text.now c.requires.0 n _ e byte };
    }
