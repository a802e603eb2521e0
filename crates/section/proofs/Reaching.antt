-- Tokens that are passed one by one stand at the start of the next (Places). Assumes nothing.
use Prim.Native.Nat.{ℕ, suc, ◌<◌}
use mathlib.Core.Path.{◌≡◌, refl, sym, ap, subst}
use mathlib.Core.List.{List}
use lib.ListN.{length, drop}
use Rattle.std.specs.Borrow.{Bor}
use Rattle.aadl.specs.Symbols.{start_of}
use Rattle.aadl.specs.Answers.{token_words}
use Rattle.parser.specs.declared.Tokens.{Tokens}
use Rattle.parser.specs.Counters.{Place}
use Rattle.parser.specs.Input.{input, after_one, next, new}
use Rattle.parser.specs.Parsers.{cursor, moved_to, next_place, first_of}
use Rattle.section.specs.Standing.{Behind}
use Rattle.section.specs.Reaching.{Reached, Stands}
use Rattle.section.proofs.Places.{behind-byte, new-behind, next-behind}

pub reached-first : (text words : Bor (List ℕ)) → length text.now < 65536 → words.now ≡ token_words text.now → Reached text.now 0 (first_of text words)
unfolding new
reached-first text words h e =
    record {
      short = h;
      text_is = refl;
      words_are = e;
      stands = record { goes = refl; behind = subst (λ (ws : List ℕ). Behind text.now 0 (new (input text.now ws) 0)) (sym e) (new-behind text.now 0 h) };
    }

module _ (text : List ℕ) (k : ℕ) (t : Tokens) (x : Reached text k t) where
  pub reached-next : (r : Tokens) → r ≡ moved_to (next_place t) t → Reached text (suc k) r
  reached-next r e =
      let place : next_place t ≡ next (input text (token_words text)) (cursor t) = λ i. after_one (x.text_is i) t.at t.byte (drop t.at (x.words_are i)) in
      subst (Reached text (suc k)) (sym e)
      (record {
        short = x.short;
        text_is = x.text_is;
        words_are = x.words_are;
        stands = record {
          goes = refl;
          behind = next-behind text k (cursor t) (cursor (moved_to (next_place t) t)) x.stands.behind (ap (λ (p : Place). p.at) place) (ap (λ (p : Place). p.byte) place);
        };
      })

  pub reached-place : t.byte ≡ start_of text k
  reached-place = behind-byte text k (cursor t) x.stands.behind

  -- their own text is the text
  pub reached-own : Reached t.text.now k t
  reached-own = subst (λ (s : List ℕ). Reached s k t) (sym x.text_is) x

  pub reached-stands : Stands t
  reached-stands = (k, reached-own)
