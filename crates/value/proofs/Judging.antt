-- What is found of an association's value, way by way: the text is not clean, has no such association, its first value is no constant, it
-- leaves the range, or it comes to a number. Each gives a right verdict: words tell whether the text is clean and at which token the
-- association starts, and the pass over its tokens tells its constant's outcome. Assumes nothing.
use Prim.Native.Nat.{ℕ, ◌+◌, ◌≤◌, ◌<◌}
use native.Mathlib.Omega.{arith}
use mathlib.Core.Path.{◌≡◌, refl, sym, ap, ◌∙◌}
use mathlib.Core.Bool.{Bool, true, false, not}
use mathlib.Core.List.{List, [], map, append-nil}
use mathlib.Core.Option.{Option, none, some}
use lib.ListN.{length, get_or, take, drop, length-map, get_or-map}
use lib.Dec.{ltb}
use lib.IntN.{ℤ}
use Rattle.std.specs.Prelude.{Some, None, Ok, Err}
use borrow.Author.Tests.{ltb-true, ltb-false, le-leb, lt-leb}
use Rattle.predictive.specs.Events.{Event, taken}
use Rattle.predictive.proofs.Tests.{never, or_neither, or_true_l, or_true_r}
use Rattle.aadl.specs.declared.Limits.{Limits}
use Rattle.aadl.specs.Tokens.{tokens, token_word}
use Rattle.aadl.specs.Symbols.{symbols, start_of, raw_number}
use Rattle.aadl.specs.Encoding.{event_word, event_in, words_for, words_of}
use Rattle.aadl.specs.Reading.{events, reads_cleanly}
use Rattle.aadl.specs.Values.{Constant, Outcome, exact, beyond, in_range, value, number_at, Association, association}
use Rattle.aadl.specs.ValueCall.{nth_association, text_associations, value_refused}
use Rattle.aadl.proofs.Lists.{each_at}
use Rattle.aadl.proofs.TokensCover.{tokens-within_text}
use Rattle.aadl.proofs.RawNumbers.{raw_number-counted}
use Rattle.aadl.proofs.EventPairs.{length_words_of, first_words-of}
use Rattle.aadl.proofs.EventWords.{words-tell_events}
use Rattle.aadl.proofs.EventTokens.{token_named-is}
use Rattle.aadl.proofs.ValueCalls.{lacks-it, refused-lacking, refused-no_constant, refused-beyond, value-passed}
use Rattle.int64.specs.declared.Whole.{Whole}
use Rattle.int64.specs.Integers.{integer}
use Rattle.bands.specs.Bands.{tally, nth_within}
use Rattle.bands.proofs.Counted.{nth-among, nth-none}
use Rattle.evaluator.specs.Pass.{past_arrow}
use Rattle.evaluator.specs.Terms.{Held, FirstValue}
use Rattle.evaluator.proofs.Sums.{outcome}
use Rattle.evaluator.proofs.FirstValues.{Right}
use Rattle.value.specs.declared.NoValue.TheVariants.{NoConstant, Beyond}
use Rattle.value.specs.Words.{starting}
use Rattle.value.specs.Starts.{starts_in}
use Rattle.value.specs.Verdicts.{WasRead, Judged}
use Rattle.value.proofs.AssociationStarts.{text-starts, text-valued}
use Rattle.value.proofs.WordBands.{number-starts_not}
use Rattle.value.proofs.FirstWords.{nth-first}
use Rattle.value.proofs.StartWords.{starts-counted, start-found}

-- OUTCOMES -------------------------------------------------------------------------------------------------------------

abbrev given : Option Outcome → Bool
given none = false
given (some o) = true

abbrev or_else : Outcome → Option Outcome → Outcome
or_else d none = d
or_else d (some o) = o

no_constant : (c : Option Constant) → outcome c ≡ none → c ≡ none
no_constant none e = refl
no_constant (some c) e = never (sym (ap given e))

-- The constant that comes to an outcome.
record Comes (c : Option Constant) (o : Outcome) : Type 0 where
  constant : Constant
  it_is : c ≡ some constant
  comes : value constant ≡ o

comes_to : (c : Option Constant) (o : Outcome) → outcome c ≡ some o → Comes c o
comes_to none o e = never (ap given e)
comes_to (some c) o e = record { constant = c; it_is = refl; comes = ap (or_else o) e }

module _ (text : List ℕ) where
  -- an outcome that is beyond the range, and one that is in it
  far : (o : Outcome) (p : ℕ) → Held text o (Err p) → (i : ℕ) × (o ≡ beyond i) × (p ≡ start_of text i)
  far (exact z) p h = absurd h
  far (beyond i) p h = (i, refl, h)

  near : (o : Outcome) (w : Whole) → Held text o (Ok w) → (o ≡ exact (integer w)) × (in_range (integer w) ≡ true)
  near (exact z) w h = (ap exact (sym h.0), ap in_range h.0 ∙ h.1)
  near (beyond i) w h = absurd h

-- A value that is in the range can be given.
pub value-fits : (text : List ℕ) (f : ℕ) (w : Whole) → FirstValue text f (Some (Ok w)) → in_range (integer w) ≡ true
value-fits text f w x = (near text x.0 w x.1).1

-- WAY BY WAY -----------------------------------------------------------------------------------------------------------

module _ {limits : Limits} {text toks ws : List ℕ} {clean : Bool} (x : WasRead limits text toks ws clean) where
  abbrev es : List Event
  es = events limits (symbols text)

  -- the events' first words, which tell them
  abbrev firsts : List ℕ
  firsts = map event_word es

  tells : map event_in firsts ≡ es
  tells = ap (map event_in) (sym (first_words-of (raw_number text) 0 es)) ∙ words-tell_events limits text x.deep x.few

  -- There are few words, and a second word is no larger than the token count.
  pub few_tokens : length toks < 65536
  few_tokens = omega (arith, ap length x.words, length-map (tokens text) token_word, tokens-within_text text, x.short)

  pub few-events : length ws ≡ words_for (length es)
  few-events = ap length x.pairs ∙ length_words_of (raw_number text) 0 es

  pub number-counted : (n : ℕ) → raw_number text n ≤ length toks
  number-counted n = omega (arith, raw_number-counted text n, ap length x.words, length-map (tokens text) token_word)

  small : (n : ℕ) → raw_number text n < 65536
  small n = omega (arith, number-counted n, few_tokens)

  module _ (k : ℕ) where
    abbrev found : List Association
    found = text_associations limits text

    abbrev its : Association
    its = nth_association k found

    -- Refusal 9 at the text's length, whatever words were lent.
    lacking : lacks-it limits text k ≡ true → Judged limits text k (Err (NoConstant (length text)))
    lacking h = record { decides = λ a. refused-lacking limits text k a h }

    pub judged-unclean : clean ≡ false → Judged limits text k (Err (NoConstant (length text)))
    judged-unclean c = lacking (or_true_l (not (reads_cleanly limits (symbols text))) _ (ap not (sym x.cleanly ∙ c)))

    -- the event of the association's Start, and its first word among all words
    abbrev start : ℕ
    start = nth_within starting k firsts

    start_word : nth_within starting k ws ≡ words_for start
    start_word =
        ap (nth_within starting k) x.pairs ∙ nth-first starting (raw_number text) (λ n. number-starts_not (raw_number text n) (small n)) 0 k es

    module _ (so : clean ≡ true) where
      c : reads_cleanly limits (symbols text) ≡ true
      c = sym x.cleanly ∙ so

      all-starts : map (λ (a : Association). a.first) found ≡ starts_in 0 (map event_in firsts)
      all-starts = text-starts limits text c ∙ ap (starts_in 0) (sym tells)

      as_many : length found ≡ tally starting firsts
      as_many = sym (length-map found (λ (a : Association). a.first)) ∙ ap length all-starts ∙ starts-counted firsts 0

      pub judged-absent : length ws ≤ nth_within starting k ws → Judged limits text k (Err (NoConstant (length text)))
      judged-absent h =
          lacking (or_true_r (not (reads_cleanly limits (symbols text))) _ (le-leb (length found) k (none_left (ltb k (tally starting firsts)) refl)))
        where
          none_left : (t : Bool) → ltb k (tally starting firsts) ≡ t → length found ≤ k
          none_left true l =
              absurd (omega (arith, nth-among starting firsts k (ltb-true k (tally starting firsts) l), h, start_word, few-events, length-map es event_word))
          none_left false l = omega (arith, as_many, ltb-false k (tally starting firsts) l)

      -- The association's Start is there.
      module _ (h : nth_within starting k ws < length ws) where
        started : start < length es
        started = omega (arith, h, start_word, few-events)

        there : k < length found
        there = go (ltb k (tally starting firsts)) refl
          where
            go : (t : Bool) → ltb k (tally starting firsts) ≡ t → k < length found
            go true l = omega (arith, as_many, ltb-true k (tally starting firsts) l)
            go false l = absurd (omega (arith, nth-none starting firsts k (ltb-false k (tally starting firsts) l), started, length-map es event_word))

        -- The word behind it names the association's first token.
        pub second-there : nth_within starting k ws + 1 < length ws
        second-there = omega (arith, started, start_word, few-events)

        first-is : taken (take start es) ≡ its.first
        first-is =
            let counted = start-found firsts k 0 0 (omega (arith, started, length-map es event_word)) in
            let by-starts = ap (λ (l : List ℕ). get_or l k 0) all-starts in
            let by_number = get_or-map (λ (a : Association). a.first) found k (association 0 none) in
            omega (arith, counted, ap (λ (l : List Event). taken (take start l)) tells, by-starts, by_number)

        pub second_is : get_or ws (nth_within starting k ws + 1) 0 ≡ raw_number text its.first
        second_is =
            (λ i. get_or (x.pairs i) (start_word i + 1) 0)
            ∙ ap (λ (l : List ℕ). get_or l (words_for start + 1) 0) (sym (append-nil (words_of (raw_number text) 0 es)))
            ∙ token_named-is (raw_number text) 0 es [] start started
            ∙ ap (raw_number text) (omega (arith, first-is))

        nothing-lacks : lacks-it limits text k ≡ false
        nothing-lacks = or_neither (not (reads_cleanly limits (symbols text))) _ (ap not c) (lt-leb (length found) k there)

        -- What the pass gives from there is the outcome of its constant.
        abbrev given-there : Option Outcome
        given-there = past_arrow (number_at text) its.first (drop its.first (symbols text))

        right : outcome its.constant ≡ given-there
        right = each_at (Right (number_at text) (symbols text)) found k (association 0 none) there (text-valued limits text c)

        pub judged-no_constant : FirstValue text its.first None → (p : ℕ) → p ≡ start_of text its.first → Judged limits text k (Err (NoConstant p))
        judged-no_constant n p q =
            record { decides = λ a. refused-no_constant limits text k a nothing-lacks (no_constant its.constant (right ∙ n)) ∙ ap (value_refused 9) (sym q) }

        pub judged-beyond : (p : ℕ) → FirstValue text its.first (Some (Err p)) → Judged limits text k (Err (Beyond p))
        judged-beyond p r =
            let comes = comes_to its.constant r.0 (right ∙ r.2) in
            let y = far text r.0 p r.1 in
            record {
              decides = λ a.
                  refused-beyond limits text k a nothing-lacks comes.constant comes.it_is y.0 (comes.comes ∙ y.1) ∙ ap (value_refused 10) (sym y.2);
            }

        pub judged-valued : (w : Whole) (v : ℤ) → FirstValue text its.first (Some (Ok w)) → v ≡ integer w → Judged limits text k (Ok v)
        judged-valued w v r q =
            let comes = comes_to its.constant r.0 (right ∙ r.2) in
            let y = near text r.0 w r.1 in
            record { decides = λ a. value-passed limits text k a nothing-lacks comes.constant comes.it_is v (comes.comes ∙ y.0 ∙ ap exact (sym q)) }
