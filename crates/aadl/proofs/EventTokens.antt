-- 02's request Seven, of the words that the section call leaves: the token that each event names. An event's second word is the raw number of
-- the token behind those that the events before it take (`token_named-is`), so all follows from how many they take and from the laws of
-- raw numbers. The kinds of the Token events are the forest's leaves, so a Token names a token of its kind; and the event at which a node
-- opens names what the node's record does (NodesOpen). Assumes nothing.
use Prim.Native.Nat.{ℕ, zero, suc, ◌+◌, ◌-◌, ◌≤◌, ◌<◌}
use native.Mathlib.Nat.{not-suc-le-zero, le_of_suc-le-suc}
use native.Mathlib.Omega.{arith}
use mathlib.Core.Path.{◌≡◌, refl, sym, ap, ◌∙◌}
use mathlib.Core.Bool.{false}
use mathlib.Core.List.{List, [], ◌∷◌, ◌++◌, map, map-map, append_assoc, append-nil}
use lib.ListN.{length, get_or, take, drop, length-append}
use lib.Seq.{split_at, take-add, get_or_at}
use Rattle.predictive.specs.Forest.{Forest, nil, leaf, err, node, wrap, leaves}
use Rattle.predictive.specs.Events.{Event, start, token, finish, error, behind_start, taken}
use Rattle.predictive.specs.Events as E
use Rattle.predictive.specs.Tree.{Step, steps, spell}
use Rattle.predictive.proofs.EventLaws.{taken-append}
use Rattle.predictive.proofs.Spell.{steps-events}
use Rattle.aadl.specs.declared.Token.{Token}
use Rattle.aadl.specs.Limits.{Limits, most_events}
use Rattle.aadl.specs.Kinds.{#◌, PROPERTY_SECTION}
use Rattle.aadl.specs.Tokens.{tokens, kind_in, total}
use Rattle.aadl.specs.Symbols.{is_trivia, symbols, kinds, start_of, raw_number}
use Rattle.aadl.specs.Encoding.{words_for, words_of}
use Rattle.aadl.specs.Reading.{events, too_deep}
use Rattle.aadl.specs.Answers.{all_answered, token_words, event_words}
use Rattle.aadl.specs.Demand.{answered_events}
use Rattle.aadl.specs.Records.{Record, records, text_records}
use Rattle.aadl.specs.EventTokens.{token_named, opened_at, TokensKnown}
use Rattle.aadl.proofs.TokensCover.{tokens-cover_text, kinds-small}
use Rattle.aadl.proofs.SymbolLaws.{symbols-show_kinds}
use Rattle.aadl.proofs.RawNumbers.{raw_number-rises, raw_number-counted, raw_number-place, raw_number-kind}
use Rattle.aadl.proofs.EventWords.{first_words-tell}
use Rattle.aadl.proofs.Root.{rooted, rooted-records}
use Rattle.aadl.proofs.NodesOpen.{firsts, first_of, firsts-records, opened-named}
use Rattle.aadl.proofs.TokenText.{counted, token-at}

-- THE SECOND WORD ------------------------------------------------------------------------------------------------------

pub token_named-is : (number : ℕ → ℕ) (t : ℕ) (es : List Event) (rest : List ℕ) (i : ℕ) → i < length es →
    get_or (words_of number t es ++ rest) (words_for i + 1) 0 ≡ number (t + taken (take i es))
unfolding taken
token_named-is number t [] rest i h = absurd (not-suc-le-zero h)
token_named-is number t (e ∷ es) rest zero h = ap number (omega arith)
token_named-is number t (e ∷ es) rest (suc i) h =
    let ws = words_of number t (e ∷ es) ++ rest in
    let n : words_for (suc i) + 1 ≡ suc (suc (words_for i + 1)) = omega arith in
    ap (λ (k : ℕ). get_or ws k 0) n
    ∙ token_named-is number (t + taken (e ∷ [])) es rest i (le_of_suc-le-suc h)
    ∙ ap number (omega (arith, taken-append (e ∷ []) (take i es)))

-- More events take no fewer tokens.
taken-rises : (es : List Event) (i j : ℕ) → i ≤ j → taken (take i es) ≤ taken (take j es)
taken-rises es i j h =
    let n : j ≡ i + (j - i) = omega (arith, h) in
    omega (arith, ap (λ (k : ℕ). taken (take k es)) n, ap taken (take-add i (j - i) es), taken-append (take i es) (take (j - i) (drop i es)))

-- A TOKEN'S KIND -------------------------------------------------------------------------------------------------------

-- the kinds of the Token events
token-kinds : List Event → List ℕ
token-kinds [] = []
token-kinds (start k up ∷ es) = token-kinds es
token-kinds (token k ∷ es) = k ∷ token-kinds es
token-kinds (finish ∷ es) = token-kinds es
token-kinds (error m ∷ es) = token-kinds es

token-kinds_append : (xs ys : List Event) → token-kinds (xs ++ ys) ≡ token-kinds xs ++ token-kinds ys
unfolding token-kinds
token-kinds_append [] ys = refl
token-kinds_append (start k up ∷ xs) ys = token-kinds_append xs ys
token-kinds_append (token k ∷ xs) ys = ap (λ (l : List ℕ). k ∷ l) (token-kinds_append xs ys)
token-kinds_append (finish ∷ xs) ys = token-kinds_append xs ys
token-kinds_append (error m ∷ xs) ys = token-kinds_append xs ys

token-kinds_counted : (es : List Event) → length (token-kinds es) ≡ taken es
unfolding token-kinds taken
token-kinds_counted [] = refl
token-kinds_counted (start k up ∷ es) = token-kinds_counted es
token-kinds_counted (token k ∷ es) = ap suc (token-kinds_counted es)
token-kinds_counted (finish ∷ es) = token-kinds_counted es
token-kinds_counted (error m ∷ es) = token-kinds_counted es

token-kinds_events : (f : Forest) (up : ℕ) → token-kinds (E.events f up) ≡ leaves f
unfolding token-kinds E.events leaves
token-kinds_events nil up = refl
token-kinds_events (leaf k f) up = ap (λ (l : List ℕ). k ∷ l) (token-kinds_events f 0)
token-kinds_events (err m f) up = token-kinds_events f 0
token-kinds_events (node k i f) up =
    token-kinds_append (E.events i 0) (finish ∷ E.events f 0) ∙ rw (token-kinds_events i 0, token-kinds_events f 0)
token-kinds_events (wrap k a b f) up =
    token-kinds_append (E.events a (behind_start a) ++ (start k up ∷ E.events b 0)) (finish ∷ E.events f 0)
    ∙ rw (token-kinds_append (E.events a (behind_start a)) (start k up ∷ E.events b 0))
    (rw (token-kinds_events a (behind_start a), token-kinds_events b 0, token-kinds_events f 0))

-- A Token's kind is the one behind those taken before it.
token-kind_at : (es : List Event) (i k : ℕ) → i < length es → get_or es i finish ≡ token k →
    token-kinds es ≡ token-kinds (take i es) ++ (k ∷ token-kinds (drop (suc i) es))
unfolding token-kinds
token-kind_at es i k h e =
    ap token-kinds (split_at es i finish h ∙ ap (λ (x : Event). take i es ++ (x ∷ drop (suc i) es)) e)
    ∙ token-kinds_append (take i es) (token k ∷ drop (suc i) es)

-- THE WORDS OF A TEXT --------------------------------------------------------------------------------------------------

-- with any behind them
module _ (limits : Limits) (text rest others : List ℕ) where
  abbrev es : List Event
  es = events limits (symbols text)

  abbrev ts : List ℕ
  ts = token_words text ++ rest

  abbrev named : (event : ℕ) → ℕ
  named i = token_named (event_words limits text ++ others) i

  -- Event i names the token behind those that the events before it take.
  named-is : (i : ℕ) → i < length es → named i ≡ raw_number text (taken (take i es))
  named-is i h = token_named-is (raw_number text) 0 es others i h ∙ ap (raw_number text) (omega arith)

  never-falls : (i j : ℕ) → i ≤ j → j < length es → named i ≤ named j
  never-falls i j h l =
      rw (named-is i (omega (arith, h, l)), named-is j l) (raw_number-rises text (taken (take i es)) (taken (take j es)) (taken-rises es i j h))

  within : (i : ℕ) → i < length es → named i ≤ length (tokens text)
  within i h = rw (named-is i h) (raw_number-counted text (taken (take i es)))

  -- The kinds of the Token events are the text's first.
  kinds-taken : (us : List ℕ) × (kinds text ≡ token-kinds es ++ us)
  unfolding leaves
  kinds-taken =
      let r = rooted limits (symbols text) in
      let f = node (# PROPERTY_SECTION) r.inside nil in
      let all : token-kinds es ≡ leaves r.inside = ap token-kinds r.its-events ∙ token-kinds_events f 0 ∙ append-nil (leaves r.inside) in
      (r.untaken, sym (symbols-show_kinds text) ∙ r.its-leaves ∙ ap (λ (l : List ℕ). l ++ r.untaken) (sym all))

  -- A Token's kind is that of the text's token behind those taken before it ..
  kind-behind : (i k : ℕ) → i < length es → get_or es i finish ≡ token k →
      (taken (take i es) < length (kinds text)) × (get_or (kinds text) (taken (take i es)) 0 ≡ k)
  kind-behind i k h e =
      let us = kinds-taken.0 in
      let before = token-kinds (take i es) in
      let behind = token-kinds (drop (suc i) es) in
      let all : kinds text ≡ before ++ (k ∷ (behind ++ us)) =
      kinds-taken.1 ∙ ap (λ (l : List ℕ). l ++ us) (token-kind_at es i k h e) ∙ append_assoc before (k ∷ behind) us in
      let count = token-kinds_counted (take i es) in (
        omega (arith, ap length all, length-append before (k ∷ (behind ++ us)), count),
        ap (λ (l : List ℕ). get_or l (taken (take i es)) 0) all ∙ get_or_at before k (behind ++ us) 0 (taken (take i es)) count,
      )

  -- .. which it names.
  names-own : length text < 65536 → (i k : ℕ) → i < length es → get_or es i finish ≡ token k →
      (named i < length (tokens text)) × (kind_in (get_or ts (named i) 0) ≡ k) × (is_trivia k ≡ false)
  names-own short i k h e =
      let n = taken (take i es) in
      let b = kind-behind i k h e in
      let r = raw_number-kind text n b.0 in
      let t = token-at text rest (raw_number text n) short r.0 in
      rw (named-is i h) (r.0, t.kind ∙ sym (ap (λ (x : Token). x.kind) t.token-is) ∙ r.1 ∙ b.1, ap is_trivia (sym b.1) ∙ r.2)

  -- The events at which nodes open name what the nodes' records do.
  names-first : map named (opened_at (λ n. false) 0 es) ≡ map (λ (r : Record). raw_number text r.first) (records (spell es))
  unfolding text_records
  names-first =
      let r = rooted limits (symbols text) in
      let f = node (# PROPERTY_SECTION) r.inside nil in
      opened-named named (raw_number text) (λ n. false) 0 0 es (λ j l. ap named (omega arith) ∙ named-is j l ∙ ap (raw_number text) (omega arith))
      ∙ ap (λ (l : List Event). map (raw_number text) (firsts 0 (steps (λ n. false) l))) r.its-events
      ∙ ap (λ (ss : List Step). map (raw_number text) (firsts 0 ss)) (steps-events f (r.proper, tt))
      ∙ ap (map (raw_number text)) (firsts-records f)
      ∙ map-map (raw_number text) first_of (records f)
      ∙ ap (map (λ (x : Record). raw_number text x.first)) (sym (rooted-records limits text))

  place-named : length text < 65536 → (i : ℕ) → i < length es → total (take (named i) ts) ≡ start_of text (taken (take i es))
  place-named short i h =
      let n = taken (take i es) in
      rw (named-is i h)
      (counted rest (raw_number text n) (tokens text) (kinds-small text) (omega (arith, short, tokens-cover_text text)) (raw_number-counted text n)
      ∙ raw_number-place text n)

  -- THE THEOREM: where no opener too many stands and every event has words, request Seven's promises hold of a text's words.
  pub tokens-known : length text < 65536 → too_deep limits (symbols text) ≡ false → length es ≤ most_events →
      TokensKnown text (all_answered limits text) ts (event_words limits text ++ others)
  tokens-known short deep few =
      let told : answered_events (all_answered limits text) (event_words limits text ++ others) ≡ es = first_words-tell limits text others deep few in
      record {
        never_fall = never-falls;
        counted = within;
        own = λ i k h e. names-own short i k h (ap (λ (l : List Event). get_or l i finish) (sym told) ∙ e);
        first_below = rw told names-first;
        place = λ i h. rw told (place-named short i h);
      }
