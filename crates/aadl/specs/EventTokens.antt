-- 02's request Seven: what an event's second word is good for. "A click on a node must find the source line without counting." Said of an
-- answer of the section call that refuses nothing, and of the words that it left. Assumes nothing.
use Rattle.std.specs.Prelude.{ℕ, suc, ◌+◌, ◌≤◌, ◌<◌, ◌≡◌, Bool, false, ◌||◌, List, [], ◌∷◌, ◌++◌, map, length, get_or, take, replicate, eqb}
use Rattle.predictive.specs.Events.{Event, start, token, finish, error, taken}
use Rattle.predictive.specs.Tree.{chain, unused, spell}
use Rattle.aadl.specs.declared.Answer.{Answer}
use Rattle.aadl.specs.Tokens.{kind_in, total}
use Rattle.aadl.specs.Symbols.{is_trivia, start_of, raw_number}
use Rattle.aadl.specs.Encoding.{words_for}
use Rattle.aadl.specs.Demand.{answered_events}
use Rattle.aadl.specs.Records.{Record, records}

-- The token that an event names, by its second word.
abbrev pub token_named : (words : List ℕ) → (event : ℕ) → ℕ
token_named ws i = get_or ws (words_for i + 1) 0

-- At which event each node opens, in the order in which nodes open; the first of the events is number i. As 01's tree rule has it (predictive
-- `Tree.steps`): a Start to which an earlier one points opens nothing, any other one opens all nodes of its chain.
unfoldable pub opened_at : (used : ℕ → Bool) → (i : ℕ) → List Event → List ℕ
opened_at used i [] = []
opened_at used i (start k up ∷ es) =
    replicate (length (unused (used 0) (chain (start k up ∷ es) 0))) i ++ opened_at (λ n. eqb (suc n) up || used (suc n)) (suc i) es
opened_at used i (token k ∷ es) = opened_at (λ n. used (suc n)) (suc i) es
opened_at used i (finish ∷ es) = opened_at (λ n. used (suc n)) (suc i) es
opened_at used i (error m ∷ es) = opened_at (λ n. used (suc n)) (suc i) es

pub record TokensKnown (text : List ℕ) (a : Answer) (token_words event_words : List ℕ) : Type 0 where
  -- the numbers never fall from event to event, and none is above the token count
  pub never_fall : (i j : ℕ) → i ≤ j → j < a.events → token_named event_words i ≤ token_named event_words j
  pub counted : (i : ℕ) → i < a.events → token_named event_words i ≤ a.tokens
  -- a Token names a non-trivia token with its kind
  pub own : (i k : ℕ) → i < a.events → get_or (answered_events a event_words) i finish ≡ token k →
      (token_named event_words i < a.tokens) × (kind_in (get_or token_words (token_named event_words i) 0) ≡ k) × (is_trivia k ≡ false)
  -- the Start at which a node opens names the first token below the node; where there is none, the next untaken token, as the node's record
  pub first_below :
      map (token_named event_words) (opened_at (λ n. false) 0 (answered_events a event_words))
      ≡ map (λ (r : Record). raw_number text r.first) (records (spell (answered_events a event_words)))
  -- the lengths before the token that an event names sum to the event's place: where the next untaken token starts, or the text's length
  pub place : (i : ℕ) → i < a.events → total (take (token_named event_words i) token_words) ≡ start_of text (taken (take i (answered_events a event_words)))
