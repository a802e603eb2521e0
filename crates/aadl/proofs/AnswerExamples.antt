-- What 01 and 02 give as numbers, written out: the limits, room for events, an answer's and a record's fields in their order, words and what is
-- in them, the parts of a number, what the tokens-only call counts; and two listings, one with a message and one refused. Computed. Assumes nothing.
use Prim.Native.String.{String}
use mathlib.Core.Path.{◌≡◌, refl}
use mathlib.Core.Bool.{Bool, true, false}
use mathlib.Core.List.{List, [], ◌∷◌, map}
use Rattle.predictive.specs.Forest.{message}
use Rattle.predictive.specs.Events.{Event, start, finish, error}
use Rattle.predictive.specs.Events as E
use Rattle.aadl.specs.Limits.{base}
use Rattle.aadl.specs.Words.{bytes}
use Rattle.aadl.specs.Tokens.{token, span, number, token_word, kind_in, length_in}
use Rattle.aadl.specs.NumberParts.{part_numbers}
use Rattle.aadl.specs.Encoding.{event_word, event_in, words_for, room, cut_to_word}
use Rattle.aadl.specs.Answers.{answered, refused, tokens_answer, section_answer, token_words, event_words}
use Rattle.aadl.specs.Demand.{is_clean}
use Rattle.aadl.specs.Records.{of_node, record_room, words_of_records, records_in}
use Rattle.aadl.specs.Listing.{decimal, row, lent_tokens, lent_events, listing}
use Rattle.aadl.proofs.Computing.{definitions}

abbrev four-events : List Event
four-events = start 169 3 ∷ E.token 33 ∷ finish ∷ error (message 274) ∷ []

-- whether the section call's answer and words for a text tell that it is clean
abbrev told-clean : String → Bool
told-clean s = is_clean (section_answer base (bytes s) 99 999) (token_words (bytes s)) (event_words base (bytes s))

pub record WrittenOut : Type 0 where
  pub limits : (base.bytes ≡ 32768) × (base.openers ≡ 64)
  -- two words an event, and the cap at 32,768 events
  pub rooms : map room (0 ∷ 1 ∷ 2 ∷ 3 ∷ 65535 ∷ 65536 ∷ 65538 ∷ []) ≡ 0 ∷ 0 ∷ 1 ∷ 1 ∷ 32767 ∷ 32768 ∷ 32768 ∷ []
  pub refusal : refused 3 11 ≡ record { number = 3; place = 11; tokens = 0; taken = 0; events = 0 }
  pub answer : answered 4 3 5 ≡ record { number = 0; place = 0; tokens = 4; taken = 3; events = 5 }
  -- the tokens-only call counts tokens alone
  pub tokens_only : tokens_answer base (bytes "properties none;") 4 ≡ answered 4 0 0
  pub node : of_node 1 2 3 4 ≡ record { kind = 1; parent = 2; first = 3; below = 4 }
  pub node-words : words_of_records (of_node 1 2 3 4 ∷ of_node 5 6 7 8 ∷ []) ≡ 1 ∷ 2 ∷ 3 ∷ 4 ∷ 5 ∷ 6 ∷ 7 ∷ 8 ∷ []
  pub nodes_back : records_in 2 (1 ∷ 2 ∷ 3 ∷ 4 ∷ []) ≡ of_node 1 2 3 4 ∷ of_node 0 0 0 0 ∷ []
  pub node-rooms : map record_room (3 ∷ 4 ∷ 7 ∷ 8 ∷ []) ≡ 0 ∷ 1 ∷ 1 ∷ 2 ∷ []
  pub parts : part_numbers (number 1 2 (span 3 4) (span 5 6) true false) ≡ 1 ∷ 2 ∷ 3 ∷ 4 ∷ 5 ∷ 6 ∷ 1 ∷ 0 ∷ []
  pub a-token_word : (token_word (token 60 10) ≡ 3932170) × (kind_in 3932170 ≡ 60) × (length_in 3932170 ≡ 10)
  pub four-words : map event_word four-events ≡ 11075587 ∷ 18939905 ∷ 33554432 ∷ 50331922 ∷ []
  pub events-back : map event_in (map event_word four-events) ≡ four-events
  pub in_a_word : map cut_to_word (4294967295 ∷ 4294967296 ∷ 4294967297 ∷ []) ≡ 4294967295 ∷ 0 ∷ 1 ∷ []
  pub digits : map decimal (0 ∷ 9 ∷ 10 ∷ 99 ∷ 100 ∷ []) ≡ bytes "0" ∷ bytes "9" ∷ bytes "10" ∷ bytes "99" ∷ bytes "100" ∷ []
  pub lent : (lent_tokens ≡ 16384) × (lent_events ≡ 16384) × (words_for 8192 ≡ 16384)
  -- classes S, T, F and E, and an end of the text behind a line's end
  pub letters :
      listing base (bytes "properties A =>\n")
      ≡ bytes "event,class,kind,last,line,column\n0,S,169,0,1,1\n1,T,60,1,1,1\n2,S,170,0,1,12\n3,S,171,0,1,12\n4,T,33,1,1,12\n5,F,0,0,1,14\n6,T,18,1,1,14\n7,E,0,5,2,1\n8,E,0,261,2,1\n9,F,0,0,2,1\n10,F,0,0,2,1\n"
  -- with trivia, a message, a token that is not taken, a refusal
  pub clean :
      map told-clean ("properties -- x\n none ; " ∷ "properties A => 1;" ∷ "properties A => ;" ∷ "properties A => 1; }" ∷ "none" ∷ [])
      ≡ true ∷ true ∷ false ∷ false ∷ false ∷ []
  pub no_fields : row [] ≡ bytes "\n"
  pub refused-line : listing base (bytes "properties \"") ≡ bytes "refused,8,11\n"

pub written_out : WrittenOut
unfolding definitions is_clean
written_out =
    record {
      limits = (refl, refl);
      rooms = refl;
      refusal = refl;
      answer = refl;
      tokens_only = refl;
      node = refl;
      node-words = refl;
      nodes_back = refl;
      node-rooms = refl;
      parts = refl;
      a-token_word = (refl, refl, refl);
      four-words = refl;
      events-back = refl;
      in_a_word = refl;
      digits = refl;
      lent = (refl, refl, refl);
      letters = refl;
      clean = refl;
      no_fields = refl;
      refused-line = refl;
    }
