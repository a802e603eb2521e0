-- 01's 'Texts tried' and 'Mistakes the contracts shut out' as statements about the definitions. Each record is one statement, and
-- both sides of each of its lines are computed: no law is used. Assumes nothing.
use Prim.Native.Nat.{ℕ}
use mathlib.Core.Path.{◌≡◌, refl}
use mathlib.Core.Logic.{inl, inr}
use mathlib.Core.Bool.{Bool, true, false}
use mathlib.Core.List.{List, [], ◌∷◌, ◌++◌}
use lib.ListN.{get_or, drop, replicate}
use Rattle.predictive.specs.Forest.{Forest, nil, leaf, node, ◌then◌, message}
use Rattle.predictive.specs.Events.{start, finish, error, erring, any_fault}
use Rattle.predictive.specs.Events as E
use Rattle.predictive.specs.Tree.{chain, spell}
use Rattle.aadl.specs.declared.Quoted.{Quoted}
use Rattle.aadl.specs.Limits.{Limits, base}
use Rattle.aadl.specs.Kinds.{#◌, ERROR, WHITESPACE, SEMICOLON, DOT_DOT, L_PAREN, R_PAREN, FAT_ARROW, PLUS, MINUS, STAR, INTEGER_LIT, REAL_LIT, STRING_LIT, IDENT, MODES_KW, PROPERTIES_KW, APPLIES_KW, TO_KW, NONE_KW, NOT_KW, IN_KW, OUT_KW, EVENT_KW, DATA_KW, PORT_KW, CLASSIFIER_KW}
use Rattle.aadl.specs.Kinds.{DIRECTION, PROTOTYPE_BINDING, PROTOTYPE_BINDING_LIST, CLASSIFIER_REF, CLASSIFIER_VALUE, PROPERTY_SECTION, PROPERTY_ASSOCIATION, PROPERTY_REF, PROPERTY_EXPRESSION, BOOLEAN_VALUE, INTEGER_VALUE, RANGE_VALUE, BINARY_EXPR, APPLIES_TO, CONTAINMENT_PATH}
use Rattle.aadl.specs.Words.{bytes}
use Rattle.aadl.specs.Tokens.{token, string_of, string_lit, span, number, number_of, tokens, token_word}
use Rattle.aadl.specs.NumberParts.{no_number, number_parts}
use Rattle.aadl.specs.WordKinds.{Mixed, is_word}
use Rattle.aadl.specs.Symbols.{symbols}
use Rattle.aadl.specs.Encoding.{event_word, first_words}
use Rattle.aadl.specs.Reading.{events}
use Rattle.aadl.specs.Answers.{tokens_answer, section_answer, answered, refused, left_in, token_words, event_words}
use Rattle.aadl.specs.EventTokens.{opened_at}
use Rattle.aadl.specs.Listing.{column, listing}
use Rattle.aadl.proofs.Computing.{definitions}
use Rattle.aadl.proofs.Asides.{is-message}

-- THE STARRED TEXTS ----------------------------------------------------------------------------------------------------

abbrev a-string : (len : ℕ) → (closed : Bool) → Quoted
a-string n c = record { len = n; closed = c }

pub record Starred : Type 0 where
  pub c_style : tokens (bytes "0x1F") ≡ token (# ERROR) 4 ∷ []
  pub two-zeros : tokens (bytes "00x1") ≡ token (# INTEGER_LIT) 2 ∷ token (# IDENT) 2 ∷ []
  pub no_binary_digit : tokens (bytes "0b2") ≡ token (# INTEGER_LIT) 1 ∷ token (# IDENT) 2 ∷ []
  pub dots : tokens (bytes "1..2") ≡ token (# INTEGER_LIT) 1 ∷ token (# DOT_DOT) 2 ∷ token (# INTEGER_LIT) 1 ∷ []
  pub no_fraction : tokens (bytes "1.") ≡ token (# REAL_LIT) 2 ∷ []
  pub exponent : tokens (bytes "10eV") ≡ token (# REAL_LIT) 3 ∷ token (# IDENT) 1 ∷ []
  -- said of the string reader, and of the one token that it gives: a text that holds such a string is refused (`refusals`)
  pub unclosed : string_of (bytes "\"\"\"") ≡ a-string 3 false
  pub unclosed-token : tokens (bytes "\"\"\"") ≡ record { kind = # STRING_LIT; len = 3; closed = false } ∷ []
  pub bare : section_answer base (bytes "properties") 100 100 ≡ answered 1 1 3
  pub none : section_answer base (bytes "properties none;") 100 100 ≡ answered 4 3 5
  pub no_value : section_answer base (bytes "properties A => ;") 100 100 ≡ answered 7 4 11
  pub no_value_message : get_or (events base (symbols (bytes "properties A => ;"))) 7 finish ≡ error (message 5)
  pub range : section_answer base (bytes "properties A => 1 .. 2;") 100 100 ≡ answered 12 7 19
  pub range-parent : get_or (events base (symbols (bytes "properties A => 1 .. 2;"))) 7 finish ≡ start (# INTEGER_VALUE) 3
  pub empty : section_answer base [] 100 100 ≡ refused 4 0

pub starred : Starred
unfolding definitions
starred =
    record {
      c_style = refl;
      two-zeros = refl;
      no_binary_digit = refl;
      dots = refl;
      no_fraction = refl;
      exponent = refl;
      unclosed = refl;
      unclosed-token = refl;
      bare = refl;
      none = refl;
      no_value = refl;
      no_value_message = refl;
      range = refl;
      range-parent = refl;
      empty = refl;
    }

pub printed-listing :
    listing base (bytes "properties\n  A => 1 ms;\n")
    ≡ bytes "event,class,kind,last,line,column\n0,S,169,0,1,1\n1,T,60,1,1,1\n2,S,170,0,2,3\n3,S,171,0,2,3\n4,T,33,1,2,3\n5,F,0,0,2,5\n6,T,18,1,2,5\n7,S,183,0,2,8\n8,T,30,1,2,8\n9,T,33,1,2,10\n10,F,0,0,2,12\n11,T,5,1,2,12\n12,F,0,0,3,1\n13,F,0,0,3,1\n"
unfolding definitions
printed-listing = refl

-- EVENT WORDS ----------------------------------------------------------------------------------------------------------

-- the second words of a text's events
abbrev seconds : List ℕ → List ℕ
seconds text = first_words (drop 1 (event_words base text) ++ (0 ∷ []))

-- A Token has its own number, trivia are counted too, and the last Finish has the token count; the Start of a range, which is begun behind
-- its first operand, has the number of `..`, and the Start at which the range opens that of its first token; an empty node at the end has
-- the token count; an odd last word is left alone.
pub record Paired : Type 0 where
  pub none :
      event_words base (bytes " properties none; ")
      ≡ event_word (start (# PROPERTY_SECTION) 0) ∷ 1 ∷ event_word (E.token (# PROPERTIES_KW)) ∷ 1 ∷ event_word (E.token (# NONE_KW)) ∷ 3
      ∷ event_word (E.token (# SEMICOLON)) ∷ 4 ∷ event_word finish ∷ 6 ∷ []
  pub range : seconds (bytes "properties A=>1..2;") ≡ 0 ∷ 0 ∷ 2 ∷ 2 ∷ 2 ∷ 3 ∷ 3 ∷ 4 ∷ 4 ∷ 5 ∷ 5 ∷ 5 ∷ 6 ∷ 6 ∷ 7 ∷ 7 ∷ 7 ∷ 8 ∷ 8 ∷ []
  pub range-opens : opened_at (λ n. false) 0 (events base (symbols (bytes "properties A=>1..2;"))) ≡ 0 ∷ 2 ∷ 3 ∷ 7 ∷ 7 ∷ 12 ∷ []
  pub empty-at_end : drop 12 (seconds (bytes "properties A=>1 applies to")) ≡ 8 ∷ 9 ∷ 9 ∷ 9 ∷ 9 ∷ 9 ∷ 9 ∷ []
  pub odd-word_kept : drop 6 (left_in (answered 1 1 3) (event_words base (bytes "properties")) (replicate 7 5)) ≡ 5 ∷ []

pub paired : Paired
unfolding definitions opened_at chain
paired = record { none = refl; range = refl; range-opens = refl; empty-at_end = refl; odd-word_kept = refl }

-- NUMBERS --------------------------------------------------------------------------------------------------------------

-- With a base: closed, with an exponent, with a dot, no inner digits, nothing behind the `#`, not closed; `E` is a digit there. Without: grouped, a
-- fraction, none behind its dot, an exponent without digits, none behind `_`, C-style, two zeros. Then by token number: a number, a word, a
-- blank, no such token; and words that say another length or another kind than the text.
pub record NumbersRead : Type 0 where
  pub closed : number_of (bytes "16#1F#") ≡ number (# INTEGER_LIT) 6 (span 0 2) (span 3 5) true false
  pub closed-exponent : number_of (bytes "2#1_0#E3") ≡ number (# REAL_LIT) 8 (span 0 1) (span 2 5) true true
  pub closed-dot : number_of (bytes "16#F.E#e-2") ≡ number (# REAL_LIT) 10 (span 0 2) (span 3 6) true true
  pub grouped : number_of (bytes "1_000") ≡ number (# INTEGER_LIT) 5 (span 0 0) (span 0 5) false false
  pub fraction : number_of (bytes "3.14e+5") ≡ number (# REAL_LIT) 7 (span 0 0) (span 0 4) false true
  pub dot-last : number_of (bytes "1.") ≡ number (# REAL_LIT) 2 (span 0 0) (span 0 2) false false
  pub exponent-last : number_of (bytes "1e") ≡ number (# REAL_LIT) 2 (span 0 0) (span 0 1) false true
  pub hash-last : number_of (bytes "16#") ≡ number (# INTEGER_LIT) 3 (span 0 2) (span 3 3) false false
  pub two-hashes : number_of (bytes "16##") ≡ number (# INTEGER_LIT) 4 (span 0 2) (span 3 3) true false
  pub c_style : number_of (bytes "0x1F") ≡ number (# ERROR) 4 (span 0 0) (span 0 0) false false
  pub two-zeros : number_of (bytes "00") ≡ number (# INTEGER_LIT) 2 (span 0 0) (span 0 2) false false
  pub not_closed : number_of (bytes "0#1") ≡ number (# INTEGER_LIT) 3 (span 0 1) (span 2 3) false false
  pub no_exponent : number_of (bytes "1_e") ≡ number (# INTEGER_LIT) 2 (span 0 0) (span 0 2) false false
  pub digit-e : number_of (bytes "16#1E5") ≡ number (# INTEGER_LIT) 6 (span 0 2) (span 3 6) false false
  pub told : number_parts (bytes "A 2#1#") (token_words (bytes "A 2#1#")) 2 ≡ number (# INTEGER_LIT) 4 (span 0 1) (span 2 3) true false
  pub word : number_parts (bytes "A 2#1#") (token_words (bytes "A 2#1#")) 0 ≡ no_number
  pub blank : number_parts (bytes "A 2#1#") (token_words (bytes "A 2#1#")) 1 ≡ no_number
  pub no_token : number_parts (bytes "A 2#1#") (token_words (bytes "A 2#1#")) 3 ≡ no_number
  pub other_length : number_parts (bytes "12") (token_word (token (# INTEGER_LIT) 1) ∷ []) 0 ≡ no_number
  pub other-kind : number_parts (bytes "12") (token_word (token (# REAL_LIT) 2) ∷ []) 0 ≡ no_number
  pub no_digit : number_parts (bytes "_1") (token_word (token (# INTEGER_LIT) 2) ∷ []) 0 ≡ no_number

pub numbers-read : NumbersRead
unfolding definitions
numbers-read =
    record {
      closed = refl;
      closed-exponent = refl;
      closed-dot = refl;
      grouped = refl;
      fraction = refl;
      dot-last = refl;
      exponent-last = refl;
      hash-last = refl;
      two-hashes = refl;
      c_style = refl;
      two-zeros = refl;
      not_closed = refl;
      no_exponent = refl;
      digit-e = refl;
      told = refl;
      word = refl;
      blank = refl;
      no_token = refl;
      other_length = refl;
      other-kind = refl;
      no_digit = refl;
    }

-- STRINGS --------------------------------------------------------------------------------------------------------------

-- A quote alone, one forgotten, one doubled at the end, an odd and an even number of quotes, a doubled quote within, and what stands behind
-- a string that is closed.
pub record StringsRead : Type 0 where
  pub quote : string_of (bytes "\"") ≡ a-string 1 false
  pub empty : string_of (bytes "\"\"") ≡ a-string 2 true
  pub forgotten : string_of (bytes "\"a;") ≡ a-string 3 false
  pub closed : string_of (bytes "\"a\";") ≡ a-string 3 true
  pub doubled-at_end : string_of (bytes "\"a\"\"") ≡ a-string 4 false
  pub four : string_of (bytes "\"\"\"\"") ≡ a-string 4 true
  pub doubled : string_of (bytes "\"a\"\"b\"c\"") ≡ a-string 6 true
  pub handed_up : tokens (bytes "\"\" \"a") ≡ token (# STRING_LIT) 2 ∷ token (# WHITESPACE) 1 ∷ string_lit (a-string 2 false) ∷ []

pub strings-read : StringsRead
unfolding definitions
strings-read =
    record { quote = refl; empty = refl; forgotten = refl; closed = refl; doubled-at_end = refl; four = refl; doubled = refl; handed_up = refl }

-- WORDS ----------------------------------------------------------------------------------------------------------------

-- A keyword in three mixes of case, before a mark, before a character outside ASCII and behind a digit, though not where a number takes its
-- first letter; and words that are none of the eighty-one: a digit, `_` or a letter more, two letters fewer, and the Kelvin sign for a `k`,
-- which belongs to no word.
pub record WordsRead : Type 0 where
  pub mix : Mixed (bytes "modes") (bytes "Modes")
  pub no_digit_first : is_word (bytes "2modes") ≡ false
  pub capital : tokens (bytes "Modes") ≡ token (# MODES_KW) 5 ∷ []
  pub mixed : tokens (bytes "mOdEs") ≡ token (# MODES_KW) 5 ∷ []
  pub before-mark : tokens (bytes "MODES;") ≡ token (# MODES_KW) 5 ∷ token (# SEMICOLON) 1 ∷ []
  pub before-character : tokens (bytes "modes" ++ (0xC3 ∷ 0xA9 ∷ [])) ≡ token (# MODES_KW) 5 ∷ token (# ERROR) 2 ∷ []
  pub behind-digit : tokens (bytes "2modes") ≡ token (# INTEGER_LIT) 1 ∷ token (# MODES_KW) 5 ∷ []
  pub behind-exponent : tokens (bytes "1end") ≡ token (# REAL_LIT) 2 ∷ token (# IDENT) 2 ∷ []
  pub digit-more : tokens (bytes "modes2") ≡ token (# IDENT) 6 ∷ []
  pub underscore_more : tokens (bytes "_Modes") ≡ token (# IDENT) 6 ∷ []
  pub letter-more : tokens (bytes "modess") ≡ token (# IDENT) 6 ∷ []
  pub letters_fewer : tokens (bytes "mod") ≡ token (# IDENT) 3 ∷ []
  pub kelvin : tokens (bytes "pac" ++ (0xE2 ∷ 0x84 ∷ 0xAA ∷ bytes "age")) ≡ token (# IDENT) 3 ∷ token (# ERROR) 3 ∷ token (# IDENT) 3 ∷ []

pub words-read : WordsRead
unfolding definitions
words-read =
    record {
      mix = (inr refl, (inl refl, (inl refl, (inl refl, (inl refl, tt)))));
      no_digit_first = refl;
      capital = refl;
      mixed = refl;
      before-mark = refl;
      before-character = refl;
      behind-digit = refl;
      behind-exponent = refl;
      digit-more = refl;
      underscore_more = refl;
      letter-more = refl;
      letters_fewer = refl;
      kelvin = refl;
    }

-- COLUMNS --------------------------------------------------------------------------------------------------------------

-- Behind an umlaut, the euro sign, an emoji, a letter with a combining mark, a byte order mark, a tab; behind LF and CR LF. Bytes would
-- count more, UTF-16 units two for the emoji, what is seen one for the letter with its mark.
pub record Columns : Type 0 where
  pub umlaut : column (bytes "M" ++ (0xC3 ∷ 0xBC ∷ bytes "hle")) ≡ 6
  pub euro : column (0xE2 ∷ 0x82 ∷ 0xAC ∷ []) ≡ 2
  pub emoji : column (0xF0 ∷ 0x9F ∷ 0x98 ∷ 0x80 ∷ []) ≡ 2
  pub combining : column (bytes "e" ++ (0xCC ∷ 0x81 ∷ [])) ≡ 3
  pub order_mark : column (0xEF ∷ 0xBB ∷ 0xBF ∷ []) ≡ 2
  pub tab : column (9 ∷ []) ≡ 2
  pub line-feed : column (bytes "A => 1;" ++ (0xC3 ∷ 0xBC ∷ 10 ∷ [])) ≡ 1
  pub return_and_feed : column (13 ∷ 10 ∷ 0xC3 ∷ 0xBC ∷ 13 ∷ []) ≡ 3

pub columns : Columns
unfolding definitions
columns =
    record { umlaut = refl; euro = refl; emoji = refl; combining = refl; order_mark = refl; tab = refl; line-feed = refl; return_and_feed = refl }

-- REFUSALS -------------------------------------------------------------------------------------------------------------

abbrev small : Limits
small = record { bytes = 20; openers = 1 }

abbrev signs : ℕ → List ℕ
signs n = bytes "properties A => " ++ (replicate n 43 ++ bytes "1;")

-- Each refusal in its case, with its place; 8 behind 2 and 3 and before 4; 5 and 6 by reading order, and the last opener that is read.
pub record Refused : Type 0 where
  pub too_long : section_answer small (bytes "properties A => 1234;") 100 100 ≡ refused 1 20
  pub not_utf8 : section_answer small (bytes "properties " ++ (194 ∷ 10 ∷ [])) 100 100 ≡ refused 2 11
  pub no_token_word : section_answer small (bytes "properties none;") 2 100 ≡ refused 3 11
  pub never-closed : section_answer small (bytes "properties A => \"a;") 100 100 ≡ refused 8 16
  pub never-closed_tokens : tokens_answer small (bytes " \"a\"\"") 100 ≡ refused 8 1
  pub not_utf8_first : section_answer small (bytes "\"" ++ (194 ∷ [])) 100 100 ≡ refused 2 1
  pub no_token_word_first : section_answer small (bytes "properties \"") 2 100 ≡ refused 3 11
  pub never-closed_first : section_answer small (bytes " -- x\n \"a") 100 100 ≡ refused 8 7
  pub no_properties : section_answer small (bytes " -- x\n none") 100 100 ≡ refused 4 7
  pub no_event_word : section_answer small (bytes "properties none ;") 100 9 ≡ refused 5 17
  pub no_event_at_all : section_answer small (bytes " properties") 100 1 ≡ refused 5 1
  pub one-opener : section_answer small (bytes "properties A => +1;") 100 32 ≡ answered 9 6 16
  pub two-openers : section_answer small (bytes "properties A => ++1;") 100 18 ≡ refused 6 17
  pub two-openers_late : section_answer small (bytes "properties A => ++1;") 100 17 ≡ refused 5 16
  pub sixty_four : section_answer base (signs 64) 100 1000 ≡ answered 72 69 205
  pub sixty_five : section_answer base (signs 65) 100 1000 ≡ refused 6 80
  pub words-zeroed : left_in (refused 8 16) (1 ∷ 2 ∷ []) (7 ∷ 7 ∷ 7 ∷ []) ≡ 0 ∷ 0 ∷ 0 ∷ []

pub refusals : Refused
unfolding definitions
refusals =
    record {
      too_long = refl;
      not_utf8 = refl;
      no_token_word = refl;
      never-closed = refl;
      never-closed_tokens = refl;
      not_utf8_first = refl;
      no_token_word_first = refl;
      never-closed_first = refl;
      no_properties = refl;
      no_event_word = refl;
      no_event_at_all = refl;
      one-opener = refl;
      two-openers = refl;
      two-openers_late = refl;
      sixty_four = refl;
      sixty_five = refl;
      words-zeroed = refl;
    }

-- MISTAKES THE CONTRACTS SHUT OUT --------------------------------------------------------------------------------------

-- the tree that the events of a text spell, and whether an Error is among them
abbrev spelled : List ℕ → Forest
spelled text = spell (events base (symbols text))

abbrev errs : List ℕ → Bool
errs text = erring any_fault (events base (symbols text))

-- the tree of a section with the one association `A => ..`
abbrev association-of : Forest → Forest
association-of rest =
    node (# PROPERTY_SECTION)
    (leaf (# PROPERTIES_KW)
    (node (# PROPERTY_ASSOCIATION) (node (# PROPERTY_REF) (leaf (# IDENT) nil) (leaf (# FAT_ARROW) rest)) nil)) nil

abbrev integer : Forest → Forest
integer f = node (# INTEGER_VALUE) (leaf (# INTEGER_LIT) nil) f

abbrev ended : Forest
ended = leaf (# SEMICOLON) nil

pub record ShutOut : Type 0 where
  -- the sign is over the 1 alone
  pub signed-sum :
      spelled (bytes "properties A => -1 + 2;")
      ≡ association-of (node (# BINARY_EXPR) (node (# PROPERTY_EXPRESSION) (leaf (# MINUS) (integer nil)) (leaf (# PLUS) (integer nil))) ended)
  -- the `not` is over the range
  pub negated-range :
      spelled (bytes "properties A => not 1 .. 2;")
      ≡ association-of (node (# BOOLEAN_VALUE) (leaf (# NOT_KW) (node (# RANGE_VALUE) (integer (leaf (# DOT_DOT) (integer nil))) nil)) ended)
  -- `applies to ;` is clean, with an empty path
  pub applies-to-nothing :
      spelled (bytes "properties A => 1 applies to ;")
      ≡ association-of (integer (node (# APPLIES_TO) (leaf (# APPLIES_KW) (leaf (# TO_KW) (node (# CONTAINMENT_PATH) nil nil))) ended))
  pub no_errors : (errs (bytes "properties A => -1 + 2;") ≡ false) × (errs (bytes "properties A => not 1 .. 2;") ≡ false) × (errs (bytes "properties A => 1 applies to ;") ≡ false)

pub shut_out : ShutOut
unfolding definitions
shut_out = record { signed-sum = refl; negated-range = refl; applies-to-nothing = refl; no_errors = (refl, refl, refl) }

-- PRECEDENCE AND PREFERENCES -------------------------------------------------------------------------------------------

abbrev binary : (operator : ℕ) → (left right : Forest) → Forest → Forest
binary k a b f = node (# BINARY_EXPR) (a then leaf k b) f

-- the value `classifier (c (x => ..))`, with what stands after the `=>`
abbrev bound-to : Forest → Forest
bound-to f =
    association-of
    (node (# CLASSIFIER_VALUE)
    (leaf (# CLASSIFIER_KW)
    (leaf (# L_PAREN)
    (node (# CLASSIFIER_REF)
    (leaf (# IDENT)
    (node (# PROTOTYPE_BINDING_LIST)
    (leaf (# L_PAREN) (node (# PROTOTYPE_BINDING) (leaf (# IDENT) (leaf (# FAT_ARROW) f)) (leaf (# R_PAREN) nil)))
    nil))
    (leaf (# R_PAREN) nil)))) ended)

pub record Preferred : Type 0 where
  -- `*` binds before `+`, on either side, and both lean to the left
  pub star-right : spelled (bytes "properties A => 1 + 2 * 3;") ≡ association-of (binary (# PLUS) (integer nil) (binary (# STAR) (integer nil) (integer nil) nil) ended)
  pub star-left : spelled (bytes "properties A => 1 * 2 + 3;") ≡ association-of (binary (# PLUS) (binary (# STAR) (integer nil) (integer nil) nil) (integer nil) ended)
  pub leans-left : spelled (bytes "properties A => 1 - 2 - 3;") ≡ association-of (binary (# MINUS) (binary (# MINUS) (integer nil) (integer nil) nil) (integer nil) ended)
  -- A: the sum belongs to the `not`
  pub negated-sum : spelled (bytes "properties A => not 1 + 2;") ≡ association-of (node (# BOOLEAN_VALUE) (leaf (# NOT_KW) (binary (# PLUS) (integer nil) (integer nil) nil)) ended)
  -- B: the longest Direction and the longest Category
  pub longest-forms :
      spelled (bytes "properties A => classifier (c (x => in out event data port T));")
      ≡ bound-to
      (node (# DIRECTION) (leaf (# IN_KW) (leaf (# OUT_KW) nil))
      (leaf (# EVENT_KW) (leaf (# DATA_KW) (leaf (# PORT_KW) (node (# CLASSIFIER_REF) (leaf (# IDENT) nil) nil)))))
  -- B: a lone `virtual` is no Name
  pub lone-virtual : erring (is-message 8) (events base (symbols (bytes "properties A => classifier (c (x => virtual T));"))) ≡ true
  -- C: the `in` belongs to the operand, so that no Modes stand
  pub name-after_colons : errs (bytes "properties A => b :: in modes (m);") ≡ true

pub preferred : Preferred
unfolding definitions
preferred =
    record { star-right = refl; star-left = refl; leans-left = refl; negated-sum = refl; longest-forms = refl; lone-virtual = refl; name-after_colons = refl }
