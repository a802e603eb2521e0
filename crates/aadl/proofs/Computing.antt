-- A line `unfolding definitions` under a statement opens every definition that a text's tokens, reading, answer, listing and tree are
-- made of, so that closed statements about texts are computed. Assumes nothing.
use Rattle.predictive.specs.Grammar.{best}
use Rattle.predictive.specs.Reader.{read}
use Rattle.predictive.specs.Events.{events_of, taken, erring}
use Rattle.predictive.specs.Tree.{spell}
use Rattle.aadl.specs.Words.{words, table, kind_of_word}
use Rattle.aadl.specs.Utf8.{table_3_7, sequence, ill_formed_after, scalars_after}
use Rattle.aadl.specs.Bytes.{run, run_end}
use Rattle.aadl.specs.Tokens.{quoted, string_of, exponent_end, based, number_from, number_of, word_of, marks, mark_of, token_of, tokens_after, tokens}
use Rattle.aadl.specs.NumberParts.{number_parts}
use Rattle.aadl.specs.Symbols.{shown, placed, symbols, start_of, raw_numbers, raw_number, kinds}
use Rattle.aadl.specs.Section.{keywords, names}
use Rattle.aadl.specs.Encoding.{event_in, first_words}
use Rattle.aadl.specs.Reading.{reading, events, pushed, too_deep}
use Rattle.aadl.specs.Answers.{tokens_answer, section_answer, left_in}
use Rattle.aadl.specs.Listing.{column, event_line, event_lines, listing}

unfoldable pub definitions : Unit {0}
unfolding best read events_of taken erring spell words table kind_of_word table_3_7 sequence ill_formed_after scalars_after run run_end quoted string_of exponent_end based number_from number_of word_of marks mark_of token_of tokens_after tokens number_parts shown placed symbols start_of raw_numbers raw_number kinds keywords names reading events pushed too_deep event_in first_words tokens_answer section_answer left_in column event_line event_lines listing
definitions = tt
