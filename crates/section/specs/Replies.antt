-- What the section call answers once the text's tokens are read: by where the parser stands and why it stopped. Assumes nothing.
use Rattle.std.specs.Prelude.{ℕ, ◌≡◌, true, false, cond, List, [], ◌∷◌, ◌++◌, length, drop, eqb}
use Rattle.aadl.specs.declared.Answer.{Answer}
use Rattle.aadl.specs.declared.Limits.{Limits}
use Rattle.aadl.specs.Tokens.{tokens}
use Rattle.aadl.specs.Encoding.{room}
use Rattle.aadl.specs.Answers.{section_checks, answered, all_answered, refused, checked, event_words}
use Rattle.predictive.specs.Grammar.{one}
use Rattle.aadl.specs.Kinds.{#◌, PROPERTIES_KW}
use Rattle.aadl.specs.Section.{section}
use Rattle.parser.specs.declared.Parser.{Parser}
use Rattle.parser.specs.declared.Counters.{Counters}
use Rattle.parser.specs.State.{halt}
use Rattle.parser.specs.Parsers.{Same, stand, Steps, ReadsWithin}

-- The answer of a parser, the tokens being as many: why it stopped and where it stands, or what it counted.
unfoldable pub reply : (tokens : ℕ) → Counters → Answer
reply t p = cond (eqb p.stop 0) (answered t p.taken p.used) (refused p.stop p.byte)

-- The answer of the checks of the section call alone, with room for n events.
unfoldable pub section_reply : Limits → (text : List ℕ) → (n : ℕ) → Answer
section_reply limits text n = checked refused (section_checks limits text n) (all_answered limits text)

-- What the section's reader leaves of a text whose token words are lent: the parser r, and the event words c from b.
pub record Sectioned (limits : Limits) (text b : List ℕ) (r : Counters) (c : List ℕ) : Type 0 where
  pub answer : reply (length (tokens text)) r ≡ section_reply limits text (room (length b))
  pub words : r.stop ≡ 0 → c ≡ event_words limits text ++ drop (length (event_words limits text)) b
  pub long : length c ≡ length b

-- From p to r the section is read where `properties` stands; where it does not, that is refusal 4.
pub record ReadsSection (p r : Parser) : Type 0 where
  pub read : stand (one (# PROPERTIES_KW) ∷ []) p ≡ true → ReadsWithin p.left section p r
  pub refused_4 : stand (one (# PROPERTIES_KW) ∷ []) p ≡ false → Steps (λ _. halt 4) p r
  pub same : Same p r
