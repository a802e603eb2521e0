-- The numbers with which a record begins. Assumes nothing.
use Rattle.std.specs.Prelude.{ℕ, ◌+◌, ◌*◌, Bool, cond, ◌&&◌, List, get_or, eqb, Option, Some, None, unwrap_or}
use Rattle.std.specs.Option.{option_map}
use Rattle.replay.specs.declared.Request.{Request}
use Rattle.replay.specs.declared.Request.TheVariants.{Plain, Tree, Parts, Value}
use Rattle.replay.specs.declared.Head.{Head}

-- Four bytes from place i on as a number, the lowest first.
abbrev pub number_at : List ℕ → ℕ → ℕ
number_at bs i = get_or bs i 0 + get_or bs (i + 1) 0 * 256 + get_or bs (i + 2) 0 * 65536 + get_or bs (i + 3) 0 * 16777216

-- In the place of a number: a record of the extended form, the largest settings, no event words.
abbrev pub none : ℕ
none = 4294967295

-- The calls by their numbers: the section call or the tokens-only call; the tree call; the tokens-only call with the parts of one of its tokens; the value
-- call.
abbrev pub plain : ℕ
plain = 0

abbrev pub tree : ℕ
tree = 1

abbrev pub parts : ℕ
parts = 5

abbrev pub value : ℕ
value = 6

-- The call with a number, and with a number of its own. There is none with another number, nor the section call or the tokens-only call with another number
-- of its own than 0.
abbrev pub request_of : (number own : ℕ) → Option Request
request_of number own =
    cond (eqb number plain && eqb own 0) (Some Plain)
    (cond (eqb number tree) (Some (Tree own)) (cond (eqb number parts) (Some (Parts own)) (cond (eqb number value) (Some (Value own)) None)))

-- The bytes of the text, the lent token words and the lent event words stand in a row in both forms of a record. With no event words lent it is the
-- tokens-only call, if it is no other.
abbrev pub head_from : List ℕ → Request → Head
head_from bs call =
    record { call = call; text = number_at bs 0; tokens = number_at bs 4; events = cond (eqb (number_at bs 8) none) None (Some (number_at bs 8)) }

-- Of the extended form the first twelve bytes hold that it is, the call and the settings; in the sixteen behind them stands, after the three, the call's
-- own number.
abbrev pub extended : (front : List ℕ) → Bool
extended front = eqb (number_at front 0) none

-- There is no record of the extended form but with the largest settings, and of a call that there is.
abbrev pub extended_head : (front back : List ℕ) → Option Head
extended_head front back = cond (eqb (number_at front 8) none) (option_map (head_from back) (request_of (number_at front 4) (number_at back 12))) None

unfoldable pub record_head : (front back : List ℕ) → Option Head
record_head front back = cond (extended front) (extended_head front back) (Some (head_from front Plain))

-- How many event words a record asks for: where it has none, 0.
abbrev pub lent_events : Head → ℕ
lent_events h = unwrap_or h.events 0

-- How many record words a record asks for.
abbrev pub records_of : Request → ℕ
records_of (Tree n) = n
records_of _ = 0

abbrev pub lent_records : Head → ℕ
lent_records h = records_of h.call
