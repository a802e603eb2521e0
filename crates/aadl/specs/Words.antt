-- "In the port the eighty-one words stand in one table with their kinds; their letters are lower case, and the words are
-- distinct. Matching ignores ASCII case." Assumes nothing.
use Rattle.std.specs.Prelude.{ℕ, suc, ◌+◌, Bool, true, false, ◌&&◌, cond, List, [], ◌∷◌, get_or, leb, eqb}
use Prim.Native.Char.{code}
use Prim.Native.String.{String}
use Rattle.aadl.specs.Kinds.{IDENT, #◌}

-- A quoted text as bytes.
abbrev pub bytes : String → List ℕ
bytes String.[] = []
bytes (String.◌∷◌ c s) = code c ∷ bytes s

-- The words in the order of their kinds.
unfoldable pub words : List String
words =
    "package" ∷ "public" ∷ "private" ∷ "with" ∷ "end" ∷ "none" ∷ "renames" ∷ "system" ∷ "process" ∷ "thread" ∷ "group" ∷
    "processor" ∷ "virtual" ∷ "bus" ∷ "memory" ∷ "device" ∷ "subprogram" ∷ "data" ∷ "abstract" ∷ "implementation" ∷ "extends" ∷
    "prototypes" ∷ "features" ∷ "flows" ∷ "connections" ∷ "modes" ∷ "properties" ∷ "subcomponents" ∷ "annex" ∷ "calls" ∷
    "internal" ∷ "in" ∷ "out" ∷ "port" ∷ "event" ∷ "access" ∷ "provides" ∷ "requires" ∷ "feature" ∷ "parameter" ∷ "inverse" ∷
    "of" ∷ "flow" ∷ "source" ∷ "sink" ∷ "path" ∷ "initial" ∷ "mode" ∷ "transition" ∷ "constant" ∷ "applies" ∷ "to" ∷
    "inherit" ∷ "delta" ∷ "is" ∷ "all" ∷ "binding" ∷ "classifier" ∷ "reference" ∷ "record" ∷ "compute" ∷ "type" ∷ "set" ∷
    "range" ∷ "units" ∷ "enumeration" ∷ "list" ∷ "aadlboolean" ∷ "aadlinteger" ∷ "aadlreal" ∷ "aadlstring" ∷ "property" ∷
    "true" ∷ "false" ∷ "not" ∷ "and" ∷ "or" ∷ "refined" ∷ "self" ∷ "interface" ∷ "file" ∷ []

pub record Entry : Type 0 where
  pub word : List ℕ
  pub kind : ℕ

abbrev pub numbered : ℕ → List String → List Entry
numbered k [] = []
numbered k (s ∷ ss) = record { word = bytes s; kind = k } ∷ numbered (suc k) ss

-- "keywords 34 to 114"
unfoldable pub table : List Entry
table = numbered 34 words

-- The rows of the table, from 0 on; past the eighty-one words a row without letters, whose kind is IDENT.
abbrev pub no_word : Entry
no_word = record { word = []; kind = # IDENT }

abbrev pub row : ℕ → Entry
row i = get_or table i no_word

-- An ASCII capital as its small letter, any other byte as it is.
abbrev pub lower : ℕ → ℕ
lower b = cond (leb 65 b && leb b 90) (b + 32) b

-- A word of the table, and a word in any mix of ASCII case.
abbrev pub same : List ℕ → List ℕ → Bool
same [] [] = true
same [] (b ∷ bs) = false
same (v ∷ vs) [] = false
same (v ∷ vs) (b ∷ bs) = eqb v (lower b) && same vs bs

abbrev pub find : List Entry → List ℕ → ℕ
find [] w = # IDENT
find (e ∷ es) w = cond (same e.word w) e.kind (find es w)

-- The kind of a word: the table's, or IDENT.
unfoldable pub kind_of_word : List ℕ → ℕ
kind_of_word w = find table w
