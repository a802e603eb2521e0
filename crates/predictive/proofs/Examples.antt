-- Small cases by computation, for readers of the definitions: the events of a left-leaning chain with the tree that they spell, the longest of
-- some forms, and the message of a missing token. Assumes nothing.
use mathlib.Core.Path.{◌≡◌, refl}
use mathlib.Core.List.{List, [], ◌∷◌}
use mathlib.Core.Option.{none, some}
use Rattle.predictive.specs.Forest.{Forest, nil, leaf, err, node, wrap, message}
use Rattle.predictive.specs.Grammar.{Form, row, best}
use Rattle.predictive.specs.Reader.{expected}
use Rattle.predictive.specs.Events.{start, token, finish, error, events, behind_start}
use Rattle.predictive.specs.Tree.{spell}

abbrev operand : Forest → Forest
operand f = node 1 (leaf 2 nil) f

-- a * b * c, where c has a message: each operand a node 1, `*` a leaf 3, each product a node 9
abbrev chain-of_three : Forest
chain-of_three = wrap 9 (wrap 9 (operand nil) (leaf 3 (operand nil)) nil) (leaf 3 (node 1 (err (message 7) (leaf 2 nil)) nil)) nil

-- a's Start points to the first product's, 3 events on, and that one to the second product's, 6 events on
pub chain-events :
    events chain-of_three 0
    ≡ start 1 3 ∷ token 2 ∷ finish ∷ start 9 6 ∷ token 3 ∷ start 1 0 ∷ token 2 ∷ finish ∷ finish
    ∷ start 9 0 ∷ token 3 ∷ start 1 0 ∷ error (message 7) ∷ token 2 ∷ finish ∷ finish ∷ []
unfolding events behind_start
chain-events = refl

pub chain-spelled : spell (events chain-of_three 0) ≡ node 9 (node 9 (operand (leaf 3 (operand nil))) (leaf 3 (operand nil))) nil
unfolding events behind_start spell
chain-spelled = refl

abbrev forms : List Form
forms = row (1 ∷ []) ∷ row (1 ∷ 2 ∷ 3 ∷ []) ∷ row (1 ∷ 2 ∷ []) ∷ []

pub longest-that_stands : (best forms (1 ∷ 2 ∷ 4 ∷ []) ≡ some (row (1 ∷ 2 ∷ []))) × (best forms (2 ∷ []) ≡ none)
unfolding best
longest-that_stands = (refl, refl)

-- 256 + kind
pub missing-token : expected 5 ≡ 261
missing-token = refl
