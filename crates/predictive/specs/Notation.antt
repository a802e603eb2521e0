-- How grammars are written: p · q in a row, p ∣ q one or the other, maybe p for p?. Assumes nothing.
use Rattle.predictive.specs.Grammar.{free, Part, seq, either, opt}

infixr 60 ◌·◌
abbrev pub ◌·◌ : {R : Type 0} → Part R → Part R → Part R
p · q = seq p q

infixr 55 ◌∣◌
abbrev pub ◌∣◌ : {R : Type 0} → Part R → Part R → Part R
p ∣ q = either free p q

abbrev pub maybe : {R : Type 0} → Part R → Part R
maybe p = opt free p
