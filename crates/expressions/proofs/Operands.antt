-- Operands by their first token: what the reading of an operand is where a token stands that begins one, and where none does.
-- Each is computed from the section grammar. Assumes nothing.
use Rattle.std.specs.Prelude.{Option, Some, None}
use Prim.Native.Nat.{ℕ, suc}
use mathlib.Core.Path.{◌≡◌, refl, sym, ◌∙◌}
use mathlib.Core.Bool.{true, false}
use mathlib.Core.List.{List, [], ◌∷◌, ◌++◌}
use lib.Dec.{eqb}
use types.Run.{OneOf}
use borrow.Author.Tests.{ne_eqb}
use Rattle.predictive.specs.Forest.{message}
use Rattle.predictive.specs.Grammar.{Head, at, has, free, Part, opt, wrong, fail, either, inside, opens, before, rule, seq, any}
use Rattle.predictive.specs.Reader.{miss, ones, first, null, take_one, take_any, step, below, read}
use Rattle.predictive.proofs.Tests.{◌and◌, or_l, or_r}
use Rattle.predictive.proofs.Lookahead.{single}
use Rattle.predictive.proofs.Heads.{same, among, within-heads, within-absent}
use Rattle.predictive.specs.Notation.{◌·◌, ◌∣◌}
use Rattle.aadl.specs.Kinds.{#◌, PROPERTY_EXPRESSION, ERROR, COMMA, DOT_DOT, STAR, SLASH, BINARY_EXPR, NOT_KW, L_PAREN, L_BRACKET, PLUS, MINUS, INTEGER_LIT, REAL_LIT, STRING_LIT, TRUE_KW, FALSE_KW, CLASSIFIER_KW, REFERENCE_KW, COMPUTE_KW, IDENT}
use Rattle.aadl.specs.Symbols.{C_STYLE, shown}
use Rattle.aadl.specs.Section.{Rule, Expression, Negated, Operand, begun, one_of, product, sum, delta_value, names, keywords, numbers, grammar, operand, expression, integer_value, real_value, string_value, boolean_value, not_value, classifier_value, reference_value, computed_value, list_value, record_value, named_value}
use Rattle.aadl.specs.Section as G
use Rattle.parser.specs.declared.Parser.{Parser}
use Rattle.parser.specs.declared.CompletedMarker.{CompletedMarker}
use Rattle.parser.specs.declared.Counters.{Counters}
use Rattle.parser.specs.Input.{Input, rest, nth}
use Rattle.parser.specs.Reads.{stands, reading_at}
use Rattle.parser.specs.Parsers.{source, counters, Same, stand, ReadsWithin, ReadsNodeWithin, ReadsOperandWithin}
use Rattle.parser.proofs.Join.{stands_at}
use Rattle.parser.proofs.Parsers.{r-same, n-same, o_node, o_none, o_same, Chaining}
use Rattle.categories.proofs.Words.{begins-one, begins-any, ◌also◌, no_more, stands-neither}
use Rattle.expressions.specs.Openers.{openers, beginnings, signed_value, opener_value}
use Rattle.expressions.proofs.Operators.{Plain, shown-stands, none-shown}

-- The Expression after `not` is read as any other.
pub r-negated : {d : ℕ} {hs : List Head} {p r : Parser} → ReadsWithin d expression p r → ReadsWithin (suc d) (before hs (rule Negated)) p r
unfolding read step below
r-negated x = r-same (λ n h. refl) x

-- The parts P and Q are read alike where k stands.
abbrev pub Alike : (d k : ℕ) → Part Rule → Part Rule → Type 0
Alike d k P Q = (n : ℕ) (ys : List ℕ) → read grammar n d P (k ∷ ys) ≡ read grammar n d Q (k ∷ ys)

alike_at : (inp : Input) (d k : ℕ) (P Q : Part Rule) (p : Counters) → Alike d k P Q → stands inp (ones (k ∷ [])) p ≡ true → (n : ℕ) → p.stop ≡ 0 →
    reading_at inp n d P p ≡ reading_at inp n d Q p
unfolding ones
alike_at inp d k P Q p f s n h = begins-one k (λ (xs : List ℕ). read grammar n d P xs ≡ read grammar n d Q xs) (f n) (rest inp p) (stands_at inp (ones (k ∷ [])) p s h)

-- An operand T of one kind of node, told by its first token k: a symbol that stands, ..
pub arm_at : {d j : ℕ} {P T : Part Rule} {p r : Parser} {m : CompletedMarker} (k : ℕ) → Alike d k (inside j P) T →
    stand (ones (k ∷ [])) p ≡ true → ReadsNodeWithin d (inside j P) p m r → ReadsOperandWithin d T p (Some m) r
unfolding read step
arm_at {d} {j} {P} {T} {p} k f s y =
    let inp = source p.tokens in
    o_node j (λ n. reading_at inp n d P (counters p)) (λ n i. sym (alike_at inp d k (inside j P) T (counters p) f s n i))
    (n-same (alike_at inp d k (inside j P) T (counters p) f s) y)

-- .. or a kind that is shown.
pub arm : {d j x : ℕ} {P T : Part Rule} {p r : Parser} {m : CompletedMarker} (k : ℕ) → Plain k → Alike d k (inside j P) T →
    x ≡ shown (nth (source p.tokens) (counters p) 0) → x ≡ k → ReadsNodeWithin d (inside j P) p m r → ReadsOperandWithin d T p (Some m) r
arm {p = p} k a f g h y = arm_at k f (shown-stands (source p.tokens) (counters p) k a g h) y

-- Where no token stands that begins an operand, message 5.
abbrev operand-kinds : List ℕ
operand-kinds = beginnings ++ C_STYLE ∷ []

-- a side of a choice whose heads are among some of which none stands
passed : (n d : ℕ) (P Q : Part Rule) (hs : List Head) (xs : List ℕ) → within-heads (first grammar P) hs ≡ true → at hs xs ≡ false →
    read grammar n d (either free P Q) xs ≡ read grammar n d Q xs
unfolding read step
passed n d P Q hs xs w e = rw (within-absent (first grammar P) hs xs w e) refl

failed : (n d m : ℕ) (xs : List ℕ) → read grammar n d (fail m) xs ≡ miss (message m) xs
unfolding read step
failed n d m xs = refl

operand-none : (n d : ℕ) (xs : List ℕ) → at (ones operand-kinds) xs ≡ false → read grammar n d operand xs ≡ miss (message 5) xs
unfolding first null ones names keywords within-heads among same
operand-none n d xs e =
    let by : (P Q : Part Rule) → within-heads (first grammar P) (ones operand-kinds) ≡ true →
    read grammar n d (either free P Q) xs ≡ read grammar n d Q xs = λ P Q w. passed n d P Q (ones operand-kinds) xs w e in
    by integer_value _ refl
    ∙ by real_value _ refl
    ∙ by string_value _ refl
    ∙ by boolean_value _ refl
    ∙ by (opens not_value) _ refl
    ∙ by classifier_value _ refl
    ∙ by reference_value _ refl
    ∙ by computed_value _ refl
    ∙ by (opens list_value) _ refl
    ∙ by (opens record_value) _ refl
    ∙ by named_value _ refl
    ∙ by (opens G.signed_value) _ refl
    ∙ by (wrong C_STYLE (# ERROR) 4) (fail 5) refl
    ∙ failed n d 5 xs

pub no_operand : {d : ℕ} {p q : Parser} → stand (ones (beginnings ++ C_STYLE ∷ [])) p ≡ false → ReadsWithin d (fail 5) p q →
    ReadsOperandWithin d operand p None q
unfolding read step
no_operand {d} {p} s x =
    let xs = rest (source p.tokens) (counters p) in
    let none : (n : ℕ) → p.stop ≡ 0 → read grammar n d operand xs ≡ miss (message 5) xs =
    λ n h. operand-none n d xs (stands_at (source p.tokens) (ones operand-kinds) (counters p) s h) in
    o_none (message 5) none (r-same (λ n h. sym (none n h)) x)

-- OPENERS --------------------------------------------------------------------------------------------------------------

-- The tests that a `match` on x has failed, in its order.
abbrev Failed : Type 0 → List ℕ → ℕ → Type 0
Failed N [] x = N
Failed N (k ∷ ks) x = Failed (N × (OneOf (k ∷ []) x → ⊥)) ks x

failed-all : (N : Type 0) (ks : List ℕ) (x : ℕ) → Failed N ks x → (has ks x ≡ false) × N
failed-all N [] x r = (refl, r)
failed-all N (k ∷ ks) x r = let i = failed-all (N × (OneOf (k ∷ []) x → ⊥)) ks x r in (rw (ne_eqb x k i.1.1) i.0, i.1.0)

-- No operand begins where no opener stands, and the kind that is shown is neither `true` nor `false` nor one of the `match`.
abbrev matched : List ℕ
matched = numbers (INTEGER_LIT ∷ REAL_LIT ∷ STRING_LIT ∷ CLASSIFIER_KW ∷ REFERENCE_KW ∷ COMPUTE_KW ∷ IDENT ∷ [])

pub none-begins : (inp : Input) (p : Counters) {x : ℕ} → x ≡ shown (nth inp p 0) → stands inp (ones openers) p ≡ false → eqb x 106 ≡ false → eqb x 107 ≡ false →
    Failed (Unit {0}) matched x → stands inp (ones beginnings) p ≡ false
unfolding ones
none-begins inp p {x} g o t f r =
    let u = (failed-all (Unit {0}) matched x r).0 in
    let n1 = or_r (eqb x 30) _ u in
    stands-neither inp (ones openers) (ones (numbers (INTEGER_LIT ∷ REAL_LIT ∷ STRING_LIT ∷ TRUE_KW ∷ FALSE_KW ∷ CLASSIFIER_KW ∷ REFERENCE_KW ∷ COMPUTE_KW ∷ IDENT ∷ []))) p o
    (none-shown inp p (numbers (INTEGER_LIT ∷ REAL_LIT ∷ STRING_LIT ∷ TRUE_KW ∷ FALSE_KW ∷ CLASSIFIER_KW ∷ REFERENCE_KW ∷ COMPUTE_KW ∷ IDENT ∷ [])) refl refl refl g
    (rw (or_l (eqb x 30) _ u, or_l (eqb x 31) _ n1, or_l (eqb x 32) _ (or_r (eqb x 31) _ n1), t, f) (or_r (eqb x 32) _ (or_r (eqb x 31) _ n1))))

-- A sign is taken where none of the other openers is shown.
pub sign-else : {d x : ℕ} {p r : Parser} {m : CompletedMarker} → x ≡ shown (nth (source p.tokens) (counters p) 0) →
    Failed (Unit {0}) (numbers (NOT_KW ∷ L_PAREN ∷ L_BRACKET ∷ [])) x → ReadsNodeWithin d signed_value p m r → ReadsOperandWithin d opener_value p (Some m) r
unfolding read step first null ones within-heads among same
sign-else {d} {x} {p} g f y = o_node (# PROPERTY_EXPRESSION) (λ l. reading_at (source p.tokens) l d (seq any (rule Operand)) (counters p)) (λ l z. sym (alike l z)) (n-same alike y)
  where
    alike : (l : ℕ) → p.stop ≡ 0 → reading_at (source p.tokens) l d signed_value (counters p) ≡ reading_at (source p.tokens) l d opener_value (counters p)
    alike l z =
        let inp : Input = source p.tokens in
        let ks = numbers (NOT_KW ∷ L_PAREN ∷ L_BRACKET ∷ []) in
        let hs = ones ks in
        let xs = rest inp (counters p) in
        let e = stands_at inp hs (counters p) (none-shown inp (counters p) ks refl refl refl g (failed-all (Unit {0}) ks x f).0) z in
        sym (passed l d not_value (list_value ∣ record_value ∣ signed_value) hs xs refl e ∙ passed l d list_value (record_value ∣ signed_value) hs xs refl e ∙ passed l d record_value signed_value hs xs refl e)

-- An operand that begins with an opener.
pub opener_operand : {d : ℕ} {p r : Parser} {o : Option CompletedMarker} → stand (ones openers) p ≡ true → ReadsOperandWithin d (opens opener_value) p o r →
    ReadsOperandWithin d operand p o r
unfolding read step first null ones names keywords take_one take_any
opener_operand {d} {p} s x = o_same alike x
  where
    inp : Input
    inp = source p.tokens

    alike : (n : ℕ) → p.stop ≡ 0 → reading_at inp n d (opens opener_value) (counters p) ≡ reading_at inp n d operand (counters p)
    alike n h =
        begins-any (λ (xs : List ℕ). read grammar n d (opens opener_value) xs ≡ read grammar n d operand xs)
        ((λ ys. refl) also (λ ys. refl) also (λ ys. refl) also (λ ys. refl) also (λ ys. refl) also no_more)
        (rest inp (counters p)) (stands_at inp (ones openers) (counters p) s h)

-- CHAINS ---------------------------------------------------------------------------------------------------------------

-- an operand, a product and a sum are read to one node
pub single-operand : single operand ≡ true
unfolding single ◌and◌
single-operand = refl

pub single-product : single product ≡ true
unfolding single ◌and◌
single-product = refl

pub single-sum : single sum ≡ true
unfolding single ◌and◌
single-sum = refl

abbrev pub factor : Part Rule
factor = one_of (STAR ∷ SLASH ∷ []) · operand

abbrev pub term : Part Rule
term = one_of (PLUS ∷ MINUS ∷ []) · product

-- what may follow the first sum of an expression
abbrev pub ranged : Part Rule
ranged = begun DOT_DOT · sum · opt free delta_value

-- what any of these begins with
abbrev pub operators : List Head
operators = ones (numbers (STAR ∷ SLASH ∷ PLUS ∷ MINUS ∷ DOT_DOT ∷ []))

abbrev pub next-item : Part Rule
next-item = begun COMMA · rule Expression

-- Where a loop over a chain stands that began at q₀ with the node o: a chain of whatever that is the first operand of.
pub record Chained (P Q : Part Rule) (o : CompletedMarker) (q₀ : Parser) (m : CompletedMarker) (q : Parser) : Type 0 where
  pub left : q.left ≡ q₀.left
  pub same : Same q₀ q
  pub on : (p₀ : Parser) → ReadsOperandWithin p₀.left P p₀ (Some o) q₀ → Chaining p₀.left (# BINARY_EXPR) P Q p₀ q m.0
