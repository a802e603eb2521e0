-- "The section grammar (over non-trivia kinds; → names the node)", as data, rule by rule in 01's order. A part carries the message
-- that the reader gives where it is missing. Assumes nothing.
use Rattle.std.specs.Prelude.{ℕ, zero, suc, List, [], ◌∷◌, ◌++◌, map}
use Rattle.predictive.specs.Grammar.{Head, one, Form, row, row_in, broken, Choice, free, unless, Part, tok, pair, look, any, longest, wrong, fail, either, opt, many, until, inside, suffix, leaning, before, opens, rule, Grammar}
use Rattle.predictive.specs.Notation.{◌·◌, ◌∣◌, maybe}
use Rattle.predictive.specs.Reader.{ones, expected, unmet}
use Rattle.aadl.specs.Kinds.{ERROR, SEMICOLON, COLON, COMMA, DOT, DOT_DOT, L_PAREN, R_PAREN, L_BRACKET, R_BRACKET, FAT_ARROW, PLUS_ARROW, PLUS, MINUS, STAR, SLASH, COLON_COLON, INTEGER_LIT, REAL_LIT, STRING_LIT, IDENT, Kind, #◌}
use Rattle.aadl.specs.Kinds.{NONE_KW, SYSTEM_KW, PROCESS_KW, THREAD_KW, GROUP_KW, PROCESSOR_KW, VIRTUAL_KW, BUS_KW, MEMORY_KW, DEVICE_KW, SUBPROGRAM_KW, DATA_KW, ABSTRACT_KW, MODES_KW, PROPERTIES_KW, IN_KW, OUT_KW, PORT_KW, EVENT_KW, ACCESS_KW, PROVIDES_KW, REQUIRES_KW, FEATURE_KW, CONSTANT_KW, APPLIES_KW, TO_KW, DELTA_KW, BINDING_KW, CLASSIFIER_KW, REFERENCE_KW, COMPUTE_KW, TRUE_KW, FALSE_KW, NOT_KW}
use Rattle.aadl.specs.Kinds.{COMPONENT_CATEGORY, PROTOTYPE_BINDING, PROTOTYPE_BINDING_LIST, DIRECTION, PROPERTY_SECTION, PROPERTY_ASSOCIATION, PROPERTY_REF, APPLIES_TO, CONTAINMENT_PATH, IN_BINDING, MODAL_PROPERTY_VALUE, PROPERTY_EXPRESSION, BOOLEAN_VALUE, INTEGER_VALUE, REAL_VALUE, STRING_VALUE, RECORD_VALUE, RECORD_FIELD, LIST_VALUE, RANGE_VALUE, DELTA_VALUE, BINARY_EXPR, REFERENCE_VALUE, CLASSIFIER_VALUE, COMPUTED_VALUE, CLASSIFIER_REF}
use Rattle.aadl.specs.Symbols.{C_STYLE, shown}

-- HOW THE RULES ARE WRITTEN --------------------------------------------------------------------------------------------

-- The rules that are called from inside an opener; Negated is the Expression after `not`.
pub data Rule : Type 0 where
  Expression Negated Operand Classifier : Rule

abbrev pub from : ℕ → ℕ → List ℕ
from k zero = []
from k (suc n) = k ∷ from (suc k) n

unfoldable pub keywords : List ℕ
keywords = from 34 81

-- "Name: IDENT or keyword."
unfoldable pub names : List ℕ
names = # IDENT ∷ keywords

-- a fixed token that is expected: where it is missing, message 256 + kind
abbrev pub token : Kind → Part Rule
token k = tok (expected (# k)) (# k ∷ [])

-- a fixed token that is taken only where it stands: where it is missing, message 0, which never comes (proofs `NeverMissed`)
abbrev pub begun : Kind → Part Rule
begun k = tok unmet (# k ∷ [])

abbrev pub numbers : List Kind → List ℕ
numbers ks = map #◌ ks

-- one of several tokens, likewise
abbrev pub one_of : List Kind → Part Rule
one_of ks = tok unmet (numbers ks)

abbrev pub name : Part Rule
name = tok unmet names

-- p → the node k
abbrev pub node : Kind → Part Rule → Part Rule
node k p = inside (# k) p

abbrev pub heads : List Kind → List Head
heads ks = ones (numbers ks)

-- p (`,` q)*
abbrev pub commas : Part Rule → Part Rule → Part Rule
commas p q = p · many (begun COMMA · q)

-- listed forms of one sort
abbrev pub forms : (List ℕ → Form) → List (List Kind) → List Form
forms sort kss = map (λ (ks : List Kind). sort (numbers ks)) kss

-- PATHS AND CLASSIFIERS ------------------------------------------------------------------------------------------------

-- "Subscript: `[`, then nothing, IDENT, or INTEGER_LIT (`..` INTEGER_LIT?)?, then `]`."
abbrev pub index_end : Part Rule
index_end = begun DOT_DOT · maybe (begun INTEGER_LIT)

abbrev pub index : Part Rule
index = begun INTEGER_LIT · maybe index_end ∣ begun IDENT

abbrev pub subscript : Part Rule
subscript = begun L_BRACKET · maybe index · token R_BRACKET

-- "Path → CONTAINMENT_PATH: nothing, or IDENT Subscript* (`.` (IDENT Subscript*)?)*."
abbrev pub segment : Part Rule
segment = begun IDENT · many subscript

abbrev pub next_segment : Part Rule
next_segment = begun DOT · maybe segment

abbrev pub segments : Part Rule
segments = segment · many next_segment

abbrev pub path : Part Rule
path = node CONTAINMENT_PATH (maybe segments)

-- "Direction → DIRECTION: in, in out, out, provides, requires."
abbrev pub direction_forms : List Form
direction_forms = forms (row_in (# DIRECTION)) ((IN_KW ∷ []) ∷ (IN_KW ∷ OUT_KW ∷ []) ∷ (OUT_KW ∷ []) ∷ (PROVIDES_KW ∷ []) ∷ (REQUIRES_KW ∷ []) ∷ [])

-- "Category: data port, event data, event data port, event port, event, data access, bus access, feature, feature group, port,
-- access; or → COMPONENT_CATEGORY: virtual bus, virtual processor, thread, thread group, subprogram, subprogram group, system,
-- process, processor, bus, memory, device, data, abstract." "A `virtual` where a Category may begin fits no other rule": alone it
-- is broken, message 8.
abbrev pub feature_forms : List Form
feature_forms = forms row
    ((DATA_KW ∷ PORT_KW ∷ []) ∷ (EVENT_KW ∷ DATA_KW ∷ []) ∷ (EVENT_KW ∷ DATA_KW ∷ PORT_KW ∷ []) ∷ (EVENT_KW ∷ PORT_KW ∷ []) ∷
    (EVENT_KW ∷ []) ∷ (DATA_KW ∷ ACCESS_KW ∷ []) ∷ (BUS_KW ∷ ACCESS_KW ∷ []) ∷ (FEATURE_KW ∷ []) ∷ (FEATURE_KW ∷ GROUP_KW ∷ []) ∷
    (PORT_KW ∷ []) ∷ (ACCESS_KW ∷ []) ∷ [])

abbrev pub component_forms : List Form
component_forms = forms (row_in (# COMPONENT_CATEGORY))
    ((VIRTUAL_KW ∷ BUS_KW ∷ []) ∷ (VIRTUAL_KW ∷ PROCESSOR_KW ∷ []) ∷ (THREAD_KW ∷ []) ∷ (THREAD_KW ∷ GROUP_KW ∷ []) ∷
    (SUBPROGRAM_KW ∷ []) ∷ (SUBPROGRAM_KW ∷ GROUP_KW ∷ []) ∷ (SYSTEM_KW ∷ []) ∷ (PROCESS_KW ∷ []) ∷ (PROCESSOR_KW ∷ []) ∷
    (BUS_KW ∷ []) ∷ (MEMORY_KW ∷ []) ∷ (DEVICE_KW ∷ []) ∷ (DATA_KW ∷ []) ∷ (ABSTRACT_KW ∷ []) ∷ [])
    ++ (broken (# COMPONENT_CATEGORY) (numbers (VIRTUAL_KW ∷ [])) 8 ∷ [])

abbrev pub category_forms : List Form
category_forms = feature_forms ++ component_forms

-- "Preference B: after a Binding's `=>`, Direction and then Category take the longest listed form that stands there."
abbrev pub direction : Part Rule
direction = longest direction_forms

abbrev pub component_category : Part Rule
component_category = longest component_forms

abbrev pub category : Part Rule
category = longest category_forms

-- "Binding → PROTOTYPE_BINDING: head `=>` Direction? Category? Classifier?. Head: a Name in the first, any one token in later ones."
abbrev pub binding : Part Rule → Part Rule
binding head = node PROTOTYPE_BINDING (head · token FAT_ARROW · direction · category · maybe (rule Classifier))

-- "Bindings → PROTOTYPE_BINDING_LIST: `(` (Binding (`,` Binding)*)? `)`."
abbrev pub binding_list : Part Rule
binding_list = node PROTOTYPE_BINDING_LIST (begun L_PAREN · maybe (commas (binding name) (binding any)) · token R_PAREN)

abbrev pub bindings : Part Rule
bindings = opens binding_list

-- "Classifier → CLASSIFIER_REF: Name (`::` Name)* (`.` Name)? Bindings?"
abbrev pub qualifier : Part Rule
qualifier = begun COLON_COLON · tok 6 names

abbrev pub implementation : Part Rule
implementation = begun DOT · tok 7 names

abbrev pub classifier : Part Rule
classifier = node CLASSIFIER_REF (name · many qualifier · maybe implementation · maybe bindings)

-- EXPRESSIONS ----------------------------------------------------------------------------------------------------------

-- "IDENT (`::` Name?)*". "Preference C: a Name right after an operand's `::` belongs to that operand."
abbrev pub qualified : Part Rule
qualified = begun COLON_COLON · opt (unless (ones names)) name

abbrev pub named_value : Part Rule
named_value = node PROPERTY_EXPRESSION (begun IDENT · many qualified)

-- "Preference A: the Expression after `not` is not followed by `+ - * /`, ..": the rest of A is in `negated`.
abbrev pub not_value : Part Rule
not_value = node BOOLEAN_VALUE (begun NOT_KW · before (heads (PLUS ∷ MINUS ∷ STAR ∷ SLASH ∷ [])) (rule Negated))

abbrev pub list_value : Part Rule
list_value = node LIST_VALUE (begun L_PAREN · until (# R_PAREN) (commas (rule Expression) (rule Expression)))

abbrev pub record_field : Part Rule
record_field = node RECORD_FIELD (begun IDENT · token FAT_ARROW · rule Expression · token SEMICOLON)

abbrev pub record_value : Part Rule
record_value = node RECORD_VALUE (begun L_BRACKET · many record_field · token R_BRACKET)

abbrev pub signed_value : Part Rule
signed_value = node PROPERTY_EXPRESSION (one_of (PLUS ∷ MINUS ∷ []) · rule Operand)

-- literals, and keywords with parentheses
abbrev pub integer_value : Part Rule
integer_value = node INTEGER_VALUE (begun INTEGER_LIT · maybe (begun IDENT))

abbrev pub real_value : Part Rule
real_value = node REAL_VALUE (begun REAL_LIT · maybe (begun IDENT))

abbrev pub string_value : Part Rule
string_value = node STRING_VALUE (begun STRING_LIT)

abbrev pub boolean_value : Part Rule
boolean_value = node BOOLEAN_VALUE (one_of (TRUE_KW ∷ FALSE_KW ∷ []))

abbrev pub classifier_value : Part Rule
classifier_value = node CLASSIFIER_VALUE (begun CLASSIFIER_KW · token L_PAREN · maybe classifier · token R_PAREN)

abbrev pub reference_value : Part Rule
reference_value = node REFERENCE_VALUE (begun REFERENCE_KW · token L_PAREN · path · token R_PAREN)

abbrev pub computed_value : Part Rule
computed_value = node COMPUTED_VALUE (begun COMPUTE_KW · token L_PAREN · maybe (begun IDENT) · token R_PAREN)

-- "Operand: INTEGER_LIT or REAL_LIT with IDENT? → INTEGER_VALUE, REAL_VALUE; STRING_LIT → STRING_VALUE; true, false, or not
-- Expression → BOOLEAN_VALUE; classifier `(` Classifier? `)` → CLASSIFIER_VALUE; reference `(` Path `)` → REFERENCE_VALUE; compute
-- `(` IDENT? `)` → COMPUTED_VALUE; `(` (Expression (`,` Expression)*)? `)` → LIST_VALUE; `[` (IDENT `=>` Expression `;` →
-- RECORD_FIELD)* `]` → RECORD_VALUE; IDENT (`::` Name?)* or sign Operand → PROPERTY_EXPRESSION." "A C-style literal where an operand
-- begins is taken inside an ERROR node"; "a missing operand gives 5 and opens no node".
abbrev pub operand : Part Rule
operand =
    integer_value ∣ real_value ∣ string_value ∣ boolean_value ∣ opens not_value
    ∣ classifier_value ∣ reference_value ∣ computed_value
    ∣ opens list_value ∣ opens record_value
    ∣ named_value ∣ opens signed_value
    ∣ wrong C_STYLE (# ERROR) 4 ∣ fail 5

-- "Product, then Sum: left-leaning → BINARY_EXPR, `*` `/` before `+` `-`."
abbrev pub product : Part Rule
product = leaning (# BINARY_EXPR) operand (one_of (STAR ∷ SLASH ∷ []) · operand)

abbrev pub sum : Part Rule
sum = leaning (# BINARY_EXPR) product (one_of (PLUS ∷ MINUS ∷ []) · product)

-- "Expression: Sum, or Sum `..` Sum → RANGE_VALUE, whose end may be (delta Sum → DELTA_VALUE)."
abbrev pub delta_value : Part Rule
delta_value = node DELTA_VALUE (begun DELTA_KW · sum)

abbrev pub range : (own_range own-delta : Choice) → Part Rule
range r d = suffix r (# RANGE_VALUE) sum (begun DOT_DOT · sum · opt d delta_value)

abbrev pub expression : Part Rule
expression = range free free

-- "Preference A: .. nor by `..` unless it has its own, nor by delta if it has its own `..` and no own delta."
abbrev pub negated : Part Rule
negated = range (unless (heads (DOT_DOT ∷ []))) (unless (heads (DELTA_KW ∷ [])))

-- ASSOCIATIONS AND THE SECTION -----------------------------------------------------------------------------------------

-- "Modes → MODAL_PROPERTY_VALUE: in modes `(` (Mode (`,` Mode?)*)? `)`; Mode: Name (`=>` Name?)?."
abbrev pub mapping : Part Rule
mapping = begun FAT_ARROW · maybe name

abbrev pub mode : Part Rule
mode = name · maybe mapping

abbrev pub in_modes : Part Rule
in_modes = pair (# IN_KW) (# MODES_KW) · token L_PAREN · maybe (commas mode (maybe mode)) · token R_PAREN

abbrev pub modes : Part Rule
modes = node MODAL_PROPERTY_VALUE in_modes

abbrev pub value : Part Rule
value = expression · maybe modes

abbrev pub applies_to : Part Rule
applies_to = node APPLIES_TO (begun APPLIES_KW · token TO_KW · commas path path)

abbrev pub in_binding : Part Rule
in_binding = node IN_BINDING (pair (# IN_KW) (# BINDING_KW) · token L_PAREN · maybe classifier · token R_PAREN)

-- "Association → PROPERTY_ASSOCIATION: (IDENT (`::` IDENT)? → PROPERTY_REF), `=>` or `+=>`, constant?, Expression Modes?
-- (`,` Expression Modes?)*, (applies to Path (`,` Path)* → APPLIES_TO)?, (in binding `(` Classifier? `)` → IN_BINDING)?, `;`."
-- The two names of its PROPERTY_REF are left open here.
abbrev pub property_ref : (first second : Part Rule) → Part Rule
property_ref first second = node PROPERTY_REF (first · maybe (begun COLON_COLON · second))

abbrev pub arrow : Part Rule
arrow = tok 1 (numbers (FAT_ARROW ∷ PLUS_ARROW ∷ []))

abbrev pub association_rest : Part Rule
association_rest = arrow · maybe (begun CONSTANT_KW) · commas value value · maybe applies_to · maybe in_binding · token SEMICOLON

abbrev pub association : (first second : Part Rule) → Part Rule
association first second = node PROPERTY_ASSOCIATION (property_ref first second · association_rest)

-- "Section → PROPERTY_SECTION: properties, then none `;` or Association*." 01's literal grammar, for what is derived.
abbrev pub literal_association : Part Rule
literal_association = association (begun IDENT) (begun IDENT)

abbrev pub literal_section : Part Rule
literal_section = node PROPERTY_SECTION (begun PROPERTIES_KW · (begun NONE_KW · token SEMICOLON ∣ many literal_association))

-- The grammar as it is read: "a keyword followed by COLON starts an association too, .. save a `none` right after `properties`".
abbrev pub property_name : ℕ → Part Rule
property_name m = begun IDENT ∣ look m keywords (# COLON)

abbrev pub read_association : Part Rule
read_association = association (property_name 3) (property_name 2)

abbrev pub section : Part Rule
section = node PROPERTY_SECTION (begun PROPERTIES_KW · either (unless (one (# NONE_KW) ∷ [])) (begun NONE_KW · token SEMICOLON) (many read_association))

abbrev pub rules : Rule → Part Rule
rules Expression = expression
rules Negated = negated
rules Operand = operand
rules Classifier = classifier

abbrev pub operand_heads : List Head
operand_heads =
    one C_STYLE ∷ heads (INTEGER_LIT ∷ REAL_LIT ∷ STRING_LIT ∷ TRUE_KW ∷ FALSE_KW ∷ NOT_KW ∷ CLASSIFIER_KW ∷ REFERENCE_KW ∷ COMPUTE_KW ∷ L_PAREN ∷ L_BRACKET ∷ IDENT ∷ PLUS ∷ MINUS ∷ [])

-- what each rule begins with
abbrev pub firsts : Rule → List Head
firsts Expression = operand_heads
firsts Negated = operand_heads
firsts Operand = operand_heads
firsts Classifier = ones names

-- "At each opener", refusal 6: "it would be the 65th open one".
abbrev pub grammar : Grammar
grammar = record { Rule = Rule; rules = rules; firsts = firsts; shown = shown; deep = 6 }
