-- What is wrong with the value of a key (this project's own profile).
use Rattle.std.specs.Prelude.{ℕ, ℤ, pos, negsuc, ◌+◌, List, [], ◌∷◌, codes, Bool, true, false, not, ◌&&◌, ◌||◌}
use Rattle.std.specs.Prelude.{nat_le, Option, Some, None}
use Rattle.std.specs.Prelude.{is_some, drop, take, unwrap_or}
use Rattle.std.specs.List.{list_any}
use Rattle.std.specs.Str.{bytes_eq}
use Rattle.toml.specs.Data.{Data, Items, no_items, item, Members, get_member, as_str, as_integer, as_bool, as_array}
use Rattle.mb_schema.specs.Context.{ContextData, knows, knows_earlier}
use Rattle.mb_schema.specs.Format.{KeyData, words}
use Rattle.mb_schema.specs.Name.{is_name, is_guardian}
use Rattle.mb_schema.specs.Number.{number_of}
use Rattle.mb_schema.specs.Operation.{space_in}
use Rattle.mb_schema.specs.Location.{first, when}
use Rattle.mb_schema.specs.declared.finding.Reason.{Reason}
use Rattle.mb_schema.specs.declared.finding.Reason.TheVariants.{Missing, WrongType, NotAllowed, OutOfRange, TooMany, UnknownName, RepeatedName}
use Rattle.mb_schema.specs.declared.form.Form.{Form}
use Rattle.mb_schema.specs.declared.form.Form.TheVariants.{Whole, AnyInteger, Truth, Word, Cause, Name, Parent, Receiver, Tables, Rows, Operations}
use Rattle.mb_schema.specs.declared.form.Only.{Only}
use Rattle.mb_schema.specs.declared.form.Only.TheVariants.{Always, Bounded, Priority, Message}

-- the value has the type
abbrev pub has_type : Form → Data → Bool
has_type (Whole low high) d = is_some (as_integer d)
has_type AnyInteger d = is_some (as_integer d)
has_type Truth d = is_some (as_bool d)
has_type (Word set) d = is_some (as_str d)
has_type Cause d = is_some (as_str d)
has_type Name d = is_some (as_str d)
has_type Parent d = is_some (as_str d)
has_type Receiver d = is_some (as_str d)
has_type (Tables most) d = is_some (as_array d)
has_type (Rows rows) d = is_some (as_array d)
has_type (Operations adds) d = is_some (as_array d)

-- the text of a value, empty where it is none
abbrev pub text_of : Data → List ℕ
text_of d = unwrap_or (as_str d) []

-- the text at a key, or the default where the key is absent
abbrev pub text_or : List ℕ → Option Data → List ℕ
text_or default None = default
text_or default (Some d) = text_of d

-- the kind of mailbox that a table of an actor names, or the default
abbrev pub mailbox_word : Members → List ℕ
mailbox_word ms = text_or (codes "unbounded") (get_member (codes "mailbox") ms)

-- what a table of a send says is sent, or the default
abbrev pub what_word : Members → List ℕ
what_word ms = text_or (codes "user") (get_member (codes "what") ms)

-- the key is allowed in this table
abbrev pub may_stand : Only → Members → Bool
may_stand Always ms = true
may_stand Bounded ms = bytes_eq (mailbox_word ms) (codes "bounded")
may_stand Priority ms = bytes_eq (mailbox_word ms) (codes "priority")
may_stand Message ms = bytes_eq (what_word ms) (codes "user") || bytes_eq (what_word ms) (codes "control")

-- the integer is from the one number to the other
abbrev pub is_from_to : ℕ → ℕ → Option ℤ → Bool
is_from_to low high None = false
is_from_to low high (Some (pos n)) = nat_le low n && nat_le n high
is_from_to low high (Some (negsuc n)) = false

-- the causes of failure: these words, and an error of a number
abbrev pub is_error_of : List ℕ → Option ℕ → Bool
is_error_of text None = false
is_error_of text (Some i) = bytes_eq (take i text) (codes "error") && is_some (number_of (drop (i + 1) text))

abbrev pub cause_words : List (List ℕ)
cause_words = codes "any" ∷ codes "error" ∷ codes "init" ∷ codes "killed" ∷ codes "deathpact" ∷ []

-- the word is one of these
abbrev pub is_among : List (List ℕ) → List ℕ → Bool
is_among set text = list_any (λ word. bytes_eq word text) set

-- the text is a cause of failure: one of these words, or an error of a number
abbrev pub is_cause : List ℕ → Bool
is_cause text = is_among cause_words text || is_error_of text (space_in text)

-- the value is one of those that are allowed
abbrev pub is_in_range : Form → Members → Data → Bool
is_in_range (Whole low high) ms d = is_from_to low high (as_integer d)
is_in_range (Word set) ms d = is_among (words set) (text_of d)
is_in_range Cause ms d = is_cause (text_of d)
is_in_range Name ms d = is_name (text_of d)
is_in_range Parent ms d = is_name (text_of d) || is_guardian (text_of d)
is_in_range Receiver ms d = is_name (text_of d) || (is_guardian (text_of d) && bytes_eq (what_word ms) (codes "stop"))
is_in_range _ ms d = true

-- how many items there are
abbrev pub item_count : Items → ℕ
item_count no_items = 0
item_count (item d ds) = 1 + item_count ds

-- the items of a value, none where it is no array
abbrev pub items_of : Data → Items
items_of d = unwrap_or (as_array d) no_items

-- there are no more items than are allowed
abbrev pub is_few : Form → Data → Bool
is_few (Tables most) d = nat_le (item_count (items_of d)) most
is_few _ d = true

-- an actor that may be named here has the name
abbrev pub is_known : Form → ContextData → Data → Bool
is_known Parent a d = is_guardian (text_of d) || knows_earlier a (text_of d)
is_known Receiver a d = is_guardian (text_of d) || knows a.actor_entries (text_of d)
is_known _ a d = true

-- no earlier actor has the name
abbrev pub is_fresh : Form → ContextData → Data → Bool
is_fresh Name a d = not (knows_earlier a (text_of d))
is_fresh _ a d = true

-- what is wrong with a value, in this order
abbrev pub value_reason : ContextData → Members → KeyData → Data → Option Reason
value_reason a ms key d = first (
    when (not (has_type key.form d)) WrongType
    ∷ when (not (may_stand key.only ms)) NotAllowed
    ∷ when (not (is_in_range key.form ms d)) OutOfRange
    ∷ when (not (is_few key.form d)) TooMany
    ∷ when (not (is_known key.form a d)) UnknownName
    ∷ when (not (is_fresh key.form a d)) RepeatedName
    ∷ [])

-- what is wrong with a key
abbrev pub key_reason : ContextData → Members → KeyData → Option Data → Option Reason
key_reason a ms key None = when (key.required && may_stand key.only ms) Missing
key_reason a ms key (Some d) = value_reason a ms key d
