-- The format of a scenario, table by table (this project's own profile: Akka has no such format).
use Rattle.std.specs.Prelude.{ℕ, List, [], ◌∷◌, codes, Bool, true, false}
use Rattle.mb_schema.specs.declared.form.Form.{Form}
use Rattle.mb_schema.specs.declared.form.Form.TheVariants.{Whole, AnyInteger, Truth, Word, Cause, Name, Parent, Receiver, Tables, Rows, Operations}
use Rattle.mb_schema.specs.declared.form.Only.{Only}
use Rattle.mb_schema.specs.declared.form.Only.TheVariants.{Always, Bounded, Priority, Message}
use Rattle.mb_schema.specs.declared.form.Rows.{Rows as RowsType}
use Rattle.mb_schema.specs.declared.form.Rows.TheVariants.{Rank, On, Strategy}
use Rattle.mb_schema.specs.declared.form.Words.{Words}
use Rattle.mb_schema.specs.declared.form.Words.TheVariants.{Pool, Mailbox, What, Directive}
use Rattle.mb_schema.specs.declared.key.KeySchema.{KeySchema}

-- a key: its name, whether it is required where it is allowed, where it is allowed, and which values are allowed
pub record KeyData : Type 0 where
  pub name : List ℕ
  pub required : Bool
  pub only : Only
  pub form : Form

-- a key of a table, as contracts see it
abbrev pub key_data : KeySchema → KeyData
key_data key = record { name = key.name.now; required = key.required; only = key.only; form = key.form }

abbrev pub required : List ℕ → Only → Form → KeyData
required name only form = record { name = name; required = true; only = only; form = form }

abbrev pub optional : List ℕ → Only → Form → KeyData
optional name only form = record { name = name; required = false; only = only; form = form }

-- a number of 32 bits
abbrev pub any_number : Form
any_number = Whole 0 4294967295

-- the keys of the document
abbrev pub top_keys : List KeyData
top_keys =
    optional (codes "workers") Always (Whole 0 16)
    ∷ optional (codes "pool") Always (Word Pool)
    ∷ optional (codes "throughput") Always any_number
    ∷ optional (codes "journal_limit") Always (Whole 1 4294967295)
    ∷ optional (codes "actor") Always (Tables 63)
    ∷ optional (codes "send") Always (Tables 10000)
    ∷ []

-- the name of an actor, and its other keys
abbrev pub name_key : KeyData
name_key = required (codes "name") Always Name

-- the keys of an actor's table beside its name, in order
abbrev pub other_actor_keys : List KeyData
other_actor_keys =
    optional (codes "parent") Always Parent
    ∷ optional (codes "mailbox") Always (Word Mailbox)
    ∷ required (codes "capacity") Bounded (Whole 1 65536)
    ∷ optional (codes "rank") Priority (Rows Rank)
    ∷ optional (codes "other") Priority any_number
    ∷ optional (codes "initial") Always AnyInteger
    ∷ optional (codes "start") Always (Operations false)
    ∷ optional (codes "restart") Always (Operations false)
    ∷ optional (codes "stop") Always (Operations false)
    ∷ optional (codes "terminated") Always (Operations false)
    ∷ optional (codes "on") Always (Rows On)
    ∷ optional (codes "strategy") Always (Rows Strategy)
    ∷ optional (codes "retries") Always AnyInteger
    ∷ optional (codes "all_for_one") Always Truth
    ∷ []

-- the keys of an actor's table, in order: its name and then the others
abbrev pub actor_keys : List KeyData
actor_keys = name_key ∷ other_actor_keys

-- the keys of a send
abbrev pub send_keys : List KeyData
send_keys =
    optional (codes "from") Always (Whole 0 15)
    ∷ required (codes "to") Always Receiver
    ∷ optional (codes "what") Always (Word What)
    ∷ required (codes "kind") Message any_number
    ∷ optional (codes "value") Message AnyInteger
    ∷ optional (codes "times") Always (Whole 1 100000)
    ∷ []

-- the keys of the tables within an actor
abbrev pub row_keys : RowsType → List KeyData
row_keys Rank = required (codes "kind") Always any_number ∷ required (codes "rank") Always any_number ∷ []
row_keys On = required (codes "kind") Always any_number ∷ required (codes "do") Always (Operations true) ∷ []
row_keys Strategy = required (codes "cause") Always Cause ∷ required (codes "then") Always (Word Directive) ∷ []

-- the words of each set
abbrev pub words : Words → List (List ℕ)
words Pool = codes "shared" ∷ codes "stealing" ∷ []
words Mailbox = codes "unbounded" ∷ codes "bounded" ∷ codes "priority" ∷ codes "control" ∷ []
words What = codes "user" ∷ codes "poison" ∷ codes "kill" ∷ codes "stop" ∷ codes "control" ∷ []
words Directive = codes "resume" ∷ codes "restart" ∷ codes "stop" ∷ codes "escalate" ∷ []
