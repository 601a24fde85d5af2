-- What a document that passes all checks sends (this project's own profile).
use Rattle.std.specs.Prelude.{ℕ, ℤ, pos, ◌+◌, List, codes, fold, max, if◌then◌else◌}
use Rattle.std.specs.Str.{bytes_eq}
use Rattle.toml.specs.Data.{Data}
use Rattle.mb_schema.specs.Context.{ActorEntryData}
use Rattle.mb_schema.specs.Value.{text_or}
use Rattle.mb_msg.specs.declared.order.OrderKind.{OrderKind}
use Rattle.mb_msg.specs.declared.order.OrderKind.TheVariants.{Tell, Stop}
use Rattle.mb_msg.specs.declared.order.SenderOrder.{SenderOrder}
use Rattle.mb_msg.specs.declared.payload.Payload.TheVariants.{User, Control, PoisonPill, Kill}
use Rattle.mb_scenario.specs.Fields.{field, id_of, integer_or, number_or}

-- what is sent by this word, with this kind and value
abbrev pub what_sent : List ℕ → ℕ → ℤ → OrderKind
what_sent word kind value =
    if bytes_eq word (codes "poison") then Tell PoisonPill
    else (if bytes_eq word (codes "kill") then Tell Kill
    else (if bytes_eq word (codes "stop") then Stop
    else (if bytes_eq word (codes "control") then Tell (Control kind value)
    else Tell (User kind value))))

-- the send that a table of `send` describes
abbrev pub send_of : List ActorEntryData → Data → SenderOrder
send_of actor_entries d = record {
  from = number_or 0 (field (codes "from") d);
  order = record {
    to = id_of actor_entries (text_or (codes "") (field (codes "to") d));
    what = what_sent (text_or (codes "user") (field (codes "what") d)) (number_or 0 (field (codes "kind") d)) (integer_or (pos 0) (field
        (codes "value") d));
    times = number_or 1 (field (codes "times") d);
  };
}

-- how many senders there are: one more than the greatest number of one that sends, none where nothing is sent
abbrev pub senders_of : List SenderOrder → ℕ
senders_of sends = fold (λ n (s : SenderOrder). max n (s.from + 1)) 0 sends
