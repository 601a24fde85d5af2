-- The body of an envelope that a sender outside the actors sends (this project's own profile).
use Rattle.mb_msg.specs.declared.envelope.Body.{Body}
use Rattle.mb_msg.specs.declared.envelope.Body.TheVariants as body
use Rattle.mb_msg.specs.declared.payload.Payload.{Payload}
use Rattle.mb_msg.specs.declared.payload.Payload.TheVariants as payload

-- the body that carries this payload: the one of the same name, with the same kind and value
abbrev pub body_of : Payload → Body
body_of (payload.User kind value) = body.User kind value
body_of (payload.Control kind value) = body.Control kind value
body_of payload.PoisonPill = body.PoisonPill
body_of payload.Kill = body.Kill
