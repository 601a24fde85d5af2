-- What a typed actor got, with one message more.
use Rattle.std.proofs.Common.{◌≡◌, ◌∙◌, List, [], ◌∷◌, ◌++◌, ap}
use Rattle.std.specs.Prelude.{Option, None}
use Rattle.std.specs.List.{cons_option}
use Rattle.std.proofs.lemmas.List.Elements.{filter_map-append}
use Rattle.std.proofs.lemmas.List.{append-nil}
use Rattle.mb_actor.specs.declared.message.Message.{Message}
use Rattle.mb_typed.specs.Decoding.{all_decoded, decoded}
use Rattle.mb_typed.specs.declared.incoming.Incoming.{Incoming}
use Rattle.mb_typed.specs.declared.packed.Packed.{Packed}

module _ {C : Type 0} (unpacked : Packed → Option C) where
  pub all_decoded-more : (messages : List Message) (message : Message) (got : Option (Incoming C)) → decoded unpacked message ≡ got
      → all_decoded unpacked (messages ++ message ∷ []) ≡ all_decoded unpacked messages ++ cons_option got []
  all_decoded-more messages message got is =
      filter_map-append (decoded unpacked) messages (message ∷ [])
      ∙ ap (λ x. all_decoded unpacked messages ++ cons_option x []) is

  -- a message that is none of the commands adds nothing
  pub all_decoded-none : (messages : List Message) (message : Message) → decoded unpacked message ≡ None
      → all_decoded unpacked (messages ++ message ∷ []) ≡ all_decoded unpacked messages
  all_decoded-none messages message is = all_decoded-more messages message None is ∙ append-nil (all_decoded unpacked messages)
