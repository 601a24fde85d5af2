-- How many messages a list gives.
use Rattle.std.proofs.Common.{◌≡◌, ℕ, List, length}
use Rattle.mb_msg.specs.declared.system.SysMsg.{SysMsg}
use Rattle.mb_syslist.specs.MessageList.{numbered}
use Rattle.mb_syslist.proofs.NumberedLemmas.{length-numbered}

-- numbers leave as many
pub as_many_numbered : (number : ℕ) (messages : List SysMsg) → length (numbered number messages) ≡ length messages
as_many_numbered number messages = length-numbered number messages
